use Rattle.std.proofs.Common.{◌≡◌, ◌^◌, ◌<◌, take}
use Rattle.block.specs.Bytes.{number_of}
use Rattle.frame.proofs.pieces.number.Given as goal

abbrev pub invariant-loop-byte : goal.invariant-loop-byte
invariant-loop-byte l = (l.all ≡ number_of (take l.byte-index l.bytes)) × (l.all < 256 ^ l.byte-index)
