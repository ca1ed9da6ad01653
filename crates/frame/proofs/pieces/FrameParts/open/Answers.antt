use Rattle.std.proofs.Common.{arith}
use Rattle.mode.specs.Pairs.{maps}
use Rattle.frame.proofs.Opening.{parts_opened}
use Rattle.frame.proofs.pieces.FrameParts.open.Goals as goal

pub returns : goal.returns
returns g c =
    parts_opened (maps g.C.Cipher g.M.Masking c.args.pair.now) c.args.self c.args.out.now c.open.new.out
    c.load-nonce.result c.load-tag.result (omega arith) c.load-nonce.ensures c.load-tag.ensures c.in_ok-open.ensures.1
