use Rattle.std.proofs.Common.{◌≤◌, length, ap, ◌∙◌, arith}
use Rattle.std.proofs.lemmas.List.{take_all}
use Rattle.block.specs.Bytes.{number_of}
use Rattle.frame.proofs.Reading.{number_more, number_small, number_grows}
use Rattle.frame.proofs.pieces.number.Goals as goal

pub overflow_mul-all : goal.overflow_mul-all
overflow_mul-all c = let s = number_small c.loop-byte.byte-index c.loop-byte.all (omega arith) c.loop-byte.invariant.1 in omega arith

pub overflow_add-all : goal.overflow_add-all
overflow_add-all c = let s = number_small c.loop-byte.byte-index c.loop-byte.all (omega arith) c.loop-byte.invariant.1 in omega arith

pub loop-byte-preserved : goal.loop-byte-preserved
loop-byte-preserved c = (
  number_more c.loop-byte.byte-index c.loop-byte.all c.args.bytes.now (omega arith) c.loop-byte.invariant.0,
  number_grows c.loop-byte.byte-index c.loop-byte.all _ (omega arith) c.loop-byte.invariant.1,
)

pub returns : goal.returns
returns c =
    let h : length c.args.bytes.now ≤ c.loop-byte.byte-index = omega arith in
    c.loop-byte.invariant.0 ∙ ap number_of (take_all c.loop-byte.byte-index c.args.bytes.now h)
