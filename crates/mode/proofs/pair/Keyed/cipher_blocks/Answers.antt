use Rattle.std.proofs.Common.{◌≡◌, ℕ, length, subst, arith}
use Rattle.std.proofs.lemmas.Nat.{xor_lt}
use Rattle.block.specs.Cut.{before}
use Rattle.mode.specs.Pairs.{maps}
use Rattle.mode.specs.Body.{BlocksDone}
use Rattle.mode.proofs.Bodies.{body_none, body_again}
use Rattle.mode.proofs.pair.Keyed.cipher_blocks.Goals as goal

pub loop-i-init : goal.loop-i-init
loop-i-init g c e h = body_none (maps g.C.Cipher g.M.Masking c.args.self.now.pair.now) e c.args.first c.args.input.now c.args.out.now

pub loop-i-preserved : goal.loop-i-preserved
loop-i-preserved g c e h =
    body_again (maps g.C.Cipher g.M.Masking c.args.self.now.pair.now) e c.args.first c.loop-i.i c.args.input.now c.args.out.now
    c.loop-i.out c.store.new.bytes c.loop-i.sums c.load-x.result c.map.result c.step-mask.result
    (c.loop-i.invariant e h) c.step-mask.ensures c.load-x.ensures (h _ _ (xor_lt 128 c.load-x.result c.step-mask.result c.load-x.type_inv c.step-mask.type_inv) c.map.ensures) (omega arith) c.store.ensures

pub returns : goal.returns
returns g c e h =
    let i : c.loop-i.i ≡ before (length c.args.input.now) = omega arith in
    let P : ℕ → Type 0 = λ n. BlocksDone (maps g.C.Cipher g.M.Masking c.args.self.now.pair.now) e c.args.first n c.args.input.now c.args.out.now c.loop-i.out c.loop-i.sums in
    subst P i (c.loop-i.invariant e h)
