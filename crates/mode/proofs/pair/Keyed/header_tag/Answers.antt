use Rattle.std.proofs.Common.{◌≡◌, ℕ, ◌+◌, ◌*◌, ◌/◌, length, take, drop, ap, ◌∙◌, arith, rules}
use Rattle.block.specs.Bytes.{block_at}
use Rattle.block.specs.Cut.{before, sum_of}
use Rattle.masking.specs.Steps.{times}
use Rattle.mode.specs.Sealing.{header_block}
use Rattle.mode.specs.Pairs.{maps}
use Rattle.mode.proofs.Loops.{sum_none, times_none, times_again, chunk_at}
use Rattle.mode.proofs.Headers.{kappa_is, header_again, no_header, header_ends}
use Rattle.mode.proofs.pair.Keyed.header_tag.Goals as goal

pub returns-then-is_empty : goal.returns-then-is_empty
returns-then-is_empty g c = no_header (maps g.C.Cipher g.M.Masking c.args.self.now.pair.now) c.args.header.now (search rules)

pub loop-block-init : goal.loop-block-init
loop-block-init g c =
    record {
      mask_is = times_none (g.M.Masking.onward c.args.self.now.pair.now.masking) c.encrypt-kappa.result;
      sum_is = sum_none (header_block (maps g.C.Cipher g.M.Masking c.args.self.now.pair.now)) c.args.header.now;
    }

pub loop-block-preserved : goal.loop-block-preserved
loop-block-preserved g c =
    let w = maps g.C.Cipher g.M.Masking c.args.self.now.pair.now in
    let m : c.step-mask.result ≡ times (g.M.Masking.onward c.args.self.now.pair.now.masking) (c.loop-block.block-index + 1) c.encrypt-kappa.result =
    times_again (g.M.Masking.onward c.args.self.now.pair.now.masking) c.loop-block.block-index c.encrypt-kappa.result c.loop-block.mask c.step-mask.result c.loop-block.invariant.mask_is c.step-mask.ensures in
    let k = kappa_is w c.args.self.now.delta_zero c.encrypt-kappa.result c.args.self.now.zero c.encrypt-kappa.ensures in
    let front = c.split_at.ensures.front ∙ ap (λ (m : ℕ). take m c.args.header.now) c.of-cut.ensures.at in
    let x : c.load.result ≡ block_at (16 * c.loop-block.block-index) c.args.header.now =
    c.load.ensures
    ∙ chunk_at (before (length c.args.header.now)) (length c.split_at.result.0.now / 16) c.loop-block.block-index c.args.header.now c.split_at.result.0.now c.as_chunks.result.0.now
    front c.as_chunks.ensures.front (omega arith) (omega arith) in
    record {
      mask_is = m;
      sum_is = header_again w c.loop-block.block-index c.loop-block.sum c.encrypt-kappa.result c.load.result c.step-mask.result c.encrypt-sum.result c.args.header.now
          c.loop-block.invariant.sum_is k m x c.encrypt-sum.ensures;
    }

pub closing-closing-requires-clause-kappa : goal.closing-closing-requires-clause-kappa
closing-closing-requires-clause-kappa g c =
    kappa_is (maps g.C.Cipher g.M.Masking c.args.self.now.pair.now) c.args.self.now.delta_zero c.encrypt-kappa.result c.args.self.now.zero c.encrypt-kappa.ensures

pub returns : goal.returns
returns g c =
    let w = maps g.C.Cipher g.M.Masking c.args.self.now.pair.now in
    let n : c.loop-block.block-index ≡ c.of-cut.result.before = omega arith in
    let at : c.of-cut.result.at ≡ 16 * c.of-cut.result.before = omega arith in
    header_ends w c.args.header.now c.split_at.result.1.now c.of-cut.result.before c.loop-block.sum c.fill.result c.closing-closing.result c.encrypt.result
    (search rules) c.of-cut.ensures.before (c.split_at.ensures.back ∙ ap (λ (m : ℕ). drop m c.args.header.now) at)
    (c.loop-block.invariant.sum_is ∙ ap (λ (k : ℕ). sum_of (header_block w) k c.args.header.now) n)
    c.fill.ensures c.closing-closing.ensures c.encrypt.ensures
