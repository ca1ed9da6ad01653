use Rattle.std.proofs.Common.{◌≡◌, ℕ, length, drop, ap, ◌∙◌, rules}
use lib.Bits.{bit_xor}
use Rattle.std.proofs.lemmas.List.{take_rest}
use Rattle.block.specs.Bytes.{stored_at}
use Rattle.block.specs.BytesLaws.{bytes_from}
use Rattle.block.specs.Cut.{before, last_of, fill_with, zero_filled}
use Rattle.mode.specs.Sealing.{sealing}
use Rattle.mode.specs.Pairs.{maps}
use Rattle.mode.specs.Body.{BlocksDone}
use Rattle.mode.proofs.Bodies.{body_ends}
use Rattle.mode.proofs.pair.Keyed.cipher_body.Goals.{in-Forward, in-Dual}
use Rattle.mode.proofs.pair.Keyed.cipher_body.Goals as goal

pub returns : goal.returns
returns g c =
    let w = maps g.C.Cipher g.M.Masking c.args.self.now.pair.now in
    let t : BlocksDone (maps g.C.Cipher g.M.Masking c.args.self.now.pair.now) (sealing (maps g.C.Cipher g.M.Masking c.args.self.now.pair.now) c.args.mode) c.encrypt-gamma.result
    (before (length c.args.input.now)) c.args.input.now c.args.out.now c.match-mode.out c.match-mode.sums =
    elim c.match-mode.branch [
      | in-Forward b ↦ rw (b.out-is, b.sums-is, b.in-Forward.is) (b.cipher_blocks-sums.ensures w.forward (λ x y h p. search rules))
      | in-Dual b ↦ rw (b.out-is, b.sums-is, b.in-Dual.is) (b.cipher_blocks-sums-in-Dual.ensures w.backward (λ x y h p. search rules))
    ] in
    let last : c.fill.result ≡ zero_filled (last_of c.args.input.now) =
    c.fill.ensures ∙ ap (fill_with 0) (take_rest c.args.input.now c.of-cut.result.at ∙ ap (λ (m : ℕ). drop m c.args.input.now) c.of-cut.ensures.at) in
    body_ends w c.args.mode c.args.nonce c.args.self.now.delta_one c.encrypt-gamma.result c.of-cut.result.at c.args.input.now c.args.out.now c.match-mode.out c.store.new.bytes
    c.match-mode.sums c.step-mask.result c.encrypt-pad.result c.of-cut.result.bits
    (bytes_from c.args.input.now (λ i. search rules)) c.args.self.now.one c.encrypt-gamma.ensures c.requires t
    c.of-cut.ensures.at c.step-mask.ensures c.of-cut.ensures.bits c.encrypt-pad.ensures
    (c.store.ensures ∙ ap (λ (y : ℕ). stored_at c.of-cut.result.at (bit_xor y c.encrypt-pad.result) c.match-mode.out) last)
