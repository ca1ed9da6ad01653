use Rattle.std.proofs.Common.{◌≡◌, ℕ, refl, ap, ◌∙◌, arith}
use Rattle.aes.specs.Cipher.{up_to}
use Rattle.aes.specs.RoundKeys.{cells_of}
use Rattle.aes.proofs.Rounds.{inner_round, last_round_lem, up_none, up_more, up_all, key_is, inner_key}
use Rattle.aes.proofs.Aes128.enciphered.Goals as goal

pub loop-key-init : goal.loop-key-init
loop-key-init c = up_none (cells_of c.args.self.now.keys) c.add_round_key-s.result.cells

pub loop-key-preserved : goal.loop-key-preserved
loop-key-preserved c =
    up_more (cells_of c.args.self.now.keys) c.loop-key.key-index c.add_round_key-s.result.cells c.loop-key.s.cells c.add_round_key-s-in-loop-key.result.cells
    (inner_round _ c.loop-key.s.cells c.sub_bytes.result.cells c.shift_rows.result.cells _ c.add_round_key-s-in-loop-key.result.cells c.mix_columns.result.cells
    c.sub_bytes.ensures c.shift_rows.ensures c.mix_columns.ensures
    (inner_key c.args.self.now.keys c.loop-key.key-index _ (omega arith) (omega arith)) c.add_round_key-s-in-loop-key.ensures)
    c.loop-key.invariant

pub returns : goal.returns
returns c =
    let nine : c.loop-key.key-index ≡ 9 = omega arith in
    up_all (cells_of c.args.self.now.keys) c.args.start.cells _ _ c.add_round_key-s.result.cells c.add_round_key.result.cells c.loop-key.s.cells
    (key_is c.args.self.now.keys 0 _ (omega arith)) (key_is c.args.self.now.keys 10 _ (omega arith)) c.add_round_key-s.ensures
    (c.loop-key.invariant ∙ ap (λ (n : ℕ). up_to (cells_of c.args.self.now.keys) n c.add_round_key-s.result.cells) nine)
    (last_round_lem _ c.loop-key.s.cells c.sub_bytes-2.result.cells c.shift_rows-2.result.cells _ c.add_round_key.result.cells
    c.sub_bytes-2.ensures c.shift_rows-2.ensures refl c.add_round_key.ensures)
