use Rattle.std.proofs.Common.{refl, arith}
use Rattle.aes.proofs.Rounds.{inv_inner_round, inv_last_round_lem, deciphering_more, deciphering_all, key_is}
use Rattle.aes.proofs.Aes128.deciphered.Goals as goal

pub loop-key-preserved : goal.loop-key-preserved
loop-key-preserved c =
    deciphering_more c.args.self.now.keys c.loop-key.key-iterator.iter.rest.now c.next.new.self.iter.rest.now c.in-Some.key.now
    c.add_round_key-s.result.cells c.loop-key.s.cells c.inv_mix_columns-s.result.cells (omega arith) c.in-Some.ensures.steps
    (inv_inner_round c.in-Some.key.now.cells c.loop-key.s.cells c.inv_sub_bytes.result.cells c.inv_shift_rows.result.cells c.in-Some.key.now.cells
    c.inv_mix_columns-s.result.cells c.add_round_key.result.cells
    c.inv_shift_rows.ensures c.inv_sub_bytes.ensures refl c.add_round_key.ensures c.inv_mix_columns-s.ensures)
    c.loop-key.invariant

pub returns : goal.returns
returns c =
    deciphering_all c.args.self.now.keys c.loop-key.key-iterator.iter.rest.now c.args.end.cells _ _
    c.add_round_key-s.result.cells c.add_round_key-2.result.cells c.loop-key.s.cells
    c.in-None.ensures.steps.0 (key_is c.args.self.now.keys 0 _ (omega arith)) (key_is c.args.self.now.keys 10 _ (omega arith)) c.add_round_key-s.ensures
    (inv_last_round_lem _ c.loop-key.s.cells c.inv_sub_bytes-2.result.cells c.inv_shift_rows-2.result.cells _ c.add_round_key-2.result.cells
    c.inv_shift_rows-2.ensures c.inv_sub_bytes-2.ensures refl c.add_round_key-2.ensures)
    c.loop-key.invariant
