use Rattle.std.proofs.Common.{◌≡◌, List, sym, refl, ap, ◌∙◌, subst, arith}
use Rattle.aes.specs.CipherLaws.{AllKeyBytes}
use Rattle.aes.specs.KeyExpansion.{round_keys, word_at}
use Rattle.aes.specs.RoundKeys.{cells_of}
use Rattle.aes.specs.State.{State}
use Rattle.aes.proofs.Words.{Expanding, expanding_none, expanding_more, expanding_all, round_keys_bytes, round_key_words}
use Rattle.aes.proofs.expansion.expand.Goals as goal

pub loop-round_key-init : goal.loop-round_key-init
loop-round_key-init c = expanding_none c.from-next.result.cells _ refl

pub loop-round_key-preserved : goal.loop-round_key-preserved
loop-round_key-preserved c =
    expanding_more c.from-next.result.cells c.next_key-next.result.cells c.loop-round_key.round_key-index c.loop-round_key.constant
    c.times_x-constant.result c.loop-round_key.round_key-items c.loop-round_key.next
    (omega arith) c.next_key-next.ensures c.times_x-constant.ensures c.loop-round_key.invariant

pub returns : goal.returns
returns c =
    let e : c.loop-round_key.round_key-index ≡ 11 = omega arith in
    let k : cells_of c.loop-round_key.round_key-items ≡ round_keys c.args.key =
    expanding_all c.args.key c.loop-round_key.round_key-index c.loop-round_key.constant c.loop-round_key.next.cells c.loop-round_key.round_key-items e
    (subst (λ (s : State). Expanding s c.loop-round_key.round_key-index c.loop-round_key.constant c.loop-round_key.next.cells c.loop-round_key.round_key-items)
    c.from-next.ensures.rows c.loop-round_key.invariant) in
    record {
      keys = k;
      words = λ i h. ap (λ (ks : List State). word_at ks i) k ∙ round_key_words c.args.key i h;
      bytes = subst AllKeyBytes (sym k) (round_keys_bytes c.args.key c.from-next.ensures.bytes);
    }
