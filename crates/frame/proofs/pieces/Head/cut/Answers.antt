use Rattle.std.proofs.Common.{◌≡◌, ℕ, ◌-◌, List, length, take, drop, refl, ◌∙◌, ap₂, arith, rules}
use Rattle.block.specs.BytesLaws.{bytes_from}
use Rattle.frame.specs.Fields.{clear_length, sealed_length, sealed_start, tag_start}
use Rattle.frame.proofs.pieces.Head.cut.Goals as goal

part : (f : List ℕ) (a b m n : ℕ) → a ≡ b → m ≡ n → take m (drop a f) ≡ take n (drop b f)
part f a b m n p q = ap₂ (λ (x y : ℕ). take y (drop x f)) p q

pub returns : goal.returns
returns c =
    let all = c.requires.fields in
    let s : c.number-sealed_at.result ≡ sealed_start c.args.self.frame.now = c.number-sealed_at.ensures in
    let t : c.tag_at-tag_at.result ≡ tag_start c.args.self.frame.now = c.tag_at-tag_at.ensures in
    let s' = all.0.0.0.0.1 in
    let t' = all.0.0.0.1 in
    let e = c.requires.whole in
    record {
      form = record {
        bytes = bytes_from c.args.self.frame.now (λ i. search rules);
        long = c.args.self.long;
        mode = c.args.mode;
        mode_is = c.requires.known;
        fields = all;
        whole = c.requires.whole;
      };
      mode_is = refl;
      sender_is = refl;
      number_is = c.number.ensures;
      header_is = part c.args.self.frame.now 0 0 (c.number-sealed_at.result - 0) (sealed_start c.args.self.frame.now) refl (omega arith);
      clear_at = c.piece_of.ensures.place;
      clear_is = c.piece_of.ensures.bytes ∙ part c.args.self.frame.now 32 32 (c.number-sealed_at.result - 32) (clear_length c.args.self.frame.now) refl (omega arith);
      sealed_at = c.piece_of-2.ensures.place ∙ s;
      sealed_is =
          c.piece_of-2.ensures.bytes
          ∙ part c.args.self.frame.now c.number-sealed_at.result (sealed_start c.args.self.frame.now) (c.tag_at-tag_at.result - c.number-sealed_at.result) (sealed_length c.args.self.frame.now) s (omega arith);
      tag_at = c.piece_of-3.ensures.place ∙ t;
      tag_is =
          c.piece_of-3.ensures.bytes
          ∙ part c.args.self.frame.now c.tag_at-tag_at.result (tag_start c.args.self.frame.now) (length c.args.self.frame.now - c.tag_at-tag_at.result) 16 t (omega arith);
    }
