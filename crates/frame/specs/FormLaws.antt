-- What follows from the definition of a frame: a sealed frame is read back, no other message seals to it, and none to its neighbours.
use Rattle.std.specs.Prelude.{◌≡◌, ℕ, ◌+◌, ◌*◌, ◌%◌, ◌^◌, ◌<◌, ◌≤◌, min, ◌≢◌, List, ◌∷◌, ◌++◌, length, take, drop, replicate}
use Rattle.std.proofs.Math.Path.{refl}
use Rattle.std.proofs.Common.{sym, ap, ap₂, subst, ◌∙◌, append_assoc, zero-add, mod-eq_of_lt, arith, length-append, take-add, get_or-take}
use Rattle.std.proofs.lemmas.List.{take_at, drop_at, take_all, take-take, drop-drop, drop-take, length-take-le, take-append-le}
use Rattle.block.specs.Bytes.{Bytes, more, bytes_of, number_of, block_at}
use Rattle.block.specs.BytesLaws.{length_bytes, read_bytes, number_bytes, bytes_of_lem, bytes_append, bytes_replicate, bytes_take, bytes_drop, block_fits}
use Rattle.block.specs.Cut.{OneBlock}
use Rattle.block.specs.CutLaws.{one_block_after, numbers_tell}
use Rattle.mode.specs.declared.value.Mode.{Mode}
use Rattle.mode.specs.declared.value.Mode.TheVariants.{Forward, Dual}
use Rattle.mode.specs.Values.{mode_value}
use Rattle.mode.specs.Sealing.{Maps, Lawful, Seals, sealed_bytes, tag_of, Apart, in_header, in_sealed, in_tag}
use Rattle.mode.specs.SealingLaws.{length_sealed, bytes_sealed, tag_fits, at_most_one, never_both}
use Rattle.frame.specs.Fields.{mode_byte, clear_length, sealed_length, sealed_start, tag_start, sender_of, frame_number, AllHold}
use Rattle.frame.specs.Form.{head_of, frame_of, header_of, clear_part, sealed_part, tag_part, nonce_of, WellFormed, SealsTo, Part, Clear, Sealed, Tag, part_start, part_end, Neighbours}
use Rattle.frame.specs.ListLaws.{number_shared, same_front, same_rest, part_apart}

-- a mode's number tells it
pub modes_same : (a b : Mode) → mode_value a ≡ mode_value b → a ≡ b
modes_same Forward Forward e = refl
modes_same Forward Dual e = absurd (omega arith)
modes_same Dual Forward e = absurd (omega arith)
modes_same Dual Dual e = refl

-- at most one message seals to given bytes
pub only_one : (w : Maps) → Lawful w → (f message other : List ℕ) → SealsTo w message f → SealsTo w other f → message ≡ other
only_one w laws f message other s t =
    let m : t.form.mode ≡ s.form.mode = modes_same t.form.mode s.form.mode (sym t.form.mode_is ∙ s.form.mode_is) in
    at_most_one w laws (nonce_of f) (block_fits 16 f s.form.bytes) s.form.mode (header_of f) (number_of (tag_part f)) (sealed_part f) message other s.seals
    (subst (λ (x : Mode). Seals w x (nonce_of f) (header_of f) other (sealed_part f) (number_of (tag_part f))) m t.seals)

-- neighbours

-- what two strings have for header, sealed part and tag, with a clear part of c and a sealed part of p bytes, differs inside just one block
abbrev Differ : (c p : ℕ) (f g : List ℕ) → Type 0
Differ c p f g =
    Apart (take (32 + c) f) (take p (drop (32 + c) f)) (number_of (take 16 (drop (32 + c + p) f)))
    (take (32 + c) g) (take p (drop (32 + c) g)) (number_of (take 16 (drop (32 + c + p) g)))

moved : (header sealed h k s t : List ℕ) (tag m n : ℕ) → h ≡ k → s ≡ t → m ≡ n → Apart header sealed tag h s m → Apart header sealed tag k t n
moved header sealed h k s t tag m n e f g a =
    subst (λ (x : ℕ). Apart header sealed tag k t x) g
    (subst (λ (v : List ℕ). Apart header sealed tag k v m) f (subst (λ (v : List ℕ). Apart header sealed tag v s m) e a))

module _ (f g : List ℕ) (c p : ℕ) (hf : Bytes f) (hg : Bytes g) (long : length f ≡ length g) (whole : length f ≡ 32 + c + p + 16) (unequal : f ≢ g) where
  in_clear : (k : ℕ) → take (32 + 16 * k) f ≡ take (32 + 16 * k) g → drop (min (32 + 16 * k + 16) (32 + c)) f ≡ drop (min (32 + 16 * k + 16) (32 + c)) g → Differ c p f g
  in_clear k front rest =
      let o : OneBlock (take c (drop 32 f)) (take c (drop 32 g)) = part_apart f g 32 c k long (omega arith) front rest unequal in
      let head : take 32 f ≡ take 32 g = same_front f g 32 c k long (omega arith) front rest in
      let tail : drop (32 + c) f ≡ drop (32 + c) g = same_rest f g 32 c k long (omega arith) front rest in
      let l : length (take 32 f) ≡ 16 * 2 = length-take-le 32 f (omega arith) in
      let after : OneBlock (take 32 f ++ take c (drop 32 f)) (take 32 f ++ take c (drop 32 g)) =
      one_block_after 2 (take 32 f) (take c (drop 32 f)) (take c (drop 32 g)) l o in
      let og : take 32 f ++ take c (drop 32 g) ≡ take (32 + c) g = ap (λ (v : List ℕ). v ++ take c (drop 32 g)) head ∙ sym (take-add 32 c g) in
      let headers : OneBlock (take (32 + c) f) (take (32 + c) g) =
      subst (λ (v : List ℕ). OneBlock (take (32 + c) f) v) og
      (subst (λ (v : List ℕ). OneBlock v (take 32 f ++ take c (drop 32 g))) (sym (take-add 32 c f)) after) in
      let tags : drop (32 + c + p) f ≡ drop (32 + c + p) g = sym (drop-drop p (32 + c) f) ∙ ap (drop p) tail ∙ drop-drop p (32 + c) g in
      moved (take (32 + c) f) (take p (drop (32 + c) f)) (take (32 + c) g) (take (32 + c) g) (take p (drop (32 + c) f)) (take p (drop (32 + c) g))
      (number_of (take 16 (drop (32 + c + p) f))) (number_of (take 16 (drop (32 + c + p) f))) (number_of (take 16 (drop (32 + c + p) g)))
      refl (ap (take p) tail) (ap (λ (v : List ℕ). number_of (take 16 v)) tags) (in_header headers)

  in_body : (k : ℕ) → take (32 + c + 16 * k) f ≡ take (32 + c + 16 * k) g → drop (min (32 + c + 16 * k + 16) (32 + c + p)) f ≡ drop (min (32 + c + 16 * k + 16) (32 + c + p)) g → Differ c p f g
  in_body k front rest =
      moved (take (32 + c) f) (take p (drop (32 + c) f)) (take (32 + c) f) (take (32 + c) g) (take p (drop (32 + c) g)) (take p (drop (32 + c) g))
      (number_of (take 16 (drop (32 + c + p) f))) (number_of (take 16 (drop (32 + c + p) f))) (number_of (take 16 (drop (32 + c + p) g)))
      (same_front f g (32 + c) p k long (omega arith) front rest) refl
      (ap (λ (v : List ℕ). number_of (take 16 v)) (same_rest f g (32 + c) p k long (omega arith) front rest))
      (in_sealed (part_apart f g (32 + c) p k long (omega arith) front rest unequal))

  in_end : (k : ℕ) → take (32 + c + p + 16 * k) f ≡ take (32 + c + p + 16 * k) g
      → drop (min (32 + c + p + 16 * k + 16) (32 + c + p + 16)) f ≡ drop (min (32 + c + p + 16 * k + 16) (32 + c + p + 16)) g → Differ c p f g
  in_end k front rest =
      let o : OneBlock (take 16 (drop (32 + c + p) f)) (take 16 (drop (32 + c + p) g)) = part_apart f g (32 + c + p) 16 k long (omega arith) front rest unequal in
      let before : take (32 + c + p) f ≡ take (32 + c + p) g = same_front f g (32 + c + p) 16 k long (omega arith) front rest in
      let headers : take (32 + c) f ≡ take (32 + c) g =
      sym (take-take (32 + c) (32 + c + p) f (omega arith)) ∙ ap (take (32 + c)) before ∙ take-take (32 + c) (32 + c + p) g (omega arith) in
      let sealed : take p (drop (32 + c) f) ≡ take p (drop (32 + c) g) =
      sym (drop-take (32 + c) p f) ∙ ap (drop (32 + c)) before ∙ drop-take (32 + c) p g in
      let bytes : (v : List ℕ) → Bytes v → Bytes (take 16 (drop (32 + c + p) v)) =
      λ v h. bytes_take 16 (drop (32 + c + p) v) (bytes_drop (32 + c + p) v h) in
      moved (take (32 + c) f) (take p (drop (32 + c) f)) (take (32 + c) f) (take (32 + c) g) (take p (drop (32 + c) f)) (take p (drop (32 + c) g))
      (number_of (take 16 (drop (32 + c + p) f))) (number_of (take 16 (drop (32 + c + p) g))) (number_of (take 16 (drop (32 + c + p) g)))
      headers sealed refl (in_tag (numbers_tell (take 16 (drop (32 + c + p) f)) (take 16 (drop (32 + c + p) g)) (bytes f hf) (bytes g hg) o))

  differ : (part : Part) (k : ℕ) → sealed_start f ≡ 32 + c → tag_start f ≡ 32 + c + p
      → take (part_start part f + 16 * k) f ≡ take (part_start part f + 16 * k) g
      → drop (min (part_start part f + 16 * k + 16) (part_end part f)) f ≡ drop (min (part_start part f + 16 * k + 16) (part_end part f)) g → Differ c p f g
  differ Clear k s t front rest = in_clear k front (rw s at rest)
  differ Sealed k s t front rest = in_body k (rw s at front) (rw (s, t) at rest)
  differ Tag k s t front rest = in_end k (rw t at front) (rw t at rest)

-- the head stands before every part
past_head : (f : List ℕ) → WellFormed f → (part : Part) → 32 ≤ part_start part f
past_head f form Clear = omega arith
past_head f form Sealed = let s = form.fields.0.0.0.0.1 in omega arith
past_head f form Tag = let t = form.fields.0.0.0.1 in omega arith

-- no message seals to a frame that differs inside just one block of one part from one that a message seals to
pub never_neighbours : (w : Maps) → Lawful w → (f g message other : List ℕ) → Neighbours f g → SealsTo w message f → SealsTo w other g → ⊥
never_neighbours w laws f g message other n s t =
    let past : 32 ≤ part_start n.part f = past_head f s.form n.part in
    let far : 32 ≤ part_start n.part f + 16 * n.block = omega arith in
    let head : take 32 f ≡ take 32 g =
    sym (take-take 32 (part_start n.part f + 16 * n.block) f far) ∙ ap (take 32) n.front ∙ take-take 32 (part_start n.part f + 16 * n.block) g far in
    let starts : sealed_start f ≡ sealed_start g = number_shared 2 8 32 f g (omega arith) head in
    let tags : tag_start f ≡ tag_start g = number_shared 2 10 32 f g (omega arith) head in
    let sizes : sealed_length f ≡ sealed_length g = number_shared 2 4 32 f g (omega arith) head in
    let nonces : nonce_of f ≡ nonce_of g = number_shared 16 16 32 f g (omega arith) head in
    let bytes : mode_byte f ≡ mode_byte g = sym (get_or-take 32 f 0 0 (omega arith)) ∙ ap mode_byte head ∙ get_or-take 32 g 0 0 (omega arith) in
    let modes : t.form.mode ≡ s.form.mode = modes_same t.form.mode s.form.mode (sym t.form.mode_is ∙ sym bytes ∙ s.form.mode_is) in
    let at : sealed_start f ≡ 32 + clear_length f = s.form.fields.0.0.0.0.1 in
    let end : tag_start f ≡ 32 + clear_length f + sealed_length f = s.form.fields.0.0.0.1 in
    let x = s.seals.sealed_is in
    let y = s.seals.tag_is in
    let x' = t.seals.sealed_is in
    let y' = t.seals.tag_is in
    never_both w laws (nonce_of f) (block_fits 16 f s.form.bytes) s.form.mode (take (32 + clear_length f) f) (take (32 + clear_length f) g)
    (take (sealed_length f) (drop (32 + clear_length f) f)) (take (sealed_length f) (drop (32 + clear_length f) g))
    (number_of (take 16 (drop (32 + clear_length f + sealed_length f) f))) (number_of (take 16 (drop (32 + clear_length f + sealed_length f) g)))
    (bytes_take (32 + clear_length f) f s.form.bytes) (bytes_take (32 + clear_length f) g t.form.bytes)
    (differ f g (clear_length f) (sealed_length f) s.form.bytes t.form.bytes n.long (s.form.whole ∙ ap (λ (m : ℕ). m + 16) end) n.unequal
    n.part n.block at end n.front n.rest)
    message other
    (record { bytes = s.seals.bytes; sealed_is = cc; tag_is = cc })
    (record { bytes = t.seals.bytes; sealed_is = cc; tag_is = cc })

-- the frame that a message is sealed into

pub length_head : (mode : Mode) (h p sender number : ℕ) → length (head_of mode h p sender number) ≡ 32
unfolding head_of bytes_of
length_head mode h p sender number = refl

length_header : (mode : Mode) (h p sender number : ℕ) (clear : List ℕ) → length (head_of mode h p sender number ++ clear) ≡ 32 + length clear
length_header mode h p sender number clear =
    length-append (head_of mode h p sender number) clear ∙ ap (λ (n : ℕ). n + length clear) (length_head mode h p sender number)

mode_fits : (mode : Mode) → mode_value mode < 256
mode_fits Forward = omega arith
mode_fits Dual = omega arith

bytes_first : (n x : ℕ) (rest : List ℕ) → Bytes rest → Bytes (bytes_of n x ++ rest)
bytes_first n x rest h = bytes_append (bytes_of n x) rest (bytes_of_lem n x) h

zeros_first : (n : ℕ) (rest : List ℕ) → Bytes rest → Bytes (replicate n 0 ++ rest)
zeros_first n rest h = bytes_append (replicate n 0) rest (bytes_replicate n 0 (omega arith)) h

bytes_head : (mode : Mode) (h p sender number : ℕ) → sender < 256 → Bytes (head_of mode h p sender number)
unfolding head_of
bytes_head mode h p sender number s =
    let last : Bytes (sender ∷ (replicate 7 0 ++ (replicate 2 0 ++ bytes_of 6 number))) = more s (zeros_first 7 _ (zeros_first 2 _ (bytes_of_lem 6 number))) in
    more (mode_fits mode)
    (zeros_first 1 _ (bytes_first 2 h _ (bytes_first 2 p _ (bytes_first 2 32 _ (bytes_first 2 (32 + h) _ (bytes_first 2 (32 + h + p) _ (zeros_first 4 _ last)))))))

-- what a head says, in front of any bytes
module _ (mode : Mode) (h p sender number : ℕ) (clear rest : List ℕ) where
  clear_length_lem : h ≤ 1024 → clear_length ((head_of mode h p sender number ++ clear) ++ rest) ≡ h
  unfolding head_of bytes_of
  clear_length_lem l = number_bytes 2 h (omega arith)

  sealed_length_lem : p ≤ 1024 → sealed_length ((head_of mode h p sender number ++ clear) ++ rest) ≡ p
  unfolding head_of bytes_of
  sealed_length_lem l = number_bytes 2 p (omega arith)

  sealed_start_lem : h ≤ 1024 → sealed_start ((head_of mode h p sender number ++ clear) ++ rest) ≡ 32 + h
  unfolding head_of bytes_of
  sealed_start_lem l = number_bytes 2 (32 + h) (omega arith)

  tag_start_lem : h ≤ 1024 → p ≤ 1024 → tag_start ((head_of mode h p sender number ++ clear) ++ rest) ≡ 32 + h + p
  unfolding head_of bytes_of
  tag_start_lem l m = number_bytes 2 (32 + h + p) (omega arith)

  mode_first : mode_byte ((head_of mode h p sender number ++ clear) ++ rest) ≡ mode_value mode
  unfolding head_of bytes_of
  mode_first = refl

  all_hold : h ≤ 1024 → p ≤ 1024 → AllHold ((head_of mode h p sender number ++ clear) ++ rest)
  unfolding head_of bytes_of
  all_hold l m =
      let a = clear_length_lem l in
      let b = sealed_length_lem m in
      let c = sealed_start_lem l in
      let d = tag_start_lem l m in
      ((((((((refl, (omega arith)), (omega arith)), refl), (omega arith)), (omega arith)), refl), refl), refl)

pub frame_length : (w : Maps) (mode : Mode) (sender number : ℕ) (clear message : List ℕ) → length (frame_of w mode sender number clear message) ≡ 48 + length clear + length message
unfolding frame_of
frame_length w mode sender number clear message =
    let header : List ℕ = head_of mode (length clear) (length message) sender number ++ clear in
    let sealed : List ℕ = sealed_bytes w mode (block_at 16 header) message in
    let tag : List ℕ = bytes_of 16 (tag_of w (block_at 16 header) header message) in
    let a = length-append header (sealed ++ tag) in
    let b = length-append sealed tag in
    let c = length_header mode (length clear) (length message) sender number clear in
    let d = length_sealed w mode (block_at 16 header) message in
    let e = length_bytes 16 (tag_of w (block_at 16 header) header message) in
    omega arith

-- of a number a frame holds the low 48 bits
pub frame_number_low : (w : Maps) (mode : Mode) (sender number : ℕ) (clear message : List ℕ) → frame_number (frame_of w mode sender number clear message) ≡ number % 2 ^ 48
unfolding frame_of head_of bytes_of
frame_number_low w mode sender number clear message = read_bytes 6 0 number ∙ zero-add (number % 2 ^ 48)

pub frame_number_lem : (w : Maps) (mode : Mode) (sender number : ℕ) (clear message : List ℕ) → number < 2 ^ 48 → frame_number (frame_of w mode sender number clear message) ≡ number
frame_number_lem w mode sender number clear message h = frame_number_low w mode sender number clear message ∙ mod-eq_of_lt h

pub frame_sender : (w : Maps) (mode : Mode) (sender number : ℕ) (clear message : List ℕ) → sender_of (frame_of w mode sender number clear message) ≡ sender
unfolding frame_of head_of bytes_of
frame_sender w mode sender number clear message = refl

pub frame_clear : (w : Maps) (mode : Mode) (sender number : ℕ) (clear message : List ℕ) → length clear ≤ 1024 → clear_part (frame_of w mode sender number clear message) ≡ clear
unfolding frame_of
frame_clear w mode sender number clear message l =
    let head : List ℕ = head_of mode (length clear) (length message) sender number in
    let header : List ℕ = head ++ clear in
    let rest : List ℕ = sealed_bytes w mode (block_at 16 header) message ++ bytes_of 16 (tag_of w (block_at 16 header) header message) in
    ap₂ (λ (n : ℕ) (v : List ℕ). take n (drop 32 v)) (clear_length_lem mode (length clear) (length message) sender number clear rest l) (append_assoc head clear rest)
    ∙ ap (take (length clear)) (drop_at head (clear ++ rest) 32 (length_head mode (length clear) (length message) sender number))
    ∙ take_at clear rest (length clear) refl

-- the nonce lies in the header
pub nonce_first : (header rest : List ℕ) → 32 ≤ length header → block_at 16 (header ++ rest) ≡ block_at 16 header
nonce_first header rest h =
    ap number_of (sym (drop-take 16 16 (header ++ rest)) ∙ ap (drop 16) (take-append-le 32 header rest h) ∙ drop-take 16 16 header)

-- a message seals to the frame that it is sealed into
pub frame_seals : (w : Maps) → Lawful w → (mode : Mode) (sender number : ℕ) (clear message : List ℕ) → sender < 256 → Bytes clear → Bytes message
    → length clear ≤ 1024 → length message ≤ 1024 → SealsTo w message (frame_of w mode sender number clear message)
unfolding frame_of
frame_seals w laws mode sender number clear message hs hc hm lc lm =
    let header : List ℕ = head_of mode (length clear) (length message) sender number ++ clear in
    let nonce : ℕ = block_at 16 header in
    let sealed : List ℕ = sealed_bytes w mode nonce message in
    let tag : ℕ = tag_of w nonce header message in
    let rest : List ℕ = sealed ++ bytes_of 16 tag in
    let hb : Bytes header = bytes_append (head_of mode (length clear) (length message) sender number) clear (bytes_head mode (length clear) (length message) sender number hs) hc in
    let nf : nonce < 2 ^ 128 = block_fits 16 header hb in
    let sb : Bytes sealed = bytes_sealed w laws nonce nf mode header message sealed tag (record { bytes = hm; sealed_is = refl; tag_is = refl }) in
    let lh : length header ≡ 32 + length clear = length_header mode (length clear) (length message) sender number clear in
    let ls : length sealed ≡ length message = length_sealed w mode nonce message in
    let lt : length (bytes_of 16 tag) ≡ 16 = length_bytes 16 tag in
    let at : sealed_start (header ++ rest) ≡ 32 + length clear = sealed_start_lem mode (length clear) (length message) sender number clear rest lc in
    let end : tag_start (header ++ rest) ≡ 32 + length clear + length message = tag_start_lem mode (length clear) (length message) sender number clear rest lc lm in
    let size : sealed_length (header ++ rest) ≡ length message = sealed_length_lem mode (length clear) (length message) sender number clear rest lm in
    let whole = frame_length w mode sender number clear message in
    let behind : drop (32 + length clear) (header ++ rest) ≡ rest = drop_at header rest (32 + length clear) lh in
    let is-header : header_of (header ++ rest) ≡ header = ap (λ (n : ℕ). take n (header ++ rest)) at ∙ take_at header rest (32 + length clear) lh in
    let is-nonce : nonce_of (header ++ rest) ≡ nonce = nonce_first header rest (omega arith) in
    let is-sealed : sealed_part (header ++ rest) ≡ sealed =
    ap₂ (λ (n m : ℕ). take n (drop m (header ++ rest))) size at ∙ ap (take (length message)) behind ∙ take_at sealed (bytes_of 16 tag) (length message) ls in
    let is-tag : tag_part (header ++ rest) ≡ bytes_of 16 tag =
    ap (λ (n : ℕ). take 16 (drop n (header ++ rest))) end
    ∙ ap (take 16) (sym (drop-drop (length message) (32 + length clear) (header ++ rest)) ∙ ap (drop (length message)) behind ∙ drop_at sealed (bytes_of 16 tag) (length message) ls)
    ∙ take_all 16 (bytes_of 16 tag) (omega arith) in
    record {
      form = record {
        bytes = bytes_append header rest hb (bytes_append sealed (bytes_of 16 tag) sb (bytes_of_lem 16 tag));
        long = omega arith;
        mode = mode;
        mode_is = mode_first mode (length clear) (length message) sender number clear rest;
        fields = all_hold mode (length clear) (length message) sender number clear rest lc lm;
        whole = omega arith;
      };
      seals = record {
        bytes = hm;
        sealed_is = is-sealed ∙ ap (λ (n : ℕ). sealed_bytes w mode n message) (sym is-nonce);
        tag_is = ap number_of is-tag ∙ number_bytes 16 tag (tag_fits w laws nonce nf header message hb hm) ∙ ap₂ (λ (n : ℕ) (v : List ℕ). tag_of w n v message) (sym is-nonce) (sym is-header);
      };
    }
