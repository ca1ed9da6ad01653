-- What a pair of a cipher and a masking means.
use Rattle.std.specs.Prelude.{ℕ}
use Rattle.cipher.specs.declared.Cipher as cipher
use Rattle.masking.specs.declared.Masking as masking
use Rattle.mode.specs.declared.pair.Pair.{Pair}
use Rattle.mode.specs.Sealing.{Maps, Lawful}

abbrev pub maps_of : {C M : Type 0} → (C → ℕ → ℕ) → (C → ℕ → ℕ) → (M → ℕ → ℕ) → (M → ℕ → ℕ) → Pair C M → Maps
maps_of forward backward step back pair =
    record { forward = forward pair.cipher; backward = backward pair.cipher; step = step pair.masking; back = back pair.masking }

-- the same, of all that the two bounds say
abbrev pub maps : {C M : Type 0} → cipher.Ghosts C → masking.Ghosts M → Pair C M → Maps
maps c m pair = maps_of c.forward c.backward m.onward m.inward pair

pub lawful : {C M : Type 0} (c : cipher.Ghosts C) (m : masking.Ghosts M) (pair : Pair C M) → Lawful (maps c m pair)
lawful c m pair = record { cipher = c.laws pair.cipher; masking = m.laws pair.masking }
