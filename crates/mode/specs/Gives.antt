-- What sealing and opening answer and write, in every case.
use Rattle.std.specs.Prelude.{◌≡◌, ℕ, ◌+◌, List, length, take, drop, replicate, Ok, Err, Result, ◌≢◌}
use Rattle.mode.specs.declared.value.Mode.{Mode}
use Rattle.mode.specs.declared.fault.ModeFault.{ModeFault}
use Rattle.mode.specs.declared.fault.ModeFault.TheVariants.{OutputLength, NotSealed}
use Rattle.mode.specs.Sealing.{Maps, Seals}

-- sealing, where the output was `was` and is `out`
abbrev pub SealGives : Maps → Mode → ℕ → List ℕ → List ℕ → List ℕ → List ℕ → Result ℕ ModeFault → Type 0
SealGives w mode nonce header message was out (Ok tag) = (length was ≡ length message) × Seals w mode nonce header message out tag
SealGives w mode nonce header message was out (Err OutputLength) = (length was ≢ length message) × (out ≡ was)
SealGives w mode nonce header message was out (Err NotSealed) = ⊥

-- sealing right behind a header of h bytes, in one buffer
pub record Behind (w : Maps) (mode : Mode) (nonce h : ℕ) (message was out : List ℕ) (tag : ℕ) : Type 0 where
  pub long : length was ≡ h + length message
  pub header_stays : take h out ≡ take h was
  pub seals : Seals w mode nonce (take h was) message (drop h out) tag

abbrev pub BehindGives : Maps → Mode → ℕ → ℕ → List ℕ → List ℕ → List ℕ → Result ℕ ModeFault → Type 0
BehindGives w mode nonce h message was out (Ok tag) = Behind w mode nonce h message was out tag
BehindGives w mode nonce h message was out (Err OutputLength) = (length was ≢ h + length message) × (out ≡ was)
BehindGives w mode nonce h message was out (Err NotSealed) = ⊥

-- opening
abbrev pub OpenGives : Maps → Mode → ℕ → List ℕ → List ℕ → ℕ → List ℕ → List ℕ → Result (Unit {0}) ModeFault → Type 0
OpenGives w mode nonce header sealed tag was out (Ok done) = (length was ≡ length sealed) × Seals w mode nonce header out sealed tag
OpenGives w mode nonce header sealed tag was out (Err OutputLength) = (length was ≢ length sealed) × (out ≡ was)
OpenGives w mode nonce header sealed tag was out (Err NotSealed) =
    (length was ≡ length sealed) × ((message : List ℕ) → Seals w mode nonce header message sealed tag → ⊥) × (out ≡ replicate (length sealed) 0)
