-- What the modes promise, over every cipher and masking.
use Rattle.std.specs.Prelude.{◌≡◌, ℕ, List}
use Rattle.block.specs.Maps.{IsBlock}
use Rattle.block.specs.Bytes.{Bytes}
use Rattle.mode.specs.declared.value.Mode.{Mode}
use Rattle.mode.specs.declared.value.Mode.TheVariants.{Forward, Dual}
use Rattle.block.specs.Cut.{last_of}
use Rattle.mode.specs.Sealing.{Apart}
use Rattle.mode.specs.Sealing.{Maps, Lawful, sealed_bytes, opened_bytes, Seals}
use Rattle.mode.specs.SealingLaws.{opened_sealed, at_most_one as only, same_last as last, same_tag as tags, never_both as never}

pub record Stands (w : Maps) : Type 0 where
  -- opening undoes each step of sealing
  pub opens : (mode : Mode) (nonce : ℕ) → IsBlock nonce → (message : List ℕ) → Bytes message → opened_bytes w mode nonce (sealed_bytes w mode nonce message) ≡ message
  -- at most one message seals to given bytes and tag
  pub at_most_one : (mode : Mode) (nonce : ℕ) → IsBlock nonce → (header : List ℕ) (tag : ℕ) (sealed message other : List ℕ)
      → Seals w mode nonce header message sealed tag → Seals w mode nonce header other sealed tag → message ≡ other
  -- last piece and tag are equal in both modes
  pub same_last : (nonce : ℕ) → IsBlock nonce → (message : List ℕ) → last_of (sealed_bytes w Forward nonce message) ≡ last_of (sealed_bytes w Dual nonce message)
  pub same_tag : (nonce : ℕ) → IsBlock nonce → (header message sealed resealed : List ℕ) (tag retag : ℕ)
      → Seals w Forward nonce header message sealed tag → Seals w Dual nonce header message resealed retag → tag ≡ retag
  -- of two that differ inside just one block of header, sealed bytes or tag, not both are sealed
  pub never_both : (mode : Mode) (nonce : ℕ) → IsBlock nonce → (header other sealed resealed : List ℕ) (tag retag : ℕ) → Bytes header → Bytes other
      → Apart header sealed tag other resealed retag → (message remessage : List ℕ)
      → Seals w mode nonce header message sealed tag → Seals w mode nonce other remessage resealed retag → ⊥

pub stands : (w : Maps) → Lawful w → Stands w
stands w laws =
    record {
      opens = λ mode nonce fits message h. opened_sealed w laws nonce fits mode message h;
      at_most_one = λ mode nonce fits header tag sealed message other s t. only w laws nonce fits mode header tag sealed message other s t;
      same_last = λ nonce fits message. last w laws nonce fits message;
      same_tag = λ nonce fits header message sealed resealed tag retag s t. tags w laws nonce fits Forward Dual header message sealed resealed tag retag s t;
      never_both = λ mode nonce fits header other sealed resealed tag retag h k a message remessage s t.
          never w laws nonce fits mode header other sealed resealed tag retag h k a message remessage s t;
    }
