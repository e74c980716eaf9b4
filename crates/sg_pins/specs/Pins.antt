-- Which objects of the nursery ambiguous words pin.
use Rattle.std.specs.Prelude.{◌≡◌, ℕ, ◌+◌, ◌*◌, ◌<◌, ◌≤◌, Option, Some, List}
use Rattle.std.specs.List.{Contains}
use Rattle.std.specs.List.Sorted.{IsStrictlyIncreasing}
use Rattle.sg_words.specs.Address.{byte_at, word_at}
use Rattle.sg_words.specs.declared.layout.Layout.{Layout}
use Rattle.sg_space.specs.declared.objects.Object.{Object}
use Rattle.sg_words.specs.Sections.{IsYoung}

-- some ambiguous word lies, as a byte address, in a word of the standing object whose first word is h
abbrev pub IsPointedInto : (ℕ → Option ℕ) → List ℕ → ℕ → Type 0
IsPointedInto owner ambiguous h = (v : ℕ) × Contains ambiguous v × (owner (word_at v) ≡ Some h)

-- the list has exactly the addresses of the standing objects of the nursery that some ambiguous word points into, in increasing order
pub record ArePinned (layout : Layout) (owner : ℕ → Option ℕ) (ambiguous pinned : List ℕ) : Type 0 where
  pub in_order : IsStrictlyIncreasing pinned
  pub each : (a : ℕ) → Contains pinned a → (h : ℕ) × (a ≡ byte_at h) × (owner h ≡ Some h) × IsYoung layout h × IsPointedInto owner ambiguous h
  pub all : (h : ℕ) → owner h ≡ Some h → IsYoung layout h → IsPointedInto owner ambiguous h → Contains pinned (byte_at h)

-- some word is the address of a byte of this object
abbrev pub IsReached : List ℕ → Object → Type 0
IsReached words o = (v : ℕ) × Contains words v × (o.at ≤ v) × (v < o.at + 8 * o.words)

-- the list has exactly the addresses of those objects that some word reaches, in increasing order
pub record AreReached (words : List ℕ) (objects : List Object) (pinned : List ℕ) : Type 0 where
  pub in_order : IsStrictlyIncreasing pinned
  pub each : (a : ℕ) → Contains pinned a → (o : Object) × Contains objects o × (o.at ≡ a) × IsReached words o
  pub all : (o : Object) → Contains objects o → IsReached words o → Contains pinned o.at
