-- What is done to the words of a nursery around a round of copying, and what is told of them.
use Rattle.std.specs.Prelude.{◌≡◌, ℕ, ◌+◌, ◌<◌, ◌≤◌, ◌⊎◌, ◌↔◌, ◌&&◌, nat_le, nat_lt, if◌then◌else◌, false, List, map}
use Rattle.std.specs.List.{Contains}
use Rattle.std.specs.List.Sorted.{IsStrictlyIncreasing}
use Rattle.sg_words.specs.Address.{IsAddress, byte_at, word_at}
use Rattle.sg_words.specs.Tags.{plain_word}
use Rattle.sg_words.specs.Lists.{has, In}
use Rattle.sg_words.specs.Sections.{IsInSection}
use Rattle.sg_words.specs.declared.layout.Layout.{Layout}
use Rattle.sg_words.specs.declared.pieces.Move.{Move}
use Rattle.sg_space.specs.declared.objects.Object.{Object}
use Rattle.sg_space.specs.Space.{Contents}
use Rattle.sg_space.specs.Standing.{word}
use Rattle.sg_nursery.specs.Pieces.{AreStanding, IsTaken, first_word, word_behind}

-- the first words of the pinned objects have the tag of pinned ones now
pub record HasTagged (old : ℕ → ℕ) (pins : List ℕ) (new : ℕ → ℕ) : Type 0 where
  pub tagged : (a : ℕ) → In a pins → new a ≡ old a + 2
  pub same : (y : ℕ) → has y pins ≡ false → new y ≡ old y

-- each is the byte address of a first word with a plain tag
pub record ArePlain (s : Contents) (pins : List ℕ) : Type 0 where
  pub whole : (a : ℕ) → Contains pins a → byte_at (word_at a) ≡ a
  pub section : (a : ℕ) → Contains pins a → IsInSection s.layout (word_at a)
  pub plain : (a : ℕ) → Contains pins a → (class : ℕ) × (class < 256) × (word s (word_at a) ≡ plain_word class)

-- the object's first word says that it stays
abbrev pub IsStaying : (ℕ → ℕ) → Object → Type 0
IsStaying w o = w (first_word o) ≡ plain_word o.class + 2

-- the object's first word says that it went to the byte address `to`
abbrev pub WentTo : (ℕ → ℕ) → Object → ℕ → Type 0
WentTo w o to = IsAddress to × (w (first_word o) ≡ to + 1)

-- after a round the object has moved, stays, or is left
pub record IsRounded (w : ℕ → ℕ) (o : Object) : Type 0 where
  pub class : o.class < 256
  pub whole : byte_at (first_word o) ≡ o.at
  pub state : ((to : ℕ) × WentTo w o to) ⊎ (IsStaying w o ⊎ (w (first_word o) ≡ plain_word o.class))

-- these are the objects after a round, by address and apart
pub record AreRounded (layout : Layout) (w : ℕ → ℕ) (told : List Object) : Type 0 where
  pub standing : AreStanding layout told
  pub each : (o : Object) → Contains told o → IsRounded w o

-- each is the address of an object that stays, in increasing order
pub record AreStaying (w : ℕ → ℕ) (told : List Object) (pins : List ℕ) : Type 0 where
  pub in_order : IsStrictlyIncreasing pins
  pub each : (a : ℕ) → Contains pins a → (o : Object) × Contains told o × IsStaying w o × (o.at ≡ a)

-- what stays, what moved, and what stays without being among these pins, each by address
pub record AreKept (layout : Layout) (w : ℕ → ℕ) (told : List Object) (pins : List ℕ) (standing : List Object) (moves : List Move) (fails : List ℕ) : Type 0 where
  pub apart : AreStanding layout standing
  pub moves_in_order : IsStrictlyIncreasing (map (λ (move : Move). move.from) moves)
  pub fails_in_order : IsStrictlyIncreasing fails
  pub stand : (o : Object) → Contains standing o ↔ (Contains told o × IsStaying w o)
  pub move : (move : Move) → Contains moves move ↔ ((o : Object) × Contains told o × WentTo w o move.to × (move.from ≡ o.at))
  pub fail : (a : ℕ) → Contains fails a ↔ ((o : Object) × Contains told o × IsStaying w o × (o.at ≡ a) × (Contains pins a → ⊥))

-- what stays has its plain tag again, the words of all other objects are zero, and no other word has changed
pub record AreCleaned (told : List Object) (old new : ℕ → ℕ) : Type 0 where
  pub untagged : (o : Object) → Contains told o → IsStaying old o → new (first_word o) + 2 ≡ old (first_word o)
  pub kept : (o : Object) (y : ℕ) → Contains told o → IsStaying old o → first_word o < y → y < word_behind o → new y ≡ old y
  pub zero : (o : Object) (y : ℕ) → Contains told o → (IsStaying old o → ⊥) → first_word o ≤ y → y < word_behind o → new y ≡ 0
  pub others : (y : ℕ) → (IsTaken told y → ⊥) → new y ≡ old y

-- the words, but 0 from `from` to before `to`
abbrev pub blank : ℕ → ℕ → (ℕ → ℕ) → ℕ → ℕ
blank from to w y = if nat_le from y && nat_lt y to then 0 else w y
