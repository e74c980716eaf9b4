-- In which order a minor pause by one worker copies, and so what moves, what fails, and where each copy stands.
use Rattle.std.specs.Prelude.{◌≡◌, ◌≢◌, ℕ, zero, suc, ◌<◌, ◌⊎◌, ◌↔◌, Bool, true, if◌then◌else◌, List, [], ◌∷◌, ◌++◌, map}
use Rattle.std.specs.List.{flat_map}
use Rattle.std.specs.List.Sorted.{IsStrictlyIncreasing}
use Rattle.sg_words.specs.Words.{put}
use Rattle.sg_words.specs.Lists.{In}
use Rattle.sg_words.specs.Found.{IsSearched}
use Rattle.sg_program.specs.declared.program.Program.{Program}
use Rattle.sg_program.specs.Scripts.{kind_of}
use Rattle.sg_desc.specs.Shapes.{is_strong}
use Rattle.sg_graph.specs.Graph.{Graph, Entry, Ref, Int, Inner}
use Rattle.sg_graph.specs.Book.{Book, Old, slot_at, slot_words, IsFirstSlot, IsShut}
use Rattle.sg_graph.specs.Epoch.{numbers_below}
use Rattle.sg_graph.specs.Pause.{StandsYoung, IsPinned}
use Rattle.sg_graph.specs.Minor.{IsStill}

-- the object stands in a block of the major heap
abbrev pub StandsOld : Book → ℕ → Type 0
StandsOld b n = (n ≢ 0) × (b.stands n ≡ true) × (b.section n ≡ Old)

-- a young object that isn't pinned
abbrev pub IsMovable : Graph → Book → List ℕ → ℕ → Type 0
IsMovable g b ambiguous n = StandsYoung b n × (IsPinned g b ambiguous n → ⊥)

-- these are the objects of this sort, by address
pub record AreByAddress (b : Book) (sort : ℕ → Type 0) (names : List ℕ) : Type 0 where
  pub in_order : IsStrictlyIncreasing (map b.address names)
  pub exact : (n : ℕ) → In n names ↔ sort n

-- what an entry refers to
abbrev pub name_in : Entry → List ℕ
name_in (Ref name) = name ∷ []
name_in (Int number) = []
name_in (Inner name offset) = []

-- what the strong ones among the n fields from i on refer to
abbrev pub names_in : (ℕ → Bool) → (ℕ → Entry) → ℕ → ℕ → List ℕ
names_in strong field i zero = []
names_in strong field i (suc n) = if strong i then name_in (field i) ++ names_in strong field (suc i) n else names_in strong field (suc i) n

-- what the strong fields of an object refer to, in order; 0 stands for nothing
abbrev pub targets_of : Program → Graph → ℕ → List ℕ
targets_of p g n = names_in (λ i. is_strong (kind_of p (g.class n)) i (g.size n)) (g.field n) 0 (g.size n)

-- what a round begins with: the globals by number, the strong fields of the old objects, and those of the pinned ones
abbrev pub items_of : Program → Graph → List ℕ → List ℕ → List ℕ
items_of p g old pinned = map g.global (numbers_below 64) ++ flat_map (targets_of p g) old ++ flat_map (targets_of p g) pinned

-- and to what it leads: after these items, what the strong fields of the objects found refer to, breadth first
abbrev pub leads_of : Program → Graph → List ℕ → List ℕ → List ℕ
leads_of p g items found = items ++ flat_map (targets_of p g) found

-- the object with this name is in the major heap, at the word x
abbrev pub moved_to_slot : Book → ℕ → ℕ → Book
moved_to_slot d n x = record d { address = put d.address n x; section = put d.section n Old }

-- By the book d of the copies so far each of these objects moves in turn to the first slot for it, and fails where there is none; by c
-- it is there, or where it was by b.
abbrev pub AreCopied : Program → Graph → Book → Book → Book → List ℕ → Type 0
AreCopied p g b c d [] = Unit {0}
AreCopied p g b c d (n ∷ found) =
    ((j i : ℕ) × IsFirstSlot p g d j (slot_words (g.size n)) i × (c.address n ≡ slot_at p j (slot_words (g.size n)) i) × (c.section n ≡ Old)
    × AreCopied p g b c (moved_to_slot d n (slot_at p j (slot_words (g.size n)) i)) found)
    ⊎ (((j : ℕ) → j < p.config.blocks → IsShut p g d j (slot_words (g.size n))) × IsStill b c n × AreCopied p g b c d found)

-- From the book b to c, one worker finds the movable objects one after another, each as the first new one to which what was found
-- before it leads, and copies them in this order; nothing else changes its place.
pub record CopiesInOrder (p : Program) (g : Graph) (b : Book) (ambiguous : List ℕ) (c : Book) : Type 0 where
  pub old : List ℕ
  pub pinned : List ℕ
  pub found : List ℕ
  pub old_are : AreByAddress b (StandsOld b) old
  pub pinned_are : AreByAddress b (IsPinned g b ambiguous) pinned
  pub searched : IsSearched (IsMovable g b ambiguous) (leads_of p g (items_of p g old pinned)) found
  pub copied : AreCopied p g b c b found
  pub others : (n : ℕ) → (In n found → ⊥) → IsStill b c n
