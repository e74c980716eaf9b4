-- What a caller may do with a space that holds a graph by a book: walk over it, read its cards, and pin, tag and copy.
use Rattle.std.specs.Prelude.{ℕ, Option, List, map}
use Rattle.sg_words.specs.Address.{word_at}
use Rattle.sg_program.specs.declared.program.Program.{Program}
use Rattle.sg_graph.specs.Graph.{Graph}
use Rattle.sg_graph.specs.Book.{Book}
use Rattle.sg_space.specs.Space.{Contents, IsContents}
use Rattle.sg_space.specs.Standing.{word, IsSoundBy, RefersSoundly, AreRows}
use Rattle.sg_space.specs.Changes.{IsStill}
use Rattle.sg_cards.specs.declared.found.Seed.{Seed}
use Rattle.sg_cards.specs.Seeds.{AreCarded}
use Rattle.sg_pins.specs.Pins.{ArePinned}
use Rattle.sg_nursery.specs.Parts.{HasTagged, ArePlain}
use Rattle.sg_copy.specs.Copying.{CanCopy}
use Rattle.sg_heap.specs.Holding.{HoldsHeap, OwesNothing}
use Rattle.sg_minor.specs.Joined.{AreFound, slots_from}

-- by the first words of its objects the space is sound, refers soundly, and has a dirty card for each field that needs one
pub record IsSoundHeap (s : Contents) : Type 0 where
  pub owner : ℕ → Option ℕ
  pub sound : IsSoundBy s owner
  pub refers : RefersSoundly s owner
  pub rows : AreRows s
  pub carded : AreCarded s

-- these are the objects that the words pin, by every owner by which the space is sound
abbrev pub ArePinnedIn : Contents → List ℕ → List ℕ → Type 0
ArePinnedIn s ambiguous pins = (owner : ℕ → Option ℕ) → IsSoundBy s owner → ArePinned s.layout owner ambiguous pins

pub record HeapLaw : Type 0 where
  pub sound : (p : Program) (s : Contents) (g : Graph) (b : Book) → HoldsHeap p s g b → IsContents s → IsSoundHeap s
  -- what is pinned has plain tags
  pub plain : (p : Program) (s : Contents) (g : Graph) (b : Book) → HoldsHeap p s g b → IsContents s → (ambiguous pins : List ℕ) →
      ArePinnedIn s ambiguous pins → ArePlain s pins
  -- once that is tagged, where no block is owed, a round may copy from the globals, the seeds and the fields of the pinned objects on
  pub copies : (p : Program) (s : Contents) (g : Graph) (b : Book) → HoldsHeap p s g b → OwesNothing p b → IsContents s → (ambiguous pins : List ℕ) →
      ArePinnedIn s ambiguous pins → (found : List Seed) → AreFound s found → (tagged : Contents) → IsStill s tagged →
      HasTagged (word s) (map word_at pins) (word tagged) → CanCopy tagged (slots_from s found) (map word_at pins)
