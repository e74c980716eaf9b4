-- What the parts of a minor pause do to words and lists, one by one.
use Rattle.std.specs.Prelude.{◌≡◌, ℕ, Option, List, ◌++◌, map, filter}
use Rattle.sg_words.specs.Address.{word_at}
use Rattle.sg_words.specs.declared.pieces.Move.{Move}
use Rattle.sg_words.specs.Pieces.{fronts_of, ends_of}
use Rattle.sg_program.specs.declared.program.Program.{Program}
use Rattle.sg_graph.specs.Graph.{Graph}
use Rattle.sg_graph.specs.Book.{Book}
use Rattle.sg_graph.specs.Invariants.{IsPlain}
use Rattle.sg_graph.specs.declared.reports.MinorReport.{MinorReport}
use Rattle.sg_space.specs.declared.objects.Object.{Object}
use Rattle.sg_space.specs.Space.{Contents}
use Rattle.sg_space.specs.Standing.{word, IsSoundBy, TellsYoung}
use Rattle.sg_space.specs.Changes.{IsStill}
use Rattle.sg_cards.specs.declared.found.Seed.{Seed}
use Rattle.sg_copy.specs.Copying.{area_of, HasCopiedTo}
use Rattle.sg_nursery.specs.Parts.{HasTagged, AreKept, AreCleaned}
use Rattle.sg_nursery.specs.Pieces.{ArePieces}
use Rattle.sg_heap.specs.Holding.{HoldsHeap, OwesNothing}
use Rattle.sg_minor.specs.Joined.{holds_young, slots_from}
use Rattle.sg_minor.specs.Laws.{ArePinnedIn}

-- some program's graph stands in the space by some book, and no block is owed
abbrev pub HoldsSome : Contents → Type 0
HoldsSome s = (p : Program) × (g : Graph) × (b : Book) × HoldsHeap p s g b × OwesNothing p b × IsPlain p g

-- to the list of addresses those of these slots are added that refer to young objects, in order
abbrev pub Adds : Contents → List ℕ → List ℕ → List ℕ → Type 0
Adds s slots old new = map word_at new ≡ map word_at old ++ filter (holds_young (area_of s) (word s)) slots

-- From the space s a pause has told the young objects and the pinned ones, given these their tags, and copied from the globals, these
-- seeds and the pinned objects' fields on.
pub record HasTraced (s : Contents) (ambiguous : List ℕ) (found : List Seed) (told : List Object) (pins : List ℕ) (round : Contents) : Type 0 where
  pub tells : (owner : ℕ → Option ℕ) → IsSoundBy s owner → TellsYoung s owner told
  pub pinned : ArePinnedIn s ambiguous pins
  pub tagged : Contents
  pub still : IsStill s tagged
  pub tags : HasTagged (word s) (map word_at pins) (word tagged)
  pub moves : List Move
  pub fails : List ℕ
  pub copied : HasCopiedTo tagged (slots_from s found) (map word_at pins) round moves fails

-- From the space after a round, a pause has swept the nursery, reported what has become of the told objects, and made the gaps between
-- those that stay the fragments.
pub record HasFinished (round : Contents) (told : List Object) (pins : List ℕ) (final : Contents) (report : MinorReport) : Type 0 where
  pub swept : Contents
  pub still : IsStill round swept
  pub standing : List Object
  pub kept : AreKept round.layout (word round) told pins standing report.moves report.fails
  pub cleaned : AreCleaned told (word round) (word swept)
  pub tiles : ArePieces swept.layout standing report.pieces
  pub fitted : final ≡ record swept { next = fronts_of report.pieces; ends = ends_of report.pieces }
  pub pins_are : report.pins ≡ pins
  pub spares : report.spares ≡ 0
