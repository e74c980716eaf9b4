-- What the parts of a major pause do to words and lists, one by one.
use Rattle.std.specs.Prelude.{◌≡◌, ℕ, zero, suc, ◌+◌, ◌%◌, ◌^◌, ◌<◌, ◌≤◌, ◌⊎◌, ◌==◌, Bool, true, false, Option, Some, List, length, filter}
use Rattle.std.specs.List.{Contains}
use Rattle.std.specs.Int.{bit_at}
use Rattle.sg_words.specs.Address.{IsAddress, word_at}
use Rattle.sg_words.specs.Pieces.{fronts_of, ends_of}
use Rattle.sg_words.specs.Sections.{old_base, globals_base}
use Rattle.sg_words.specs.declared.steps.BlockWord.{BlockWord}
use Rattle.sg_words.specs.declared.steps.BlockWord.TheVariants.{Free, Swept, Need, Sweeping}
use Rattle.sg_program.specs.declared.program.Program.{Program}
use Rattle.sg_graph.specs.declared.reports.MajorReport.{MajorReport}
use Rattle.sg_graph.specs.Graph.{Graph}
use Rattle.sg_graph.specs.Book.{Book}
use Rattle.sg_graph.specs.Invariants.{IsPlain}
use Rattle.sg_space.specs.declared.objects.Object.{Object}
use Rattle.sg_space.specs.Space.{Contents}
use Rattle.sg_space.specs.Standing.{word, block_in, used_in, marks_in, IsSoundBy, TellsYoung}
use Rattle.sg_space.specs.Changes.{IsStill}
use Rattle.sg_heap.specs.Holding.{HoldsHeap, OwesNothing}
use Rattle.sg_mark.specs.Marking.{CanMark, HasMarked}
use Rattle.sg_nursery.specs.Pieces.{AreStanding, ArePieces, IsTaken, first_word, word_behind}

-- no mutator has a buffer
abbrev pub HasNoBuffer : Book → Type 0
HasNoBuffer b = (k : ℕ) → (b.from k ≡ 0) × (b.to k ≡ 0)

-- some program's graph stands in the space by some book, no block is owed, and no mutator has a buffer
abbrev pub CollectsSome : Contents → Type 0
CollectsSome s = (p : Program) × (g : Graph) × (b : Book) × HoldsHeap p s g b × IsPlain p g × OwesNothing p b × HasNoBuffer b

-- t is the space s with no mark in any block
pub record IsUnmarked (s t : Contents) : Type 0 where
  pub same : t ≡ record s { marks = t.marks }
  pub as_many : length t.marks ≡ length s.marks
  pub none : (c : ℕ) → marks_in t c ≡ 0

-- the object at the address a has the byte v
abbrev pub HoldsByte : (ℕ → Option ℕ) → ℕ → ℕ → Type 0
HoldsByte owner v a = (owner (word_at v) ≡ Some (word_at a)) × (a % 8 ≡ 0)

-- and the byte lies behind the nursery
abbrev pub IsPointedBehind : Contents → (ℕ → Option ℕ) → ℕ → ℕ → Type 0
IsPointedBehind s owner v a = (old_base s.layout ≤ word_at v) × HoldsByte owner v a

-- so it is with one of these bytes
abbrev pub ArePointedBehind : Contents → (ℕ → Option ℕ) → List ℕ → ℕ → Type 0
ArePointedBehind s owner words a = (v : ℕ) × Contains words v × IsPointedBehind s owner v a

-- global x holds the address a
abbrev pub HoldsAt : Contents → ℕ → ℕ → Type 0
HoldsAt s x a = (word s (globals_base s.layout + x) ≡ a) × IsAddress a

-- some global does
abbrev pub IsGlobal : Contents → ℕ → Type 0
IsGlobal s a = (x : ℕ) × (x < 64) × HoldsAt s x a

-- a is the address of an object that an ambiguous word points into, or one that a global holds
abbrev pub IsRootOf : Contents → (ℕ → Option ℕ) → List ℕ → ℕ → Type 0
IsRootOf s owner ambiguous a = ((v : ℕ) × Contains ambiguous v × HoldsByte owner v a) ⊎ IsGlobal s a

-- the list has exactly the addresses of the roots
pub record AreRoots (s : Contents) (owner : ℕ → Option ℕ) (ambiguous roots : List ℕ) : Type 0 where
  pub each : (a : ℕ) → Contains roots a → IsRootOf s owner ambiguous a
  pub all : (a : ℕ) → IsRootOf s owner ambiguous a → Contains roots a

-- to the addresses exactly those of this sort come
pub record AddsThose (sort : ℕ → Type 0) (old new : List ℕ) : Type 0 where
  pub each : (a : ℕ) → Contains new a → Contains old a ⊎ sort a
  pub stays : (a : ℕ) → Contains old a → Contains new a
  pub comes : (a : ℕ) → sort a → Contains new a

-- From the space s a pause has taken the marks away, told the young objects, and marked what the roots reach.
pub record HasTraced (s : Contents) (ambiguous : List ℕ) (told : List Object) (marked : Contents) : Type 0 where
  pub before : Contents
  pub unmarked : IsUnmarked s before
  pub tells : (owner : ℕ → Option ℕ) → IsSoundBy before owner → TellsYoung before owner told
  pub roots : List ℕ
  pub are_roots : (owner : ℕ → Option ℕ) → IsSoundBy before owner → AreRoots before owner ambiguous roots
  pub marks : (owner : ℕ → Option ℕ) → CanMark before owner (λ _. false) before roots → HasMarked before owner (λ _. false) roots marked

-- whether the young object is marked: the top bit of its first word is set
abbrev pub is_marked : (ℕ → ℕ) → Object → Bool
is_marked w o = bit_at (w (first_word o)) 63 == 1

-- the marked ones among these objects
abbrev pub marked_among : (ℕ → ℕ) → List Object → List Object
marked_among w told = filter (is_marked w) told

-- the marks of the marked objects are taken away, the words of all others are zero, and no other word has changed
pub record AreSifted (told : List Object) (old new : ℕ → ℕ) : Type 0 where
  pub unmarked : (o : Object) → Contains told o → is_marked old o ≡ true → new (first_word o) + 2 ^ 63 ≡ old (first_word o)
  pub kept : (o : Object) (y : ℕ) → Contains told o → is_marked old o ≡ true → first_word o < y → y < word_behind o → new y ≡ old y
  pub zero : (o : Object) (y : ℕ) → Contains told o → is_marked old o ≡ false → first_word o ≤ y → y < word_behind o → new y ≡ 0
  pub others : (y : ℕ) → (IsTaken told y → ⊥) → new y ≡ old y

-- the word of a block after the pause: where it was swept, it is still to be swept
abbrev pub owed_word : BlockWord → BlockWord
owed_word Free = Free
owed_word (Swept size) = Need size
owed_word (Need size) = Need size
owed_word (Sweeping size) = Sweeping size

-- t is the space s, but that each block that was swept is still to be swept
pub record OwesBlocks (s t : Contents) : Type 0 where
  pub same : t ≡ record s { blocks = t.blocks }
  pub each : (c : ℕ) → block_in t c ≡ owed_word (block_in s c)

-- how many of the n lowest bits of the mask are set
unfoldable pub bits_below : ℕ → ℕ → ℕ
bits_below mask zero = 0
bits_below mask (suc n) = bits_below mask n + bit_at mask n

-- how many bits are set in the masks of the first n blocks, each of which has 64
unfoldable pub bits_in : (ℕ → ℕ) → ℕ → ℕ
bits_in masks zero = 0
bits_in masks (suc n) = bits_in masks n + bits_below (masks n) 64

-- From the space after marking, a pause has counted the objects, swept the nursery, made the gaps between those that stay the fragments,
-- and left each swept block to be swept again.
pub record HasFinished (marked : Contents) (told : List Object) (final : Contents) (report : MajorReport) : Type 0 where
  pub swept : Contents
  pub still : IsStill marked swept
  pub sifted : AreSifted told (word marked) (word swept)
  pub standing : AreStanding marked.layout (marked_among (word marked) told)
  pub tiles : ArePieces marked.layout (marked_among (word marked) told) report.pieces
  pub owes : OwesBlocks (record swept { next = fronts_of report.pieces; ends = ends_of report.pieces }) final
  pub kept : report.kept ≡ length (marked_among (word marked) told) + bits_in (marks_in marked) marked.layout.blocks
  pub freed : report.freed + report.kept ≡ length told + bits_in (used_in marked) marked.layout.blocks
