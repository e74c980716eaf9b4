-- What steps make of a space, and which calls a port over it allows.
use Rattle.std.specs.Prelude.{◌≡◌, ℕ, ◌^◌, ◌<◌, List, length}
use Rattle.sg_words.specs.Sections.{IsInSection}
use Rattle.sg_words.specs.declared.steps.Place.TheVariants.{Stop, Next, Word, Card, Head, Cell}
use Rattle.sg_words.specs.declared.steps.Step.{Step}
use Rattle.sg_words.specs.declared.steps.BlockCall.{BlockCall}
use Rattle.sg_words.specs.declared.steps.BlockCall.TheVariants.{LoadsBlock, SwapsBlock, StoresBlock, LoadsUsed, OrsUsed, StoresUsed, LoadsMarks, OrsMarks}
use Rattle.sg_words.specs.declared.steps.BlockCall.TheVariants.{StoresMarks, Zeroes}
use Rattle.sg_words.specs.declared.steps.Call.{Call}
use Rattle.sg_words.specs.declared.steps.Call.TheVariants.{Loads, Stores, Swaps, OnBlocks}
use Rattle.sg_words.specs.Words.{replayed, IsLegal}
use Rattle.sg_space.specs.Space.{Contents, words_of}

-- what no step changes of a space
pub record KeepsSections (s t : Contents) : Type 0 where
  pub layout : t.layout ≡ s.layout
  pub shapes : t.shapes ≡ s.shapes
  pub ends : t.ends ≡ s.ends
  pub next : length t.next ≡ length s.next
  pub words : length t.words ≡ length s.words
  pub blocks : length t.blocks ≡ length s.blocks
  pub used : length t.used ≡ length s.used
  pub cards : length t.cards ≡ length s.cards
  pub marks : t.marks ≡ s.marks
  pub pages : t.pages ≡ s.pages
  pub made : t.made ≡ s.made
  pub registered : t.registered ≡ s.registered
  pub pairs : t.pairs ≡ s.pairs

-- these steps lead from one space to another
pub record Led (s : Contents) (es : List Step) (t : Contents) : Type 0 where
  pub legal : IsLegal (words_of s) es
  pub words : words_of t ≡ replayed (words_of s) es
  pub keeps : KeepsSections s t

-- the word with this number is one of a section
abbrev pub IsWordOf : Contents → ℕ → Type 0
IsWordOf s x = IsInSection s.layout x × (x < 2 ^ 37) × (x < length s.words)

-- The calls that a port over the space allows on blocks: loads and stores of their words and occupancies, exchanges of their words, claims of
-- slots, and the zeroing of words of its sections. No call changes marks.
abbrev pub MayCallBlock : Contents → BlockCall → Type 0
MayCallBlock s (LoadsBlock b) = b < length s.blocks
MayCallBlock s (SwapsBlock b seen new) = b < length s.blocks
MayCallBlock s (StoresBlock b new) = b < length s.blocks
MayCallBlock s (LoadsUsed b) = b < length s.used
MayCallBlock s (OrsUsed b slot) = (b < length s.used) × (slot < 64)
MayCallBlock s (StoresUsed b new) = b < length s.used
MayCallBlock s (LoadsMarks b) = ⊥
MayCallBlock s (OrsMarks b slot) = ⊥
MayCallBlock s (StoresMarks b new) = ⊥
MayCallBlock s (Zeroes x) = IsWordOf s x

-- The calls that it allows: loads and stores of words of its sections, loads and exchanges of the next words of its fragments and of the
-- ready row's head, loads of the stop word and the store of 1 to it, the store of 1 to a card, and those on blocks. It has no offer cells.
abbrev pub MayCall : Contents → Call → Type 0
MayCall s (Loads Stop) = Unit {0}
MayCall s (Loads (Next f)) = (f < length s.next) × (f < length s.ends)
MayCall s (Loads (Word x)) = IsWordOf s x
MayCall s (Loads (Card c)) = ⊥
MayCall s (Loads Head) = Unit {0}
MayCall s (Loads (Cell k)) = ⊥
MayCall s (Stores Stop new) = new ≡ 1
MayCall s (Stores (Next f) new) = ⊥
MayCall s (Stores (Word x) new) = IsWordOf s x
MayCall s (Stores (Card c) new) = (c < length s.cards) × (new ≡ 1)
MayCall s (Stores Head new) = ⊥
MayCall s (Stores (Cell k) new) = ⊥
MayCall s (Swaps Stop seen new) = ⊥
MayCall s (Swaps (Next f) seen new) = (f < length s.next) × (f < length s.ends)
MayCall s (Swaps (Word x) seen new) = ⊥
MayCall s (Swaps (Card c) seen new) = ⊥
MayCall s (Swaps Head seen new) = Unit {0}
MayCall s (Swaps (Cell k) seen new) = ⊥
MayCall s (OnBlocks call) = MayCallBlock s call
