-- What steps make of a space with offer cells beside it, and which calls a port over both allows.
use Rattle.std.proofs.Common.{◌≡◌, ℕ, ◌<◌, ◌^◌, List, [], ◌∷◌, ◌++◌, length, slice_index, refl, sym, ap, ◌∙◌, subst}
use Rattle.sg_words.specs.Sections.{IsInSection}
use Rattle.sg_words.specs.declared.steps.Place.TheVariants.{Stop, Next, Word, Card, Head, Cell}
use Rattle.sg_words.specs.declared.steps.BlockCall.{BlockCall}
use Rattle.sg_words.specs.declared.steps.BlockCall.TheVariants.{LoadsBlock, SwapsBlock, StoresBlock, LoadsUsed, OrsUsed, StoresUsed, LoadsMarks}
use Rattle.sg_words.specs.declared.steps.BlockCall.TheVariants.{OrsMarks, StoresMarks, Zeroes}
use Rattle.sg_words.specs.declared.steps.Step.{Step}
use Rattle.sg_words.specs.declared.steps.Call.{Call}
use Rattle.sg_words.specs.declared.steps.Call.TheVariants.{Loads, Stores, Swaps, OnBlocks}
use Rattle.sg_words.specs.Words.{Words, replayed, IsLegal, after_step}
use Rattle.sg_space.specs.Space.{Contents, words_of}
use Rattle.sg_copy.specs.Copying.{IsStillBeside}

-- the words of a space, and these offer cells
abbrev pub words_with : Contents → List ℕ → Words
words_with s cells = record (words_of s) { cell = λ c. slice_index cells c }

-- these steps lead from one space with its cells to another
pub record LeadsOn (s : Contents) (cells : List ℕ) (es : List Step) (t : Contents) (cells' : List ℕ) : Type 0 where
  pub legal : IsLegal (words_with s cells) es
  pub words : words_with t cells' ≡ replayed (words_with s cells) es
  pub still : IsStillBeside s t
  pub as_many : length cells' ≡ length cells

-- the word with this number is one of a section
abbrev pub IsWordIn : Contents → ℕ → Type 0
IsWordIn s x = IsInSection s.layout x × (x < 2 ^ 37) × (x < length s.words)

-- The calls on blocks that it allows: loads of their words and occupancies, exchanges of their words, and claims of slots.
abbrev pub AllowsOnBlock : Contents → BlockCall → Type 0
AllowsOnBlock s (LoadsBlock b) = b < length s.blocks
AllowsOnBlock s (SwapsBlock b seen new) = b < length s.blocks
AllowsOnBlock s (StoresBlock b new) = ⊥
AllowsOnBlock s (LoadsUsed b) = b < length s.used
AllowsOnBlock s (OrsUsed b slot) = (b < length s.used) × (slot < 64)
AllowsOnBlock s (StoresUsed b new) = ⊥
AllowsOnBlock s (LoadsMarks b) = ⊥
AllowsOnBlock s (OrsMarks b slot) = ⊥
AllowsOnBlock s (StoresMarks b new) = ⊥
AllowsOnBlock s (Zeroes x) = ⊥

-- and all that it allows: those, loads, stores and exchanges of words, the store of 1 to a card, and loads and exchanges of cells
abbrev pub Allows : Contents → List ℕ → Call → Type 0
Allows s cells (Loads Stop) = ⊥
Allows s cells (Loads (Next f)) = ⊥
Allows s cells (Loads (Word x)) = IsWordIn s x
Allows s cells (Loads (Card c)) = ⊥
Allows s cells (Loads Head) = ⊥
Allows s cells (Loads (Cell c)) = c < length cells
Allows s cells (Stores Stop new) = ⊥
Allows s cells (Stores (Next f) new) = ⊥
Allows s cells (Stores (Word x) new) = IsWordIn s x
Allows s cells (Stores (Card c) new) = (c < length s.cards) × (new ≡ 1)
Allows s cells (Stores Head new) = ⊥
Allows s cells (Stores (Cell c) new) = ⊥
Allows s cells (Swaps Stop seen new) = ⊥
Allows s cells (Swaps (Next f) seen new) = ⊥
Allows s cells (Swaps (Word x) seen new) = IsWordIn s x
Allows s cells (Swaps (Card c) seen new) = ⊥
Allows s cells (Swaps Head seen new) = ⊥
Allows s cells (Swaps (Cell c) seen new) = c < length cells
Allows s cells (OnBlocks call) = AllowsOnBlock s call

legal-append : (w : Words) (es fs : List Step) → IsLegal w es → IsLegal (replayed w es) fs → IsLegal w (es ++ fs)
legal-append w [] fs l m = m
legal-append w (e ∷ es) fs l m = (l.0, legal-append (after_step w e) es fs l.1 m)

replayed-append : (w : Words) (es fs : List Step) → replayed w (es ++ fs) ≡ replayed (replayed w es) fs
replayed-append w [] fs = refl
replayed-append w (e ∷ es) fs = replayed-append (after_step w e) es fs

pub still_none : (s : Contents) → IsStillBeside s s
still_none s = record { same = refl; words = refl; cards = refl; blocks = refl; used = refl }

pub still_then : (s t u : Contents) → IsStillBeside s t → IsStillBeside t u → IsStillBeside s u
still_then s t u h k = record {
  same = k.same ∙ ap (λ (c : Contents). record c { words = u.words; cards = u.cards; blocks = u.blocks; used = u.used }) h.same;
  words = k.words ∙ h.words;
  cards = k.cards ∙ h.cards;
  blocks = k.blocks ∙ h.blocks;
  used = k.used ∙ h.used;
}

pub leads_none : (s : Contents) (cells : List ℕ) → LeadsOn s cells [] s cells
leads_none s cells = record { legal = tt; words = refl; still = still_none s; as_many = refl }

pub leads_then : (s t u : Contents) (cs ds xs : List ℕ) (es fs : List Step) → LeadsOn s cs es t ds → LeadsOn t ds fs u xs → LeadsOn s cs (es ++ fs) u xs
leads_then s t u cs ds xs es fs h k = record {
  legal = legal-append (words_with s cs) es fs h.legal (subst (λ (w : Words). IsLegal w fs) h.words k.legal);
  words = k.words ∙ ap (λ (w : Words). replayed w fs) h.words ∙ sym (replayed-append (words_with s cs) es fs);
  still = still_then s t u h.still k.still;
  as_many = k.as_many ∙ h.as_many;
}
