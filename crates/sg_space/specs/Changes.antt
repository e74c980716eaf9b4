-- How a space differs from one before.
use Rattle.std.specs.Prelude.{◌≡◌, ◌≢◌, ℕ, length}
use Rattle.std.proofs.Common.{ap, sym, subst, ◌∙◌}
use Rattle.sg_space.specs.Space.{Contents, IsContents}

-- nothing but words differs
abbrev pub IsStill : Contents → Contents → Type 0
IsStill old new = (new ≡ record old { words = new.words }) × (length new.words ≡ length old.words)

pub still_on : (s t u : Contents) → IsStill s t → IsStill t u → IsStill s u
still_on s t u h k = (k.0 ∙ ap (λ (z : Contents). record z { words = u.words }) h.0, k.1 ∙ h.1)

pub contents_still : (s t : Contents) → IsStill s t → IsContents s → IsContents t
contents_still s t h contents = subst IsContents (sym h.0) (record {
  layout = contents.layout;
  shapes = contents.shapes;
  words = h.1 ∙ contents.words;
  fragments = contents.fragments;
  few = contents.few;
  blocks = contents.blocks;
  used = contents.used;
  marks = contents.marks;
  cards = contents.cards;
  bits = contents.bits;
  pages = contents.pages;
  made = contents.made;
  registered = contents.registered;
})

-- the word a is v now, and no other one has changed
abbrev pub Stores : (ℕ → ℕ) → ℕ → ℕ → (ℕ → ℕ) → Type 0
Stores old a v new = (new a ≡ v) × ((y : ℕ) → y ≢ a → new y ≡ old y)
