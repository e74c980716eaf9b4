-- How steps lead on over a space.
use Rattle.std.proofs.Common.{◌≡◌, ℕ, List, [], ◌∷◌, ◌++◌, length, slice_index, refl, sym, ap, ◌∙◌, subst}
use Rattle.sg_words.specs.Address.{word_at}
use Rattle.sg_words.specs.Sections.{old_base}
use Rattle.sg_words.specs.Words.{Words, replayed, IsLegal, after_step}
use Rattle.sg_words.specs.declared.steps.Step.{Step}
use Rattle.sg_space.specs.Space.{Contents, words_of}
use Rattle.sg_frag.specs.Plain.{KeepsSections, Led}

pub keeps_none : (s : Contents) → KeepsSections s s
keeps_none s = record {
  layout = refl;
  shapes = refl;
  ends = refl;
  next = refl;
  words = refl;
  blocks = refl;
  used = refl;
  cards = refl;
  marks = refl;
  pages = refl;
  made = refl;
  registered = refl;
  pairs = refl;
}

keeps_chain : (s t u : Contents) → KeepsSections s t → KeepsSections t u → KeepsSections s u
keeps_chain s t u k l = record {
  layout = l.layout ∙ k.layout;
  shapes = l.shapes ∙ k.shapes;
  ends = l.ends ∙ k.ends;
  next = l.next ∙ k.next;
  words = l.words ∙ k.words;
  blocks = l.blocks ∙ k.blocks;
  used = l.used ∙ k.used;
  cards = l.cards ∙ k.cards;
  marks = l.marks ∙ k.marks;
  pages = l.pages ∙ k.pages;
  made = l.made ∙ k.made;
  registered = l.registered ∙ k.registered;
  pairs = l.pairs ∙ k.pairs;
}

legal-append : (w : Words) (es fs : List Step) → IsLegal w es → IsLegal (replayed w es) fs → IsLegal w (es ++ fs)
legal-append w [] fs l m = m
legal-append w (e ∷ es) fs l m = (l.0, legal-append (after_step w e) es fs l.1 m)

replayed-append : (w : Words) (es fs : List Step) → replayed w (es ++ fs) ≡ replayed (replayed w es) fs
replayed-append w [] fs = refl
replayed-append w (e ∷ es) fs = replayed-append (after_step w e) es fs

pub led_none : (s : Contents) → Led s [] s
led_none s = record { legal = tt; words = refl; keeps = keeps_none s }

pub led_chain : (s t u : Contents) (es fs : List Step) → Led s es t → Led t fs u → Led s (es ++ fs) u
led_chain s t u es fs h k = record {
  legal = legal-append (words_of s) es fs h.legal (subst (λ (w : Words). IsLegal w fs) h.words k.legal);
  words = k.words ∙ ap (λ (w : Words). replayed w fs) h.words ∙ sym (replayed-append (words_of s) es fs);
  keeps = keeps_chain s t u h.keeps k.keeps;
}

-- before which word each fragment ends
abbrev pub limit_of : List ℕ → ℕ → ℕ
limit_of ends f = word_at (slice_index ends f)

pub led_fixed : (s t : Contents) (es : List Step) → Led s es t → (length t.ends ≡ length s.ends) × (limit_of t.ends ≡ limit_of s.ends)
led_fixed s t es h = (ap length h.keeps.ends, ap limit_of h.keeps.ends)

-- how many blocks there are
pub blocks_fixed : (s t : Contents) (es : List Step) → Led s es t → length t.blocks ≡ length s.blocks
blocks_fixed s t es h = h.keeps.blocks

-- the marks of each block, and where the major heap begins
abbrev pub marks_of : List ℕ → ℕ → ℕ
marks_of marks b = slice_index marks b

pub sweep_fixed : (s t : Contents) (es : List Step) → Led s es t → (marks_of t.marks ≡ marks_of s.marks) × (old_base t.layout ≡ old_base s.layout)
sweep_fixed s t es h = (ap marks_of h.keeps.marks, ap old_base h.keeps.layout)
