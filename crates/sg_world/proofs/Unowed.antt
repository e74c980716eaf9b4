-- A space that owes no block is as its sweep leaves it, and behind an epoch none is owed either.
use Rattle.std.proofs.Common.{◌≡◌, ℕ, zero, suc, ◌≤◌, Bool, true, false, List, [], ◌∷◌, length, get_or, inl, inr, refl, ap, sym, ◌∙◌, subst, arith}
use Rattle.std.proofs.lemmas.Bool.{cases_Bool, cases_eq, cases_lt}
use Rattle.sg_words.specs.Blocks.{IsOwing}
use Rattle.sg_words.specs.Words.{put}
use Rattle.sg_words.proofs.Puts.{put-at, put-other}
use Rattle.sg_words.specs.Sweeps.{swept_word, swept_used}
use Rattle.sg_words.specs.declared.layout.Layout.{Layout}
use Rattle.sg_words.specs.declared.steps.BlockWord.{BlockWord}
use Rattle.sg_words.specs.declared.steps.BlockWord.TheVariants.{Free, Swept, Need, Sweeping}
use Rattle.sg_program.specs.declared.program.Program.{Program}
use Rattle.sg_graph.specs.Graph.{Graph}
use Rattle.sg_graph.specs.Book.{Book, swept_out, swept_in}
use Rattle.sg_space.specs.Space.{Contents, IsContents}
use Rattle.sg_space.specs.Standing.{block_in, marks_in, used_in}
use Rattle.sg_heap.specs.Holding.{HoldsHeap, OwesNothing}
use Rattle.sg_heap.specs.Laws.{SweepLaw}

past : (xs : List BlockWord) (c : ℕ) → length xs ≤ c → get_or xs c Free ≡ Free
past [] c l = refl
past (x ∷ xs) zero l = absurd (omega arith)
past (x ∷ xs) (suc c) l = past xs c (omega arith)

same_state : (state : BlockWord) (marks : ℕ) → ((z : ℕ) → IsOwing state z → ⊥) → state ≡ swept_word state marks
same_state Free marks none = refl
same_state (Swept size) marks none = refl
same_state (Need size) marks none = absurd (none size refl)
same_state (Sweeping size) marks none = refl

same_used : (state : BlockWord) (used marks : ℕ) → ((z : ℕ) → IsOwing state z → ⊥) → used ≡ swept_used state used marks
same_used Free used marks none = refl
same_used (Swept size) used marks none = refl
same_used (Need size) used marks none = absurd (none size refl)
same_used (Sweeping size) used marks none = refl

-- no block of it is to be swept
rests : (p : Program) (s : Contents) (g : Graph) (b : Book) → IsContents s → HoldsHeap p s g b → OwesNothing p b → (c z : ℕ) → IsOwing (block_in s c) z → ⊥
rests p s g b contents holds owes c z owing = elim (cases_lt c p.config.blocks) [
  | inl l ↦ let q : true ≡ false = sym ((holds.1.2.blocks.each c l).owing z owing) ∙ owes c l in cc q
  | inr l ↦
      let blocks : s.layout.blocks ≡ p.config.blocks = ap (λ (layout : Layout). layout.blocks) holds.0.layout in
      subst (λ (state : BlockWord). IsOwing state z) (past s.blocks c (omega (arith, contents.blocks))) owing
]

pub still_swept : SweepLaw → (p : Program) (s : Contents) (g : Graph) (b : Book) → IsContents s → HoldsHeap p s g b → OwesNothing p b →
    HoldsHeap p s g (swept_out b)
still_swept law p s g b contents holds owes = (law.swept p s s g b contents holds (record {
  still = refl;
  words = refl;
  blocks = refl;
  used = refl;
  states = λ c. same_state (block_in s c) (marks_in s c) (rests p s g b contents holds owes c);
  occupied = λ c. same_used (block_in s c) (used_in s c) (marks_in s c) (rests p s g b contents holds owes c);
  zero = λ x garbage. absurd (rests p s g b contents holds owes garbage.block garbage.size garbage.owing);
  kept = λ x no. refl;
})).0

-- what is owed behind a sweep of these blocks was owed before it
owed_before : (swept : List ℕ) (b : Book) (j : ℕ) → (swept_in b swept).owed j ≡ true → b.owed j ≡ true
owed_before [] b j e = e
owed_before (i ∷ more) b j e = elim (cases_eq j i) [
  | inl same ↦ let q : false ≡ true = sym (put-at b.owed i false j same) ∙ owed_before more (record b { owed = put b.owed i false }) j e in absurd (cc q)
  | inr other ↦ sym (put-other b.owed i false j other) ∙ owed_before more (record b { owed = put b.owed i false }) j e
]

-- which blocks are owed behind it depends on nothing else of the book
pub same_owed : (swept : List ℕ) (b c : Book) → c.owed ≡ b.owed → (swept_in c swept).owed ≡ (swept_in b swept).owed
same_owed [] b c e = e
same_owed (j ∷ more) b c e =
    same_owed more (record b { owed = put b.owed j false }) (record c { owed = put c.owed j false }) (ap (λ (owed : ℕ → Bool). put owed j false) e)

-- where nothing is owed before an epoch, no turn of which changes that, nothing is owed behind the sweeps in it
pub still_unowed : (p : Program) (b c : Book) (swept : List ℕ) → c.owed ≡ b.owed → OwesNothing p b → OwesNothing p (swept_in c swept)
still_unowed p b c swept same owes j l = elim (cases_Bool ((swept_in c swept).owed j)) [
  | inl e ↦
      let q : true ≡ false = sym (owed_before swept c j e) ∙ ap (λ (owed : ℕ → Bool). owed j) same ∙ owes j l in absurd (cc q)
  | inr e ↦ e
]
