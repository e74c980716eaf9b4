-- Pages that get a word one after another, the end of a large object's run, and what freeing it makes of a space.
use Rattle.std.proofs.Common.{◌≡◌, ◌≢◌, ℕ, ◌+◌, ◌-◌, ◌*◌, ◌/◌, ◌<◌, ◌≤◌, ◌⊎◌}
use Rattle.std.proofs.Common.{inl, inr, length, refl, ap, sym, ◌∙◌, subst, arith, slice_index, slice_set}
use Rattle.std.proofs.lemmas.Bool.{cases_lt, cases_eq}
use Rattle.std.proofs.lemmas.List.{length-set, get_or-set_same, get_or-set_other}
use Rattle.sg_space.specs.Space.{Contents}
use Rattle.sg_space.specs.Standing.{word, page_in, page_base}
use Rattle.sg_los.specs.Pages.{SetsPages, IsLargeRun, IsWordOf, FreesRun}

-- no page was set so far
pub sets_none : (s : Contents) (j v : ℕ) → SetsPages s j j v s
sets_none s j v = record { set = λ i from to. absurd (omega arith); others = λ i out. refl; still = refl; count = refl }

module _ (old mid : Contents) (j e v : ℕ) (sets : SetsPages old j e v mid) (from : j ≤ e) (there : e < length mid.pages) where
  abbrev next : Contents
  next = record mid { pages = slice_set mid.pages e v }

  set_at : (i : ℕ) → j ≤ i → i < e + 1 → (i ≡ e) ⊎ (i ≢ e) → page_in next i ≡ v
  set_at i above below (inl same) = subst (λ (k : ℕ). page_in next k ≡ v) (sym same) (get_or-set_same mid.pages e v 0 there)
  set_at i above below (inr other) = get_or-set_other mid.pages e i v 0 other ∙ sets.set i above (omega arith)

  -- one more page is set
  pub sets_more : SetsPages old j (e + 1) v (record mid { pages = slice_set mid.pages e v })
  sets_more = record {
    set = λ i above below. set_at i above below (cases_eq i e);
    others = λ i out. get_or-set_other mid.pages e i v 0 (λ same. out (omega arith) (omega arith)) ∙ sets.others i (λ a b. out a (omega arith));
    still = ap (λ (z : Contents). record z { pages = slice_set mid.pages e v }) sets.still;
    count = length-set mid.pages e v ∙ sets.count;
  }

-- a run of the same first page ends where its words end
module _ (s : Contents) (q e : ℕ) (run : IsLargeRun s q e) (p : ℕ) (from : q ≤ p) (named : (j : ℕ) → q ≤ j → j < p → page_in s j ≡ q + 1) where
  pub not_past : p ≤ e
  not_past = let some = run.some in elim (cases_lt e p) [
    | inl below ↦ let l = (run.only e (named e (omega arith) below)).1 in absurd (omega arith)
    | inr above ↦ above
  ]

  pub not_before : page_in s p ≢ q + 1 → e ≤ p
  not_before other = elim (cases_lt p e) [
    | inl below ↦ absurd (other (run.named p from below))
    | inr above ↦ above
  ]

  pub run_at : e ≡ p → IsLargeRun s q p
  run_at same = subst (λ (k : ℕ). IsLargeRun s q k) same run

-- the words of a run's pages were made zero, and then its pages free
module _ (old mid new : Contents) (q e : ℕ) (run : IsLargeRun old q e)
    (zero : (y : ℕ) → page_base old.layout q ≤ y → y < page_base old.layout q + 128 * (e - q) → word mid y ≡ 0)
    (kept : (y : ℕ) → (page_base old.layout q ≤ y → y < page_base old.layout q + 128 * (e - q) → ⊥) → word mid y ≡ word old y)
    (still : mid ≡ record old { words = mid.words })
    (words : length mid.words ≡ length old.words)
    (sets : SetsPages mid q e 0 new) where
  pages_are : (j : ℕ) → page_in mid j ≡ page_in old j
  pages_are j = ap (λ (z : Contents). page_in z j) still

  words_are : new.words ≡ mid.words
  words_are = ap (λ (z : Contents). z.words) sets.still

  after : new ≡ record old { words = new.words; pages = new.pages }
  after = sets.still ∙ ap (λ (z : Contents). record z { pages = new.pages }) still ∙
      ap (λ w. record old { words = w; pages = new.pages }) (sym words_are)

  other_page : (j : ℕ) → page_in old j ≢ q + 1 → page_in new j ≡ page_in old j
  other_page j other = sets.others j (λ from to. other (run.named j from to)) ∙ pages_are j

  word_is : (x : ℕ) → word new x ≡ word mid x
  word_is x = ap (λ w. slice_index w x) words_are

  in_range : (x : ℕ) → IsWordOf old q x → (page_base old.layout q ≤ x) × (x < page_base old.layout q + 128 * (e - q))
  in_range x of =
      let at = run.only of.page of.named in
      let low = at.0 in
      let high = at.1 in
      let from = of.from in
      let to = of.to in
      (omega arith, omega arith)

  of_range : (x : ℕ) → page_base old.layout q ≤ x → x < page_base old.layout q + 128 * (e - q) → IsWordOf old q x
  of_range x from to = record {
    page = q + (x - page_base old.layout q) / 128;
    named = run.named (q + (x - page_base old.layout q) / 128) (omega arith) (omega arith);
    from = omega arith;
    to = omega arith;
  }

  pub frees_run : FreesRun old q new
  frees_run = record {
    freed = λ j named. let at = run.only j named in sets.set j at.0 at.1;
    others = other_page;
    zero = λ x of. let at = in_range x of in word_is x ∙ zero x at.0 at.1;
    kept = λ x not. word_is x ∙ kept x (λ from to. not (of_range x from to));
    still = after;
    words = ap length words_are ∙ words;
    count = sets.count ∙ ap (λ (z : Contents). length z.pages) still;
  }
