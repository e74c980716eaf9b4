-- An object that is placed at a stop has one place.
use Rattle.std.proofs.Common.{◌≡◌, ℕ, suc, inl, inr, sym, refl, ap, ◌∙◌, subst, arith}
use Rattle.std.proofs.lemmas.Bool.{cases_lt}
use Rattle.sg_program.specs.declared.program.Statement.{Statement}
use Rattle.sg_program.specs.declared.program.Statement.TheVariants.{New, NewV, Mature, Collect, Sections}
use Rattle.sg_program.specs.declared.program.Program.{Program}
use Rattle.sg_program.specs.declared.answers.Answer.{Answer}
use Rattle.sg_program.specs.declared.answers.Answer.TheVariants.{At, Fine, Full}
use Rattle.sg_program.specs.Scripts.{words_for, fields_of}
use Rattle.sg_graph.specs.Graph.{Graph, Mutator}
use Rattle.sg_graph.specs.Statements.{Answers}
use Rattle.sg_graph.specs.Book.{Book, Old, placed_in, slot_words, slot_at}
use Rattle.sg_graph.specs.Stop.{Takes, HasNoFragment, TakesSlot, HasNoSlot, Placing, InFragments, InSlotsToo, PlacesNew, LacksPlace, PlacesYoung, PlacesOld, Places}
use Rattle.sg_replay.proofs.Copying.{slot_some, not_shut, one_first_slot}

module _ (b : Book) (words : ℕ) where
  one_fragment : (m n f e : ℕ) (c d : Book) → Takes b words m f c → Takes b words n e d → f ≡ e
  one_fragment m n f e c d x y = elim (cases_lt f e) [
    | inl l ↦ absurd (let r = y.lowest f l in let q = x.room in omega arith)
    | inr above ↦ elim (cases_lt e f) [
      | inl l ↦ absurd (let r = x.lowest e l in let q = y.room in omega arith)
      | inr below ↦ omega arith
    ]
  ]

  in_one_fragment : (m n : ℕ) (c d : Book) → m ≡ n → ((f : ℕ) × Takes b words m f c) → ((f : ℕ) × Takes b words n f d) → c ≡ d
  in_one_fragment m n c d same (f, x) (e, y) = x.after ∙ sym there.after
    where
      there : Takes b words m f d
      there = subst (λ z. Takes b words z f d) (sym same) (subst (λ z. Takes b words n z d) (sym (one_fragment m n f e c d x y)) y)

  not_without : (m : ℕ) (c : Book) → ((f : ℕ) × Takes b words m f c) → HasNoFragment b words → ⊥
  not_without m c (f, x) none = let r = none.none f x.there in let q = x.room in omega arith

module _ (p : Program) (g : Graph) (b : Book) (fields : ℕ) where
  in_one_slot : (m n : ℕ) (c d : Book) → m ≡ n → ((j i : ℕ) × TakesSlot p g b fields m j i c) → ((j i : ℕ) × TakesSlot p g b fields n j i d) → c ≡ d
  in_one_slot m n c d same (j, i, x) (k, l, y) =
      x.after
      ∙ ap (λ z. placed_in b Old m z) (one_first_slot p g b (slot_words fields) (slot_some fields) j k i l x.first y.first)
      ∙ ap (λ z. placed_in b Old z (slot_at p k (slot_words fields) l)) same
      ∙ sym y.after

  not_slotless : (m : ℕ) (c : Book) → ((j i : ℕ) × TakesSlot p g b fields m j i c) → HasNoSlot p g b fields → ⊥
  not_slotless m c (j, i, x) none =
      not_shut p g b (slot_words fields) (slot_some fields) j i x.first.open_slot (none.none j x.first.open_slot.there)

  one_new : (how : Placing) (m n : ℕ) (c d : Book) → m ≡ n → PlacesNew p how g b fields m c → PlacesNew p how g b fields n d → c ≡ d
  one_new InFragments m n c d same x y = in_one_fragment b (words_for fields) m n c d same x y
  one_new InSlotsToo m n c d same (inl x) (inl y) = in_one_fragment b (words_for fields) m n c d same x y
  one_new InSlotsToo m n c d same (inl x) (inr y) = absurd (not_without b (words_for fields) m c x y.0)
  one_new InSlotsToo m n c d same (inr x) (inl y) = absurd (not_without b (words_for fields) n d y x.0)
  one_new InSlotsToo m n c d same (inr x) (inr y) = in_one_slot m n c d same x.1 y.1

  not_both : (how : Placing) (n : ℕ) (c : Book) → PlacesNew p how g b fields n c → LacksPlace p how g b fields → ⊥
  not_both InFragments n c x none = not_without b (words_for fields) n c x none
  not_both InSlotsToo n c (inl x) none = not_without b (words_for fields) n c x none.0
  not_both InSlotsToo n c (inr x) none = not_slotless n c x.1 none.1

  -- two answers to a statement that makes an object, whose name is one, are one, and so are the two books
  one_young : (how : Placing) (a a' : Answer) (c d : Book) → ((m n : ℕ) → a ≡ At m → a' ≡ At n → m ≡ n) → PlacesYoung p how g b fields a c →
      PlacesYoung p how g b fields a' d → (a ≡ a') × (c ≡ d)
  one_young how (At m) (At n) c d one x y = let same = one m n refl refl in (ap (λ z. At z) same, one_new how m n c d same x.1 y.1)
  one_young how (At m) Full c d one x y = absurd (not_both how m c x.1 y.1)
  one_young how (At m) a' c d one x y = absurd y
  one_young how Full (At n) c d one x y = absurd (not_both how n d y.1 x.1)
  one_young how Full Full c d one x y = (refl, x.2 ∙ sym y.2)
  one_young how Full a' c d one x y = absurd y
  one_young how a a' c d one x y = absurd x

  one_old : (a a' : Answer) (c d : Book) → ((m n : ℕ) → a ≡ At m → a' ≡ At n → m ≡ n) → PlacesOld p g b fields a c → PlacesOld p g b fields a' d →
      (a ≡ a') × (c ≡ d)
  one_old (At m) (At n) c d one x y = let same = one m n refl refl in (ap (λ z. At z) same, in_one_slot m n c d same x y)
  one_old (At m) Full c d one x y = absurd (not_slotless m c x y.0)
  one_old (At m) a' c d one x y = absurd y
  one_old Full (At n) c d one x y = absurd (not_slotless n d y x.0)
  one_old Full Full c d one x y = (refl, x.1 ∙ sym y.1)
  one_old Full a' c d one x y = absurd y
  one_old a a' c d one x y = absurd x

-- the name of what a statement makes is one
one_name : (g : Graph) (a a' : Answer) → ((n : ℕ) → a ≡ At n → n ≡ suc g.count) → ((n : ℕ) → a' ≡ At n → n ≡ suc g.count) → (m n : ℕ) → a ≡ At m →
    a' ≡ At n → m ≡ n
one_name g a a' h k m n e q = h m e ∙ sym (k n q)

module _ (p : Program) (g : Graph) (m : Mutator) where
  new_name : (r class : ℕ) (a : Answer) → Answers p g m (New r class) a → (n : ℕ) → a ≡ At n → n ≡ suc g.count
  new_name r class a h n e = subst (λ z. Answers p g m (New r class) z) e h

  vector_name : (r class count : ℕ) (a : Answer) → Answers p g m (NewV r class count) a → (n : ℕ) → a ≡ At n → n ≡ suc g.count
  vector_name r class count a h n e = subst (λ z. Answers p g m (NewV r class count) z) e h

  mature_name : (r class : ℕ) (a : Answer) → Answers p g m (Mature r class) a → (n : ℕ) → a ≡ At n → n ≡ suc g.count
  mature_name r class a h n e = subst (λ z. Answers p g m (Mature r class) z) e h

  -- a statement that is answered at a stop has one answer, and leads to one book
  pub one_placing : (how : Placing) (b : Book) (s : Statement) (a a' : Answer) (c d : Book) → Answers p g m s a → Answers p g m s a' →
      Places p how g b s a c → Places p how g b s a' d → (a ≡ a') × (c ≡ d)
  one_placing how b (New r class) a a' c d h k x y =
      one_young p g b (fields_of p class) how a a' c d (one_name g a a' (new_name r class a h) (new_name r class a' k)) x y
  one_placing how b (NewV r class count) a a' c d h k x y =
      one_young p g b count how a a' c d (one_name g a a' (vector_name r class count a h) (vector_name r class count a' k)) x y
  one_placing how b (Mature r class) a a' c d h k x y =
      one_old p g b (fields_of p class) a a' c d (one_name g a a' (mature_name r class a h) (mature_name r class a' k)) x y
  one_placing how b (Collect major) Fine Fine c d h k x y = (refl, x ∙ sym y)
  one_placing how b (Collect major) Fine a' c d h k x y = absurd y
  one_placing how b Sections Fine Fine c d h k x y = (refl, x ∙ sym y)
  one_placing how b Sections Fine a' c d h k x y = absurd y
  one_placing how b s a a' c d h k x y = absurd x
