-- The objects that a round finds, by their names: each is the first new one to which the items and those before it lead.
use Rattle.std.proofs.Common.{◌≡◌, ◌≢◌, ℕ, zero, suc, ◌+◌, ◌^◌, ◌≤◌, ◌<◌, eqb, cond, Bool, true, false, List, [], ◌∷◌, ◌++◌, map, filter, sym, refl, ap, ◌∙◌, subst, inl, inr, arith, le_refl}
use Rattle.std.specs.List.{flat_map}
use Rattle.std.proofs.Math.Path.{fun_ext}
use Rattle.std.proofs.lemmas.Bool.{cond-true, cond-false, cases_Bool, eq-eqb, le-leb, lt-ltb, false≢true}
use Rattle.std.proofs.lemmas.Bool.Decides.{nat_tests}
use Rattle.std.proofs.lemmas.List.{append_assoc, map-append}
use Rattle.sg_words.specs.Address.{byte_at, word_at}
use Rattle.sg_words.specs.Tags.{plain_word}
use Rattle.sg_words.specs.Lists.{In, Pairwise}
use Rattle.sg_words.specs.Found.{IsFoundBy, IsSearched}
use Rattle.sg_words.specs.Found.IsFoundBy.{Begins, Finds}
use Rattle.std.specs.Int.Bits.{bit_or}
use Rattle.sg_words.specs.Blocks.{slot_size}
use Rattle.sg_words.specs.Words.{put}
use Rattle.sg_words.specs.declared.steps.BlockWord.{BlockWord}
use Rattle.sg_words.specs.declared.steps.BlockWord.TheVariants.{Swept}
use Rattle.sg_words.specs.Objects.{strong_slots, size_of}
use Rattle.sg_words.specs.Sections.{nursery_base, globals_base}
use Rattle.sg_words.proofs.Members.{has-cases, in-here, in-there, last-cases, in_map, map_in, filter-in, out}
use Rattle.sg_words.proofs.Numbers.{word_at-byte_at}
use Rattle.sg_program.specs.declared.program.Program.{Program}
use Rattle.sg_program.specs.Scripts.{kind_of}
use Rattle.sg_desc.specs.Shapes.{strong_holds}
use Rattle.sg_graph.specs.Graph.{Graph, Entry, Ref}
use Rattle.sg_graph.specs.Book.{Book, nursery_end, word_of}
use Rattle.sg_graph.specs.Epoch.{numbers_below}
use Rattle.sg_graph.specs.Pause.{IsPinned}
use Rattle.sg_graph.specs.Copies.{IsMovable, name_in, names_in, targets_of, items_of, leads_of}
use Rattle.sg_graph.specs.Heap.{Owner, IsKnownEntry, IsOfSort, layout_of, IsHeap}
use Rattle.sg_round.specs.Area.{Area, IsYoung, class_of, place}
use Rattle.sg_round.specs.Order.{is_plain, target, targets, strong_of, leads, IsLowest, Fits}
use Rattle.sg_round.specs.Round.{IsPassed}
use Rattle.sg_minor.specs.Joined.{ArePins, global_slots, is_young_word, holds_young}
use Rattle.sg_nursery.specs.Parts.{HasTagged}
use Rattle.sg_minor.proofs.Areas.{area_for}
use Rattle.sg_minor.proofs.Names.{ref-of}
use Rattle.sg_minor.proofs.Named.{field_refers, common, young-named, in-nursery, young-section, inner-field, outer, tag-of, strong, len, first}
use Rattle.sg_minor.proofs.Added.{slots_of_name, slots_outside, young-word}

-- a list that is mapped from what passes a test, split at one of its numbers
pub record IsSplit (f : ℕ → ℕ) (q : ℕ → Bool) (xs passed : List ℕ) (x : ℕ) : Type 0 where
  pub before : List ℕ
  pub name : ℕ
  pub rest : List ℕ
  pub split : xs ≡ before ++ name ∷ rest
  pub at : f name ≡ x
  pub passes : q name ≡ true
  pub known : (m : ℕ) → In m before → q m ≡ true → In (f m) passed

-- over a number that doesn't pass, and over one that does
split-skip : (f : ℕ → ℕ) (q : ℕ → Bool) (n : ℕ) (xs passed : List ℕ) (x : ℕ) → q n ≡ false → IsSplit f q xs passed x → IsSplit f q (n ∷ xs) passed x
split-skip f q n xs passed x no_n s = record {
  before = n ∷ s.before;
  name = s.name;
  rest = s.rest;
  split = ap (λ (l : List ℕ). n ∷ l) s.split;
  at = s.at;
  passes = s.passes;
  known = λ m h t. elim (has-cases m n s.before h) [
    | inl k ↦ absurd (false≢true (sym no_n ∙ ap q (sym k) ∙ t))
    | inr i ↦ s.known m i t
  ];
}

split-over : (f : ℕ → ℕ) (q : ℕ → Bool) (n : ℕ) (xs : List ℕ) (y : ℕ) (passed : List ℕ) (x : ℕ) → f n ≡ y → IsSplit f q xs passed x → IsSplit f q (n ∷ xs)
    (y ∷ passed) x
split-over f q n xs y passed x first s = record {
  before = n ∷ s.before;
  name = s.name;
  rest = s.rest;
  split = ap (λ (l : List ℕ). n ∷ l) s.split;
  at = s.at;
  passes = s.passes;
  known = λ m h t. elim (has-cases m n s.before h) [
    | inl k ↦ in-here (f m) y passed (ap f k ∙ first)
    | inr i ↦ in-there (f m) y passed (s.known m i t)
  ];
}

split-here : (f : ℕ → ℕ) (q : ℕ → Bool) (n : ℕ) (xs : List ℕ) (x : ℕ) → f n ≡ x → q n ≡ true → IsSplit f q (n ∷ xs) [] x
split-here f q n xs x e is = record { before = []; name = n; rest = xs; split = refl; at = e; passes = is; known = λ m h t. absurd (let z = h in cc) }

same-head : (a b : ℕ) (xs ys : List ℕ) → a ∷ xs ≡ b ∷ ys → a ≡ b
same-head a b xs ys e = cc

same-tail : (a b : ℕ) (xs ys : List ℕ) → a ∷ xs ≡ b ∷ ys → xs ≡ ys
same-tail a b xs ys e = cc

passing : (f : ℕ → ℕ) (q : ℕ → Bool) (n : ℕ) (xs ys : List ℕ) → map f (filter q (n ∷ xs)) ≡ ys → q n ≡ true → f n ∷ map f (filter q xs) ≡ ys
passing f q n xs ys e is = sym (ap (λ (l : List ℕ). map f l) (cond-true _ (n ∷ filter q xs) (filter q xs) is)) ∙ e

failing : (f : ℕ → ℕ) (q : ℕ → Bool) (n : ℕ) (xs ys : List ℕ) → map f (filter q (n ∷ xs)) ≡ ys → q n ≡ false → map f (filter q xs) ≡ ys
failing f q n xs ys e is = sym (ap (λ (l : List ℕ). map f l) (cond-false _ (n ∷ filter q xs) (filter q xs) is)) ∙ e

split-at : (f : ℕ → ℕ) (q : ℕ → Bool) (xs passed : List ℕ) (x : ℕ) (rest : List ℕ) → map f (filter q xs) ≡ passed ++ x ∷ rest → IsSplit f q xs passed x
split-at f q [] [] x rest e = absurd (let z : [] ≡ x ∷ rest = e in cc)
split-at f q [] (y ∷ passed) x rest e = absurd (let z : [] ≡ y ∷ (passed ++ x ∷ rest) = e in cc)
split-at f q (n ∷ xs) [] x rest e = elim (cases_Bool (q n)) [
  | inl is ↦ split-here f q n xs x (same-head (f n) x (map f (filter q xs)) rest (passing f q n xs (x ∷ rest) e is)) is
  | inr is ↦ split-skip f q n xs [] x is (split-at f q xs [] x rest (failing f q n xs (x ∷ rest) e is))
]
split-at f q (n ∷ xs) (y ∷ passed) x rest e = elim (cases_Bool (q n)) [
  | inl is ↦ (let k = passing f q n xs (y ∷ (passed ++ x ∷ rest)) e is in
      split-over f q n xs y passed x (same-head (f n) y (map f (filter q xs)) (passed ++ x ∷ rest) k)
      (split-at f q xs passed x rest (same-tail (f n) y (map f (filter q xs)) (passed ++ x ∷ rest) k)))
  | inr is ↦ split-skip f q n xs (y ∷ passed) x is (split-at f q xs (y ∷ passed) x rest (failing f q n xs (y ∷ (passed ++ x ∷ rest)) e is))
]

module _ (area : Area) (w : ℕ → ℕ) where
  target-at : (v a : ℕ) → v ≡ byte_at a → target area w v ≡ cond (is_plain area w a) (a ∷ []) []
  target-at v a e =
      let q : word_at v ≡ a = ap word_at e ∙ word_at-byte_at a in
      cond-true _ (cond (is_plain area w (word_at v)) (word_at v ∷ []) []) [] (eq-eqb v (byte_at (word_at v)) (e ∙ ap byte_at (sym q))) ∙ ap
      (λ (z : ℕ). cond (is_plain area w z) (z ∷ []) []) q

  plain-of : (x : ℕ) → is_plain area w x ≡ true → IsYoung area x × (w x ≡ plain_word (class_of (w x)))
  plain-of x e = ((grind (arith, nat_tests), grind (arith, nat_tests)), grind (arith, nat_tests))

  targets-append : (xs ys : List ℕ) → targets area w (xs ++ ys) ≡ targets area w xs ++ targets area w ys
  targets-append [] ys = refl
  targets-append (x ∷ xs) ys = ap (λ (l : List ℕ). target area w (w x) ++ l) (targets-append xs ys) ∙ sym
      (append_assoc (target area w (w x)) (targets area w xs) (targets area w ys))

  -- a word that is no young address leads nowhere
  target-none : (v : ℕ) → is_young_word area v ≡ false → target area w v ≡ []
  target-none v no_young = elim (cases_Bool (eqb v (byte_at (word_at v)))) [
    | inr e ↦ cond-false _ (cond (is_plain area w (word_at v)) (word_at v ∷ []) []) [] e
    | inl e ↦ elim (cases_Bool (is_plain area w (word_at v))) [
      | inr n ↦ cond-true _ (cond (is_plain area w (word_at v)) (word_at v ∷ []) []) [] e ∙ cond-false _ (word_at v ∷ []) [] n
      | inl y ↦ absurd (false≢true (sym no_young ∙ young-word area v (word_at v) (grind (arith, nat_tests)) (plain-of (word_at v) y).0))
    ]
  ]

  targets-filter : (v : ℕ → ℕ) (xs : List ℕ) → ((s : ℕ) → In s xs → w s ≡ v s) → targets area w (filter (holds_young area v) xs) ≡ targets area w xs
  targets-filter v [] same = refl
  targets-filter v (s ∷ xs) same =
      let more = targets-filter v xs (λ z i. same z (in-there z s xs i)) in
      elim (cases_Bool (holds_young area v s)) [
        | inl e ↦ ap (λ (l : List ℕ). targets area w l) (cond-true _ (s ∷ filter (holds_young area v) xs) _ e) ∙ ap (λ (l : List ℕ). target area w (w s) ++ l)
            more
        | inr e ↦ ap (λ (l : List ℕ). targets area w l) (cond-false _ (s ∷ filter (holds_young area v) xs) _ e) ∙ more
            ∙ ap (λ (l : List ℕ). l ++ targets area w xs) (sym (target-none (w s) (ap (λ (z : ℕ). is_young_word area z) (same s (in-here s s xs refl)) ∙ e)))
      ]

module _ (p : Program) (w : ℕ → ℕ) (g : Graph) (b : Book) (owner : ℕ → Owner) (t : IsHeap p w g b owner) (ambiguous pins : List ℕ)
    (ps : ArePins g b ambiguous pins)
    (w1 : ℕ → ℕ) (tg : HasTagged w pins w1) where
  -- whether an object is plain now
  abbrev moves : ℕ → Bool
  moves n = is_plain (area_for p) w1 (b.address n)

  movable : (n : ℕ) → b.stands n ≡ true → moves n ≡ true → IsMovable g b ambiguous n
  movable n s e =
      let q = plain-of (area_for p) w1 (b.address n) e in
      let d = young-named p w g b owner t n q.0 in (
        (d, s, young-section p w g b owner t n s q.0),
        λ k. (
            let i = ps.all n k in
            let f = first p w g b owner t n s d in
            let g1 = tg.tagged (b.address n) i in
            let z = q.1 in
            omega arith),
      )

  moves-is : (n : ℕ) → IsMovable g b ambiguous n → moves n ≡ true
  moves-is n m =
      let i = in-nursery p w g b owner t n m.0.1 m.0.0 m.0.2 in
      let below = i.1 in
      elim (tag-of p w g b owner t ambiguous pins ps w1 tg n m.0.1 m.0.0) [
        | inl h ↦ absurd (let q = ps.each (b.address n) h.0 in
            let same = common p w g b owner t q.0 n (b.address n) q.1.0.1 m.0.1 (let e = q.2 in omega arith) (let e = q.2 in omega arith) (le_refl _)
            (omega arith) in
            m.1 (subst (IsPinned g b ambiguous) same q.1))
        | inr h ↦ (let e = h.1 in let same : w1 (b.address n) ≡ plain_word (class_of (w1 (b.address n))) = omega arith in
            cond-true _ _ _ (le-leb nursery_base (b.address n) i.0) ∙ cond-true _ _ _ (lt-ltb (b.address n) (nursery_end p) (omega arith)) ∙ eq-eqb _ _ same)
      ]

  -- the slots hold the addresses of these standing names
  abbrev Holds : ℕ → ℕ → Type 0
  Holds s n = (w1 s ≡ byte_at (b.address n)) × (b.stands n ≡ true)

  abbrev Hold : List ℕ → List ℕ → Type 0
  Hold slots names = Pairwise Holds slots names

  hold-append : (xs ns ys ms : List ℕ) → Hold xs ns → Hold ys ms → Hold (xs ++ ys) (ns ++ ms)
  hold-append [] [] ys ms h k = k
  hold-append [] (n ∷ ns) ys ms h k = absurd h
  hold-append (x ∷ xs) [] ys ms h k = absurd h
  hold-append (x ∷ xs) (n ∷ ns) ys ms h k = (h.0, hold-append xs ns ys ms h.1 k)

  targets-are : (slots names : List ℕ) → Hold slots names → targets (area_for p) w1 slots ≡ map b.address (filter moves names)
  targets-are [] [] h = refl
  targets-are [] (n ∷ names) h = absurd h
  targets-are (s ∷ slots) [] h = absurd h
  targets-are (s ∷ slots) (n ∷ names) h =
      let more = targets-are slots names h.1 in
      let at = target-at (area_for p) w1 (w1 s) (b.address n) h.0.0 in
      elim (cases_Bool (moves n)) [
        | inl e ↦ ap (λ (l : List ℕ). l ++ targets (area_for p) w1 slots) (at ∙ cond-true _ (b.address n ∷ []) [] e) ∙ ap (λ (l : List ℕ). b.address n ∷ l) more
            ∙ ap (λ (l : List ℕ). map b.address l) (sym (cond-true _ (n ∷ filter moves names) (filter moves names) e))
        | inr e ↦ ap (λ (l : List ℕ). l ++ targets (area_for p) w1 slots) (at ∙ cond-false _ (b.address n ∷ []) [] e) ∙ more
            ∙ ap (λ (l : List ℕ). map b.address l) (sym (cond-false _ (n ∷ filter moves names) (filter moves names) e))
      ]

  hold-globals : (k : ℕ) → k ≤ 64 → Hold (global_slots (layout_of p) k) (map g.global (numbers_below k))
  hold-globals zero l = tt
  hold-globals (suc k) l =
      subst (λ (names : List ℕ). Hold (global_slots (layout_of p) (suc k)) names) (sym (map-append g.global (numbers_below k) (k ∷ [])))
      (subst (λ (slots : List ℕ). Hold slots (map g.global (numbers_below k) ++ g.global k ∷ []))
      (sym (map-append (λ (x : ℕ). globals_base (layout_of p) + x) (numbers_below k) (k ∷ [])))
      (hold-append (global_slots (layout_of p) k) (map g.global (numbers_below k)) ((globals_base (layout_of p) + k) ∷ []) (g.global k ∷ [])
      (hold-globals k (omega arith)) (
        (
          outer p w g b owner t ambiguous pins ps w1 tg (globals_base (layout_of p) + k) (λ y. (let u = y.1 in omega arith)) ∙ t.laid.globals.holds k
              (omega arith),
          (t.laid.globals.known k (omega arith)).0,
        ),
        tt,
      )))

  -- a strong field and the name in it
  field-ref : (n i : ℕ) → b.stands n ≡ true → i < g.size n → field_refers p g n i ≡ true → (k : ℕ) × (g.field n i ≡ Ref k) × Holds (b.address n + 2 + i) k
  field-ref n i s l e =
      let k = ref-of (g.field n i) (subst (λ (z : Bool). IsOfSort z (g.field n i)) (strong_holds (kind_of p (g.class n)) i (g.size n) e)
      (t.laid.fields.sorted n i s l)) in (
        k.0,
        k.1,
        (
          inner-field p w g b owner t ambiguous pins ps w1 tg n i s l ∙ t.laid.fields.holds n i s l ∙ ap (λ (z : Entry). word_of b.address z) k.1,
          (subst (λ (z : Entry). IsKnownEntry w g b z) k.1 (t.laid.fields.known n i s l)).0,
        ),
      )

  hold-fields : (n : ℕ) → b.stands n ≡ true → (i k : ℕ) → i + k ≤ g.size n → Hold (strong_slots (field_refers p g n) (b.address n) i k)
      (names_in (field_refers p g n) (g.field n) i k)
  hold-fields n s i zero l = tt
  hold-fields n s i (suc k) l =
      let slots = strong_slots (field_refers p g n) (b.address n) (suc i) k in
      let names = names_in (field_refers p g n) (g.field n) (suc i) k in
      let more = hold-fields n s (suc i) k (omega arith) in
      elim (cases_Bool (field_refers p g n i)) [
        | inl e ↦ (let f = field-ref n i s (omega arith) e in
            subst (λ (xs : List ℕ). Hold xs (names_in (field_refers p g n) (g.field n) i (suc k))) (sym (cond-true _ ((b.address n + 2 + i) ∷ slots) slots e))
            (subst (λ (ns : List ℕ). Hold ((b.address n + 2 + i) ∷ slots) ns)
            (sym (cond-true _ (name_in (g.field n i) ++ names) names e ∙ ap (λ (z : Entry). name_in z ++ names) f.1)) (f.2, more)))
        | inr e ↦ subst (λ (xs : List ℕ). Hold xs (names_in (field_refers p g n) (g.field n) i (suc k)))
            (sym (cond-false _ ((b.address n + 2 + i) ∷ slots) slots e))
            (subst (λ (ns : List ℕ). Hold slots ns) (sym (cond-false _ (name_in (g.field n i) ++ names) names e)) more)
      ]

  hold-all : (names : List ℕ) → ((n : ℕ) → In n names → b.stands n ≡ true) → Hold (flat_map (slots_of_name p g b) names) (flat_map (targets_of p g) names)
  hold-all [] each = tt
  hold-all (n ∷ names) each = hold-append (slots_of_name p g b n) (targets_of p g n) (flat_map (slots_of_name p g b) names) (flat_map (targets_of p g) names)
      (hold-fields n (each n (in-here n n names refl)) 0 (g.size n) (omega arith)) (hold-all names (λ m i. each m (in-there m n names i)))

  -- the slots of objects that are found, by their names
  pub slots-named : (names : List ℕ) → ((n : ℕ) → In n names → (n ≢ 0) × (b.stands n ≡ true)) → strong_of (area_for p) w1 (map b.address names) ≡ flat_map
      (slots_of_name p g b) names
  slots-named [] each = refl
  slots-named (n ∷ names) each =
      let o = each n (in-here n n names refl) in
      ap (λ (f : ℕ → Bool). strong_slots f (b.address n) 0 (w1 (b.address n + 1)) ++ strong_of (area_for p) w1 (map b.address names))
      (fun_ext (λ i. strong p w g b owner t ambiguous pins ps w1 tg n i o.1 o.0))
      ∙ ap (λ (z : ℕ). strong_slots (field_refers p g n) (b.address n) 0 z ++ strong_of (area_for p) w1 (map b.address names))
      (len p w g b owner t ambiguous pins ps w1 tg n o.1 o.0)
      ∙ ap (λ (l : List ℕ). slots_of_name p g b n ++ l) (slots-named names (λ m i. each m (in-there m n names i)))

  same-object : (m n : ℕ) → b.stands m ≡ true → b.stands n ≡ true → b.address m ≡ b.address n → m ≡ n
  same-object m n sm sn e = common p w g b owner t m n (b.address m) sm sn (le_refl _) (omega arith) (omega arith) (omega arith)

  pub in-names : (names : List ℕ) → ((n : ℕ) → In n names → b.stands n ≡ true) → (m : ℕ) → b.stands m ≡ true → In (b.address m) (map b.address names) → In m
      names
  in-names names each m s h =
      let q = map_in b.address (b.address m) names h in
      subst (λ (z : ℕ). In z names) (same-object q.0 m (each q.0 q.1) s q.2) q.1

  module _ (old pinned : List ℕ) (olds : (n : ℕ) → In n old → b.stands n ≡ true) (pinneds : (n : ℕ) → In n pinned → b.stands n ≡ true)
      (items : List ℕ) (items-are : items ≡ filter (holds_young (area_for p) w) (slots_outside p g b old) ++ flat_map (slots_of_name p g b) pinned)
      (outside : (s : ℕ) → In s (slots_outside p g b old) → w1 s ≡ w s) where
    all-hold : (found : List ℕ) → ((n : ℕ) → In n found → b.stands n ≡ true) →
        Hold ((slots_outside p g b old ++ flat_map (slots_of_name p g b) pinned) ++ flat_map (slots_of_name p g b) found)
        (leads_of p g (items_of p g old pinned) found)
    all-hold found each = hold-append (slots_outside p g b old ++ flat_map (slots_of_name p g b) pinned) (items_of p g old pinned)
        (flat_map (slots_of_name p g b) found) (flat_map (targets_of p g) found)
        (hold-append (slots_outside p g b old) (map g.global (numbers_below 64) ++ flat_map (targets_of p g) old) (flat_map (slots_of_name p g b) pinned)
        (flat_map (targets_of p g) pinned)
        (hold-append (global_slots (layout_of p) 64) (map g.global (numbers_below 64)) (flat_map (slots_of_name p g b) old) (flat_map (targets_of p g) old)
        (hold-globals 64 (le_refl _)) (hold-all old olds))
        (hold-all pinned pinneds))
        (hold-all found each)

    -- the candidates by addresses are those by names
    leads-are : (found : List ℕ) → ((n : ℕ) → In n found → IsMovable g b ambiguous n) →
        leads (area_for p) w1 items (map b.address found) ≡ map b.address (filter moves (leads_of p g (items_of p g old pinned) found))
    leads-are found each =
        let area = area_for p in
        let firsts = slots_outside p g b old in
        let whole = flat_map (slots_of_name p g b) pinned in
        let more = flat_map (slots_of_name p g b) found in
        ap (λ (l : List ℕ). targets area w1 (items ++ l)) (slots-named found (λ n i. (let m = each n i in (m.0.0, m.0.1))))
        ∙ ap (λ (l : List ℕ). targets area w1 (l ++ more)) items-are
        ∙ targets-append area w1 (filter (holds_young area w) firsts ++ whole) more
        ∙ ap (λ (l : List ℕ). l ++ targets area w1 more) (targets-append area w1 (filter (holds_young area w) firsts) whole
        ∙ ap (λ (l : List ℕ). l ++ targets area w1 whole) (targets-filter area w1 w firsts outside) ∙ sym (targets-append area w1 firsts whole))
        ∙ sym (targets-append area w1 (firsts ++ whole) more)
        ∙ targets-are ((firsts ++ whole) ++ more) (leads_of p g (items_of p g old pinned) found) (all-hold found (λ n i. (each n i).0.1))

    leads-stand : (found : List ℕ) → ((n : ℕ) → In n found → IsMovable g b ambiguous n) → (n : ℕ) → In n (leads_of p g (items_of p g old pinned) found) →
        b.stands n ≡ true
    leads-stand found each n h = go ((slots_outside p g b old ++ flat_map (slots_of_name p g b) pinned) ++ flat_map (slots_of_name p g b) found)
        (leads_of p g (items_of p g old pinned) found)
        (all-hold found (λ n i. (each n i).0.1)) h
      where
        go : (slots names : List ℕ) → Hold slots names → In n names → b.stands n ≡ true
        go [] [] k h = absurd (let z = h in cc)
        go [] (m ∷ names) k h = absurd k
        go (s ∷ slots) [] k h = absurd k
        go (s ∷ slots) (m ∷ names) k h = elim (has-cases n m names h) [
          | inl e ↦ ap b.stands e ∙ k.0.1
          | inr i ↦ go slots names k.1 i
        ]

    -- the names of what is found, one after another
    pub record AreNamed (found : List ℕ) : Type 0 where
      pub names : List ℕ
      pub at : map b.address names ≡ found
      pub each : (n : ℕ) → In n names → IsMovable g b ambiguous n
      pub found_by : IsFoundBy (IsMovable g b ambiguous) (leads_of p g (items_of p g old pinned)) names

    named : (found : List ℕ) → IsFoundBy (λ _. Unit {0}) (leads (area_for p) w1 items) found → AreNamed found
    named _ Begins = record { names = []; at = refl; each = λ n h. absurd (let z = h in cc); found_by = Begins }
    named _ (Finds before x more first) =
        let q = named before more in
        let e : map b.address (filter moves (leads_of p g (items_of p g old pinned) q.names)) ≡ first.passed ++ x ∷ first.rest =
        sym (leads-are q.names q.each) ∙ ap (λ (l : List ℕ). leads (area_for p) w1 items l) q.at ∙ first.split in
        let s = split-at b.address moves (leads_of p g (items_of p g old pinned) q.names) first.passed x first.rest e in
        let mine : In s.name (leads_of p g (items_of p g old pinned) q.names) = subst (λ (l : List ℕ). In s.name l) (sym s.split)
        (in-middle s.before s.name s.rest) in
        let is = movable s.name (leads-stand q.names q.each s.name mine) s.passes in
        record {
          names = q.names ++ s.name ∷ [];
          at = map-append b.address q.names (s.name ∷ []) ∙ ap (λ (l : List ℕ). l ++ b.address s.name ∷ []) q.at ∙ ap (λ (z : ℕ). before ++ z ∷ []) s.at;
          each = λ n h. elim (last-cases n s.name q.names h) [
            | inl k ↦ subst (IsMovable g b ambiguous) (sym k) is
            | inr i ↦ q.each n i
          ];
          found_by = Finds q.names s.name q.found_by (record {
            passed = s.before;
            rest = s.rest;
            split = s.split;
            of_sort = is;
            new = out s.name q.names (λ i. false≢true (sym first.new ∙ subst (λ (l : List ℕ). In x l) q.at
                (subst (λ (z : ℕ). In z (map b.address q.names)) s.at (in_map b.address s.name q.names i))));
            known = λ m i k. in-names q.names (λ n j. (q.each n j).0.1) m k.0.1
                (subst (λ (l : List ℕ). In (b.address m) l) (sym q.at) (first.known (b.address m) (s.known m i (moves-is m k)) tt));
          });
        }
      where
        in-middle : (xs : List ℕ) (y : ℕ) (ys : List ℕ) → In y (xs ++ y ∷ ys)
        in-middle [] y ys = in-here y y ys refl
        in-middle (x ∷ xs) y ys = in-there y x (xs ++ y ∷ ys) (in-middle xs y ys)

    -- the whole search
    pub record IsNamedSearch (found : List ℕ) : Type 0 where
      pub names : List ℕ
      pub at : map b.address names ≡ found
      pub each : (n : ℕ) → In n names → IsMovable g b ambiguous n
      pub searched : IsSearched (IsMovable g b ambiguous) (leads_of p g (items_of p g old pinned)) names

    pub named-search : (found : List ℕ) → IsSearched (λ _. Unit {0}) (leads (area_for p) w1 items) found → IsNamedSearch found
    named-search found s =
        let q = named found s.each in
        record {
          names = q.names;
          at = q.at;
          each = q.each;
          searched = record {
            each = q.found_by;
            all = λ n h k. in-names q.names (λ n j. (q.each n j).0.1) n k.0.1
                (subst (λ (l : List ℕ). In (b.address n) l) (sym q.at) (s.all (b.address n)
                (subst (λ (l : List ℕ). In (b.address n) l) (sym (leads-are q.names q.each) ∙ ap (λ (l : List ℕ). leads (area_for p) w1 items l) q.at)
                (in_map b.address n (filter moves (leads_of p g (items_of p g old pinned) q.names))
                (filter-in moves n (leads_of p g (items_of p g old pinned) q.names) h (moves-is n k)))) tt));
          };
        }

-- names of numbers that have one
pub names-of : (b : Book) (sort : ℕ → Type 0) (xs : List ℕ) → ((a : ℕ) → In a xs → (n : ℕ) × sort n × (b.address n ≡ a)) → (ns : List ℕ) ×
    (map b.address ns ≡ xs) × ((n : ℕ) → In n ns → sort n)
names-of b sort [] each = ([], refl, λ n h. absurd (let z = h in cc))
names-of b sort (a ∷ xs) each =
    let first = each a (in-here a a xs refl) in
    let more = names-of b sort xs (λ z i. each z (in-there z a xs i)) in (
      first.0 ∷ more.0,
      ap (λ (z : ℕ). z ∷ map b.address more.0) first.2 ∙ ap (λ (l : List ℕ). a ∷ l) more.1,
      λ n h. elim (has-cases n first.0 more.0 h) [
        | inl e ↦ subst sort (sym e) first.1
        | inr i ↦ more.2 n i
      ],
    )

-- what goes, for n slot words, and then the rest
abbrev FirstFits : Area → (ℕ → ℕ) → (ℕ → ℕ) → (ℕ → BlockWord) → (ℕ → ℕ) → ℕ → List ℕ → List ℕ → List ℕ → (ℕ → BlockWord) → (ℕ → ℕ) → ℕ → Type 0
FirstFits area w m block used x moves fails found block' used' z = (b : ℕ) × (i : ℕ) × (rest : List ℕ) × IsLowest area block used z b i ×
    (m x ≡ place area b z i) ×
    (moves ≡ x ∷ rest) × Fits area w m (put block b (Swept z)) (put used b (bit_or (used b) (2 ^ i))) rest fails found block' used'

-- what fits, by words that give these objects the same sizes
pub fits-same : (area : Area) (w v m : ℕ → ℕ) (block block' : ℕ → BlockWord) (used used' : ℕ → ℕ) (moves fails found : List ℕ) →
    ((a : ℕ) → In a found → w (a + 1) ≡ v (a + 1)) →
    Fits area w m block used moves fails found block' used' → Fits area v m block used moves fails found block' used'
fits-same area w v m block block' used used' moves fails [] same f = f
fits-same area w v m block block' used used' moves fails (x ∷ found) same f =
    let size : slot_size (size_of w x) ≡ slot_size (size_of v x) = ap (λ (z : ℕ). slot_size (z + 2)) (same x (in-here x x found refl)) in
    let more = λ (a : ℕ) (i : In a found). same a (in-there a x found i) in
    elim f [
      | inl first ↦
          let q = first in
          inl (subst (FirstFits area v m block used x moves fails found block' used') size (
            q.0,
            q.1,
            q.2,
            q.3,
            q.4,
            q.5,
            fits-same area w v m (put block q.0 (Swept (slot_size (size_of w x)))) block' (put used q.0 (bit_or (used q.0) (2 ^ q.1))) used' q.2 fails found
                more q.6,
          ))
      | inr q ↦ inr (
        q.0,
        λ c there. subst (λ (z : ℕ). IsPassed block used z c) size (q.1 c there),
        q.2,
        fits-same area w v m block block' used used' moves q.0 found more q.3,
      )
    ]
