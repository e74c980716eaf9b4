-- One order of whole statements has one report.
use Rattle.std.proofs.Common.{map, ◌≡◌, ◌≢◌, ℕ, suc, ◌≤◌, ◌↔◌, Bool, true, false, inl, inr, IsTrue, List, [], ◌∷◌, sym, refl, ap, ◌∙◌, subst, arith, le_refl}
use Rattle.std.proofs.lemmas.Bool.{cases_lt}
use Rattle.sg_words.specs.Words.{put}
use Rattle.sg_words.specs.Lists.{Pairwise}
use Rattle.sg_words.proofs.Puts.{put-same, put-other}
use Rattle.sg_program.specs.declared.program.Statement.{Statement}
use Rattle.sg_program.specs.declared.program.Statement.TheVariants.{New, NewV, Mature, Put, PutD, GPut, WSet, NextFin, Collect, Sections}
use Rattle.sg_program.specs.declared.program.Program.{Program}
use Rattle.sg_program.specs.declared.answers.Answer.{Answer}
use Rattle.sg_program.specs.declared.answers.Answer.TheVariants.{At, Nil, Null, Number, Fine, Yes, No, Field, Full}
use Rattle.sg_program.specs.declared.answers.Leave.{Leave}
use Rattle.sg_program.specs.declared.answers.Leave.TheVariants.{Ended, Yield, Wants}
use Rattle.sg_program.specs.declared.answers.Request.{Request}
use Rattle.sg_program.specs.declared.answers.Request.TheVariants.{Need, Slot}
use Rattle.sg_graph.specs.declared.reports.Part.{Part}
use Rattle.sg_graph.specs.declared.reports.EpochReport.{EpochReport}
use Rattle.sg_program.specs.Scripts.{words_for, fields_of, IsMature}
use Rattle.sg_graph.specs.Graph.{Graph, Mutator, advanced}
use Rattle.sg_graph.specs.Statements.{Answers, heap_after, hands_after}
use Rattle.sg_graph.specs.Book.{Book, Section, Old, placed_in, swept_in, slot_at, slot_words, Claims, IsPlaced, IsSlotted, words_of_class, Books}
use Rattle.sg_graph.specs.Epoch.{Said, Turn, Explains, answers_of, by_address, Asks, Leaves, IsPart, running, left, AllEnded, IsEpoch}
use Rattle.sg_graph.specs.Laws.{AgreeOnNew, HasOneReport, TurnsKeepOld, leaves_of}

-- the lowest fragment with room is one
one_claim : (p : Program) (b : Book) (k n name f e : ℕ) (c d : Book) → Claims p b k n name f c → Claims p b k n name e d → f ≡ e
one_claim p b k n name f e c d x y = elim (cases_lt f e) [
  | inl l ↦ absurd (let r = y.lowest f l in let q = x.room in omega arith)
  | inr above ↦ elim (cases_lt e f) [
    | inl l ↦ absurd (let r = x.lowest e l in let q = y.room in omega arith)
    | inr below ↦ omega arith
  ]
]

one_place : (p : Program) (b : Book) (k n name : ℕ) (c d : Book) → IsPlaced p b k n name c → IsPlaced p b k n name d → c ≡ d
one_place p b k n name c d (small, inl x) (small', inl y) = x.after ∙ sym y.after
one_place p b k n name c d (small, inl x) (small', inr y) = absurd (let r = x.room in let s = y.1.short in omega arith)
one_place p b k n name c d (small, inr x) (small', inl y) = absurd (let r = y.room in let s = x.1.short in omega arith)
one_place p b k n name c d (small, inr (f, x)) (small', inr (e, y)) =
    let there = subst (λ j. Claims p b k n name j d) (sym (one_claim p b k n name f e c d x y)) y in x.after ∙ sym there.after

-- with one address for its object, a slot is one
one_slot : (p : Program) (g : Graph) (b : Book) (z name : ℕ) (c d : Book) → IsSlotted p g b z name c → IsSlotted p g b z name d →
    c.address name ≡ d.address name → c ≡ d
one_slot p g b z name c d x y e = x.after ∙ ap (λ (a : ℕ). placed_in b Old name a) same ∙ sym y.after
  where
    same : slot_at p x.block z x.slot ≡ slot_at p y.block z y.slot
    same =
        sym (put-same b.address name (slot_at p x.block z x.slot))
        ∙ sym (ap (λ (w : Book). w.address name) x.after)
        ∙ e
        ∙ ap (λ (w : Book). w.address name) y.after
        ∙ put-same b.address name (slot_at p y.block z y.slot)

-- the object that a statement makes in the major heap, if it makes one, has one address in both books
abbrev AgreesAt : Graph → Statement → Book → Book → Type 0
AgreesAt g s c d = IsMature s → c.address (suc g.count) ≡ d.address (suc g.count)

one_book : (p : Program) (g : Graph) (b : Book) (k : ℕ) (m : Mutator) (s : Statement) (answer : Answer) (c d : Book) → Answers p g m s answer →
    Books p g b k s answer c → Books p g b k s answer d → AgreesAt g s c d → c ≡ d
one_book p g b k m (New r class) (At name) c d a x y e = one_place p b k (words_of_class p class) name c d x y
one_book p g b k m (New r class) answer c d a x y e = absurd x
one_book p g b k m (NewV r class count) (At name) c d a x y e = one_place p b k (words_for count) name c d x y
one_book p g b k m (NewV r class count) answer c d a x y e = absurd x
one_book p g b k m (Mature r class) (At name) c d a x y e =
    one_slot p g b (slot_words (fields_of p class)) name c d x y (subst (λ (n : ℕ). c.address n ≡ d.address n) (sym a) (e tt))
one_book p g b k m (Mature r class) answer c d a x y e = absurd x
one_book p g b k m (Collect major) answer c d a x y e = absurd x
one_book p g b k m Sections answer c d a x y e = absurd x
one_book p g b k m s answer c d a x y e = x ∙ sym y

-- an order's next statement is one
same_statement : (p : Program) (g : Graph) (b b' : Book) (said : Said) (h i : Graph) (c d : Book) (t : Turn p g b said h c) (u : Turn p g b' said i d) →
    (t.statement ≡ u.statement) × (t.rest ≡ u.rest)
same_statement p g b b' said h i c d t u = (cc both, cc both)
  where
    both : (t.statement ∷ t.rest) ≡ (u.statement ∷ u.rest)
    both = sym t.next ∙ u.next

-- a whole statement leads to one graph, wherever objects stand
pub turn_graph : (p : Program) (g : Graph) (b b' : Book) (said : Said) (h i : Graph) (c d : Book) → Turn p g b said h c → Turn p g b' said i d → h ≡ i
turn_graph p g b b' said h i c d t u =
    let same = same_statement p g b b' said h i c d t u in
    t.does.1 ∙ ap (λ s. does s t.rest) same.0 ∙ ap (does u.statement) same.1 ∙ sym u.does.1
  where
    does : Statement → List Statement → Graph
    does s rest = advanced (heap_after p g said.by (g.mutator said.by) s said.answer) said.by (hands_after (g.mutator said.by) s said.answer) rest

-- and, with one address for an object of the major heap, to one book
pub turn_book : (p : Program) (g : Graph) (b : Book) (said : Said) (h i : Graph) (c d : Book) (t : Turn p g b said h c) → Turn p g b said i d →
    AgreesAt g t.statement c d → c ≡ d
turn_book p g b said h i c d t u e =
    let same = same_statement p g b b said h i c d t u in
    one_book p g b said.by (g.mutator said.by) t.statement said.answer c d t.does.0 t.books
    (subst (λ s. Books p g b said.by s said.answer d) (sym same.0) u.books) e

-- an order leads to one graph
one_graph : (p : Program) (g : Graph) (b b' : Book) (order : List Said) (h i : Graph) (c d : Book) → Explains p g b order h c → Explains p g b' order i d → h ≡ i
one_graph p g b b' [] h i c d x y = x.0 ∙ sym y.0
one_graph p g b b' (said ∷ order) h i c d (h1, c1, t, x) (i1, d1, u, y) =
    one_graph p h1 c1 d1 order h i c d x (subst (λ z. Explains p z d1 order i d) (sym (turn_graph p g b b' said h1 i1 c1 d1 t u)) y)

-- the object with this name stands in both books alike
abbrev StandsSame : Book → Book → ℕ → Type 0
StandsSame b c n = (c.stands n ≡ b.stands n) × (c.section n ≡ b.section n) × (c.address n ≡ b.address n)

other_stays : (b : Book) (section : Section) (name x n : ℕ) → n ≢ name → StandsSame b (placed_in b section name x) n
other_stays b section name x n d = (put-other b.stands name true n d, put-other b.section name section n d, put-other b.address name x n d)

young_stays : (p : Program) (b : Book) (k words name n : ℕ) (c : Book) → n ≢ name → IsPlaced p b k words name c → StandsSame b c n
young_stays p b k words name n c d (small, inl x) = subst (λ (w : Book). StandsSame b w n) (sym x.after) (other_stays b Section.Young name (b.from k) n d)
young_stays p b k words name n c d (small, inr (f, x)) = subst (λ (w : Book). StandsSame b w n) (sym x.after) (other_stays b Section.Young name (b.next f) n d)

-- a statement lets the objects that there were stand as they stood
statement_stays : (p : Program) (g : Graph) (b : Book) (k : ℕ) (m : Mutator) (s : Statement) (answer : Answer) (c : Book) (n : ℕ) → Answers p g m s answer →
    Books p g b k s answer c → n ≤ g.count → StandsSame b c n
statement_stays p g b k m (New r class) (At name) c n a x l =
    young_stays p b k (words_of_class p class) name n c (λ e. absurd (let a : name ≡ suc g.count = a in omega arith)) x
statement_stays p g b k m (New r class) answer c n a x l = absurd x
statement_stays p g b k m (NewV r class count) (At name) c n a x l =
    young_stays p b k (words_for count) name n c (λ e. absurd (let a : name ≡ suc g.count = a in omega arith)) x
statement_stays p g b k m (NewV r class count) answer c n a x l = absurd x
statement_stays p g b k m (Mature r class) (At name) c n a x l =
    subst (λ (w : Book). StandsSame b w n) (sym x.after)
    (other_stays b Old name (slot_at p x.block (slot_words (fields_of p class)) x.slot) n (λ e. absurd (let a : name ≡ suc g.count = a in omega arith)))
statement_stays p g b k m (Mature r class) answer c n a x l = absurd x
statement_stays p g b k m (Collect major) answer c n a x l = absurd x
statement_stays p g b k m Sections answer c n a x l = absurd x
statement_stays p g b k m s answer c n a x l = subst (λ (w : Book). StandsSame b w n) (sym x) (refl, refl, refl)

-- and no object is removed
counts_up : (p : Program) (g : Graph) (k : ℕ) (m : Mutator) (s : Statement) (a : Answer) → g.count ≤ (heap_after p g k m s a).count
counts_up p g k m (New r class) (At name) = omega arith
counts_up p g k m (NewV r class count) (At name) = omega arith
counts_up p g k m (Mature r class) (At name) = omega arith
counts_up p g k m (Put r i s) Fine = le_refl g.count
counts_up p g k m (PutD r i s) Fine = le_refl g.count
counts_up p g k m (GPut x r) Fine = le_refl g.count
counts_up p g k m (WSet w r long) Fine = le_refl g.count
counts_up p g k m (NextFin r) (At name) = le_refl g.count
counts_up p g k m s a = le_refl g.count

turn_counts : (p : Program) (g : Graph) (b : Book) (said : Said) (h : Graph) (c : Book) → Turn p g b said h c → g.count ≤ h.count
turn_counts p g b said h c t = subst (λ (z : Graph). g.count ≤ z.count) (sym t.does.1) (counts_up p g said.by (g.mutator said.by) t.statement said.answer)

order_stays : (p : Program) (g : Graph) (b : Book) (order : List Said) (h : Graph) (c : Book) (n : ℕ) → Explains p g b order h c → n ≤ g.count → StandsSame b c n
order_stays p g b [] h c n x l = subst (λ (w : Book). StandsSame b w n) (sym x.1) (refl, refl, refl)
order_stays p g b (said ∷ order) h c n (h1, c1, t, x) l =
    let q = statement_stays p g b said.by (g.mutator said.by) t.statement said.answer c1 n t.does.0 t.books l in
    let r = order_stays p h1 c1 order h c n x (let up = turn_counts p g b said h1 c1 t in omega arith) in
    (r.0 ∙ q.0, r.1 ∙ q.1, r.2 ∙ q.2)

pub turns_keep_old : TurnsKeepOld
turns_keep_old p g b said h c t = record {
  counts = turn_counts p g b said h c t;
  stands = λ name l. (stays name l).0;
  section = λ name l. (stays name l).1;
  address = λ name l. (stays name l).2;
}
  where
    stays : (name : ℕ) → name ≤ g.count → StandsSame b c name
    stays name l = statement_stays p g b said.by (g.mutator said.by) t.statement said.answer c name t.does.0 t.books l

-- what a statement that makes an object in the major heap leaves: one object more, which stands there
pub record MadeOld (g : Graph) (h : Graph) (c : Book) : Type 0 where
  pub grows : h.count ≡ suc g.count
  pub stands : c.stands (suc g.count) ≡ true
  pub old : c.section (suc g.count) ≡ Old

pub made_old : (p : Program) (g : Graph) (b : Book) (k : ℕ) (m : Mutator) (s : Statement) (answer : Answer) (c : Book) → IsMature s → Answers p g m s answer →
    Books p g b k s answer c → MadeOld g (heap_after p g k m s answer) c
made_old p g b k m (Mature r class) (At name) c mature a x =
    let x : IsSlotted p g b (slot_words (fields_of p class)) (suc g.count) c = subst (λ (n : ℕ). IsSlotted p g b (slot_words (fields_of p class)) n c) a x in
    record {
      grows = refl;
      stands = ap (λ (w : Book). w.stands (suc g.count)) x.after ∙ put-same b.stands (suc g.count) true;
      old = ap (λ (w : Book). w.section (suc g.count)) x.after ∙ put-same b.section (suc g.count) Old;
    }
made_old p g b k m (Mature r class) answer c mature a x = absurd x
made_old p g b k m s answer c mature a x = absurd mature

-- with one address for each new object of the major heap, an order leads to one book
one_order : (p : Program) (g : Graph) (b : Book) (order : List Said) (h i : Graph) (c d : Book) → Explains p g b order h c → Explains p g b order i d →
    AgreeOnNew g.count c d → c ≡ d
one_order p g b [] h i c d x y agree = x.1 ∙ sym y.1
one_order p g b (said ∷ order) h i c d (h1, c1, t, x) (i1, d1, u, y) agree =
    one_order p h1 c1 order h i c d x (subst (λ z. Explains p h1 z order i d) (sym book) there)
    (λ name o o'. agree name (record { new = (let up = turn_counts p g b said h1 c1 t in let new = o.new in omega arith); stands = o.stands; old = o.old })
    (record { new = (let up = turn_counts p g b said h1 c1 t in let new = o'.new in omega arith); stands = o'.stands; old = o'.old }))
  where
    graph : h1 ≡ i1
    graph = turn_graph p g b b said h1 i1 c1 d1 t u

    there : Explains p h1 d1 order i d
    there = subst (λ z. Explains p z d1 order i d) (sym graph) y

    here : AgreesAt g t.statement c1 d1
    here mature =
        let made = made_old p g b said.by (g.mutator said.by) t.statement said.answer c1 mature t.does.0 t.books in
        let made' = made_old p g b said.by (g.mutator said.by) u.statement said.answer d1
        (subst IsMature (same_statement p g b b said h1 i1 c1 d1 t u).0 mature) u.does.0 u.books in
        let grows : h1.count ≡ suc g.count = ap (λ (z : Graph). z.count) t.does.1 ∙ made.grows in
        let later = order_stays p h1 c1 order h c (suc g.count) x (omega arith) in
        let later' = order_stays p h1 d1 order i d (suc g.count) there (omega arith) in
        sym later.2
        ∙ agree (suc g.count) (record { new = omega arith; stands = later.0 ∙ made.stands; old = later.1 ∙ made.old })
        (record { new = omega arith; stands = later'.0 ∙ made'.stands; old = later'.1 ∙ made'.old })
        ∙ later'.2

    book : c1 ≡ d1
    book = turn_book p g b said h1 i1 c1 d1 t u here

one_part : (p : Program) (g : Graph) (order : List Said) (h : Graph) (c : Book) (k : ℕ) (x y : Part) → IsPart p g order h c k x → IsPart p g order h c k y → x.leave ≡ y.leave → x ≡ y
one_part p g order h c k x y u v leave = λ i. record { mutator = number i; first = first i; answers = answers i; leave = leave i }
  where
    number : x.mutator ≡ y.mutator
    number = u.number ∙ sym v.number

    first : x.first ≡ y.first
    first = let e = u.first in let f = v.first in omega arith

    answers : x.answers ≡ y.answers
    answers = u.answers ∙ sym v.answers

one_list : (R : ℕ → Part → Type 0) → ((k : ℕ) (y z : Part) → R k y → R k z → y.leave ≡ z.leave → y ≡ z) → (xs : List ℕ) (ys zs : List Part) → Pairwise R xs ys → Pairwise R xs zs →
    map (λ (part : Part). part.leave) ys ≡ map (λ (part : Part). part.leave) zs → ys ≡ zs
one_list R one [] [] [] h k e = refl
one_list R one [] [] (z ∷ zs) h k e = absurd k
one_list R one [] (y ∷ ys) zs h k e = absurd h
one_list R one (x ∷ xs) [] zs h k e = absurd h
one_list R one (x ∷ xs) (y ∷ ys) [] h k e = absurd k
one_list R one (x ∷ xs) (y ∷ ys) (z ∷ zs) h k e = let f = one x y z h.0 k.0 (cc e) in let g = one_list R one xs ys zs h.1 k.1 (cc e) in cc

one_bool : (a b : Bool) (P : Type 0) → IsTrue a ↔ P → IsTrue b ↔ P → a ≡ b
one_bool true true P h k = refl
one_bool false false P h k = refl
one_bool true false P h k = sym (k.1 (h.0 refl))
one_bool false true P h k = h.1 (k.0 refl)

-- a sweep changes nothing but which blocks are owed
swept_same : (b : Book) (swept : List ℕ) → (owed : ℕ → Bool) × (swept_in b swept ≡ record b { owed = owed })
swept_same b [] = (b.owed, refl)
swept_same b (j ∷ more) = swept_same (record b { owed = put b.owed j false }) more

-- what a part says doesn't depend on which blocks are owed
module _ (p : Program) (b : Book) (owed owed' : ℕ → Bool) where
  abbrev by : (ℕ → Bool) → Book
  by owed = record b { owed = owed }

  same_answer : (a : Answer) → by_address (by owed) a ≡ by_address (by owed') a
  same_answer (At name) = refl
  same_answer Nil = refl
  same_answer Null = refl
  same_answer (Number n) = refl
  same_answer Fine = refl
  same_answer Yes = refl
  same_answer No = refl
  same_answer Field = refl
  same_answer Full = refl

  same_asks : (k : ℕ) (s : Statement) (request : Request) → Asks p (by owed) k s request → Asks p (by owed') k s request
  same_asks k (New r class) (Need words) x = (x.0, x.1, record { short = x.2.short; none = x.2.none })
  same_asks k (NewV r class count) (Need words) x = (x.0, x.1, record { short = x.2.short; none = x.2.none })
  same_asks k (Mature r class) (Slot size) x = x
  same_asks k s request x = x

  same_leaves : (k : ℕ) (leave : Leave) (script : List Statement) → Leaves p (by owed) k leave script → Leaves p (by owed') k leave script
  same_leaves k Ended script x = x
  same_leaves k Yield script x = x
  same_leaves k (Wants request) script (s, rest, e, asks) = (s, rest, e, same_asks k s request asks)

  same_part : (g : Graph) (order : List Said) (h : Graph) (k : ℕ) (part : Part) → IsPart p g order h (by owed) k part → IsPart p g order h (by owed') k part
  same_part g order h k part x = record {
    number = x.number;
    first = x.first;
    answers = x.answers ∙ (λ i. map (λ a. same_answer a i) (answers_of k order));
    leaves = same_leaves k part.leave (h.mutator k).script x.leaves;
  }

each_part : {A B : Type 0} (R S : A → B → Type 0) → ((a : A) (b : B) → R a b → S a b) → (xs : List A) (ys : List B) → Pairwise R xs ys → Pairwise S xs ys
each_part R S more [] [] h = tt
each_part R S more [] (y ∷ ys) h = absurd h
each_part R S more (x ∷ xs) [] h = absurd h
each_part R S more (x ∷ xs) (y ∷ ys) h = (more x y h.0, each_part R S more xs ys h.1)

module _ (p : Program) (e : ℕ) (g : Graph) (b : Book) (order : List Said) (swept swept' : List ℕ) (r s : EpochReport) (h i : Graph) (c d : Book)
    (x : IsEpoch p e g b order swept r h c) (y : IsEpoch p e g b order swept' s i d) where
  last_graph : x.last ≡ y.last
  last_graph = one_graph p g b b order x.last y.last x.book y.book x.explains y.explains

  graph : h ≡ i
  graph = x.after ∙ ap (λ (z : Graph). left z) last_graph ∙ sym y.after

  -- the books as the epochs end are those behind their whole statements, with other blocks owed
  abbrev owed : ℕ → Bool
  owed = (swept_same x.book swept).0

  abbrev owed' : ℕ → Bool
  owed' = (swept_same y.book swept').0

  this : c ≡ record x.book { owed = owed }
  this = x.sweeps ∙ (swept_same x.book swept).1

  that : d ≡ record y.book { owed = owed' }
  that = y.sweeps ∙ (swept_same y.book swept').1

  module _ (agree : AgreeOnNew g.count c d) where
    book_before : x.book ≡ y.book
    book_before = one_order p g b order x.last y.last x.book y.book x.explains y.explains (λ name o o'.
        sym (ap (λ (w : Book). w.address name) this)
        ∙ agree name (record {
          new = o.new;
          stands = ap (λ (w : Book). w.stands name) this ∙ o.stands;
          old = ap (λ (w : Book). w.section name) this ∙ o.old;
        }) (record {
          new = o'.new;
          stands = ap (λ (w : Book). w.stands name) that ∙ o'.stands;
          old = ap (λ (w : Book). w.section name) that ∙ o'.old;
        })
        ∙ ap (λ (w : Book). w.address name) that)

    there : Pairwise (IsPart p g order x.last c) (running p g) s.parts
    there =
        subst (λ z. Pairwise (IsPart p g order x.last z) (running p g) s.parts) (sym this)
        (each_part (IsPart p g order x.last (record x.book { owed = owed' })) (IsPart p g order x.last (record x.book { owed = owed }))
        (same_part p x.book owed' owed g order x.last) (running p g) s.parts
        (subst (λ (z : Book). Pairwise (IsPart p g order x.last (record z { owed = owed' })) (running p g) s.parts) (sym book_before)
        (subst (λ z. Pairwise (IsPart p g order x.last z) (running p g) s.parts) that
        (subst (λ z. Pairwise (IsPart p g order z d) (running p g) s.parts) (sym last_graph) y.parts))))

    report : leaves_of r ≡ leaves_of s → r ≡ s
    report e = λ j. record { number = number j; last = last j; parts = parts j }
      where
        number : r.number ≡ s.number
        number = x.number ∙ sym y.number

        last : r.last ≡ s.last
        last = one_bool r.last s.last (AllEnded p h) x.ends (subst (λ z. IsTrue s.last ↔ AllEnded p z) (sym graph) y.ends)

        parts : r.parts ≡ s.parts
        parts = one_list (IsPart p g order x.last c) (one_part p g order x.last c) (running p g) r.parts s.parts x.parts there e

pub one_report : HasOneReport
one_report = record {
  graph = graph;
  book = λ p e g b order swept r s h i c d x y agree.
      x.sweeps ∙ ap (λ w. swept_in w swept) (book_before p e g b order swept swept r s h i c d x y agree) ∙ sym y.sweeps;
  report = report;
}
