-- From the words that a major pause leaves to the graph and the book.
use Rattle.std.proofs.Common.{◌≡◌, ◌≢◌, ℕ, ◌+◌, ◌^◌, ◌≤◌, ◌<◌, ◌⊎◌, Bool, true, false, Option, Some, None, List, length, slice_index, sym, refl, ap, ◌∙◌, subst, inl, inr, arith}
use Rattle.std.proofs.lemmas.Bool.{cases_eq, cases_Bool, eq-eqb, ne_eqb, false≢true}
use Rattle.std.proofs.lemmas.Option.{same_Some, none-some}
use Rattle.std.specs.List.{Contains}
use Rattle.std.specs.Int.{bit_at}
use Rattle.sg_words.specs.Pieces.{fronts_of, ends_of}
use Rattle.sg_words.specs.Sections.{nursery_base, IsYoung}
use Rattle.sg_words.specs.declared.layout.Layout.{Layout}
use Rattle.sg_words.proofs.Fragments.{same_count}
use Rattle.sg_desc.specs.Shapes.{holds_reference}
use Rattle.sg_program.specs.declared.program.Program.{Program}
use Rattle.sg_program.specs.Scripts.{kind_of, words_for}
use Rattle.sg_graph.specs.declared.reports.MajorReport.{MajorReport}
use Rattle.sg_graph.specs.Graph.{Graph, Ref}
use Rattle.sg_graph.specs.Book.{Book, Young, nursery_end}
use Rattle.sg_graph.specs.Heap.{Owner, IsHeap, IsOfSort, layout_of}
use Rattle.sg_graph.specs.Blocks.{AreSettled}
use Rattle.sg_graph.specs.Invariants.{IsPlain}
use Rattle.sg_graph.specs.Laws.{QuietPause}
use Rattle.sg_space.specs.declared.objects.Object.{Object}
use Rattle.sg_space.specs.Space.{Contents, IsContents, words_of}
use Rattle.sg_space.specs.Standing.{word, block_in, TellsYoung}
use Rattle.sg_heap.specs.Holding.{IsSpaceOf}
use Rattle.sg_heap.specs.Fronts.{fronts, IsFronted}
use Rattle.sg_mark.specs.Marking.{HasMarked}
use Rattle.sg_nursery.specs.Pieces.{IsTaken, ArePieces, first_word}
use Rattle.sg_major.specs.Parts.{AreRoots, HasFinished, is_marked, marked_among}
use Rattle.sg_major.proofs.Told.{told_of, told_at, told_stand}
use Rattle.sg_major.proofs.Standing.{passed, passes}
use Rattle.sg_major.proofs.Reached.{live, live_nil, live_stood, live_now, now_live, live_closed, live_global}
use Rattle.sg_major.proofs.Shrunk.{Shrunk, booked, tile-of}
use Rattle.sg_major.proofs.Owing.{owes, never_swept}

option_cases : (o : Option ℕ) → (o ≡ None) ⊎ ((h : ℕ) × (o ≡ Some h))
option_cases None = inl refl
option_cases (Some h) = inr (h, refl)

sort-of-ref : (z : Bool) (k : ℕ) → IsOfSort z (Ref k) → z ≡ true
sort-of-ref true k h = refl
sort-of-ref false k h = absurd h

-- What is known after marking: t is the space before it, in which no object is marked.
pub record Marked : Type 0 where
  pub p : Program
  pub g : Graph
  pub b : Book
  pub t : Contents
  pub owner : ℕ → Owner
  pub ambiguous : List ℕ
  pub roots : List ℕ
  pub m : Contents
  pub told : List Object
  pub quiet : QuietPause
  pub plain : IsPlain p g
  pub contents : IsContents t
  pub is : IsSpaceOf p t b
  pub heap : IsHeap p (word t) g b owner
  pub settled : AreSettled p (words_of t) g b owner
  pub fronted : IsFronted p t g b owner
  pub tells : TellsYoung t (fronts b.address owner) told
  pub are : AreRoots t (fronts b.address owner) ambiguous roots
  pub marked : HasMarked t (fronts b.address owner) (λ _. false) roots m

module _ (c : Marked) where
  abbrev pub firsts : ℕ → Option ℕ
  firsts = fronts c.b.address c.owner

  abbrev pub now : ℕ → Bool
  now = c.marked.now

  abbrev pub alive : ℕ → Bool
  alive = live c.p c.t c.g c.b c.owner c.is.layout c.contents.layout c.heap c.fronted c.ambiguous c.roots c.are now c.marked.exact

  pub stood : (n : ℕ) → alive n ≡ true → c.b.stands n ≡ true
  stood = live_stood c.p c.t c.g c.b c.owner c.is.layout c.contents.layout c.heap c.fronted c.ambiguous c.roots c.are now c.marked.exact

  pub alive_now : (n : ℕ) → n ≢ 0 → alive n ≡ true → now (c.b.address n) ≡ true
  alive_now = live_now c.p c.t c.g c.b c.owner c.is.layout c.contents.layout c.heap c.fronted c.ambiguous c.roots c.are now c.marked.exact

  pub now_alive : (n : ℕ) → n ≢ 0 → c.b.stands n ≡ true → now (c.b.address n) ≡ true → alive n ≡ true
  now_alive = now_live c.p c.t c.g c.b c.owner c.is.layout c.contents.layout c.heap c.fronted c.ambiguous c.roots c.are now c.marked.exact

  pub front_is : (n : ℕ) → n ≢ 0 → c.b.stands n ≡ true → firsts (c.b.address n) ≡ Some (c.b.address n)
  front_is n d s = c.fronted.is_owned n (c.b.address n) d (c.fronted.owns_first n s)

  -- a young name
  pub record IsYoungName (n : ℕ) : Type 0 where
    pub some : n ≢ 0
    pub stands : c.b.stands n ≡ true
    pub young : c.b.section n ≡ Young

  -- the name of an object on the list
  pub told_named : (o : Object) → Contains c.told o → (n : ℕ) × IsYoungName n × (first_word o ≡ c.b.address n) × (o.words ≡ words_for (c.g.size n))
  told_named o i =
      let q = told_of c.t firsts c.fronted.sound c.told c.tells o i in
      let h = q.0 in
      let n = c.fronted.named_front h h q.1 in
      let s = (c.fronted.owned n.0 h n.2).0 in
      let at = n.3 in
      let first = q.3.at in
      let words = q.3.words in
      let size : word c.t (h + 1) ≡ c.g.size n.0 = ap (λ z. word c.t (z + 1)) (sym at) ∙ c.fronted.length_is n.0 n.1 s in
      let nursery = c.fronted.nursery_is in
      let below = q.2.1 in
      (n.0, record { some = n.1; stands = s; young = c.fronted.young_there n.0 n.1 s (omega arith) }, omega arith, omega arith)

  pub named_told : (n : ℕ) → IsYoungName n → (o : Object) × Contains c.told o × (first_word o ≡ c.b.address n) × (o.words ≡ words_for (c.g.size n))
  named_told n y =
      let place = c.fronted.young_inside n y.some y.stands y.young in
      let from = place.0 in
      let to = place.1 in
      let nursery = c.fronted.nursery_is in
      let q = told_at c.t firsts c.fronted.sound c.told c.tells (c.b.address n) (front_is n y.some y.stands) (omega arith, omega arith) in
      let first = q.2.at in
      let words = q.2.words in
      let size = c.fronted.length_is n y.some y.stands in
      (q.0, q.1, omega arith, omega arith)

  -- the mark of a young object
  pub young_at : (n : ℕ) → IsYoungName n → IsYoung c.t.layout (c.b.address n)
  young_at n y =
      let place = c.fronted.young_inside n y.some y.stands y.young in
      let from = place.0 in
      let to = place.1 in
      let nursery = c.fronted.nursery_is in
      (omega arith, omega arith)

  tag_small : (n : ℕ) → IsYoungName n → word c.t (c.b.address n) < 4096
  tag_small n y = let class = c.fronted.class_is n y.some y.stands in let few = c.fronted.few_classes n y.some y.stands in omega arith

  pub top_word : (n : ℕ) → IsYoungName n → alive n ≡ true → word c.m (c.b.address n) ≡ word c.t (c.b.address n) + 2 ^ 63
  top_word n y l = c.marked.has.top (c.b.address n) (front_is n y.some y.stands) (inl (young_at n y)) (alive_now n y.some l)

  pub low_word : (n : ℕ) → IsYoungName n → alive n ≡ false → word c.m (c.b.address n) ≡ word c.t (c.b.address n)
  low_word n y l = c.marked.has.rest (c.b.address n) (λ q. false≢true (sym l ∙ now_alive n y.some y.stands q.2))

  pub mark_is : (o : Object) (n : ℕ) → IsYoungName n → first_word o ≡ c.b.address n → is_marked (word c.m) o ≡ alive n
  mark_is o n y e = elim (cases_Bool (alive n)) [
    | inl l ↦
        (let w : word c.m (first_word o) ≡ word c.t (c.b.address n) + 2 ^ 63 = ap (word c.m) e ∙ top_word n y l in
        let small = tag_small n y in
        eq-eqb (bit_at (word c.m (first_word o)) 63) 1 (omega arith) ∙ sym l)
    | inr l ↦
        (let w : word c.m (first_word o) ≡ word c.t (c.b.address n) = ap (word c.m) e ∙ low_word n y l in
        let small = tag_small n y in
        ne_eqb (bit_at (word c.m (first_word o)) 63) 1 (λ z. absurd (omega arith)) ∙ sym l)
  ]

  -- a word that begins no object, or lies behind the nursery, is as it was
  pub same_behind : (x : ℕ) → nursery_end c.p ≤ x → word c.m x ≡ word c.t x
  same_behind x l = c.marked.has.rest x (λ q. elim q.1 [
    | inl y ↦ (let u = y.1 in let nursery = c.fronted.nursery_is in omega arith)
    | inr y ↦
        (let n = c.fronted.named_front x x q.0 in
        let s = (c.fronted.owned n.0 x n.2).0 in
        let at = n.3 in
        let from = y.0 in
        let nursery = c.fronted.nursery_is in
        let blocks = c.fronted.blocks_is in
        elim (c.heap.laid.objects.inside n.0 (let d = n.1 in omega arith) s) [
          | inl i ↦ (let top = i.2 in omega arith)
          | inr i ↦ (let top = i.2 in omega arith)
        ])
  ])

  pub same_within : (x h : ℕ) → firsts x ≡ Some h → x ≢ h → word c.m x ≡ word c.t x
  same_within x h e d = c.marked.has.rest x (λ q. d (same_Some _ _ (sym q.0 ∙ e)))

  pub same_free : (x : ℕ) → firsts x ≡ None → word c.m x ≡ word c.t x
  same_free x e = c.marked.has.rest x (λ q. none-some _ (sym e ∙ q.0))

  -- the pause has ended in v
  module _ (v : Contents) (report : MajorReport) (done : HasFinished c.m c.told v report) where
    abbrev pub standing : List Object
    standing = marked_among (word c.m) c.told

    word_is : (x : ℕ) → word v x ≡ word done.swept x
    word_is x = ap (λ (z : Contents). slice_index z.words x) done.owes.same

    -- no object of the list has a word behind the nursery
    not_taken : (x : ℕ) → nursery_end c.p ≤ x → IsTaken c.told x → ⊥
    not_taken x l q =
        let stand = (told_stand c.t firsts c.fronted.sound c.told c.tells).each q.0 q.1 in
        let end = stand.2 in
        let to = q.3 in
        let nursery = c.fronted.nursery_is in
        omega arith

    pub behind : (x : ℕ) → nursery_end c.p ≤ x → word v x ≡ word c.t x
    behind x l = word_is x ∙ done.sifted.others x (not_taken x l) ∙ same_behind x l

    same_young : (n x : ℕ) → IsYoungName n → alive n ≡ true → c.b.address n ≤ x → x < c.b.address n + words_for (c.g.size n) → word v x ≡ word c.t x
    same_young n x y l from to =
        let o = named_told n y in
        let first = o.2 in
        let words = o.3 in
        let marked = mark_is o.0 n y o.2 ∙ l in
        elim (cases_eq x (c.b.address n)) [
          | inl e ↦
              (let here : word v (c.b.address n) ≡ word c.t (c.b.address n) =
              (let a = done.sifted.unmarked o.0 o.1 marked in
              let top = top_word n y l in
              let at = ap (word done.swept) first in
              let at_m = ap (word c.m) first in
              let is = word_is (c.b.address n) in
              omega arith) in
              ap (word v) e ∙ here ∙ ap (word c.t) (sym e))
          | inr d ↦ word_is x ∙ done.sifted.kept o.0 x o.1 marked (omega arith) (omega arith)
              ∙ same_within x (c.b.address n) (c.fronted.is_owned n x y.some (c.fronted.owns n x y.stands from to)) d
        ]

    pub same : (n x : ℕ) → n ≢ 0 → alive n ≡ true → c.b.address n ≤ x → x < c.b.address n + words_for (c.g.size n) → word v x ≡ word c.t x
    same n x d l from to = elim (c.heap.laid.objects.inside n (omega (arith, d)) (stood n l)) [
      | inl i ↦ same_young n x (record { some = d; stands = stood n l; young = i.0 }) l from to
      | inr i ↦ behind x (let low = i.1 in omega arith)
    ]

    -- the words of what isn't live become zero, and what was none's is zero still
    pub swept : (x : ℕ) → nursery_base ≤ x → x < nursery_end c.p → ((n : ℕ) → alive n ≡ true → c.b.address n ≤ x → x < c.b.address n + words_for (c.g.size n) → ⊥) → word v x ≡ 0
    swept x low high none = elim (option_cases (firsts x)) [
      | inl e ↦ word_is x ∙ done.sifted.others x (λ q.
          (let n = told_named q.0 q.1 in
          let first = n.2 in
          let words = n.3 in
          let from = q.2 in
          let to = q.3 in
          none-some _ (sym e ∙ c.fronted.is_owned n.0 x n.1.some (c.fronted.owns n.0 x n.1.stands (omega arith) (omega arith)))))
          ∙ same_free x e
          ∙ c.heap.laid.clear.clear x low high (λ n q. elim (cases_eq n 0) [
            | inl z ↦ (let o = c.fronted.owned n x q in let end = o.2 in let at = ap c.b.address z ∙ c.heap.laid.nothing.at_nil in let size = ap c.g.size z ∙
                c.heap.laid.nothing.no_size in omega arith)
            | inr d ↦ none-some _ (sym e ∙ c.fronted.is_owned n x d q)
          ])
      | inr q ↦
          (let n = c.fronted.named_front x q.0 q.1 in
          let o = c.fronted.owned n.0 x n.2 in
          let from = o.1 in
          let to = o.2 in
          let y : IsYoungName n.0 = record { some = n.1; stands = o.0; young = c.fronted.young_there n.0 n.1 o.0 (omega arith) } in
          let t = named_told n.0 y in
          let first = t.2 in
          let words = t.3 in
          elim (cases_Bool (alive n.0)) [
            | inl l ↦ absurd (none n.0 l o.1 o.2)
            | inr l ↦ word_is x ∙ done.sifted.zero t.0 x t.1 (mark_is t.0 n.0 y t.2 ∙ l) (omega arith) (omega arith)
          ])
    ]

    pub taken : (x n : ℕ) → n ≢ 0 → alive n ≡ true → c.b.section n ≡ Young → c.b.address n ≤ x → x < c.b.address n + words_for (c.g.size n) → IsTaken standing x
    taken x n d l young from to =
        let y : IsYoungName n = record { some = d; stands = stood n l; young = young } in
        let o = named_told n y in
        let first = o.2 in
        let words = o.3 in
        (o.0, passes (is_marked (word c.m)) c.told o.0 o.1 (mark_is o.0 n y o.2 ∙ l), omega arith, omega arith)

    pub named : (x : ℕ) → IsTaken standing x → (n : ℕ) × (n ≢ 0) × (alive n ≡ true) × (c.b.section n ≡ Young) × (c.b.address n ≤ x) × (x < c.b.address n + words_for (c.g.size n))
    named x q =
        let i = passed (is_marked (word c.m)) c.told q.0 q.1 in
        let n = told_named q.0 i.0 in
        let first = n.2 in
        let words = n.3 in
        let from = q.2 in
        let to = q.3 in
        (n.0, n.1.some, sym (mark_is q.0 n.0 n.1 n.2) ∙ i.1, n.1.young, omega arith, omega arith)

    pub closed : (n i k : ℕ) → alive n ≡ true → i < c.g.size n → c.g.field n i ≡ Ref k → alive k ≡ true
    closed n i k l within e = elim (cases_eq k 0) [
      | inl z ↦ ap alive z ∙ live_nil c.p c.t c.g c.b c.owner c.is.layout c.contents.layout c.heap c.fronted c.ambiguous c.roots c.are now c.marked.exact
      | inr d ↦
          (let some : n ≢ 0 = λ z. (let u = ap c.g.size z in let no = c.heap.laid.nothing.no_size in absurd (omega arith)) in
          let s = stood n l in
          let r = sort-of-ref (holds_reference (kind_of c.p (c.g.class n)) i (c.g.size n)) k
          (subst (λ z. IsOfSort (holds_reference (kind_of c.p (c.g.class n)) i (c.g.size n)) z) e (c.heap.laid.fields.sorted n i s within)) in
          let strong = c.quiet.strong c.p c.g c.plain n i (omega (arith, some)) (c.heap.laid.objects.given n s) ∙ r in
          live_closed c.p c.t c.g c.b c.owner c.is.layout c.contents.layout c.heap c.fronted c.ambiguous c.roots c.are now c.marked.exact c.plain n k some l
          (d, (i, within, strong, e)))
    ]

    pub layout_is : c.m.layout ≡ layout_of c.p
    layout_is = ap (λ (z : Contents). z.layout) c.marked.has.same ∙ c.is.layout

    abbrev pub shrunk : Shrunk
    shrunk = record {
      p = c.p;
      g = c.g;
      b = c.b;
      owner = c.owner;
      w = word c.t;
      v = word v;
      live = alive;
      owed = λ j. owes (block_in c.t j);
      standing = standing;
      pieces = report.pieces;
      heap = c.heap;
      nil = live_nil c.p c.t c.g c.b c.owner c.is.layout c.contents.layout c.heap c.fronted c.ambiguous c.roots c.are now c.marked.exact;
      stood = stood;
      closed = closed;
      globals = live_global c.p c.t c.g c.b c.owner c.is.layout c.contents.layout c.heap c.fronted c.ambiguous c.roots c.are now c.marked.exact c.plain;
      same = same;
      swept = swept;
      behind = behind;
      taken = taken;
      named = named;
      tiles = subst (λ (l : Layout). ArePieces l standing report.pieces) layout_is done.tiles;
    }

    pub space_of : IsSpaceOf c.p v (booked shrunk)
    space_of =
        let v_is = done.owes.same in
        let still = done.still.0 in
        let marks = c.marked.has.same in
        let next = ap (λ (z : Contents). z.next) v_is in
        let ends = ap (λ (z : Contents). z.ends) v_is in
        record {
          layout = ap (λ (z : Contents). z.layout) v_is ∙ ap (λ (z : Contents). z.layout) still ∙ layout_is;
          shapes = ap (λ (z : Contents). z.shapes) v_is ∙ ap (λ (z : Contents). z.shapes) still ∙ ap (λ (z : Contents). z.shapes) marks ∙ c.is.shapes;
          fragments = same_count report.pieces ∙ ap (λ (l : List ℕ). length l) (sym ends);
          same = ap (λ (l : List ℕ). length l) next ∙ same_count report.pieces ∙ ap (λ (l : List ℕ). length l) (sym ends);
          next = λ f l. ap (λ (k : List ℕ). slice_index k f) next ∙ (tile-of shrunk f l).front_at;
          limit = λ f l. ap (λ (k : List ℕ). slice_index k f) ends ∙ (tile-of shrunk f l).end_at;
          fits = λ j z i there state set. absurd (never_swept (block_in (record done.swept { next = fronts_of report.pieces; ends = ends_of report.pieces }) j) z (sym (done.owes.each j) ∙ state));
          pages = λ j. ap (λ (z : Contents). slice_index z.pages j) v_is ∙ ap (λ (z : Contents). slice_index z.pages j) still ∙ ap (λ (z : Contents). slice_index z.pages j) marks ∙ c.is.pages j;
          head = ap (λ (z : Contents). z.head) v_is ∙ ap (λ (z : Contents). z.head) still ∙ ap (λ (z : Contents). z.head) marks ∙ c.is.head;
          made = ap (λ (z : Contents). z.made) v_is ∙ ap (λ (z : Contents). z.made) still ∙ ap (λ (z : Contents). z.made) marks ∙ c.is.made;
          registered = ap (λ (z : Contents). z.registered) v_is ∙ ap (λ (z : Contents). z.registered) still ∙ ap (λ (z : Contents). z.registered) marks ∙ c.is.registered;
          pairs = ap (λ (z : Contents). z.pairs) v_is ∙ ap (λ (z : Contents). z.pairs) still ∙ ap (λ (z : Contents). z.pairs) marks ∙ c.is.pairs;
        }
