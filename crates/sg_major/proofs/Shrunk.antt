-- The words hold the graph by a book in which fewer objects stand, each where it stood.
use Rattle.std.proofs.Common.{◌≡◌, ◌≢◌, ℕ, ◌+◌, ◌≤◌, ◌<◌, cond, Bool, true, false, List, length, sym, refl, ap, ◌∙◌, subst, inl, inr, arith, le_refl}
use Rattle.std.proofs.lemmas.Bool.{cond-true, cond-false, cases_eq, cases_Bool}
use Rattle.sg_words.specs.declared.pieces.Piece.{Piece}
use Rattle.sg_words.specs.Pieces.{fronts_of}
use Rattle.sg_words.specs.Sections.{nursery_base, globals_base}
use Rattle.sg_desc.specs.Shapes.{holds_reference}
use Rattle.sg_program.specs.declared.program.Program.{Program}
use Rattle.sg_program.specs.Scripts.{kind_of, words_for}
use Rattle.sg_graph.specs.Graph.{Graph, Entry, Ref, Int, Inner}
use Rattle.sg_graph.specs.Book.{Book, Young, Old, nursery_end, IsApart}
use Rattle.sg_graph.specs.Heap.{Owner, Of, Frag, Buf, Nobody, IsHeaded, IsKnown, IsKnownEntry, IsOfSort, Fields, Globals, IsHeap, layout_of}
use Rattle.sg_graph.specs.Tiling.{IsCovered, IsTiled, IsGap as IsGapOf}
use Rattle.sg_space.specs.declared.objects.Object.{Object}
use Rattle.sg_nursery.specs.Pieces.{IsTaken, IsGap, ArePieces}
use Rattle.sg_major.proofs.Ranges.{ranged, ranged-in, ranged-out, ranged-cases}
use Rattle.sg_major.proofs.Tiles.{next_of, limit_of, IsTile, tile, tiles-apart, next-beyond, limit-beyond}

pub of-same : (m n : ℕ) → Of m ≡ Of n → m ≡ n
of-same m n e = cc

-- The words w hold the graph by the book b. By the words v only the live names stand, and the rest of the nursery is zero.
pub record Shrunk : Type 0 where
  pub p : Program
  pub g : Graph
  pub b : Book
  pub owner : ℕ → Owner
  pub w : ℕ → ℕ
  pub v : ℕ → ℕ
  pub live : ℕ → Bool
  pub owed : ℕ → Bool
  pub standing : List Object
  pub pieces : List Piece
  pub heap : IsHeap p w g b owner
  pub nil : live 0 ≡ true
  pub stood : (n : ℕ) → live n ≡ true → b.stands n ≡ true
  pub closed : (n i k : ℕ) → live n ≡ true → i < g.size n → g.field n i ≡ Ref k → live k ≡ true
  pub globals : (x : ℕ) → x < 64 → live (g.global x) ≡ true
  pub same : (n x : ℕ) → n ≢ 0 → live n ≡ true → b.address n ≤ x → x < b.address n + words_for (g.size n) → v x ≡ w x
  pub swept : (x : ℕ) → nursery_base ≤ x → x < nursery_end p → ((n : ℕ) → live n ≡ true → b.address n ≤ x → x < b.address n + words_for (g.size n) → ⊥) → v x ≡ 0
  pub behind : (x : ℕ) → nursery_end p ≤ x → v x ≡ w x
  pub taken : (x n : ℕ) → n ≢ 0 → live n ≡ true → b.section n ≡ Young → b.address n ≤ x → x < b.address n + words_for (g.size n) → IsTaken standing x
  pub named : (x : ℕ) → IsTaken standing x → (n : ℕ) × (n ≢ 0) × (live n ≡ true) × (b.section n ≡ Young) × (b.address n ≤ x) × (x < b.address n + words_for (g.size n))
  pub tiles : ArePieces (layout_of p) standing pieces

module _ (c : Shrunk) where
  abbrev pub count : ℕ
  count = length (fronts_of c.pieces)

  abbrev pub booked : Book
  booked = record {
    stands = c.live;
    address = c.b.address;
    section = c.b.section;
    owed = c.owed;
    fragments = count;
    next = next_of c.pieces;
    limit = limit_of c.pieces;
    from = λ _. 0;
    to = λ _. 0;
  }

  -- whose word each word is: the live names keep theirs, and the fragments are new
  pub strip : Owner → Owner
  strip (Of n) = cond (c.live n) (Of n) Nobody
  strip (Frag f) = Nobody
  strip (Buf k) = Nobody
  strip Nobody = Nobody

  strip-live : (n : ℕ) → c.live n ≡ true → strip (Of n) ≡ Of n
  unfolding strip
  strip-live n l = cond-true _ (Of n) Nobody l

  live-of : (o : Owner) (n : ℕ) → strip o ≡ Of n → (o ≡ Of n) × (c.live n ≡ true)
  unfolding strip
  live-of (Of k) n e = elim (cases_Bool (c.live k)) [
    | inl h ↦ (let q : Of k ≡ Of n = sym (cond-true _ (Of k) Nobody h) ∙ e in (q, subst (λ j. c.live j ≡ true) (of-same k n q) h))
    | inr h ↦ absurd (let q : Nobody ≡ Of n = sym (cond-false _ (Of k) Nobody h) ∙ e in cc)
  ]
  live-of (Frag f) n e = absurd (let q : Nobody ≡ Of n = e in cc)
  live-of (Buf k) n e = absurd (let q : Nobody ≡ Of n = e in cc)
  live-of Nobody n e = absurd (let q : Nobody ≡ Of n = e in cc)

  abbrev owner1 : ℕ → Owner
  owner1 x = strip (c.owner x)

  abbrev pub owner2 : ℕ → Owner
  owner2 = ranged owner1 (next_of c.pieces) (limit_of c.pieces) Frag count

  pub tile-of : (f : ℕ) → f < count → IsTile (layout_of c.p) c.standing c.pieces f
  tile-of = tile (layout_of c.p) c.standing c.pieces c.tiles

  tile-free : (f x : ℕ) → f < count → next_of c.pieces f ≤ x → x < limit_of c.pieces f → IsTaken c.standing x → ⊥
  tile-free f x l q u = let i = tile-of f l in let behind = i.behind in i.gap.free x q (omega arith)

  some-name : (n : ℕ) → n ≢ 0 → 1 ≤ n
  some-name n d = omega arith

  pub name-some : (n : ℕ) → 1 ≤ n → n ≢ 0
  name-some n l e = omega arith

  -- a live name's word is no fragment's
  not-tiled : (n x : ℕ) → c.live n ≡ true → c.b.address n ≤ x → x < c.b.address n + words_for (c.g.size n) → (f : ℕ) → f < count → next_of c.pieces f ≤ x →
      x < limit_of c.pieces f → ⊥
  not-tiled n x k l u f t q r =
      let i = tile-of f t in
      let from = i.gap.from in
      let within = i.gap.within in
      let behind = i.behind in
      elim (cases_eq n 0) [
        | inl z ↦ (let at = ap c.b.address z ∙ c.heap.laid.nothing.at_nil in let size = ap c.g.size z ∙ c.heap.laid.nothing.no_size in omega arith)
        | inr d ↦ elim (c.heap.laid.objects.inside n (some-name n d) (c.stood n k)) [
          | inl y ↦ tile-free f x t q r (c.taken x n d k y.0 l u)
          | inr o ↦ (let low = o.1 in omega arith)
        ]
      ]

  pub owns : (n x : ℕ) → c.live n ≡ true → c.b.address n ≤ x → x < c.b.address n + words_for (c.g.size n) → owner2 x ≡ Of n
  owns n x k l u =
      ranged-out owner1 (next_of c.pieces) (limit_of c.pieces) Frag count x (not-tiled n x k l u)
      ∙ ap strip (c.heap.laid.objects.owns n x (c.stood n k) l u)
      ∙ strip-live n k

  pub frag-owns : (f x : ℕ) → f < count → next_of c.pieces f ≤ x → x < limit_of c.pieces f → owner2 x ≡ Frag f
  frag-owns f x l q u = ranged-in owner1 (next_of c.pieces) (limit_of c.pieces) Frag count f x l
      (λ j more there low high. (let o = tiles-apart (layout_of c.p) c.standing c.pieces c.tiles f j more there in omega arith)) q u

  pub owned-before : (n x : ℕ) → owner2 x ≡ Of n → (c.owner x ≡ Of n) × (c.live n ≡ true)
  owned-before n x o = elim (ranged-cases (next_of c.pieces) (limit_of c.pieces) count x) [
    | inl f ↦ absurd (let e : Frag f.0 ≡ Of n = sym (frag-owns f.0 x f.1 f.2 f.3) ∙ o in cc)
    | inr free ↦ live-of (c.owner x) n (sym (ranged-out owner1 (next_of c.pieces) (limit_of c.pieces) Frag count x free) ∙ o)
  ]

  pub owned : (n x : ℕ) → owner2 x ≡ Of n → (c.live n ≡ true) × (c.b.address n ≤ x) × (x < c.b.address n + words_for (c.g.size n))
  owned n x o = let q = owned-before n x o in let h = c.heap.laid.objects.owned n x q.0 in (q.1, h.1, h.2)

  has-field : (n i : ℕ) → i < c.g.size n → n ≢ 0
  has-field n i l e = let u = ap c.g.size e in let z = c.heap.laid.nothing.no_size in omega arith

  pub heads : (n : ℕ) → n ≢ 0 → c.live n ≡ true → IsHeaded c.v c.g booked n
  heads n d k =
      let h = c.heap.headed n (some-name n d) (c.stood n k) in
      (c.same n (c.b.address n) d k (le_refl _) (omega arith) ∙ h.0, c.same n (c.b.address n + 1) d k (omega arith) (omega arith) ∙ h.1)

  knows : (k : ℕ) → c.live k ≡ true → IsKnown c.v c.g booked k
  knows k s = (
    s,
    elim (cases_eq k 0) [
      | inl z ↦ inl z
      | inr d ↦ inr (heads k d s)
    ],
  )

  entry-known : (z : Bool) (e : Entry) → IsOfSort z e → ((k : ℕ) → e ≡ Ref k → c.live k ≡ true) → IsKnownEntry c.v c.g booked e
  entry-known z (Ref k) q h = knows k (h k refl)
  entry-known z (Int v) q h = tt
  entry-known true (Inner k o) q h = absurd q
  entry-known false (Inner k o) q h = absurd q

  fields : Fields c.p c.v c.g booked
  fields = record {
    holds = λ n i k l. c.same n (c.b.address n + 2 + i) (has-field n i l) k (omega arith) (omega arith) ∙ c.heap.laid.fields.holds n i (c.stood n k) l;
    known = λ n i k l. entry-known (holds_reference (kind_of c.p (c.g.class n)) i (c.g.size n)) (c.g.field n i) (c.heap.laid.fields.sorted n i (c.stood n k) l)
        (λ j e. c.closed n i j k l e);
    sorted = λ n i k l. c.heap.laid.fields.sorted n i (c.stood n k) l;
  }

  globals : Globals c.p c.v c.g booked
  globals = record {
    holds = λ x l. c.behind (globals_base (layout_of c.p) + x) (omega arith) ∙ c.heap.laid.globals.holds x l;
    known = λ x l. knows (c.g.global x) (c.globals x l);
    empty = λ x l u. c.behind x (omega arith) ∙ c.heap.laid.globals.empty x l u;
  }

  pub held : IsHeap c.p c.v c.g booked owner2
  held = record {
    laid = record {
      nothing = record { stands_nil = c.nil; at_nil = c.heap.laid.nothing.at_nil; no_size = c.heap.laid.nothing.no_size };
      objects = record {
        given = λ n k. c.heap.laid.objects.given n (c.stood n k);
        shaped = λ n l k. c.heap.laid.objects.shaped n l (c.stood n k);
        owns = owns;
        owned = owned;
        inside = λ n l k. c.heap.laid.objects.inside n l (c.stood n k);
      };
      fields = fields;
      globals = globals;
      clear = record {
        large = λ x l u. c.behind x (omega arith) ∙ c.heap.laid.clear.large x l u;
        clear = λ x l u out. c.swept x l u (λ n k a e. out n (owns n x k a e));
      };
      fragments = record {
        owns = frag-owns;
        inside = λ f l. (let i = tile-of f l in let behind = i.behind in let within = i.gap.within in (i.gap.from, omega arith, omega arith));
        ordered = tiles-apart (layout_of c.p) c.standing c.pieces c.tiles;
      };
      buffers = record { owns = λ k x l u. absurd (let z = u in omega arith); inside = λ k l. absurd (let z = l in omega arith) };
    };
    headed = λ n l k. heads n (name-some n l) k;
  }

  -- no word is of two objects
  pub apart : IsApart c.p c.g booked
  apart = record {
    apart = λ k n x a e. of-same k n (sym (owns k x a.stands a.above a.below) ∙ owns n x e.stands e.above e.below);
    inside = λ n x a y.
        let above = a.above in
        let below = a.below in
        elim (c.heap.laid.objects.inside n a.some (c.stood n a.stands)) [
          | inl i ↦ (let low = i.1 in let high = i.2 in (omega arith, omega arith))
          | inr i ↦ absurd (let e : Young ≡ Old = sym y ∙ i.0 in cc)
        ];
  }

  -- the gaps between what stays are those between the standing young objects
  covered-taken : (x : ℕ) → IsCovered c.g booked x → IsTaken c.standing x
  covered-taken x h = c.taken x h.0 (name-some h.0 h.2.some) h.2.stands h.1 h.2.above h.2.below

  taken-covered : (x : ℕ) → IsTaken c.standing x → IsCovered c.g booked x
  taken-covered x h = let q = c.named x h in (q.0, q.3, record { some = some-name q.0 q.1; stands = q.2; above = q.4; below = q.5 })

  gap-of : (x n : ℕ) → IsGap (layout_of c.p) c.standing x n → IsGapOf c.p c.g booked x n
  gap-of x n gap = record {
    some = gap.some;
    from = gap.from;
    within = gap.within;
    free = λ y l u h. gap.free y l u (covered-taken y h);
    before = elim gap.before [
      | inl e ↦ inl e
      | inr h ↦ inr (h.0, h.1, taken-covered h.0 h.2)
    ];
    behind = elim gap.behind [
      | inl e ↦ inl e
      | inr h ↦ inr (taken-covered (x + n) h)
    ];
  }

  of-gap : (x n : ℕ) → IsGapOf c.p c.g booked x n → IsGap (layout_of c.p) c.standing x n
  of-gap x n gap = record {
    some = gap.some;
    from = gap.from;
    within = gap.within;
    free = λ y l u h. gap.free y l u (taken-covered y h);
    before = elim gap.before [
      | inl e ↦ inl e
      | inr h ↦ inr (h.0, h.1, covered-taken h.0 h.2)
    ];
    behind = elim gap.behind [
      | inl e ↦ inl e
      | inr h ↦ inr (covered-taken (x + n) h)
    ];
  }

  pub tiled : IsTiled c.p c.g booked c.pieces
  tiled = record {
    in_order = c.tiles.in_order;
    each = λ piece h. (let q = c.tiles.each piece h in (q.0, q.1, q.2, gap-of q.0 q.1 q.3));
    all = λ x n gap. c.tiles.all x n (of-gap x n gap);
    fragments = refl;
    next = λ f l. sym (tile-of f l).front_at;
    limit = λ f l. sym (tile-of f l).end_at;
    beyond = λ f l. (next-beyond c.pieces f l, limit-beyond c.pieces f l);
  }
