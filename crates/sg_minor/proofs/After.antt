-- The book after a pause: what is kept, where it stands, and whose word each word is.
use Rattle.std.proofs.Common.{◌≡◌, ◌≢◌, ℕ, ◌+◌, ◌-◌, ◌≤◌, ◌<◌, ◌⊎◌, cond, Bool, true, false, List, length, sym, ap, ◌∙◌, subst, inl, inr, arith, le_refl}
use Rattle.std.proofs.lemmas.Bool.{cond-true, cond-false, cases_eq, cases_Bool}
use Rattle.sg_words.specs.declared.pieces.Piece.{Piece}
use Rattle.sg_words.specs.Pieces.{fronts_of}
use Rattle.sg_program.specs.declared.program.Program.{Program}
use Rattle.sg_program.specs.Scripts.{words_for}
use Rattle.sg_graph.specs.Graph.{Graph}
use Rattle.sg_graph.specs.Book.{Book, Section, Young, Old, nursery_end, old_end, IsWordOf}
use Rattle.sg_graph.specs.Minor.{IsStill}
use Rattle.sg_words.specs.Sections.{nursery_base}
use Rattle.sg_graph.specs.Laws.{QuietPause}
use Rattle.sg_graph.specs.Invariants.{IsPlain}
use Rattle.sg_space.specs.declared.objects.Object.{Object}
use Rattle.sg_graph.specs.Heap.{Owner, Of, Frag, Buf, Nobody, IsHeap, layout_of}
use Rattle.sg_round.specs.Area.{Area, IsYoung}
use Rattle.sg_words.specs.Lists.{In, has}
use Rattle.sg_words.specs.Objects.{size_of}
use Rattle.sg_words.proofs.Members.{out}
use Rattle.sg_words.specs.Blocks.{slot_size}
use Rattle.sg_words.proofs.Blocks.{slot_size-holds, slot_fits}
use Rattle.sg_nursery.specs.Pieces.{IsTaken, ArePieces}
use Rattle.sg_minor.specs.Joined.{IsKept, IsTraced, IsPictured, IsPicture}
use Rattle.sg_minor.specs.Law.{HaveWords}
use Rattle.sg_minor.proofs.Ranges.{ranged, ranged-in, ranged-out, ranged-cases}
use Rattle.sg_minor.proofs.Owners.{settled, IsCopyOf, settled-out, settled-in, copy-cases}
use Rattle.sg_minor.proofs.Names.{IsAreaOf, of-same, some-name, IsNamed, young-is, is-young-at, same-name, IsIn, IsOut, section, young-section, size-is, name-of, reached-young, young, young-yes, young-no, is-young, kept, keeps, kept-stands, kept-has, kept-nothing}
use Rattle.sg_minor.proofs.Tiles.{next_of, limit_of, IsTile, tile, tiles-apart}

-- A pause that has ended: the words w before it hold the graph, and the words v after it are their picture.
pub record Ended : Type 0 where
  pub p : Program
  pub area : Area
  pub w : ℕ → ℕ
  pub v : ℕ → ℕ
  pub g : Graph
  pub b : Book
  pub ambiguous : List ℕ
  pub stays : List ℕ
  pub moves : List ℕ
  pub m : ℕ → ℕ
  pub owner : ℕ → Owner
  pub standing : List Object
  pub pieces : List Piece
  pub law : QuietPause
  pub plain : IsPlain p g
  pub tie : IsAreaOf p area
  pub heap : IsHeap p w g b owner
  pub traced : IsTraced p area w g b ambiguous stays moves
  pub picture : IsPicture p area w g b stays moves m v
  pub words : HaveWords standing w stays
  pub tiles : ArePieces (layout_of p) standing pieces

module _ (c : Ended) where
  -- what is known before the pause
  abbrev pub Lies : ℕ → Type 0
  Lies n = IsIn c.p c.area c.tie c.w c.g c.b c.ambiguous c.owner c.heap n

  abbrev pub LiesOld : ℕ → Type 0
  LiesOld n = IsOut c.p c.area c.tie c.w c.g c.b c.ambiguous c.owner c.heap n

  pub lies : (n : ℕ) → c.b.stands n ≡ true → n ≢ 0 → Lies n ⊎ LiesOld n
  lies = section c.p c.area c.tie c.w c.g c.b c.ambiguous c.owner c.heap

  pub in-nursery : (x : ℕ) → IsYoung c.area x → (nursery_base ≤ x) × (x < nursery_end c.p)
  in-nursery = young-is c.p c.area c.tie c.w c.g c.b c.ambiguous c.owner c.heap

  pub young-at : (x : ℕ) → nursery_base ≤ x → x < nursery_end c.p → IsYoung c.area x
  young-at = is-young-at c.p c.area c.tie c.w c.g c.b c.ambiguous c.owner c.heap

  pub sizes : (n : ℕ) → n ≢ 0 → c.b.stands n ≡ true → size_of c.w (c.b.address n) ≡ words_for (c.g.size n)
  sizes n d s = ap (λ (z : ℕ). z + 2) (size-is c.p c.area c.tie c.w c.g c.b c.ambiguous c.owner c.heap n d s)

  pub one-name : (k n : ℕ) → c.b.stands k ≡ true → c.b.stands n ≡ true → c.b.address k ≡ c.b.address n → k ≡ n
  one-name = same-name c.p c.area c.tie c.w c.g c.b c.ambiguous c.owner c.heap

  pub names : (a : ℕ) → IsKept c.stays c.moves a → IsNamed c.p c.area c.tie c.w c.g c.b c.ambiguous c.owner c.heap a
  names a h = name-of c.p c.area c.tie c.w c.g c.b c.ambiguous c.owner c.heap a (c.traced.reached a h)

  pub kept-young : (a : ℕ) → IsKept c.stays c.moves a → IsYoung c.area a
  kept-young a h = reached-young c.p c.area c.tie c.w c.g c.b c.ambiguous c.owner c.heap a (c.traced.reached a h)

  pub young-or : (a : ℕ) → IsYoung c.area a ⊎ (IsYoung c.area a → ⊥)
  young-or = is-young c.p c.area c.tie c.w c.g c.b c.ambiguous c.owner c.heap

  pub section-young : (n : ℕ) → c.b.stands n ≡ true → IsYoung c.area (c.b.address n) → c.b.section n ≡ Young
  section-young = young-section c.p c.area c.tie c.w c.g c.b c.ambiguous c.owner c.heap

  -- what stands after it
  abbrev pub stands_on : ℕ → Bool
  stands_on = kept c.p c.area c.tie c.w c.g c.b c.ambiguous c.owner c.heap c.stays c.moves c.traced

  pub stood : (n : ℕ) → stands_on n ≡ true → c.b.stands n ≡ true
  stood = kept-stands c.p c.area c.tie c.w c.g c.b c.ambiguous c.owner c.heap c.stays c.moves c.traced

  pub is-kept : (n : ℕ) → stands_on n ≡ true → IsYoung c.area (c.b.address n) → IsKept c.stays c.moves (c.b.address n)
  is-kept = kept-has c.p c.area c.tie c.w c.g c.b c.ambiguous c.owner c.heap c.stays c.moves c.traced

  pub stands-nothing : stands_on 0 ≡ true
  stands-nothing = kept-nothing c.p c.area c.tie c.w c.g c.b c.ambiguous c.owner c.heap c.stays c.moves c.traced

  pub stands-kept : (n : ℕ) → c.b.stands n ≡ true → (IsYoung c.area (c.b.address n) → IsKept c.stays c.moves (c.b.address n)) → stands_on n ≡ true
  stands-kept = keeps c.p c.area c.tie c.w c.g c.b c.ambiguous c.owner c.heap c.stays c.moves c.traced

  -- the new book: an address may have been a dead object's too, so only what stood is sent
  pub address_of : ℕ → ℕ
  address_of n = cond (c.b.stands n) (c.m (c.b.address n)) (c.b.address n)

  pub section_of : ℕ → Section
  section_of n = cond (c.b.stands n) (cond (has (c.b.address n) c.moves) Old (c.b.section n)) (c.b.section n)

  abbrev pub count : ℕ
  count = length (fronts_of c.pieces)

  abbrev pub booked : Book
  booked = record {
    stands = stands_on;
    address = address_of;
    section = section_of;
    owed = c.b.owed;
    fragments = count;
    next = next_of c.pieces;
    limit = limit_of c.pieces;
    from = λ _. 0;
    to = λ _. 0;
  }

  pub at-sent : (n : ℕ) → c.b.stands n ≡ true → address_of n ≡ c.m (c.b.address n)
  unfolding address_of
  at-sent n s = cond-true _ _ _ s

  pub moved-section : (n : ℕ) → c.b.stands n ≡ true → In (c.b.address n) c.moves → section_of n ≡ Old
  unfolding section_of
  moved-section n s h = cond-true _ _ _ s ∙ cond-true _ _ _ h

  -- what isn't at a moved object's address is still
  pub unmoved-still : (n : ℕ) → has (c.b.address n) c.moves ≡ false → IsStill c.b booked n
  unfolding address_of section_of
  unmoved-still n h = elim (cases_Bool (c.b.stands n)) [
    | inl s ↦ record { address = cond-true _ _ _ s ∙ c.picture.others (c.b.address n) h; section = cond-true _ _ _ s ∙ cond-false _ _ _ h }
    | inr s ↦ record { address = cond-false _ _ _ s; section = cond-false _ _ _ s }
  ]

  -- and so is what doesn't stand any more: what stood and moved is kept
  pub gone-still : (n : ℕ) → stands_on n ≡ false → IsStill c.b booked n
  unfolding address_of section_of
  gone-still n k = elim (cases_Bool (c.b.stands n)) [
    | inl s ↦ unmoved-still n (out (c.b.address n) c.moves (λ h. (let z : false ≡ true = sym k ∙ stands-kept n s (λ _. inr h) in cc)))
    | inr s ↦ record { address = cond-false _ _ _ s; section = cond-false _ _ _ s }
  ]

  not-moved : (a : ℕ) → (IsYoung c.area a → ⊥) → has a c.moves ≡ false
  not-moved a n = out a c.moves (λ h. n (kept-young a (inr h)))

  pub old-still : (n : ℕ) → (IsYoung c.area (c.b.address n) → ⊥) → IsStill c.b booked n
  old-still n o = unmoved-still n (not-moved (c.b.address n) o)

  pub stays-still : (n : ℕ) → In (c.b.address n) c.stays → IsStill c.b booked n
  stays-still n h = unmoved-still n (c.traced.apart (c.b.address n) h)

  -- a copy lies in the major heap, and none of its words was an object's
  pub home-in : (a : ℕ) → In a c.moves → (nursery_end c.p ≤ c.m a) × (c.m a + size_of c.w a ≤ old_end c.p)
  home-in a h =
      let q = c.picture.homes a h in
      let holds = slot_size-holds (size_of c.w a) q.small in
      let fit = slot_fits (slot_size (size_of c.w a)) q.slot q.fits in
      let there = q.there in
      let at = q.at in
      (omega arith, omega arith)

  pub home-free : (a x n : ℕ) → In a c.moves → IsCopyOf c.w c.m a x → IsWordOf c.g c.b n x → ⊥
  home-free a x n h k =
      let q = c.picture.homes a h in
      let holds = slot_size-holds (size_of c.w a) q.small in
      let from = k.0 in
      let to = k.1 in
      let at = q.at in
      λ o. q.empty n x o (omega arith) (omega arith)

  -- a word is of one copy
  pub one-copy : (a x : ℕ) → In a c.moves → IsCopyOf c.w c.m a x → (d : ℕ) → In d c.moves → IsCopyOf c.w c.m d x → d ≡ a
  one-copy a x h k d i l =
      let from = k.0 in
      let to = k.1 in
      let low = l.0 in
      let high = l.1 in
      c.picture.apart d a (x - c.m d) (x - c.m a) i h (omega arith) (omega arith) (omega arith)

  young-no-copy : (x : ℕ) → x < nursery_end c.p → (a : ℕ) → In a c.moves → IsCopyOf c.w c.m a x → ⊥
  young-no-copy x below a h k = let from = k.0 in let low = (home-in a h).0 in omega arith

  -- where a kept object stands
  pub data Place (n : ℕ) : Type 0 where
    Stayed : Lies n → In (c.b.address n) c.stays → section_of n ≡ Young → address_of n ≡ c.b.address n → Place n
    Moved : Lies n → In (c.b.address n) c.moves → section_of n ≡ Old → nursery_end c.p ≤ address_of n → address_of n + words_for (c.g.size n) ≤ old_end c.p →
        Place n
    Older : LiesOld n → section_of n ≡ Old → address_of n ≡ c.b.address n → Place n

  pub place : (n : ℕ) → n ≢ 0 → stands_on n ≡ true → Place n
  place n d k =
      let s = stood n k in
      elim (lies n s d) [
        | inl i ↦ elim (is-kept n k i.young) [
          | inl h ↦ (let q = stays-still n h in Stayed i h (q.section ∙ i.section) q.address)
          | inr h ↦ (let q = home-in (c.b.address n) h in
              let l = q.0 in let u = q.1 in let z = sizes n d s in let e = at-sent n s in
              Moved i h (moved-section n s h) (omega arith) (omega arith))
        ]
        | inr o ↦ (let q = old-still n o.old in Older o (q.section ∙ o.section) q.address)
      ]

  pub pictured : (n : ℕ) → n ≢ 0 → c.b.stands n ≡ true → Place n → IsPictured c.area c.w c.v c.m (c.b.address n)
  pictured n d s (Stayed i h q e) = c.picture.stayed (c.b.address n) h
  pictured n d s (Moved i h q l u) = c.picture.moved (c.b.address n) h
  pictured n d s (Older o q e) = c.picture.old n d s o.section

  pub nil-still : IsStill c.b booked 0
  nil-still = old-still 0 (λ y. let z = c.heap.laid.nothing.at_nil in let l = (in-nursery (c.b.address 0) y).0 in omega arith)

  pub nil-at : address_of 0 ≡ 0
  nil-at = nil-still.address ∙ c.heap.laid.nothing.at_nil

  -- Whose word each word is: of the nursery, what stayed keeps its own and the fragments are new; a copy has the owner of its
  -- original.
  abbrev pub stayed : Owner → Owner
  stayed (Of n) = cond (has (c.b.address n) c.stays) (Of n) Nobody
  stayed (Frag f) = Nobody
  stayed (Buf k) = Nobody
  stayed Nobody = Nobody

  abbrev pub owner1 : ℕ → Owner
  owner1 x = cond (young c.p c.area c.tie c.w c.g c.b c.ambiguous c.owner c.heap x) (stayed (c.owner x)) (c.owner x)

  abbrev pub owner2 : ℕ → Owner
  owner2 = ranged owner1 (next_of c.pieces) (limit_of c.pieces) Frag count

  abbrev pub owner3 : ℕ → Owner
  owner3 = settled c.w c.m c.owner c.moves owner2

  owner1-young : (x : ℕ) → IsYoung c.area x → owner1 x ≡ stayed (c.owner x)
  owner1-young x y = cond-true _ _ _ (young-yes c.p c.area c.tie c.w c.g c.b c.ambiguous c.owner c.heap x y)

  owner1-old : (x : ℕ) → (IsYoung c.area x → ⊥) → owner1 x ≡ c.owner x
  owner1-old x n = cond-false _ _ _ (young-no c.p c.area c.tie c.w c.g c.b c.ambiguous c.owner c.heap x n)

  pub tile-of : (f : ℕ) → f < count → IsTile (layout_of c.p) c.standing c.pieces f
  tile-of = tile (layout_of c.p) c.standing c.pieces c.tiles

  -- a fragment's word is one of the nursery
  pub tile-young : (f x : ℕ) → f < count → next_of c.pieces f ≤ x → x < limit_of c.pieces f → IsYoung c.area x
  tile-young f x l q u =
      let i = tile-of f l in
      let from = i.gap.from in
      let within = i.gap.within in
      let behind = i.behind in
      young-at x (omega arith) (omega arith)

  pub tile-free : (f x : ℕ) → f < count → next_of c.pieces f ≤ x → x < limit_of c.pieces f → IsTaken c.standing x → ⊥
  tile-free f x l q u = let i = tile-of f l in let behind = i.behind in i.gap.free x q (omega arith)

  owner2-old : (x : ℕ) → (IsYoung c.area x → ⊥) → owner2 x ≡ c.owner x
  owner2-old x n = ranged-out owner1 (next_of c.pieces) (limit_of c.pieces) Frag count x (λ j l q u. n (tile-young j x l q u)) ∙ owner1-old x n

  pub owner3-out : (x : ℕ) → ((a : ℕ) → In a c.moves → IsCopyOf c.w c.m a x → ⊥) → owner3 x ≡ owner2 x
  owner3-out x none = settled-out c.w c.m c.owner c.moves owner2 x none

  pub owner3-old : (x : ℕ) → (IsYoung c.area x → ⊥) → ((a : ℕ) → In a c.moves → IsCopyOf c.w c.m a x → ⊥) → owner3 x ≡ c.owner x
  owner3-old x n none = owner3-out x none ∙ owner2-old x n

  owner3-young : (x : ℕ) → IsYoung c.area x → owner3 x ≡ owner2 x
  owner3-young x y = owner3-out x (young-no-copy x (in-nursery x y).1)

  pub old-out : (x : ℕ) → nursery_end c.p ≤ x → IsYoung c.area x → ⊥
  old-out x l y = let u = (in-nursery x y).1 in omega arith

  stayed-of : (o : Owner) (n : ℕ) → stayed o ≡ Of n → (o ≡ Of n) × In (c.b.address n) c.stays
  stayed-of (Of k) n e = elim (cases_Bool (has (c.b.address k) c.stays)) [
    | inl h ↦ (let q : Of k ≡ Of n = sym (cond-true _ _ _ h) ∙ e in (q, subst (λ j. In (c.b.address j) c.stays) (of-same k n q) h))
    | inr h ↦ absurd (let q : Nobody ≡ Of n = sym (cond-false _ (Of k) Nobody h) ∙ e in cc)
  ]
  stayed-of (Frag f) n e = absurd (let q : Nobody ≡ Of n = e in cc)
  stayed-of (Buf k) n e = absurd (let q : Nobody ≡ Of n = e in cc)
  stayed-of Nobody n e = absurd (let q : Nobody ≡ Of n = e in cc)

  -- the words of what stayed
  pub taken : (a x : ℕ) → In a c.stays → a ≤ x → x < a + size_of c.w a → IsTaken c.standing x
  taken a x h l u = (c.words x).1 (a, h, l, u)

  -- each word of a fragment is its own
  pub frag-owns : (f x : ℕ) → f < count → next_of c.pieces f ≤ x → x < limit_of c.pieces f → owner3 x ≡ Frag f
  frag-owns f x l q u =
      owner3-young x (tile-young f x l q u)
      ∙ ranged-in owner1 (next_of c.pieces) (limit_of c.pieces) Frag count f x l
      (λ j more there low high. (let o = tiles-apart (layout_of c.p) c.standing c.pieces c.tiles f j more there in omega arith)) q u

  -- each word of a kept object is its own
  nothing-owns : (n x : ℕ) → n ≡ 0 → address_of n ≤ x → x < address_of n + words_for (c.g.size n) → owner3 x ≡ Of n
  nothing-owns n x z l u =
      let a : c.b.address n ≡ 0 = ap c.b.address z ∙ c.heap.laid.nothing.at_nil in
      let e : address_of n ≡ 0 = ap address_of z ∙ nil-at in
      let i : c.g.size n ≡ 0 = ap c.g.size z ∙ c.heap.laid.nothing.no_size in
      let s : c.b.stands n ≡ true = ap c.b.stands z ∙ c.heap.laid.nothing.stands_nil in
      owner3-old x (λ y. let k = (in-nursery x y).0 in omega arith) (young-no-copy x (omega arith))
      ∙ c.heap.laid.objects.owns n x s (omega arith) (omega arith)

  object-owns : (n x : ℕ) → n ≢ 0 → c.b.stands n ≡ true → Place n → address_of n ≤ x → x < address_of n + words_for (c.g.size n) → owner3 x ≡ Of n
  object-owns n x d s (Stayed i h q e) l u =
      let z = sizes n d s in
      let above = i.above in
      let below = i.below in
      let from : c.b.address n ≤ x = omega arith in
      let to : x < c.b.address n + words_for (c.g.size n) = omega arith in
      let y : IsYoung c.area x = young-at x (omega arith) (omega arith) in
      let has-it = taken (c.b.address n) x h from (omega arith) in
      owner3-young x y
      ∙ ranged-out owner1 (next_of c.pieces) (limit_of c.pieces) Frag count x (λ j k l1 u1. tile-free j x k l1 u1 has-it)
      ∙ owner1-young x y
      ∙ ap stayed (c.heap.laid.objects.owns n x s from to)
      ∙ cond-true _ (Of n) Nobody h
  object-owns n x d s (Moved i h q low high) l u =
      let z = sizes n d s in
      let e = at-sent n s in
      settled-in c.w c.m c.owner c.moves owner2 (c.b.address n) x h (omega arith, omega arith) (one-copy (c.b.address n) x h (omega arith, omega arith))
      ∙ c.heap.laid.objects.owns n (c.b.address n) s (le_refl _) (omega arith)
  object-owns n x d s (Older o q e) l u =
      let above = o.above in
      let below = o.below in
      owner3-old x (old-out x (omega arith))
      (λ a i k. home-free a x n i k (record { some = some-name n d; stands = s; above = omega arith; below = omega arith }))
      ∙ c.heap.laid.objects.owns n x s (omega arith) (omega arith)

  pub owns : (n x : ℕ) → stands_on n ≡ true → address_of n ≤ x → x < address_of n + words_for (c.g.size n) → owner3 x ≡ Of n
  owns n x k l u = elim (cases_eq n 0) [
    | inl z ↦ nothing-owns n x z l u
    | inr d ↦ object-owns n x d (stood n k) (place n d k) l u
  ]

  -- and no other word is
  abbrev pub HasWord : ℕ → ℕ → Type 0
  HasWord n x = (stands_on n ≡ true) × (address_of n ≤ x) × (x < address_of n + words_for (c.g.size n))

  stayed-owned : (n x : ℕ) → c.owner x ≡ Of n → In (c.b.address n) c.stays → HasWord n x
  stayed-owned n x o h =
      let q = c.heap.laid.objects.owned n x o in
      let e = (stays-still n h).address in
      let l = q.1 in
      let u = q.2 in
      (stands-kept n q.0 (λ _. inl h), omega arith, omega arith)

  old-owned : (n x : ℕ) → c.owner x ≡ Of n → (IsYoung c.area x → ⊥) → HasWord n x
  old-owned n x o out =
      let q = c.heap.laid.objects.owned n x o in
      let l = q.1 in
      let u = q.2 in
      let old : IsYoung c.area (c.b.address n) → ⊥ = λ y. elim (cases_eq n 0) [
        | inl z ↦ (let a : c.b.address n ≡ 0 = ap c.b.address z ∙ c.heap.laid.nothing.at_nil in let k = (in-nursery (c.b.address n) y).0 in omega arith)
        | inr d ↦ elim (lies n q.0 d) [
          | inl i ↦ (let above = i.above in let within = i.below in out (young-at x (omega arith) (omega arith)))
          | inr i ↦ i.old y
        ]
      ] in
      let e = (old-still n old).address in
      (stands-kept n q.0 (λ y. absurd (old y)), omega arith, omega arith)

  pub copied-owner : (a x n : ℕ) → In a c.moves → IsCopyOf c.w c.m a x → c.b.stands n ≡ true → c.b.address n ≡ a → owner3 x ≡ Of n
  copied-owner a x n h k s e =
      settled-in c.w c.m c.owner c.moves owner2 a x h k (one-copy a x h k)
      ∙ ap c.owner (sym e)
      ∙ c.heap.laid.objects.owns n (c.b.address n) s (le_refl _) (omega arith)

  copied-owned : (n x a : ℕ) → owner3 x ≡ Of n → In a c.moves → IsCopyOf c.w c.m a x → HasWord n x
  copied-owned n x a o h inside =
      let k = names a (inr h) in
      let e : k.name ≡ n = of-same k.name n (sym (copied-owner a x k.name h inside k.stands k.at) ∙ o) in
      let at : c.b.address n ≡ a = ap c.b.address (sym e) ∙ k.at in
      let s : c.b.stands n ≡ true = ap c.b.stands (sym e) ∙ k.stands in
      let d : n ≢ 0 = λ z. k.some (e ∙ z) in
      let m-at = at-sent n s ∙ ap c.m at in
      let size = sizes n d s in
      let size-at : size_of c.w (c.b.address n) ≡ size_of c.w a = ap (λ (z : ℕ). size_of c.w z) at in
      let low = inside.0 in
      let high = inside.1 in
      (stands-kept n s (λ _. inr (subst (λ z. In z c.moves) (sym at) h)), omega arith, omega arith)

  other-owned : (n x : ℕ) → owner3 x ≡ Of n → ((a : ℕ) → In a c.moves → IsCopyOf c.w c.m a x → ⊥) → HasWord n x
  other-owned n x o none = elim (young-or x) [
    | inr out ↦ old-owned n x (sym (owner3-old x out none) ∙ o) out
    | inl y ↦ elim (ranged-cases (next_of c.pieces) (limit_of c.pieces) count x) [
      | inl f ↦ absurd (let e : Frag f.0 ≡ Of n = sym (frag-owns f.0 x f.1 f.2 f.3) ∙ o in cc)
      | inr free ↦ (let e = sym (owner3-out x none ∙ ranged-out owner1 (next_of c.pieces) (limit_of c.pieces) Frag count x free ∙ owner1-young x y) ∙ o in
          let q = stayed-of (c.owner x) n e in
          stayed-owned n x q.0 q.1)
    ]
  ]

  pub owned : (n x : ℕ) → owner3 x ≡ Of n → HasWord n x
  owned n x o = elim (copy-cases c.w c.m c.moves x) [
    | inl q ↦ copied-owned n x q.0 o q.1 q.2
    | inr none ↦ other-owned n x o none
  ]
