-- After a pause the words hold the graph by the new book.
use Rattle.std.proofs.Common.{◌≡◌, ◌≢◌, ℕ, ◌+◌, ◌≤◌, ◌<◌, ◌⊎◌, cond, Bool, true, false, sym, refl, ap, ◌∙◌, subst, inl, inr, arith}
use Rattle.std.proofs.lemmas.Bool.{cases_eq}
use Rattle.sg_words.specs.Address.{byte_at}
use Rattle.sg_desc.specs.Shapes.{holds_reference}
use Rattle.sg_program.specs.Scripts.{kind_of, words_for}
use Rattle.sg_graph.specs.Graph.{Entry, Ref, Int, Inner}
use Rattle.sg_graph.specs.Book.{Young, Old, nursery_end, old_end, word_of, IsWordOf}
use Rattle.sg_words.specs.Sections.{nursery_base, globals_base}
use Rattle.sg_graph.specs.Heap.{Of, IsHeaded, IsKnown, IsKnownEntry, IsOfSort, Objects, Fields, Globals, Clear, Fragments, IsHeap, layout_of}
use Rattle.sg_round.specs.Area.{IsYoung, is_strong}
use Rattle.sg_words.specs.Lists.{In}
use Rattle.sg_words.specs.Objects.{size_of, sent}
use Rattle.sg_words.proofs.Objects.{sent-at}
use Rattle.sg_minor.specs.Joined.{IsUncopied}
use Rattle.sg_minor.proofs.Names.{some-name, name-some, size-is, strong-of, ref-stands, target-kept, global-kept}
use Rattle.sg_minor.proofs.Tiles.{next_of, limit_of, tiles-apart}
use Rattle.sg_minor.proofs.After.{Ended, lies, young-at, sizes, names, stands_on, stood, stands-nothing, stands-kept, address_of, section_of, count, booked, at-sent, stays-still, home-in, Place, Stayed, Moved, Older, place, pictured, nil-at, owner3, tile-of, frag-owns, owns, owned}

-- a field is sent where it holds a reference, to what is at `after` then
entry-word : (address after m : ℕ → ℕ) (e : Entry) (strong : Bool) (x : ℕ) → IsOfSort strong e → ((k : ℕ) → e ≡ Ref k → after k ≡ m (address k)) → x ≡ word_of
    address e →
    cond strong (sent m x) x ≡ word_of after e
entry-word address after m (Ref k) true x h to e = sent-at m x (address k) e ∙ ap byte_at (sym (to k refl))
entry-word address after m (Ref k) false x h to e = absurd h
entry-word address after m (Int v) true x h to e = absurd h
entry-word address after m (Int v) false x h to e = e
entry-word address after m (Inner k o) true x h to e = absurd h
entry-word address after m (Inner k o) false x h to e = absurd h

sort-of-ref : (z : Bool) (k : ℕ) → IsOfSort z (Ref k) → z ≡ true
sort-of-ref true k h = refl
sort-of-ref false k h = absurd h

module _ (c : Ended) where
  has-field : (n i : ℕ) → i < c.g.size n → n ≢ 0
  has-field n i l e = let u = ap c.g.size e in let z = c.heap.laid.nothing.no_size in omega arith

  pub fields-hold : (n i : ℕ) → stands_on c n ≡ true → i < c.g.size n → c.v (address_of c n + 2 + i) ≡ word_of (address_of c) (c.g.field n i)
  fields-hold n i k l =
      let d = has-field n i l in
      let s = stood c n k in
      let len = size-is c.p c.area c.tie c.w c.g c.b c.ambiguous c.owner c.heap n d s in
      let st = strong-of c.p c.area c.tie c.w c.g c.b c.ambiguous c.owner c.heap n i s d ∙ c.law.strong c.p c.g c.plain n i (some-name n d)
      (c.heap.laid.objects.given n s) in
      ap (λ (z : ℕ). c.v (z + 2 + i)) (at-sent c n s)
      ∙ (pictured c n d s (place c n d k)).fields i (omega arith)
      ∙ entry-word c.b.address (address_of c) c.m (c.g.field n i) (is_strong c.area c.w (c.b.address n) i) (c.w (c.b.address n + 2 + i))
      (subst (λ (z : Bool). IsOfSort z (c.g.field n i)) (sym st) (c.heap.laid.fields.sorted n i s l))
      (λ j e. at-sent c j (ref-stands c.p c.area c.tie c.w c.g c.b c.ambiguous c.owner c.heap n i j s l e))
      (c.heap.laid.fields.holds n i s l)

  pub heads : (n : ℕ) → n ≢ 0 → stands_on c n ≡ true → IsHeaded c.v c.g (booked c) n
  heads n d k =
      let s = stood c n k in
      let q = pictured c n d s (place c n d k) in
      let h = c.heap.headed n (some-name n d) s in
      let at = at-sent c n s in
      (ap c.v at ∙ q.first ∙ h.0, ap (λ (z : ℕ). c.v (z + 1)) at ∙ q.length ∙ h.1)

  knows : (k : ℕ) → stands_on c k ≡ true → IsKnown c.v c.g (booked c) k
  knows k s = (
    s,
    elim (cases_eq k 0) [
      | inl z ↦ inl z
      | inr d ↦ inr (heads k d s)
    ],
  )

  pub target-stands : (n i k : ℕ) → stands_on c n ≡ true → i < c.g.size n → c.g.field n i ≡ Ref k → stands_on c k ≡ true
  target-stands n i k h l e = elim (cases_eq k 0) [
    | inl z ↦ subst (λ j. stands_on c j ≡ true) (sym z) (stands-nothing c)
    | inr d ↦
        let s = stood c n h in
        let r = sort-of-ref (holds_reference (kind_of c.p (c.g.class n)) i (c.g.size n)) k
        (subst (λ z. IsOfSort (holds_reference (kind_of c.p (c.g.class n)) i (c.g.size n)) z) e (c.heap.laid.fields.sorted n i s l)) in
        let here = c.law.strong c.p c.g c.plain n i (some-name n (has-field n i l)) (c.heap.laid.objects.given n s) ∙ r in
        target-kept c.p c.area c.tie c.w c.g c.b c.ambiguous c.owner c.heap c.stays c.moves c.traced n k (has-field n i l) h (d, (i, l, here, e))
  ]

  entry-known : (z : Bool) (e : Entry) → IsOfSort z e → ((k : ℕ) → e ≡ Ref k → stands_on c k ≡ true) → IsKnownEntry c.v c.g (booked c) e
  entry-known z (Ref k) q h = knows k (h k refl)
  entry-known z (Int v) q h = tt
  entry-known true (Inner k o) q h = absurd q
  entry-known false (Inner k o) q h = absurd q

  fields : Fields c.p c.v c.g (booked c)
  fields = record {
    holds = fields-hold;
    known = λ n i k l. entry-known (holds_reference (kind_of c.p (c.g.class n)) i (c.g.size n)) (c.g.field n i) (c.heap.laid.fields.sorted n i (stood c n k) l)
        (λ j e. target-stands n i j k l e);
    sorted = λ n i k l. c.heap.laid.fields.sorted n i (stood c n k) l;
  }

  -- a word behind the blocks is no object's, before or after
  behind-free : (n x : ℕ) → old_end c.p ≤ x → IsWordOf c.g c.b n x → ⊥
  behind-free n x l o = elim (lies c n o.stands (name-some n o.some)) [
    | inl i ↦ let u = o.below in let end = i.below in omega arith
    | inr i ↦ let u = o.below in let end = i.below in omega arith
  ]

  behind-uncopied : (x : ℕ) → old_end c.p ≤ x → IsUncopied c.w c.moves c.m x
  behind-uncopied x l a i h k e = let q = (home-in c a h).1 in omega arith

  pub rows-same : (x : ℕ) → old_end c.p ≤ x → ((j : ℕ) → j < 64 → x ≢ globals_base (layout_of c.p) + j) → c.v x ≡ c.w x
  rows-same x l n = c.picture.same x (omega arith) n (λ k. behind-free k x l) (behind-uncopied x l)

  globals : Globals c.p c.v c.g (booked c)
  globals = record {
    holds = λ x l. c.picture.globals x l ∙ sent-at c.m _ (c.b.address (c.g.global x)) (c.heap.laid.globals.holds x l)
        ∙ ap byte_at (sym (at-sent c (c.g.global x) (c.heap.laid.globals.known x l).0));
    known = λ x l. knows (c.g.global x) (global-kept c.p c.area c.tie c.w c.g c.b c.ambiguous c.owner c.heap c.stays c.moves c.traced x l);
    empty = λ x l u. rows-same x (omega arith) (λ j k e. omega arith) ∙ c.heap.laid.globals.empty x l u;
  }

  place-inside : (n : ℕ) → n ≢ 0 → Place c n →
      ((section_of c n ≡ Young) × (nursery_base ≤ address_of c n) × (address_of c n + words_for (c.g.size n) ≤ nursery_end c.p))
      ⊎ ((section_of c n ≡ Old) × (nursery_end c.p ≤ address_of c n) × (address_of c n + words_for (c.g.size n) ≤ old_end c.p))
  place-inside n d (Stayed i h q e) = let l = i.above in let u = i.below in inl (q, omega arith, omega arith)
  place-inside n d (Moved i h q l u) = inr (q, l, u)
  place-inside n d (Older o q e) = let l = o.above in let u = o.below in inr (q, omega arith, omega arith)

  objects : Objects c.p c.g.count c.g.class c.g.size (stands_on c) (address_of c) (section_of c) (owner3 c)
  objects = record {
    given = λ n k. c.heap.laid.objects.given n (stood c n k);
    shaped = λ n l k. c.heap.laid.objects.shaped n l (stood c n k);
    owns = owns c;
    owned = owned c;
    inside = λ n l k. place-inside n (name-some n l) (place c n (name-some n l) k);
  }

  -- a nursery word that is no object's is no word of what stayed
  clear-young : (x : ℕ) → IsYoung c.area x → ((n : ℕ) → owner3 c x ≢ Of n) → c.v x ≡ 0
  clear-young x y out = c.picture.swept x y (λ a h l u.
      (let k = names c a (inl h) in
      let at = k.at in
      let here : In (c.b.address k.name) c.stays = subst (λ z. In z c.stays) (sym at) h in
      let e : address_of c k.name ≡ a = (stays-still c k.name here).address ∙ at in
      let size = sizes c k.name k.some k.stands in
      let size-at : size_of c.w (c.b.address k.name) ≡ size_of c.w a = ap (λ (z : ℕ). size_of c.w z) at in
      let on : stands_on c k.name ≡ true = stands-kept c k.name k.stands (λ _. inl here) in
      out k.name (owns c k.name x on (omega arith) (omega arith))))

  clear : Clear c.p c.v (owner3 c)
  clear = record {
    large = λ x l u. rows-same x l (λ j k e. omega arith) ∙ c.heap.laid.clear.large x l u;
    clear = λ x l u out. clear-young x (young-at c x l u) out;
  }

  fragments : Fragments c.p (count c) (next_of c.pieces) (limit_of c.pieces) (owner3 c)
  fragments = record {
    owns = frag-owns c;
    inside = λ f l. (let i = tile-of c f l in let behind = i.behind in let within = i.gap.within in (i.gap.from, omega arith, omega arith));
    ordered = tiles-apart (layout_of c.p) c.standing c.pieces c.tiles;
  }

  pub held : IsHeap c.p c.v c.g (booked c) (owner3 c)
  held = record {
    laid = record {
      nothing = record { stands_nil = stands-nothing c; at_nil = nil-at c; no_size = c.heap.laid.nothing.no_size };
      objects = objects;
      fields = fields;
      globals = globals;
      clear = clear;
      fragments = fragments;
      buffers = record { owns = λ k x l u. absurd (let z = u in omega arith); inside = λ k l. absurd (let z = l in omega arith) };
    };
    headed = λ n l k. heads n (name-some n l) k;
  }
