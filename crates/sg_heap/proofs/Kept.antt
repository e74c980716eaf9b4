-- A space whose blocks were swept holds the same graph.
use Rattle.std.proofs.Common.{◌≡◌, ◌≢◌, ℕ, ◌+◌, ◌<◌, ◌≤◌, inl, inr, length, true, refl, sym, ap, ◌∙◌, subst, arith}
use Rattle.std.specs.Int.{bit_at}
use Rattle.std.proofs.lemmas.Bool.{cases_eq}
use Rattle.sg_words.specs.Blocks.{IsOf, IsOwing, is_taken, slots, slot_from}
use Rattle.sg_words.specs.Sections.{globals_base}
use Rattle.sg_words.specs.Sweeps.{swept_word, swept_used}
use Rattle.sg_words.specs.declared.steps.BlockWord.{BlockWord}
use Rattle.sg_words.specs.declared.steps.BlockWord.TheVariants.{Free, Swept, Need, Sweeping}
use Rattle.sg_words.proofs.Blocks.{slot_fits, slot_once, block_once, slot_size-holds}
use Rattle.sg_words.proofs.Sweeps.{by_marks}
use Rattle.sg_program.specs.declared.program.Program.{Program}
use Rattle.sg_graph.specs.Graph.{Graph, Entry, Ref, Int, Inner}
use Rattle.sg_graph.specs.Book.{Book, nursery_end, old_end, slot_words, swept_out}
use Rattle.sg_graph.specs.Heap.{Owner, Of, IsHeap, IsHeaded, IsKnown, IsKnownEntry, layout_of}
use Rattle.sg_graph.specs.Blocks.{IsDirty, AreSettled}
use Rattle.sg_graph.specs.Swept.{AreSwept}
use Rattle.sg_graph.specs.Laws.{BlocksAreSwept}
use Rattle.sg_space.specs.Space.{Contents, IsContents, words_of}
use Rattle.sg_space.specs.Standing.{word, block_in, used_in, marks_in, IsGarbage}
use Rattle.sg_space.specs.Swept.{HasSwept}
use Rattle.sg_heap.specs.Holding.{IsSpaceOf, HoldsHeap}
use Rattle.sg_heap.specs.Laws.{SweepLaw}
use Rattle.sg_heap.proofs.Sound.{nursery_is, blocks_is, owned, few_fields, inside, garbage}

-- a block that is to be swept has slots of one size, and its slots are taken by their marks
owing_one : (w : BlockWord) (z y : ℕ) → IsOwing w z → IsOf w y → z ≡ y
owing_one Free z y q o = absurd q
owing_one (Swept x) z y q o = absurd q
owing_one (Need x) z y q o = sym q ∙ o
owing_one (Sweeping x) z y q o = sym q ∙ o

owing_taken : (w : BlockWord) (used marks z i : ℕ) → IsOwing w z → is_taken w used marks i ≡ 1 → bit_at marks i ≡ 1
owing_taken Free used marks z i q e = absurd q
owing_taken (Swept x) used marks z i q e = absurd q
owing_taken (Need x) used marks z i q e = e
owing_taken (Sweeping x) used marks z i q e = e

-- the slots of a swept block that are occupied fit, if those did that were occupied or marked
swept_fits : (w : BlockWord) (used marks z i : ℕ) → ((y : ℕ) → w ≡ Sweeping y → ⊥) → (w ≡ Swept z → bit_at used i ≡ 1 → i < slots z) →
    (IsOwing w z → bit_at marks i ≡ 1 → i < slots z) → swept_word w marks ≡ Swept z → bit_at (swept_used w used marks) i ≡ 1 → i < slots z
swept_fits Free used marks z i rest fits kept e q = absurd (cc)
swept_fits (Swept y) used marks z i rest fits kept e q = fits e q
swept_fits (Need y) used marks z i rest fits kept e q =
    by_marks (λ w. w ≡ Swept z → i < slots z) y marks (λ n f. absurd (cc)) (λ n f. kept (let same = f in cc) q) e
swept_fits (Sweeping y) used marks z i rest fits kept e q = absurd (rest y refl)

module _ (p : Program) (s : Contents) (g : Graph) (b : Book) (is : IsSpaceOf p s b) (owner : ℕ → Owner) (heap : IsHeap p (word s) g b owner)
    (contents : IsContents s) (settled : AreSettled p (words_of s) g b owner) where
  -- a word that is to be zeroed lies in a block
  garbage_old : (x : ℕ) → IsGarbage s x → (nursery_end p ≤ x) × (x < old_end p)
  garbage_old x q =
      let nursery = nursery_is p s g b is owner heap contents in
      let blocks = blocks_is p s g b is owner heap contents in
      let there = q.there in
      let from = q.from in
      let to = q.to in
      let fits = slot_fits q.size q.slot q.fits in
      (omega arith, omega arith)

  -- no object has a word that is to be zeroed, since the slot of an object is marked where its block is to be swept
  garbage_none : (x n : ℕ) → IsGarbage s x → owner x ≢ Of n
  garbage_none x n q e =
      let nursery = nursery_is p s g b is owner heap contents in
      let blocks = blocks_is p s g b is owner heap contents in
      let o = owned p s g b is owner heap contents n x e in
      let old = garbage_old x q in
      let above = old.0 in
      let low = o.1 in
      let high = o.2 in
      elim (cases_eq n 0) [
        | inl z ↦ let at = ap b.address z ∙ heap.laid.nothing.at_nil in let size = ap g.size z ∙ heap.laid.nothing.no_size in absurd (omega arith)
        | inr some ↦
            elim (inside p s g b is owner heap contents n some o.0) [
              | inl young ↦ let ends = young.2 in absurd (omega arith)
              | inr in_heap ↦
                  let few = few_fields p s g b is owner heap contents n some o.0 in
                  let k = settled.blocks.placed n (omega (arith, some)) o.0 in_heap.0 in
                  let c = k.0 in
                  let size = slot_words (g.size n) in
                  let holds : g.size n + 2 ≤ size = slot_size-holds (g.size n + 2) (omega arith) in
                  let at = k.2.address in
                  let from = q.from in
                  let to = q.to in
                  let base = nursery_end p in
                  let before : slot_from base q.block q.size q.slot ≤ x = omega arith in
                  let behind : x < slot_from base q.block q.size q.slot + q.size = omega arith in
                  let low_slot : slot_from base c size k.2.slot ≤ x = omega arith in
                  let high_slot : x < slot_from base c size k.2.slot + size = omega arith in
                  let same : q.block ≡ c = block_once base q.block c q.size size q.slot k.2.slot x q.fits k.2.fits before behind low_slot high_slot in
                  clash x q c size k.2.slot same k.2.of k.2.taken before behind low_slot high_slot
            ]
      ]
    where
      clash : (x : ℕ) (q : IsGarbage s x) (c z i : ℕ) → q.block ≡ c → IsOf (block_in s c) z → is_taken (block_in s c) (used_in s c) (marks_in s c) i ≡ 1 →
          slot_from (nursery_end p) q.block q.size q.slot ≤ x → x < slot_from (nursery_end p) q.block q.size q.slot + q.size →
          slot_from (nursery_end p) c z i ≤ x → x < slot_from (nursery_end p) c z i + z → ⊥
      clash x q c z i same of taken from to low high =
          let owing : IsOwing (block_in s c) q.size = subst (λ k. IsOwing (block_in s k) q.size) same q.owing in
          let unmarked : bit_at (marks_in s c) q.slot ≡ 0 = subst (λ k. bit_at (marks_in s k) q.slot ≡ 0) same q.unmarked in
          let size : q.size ≡ z = owing_one (block_in s c) q.size z owing of in
          let marked = owing_taken (block_in s c) (used_in s c) (marks_in s c) q.size i owing taken in
          let base = nursery_end p in
          let slot : q.slot ≡ i = slot_once base c z q.slot i x
          (subst (λ y. slot_from base c y q.slot ≤ x) size (subst (λ k. slot_from base k q.size q.slot ≤ x) same from))
          (subst (λ y. x < slot_from base c y q.slot + y) size (subst (λ k. x < slot_from base k q.size q.slot + q.size) same to)) low high in
          let unset = subst (λ k. bit_at (marks_in s c) k ≡ 0) slot unmarked in
          omega arith

  module _ (t : Contents) (h : HasSwept s t) where
    -- a word outside of the major heap, or of an object, is as it was
    outside : (x : ℕ) → (nursery_end p ≤ x → x < old_end p → ⊥) → word t x ≡ word s x
    outside x out = h.kept x (λ q. let old = garbage_old x q in out old.0 old.1)

    inside_object : (n x : ℕ) → b.stands n ≡ true → b.address n ≤ x → x < b.address n + (g.size n + 2) → word t x ≡ word s x
    inside_object n x stands from to = h.kept x (λ q. garbage_none x n q (heap.laid.objects.owns n x stands from to))

    headed_kept : (n : ℕ) → 1 ≤ n → b.stands n ≡ true → IsHeaded (word t) g b n
    headed_kept n some stands =
        let old = heap.headed n some stands in (
          inside_object n (b.address n) stands (omega arith) (omega arith) ∙ old.0,
          inside_object n (b.address n + 1) stands (omega arith) (omega arith) ∙ old.1,
        )

    known_kept : (n : ℕ) → IsKnown (word s) g b n → IsKnown (word t) g b n
    known_kept n k = elim (cases_eq n 0) [
      | inl z ↦ (k.0, inl z)
      | inr some ↦ (k.0, inr (headed_kept n (omega (arith, some)) k.0))
    ]

    entry_kept : (e : Entry) → IsKnownEntry (word s) g b e → IsKnownEntry (word t) g b e
    entry_kept (Ref n) k = known_kept n k
    entry_kept (Int v) k = k
    entry_kept (Inner n o) k = known_kept n k

    heap_kept : IsHeap p (word t) g (swept_out b) owner
    heap_kept =
        let laid = heap.laid in
        record {
          laid = record {
            nothing = laid.nothing;
            objects = laid.objects;
            fields = record {
              holds = λ n i stands l. inside_object n (b.address n + 2 + i) stands (omega arith) (omega arith) ∙ laid.fields.holds n i stands l;
              known = λ n i stands l. entry_kept (g.field n i) (laid.fields.known n i stands l);
              sorted = laid.fields.sorted;
            };
            globals = record {
              holds = λ x l. outside (globals_base (layout_of p) + x) (λ from to. absurd (omega arith)) ∙ laid.globals.holds x l;
              known = λ x l. known_kept (g.global x) (laid.globals.known x l);
              empty = λ x from to. outside x (λ low high. absurd (omega arith)) ∙ laid.globals.empty x from to;
            };
            clear = record {
              large = λ x from to. outside x (λ low high. absurd (omega arith)) ∙ laid.clear.large x from to;
              clear = λ x from to none. outside x (λ low high. absurd (omega arith)) ∙ laid.clear.clear x from to none;
            };
            fragments = laid.fragments;
            buffers = laid.buffers;
          };
          headed = headed_kept;
        }

    -- the blocks were swept as their own words see it
    dirty : (x : ℕ) (q : IsGarbage s x) → IsDirty p (marks_in s q.block) (block_in s q.block) q.block x
    dirty x q =
        let nursery = nursery_is p s g b is owner heap contents in
        let from = q.from in
        let to = q.to in
        record { size = q.size; slot = q.slot; owing = q.owing; fits = q.fits; unmarked = q.unmarked; from = omega arith; to = omega arith }

    blocks_swept : AreSwept p (marks_in s) (used_in s) (used_in t) (word s) (word t) (block_in s) (block_in t)
    blocks_swept = record {
      states = λ c l. h.states c;
      occupied = λ c l. h.occupied c;
      zero = λ c x l d. h.zero x (garbage p s g b is owner heap contents settled c x l d);
      kept = λ x none. h.kept x (λ q. none q.block (let blocks = blocks_is p s g b is owner heap contents in let there = q.there in omega arith) (dirty x q));
    }

    fits_kept : (c z i : ℕ) → c < p.config.blocks → block_in t c ≡ Swept z → bit_at (used_in t c) i ≡ 1 → i < slots z
    fits_kept c z i l e q = swept_fits (block_in s c) (used_in s c) (marks_in s c) z i (λ y f. settled.settled c y l f) (λ f u. is.fits c z i l f u)
        (λ owing set. ((settled.blocks.each c l).kept z i owing set).0) (sym (h.states c) ∙ e) (ap (λ u. bit_at u i) (sym (h.occupied c)) ∙ q)

    -- the space after it, as one that differs in its words, block words and occupancies alone
    abbrev after : Contents
    after = record s { words = t.words; blocks = t.blocks; used = t.used }

    space_kept : IsSpaceOf p after (swept_out b)
    space_kept = record {
      layout = is.layout;
      shapes = is.shapes;
      fragments = is.fragments;
      same = is.same;
      next = is.next;
      limit = is.limit;
      fits = fits_kept;
      pages = is.pages;
      head = is.head;
      made = is.made;
      registered = is.registered;
      pairs = is.pairs;
    }

    contents_kept : IsContents after
    contents_kept = record {
      layout = contents.layout;
      shapes = contents.shapes;
      words = h.words ∙ contents.words;
      fragments = contents.fragments;
      few = contents.few;
      blocks = h.blocks ∙ contents.blocks;
      used = h.used ∙ contents.used;
      marks = contents.marks;
      cards = contents.cards;
      bits = contents.bits;
      pages = contents.pages;
      made = contents.made;
      registered = contents.registered;
    }

    settled_kept : BlocksAreSwept → AreSettled p (words_of after) g (swept_out b) owner
    settled_kept law = record {
      blocks = law.blocks p (marks_in s) (used_in s) (used_in t) (word s) (word t) g.size b.address (block_in s) (block_in t) b.stands b.owed b.section owner
          settled.blocks settled.settled blocks_swept;
      settled = law.settled p (marks_in s) (used_in s) (used_in t) (word s) (word t) (block_in s) (block_in t) settled.settled blocks_swept;
      inhabited = law.inhabited p (marks_in s) (used_in s) (used_in t) (word s) (word t) g.size b.address (block_in s) (block_in t) b.stands b.owed b.section
          owner settled.blocks settled.settled blocks_swept settled.inhabited;
      owes = λ c l e. absurd (let none = e in cc);
      cards = record { dirty = settled.cards.dirty };
    }

    holds_kept : BlocksAreSwept → HoldsHeap p t g (swept_out b) × IsContents t
    holds_kept law = subst (λ z. HoldsHeap p z g (swept_out b) × IsContents z) (sym h.still) ((space_kept, (owner, heap_kept, settled_kept law)), contents_kept)

-- the stop word says nothing of the graph
stopped : (p : Program) (s : Contents) (g : Graph) (b : Book) (n : ℕ) → HoldsHeap p s g b → HoldsHeap p (record s { stop = n }) g b
stopped p s g b n k =
    let is = k.0 in
    let owner = k.1.0 in
    let settled = k.1.2 in (
      record {
        layout = is.layout;
        shapes = is.shapes;
        fragments = is.fragments;
        same = is.same;
        next = is.next;
        limit = is.limit;
        fits = is.fits;
        pages = is.pages;
        head = is.head;
        made = is.made;
        registered = is.registered;
        pairs = is.pairs;
      },
      (
        owner,
        k.1.1,
        record {
          blocks = settled.blocks;
          settled = settled.settled;
          inhabited = settled.inhabited;
          owes = settled.owes;
          cards = settled.cards;
        },
      ),
    )

-- a block of the space is one of the program
is_block : (p : Program) (s : Contents) (g : Graph) (b : Book) → HoldsHeap p s g b → IsContents s → (c : ℕ) → c < length s.blocks → c < p.config.blocks
is_block p s g b k contents c l =
    let layout : s.layout.blocks ≡ p.config.blocks = ap (λ z. z.blocks) k.0.layout in
    let blocks = contents.blocks in
    omega arith

pub sweep_law : BlocksAreSwept → SweepLaw
sweep_law law = record {
  swept = λ p s t g b contents k h.
      let q = holds_kept p s g b k.0 k.1.0 k.1.1 contents k.1.2 t h law in
      (q.0, q.1, λ c l. refl);
  settled = λ p s g b k contents c z l e. k.1.2.settled c z (is_block p s g b k contents c l) e;
  sized = λ p s g b k contents c z l e. k.1.2.blocks.sized c z (is_block p s g b k contents c l) (subst (λ w. IsOf w z) (sym e) refl);
  stops = λ p s g b n k. stopped p s g b n k;
}
