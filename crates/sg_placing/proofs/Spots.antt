-- What a new object finds where it stands: the words of its place by the space's owners, and its header in the space behind it.
use Rattle.std.proofs.Common.{◌≡◌, ◌≢◌, ℕ, suc, ◌+◌, ◌^◌, ◌<◌, ◌≤◌, List, length, set, get_or, inl, inr, refl, ap, sym, ◌∙◌, arith, length-set, get_or-set_same, get_or-set_other}
use Rattle.std.proofs.lemmas.Bool.{cases_eq}
use Rattle.std.specs.Int.Bits.{bit_or}
use Rattle.sg_words.specs.Address.{byte_at, word_at}
use Rattle.sg_words.specs.Blocks.{slot_base}
use Rattle.sg_words.specs.Tags.{plain_word}
use Rattle.sg_words.specs.Words.{put}
use Rattle.sg_words.specs.declared.layout.Layout.{Layout as Sections}
use Rattle.sg_words.specs.declared.steps.BlockWord.TheVariants.{Free, Swept}
use Rattle.sg_words.proofs.Blocks.{slot_size-holds, slot_fits}
use Rattle.sg_words.proofs.Puts.{put-at, put-same, put-other}
use Rattle.sg_program.specs.declared.program.Program.{Program}
use Rattle.sg_program.specs.Scripts.{words_for, IsSizeOf}
use Rattle.sg_graph.specs.Graph.{Mutator, Graph, grown}
use Rattle.sg_graph.specs.Book.{Book, Young, Old, placed, placed_in, old_end, slot_at, slot_words}
use Rattle.sg_graph.specs.Heap.{Of, Frag}
use Rattle.sg_graph.specs.Laws.{BlocksGo}
use Rattle.sg_graph.specs.Stop.{Takes, TakesSlot, HasNoFragment, HasNoSlot}
use Rattle.sg_space.specs.Space.{Contents, IsContents}
use Rattle.sg_space.specs.Standing.{block_in, used_in}
use Rattle.sg_heap.specs.Holding.{HoldsHeap, OwesNothing}
use Rattle.sg_placing.specs.Placing.{HoldsNew, HasNowhere, FillsSlot, HasNoClearSlot}
use Rattle.sg_placing.proofs.Placed.{IsPlace, HasHeader, HasOccupied, holds_young, holds_old}
use Rattle.sg_placing.proofs.Seats.{free_slot, zero_slot, clear_bit, state_cases, first_slot, none_open}

-- a write in a list, and elsewhere nothing
set_put : {A : Type 0} (xs : List A) (k : ℕ) (v none : A) → k < length xs → (j : ℕ) → get_or (set xs k v) j none ≡ put (λ i. get_or xs i none) k v j
set_put xs k v none l j = elim (cases_eq j k) [
  | inl e ↦ ap (λ i. get_or (set xs k v) i none) e ∙ get_or-set_same xs k v none l ∙ sym (put-at (λ i. get_or xs i none) k v j e)
  | inr d ↦ get_or-set_other xs k j v none d ∙ sym (put-other (λ i. get_or xs i none) k v j d)
]

-- a header that was written at the word x
module _ (s t : Contents) (x class fields : ℕ) (is : t.words ≡ set (set s.words (x + 1) fields) x (plain_word class)) (inside : x + 1 < length s.words) where
  pub has_header : HasHeader s x class fields t
  has_header = record {
    tag = ap (λ (w : List ℕ). get_or w x 0) is ∙ get_or-set_same (set s.words (x + 1) fields) x (plain_word class) 0 (omega (arith, length-set s.words (x + 1) fields));
    length_is = ap (λ (w : List ℕ). get_or w (x + 1) 0) is ∙ get_or-set_other (set s.words (x + 1) fields) x (x + 1) (plain_word class) 0 (λ e. omega arith)
        ∙ get_or-set_same s.words (x + 1) fields 0 inside;
    same = λ y d e. ap (λ (w : List ℕ). get_or w y 0) is ∙ get_or-set_other (set s.words (x + 1) fields) x y (plain_word class) 0 d
        ∙ get_or-set_other s.words (x + 1) y fields 0 e;
  }

module _ (p : Program) (s : Contents) (g : Graph) (b : Book) (contents : IsContents s) (holds : HoldsHeap p s g b) where
  -- no fragment of it has room
  pub has_no_fragment : (n : ℕ) → HasNowhere s n → HasNoFragment b n
  has_no_fragment n nowhere = record {
    none = λ f l.
        let there : f < length s.ends = omega (arith, holds.0.fragments) in
        omega (arith, nowhere f there, holds.0.next f l, holds.0.limit f l);
  }

  -- there are as many blocks as the program's settings say
  blocks_number : length s.blocks ≡ p.config.blocks
  blocks_number = contents.blocks ∙ ap (λ (l : Sections). l.blocks) holds.0.layout

  pub has_no_slot : OwesNothing p b → (fields : ℕ) → HasNoClearSlot s (slot_words fields) → HasNoSlot p g b fields
  has_no_slot unowed fields none = record { none = none_open p s g b holds unowed (slot_words fields) blocks_number none }

  -- a word of the sections that the program's settings make is one of the space
  in_space : (y : ℕ) → y < old_end p → y < length s.words
  in_space y l =
      let nursery : s.layout.nursery ≡ p.config.nursery = ap (λ (l : Sections). l.nursery) holds.0.layout in
      let blocks : s.layout.blocks ≡ p.config.blocks = ap (λ (l : Sections). l.blocks) holds.0.layout in
      let words = contents.words in
      omega arith

  module _ (k class fields : ℕ) (t : Contents) (a : ℕ) (known : class < length p.classes) (sized : IsSizeOf p class fields) where
    -- A fragment of it gave a new object its place: by the book the lowest one with room, and the space holds the graph with the
    -- new object, in whichever register that stands.
    module _ (is : HoldsNew s class fields t a) where
      abbrev fragment : ℕ
      fragment = is.fragment

      abbrev x : ℕ
      x = b.next fragment

      abbrev n : ℕ
      n = words_for fields

      abbrev next : ℕ → ℕ
      next = put b.next fragment (x + n)

      pub in_fragment : Book
      in_fragment = record (placed b (suc g.count) x) { next = next }

      there : fragment < b.fragments
      there = let number = holds.0.fragments in let l = is.there in omega arith

      at : a ≡ byte_at x
      at = is.at ∙ holds.0.next fragment there

      at_word : word_at a ≡ x
      at_word = omega (arith, at)

      room : x + n ≤ b.limit fragment
      room = omega (arith, is.room, holds.0.next fragment there, holds.0.limit fragment there)

      pub takes : Takes b n (suc g.count) fragment in_fragment
      unfolding in_fragment
      takes = record {
        there = there;
        room = room;
        lowest = λ j l. let below : j < b.fragments = let m = there in omega arith in omega (arith, is.lowest j l, holds.0.next j below, holds.0.limit j below);
        after = refl;
      }

      next_here : (i : ℕ) → i ≡ fragment → next i ≡ x + n
      next_here i e = put-at b.next fragment (x + n) i e

      next_other : (i : ℕ) → i ≢ fragment → next i ≡ b.next i
      next_other i d = put-other b.next fragment (x + n) i d

      -- the fragment's words from its next one on
      rest : (y : ℕ) → x ≤ y → y < x + n → holds.1.0 y ≡ Frag fragment
      rest y l q = let r = room in holds.1.1.laid.fragments.owns fragment y there l (omega arith)

      not_of : (y m : ℕ) → x ≤ y → y < x + n → holds.1.0 y ≡ Of m → ⊥
      not_of y m l q o = let u = rest y l q in cc

      place : IsPlace p s b holds.1.0 Young x n next
      place = record {
        free = not_of;
        zero = λ y l q. let i = holds.1.1.laid.fragments.inside fragment there in let low = i.0 in let high = i.2 in let r = room in
            holds.1.1.laid.clear.clear y (omega arith) (omega arith) (λ m o. not_of y m l q o);
        inside = let i = holds.1.1.laid.fragments.inside fragment there in let high = i.2 in let r = room in inl (refl, i.0, omega arith);
        buffers = λ i y from to l q. let o = holds.1.1.laid.buffers.owns i y from to in let u = rest y l q in cc;
        rises = λ i. elim (cases_eq i fragment) [
          | inl e ↦ let u = next_here i e in let v = ap b.next e in omega arith
          | inr d ↦ let u = next_other i d in omega arith
        ];
        within = λ i l. elim (cases_eq i fragment) [
          | inl e ↦ let u = next_here i e in let v = ap b.limit e in let r = room in omega arith
          | inr d ↦ let u = next_other i d in let o = (holds.1.1.laid.fragments.inside i l).1 in omega arith
        ];
        fragments = λ i y l from to above below. elim (cases_eq i fragment) [
          | inl e ↦ let u = next_here i e in omega arith
          | inr d ↦ let u = next_other i d in
              let o = holds.1.1.laid.fragments.owns i y l (omega arith) to in d (let z : Frag i ≡ Frag fragment = sym o ∙ rest y above below in cc)
        ];
      }

      header : HasHeader s x class fields t
      header =
          let e : t.words ≡ set (set s.words (x + 1) fields) x (plain_word class) =
          ap (λ (u : Contents). u.words) is.after ∙ ap (λ y. set (set s.words (y + 1) fields) y (plain_word class)) at_word in
          let i = (holds.1.1.laid.fragments.inside fragment there).2 in let r = room in
          has_header s t x class fields e (in_space (x + 1) (omega arith))

      pub holds_fragment : (mutator : ℕ → Mutator) → HoldsHeap p t (record (grown p g k class fields) { mutator = mutator }) in_fragment
      unfolding in_fragment
      holds_fragment mutator =
          holds_young p s g b holds.1.0 holds.0 holds.1.1 holds.1.2 k class fields x Young next mutator t known sized place header refl
          (is.after ∙ sym (λ i. record s { words = (is.after i).words; next = (is.after i).next }))
          (ap (λ (u : Contents). length u.next) is.after ∙ length-set s.next fragment (a + byte_at n))
          (λ i l. ap (λ (u : Contents). get_or u.next i 0) is.after
          ∙ set_put s.next fragment (a + byte_at n) 0 (omega (arith, holds.0.same, is.there)) i ∙ next_byte i l)
        where
          next_byte : (i : ℕ) → i < b.fragments → put (λ j. get_or s.next j 0) fragment (a + byte_at n) i ≡ byte_at (next i)
          next_byte i l = elim (cases_eq i fragment) [
            | inl e ↦ put-at (λ j. get_or s.next j 0) fragment (a + byte_at n) i e ∙ omega (arith, at, next_here i e)
            | inr d ↦ put-other (λ j. get_or s.next j 0) fragment (a + byte_at n) i d ∙ holds.0.next i l ∙ sym (ap byte_at (next_other i d))
          ]

      pub owed_fragment : in_fragment.owed ≡ b.owed
      unfolding in_fragment
      owed_fragment = refl

      pub told_fragment : a ≡ byte_at (in_fragment.address (suc g.count))
      unfolding in_fragment
      told_fragment = at ∙ ap byte_at (sym (put-same b.address (suc g.count) x))

    -- A slot of it gave a new object its place: by the book the first open one, and the space holds the graph with the new object.
    module _ (laws : BlocksGo) (unowed : OwesNothing p b) (is : FillsSlot s class fields t a) where
      abbrev z : ℕ
      z = slot_words fields

      abbrev slot : ℕ
      slot = slot_at p is.block z is.slot

      pub in_slot : Book
      in_slot = placed_in b Old (suc g.count) slot

      block_there : is.block < p.config.blocks
      block_there = let number = blocks_number in let l = is.there in omega arith

      slot_byte : a ≡ byte_at slot
      slot_byte = is.at ∙ ap (λ (l : Sections). byte_at (slot_base l is.block z is.slot)) holds.0.layout

      slot_word : word_at a ≡ slot
      slot_word = omega (arith, slot_byte)

      -- the object's words are the slot's, and end in the block
      size : words_for fields ≤ z
      size = let most = sized.0 in slot_size-holds (words_for fields) (omega arith)

      slot_end : slot + z ≤ old_end p
      slot_end = let fit = slot_fits z is.slot is.clear.fits in let l = block_there in omega arith

      slot_place : IsPlace p s b holds.1.0 Old slot (words_for fields) b.next
      slot_place = record {
        free = λ y m l q o. let most = size in free_slot p s g b holds unowed z is.block is.slot block_there is.clear y m l (omega arith) o;
        zero = λ y l q. let most = size in zero_slot p s g b holds unowed z is.block is.slot block_there is.clear y l (omega arith);
        inside = inr (refl, omega arith, (let most = size in let end = slot_end in omega arith));
        buffers = λ i y from to l q. let high = (holds.1.1.laid.buffers.inside i (omega arith)).1 in omega arith;
        rises = λ i. omega arith;
        within = λ i l. (holds.1.1.laid.fragments.inside i l).1;
        fragments = λ i y l from to above below. let high = (holds.1.1.laid.fragments.inside i l).2 in omega arith;
      }

      slot_header : HasHeader s slot class fields t
      slot_header =
          let e : t.words ≡ set (set s.words (slot + 1) fields) slot (plain_word class) =
          ap (λ (u : Contents). u.words) is.after ∙ ap (λ y. set (set s.words (y + 1) fields) y (plain_word class)) slot_word in
          let most = size in let end = slot_end in
          has_header s t slot class fields e (in_space (slot + 1) (omega arith))

      gets : HasOccupied s is.block z is.slot t
      gets = record {
        still = is.after ∙ sym (λ i. record s { words = (is.after i).words; blocks = (is.after i).blocks; used = (is.after i).used });
        block = λ c. ap (λ (u : Contents). block_in u c) is.after ∙ set_put s.blocks is.block (Swept z) Free is.there c;
        used = λ c. ap (λ (u : Contents). used_in u c) is.after
            ∙ set_put s.used is.block (bit_or (used_in s is.block) (2 ^ is.slot)) 0 (omega (arith, contents.used, contents.blocks, is.there)) c;
      }

      pub takes_slot : TakesSlot p g b fields (suc g.count) is.block is.slot in_slot
      unfolding in_slot
      takes_slot = record { first = first_slot p s g b holds unowed z is.block is.slot block_there is.clear is.below; after = refl }

      pub holds_slot : (mutator : ℕ → Mutator) → HoldsHeap p t (record (grown p g k class fields) { mutator = mutator }) in_slot
      unfolding in_slot
      holds_slot mutator =
          holds_old p s g b holds.1.0 holds.0 holds.1.1 holds.1.2 k class fields slot Old b.next mutator t known sized slot_place slot_header laws refl unowed
          is.block is.slot block_there is.clear.fits refl (state_cases p s g b holds unowed z is.block is.slot block_there is.clear)
          (clear_bit p s g b holds unowed z is.block is.slot block_there is.clear) (λ f. refl) gets

      pub owed_slot : in_slot.owed ≡ b.owed
      unfolding in_slot
      owed_slot = refl

      pub told_slot : a ≡ byte_at (in_slot.address (suc g.count))
      unfolding in_slot
      told_slot = slot_byte ∙ ap byte_at (sym (put-same b.address (suc g.count) slot))
