-- The space with which the tests begin, and what is known of it behind an answer.
use Rattle.std.proofs.Common.{◌≡◌, ℕ, zero, suc, Bool, false, List, [], ◌∷◌, length, replicate, get_or, slice_index_or, refl, sym, ap, ◌∙◌, subst, arith, zero-le}
use Rattle.std.specs.List.{AllByRecursion}
use Rattle.std.proofs.lemmas.Option.{slice_get_past}
use Rattle.sg_words.specs.Address.{byte_at}
use Rattle.sg_words.specs.Sections.{nursery_base, old_base, words_end}
use Rattle.sg_words.specs.declared.layout.Layout.{Layout}
use Rattle.sg_words.specs.declared.steps.BlockWord.TheVariants.{Free, Swept}
use Rattle.sg_desc.specs.declared.shapes.Descriptor.TheVariants.{PtrFree, VectorPlain}
use Rattle.sg_desc.specs.declared.shapes.Shape.{Shape}
use Rattle.sg_program.specs.declared.program.Program.{Program}
use Rattle.sg_program.specs.declared.program.Statement.{Statement}
use Rattle.sg_program.specs.declared.program.Statement.TheVariants.{New, NewV, Mature, Put, Get, PutD, GetD, Num, Move, Hide, Unhide, Drop}
use Rattle.sg_program.specs.declared.program.Statement.TheVariants.{Push, Pop, GPut, GGet, WSet, WGet, Final, NextFin, Same, Collect, Sections}
use Rattle.sg_program.specs.Kinds.{first_kinds}
use Rattle.sg_program.specs.Scripts.{script_of, statements_at}
use Rattle.sg_program.specs.Invariants.{FindKinds}
use Rattle.sg_graph.specs.Graph.{Graph, Mutator, Ref, no_objects}
use Rattle.sg_graph.specs.Book.{Book, nursery_end, empty_book}
use Rattle.sg_graph.specs.Heap.{layout_of}
use Rattle.sg_graph.specs.Invariants.{IsPlain}
use Rattle.sg_space.specs.Space.{Contents, words_of, IsContents, clear_space}
use Rattle.sg_space.specs.Standing.{block_in, page_in}
use Rattle.sg_heap.specs.Holding.{HoldsHeap, OwesNothing}
use Rattle.sg_rules.specs.Rules.{Constants}
use Rattle.sg_rules.specs.Resting.{IsRunnable}
use Rattle.sg_order.specs.Opening.{FirstOpening, AreFirstWords}
use Rattle.sg_placing.specs.Answering.{placing_in, FitsRoom, FitsStatement, HasAnswered}
use Rattle.sg_placing.specs.Tried.{tried, CanAnswer}
use Rattle.sg_placing.specs.declared.placing.Room.{Room}
use Rattle.sg_placing.specs.declared.placing.Room.TheVariants.{Fragments, SlotsToo}
use Rattle.sg_program.specs.declared.answers.Answer.{Answer}
use Rattle.sg_placing.proofs.Heaps.{heap_on}

free_block : (n x : ℕ) → slice_index_or (replicate n Free) x Free ≡ Free
free_block zero x = refl
free_block (suc n) zero = refl
free_block (suc n) (suc x) = free_block n x

clear_word : (n x : ℕ) → let none : ℕ = 0 in get_or (replicate n none) x none ≡ none
clear_word zero x = refl
clear_word (suc n) zero = refl
clear_word (suc n) (suc x) = clear_word n x

first_words : (s : Contents) (shapes : List Shape) (sections : Layout) → s ≡ clear_space sections shapes → AreFirstWords (words_of s)
first_words s shapes sections e = subst (λ t. AreFirstWords (words_of t)) (sym e) (record {
  stop = refl;
  next = refl;
  word = clear_word (words_end sections);
  block = free_block sections.blocks;
  used = clear_word sections.blocks;
  marks = clear_word sections.blocks;
})

-- the whole nursery is one fragment, and the blocks have the space's marks
constants : Contents → Constants
constants s = record { fragments = 1; limit = λ f. nursery_end tried; marks = (words_of s).marks }

no_statement : (k : ℕ) → script_of tried k ≡ []
no_statement k = ap statements_at (slice_get_past tried.mutators k zero-le)

pub begun : FirstOpening → (s : Contents) (shapes : List Shape) → shapes ≡ record { fields = 0; kind = VectorPlain } ∷ record { fields = 2; kind = PtrFree } ∷ [] →
    s ≡ clear_space (layout_of tried) shapes → IsContents s → CanAnswer s
unfolding constants
begun law s shapes named space contents =
    let opening = law tried (constants s) (words_of s)
    (record {
      kinds = λ k. subst (FindKinds first_kinds) (sym (no_statement k)) tt;
      runnable = λ k. subst (AllByRecursion (IsRunnable tried)) (sym (no_statement k)) tt;
    })
    (record { fragments = refl; limit = refl; marks = refl }) (first_words s shapes (layout_of tried) space) in
    record {
      contents = contents;
      graph = no_objects tried;
      book = empty_book tried;
      heap = (
        record {
          layout = ap (λ (s : Contents). s.layout) space;
          shapes = ap (λ (s : Contents). s.shapes) space ∙ named;
          fragments = sym (ap (λ (s : Contents). length s.ends) space);
          same = ap (λ (s : Contents). length s.next) space ∙ sym (ap (λ (s : Contents). length s.ends) space);
          next = λ f l. let z : f ≡ 0 = omega arith in ap (λ (s : Contents). get_or s.next f 0) space ∙ ap (λ i. get_or (byte_at nursery_base ∷ []) i 0) z;
          limit = λ f l. let z : f ≡ 0 = omega arith in ap (λ (s : Contents). get_or s.ends f 0) space
              ∙ ap (λ i. get_or (byte_at (old_base (layout_of tried)) ∷ []) i 0) z;
          fits = λ j z i l e q. absurd (let f : Free ≡ Swept z = sym (ap (λ (s : Contents). block_in s j) space ∙ free_block 2 j) ∙ e in cc f);
          pages = λ j. ap (λ (s : Contents). page_in s j) space ∙ clear_word 0 j;
          head = ap (λ (s : Contents). s.head) space;
          made = ap (λ (s : Contents). s.made) space;
          registered = ap (λ (s : Contents). s.registered) space;
          pairs = ap (λ (s : Contents). s.pairs) space;
        },
        (opening.held.owner, opening.held.heap, opening.held.settled),
      );
      plain = opening.held.plain;
      unowed = λ j l. refl;
    }

-- slots are given by each book that owes no block
pub fits_any : (b : Book) (room : Room) → OwesNothing tried b → FitsRoom tried b room
fits_any b Fragments none = tt
fits_any b SlotsToo none = none

-- and so each statement is answered by it
pub fits_each : (b : Book) (s : Statement) → OwesNothing tried b → FitsStatement tried b s
fits_each b (New r class) none = tt
fits_each b (NewV r class count) none = tt
fits_each b (Mature r class) none = none
fits_each b (Put r i s) none = tt
fits_each b (Get d r i) none = tt
fits_each b (PutD r i s) none = tt
fits_each b (GetD d r i) none = tt
fits_each b (Num d n) none = tt
fits_each b (Move d s) none = tt
fits_each b (Hide d s offset) none = tt
fits_each b (Unhide d s) none = tt
fits_each b (Drop r) none = tt
fits_each b (Push r) none = tt
fits_each b (Pop r) none = tt
fits_each b (GPut x r) none = tt
fits_each b (GGet r x) none = tt
fits_each b (WSet x r long) none = tt
fits_each b (WGet r x) none = tt
fits_each b (Final r) none = tt
fits_each b (NextFin r) none = tt
fits_each b (Same r s) none = tt
fits_each b (Collect major) none = tt
fits_each b Sections none = tt

-- mutator 0 is before this statement alone
one_before : Statement → Mutator
one_before s = record { register = λ r. Ref 0; stack = []; registered = []; script = s ∷ []; ended = false }

-- what `answer_to` ensures of the answer
abbrev pub IsAnswered : Program → Contents → Statement → Room → Answer → Contents → Type 0
IsAnswered p s asking room answer t =
    (g : Graph) (b : Book) (k : ℕ) (rest : List Statement) → HoldsHeap p s g b → IsPlain p g → FitsRoom p b room → FitsStatement p b asking →
    (g.mutator k).script ≡ asking ∷ rest → HasAnswered p (placing_in room) g b k asking rest answer t

pub still_answers : (s t : Contents) (asking : Statement) (room : Room) (answer : Answer) → CanAnswer s → IsContents t →
    IsAnswered tried s asking room answer t → CanAnswer t
unfolding one_before
still_answers s t asking room answer can contents answered =
    let g : Graph = record can.graph { mutator = λ k. one_before asking } in
    let plain : IsPlain tried g =
    record { links = can.plain.links; registered = can.plain.registered; ready = can.plain.ready; pairs = can.plain.pairs } in
    let a = answered g can.book 0 [] (heap_on tried s can.graph can.book (λ k. one_before asking) can.heap) plain (fits_any can.book room can.unowed)
    (fits_each can.book asking can.unowed) refl in
    record {
      contents = contents;
      graph = a.graph;
      book = a.book;
      heap = a.heap;
      plain = a.plain;
      unowed = λ c l. ap (λ (f : ℕ → Bool). f c) a.owed ∙ can.unowed c l;
    }
