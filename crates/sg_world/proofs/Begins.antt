-- A world before the first epoch.
use Rattle.std.proofs.Common.{◌≡◌, ℕ, zero, suc, ◌+◌, ◌≤◌, true, false, Some, List, [], ◌∷◌, ◌++◌, length, map, replicate}
use Rattle.std.proofs.Common.{get_or, slice_index_or, slice_get, inl, inr, sym, refl, ap, ◌∙◌, subst, arith, length-append}
use Rattle.std.specs.List.{All, AllByRecursion}
use Rattle.std.proofs.lemmas.Bool.{cases_lt}
use Rattle.std.proofs.lemmas.List.{length-map}
use Rattle.std.proofs.lemmas.List.Elements.{All-nil, All-cons}
use Rattle.std.proofs.lemmas.Option.{slice_get_past}
use Rattle.sg_words.specs.Address.{byte_at}
use Rattle.sg_words.specs.Sections.{nursery_base, old_base, words_end}
use Rattle.sg_words.specs.declared.layout.Layout.{Layout}
use Rattle.sg_words.specs.declared.steps.BlockWord.TheVariants.{Free, Swept}
use Rattle.sg_desc.specs.declared.shapes.Descriptor.{Descriptor}
use Rattle.sg_desc.specs.declared.shapes.Descriptor.TheVariants.{PtrFree, Run, Bitmap, VectorRefs, VectorPlain, Ephemeron}
use Rattle.sg_desc.specs.declared.shapes.Shape.{Shape}
use Rattle.sg_program.specs.declared.program.Class.{Class}
use Rattle.sg_program.specs.declared.program.Program.{Program}
use Rattle.sg_program.specs.Scripts.{script_of, statements_at}
use Rattle.sg_program.specs.Invariants.{IsSmallClass, IsWithinLimits}
use Rattle.sg_program.specs.Limits.{MayHave}
use Rattle.sg_graph.specs.Graph.{no_objects}
use Rattle.sg_graph.specs.Book.{empty_book}
use Rattle.sg_graph.specs.Heap.{layout_of as sections_in}
use Rattle.sg_graph.specs.Follows.{whole_schedule}
use Rattle.sg_graph.specs.Follows.FollowsTo.{Begins}
use Rattle.sg_space.specs.Space.{Contents, words_of, AreShapes, IsContents, clear_space}
use Rattle.sg_space.specs.Standing.{block_in, page_in}
use Rattle.sg_rules.specs.Rules.{Actor, fresh}
use Rattle.sg_order.specs.Rest.{IsEpochOpening}
use Rattle.sg_order.specs.Opening.{FirstOpening, AreFirstConstants, AreFirstWords}
use Rattle.sg_actor.specs.declared.mutator.Stage.{Stage}
use Rattle.sg_actor.specs.State.{Mutating, waiting, IsCounted}
use Rattle.sg_mutate.specs.Boards.{OccupiesSlots}
use Rattle.sg_mutate.specs.Epochs.{constants_of, found_in, found_at, actors_in, IsReadyStage}
use Rattle.sg_world.specs.Starting.{IsNew, AreNew}
use Rattle.sg_world.specs.Worlds.{CanRun, IsBetween}
use Rattle.sg_world.proofs.Lists.{at_push, some_at}

pub new_more : (p : Program) (n : ℕ) (ms : List Mutating) (m : Mutating) → AreNew p n ms → IsNew p n m → AreNew p (n + 1) (ms ++ m ∷ [])
new_more p n ms m are new = record {
  count = length-append ms (m ∷ []) ∙ ap (λ l. l + 1) are.count;
  each = λ k x e. elim (at_push ms m k x e) [
    | inl h ↦ are.each k x h
    | inr h ↦ subst (λ (y : Mutating). IsNew p k y) h.1 (subst (λ (j : ℕ). IsNew p j m) (sym (h.0 ∙ are.count)) new)
  ];
}

small_kind : (kind : Descriptor) (n : ℕ) → MayHave kind n → n ≤ 62
small_kind PtrFree n l = l
small_kind (Run first count) n l = l.2
small_kind (Bitmap bits) n l = omega arith
small_kind VectorRefs n l = omega arith
small_kind VectorPlain n l = omega arith
small_kind Ephemeron n l = omega arith

small_shapes : (classes : List Class) → AllByRecursion IsSmallClass classes →
    All (λ (shape : Shape). shape.fields ≤ 62) (map (λ (class : Class). class.shape) classes)
small_shapes [] q = All-nil (λ (shape : Shape). shape.fields ≤ 62)
small_shapes (class ∷ classes) q = All-cons (λ (shape : Shape). shape.fields ≤ 62) class.shape _ (small_kind class.shape.kind class.shape.fields q.0)
    (small_shapes classes q.1)

-- the shapes of a program's classes fit a space
pub shapes_fit : (p : Program) → IsWithinLimits p → AreShapes (map (λ (class : Class). class.shape) p.classes)
shapes_fit p limits = record {
  classes = omega (arith, length-map p.classes (λ (class : Class). class.shape), limits.classes);
  fields = small_shapes p.classes limits.fields;
}

free_block : (n x : ℕ) → slice_index_or (replicate n Free) x Free ≡ Free
free_block zero x = refl
free_block (suc n) zero = refl
free_block (suc n) (suc x) = free_block n x

clear_word : (n x : ℕ) → let none : ℕ = 0 in get_or (replicate n none) x none ≡ none
clear_word zero x = refl
clear_word (suc n) zero = refl
clear_word (suc n) (suc x) = clear_word n x

first_words : (s : Contents) (shapes : List Shape) (sections : Layout) → s ≡ clear_space sections shapes → AreFirstWords (words_of s)
first_words s shapes sections e = subst (λ t. AreFirstWords (words_of t)) (sym e) (record {
  stop = refl;
  next = refl;
  word = clear_word (words_end sections);
  block = free_block sections.blocks;
  used = clear_word sections.blocks;
  marks = clear_word sections.blocks;
})

first_constants : (p : Program) (s : Contents) (shapes : List Shape) → s ≡ clear_space (sections_in p) shapes →
    AreFirstConstants p (constants_of s) (words_of s)
first_constants p s shapes e = subst (λ t. AreFirstConstants p (constants_of t) (words_of t)) (sym e)
    (record { fragments = refl; limit = omega arith; marks = refl })

module _ (law : FirstOpening) (p : Program) (can : CanRun p) (shapes : List Shape) (named : shapes ≡ map (λ (class : Class). class.shape) p.classes)
    (s : Contents)
    (space : s ≡ clear_space (sections_in p) shapes) (contents : IsContents s) (ms : List Mutating) (new : AreNew p (length p.mutators) ms)
    (turns : List ℕ) where
  begun : IsEpochOpening p (constants_of s) (words_of s) (no_objects p) (empty_book p) (λ k. fresh (script_of p k))
  begun = law p (constants_of s) (words_of s) can.scripts (first_constants p s shapes space) (first_words s shapes (sections_in p) space)

  no_slot : OccupiesSlots p (words_of s)
  no_slot j z i l e q = absurd (let f : Free ≡ Swept z = sym (ap (λ (s : Contents). block_in s j) space ∙ free_block p.config.blocks j) ∙ e in cc f)

  same_actors : (k : ℕ) → actors_in ms k ≡ fresh (script_of p k)
  same_actors k = elim (cases_lt k (length ms)) [
    | inl l ↦ let m = some_at ms k l in let is = new.each k m.0 m.1 in ap found_in m.1 ∙ ap (λ (stage : Stage). found_at stage m.0) is.stage ∙ is.actor
    | inr l ↦
        let none : script_of p k ≡ [] = ap statements_at (slice_get_past p.mutators k (let c = new.count in omega arith)) in
        ap found_in (slice_get_past ms k l) ∙ ap fresh (sym none)
  ]

  counted : (k : ℕ) (m : Mutating) → slice_get ms k ≡ Some m → IsCounted m
  counted k m e =
      let is = new.each k m e in
      let told = ap (λ (a : Actor). length a.told) is.actor in
      let script = ap (λ (a : Actor). length a.script) is.actor in
      let wait : waiting m.stage ≡ 0 = ap waiting is.stage in
      let first = is.first in
      let same : length (script_of m.program m.number) ≡ length (script_of p k) = ap (λ q. length (script_of q m.number)) is.program
      ∙ ap (λ j. length (script_of p j)) is.number in
      omega arith

  pub begins : IsBetween p turns [] (record { program = p; space = s; mutators = ms; number = 0; owes = false }) (whole_schedule turns)
  begins = record {
    of = record {
      can = can;
      program = refl;
      are = record { count = new.count; program = λ k m e. (new.each k m e).program; number = λ k m e. (new.each k m e).number };
      contents = contents;
      counted = counted;
      numbered = omega arith;
    };
    graph = no_objects p;
    book = empty_book p;
    follows = Begins;
    opened = record {
      limits = can.limits;
      opening = subst (λ (actors : ℕ → Actor). IsEpochOpening p (constants_of s) (words_of s) (no_objects p) (empty_book p) actors)
          (λ i k. sym (same_actors k) i) begun;
      space = record { contents = contents; layout = ap (λ (s : Contents). s.layout) space };
      fits = no_slot;
      are = record { count = new.count; program = λ k m e. (new.each k m e).program; number = λ k m e. (new.each k m e).number };
      stages = λ k m e. subst (λ (stage : Stage). IsReadyStage (no_objects p) k stage) (sym (new.each k m e).stage) refl;
      going = λ all. (let e : false ≡ true = all 0 (let l = can.limits.mutators_least in omega arith) in cc e);
    };
    holds = (
      record {
        layout = ap (λ (s : Contents). s.layout) space;
        shapes = ap (λ (s : Contents). s.shapes) space ∙ named;
        fragments = sym (ap (λ (s : Contents). length s.ends) space);
        same = ap (λ (s : Contents). length s.next) space ∙ sym (ap (λ (s : Contents). length s.ends) space);
        next = λ f l. let z : f ≡ 0 = omega arith in ap (λ (s : Contents). get_or s.next f 0) space ∙ ap (λ i. get_or (byte_at nursery_base ∷ []) i 0) z;
        limit = λ f l. let z : f ≡ 0 = omega arith in ap (λ (s : Contents). get_or s.ends f 0) space
            ∙ ap (λ i. get_or (byte_at (old_base (sections_in p)) ∷ []) i 0) z;
        fits = no_slot;
        pages = λ j. ap (λ (s : Contents). page_in s j) space ∙ clear_word p.config.pages j;
        head = ap (λ (s : Contents). s.head) space;
        made = ap (λ (s : Contents). s.made) space;
        registered = ap (λ (s : Contents). s.registered) space;
        pairs = ap (λ (s : Contents). s.pairs) space;
      },
      (begun.held.owner, begun.held.heap, begun.held.settled),
    );
    unowed = λ e j l. refl;
    few = omega arith;
  }
