-- What is true of a mutator by itself follows from how the words stand to the graph and the book.
use Rattle.std.proofs.Common.{◌≡◌, ◌≢◌, ℕ, suc, ◌+◌, ◌-◌, ◌<◌, ◌≤◌, true, List, [], ◌∷◌, length, map, ap, sym, ◌∙◌, subst, inl, inr, refl, arith}
use Rattle.std.proofs.lemmas.Bool.{cases_eq}
use Rattle.std.proofs.lemmas.List.{length-map}
use Rattle.sg_words.specs.Address.{byte_at}
use Rattle.sg_words.specs.Words.{Words}
use Rattle.sg_words.specs.Lists.{Pairwise}
use Rattle.sg_words.specs.Sections.{large_base}
use Rattle.sg_desc.specs.declared.shapes.Descriptor.{Descriptor}
use Rattle.sg_desc.specs.Shapes.{Sort, Reference, Plain, has_field}
use Rattle.sg_program.specs.declared.program.Statement.{Statement}
use Rattle.sg_program.specs.declared.program.Statement.TheVariants.{New, NewV, Mature, Put, Get, PutD, GetD, Num, Move, Hide, Unhide, Drop, Push, Pop, GPut, GGet, WSet, WGet, Final, NextFin, Same, Collect, Sections}
use Rattle.sg_program.specs.declared.program.Program.{Program}
use Rattle.sg_program.specs.declared.answers.Answer.{Answer}
use Rattle.sg_program.specs.Kinds.{IsRef, IsInner, Needs}
use Rattle.sg_graph.specs.Graph.{Entry, Ref, Int, Inner, Graph}
use Rattle.sg_graph.specs.Book.{Book, word_of}
use Rattle.sg_graph.specs.Heap.{Owner}
use Rattle.sg_rules.specs.Rules.{Constants, StackWord, Mid, Idle, TestTag, TestLength, Access, MarkCard, AccessGlobal, Look, Claim, StoreLength, StoreTag, HideLength, Ask, Left, Yielded, Actor, sections_of, IsInHeap, IsReference}
use Rattle.sg_rules.specs.Rules.{Task, Search, Roam, SeeBlock, TakeBlock, SeeUsed, TakeSlot, TakeOver, StoreOccupancy, ClearSlots, ClearWords, Retired}
use Rattle.sg_rules.specs.Resting.{IsRunnable}
use Rattle.sg_rules.specs.Sane.{HasBuffer, HoldsInner, RestsOn, IsSearching, IsOnTask, IsSweeping, IsSaneAt, IsSane}
use Rattle.sg_words.specs.Blocks.{IsOf}
use Rattle.sg_order.specs.Knowing.{Sweeps, KnowsAt}
use Rattle.sg_order.specs.Rest.{kind_of_entry, StandsAt}
use Rattle.sg_order.proofs.Accesses.{reference_field, plain_field}
use Rattle.sg_order.proofs.Relation.{Ground, IsMutator, AtTask, AtMid, Keeps, Stands}
use Rattle.sg_order.proofs.Beside.{Beside}
use Rattle.sg_order.proofs.Moves.{kinds_of, fits_as, runnable_as}
use Rattle.sg_order.proofs.Loads.{is_ref, reg_at, known_at, object_at}

-- two lists whose items stand in pairs have the same length
pairwise_length : {A B : Type 0} (R : A → B → Type 0) (xs : List A) (ys : List B) → Pairwise R xs ys → length xs ≡ length ys
pairwise_length R [] [] h = refl
pairwise_length R [] (y ∷ ys) h = absurd h
pairwise_length R (x ∷ xs) [] h = absurd h
pairwise_length R (x ∷ xs) (y ∷ ys) h = ap suc (pairwise_length R xs ys h.1)

-- a field that there is stands within the length
field_within : (sort : Sort) (kind : Descriptor) (n i : ℕ) → has_field sort kind n i ≡ true → i < n
field_within Reference kind n i e = (reference_field kind n i e).0
field_within Plain kind n i e = (plain_field kind n i e).0

module _ (p : Program) (lay : Constants) (w : Words) (g : Graph) (b : Book) (said : ℕ → List Answer) (owner : ℕ → Owner) (t : Ground p lay w g b owner) where
  -- what stands has an address in the heap, and ends there
  in_heap : (n : ℕ) → n ≢ 0 → b.stands n ≡ true → IsInHeap p (byte_at (b.address n))
  in_heap n some stands = elim (t.laid.objects.inside n (omega (arith, some)) stands) [
    | inl young ↦ record { above = omega (arith, young.1); below = omega (arith, young.2); whole = omega arith }
    | inr old ↦ record { above = omega (arith, old.1); below = omega (arith, old.2); whole = omega arith }
  ]

  ends_in_heap : (n : ℕ) → n ≢ 0 → b.stands n ≡ true → b.address n + (g.size n + 2) ≤ large_base (sections_of p)
  ends_in_heap n some stands = elim (t.laid.objects.inside n (omega (arith, some)) stands) [
    | inl young ↦ omega (arith, young.2)
    | inr old ↦ omega (arith, old.2)
  ]

  nil_word : (n : ℕ) → n ≡ 0 → byte_at (b.address n) ≡ 0
  nil_word n z = ap (λ m. byte_at (b.address m)) z ∙ ap byte_at t.laid.nothing.at_nil

  -- the word of what stands is that of a reference
  pub is_reference : (n : ℕ) → b.stands n ≡ true → IsReference p (byte_at (b.address n))
  is_reference n stands = elim (cases_eq n 0) [ inl z ↦ inl (nil_word n z) | inr some ↦ inr (in_heap n some stands) ]

  -- the object into which a word points
  object_behind : (e : Entry) (v offset : ℕ) → StandsAt g b offset e → kind_of_entry e ≡ IsInner → v ≡ word_of b.address e → v ≢ 0 →
      (offset ≤ v) × IsInHeap p (v - offset)
  object_behind (Int m) v offset stands kind is some = cc
  object_behind (Ref n) v offset stands kind is some = cc
  object_behind (Inner n o) v offset stands kind is some = elim stands.2 [
    | inl z ↦ absurd (some (let at = nil_word n z.0 in let none = z.1 in omega (arith, is)))
    | inr d ↦
        let same = stands.1 in
        let there : byte_at (b.address n) ≡ v - offset = omega (arith, is) in
        (omega (arith, is), subst (IsInHeap p) there (in_heap n d.0 stands.0))
  ]

  module _ (k : ℕ) (a : Actor) (st : Stands p lay w g b said k a) where
    has_buffer : HasBuffer p a
    has_buffer l =
        let inside = t.laid.buffers.inside k (omega (arith, st.from_is, st.to_is)) in
        (omega (arith, inside.0, st.from_is), omega (arith, inside.1, st.to_is))

    references : (r : ℕ) → kind_of_entry (st.entry r) ≡ IsRef → IsReference p (a.reg r)
    references r kind =
        let n = is_ref (st.entry r) kind in
        subst (IsReference p) (sym (reg_at p lay w g b said k owner t a st r n.0 n.1))
        (is_reference n.0 (known_at p lay w g b said k owner t a st r n.0 n.1).0)

    -- a register that holds an object has its address
    in_register : (r n : ℕ) → st.entry r ≡ Ref n → n ≢ 0 → IsInHeap p (a.reg r)
    in_register r n e some = subst (IsInHeap p) (sym (reg_at p lay w g b said k owner t a st r n e))
        (in_heap n some (known_at p lay w g b said k owner t a st r n e).0)

    holds_inner : (r : ℕ) → kind_of_entry (st.entry r) ≡ IsInner → HoldsInner p a r
    holds_inner r kind some = object_behind (st.entry r) (a.reg r) (a.offset r) (st.offsets r) kind (st.regs r) some

    pub stacked : length a.stack ≡ length (map kind_of_entry (g.mutator k).stack)
    stacked = pairwise_length (λ (slot : StackWord) (entry : Entry). Keeps w.word g b slot.word slot.offset entry) a.stack (g.mutator k).stack st.stack ∙ sym
        (length-map (g.mutator k).stack kind_of_entry)

    rests_on : (s : Statement) → Needs (kinds_of st.entry (g.mutator k).stack) s → RestsOn p a s
    rests_on (New r class) need = has_buffer
    rests_on (NewV r class count) need = has_buffer
    rests_on (Put r i v) need = references r need.0
    rests_on (Get d r i) need = references r need
    rests_on (PutD r i v) need = references r need.0
    rests_on (GetD d r i) need = references r need
    rests_on (Hide d v offset) need = references v need
    rests_on (Unhide d v) need = holds_inner v need
    rests_on (Push r) need = omega (arith, stacked, need)
    rests_on (Pop r) need = omega (arith, stacked, need)
    rests_on (Mature r class) need = tt
    rests_on (Num d n) need = tt
    rests_on (Move d v) need = tt
    rests_on (Drop r) need = tt
    rests_on (GPut x r) need = tt
    rests_on (GGet r x) need = tt
    rests_on (WSet x r long) need = tt
    rests_on (WGet r x) need = tt
    rests_on (Final r) need = tt
    rests_on (NextFin r) need = tt
    rests_on (Same r v) need = tt
    rests_on (Collect major) need = tt
    rests_on Sections need = tt

    -- the statement in which the mutator stands is run
    pub runs : (s : Statement) (rest : List Statement) → IsMutator g said k st.entry (s ∷ rest) st.answers → IsRunnable p s
    runs s rest is = (runnable_as p lay w g b said k st.entry (s ∷ rest) st.answers is st.runnable).0

    searching : (s : Statement) (c : ℕ) → AtTask p g said k st.entry st.answers a.script (Search s) → c < p.config.blocks → IsSearching p s c
    searching s c at there = record { runnable = runs s a.script at.1; makes = at.0; there = there }

    on_task : (u : Task) (c : ℕ) → AtTask p g said k st.entry st.answers a.script u → c < p.config.blocks → IsOnTask p u c
    on_task (Search s) c at there = searching s c at there
    on_task Roam c at there = there

    -- a block that is being swept has slots of a size class
    in_sweep : (by : ℕ → ℕ) (u : Task) (c z : ℕ) → AtTask p g said k st.entry st.answers a.script u → Sweeps p w.block by k c z → IsSweeping p u c z
    in_sweep by u c z at own = record {
      task = on_task u c at own.there;
      there = own.there;
      class = t.blocks.sized c z own.there (subst (λ state. IsOf state z) (sym own.word) refl);
    }

    sane_at : (by : ℕ → ℕ) (mid : Mid) → AtMid p lay w g b said k st.entry st.answers a.script mid → KnowsAt p lay w b.owed by k mid → IsSaneAt p lay a mid
    sane_at by Idle at knows = λ s rest script.
        let is = subst (λ statements. IsMutator g said k st.entry statements st.answers) script at in
        record { runnable = runs s rest is; rests = rests_on s (fits_as p lay w g b said k st.entry (s ∷ rest) st.answers is st.fits).0 }
    sane_at by (TestTag s test) at knows = record {
      runnable = runs s a.script at.1;
      tests = at.0.tests;
      object = in_register test.register at.0.name at.0.holds at.0.some;
    }
    sane_at by (TestLength s test class) at knows =
        let n = at.0 in
        let stands = (known_at p lay w g b said k owner t a st test.register n.name n.holds).0 in
        let some = n.some in (
          record { runnable = runs s a.script at.2; tests = n.tests; object = in_register test.register n.name n.holds n.some },
          subst (λ c. c < length p.classes) (sym at.1) (t.laid.objects.shaped n.name (omega arith) stands).0,
        )
    sane_at by (Access s) at knows =
        let test = at.0 in
        let n = at.1 in
        let stands = (known_at p lay w g b said k owner t a st test.register n.name n.holds).0 in
        let object = object_at p lay w g b said k owner t a st test.register n.name n.holds in
        let ends = ends_in_heap n.name n.some stands in
        let below = field_within test.sort _ (g.size n.name) test.field n.finds in
        record {
          test = test;
          testing = record { runnable = runs s a.script at.2; tests = n.tests; object = in_register test.register n.name n.holds n.some };
          inside = omega (arith, object, ends, below);
        }
    sane_at by (MarkCard s card) at knows = at.0
    sane_at by (AccessGlobal s) at knows = (runs s a.script at.1, at.0)
    sane_at by (Look s f) at knows = (record { runnable = runs s a.script at.3; makes = at.0 }, at.1)
    sane_at by (Claim s f seen) at knows =
        let there : f < b.fragments = let l = at.1 in omega (arith, t.number) in
        record {
          maker = record { runnable = runs s a.script at.4; makes = at.0 };
          there = at.1;
          from = at.6;
          room = at.3;
          inside = omega (arith, t.limits f there, (t.laid.fragments.inside f there).2);
        }
    sane_at by (StoreLength s x) at knows = at.heading
    sane_at by (StoreTag s x) at knows = at.0.heading
    sane_at by (HideLength d s offset) at knows = in_register s at.0 at.1 at.2
    sane_at by (SeeBlock u begins c) at knows = λ may. on_task u c at (knows.1 may)
    sane_at by (TakeBlock s c) at knows = searching s c at knows.1
    sane_at by (SeeUsed s c) at knows = searching s c at knows.1
    sane_at by (TakeSlot s c i) at knows = (searching s c at knows.1, knows.3)
    sane_at by (TakeOver u c z) at knows = record { task = on_task u c at knows.1; there = knows.1; class = knows.2 }
    sane_at by (StoreOccupancy u c z) at knows = in_sweep by u c z at knows.1
    sane_at by (ClearSlots u c z i) at knows = in_sweep by u c z at knows.1.sweeps
    sane_at by (ClearWords u c z i f) at knows = record {
      sweeping = in_sweep by u c z at knows.1.mid.sweeps;
      fits = knows.1.fits;
      word = knows.1.more;
      unmarked = knows.1.unmarked;
    }
    sane_at by Retired at knows = tt
    sane_at by (Ask s) at knows = tt
    sane_at by (Left s) at knows = tt
    sane_at by Yielded at knows = tt

    pub is_sane : (by : ℕ → ℕ) → Beside p lay w b by k a.mid → IsSane p lay a
    is_sane by be = sane_at by a.mid st.at be.at
