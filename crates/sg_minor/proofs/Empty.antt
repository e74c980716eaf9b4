-- A space before its first object holds the graph without objects.
use Rattle.std.proofs.Common.{◌≡◌, ℕ, zero, suc, ◌+◌, ◌<◌, ◌≤◌, ◌⊎◌, inl, inr, eqb, ltb, cond, map, true, false, refl, sym, ap, ◌∙◌, subst, arith, slice_index, replicate}
use Rattle.std.proofs.lemmas.Bool.{cond-true, cond-false, cases_Bool, cases_lt, eqb-true, ltb-true, lt-ltb, le-ltb}
use Rattle.std.proofs.lemmas.List.{get_or-replicate, get_or_past, length-replicate}
use Rattle.sg_words.specs.Address.{byte_at}
use Rattle.sg_words.specs.Blocks.{IsOf, IsOwing}
use Rattle.sg_words.specs.declared.steps.BlockWord.{BlockWord}
use Rattle.sg_words.specs.declared.steps.BlockWord.TheVariants.{Free, Swept, Sweeping}
use Rattle.sg_program.specs.declared.program.Class.{Class}
use Rattle.sg_program.specs.declared.program.Program.{Program}
use Rattle.sg_graph.specs.Graph.{no_objects}
use Rattle.sg_graph.specs.Book.{empty_book, nursery_end}
use Rattle.sg_words.specs.Sections.{nursery_base, globals_base, words_end}
use Rattle.sg_graph.specs.Blocks.{AreSettled}
use Rattle.sg_graph.specs.Invariants.{IsPlain}
use Rattle.sg_space.specs.Space.{Contents, clear_space, words_of}
use Rattle.sg_space.specs.Standing.{word, block_in}
use Rattle.sg_graph.specs.Heap.{Owner, Of, Frag, Nobody, IsLaid, layout_of}
use Rattle.sg_heap.specs.Holding.{HoldsHeap}
use Rattle.sg_minor.specs.Parts.{HoldsSome}
use Rattle.sg_minor.proofs.Names.{of-same}

zeros : (n i : ℕ) → slice_index (replicate n 0) i ≡ 0
zeros n i = elim (cases_lt i n) [
  | inl l ↦ get_or-replicate n i 0 0 l
  | inr past ↦ get_or_past (replicate n 0) i 0 (let size = length-replicate {A = ℕ} n 0 in omega arith)
]

module _ (p : Program) where
  abbrev empty_space : Contents
  empty_space = clear_space (layout_of p) (map (λ (class : Class). class.shape) p.classes)

  -- nothing has the words 0 and 1, and the one fragment has the nursery
  abbrev owner_in : ℕ → Owner
  owner_in x = cond (ltb x 2) (Of 0) (cond (ltb x 512) Nobody (cond (ltb x (nursery_end p)) (Frag 0) Nobody))

  at_nothing : (x : ℕ) → x < 2 → owner_in x ≡ Of 0
  at_nothing x l = cond-true _ _ _ (lt-ltb x 2 l)

  in_nursery : (x : ℕ) → 512 ≤ x → x < nursery_end p → owner_in x ≡ Frag 0
  in_nursery x from to = cond-false _ _ _ (le-ltb x 2 (omega arith)) ∙ cond-false _ _ _ (le-ltb x 512 from) ∙ cond-true _ _ _ (lt-ltb x (nursery_end p) to)

  not_of : (n : ℕ) (o : Owner) → (o ≡ Nobody) ⊎ (o ≡ Frag 0) → o ≡ Of n → ⊥
  not_of n o (inl e) f = let z : Nobody ≡ Of n = sym e ∙ f in cc
  not_of n o (inr e) f = let z : Frag 0 ≡ Of n = sym e ∙ f in cc

  other : (x : ℕ) → ltb x 2 ≡ false → (owner_in x ≡ Nobody) ⊎ (owner_in x ≡ Frag 0)
  other x e = elim (cases_Bool (ltb x 512)) [
    | inl low ↦ inl (cond-false _ _ _ e ∙ cond-true _ _ _ low)
    | inr up ↦ elim (cases_Bool (ltb x (nursery_end p))) [
      | inl young ↦ inr (cond-false _ _ _ e ∙ cond-false _ _ _ up ∙ cond-true _ _ _ young)
      | inr old ↦ inl (cond-false _ _ _ e ∙ cond-false _ _ _ up ∙ cond-false _ _ _ old)
    ]
  ]

  of_nothing : (n x : ℕ) → owner_in x ≡ Of n → (n ≡ 0) × (x < 2)
  of_nothing n x e = elim (cases_Bool (ltb x 2)) [
    | inl l ↦ (sym (of-same 0 n (sym (cond-true _ _ _ l) ∙ e)), ltb-true x 2 l)
    | inr up ↦ absurd (not_of n (owner_in x) (other x up) e)
  ]

  nothing_stands : (n : ℕ) → eqb n 0 ≡ true → n ≡ 0
  nothing_stands n e = eqb-true n 0 e

  all_zero : (x : ℕ) → x < words_end (layout_of p) → word empty_space x ≡ 0
  all_zero x l = get_or-replicate (words_end (layout_of p)) x 0 0 l

  first_next : (f : ℕ) → f < 1 → slice_index empty_space.next f ≡ byte_at nursery_base
  first_next zero l = refl
  first_next (suc f) l = absurd (omega arith)

  first_end : (f : ℕ) → f < 1 → slice_index empty_space.ends f ≡ byte_at (nursery_end p)
  first_end zero l = refl
  first_end (suc f) l = absurd (omega arith)

  empty_laid : IsLaid p (word empty_space) (no_objects p) (empty_book p) owner_in
  empty_laid = record {
    nothing = record { stands_nil = refl; at_nil = refl; no_size = refl };
    objects = record {
      given = λ n stands. let e = nothing_stands n stands in omega arith;
      shaped = λ n some stands. let e = nothing_stands n stands in absurd (omega arith);
      owns = λ n x stands from to. at_nothing x (omega arith) ∙ ap Of (sym (nothing_stands n stands));
      owned = λ n x e. let q = of_nothing n x e in let l = q.1 in (ap (λ z. eqb z 0) q.0, omega arith, omega arith);
      inside = λ n some stands. let e = nothing_stands n stands in absurd (omega arith);
    };
    fields = record {
      holds = λ n i stands l. absurd (omega arith);
      known = λ n i stands l. absurd (omega arith);
      sorted = λ n i stands l. absurd (omega arith);
    };
    globals = record {
      holds = λ x l. all_zero (globals_base (layout_of p) + x) (omega arith);
      known = λ x l. (refl, inl refl);
      empty = λ x from to. all_zero x to;
    };
    clear = record { large = λ x from to. all_zero x (omega arith); clear = λ x from to none. all_zero x (omega arith) };
    fragments = record {
      owns = λ f x l from to. in_nursery x from to ∙ ap Frag (let e : 0 ≡ f = omega arith in e);
      inside = λ f l. (omega arith, omega arith, omega arith);
      ordered = λ f j l m. absurd (omega arith);
    };
    buffers = record {
      owns = λ k x from to. absurd (omega arith);
      inside = λ k l. absurd (omega arith);
    };
  }

  free_there : (c : ℕ) → c < p.config.blocks → block_in empty_space c ≡ Free
  free_there c l = get_or-replicate p.config.blocks c Free Free l

  none_of : (c z : ℕ) → c < p.config.blocks → IsOf (block_in empty_space c) z → ⊥
  none_of c z l h = subst (λ (w : BlockWord). IsOf w z) (free_there c l) h

  none_owing : (c z : ℕ) → c < p.config.blocks → IsOwing (block_in empty_space c) z → ⊥
  none_owing c z l h = subst (λ (w : BlockWord). IsOwing w z) (free_there c l) h

  not_free : (c : ℕ) (w : BlockWord) → c < p.config.blocks → block_in empty_space c ≡ w → Free ≡ w
  not_free c w l e = sym (free_there c l) ∙ e

  empty_settled : AreSettled p (words_of empty_space) (no_objects p) (empty_book p) owner_in
  empty_settled = record {
    blocks = record {
      placed = λ n some stands old. let e = nothing_stands n stands in absurd (omega arith);
      each = λ c l. record {
        filled = λ z i of fits taken. absurd (none_of c z l of);
        bare = λ e. zeros p.config.blocks c;
        owing = λ z owing. absurd (none_owing c z l owing);
        kept = λ z i owing set. absurd (none_owing c z l owing);
        unmarked = λ e. zeros p.config.blocks c;
        within = λ z e i set. absurd (let k = not_free c (Swept z) l e in cc);
      };
      clear = λ c l x from to none dirty. all_zero x (omega arith);
      sized = λ c z l of. absurd (none_of c z l of);
    };
    settled = λ c z l e. let k = not_free c (Sweeping z) l e in cc;
    inhabited = λ c z l e. absurd (let k = not_free c (Swept z) l e in cc);
    owes = λ c l e. absurd (let k = e in cc);
    cards = record { dirty = λ n i m some stands. let e = nothing_stands n stands in absurd (omega arith) };
  }

  pub empty_holds : HoldsHeap p empty_space (no_objects p) (empty_book p)
  empty_holds = (
    record {
      layout = refl;
      shapes = refl;
      fragments = refl;
      same = refl;
      next = first_next;
      limit = first_end;
      fits = λ c z i l e set. absurd (let k = not_free c (Swept z) l e in cc);
      pages = λ j. zeros p.config.pages j;
      head = refl;
      made = refl;
      registered = refl;
      pairs = refl;
    },
    (
      owner_in,
      record {
        laid = empty_laid;
        headed = λ n some stands. let e = nothing_stands n stands in absurd (omega arith);
      },
      empty_settled,
    ),
  )

  plain : IsPlain p (no_objects p)
  plain = record {
    links = λ w. refl;
    registered = refl;
    ready = refl;
    pairs = λ n some there. absurd (omega arith);
  }

  pub empty_some : (s : Contents) → s ≡ empty_space → HoldsSome s
  empty_some s e = subst HoldsSome (sym e) (p, no_objects p, empty_book p, empty_holds, (λ c l. refl), plain)
