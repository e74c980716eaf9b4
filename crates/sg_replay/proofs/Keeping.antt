-- A pause keeps one set of objects, and leads to one graph.
use Rattle.std.proofs.Common.{◌≡◌, ◌≢◌, ℕ, zero, suc, ◌⊎◌, ◌↔◌, Bool, true, false, not, if◌then◌else◌, filter, ◌++◌, sym, refl, ap, ◌∙◌, subst, arith}
use Rattle.std.proofs.Math.Path.{fun_ext}
use Rattle.std.specs.List.{Contains}
use Rattle.sg_program.specs.declared.program.Program.{Program}
use Rattle.sg_graph.specs.Graph.{Graph, Ref}
use Rattle.sg_graph.specs.Pause.{IsReached, IsPause, is_widowed, link_after}

pub one_test : (a b : Bool) (P : Type 0) → (a ≡ true) ↔ P → (b ≡ true) ↔ P → a ≡ b
one_test true true P h k = refl
one_test false false P h k = refl
one_test true false P h k = sym (k.1 (h.0 refl))
one_test false true P h k = h.1 (k.0 refl)

-- what a pause that keeps these leaves of the graph
abbrev after : Program → Graph → (ℕ → Bool) → (ℕ → Bool) → Graph
after p g first kept = record g {
  field = λ n. if is_widowed p g kept n then (λ i. Ref 0) else g.field n;
  link = λ w. link_after first kept (g.link w);
  registered = filter first g.registered;
  ready = g.ready ++ filter (λ n. not (first n)) g.registered;
}

module _ (p : Program) (g : Graph) (root : ℕ → Type 0) (h h' : Graph) (kept kept' : ℕ → Bool) (x : IsPause p g root h kept)
    (y : IsPause p g root h' kept') where
  first_at : (n : ℕ) → x.first n ≡ y.first n
  first_at zero = x.nothing.0 ∙ sym y.nothing.0
  first_at (suc n) =
      one_test (x.first (suc n)) (y.first (suc n)) (IsReached p g root (suc n)) (x.reaches (suc n) (omega arith)) (y.reaches (suc n) (omega arith))

  one_first : x.first ≡ y.first
  one_first = fun_ext first_at

  -- what the roots and the registered ones among those that they don't reach lead to
  abbrev Leads : (ℕ → Bool) → ℕ → Type 0
  Leads first = IsReached p g (λ m. root m ⊎ (Contains g.registered m × (first m ≡ false)))

  there : (n : ℕ) → n ≢ 0 → (kept' n ≡ true) ↔ Leads x.first n
  there n some = subst (λ (first : ℕ → Bool). (kept' n ≡ true) ↔ Leads first n) (sym one_first) (y.keeps n some)

  kept_at : (n : ℕ) → kept n ≡ kept' n
  kept_at zero = x.nothing.1 ∙ sym y.nothing.1
  kept_at (suc n) = one_test (kept (suc n)) (kept' (suc n)) (Leads x.first (suc n)) (x.keeps (suc n) (omega arith)) (there (suc n) (omega arith))

  pub one_kept : kept ≡ kept'
  one_kept = fun_ext kept_at

  pub one_graph : h ≡ h'
  one_graph = x.after ∙ ap (λ (f : ℕ → Bool). after p g f kept) one_first ∙ ap (λ (k : ℕ → Bool). after p g y.first k) one_kept ∙ sym y.after
