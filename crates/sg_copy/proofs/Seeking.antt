-- How a worker with nothing to do looks at the offer cells, over any port.
use Rattle.std.proofs.Common.{◌≡◌, ℕ, ◌+◌, ◌*◌, ◌<◌, ◌≤◌, ◌⊎◌, nat_lt, if◌then◌else◌, inl, inr, refl, sym, ap, subst, arith}
use Rattle.std.proofs.lemmas.Bool.{cases_lt, cond-true, cond-false, lt-ltb, le-ltb}
use Rattle.sg_words.specs.declared.steps.Place.TheVariants.{Cell}
use Rattle.sg_words.specs.declared.steps.Step.{Step}
use Rattle.sg_words.specs.declared.steps.Step.TheVariants.{Load}
use Rattle.sg_words.specs.declared.steps.Call.TheVariants.{Loads}
use Rattle.sg_round.specs.Items.{Item, cell_word, looked_cell}
use Rattle.sg_round.specs.Worker.{Mid, Idle, Seek, Grab, Over}
use Rattle.sg_round.specs.Rules.{Nothing, IsLooking}
use Rattle.sg_round.specs.Rules.Comes.{seeks, ends, finds}
use Rattle.sg_copy.specs.Telling.{Seat, Teller, Tells, at}
use Rattle.sg_copy.specs.Turning.{LooksAt}
use Rattle.sg_copy.proofs.Ports.{Ports, On, Started, Did, may_now, saw_now, on_now, started, on_started, started_then, gone_started}
use Rattle.sg_copy.proofs.Seen.{SawAt, HoldsItem, saw_at}

-- where a worker stands that has seen the first i cells empty
abbrev pub sought : ℕ → ℕ → Mid
sought team i = if nat_lt i (8 * team) then Seek i else Over

pub sought_more : (team i : ℕ) → i < 8 * team → sought team i ≡ Seek i
sought_more team i l = cond-true (nat_lt i (8 * team)) (Seek i) Over (lt-ltb i (8 * team) l)

pub sought_all : (team i : ℕ) → 8 * team ≤ i → sought team i ≡ Over
sought_all team i l = cond-false (nat_lt i (8 * team)) (Seek i) Over (le-ltb i (8 * team) l)

module _ {P : Type 0} (o : Ports P) (seat : Seat) (t : Teller) where
  -- the worker a looks at the cell in the place i
  module _ (i : ℕ) (a : Teller) (is : LooksAt a i (at t Idle)) where
    pub at_same : (mid : Mid) → at a mid ≡ at t mid
    at_same mid = elim is.where_is [
      | inl e ↦ ap (λ (b : Teller). at b mid) e.1
      | inr e ↦ ap (λ (b : Teller). at b mid) e
    ]

    looking : IsLooking a.worker i
    looking = elim is.where_is [
      | inl e ↦ subst (λ (b : Teller). IsLooking b.worker i) (sym e.1) (record { nothing = is.nothing; at = inl (refl, e.0) })
      | inr e ↦ subst (λ (b : Teller). IsLooking b.worker i) (sym e) (record { nothing = is.nothing; at = inr refl })
    ]

    abbrev cell : ℕ
    cell = looked_cell seat.team seat.number i

    to_mid : (step : Step) (mid : Mid) → Tells seat a step (at a mid) → Tells seat a step (at t mid)
    to_mid step mid n = subst (λ (b : Teller). Tells seat a step b) (at_same mid) n

    empty_next : Tells seat a (Load (Cell cell) 0) (at t (sought seat.team (i + 1)))
    empty_next = elim (cases_lt (i + 1) (8 * seat.team)) [
      | inl l ↦ subst (λ (mid : Mid). Tells seat a (Load (Cell cell) 0) (at t mid)) (sym (sought_more seat.team (i + 1) l))
          (to_mid (Load (Cell cell) 0) (Seek (i + 1)) (Nothing, seeks a.worker i looking l, refl, refl))
      | inr l ↦ subst (λ (mid : Mid). Tells seat a (Load (Cell cell) 0) (at t mid)) (sym (sought_all seat.team (i + 1) l))
          (to_mid (Load (Cell cell) 0) Over (Nothing, ends a.worker i looking l, refl, refl))
    ]

    module _ (p : P) (on : On o seat p a) where
      pub cell_may : o.may p (Loads (Cell cell))
      cell_may = may_now o seat a (at t (sought seat.team (i + 1))) p on (Load (Cell cell) 0) empty_next

      module _ (v : ℕ) (q : P) (did : Did o seat p (Load (Cell cell) v) q) where
        pub cell_saw : HoldsItem v
        cell_saw =
            let next = saw_now o seat a (at t (sought seat.team (i + 1))) p on (Load (Cell cell) 0) empty_next (Load (Cell cell) v) refl did.0 in
            let saw = saw_at seat.area seat.team seat.number a.worker (Load (Cell cell) v) next.0.1.0 next.0.0.worker next.0.1.1 in
            elim is.where_is [
              | inl e ↦ (subst (λ (b : Teller). SawAt b.worker.list b.worker.mid (Load (Cell cell) v)) e.1 saw) is.nothing.0
              | inr e ↦ subst (λ (b : Teller). SawAt b.worker.list b.worker.mid (Load (Cell cell) v)) e saw
            ]

        pub cell_empty : v ≡ 0 → Started o seat a p (at t (sought seat.team (i + 1))) q
        cell_empty e = started o seat a (at t (sought seat.team (i + 1))) p on (Load (Cell cell) 0) empty_next q
            (subst (λ u. Did o seat p (Load (Cell cell) u) q) e did)

        found_next : (item : Item) → Tells seat a (Load (Cell cell) (cell_word item)) (at t (Grab i item))
        found_next item = to_mid (Load (Cell cell) (cell_word item)) (Grab i item) (Nothing, finds a.worker i item looking, refl, refl)

        pub cell_full : (item : Item) → v ≡ cell_word item → On o seat q (at t (Grab i item)) × Started o seat a p (at t (Grab i item)) q
        cell_full item e =
            let here : Did o seat p (Load (Cell cell) (cell_word item)) q = subst (λ u. Did o seat p (Load (Cell cell) u) q) e did in (
              on_now o seat a (at t (Grab i item)) p on (Load (Cell cell) (cell_word item)) (found_next item) q here,
              started o seat a (at t (Grab i item)) p on (Load (Cell cell) (cell_word item)) (found_next item) q here,
            )

  -- from the worker a on the cells from the place `from` to before i were seen empty
  abbrev pub HasSought : ℕ → Teller → P → ℕ → P → Type 0
  HasSought from a x i y = ((i ≡ from) × (y ≡ x)) ⊎ Started o seat a x (at t (sought seat.team i)) y

  -- where the worker then stands
  pub record SeeksHere (a : Teller) (x : P) (i : ℕ) (y : P) : Type 0 where
    pub here : Teller
    pub looks : LooksAt here i (at t Idle)
    pub on : On o seat y here
    pub started_by : (b : Teller) (z : P) → Started o seat here y b z → Started o seat a x b z

  pub seeks_here : (from : ℕ) (a : Teller) (x : P) → LooksAt a from (at t Idle) → On o seat x a → (i : ℕ) (y : P) → i < 8 * seat.team →
      HasSought from a x i y → SeeksHere a x i y
  seeks_here from a x is on i y l h = elim h [
    | inl e ↦ record {
      here = a;
      looks = subst (λ k. LooksAt a k (at t Idle)) (sym e.0) is;
      on = subst (λ (z : P). On o seat z a) (sym e.1) on;
      started_by = λ b z s. subst (λ (w : P). Started o seat a w b z) e.1 s;
    }
    | inr s ↦ (
        let there : Started o seat a x (at t (Seek i)) y = subst (λ (mid : Mid). Started o seat a x (at t mid) y) (sought_more seat.team i l) s in record {
          here = at t (Seek i);
          looks = record { where_is = inr refl; nothing = is.nothing };
          on = on_started o seat a (at t (Seek i)) x y on there;
          started_by = λ b z more. started_then o seat a (at t (Seek i)) b x y z there (gone_started o seat (at t (Seek i)) b y z (λ r. r) more);
        })
  ]

  -- a worker that looks at a cell looks at one that is there
  pub from_there : (i : ℕ) (a : Teller) → LooksAt a i (at t Idle) → (x : P) → On o seat x a → i < 8 * seat.team
  from_there i a is x on = elim is.where_is [
    | inl e ↦ (let some = on.guided.is_sane.worker.limits.some in let z = e.0 in omega arith)
    | inr e ↦ (let here = subst (λ (b : Teller). On o seat x b) e on in here.guided.is_sane.worker.at.0)
  ]
