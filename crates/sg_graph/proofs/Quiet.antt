-- A graph without pairs, weak links and registrations stays as it is in a pause, which keeps what the roots reach by strong fields.
use Rattle.std.proofs.Common.{◌≡◌, ◌≢◌, ℕ, zero, suc, ◌≤◌, ◌↔◌, ◌⊎◌, ◌&&◌, cond, Bool, true, false, not, inl, inr, List, [], ◌++◌, filter, sym, refl, ap, ◌∙◌, subst, arith}
use Rattle.std.proofs.lemmas.Bool.{cond-true, cond-false, cases_Bool}
use Rattle.std.specs.List.{Contains}
use Rattle.sg_program.specs.declared.program.Program.{Program}
use Rattle.sg_desc.specs.declared.shapes.Descriptor.{Descriptor}
use Rattle.sg_desc.specs.declared.shapes.Descriptor.TheVariants.{PtrFree, Run, Bitmap, VectorRefs, VectorPlain, Ephemeron}
use Rattle.sg_desc.specs.Shapes.{holds_reference, is_strong}
use Rattle.sg_program.specs.Scripts.{kind_of}
use Rattle.sg_graph.specs.Graph.{Graph, Ref, Link}
use Rattle.sg_words.specs.Reach.{Rounds, Reached}
use Rattle.sg_graph.specs.Pause.{IsTarget, IsPair, Reach, IsReached, is_pair, holds_kept, is_widowed, link_after, IsPause, IsRoot}
use Rattle.sg_graph.specs.Invariants.{IsPlain}
use Rattle.sg_graph.specs.Major.{IsMajorRoot}
use Rattle.sg_graph.specs.Laws.{QuietPause}
use Rattle.sg_words.proofs.Closure.{from_rounds, to_rounds}

-- which fields are strong doesn't hang on how many there are
pub strong_any : (kind : Descriptor) (i m n : ℕ) → is_strong kind i m ≡ is_strong kind i n
strong_any PtrFree i m n = refl
strong_any (Run first count) i m n = refl
strong_any (Bitmap bits) i m n = refl
strong_any VectorRefs i m n = refl
strong_any VectorPlain i m n = refl
strong_any Ephemeron i m n = refl

-- a strong field holds a reference
pub strong_holds : (kind : Descriptor) (i n : ℕ) → is_strong kind i n ≡ true → holds_reference kind i n ≡ true
strong_holds PtrFree i n e = e
strong_holds (Run first count) i n e = e
strong_holds (Bitmap bits) i n e = e
strong_holds VectorRefs i n e = e
strong_holds VectorPlain i n e = e
strong_holds Ephemeron i n e = refl

-- and in what is no pair, each field that holds one is strong
pub strong_as : (kind : Descriptor) (i n : ℕ) → is_pair kind ≡ false → is_strong kind i n ≡ holds_reference kind i n
strong_as PtrFree i n e = refl
strong_as (Run first count) i n e = refl
strong_as (Bitmap bits) i n e = refl
strong_as VectorRefs i n e = refl
strong_as VectorPlain i n e = refl
strong_as Ephemeron i n e = absurd (let z : true ≡ false = e in cc)

none_in : (m : ℕ) → Contains [] m → ⊥
none_in m h = let l = h.1 in omega arith

module _ (p : Program) (g : Graph) where
  -- what is reached from fewer roots is reached from more
  pub reach_more : (root more : ℕ → Type 0) → ((n : ℕ) → root n → more n) → (k n : ℕ) → Reach p g root k n → Reach p g more k n
  reach_more root more up zero n h = up n h
  reach_more root more up (suc k) n (inl h) = inl (reach_more root more up k n h)
  reach_more root more up (suc k) n (inr (inl h)) = inr (inl (h.0, reach_more root more up k h.0 h.1, h.2))
  reach_more root more up (suc k) n (inr (inr h)) = inr (inr (h.0, h.1, reach_more root more up k h.0 h.2, reach_more root more up k h.1 h.3, h.4))

  pub from_reach : (root : ℕ → Type 0) → ((m key n : ℕ) → Reached (IsTarget p g) root m → IsPair p g m key n → ⊥) → (k n : ℕ) → Reach p g root k n → Rounds (IsTarget p g) root k n
  from_reach root alone zero n h = h
  from_reach root alone (suc k) n (inl h) = inl (from_reach root alone k n h)
  from_reach root alone (suc k) n (inr (inl h)) = inr (h.0, from_reach root alone k h.0 h.1, h.2)
  from_reach root alone (suc k) n (inr (inr h)) = absurd (alone h.0 h.1 n (from_rounds (IsTarget p g) root k h.0 (from_reach root alone k h.0 h.2)) h.4)

  pub to_reach : (root : ℕ → Type 0) (k n : ℕ) → Rounds (IsTarget p g) root k n → Reach p g root k n
  to_reach root zero n h = h
  to_reach root (suc k) n (inl h) = inl (to_reach root k n h)
  to_reach root (suc k) n (inr h) = inr (inl (h.0, to_reach root k h.0 h.1, h.2))

  module _ (plain : IsPlain p g) where
    no_pair : (m key n : ℕ) → 1 ≤ m → m ≤ g.count → IsPair p g m key n → ⊥
    no_pair m key n l u h = let e : true ≡ false = ap is_pair (sym h.0) ∙ plain.pairs m l u in cc

    -- where only objects of the graph are reached, a round adds targets of strong fields alone
    pub as_rounds : (root : ℕ → Type 0) → ((m : ℕ) → Reached (IsTarget p g) root m → (1 ≤ m) × (m ≤ g.count)) → (n : ℕ) → IsReached p g root n ↔ Rounds (IsTarget p g) root g.count n
    as_rounds root bound n = (
      from_reach root (λ m key k r h. (let b = bound m r in no_pair m key k b.0 b.1 h)) g.count n,
      to_reach root g.count n,
    )

    -- a strong field is one that holds a reference
    pub strong_here : (n i : ℕ) → 1 ≤ n → n ≤ g.count → is_strong (kind_of p (g.class n)) i (g.size n) ≡ holds_reference (kind_of p (g.class n)) i (g.size n)
    strong_here n i l u = strong_as (kind_of p (g.class n)) i (g.size n) (plain.pairs n l u)

    none_registered : (m : ℕ) → Contains g.registered m → ⊥
    none_registered m h = none_in m (subst (λ (ms : List ℕ). Contains ms m) plain.registered h)

    pub none_ready : (m : ℕ) → Contains g.ready m → ⊥
    none_ready m h = none_in m (subst (λ (ms : List ℕ). Contains ms m) plain.ready h)

    link_same : (kept : ℕ → Bool) (w : ℕ) → g.link w ≡ link_after kept kept (g.link w)
    link_same kept w = elim (cases_Bool (cond (g.link w).long (kept (g.link w).target) (kept (g.link w).target))) [
      | inl e ↦ sym (cond-true _ _ _ e)
      | inr e ↦ emptied ∙ sym (cond-false _ _ _ e)
    ]
      where
        emptied : g.link w ≡ record (g.link w) { target = 0 }
        emptied = ap (λ (t : ℕ). let l : Link = record (g.link w) { target = t } in l) (plain.links w)

    module _ (root : ℕ → Type 0) (kept : ℕ → Bool) (among : (n : ℕ) → kept n ≡ true → (1 ≤ n) × (n ≤ g.count)) where
      not_widowed : (n : ℕ) → is_widowed p g kept n ≡ false
      not_widowed n = elim (cases_Bool (kept n)) [
        | inr e ↦ ap (λ z. z && is_pair (kind_of p (g.class n)) && not (holds_kept kept (g.field n 0))) e
        | inl e ↦ ap (λ z. kept n && z && not (holds_kept kept (g.field n 0))) (let b = among n e in plain.pairs n b.0 b.1) ∙ by_kept
      ]
        where
          by_kept : (kept n && false && not (holds_kept kept (g.field n 0))) ≡ false
          by_kept = elim (cases_Bool (kept n)) [
            | inl e ↦ ap (λ z. z && false && not (holds_kept kept (g.field n 0))) e
            | inr e ↦ ap (λ z. z && false && not (holds_kept kept (g.field n 0))) e
          ]

      field_same : (n : ℕ) → g.field n ≡ cond (is_widowed p g kept n) (λ i. Ref 0) (g.field n)
      field_same n = sym (cond-false _ _ _ (not_widowed n))

      registered_same : g.registered ≡ filter kept g.registered
      registered_same = plain.registered ∙ ap (filter kept) (sym plain.registered)

      ready_same : g.ready ≡ (g.ready ++ filter (λ n. not (kept n)) g.registered)
      ready_same = plain.ready ∙ ap (λ (r : List ℕ). r ++ []) (sym plain.ready) ∙ ap (λ (r : List ℕ). g.ready ++ filter (λ n. not (kept n)) r) (sym plain.registered)

      after_same : g ≡ record g {
        field = λ n. cond (is_widowed p g kept n) (λ i. Ref 0) (g.field n);
        link = λ w. link_after kept kept (g.link w);
        registered = filter kept g.registered;
        ready = g.ready ++ filter (λ n. not (kept n)) g.registered;
      }
      after_same = λ i. record g { field = λ n. (field_same n) i; link = λ w. (link_same kept w) i; registered = registered_same i; ready = ready_same i }

      none_kept : kept 0 ≡ false
      none_kept = elim (cases_Bool (kept 0)) [ inl e ↦ absurd (let l = (among 0 e).0 in omega arith) | inr e ↦ e ]

      -- the pause
      pub quiet : ((n : ℕ) → n ≢ 0 → kept n ≡ true ↔ IsReached p g root n) → IsPause p g root g kept
      quiet exact = record {
        first = kept;
        nothing = (none_kept, none_kept);
        reaches = exact;
        keeps = λ n d. (
          λ k. reach_more root (λ m. root m ⊎ (Contains g.registered m × (kept m ≡ false))) (λ m r. inl r) g.count n ((exact n d).0 k),
          λ r. (exact n d).1 (reach_more (λ m. root m ⊎ (Contains g.registered m × (kept m ≡ false))) root (λ m h. elim h [ inl r ↦ r | inr q ↦ absurd (none_registered m q.0) ]) g.count n r),
        );
        after = after_same;
      }

pub quiet_pause : QuietPause
quiet_pause = record {
  none_ready = λ p g plain. none_ready p g plain;
  strong = λ p g plain. strong_here p g plain;
  reaches = λ p g b ambiguous plain bound n. (
    λ k. from_rounds (IsTarget p g) (IsRoot p g b ambiguous) g.count n ((as_rounds p g plain (IsRoot p g b ambiguous) bound n).0 k),
    λ r. (as_rounds p g plain (IsRoot p g b ambiguous) bound n).1 (to_rounds (IsTarget p g) (IsRoot p g b ambiguous) g.count bound n r),
  );
  pause = λ p g b ambiguous plain kept among exact. quiet p g plain (IsRoot p g b ambiguous) kept among exact;
  reaches_major = λ p g b ambiguous plain bound n. (
    λ k. from_rounds (IsTarget p g) (IsMajorRoot p g b ambiguous) g.count n ((as_rounds p g plain (IsMajorRoot p g b ambiguous) bound n).0 k),
    λ r. (as_rounds p g plain (IsMajorRoot p g b ambiguous) bound n).1 (to_rounds (IsTarget p g) (IsMajorRoot p g b ambiguous) g.count bound n r),
  );
  pause_major = λ p g b ambiguous plain kept among exact. quiet p g plain (IsMajorRoot p g b ambiguous) kept among exact;
}
