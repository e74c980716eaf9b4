-- Each slot to come stays in one place.
use Rattle.std.proofs.Common.{◌≡◌, ◌≢◌, ℕ, ◌⊎◌, List, [], ◌∷◌, ◌++◌, sym, refl, ◌∙◌, subst, inl, inr}
use Rattle.std.proofs.lemmas.Bool.{cases_eq}
use Rattle.sg_words.specs.Lists.{In}
use Rattle.sg_words.specs.Reach.{AreDistinct}
use Rattle.sg_words.proofs.Members.{has-cases, in-here, in-there, in-left, in-right, in-cases, fresh-out}
use Rattle.sg_round.proofs.Lists.{fresh-not, distinct-append, distinct-left, distinct-apart}
use Rattle.sg_round.proofs.Relation.{todo_with, IsSingle}

-- fewer slots of others and in cells, and the same list
pub single-as : {others others' : ℕ → Type 0} {inside inside' : ℕ → ℕ → Type 0} (xs xs' handled : List ℕ) → ((s : ℕ) → others' s → others s) →
    ((j s : ℕ) → inside' j s → inside j s) → xs ≡ xs' → IsSingle others inside xs handled → IsSingle others' inside' xs' handled
single-as xs xs' handled back unfill e q = record {
  mine = subst AreDistinct e q.mine;
  theirs = λ s h o. q.theirs s (old s h) (back s o);
  celled = λ j s c h. q.celled j s (unfill j s c) (elim h [ inl i ↦ inl (old s i) | inr o ↦ inr (back s o) ]);
  cells = λ i j s c d. q.cells i j s (unfill i s c) (unfill j s d);
  done = λ s h t. q.done s h (elim t [
    | inl o ↦ inl (back s o)
    | inr t ↦ elim t [ inl i ↦ inr (inl (old s i)) | inr c ↦ inr (inr (c.0, unfill c.0 s c.1)) ]
  ]);
  once = q.once;
}
  where
    old : (s : ℕ) → In s xs' → In s xs
    old s h = subst (λ (l : List ℕ). In s l) (sym e) h

module _ {others : ℕ → Type 0} {inside : ℕ → ℕ → Type 0} where
  -- the handling of the first slot ends
  pub ends-single : (s : ℕ) (xs handled : List ℕ) → IsSingle others inside (s ∷ xs) handled → IsSingle others inside xs (s ∷ handled)
  ends-single s xs handled q = record {
    mine = q.mine.1;
    theirs = λ z h o. q.theirs z (in-there z s xs h) o;
    celled = λ j z e h. q.celled j z e (elim h [ inl i ↦ inl (in-there z s xs i) | inr o ↦ inr o ]);
    cells = q.cells;
    done = λ z h t. elim (has-cases z s handled h) [
      | inr i ↦ q.done z i (elim t [
        | inl o ↦ inl o
        | inr t ↦ elim t [ inl i ↦ inr (inl (in-there z s xs i)) | inr c ↦ inr (inr c) ]
      ])
      | inl e ↦ elim t [
        | inl o ↦ q.theirs z (in-here z s xs e) o
        | inr t ↦ elim t [
          | inl i ↦ fresh-not s xs q.mine.0 (subst (λ (z : ℕ). In z xs) e i)
          | inr c ↦ q.celled c.0 z c.1 (inl (in-here z s xs e))
        ]
      ]
    ];
    once = (fresh-out s handled (λ h. q.done s h (inr (inl (in-here s s xs refl)))), q.once);
  }

  -- new slots come
  pub pushes-single : (xs new handled : List ℕ) → IsSingle others inside xs handled → AreDistinct new →
      ((z : ℕ) → In z new → todo_with others inside xs z ⊎ In z handled → ⊥) →
      IsSingle others inside (xs ++ new) handled
  pushes-single xs new handled q d n = record {
    mine = distinct-append xs new q.mine d (λ z h i. n z h (inl (inr (inl i))));
    theirs = λ z h o. elim (in-cases z xs new h) [ inl i ↦ q.theirs z i o | inr i ↦ n z i (inl (inl o)) ];
    celled = λ j z e h. elim h [
      | inr o ↦ q.celled j z e (inr o)
      | inl h ↦ elim (in-cases z xs new h) [ inl i ↦ q.celled j z e (inl i) | inr i ↦ n z i (inl (inr (inr (j, e)))) ]
    ];
    cells = q.cells;
    done = λ z h t. elim t [
      | inl o ↦ q.done z h (inl o)
      | inr t ↦ elim t [
        | inr c ↦ q.done z h (inr (inr c))
        | inl i ↦ elim (in-cases z xs new i) [ inl i ↦ q.done z h (inr (inl i)) | inr i ↦ n z i (inr h) ]
      ]
    ];
    once = q.once;
  }

  -- the last slots go into cell k, which held none
  pub offered-single : (inside' : ℕ → ℕ → Type 0) (k : ℕ) (xs ys handled : List ℕ) → ((s : ℕ) → inside' k s → In s ys) →
      ((j s : ℕ) → j ≢ k → inside' j s → inside j s) →
      IsSingle others inside (xs ++ ys) handled → IsSingle others inside' xs handled
  offered-single inside' k xs ys handled here there q = record {
    mine = distinct-left xs ys q.mine;
    theirs = λ s h o. q.theirs s (in-left s xs ys h) o;
    celled = λ j s c h. elim (cases_eq j k) [
      | inl e ↦ (let i = here s (subst (λ (z : ℕ). inside' z s) e c) in elim h [
        | inl h ↦ distinct-apart xs ys q.mine s h i
        | inr o ↦ q.theirs s (in-right s xs ys i) o
      ])
      | inr n ↦ q.celled j s (there j s n c) (elim h [ inl h ↦ inl (in-left s xs ys h) | inr o ↦ inr o ])
    ];
    cells = λ i j s c d. elim (cases_eq i k) [
      | inl e ↦ elim (cases_eq j k) [
        | inl f ↦ e ∙ sym f
        | inr n ↦ absurd (q.celled j s (there j s n d) (inl (in-right s xs ys (here s (subst (λ (z : ℕ). inside' z s) e c)))))
      ]
      | inr m ↦ elim (cases_eq j k) [
        | inl f ↦ absurd (q.celled i s (there i s m c) (inl (in-right s xs ys (here s (subst (λ (z : ℕ). inside' z s) f d)))))
        | inr n ↦ q.cells i j s (there i s m c) (there j s n d)
      ]
    ];
    done = λ s h t. elim t [
      | inl o ↦ q.done s h (inl o)
      | inr t ↦ elim t [
        | inl i ↦ q.done s h (inr (inl (in-left s xs ys i)))
        | inr c ↦ elim (cases_eq c.0 k) [
          | inl e ↦ q.done s h (inr (inl (in-right s xs ys (here s (subst (λ (z : ℕ). inside' z s) e c.1)))))
          | inr n ↦ q.done s h (inr (inr (c.0, there c.0 s n c.1)))
        ]
      ]
    ];
    once = q.once;
  }

  -- the slots of cell k are taken by a worker that has none
  pub grabbed-single : (inside' : ℕ → ℕ → Type 0) (k : ℕ) (ys handled : List ℕ) → AreDistinct ys → ((s : ℕ) → In s ys → inside k s) →
      ((j s : ℕ) → inside' j s → (j ≢ k) × inside j s) → IsSingle others inside [] handled → IsSingle others inside' ys handled
  grabbed-single inside' k ys handled d full there q = record {
    mine = d;
    theirs = λ s h o. q.celled k s (full s h) (inr o);
    celled = λ j s c h. (let u = there j s c in elim h [
      | inl h ↦ u.0 (q.cells j k s u.1 (full s h))
      | inr o ↦ q.celled j s u.1 (inr o)
    ]);
    cells = λ i j s c e. q.cells i j s (there i s c).1 (there j s e).1;
    done = λ s h t. elim t [
      | inl o ↦ q.done s h (inl o)
      | inr t ↦ elim t [
        | inl i ↦ q.done s h (inr (inr (k, full s i)))
        | inr c ↦ q.done s h (inr (inr (c.0, (there c.0 s c.1).1)))
      ]
    ];
    once = q.once;
  }
