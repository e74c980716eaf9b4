-- More steps behind those of an epoch so far.
use Rattle.std.proofs.Common.{◌≡◌, ◌≢◌, ℕ, List, [], ◌∷◌, ◌++◌, inl, inr, refl, ap, sym, ◌∙◌, subst}
use Rattle.std.proofs.lemmas.Bool.{cases_eq, cases_Bool, cond-true, cond-false, eq-eqb, ne_eqb}
use Rattle.std.proofs.lemmas.List.{append-nil}
use Rattle.sg_words.specs.declared.steps.Tick.{Tick}
use Rattle.sg_words.specs.Words.{put, Words, after_step, after, Legal}
use Rattle.sg_words.specs.Events.{Event, ticks, part, by_one, order_of}
use Rattle.sg_words.proofs.Puts.{put-all}
use Rattle.sg_program.specs.declared.program.Program.{Program}
use Rattle.sg_graph.specs.Graph.{Graph}
use Rattle.sg_graph.specs.Book.{Book}
use Rattle.sg_rules.specs.Rules.{Constants, Actor, Follows}
use Rattle.sg_order.specs.OneOrder.{IsSoFar}

after_more : (w : Words) (ss ts : List Tick) → after w (ss ++ ts) ≡ after (after w ss) ts
after_more w [] ts = refl
after_more w (s ∷ ss) ts = after_more (after_step w s.step) ss ts

legal_more : (w : Words) (ss ts : List Tick) → Legal w ss → Legal (after w ss) ts → Legal w (ss ++ ts)
legal_more w [] ts p q = q
legal_more w (s ∷ ss) ts p q = (p.0, legal_more (after_step w s.step) ss ts p.1 q)

follows_more : (p : Program) (lay : Constants) (a b c : Actor) (ss ts : List Tick) → Follows p lay a ss b → Follows p lay b ts c → Follows p lay a (ss ++ ts) c
follows_more p lay a b c [] ts f g = subst (λ x. Follows p lay x ts c) f g
follows_more p lay a b c (s ∷ ss) ts f g = (f.0, f.1, follows_more p lay f.0 b c ss ts f.2 g)

ticks_more : (es fs : List Event) → ticks (es ++ fs) ≡ ticks es ++ ticks fs
ticks_more [] fs = refl
ticks_more (e ∷ es) fs = ap (λ ts. e.tick ∷ ts) (ticks_more es fs)

ticks-own : (k : ℕ) (ts : List Tick) → ticks (by_one k ts) ≡ ts
ticks-own k [] = refl
ticks-own k (t ∷ ts) = ap (λ s. t ∷ s) (ticks-own k ts)

-- what one actor's steps are of a list, and of its own steps
part-same : (e : Event) (es : List Event) → part e.by (e ∷ es) ≡ e.tick ∷ part e.by es
part-same e es = cond-true _ _ _ (eq-eqb e.by e.by refl)

part-other : (k : ℕ) (e : Event) (es : List Event) → k ≢ e.by → part k (e ∷ es) ≡ part k es
part-other k e es n = cond-false _ _ _ (ne_eqb k e.by n)

part-own : (k : ℕ) (ts : List Tick) → part k (by_one k ts) ≡ ts
part-own k [] = refl
part-own k (t ∷ ts) = part-same (record { by = k; tick = t }) (by_one k ts) ∙ ap (λ s. t ∷ s) (part-own k ts)

part-none : (j k : ℕ) (ts : List Tick) → j ≢ k → part j (by_one k ts) ≡ []
part-none j k [] n = refl
part-none j k (t ∷ ts) n = part-other j (record { by = k; tick = t }) (by_one k ts) n ∙ part-none j k ts n

part_more : (k : ℕ) (es fs : List Event) → part k (es ++ fs) ≡ part k es ++ part k fs
part_more k [] fs = refl
part_more k (e ∷ es) fs = elim (cases_eq k e.by) [
  | inl z ↦ cond-true _ _ _ (eq-eqb k e.by z) ∙ ap (λ ts. e.tick ∷ ts) (part_more k es fs) ∙ ap (λ ts. ts ++ part k fs)
      (sym (cond-true _ _ _ (eq-eqb k e.by z)))
  | inr n ↦ part-other k e (es ++ fs) n ∙ part_more k es fs ∙ ap (λ ts. ts ++ part k fs) (sym (part-other k e es n))
]

-- the deciding steps of two lists, one behind the other
pub order_more : (es fs : List Event) → order_of (es ++ fs) ≡ order_of es ++ order_of fs
order_more [] fs = refl
order_more (e ∷ es) fs = elim (cases_Bool e.tick.decides) [
  | inl z ↦ cond-true _ _ _ z ∙ ap (λ ks. e.by ∷ ks) (order_more es fs) ∙ ap (λ ks. ks ++ order_of fs) (sym (cond-true _ _ _ z))
  | inr z ↦ cond-false _ _ _ z ∙ order_more es fs ∙ ap (λ ks. ks ++ order_of fs) (sym (cond-false _ _ _ z))
]

module _ (p : Program) (lay : Constants) (g : Graph) (b : Book) (w : Words)
    (actors : ℕ → Actor) (k : ℕ) (a : Actor) (v : Words) (so : IsSoFar p lay g b w actors) (ts : List Tick)
    (legal : Legal w ts) (is : v ≡ after w ts) (follows : Follows p lay (actors k) ts a) where
  all : ticks (so.events ++ by_one k ts) ≡ ticks so.events ++ ts
  all = ticks_more so.events (by_one k ts) ∙ ap (λ ss. ticks so.events ++ ss) (ticks-own k ts)

  pub legal_all : Legal so.opened (ticks (so.events ++ by_one k ts))
  legal_all = subst (λ ss. Legal so.opened ss) (sym all) (legal_more so.opened (ticks so.events) ts so.legal (subst (λ x. Legal x ts) (sym so.is) legal))

  pub is_all : after so.opened (ticks (so.events ++ by_one k ts)) ≡ v
  is_all = ap (after so.opened) all ∙ after_more so.opened (ticks so.events) ts ∙ ap (λ x. after x ts) so.is ∙ sym is

  pub follows_all : (j : ℕ) → Follows p lay (so.first j) (part j (so.events ++ by_one k ts)) (put actors k a j)
  follows_all = put-all (λ j x. Follows p lay (so.first j) (part j (so.events ++ by_one k ts)) x) actors k a
      (subst (λ ss. Follows p lay (so.first k) ss a) (sym (part_more k so.events (by_one k ts) ∙ ap (λ ss. part k so.events ++ ss) (part-own k ts)))
      (follows_more p lay (so.first k) (actors k) a (part k so.events) ts (so.follows k) follows))
      (λ j other. subst (λ ss. Follows p lay (so.first j) ss (actors j))
      (sym (part_more j so.events (by_one k ts) ∙ ap (λ ss. part j so.events ++ ss) (part-none j k ts other) ∙ append-nil (part j so.events)))
      (so.follows j))

  -- so far with these steps of one mutator more
  abbrev pub so_more : IsSoFar p lay g b v (put actors k a)
  so_more = record {
    opened = so.opened;
    first = so.first;
    events = so.events ++ by_one k ts;
    opening = so.opening;
    legal = legal_all;
    is = is_all;
    follows = follows_all;
  }
