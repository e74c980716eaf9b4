-- A round in its midst: lists of steps, one behind another.
use Rattle.std.proofs.Common.{◌≡◌, ◌≢◌, ℕ, ◌+◌, ◌-◌, ◌≤◌, length, eqb, List, [], ◌∷◌, ◌++◌, inl, inr, refl, ap, sym, ◌∙◌, subst}
use Rattle.std.proofs.lemmas.Bool.{cases_eq, cond-true, cond-false, eq-eqb, ne_eqb}
use Rattle.std.proofs.lemmas.List.{append-nil}
use Rattle.sg_words.specs.declared.steps.Step.{Step}
use Rattle.sg_words.specs.Words.{Words, after_step, replayed, IsLegal}
use Rattle.sg_words.proofs.Puts.{put-all}
use Rattle.sg_round.specs.Area.{Area}
use Rattle.sg_round.specs.Worker.{Worker}
use Rattle.sg_round.specs.Rules.{Deed, WorkEvent, steps, part, by_one, Follows, moved_by}
use Rattle.sg_round.specs.Laws.{steps_of, OpensSoFar, GoesSoFar, TellsSoFar, GoesAlways, BoundedLaw}
use Rattle.sg_round.proofs.Law.{part-same, part-other, so-far}
use Rattle.sg_round.proofs.Sanity.{few-settled, few-handled, is-sane}
use Rattle.sg_round.proofs.Progress.{goes-on, can-go}

-- the parts of one worker's deeds
part-own : (k : ℕ) (ds : List Deed) → part k (by_one k ds) ≡ ds
part-own k [] = refl
part-own k (d ∷ ds) = part-same (record { by = k; deed = d }) (by_one k ds) ∙ ap (λ s. d ∷ s) (part-own k ds)

part-none : (j k : ℕ) (ds : List Deed) → j ≢ k → part j (by_one k ds) ≡ []
part-none j k [] n = refl
part-none j k (d ∷ ds) n = part-other j (record { by = k; deed = d }) (by_one k ds) n ∙ part-none j k ds n

steps-own : (k : ℕ) (ds : List Deed) → steps (by_one k ds) ≡ steps_of ds
steps-own k [] = refl
steps-own k (d ∷ ds) = ap (λ s. d.step ∷ s) (steps-own k ds)

after-more : (w : Words) (ss ts : List Step) → replayed w (ss ++ ts) ≡ replayed (replayed w ss) ts
after-more w [] ts = refl
after-more w (s ∷ ss) ts = after-more (after_step w s) ss ts

legal-more : (w : Words) (ss ts : List Step) → IsLegal w ss → IsLegal (replayed w ss) ts → IsLegal w (ss ++ ts)
legal-more w [] ts p q = q
legal-more w (s ∷ ss) ts p q = (p.0, legal-more (after_step w s) ss ts p.1 q)

follows-more : (area : Area) (team k : ℕ) (a b c : Worker) (ss ts : List Deed) → Follows area team k a ss b → Follows area team k b ts c →
    Follows area team k a (ss ++ ts) c
follows-more area team k a b c [] ts f g = subst (λ x. Follows area team k x ts c) f g
follows-more area team k a b c (s ∷ ss) ts f g = (f.0, f.1, follows-more area team k f.0 b c ss ts f.2 g)

steps-more : (es fs : List WorkEvent) → steps (es ++ fs) ≡ steps es ++ steps fs
steps-more [] fs = refl
steps-more (e ∷ es) fs = ap (λ ts. e.deed.step ∷ ts) (steps-more es fs)

part-more : (k : ℕ) (es fs : List WorkEvent) → part k (es ++ fs) ≡ part k es ++ part k fs
part-more k [] fs = refl
part-more k (e ∷ es) fs = elim (cases_eq k e.by) [
  | inl same ↦ cond-true (eqb k e.by) _ _ (eq-eqb k e.by same) ∙ ap (λ ts. e.deed ∷ ts) (part-more k es fs) ∙ ap (λ ts. ts ++ part k fs)
      (sym (cond-true (eqb k e.by) (e.deed ∷ part k es) (part k es) (eq-eqb k e.by same)))
  | inr other ↦ cond-false (eqb k e.by) _ _ (ne_eqb k e.by other) ∙ part-more k es fs ∙ ap (λ ts. ts ++ part k fs)
      (sym (cond-false (eqb k e.by) (e.deed ∷ part k es) (part k es) (ne_eqb k e.by other)))
]

pub opens_so_far : OpensSoFar
opens_so_far t opening = record { events = []; opening = opening; legal = tt; is = refl; follows = λ k. refl }

pub goes_so_far : GoesSoFar
goes_so_far t v workers k a v' so went =
    let mine = by_one k went.deeds in
    let w = t.words in
    let all : steps (so.events ++ mine) ≡ steps so.events ++ steps_of went.deeds =
    steps-more so.events mine ∙ ap (λ ts. steps so.events ++ ts) (steps-own k went.deeds) in
    record {
      events = so.events ++ mine;
      opening = so.opening;
      legal = subst (λ ts. IsLegal w ts) (sym all)
          (legal-more w (steps so.events) (steps_of went.deeds) so.legal (subst (λ x. IsLegal x (steps_of went.deeds)) (sym so.is) went.legal));
      is = ap (replayed w) all ∙ after-more w (steps so.events) (steps_of went.deeds) ∙ ap (λ x. replayed x (steps_of went.deeds)) so.is ∙ sym went.after;
      follows = put-all (λ j x. Follows t.area t.team j (t.workers j) (part j (so.events ++ mine)) x) workers k a
          (subst (λ ts. Follows t.area t.team k (t.workers k) ts a)
          (sym (part-more k so.events mine ∙ ap (λ ts. part k so.events ++ ts) (part-own k went.deeds)))
          (follows-more t.area t.team k (t.workers k) (workers k) a (part k so.events) went.deeds (so.follows k) went.follows))
          (λ j other. subst (λ ts. Follows t.area t.team j (t.workers j) ts (workers j))
          (sym (part-more j so.events mine ∙ ap (λ ts. part j so.events ++ ts) (part-none j k went.deeds other) ∙ append-nil (part j so.events)))
          (so.follows j));
    }

pub tells_so_far : TellsSoFar
unfolding goes_so_far
tells_so_far t v workers k a v' so went = (goes_so_far t v workers k a v' so went, refl)

pub goes_always : GoesAlways
goes_always t v workers so = let x = so-far t v workers so in record {
  sane = λ k. is-sane so.opening x.world k;
  goes_on = λ k step a other acts e saw. goes-on so.opening x.world k (workers k) step acts.0 a acts.1 (x.world.stands k).at other e saw;
  can_go = λ k n. can-go so.opening x.world k n;
}

pub bounded : BoundedLaw
bounded t v workers so =
    let x = so-far t v workers so in
    record {
      ended = subst (λ (l : List ℕ). length l ≤ t.area.end - t.area.low) x.handled (few-handled so.opening x.world);
      settled = subst (λ (l : List ℕ). length (moved_by [] so.events) + length l ≤ t.area.high - t.area.low) x.fails
          (subst (λ (l : List ℕ). length l + length x.world.round.fails ≤ t.area.high - t.area.low) x.moves (few-settled so.opening x.world));
    }
