-- An epoch in its midst: lists of steps, one behind another.
use Rattle.std.proofs.Common.{◌≡◌, ℕ, eqb, List, [], ◌∷◌, ◌++◌, inl, inr, refl, ap, sym, ◌∙◌, subst}
use Rattle.std.proofs.lemmas.Bool.{cases_eq, cond-true, cond-false, eq-eqb, ne_eqb}
use Rattle.std.proofs.lemmas.List.{append-nil}
use Rattle.sg_words.specs.declared.steps.Tick.{Tick}
use Rattle.sg_words.specs.Words.{Words, after_step, after, Legal}
use Rattle.sg_words.specs.Events.{Event, ticks, part, by_one}
use Rattle.sg_program.specs.declared.answers.Answer.{Answer}
use Rattle.sg_graph.specs.Graph.{Graph}
use Rattle.sg_graph.specs.Book.{Book}
use Rattle.sg_program.specs.declared.program.Program.{Program}
use Rattle.sg_rules.specs.Rules.{Constants, Actor, Follows}
use Rattle.sg_order.specs.OneOrder.{IsOneOrder, OpensSoFar, GoesSoFar, IsSoFar, OrdersSoFar, AreGoing, GoesAlways}
use Rattle.sg_words.proofs.Puts.{put-all}
use Rattle.sg_order.proofs.Events.{part-own, part-none, ticks-own}
use Rattle.sg_order.proofs.Beside.{World}
use Rattle.sg_graph.specs.Laws.{BlocksGo}
use Rattle.sg_order.specs.Sweep.{no_winner, winners}
use Rattle.sg_order.proofs.Whole.{Explained, one_by_one}
use Rattle.sg_order.proofs.Sanity.{is_sane}
use Rattle.sg_order.proofs.Progress.{goes_on}
use Rattle.sg_order.proofs.BlockProgress.{goes_on_blocks}
use Rattle.sg_order.proofs.Law.{at_opening, is_one_order}

after_more : (w : Words) (ss ts : List Tick) → after w (ss ++ ts) ≡ after (after w ss) ts
after_more w [] ts = refl
after_more w (s ∷ ss) ts = after_more (after_step w s.step) ss ts

legal_more : (w : Words) (ss ts : List Tick) → Legal w ss → Legal (after w ss) ts → Legal w (ss ++ ts)
legal_more w [] ts p q = q
legal_more w (s ∷ ss) ts p q = (p.0, legal_more (after_step w s.step) ss ts p.1 q)

follows_more : (p : Program) (lay : Constants) (a b c : Actor) (ss ts : List Tick) → Follows p lay a ss b → Follows p lay b ts c → Follows p lay a (ss ++ ts) c
follows_more p lay a b c [] ts f g = subst (λ x. Follows p lay x ts c) f g
follows_more p lay a b c (s ∷ ss) ts f g = (f.0, f.1, follows_more p lay f.0 b c ss ts f.2 g)

ticks_more : (es fs : List Event) → ticks (es ++ fs) ≡ ticks es ++ ticks fs
ticks_more [] fs = refl
ticks_more (e ∷ es) fs = ap (λ ts. e.tick ∷ ts) (ticks_more es fs)

part_more : (k : ℕ) (es fs : List Event) → part k (es ++ fs) ≡ part k es ++ part k fs
part_more k [] fs = refl
part_more k (e ∷ es) fs = elim (cases_eq k e.by) [
  | inl same ↦ cond-true (eqb k e.by) _ _ (eq-eqb k e.by same) ∙ ap (λ ts. e.tick ∷ ts) (part_more k es fs) ∙ ap (λ ts. ts ++ part k fs)
      (sym (cond-true (eqb k e.by) (e.tick ∷ part k es) (part k es) (eq-eqb k e.by same)))
  | inr other ↦ cond-false (eqb k e.by) _ _ (ne_eqb k e.by other) ∙ part_more k es fs ∙ ap (λ ts. ts ++ part k fs)
      (sym (cond-false (eqb k e.by) (e.tick ∷ part k es) (part k es) (ne_eqb k e.by other)))
]

pub opens_so_far : OpensSoFar
opens_so_far p lay w g b actors opening = record { opened = w; first = actors; events = []; opening = opening; legal = tt; is = refl; follows = λ k. refl }

pub goes_so_far : GoesSoFar
goes_so_far p lay g b w actors k a v so went =
    let mine = by_one k went.ticks in
    let all : ticks (so.events ++ mine) ≡ ticks so.events ++ went.ticks = ticks_more so.events mine ∙ ap (λ ts. ticks so.events ++ ts)
    (ticks-own k went.ticks) in
    record {
      opened = so.opened;
      first = so.first;
      events = so.events ++ mine;
      opening = so.opening;
      legal = subst (λ ts. Legal so.opened ts) (sym all)
          (legal_more so.opened (ticks so.events) went.ticks so.legal (subst (λ x. Legal x went.ticks) (sym so.is) went.legal));
      is = ap (after so.opened) all ∙ after_more so.opened (ticks so.events) went.ticks ∙ ap (λ x. after x went.ticks) so.is ∙ sym went.after;
      follows = put-all (λ j x. Follows p lay (so.first j) (part j (so.events ++ mine)) x) actors k a
          (subst (λ ts. Follows p lay (so.first k) ts a) (sym (part_more k so.events mine ∙ ap (λ ts. part k so.events ++ ts) (part-own k went.ticks)))
          (follows_more p lay (so.first k) (actors k) a (part k so.events) went.ticks (so.follows k) went.follows))
          (λ j other. subst (λ ts. Follows p lay (so.first j) ts (actors j))
          (sym (part_more j so.events mine ∙ ap (λ ts. part j so.events ++ ts) (part-none j k went.ticks other) ∙ append-nil (part j so.events)))
          (so.follows j));
    }

pub orders_so_far : BlocksGo → OrdersSoFar
orders_so_far go p lay g b w actors so = subst (λ v. IsOneOrder p lay so.opened g b so.events v actors) so.is
    (is_one_order go p lay so.opened g b so.events so.first actors so.opening so.legal so.follows)

-- in the midst of an epoch one order explains what came so far, and the words and the mutators stand to the graph after it
explained_so_far : BlocksGo → (p : Program) (lay : Constants) (g : Graph) (b : Book) (w : Words) (actors : ℕ → Actor) → (so : IsSoFar p lay g b w actors) →
    Explained p lay g.count so.events so.opened g b (λ _. []) no_winner actors
explained_so_far go p lay g b w actors so =
    one_by_one go p lay g.count so.events so.opened g b (λ _. []) no_winner so.first actors
    (at_opening p lay so.opened g b no_winner so.first so.opening) so.legal so.follows

going : (p : Program) (lay : Constants) (first : ℕ) (w : Words) (g : Graph) (b : Book) (said : ℕ → List Answer) (by : ℕ → ℕ) (actors : ℕ → Actor) →
    World p lay first w g b said by actors → AreGoing p lay w actors
going p lay first w g b said by actors wo = record {
  sane = λ k. is_sane p lay w g b said wo.owner wo.ground k (actors k) (wo.stands k) by (wo.beside k);
  goes_on = λ k step a other acts e saw. elim acts.1 [
    | inl comes ↦ goes_on p lay w g b said k wo.owner wo.ground (actors k) step acts.0 a comes (wo.stands k) other e saw
    | inr comes ↦ goes_on_blocks p lay w g b said by k wo.owner wo.ground (actors k) step acts.0 a comes (wo.stands k) (wo.beside k) other e saw
  ];
}

pub goes_always : BlocksGo → GoesAlways
goes_always go p lay g b w actors so =
    let x = explained_so_far go p lay g b w actors so in
    subst (λ v. AreGoing p lay v actors) so.is
    (going p lay g.count (after so.opened (ticks so.events)) x.graph x.book x.says (winners no_winner so.events) actors x.world)
