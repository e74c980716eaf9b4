-- In the midst of an epoch each mutator is guided over the space.
use Rattle.std.proofs.Common.{◌≡◌, ℕ, List, [], ◌∷◌, ◌++◌, length, refl, ap, sym, ◌∙◌, subst}
use Rattle.sg_words.specs.declared.steps.Step.{Step}
use Rattle.sg_words.specs.declared.steps.Tick.{Tick}
use Rattle.sg_words.specs.Calls.{call_of}
use Rattle.sg_words.specs.Programs.{FollowsBy}
use Rattle.sg_words.specs.Words.{put, Words, Saw, steps_of, replayed, after_step, IsLegal}
use Rattle.sg_words.proofs.Puts.{put-same}
use Rattle.sg_program.specs.declared.program.Program.{Program}
use Rattle.sg_graph.specs.Graph.{Graph}
use Rattle.sg_graph.specs.Book.{Book}
use Rattle.sg_space.specs.Space.{Contents, words_of, cards_in}
use Rattle.sg_words.specs.Sections.{old_base, words_end, IsLayout}
use Rattle.sg_frag.specs.Plain.{KeepsSections}
use Rattle.sg_frag.specs.Leading.{limit_of, marks_of}
use Rattle.sg_rules.specs.Rules.{Constants, Actor, Follows, Went}
use Rattle.sg_rules.specs.Sane.{IsSane}
use Rattle.sg_rules.specs.Acting.{Acts}
use Rattle.sg_order.specs.OneOrder.{IsSoFar, AreGoing, GoesSoFar, GoesAlways}
use Rattle.sg_mutate.specs.Going.{IsOnSpace}
use Rattle.sg_mutate.proofs.Calls.{IsSpaceBy, may_call}

-- steps with their marks
record Ticked (p : Program) (lay : Constants) (a : Actor) (steps : List Step) (b : Actor) : Type 0 where
  ticks : List Tick
  steps_are : steps_of ticks ≡ steps
  follows : Follows p lay a ticks b

ticked : (p : Program) (lay : Constants) (steps : List Step) (a b : Actor) → FollowsBy (Acts p lay) a steps b → Ticked p lay a steps b
ticked p lay [] a b f = record { ticks = []; steps_are = refl; follows = f }
ticked p lay (t ∷ steps) a b f =
    let more = ticked p lay steps f.0 b f.2 in
    record {
      ticks = record { step = t; decides = f.1.0 } ∷ more.ticks;
      steps_are = ap (λ ss. t ∷ ss) more.steps_are;
      follows = (f.0, f.1.1, more.follows);
    }

pub went_by : (p : Program) (lay : Constants) (steps : List Step) (a b : Actor) (w v : Words) → FollowsBy (Acts p lay) a steps b → IsLegal w steps →
    v ≡ replayed w steps →
    Went p lay a w b v
went_by p lay steps a b w v f legal is =
    let t = ticked p lay steps a b f in
    record {
      ticks = t.ticks;
      legal = subst (IsLegal w) (sym t.steps_are) legal;
      after = is ∙ ap (replayed w) (sym t.steps_are);
      follows = t.follows;
    }

-- the sections stay
pub space_stays : (p : Program) (lay : Constants) (s t : Contents) → KeepsSections s t → IsSpaceBy p lay s → IsSpaceBy p lay t
space_stays p lay s t keeps is = record {
  layout = keeps.layout ∙ is.layout;
  limits = subst (λ l. IsLayout l) (sym keeps.layout) is.limits;
  words = keeps.words ∙ is.words ∙ ap words_end (sym keeps.layout);
  next = keeps.next ∙ is.next ∙ ap length (sym keeps.ends);
  blocks = keeps.blocks ∙ is.blocks;
  used = keeps.used ∙ is.used;
  cards = keeps.cards ∙ is.cards ∙ ap cards_in (sym keeps.layout);
  fragments = ap length keeps.ends ∙ is.fragments;
  marks = ap marks_of keeps.marks ∙ is.marks;
}

module _ (so_far : GoesSoFar) (always : GoesAlways) (p : Program) (lay : Constants) (g : Graph) (b : Book) where
  module _ (w : Words) (actors : ℕ → Actor) (so : IsSoFar p lay g b w actors) (k : ℕ) (a : Actor) (v : Words) (went : Went p lay (actors k) w a v) where
    later : IsSoFar p lay g b v (put actors k a)
    later = so_far p lay g b w actors k a v so went

    going : AreGoing p lay v (put actors k a)
    going = always p lay g b v (put actors k a) later

    -- who has gone on so far is sane, and whatever a call for a next step sees, a step comes next
    sane_then : IsSane p lay a
    sane_then = subst (IsSane p lay) (put-same actors k a) (going.sane k)

    next_then : (step : Step) (c : Actor) (other : Step) → Acts p lay a step c → call_of other ≡ call_of step → Saw v other → (d : Actor) × Acts p lay a other d
    next_then step c other acts e saw =
        subst (λ (x : Actor). (d : Actor) × Acts p lay x other d) (put-same actors k a)
        (going.goes_on k step c other (subst (λ (x : Actor). Acts p lay x step c) (sym (put-same actors k a)) acts) e saw)

  follows_one : (steps : List Step) (a c d : Actor) (t : Step) → FollowsBy (Acts p lay) a steps c → Acts p lay c t d →
      FollowsBy (Acts p lay) a (steps ++ t ∷ []) d
  follows_one [] a c d t f acts = (d, subst (λ (x : Actor). Acts p lay x t d) f acts, refl)
  follows_one (s ∷ steps) a c d t f acts = (f.0, f.1, follows_one steps f.0 c d t f.2 acts)

  legal_one : (steps : List Step) (w : Words) (t : Step) → IsLegal w steps → Saw (replayed w steps) t → IsLegal w (steps ++ t ∷ [])
  legal_one [] w t l saw = (saw, tt)
  legal_one (s ∷ steps) w t l saw = (l.0, legal_one steps (after_step w s) t l.1 saw)

  pub on_space : (s : Contents) (actors : ℕ → Actor) → IsSoFar p lay g b (words_of s) actors → IsSpaceBy p lay s → limit_of s.ends ≡ lay.limit → (k : ℕ) →
      IsOnSpace p lay s (actors k)
  on_space s actors so is limits k = record {
    guided = record {
      is_sane = (always p lay g b (words_of s) actors so).sane k;
      allows = λ steps t c step d led follows sane acts. may_call p lay t (space_stays p lay s t led.keeps is) c step acts.0 d acts.1 sane;
      goes = λ steps t c step d other led follows sane acts e saw.
          let w : Words = words_of s in
          let went = went_by p lay steps (actors k) c w (words_of t) follows led.legal led.words in (
            next_then w actors so k c (words_of t) went step d other acts e saw,
            λ x next. sane_then w actors so k x (replayed w (steps ++ other ∷ []))
                (went_by p lay (steps ++ other ∷ []) (actors k) x w (replayed w (steps ++ other ∷ [])) (follows_one steps (actors k) c x other follows next)
                (legal_one steps w other led.legal (subst (λ (u : Words). Saw u other) led.words saw)) refl),
          );
    };
    fragments_are = is.fragments;
    limits_are = limits;
    blocks_are = is.blocks;
    heap_is = ap old_base is.layout;
    marks_are = is.marks;
  }
