-- How the stop word and leaving go together: it is set only where some mutator has left with a statement.
use Rattle.std.proofs.Common.{◌≡◌, ◌≢◌, ℕ, ◌+◌, ◌⊎◌, nat_lt, Bool, true, false, List, [], ◌∷◌, inl, inr, sym, refl, ap, ◌∙◌, subst}
use Rattle.std.proofs.lemmas.Bool.{cases_eq, cases_Bool, cond-true, cond-false}
use Rattle.sg_words.specs.declared.steps.Step.{Step}
use Rattle.sg_words.specs.Words.{put, Words, Saw, after_step, after, Legal}
use Rattle.sg_words.specs.Events.{Event, ticks, part}
use Rattle.sg_words.proofs.Puts.{put-same, put-other, put-all, put-at}
use Rattle.sg_program.specs.declared.program.Statement.{Statement}
use Rattle.sg_program.specs.declared.program.Program.{Program}
use Rattle.sg_rules.specs.Rules.{Constants, Task, Search, Roam, Mid, Idle, Look, Ask, Left, Yielded, SeeBlock, Actor, looking, ends_at, onward}
use Rattle.sg_rules.specs.Rules.{Comes, BlockComes, NextStep, Follows}
use Rattle.sg_rules.specs.Rules.BlockComes.{mature_begins, sees_full, sees_other, sees_sweeping, roams_on, roams_free, roams_swept}
use Rattle.sg_rules.specs.Rules.Comes.{test_null, test_begins, loads_tag, loads_length, test_fails, put_stores, put_stores_old, marks_card, putd_stores, get_loads, getd_loads, global_begins, gput_stores, gget_loads, num_sets, drop_clears, move_sets, push_sets, pop_sets, hide_null, hide_begins, hide_fits, hide_misses, unhide_sets, same_tells, new_bumps, new_looks, look_finds, look_goes_on, stop_asks, asks, yields, claim_wins, claim_moves, claim_goes_on, stores_length, stores_tag}
use Rattle.sg_order.specs.Rest.{IsWanted, IsFirst}
use Rattle.sg_order.proofs.Events.{part-same, part-other}

abbrev is_left : Mid → Bool
is_left (Left s) = true
is_left mid = false

abbrev is_yielded : Mid → Bool
is_yielded Yielded = true
is_yielded mid = false

not_left : (mid : Mid) (s : Statement) → is_left mid ≡ false → mid ≡ Left s → ⊥
not_left mid s f e = let z : false ≡ true = sym f ∙ ap is_left e in cc

not_yielded : (mid : Mid) → is_yielded mid ≡ false → mid ≡ Yielded → ⊥
not_yielded mid f e = let z : false ≡ true = sym f ∙ ap is_yielded e in cc

looks_quietly : (lay : Constants) (s : Statement) (f : ℕ) → is_yielded (looking lay s f) ≡ false
looks_quietly lay s f = elim (cases_Bool (nat_lt f lay.fragments)) [
  | inl e ↦ ap is_yielded (cond-true (nat_lt f lay.fragments) (Look s f) (Ask s) e)
  | inr e ↦ ap is_yielded (cond-false (nat_lt f lay.fragments) (Look s f) (Ask s) e)
]

goes_quietly : (p : Program) (t : Task) (c : ℕ) → is_yielded (onward p t c) ≡ false
goes_quietly p t c = elim (cases_Bool (nat_lt c p.config.blocks)) [
  | inl e ↦ ap is_yielded (cond-true (nat_lt c p.config.blocks) (SeeBlock t false c) (ends_at t) e)
  | inr e ↦ ap is_yielded (cond-false (nat_lt c p.config.blocks) (SeeBlock t false c) (ends_at t) e) ∙ ends t
]
  where
    ends : (t : Task) → is_yielded (ends_at t) ≡ false
    ends (Search s) = refl
    ends Roam = refl

-- what a step does to the stop word: it stays, or its actor leaves with a statement; who has left makes no step; and who yields found
-- the word set
record Stops (w : Words) (a : Actor) (e : Step) (b : Actor) : Type 0 where
  stop : ((after_step w e).stop ≡ w.stop) ⊎ ((s : Statement) × (b.mid ≡ Left s))
  stays : (s : Statement) → a.mid ≡ Left s → ⊥
  late : b.mid ≡ Yielded → w.stop ≢ 0

quiet : (w : Words) (a : Actor) (e : Step) (b : Actor) → (after_step w e).stop ≡ w.stop → is_left a.mid ≡ false → is_yielded b.mid ≡ false → Stops w a e b
quiet w a e b same going calm = record { stop = inl same; stays = λ s. not_left a.mid s going; late = λ y. absurd (not_yielded b.mid calm y) }

module _ (p : Program) (lay : Constants) (w : Words) where
  stopping : (a : Actor) (e : Step) (d : Bool) (b : Actor) → Comes p lay a e d b → Saw w e → Stops w a e b
  stopping _ _ _ _ (test_null a s rest test e z) saw = quiet w _ _ _ refl refl refl
  stopping _ _ _ _ (test_begins a s rest test e z) saw = quiet w _ _ _ refl refl refl
  stopping _ _ _ _ (loads_tag a s rest test class there) saw = quiet w _ _ _ refl refl refl
  stopping _ _ _ _ (loads_length a s rest test class len short f) saw = quiet w _ _ _ refl refl refl
  stopping _ _ _ _ (test_fails a s rest test class len short f) saw = quiet w _ _ _ refl refl refl
  stopping _ _ _ _ (put_stores a rest r i s cardless) saw = quiet w _ _ _ refl refl refl
  stopping _ _ _ _ (put_stores_old a rest r i s has) saw = quiet w _ _ _ refl refl refl
  stopping _ _ _ _ (marks_card a rest s card) saw = quiet w _ _ _ refl refl refl
  stopping _ _ _ _ (putd_stores a rest r i s) saw = quiet w _ _ _ refl refl refl
  stopping _ _ _ _ (get_loads a rest d r i v ref) saw = quiet w _ _ _ refl refl refl
  stopping _ _ _ _ (getd_loads a rest d r i v) saw = quiet w _ _ _ refl refl refl
  stopping _ _ _ _ (global_begins a s rest is) saw = quiet w _ _ _ refl refl refl
  stopping _ _ _ _ (gput_stores a rest x r) saw = quiet w _ _ _ refl refl refl
  stopping _ _ _ _ (gget_loads a rest r x v ref) saw = quiet w _ _ _ refl refl refl
  stopping _ _ _ _ (num_sets a rest d n) saw = quiet w _ _ _ refl refl refl
  stopping _ _ _ _ (drop_clears a rest r) saw = quiet w _ _ _ refl refl refl
  stopping _ _ _ _ (move_sets a rest d s) saw = quiet w _ _ _ refl refl refl
  stopping _ _ _ _ (push_sets a rest r) saw = quiet w _ _ _ refl refl refl
  stopping _ _ _ _ (pop_sets a rest r top stack e) saw = quiet w _ _ _ refl refl refl
  stopping _ _ _ _ (hide_null a rest d s offset z) saw = quiet w _ _ _ refl refl refl
  stopping _ _ _ _ (hide_begins a rest d s offset z) saw = quiet w _ _ _ refl refl refl
  stopping _ _ _ _ (hide_fits a rest d s offset len short f) saw = quiet w _ _ _ refl refl refl
  stopping _ _ _ _ (hide_misses a rest d s offset len short f) saw = quiet w _ _ _ refl refl refl
  stopping _ _ _ _ (unhide_sets a rest d s) saw = quiet w _ _ _ refl refl refl
  stopping _ _ _ _ (same_tells a rest r s) saw = quiet w _ _ _ refl refl refl
  stopping _ _ _ _ (new_bumps a s rest making l) saw = quiet w _ _ _ refl refl refl
  stopping _ _ _ _ (new_looks a s rest making l) saw = quiet w _ _ _ refl refl (looks_quietly lay s 0)
  stopping _ _ _ _ (look_finds a s rest f next l) saw = quiet w _ _ _ refl refl refl
  stopping _ _ _ _ (look_goes_on a s rest f next l) saw = quiet w _ _ _ refl refl (looks_quietly lay s (f + 1))
  stopping _ _ _ _ (stop_asks a s rest request i) saw = quiet w _ _ _ refl refl refl
  stopping _ _ _ _ (asks a rest s) saw = record { stop = inr (s, refl); stays = λ r e. not_left _ r refl e; late = λ e. absurd (not_yielded _ refl e) }
  stopping _ _ _ _ (yields a s rest word set) saw = record { stop = inl refl; stays = λ r e. not_left _ r refl e; late = λ e z. set (sym saw ∙ z) }
  stopping _ _ _ _ (claim_wins a s rest f next) saw = quiet w _ _ _ refl refl refl
  stopping _ _ _ _ (claim_moves a s rest f seen next later l) saw = quiet w _ _ _ refl refl refl
  stopping _ _ _ _ (claim_goes_on a s rest f seen next later l) saw = quiet w _ _ _ refl refl (looks_quietly lay s (f + 1))
  stopping _ _ _ _ (stores_length a s rest x) saw = quiet w _ _ _ refl refl refl
  stopping _ _ _ _ (stores_tag a s rest x) saw = quiet w _ _ _ refl refl refl

  stopping_blocks : (a : Actor) (e : Step) (d : Bool) (b : Actor) → BlockComes p lay a e d b → Saw w e → Stops w a e b
  stopping_blocks _ _ _ _ (mature_begins a s rest mature) saw = quiet w _ _ _ refl refl (goes_quietly p (Search s) 0)
  stopping_blocks _ _ _ _ (sees_full a s rest c u full) saw = quiet w _ _ _ refl refl (goes_quietly p (Search s) (c + 1))
  stopping_blocks _ _ _ _ (sees_other a s rest begins c z o) saw = quiet w _ _ _ refl refl (goes_quietly p (Search s) (c + 1))
  stopping_blocks _ _ _ _ (sees_sweeping a t rest begins c z may) saw = quiet w _ _ _ refl refl (goes_quietly p t (c + 1))
  stopping_blocks _ _ _ _ (roams_on a rest c) saw = quiet w _ _ _ refl refl (goes_quietly p Roam c)
  stopping_blocks _ _ _ _ (roams_free a rest c) saw = quiet w _ _ _ refl refl (goes_quietly p Roam (c + 1))
  stopping_blocks _ _ _ _ (roams_swept a rest c z) saw = quiet w _ _ _ refl refl (goes_quietly p Roam (c + 1))
  stopping_blocks _ _ _ _ c saw = quiet w _ _ _ refl refl refl

  stops : (a : Actor) (e : Step) (d : Bool) (b : Actor) → NextStep p lay a e d b → Saw w e → Stops w a e b
  stops a e d b comes saw = elim comes [ inl comes ↦ stopping a e d b comes saw | inr comes ↦ stopping_blocks a e d b comes saw ]

-- where the stop word is set, or some mutator has yielded, a mutator has left with a statement
pub record Wanted (w : Words) (actors : ℕ → Actor) : Type 0 where
  pub stop : w.stop ≢ 0 → IsWanted actors
  pub yielded : (k : ℕ) → (actors k).mid ≡ Yielded → IsWanted actors

pub wanted_at_opening : (w : Words) (actors : ℕ → Actor) → w.stop ≡ 0 → ((k : ℕ) → IsFirst (actors k).mid) → Wanted w actors
wanted_at_opening w actors going idle = record {
  stop = λ set. absurd (set going);
  yielded = λ k y. elim (idle k) [
    | inl e ↦ absurd (not_yielded Idle refl (sym e ∙ y))
    | inr e ↦ absurd (not_yielded (SeeBlock Roam true 0) refl (sym e ∙ y))
  ];
}

module _ (p : Program) (lay : Constants) (w : Words) (actors : ℕ → Actor) (k : ℕ) (e : Step) (d : Bool) (b : Actor)
    (comes : NextStep p lay (actors k) e d b) (saw : Saw w e) (so : Wanted w actors) where
  step : Stops w (actors k) e b
  step = stops p lay w (actors k) e d b comes saw

  -- who waits makes no step, so it waits still
  waits : IsWanted actors → IsWanted (put actors k b)
  waits (j, s, gone) = (
    j,
    s,
    subst (λ (a : Actor). a.mid ≡ Left s) (sym (put-other actors k b j (λ z. step.stays s (ap (λ i. (actors i).mid) (sym z) ∙ gone)))) gone,
  )

  here : (s : Statement) → b.mid ≡ Left s → IsWanted (put actors k b)
  here s gone = (k, s, subst (λ (a : Actor). a.mid ≡ Left s) (sym (put-same actors k b)) gone)

  wanted_step : Wanted (after_step w e) (put actors k b)
  wanted_step = record {
    stop = λ set. elim step.stop [
      | inl same ↦ waits (so.stop (λ z. set (same ∙ z)))
      | inr gone ↦ here gone.0 gone.1
    ];
    yielded = λ j y. elim (cases_eq j k) [
      | inl z ↦ waits (so.stop (step.late (subst (λ (a : Actor). a.mid ≡ Yielded) (put-at actors k b j z) y)))
      | inr n ↦ waits (so.yielded j (subst (λ (a : Actor). a.mid ≡ Yielded) (put-other actors k b j n) y))
    ];
  }

pub wanted_so : (p : Program) (lay : Constants) (es : List Event) (w : Words) (actors last : ℕ → Actor) → Legal w (ticks es) →
    ((k : ℕ) → Follows p lay (actors k) (part k es) (last k)) →
    Wanted w actors → Wanted (after w (ticks es)) last
wanted_so p lay [] w actors last legal follows so = record {
  stop = λ set. over (so.stop set);
  yielded = λ k y. over (so.yielded k (ap (λ (a : Actor). a.mid) (sym (follows k)) ∙ y));
}
  where
    over : IsWanted actors → IsWanted last
    over (k, s, gone) = (k, s, ap (λ (a : Actor). a.mid) (follows k) ∙ gone)
wanted_so p lay (e ∷ es) w actors last legal follows so =
    let k = e.by in
    let mine = subst (λ q. Follows p lay (actors k) q (last k)) (part-same e es) (follows k) in
    wanted_so p lay es (after_step w e.tick.step) (put actors k mine.0) last legal.1
    (put-all (λ j a. Follows p lay a (part j es) (last j)) actors k mine.0 mine.2
    (λ j n. subst (λ q. Follows p lay (actors j) q (last j)) (part-other j e es n) (follows j)))
    (wanted_step p lay w actors k e.tick.step e.tick.decides mine.0 mine.1 legal.0 so)
