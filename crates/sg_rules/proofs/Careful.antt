-- The rules of blocks are careful.
use Rattle.std.proofs.Common.{◌≡◌, ◌≢◌, ℕ, ◌+◌, ◌<◌, ◌≤◌, ◌⊎◌, nat_lt, Bool, true, false, List, [], ◌∷◌, ◌++◌, subst, sym, refl, ap, ap₂, ◌∙◌, inl, inr, arith, zero-le}
use Rattle.std.proofs.lemmas.Bool.{cases_eq, cases_lt, cases_Bool, cond-true, cond-false}
use Rattle.std.specs.Int.{bit_at}
use Rattle.sg_words.specs.Blocks.{slots}
use Rattle.sg_words.specs.Programs.{FollowsBy}
use Rattle.sg_words.specs.Sweeps.{swept_word}
use Rattle.sg_words.specs.Words.{put, Words, after_step, replayed}
use Rattle.sg_words.specs.declared.steps.Step.{Step}
use Rattle.sg_words.specs.declared.steps.Step.TheVariants.{OnBlock}
use Rattle.sg_words.specs.declared.steps.BlockStep.TheVariants.{LoadBlock, WonBlock, StoreBlock, OrUsed, StoreUsed, Zero}
use Rattle.sg_words.specs.declared.steps.BlockWord.TheVariants.{Swept, Need, Sweeping}
use Rattle.sg_words.proofs.Puts.{put-at, put-same, put-other}
use Rattle.sg_program.specs.declared.program.Statement.{Statement}
use Rattle.sg_program.specs.declared.program.Program.{Program}
use Rattle.sg_program.specs.Scripts.{made_slot}
use Rattle.sg_rules.specs.Rules.{Constants, Task, Search, Roam, Mid, Look, Ask, SeeBlock, SeeUsed, TakeSlot, StoreOccupancy, ClearSlots, ClearWords, Actor}
use Rattle.sg_rules.specs.Rules.{slot_front, slot_word, AreMarked, looking, ends_at, onward, Comes, BlockComes, NextStep}
use Rattle.sg_rules.specs.Rules.Comes.{new_looks, look_goes_on, claim_goes_on}
use Rattle.sg_rules.specs.Rules.BlockComes.{mature_begins, sees_size, sees_full, sees_slot, takes_slot, misses_slot, sees_other, sees_sweeping, takes_over}
use Rattle.sg_rules.specs.Rules.BlockComes.{stores_occupancy, clears_first, clears_next, clears_last, ends_sweep, roams_on, roams_free, roams_swept}
use Rattle.sg_rules.specs.Acting.{RestsAt, ActsOn, IsTurn}
use Rattle.sg_rules.specs.Careful.{IsUnmarkedWord, IsWholeSweep, IsOfSweep, IsSweepPoint, StepsAreCareful}

-- what comes next in a sweep, by where its actor stands
abbrev Next : Program → Constants → Mid → Step → Mid → Type 0
Next p lay (StoreOccupancy t c z) step to = (step ≡ OnBlock (StoreUsed c (lay.marks c))) × (to ≡ ClearSlots t c z 0)
Next p lay (ClearSlots t c z i) step to =
    ((j : ℕ) × (i ≤ j) × (j < slots z) × AreMarked lay c i j × (bit_at (lay.marks c) j ≡ 0) × (1 < z) ×
    (step ≡ OnBlock (Zero (slot_word p c z j 0))) × (to ≡ ClearWords t c z j 1)) ⊎
    (AreMarked lay c i (slots z) × (step ≡ OnBlock (StoreBlock c (swept_word (Need z) (lay.marks c)))) × (to ≡ SeeBlock t true c))
Next p lay (ClearWords t c z i f) step to = (step ≡ OnBlock (Zero (slot_word p c z i f))) ×
    (((f + 1 < z) × (to ≡ ClearWords t c z i (f + 1))) ⊎ ((f + 1 ≡ z) × (to ≡ ClearSlots t c z (i + 1))))
Next p lay mid step to = Unit {0}

-- what leads to a point of a sweep or of a claim
abbrev Into : Program → Mid → Step → Mid → Type 0
Into p from step (StoreOccupancy t c z) = step ≡ OnBlock (WonBlock c (Need z) (Sweeping z))
Into p from step (TakeSlot s c i) = from ≡ SeeUsed s c
Into p from step (SeeUsed s c) = step ≡ OnBlock (LoadBlock c (Swept (made_slot p s)))
Into p from step mid = Unit {0}

-- where a slot's bit is set
abbrev SetAt : Step → Mid → Type 0
SetAt (OnBlock (OrUsed c i found)) mid = (s : Statement) × (mid ≡ TakeSlot s c i)
SetAt step mid = Unit {0}

module _ (p : Program) (lay : Constants) where
  looks_into : (s : Statement) (f : ℕ) (from : Mid) (step : Step) → Into p from step (looking lay s f)
  looks_into s f from step = elim (cases_Bool (nat_lt f lay.fragments)) [
    | inl e ↦ subst (Into p from step) (sym (cond-true (nat_lt f lay.fragments) (Look s f) (Ask s) e)) tt
    | inr e ↦ subst (Into p from step) (sym (cond-false (nat_lt f lay.fragments) (Look s f) (Ask s) e)) tt
  ]

  onward_into : (t : Task) (c : ℕ) (from : Mid) (step : Step) → Into p from step (onward p t c)
  onward_into t c from step = elim (cases_Bool (nat_lt c p.config.blocks)) [
    | inl e ↦ subst (Into p from step) (sym (cond-true (nat_lt c p.config.blocks) (SeeBlock t false c) (ends_at t) e)) tt
    | inr e ↦ subst (Into p from step) (sym (cond-false (nat_lt c p.config.blocks) (SeeBlock t false c) (ends_at t) e)) (ends t)
  ]
    where
      ends : (t : Task) → Into p from step (ends_at t)
      ends (Search s) = tt
      ends Roam = tt

  -- what each rule says of it
  record Says (from : Mid) (step : Step) (to : Mid) : Type 0 where
    next : Next p lay from step to
    into : Into p from step to
    stores : IsOfSweep step → IsSweepPoint from
    sets : SetAt step from

  plain : (a : Actor) (step : Step) (d : Bool) (b : Actor) → Comes p lay a step d b → Says a.mid step b.mid
  plain _ _ _ _ (new_looks a s rest making l) = record { next = tt; into = looks_into s 0 _ _; stores = λ h. absurd h; sets = tt }
  plain _ _ _ _ (look_goes_on a s rest f next l) = record { next = tt; into = looks_into s (f + 1) _ _; stores = λ h. absurd h; sets = tt }
  plain _ _ _ _ (claim_goes_on a s rest f seen next later l) = record { next = tt; into = looks_into s (f + 1) _ _; stores = λ h. absurd h; sets = tt }
  plain _ _ _ _ c = record { next = tt; into = tt; stores = λ h. absurd h; sets = tt }

  on_block : (a : Actor) (step : Step) (d : Bool) (b : Actor) → BlockComes p lay a step d b → Says a.mid step b.mid
  on_block _ _ _ _ (mature_begins a s rest mature) = record { next = tt; into = onward_into (Search s) 0 _ _; stores = λ h. absurd h; sets = tt }
  on_block _ _ _ _ (sees_size a s rest begins c) = record { next = tt; into = refl; stores = λ h. absurd h; sets = tt }
  on_block _ _ _ _ (sees_full a s rest c saw full) = record { next = tt; into = onward_into (Search s) (c + 1) _ _; stores = λ h. absurd h; sets = tt }
  on_block _ _ _ _ (sees_slot a s rest c i saw l o below) = record { next = tt; into = refl; stores = λ h. absurd h; sets = tt }
  on_block _ _ _ _ (takes_slot a s rest c i found o) = record { next = tt; into = tt; stores = λ h. absurd h; sets = (s, refl) }
  on_block _ _ _ _ (misses_slot a s rest c i found o) = record { next = tt; into = tt; stores = λ h. absurd h; sets = (s, refl) }
  on_block _ _ _ _ (sees_other a s rest begins c z o) = record { next = tt; into = onward_into (Search s) (c + 1) _ _; stores = λ h. absurd h; sets = tt }
  on_block _ _ _ _ (sees_sweeping a t rest begins c z may) = record { next = tt; into = onward_into t (c + 1) _ _; stores = λ h. absurd h; sets = tt }
  on_block _ _ _ _ (takes_over a t rest c z) = record { next = tt; into = refl; stores = λ h. absurd h; sets = tt }
  on_block _ _ _ _ (stores_occupancy a t rest c z) = record { next = (refl, refl); into = tt; stores = λ _. tt; sets = tt }
  on_block _ _ _ _ (clears_first a t rest c z i j le f marked o one) =
      record { next = inl (j, le, f, marked, o, one, refl, refl); into = tt; stores = λ _. tt; sets = tt }
  on_block _ _ _ _ (clears_next a t rest c z i f l) = record { next = (refl, inl (l, refl)); into = tt; stores = λ _. tt; sets = tt }
  on_block _ _ _ _ (clears_last a t rest c z i f l) = record { next = (refl, inr (l, refl)); into = tt; stores = λ _. tt; sets = tt }
  on_block _ _ _ _ (ends_sweep a t rest c z i marked) = record { next = inr (marked, refl, refl); into = tt; stores = λ _. tt; sets = tt }
  on_block _ _ _ _ (roams_on a rest c) = record { next = tt; into = onward_into Roam c _ _; stores = λ h. absurd h; sets = tt }
  on_block _ _ _ _ (roams_free a rest c) = record { next = tt; into = onward_into Roam (c + 1) _ _; stores = λ h. absurd h; sets = tt }
  on_block _ _ _ _ (roams_swept a rest c z) = record { next = tt; into = onward_into Roam (c + 1) _ _; stores = λ h. absurd h; sets = tt }
  on_block _ _ _ _ c = record { next = tt; into = tt; stores = λ h. absurd h; sets = tt }

  says : (a : Actor) (step : Step) (d : Bool) (b : Actor) → NextStep p lay a step d b → Says a.mid step b.mid
  says a step d b comes = elim comes [ inl comes ↦ plain a step d b comes | inr comes ↦ on_block a step d b comes ]

  -- x is a word of an unmarked slot from number i on
  abbrev From : ℕ → ℕ → ℕ → ℕ → Type 0
  From c z i x = (u : IsUnmarkedWord p lay c z x) × (i ≤ u.slot)

  -- What these steps, with which a sweep ends, do to any words: they zero such words, and the last one ends the sweep.
  record Remains (t : Task) (c z : ℕ) (todo : ℕ → Type 0) (steps : List Step) (to : Mid) : Type 0 where
    before : List Step
    last : steps ≡ before ++ OnBlock (StoreBlock c (swept_word (Need z) (lay.marks c))) ∷ []
    used : (w : Words) → (replayed w before).used ≡ w.used
    block : (w : Words) → (replayed w before).block ≡ w.block
    zero : (w : Words) (x : ℕ) → todo x → (replayed w before).word x ≡ 0
    stays : (w : Words) (x : ℕ) → w.word x ≡ 0 → (replayed w before).word x ≡ 0
    kept : (w : Words) (x : ℕ) → (IsUnmarkedWord p lay c z x → ⊥) → (replayed w before).word x ≡ w.word x
    ends : to ≡ SeeBlock t true c

  -- the words of a slot from number f on, and those of the slots behind it
  abbrev FromWord : ℕ → ℕ → ℕ → ℕ → ℕ → Type 0
  FromWord c z i f x = From c z (i + 1) x ⊎ ((slot_word p c z i f ≤ x) × (x < slot_front p c z i + z))

  -- what the steps up to the end of a turn do, by where they begin
  abbrev Goal : Mid → List Step → Mid → Type 0
  Goal (ClearSlots t c z i) steps to = Remains t c z (From c z i) steps to
  Goal (ClearWords t c z i f) steps to = i < slots z → bit_at (lay.marks c) i ≡ 0 → f < z → Remains t c z (FromWord c z i f) steps to
  Goal (SeeBlock t true c) steps to = (steps ≡ []) × (to ≡ SeeBlock t true c)
  Goal mid steps to = Unit {0}

  -- a word of a slot that isn't marked is zeroed first
  zeroed_first : (t : Task) (c z i x : ℕ) (todo done : ℕ → Type 0) (step : Step) (steps : List Step) (to : Mid) → i < slots z → bit_at (lay.marks c) i ≡ 0 →
      slot_front p c z i ≤ x → x < slot_front p c z i + z → step ≡ OnBlock (Zero x) → ((y : ℕ) → y ≢ x → done y → todo y) →
      Remains t c z todo steps to → Remains t c z done (step ∷ steps) to
  zeroed_first t c z i x todo done step steps to fits unmarked lo hi e more r = record {
    before = OnBlock (Zero x) ∷ r.before;
    last = ap₂ (λ s rest. s ∷ rest) e r.last;
    used = λ w. r.used (zeroed w);
    block = λ w. r.block (zeroed w);
    zero = λ w y d. elim (cases_eq y x) [
      | inl same ↦ r.stays (zeroed w) y (put-at w.word x 0 y same)
      | inr other ↦ r.zero (zeroed w) y (more y other d)
    ];
    stays = λ w y q. r.stays (zeroed w) y (elim (cases_eq y x) [ inl same ↦ put-at w.word x 0 y same | inr other ↦ put-other w.word x 0 y other ∙ q ]);
    kept = λ w y n. r.kept (zeroed w) y n ∙ put-other w.word x 0 y
        (λ same. n (record { slot = i; fits = fits; unmarked = unmarked; from = omega arith; to = omega arith }));
    ends = r.ends;
  }
    where
      zeroed : Words → Words
      zeroed w = after_step w (OnBlock (Zero x))

  -- nothing is left
  ended : (t : Task) (c z i : ℕ) (step : Step) (steps : List Step) (to : Mid) → AreMarked lay c i (slots z) →
      step ≡ OnBlock (StoreBlock c (swept_word (Need z) (lay.marks c))) → (steps ≡ []) × (to ≡ SeeBlock t true c) →
      Remains t c z (From c z i) (step ∷ steps) to
  ended t c z i step steps to marked e q = record {
    before = [];
    last = ap₂ (λ s rest. s ∷ rest) e q.0;
    used = λ w. refl;
    block = λ w. refl;
    zero = λ w x d. absurd (let m = marked d.0.slot d.1 d.0.fits in let u = d.0.unmarked in omega arith);
    stays = λ w x z. z;
    kept = λ w x n. refl;
    ends = q.1;
  }

  at_rest : (mid : Mid) → RestsAt mid → Goal mid [] mid
  at_rest (ClearSlots t c z i) r = absurd r
  at_rest (ClearWords t c z i f) r = absurd r
  at_rest (SeeBlock t true c) r = (refl, refl)
  at_rest mid r = tt

  join : (mid to end : Mid) (step : Step) (steps : List Step) → ¬ RestsAt mid → Next p lay mid step to → Goal to steps end → Goal mid (step ∷ steps) end
  join (ClearSlots t c z i) to end step steps not next later = elim next [
    | inl (j, le, f, marked, o, one, e, there) ↦
        zeroed_first t c z j (slot_word p c z j 0) (FromWord c z j 1) (From c z i) step steps end f o (omega arith) (omega arith) e
        (λ y other d. elim (cases_eq d.0.slot j) [
          | inl same ↦
              let front : slot_front p c z d.0.slot ≡ slot_front p c z j = ap (λ s. slot_front p c z s) same in
              let lo = d.0.from in
              let hi = d.0.to in
              inr (omega arith, omega arith)
          | inr apart ↦ elim (cases_lt d.0.slot j) [
            | inl l ↦ absurd (let m = marked d.0.slot d.1 l in let u = d.0.unmarked in omega arith)
            | inr l ↦ inl (d.0, omega arith)
          ]
        ])
        (subst (λ to. Goal to steps end) there later f o one)
    | inr (marked, e, there) ↦ ended t c z i step steps end marked e (subst (λ to. Goal to steps end) there later)
  ]
  join (ClearWords t c z i f) to end step steps not next later = λ fits unmarked l. elim next.1 [
    | inl (more, there) ↦
        zeroed_first t c z i (slot_word p c z i f) (FromWord c z i (f + 1)) (FromWord c z i f) step steps end fits unmarked (omega arith) (omega arith) next.0
        (λ y other d. elim d [ inl d ↦ inl d | inr d ↦ let lo = d.0 in inr (omega arith, d.1) ])
        (subst (λ to. Goal to steps end) there later fits unmarked more)
    | inr (last, there) ↦
        zeroed_first t c z i (slot_word p c z i f) (From c z (i + 1)) (FromWord c z i f) step steps end fits unmarked (omega arith) (omega arith) next.0
        (λ y other d. elim d [ inl d ↦ d | inr d ↦ absurd (let lo = d.0 in let hi = d.1 in omega arith) ])
        (subst (λ to. Goal to steps end) there later)
  ]
  join (SeeBlock t true c) to end step steps not next later = absurd (not tt)
  join mid to end step steps not next later = tt

  goes : (steps : List Step) (a b : Actor) → FollowsBy (ActsOn p lay) a steps b → RestsAt b.mid → Goal a.mid steps b.mid
  goes [] a b f rests = subst (λ (a : Actor). Goal a.mid [] b.mid) f (at_rest b.mid rests)
  goes (step ∷ steps) a b (m, acts, f) rests =
      join a.mid m.mid b.mid step steps acts.0 (says a step acts.1.0 m acts.1.1).next (goes steps m b f rests)

  sweeps : (a b : Actor) (steps : List Step) (t : Task) (c z : ℕ) → a.mid ≡ StoreOccupancy t c z → IsTurn p lay a steps b →
      IsWholeSweep p lay c z steps × (b.mid ≡ SeeBlock t true c)
  sweeps a b steps t c z at turn =
      let first = subst (λ mid. Next p lay mid turn.first turn.then.mid) at (says a turn.first turn.begins.0 turn.then turn.begins.1).next in
      let r = subst (λ mid. Goal mid turn.more b.mid) first.1 (goes turn.more turn.then b turn.goes turn.rests) in
      let marked : Words → Words = λ w. record w { used = put w.used c (lay.marks c) } in (
        record {
          before = OnBlock (StoreUsed c (lay.marks c)) ∷ r.before;
          last = turn.steps_are ∙ ap₂ (λ s rest. s ∷ rest) first.0 r.last;
          occupied = λ w. ap (λ (f : ℕ → ℕ). f c) (r.used (marked w)) ∙ put-same w.used c (lay.marks c);
          zero = λ w x u. r.zero (marked w) x (u, zero-le);
          kept = λ w x n. r.kept (marked w) x n;
          block = λ w. r.block (marked w);
          others = λ w d n. ap (λ (f : ℕ → ℕ). f d) (r.used (marked w)) ∙ put-other w.used c (lay.marks c) d n;
        },
        r.ends,
      )

pub careful : StepsAreCareful
careful = record {
  sweeps = λ p lay a b steps t c z at turn. sweeps p lay a b steps t c z at turn;
  taken_over = λ p lay a b step d t c z comes at. subst (Into p a.mid step) at (says p lay a step d b comes).into;
  in_sweeps = λ p lay a b step d comes h. (says p lay a step d b comes).stores h;
  claimed = λ p lay a b d c i found comes. (says p lay a (OnBlock (OrUsed c i found)) d b comes).sets;
  looked = λ p lay a b step d s c i comes at. subst (Into p a.mid step) at (says p lay a step d b comes).into;
  swept = λ p lay a b step d s c comes at. subst (Into p a.mid step) at (says p lay a step d b comes).into;
}
