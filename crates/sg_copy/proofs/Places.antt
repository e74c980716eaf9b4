-- The search for a slot, over any port.
use Rattle.std.proofs.Common.{◌≡◌, ℕ, zero, suc, ◌+◌, ◌<◌, ◌≤◌, nat_lt, if◌then◌else◌, Bool, true, false, List, [], ◌∷◌, ◌++◌, refl, sym}
use Rattle.std.proofs.Common.{ap, subst, arith}
use Rattle.std.proofs.lemmas.Bool.{cond-true, cond-false, lt-ltb, le-ltb}
use Rattle.sg_words.specs.declared.steps.BlockWord.TheVariants.{Free, Swept}
use Rattle.sg_words.specs.declared.steps.BlockStep.TheVariants.{LoadBlock, LoadUsed}
use Rattle.sg_words.specs.declared.steps.Step.{Step}
use Rattle.sg_words.specs.declared.steps.Step.TheVariants.{OnBlock}
use Rattle.sg_words.specs.declared.steps.Call.TheVariants.{OnBlocks}
use Rattle.sg_words.specs.declared.steps.BlockCall.TheVariants.{LoadsBlock, LoadsUsed}
use Rattle.sg_words.proofs.Blocks.{has_slots}
use Rattle.sg_cells.specs.Made.{Makes}
use Rattle.sg_slots.specs.Looks.{PassesOver, PassesOther, PassesFull, ArePassed, Finds, FindsFree, FindsSlot, AreLooks, PassesAll}
use Rattle.sg_slots.specs.Looks.{PassesTo, MayLook}
use Rattle.sg_slots.specs.declared.search.Found.{Found}
use Rattle.sg_slots.specs.declared.search.Found.TheVariants.{Free as IsFree, Slot as HasSlot, None as NoSlot}
use Rattle.sg_round.specs.Area.{Area}
use Rattle.sg_round.specs.Worker.{Object, Stage, Room, Take, Slots, Mark, Pin, On as OnSlot, size_for, looking}
use Rattle.sg_round.specs.Rules.{Nothing}
use Rattle.sg_round.specs.Rules.Comes.{finds_free, finds_swept, finds_other, finds_clear, finds_full}
use Rattle.sg_round.specs.Sane.{IsSaneObject, IsSaneStage}
use Rattle.sg_copy.specs.Telling.{Seat, Teller, Tells, at}
use Rattle.sg_copy.proofs.Ports.{Ports, On, Gone, Did, none_yet, on_then, may_now, on_now, one_step, gone_then}

-- where a search goes on: a block is left, or none
pub room_left : (area : Area) (x : Object) (b : ℕ) → b < area.blocks → looking area x b ≡ Room x b
room_left area x b l = cond-true (nat_lt b area.blocks) (Room x b) (Pin x) (lt-ltb b area.blocks l)

pub none_left : (area : Area) (x : Object) (b : ℕ) → area.blocks ≤ b → looking area x b ≡ Pin x
none_left area x b l = cond-false (nat_lt b area.blocks) (Room x b) (Pin x) (le-ltb b area.blocks l)

pub looking_sane : (area : Area) (s : ℕ) (x : Object) (b : ℕ) → IsSaneStage area s (looking area x b) → IsSaneObject area x
looking_sane area s x b = elim (nat_lt b area.blocks) as (λ (is : Bool). IsSaneStage area s (if is then Room x b else Pin x) → IsSaneObject area x) [
  | true ↦ λ h. h.0
  | false ↦ λ h. h
]

-- what a search has found is where the worker stands
abbrev pub found_stage : Object → Found → Stage
found_stage x (IsFree block) = Take x block
found_stage x (HasSlot block slot) = Mark x block slot
found_stage x NoSlot = Pin x

module _ {P : Type 0} (o : Ports P) where
  -- steps one behind another were made one behind another
  pub makes_split : (p : P) (es fs : List Step) (q : P) → Makes o.leads o.sees p (es ++ fs) q →
      (r : P) × Makes o.leads o.sees p es r × Makes o.leads o.sees r fs q
  makes_split p [] fs q h = (p, refl, h)
  makes_split p (e ∷ es) fs q h = let rest = makes_split h.0 es fs q h.3 in (rest.0, (h.0, h.1, h.2, rest.1), rest.2)

  module _ (seat : Seat) (t : Teller) (s : ℕ) (x : Object) where
    abbrev pub look_at : ℕ → Teller
    look_at b = at t (OnSlot s (looking seat.area x b))

    abbrev room : ℕ → Teller
    room b = at t (OnSlot s (Room x b))

    abbrev slots_of : ℕ → Teller
    slots_of b = at t (OnSlot s (Slots x b))

    as_room : (b : ℕ) → b < seat.area.blocks → look_at b ≡ room b
    as_room b l = ap (λ (stage : Stage). at t (OnSlot s stage)) (room_left seat.area x b l)

    swept_next : (b : ℕ) → Tells seat (room b) (OnBlock (LoadBlock b (Swept (size_for x)))) (slots_of b)
    swept_next b = (Nothing, finds_swept t.worker s x b, refl, refl)

    module _ (b : ℕ) (p : P) (on : On o seat p (room b)) where
      block_may : o.may p (OnBlocks (LoadsBlock b))
      block_may = may_now o seat (room b) (slots_of b) p on (OnBlock (LoadBlock b (Swept (size_for x)))) (swept_next b)

      swept_on : (q : P) → Did o seat p (OnBlock (LoadBlock b (Swept (size_for x)))) q → On o seat q (slots_of b)
      swept_on q did = on_now o seat (room b) (slots_of b) p on (OnBlock (LoadBlock b (Swept (size_for x)))) (swept_next b) q did

      swept_gone : (q : P) → Did o seat p (OnBlock (LoadBlock b (Swept (size_for x)))) q → Gone o seat (room b) p (slots_of b) q
      swept_gone q did = one_step o seat (room b) (slots_of b) p on (OnBlock (LoadBlock b (Swept (size_for x)))) (swept_next b) q did (λ h. h)

      -- a block is passed over
      passes : (ts : List Step) (q : P) → PassesOver (size_for x) b ts → Makes o.leads o.sees p ts q → Gone o seat (room b) p (look_at (b + 1)) q
      passes _ q (PassesOther state free swept) h =
          subst (λ (r : P). Gone o seat (room b) p (look_at (b + 1)) r) (sym h.3)
          (one_step o seat (room b) (look_at (b + 1)) p on (OnBlock (LoadBlock b state)) (
            Nothing,
            finds_other t.worker s x b state free swept,
            refl,
            refl,
          ) h.0 (h.2, h.1) (λ k. k))
      passes _ q (PassesFull used full) h =
          let did : Did o seat p (OnBlock (LoadBlock b (Swept (size_for x)))) h.0 = (h.2, h.1) in
          let more = h.3 in
          subst (λ (r : P). Gone o seat (room b) p (look_at (b + 1)) r) (sym more.3)
          (gone_then o seat (room b) (slots_of b) (look_at (b + 1)) p h.0 more.0 (swept_gone h.0 did)
          (one_step o seat (slots_of b) (look_at (b + 1)) h.0 (swept_on h.0 did) (OnBlock (LoadUsed b used))
          (Nothing, finds_full t.worker s x b used full, refl, refl) more.0 (more.2, more.1) (λ k. k)))

      -- or it has a slot
      finds : (ts : List Step) (found : Found) (q : P) → Finds (size_for x) b ts found → Makes o.leads o.sees p ts q →
          Gone o seat (room b) p (at t (OnSlot s (found_stage x found))) q
      finds _ _ q FindsFree h =
          subst (λ (r : P). Gone o seat (room b) p (at t (OnSlot s (Take x b))) r) (sym h.3)
          (one_step o seat (room b) (at t (OnSlot s (Take x b))) p on (OnBlock (LoadBlock b Free)) (Nothing, finds_free t.worker s x b, refl, refl)
          h.0 (h.2, h.1) (λ k. k))
      finds _ _ q (FindsSlot used i low) h =
          let did : Did o seat p (OnBlock (LoadBlock b (Swept (size_for x)))) h.0 = (h.2, h.1) in
          let more = h.3 in
          let there = at t (OnSlot s (Mark x b i)) in
          subst (λ (r : P). Gone o seat (room b) p there r) (sym more.3)
          (gone_then o seat (room b) (slots_of b) there p h.0 more.0 (swept_gone h.0 did)
          (one_step o seat (slots_of b) there h.0 (swept_on h.0 did) (OnBlock (LoadUsed b used))
          (Nothing, finds_clear t.worker s x b i used low.within low.clear low.below, refl, refl) more.0 (more.2, more.1) (λ k. k)))

    module _ (from : ℕ) (p : P) (on : On o seat p (look_at from)) where
      next_block : (n : ℕ) → from + n + 1 ≡ from + suc n
      next_block n = omega arith

      -- blocks are passed over
      passed : (n : ℕ) (es : List Step) (q : P) → ArePassed (size_for x) from n es → Makes o.leads o.sees p es q →
          ((k : ℕ) → k < n → from + k < seat.area.blocks) →
          Gone o seat (look_at from) p (look_at (from + n)) q
      passed zero es q none h there =
          let same : q ≡ p = subst (λ (fs : List Step). Makes o.leads o.sees p fs q) none h in
          subst (λ (r : P). Gone o seat (look_at from) p (look_at (from + 0)) r) (sym same)
          (subst (λ n. Gone o seat (look_at from) p (look_at n) p) (let e : from ≡ from + 0 = omega arith in e) (none_yet o seat (look_at from) p on))
      passed (suc n) es q are h there =
          let parts = makes_split p are.0 are.1 q (subst (λ (fs : List Step). Makes o.leads o.sees p fs q) are.4 h) in
          let before = passed n are.0 parts.0 are.2 parts.1 (λ k l. there k (omega arith)) in
          let l : from + n < seat.area.blocks = there n (omega arith) in
          let here = on_then o seat (look_at from) (look_at (from + n)) p parts.0 on before in
          let in_room = subst (λ (b : Teller). On o seat parts.0 b) (as_room (from + n) l) here in
          let step = passes (from + n) parts.0 in_room are.1 q are.3 parts.2 in
          subst (λ k. Gone o seat (look_at from) p (look_at k) q) (next_block n)
          (gone_then o seat (look_at from) (look_at (from + n)) (look_at (from + n + 1)) p parts.0 q before
          (subst (λ (b : Teller). Gone o seat b parts.0 (look_at (from + n + 1)) q) (sym (as_room (from + n) l)) step))

      -- the port allows the loads
      room_on : (n : ℕ) (es : List Step) (q : P) → ArePassed (size_for x) from n es → Makes o.leads o.sees p es q → from + n < seat.area.blocks →
          On o seat q (room (from + n))
      room_on n es q are h l =
          let gone = passed n es q are h (λ k m. omega arith) in
          subst (λ (b : Teller). On o seat q b) (as_room (from + n) l) (on_then o seat (look_at from) (look_at (from + n)) p q on gone)

      pub may_look : MayLook o.leads o.sees o.may (size_for x) seat.area.blocks from p
      may_look = record {
        block = λ n es q are h l. block_may (from + n) q (room_on n es q are h l);
        used = λ n es q are h l.
            let parts = makes_split p es (OnBlock (LoadBlock (from + n) (Swept (size_for x))) ∷ []) q h in
            let last = parts.2 in
            let here = room_on n es parts.0 are parts.1 l in
            let there = swept_on (from + n) parts.0 here last.0 (last.2, last.1) in
            subst (λ (r : P). o.may r (OnBlocks (LoadsUsed (from + n)))) (sym last.3)
            (may_now o seat (slots_of (from + n)) (at t (OnSlot s (Mark x (from + n) 0))) last.0 there (OnBlock (LoadUsed (from + n) 0))
            (Nothing, finds_clear t.worker s x (from + n) 0 0 (has_slots (x.n + 2)) refl (λ j m. absurd (omega arith)), refl, refl));
      }

      -- and it finds
      pub looked : (es : List Step) (found : Found) (q : P) → AreLooks (size_for x) seat.area.blocks from es found → Makes o.leads o.sees p es q →
          Gone o seat (look_at from) p (at t (OnSlot s (found_stage x found))) q
      looked _ _ q (PassesAll n es are is) h =
          subst (λ (stage : Stage). Gone o seat (look_at from) p (at t (OnSlot s stage)) q) (none_left seat.area x (from + n) (omega arith))
          (passed n es q are h (λ k l. omega arith))
      looked _ _ q (PassesTo n es ts found are l finding) h =
          let parts = makes_split p es ts q h in
          let before = passed n es parts.0 are parts.1 (λ k m. omega arith) in
          let in_room = room_on n es parts.0 are parts.1 l in
          let there = at t (OnSlot s (found_stage x found)) in
          gone_then o seat (look_at from) (look_at (from + n)) there p parts.0 q before
          (subst (λ (b : Teller). Gone o seat b parts.0 there q) (sym (as_room (from + n) l)) (finds (from + n) parts.0 in_room ts found q finding parts.2))
