-- What a written register, offset or stack makes of a mutator, and statements that the load of the stop word decides.
use Rattle.std.proofs.Common.{◌≡◌, ℕ, ◌+◌, ◌<◌, true, List, [], ◌∷◌, ◌++◌, length, slice_index, slice_set, map, reverse, inl, refl, sym, ap, ◌∙◌, subst}
use Rattle.sg_words.specs.declared.steps.Place.TheVariants.{Stop}
use Rattle.sg_words.specs.declared.steps.Step.TheVariants.{Load}
use Rattle.sg_words.specs.Words.{put}
use Rattle.sg_program.specs.declared.program.Statement.{Statement}
use Rattle.sg_program.specs.declared.program.Statement.TheVariants.{Push, Pop}
use Rattle.sg_program.specs.declared.answers.Answer.{Answer}
use Rattle.sg_program.specs.declared.answers.Answer.TheVariants.{Fine}
use Rattle.sg_rules.specs.Rules.{Constants, Actor, StackWord, Comes, over, over_with}
use Rattle.sg_rules.specs.Rules.Comes.{push_sets, pop_sets}
use Rattle.sg_rules.specs.Resting.{answered_register, word_in, with_word}
use Rattle.sg_actor.specs.declared.mutator.Held.{Held}
use Rattle.sg_actor.specs.declared.mutator.Stage.{Stage}
use Rattle.sg_actor.specs.declared.mutator.Stage.TheVariants.{Between}
use Rattle.sg_actor.specs.State.{Mutating, slot_of, mid_of, actor_of, HasServed, Becomes}
use Rattle.sg_actor.specs.Turning.{before_this, Decides, IsResting, IsBehindTurn}
use Rattle.sg_actor.proofs.Facts.{put_set, put_on_top}

-- the register d got this word, and then the statement its answer
pub tells : (m n k : Mutating) (d word : ℕ) (answer : Answer) → n ≡ record m { registers = slice_set m.registers d word } → d < length m.registers →
    Becomes n k (over (actor_of n) n.script (actor_of n).reg answer) Between → Becomes m k (over (actor_of m) m.script (put (actor_of m).reg d word) answer) Between
tells m n k d word answer e l said =
    let b = subst (λ (v : Mutating). Becomes v k (over (actor_of v) v.script (actor_of v).reg answer) Between) e said in
    record {
      actor = b.actor ∙ ap (λ f. over (actor_of m) m.script f answer) (put_set m.registers d word l);
      stage = b.stage;
      same = record { program = b.same.program; number = b.same.number; first = b.same.first };
    }

-- the offset beside it got this number, and then it this word
pub tells_inner : (m n k : Mutating) (d word offset : ℕ) (answer : Answer) → n ≡ record m { offsets = slice_set m.offsets d offset } → d < length m.offsets →
    Becomes n k (over (actor_of n) n.script (put (actor_of n).reg d word) answer) Between →
    Becomes m k (over_with (actor_of m) m.script (put (actor_of m).reg d word) (put (actor_of m).offset d offset) (actor_of m).stack answer) Between
tells_inner m n k d word offset answer e l told =
    let b = subst (λ (v : Mutating). Becomes v k (over (actor_of v) v.script (put (actor_of v).reg d word) answer) Between) e told in
    record {
      actor = b.actor ∙ ap (λ f. over_with (actor_of m) m.script (put (actor_of m).reg d word) f (actor_of m).stack answer) (put_set m.offsets d offset l);
      stage = b.stage;
      same = record { program = b.same.program; number = b.same.number; first = b.same.first };
    }

-- the same mutator, written otherwise
pub becomes_as : (m k : Mutating) (a b : Actor) (at : Stage) → a ≡ b → Becomes m k a at → Becomes m k b at
becomes_as m k a b at e becomes = record { actor = becomes.actor ∙ e; stage = becomes.stage; same = becomes.same }

-- the stop word's load decides the statement, and then the mutator is so
pub decides_by : (m k : Mutating) (s : Statement) (b : Actor) → Becomes m k b Between → ((lay : Constants) → Comes m.program lay (before_this m s) (Load Stop 0) true b) → Decides m s k
decides_by m k s b becomes n = record {
  comes = λ lay. (true, inl (subst (λ (a : Actor). Comes m.program lay (before_this m s) (Load Stop 0) true a) (sym becomes.actor) (n lay)));
  stage = becomes.stage;
  same = becomes.same;
}

-- what a register holds was put onto the stack
pub pushes : (m n k : Mutating) (r : ℕ) (held : Held) → n ≡ record m { stack = m.stack ++ held ∷ [] } → held.word ≡ (actor_of m).reg r → held.offset ≡ (actor_of m).offset r →
    Becomes n k (over (actor_of n) n.script (actor_of n).reg Fine) Between → Decides m (Push r) k
pushes m n k r held e word offset said =
    let b = subst (λ (v : Mutating). Becomes v k (over (actor_of v) v.script (actor_of v).reg Fine) Between) e said in
    let a = actor_of m in
    let with : List StackWord → Actor = λ stack. over_with a m.script a.reg a.offset stack Fine in
    decides_by m k (Push r) (with (record { word = a.reg r; offset = a.offset r } ∷ a.stack))
    (record {
      actor = b.actor
          ∙ ap with (put_on_top m.stack held)
          ∙ ap (λ w. with (record { word = w; offset = held.offset } ∷ a.stack)) word
          ∙ ap (λ w. with (record { word = a.reg r; offset = w } ∷ a.stack)) offset;
      stage = b.stage;
      same = record { program = b.same.program; number = b.same.number; first = b.same.first };
    })
    (λ lay. push_sets a m.script r)

-- the top of the stack was taken into a register
pub pops : (m n k : Mutating) (r : ℕ) (top : Held) (stack : List Held) → n ≡ record m { stack = stack } → m.stack ≡ stack ++ top ∷ [] →
    Becomes n k (over_with (actor_of n) n.script (put (actor_of n).reg r top.word) (put (actor_of n).offset r top.offset) (actor_of n).stack Fine) Between → Decides m (Pop r) k
pops m n k r top stack e is told =
    let b = subst (λ (v : Mutating). Becomes v k (over_with (actor_of v) v.script (put (actor_of v).reg r top.word) (put (actor_of v).offset r top.offset) (actor_of v).stack Fine) Between) e told in
    let a = actor_of m in
    decides_by m k (Pop r) (over_with a m.script (put a.reg r top.word) (put a.offset r top.offset) (reverse (map slot_of stack)) Fine)
    (record {
      actor = b.actor;
      stage = b.stage;
      same = record { program = b.same.program; number = b.same.number; first = b.same.first };
    })
    (λ lay. pop_sets a m.script r (slot_of top) (reverse (map slot_of stack)) (ap (λ xs. reverse (map slot_of xs)) is ∙ put_on_top stack top))

-- the mutator is behind its turn
pub behind_at : (m n k : Mutating) (a : Actor) (at : Stage) → n ≡ m → Becomes n k a at → IsResting m.program at → IsBehindTurn m k
behind_at m n k a at e becomes rests =
    let b = subst (λ (v : Mutating). Becomes v k a at) e becomes in
    record { rests = subst (λ (stage : Stage). IsResting m.program stage) (sym b.stage) rests; same = b.same }

-- the statement with which the mutator has left was answered
pub serves : (m n : Mutating) (s : Statement) (answer : Answer) (registers : List ℕ) (told : List Answer) (first : ℕ) → n ≡ record m { registers = registers; told = told; first = first; stage = Between } → told ≡ [] →
    first ≡ m.first + (length m.told + 1) → (λ r. slice_index registers r) ≡ with_word (answered_register s) (word_in answer) (actor_of m).reg → HasServed m s answer n
serves m n s answer registers told first is none at set = subst (λ (v : Mutating). HasServed m s answer v) (sym is) (record {
  actor = ap (λ (f : ℕ → ℕ). record (actor_of m) { reg = f; told = told; mid = mid_of Between }) set
      ∙ ap (λ xs. record (actor_of m) { reg = with_word (answered_register s) (word_in answer) (actor_of m).reg; told = xs; mid = mid_of Between }) none;
  stage = refl;
  first = at;
  program = refl;
  number = refl;
})
