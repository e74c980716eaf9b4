-- How a mutator has left an epoch, and what its part of the report is then.
use Rattle.std.proofs.Common.{◌≡◌, ◌≢◌, ℕ, ◌+◌, ◌<◌, map, Bool, true, false, List, [], ◌∷◌, length, inl, inr, sym, refl, ap, ◌∙◌, subst, arith}
use Rattle.std.specs.List.{AllByRecursion}
use Rattle.sg_words.specs.Words.{Words}
use Rattle.sg_words.specs.Events.{Event}
use Rattle.sg_words.specs.Lists.{Pairwise}
use Rattle.sg_program.specs.declared.program.Statement.{Statement}
use Rattle.sg_program.specs.declared.program.Statement.TheVariants.{New, NewV, Mature, Collect}
use Rattle.sg_program.specs.declared.program.Program.{Program}
use Rattle.sg_program.specs.declared.answers.Leave.{Leave}
use Rattle.sg_program.specs.declared.answers.Leave.TheVariants.{Ended, Yield, Wants}
use Rattle.sg_program.specs.declared.answers.Request.{Request}
use Rattle.sg_program.specs.declared.answers.Request.TheVariants.{Need, Slot}
use Rattle.sg_program.specs.declared.answers.Answer.{Answer}
use Rattle.sg_program.specs.Scripts.{script_of, IsSmall, IsMaking, made_words, made_slot, IsRequestOf}
use Rattle.sg_graph.specs.declared.reports.Part.{Part}
use Rattle.sg_graph.specs.Graph.{Graph, Entry, Mutator}
use Rattle.sg_graph.specs.Statements.{name_in}
use Rattle.sg_graph.specs.Book.{Book, HasNoPlace, swept_in, IsClosed}
use Rattle.sg_graph.specs.Epoch.{answers_of, by_address, Asks, Leaves, IsPart, is_done, left, parted}
use Rattle.sg_graph.specs.Turns.{HasLeft}
use Rattle.sg_rules.specs.Rules.{Constants, Search, Roam, StackWord, Mid, Idle, SeeBlock, TakeOver, StoreOccupancy, Left, Yielded, Actor, owning, fresh}
use Rattle.sg_rules.specs.Resting.{IsRunnable}
use Rattle.sg_order.specs.Rest.{Holds, IsReady, before_it, IsOver, AreOver}
use Rattle.sg_order.specs.Sweep.{swept_of}
use Rattle.sg_order.specs.OneOrder.{IsAtEnd, IsOneOrder}
use Rattle.sg_order.specs.Serving.{StaysPut, HandsStay, HasSameHands, StaysReady}
use Rattle.sg_mutate.specs.Boards.{IsAt}

-- who left with a statement asks for what that statement asks for
asks_for : (p : Program) (b : Book) (k : ℕ) (s : Statement) (request : Request) → IsRequestOf p s request → IsRunnable p s →
    (IsMaking s → HasNoPlace b k (made_words p s)) → Asks p b k s request
asks_for p b k (New r class) (Need n) fits run tight =
    (fits, subst IsSmall (sym fits) (let l = run.small in omega arith), subst (HasNoPlace b k) (sym fits) (tight tt))
asks_for p b k (New r class) request fits run tight = absurd fits
asks_for p b k (NewV r class count) (Need n) fits run tight =
    (fits, subst IsSmall (sym fits) (let l = run.small in omega arith), subst (HasNoPlace b k) (sym fits) (tight tt))
asks_for p b k (NewV r class count) request fits run tight = absurd fits
asks_for p b k (Mature r class) (Slot size) fits run tight = fits
asks_for p b k (Mature r class) request fits run tight = absurd fits
asks_for p b k (Collect false) request fits run tight = fits
asks_for p b k (Collect true) request fits run tight = fits
asks_for p b k s request fits run tight = fits

-- how a mutator has left, which stands there before this script
abbrev pub IsLeaveOf : Program → List Statement → Mid → Leave → Type 0
IsLeaveOf p script mid Ended = (mid ≡ Idle) × (script ≡ [])
IsLeaveOf p script mid Yield = (mid ≡ Yielded) × (script ≢ [])
IsLeaveOf p script mid (Wants request) = (s : Statement) × (mid ≡ Left s) × IsRequestOf p s request

pub leave_at : (p : Program) (script : List Statement) (mid : Mid) (leave : Leave) → IsAt p script mid (HasLeft leave) → (mid ≡ Yielded → script ≢ []) →
    IsLeaveOf p script mid leave
leave_at p script Idle Ended h waits = (refl, h)
leave_at p script (Left s) (Wants request) h waits = (s, refl, h)
leave_at p script Yielded Yield h waits = (refl, waits refl)
leave_at p script (TakeOver (Search s) c z) leave h waits = absurd h
leave_at p script (TakeOver Roam c z) leave h waits = absurd h
leave_at p script (StoreOccupancy (Search s) c z) leave h waits = absurd h
leave_at p script (StoreOccupancy Roam c z) leave h waits = absurd h
leave_at p script (SeeBlock (Search s) true c) leave h waits = absurd h
leave_at p script (SeeBlock (Search s) false c) leave h waits = absurd h
leave_at p script (SeeBlock Roam begins c) leave h waits = absurd h
leave_at p script mid leave h waits = absurd h

pub is_over : (p : Program) (script : List Statement) (mid : Mid) (leave : Leave) → IsLeaveOf p script mid leave → IsOver mid
is_over p script mid Ended h = inl h.0
is_over p script mid Yield h = inr (inr (inl h.0))
is_over p script mid (Wants request) h = inr (inl (h.0, h.1))

-- who left with a statement asks for something
pub left_wants : (p : Program) (script : List Statement) (mid : Mid) (leave : Leave) (s : Statement) → IsLeaveOf p script mid leave → mid ≡ Left s →
    (request : Request) × (leave ≡ Wants request)
left_wants p script mid Ended s h e = absurd (let q : Idle ≡ Left s = sym h.0 ∙ e in cc q)
left_wants p script mid Yield s h e = absurd (let q : Yielded ≡ Left s = sym h.0 ∙ e in cc q)
left_wants p script mid (Wants request) s h e = (request, refl)

-- what a part tells of a mutator, with so many statements before the epoch
pub record TellsOf (p : Program) (k before : ℕ) (a : Actor) (part : Part) : Type 0 where
  pub number : part.mutator ≡ k
  pub first : part.first + before ≡ length (script_of p k)
  pub answers : part.answers ≡ a.told
  pub leave : IsLeaveOf p a.script a.mid part.leave

owning_same : (a : Actor) (from to : ℕ) → a.from ≡ from → a.to ≡ to → owning a from to ≡ a
owning_same a from to e f = λ i. record a { from = sym e i; to = sym f i }

pub done_empty : (xs : List Statement) → is_done xs ≡ true → xs ≡ []
done_empty [] e = refl
done_empty (x ∷ xs) e = absurd (let z : false ≡ true = e in cc z)

pub not_done : (xs : List Statement) → xs ≢ [] → is_done xs ≡ false
not_done [] some = absurd (some refl)
not_done (x ∷ xs) some = refl

pub ended_is : (m : Mutator) (done : Bool) → (parted m done).ended ≡ done
ended_is m true = refl
ended_is m false = refl

-- who has a statement left stays ready as the epoch ends
pub ready_left : StaysReady → (p : Program) (g : Graph) (b : Book) (k : ℕ) (a : Actor) (script : List Statement) → IsReady p g b k a script →
    is_done (g.mutator k).script ≡ false →
    IsReady p (left g) b k a script
ready_left stays p g b k a script r going =
    subst (λ x. IsReady p (left g) b k x script) (owning_same a (b.from k) (b.to k) r.from_is r.to_is) (stays p g (left g) b b k a script r same hands)
  where
    put_still : (name : ℕ) → StaysPut g b (left g) b name
    put_still name = record { stands = λ q. q; address = λ q. refl; size = λ q. refl }

    now : parted (g.mutator k) (is_done (g.mutator k).script) ≡ parted (g.mutator k) false
    now = ap (parted (g.mutator k)) going

    same : HasSameHands (g.mutator k) ((left g).mutator k)
    same = record {
      register = ap (λ (m : Mutator). m.register) now;
      stack = ap (λ (m : Mutator). m.stack) now;
      script = ap (λ (m : Mutator). m.script) now;
      asleep = λ e. absurd (let q : true ≡ false = sym e ∙ ap (λ (m : Mutator). m.ended) now in cc q);
    }

    hands : HandsStay g b (left g) b (g.mutator k)
    hands = record { registers = λ r. put_still _; stack = all_still (g.mutator k).stack }
      where
        all_still : (entries : List Entry) → AllByRecursion (λ (entry : Entry). StaysPut g b (left g) b (name_in entry)) entries
        all_still [] = tt
        all_still (entry ∷ entries) = (put_still _, all_still entries)

-- whose hands are empty in the graph is ready with empty hands
pub ready_empty : (p : Program) (h : Graph) (b : Book) (k from to : ℕ) (m : Mutator) → h.mutator k ≡ parted m true → m.script ≡ [] → b.stands 0 ≡ true →
    b.address 0 ≡ 0 →
    from ≡ b.from k → to ≡ b.to k → IsReady p h b k (record (fresh []) { from = from; to = to }) []
ready_empty p h b k from to m is none stands at from_is to_is = record {
  regs = λ r. subst (λ (x : Mutator). Holds h b 0 0 (x.register r)) (sym is) (record { word_is = (let e = at in omega arith); stands = stands });
  stack = subst (λ (x : Mutator). Pairwise (λ (slot : StackWord) (entry : Entry). Holds h b slot.word slot.offset entry) [] x.stack) (sym is) tt;
  script_is = ap (λ (x : Mutator). x.script) is ∙ none;
  asleep = λ _. refl;
  from_is = from_is;
  to_is = to_is;
  kinds = tt;
  runnable = tt;
}

-- who asks for a slot looks for one of the size for its object
pub seeks_slot : (p : Program) (s : Statement) (z : ℕ) → IsRequestOf p s (Slot z) → (r : ℕ) × (class : ℕ) × (s ≡ Mature r class) × (z ≡ made_slot p s)
seeks_slot p (Mature r class) z asks = (r, class, refl, asks)
seeks_slot p (Collect false) z asks = absurd asks
seeks_slot p (Collect true) z asks = absurd asks
seeks_slot p s z asks = absurd asks

module _ (p : Program) (lay : Constants) (w : Words) (g : Graph) (b : Book) (es : List Event) (v : Words) (last : ℕ → Actor)
    (one : IsOneOrder p lay w g b es v last) (over : AreOver last) where
  -- the book as the epoch ends
  abbrev pub c : Book
  c = swept_in one.book (swept_of es)

  abbrev pub ends : IsAtEnd p lay g.count b one.graph one.book (swept_in one.book (swept_of es)) v last
  ends = one.ended over

  same_addresses : (answers : List Answer) → map (by_address one.book) answers ≡ map (by_address c) answers
  same_addresses answers = ap (λ (x : Book). map (by_address x) answers) (sym ends.only_owed)

  module _ (k : ℕ) where
    ready : IsReady p one.graph c k (last k) (before_it (last k).mid (last k).script)
    ready = ends.ready k

    tight : (s : Statement) → IsMaking s → (last k).mid ≡ Left s → HasNoPlace c k (made_words p s)
    tight s making left =
        let none = one.tight k s making left in
        subst (λ (x : Book). HasNoPlace x k (made_words p s)) (sym ends.only_owed) (record { short = none.short; none = none.none })

    leaves : (leave : Leave) → IsLeaveOf p (last k).script (last k).mid leave → Leaves p c k leave (one.graph.mutator k).script
    leaves Ended h = ready.script_is ∙ ap (λ mid. before_it mid (last k).script) h.0 ∙ h.1
    leaves Yield h = λ none. h.1 (sym (ready.script_is ∙ ap (λ mid. before_it mid (last k).script) h.0) ∙ none)
    leaves (Wants request) h =
        let asking : before_it (last k).mid (last k).script ≡ h.0 ∷ (last k).script = ap (λ mid. before_it mid (last k).script) h.1 in
        let run : AllByRecursion (IsRunnable p) (h.0 ∷ (last k).script) =
        subst (λ (xs : List Statement). AllByRecursion (IsRunnable p) xs) asking ready.runnable in
        (h.0, (last k).script, ready.script_is ∙ asking, asks_for p c k h.0 request h.2 run.0 (λ making. tight h.0 making h.1))

    pub is_part : (part : Part) → TellsOf p k (length (g.mutator k).script) (last k) part → IsPart p g one.order one.graph c k part
    is_part part t = record {
      number = t.number;
      first = t.first;
      answers = t.answers ∙ one.answers k (over k) ∙ same_addresses (answers_of k one.order);
      leaves = leaves part.leave t.leave;
    }

  -- where a mutator asks for a slot no block has one
  pub searched : (k z j : ℕ) (s : Statement) → (last k).mid ≡ Left s → IsRequestOf p s (Slot z) → j < p.config.blocks → IsClosed p b.owed one.graph c j z
  searched k z j s left asks l =
      let seeks = seeks_slot p s z asks in
      let sized : z ≡ made_slot p (Mature seeks.0 seeks.1) = seeks.3 ∙ ap (made_slot p) seeks.2 in
      subst (λ (z : ℕ). IsClosed p b.owed one.graph c j z) (sym sized) (ends.searched k seeks.0 seeks.1 j (left ∙ ap (λ (s : Statement). Left s) seeks.2) l)
