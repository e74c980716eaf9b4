-- The steps of a turn are a turn over graph and book.
use Rattle.std.proofs.Common.{◌≡◌, ◌≢◌, ℕ, zero, suc, ◌+◌, ◌*◌, ◌^◌, ◌/◌, ◌%◌, ◌<◌, ◌≤◌, ◌⊎◌, Bool, true, false, Option, Some, None, List, [], ◌∷◌, ◌++◌, map, cond, le_refl, inl, inr, refl, ap, sym, ◌∙◌, subst, arith}
use Rattle.std.specs.Int.{bit_at}
use Rattle.std.specs.Int.Bits.{bit_or}
use Rattle.sg_words.proofs.Blocks.{bit_again, bit_same, class_bounds, slot_in, slot_size-class}
use Rattle.std.proofs.lemmas.Nat.Bits.{bit_at_lowest, bit_at-suc, bit_at-zero}
use Rattle.std.proofs.lemmas.List.{append-nil}
use Rattle.std.proofs.lemmas.Bool.{cases_Bool, cases_eq, cond-true, cond-false, eq-eqb, ne_eqb}
use Rattle.sg_words.specs.Address.{byte_at}
use Rattle.sg_words.specs.declared.steps.Step.{Step}
use Rattle.sg_words.specs.declared.steps.Step.TheVariants.{OnBlock}
use Rattle.sg_words.specs.declared.steps.BlockStep.TheVariants.{WonBlock, OrUsed}
use Rattle.sg_words.specs.declared.steps.BlockWord.{BlockWord}
use Rattle.sg_words.specs.declared.steps.BlockWord.TheVariants.{Free, Swept, Need, Sweeping}
use Rattle.sg_words.specs.Blocks.{slots, IsOf, IsOwing, is_taken}
use Rattle.sg_words.specs.Sweeps.{swept_word}
use Rattle.sg_words.specs.Words.{put, Words, replayed, after, Legal, IsLegal}
use Rattle.sg_words.specs.Events.{Event, ticks, by_one, order_of}
use Rattle.sg_words.proofs.Puts.{put-at, put-same, put-other, put-all}
use Rattle.sg_program.specs.declared.program.Statement.{Statement}
use Rattle.sg_program.specs.declared.program.Program.{Program}
use Rattle.sg_program.specs.declared.program.Statement.TheVariants.{Mature}
use Rattle.sg_program.specs.declared.answers.Answer.{Answer}
use Rattle.sg_program.specs.declared.answers.Answer.TheVariants.{At}
use Rattle.sg_graph.specs.Statements.{Answers}
use Rattle.sg_program.specs.declared.answers.Request.{Request}
use Rattle.sg_program.specs.declared.answers.Request.TheVariants.{Need as Needs_words, Slot}
use Rattle.sg_program.specs.declared.answers.Leave.TheVariants.{Ended, Yield, Wants}
use Rattle.sg_program.specs.Scripts.{IsMaking, IsMature, made_words, made_slot}
use Rattle.sg_graph.specs.Graph.{Mutator, Graph}
use Rattle.sg_graph.specs.Book.{Book, Books, Old, IsInBlock, nursery_end, block_at, slot_at, swept_in}
use Rattle.sg_graph.specs.Epoch.{Said, Turn, Explains, IsNewOld}
use Rattle.sg_graph.specs.Laws.{HasOneTurn, TurnsKeepOld, BlocksGo}
use Rattle.sg_graph.specs.Turns.{Position, Between, Claiming, OpeningBlock, TakingSlot, TakingOver, SweepingBlock, BehindSweep, HasLeft, Board, opening, HasGone, moved_on, asking, stopped_at, giving, Searches, IsBeingSwept, SearchesFrom, SearchesOnAt, TakesTurn}
use Rattle.sg_graph.specs.Turns.TakesTurn.{Ends, Yields, Collects, Does, Prepares, Needs, Claims, LooksAgain, FindsNone, SearchesOn, Opens, ClaimsSlot, TakesOver, Sweeps, Matures as MaturesNow}
use Rattle.sg_rules.specs.Rules.{Constants, Mid, Idle, TestTag, TestLength, Access, MarkCard, AccessGlobal, Look, Claim, StoreLength, StoreTag, HideLength, Ask, Left, Yielded, Actor}
use Rattle.sg_rules.specs.Rules.{Task, Search, Roam, SeeBlock, TakeBlock, SeeUsed, TakeSlot, TakeOver, StoreOccupancy, ClearSlots, ClearWords, Retired}
use Rattle.sg_order.specs.Rest.{IsReady, before_it}
use Rattle.sg_order.specs.Sweep.{no_winner, winners, taken_over, swept_of, IsClaimedBy, Runs}
use Rattle.sg_order.specs.Knowing.{IsPast, KnowsAt, Seeks}
use Rattle.sg_order.specs.OneOrder.{HasPrepared, IsHoused, IsSeeking, AreBlocksSoFar, IsSoFar, IsOneOrder, OrdersSoFar}
use Rattle.sg_mutate.specs.Boards.{IsAt, SaysOf, HasSeen, OccupiesSlots, IsBoarded, HasTaken, OpensBoarded, TurnsAreTaken, EndsAreTaken}
use Rattle.sg_mutate.proofs.Events.{order_more, so_more}
use Rattle.sg_mutate.proofs.Ends.{Searched, SearchedBlocks, Kept, opened, claimed, owned, Turned, GivesWay, IsDone, Gathers, Looks, Wins, Loses, Matures, WinsBlock, LosesBlock, WinsSlot, LosesSlot, WinsSweep, LosesSweep, SweepsOne, GoesOn, Roams, HasRun, runs}
use Rattle.sg_mutate.proofs.Seen.{Agrees, IsMidOf, HaltsBy, one_zero, filled, stopped}
use Rattle.sg_mutate.proofs.Explained.{GoesBehind, goes_behind, explained, ordered, claimed_by}
use Rattle.sg_mutate.proofs.Standing.{at_rest, at_idle, at_claim, at_opening, at_slot, at_taking_over, at_sweeping, at_behind, swept_at, in_sweep, no_sweeper, request_of, slot_request_of, collects, none_by, OneMore, one_by, Reads, AreFragments, found, none}

-- as an epoch opens
pub opens_boarded : OrdersSoFar → OpensBoarded
opens_boarded orders p lay w g b actors opens idle fits = record {
  so = so;
  one = one;
  order_is = none one.order one.deciding;
  graph_is = nothing.0;
  book_is = nothing.1;
  at = λ k. subst (λ (mid : Mid). IsAt p (actors k).script mid Between) (sym (idle k)) tt;
  asked = λ e. cc;
  going = λ e. opens.going;
  owed_is = refl;
  says = λ j l. says_at j l (w.block j) refl;
  seen = λ k. subst (HasSeen w (λ _. None)) (sym (idle k)) tt;
  fits = fits;
}
  where
    so : IsSoFar p lay g b w actors
    so = record { opened = w; first = actors; events = []; opening = opens; legal = tt; is = refl; follows = λ k. refl }

    one : IsOneOrder p lay w g b so.events w actors
    one = orders p lay g b w actors so

    not_owed : (j : ℕ) → j < p.config.blocks → ((z : ℕ) → w.block j ≡ Need z → ⊥) → b.owed j ≡ false
    not_owed j l need_not = elim (cases_Bool (b.owed j)) [
      | inl owed ↦ absurd (let need = opens.held.settled.owes j l owed in need_not need.0 need.1)
      | inr e ↦ e
    ]

    inhabitant : (j : ℕ) → (n : ℕ) × (1 ≤ n) × (b.stands n ≡ true) × (block_at p j ≤ b.address n) × (b.address n < block_at p j + 256) → (n : ℕ) × IsInBlock p b n j
    inhabitant j (n, some, stands, above, below) = (
      n,
      record {
        some = some;
        stands = stands;
        old = elim (opens.held.heap.laid.objects.inside n some stands) [ inl young ↦ absurd (let top = young.2 in omega arith) | inr old ↦ old.0 ];
        above = above;
        below = below;
      },
    )

    says_at : (j : ℕ) → j < p.config.blocks → (state : BlockWord) → w.block j ≡ state → SaysOf p (opening g b) j state
    says_at j l Free e = (not_owed j l (λ z q. let f : Free ≡ Need z = sym e ∙ q in cc f), refl)
    says_at j l (Swept z) e =
        let at = opens.held.settled.inhabited j z l e in
        (not_owed j l (λ x q. let f : Swept z ≡ Need x = sym e ∙ q in cc f), inr (refl, inhabitant j at))
    says_at j l (Need z) e = ((opens.held.settled.blocks.each j l).owing z (subst (λ (state : BlockWord). IsOwing state z) (sym e) refl), refl)
    says_at j l (Sweeping z) e = absurd (opens.held.settled.settled j z l e)

    none : (order : List Said) → map (λ (s : Said). s.by) order ≡ [] → order ≡ []
    none [] e = refl
    none (s ∷ order) e = cc

    nothing : (one.graph ≡ g) × (one.book ≡ b)
    nothing = subst (λ ss. Explains p g b ss one.graph one.book) (none one.order one.deciding) one.explains

-- the blocks whose sweep was taken over in two lists, one behind the other
taken_more : (step : Step) (xs ys : List ℕ) → taken_over step (xs ++ ys) ≡ taken_over step xs ++ ys
taken_more (OnBlock (WonBlock c (Need z) new)) xs ys = refl
taken_more (OnBlock (WonBlock c Free new)) xs ys = refl
taken_more (OnBlock (WonBlock c (Swept z) new)) xs ys = refl
taken_more (OnBlock (WonBlock c (Sweeping z) new)) xs ys = refl
taken_more step xs ys = refl

swept_more : (es fs : List Event) → swept_of (es ++ fs) ≡ swept_of es ++ swept_of fs
swept_more [] fs = refl
swept_more (e ∷ es) fs = ap (taken_over e.tick.step) (swept_more es fs) ∙ taken_more e.tick.step (swept_of es) (swept_of fs)

owed_more : (b : Book) (xs : List ℕ) (c : ℕ) → (swept_in b (xs ++ c ∷ [])).owed ≡ put (swept_in b xs).owed c false
owed_more b [] c = refl
owed_more b (x ∷ xs) c = owed_more (record b { owed = put b.owed x false }) xs c

-- what the board says of a block stays said
says_on : (p : Program) (x y : Board) (j : ℕ) (state : BlockWord) → y.owed j ≡ x.owed j → y.given j ≡ x.given j →
    ((name : ℕ) → IsInBlock p x.book name j → IsInBlock p y.book name j) → SaysOf p x j state → SaysOf p y j state
says_on p x y j Free owed given objects h = (owed ∙ h.0, given ∙ h.1)
says_on p x y j (Swept z) owed given objects h = (
  owed ∙ h.0,
  elim h.1 [ inl e ↦ inl (given ∙ e) | inr e ↦ inr (given ∙ e.0, (e.1.0, objects e.1.0 e.1.1)) ],
)
says_on p x y j (Need z) owed given objects h = (owed ∙ h.0, given ∙ h.1)
says_on p x y j (Sweeping z) owed given objects h = (owed ∙ h.0, given ∙ h.1)

-- blocks go only onward from w to v: what is past its sweep stays so, what is owed was owed, a free one is free or was given to a size, and what was
-- given stays so
record Onward (w v : Words) (given given' : ℕ → Option ℕ) : Type 0 where
  past : (c : ℕ) → IsPast (w.block c) → IsPast (v.block c)
  need : (c z : ℕ) → v.block c ≡ Need z → w.block c ≡ Need z
  free : (c : ℕ) → w.block c ≡ Free → (v.block c ≡ Free) ⊎ ((z : ℕ) × (v.block c ≡ Swept z) × (given' c ≡ Some z))
  swept : (c z : ℕ) → w.block c ≡ Swept z → given c ≡ Some z → (v.block c ≡ Swept z) × (given' c ≡ Some z)

stays_onward : (w : Words) (given : ℕ → Option ℕ) → Onward w w given given
stays_onward w given = record { past = λ c h. h; need = λ c z e. e; free = λ c e. inl e; swept = λ c z e g. (e, g) }

same_onward : (w u v : Words) (given given' : ℕ → Option ℕ) → v.block ≡ u.block → Onward w u given given' → Onward w v given given'
same_onward w u v given given' e on = record {
  past = λ c h. subst IsPast (at c) (on.past c h);
  need = λ c z q. on.need c z (at c ∙ q);
  free = λ c q. elim (on.free c q) [ inl f ↦ inl (sym (at c) ∙ f) | inr f ↦ inr (f.0, sym (at c) ∙ f.1, f.2) ];
  swept = λ c z q g. let h = on.swept c z q g in (sym (at c) ∙ h.0, h.1);
}
  where
    at : (c : ℕ) → u.block c ≡ v.block c
    at c = sym (ap (λ (f : ℕ → BlockWord). f c) e)

seen_on : (w v : Words) (given given' : ℕ → Option ℕ) (mid : Mid) → Onward w v given given' → HasSeen w given mid → HasSeen v given' mid
seen_on w v given given' (TakeBlock s c) on h = elim h [
  | inl e ↦ on.free c e
  | inr e ↦ let q = on.swept c e.0 e.1 e.2 in inr (e.0, q.0, q.1)
]
seen_on w v given given' (SeeBlock t true c) on h = on.past c h
seen_on w v given given' (SeeBlock t false c) on h = tt
seen_on w v given given' (TakeOver t c z) on h = λ size e. h size (on.need c size e)
seen_on w v given given' mid on h = tt

past_put : (block : ℕ → BlockWord) (c : ℕ) (state : BlockWord) → IsPast state → (d : ℕ) → IsPast (block d) → IsPast (put block c state d)
past_put block c state past d h = elim (cases_eq d c) [
  | inl e ↦ subst IsPast (sym (put-at block c state d e)) past
  | inr n ↦ subst IsPast (sym (put-other block c state d n)) h
]

need_put : (block : ℕ → BlockWord) (c : ℕ) (state : BlockWord) → IsPast state → (d z : ℕ) → put block c state d ≡ Need z → block d ≡ Need z
need_put block c state past d z e = elim (cases_eq d c) [
  | inl q ↦ absurd (subst IsPast (sym (put-at block c state d q) ∙ e) past)
  | inr n ↦ sym (put-other block c state d n) ∙ e
]

swept_past : (z marks : ℕ) → IsPast (swept_word (Need z) marks)
swept_past z marks = elim (cases_eq marks 0) [
  | inl e ↦ subst IsPast (sym (cond-true _ Free (Swept z) (eq-eqb marks 0 e))) tt
  | inr n ↦ subst IsPast (sym (cond-false _ Free (Swept z) (ne_eqb marks 0 n))) tt
]

-- a statement that makes an object in the major heap answers with its name, and it stands there
old_made : (p : Program) (g : Graph) (b : Book) (k : ℕ) (m : Mutator) (s : Statement) (answer : Answer) (c : Book) → IsMature s → Answers p g m s answer →
    Books p g b k s answer c → (name : ℕ) × (answer ≡ At name) × IsNewOld g.count c name
old_made p g b k m (Mature r class) (At name) c mature a books = (
  name,
  refl,
  record {
    new = let e : name ≡ suc g.count = a in omega arith;
    stands = ap (λ (d : Book). d.stands name) books.after ∙ put-same b.stands name true;
    old = ap (λ (d : Book). d.section name) books.after ∙ put-same b.section name Old;
  },
)
old_made p g b k m (Mature r class) answer c mature a books = absurd books
old_made p g b k m s answer c mature a books = absurd mature

old_made_by : (p : Program) (g : Graph) (b : Book) (said : Said) (h : Graph) (c : Book) (turn : Turn p g b said h c) (s : Statement) (rest : List Statement) →
    (g.mutator said.by).script ≡ s ∷ rest → IsMature s → (name : ℕ) × (said.answer ≡ At name) × IsNewOld g.count c name
old_made_by p g b said h c turn s rest script mature =
    let lists : (turn.statement ∷ turn.rest) ≡ (s ∷ rest) = sym turn.next ∙ script in
    let same : turn.statement ≡ s = cc lists in
    old_made p g b said.by (g.mutator said.by) turn.statement said.answer c (subst IsMature (sym same) mature) turn.does.0 turn.books

size_of : (marks z y : ℕ) → swept_word (Need z) marks ≡ Swept y → z ≡ y
size_of marks z y e = elim (cases_eq marks 0) [
  | inl r ↦ absurd (let f : Free ≡ Swept y = sym (cond-true _ Free (Swept z) (eq-eqb marks 0 r)) ∙ e in cc f)
  | inr n ↦ let f : Swept z ≡ Swept y = sym (cond-false _ Free (Swept z) (ne_eqb marks 0 n)) ∙ e in cc f
]

-- a number that isn't 0 has a bit
bit_by : (fuel n : ℕ) → n ≤ fuel → n ≢ 0 → (i : ℕ) × (bit_at n i ≡ 1)
bit_by zero n l some = absurd (some (omega arith))
bit_by (suc fuel) n l some = elim (cases_eq (n % 2) 1) [
  | inl odd ↦ (0, bit_at_lowest n ∙ odd)
  | inr even ↦
      let rest = bit_by fuel (n / 2) (omega arith) (λ z. some (omega (arith, even, z))) in
      (suc rest.0, bit_at-suc n rest.0 ∙ rest.1)
]

module _ (orders : OrdersSoFar) (answers : HasOneTurn) (keeps : TurnsKeepOld) (blocks_go : BlocksGo) (p : Program) (lay : Constants) (g : Graph) (b : Book)
    (order : List Said) (x : Board) (w : Words) (actors : ℕ → Actor)
    (bo : IsBoarded p lay g b order x w actors) (k : ℕ) (stays : ¬ HasGone (x.position k)) where
  blocks : AreBlocksSoFar p lay x.graph x.book bo.so.events w actors
  blocks = subst (λ (c : Book). AreBlocksSoFar p lay x.graph c bo.so.events w actors) bo.book_is
      (subst (λ (h : Graph). AreBlocksSoFar p lay h bo.one.book bo.so.events w actors) bo.graph_is bo.one.blocks)

  abbrev by : ℕ → ℕ
  by = winners no_winner bo.so.events

  known : (mid : Mid) → (actors k).mid ≡ mid → KnowsAt p lay w x.book.owed by k mid
  known mid e = subst (KnowsAt p lay w x.book.owed by k) e (blocks.known k)

  being_swept : (j : ℕ) → IsBeingSwept x j → (z : ℕ) × (w.block j ≡ Sweeping z)
  being_swept j (i, e) =
      let at = swept_at p (actors i).script (actors i).mid j (subst (λ (q : Position). IsAt p (actors i).script (actors i).mid q) e (bo.at i)) in
      let kn : KnowsAt p lay w x.book.owed by i (StoreOccupancy (Search at.0) j at.1) = subst (KnowsAt p lay w x.book.owed by i) at.2 (blocks.known i) in
      (at.1, kn.1.word)

  agrees : Agrees p lay x w
  agrees = record {
    word = w.word;
    owner = blocks.owner;
    blocks = blocks.blocks;
    says = bo.says;
    sweeper = being_swept;
    swept = λ j z l e. (by j, in_sweep p (actors (by j)).script (actors (by j)).mid (x.position (by j)) j z (bo.at (by j)) (blocks.swept_by j z l e));
    housed = blocks.housed;
  }

  given : (name : ℕ) → x.book.stands name ≡ true → name ≤ x.graph.count
  given name e = subst (λ (h : Graph). name ≤ h.count) bo.graph_is
      (bo.one.given name (ap (λ (c : Book). c.stands name) bo.book_is ∙ e))

  reads : (actors k).mid ≡ Idle → Reads p x.book x.graph k (actors k)
  reads idle =
      let ready = bo.one.ready k (inl idle) in
      record {
        script_is = ap (λ (h : Graph). (h.mutator k).script) (sym bo.graph_is) ∙ ready.script_is ∙ ap (λ (m : Mid). before_it m (actors k).script) idle;
        from_is = ready.from_is ∙ ap (λ (c : Book). c.from k) bo.book_is;
        to_is = ready.to_is ∙ ap (λ (c : Book). c.to k) bo.book_is;
      }

  are : AreFragments lay w x.book
  are = subst (λ (c : Book). AreFragments lay w c) bo.book_is (record { fragments = bo.one.fragments; limits = bo.one.limits; nexts = bo.one.nexts })

  between : (actors k).mid ≡ Idle → x.position k ≡ Between
  between idle = at_idle p (actors k).script (actors k).mid (x.position k) (bo.at k) idle stays

  claiming : (s : Statement) (f seen : ℕ) → (actors k).mid ≡ Claim s f seen → x.position k ≡ Claiming f seen
  claiming s f seen e = at_claim p (actors k).script (actors k).mid (x.position k) s f seen (bo.at k) e

  prepared : (s : Statement) (f seen : ℕ) → (actors k).mid ≡ Claim s f seen → HasPrepared p x.graph x.book k (actors k) s f seen
  prepared s f seen e = subst (λ (c : Book). HasPrepared p x.graph c k (actors k) s f seen) bo.book_is
      (subst (λ (h : Graph). HasPrepared p h bo.one.book k (actors k) s f seen) bo.graph_is (bo.one.prepared k s f seen e))

  -- nobody asks for a stop exactly where the stop word isn't set
  quiet_board : w.stop ≡ 0 → x.stopping ≡ false
  quiet_board z = elim (cases_Bool x.stopping) [ inl e ↦ absurd (bo.asked e z) | inr e ↦ e ]

  loud_board : w.stop ≢ 0 → x.stopping ≡ true
  loud_board set = elim (cases_Bool x.stopping) [ inl e ↦ e | inr e ↦ absurd (set (bo.going e)) ]

  module _ (steps : List Step) (a : Actor) (run : HasRun p lay k w (actors k) steps a) (legal : IsLegal w steps) where
    abbrev v : Words
    v = replayed w steps

    abbrev ks : List ℕ
    ks = order_of (by_one k run.ticks)

    legal_ticks : Legal w run.ticks
    legal_ticks = subst (IsLegal w) (sym run.steps_are) legal

    is_ticks : v ≡ after w run.ticks
    is_ticks = ap (replayed w) (sym run.steps_are)

    abbrev so : IsSoFar p lay g b v (put actors k a)
    so = so_more p lay g b w actors k a v bo.so run.ticks legal_ticks is_ticks run.follows

    one : IsOneOrder p lay bo.so.opened g b so.events v (put actors k a)
    one = orders p lay g b v (put actors k a) so

    runs_before : Runs p lay bo.so.opened no_winner g b bo.so.events order x.graph x.book
    runs_before = subst (λ (d : Book). Runs p lay bo.so.opened no_winner g b bo.so.events order x.graph d) bo.book_is
        (subst (λ (h : Graph). Runs p lay bo.so.opened no_winner g b bo.so.events order h bo.one.book) bo.graph_is
        (subst (λ ss. Runs p lay bo.so.opened no_winner g b bo.so.events ss bo.one.graph bo.one.book) bo.order_is bo.one.runs))

    behind : GoesBehind p lay bo.so.opened no_winner bo.so.events order one.order x.graph x.book (by_one k run.ticks) one.graph one.book
    behind = goes_behind p lay answers bo.so.events (by_one k run.ticks) bo.so.opened no_winner g b order one.order x.graph one.graph x.book one.book runs_before
        one.runs

    explains : Explains p x.graph x.book behind.rest one.graph one.book
    explains = explained p lay answers (by_one k run.ticks) (after bo.so.opened (ticks bo.so.events)) by x.graph x.book behind.rest one.graph one.book behind.runs

    by_rest : map (λ (s : Said). s.by) behind.rest ≡ ks
    by_rest = ordered p lay answers (by_one k run.ticks) (after bo.so.opened (ticks bo.so.events)) by x.graph x.book behind.rest one.graph one.book behind.runs

    abbrev sw : List ℕ
    sw = swept_of (by_one k run.ticks)

    -- which blocks are owed behind the turn
    owed_same : sw ≡ [] → x.owed ≡ (swept_in b (swept_of so.events)).owed
    owed_same e = bo.owed_is ∙ ap (λ ss. (swept_in b ss).owed)
        (sym (swept_more bo.so.events (by_one k run.ticks) ∙ ap (λ ss. swept_of bo.so.events ++ ss) e ∙ append-nil (swept_of bo.so.events)))

    owed_less : (c : ℕ) → sw ≡ c ∷ [] → put x.owed c false ≡ (swept_in b (swept_of so.events)).owed
    owed_less c e = ap (λ (f : ℕ → Bool). put f c false) bo.owed_is ∙ sym (owed_more b (swept_of bo.so.events) c) ∙ ap (λ ss. (swept_in b ss).owed)
        (sym (swept_more bo.so.events (by_one k run.ticks) ∙ ap (λ ss. swept_of bo.so.events ++ ss) e))

    boarded : (said : List Said) (y : Board) → behind.rest ≡ said → one.graph ≡ y.graph → one.book ≡ y.book → IsAt p a.script a.mid (y.position k) →
        ((j : ℕ) → j ≢ k → y.position j ≡ x.position j) → (y.stopping ≡ true → v.stop ≢ 0) → (y.stopping ≡ false → v.stop ≡ 0) →
        y.owed ≡ (swept_in b (swept_of so.events)).owed → ((j : ℕ) → j < p.config.blocks → SaysOf p y j (v.block j)) → HasSeen v y.given a.mid →
        Onward w v x.given y.given → OccupiesSlots p v →
        IsBoarded p lay g b (order ++ said) y v (put actors k a)
    boarded said y rest graph book here there asked going owed says seen on fits = record {
      so = so;
      one = one;
      order_is = behind.order_is ∙ ap (λ ss. order ++ ss) rest;
      graph_is = graph;
      book_is = book;
      at = put-all (λ j (c : Actor). IsAt p c.script c.mid (y.position j)) actors k a here
          (λ j n. subst (IsAt p (actors j).script (actors j).mid) (sym (there j n)) (bo.at j));
      asked = asked;
      going = going;
      owed_is = owed;
      says = says;
      seen = put-all (λ j (c : Actor). HasSeen v y.given c.mid) actors k a seen (λ j n. seen_on w v x.given y.given (actors j).mid on (bo.seen j));
      fits = fits;
    }

    -- the blocks as before
    module _ (u : Words) (kept : Kept u v sw) where
      state_same : (j : ℕ) → v.block j ≡ u.block j
      state_same j = ap (λ (f : ℕ → BlockWord). f j) kept.block

      fits_same : OccupiesSlots p u → OccupiesSlots p v
      fits_same fits c z i l e set =
          fits c z i l (sym (state_same c) ∙ e) (ap (λ (f : ℕ → ℕ). bit_at (f c) i) (sym kept.used) ∙ set)

      onward_same : (given : ℕ → Option ℕ) → Onward w u x.given given → Onward w v x.given given
      onward_same given on = same_onward w u v x.given given kept.block on

      says_same : (y z : Board) → z.owed ≡ y.owed → z.given ≡ y.given → ((name j : ℕ) → IsInBlock p y.book name j → IsInBlock p z.book name j) →
          ((j : ℕ) → j < p.config.blocks → SaysOf p y j (u.block j)) → (j : ℕ) → j < p.config.blocks → SaysOf p z j (v.block j)
      says_same y z owed given objects says j l = subst (SaysOf p z j) (sym (state_same j))
          (says_on p y z j (u.block j) (ap (λ (f : ℕ → Bool). f j) owed) (ap (λ (f : ℕ → Option ℕ). f j) given) (λ name h. objects name j h) (says j l))

    -- the stop word as before
    still_asked : v.stop ≡ w.stop → x.stopping ≡ true → v.stop ≢ 0
    still_asked same e z = bo.asked e (sym same ∙ z)

    still_going : v.stop ≡ w.stop → x.stopping ≡ false → v.stop ≡ 0
    still_going same e = same ∙ bo.going e

    claims_none : (s : Statement) (f seen : ℕ) → a.mid ≡ Claim s f seen → ¬ (a.mid ≡ Idle)
    claims_none s f seen m idle = let z : Claim s f seen ≡ Idle = sym m ∙ idle in cc

    leaves_none : (s : Statement) → a.mid ≡ Left s → ¬ (a.mid ≡ Idle)
    leaves_none s m idle = let z : Left s ≡ Idle = sym m ∙ idle in cc

    yields_none : a.mid ≡ Yielded → ¬ (a.mid ≡ Idle)
    yields_none m idle = let z : Yielded ≡ Idle = sym m ∙ idle in cc

    -- no statement is done
    no_more : ks ≡ [] → behind.rest ≡ []
    no_more e = none_by behind.rest (by_rest ∙ e)

    same_all : ks ≡ [] → (one.graph ≡ x.graph) × (one.book ≡ x.book)
    same_all e = subst (λ ss. Explains p x.graph x.book ss one.graph one.book) (no_more e) explains

    mid_now : (put actors k a k).mid ≡ Idle → a.mid ≡ Idle
    mid_now e = ap (λ (c : Actor). c.mid) (sym (put-same actors k a)) ∙ e

    moves : (position : Position) → ks ≡ [] → v.stop ≡ w.stop → Kept w v sw → IsAt p a.script a.mid position → HasSeen v x.given a.mid → ¬ (a.mid ≡ Idle) →
        TakesTurn p x k [] (moved_on x k position) → HasTaken p lay g b order x k v (put actors k a)
    moves position e same kept here seen some takes = record {
      said = [];
      board = moved_on x k position;
      takes = takes;
      boarded = boarded [] (moved_on x k position) (no_more e) (same_all e).0 (same_all e).1
          (subst (IsAt p a.script a.mid) (sym (put-same x.position k position)) here)
          (λ j n. put-other x.position k position j n)
          (still_asked same) (still_going same)
          (owed_same kept.none) (says_same w kept x (moved_on x k position) refl refl (λ name j h. h) bo.says) seen (onward_same w kept x.given (stays_onward w x.given))
          (fits_same w kept bo.fits);
      stays = λ idle. absurd (some (mid_now idle));
    }

    asks_for : (request : Request) → ks ≡ [] → v.stop ≢ 0 → Kept w v sw → IsAt p a.script a.mid (HasLeft (Wants request)) → HasSeen v x.given a.mid → ¬ (a.mid ≡ Idle) →
        TakesTurn p x k [] (asking x k request) → HasTaken p lay g b order x k v (put actors k a)
    asks_for request e set kept here seen some takes = record {
      said = [];
      board = asking x k request;
      takes = takes;
      boarded = boarded [] (asking x k request) (no_more e) (same_all e).0 (same_all e).1
          (subst (IsAt p a.script a.mid) (sym (put-same x.position k (HasLeft (Wants request)))) here)
          (λ j n. put-other x.position k (HasLeft (Wants request)) j n)
          (λ z. set) (λ z. cc)
          (owed_same kept.none) (says_same w kept x (asking x k request) refl refl (λ name j h. h) bo.says) seen (onward_same w kept x.given (stays_onward w x.given))
          (fits_same w kept bo.fits);
      stays = λ idle. absurd (some (mid_now idle));
    }

    seen_at : (given : ℕ → Option ℕ) (m : Mid) → HasSeen v given m → a.mid ≡ m → HasSeen v given a.mid
    seen_at given m h e = subst (HasSeen v given) (sym e) h

    -- one statement is done
    more : ks ≡ k ∷ [] → OneMore p x.graph x.book k behind.rest one.graph one.book
    more e = one_by p x.graph x.book k behind.rest one.graph one.book (by_rest ∙ e) explains

    still_in_block : (said : Said) (h : Graph) (c : Book) → Turn p x.graph x.book said h c → (name j : ℕ) → IsInBlock p x.book name j → IsInBlock p c name j
    still_in_block said h c turn name j in_block =
        let keep = keeps p x.graph x.book said h c turn in
        let l = given name in_block.stands in
        let address : c.address name ≡ x.book.address name = keep.address name l in
        record {
          some = in_block.some;
          stands = keep.stands name l ∙ in_block.stands;
          old = keep.section name l ∙ in_block.old;
          above = let q = in_block.above in omega arith;
          below = let q = in_block.below in omega arith;
        }

    goes_to : (m : Mid) (position : Position) → IsAt p a.script m position → a.mid ≡ m → IsAt p a.script a.mid position
    goes_to m position h e = subst (λ (n : Mid). IsAt p a.script n position) (sym e) h

    done : (s : Statement) (rest : List Statement) → (actors k).mid ≡ Idle → (actors k).script ≡ s ∷ rest → w.stop ≡ 0 →
        (IsMaking s → (actors k).from + made_words p s ≤ (actors k).to) → ¬ IsMature s → ks ≡ k ∷ [] → a.mid ≡ Idle → v.stop ≡ w.stop → Kept w v sw →
        HasTaken p lay g b order x k v (put actors k a)
    done s rest idle script stop room immature e m same kept =
        let o = more e in
        let r = reads idle in
        record {
          said = o.said ∷ [];
          board = record x { graph = o.graph; book = o.book };
          takes = Does s rest o.said o.graph o.book (between idle) (r.script_is ∙ script) (quiet_board stop)
              (λ (n : Searches p x.book k s). let l = room n.makes in let q = n.short in let y = r.from_is in let z = r.to_is in omega arith)
              immature o.by o.turn;
          boarded = boarded (o.said ∷ []) (record x { graph = o.graph; book = o.book }) o.rest_is o.graph_is o.book_is
              (subst (IsAt p a.script a.mid) (sym (between idle)) (goes_to Idle Between tt m))
              (λ j n. refl) (still_asked same) (still_going same)
              (owed_same kept.none)
              (says_same w kept x (record x { graph = o.graph; book = o.book }) refl refl (still_in_block o.said o.graph o.book o.turn) bo.says)
              (seen_at x.given Idle tt m) (onward_same w kept x.given (stays_onward w x.given)) (fits_same w kept bo.fits);
          stays = λ e. between idle;
        }

    won : (s : Statement) (f seen : ℕ) → (actors k).mid ≡ Claim s f seen → w.next f ≡ byte_at seen → ks ≡ k ∷ [] → a.mid ≡ Idle → v.stop ≡ w.stop → Kept w v sw →
        HasTaken p lay g b order x k v (put actors k a)
    won s f seen mid saw e m same kept =
        let o = more e in
        record {
          said = o.said ∷ [];
          board = record x { graph = o.graph; book = o.book; position = put x.position k Between };
          takes = Claims f seen o.said o.graph o.book (claiming s f seen mid) (let l = are.nexts f (prepared s f seen mid).there in omega arith) o.by o.turn;
          boarded = boarded (o.said ∷ []) (record x { graph = o.graph; book = o.book; position = put x.position k Between }) o.rest_is o.graph_is o.book_is
              (subst (IsAt p a.script a.mid) (sym (put-same x.position k Between)) (goes_to Idle Between tt m))
              (λ j n. put-other x.position k Between j n) (still_asked same) (still_going same)
              (owed_same kept.none)
              (says_same w kept x (record x { graph = o.graph; book = o.book; position = put x.position k Between }) refl refl
              (still_in_block o.said o.graph o.book o.turn) bo.says)
              (seen_at x.given Idle tt m) (onward_same w kept x.given (stays_onward w x.given)) (fits_same w kept bo.fits);
          stays = λ e. put-same x.position k Between;
        }

    looks : (s : Statement) (rest : List Statement) → (actors k).mid ≡ Idle → (actors k).script ≡ s ∷ rest → w.stop ≡ 0 → IsMaking s →
        (actors k).to < (actors k).from + made_words p s → ks ≡ [] → Searched p lay w s 0 a.mid v → Kept w v sw → HasTaken p lay g b order x k v (put actors k a)
    looks s rest idle script stop makes short e (inl (j, next, finds, m, same)) kept =
        let r = reads idle in
        let n = made_words p s in
        let low = found p lay w x.book are n 0 j next finds in
        moves (Claiming j (x.book.next j)) e same kept (goes_to (Claim s j next) (Claiming j (x.book.next j)) (refl, low.1) m) (seen_at x.given (Claim s j next) tt m) (claims_none s j next m)
        (Prepares s rest j (between idle) (r.script_is ∙ script) (quiet_board stop)
        (record { makes = makes; short = let y = r.from_is in let z = r.to_is in omega arith }) low.0)
    looks s rest idle script stop makes short e (inr (nowhere, m, set)) kept =
        let r = reads idle in
        let n = made_words p s in
        asks_for (Needs_words n) e set kept (goes_to (Left s) (HasLeft (Wants (Needs_words n))) (request_of p s makes) m) (seen_at x.given (Left s) tt m) (leaves_none s m)
        (Needs s rest (between idle) (r.script_is ∙ script) (quiet_board stop)
        (record { makes = makes; short = let y = r.from_is in let z = r.to_is in omega arith }) (none p lay w x.book are n 0 nowhere))

    again : (s : Statement) (f seen : ℕ) → (actors k).mid ≡ Claim s f seen → w.next f ≢ byte_at seen → ks ≡ [] → Searched p lay w s f a.mid v → Kept w v sw →
        HasTaken p lay g b order x k v (put actors k a)
    again s f seen mid differs e searched kept = go searched
      where
        prep : HasPrepared p x.graph x.book k (actors k) s f seen
        prep = prepared s f seen mid

        moved : x.book.next f ≢ seen
        moved z = differs (are.nexts f prep.there ∙ ap byte_at z)

        go : Searched p lay w s f a.mid v → HasTaken p lay g b order x k v (put actors k a)
        go (inl (j, next, finds, m, same)) =
            let low = found p lay w x.book are (made_words p s) f j next finds in
            moves (Claiming j (x.book.next j)) e same kept (goes_to (Claim s j next) (Claiming j (x.book.next j)) (refl, low.1) m) (seen_at x.given (Claim s j next) tt m) (claims_none s j next m)
            (LooksAgain s (actors k).script f seen j (claiming s f seen mid) moved prep.script low.0)
        go (inr (nowhere, m, set)) =
            asks_for (Needs_words (made_words p s)) e set kept (goes_to (Left s) (HasLeft (Wants (Needs_words (made_words p s)))) (request_of p s prep.makes) m)
            (seen_at x.given (Left s) tt m) (leaves_none s m)
            (FindsNone s (actors k).script f seen (claiming s f seen mid) moved prep.script (none p lay w x.book are (made_words p s) f nowhere))

    -- a search for a slot goes on from these words, with which this board agrees, and which differ from those before by blocks at most
    module _ (y : Board) (u : Words) (ag : Agrees p lay y u) (graph : y.graph ≡ x.graph) (book : y.book ≡ x.book) (position : y.position ≡ x.position)
        (stopping : y.stopping ≡ x.stopping) (owed : y.owed ≡ x.owed) (stop : u.stop ≡ w.stop) (on : Onward w u x.given y.given)
        (fits : OccupiesSlots p u) (kept : Kept u v sw) (none_said : ks ≡ []) (s : Statement) (mature : IsMature s) where
      -- with a position, or with leaving
      to_position : (q : Position) (m : Mid) → a.mid ≡ m → IsAt p a.script m q → ¬ (m ≡ Idle) → HasSeen u y.given a.mid → v.stop ≡ u.stop →
          TakesTurn p x k [] (moved_on y k q) → HasTaken p lay g b order x k v (put actors k a)
      to_position q m e here some seen halts takes = record {
        said = [];
        board = moved_on y k q;
        takes = takes;
        boarded = boarded [] (moved_on y k q) (no_more none_said) ((same_all none_said).0 ∙ sym graph) ((same_all none_said).1 ∙ sym book)
            (subst (IsAt p a.script a.mid) (sym (put-same y.position k q)) (goes_to m q here e))
            (λ j n. put-other y.position k q j n ∙ ap (λ (f : ℕ → Position). f j) position)
            (λ z. still_asked (halts ∙ stop) (sym stopping ∙ z)) (λ z. still_going (halts ∙ stop) (sym stopping ∙ z))
            (owed ∙ owed_same kept.none) (says_same u kept y (moved_on y k q) refl refl (λ name j h. h) ag.says)
            (seen_on u v y.given y.given a.mid (same_onward u u v y.given y.given kept.block (stays_onward u y.given)) seen)
            (onward_same u kept y.given on) (fits_same u kept fits);
        stays = λ idle. absurd (some (sym e ∙ mid_now idle));
      }

      to_leave : a.mid ≡ Left s → v.stop ≢ 0 → TakesTurn p x k [] (asking y k (Slot (made_slot p s))) → HasTaken p lay g b order x k v (put actors k a)
      to_leave e set takes = record {
        said = [];
        board = asking y k (Slot (made_slot p s));
        takes = takes;
        boarded = boarded [] (asking y k (Slot (made_slot p s))) (no_more none_said) ((same_all none_said).0 ∙ sym graph) ((same_all none_said).1 ∙ sym book)
            (subst (IsAt p a.script a.mid) (sym (put-same y.position k (HasLeft (Wants (Slot (made_slot p s))))))
            (goes_to (Left s) (HasLeft (Wants (Slot (made_slot p s)))) (slot_request_of p s mature) e))
            (λ j n. put-other y.position k (HasLeft (Wants (Slot (made_slot p s)))) j n ∙ ap (λ (f : ℕ → Position). f j) position)
            (λ z. set) (λ z. cc)
            (owed ∙ owed_same kept.none) (says_same u kept y (asking y k (Slot (made_slot p s))) refl refl (λ name j h. h) ag.says)
            (seen_at y.given (Left s) tt e) (onward_same u kept y.given on) (fits_same u kept fits);
        stays = λ idle. absurd (leaves_none s e (mid_now idle));
      }

      to_found : (found : Option Position) → IsMidOf s a.mid found → HasSeen u y.given a.mid → HaltsBy u v found →
          TakesTurn p x k [] (stopped_at y k (made_slot p s) found) → HasTaken p lay g b order x k v (put actors k a)
      to_found (Some (OpeningBlock j)) e seen halts takes =
          to_position (OpeningBlock j) (TakeBlock s j) e refl (λ z. let q : TakeBlock s j ≡ Idle = z in cc q) seen halts takes
      to_found (Some (TakingSlot j i)) e seen halts takes =
          to_position (TakingSlot j i) (TakeSlot s j i) e (refl, refl) (λ z. let q : TakeSlot s j i ≡ Idle = z in cc q) seen halts takes
      to_found (Some (TakingOver j)) e seen halts takes =
          to_position (TakingOver j) (TakeOver (Search s) j e.0) e.1 refl (λ z. let q : TakeOver (Search s) j e.0 ≡ Idle = z in cc q) seen halts takes
      to_found None e seen halts takes = to_leave e halts takes
      to_found (Some position) e seen halts takes = absurd e

      searches_from : (c : ℕ) → SearchedBlocks p u s c a.mid v →
          ((found : Option Position) → SearchesFrom p y (made_slot p s) c found → TakesTurn p x k [] (stopped_at y k (made_slot p s) found)) →
          HasTaken p lay g b order x k v (put actors k a)
      searches_from c searched takes =
          let st = stopped p lay y u ag s c a.mid v searched in to_found st.found st.is st.seen st.halts (takes st.found st.searches)

    -- the same with the words and the board before
    searches_on : Kept w v sw → ks ≡ [] → (s : Statement) → IsMature s → (c : ℕ) → SearchedBlocks p w s c a.mid v →
        ((found : Option Position) → SearchesFrom p x (made_slot p s) c found → TakesTurn p x k [] (stopped_at x k (made_slot p s) found)) →
        HasTaken p lay g b order x k v (put actors k a)
    searches_on kept e s mature c searched takes =
        searches_from x w agrees refl refl refl refl refl refl (stays_onward w x.given) bo.fits kept e s mature c searched takes

    seeks : (s : Statement) → Seeks s (actors k).mid → IsSeeking x.graph k (actors k) s
    seeks s h = blocks.seeking k s h

    matures : (s : Statement) (rest : List Statement) → (actors k).mid ≡ Idle → (actors k).script ≡ s ∷ rest → w.stop ≡ 0 → IsMature s → ks ≡ [] →
        SearchedBlocks p w s 0 a.mid v → Kept w v sw → HasTaken p lay g b order x k v (put actors k a)
    matures s rest idle script stop mature e searched kept =
        let r = reads idle in
        searches_on kept e s mature 0 searched
        (λ found searches. MaturesNow s rest found (between idle) (r.script_is ∙ script) (quiet_board stop) mature searches)

    goes_on_at : (s : Statement) (c : ℕ) (seeking : IsSeeking x.graph k (actors k) s) → SearchesOnAt p x (made_slot p s) (x.position k) c →
        c < p.config.blocks → (c < p.config.blocks → (ks ≡ []) × SearchedBlocks p w s c a.mid v) → Kept w v sw → HasTaken p lay g b order x k v (put actors k a)
    goes_on_at s c seeking at there searched kept =
        let h = searched there in
        searches_on kept h.0 s seeking.makes c h.1 (λ found searches. SearchesOn s (actors k).script c found seeking.script at searches)

    behind_sweep : (s : Statement) (c : ℕ) → (actors k).mid ≡ SeeBlock (Search s) true c → (c < p.config.blocks → (ks ≡ []) × SearchedBlocks p w s c a.mid v) →
        Kept w v sw → HasTaken p lay g b order x k v (put actors k a)
    behind_sweep s c mid searched kept =
        goes_on_at s c (seeks s (subst (Seeks s) (sym mid) refl))
        (subst (λ (q : Position). SearchesOnAt p x (made_slot p s) q c) (sym (at_behind p (actors k).script (actors k).mid (x.position k) s c (bo.at k) mid)) refl)
        ((known (SeeBlock (Search s) true c) mid).1 tt) searched kept

    not_need : (c : ℕ) (state : BlockWord) → ((z : ℕ) → state ≡ Need z → ⊥) → SaysOf p x c state → x.owed c ≡ false
    not_need c Free none says = says.0
    not_need c (Swept z) none says = says.0
    not_need c (Need z) none says = absurd (none z refl)
    not_need c (Sweeping z) none says = says.0

    lost_sweep : (s : Statement) (c z : ℕ) → (actors k).mid ≡ TakeOver (Search s) c z → w.block c ≢ Need z →
        (c < p.config.blocks → (ks ≡ []) × SearchedBlocks p w s c a.mid v) → Kept w v sw → HasTaken p lay g b order x k v (put actors k a)
    lost_sweep s c z mid differs searched kept =
        let there = (known (TakeOver (Search s) c z) mid).1 in
        let seen = subst (HasSeen w x.given) mid (bo.seen k) in
        goes_on_at s c (seeks s (subst (Seeks s) (sym mid) refl))
        (subst (λ (q : Position). SearchesOnAt p x (made_slot p s) q c)
        (sym (at_taking_over p (actors k).script (actors k).mid (x.position k) s c z (bo.at k) mid))
        (refl, not_need c (w.block c) (λ size e. differs (e ∙ ap Need (seen size e))) (bo.says c there))) there searched kept

    given_away : (c : ℕ) → w.block c ≢ Free → (w.block c ≡ Free) ⊎ ((z : ℕ) × (w.block c ≡ Swept z) × (x.given c ≡ Some z)) → (z : ℕ) × (x.given c ≡ Some z)
    given_away c differs (inl e) = absurd (differs e)
    given_away c differs (inr e) = (e.0, e.2)

    lost_block : (s : Statement) (c : ℕ) → (actors k).mid ≡ TakeBlock s c → w.block c ≢ Free →
        (c < p.config.blocks → (ks ≡ []) × SearchedBlocks p w s c a.mid v) → Kept w v sw → HasTaken p lay g b order x k v (put actors k a)
    lost_block s c mid differs searched kept =
        goes_on_at s c (seeks s (subst (Seeks s) (sym mid) refl))
        (subst (λ (q : Position). SearchesOnAt p x (made_slot p s) q c) (sym (at_opening p (actors k).script (actors k).mid (x.position k) s c (bo.at k) mid))
        (refl, given_away c differs (subst (HasSeen w x.given) mid (bo.seen k))))
        (known (TakeBlock s c) mid).1 searched kept

    lost_slot : (s : Statement) (c i : ℕ) → (actors k).mid ≡ TakeSlot s c i → bit_at (w.used c) i ≡ 1 →
        (c < p.config.blocks → (ks ≡ []) × SearchedBlocks p (claimed w c i) s c a.mid v) → Kept (claimed w c i) v sw → HasTaken p lay g b order x k v (put actors k a)
    lost_slot s c i mid set searched kept =
        let kn = known (TakeSlot s c i) mid in
        goes_on_at s c (seeks s (subst (Seeks s) (sym mid) refl))
        (subst (λ (q : Position). SearchesOnAt p x (made_slot p s) q c) (sym (at_slot p (actors k).script (actors k).mid (x.position k) s c i (bo.at k) mid))
        (refl, filled p lay x w agrees c (made_slot p s) i kn.1 kn.2 kn.3 set)) kn.1
        (subst (λ (u : Words). c < p.config.blocks → (ks ≡ []) × SearchedBlocks p u s c a.mid v) same searched) (subst (λ (u : Words). Kept u v sw) same kept)
      where
        used_at : (d : ℕ) → put w.used c (bit_or (w.used c) (2 ^ i)) d ≡ w.used d
        used_at d = elim (cases_eq d c) [
          | inl e ↦ put-at w.used c (bit_or (w.used c) (2 ^ i)) d e ∙ bit_again (w.used c) i set ∙ ap w.used (sym e)
          | inr n ↦ put-other w.used c (bit_or (w.used c) (2 ^ i)) d n
        ]

        used_same : put w.used c (bit_or (w.used c) (2 ^ i)) ≡ w.used
        used_same = λ q d. used_at d q

        same : claimed w c i ≡ w
        same = ap (λ (used : ℕ → ℕ). record w { used = used }) used_same

    won_slot : (s : Statement) (c i found : ℕ) → (actors k).mid ≡ TakeSlot s c i → run.first ≡ OnBlock (OrUsed c i found) → run.decides ≡ true → ks ≡ k ∷ [] →
        a.mid ≡ Idle → v.stop ≡ w.stop → Kept (claimed w c i) v sw → HasTaken p lay g b order x k v (put actors k a)
    won_slot s c i found mid step decides e m same kept =
        let o = more e in
        let kn = known (TakeSlot s c i) mid in
        let seeking = seeks s (subst (Seeks s) (sym mid) refl) in
        let made = old_made_by p x.graph x.book o.said o.graph o.book o.turn s (actors k).script
        (subst (λ j. (x.graph.mutator j).script ≡ s ∷ (actors k).script) (sym o.by) seeking.script) seeking.makes in
        record {
          said = o.said ∷ [];
          board = record x { graph = o.graph; book = o.book; position = put x.position k Between };
          takes = ClaimsSlot s (actors k).script c i made.0 o.said o.graph o.book seeking.script
              (at_slot p (actors k).script (actors k).mid (x.position k) s c i (bo.at k) mid) o.by made.1
              (in_place (subst (λ (d : Book). IsClaimedBy p w run.first d made.0) o.book_is (claim_is e decides made.0
              (subst (λ (d : Book). IsNewOld x.graph.count d made.0) (sym o.book_is) made.2))))
              o.turn;
          boarded = boarded (o.said ∷ []) (record x { graph = o.graph; book = o.book; position = put x.position k Between }) o.rest_is o.graph_is o.book_is
              (subst (IsAt p a.script a.mid) (sym (put-same x.position k Between)) (goes_to Idle Between tt m))
              (λ j n. put-other x.position k Between j n) (still_asked same) (still_going same)
              (owed_same kept.none)
              (says_same (claimed w c i) kept x (record x { graph = o.graph; book = o.book; position = put x.position k Between }) refl refl
              (still_in_block o.said o.graph o.book o.turn) bo.says)
              (seen_at x.given Idle tt m) (onward_same (claimed w c i) kept x.given (record {
                past = λ d h. h;
                need = λ d z q. q;
                free = λ d q. inl q;
                swept = λ d z q h. (q, h);
              }))
              (fits_same (claimed w c i) kept (λ d z j l q set. fits_claimed d z j l q set kn.2 kn.3));
          stays = λ e. put-same x.position k Between;
        }
      where
        fits_claimed : (d z j : ℕ) → d < p.config.blocks → w.block d ≡ Swept z → bit_at (put w.used c (bit_or (w.used c) (2 ^ i)) d) j ≡ 1 →
            w.block c ≡ Swept (made_slot p s) → i < slots (made_slot p s) → j < slots z
        fits_claimed d z j l q set fitting fits = elim (cases_eq d c) [
          | inl e ↦
              let size : z ≡ made_slot p s = (let f : Swept z ≡ Swept (made_slot p s) = sym q ∙ ap w.block e ∙ fitting in cc f) in
              let here = subst (λ u. bit_at u j ≡ 1) (put-at w.used c (bit_or (w.used c) (2 ^ i)) d e) set in
              elim (cases_eq j i) [
                | inl r ↦ subst (λ y. j < slots y) (sym size) (subst (λ y. y < slots (made_slot p s)) (sym r) fits)
                | inr n ↦ bo.fits d z j l q (ap (λ y. bit_at (w.used y) j) e ∙ sym (bit_same (w.used c) i j n) ∙ here)
              ]
          | inr n ↦ bo.fits d z j l q (subst (λ u. bit_at u j ≡ 1) (put-other w.used c (bit_or (w.used c) (2 ^ i)) d n) set)
        ]

        others : ks ≡ k ∷ [] → run.decides ≡ true → order_of (by_one k run.more) ≡ []
        others one_said decides =
            let all : cond run.decides (k ∷ order_of (by_one k run.more)) (order_of (by_one k run.more)) ≡ k ∷ [] =
            ap (λ ts. order_of (by_one k ts)) (sym run.ticks_are) ∙ one_said in
            let these : k ∷ order_of (by_one k run.more) ≡ k ∷ [] = sym (cond-true _ _ _ decides) ∙ all in
            cc these

        claim_is : ks ≡ k ∷ [] → run.decides ≡ true → (name : ℕ) → IsNewOld x.graph.count one.book name → IsClaimedBy p w run.first one.book name
        claim_is one_said decides name new =
            subst (λ (u : Words). IsClaimedBy p u run.first one.book name) bo.so.is
            (claimed_by p lay answers (record { by = k; tick = record { step = run.first; decides = run.decides } }) (by_one k run.more)
            (after bo.so.opened (ticks bo.so.events)) by x.graph x.book behind.rest one.graph one.book
            (subst (λ ts. Runs p lay (after bo.so.opened (ticks bo.so.events)) by x.graph x.book (by_one k ts) behind.rest one.graph one.book) run.ticks_are behind.runs)
            decides (others one_said decides) name new)

        in_place : {d : Book} {name : ℕ} → IsClaimedBy p w run.first d name → d.address name ≡ slot_at p c (made_slot p s) i
        in_place {d} {name} claim =
            let steps : OnBlock (OrUsed claim.block claim.slot claim.found) ≡ OnBlock (OrUsed c i found) = sym claim.claims ∙ step in
            let block : claim.block ≡ c = cc steps in
            let slot : claim.slot ≡ i = cc steps in
            let kn = known (TakeSlot s c i) mid in
            let words : Swept claim.size ≡ Swept (made_slot p s) = sym claim.word ∙ ap w.block block ∙ kn.2 in
            let size : claim.size ≡ made_slot p s = cc words in
            claim.at ∙ ap (λ j. slot_at p j claim.size claim.slot) block ∙ ap (λ z. slot_at p c z claim.slot) size ∙ ap (λ j. slot_at p c (made_slot p s) j) slot

    won_block : (s : Statement) (c : ℕ) → (actors k).mid ≡ TakeBlock s c → w.block c ≡ Free →
        (c < p.config.blocks → (ks ≡ []) × SearchedBlocks p (opened p w s c) s c a.mid v) → Kept (opened p w s c) v sw →
        HasTaken p lay g b order x k v (put actors k a)
    won_block s c mid saw searched kept =
        let there = (known (TakeBlock s c) mid).1 in
        let h = searched there in
        let seeking = seeks s (subst (Seeks s) (sym mid) refl) in
        let says : SaysOf p x c Free = subst (SaysOf p x c) saw (bo.says c there) in
        searches_from (giving x c (made_slot p s)) (opened p w s c) (agrees_opened says) refl refl refl refl refl refl onward fits kept h.0 s seeking.makes c h.1
        (λ found searches. Opens s (actors k).script c found seeking.script
        (at_opening p (actors k).script (actors k).mid (x.position k) s c (bo.at k) mid) says.1 searches)
      where
        other : (d : ℕ) → d ≢ c → put w.block c (Swept (made_slot p s)) d ≡ w.block d
        other d n = put-other w.block c (Swept (made_slot p s)) d n

        agrees_opened : SaysOf p x c Free → Agrees p lay (giving x c (made_slot p s)) (opened p w s c)
        agrees_opened says = record {
          word = w.word;
          owner = blocks.owner;
          blocks = blocks_go.block_opens p lay.marks w.used w.word x.graph.size x.book.address w.block x.book.stands x.book.owed x.book.section blocks.owner c (made_slot p s)
              blocks.blocks saw (slot_size-class (made_words p s));
          says = λ j l. elim (cases_eq j c) [
            | inl e ↦ subst (SaysOf p (giving x c (made_slot p s)) j) (sym (put-at w.block c (Swept (made_slot p s)) j e))
                (ap x.owed e ∙ says.0, inl (put-at x.given c (Some (made_slot p s)) j e))
            | inr n ↦ subst (SaysOf p (giving x c (made_slot p s)) j) (sym (other j n))
                (says_on p x (giving x c (made_slot p s)) j (w.block j) refl (put-other x.given c (Some (made_slot p s)) j n) (λ name q. q) (bo.says j l))
          ];
          sweeper = λ j being.
              let at = being_swept j being in
              (at.0, other j (λ e. let f : Free ≡ Sweeping at.0 = sym saw ∙ ap w.block (sym e) ∙ at.1 in cc f) ∙ at.1);
          swept = λ j y l e. elim (cases_eq j c) [
            | inl q ↦ absurd (let f : Swept (made_slot p s) ≡ Sweeping y = sym (put-at w.block c (Swept (made_slot p s)) j q) ∙ e in cc f)
            | inr n ↦ agrees.swept j y l (sym (other j n) ∙ e)
          ];
          housed = λ d name q l of from to. elim (cases_eq d c) [
            | inl e ↦ absurd (subst (λ (state : BlockWord). IsOf state (blocks.housed d name q l of from to).size) (ap w.block e ∙ saw) (blocks.housed d name q l of from to).of)
            | inr n ↦ subst (λ (state : BlockWord). IsHoused p lay state (w.used d) d q) (sym (other d n)) (blocks.housed d name q l of from to)
          ];
        }

        onward : Onward w (opened p w s c) x.given (giving x c (made_slot p s)).given
        onward = record {
          past = λ d h. past_put w.block c (Swept (made_slot p s)) tt d h;
          need = λ d y q. need_put w.block c (Swept (made_slot p s)) tt d y q;
          free = λ d q. elim (cases_eq d c) [
            | inl e ↦ inr (made_slot p s, put-at w.block c (Swept (made_slot p s)) d e, put-at x.given c (Some (made_slot p s)) d e)
            | inr n ↦ inl (other d n ∙ q)
          ];
          swept = λ d y q h. elim (cases_eq d c) [
            | inl e ↦ absurd (let f : Free ≡ Swept y = sym saw ∙ ap w.block (sym e) ∙ q in cc f)
            | inr n ↦ (other d n ∙ q, put-other x.given c (Some (made_slot p s)) d n ∙ h)
          ];
        }

        fits : OccupiesSlots p (opened p w s c)
        fits d y i l q set = elim (cases_eq d c) [
          | inl e ↦ absurd (one_zero (bit_at (w.used d) i) set
              (ap (λ u. bit_at u i) ((blocks.blocks.each d l).bare (ap w.block e ∙ saw)) ∙ bit_at-zero i))
          | inr n ↦ bo.fits d y i l (sym (other d n) ∙ q) set
        ]

    won_sweep : (s : Statement) (c z : ℕ) (more : List ℕ) → (actors k).mid ≡ TakeOver (Search s) c z → w.block c ≡ Need z → ks ≡ [] →
        a.mid ≡ StoreOccupancy (Search s) c z → v.stop ≡ w.stop → sw ≡ c ∷ more → Kept (owned w c z) v more → HasTaken p lay g b order x k v (put actors k a)
    won_sweep s c z more mid saw e m same swept kept =
        let there = (known (TakeOver (Search s) c z) mid).1 in
        let says : SaysOf p x c (Need z) = subst (SaysOf p x c) saw (bo.says c there) in
        record {
          said = [];
          board = record x { owed = put x.owed c false; position = put x.position k (SweepingBlock c) };
          takes = TakesOver c (at_taking_over p (actors k).script (actors k).mid (x.position k) s c z (bo.at k) mid) says.0;
          boarded = boarded [] (record x { owed = put x.owed c false; position = put x.position k (SweepingBlock c) }) (no_more e) (same_all e).0 (same_all e).1
              (subst (IsAt p a.script a.mid) (sym (put-same x.position k (SweepingBlock c))) (goes_to (StoreOccupancy (Search s) c z) (SweepingBlock c) refl m))
              (λ j n. put-other x.position k (SweepingBlock c) j n) (still_asked same) (still_going same)
              (owed_less c (swept ∙ ap (λ ss. c ∷ ss) kept.none)) (says_now says.1)
              (seen_at x.given (StoreOccupancy (Search s) c z) tt m)
              (same_onward w (owned w c z) v x.given x.given kept.block onward) fits_now;
          stays = λ idle. absurd (let f : StoreOccupancy (Search s) c z ≡ Idle = sym m ∙ mid_now idle in cc f);
        }
      where
        other : (d : ℕ) → d ≢ c → v.block d ≡ w.block d
        other d n = ap (λ (f : ℕ → BlockWord). f d) kept.block ∙ put-other w.block c (Sweeping z) d n

        here : (d : ℕ) → d ≡ c → v.block d ≡ Sweeping z
        here d e = ap (λ (f : ℕ → BlockWord). f d) kept.block ∙ put-at w.block c (Sweeping z) d e

        says_now : x.given c ≡ None → (j : ℕ) → j < p.config.blocks →
            SaysOf p (record x { owed = put x.owed c false; position = put x.position k (SweepingBlock c) }) j (v.block j)
        says_now none j l = elim (cases_eq j c) [
          | inl e ↦ subst (SaysOf p (record x { owed = put x.owed c false; position = put x.position k (SweepingBlock c) }) j) (sym (here j e))
              (put-at x.owed c false j e, ap x.given e ∙ none)
          | inr n ↦ subst (SaysOf p (record x { owed = put x.owed c false; position = put x.position k (SweepingBlock c) }) j) (sym (other j n))
              (says_on p x (record x { owed = put x.owed c false; position = put x.position k (SweepingBlock c) }) j (w.block j)
              (put-other x.owed c false j n) refl (λ name q. q) (bo.says j l))
        ]

        onward : Onward w (owned w c z) x.given x.given
        onward = record {
          past = λ d h. past_put w.block c (Sweeping z) tt d h;
          need = λ d y q. need_put w.block c (Sweeping z) tt d y q;
          free = λ d q. elim (cases_eq d c) [
            | inl r ↦ absurd (let f : Need z ≡ Free = sym saw ∙ ap w.block (sym r) ∙ q in cc f)
            | inr n ↦ inl (put-other w.block c (Sweeping z) d n ∙ q)
          ];
          swept = λ d y q h. elim (cases_eq d c) [
            | inl r ↦ absurd (let f : Need z ≡ Swept y = sym saw ∙ ap w.block (sym r) ∙ q in cc f)
            | inr n ↦ (put-other w.block c (Sweeping z) d n ∙ q, h)
          ];
        }

        fits_now : OccupiesSlots p v
        fits_now d y i l q set = elim (cases_eq d c) [
          | inl r ↦ absurd (let f : Sweeping z ≡ Swept y = sym (here d r) ∙ q in cc f)
          | inr n ↦ bo.fits d y i l (sym (other d n) ∙ q) (ap (λ (f : ℕ → ℕ). bit_at (f d) i) (sym kept.used) ∙ set)
        ]

    sweeps_one : (s : Statement) (c z : ℕ) → (actors k).mid ≡ StoreOccupancy (Search s) c z → ks ≡ [] → a.mid ≡ SeeBlock (Search s) true c → v.stop ≡ w.stop →
        v.block ≡ put w.block c (swept_word (Need z) (lay.marks c)) → v.used ≡ put w.used c (lay.marks c) → sw ≡ [] →
        HasTaken p lay g b order x k v (put actors k a)
    sweeps_one s c z mid e m same block used none =
        let sweeps = (known (StoreOccupancy (Search s) c z) mid).1 in
        let says : SaysOf p x c (Sweeping z) = subst (SaysOf p x c) sweeps.word (bo.says c sweeps.there) in
        record {
          said = [];
          board = moved_on x k (BehindSweep c);
          takes = Sweeps c (at_sweeping p (actors k).script (actors k).mid (x.position k) s c z (bo.at k) mid);
          boarded = boarded [] (moved_on x k (BehindSweep c)) (no_more e) (same_all e).0 (same_all e).1
              (subst (IsAt p a.script a.mid) (sym (put-same x.position k (BehindSweep c))) (goes_to (SeeBlock (Search s) true c) (BehindSweep c) refl m))
              (λ j n. put-other x.position k (BehindSweep c) j n) (still_asked same) (still_going same)
              (owed_same none) (says_now says sweeps.there sweeps.word)
              (seen_at x.given (SeeBlock (Search s) true c) (subst IsPast (sym (here c refl)) (swept_past z (lay.marks c))) m)
              (onward sweeps.word) (fits_now sweeps.word);
          stays = λ idle. absurd (let f : SeeBlock (Search s) true c ≡ Idle = sym m ∙ mid_now idle in cc f);
        }
      where
        other : (d : ℕ) → d ≢ c → v.block d ≡ w.block d
        other d n = ap (λ (f : ℕ → BlockWord). f d) block ∙ put-other w.block c (swept_word (Need z) (lay.marks c)) d n

        here : (d : ℕ) → d ≡ c → v.block d ≡ swept_word (Need z) (lay.marks c)
        here d r = ap (λ (f : ℕ → BlockWord). f d) block ∙ put-at w.block c (swept_word (Need z) (lay.marks c)) d r

        object : c < p.config.blocks → w.block c ≡ Sweeping z → lay.marks c ≢ 0 → (name : ℕ) × IsInBlock p x.book name c
        object l word some =
            let bit = bit_by (lay.marks c) (lay.marks c) (le_refl (lay.marks c)) some in
            let owing = subst (λ (state : BlockWord). IsOwing state z) (sym word) refl in
            let each = blocks.blocks.each c l in
            let fits = (each.kept z bit.0 owing bit.1).0 in
            let old = each.filled z bit.0 (subst (λ (state : BlockWord). IsOf state z) (sym word) refl) fits
            (subst (λ (state : BlockWord). is_taken state (w.used c) (lay.marks c) bit.0 ≡ 1) (sym word) bit.1) in
            let class = blocks.blocks.sized c z l (subst (λ (state : BlockWord). IsOf state z) (sym word) refl) in
            let bounds = class_bounds z class in
            let at = old.1.at in
            let within = slot_in (nursery_end p) c z bit.0 (x.book.address old.0) fits (omega arith) (omega arith) in
            (old.0, record { some = old.1.some; stands = old.1.standing; old = old.1.old; above = within.0; below = within.1 })

        says_word : SaysOf p x c (Sweeping z) → c < p.config.blocks → w.block c ≡ Sweeping z → SaysOf p x c (swept_word (Need z) (lay.marks c))
        says_word says l word = elim (cases_eq (lay.marks c) 0) [
          | inl r ↦ subst (SaysOf p x c) (sym (cond-true _ Free (Swept z) (eq-eqb (lay.marks c) 0 r))) says
          | inr n ↦ subst (SaysOf p x c) (sym (cond-false _ Free (Swept z) (ne_eqb (lay.marks c) 0 n))) (says.0, inr (says.1, object l word n))
        ]

        says_now : SaysOf p x c (Sweeping z) → c < p.config.blocks → w.block c ≡ Sweeping z → (j : ℕ) → j < p.config.blocks →
            SaysOf p (moved_on x k (BehindSweep c)) j (v.block j)
        says_now says l word j below = elim (cases_eq j c) [
          | inl r ↦ says_on p x (moved_on x k (BehindSweep c)) j (v.block j) refl refl (λ name q. q)
              (subst (SaysOf p x j) (sym (here j r)) (subst (λ d. SaysOf p x d (swept_word (Need z) (lay.marks c))) (sym r) (says_word says l word)))
          | inr n ↦ says_on p x (moved_on x k (BehindSweep c)) j (v.block j) refl refl (λ name q. q) (subst (SaysOf p x j) (sym (other j n)) (bo.says j below))
        ]

        onward : w.block c ≡ Sweeping z → Onward w v x.given x.given
        onward word = same_onward w (record w { block = put w.block c (swept_word (Need z) (lay.marks c)) }) v x.given x.given block (record {
          past = λ d h. past_put w.block c (swept_word (Need z) (lay.marks c)) (swept_past z (lay.marks c)) d h;
          need = λ d y q. need_put w.block c (swept_word (Need z) (lay.marks c)) (swept_past z (lay.marks c)) d y q;
          free = λ d q. elim (cases_eq d c) [
            | inl r ↦ absurd (let f : Sweeping z ≡ Free = sym word ∙ ap w.block (sym r) ∙ q in cc f)
            | inr n ↦ inl (put-other w.block c (swept_word (Need z) (lay.marks c)) d n ∙ q)
          ];
          swept = λ d y q h. elim (cases_eq d c) [
            | inl r ↦ absurd (let f : Sweeping z ≡ Swept y = sym word ∙ ap w.block (sym r) ∙ q in cc f)
            | inr n ↦ (put-other w.block c (swept_word (Need z) (lay.marks c)) d n ∙ q, h)
          ];
        })

        fits_now : w.block c ≡ Sweeping z → OccupiesSlots p v
        fits_now word d y i l q set = elim (cases_eq d c) [
          | inl r ↦
              let marked : bit_at (lay.marks c) i ≡ 1 =
              ap (λ u. bit_at u i) (sym (ap (λ (f : ℕ → ℕ). f d) used ∙ put-at w.used c (lay.marks c) d r)) ∙ set in
              let owing = subst (λ (state : BlockWord). IsOwing state z) (sym word) refl in
              let fits = ((blocks.blocks.each c (subst (λ j. j < p.config.blocks) r l)).kept z i owing marked).0 in
              subst (λ u. i < slots u) (size_of (lay.marks c) z y (sym (here d r) ∙ q)) fits
          | inr n ↦ bo.fits d y i l (sym (other d n) ∙ q)
              (ap (λ u. bit_at u i) (sym (ap (λ (f : ℕ → ℕ). f d) used ∙ put-other w.used c (lay.marks c) d n)) ∙ set)
        ]

    by_turn : Turned p lay k w (actors k) run.first run.decides ks sw a.mid v → HasTaken p lay g b order x k v (put actors k a)
    by_turn (GivesWay s rest idle script set e m same kept) =
        moves (HasLeft Yield) e same kept (goes_to Yielded (HasLeft Yield) tt m) (seen_at x.given Yielded tt m) (yields_none m) (Yields s rest (between idle)
        ((reads idle).script_is ∙ script) (loud_board set))
    by_turn (IsDone s rest idle script stop room immature h kept) = done s rest idle script stop room immature h.0 h.1 h.2 kept
    by_turn (Gathers s rest request is idle script stop e m set kept) =
        asks_for request e set kept (goes_to (Left s) (HasLeft (Wants request)) (collects p s request is) m) (seen_at x.given (Left s) tt m) (leaves_none s m)
        (Collects s rest request (between idle) ((reads idle).script_is ∙ script) (quiet_board stop) is)
    by_turn (Looks s rest idle script stop makes short e searched kept) = looks s rest idle script stop makes short e searched kept
    by_turn (Wins s f seen mid saw h kept) = won s f seen mid saw h.0 h.1 h.2 kept
    by_turn (Loses s f seen mid differs e searched kept) =
        again s f seen mid differs e (searched (let l = (prepared s f seen mid).there in let q = are.fragments in omega arith)) kept
    by_turn (Matures s rest idle script stop mature e searched kept) = matures s rest idle script stop mature e searched kept
    by_turn (WinsBlock s c mid saw searched kept) = won_block s c mid saw searched kept
    by_turn (LosesBlock s c mid differs searched kept) = lost_block s c mid differs searched kept
    by_turn (WinsSlot s c i found mid step decides clear h kept) = won_slot s c i found mid step decides h.0 h.1 h.2 kept
    by_turn (LosesSlot s c i mid set searched kept) = lost_slot s c i mid set searched kept
    by_turn (WinsSweep s c z more mid saw e m same swept kept) = won_sweep s c z more mid saw e m same swept kept
    by_turn (LosesSweep s c z mid differs searched kept) = lost_sweep s c z mid differs searched kept
    by_turn (SweepsOne s c z mid e m same block used none) = sweeps_one s c z mid e m same block used none
    by_turn (GoesOn s c mid searched kept) = behind_sweep s c mid searched kept
    by_turn (Roams r) = absurd (no_sweeper p (actors k).script (actors k).mid (x.position k) (bo.at k) r)

pub turns_are_taken : OrdersSoFar → HasOneTurn → TurnsKeepOld → BlocksGo → TurnsAreTaken
turns_are_taken orders answers keeps blocks_go p lay g b order x w actors bo k stays steps a turn legal =
    let run = runs p lay k w (actors k) steps a (at_rest p (actors k).script (actors k).mid (x.position k) (bo.at k)) turn legal in
    by_turn orders answers keeps blocks_go p lay g b order x w actors bo k stays steps a run legal run.turned

-- who has no statement left
pub ends_are_taken : EndsAreTaken
ends_are_taken p lay g b order x w actors bo k is none = record {
  takes = Ends is (ap (λ (h : Graph). (h.mutator k).script) (sym bo.graph_is) ∙ ready.script_is ∙ ap (λ (m : Mid). before_it m (actors k).script) idle ∙ none);
  boarded = record {
    so = bo.so;
    one = bo.one;
    order_is = bo.order_is;
    graph_is = bo.graph_is;
    book_is = bo.book_is;
    at = put-all (λ j (q : Position). IsAt p (actors j).script (actors j).mid q) x.position k (HasLeft Ended)
        (subst (λ (m : Mid). IsAt p (actors k).script m (HasLeft Ended)) (sym idle) none) (λ j n. bo.at j);
    asked = bo.asked;
    going = bo.going;
    owed_is = bo.owed_is;
    says = λ j l. says_on p x (moved_on x k (HasLeft Ended)) j (w.block j) refl refl (λ name h. h) (bo.says j l);
    seen = bo.seen;
    fits = bo.fits;
  };
}
  where
    only : (mid : Mid) → IsAt p (actors k).script mid Between → mid ≡ Idle
    only Idle h = refl
    only (TestTag s test) h = absurd h
    only (TestLength s test class) h = absurd h
    only (Access s) h = absurd h
    only (MarkCard s card) h = absurd h
    only (AccessGlobal s) h = absurd h
    only (Look s f) h = absurd h
    only (Claim s f seen) h = absurd h
    only (StoreLength s y) h = absurd h
    only (StoreTag s y) h = absurd h
    only (HideLength d s offset) h = absurd h
    only (SeeBlock (Search s) true c) h = absurd h
    only (SeeBlock (Search s) false c) h = absurd h
    only (SeeBlock Roam begins c) h = absurd h
    only (TakeBlock s c) h = absurd h
    only (SeeUsed s c) h = absurd h
    only (TakeSlot s c i) h = absurd h
    only (TakeOver (Search s) c z) h = absurd h
    only (TakeOver Roam c z) h = absurd h
    only (StoreOccupancy (Search s) c z) h = absurd h
    only (StoreOccupancy Roam c z) h = absurd h
    only (ClearSlots t c z i) h = absurd h
    only (ClearWords t c z i f) h = absurd h
    only Retired h = absurd h
    only (Ask s) h = absurd h
    only (Left s) h = absurd h
    only Yielded h = absurd h

    idle : (actors k).mid ≡ Idle
    idle = only (actors k).mid (subst (IsAt p (actors k).script (actors k).mid) is (bo.at k))

    ready : IsReady p bo.one.graph bo.one.book k (actors k) (before_it (actors k).mid (actors k).script)
    ready = bo.one.ready k (inl idle)
