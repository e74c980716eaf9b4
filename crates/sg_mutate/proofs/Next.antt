-- What one turn of a mutator makes of the board.
use Rattle.std.proofs.Common.{◌≡◌, ◌≢◌, ℕ, true, false, Option, Some, None, List, [], ◌++◌, inl, inr, refl, ap, sym, ◌∙◌, subst}
use Rattle.std.proofs.lemmas.List.{append-nil}
use Rattle.sg_words.specs.Words.{put, Words, replayed}
use Rattle.sg_words.proofs.Puts.{put-same, put-other}
use Rattle.sg_program.specs.declared.program.Statement.{Statement}
use Rattle.sg_program.specs.declared.program.Statement.TheVariants.{New, NewV, Mature, Collect, Sections}
use Rattle.sg_program.specs.declared.program.Program.{Program}
use Rattle.sg_program.specs.Scripts.{made_words, made_slot, IsRequestOf}
use Rattle.sg_program.specs.declared.answers.Request.{Request}
use Rattle.sg_program.specs.declared.answers.Request.TheVariants.{Need, Slot, Minor, Major, Sections as AllSections}
use Rattle.sg_program.specs.declared.answers.Leave.TheVariants.{Ended as HasNone, Yield, Wants}
use Rattle.sg_graph.specs.Graph.{Graph}
use Rattle.sg_graph.specs.Book.{Book}
use Rattle.sg_graph.specs.Epoch.{Said}
use Rattle.sg_graph.specs.Turns.{Position, Between as IsBetween, Claiming as IsClaiming, SweepingBlock, BehindSweep as IsBehindSweep, HasLeft, Board, HasGone}
use Rattle.sg_graph.specs.Turns.{moved_on, stopped_at, giving, TakesTurn as TakesBoardTurn}
use Rattle.sg_graph.specs.Turns.TakesTurn.{Ends, Yields, Collects, Does, Prepares, Needs, Claims, LooksAgain, FindsNone}
use Rattle.sg_graph.specs.Turns.TakesTurn.{Matures, SearchesOn, Opens, ClaimsSlot, TakesOver, Sweeps}
use Rattle.sg_space.specs.Space.{Contents, words_of}
use Rattle.sg_frag.specs.Plain.{KeepsSections, Led}
use Rattle.sg_rules.specs.Rules.{Constants, Mid, Idle, Claim, Left, Yielded as HasYielded, Actor}
use Rattle.sg_rules.specs.Rules.{Search, Roam, SeeBlock, TakeBlock, TakeSlot, TakeOver, StoreOccupancy}
use Rattle.sg_rules.specs.Acting.{IsTurn}
use Rattle.sg_actor.specs.declared.mutator.Stage.{Stage}
use Rattle.sg_actor.specs.declared.mutator.Stage.TheVariants.{Between, Within, Claiming, OpeningBlock, TakingSlot, TakingOver, Sweeping, BehindSweep, Ended}
use Rattle.sg_actor.specs.declared.mutator.Stage.TheVariants.{Asking, Yielded}
use Rattle.sg_actor.specs.State.{Mutating, mid_of, actor_of, leave_of, IsSameMutator}
use Rattle.sg_actor.specs.Turning.{IsResting, IsBehindTurn, EndsNow, TakesTurn}
use Rattle.sg_rules.specs.Acting.{HasTurned}
use Rattle.sg_mutate.specs.Boards.{IsAt, IsBoarded, HasTaken, HasEnded, TurnsAreTaken, EndsAreTaken}
use Rattle.sg_mutate.proofs.Midst.{IsPlacedAt}

stopped_others : (x : Board) (k z : ℕ) (found : Option Position) (j : ℕ) → j ≢ k → (stopped_at x k z found).position j ≡ x.position j
stopped_others x k z (Some position) j n = put-other x.position k position j n
stopped_others x k z None j n = put-other x.position k (HasLeft (Wants (Slot z))) j n

-- a turn moves nobody else on the board
takes_others : (p : Program) (x : Board) (k : ℕ) (said : List Said) (y : Board) → TakesBoardTurn p x k said y → (j : ℕ) → j ≢ k → y.position j ≡ x.position j
takes_others p x k _ _ (Ends at none) j n = put-other x.position k (HasLeft HasNone) j n
takes_others p x k _ _ (Yields s rest at script asked) j n = put-other x.position k (HasLeft Yield) j n
takes_others p x k _ _ (Collects s rest request at script going is) j n = put-other x.position k (HasLeft (Wants request)) j n
takes_others p x k _ _ (Does s rest said h c at script going direct immature by turn) j n = refl
takes_others p x k _ _ (Prepares s rest f at script going searches lowest) j n = put-other x.position k (IsClaiming f (x.book.next f)) j n
takes_others p x k _ _ (Needs s rest at script going searches none) j n = put-other x.position k (HasLeft (Wants (Need (made_words p s)))) j n
takes_others p x k _ _ (Claims f seen said h c at same by turn) j n = put-other x.position k IsBetween j n
takes_others p x k _ _ (LooksAgain s rest f seen i at other script lowest) j n = put-other x.position k (IsClaiming i (x.book.next i)) j n
takes_others p x k _ _ (FindsNone s rest f seen at other script none) j n = put-other x.position k (HasLeft (Wants (Need (made_words p s)))) j n
takes_others p x k _ _ (Matures s rest found at script going mature searches) j n = stopped_others x k (made_slot p s) found j n
takes_others p x k _ _ (SearchesOn s rest i found script at searches) j n = stopped_others x k (made_slot p s) found j n
takes_others p x k _ _ (Opens s rest c found script at given searches) j n = stopped_others (giving x c (made_slot p s)) k (made_slot p s) found j n
takes_others p x k _ _ (ClaimsSlot s rest c slot name said h d script at by answer place turn) j n = put-other x.position k IsBetween j n
takes_others p x k _ _ (TakesOver c at owed) j n = put-other x.position k (SweepingBlock c) j n
takes_others p x k _ _ (Sweeps c at) j n = put-other x.position k (IsBehindSweep c) j n

-- which request a statement makes
request_for : Program → Statement → Request
request_for p (Collect false) = Minor
request_for p (Collect true) = Major
request_for p Sections = AllSections
request_for p (Mature r class) = Slot (made_slot p (Mature r class))
request_for p s = Need (made_words p s)

made_request : (p : Program) (s : Statement) (request : Request) → IsRequestOf p s request → request ≡ request_for p s
unfolding request_for
made_request p (New r class) (Need words) h = ap Need h
made_request p (NewV r class count) (Need words) h = ap Need h
made_request p (Collect false) Minor h = refl
made_request p (Collect true) Major h = refl
made_request p Sections AllSections h = refl
made_request p (Mature r class) (Slot size) h = ap Slot h
made_request p s request h = absurd h

-- who hasn't left stands where nobody has gone, and who has left is gone
pub placed_stays : (p : Program) (stage : Stage) (position : Position) → leave_of stage ≡ None → IsPlacedAt p stage position → ¬ HasGone position
placed_stays p Within position e h = absurd h
placed_stays p Ended position e h = cc
placed_stays p (Asking s request) position e h = cc
placed_stays p Yielded position e h = cc
placed_stays p stage position e h = h

pub placed_gone : (p : Program) (stage : Stage) (position : Position) → leave_of stage ≢ None → IsPlacedAt p stage position → HasGone position
placed_gone p Within position e h = absurd h
placed_gone p Ended position e h = subst HasGone (sym h) tt
placed_gone p (Asking s request) position e h = subst HasGone (sym h.0) tt
placed_gone p Yielded position e h = subst HasGone (sym h) tt
placed_gone p stage position e h = absurd (e refl)

-- who is in the midst of a statement hasn't left
abbrev IsAmid : Mid → Type 0
IsAmid Idle = ⊥
IsAmid (Left s) = ⊥
IsAmid HasYielded = ⊥
IsAmid mid = Unit {0}

at_stays : (p : Program) (script : List Statement) (mid : Mid) (position : Position) → IsAt p script mid position → IsAmid mid → ¬ HasGone position
at_stays p script Idle position h amid gone = amid
at_stays p script (Left s) position h amid gone = amid
at_stays p script HasYielded position h amid gone = amid
at_stays p script (SeeBlock (Search s) true c) (HasLeft leave) h amid gone = h
at_stays p script (SeeBlock (Search s) false c) (HasLeft leave) h amid gone = h
at_stays p script (SeeBlock Roam begins c) (HasLeft leave) h amid gone = h
at_stays p script (TakeOver (Search s) c z) (HasLeft leave) h amid gone = h
at_stays p script (TakeOver Roam c z) (HasLeft leave) h amid gone = h
at_stays p script (StoreOccupancy (Search s) c z) (HasLeft leave) h amid gone = h
at_stays p script (StoreOccupancy Roam c z) (HasLeft leave) h amid gone = h
at_stays p script mid (HasLeft leave) h amid gone = h
at_stays p script mid position h amid gone = gone

at_left : (p : Program) (script : List Statement) (s : Statement) (request : Request) (position : Position) → IsRequestOf p s request →
    IsAt p script (Left s) position →
    position ≡ HasLeft (Wants request)
at_left p script s request (HasLeft (Wants other)) r h = ap (λ (q : Request). HasLeft (Wants q)) (made_request p s other h ∙ sym (made_request p s request r))
at_left p script s request (HasLeft HasNone) r h = absurd h
at_left p script s request (HasLeft Yield) r h = absurd h
at_left p script s request position r h = absurd h

at_yielded : (p : Program) (script : List Statement) (position : Position) → IsAt p script HasYielded position → position ≡ HasLeft Yield
at_yielded p script (HasLeft Yield) h = refl
at_yielded p script (HasLeft HasNone) h = absurd h
at_yielded p script (HasLeft (Wants other)) h = absurd h
at_yielded p script position h = absurd h

at_idle : (p : Program) (script : List Statement) (position : Position) → IsAt p script Idle position → ¬ HasGone position → position ≡ IsBetween
at_idle p script IsBetween h stays = refl
at_idle p script (HasLeft leave) h stays = absurd (stays tt)
at_idle p script position h stays = absurd h

-- where a mutator stands behind its turn
placed_at : (p : Program) (script : List Statement) (stage : Stage) (position : Position) → IsResting p stage → IsAt p script (mid_of stage) position →
    (mid_of stage ≡ Idle → position ≡ IsBetween) → IsPlacedAt p stage position
placed_at p script Between position r h stays = subst (λ (q : Position). ¬ HasGone q) (sym (stays refl)) (λ z. z)
placed_at p script Within position r h stays = absurd r
placed_at p script (Claiming s f seen) position r h stays = at_stays p script (Claim s f seen) position h tt
placed_at p script (OpeningBlock s c) position r h stays = at_stays p script (TakeBlock s c) position h tt
placed_at p script (TakingSlot s c i) position r h stays = at_stays p script (TakeSlot s c i) position h tt
placed_at p script (TakingOver s c z) position r h stays = at_stays p script (TakeOver (Search s) c z) position h tt
placed_at p script (Sweeping s c z) position r h stays = at_stays p script (StoreOccupancy (Search s) c z) position h tt
placed_at p script (BehindSweep s c) position r h stays = at_stays p script (SeeBlock (Search s) true c) position h tt
placed_at p script Ended position r h stays = absurd r
placed_at p script (Asking s request) position r h stays = (at_left p script s request position r h, r)
placed_at p script Yielded position r h stays = at_yielded p script position h

-- what a turn of mutator k, which is n behind it, makes of the board
pub record Next (p : Program) (lay : Constants) (g : Graph) (b : Book) (order : List Said) (x : Board) (s : Contents)
    (actors : ℕ → Actor) (k : ℕ) (m n : Mutating) (t : Contents) : Type 0 where
  pub said : List Said
  pub board : Board
  pub later : ℕ → Actor
  pub takes : TakesBoardTurn p x k said board
  pub boarded : IsBoarded p lay g b (order ++ said) board (words_of t) later
  pub at : later k ≡ actor_of n
  pub others : (j : ℕ) → j ≢ k → later j ≡ actors j
  pub elsewhere : (j : ℕ) → j ≢ k → board.position j ≡ x.position j
  pub placed : IsPlacedAt p n.stage (board.position k)
  pub same : IsSameMutator m n
  pub keeps : KeepsSections s t

module _ (turns : TurnsAreTaken) (ends : EndsAreTaken) (p : Program) (lay : Constants) (g : Graph) (b : Book) (order : List Said) (x : Board)
    (s : Contents) (actors : ℕ → Actor)
    (bo : IsBoarded p lay g b order x (words_of s) actors) (k : ℕ) (m n : Mutating) (t : Contents) (program : m.program ≡ p) (is : actors k ≡ actor_of m)
    (stays : ¬ HasGone (x.position k)) where
  by_end : EndsNow Led m s n t → Next p lay g b order x s actors k m n t
  by_end e = record {
    said = [];
    board = moved_on x k (HasLeft HasNone);
    later = actors;
    takes = ended.takes;
    boarded = subst (λ ss. IsBoarded p lay g b ss (moved_on x k (HasLeft HasNone)) (words_of t) actors) (sym (append-nil order))
        (subst (λ (w : Words). IsBoarded p lay g b order (moved_on x k (HasLeft HasNone)) w actors) (sym e.led.words) ended.boarded);
    at = is ∙ sym e.actor;
    others = λ j o. refl;
    elsewhere = λ j o. put-other x.position k (HasLeft HasNone) j o;
    placed = subst (λ (stage : Stage). IsPlacedAt p stage (put x.position k (HasLeft HasNone) k)) (sym e.ended) (put-same x.position k (HasLeft HasNone));
    same = e.same;
    keeps = e.led.keeps;
  }
    where
      idle : (actors k).mid ≡ Idle
      idle = ap (λ (a : Actor). a.mid) is ∙ ap mid_of e.between

      ended : HasEnded p lay g b order x k (words_of s) actors
      ended = ends p lay g b order x (words_of s) actors bo k
          (at_idle p (actors k).script (x.position k) (subst (λ (mid : Mid). IsAt p (actors k).script mid (x.position k)) idle (bo.at k)) stays)
          (ap (λ (a : Actor). a.script) is ∙ e.none)

  by_steps : IsBehindTurn m n → HasTurned m.program lay Led (actor_of m) s (actor_of n) t → Next p lay g b order x s actors k m n t
  by_steps behind h = record {
    said = taken.said;
    board = taken.board;
    later = put actors k (actor_of n);
    takes = taken.takes;
    boarded = subst (λ (w : Words). IsBoarded p lay g b (order ++ taken.said) taken.board w (put actors k (actor_of n))) (sym h.led.words) taken.boarded;
    at = put-same actors k (actor_of n);
    others = λ j o. put-other actors k (actor_of n) j o;
    elsewhere = λ j o. takes_others p x k taken.said taken.board taken.takes j o;
    placed = placed_at p (actor_of n).script n.stage (taken.board.position k) (subst (λ (q : Program). IsResting q n.stage) program behind.rests)
        (subst (λ (a : Actor). IsAt p a.script a.mid (taken.board.position k)) (put-same actors k (actor_of n)) (taken.boarded.at k))
        (λ e. taken.stays (ap (λ (a : Actor). a.mid) (put-same actors k (actor_of n)) ∙ e));
    same = behind.same;
    keeps = h.led.keeps;
  }
    where
      turn : IsTurn p lay (actors k) h.steps (actor_of n)
      turn = subst (λ (a : Actor). IsTurn p lay a h.steps (actor_of n)) (sym is)
          (subst (λ (q : Program). IsTurn q lay (actor_of m) h.steps (actor_of n)) program h.turn)

      taken : HasTaken p lay g b order x k (replayed (words_of s) h.steps) (put actors k (actor_of n))
      taken = turns p lay g b order x (words_of s) actors bo k stays h.steps (actor_of n) turn h.led.legal

  pub next : TakesTurn lay Led m s n t → Next p lay g b order x s actors k m n t
  next (inl e) = by_end e
  next (inr h) = by_steps h.0 h.1
