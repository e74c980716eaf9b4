-- Each turn leaves a mutator less to do: a statement less, or a search that stands further on.
use Rattle.std.proofs.Common.{◌≡◌, ◌≢◌, ℕ, suc, ◌+◌, ◌-◌, ◌*◌, ◌^◌, ◌<◌, ◌≤◌, ◌⊎◌, Bool, true, List, [], ◌∷◌, length, inl, inr, refl, ap, sym, ◌∙◌, subst}
use Rattle.std.proofs.Common.{arith}
use Rattle.std.proofs.lemmas.Bool.{cases_lt, cases_eq}
use Rattle.std.specs.Int.{bit_at}
use Rattle.sg_words.specs.Address.{byte_at}
use Rattle.sg_words.specs.Blocks.{slots}
use Rattle.sg_words.specs.declared.steps.BlockWord.{BlockWord}
use Rattle.sg_words.specs.declared.steps.BlockWord.TheVariants.{Free, Swept, Need, Sweeping}
use Rattle.sg_words.specs.declared.steps.Step.{Step}
use Rattle.sg_words.specs.Programs.{FollowsBy}
use Rattle.sg_words.specs.Words.{Words}
use Rattle.sg_words.proofs.Puts.{put-same}
use Rattle.sg_words.proofs.Blocks.{bit_kept, class_slots, slot_size-class}
use Rattle.sg_program.specs.declared.program.Statement.{Statement}
use Rattle.sg_program.specs.declared.program.Program.{Program}
use Rattle.sg_program.specs.Scripts.{made_words, made_slot}
use Rattle.sg_graph.specs.Graph.{Graph}
use Rattle.sg_graph.specs.Book.{Book}
use Rattle.sg_graph.specs.Epoch.{Said}
use Rattle.sg_graph.specs.Turns.{Board}
use Rattle.sg_rules.specs.Rules.{Constants, Mid, Idle, Claim, Left, Yielded, Actor, Comes}
use Rattle.sg_rules.specs.Rules.{Search, SeeBlock, TakeBlock, TakeSlot, TakeOver, StoreOccupancy, AreTaken, BlockComes, NextStep}
use Rattle.sg_rules.specs.Rules.BlockComes.{mature_begins, sees_free, takes_block, misses_block, sees_size, sees_full, sees_slot, takes_slot, misses_slot}
use Rattle.sg_rules.specs.Rules.BlockComes.{sees_other, sees_sweeping, sees_need, takes_over, misses_sweep, stores_occupancy, clears_first, clears_next}
use Rattle.sg_rules.specs.Rules.BlockComes.{clears_last, ends_sweep, roams_on, retires, roams_free, roams_swept}
use Rattle.sg_rules.specs.Rules.Comes.{test_null, test_begins, loads_tag, loads_length, test_fails, put_stores, put_stores_old, marks_card, putd_stores}
use Rattle.sg_rules.specs.Rules.Comes.{get_loads, getd_loads, global_begins, gput_stores, gget_loads, num_sets, drop_clears, move_sets, push_sets, pop_sets}
use Rattle.sg_rules.specs.Rules.Comes.{hide_null, hide_begins, hide_fits, hide_misses, unhide_sets, same_tells, new_bumps, new_looks, look_finds}
use Rattle.sg_rules.specs.Rules.Comes.{look_goes_on, stop_asks, asks, yields, claim_wins, claim_moves, claim_goes_on, stores_length, stores_tag}
use Rattle.sg_rules.specs.Sane.{IsSane, IsSaneAt}
use Rattle.sg_rules.specs.Acting.{ActsOn, RestsAt, IsTurn}
use Rattle.sg_order.specs.Knowing.{IsPast, KnowsAt}
use Rattle.sg_order.specs.Sweep.{no_winner, winners}
use Rattle.sg_mutate.specs.Boards.{owed_in_search, owed_at, owed, HasSeen, IsBoarded, TurnsOweLess}
use Rattle.sg_mutate.proofs.Ends.{Searched, SearchedBlocks, Meets, AFree, ASlot, AnOwed, opened, claimed, Turned, GivesWay, IsDone, Gathers, Looks, Wins}
use Rattle.sg_mutate.proofs.Ends.{Loses, Matures, WinsBlock, LosesBlock, WinsSlot, LosesSlot, WinsSweep, LosesSweep, SweepsOne, GoesOn, Roams, runs}
use Rattle.sg_mutate.proofs.Standing.{at_rest, no_sweeper}

-- What is left of a script behind steps that begin here and end there: one statement less where they begin between two statements, but for who
-- yields; and else the same.
abbrev Leaves : Mid → List Statement → Mid → List Statement → Type 0
Leaves Idle script m left = ((m ≡ Yielded) × (left ≡ script)) ⊎ ((s : Statement) × (script ≡ s ∷ left))
Leaves mid script m left = left ≡ script

leaves_same : (mid m : Mid) (script left : List Statement) → ¬ RestsAt mid → Leaves mid script m left → left ≡ script
leaves_same Idle m script left r h = absurd (r tt)
leaves_same mid m script left r h = h

leaves_on : (mid m n : Mid) (script left more : List Statement) → more ≡ left → (m ≡ Yielded → n ≡ Yielded) → Leaves mid script m left →
    Leaves mid script n more
leaves_on Idle m n script left more same on (inl (e, q)) = inl (on e, same ∙ q)
leaves_on Idle m n script left more same on (inr (s, q)) = inr (s, q ∙ ap (λ l. s ∷ l) (sym same))
leaves_on mid m n script left more same on h = same ∙ h

module _ (p : Program) (lay : Constants) where
  leaves : (a : Actor) (t : Step) (d : Bool) (b : Actor) → Comes p lay a t d b → Leaves a.mid a.script b.mid b.script
  leaves _ _ _ _ (test_null a s rest test e z) = inr (_, refl)
  leaves _ _ _ _ (test_begins a s rest test e z) = inr (_, refl)
  leaves _ _ _ _ (loads_tag a s rest test class there) = refl
  leaves _ _ _ _ (loads_length a s rest test class len short f) = refl
  leaves _ _ _ _ (test_fails a s rest test class len short f) = refl
  leaves _ _ _ _ (put_stores a rest r i s cardless) = refl
  leaves _ _ _ _ (put_stores_old a rest r i s has) = refl
  leaves _ _ _ _ (marks_card a rest s card) = refl
  leaves _ _ _ _ (putd_stores a rest r i s) = refl
  leaves _ _ _ _ (get_loads a rest d r i u ref) = refl
  leaves _ _ _ _ (getd_loads a rest d r i u) = refl
  leaves _ _ _ _ (global_begins a s rest is) = inr (_, refl)
  leaves _ _ _ _ (gput_stores a rest x r) = refl
  leaves _ _ _ _ (gget_loads a rest r x u ref) = refl
  leaves _ _ _ _ (num_sets a rest d n) = inr (_, refl)
  leaves _ _ _ _ (drop_clears a rest r) = inr (_, refl)
  leaves _ _ _ _ (move_sets a rest d s) = inr (_, refl)
  leaves _ _ _ _ (push_sets a rest r) = inr (_, refl)
  leaves _ _ _ _ (pop_sets a rest r top stack e) = inr (_, refl)
  leaves _ _ _ _ (hide_null a rest d s offset z) = inr (_, refl)
  leaves _ _ _ _ (hide_begins a rest d s offset z) = inr (_, refl)
  leaves _ _ _ _ (hide_fits a rest d s offset len short f) = refl
  leaves _ _ _ _ (hide_misses a rest d s offset len short f) = refl
  leaves _ _ _ _ (unhide_sets a rest d s) = inr (_, refl)
  leaves _ _ _ _ (same_tells a rest r s) = inr (_, refl)
  leaves _ _ _ _ (new_bumps a s rest making l) = inr (_, refl)
  leaves _ _ _ _ (new_looks a s rest making l) = inr (_, refl)
  leaves _ _ _ _ (look_finds a s rest f next l) = refl
  leaves _ _ _ _ (look_goes_on a s rest f next l) = refl
  leaves _ _ _ _ (stop_asks a s rest request is) = inr (_, refl)
  leaves _ _ _ _ (asks a rest s) = refl
  leaves _ _ _ _ (yields a s rest word set) = inl (refl, refl)
  leaves _ _ _ _ (claim_wins a s rest f next) = refl
  leaves _ _ _ _ (claim_moves a s rest f seen next later l) = refl
  leaves _ _ _ _ (claim_goes_on a s rest f seen next later l) = refl
  leaves _ _ _ _ (stores_length a s rest x) = refl
  leaves _ _ _ _ (stores_tag a s rest x) = refl

  leaves_block : (a : Actor) (t : Step) (d : Bool) (b : Actor) → BlockComes p lay a t d b → Leaves a.mid a.script b.mid b.script
  leaves_block _ _ _ _ (mature_begins a s rest is) = inr (_, refl)
  leaves_block _ _ _ _ (sees_free a s rest begins c) = refl
  leaves_block _ _ _ _ (takes_block a s rest c) = refl
  leaves_block _ _ _ _ (misses_block a s rest c found) = refl
  leaves_block _ _ _ _ (sees_size a s rest begins c) = refl
  leaves_block _ _ _ _ (sees_full a s rest c saw full) = refl
  leaves_block _ _ _ _ (sees_slot a s rest c i saw fits clear taken) = refl
  leaves_block _ _ _ _ (takes_slot a s rest c i found clear) = refl
  leaves_block _ _ _ _ (misses_slot a s rest c i found set) = refl
  leaves_block _ _ _ _ (sees_other a s rest begins c z differs) = refl
  leaves_block _ _ _ _ (sees_sweeping a t rest begins c z may) = refl
  leaves_block _ _ _ _ (sees_need a t rest begins c z may class) = refl
  leaves_block _ _ _ _ (takes_over a t rest c z) = refl
  leaves_block _ _ _ _ (misses_sweep a t rest c z found) = refl
  leaves_block _ _ _ _ (stores_occupancy a t rest c z) = refl
  leaves_block _ _ _ _ (clears_first a t rest c z i j from fits marked clear more) = refl
  leaves_block _ _ _ _ (clears_next a t rest c z i f more) = refl
  leaves_block _ _ _ _ (clears_last a t rest c z i f last) = refl
  leaves_block _ _ _ _ (ends_sweep a t rest c z i marked) = refl
  leaves_block _ _ _ _ (roams_on a rest c) = refl
  leaves_block _ _ _ _ (retires a rest c saw set) = refl
  leaves_block _ _ _ _ (roams_free a rest c) = refl
  leaves_block _ _ _ _ (roams_swept a rest c z) = refl

  leaves_step : (a : Actor) (t : Step) (d : Bool) (b : Actor) → NextStep p lay a t d b → Leaves a.mid a.script b.mid b.script
  leaves_step a t d b (inl comes) = leaves a t d b comes
  leaves_step a t d b (inr comes) = leaves_block a t d b comes

  along : (steps : List Step) (a b : Actor) → FollowsBy (ActsOn p lay) a steps b → (b.script ≡ a.script) × (a.mid ≡ Yielded → b.mid ≡ Yielded)
  along [] a b f = (ap (λ (x : Actor). x.script) f, λ e. ap (λ (x : Actor). x.mid) f ∙ e)
  along (t ∷ steps) a b f =
      let on = along steps f.0 b f.2 in (
        on.0 ∙ leaves_same a.mid f.0.mid a.script f.0.script f.1.0 (leaves_step a t f.1.1.0 f.0 f.1.1.1),
        λ e. absurd (f.1.0 (subst RestsAt (sym e) tt)),
      )

  leaves_turn : (a b : Actor) (steps : List Step) → IsTurn p lay a steps b → Leaves a.mid a.script b.mid b.script
  leaves_turn a b steps turn =
      let on = along turn.more turn.then b turn.goes in
      leaves_on a.mid turn.then.mid b.mid a.script turn.then.script b.script on.0 on.1
      (leaves_step a turn.first turn.begins.0 turn.then turn.begins.1)

  -- a statement is over, or a search for it has begun
  begun : (a b : Actor) → a.mid ≡ Idle → Leaves a.mid a.script b.mid b.script → (b.mid ≢ Yielded) → owed_at p lay b.mid ≤ 2 ^ 60 → owed p lay b < owed p lay a
  begun a b idle left stays l =
      let len = fewer (subst (λ (m : Mid). Leaves m a.script b.mid b.script) idle left) in
      let one : owed_at p lay a.mid ≡ 1 = ap (owed_at p lay) idle in
      omega arith
    where
      fewer : Leaves Idle a.script b.mid b.script → length a.script ≡ suc (length b.script)
      fewer (inl (e, q)) = absurd (stays e)
      fewer (inr (s, q)) = ap length q

  -- who leaves has nothing to do
  left_over : (a b : Actor) → a.mid ≡ Idle → Leaves a.mid a.script b.mid b.script → owed_at p lay b.mid ≡ 0 → owed p lay b < owed p lay a
  left_over a b idle left none =
      let len = fewer (subst (λ (m : Mid). Leaves m a.script b.mid b.script) idle left) in
      let one : owed_at p lay a.mid ≡ 1 = ap (owed_at p lay) idle in
      omega arith
    where
      fewer : Leaves Idle a.script b.mid b.script → length b.script ≤ length a.script
      fewer (inl (e, q)) = let f = ap length q in omega arith
      fewer (inr (s, q)) = let f : length a.script ≡ suc (length b.script) = ap length q in omega arith

  -- a search stands further on, or its statement is over
  further : (a b : Actor) (mid : Mid) → a.mid ≡ mid → mid ≢ Idle → Leaves a.mid a.script b.mid b.script → owed_at p lay b.mid < owed_at p lay mid →
      owed p lay b < owed p lay a
  further a b mid at busy left l =
      let same = ap length (keeps mid busy (subst (λ (m : Mid). Leaves m a.script b.mid b.script) at left)) in
      let e : owed_at p lay a.mid ≡ owed_at p lay mid = ap (owed_at p lay) at in
      omega arith
    where
      keeps : (m : Mid) → m ≢ Idle → Leaves m a.script b.mid b.script → b.script ≡ a.script
      keeps Idle n h = absurd (n refl)
      keeps m n h = h

  -- where a search for a slot stops at block j
  met_owes : (w : Words) (s : Statement) (j : ℕ) (m : Mid) → Meets p w s j m → owed_at p lay m ≤ owed_in_search p j 100
  met_owes w s j m (AFree e is) = let q = ap (owed_at p lay) is in omega arith
  met_owes w s j m (ASlot i e fits clear taken is) = let q = ap (owed_at p lay) is in omega arith
  met_owes w s j m (AnOwed size class e is) = let q = ap (owed_at p lay) is in omega arith

  -- at a block that isn't owed
  met_past : (w : Words) (s : Statement) (j : ℕ) (m : Mid) → IsPast (w.block j) → Meets p w s j m → owed_at p lay m ≤ owed_in_search p j 97
  met_past w s j m past (AFree e is) = let q = ap (owed_at p lay) is in omega arith
  met_past w s j m past (ASlot i e fits clear taken is) = let q = ap (owed_at p lay) is in omega arith
  met_past w s j m past (AnOwed size class e is) = absurd (subst IsPast e past)

  -- at one that has slots
  met_swept : (w : Words) (s : Statement) (j : ℕ) (m : Mid) (z : ℕ) → w.block j ≡ Swept z → Meets p w s j m → owed_at p lay m ≤ owed_in_search p j 96
  met_swept w s j m z swept (AFree e is) = let f : Swept z ≡ Free = sym swept ∙ e in cc f
  met_swept w s j m z swept (ASlot i e fits clear taken is) = let q = ap (owed_at p lay) is in omega arith
  met_swept w s j m z swept (AnOwed size class e is) = let f : Swept z ≡ Need size = sym swept ∙ e in cc f

  -- and at one whose slots are taken up to slot i
  met_behind : (w : Words) (s : Statement) (j : ℕ) (m : Mid) (z i : ℕ) → w.block j ≡ Swept z → ((k : ℕ) → k ≤ i → bit_at (w.used j) k ≡ 1) → Meets p w s j m →
      owed_at p lay m < owed_in_search p j (96 - i)
  met_behind w s j m z i swept set (AFree e is) = let f : Swept z ≡ Free = sym swept ∙ e in cc f
  met_behind w s j m z i swept set (ASlot k e fits clear taken is) =
      let q = ap (owed_at p lay) is in
      let few = (class_slots (made_slot p s) (slot_size-class (made_words p s))).1 in
      elim (cases_lt i k) [
        | inl l ↦ omega arith
        | inr l ↦ let one = set k l in absurd (omega arith)
      ]
  met_behind w s j m z i swept set (AnOwed size class e is) = let f : Swept z ≡ Need size = sym swept ∙ e in cc f

  -- a search from block c on
  searched_owes : (w v : Words) (s : Statement) (c bound : ℕ) (m : Mid) → (c < p.config.blocks → Meets p w s c m → owed_at p lay m < bound) →
      (p.config.blocks - c) * 128 < bound → SearchedBlocks p w s c m v → owed_at p lay m < bound
  searched_owes w v s c bound m first room (inl (j, met, same)) = elim (cases_eq j c) [
    | inl e ↦ first (subst (λ i. i < p.config.blocks) e met.there) (subst (λ i. Meets p w s i m) e met.meets)
    | inr n ↦ let l = met_owes w s j m met.meets in let from = met.from in let there = met.there in omega arith
  ]
  searched_owes w v s c bound m first room (inr (none, is, set)) = let q = ap (owed_at p lay) is in omega arith

  module _ (few : lay.fragments ≤ 2048) (small : p.config.nursery ≤ 65536) (a : Actor) where
    -- a search from fragment f on
    looked_owes : (w v : Words) (s : Statement) (f bound : ℕ) (m : Mid) → IsSaneAt p lay a m →
        ((next : ℕ) → w.next f ≡ byte_at next → next ≤ lay.limit f → lay.limit f < 2 ^ 37 → owed_at p lay (Claim s f next) < bound) →
        (lay.fragments - f) * 2 ^ 37 + 1 < bound → Searched p lay w s f m v → owed_at p lay m < bound
    looked_owes w v s f bound m sane first room (inl (j, next, finds, is, same)) =
        let at = subst (IsSaneAt p lay a) is sane in
        let q = ap (owed_at p lay) is in
        let inside = at.inside in
        let from = finds.from in
        let there = finds.there in
        let fits = finds.room in
        elim (cases_eq j f) [
          | inl e ↦
              let l = first next (subst (λ i. w.next i ≡ byte_at next) e finds.is) (subst (λ i. next ≤ lay.limit i) e (omega arith))
              (subst (λ i. lay.limit i < 2 ^ 37) e (omega arith)) in
              let same : owed_at p lay (Claim s j next) ≡ owed_at p lay (Claim s f next) = ap (λ i. owed_at p lay (Claim s i next)) e in
              omega arith
          | inr n ↦ omega arith
        ]
    looked_owes w v s f bound m sane first room (inr (none, is, set)) = let q = ap (owed_at p lay) is in omega arith

module _ (p : Program) (lay : Constants) (g : Graph) (b : Book) (order : List Said) (x : Board) (w : Words) (actors : ℕ → Actor)
    (small : p.config.nursery ≤ 65536) (blocks : p.config.blocks ≤ 65536) (few : lay.fragments ≤ 2048) (bo : IsBoarded p lay g b order x w actors) (k : ℕ)
    (steps : List Step) (a : Actor) (sane : IsSane p lay (actors k)) (sane' : IsSane p lay a) (turn : IsTurn p lay (actors k) steps a) where
  left : Leaves (actors k).mid (actors k).script a.mid a.script
  left = leaves_turn p lay (actors k) a steps turn

  known : (mid : Mid) → (actors k).mid ≡ mid → KnowsAt p lay w bo.one.book.owed (winners no_winner bo.so.events) k mid
  known mid at = subst (KnowsAt p lay w bo.one.book.owed (winners no_winner bo.so.events) k) at (bo.one.blocks.known k)

  seen : (mid : Mid) → (actors k).mid ≡ mid → HasSeen w x.given mid
  seen mid at = subst (HasSeen w x.given) at (bo.seen k)

  -- a search that begins at the first fragment or block
  looks : (s : Statement) (v : Words) → (actors k).mid ≡ Idle → Searched p lay w s 0 a.mid v → owed p lay a < owed p lay (actors k)
  looks s v idle searched = begun p lay (actors k) a idle left (stays searched)
      (let l = looked_owes p lay few small a w v s 0 (2 ^ 60) a.mid sane' (λ next is room l. omega arith) (omega arith) searched in omega arith)
    where
      stays : Searched p lay w s 0 a.mid v → a.mid ≢ Yielded
      stays (inl (j, next, finds, is, same)) = λ e. let f : Claim s j next ≡ Yielded = sym is ∙ e in cc f
      stays (inr (none, is, set)) = λ e. let f : Left s ≡ Yielded = sym is ∙ e in cc f

  stays_search : (u v : Words) (s : Statement) (c : ℕ) → SearchedBlocks p u s c a.mid v → a.mid ≢ Yielded
  stays_search u v s c (inl (j, met, same)) e = meets met.meets
    where
      meets : Meets p u s j a.mid → ⊥
      meets (AFree q is) = let f : TakeBlock s j ≡ Yielded = sym is ∙ e in cc f
      meets (ASlot i q fits clear taken is) = let f : TakeSlot s j i ≡ Yielded = sym is ∙ e in cc f
      meets (AnOwed size class q is) = let f : TakeOver (Search s) j size ≡ Yielded = sym is ∙ e in cc f
  stays_search u v s c (inr (none, is, set)) e = let f : Left s ≡ Yielded = sym is ∙ e in cc f

  matures : (s : Statement) (v : Words) → (actors k).mid ≡ Idle → SearchedBlocks p w s 0 a.mid v → owed p lay a < owed p lay (actors k)
  matures s v idle searched = begun p lay (actors k) a idle left (stays_search w v s 0 searched)
      (let l = searched_owes p lay w v s 0 (2 ^ 60) a.mid (λ there met. let l = met_owes p lay w s 0 a.mid met in omega arith)
      (omega arith) searched in omega arith)

  -- a lost exchange finds a next word further on
  loses : (s : Statement) (f seen : ℕ) (v : Words) → (actors k).mid ≡ Claim s f seen → w.next f ≢ byte_at seen →
      (f < lay.fragments → Searched p lay w s f a.mid v) → owed p lay a < owed p lay (actors k)
  loses s f seen v mid differs searched =
      let prepared = bo.one.prepared k s f seen mid in
      let there = prepared.there in
      let count = bo.one.fragments in
      let behind = prepared.behind in
      let next_is = bo.one.nexts f there in
      further p lay (actors k) a (Claim s f seen) mid (λ e. cc e) left
      (looked_owes p lay few small a w v s f (owed_at p lay (Claim s f seen)) a.mid sane' (λ next is room l.
      let later : seen < next = elim (cases_eq next seen) [
        | inl e ↦ absurd (differs (is ∙ ap byte_at e))
        | inr n ↦ omega arith
      ] in
      omega arith) (omega arith) (searched (omega arith)))

  -- a search that goes on from block c
  goes_on : (mid : Mid) (u v : Words) (s : Statement) (c : ℕ) → (actors k).mid ≡ mid → mid ≢ Idle → c < p.config.blocks →
      (Meets p u s c a.mid → owed_at p lay a.mid < owed_at p lay mid) → (p.config.blocks - c) * 128 < owed_at p lay mid →
      SearchedBlocks p u s c a.mid v → owed p lay a < owed p lay (actors k)
  goes_on mid u v s c at busy there first room searched =
      further p lay (actors k) a mid at busy left (searched_owes p lay u v s c (owed_at p lay mid) a.mid (λ _ met. first met) room searched)

  wins_block : (s : Statement) (c : ℕ) (v : Words) → (actors k).mid ≡ TakeBlock s c → (c < p.config.blocks → SearchedBlocks p (opened p w s c) s c a.mid v) →
      owed p lay a < owed p lay (actors k)
  wins_block s c v at searched =
      let there = (known (TakeBlock s c) at).1 in
      goes_on (TakeBlock s c) (opened p w s c) v s c at (λ e. cc e) there
      (λ met. let l = met_swept p lay (opened p w s c) s c a.mid (made_slot p s) (put-same w.block c (Swept (made_slot p s))) met in omega arith)
      (omega arith) (searched there)

  loses_block : (s : Statement) (c : ℕ) (v : Words) → (actors k).mid ≡ TakeBlock s c → w.block c ≢ Free →
      (c < p.config.blocks → SearchedBlocks p w s c a.mid v) →
      owed p lay a < owed p lay (actors k)
  loses_block s c v at differs searched =
      let there = (known (TakeBlock s c) at).1 in
      goes_on (TakeBlock s c) w v s c at (λ e. cc e) there
      (λ met. elim (seen (TakeBlock s c) at) [
        | inl free ↦ absurd (differs free)
        | inr (z, swept, given) ↦ let l = met_swept p lay w s c a.mid z swept met in omega arith
      ])
      (omega arith) (searched there)

  loses_slot : (s : Statement) (c i : ℕ) (v : Words) → (actors k).mid ≡ TakeSlot s c i → bit_at (w.used c) i ≡ 1 →
      (c < p.config.blocks → SearchedBlocks p (claimed w c i) s c a.mid v) → owed p lay a < owed p lay (actors k)
  loses_slot s c i v at set searched =
      let knows = known (TakeSlot s c i) at in
      let there = knows.1 in
      goes_on (TakeSlot s c i) (claimed w c i) v s c at (λ e. cc e) there
      (λ met. met_behind p lay (claimed w c i) s c a.mid (made_slot p s) i knows.2 (λ j l. below knows.4 j l) met)
      (omega arith) (searched there)
    where
      below : AreTaken (w.used c) i → (j : ℕ) → j ≤ i → bit_at ((claimed w c i).used c) j ≡ 1
      below taken j l = elim (cases_eq j i) [
        | inl e ↦ ap (λ u. bit_at u j) (put-same w.used c _) ∙ bit_kept (w.used c) i j (ap (bit_at (w.used c)) e ∙ set)
        | inr n ↦ ap (λ u. bit_at u j) (put-same w.used c _) ∙ bit_kept (w.used c) i j (taken j (omega arith))
      ]

  loses_sweep : (s : Statement) (c z : ℕ) (v : Words) → (actors k).mid ≡ TakeOver (Search s) c z → w.block c ≢ Need z →
      (c < p.config.blocks → SearchedBlocks p w s c a.mid v) → owed p lay a < owed p lay (actors k)
  loses_sweep s c z v at differs searched =
      let there = (known (TakeOver (Search s) c z) at).1 in
      goes_on (TakeOver (Search s) c z) w v s c at (λ e. cc e) there
      (λ met. let l = met_past p lay w s c a.mid (past (w.block c) refl) met in omega arith)
      (omega arith) (searched there)
    where
      past : (state : BlockWord) → w.block c ≡ state → IsPast state
      past Free e = tt
      past (Swept y) e = tt
      past (Sweeping y) e = tt
      past (Need y) e = differs (e ∙ ap Need (seen (TakeOver (Search s) c z) at y e))

  behind_sweep : (s : Statement) (c : ℕ) (v : Words) → (actors k).mid ≡ SeeBlock (Search s) true c → (c < p.config.blocks → SearchedBlocks p w s c a.mid v) →
      owed p lay a < owed p lay (actors k)
  behind_sweep s c v at searched =
      let there = (known (SeeBlock (Search s) true c) at).1 tt in
      goes_on (SeeBlock (Search s) true c) w v s c at (λ e. cc e) there
      (λ met. let l = met_past p lay w s c a.mid (seen (SeeBlock (Search s) true c) at) met in omega arith)
      (omega arith) (searched there)

  by_turn : (t : Step) (d : Bool) (ks swept : List ℕ) (v : Words) → Turned p lay k w (actors k) t d ks swept a.mid v → owed p lay a < owed p lay (actors k)
  by_turn t d ks swept v (GivesWay s rest idle script stop e m same kept) = left_over p lay (actors k) a idle left (ap (owed_at p lay) m)
  by_turn t d ks swept v (IsDone s rest idle script stop room immature h kept) =
      begun p lay (actors k) a idle left (λ e. let f : Idle ≡ Yielded = sym h.1 ∙ e in cc f) (let q = ap (owed_at p lay) h.1 in omega arith)
  by_turn t d ks swept v (Gathers s rest request is idle script stop e m set kept) = left_over p lay (actors k) a idle left (ap (owed_at p lay) m)
  by_turn t d ks swept v (Looks s rest idle script stop makes short e searched kept) = looks s v idle searched
  by_turn t d ks swept v (Wins s f seen mid saw h kept) =
      further p lay (actors k) a (Claim s f seen) mid (λ e. cc e) left (let q = ap (owed_at p lay) h.1 in omega arith)
  by_turn t d ks swept v (Loses s f seen mid differs e searched kept) = loses s f seen v mid differs searched
  by_turn t d ks swept v (Matures s rest idle script stop mature e searched kept) = matures s v idle searched
  by_turn t d ks swept v (WinsBlock s c mid saw searched kept) = wins_block s c v mid (λ l. (searched l).1)
  by_turn t d ks swept v (LosesBlock s c mid differs searched kept) = loses_block s c v mid differs (λ l. (searched l).1)
  by_turn t d ks swept v (WinsSlot s c i found mid step decides clear h kept) =
      further p lay (actors k) a (TakeSlot s c i) mid (λ e. cc e) left (let q = ap (owed_at p lay) h.1 in omega arith)
  by_turn t d ks swept v (LosesSlot s c i mid set searched kept) = loses_slot s c i v mid set (λ l. (searched l).1)
  by_turn t d ks swept v (WinsSweep s c z more mid saw e m same is kept) =
      further p lay (actors k) a (TakeOver (Search s) c z) mid (λ e. cc e) left (let q = ap (owed_at p lay) m in omega arith)
  by_turn t d ks swept v (LosesSweep s c z mid differs searched kept) = loses_sweep s c z v mid differs (λ l. (searched l).1)
  by_turn t d ks swept v (SweepsOne s c z mid e m same block used none) =
      further p lay (actors k) a (StoreOccupancy (Search s) c z) mid (λ e. cc e) left (let q = ap (owed_at p lay) m in omega arith)
  by_turn t d ks swept v (GoesOn s c mid searched kept) = behind_sweep s c v mid (λ l. (searched l).1)
  by_turn t d ks swept v (Roams r) = absurd (no_sweeper p (actors k).script (actors k).mid (x.position k) (bo.at k) r)

pub turns_owe_less : TurnsOweLess
turns_owe_less p lay g b order x w actors small blocks few bo k steps a sane sane' turn legal =
    let run = runs p lay k w (actors k) steps a (at_rest p (actors k).script (actors k).mid (x.position k) (bo.at k)) turn legal in
    by_turn p lay g b order x w actors small blocks few bo k steps a sane sane' turn run.first run.decides _ _ _ run.turned
