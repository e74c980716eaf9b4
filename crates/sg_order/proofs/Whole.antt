-- The induction over the list of events: one order of whole statements explains every legal list.
use Rattle.std.proofs.Common.{◌≡◌, ℕ, ◌+◌, ◌≤◌, ◌⊎◌, nat_lt, arith, Bool, true, false, eqb, List, [], ◌∷◌, ◌++◌, map, inl, inr, sym, refl, ap, ◌∙◌, subst, append_assoc, append-nil}
use Rattle.std.proofs.lemmas.Bool.{cases_eq, cases_Bool, eq-eqb, ne_eqb, cond-true, cond-false}
use Rattle.std.specs.Int.{bit_at}
use Rattle.sg_words.specs.declared.steps.BlockWord.TheVariants.{Free, Need}
use Rattle.sg_words.specs.declared.steps.BlockStep.TheVariants.{WonBlock, OrUsed}
use Rattle.sg_words.specs.declared.steps.Step.TheVariants.{OnBlock}
use Rattle.sg_words.specs.declared.steps.Step.{Step}
use Rattle.sg_words.specs.declared.steps.Tick.{Tick}
use Rattle.sg_words.specs.Words.{put, Words, Saw, after_step, after, Legal}
use Rattle.sg_words.specs.Events.{Event, ticks, part, order_of}
use Rattle.sg_program.specs.declared.program.Program.{Program}
use Rattle.sg_program.specs.declared.answers.Answer.{Answer}
use Rattle.sg_graph.specs.Graph.{Graph}
use Rattle.sg_graph.specs.Book.{Book, Old, slot_words}
use Rattle.sg_graph.specs.Epoch.{Said, Explains, IsNewOld, answers_of}
use Rattle.sg_graph.specs.Heap.{Owner, IsHeaded}
use Rattle.sg_program.specs.declared.program.Statement.{Statement}
use Rattle.sg_program.specs.declared.answers.Request.{Request}
use Rattle.sg_program.specs.Scripts.{IsMaking, IsCollecting, made_slot}
use Rattle.sg_graph.specs.Laws.{BlocksGo}
use Rattle.sg_rules.specs.Rules.{Constants, Search, Mid, Look, TakeBlock, TakeSlot, TakeOver, Ask, Retired, Actor, looking, Comes, BlockComes, NextStep, Follows}
use Rattle.sg_rules.specs.Rules.Comes.{test_null, test_begins, loads_tag, loads_length, test_fails, put_stores, put_stores_old, marks_card, putd_stores, get_loads, getd_loads, global_begins, gput_stores, gget_loads, num_sets, drop_clears, move_sets, push_sets, pop_sets, hide_null, hide_begins, hide_fits, hide_misses, unhide_sets, same_tells, new_bumps, new_looks, look_finds, look_goes_on, stop_asks, asks, yields, claim_wins, claim_moves, claim_goes_on, stores_length, stores_tag}
use Rattle.sg_rules.specs.Rules.BlockComes.{mature_begins, sees_free, takes_block, misses_block, sees_size, sees_full, sees_slot, takes_slot, misses_slot}
use Rattle.sg_rules.specs.Rules.BlockComes.{sees_other, sees_sweeping, sees_need, takes_over, misses_sweep, stores_occupancy, clears_first, clears_next, clears_last}
use Rattle.sg_rules.specs.Rules.BlockComes.{ends_sweep, roams_on, retires, roams_free, roams_swept}
use Rattle.sg_order.specs.Knowing.{IsPassed, HasPassedAll, KnowsAt, IsInSweep, IsInSearch}
use Rattle.sg_order.specs.Sweep.{winner_after, winners, IsLawful, IsHarmless, IsClaimedBy, Runs, taken_over, swept_of}
use Rattle.sg_words.proofs.Puts.{put-at, put-same, put-other, put-all}
use Rattle.sg_order.proofs.Events.{part-same, part-other}
use Rattle.sg_order.proofs.Relation.{Ground, Stands, Moves, WritesHeader, IsNeeded, Marks, Kept}
use Rattle.sg_order.proofs.Cases.{by_making, by_collecting}
use Rattle.sg_order.proofs.Beside.{Beside, World, passed_later, all_later, beside_later}
use Rattle.sg_order.proofs.BlockSteps.{IsAboutToClaim, Both, quietly}
use Rattle.sg_order.proofs.SearchSteps.{begins_search, sees_unswept, sees_busy, sees_another, sees_fitting, sees_filled, sees_open, misses_free, takes_free}
use Rattle.sg_order.proofs.SearchSteps.{misses_bit, roams, roams_to, claims_slot}
use Rattle.sg_order.proofs.SweepSteps.{misses_owed, takes_owed, stores_marks, clears_begin, clears_on, clears_end, ends_block}
use Rattle.sg_order.proofs.Lawful.{TakesOwed, fine}
use Rattle.sg_order.proofs.Once.{AreLawful, WereOwed}
use Rattle.sg_order.proofs.Frame.{stands_later}
use Rattle.sg_order.proofs.Loads.{nulls, begins, fails, sees_tag, sees_length, sets_number, clears, searches, finds_room, finds_small, claims_again, claims_on, wants, gives_way, leaves}
use Rattle.sg_order.proofs.Registers.{moves_over, pushes, takes_top, hides_nothing, begins_hiding, hides, hides_no_byte, unhides, compares}
use Rattle.sg_order.proofs.Accesses.{puts, puts_number, gets, gets_number}
use Rattle.sg_order.proofs.Cards.{puts_old, marks}
use Rattle.sg_order.proofs.Globals.{begins_global, puts_global, gets_global}
use Rattle.sg_order.proofs.Claims.{bumps, claims}
use Rattle.sg_order.proofs.Headers.{writes_length, writes_tag}

module _ (p : Program) (lay : Constants) (w : Words) (g : Graph) (b : Book) (said : ℕ → List Answer) (k : ℕ) (owner : ℕ → Owner)
    (t : Ground p lay w g b owner) where
  -- one step of a mutator: one line for each rule
  pub kept : (a : Actor) (e : Step) (d : Bool) (a' : Actor) → Comes p lay a e d a' → Saw w e → Stands p lay w g b said k a →
      Kept p lay w g b said k a.mid d (after_step w e) a'
  kept _ _ _ _ (test_null a s rest test e z) saw st = nulls p lay w g b said k owner t a rest s test e z st
  kept _ _ _ _ (test_begins a s rest test e z) saw st = begins p lay w g b said k owner t a rest s test e z st
  kept _ _ _ _ (loads_tag a s rest test class there) saw st = sees_tag p lay w g b said k owner t a rest s test class saw st
  kept _ _ _ _ (loads_length a s rest test class len short f) saw st = sees_length p lay w g b said k owner t a rest s test class len f saw st
  kept _ _ _ _ (test_fails a s rest test class len short f) saw st = fails p lay w g b said k owner t a rest s test class len f saw st
  kept _ _ _ _ (put_stores a rest r i s cardless) saw st = puts p lay w g b said k owner t a rest r i s cardless st
  kept _ _ _ _ (put_stores_old a rest r i s has) saw st = puts_old p lay w g b said k owner t a rest r i s has st
  kept _ _ _ _ (marks_card a rest s card) saw st = marks p lay w g b said k owner t a rest s card st
  kept _ _ _ _ (putd_stores a rest r i s) saw st = puts_number p lay w g b said k owner t a rest r i s st
  kept _ _ _ _ (get_loads a rest d r i v ref) saw st = gets p lay w g b said k owner t a rest d r i v saw st
  kept _ _ _ _ (getd_loads a rest d r i v) saw st = gets_number p lay w g b said k owner t a rest d r i v saw st
  kept _ _ _ _ (global_begins a s rest is) saw st = begins_global p lay w g b said k owner t a rest s is st
  kept _ _ _ _ (gput_stores a rest x r) saw st = puts_global p lay w g b said k owner t a rest x r st
  kept _ _ _ _ (gget_loads a rest r x v ref) saw st = gets_global p lay w g b said k owner t a rest r x v saw st
  kept _ _ _ _ (num_sets a rest d n) saw st = sets_number p lay w g b said k owner t a rest d n st
  kept _ _ _ _ (drop_clears a rest r) saw st = clears p lay w g b said k owner t a rest r st
  kept _ _ _ _ (move_sets a rest d s) saw st = moves_over p lay w g b said k owner t a rest d s st
  kept _ _ _ _ (push_sets a rest r) saw st = pushes p lay w g b said k owner t a rest r st
  kept _ _ _ _ (pop_sets a rest r top stack e) saw st = takes_top p lay w g b said k owner t a rest r top stack e st
  kept _ _ _ _ (hide_null a rest d s offset z) saw st = hides_nothing p lay w g b said k owner t a rest d s offset z st
  kept _ _ _ _ (hide_begins a rest d s offset z) saw st = begins_hiding p lay w g b said k owner t a rest d s offset z st
  kept _ _ _ _ (hide_fits a rest d s offset len short f) saw st = hides p lay w g b said k owner t a rest d s offset len f saw st
  kept _ _ _ _ (hide_misses a rest d s offset len short f) saw st = hides_no_byte p lay w g b said k owner t a rest d s offset len f saw st
  kept _ _ _ _ (unhide_sets a rest d s) saw st = unhides p lay w g b said k owner t a rest d s st
  kept _ _ _ _ (same_tells a rest r s) saw st = compares p lay w g b said k owner t a rest r s st
  kept _ _ _ _ (new_bumps a s rest making l) saw st = bumps p lay w g b said k owner t a rest s making l st
  kept _ _ _ _ (new_looks a s rest making l) saw st = searches p lay w g b said k owner t a rest s making l st
  kept _ _ _ _ (look_finds a s rest f next l) saw st = finds_room p lay w g b said k owner t a rest s f next l saw st
  kept _ _ _ _ (look_goes_on a s rest f next l) saw st = finds_small p lay w g b said k owner t a rest s f next l saw st
  kept _ _ _ _ (stop_asks a s rest request i) saw st = wants p lay w g b said k owner t a rest s request i st
  kept _ _ _ _ (asks a rest s) saw st = leaves p lay w g b said k owner t a rest s st
  kept _ _ _ _ (yields a s rest word set) saw st = gives_way p lay w g b said k owner t a rest s st
  kept _ _ _ _ (claim_wins a s rest f next) saw st = claims p lay w g b said k owner t a rest s f next saw st
  kept _ _ _ _ (claim_moves a s rest f seen next later l) saw st = claims_again p lay w g b said k owner t a rest s f seen next l saw.0 st
  kept _ _ _ _ (claim_goes_on a s rest f seen next later l) saw st = claims_on p lay w g b said k owner t a rest s f seen next l saw.0 st
  kept _ _ _ _ (stores_length a s rest x) saw st = writes_length p lay w g b said k owner t a rest s x st
  kept _ _ _ _ (stores_tag a s rest x) saw st = writes_tag p lay w g b said k owner t a rest s x st

-- a statement that makes an object in the nursery, or asks in any case, knows nothing of blocks
making_knows : (p : Program) (w : Words) (owed : ℕ → Bool) (s : Statement) → IsMaking s → HasPassedAll p w owed s
making_knows p w owed s making = by_making (λ s. HasPassedAll p w owed s) (λ r class. tt) (λ r class count. tt) s making

collecting_knows : (p : Program) (w : Words) (owed : ℕ → Bool) (s : Statement) (request : Request) → IsCollecting s request → HasPassedAll p w owed s
collecting_knows p w owed s request i = by_collecting (λ s. HasPassedAll p w owed s) (λ major. tt) tt s request i

-- A step on no block, of an actor that is in no sweep and in no search: it leaves the blocks' own words, and what its actor knows of blocks then is what
-- who asks for a slot knew before.
record Calm (p : Program) (lay : Constants) (w : Words) (owed : ℕ → Bool) (by : ℕ → ℕ) (k : ℕ) (mid : Mid) (v : Words) (owed' : ℕ → Bool)
    (mid' : Mid) : Type 0 where
  block : v.block ≡ w.block
  used : v.used ≡ w.used
  unswept : (c z : ℕ) → IsInSweep c z mid → ⊥
  unsearched : (c z : ℕ) → IsInSearch p c z mid → ⊥
  knows : KnowsAt p lay w owed by k mid → ((s : Statement) → HasPassedAll p w owed s → HasPassedAll p v owed' s) → KnowsAt p lay v owed' by k mid'

module _ (p : Program) (lay : Constants) (w : Words) (g : Graph) (b : Book) (said : ℕ → List Answer) (by : ℕ → ℕ) (k : ℕ) (owed' : ℕ → Bool) where
  as_calm : {mid mid' : Mid} {v : Words} → v.block ≡ w.block → v.used ≡ w.used → ((c z : ℕ) → IsInSweep c z mid → ⊥) →
      ((c z : ℕ) → IsInSearch p c z mid → ⊥) →
      (KnowsAt p lay w b.owed by k mid → ((s : Statement) → HasPassedAll p w b.owed s → HasPassedAll p v owed' s) → KnowsAt p lay v owed' by k mid') →
      Calm p lay w b.owed by k mid v owed' mid'
  as_calm block used unswept unsearched knows =
      record { block = block; used = used; unswept = unswept; unsearched = unsearched; knows = knows }

  looks : (s : Statement) (f : ℕ) → IsMaking s → KnowsAt p lay w owed' by k (looking lay s f)
  looks s f making = elim (cases_Bool (nat_lt f lay.fragments)) [
    | inl e ↦ subst (λ mid. KnowsAt p lay w owed' by k mid) (sym (cond-true (nat_lt f lay.fragments) (Look s f) (Ask s) e)) tt
    | inr e ↦ subst (λ mid. KnowsAt p lay w owed' by k mid) (sym (cond-false (nat_lt f lay.fragments) (Look s f) (Ask s) e)) (making_knows p w owed' s making)
  ]

  collects : (s : Statement) (request : Request) → IsCollecting s request → KnowsAt p lay w owed' by k (Ask s)
  collects s request i = collecting_knows p w owed' s request i

  -- each rule of `Comes` is such a step: one line for each
  calm : (a : Actor) (e : Step) (d : Bool) (a' : Actor) → Comes p lay a e d a' → Stands p lay w g b said k a →
      Calm p lay w b.owed by k a.mid (after_step w e) owed' a'.mid
  calm _ _ _ _ (test_null a s rest test e z) st = as_calm refl refl (λ c z h. h) (λ c z h. h) (λ m q. tt)
  calm _ _ _ _ (test_begins a s rest test e z) st = as_calm refl refl (λ c z h. h) (λ c z h. h) (λ m q. tt)
  calm _ _ _ _ (loads_tag a s rest test class there) st = as_calm refl refl (λ c z h. h) (λ c z h. h) (λ m q. tt)
  calm _ _ _ _ (loads_length a s rest test class len short f) st = as_calm refl refl (λ c z h. h) (λ c z h. h) (λ m q. tt)
  calm _ _ _ _ (test_fails a s rest test class len short f) st = as_calm refl refl (λ c z h. h) (λ c z h. h) (λ m q. tt)
  calm _ _ _ _ (put_stores a rest r i s cardless) st = as_calm refl refl (λ c z h. h) (λ c z h. h) (λ m q. tt)
  calm _ _ _ _ (put_stores_old a rest r i s has) st = as_calm refl refl (λ c z h. h) (λ c z h. h) (λ m q. tt)
  calm _ _ _ _ (marks_card a rest s card) st = as_calm refl refl (λ c z h. h) (λ c z h. h) (λ m q. tt)
  calm _ _ _ _ (putd_stores a rest r i s) st = as_calm refl refl (λ c z h. h) (λ c z h. h) (λ m q. tt)
  calm _ _ _ _ (get_loads a rest d r i v ref) st = as_calm refl refl (λ c z h. h) (λ c z h. h) (λ m q. tt)
  calm _ _ _ _ (getd_loads a rest d r i v) st = as_calm refl refl (λ c z h. h) (λ c z h. h) (λ m q. tt)
  calm _ _ _ _ (global_begins a s rest is) st = as_calm refl refl (λ c z h. h) (λ c z h. h) (λ m q. tt)
  calm _ _ _ _ (gput_stores a rest x r) st = as_calm refl refl (λ c z h. h) (λ c z h. h) (λ m q. tt)
  calm _ _ _ _ (gget_loads a rest r x v ref) st = as_calm refl refl (λ c z h. h) (λ c z h. h) (λ m q. tt)
  calm _ _ _ _ (num_sets a rest d n) st = as_calm refl refl (λ c z h. h) (λ c z h. h) (λ m q. tt)
  calm _ _ _ _ (drop_clears a rest r) st = as_calm refl refl (λ c z h. h) (λ c z h. h) (λ m q. tt)
  calm _ _ _ _ (move_sets a rest d s) st = as_calm refl refl (λ c z h. h) (λ c z h. h) (λ m q. tt)
  calm _ _ _ _ (push_sets a rest r) st = as_calm refl refl (λ c z h. h) (λ c z h. h) (λ m q. tt)
  calm _ _ _ _ (pop_sets a rest r top stack e) st = as_calm refl refl (λ c z h. h) (λ c z h. h) (λ m q. tt)
  calm _ _ _ _ (hide_null a rest d s offset z) st = as_calm refl refl (λ c z h. h) (λ c z h. h) (λ m q. tt)
  calm _ _ _ _ (hide_begins a rest d s offset z) st = as_calm refl refl (λ c z h. h) (λ c z h. h) (λ m q. tt)
  calm _ _ _ _ (hide_fits a rest d s offset len short f) st = as_calm refl refl (λ c z h. h) (λ c z h. h) (λ m q. tt)
  calm _ _ _ _ (hide_misses a rest d s offset len short f) st = as_calm refl refl (λ c z h. h) (λ c z h. h) (λ m q. tt)
  calm _ _ _ _ (unhide_sets a rest d s) st = as_calm refl refl (λ c z h. h) (λ c z h. h) (λ m q. tt)
  calm _ _ _ _ (same_tells a rest r s) st = as_calm refl refl (λ c z h. h) (λ c z h. h) (λ m q. tt)
  calm _ _ _ _ (new_bumps a s rest making l) st = as_calm refl refl (λ c z h. h) (λ c z h. h) (λ m q. tt)
  calm _ _ _ _ (new_looks a s rest making l) st = as_calm refl refl (λ c z h. h) (λ c z h. h) (λ m q. looks s 0 making)
  calm _ _ _ _ (look_finds a s rest f next l) st = as_calm refl refl (λ c z h. h) (λ c z h. h) (λ m q. tt)
  calm _ _ _ _ (look_goes_on a s rest f next l) st = as_calm refl refl (λ c z h. h) (λ c z h. h) (λ m q. looks s (f + 1) st.at.0)
  calm _ _ _ _ (stop_asks a s rest request i) st = as_calm refl refl (λ c z h. h) (λ c z h. h) (λ m q. collects s request i)
  calm _ _ _ _ (asks a rest s) st = as_calm refl refl (λ c z h. h) (λ c z h. h) (λ m q. q s m)
  calm _ _ _ _ (yields a s rest word set) st = as_calm refl refl (λ c z h. h) (λ c z h. h) (λ m q. tt)
  calm _ _ _ _ (claim_wins a s rest f next) st = as_calm refl refl (λ c z h. h) (λ c z h. h) (λ m q. tt)
  calm _ _ _ _ (claim_moves a s rest f seen next later l) st = as_calm refl refl (λ c z h. h) (λ c z h. h) (λ m q. tt)
  calm _ _ _ _ (claim_goes_on a s rest f seen next later l) st = as_calm refl refl (λ c z h. h) (λ c z h. h) (λ m q. looks s (f + 1) st.at.0)
  calm _ _ _ _ (stores_length a s rest x) st = as_calm refl refl (λ c z h. h) (λ c z h. h) (λ m q. tt)
  calm _ _ _ _ (stores_tag a s rest x) st = as_calm refl refl (λ c z h. h) (λ c z h. h) (λ m q. tt)

module _ (go : BlocksGo) (p : Program) (lay : Constants) (w : Words) (g : Graph) (b : Book) (said : ℕ → List Answer) (by : ℕ → ℕ) (k : ℕ)
    (owner : ℕ → Owner) (t : Ground p lay w g b owner) where
  -- a step on no block
  both_calm : (a : Actor) (e : Step) (d : Bool) (a' : Actor) → Comes p lay a e d a' → Saw w e → Stands p lay w g b said k a →
      Beside p lay w b by k a.mid → Both p lay w g b said by k by a.mid d (after_step w e) a'
  both_calm a e d a' comes saw st be =
      let step = kept p lay w g b said k owner t a e d a' comes saw st in
      let quiet = calm p lay w g b said by k step.c.owed a e d a' comes st in
      quietly p lay w g b said by k owner t a.mid d (after_step w e) a' step quiet.block quiet.used be quiet.unswept quiet.unsearched
      (λ bl. quiet.knows be.at (λ s m. all_later p lay w b by (after_step w e) step.c by k bl s m))

  -- it is by no exchange of a block's word
  same_winner : (a : Actor) (e : Step) (d : Bool) (a' : Actor) → Comes p lay a e d a' → by ≡ winner_after by k e
  same_winner _ _ _ _ (test_null a s rest test e z) = refl
  same_winner _ _ _ _ c = refl

  -- a step on blocks: one line for each rule
  both_blocks : (a : Actor) (e : Step) (d : Bool) (a' : Actor) → BlockComes p lay a e d a' → Saw w e → Stands p lay w g b said k a →
      Beside p lay w b by k a.mid → Both p lay w g b said by k (winner_after by k e) a.mid d (after_step w e) a'
  both_blocks _ _ _ _ (mature_begins a s rest mature) saw st be = begins_search p lay w g b said by k owner t a rest s mature st be
  both_blocks _ _ _ _ (sees_free a s rest begins c) saw st be =
      sees_unswept p lay w g b said by k owner t a rest (Search s) begins c Free (TakeBlock s c) saw (λ y q. cc) st be st.at (be.at.0, be.at.1 tt)
  both_blocks _ _ _ _ (takes_block a s rest c) saw st be = takes_free p lay w g b said by k owner t a rest s c saw st be
  both_blocks _ _ _ _ (misses_block a s rest c found) saw st be = misses_free p lay w g b said by k owner t a rest s c st be
  both_blocks _ _ _ _ (sees_size a s rest begins c) saw st be = sees_fitting p lay w g b said by k owner t a rest s begins c saw st be
  both_blocks _ _ _ _ (sees_full a s rest c u full) saw st be =
      sees_filled p lay w g b said by k owner t a rest s c (λ i l. ap (λ v. bit_at v i) saw ∙ full i l) st be
  both_blocks _ _ _ _ (sees_slot a s rest c i u l o below) saw st be =
      sees_open p lay w g b said by k owner t a rest s c i l (λ x q. ap (λ v. bit_at v x) saw ∙ below x q) st be
  both_blocks _ _ _ _ (takes_slot a s rest c i found o) saw st be =
      claims_slot p lay w g b said by k owner t a rest go s c i (ap (λ v. bit_at v i) saw ∙ o) st be
  both_blocks _ _ _ _ (misses_slot a s rest c i found o) saw st be =
      misses_bit p lay w g b said by k owner t a rest s c i (ap (λ v. bit_at v i) saw ∙ o) st be
  both_blocks _ _ _ _ (sees_other a s rest begins c z o) saw st be = sees_another p lay w g b said by k owner t a rest s begins c z o saw st be
  both_blocks _ _ _ _ (sees_sweeping a u rest begins c z may) saw st be = sees_busy p lay w g b said by k owner t a rest u begins c z may saw st be
  both_blocks _ _ _ _ (sees_need a u rest begins c z may class) saw st be =
      sees_unswept p lay w g b said by k owner t a rest u begins c (Need z) (TakeOver u c z) saw (λ y q. cc) st be st.at (be.at.0, be.at.1 may, class)
  both_blocks _ _ _ _ (takes_over a u rest c z) saw st be = takes_owed p lay w g b said by k owner t a rest u c z saw st be
  both_blocks _ _ _ _ (misses_sweep a u rest c z found) saw st be = misses_owed p lay w g b said by k owner t a rest u c z st be
  both_blocks _ _ _ _ (stores_occupancy a u rest c z) saw st be = stores_marks p lay w g b said by k owner t a rest u c z st be
  both_blocks _ _ _ _ (clears_first a u rest c z i j le f marked o one) saw st be =
      clears_begin p lay w g b said by k owner t a rest u c z i j le f marked o one st be
  both_blocks _ _ _ _ (clears_next a u rest c z i f l) saw st be = clears_on p lay w g b said by k owner t a rest u c z i f l st be
  both_blocks _ _ _ _ (clears_last a u rest c z i f l) saw st be = clears_end p lay w g b said by k owner t a rest u c z i f l st be
  both_blocks _ _ _ _ (ends_sweep a u rest c z i marked) saw st be = ends_block p lay w g b said by k owner t a rest u c z i marked st be
  both_blocks _ _ _ _ (roams_on a rest c) saw st be = roams_to p lay w g b said by k owner t a rest true c c st be
  both_blocks _ _ _ _ (retires a rest c v set) saw st be = roams p lay w g b said by k owner t a rest true c Retired st be st.at tt
  both_blocks _ _ _ _ (roams_free a rest c) saw st be = roams_to p lay w g b said by k owner t a rest false c (c + 1) st be
  both_blocks _ _ _ _ (roams_swept a rest c z) saw st be = roams_to p lay w g b said by k owner t a rest false c (c + 1) st be

  -- one step of an actor
  pub both : (a : Actor) (e : Step) (d : Bool) (a' : Actor) → NextStep p lay a e d a' → Saw w e → Stands p lay w g b said k a →
      Beside p lay w b by k a.mid → Both p lay w g b said by k (winner_after by k e) a.mid d (after_step w e) a'
  both a e d a' comes saw st be = elim comes [
    | inl comes ↦ subst (λ by'. Both p lay w g b said by k by' a.mid d (after_step w e) a') (same_winner a e d a' comes) (both_calm a e d a' comes saw st be)
    | inr comes ↦ both_blocks a e d a' comes saw st be
  ]

-- from words w that stand to g and b, a list of events leads to others that stand to the graph and the book after one order
pub record Explained (p : Program) (lay : Constants) (first : ℕ) (es : List Event) (w : Words) (g : Graph) (b : Book) (said : ℕ → List Answer)
    (by : ℕ → ℕ) (last : ℕ → Actor) : Type 0 where
  pub order : List Said
  pub graph : Graph
  pub book : Book
  pub says : ℕ → List Answer
  pub explains : Explains p g b order graph book
  pub said_is : (k : ℕ) → says k ≡ said k ++ answers_of k order
  -- the order is that of the deciding steps
  pub order_is : map (λ (s : Said). s.by) order ≡ order_of es
  pub owed : book.owed ≡ b.owed
  pub runs : Runs p lay w by g b es order graph book
  pub were_owed : WereOwed p b.owed (swept_of es)
  pub world : World p lay first (after w (ticks es)) graph book says (winners by es) last

-- each step of what runs is lawful
pub lawful_runs : (p : Program) (lay : Constants) (es : List Event) (w : Words) (by : ℕ → ℕ) (g h : Graph) (b c : Book) (order : List Said) →
    Runs p lay w by g b es order h c → AreLawful p lay w by es
lawful_runs p lay [] w by g h b c order r = tt
lawful_runs p lay (e ∷ es) w by g h b c order r =
    (r.4, lawful_runs p lay es (after_step w e.tick.step) (winner_after by e.by e.tick.step) r.0 h r.1 c r.2 r.6)

-- a step that takes over only what is owed, and what does so later
owed_more : (p : Program) (owed : ℕ → Bool) (e : Step) (more : List ℕ) → TakesOwed p owed e → WereOwed p owed more → WereOwed p owed (taken_over e more)
owed_more p owed (OnBlock (WonBlock c (Need z) new)) more here later = (here, later)
owed_more p owed e more here later = later

said_more : (said said1 said2 : ℕ → List Answer) (k : ℕ) (answer : Answer) (order : List Said) → said1 ≡ put said k (said k ++ answer ∷ []) →
    ((j : ℕ) → said2 j ≡ said1 j ++ answers_of j order) →
    (j : ℕ) → said2 j ≡ said j ++ answers_of j (record { by = k; answer = answer } ∷ order)
said_more said said1 said2 k answer order e f j = elim (cases_eq k j) [
  | inl q ↦ f j ∙ ap (λ (s : ℕ → List Answer). s j ++ answers_of j order) e ∙ ap (λ xs. xs ++ answers_of j order)
      (put-at said k (said k ++ answer ∷ []) j (sym q) ∙ ap (λ i. said i ++ answer ∷ []) q)
      ∙ append_assoc (said j) (answer ∷ []) (answers_of j order) ∙ sym (ap (λ xs. said j ++ xs) (cond-true (eqb k j) _ _ (eq-eqb k j q)))
  | inr n ↦ f j ∙ ap (λ (s : ℕ → List Answer). s j ++ answers_of j order) e ∙ ap (λ xs. xs ++ answers_of j order)
      (put-other said k (said k ++ answer ∷ []) j (λ q. n (sym q)))
      ∙ sym (ap (λ xs. said j ++ xs) (cond-false (eqb k j) _ _ (ne_eqb k j n)))
]

-- no step but one on blocks is that of an actor that is about to claim a slot
no_claim : (p : Program) (lay : Constants) (a : Actor) (e : Step) (d : Bool) (a' : Actor) → Comes p lay a e d a' → (s : Statement) (c i : ℕ) →
    a.mid ≡ TakeSlot s c i → ⊥
no_claim p lay _ _ _ _ (test_null a s rest test e z) s' c' i' q = cc q
no_claim p lay _ _ _ _ (test_begins a s rest test e z) s' c' i' q = cc q
no_claim p lay _ _ _ _ (loads_tag a s rest test class there) s' c' i' q = cc q
no_claim p lay _ _ _ _ (loads_length a s rest test class len short f) s' c' i' q = cc q
no_claim p lay _ _ _ _ (test_fails a s rest test class len short f) s' c' i' q = cc q
no_claim p lay _ _ _ _ (put_stores a rest r i s cardless) s' c' i' q = cc q
no_claim p lay _ _ _ _ (put_stores_old a rest r i s has) s' c' i' q = cc q
no_claim p lay _ _ _ _ (marks_card a rest s card) s' c' i' q = cc q
no_claim p lay _ _ _ _ (putd_stores a rest r i s) s' c' i' q = cc q
no_claim p lay _ _ _ _ (get_loads a rest d r i v ref) s' c' i' q = cc q
no_claim p lay _ _ _ _ (getd_loads a rest d r i v) s' c' i' q = cc q
no_claim p lay _ _ _ _ (global_begins a s rest is) s' c' i' q = cc q
no_claim p lay _ _ _ _ (gput_stores a rest x r) s' c' i' q = cc q
no_claim p lay _ _ _ _ (gget_loads a rest r x v ref) s' c' i' q = cc q
no_claim p lay _ _ _ _ (num_sets a rest d n) s' c' i' q = cc q
no_claim p lay _ _ _ _ (drop_clears a rest r) s' c' i' q = cc q
no_claim p lay _ _ _ _ (move_sets a rest d s) s' c' i' q = cc q
no_claim p lay _ _ _ _ (push_sets a rest r) s' c' i' q = cc q
no_claim p lay _ _ _ _ (pop_sets a rest r top stack e) s' c' i' q = cc q
no_claim p lay _ _ _ _ (hide_null a rest d s offset z) s' c' i' q = cc q
no_claim p lay _ _ _ _ (hide_begins a rest d s offset z) s' c' i' q = cc q
no_claim p lay _ _ _ _ (hide_fits a rest d s offset len short f) s' c' i' q = cc q
no_claim p lay _ _ _ _ (hide_misses a rest d s offset len short f) s' c' i' q = cc q
no_claim p lay _ _ _ _ (unhide_sets a rest d s) s' c' i' q = cc q
no_claim p lay _ _ _ _ (same_tells a rest r s) s' c' i' q = cc q
no_claim p lay _ _ _ _ (new_bumps a s rest making l) s' c' i' q = cc q
no_claim p lay _ _ _ _ (new_looks a s rest making l) s' c' i' q = cc q
no_claim p lay _ _ _ _ (look_finds a s rest f next l) s' c' i' q = cc q
no_claim p lay _ _ _ _ (look_goes_on a s rest f next l) s' c' i' q = cc q
no_claim p lay _ _ _ _ (stop_asks a s rest request i) s' c' i' q = cc q
no_claim p lay _ _ _ _ (asks a rest s) s' c' i' q = cc q
no_claim p lay _ _ _ _ (yields a s rest word set) s' c' i' q = cc q
no_claim p lay _ _ _ _ (claim_wins a s rest f next) s' c' i' q = cc q
no_claim p lay _ _ _ _ (claim_moves a s rest f seen next later l) s' c' i' q = cc q
no_claim p lay _ _ _ _ (claim_goes_on a s rest f seen next later l) s' c' i' q = cc q
no_claim p lay _ _ _ _ (stores_length a s rest x) s' c' i' q = cc q
no_claim p lay _ _ _ _ (stores_tag a s rest x) s' c' i' q = cc q

same_bit : (s s' : Statement) (c c' i i' found : ℕ) → TakeSlot s c i ≡ TakeSlot s' c' i' → OnBlock (OrUsed c i found) ≡ OnBlock (OrUsed c' i' found)
same_bit s s' c c' i i' found q = let e : c ≡ c' = cc q in let f : i ≡ i' = cc q in ap (λ x. OnBlock (OrUsed x i found)) e ∙ ap (λ x. OnBlock (OrUsed c' x found)) f

-- the step of an actor that is about to claim a slot is on that slot's bit
claims_bit : (p : Program) (lay : Constants) (a : Actor) (e : Step) (d : Bool) (a' : Actor) → BlockComes p lay a e d a' → (s : Statement) (c i : ℕ) →
    a.mid ≡ TakeSlot s c i → (found : ℕ) × (e ≡ OnBlock (OrUsed c i found))
claims_bit p lay _ _ _ _ (takes_slot a s rest c i found o) s' c' i' q = let f : TakeSlot s c i ≡ TakeSlot s' c' i' = q in (found, same_bit s s' c c' i i' found f)
claims_bit p lay _ _ _ _ (misses_slot a s rest c i found o) s' c' i' q = let f : TakeSlot s c i ≡ TakeSlot s' c' i' = q in (found, same_bit s s' c c' i i' found f)
claims_bit p lay _ _ _ _ (mature_begins a s rest is) s' c' i' q = cc q
claims_bit p lay _ _ _ _ (sees_free a s rest begins c) s' c' i' q = cc q
claims_bit p lay _ _ _ _ (takes_block a s rest c) s' c' i' q = cc q
claims_bit p lay _ _ _ _ (misses_block a s rest c found) s' c' i' q = cc q
claims_bit p lay _ _ _ _ (sees_size a s rest begins c) s' c' i' q = cc q
claims_bit p lay _ _ _ _ (sees_full a s rest c u full) s' c' i' q = cc q
claims_bit p lay _ _ _ _ (sees_slot a s rest c i u l o below) s' c' i' q = cc q
claims_bit p lay _ _ _ _ (sees_other a s rest begins c z o) s' c' i' q = cc q
claims_bit p lay _ _ _ _ (sees_sweeping a u rest begins c z may) s' c' i' q = cc q
claims_bit p lay _ _ _ _ (sees_need a u rest begins c z may class) s' c' i' q = cc q
claims_bit p lay _ _ _ _ (takes_over a u rest c z) s' c' i' q = cc q
claims_bit p lay _ _ _ _ (misses_sweep a u rest c z found) s' c' i' q = cc q
claims_bit p lay _ _ _ _ (stores_occupancy a u rest c z) s' c' i' q = cc q
claims_bit p lay _ _ _ _ (clears_first a u rest c z i j le f marked o one) s' c' i' q = cc q
claims_bit p lay _ _ _ _ (clears_next a u rest c z i f l) s' c' i' q = cc q
claims_bit p lay _ _ _ _ (clears_last a u rest c z i f l) s' c' i' q = cc q
claims_bit p lay _ _ _ _ (ends_sweep a u rest c z i marked) s' c' i' q = cc q
claims_bit p lay _ _ _ _ (roams_on a rest c) s' c' i' q = cc q
claims_bit p lay _ _ _ _ (retires a rest c v set) s' c' i' q = cc q
claims_bit p lay _ _ _ _ (roams_free a rest c) s' c' i' q = cc q
claims_bit p lay _ _ _ _ (roams_swept a rest c z) s' c' i' q = cc q

-- so an object that is new in the major heap stands where the step claims
module _ (p : Program) (lay : Constants) (w : Words) (g : Graph) (b : Book) (k : ℕ) (owner : ℕ → Owner) (t : Ground p lay w g b owner) where
  claims_of : (a : Actor) (e : Step) (d : Bool) (a' : Actor) → NextStep p lay a e d a' → (c : Book) →
      ((n : ℕ) → 1 ≤ n → c.stands n ≡ true → c.section n ≡ Old → (b.stands n ≡ true) ⊎ IsAboutToClaim p w a.mid c n) →
      (name : ℕ) → IsNewOld g.count c name → IsClaimedBy p w e c name
  claims_of a e d a' comes c born name new = elim (born name (let l = new.new in omega arith) new.stands new.old) [
    | inl old ↦ absurd (let l = t.laid.objects.given name old in let m = new.new in omega arith)
    | inr claim ↦
        let step : (found : ℕ) × (e ≡ OnBlock (OrUsed claim.block claim.slot found)) = elim comes [
          | inl other ↦ absurd (no_claim p lay a e d a' other claim.statement claim.block claim.slot claim.at)
          | inr on ↦ claims_bit p lay a e d a' on claim.statement claim.block claim.slot claim.at
        ] in
        record { block = claim.block; slot = claim.slot; size = made_slot p claim.statement; found = step.0; claims = step.1; word = claim.word; at = claim.place }
  ]

-- a step that decided a statement or none, and what explains the rest
more : (p : Program) (lay : Constants) (first k : ℕ) (tick : Tick) (es : List Event) (w : Words) (g : Graph) (b : Book) (said : ℕ → List Answer)
    (by : ℕ → ℕ) (last : ℕ → Actor) (h : Graph) (c : Book) (said1 : ℕ → List Answer) →
    Moves p g b said k tick.decides h c said1 → c.owed ≡ b.owed →
    IsLawful p lay w by k tick.step → IsHarmless p lay w g b tick.step → TakesOwed p b.owed tick.step →
    ((name : ℕ) → IsNewOld g.count c name → IsClaimedBy p w tick.step c name) →
    Explained p lay first es (after_step w tick.step) h c said1 (winner_after by k tick.step) last →
    Explained p lay first (record { by = k; tick = tick } ∷ es) w g b said by last
more p lay first k tick es w g b said by last h c said1 m kept lawful harmless takes claims x = go tick.decides m
  where
    were : WereOwed p b.owed (taken_over tick.step (swept_of es))
    were = owed_more p b.owed tick.step (swept_of es) takes (subst (λ owed. WereOwed p owed (swept_of es)) kept x.were_owed)

    go : (d : Bool) → Moves p g b said k d h c said1 →
        Explained p lay first (record { by = k; tick = record { step = tick.step; decides = d } } ∷ es) w g b said by last
    go true m = record {
      order = record { by = k; answer = m.0 } ∷ x.order;
      graph = x.graph;
      book = x.book;
      says = x.says;
      explains = (h, c, m.1, x.explains);
      said_is = said_more said said1 x.says k m.0 x.order m.2 x.said_is;
      order_is = ap (λ xs. k ∷ xs) x.order_is;
      owed = x.owed ∙ kept;
      runs = (h, c, x.order, (m.0, refl, m.1, claims), lawful, harmless, x.runs);
      were_owed = were;
      world = x.world;
    }
    go false m = record {
      order = x.order;
      graph = x.graph;
      book = x.book;
      says = x.says;
      explains = subst (λ g. Explains p g b x.order x.graph x.book) m.0 (subst (λ b. Explains p h b x.order x.graph x.book) m.1 x.explains);
      said_is = λ j. x.said_is j ∙ ap (λ (s : ℕ → List Answer). s j ++ answers_of j x.order) m.2;
      order_is = x.order_is;
      owed = x.owed ∙ kept;
      runs = (h, c, x.order, (refl, m.0, m.1), lawful, harmless, x.runs);
      were_owed = were;
      world = x.world;
    }

-- after a step each object is headed, or a mutator is about to write its header
headed_later : (p : Program) (lay : Constants) (w : Words) (g : Graph) (b : Book) (said : ℕ → List Answer) (actors : ℕ → Actor) (k : ℕ) (d : Bool) (v : Words)
    (a : Actor) →
    ((n : ℕ) → 1 ≤ n → b.stands n ≡ true → IsHeaded w.word g b n ⊎ ((j : ℕ) × WritesHeader (b.address n) (actors j).mid)) →
    (step : Kept p lay w g b said k (actors k).mid d v a) →
    (n : ℕ) → 1 ≤ n → step.c.stands n ≡ true → IsHeaded v.word step.h step.c n ⊎ ((j : ℕ) × WritesHeader (step.c.address n) (put actors k a j).mid)
headed_later p lay w g b said actors k d v a before step n l q =
    let here : WritesHeader (step.c.address n) a.mid →
    WritesHeader (step.c.address n) (put actors k a k).mid = λ m. subst (λ (x : Actor). WritesHeader (step.c.address n) x.mid) (sym (put-same actors k a)) m in
    elim (step.heads.begun n q) [
      | inr m ↦ inr (k, here m)
      | inl old ↦ elim (before n l old) [
        | inl h ↦ elim (step.later.known n (old, inr h)).1 [ inl z ↦ absurd (omega arith) | inr h ↦ inl h ]
        | inr m ↦ elim (cases_eq m.0 k) [
          | inl e ↦ elim (step.heads.done n old (subst (λ j. WritesHeader (b.address n) (actors j).mid) e m.1)) [ inl h ↦ inl h | inr m ↦ inr (k, here m) ]
          | inr o ↦ inr (
            m.0,
            subst (λ (x : Actor). WritesHeader (step.c.address n) x.mid) (sym (put-other actors k a m.0 o))
                (subst (λ x. WritesHeader x (actors m.0).mid) (sym (step.later.address n old)) m.1),
          )
        ]
      ]
    ]

-- and each card that is needed is dirty, or a mutator is about to mark it
carded_later : (p : Program) (lay : Constants) (w : Words) (g : Graph) (b : Book) (said : ℕ → List Answer) (actors : ℕ → Actor) (k : ℕ) (d : Bool) (v : Words)
    (a : Actor) →
    ((card : ℕ) → IsNeeded p g b card → (w.card card ≡ 1) ⊎ ((j : ℕ) × Marks card (actors j).mid)) →
    (step : Kept p lay w g b said k (actors k).mid d v a) →
    (card : ℕ) → IsNeeded p step.h step.c card → (v.card card ≡ 1) ⊎ ((j : ℕ) × Marks card (put actors k a j).mid)
carded_later p lay w g b said actors k d v a before step card q =
    elim (step.cards.begun card q) [
      | inr m ↦ inr (k, subst (λ (x : Actor). Marks card x.mid) (sym (put-same actors k a)) m)
      | inl old ↦ elim (before card old) [
        | inl dirty ↦ inl (step.later.dirty card dirty)
        | inr m ↦ elim (cases_eq m.0 k) [
          | inl e ↦ inl (step.cards.done card (subst (λ j. Marks card (actors j).mid) e m.1))
          | inr o ↦ inr (m.0, subst (λ (x : Actor). Marks card x.mid) (sym (put-other actors k a m.0 o)) m.1)
        ]
      ]
    ]

pub one_by_one : BlocksGo → (p : Program) (lay : Constants) (first : ℕ) (es : List Event) (w : Words) (g : Graph) (b : Book) (said : ℕ → List Answer)
    (by : ℕ → ℕ) (actors last : ℕ → Actor) → World p lay first w g b said by actors → Legal w (ticks es) →
    ((k : ℕ) → Follows p lay (actors k) (part k es) (last k)) → Explained p lay first es w g b said by last
one_by_one moves p lay first [] w g b said by actors last wo legal follows = record {
  order = [];
  graph = g;
  book = b;
  says = said;
  explains = (refl, refl);
  said_is = λ k. sym (append-nil (said k));
  order_is = refl;
  owed = refl;
  runs = (refl, refl, refl);
  were_owed = tt;
  world = record {
    owner = wo.owner;
    ground = wo.ground;
    stands = λ k. subst (λ a. Stands p lay w g b said k a) (sym (follows k)) (wo.stands k);
    beside = λ k. subst (λ (a : Actor). Beside p lay w b by k a.mid) (sym (follows k)) (wo.beside k);
    headed = λ n l q. elim (wo.headed n l q) [
      | inl h ↦ inl h
      | inr m ↦ inr
          (m.0, subst (λ (a : Actor). WritesHeader (b.address n) a.mid) (sym (follows m.0)) m.1)
    ];
    carded = λ card q. elim (wo.carded card q) [
      | inl dirty ↦ inl dirty
      | inr m ↦ inr (m.0, subst (λ (a : Actor). Marks card a.mid) (sym (follows m.0)) m.1)
    ];
    lower = wo.lower;
  };
}
one_by_one moves p lay first (e ∷ es) w g b said by actors last wo legal follows =
    let k = e.by in
    let v = after_step w e.tick.step in
    let by' = winner_after by k e.tick.step in
    let mine = subst (λ q. Follows p lay (actors k) q (last k)) (part-same e es) (follows k) in
    let a' = mine.0 in
    let pair = both moves p lay w g b said by k wo.owner wo.ground (actors k) e.tick.step e.tick.decides a' mine.1 legal.0 (wo.stands k) (wo.beside k) in
    let step = pair.kept in
    let good = fine p lay w g b by k wo.owner wo.ground (actors k) e.tick.step e.tick.decides a' mine.1 legal.0 (wo.beside k) in
    more p lay first k e.tick es w g b said by last step.h step.c step.said' step.moves pair.later.owed good.lawful good.harmless good.owed
    (claims_of p lay w g b k wo.owner wo.ground (actors k) e.tick.step e.tick.decides a' mine.1 step.c
    (λ n some st old. pair.born n some st old))
    (one_by_one moves p lay first es (after_step w e.tick.step) step.h step.c step.said' (winner_after by k e.tick.step) (put actors k a') last
    (record {
      owner = step.owner;
      ground = step.ground;
      stands = put-all (λ j a. Stands p lay v step.h step.c step.said' j a) actors k a' step.stands
          (λ j n. stands_later p lay w g b said v step.h step.c step.said' k j step.later n (actors j) (wo.stands j));
      beside = put-all (λ j (a : Actor). Beside p lay v step.c by' j a.mid) actors k a' pair.beside
          (λ j n. beside_later p lay w b by v step.c by' k pair.later j n (actors j).mid (wo.beside j));
      headed = headed_later p lay w g b said actors k e.tick.decides v a' wo.headed step;
      carded = carded_later p lay w g b said actors k e.tick.decides v a' wo.carded step;
      lower = λ n j new q l lo. elim (pair.found n j q l lo) [
        | inl old ↦
            let same = step.later.address n old in
            subst (λ z. IsPassed v step.c.owed (slot_words z) j) (sym (step.later.size n old))
            (passed_later p lay w b by v step.c by' k pair.later (slot_words (g.size n)) j (wo.lower n j new old l (omega arith)))
        | inr h ↦ h
      ];
    }) legal.1
    (put-all (λ j a. Follows p lay a (part j es) (last j)) actors k a' mine.2
    (λ j n. subst (λ q. Follows p lay (actors j) q (last j)) (part-other j e es n) (follows j))))
