-- What a mutator can see, by where it stands: each step that has a rule says so.
use Rattle.std.proofs.Common.{◌≡◌, ℕ, ◌<◌, Bool, length, inl, inr, refl}
use Rattle.sg_words.specs.Address.{byte_at}
use Rattle.sg_words.specs.Tags.{plain_word}
use Rattle.sg_words.specs.declared.steps.Step.{Step}
use Rattle.sg_words.specs.declared.steps.Step.TheVariants.{Load, Lost, OnBlock}
use Rattle.sg_words.specs.declared.steps.BlockWord.TheVariants.{Need}
use Rattle.sg_words.specs.declared.steps.BlockStep.TheVariants.{LoadBlock}
use Rattle.sg_words.specs.Blocks.{IsSizeClass}
use Rattle.sg_program.specs.declared.program.Program.{Program}
use Rattle.sg_program.specs.declared.program.Statement.TheVariants.{Get, GGet}
use Rattle.sg_rules.specs.Rules.{Constants, Mid, TestTag, TestLength, Access, AccessGlobal, Look, Claim, HideLength, SeeBlock}
use Rattle.sg_rules.specs.Rules.{Actor, IsReference, IsLength, Comes, BlockComes, NextStep}
use Rattle.sg_rules.specs.Rules.Comes.{test_null, test_begins, loads_tag, loads_length, test_fails, put_stores, put_stores_old, marks_card, putd_stores, get_loads, getd_loads, global_begins, gput_stores, gget_loads, num_sets, drop_clears, move_sets, push_sets, pop_sets, hide_null, hide_begins, hide_fits, hide_misses, unhide_sets, same_tells, new_bumps, new_looks, look_finds, look_goes_on, stop_asks, asks, yields, claim_wins, claim_moves, claim_goes_on, stores_length, stores_tag}
use Rattle.sg_rules.specs.Rules.BlockComes.{mature_begins, sees_free, takes_block, misses_block, sees_size, sees_full, sees_slot, takes_slot, misses_slot}
use Rattle.sg_rules.specs.Rules.BlockComes.{sees_other, sees_sweeping, sees_need, takes_over, misses_sweep, stores_occupancy}
use Rattle.sg_rules.specs.Rules.BlockComes.{clears_first, clears_next, clears_last, ends_sweep, roams_on, retires, roams_free, roams_swept}

abbrev pub SawAt : Program → Constants → Mid → Step → Type 0
SawAt p lay (TestTag s test) (Load place v) = (class : ℕ) × (class < length p.classes) × (v ≡ plain_word class)
SawAt p lay (TestLength s test class) (Load place v) = IsLength v
SawAt p lay (Access (Get d r i)) (Load place v) = IsReference p v
SawAt p lay (AccessGlobal (GGet r x)) (Load place v) = IsReference p v
SawAt p lay (HideLength d s offset) (Load place v) = IsLength v
SawAt p lay (Look s f) (Load place v) = (next : ℕ) × (v ≡ byte_at next)
SawAt p lay (Claim s f seen) (Lost place old new found) = (next : ℕ) × (seen < next) × (found ≡ byte_at next)
SawAt p lay (SeeBlock t begins c) (OnBlock (LoadBlock d (Need z))) = IsSizeClass z
SawAt p lay mid step = Unit {0}

saw_at : (p : Program) (lay : Constants) (a : Actor) (step : Step) (d : Bool) (b : Actor) → Comes p lay a step d b → SawAt p lay a.mid step
saw_at p lay _ _ _ _ (test_null a s rest test is none) = tt
saw_at p lay _ _ _ _ (test_begins a s rest test is some) = tt
saw_at p lay _ _ _ _ (loads_tag a s rest test class there) = (class, there, refl)
saw_at p lay _ _ _ _ (loads_length a s rest test class len l has) = l
saw_at p lay _ _ _ _ (test_fails a s rest test class len l has) = l
saw_at p lay _ _ _ _ (put_stores a rest r i s cardless) = tt
saw_at p lay _ _ _ _ (put_stores_old a rest r i s has) = tt
saw_at p lay _ _ _ _ (marks_card a rest s card) = tt
saw_at p lay _ _ _ _ (putd_stores a rest r i s) = tt
saw_at p lay _ _ _ _ (get_loads a rest d r i v is) = is
saw_at p lay _ _ _ _ (getd_loads a rest d r i v) = tt
saw_at p lay _ _ _ _ (global_begins a s rest is) = tt
saw_at p lay _ _ _ _ (gput_stores a rest x r) = tt
saw_at p lay _ _ _ _ (gget_loads a rest r x v is) = is
saw_at p lay _ _ _ _ (num_sets a rest d n) = tt
saw_at p lay _ _ _ _ (drop_clears a rest r) = tt
saw_at p lay _ _ _ _ (move_sets a rest d s) = tt
saw_at p lay _ _ _ _ (push_sets a rest r) = tt
saw_at p lay _ _ _ _ (pop_sets a rest r top stack is) = tt
saw_at p lay _ _ _ _ (hide_null a rest d s offset none) = tt
saw_at p lay _ _ _ _ (hide_begins a rest d s offset some) = tt
saw_at p lay _ _ _ _ (hide_fits a rest d s offset len l fits) = l
saw_at p lay _ _ _ _ (hide_misses a rest d s offset len l past) = l
saw_at p lay _ _ _ _ (unhide_sets a rest d s) = tt
saw_at p lay _ _ _ _ (same_tells a rest r s) = tt
saw_at p lay _ _ _ _ (new_bumps a s rest making room) = tt
saw_at p lay _ _ _ _ (new_looks a s rest making full) = tt
saw_at p lay _ _ _ _ (look_finds a s rest f next room) = (next, refl)
saw_at p lay _ _ _ _ (look_goes_on a s rest f next full) = (next, refl)
saw_at p lay _ _ _ _ (stop_asks a s rest request is) = tt
saw_at p lay _ _ _ _ (asks a rest s) = tt
saw_at p lay _ _ _ _ (yields a s rest saw set) = tt
saw_at p lay _ _ _ _ (claim_wins a s rest f next) = tt
saw_at p lay _ _ _ _ (claim_moves a s rest f seen next later room) = (next, later, refl)
saw_at p lay _ _ _ _ (claim_goes_on a s rest f seen next later full) = (next, later, refl)
saw_at p lay _ _ _ _ (stores_length a s rest x) = tt
saw_at p lay _ _ _ _ (stores_tag a s rest x) = tt

saw_block : (p : Program) (lay : Constants) (a : Actor) (step : Step) (d : Bool) (b : Actor) → BlockComes p lay a step d b → SawAt p lay a.mid step
saw_block p lay _ _ _ _ (mature_begins a s rest is) = tt
saw_block p lay _ _ _ _ (sees_free a s rest begins c) = tt
saw_block p lay _ _ _ _ (takes_block a s rest c) = tt
saw_block p lay _ _ _ _ (misses_block a s rest c found) = tt
saw_block p lay _ _ _ _ (sees_size a s rest begins c) = tt
saw_block p lay _ _ _ _ (sees_full a s rest c saw full) = tt
saw_block p lay _ _ _ _ (sees_slot a s rest c i saw l clear below) = tt
saw_block p lay _ _ _ _ (takes_slot a s rest c i found clear) = tt
saw_block p lay _ _ _ _ (misses_slot a s rest c i found set) = tt
saw_block p lay _ _ _ _ (sees_other a s rest begins c z other) = tt
saw_block p lay _ _ _ _ (sees_sweeping a t rest begins c z may) = tt
saw_block p lay _ _ _ _ (sees_need a t rest begins c z may class) = class
saw_block p lay _ _ _ _ (takes_over a t rest c z) = tt
saw_block p lay _ _ _ _ (misses_sweep a t rest c z found) = tt
saw_block p lay _ _ _ _ (stores_occupancy a t rest c z) = tt
saw_block p lay _ _ _ _ (clears_first a t rest c z i j l fits marked clear more) = tt
saw_block p lay _ _ _ _ (clears_next a t rest c z i f more) = tt
saw_block p lay _ _ _ _ (clears_last a t rest c z i f last) = tt
saw_block p lay _ _ _ _ (ends_sweep a t rest c z i marked) = tt
saw_block p lay _ _ _ _ (roams_on a rest c) = tt
saw_block p lay _ _ _ _ (retires a rest c saw set) = tt
saw_block p lay _ _ _ _ (roams_free a rest c) = tt
saw_block p lay _ _ _ _ (roams_swept a rest c z) = tt

pub saw_next : (p : Program) (lay : Constants) (a : Actor) (step : Step) (d : Bool) (b : Actor) → NextStep p lay a step d b → SawAt p lay a.mid step
saw_next p lay a step d b n = elim n [ inl comes ↦ saw_at p lay a step d b comes | inr comes ↦ saw_block p lay a step d b comes ]
