-- Each next step of a sane mutator is one that a port over a space of its program allows.
use Rattle.std.proofs.Common.{◌≡◌, ℕ, ◌+◌, ◌<◌, ◌≤◌, Bool, Some, length, inl, inr, refl, sym, ap, subst, arith}
use Rattle.sg_words.specs.Address.{word_at}
use Rattle.sg_words.specs.Blocks.{slots}
use Rattle.sg_words.specs.Sections.{nursery_base, large_base, words_end, IsLayout}
use Rattle.sg_words.specs.declared.layout.Layout.{Layout}
use Rattle.sg_words.specs.declared.steps.Step.{Step}
use Rattle.sg_words.specs.Calls.{call_of}
use Rattle.sg_words.proofs.Blocks.{slot_fits, class_slots, slot_size-class}
use Rattle.sg_program.specs.declared.program.Statement.{Statement}
use Rattle.sg_program.specs.declared.program.Statement.TheVariants.{Put, Get, PutD, GetD}
use Rattle.sg_program.specs.declared.program.Program.{Program}
use Rattle.sg_program.specs.Scripts.{made_words, made_slot}
use Rattle.sg_program.specs.Tests.{Test, test_of}
use Rattle.sg_space.specs.Space.{Contents, cards_in}
use Rattle.sg_frag.specs.Plain.{IsWordOf, MayCall}
use Rattle.sg_frag.specs.Leading.{marks_of}
use Rattle.sg_rules.specs.Rules.{Constants, Task, Search, Roam, Actor, Access, within, object_in, global_word, slot_word, sections_of, IsInHeap, Comes}
use Rattle.sg_rules.specs.Rules.{BlockComes, NextStep}
use Rattle.sg_rules.specs.Rules.BlockComes.{mature_begins, sees_free, takes_block, misses_block, sees_size, sees_full, sees_slot, takes_slot, misses_slot}
use Rattle.sg_rules.specs.Rules.BlockComes.{sees_other, sees_sweeping, sees_need, takes_over, misses_sweep, stores_occupancy, clears_first, clears_next}
use Rattle.sg_rules.specs.Rules.BlockComes.{clears_last, ends_sweep, roams_on, retires, roams_free, roams_swept}
use Rattle.sg_rules.specs.Rules.Comes.{test_null, test_begins, loads_tag, loads_length, test_fails, put_stores, put_stores_old, marks_card, putd_stores}
use Rattle.sg_rules.specs.Rules.Comes.{get_loads, getd_loads, global_begins, gput_stores, gget_loads, num_sets, drop_clears, move_sets, push_sets, pop_sets}
use Rattle.sg_rules.specs.Rules.Comes.{hide_null, hide_begins, hide_fits, hide_misses, unhide_sets, same_tells, new_bumps, new_looks, look_finds}
use Rattle.sg_rules.specs.Rules.Comes.{look_goes_on, stop_asks, asks, yields, claim_wins, claim_moves, claim_goes_on, stores_length, stores_tag}
use Rattle.sg_rules.specs.Sane.{IsAccessing, IsHeading, IsCard, IsOnTask, IsSane}

-- The space has the program's sections, all their words, blocks and cards, and as many fragments and the marks that the constants say.
pub record IsSpaceBy (p : Program) (lay : Constants) (s : Contents) : Type 0 where
  pub layout : s.layout ≡ sections_of p
  pub limits : IsLayout s.layout
  pub words : length s.words ≡ words_end s.layout
  pub next : length s.next ≡ length s.ends
  pub blocks : length s.blocks ≡ p.config.blocks
  pub used : length s.used ≡ p.config.blocks
  pub cards : length s.cards ≡ cards_in s.layout
  pub fragments : length s.ends ≡ lay.fragments
  pub marks : marks_of s.marks ≡ lay.marks

module _ (p : Program) (lay : Constants) (s : Contents) (is : IsSpaceBy p lay s) where
  word_there : (x : ℕ) → nursery_base ≤ x → x < words_end (sections_of p) → IsWordOf s x
  word_there x from below =
      let l : x < words_end s.layout = subst (λ (layout : Layout). x < words_end layout) (sym is.layout) below in
      let limits = is.limits in
      let words = is.words in
      ((from, l), omega arith, omega arith)

  -- a word of an object is one of the space
  object_word : (v : ℕ) → IsInHeap p v → IsWordOf s (word_at v)
  object_word v h = word_there (word_at v) (let l = h.above in omega arith) (let l = h.below in omega arith)

  length_word : (v : ℕ) → IsInHeap p v → IsWordOf s (word_at v + 1)
  length_word v h = word_there (word_at v + 1) (let l = h.above in omega arith) (let l = h.below in omega arith)

  field_word : (a : Actor) (test : Test) → IsInHeap p (a.reg test.register) → object_in a test.register + 2 + test.field < large_base (sections_of p) →
      IsWordOf s (object_in a test.register + 2 + test.field)
  field_word a test h l = word_there (object_in a test.register + 2 + test.field) (let m = h.above in omega arith) (omega arith)

  accessed : (a : Actor) (st : Statement) (test : Test) → test_of st ≡ Some test → IsAccessing p a st → IsWordOf s (object_in a test.register + 2 + test.field)
  accessed a st test e h =
      let same : h.test ≡ test = let f = h.testing.tests in cc in
      subst (λ (t : Test). IsWordOf s (object_in a t.register + 2 + t.field)) same (field_word a h.test h.testing.object h.inside)

  global_there : (x : ℕ) → x ≤ 63 → IsWordOf s (global_word p x)
  global_there x l = word_there (global_word p x) (omega arith) (omega arith)

  fragment_there : (f : ℕ) → f < lay.fragments → (f < length s.next) × (f < length s.ends)
  fragment_there f l = let e = is.fragments in let n = is.next in (omega arith, omega arith)

  card_there : (card : ℕ) → IsCard p card → card < length s.cards
  card_there card l = let e = is.cards in let q : cards_in s.layout ≡ cards_in (sections_of p) = ap cards_in is.layout in omega arith

  head_word : (st : Statement) (x : ℕ) → IsHeading p st x → IsWordOf s x
  head_word st x h = word_there x h.from (let l = h.inside in omega arith)

  second_word : (st : Statement) (x : ℕ) → IsHeading p st x → IsWordOf s (x + 1)
  second_word st x h = word_there (x + 1) (let l = h.from in omega arith) (let l = h.inside in omega arith)

  may_come : (a : Actor) (step : Step) (d : Bool) (b : Actor) → Comes p lay a step d b → IsSane p lay a → MayCall s (call_of step)
  may_come _ _ _ _ (test_null a st rest test e z) sane = tt
  may_come _ _ _ _ (test_begins a st rest test e z) sane = tt
  may_come _ _ _ _ (loads_tag a st rest test class there) sane = object_word (a.reg test.register) sane.object
  may_come _ _ _ _ (loads_length a st rest test class len short f) sane = length_word (a.reg test.register) sane.0.object
  may_come _ _ _ _ (test_fails a st rest test class len short f) sane = length_word (a.reg test.register) sane.0.object
  may_come _ _ _ _ (put_stores a rest r i v cardless) sane = accessed (within a rest (Access (Put r i v))) (Put r i v) _ refl sane
  may_come _ _ _ _ (put_stores_old a rest r i v has) sane = accessed (within a rest (Access (Put r i v))) (Put r i v) _ refl sane
  may_come _ _ _ _ (marks_card a rest st card) sane = (card_there card sane, refl)
  may_come _ _ _ _ (putd_stores a rest r i v) sane = accessed (within a rest (Access (PutD r i v))) (PutD r i v) _ refl sane
  may_come _ _ _ _ (get_loads a rest d r i u ref) sane = accessed (within a rest (Access (Get d r i))) (Get d r i) _ refl sane
  may_come _ _ _ _ (getd_loads a rest d r i u) sane = accessed (within a rest (Access (GetD d r i))) (GetD d r i) _ refl sane
  may_come _ _ _ _ (global_begins a st rest g) sane = tt
  may_come _ _ _ _ (gput_stores a rest x r) sane = global_there x sane.0.good.operands.0
  may_come _ _ _ _ (gget_loads a rest r x u ref) sane = global_there x sane.0.good.operands.1
  may_come _ _ _ _ (num_sets a rest d n) sane = tt
  may_come _ _ _ _ (drop_clears a rest r) sane = tt
  may_come _ _ _ _ (move_sets a rest d r) sane = tt
  may_come _ _ _ _ (push_sets a rest r) sane = tt
  may_come _ _ _ _ (pop_sets a rest r top stack e) sane = tt
  may_come _ _ _ _ (hide_null a rest d r offset z) sane = tt
  may_come _ _ _ _ (hide_begins a rest d r offset z) sane = tt
  may_come _ _ _ _ (hide_fits a rest d r offset len short f) sane = length_word (a.reg r) sane
  may_come _ _ _ _ (hide_misses a rest d r offset len short f) sane = length_word (a.reg r) sane
  may_come _ _ _ _ (unhide_sets a rest d r) sane = tt
  may_come _ _ _ _ (same_tells a rest r q) sane = tt
  may_come _ _ _ _ (new_bumps a st rest making l) sane = tt
  may_come _ _ _ _ (new_looks a st rest making l) sane = tt
  may_come _ _ _ _ (look_finds a st rest f next l) sane = fragment_there f sane.1
  may_come _ _ _ _ (look_goes_on a st rest f next l) sane = fragment_there f sane.1
  may_come _ _ _ _ (stop_asks a st rest request is) sane = tt
  may_come _ _ _ _ (asks a rest st) sane = refl
  may_come _ _ _ _ (yields a st rest word set) sane = tt
  may_come _ _ _ _ (claim_wins a st rest f next) sane = fragment_there f sane.there
  may_come _ _ _ _ (claim_moves a st rest f seen next later l) sane = fragment_there f sane.there
  may_come _ _ _ _ (claim_goes_on a st rest f seen next later l) sane = fragment_there f sane.there
  may_come _ _ _ _ (stores_length a st rest x) sane = second_word st x sane
  may_come _ _ _ _ (stores_tag a st rest x) sane = head_word st x sane

  block_there : (c : ℕ) → c < p.config.blocks → (c < length s.blocks) × (c < length s.used)
  block_there c l = let e = is.blocks in let f = is.used in (omega arith, omega arith)

  on_task : (t : Task) (c : ℕ) → IsOnTask p t c → c < p.config.blocks
  on_task (Search st) c h = h.there
  on_task Roam c h = h

  slot_there : (st : Statement) (i : ℕ) → i < slots (made_slot p st) → i < 64
  slot_there st i l = let most = (class_slots (made_slot p st) (slot_size-class (made_words p st))).1 in omega arith

  -- a word of a slot is one of the space
  zero_there : (c z i f : ℕ) → c < p.config.blocks → i < slots z → f < z → IsWordOf s (slot_word p c z i f)
  zero_there c z i f there fits word = let l = slot_fits z i fits in word_there (slot_word p c z i f) (omega arith) (omega arith)

  may_come_block : (a : Actor) (step : Step) (d : Bool) (b : Actor) → BlockComes p lay a step d b → IsSane p lay a → MayCall s (call_of step)
  may_come_block _ _ _ _ (mature_begins a st rest makes) sane = tt
  may_come_block _ _ _ _ (sees_free a st rest begins c) sane = (block_there c (sane tt).there).0
  may_come_block _ _ _ _ (takes_block a st rest c) sane = (block_there c sane.there).0
  may_come_block _ _ _ _ (misses_block a st rest c found) sane = (block_there c sane.there).0
  may_come_block _ _ _ _ (sees_size a st rest begins c) sane = (block_there c (sane tt).there).0
  may_come_block _ _ _ _ (sees_full a st rest c saw full) sane = (block_there c sane.there).1
  may_come_block _ _ _ _ (sees_slot a st rest c i saw fits clear taken) sane = (block_there c sane.there).1
  may_come_block _ _ _ _ (takes_slot a st rest c i found clear) sane = ((block_there c sane.0.there).1, slot_there st i sane.1)
  may_come_block _ _ _ _ (misses_slot a st rest c i found set) sane = ((block_there c sane.0.there).1, slot_there st i sane.1)
  may_come_block _ _ _ _ (sees_other a st rest begins c z differs) sane = (block_there c (sane tt).there).0
  may_come_block _ _ _ _ (sees_sweeping a t rest begins c z may) sane = (block_there c (on_task t c (sane may))).0
  may_come_block _ _ _ _ (sees_need a t rest begins c z may class) sane = (block_there c (on_task t c (sane may))).0
  may_come_block _ _ _ _ (takes_over a t rest c z) sane = (block_there c sane.there).0
  may_come_block _ _ _ _ (misses_sweep a t rest c z found) sane = (block_there c sane.there).0
  may_come_block _ _ _ _ (stores_occupancy a t rest c z) sane = (block_there c sane.there).1
  may_come_block _ _ _ _ (clears_first a t rest c z i j from fits marked clear more) sane = zero_there c z j 0 sane.there fits (omega arith)
  may_come_block _ _ _ _ (clears_next a t rest c z i f more) sane = zero_there c z i f sane.sweeping.there sane.fits sane.word
  may_come_block _ _ _ _ (clears_last a t rest c z i f last) sane = zero_there c z i f sane.sweeping.there sane.fits sane.word
  may_come_block _ _ _ _ (ends_sweep a t rest c z i marked) sane = (block_there c sane.there).0
  may_come_block _ _ _ _ (roams_on a rest c) sane = tt
  may_come_block _ _ _ _ (retires a rest c saw set) sane = tt
  may_come_block _ _ _ _ (roams_free a rest c) sane = (block_there c (sane tt)).0
  may_come_block _ _ _ _ (roams_swept a rest c z) sane = (block_there c (sane tt)).0

  pub may_call : (a : Actor) (step : Step) (d : Bool) (b : Actor) → NextStep p lay a step d b → IsSane p lay a → MayCall s (call_of step)
  may_call a step d b (inl comes) sane = may_come a step d b comes sane
  may_call a step d b (inr comes) sane = may_come_block a step d b comes sane
