-- The private state of a mutator, and its program: which atomic step comes next, whether that step decides the statement,
-- and what the mutator is after it.
use Rattle.std.specs.Int.{bit_at}
use Rattle.std.specs.Prelude.{◌≡◌, ◌≢◌, ℕ, ◌+◌, ◌-◌, ◌%◌, ◌^◌, ◌<◌, ◌≤◌, ◌==◌, ◌⊎◌, if◌then◌else◌, nat_lt, min, max, Bool, true, false, Some, List, [], ◌∷◌, ◌++◌, length}
use Rattle.sg_words.specs.Address.{byte_at, word_at}
use Rattle.sg_words.specs.Tags.{plain_word}
use Rattle.sg_words.specs.declared.steps.Place.TheVariants.{Stop, Next, Word, Card}
use Rattle.sg_words.specs.declared.steps.Step.{Step}
use Rattle.sg_words.specs.declared.steps.Step.TheVariants.{Load, Store, Won, Lost, OnBlock}
use Rattle.sg_words.specs.declared.steps.BlockWord.{BlockWord}
use Rattle.sg_words.specs.declared.steps.BlockWord.TheVariants.{Free, Swept, Need, Sweeping}
use Rattle.sg_words.specs.declared.steps.BlockStep.TheVariants.{LoadBlock, WonBlock, LostBlock, StoreBlock, LoadUsed, OrUsed, StoreUsed, Zero}
use Rattle.sg_words.specs.declared.steps.Tick.{Tick}
use Rattle.sg_words.specs.Words.{put, Words, after, Legal}
use Rattle.sg_words.specs.Sections.{nursery_base, large_base, globals_base}
use Rattle.sg_words.specs.Blocks.{IsSizeClass, slots, slot_base, card_of, HasCard}
use Rattle.sg_words.specs.Sweeps.{swept_word}
use Rattle.sg_words.specs.declared.layout.Layout.{Layout}
use Rattle.sg_program.specs.declared.program.Statement.{Statement}
use Rattle.sg_program.specs.declared.program.Statement.TheVariants.{Put, Get, PutD, GetD, Num, Move, Hide, Unhide, Drop, Push, Pop, GPut, GGet, Same}
use Rattle.sg_program.specs.declared.program.Program.{Program}
use Rattle.sg_program.specs.declared.answers.Request.{Request}
use Rattle.sg_program.specs.declared.answers.Answer.{Answer}
use Rattle.sg_program.specs.declared.answers.Answer.TheVariants.{At, Nil, Null, Number, Fine, Yes, No, Field}
use Rattle.sg_desc.specs.Shapes.{has_field}
use Rattle.sg_program.specs.Scripts.{kind_of, words_for, IsMaking, IsMature, IsCollecting, made_in, made_class, made_fields, made_words, made_slot}
use Rattle.sg_program.specs.Tests.{Test, test_of}

-- What is constant in an epoch: how many fragments there are, before which word each ends, and the marks of each block.
pub record Constants : Type 0 where
  pub fragments : ℕ
  pub limit : ℕ → ℕ
  pub marks : ℕ → ℕ

-- the sizes of the sections that a program's settings make
abbrev pub sections_of : Program → Layout
sections_of p = record { nursery = p.config.nursery; blocks = p.config.blocks; pages = p.config.pages }

-- the byte address of a word of the nursery or of the major heap
pub record IsInHeap (p : Program) (a : ℕ) : Type 0 where
  pub above : byte_at nursery_base ≤ a
  pub below : a < byte_at (large_base (sections_of p))
  pub whole : a % 8 ≡ 0

-- the word of a reference: no object, or the address of one
abbrev pub IsReference : Program → ℕ → Type 0
IsReference p v = (v ≡ 0) ⊎ IsInHeap p v

-- the number of the word of a global
abbrev pub global_word : Program → ℕ → ℕ
global_word p x = globals_base (sections_of p) + x

-- a number of fields that an object can have: its length word holds no greater one
abbrev pub IsLength : ℕ → Type 0
IsLength len = len < 2 ^ 32

-- the statement stores or loads a global
abbrev pub IsGlobal : Statement → Type 0
IsGlobal (GPut x r) = Unit {0}
IsGlobal (GGet r x) = Unit {0}
IsGlobal s = ⊥

-- For what an actor goes through the blocks: for a slot for the object of this statement, or to sweep what is owed.
pub data Task : Type 0 where
  Search : (s : Statement) → Task
  Roam : Task

-- Where in a statement a mutator stands: what its next step is for. The background sweeper stands at points of a sweep alone.
pub data Mid : Type 0 where
  -- between two statements
  Idle : Mid
  -- the object of the statement is tested: next comes the load of its tag, and then, where the tag said this class, that of its length
  TestTag : (s : Statement) (test : Test) → Mid
  TestLength : (s : Statement) (test : Test) (class : ℕ) → Mid
  -- the test is passed: next comes the load or the store of the field
  Access : (s : Statement) → Mid
  -- a reference was stored into a slot that has a card: next comes the store of that card
  MarkCard : (s : Statement) (card : ℕ) → Mid
  -- next comes the load or the store of the statement's global
  AccessGlobal : (s : Statement) → Mid
  -- the statement makes an object: next comes the load of a fragment's next word, or the exchange of it
  Look : (s : Statement) (f : ℕ) → Mid
  Claim : (s : Statement) (f seen : ℕ) → Mid
  -- the new object has the word x: next comes the store of its length, and then that of its tag
  StoreLength : (s : Statement) (x : ℕ) → Mid
  StoreTag : (s : Statement) (x : ℕ) → Mid
  -- the byte with this offset of the object of register s is to be hidden: next comes the load of the object's length
  HideLength : (d s offset : ℕ) → Mid
  -- next comes the load of the word of block c; where the sweeper's turn begins, that of the stop word comes before it
  SeeBlock : (t : Task) (begins : Bool) (c : ℕ) → Mid
  -- block c was seen free: next comes the exchange by which it gets slots for the object
  TakeBlock : (s : Statement) (c : ℕ) → Mid
  -- it was seen swept, with such slots: next comes the load of its occupancy, or the claim of its slot i, whose bit was seen clear
  SeeUsed : (s : Statement) (c : ℕ) → Mid
  TakeSlot : (s : Statement) (c i : ℕ) → Mid
  -- it was seen owed, with slots of z words: next comes the exchange by which the actor takes its sweep over
  TakeOver : (t : Task) (c z : ℕ) → Mid
  -- the actor sweeps it: next comes the store of its occupancy
  StoreOccupancy : (t : Task) (c z : ℕ) → Mid
  -- its unmarked slots below i are zero, and the first f words of slot i
  ClearSlots : (t : Task) (c z i : ℕ) → Mid
  ClearWords : (t : Task) (c z i f : ℕ) → Mid
  -- the statement needs a stop: next comes the store of the stop word
  Ask : (s : Statement) → Mid
  -- the mutator has left the epoch, and this statement waits for its answer
  Left : (s : Statement) → Mid
  -- it has left, since another one asked for a stop
  Yielded : Mid
  -- the sweeper has ended
  Retired : Mid

-- a place of the stack: its word, and the offset that stands beside it where the word is an address inside an object
pub record StackWord : Type 0 where
  pub word : ℕ
  pub offset : ℕ

-- A mutator: its register words and the offsets beside them, its stack with the top first, its buffer as numbers of words, the
-- statements to come and the answers so far.
pub record Actor : Type 0 where
  pub reg : ℕ → ℕ
  pub offset : ℕ → ℕ
  pub stack : List StackWord
  pub from : ℕ
  pub to : ℕ
  pub script : List Statement
  pub told : List Answer
  pub mid : Mid

-- before its script, with empty registers, an empty stack and no buffer
abbrev pub fresh : List Statement → Actor
fresh script = record { reg = λ _. 0; offset = λ _. 0; stack = []; from = 0; to = 0; script = script; told = []; mid = Idle }

-- between two statements, and this is the next one
abbrev pub before : Actor → Statement → List Statement → Actor
before a s rest = record a { script = s ∷ rest; mid = Idle }

-- within a statement, with these still to come
abbrev pub within : Actor → List Statement → Mid → Actor
within a rest mid = record a { script = rest; mid = mid }

-- the statement is over: its answer, and these registers
abbrev pub over : Actor → List Statement → (ℕ → ℕ) → Answer → Actor
over a rest reg answer = record a { reg = reg; script = rest; told = a.told ++ answer ∷ []; mid = Idle }

-- the same, with these offsets beside the registers and this stack
abbrev pub over_with : Actor → List Statement → (ℕ → ℕ) → (ℕ → ℕ) → List StackWord → Answer → Actor
over_with a rest reg offset stack answer = record a { reg = reg; offset = offset; stack = stack; script = rest; told = a.told ++ answer ∷ []; mid = Idle }

-- the mutator has this buffer
abbrev pub owning : Actor → ℕ → ℕ → Actor
owning a from to = record a { from = from; to = to }

-- the register words after a statement whose object test found no object or no such field: the one that it sets is 0
abbrev pub cleared : Statement → (ℕ → ℕ) → ℕ → ℕ
cleared (Get d r i) reg = put reg d 0
cleared (GetD d r i) reg = put reg d 0
cleared s reg = reg

-- the answer of a loaded reference
abbrev pub reference_answer : ℕ → Answer
reference_answer v = if v == 0 then Nil else At v

-- what a claim of n words at the word `next` of fragment f takes: the smaller of the rest and the greater of n and the setting
abbrev pub taken : Program → Constants → ℕ → ℕ → ℕ → ℕ
taken p lay f next n = min (lay.limit f - next) (max n p.config.buffer)

-- the number of the word of the object in a register
abbrev pub object_in : Actor → ℕ → ℕ
object_in a r = word_at (a.reg r)

-- the register that is to hide an address is empty
abbrev pub hides_none : Actor → List Statement → ℕ → Answer → Actor
hides_none a rest d answer = over_with a rest (put a.reg d 0) (put a.offset d 0) a.stack answer

-- the word of the object into which the word in register s points, or 0 where it holds none
abbrev pub unhidden : Actor → ℕ → ℕ
unhidden a s = if a.reg s == 0 then 0 else a.reg s - a.offset s

-- where a mutator stands that looks for a fragment with room from f on: there is one more, or it asks for a stop
abbrev pub looking : Constants → Statement → ℕ → Mid
looking lay s f = if nat_lt f lay.fragments then Look s f else Ask s

-- where an actor stands that goes through the blocks from c on: there is one more; or a search asks for a stop, and the sweeper ends
abbrev pub ends_at : Task → Mid
ends_at (Search s) = Ask s
ends_at Roam = Retired

abbrev pub onward : Program → Task → ℕ → Mid
onward p t c = if nat_lt c p.config.blocks then SeeBlock t false c else ends_at t

-- the next step is the load of a block's word: always in a search, and for the sweeper where its turn has begun
abbrev pub MaySee : Task → Bool → Type 0
MaySee (Search s) begins = Unit {0}
MaySee Roam true = ⊥
MaySee Roam false = Unit {0}

-- the first word of slot i of z words of block c, and the one with number f
abbrev pub slot_front : Program → ℕ → ℕ → ℕ → ℕ
slot_front p c z i = slot_base (sections_of p) c z i

abbrev pub slot_word : Program → ℕ → ℕ → ℕ → ℕ → ℕ
slot_word p c z i f = slot_front p c z i + f

-- the slots of block c from i to before j are marked
abbrev pub AreMarked : Constants → ℕ → ℕ → ℕ → Type 0
AreMarked lay c i j = (k : ℕ) → i ≤ k → k < j → bit_at (lay.marks c) k ≡ 1

-- each of the first n bits is set
abbrev pub AreTaken : ℕ → ℕ → Type 0
AreTaken used n = (i : ℕ) → i < n → bit_at used i ≡ 1

-- This step comes next, it decides the statement or not, and then the mutator is so. The rules say of a load what can be seen: a
-- header's words are those of an object, and a field or a global for references holds the address of one or nothing.
pub data Comes (p : Program) (lay : Constants) : Actor → Step → Bool → Actor → Type 0 where
  -- the object test: no object, or else the loads of its tag and of its length; with the length the object has such a field or it hasn't
  test_null : (a : Actor) (s : Statement) (rest : List Statement) (test : Test) → test_of s ≡ Some test → a.reg test.register ≡ 0 →
      Comes p lay (before a s rest) (Load Stop 0) true (over a rest (cleared s a.reg) Null)
  test_begins : (a : Actor) (s : Statement) (rest : List Statement) (test : Test) → test_of s ≡ Some test → a.reg test.register ≢ 0 →
      Comes p lay (before a s rest) (Load Stop 0) false (within a rest (TestTag s test))
  loads_tag : (a : Actor) (s : Statement) (rest : List Statement) (test : Test) (class : ℕ) → class < length p.classes →
      Comes p lay (within a rest (TestTag s test)) (Load (Word (object_in a test.register)) (plain_word class)) false (within a rest (TestLength s test class))
  loads_length : (a : Actor) (s : Statement) (rest : List Statement) (test : Test) (class len : ℕ) → IsLength len →
      has_field test.sort (kind_of p class) len test.field ≡ true →
      Comes p lay (within a rest (TestLength s test class)) (Load (Word (object_in a test.register + 1)) len) false (within a rest (Access s))
  test_fails : (a : Actor) (s : Statement) (rest : List Statement) (test : Test) (class len : ℕ) → IsLength len →
      has_field test.sort (kind_of p class) len test.field ≡ false →
      Comes p lay (within a rest (TestLength s test class)) (Load (Word (object_in a test.register + 1)) len) true (over a rest (cleared s a.reg) Field)
  -- the load or the store of the field; behind a store of a reference the slot's card becomes dirty, where it has one
  put_stores : (a : Actor) (rest : List Statement) (r i s : ℕ) → ¬ HasCard (sections_of p) (object_in a r + 2 + i) →
      Comes p lay (within a rest (Access (Put r i s))) (Store (Word (object_in a r + 2 + i)) (a.reg s)) true (over a rest a.reg Fine)
  put_stores_old : (a : Actor) (rest : List Statement) (r i s : ℕ) → HasCard (sections_of p) (object_in a r + 2 + i) →
      Comes p lay (within a rest (Access (Put r i s))) (Store (Word (object_in a r + 2 + i)) (a.reg s)) true
      (within a rest (MarkCard (Put r i s) (card_of (sections_of p) (object_in a r + 2 + i))))
  marks_card : (a : Actor) (rest : List Statement) (s : Statement) (card : ℕ) →
      Comes p lay (within a rest (MarkCard s card)) (Store (Card card) 1) false (over a rest a.reg Fine)
  putd_stores : (a : Actor) (rest : List Statement) (r i s : ℕ) →
      Comes p lay (within a rest (Access (PutD r i s))) (Store (Word (object_in a r + 2 + i)) (a.reg s)) true (over a rest a.reg Fine)
  get_loads : (a : Actor) (rest : List Statement) (d r i v : ℕ) → IsReference p v →
      Comes p lay (within a rest (Access (Get d r i))) (Load (Word (object_in a r + 2 + i)) v) true (over a rest (put a.reg d v) (reference_answer v))
  getd_loads : (a : Actor) (rest : List Statement) (d r i v : ℕ) →
      Comes p lay (within a rest (Access (GetD d r i))) (Load (Word (object_in a r + 2 + i)) v) true (over a rest (put a.reg d v) (Number v))
  -- a global is stored or loaded
  global_begins : (a : Actor) (s : Statement) (rest : List Statement) → IsGlobal s →
      Comes p lay (before a s rest) (Load Stop 0) false (within a rest (AccessGlobal s))
  gput_stores : (a : Actor) (rest : List Statement) (x r : ℕ) →
      Comes p lay (within a rest (AccessGlobal (GPut x r))) (Store (Word (global_word p x)) (a.reg r)) true (over a rest a.reg Fine)
  gget_loads : (a : Actor) (rest : List Statement) (r x v : ℕ) → IsReference p v →
      Comes p lay (within a rest (AccessGlobal (GGet r x))) (Load (Word (global_word p x)) v) true (over a rest (put a.reg r v) (reference_answer v))
  -- a number
  num_sets : (a : Actor) (rest : List Statement) (d n : ℕ) → Comes p lay (before a (Num d n) rest) (Load Stop 0) true (over a rest (put a.reg d n) Fine)
  -- no object
  drop_clears : (a : Actor) (rest : List Statement) (r : ℕ) → Comes p lay (before a (Drop r) rest) (Load Stop 0) true (over a rest (put a.reg r 0) Fine)
  -- what a register holds goes into another one, onto the stack, or back from it
  move_sets : (a : Actor) (rest : List Statement) (d s : ℕ) →
      Comes p lay (before a (Move d s) rest) (Load Stop 0) true (over_with a rest (put a.reg d (a.reg s)) (put a.offset d (a.offset s)) a.stack Fine)
  push_sets : (a : Actor) (rest : List Statement) (r : ℕ) →
      Comes p lay (before a (Push r) rest) (Load Stop 0) true (over_with a rest a.reg a.offset (record { word = a.reg r; offset = a.offset r } ∷ a.stack) Fine)
  pop_sets : (a : Actor) (rest : List Statement) (r : ℕ) (top : StackWord) (stack : List StackWord) → a.stack ≡ top ∷ stack →
      Comes p lay (before a (Pop r) rest) (Load Stop 0) true (over_with a rest (put a.reg r top.word) (put a.offset r top.offset) stack Fine)
  -- an address inside an object: no object, or else the load of its length, by which it has the byte or it hasn't
  hide_null : (a : Actor) (rest : List Statement) (d s offset : ℕ) → a.reg s ≡ 0 →
      Comes p lay (before a (Hide d s offset) rest) (Load Stop 0) true (hides_none a rest d Null)
  hide_begins : (a : Actor) (rest : List Statement) (d s offset : ℕ) → a.reg s ≢ 0 →
      Comes p lay (before a (Hide d s offset) rest) (Load Stop 0) false (within a rest (HideLength d s offset))
  hide_fits : (a : Actor) (rest : List Statement) (d s offset len : ℕ) → IsLength len → offset < byte_at (words_for len) →
      Comes p lay (within a rest (HideLength d s offset)) (Load (Word (object_in a s + 1)) len) true
      (over_with a rest (put a.reg d (a.reg s + offset)) (put a.offset d offset) a.stack Fine)
  hide_misses : (a : Actor) (rest : List Statement) (d s offset len : ℕ) → IsLength len → byte_at (words_for len) ≤ offset →
      Comes p lay (within a rest (HideLength d s offset)) (Load (Word (object_in a s + 1)) len) true (hides_none a rest d Field)
  -- and back
  unhide_sets : (a : Actor) (rest : List Statement) (d s : ℕ) →
      Comes p lay (before a (Unhide d s) rest) (Load Stop 0) true (over a rest (put a.reg d (unhidden a s)) (reference_answer (unhidden a s)))
  -- two registers are compared
  same_tells : (a : Actor) (rest : List Statement) (r s : ℕ) →
      Comes p lay (before a (Same r s) rest) (Load Stop 0) true (over a rest a.reg (if a.reg r == a.reg s then Yes else No))
  -- a new object: from the buffer, or from the lowest fragment that has room
  new_bumps : (a : Actor) (s : Statement) (rest : List Statement) → IsMaking s → a.from + made_words p s ≤ a.to →
      Comes p lay (before a s rest) (Load Stop 0) true (within (owning a (a.from + made_words p s) a.to) rest (StoreLength s a.from))
  new_looks : (a : Actor) (s : Statement) (rest : List Statement) → IsMaking s → a.to < a.from + made_words p s →
      Comes p lay (before a s rest) (Load Stop 0) false (within a rest (looking lay s 0))
  look_finds : (a : Actor) (s : Statement) (rest : List Statement) (f next : ℕ) → next + made_words p s ≤ lay.limit f →
      Comes p lay (within a rest (Look s f)) (Load (Next f) (byte_at next)) false (within a rest (Claim s f next))
  look_goes_on : (a : Actor) (s : Statement) (rest : List Statement) (f next : ℕ) → lay.limit f < next + made_words p s →
      Comes p lay (within a rest (Look s f)) (Load (Next f) (byte_at next)) false (within a rest (looking lay s (f + 1)))
  -- a collection, or what stands in each section: the mutator asks for it
  stop_asks : (a : Actor) (s : Statement) (rest : List Statement) (request : Request) → IsCollecting s request →
      Comes p lay (before a s rest) (Load Stop 0) false (within a rest (Ask s))
  -- who asks sets the stop word and leaves
  asks : (a : Actor) (rest : List Statement) (s : Statement) → Comes p lay (within a rest (Ask s)) (Store Stop 1) false (within a rest (Left s))
  -- who finds the stop word set as a statement begins leaves, and the statement stays before it
  yields : (a : Actor) (s : Statement) (rest : List Statement) (saw : ℕ) → saw ≢ 0 → Comes p lay (before a s rest) (Load Stop saw) false (within a (s ∷ rest) Yielded)
  claim_wins : (a : Actor) (s : Statement) (rest : List Statement) (f next : ℕ) →
      Comes p lay (within a rest (Claim s f next)) (Won (Next f) (byte_at next) (byte_at (next + taken p lay f next (made_words p s)))) true
      (within (owning a (next + made_words p s) (next + taken p lay f next (made_words p s))) rest (StoreLength s next))
  -- an exchange that is lost found a next word further on: the fragment still has room, or the search goes on behind it
  claim_moves : (a : Actor) (s : Statement) (rest : List Statement) (f seen next : ℕ) → seen < next → next + made_words p s ≤ lay.limit f →
      Comes p lay (within a rest (Claim s f seen)) (Lost (Next f) (byte_at seen) (byte_at (seen + taken p lay f seen (made_words p s))) (byte_at next)) false
      (within a rest (Claim s f next))
  claim_goes_on : (a : Actor) (s : Statement) (rest : List Statement) (f seen next : ℕ) → seen < next → lay.limit f < next + made_words p s →
      Comes p lay (within a rest (Claim s f seen)) (Lost (Next f) (byte_at seen) (byte_at (seen + taken p lay f seen (made_words p s))) (byte_at next)) false
      (within a rest (looking lay s (f + 1)))
  stores_length : (a : Actor) (s : Statement) (rest : List Statement) (x : ℕ) →
      Comes p lay (within a rest (StoreLength s x)) (Store (Word (x + 1)) (made_fields p s)) false (within a rest (StoreTag s x))
  stores_tag : (a : Actor) (s : Statement) (rest : List Statement) (x : ℕ) →
      Comes p lay (within a rest (StoreTag s x)) (Store (Word x) (plain_word (made_class s))) false
      (over a rest (put a.reg (made_in s) (byte_at x)) (At (byte_at x)))

-- The same of steps on blocks: of a search for a slot, and of a sweep, be it a mutator's or the background sweeper's.
pub data BlockComes (p : Program) (lay : Constants) : Actor → Step → Bool → Actor → Type 0 where
  -- an object in the major heap: a search goes through the blocks
  mature_begins : (a : Actor) (s : Statement) (rest : List Statement) → IsMature s →
      BlockComes p lay (before a s rest) (Load Stop 0) false (within a rest (onward p (Search s) 0))
  -- a free block gets slots for the object; won or lost, the search looks at the block again
  sees_free : (a : Actor) (s : Statement) (rest : List Statement) (begins : Bool) (c : ℕ) →
      BlockComes p lay (within a rest (SeeBlock (Search s) begins c)) (OnBlock (LoadBlock c Free)) false (within a rest (TakeBlock s c))
  takes_block : (a : Actor) (s : Statement) (rest : List Statement) (c : ℕ) →
      BlockComes p lay (within a rest (TakeBlock s c)) (OnBlock (WonBlock c Free (Swept (made_slot p s)))) false (within a rest (SeeBlock (Search s) false c))
  misses_block : (a : Actor) (s : Statement) (rest : List Statement) (c : ℕ) (found : BlockWord) →
      BlockComes p lay (within a rest (TakeBlock s c)) (OnBlock (LostBlock c Free (Swept (made_slot p s)) found)) false
      (within a rest (SeeBlock (Search s) false c))
  -- in a swept block with such slots the lowest one is claimed that was seen free; if it was taken meanwhile, the search looks again
  sees_size : (a : Actor) (s : Statement) (rest : List Statement) (begins : Bool) (c : ℕ) →
      BlockComes p lay (within a rest (SeeBlock (Search s) begins c)) (OnBlock (LoadBlock c (Swept (made_slot p s)))) false (within a rest (SeeUsed s c))
  sees_full : (a : Actor) (s : Statement) (rest : List Statement) (c saw : ℕ) → AreTaken saw (slots (made_slot p s)) →
      BlockComes p lay (within a rest (SeeUsed s c)) (OnBlock (LoadUsed c saw)) false (within a rest (onward p (Search s) (c + 1)))
  sees_slot : (a : Actor) (s : Statement) (rest : List Statement) (c i saw : ℕ) → i < slots (made_slot p s) → bit_at saw i ≡ 0 → AreTaken saw i →
      BlockComes p lay (within a rest (SeeUsed s c)) (OnBlock (LoadUsed c saw)) false (within a rest (TakeSlot s c i))
  takes_slot : (a : Actor) (s : Statement) (rest : List Statement) (c i found : ℕ) → bit_at found i ≡ 0 →
      BlockComes p lay (within a rest (TakeSlot s c i)) (OnBlock (OrUsed c i found)) true (within a rest (StoreLength s (slot_front p c (made_slot p s) i)))
  misses_slot : (a : Actor) (s : Statement) (rest : List Statement) (c i found : ℕ) → bit_at found i ≡ 1 →
      BlockComes p lay (within a rest (TakeSlot s c i)) (OnBlock (OrUsed c i found)) false (within a rest (SeeBlock (Search s) false c))
  -- a swept block with other slots, and one that somebody sweeps, are passed over
  sees_other : (a : Actor) (s : Statement) (rest : List Statement) (begins : Bool) (c z : ℕ) → z ≢ made_slot p s →
      BlockComes p lay (within a rest (SeeBlock (Search s) begins c)) (OnBlock (LoadBlock c (Swept z))) false (within a rest (onward p (Search s) (c + 1)))
  sees_sweeping : (a : Actor) (t : Task) (rest : List Statement) (begins : Bool) (c z : ℕ) → MaySee t begins →
      BlockComes p lay (within a rest (SeeBlock t begins c)) (OnBlock (LoadBlock c (Sweeping z))) false (within a rest (onward p t (c + 1)))
  -- an owed block is swept by who takes it over; who lost it looks at it again
  sees_need : (a : Actor) (t : Task) (rest : List Statement) (begins : Bool) (c z : ℕ) → MaySee t begins → IsSizeClass z →
      BlockComes p lay (within a rest (SeeBlock t begins c)) (OnBlock (LoadBlock c (Need z))) false (within a rest (TakeOver t c z))
  takes_over : (a : Actor) (t : Task) (rest : List Statement) (c z : ℕ) →
      BlockComes p lay (within a rest (TakeOver t c z)) (OnBlock (WonBlock c (Need z) (Sweeping z))) false (within a rest (StoreOccupancy t c z))
  misses_sweep : (a : Actor) (t : Task) (rest : List Statement) (c z : ℕ) (found : BlockWord) →
      BlockComes p lay (within a rest (TakeOver t c z)) (OnBlock (LostBlock c (Need z) (Sweeping z) found)) false (within a rest (SeeBlock t false c))
  -- the sweep: the occupancy becomes the marks, the words of the slots that aren't marked become zero, in order, and then the block is swept or free
  stores_occupancy : (a : Actor) (t : Task) (rest : List Statement) (c z : ℕ) →
      BlockComes p lay (within a rest (StoreOccupancy t c z)) (OnBlock (StoreUsed c (lay.marks c))) false (within a rest (ClearSlots t c z 0))
  clears_first : (a : Actor) (t : Task) (rest : List Statement) (c z i j : ℕ) → i ≤ j → j < slots z → AreMarked lay c i j → bit_at (lay.marks c) j ≡ 0 → 1 < z →
      BlockComes p lay (within a rest (ClearSlots t c z i)) (OnBlock (Zero (slot_word p c z j 0))) false (within a rest (ClearWords t c z j 1))
  clears_next : (a : Actor) (t : Task) (rest : List Statement) (c z i f : ℕ) → f + 1 < z →
      BlockComes p lay (within a rest (ClearWords t c z i f)) (OnBlock (Zero (slot_word p c z i f))) false (within a rest (ClearWords t c z i (f + 1)))
  clears_last : (a : Actor) (t : Task) (rest : List Statement) (c z i f : ℕ) → f + 1 ≡ z →
      BlockComes p lay (within a rest (ClearWords t c z i f)) (OnBlock (Zero (slot_word p c z i f))) false (within a rest (ClearSlots t c z (i + 1)))
  ends_sweep : (a : Actor) (t : Task) (rest : List Statement) (c z i : ℕ) → AreMarked lay c i (slots z) →
      BlockComes p lay (within a rest (ClearSlots t c z i)) (OnBlock (StoreBlock c (swept_word (Need z) (lay.marks c)))) false
      (within a rest (SeeBlock t true c))
  -- the background sweeper: it looks at the stop word as its turn begins, passes over what isn't owed, and ends behind the last block
  roams_on : (a : Actor) (rest : List Statement) (c : ℕ) →
      BlockComes p lay (within a rest (SeeBlock Roam true c)) (Load Stop 0) false (within a rest (onward p Roam c))
  retires : (a : Actor) (rest : List Statement) (c saw : ℕ) → saw ≢ 0 →
      BlockComes p lay (within a rest (SeeBlock Roam true c)) (Load Stop saw) false (within a rest Retired)
  roams_free : (a : Actor) (rest : List Statement) (c : ℕ) →
      BlockComes p lay (within a rest (SeeBlock Roam false c)) (OnBlock (LoadBlock c Free)) false (within a rest (onward p Roam (c + 1)))
  roams_swept : (a : Actor) (rest : List Statement) (c z : ℕ) →
      BlockComes p lay (within a rest (SeeBlock Roam false c)) (OnBlock (LoadBlock c (Swept z))) false (within a rest (onward p Roam (c + 1)))

-- an actor's next step, of either sort
abbrev pub NextStep : Program → Constants → Actor → Step → Bool → Actor → Type 0
NextStep p lay a step decides b = Comes p lay a step decides b ⊎ BlockComes p lay a step decides b

-- these steps are the next ones of an actor, which is `last` after them
abbrev pub Follows : Program → Constants → Actor → List Tick → Actor → Type 0
Follows p lay a [] last = last ≡ a
Follows p lay a (t ∷ ts) last = (mid : Actor) × NextStep p lay a t.step t.decides mid × Follows p lay mid ts last

-- a, on the words w, takes next steps of its program, and so becomes b and leaves the words v
pub record Went (p : Program) (lay : Constants) (a : Actor) (w : Words) (b : Actor) (v : Words) : Type 0 where
  pub ticks : List Tick
  pub legal : Legal w ticks
  pub after : v ≡ after w ticks
  pub follows : Follows p lay a ticks b
