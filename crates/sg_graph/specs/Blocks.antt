-- How the block words, the occupancies and the marks, and the words of the major heap, stand to the objects of a book.
use Rattle.std.specs.Prelude.{◌≡◌, ◌≢◌, ℕ, ◌+◌, ◌<◌, ◌≤◌, Bool, true}
use Rattle.std.specs.Int.{bit_at}
use Rattle.sg_words.specs.Blocks.{slots, IsSizeClass, IsOf, is_taken, IsOwing, card_of}
use Rattle.sg_words.specs.Words.{Words}
use Rattle.sg_words.specs.declared.steps.BlockWord.{BlockWord}
use Rattle.sg_words.specs.declared.steps.BlockWord.TheVariants.{Free, Swept, Need, Sweeping}
use Rattle.sg_desc.specs.Shapes.{is_strong}
use Rattle.sg_program.specs.declared.program.Program.{Program}
use Rattle.sg_program.specs.Scripts.{kind_of}
use Rattle.sg_graph.specs.Graph.{Graph, Ref}
use Rattle.sg_graph.specs.Book.{Book, Section, Young, Old, block_at, slot_at, slot_words}
use Rattle.sg_graph.specs.Heap.{Owner, Of, layout_of}

-- an old object whose slot has s words stands at x
pub record IsOldAt (size : ℕ → ℕ) (stands : ℕ → Bool) (address : ℕ → ℕ) (section : ℕ → Section) (n x s : ℕ) : Type 0 where
  pub some : 1 ≤ n
  pub standing : stands n ≡ true
  pub old : section n ≡ Old
  pub at : address n ≡ x
  pub sized : slot_words (size n) ≡ s

-- x is a word of a slot of block c that is to be zeroed: the block is owed, and the slot isn't marked
pub record IsDirty (p : Program) (marks : ℕ) (state : BlockWord) (c x : ℕ) : Type 0 where
  pub size : ℕ
  pub slot : ℕ
  pub owing : IsOwing state size
  pub fits : slot < slots size
  pub unmarked : bit_at marks slot ≡ 0
  pub from : slot_at p c size slot ≤ x
  pub to : x < slot_at p c size slot + size

-- x is the front of a slot of s words of block c, whose bit is set
pub record IsTakenAt (p : Program) (marks : ℕ) (x s c : ℕ) (state : BlockWord) (used : ℕ) : Type 0 where
  pub slot : ℕ
  pub fits : slot < slots s
  pub address : x ≡ slot_at p c s slot
  pub of : IsOf state s
  pub taken : is_taken state used marks slot ≡ 1

-- What block c's own words say: an old object of the block's size stands in each slot whose bit is set; no slot of a free block is occupied or
-- marked; a block that is to be swept, or is being swept, is owed; and marks are on occupied slots.
pub record IsBlock (p : Program) (marks : ℕ) (size : ℕ → ℕ) (stands : ℕ → Bool) (address : ℕ → ℕ) (section : ℕ → Section) (owed : ℕ → Bool) (c : ℕ) (state : BlockWord) (used : ℕ) : Type 0 where
  pub filled : (s i : ℕ) → IsOf state s → i < slots s → is_taken state used marks i ≡ 1 → (n : ℕ) × IsOldAt size stands address section n (slot_at p c s i) s
  pub bare : state ≡ Free → used ≡ 0
  pub owing : (s : ℕ) → IsOwing state s → owed c ≡ true
  pub kept : (s i : ℕ) → IsOwing state s → bit_at marks i ≡ 1 → (i < slots s) × (bit_at used i ≡ 1)
  pub unmarked : state ≡ Free → marks ≡ 0
  pub within : (s : ℕ) → state ≡ Swept s → (i : ℕ) → bit_at marks i ≡ 1 → bit_at used i ≡ 1

-- the block is zero outside of objects and of what is to be zeroed
abbrev pub IsClear : Program → ℕ → (ℕ → ℕ) → (ℕ → Owner) → ℕ → BlockWord → Type 0
IsClear p marks word owner c state = (x : ℕ) → block_at p c ≤ x → x < block_at p c + 256 → ((n : ℕ) → owner x ≢ Of n) → (IsDirty p marks state c x → ⊥) → word x ≡ 0

-- The old objects stand in slots of their size whose bits are set, and each block is as its own words say.
pub record AreBlocks (p : Program) (marks : ℕ → ℕ) (state : ℕ → BlockWord) (used : ℕ → ℕ) (word : ℕ → ℕ) (size : ℕ → ℕ) (stands : ℕ → Bool) (address : ℕ → ℕ)
    (section : ℕ → Section) (owed : ℕ → Bool) (owner : ℕ → Owner) : Type 0 where
  pub placed : (n : ℕ) → 1 ≤ n → stands n ≡ true → section n ≡ Old → (c : ℕ) × (c < p.config.blocks) × IsTakenAt p (marks c) (address n) (slot_words (size n)) c (state c) (used c)
  pub each : (c : ℕ) → c < p.config.blocks → IsBlock p (marks c) size stands address section owed c (state c) (used c)
  pub clear : (c : ℕ) → c < p.config.blocks → IsClear p (marks c) word owner c (state c)
  -- a block's size is a size class
  pub sized : (c s : ℕ) → c < p.config.blocks → IsOf (state c) s → IsSizeClass s

-- each strong field of an old object that refers to a young one has a dirty card
pub record AreCarded (p : Program) (card : ℕ → ℕ) (g : Graph) (b : Book) : Type 0 where
  pub dirty : (n i m : ℕ) → 1 ≤ n → b.stands n ≡ true → b.section n ≡ Old → i < g.size n → is_strong (kind_of p (g.class n)) i (g.size n) ≡ true → g.field n i ≡ Ref m →
      1 ≤ m → b.section m ≡ Young → card (card_of (layout_of p) (b.address n + 2 + i)) ≡ 1

-- How the words of blocks and cards are wherever an epoch, a pause or a stop has ended: no block is being swept, each swept one has an
-- object, the owed ones are those that are still to be swept, and the cards that are needed are dirty.
pub record AreSettled (p : Program) (w : Words) (g : Graph) (b : Book) (owner : ℕ → Owner) : Type 0 where
  pub blocks : AreBlocks p w.marks w.block w.used w.word g.size b.stands b.address b.section b.owed owner
  pub settled : (c s : ℕ) → c < p.config.blocks → w.block c ≡ Sweeping s → ⊥
  pub inhabited : (c s : ℕ) → c < p.config.blocks → w.block c ≡ Swept s → (n : ℕ) × (1 ≤ n) × (b.stands n ≡ true) × (block_at p c ≤ b.address n) × (b.address n < block_at p c + 256)
  pub owes : (c : ℕ) → c < p.config.blocks → b.owed c ≡ true → (s : ℕ) × (w.block c ≡ Need s)
  pub cards : AreCarded p w.card g b
