-- The book: which objects stand, and where; the owed blocks; the fragments; the buffers.
use Rattle.std.specs.Prelude.{◌≡◌, ◌≢◌, ℕ, ◌+◌, ◌-◌, ◌*◌, ◌<◌, ◌≤◌, ◌⊎◌, ◌==◌, min, max, Bool, true, false, List, [], ◌∷◌}
use Rattle.sg_words.specs.Words.{put}
use Rattle.sg_program.specs.declared.program.Statement.{Statement}
use Rattle.sg_program.specs.declared.program.Statement.TheVariants.{New, NewV, Mature, Collect, Sections}
use Rattle.sg_program.specs.declared.program.Program.{Program}
use Rattle.sg_program.specs.declared.answers.Answer.{Answer}
use Rattle.sg_program.specs.declared.answers.Answer.TheVariants.{At}
use Rattle.sg_program.specs.Scripts.{fields_of, words_for, IsSmall}
use Rattle.sg_words.specs.Address.{byte_at}
use Rattle.sg_words.specs.Sections.{nursery_base}
use Rattle.sg_words.specs.Blocks.{slot_size, slots}
use Rattle.sg_graph.specs.Graph.{Graph, Entry, Ref, Int, Inner}

-- where an object stands: in the nursery, in a block of the major heap, or in pages of its own
pub data Section : Type 0 where
  Young : Section
  Old : Section
  Large : Section

-- Addresses are numbers of words. The name 0, which stands for no object, always stands, at address 0.
-- A fragment's words from `next` to before `limit` weren't given away yet. A buffer's words from `from` to before `to`
-- are those that its mutator has taken and not used. The owed blocks are those that are still to be swept.
pub record Book : Type 0 where
  pub stands : ℕ → Bool
  pub address : ℕ → ℕ
  pub section : ℕ → Section
  pub owed : ℕ → Bool
  pub fragments : ℕ
  pub next : ℕ → ℕ
  pub limit : ℕ → ℕ
  pub from : ℕ → ℕ
  pub to : ℕ → ℕ

-- the word behind the nursery's last one
abbrev pub nursery_end : Program → ℕ
nursery_end p = nursery_base + p.config.nursery

-- the word behind the major heap's last one: the heap begins where the nursery ends, and a block has 256 words
abbrev pub old_end : Program → ℕ
old_end p = nursery_end p + 256 * p.config.blocks

-- the first word of block j, and that of its slot i where its slots have z words
abbrev pub block_at : Program → ℕ → ℕ
block_at p j = nursery_end p + 256 * j

abbrev pub slot_at : Program → ℕ → ℕ → ℕ → ℕ
slot_at p j z i = block_at p j + z * i

-- the words of the slot of an old object with so many fields: the least size class that holds it
abbrev pub slot_words : ℕ → ℕ
slot_words fields = slot_size (words_for fields)

-- nothing stands, no block is owed, and the whole nursery is one fragment
abbrev pub empty_book : Program → Book
empty_book p = record {
  stands = λ n. n == 0;
  address = λ _. 0;
  section = λ _. Young;
  owed = λ _. false;
  fragments = 1;
  next = λ _. nursery_base;
  limit = λ _. nursery_end p;
  from = λ _. 0;
  to = λ _. 0;
}

-- the object with this name stands at x, in this section
abbrev pub placed_in : Book → Section → ℕ → ℕ → Book
placed_in b section name x = record b { stands = put b.stands name true; address = put b.address name x; section = put b.section name section }

-- the young object with this name stands at x
abbrev pub placed : Book → ℕ → ℕ → Book
placed b name x = placed_in b Young name x

-- the owed blocks are swept: none is owed any more, and nothing else changes
abbrev pub swept_out : Book → Book
swept_out b = record b { owed = λ _. false }

-- these blocks are swept: none of them is owed any more, and nothing else changes
abbrev pub swept_in : Book → List ℕ → Book
swept_in b [] = b
swept_in b (j ∷ more) = swept_in (record b { owed = put b.owed j false }) more

-- the object takes n words at the front of k's buffer
pub record Bumps (b : Book) (k n name : ℕ) (c : Book) : Type 0 where
  pub room : b.from k + n ≤ b.to k
  pub after : c ≡ record (placed b name (b.from k)) { from = put b.from k (b.from k + n) }

-- k's buffer has fewer than n words left
abbrev pub IsShort : Book → ℕ → ℕ → Type 0
IsShort b k n = b.to k < b.from k + n

-- fragment f has n words left
abbrev pub HasRoom : Book → ℕ → ℕ → Type 0
HasRoom b n f = b.next f + n ≤ b.limit f

-- fragment f has fewer than n words left
abbrev pub LacksRoom : Book → ℕ → ℕ → Type 0
LacksRoom b n f = b.limit f < b.next f + n

-- what fragment f gives for n words: the smaller of its rest and the greater of n and the buffer setting
abbrev pub share : Program → Book → ℕ → ℕ → ℕ
share p b f n = min (b.limit f - b.next f) (max n p.config.buffer)

-- the buffer is too short, and f is the lowest fragment with n words left: it gives the object and the new buffer behind it
pub record Claims (p : Program) (b : Book) (k n name f : ℕ) (c : Book) : Type 0 where
  pub short : IsShort b k n
  pub there : f < b.fragments
  pub room : HasRoom b n f
  pub lowest : (j : ℕ) → j < f → LacksRoom b n j
  pub after : c ≡ record (placed b name (b.next f)) {
    next = put b.next f (b.next f + share p b f n);
    from = put b.from k (b.next f + n);
    to = put b.to k (b.next f + share p b f n);
  }

-- neither k's buffer nor any fragment has n words left
pub record HasNoPlace (b : Book) (k n : ℕ) : Type 0 where
  pub short : IsShort b k n
  pub none : (f : ℕ) → f < b.fragments → LacksRoom b n f

-- the words of a new object of class c, where all objects of the class have the same number
abbrev pub words_of_class : Program → ℕ → ℕ
words_of_class p c = words_for (fields_of p c)

-- A small object of n words stands at the front of its mutator's buffer, or in the lowest fragment with room. No place is
-- given to a large one yet.
abbrev pub IsPlaced : Program → Book → ℕ → ℕ → ℕ → Book → Type 0
IsPlaced p b k n name c = IsSmall n × (Bumps b k n name c ⊎ ((f : ℕ) × Claims p b k n name f c))

-- the word of what a register, a place of a stack or a field holds: an object's byte address, or that of a byte of it, 0 for
-- none, or the number
abbrev pub word_of : (ℕ → ℕ) → Entry → ℕ
word_of address (Ref name) = byte_at (address name)
word_of address (Int number) = number
word_of address (Inner name offset) = byte_at (address name) + offset

-- the word x is one of the standing object with this name
pub record IsWordOf (g : Graph) (b : Book) (name x : ℕ) : Type 0 where
  pub some : 1 ≤ name
  pub stands : b.stands name ≡ true
  pub above : b.address name ≤ x
  pub below : x < b.address name + words_for (g.size name)

-- the standing old object with this name is in block j
pub record IsInBlock (p : Program) (b : Book) (name j : ℕ) : Type 0 where
  pub some : 1 ≤ name
  pub stands : b.stands name ≡ true
  pub old : b.section name ≡ Old
  pub above : block_at p j ≤ b.address name
  pub below : b.address name < block_at p j + 256

-- the standing old object with this name fills, from the front, slot i of z words of block j
pub record IsInSlot (p : Program) (g : Graph) (b : Book) (name j z i : ℕ) : Type 0 where
  pub some : 1 ≤ name
  pub stands : b.stands name ≡ true
  pub old : b.section name ≡ Old
  pub sized : slot_words (g.size name) ≡ z
  pub there : j < p.config.blocks
  pub fits : i < slots z
  pub at : b.address name ≡ slot_at p j z i

-- no word of slot i of z words of block j is a standing object's
abbrev pub IsEmptySlot : Program → Graph → Book → ℕ → ℕ → ℕ → Type 0
IsEmptySlot p g b j z i = (name x : ℕ) → IsWordOf g b name x → slot_at p j z i ≤ x → x < slot_at p j z i + z → ⊥

-- Block j may have slots of z words: no object of another size stands in it. A block in which none stands is free for each size.
abbrev pub IsOfSize : Program → Graph → Book → ℕ → ℕ → Type 0
IsOfSize p g b j z = (name : ℕ) → IsInBlock p b name j → slot_words (g.size name) ≡ z

-- slot i of z words of block j is the lowest without a standing object of a block that may have such slots
pub record IsOpenSlot (p : Program) (g : Graph) (b : Book) (j z i : ℕ) : Type 0 where
  pub there : j < p.config.blocks
  pub fits : i < slots z
  pub size : IsOfSize p g b j z
  pub empty : IsEmptySlot p g b j z i
  pub lowest : (k : ℕ) → k < i → (name : ℕ) × IsInSlot p g b name j z k

-- block j has no place for an object of z slot words: one of another size stands in it, or one stands in each of its slots
abbrev pub IsShut : Program → Graph → Book → ℕ → ℕ → Type 0
IsShut p g b j z = ((name : ℕ) × IsInBlock p b name j × (slot_words (g.size name) ≢ z)) ⊎ ((i : ℕ) → i < slots z → (name : ℕ) × IsInSlot p g b name j z i)

-- the slot is the lowest open one of the lowest block that has one
pub record IsFirstSlot (p : Program) (g : Graph) (b : Book) (j z i : ℕ) : Type 0 where
  pub open_slot : IsOpenSlot p g b j z i
  pub below : (k : ℕ) → k < j → IsShut p g b k z

-- The new object stands in a slot of z words, the lowest without a standing object of a block that has such slots or is free. Which block it is
-- depends on which were owed when: of this an epoch's end tells.
pub record IsSlotted (p : Program) (g : Graph) (b : Book) (z name : ℕ) (c : Book) : Type 0 where
  pub block : ℕ
  pub slot : ℕ
  pub open_slot : IsOpenSlot p g b block z slot
  pub after : c ≡ placed_in b Old name (slot_at p block z slot)

-- Where the object of a statement of mutator k with this answer stands; no other statement changes the book. A new object's
-- want of room is told at a stop alone, and a pause is made there. By the graph objects have sizes.
abbrev pub Books : Program → Graph → Book → ℕ → Statement → Answer → Book → Type 0
Books p g b k (New r class) (At name) c = IsPlaced p b k (words_of_class p class) name c
Books p g b k (New r class) answer c = ⊥
Books p g b k (NewV r class count) (At name) c = IsPlaced p b k (words_for count) name c
Books p g b k (NewV r class count) answer c = ⊥
Books p g b k (Mature r class) (At name) c = IsSlotted p g b (slot_words (fields_of p class)) name c
Books p g b k (Mature r class) answer c = ⊥
Books p g b k (Collect major) answer c = ⊥
Books p g b k Sections answer c = ⊥
Books p g b k s answer c = c ≡ b

-- By the book c as an epoch ends, a search for a slot of z words has no place in block j: the block isn't owed any more; and where it wasn't owed
-- as the epoch began, an object of another size stands in it, or one stands in each of its slots.
pub record IsClosed (p : Program) (owed : ℕ → Bool) (g : Graph) (c : Book) (j z : ℕ) : Type 0 where
  pub swept : c.owed j ≡ false
  pub shut : owed j ≡ false → IsShut p g c j z

-- no word is of two standing objects, and each young one lies in the nursery
pub record IsApart (p : Program) (g : Graph) (b : Book) : Type 0 where
  pub apart : (m n x : ℕ) → IsWordOf g b m x → IsWordOf g b n x → m ≡ n
  pub inside : (n x : ℕ) → IsWordOf g b n x → b.section n ≡ Young → (nursery_base ≤ x) × (x < nursery_end p)

-- What holds of the standing objects of a graph by a book, whenever an epoch, a pause or a stop has ended: no two have a word in
-- common, each old one fills a slot of its size class from the front, and those of one block have one size.
pub record IsSoundBook (p : Program) (g : Graph) (b : Book) : Type 0 where
  pub apart : IsApart p g b
  pub slotted : (name : ℕ) → 1 ≤ name → b.stands name ≡ true → b.section name ≡ Old → (j i : ℕ) × IsInSlot p g b name j (slot_words (g.size name)) i
  pub one_size : (m n j : ℕ) → IsInBlock p b m j → IsInBlock p b n j → slot_words (g.size m) ≡ slot_words (g.size n)
