-- How words hold a graph of named objects, by the book of their addresses.
use Rattle.std.specs.Prelude.{◌≡◌, ◌≢◌, ℕ, ◌+◌, ◌<◌, ◌≤◌, ◌⊎◌, Bool, true, false, length}
use Rattle.sg_words.specs.Address.{byte_at}
use Rattle.sg_words.specs.Tags.{plain_word}
use Rattle.sg_program.specs.declared.program.Program.{Program}
use Rattle.sg_desc.specs.Shapes.{holds_reference}
use Rattle.sg_program.specs.Scripts.{kind_of, IsSizeOf, words_for}
use Rattle.sg_graph.specs.Graph.{Entry, Ref, Int, Inner, Graph}
use Rattle.sg_graph.specs.Book.{Book, Section, Young, Old, nursery_end, old_end, word_of}
use Rattle.sg_words.specs.Sections.{nursery_base, globals_base, ready_base, words_end}
use Rattle.sg_words.specs.declared.layout.Layout.{Layout}

-- who owns a word: an object, a fragment's rest, a mutator's buffer, or nobody
pub data Owner : Type 0 where
  Of : (n : ℕ) → Owner
  Frag : (f : ℕ) → Owner
  Buf : (k : ℕ) → Owner
  Nobody : Owner

-- the tag and the length of the object are written
abbrev pub IsHeaded : (ℕ → ℕ) → Graph → Book → ℕ → Type 0
IsHeaded w g b n = (w (b.address n) ≡ plain_word (g.class n)) × (w (b.address n + 1) ≡ g.size n)

-- the name stands, and it is nothing or its object is headed
abbrev pub IsKnown : (ℕ → ℕ) → Graph → Book → ℕ → Type 0
IsKnown w g b n = (b.stands n ≡ true) × ((n ≡ 0) ⊎ IsHeaded w g b n)

abbrev pub IsKnownEntry : (ℕ → ℕ) → Graph → Book → Entry → Type 0
IsKnownEntry w g b (Ref n) = IsKnown w g b n
IsKnownEntry w g b (Int v) = Unit {0}
IsKnownEntry w g b (Inner n offset) = IsKnown w g b n

-- a field of this sort holds a reference or a number
abbrev pub IsOfSort : Bool → Entry → Type 0
IsOfSort true (Ref n) = Unit {0}
IsOfSort true (Int v) = ⊥
IsOfSort false (Ref n) = ⊥
IsOfSort false (Int v) = Unit {0}
IsOfSort sort (Inner n offset) = ⊥

-- nothing, at address 0 and without a field, stands always
pub record Nothing (stands : ℕ → Bool) (address size : ℕ → ℕ) : Type 0 where
  pub stands_nil : stands 0 ≡ true
  pub at_nil : address 0 ≡ 0
  pub no_size : size 0 ≡ 0

-- Each word of a standing object is its own, and no other word is. The object lies in the nursery or in the major heap.
pub record Objects (p : Program) (count : ℕ) (class size : ℕ → ℕ) (stands : ℕ → Bool) (address : ℕ → ℕ) (section : ℕ → Section) (owner : ℕ → Owner) : Type 0 where
  pub given : (n : ℕ) → stands n ≡ true → n ≤ count
  pub shaped : (n : ℕ) → 1 ≤ n → stands n ≡ true → (class n < length p.classes) × IsSizeOf p (class n) (size n)
  pub owns : (n x : ℕ) → stands n ≡ true → address n ≤ x → x < address n + words_for (size n) → owner x ≡ Of n
  pub owned : (n x : ℕ) → owner x ≡ Of n → (stands n ≡ true) × (address n ≤ x) × (x < address n + words_for (size n))
  pub inside : (n : ℕ) → 1 ≤ n → stands n ≡ true →
      ((section n ≡ Young) × (nursery_base ≤ address n) × (address n + words_for (size n) ≤ nursery_end p))
      ⊎ ((section n ≡ Old) × (nursery_end p ≤ address n) × (address n + words_for (size n) ≤ old_end p))

-- each field holds the word of what the graph says, of the sort that the class says, and what it refers to is known
pub record Fields (p : Program) (w : ℕ → ℕ) (g : Graph) (b : Book) : Type 0 where
  pub holds : (n i : ℕ) → b.stands n ≡ true → i < g.size n → w (b.address n + 2 + i) ≡ word_of b.address (g.field n i)
  pub known : (n i : ℕ) → b.stands n ≡ true → i < g.size n → IsKnownEntry w g b (g.field n i)
  pub sorted : (n i : ℕ) → b.stands n ≡ true → i < g.size n → IsOfSort (holds_reference (kind_of p (g.class n)) i (g.size n)) (g.field n i)

-- the sections that a program's settings make
abbrev pub layout_of : Program → Layout
layout_of p = record { nursery = p.config.nursery; blocks = p.config.blocks; pages = p.config.pages }

-- each global holds the address of an object that is known, or 0, and the rows behind the globals are empty
pub record Globals (p : Program) (w : ℕ → ℕ) (g : Graph) (b : Book) : Type 0 where
  pub holds : (x : ℕ) → x < 64 → w (globals_base (layout_of p) + x) ≡ byte_at (b.address (g.global x))
  pub known : (x : ℕ) → x < 64 → IsKnown w g b (g.global x)
  pub empty : (x : ℕ) → ready_base (layout_of p) ≤ x → x < words_end (layout_of p) → w x ≡ 0

-- the nursery is zero outside of objects; there are no large objects yet, so the large space is zero
pub record Clear (p : Program) (w : ℕ → ℕ) (owner : ℕ → Owner) : Type 0 where
  pub large : (x : ℕ) → old_end p ≤ x → x < globals_base (layout_of p) → w x ≡ 0
  pub clear : (x : ℕ) → nursery_base ≤ x → x < nursery_end p → ((n : ℕ) → owner x ≢ Of n) → w x ≡ 0

-- the fragments' words are their own, and the fragments stand in the nursery, by address
pub record Fragments (p : Program) (fragments : ℕ) (next limit : ℕ → ℕ) (owner : ℕ → Owner) : Type 0 where
  pub owns : (f x : ℕ) → f < fragments → next f ≤ x → x < limit f → owner x ≡ Frag f
  pub inside : (f : ℕ) → f < fragments → (nursery_base ≤ next f) × (next f ≤ limit f) × (limit f ≤ nursery_end p)
  pub ordered : (f j : ℕ) → f < j → j < fragments → limit f ≤ next j

-- the buffers' words are their own
pub record Buffers (p : Program) (from to : ℕ → ℕ) (owner : ℕ → Owner) : Type 0 where
  pub owns : (k x : ℕ) → from k ≤ x → x < to k → owner x ≡ Buf k
  pub inside : (k : ℕ) → from k < to k → (nursery_base ≤ from k) × (to k ≤ nursery_end p)

-- the words w hold the graph by the book, but that the tag and the length of a new object may lack
pub record IsLaid (p : Program) (w : ℕ → ℕ) (g : Graph) (b : Book) (owner : ℕ → Owner) : Type 0 where
  pub nothing : Nothing b.stands b.address g.size
  pub objects : Objects p g.count g.class g.size b.stands b.address b.section owner
  pub fields : Fields p w g b
  pub globals : Globals p w g b
  pub clear : Clear p w owner
  pub fragments : Fragments p b.fragments b.next b.limit owner
  pub buffers : Buffers p b.from b.to owner

-- the words w hold the graph by the book, and each standing object has its tag and its length
pub record IsHeap (p : Program) (w : ℕ → ℕ) (g : Graph) (b : Book) (owner : ℕ → Owner) : Type 0 where
  pub laid : IsLaid p w g b owner
  pub headed : (n : ℕ) → 1 ≤ n → b.stands n ≡ true → IsHeaded w g b n
