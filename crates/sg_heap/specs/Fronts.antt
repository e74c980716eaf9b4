-- The objects of a space by their first words, and the names that stand there.
use Rattle.std.specs.Prelude.{◌≡◌, ◌≢◌, ℕ, zero, suc, ◌+◌, ◌<◌, ◌≤◌, true, Option, Some, None, slice_get}
use Rattle.sg_words.specs.Address.{byte_at}
use Rattle.sg_words.specs.Sections.{nursery_base, old_base}
use Rattle.sg_words.specs.Tags.{plain_word}
use Rattle.sg_desc.specs.declared.shapes.Shape.{Shape}
use Rattle.sg_desc.specs.Shapes.{holds_reference, is_strong}
use Rattle.sg_program.specs.declared.program.Program.{Program}
use Rattle.sg_program.specs.Scripts.{shape_of, kind_of, words_for}
use Rattle.sg_graph.specs.Graph.{Graph, Ref}
use Rattle.sg_graph.specs.Book.{Book, Young, Old, nursery_end, old_end}
use Rattle.sg_graph.specs.Heap.{Owner, Of, Frag, Buf, Nobody}
use Rattle.sg_graph.specs.Pause.{IsTarget}
use Rattle.sg_space.specs.Space.{Contents}
use Rattle.sg_space.specs.Standing.{word, IsSoundBy, RefersSoundly, AreRows}

-- the first word of the object that is the owner
unfoldable pub front_of : (ℕ → ℕ) → Owner → Option ℕ
front_of address (Of zero) = None
front_of address (Of (suc n)) = Some (address (suc n))
front_of address (Frag f) = None
front_of address (Buf k) = None
front_of address Nobody = None

-- the first word of the object that has the word x
abbrev pub fronts : (ℕ → ℕ) → (ℕ → Owner) → ℕ → Option ℕ
fronts address owner x = front_of address (owner x)

-- the name is that of the object that stands at this word
pub record StandsAt (b : Book) (n h : ℕ) : Type 0 where
  pub some : n ≢ 0
  pub stands : b.stands n ≡ true
  pub at : b.address n ≡ h

-- a strong field of the object whose first word is h holds the address of the word k
pub record HoldsStrong (s : Contents) (h k : ℕ) : Type 0 where
  pub class : ℕ
  pub shape : Shape
  pub field : ℕ
  pub shape_is : slice_get s.shapes class ≡ Some shape
  pub tag : word s h ≡ plain_word class
  pub within : field < word s (h + 1)
  pub strong : is_strong shape.kind field (word s (h + 1)) ≡ true
  pub holds : word s (h + 2 + field) ≡ byte_at k

-- What names and first words are to each other: by the first words of its objects the space is sound and refers soundly, and these are
-- exactly the addresses of the standing names.
pub record IsFronted (p : Program) (s : Contents) (g : Graph) (b : Book) (owner : ℕ → Owner) : Type 0 where
  pub sound : IsSoundBy s (fronts b.address owner)
  pub refers : RefersSoundly s (fronts b.address owner)
  pub rows : AreRows s
  pub nursery_is : s.layout.nursery ≡ p.config.nursery
  pub blocks_is : s.layout.blocks ≡ p.config.blocks
  -- the words of a standing name are its own
  pub owns : (n x : ℕ) → b.stands n ≡ true → b.address n ≤ x → x < b.address n + words_for (g.size n) → owner x ≡ Of n
  pub owns_first : (n : ℕ) → b.stands n ≡ true → owner (b.address n) ≡ Of n
  pub owned : (n x : ℕ) → owner x ≡ Of n → (b.stands n ≡ true) × (b.address n ≤ x) × (x < b.address n + words_for (g.size n))
  pub one_owner : (m n x : ℕ) → owner x ≡ Of m → owner x ≡ Of n → m ≡ n
  pub is_owned : (n x : ℕ) → n ≢ 0 → owner x ≡ Of n → fronts b.address owner x ≡ Some (b.address n)
  pub named_front : (x h : ℕ) → fronts b.address owner x ≡ Some h → (n : ℕ) × (n ≢ 0) × (owner x ≡ Of n) × (b.address n ≡ h)
  -- by whatever owners the space is sound, a name stands at each first word of the major heap
  pub old_front : (o : ℕ → Option ℕ) → IsSoundBy s o → (h : ℕ) → o h ≡ Some h → old_base s.layout ≤ h → (n : ℕ) × StandsAt b n h × (b.section n ≡ Old)
  -- its class, its length and its shape
  pub class_is : (n : ℕ) → n ≢ 0 → b.stands n ≡ true → word s (b.address n) ≡ plain_word (g.class n)
  pub length_is : (n : ℕ) → n ≢ 0 → b.stands n ≡ true → word s (b.address n + 1) ≡ g.size n
  pub shape_is : (n : ℕ) → n ≢ 0 → b.stands n ≡ true → slice_get s.shapes (g.class n) ≡ Some (shape_of p (g.class n))
  pub few_fields : (n : ℕ) → n ≢ 0 → b.stands n ≡ true → g.size n ≤ 62
  pub few_classes : (n : ℕ) → n ≢ 0 → b.stands n ≡ true → g.class n < 256
  -- a young object lies in the nursery, and an old one in the major heap
  pub young_inside : (n : ℕ) → n ≢ 0 → b.stands n ≡ true → b.section n ≡ Young → (nursery_base ≤ b.address n) × (b.address n + words_for (g.size n) ≤ nursery_end p)
  pub old_inside : (n : ℕ) → n ≢ 0 → b.stands n ≡ true → b.section n ≡ Old → (nursery_end p ≤ b.address n) × (b.address n + words_for (g.size n) ≤ old_end p)
  pub young_there : (n : ℕ) → n ≢ 0 → b.stands n ≡ true → b.address n < nursery_end p → b.section n ≡ Young
  pub old_there : (n : ℕ) → n ≢ 0 → b.stands n ≡ true → nursery_end p ≤ b.address n → b.section n ≡ Old
  -- what a reference field refers to
  pub reference : (n i : ℕ) → b.stands n ≡ true → i < g.size n → holds_reference (kind_of p (g.class n)) i (g.size n) ≡ true →
      (k : ℕ) × (g.field n i ≡ Ref k) × (b.stands k ≡ true) × (word s (b.address n + 2 + i) ≡ byte_at (b.address k))
  -- the strong fields of names are those of first words
  pub target_held : (m n : ℕ) → m ≢ 0 → b.stands m ≡ true → IsTarget p g m n → (b.stands n ≡ true) × HoldsStrong s (b.address m) (b.address n)
  pub held_target : (m k : ℕ) → m ≢ 0 → b.stands m ≡ true → k ≢ 0 → HoldsStrong s (b.address m) k → (n : ℕ) × StandsAt b n k × IsTarget p g m n
