-- What a contract sees of a space.
use Rattle.std.specs.Prelude.{◌≡◌, ℕ, ◌+◌, ◌*◌, ◌≤◌, List, [], ◌∷◌, length, replicate, slice_index, slice_index_or}
use Rattle.std.specs.List.{All}
use Rattle.sg_words.specs.Address.{byte_at}
use Rattle.sg_words.specs.Words.{Words}
use Rattle.sg_words.specs.declared.steps.BlockWord.{BlockWord}
use Rattle.sg_words.specs.declared.steps.BlockWord.TheVariants.{Free}
use Rattle.sg_desc.specs.declared.shapes.Shape.{Shape}
use Rattle.sg_words.specs.declared.layout.Layout.{Layout}
use Rattle.sg_words.specs.Sections.{nursery_base, old_base, words_end, IsLayout}

-- Its layout, the shapes of its classes and its words by number; for each fragment the byte addresses of its next word and of the word
-- behind its last one; whether the mutators are asked to stop; for each block its word, its occupancy and its marks; for each card 1
-- where it is dirty and else 0; for each page 0 where it is free, and else 1 and the number of its object's first page; how many entries
-- of the ready row were taken, and how many were made; and the byte addresses of the registered objects and of the pairs.
pub record Contents : Type 0 where
  pub layout : Layout
  pub shapes : List Shape
  pub words : List ℕ
  pub next : List ℕ
  pub ends : List ℕ
  pub stop : ℕ
  pub blocks : List BlockWord
  pub used : List ℕ
  pub marks : List ℕ
  pub cards : List ℕ
  pub pages : List ℕ
  pub head : ℕ
  pub made : ℕ
  pub registered : List ℕ
  pub pairs : List ℕ

-- the words of a space as the atomic steps see them; it has no offer cells
abbrev pub words_of : Contents → Words
words_of s = record {
  stop = s.stop;
  next = λ f. slice_index s.next f;
  word = λ x. slice_index s.words x;
  card = λ c. slice_index s.cards c;
  head = s.head;
  cell = λ _. 0;
  block = λ b. slice_index_or s.blocks b Free;
  used = λ b. slice_index s.used b;
  marks = λ b. slice_index s.marks b;
}

-- a space has at most 256 classes, and an object at most 62 fields
pub record AreShapes (shapes : List Shape) : Type 0 where
  pub classes : length shapes ≤ 256
  pub fields : All (λ (shape : Shape). shape.fields ≤ 62) shapes

-- a card stands for 64 words: a block has four, a page two
abbrev pub cards_in : Layout → ℕ
cards_in layout = 4 * layout.blocks + 2 * layout.pages

-- what is true of every space
pub record IsContents (s : Contents) : Type 0 where
  pub layout : IsLayout s.layout
  pub shapes : AreShapes s.shapes
  pub words : length s.words ≡ words_end s.layout
  pub fragments : length s.next ≡ length s.ends
  pub few : length s.ends ≤ 2048
  pub blocks : length s.blocks ≡ s.layout.blocks
  pub used : length s.used ≡ s.layout.blocks
  pub marks : length s.marks ≡ s.layout.blocks
  pub cards : length s.cards ≡ cards_in s.layout
  pub bits : (c : ℕ) → slice_index s.cards c ≤ 1
  pub pages : length s.pages ≡ s.layout.pages
  pub made : s.made ≤ 1024
  pub registered : length s.registered ≤ 1024

-- a space before its first object: all words are 0, the nursery is one fragment, and all blocks and pages are free
abbrev pub clear_space : Layout → List Shape → Contents
clear_space layout shapes = record {
  layout = layout;
  shapes = shapes;
  words = replicate (words_end layout) 0;
  next = byte_at nursery_base ∷ [];
  ends = byte_at (old_base layout) ∷ [];
  stop = 0;
  blocks = replicate layout.blocks Free;
  used = replicate layout.blocks 0;
  marks = replicate layout.blocks 0;
  cards = replicate (cards_in layout) 0;
  pages = replicate layout.pages 0;
  head = 0;
  made = 0;
  registered = [];
  pairs = [];
}
