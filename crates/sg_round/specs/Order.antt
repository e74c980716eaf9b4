-- The order in which one worker finds the objects that it moves or fails, and the places that they take.
use Rattle.std.specs.Prelude.{◌≡◌, ℕ, ◌+◌, ◌^◌, ◌<◌, ◌⊎◌, leb, ltb, ◌==◌, Bool, false, if◌then◌else◌, List, [], ◌∷◌, ◌++◌}
use Rattle.std.specs.Int.{bit_at}
use Rattle.std.specs.Int.Bits.{bit_or}
use Rattle.sg_words.specs.Address.{byte_at, word_at}
use Rattle.sg_words.specs.Tags.{plain_word}
use Rattle.sg_words.specs.Words.{put}
use Rattle.sg_words.specs.Objects.{size_of}
use Rattle.sg_words.specs.Found.{IsSearched}
use Rattle.sg_words.specs.Blocks.{slot_size, slots}
use Rattle.sg_words.specs.declared.steps.BlockWord.{BlockWord}
use Rattle.sg_words.specs.declared.steps.BlockWord.TheVariants.{Free, Swept}
use Rattle.sg_round.specs.Area.{Area, class_of, place}
use Rattle.sg_round.specs.Items.{slots_by}
use Rattle.sg_round.specs.Round.{IsPassed}

-- x is a young object that is plain
abbrev pub is_plain : Area → (ℕ → ℕ) → ℕ → Bool
is_plain area w x = if leb area.low x then (if ltb x area.high then w x == plain_word (class_of (w x)) else false) else false

-- the plain young object to which a word refers, if there is one, and those to which slots refer, in order
abbrev pub target : Area → (ℕ → ℕ) → ℕ → List ℕ
target area w v = if v == byte_at (word_at v) then (if is_plain area w (word_at v) then word_at v ∷ [] else []) else []

abbrev pub targets : Area → (ℕ → ℕ) → List ℕ → List ℕ
targets area w [] = []
targets area w (s ∷ items) = target area w (w s) ++ targets area w items

-- the strong slots of objects, in order: those of the first by field number, then those of the next
abbrev pub strong_of : Area → (ℕ → ℕ) → List ℕ → List ℕ
strong_of area w [] = []
strong_of area w (a ∷ objects) = slots_by area (class_of (w a)) a (w (a + 1)) ++ strong_of area w objects

-- the plain young objects to which the slots refer, and then the strong slots of these objects, in order
abbrev pub leads : Area → (ℕ → ℕ) → List ℕ → List ℕ → List ℕ
leads area w items objects = targets area w (items ++ strong_of area w objects)

-- slot i of block b is the lowest clear one of the lowest block that can take an object of the slot size z
pub record IsLowest (area : Area) (block : ℕ → BlockWord) (used : ℕ → ℕ) (z b i : ℕ) : Type 0 where
  pub there : b < area.blocks
  pub fits : i < slots z
  pub state : (block b ≡ Free) ⊎ (block b ≡ Swept z)
  pub clear : bit_at (used b) i ≡ 0
  pub slots : (j : ℕ) → j < i → bit_at (used b) j ≡ 1
  pub blocks : (c : ℕ) → c < b → IsPassed block used z c

-- With these block words and occupancies, each of the found objects in turn moves to the lowest clear slot of the lowest block that
-- can take it, and fails where there is none; these move and those fail, and the block words and occupancies are so at the end.
abbrev pub Fits : Area → (ℕ → ℕ) → (ℕ → ℕ) → (ℕ → BlockWord) → (ℕ → ℕ) → List ℕ → List ℕ → List ℕ → (ℕ → BlockWord) → (ℕ → ℕ) → Type 0
Fits area w m block used moves fails [] block' used' = (moves ≡ []) × (fails ≡ []) × (block' ≡ block) × (used' ≡ used)
Fits area w m block used moves fails (x ∷ found) block' used' =
    ((b : ℕ) × (i : ℕ) × (rest : List ℕ) × IsLowest area block used (slot_size (size_of w x)) b i × (m x ≡ place area b (slot_size (size_of w x)) i) ×
    (moves ≡ x ∷ rest) × Fits area w m (put block b (Swept (slot_size (size_of w x)))) (put used b (bit_or (used b) (2 ^ i))) rest fails found block' used')
    ⊎ ((rest : List ℕ) × ((b : ℕ) → b < area.blocks → IsPassed block used (slot_size (size_of w x)) b) × (fails ≡ x ∷ rest) ×
    Fits area w m block used moves rest found block' used')

-- From the words w, a round over these slots finds objects one after another: each is the first new one to which the slots, and then
-- the strong slots of the objects found before, refer. Each one moves where it fits as it is found, and fails where it doesn't.
pub record IsInOrder (area : Area) (w : ℕ → ℕ) (items : List ℕ) (m : ℕ → ℕ) (block : ℕ → BlockWord) (used : ℕ → ℕ) (moves fails : List ℕ)
    (block' : ℕ → BlockWord) (used' : ℕ → ℕ) : Type 0 where
  pub found : List ℕ
  pub searched : IsSearched (λ _. Unit {0}) (leads area w items) found
  pub parts : Fits area w m block used moves fails found block' used'
