-- The image of a heap under a map of its objects, applied at once.
use Rattle.std.specs.Prelude.{◌≡◌, ◌≢◌, ℕ, ◌+◌, ◌<◌, ◌⊎◌, Bool, true, false, if◌then◌else◌, List}
use Rattle.sg_words.specs.Address.{byte_at}
use Rattle.sg_words.specs.Tags.{plain_word, forward_word}
use Rattle.sg_words.specs.Lists.{In, has}
use Rattle.sg_words.specs.Objects.{size_of, sent}
use Rattle.sg_words.specs.Reach.{AreDistinct}
use Rattle.sg_round.specs.Area.{Area, is_strong, Traces}

-- From the words w, a round over these slots has led to `word`. `zone` says which words were in no object and no occupied slot. Each
-- object x is at m x now: `moves` were copied, and `fails` stayed for want of room. `is_spare` says which words are in a slot that was
-- claimed and not forwarded to.
pub record IsImage (area : Area) (w : ℕ → ℕ) (slots : List ℕ) (zone : ℕ → Bool) (moves fails : List ℕ)
    (m : ℕ → ℕ) (word : ℕ → ℕ) (is_spare : ℕ → Bool) : Type 0 where
  -- the copies lie in words that were unclaimed, apart from each other and from the spares
  pub inside : (a i : ℕ) → In a moves → i < size_of w a → (zone (m a + i) ≡ true) × (is_spare (m a + i) ≡ false)
  pub apart : (a b i j : ℕ) → In a moves → In b moves → i < size_of w a → j < size_of w b → m a + i ≡ m b + j → a ≡ b
  pub once : AreDistinct moves × AreDistinct fails
  pub others : (a : ℕ) → has a moves ≡ false → m a ≡ a
  -- each traced object that was plain is in the moves or in the fails, in one of them, and nothing else is
  pub all : (a c : ℕ) → Traces area w slots a → w a ≡ plain_word c → In a moves ⊎ In a fails
  pub moved : (a : ℕ) → In a moves → Traces area w slots a × ((c : ℕ) × (w a ≡ plain_word c))
  pub failed : (a : ℕ) → In a fails → Traces area w slots a × ((c : ℕ) × (w a ≡ plain_word c)) × (has a moves ≡ false)
  -- what is left in the place of a moved object, and of one that failed
  pub forwarded : (a : ℕ) → In a moves → word a ≡ forward_word (byte_at (m a))
  pub pinned : (a : ℕ) → In a fails → word a ≡ w a + 2
  -- a copy has the tag, the length and the plain fields of its original, and its references are sent; the same of what failed
  pub first : (a : ℕ) → In a moves → word (m a) ≡ w a
  pub length : (a : ℕ) → In a moves → word (m a + 1) ≡ w (a + 1)
  pub fields : (a i : ℕ) → In a moves ⊎ In a fails → i < w (a + 1) →
      word (m a + 2 + i) ≡ (if is_strong area w a i then sent m (w (a + 2 + i)) else w (a + 2 + i))
  -- each slot of the round is sent, and no other word changes but those of copies and spares
  pub held : (s : ℕ) → In s slots → word s ≡ sent m (w s)
  pub same : (x : ℕ) → has x slots ≡ false → is_spare x ≡ false → ((a i : ℕ) → In a moves → i < size_of w a → x ≢ m a + i) →
      has x moves ≡ false → has x fails ≡ false →
      ((a i : ℕ) → In a fails → i < w (a + 1) → is_strong area w a i ≡ true → x ≢ a + 2 + i) → word x ≡ w x
