-- Runs of pages: free ones, the one that a large object has, and what taking and freeing them makes of a space.
use Rattle.std.specs.Prelude.{◌≡◌, ◌≢◌, ℕ, ◌+◌, ◌<◌, ◌≤◌, Option, MatchOption, length}
use Rattle.sg_words.specs.Address.{byte_at}
use Rattle.sg_space.specs.Space.{Contents}
use Rattle.sg_space.specs.Standing.{word, page_in, page_base}

-- the n pages from page j on exist, and are free
pub record IsFreeRun (s : Contents) (j n : ℕ) : Type 0 where
  pub within : j + n ≤ s.layout.pages
  pub free : (i : ℕ) → j ≤ i → i < j + n → page_in s i ≡ 0

-- no free run of n pages begins below page j, where one begins
pub record IsLowestRun (s : Contents) (j n : ℕ) : Type 0 where
  pub run : IsFreeRun s j n
  pub lowest : (k : ℕ) → IsFreeRun s k n → j ≤ k

-- no n pages one behind another are free
abbrev pub IsNoRun : Contents → ℕ → Type 0
IsNoRun s n = (k : ℕ) → IsFreeRun s k n → ⊥

-- the pages from page j to before page e have the word v, and nothing else differs
pub record SetsPages (old : Contents) (j e v : ℕ) (new : Contents) : Type 0 where
  pub set : (i : ℕ) → j ≤ i → i < e → page_in new i ≡ v
  pub others : (i : ℕ) → (j ≤ i → i < e → ⊥) → page_in new i ≡ page_in old i
  pub still : new ≡ record old { pages = new.pages }
  pub count : length new.pages ≡ length old.pages

-- a is the byte address of the lowest free run of n pages, each of which names the run's first page now; nothing else differs
pub record TakesRun (old : Contents) (n a : ℕ) (new : Contents) : Type 0 where
  pub first : ℕ
  pub lowest : IsLowestRun old first n
  pub address : a ≡ byte_at (page_base old.layout first)
  pub marked : SetsPages old first (first + n) (first + 1) new

-- the lowest free run of n pages is taken, and the answer is its byte address; there is no answer where no such run is, and nothing differs
abbrev pub TakesPages : Contents → ℕ → Option ℕ → Contents → Type 0
TakesPages old n result new = MatchOption result (IsNoRun old n × (new ≡ old)) (λ a. TakesRun old n a new)

-- the pages from page q to before page e, one at least, are exactly those whose words name page q
pub record IsLargeRun (s : Contents) (q e : ℕ) : Type 0 where
  pub some : q < e
  pub within : e ≤ s.layout.pages
  pub named : (j : ℕ) → q ≤ j → j < e → page_in s j ≡ q + 1
  pub only : (j : ℕ) → page_in s j ≡ q + 1 → (q ≤ j) × (j < e)

-- the pages of a large object begin at the byte address a
pub record IsLargeAt (s : Contents) (a : ℕ) : Type 0 where
  pub first : ℕ
  pub end : ℕ
  pub address : a ≡ byte_at (page_base s.layout first)
  pub run : IsLargeRun s first end

-- x is a word of a page whose word names page q
pub record IsWordOf (s : Contents) (q x : ℕ) : Type 0 where
  pub page : ℕ
  pub named : page_in s page ≡ q + 1
  pub from : page_base s.layout page ≤ x
  pub to : x < page_base s.layout page + 128

-- the pages whose words name page q are free, and their words are zero; nothing else differs
pub record FreesRun (old : Contents) (q : ℕ) (new : Contents) : Type 0 where
  pub freed : (j : ℕ) → page_in old j ≡ q + 1 → page_in new j ≡ 0
  pub others : (j : ℕ) → page_in old j ≢ q + 1 → page_in new j ≡ page_in old j
  pub zero : (x : ℕ) → IsWordOf old q x → word new x ≡ 0
  pub kept : (x : ℕ) → (IsWordOf old q x → ⊥) → word new x ≡ word old x
  pub still : new ≡ record old { words = new.words; pages = new.pages }
  pub words : length new.words ≡ length old.words
  pub count : length new.pages ≡ length old.pages

-- so are the pages of the large object that begins at the byte address a
pub record FreesPages (old : Contents) (a : ℕ) (new : Contents) : Type 0 where
  pub frees : (q : ℕ) → a ≡ byte_at (page_base old.layout q) → FreesRun old q new
