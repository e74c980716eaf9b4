-- What the steps of a list do to blocks: which are lawful and harmless, who sweeps what, and what comes once.
use Rattle.std.specs.Prelude.{◌≡◌, ℕ, ◌+◌, ◌<◌, ◌≤◌, ◌⊎◌, Bool, true, false, List, [], ◌∷◌}
use Rattle.std.specs.Int.{bit_at}
use Rattle.std.specs.List.{Contains}
use Rattle.sg_words.specs.declared.steps.Step.{Step}
use Rattle.sg_words.specs.declared.steps.Step.TheVariants.{OnBlock}
use Rattle.sg_words.specs.declared.steps.BlockStep.{BlockStep}
use Rattle.sg_words.specs.declared.steps.BlockStep.TheVariants.{LoadBlock, WonBlock, LostBlock, StoreBlock, LoadUsed, OrUsed, StoreUsed, LoadMarks, OrMarks, StoreMarks, Zero}
use Rattle.sg_words.specs.declared.steps.BlockWord.TheVariants.{Free, Swept, Need, Sweeping}
use Rattle.sg_words.specs.Words.{put, Words, after_step}
use Rattle.sg_words.specs.Events.{Event}
use Rattle.sg_words.specs.Reach.{AreDistinct}
use Rattle.sg_words.specs.Blocks.{slots}
use Rattle.sg_words.specs.Sweeps.{swept_word}
use Rattle.sg_program.specs.declared.program.Program.{Program}
use Rattle.sg_program.specs.declared.answers.Answer.{Answer}
use Rattle.sg_graph.specs.Graph.{Graph}
use Rattle.sg_graph.specs.Book.{Book, IsWordOf, slot_at}
use Rattle.sg_graph.specs.Epoch.{Said, Turn, IsNewOld}
use Rattle.sg_rules.specs.Rules.{Constants}
use Rattle.sg_rules.specs.Careful.{IsUnmarkedWord}

-- who won the last exchange of a block's word: while the block is being swept, its sweeper
abbrev pub winner_after : (ℕ → ℕ) → ℕ → Step → ℕ → ℕ
winner_after by k (OnBlock (WonBlock c seen new)) = put by c k
winner_after by k step = by

abbrev pub winners : (ℕ → ℕ) → List Event → ℕ → ℕ
winners by [] = by
winners by (e ∷ es) = winners (winner_after by e.by e.tick.step) es

-- nobody has won an exchange yet
abbrev pub no_winner : ℕ → ℕ
no_winner _ = 0

-- actor k is who sweeps block c, of slots of z words
abbrev pub IsSweeperOf : Words → (ℕ → ℕ) → ℕ → ℕ → ℕ → Type 0
IsSweeperOf w by k c z = (w.block c ≡ Sweeping z) × (by c ≡ k)

-- What a step of actor k may do to blocks. An exchange goes from free to swept, or from owed to being swept with the same slots. A block's sweeper
-- alone, while the block is being swept, makes the occupancy the marks, zeroes words of slots that aren't marked, and makes the block swept, or free
-- where nothing is marked. A slot's bit is set in a swept block alone. Nobody changes marks.
abbrev pub IsLawfulOn : Program → Constants → Words → (ℕ → ℕ) → ℕ → BlockStep → Type 0
IsLawfulOn p lay w by k (WonBlock c seen new) =
    ((z : ℕ) × (seen ≡ Free) × (new ≡ Swept z)) ⊎ ((z : ℕ) × (seen ≡ Need z) × (new ≡ Sweeping z))
IsLawfulOn p lay w by k (StoreUsed c new) = (z : ℕ) × IsSweeperOf w by k c z × (new ≡ lay.marks c)
IsLawfulOn p lay w by k (Zero x) = (c z : ℕ) × (c < p.config.blocks) × IsSweeperOf w by k c z × IsUnmarkedWord p lay c z x
IsLawfulOn p lay w by k (StoreBlock c new) = (z : ℕ) × IsSweeperOf w by k c z × (new ≡ swept_word (Need z) (lay.marks c))
IsLawfulOn p lay w by k (OrUsed c i found) = (z : ℕ) × (w.block c ≡ Swept z) × (i < slots z)
IsLawfulOn p lay w by k (LoadBlock c saw) = Unit {0}
IsLawfulOn p lay w by k (LostBlock c seen new found) = Unit {0}
IsLawfulOn p lay w by k (LoadUsed c saw) = Unit {0}
IsLawfulOn p lay w by k (LoadMarks c saw) = Unit {0}
IsLawfulOn p lay w by k (OrMarks c i found) = ⊥
IsLawfulOn p lay w by k (StoreMarks c new) = ⊥

abbrev pub IsLawful : Program → Constants → Words → (ℕ → ℕ) → ℕ → Step → Type 0
IsLawful p lay w by k (OnBlock step) = IsLawfulOn p lay w by k step
IsLawful p lay w by k step = Unit {0}

-- a word that becomes zero is no standing object's, and of no marked slot of a block that is being swept
abbrev pub IsHarmlessOn : Program → Constants → Words → Graph → Book → BlockStep → Type 0
IsHarmlessOn p lay w g b (Zero x) =
    ((n : ℕ) → IsWordOf g b n x → ⊥)
    × ((c z i : ℕ) → c < p.config.blocks → w.block c ≡ Sweeping z → i < slots z → bit_at (lay.marks c) i ≡ 1 →
    slot_at p c z i ≤ x → x < slot_at p c z i + z → ⊥)
IsHarmlessOn p lay w g b step = Unit {0}

abbrev pub IsHarmless : Program → Constants → Words → Graph → Book → Step → Type 0
IsHarmless p lay w g b (OnBlock step) = IsHarmlessOn p lay w g b step
IsHarmless p lay w g b step = Unit {0}

-- the new object of the major heap with this name stands, by the book c, in the slot that the step claims
pub record IsClaimedBy (p : Program) (w : Words) (step : Step) (c : Book) (name : ℕ) : Type 0 where
  pub block : ℕ
  pub slot : ℕ
  pub size : ℕ
  pub found : ℕ
  pub claims : step ≡ OnBlock (OrUsed block slot found)
  pub word : w.block block ≡ Swept size
  pub at : c.address name ≡ slot_at p block size slot

-- A deciding step of actor k is the whole statement that comes next in the order, with `rest` behind it, and an object that it makes in the major heap
-- stands in the slot that the step claims. Any other step changes neither graph nor book.
abbrev pub IsMove : Program → Words → Graph → Book → ℕ → Step → Bool → List Said → Graph → Book → List Said → Type 0
IsMove p w g b k step true order h c rest =
    (answer : Answer) × (order ≡ record { by = k; answer = answer } ∷ rest) × Turn p g b (record { by = k; answer = answer }) h c
    × ((name : ℕ) → IsNewOld g.count c name → IsClaimedBy p w step c name)
IsMove p w g b k step false order h c rest = (rest ≡ order) × (h ≡ g) × (c ≡ b)

-- the events in order, with the graph and the book before and after each: each step is lawful by who won the blocks, and harmless
abbrev pub Runs : Program → Constants → Words → (ℕ → ℕ) → Graph → Book → List Event → List Said → Graph → Book → Type 0
Runs p lay w by g b [] order h c = (order ≡ []) × (h ≡ g) × (c ≡ b)
Runs p lay w by g b (e ∷ es) order h c =
    (h1 : Graph) × (c1 : Book) × (rest : List Said) × IsMove p w g b e.by e.tick.step e.tick.decides order h1 c1 rest
    × IsLawful p lay w by e.by e.tick.step × IsHarmless p lay w g b e.tick.step
    × Runs p lay (after_step w e.tick.step) (winner_after by e.by e.tick.step) h1 c1 es rest h c

-- the block whose sweep a step took over, before these
abbrev pub taken_over : Step → List ℕ → List ℕ
taken_over (OnBlock (WonBlock c (Need z) new)) more = c ∷ more
taken_over step more = more

-- the blocks whose sweep was taken over in a list, in order
abbrev pub swept_of : List Event → List ℕ
swept_of [] = []
swept_of (e ∷ es) = taken_over e.tick.step (swept_of es)

-- no event of the list is such a step; at most one is
abbrev pub Never : (Step → Type 0) → List Event → Type 0
Never P [] = Unit {0}
Never P (e ∷ es) = (P e.tick.step → ⊥) × Never P es

abbrev pub Once : (Step → Type 0) → List Event → Type 0
Once P [] = Unit {0}
Once P (e ∷ es) = (P e.tick.step → Never P es) × Once P es

-- it holds before each event of the list, and after the last
abbrev pub Always : (Words → Type 0) → Words → List Event → Type 0
Always P w [] = P w
Always P w (e ∷ es) = P w × Always P (after_step w e.tick.step) es

-- the claim of slot i of block c, won
abbrev pub IsClaim : ℕ → ℕ → Step → Type 0
IsClaim c i (OnBlock (OrUsed d j found)) = (d ≡ c) × (j ≡ i) × (bit_at found j ≡ 0)
IsClaim c i step = ⊥

-- What a list of steps from the words w on sweeps and claims, where the book owed these blocks: a block whose sweep was taken over had been owed, and
-- it was taken over once; no slot is claimed twice; and the bit of a marked slot stays set.
pub record IsSweep (p : Program) (lay : Constants) (w : Words) (owed : ℕ → Bool) (es : List Event) : Type 0 where
  pub were_owed : (c : ℕ) → Contains (swept_of es) c → (c < p.config.blocks) × (owed c ≡ true)
  pub once : AreDistinct (swept_of es)
  pub claimed : (c i : ℕ) → Once (IsClaim c i) es
  pub marked : (c i : ℕ) → bit_at (lay.marks c) i ≡ 1 → bit_at (w.used c) i ≡ 1 → Always (λ v. bit_at (v.used c) i ≡ 1) w es
