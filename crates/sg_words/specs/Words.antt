-- The shared words as functions, by sections, and the atomic steps on them.
use Rattle.std.specs.Prelude.{◌≡◌, ◌≢◌, ℕ, ◌==◌, ◌^◌, if◌then◌else◌, List, [], ◌∷◌}
use Rattle.std.specs.Int.Bits.{bit_or}
use Rattle.sg_words.specs.declared.steps.Place.{Place}
use Rattle.sg_words.specs.declared.steps.Place.TheVariants.{Stop, Next, Word, Card, Head, Cell}
use Rattle.sg_words.specs.declared.steps.BlockWord.{BlockWord}
use Rattle.sg_words.specs.declared.steps.BlockStep.{BlockStep}
use Rattle.sg_words.specs.declared.steps.BlockStep.TheVariants.{LoadBlock, WonBlock, LostBlock, StoreBlock, LoadUsed, OrUsed, StoreUsed, LoadMarks, OrMarks, StoreMarks, Zero}
use Rattle.sg_words.specs.declared.steps.Step.{Step}
use Rattle.sg_words.specs.declared.steps.Step.TheVariants.{Load, Store, Won, Lost, OnBlock}
use Rattle.sg_words.specs.declared.steps.Tick.{Tick}

-- f, but v at k
unfoldable pub put : {A : Type 0} → (ℕ → A) → ℕ → A → ℕ → A
put f k v j = if j == k then v else f j

-- The shared words, by sections: the stop word, each fragment's next word, the words of the heap by number, each card's word,
-- the ready row's head, each worker's offer cell, and each block's word, occupancy and marks.
pub record Words : Type 0 where
  pub stop : ℕ
  pub next : ℕ → ℕ
  pub word : ℕ → ℕ
  pub card : ℕ → ℕ
  pub head : ℕ
  pub cell : ℕ → ℕ
  pub block : ℕ → BlockWord
  pub used : ℕ → ℕ
  pub marks : ℕ → ℕ

abbrev pub read : Words → Place → ℕ
read w Stop = w.stop
read w (Next f) = w.next f
read w (Word x) = w.word x
read w (Card c) = w.card c
read w Head = w.head
read w (Cell k) = w.cell k

abbrev pub write : Words → Place → ℕ → Words
write w Stop v = record w { stop = v }
write w (Next f) v = record w { next = put w.next f v }
write w (Word x) v = record w { word = put w.word x v }
write w (Card c) v = record w { card = put w.card c v }
write w Head v = record w { head = v }
write w (Cell k) v = record w { cell = put w.cell k v }

-- a step on a block's words saw what stood there
abbrev pub SawBlock : Words → BlockStep → Type 0
SawBlock w (LoadBlock block saw) = w.block block ≡ saw
SawBlock w (WonBlock block seen new) = w.block block ≡ seen
SawBlock w (LostBlock block seen new found) = (w.block block ≡ found) × (found ≢ seen)
SawBlock w (StoreBlock block new) = Unit {0}
SawBlock w (LoadUsed block saw) = w.used block ≡ saw
SawBlock w (OrUsed block slot found) = w.used block ≡ found
SawBlock w (StoreUsed block new) = Unit {0}
SawBlock w (LoadMarks block saw) = w.marks block ≡ saw
SawBlock w (OrMarks block slot found) = w.marks block ≡ found
SawBlock w (StoreMarks block new) = Unit {0}
SawBlock w (Zero number) = Unit {0}

-- the words after a step on a block's words
abbrev pub after_block : Words → BlockStep → Words
after_block w (LoadBlock block saw) = w
after_block w (WonBlock block seen new) = record w { block = put w.block block new }
after_block w (LostBlock block seen new found) = w
after_block w (StoreBlock block new) = record w { block = put w.block block new }
after_block w (LoadUsed block saw) = w
after_block w (OrUsed block slot found) = record w { used = put w.used block (bit_or (w.used block) (2 ^ slot)) }
after_block w (StoreUsed block new) = record w { used = put w.used block new }
after_block w (LoadMarks block saw) = w
after_block w (OrMarks block slot found) = record w { marks = put w.marks block (bit_or (w.marks block) (2 ^ slot)) }
after_block w (StoreMarks block new) = record w { marks = put w.marks block new }
after_block w (Zero number) = record w { word = put w.word number 0 }

-- the step saw what stood there
abbrev pub Saw : Words → Step → Type 0
Saw w (Load place saw) = read w place ≡ saw
Saw w (Store place new) = Unit {0}
Saw w (Won place seen new) = read w place ≡ seen
Saw w (Lost place seen new found) = (read w place ≡ found) × (found ≢ seen)
Saw w (OnBlock step) = SawBlock w step

-- the words after a step
abbrev pub after_step : Words → Step → Words
after_step w (Load place saw) = w
after_step w (Store place new) = write w place new
after_step w (Won place seen new) = write w place new
after_step w (Lost place seen new found) = w
after_step w (OnBlock step) = after_block w step

-- the words after these steps, one after another
abbrev pub replayed : Words → List Step → Words
replayed w [] = w
replayed w (step ∷ steps) = replayed (after_step w step) steps

-- each of these steps saw what stood there when it came
abbrev pub IsLegal : Words → List Step → Type 0
IsLegal w [] = Unit {0}
IsLegal w (step ∷ steps) = Saw w step × IsLegal (after_step w step) steps

-- the steps of ticks
abbrev pub steps_of : List Tick → List Step
steps_of [] = []
steps_of (t ∷ ts) = t.step ∷ steps_of ts

-- the same for ticks
abbrev pub after : Words → List Tick → Words
after w ts = replayed w (steps_of ts)

abbrev pub Legal : Words → List Tick → Type 0
Legal w ts = IsLegal w (steps_of ts)
