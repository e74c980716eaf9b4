-- The two ends of the top call, before and after it: where the bytes come from and where they go.
use Rattle.std.specs.Prelude.{◌≡◌, ℕ, ◌⊎◌, List, Option}
use Rattle.sg_io.specs.Faults.{Rose}

-- the bytes left in the source, the bytes taken by the sink, where they are told, and the faults of each so far
pub record Ends : Type 0 where
  pub left : Option (List ℕ)
  pub taken : Option (List ℕ)
  pub source_faults : ℕ
  pub sink_faults : ℕ

-- the ends that a source and a sink make, by the four meanings
abbrev pub ends_of : {S O : Type 0} → (S → Option (List ℕ)) → (S → ℕ) → (O → Option (List ℕ)) → (O → ℕ) → S → O → Ends
ends_of left source_faults taken sink_faults source sink =
    record { left = left source; taken = taken sink; source_faults = source_faults source; sink_faults = sink_faults sink }

-- a read failed: the source's faults rose
abbrev pub ReadFails : Ends → Ends → Type 0
ReadFails old new = Rose old.source_faults new.source_faults

-- a write failed: the sink's faults rose
abbrev pub WriteFails : Ends → Ends → Type 0
WriteFails old new = Rose old.sink_faults new.sink_faults

-- the status is the wanted one, unless a write failed or memory ran out
abbrev pub Gives : ℕ → Ends → Ends → ℕ → Type 0
Gives wanted old new status = (status ≡ wanted) ⊎ ((status ≡ 4) × WriteFails old new) ⊎ (status ≡ 5)
