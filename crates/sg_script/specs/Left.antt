-- What is left to do at a place in a script.
use Rattle.std.specs.Prelude.{◌≡◌, ℕ, suc, ◌+◌, ◌*◌, ◌≤◌, ◌⊎◌, Some, List, [], ◌∷◌, ◌++◌, drop, map, slice_get}
use Rattle.std.specs.List.{AllByRecursion}
use Rattle.sg_program.specs.declared.program.Statement.{Statement}
use Rattle.sg_program.specs.declared.program.Item.{Item, out-Item, fold-Item}
use Rattle.sg_program.specs.declared.program.Item.TheOpen.{Item-F, One, Repeat}
use Rattle.sg_program.specs.Scripts.{repeated, written_out}
use Rattle.sg_program.specs.Invariants.{item_depth}
use Rattle.sg_script.specs.declared.cursor.Frame.{Frame}

-- of a body the items from the next one on, and then the whole body as many times more
abbrev pub frame_left : Frame → List Statement
frame_left f = written_out (drop f.at f.body.now) ++ repeated f.times (written_out f.body.now)

-- inner bodies stand behind outer ones, and are done before them
abbrev pub left : List Frame → List Statement
left [] = []
left (f ∷ fs) = left fs ++ frame_left f

-- the body may stand in d others: there are five at most, and in the body repeats stand at most 4 - d deep
abbrev pub FitsAtDepth : ℕ → List Item → Type 0
FitsAtDepth d body = (d ≤ 4) × AllByRecursion (λ item. item_depth item + d ≤ 4) body

-- the frames from number d on stand in one another
abbrev pub AreNested : ℕ → List Frame → Type 0
AreNested d [] = Unit {0}
AreNested d (f ∷ fs) = FitsAtDepth d f.body.now × AreNested (suc d) fs

-- the next item of the innermost body is the statement s
abbrev pub IsAt : List Frame → Statement → Type 0
IsAt frames s = (outer : List Frame) × (f : Frame) × (item : Item) × (frames ≡ outer ++ f ∷ []) × (slice_get f.body.now f.at ≡ Some item) × (out-Item item ≡ One s)

-- nothing is left, or the next item is a statement
abbrev pub Stands : List Frame → Type 0
Stands frames = (frames ≡ []) ⊎ ((s : Statement) × IsAt frames s)

-- How many steps a walk through items takes at most, from statement to statement.
abbrev pub total : List ℕ → ℕ
total [] = 0
total (n ∷ ns) = n + total ns

abbrev pub cost_step : Item-F ℕ → ℕ
cost_step (One s) = 1
cost_step (Repeat times body) = 1 + times * (1 + total body)

abbrev pub item_cost : Item → ℕ
item_cost = fold-Item ℕ cost_step

abbrev pub items_cost : List Item → ℕ
items_cost items = total (map item_cost items)

abbrev pub frame_cost : Frame → ℕ
frame_cost f = 1 + items_cost (drop f.at f.body.now) + f.times * (1 + items_cost f.body.now)

abbrev pub cost : List Frame → ℕ
cost [] = 0
cost (f ∷ fs) = cost fs + frame_cost f
