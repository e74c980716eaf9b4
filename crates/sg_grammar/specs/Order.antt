-- Where a reader of sentences stands, and whereto each sentence takes it.
use Rattle.std.specs.Prelude.{ℕ, zero, suc, Bool, true, false, Option, Some, None, List, [], ◌∷◌, slice_get}
use Rattle.std.specs.List.{slice_set}
use Rattle.sg_grammar.specs.declared.order.Place.{Place}
use Rattle.sg_grammar.specs.declared.order.Place.TheVariants.{Start, Settings, Classes, Within, Outside}
use Rattle.sg_text.specs.declared.line.Setting.{Setting}
use Rattle.sg_text.specs.declared.line.Setting.TheVariants.{Nursery, Blocks, Pages, Buffer, Workers, Cement}
use Rattle.sg_text.specs.Lines.{Sentence, Heads, Sets, Declares, Begins, Repeats, Ends, Makes, Says}

-- no setting is given yet
abbrev pub none_given : List Bool
none_given = false ∷ false ∷ false ∷ false ∷ false ∷ false ∷ []

-- the place of a setting among the six
abbrev pub index_of : Setting → ℕ
index_of Nursery = 0
index_of Blocks = 1
index_of Pages = 2
index_of Buffer = 3
index_of Workers = 4
index_of Cement = 5

-- the setting with this index is given, which was given before or not; or there is no such setting
abbrev pub marked : List Bool → ℕ → Option Bool → Option Place
marked given at (Some false) = Some (Settings (slice_set given at true))
marked given at (Some true) = None
marked given at None = None

abbrev pub from_start : Sentence → Option Place
from_start Heads = Some (Settings none_given)
from_start line = None

abbrev pub from_settings : List Bool → Sentence → Option Place
from_settings given (Sets setting n) = marked given (index_of setting) (slice_get given (index_of setting))
from_settings given (Declares name shape) = Some Classes
from_settings given Begins = Some (Within 0)
from_settings given line = None

abbrev pub from_classes : Sentence → Option Place
from_classes (Declares name shape) = Some Classes
from_classes Begins = Some (Within 0)
from_classes line = None

abbrev pub closed : ℕ → Place
closed zero = Outside
closed (suc depth) = Within depth

abbrev pub from_within : ℕ → Sentence → Option Place
from_within depth (Repeats times) = Some (Within (suc depth))
from_within depth Ends = Some (closed depth)
from_within depth (Makes maker r name) = Some (Within depth)
from_within depth (Says statement) = Some (Within depth)
from_within depth line = None

abbrev pub from_outside : Sentence → Option Place
from_outside Begins = Some (Within 0)
from_outside line = None

-- the place behind a sentence, if it may stand there
abbrev pub next : Place → Sentence → Option Place
next Start line = from_start line
next (Settings given) line = from_settings given line
next Classes line = from_classes line
next (Within depth) line = from_within depth line
next Outside line = from_outside line

-- how many repeats are open
abbrev pub depth_of : Place → ℕ
depth_of (Within depth) = depth
depth_of place = 0

-- a text may end here
abbrev pub may_end_at : Place → Bool
may_end_at Start = false
may_end_at (Settings given) = true
may_end_at Classes = true
may_end_at (Within depth) = false
may_end_at Outside = true
