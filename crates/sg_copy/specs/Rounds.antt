-- A round of one worker over a plain space.
use Rattle.std.specs.Prelude.{◌≡◌, ℕ, ◌-◌, Bool, List, [], ◌++◌, length, map, replicate}
use Rattle.sg_words.specs.Address.{IsAddress, word_at}
use Rattle.sg_words.specs.Tags.{forward_word}
use Rattle.sg_words.specs.Words.{put}
use Rattle.sg_words.specs.declared.pieces.Move.{Move}
use Rattle.sg_space.specs.Space.{Contents}
use Rattle.sg_space.specs.Standing.{word}
use Rattle.sg_round.specs.Items.{SlotOf, WholeOf}
use Rattle.sg_round.specs.Worker.{Over, Worker, starting}
use Rattle.sg_round.specs.Round.{Start}
use Rattle.sg_copy.specs.declared.gray.Gray.{Gray}
use Rattle.sg_copy.specs.Grays.{item_of}
use Rattle.sg_copy.specs.Copying.{area_of, items_of, CanCopy, HasCopiedTo}
use Rattle.sg_copy.specs.State.{Copying, fresh_copying}
use Rattle.sg_copy.specs.Plain.{words_with}

-- a worker that has never had anything
abbrev pub resting : Worker
resting = record (starting []) { mid = Over }

-- the workers of a round of one, which is a
abbrev pub alone : Worker → ℕ → Worker
alone a = put (λ _. resting) 0 a

-- the offer cells as it begins
abbrev pub no_cells : List ℕ
no_cells = replicate 64 0

-- what a round of one worker begins with, where these are its items: the slots, and the whole objects
abbrev pub start_of : Contents → List ℕ → List ℕ → List Gray → (ℕ → Bool) → Start
start_of s slots wholes items zone = record {
  area = area_of s;
  team = 1;
  most = length items;
  items = items_of s slots wholes;
  wholes = wholes;
  zone = zone;
  words = words_with s no_cells;
  workers = alone (starting (map item_of items));
}

-- these are the items: the slots first, and then the objects
abbrev pub AreItems : List ℕ → List ℕ → List Gray → Type 0
AreItems slots wholes items = map item_of items ≡ map SlotOf slots ++ map WholeOf wholes

-- the space can be copied by this copier, which has these slots and then these objects for its items
pub record IsReady (s : Contents) (slots wholes : List ℕ) (c : Copying) : Type 0 where
  pub can : CanCopy s slots wholes
  pub items : List Gray
  pub items_are : AreItems slots wholes items
  pub fresh : c ≡ fresh_copying s 0 1 items

-- the round is over, and the copier tells where the objects were that it moved and failed
pub record HasRun (old : Contents) (slots wholes : List ℕ) (new : Contents) (c : Copying) : Type 0 where
  pub moves : List Move
  pub fails : List ℕ
  pub copied : HasCopiedTo old slots wholes new moves fails
  pub told_moves : map (λ (m : Move). word_at m.from) c.moves ≡ copied.went
  pub told_fails : map word_at c.fails ≡ copied.stayed

-- the object's first word says where it went
abbrev pub IsForwarded : Contents → Move → Type 0
IsForwarded s m = (to : ℕ) × IsAddress to × (word s (word_at m.from) ≡ forward_word to)

-- it went where its first word says
abbrev pub found_move : Contents → Move → Move
found_move s m = record { from = m.from; to = word s (word_at m.from) - 1 }
