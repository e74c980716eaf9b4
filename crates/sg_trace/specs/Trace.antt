-- The text of a run: a function of the run alone. Numbers are decimal, each line ends with a line feed.
use Rattle.std.specs.Prelude.{◌≡◌, ℕ, suc, Bool, true, false, Option, Some, None, List, [], ◌∷◌, ◌++◌, codes}
use Rattle.std.specs.List.{flat_map}
use Rattle.std.specs.Fmt.{decimal}
use Rattle.sg_program.specs.declared.answers.Answer.{Answer}
use Rattle.sg_program.specs.declared.answers.Answer.TheVariants.{At, Nil, Null, Number, Fine, Yes, No, Field, Full}
use Rattle.sg_program.specs.declared.answers.Leave.{Leave}
use Rattle.sg_program.specs.declared.answers.Leave.TheVariants.{Ended, Yield, Wants}
use Rattle.sg_program.specs.declared.answers.Request.{Request}
use Rattle.sg_program.specs.declared.answers.Request.TheVariants.{Need, Slot, Minor, Major, Sections as AllSections}
use Rattle.sg_graph.specs.declared.reports.Part.{Part}
use Rattle.sg_graph.specs.declared.reports.EpochReport.{EpochReport}
use Rattle.sg_graph.specs.declared.reports.MinorReport.{MinorReport}
use Rattle.sg_graph.specs.declared.reports.MajorReport.{MajorReport}
use Rattle.sg_graph.specs.declared.reports.BlockLine.{BlockLine}
use Rattle.sg_graph.specs.declared.reports.Sections.{Sections}
use Rattle.sg_graph.specs.declared.reports.Service.{Service}
use Rattle.sg_graph.specs.declared.reports.StopReport.{StopReport}
use Rattle.sg_words.specs.declared.pieces.Move.{Move}
use Rattle.sg_words.specs.declared.pieces.Piece.{Piece}
use Rattle.sg_words.specs.declared.pieces.Piece.TheVariants.{Frag, Waste}
use Rattle.sg_graph.specs.Run.{Phase, Epoch, Stop}

abbrev pub space : List ℕ
space = 32 ∷ []

abbrev pub line_feed : List ℕ
line_feed = 10 ∷ []

abbrev pub answer_text : Answer → List ℕ
answer_text (At a) = decimal a
answer_text Nil = codes "nil"
answer_text Null = codes "null"
answer_text (Number n) = decimal n
answer_text Fine = codes "ok"
answer_text Yes = codes "yes"
answer_text No = codes "no"
answer_text Field = codes "field"
answer_text Full = codes "full"

-- `I K ANSWER`: what mutator i's statement k answered
abbrev pub answer_line : ℕ → ℕ → Answer → List ℕ
answer_line i k answer = decimal i ++ space ++ decimal k ++ space ++ answer_text answer ++ line_feed

-- the answers of mutator i from statement k on
abbrev pub answer_lines : ℕ → ℕ → List Answer → List ℕ
answer_lines i k [] = []
answer_lines i k (answer ∷ answers) = answer_line i k answer ++ answer_lines i (suc k) answers

-- what a mutator asks for: `need WORDS`, `slot WORDS`, `collect minor`, `collect major` or `sections`
abbrev pub request_text : Request → List ℕ
request_text (Need words) = codes "need " ++ decimal words
request_text (Slot size) = codes "slot " ++ decimal size
request_text Minor = codes "collect minor"
request_text Major = codes "collect major"
request_text AllSections = codes "sections"

-- how mutator i left: `I done`, `I yield`, or `I` and what it asks for
abbrev pub leave_line : ℕ → Leave → List ℕ
leave_line i Ended = decimal i ++ codes " done" ++ line_feed
leave_line i Yield = decimal i ++ codes " yield" ++ line_feed
leave_line i (Wants request) = decimal i ++ space ++ request_text request ++ line_feed

abbrev pub part_text : Part → List ℕ
part_text part = answer_lines part.mutator part.first part.answers ++ leave_line part.mutator part.leave

-- `end`, behind the last epoch
abbrev pub end_line : Bool → List ℕ
end_line true = codes "end" ++ line_feed
end_line false = []

-- `epoch E`, and then what each mutator did
abbrev pub epoch_text : EpochReport → List ℕ
epoch_text report = codes "epoch " ++ decimal report.number ++ line_feed ++ flat_map part_text report.parts ++ end_line report.last

-- `pin A`: an object that a word points into
abbrev pub pin_line : ℕ → List ℕ
pin_line a = codes "pin " ++ decimal a ++ line_feed

-- `move A B`: an object that moved from A to B
abbrev pub move_line : Move → List ℕ
move_line move = codes "move " ++ decimal move.from ++ space ++ decimal move.to ++ line_feed

-- `fail A`: an object without room in the major heap
abbrev pub fail_line : ℕ → List ℕ
fail_line a = codes "fail " ++ decimal a ++ line_feed

-- `frag A WORDS` or `waste A WORDS`: a gap of the nursery
abbrev pub piece_line : Piece → List ℕ
piece_line (Frag at words) = codes "frag " ++ decimal at ++ space ++ decimal words ++ line_feed
piece_line (Waste at words) = codes "waste " ++ decimal at ++ space ++ decimal words ++ line_feed

-- `minor`, and then what the pause did
abbrev pub minor_text : MinorReport → List ℕ
minor_text report =
    codes "minor" ++ line_feed ++ flat_map pin_line report.pins ++ flat_map move_line report.moves ++ flat_map fail_line report.fails
    ++ codes "spares " ++ decimal report.spares ++ line_feed ++ flat_map piece_line report.pieces

-- the minor pause, if there is one
abbrev pub pause_text : Option MinorReport → List ℕ
pause_text (Some report) = minor_text report
pause_text None = []

-- `major KEPT FREED`, and then the gaps of the nursery behind it, if there is a major pause
abbrev pub major_text : Option MajorReport → List ℕ
major_text (Some report) = codes "major " ++ decimal report.kept ++ space ++ decimal report.freed ++ line_feed ++ flat_map piece_line report.pieces
major_text None = []

-- `block B SIZE USED`: a block, the words of its slots, and in how many of them an object stands
abbrev pub block_line : BlockLine → List ℕ
block_line line = codes "block " ++ decimal line.block ++ space ++ decimal line.size ++ space ++ decimal line.used ++ line_feed

-- `nursery N WORDS`: the objects of the nursery and their words; and then the blocks; where the sections are told
abbrev pub sections_text : Option Sections → List ℕ
sections_text (Some told) = codes "nursery " ++ decimal told.young ++ space ++ decimal told.young_words ++ line_feed ++ flat_map block_line told.blocks
sections_text None = []

-- `serve I K ANSWER`: what mutator i's statement k, which asked for something, is answered
abbrev pub service_line : Service → List ℕ
service_line service = codes "serve " ++ decimal service.mutator ++ space ++ decimal service.statement ++ space ++ answer_text service.answer ++ line_feed

-- the sections, where the statement asked for them, and the answer
abbrev pub service_text : Service → List ℕ
service_text service = sections_text service.sections ++ service_line service

-- `stop E`, the pauses if there are any, and the answers to the requests
abbrev pub stop_text : StopReport → List ℕ
stop_text report = codes "stop " ++ decimal report.number ++ line_feed ++ pause_text report.minor ++ major_text report.major ++ flat_map service_text report.served

abbrev pub phase_text : Phase → List ℕ
phase_text (Epoch report order swept) = epoch_text report
phase_text (Stop report) = stop_text report

abbrev pub text : List Phase → List ℕ
text phases = flat_map phase_text phases

-- the bytes begin with these
pub record StartsWith (bytes first : List ℕ) : Type 0 where
  pub more : List ℕ
  pub is : bytes ≡ first ++ more
