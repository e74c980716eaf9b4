-- How the words, and the mutators in mid-statement, stand to the graph, the book and the answers by names.
use Rattle.std.proofs.Common.{◌≡◌, ◌≢◌, ℕ, ◌+◌, ◌<◌, ◌≤◌, Bool, true, false, Some, List, [], ◌∷◌, ◌++◌, ◌⊎◌, map}
use Rattle.std.specs.List.{AllByRecursion}
use Rattle.sg_words.specs.Address.{byte_at}
use Rattle.sg_words.specs.Words.{put, Words}
use Rattle.sg_words.specs.Sections.{nursery_base, globals_base}
use Rattle.sg_words.specs.Blocks.{card_of}
use Rattle.sg_program.specs.declared.program.Statement.{Statement}
use Rattle.sg_program.specs.declared.program.Statement.TheVariants.{New, NewV, Mature, Hide, Collect, Sections}
use Rattle.sg_program.specs.declared.program.Program.{Program}
use Rattle.sg_program.specs.declared.answers.Answer.{Answer}
use Rattle.sg_program.specs.declared.answers.Answer.TheVariants.{At, Nil, Null, Number, Fine, Yes, No, Field, Full}
use Rattle.sg_desc.specs.Shapes.{has_field, is_strong}
use Rattle.sg_program.specs.Scripts.{kind_of, words_for, IsMaking, IsMature, made_in, made_class, made_fields, made_words}
use Rattle.sg_program.specs.Invariants.{FindKinds}
use Rattle.sg_graph.specs.Graph.{Entry, Ref, Graph}
use Rattle.sg_program.specs.Tests.{Test, test_of}
use Rattle.sg_graph.specs.Book.{Book, Section, Young, Old, IsShort, LacksRoom, word_of}
use Rattle.sg_graph.specs.Epoch.{Turn, by_address}
use Rattle.sg_words.specs.Lists.{Pairwise}
use Rattle.sg_graph.specs.Invariants.{IsPlain}
use Rattle.sg_graph.specs.Heap.{Owner, IsHeaded, IsKnown, IsKnownEntry, IsLaid, layout_of}
use Rattle.sg_graph.specs.Blocks.{AreBlocks}
use Rattle.sg_rules.specs.Rules.{Constants, StackWord, Mid, Idle, TestTag, TestLength, Access, MarkCard, AccessGlobal, Look, Claim, StoreLength, StoreTag, HideLength, Ask, Left, Yielded, Actor, IsGlobal}
use Rattle.sg_rules.specs.Rules.{Task, Search, Roam, SeeBlock, TakeBlock, SeeUsed, TakeSlot, TakeOver, StoreOccupancy, ClearSlots, ClearWords, Retired}
use Rattle.sg_rules.specs.Sane.{IsHeading, IsCard}
use Rattle.sg_order.specs.Rest.{kinds_in, Holds}
use Rattle.sg_rules.specs.Resting.{IsRunnable}
use Rattle.sg_order.specs.Rest.{StandsAt}

-- what no mutator's private state enters into: the words hold the graph, the blocks are as their own words say, the fragments are the
-- book's, and the marks the constants'
pub record Ground (p : Program) (lay : Constants) (w : Words) (g : Graph) (b : Book) (owner : ℕ → Owner) : Type 0 where
  pub laid : IsLaid p w.word g b owner
  pub blocks : AreBlocks p lay.marks w.block w.used w.word g.size b.stands b.address b.section b.owed owner
  pub plain : IsPlain p g
  pub number : b.fragments ≡ lay.fragments
  pub limits : (f : ℕ) → f < b.fragments → b.limit f ≡ lay.limit f
  pub words : (f : ℕ) → f < b.fragments → w.next f ≡ byte_at (b.next f)
  pub marks : w.marks ≡ lay.marks

-- the object in this answer stands
abbrev pub IsGiven : (ℕ → Bool) → Answer → Type 0
IsGiven stands (At n) = stands n ≡ true
IsGiven stands Nil = Unit {0}
IsGiven stands Null = Unit {0}
IsGiven stands (Number v) = Unit {0}
IsGiven stands Fine = Unit {0}
IsGiven stands Yes = Unit {0}
IsGiven stands No = Unit {0}
IsGiven stands Field = Unit {0}
IsGiven stands Full = Unit {0}

abbrev pub AreGiven : (ℕ → Bool) → List Answer → Type 0
AreGiven stands [] = Unit {0}
AreGiven stands (answer ∷ said) = IsGiven stands answer × AreGiven stands said

-- mutator k of the graph, and what it has said
pub record IsMutator (g : Graph) (said : ℕ → List Answer) (k : ℕ) (register : ℕ → Entry) (script : List Statement) (answers : List Answer) : Type 0 where
  pub register_is : (g.mutator k).register ≡ register
  pub script_is : (g.mutator k).script ≡ script
  pub asleep : (g.mutator k).ended ≡ true → script ≡ []
  pub says : said k ≡ answers

-- k's buffer and the fragments below f have fewer than n words left
pub record Tight (b : Book) (k n f : ℕ) : Type 0 where
  pub short : IsShort b k n
  pub below : (j : ℕ) → j < f → LacksRoom b n j

-- a statement that asks: a new object, for which neither the buffer nor any fragment has room; one of the major heap, of whose slots
-- more is known elsewhere; or one that asks in any case
abbrev pub AsksForRoom : Program → Constants → Book → ℕ → Statement → Type 0
AsksForRoom p lay b k (New r class) = Tight b k (made_words p (New r class)) lay.fragments
AsksForRoom p lay b k (NewV r class count) = Tight b k (made_words p (NewV r class count)) lay.fragments
AsksForRoom p lay b k (Mature r class) = Unit {0}
AsksForRoom p lay b k (Collect major) = Unit {0}
AsksForRoom p lay b k Sections = Unit {0}
AsksForRoom p lay b k s = ⊥

-- the tested register holds the object with this name
pub record Testing (entry : ℕ → Entry) (s : Statement) (test : Test) : Type 0 where
  pub tests : test_of s ≡ Some test
  pub name : ℕ
  pub holds : entry test.register ≡ Ref name
  pub some : name ≢ 0

-- the tested register holds the object with this name, and it has such a field
pub record Tested (p : Program) (g : Graph) (entry : ℕ → Entry) (s : Statement) (test : Test) : Type 0 where
  pub tests : test_of s ≡ Some test
  pub name : ℕ
  pub holds : entry test.register ≡ Ref name
  pub some : name ≢ 0
  pub finds : has_field test.sort (kind_of p (g.class name)) (g.size name) test.field ≡ true

-- the new object with this name has its place, and mutator k of the graph is ahead: it has its answer
pub record Placed (p : Program) (g : Graph) (b : Book) (said : ℕ → List Answer) (k : ℕ) (entry : ℕ → Entry) (answers : List Answer) (rest : List Statement)
    (s : Statement) (x : ℕ) : Type 0 where
  pub name : ℕ
  pub some : name ≢ 0
  pub stands : b.stands name ≡ true
  pub address : b.address name ≡ x
  pub size : g.size name ≡ made_fields p s
  pub class_is : g.class name ≡ made_class s
  pub heading : IsHeading p s x
  pub ahead : IsMutator g said k (put entry (made_in s) (Ref name)) rest (answers ++ At name ∷ [])

-- a search has its statement still to come, and the sweeper is in none
abbrev pub AtTask : Program → Graph → (ℕ → List Answer) → ℕ → (ℕ → Entry) → List Answer → List Statement → Task → Type 0
AtTask p g said k entry answers rest (Search s) = IsMature s × IsMutator g said k entry (s ∷ rest) answers
AtTask p g said k entry answers rest Roam = IsMutator g said k entry rest answers

-- The graph's mutator, by where the mutator of the program stands in its statement. From the deciding step on it is ahead.
abbrev pub AtMid : Program → Constants → Words → Graph → Book → (ℕ → List Answer) → ℕ → (ℕ → Entry) → List Answer → List Statement → Mid → Type 0
AtMid p lay w g b said k entry answers rest Idle = IsMutator g said k entry rest answers
AtMid p lay w g b said k entry answers rest (TestTag s test) = Testing entry s test × IsMutator g said k entry (s ∷ rest) answers
AtMid p lay w g b said k entry answers rest (TestLength s test class) =
    (t : Testing entry s test) × (class ≡ g.class t.name) × IsMutator g said k entry (s ∷ rest) answers
AtMid p lay w g b said k entry answers rest (Access s) = (test : Test) × Tested p g entry s test × IsMutator g said k entry (s ∷ rest) answers
AtMid p lay w g b said k entry answers rest (MarkCard s card) = IsCard p card × IsMutator g said k entry rest (answers ++ Fine ∷ [])
AtMid p lay w g b said k entry answers rest (AccessGlobal s) = IsGlobal s × IsMutator g said k entry (s ∷ rest) answers
AtMid p lay w g b said k entry answers rest (Look s f) =
    IsMaking s × (f < lay.fragments) × Tight b k (made_words p s) f × IsMutator g said k entry (s ∷ rest) answers
AtMid p lay w g b said k entry answers rest (Claim s f next) =
    IsMaking s × (f < lay.fragments) × Tight b k (made_words p s) f × (next + made_words p s ≤ lay.limit f) × IsMutator g said k entry (s ∷ rest) answers
    × (next ≤ b.next f) × (nursery_base ≤ next)
AtMid p lay w g b said k entry answers rest (StoreLength s x) = Placed p g b said k entry answers rest s x
AtMid p lay w g b said k entry answers rest (StoreTag s x) = Placed p g b said k entry answers rest s x × (w.word (x + 1) ≡ made_fields p s)
AtMid p lay w g b said k entry answers rest (HideLength d s offset) =
    (name : ℕ) × (entry s ≡ Ref name) × (name ≢ 0) × IsMutator g said k entry (Hide d s offset ∷ rest) answers
AtMid p lay w g b said k entry answers rest (Ask s) = AsksForRoom p lay b k s × IsMutator g said k entry (s ∷ rest) answers
AtMid p lay w g b said k entry answers rest (SeeBlock t begins c) = AtTask p g said k entry answers rest t
AtMid p lay w g b said k entry answers rest (TakeBlock s c) = AtTask p g said k entry answers rest (Search s)
AtMid p lay w g b said k entry answers rest (SeeUsed s c) = AtTask p g said k entry answers rest (Search s)
AtMid p lay w g b said k entry answers rest (TakeSlot s c i) = AtTask p g said k entry answers rest (Search s)
AtMid p lay w g b said k entry answers rest (TakeOver t c z) = AtTask p g said k entry answers rest t
AtMid p lay w g b said k entry answers rest (StoreOccupancy t c z) = AtTask p g said k entry answers rest t
AtMid p lay w g b said k entry answers rest (ClearSlots t c z i) = AtTask p g said k entry answers rest t
AtMid p lay w g b said k entry answers rest (ClearWords t c z i f) = AtTask p g said k entry answers rest t
AtMid p lay w g b said k entry answers rest Retired = IsMutator g said k entry rest answers
AtMid p lay w g b said k entry answers rest Yielded = IsMutator g said k entry rest answers
AtMid p lay w g b said k entry answers rest (Left s) = AsksForRoom p lay b k s × IsMutator g said k entry (s ∷ rest) answers

-- the word and the offset are those of the entry, which is known
pub record Keeps (w : ℕ → ℕ) (g : Graph) (b : Book) (word offset : ℕ) (entry : Entry) : Type 0 where
  pub holds : Holds g b word offset entry
  pub known : IsKnownEntry w g b entry

-- the places of a stack keep these entries
abbrev pub Stacked : (ℕ → ℕ) → Graph → Book → List StackWord → List Entry → Type 0
Stacked w g b slots entries = Pairwise (λ (slot : StackWord) (entry : Entry). Keeps w g b slot.word slot.offset entry) slots entries

pub record Stands (p : Program) (lay : Constants) (w : Words) (g : Graph) (b : Book) (said : ℕ → List Answer) (k : ℕ) (a : Actor) : Type 0 where
  pub entry : ℕ → Entry
  pub answers : List Answer
  pub regs : (r : ℕ) → a.reg r ≡ word_of b.address (entry r)
  pub known : (r : ℕ) → IsKnownEntry w.word g b (entry r)
  pub offsets : (r : ℕ) → StandsAt g b (a.offset r) (entry r)
  pub stack : Stacked w.word g b a.stack (g.mutator k).stack
  pub told : a.told ≡ map (by_address b) answers
  pub given : AreGiven b.stands answers
  pub from_is : a.from ≡ b.from k
  pub to_is : a.to ≡ b.to k
  pub at : AtMid p lay w g b said k entry answers a.script a.mid
  pub fits : FindKinds (kinds_in (g.mutator k)) (g.mutator k).script
  pub runnable : AllByRecursion (IsRunnable p) (g.mutator k).script

-- the word is no standing object's
abbrev pub IsNoObjects : Graph → Book → ℕ → Type 0
IsNoObjects g b x = (n : ℕ) → b.stands n ≡ true → b.address n ≤ x → x < b.address n + words_for (g.size n) → ⊥

-- what a step of mutator k leaves of what the others rest on
pub record Later (p : Program) (w : Words) (g : Graph) (b : Book) (said : ℕ → List Answer) (v : Words) (h : Graph) (c : Book)
    (said' : ℕ → List Answer) (k : ℕ) : Type 0 where
  pub stands : (n : ℕ) → b.stands n ≡ true → c.stands n ≡ true
  pub known : (n : ℕ) → IsKnown w.word g b n → IsKnown v.word h c n
  pub address : (n : ℕ) → b.stands n ≡ true → c.address n ≡ b.address n
  pub size : (n : ℕ) → b.stands n ≡ true → h.size n ≡ g.size n
  pub class : (n : ℕ) → b.stands n ≡ true → h.class n ≡ g.class n
  pub next : (f : ℕ) → b.next f ≤ c.next f
  pub limit : (f : ℕ) → c.limit f ≡ b.limit f
  pub length_word : (n : ℕ) → b.stands n ≡ true → n ≢ 0 → w.word (b.address n + 1) ≡ g.size n → v.word (b.address n + 1) ≡ g.size n
  pub owed : c.owed ≡ b.owed
  -- a word before the globals that is zero and no object's stays zero, and a dirty card stays dirty
  pub zeros : (x : ℕ) → x < globals_base (layout_of p) → IsNoObjects g b x → w.word x ≡ 0 → v.word x ≡ 0
  pub dirty : (x : ℕ) → w.card x ≡ 1 → v.card x ≡ 1
  pub mutator : (j : ℕ) → j ≢ k → h.mutator j ≡ g.mutator j
  pub says : (j : ℕ) → j ≢ k → said' j ≡ said j
  pub from : (j : ℕ) → j ≢ k → c.from j ≡ b.from j
  pub to : (j : ℕ) → j ≢ k → c.to j ≡ b.to j

-- the graph's part of a step: a whole statement at a deciding step, else nothing
abbrev pub Moves : Program → Graph → Book → (ℕ → List Answer) → ℕ → Bool → Graph → Book → (ℕ → List Answer) → Type 0
Moves p g b said k true h c said' = (answer : Answer) × Turn p g b (record { by = k; answer = answer }) h c × (said' ≡ put said k (said k ++ answer ∷ []))
Moves p g b said k false h c said' = (h ≡ g) × (c ≡ b) × (said' ≡ said)

-- the mutator is about to write the header of the new object at x
abbrev pub WritesHeader : ℕ → Mid → Type 0
WritesHeader x (StoreLength s y) = x ≡ y
WritesHeader x (StoreTag s y) = x ≡ y
WritesHeader x mid = ⊥

-- What a step of a mutator leaves to do: what stands new is about to get its header, and what was about to get it has it or is
-- still about to.
pub record Heads (w : Words) (g : Graph) (b : Book) (mid : Mid) (v : Words) (h : Graph) (c : Book) (mid' : Mid) : Type 0 where
  pub begun : (n : ℕ) → c.stands n ≡ true → (b.stands n ≡ true) ⊎ WritesHeader (c.address n) mid'
  pub done : (n : ℕ) → b.stands n ≡ true → WritesHeader (b.address n) mid → IsHeaded v.word h c n ⊎ WritesHeader (c.address n) mid'

-- a strong field of an old object refers to a young one, and has this card
pub record NeedsCard (p : Program) (class size : ℕ → ℕ) (field : ℕ → ℕ → Entry) (stands : ℕ → Bool) (address : ℕ → ℕ) (section : ℕ → Section)
    (card : ℕ) : Type 0 where
  pub name : ℕ
  pub index : ℕ
  pub target : ℕ
  pub some : 1 ≤ name
  pub standing : stands name ≡ true
  pub old : section name ≡ Old
  pub inside : index < size name
  pub strong : is_strong (kind_of p (class name)) index (size name) ≡ true
  pub refers : field name index ≡ Ref target
  pub one : 1 ≤ target
  pub young : section target ≡ Young
  pub at : card_of (layout_of p) (address name + 2 + index) ≡ card

abbrev pub IsNeeded : Program → Graph → Book → ℕ → Type 0
IsNeeded p g b card = NeedsCard p g.class g.size g.field b.stands b.address b.section card

-- the mutator is about to mark this card
abbrev pub Marks : ℕ → Mid → Type 0
Marks card (MarkCard s next) = card ≡ next
Marks card mid = ⊥

-- the mutator is about to write neither a header nor a card
abbrev pub IsQuiet : Mid → Type 0
IsQuiet (StoreLength s x) = ⊥
IsQuiet (StoreTag s x) = ⊥
IsQuiet (MarkCard s card) = ⊥
IsQuiet mid = Unit {0}

-- What a step of a mutator leaves to do of the cards: what is needed new is about to be marked, and what was about to be marked is
-- dirty.
pub record Cards (p : Program) (g : Graph) (b : Book) (mid : Mid) (v : Words) (h : Graph) (c : Book) (mid' : Mid) : Type 0 where
  pub begun : (card : ℕ) → IsNeeded p h c card → IsNeeded p g b card ⊎ Marks card mid'
  pub done : (card : ℕ) → Marks card mid → v.card card ≡ 1

-- what a step of mutator k, which stood at `mid`, gives
pub record Kept (p : Program) (lay : Constants) (w : Words) (g : Graph) (b : Book) (said : ℕ → List Answer) (k : ℕ) (mid : Mid) (decides : Bool) (v : Words)
    (a : Actor) : Type 0 where
  pub h : Graph
  pub c : Book
  pub said' : ℕ → List Answer
  pub owner : ℕ → Owner
  pub moves : Moves p g b said k decides h c said'
  pub later : Later p w g b said v h c said' k
  pub heads : Heads w g b mid v h c a.mid
  pub cards : Cards p g b mid v h c a.mid
  pub ground : Ground p lay v h c owner
  pub stands : Stands p lay v h c said' k a
