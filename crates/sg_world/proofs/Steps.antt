-- The steps of a stop before its answers.
use Rattle.std.proofs.Common.{◌≡◌, ◌≢◌, ℕ, Bool, true, false, Option, Some, None, List, [], ◌∷◌, inl, inr, sym, refl, ap, ◌∙◌, subst, ◌↔◌, ◌⊎◌}
use Rattle.std.specs.Prelude.{is_some, IsTrue, ◌||◌}
use Rattle.std.specs.List.{AllByRecursion}
use Rattle.std.proofs.lemmas.Bool.{cases_Bool}
use Rattle.sg_words.specs.Blocks.{IsSizeClass}
use Rattle.sg_words.specs.declared.steps.BlockWord.{BlockWord}
use Rattle.sg_words.proofs.Blocks.{slot_size-class}
use Rattle.sg_words.proofs.Everywhere.{contained}
use Rattle.sg_program.specs.declared.program.Statement.{Statement}
use Rattle.sg_program.specs.declared.program.Statement.TheVariants.{Mature, Collect}
use Rattle.sg_program.specs.declared.answers.Request.{Request}
use Rattle.sg_program.specs.declared.answers.Request.TheVariants.{Need, Slot, Minor, Major, Sections as AllSections}
use Rattle.sg_program.specs.Scripts.{IsRequestOf, made_words}
use Rattle.sg_program.specs.declared.program.Program.{Program}
use Rattle.sg_graph.specs.declared.reports.MinorReport.{MinorReport}
use Rattle.sg_graph.specs.declared.reports.MajorReport.{MajorReport}
use Rattle.sg_graph.specs.Graph.{Graph}
use Rattle.sg_graph.specs.Book.{Book, swept_out}
use Rattle.sg_graph.specs.Laws.{sized_by, sizes_of, AsksNoSlot, IsAsking, AreAsking, LacksWords, LacksSlots, PlacesByWords, PlacesByRoom}
use Rattle.sg_graph.specs.Laws.LacksSlots.{NoSlot, SlotBefore}
use Rattle.sg_graph.specs.Stop.{Asked, InFragments, LacksOne, some_wants, wants_blocks, WantsMinor, WantsMajor, WantsBlocks, MakesRoom}
use Rattle.sg_space.specs.Space.{Contents}
use Rattle.sg_space.specs.Standing.{word, block_in, used_in, marks_in}
use Rattle.sg_heap.specs.Holding.{HoldsHeap, OwesNothing}
use Rattle.sg_minor.specs.Law.{HasPaused}
use Rattle.sg_major.specs.Law.{HasCollected}
use Rattle.sg_placing.specs.declared.placing.Room.{Room}
use Rattle.sg_placing.specs.declared.placing.Room.TheVariants.{Fragments, SlotsToo}
use Rattle.sg_world.specs.declared.wants.Wants.{Wants}
use Rattle.sg_world.specs.Stopping.{AreWanted}
use Rattle.sg_world.specs.Steps.{HasMadeMinor, HasMadeMajor, HasMadeRoom, HasHalted}

-- what the code tells of fragments and blocks
abbrev pub LacksRoom : Program → Book → Contents → Wants → Type 0
LacksRoom p b s wants = LacksWords b.fragments b.limit b.next wants.needs.items ⊎ LacksSlots p.config.blocks (block_in s) (used_in s) wants.sizes.items

-- the slots for which requests ask have sizes of classes
class_of : (p : Program) (s : Statement) (request : Request) (more : List ℕ) → IsRequestOf p s request → AllByRecursion IsSizeClass more →
    AllByRecursion IsSizeClass (sized_by request more)
class_of p (Mature r class) (Slot size) more asks all = (subst IsSizeClass (sym asks) (slot_size-class (made_words p (Mature r class))), all)
class_of p (Collect false) (Slot size) more asks all = absurd asks
class_of p (Collect true) (Slot size) more asks all = absurd asks
class_of p s (Slot size) more asks all = absurd asks
class_of p s (Need words) more asks all = all
class_of p s Minor more asks all = all
class_of p s Major more asks all = all
class_of p s AllSections more asks all = all

classes_of : (p : Program) (g : Graph) (requests : List Asked) → AllByRecursion (IsAsking p g) requests → AllByRecursion IsSizeClass (sizes_of requests)
classes_of p g [] asking = tt
classes_of p g (asked ∷ more) (first, rest) = class_of p first.statement asked.request (sizes_of more) first.asks (classes_of p g more rest)

pub wanted_classes : (p : Program) (g : Graph) (requests : List Asked) (wants : Wants) → AreAsking p g requests → AreWanted requests wants →
    AllByRecursion IsSizeClass wants.sizes.items
wanted_classes p g requests wants asking are = subst (AllByRecursion IsSizeClass) (sym are.sizes) (classes_of p g requests asking.each)

-- where no block is owed, it is what the definition says of the requests
pub told_by_room : PlacesByRoom → (p : Program) (g : Graph) (b : Book) (s : Contents) (requests : List Asked) (wants : Wants) → AreAsking p g requests →
    AreWanted requests wants → HoldsHeap p s g b → OwesNothing p b → LacksOne p InFragments g b requests ↔ LacksRoom p b s wants
told_by_room law p g b s requests wants asking are holds owes =
    subst (λ (sizes : List ℕ). LacksOne p InFragments g b requests ↔
    (LacksWords b.fragments b.limit b.next wants.needs.items ⊎ LacksSlots p.config.blocks (block_in s) (used_in s) sizes)) (sym are.sizes)
    (subst (λ (needs : List ℕ). LacksOne p InFragments g b requests ↔
    (LacksWords b.fragments b.limit b.next needs ⊎ LacksSlots p.config.blocks (block_in s) (used_in s) (sizes_of requests))) (sym are.needs)
    (law p g b (marks_in s) (used_in s) (word s) (block_in s) holds.1.0 requests asking holds.1.1.laid.objects holds.1.1.laid.fragments holds.1.2.blocks
    holds.1.2.inhabited (λ c z l e. let q : false ≡ true = sym (owes c l) ∙ (holds.1.2.blocks.each c l).owing z e in cc q)))

-- where no request wants blocks, none is for a slot
none_wants : (requests : List Asked) → some_wants wants_blocks requests ≡ false →
    AllByRecursion (λ (asked : Asked). wants_blocks asked.request ≡ false) requests
none_wants [] none = tt
none_wants (asked ∷ more) none = let both = or_none (wants_blocks asked.request) (some_wants wants_blocks more) none in (both.0, none_wants more both.1)
  where
    or_none : (x y : Bool) → (x || y) ≡ false → (x ≡ false) × (y ≡ false)
    or_none true y e = absurd (cc e)
    or_none false y e = (refl, e)

no_slot : (requests : List Asked) → some_wants wants_blocks requests ≡ false → AsksNoSlot requests
no_slot requests none asked size there e =
    let q : false ≡ true = sym (contained (λ (asked : Asked). wants_blocks asked.request ≡ false) requests asked (none_wants requests none) there)
    ∙ ap wants_blocks e in cc q

size_none : (request : Request) (more : List ℕ) → wants_blocks request ≡ false → sized_by request more ≡ more
size_none (Need words) more none = refl
size_none (Slot size) more none = absurd (cc none)
size_none Minor more none = refl
size_none Major more none = refl
size_none AllSections more none = absurd (cc none)

sizes_none : (requests : List Asked) → AllByRecursion (λ (asked : Asked). wants_blocks asked.request ≡ false) requests → sizes_of requests ≡ []
sizes_none [] none = refl
sizes_none (asked ∷ more) (first, rest) = size_none asked.request (sizes_of more) first ∙ sizes_none more rest

no_slots : (blocks : ℕ) (state : ℕ → BlockWord) (used : ℕ → ℕ) (sizes : List ℕ) → sizes ≡ [] → LacksSlots blocks state used sizes → ⊥
no_slots _ _ _ _ none (NoSlot state used z more all) = absurd (cc none)
no_slots _ _ _ _ none (SlotBefore state used z more c i there clear below rest) = absurd (cc none)

-- behind a major pause blocks are owed: there the words alone tell, since who asks for a slot wants blocks in any case
module _ (law : PlacesByWords) (p : Program) (g : Graph) (b : Book) (s : Contents) (requests : List Asked) (wants : Wants) (asking : AreAsking p g requests)
    (are : AreWanted requests wants) where
  by_words : some_wants wants_blocks requests ≡ false → LacksRoom p b s wants → LacksOne p InFragments g b requests
  by_words none (inl l) = (law p g b requests asking (no_slot requests none)).1
      (subst (λ (needs : List ℕ). LacksWords b.fragments b.limit b.next needs) are.needs l)
  by_words none (inr l) =
      absurd (no_slots p.config.blocks (block_in s) (used_in s) wants.sizes.items (are.sizes ∙ sizes_none requests (none_wants requests none)) l)

  pub told_by_words : (IsTrue wants.blocks ⊎ LacksRoom p b s wants) ↔ (IsTrue wants.blocks ⊎ LacksOne p InFragments g b requests)
  told_by_words = (
    (λ w. elim w [
      | inl given ↦ inl given
      | inr l ↦ elim (cases_Bool (some_wants wants_blocks requests)) [ inl some ↦ inl (are.blocks ∙ some) | inr none ↦ inr (by_words none l) ]
    ]),
    (λ w. elim w [
      | inl given ↦ inl given
      | inr l ↦ elim (cases_Bool (some_wants wants_blocks requests)) [
        | inl some ↦ inl (are.blocks ∙ some)
        | inr none ↦ inr (inl (subst (λ (needs : List ℕ). LacksWords b.fragments b.limit b.next needs) (sym are.needs)
            ((law p g b requests asking (no_slot requests none)).0 l)))
      ]
    ]),
  )

-- what the code tells of the requests, where it is what the definition says
module _ (p : Program) (g : Graph) (b : Book) (requests : List Asked) (wants : Wants) (are : AreWanted requests wants) (Lacks : Type 0)
    (told : LacksOne p InFragments g b requests ↔ Lacks) where
  lacks_one : Lacks → LacksOne p InFragments g b requests
  lacks_one l = told.1 l

  lacks_words : LacksOne p InFragments g b requests → Lacks
  lacks_words l = told.0 l

  -- a minor pause is wanted
  minor_wanted : (IsTrue wants.minor ⊎ Lacks) → WantsMinor p g b requests
  minor_wanted (inl given) = inl (sym are.minor ∙ given)
  minor_wanted (inr l) = inr (lacks_one l)

  wanted_minor : WantsMinor p g b requests → (IsTrue wants.minor ⊎ Lacks)
  wanted_minor (inl given) = inl (are.minor ∙ given)
  wanted_minor (inr l) = inr (lacks_words l)

  -- a major one behind it
  abbrev IsGiven : MinorReport → Bool → Type 0
  IsGiven minor given = given ≡ true ↔ (IsTrue wants.major ⊎ (minor.fails ≢ []))

  major_wanted : (minor : MinorReport) (given : Bool) → IsGiven minor given → (IsTrue given ⊎ Lacks) → WantsMajor p g b requests minor
  major_wanted minor given is (inl yes_given) = elim (is.0 yes_given) [
    | inl one ↦ inl (sym are.major ∙ one)
    | inr other ↦ inr (inl other)
  ]
  major_wanted minor given is (inr l) = inr (inr (lacks_one l))

  wanted_major : (minor : MinorReport) (given : Bool) → IsGiven minor given → WantsMajor p g b requests minor → (IsTrue given ⊎ Lacks)
  wanted_major minor given is (inl asked) = inl (is.1 (inl (are.major ∙ asked)))
  wanted_major minor given is (inr (inl some)) = inl (is.1 (inr some))
  wanted_major minor given is (inr (inr l)) = inr (lacks_words l)

  -- and that no block is owed behind that
  blocks_wanted : (IsTrue wants.blocks ⊎ Lacks) → WantsBlocks p g b requests
  blocks_wanted (inl given) = inl (sym are.blocks ∙ given)
  blocks_wanted (inr l) = inr (lacks_one l)

  wanted_blocks : WantsBlocks p g b requests → (IsTrue wants.blocks ⊎ Lacks)
  wanted_blocks (inl given) = inl (are.blocks ∙ given)
  wanted_blocks (inr l) = inr (lacks_words l)

  module _ (s : Contents) (heap : HoldsHeap p s g b) (words : List ℕ) where
    pub no_minor : OwesNothing p b → ¬ (IsTrue wants.minor ⊎ Lacks) → HasMadeMinor p g b words requests None s
    no_minor owes none = record {
      book = b;
      makes = ((λ w. none (wanted_minor w)), refl, refl);
      copies = λ minor e. absurd (cc e);
      heap = heap;
      owes = owes;
      emptied = λ minor e. absurd (cc e);
    }

    pub some_minor : OwesNothing p b → (IsTrue wants.minor ⊎ Lacks) → (t : Contents) (report : MinorReport) → HasPaused p g b words t report →
        HasMadeMinor p g b words requests (Some report) t
    some_minor owes given t report paused = record {
      book = paused.book;
      makes = (minor_wanted given, paused.pause);
      copies = λ minor e. paused.copies;
      heap = paused.heap;
      owes = λ j l. ap (λ (owed : ℕ → Bool). owed j) paused.pause.tidies.owed ∙ owes j l;
      emptied = λ minor e. paused.pause.tidies.emptied;
    }

    pub no_major_behind_none : OwesNothing p b → HasMadeMajor p g b words requests None None s
    no_major_behind_none owes = record { book = b; makes = (refl, refl); heap = heap; owes = λ e. owes }

    pub no_major : OwesNothing p b → (minor : MinorReport) (given : Bool) → IsGiven minor given → ¬ (IsTrue given ⊎ Lacks) →
        HasMadeMajor p g b words requests (Some minor) None s
    no_major owes minor given is none =
        record { book = b; makes = ((λ w. none (wanted_major minor given is w)), refl, refl); heap = heap; owes = λ e. owes }

    pub some_major : (minor : MinorReport) (given : Bool) → IsGiven minor given → (IsTrue given ⊎ Lacks) → (t : Contents) (report : MajorReport) →
        HasCollected p g b words t report → HasMadeMajor p g b words requests (Some minor) (Some report) t
    some_major minor given is wanted t report collected = record {
      book = collected.book;
      makes = (major_wanted minor given is wanted, collected.pause);
      heap = collected.heap;
      owes = λ e. absurd (cc e);
    }

    -- without a major pause all is in fragments
    pub room_without : OwesNothing p b → HasMadeRoom p g b requests false Fragments s
    room_without owes = record { book = b; makes = still; heap = heap; fits = tt; suits = refl; shows = λ e. owes; rests = λ e. owes }
      where
        still : (report : Option MajorReport) → is_some report ≡ false → MakesRoom p g b requests report b
        still None e = refl
        still (Some report) e = absurd (cc e)

    pub room_in_fragments : ¬ (IsTrue wants.blocks ⊎ Lacks) → HasMadeRoom p g b requests true Fragments s
    room_in_fragments none = record {
      book = b;
      makes = still;
      heap = heap;
      fits = tt;
      suits = λ l. none (inr (lacks_words l));
      shows = λ e. absurd (none (inl (are.blocks ∙ e)));
      rests = λ e. elim e [ inl not ↦ absurd (cc not) | inr slots ↦ absurd (cc slots) ];
    }
      where
        still : (report : Option MajorReport) → is_some report ≡ true → MakesRoom p g b requests report b
        still None e = absurd (cc e)
        still (Some report) e = inr ((λ w. none (wanted_blocks w)), refl)

    pub room_in_slots : (IsTrue wants.blocks ⊎ Lacks) → (t : Contents) → HoldsHeap p t g (swept_out b) → HasMadeRoom p g b requests true SlotsToo t
    room_in_slots given t swept =
        record { book = swept_out b; makes = out; heap = swept; fits = λ j l. refl; suits = tt; shows = λ e j l. refl; rests = λ e j l. refl }
      where
        out : (report : Option MajorReport) → is_some report ≡ true → MakesRoom p g b requests report (swept_out b)
        out None e = absurd (cc e)
        out (Some report) e = inl (blocks_wanted given, refl)

-- a test that tells that nothing is wanted
pub never : (given : Bool) (A : Type 0) → given ≡ false → (given ≡ true ↔ A) → ¬ A
never given A no_one told a = let q : false ≡ true = sym no_one ∙ told.1 a in cc q

-- all steps together
pub halted_by : (p : Program) (g : Graph) (b : Book) (words : List ℕ) (requests : List Asked) (minor : Option MinorReport)
    (major : Option MajorReport) (room : Room) (s t u v : Contents) → HoldsHeap p s g (swept_out b) →
    (made : HasMadeMinor p g (swept_out b) words requests minor t) →
    (more : HasMadeMajor p g made.book words requests minor major u) → HasMadeRoom p g more.book requests (is_some major) room v →
    HasHalted p g b words requests minor major room v
halted_by p g b words requests minor major room s t u v heap made more last = record {
  begun = s;
  begun_heap = heap;
  minor_book = made.book;
  minor_space = t;
  minor_heap = made.heap;
  makes_minor = made.makes;
  copies = made.copies;
  major_book = more.book;
  makes_major = more.makes;
  book = last.book;
  makes_room = last.makes major refl;
  heap = last.heap;
  fits = last.fits;
  suits = last.suits;
  shows = last.shows;
  rests = last.rests;
}
