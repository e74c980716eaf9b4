-- A mutator is never stuck: whatever a call for a next step of it sees, some rule applies.
use Rattle.std.proofs.Common.{◌≡◌, ◌≢◌, ℕ, ◌+◌, ◌<◌, Bool, true, false, Some, List, [], ◌∷◌, length, ap, ap₂, sym, ◌∙◌, subst, inl, inr, refl, arith}
use Rattle.std.proofs.lemmas.Bool.{cases_eq, cases_lt, cases_Bool}
use Rattle.sg_words.specs.Address.{byte_at}
use Rattle.sg_words.specs.Tags.{plain_word}
use Rattle.sg_words.specs.declared.steps.Place.{Place}
use Rattle.sg_words.specs.declared.steps.Place.TheVariants.{Stop, Next, Word}
use Rattle.sg_words.specs.declared.steps.Step.{Step}
use Rattle.sg_words.specs.declared.steps.Step.TheVariants.{Load, Store, Won, Lost, OnBlock}
use Rattle.sg_words.specs.declared.steps.Call.TheVariants.{Loads, Stores, Swaps}
use Rattle.sg_words.specs.Calls.{call_of}
use Rattle.sg_words.specs.Words.{Words, read, Saw}
use Rattle.sg_desc.specs.Shapes.{has_field}
use Rattle.sg_program.specs.declared.program.Statement.{Statement}
use Rattle.sg_program.specs.declared.program.Statement.TheVariants.{New, NewV, Mature, Put, Get, PutD, GetD, Num, Move, Hide, Unhide, Drop, Push, Pop, GPut, GGet, WSet, WGet, Final, NextFin, Same, Collect, Sections}
use Rattle.sg_program.specs.declared.answers.Request.TheVariants.{Minor, Major, Sections as AllSections}
use Rattle.sg_program.specs.declared.program.Program.{Program}
use Rattle.sg_program.specs.declared.answers.Answer.{Answer}
use Rattle.sg_program.specs.Scripts.{kind_of, words_for, IsMaking, made_words}
use Rattle.sg_program.specs.Tests.{Test, test_of}
use Rattle.sg_graph.specs.Graph.{Graph}
use Rattle.sg_graph.specs.Book.{Book}
use Rattle.sg_graph.specs.Heap.{Owner}
use Rattle.sg_rules.specs.Rules.{Constants, StackWord, TestTag, TestLength, Access, AccessGlobal, Look, Claim, HideLength, Actor, before, within, object_in, taken, global_word, IsLength, Search, onward, Comes}
use Rattle.sg_rules.specs.Rules.BlockComes.{mature_begins}
use Rattle.sg_rules.specs.Rules.Comes.{test_null, test_begins, loads_tag, loads_length, test_fails, put_stores, put_stores_old, marks_card, putd_stores, get_loads, getd_loads, global_begins, gput_stores, gget_loads, num_sets, drop_clears, move_sets, push_sets, pop_sets, hide_null, hide_begins, hide_fits, hide_misses, unhide_sets, same_tells, new_bumps, new_looks, look_finds, look_goes_on, stop_asks, asks, yields, claim_wins, claim_moves, claim_goes_on, stores_length, stores_tag}
use Rattle.sg_rules.specs.Acting.{Acts}
use Rattle.sg_order.proofs.Relation.{Ground, Stands}
use Rattle.sg_order.proofs.Loads.{headed, known_at, object_at, needs_now}
use Rattle.sg_order.proofs.Accesses.{field_of}
use Rattle.sg_order.proofs.Globals.{within_globals}
use Rattle.sg_order.proofs.Sanity.{is_reference, stacked, runs}

-- what a call for a load, for a store and for an exchange can see
pub loads : (w : Words) (place : Place) (other : Step) → call_of other ≡ Loads place → Saw w other → other ≡ Load place (read w place)
loads w place (Load q saw) e seen = let at : q ≡ place = cc in ap₂ Load at (sym seen ∙ ap (read w) at)
loads w place (Store q new) e seen = cc
loads w place (Won q from new) e seen = cc
loads w place (Lost q from new found) e seen = cc
loads w place (OnBlock step) e seen = cc

stores : (place : Place) (new : ℕ) (other : Step) → call_of other ≡ Stores place new → other ≡ Store place new
stores place new (Load q saw) e = cc
stores place new (Store q to) e = cc
stores place new (Won q from to) e = cc
stores place new (Lost q from to found) e = cc
stores place new (OnBlock step) e = cc

-- an exchange is won, or lost to another word
data Swapped (w : Words) (place : Place) (from to : ℕ) (other : Step) : Type 0 where
  wins : other ≡ Won place from to → Swapped w place from to other
  loses : other ≡ Lost place from to (read w place) → read w place ≢ from → Swapped w place from to other

swaps : (w : Words) (place : Place) (from to : ℕ) (other : Step) → call_of other ≡ Swaps place from to → Saw w other → Swapped w place from to other
swaps w place from to (Load q saw) e seen = cc
swaps w place from to (Store q new) e seen = cc
swaps w place from to (Won q old new) e seen = wins (cc)
swaps w place from to (Lost q old new found) e seen =
    let at : q ≡ place = cc in
    let same : old ≡ from = cc in
    let found_is : found ≡ read w place = sym seen.0 ∙ ap (read w) at in
    let lost : Lost q old new found ≡ Lost place from to found = cc in
    loses (lost ∙ ap (Lost place from to) found_is) (λ z. seen.1 (found_is ∙ z ∙ sym same))
swaps w place from to (OnBlock step) e seen = cc

-- the mutator makes this step, and is some mutator then
abbrev pub GoesOn : Program → Constants → Actor → Step → Type 0
GoesOn p lay a other = (b : Actor) × Acts p lay a other b

module _ (p : Program) (lay : Constants) (w : Words) (g : Graph) (b : Book) (said : ℕ → List Answer) (k : ℕ) (owner : ℕ → Owner)
    (t : Ground p lay w g b owner) where
  by_rule : (a : Actor) (step : Step) (d : Bool) (a' : Actor) → Comes p lay a step d a' → (other : Step) → other ≡ step → GoesOn p lay a other
  by_rule a step d a' rule other e = subst (λ o. GoesOn p lay a o) (sym e) (a', (d, inl rule))

  module _ (a : Actor) (rest : List Statement) where
    -- a statement begins where no stop is asked for
    begins_test : (s : Statement) (test : Test) → test_of s ≡ Some test → GoesOn p lay (before a s rest) (Load Stop 0)
    begins_test s test e = elim (cases_eq (a.reg test.register) 0) [
      | inl z ↦ by_rule _ _ _ _ (test_null a s rest test e z) _ refl
      | inr z ↦ by_rule _ _ _ _ (test_begins a s rest test e z) _ refl
    ]

    begins_making : (s : Statement) → IsMaking s → GoesOn p lay (before a s rest) (Load Stop 0)
    begins_making s making = elim (cases_lt a.to (a.from + made_words p s)) [
      | inl l ↦ by_rule _ _ _ _ (new_looks a s rest making l) _ refl
      | inr l ↦ by_rule _ _ _ _ (new_bumps a s rest making l) _ refl
    ]

    begins_hiding : (d s offset : ℕ) → GoesOn p lay (before a (Hide d s offset) rest) (Load Stop 0)
    begins_hiding d s offset = elim (cases_eq (a.reg s) 0) [
      | inl z ↦ by_rule _ _ _ _ (hide_null a rest d s offset z) _ refl
      | inr z ↦ by_rule _ _ _ _ (hide_begins a rest d s offset z) _ refl
    ]

    begins_pop : (r : ℕ) → 0 < length a.stack → GoesOn p lay (before a (Pop r) rest) (Load Stop 0)
    begins_pop r some = go a.stack refl some
      where
        go : (stack : List StackWord) → a.stack ≡ stack → 0 < length stack → GoesOn p lay (before a (Pop r) rest) (Load Stop 0)
        go [] e l = absurd (omega arith)
        go (top ∷ stack) e l = by_rule _ _ _ _ (pop_sets a rest r top stack e) _ refl

    begins_any : (s : Statement) → Stands p lay w g b said k (before a s rest) → GoesOn p lay (before a s rest) (Load Stop 0)
    begins_any (New r class) st = begins_making (New r class) tt
    begins_any (NewV r class count) st = begins_making (NewV r class count) tt
    begins_any (Mature r class) st = (within a rest (onward p (Search (Mature r class)) 0), (false, inr (mature_begins a (Mature r class) rest tt)))
    begins_any (Put r i s) st = begins_test (Put r i s) _ refl
    begins_any (Get d r i) st = begins_test (Get d r i) _ refl
    begins_any (PutD r i s) st = begins_test (PutD r i s) _ refl
    begins_any (GetD d r i) st = begins_test (GetD d r i) _ refl
    begins_any (Num d n) st = by_rule _ _ _ _ (num_sets a rest d n) _ refl
    begins_any (Move d s) st = by_rule _ _ _ _ (move_sets a rest d s) _ refl
    begins_any (Hide d s offset) st = begins_hiding d s offset
    begins_any (Unhide d s) st = by_rule _ _ _ _ (unhide_sets a rest d s) _ refl
    begins_any (Drop r) st = by_rule _ _ _ _ (drop_clears a rest r) _ refl
    begins_any (Push r) st = by_rule _ _ _ _ (push_sets a rest r) _ refl
    begins_any (Pop r) st = begins_pop r
        (let e = stacked p lay w g b said owner t k _ st in let need = needs_now p lay w g b said k owner t a rest (Pop r) st in omega (arith, e, need))
    begins_any (GPut x r) st = by_rule _ _ _ _ (global_begins a (GPut x r) rest tt) _ refl
    begins_any (GGet r x) st = by_rule _ _ _ _ (global_begins a (GGet r x) rest tt) _ refl
    begins_any (WSet x r long) st = absurd (runs p lay w g b said owner t k _ st (WSet x r long) rest st.at).run
    begins_any (WGet r x) st = absurd (runs p lay w g b said owner t k _ st (WGet r x) rest st.at).run
    begins_any (Final r) st = absurd (runs p lay w g b said owner t k _ st (Final r) rest st.at).run
    begins_any (NextFin r) st = absurd (runs p lay w g b said owner t k _ st (NextFin r) rest st.at).run
    begins_any (Same r s) st = by_rule _ _ _ _ (same_tells a rest r s) _ refl
    begins_any (Collect true) st = by_rule _ _ _ _ (stop_asks a (Collect true) rest Major tt) _ refl
    begins_any (Collect false) st = by_rule _ _ _ _ (stop_asks a (Collect false) rest Minor tt) _ refl
    begins_any Sections st = by_rule _ _ _ _ (stop_asks a Sections rest AllSections tt) _ refl

    -- the load of the stop word: the statement begins, or the mutator yields
    pub begins : (s : Statement) → Stands p lay w g b said k (before a s rest) → (other : Step) → call_of other ≡ Loads Stop → Saw w other →
        GoesOn p lay (before a s rest) other
    begins s st other e saw = elim (cases_eq w.stop 0) [
      | inl z ↦ subst (λ o. GoesOn p lay (before a s rest) o) (sym (loads w Stop other e saw ∙ ap (Load Stop) z)) (begins_any s st)
      | inr set ↦ by_rule _ _ _ _ (yields a s rest w.stop set) other (loads w Stop other e saw)
    ]

    -- the word of a header or of a field, as a step sees it
    loads_word : (x v : ℕ) → w.word x ≡ v → (other : Step) → call_of other ≡ Loads (Word x) → Saw w other → other ≡ Load (Word x) v
    loads_word x v is other e saw = loads w (Word x) other e saw ∙ ap (Load (Word x)) is

    -- the length of a known object is one
    is_length : (n : ℕ) → n ≢ 0 → b.stands n ≡ true → IsLength (g.size n)
    is_length n some stands = let l = (t.laid.objects.shaped n (omega (arith, some)) stands).1.0 in omega arith

    tag_comes : (s : Statement) (test : Test) → Stands p lay w g b said k (within a rest (TestTag s test)) → (other : Step) →
        call_of other ≡ Loads (Word (object_in a test.register)) → Saw w other → GoesOn p lay (within a rest (TestTag s test)) other
    tag_comes s test st other e saw =
        let n = st.at.0 in
        let some = n.some in
        let known = known_at p lay w g b said k owner t _ st test.register n.name n.holds in
        let object = object_at p lay w g b said k owner t _ st test.register n.name n.holds in
        by_rule _ _ _ _ (loads_tag a s rest test (g.class n.name) (t.laid.objects.shaped n.name (omega arith) known.0).0) other
        (loads_word (object_in a test.register) (plain_word (g.class n.name))
        (ap w.word object ∙ (headed p lay w g b said k owner t n.name n.some known).0) other e saw)

    length_comes : (s : Statement) (test : Test) (class : ℕ) → Stands p lay w g b said k (within a rest (TestLength s test class)) → (other : Step) →
        call_of other ≡ Loads (Word (object_in a test.register + 1)) → Saw w other → GoesOn p lay (within a rest (TestLength s test class)) other
    length_comes s test class st other e saw =
        let n = st.at.0 in
        let known = known_at p lay w g b said k owner t _ st test.register n.name n.holds in
        let object = object_at p lay w g b said k owner t _ st test.register n.name n.holds in
        let short = is_length n.name n.some known.0 in
        let is = loads_word (object_in a test.register + 1) (g.size n.name)
        (ap (λ x. w.word (x + 1)) object ∙ (headed p lay w g b said k owner t n.name n.some known).1) other e saw in
        elim (cases_Bool (has_field test.sort (kind_of p class) (g.size n.name) test.field)) [
          | inl f ↦ by_rule _ _ _ _ (loads_length a s rest test class (g.size n.name) short f) other is
          | inr f ↦ by_rule _ _ _ _ (test_fails a s rest test class (g.size n.name) short f) other is
        ]

    hidden_comes : (d s offset : ℕ) → Stands p lay w g b said k (within a rest (HideLength d s offset)) → (other : Step) →
        call_of other ≡ Loads (Word (object_in a s + 1)) → Saw w other → GoesOn p lay (within a rest (HideLength d s offset)) other
    hidden_comes d s offset st other e saw =
        let n = st.at.0 in
        let known = known_at p lay w g b said k owner t _ st s n st.at.1 in
        let object = object_at p lay w g b said k owner t _ st s n st.at.1 in
        let short = is_length n st.at.2 known.0 in
        let is = loads_word (object_in a s + 1) (g.size n)
        (ap (λ x. w.word (x + 1)) object ∙ (headed p lay w g b said k owner t n st.at.2 known).1) other e saw in
        elim (cases_lt offset (byte_at (words_for (g.size n)))) [
          | inl l ↦ by_rule _ _ _ _ (hide_fits a rest d s offset (g.size n) short l) other is
          | inr l ↦ by_rule _ _ _ _ (hide_misses a rest d s offset (g.size n) short l) other is
        ]

    -- a field or a global for references holds one
    field_comes : (d r i : ℕ) → Stands p lay w g b said k (within a rest (Access (Get d r i))) → (other : Step) →
        call_of other ≡ Loads (Word (object_in a r + 2 + i)) → Saw w other → GoesOn p lay (within a rest (Access (Get d r i))) other
    field_comes d r i st other e saw =
        let x = field_of p lay w g b said k owner t a rest d r i st in
        by_rule _ _ _ _ (get_loads a rest d r i (byte_at (b.address x.1)) (is_reference p lay w g b said owner t x.1 x.4.0)) other
        (loads_word (object_in a r + 2 + i) (byte_at (b.address x.1)) x.5 other e saw)

    global_comes : (r x : ℕ) → Stands p lay w g b said k (within a rest (AccessGlobal (GGet r x))) → (other : Step) →
        call_of other ≡ Loads (Word (global_word p x)) → Saw w other → GoesOn p lay (within a rest (AccessGlobal (GGet r x))) other
    global_comes r x st other e saw =
        let there = within_globals p lay w g b said k owner t a rest r x st in
        by_rule _ _ _ _ (gget_loads a rest r x (byte_at (b.address (g.global x)))
        (is_reference p lay w g b said owner t (g.global x) (t.laid.globals.known x there).0)) other
        (loads_word (global_word p x) (byte_at (b.address (g.global x))) (t.laid.globals.holds x there) other e saw)

    -- the next word of a fragment: the object fits behind it, or the search goes on
    next_is : (f : ℕ) → f < lay.fragments → w.next f ≡ byte_at (b.next f)
    next_is f l = t.words f (let n = t.number in omega arith)

    look_comes : (s : Statement) (f : ℕ) → Stands p lay w g b said k (within a rest (Look s f)) → (other : Step) → call_of other ≡ Loads (Next f) →
        Saw w other → GoesOn p lay (within a rest (Look s f)) other
    look_comes s f st other e saw =
        let is = loads w (Next f) other e saw ∙ ap (Load (Next f)) (next_is f st.at.1) in
        elim (cases_lt (lay.limit f) (b.next f + made_words p s)) [
          | inl l ↦ by_rule _ _ _ _ (look_goes_on a s rest f (b.next f) l) other is
          | inr l ↦ by_rule _ _ _ _ (look_finds a s rest f (b.next f) l) other is
        ]

    claim_comes : (s : Statement) (f seen : ℕ) → Stands p lay w g b said k (within a rest (Claim s f seen)) → (other : Step) →
        call_of other ≡ Swaps (Next f) (byte_at seen) (byte_at (seen + taken p lay f seen (made_words p s))) → Saw w other →
        GoesOn p lay (within a rest (Claim s f seen)) other
    claim_comes s f seen st other e saw = go (swaps w (Next f) _ _ other e saw)
      where
        go : Swapped w (Next f) (byte_at seen) (byte_at (seen + taken p lay f seen (made_words p s))) other →
            GoesOn p lay (within a rest (Claim s f seen)) other
        go (wins is) = by_rule _ _ _ _ (claim_wins a s rest f seen) other is
        go (loses is differs) =
            let next = next_is f st.at.1 in
            let later : seen < b.next f = let l = st.at.5 in omega arith in
            let lost = is ∙ ap (Lost (Next f) (byte_at seen) (byte_at (seen + taken p lay f seen (made_words p s)))) next in
            elim (cases_lt (lay.limit f) (b.next f + made_words p s)) [
              | inl l ↦ by_rule _ _ _ _ (claim_goes_on a s rest f seen (b.next f) later l) other lost
              | inr l ↦ by_rule _ _ _ _ (claim_moves a s rest f seen (b.next f) later l) other lost
            ]

  -- whatever the call for the next step of a mutator sees, a step comes next: one line for each rule
  pub goes_on : (a : Actor) (step : Step) (d : Bool) (a' : Actor) → Comes p lay a step d a' → Stands p lay w g b said k a → (other : Step) →
      call_of other ≡ call_of step → Saw w other → GoesOn p lay a other
  goes_on _ _ _ _ (test_null a s rest test i z) st other e saw = begins a rest s st other e saw
  goes_on _ _ _ _ (test_begins a s rest test i z) st other e saw = begins a rest s st other e saw
  goes_on _ _ _ _ (loads_tag a s rest test class there) st other e saw = tag_comes a rest s test st other e saw
  goes_on _ _ _ _ (loads_length a s rest test class len short f) st other e saw = length_comes a rest s test class st other e saw
  goes_on _ _ _ _ (test_fails a s rest test class len short f) st other e saw = length_comes a rest s test class st other e saw
  goes_on _ _ _ _ (put_stores a rest r i s cardless) st other e saw = by_rule _ _ _ _ (put_stores a rest r i s cardless) other (stores _ _ other e)
  goes_on _ _ _ _ (put_stores_old a rest r i s has) st other e saw = by_rule _ _ _ _ (put_stores_old a rest r i s has) other (stores _ _ other e)
  goes_on _ _ _ _ (marks_card a rest s card) st other e saw = by_rule _ _ _ _ (marks_card a rest s card) other (stores _ _ other e)
  goes_on _ _ _ _ (putd_stores a rest r i s) st other e saw = by_rule _ _ _ _ (putd_stores a rest r i s) other (stores _ _ other e)
  goes_on _ _ _ _ (get_loads a rest d r i v ref) st other e saw = field_comes a rest d r i st other e saw
  goes_on _ _ _ _ (getd_loads a rest d r i v) st other e saw = by_rule _ _ _ _ (getd_loads a rest d r i _) other (loads w _ other e saw)
  goes_on _ _ _ _ (global_begins a s rest is) st other e saw = begins a rest s st other e saw
  goes_on _ _ _ _ (gput_stores a rest x r) st other e saw = by_rule _ _ _ _ (gput_stores a rest x r) other (stores _ _ other e)
  goes_on _ _ _ _ (gget_loads a rest r x v ref) st other e saw = global_comes a rest r x st other e saw
  goes_on _ _ _ _ (num_sets a rest d n) st other e saw = begins a rest (Num d n) st other e saw
  goes_on _ _ _ _ (drop_clears a rest r) st other e saw = begins a rest (Drop r) st other e saw
  goes_on _ _ _ _ (move_sets a rest d s) st other e saw = begins a rest (Move d s) st other e saw
  goes_on _ _ _ _ (push_sets a rest r) st other e saw = begins a rest (Push r) st other e saw
  goes_on _ _ _ _ (pop_sets a rest r top stack q) st other e saw = begins a rest (Pop r) st other e saw
  goes_on _ _ _ _ (hide_null a rest d s offset z) st other e saw = begins a rest (Hide d s offset) st other e saw
  goes_on _ _ _ _ (hide_begins a rest d s offset z) st other e saw = begins a rest (Hide d s offset) st other e saw
  goes_on _ _ _ _ (hide_fits a rest d s offset len short f) st other e saw = hidden_comes a rest d s offset st other e saw
  goes_on _ _ _ _ (hide_misses a rest d s offset len short f) st other e saw = hidden_comes a rest d s offset st other e saw
  goes_on _ _ _ _ (unhide_sets a rest d s) st other e saw = begins a rest (Unhide d s) st other e saw
  goes_on _ _ _ _ (same_tells a rest r s) st other e saw = begins a rest (Same r s) st other e saw
  goes_on _ _ _ _ (new_bumps a s rest making l) st other e saw = begins a rest s st other e saw
  goes_on _ _ _ _ (new_looks a s rest making l) st other e saw = begins a rest s st other e saw
  goes_on _ _ _ _ (look_finds a s rest f next l) st other e saw = look_comes a rest s f st other e saw
  goes_on _ _ _ _ (look_goes_on a s rest f next l) st other e saw = look_comes a rest s f st other e saw
  goes_on _ _ _ _ (stop_asks a s rest request i) st other e saw = begins a rest s st other e saw
  goes_on _ _ _ _ (asks a rest s) st other e saw = by_rule _ _ _ _ (asks a rest s) other (stores _ _ other e)
  goes_on _ _ _ _ (yields a s rest word set) st other e saw = begins a rest s st other e saw
  goes_on _ _ _ _ (claim_wins a s rest f next) st other e saw = claim_comes a rest s f next st other e saw
  goes_on _ _ _ _ (claim_moves a s rest f seen next later l) st other e saw = claim_comes a rest s f seen st other e saw
  goes_on _ _ _ _ (claim_goes_on a s rest f seen next later l) st other e saw = claim_comes a rest s f seen st other e saw
  goes_on _ _ _ _ (stores_length a s rest x) st other e saw = by_rule _ _ _ _ (stores_length a s rest x) other (stores _ _ other e)
  goes_on _ _ _ _ (stores_tag a s rest x) st other e saw = by_rule _ _ _ _ (stores_tag a s rest x) other (stores _ _ other e)
