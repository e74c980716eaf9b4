-- What finds no room, seen from the fragments' words.
use Rattle.std.proofs.Common.{◌≡◌, ℕ, suc, ◌+◌, ◌<◌, ◌≤◌, ◌↔◌, List, [], ◌∷◌, length, get_or, set, slice_index, slice_set, drop, refl, sym, ap, ◌∙◌, subst, inl, inr, arith, get_or-set_same, get_or-set_other, add-one, drop-cons}
use Rattle.std.proofs.Math.Path.{fun_ext}
use Rattle.std.proofs.lemmas.Bool.{cases_eq, cases_lt}
use Rattle.std.proofs.lemmas.List.{drop_all, get_or_default}
use Rattle.sg_words.specs.Words.{put}
use Rattle.sg_words.proofs.Puts.{put-at, put-other}
use Rattle.sg_program.specs.declared.program.Program.{Program}
use Rattle.sg_graph.specs.Graph.{Graph}
use Rattle.sg_graph.specs.Book.{Book}
use Rattle.sg_graph.specs.Laws.{LacksWords, NoRoom, RoomBefore}
use Rattle.sg_space.specs.Space.{Contents}
use Rattle.sg_heap.specs.Holding.{HoldsHeap}
use Rattle.sg_room.specs.Room.{next_word, end_word, AreNextWords, HasNoRoom, IsLowestWithRoom}

-- a list with one entry set, as a function
pub put_set : {A : Type 0} (xs : List A) (k : ℕ) (v none : A) → k < length xs → (λ j. get_or (set xs k v) j none) ≡ put (λ j. get_or xs j none) k v
put_set xs k v none l = fun_ext (λ j. elim (cases_eq j k) [
  | inl e ↦ ap (λ i. get_or (set xs k v) i none) e ∙ get_or-set_same xs k v none l ∙ sym (put-at (λ j. get_or xs j none) k v j e)
  | inr n ↦ get_or-set_other xs k j v none n ∙ sym (put-other (λ j. get_or xs j none) k v j n)
])

-- two functions that agree below a number do so where both are changed alike
agree_put : (fragments : ℕ) (f g : ℕ → ℕ) (k n : ℕ) → k < fragments → ((j : ℕ) → j < fragments → f j ≡ g j) → (j : ℕ) → j < fragments →
    put f k (f k + n) j ≡ put g k (g k + n) j
agree_put fragments f g k n below same j l = elim (cases_eq j k) [
  | inl e ↦ put-at f k (f k + n) j e ∙ ap (λ i. i + n) (same k below) ∙ sym (put-at g k (g k + n) j e)
  | inr d ↦ put-other f k (f k + n) j d ∙ same j l ∙ sym (put-other g k (g k + n) j d)
]

-- only the fragments count
pub lacks_along : (fragments : ℕ) (limit limit' next next' : ℕ → ℕ) (needs : List ℕ) → ((f : ℕ) → f < fragments → limit f ≡ limit' f) →
    ((f : ℕ) → f < fragments → next f ≡ next' f) → LacksWords fragments limit next needs → LacksWords fragments limit' next' needs
lacks_along fragments limit limit' _ next' _ limits nexts (NoRoom next n more none) =
    NoRoom next' n more (λ f l. let a = none f l in let b = limits f l in let c = nexts f l in omega arith)
lacks_along fragments limit limit' _ next' _ limits nexts (RoomBefore next n more f there room lowest later) =
    RoomBefore next' n more f there (let b = limits f there in let c = nexts f there in omega arith)
    (λ j l. let below : j < fragments = omega arith in let a = lowest j l in let b = limits j below in let c = nexts j below in omega arith)
    (lacks_along fragments limit limit' (put next f (next f + n)) (put next' f (next' f + n)) more limits (agree_put fragments next next' f n there nexts) later)

-- with no number there is room
pub nothing_lacks : (fragments : ℕ) (limit next : ℕ → ℕ) (needs : List ℕ) → needs ≡ [] → LacksWords fragments limit next needs → ⊥
nothing_lacks fragments limit next _ e (NoRoom _ n more none) = cc e
nothing_lacks fragments limit next _ e (RoomBefore _ n more f there room lowest later) = cc e

-- there is one lowest fragment with room
same_lowest : (limit next : ℕ → ℕ) (n f k : ℕ) → next f + n ≤ limit f → ((j : ℕ) → j < f → limit j < next j + n) → next k + n ≤ limit k →
    ((j : ℕ) → j < k → limit j < next j + n) → k ≡ f
same_lowest limit next n f k room lowest room' lowest' = elim (cases_lt k f) [
  | inl p ↦ absurd (let full = lowest k p in omega arith)
  | inr p ↦ elim (cases_lt f k) [
    | inl q ↦ absurd (let full = lowest' f q in omega arith)
    | inr q ↦ omega arith
  ]
]

-- the lowest fragment with room gives the words
given : (fragments : ℕ) (limit next : ℕ → ℕ) (n : ℕ) (more : List ℕ) (f : ℕ) → f < fragments → next f + n ≤ limit f →
    ((j : ℕ) → j < f → limit j < next j + n) → LacksWords fragments limit next (n ∷ more) → LacksWords fragments limit (put next f (next f + n)) more
given fragments limit next n more f there room lowest (NoRoom _ _ _ none) = absurd (let full = none f there in omega arith)
given fragments limit next n more f there room lowest (RoomBefore _ _ _ k there' room' lowest' later) =
    subst (λ i. LacksWords fragments limit (put next i (next i + n)) more) (same_lowest limit next n f k room lowest room' lowest') later

-- whether numbers of words find no room where the fragments' next words are these
abbrev pub Lacks : Contents → (ℕ → ℕ) → List ℕ → Type 0
Lacks s next needs = LacksWords (length s.ends) (end_word s) next needs

-- where no fragment has the first number of words, one finds no room
pub lacks_now : (s : Contents) (next needs : List ℕ) (i : ℕ) → i < length needs → HasNoRoom s next (slice_index needs i) → Lacks s (λ f. slice_index next f) (drop i needs)
lacks_now s next needs i l none = subst (Lacks s (λ f. slice_index next f)) (sym (drop-cons needs i 0 l)) (NoRoom (λ f. slice_index next f) _ _ none)

-- where the lowest fragment with room for the first number of words gives them, what finds no room is among the others
pub lacks_later : (s : Contents) (next needs : List ℕ) (i f : ℕ) → length next ≡ length s.ends → i < length needs → IsLowestWithRoom s next (slice_index needs i) f →
    Lacks s (λ j. slice_index next j) (drop i needs) ↔ Lacks s (λ j. slice_index (slice_set next f (slice_index next f + slice_index needs i)) j) (drop (i + 1) needs)
lacks_later s next needs i f many l is =
    let n = slice_index needs i in
    let more = drop (suc i) needs in
    let before : ℕ → ℕ = λ j. slice_index next j in
    let after : (λ j. slice_index (slice_set next f (before f + n)) j) ≡ put before f (before f + n) = put_set next f (before f + n) 0 (omega arith) in
    let rest : drop (i + 1) needs ≡ more = ap (λ k. drop k needs) (add-one i) in
    let cut : drop i needs ≡ n ∷ more = drop-cons needs i 0 l in (
      λ lacks. subst (Lacks s (λ j. slice_index (slice_set next f (before f + n)) j)) (sym rest) (subst (λ t. Lacks s t more) (sym after)
          (given (length s.ends) (end_word s) before n more f is.there is.room is.lowest (subst (Lacks s before) cut lacks))),
      λ lacks. subst (Lacks s before) (sym cut) (RoomBefore before n more f is.there is.room is.lowest
          (subst (λ t. Lacks s t more) after (subst (Lacks s (λ j. slice_index (slice_set next f (before f + n)) j)) rest lacks))),
    )

-- behind the last number there is room for each
pub lacks_none : (s : Contents) (next : ℕ → ℕ) (needs : List ℕ) (i : ℕ) → length needs ≤ i → Lacks s next (drop i needs) → ⊥
lacks_none s next needs i l = nothing_lacks (length s.ends) (end_word s) next (drop i needs) (drop_all i needs l)

-- from the space's fragments to those of a book that it is held by
pub lacks_by_book : (s : Contents) (needs : List ℕ) (p : Program) (g : Graph) (b : Book) → HoldsHeap p s g b → Lacks s (next_word s) needs ↔ LacksWords b.fragments b.limit b.next needs
lacks_by_book s needs p g b holds =
    let is = holds.0 in
    let many : b.fragments ≡ length s.ends = is.fragments in
    let limits : (f : ℕ) → f < b.fragments → end_word s f ≡ b.limit f = λ f l. let e = is.limit f l in rw e (omega arith) in
    let nexts : (f : ℕ) → f < b.fragments → next_word s f ≡ b.next f = λ f l. let e = is.next f l in rw e (omega arith) in (
      λ lacks. lacks_along b.fragments (end_word s) b.limit (next_word s) b.next needs limits nexts
          (subst (λ n. LacksWords n (end_word s) (next_word s) needs) (sym many) lacks),
      λ lacks. subst (λ n. LacksWords n (end_word s) (next_word s) needs) many
          (lacks_along b.fragments b.limit (end_word s) b.next (next_word s) needs (λ f l. sym (limits f l)) (λ f l. sym (nexts f l)) lacks),
    )

-- the list of the fragments' next words says what the space says
pub lacks_by_list : (s : Contents) (next needs : List ℕ) → AreNextWords s next → Lacks s (next_word s) needs ↔ Lacks s (λ f. slice_index next f) needs
lacks_by_list s next needs are = (
  lacks_along (length s.ends) (end_word s) (end_word s) (next_word s) (λ f. slice_index next f) needs (λ _ _. refl) (λ f l. sym (are.same f l)),
  lacks_along (length s.ends) (end_word s) (end_word s) (λ f. slice_index next f) (next_word s) needs (λ _ _. refl) are.same,
)

-- the step of the loop: what finds no room among all is what finds none among the numbers behind this one, to which the fragment gave its words
pub lacks_behind : (s : Contents) (next slice needs : List ℕ) (i f v : ℕ) → length next ≡ length s.ends → i < length needs → slice ≡ next →
    IsLowestWithRoom s slice (slice_index needs i) f → v ≡ get_or next f v → Lacks s (next_word s) needs ↔ Lacks s (λ j. slice_index next j) (drop i needs) →
    Lacks s (next_word s) needs ↔ Lacks s (λ j. slice_index (slice_set next f (v + slice_index needs i)) j) (drop (i + 1) needs)
lacks_behind s next slice needs i f v many l same is read so_far =
    let lowest = subst (λ xs. IsLowestWithRoom s xs (slice_index needs i) f) same is in
    let there : f < length next = let t = is.there in omega arith in
    let value : v ≡ slice_index next f = read ∙ get_or_default next f v 0 there in
    let step = lacks_later s next needs i f many l lowest in
    subst (λ u. Lacks s (next_word s) needs ↔ Lacks s (λ j. slice_index (slice_set next f (u + slice_index needs i)) j) (drop (i + 1) needs)) (sym value)
    (λ lacks. step.0 (so_far.0 lacks), λ lacks. so_far.1 (step.1 lacks))
