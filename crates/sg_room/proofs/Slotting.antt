-- What finds no slot, seen from the words and the occupancies of blocks.
use Rattle.std.proofs.Common.{◌≡◌, ℕ, zero, suc, ◌+◌, ◌^◌, ◌<◌, ◌≤◌, ◌↔◌, List, [], ◌∷◌, length, slice_index, slice_set, drop, length-set}
use Rattle.std.proofs.Common.{sym, ap, ◌∙◌, subst, inl, inr, arith, add-one, drop-cons}
use Rattle.std.specs.List.{AllByRecursion}
use Rattle.std.specs.Int.Bits.{bit_or}
use Rattle.std.proofs.lemmas.Bool.{cases_lt}
use Rattle.std.proofs.lemmas.List.{drop_all}
use Rattle.sg_words.specs.Words.{put}
use Rattle.sg_words.specs.Blocks.{IsSizeClass}
use Rattle.sg_words.specs.declared.steps.BlockWord.{BlockWord}
use Rattle.sg_words.specs.declared.steps.BlockWord.TheVariants.{Free, Swept}
use Rattle.sg_words.specs.declared.layout.Layout.{Layout}
use Rattle.sg_program.specs.declared.program.Program.{Program}
use Rattle.sg_graph.specs.Graph.{Graph}
use Rattle.sg_graph.specs.Book.{Book}
use Rattle.sg_graph.specs.Laws.{LacksSlots, NoSlot, SlotBefore, IsClearAt, HasNoClear}
use Rattle.sg_space.specs.Space.{Contents, IsContents}
use Rattle.sg_space.specs.Standing.{block_in, used_in}
use Rattle.sg_heap.specs.Holding.{HoldsHeap}
use Rattle.sg_room.specs.Slots.{word_in, HasNoneClear, IsFirstClear}
use Rattle.sg_room.proofs.Lacking.{put_set}

-- each size of a list of size classes is one
pub class_at : (sizes : List ℕ) (n : ℕ) → AllByRecursion IsSizeClass sizes → n < length sizes → IsSizeClass (slice_index sizes n)
class_at [] n all l = absurd (omega arith)
class_at (z ∷ sizes) zero all l = all.0
class_at (z ∷ sizes) (suc n) all l = class_at sizes n all.1 (omega arith)

-- with no size there is a slot for each
pub nothing_lacks : (blocks : ℕ) (state : ℕ → BlockWord) (used : ℕ → ℕ) (sizes : List ℕ) → sizes ≡ [] → LacksSlots blocks state used sizes → ⊥
nothing_lacks blocks _ _ _ e (NoSlot state used z more none) = cc e
nothing_lacks blocks _ _ _ e (SlotBefore state used z more c i there clear before later) = cc e

-- a block has one lowest clear slot
same_slot : (state : BlockWord) (used z i k : ℕ) → IsClearAt state used z i → IsClearAt state used z k → k ≡ i
same_slot state used z i k is is' = elim (cases_lt k i) [
  | inl p ↦ absurd (let set = is.lowest k p in let clear = is'.clear in omega arith)
  | inr p ↦ elim (cases_lt i k) [
    | inl q ↦ absurd (let set = is'.lowest i q in let clear = is.clear in omega arith)
    | inr q ↦ omega arith
  ]
]

-- and there is one first block that has one
same_block : (state : ℕ → BlockWord) (used : ℕ → ℕ) (z c i d k : ℕ) → IsClearAt (state c) (used c) z i → ((e : ℕ) → e < c → HasNoClear (state e) (used e) z) →
    IsClearAt (state d) (used d) z k → ((e : ℕ) → e < d → HasNoClear (state e) (used e) z) → d ≡ c
same_block state used z c i d k is before is' before' = elim (cases_lt d c) [
  | inl p ↦ absurd (before d p k is')
  | inr p ↦ elim (cases_lt c d) [
    | inl q ↦ absurd (before' c q i is)
    | inr q ↦ omega arith
  ]
]

-- the states and the occupancies behind a slot that was given
abbrev GivesThen : ℕ → (ℕ → BlockWord) → (ℕ → ℕ) → ℕ → List ℕ → ℕ → ℕ → Type 0
GivesThen blocks state used z more c i = LacksSlots blocks (put state c (Swept z)) (put used c (bit_or (used c) (2 ^ i))) more

-- the first block that has a clear slot gives its lowest one
given : (blocks : ℕ) (state : ℕ → BlockWord) (used : ℕ → ℕ) (z : ℕ) (more : List ℕ) (c i : ℕ) → c < blocks → IsClearAt (state c) (used c) z i →
    ((d : ℕ) → d < c → HasNoClear (state d) (used d) z) → LacksSlots blocks state used (z ∷ more) → GivesThen blocks state used z more c i
given blocks state used z more c i there is before (NoSlot _ _ _ _ none) = absurd (none c there i is)
given blocks state used z more c i there is before (SlotBefore _ _ _ _ d k there' is' before' later) =
    let block : d ≡ c = same_block state used z c i d k is before is' before' in
    let slot : k ≡ i = same_slot (state c) (used c) z i k is (subst (λ e. IsClearAt (state e) (used e) z k) block is') in
    subst (λ e. GivesThen blocks state used z more c e) slot (subst (λ e. GivesThen blocks state used z more e k) block later)

-- whether sizes find no slot where the blocks have these words and these occupancies
abbrev pub Lacks : List BlockWord → List ℕ → List ℕ → Type 0
Lacks words used sizes = LacksSlots (length words) (λ c. word_in words c) (λ c. slice_index used c) sizes

-- where no block has a slot for the first size, one finds none
pub lacks_now : (words : List BlockWord) (used sizes : List ℕ) (n : ℕ) → n < length sizes →
    HasNoneClear words used (slice_index sizes n) → Lacks words used (drop n sizes)
lacks_now words used sizes n l none = subst (Lacks words used) (sym (drop-cons sizes n 0 l)) (NoSlot (λ c. word_in words c) (λ c. slice_index used c) _ _ none)

-- behind the last size there is a slot for each
pub lacks_none : (words : List BlockWord) (used sizes : List ℕ) (n : ℕ) → length sizes ≤ n → Lacks words used (drop n sizes) → ⊥
lacks_none words used sizes n l = nothing_lacks (length words) (λ c. word_in words c) (λ c. slice_index used c) (drop n sizes) (drop_all n sizes l)

-- the words and the occupancies of blocks behind a slot of block c that was given
abbrev pub words_then : List BlockWord → ℕ → ℕ → List BlockWord
words_then words c z = slice_set words c (Swept z)

abbrev pub used_then : List ℕ → ℕ → ℕ → List ℕ
used_then used c i = slice_set used c (bit_or (slice_index used c) (2 ^ i))

-- where the first block with a clear slot for the first size gives its lowest one, what finds no slot is among the others
pub lacks_later : (words : List BlockWord) (used sizes : List ℕ) (n c i : ℕ) → length words ≡ length used → n < length sizes →
    IsFirstClear words used (slice_index sizes n) c i →
    Lacks words used (drop n sizes) ↔ Lacks (words_then words c (slice_index sizes n)) (used_then used c i) (drop (n + 1) sizes)
lacks_later words used sizes n c i many l is =
    let z = slice_index sizes n in
    let more = drop (suc n) sizes in
    let state : ℕ → BlockWord = λ j. word_in words j in
    let taken : ℕ → ℕ = λ j. slice_index used j in
    let after : (λ j. word_in (words_then words c z) j) ≡ put state c (Swept z) = put_set words c (Swept z) Free is.there in
    let after' : (λ j. slice_index (used_then used c i) j) ≡ put taken c (bit_or (taken c) (2 ^ i)) =
    put_set used c (bit_or (taken c) (2 ^ i)) 0 (let t = is.there in omega arith) in
    let same : length (words_then words c z) ≡ length words = length-set words c (Swept z) in
    let rest : drop (n + 1) sizes ≡ more = ap (λ k. drop k sizes) (add-one n) in
    let cut : drop n sizes ≡ z ∷ more = drop-cons sizes n 0 l in
    let then : Lacks (words_then words c z) (used_then used c i) (drop (n + 1) sizes) ≡ GivesThen (length words) state taken z more c i =
    λ k. LacksSlots (same k) (after k) (after' k) (rest k) in (
      λ lacks. subst (λ A. A) (sym then) (given (length words) state taken z more c i is.there is.clear is.before (subst (Lacks words used) cut lacks)),
      λ lacks. subst (Lacks words used) (sym cut) (SlotBefore state taken z more c i is.there is.clear is.before (subst (λ A. A) then lacks)),
    )

-- from the space's blocks to those of a program whose heap it holds
pub lacks_by_program : (s : Contents) (sizes : List ℕ) (p : Program) (g : Graph) (b : Book) → IsContents s → HoldsHeap p s g b →
    Lacks s.blocks s.used sizes ↔ LacksSlots p.config.blocks (block_in s) (used_in s) sizes
lacks_by_program s sizes p g b contents holds =
    let many : length s.blocks ≡ p.config.blocks = contents.blocks ∙ ap (λ (l : Layout). l.blocks) holds.0.layout in (
      λ lacks. subst (λ n. LacksSlots n (block_in s) (used_in s) sizes) many lacks,
      λ lacks. subst (λ n. LacksSlots n (block_in s) (used_in s) sizes) (sym many) lacks,
    )

-- the step of the loop: what finds no slot among all is what finds none among the sizes behind this one, for which the block gave a slot
pub lacks_behind : (s : Contents) (words : List BlockWord) (used sizes : List ℕ) (n c i : ℕ) → length words ≡ length used → n < length sizes →
    IsFirstClear words used (slice_index sizes n) c i → Lacks s.blocks s.used sizes ↔ Lacks words used (drop n sizes) →
    Lacks s.blocks s.used sizes ↔ Lacks (words_then words c (slice_index sizes n)) (used_then used c i) (drop (n + 1) sizes)
lacks_behind s words used sizes n c i many l is so_far =
    let step = lacks_later words used sizes n c i many l is in (
      λ lacks. step.0 (so_far.0 lacks),
      λ lacks. so_far.1 (step.1 lacks),
    )
