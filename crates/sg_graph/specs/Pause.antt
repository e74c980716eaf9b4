-- What a minor pause keeps.
use Rattle.std.specs.Prelude.{◌≡◌, ◌≢◌, ℕ, zero, suc, ◌+◌, ◌<◌, ◌≤◌, ◌==◌, ◌&&◌, ◌⊎◌, ◌↔◌, Bool, true, false, not, if◌then◌else◌, List, ◌++◌, map, filter}
use Rattle.std.specs.List.{Contains, flat_map}
use Rattle.sg_words.specs.Address.{byte_at}
use Rattle.sg_program.specs.declared.program.Program.{Program}
use Rattle.sg_desc.specs.declared.shapes.Descriptor.{Descriptor}
use Rattle.sg_desc.specs.declared.shapes.Descriptor.TheVariants.{Ephemeron}
use Rattle.sg_desc.specs.Shapes.{is_strong}
use Rattle.sg_program.specs.Scripts.{kind_of, words_for}
use Rattle.sg_graph.specs.Graph.{Graph, Entry, Ref, Int, Inner, Link}
use Rattle.sg_graph.specs.Book.{Book, Young, Old, Large, word_of}
use Rattle.sg_graph.specs.Epoch.{numbers_below, running}

-- a strong field of the object m holds the object n
abbrev pub IsTarget : Program → Graph → ℕ → ℕ → Type 0
IsTarget p g m n = (n ≢ 0) × ((i : ℕ) × (i < g.size m) × (is_strong (kind_of p (g.class m)) i (g.size m) ≡ true) × (g.field m i ≡ Ref n))

-- the object m is a pair of this key and the value n
abbrev pub IsPair : Program → Graph → ℕ → ℕ → ℕ → Type 0
IsPair p g m key n = (kind_of p (g.class m) ≡ Ephemeron) × (key ≢ 0) × (g.field m 0 ≡ Ref key) × (n ≢ 0) × (g.field m 1 ≡ Ref n)

-- One round adds the targets of all strong fields of members, and the value of each pair that is a member and whose key is one.
-- A pair doesn't keep its key.
abbrev pub IsAdded : Program → Graph → (ℕ → Type 0) → ℕ → Type 0
IsAdded p g members n = ((m : ℕ) × members m × IsTarget p g m n) ⊎ ((m key : ℕ) × members m × members key × IsPair p g m key n)

-- the members after this many rounds, which begin with the roots
abbrev pub Reach : Program → Graph → (ℕ → Type 0) → ℕ → ℕ → Type 0
Reach p g root zero n = root n
Reach p g root (suc k) n = Reach p g root k n ⊎ IsAdded p g (Reach p g root k) n

-- what the roots reach, by as many rounds as the graph has objects
abbrev pub IsReached : Program → Graph → (ℕ → Type 0) → ℕ → Type 0
IsReached p g root = Reach p g root g.count

-- an entry that holds an object that is kept
abbrev pub holds_kept : (ℕ → Bool) → Entry → Bool
holds_kept kept (Ref name) = not (name == 0) && kept name
holds_kept kept (Int number) = false
holds_kept kept (Inner name offset) = false

abbrev pub is_pair : Descriptor → Bool
is_pair Ephemeron = true
is_pair kind = false

-- whether the object is a pair that is kept and whose key is empty or isn't kept: such a pair is emptied
abbrev pub is_widowed : Program → Graph → (ℕ → Bool) → ℕ → Bool
is_widowed p g kept n = kept n && is_pair (kind_of p (g.class n)) && not (holds_kept kept (g.field n 0))

-- a weak link after a pause: a short one whose target isn't among the first kept becomes empty, a long one whose target isn't kept
abbrev pub link_after : (ℕ → Bool) → (ℕ → Bool) → Link → Link
link_after first kept link = if (if link.long then kept link.target else first link.target) then link else record link { target = 0 }

-- A pause keeps exactly what its roots reach, together with what the objects reach that are registered for finalization and
-- that the roots don't reach: these become ready for it, in their order. Short links to what the roots don't reach become empty,
-- and long ones to what isn't kept. All else stays.
pub record IsPause (p : Program) (g : Graph) (root : ℕ → Type 0) (h : Graph) (kept : ℕ → Bool) : Type 0 where
  pub first : ℕ → Bool
  -- the name 0 stands for nothing, which is no object to keep
  pub nothing : (first 0 ≡ false) × (kept 0 ≡ false)
  pub reaches : (n : ℕ) → n ≢ 0 → first n ≡ true ↔ IsReached p g root n
  pub keeps : (n : ℕ) → n ≢ 0 → kept n ≡ true ↔ IsReached p g (λ m. root m ⊎ (Contains g.registered m × (first m ≡ false))) n
  pub after : h ≡ record g {
    field = λ n. if is_widowed p g kept n then (λ i. Ref 0) else g.field n;
    link = λ w. link_after first kept (g.link w);
    registered = filter first g.registered;
    ready = g.ready ++ filter (λ n. not (first n)) g.registered;
  }

-- the words in the registers and on the stack of mutator k
abbrev pub words_in : Graph → Book → ℕ → List ℕ
words_in g b k =
    map (λ r. word_of b.address ((g.mutator k).register r)) (numbers_below 16) ++ map (word_of b.address) (g.mutator k).stack

-- those of the mutators that haven't ended: a collector can't tell which of them are addresses
abbrev pub ambiguous_words : Program → Graph → Book → List ℕ
ambiguous_words p g b = flat_map (words_in g b) (running p g)

-- the word v, as a byte address, points into the object n: at its first byte, its last one, or one between
abbrev pub PointsInto : Graph → Book → ℕ → ℕ → Type 0
PointsInto g b v n = (byte_at (b.address n) ≤ v) × (v < byte_at (b.address n + words_for (g.size n)))

abbrev pub IsPointedInto : Graph → Book → List ℕ → ℕ → Type 0
IsPointedInto g b ambiguous n = (v : ℕ) × Contains ambiguous v × PointsInto g b v n

-- the object stands in the nursery
abbrev pub StandsYoung : Book → ℕ → Type 0
StandsYoung b n = (n ≢ 0) × (b.stands n ≡ true) × (b.section n ≡ Young)

-- Pinned are the young objects that an ambiguous word points into.
abbrev pub IsPinned : Graph → Book → List ℕ → ℕ → Type 0
IsPinned g b ambiguous n = StandsYoung b n × IsPointedInto g b ambiguous n

-- the roots of a minor pause: all standing objects that aren't young, those that an ambiguous word points into, and those that
-- globals and the row of ready ones hold
abbrev pub IsRoot : Program → Graph → Book → List ℕ → ℕ → Type 0
IsRoot p g b ambiguous n =
    (n ≢ 0) × (b.stands n ≡ true)
    × ((b.section n ≡ Old) ⊎ ((b.section n ≡ Large) ⊎ (IsPointedInto g b ambiguous n ⊎ (((x : ℕ) × (x < 64) × (g.global x ≡ n)) ⊎ Contains g.ready n))))
