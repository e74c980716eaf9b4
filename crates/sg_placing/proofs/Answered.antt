-- The answer to a statement at a stop as a whole statement over graph and book.
use Rattle.std.proofs.Common.{◌≡◌, ◌≢◌, ℕ, suc, ◌+◌, ◌<◌, false, List, ◌∷◌, length, inl, inr, refl, ap, sym, ◌∙◌, subst, arith}
use Rattle.std.proofs.lemmas.Bool.{cases_eq}
use Rattle.sg_words.specs.Address.{byte_at}
use Rattle.sg_words.specs.Words.{put}
use Rattle.sg_words.proofs.Puts.{put-at, put-other, put-all}
use Rattle.sg_desc.specs.declared.shapes.Descriptor.{Descriptor}
use Rattle.sg_desc.specs.declared.shapes.Descriptor.TheVariants.{PtrFree, Run, Bitmap, VectorRefs, VectorPlain, Ephemeron}
use Rattle.sg_program.specs.declared.program.Statement.{Statement}
use Rattle.sg_program.specs.declared.program.Statement.TheVariants.{New, NewV, Mature, Collect, Sections}
use Rattle.sg_program.specs.declared.program.Program.{Program}
use Rattle.sg_program.specs.declared.answers.Answer.{Answer}
use Rattle.sg_program.specs.declared.answers.Answer.TheVariants.{At, Fine, Full}
use Rattle.sg_program.specs.Scripts.{kind_of, fields_of, words_for, IsSizeOf, IsSmall}
use Rattle.sg_graph.specs.Graph.{Mutator, Graph, grown, advanced}
use Rattle.sg_graph.specs.Statements.{Answers, hands_after, heap_after}
use Rattle.sg_graph.specs.Book.{Book}
use Rattle.sg_graph.specs.Pause.{is_pair}
use Rattle.sg_graph.specs.Invariants.{IsPlain}
use Rattle.sg_graph.specs.Laws.{BlocksGo}
use Rattle.sg_graph.specs.Stop.{Takes, TakesSlot, HasNoSlot, Places, PlacesNew, LacksPlace}
use Rattle.sg_space.specs.Space.{Contents, IsContents}
use Rattle.sg_heap.specs.Holding.{HoldsHeap, OwesNothing}
use Rattle.sg_rules.specs.Resting.{IsRunnable}
use Rattle.sg_order.specs.Held.{RunnableMakes}
use Rattle.sg_placing.specs.declared.placing.Room.{Room}
use Rattle.sg_placing.specs.declared.placing.Room.TheVariants.{Fragments, SlotsToo}
use Rattle.sg_placing.specs.Placing.{HoldsNew, FillsSlot, IsMade, IsMadeOld, IsServing}
use Rattle.sg_placing.specs.Answering.{placing_in, FitsRoom, FitsStatement, HasAnswered}
use Rattle.sg_placing.proofs.Heaps.{heap_on}
use Rattle.sg_placing.proofs.Spots.{has_no_fragment, has_no_slot, in_fragment, takes, holds_fragment, owed_fragment, told_fragment, in_slot, takes_slot, holds_slot, owed_slot, told_slot}

plain_on : (p : Program) (g : Graph) (mutator : ℕ → Mutator) → IsPlain p g → IsPlain p (record g { mutator = mutator })
plain_on p g mutator plain = record { links = plain.links; registered = plain.registered; ready = plain.ready; pairs = plain.pairs }

-- a graph with a new object that is no pair
plain_grown : (p : Program) (g : Graph) (k class n : ℕ) → is_pair (kind_of p class) ≡ false → IsPlain p g → IsPlain p (grown p g k class n)
plain_grown p g k class n single plain = record {
  links = plain.links;
  registered = plain.registered;
  ready = plain.ready;
  pairs = λ m l u. elim (cases_eq m (suc g.count)) [
    | inl e ↦ ap (λ c. is_pair (kind_of p c)) (put-at g.class (suc g.count) class m e) ∙ single
    | inr d ↦ ap (λ c. is_pair (kind_of p c)) (put-other g.class (suc g.count) class m d) ∙ plain.pairs m l (omega arith)
  ];
}

module _ (p : Program) (v : Contents) (g : Graph) (b : Book) (plain : IsPlain p g) (heap : HoldsHeap p v g b) (k : ℕ) (rest : List Statement) (room : Room)
    (t : Contents) where
  abbrev m : Mutator
  m = g.mutator k

  abbrev then : Graph → Mutator → Graph
  then h hands = advanced h k hands rest

  ended_as : (hands : Mutator) → hands.ended ≡ m.ended → (j : ℕ) → (put g.mutator k (record hands { script = rest }) j).ended ≡ (g.mutator j).ended
  ended_as hands e = put-all (λ j (x : Mutator). x.ended ≡ (g.mutator j).ended) g.mutator k (record hands { script = rest }) e (λ j d. refl)

  -- a statement that makes an object of this class, with so many fields
  module _ (s : Statement) (class fields : ℕ) (known : class < length p.classes) (sized : IsSizeOf p class fields)
      (single : is_pair (kind_of p class) ≡ false) where
    -- gets one, which stands where the book has it
    module _ (a : ℕ) (answers : Answers p g m s (At (suc g.count)))
        (makes : heap_after p g k m s (At (suc g.count)) ≡ grown p g k class fields)
        (same : (hands_after m s (At (suc g.count))).ended ≡ m.ended)
        (book : Book) (places : Places p (placing_in room) g b s (At (suc g.count)) book)
        (made : (mutator : ℕ → Mutator) → HoldsHeap p t (record (grown p g k class fields) { mutator = mutator }) book) (owed : book.owed ≡ b.owed)
        (told : a ≡ byte_at (book.address (suc g.count))) where
      hands : Mutator
      hands = hands_after m s (At (suc g.count))

      answered_at : HasAnswered p (placing_in room) g b k s rest (At a) t
      unfolding hands
      answered_at = record {
        graph = then (grown p g k class fields) (hands_after m s (At (suc g.count)));
        book = book;
        named = At (suc g.count);
        does = (answers, ap (λ (h : Graph). then h (hands_after m s (At (suc g.count)))) (sym makes));
        places = places;
        told = ap At told;
        heap = made (put g.mutator k (record hands { script = rest }));
        plain = plain_on p (grown p g k class fields) _ (plain_grown p g k class fields single plain);
        owed = owed;
        ended = ended_as (hands_after m s (At (suc g.count))) same;
      }

    -- or none
    answered_full : t ≡ v → Answers p g m s Full → heap_after p g k m s Full ≡ g → (hands_after m s Full).ended ≡ m.ended →
        Places p (placing_in room) g b s Full b → HasAnswered p (placing_in room) g b k s rest Full t
    answered_full still answers makes same places = record {
      graph = then g (hands_after m s Full);
      book = b;
      named = Full;
      does = (answers, ap (λ (h : Graph). then h (hands_after m s Full)) (sym makes));
      places = places;
      told = refl;
      heap = subst (λ u. HoldsHeap p u (then g (hands_after m s Full)) b) (sym still) (heap_on p v g b _ heap);
      plain = plain_on p g _ plain;
      owed = refl;
      ended = ended_as (hands_after m s Full) same;
    }

  -- nothing is made
  answered_fine : (s : Statement) → t ≡ v → Answers p g m s Fine → heap_after p g k m s Fine ≡ g → hands_after m s Fine ≡ m →
      Places p (placing_in room) g b s Fine b → HasAnswered p (placing_in room) g b k s rest Fine t
  answered_fine s still answers makes same places = record {
    graph = then g m;
    book = b;
    named = Fine;
    does = (answers, λ i. then (sym makes i) (sym same i));
    places = places;
    told = refl;
    heap = subst (λ u. HoldsHeap p u (then g m) b) (sym still) (heap_on p v g b _ heap);
    plain = plain_on p g _ plain;
    owed = refl;
    ended = ended_as m refl;
  }

-- by where the new object may be placed
module _ (laws : BlocksGo) (p : Program) (v : Contents) (g : Graph) (b : Book) (contents : IsContents v) (plain : IsPlain p g) (heap : HoldsHeap p v g b)
    (k : ℕ) (rest : List Statement) (t : Contents) (s : Statement) (class fields : ℕ) (known : class < length p.classes) (sized : IsSizeOf p class fields)
    (single : is_pair (kind_of p class) ≡ false) where
  -- in a fragment
  answered_fragment : (room : Room) → (a : ℕ) → HoldsNew v class fields t a → Answers p g (g.mutator k) s (At (suc g.count)) →
      heap_after p g k (g.mutator k) s (At (suc g.count)) ≡ grown p g k class fields →
      (hands_after (g.mutator k) s (At (suc g.count))).ended ≡ (g.mutator k).ended →
      ((c : Book) (f : ℕ) → Takes b (words_for fields) (suc g.count) f c → Places p (placing_in room) g b s (At (suc g.count)) c) →
      HasAnswered p (placing_in room) g b k s rest (At a) t
  answered_fragment room a is answers makes same places =
      let book = in_fragment p v g b contents heap k class fields t a known sized is in
      answered_at p v g b plain heap k rest room t s class fields known sized single a answers makes same book
      (places book is.fragment (takes p v g b contents heap k class fields t a known sized is))
      (holds_fragment p v g b contents heap k class fields t a known sized is)
      (owed_fragment p v g b contents heap k class fields t a known sized is)
      (told_fragment p v g b contents heap k class fields t a known sized is)

  -- in a slot
  answered_slot : (room : Room) → OwesNothing p b → (a : ℕ) → FillsSlot v class fields t a → Answers p g (g.mutator k) s (At (suc g.count)) →
      heap_after p g k (g.mutator k) s (At (suc g.count)) ≡ grown p g k class fields →
      (hands_after (g.mutator k) s (At (suc g.count))).ended ≡ (g.mutator k).ended →
      ((c : Book) (j i : ℕ) → TakesSlot p g b fields (suc g.count) j i c → Places p (placing_in room) g b s (At (suc g.count)) c) →
      HasAnswered p (placing_in room) g b k s rest (At a) t
  answered_slot room unowed a is answers makes same places =
      let book = in_slot p v g b contents heap k class fields t a known sized laws unowed is in
      answered_at p v g b plain heap k rest room t s class fields known sized single a answers makes same book
      (places book is.block is.slot (takes_slot p v g b contents heap k class fields t a known sized laws unowed is))
      (holds_slot p v g b contents heap k class fields t a known sized laws unowed is)
      (owed_slot p v g b contents heap k class fields t a known sized laws unowed is)
      (told_slot p v g b contents heap k class fields t a known sized laws unowed is)

  -- an object of the nursery
  answered_made : (room : Room) → FitsRoom p b room → (answer : Answer) → IsMade room v class fields answer t →
      Answers p g (g.mutator k) s (At (suc g.count)) → Answers p g (g.mutator k) s Full →
      heap_after p g k (g.mutator k) s (At (suc g.count)) ≡ grown p g k class fields → heap_after p g k (g.mutator k) s Full ≡ g →
      (hands_after (g.mutator k) s (At (suc g.count))).ended ≡ (g.mutator k).ended → (hands_after (g.mutator k) s Full).ended ≡ (g.mutator k).ended →
      ((c : Book) → PlacesNew p (placing_in room) g b fields (suc g.count) c → Places p (placing_in room) g b s (At (suc g.count)) c) →
      (LacksPlace p (placing_in room) g b fields → Places p (placing_in room) g b s Full b) →
      HasAnswered p (placing_in room) g b k s rest answer t
  answered_made Fragments fits (At a) is named full makes none ends same places lacks =
      answered_fragment Fragments a is named makes ends (λ c f q. places c (f, q))
  answered_made Fragments fits Full is named full makes none ends same places lacks =
      answered_full p v g b plain heap k rest Fragments t s class fields known sized single is.1 full none same
      (lacks (has_no_fragment p v g b contents heap (words_for fields) is.0))
  answered_made SlotsToo fits (At a) (inl is) named full makes none ends same places lacks =
      answered_fragment SlotsToo a is named makes ends (λ c f q. places c (inl (f, q)))
  answered_made SlotsToo fits (At a) (inr is) named full makes none ends same places lacks =
      answered_slot SlotsToo fits a is.1 named makes ends
      (λ c j i q. places c (inr (has_no_fragment p v g b contents heap (words_for fields) is.0, (j, i, q))))
  answered_made SlotsToo fits Full is named full makes none ends same places lacks =
      answered_full p v g b plain heap k rest SlotsToo t s class fields known sized single is.2 full none same
      (lacks (has_no_fragment p v g b contents heap (words_for fields) is.0, has_no_slot p v g b contents heap fits fields is.1))
  answered_made room fits answer is named full makes none ends same places lacks = absurd is

  -- an object of the major heap
  answered_old : (room : Room) → OwesNothing p b → (answer : Answer) → IsMadeOld v class fields answer t →
      Answers p g (g.mutator k) s (At (suc g.count)) → Answers p g (g.mutator k) s Full →
      heap_after p g k (g.mutator k) s (At (suc g.count)) ≡ grown p g k class fields → heap_after p g k (g.mutator k) s Full ≡ g →
      (hands_after (g.mutator k) s (At (suc g.count))).ended ≡ (g.mutator k).ended → (hands_after (g.mutator k) s Full).ended ≡ (g.mutator k).ended →
      ((c : Book) (j i : ℕ) → TakesSlot p g b fields (suc g.count) j i c → Places p (placing_in room) g b s (At (suc g.count)) c) →
      (HasNoSlot p g b fields → Places p (placing_in room) g b s Full b) →
      HasAnswered p (placing_in room) g b k s rest answer t
  answered_old room unowed (At a) is named full makes none ends same places lacks = answered_slot room unowed a is named makes ends places
  answered_old room unowed Full is named full makes none ends same places lacks =
      answered_full p v g b plain heap k rest room t s class fields known sized single is.1 full none same
      (lacks (has_no_slot p v g b contents heap unowed fields is.0))
  answered_old room unowed answer is named full makes none ends same places lacks = absurd is

no_pair : (kind : Descriptor) → kind ≢ Ephemeron → is_pair kind ≡ false
no_pair PtrFree d = refl
no_pair (Run first count) d = refl
no_pair (Bitmap bits) d = refl
no_pair VectorRefs d = refl
no_pair VectorPlain d = refl
no_pair Ephemeron d = absurd (d refl)

-- a statement that was answered at a stop is a whole one
pub answered : BlocksGo → RunnableMakes → (p : Program) (v : Contents) (g : Graph) (b : Book) → IsContents v → IsPlain p g → HoldsHeap p v g b →
    (k : ℕ) (rest : List Statement) (room : Room) → FitsRoom p b room → (t : Contents)
    (s : Statement) (answer : Answer) → FitsStatement p b s → IsServing p room v s answer t → (g.mutator k).script ≡ s ∷ rest → IsRunnable p s →
    HasAnswered p (placing_in room) g b k s rest answer t
answered laws makes p v g b contents plain heap k rest room fits t (New r class) answer unowed is next run =
    let of = makes p (New r class) (inl tt) run in
    let small : IsSmall (fields_of p class + 2) = let l = run.small in omega arith in
    answered_made laws p v g b contents plain heap k rest t (New r class) class (fields_of p class) of.known of.sized of.single room fits answer is
    refl tt refl refl refl refl (λ c q. (small, q)) (λ q. (small, q, refl))
answered laws makes p v g b contents plain heap k rest room fits t (NewV r class count) answer unowed is next run =
    let of = makes p (NewV r class count) (inl tt) run in
    let small : IsSmall (count + 2) = let l = run.small in omega arith in
    answered_made laws p v g b contents plain heap k rest t (NewV r class count) class count of.known of.sized of.single room fits answer is
    refl tt refl refl refl refl (λ c q. (small, q)) (λ q. (small, q, refl))
answered laws makes p v g b contents plain heap k rest room fits t (Mature r class) answer unowed is next run =
    let few = run.small in
    answered_old laws p v g b contents plain heap k rest t (Mature r class) class (fields_of p class) run.good.names (few, λ _. refl)
    (no_pair (kind_of p class) run.run) room unowed answer is refl tt refl refl refl refl (λ c j i q. (j, i, q)) (λ q. (q, refl))
answered laws makes p v g b contents plain heap k rest room fits t (Collect major) Fine unowed is next run =
    answered_fine p v g b plain heap k rest room t (Collect major) is tt refl refl refl
answered laws makes p v g b contents plain heap k rest room fits t Sections Fine unowed is next run =
    answered_fine p v g b plain heap k rest room t Sections is tt refl refl refl
answered laws makes p v g b contents plain heap k rest room fits t s answer unowed is next run = absurd is
