-- Where the cards that aren't needed become clean, the space still holds the graph.
use Rattle.std.proofs.Common.{◌≡◌, ◌≢◌, ℕ, ◌+◌, ◌<◌, ◌↔◌, List, Option, true, refl, sym, ap, ◌∙◌, subst, arith, slice_index}
use Rattle.sg_words.specs.Address.{byte_at}
use Rattle.sg_words.specs.Blocks.{card_of}
use Rattle.sg_program.specs.declared.program.Program.{Program}
use Rattle.sg_graph.specs.Graph.{Graph, Entry, Ref}
use Rattle.sg_graph.specs.Book.{Book, word_of}
use Rattle.sg_graph.specs.Heap.{layout_of, IsKnownEntry}
use Rattle.sg_graph.specs.Blocks.{AreCarded}
use Rattle.sg_graph.specs.declared.reports.MinorReport.{MinorReport}
use Rattle.sg_space.specs.Space.{Contents, IsContents, cards_in}
use Rattle.sg_space.specs.Standing.{word, IsSoundBy}
use Rattle.sg_cards.specs.Seeds.{HasSeed}
use Rattle.sg_heap.specs.Fronts.{fronts, IsFronted}
use Rattle.sg_heap.specs.Holding.{HoldsHeap}
use Rattle.sg_heap.specs.Laws.{FrontLaw}
use Rattle.sg_minor.specs.Law.{HasPaused}
use Rattle.sg_minor.proofs.Sown.{fronted_heap, seeded}

-- the space but for its cards, of which those are dirty that were and are needed
pub record IsCleaned (v w : Contents) : Type 0 where
  pub still : w ≡ record v { cards = w.cards }
  pub dirty : (owner : ℕ → Option ℕ) → IsSoundBy v owner → (c : ℕ) → c < cards_in v.layout → (slice_index w.cards c ≡ 1) ↔
      ((slice_index v.cards c ≡ 1) × HasSeed v owner c)

module _ (law : FrontLaw) (p : Program) (v : Contents) (g : Graph) (b : Book) (heap : HoldsHeap p v g b) (contents : IsContents v) (w : Contents) (cleaned : IsCleaned v w) where
  abbrev front : IsFronted p v g b heap.1.0
  front = fronted_heap law p v g b heap contents

  carded : AreCarded p (λ c. slice_index w.cards c) g b
  carded = record {
    dirty = λ n i m l stands old within strong ref some young.
        let d : n ≢ 0 = λ z. absurd (omega arith) in
        let x = b.address n + 2 + i in
        let place = front.old_inside n d stands old in
        let from = place.0 in
        let to = place.1 in
        let nursery = front.nursery_is in
        let blocks = front.blocks_is in
        let before = heap.1.2.cards.dirty n i m l stands old within strong ref some young in
        let layout : card_of v.layout x ≡ card_of (layout_of p) x = ap (λ k. card_of k x) heap.0.layout in
        let held : word v x ≡ byte_at (b.address m) = heap.1.1.laid.fields.holds n i stands within ∙ ap (word_of b.address) ref in
        let target = known (g.field n i) m ref (heap.1.1.laid.fields.known n i stands within) in
        let lies = front.young_inside m (λ z. absurd (omega arith)) target young in
        let low = lies.0 in
        let high = lies.1 in
        let seed = seeded p v g b heap.0 heap.1.0 heap.1.1 front x
        (record { name = n; field = i; some = d; stands = stands; old = old; within = within; strong = strong; at = refl })
        (b.address m, held, (low, omega arith)) in
        ap (λ c. slice_index w.cards c) (sym layout)
        ∙ (cleaned.dirty (fronts b.address heap.1.0) front.sound (card_of v.layout x)
        (omega arith)).1
        (ap (λ c. slice_index v.cards c) layout ∙ before, (x, seed, refl));
  }
    where
      known : (e : Entry) (m : ℕ) → e ≡ Ref m → IsKnownEntry (word v) g b e → b.stands m ≡ true
      known e m is k = (subst (IsKnownEntry (word v) g b) is k).0

  pub held_clean : HoldsHeap p w g b
  held_clean = subst (λ (z : Contents). HoldsHeap p z g b) (sym cleaned.still) (
    record {
      layout = heap.0.layout;
      shapes = heap.0.shapes;
      fragments = heap.0.fragments;
      same = heap.0.same;
      next = heap.0.next;
      limit = heap.0.limit;
      fits = heap.0.fits;
      pages = heap.0.pages;
      head = heap.0.head;
      made = heap.0.made;
      registered = heap.0.registered;
      pairs = heap.0.pairs;
    },
    (
      heap.1.0,
      heap.1.1,
      record {
        blocks = heap.1.2.blocks;
        settled = heap.1.2.settled;
        inhabited = heap.1.2.inhabited;
        owes = heap.1.2.owes;
        cards = carded;
      },
    ),
  )

pub paused_clean : FrontLaw → (p : Program) (v : Contents) (g : Graph) (b : Book) (ambiguous : List ℕ) (report : MinorReport) → HasPaused p g b ambiguous v report →
    IsContents v → (w : Contents) → IsCleaned v w →
    HasPaused p g b ambiguous w report
paused_clean law p v g b ambiguous report paused contents w cleaned = record {
  book = paused.book;
  pause = paused.pause;
  copies = paused.copies;
  heap = held_clean law p v g paused.book paused.heap contents w cleaned;
}
