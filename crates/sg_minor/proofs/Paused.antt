-- The law of a minor pause.
use Rattle.std.proofs.Common.{◌≡◌, ℕ, inl, inr, List, ◌++◌, map, length, slice_index, sym, refl, ap, ◌∙◌, subst, arith}
use Rattle.std.specs.Int.{bit_at}
use Rattle.std.proofs.lemmas.Nat.Bits.{bit_at-zero}
use Rattle.sg_words.specs.declared.layout.Layout.{Layout}
use Rattle.sg_words.proofs.Fragments.{same_count}
use Rattle.sg_words.proofs.Members.{in-right}
use Rattle.sg_program.specs.declared.program.Program.{Program}
use Rattle.sg_graph.specs.declared.reports.MinorReport.{MinorReport}
use Rattle.sg_graph.specs.Graph.{Graph}
use Rattle.sg_graph.specs.Book.{Book}
use Rattle.sg_graph.specs.Copies.{IsMovable, leads_of, items_of}
use Rattle.sg_graph.specs.Laws.{QuietPause}
use Rattle.sg_graph.specs.Invariants.{IsPlain}
use Rattle.sg_space.specs.declared.objects.Object.{Object}
use Rattle.sg_space.specs.Space.{Contents, IsContents, words_of}
use Rattle.sg_space.specs.Standing.{word, block_in, used_in, marks_in}
use Rattle.sg_round.specs.Area.{Area}
use Rattle.sg_round.specs.Order.{Fits}
use Rattle.sg_copy.specs.Copying.{area_of}
use Rattle.sg_nursery.specs.Pieces.{ArePieces}
use Rattle.sg_heap.specs.Fronts.{IsFronted}
use Rattle.sg_heap.specs.Holding.{IsSpaceOf, HoldsHeap, OwesNothing}
use Rattle.sg_heap.specs.Laws.{FrontLaw}
use Rattle.sg_minor.specs.Joined.{ArePins, IsEnded}
use Rattle.sg_minor.specs.Law.{IsReportOf, HaveWords, IsRefitted, HasPaused, PauseLaw}
use Rattle.sg_minor.proofs.Areas.{area_for, area_is}
use Rattle.sg_minor.proofs.Bounds.{area-of-space}
use Rattle.sg_minor.proofs.After.{Ended, booked, owner3, tile-of}
use Rattle.sg_minor.proofs.Copied.{IsCopiedBy, found-distinct, in-order, unfound-still}
use Rattle.sg_minor.proofs.Holds.{held}
use Rattle.sg_minor.proofs.Settled.{AreMarked, is-settled}
use Rattle.sg_minor.proofs.Sown.{fronted_heap}
use Rattle.sg_minor.proofs.Told.{minor}
use Rattle.sg_minor.proofs.Zoned.{blocks_by, clear_heap}

module _ (p : Program) (s : Contents) (g : Graph) (b : Book) (ambiguous pins moves fails : List ℕ) (m : ℕ → ℕ) (v : Contents) (standing : List Object)
    (report : MinorReport)
    (front_law : FrontLaw) (law : QuietPause) (heap : HoldsHeap p s g b) (owes : OwesNothing p b) (plain : IsPlain p g) (contents : IsContents s) (pinned : ArePins g b ambiguous pins)
    (ended : IsEnded p s g b ambiguous pins moves fails m v)
    (words : HaveWords standing (word s) (pins ++ fails)) (tiles : ArePieces s.layout standing report.pieces) (fitted : IsRefitted s v report.pieces) where
  abbrev front : IsFronted p s g b heap.1.0
  front = fronted_heap front_law p s g b heap contents

  abbrev the_pause : Ended
  the_pause = record {
    p = p;
    area = area_of s;
    w = word s;
    v = word v;
    g = g;
    b = b;
    ambiguous = ambiguous;
    stays = pins ++ fails;
    moves = moves;
    m = m;
    owner = heap.1.0;
    standing = standing;
    pieces = report.pieces;
    law = law;
    plain = plain;
    tie = area-of-space p s b heap.0;
    heap = heap.1.1;
    traced = ended.traced;
    picture = ended.picture;
    words = words;
    tiles = subst (λ (layout : Layout). ArePieces layout standing report.pieces) heap.0.layout tiles;
  }

  parts_for : Fits (area_for p) (word s) m (block_in s) (used_in s) moves fails (map b.address ended.order.found) (block_in v) (used_in v)
  parts_for = subst (λ (a : Area). Fits a (word s) m (block_in s) (used_in s) moves fails (map b.address ended.order.found) (block_in v) (used_in v))
      (area_is p s b heap.0) ended.order.parts

  copied-by : IsCopiedBy the_pause b ended.order.found (block_in v) (used_in v)
  copied-by = in-order the_pause (block_in v) (used_in v) (block_in s) (used_in s) fails ended.order.found ended.order.each parts_for
      (blocks_by p s g b heap.0 heap.1.0 heap.1.1 front heap.1.2 owes)
      (found-distinct (IsMovable g b ambiguous) (leads_of p g (items_of p g ended.order.old ended.order.pinned)) ended.order.found ended.order.searched.each)
      (λ a i. in-right a pins fails i)

  marks-same : (c : ℕ) → marks_in v c ≡ marks_in s c
  marks-same c = ap (λ (z : Contents). marks_in z c) fitted.same

  -- a block that was opened has no mark, and in every other one no bit fell
  marked-blocks : AreMarked (p.config.blocks) (words_of v)
  marked-blocks = record {
    unmarked = λ c there e. marks-same c ∙ elim (ended.risen.opened c) [
      | inl same ↦ (heap.1.2.blocks.each c there).unmarked (sym same ∙ e)
      | inr free ↦ (heap.1.2.blocks.each c there).unmarked free
    ];
    within = λ c z i there e set.
        let before : bit_at (marks_in s c) i ≡ 1 = ap (λ (m : ℕ). bit_at m i) (sym (marks-same c)) ∙ set in
        elim (ended.risen.opened c) [
          | inl same ↦ ended.risen.risen c i ((heap.1.2.blocks.each c there).within z (sym same ∙ e) i before)
          | inr free ↦ absurd (let none = ap (λ (m : ℕ). bit_at m i) ((heap.1.2.blocks.each c there).unmarked free) ∙ bit_at-zero i in omega arith)
        ];
  }

  space-of : IsSpaceOf p v (booked the_pause)
  space-of =
      let next = ap (λ (z : Contents). z.next) fitted.same in
      let ends = ap (λ (z : Contents). z.ends) fitted.same in
      record {
        layout = ap (λ (z : Contents). z.layout) fitted.same ∙ heap.0.layout;
        shapes = ap (λ (z : Contents). z.shapes) fitted.same ∙ heap.0.shapes;
        fragments = same_count report.pieces ∙ ap (λ (l : List ℕ). length l) (sym ends);
        same = ap (λ (l : List ℕ). length l) next ∙ same_count report.pieces ∙ ap (λ (l : List ℕ). length l) (sym ends);
        next = λ f l. ap (λ (k : List ℕ). slice_index k f) next ∙ (tile-of the_pause f l).front_at;
        limit = λ f l. ap (λ (k : List ℕ). slice_index k f) ends ∙ (tile-of the_pause f l).end_at;
        fits = λ c z i there state set. (copied-by.1.filled c z i there state set).1.fits;
        pages = λ j. ap (λ (z : Contents). slice_index z.pages j) fitted.same ∙ heap.0.pages j;
        head = ap (λ (z : Contents). z.head) fitted.same ∙ heap.0.head;
        made = ap (λ (z : Contents). z.made) fitted.same ∙ heap.0.made;
        registered = ap (λ (z : Contents). z.registered) fitted.same ∙ heap.0.registered;
        pairs = ap (λ (z : Contents). z.pairs) fitted.same ∙ heap.0.pairs;
      }

  paused : IsReportOf report pins moves fails m → HasPaused p g b ambiguous v report
  paused told = record {
    book = booked the_pause;
    pause = minor the_pause pins fails refl pinned ended.failed (block_in v) (used_in v) copied-by.1 ended.full report told refl;
    heap = (
      space-of,
      (
        owner3 the_pause,
        held the_pause,
        is-settled the_pause (words_of v) (λ x. refl) copied-by.1 (clear_heap p s g b heap.0 heap.1.0 heap.1.1 front heap.1.2 owes) marked-blocks ended.carded owes,
      ),
    );
    copies = record {
      old = ended.order.old;
      pinned = ended.order.pinned;
      found = ended.order.found;
      old_are = ended.order.old_are;
      pinned_are = ended.order.pinned_are;
      searched = ended.order.searched;
      copied = copied-by.0;
      others = unfound-still the_pause (block_in v) (used_in v) (block_in s) (used_in s) fails ended.order.found ended.order.each parts_for;
    };
  }

pub pause_law : FrontLaw → QuietPause → PauseLaw
pause_law front law p s g b ambiguous pins moves fails m v standing report heap owes plain contents pinned ended told words tiles fitted =
    paused p s g b ambiguous pins moves fails m v standing report front law heap owes plain contents pinned ended words tiles fitted told
