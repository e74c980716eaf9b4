-- The law of a major pause.
use Rattle.std.proofs.Common.{◌≡◌, ℕ, ◌<◌, List, sym, ap, ◌∙◌, subst, arith}
use Rattle.std.specs.Int.{bit_at}
use Rattle.sg_words.specs.Blocks.{IsOwing}
use Rattle.sg_words.specs.Pieces.{fronts_of, ends_of}
use Rattle.sg_words.specs.declared.steps.BlockWord.{BlockWord}
use Rattle.sg_words.specs.declared.layout.Layout.{Layout}
use Rattle.sg_program.specs.declared.program.Program.{Program}
use Rattle.sg_graph.specs.declared.reports.MajorReport.{MajorReport}
use Rattle.sg_graph.specs.Graph.{Graph}
use Rattle.sg_graph.specs.Book.{Book}
use Rattle.sg_graph.specs.Invariants.{IsPlain}
use Rattle.sg_graph.specs.Laws.{QuietPause}
use Rattle.sg_space.specs.declared.objects.Object.{Object}
use Rattle.sg_space.specs.Space.{Contents, IsContents}
use Rattle.sg_space.specs.Standing.{block_in, used_in, marks_in}
use Rattle.sg_heap.specs.Holding.{HoldsHeap, OwesNothing}
use Rattle.sg_heap.specs.Fronts.{fronts}
use Rattle.sg_heap.specs.Laws.{FrontLaw}
use Rattle.sg_nursery.specs.Pieces.{AreStanding}
use Rattle.sg_major.specs.Parts.{HasTraced, HasFinished}
use Rattle.sg_major.specs.Law.{HasCollected, MajorLaw}
use Rattle.sg_major.proofs.Unmarked.{heap_unmarked, not_owing, contents_after, fronted, can_mark}
use Rattle.sg_major.proofs.Collected.{Marked}
use Rattle.sg_major.proofs.Ends.{collected}
use Rattle.sg_major.proofs.Owing.{taken_used}
use Rattle.sg_space.specs.Laws.{PlacingLaw}
use Rattle.sg_words.proofs.Blocks.{class_bounds}
use Rattle.sg_major.proofs.Told.{told_stand}

module _ (quiet : QuietPause) (front : FrontLaw) (p : Program) (s : Contents) (g : Graph) (b : Book) (heap : HoldsHeap p s g b) (plain : IsPlain p g) (nothing : OwesNothing p b)
    (contents : IsContents s) (ambiguous : List ℕ) (told : List Object) (m : Contents) (traced : HasTraced s ambiguous told m) where
  pub is_marked : Marked
  is_marked =
      let h = heap_unmarked p s g b heap nothing traced.before traced.unmarked in
      let t = contents_after front p s g b heap nothing contents traced.before traced.unmarked in
      let f = fronted front p s g b heap nothing contents traced.before traced.unmarked in
      let are = traced.are_roots (fronts b.address h.1.0) f.sound in
      record {
        p = p;
        g = g;
        b = b;
        t = traced.before;
        owner = h.1.0;
        ambiguous = ambiguous;
        roots = traced.roots;
        m = m;
        told = told;
        quiet = quiet;
        plain = plain;
        contents = t;
        is = h.0;
        heap = h.1.1;
        settled = h.1.2;
        fronted = f;
        tells = traced.tells (fronts b.address h.1.0) f.sound;
        are = are;
        marked = traced.marks (fronts b.address h.1.0) (can_mark traced.before (fronts b.address h.1.0) ambiguous traced.roots t f.sound f.refers traced.unmarked.none are);
      }

  pub none_owed : (j z : ℕ) → j < p.config.blocks → IsOwing (block_in traced.before j) z → ⊥
  none_owed = not_owing p traced.before g b (heap_unmarked p s g b heap nothing traced.before traced.unmarked) nothing

  -- what the end of the pause asks: the objects on the list stand apart, and only occupied slots are marked
  pub told_apart : AreStanding m.layout told
  unfolding is_marked
  told_apart =
      let c = is_marked in
      subst (λ (l : Layout). AreStanding l told) (sym (ap (λ (z : Contents). z.layout) c.marked.has.same)) (told_stand c.t (fronts c.b.address c.owner) c.fronted.sound told c.tells)

  pub marks_occupied : PlacingLaw → (j i : ℕ) → bit_at (marks_in m j) i ≡ 1 → bit_at (used_in m j) i ≡ 1
  unfolding is_marked
  marks_occupied placing j i e =
      let c = is_marked in
      let q = c.marked.has.only j i e in
      let there = q.3.there in
      let front = q.3.front in
      let size = (class_bounds q.1 q.3.class).0 in
      let blocks = c.fronted.blocks_is in
      let taken = (placing.in_slot c.t (fronts c.b.address c.owner) c.fronted.sound j q.1 i q.0 q.0 q.3.there q.3.sized q.3.fits (omega arith) (omega arith) q.2).1 in
      ap (λ (z : Contents). bit_at (used_in z j) i) c.marked.has.same
      ∙ sym (taken_used (block_in c.t j) q.1 (used_in c.t j) (marks_in c.t j) i q.3.sized (none_owed j q.1 (omega arith))) ∙ taken

  -- a part that no step of the pause changes
  pub keeps_part : {A : Type 0} (part : Contents → A) (v : Contents) (report : MajorReport) → HasFinished m told v report →
      ((z : Contents) (words next ends marks : List ℕ) (blocks : List BlockWord) → part (record z { words = words; next = next; ends = ends; marks = marks; blocks = blocks }) ≡ part z) →
      part v ≡ part s
  unfolding is_marked
  keeps_part part v report done same =
      let w = done.swept in
      let t = traced.before in
      ap part done.owes.same
      ∙ same w w.words (fronts_of report.pieces) (ends_of report.pieces) w.marks v.blocks
      ∙ ap part done.still.0
      ∙ same m w.words m.next m.ends m.marks m.blocks
      ∙ ap part is_marked.marked.has.same
      ∙ same t m.words t.next t.ends m.marks t.blocks
      ∙ ap part traced.unmarked.same
      ∙ same s s.words s.next s.ends t.marks s.blocks

  pub collects : (v : Contents) (report : MajorReport) → HasFinished m told v report → HasCollected p g b ambiguous v report
  unfolding is_marked
  collects v report done = collected is_marked none_owed v report done

pub major_law : QuietPause → FrontLaw → MajorLaw
major_law quiet front p s g b ambiguous told m v report heap plain nothing contents traced done =
    collects quiet front p s g b heap plain nothing contents ambiguous told m traced v report done
