-- A pause as a whole: from its parts to the law.
use Rattle.std.proofs.Common.{◌≡◌, ℕ, ◌≤◌, List, ◌++◌, map, length, slice_index, Option, inl, inr, refl, sym, ap, ◌∙◌, subst, arith}
use Rattle.sg_words.specs.Address.{word_at}
use Rattle.sg_words.specs.Pieces.{fronts_of, ends_of}
use Rattle.sg_words.specs.declared.pieces.Move.{Move}
use Rattle.sg_program.specs.declared.program.Program.{Program}
use Rattle.sg_graph.specs.Graph.{Graph}
use Rattle.sg_graph.specs.declared.reports.MinorReport.{MinorReport}
use Rattle.sg_graph.specs.Book.{Book}
use Rattle.sg_graph.specs.Invariants.{IsPlain}
use Rattle.sg_space.specs.declared.objects.Object.{Object}
use Rattle.sg_space.specs.Space.{Contents, IsContents}
use Rattle.sg_space.specs.Standing.{word, IsSoundBy, TellsYoung}
use Rattle.sg_space.specs.Changes.{IsStill, contents_still}
use Rattle.sg_cards.specs.declared.found.Seed.{Seed}
use Rattle.sg_round.specs.Area.{Area}
use Rattle.sg_copy.specs.Copying.{CanCopy, HasCopiedTo}
use Rattle.sg_pins.specs.Pins.{ArePinned}
use Rattle.sg_nursery.specs.Parts.{HasTagged, AreRounded, AreStaying, AreKept, AreCleaned, ArePlain}
use Rattle.sg_nursery.specs.Pieces.{ArePieces}
use Rattle.sg_heap.specs.Fronts.{fronts, IsFronted}
use Rattle.sg_heap.specs.Holding.{HoldsHeap, OwesNothing}
use Rattle.sg_heap.specs.Laws.{FrontLaw}
use Rattle.sg_minor.specs.Joined.{ArePins, AreFound, slots_from, HasSwept, HasBlocksOf, IsBegun, IsEnded, JoinLaw}
use Rattle.sg_minor.specs.Law.{AreTold, IsRefitted, HasPaused, PauseLaw}
use Rattle.sg_minor.specs.Laws.{ArePinnedIn}
use Rattle.sg_minor.specs.Parts.{HasTraced, HasFinished}
use Rattle.sg_minor.proofs.Sown.{fronted_heap}
use Rattle.sg_minor.proofs.Pinned.{are_pins, are_plain}
use Rattle.sg_minor.proofs.OldNames.{words_in_order}
use Rattle.sg_minor.proofs.Joins.{area_before, begins, items, image_for, homes}
use Rattle.sg_minor.proofs.Rounded.{told_rounded, told_staying, has_swept, told_pins, told_moves, told_fails, have_words}

-- what is pinned among the objects that a walk told
pub pins_told : (s : Contents) (told seen : List Object) (ambiguous pins : List ℕ) → seen ≡ told →
    ((owner : ℕ → Option ℕ) → IsSoundBy s owner → TellsYoung s owner told) →
    ((t : Contents) (owner : ℕ → Option ℕ) → IsSoundBy t owner → TellsYoung t owner seen → ArePinned t.layout owner ambiguous pins) → ArePinnedIn s ambiguous
    pins
pins_told s told seen ambiguous pins e tells pinned owner sound = pinned s owner sound (subst (TellsYoung s owner) (sym e) (tells owner sound))

module _ (law : FrontLaw) (p : Program) (s : Contents) (g : Graph) (b : Book) (heap : HoldsHeap p s g b) (contents : IsContents s) (ambiguous bytes : List ℕ)
    (pinned : ArePinnedIn s ambiguous bytes) where
  abbrev front : IsFronted p s g b heap.1.0
  front = fronted_heap law p s g b heap contents

  pins_of_heap : ArePinned s.layout (fronts b.address heap.1.0) ambiguous bytes
  pins_of_heap = pinned (fronts b.address heap.1.0) (front.sound)

  named_pins : ArePins g b ambiguous (map word_at bytes)
  named_pins = are_pins p s g b heap.1.0 front ambiguous bytes pins_of_heap

  pub plain_pins : ArePlain s bytes
  plain_pins = are_plain p s g b heap.1.0 front ambiguous bytes pins_of_heap

  module _ (owes : OwesNothing p b) (found : List Seed) (seeds : AreFound s found) (tagged : Contents) (still : IsStill s tagged)
      (tags : HasTagged (word s) (map word_at bytes) (word tagged)) where
    abbrev begun : IsBegun p s g b ambiguous (map word_at bytes) found tagged
    begun = record {
      heap = heap;
      owes = owes;
      contents = contents;
      pinned = named_pins;
      in_order = words_in_order bytes pins_of_heap.in_order plain_pins.whole;
      still = still;
      tags = tags;
      seeds = seeds;
    }

    pub can_copy : JoinLaw → CanCopy tagged (slots_from s found) (map word_at bytes)
    can_copy join = join.opens p s g b ambiguous (map word_at bytes) found tagged begun

    module _ (told : List Object) (tells : (owner : ℕ → Option ℕ) → IsSoundBy s owner → TellsYoung s owner told)
        (round : Contents) (moves : List Move) (fails : List ℕ) (copied : HasCopiedTo tagged (slots_from s found) (map word_at bytes) round moves fails) where
      told_of_heap : TellsYoung s (fronts b.address heap.1.0) told
      told_of_heap = tells (fronts b.address heap.1.0) (front.sound)

      round_layout : round.layout ≡ s.layout
      round_layout = ap (λ (z : Contents). z.layout) copied.still.same ∙ ap (λ (z : Contents). z.layout) still.0

      pub is_rounded : AreRounded round.layout (word round) told
      is_rounded = subst (λ l. AreRounded l (word round) told) (sym round_layout)
          (told_rounded p s g b heap.1.0 heap.1.1 contents front ambiguous (map word_at bytes) named_pins tagged tags
          (items p s g b ambiguous (map word_at bytes) found tagged begun front) (begins p s g b ambiguous (map word_at bytes) found tagged begun front)
          copied.went copied.stayed copied.m (word round) (image_for p s g b ambiguous (map word_at bytes) found tagged begun front round moves fails copied)
          (homes p s g b ambiguous (map word_at bytes) found tagged begun front round moves fails copied)
          told told_of_heap)

      pub is_staying : AreStaying (word round) told bytes
      is_staying = told_staying p s g b heap.1.0 heap.1.1 contents front ambiguous (map word_at bytes) named_pins tagged tags
          (items p s g b ambiguous (map word_at bytes) found tagged begun front) (begins p s g b ambiguous (map word_at bytes) found tagged begun front)
          copied.went copied.stayed copied.m (word round) (image_for p s g b ambiguous (map word_at bytes) found tagged begun front round moves fails copied)
          (homes p s g b ambiguous (map word_at bytes) found tagged begun front round moves fails copied)
          told told_of_heap bytes pins_of_heap.in_order plain_pins.whole refl

      card_bit : (c : ℕ) → slice_index round.cards c ≤ 1
      card_bit c = let before = (contents_still s tagged still contents).bits c in elim (copied.cards.others c) [
        | inl e ↦ omega arith
        | inr q ↦ let e = q.0 in omega arith
      ]

      pub round_contents : IsContents round
      round_contents =
          let before = contents_still s tagged still contents in
          subst IsContents (sym copied.still.same) (record {
            layout = before.layout;
            shapes = before.shapes;
            words = copied.still.words ∙ before.words;
            fragments = before.fragments;
            few = before.few;
            blocks = copied.still.blocks ∙ before.blocks;
            used = copied.still.used ∙ before.used;
            marks = before.marks;
            cards = copied.still.cards ∙ before.cards;
            bits = card_bit;
            pages = before.pages;
            made = before.made;
            registered = before.registered;
          })

      module _ (final : Contents) (report : MinorReport) (f : HasFinished round told bytes final report) where
        kept_here : AreKept s.layout (word round) told bytes f.standing report.moves report.fails
        kept_here = subst (λ l. AreKept l (word round) told bytes f.standing report.moves report.fails) round_layout f.kept

        swept_layout : f.swept.layout ≡ s.layout
        swept_layout = ap (λ (z : Contents). z.layout) f.still.0 ∙ round_layout

        words_is : final.words ≡ f.swept.words
        words_is = ap (λ (z : Contents). z.words) f.fitted

        blocks_of : HasBlocksOf round final
        blocks_of = record {
          blocks = ap (λ (z : Contents). z.blocks) f.fitted ∙ ap (λ (z : Contents). z.blocks) f.still.0;
          used = ap (λ (z : Contents). z.used) f.fitted ∙ ap (λ (z : Contents). z.used) f.still.0;
          cards = ap (λ (z : Contents). z.cards) f.fitted ∙ ap (λ (z : Contents). z.cards) f.still.0;
        }

        ended : JoinLaw → IsEnded p s g b ambiguous (map word_at bytes) copied.went copied.stayed copied.m final
        ended join = join.closes p s g b ambiguous (map word_at bytes) found tagged round moves fails begun copied final blocks_of
            (subst (λ (a : Area). HasSwept a (word s) (map word_at bytes ++ copied.stayed) (word round) (word final))
            (sym (area_before p s g b ambiguous (map word_at bytes) found tagged begun front))
            (has_swept p s g b heap.1.0 heap.1.1 contents front ambiguous (map word_at bytes) named_pins tagged tags
            (items p s g b ambiguous (map word_at bytes) found tagged begun front) (begins p s g b ambiguous (map word_at bytes) found tagged begun front)
            copied.went copied.stayed copied.m (word round) (image_for p s g b ambiguous (map word_at bytes) found tagged begun front round moves fails copied)
            (homes p s g b ambiguous (map word_at bytes) found tagged begun front round moves fails copied)
            told told_of_heap (word final) (subst (λ l. AreCleaned told (word round) (λ x. slice_index l x)) (sym words_is) f.cleaned)))

        after : final ≡ record s {
          words = f.swept.words;
          next = fronts_of report.pieces;
          ends = ends_of report.pieces;
          blocks = round.blocks;
          used =
              round.used;
          cards = round.cards;
        }
        after =
            f.fitted ∙ ap (λ (z : Contents). record z { next = fronts_of report.pieces; ends = ends_of report.pieces }) f.still.0
            ∙ ap (λ (z : Contents). record z { words = f.swept.words; next = fronts_of report.pieces; ends = ends_of report.pieces }) copied.still.same
            ∙ ap (λ (z : Contents). record z {
              words = f.swept.words;
              next = fronts_of report.pieces;
              ends = ends_of report.pieces;
              blocks = round.blocks;
              used = round.used;
              cards = round.cards;
            }) still.0

        pub refitted : IsRefitted s final report.pieces
        refitted = record {
          same = after ∙ ap (λ (z : Contents). record s {
            words = z.words;
            next = fronts_of report.pieces;
            ends = ends_of report.pieces;
            blocks = z.blocks;
            used = z.used;
            cards = z.cards;
          }) (sym after);
          words = ap (λ (l : List ℕ). length l) words_is ∙ f.still.1 ∙ copied.still.words ∙ still.1;
        }

        pub is_paused : JoinLaw → PauseLaw → IsPlain p g → HasPaused p g b ambiguous final report
        is_paused join pause plain =
            pause p s g b ambiguous (map word_at bytes) copied.went copied.stayed copied.m final f.standing report heap owes plain contents named_pins (ended join)
            (record {
              pins = subst (λ (z : List ℕ). AreTold z (map word_at bytes)) (sym f.pins_are)
                  (told_pins p s g b heap.1.0 heap.1.1 contents front ambiguous (map word_at bytes) named_pins tagged tags
                  (items p s g b ambiguous (map word_at bytes) found tagged begun front) (begins p s g b ambiguous (map word_at bytes) found tagged begun front)
                  copied.went copied.stayed copied.m (word round) (image_for p s g b ambiguous (map word_at bytes) found tagged begun front round moves fails copied)
                  (homes p s g b ambiguous (map word_at bytes) found tagged begun front round moves fails copied)
                  told told_of_heap bytes pins_of_heap.in_order plain_pins.whole refl);
              moves = told_moves p s g b heap.1.0 heap.1.1 contents front ambiguous (map word_at bytes) named_pins tagged tags
                  (items p s g b ambiguous (map word_at bytes) found tagged begun front) (begins p s g b ambiguous (map word_at bytes) found tagged begun front)
                  copied.went copied.stayed copied.m (word round) (image_for p s g b ambiguous (map word_at bytes) found tagged begun front round moves fails copied)
                  (homes p s g b ambiguous (map word_at bytes) found tagged begun front round moves fails copied)
                  told told_of_heap bytes pins_of_heap.in_order plain_pins.whole refl f.standing report.moves report.fails kept_here;
              fails = told_fails p s g b heap.1.0 heap.1.1 contents front ambiguous (map word_at bytes) named_pins tagged tags
                  (items p s g b ambiguous (map word_at bytes) found tagged begun front) (begins p s g b ambiguous (map word_at bytes) found tagged begun front)
                  copied.went copied.stayed copied.m (word round) (image_for p s g b ambiguous (map word_at bytes) found tagged begun front round moves fails copied)
                  (homes p s g b ambiguous (map word_at bytes) found tagged begun front round moves fails copied)
                  told told_of_heap bytes pins_of_heap.in_order plain_pins.whole refl f.standing report.moves report.fails kept_here;
              spares = f.spares;
            })
            (have_words p s g b heap.1.0 heap.1.1 contents front ambiguous (map word_at bytes) named_pins tagged tags
            (items p s g b ambiguous (map word_at bytes) found tagged begun front) (begins p s g b ambiguous (map word_at bytes) found tagged begun front)
            copied.went copied.stayed copied.m (word round) (image_for p s g b ambiguous (map word_at bytes) found tagged begun front round moves fails copied)
            (homes p s g b ambiguous (map word_at bytes) found tagged begun front round moves fails copied)
            told told_of_heap bytes pins_of_heap.in_order plain_pins.whole refl f.standing report.moves report.fails kept_here)
            (subst (λ l. ArePieces l f.standing report.pieces) swept_layout f.tiles) refitted

-- nothing but words, fragments, blocks, occupancies and cards changes
pub same_after : (s final : Contents) (ambiguous pins : List ℕ) (found : List Seed) (told : List Object) (round : Contents) (report : MinorReport) →
    (t : HasTraced s ambiguous found told pins round) → (f : HasFinished round told pins final report) →
    final ≡ record s {
      words = f.swept.words;
      next = fronts_of report.pieces;
      ends = ends_of report.pieces;
      blocks = round.blocks;
      used = round.used;
      cards =
          round.cards;
    }
same_after s final ambiguous pins found told round report t f =
    f.fitted ∙ ap (λ (z : Contents). record z { next = fronts_of report.pieces; ends = ends_of report.pieces }) f.still.0
    ∙ ap (λ (z : Contents). record z { words = f.swept.words; next = fronts_of report.pieces; ends = ends_of report.pieces }) t.copied.still.same
    ∙ ap (λ (z : Contents). record z {
      words = f.swept.words;
      next = fronts_of report.pieces;
      ends = ends_of report.pieces;
      blocks = round.blocks;
      used = round.used;
      cards = round.cards;
    }) t.still.0
