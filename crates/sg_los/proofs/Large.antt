-- The law of large objects: free runs, taking a run for an object, and freeing an object's run.
use Rattle.std.proofs.Common.{◌≡◌, ◌≢◌, ℕ, ◌+◌, ◌/◌, ◌<◌, false, Option, Some, ap, arith, slice_get}
use Rattle.sg_words.specs.Address.{byte_at, word_at}
use Rattle.sg_desc.specs.declared.shapes.Shape.{Shape}
use Rattle.sg_desc.specs.Shapes.{is_vector}
use Rattle.sg_space.specs.Space.{Contents}
use Rattle.sg_space.specs.Laws.{PlacingLaw}
use Rattle.sg_space.specs.Standing.{word, IsInPages, IsSoundBy, RefersSoundly, AreRows}
use Rattle.sg_los.specs.Pages.{TakesRun, FreesRun}
use Rattle.sg_los.specs.Laws.{without, HasFreed, LargeLaw}
use Rattle.sg_los.proofs.Standing.{in_pages, run_apart, stands_at}
use Rattle.sg_los.proofs.Freed.{others_kept, freed_is_sound, refers_kept, rows_kept}
use Rattle.sg_los.proofs.Taken.{IsTakenFor, taken_is_sound}

-- the run that was taken for an object
taken_for : (s t : Contents) (a class fields : ℕ) (shape : Shape) → slice_get s.shapes class ≡ Some shape →
    (is_vector shape.kind ≡ false → fields ≡ shape.fields) →
    64 < fields + 2 → (takes : TakesRun s ((fields + 2 + 127) / 128) a t) → IsTakenFor s takes.first (word_at a) class fields t
taken_for s t a class fields shape shape_is size large takes = let address = takes.address in record {
  shape = shape;
  shape_is = shape_is;
  size = size;
  large = large;
  front = omega (arith, address);
  run = takes.lowest.run;
  sets = takes.marked;
}

-- the object that was freed
module _ (law : PlacingLaw) (s t : Contents) (owner : ℕ → Option ℕ) (h : ℕ) (is : HasFreed s t owner h) where
  pages_of : IsInPages s h
  pages_of = in_pages law s owner is.sound h is.stands is.large

  run_is : FreesRun s pages_of.page t
  run_is = is.frees.frees pages_of.page (ap byte_at pages_of.front)

  freed : IsSoundBy t (without owner h)
  freed = freed_is_sound law s is.contents owner is.sound h is.stands is.large pages_of t run_is

  kept : (x g : ℕ) → owner x ≡ Some g → g ≢ h → word t x ≡ word s x
  kept = others_kept law s is.contents owner is.sound h is.stands is.large pages_of t run_is

  refers : RefersSoundly s (without owner h) → RefersSoundly t (without owner h)
  refers = refers_kept law s is.contents owner is.sound h is.stands is.large pages_of t run_is

  rows : AreRows s → AreRows t
  rows = rows_kept law s is.contents owner is.sound h is.stands is.large pages_of t run_is

pub large : PlacingLaw → LargeLaw
large law = record {
  apart = λ s owner sound j n x run from to. run_apart law s owner sound j n x run from to;
  stands = λ s contents owner sound h e above. stands_at law s owner sound contents h e (in_pages law s owner sound h e above);
  freed = λ s t owner h is. freed law s t owner h is;
  kept = λ s t owner h is. kept law s t owner h is;
  refers = λ s t owner h is. refers law s t owner h is;
  rows = λ s t owner h is. rows law s t owner h is;
  taken = λ s t owner sound a class fields shape shape_is size large takes.
      taken_is_sound law s owner sound takes.first (word_at a) class fields t (taken_for s t a class fields shape shape_is size large takes);
}
