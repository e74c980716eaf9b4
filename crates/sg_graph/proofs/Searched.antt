-- As an epoch ends, the searches left out no block.
use Rattle.std.proofs.Common.{ℕ, ◌+◌, ◌<◌, ◌≤◌, List, sym, subst}
use Rattle.sg_words.specs.Blocks.{IsSizeClass}
use Rattle.sg_words.proofs.Blocks.{slot_size-class}
use Rattle.sg_program.specs.declared.program.Program.{Program}
use Rattle.sg_program.specs.Scripts.{words_for}
use Rattle.sg_graph.specs.declared.reports.EpochReport.{EpochReport}
use Rattle.sg_graph.specs.Graph.{Graph}
use Rattle.sg_graph.specs.Book.{Book, block_at, slot_words, IsInSlot, IsOpenSlot, IsClosed}
use Rattle.sg_graph.specs.Epoch.{Said, left, IsNewOld, AsksSlot, IsEpoch}
use Rattle.sg_graph.specs.Laws.{HasNoOpen, SearchesAll}
use Rattle.sg_graph.proofs.OneSearch.{shut_open}

-- who leaves changes no object
module _ (p : Program) (g : Graph) (b : Book) (z : ℕ) where
  slot_before : (name j i : ℕ) → IsInSlot p (left g) b name j z i → IsInSlot p g b name j z i
  slot_before name j i o =
      record { some = o.some; stands = o.stands; old = o.old; sized = o.sized; there = o.there; fits = o.fits; at = o.at }

  open_before : (j i : ℕ) → IsOpenSlot p (left g) b j z i → IsOpenSlot p g b j z i
  open_before j i o = record {
    there = o.there;
    fits = o.fits;
    size = o.size;
    empty = λ name x w from to. o.empty name x (record { some = w.some; stands = w.stands; above = w.above; below = w.below }) from to;
    lowest = λ k l. let h = o.lowest k l in (h.0, slot_before h.0 j k h.1);
  }

  closed : (start : Book) (j : ℕ) → IsSizeClass z → IsClosed p start.owed g b j z → HasNoOpen p start (left g) b j z
  closed start j class k =
      record { swept = k.swept; none = λ e i o. shut_open p g b j z class i (k.shut e) (open_before j i o) }

module _ (p : Program) (e : ℕ) (g : Graph) (b : Book) (order : List Said) (swept : List ℕ) (r : EpochReport) (h : Graph) (c : Book)
    (x : IsEpoch p e g b order swept r h c) where
  asked : (z j : ℕ) → IsSizeClass z → AsksSlot r.parts z → j < p.config.blocks → HasNoOpen p b h c j z
  asked z j class asks l = subst (λ k. HasNoOpen p b k c j z) (sym x.after) (closed p x.last c z b j class (x.searched z j asks l))

  below : (n j : ℕ) → IsNewOld g.count c n → block_at p j + 256 ≤ c.address n → HasNoOpen p b h c j (slot_words (h.size n))
  below n j o l =
      subst (λ (k : Graph). HasNoOpen p b k c j (slot_words (k.size n))) (sym x.after)
      (closed p x.last c (slot_words (x.last.size n)) b j (slot_size-class (words_for (x.last.size n))) (x.lowest n j o l))

pub searches_all : SearchesAll
searches_all = record { asked = asked; below = below }
