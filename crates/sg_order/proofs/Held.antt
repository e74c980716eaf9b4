-- What is true wherever words hold a graph.
use Rattle.std.proofs.Common.{◌≡◌, ℕ, ◌≤◌, true, sym, refl, subst, ◌∙◌, arith}
use Rattle.sg_words.specs.Blocks.{IsOf}
use Rattle.sg_words.specs.declared.steps.BlockWord.{BlockWord}
use Rattle.sg_words.specs.declared.steps.BlockWord.TheVariants.{Free, Swept, Need, Sweeping}
use Rattle.sg_words.specs.Words.{Words}
use Rattle.sg_program.specs.declared.program.Program.{Program}
use Rattle.sg_graph.specs.Graph.{Graph}
use Rattle.sg_graph.specs.Book.{Book, Old, slot_words, IsInBlock, IsInSlot}
use Rattle.sg_graph.specs.Blocks.{AreBlocks, AreSettled}
use Rattle.sg_graph.specs.Heap.{Owner}
use Rattle.sg_order.specs.Held.{HeldIsSound, HeldWhoever, RunnableMakes}
use Rattle.sg_words.proofs.Blocks.{slot_fits}
use Rattle.sg_order.proofs.Moves.{laid_mutators, plain_mutators}
use Rattle.sg_order.proofs.Makes.{made_known, made_no_pair, made_sized}
use Rattle.sg_order.proofs.Law.{apart_by}

-- a block has slots of one size
one_size_of : (state : BlockWord) (s z : ℕ) → IsOf state s → IsOf state z → s ≡ z
one_size_of Free s z a q = absurd a
one_size_of (Swept y) s z a q = sym a ∙ q
one_size_of (Need y) s z a q = sym a ∙ q
one_size_of (Sweeping y) s z a q = sym a ∙ q

module _ (p : Program) (w : Words) (g : Graph) (b : Book) (owner : ℕ → Owner) (rest : AreSettled p w g b owner) where
  slotted : (n : ℕ) → 1 ≤ n → b.stands n ≡ true → b.section n ≡ Old → (j i : ℕ) × IsInSlot p g b n j (slot_words (g.size n)) i
  slotted n some stands old = let h = rest.blocks.placed n some stands old in let t = h.2 in (
    h.0,
    t.slot,
    record { some = some; stands = stands; old = old; sized = refl; there = h.1; fits = t.fits; at = t.address },
  )

  -- the block in which an old object stands has its size
  has_size : (n j : ℕ) → IsInBlock p b n j → IsOf (w.block j) (slot_words (g.size n))
  has_size n j there =
      let h = rest.blocks.placed n there.some there.stands there.old in
      let t = h.2 in
      let e = t.address in
      let fits = slot_fits (slot_words (g.size n)) t.slot t.fits in
      let above = there.above in
      let below = there.below in
      let same : h.0 ≡ j = omega arith in
      subst (λ c. IsOf (w.block c) (slot_words (g.size n))) same t.of

  one_size : (m n j : ℕ) → IsInBlock p b m j → IsInBlock p b n j → slot_words (g.size m) ≡ slot_words (g.size n)
  one_size m n j q r = one_size_of (w.block j) _ _ (has_size m j q) (has_size n j r)

pub held_is_sound : HeldIsSound
held_is_sound p lay w g b held = record {
  apart = apart_by p lay w g b held.owner (record {
    laid = held.heap.laid;
    blocks = subst (λ m. AreBlocks p m w.block w.used w.word g.size b.stands b.address b.section b.owed held.owner) held.marks held.settled.blocks;
    plain = held.plain;
    number = held.number;
    limits = held.limits;
    words = held.nexts;
    marks = held.marks;
  });
  slotted = slotted p w g b held.owner held.settled;
  one_size = one_size p w g b held.owner held.settled;
}

pub held_whoever : HeldWhoever
held_whoever p lay w g b mutator held = record {
  owner = held.owner;
  heap = record { laid = laid_mutators p w.word g b held.owner mutator held.heap.laid; headed = held.heap.headed };
  settled = record {
    blocks = held.settled.blocks;
    settled = held.settled.settled;
    inhabited = held.settled.inhabited;
    owes = held.settled.owes;
    cards = record { dirty = held.settled.cards.dirty };
  };
  plain = plain_mutators p g mutator held.plain;
  number = held.number;
  limits = held.limits;
  nexts = held.nexts;
  marks = held.marks;
}

pub runnable_makes : RunnableMakes
runnable_makes p s making run = record { known = made_known p s making run; sized = made_sized p s making run; single = made_no_pair p s making run }
