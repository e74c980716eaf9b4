-- The card's words below this slot were looked at.
use Rattle.std.proofs.Common.{◌≡◌, ◌/◌, length}
use Rattle.sg_words.specs.Blocks.{slot_base}
use Rattle.sg_space.specs.Space.{Contents}
use Rattle.sg_cards.specs.Scanned.{IsScannedTo, AreSoundWords, IsMaskOf, card_base}
use Rattle.sg_cards.proofs.scan.scan_slots.Given as goal

abbrev pub invariant-loop-slot : goal.invariant-loop-slot
invariant-loop-slot g l = record {
  room : length l.found ≡ 64;
  scanned : (s : Contents) → AreSoundWords l.layout l.shapes (g.W.Words.count l.words) (g.W.Words.word_of l.words) s → IsMaskOf s l.card l.size l.mask →
      IsScannedTo s l.card l.fn.found (card_base l.layout l.card) → IsScannedTo s l.card l.found (slot_base s.layout (l.card / 4) l.size l.slot);
}
