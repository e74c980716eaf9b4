-- The objects of a block by its occupancy, where no block is still to be swept.
use Rattle.std.proofs.Common.{◌≡◌, ℕ, ◌<◌, true, List, refl, sym, ap, ◌∙◌, subst, arith}
use Rattle.std.proofs.lemmas.Bool.{false≢true, eqb-true, eq-eqb}
use Rattle.std.specs.Int.{bit_at}
use Rattle.sg_words.specs.Blocks.{slots, IsSizeClass, IsOf, IsOwing, is_taken}
use Rattle.sg_words.specs.Lists.{In}
use Rattle.sg_words.specs.declared.steps.BlockWord.{BlockWord}
use Rattle.sg_words.specs.declared.steps.BlockWord.TheVariants.{Free, Swept, Need, Sweeping}
use Rattle.sg_words.proofs.Blocks.{class_bounds, class_slots, slot_fits, slot_once}
use Rattle.sg_program.specs.declared.program.Program.{Program}
use Rattle.sg_graph.specs.declared.reports.BlockLine.{BlockLine}
use Rattle.sg_graph.specs.Blocks.{IsOldAt, IsTakenAt, AreSettled}
use Rattle.sg_graph.specs.Book.{Book, nursery_end, slot_at, slot_words, IsInBlock}
use Rattle.sg_graph.specs.Graph.{Graph}
use Rattle.sg_graph.specs.Heap.{Owner}
use Rattle.sg_graph.specs.Major.{AreNames}
use Rattle.sg_graph.specs.Sections.{TellsBlock}
use Rattle.sg_space.specs.Space.{Contents, words_of}
use Rattle.sg_space.specs.Standing.{block_in, used_in, marks_in}
use Rattle.sg_heap.specs.Fronts.{IsFronted}
use Rattle.sg_heap.specs.Holding.{IsSpaceOf, OwesNothing}
use Rattle.sg_sections.specs.Parts.{IsLineOf}
use Rattle.sg_sections.proofs.Listed.{pick, in_pick, pick_in, pick_distinct, has_bit, pick_bits}
use Rattle.sg_sections.proofs.Nursery.{name_in, name_of}

swept_only : (state : BlockWord) (z : ℕ) → IsOf state z → (IsOwing state z → ⊥) → state ≡ Swept z
swept_only Free z of none = absurd of
swept_only (Swept y) z of none = ap Swept of
swept_only (Need y) z of none = absurd (none of)
swept_only (Sweeping y) z of none = absurd (none of)

size_only : (state : BlockWord) (y z : ℕ) → state ≡ Swept y → IsOf state z → z ≡ y
size_only state y z e of = sym (subst (λ (w : BlockWord). IsOf w z) e of)

module _ (p : Program) (s : Contents) (g : Graph) (b : Book) (owner : ℕ → Owner) (space : IsSpaceOf p s b) (settled : AreSettled p (words_of s) g b owner)
    (is : IsFronted p s g b owner) (nothing : OwesNothing p b) where
  not_owing : (j z : ℕ) → j < p.config.blocks → IsOwing (block_in s j) z → ⊥
  not_owing j z l h = false≢true (sym (nothing j l) ∙ (settled.blocks.each j l).owing z h)

  -- the slot of an object that stands in a block
  slot_of : (n j : ℕ) → j < p.config.blocks → IsInBlock p b n j → IsTakenAt p (marks_in s j) (b.address n) (slot_words (g.size n)) j (block_in s j) (used_in s j)
  slot_of n j l i =
      let q = settled.blocks.placed n i.some i.stands i.old in
      let fit = slot_fits (slot_words (g.size n)) q.2.slot q.2.fits in
      let at = q.2.address in
      let above = i.above in
      let below = i.below in
      let e : q.0 ≡ j = omega arith in
      subst (λ (c : ℕ). IsTakenAt p (marks_in s c) (b.address n) (slot_words (g.size n)) c (block_in s c) (used_in s c)) e q.2

  -- a block in which something stands is swept
  pub swept_of : (n j : ℕ) → j < p.config.blocks → IsInBlock p b n j → block_in s j ≡ Swept (slot_words (g.size n))
  swept_of n j l i = swept_only (block_in s j) (slot_words (g.size n)) (slot_of n j l i).of (not_owing j (slot_words (g.size n)) l)

  module _ (line : BlockLine) (l : line.block < p.config.blocks) (h : IsLineOf s line) where
    abbrev mask : ℕ
    mask = used_in s line.block

    of : IsOf (block_in s line.block) line.size
    of = subst (λ (w : BlockWord). IsOf w line.size) (sym h.swept) refl

    class : IsSizeClass line.size
    class = settled.blocks.sized line.block line.size l of

    fits : (i : ℕ) → bit_at mask i ≡ 1 → i < slots line.size
    fits i e = space.fits line.block line.size i l h.swept e

    taken_as : (i : ℕ) → is_taken (block_in s line.block) mask (marks_in s line.block) i ≡ bit_at mask i
    taken_as i = ap (λ (w : BlockWord). is_taken w mask (marks_in s line.block) i) h.swept

    in_slot : (i : ℕ) → bit_at mask i ≡ 1 → (n : ℕ) × IsOldAt g.size b.stands b.address b.section n (slot_at p line.block line.size i) line.size
    in_slot i e = (settled.blocks.each line.block l).filled line.size i of (fits i e) (taken_as i ∙ e)

    abbrev slot_name : ℕ → ℕ
    slot_name i = name_in (owner (slot_at p line.block line.size i))

    slot_is : (i n : ℕ) → b.stands n ≡ true → b.address n ≡ slot_at p line.block line.size i → slot_name i ≡ n
    slot_is i n stands at = name_of (owner (slot_at p line.block line.size i)) n (ap owner (sym at) ∙ is.owns_first n stands)

    in_block : (i n : ℕ) → bit_at mask i ≡ 1 → IsOldAt g.size b.stands b.address b.section n (slot_at p line.block line.size i) line.size → IsInBlock p b n line.block
    in_block i n e o =
        let fit = slot_fits line.size i (fits i e) in
        let least = (class_bounds line.size class).0 in
        let at = o.at in
        record { some = o.some; stands = o.standing; old = o.old; above = omega arith; below = omega arith }

    same_size : (n : ℕ) → IsInBlock p b n line.block → slot_words (g.size n) ≡ line.size
    same_size n i = size_only (block_in s line.block) line.size (slot_words (g.size n)) h.swept (slot_of n line.block l i).of

    abbrev names : List ℕ
    names = pick slot_name (has_bit mask) 64

    one_slot : (i k : ℕ) → bit_at mask i ≡ 1 → bit_at mask k ≡ 1 → slot_name i ≡ slot_name k → i ≡ k
    one_slot i k e f same =
        let a = in_slot i e in
        let d = in_slot k f in
        let least = (class_bounds line.size class).0 in
        let name : a.0 ≡ d.0 = sym (slot_is i a.0 a.1.standing a.1.at) ∙ same ∙ slot_is k d.0 d.1.standing d.1.at in
        let here : slot_at p line.block line.size i ≡ slot_at p line.block line.size k = sym a.1.at ∙ ap b.address name ∙ d.1.at in
        slot_once (nursery_end p) line.block line.size i k (slot_at p line.block line.size i) (omega arith) (omega arith) (omega arith) (omega arith)

    name_out : (n : ℕ) → In n names → IsInBlock p b n line.block
    name_out n i =
        let q = pick_in slot_name (has_bit mask) 64 n i in
        let e = eqb-true (bit_at mask q.0) 1 q.2 in
        let a = in_slot q.0 e in
        let name : a.0 ≡ n = sym (slot_is q.0 a.0 a.1.standing a.1.at) ∙ sym q.3 in
        subst (λ (m : ℕ). IsInBlock p b m line.block) name (in_block q.0 a.0 e a.1)

    name_back : (n : ℕ) → IsInBlock p b n line.block → In n names
    name_back n i =
        let t = slot_of n line.block l i in
        let e : bit_at mask t.slot ≡ 1 = sym (taken_as t.slot) ∙ t.taken in
        let inside = fits t.slot e in
        let most = (class_slots line.size class).1 in
        let at : b.address n ≡ slot_at p line.block line.size t.slot = t.address ∙ ap (λ z. slot_at p line.block z t.slot) (same_size n i) in
        subst (λ (m : ℕ). In m names) (slot_is t.slot n i.stands at) (in_pick slot_name (has_bit mask) 64 t.slot (omega arith) (eq-eqb (bit_at mask t.slot) 1 e))

    are_names : AreNames (λ n. IsInBlock p b n line.block) names
    are_names = record {
      once = pick_distinct slot_name (has_bit mask) 64 (λ i k u v t q e. one_slot i k (eqb-true (bit_at mask i) 1 t) (eqb-true (bit_at mask k) 1 q) e);
      exact = λ n. (name_out n, name_back n);
    }

    pub tells_block : TellsBlock p g b line
    tells_block =
        let one = settled.inhabited line.block line.size l h.swept in
        let some = one.1 in
        let above = one.3 in
        record {
          there = l;
          name = one.0;
          some = record { some = one.1; stands = one.2; old = is.old_there one.0 (omega arith) one.2 (omega arith); above = one.3; below = one.4 };
          size = same_size;
          used = (names, are_names, pick_bits slot_name mask 64 ∙ sym h.used);
        }
