-- A space that holds a graph by a book in which no block is owed holds it without its marks too, and marking may begin there.
use Rattle.std.proofs.Common.{◌≡◌, ℕ, ◌<◌, false, Option, List, refl, sym, ap, ◌∙◌, subst, inl, inr, arith}
use Rattle.std.proofs.lemmas.Bool.{false≢true}
use Rattle.std.proofs.lemmas.Nat.Bits.{bit_at-zero}
use Rattle.std.specs.Int.{bit_at}
use Rattle.sg_words.specs.Address.{word_at}
use Rattle.sg_words.specs.Blocks.{IsOwing, is_taken}
use Rattle.sg_words.specs.declared.steps.BlockWord.{BlockWord}
use Rattle.sg_words.specs.declared.steps.BlockWord.TheVariants.{Free, Swept, Need, Sweeping}
use Rattle.sg_program.specs.declared.program.Program.{Program}
use Rattle.sg_graph.specs.Graph.{Graph}
use Rattle.sg_graph.specs.Book.{Book}
use Rattle.sg_graph.specs.Blocks.{AreSettled}
use Rattle.sg_space.specs.Space.{Contents, IsContents, words_of}
use Rattle.sg_space.specs.Standing.{block_in, used_in, marks_in, IsSound, IsSoundBy, RefersSoundly}
use Rattle.sg_heap.specs.Holding.{IsSpaceOf, HoldsHeap, OwesNothing}
use Rattle.sg_heap.specs.Fronts.{fronts, IsFronted}
use Rattle.sg_heap.specs.Laws.{FrontLaw}
use Rattle.sg_mark.specs.Marking.{CanMark}
use Rattle.sg_major.specs.Parts.{IsUnmarked, AreRoots}
use Rattle.sg_major.proofs.Blocks.{contents_unmarked}

taken_any : (state : BlockWord) (used marks other i : ℕ) → ((z : ℕ) → IsOwing state z → ⊥) → is_taken state used marks i ≡ is_taken state used other i
taken_any Free used marks other i none = refl
taken_any (Swept z) used marks other i none = refl
taken_any (Need z) used marks other i none = absurd (none z refl)
taken_any (Sweeping z) used marks other i none = absurd (none z refl)

no_bit : (m i : ℕ) → m ≡ 0 → bit_at m i ≡ 1 → ⊥
no_bit m i e h = let z = ap (λ k. bit_at k i) e ∙ bit_at-zero i in omega arith

module _ (p : Program) (s : Contents) (g : Graph) (b : Book) (heap : HoldsHeap p s g b) (nothing : OwesNothing p b) where
  pub not_owing : (c z : ℕ) → c < p.config.blocks → IsOwing (block_in s c) z → ⊥
  not_owing c z l h = false≢true (sym (nothing c l) ∙ (heap.1.2.blocks.each c l).owing z h)

  module _ (t : Contents) (un : IsUnmarked s t) where
    unmarked_space : Contents
    unmarked_space = record s { marks = t.marks }

    settled_unmarked : AreSettled p (words_of (record s { marks = t.marks })) g b heap.1.0
    settled_unmarked =
        let before = heap.1.2 in
        record {
          blocks = record {
            placed = λ n l q o.
                let h = before.blocks.placed n l q o in (
                  h.0,
                  h.1,
                  record {
                    slot = h.2.slot;
                    fits = h.2.fits;
                    address = h.2.address;
                    of = h.2.of;
                    taken = taken_any (block_in s h.0) (used_in s h.0) (marks_in t h.0) (marks_in s h.0) h.2.slot (λ z. not_owing h.0 z h.1) ∙ h.2.taken;
                  },
                );
            each = λ c l.
                let e = before.blocks.each c l in
                record {
                  filled = λ z i o f u. e.filled z i o f (taken_any (block_in s c) (used_in s c) (marks_in s c) (marks_in t c) i (λ y. not_owing c y l) ∙ u);
                  bare = e.bare;
                  owing = e.owing;
                  kept = λ z i o m. absurd (not_owing c z l o);
                  unmarked = λ q. un.none c;
                  within = λ z q i m. absurd (no_bit (marks_in t c) i (un.none c) m);
                };
            clear = λ c l x lo hi none clean. before.blocks.clear c l x lo hi none (λ d. not_owing c d.size l d.owing);
            sized = before.blocks.sized;
          };
          settled = before.settled;
          inhabited = before.inhabited;
          owes = before.owes;
          cards = record { dirty = before.cards.dirty };
        }

    space_unmarked : IsSpaceOf p (record s { marks = t.marks }) b
    space_unmarked =
        let is = heap.0 in
        record {
          layout = is.layout;
          shapes = is.shapes;
          fragments = is.fragments;
          same = is.same;
          next = is.next;
          limit = is.limit;
          fits = is.fits;
          pages = is.pages;
          head = is.head;
          made = is.made;
          registered = is.registered;
          pairs = is.pairs;
        }

    pub heap_unmarked : HoldsHeap p t g b
    heap_unmarked = subst (λ (z : Contents). HoldsHeap p z g b) (sym un.same) (space_unmarked, (heap.1.0, heap.1.1, settled_unmarked))

-- marking may begin in a space without marks, from these roots
pub can_mark : (t : Contents) (owner : ℕ → Option ℕ) (ambiguous roots : List ℕ) → IsContents t → IsSoundBy t owner → RefersSoundly t owner →
    ((c : ℕ) → marks_in t c ≡ 0) → AreRoots t owner ambiguous roots → CanMark t owner (λ _. false) t roots
can_mark t owner ambiguous roots contents sound refers none are = record {
  contents = contents;
  sound = sound;
  refers = refers;
  unmarked = none;
  has = record {
    same = refl;
    words_length = refl;
    marks_length = refl;
    top = λ h e k m. absurd (false≢true m);
    rest = λ x n. refl;
    set = λ h c z i e f m. absurd (false≢true m);
    only = λ c i m. absurd (no_bit (marks_in t c) i (none c) m);
  };
  closed = λ h k m e. absurd (false≢true m);
  stand = λ a i. elim (are.each a i) [
    | inl q ↦ (let o = sound.owned (word_at q.0) (word_at a) q.2.0 in let whole = q.2.1 in (word_at a, o.2, omega arith))
    | inr q ↦ elim (refers.globals q.0 q.1) [
      | inl z ↦ (let holds = q.2.0 in let low = q.2.1.0 in absurd (omega arith))
      | inr q2 ↦ (q2.0, q2.1, sym q.2.0 ∙ q2.2)
    ]
  ];
}

-- by the law of first words
module _ (law : FrontLaw) (p : Program) (s : Contents) (g : Graph) (b : Book) (heap : HoldsHeap p s g b) (nothing : OwesNothing p b) (contents : IsContents s) (t : Contents)
    (un : IsUnmarked s t) where
  pub contents_after : IsContents t
  contents_after = contents_unmarked s t un.same un.as_many contents

  pub fronted : IsFronted p t g b (heap_unmarked p s g b heap nothing t un).1.0
  fronted =
      let h = heap_unmarked p s g b heap nothing t un in
      law.fronted p t g b h.1.0 h.0 h.1.1 h.1.2 contents_after

  abbrev pub first_words : ℕ → Option ℕ
  first_words = fronts b.address (heap_unmarked p s g b heap nothing t un).1.0

  pub sound_after : IsSound t
  sound_after = (first_words, fronted.sound)
