-- The names of the young objects of a list and of the slots that pass a test, each once.
use Rattle.std.proofs.Common.{◌≡◌, ◌≢◌, ℕ, ◌+◌, ◌<◌, ◌⊎◌, Bool, true, List, ◌++◌, map, length, sym, ap, ◌∙◌, subst, inl, inr, arith, le_refl}
use Rattle.std.proofs.lemmas.List.{length-append, length-map}
use Rattle.std.specs.List.{Contains}
use Rattle.sg_words.specs.Blocks.{slots, IsOf}
use Rattle.sg_words.specs.Lists.{In}
use Rattle.sg_words.specs.declared.layout.Layout.{Layout}
use Rattle.sg_words.specs.declared.steps.BlockWord.{BlockWord}
use Rattle.sg_words.specs.declared.steps.BlockWord.TheVariants.{Free, Swept, Need, Sweeping}
use Rattle.sg_words.proofs.Members.{in-left, in-right, in-cases}
use Rattle.sg_program.specs.declared.program.Program.{Program}
use Rattle.sg_graph.specs.Graph.{Graph}
use Rattle.sg_graph.specs.Book.{Book, Young, Old, slot_at}
use Rattle.sg_graph.specs.Heap.{Owner, Of, Frag, Buf, Nobody, IsHeap}
use Rattle.sg_graph.specs.Major.{AreNames}
use Rattle.sg_space.specs.declared.objects.Object.{Object}
use Rattle.sg_nursery.specs.Pieces.{AreStanding, first_word}
use Rattle.sg_major.proofs.Listed.{distinct_both, picks, picks_any, in_picks, picks_in, picks_distinct, in_names, names_in, names_distinct}

-- the name that has a word
pub name_in : Owner → ℕ
name_in (Of n) = n
name_in (Frag f) = 0
name_in (Buf k) = 0
name_in Nobody = 0

pub size_in : BlockWord → ℕ
size_in Free = 0
size_in (Swept z) = z
size_in (Need z) = z
size_in (Sweeping z) = z

pub size_of : (state : BlockWord) (z : ℕ) → IsOf state z → size_in state ≡ z
unfolding size_in
size_of Free z o = absurd o
size_of (Swept s) z o = o
size_of (Need s) z o = o
size_of (Sweeping s) z o = o

-- a name of a young object on the list
pub record IsYoungOn (b : Book) (sort : ℕ → Type 0) (o : Object) (n : ℕ) : Type 0 where
  pub of_sort : sort n
  pub stands : b.stands n ≡ true
  pub young : b.section n ≡ Young
  pub at : first_word o ≡ b.address n

-- a name in a slot
pub record IsInSlotOf (p : Program) (b : Book) (block : ℕ → BlockWord) (sort : ℕ → Type 0) (j i n : ℕ) : Type 0 where
  pub of_sort : sort n
  pub stands : b.stands n ≡ true
  pub old : b.section n ≡ Old
  pub some : n ≢ 0
  pub size : ℕ
  pub of : IsOf (block j) size
  pub fits : i < slots size
  pub at : b.address n ≡ slot_at p j size i

module _ (p : Program) (w : ℕ → ℕ) (g : Graph) (b : Book) (owner : ℕ → Owner) (heap : IsHeap p w g b owner) (block : ℕ → BlockWord) (layout : Layout)
    (sort : ℕ → Type 0) (os : List Object) (apart : AreStanding layout os) (test : ℕ → ℕ → Bool)
    (sides : (n : ℕ) → sort n → (b.section n ≡ Young) ⊎ (b.section n ≡ Old))
    (young_each : (o : Object) → Contains os o → (n : ℕ) × IsYoungOn b sort o n)
    (young_all : (n : ℕ) → sort n → b.section n ≡ Young → (o : Object) × Contains os o × (first_word o ≡ b.address n))
    (stands : (n : ℕ) → sort n → b.stands n ≡ true)
    (old_each : (j i : ℕ) → j < p.config.blocks → test j i ≡ true → (n : ℕ) × IsInSlotOf p b block sort j i n)
    (old_all : (n : ℕ) → sort n → b.section n ≡ Old → (j i : ℕ) × (j < p.config.blocks) × (i < 64) × (test j i ≡ true) × IsInSlotOf p b block sort j i n)
    (slot_once : (n j i k l : ℕ) → j < p.config.blocks → k < p.config.blocks → test j i ≡ true → test k l ≡ true → IsInSlotOf p b block sort j i n → IsInSlotOf p b block sort k l n → (j ≡ k) × (i ≡ l)) where
  pub name_at : ℕ → ℕ
  name_at x = name_in (owner x)

  named_at : (n : ℕ) → b.stands n ≡ true → name_at (b.address n) ≡ n
  unfolding name_at name_in
  named_at n s = ap name_in (heap.laid.objects.owns n (b.address n) s (le_refl _) (omega arith))

  abbrev pub young_name : Object → ℕ
  young_name o = name_at (first_word o)

  abbrev pub slot_name : ℕ → ℕ → ℕ
  slot_name j i = name_at (slot_at p j (size_in (block j)) i)

  abbrev pub names : List ℕ
  names = map young_name os ++ picks slot_name test p.config.blocks

  young_is : (o : Object) (n : ℕ) → IsYoungOn b sort o n → young_name o ≡ n
  young_is o n h = ap name_at h.at ∙ named_at n h.stands

  slot_is : (j i n : ℕ) → IsInSlotOf p b block sort j i n → slot_name j i ≡ n
  slot_is j i n h = ap name_at (ap (λ z. slot_at p j z i) (size_of (block j) h.size h.of) ∙ sym h.at) ∙ named_at n h.stands

  young_in : (x : ℕ) → In x (map young_name os) → sort x × (b.section x ≡ Young)
  young_in x i =
      let q = names_in young_name os x i in
      let h = young_each q.0 q.1 in
      let e : h.0 ≡ x = sym (young_is q.0 h.0 h.1) ∙ sym q.2 in
      (subst sort e h.1.of_sort, ap b.section (sym e) ∙ h.1.young)

  slot_in : (x : ℕ) → In x (picks slot_name test p.config.blocks) → sort x × (b.section x ≡ Old)
  slot_in x i =
      let q = picks_in slot_name test p.config.blocks x i in
      let h = old_each q.0 q.1 q.2 q.4 in
      let e : h.0 ≡ x = sym (slot_is q.0 q.1 h.0 h.1) ∙ sym q.5 in
      (subst sort e h.1.of_sort, ap b.section (sym e) ∙ h.1.old)

  -- these are exactly the names of the sort
  pub are_names : AreNames sort names
  are_names = record {
    once = distinct_both (map young_name os) (picks slot_name test p.config.blocks)
        (names_distinct young_name b.address os (λ o i. ((apart.each o i).0, (let h = young_each o i in h.1.at ∙ ap b.address (sym (young_is o h.0 h.1))))) apart.apart)
        (picks_distinct slot_name test p.config.blocks (λ j i k l a d u v s t e.
        let x = old_each j i a s in
        let y = old_each k l d t in
        let same : y.0 ≡ x.0 = sym (slot_is k l y.0 y.1) ∙ sym e ∙ slot_is j i x.0 x.1 in
        slot_once x.0 j i k l a d s t x.1 (subst (IsInSlotOf p b block sort k l) same y.1)))
        (λ x i j. (let e : Young ≡ Old = sym (young_in x i).1 ∙ (slot_in x j).1 in cc));
    exact = λ n. (
      λ i. elim (in-cases n (map young_name os) (picks slot_name test p.config.blocks) i) [
        | inl j ↦ (young_in n j).0
        | inr j ↦ (slot_in n j).0
      ],
      λ s. elim (sides n s) [
        | inl y ↦
            (let o = young_all n s y in
            in-left n (map young_name os) (picks slot_name test p.config.blocks)
            (subst (λ (z : ℕ). In z (map young_name os)) (ap name_at o.2 ∙ named_at n (stands n s)) (in_names young_name os o.0 o.1)))
        | inr y ↦
            (let q = old_all n s y in
            in-right n (map young_name os) (picks slot_name test p.config.blocks)
            (subst (λ (z : ℕ). In z (picks slot_name test p.config.blocks)) (slot_is q.0 q.1 n q.5) (in_picks slot_name test p.config.blocks q.0 q.1 q.2 q.3 q.4)))
      ],
    );
  }

  pub how_many : length names ≡ length os + length (picks (λ j i. 0) test p.config.blocks)
  how_many =
      let a = length-append (map young_name os) (picks slot_name test p.config.blocks) in
      let m = length-map os young_name in
      let d = picks_any slot_name (λ j i. 0) test p.config.blocks in
      omega arith
