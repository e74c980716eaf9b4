-- A slot of a swept block gets an object, and a free block gets slots.
use Rattle.std.proofs.Common.{◌≡◌, ◌≢◌, ℕ, ◌^◌, ◌<◌, Bool, sym, ap, ◌∙◌, refl, subst, inl, inr, arith}
use Rattle.std.proofs.lemmas.Bool.{cases_eq}
use Rattle.std.proofs.lemmas.Nat.Bits.{bit_at-zero}
use Rattle.std.specs.Int.{bit_at}
use Rattle.std.specs.Int.Bits.{bit_or}
use Rattle.sg_words.specs.Blocks.{slots, IsSizeClass, IsOf, IsOwing}
use Rattle.sg_words.specs.Words.{put}
use Rattle.sg_words.specs.declared.steps.BlockWord.{BlockWord}
use Rattle.sg_words.specs.declared.steps.BlockWord.TheVariants.{Free, Swept}
use Rattle.sg_words.proofs.Blocks.{bit_set, bit_same, bit_kept}
use Rattle.sg_words.proofs.Puts.{put-at, put-same, put-other}
use Rattle.sg_program.specs.declared.program.Program.{Program}
use Rattle.sg_graph.specs.Book.{Section, slot_at, slot_words}
use Rattle.sg_graph.specs.Heap.{Owner}
use Rattle.sg_graph.specs.Blocks.{IsOldAt, IsTakenAt, IsBlock, IsClear, AreBlocks}
use Rattle.sg_graph.specs.Laws.{IsOldNow, KeepsRest, BlocksGo}

-- what a change at k keeps at k, holds at each j after it where it held before
put-from : {A : Type 0} (P : ℕ → A → Type 0) (f : ℕ → A) (k : ℕ) (v : A) → (P k (f k) → P k v) → (j : ℕ) → P j (f j) → P j (put f k v j)
put-from P f k v step j q = elim (cases_eq j k) [
  | inl e ↦ subst (λ u. P j u) (sym (put-at f k v j e)) (subst (λ i. P i v) (sym e) (step (subst (λ i. P i (f i)) e q)))
  | inr n ↦ subst (λ u. P j u) (sym (put-other f k v j n)) q
]

module _ (p : Program) (marks used word size address : ℕ → ℕ) (state : ℕ → BlockWord) (stands owed : ℕ → Bool) (section : ℕ → Section) (owner : ℕ → Owner)
    (t : AreBlocks p marks state used word size stands address section owed owner) where
  module _ (word' size' address' : ℕ → ℕ) (stands' : ℕ → Bool) (section' : ℕ → Section) (owner' : ℕ → Owner) (n j z i : ℕ) (there : j < p.config.blocks)
      (e : state j ≡ Swept z) (fits : i < slots z) (clear : bit_at (used j) i ≡ 0)
      (now : IsOldNow size size' stands stands' address address' section section' n (slot_at p j z i) z) (rest : KeepsRest p word word' owner owner') where
    abbrev bits : ℕ
    bits = bit_or (used j) (2 ^ i)

    abbrev Taken : ℕ → ℕ → ℕ → ℕ → Type 0
    Taken y s c bits = IsTakenAt p (marks c) y s c (state c) bits

    abbrev Block : ℕ → BlockWord → ℕ → Type 0
    Block c word bits = IsBlock p (marks c) size' stands' address' section' owed c word bits

    old_more : (m y s : ℕ) → IsOldAt size stands address section m y s → IsOldAt size' stands' address' section' m y s
    old_more m y s o =
        let other : m ≢ n = λ q. now.new (ap stands (sym q) ∙ o.standing) (ap section (sym q) ∙ o.old) in
        let alike = now.others m other (inl o.old) in
        record {
          some = o.some;
          standing = alike.same_stands ∙ o.standing;
          old = alike.same_section ∙ o.old;
          at = alike.same_address ∙ o.at;
          sized = ap slot_words alike.same_size ∙ o.sized;
        }

    block_more : (c : ℕ) → IsBlock p (marks c) size stands address section owed c (state c) (used c) → Block c (state c) (used c)
    block_more c o = record {
      filled = λ s m q l u. let h = o.filled s m q l u in (h.0, old_more h.0 (slot_at p c s m) s h.1);
      bare = o.bare;
      owing = o.owing;
      kept = o.kept;
      unmarked = o.unmarked;
      within = o.within;
    }

    block_here : Block j (state j) (used j) → Block j (state j) bits
    block_here o =
        let o : Block j (Swept z) (used j) = subst (λ word. Block j word (used j)) e o in
        subst (λ word. Block j word bits) (sym e) (record {
          filled = λ s m q l u. elim (cases_eq m i) [
            | inl h ↦ let q : z ≡ s = q in (
              n,
              subst (λ s. IsOldAt size' stands' address' section' n (slot_at p j s m) s) q
                  (subst (λ m. IsOldAt size' stands' address' section' n (slot_at p j z m) z) (sym h) now.here),
            )
            | inr d ↦ o.filled s m q l (sym (bit_same (used j) i m d) ∙ u)
          ];
          bare = λ q. cc;
          owing = λ s q. absurd q;
          kept = λ s m q. absurd q;
          unmarked = λ q. cc;
          within = λ s q m u. bit_kept (used j) i m (o.within s q m u);
        })

    taken_here : (y s : ℕ) → Taken y s j (used j) → Taken y s j bits
    taken_here y s o =
        let o : IsTakenAt p (marks j) y s j (Swept z) (used j) = subst (λ word. IsTakenAt p (marks j) y s j word (used j)) e o in
        subst (λ word. IsTakenAt p (marks j) y s j word bits) (sym e)
        (record { slot = o.slot; fits = o.fits; address = o.address; of = o.of; taken = bit_kept (used j) i o.slot o.taken })

    taken_new : Taken (slot_at p j z i) z j (put used j bits j)
    taken_new = subst (λ bits. Taken (slot_at p j z i) z j bits) (sym (put-same used j bits))
        (subst (λ word. IsTakenAt p (marks j) (slot_at p j z i) z j word bits) (sym e)
        (record { slot = i; fits = fits; address = refl; of = refl; taken = bit_set (used j) i }))

    gets : AreBlocks p marks state (put used j bits) word' size' stands' address' section' owed owner'
    gets = record {
      placed = λ m l q o. elim (cases_eq m n) [
        | inl h ↦ (
          j,
          there,
          subst (λ m. Taken (address' m) (slot_words (size' m)) j (put used j bits j)) (sym h)
              (subst (λ y. Taken y (slot_words (size' n)) j (put used j bits j)) (sym now.here.at)
              (subst (λ s. Taken (slot_at p j z i) s j (put used j bits j)) (sym now.here.sized) taken_new)),
        )
        | inr d ↦
            let alike = now.others m d (inr o) in
            let h = t.placed m l (sym alike.same_stands ∙ q) (sym alike.same_section ∙ o) in
            let old = subst (λ y. Taken y (slot_words (size' m)) h.0 (used h.0)) (sym alike.same_address)
            (subst (λ s. Taken (address m) (slot_words s) h.0 (used h.0)) (sym alike.same_size) h.2) in
            (h.0, h.1, put-from (Taken (address' m) (slot_words (size' m))) used j bits (taken_here (address' m) (slot_words (size' m))) h.0 old)
      ];
      each = λ c l. put-from (λ c bits. Block c (state c) bits) used j bits block_here c (block_more c (t.each c l));
      clear = λ c l x from to none clean. let h = rest c x l from to none in h.0 ∙ t.clear c l x from to h.1 clean;
      sized = t.sized;
    }

  module _ (j z : ℕ) (e : state j ≡ Free) (class : IsSizeClass z) where
    abbrev states : ℕ → BlockWord
    states = put state j (Swept z)

    opens : AreBlocks p marks states used word size stands address section owed owner
    opens = record {
      placed = λ m l q o. let h = t.placed m l q o in (
        h.0,
        h.1,
        put-from (λ c state. IsTakenAt p (marks c) (address m) (slot_words (size m)) c state (used c)) state j (Swept z)
            (λ old. absurd (subst (λ state. IsOf state (slot_words (size m))) e old.of)) h.0 h.2,
      );
      each = λ c l. put-from (λ c state. IsBlock p (marks c) size stands address section owed c state (used c)) state j (Swept z)
          (λ old. record {
            filled = λ s i o f u. absurd (let bit = ap (λ bits. bit_at bits i) (old.bare e) ∙ bit_at-zero i in omega arith);
            bare = λ q. cc;
            owing = λ s q. absurd q;
            kept = λ s i q. absurd q;
            unmarked = λ q. cc;
            within = λ s q i u. absurd (let bit = ap (λ bits. bit_at bits i) (old.unmarked e) ∙ bit_at-zero i in omega arith);
          }) c (t.each c l);
      clear = λ c l. put-from (λ c state. IsClear p (marks c) word owner c state) state j (Swept z)
          (λ old x from to none clean. old x from to none (λ d. subst (λ state. IsOwing state d.size) e d.owing)) c (t.clear c l);
      sized = λ c s l. put-from (λ c state. IsOf state s → IsSizeClass s) state j (Swept z) (λ old q. subst IsSizeClass q class) c (t.sized c s l);
    }

pub blocks_go : BlocksGo
blocks_go = record {
  slot_gets = λ p marks used word word' size size' address address' state stands stands' owed section section' owner owner' n j z i t there e fits clear
      now rest.
      gets p marks used word size address state stands owed section owner t word' size' address' stands' section' owner' n j z i there e fits clear now rest;
  block_opens = λ p marks used word size address state stands owed section owner j z t e class.
      opens p marks used word size address state stands owed section owner t j z e class;
}
