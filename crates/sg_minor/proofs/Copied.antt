-- The objects that are found move or fail in turn, and so the block words and the occupancies become those of the new book.
use Rattle.std.proofs.Common.{◌≡◌, ◌≢◌, ℕ, ◌+◌, ◌^◌, ◌≤◌, ◌⊎◌, true, List, [], ◌∷◌, map, sym, refl, ap, ◌∙◌, subst, inl, inr, arith}
use Rattle.std.specs.Int.Bits.{bit_or}
use Rattle.std.proofs.lemmas.Bool.{cases_Bool, cases_eq, false≢true}
use Rattle.sg_words.specs.Words.{put}
use Rattle.sg_words.specs.Blocks.{slot_size}
use Rattle.sg_words.specs.Found.{IsFoundBy}
use Rattle.sg_words.specs.Found.IsFoundBy.{Begins, Finds}
use Rattle.sg_words.specs.Lists.{In, has}
use Rattle.sg_words.specs.Objects.{size_of}
use Rattle.sg_words.specs.Reach.{AreDistinct, IsFreshIn}
use Rattle.sg_words.specs.declared.steps.BlockWord.{BlockWord}
use Rattle.sg_words.specs.declared.steps.BlockWord.TheVariants.{Swept}
use Rattle.sg_words.proofs.Members.{has-cases, in-here, in-there, map_in, not-in, distinct-more, out as is-out}
use Rattle.sg_words.proofs.Puts.{put-same, put-other}
use Rattle.sg_program.specs.Scripts.{words_for}
use Rattle.sg_graph.specs.Book.{Book, Young, Old, nursery_end, slot_at, slot_words}
use Rattle.sg_graph.specs.Copies.{moved_to_slot, IsMovable, AreCopied}
use Rattle.sg_graph.specs.Minor.{IsStill}
use Rattle.sg_round.specs.Area.{place as place_in}
use Rattle.sg_round.specs.Order.{IsLowest, Fits}
use Rattle.sg_round.specs.Round.{IsPassed}
use Rattle.sg_minor.proofs.Areas.{area_for}
use Rattle.sg_minor.proofs.Mirrors.{AreBlocksBy, IsOldAs, first_slot, passed_shut, moved_by, blocks_as}
use Rattle.sg_minor.proofs.Names.{some-name, name-some}
use Rattle.sg_minor.proofs.After.{Ended, sizes, one-name, section-young, stands_on, stood, stands-kept, address_of, section_of, booked, at-sent, moved-section, unmoved-still, stays-still, gone-still, Place, Stayed, Moved, Older, place}

-- what is found is found once
pub found-distinct : (sort : ℕ → Type 0) (leads : List ℕ → List ℕ) (found : List ℕ) → IsFoundBy sort leads found → AreDistinct found
found-distinct sort leads _ Begins = tt
found-distinct sort leads _ (Finds before x more first) = distinct-more x before (found-distinct sort leads before more) (not-in x before first.new)

fresh-not : (x : ℕ) (xs : List ℕ) → IsFreshIn x xs → In x xs → ⊥
fresh-not x [] f i = let z = i in cc
fresh-not x (y ∷ ys) f i = elim (has-cases x y ys i) [
  | inl e ↦ f.0 e
  | inr j ↦ fresh-not x ys f.1 j
]

module _ (c : Ended) where
  -- the book d of the copies so far, with these objects still to come
  pub record IsAgreed (d : Book) (names : List ℕ) : Type 0 where
    pub stands : (n : ℕ) → d.stands n ≡ c.b.stands n
    pub todo : (n : ℕ) → In n names → (d.address n ≡ c.b.address n) × (d.section n ≡ c.b.section n)
    pub done : (n : ℕ) → c.b.stands n ≡ true → (In n names → ⊥) → (d.address n ≡ address_of c n) × (d.section n ≡ section_of c n)

  -- what goes, for n slot words
  abbrev GoesFor : (ℕ → BlockWord) → (ℕ → ℕ) → (x : ℕ) → (moves fails found : List ℕ) → (ℕ → BlockWord) → (ℕ → ℕ) → ℕ → Type 0
  GoesFor block used x moves fails found block' used' z = (j : ℕ) × (i : ℕ) × (rest : List ℕ) × IsLowest (area_for c.p) block used z j i ×
      (c.m x ≡ place_in (area_for c.p) j z i) ×
      (moves ≡ x ∷ rest) × Fits (area_for c.p) c.w c.m (put block j (Swept z)) (put used j (bit_or (used j) (2 ^ i))) rest fails found block' used'

  -- an old object of the new book is kept
  old-kept : (n : ℕ) → c.b.stands n ≡ true → section_of c n ≡ Old → stands_on c n ≡ true
  old-kept n s o = elim (cases_Bool (has (c.b.address n) c.moves)) [
    | inl h ↦ stands-kept c n s (λ _. inr h)
    | inr out ↦ stands-kept c n s (λ y. absurd (not-both n (sym (section-young c n s y)) (sym (unmoved-still c n out).section ∙ o)))
  ]
    where
      not-both : (n : ℕ) → Young ≡ c.b.section n → c.b.section n ≡ Old → ⊥
      not-both n e f = let z : Young ≡ Old = e ∙ f in cc

  place-or : (n : ℕ) → Place c n → (section_of c n ≡ Old) ⊎ (address_of c n + words_for (c.g.size n) ≤ nursery_end c.p)
  place-or n (Stayed i h q e) = inr (let below = i.below in omega arith)
  place-or n (Moved i h q l u) = inl q
  place-or n (Older o q e) = inl q

  is-old-as : (d : Book) → IsAgreed d [] → IsOldAs c.g c.p d (booked c)
  is-old-as d a = record {
    old = λ n l s o.
        let here = sym (a.stands n) ∙ s in
        let q = a.done n here (λ i. let z = i in cc) in
        let old = sym q.1 ∙ o in
        (old-kept n here old, old, sym q.0);
    back = λ n l s o.
        let here = stood c n s in
        let q = a.done n here (λ i. let z = i in cc) in
        (a.stands n ∙ here, q.1 ∙ o);
    stood = λ n l s. a.stands n ∙ stood c n s;
    others = λ n l s. place-or n (place c n (name-some n l) s);
  }

  -- the first of those still to come has moved to the word x, or has failed
  moved-on : (d : Book) (n : ℕ) (names : List ℕ) (x : ℕ) → IsAgreed d (n ∷ names) → IsFreshIn n names → address_of c n ≡ x → section_of c n ≡ Old → IsAgreed
      (moved_to_slot d n x) names
  moved-on d n names x a fresh at old = record {
    stands = a.stands;
    todo = λ m i.
        let q = a.todo m (in-there m n names i) in
        let other : m ≢ n = λ e. fresh-not n names fresh (subst (λ (z : ℕ). In z names) e i) in
        (put-other d.address n x m other ∙ q.0, put-other d.section n Old m other ∙ q.1);
    done = λ m s out. elim (cases_eq m n) [
      | inl e ↦ (
        ap (put d.address n x) e ∙ put-same d.address n x ∙ sym at ∙ ap (address_of c) (sym e),
        ap (put d.section n Old) e ∙ put-same d.section n Old ∙
            sym old ∙ ap (section_of c) (sym e),
      )
      | inr other ↦
          let q = a.done m s (λ i. elim (has-cases m n names i) [
            | inl e ↦ other e
            | inr j ↦ out j
          ]) in
          (put-other d.address n x m other ∙ q.0, put-other d.section n Old m other ∙ q.1)
    ];
  }

  failed-on : (d : Book) (n : ℕ) (names : List ℕ) → IsAgreed d (n ∷ names) → IsStill c.b (booked c) n → IsAgreed d names
  failed-on d n names a still = record {
    stands = a.stands;
    todo = λ m i. a.todo m (in-there m n names i);
    done = λ m s out. elim (cases_eq m n) [
      | inl e ↦
          let q = a.todo m (in-here m n names e) in
          (q.0 ∙ ap c.b.address e ∙ sym still.address ∙ ap (address_of c) (sym e), q.1 ∙ ap c.b.section e ∙ sym still.section ∙ ap (section_of c) (sym e))
      | inr other ↦ a.done m s (λ i. elim (has-cases m n names i) [
        | inl e ↦ other e
        | inr j ↦ out j
      ])
    ];
  }

  -- in which order they are copied, and what the blocks are like in the end
  abbrev pub IsCopiedBy : Book → List ℕ → (ℕ → BlockWord) → (ℕ → ℕ) → Type 0
  IsCopiedBy d names block' used' = AreCopied c.p c.g c.b (booked c) d names × AreBlocksBy c.p c.g (booked c) block' used'

  module _ (block' : ℕ → BlockWord) (used' : ℕ → ℕ) where
    copied-all : (d : Book) (block : ℕ → BlockWord) (used : ℕ → ℕ) (moves fails names : List ℕ) →
        Fits (area_for c.p) c.w c.m block used moves fails (map c.b.address names) block' used' → AreBlocksBy c.p c.g d block used → IsAgreed d names →
        AreDistinct names →
        ((a : ℕ) → In a moves → In a c.moves) → ((a : ℕ) → In a fails → In a c.stays) →
        ((n : ℕ) → In n names → (n ≢ 0) × (c.b.stands n ≡ true) × (c.b.section n ≡ Young)) →
        IsCopiedBy d names block' used'
    copied-all d block used moves fails [] f by a once moved failed each = (
      tt,
      blocks_as c.p c.g d (booked c) block block' used used' by (is-old-as d a)
          (λ j. ap (λ (h : ℕ → BlockWord). h j) f.2) (λ j. ap (λ (h : ℕ → ℕ). h j) f.3),
    )
    copied-all d block used moves fails (n ∷ names) f by a once moved failed each =
        let x = c.b.address n in
        let o = each n (in-here n n names refl) in
        let size : slot_size (size_of c.w x) ≡ slot_words (c.g.size n) = ap slot_size (sizes c n o.0 o.1) in
        let more = λ (m : ℕ) (i : In m names). each m (in-there m n names i) in
        let here = a.todo n (in-here n n names refl) in
        let not_old : d.section n ≢ Old = λ e. (let z : Young ≡ Old = sym o.2 ∙ sym here.1 ∙ e in cc) in
        elim f [
          | inl first ↦
              let q = subst (GoesFor block used x moves fails (map c.b.address names) block' used') size first in
              let in_moves = moved x (subst (λ (l : List ℕ). In x l) (sym q.5) (in-here x x q.2 refl)) in
              let at : address_of c n ≡ slot_at c.p q.0 (slot_words (c.g.size n)) q.1 = at-sent c n o.1 ∙ q.4 in
              let old = moved-section c n o.1 in_moves in
              let rest = copied-all (moved_to_slot d n (slot_at c.p q.0 (slot_words (c.g.size n)) q.1)) (put block q.0 (Swept (slot_words (c.g.size n))))
              (put used q.0 (bit_or (used q.0) (2 ^ q.1)))
              q.2 fails names q.6
              (moved_by c.p c.g d block used by n q.0 q.1 (some-name n o.0) (a.stands n ∙ o.1) not_old q.3)
              (moved-on d n names (slot_at c.p q.0 (slot_words (c.g.size n)) q.1) a once.0 at old) once.1
              (λ z i. moved z (subst (λ (l : List ℕ). In z l) (sym q.5) (in-there z x q.2 i))) failed more in
              (inl (q.0, q.1, first_slot c.p c.g d block used by (slot_words (c.g.size n)) q.0 q.1 q.3, at, old, rest.0), rest.1)
          | inr q ↦
              let stays = failed x (subst (λ (l : List ℕ). In x l) (sym q.2) (in-here x x q.0 refl)) in
              let still = stays-still c n stays in
              let rest = copied-all d block used moves q.0 names q.3 by (failed-on d n names a still) once.1 moved
              (λ z i. failed z (subst (λ (l : List ℕ). In z l) (sym q.2) (in-there z x q.0 i))) more in (
                inr (
                  (λ j there. passed_shut c.p c.g d block used by (slot_words (c.g.size n)) j there
                      (subst (λ (z : ℕ). IsPassed block used z j) size (q.1 j there))),
                  still,
                  rest.0,
                ),
                rest.1,
              )
        ]

    -- what moves is found
    fits-moves : (block : ℕ → BlockWord) (used : ℕ → ℕ) (moves fails found : List ℕ) → Fits (area_for c.p) c.w c.m block used moves fails found block' used' →
        (a : ℕ) → In a moves → In a found
    fits-moves block used moves fails [] f a h = let z = subst (λ (l : List ℕ). In a l) f.0 h in absurd (let k = z in cc)
    fits-moves block used moves fails (x ∷ found) f a h = elim f [
      | inl q ↦ elim (has-cases a x q.2 (subst (λ (l : List ℕ). In a l) q.5 h)) [
        | inl e ↦ in-here a x found e
        | inr i ↦ in-there a x found (fits-moves (put block q.0 (Swept (slot_size (size_of c.w x)))) (put used q.0 (bit_or (used q.0) (2 ^ q.1))) q.2 fails
            found q.6 a i)
      ]
      | inr q ↦ in-there a x found (fits-moves block used moves q.0 found q.3 a h)
    ]

    module _ (block : ℕ → BlockWord) (used : ℕ → ℕ) (fails found : List ℕ) (each : (n : ℕ) → In n found → IsMovable c.g c.b c.ambiguous n)
        (fits : Fits (area_for c.p) c.w c.m block used c.moves fails (map c.b.address found) block' used') where
      -- what isn't found doesn't move
      pub unfound-still : (n : ℕ) → (In n found → ⊥) → IsStill c.b (booked c) n
      unfound-still n out = elim (cases_Bool (c.b.stands n)) [
        | inr gone ↦ gone-still c n (elim (cases_Bool (stands_on c n)) [
          | inl k ↦ absurd (false≢true (sym gone ∙ stood c n k))
          | inr k ↦ k
        ])
        | inl s ↦ unmoved-still c n (is-out (c.b.address n) c.moves (λ h.
            let q = map_in c.b.address (c.b.address n) found (fits-moves block used c.moves fails (map c.b.address found) fits (c.b.address n) h) in
            out (subst (λ (z : ℕ). In z found) (one-name c q.0 n (each q.0 q.1).0.1 s q.2) q.1)))
      ]

      pub in-order : AreBlocksBy c.p c.g c.b block used → AreDistinct found → ((a : ℕ) → In a fails → In a c.stays) → IsCopiedBy c.b found block' used'
      in-order by once failed = copied-all c.b block used c.moves fails found fits by (record {
        stands = λ n. refl;
        todo = λ n i. (refl, refl);
        done = λ n s out. let q = unfound-still n out in (sym q.address, sym q.section);
      }) once (λ a i. i) failed (λ n i. let m = each n i in (m.0.0, m.0.1, m.0.2))
