-- What a round of copying has made of the words of the nursery.
use Rattle.std.proofs.Common.{◌≡◌, ◌≢◌, ℕ, ◌+◌, ◌%◌, ◌<◌, ◌≤◌, ◌⊎◌, inl, inr, List, ◌++◌, map, get_or, true, false, refl, sym, ap, ◌∙◌, subst, arith}
use Rattle.std.proofs.lemmas.Bool.{cases_eq, cases_lt, cases_Bool}
use Rattle.std.proofs.lemmas.List.Elements.{Contains-get_or}
use Rattle.std.proofs.lemmas.Option.{slice_get_within, get_or_from_slice_get, slice_get_read}
use Rattle.std.specs.List.{Contains}
use Rattle.std.specs.List.Sorted.{IsStrictlyIncreasing}
use Rattle.sg_words.specs.Address.{IsAddress, byte_at, word_at}
use Rattle.sg_words.specs.Blocks.{slot_size}
use Rattle.sg_words.specs.Lists.{In, has}
use Rattle.sg_words.specs.Objects.{size_of}
use Rattle.sg_words.specs.Tags.{plain_word}
use Rattle.sg_words.specs.declared.pieces.Move.{Move}
use Rattle.sg_words.proofs.Blocks.{slot_size-holds, slot_fits}
use Rattle.sg_words.proofs.Numbers.{word_at-byte_at, is_address}
use Rattle.sg_words.proofs.Members.{in-left, in-right, out, in-cases, contains_in, in_contains, in_map, map_in}
use Rattle.sg_words.proofs.Sorted.{rising}
use Rattle.sg_program.specs.declared.program.Program.{Program}
use Rattle.sg_graph.specs.Graph.{Graph}
use Rattle.sg_graph.specs.Book.{Book, Young, nursery_end, old_end}
use Rattle.sg_graph.specs.Heap.{Owner, Of, Frag, Buf, Nobody, IsHeap}
use Rattle.sg_space.specs.declared.objects.Object.{Object}
use Rattle.sg_space.specs.Space.{Contents, IsContents}
use Rattle.sg_space.specs.Standing.{word, TellsYoung}
use Rattle.sg_round.specs.Area.{IsYoung, Traces}
use Rattle.sg_round.specs.Image.{IsImage}
use Rattle.sg_nursery.specs.Pieces.{AreStanding, IsTaken, first_word, word_behind}
use Rattle.sg_nursery.specs.Parts.{IsStaying, AreRounded, AreStaying, AreKept, AreCleaned, HasTagged}
use Rattle.sg_heap.specs.Fronts.{fronts, IsFronted}
use Rattle.sg_minor.specs.Joined.{ArePins, IsHome, HasSwept}
use Rattle.sg_minor.specs.Law.{AreTold, AreToldMoves, HaveWords}
use Rattle.sg_minor.proofs.Areas.{area_for}
use Rattle.sg_minor.proofs.Named.{young-section, size-at}
use Rattle.sg_minor.proofs.OldNames.{same_object}
use Rattle.sg_minor.proofs.Opens.{named, traced-young, start-owned}
use Rattle.sg_minor.proofs.Quiet.{first-word}
use Rattle.sg_minor.proofs.Starts.{AreStarts}

named_or_free : (o : Owner) → ((n : ℕ) × (o ≡ Of n)) ⊎ ((n : ℕ) → o ≢ Of n)
named_or_free (Of n) = inl (n, refl)
named_or_free (Frag f) = inr (λ n e. (let z = e in cc))
named_or_free (Buf k) = inr (λ n e. (let z = e in cc))
named_or_free Nobody = inr (λ n e. (let z = e in cc))

module _ (p : Program) (s : Contents) (g : Graph) (b : Book) (owner : ℕ → Owner) (heap : IsHeap p (word s) g b owner) (contents : IsContents s)
    (front : IsFronted p s g b owner)
    (ambiguous pins : List ℕ) (ps : ArePins g b ambiguous pins) (tagged : Contents) (tags : HasTagged (word s) pins (word tagged)) (items : List ℕ)
    (begins : AreStarts p (word s) g b pins items) where
  -- a name that is the young object at a
  abbrev pub IsYoungAt : ℕ → Type 0
  IsYoungAt a = (n : ℕ) × (n ≢ 0) × (b.stands n ≡ true) × (b.section n ≡ Young) × (b.address n ≡ a)

  pub traced : (a : ℕ) → Traces (area_for p) (word tagged) items a → IsYoungAt a
  traced a h =
      let n = named p (word s) g b owner heap ambiguous pins ps (word tagged) tags items begins a h in
      let young = traced-young p (word s) g b owner heap ambiguous pins ps (word tagged) tags items begins a h in
      (n.0, n.1, n.2, young-section p (word s) g b owner heap n.0 n.2 (subst (IsYoung (area_for p)) (sym n.3) young), n.3)

  no_pin_free : (x : ℕ) → ((n : ℕ) → owner x ≢ Of n) → has x pins ≡ false
  no_pin_free x free = out x pins (λ i.
      let q = ps.each x i in
      free q.0 (subst (λ z. owner z ≡ Of q.0) q.2 (front.owns_first q.0 q.1.0.1)))

  module _ (went stayed : List ℕ) (m v : ℕ → ℕ) (image : IsImage (area_for p) (word tagged) items (λ _. true) went stayed m v (λ _. false))
      (homes : (a : ℕ) → In a went → IsHome p (word s) g b m a) where
    pub went_named : (a : ℕ) → In a went → IsYoungAt a
    went_named a i = traced a (image.moved a i).0

    pub stayed_named : (a : ℕ) → In a stayed → IsYoungAt a
    stayed_named a i = traced a (image.failed a i).0

    home_in : (a : ℕ) → In a went → (nursery_end p ≤ m a) × (m a + size_of (word s) a ≤ old_end p)
    home_in a h =
        let q = homes a h in
        let holds = slot_size-holds (size_of (word s) a) q.small in
        let fit = slot_fits (slot_size (size_of (word s) a)) q.slot q.fits in
        let there = q.there in
        let at = q.at in
        (omega arith, omega arith)

    -- no word of the nursery is a copy's
    uncopied : (x a i : ℕ) → x < nursery_end p → In a went → x ≢ m a + i
    uncopied x a i l h e = let low = (home_in a h).0 in omega arith

    -- the first word of an object that neither moved nor failed is as it was
    pub same_first : (n : ℕ) → n ≢ 0 → b.stands n ≡ true → b.section n ≡ Young → has (b.address n) went ≡ false → has (b.address n) stayed ≡ false →
        v (b.address n) ≡ word tagged (b.address n)
    same_first n some stands young not_went not_stayed =
        let place = front.young_inside n some stands young in
        let to = place.1 in
        first-word p (word s) g b owner heap ambiguous pins ps (word tagged) tags items begins went stayed m v image n stands some not_went not_stayed
        (λ a i h l. uncopied (b.address n) a i (omega arith) h)

    failed_field : (a i : ℕ) → In a stayed → i < word tagged (a + 1) → (n : ℕ) × (owner (a + 2 + i) ≡ Of n)
    failed_field a i in_stayed l =
        let q = stayed_named a in_stayed in
        let length = size-at p (word s) g b owner heap ambiguous pins ps (word tagged) tags a q.0 q.2 q.1 q.4 in
        let at = q.4 in
        (q.0, front.owns q.0 (a + 2 + i) q.2 (omega arith) (omega arith))

    -- a word of the nursery that no object has is zero
    pub free_zero : (x : ℕ) → IsYoung (area_for p) x → ((n : ℕ) → owner x ≢ Of n) → v x ≡ 0
    free_zero x young free =
        let below = young.1 in
        image.same x
        (out x items (λ i. elim (start-owned p (word s) g b owner heap ambiguous pins ps (word tagged) tags items begins x (begins.each x i)) [
          | inl n ↦ free n.0 n.1
          | inr behind ↦ omega arith
        ]))
        refl
        (λ a i h l. uncopied x a i young.1 h)
        (out x went (λ i. let q = went_named x i in free q.0 (subst (λ z. owner z ≡ Of q.0) q.4 (front.owns_first q.0 q.2))))
        (out x stayed (λ i. let q = stayed_named x i in free q.0 (subst (λ z. owner z ≡ Of q.0) q.4 (front.owns_first q.0 q.2))))
        (λ a i in_stayed l strong e. let q = failed_field a i in_stayed l in absurd (free q.0 (subst (λ z. owner z ≡ Of q.0) (sym e) q.1)))
        ∙ tags.same x (no_pin_free x free)
        ∙ heap.laid.clear.clear x young.0 young.1 free

    -- where a moved object went
    pub went_address : (a : ℕ) → In a went → IsAddress (byte_at (m a))
    went_address a i =
        let q = home_in a i in
        let from = q.0 in
        let to = q.1 in
        let nursery = front.nursery_is in
        let blocks = front.blocks_is in
        let most_blocks = contents.layout.blocks_most in
        let most_nursery = contents.layout.nursery_most in
        is_address (m a) (omega arith) (omega arith)

    -- the first words after the round, by what has become of the object
    pinned_plain : (a c : ℕ) → word tagged a ≡ plain_word c → In a pins → ⊥
    pinned_plain a c plain i =
        let q = ps.each a i in
        let first = ap (word s) (sym q.2) ∙ front.class_is q.0 q.1.0.0 q.1.0.1 in
        let t = tags.tagged a i in
        absurd (omega arith)

    stayed_first : (n : ℕ) → n ≢ 0 → b.stands n ≡ true → In (b.address n) stayed → v (b.address n) ≡ plain_word (g.class n) + 2
    stayed_first n some stands i =
        let f = image.failed (b.address n) i in
        let same = tags.same (b.address n) (out (b.address n) pins (pinned_plain (b.address n) f.1.0 f.1.1)) in
        image.pinned (b.address n) i ∙ ap (λ z. z + 2) (same ∙ front.class_is n some stands)

    pinned_first : (n : ℕ) → n ≢ 0 → b.stands n ≡ true → b.section n ≡ Young → In (b.address n) pins → v (b.address n) ≡ plain_word (g.class n) + 2
    pinned_first n some stands young i =
        same_first n some stands young
        (out (b.address n) went (λ j. let f = image.moved (b.address n) j in pinned_plain (b.address n) f.1.0 f.1.1 i))
        (out (b.address n) stayed (λ j. let f = image.failed (b.address n) j in pinned_plain (b.address n) f.1.0 f.1.1 i))
        ∙ tags.tagged (b.address n) i ∙ ap (λ z. z + 2) (front.class_is n some stands)

    pub stays_first : (n : ℕ) → n ≢ 0 → b.stands n ≡ true → b.section n ≡ Young → In (b.address n) (pins ++ stayed) → v (b.address n) ≡ plain_word (g.class n) +
        2
    stays_first n some stands young i = elim (in-cases (b.address n) pins stayed i) [
      | inl j ↦ pinned_first n some stands young j
      | inr j ↦ stayed_first n some stands j
    ]

    pub state_first : (n : ℕ) → n ≢ 0 → b.stands n ≡ true → b.section n ≡ Young → In (b.address n) went ⊎
        (In (b.address n) (pins ++ stayed) ⊎ (v (b.address n) ≡ plain_word (g.class n)))
    state_first n some stands young = elim (cases_Bool (has (b.address n) went)) [
      | inl i ↦ inl i
      | inr not_went ↦ elim (cases_Bool (has (b.address n) stayed)) [
        | inl i ↦ inr (inl (in-right (b.address n) pins stayed i))
        | inr not_stayed ↦ elim (cases_Bool (has (b.address n) pins)) [
          | inl i ↦ inr (inl (in-left (b.address n) pins stayed i))
          | inr not_pin ↦ inr (inr (same_first n some stands young not_went not_stayed ∙ tags.same (b.address n) not_pin ∙ front.class_is n some stands))
        ]
      ]
    ]

    pub first_stays : (n : ℕ) → n ≢ 0 → b.stands n ≡ true → b.section n ≡ Young → v (b.address n) ≡ plain_word (g.class n) + 2 → In (b.address n)
        (pins ++ stayed)
    first_stays n some stands young e = elim (state_first n some stands young) [
      | inl i ↦ let f = image.forwarded (b.address n) i in absurd (omega arith)
      | inr more ↦ elim more [
        | inl i ↦ i
        | inr plain ↦ absurd (omega arith)
      ]
    ]

    pub first_went : (n to : ℕ) → n ≢ 0 → b.stands n ≡ true → b.section n ≡ Young → to % 8 ≡ 0 → v (b.address n) ≡ to + 1 → In (b.address n) went ×
        (to ≡ byte_at (m (b.address n)))
    first_went n to some stands young whole e = elim (state_first n some stands young) [
      | inl i ↦ let f = image.forwarded (b.address n) i in (i, omega arith)
      | inr more ↦ elim more [
        | inl i ↦ let f = stays_first n some stands young i in absurd (omega arith)
        | inr plain ↦ absurd (omega arith)
      ]
    ]

    -- what stays is a young object
    pub stays_named : (a : ℕ) → In a (pins ++ stayed) → IsYoungAt a
    stays_named a i = elim (in-cases a pins stayed i) [
      | inl j ↦ let q = ps.each a j in (q.0, q.1.0.0, q.1.0.1, q.1.0.2, q.2)
      | inr j ↦ stayed_named a j
    ]

    module _ (told : List Object) (tells : TellsYoung s (fronts b.address owner) told) where
      -- the name of an object of the list, and the object of a name
      told_name : (o : Object) → Contains told o → (n : ℕ) × (n ≢ 0) × (b.stands n ≡ true) × (b.section n ≡ Young) × (o.at ≡ byte_at (b.address n)) ×
          (o.class ≡ g.class n) × (o.words ≡ g.size n + 2)
      told_name o i =
          let t = tells.each i.0 o (slice_get_read told _ i.0 o refl i.1 (sym i.2)) in
          let q = front.named_front t.0 t.0 t.1 in
          let n = q.0 in
          let at = q.3 in
          let owns_it = front.owned n t.0 q.2 in
          let nursery = front.nursery_is in
          let below = t.2.1 in
          let first : word s t.0 ≡ plain_word (g.class n) = ap (word s) (sym at) ∙ front.class_is n q.1 owns_it.0 in
          let size : word s (t.0 + 1) ≡ g.size n = ap (λ z. word s (z + 1)) (sym at) ∙ front.length_is n q.1 owns_it.0 in
          let class = t.3.class in
          let words = t.3.words in
          (n, q.1, owns_it.0, front.young_there n q.1 owns_it.0 (omega arith), t.3.at ∙ ap byte_at (sym at), omega arith, omega arith)

      name_told : (n : ℕ) → n ≢ 0 → b.stands n ≡ true → b.section n ≡ Young → (o : Object) × Contains told o × (o.at ≡ byte_at (b.address n)) ×
          (o.class ≡ g.class n) × (o.words ≡ g.size n + 2)
      name_told n some stands young =
          let place = front.young_inside n some stands young in
          let from = place.0 in
          let to = place.1 in
          let nursery = front.nursery_is in
          let t = tells.all (b.address n) (front.is_owned n (b.address n) some (front.owns_first n stands))
          (from, omega arith) in
          let o = t.1 in
          let in_told : Contains told o = (t.0, slice_get_within told t.0 o t.2, get_or_from_slice_get told t.0 o o t.2) in
          let q = told_name o in_told in
          let at = q.4 in
          let is_at = t.3 in
          let same = same_object p s g b owner front q.0 n q.2 stands (omega arith) in
          (o, in_told, t.3, q.5 ∙ ap g.class same, q.6 ∙ ap (λ z. g.size z + 2) same)

      first_is : (o : Object) (n : ℕ) → o.at ≡ byte_at (b.address n) → first_word o ≡ b.address n
      first_is o n e = omega arith

      -- the objects of the list are apart
      told_apart : (q r : Object) → Contains told q → Contains told r → q.at < r.at → word_behind q ≤ first_word r
      told_apart q r i j l =
          let k = told_name q i in
          let n = told_name r j in
          let at_k = k.4 in
          let at_n = n.4 in
          let words = k.6 in
          elim (cases_lt (first_word r) (word_behind q)) [
            | inr up ↦ up
            | inl over ↦
                let mine = front.owns_first n.0 n.2 in
                let other = front.owns k.0 (b.address n.0) k.2 (omega arith) (omega arith) in
                let same = ap b.address (front.one_owner k.0 n.0 (b.address n.0) other mine) in
                absurd (omega arith)
          ]

      pub told_standing : AreStanding s.layout told
      told_standing = record {
        each = λ o i.
            let n = told_name o i in
            let at = n.4 in
            let words = n.6 in
            let place = front.young_inside n.0 n.1 n.2 n.3 in
            let from = place.0 in
            let to = place.1 in
            let nursery = front.nursery_is in
            (omega arith, omega arith, omega arith);
        apart = λ j k d l there. told_apart (get_or told j d) (get_or told k d) (Contains-get_or told j d (omega arith)) (Contains-get_or told k d there)
            (rising (λ (o : Object). o.at) told tells.in_order j k d l there);
      }

      pub told_rounded : AreRounded s.layout v told
      told_rounded = record {
        standing = told_standing;
        each = λ o i.
            let n = told_name o i in
            let at = n.4 in
            let class = n.5 in
            let few = front.few_classes n.0 n.1 n.2 in
            let first = ap v (first_is o n.0 at) in
            record {
              class = omega arith;
              whole = omega arith;
              state = elim (state_first n.0 n.1 n.2 n.3) [
                | inl w ↦ inl (byte_at (m (b.address n.0)), (went_address (b.address n.0) w, first ∙ image.forwarded (b.address n.0) w))
                | inr more ↦ inr (elim more [
                  | inl stays ↦ inl (first ∙ stays_first n.0 n.1 n.2 n.3 stays ∙ ap (λ z. plain_word z + 2) (sym class))
                  | inr plain ↦ inr (first ∙ plain ∙ ap plain_word (sym class))
                ])
              ];
            };
      }

      staying_is : (o : Object) → Contains told o → IsStaying v o → In (first_word o) (pins ++ stayed)
      staying_is o i stays =
          let n = told_name o i in
          let first = first_is o n.0 n.4 in
          subst (λ z. In z (pins ++ stayed)) (sym first) (first_stays n.0 n.1 n.2 n.3 (ap v (sym first) ∙ stays ∙ ap (λ z. plain_word z + 2) n.5))

      -- the object of a first word that stays
      object_of : (a : ℕ) → IsYoungAt a → (o : Object) × Contains told o × (first_word o ≡ a) × (o.at ≡ byte_at a) × (o.words ≡ size_of (word s) a) ×
          ((c : ℕ) × (o.class ≡ c) × (In a (pins ++ stayed) → v a ≡ plain_word c + 2))
      object_of a n =
          let q = name_told n.0 n.1 n.2 n.3 in
          let o = q.0 in
          let at = q.2 in
          let size : word s (a + 1) ≡ g.size n.0 = ap (λ z. word s (z + 1)) (sym n.4) ∙ front.length_is n.0 n.1 n.2 in
          let words = q.4 in (
            o,
            q.1,
            first_is o n.0 at ∙ n.4,
            at ∙ ap byte_at n.4,
            omega arith,
            (g.class n.0, q.3, λ i. ap v (sym n.4) ∙ stays_first n.0 n.1 n.2 n.3 (subst (λ z. In z (pins ++ stayed)) (sym n.4) i)),
          )

      is_staying : (a : ℕ) → In a (pins ++ stayed) → (o : Object) × Contains told o × (first_word o ≡ a) × (o.at ≡ byte_at a) × (o.words ≡ size_of (word s) a) ×
          IsStaying v o
      is_staying a i =
          let q = object_of a (stays_named a i) in
          (q.0, q.1, q.2, q.3, q.4, ap v q.2 ∙ q.5.2 i ∙ ap (λ z. plain_word z + 2) (sym q.5.1))

      told_size : (o : Object) → Contains told o → o.words ≡ size_of (word s) (first_word o)
      told_size o i =
          let n = told_name o i in
          let first = first_is o n.0 n.4 in
          let size : word s (first_word o + 1) ≡ g.size n.0 = ap (λ z. word s (z + 1)) first ∙ front.length_is n.0 n.1 n.2 in
          let words = n.6 in
          omega arith

      told_owner : (o : Object) (x : ℕ) → Contains told o → first_word o ≤ x → x < word_behind o → (n : ℕ) × (owner x ≡ Of n)
      told_owner o x i from to =
          let n = told_name o i in
          let at = n.4 in
          let words = n.6 in
          (n.0, front.owns n.0 x n.2 (omega arith) (omega arith))

      not_taken : (x : ℕ) → ((n : ℕ) → owner x ≢ Of n) → IsTaken told x → ⊥
      not_taken x free t = let q = told_owner t.0 x t.1 t.2 t.3 in free q.0 q.1

      -- a sweep
      module _ (new : ℕ → ℕ) (cleaned : AreCleaned told v new) where
        swept_zero : (x : ℕ) → IsYoung (area_for p) x → ((a : ℕ) → In a (pins ++ stayed) → a ≤ x → x < a + size_of (word s) a → ⊥) →
            ((n : ℕ) × (owner x ≡ Of n)) ⊎ ((n : ℕ) → owner x ≢ Of n) → new x ≡ 0
        swept_zero x young none (inr free) = cleaned.others x (not_taken x free) ∙ free_zero x young free
        swept_zero x young none (inl q) =
            let n = q.0 in
            let o = front.owned n x q.1 in
            let from = o.1 in
            let to = o.2 in
            let low = young.0 in
            let high = young.1 in
            let nursery = front.nursery_is in
            let some : n ≢ 0 = λ z. (let at = ap b.address z ∙ heap.laid.nothing.at_nil in let nil = ap g.size z ∙ heap.laid.nothing.no_size in absurd
            (omega arith)) in
            let is_young = front.young_there n some o.0 (omega arith) in
            let t = name_told n some o.0 is_young in
            let at = t.2 in
            let words = t.4 in
            elim (cases_eq (v (first_word t.0)) (plain_word t.0.class + 2)) [
              | inl stays ↦
                  let size = told_size t.0 t.1 in
                  absurd (none (first_word t.0) (staying_is t.0 t.1 stays) (omega arith) (omega arith))
              | inr goes ↦ cleaned.zero t.0 x t.1 goes (omega arith) (omega arith)
            ]

        pub has_swept : HasSwept (area_for p) (word s) (pins ++ stayed) v new
        has_swept = record {
          untagged = λ a i.
              let q = is_staying a i in
              subst (λ z. new z + 2 ≡ v z) q.2 (cleaned.untagged q.0 q.1 q.5);
          kept = λ a y i from to.
              let q = is_staying a i in
              let first = q.2 in
              let words = q.4 in
              cleaned.kept q.0 y q.1 q.5 (omega arith) (omega arith);
          swept = λ x young none. swept_zero x young none (named_or_free (owner x));
          others = λ y old. cleaned.others y (λ t.
              let place = told_standing.each t.0 t.1 in
              let low = place.1 in
              let high = place.2 in
              let from = t.2 in
              let to = t.3 in
              let nursery = front.nursery_is in
              old (omega arith, omega arith));
        }

      -- the lists
      module _ (bytes : List ℕ) (order : IsStrictlyIncreasing bytes) (whole : (a : ℕ) → Contains bytes a → byte_at (word_at a) ≡ a)
          (same : pins ≡ map word_at bytes) where
        byte_of : (x : ℕ) → In x pins → Contains bytes (byte_at x)
        byte_of x i =
            let q = map_in word_at x bytes (subst (λ l. In x l) same i) in
            let in_bytes = contains_in q.0 bytes q.1 in
            subst (Contains bytes) (sym (whole q.0 in_bytes) ∙ ap byte_at q.2) in_bytes

        pin_of : (a : ℕ) → Contains bytes a → In (word_at a) pins
        pin_of a i = subst (λ l. In (word_at a) l) (sym same) (in_map word_at a bytes (in_contains a bytes i))

        pub told_pins : AreTold bytes pins
        told_pins = record {
          in_order = order;
          exact = λ a. (
            (λ i. (word_at a, pin_of a i, sym (whole a i))),
            λ q. subst (Contains bytes) (sym q.2) (byte_of q.0 q.1),
          );
        }

        pub told_staying : AreStaying v told bytes
        told_staying = record {
          in_order = order;
          each = λ a i.
              let q = is_staying (word_at a) (in-left (word_at a) pins stayed (pin_of a i)) in
              (q.0, q.1, q.5, q.3 ∙ whole a i);
        }

        module _ (standing : List Object) (moves : List Move) (fails : List ℕ) (kept : AreKept s.layout v told bytes standing moves fails) where
          same_move : (move : Move) (x : ℕ) → move.from ≡ byte_at x → move.to ≡ byte_at (m x) → move ≡ record { from = byte_at x; to = byte_at (m x) }
          same_move move x e f = ap (λ z. record { from = z; to = move.to }) e ∙ ap (λ z. record { from = byte_at x; to = z }) f

          pub told_moves : AreToldMoves moves went m
          told_moves = record {
            in_order = kept.moves_in_order;
            exact = λ move. (
              (λ i.
                  let q = (kept.move move).0 i in
                  let n = told_name q.0 q.1 in
                  let first = first_is q.0 n.0 n.4 in
                  let w = first_went n.0 move.to n.1 n.2 n.3 q.2.0.2 (ap v (sym first) ∙ q.2.1) in
                  (b.address n.0, w.0, same_move move (b.address n.0) (q.3 ∙ n.4) w.1)),
              λ q.
                  let o = object_of q.0 (went_named q.0 q.1) in
                  subst (Contains moves) (sym q.2) ((kept.move (record { from = byte_at q.0; to = byte_at (m q.0) })).1
                  (o.0, o.1, (went_address q.0 q.1, ap v o.2 ∙ image.forwarded q.0 q.1), sym o.3)),
            );
          }

          pub told_fails : AreTold fails stayed
          told_fails = record {
            in_order = kept.fails_in_order;
            exact = λ a. (
              (λ i.
                  let q = (kept.fail a).0 i in
                  let n = told_name q.0 q.1 in
                  let at = n.4 in
                  let is_at = q.3 in
                  let h = first_word q.0 in
                  let byte : a ≡ byte_at h = omega arith in
                  elim (in-cases h pins stayed (staying_is q.0 q.1 q.2)) [
                    | inl pin ↦ absurd (q.4 (subst (Contains bytes) (sym byte) (byte_of h pin)))
                    | inr j ↦ (h, j, byte)
                  ]),
              λ q.
                  let o = is_staying q.0 (in-right q.0 pins stayed q.1) in
                  let f = image.failed q.0 q.1 in
                  (kept.fail a).1 (
                    o.0,
                    o.1,
                    o.5,
                    o.3 ∙ sym q.2,
                    λ pin.
                        pinned_plain q.0 f.1.0 f.1.1 (subst (λ z. In z pins) (ap word_at q.2 ∙ word_at-byte_at q.0) (pin_of a pin)),
                  ),
            );
          }

          pub have_words : HaveWords standing (word s) (pins ++ stayed)
          have_words x = (
            (λ t.
                let q = (kept.stand t.0).0 t.1 in
                let size = told_size t.0 q.0 in
                let from = t.2 in
                let to = t.3 in
                (first_word t.0, staying_is t.0 q.0 q.1, from, omega arith)),
            λ q.
                let o = is_staying q.0 q.1 in
                let first = o.2 in
                let words = o.4 in
                let from = q.2 in
                let to = q.3 in
                (o.0, (kept.stand o.0).1 (o.1, o.5), omega arith, omega arith),
          )
