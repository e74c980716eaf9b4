-- The merge of words in order with objects in order, one object at a time.
use Rattle.std.proofs.Common.{◌≡◌, ℕ, zero, suc, ◌+◌, ◌*◌, ◌<◌, ◌≤◌, List, [], ◌∷◌, ◌++◌, length, get_or, take, map, arith, inl, inr, sym, subst, add-one, ap, ◌∙◌, zero-le}
use Rattle.std.specs.List.{Contains}
use Rattle.std.specs.List.Sorted.{IsNonDecreasing, IsStrictlyIncreasing}
use Rattle.std.proofs.lemmas.Bool.{cases_eq, cases_lt}
use Rattle.std.proofs.lemmas.List.{get_or-map, get_or-take, length-map, take_more, get_or_append_left, get_or_push, length_push, get_or_default, length-take-le, take_all}
use Rattle.std.proofs.lemmas.List.Elements.{Contains-get_or, Contains-append_left, Contains-push, Contains-push_cases}
use Rattle.sg_space.specs.declared.objects.Object.{Object}
use Rattle.sg_words.proofs.Sorted.{rising, increasing_push}
use Rattle.sg_pins.specs.Pins.{IsReached, AreReached}

-- after i objects: what is pinned is what the words reach among them, and the words below the index are below the others
pub record IsMerged (words : List ℕ) (objects : List Object) (i index : ℕ) (pinned : List ℕ) : Type 0 where
  pub reached : AreReached words (take i objects) pinned
  pub index_in : index ≤ length words
  pub passed : (k j : ℕ) (d : Object) → k < index → i ≤ j → j < length objects → get_or words k 0 < (get_or objects j d).at

reached_more : (words : List ℕ) (objects : List Object) (pinned : List ℕ) (o : Object) → AreReached words objects pinned → ((before : Object) → Contains objects before → before.at < o.at) → IsReached words o → AreReached words (objects ++ o ∷ []) (pinned ++ o.at ∷ [])
reached_more words objects pinned o r above hit = record {
  in_order = increasing_push pinned o.at r.in_order (λ a in_pinned. let w = r.each a in_pinned in let lower = above w.0 w.1 in let e = w.2 in omega arith);
  each = λ a in_pinned. elim (Contains-push_cases pinned o.at a in_pinned) [
    | inl old ↦ let w = r.each a old in (w.0, Contains-append_left objects (o ∷ []) w.0 w.1, w.2, w.3)
    | inr new ↦ (o, Contains-push objects o, new, hit)
  ];
  all = λ p in_objects reached. elim (Contains-push_cases objects o p in_objects) [
    | inl old ↦ Contains-append_left pinned (o.at ∷ []) p.at (r.all p old reached)
    | inr new ↦ subst (λ (q : Object). Contains (pinned ++ o.at ∷ []) q.at) new (Contains-push pinned o.at)
  ];
}

reached_same : (words : List ℕ) (objects : List Object) (pinned : List ℕ) (o : Object) → AreReached words objects pinned → (IsReached words o → ⊥) → AreReached words (objects ++ o ∷ []) pinned
reached_same words objects pinned o r miss = record {
  in_order = r.in_order;
  each = λ a in_pinned. let w = r.each a in_pinned in (w.0, Contains-append_left objects (o ∷ []) w.0 w.1, w.2, w.3);
  all = λ p in_objects reached. elim (Contains-push_cases objects o p in_objects) [
    | inl old ↦ r.all p old reached
    | inr new ↦ absurd (miss (subst (λ (q : Object). IsReached words q) (sym new) reached))
  ];
}

below_here : (objects : List Object) (i : ℕ) (o before : Object) → IsStrictlyIncreasing (map (λ (o : Object). o.at) objects) → i < length objects → o ≡ get_or objects i o → Contains (take i objects) before → before.at < o.at
below_here objects i o before up l is w =
    let within = length-take-le i objects (omega arith) in
    let lower = w.1 in
    let k : w.0 < i = omega arith in
    let there : get_or objects w.0 before ≡ before = sym (get_or-take i objects w.0 before k) ∙ w.2 in
    let here : get_or objects i before ≡ o = get_or_default objects i before o l ∙ sym is in
    let rises = rising (λ (o : Object). o.at) objects up w.0 i before k l in
    let first = ap (λ (p : Object). p.at) there in
    let second = ap (λ (p : Object). p.at) here in
    omega arith

-- what a step of the merge knows: the object, the words that it passed, and where it stopped
pub record IsStep (words : List ℕ) (objects : List Object) (i from index : ℕ) (o : Object) : Type 0 where
  pub ascending : IsNonDecreasing words
  pub rises : IsStrictlyIncreasing (map (λ (o : Object). o.at) objects)
  pub there : i < length objects
  pub is : o ≡ get_or objects i o
  pub within : index ≤ length words
  pub below : (k : ℕ) → from ≤ k → k < index → get_or words k 0 < o.at
  pub first : index < length words → o.at ≤ get_or words index 0

still_passed : (words : List ℕ) (objects : List Object) (i from index : ℕ) (pinned : List ℕ) (o : Object) → IsMerged words objects i from pinned → IsStep words objects i from index o → (k j : ℕ) (d : Object) → k < index → i + 1 ≤ j → j < length objects → get_or words k 0 < (get_or objects j d).at
still_passed words objects i from index pinned o m s k j d l a b = elim (cases_lt k from) [
  | inl old ↦ m.passed k j d old (omega arith) b
  | inr new ↦
      let lower = s.below k new l in
      let rises = rising (λ (o : Object). o.at) objects s.rises i j d (omega arith) b in
      let here = ap (λ (p : Object). p.at) (get_or_default objects i d o s.there ∙ sym s.is) in
      omega arith
]

pub merged_hit : (words : List ℕ) (objects : List Object) (i from index : ℕ) (pinned : List ℕ) (o : Object) → IsMerged words objects i from pinned → IsStep words objects i from index o → index < length words → get_or words index 0 < o.at + 8 * o.words → IsMerged words objects (i + 1) index (pinned ++ o.at ∷ [])
merged_hit words objects i from index pinned o m s l u =
    let hit : IsReached words o = (get_or words index 0, Contains-get_or words index 0 l, s.first l, u) in
    let grown = reached_more words (take i objects) pinned o m.reached (λ before w. below_here objects i o before s.rises s.there s.is w) hit in
    let longer : take (i + 1) objects ≡ take i objects ++ o ∷ [] = take_more objects i o s.there ∙ ap (λ (p : Object). take i objects ++ p ∷ []) (sym s.is) in
    record {
      reached = subst (λ (os : List Object). AreReached words os (pinned ++ o.at ∷ [])) (sym longer) grown;
      index_in = s.within;
      passed = still_passed words objects i from index pinned o m s;
    }

not_reached : (words : List ℕ) (objects : List Object) (i from index : ℕ) (pinned : List ℕ) (o : Object) → IsMerged words objects i from pinned → IsStep words objects i from index o → (index < length words → get_or words index 0 < o.at + 8 * o.words → ⊥) → IsReached words o → ⊥
not_reached words objects i from index pinned o m s miss w =
    let k = w.1.0 in
    let in_words = w.1.1 in
    let v : get_or words k 0 ≡ w.0 = get_or_default words k 0 w.0 in_words ∙ w.1.2 in
    let at_least = w.2 in
    let at_most = w.3 in
    elim (cases_lt k from) [
      | inl old ↦
          let here = ap (λ (p : Object). p.at) (sym s.is) in
          let lower = m.passed k i o old (omega arith) s.there in
          omega arith
      | inr new ↦ elim (cases_lt k index) [
        | inl passed ↦ let lower = s.below k new passed in omega arith
        | inr past ↦
            let up = s.ascending index k 0 past in_words in
            miss (omega arith) (omega arith)
      ]
    ]

pub merged_miss : (words : List ℕ) (objects : List Object) (i from index : ℕ) (pinned : List ℕ) (o : Object) → IsMerged words objects i from pinned → IsStep words objects i from index o → (index < length words → get_or words index 0 < o.at + 8 * o.words → ⊥) → IsMerged words objects (i + 1) index pinned
merged_miss words objects i from index pinned o m s miss =
    let grown = reached_same words (take i objects) pinned o m.reached (not_reached words objects i from index pinned o m s miss) in
    let longer : take (i + 1) objects ≡ take i objects ++ o ∷ [] = take_more objects i o s.there ∙ ap (λ (p : Object). take i objects ++ p ∷ []) (sym s.is) in
    record {
      reached = subst (λ (os : List Object). AreReached words os pinned) (sym longer) grown;
      index_in = s.within;
      passed = still_passed words objects i from index pinned o m s;
    }

-- the merge begins, and ends
pub merged_none : (words : List ℕ) (objects : List Object) → IsMerged words objects 0 0 []
merged_none words objects = record {
  reached = record {
    in_order = λ k l. absurd (omega arith);
    each = λ a w. let l = w.1 in absurd (omega arith);
    all = λ o w hit. let l = w.1 in absurd (omega arith);
  };
  index_in = zero-le;
  passed = λ k j d l a b. absurd (omega arith);
}

pub merged_all : (words : List ℕ) (objects : List Object) (i index : ℕ) (pinned : List ℕ) → length objects ≤ i → IsMerged words objects i index pinned → AreReached words objects pinned
merged_all words objects i index pinned l m = subst (λ (os : List Object). AreReached words os pinned) (take_all i objects l) m.reached
