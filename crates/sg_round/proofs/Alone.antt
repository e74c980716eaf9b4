-- How a round of one worker stands to the order of its objects.
use Rattle.std.proofs.Common.{◌≡◌, ℕ, ◌<◌, ◌⊎◌, List, [], ◌∷◌, ◌++◌, map, sym, refl, ap, ◌∙◌, subst, inl, inr}
use Rattle.std.proofs.lemmas.List.{append-nil, append_assoc}
use Rattle.std.specs.Int.{bit_at}
use Rattle.sg_words.specs.Address.{byte_at}
use Rattle.sg_words.specs.Tags.{plain_word}
use Rattle.sg_words.specs.Lists.{has, In}
use Rattle.sg_words.specs.Words.{Words}
use Rattle.sg_words.specs.Found.{IsFoundBy}
use Rattle.sg_words.specs.Found.IsFoundBy.{Finds}
use Rattle.sg_words.specs.declared.steps.BlockWord.{BlockWord}
use Rattle.sg_words.specs.declared.steps.BlockWord.TheVariants.{Free}
use Rattle.sg_words.proofs.Members.{in-here, in-there, out, not-in}
use Rattle.sg_round.specs.Area.{Area, IsYoung, place}
use Rattle.sg_round.specs.Items.{WholeOf, slots_of}
use Rattle.sg_round.specs.Worker.{Size, Room, Take, Slots, Mark, Body, Puts, Swap, Pin, Send, Dirty, Mid, Idle, Took, Count, On, Offer}
use Rattle.sg_round.specs.Worker.{Seek, Grab, Over, Worker, size_for}
use Rattle.sg_round.specs.Rules.{Effect, ended, moved, failed}
use Rattle.sg_round.specs.Order.{targets, strong_of, leads, IsLowest, Fits}
use Rattle.sg_round.specs.Round.{Start, Round, IsSettled}
use Rattle.sg_round.proofs.Relation.{InRound, IsWhole, IsKnown, IsKnownItem, AreKnown, in_hand, todo_of, Kept}
use Rattle.sg_round.proofs.Steps.{plain-not-fixed}
use Rattle.sg_round.proofs.Frame.{slots_in-later, slots_of-later}
use Rattle.sg_round.proofs.Moves.{Before}
use Rattle.sg_round.proofs.Queue.{firsts, targets-last, targets-append, in-firsts, firsts-old, firsts-new, target-is, target-cases, map-same}
use Rattle.sg_round.proofs.Fits.{with_block, with_bit, fits-in, fits-out, fits-map}

-- the source of the slot in hand, where its object is known to have moved or to stay
abbrev pub seen : Round → Mid → List ℕ
seen r (On s (Send to)) = r.source s ∷ []
seen r (On s Dirty) = r.source s ∷ []
seen r mid = []

-- one worker takes from no cell, and offers nothing
abbrev pub IsAlone : Mid → Type 0
IsAlone (Took item) = ⊥
IsAlone (Offer i next) = ⊥
IsAlone (Grab i item) = ⊥
IsAlone mid = Unit {0}

-- the object to be copied hasn't moved or failed meanwhile
abbrev pub IsWholeAt : Round → Mid → Type 0
IsWholeAt r (On s (Size x class)) = IsWhole r x
IsWholeAt r (On s (Room o b)) = IsWhole r o.x
IsWholeAt r (On s (Take o b)) = IsWhole r o.x
IsWholeAt r (On s (Slots o b)) = IsWhole r o.x
IsWholeAt r (On s (Mark o b i)) = IsWhole r o.x
IsWholeAt r (On s (Body o at j)) = IsWhole r o.x
IsWholeAt r (On s (Puts o at j u)) = IsWhole r o.x
IsWholeAt r (On s (Swap o at)) = IsWhole r o.x
IsWholeAt r (On s (Pin o)) = IsWhole r o.x
IsWholeAt r mid = Unit {0}

-- the block words and the occupancies are those after the objects found so far; but for a block that was just taken; or but for a
-- slot that was just claimed
abbrev pub IsNow : (ℕ → BlockWord) → (ℕ → ℕ) → (ℕ → BlockWord) → (ℕ → ℕ) → Type 0
IsNow now bits block used = (now ≡ block) × (bits ≡ used)

pub record IsOpened (now : ℕ → BlockWord) (bits : ℕ → ℕ) (block : ℕ → BlockWord) (used : ℕ → ℕ) (z b : ℕ) : Type 0 where
  pub free : block b ≡ Free
  pub bare : (i : ℕ) → bit_at (used b) i ≡ 0
  pub is : now ≡ with_block block b z
  pub same : bits ≡ used

pub record IsPlacing (area : Area) (now : ℕ → BlockWord) (bits : ℕ → ℕ) (block : ℕ → BlockWord) (used : ℕ → ℕ) (z at : ℕ) : Type 0 where
  pub b : ℕ
  pub i : ℕ
  pub low : IsLowest area block used z b i
  pub place_is : at ≡ place area b z i
  pub blocks_are : now ≡ with_block block b z
  pub bits_are : bits ≡ with_bit used b i

abbrev pub AtFit : Area → (ℕ → BlockWord) → (ℕ → ℕ) → (ℕ → BlockWord) → (ℕ → ℕ) → Mid → Type 0
AtFit area now bits block used (On s (Room o b)) = IsNow now bits block used ⊎ IsOpened now bits block used (size_for o) b
AtFit area now bits block used (On s (Slots o b)) = IsNow now bits block used ⊎ IsOpened now bits block used (size_for o) b
AtFit area now bits block used (On s (Mark o b i)) =
    (IsNow now bits block used ⊎ IsOpened now bits block used (size_for o) b) × (bit_at (bits b) i ≡ 0) × ((j : ℕ) → j < i → bit_at (bits b) j ≡ 1)
AtFit area now bits block used (On s (Body o at j)) = IsPlacing area now bits block used (size_for o) at
AtFit area now bits block used (On s (Puts o at j u)) = IsPlacing area now bits block used (size_for o) at
AtFit area now bits block used (On s (Swap o at)) = IsPlacing area now bits block used (size_for o) at
AtFit area now bits block used mid = IsNow now bits block used

-- The slots that one worker has gone through, as those of the opening, then those to come, are its first slots and then those of the
-- objects found; these are what the former refer to, and took their places one after another.
pub record IsQueued (t : Start) (items : List ℕ) (v : Words) (r : Round) (a : Worker) : Type 0 where
  pub gone : List ℕ
  pub found : List ℕ
  pub block : ℕ → BlockWord
  pub used : ℕ → ℕ
  pub line : gone ++ map r.source (todo_of t r.source a) ≡ items ++ strong_of t.area t.words.word found
  pub order : found ≡ firsts [] (targets t.area t.words.word (gone ++ seen r a.mid))
  pub each : IsFoundBy (λ _. Unit {0}) (leads t.area t.words.word items) found
  pub parts : Fits t.area t.words.word r.m t.words.block t.words.used r.moves r.fails found block used
  pub now : AtFit t.area v.block v.used block used a.mid
  pub whole : IsWholeAt r a.mid
  pub none : (z : ℕ) → a.spare z ≡ 0
  pub alone : IsAlone a.mid
  pub cells : (i : ℕ) → v.cell i ≡ 0

-- what is in a worker's hand is known
abbrev pub IsHandKnown : Start → Round → Mid → Type 0
IsHandKnown t r (Took item) = IsKnownItem t r item
IsHandKnown t r (Count x class) = IsKnown t.wholes r x
IsHandKnown t r (Offer i next) = IsHandKnown t r next
IsHandKnown t r mid = Unit {0}

-- one step of worker 0, which is a and then b
module _ (t : Start) (items : List ℕ) (others : ℕ → Type 0) (v v' : Words) (r : Round) (a b : Worker) (effect : Effect) (n : Before t others 0 v r a)
    (s : Kept t others 0 v r a effect v' b)
    (q : IsQueued t items v r a) where
  abbrev w : ℕ → ℕ
  w = t.words.word

  pub in-round : (z : ℕ) → In z (todo_of t r.source a) → InRound t r z
  in-round z i = n.going.slots z (inl (inr (inl i)))

  -- the sources of the slots to come stay
  pub map-kept : (xs : List ℕ) → ((z : ℕ) → In z xs → InRound t r z) → map s.round.source xs ≡ map r.source xs
  map-kept xs h = map-same r.source s.round.source xs (λ z i. s.later.sources z (h z i))

  hand-kept : (mid : Mid) → IsHandKnown t r mid → in_hand t s.round.source mid ≡ in_hand t r.source mid
  hand-kept Idle h = cc
  hand-kept (Took item) h = slots_in-later s.later item h
  hand-kept (Count x class) h = slots_in-later s.later (WholeOf x) h
  hand-kept (On z stage) h = cc
  hand-kept (Offer i next) h = hand-kept next h
  hand-kept (Seek i) h = cc
  hand-kept (Grab i item) h = cc
  hand-kept Over h = cc

  todo-kept : AreKnown t r b.list → IsHandKnown t r b.mid → todo_of t s.round.source b ≡ todo_of t r.source b
  todo-kept list hand =
      ap (λ (l : List ℕ). l ++ (b.hand ++ slots_of t.area w s.round.source b.list)) (hand-kept b.mid hand)
      ∙ ap (λ (l : List ℕ). in_hand t r.source b.mid ++ (b.hand ++ l)) (slots_of-later s.later b.list list)

  pub moves-same : moved effect ≡ [] → s.round.moves ≡ r.moves
  moves-same e = s.told.1 ∙ ap (λ (l : List ℕ). r.moves ++ l) e ∙ append-nil r.moves

  pub fails-same : failed effect ≡ [] → s.round.fails ≡ r.fails
  fails-same e = s.told.2 ∙ ap (λ (l : List ℕ). r.fails ++ l) e ∙ append-nil r.fails

  pub whole-same : moved effect ≡ [] → failed effect ≡ [] → (x : ℕ) → IsWhole r x → IsWhole s.round x
  whole-same em ef x h = (ap (has x) (moves-same em) ∙ h.0, ap (has x) (fails-same ef) ∙ h.1)

  parts-same : moved effect ≡ [] → failed effect ≡ [] → Fits t.area w s.round.m t.words.block t.words.used s.round.moves s.round.fails q.found q.block q.used
  parts-same em ef = subst (λ (l : List ℕ). Fits t.area w s.round.m t.words.block t.words.used l s.round.fails q.found q.block q.used) (sym (moves-same em))
      (subst (λ (l : List ℕ). Fits t.area w s.round.m t.words.block t.words.used r.moves l q.found q.block q.used) (sym (fails-same ef))
      (fits-map t.area w r.m s.round.m q.block q.used t.words.block t.words.used r.moves r.fails q.found (λ x h. (s.later.moves x h).1) q.parts))

  -- what was found isn't found again
  known : (gone : List ℕ) (u : ℕ) → q.found ≡ firsts [] (targets t.area w gone) →
      ((x : ℕ) → w u ≡ byte_at x → IsYoung t.area x → IsSettled w r.moves r.fails x) →
      firsts [] (targets t.area w (gone ++ u ∷ [])) ≡ firsts [] (targets t.area w gone)
  known gone u order st = ap (firsts []) (targets-last t.area w gone u) ∙ elim (target-cases t.area w (w u)) [
    | inl e ↦ ap (firsts []) (ap (λ (l : List ℕ). targets t.area w gone ++ l) e ∙ append-nil (targets t.area w gone))
    | inr h ↦ ap (λ (l : List ℕ). firsts [] (targets t.area w gone ++ l)) h.5
        ∙ firsts-old [] (targets t.area w gone) h.0 (inr (subst (λ (l : List ℕ). In h.0 l) order (was h.0 h.1 h.4 (st h.0 h.2 h.3))))
  ]
    where
      was : (x c : ℕ) → w x ≡ plain_word c → IsSettled w r.moves r.fails x → In x q.found
      was x c p (inl h) = fits-in t.area w r.m x q.block q.used t.words.block t.words.used r.moves r.fails q.found q.parts (inl h)
      was x c p (inr (inl h)) = fits-in t.area w r.m x q.block q.used t.words.block t.words.used r.moves r.fails q.found q.parts (inr h)
      was x c p (inr (inr h)) = absurd (plain-not-fixed (w x) c h.0 p h.1)

  -- an object that hasn't moved or failed wasn't found
  pub unfound : (x : ℕ) → IsWhole r x → In x q.found → ⊥
  unfound x whole i = elim (fits-out t.area w r.m x q.block q.used t.words.block t.words.used r.moves r.fails q.found q.parts i) [
    | inl h ↦ not-in x r.moves whole.0 h
    | inr h ↦ not-in x r.fails whole.1 h
  ]

  -- a new one is found
  pub new-order : (gone : List ℕ) (u x c : ℕ) → q.found ≡ firsts [] (targets t.area w gone) → w u ≡ byte_at x → IsYoung t.area x → w x ≡ plain_word c →
      IsWhole r x →
      q.found ++ x ∷ [] ≡ firsts [] (targets t.area w (gone ++ u ∷ []))
  new-order gone u x c order e y p whole =
      sym (ap (firsts []) (targets-last t.area w gone u ∙ ap (λ (l : List ℕ). targets t.area w gone ++ l) (target-is t.area w (w u) x c e y p))
      ∙ firsts-new [] (targets t.area w gone) x (λ i. (let z = i in cc)) (λ i. unfound x whole (subst (λ (l : List ℕ). In x l) (sym order) i))
      ∙ ap (λ (l : List ℕ). l ++ x ∷ []) (sym order))

  pub new-each : (gone rest : List ℕ) (u x c : ℕ) → gone ++ u ∷ rest ≡ items ++ strong_of t.area w q.found → q.found ≡ firsts [] (targets t.area w gone) →
      w u ≡ byte_at x → IsYoung t.area x →
      w x ≡ plain_word c → IsWhole r x → IsFoundBy (λ _. Unit {0}) (leads t.area w items) (q.found ++ x ∷ [])
  new-each gone rest u x c line order e y p whole = Finds q.found x q.each (record {
    passed = targets t.area w gone;
    rest = targets t.area w rest;
    split = ap (targets t.area w) (sym line) ∙ targets-append t.area w gone (u ∷ rest)
        ∙ ap (λ (l : List ℕ). targets t.area w gone ++ (l ++ targets t.area w rest)) (target-is t.area w (w u) x c e y p);
    of_sort = tt;
    new = out x q.found (unfound x whole);
    known = λ z i _. elim (in-firsts [] (targets t.area w gone) z i) [
      | inl k ↦ absurd (let g = k in cc)
      | inr k ↦ subst (λ (l : List ℕ). In z l) (sym order) k
    ];
  })

  module _ (em : moved effect ≡ []) (ef : failed effect ≡ []) (list : AreKnown t r b.list) (hand : IsHandKnown t r b.mid)
      (now : AtFit t.area v'.block v'.used q.block q.used b.mid)
      (whole : IsWholeAt s.round b.mid) (none : (z : ℕ) → b.spare z ≡ 0) (alone : IsAlone b.mid) (cells : (i : ℕ) → v'.cell i ≡ 0) where
    -- nothing is found, and no slot ends
    stays : todo_of t r.source b ≡ todo_of t r.source a → q.found ≡ firsts [] (targets t.area w (q.gone ++ seen s.round b.mid)) → IsQueued t items v' s.round b
    stays e order = record {
      gone = q.gone;
      found = q.found;
      block = q.block;
      used = q.used;
      line = ap (λ (l : List ℕ). q.gone ++ map s.round.source l) (todo-kept list hand ∙ e)
          ∙ ap (λ (l : List ℕ). q.gone ++ l) (map-kept (todo_of t r.source a) in-round) ∙ q.line;
      order = order;
      each = q.each;
      parts = parts-same em ef;
      now = now;
      whole = whole;
      none = none;
      alone = alone;
      cells = cells;
    }

    pub same : todo_of t r.source b ≡ todo_of t r.source a → seen r a.mid ≡ [] → seen s.round b.mid ≡ [] → IsQueued t items v' s.round b
    same e f g = stays e (q.order ∙ ap (λ (l : List ℕ). firsts [] (targets t.area w (q.gone ++ l))) (f ∙ sym g))

    -- the object of the slot z in hand is known to have moved, or to stay
    pub learns : (z : ℕ) → InRound t r z → todo_of t r.source b ≡ todo_of t r.source a → seen r a.mid ≡ [] → seen s.round b.mid ≡ s.round.source z ∷ [] →
        ((x : ℕ) → w (r.source z) ≡ byte_at x → IsYoung t.area x → IsSettled w r.moves r.fails x) → IsQueued t items v' s.round b
    learns z slot e f g st =
        let o = q.order ∙ ap (λ (l : List ℕ). firsts [] (targets t.area w (q.gone ++ l))) f
        ∙ ap (λ (l : List ℕ). firsts [] (targets t.area w l)) (append-nil q.gone) in
        stays e (o ∙ sym (known q.gone (r.source z) o st)
        ∙ ap (λ (l : List ℕ). firsts [] (targets t.area w (q.gone ++ l))) (ap (λ (u : ℕ). u ∷ []) (sym (s.later.sources z slot)) ∙ sym g))

    -- a slot ends
    ends-one : (z : ℕ) → todo_of t r.source a ≡ z ∷ todo_of t r.source b →
        q.found ≡ firsts [] (targets t.area w ((q.gone ++ r.source z ∷ []) ++ seen s.round b.mid)) → IsQueued t items v' s.round b
    ends-one z e order = record {
      gone = q.gone ++ r.source z ∷ [];
      found = q.found;
      block = q.block;
      used = q.used;
      line = append_assoc q.gone (r.source z ∷ []) (map s.round.source (todo_of t s.round.source b))
          ∙ ap (λ (l : List ℕ). q.gone ++ r.source z ∷ map s.round.source l) (todo-kept list hand)
          ∙ ap (λ (l : List ℕ). q.gone ++ r.source z ∷ l)
          (map-kept (todo_of t r.source b) (λ y i. in-round y (subst (λ (l : List ℕ). In y l) (sym e) (in-there y z (todo_of t r.source b) i))))
          ∙ ap (λ (l : List ℕ). q.gone ++ map r.source l) (sym e) ∙ q.line;
      order = order;
      each = q.each;
      parts = parts-same em ef;
      now = now;
      whole = whole;
      none = none;
      alone = alone;
      cells = cells;
    }

    -- one ends whose object hadn't been looked at, and one whose had
    pub quiet-end : (z : ℕ) → ended effect ≡ z ∷ [] → todo_of t r.source a ≡ z ∷ todo_of t r.source b → seen r a.mid ≡ [] → seen s.round b.mid ≡ [] →
        IsQueued t items v' s.round b
    quiet-end z ee e f g =
        let slot = in-round z (subst (λ (l : List ℕ). In z l) (sym e) (in-here z z (todo_of t r.source b) refl)) in
        let o = q.order ∙ ap (λ (l : List ℕ). firsts [] (targets t.area w (q.gone ++ l))) f
        ∙ ap (λ (l : List ℕ). firsts [] (targets t.area w l)) (append-nil q.gone) in
        let done : In z s.round.handled = subst (λ (l : List ℕ). In z l) (sym (s.told.0 ∙ ap (λ (l : List ℕ). l ++ r.handled) ee))
        (in-here z z r.handled refl) in
        let st : (x : ℕ) → w (r.source z) ≡ byte_at x → IsYoung t.area x → IsSettled w r.moves r.fails x = λ x h y.
        subst (λ (l : List ℕ). IsSettled w r.moves l x) (fails-same ef) (subst (λ (l : List ℕ). IsSettled w l s.round.fails x) (moves-same em)
        (s.going.settled z x done (ap w (s.later.sources z slot) ∙ h) y)) in
        ends-one z e (o ∙ sym (known q.gone (r.source z) o st)
        ∙ ap (λ (l : List ℕ). firsts [] (targets t.area w l)) (sym (append-nil (q.gone ++ r.source z ∷ []))
        ∙ ap (λ (l : List ℕ). (q.gone ++ r.source z ∷ []) ++ l) (sym g)))

    pub end-seen : (z : ℕ) → todo_of t r.source a ≡ z ∷ todo_of t r.source b → seen r a.mid ≡ r.source z ∷ [] → seen s.round b.mid ≡ [] →
        IsQueued t items v' s.round b
    end-seen z e f g = ends-one z e (q.order ∙ ap (λ (l : List ℕ). firsts [] (targets t.area w l))
        (ap (λ (l : List ℕ). q.gone ++ l) f ∙ sym (append-nil (q.gone ++ r.source z ∷ [])) ∙ ap (λ (l : List ℕ). (q.gone ++ r.source z ∷ []) ++ l) (sym g)))
