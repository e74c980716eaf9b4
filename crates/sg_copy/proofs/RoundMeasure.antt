-- Each turn of one worker alone leaves it less to do.
use Rattle.std.proofs.Common.{◌≡◌, ℕ, zero, suc, ◌+◌, ◌-◌, ◌*◌, ◌<◌, ◌≤◌, ◌⊎◌, nat_lt, Bool}
use Rattle.std.proofs.Common.{List, [], ◌∷◌, length, inl, inr, refl, sym, ap, ◌∙◌, subst, arith}
use Rattle.std.proofs.lemmas.Bool.{cases_eq, cases_lt, cases_Bool, cond-true, cond-false, lt-ltb, le-ltb}
use Rattle.std.proofs.lemmas.List.{length-append}
use Rattle.std.specs.Int.{bit_at}
use Rattle.sg_words.specs.Tags.{plain_word}
use Rattle.sg_words.specs.Objects.{strong_slots}
use Rattle.sg_words.specs.Words.{put, Words, Saw, after_step, replayed, IsLegal}
use Rattle.sg_words.specs.Programs.{FollowsBy}
use Rattle.sg_words.specs.declared.steps.BlockWord.{BlockWord}
use Rattle.sg_words.specs.declared.steps.BlockWord.TheVariants.{Free, Swept, Need, Sweeping}
use Rattle.sg_words.specs.declared.steps.Step.{Step}
use Rattle.sg_words.proofs.Puts.{put-same, put-other}
use Rattle.sg_round.specs.Area.{Area, IsYoung}
use Rattle.sg_round.specs.Items.{Item, SlotOf, WholeOf, cell_word}
use Rattle.sg_round.specs.Worker.{Object, Stage, Look, Size, Room, Take, Slots, Mark, Body, Puts, Swap, Pin, Send, Dirty, Mid, Idle, Took, Count, On, Offer}
use Rattle.sg_round.specs.Worker.{Seek, Grab, Over, Worker, size_for, looking}
use Rattle.sg_round.specs.Rules.{Effect, Nothing, Ends, Moves, Fails, FailsEnding, IsNext, IsLooking, Comes}
use Rattle.sg_round.specs.Rules.IsNext.{Of_hand, Of_list, Of_cell}
use Rattle.sg_round.specs.Rules.Comes.{opens, counts, sees_none, sees, looks_forwarded, looks_fixed, looks_bare, looks_plain, has_spare, has_none, finds_free}
use Rattle.sg_round.specs.Rules.Comes.{finds_swept, finds_other, takes, takes_not, finds_clear, finds_full, marks, marks_not, reads, writes, clears, heads}
use Rattle.sg_round.specs.Rules.Comes.{forwards, loses, fails, fails_bare, fails_not, sends, dirties}
use Rattle.sg_round.specs.Rules.Comes.{keeps, prepares, offers, offers_not, seeks, ends, finds, grabs, grabs_not}
use Rattle.sg_round.specs.Acting.{RestsBy, RestsAt}
use Rattle.sg_copy.specs.Telling.{Seat, Teller, Tells, TellsOn, moves_with, fails_with}

-- the object is young, and still plain
abbrev IsPlainAt : Area → Words → Object → Type 0
IsPlainAt area v o = IsYoung area o.x × (v.word o.x ≡ plain_word o.class)

-- what a worker alone knows of the words: no exchange that it prepares can be lost
abbrev KnowsOn : Area → Words → Stage → Type 0
KnowsOn area v (Look x) = IsYoung area x
KnowsOn area v (Size x class) = IsYoung area x × (v.word x ≡ plain_word class)
KnowsOn area v (Room o b) = IsPlainAt area v o × (b < area.blocks)
KnowsOn area v (Take o b) = IsPlainAt area v o × (b < area.blocks) × (v.block b ≡ Free)
KnowsOn area v (Slots o b) = IsPlainAt area v o
KnowsOn area v (Mark o b i) = IsPlainAt area v o × (bit_at (v.used b) i ≡ 0)
KnowsOn area v (Body o at j) = IsPlainAt area v o × (area.high ≤ at)
KnowsOn area v (Puts o at j u) = IsPlainAt area v o × (area.high ≤ at)
KnowsOn area v (Swap o at) = IsPlainAt area v o
KnowsOn area v (Pin o) = IsPlainAt area v o
KnowsOn area v (Send t) = Unit {0}
KnowsOn area v Dirty = Unit {0}

abbrev KnowsAt : Area → Words → Mid → Type 0
KnowsAt area v Idle = Unit {0}
KnowsAt area v (Took item) = ⊥
KnowsAt area v (Count t class) = Unit {0}
KnowsAt area v (On s stage) = KnowsOn area v stage
KnowsAt area v (Offer i next) = ⊥
KnowsAt area v (Seek i) = Unit {0}
KnowsAt area v (Grab i item) = ⊥
KnowsAt area v Over = Unit {0}

pub record IsAlone (area : Area) (v : Words) (a : Worker) : Type 0 where
  pub spares : (z : ℕ) → a.spare z ≡ 0
  pub cells : (i : ℕ) → v.cell i ≡ 0
  pub at : KnowsAt area v a.mid

-- how much is left of the handling of a slot
abbrev rank : Stage → ℕ
rank (Look x) = 2
rank (Size x class) = 2
rank (Room o b) = 2
rank (Take o b) = 2
rank (Slots o b) = 2
rank (Mark o b i) = 2
rank (Body o at j) = 1
rank (Puts o at j u) = 1
rank (Swap o at) = 1
rank (Pin o) = 1
rank (Send t) = 0
rank Dirty = 0

abbrev weight : Mid → ℕ
weight Idle = 1
weight (Took item) = 0
weight (Count t class) = 125
weight (On s stage) = 1 + rank stage
weight (Offer i next) = 0
weight (Seek i) = 0
weight (Grab i item) = 0
weight Over = 0

-- how many of the first n blocks are free
abbrev free_one : BlockWord → ℕ
free_one Free = 1
free_one (Swept z) = 0
free_one (Need z) = 0
free_one (Sweeping z) = 0

pub free_below : (ℕ → BlockWord) → ℕ → ℕ
free_below f zero = 0
free_below f (suc n) = free_one (f n) + free_below f n

-- what is left to do with the objects found so far: an item counts for an object of 62 slots
abbrev owed : Area → Words → Worker → ℕ
owed area v a = free_below v.block area.blocks + 125 * length a.list + 2 * length a.hand + weight a.mid

-- a taken block isn't free any more
free-put-out : (f : ℕ → BlockWord) (b z n : ℕ) → n ≤ b → free_below (put f b (Swept z)) n ≡ free_below f n
unfolding free_below
free-put-out f b z zero l = refl
free-put-out f b z (suc n) l =
    ap (λ (w : BlockWord). free_one w + free_below (put f b (Swept z)) n) (put-other f b (Swept z) n (omega arith))
    ∙ ap (λ (k : ℕ). free_one (f n) + k) (free-put-out f b z n (omega arith))

free-put : (f : ℕ → BlockWord) (b z n : ℕ) → b < n → f b ≡ Free → suc (free_below (put f b (Swept z)) n) ≡ free_below f n
unfolding free_below
free-put f b z zero l e = absurd (omega arith)
free-put f b z (suc n) l e = elim (cases_eq n b) [
  | inl same ↦ (
      let here : put f b (Swept z) n ≡ Swept z = subst (λ (k : ℕ). put f b (Swept z) k ≡ Swept z) (sym same) (put-same f b (Swept z)) in
      let there : f n ≡ Free = subst (λ (k : ℕ). f k ≡ Free) (sym same) e in
      let x : free_one (put f b (Swept z) n) ≡ 0 = ap free_one here in
      let y : free_one (f n) ≡ 1 = ap free_one there in
      let rest = free-put-out f b z n (omega arith) in
      omega arith)
  | inr other ↦ (
      let x : free_one (put f b (Swept z) n) ≡ free_one (f n) = ap free_one (put-other f b (Swept z) n other) in
      let rest = free-put f b z n (omega arith) e in
      omega arith)
]

-- how many objects an effect finds
abbrev found : Effect → ℕ
found Nothing = 0
found (Ends s) = 0
found (Moves x) = 1
found (Fails x) = 1
found (FailsEnding x s) = 1

-- after a step from a to b with this effect less is left, but for what was found; at the begin of a turn even without it
record Eased (area : Area) (v : Words) (a : Worker) (effect : Effect) (v' : Words) (b : Worker) : Type 0 where
  alone : IsAlone area v' b
  less : owed area v' b ≤ owed area v a + 125 * found effect
  strict : RestsAt a → owed area v' b < owed area v a + 125 * found effect

-- the slots of an object are no more than its fields
strong-few : (strong : ℕ → Bool) (at i n : ℕ) → length (strong_slots strong at i n) ≤ n
strong-few strong at i zero = omega arith
strong-few strong at i (suc n) =
    let more = strong-few strong at (suc i) n in
    elim (cases_Bool (strong i)) [
      | inl e ↦ subst (λ (l : List ℕ). length l ≤ suc n) (sym (cond-true (strong i) ((at + 2 + i) ∷ strong_slots strong at (suc i) n) _ e)) (omega arith)
      | inr e ↦ subst (λ (l : List ℕ). length l ≤ suc n) (sym (cond-false (strong i) ((at + 2 + i) ∷ strong_slots strong at (suc i) n) _ e)) (omega arith)
    ]

-- where a search goes on
looking-cases : (area : Area) (o : Object) (b : ℕ) → ((b < area.blocks) × (looking area o b ≡ Room o b)) ⊎ (looking area o b ≡ Pin o)
looking-cases area o b = elim (cases_lt b area.blocks) [
  | inl l ↦ inl (l, cond-true (nat_lt b area.blocks) (Room o b) (Pin o) (lt-ltb b area.blocks l))
  | inr l ↦ inr (cond-false (nat_lt b area.blocks) (Room o b) (Pin o) (le-ltb b area.blocks l))
]

looking-knows : (area : Area) (v : Words) (o : Object) (b : ℕ) → IsPlainAt area v o → KnowsOn area v (looking area o b)
looking-knows area v o b p = elim (looking-cases area o b) [
  | inl h ↦ subst (KnowsOn area v) (sym h.1) (p, h.0)
  | inr e ↦ subst (KnowsOn area v) (sym e) p
]

looking-rank : (area : Area) (o : Object) (b : ℕ) → rank (looking area o b) ≤ 2
looking-rank area o b = elim (looking-cases area o b) [
  | inl h ↦ (let e = ap rank h.1 in omega arith)
  | inr e ↦ (let f = ap rank e in omega arith)
]

-- the word of a young object stays where a word of a block is stored
plain-stays : (area : Area) (v : Words) (o : Object) (at u : ℕ) → IsPlainAt area v o → area.high ≤ at → put v.word at u o.x ≡ plain_word o.class
plain-stays area v o at u p l = let y = p.0.1 in put-other v.word at u o.x (λ e. absurd (omega arith)) ∙ p.1

module _ (area : Area) (v : Words) where
  -- what a worker is without its next item
  record WithoutSlot (a b : Worker) : Type 0 where
    spares : (z : ℕ) → b.spare z ≡ 0
    mid : b.mid ≡ Idle
    less : owed area v b + 2 ≤ owed area v a
    strict : RestsAt a → owed area v b + 3 ≤ owed area v a

  without-slot : (a : Worker) (item : Item) (b : Worker) → IsNext a item b → IsAlone area v a → WithoutSlot a b
  without-slot _ _ _ (Of_hand a s rest) al =
      record { spares = al.spares; mid = refl; less = omega arith; strict = λ e. absurd (let z : s ∷ rest ≡ [] = e in cc) }
  without-slot _ _ _ (Of_list a item rest) al = record { spares = al.spares; mid = refl; less = omega arith; strict = λ e. omega arith }
  without-slot _ _ _ (Of_cell a item) al = absurd (al.at)

  record WithoutWhole (a b : Worker) : Type 0 where
    spares : (z : ℕ) → b.spare z ≡ 0
    mid : b.mid ≡ Idle
    less : owed area v b + 125 ≤ owed area v a

  without-whole : (a : Worker) (item : Item) (t : ℕ) (b : Worker) → item ≡ WholeOf t → IsNext a item b → IsAlone area v a → WithoutWhole a b
  without-whole _ _ t _ e (Of_hand a s rest) al = absurd (let z : SlotOf s ≡ WholeOf t = e in cc)
  without-whole _ _ t _ e (Of_list a item rest) al = record { spares = al.spares; mid = refl; less = omega arith }
  without-whole _ _ t _ e (Of_cell a item) al = absurd (al.at)

  -- a worker that looks at the cells has nothing to do
  looks-less : (a : Worker) (i : ℕ) (mid : Mid) → IsLooking a i → weight mid ≡ 0 → KnowsAt area v mid → IsAlone area v a →
      Eased area v a Nothing v (record a { mid = mid })
  looks-less a i mid is w k al = record {
    alone = record { spares = al.spares; cells = al.cells; at = k };
    less = omega arith;
    strict = elim is.at [
      | inl e ↦ λ r. (let x : weight a.mid ≡ 1 = ap weight e.0 in omega arith)
      | inr e ↦ λ r. absurd (subst (RestsBy a.hand) e r)
    ];
  }

  -- no step comes where a cell has an item
  no-item : (i : ℕ) (item : Item) → v.cell i ≡ cell_word item → v.cell i ≡ 0 → ⊥
  no-item i (SlotOf s) e z = absurd (omega arith)
  no-item i (WholeOf t) e z = absurd (omega arith)

  -- one step of worker 0 of one
  eased : (k : ℕ) (a : Worker) (e : Step) (effect : Effect) (b : Worker) → Comes area 1 k a e effect b → Saw v e → IsAlone area v a →
      Eased area v a effect (after_step v e) b
  eased k _ _ _ _ (opens a b t u nx) saw al = let n = without-whole a (WholeOf t) t b refl nx al in let l = n.less in
      let w : weight b.mid ≡ 1 = ap weight n.mid in
      record { alone = record { spares = n.spares; cells = al.cells; at = tt }; less = omega arith; strict = λ r. omega arith }
  eased k _ _ _ _ (counts a t class n l) saw al = let f = strong-few (area.strong class) t 0 n in
      record { alone = record { spares = al.spares; cells = al.cells; at = tt }; less = omega arith; strict = λ r. absurd r }
  eased k _ _ _ _ (sees_none a b s u nx none) saw al = let n = without-slot a (SlotOf s) b nx al in let l = n.less in
      let w : weight b.mid ≡ 1 = ap weight n.mid in
      record { alone = record { spares = n.spares; cells = al.cells; at = tt }; less = omega arith; strict = λ r. (let m = n.strict r in omega arith) }
  eased k _ _ _ _ (sees a b s x nx young) saw al = let n = without-slot a (SlotOf s) b nx al in let l = n.less in
      let w : weight b.mid ≡ 1 = ap weight n.mid in
      record { alone = record { spares = n.spares; cells = al.cells; at = young }; less = omega arith; strict = λ r. (let m = n.strict r in omega arith) }
  eased k _ _ _ _ (looks_forwarded a s x t) saw al =
      record { alone = record { spares = al.spares; cells = al.cells; at = tt }; less = omega arith; strict = λ r. absurd r }
  eased k _ _ _ _ (looks_fixed a s x class u fixed card) saw al =
      record { alone = record { spares = al.spares; cells = al.cells; at = tt }; less = omega arith; strict = λ r. absurd r }
  eased k _ _ _ _ (looks_bare a s x class u fixed bare) saw al =
      record { alone = record { spares = al.spares; cells = al.cells; at = tt }; less = omega arith; strict = λ r. absurd r }
  eased k _ _ _ _ (looks_plain a s x class) saw al =
      record { alone = record { spares = al.spares; cells = al.cells; at = (al.at, saw) }; less = omega arith; strict = λ r. absurd r }
  eased k _ _ _ _ (has_spare a s o some) saw al = absurd (some (al.spares (size_for o)))
  eased k _ _ _ _ (has_none a s o none) saw al = let l = looking-rank area o (a.passed (size_for o)) in
      record {
        alone = record { spares = al.spares; cells = al.cells; at = looking-knows area v o (a.passed (size_for o)) al.at };
        less = omega arith;
        strict = λ r. absurd r;
      }
  eased k _ _ _ _ (finds_free a s o b) saw al =
      record { alone = record { spares = al.spares; cells = al.cells; at = (al.at.0, al.at.1, saw) }; less = omega arith; strict = λ r. absurd r }
  eased k _ _ _ _ (finds_swept a s o b) saw al =
      record { alone = record { spares = al.spares; cells = al.cells; at = al.at.0 }; less = omega arith; strict = λ r. absurd r }
  eased k _ _ _ _ (finds_other a s o b state some other) saw al = let l = looking-rank area o (b + 1) in
      record {
        alone = record { spares = al.spares; cells = al.cells; at = looking-knows area v o (b + 1) al.at.0 };
        less = omega arith;
        strict = λ r. absurd r;
      }
  eased k _ _ _ _ (takes a s o b) saw al = let f = free-put v.block b (size_for o) area.blocks al.at.1 al.at.2 in
      record { alone = record { spares = al.spares; cells = al.cells; at = (al.at.0, al.at.1) }; less = omega arith; strict = λ r. omega arith }
  eased k _ _ _ _ (takes_not a s o b u) saw al = absurd (saw.1 (sym saw.0 ∙ al.at.2))
  eased k _ _ _ _ (finds_clear a s o b i u l clear set) saw al =
      record {
        alone = record { spares = al.spares; cells = al.cells; at = (al.at, subst (λ (w : ℕ). bit_at w i ≡ 0) (sym saw) clear) };
        less = omega arith;
        strict = λ r. absurd r;
      }
  eased k _ _ _ _ (finds_full a s o b u set) saw al = let l = looking-rank area o (b + 1) in
      record {
        alone = record { spares = al.spares; cells = al.cells; at = looking-knows area v o (b + 1) al.at };
        less = omega arith;
        strict = λ r. absurd r;
      }
  eased k _ _ _ _ (marks a s o b i u clear) saw al =
      record {
        alone = record { spares = al.spares; cells = al.cells; at = (al.at.0, omega arith) };
        less = omega arith;
        strict = λ r. omega arith;
      }
  eased k _ _ _ _ (marks_not a s o b i u set) saw al =
      absurd (let c = subst (λ (w : ℕ). bit_at w i ≡ 0) saw al.at.1 in omega arith)
  eased k _ _ _ _ (reads a s o at j u less) saw al =
      record { alone = record { spares = al.spares; cells = al.cells; at = al.at }; less = omega arith; strict = λ r. absurd r }
  eased k _ _ _ _ (writes a s o at j u) saw al = let h = al.at.1 in
      record {
        alone = record { spares = al.spares; cells = al.cells; at = ((al.at.0.0, plain-stays area v o (at + j) u al.at.0 (omega arith)), h) };
        less = omega arith;
        strict = λ r. absurd r;
      }
  eased k _ _ _ _ (clears a s o at j past less) saw al = let h = al.at.1 in
      record {
        alone = record { spares = al.spares; cells = al.cells; at = ((al.at.0.0, plain-stays area v o (at + j) 0 al.at.0 (omega arith)), h) };
        less = omega arith;
        strict = λ r. absurd r;
      }
  eased k _ _ _ _ (heads a s o at j past) saw al =
      record {
        alone = record { spares = al.spares; cells = al.cells; at = (al.at.0.0, plain-stays area v o at (plain_word o.class) al.at.0 al.at.1) };
        less = omega arith;
        strict = λ r. absurd r;
      }
  eased k _ _ _ _ (forwards a s o at) saw al = let l = length-append a.list (WholeOf at ∷ []) in
      record { alone = record { spares = al.spares; cells = al.cells; at = tt }; less = omega arith; strict = λ r. omega arith }
  eased k _ _ _ _ (loses a s o at u) saw al = absurd (saw.1 (sym saw.0 ∙ al.at.1))
  eased k _ _ _ _ (fails a s o card) saw al = let l = length-append a.list (WholeOf o.x ∷ []) in
      record { alone = record { spares = al.spares; cells = al.cells; at = tt }; less = omega arith; strict = λ r. omega arith }
  eased k _ _ _ _ (fails_bare a s o bare) saw al = let l = length-append a.list (WholeOf o.x ∷ []) in
      record { alone = record { spares = al.spares; cells = al.cells; at = tt }; less = omega arith; strict = λ r. omega arith }
  eased k _ _ _ _ (fails_not a s o u) saw al = absurd (saw.1 (sym saw.0 ∙ al.at.1))
  eased k _ _ _ _ (sends a s t) saw al =
      record { alone = record { spares = al.spares; cells = al.cells; at = tt }; less = omega arith; strict = λ r. absurd r }
  eased k _ _ _ _ (dirties a s) saw al =
      record { alone = record { spares = al.spares; cells = al.cells; at = tt }; less = omega arith; strict = λ r. absurd r }
  eased k _ _ _ _ (keeps a items item i u several l may e some) saw al = absurd (omega arith)
  eased k _ _ _ _ (prepares a items item i several l may e) saw al = absurd (omega arith)
  eased k _ _ _ _ (offers a items item i next) saw al = absurd (al.at)
  eased k _ _ _ _ (offers_not a items item i next u) saw al = absurd (al.at)
  eased k _ _ _ _ (seeks a i is more) saw al = looks-less a i (Seek (i + 1)) is refl tt al
  eased k _ _ _ _ (ends a i is last) saw al = looks-less a i Over is refl tt al
  eased k _ _ _ _ (finds a i item is) saw al = absurd (no-item _ item saw (al.cells _))
  eased k _ _ _ _ (grabs a i item) saw al = absurd (al.at)
  eased k _ _ _ _ (grabs_not a i item u) saw al = absurd (al.at)

-- how many objects were found
abbrev found_by : Teller → ℕ
found_by a = length a.moves + length a.fails

found-more : (a b : Teller) (effect : Effect) → b.moves ≡ moves_with a.moves effect → b.fails ≡ fails_with a.fails effect →
    found_by b ≡ found_by a + found effect
found-more a b Nothing m f = let x = ap length m in let y = ap length f in omega arith
found-more a b (Ends s) m f = let x = ap length m in let y = ap length f in omega arith
found-more a b (Moves z) m f = let x = ap length m in let y = ap length f in let l = length-append a.moves (z ∷ []) in omega arith
found-more a b (Fails z) m f = let x = ap length m in let y = ap length f in let l = length-append a.fails (z ∷ []) in omega arith
found-more a b (FailsEnding z s) m f = let x = ap length m in let y = ap length f in let l = length-append a.fails (z ∷ []) in omega arith

-- how much is left to do, also with the objects that can still be found
abbrev pub left : Area → Words → Teller → ℕ
left area v a = 125 * ((area.high - area.low) - found_by a) + owed area v a.worker

module _ (area : Area) (most k : ℕ) where
  abbrev seat : Seat
  seat = record { area = area; team = 1; most = most; number = k }

  -- steps within a turn
  eased-more : (es : List Step) (a b : Teller) (v : Words) → FollowsBy (TellsOn seat) a es b → IsLegal v es → IsAlone area v a.worker →
      IsAlone area (replayed v es) b.worker × (owed area (replayed v es) b.worker + 125 * found_by a ≤ owed area v a.worker + 125 * found_by b)
  eased-more [] a b v f legal al = (
    subst (λ (x : Teller). IsAlone area v x.worker) (sym f) al,
    subst (λ (x : Teller). owed area v x.worker + 125 * found_by a ≤ owed area v a.worker + 125 * found_by x) (sym f)
        (omega arith),
  )
  eased-more (e ∷ es) a b v f legal al =
      let t = f.1.1 in
      let s = eased area v k a.worker e t.0 f.0.worker t.1 legal.0 al in
      let m = found-more a f.0 t.0 t.2 t.3 in
      let rest = eased-more es f.0 b (after_step v e) f.2 legal.1 s.alone in
      let l = s.less in let r = rest.1 in
      (rest.0, omega arith)

  -- a turn leaves less to do
  pub eased-turn : (e : Step) (es : List Step) (a d b : Teller) (v : Words) → RestsAt a.worker → Tells seat a e d → FollowsBy (TellsOn seat) d es b →
      IsLegal v (e ∷ es) → IsAlone area v a.worker → found_by a ≤ area.high - area.low → found_by b ≤ area.high - area.low →
      IsAlone area (replayed v (e ∷ es)) b.worker × (left area (replayed v (e ∷ es)) b < left area v a)
  eased-turn e es a d b v rests t f legal al few more =
      let s = eased area v k a.worker e t.0 d.worker t.1 legal.0 al in
      let m = found-more a d t.0 t.2 t.3 in
      let rest = eased-more es d b (after_step v e) f legal.1 s.alone in
      let l = s.strict rests in let r = rest.1 in
      (rest.0, omega arith)
