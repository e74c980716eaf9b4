-- What a search for a slot meets, by the words, is what it meets on the board.
use Rattle.std.proofs.Common.{◌≡◌, ◌≢◌, ℕ, ◌+◌, ◌*◌, ◌<◌, ◌≤◌, true, false, Option, Some, None, inl, inr, refl, ap, sym, ◌∙◌, subst, arith}
use Rattle.std.specs.Int.{bit_at}
use Rattle.sg_words.specs.Words.{Words}
use Rattle.sg_words.specs.Blocks.{slots, slot_from, IsSizeClass, IsOf, is_taken}
use Rattle.sg_words.specs.declared.steps.BlockWord.{BlockWord}
use Rattle.sg_words.specs.declared.steps.BlockWord.TheVariants.{Free, Swept, Need, Sweeping}
use Rattle.sg_words.proofs.Blocks.{slot_size-class, slot_in, slot_once, class_bounds}
use Rattle.sg_program.specs.declared.program.Statement.{Statement}
use Rattle.sg_program.specs.declared.program.Program.{Program}
use Rattle.sg_program.specs.Scripts.{made_slot, made_words, words_for}
use Rattle.sg_graph.specs.Graph.{Graph}
use Rattle.sg_graph.specs.Book.{Book, Section, Old, nursery_end, old_end, block_at, slot_at, slot_words, IsWordOf, IsInBlock, IsInSlot, IsEmptySlot, IsOpenSlot}
use Rattle.sg_graph.specs.Blocks.{IsOldAt, IsTakenAt, AreBlocks}
use Rattle.sg_graph.specs.Heap.{Owner}
use Rattle.sg_graph.specs.Turns.{Position, OpeningBlock, TakingSlot, TakingOver, SweepingBlock, Board, IsBeingSwept, IsSweptOn, IsFreeOn, HasSlotOn, IsPassedOver, ComesTo, SearchesFrom}
use Rattle.sg_graph.specs.Turns.IsPassedOver.{BeingSwept, OfOtherSize, Shut}
use Rattle.sg_graph.specs.Turns.SearchesFrom.{MeetsFree, MeetsSlot, MeetsOwed, MeetsNone}
use Rattle.sg_rules.specs.Rules.{Constants, Mid, Search, TakeBlock, TakeSlot, TakeOver, Left, AreTaken}
use Rattle.sg_order.specs.OneOrder.{IsHoused}
use Rattle.sg_mutate.specs.Boards.{SaysOf, HasSeen}
use Rattle.sg_mutate.proofs.Ends.{IsPassedBy, Busy, Other, Full, Meets, AFree, ASlot, AnOwed, IsFirstMet, SearchedBlocks}

-- the board is right about the blocks of these words
pub record Agrees (p : Program) (lay : Constants) (y : Board) (u : Words) : Type 0 where
  pub word : ℕ → ℕ
  pub owner : ℕ → Owner
  pub blocks : AreBlocks p lay.marks u.block u.used word y.graph.size y.book.stands y.book.address y.book.section y.book.owed owner
  pub says : (j : ℕ) → j < p.config.blocks → SaysOf p y j (u.block j)
  pub sweeper : (j : ℕ) → IsBeingSwept y j → (z : ℕ) × (u.block j ≡ Sweeping z)
  pub swept : (j z : ℕ) → j < p.config.blocks → u.block j ≡ Sweeping z → IsBeingSwept y j
  pub housed : (c name x : ℕ) → c < p.config.blocks → IsWordOf y.graph y.book name x → block_at p c ≤ x → x < block_at p c + 256 →
      IsHoused p lay (u.block c) (u.used c) c x

-- which position, or leaving, a turn that ends here comes to
abbrev pub IsMidOf : Statement → Mid → Option Position → Type 0
IsMidOf s m (Some (OpeningBlock j)) = m ≡ TakeBlock s j
IsMidOf s m (Some (TakingSlot j i)) = m ≡ TakeSlot s j i
IsMidOf s m (Some (TakingOver j)) = (z : ℕ) × (m ≡ TakeOver (Search s) j z)
IsMidOf s m None = m ≡ Left s
IsMidOf s m (Some position) = ⊥

-- a search that stops before an exchange leaves the stop word, and one that stops nowhere sets it
abbrev pub HaltsBy : Words → Words → Option Position → Type 0
HaltsBy u v (Some position) = v.stop ≡ u.stop
HaltsBy u v None = v.stop ≢ 0

pub one_zero : (n : ℕ) → n ≡ 1 → n ≡ 0 → ⊥
one_zero n a b = omega arith

module _ (p : Program) (lay : Constants) (y : Board) (u : Words) (ag : Agrees p lay y u) where
  -- a standing old object's word is in one block, of its size
  taken : (name j : ℕ) → IsInBlock p y.book name j →
      IsTakenAt p (lay.marks j) (y.book.address name) (slot_words (y.graph.size name)) j (u.block j) (u.used j)
  taken name j h =
      let at = ag.blocks.placed name h.some h.stands h.old in
      let z = slot_words (y.graph.size name) in
      let is = at.2.address in
      let class = slot_size-class (words_for (y.graph.size name)) in
      let bounds = class_bounds z class in
      let within = slot_in (nursery_end p) at.0 z at.2.slot (y.book.address name) at.2.fits (omega arith) (omega arith) in
      let above = h.above in
      let below = h.below in
      let same : at.0 ≡ j = omega arith in
      subst (λ c. IsTakenAt p (lay.marks c) (y.book.address name) (slot_words (y.graph.size name)) c (u.block c) (u.used c)) same at.2

  size_is : (name j z : ℕ) → IsInBlock p y.book name j → u.block j ≡ Swept z → slot_words (y.graph.size name) ≡ z
  size_is name j z h e = sym (subst (λ (state : BlockWord). IsOf state (slot_words (y.graph.size name))) e (taken name j h).of)

  not_busy : (j : ℕ) → ((z : ℕ) → u.block j ≡ Sweeping z → ⊥) → y.owed j ≡ false → IsSweptOn y j
  not_busy j none e = record { swept = e; done = λ being. let at = ag.sweeper j being in none at.0 at.1 }

  free_on : (j : ℕ) → j < p.config.blocks → u.block j ≡ Free → IsFreeOn p y j
  free_on j l e =
      let says = subst (SaysOf p y j) e (ag.says j l) in
      record {
        swept = not_busy j (λ z q. let f : Free ≡ Sweeping z = sym e ∙ q in cc f) says.0;
        given = says.1;
        empty = λ name h. subst (λ (state : BlockWord). IsOf state (slot_words (y.graph.size name))) e (taken name j h).of;
      }

  swept_on : (j z : ℕ) → j < p.config.blocks → u.block j ≡ Swept z → IsSweptOn y j
  swept_on j z l e = not_busy j (λ x q. let f : Swept z ≡ Sweeping x = sym e ∙ q in cc f) (subst (SaysOf p y j) e (ag.says j l)).0

  pub filled : (j z i : ℕ) → j < p.config.blocks → u.block j ≡ Swept z → i < slots z → bit_at (u.used j) i ≡ 1 → (name : ℕ) × IsInSlot p y.graph y.book name j z i
  filled j z i l e fits set =
      let at = (ag.blocks.each j l).filled z i (subst (λ (state : BlockWord). IsOf state z) (sym e) refl) fits (taken_by e set) in (
        at.0,
        record { some = at.1.some; stands = at.1.standing; old = at.1.old; sized = at.1.sized; there = l; fits = fits; at = at.1.at },
      )
    where
      taken_by : u.block j ≡ Swept z → bit_at (u.used j) i ≡ 1 → is_taken (u.block j) (u.used j) (lay.marks j) i ≡ 1
      taken_by q b = ap (λ (state : BlockWord). is_taken state (u.used j) (lay.marks j) i) q ∙ b

  slot_on : (j z i : ℕ) → IsSizeClass z → j < p.config.blocks → u.block j ≡ Swept z → i < slots z → bit_at (u.used j) i ≡ 0 → AreTaken (u.used j) i →
      HasSlotOn p y z j i
  slot_on j z i class l e fits clear below =
      let says = subst (SaysOf p y j) e (ag.says j l) in
      record {
        swept = swept_on j z l e;
        sized = says.1;
        open_slot = record {
          there = l;
          fits = fits;
          size = λ name h. size_is name j z h e;
          empty = λ name x of from to. no_word name x of from to;
          lowest = λ k under. filled j z k l e (omega arith) (below k under);
        };
      }
    where
      no_word : (name x : ℕ) → IsWordOf y.graph y.book name x → slot_at p j z i ≤ x → x < slot_at p j z i + z → ⊥
      no_word name x of from to =
          let within = slot_in (nursery_end p) j z i x fits from to in
          let h = ag.housed j name x l of within.0 within.1 in
          let size : z ≡ h.size = subst (λ (state : BlockWord). IsOf state h.size) e h.of in
          let lo = h.from in
          let hi = h.to in
          let slot : h.slot ≡ i = slot_once (nursery_end p) j z h.slot i x (subst (λ q. slot_at p j q h.slot ≤ x) (sym size) lo)
          (subst (λ q. x < slot_at p j q h.slot + q) (sym size) hi) from to in
          one_zero (bit_at (u.used j) i) (subst (λ k. bit_at (u.used j) k ≡ 1) slot
          (subst (λ (state : BlockWord). is_taken state (u.used j) (lay.marks j) h.slot ≡ 1) e h.taken)) clear

  passed_over : (s : Statement) (j : ℕ) → j < p.config.blocks → IsPassedBy u (made_slot p s) j → IsPassedOver p y (made_slot p s) j
  passed_over s j l (Busy size e) = BeingSwept (subst (SaysOf p y j) e (ag.says j l)).0 (ag.swept j size l e)
  passed_over s j l (Other size e differs) = elim (subst (SaysOf p y j) e (ag.says j l)).1 [
    | inl given ↦ OfOtherSize size (swept_on j size l e) given differs
    | inr object ↦ Shut (swept_on j size l e) (inl (object.1.0, object.1.1, λ z. differs (sym (size_is object.1.0 j size object.1.1 e) ∙ z)))
  ]
  passed_over s j l (Full e all) = Shut (swept_on j (made_slot p s) l e) (inr (λ i fits. filled j (made_slot p s) i l e fits (all i fits)))

  comes_to : (s : Statement) (c j : ℕ) (m : Mid) → IsFirstMet p u s c j m → ComesTo p y (made_slot p s) c j
  comes_to s c j m met = record {
    from = met.from;
    there = met.there;
    passes = λ i from under. passed_over s i (let l = met.there in omega arith) (met.passes i from under);
  }

  -- so a search that goes on by the words goes on so on the board
  pub record Stopped (s : Statement) (c : ℕ) (m : Mid) (v : Words) : Type 0 where
    pub found : Option Position
    pub searches : SearchesFrom p y (made_slot p s) c found
    pub is : IsMidOf s m found
    pub seen : HasSeen u y.given m
    pub halts : HaltsBy u v found

  met_at : (s : Statement) (c j : ℕ) (m : Mid) (v : Words) → v.stop ≡ u.stop → IsFirstMet p u s c j m → Meets p u s j m → Stopped s c m v
  met_at s c j m v same met (AFree e is) = record {
    found = Some (OpeningBlock j);
    searches = MeetsFree j (comes_to s c j m met) (free_on j met.there e);
    is = is;
    seen = subst (HasSeen u y.given) (sym is) (inl e);
    halts = same;
  }
  met_at s c j m v same met (ASlot i e fits clear taken is) = record {
    found = Some (TakingSlot j i);
    searches = MeetsSlot j i (comes_to s c j m met) (slot_on j (made_slot p s) i (slot_size-class (made_words p s)) met.there e fits clear taken);
    is = is;
    seen = subst (HasSeen u y.given) (sym is) tt;
    halts = same;
  }
  met_at s c j m v same met (AnOwed size class e is) = record {
    found = Some (TakingOver j);
    searches = MeetsOwed j (comes_to s c j m met) (subst (SaysOf p y j) e (ag.says j met.there)).0;
    is = (size, is);
    seen = subst (HasSeen u y.given) (sym is) (λ other q. let f : Need other ≡ Need size = sym q ∙ e in cc f);
    halts = same;
  }

  pub stopped : (s : Statement) (c : ℕ) (m : Mid) (v : Words) → SearchedBlocks p u s c m v → Stopped s c m v
  stopped s c m v (inl (j, met, same)) = met_at s c j m v same met met.meets
  stopped s c m v (inr (none, is, set)) = record {
    found = None;
    searches = MeetsNone (λ i from there. passed_over s i there (none i from there));
    is = is;
    seen = subst (HasSeen u y.given) (sym is) tt;
    halts = set;
  }
