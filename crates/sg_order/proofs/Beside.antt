-- What a step of one actor leaves of what the others know of the blocks: a layer beside what they know of objects.
use Rattle.std.proofs.Common.{◌≡◌, ◌≢◌, ℕ, ◌+◌, ◌<◌, ◌≤◌, ◌⊎◌, Bool, true, List, inl, inr, sym, ap, ◌∙◌, arith}
use Rattle.std.specs.Int.{bit_at}
use Rattle.sg_words.specs.declared.steps.BlockWord.TheVariants.{Swept, Sweeping}
use Rattle.sg_words.specs.Blocks.{slots}
use Rattle.sg_words.specs.Words.{Words}
use Rattle.sg_program.specs.declared.program.Statement.{Statement}
use Rattle.sg_program.specs.declared.program.Statement.TheVariants.{Mature}
use Rattle.sg_program.specs.declared.program.Program.{Program}
use Rattle.sg_program.specs.declared.answers.Answer.{Answer}
use Rattle.sg_program.specs.Scripts.{made_slot}
use Rattle.sg_graph.specs.Graph.{Graph}
use Rattle.sg_graph.specs.Book.{Book, block_at, slot_at, slot_words}
use Rattle.sg_graph.specs.Heap.{Owner, IsHeaded}
use Rattle.sg_rules.specs.Rules.{Constants, Task, Search, Roam, Mid, SeeBlock, TakeBlock, SeeUsed, TakeSlot, TakeOver, StoreOccupancy, ClearSlots, ClearWords, Ask, Left, Actor}
use Rattle.sg_order.specs.Knowing.{IsPast, IsPassed, HasPassed, HasPassedAll, Sweeps, IsMidSweep, KnowsAt, IsInSweep, IsInSearch, HasObject}
use Rattle.sg_order.proofs.Relation.{Ground, Stands, WritesHeader, IsNeeded, Marks}

-- What actor k knows of the blocks, beside what it knows of objects; it is in the midst of each sweep that it has taken over; and a swept block whose
-- last exchange it won has an object, or its search is at the block.
pub record Beside (p : Program) (lay : Constants) (w : Words) (b : Book) (by : ℕ → ℕ) (k : ℕ) (mid : Mid) : Type 0 where
  pub at : KnowsAt p lay w b.owed by k mid
  pub mine : (c z : ℕ) → c < p.config.blocks → w.block c ≡ Sweeping z → by c ≡ k → IsInSweep c z mid
  pub fills : (c z : ℕ) → c < p.config.blocks → w.block c ≡ Swept z → by c ≡ k → HasObject p b.stands b.address c ⊎ IsInSearch p c z mid

-- what a step of actor k leaves of what the others know of the blocks
pub record BlockLater (p : Program) (lay : Constants) (w : Words) (b : Book) (by : ℕ → ℕ) (v : Words) (c : Book) (by' : ℕ → ℕ) (k : ℕ) : Type 0 where
  pub owed : c.owed ≡ b.owed
  pub has : (j : ℕ) → HasObject p b.stands b.address j → HasObject p c.stands c.address j
  pub swept : (j s : ℕ) → w.block j ≡ Swept s → v.block j ≡ Swept s
  pub used : (j s i : ℕ) → w.block j ≡ Swept s → bit_at (w.used j) i ≡ 1 → bit_at (v.used j) i ≡ 1
  pub past : (j : ℕ) → IsPast (w.block j) → IsPast (v.block j)
  pub held : (j z : ℕ) → j < p.config.blocks → w.block j ≡ Sweeping z → by j ≢ k → (v.block j ≡ Sweeping z) × (by' j ≡ by j) × (v.used j ≡ w.used j)
  pub zeros : (j z i x : ℕ) → j < p.config.blocks → w.block j ≡ Sweeping z → i < slots z → bit_at (lay.marks j) i ≡ 0 → slot_at p j z i ≤ x →
      x < slot_at p j z i + z → w.word x ≡ 0 → v.word x ≡ 0
  pub begun : (j z : ℕ) → j < p.config.blocks → v.block j ≡ Sweeping z → by' j ≢ k → (w.block j ≡ Sweeping z) × (by' j ≡ by j)
  pub settled : (j z : ℕ) → j < p.config.blocks → v.block j ≡ Swept z → by' j ≢ k → (w.block j ≡ Swept z) × (by' j ≡ by j)

module _ (p : Program) (lay : Constants) (w : Words) (b : Book) (by : ℕ → ℕ) (v : Words) (c : Book) (by' : ℕ → ℕ) (k : ℕ)
    (l : BlockLater p lay w b by v c by' k) where
  pub passed_later : (s i : ℕ) → IsPassed w b.owed s i → IsPassed v c.owed s i
  passed_later s i q = elim q [
    | inl q ↦ inl (ap (λ (f : ℕ → Bool). f i) l.owed ∙ q.0, l.past i q.1)
    | inr q ↦ elim q [
      | inl q ↦ inr (inl (q.0, l.swept i q.0 q.1, q.2))
      | inr q ↦ inr (inr (l.swept i s q.0, λ m f. l.used i s m q.0 (q.1 m f)))
    ]
  ]

  pub has_passed_later : (t : Task) (i : ℕ) → HasPassed p w b.owed t i → HasPassed p v c.owed t i
  has_passed_later (Search s) i m = λ j q. passed_later (made_slot p s) j (m j q)
  has_passed_later Roam i m = tt

  pub all_later : (s : Statement) → HasPassedAll p w b.owed s → HasPassedAll p v c.owed s
  all_later (Mature r class) m = λ j q. passed_later (made_slot p (Mature r class)) j (m j q)
  all_later s m = tt

  module _ (j : ℕ) (n : j ≢ k) where
    apart : (i z : ℕ) → Sweeps p w.block by j i z → by i ≢ k
    apart i z s e = n (sym s.mine ∙ e)

    sweeps : (i z : ℕ) → Sweeps p w.block by j i z → Sweeps p v.block by' j i z
    sweeps i z s = let x = l.held i z s.there s.word (apart i z s) in record { there = s.there; word = x.0; mine = x.1 ∙ s.mine }

    mid_sweep : (i z m : ℕ) → IsMidSweep p lay w by j i z m → IsMidSweep p lay v by' j i z m
    mid_sweep i z m s = let own = s.sweeps in record {
      sweeps = sweeps i z own;
      occupied = (l.held i z own.there own.word (apart i z own)).2 ∙ s.occupied;
      zero = λ a x u o y f r. l.zeros i z a y own.there own.word u o f r (s.zero a x u o y f r);
    }

    at_later : (mid : Mid) → KnowsAt p lay w b.owed by j mid → KnowsAt p lay v c.owed by' j mid
    at_later (SeeBlock t begins i) m = (has_passed_later t i m.0, m.1)
    at_later (TakeBlock s i) m = (has_passed_later (Search s) i m.0, m.1)
    at_later (SeeUsed s i) m = (has_passed_later (Search s) i m.0, m.1, l.swept i (made_slot p s) m.2)
    at_later (TakeSlot s i a) m =
        (has_passed_later (Search s) i m.0, m.1, l.swept i (made_slot p s) m.2, m.3, λ x q. l.used i (made_slot p s) x m.2 (m.4 x q))
    at_later (TakeOver t i z) m = (has_passed_later t i m.0, m.1, m.2)
    at_later (StoreOccupancy t i z) m = (has_passed_later t i m.0, sweeps i z m.1)
    at_later (ClearSlots t i z a) m = (has_passed_later t i m.0, mid_sweep i z a m.1)
    at_later (ClearWords t i z a f) m = let s = m.1 in let own = s.mid.sweeps in (
      has_passed_later t i m.0,
      record {
        mid = mid_sweep i z a s.mid;
        fits = s.fits;
        unmarked = s.unmarked;
        front = λ x q r. l.zeros i z a x own.there own.word s.fits s.unmarked q (let u = s.more in omega arith) (s.front x q r);
        more = s.more;
      },
    )
    at_later (Ask s) m = all_later s m
    at_later (Left s) m = all_later s m
    at_later mid m = tt

    pub beside_later : (mid : Mid) → Beside p lay w b by j mid → Beside p lay v c by' j mid
    beside_later mid s = record {
      at = at_later mid s.at;
      mine = λ i z q e o. let x = l.begun i z q e (λ r. n (sym o ∙ r)) in s.mine i z q x.0 (sym x.1 ∙ o);
      fills = λ i z q e o. let x = l.settled i z q e (λ r. n (sym o ∙ r)) in elim (s.fills i z q x.0 (sym x.1 ∙ o)) [
        | inl h ↦ inl (l.has i h)
        | inr f ↦ inr f
      ];
    }

-- The relation for all actors, in an epoch that began with so many objects: each object is headed, or a mutator is about to write its header; each card
-- that is needed is dirty, or a mutator is about to mark it; the blocks below a new object of the major heap were passed over.
pub record World (p : Program) (lay : Constants) (first : ℕ) (w : Words) (g : Graph) (b : Book) (said : ℕ → List Answer) (by : ℕ → ℕ)
    (actors : ℕ → Actor) : Type 0 where
  pub owner : ℕ → Owner
  pub ground : Ground p lay w g b owner
  pub stands : (k : ℕ) → Stands p lay w g b said k (actors k)
  pub beside : (k : ℕ) → Beside p lay w b by k (actors k).mid
  pub headed : (n : ℕ) → 1 ≤ n → b.stands n ≡ true → IsHeaded w.word g b n ⊎ ((k : ℕ) × WritesHeader (b.address n) (actors k).mid)
  pub carded : (card : ℕ) → IsNeeded p g b card → (w.card card ≡ 1) ⊎ ((k : ℕ) × Marks card (actors k).mid)
  pub lower : (n j : ℕ) → first < n → b.stands n ≡ true → j < p.config.blocks → block_at p j + 256 ≤ b.address n →
      IsPassed w b.owed (slot_words (g.size n)) j
