-- Who stands where on a board, and what the words say of the book's fragments.
use Rattle.std.proofs.Common.{◌≡◌, ℕ, ◌<◌, ◌≤◌, true, false, List, [], ◌∷◌, map, refl, ap, sym, ◌∙◌, subst, arith}
use Rattle.sg_order.specs.Knowing.{IsInSweep}
use Rattle.sg_words.specs.Address.{byte_at}
use Rattle.sg_words.specs.Words.{Words}
use Rattle.sg_program.specs.declared.program.Statement.{Statement}
use Rattle.sg_program.specs.declared.program.Statement.TheVariants.{New, NewV, Mature, Collect, Sections}
use Rattle.sg_program.specs.declared.program.Program.{Program}
use Rattle.sg_program.specs.declared.answers.Request.{Request}
use Rattle.sg_program.specs.declared.answers.Request.TheVariants.{Need, Slot, Minor, Major, Sections as AllSections}
use Rattle.sg_program.specs.Scripts.{IsMaking, IsMature, IsCollecting, made_words, made_slot, IsRequestOf}
use Rattle.sg_graph.specs.Graph.{Graph}
use Rattle.sg_graph.specs.Book.{Book, LacksRoom}
use Rattle.sg_graph.specs.Epoch.{Said, Turn, Explains}
use Rattle.sg_graph.specs.Turns.{Position, Between, Claiming, OpeningBlock, TakingSlot, TakingOver, SweepingBlock, BehindSweep, HasLeft, HasGone, IsLowestFrom, HasNoneFrom}
use Rattle.sg_rules.specs.Rules.{Constants, Mid, Idle, TestTag, TestLength, Access, MarkCard, AccessGlobal, Look, Claim, StoreLength, StoreTag, HideLength, Ask, Left, Yielded, Actor}
use Rattle.sg_rules.specs.Rules.{Task, Search, Roam, SeeBlock, TakeBlock, SeeUsed, TakeSlot, TakeOver, StoreOccupancy, ClearSlots, ClearWords, Retired}
use Rattle.sg_rules.specs.Acting.{RestsAt}
use Rattle.sg_mutate.specs.Boards.{IsAt}
use Rattle.sg_mutate.proofs.Ends.{Lacks, Finds, IsRoaming}

-- who stands on a board is between two turns
pub at_rest : (p : Program) (script : List Statement) (mid : Mid) (position : Position) → IsAt p script mid position → RestsAt mid
at_rest p script Idle position h = tt
at_rest p script (TestTag s test) position h = absurd h
at_rest p script (TestLength s test class) position h = absurd h
at_rest p script (Access s) position h = absurd h
at_rest p script (MarkCard s card) position h = absurd h
at_rest p script (AccessGlobal s) position h = absurd h
at_rest p script (Look s f) position h = absurd h
at_rest p script (Claim s f seen) position h = tt
at_rest p script (StoreLength s x) position h = absurd h
at_rest p script (StoreTag s x) position h = absurd h
at_rest p script (HideLength d s offset) position h = absurd h
at_rest p script (SeeBlock (Search s) true c) position h = tt
at_rest p script (SeeBlock (Search s) false c) position h = absurd h
at_rest p script (SeeBlock Roam begins c) position h = absurd h
at_rest p script (TakeBlock s c) position h = tt
at_rest p script (SeeUsed s c) position h = absurd h
at_rest p script (TakeSlot s c i) position h = tt
at_rest p script (TakeOver t c z) position h = tt
at_rest p script (StoreOccupancy t c z) position h = tt
at_rest p script (ClearSlots t c z i) position h = absurd h
at_rest p script (ClearWords t c z i f) position h = absurd h
at_rest p script Retired position h = absurd h
at_rest p script (Ask s) position h = absurd h
at_rest p script (Left s) position h = tt
at_rest p script Yielded position h = tt

pub at_idle : (p : Program) (script : List Statement) (mid : Mid) (position : Position) → IsAt p script mid position → mid ≡ Idle → ¬ HasGone position →
    position ≡ Between
at_idle p script mid position h e stays = go position (subst (λ (m : Mid). IsAt p script m position) e h) stays
  where
    go : (q : Position) → IsAt p script Idle q → ¬ HasGone q → q ≡ Between
    go Between h stays = refl
    go (Claiming f seen) h stays = absurd h
    go (OpeningBlock c) h stays = absurd h
    go (TakingSlot c i) h stays = absurd h
    go (TakingOver c) h stays = absurd h
    go (SweepingBlock c) h stays = absurd h
    go (BehindSweep c) h stays = absurd h
    go (HasLeft leave) h stays = absurd (stays tt)

pub at_claim : (p : Program) (script : List Statement) (mid : Mid) (position : Position) (s : Statement) (f seen : ℕ) → IsAt p script mid position →
    mid ≡ Claim s f seen →
    position ≡ Claiming f seen
at_claim p script mid position s f seen h e = go position (subst (λ (m : Mid). IsAt p script m position) e h)
  where
    go : (q : Position) → IsAt p script (Claim s f seen) q → q ≡ Claiming f seen
    go Between h = absurd h
    go (Claiming fragment found) h = let one = h.0 in let two = h.1 in cc
    go (OpeningBlock c) h = absurd h
    go (TakingSlot c i) h = absurd h
    go (TakingOver c) h = absurd h
    go (SweepingBlock c) h = absurd h
    go (BehindSweep c) h = absurd h
    go (HasLeft leave) h = absurd h

pub at_opening : (p : Program) (script : List Statement) (mid : Mid) (position : Position) (s : Statement) (c : ℕ) → IsAt p script mid position → mid ≡ TakeBlock s c → position ≡ OpeningBlock c
at_opening p script mid position s c h e = go position (subst (λ (m : Mid). IsAt p script m position) e h)
  where
    go : (q : Position) → IsAt p script (TakeBlock s c) q → q ≡ OpeningBlock c
    go Between h = absurd h
    go (Claiming f seen) h = absurd h
    go (OpeningBlock d) h = ap OpeningBlock h
    go (TakingSlot d x) h = absurd h
    go (TakingOver d) h = absurd h
    go (SweepingBlock d) h = absurd h
    go (BehindSweep d) h = absurd h
    go (HasLeft leave) h = absurd h

pub at_slot : (p : Program) (script : List Statement) (mid : Mid) (position : Position) (s : Statement) (c i : ℕ) → IsAt p script mid position → mid ≡ TakeSlot s c i → position ≡ TakingSlot c i
at_slot p script mid position s c i h e = go position (subst (λ (m : Mid). IsAt p script m position) e h)
  where
    go : (q : Position) → IsAt p script (TakeSlot s c i) q → q ≡ TakingSlot c i
    go Between h = absurd h
    go (Claiming f seen) h = absurd h
    go (OpeningBlock d) h = absurd h
    go (TakingSlot d x) h = let one = h.0 in let two = h.1 in cc
    go (TakingOver d) h = absurd h
    go (SweepingBlock d) h = absurd h
    go (BehindSweep d) h = absurd h
    go (HasLeft leave) h = absurd h

pub at_taking_over : (p : Program) (script : List Statement) (mid : Mid) (position : Position) (s : Statement) (c z : ℕ) → IsAt p script mid position → mid ≡ TakeOver (Search s) c z → position ≡ TakingOver c
at_taking_over p script mid position s c z h e = go position (subst (λ (m : Mid). IsAt p script m position) e h)
  where
    go : (q : Position) → IsAt p script (TakeOver (Search s) c z) q → q ≡ TakingOver c
    go Between h = absurd h
    go (Claiming f seen) h = absurd h
    go (OpeningBlock d) h = absurd h
    go (TakingSlot d x) h = absurd h
    go (TakingOver d) h = ap TakingOver h
    go (SweepingBlock d) h = absurd h
    go (BehindSweep d) h = absurd h
    go (HasLeft leave) h = absurd h

pub at_sweeping : (p : Program) (script : List Statement) (mid : Mid) (position : Position) (s : Statement) (c z : ℕ) → IsAt p script mid position → mid ≡ StoreOccupancy (Search s) c z → position ≡ SweepingBlock c
at_sweeping p script mid position s c z h e = go position (subst (λ (m : Mid). IsAt p script m position) e h)
  where
    go : (q : Position) → IsAt p script (StoreOccupancy (Search s) c z) q → q ≡ SweepingBlock c
    go Between h = absurd h
    go (Claiming f seen) h = absurd h
    go (OpeningBlock d) h = absurd h
    go (TakingSlot d x) h = absurd h
    go (TakingOver d) h = absurd h
    go (SweepingBlock d) h = ap SweepingBlock h
    go (BehindSweep d) h = absurd h
    go (HasLeft leave) h = absurd h

pub at_behind : (p : Program) (script : List Statement) (mid : Mid) (position : Position) (s : Statement) (c : ℕ) → IsAt p script mid position → mid ≡ SeeBlock (Search s) true c → position ≡ BehindSweep c
at_behind p script mid position s c h e = go position (subst (λ (m : Mid). IsAt p script m position) e h)
  where
    go : (q : Position) → IsAt p script (SeeBlock (Search s) true c) q → q ≡ BehindSweep c
    go Between h = absurd h
    go (Claiming f seen) h = absurd h
    go (OpeningBlock d) h = absurd h
    go (TakingSlot d x) h = absurd h
    go (TakingOver d) h = absurd h
    go (SweepingBlock d) h = absurd h
    go (BehindSweep d) h = ap BehindSweep h
    go (HasLeft leave) h = absurd h

-- who stands before the sweep of a block sweeps it
pub swept_at : (p : Program) (script : List Statement) (mid : Mid) (c : ℕ) → IsAt p script mid (SweepingBlock c) → (s : Statement) × (z : ℕ) × (mid ≡ StoreOccupancy (Search s) c z)
swept_at p script (StoreOccupancy (Search s) d z) c h = (s, z, ap (λ x. StoreOccupancy (Search s) x z) (sym h))
swept_at p script (StoreOccupancy Roam d z) c h = absurd h
swept_at p script (SeeBlock (Search s) true d) c h = absurd h
swept_at p script (SeeBlock (Search s) false d) c h = absurd h
swept_at p script (SeeBlock Roam begins d) c h = absurd h
swept_at p script (TakeOver (Search s) d z) c h = absurd h
swept_at p script (TakeOver Roam d z) c h = absurd h
swept_at p script mid c h = absurd h

-- who is in the midst of a sweep stands before it, between two turns
pub in_sweep : (p : Program) (script : List Statement) (mid : Mid) (position : Position) (c z : ℕ) → IsAt p script mid position → IsInSweep c z mid →
    position ≡ SweepingBlock c
in_sweep p script (StoreOccupancy (Search s) d y) position c z h (e, f) =
    at_sweeping p script (StoreOccupancy (Search s) d y) position s d y h refl ∙ ap SweepingBlock (sym e)
in_sweep p script (StoreOccupancy Roam d y) position c z h q = absurd h
in_sweep p script (ClearSlots t d y i) position c z h q = absurd h
in_sweep p script (ClearWords t d y i f) position c z h q = absurd h
in_sweep p script mid position c z h q = absurd q

-- and no sweeper stands on a board
pub no_sweeper : (p : Program) (script : List Statement) (mid : Mid) (position : Position) → IsAt p script mid position → IsRoaming mid → ⊥
no_sweeper p script (SeeBlock Roam true c) position h r = h
no_sweeper p script (SeeBlock Roam false c) position h r = h
no_sweeper p script (TakeOver Roam c z) position h r = h
no_sweeper p script (StoreOccupancy Roam c z) position h r = h
no_sweeper p script Retired position h r = h
no_sweeper p script mid position h r = r

-- an object that finds no room is asked for
pub request_of : (p : Program) (s : Statement) → IsMaking s → IsRequestOf p s (Need (made_words p s))
request_of p (New r class) m = refl
request_of p (NewV r class count) m = refl
request_of p s m = absurd m

-- one that finds no slot is asked for
pub slot_request_of : (p : Program) (s : Statement) → IsMature s → IsRequestOf p s (Slot (made_slot p s))
slot_request_of p (Mature r class) m = refl
slot_request_of p s m = absurd m

-- and what a statement asks for in any case is its request
pub collects : (p : Program) (s : Statement) (request : Request) → IsCollecting s request → IsRequestOf p s request
collects p (Collect false) Minor is = tt
collects p (Collect true) Major is = tt
collects p Sections AllSections is = tt
collects p s request is = absurd is

pub none_by : (rest : List Said) → map (λ (s : Said). s.by) rest ≡ [] → rest ≡ []
none_by [] e = refl
none_by (s ∷ rest) e = cc

-- one statement more
pub record OneMore (p : Program) (g : Graph) (b : Book) (k : ℕ) (rest : List Said) (g' : Graph) (b' : Book) : Type 0 where
  pub said : Said
  pub rest_is : rest ≡ said ∷ []
  pub by : said.by ≡ k
  pub graph : Graph
  pub book : Book
  pub turn : Turn p g b said graph book
  pub graph_is : g' ≡ graph
  pub book_is : b' ≡ book

pub one_by : (p : Program) (g : Graph) (b : Book) (k : ℕ) (rest : List Said) (g' : Graph) (b' : Book) →
    map (λ (s : Said). s.by) rest ≡ k ∷ [] → Explains p g b rest g' b' →
    OneMore p g b k rest g' b'
one_by p g b k [] g' b' e ex = cc
one_by p g b k (s ∷ []) g' b' e ex = record { said = s; rest_is = refl; by = cc; graph = ex.0; book = ex.1; turn = ex.2; graph_is = ex.3.0; book_is = ex.3.1 }
one_by p g b k (s ∷ (t ∷ rest)) g' b' e ex = cc

-- a mutator between two statements on a board
pub record Reads (p : Program) (b : Book) (g : Graph) (k : ℕ) (a : Actor) : Type 0 where
  pub script_is : (g.mutator k).script ≡ a.script
  pub from_is : a.from ≡ b.from k
  pub to_is : a.to ≡ b.to k

-- the fragments of the words are the book's
pub record AreFragments (lay : Constants) (w : Words) (b : Book) : Type 0 where
  pub fragments : b.fragments ≡ lay.fragments
  pub limits : (f : ℕ) → f < b.fragments → b.limit f ≡ lay.limit f
  pub nexts : (f : ℕ) → f < b.fragments → w.next f ≡ byte_at (b.next f)

module _ (p : Program) (lay : Constants) (w : Words) (b : Book) (are : AreFragments lay w b) (n f : ℕ) where
  lacks : (i : ℕ) → i < b.fragments → Lacks lay w n i → LacksRoom b n i
  lacks i l h = let x = are.limits i l in let y = are.nexts i l in let z = h.1 in let q = h.2 in omega arith

  pub found : (j next : ℕ) → Finds lay w n f j next → IsLowestFrom b n f j × (b.next j ≡ next)
  found j next h =
      let there : j < b.fragments = let l = h.there in let q = are.fragments in omega arith in
      let x = are.limits j there in
      let y = are.nexts j there in (
        record {
          from = h.from;
          there = there;
          room = let z = h.is in let q = h.room in omega arith;
          lowest = λ i from below. lacks i (omega arith) (h.lowest i from below);
        },
        let z = h.is in omega arith,
      )

  pub none : ((i : ℕ) → f ≤ i → i < lay.fragments → Lacks lay w n i) → HasNoneFrom b n f
  none h = λ i from there. lacks i there (h i from (let q = are.fragments in omega arith))
