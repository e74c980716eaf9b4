-- The lists of nodes of a mutator's globals, and where it is in its moves.
use Rattle.std.proofs.Common.{◌≡◌, ℕ, zero, suc, ◌+◌, ◌<◌, ◌≤◌, ◌⊎◌, List, [], ◌∷◌, ◌++◌, take, drop, sym, ap, ◌∙◌, subst, arith}
use Rattle.std.specs.List.{AllByRecursion, sum_by}
use Rattle.sg_program.specs.declared.program.Statement.{Statement}
use Rattle.sg_program.specs.declared.program.Statement.TheVariants.{Put, Get, PutD, GetD, Num, Drop, GPut, GGet}
use Rattle.sg_graph.specs.Graph.{Graph, Entry, Ref, Int}
use Rattle.sg_gen.specs.declared.generated.Move.{Move}
use Rattle.sg_gen.specs.declared.generated.Move.TheVariants.{Grows, Reads, Shrinks}
use Rattle.sg_load.specs.Generated.{all_statements}
use Rattle.sg_load.specs.Alone.{lists_after, sum_from, global_of}

-- the object is a node that mutator k made, no later than the object b
pub record IsNode (g : Graph) (k b n : ℕ) : Type 0 where
  pub some : 1 ≤ n
  pub bound : n ≤ b
  pub maker : g.maker n ≡ k
  pub class : g.class n ≡ 0
  pub size : g.size n ≡ 3

-- the name is that of the first node of a list of these numbers, or 0 where there are none
abbrev pub Chain : Graph → ℕ → ℕ → ℕ → List ℕ → Type 0
Chain g k b name [] = name ≡ 0
Chain g k b name (x ∷ xs) = IsNode g k b name × (g.field name 2 ≡ Int x) × ((next : ℕ) × (g.field name 0 ≡ Ref next) × Chain g k b next xs)

-- what is asked of a node stays
pub record IsSame (g h : Graph) (n : ℕ) : Type 0 where
  pub maker : h.maker n ≡ g.maker n
  pub class : h.class n ≡ g.class n
  pub size : h.size n ≡ g.size n
  pub field : h.field n ≡ g.field n

pub node_kept : (g h : Graph) (k b n : ℕ) → IsNode g k b n → IsSame g h n → IsNode h k b n
node_kept g h k b n is same = record {
  some = is.some;
  bound = is.bound;
  maker = same.maker ∙ is.maker;
  class = same.class ∙ is.class;
  size = same.size ∙ is.size;
}

pub node_above : (g : Graph) (k b c n : ℕ) → b ≤ c → IsNode g k b n → IsNode g k c n
node_above g k b c n l is = let low = is.bound in record { some = is.some; bound = omega (arith, l, low); maker = is.maker; class = is.class; size = is.size }

pub chain_kept : (g h : Graph) (k b : ℕ) → ((n : ℕ) → IsNode g k b n → IsSame g h n) → (name : ℕ) (xs : List ℕ) → Chain g k b name xs → Chain h k b name xs
chain_kept g h k b same name [] none = none
chain_kept g h k b same name (x ∷ xs) (is, number, (next, link, more)) =
    let kept = same name is in
    (node_kept g h k b name is kept, ap (λ (f : ℕ → Entry). f 2) kept.field ∙ number, (next, ap (λ (f : ℕ → Entry). f 0) kept.field ∙ link, chain_kept g h k b same next xs more))

pub chain_above : (g : Graph) (k b c : ℕ) → b ≤ c → (name : ℕ) (xs : List ℕ) → Chain g k b name xs → Chain g k c name xs
chain_above g k b c l name [] none = none
chain_above g k b c l name (x ∷ xs) (is, number, (next, link, more)) = (node_above g k b c name l is, number, (next, link, chain_above g k b c l next xs more))

-- what the last move of a list leaves to do, which changes no list
abbrev pub IsQuiet : Statement → Type 0
IsQuiet s = ((r : ℕ) × (s ≡ Drop r)) ⊎ ((r n : ℕ) × (s ≡ Num r n))

-- the end of a move that reads: a number, and the numbers of so many more nodes
abbrev pub reading : ℕ → List Statement
reading zero = GetD 3 2 2 ∷ []
reading (suc m) = GetD 3 2 2 ∷ Get 2 2 0 ∷ reading m

abbrev pub sum : List ℕ → ℕ
sum xs = sum_by (λ n. n) xs

module _ (owner : ℕ → ℕ) where
  -- each global of mutator k holds the list of these numbers
  abbrev pub Shown : Graph → ℕ → ℕ → (ℕ → List ℕ) → Type 0
  Shown g k b lists = (x : ℕ) → owner x ≡ k → Chain g k b (g.global x) (lists x)

  -- these moves are around globals of mutator k
  abbrev pub AreOwn : ℕ → List Move → Type 0
  AreOwn k moves = AllByRecursion (λ move. owner (global_of move) ≡ k) moves

  -- in the middle of a move that grows global x's list: register 0 has the new node n, which is in no list yet
  pub record Growing (g : Graph) (register : ℕ → Entry) (k left x number n : ℕ) (lists : ℕ → List ℕ) (more : List Move) : Type 0 where
    pub own : owner x ≡ k
    pub owns : AreOwn k more
    pub reads : left ≡ sum_from (lists_after lists (Grows x number)) more
    pub is : IsNode g k g.count n
    pub holds : register 0 ≡ Ref n
    pub bound : ℕ
    pub below : bound < n
    pub shown : Shown g k bound lists

  -- Where mutator k is in its moves, by the statements before it and its registers. `left` is what it reads from here on.
  pub data IsAt (g : Graph) (register : ℕ → Entry) (k : ℕ) (script : List Statement) (left : ℕ) : Type 0 where
    Between : (quiet : List Statement) (lists : ℕ → List ℕ) (more : List Move) → AllByRecursion IsQuiet quiet → script ≡ quiet ++ all_statements more →
        left ≡ sum_from lists more → AreOwn k more → Shown g k g.count lists → IsAt g register k script left
    Made : (x number n : ℕ) (lists : ℕ → List ℕ) (more : List Move) →
        script ≡ Num 1 number ∷ PutD 0 2 1 ∷ GGet 2 x ∷ Put 0 0 2 ∷ GPut x 0 ∷ all_statements more →
        Growing g register k left x number n lists more → IsAt g register k script left
    Numbered : (x number n : ℕ) (lists : ℕ → List ℕ) (more : List Move) → script ≡ PutD 0 2 1 ∷ GGet 2 x ∷ Put 0 0 2 ∷ GPut x 0 ∷ all_statements more →
        Growing g register k left x number n lists more → register 1 ≡ Int number → IsAt g register k script left
    Filled : (x number n : ℕ) (lists : ℕ → List ℕ) (more : List Move) → script ≡ GGet 2 x ∷ Put 0 0 2 ∷ GPut x 0 ∷ all_statements more →
        Growing g register k left x number n lists more → g.field n 2 ≡ Int number → IsAt g register k script left
    Fetched : (x number n head : ℕ) (lists : ℕ → List ℕ) (more : List Move) → script ≡ Put 0 0 2 ∷ GPut x 0 ∷ all_statements more →
        (grows : Growing g register k left x number n lists more) → g.field n 2 ≡ Int number → register 2 ≡ Ref head → Chain g k grows.bound head (lists x) →
        IsAt g register k script left
    Linked : (x number n : ℕ) (lists : ℕ → List ℕ) (more : List Move) → script ≡ GPut x 0 ∷ all_statements more →
        Growing g register k left x number n lists more → Chain g k g.count n (number ∷ lists x) → IsAt g register k script left
    AtNumber : (m head : ℕ) (numbers : List ℕ) (lists : ℕ → List ℕ) (more : List Move) → script ≡ reading m ++ all_statements more →
        left ≡ sum (take (suc m) numbers) + sum_from lists more → AreOwn k more → Shown g k g.count lists → register 2 ≡ Ref head → Chain g k g.count head numbers →
        IsAt g register k script left
    AtNext : (m head : ℕ) (numbers : List ℕ) (lists : ℕ → List ℕ) (more : List Move) → script ≡ Get 2 2 0 ∷ reading m ++ all_statements more →
        left ≡ sum (take (suc m) (drop 1 numbers)) + sum_from lists more → AreOwn k more → Shown g k g.count lists → register 2 ≡ Ref head →
        Chain g k g.count head numbers → IsAt g register k script left
    Taken : (x head : ℕ) (lists : ℕ → List ℕ) (more : List Move) → script ≡ Get 2 2 0 ∷ GPut x 2 ∷ Drop 2 ∷ Drop 0 ∷ Num 3 0 ∷ all_statements more → owner x ≡ k →
        left ≡ sum_from (lists_after lists (Shrinks x)) more → AreOwn k more → Shown g k g.count lists → register 2 ≡ Ref head → Chain g k g.count head (lists x) →
        IsAt g register k script left
    Cut : (x head : ℕ) (lists : ℕ → List ℕ) (more : List Move) → script ≡ GPut x 2 ∷ Drop 2 ∷ Drop 0 ∷ Num 3 0 ∷ all_statements more → owner x ≡ k →
        left ≡ sum_from (lists_after lists (Shrinks x)) more → AreOwn k more → Shown g k g.count lists → register 2 ≡ Ref head →
        Chain g k g.count head (drop 1 (lists x)) → IsAt g register k script left

  -- what others do is seen by no node of mutator k, and by no global of its own
  pub record Frames (g h : Graph) (k : ℕ) : Type 0 where
    pub count : g.count ≤ h.count
    pub same : (n : ℕ) → IsNode g k g.count n → IsSame g h n
    pub global : (x : ℕ) → owner x ≡ k → h.global x ≡ g.global x

  module _ (g h : Graph) (k : ℕ) (frames : Frames g h k) where
    lower : (b n : ℕ) → b ≤ g.count → IsNode g k b n → IsSame g h n
    lower b n l is = frames.same n (node_above g k b g.count n l is)

    framed_chain : (b name : ℕ) (xs : List ℕ) → b ≤ g.count → Chain g k b name xs → Chain h k b name xs
    framed_chain b name xs l = chain_kept g h k b (λ n. lower b n l) name xs

    higher_chain : (name : ℕ) (xs : List ℕ) → Chain g k g.count name xs → Chain h k h.count name xs
    higher_chain name xs chain = chain_above h k g.count h.count frames.count name xs (framed_chain g.count name xs (omega arith) chain)

    framed_shown : (b : ℕ) (lists : ℕ → List ℕ) → b ≤ g.count → Shown g k b lists → Shown h k b lists
    framed_shown b lists l shown x e = subst (λ (n : ℕ). Chain h k b n (lists x)) (sym (frames.global x e)) (framed_chain b (g.global x) (lists x) l (shown x e))

    higher_shown : (lists : ℕ → List ℕ) → Shown g k g.count lists → Shown h k h.count lists
    higher_shown lists shown x e = chain_above h k g.count h.count frames.count (h.global x) (lists x) (framed_shown g.count lists (omega arith) shown x e)

    module _ (register : ℕ → Entry) (left x number n : ℕ) (lists : ℕ → List ℕ) (more : List Move) (grows : Growing g register k left x number n lists more) where
      low : grows.bound ≤ g.count
      low = let below = grows.below in let bound = grows.is.bound in omega (arith, below, bound)

      framed_growing : Growing h register k left x number n lists more
      framed_growing = record {
        own = grows.own;
        owns = grows.owns;
        reads = grows.reads;
        is = node_above h k g.count h.count n frames.count (node_kept g h k g.count n grows.is (frames.same n grows.is));
        holds = grows.holds;
        bound = grows.bound;
        below = grows.below;
        shown = framed_shown grows.bound lists low grows.shown;
      }

      framed_number : g.field n 2 ≡ Int number → h.field n 2 ≡ Int number
      framed_number e = ap (λ (f : ℕ → Entry). f 2) (frames.same n grows.is).field ∙ e

    -- so mutator k is where it was
    pub framed : (register : ℕ → Entry) (script : List Statement) (left : ℕ) → IsAt g register k script left → IsAt h register k script left
    unfolding framed_growing
    framed register script left (Between quiet lists more q s l o shown) = Between quiet lists more q s l o (higher_shown lists shown)
    framed register script left (Made x number n lists more s grows) = Made x number n lists more s (framed_growing register left x number n lists more grows)
    framed register script left (Numbered x number n lists more s grows e) = Numbered x number n lists more s (framed_growing register left x number n lists more grows) e
    framed register script left (Filled x number n lists more s grows e) =
        Filled x number n lists more s (framed_growing register left x number n lists more grows) (framed_number register left x number n lists more grows e)
    framed register script left (Fetched x number n head lists more s grows e r chain) =
        Fetched x number n head lists more s (framed_growing register left x number n lists more grows) (framed_number register left x number n lists more grows e) r
        (framed_chain grows.bound head (lists x) (low register left x number n lists more grows) chain)
    framed register script left (Linked x number n lists more s grows chain) =
        Linked x number n lists more s (framed_growing register left x number n lists more grows) (higher_chain n (number ∷ lists x) chain)
    framed register script left (AtNumber m head numbers lists more s l o shown r chain) =
        AtNumber m head numbers lists more s l o (higher_shown lists shown) r (higher_chain head numbers chain)
    framed register script left (AtNext m head numbers lists more s l o shown r chain) =
        AtNext m head numbers lists more s l o (higher_shown lists shown) r (higher_chain head numbers chain)
    framed register script left (Taken x head lists more s w l o shown r chain) =
        Taken x head lists more s w l o (higher_shown lists shown) r (higher_chain head (lists x) chain)
    framed register script left (Cut x head lists more s w l o shown r chain) =
        Cut x head lists more s w l o (higher_shown lists shown) r (higher_chain head (drop 1 (lists x)) chain)

  -- with no statement left nothing is left to read, and nothing hangs on the registers
  pub at_end : (g : Graph) (register other : ℕ → Entry) (k : ℕ) (script : List Statement) (left : ℕ) → script ≡ [] → IsAt g register k script left →
      (left ≡ 0) × IsAt g other k script left
  at_end g register other k script left none (Between [] lists [] q s l o shown) = (l, Between [] lists [] q s l o shown)
  at_end g register other k script left none (Between [] lists (move ∷ more) q s l o shown) = absurd (no_more move more (sym s ∙ none))
    where
      no_more : (move : Move) (more : List Move) → all_statements (move ∷ more) ≡ [] → ⊥
      no_more (Grows x number) more e = absurd cc
      no_more (Reads x) more e = absurd cc
      no_more (Shrinks x) more e = absurd cc
  at_end g register other k script left none (Between (s ∷ quiet) lists more q e l o shown) = let clash : s ∷ quiet ++ all_statements more ≡ [] = sym e ∙ none in absurd cc
  at_end g register other k script left none (Made x number n lists more s grows) = let clash = sym s ∙ none in absurd cc
  at_end g register other k script left none (Numbered x number n lists more s grows e) = let clash = sym s ∙ none in absurd cc
  at_end g register other k script left none (Filled x number n lists more s grows e) = let clash = sym s ∙ none in absurd cc
  at_end g register other k script left none (Fetched x number n head lists more s grows e r chain) = let clash = sym s ∙ none in absurd cc
  at_end g register other k script left none (Linked x number n lists more s grows chain) = let clash = sym s ∙ none in absurd cc
  at_end g register other k script left none (AtNumber zero head numbers lists more s l o shown r chain) =
      let clash : GetD 3 2 2 ∷ all_statements more ≡ [] = sym s ∙ none in absurd cc
  at_end g register other k script left none (AtNumber (suc m) head numbers lists more s l o shown r chain) =
      let clash : GetD 3 2 2 ∷ Get 2 2 0 ∷ reading m ++ all_statements more ≡ [] = sym s ∙ none in absurd cc
  at_end g register other k script left none (AtNext m head numbers lists more s l o shown r chain) = let clash = sym s ∙ none in absurd cc
  at_end g register other k script left none (Taken x head lists more s w l o shown r chain) = let clash = sym s ∙ none in absurd cc
  at_end g register other k script left none (Cut x head lists more s w l o shown r chain) = let clash = sym s ∙ none in absurd cc
