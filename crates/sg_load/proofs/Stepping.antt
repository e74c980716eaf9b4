-- A statement of a move: what it reads, where its mutator is then, and that no other one sees it.
use Rattle.std.proofs.Common.{◌≡◌, ◌≢◌, ℕ, zero, suc, ◌+◌, ◌<◌, List, [], ◌∷◌, ◌++◌, take, drop, refl, sym, ap, ◌∙◌, subst, inl, inr, arith}
use Rattle.std.specs.List.{AllByRecursion}
use Rattle.std.proofs.lemmas.Bool.{cases_eq}
use Rattle.std.proofs.lemmas.List.Sums.{sum_by-cons}
use Rattle.sg_words.specs.Words.{put}
use Rattle.sg_words.proofs.Puts.{put-at, put-same, put-other}
use Rattle.sg_desc.specs.declared.shapes.Descriptor.TheVariants.{Bitmap}
use Rattle.sg_program.specs.declared.program.Program.{Program}
use Rattle.sg_program.specs.declared.program.Statement.{Statement}
use Rattle.sg_program.specs.declared.program.Statement.TheVariants.{New, Put, Get, PutD, GetD, Num, Drop, GPut, GGet}
use Rattle.sg_program.specs.declared.answers.Answer.{Answer}
use Rattle.sg_program.specs.declared.answers.Answer.TheVariants.{Fine, Full}
use Rattle.sg_program.specs.Scripts.{kind_of, fields_of}
use Rattle.sg_graph.specs.Graph.{Graph, Mutator, Entry, Ref, Int, grown, stored, advanced}
use Rattle.sg_graph.specs.Statements.{Answers, Does, setting, name_in, hands_after, heap_after}
use Rattle.sg_gen.specs.declared.generated.Move.{Move}
use Rattle.sg_gen.specs.declared.generated.Move.TheVariants.{Grows, Reads, Shrinks}
use Rattle.sg_load.specs.Summary.{number_in}
use Rattle.sg_load.specs.Generated.{all_statements}
use Rattle.sg_load.specs.Alone.{lists_after, sum_from}
use Rattle.sg_load.proofs.Chains.{IsNode, Chain, IsSame, chain_kept, chain_above, IsQuiet, sum, Shown, AreOwn, Growing, IsAt, Between, Made, Numbered, Filled, Fetched, Linked, AtNumber, AtNext, Taken, Cut, Frames, framed}
use Rattle.sg_load.proofs.Answering.{new_answer, num_answer, drop_answer, gput_answer, gget_answer, putd_answer, put_answer, getd_answer, get_answer}

nothing : (left : ℕ) → left ≡ 0 + left
nothing left = omega arith

module _ (owner : ℕ → ℕ) where
  -- mutator k was answered this, and is behind it
  pub record Steps (g : Graph) (k : ℕ) (a : Answer) (h : Graph) (left : ℕ) : Type 0 where
    pub less : ℕ
    pub reads : left ≡ number_in a + less
    pub at : IsAt owner h (h.mutator k).register k (h.mutator k).script less
    pub others : (j : ℕ) → j ≢ k → Frames owner g h j

  module _ (p : Program) (kind : kind_of p 0 ≡ Bitmap 3) (fields : fields_of p 0 ≡ 3) (g : Graph) (k : ℕ) where
    abbrev m : Mutator
    m = g.mutator k

    -- a heap of which one mutator alone does something else
    abbrev after : Statement → Answer → List Statement → Graph
    after s a rest = advanced (heap_after p g k m s a) k (hands_after m s a) rest

    abbrev Stepped : Statement → List Statement → Answer → ℕ → Type 0
    Stepped s rest a left = Steps g k a (after s a rest) left

    module _ (x : Graph) (hands : Mutator) (rest : List Statement) where
      abbrev behind : Graph
      behind = advanced x k hands rest

      -- where it is by its new hands
      landed : (left : ℕ) → IsAt owner behind hands.register k rest left → IsAt owner behind (behind.mutator k).register k (behind.mutator k).script left
      landed left at = subst (λ (n : Mutator). IsAt owner behind n.register k n.script left) (sym (put-same x.mutator k (record hands { script = rest }))) at

    -- nothing but the hands has changed
    same_heap : (hands : Mutator) (rest : List Statement) (j : ℕ) → Frames owner g (advanced g k hands rest) j
    same_heap hands rest j = record { count = omega arith; same = λ n is. record { maker = refl; class = refl; size = refl; field = refl }; global = λ x e. refl }

    in_hands : (hands : Mutator) (rest : List Statement) (a : Answer) (left less : ℕ) → left ≡ number_in a + less → IsAt owner g hands.register k rest less →
        Steps g k a (advanced g k hands rest) left
    in_hands hands rest a left less e at = record {
      less = less;
      reads = e;
      at = landed g hands rest less (framed owner g (advanced g k hands rest) k (same_heap hands rest k) hands.register rest less at);
      others = λ j n. same_heap hands rest j;
    }

    -- one more object
    new_heap : (hands : Mutator) (rest : List Statement) (c n : ℕ) (j : ℕ) → Frames owner g (advanced (grown p g k c n) k hands rest) j
    new_heap hands rest c n j = record {
      count = omega arith;
      same = λ i is.
          let other : i ≢ suc g.count = λ e. let l = is.bound in omega (arith, e, l) in
          record {
            maker = put-other g.maker (suc g.count) k i other;
            class = put-other g.class (suc g.count) c i other;
            size = put-other g.size (suc g.count) n i other;
            field = put-other g.field (suc g.count) _ i other;
          };
      global = λ x e. refl;
    }

    new_stepped : (rest : List Statement) (a : Answer) (left x number : ℕ) (lists : ℕ → List ℕ) (more : List Move) → Answers p g m (New 0 0) a → a ≢ Full →
        rest ≡ Num 1 number ∷ PutD 0 2 1 ∷ GGet 2 x ∷ Put 0 0 2 ∷ GPut x 0 ∷ all_statements more → owner x ≡ k → AreOwn owner k more →
        left ≡ sum_from (lists_after lists (Grows x number)) more → Shown owner g k g.count lists → Stepped (New 0 0) rest a left
    new_stepped rest a left x number lists more answers full s own owns e shown = subst (λ (a : Answer). Stepped (New 0 0) rest a left) (sym (new_answer p kind g m 0 0 a answers full)) (record {
      less = left;
      reads = nothing left;
      at = landed grows hands rest left (Made x number (suc g.count) lists more s (record {
        own = own;
        owns = owns;
        reads = e;
        is = record {
          some = omega arith;
          bound = omega arith;
          maker = put-same g.maker (suc g.count) k;
          class = put-same g.class (suc g.count) 0;
          size = put-same g.size (suc g.count) (fields_of p 0) ∙ fields;
        };
        holds = put-same m.register 0 (Ref (suc g.count));
        bound = g.count;
        below = omega arith;
        shown = λ y o. chain_kept g h k g.count (λ n is. (new_heap hands rest 0 (fields_of p 0) k).same n is) (g.global y) (lists y) (shown y o);
      }));
      others = λ j n. new_heap hands rest 0 (fields_of p 0) j;
    })
      where
        grows : Graph
        grows = grown p g k 0 (fields_of p 0)

        hands : Mutator
        hands = setting m 0 (Ref (suc g.count))

        h : Graph
        h = advanced grows k hands rest

    -- a field of a node n of its own
    module _ (n : ℕ) (is : IsNode g k g.count n) (i : ℕ) (entry : Entry) (hands : Mutator) (rest : List Statement) where
      abbrev filled : Graph
      filled = advanced (stored g n i entry) k hands rest

      filled_other : (j : ℕ) → j ≢ n → IsSame g filled j
      filled_other j other = record { maker = refl; class = refl; size = refl; field = put-other g.field n (put (g.field n) i entry) j other }

      filled_node : IsNode filled k g.count n
      filled_node = record { some = is.some; bound = is.bound; maker = is.maker; class = is.class; size = is.size }

      filled_field : filled.field n i ≡ entry
      filled_field = ap (λ (f : ℕ → Entry). f i) (put-same g.field n (put (g.field n) i entry)) ∙ put-same (g.field n) i entry

      filled_beside : (j : ℕ) → j ≢ i → filled.field n j ≡ g.field n j
      filled_beside j other = ap (λ (f : ℕ → Entry). f j) (put-same g.field n (put (g.field n) i entry)) ∙ put-other (g.field n) i entry j other

      filled_frames : (j : ℕ) → j ≢ k → Frames owner g filled j
      filled_frames j other = record {
        count = omega arith;
        same = λ m there. filled_other m (λ e. other (sym there.maker ∙ ap g.maker e ∙ is.maker));
        global = λ x e. refl;
      }

      -- older nodes stay
      filled_chain : (b name : ℕ) (xs : List ℕ) → b < n → Chain g k b name xs → Chain filled k b name xs
      filled_chain b name xs l = chain_kept g filled k b (λ m there. filled_other m (λ e. let bound = there.bound in omega (arith, e, l, bound))) name xs

    module _ (left x number n : ℕ) (lists : ℕ → List ℕ) (more : List Move) (grows : Growing owner g m.register k left x number n lists more) where
      -- the new node is still in no list
      still_growing : (i : ℕ) (entry : Entry) (hands : Mutator) (rest : List Statement) → hands.register 0 ≡ Ref n →
          Growing owner (filled n grows.is i entry hands rest) hands.register k left x number n lists more
      still_growing i entry hands rest holds = record {
        own = grows.own;
        owns = grows.owns;
        reads = grows.reads;
        is = filled_node n grows.is i entry hands rest;
        holds = holds;
        bound = grows.bound;
        below = grows.below;
        shown = λ y o. filled_chain n grows.is i entry hands rest grows.bound (g.global y) (lists y) grows.below (grows.shown y o);
      }

      -- whatever else changes in its hands
      with_register : (register : ℕ → Entry) → register 0 ≡ m.register 0 → Growing owner g register k left x number n lists more
      with_register register same = record {
        own = grows.own;
        owns = grows.owns;
        reads = grows.reads;
        is = grows.is;
        holds = same ∙ grows.holds;
        bound = grows.bound;
        below = grows.below;
        shown = grows.shown;
      }

      putd_stepped : (rest : List Statement) (a : Answer) → Answers p g m (PutD 0 2 1) a → rest ≡ GGet 2 x ∷ Put 0 0 2 ∷ GPut x 0 ∷ all_statements more →
          m.register 1 ≡ Int number → Stepped (PutD 0 2 1) rest a left
      putd_stepped rest a answers s holds =
          subst (λ (a : Answer). Stepped (PutD 0 2 1) rest a left) (sym (putd_answer p kind g m k g.count n grows.is grows.holds a answers))
          (subst (λ (e : Entry). Steps g k Fine (advanced (stored g (name_in e) 2 (m.register 1)) k m rest) left) (sym grows.holds) (record {
            less = left;
            reads = nothing left;
            at = landed (stored g n 2 (m.register 1)) m rest left (Filled x number n lists more s (still_growing 2 (m.register 1) m rest grows.holds)
                (filled_field n grows.is 2 (m.register 1) m rest ∙ holds));
            others = filled_frames n grows.is 2 (m.register 1) m rest;
          }))

      put_stepped : (rest : List Statement) (a : Answer) (head : ℕ) → Answers p g m (Put 0 0 2) a → rest ≡ GPut x 0 ∷ all_statements more →
          g.field n 2 ≡ Int number → m.register 2 ≡ Ref head → Chain g k grows.bound head (lists x) → Stepped (Put 0 0 2) rest a left
      put_stepped rest a head answers s has holds chain =
          subst (λ (a : Answer). Stepped (Put 0 0 2) rest a left) (sym (put_answer p kind g m k g.count n grows.is grows.holds a answers))
          (subst (λ (e : Entry). Steps g k Fine (advanced (stored g (name_in e) 0 (m.register 2)) k m rest) left) (sym grows.holds) (record {
            less = left;
            reads = nothing left;
            at = landed (stored g n 0 (m.register 2)) m rest left (Linked x number n lists more s (still_growing 0 (m.register 2) m rest grows.holds) (
              filled_node n grows.is 0 (m.register 2) m rest,
              filled_beside n grows.is 0 (m.register 2) m rest 2 (λ e. omega (arith, e)) ∙ has,
              (
                head,
                filled_field n grows.is 0 (m.register 2) m rest ∙ holds,
                chain_above (filled n grows.is 0 (m.register 2) m rest) k grows.bound g.count (let l = grows.below in let b = grows.is.bound in omega (arith, l, b)) head (lists x)
                    (filled_chain n grows.is 0 (m.register 2) m rest grows.bound head (lists x) grows.below chain),
              ),
            ));
            others = filled_frames n grows.is 0 (m.register 2) m rest;
          }))

    -- a global of its own holds another list
    gput_stepped : (r : ℕ) (rest quiet : List Statement) (a : Answer) (left x n : ℕ) (numbers : List ℕ) (lists : ℕ → List ℕ) (more : List Move) →
        Answers p g m (GPut x r) a → m.register r ≡ Ref n → rest ≡ quiet ++ all_statements more → AllByRecursion IsQuiet quiet → owner x ≡ k → AreOwn owner k more →
        left ≡ sum_from (put lists x numbers) more → ((y : ℕ) → owner y ≡ k → Chain g k g.count (g.global y) (lists y)) → Chain g k g.count n numbers →
        Stepped (GPut x r) rest a left
    gput_stepped r rest quiet a left x n numbers lists more answers holds s q own owns e shown chain =
        subst (λ (a : Answer). Stepped (GPut x r) rest a left) (sym (gput_answer p kind g m x r a answers))
        (subst (λ (e : Entry). Steps g k Fine (advanced (record g { global = put g.global x (name_in e) }) k m rest) left) (sym holds) (record {
          less = left;
          reads = nothing left;
          at = landed (record g { global = put g.global x n }) m rest left (Between quiet (put lists x numbers) more q s e owns shown_then);
          others = λ j other. record {
            count = omega arith;
            same = λ i is. same i;
            global = λ y o. put-other g.global x n y (λ e. other (sym o ∙ ap owner e ∙ own));
          };
        }))
      where
        h : Graph
        h = advanced (record g { global = put g.global x n }) k m rest

        same : (i : ℕ) → IsSame g h i
        same i = record { maker = refl; class = refl; size = refl; field = refl }

        shown_then : Shown owner h k g.count (put lists x numbers)
        shown_then y o = elim (cases_eq y x) [
          | inl e ↦
              subst (λ (i : ℕ). Chain h k g.count i (put lists x numbers y)) (sym (put-at g.global x n y e))
              (subst (Chain h k g.count n) (sym (put-at lists x numbers y e)) (chain_kept g h k g.count (λ i is. same i) n numbers chain))
          | inr e ↦
              subst (λ (i : ℕ). Chain h k g.count i (put lists x numbers y)) (sym (put-other g.global x n y e))
              (subst (Chain h k g.count (g.global y)) (sym (put-other lists x numbers y e)) (chain_kept g h k g.count (λ i is. same i) (g.global y) (lists y) (shown y o)))
        ]

    same_first : (s t : Statement) (rest more : List Statement) → s ∷ rest ≡ t ∷ more → s ≡ t
    same_first s t rest more e = cc

    same_rest : (s t : Statement) (rest more : List Statement) → s ∷ rest ≡ t ∷ more → rest ≡ more
    same_rest s t rest more e = cc

    not_empty : (s : Statement) (rest : List Statement) → s ∷ rest ≡ [] → ⊥
    not_empty s rest e = absurd cc

    -- the statement that is done is this one
    opened : (s t : Statement) (rest : List Statement) (a : Answer) (h : Graph) (left : ℕ) → s ≡ t → Does p g k m s rest a h →
        (Answers p g m t a → Stepped t rest a left) → Steps g k a h left
    opened s t rest a h left e does step =
        let this : Does p g k m t rest a h = subst (λ (s : Statement). Does p g k m s rest a h) e does in
        subst (λ (h : Graph). Steps g k a h left) (sym this.1) (step this.0)

    -- the first node of a global's list comes to register 2
    gget_stepped : (rest : List Statement) (a : Answer) (left x : ℕ) → Answers p g m (GGet 2 x) a →
        ((register : ℕ → Entry) → register 2 ≡ Ref (g.global x) → register 0 ≡ m.register 0 → IsAt owner g register k rest left) → Stepped (GGet 2 x) rest a left
    gget_stepped rest a left x answers at =
        let is = gget_answer p kind g m 2 x a answers in
        let none = is.0 in
        subst (λ (hands : Mutator). Steps g k a (advanced g k hands rest) left) (sym is.1)
        (in_hands (setting m 2 (Ref (g.global x))) rest a left left (omega (arith, none))
        (at (put m.register 2 (Ref (g.global x))) (put-same m.register 2 (Ref (g.global x))) (put-other m.register 2 (Ref (g.global x)) 0 (λ e. omega (arith, e)))))

    num_stepped : (r n : ℕ) (rest : List Statement) (a : Answer) (left : ℕ) → Answers p g m (Num r n) a → IsAt owner g (put m.register r (Int n)) k rest left →
        Stepped (Num r n) rest a left
    num_stepped r n rest a left answers at =
        subst (λ (a : Answer). Stepped (Num r n) rest a left) (sym (num_answer p kind g m r n a answers)) (in_hands (setting m r (Int n)) rest Fine left left (nothing left) at)

    drop_stepped : (r : ℕ) (rest : List Statement) (a : Answer) (left : ℕ) → Answers p g m (Drop r) a → IsAt owner g (put m.register r (Ref 0)) k rest left →
        Stepped (Drop r) rest a left
    drop_stepped r rest a left answers at =
        subst (λ (a : Answer). Stepped (Drop r) rest a left) (sym (drop_answer p kind g m r a answers)) (in_hands (setting m r (Ref 0)) rest Fine left left (nothing left) at)

    get_stepped : (rest : List Statement) (a : Answer) (left head : ℕ) (numbers : List ℕ) → Answers p g m (Get 2 2 0) a → m.register 2 ≡ Ref head →
        Chain g k g.count head numbers →
        ((register : ℕ → Entry) (next : ℕ) → register 2 ≡ Ref next → Chain g k g.count next (drop 1 numbers) → IsAt owner g register k rest left) →
        Stepped (Get 2 2 0) rest a left
    get_stepped rest a left head numbers answers holds chain at =
        let is = get_answer p kind g m k g.count head numbers holds chain a answers in
        let none = is.0 in
        subst (λ (hands : Mutator). Steps g k a (advanced g k hands rest) left) (sym is.1.1)
        (in_hands (setting m 2 (Ref is.1.0)) rest a left left (omega (arith, none))
        (at (put m.register 2 (Ref is.1.0)) is.1.0 (put-same m.register 2 (Ref is.1.0)) is.1.2))

    getd_stepped : (rest : List Statement) (a : Answer) (left less head : ℕ) (numbers : List ℕ) → Answers p g m (GetD 3 2 2) a → m.register 2 ≡ Ref head →
        Chain g k g.count head numbers → left ≡ sum (take 1 numbers) + less →
        ((register : ℕ → Entry) → register 2 ≡ Ref head → IsAt owner g register k rest less) → Stepped (GetD 3 2 2) rest a left
    getd_stepped rest a left less head numbers answers holds chain reads at =
        let is = getd_answer p kind g m k g.count head numbers holds chain a answers in
        let one = is.0 in
        subst (λ (hands : Mutator). Steps g k a (advanced g k hands rest) left) (sym is.1.1)
        (in_hands (setting m 3 is.1.0) rest a left less (omega (arith, reads, one))
        (at (put m.register 3 is.1.0) (put-other m.register 3 is.1.0 2 (λ e. omega (arith, e)) ∙ holds)))

    -- the numbers of the first nodes, one by one
    first_of : (n : ℕ) (numbers : List ℕ) → sum (take (suc n) numbers) ≡ sum (take 1 numbers) + sum (take n (drop 1 numbers))
    first_of zero [] = refl
    first_of (suc n) [] = refl
    first_of n (x ∷ numbers) =
        let whole : sum (take (suc n) (x ∷ numbers)) ≡ x + sum (take n (drop 1 (x ∷ numbers))) = sum_by-cons (λ i. i) x (take n numbers) in
        let one : sum (take 1 (x ∷ numbers)) ≡ x + 0 = sum_by-cons (λ i. i) x [] in
        omega (arith, whole, one)

    -- what a mutator does next, wherever it is
    module _ (s : Statement) (rest : List Statement) (a : Answer) (h : Graph) (left : ℕ) (next : m.script ≡ s ∷ rest) (does : Does p g k m s rest a h)
        (full : s ≡ New 0 0 → a ≢ Full) where
      pub step : IsAt owner g m.register k m.script left → Steps g k a h left
      unfolding with_register
      step (Between [] lists [] q e l o shown) = absurd (not_empty s rest (sym next ∙ e))
      step (Between [] lists (Grows x number ∷ more) q e l o shown) =
          let is = sym next ∙ e in
          let this = same_first s (New 0 0) rest _ is in
          opened s (New 0 0) rest a h left this does (λ answers.
          new_stepped rest a left x number lists more answers (full this) (same_rest s (New 0 0) rest _ is) o.0 o.1 (omega (arith, l)) shown)
      step (Between [] lists (Reads x ∷ more) q e l o shown) =
          let is = sym next ∙ e in
          opened s (GGet 2 x) rest a h left (same_first s (GGet 2 x) rest _ is) does (λ answers.
          gget_stepped rest a left x answers (λ register holds other.
          AtNumber 2 (g.global x) (lists x) lists more (same_rest s (GGet 2 x) rest _ is) l o.1 shown holds (shown x o.0)))
      step (Between [] lists (Shrinks x ∷ more) q e l o shown) =
          let is = sym next ∙ e in
          opened s (GGet 2 x) rest a h left (same_first s (GGet 2 x) rest _ is) does (λ answers.
          gget_stepped rest a left x answers (λ register holds other.
          Taken x (g.global x) lists more (same_rest s (GGet 2 x) rest _ is) o.0 (omega (arith, l)) o.1 shown holds (shown x o.0)))
      step (Between (t ∷ quiet) lists more q e l o shown) =
          let is = sym next ∙ e in
          let then = same_rest s t rest _ is in
          elim q.0 [
            | inl (r, this) ↦ opened s (Drop r) rest a h left (same_first s t rest _ is ∙ this) does (λ answers.
                drop_stepped r rest a left answers (Between quiet lists more q.1 then l o shown))
            | inr (r, n, this) ↦ opened s (Num r n) rest a h left (same_first s t rest _ is ∙ this) does (λ answers.
                num_stepped r n rest a left answers (Between quiet lists more q.1 then l o shown))
          ]
      step (Made x number n lists more e grows) =
          let is = sym next ∙ e in
          opened s (Num 1 number) rest a h left (same_first s (Num 1 number) rest _ is) does (λ answers.
          num_stepped 1 number rest a left answers (Numbered x number n lists more (same_rest s (Num 1 number) rest _ is)
          (with_register left x number n lists more grows (put m.register 1 (Int number)) (put-other m.register 1 (Int number) 0 (λ e. omega (arith, e))))
          (put-same m.register 1 (Int number))))
      step (Numbered x number n lists more e grows holds) =
          let is = sym next ∙ e in
          opened s (PutD 0 2 1) rest a h left (same_first s (PutD 0 2 1) rest _ is) does (λ answers.
          putd_stepped left x number n lists more grows rest a answers (same_rest s (PutD 0 2 1) rest _ is) holds)
      step (Filled x number n lists more e grows has) =
          let is = sym next ∙ e in
          opened s (GGet 2 x) rest a h left (same_first s (GGet 2 x) rest _ is) does (λ answers.
          gget_stepped rest a left x answers (λ register holds other.
          Fetched x number n (g.global x) lists more (same_rest s (GGet 2 x) rest _ is) (with_register left x number n lists more grows register other) has holds
          (grows.shown x grows.own)))
      step (Fetched x number n head lists more e grows has holds chain) =
          let is = sym next ∙ e in
          opened s (Put 0 0 2) rest a h left (same_first s (Put 0 0 2) rest _ is) does (λ answers.
          put_stepped left x number n lists more grows rest a head answers (same_rest s (Put 0 0 2) rest _ is) has holds chain)
      step (Linked x number n lists more e grows chain) =
          let is = sym next ∙ e in
          opened s (GPut x 0) rest a h left (same_first s (GPut x 0) rest _ is) does (λ answers.
          gput_stepped 0 rest [] a left x n (number ∷ lists x) lists more answers grows.holds (same_rest s (GPut x 0) rest _ is) _ grows.own grows.owns grows.reads
          (λ y o. chain_above g k grows.bound g.count (let b = grows.below in let c = grows.is.bound in omega (arith, b, c)) (g.global y) (lists y) (grows.shown y o)) chain)
      step (AtNumber zero head numbers lists more e l o shown holds chain) =
          let is = sym next ∙ e in
          opened s (GetD 3 2 2) rest a h left (same_first s (GetD 3 2 2) rest _ is) does (λ answers.
          getd_stepped rest a left (sum_from lists more) head numbers answers holds chain l (λ register held.
          Between [] lists more _ (same_rest s (GetD 3 2 2) rest _ is) refl o shown))
      step (AtNumber (suc d) head numbers lists more e l o shown holds chain) =
          let is = sym next ∙ e in
          let f = first_of (suc d) numbers in
          opened s (GetD 3 2 2) rest a h left (same_first s (GetD 3 2 2) rest _ is) does (λ answers.
          getd_stepped rest a left (sum (take (suc d) (drop 1 numbers)) + sum_from lists more) head numbers answers holds chain (omega (arith, l, f)) (λ register held.
          AtNext d head numbers lists more (same_rest s (GetD 3 2 2) rest _ is) refl o shown held chain))
      step (AtNext d head numbers lists more e l o shown holds chain) =
          let is = sym next ∙ e in
          opened s (Get 2 2 0) rest a h left (same_first s (Get 2 2 0) rest _ is) does (λ answers.
          get_stepped rest a left head numbers answers holds chain (λ register first held rest_of.
          AtNumber d first (drop 1 numbers) lists more (same_rest s (Get 2 2 0) rest _ is) l o shown held rest_of))
      step (Taken x head lists more e own l o shown holds chain) =
          let is = sym next ∙ e in
          opened s (Get 2 2 0) rest a h left (same_first s (Get 2 2 0) rest _ is) does (λ answers.
          get_stepped rest a left head (lists x) answers holds chain (λ register first held rest_of.
          Cut x first lists more (same_rest s (Get 2 2 0) rest _ is) own l o shown held rest_of))
      step (Cut x head lists more e own l o shown holds chain) =
          let is = sym next ∙ e in
          opened s (GPut x 2) rest a h left (same_first s (GPut x 2) rest _ is) does (λ answers.
          gput_stepped 2 rest (Drop 2 ∷ Drop 0 ∷ Num 3 0 ∷ []) a left x head (drop 1 (lists x)) lists more answers holds (same_rest s (GPut x 2) rest _ is)
          (inl (2, refl), (inl (0, refl), (inr (3, 0, refl), _))) own o l shown chain)
