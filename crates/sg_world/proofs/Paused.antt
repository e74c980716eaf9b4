-- A pause: which words it can't tell from addresses, and what it leaves in the hands of the mutators.
use Rattle.std.proofs.Common.{◌≡◌, ◌≢◌, ℕ, zero, suc, ◌≤◌, cond, not, true, Some, List, [], ◌∷◌, ◌++◌, length}
use Rattle.std.proofs.Common.{map, reverse, get_or, slice_get, inl, inr, sym, refl, ap, ◌∙◌, subst, arith}
use Rattle.std.specs.List.{flat_map, Contains, AllByRecursion}
use Rattle.std.proofs.lemmas.Bool.{cases_eq, cases_lt}
use Rattle.std.proofs.lemmas.List.{reverse-append}
use Rattle.std.proofs.lemmas.List.Elements.{Contains-get_or, Contains-append_left, Contains-append_right}
use Rattle.sg_words.specs.Lists.{Pairwise}
use Rattle.sg_words.specs.Sections.{nursery_base}
use Rattle.sg_program.specs.declared.program.Statement.{Statement}
use Rattle.sg_program.specs.declared.program.Program.{Program}
use Rattle.sg_graph.specs.declared.reports.MinorReport.{MinorReport}
use Rattle.sg_graph.specs.declared.reports.MajorReport.{MajorReport}
use Rattle.sg_graph.specs.Graph.{Entry, Ref, Int, Inner, Graph}
use Rattle.sg_graph.specs.Statements.{name_in}
use Rattle.sg_graph.specs.Book.{Book, word_of, IsSoundBook}
use Rattle.sg_graph.specs.Epoch.{numbers_below}
use Rattle.sg_graph.specs.Pause.{ambiguous_words, words_in as words_of_graph, PointsInto, IsPointedInto}
use Rattle.sg_graph.specs.Minor.{IsMinorPause}
use Rattle.sg_graph.specs.Major.{IsMajorPause}
use Rattle.sg_graph.specs.Laws.{KeepsPointedInto, KeepsInMajor}
use Rattle.sg_rules.specs.Rules.{StackWord, Actor, fresh, owning}
use Rattle.sg_order.specs.Rest.{Holds, IsReady}
use Rattle.sg_order.specs.Serving.{StaysPut, HandsStay, StaysReady}
use Rattle.sg_actor.specs.declared.mutator.Held.{Held}
use Rattle.sg_actor.specs.declared.mutator.Stage.{Stage}
use Rattle.sg_actor.specs.declared.mutator.Stage.TheVariants.{Ended, Asking, Yielded}
use Rattle.sg_actor.specs.State.{Mutating, slot_of, actor_of, words_in}
use Rattle.sg_world.specs.Telling.{goes}
use Rattle.sg_world.specs.Stopping.{held_by, held_in, HaveRegisters}
use Rattle.sg_world.specs.Worlds.{HasLeftReady}
use Rattle.sg_world.proofs.Lists.{listed, joined_filter, joined_by_numbers, in_joined}

beyond : (xs : List ℕ) (r : ℕ) → length xs ≤ r → get_or xs r 0 ≡ 0
beyond [] r l = refl
beyond (x ∷ xs) zero l = absurd (omega arith)
beyond (x ∷ xs) (suc r) l = beyond xs r (omega arith)

-- a map goes before or behind a reversal
map_append : {A B : Type 0} (f : A → B) (xs ys : List A) → map f (xs ++ ys) ≡ map f xs ++ map f ys
map_append f [] ys = refl
map_append f (x ∷ xs) ys = ap (λ zs. f x ∷ zs) (map_append f xs ys)

map_reverse : {A B : Type 0} (f : A → B) (xs : List A) → reverse (map f xs) ≡ map f (reverse xs)
map_reverse f [] = refl
map_reverse f (x ∷ xs) =
    reverse-append (f x ∷ []) (map f xs) ∙ ap (λ ys. ys ++ f x ∷ []) (map_reverse f xs) ∙ sym (map_append f (reverse xs) (x ∷ []))
    ∙ ap (map f) (sym (reverse-append (x ∷ []) xs))

held_words : (items : List Held) → map (λ (slot : StackWord). slot.word) (map slot_of items) ≡ map (λ (held : Held). held.word) items
held_words [] = refl
held_words (held ∷ items) = ap (λ ws. held.word ∷ ws) (held_words items)

slots_are : (items : List Held) → map (λ (slot : StackWord). slot.word) (reverse (map slot_of items)) ≡ map (λ (held : Held). held.word) (reverse items)
slots_are items = ap (map (λ (slot : StackWord). slot.word)) (map_reverse slot_of items) ∙ held_words (reverse items)

-- the words of a stack are those of the graph's
stack_words : (g : Graph) (b : Book) (xs : List StackWord) (ys : List Entry) →
    Pairwise (λ (slot : StackWord) (entry : Entry). Holds g b slot.word slot.offset entry) xs ys →
    map (λ (slot : StackWord). slot.word) xs ≡ map (word_of b.address) ys
stack_words g b [] [] t = refl
stack_words g b [] (y ∷ ys) t = absurd t
stack_words g b (x ∷ xs) [] t = absurd t
stack_words g b (x ∷ xs) (y ∷ ys) t = λ i. t.0.word_is i ∷ stack_words g b xs ys t.1 i

-- the words in a mutator's hands are those that the graph says
words_are : (p : Program) (g : Graph) (b : Book) (k : ℕ) (m : Mutating) (script : List Statement) → length m.registers ≡ 16 →
    IsReady p g b k (actor_of m) script → words_in m ≡ words_of_graph g b k
words_are p g b k m script sixteen r =
    ap (λ ws. m.registers ++ ws) (sym (slots_are m.stack))
    ∙ ap (λ ws. ws ++ map (λ (slot : StackWord). slot.word) (reverse (map slot_of m.stack)))
    (listed m.registers 16 (λ r. word_of b.address ((g.mutator k).register r)) sixteen (λ q. (r.regs q).word_is))
    ∙ ap (λ ws. map (λ r. word_of b.address ((g.mutator k).register r)) (numbers_below 16) ++ ws)
    (stack_words g b (reverse (map slot_of m.stack)) (g.mutator k).stack r.stack)

-- those of each that hasn't ended
left_words : (p : Program) (g : Graph) (b : Book) (k : ℕ) (m : Mutating) (stage : Stage) → (goes stage ≡ true → length m.registers ≡ 16) →
    HasLeftReady p g b k m stage →
    cond (not (g.mutator k).ended) (words_of_graph g b k) [] ≡ held_by m stage
left_words p g b k m Ended sixteen r = ap (λ e. cond (not e) (words_of_graph g b k) []) r.0
left_words p g b k m (Asking statement request) sixteen r =
    ap (λ e. cond (not e) (words_of_graph g b k) []) r.0 ∙ sym (words_are p g b k m (statement ∷ m.script) (sixteen refl) r.2)
left_words p g b k m Yielded sixteen r = ap (λ e. cond (not e) (words_of_graph g b k) []) r.0 ∙ sym (words_are p g b k m m.script (sixteen refl) r.1)
left_words p g b k m stage sixteen r = absurd r

pub ambiguous_are : (p : Program) (g : Graph) (b : Book) (ms : List Mutating) → length ms ≡ length p.mutators → HaveRegisters ms →
    ((k : ℕ) (m : Mutating) → slice_get ms k ≡ Some m → HasLeftReady p g b k m m.stage) → held_in ms ≡ ambiguous_words p g b
ambiguous_are p g b ms count sixteen ready =
    sym (joined_filter (λ k. not (g.mutator k).ended) (words_of_graph g b) (numbers_below (length p.mutators))
    ∙ ap (λ n. flat_map (λ k. cond (not (g.mutator k).ended) (words_of_graph g b k) []) (numbers_below n)) (sym count)
    ∙ joined_by_numbers (λ k. cond (not (g.mutator k).ended) (words_of_graph g b k) []) (λ (m : Mutating). held_by m m.stage) ms
    (λ k m e. left_words p g b k m m.stage (sixteen k m e) (ready k m e)))

-- all words in these hands are among the ambiguous ones
pub record AreAmong (ambiguous : List ℕ) (a : Actor) : Type 0 where
  pub registers : (r : ℕ) → a.reg r ≢ 0 → Contains ambiguous (a.reg r)
  pub stack : (w : ℕ) → Contains (map (λ (slot : StackWord). slot.word) a.stack) w → Contains ambiguous w

pub none_among : (ambiguous : List ℕ) (from to : ℕ) → AreAmong ambiguous (record (fresh []) { from = from; to = to })
none_among ambiguous from to = record {
  registers = λ r some. absurd (some refl);
  stack = λ w h. absurd (let l = h.1 in omega arith);
}

pub own_among : (ms : List Mutating) (k : ℕ) (m : Mutating) → slice_get ms k ≡ Some m → held_by m m.stage ≡ words_in m → AreAmong (held_in ms) (actor_of m)
own_among ms k m at all = record {
  registers = λ r some. elim (cases_lt r (length m.registers)) [
    | inl l ↦ among (get_or m.registers r 0) (Contains-append_left m.registers _ (get_or m.registers r 0) (Contains-get_or m.registers r 0 l))
    | inr l ↦ absurd (some (beyond m.registers r l))
  ];
  stack = λ w h. among w (Contains-append_right m.registers _ w (subst (λ (ws : List ℕ). Contains ws w) (slots_are m.stack) h));
}
  where
    among : (w : ℕ) → Contains (words_in m) w → Contains (held_in ms) w
    among w c = in_joined (λ (x : Mutating). held_by x x.stage) ms k m w at (subst (λ (ws : List ℕ). Contains ws w) (sym all) c)

-- what a pause leaves of the objects that ambiguous words point into, and of buffers
pub record LeavesStanding (h : Graph) (c : Book) (ambiguous : List ℕ) (book : Book) : Type 0 where
  pub nothing : (book.stands 0 ≡ true) × (book.address 0 ≡ c.address 0)
  pub stands : (n : ℕ) → n ≢ 0 → c.stands n ≡ true → IsPointedInto h c ambiguous n → book.stands n ≡ true
  pub stays : (n : ℕ) → n ≢ 0 → c.stands n ≡ true → IsPointedInto h c ambiguous n → book.address n ≡ c.address n
  pub emptied : (k : ℕ) → (book.from k ≡ 0) × (book.to k ≡ 0)

-- both pauses do so
pub minor_leaves : KeepsPointedInto → (p : Program) (h : Graph) (c : Book) (ambiguous : List ℕ) (report : MinorReport) (book : Book) → IsSoundBook p h c →
    IsMinorPause p h c ambiguous report h book → LeavesStanding h c ambiguous book
minor_leaves keeps p h c ambiguous report book sound pause = record {
  nothing = (pause.keeps.nothing.0, pause.keeps.nothing.1);
  stands = λ n d q into. keeps.stands p h c ambiguous report h book sound.apart pause n d q into;
  stays = λ n d q into. keeps.stays p h c ambiguous report h book sound.apart pause n d q into;
  emptied = pause.tidies.emptied;
}

pub major_leaves : KeepsInMajor → (p : Program) (h : Graph) (c : Book) (ambiguous : List ℕ) (report : MajorReport) (book : Book) →
    IsMajorPause p h c ambiguous report h book → LeavesStanding h c ambiguous book
major_leaves keeps p h c ambiguous report book pause = record {
  nothing = (pause.keeps.nothing, pause.stays.address 0);
  stands = λ n d q into. keeps p h c ambiguous report h book pause n d q into;
  stays = λ n d q into. pause.stays.address n;
  emptied = pause.emptied;
}

module _ (p : Program) (h : Graph) (c : Book) (ambiguous : List ℕ) (book : Book) (leaves : LeavesStanding h c ambiguous book)
    (high : (n : ℕ) → 1 ≤ n → c.stands n ≡ true → nursery_base ≤ c.address n) where
  -- what an ambiguous word points into stands after the pause, where it stood
  kept : (n w : ℕ) → (n ≢ 0 → PointsInto h c w n) → (w ≢ 0 → Contains ambiguous w) → StaysPut h c h book n
  kept n w points there = record { stands = λ q. (both q).0; address = λ q. (both q).1; size = λ q. refl }
    where
      both : c.stands n ≡ true → (book.stands n ≡ true) × (book.address n ≡ c.address n)
      both q = elim (cases_eq n 0) [
        | inl z ↦ (ap book.stands z ∙ leaves.nothing.0, ap book.address z ∙ leaves.nothing.1 ∙ ap c.address (sym z))
        | inr d ↦
            let r = points d in
            let u = high n (omega (arith, d)) q in
            let into : IsPointedInto h c ambiguous n = (w, there (λ z. let l = r.0 in absurd (omega arith)), r) in
            (leaves.stands n d q into, leaves.stays n d q into)
      ]

  points_of : (w o : ℕ) (e : Entry) → Holds h c w o e → name_in e ≢ 0 → PointsInto h c w (name_in e)
  points_of w o (Ref n) t d = let e = t.word_is in (omega arith, omega arith)
  points_of w o (Int x) t d = absurd (d refl)
  points_of w o (Inner n i) t d = elim t.stands.2 [
    | inl z ↦ absurd (d z.0)
    | inr l ↦ let e = t.word_is in let below = l.1 in (omega arith, omega arith)
  ]

  kept_stack : (xs : List StackWord) (ys : List Entry) → ((w : ℕ) → Contains (map (λ (slot : StackWord). slot.word) xs) w → Contains ambiguous w) →
      Pairwise (λ (slot : StackWord) (entry : Entry). Holds h c slot.word slot.offset entry) xs ys →
      AllByRecursion (λ (entry : Entry). StaysPut h c h book (name_in entry)) ys
  kept_stack [] [] there t = tt
  kept_stack [] (y ∷ ys) there t = absurd t
  kept_stack (x ∷ xs) [] there t = absurd t
  kept_stack (x ∷ xs) (y ∷ ys) there t = (
    kept (name_in y) x.word (points_of x.word x.offset y t.0) (λ _. there x.word (0, omega arith, refl)),
    kept_stack xs ys (λ w q. there w (suc q.0, (let l = q.1 in omega arith), q.2)) t.1,
  )

  -- so a mutator whose words are all ambiguous stays ready, without a buffer
  pub ready_paused : StaysReady → (k : ℕ) (a : Actor) (script : List Statement) → AreAmong ambiguous a → IsReady p h c k a script →
      IsReady p h book k (owning a 0 0) script
  ready_paused stays k a script among r =
      subst (λ x. IsReady p h book k x script) (λ i. owning a ((leaves.emptied k).0 i) ((leaves.emptied k).1 i))
      (stays p h h c book k a script r (record { register = refl; stack = refl; script = refl; asleep = λ e. r.script_is ∙ r.asleep e }) hands)
    where
      hands : HandsStay h c h book (h.mutator k)
      hands = record {
        registers = λ q. kept (name_in ((h.mutator k).register q)) (a.reg q) (points_of (a.reg q) (a.offset q) ((h.mutator k).register q) (r.regs q))
            (among.registers q);
        stack = kept_stack a.stack (h.mutator k).stack among.stack r.stack;
      }
