-- A mutator that is ready stays so where its objects stay put, and a stop's answer leaves it ready behind its statement.
use Rattle.std.proofs.Common.{◌≡◌, ◌≢◌, ℕ, suc, ◌+◌, Bool, true, List, [], ◌∷◌, ap, sym, ◌∙◌, subst, inl, inr, refl, arith}
use Rattle.std.specs.List.{AllByRecursion}
use Rattle.std.proofs.lemmas.Bool.{cases_eq}
use Rattle.sg_words.specs.Address.{byte_at}
use Rattle.sg_words.specs.Words.{put, Words}
use Rattle.sg_words.specs.Lists.{Pairwise}
use Rattle.sg_program.specs.declared.program.Statement.{Statement}
use Rattle.sg_program.specs.declared.program.Statement.TheVariants.{New, NewV, Mature, Collect, Sections}
use Rattle.sg_program.specs.declared.program.Program.{Program}
use Rattle.sg_program.specs.declared.answers.Answer.{Answer}
use Rattle.sg_program.specs.declared.answers.Answer.TheVariants.{At, Fine, Full}
use Rattle.sg_program.specs.Kinds.{kinds_after}
use Rattle.sg_program.specs.Scripts.{fields_of, words_for, made_in, MakesObject}
use Rattle.sg_program.specs.Invariants.{FindKinds}
use Rattle.sg_graph.specs.Graph.{Entry, Ref, Int, Inner, Mutator, Graph, grown, advanced}
use Rattle.sg_graph.specs.Statements.{Answers, hands_after, heap_after, setting, name_in}
use Rattle.sg_graph.specs.Book.{Book, slot_at, slot_words, word_of}
use Rattle.sg_graph.specs.Epoch.{by_address}
use Rattle.sg_graph.specs.Stop.{Takes, TakesSlot, Placing, InFragments, InSlotsToo, PlacesNew, Places}
use Rattle.sg_rules.specs.Rules.{Constants, StackWord, Idle, Actor, owning}
use Rattle.sg_rules.specs.Resting.{served}
use Rattle.sg_order.specs.Rest.{kinds_in, StandsAt, Holds, IsReady, IsHeld}
use Rattle.sg_order.specs.Serving.{StaysPut, StaysReady, AreReadyBehind, ServesReady}
use Rattle.sg_words.proofs.Puts.{put-same, put-other}
use Rattle.sg_order.proofs.Makes.{kinds_making, piled_making}
use Rattle.sg_order.proofs.Moves.{kinds_of, kinds_along}

module _ (g : Graph) (b : Book) (h : Graph) (c : Book) where
  -- what holds an entry whose object stays put holds it
  pub holds_on : (word offset : ℕ) (e : Entry) → StaysPut g b h c (name_in e) → Holds g b word offset e → Holds h c word offset e
  holds_on word offset (Ref n) stay t = record { word_is = t.word_is ∙ sym (ap byte_at (stay.address t.stands)); stands = stay.stands t.stands }
  holds_on word offset (Int v) stay t = record { word_is = t.word_is; stands = tt }
  holds_on word offset (Inner n o) stay t = record {
    word_is = t.word_is ∙ sym (ap (λ x. byte_at x + o) (stay.address t.stands.0));
    stands = (
      stay.stands t.stands.0,
      t.stands.1,
      elim t.stands.2 [ inl none ↦ inl none | inr some ↦ inr (some.0, let size = stay.size t.stands.0 in omega (arith, some.1)) ],
    );
  }

  pub stack_on : (xs : List StackWord) (ys : List Entry) → AllByRecursion (λ (entry : Entry). StaysPut g b h c (name_in entry)) ys →
      Pairwise (λ (slot : StackWord) (entry : Entry). Holds g b slot.word slot.offset entry) xs ys →
      Pairwise (λ (slot : StackWord) (entry : Entry). Holds h c slot.word slot.offset entry) xs ys
  stack_on [] [] stay t = tt
  stack_on [] (y ∷ ys) stay t = absurd t
  stack_on (x ∷ xs) [] stay t = absurd t
  stack_on (x ∷ xs) (y ∷ ys) stay t = (holds_on x.word x.offset y stay.0 t.0, stack_on xs ys stay.1 t.1)

  pub all_stay : ((n : ℕ) → StaysPut g b h c n) → (ys : List Entry) → AllByRecursion (λ (entry : Entry). StaysPut g b h c (name_in entry)) ys
  all_stay stay [] = tt
  all_stay stay (y ∷ ys) = (stay (name_in y), all_stay stay ys)

pub stays_ready : StaysReady
stays_ready p g h b c k a script ready same stay = record {
  regs = λ r. subst (λ e. Holds h c (a.reg r) (a.offset r) e) (sym (ap (λ (f : ℕ → Entry). f r) same.register))
      (holds_on g b h c (a.reg r) (a.offset r) ((g.mutator k).register r) (stay.registers r) (ready.regs r));
  stack = subst (λ ys. Pairwise (λ (slot : StackWord) (entry : Entry). Holds h c slot.word slot.offset entry) a.stack ys) (sym same.stack)
      (stack_on g b h c a.stack (g.mutator k).stack stay.stack ready.stack);
  script_is = same.script ∙ ready.script_is;
  asleep = λ e. sym (same.script ∙ ready.script_is) ∙ same.asleep e;
  from_is = refl;
  to_is = refl;
  kinds = subst (λ register. FindKinds (kinds_of register (h.mutator k).stack) script) (sym same.register)
      (subst (λ stack. FindKinds (kinds_of (g.mutator k).register stack) script) (sym same.stack) ready.kinds);
  runnable = ready.runnable;
}

-- a new object stands in the book c, what stood stands where it stood, and the buffers are as they were
record StandsNew (b : Book) (name : ℕ) (c : Book) : Type 0 where
  address : ℕ
  stands_are : c.stands ≡ put b.stands name true
  address_are : c.address ≡ put b.address name address
  from_is : c.from ≡ b.from
  to_is : c.to ≡ b.to

-- in a slot
stands_slotted : (p : Program) (g : Graph) (b : Book) (fields name j i : ℕ) (c : Book) → TakesSlot p g b fields name j i c → StandsNew b name c
stands_slotted p g b fields name j i c takes = record {
  address = slot_at p j (slot_words fields) i;
  stands_are = ap (λ (d : Book). d.stands) takes.after;
  address_are = ap (λ (d : Book). d.address) takes.after;
  from_is = ap (λ (d : Book). d.from) takes.after;
  to_is = ap (λ (d : Book). d.to) takes.after;
}

-- in a fragment or in a slot
stands_placed : (p : Program) (how : Placing) (g : Graph) (b : Book) (fields name : ℕ) (c : Book) → PlacesNew p how g b fields name c → StandsNew b name c
stands_placed p how g b fields name c = go how
  where
    in_fragment : (f : ℕ) → Takes b (words_for fields) name f c → StandsNew b name c
    in_fragment f takes = record {
      address = b.next f;
      stands_are = ap (λ (d : Book). d.stands) takes.after;
      address_are = ap (λ (d : Book). d.address) takes.after;
      from_is = ap (λ (d : Book). d.from) takes.after;
      to_is = ap (λ (d : Book). d.to) takes.after;
    }

    go : (how : Placing) → PlacesNew p how g b fields name c → StandsNew b name c
    go InFragments places = in_fragment places.0 places.1
    go InSlotsToo places = elim places [
      | inl young ↦ in_fragment young.0 young.1
      | inr old ↦ stands_slotted p g b fields name old.1.0 old.1.1 c old.1.2
    ]

module _ (p : Program) (lay : Constants) (w : Words) (g : Graph) (b : Book) (k : ℕ) (a : Actor) (held : IsHeld p lay w g b) where
  abbrev m : Mutator
  m = g.mutator k

  -- register r got the entry, and the statement is done
  module _ (s : Statement) (rest : List Statement) (ready : IsReady p g b k a (s ∷ rest)) (h : Graph) (c : Book) (on : (n : ℕ) → StaysPut g b h c n)
      (mutators : h.mutator ≡ g.mutator) (from : c.from ≡ b.from) (to : c.to ≡ b.to) where
    -- the graph with this mutator behind its statement
    abbrev done : Mutator → Graph
    done hands = advanced h k hands rest

    others_ready : (hands : Mutator) (j : ℕ) (x : Actor) (script : List Statement) → j ≢ k → IsReady p g b j x script → IsReady p (done hands) c j x script
    others_ready hands j x script other r =
        let same : (done hands).mutator j ≡ g.mutator j = put-other h.mutator k (record hands { script = rest }) j other ∙ ap
        (λ (f : ℕ → Mutator). f j) mutators in
        let kept = stays_ready p g (done hands) b c j x script r
        (record {
          register = ap (λ (n : Mutator). n.register) same;
          stack = ap (λ (n : Mutator). n.stack) same;
          script = ap (λ (n : Mutator). n.script) same;
          asleep = λ e. ap (λ (n : Mutator). n.script) same ∙ r.script_is ∙ r.asleep (sym (ap (λ (n : Mutator). n.ended) same) ∙ e);
        })
        (record { registers = λ q. stay (name_in ((g.mutator j).register q)); stack = all_stay g b (done hands) c stay (g.mutator j).stack }) in
        subst (λ o. IsReady p (done hands) c j o script)
        (λ i. owning x ((ap (λ (f : ℕ → ℕ). f j) from ∙ sym r.from_is) i) ((ap (λ (f : ℕ → ℕ). f j) to ∙ sym r.to_is) i)) kept
      where
        stay : (n : ℕ) → StaysPut g b (done hands) c n
        stay n = record { stands = (on n).stands; address = (on n).address; size = (on n).size }

    behind : (register : ℕ → Entry) (reg : ℕ → ℕ) → ((r : ℕ) → Holds (done (record m { register = register })) c (reg r) (a.offset r) (register r)) →
        FindKinds (kinds_of register m.stack) rest →
        AreReadyBehind p g b k (done (record m { register = register })) c (record a { reg = reg; script = rest; mid = Idle }) rest
    behind register reg regs kinds =
        let after : (done (record m { register = register })).mutator k ≡ record m { register = register; script = rest } = put-same h.mutator k
        (record m { register = register; script = rest }) in
        record {
          answered = record {
            regs = λ r. subst (λ (n : Mutator). Holds (done (record m { register = register })) c (reg r) (a.offset r) (n.register r)) (sym after) (regs r);
            stack = subst (λ (n : Mutator). Pairwise
                (λ (slot : StackWord) (entry : Entry). Holds (done (record m { register = register })) c slot.word slot.offset entry) a.stack n.stack)
                (sym after)
                (stack_on g b (done (record m { register = register })) c a.stack m.stack
                (all_stay g b (done (record m { register = register })) c stay m.stack) ready.stack);
            script_is = ap (λ (n : Mutator). n.script) after;
            asleep = λ e. absurd (awake (sym (ap (λ (n : Mutator). n.ended) after) ∙ e));
            from_is = ready.from_is ∙ sym (ap (λ (f : ℕ → ℕ). f k) from);
            to_is = ready.to_is ∙ sym (ap (λ (f : ℕ → ℕ). f k) to);
            kinds = subst (λ (n : Mutator). FindKinds (kinds_in n) rest) (sym after) kinds;
            runnable = ready.runnable.1;
          };
          others = others_ready (record m { register = register });
        }
      where
        stay : (n : ℕ) → StaysPut g b (done (record m { register = register })) c n
        stay n = record { stands = (on n).stands; address = (on n).address; size = (on n).size }

        awake : m.ended ≡ true → ⊥
        awake e = let q : s ∷ rest ≡ [] = ready.asleep e in cc

    -- a new object's register
    making : MakesObject s → (name word : ℕ) → c.stands name ≡ true → word ≡ byte_at (c.address name) →
        AreReadyBehind p g b k (done (setting m (made_in s) (Ref name))) c (record a { reg = put a.reg (made_in s) word; script = rest; mid = Idle }) rest
    making makes name word stands is =
        behind (put m.register (made_in s) (Ref name)) (put a.reg (made_in s) word)
        (λ r. elim (cases_eq r (made_in s)) [
          | inl e ↦ subst (λ q. Holds (done (setting m (made_in s) (Ref name))) c (put a.reg (made_in s) word q) (a.offset q)
              (put m.register (made_in s) (Ref name) q)) (sym e) here
          | inr other ↦ subst (λ v. Holds (done (setting m (made_in s) (Ref name))) c v (a.offset r) (put m.register (made_in s) (Ref name) r))
              (sym (put-other a.reg (made_in s) word r other))
              (subst (λ x. Holds (done (setting m (made_in s) (Ref name))) c (a.reg r) (a.offset r) x)
              (sym (put-other m.register (made_in s) (Ref name) r other))
              (holds_on g b (done (setting m (made_in s) (Ref name))) c (a.reg r) (a.offset r) (m.register r) (stay (name_in (m.register r))) (ready.regs r)))
        ])
        (kinds_along (kinds_after (kinds_in m) s) (kinds_of (put m.register (made_in s) (Ref name)) m.stack) rest
        (kinds_making s m.register m.stack name makes) (piled_making s m.register m.stack makes) ready.kinds.1)
      where
        stay : (n : ℕ) → StaysPut g b (done (setting m (made_in s) (Ref name))) c n
        stay n = record { stands = (on n).stands; address = (on n).address; size = (on n).size }

        here : Holds (done (setting m (made_in s) (Ref name))) c (put a.reg (made_in s) word (made_in s)) (a.offset (made_in s))
            (put m.register (made_in s) (Ref name) (made_in s))
        here = record {
          word_is = put-same a.reg (made_in s) word ∙ is ∙ sym (ap (λ e. name_word e) (put-same m.register (made_in s) (Ref name)));
          stands = subst (λ e. StandsAt (done (setting m (made_in s) (Ref name))) c (a.offset (made_in s)) e)
              (sym (put-same m.register (made_in s) (Ref name))) stands;
        }
          where
            name_word : Entry → ℕ
            name_word e = word_of c.address e

  -- nothing but the mutator changes
  same_stays : (n : ℕ) → StaysPut g b g b n
  same_stays n = record { stands = λ q. q; address = λ q. refl; size = λ q. refl }

  -- a new object has its place
  grown_stays : (class fields : ℕ) (c : Book) → StandsNew b (suc g.count) c → (name : ℕ) → StaysPut g b (grown p g k class fields) c name
  grown_stays class fields c new name = record {
    stands = λ q. ap (λ (f : ℕ → Bool). f name) new.stands_are ∙ put-other b.stands (suc g.count) true name (old q) ∙ q;
    address = λ q. ap (λ (f : ℕ → ℕ). f name) new.address_are ∙ put-other b.address (suc g.count) new.address name (old q);
    size = λ q. put-other g.size (suc g.count) fields name (old q);
  }
    where
      old : b.stands name ≡ true → name ≢ suc g.count
      old q e = let l = held.heap.laid.objects.given name q in omega arith

  -- a new object is answered, wherever it stands
  made : (s : Statement) (rest : List Statement) → MakesObject s → (class fields name : ℕ) (h : Graph) (c : Book) → IsReady p g b k a (s ∷ rest) →
      name ≡ suc g.count → h ≡ advanced (grown p g k class fields) k (setting m (made_in s) (Ref name)) rest → StandsNew b name c →
      AreReadyBehind p g b k h c (record a { reg = put a.reg (made_in s) (byte_at (c.address name)); script = rest; mid = Idle }) rest
  made s rest makes class fields name h c ready is after new =
      subst (λ q. AreReadyBehind p g b k q c (record a { reg = put a.reg (made_in s) (byte_at (c.address name)); script = rest; mid = Idle }) rest) (sym after)
      (making s rest ready (grown p g k class fields) c
      (grown_stays class fields c (subst (λ n. StandsNew b n c) is new)) refl new.from_is new.to_is makes name (byte_at (c.address name))
      (ap (λ (f : ℕ → Bool). f name) new.stands_are ∙ put-same b.stands name true) refl)

  -- a new object has no place
  missed : (s : Statement) (rest : List Statement) → MakesObject s → (h : Graph) (c : Book) → IsReady p g b k a (s ∷ rest) →
      h ≡ advanced g k (setting m (made_in s) (Ref 0)) rest → c ≡ b →
      AreReadyBehind p g b k h c (record a { reg = put a.reg (made_in s) 0; script = rest; mid = Idle }) rest
  missed s rest makes h c ready after places =
      subst (λ q. AreReadyBehind p g b k q c (record a { reg = put a.reg (made_in s) 0; script = rest; mid = Idle }) rest) (sym after)
      (subst (λ d. AreReadyBehind p g b k (advanced g k (setting m (made_in s) (Ref 0)) rest) d
      (record a { reg = put a.reg (made_in s) 0; script = rest; mid = Idle }) rest)
      (sym places)
      (making s rest ready g b same_stays refl refl refl makes 0 0 held.heap.laid.nothing.stands_nil (sym (ap byte_at held.heap.laid.nothing.at_nil))))

  -- a statement that changes neither the mutator's hands nor the book
  told : (s : Statement) (rest : List Statement) (h : Graph) (c : Book) → IsReady p g b k a (s ∷ rest) → FindKinds (kinds_of m.register m.stack) rest →
      h ≡ advanced g k m rest → c ≡ b → AreReadyBehind p g b k h c (record a { reg = a.reg; script = rest; mid = Idle }) rest
  told s rest h c ready kinds after places =
      subst (λ q. AreReadyBehind p g b k q c (record a { reg = a.reg; script = rest; mid = Idle }) rest) (sym after)
      (subst (λ d. AreReadyBehind p g b k (advanced g k m rest) d (record a { reg = a.reg; script = rest; mid = Idle }) rest) (sym places)
      (behind s rest ready g b same_stays refl refl refl m.register a.reg
      (λ r. holds_on g b (advanced g k m rest) b (a.reg r) (a.offset r) (m.register r) (record { stands = λ q. q; address = λ q. refl; size = λ q. refl })
      (ready.regs r)) kinds))

  -- the answers of the statements that ask
  answers : (how : Placing) (s : Statement) (rest : List Statement) (answer : Answer) (h : Graph) (c : Book) → IsReady p g b k a (s ∷ rest) →
      Answers p g m s answer → h ≡ advanced (heap_after p g k m s answer) k (hands_after m s answer) rest → Places p how g b s answer c →
      AreReadyBehind p g b k h c (served a s rest (by_address c answer)) rest
  answers how (New r class) rest (At name) h c ready is after places =
      made (New r class) rest (inl tt) class (fields_of p class) name h c ready is after (stands_placed p how g b (fields_of p class) name c places.1)
  answers how (NewV r class count) rest (At name) h c ready is after places =
      made (NewV r class count) rest (inl tt) class count name h c ready is after (stands_placed p how g b count name c places.1)
  answers how (Mature r class) rest (At name) h c ready is after places =
      made (Mature r class) rest (inr tt) class (fields_of p class) name h c ready is after
      (stands_slotted p g b (fields_of p class) name places.0 places.1 c places.2)
  answers how (New r class) rest Full h c ready is after places = missed (New r class) rest (inl tt) h c ready after places.2
  answers how (NewV r class count) rest Full h c ready is after places = missed (NewV r class count) rest (inl tt) h c ready after places.2
  answers how (Mature r class) rest Full h c ready is after places = missed (Mature r class) rest (inr tt) h c ready after places.1
  answers how (Collect major) rest Fine h c ready is after places = told (Collect major) rest h c ready ready.kinds.1 after places
  answers how Sections rest Fine h c ready is after places = told Sections rest h c ready ready.kinds.1 after places
  answers how s rest answer h c ready is after places = absurd places

pub serves_ready : ServesReady
serves_ready p lay w g h b c how asked service a held turn ready =
    subst (λ x. AreReadyBehind p g b asked.by h c (served a turn.statement turn.rest x) turn.rest) (sym turn.told)
    (answers p lay w g b asked.by a held how turn.statement turn.rest turn.answer h c ready turn.does.0 turn.does.1 turn.places)
