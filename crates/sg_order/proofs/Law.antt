-- From the atomic steps of the mutators to one order of whole statements, from an epoch's opening on.
use Rattle.std.proofs.Common.{Bool, false, ◌≡◌, ℕ, ◌+◌, ◌<◌, ◌≤◌, ◌==◌, true, List, [], ◌∷◌, map, inl, inr, sym, refl, ap, ◌∙◌, subst, le_refl, zero-le, arith}
use Rattle.std.proofs.lemmas.Bool.{cases_eq, cases_Bool, eqb-true}
use Rattle.std.specs.List.{AllByRecursion}
use Rattle.sg_words.specs.Words.{Words, after, Legal}
use Rattle.sg_words.specs.Lists.{has}
use Rattle.sg_words.specs.Events.{Event, ticks}
use Rattle.sg_program.specs.declared.program.Statement.{Statement}
use Rattle.sg_program.specs.declared.program.Statement.TheVariants.{Mature}
use Rattle.sg_program.specs.declared.program.Program.{Program}
use Rattle.sg_program.specs.declared.answers.Answer.{Answer}
use Rattle.sg_program.specs.Scripts.{script_of, IsMaking, made_words, made_slot}
use Rattle.sg_program.specs.Invariants.{FindKinds}
use Rattle.sg_graph.specs.Graph.{Entry, Graph, Ref, Int, Inner, no_objects}
use Rattle.sg_graph.specs.Book.{Book, empty_book, word_of, Young, Old, nursery_end, HasNoPlace, IsApart, IsWordOf, IsClosed, block_at, slot_words, swept_in}
use Rattle.sg_words.proofs.Blocks.{slot_in}
use Rattle.sg_order.proofs.BlockGround.{in_size}
use Rattle.sg_graph.specs.Laws.{BlocksGo}
use Rattle.sg_words.specs.Sections.{nursery_base}
use Rattle.sg_graph.specs.Epoch.{by_address}
use Rattle.sg_words.specs.Lists.{Pairwise}
use Rattle.sg_graph.specs.Heap.{Owner, Of, Frag, Nobody, IsKnownEntry, IsHeap}
use Rattle.sg_graph.specs.Blocks.{AreBlocks, AreSettled}
use Rattle.sg_words.specs.Blocks.{IsOf, IsOwing}
use Rattle.sg_words.specs.declared.steps.BlockWord.TheVariants.{Free, Swept, Need, Sweeping}
use Rattle.sg_rules.specs.Rules.{Constants, Roam, StackWord, Mid, Idle, Claim, Left, SeeBlock, Actor, fresh, owning}
use Rattle.sg_order.specs.Rest.{Holds, IsReady, IsHeld, IsFirst, IsEpochOpening, before_it, IsOver, AreOver, kinds_in}
use Rattle.sg_rules.specs.Resting.{IsRunnable}
use Rattle.sg_order.specs.Rest.{StandsAt}
use Rattle.sg_order.specs.Opening.{AreFirstConstants, AreFirstWords, AreFirstScripts, FirstOpening}
use Rattle.sg_order.specs.OneOrder.{HasPrepared, IsHoused, IsAtEnd, OneOrder}
use Rattle.sg_order.specs.Knowing.{IsPast, IsPassed, KnowsAt}
use Rattle.sg_order.specs.Sweep.{no_winner, winners, swept_of}
use Rattle.sg_words.proofs.Members.{not-in}
use Rattle.sg_words.proofs.Puts.{within_range, range-in, range-below}
use Rattle.sg_order.proofs.Events.{range-was}
use Rattle.sg_order.proofs.Cases.{by_making}
use Rattle.sg_order.proofs.Relation.{Ground, IsMutator, Tight, AsksForRoom, AtMid, Stacked, Stands}
use Rattle.sg_order.proofs.Beside.{World}
use Rattle.sg_order.proofs.Loads.{same_object}
use Rattle.sg_order.proofs.Stopping.{wanted_so, wanted_at_opening}
use Rattle.sg_order.proofs.Once.{AreLawful, taken_is_past, untaken_needs, sweep_law}
use Rattle.sg_graph.specs.Statements.{name_in}
use Rattle.sg_order.specs.Serving.{StaysPut}
use Rattle.sg_order.proofs.Serving.{all_stay, stays_ready}
use Rattle.sg_order.proofs.Whole.{Explained, lawful_runs, one_by_one}
use Rattle.sg_order.proofs.Ending.{by_over, swept_is, swept_now, owed_still, sweeper_there, sweeper_alone, object_there, seeks, held_end, closed_end}

-- what holds of each point at which an actor begins
by_first : (P : Mid → Type 0) → P Idle → P (SeeBlock Roam true 0) → (mid : Mid) → IsFirst mid → P mid
by_first P idle roam mid first = elim first [ inl e ↦ subst P (sym e) idle | inr e ↦ subst P (sym e) roam ]

-- an epoch opens with every object headed and every mutator between two statements
pub at_opening : (p : Program) (lay : Constants) (w : Words) (g : Graph) (b : Book) (by : ℕ → ℕ) (actors : ℕ → Actor) → IsEpochOpening p lay w g b actors →
    World p lay g.count w g b (λ _. []) by actors
at_opening p lay w g b by actors o = record {
  owner = o.held.owner;
  ground = record {
    laid = o.held.heap.laid;
    blocks = subst (λ m. AreBlocks p m w.block w.used w.word g.size b.stands b.address b.section b.owed o.held.owner) o.held.marks o.held.settled.blocks;
    plain = o.held.plain;
    number = o.held.number;
    limits = o.held.limits;
    words = o.held.nexts;
    marks = o.held.marks;
  };
  stands = λ k. let ready = o.ready k in record {
    entry = (g.mutator k).register;
    answers = [];
    regs = λ r. (ready.regs r).word_is;
    known = λ r. known (a_offset k r) ((g.mutator k).register r) (ready.regs r).stands;
    offsets = λ r. (ready.regs r).stands;
    stack = stacked (actors k).stack (g.mutator k).stack ready.stack;
    told = o.untold k;
    given = tt;
    from_is = ready.from_is;
    to_is = ready.to_is;
    at = by_first (λ (mid : Mid). AtMid p lay w g b (λ _. []) k (g.mutator k).register [] (actors k).script mid)
        (record { register_is = refl; script_is = ready.script_is; asleep = ready.asleep; says = refl })
        (record { register_is = refl; script_is = ready.script_is; asleep = ready.asleep; says = refl }) (actors k).mid (o.idle k);
    fits = subst (λ script. FindKinds (kinds_in (g.mutator k)) script) (sym ready.script_is) ready.kinds;
    runnable = subst (λ script. AllByRecursion (IsRunnable p) script) (sym ready.script_is) ready.runnable;
  };
  headed = λ n l q. inl (o.held.heap.headed n l q);
  beside = λ k. record {
    at = by_first (λ (mid : Mid). KnowsAt p lay w b.owed by k mid) tt (tt, λ m. absurd m) (actors k).mid (o.idle k);
    mine = λ c z l e q. absurd (o.held.settled.settled c z l e);
    fills = λ c z l e q. inl (o.held.settled.inhabited c z l e);
  };
  carded = λ card q. inl (subst (λ x. w.card x ≡ 1) q.at
      (o.held.settled.cards.dirty q.name q.index q.target q.some q.standing q.old q.inside q.strong q.refers q.one q.young));
  lower = λ n j new q l lo. absurd (let u = o.held.heap.laid.objects.given n q in omega arith);
}
  where
    a_offset : ℕ → ℕ → ℕ
    a_offset k r = (actors k).offset r

    known : (offset : ℕ) (e : Entry) → StandsAt g b offset e → IsKnownEntry w.word g b e
    known offset (Ref n) q = (
      q,
      elim (cases_eq n 0) [ inl z ↦ inl z | inr some ↦ inr (o.held.heap.headed n (omega arith) q) ],
    )
    known offset (Int v) q = tt
    known offset (Inner n i) q = (
      q.0,
      elim (cases_eq n 0) [ inl z ↦ inl z | inr some ↦ inr (o.held.heap.headed n (omega arith) q.0) ],
    )

    stacked : (slots : List StackWord) (entries : List Entry) →
        Pairwise (λ (slot : StackWord) (entry : Entry). Holds g b slot.word slot.offset entry) slots entries → Stacked w.word g b slots entries
    stacked [] [] q = tt
    stacked [] (y ∷ ys) q = absurd q
    stacked (x ∷ xs) [] q = absurd q
    stacked (x ∷ xs) (y ∷ ys) q = (record { holds = q.0; known = known x.offset y q.0.stands }, stacked xs ys q.1)

-- a mutator that is over is where the graph's mutator is
pub at_rest : (p : Program) (lay : Constants) (w : Words) (g : Graph) (b : Book) (said : ℕ → List Answer) (k : ℕ) (a : Actor)
    (s : Stands p lay w g b said k a) → IsOver a.mid → IsMutator g said k s.entry (before_it a.mid a.script) s.answers
at_rest p lay w g b said k a s over =
    by_over (λ mid. AtMid p lay w g b said k s.entry s.answers a.script mid → IsMutator g said k s.entry (before_it mid a.script) s.answers)
    (λ m. m) (λ r m. m.1) (λ m. m) (λ m. m) (λ begins c m. m) a.mid over s.at

-- the places of a stack hold what they keep
held_stack : (w : ℕ → ℕ) (g : Graph) (b : Book) (slots : List StackWord) (entries : List Entry) → Stacked w g b slots entries →
    Pairwise (λ (slot : StackWord) (entry : Entry). Holds g b slot.word slot.offset entry) slots entries
held_stack w g b [] [] q = tt
held_stack w g b [] (y ∷ ys) q = absurd q
held_stack w g b (x ∷ xs) [] q = absurd q
held_stack w g b (x ∷ xs) (y ∷ ys) q = (q.0.holds, held_stack w g b xs ys q.1)

pub ready_at_rest : (p : Program) (lay : Constants) (w : Words) (g : Graph) (b : Book) (said : ℕ → List Answer) (k : ℕ) (a : Actor)
    (s : Stands p lay w g b said k a) → IsOver a.mid → IsReady p g b k a (before_it a.mid a.script)
ready_at_rest p lay w g b said k a s over =
    let m = at_rest p lay w g b said k a s over in
    let entry : (r : ℕ) → (g.mutator k).register r ≡ s.entry r = λ r. ap (λ (register : ℕ → Entry). register r) m.register_is in
    record {
      regs = λ r. record {
        word_is = s.regs r ∙ ap (word_of b.address) (sym (entry r));
        stands = subst (λ x. StandsAt g b (a.offset r) x) (sym (entry r)) (s.offsets r);
      };
      stack = held_stack w.word g b a.stack (g.mutator k).stack s.stack;
      script_is = m.script_is;
      asleep = m.asleep;
      from_is = s.from_is;
      to_is = s.to_is;
      kinds = subst (λ script. FindKinds (kinds_in (g.mutator k)) script) m.script_is s.fits;
      runnable = subst (λ script. AllByRecursion (IsRunnable p) script) m.script_is s.runnable;
    }

-- who asks for a new object is short of room
asked_tight : (p : Program) (lay : Constants) (b : Book) (k : ℕ) (s : Statement) → IsMaking s → AsksForRoom p lay b k s →
    Tight b k (made_words p s) lay.fragments
asked_tight p lay b k s making = by_making (λ s. AsksForRoom p lay b k s → Tight b k (made_words p s) lay.fragments) (λ r class t. t)
    (λ r class count t. t) s making

-- who left with a new object has no place for it
pub no_place : (p : Program) (lay : Constants) (w : Words) (g : Graph) (b : Book) (said : ℕ → List Answer) (owner : ℕ → Owner) → Ground p lay w g b owner →
    (k : ℕ) (a : Actor) (st : Stands p lay w g b said k a) (s : Statement) →
    IsMaking s → a.mid ≡ Left s → HasNoPlace b k (made_words p s)
no_place p lay w g b said owner t k a st s making e =
    let m = subst (λ (mid : Mid). AtMid p lay w g b said k st.entry st.answers a.script mid) e st.at in
    let tight = asked_tight p lay b k s making m.0 in
    record { short = tight.short; none = λ f l. tight.below f (let n = t.number in omega arith) }

module _ (p : Program) (lay : Constants) (w : Words) (g : Graph) (b : Book) (said : ℕ → List Answer) (owner : ℕ → Owner)
    (t : Ground p lay w g b owner) where
  -- who is right before the exchange of a next word has prepared it
  has_prepared : (k : ℕ) (a : Actor) → Stands p lay w g b said k a → (s : Statement) (f seen : ℕ) → a.mid ≡ Claim s f seen →
      HasPrepared p g b k a s f seen
  has_prepared k a st s f seen e =
      let m = subst (λ (mid : Mid). AtMid p lay w g b said k st.entry st.answers a.script mid) e st.at in
      record {
        makes = m.0;
        script = m.4.script_is;
        short = m.2.short;
        there = let l = m.1 in let n = t.number in omega arith;
        below = m.2.below;
        behind = m.5;
      }

pub apart_by : (p : Program) (lay : Constants) (w : Words) (g : Graph) (b : Book) (owner : ℕ → Owner) → Ground p lay w g b owner → IsApart p g b
apart_by p lay w g b owner t = record {
  apart = λ m n x q r. same_object p lay w g b (λ _. []) 0 owner t m n x q.stands r.stands q.above q.below r.above r.below;
  inside = λ n x q y. let u = q.above in let v = q.below in elim (t.laid.objects.inside n q.some q.stands) [
    | inl i ↦ let lo = i.1 in let hi = i.2 in (omega arith, omega arith)
    | inr i ↦ absurd (let e : Young ≡ Old = sym y ∙ i.0 in cc)
  ];
}

-- an object that has a word in a block has it in a slot whose bit is set
housed_there : (p : Program) (lay : Constants) (w : Words) (g : Graph) (b : Book) (owner : ℕ → Owner) → Ground p lay w g b owner → (c name y : ℕ) →
    c < p.config.blocks → IsWordOf g b name y → block_at p c ≤ y → y < block_at p c + 256 → IsHoused p lay (w.block c) (w.used c) c y
housed_there p lay w g b owner t c name y l of from to =
    let some = of.some in
    let stands = of.stands in
    let above = of.above in
    let below = of.below in
    elim (t.laid.objects.inside name some stands) [
      | inl young ↦ absurd (let top = young.2 in omega arith)
      | inr old ↦
          let h = t.blocks.placed name some stands old.0 in
          let z = slot_words (g.size name) in
          let fit = in_size p lay w g b owner t name some stands in
          let at = h.2.address in
          let within = slot_in (nursery_end p) h.0 z h.2.slot y h.2.fits (omega arith) (omega arith) in
          let lo = within.0 in
          let hi = within.1 in
          let same : h.0 ≡ c = omega arith in
          subst (λ d. IsHoused p lay (w.block d) (w.used d) d y) same
          (record { size = z; slot = h.2.slot; of = h.2.of; fits = h.2.fits; from = omega arith; to = omega arith; taken = h.2.taken })
    ]

-- where all are over, the book in which what was swept isn't owed any more
module _ (p : Program) (lay : Constants) (es : List Event) (w : Words) (g : Graph) (b : Book) (actors last : ℕ → Actor)
    (opening : IsEpochOpening p lay w g b actors) (legal : Legal w (ticks es)) (x : Explained p lay g.count es w g b (λ _. []) no_winner last) where
  abbrev v : Words
  v = after w (ticks es)

  abbrev end : Book
  end = swept_in x.book (swept_of es)

  law : AreLawful p lay w no_winner es
  law = lawful_runs p lay es w no_winner g x.graph b x.book x.order x.runs

  -- what is owed then was owed as the epoch began, and nobody took it over
  needs : (c : ℕ) → c < p.config.blocks → end.owed c ≡ true → (s : ℕ) × (v.block c ≡ Need s)
  needs c l e = elim (cases_Bool (has c (swept_of es))) [
    | inl h ↦ absurd (let z : false ≡ true = sym (swept_now x.book (swept_of es) c h) ∙ e in cc)
    | inr n ↦
        let out = not-in c (swept_of es) n in
        let was : b.owed c ≡ true = sym (ap (λ (f : ℕ → Bool). f c) x.owed) ∙ sym (owed_still x.book (swept_of es) c out) ∙ e in
        let need = opening.held.settled.owes c l was in
        (need.0, untaken_needs p lay c need.0 es w no_winner legal law out need.1)
  ]

  owes : (c s : ℕ) → c < p.config.blocks → v.block c ≡ Need s → end.owed c ≡ true
  owes c s l e = elim (cases_Bool (has c (swept_of es))) [
    | inl h ↦ absurd (subst IsPast e (taken_is_past p lay c es w no_winner legal law h))
    | inr n ↦ owed_still x.book (swept_of es) c (not-in c (swept_of es) n)
        ∙ (x.world.ground.blocks.each c l).owing s (subst (λ state. IsOwing state s) (sym e) refl)
  ]

  ready_end : (k : ℕ) → IsOver (last k).mid → IsReady p x.graph end k (last k) (before_it (last k).mid (last k).script)
  ready_end k over =
      let ready = ready_at_rest p lay v x.graph x.book x.says k (last k) (x.world.stands k) over in
      let same = swept_is x.book (swept_of es) in
      let stays : (n : ℕ) → StaysPut x.graph x.book x.graph end n = λ n. record {
        stands = λ q. ap (λ (c : Book). c.stands n) same ∙ q;
        address = λ q. ap (λ (c : Book). c.address n) same;
        size = λ q. refl;
      } in
      let after = stays_ready p x.graph x.graph x.book end k (last k) (before_it (last k).mid (last k).script) ready
      (record { register = refl; stack = refl; script = refl; asleep = λ e. ready.script_is ∙ ready.asleep e })
      (record {
        registers = λ r. stays (name_in ((x.graph.mutator k).register r));
        stack = all_stay x.graph x.book x.graph end stays (x.graph.mutator k).stack;
      }) in
      subst (λ (a : Actor). IsReady p x.graph end k a (before_it (last k).mid (last k).script))
      (λ i. owning (last k) ((ap (λ (c : Book). c.from k) same ∙ sym ready.from_is) i) ((ap (λ (c : Book). c.to k) same ∙ sym ready.to_is) i)) after

  at_end : AreOver last → IsAtEnd p lay g.count b x.graph x.book end v last
  at_end over =
      let same = swept_is x.book (swept_of es) in
      let held = held_end p lay g.count v x.graph x.book x.says (winners no_winner es) last x.world over end.owed needs owes in
      let closed = closed_end p lay g.count v x.graph x.book x.says (winners no_winner es) last x.world over end.owed needs owes b.owed in
      record {
        only_owed = same;
        ready = λ k. ready_end k (over k);
        held = subst (λ c. IsHeld p lay v x.graph c) (sym same) held;
        searched = λ k r class j e l.
            let at = subst (λ mid. KnowsAt p lay v x.book.owed (winners no_winner es) k mid) e (x.world.beside k).at in
            let passed = subst (λ owed. IsPassed v owed (made_slot p (Mature r class)) j) x.owed (at j l) in
            subst (λ c. IsClosed p b.owed x.graph c j (made_slot p (Mature r class))) (sym same) (closed (made_slot p (Mature r class)) j l passed);
        lowest = λ n j new lo.
            let stands : x.book.stands n ≡ true = ap (λ (c : Book). c.stands n) (sym same) ∙ new.stands in
            let old : x.book.section n ≡ Old = ap (λ (c : Book). c.section n) (sym same) ∙ new.old in
            let at : x.book.address n ≡ end.address n = ap (λ (c : Book). c.address n) (sym same) in
            let l : j < p.config.blocks = below n j (omega (arith, new.new)) stands old (omega (arith, lo, at)) in
            let passed = subst (λ owed. IsPassed v owed (slot_words (x.graph.size n)) j) x.owed
            (x.world.lower n j new.new stands l (omega (arith, lo, at))) in
            subst (λ c. IsClosed p b.owed x.graph c j (slot_words (x.graph.size n))) (sym same) (closed (slot_words (x.graph.size n)) j l passed);
      }
    where
      -- a block below an old object is one of the heap's
      below : (n j : ℕ) → 1 ≤ n → x.book.stands n ≡ true → x.book.section n ≡ Old → block_at p j + 256 ≤ x.book.address n → j < p.config.blocks
      below n j some stands old lo = elim (x.world.ground.laid.objects.inside n some stands) [
        | inl y ↦ absurd (let e : Young ≡ Old = sym y.0 ∙ old in cc)
        | inr y ↦ let hi = y.2 in omega arith
      ]

pub is_one_order : BlocksGo → OneOrder
is_one_order go p lay w g b es actors last opening legal follows =
    let x = one_by_one go p lay g.count es w g b (λ _. []) no_winner actors last (at_opening p lay w g b no_winner actors opening) legal follows in
    let v = after w (ticks es) in
    let by = winners no_winner es in
    record {
      order = x.order;
      graph = x.graph;
      book = x.book;
      explains = x.explains;
      deciding = x.order_is;
      apart = apart_by p lay v x.graph x.book x.world.owner x.world.ground;
      fragments = x.world.ground.number;
      limits = x.world.ground.limits;
      nexts = x.world.ground.words;
      answers = λ k over. let s = x.world.stands k in s.told ∙ ap (map (by_address x.book))
          (sym (at_rest p lay v x.graph x.book x.says k (last k) s over).says ∙ x.said_is k);
      ready = λ k over. ready_at_rest p lay v x.graph x.book x.says k (last k) (x.world.stands k) over;
      tight = λ k s making e. no_place p lay v x.graph x.book x.says x.world.owner x.world.ground k (last k) (x.world.stands k) s making e;
      prepared = λ k s f seen e. has_prepared p lay v x.graph x.book x.says x.world.owner x.world.ground k (last k) (x.world.stands k) s f seen e;
      yielded = λ k e. (wanted_so p lay es w actors last legal follows (wanted_at_opening w actors opening.going opening.idle)).yielded k e;
      given = λ name e. x.world.ground.laid.objects.given name e;
      owed = x.owed;
      runs = x.runs;
      sweep = sweep_law p lay es w b.owed no_winner legal (law p lay es w g b actors last opening legal x) x.were_owed;
      blocks = record {
        owner = x.world.owner;
        blocks = x.world.ground.blocks;
        marks = x.world.ground.marks;
        housed = λ c name y l of from to. housed_there p lay v x.graph x.book x.world.owner x.world.ground c name y l of from to;
        swept_by = sweeper_there p lay g.count v x.graph x.book x.says by last x.world;
        one_sweeper = sweeper_alone p lay g.count v x.graph x.book x.says by last x.world;
        inhabited = object_there p lay g.count v x.graph x.book x.says by last x.world;
        known = λ k. (x.world.beside k).at;
        seeking = seeks p lay g.count v x.graph x.book x.says by last x.world;
      };
      ended = at_end p lay es w g b actors last opening legal x;
    }

-- before any step: the two words at address 0 stand for nothing, and the nursery is the fragment's
first_owner : Program → ℕ → Owner
first_owner p = within_range (within_range (λ _. Nobody) 0 2 (Of 0)) nursery_base (nursery_end p) (Frag 0)

module _ (p : Program) (lay : Constants) (w : Words) (scripts : AreFirstScripts p) (first : AreFirstConstants p lay w) (opening : AreFirstWords w) where
  nil : (n : ℕ) → (n == 0) ≡ true → n ≡ 0
  nil n q = eqb-true n 0 q

  owns_nil : (n x : ℕ) → (n == 0) ≡ true → 0 ≤ x → x < 0 + (0 + 2) → first_owner p x ≡ Of n
  unfolding first_owner
  owns_nil n x q l m = range-below _ nursery_base (nursery_end p) (Frag 0) x (omega arith) ∙ range-in _ 0 2 (Of 0) x zero-le (omega arith) ∙ ap Of
      (sym (nil n q))

  owned_nil : (n x : ℕ) → first_owner p x ≡ Of n → ((n == 0) ≡ true) × (0 ≤ x) × (x < 0 + (0 + 2))
  unfolding first_owner
  owned_nil n x q = elim (range-was (within_range (λ _. Nobody) 0 2 (Of 0)) nursery_base (nursery_end p) (Frag 0) (Of n) x q) [
    | inl h ↦ absurd (let e : Of n ≡ Frag 0 = h.0 in cc)
    | inr e ↦ elim (range-was (λ _. Nobody) 0 2 (Of 0) (Of n) x e) [
      | inl h ↦ let e : Of n ≡ Of 0 = h.0 in let z : n ≡ 0 = cc in (ap (λ m. m == 0) z, h.1, h.2)
      | inr e ↦ absurd (let e : Nobody ≡ Of n = e in cc)
    ]
  ]

  owns_frag : (f x : ℕ) → f < 1 → nursery_base ≤ x → x < nursery_end p → first_owner p x ≡ Frag f
  unfolding first_owner
  owns_frag f x l q r = range-in _ nursery_base (nursery_end p) (Frag 0) x q r ∙ ap Frag (let e : 0 ≡ f = omega arith in e)

  first_heap : IsHeap p w.word (no_objects p) (empty_book p) (first_owner p)
  first_heap = record {
    laid = record {
      nothing = record { stands_nil = refl; at_nil = refl; no_size = refl };
      objects = record {
        given = λ n q. let e = nil n q in omega arith;
        shaped = λ n l q. let e = nil n q in absurd (omega arith);
        owns = owns_nil;
        owned = owned_nil;
        inside = λ n l q. let e = nil n q in absurd (omega arith);
      };
      fields = record {
        holds = λ n i q l. absurd (omega arith);
        known = λ n i q l. absurd (omega arith);
        sorted = λ n i q l. absurd (omega arith);
      };
      globals = record {
        holds = λ x l. opening.word _;
        known = λ x l. (refl, inl refl);
        empty = λ x l r. opening.word x;
      };
      clear = record { large = λ x l r. opening.word x; clear = λ x l r none. opening.word x };
      fragments = record {
        owns = owns_frag;
        inside = λ f l. (le_refl _, omega arith, le_refl _);
        ordered = λ f j l r. absurd (omega arith);
      };
      buffers = record {
        owns = λ k x q r. absurd (omega arith);
        inside = λ k l. absurd (omega arith);
      };
    };
    headed = λ n l q. let e = nil n q in absurd (omega arith);
  }

  -- all blocks are free
  first_blocks : AreBlocks p w.marks w.block w.used w.word (no_objects p).size (empty_book p).stands (empty_book p).address (empty_book p).section
      (empty_book p).owed (first_owner p)
  first_blocks = record {
    placed = λ n l q. let e = nil n q in absurd (omega arith);
    each = λ c l. record {
      filled = λ s i o. absurd (subst (λ state. IsOf state s) (opening.block c) o);
      bare = λ e. opening.used c;
      owing = λ s o. absurd (subst (λ state. IsOwing state s) (opening.block c) o);
      kept = λ s i o. absurd (subst (λ state. IsOwing state s) (opening.block c) o);
      unmarked = λ e. opening.marks c;
      within = λ s e. absurd (let free : Free ≡ Swept s = sym (opening.block c) ∙ e in cc);
    };
    clear = λ c l x q r none clean. opening.word x;
    sized = λ c s l o. absurd (subst (λ state. IsOf state s) (opening.block c) o);
  }

  -- and no card is needed
  first_settled : AreSettled p w (no_objects p) (empty_book p) (first_owner p)
  first_settled = record {
    blocks = first_blocks;
    settled = λ c s l e. let q : Free ≡ Sweeping s = sym (opening.block c) ∙ e in cc;
    inhabited = λ c s l e. let q : Free ≡ Swept s = sym (opening.block c) ∙ e in cc;
    owes = λ c l e. cc;
    cards = record { dirty = λ n i m l q. let e = nil n q in absurd (omega arith) };
  }

  -- the first epoch of a program
  first_opening : IsEpochOpening p lay w (no_objects p) (empty_book p) (λ k. fresh (script_of p k))
  first_opening = record {
    held = record {
      owner = first_owner p;
      heap = first_heap;
      settled = first_settled;
      plain = record {
        links = λ n. refl;
        registered = refl;
        ready = refl;
        pairs = λ n l m. absurd (omega arith);
      };
      number = sym first.fragments;
      limits = λ f l. let e : 0 ≡ f = omega arith in sym first.limit ∙ ap lay.limit e;
      nexts = λ f l. let e : f ≡ 0 = omega arith in ap w.next e ∙ opening.next;
      marks = first.marks;
    };
    ready = λ k. record {
      regs = λ r. record { word_is = refl; stands = refl };
      stack = tt;
      script_is = refl;
      asleep = λ e. let q : false ≡ true = e in cc;
      from_is = refl;
      to_is = refl;
      kinds = scripts.kinds k;
      runnable = scripts.runnable k;
    };
    idle = λ k. inl refl;
    going = opening.stop;
    untold = λ k. refl;
  }

pub is_first_opening : FirstOpening
is_first_opening p lay w scripts first opening = first_opening p lay w scripts first opening
