-- What all rules share: a step that changes nothing, a step that decides, and a step with which a statement ends.
use Rattle.std.proofs.Common.{◌≡◌, ℕ, true, false, List, [], ◌∷◌, ◌++◌, map, ◌⊎◌, inl, sym, refl, ap, ◌∙◌, subst, ap₂, le_refl}
use Rattle.std.proofs.Math.Path.{fun_ext}
use Rattle.std.specs.List.{AllByRecursion}
use Rattle.sg_words.specs.Words.{put, Words}
use Rattle.sg_program.specs.declared.program.Statement.{Statement}
use Rattle.sg_program.specs.declared.program.Program.{Program}
use Rattle.sg_program.specs.declared.answers.Answer.{Answer}
use Rattle.sg_program.specs.Kinds.{Kinds, kinds_after}
use Rattle.sg_program.specs.Invariants.{FindKinds}
use Rattle.sg_graph.specs.Graph.{Entry, Mutator, Graph, advanced}
use Rattle.sg_graph.specs.Statements.{Does}
use Rattle.sg_graph.specs.Book.{Book, Books, word_of}
use Rattle.sg_graph.specs.Epoch.{by_address}
use Rattle.sg_graph.specs.Invariants.{IsPlain}
use Rattle.sg_graph.specs.Heap.{Owner, IsKnownEntry, IsLaid}
use Rattle.sg_rules.specs.Rules.{Constants, StackWord, Mid, Idle, TestTag, TestLength, Access, MarkCard, AccessGlobal, Look, Claim, StoreLength, StoreTag, HideLength, Ask, Left, Yielded, Actor, within, over, over_with}
use Rattle.sg_rules.specs.Rules.{SeeBlock, TakeBlock, SeeUsed, TakeSlot, TakeOver, StoreOccupancy, ClearSlots, ClearWords, Retired}
use Rattle.sg_order.specs.Rest.{kind_of_entry, kinds_in}
use Rattle.sg_rules.specs.Resting.{IsRunnable}
use Rattle.sg_order.specs.Rest.{StandsAt}
use Rattle.sg_words.proofs.Puts.{put-same, put-other, put-all}
use Rattle.sg_order.proofs.Frame.{answers_push, given_push, stack_later}
use Rattle.sg_order.proofs.Relation.{Ground, IsGiven, IsMutator, AtMid, Stacked, Stands, Later, WritesHeader, Heads, IsNeeded, Marks, IsQuiet, Kept}

-- h, where mutator k has this in its registers and on its stack, and these statements before it
abbrev pub handed_with : Graph → ℕ → List Statement → (ℕ → Entry) → List Entry → Graph
handed_with h k rest register stack = advanced h k (record (h.mutator k) { register = register; stack = stack }) rest

-- the same, with the stack that it had
abbrev pub handed : Graph → ℕ → List Statement → (ℕ → Entry) → Graph
handed h k rest register = handed_with h k rest register (h.mutator k).stack

pub later_refl : (p : Program) (w : Words) (g : Graph) (b : Book) (said : ℕ → List Answer) (k : ℕ) → Later p w g b said w g b said k
later_refl p w g b said k = record {
  stands = λ n q. q;
  known = λ n q. q;
  address = λ n q. refl;
  size = λ n q. refl;
  class = λ n q. refl;
  next = λ f. le_refl _;
  limit = λ f. refl;
  length_word = λ n q z e. e;
  owed = refl;
  zeros = λ x l none e. e;
  dirty = λ x e. e;
  mutator = λ j n. refl;
  says = λ j n. refl;
  from = λ j n. refl;
  to = λ j n. refl;
}

-- the mutators enter into nothing of the ground
pub laid_mutators : (p : Program) (w : ℕ → ℕ) (g : Graph) (b : Book) (owner : ℕ → Owner) (m : ℕ → Mutator) → IsLaid p w g b owner →
    IsLaid p w (record g { mutator = m }) b owner
laid_mutators p w g b owner m t = record {
  nothing = t.nothing;
  objects = t.objects;
  fields = record { holds = t.fields.holds; known = t.fields.known; sorted = t.fields.sorted };
  globals = record { holds = t.globals.holds; known = t.globals.known; empty = t.globals.empty };
  clear = t.clear;
  fragments = t.fragments;
  buffers = t.buffers;
}

pub plain_mutators : (p : Program) (g : Graph) (m : ℕ → Mutator) → IsPlain p g → IsPlain p (record g { mutator = m })
plain_mutators p g m t = record { links = t.links; registered = t.registered; ready = t.ready; pairs = t.pairs }

pub ground_mutators : (p : Program) (lay : Constants) (w : Words) (g : Graph) (b : Book) (owner : ℕ → Owner) (m : ℕ → Mutator) → Ground p lay w g b owner →
    Ground p lay w (record g { mutator = m }) b owner
ground_mutators p lay w g b owner m t = record {
  laid = laid_mutators p w.word g b owner m t.laid;
  blocks = t.blocks;
  plain = plain_mutators p g m t.plain;
  number = t.number;
  limits = t.limits;
  words = t.words;
  marks = t.marks;
}

pub later_mutators : (p : Program) (w : Words) (g : Graph) (b : Book) (said : ℕ → List Answer) (v : Words) (h : Graph) (c : Book) (k : ℕ) (m : Mutator)
    (answers : List Answer) →
    Later p w g b said v h c said k → Later p w g b said v (record h { mutator = put h.mutator k m }) c (put said k answers) k
later_mutators p w g b said v h c k m answers l = record {
  stands = l.stands;
  known = l.known;
  address = l.address;
  size = l.size;
  class = l.class;
  next = l.next;
  limit = l.limit;
  length_word = l.length_word;
  owed = l.owed;
  zeros = l.zeros;
  dirty = l.dirty;
  mutator = λ j n. put-other h.mutator k m j n ∙ l.mutator j n;
  says = λ j n. put-other said k answers j n;
  from = l.from;
  to = l.to;
}

-- the stop word enters into nothing, and a card only by being dirty
pub ground_aside : (p : Program) (lay : Constants) (w : Words) (g : Graph) (b : Book) (owner : ℕ → Owner) (stop : ℕ) (card : ℕ → ℕ) →
    Ground p lay w g b owner → Ground p lay (record w { stop = stop; card = card }) g b owner
ground_aside p lay w g b owner stop card t = record {
  laid = t.laid;
  blocks = t.blocks;
  plain = t.plain;
  number = t.number;
  limits = t.limits;
  words = t.words;
  marks = t.marks;
}

pub later_aside : (p : Program) (w : Words) (g : Graph) (b : Book) (said : ℕ → List Answer) (k stop : ℕ) (card : ℕ → ℕ) →
    ((x : ℕ) → w.card x ≡ 1 → card x ≡ 1) → Later p w g b said (record w { stop = stop; card = card }) g b said k
later_aside p w g b said k stop card dirty = record {
  stands = λ n q. q;
  known = λ n q. q;
  address = λ n q. refl;
  size = λ n q. refl;
  class = λ n q. refl;
  next = λ f. le_refl _;
  limit = λ f. refl;
  length_word = λ n q z e. e;
  owed = refl;
  zeros = λ x l none e. e;
  dirty = dirty;
  mutator = λ j n. refl;
  says = λ j n. refl;
  from = λ j n. refl;
  to = λ j n. refl;
}

-- the kinds of what these registers and this stack hold
abbrev pub kinds_of : (ℕ → Entry) → List Entry → Kinds
kinds_of register stack = record { register = λ r. kind_of_entry (register r); stack = map kind_of_entry stack }

-- kinds that are equal at each register, with an equal stack, are as good
pub kinds_along : (kinds others : Kinds) (script : List Statement) → ((r : ℕ) → kinds.register r ≡ others.register r) → kinds.stack ≡ others.stack →
    FindKinds kinds script → FindKinds others script
kinds_along kinds others script e s h =
    let same : kinds ≡ others = λ i. record { register = fun_ext e i; stack = s i } in
    subst (λ k. FindKinds k script) same h

-- the offset beside a register that gets something else than an address inside an object counts for nothing
pub offsets_put : (g : Graph) (b : Book) (offset : ℕ → ℕ) (register : ℕ → Entry) (d : ℕ) (entry : Entry) → ((o : ℕ) → StandsAt g b o entry) →
    ((r : ℕ) → StandsAt g b (offset r) (register r)) →
    (r : ℕ) → StandsAt g b (offset r) (put register d entry r)
offsets_put g b offset register d entry here there = put-all (λ r e. StandsAt g b (offset r) e) register d entry (here (offset d)) (λ j _. there j)

-- the register and the offset beside it are set
pub offsets_both : (g : Graph) (b : Book) (offset : ℕ → ℕ) (register : ℕ → Entry) (d o : ℕ) (entry : Entry) → StandsAt g b o entry →
    ((r : ℕ) → StandsAt g b (offset r) (register r)) →
    (r : ℕ) → StandsAt g b (put offset d o r) (put register d entry r)
offsets_both g b offset register d o entry here there = put-all (λ r e. StandsAt g b (put offset d o r) e) register d entry
    (subst (λ x. StandsAt g b x entry) (sym (put-same offset d o)) here)
    (λ j ne. subst (λ x. StandsAt g b x (register j)) (sym (put-other offset d o j ne)) (there j))

-- who is quiet is about to write no header, and no card
pub no_header : (mid : Mid) → IsQuiet mid → (x : ℕ) → WritesHeader x mid → ⊥
no_header Idle q x m = m
no_header (TestTag s test) q x m = m
no_header (TestLength s test class) q x m = m
no_header (Access s) q x m = m
no_header (MarkCard s card) q x m = q
no_header (AccessGlobal s) q x m = m
no_header (Look s f) q x m = m
no_header (Claim s f seen) q x m = m
no_header (StoreLength s y) q x m = q
no_header (StoreTag s y) q x m = q
no_header (HideLength d s offset) q x m = m
no_header (SeeBlock t begins c) q x m = m
no_header (TakeBlock s c) q x m = m
no_header (SeeUsed s c) q x m = m
no_header (TakeSlot s c i) q x m = m
no_header (TakeOver t c z) q x m = m
no_header (StoreOccupancy t c z) q x m = m
no_header (ClearSlots t c z i) q x m = m
no_header (ClearWords t c z i f) q x m = m
no_header Retired q x m = m
no_header (Ask s) q x m = m
no_header (Left s) q x m = m
no_header Yielded q x m = m

pub no_mark : (mid : Mid) → IsQuiet mid → (card : ℕ) → Marks card mid → ⊥
no_mark Idle q x m = m
no_mark (TestTag s test) q x m = m
no_mark (TestLength s test class) q x m = m
no_mark (Access s) q x m = m
no_mark (MarkCard s card) q x m = q
no_mark (AccessGlobal s) q x m = m
no_mark (Look s f) q x m = m
no_mark (Claim s f seen) q x m = m
no_mark (StoreLength s y) q x m = m
no_mark (StoreTag s y) q x m = m
no_mark (HideLength d s offset) q x m = m
no_mark (SeeBlock t begins c) q x m = m
no_mark (TakeBlock s c) q x m = m
no_mark (SeeUsed s c) q x m = m
no_mark (TakeSlot s c i) q x m = m
no_mark (TakeOver t c z) q x m = m
no_mark (StoreOccupancy t c z) q x m = m
no_mark (ClearSlots t c z i) q x m = m
no_mark (ClearWords t c z i f) q x m = m
no_mark Retired q x m = m
no_mark (Ask s) q x m = m
no_mark (Left s) q x m = m
no_mark Yielded q x m = m

-- nothing stands new, and no header was about to be written
pub no_heads : (w : Words) (g : Graph) (b : Book) (mid : Mid) (v : Words) (h : Graph) (c : Book) (next_mid : Mid) →
    ((n : ℕ) → c.stands n ≡ true → b.stands n ≡ true) → IsQuiet mid → Heads w g b mid v h c next_mid
no_heads w g b mid v h c next_mid back quiet = record {
  begun = λ n q. inl (back n q);
  done = λ n q m. absurd (no_header mid quiet (b.address n) m);
}

-- who has a statement before it hasn't ended
pub goes : (g : Graph) (said : ℕ → List Answer) (k : ℕ) (entry : ℕ → Entry) (s : Statement) (rest : List Statement) (answers : List Answer) →
    IsMutator g said k entry (s ∷ rest) answers → (g.mutator k).ended ≡ true → ⊥
goes g said k entry s rest answers m e = let q : s ∷ rest ≡ [] = m.asleep e in cc

-- a step of mutator k, which stands at `after` then, leaves these words, objects and places
pub record Change (p : Program) (lay : Constants) (w : Words) (g : Graph) (b : Book) (said : ℕ → List Answer) (k : ℕ) (after : Mid) (v : Words) (h : Graph)
    (c : Book) : Type 0 where
  pub owner : ℕ → Owner
  pub later : Later p w g b said v h c said k
  pub needs : (card : ℕ) → IsNeeded p h c card → IsNeeded p g b card ⊎ Marks card after
  pub ground : Ground p lay v h c owner
  pub mutators : h.mutator ≡ g.mutator

module _ (p : Program) (lay : Constants) (w : Words) (g : Graph) (b : Book) (said : ℕ → List Answer) (k : ℕ) where
  pub unchanged : {after : Mid} (owner : ℕ → Owner) → Ground p lay w g b owner → Change p lay w g b said k after w g b
  unchanged owner t = record { owner = owner; later = later_refl p w g b said k; needs = λ x q. inl q; ground = t; mutators = refl }

  pub goes_in : {after : Mid} (v : Words) (h : Graph) (c : Book) → Change p lay w g b said k after v h c →
      (entry : ℕ → Entry) (s : Statement) (rest : List Statement) (answers : List Answer) → IsMutator g said k entry (s ∷ rest) answers →
      (h.mutator k).ended ≡ true → ⊥
  goes_in v h c ch entry s rest answers m e = goes g said k entry s rest answers m (sym (ap (λ (f : ℕ → Mutator). (f k).ended) ch.mutators) ∙ e)

  -- a step that doesn't decide
  pub silent : (mid : Mid) (v : Words) (h : Graph) (c : Book) (a : Actor) → Change p lay w g b said k a.mid v h c → h ≡ g → c ≡ b →
      Heads w g b mid v h c a.mid → ((card : ℕ) → Marks card mid → v.card card ≡ 1) → Stands p lay v h c said k a → Kept p lay w g b said k mid false v a
  silent mid v h c a ch eh ec heads marked s = record {
    h = h;
    c = c;
    said' = said;
    owner = ch.owner;
    moves = (eh, ec, refl);
    later = ch.later;
    heads = heads;
    cards = record { begun = ch.needs; done = marked };
    ground = ch.ground;
    stands = s;
  }

  -- a step that changes nothing but where its mutator stands
  pub still : (mid : Mid) → IsQuiet mid → (owner : ℕ → Owner) → Ground p lay w g b owner → (a : Actor) → Stands p lay w g b said k a →
      Kept p lay w g b said k mid false w a
  still mid quiet owner t a s =
      silent mid w g b a (unchanged owner t) refl refl (no_heads w g b mid w g b a.mid (λ n q. q) quiet) (λ x m. absurd (no_mark mid quiet x m)) s

  -- the same mutator at another point
  pub again : (a : Actor) (s : Stands p lay w g b said k a) (rest : List Statement) (mid : Mid) → AtMid p lay w g b said k s.entry s.answers rest mid →
      Stands p lay w g b said k (within a rest mid)
  again a s rest mid m = record {
    entry = s.entry;
    answers = s.answers;
    regs = s.regs;
    known = s.known;
    offsets = s.offsets;
    stack = s.stack;
    told = s.told;
    given = s.given;
    from_is = s.from_is;
    to_is = s.to_is;
    at = m;
    fits = s.fits;
    runnable = s.runnable;
  }

  -- the statement finds operands of the kinds that it needs, and so do those after it
  pub fits_as : (entry : ℕ → Entry) (script : List Statement) (answers : List Answer) → IsMutator g said k entry script answers →
      FindKinds (kinds_in (g.mutator k)) (g.mutator k).script → FindKinds (kinds_of entry (g.mutator k).stack) script
  fits_as entry script answers m f =
      subst (λ register. FindKinds (kinds_of register (g.mutator k).stack) script) m.register_is
      (subst (λ statements. FindKinds (kinds_in (g.mutator k)) statements) m.script_is f)

  pub fits_after : (h : Graph) (rest : List Statement) (register : ℕ → Entry) (stack : List Entry) → FindKinds (kinds_of register stack) rest →
      FindKinds (kinds_in ((handed_with h k rest register stack).mutator k)) ((handed_with h k rest register stack).mutator k).script
  fits_after h rest register stack f = subst (λ (m : Mutator). FindKinds (kinds_in m) m.script)
      (sym (put-same h.mutator k (record (h.mutator k) { register = register; stack = stack; script = rest }))) f

  -- the statement is one that is run, and so are those after it
  pub runnable_as : (entry : ℕ → Entry) (script : List Statement) (answers : List Answer) → IsMutator g said k entry script answers →
      AllByRecursion (IsRunnable p) (g.mutator k).script → AllByRecursion (IsRunnable p) script
  runnable_as entry script answers m f = subst (λ statements. AllByRecursion (IsRunnable p) statements) m.script_is f

  pub runnable_after : (h : Graph) (rest : List Statement) (register : ℕ → Entry) (stack : List Entry) → AllByRecursion (IsRunnable p) rest →
      AllByRecursion (IsRunnable p) ((handed_with h k rest register stack).mutator k).script
  runnable_after h rest register stack f = subst (λ (m : Mutator). AllByRecursion (IsRunnable p) m.script)
      (sym (put-same h.mutator k (record (h.mutator k) { register = register; stack = stack; script = rest }))) f

  -- the graph's mutator after the statement
  pub is_after : (h : Graph) (rest : List Statement) (register : ℕ → Entry) (stack : List Entry) (answers : List Answer) (answer : Answer) →
      said k ≡ answers → ((h.mutator k).ended ≡ true → ⊥) →
      IsMutator (handed_with h k rest register stack) (put said k (said k ++ answer ∷ [])) k register rest (answers ++ answer ∷ [])
  is_after h rest register stack answers answer e awake =
      let after = put-same h.mutator k (record (h.mutator k) { register = register; stack = stack; script = rest }) in
      record {
        register_is = ap (λ (m : Mutator). m.register) after;
        script_is = ap (λ (m : Mutator). m.script) after;
        asleep = λ e. absurd (awake (sym (ap (λ (m : Mutator). m.ended) after) ∙ e));
        says = put-same said k _ ∙ ap (λ xs. xs ++ answer ∷ []) e;
      }

  -- the stack of the graph's mutator after the statement
  pub stack_after : (v : Words) (h : Graph) (c : Book) (rest : List Statement) (register : ℕ → Entry) (slots : List StackWord) (stack : List Entry) →
      Stacked v.word h c slots stack →
      Stacked v.word (handed_with h k rest register stack) c slots ((handed_with h k rest register stack).mutator k).stack
  stack_after v h c rest register slots stack q =
      subst (λ (m : Mutator). Stacked v.word (handed_with h k rest register stack) c slots m.stack)
      (sym (put-same h.mutator k (record (h.mutator k) { register = register; stack = stack; script = rest })))
      (stack_later v h c v (handed_with h k rest register stack) c (λ n q. q) (λ n q. q) (λ n q. refl) (λ n q. refl) slots stack q)

  -- the stack that no statement touched
  pub stack_kept : {after : Mid} (v : Words) (h : Graph) (c : Book) → Change p lay w g b said k after v h c → (slots : List StackWord) →
      Stacked w.word g b slots (g.mutator k).stack → Stacked v.word h c slots (h.mutator k).stack
  stack_kept v h c ch slots q =
      subst (λ (m : ℕ → Mutator). Stacked v.word h c slots (m k).stack) (sym ch.mutators)
      (stack_later w g b v h c ch.later.known ch.later.stands ch.later.address ch.later.size slots (g.mutator k).stack q)

  -- a deciding step: a whole statement of the graph's mutator
  unfoldable pub turned : (mid : Mid) → IsQuiet mid → (v : Words) (h : Graph) (c : Book) (a : Actor) → Change p lay w g b said k a.mid v h c →
      Heads w g b mid v h c a.mid → (s : Statement) (rest : List Statement) (entry : ℕ → Entry) (answers : List Answer)
      (register : ℕ → Entry) (stack : List Entry) (answer : Answer) →
      IsMutator g said k entry (s ∷ rest) answers →
      Does p g k (record (g.mutator k) { register = entry; script = s ∷ rest }) s rest answer (handed_with h k rest register stack) →
      Books p g b k s answer c →
      Stands p lay v (handed_with h k rest register stack) c (put said k (said k ++ answer ∷ [])) k a →
      Kept p lay w g b said k mid true v a
  turned mid quiet v h c a ch heads s rest entry answers register stack answer m does books stands =
      let is : g.mutator k ≡ record (g.mutator k) { register = entry; script = s ∷ rest } =
      λ i. record { register = m.register_is i; stack = (g.mutator k).stack; registered = (g.mutator k).registered; script = m.script_is i; ended = (g.mutator k).ended } in
      record {
        h = handed_with h k rest register stack;
        c = c;
        said' = put said k (said k ++ answer ∷ []);
        owner = ch.owner;
        moves = (
          answer,
          record {
            statement = s;
            rest = rest;
            next = m.script_is;
            does = subst (λ m. Does p g k m s rest answer (handed_with h k rest register stack)) (sym is) does;
            books = books;
          },
          refl,
        );
        later = later_mutators p w g b said v h c k _ _ ch.later;
        heads = record { begun = heads.begun; done = heads.done };
        cards = record { begun = ch.needs; done = λ x m. absurd (no_mark mid quiet x m) };
        ground = ground_mutators p lay v h c ch.owner _ ch.ground;
        stands = stands;
      }

  -- a deciding step with which the statement ends
  pub decided_with : (mid : Mid) → IsQuiet mid → (v : Words) (h : Graph) → Change p lay w g b said k Idle v h b →
      (a : Actor) (s : Statement) (rest : List Statement) (st : Stands p lay w g b said k a)
      (register : ℕ → Entry) (stack : List Entry) (answer : Answer) (areg aoffset : ℕ → ℕ) (slots : List StackWord) (word : Answer) →
      IsMutator g said k st.entry (s ∷ rest) st.answers →
      Does p g k (record (g.mutator k) { register = st.entry; script = s ∷ rest }) s rest answer (handed_with h k rest register stack) →
      Books p g b k s answer b →
      ((r : ℕ) → areg r ≡ word_of b.address (register r)) → ((r : ℕ) → IsKnownEntry v.word h b (register r)) →
      ((r : ℕ) → StandsAt h b (aoffset r) (register r)) → Stacked v.word h b slots stack →
      word ≡ by_address b answer → IsGiven b.stands answer →
      ((r : ℕ) → (kinds_after (kinds_of st.entry (g.mutator k).stack) s).register r ≡ kind_of_entry (register r)) →
      (kinds_after (kinds_of st.entry (g.mutator k).stack) s).stack ≡ map kind_of_entry stack →
      Kept p lay w g b said k mid true v (over_with a rest areg aoffset slots word)
  decided_with mid quiet v h ch a s rest st register stack answer areg aoffset slots word m does books regs known offsets stacked told given kinds piled =
      turned mid quiet v h b (over_with a rest areg aoffset slots word) ch
      (no_heads w g b mid v h b Idle (λ n q. q) quiet) s rest st.entry st.answers register stack answer m does books (record {
        entry = register;
        answers = st.answers ++ answer ∷ [];
        regs = regs;
        known = known;
        offsets = offsets;
        stack = stack_after v h b rest register slots stack stacked;
        told = ap₂ (λ s x. s ++ x ∷ []) st.told told ∙ sym (answers_push b st.answers answer);
        given = given_push b.stands st.answers answer st.given given;
        from_is = st.from_is;
        to_is = st.to_is;
        at = is_after h rest register stack st.answers answer m.says (goes_in v h b ch st.entry s rest st.answers m);
        fits = fits_after h rest register stack (kinds_along (kinds_after (kinds_of st.entry (g.mutator k).stack) s)
            (kinds_of register stack) rest kinds piled (fits_as st.entry (s ∷ rest) st.answers m st.fits).1);
        runnable = runnable_after h rest register stack (runnable_as st.entry (s ∷ rest) st.answers m st.runnable).1;
      })

  -- the same, where the stack and the offsets stay
  pub decided : (mid : Mid) → IsQuiet mid → (v : Words) (h : Graph) → (ch : Change p lay w g b said k Idle v h b) →
      (a : Actor) (s : Statement) (rest : List Statement) (st : Stands p lay w g b said k a)
      (register : ℕ → Entry) (answer : Answer) (areg : ℕ → ℕ) (word : Answer) →
      IsMutator g said k st.entry (s ∷ rest) st.answers →
      Does p g k (record (g.mutator k) { register = st.entry; script = s ∷ rest }) s rest answer (handed h k rest register) →
      Books p g b k s answer b →
      ((r : ℕ) → areg r ≡ word_of b.address (register r)) → ((r : ℕ) → IsKnownEntry v.word h b (register r)) →
      ((r : ℕ) → StandsAt h b (a.offset r) (register r)) →
      word ≡ by_address b answer → IsGiven b.stands answer →
      ((r : ℕ) → (kinds_after (kinds_of st.entry (g.mutator k).stack) s).register r ≡ kind_of_entry (register r)) →
      (kinds_after (kinds_of st.entry (g.mutator k).stack) s).stack ≡ map kind_of_entry (g.mutator k).stack →
      Kept p lay w g b said k mid true v (over a rest areg word)
  decided mid quiet v h ch a s rest st register answer areg word m does books regs known offsets told given kinds piled =
      decided_with mid quiet v h ch a s rest st register (h.mutator k).stack answer areg a.offset a.stack word m does books regs known offsets
      (stack_kept v h b ch a.stack st.stack) told given kinds
      (piled ∙ sym (ap (λ (m : ℕ → Mutator). map kind_of_entry (m k).stack) ch.mutators))
