-- Each rule by which a mutator goes on keeps the relation: the store and the load of a global.
use Rattle.std.proofs.Common.{◌≡◌, ℕ, ◌+◌, ◌<◌, true, false, List, ◌∷◌, inl, inr, sym, refl, ap, ◌∙◌, subst, le_refl, arith}
use Rattle.std.proofs.lemmas.Bool.{cases_eq, eq-eqb, ne_eqb, cond-true, cond-false}
use Rattle.sg_words.specs.Address.{byte_at}
use Rattle.sg_words.specs.declared.steps.Place.TheVariants.{Word}
use Rattle.sg_words.specs.Words.{put, Words, write}
use Rattle.sg_words.specs.Sections.{globals_base}
use Rattle.sg_program.specs.declared.program.Statement.{Statement}
use Rattle.sg_program.specs.declared.program.Statement.TheVariants.{GPut, GGet}
use Rattle.sg_program.specs.declared.program.Program.{Program}
use Rattle.sg_program.specs.declared.answers.Answer.{Answer}
use Rattle.sg_program.specs.declared.answers.Answer.TheVariants.{At, Nil, Fine}
use Rattle.sg_program.specs.Kinds.{IsRef}
use Rattle.sg_graph.specs.Graph.{Entry, Ref, Graph}
use Rattle.sg_graph.specs.Statements.{name_in}
use Rattle.sg_graph.specs.Book.{Book, word_of}
use Rattle.sg_graph.specs.Heap.{Owner, IsKnown, IsKnownEntry, layout_of}
use Rattle.sg_rules.specs.Rules.{Constants, Mid, Idle, AccessGlobal, Actor, before, within, over, reference_answer, global_word, IsGlobal}
use Rattle.sg_rules.specs.Resting.{IsRunnable}
use Rattle.sg_order.specs.Rest.{kind_of_entry, StandsAt}
use Rattle.sg_words.proofs.Puts.{put-at, put-other, put-along}
use Rattle.sg_order.proofs.Frame.{entry_later}
use Rattle.sg_order.proofs.Relation.{Ground, Stands, Later, Kept}
use Rattle.sg_order.proofs.Moves.{Change, handed, offsets_put, unchanged, still, again, decided, fits_as, runnable_as}
use Rattle.sg_order.proofs.Loads.{is_ref, name_nil, known_put}
use Rattle.sg_order.proofs.Accesses.{below_globals}

module _ (p : Program) (lay : Constants) (w : Words) (g : Graph) (b : Book) (said : ℕ → List Answer) (k : ℕ) (owner : ℕ → Owner)
    (t : Ground p lay w g b owner) where
  -- the store of global x: it holds the known object n then
  module _ (x n : ℕ) (there : x < 64) (kn : IsKnown w.word g b n) where
    abbrev at : ℕ
    at = globals_base (layout_of p) + x

    abbrev val : ℕ
    val = byte_at (b.address n)

    -- the words of objects stay
    off : (m y : ℕ) → b.stands m ≡ true → y < b.address m + (g.size m + 2) → put w.word at val y ≡ w.word y
    off m y s q = put-other w.word at val y (λ e. let u = below_globals p lay w g b said k owner t m y s q in absurd (omega arith))

    known_on : (m : ℕ) → IsKnown w.word g b m → IsKnown (put w.word at val) g b m
    known_on m q = (
      q.0,
      elim q.1 [ inl z ↦ inl z | inr h ↦ inr (off m (b.address m) q.0 (omega arith) ∙ h.0, off m (b.address m + 1) q.0 (omega arith) ∙ h.1) ],
    )

    pub entry_on : (e : Entry) → IsKnownEntry w.word g b e →
        IsKnownEntry (put w.word (globals_base (layout_of p) + x) (byte_at (b.address n))) (record g { global = put g.global x n }) b e
    entry_on e q = entry_later w g b (write w (Word at) val) (record g { global = put g.global x n }) b e known_on q

    global_holds : (y : ℕ) → y < 64 → put w.word at val (globals_base (layout_of p) + y) ≡ byte_at (b.address (put g.global x n y))
    global_holds y l = elim (cases_eq y x) [
      | inl e ↦ put-at w.word at val (globals_base (layout_of p) + y) (ap (λ z. globals_base (layout_of p) + z) e)
          ∙ sym (ap (λ m. byte_at (b.address m)) (put-at g.global x n y e))
      | inr o ↦ put-other w.word at val (globals_base (layout_of p) + y) (λ e. o (omega arith)) ∙ t.laid.globals.holds y l
          ∙ sym (ap (λ m. byte_at (b.address m)) (put-other g.global x n y o))
    ]

    global_known : (y : ℕ) → y < 64 → IsKnown (put w.word at val) g b (put g.global x n y)
    global_known y l = elim (cases_eq y x) [
      | inl e ↦ subst (IsKnown (put w.word at val) g b) (sym (put-at g.global x n y e)) (known_on n kn)
      | inr o ↦ subst (IsKnown (put w.word at val) g b) (sym (put-other g.global x n y o)) (known_on (g.global y) (t.laid.globals.known y l))
    ]

    later_on : Later p w g b said (write w (Word at) val) (record g { global = put g.global x n }) b said k
    later_on = record {
      stands = λ m q. q;
      known = known_on;
      address = λ m q. refl;
      size = λ m q. refl;
      class = λ m q. refl;
      next = λ f. le_refl _;
      limit = λ f. refl;
      length_word = λ m q z e. off m (b.address m + 1) q (omega arith) ∙ e;
      owed = refl;
      zeros = λ y l none e. put-other w.word at val y (λ q. absurd (omega arith)) ∙ e;
      dirty = λ y e. e;
      mutator = λ j o. refl;
      says = λ j o. refl;
      from = λ j o. refl;
      to = λ j o. refl;
    }

    ground_on : Ground p lay (write w (Word at) val) (record g { global = put g.global x n }) b owner
    ground_on = record {
      laid = record {
        nothing = t.laid.nothing;
        objects = t.laid.objects;
        fields = record {
          holds = λ m i q j. off m (b.address m + 2 + i) q (omega arith) ∙ t.laid.fields.holds m i q j;
          known = λ m i q j. entry_on (g.field m i) (t.laid.fields.known m i q j);
          sorted = t.laid.fields.sorted;
        };
        globals = record {
          holds = global_holds;
          known = global_known;
          empty = λ y l m. put-other w.word at val y (λ e. absurd (omega arith)) ∙ t.laid.globals.empty y l m;
        };
        clear = record {
          large = λ y l m. put-other w.word at val y (λ e. absurd (omega arith)) ∙ t.laid.clear.large y l m;
          clear = λ y l m none. put-other w.word at val y (λ e. absurd (omega arith)) ∙ t.laid.clear.clear y l m none;
        };
        fragments = t.laid.fragments;
        buffers = t.laid.buffers;
      };
      blocks = record {
        placed = t.blocks.placed;
        each = t.blocks.each;
        clear = λ c l y q r none clean. put-other w.word at val y (λ e. absurd (omega arith)) ∙ t.blocks.clear c l y q r none clean;
        sized = t.blocks.sized;
      };
      plain = record { links = t.plain.links; registered = t.plain.registered; ready = t.plain.ready; pairs = t.plain.pairs };
      number = t.number;
      limits = t.limits;
      words = t.words;
      marks = t.marks;
    }

    pub global_stored : {after : Mid} → Change p lay w g b said k after (write w (Word (globals_base (layout_of p) + x)) (byte_at (b.address n)))
        (record g { global = put g.global x n }) b
    global_stored = record { owner = owner; later = later_on; needs = λ y q. inl q; ground = ground_on; mutators = refl }

  module _ (a : Actor) (rest : List Statement) where
    -- the load of the stop word of a statement with a global
    pub begins_global : (s : Statement) → IsGlobal s → Stands p lay w g b said k (before a s rest) →
        Kept p lay w g b said k Idle false w (within a rest (AccessGlobal s))
    begins_global s is st = still p lay w g b said k _ tt owner t _ (again p lay w g b said k _ st rest (AccessGlobal s) (is, st.at))

    -- the statement with a global is run
    pub runs_global : (s : Statement) → Stands p lay w g b said k (within a rest (AccessGlobal s)) → IsRunnable p s
    runs_global s st = (runnable_as p lay w g b said k st.entry (s ∷ rest) st.answers st.at.1 st.runnable).0

    pub within_globals : (r x : ℕ) → Stands p lay w g b said k (within a rest (AccessGlobal (GGet r x))) → x < 64
    within_globals r x st = let l = (runs_global (GGet r x) st).good.operands.1 in omega arith

    -- the deciding store
    pub puts_global : (x r : ℕ) → Stands p lay w g b said k (within a rest (AccessGlobal (GPut x r))) →
        Kept p lay w g b said k (AccessGlobal (GPut x r)) true (write w (Word (global_word p x)) (a.reg r)) (over a rest a.reg Fine)
    puts_global x r st =
        let there : x < 64 = let l = (runs_global (GPut x r) st).good.operands.0 in omega arith in
        let target = is_ref (st.entry r) (fits_as p lay w g b said k st.entry (GPut x r ∷ rest) st.answers st.at.1 st.fits).0 in
        let known : IsKnown w.word g b target.0 = subst (IsKnownEntry w.word g b) target.1 (st.known r) in
        subst (λ z. Kept p lay w g b said k (AccessGlobal (GPut x r)) true (write w (Word (global_word p x)) z) (over a rest a.reg Fine))
        (sym (st.regs r ∙ ap (word_of b.address) target.1))
        (decided p lay w g b said k _ tt (write w (Word (global_word p x)) (byte_at (b.address target.0)))
        (record g { global = put g.global x target.0 }) (global_stored x target.0 there known) _ (GPut x r) rest st st.entry Fine a.reg Fine st.at.1
        ((target.0, target.1), ap (λ e. handed (record g { global = put g.global x (name_in e) }) k rest st.entry) (sym target.1))
        refl st.regs (λ q. entry_on x target.0 there known (st.entry q) (st.known q)) st.offsets refl tt (λ q. refl) refl)

    -- the deciding load
    pub gets_global : (r x v : ℕ) → w.word (global_word p x) ≡ v → Stands p lay w g b said k (within a rest (AccessGlobal (GGet r x))) →
        Kept p lay w g b said k (AccessGlobal (GGet r x)) true w (over a rest (put a.reg r v) (reference_answer v))
    gets_global r x v e st =
        let there = within_globals r x st in
        let n = g.global x in
        let known = t.laid.globals.known x there in
        let ev : v ≡ word_of b.address (Ref n) = sym e ∙ t.laid.globals.holds x there in
        let regs = put-along (word_of b.address) a.reg st.entry r v (Ref n) st.regs ev in
        let holds = known_put p lay w g b said k owner t _ st r (Ref n) known in
        let offsets = offsets_put g b a.offset st.entry r (Ref n) (λ o. known.0) st.offsets in
        let kinds = put-along kind_of_entry (λ r. kind_of_entry (st.entry r)) st.entry r IsRef (Ref n) (λ r. refl) refl in
        elim (cases_eq n 0) [
          | inl z ↦ decided p lay w g b said k _ tt w g (unchanged p lay w g b said k owner t) _ (GGet r x) rest st (put st.entry r (Ref 0)) Nil
              (put a.reg r v) (reference_answer v) st.at.1
              (z, refl) refl
              (subst (λ m. (q : ℕ) → put a.reg r v q ≡ word_of b.address (put st.entry r (Ref m) q)) z regs)
              (subst (λ m. (q : ℕ) → IsKnownEntry w.word g b (put st.entry r (Ref m) q)) z holds)
              (subst (λ m. (q : ℕ) → StandsAt g b (a.offset q) (put st.entry r (Ref m) q)) z offsets)
              (cond-true _ _ _ (eq-eqb v 0 (ev ∙ ap (λ m. byte_at (b.address m)) z ∙ (let u = t.laid.nothing.at_nil in omega arith)))) tt
              (subst (λ m. (q : ℕ) → put (λ r. kind_of_entry (st.entry r)) r IsRef q ≡ kind_of_entry (put st.entry r (Ref m) q)) z kinds) refl
          | inr z ↦ decided p lay w g b said k _ tt w g (unchanged p lay w g b said k owner t) _ (GGet r x) rest st (put st.entry r (Ref n))
              (At n) (put a.reg r v) (reference_answer v) st.at.1
              ((refl, z), refl) refl regs holds offsets
              (cond-false _ _ _ (ne_eqb v 0 (λ q. z (name_nil p lay w g b said k owner t n known.0 (omega arith)))) ∙ ap At ev) known.0 kinds refl
        ]
