-- Each rule by which a mutator goes on keeps the relation: the rules that set registers and the stack alone.
use Rattle.std.proofs.Common.{◌≡◌, ◌≢◌, ℕ, ◌+◌, ◌<◌, ◌≤◌, ◌-◌, ◌==◌, if◌then◌else◌, ◌⊎◌, true, false, List, [], ◌∷◌, map, inl, inr, sym, refl, ap, ◌∙◌, subst, le_refl, arith}
use Rattle.std.proofs.lemmas.Bool.{cases_eq, eq-eqb, ne_eqb, cond-true, cond-false}
use Rattle.sg_words.specs.Address.{byte_at}
use Rattle.sg_words.specs.Words.{put, Words}
use Rattle.sg_program.specs.declared.program.Statement.{Statement}
use Rattle.sg_program.specs.declared.program.Statement.TheVariants.{Move, Hide, Unhide, Push, Pop, Same}
use Rattle.sg_program.specs.declared.program.Program.{Program}
use Rattle.sg_program.specs.declared.answers.Answer.{Answer}
use Rattle.sg_program.specs.declared.answers.Answer.TheVariants.{At, Nil, Null, Fine, Yes, No, Field}
use Rattle.sg_program.specs.Scripts.{words_for}
use Rattle.sg_program.specs.Kinds.{IsRef, IsInner, pops}
use Rattle.sg_graph.specs.Graph.{Entry, Ref, Inner, Graph, advanced}
use Rattle.sg_graph.specs.Statements.{popped, setting, name_in}
use Rattle.sg_graph.specs.Book.{Book, word_of}
use Rattle.sg_graph.specs.Heap.{Owner, IsKnown, IsKnownEntry}
use Rattle.sg_rules.specs.Rules.{Constants, StackWord, Idle, HideLength, Actor, before, within, over, over_with, reference_answer, object_in, hides_none, unhidden}
use Rattle.sg_order.specs.Rest.{kind_of_entry}
use Rattle.sg_order.specs.Rest.{StandsAt}
use Rattle.sg_words.proofs.Puts.{put-along}
use Rattle.sg_order.proofs.Relation.{Ground, Keeps, Stacked, Stands, Kept}
use Rattle.sg_order.proofs.Moves.{kinds_of, offsets_put, offsets_both, unchanged, still, again, decided, decided_with}
use Rattle.sg_order.proofs.Loads.{is_ref, is_inner, same_object, name_nil, known_nil, length_says, reg_at, object_at, known_at, is_nil, not_nil, known_put, needs_now}

-- the entry under the top of the stack
pub record Topped (w : ℕ → ℕ) (g : Graph) (b : Book) (top : StackWord) (slots : List StackWord) (entries : List Entry) : Type 0 where
  pub entry : Entry
  pub rest : List Entry
  pub is : entries ≡ entry ∷ rest
  pub keeps : Keeps w g b top.word top.offset entry
  pub under : Stacked w g b slots rest

topped : (w : ℕ → ℕ) (g : Graph) (b : Book) (top : StackWord) (slots : List StackWord) (entries : List Entry) → Stacked w g b (top ∷ slots) entries →
    Topped w g b top slots entries
topped w g b top slots [] q = absurd q
topped w g b top slots (x ∷ xs) q = record { entry = x; rest = xs; is = refl; keeps = q.0; under = q.1 }

-- the kinds after the top of the stack went into a register
pops_register : (entry : ℕ → Entry) (entries : List Entry) (x : Entry) (rest : List Entry) (r : ℕ) → entries ≡ x ∷ rest → (q : ℕ) →
    (pops (kinds_of entry entries) r (map kind_of_entry entries)).register q ≡ kind_of_entry (put entry r x q)
pops_register entry entries x rest r e q =
    ap (λ entries. (pops (kinds_of entry entries) r (map kind_of_entry entries)).register q) e ∙ put-along kind_of_entry
    (λ r. kind_of_entry (entry r)) entry r (kind_of_entry x) x (λ r. refl) refl q

pops_stack : (entry : ℕ → Entry) (entries : List Entry) (x : Entry) (rest : List Entry) (r : ℕ) → entries ≡ x ∷ rest →
    (pops (kinds_of entry entries) r (map kind_of_entry entries)).stack ≡ map kind_of_entry rest
pops_stack entry entries x rest r e = ap (λ entries. (pops (kinds_of entry entries) r (map kind_of_entry entries)).stack) e

module _ (p : Program) (lay : Constants) (w : Words) (g : Graph) (b : Book) (said : ℕ → List Answer) (k : ℕ) (owner : ℕ → Owner)
    (t : Ground p lay w g b owner) where
  -- the answer of a reference
  answer_none : (n : ℕ) → n ≡ 0 → reference_answer (byte_at (b.address n)) ≡ Nil
  answer_none n z = cond-true _ _ _ (eq-eqb (byte_at (b.address n)) 0 (ap (λ m. byte_at (b.address m)) z ∙ (let u = t.laid.nothing.at_nil in omega arith)))

  answer_some : (n : ℕ) → n ≢ 0 → b.stands n ≡ true → reference_answer (byte_at (b.address n)) ≡ At (byte_at (b.address n))
  answer_some n z s = cond-false _ _ _ (ne_eqb (byte_at (b.address n)) 0 (λ q. z (name_nil p lay w g b said k owner t n s (omega arith))))

  -- the word of the object into which an address points
  unhidden_word : (word offset : ℕ) (n o : ℕ) → word ≡ byte_at (b.address n) + o → offset ≡ o → ((n ≡ 0) × (o ≡ 0)) ⊎ (n ≢ 0) → b.stands n ≡ true →
      (if word == 0 then 0 else word - offset) ≡ byte_at (b.address n)
  unhidden_word word offset n o e f c s = elim c [
    | inl z ↦ let u : b.address n ≡ 0 = ap b.address z.0 ∙ t.laid.nothing.at_nil in let v = z.1 in cond-true _ _ _ (eq-eqb word 0 (omega arith)) ∙
        (let r : 0 ≡ byte_at (b.address n) = omega arith in r)
    | inr z ↦ cond-false _ _ _ (ne_eqb word 0 (λ q. z (name_nil p lay w g b said k owner t n s (omega arith)))) ∙
        (let r : word - offset ≡ byte_at (b.address n) = omega arith in r)
  ]

  module _ (a : Actor) (rest : List Statement) where
    -- what one register holds goes into another one
    pub moves_over : (d s : ℕ) → Stands p lay w g b said k (before a (Move d s) rest) →
        Kept p lay w g b said k Idle true w (over_with a rest (put a.reg d (a.reg s)) (put a.offset d (a.offset s)) a.stack Fine)
    moves_over d s st = decided_with p lay w g b said k Idle tt w g (unchanged p lay w g b said k owner t) _ (Move d s) rest st
        (put st.entry d (st.entry s)) (g.mutator k).stack Fine (put a.reg d (a.reg s)) (put a.offset d (a.offset s)) a.stack Fine st.at (tt, refl) refl
        (put-along (word_of b.address) a.reg st.entry d (a.reg s) (st.entry s) st.regs (st.regs s))
        (known_put p lay w g b said k owner t _ st d (st.entry s) (st.known s))
        (offsets_both g b a.offset st.entry d (a.offset s) (st.entry s) (st.offsets s) st.offsets) st.stack refl tt
        (put-along kind_of_entry (λ r. kind_of_entry (st.entry r)) st.entry d (kind_of_entry (st.entry s)) (st.entry s) (λ r. refl) refl) refl

    -- onto the stack
    pub pushes : (r : ℕ) → Stands p lay w g b said k (before a (Push r) rest) →
        Kept p lay w g b said k Idle true w (over_with a rest a.reg a.offset (record { word = a.reg r; offset = a.offset r } ∷ a.stack) Fine)
    pushes r st = decided_with p lay w g b said k Idle tt w g (unchanged p lay w g b said k owner t) _ (Push r) rest st
        st.entry (st.entry r ∷ (g.mutator k).stack) Fine a.reg a.offset (record { word = a.reg r; offset = a.offset r } ∷ a.stack) Fine st.at (tt, refl) refl
        st.regs st.known st.offsets (record { holds = record { word_is = st.regs r; stands = st.offsets r }; known = st.known r }, st.stack) refl tt
        (λ q. refl) refl

    -- and back from it
    pub takes_top : (r : ℕ) (top : StackWord) (slots : List StackWord) → a.stack ≡ top ∷ slots → Stands p lay w g b said k (before a (Pop r) rest) →
        Kept p lay w g b said k Idle true w (over_with a rest (put a.reg r top.word) (put a.offset r top.offset) slots Fine)
    takes_top r top slots e st =
        let x = topped w.word g b top slots (g.mutator k).stack (subst (λ s. Stacked w.word g b s (g.mutator k).stack) e st.stack) in
        decided_with p lay w g b said k Idle tt w g (unchanged p lay w g b said k owner t) _ (Pop r) rest st
        (put st.entry r x.entry) x.rest Fine (put a.reg r top.word) (put a.offset r top.offset) slots Fine st.at (
          λ e. let q : x.entry ∷ x.rest ≡ [] = sym x.is ∙ e in cc,
          ap
              (λ entries. advanced g k (popped (record (g.mutator k) { register = st.entry; script = Pop r ∷ rest }) r entries) rest) (sym x.is),
        ) refl
        (put-along (word_of b.address) a.reg st.entry r top.word x.entry st.regs x.keeps.holds.word_is)
        (known_put p lay w g b said k owner t _ st r x.entry x.keeps.known)
        (offsets_both g b a.offset st.entry r top.offset x.entry x.keeps.holds.stands st.offsets) x.under refl tt
        (pops_register st.entry (g.mutator k).stack x.entry x.rest r x.is) (pops_stack st.entry (g.mutator k).stack x.entry x.rest r x.is)

    -- an address inside an object: there is no object
    pub hides_nothing : (d s offset : ℕ) → a.reg s ≡ 0 → Stands p lay w g b said k (before a (Hide d s offset) rest) →
        Kept p lay w g b said k Idle true w (hides_none a rest d Null)
    hides_nothing d s offset z st =
        let n = is_ref (st.entry s) (needs_now p lay w g b said k owner t a rest (Hide d s offset) st) in
        let e : st.entry s ≡ Ref 0 = n.1 ∙ ap Ref (is_nil p lay w g b said k owner t _ st s n.0 n.1 z) in
        decided_with p lay w g b said k Idle tt w g (unchanged p lay w g b said k owner t) _ (Hide d s offset) rest st
        (put st.entry d (Inner 0 0)) (g.mutator k).stack Null (put a.reg d 0) (put a.offset d 0) a.stack Null st.at (e, refl) refl
        (put-along (word_of b.address) a.reg st.entry d 0 (Inner 0 0) st.regs (let u = t.laid.nothing.at_nil in omega arith))
        (known_put p lay w g b said k owner t _ st d (Inner 0 0) (known_nil p lay w g b said k owner t))
        (offsets_both g b a.offset st.entry d 0 (Inner 0 0) (t.laid.nothing.stands_nil, refl, inl (refl, refl)) st.offsets) st.stack refl tt
        (put-along kind_of_entry (λ r. kind_of_entry (st.entry r)) st.entry d IsInner (Inner 0 0) (λ r. refl) refl) refl

    -- there is one: the load of its length comes next
    pub begins_hiding : (d s offset : ℕ) → a.reg s ≢ 0 → Stands p lay w g b said k (before a (Hide d s offset) rest) →
        Kept p lay w g b said k Idle false w (within a rest (HideLength d s offset))
    begins_hiding d s offset z st =
        let n = is_ref (st.entry s) (needs_now p lay w g b said k owner t a rest (Hide d s offset) st) in
        still p lay w g b said k _ tt owner t _
        (again p lay w g b said k _ st rest (HideLength d s offset) (n.0, n.1, not_nil p lay w g b said k owner t _ st s n.0 n.1 z, st.at))

    -- the length of the object whose address is to be hidden
    hidden_size : (d s offset len : ℕ) → w.word (object_in a s + 1) ≡ len → (st : Stands p lay w g b said k (within a rest (HideLength d s offset))) →
        len ≡ g.size st.at.0
    hidden_size d s offset len l st =
        length_says p lay w g b said k owner t st.at.0 len st.at.2 (known_at p lay w g b said k owner t _ st s st.at.0 st.at.1)
        (ap (λ x. w.word (x + 1)) (sym (object_at p lay w g b said k owner t _ st s st.at.0 st.at.1)) ∙ l)

    -- the load of the length decides: the object has the byte
    pub hides : (d s offset len : ℕ) → offset < byte_at (words_for len) → w.word (object_in a s + 1) ≡ len →
        Stands p lay w g b said k (within a rest (HideLength d s offset)) →
        Kept p lay w g b said k (HideLength d s offset) true w (over_with a rest (put a.reg d (a.reg s + offset)) (put a.offset d offset) a.stack Fine)
    hides d s offset len f l st =
        let name = st.at.0 in
        let holds = st.at.1 in
        let size : len ≡ g.size name = hidden_size d s offset len l st in
        let below : offset < byte_at (words_for (g.size name)) = omega arith in
        let known = known_at p lay w g b said k owner t _ st s name holds in
        decided_with p lay w g b said k _ tt w g (unchanged p lay w g b said k owner t) _ (Hide d s offset) rest st
        (put st.entry d (Inner name offset)) (g.mutator k).stack Fine (put a.reg d (a.reg s + offset)) (put a.offset d offset) a.stack Fine st.at.3 (
          (name, holds, st.at.2, below),
          ap (λ e. advanced g k
              (setting (record (g.mutator k) { register = st.entry; script = Hide d s offset ∷ rest }) d (Inner (name_in e) offset)) rest) (sym holds),
        ) refl
        (put-along (word_of b.address) a.reg st.entry d (a.reg s + offset) (Inner name offset) st.regs
        (ap (λ x. x + offset) (reg_at p lay w g b said k owner t _ st s name holds)))
        (known_put p lay w g b said k owner t _ st d (Inner name offset) known)
        (offsets_both g b a.offset st.entry d offset (Inner name offset) (known.0, refl, inr (st.at.2, below)) st.offsets) st.stack refl tt
        (put-along kind_of_entry (λ r. kind_of_entry (st.entry r)) st.entry d IsInner (Inner name offset) (λ r. refl) refl) refl

    -- or it hasn't
    pub hides_no_byte : (d s offset len : ℕ) → byte_at (words_for len) ≤ offset → w.word (object_in a s + 1) ≡ len →
        Stands p lay w g b said k (within a rest (HideLength d s offset)) →
        Kept p lay w g b said k (HideLength d s offset) true w (hides_none a rest d Field)
    hides_no_byte d s offset len f l st =
        let name = st.at.0 in
        let size : len ≡ g.size name = hidden_size d s offset len l st in
        let above : byte_at (words_for (g.size name)) ≤ offset = omega arith in
        decided_with p lay w g b said k _ tt w g (unchanged p lay w g b said k owner t) _ (Hide d s offset) rest st
        (put st.entry d (Inner 0 0)) (g.mutator k).stack Field (put a.reg d 0) (put a.offset d 0) a.stack Field st.at.3
        ((name, st.at.1, st.at.2, above), refl) refl
        (put-along (word_of b.address) a.reg st.entry d 0 (Inner 0 0) st.regs (let u = t.laid.nothing.at_nil in omega arith))
        (known_put p lay w g b said k owner t _ st d (Inner 0 0) (known_nil p lay w g b said k owner t))
        (offsets_both g b a.offset st.entry d 0 (Inner 0 0) (t.laid.nothing.stands_nil, refl, inl (refl, refl)) st.offsets) st.stack refl tt
        (put-along kind_of_entry (λ r. kind_of_entry (st.entry r)) st.entry d IsInner (Inner 0 0) (λ r. refl) refl) refl

    -- the object into which an address points
    pub unhides : (d s : ℕ) → Stands p lay w g b said k (before a (Unhide d s) rest) →
        Kept p lay w g b said k Idle true w (over a rest (put a.reg d (unhidden a s)) (reference_answer (unhidden a s)))
    unhides d s st =
        let x = is_inner (st.entry s) (needs_now p lay w g b said k owner t a rest (Unhide d s) st) in
        let n = x.0 in
        let o = x.1 in
        let known : IsKnown w.word g b n = subst (IsKnownEntry w.word g b) x.2 (st.known s) in
        let stood : StandsAt g b (a.offset s) (Inner n o) = subst (StandsAt g b (a.offset s)) x.2 (st.offsets s) in
        let word : a.reg s ≡ byte_at (b.address n) + o = st.regs s ∙ ap (word_of b.address) x.2 in
        let which : ((n ≡ 0) × (o ≡ 0)) ⊎ (n ≢ 0) = elim stood.2 [ inl z ↦ inl z | inr z ↦ inr z.0 ] in
        let is : unhidden a s ≡ byte_at (b.address n) = unhidden_word (a.reg s) (a.offset s) n o word stood.1 which known.0 in
        let regs = put-along (word_of b.address) a.reg st.entry d (unhidden a s) (Ref n) st.regs is in
        let holds = known_put p lay w g b said k owner t _ st d (Ref n) known in
        let offsets = offsets_put g b a.offset st.entry d (Ref n) (λ o. known.0) st.offsets in
        let kinds = put-along kind_of_entry (λ r. kind_of_entry (st.entry r)) st.entry d IsRef (Ref n) (λ r. refl) refl in
        elim (cases_eq n 0) [
          | inl z ↦ decided p lay w g b said k _ tt w g (unchanged p lay w g b said k owner t) _ (Unhide d s) rest st (put st.entry d (Ref 0)) Nil
              (put a.reg d (unhidden a s)) (reference_answer (unhidden a s)) st.at
              ((o, x.2 ∙ ap (λ m. Inner m o) z), refl) refl
              (subst (λ m. (q : ℕ) → put a.reg d (unhidden a s) q ≡ word_of b.address (put st.entry d (Ref m) q)) z regs)
              (subst (λ m. (q : ℕ) → IsKnownEntry w.word g b (put st.entry d (Ref m) q)) z holds)
              (subst (λ m. (q : ℕ) → StandsAt g b (a.offset q) (put st.entry d (Ref m) q)) z offsets)
              (ap reference_answer is ∙ answer_none n z) tt
              (subst (λ m. (q : ℕ) → put (λ r. kind_of_entry (st.entry r)) d IsRef q ≡ kind_of_entry (put st.entry d (Ref m) q)) z kinds) refl
          | inr z ↦ decided p lay w g b said k _ tt w g (unchanged p lay w g b said k owner t) _ (Unhide d s) rest st (put st.entry d (Ref n)) (At n)
              (put a.reg d (unhidden a s)) (reference_answer (unhidden a s)) st.at
              ((o, x.2, z), refl) refl regs holds offsets (ap reference_answer is ∙ answer_some n z known.0) known.0 kinds refl
        ]

    -- two registers hold the same word exactly where they hold the same object
    pub compares : (r s : ℕ) → Stands p lay w g b said k (before a (Same r s) rest) →
        Kept p lay w g b said k Idle true w (over a rest a.reg (if a.reg r == a.reg s then Yes else No))
    compares r s st =
        let needs = needs_now p lay w g b said k owner t a rest (Same r s) st in
        let m = is_ref (st.entry r) needs.0 in
        let n = is_ref (st.entry s) needs.1 in
        let em : a.reg r ≡ byte_at (b.address m.0) = reg_at p lay w g b said k owner t _ st r m.0 m.1 in
        let en : a.reg s ≡ byte_at (b.address n.0) = reg_at p lay w g b said k owner t _ st s n.0 n.1 in
        let sm = (known_at p lay w g b said k owner t _ st r m.0 m.1).0 in
        let sn = (known_at p lay w g b said k owner t _ st s n.0 n.1).0 in
        elim (cases_eq m.0 n.0) [
          | inl e ↦ decided p lay w g b said k _ tt w g (unchanged p lay w g b said k owner t) _ (Same r s) rest st st.entry Yes a.reg
              (if a.reg r == a.reg s then Yes else No) st.at
              ((n.0, m.1 ∙ ap Ref e, n.1), refl) refl st.regs st.known st.offsets
              (cond-true _ _ _ (eq-eqb (a.reg r) (a.reg s) (em ∙ ap (λ i. byte_at (b.address i)) e ∙ sym en))) tt (λ q. refl) refl
          | inr e ↦ decided p lay w g b said k _ tt w g (unchanged p lay w g b said k owner t) _ (Same r s) rest st st.entry No a.reg
              (if a.reg r == a.reg s then Yes else No) st.at
              ((m.0, n.0, m.1, n.1, e), refl) refl st.regs st.known st.offsets
              (cond-false _ _ _ (ne_eqb (a.reg r) (a.reg s)
              (λ q. e (same_object p lay w g b said k owner t m.0 n.0 (b.address m.0) sm sn (le_refl _) (omega arith) (omega arith) (omega arith))))) tt
              (λ q. refl) refl
        ]
