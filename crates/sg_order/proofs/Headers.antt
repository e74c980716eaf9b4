-- Each rule by which a mutator goes on keeps the relation: a new object gets its length and its tag.
use Rattle.std.proofs.Common.{◌≡◌, ◌≢◌, ℕ, ◌+◌, ◌<◌, ◌≤◌, true, false, List, [], ◌∷◌, ◌++◌, inl, inr, sym, refl, ap, ◌∙◌, subst, ap₂, arith}
use Rattle.std.proofs.lemmas.Bool.{cases_eq}
use Rattle.sg_words.specs.Address.{byte_at}
use Rattle.sg_words.specs.Tags.{plain_word}
use Rattle.sg_words.specs.declared.steps.Place.TheVariants.{Word}
use Rattle.sg_words.specs.Words.{put, Words, write}
use Rattle.sg_program.specs.declared.program.Statement.{Statement}
use Rattle.sg_program.specs.declared.program.Program.{Program}
use Rattle.sg_program.specs.declared.answers.Answer.{Answer}
use Rattle.sg_program.specs.declared.answers.Answer.TheVariants.{At}
use Rattle.sg_program.specs.Scripts.{made_in, made_class, made_fields}
use Rattle.sg_graph.specs.Graph.{Entry, Ref, Graph}
use Rattle.sg_graph.specs.Book.{Book, word_of}
use Rattle.sg_graph.specs.Heap.{Owner, IsHeaded, IsKnown, IsKnownEntry}
use Rattle.sg_rules.specs.Rules.{Constants, StoreLength, StoreTag, Actor, within, over}
use Rattle.sg_words.proofs.Puts.{put-at, put-same, put-other, put-all, put-along}
use Rattle.sg_order.proofs.Frame.{answers_push, given_push, entry_later, stack_later}
use Rattle.sg_order.proofs.Relation.{Ground, Stands, Kept}
use Rattle.sg_order.proofs.Moves.{offsets_put, silent}
use Rattle.sg_order.proofs.Accesses.{same_there, ground_stored, later_stored, length_off, tag_off, fields_off}

module _ (p : Program) (lay : Constants) (w : Words) (g : Graph) (b : Book) (said : ℕ → List Answer) (k : ℕ) (owner : ℕ → Owner)
    (t : Ground p lay w g b owner) where
  -- the store of a new object's length
  pub writes_length : (a : Actor) (rest : List Statement) (s : Statement) (x : ℕ) → Stands p lay w g b said k (within a rest (StoreLength s x)) →
      Kept p lay w g b said k (StoreLength s x) false (write w (Word (x + 1)) (made_fields p s)) (within a rest (StoreTag s x))
  writes_length a rest s x st =
      let m = st.at in
      let new = m.name in
      let at = m.address in
      let size = m.size in
      let val = made_fields p s in
      let from : b.address new ≤ x + 1 = omega arith in
      let to : x + 1 < b.address new + (g.size new + 2) = omega arith in
      let there = same_there p lay w g b said k owner t new (x + 1) val m.stands from to in
      let length : (o : ℕ) → b.stands o ≡ true → w.word (b.address o + 1) ≡ g.size o →
      put w.word (x + 1) val (b.address o + 1) ≡ g.size o = λ o q e. elim (cases_eq (b.address o + 1) (x + 1)) [
        | inl z ↦ put-at w.word (x + 1) val (b.address o + 1) z ∙ sym size ∙ ap g.size (sym (there o (b.address o + 1) q (omega arith) (omega arith) z))
        | inr z ↦ put-other w.word (x + 1) val (b.address o + 1) z ∙ e
      ] in
      let known : (o : ℕ) → IsKnown w.word g b o → IsKnown (put w.word (x + 1) val) g b o = λ o q. (
        q.0,
        elim q.1 [
          | inl z ↦ inl z
          | inr h ↦ inr (tag_off p lay w g b said k owner t new (x + 1) val m.stands from to (omega arith) o q.0 ∙ h.0, length o q.0 h.1)
        ],
      ) in
      let entry : (e : Entry) → IsKnownEntry w.word g b e →
      IsKnownEntry (put w.word (x + 1) val) g b e = λ e. entry_later w g b (write w (Word (x + 1)) val) g b e known in
      silent p lay w g b said k (StoreLength s x) (write w (Word (x + 1)) val) g b (within a rest (StoreTag s x)) (record {
        owner = owner;
        later = later_stored p lay w g b said k owner t new (x + 1) val m.stands from to g.field known length;
        ground = ground_stored p lay w g b said k owner t new (x + 1) val m.stands from to g.field known
            (fields_off p lay w g b said k owner t new (x + 1) val m.stands from to (omega arith))
            (λ o i q l. entry (g.field o i) (t.laid.fields.known o i q l)) t.laid.fields.sorted;
        needs = λ o q. inl q;
        mutators = refl;
      }) refl refl (record { begun = λ o q. inl q; done = λ o q e. inr e }) (λ o m. absurd m) (record {
        entry = st.entry;
        answers = st.answers;
        regs = st.regs;
        known = λ q. entry (st.entry q) (st.known q);
        offsets = st.offsets;
        stack = stack_later w g b (write w (Word (x + 1)) val) g b known (λ o q. q) (λ o q. refl) (λ o q. refl) a.stack (g.mutator k).stack st.stack;
        told = st.told;
        given = st.given;
        from_is = st.from_is;
        to_is = st.to_is;
        at = (
          record { name = new; some = m.some; stands = m.stands; address = at; size = size; class_is = m.class_is; heading = m.heading; ahead = m.ahead },
          put-same w.word
              (x + 1) val,
        );
        fits = st.fits;
        runnable = st.runnable;
      })

  -- the store of a new object's tag, with which the statement ends
  pub writes_tag : (a : Actor) (rest : List Statement) (s : Statement) (x : ℕ) → Stands p lay w g b said k (within a rest (StoreTag s x)) →
      Kept p lay w g b said k (StoreTag s x) false (write w (Word x) (plain_word (made_class s)))
      (over a rest (put a.reg (made_in s) (byte_at x)) (At (byte_at x)))
  writes_tag a rest s x st =
      let m = st.at.0 in
      let new = m.name in
      let at = m.address in
      let size = m.size in
      let val = plain_word (made_class s) in
      let from : b.address new ≤ x = omega arith in
      let to : x < b.address new + (g.size new + 2) = omega arith in
      let there = same_there p lay w g b said k owner t new x val m.stands from to in
      let off : x ≢ b.address new + 1 = λ e. absurd (omega arith) in
      let tag : (o : ℕ) → b.stands o ≡ true → w.word (b.address o) ≡ plain_word (g.class o) →
      put w.word x val (b.address o) ≡ plain_word (g.class o) = λ o q e. elim (cases_eq (b.address o) x) [
        | inl z ↦ put-at w.word x val (b.address o) z ∙ ap plain_word (sym m.class_is) ∙ ap (λ i. plain_word (g.class i))
            (sym (there o (b.address o) q (omega arith) (omega arith) z))
        | inr z ↦ put-other w.word x val (b.address o) z ∙ e
      ] in
      let known : (o : ℕ) → IsKnown w.word g b o → IsKnown (put w.word x val) g b o = λ o q. (
        q.0,
        elim q.1 [
          | inl z ↦ inl z
          | inr h ↦ inr (tag o q.0 h.0, length_off p lay w g b said k owner t new x val m.stands from to off o q.0 ∙ h.1)
        ],
      ) in
      let head_new : IsHeaded (put w.word x val) g b new = (
        put-at w.word x val (b.address new) at ∙ ap plain_word (sym m.class_is),
        length_off p lay w g b said k owner t new x val m.stands from to off new m.stands ∙ ap (λ y. w.word (y + 1)) at ∙ st.at.1 ∙ sym size,
      ) in
      let known_new : IsKnown (put w.word x val) g b new = (m.stands, inr head_new) in
      let entry : (e : Entry) → IsKnownEntry w.word g b e → IsKnownEntry (put w.word x val) g b e = λ e. entry_later w g b (write w (Word x) val) g b e known in
      silent p lay w g b said k (StoreTag s x) (write w (Word x) val) g b (over a rest (put a.reg (made_in s) (byte_at x)) (At (byte_at x))) (record {
        owner = owner;
        later = later_stored p lay w g b said k owner t new x val m.stands from to g.field known
            (λ o q e. length_off p lay w g b said k owner t new x val m.stands from to off o q ∙ e);
        ground = ground_stored p lay w g b said k owner t new x val m.stands from to g.field known
            (fields_off p lay w g b said k owner t new x val m.stands from to (omega arith))
            (λ o i q l. entry (g.field o i) (t.laid.fields.known o i q l)) t.laid.fields.sorted;
        needs = λ o q. inl q;
        mutators = refl;
      }) refl refl (record {
        begun = λ o q. inl q;
        done = λ o q e. inl (subst (λ i. IsHeaded (put w.word x val) g b i) (sym (there o (b.address o) q (omega arith) (omega arith) e)) head_new);
      }) (λ o m. absurd m) (record {
        entry = put st.entry (made_in s) (Ref new);
        answers = st.answers ++ At new ∷ [];
        regs = put-along (word_of b.address) a.reg st.entry (made_in s) (byte_at x) (Ref new) st.regs (ap byte_at (sym at));
        known = put-all (λ _ e. IsKnownEntry (put w.word x val) g b e) st.entry (made_in s) (Ref new) known_new (λ j _. entry (st.entry j) (st.known j));
        offsets = offsets_put g b a.offset st.entry (made_in s) (Ref new) (λ o. m.stands) st.offsets;
        stack = stack_later w g b (write w (Word x) val) g b known (λ o q. q) (λ o q. refl) (λ o q. refl) a.stack (g.mutator k).stack st.stack;
        told = ap₂ (λ s y. s ++ At (byte_at y) ∷ []) st.told (sym at) ∙ sym (answers_push b st.answers (At new));
        given = given_push b.stands st.answers (At new) st.given m.stands;
        from_is = st.from_is;
        to_is = st.to_is;
        at = m.ahead;
        fits = st.fits;
        runnable = st.runnable;
      })
