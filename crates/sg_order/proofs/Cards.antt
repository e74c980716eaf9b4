-- Each rule by which a mutator goes on keeps the relation: the store of a reference into a slot that has a card, and the mark of the card.
use Rattle.std.proofs.Common.{◌≡◌, ℕ, ◌+◌, ◌⊎◌, true, false, List, [], ◌∷◌, ◌++◌, inl, inr, sym, refl, ap, ◌∙◌, subst, ap₂, arith}
use Rattle.std.proofs.lemmas.Bool.{cases_eq}
use Rattle.sg_words.specs.declared.steps.Place.TheVariants.{Word, Card}
use Rattle.sg_words.specs.Words.{put, Words, write}
use Rattle.sg_words.specs.Blocks.{card_of, HasCard}
use Rattle.sg_program.specs.declared.program.Statement.{Statement}
use Rattle.sg_program.specs.declared.program.Statement.TheVariants.{Put}
use Rattle.sg_program.specs.declared.program.Program.{Program}
use Rattle.sg_program.specs.declared.answers.Answer.{Answer}
use Rattle.sg_program.specs.declared.answers.Answer.TheVariants.{Fine}
use Rattle.sg_program.specs.Tests.{Test}
use Rattle.sg_program.specs.Scripts.{kind_of}
use Rattle.sg_desc.specs.Shapes.{Reference, holds_reference}
use Rattle.sg_graph.specs.Graph.{Entry, Ref, Graph, stored}
use Rattle.sg_graph.specs.Statements.{name_in}
use Rattle.sg_graph.specs.Book.{Book, word_of}
use Rattle.sg_graph.specs.Heap.{Owner, IsKnownEntry, IsOfSort}
use Rattle.sg_rules.specs.Rules.{Constants, Access, MarkCard, Actor, within, over, object_in, sections_of}
use Rattle.sg_rules.specs.Sane.{IsCard}
use Rattle.sg_words.proofs.Puts.{put-at, put-other}
use Rattle.sg_order.proofs.Frame.{answers_push, given_push}
use Rattle.sg_order.proofs.Relation.{Ground, Stands, IsNeeded, Marks, Kept}
use Rattle.sg_order.proofs.Moves.{handed, no_heads, ground_aside, later_aside, silent, turned, goes, is_after, stack_after, stack_kept, fits_after, fits_as, runnable_after, runnable_as}
use Rattle.sg_order.proofs.Loads.{is_ref, object_at, known_at}
use Rattle.sg_order.proofs.Accesses.{reference_field, tested_as, finds_as, entry_stored, needs_stored, field_stored}

-- a word that has a card has one of the cards
card_there : (p : Program) (x : ℕ) → HasCard (sections_of p) x → IsCard p (card_of (sections_of p) x)
card_there p x h = let lo = h.0 in let hi = h.1 in omega arith

module _ (p : Program) (lay : Constants) (w : Words) (g : Graph) (b : Book) (said : ℕ → List Answer) (k : ℕ) (owner : ℕ → Owner)
    (t : Ground p lay w g b owner) (a : Actor) (rest : List Statement) where
  -- the deciding store of a reference into a slot that has a card: the card is marked next
  pub puts_old : (r i s : ℕ) → HasCard (sections_of p) (object_in a r + 2 + i) → Stands p lay w g b said k (within a rest (Access (Put r i s))) →
      Kept p lay w g b said k (Access (Put r i s)) true (write w (Word (object_in a r + 2 + i)) (a.reg s))
      (within a rest (MarkCard (Put r i s) (card_of (sections_of p) (object_in a r + 2 + i))))
  puts_old r i s has st =
      let test : Test = record { register = r; field = i; sort = Reference } in
      let x = tested_as p g st.entry (Put r i s) st.at.0 test refl st.at.1 in
      let n = x.name in
      let sn = (known_at p lay w g b said k owner t _ st r n x.holds).0 in
      let f = reference_field (kind_of p (g.class n)) (g.size n) i x.finds in
      let fits = fits_as p lay w g b said k st.entry (Put r i s ∷ rest) st.answers st.at.2 st.fits in
      let target = is_ref (st.entry s) fits.0.1 in
      let e : Entry = Ref target.0 in
      let ea = object_at p lay w g b said k owner t _ st r n x.holds in
      let word : a.reg s ≡ word_of b.address e = st.regs s ∙ ap (word_of b.address) target.1 in
      let kt : IsKnownEntry w.word g b e = subst (IsKnownEntry w.word g b) target.1 (st.known s) in
      let sort : IsOfSort (holds_reference (kind_of p (g.class n)) i (g.size n)) e = subst (λ q. IsOfSort q e) (sym f.1) tt in
      let next : ℕ → Actor = λ z. within a rest (MarkCard (Put r i s) (card_of (sections_of p) (z + 2 + i))) in
      let here = b.address n in
      let needs : (card : ℕ) → IsNeeded p (stored g n i e) b card → IsNeeded p g b card ⊎ Marks card (next here).mid = λ card q.
      elim (needs_stored p lay w g b said k owner t n i e sn f.0 kt sort card q) [ inl old ↦ inl old | inr own ↦ inr (sym own.2) ] in
      let ch = field_stored p lay w g b said k owner t n i e sn f.0 kt sort {after = (next here).mid} needs in
      let v = write w (Word (here + 2 + i)) (word_of b.address e) in
      let h = stored g n i e in
      let known = entry_stored p lay w g b said k owner t n i e sn f.0 kt sort in
      subst (λ z. Kept p lay w g b said k (Access (Put r i s)) true (write w (Word (z + 2 + i)) (a.reg s)) (next z)) (sym ea)
      (subst (λ z. Kept p lay w g b said k (Access (Put r i s)) true (write w (Word (here + 2 + i)) z) (next here)) (sym word)
      (turned p lay w g b said k (Access (Put r i s)) tt v h b (next here) ch
      (no_heads w g b (Access (Put r i s)) v h b (next here).mid (λ n q. q) tt)
      (Put r i s) rest st.entry st.answers st.entry (g.mutator k).stack Fine st.at.2 (
        (n, target.0, finds_as p g (g.mutator k) st.entry (Put r i s ∷ rest) (Put r i s) test x, target.1),
        ap₂ (λ o e. handed (stored g (name_in o) i e) k rest st.entry) (sym x.holds) (sym target.1),
      ) refl (record {
        entry = st.entry;
        answers = st.answers;
        regs = st.regs;
        known = λ q. known (st.entry q) (st.known q);
        offsets = st.offsets;
        stack = stack_after p lay w g b said k v h b rest st.entry a.stack (g.mutator k).stack (stack_kept p lay w g b said k v h b ch a.stack st.stack);
        told = st.told;
        given = st.given;
        from_is = st.from_is;
        to_is = st.to_is;
        at = (
          card_there p (here + 2 + i) (subst (λ z. HasCard (sections_of p) (z + 2 + i)) ea has),
          is_after p lay w g b said k h rest st.entry (g.mutator k).stack st.answers Fine st.at.2.says
              (goes g said k st.entry (Put r i s) rest st.answers st.at.2),
        );
        fits = fits_after p lay w g b said k h rest st.entry (g.mutator k).stack fits.1;
        runnable = runnable_after p lay w g b said k h rest st.entry (g.mutator k).stack
            (runnable_as p lay w g b said k st.entry (Put r i s ∷ rest) st.answers st.at.2 st.runnable).1;
      })))

  -- the mark of the card, with which the statement ends
  pub marks : (s : Statement) (card : ℕ) → Stands p lay w g b said k (within a rest (MarkCard s card)) →
      Kept p lay w g b said k (MarkCard s card) false (write w (Card card) 1) (over a rest a.reg Fine)
  marks s card st = silent p lay w g b said k (MarkCard s card) (write w (Card card) 1) g b (over a rest a.reg Fine) (record {
    owner = owner;
    later = later_aside p w g b said k w.stop (put w.card card 1) (λ x e. elim (cases_eq x card) [
      | inl h ↦ put-at w.card card 1 x h
      | inr n ↦ put-other w.card card 1 x n ∙ e
    ]);
    needs = λ x q. inl q;
    ground = ground_aside p lay w g b owner w.stop (put w.card card 1) t;
    mutators = refl;
  }) refl refl (record { begun = λ n q. inl q; done = λ n q m. absurd m }) (λ x m. put-at w.card card 1 x m) (record {
    entry = st.entry;
    answers = st.answers ++ Fine ∷ [];
    regs = st.regs;
    known = st.known;
    offsets = st.offsets;
    stack = st.stack;
    told = ap (λ s. s ++ Fine ∷ []) st.told ∙ sym (answers_push b st.answers Fine);
    given = given_push b.stands st.answers Fine st.given tt;
    from_is = st.from_is;
    to_is = st.to_is;
    at = st.at.1;
    fits = st.fits;
    runnable = st.runnable;
  })
