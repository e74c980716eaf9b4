-- Each rule by which a mutator goes on keeps the relation: a new object gets its place in a buffer or in a fragment.
use Rattle.std.proofs.Common.{◌≡◌, ◌≢◌, ℕ, suc, ◌+◌, ◌-◌, ◌<◌, ◌≤◌, min, max, true, List, ◌∷◌, inl, inr, sym, refl, ap, ◌∙◌, subst, le_refl, arith}
use Rattle.std.proofs.lemmas.Bool.{cases_eq}
use Rattle.std.specs.List.{AllByRecursion}
use Rattle.sg_words.specs.Address.{byte_at}
use Rattle.sg_words.specs.declared.steps.Place.TheVariants.{Next}
use Rattle.sg_words.specs.Words.{put, Words, write}
use Rattle.sg_program.specs.declared.program.Statement.{Statement}
use Rattle.sg_program.specs.declared.program.Program.{Program}
use Rattle.sg_program.specs.declared.answers.Answer.{Answer}
use Rattle.sg_program.specs.declared.answers.Answer.TheVariants.{At}
use Rattle.sg_program.specs.Scripts.{IsMaking, MakesObject, made_class, made_fields, made_words, IsSmall}
use Rattle.sg_graph.specs.Graph.{Entry, Graph}
use Rattle.sg_graph.specs.Book.{Book, Books, Young, Old, placed, share, nursery_end, slot_words}
use Rattle.sg_graph.specs.Blocks.{IsTakenAt, AreBlocks}
use Rattle.sg_words.specs.Sections.{nursery_base}
use Rattle.sg_graph.specs.Heap.{Owner, Of, Frag, Buf}
use Rattle.sg_rules.specs.Rules.{Constants, Mid, Idle, Claim, StoreLength, Actor, before, within, owning, taken}
use Rattle.sg_rules.specs.Resting.{IsRunnable}
use Rattle.sg_words.proofs.Puts.{put-at, put-same, put-other, within_range, range-in, range-below, range-above, range-keeps}
use Rattle.sg_order.proofs.Events.{range-was}
use Rattle.sg_order.proofs.Relation.{Ground, IsMutator, Stands, IsQuiet, Kept}
use Rattle.sg_order.proofs.Moves.{runnable_as}
use Rattle.sg_order.proofs.Makes.{made_known, made_no_pair, made_sized, does_making, books_making, kinds_making, piled_making}
use Rattle.sg_order.proofs.Places.{Place, places}

module _ (p : Program) (lay : Constants) (w : Words) (g : Graph) (b : Book) (said : ℕ → List Answer) (k : ℕ) (owner : ℕ → Owner)
    (t : Ground p lay w g b owner) where
  bump_place : (m : ℕ) → 0 < m → b.from k + m ≤ b.to k →
      Place p g b k m (b.from k) b.next (put b.from k (b.from k + m)) b.to owner (within_range owner (b.from k) (b.from k + m) (Of (suc g.count)))
  bump_place m some fits =
      let x = b.from k in
      let hi = b.from k + m in
      let mine : (y : ℕ) → x ≤ y → y < hi → owner y ≡ Buf k = λ y p q. t.laid.buffers.owns k y p (omega arith) in
      record {
        free = λ y p q o e. let u = mine y p q in cc;
        new = λ y p q. range-in owner x hi _ y p q;
        old = λ o y e. range-keeps owner x hi _ (Of o) y e (λ p q. let u = mine y p q in cc);
        only = λ o y e. elim (range-was owner x hi _ (Of o) y e) [
          | inl h ↦ inl ((let e : Of o ≡ Of (suc g.count) = h.0 in cc), h.1, h.2)
          | inr e ↦ inr e
        ];
        buffers = λ j y p q. elim (cases_eq j k) [
          | inl e ↦ let u = put-at b.from k hi j e in let v : b.to j ≡ b.to k = ap b.to e in range-above owner x hi _ y (omega arith)
              ∙ t.laid.buffers.owns k y (omega arith) (omega arith) ∙ ap Buf (sym e)
          | inr o ↦ let u = put-other b.from k hi j o in let e = t.laid.buffers.owns j y (omega arith) q in range-keeps owner x hi _ (Buf j) y e
              (λ r s. let v = mine y r s in absurd (o (let z : Buf j ≡ Buf k = sym e ∙ v in cc)))
        ];
        frags = λ f y l p q. let e = t.laid.fragments.owns f y l p q in range-keeps owner x hi _ (Frag f) y e (λ r s. let v = mine y r s in cc);
        in_buffers = λ j l. elim (cases_eq j k) [
          | inl e ↦ let u = put-at b.from k hi j e in let v : b.to j ≡ b.to k = ap b.to e in let i = t.laid.buffers.inside k (omega arith) in
              (omega arith, omega arith)
          | inr o ↦ let u = put-other b.from k hi j o in let i = t.laid.buffers.inside j (omega arith) in (omega arith, i.1)
        ];
        within = λ f l. (t.laid.fragments.inside f l).1;
        rises = λ f. le_refl _;
        other_from = λ j o. put-other b.from k hi j o;
        other_to = λ j o. refl;
      }

  -- the object of a statement is small
  is_small : (s : Statement) (rest : List Statement) (entry : ℕ → Entry) (answers : List Answer) → IsMutator g said k entry (s ∷ rest) answers →
      AllByRecursion (IsRunnable p) (g.mutator k).script → IsSmall (made_words p s)
  is_small s rest entry answers m run = let l = (runnable_as p lay w g b said k entry (s ∷ rest) answers m run).0.small in omega arith

  -- a young object changes nothing in the blocks
  blocks_young : (n m x : ℕ) (next from to : ℕ → ℕ) (owner' : ℕ → Owner) → Place p g b k m x next from to owner owner' →
      AreBlocks p lay.marks w.block w.used w.word (put g.size (suc g.count) n) (put b.stands (suc g.count) true) (put b.address (suc g.count) x)
      (put b.section (suc g.count) Young) b.owed owner'
  blocks_young n m x next from to owner' pl = record {
    placed = λ o l q old. elim (cases_eq o (suc g.count)) [
      | inl e ↦ absurd (let z : Young ≡ Old = sym (put-at b.section (suc g.count) Young o e) ∙ old in cc)
      | inr d ↦
          let stood = sym (put-other b.stands (suc g.count) true o d) ∙ q in
          let h = t.blocks.placed o l stood (sym (put-other b.section (suc g.count) Young o d) ∙ old) in (
            h.0,
            h.1,
            subst (λ a. IsTakenAt p (lay.marks h.0) a (slot_words (put g.size (suc g.count) n o)) h.0 (w.block h.0) (w.used h.0))
                (sym (put-other b.address (suc g.count) x o d))
                (subst (λ z. IsTakenAt p (lay.marks h.0) (b.address o) (slot_words z) h.0 (w.block h.0) (w.used h.0))
                (sym (put-other g.size (suc g.count) n o d)) h.2),
          )
    ];
    each = λ c l. let e = t.blocks.each c l in record {
      filled = λ s i o f u. let h = e.filled s i o f u in let d = fresh h.0 h.1.standing in (
        h.0,
        record {
          some = h.1.some;
          standing = put-other b.stands (suc g.count) true h.0 d ∙ h.1.standing;
          old = put-other b.section (suc g.count) Young h.0 d ∙ h.1.old;
          at = put-other b.address (suc g.count) x h.0 d ∙ h.1.at;
          sized = ap slot_words (put-other g.size (suc g.count) n h.0 d) ∙ h.1.sized;
        },
      );
      bare = e.bare;
      owing = e.owing;
      kept = e.kept;
      unmarked = e.unmarked;
      within = e.within;
    };
    clear = λ c l y i j none clean. t.blocks.clear c l y i j (λ o e. none o (pl.old o y e)) clean;
    sized = t.blocks.sized;
  }
    where
      fresh : (m : ℕ) → b.stands m ≡ true → m ≢ suc g.count
      fresh m q e = let l = t.laid.objects.given m q in absurd (omega arith)

  -- the object of a statement has its place
  makes : (s : Statement) → IsMaking s → (x : ℕ) (next wnext from to : ℕ → ℕ) (owner' : ℕ → Owner) →
      Place p g b k (made_words p s) x next from to owner owner' → (nursery_base ≤ x) × (x + made_words p s ≤ nursery_end p) →
      ((f : ℕ) → f < b.fragments → wnext f ≡ byte_at (next f)) →
      (mid : Mid) → IsQuiet mid → (a : Actor) (rest : List Statement) (st : Stands p lay w g b said k a) →
      IsMutator g said k st.entry (s ∷ rest) st.answers →
      Books p g b k s (At (suc g.count)) (record (placed b (suc g.count) x) { next = next; from = from; to = to }) → (ax af at : ℕ) → ax ≡ x → af ≡ from k →
      at ≡ to k →
      Kept p lay w g b said k mid true (record w { next = wnext }) (within (owning a af at) rest (StoreLength s ax))
  makes s making x next wnext from to owner' pl inside nexts mid quiet a rest st m books ax af at ex ef et =
      let run = (runnable_as p lay w g b said k st.entry (s ∷ rest) st.answers m st.runnable).0 in
      let made : MakesObject s = inl making in
      places p lay w g b said k owner t (made_class s) (made_fields p s) x next wnext from to owner' pl Young (inl (refl, inside.0, inside.1))
      (λ y i j. let lo = inside.0 in let hi = inside.1 in t.laid.clear.clear y (omega arith) (omega arith) (pl.free y i j))
      w.used (blocks_young (made_fields p s) (made_words p s) x next from to owner' pl)
      (made_known p s made run) (made_sized p s made run) (made_no_pair p s made run) nexts
      mid quiet a rest s st run made refl refl m
      (does_making p g k (record (g.mutator k) { register = st.entry; script = s ∷ rest }) s rest made) books
      (kinds_making s st.entry (g.mutator k).stack (suc g.count) made) (piled_making s st.entry (g.mutator k).stack made) ax af at ex ef et

  -- the deciding load of a statement whose object fits into the buffer
  pub bumps : (a : Actor) (rest : List Statement) (s : Statement) → IsMaking s → a.from + made_words p s ≤ a.to → Stands p lay w g b said k (before a s rest) →
      Kept p lay w g b said k Idle true w (within (owning a (a.from + made_words p s) a.to) rest (StoreLength s a.from))
  bumps a rest s making l st =
      let ef : a.from ≡ b.from k = st.from_is in
      let et : a.to ≡ b.to k = st.to_is in
      let fits : b.from k + made_words p s ≤ b.to k = omega arith in
      makes s making (b.from k) b.next w.next (put b.from k (b.from k + made_words p s)) b.to _ (bump_place (made_words p s) (omega arith) fits)
      (let i = t.laid.buffers.inside k (omega arith) in (i.0, omega arith)) t.words Idle tt
      (before a s rest) rest st st.at (books_making p g b k s (suc g.count) _ making
      (is_small s rest st.entry st.answers st.at st.runnable, inl (record { room = fits; after = refl })))
      a.from (a.from + made_words p s) a.to ef (ap (λ x. x + made_words p s) ef ∙ sym (put-same b.from k _)) et

  claim_place : (f m s : ℕ) → f < b.fragments → 0 < m → m ≤ s → b.next f + s ≤ b.limit f →
      Place p g b k m (b.next f) (put b.next f (b.next f + s)) (put b.from k (b.next f + m)) (put b.to k (b.next f + s)) owner
      (within_range (within_range owner (b.next f) (b.next f + m) (Of (suc g.count))) (b.next f + m) (b.next f + s) (Buf k))
  claim_place f m s lf some l1 l2 =
      let x = b.next f in
      let mid = b.next f + m in
      let hi = b.next f + s in
      let ours : (y : ℕ) → x ≤ y → y < hi → owner y ≡ Frag f = λ y p q. t.laid.fragments.owns f y lf p (omega arith) in
      let one = within_range owner x mid (Of (suc g.count)) in
      let keeps : (o : Owner) (y : ℕ) → owner y ≡ o → (x ≤ y → y < hi → ⊥) → within_range one mid hi (Buf k) y ≡ o = λ o y e c.
      range-keeps one mid hi (Buf k) o y (range-keeps owner x mid (Of (suc g.count)) o y e (λ p q. absurd (c p (omega arith))))
      (λ p q. absurd (c (omega arith) q)) in
      record {
        free = λ y p q o e. let u = ours y p (omega arith) in cc;
        new = λ y p q. range-below one mid hi _ y q ∙ range-in owner x mid _ y p q;
        old = λ o y e. keeps (Of o) y e (λ p q. let u = ours y p q in cc);
        only = λ o y e. elim (range-was one mid hi (Buf k) (Of o) y e) [
          | inl h ↦ absurd (let e : Of o ≡ Buf k = h.0 in cc)
          | inr e ↦ elim (range-was owner x mid (Of (suc g.count)) (Of o) y e) [
            | inl h ↦ inl ((let e : Of o ≡ Of (suc g.count) = h.0 in cc), h.1, h.2)
            | inr e ↦ inr e
          ]
        ];
        buffers = λ j y p q. elim (cases_eq j k) [
          | inl e ↦ let u = put-at b.from k mid j e in let v = put-at b.to k hi j e in range-in one mid hi _ y (omega arith) (omega arith) ∙ ap Buf (sym e)
          | inr o ↦ let u = put-other b.from k mid j o in let v = put-other b.to k hi j o in let e = t.laid.buffers.owns j y (omega arith) (omega arith) in
              keeps (Buf j) y e (λ r s. let z = ours y r s in cc)
        ];
        frags = λ i y l p q. elim (cases_eq i f) [
          | inl e ↦ let u = put-at b.next f hi i e in let v : b.limit i ≡ b.limit f = ap b.limit e in
              range-above one mid hi _ y (omega arith) ∙ range-above owner x mid _ y (omega arith) ∙ t.laid.fragments.owns f y lf (omega arith) (omega arith)
              ∙ ap Frag (sym e)
          | inr o ↦ let u = put-other b.next f hi i o in let e = t.laid.fragments.owns i y l (omega arith) q in keeps (Frag i) y e
              (λ r s. let z = ours y r s in o (let zz : Frag i ≡ Frag f = sym e ∙ z in cc))
        ];
        in_buffers = λ j l. elim (cases_eq j k) [
          | inl e ↦ let u = put-at b.from k mid j e in let v = put-at b.to k hi j e in let i = t.laid.fragments.inside f lf in let lo = i.0 in let up = i.2 in
              (omega arith, omega arith)
          | inr o ↦ let u = put-other b.from k mid j o in let v = put-other b.to k hi j o in let i = t.laid.buffers.inside j (omega arith) in
              (omega arith, omega arith)
        ];
        within = λ i l. elim (cases_eq i f) [
          | inl e ↦ let u = put-at b.next f hi i e in let v : b.limit i ≡ b.limit f = ap b.limit e in omega arith
          | inr o ↦ let u = put-other b.next f hi i o in let v = (t.laid.fragments.inside i l).1 in omega arith
        ];
        rises = λ i. elim (cases_eq i f) [
          | inl e ↦ let u = put-at b.next f hi i e in let z : b.next i ≡ b.next f = ap b.next e in omega arith
          | inr o ↦ let u = put-other b.next f hi i o in omega arith
        ];
        other_from = λ j o. put-other b.from k mid j o;
        other_to = λ j o. put-other b.to k hi j o;
      }

  -- the exchange that is won, at the word of the book
  claims_at : (a : Actor) (rest : List Statement) (s : Statement) (f : ℕ) → f < b.fragments → (take : ℕ) → take ≡ share p b f (made_words p s) →
      Stands p lay w g b said k (within a rest (Claim s f (b.next f))) →
      Kept p lay w g b said k (Claim s f (b.next f)) true (write w (Next f) (byte_at (b.next f + take)))
      (within (owning a (b.next f + made_words p s) (b.next f + take)) rest (StoreLength s (b.next f)))
  claims_at a rest s f lf take es st =
      let m = made_words p s in
      let lim = t.limits f lf in
      let room : b.next f + m ≤ b.limit f = (let q = st.at.3 in omega arith) in
      let l1 : m ≤ take = omega arith in
      let l2 : b.next f + take ≤ b.limit f = omega arith in
      makes s st.at.0 (b.next f) (put b.next f (b.next f + take)) (put w.next f (byte_at (b.next f + take))) (put b.from k (b.next f + m))
      (put b.to k (b.next f + take)) _ (claim_place f m take lf (omega arith) l1 l2)
      (let i = t.laid.fragments.inside f lf in let u = i.2 in (i.0, omega arith))
      (λ j q. elim (cases_eq j f) [
        | inl e ↦ put-at w.next f _ j e ∙ sym (ap byte_at (put-at b.next f (b.next f + take) j e))
        | inr o ↦ put-other w.next f _ j o ∙ t.words j q ∙ sym (ap byte_at (put-other b.next f (b.next f + take) j o))
      ])
      (Claim s f (b.next f)) tt
      (within a rest (Claim s f (b.next f))) rest st st.at.4
      (books_making p g b k s (suc g.count) _ st.at.0 (
        is_small s rest st.entry st.answers st.at.4 st.runnable,
        inr (
          f,
          record {
            short = st.at.2.short;
            there = lf;
            room = room;
            lowest = st.at.2.below;
            after = λ i. record (placed b (suc g.count) (b.next f)) {
              next = put b.next f (b.next f + es i);
              from = put b.from k
                  (b.next f + m);
              to = put b.to k (b.next f + es i);
            };
          },
        ),
      ))
      (b.next f) (b.next f + m) (b.next f + take) refl (sym (put-same b.from k _)) (sym (put-same b.to k _))

  pub claims : (a : Actor) (rest : List Statement) (s : Statement) (f next : ℕ) → w.next f ≡ byte_at next →
      Stands p lay w g b said k (within a rest (Claim s f next)) →
      Kept p lay w g b said k (Claim s f next) true (write w (Next f) (byte_at (next + taken p lay f next (made_words p s))))
      (within (owning a (next + made_words p s) (next + taken p lay f next (made_words p s))) rest (StoreLength s next))
  claims a rest s f next e st =
      let lf : f < b.fragments = (let x = t.number in let y = st.at.1 in omega arith) in
      let wf = t.words f lf in
      let en : next ≡ b.next f = omega arith in
      let lim = t.limits f lf in
      (subst (λ x. Stands p lay w g b said k (within a rest (Claim s f x)) →
      Kept p lay w g b said k (Claim s f x) true (write w (Next f) (byte_at (x + taken p lay f x (made_words p s))))
      (within (owning a (x + made_words p s) (x + taken p lay f x (made_words p s))) rest (StoreLength s x)))
      (sym en) (claims_at a rest s f lf (taken p lay f (b.next f) (made_words p s))
      (ap (λ l. min (l - b.next f) (max (made_words p s) p.config.buffer)) (sym lim)))) st
