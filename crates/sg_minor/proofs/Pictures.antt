-- The words after the round and the sweep are the picture of those before the pause.
use Rattle.std.proofs.Common.{◌≡◌, ◌≢◌, ℕ, ◌+◌, ◌≤◌, ◌<◌, cond, Bool, true, false, List, ◌++◌, sym, refl, ap, ◌∙◌, subst, inl, inr, arith, le_refl}
use Rattle.sg_program.specs.declared.program.Program.{Program}
use Rattle.sg_graph.specs.Graph.{Graph}
use Rattle.sg_graph.specs.Book.{Book, Old, nursery_end, old_end, IsWordOf}
use Rattle.sg_words.specs.Sections.{globals_base}
use Rattle.sg_graph.specs.Heap.{Owner, layout_of, IsHeap}
use Rattle.sg_round.specs.Area.{IsYoung, is_strong, Traces}
use Rattle.sg_words.specs.Lists.{In, has}
use Rattle.sg_words.specs.Objects.{size_of, sent}
use Rattle.sg_round.specs.Image.{IsImage}
use Rattle.sg_words.proofs.Members.{in-left, in-right, in-cases, out}
use Rattle.sg_words.specs.Blocks.{slot_size}
use Rattle.sg_words.proofs.Blocks.{slot_size-holds, slot_fits}
use Rattle.sg_minor.specs.Joined.{ArePins, IsHome, IsUncopied, IsPictured, IsPicture, HasSwept}
use Rattle.sg_nursery.specs.Parts.{HasTagged}
use Rattle.sg_minor.proofs.Areas.{area_for}
use Rattle.sg_minor.proofs.Named.{field_refers, length, strong-of, pin-named, in-nursery, in-old, nursery, inner, outer, inner-field, strong, size-at}
use Rattle.sg_minor.proofs.Starts.{IsStart, AtGlobal, AtField, AreStarts}
use Rattle.sg_minor.proofs.Opens.{named, traced-young}
use Rattle.sg_minor.proofs.Keeps.{pin-tag, pin-stays, fail-loose}
use Rattle.sg_minor.proofs.Quiet.{quiet-behind, start-sent, same-word, length-word, first-word, field-word}

module _ (p : Program) (w : ℕ → ℕ) (g : Graph) (b : Book) (owner : ℕ → Owner) (t : IsHeap p w g b owner) (ambiguous pins : List ℕ)
    (ps : ArePins g b ambiguous pins)
    (w1 : ℕ → ℕ) (tg : HasTagged w pins w1) (items : List ℕ) (sd : AreStarts p w g b pins items)
    (moves fails : List ℕ) (m round : ℕ → ℕ) (cp : IsImage (area_for p) w1 items (λ _. true) moves fails m round (λ _. false))
    (v : ℕ → ℕ) (sw : HasSwept (area_for p) w (pins ++ fails) round v) (homes : (a : ℕ) → In a moves → IsHome p w g b m a) where
  name-of : (a : ℕ) → Traces (area_for p) w1 items a → (n : ℕ) × (n ≢ 0) × (b.stands n ≡ true) × (b.address n ≡ a)
  name-of = named p w g b owner t ambiguous pins ps w1 tg items sd

  young-of : (a : ℕ) → Traces (area_for p) w1 items a → IsYoung (area_for p) a
  young-of = traced-young p w g b owner t ambiguous pins ps w1 tg items sd

  size-back : (a n : ℕ) → b.stands n ≡ true → n ≢ 0 → b.address n ≡ a → w1 (a + 1) ≡ w (a + 1)
  size-back a n s d e = size-at p w g b owner t ambiguous pins ps w1 tg a n s d e ∙ sym (length p w g b owner t n s d) ∙ ap (λ (z : ℕ). w (z + 1)) e

  moved-size : (a : ℕ) → In a moves → size_of w1 a ≡ size_of w a
  moved-size a h = let n = name-of a (cp.moved a h).0 in ap (λ (z : ℕ). z + 2) (size-back a n.0 n.2 n.1 n.3)

  -- a word of a copy is one of the major heap, and no object's before
  copy-in : (a i : ℕ) → In a moves → i < size_of w1 a → (nursery_end p ≤ m a + i) × (m a + i < old_end p) × ((n : ℕ) → IsWordOf g b n (m a + i) → ⊥)
  copy-in a i h l =
      let q = homes a h in
      let size = moved-size a h in
      let holds = slot_size-holds (size_of w a) q.small in
      let fit = slot_fits (slot_size (size_of w a)) q.slot q.fits in
      let there = q.there in
      let at = q.at in
      (omega arith, omega arith, λ n k. q.empty n (m a + i) k (omega arith) (omega arith))

  -- no copy has a word of the nursery, of an old object, or behind the blocks
  young-uncopied : (x : ℕ) → x < nursery_end p → IsUncopied w1 moves m x
  young-uncopied x l a i h k e = let q = (copy-in a i h k).0 in omega arith

  behind-uncopied : (x : ℕ) → old_end p ≤ x → IsUncopied w1 moves m x
  behind-uncopied x l a i h k e = let q = (copy-in a i h k).1 in omega arith

  old-uncopied : (n x : ℕ) → IsWordOf g b n x → IsUncopied w1 moves m x
  old-uncopied n x o a i h k e = (copy-in a i h k).2 n (subst (IsWordOf g b n) e o)

  -- a field, from the tagged words to those before
  field-back : (a n i x : ℕ) → b.stands n ≡ true → n ≢ 0 → b.address n ≡ a → i < w (a + 1) → x ≡ cond (is_strong (area_for p) w1 a i) (sent m (w1 (a + 2 + i)))
      (w1 (a + 2 + i)) →
      x ≡ cond (is_strong (area_for p) w a i) (sent m (w (a + 2 + i))) (w (a + 2 + i))
  field-back a n i x s d e l q =
      let z = length p w g b owner t n s d in let ze : w (b.address n + 1) ≡ w (a + 1) = ap (λ (z : ℕ). w (z + 1)) e in
      let wd : w1 (a + 2 + i) ≡ w (a + 2 + i) = ap (λ (z : ℕ). w1 (z + 2 + i)) (sym e) ∙ inner-field p w g b owner t ambiguous pins ps w1 tg n i s (omega arith)
      ∙ ap (λ (z : ℕ). w (z + 2 + i)) e in
      let st : is_strong (area_for p) w1 a i ≡ is_strong (area_for p) w a i =
      ap (λ (z : ℕ). is_strong (area_for p) w1 z i) (sym e) ∙ strong p w g b owner t ambiguous pins ps w1 tg n i s d ∙ sym (strong-of p w g b owner t n i s d) ∙
      ap (λ (z : ℕ). is_strong (area_for p) w z i) e in
      q ∙ ap (λ (z : ℕ). cond (is_strong (area_for p) w1 a i) (sent m z) z) wd ∙ ap (λ (z : Bool). cond z (sent m (w (a + 2 + i))) (w (a + 2 + i))) st

  -- a field by its name, from the graph's sorts to those of the words
  field-named : (a n i x : ℕ) → b.stands n ≡ true → n ≢ 0 → b.address n ≡ a → x ≡ cond (field_refers p g n i) (sent m (w (b.address n + 2 + i)))
      (w (b.address n + 2 + i)) →
      x ≡ cond (is_strong (area_for p) w a i) (sent m (w (a + 2 + i))) (w (a + 2 + i))
  field-named a n i x s d e q =
      q ∙ ap (λ (z : Bool). cond z (sent m (w (b.address n + 2 + i))) (w (b.address n + 2 + i))) (sym (strong-of p w g b owner t n i s d))
      ∙ ap (λ (z : ℕ). cond (is_strong (area_for p) w z i) (sent m (w (z + 2 + i))) (w (z + 2 + i))) e

  pin-fails : (a : ℕ) → In a pins → has a fails ≡ false
  pin-fails a i = out a fails (λ k. (let f = (cp.failed a k).1 in
      pin-tag p w g b owner t ambiguous pins ps w1 tg items sd moves fails m round cp a f.0 i f.1))

  by-pin : (a : ℕ) → In a pins → IsPictured (area_for p) w v m a
  by-pin a i =
      let n = pin-named p w g b owner t ambiguous pins ps a i in
      let e = n.4 in
      let y = in-nursery p w g b owner t n.0 n.2 n.1 n.3 in let y1 = y.1 in
      let h : In a (pins ++ fails) = in-left a pins fails i in
      let nm = pin-stays p w g b owner t ambiguous pins ps w1 tg items sd moves fails m round cp a i in
      let nm' = subst (λ (z : ℕ). has z moves ≡ false) (sym e) nm in
      let nf' = subst (λ (z : ℕ). has z fails ≡ false) (sym e) (pin-fails a i) in
      let me = cp.others a nm in
      let ln = length p w g b owner t n.0 n.2 n.1 in let le : w (b.address n.0 + 1) ≡ w (a + 1) = ap (λ (z : ℕ). w (z + 1)) e in
      record {
        first = ap v me ∙ (let u = sw.untagged a h in let tag = tg.tagged a i in
            let r0 : round a ≡ w1 a = ap round (sym e) ∙ first-word p w g b owner t ambiguous pins ps w1 tg items sd moves fails m round cp n.0 n.2 n.1 nm' nf'
            (young-uncopied _ (omega arith)) ∙ ap w1 e in
            omega arith);
        length = ap (λ (z : ℕ). v (z + 1)) me ∙ sw.kept a (a + 1) h (omega arith) (omega arith) ∙ ap (λ (z : ℕ). round (z + 1)) (sym e)
            ∙ length-word p w g b owner t ambiguous pins ps w1 tg items sd moves fails m round cp n.0 n.2 n.1 (young-uncopied _ (omega arith)) ∙ ap
            (λ (z : ℕ). w1 (z + 1)) e ∙ size-back a n.0 n.2 n.1 e;
        fields = λ j l. field-named a n.0 j (v (m a + 2 + j)) n.2 n.1 e
            (ap (λ (z : ℕ). v (z + 2 + j)) me ∙ sw.kept a (a + 2 + j) h (omega arith) (omega arith) ∙ ap (λ (z : ℕ). round (z + 2 + j)) (sym e)
            ∙ field-word p w g b owner t ambiguous pins ps w1 tg items sd moves fails m round cp n.0 j n.2 n.1 (omega arith) nm' nf'
            (inr (subst (λ (z : ℕ). In z pins) (sym e) i)) (young-uncopied _ (omega arith)));
      }

  by-fail : (a : ℕ) → In a fails → IsPictured (area_for p) w v m a
  by-fail a i =
      let fl = cp.failed a i in
      let n = name-of a fl.0 in
      let e = n.3 in
      let y = nursery p w g b owner t n.0 n.2 (subst (IsYoung (area_for p)) (sym e) (young-of a fl.0)) in let y1 = y.1 in
      let h : In a (pins ++ fails) = in-right a pins fails i in
      let nt : w1 a ≡ w a = tg.same a (fail-loose p w g b owner t ambiguous pins ps w1 tg items sd moves fails m round cp a i) in
      let me = cp.others a fl.2 in
      let ln = length p w g b owner t n.0 n.2 n.1 in let le : w (b.address n.0 + 1) ≡ w (a + 1) = ap (λ (z : ℕ). w (z + 1)) e in
      record {
        first = ap v me ∙ (let u = sw.untagged a h in let z = cp.pinned a i in omega arith);
        length = ap (λ (z : ℕ). v (z + 1)) me ∙ sw.kept a (a + 1) h (omega arith) (omega arith) ∙ ap (λ (z : ℕ). round (z + 1)) (sym e)
            ∙ length-word p w g b owner t ambiguous pins ps w1 tg items sd moves fails m round cp n.0 n.2 n.1 (young-uncopied _ (omega arith)) ∙ ap
            (λ (z : ℕ). w1 (z + 1)) e ∙ size-back a n.0 n.2 n.1 e;
        fields = λ j l. field-back a n.0 j (v (m a + 2 + j)) n.2 n.1 e l
            (ap (λ (z : ℕ). v (z + 2 + j)) me ∙ sw.kept a (a + 2 + j) h (omega arith) (omega arith) ∙ ap (λ (z : ℕ). round (z + 2 + j)) (sym me)
            ∙ cp.fields a j (inr i) (let z = size-back a n.0 n.2 n.1 e in omega arith));
      }

  stayed : (a : ℕ) → In a (pins ++ fails) → IsPictured (area_for p) w v m a
  stayed a h = elim (in-cases a pins fails h) [
    | inl i ↦ by-pin a i
    | inr i ↦ by-fail a i
  ]

  moved : (a : ℕ) → In a moves → IsPictured (area_for p) w v m a
  moved a h =
      let mv = cp.moved a h in
      let n = name-of a mv.0 in let e = n.3 in
      let at0 = (copy-in a 0 h (omega arith)).0 in
      let sb = size-back a n.0 n.2 n.1 e in
      let nt : w1 a ≡ w a = tg.same a (out a pins (λ i. pin-tag p w g b owner t ambiguous pins ps w1 tg items sd moves fails m round cp a mv.1.0 i mv.1.1)) in
      record {
        first = sw.others (m a) (λ y. (let z = y.1 in absurd (omega arith))) ∙ cp.first a h ∙ nt;
        length = sw.others (m a + 1) (λ y. (let z = y.1 in absurd (omega arith))) ∙ cp.length a h ∙ sb;
        fields = λ j l. field-back a n.0 j (v (m a + 2 + j)) n.2 n.1 e l
            (sw.others (m a + 2 + j) (λ y. (let z = y.1 in absurd (omega arith))) ∙ cp.fields a j (inl h) (omega arith));
      }

  old : (n : ℕ) → n ≢ 0 → b.stands n ≡ true → b.section n ≡ Old → IsPictured (area_for p) w v m (b.address n)
  old n d s o =
      let i = in-old p w g b owner t n s d o in let i0 = i.0 in let i1 = i.1 in
      let nm : has (b.address n) moves ≡ false = out (b.address n) moves
      (λ h. (let y = (young-of (b.address n) (cp.moved (b.address n) h).0).1 in absurd (omega arith))) in
      let nf : has (b.address n) fails ≡ false = out (b.address n) fails
      (λ h. (let y = (young-of (b.address n) (cp.failed (b.address n) h).0).1 in absurd (omega arith))) in
      let me = cp.others (b.address n) nm in
      let ln = length p w g b owner t n s d in
      let mine = λ (x : ℕ) (l : b.address n ≤ x) (u : x < b.address n + (g.size n + 2)). old-uncopied n x
      (record { some = omega (arith, d); stands = s; above = l; below = u }) in
      record {
        first = ap v me ∙ sw.others (b.address n) (λ y. (let z = y.1 in absurd (omega arith)))
            ∙ first-word p w g b owner t ambiguous pins ps w1 tg items sd moves fails m round cp n s d nm nf (mine (b.address n) (omega arith) (omega arith))
            ∙ outer p w g b owner t ambiguous pins ps w1 tg (b.address n) (λ y. (let z = y.1 in absurd (omega arith)));
        length = ap (λ (z : ℕ). v (z + 1)) me ∙ sw.others (b.address n + 1) (λ y. (let z = y.1 in absurd (omega arith)))
            ∙ length-word p w g b owner t ambiguous pins ps w1 tg items sd moves fails m round cp n s d (mine (b.address n + 1) (omega arith) (omega arith)) ∙
            inner p w g b owner t ambiguous pins ps w1 tg n 1 s (le_refl _) (omega arith);
        fields = λ j l. field-named (b.address n) n j (v (m (b.address n) + 2 + j)) s d refl
            (ap (λ (z : ℕ). v (z + 2 + j)) me ∙ sw.others (b.address n + 2 + j) (λ y. (let z = y.1 in absurd (omega arith)))
            ∙ field-word p w g b owner t ambiguous pins ps w1 tg items sd moves fails m round cp n j s d (omega arith) nm nf (inl o)
            (mine (b.address n + 2 + j) (omega arith) (omega arith)));
      }

  globals : (x : ℕ) → x < 64 → v (globals_base (layout_of p) + x) ≡ sent m (w (globals_base (layout_of p) + x))
  globals x l =
      sw.others (globals_base (layout_of p) + x) (λ y. (let z = y.1 in absurd (omega arith)))
      ∙ start-sent p w g b owner t ambiguous pins ps w1 tg items sd moves fails m round cp (globals_base (layout_of p) + x) (AtGlobal x l refl)
      (behind-uncopied (globals_base (layout_of p) + x) (omega arith))
      (quiet-behind p w g b owner t ambiguous pins ps w1 tg items sd moves fails m round cp (globals_base (layout_of p) + x) (omega arith))

  no-start : (x : ℕ) → ((j : ℕ) → j < 64 → x ≢ globals_base (layout_of p) + j) → ((n : ℕ) → IsWordOf g b n x → ⊥) → IsStart p g b pins x → ⊥
  no-start x n none (AtGlobal j k e) = n j k e
  no-start x n none (AtField k i d st o u e q) = none k (record
      { some = omega (arith, d); stands = st; above = let z = q in omega arith; below = let z = q in omega arith })

  -- words behind the nursery that are no globals, no old object's and no copy's
  same : (x : ℕ) → nursery_end p ≤ x → ((j : ℕ) → j < 64 → x ≢ globals_base (layout_of p) + j) → ((n : ℕ) → IsWordOf g b n x → ⊥) → IsUncopied w moves m x → v x
      ≡ w x
  same x l n none run =
      sw.others x (λ y. (let z = y.1 in absurd (omega arith)))
      ∙ same-word p w g b owner t ambiguous pins ps w1 tg items sd moves fails m round cp x (no-start x n none)
      (λ a i h k. run a i h (let size = moved-size a h in omega arith))
      (quiet-behind p w g b owner t ambiguous pins ps w1 tg items sd moves fails m round cp x l)
      ∙ outer p w g b owner t ambiguous pins ps w1 tg x (λ y. (let z = y.1 in absurd (omega arith)))

  pub picture : IsPicture p (area_for p) w g b (pins ++ fails) moves m v
  picture = record {
    homes = homes;
    apart = λ a c i j ha hc li lj e. cp.apart a c i j ha hc (let size = moved-size a ha in omega arith) (let size = moved-size c hc in omega arith) e;
    others = cp.others;
    stayed = stayed;
    moved = moved;
    old = old;
    globals = globals;
    swept = sw.swept;
    same = same;
  }
