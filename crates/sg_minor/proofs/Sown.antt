-- The strong fields of old objects that refer to young ones, and their cards.
use Rattle.std.proofs.Common.{◌≡◌, ◌≢◌, ℕ, ◌+◌, ◌<◌, Option, true, sym, ap, ◌∙◌, arith, slice_get, slice_index}
use Rattle.std.proofs.lemmas.Option.{same_Some}
use Rattle.sg_words.specs.Address.{byte_at}
use Rattle.sg_words.specs.Blocks.{card_of}
use Rattle.sg_words.specs.Sections.{IsYoung}
use Rattle.sg_words.specs.Tags.{plain_word}
use Rattle.sg_desc.specs.declared.shapes.Shape.{Shape}
use Rattle.sg_desc.specs.Shapes.{is_strong, strong_holds}
use Rattle.sg_program.specs.declared.program.Program.{Program}
use Rattle.sg_program.specs.Scripts.{shape_of, kind_of}
use Rattle.sg_graph.specs.Graph.{Graph}
use Rattle.sg_graph.specs.Book.{Book, Old}
use Rattle.sg_graph.specs.Blocks.{AreSettled}
use Rattle.sg_graph.specs.Heap.{Owner, IsHeap}
use Rattle.sg_space.specs.Space.{Contents, IsContents, words_of}
use Rattle.sg_space.specs.Standing.{word, IsSoundBy}
use Rattle.sg_cards.specs.Seeds.{IsSeedAt, AreCarded}
use Rattle.sg_heap.specs.Fronts.{fronts, IsFronted}
use Rattle.sg_heap.specs.Holding.{IsSpaceOf, HoldsHeap}
use Rattle.sg_heap.specs.Laws.{FrontLaw}
use Rattle.sg_minor.specs.Laws.{IsSoundHeap}

module _ (p : Program) (s : Contents) (g : Graph) (b : Book) (is : IsSpaceOf p s b) (owner : ℕ → Owner) (heap : IsHeap p (word s) g b owner)
    (front : IsFronted p s g b owner) where
  -- a strong field of an old object that refers to a young one
  pub record IsSown (x : ℕ) : Type 0 where
    pub name : ℕ
    pub field : ℕ
    pub some : name ≢ 0
    pub stands : b.stands name ≡ true
    pub old : b.section name ≡ Old
    pub within : field < g.size name
    pub strong : is_strong (kind_of p (g.class name)) field (g.size name) ≡ true
    pub at : x ≡ b.address name + 2 + field

  pub sown : (o : ℕ → Option ℕ) → IsSoundBy s o → (x : ℕ) → IsSeedAt s o x → IsSown x
  sown o sound x seed =
      let f = seed.field in
      let q = front.old_front o sound f.front f.stands f.old in
      let n = q.0 in
      let some = q.1.some in
      let stands = q.1.stands in
      let at = q.1.at in
      let length : word s (f.front + 1) ≡ g.size n = ap (λ z. word s (z + 1)) (sym at) ∙ front.length_is n some stands in
      let tag = f.tag in
      let first : word s f.front ≡ plain_word (g.class n) = ap (word s) (sym at) ∙ front.class_is n some stands in
      let class : f.class ≡ g.class n = omega arith in
      let shape : f.shape ≡ shape_of p (g.class n) =
      same_Some _ _ (sym f.shape_is ∙ ap (λ c. slice_get s.shapes c) class ∙ front.shape_is n some stands) in
      let within = f.within in
      let x_is = f.at in
      record {
        name = n;
        field = f.field;
        some = some;
        stands = stands;
        old = q.2;
        within = omega arith;
        strong = ap (λ (z : ℕ). is_strong (kind_of p (g.class n)) f.field z) (sym length) ∙ ap
            (λ (z : Shape). is_strong z.kind f.field (word s (f.front + 1))) (sym shape) ∙ f.strong;
        at = omega arith;
      }

  pub seeded : (x : ℕ) → IsSown x → ((y : ℕ) × (word s x ≡ byte_at y) × IsYoung s.layout y) → IsSeedAt s (fronts b.address owner) x
  seeded x q young =
      let place = front.old_inside q.name q.some q.stands q.old in
      let from = place.0 in
      let nursery = front.nursery_is in
      let length = front.length_is q.name q.some q.stands in
      let within = q.within in
      record {
        field = record {
          front = b.address q.name;
          field = q.field;
          class = g.class q.name;
          shape = shape_of p (g.class q.name);
          stands = front.is_owned q.name (b.address q.name) q.some (front.owns_first q.name q.stands);
          old = omega arith;
          at = q.at;
          within = omega arith;
          shape_is = front.shape_is q.name q.some q.stands;
          tag = front.class_is q.name q.some q.stands;
          strong = ap (λ (z : ℕ). is_strong (kind_of p (g.class q.name)) q.field z) length ∙ q.strong;
        };
        young = young;
      }

  pub carded : AreSettled p (words_of s) g b owner → AreCarded s
  carded settled o sound x seed =
      let q = sown o sound x seed in
      let r = front.reference q.name q.field q.stands q.within (strong_holds (kind_of p (g.class q.name)) q.field (g.size q.name) q.strong) in
      let y = seed.young in
      let word_is = y.1 in
      let from = y.2.0 in
      let to = y.2.1 in
      let nursery = front.nursery_is in
      let holds : word s x ≡ byte_at (b.address r.0) = ap (word s) q.at ∙ r.3 in
      let some : r.0 ≢ 0 = λ z. (let nil = ap b.address z ∙ heap.laid.nothing.at_nil in absurd (omega arith)) in
      ap (λ c. slice_index s.cards c) (ap (λ z. card_of s.layout z) q.at ∙ ap (λ l. card_of l (b.address q.name + 2 + q.field)) is.layout)
      ∙ settled.cards.dirty q.name q.field r.0 (let some_name = q.some in omega arith) q.stands q.old q.within q.strong r.1 (omega arith)
      (front.young_there r.0 some r.2 (omega arith))

pub fronted_heap : FrontLaw → (p : Program) (s : Contents) (g : Graph) (b : Book) → (heap : HoldsHeap p s g b) → IsContents s → IsFronted p s g b heap.1.0
fronted_heap law p s g b heap contents = law.fronted p s g b heap.1.0 heap.0 heap.1.1 heap.1.2 contents

pub sound_heap : FrontLaw → (p : Program) (s : Contents) (g : Graph) (b : Book) → HoldsHeap p s g b → IsContents s → IsSoundHeap s
sound_heap law p s g b heap contents =
    let front = fronted_heap law p s g b heap contents in
    record {
      owner = fronts b.address heap.1.0;
      sound = front.sound;
      refers = front.refers;
      rows = front.rows;
      carded = carded p s g b heap.0 heap.1.0 heap.1.1 front heap.1.2;
    }
