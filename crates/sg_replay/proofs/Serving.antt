-- A stop answers its requests in one way.
use Rattle.std.proofs.Common.{◌≡◌, List, [], ◌∷◌, sym, refl, ap, ◌∙◌, subst}
use Rattle.sg_program.specs.declared.program.Program.{Program}
use Rattle.sg_graph.specs.declared.reports.Service.{Service}
use Rattle.sg_graph.specs.Graph.{Graph, Mutator, advanced}
use Rattle.sg_graph.specs.Statements.{Answers, heap_after, hands_after}
use Rattle.sg_graph.specs.Book.{Book}
use Rattle.sg_graph.specs.Epoch.{by_address}
use Rattle.sg_graph.specs.Stop.{Asked, Placing, Places, Shows, IsServed, Serves}
use Rattle.sg_replay.proofs.Placing.{one_placing}
use Rattle.sg_replay.proofs.Showing.{one_showing}

-- the service of a statement that is answered is one
module _ (p : Program) (how : Placing) (g : Graph) (b : Book) (asked : Asked) (v w : Service) (h i : Graph) (c d : Book) (x : IsServed p how g b asked v h c)
    (y : IsServed p how g b asked w i d) where
  abbrev mutator : Mutator
  mutator = g.mutator asked.by

  both : (x.statement ∷ x.rest) ≡ (y.statement ∷ y.rest)
  both = sym x.next ∙ y.next

  statement : x.statement ≡ y.statement
  statement = cc both

  rest : x.rest ≡ y.rest
  rest = cc both

  placed : (x.answer ≡ y.answer) × (c ≡ d)
  placed = one_placing p g mutator how b y.statement x.answer y.answer c d (subst (λ s. Answers p g mutator s x.answer) statement x.does.0) y.does.0
      (subst (λ s. Places p how g b s x.answer c) statement x.places) y.places

  answer : v.answer ≡ w.answer
  answer = x.told ∙ ap (λ a. by_address c a) placed.0 ∙ ap (λ (z : Book). by_address z y.answer) placed.1 ∙ sym y.told

  number : v.statement ≡ w.statement
  number = x.number ∙ sym y.number

  by : v.mutator ≡ w.mutator
  by = x.mutator ∙ sym y.mutator

  shown : v.sections ≡ w.sections
  shown =
      one_showing p g b y.statement v.sections w.sections (subst (λ s. Shows p g b s v.sections) statement x.shows) y.shows

  one_service : v ≡ w
  one_service = λ j. record { mutator = by j; statement = number j; answer = answer j; sections = shown j }

  one_graph : h ≡ i
  one_graph =
      x.does.1
      ∙ ap (λ s. advanced (heap_after p g asked.by mutator s x.answer) asked.by (hands_after mutator s x.answer) x.rest) statement
      ∙ ap (λ a. advanced (heap_after p g asked.by mutator y.statement a) asked.by (hands_after mutator y.statement a) x.rest) placed.0
      ∙ ap (λ l. advanced (heap_after p g asked.by mutator y.statement y.answer) asked.by (hands_after mutator y.statement y.answer) l) rest
      ∙ sym y.does.1

-- the services, the graph and the book are the same
abbrev Same : List Service → List Service → Graph → Graph → Book → Book → Type 0
Same vs ws h i c d = (vs ≡ ws) × (h ≡ i) × (c ≡ d)

pub one_serving : (p : Program) (how : Placing) (requests : List Asked) (vs ws : List Service) (g : Graph) (b : Book) (h i : Graph) (c d : Book) →
    Serves p how g b requests vs h c → Serves p how g b requests ws i d → Same vs ws h i c d
one_serving p how [] [] [] g b h i c d x y = (refl, x.0 ∙ sym y.0, x.1 ∙ sym y.1)
one_serving p how [] [] (w ∷ ws) g b h i c d x y = absurd y
one_serving p how [] (v ∷ vs) ws g b h i c d x y = absurd x
one_serving p how (asked ∷ more) [] ws g b h i c d x y = absurd x
one_serving p how (asked ∷ more) (v ∷ vs) [] g b h i c d x y = absurd y
one_serving p how (asked ∷ more) (v ∷ vs) (w ∷ ws) g b h i c d (h1, c1, x, later) (i1, d1, y, later') =
    let service = one_service p how g b asked v w h1 i1 c1 d1 x y in
    let graph = one_graph p how g b asked v w h1 i1 c1 d1 x y in
    let book = (placed p how g b asked v w h1 i1 c1 d1 x y).1 in
    let there = subst (λ (z : Graph). Serves p how z c1 more ws i d) (sym graph) (subst (λ (z : Book). Serves p how i1 z more ws i d) (sym book) later') in
    let q = one_serving p how more vs ws h1 c1 h i c d later there in
    (ap (λ z. z ∷ vs) service ∙ ap (λ (l : List Service). w ∷ l) q.0, q.1, q.2)
