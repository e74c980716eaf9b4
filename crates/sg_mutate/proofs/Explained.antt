-- A longer list of steps leads on from where a shorter one led, since a mutator's next statement has one answer, and a claimed object one place.
use Rattle.std.proofs.Common.{◌≡◌, ℕ, Bool, true, false, List, [], ◌∷◌, ◌++◌, map, cond, refl, sym, ap, ◌∙◌, subst}
use Rattle.sg_words.specs.declared.steps.Step.{Step}
use Rattle.sg_words.specs.declared.steps.Step.TheVariants.{OnBlock}
use Rattle.sg_words.specs.declared.steps.BlockStep.TheVariants.{OrUsed}
use Rattle.sg_words.specs.declared.steps.BlockWord.TheVariants.{Swept}
use Rattle.sg_words.specs.Words.{Words, after_step, after}
use Rattle.sg_words.specs.Events.{Event, ticks, order_of}
use Rattle.sg_program.specs.declared.program.Program.{Program}
use Rattle.sg_graph.specs.Graph.{Graph}
use Rattle.sg_graph.specs.Book.{Book, slot_at}
use Rattle.sg_graph.specs.Epoch.{Said, Explains, IsNewOld}
use Rattle.sg_graph.specs.Laws.{AgreeOnNew, HasOneTurn}
use Rattle.sg_rules.specs.Rules.{Constants}
use Rattle.sg_order.specs.Sweep.{winner_after, winners, IsClaimedBy, IsMove, Runs}

same_claim : (c d : Book) (p : Program) (w : Words) (step : Step) (name : ℕ) → IsClaimedBy p w step c name → IsClaimedBy p w step d name → c.address name ≡ d.address name
same_claim c d p w step name one other =
    let steps : OnBlock (OrUsed one.block one.slot one.found) ≡ OnBlock (OrUsed other.block other.slot other.found) = sym one.claims ∙ other.claims in
    let block : one.block ≡ other.block = cc steps in
    let slot : one.slot ≡ other.slot = cc steps in
    let words : Swept one.size ≡ Swept other.size = sym one.word ∙ ap w.block block ∙ other.word in
    let size : one.size ≡ other.size = cc words in
    one.at ∙ ap (λ j. slot_at p j one.size one.slot) block ∙ ap (λ z. slot_at p other.block z one.slot) size ∙ ap (λ i. slot_at p other.block other.size i) slot
    ∙ sym other.at

-- from one graph and one book on, a step leads to one graph and one book, and takes one statement of the order
pub record IsSameMove (order : List Said) (g h : Graph) (b c : Book) (rest order' rest' : List Said) : Type 0 where
  pub graph : g ≡ h
  pub book : b ≡ c
  pub more : List Said
  pub first : order ≡ more ++ rest
  pub second : order' ≡ more ++ rest'

module _ (p : Program) (one : HasOneTurn) (w : Words) (g : Graph) (b : Book) (k : ℕ) (step : Step) where
  same_move : (decides : Bool) (order order' : List Said) (h h' : Graph) (c c' : Book) (rest rest' : List Said) →
      IsMove p w g b k step decides order h c rest → IsMove p w g b k step decides order' h' c' rest' → IsSameMove order h h' c c' rest order' rest'
  same_move true order order' h h' c c' rest rest' m m' =
      let t = one p g b (record { by = k; answer = m.0 }) (record { by = k; answer = m'.0 }) h h' c c' m.2 m'.2 refl
      (λ name new new'. same_claim c c' p w step name (m.3 name new) (m'.3 name new')) in
      record {
        graph = t.1;
        book = t.2;
        more = record { by = k; answer = m.0 } ∷ [];
        first = m.1;
        second = m'.1 ∙ ap (λ (said : Said). said ∷ rest') (sym t.0);
      }
  same_move false order order' h h' c c' rest rest' m m' = record {
    graph = m.1 ∙ sym m'.1;
    book = m.2 ∙ sym m'.2;
    more = [];
    first = sym m.0;
    second = sym m'.0;
  }

-- these statements and these steps come behind
pub record GoesBehind (p : Program) (lay : Constants) (w : Words) (by : ℕ → ℕ) (es : List Event) (order order' : List Said) (h : Graph) (c : Book) (fs : List Event)
    (h' : Graph) (c' : Book) : Type 0 where
  pub rest : List Said
  pub order_is : order' ≡ order ++ rest
  pub runs : Runs p lay (after w (ticks es)) (winners by es) h c fs rest h' c'

append_again : (xs ys zs : List Said) → (xs ++ ys) ++ zs ≡ xs ++ (ys ++ zs)
append_again [] ys zs = refl
append_again (x ∷ xs) ys zs = ap (λ us. x ∷ us) (append_again xs ys zs)

module _ (p : Program) (lay : Constants) (one : HasOneTurn) where
  pub goes_behind : (es fs : List Event) (w : Words) (by : ℕ → ℕ) (g : Graph) (b : Book) (order order' : List Said) (h h' : Graph) (c c' : Book) →
      Runs p lay w by g b es order h c → Runs p lay w by g b (es ++ fs) order' h' c' → GoesBehind p lay w by es order order' h c fs h' c'
  goes_behind [] fs w by g b order order' h h' c c' r r' = record {
    rest = order';
    order_is = ap (λ xs. xs ++ order') (sym r.0);
    runs = subst (λ (x : Book). Runs p lay w by h x fs order' h' c') (sym r.2) (subst (λ (x : Graph). Runs p lay w by x b fs order' h' c') (sym r.1) r');
  }
  goes_behind (e ∷ es) fs w by g b order order' h h' c c' (h1, c1, more, move, lawful, harmless, r) (h2, c2, more', move', lawful', harmless', r') =
      let same = same_move p one w g b e.by e.tick.step e.tick.decides order order' h1 h2 c1 c2 more more' move move' in
      let on = goes_behind es fs (after_step w e.tick.step) (winner_after by e.by e.tick.step) h1 c1 more more' h h' c c' r
      (subst (λ (x : Book). Runs p lay (after_step w e.tick.step) (winner_after by e.by e.tick.step) h1 x (es ++ fs) more' h' c') (sym same.book)
      (subst (λ (x : Graph). Runs p lay (after_step w e.tick.step) (winner_after by e.by e.tick.step) x c2 (es ++ fs) more' h' c') (sym same.graph) r')) in
      record {
        rest = on.rest;
        order_is = same.second ∙ ap (λ xs. same.more ++ xs) on.order_is ∙ sym (append_again same.more more on.rest) ∙ ap (λ xs. xs ++ on.rest) (sym same.first);
        runs = on.runs;
      }

  pub explained : (es : List Event) (w : Words) (by : ℕ → ℕ) (g : Graph) (b : Book) (order : List Said) (h : Graph) (c : Book) →
      Runs p lay w by g b es order h c → Explains p g b order h c
  explained [] w by g b order h c r = subst (λ ss. Explains p g b ss h c) (sym r.0) (r.1, r.2)
  explained (e ∷ es) w by g b order h c (h1, c1, more, move, lawful, harmless, r) =
      moved e.tick.decides move (explained es (after_step w e.tick.step) (winner_after by e.by e.tick.step) h1 c1 more h c r)
    where
      moved : (decides : Bool) → IsMove p w g b e.by e.tick.step decides order h1 c1 more → Explains p h1 c1 more h c → Explains p g b order h c
      moved true m rest = subst (λ ss. Explains p g b ss h c) (sym m.1) (h1, c1, m.2, rest)
      moved false m rest = subst (λ (x : Book). Explains p g x order h c) m.2 (subst (λ (x : Graph). Explains p x c1 order h c) m.1
          (subst (λ ss. Explains p h1 c1 ss h c) m.0 rest))

  pub ordered : (es : List Event) (w : Words) (by : ℕ → ℕ) (g : Graph) (b : Book) (order : List Said) (h : Graph) (c : Book) →
      Runs p lay w by g b es order h c → map (λ (s : Said). s.by) order ≡ order_of es
  ordered [] w by g b order h c r = ap (map (λ (s : Said). s.by)) r.0
  ordered (e ∷ es) w by g b order h c (h1, c1, more, move, lawful, harmless, r) =
      by_cases e.tick.decides move (ordered es (after_step w e.tick.step) (winner_after by e.by e.tick.step) h1 c1 more h c r)
    where
      by_cases : (decides : Bool) → IsMove p w g b e.by e.tick.step decides order h1 c1 more → map (λ (s : Said). s.by) more ≡ order_of es →
          map (λ (s : Said). s.by) order ≡ cond decides (e.by ∷ order_of es) (order_of es)
      by_cases true m rest = ap (map (λ (s : Said). s.by)) m.1 ∙ ap (λ ks. e.by ∷ ks) rest
      by_cases false m rest = ap (map (λ (s : Said). s.by)) (sym m.0) ∙ rest

  -- where the first step decides, and no other one, an object that its statement makes in the major heap stands in the slot that the step claims
  pub claimed_by : (e : Event) (es : List Event) (w : Words) (by : ℕ → ℕ) (g : Graph) (b : Book) (order : List Said) (h : Graph) (c : Book) →
      Runs p lay w by g b (e ∷ es) order h c → e.tick.decides ≡ true → order_of es ≡ [] → (name : ℕ) → IsNewOld g.count c name →
      IsClaimedBy p w e.tick.step c name
  claimed_by e es w by g b order h c (h1, c1, more, move, lawful, harmless, r) decides none name new =
      let m = subst (λ (d : Bool). IsMove p w g b e.by e.tick.step d order h1 c1 more) decides move in
      let same : c ≡ c1 = (subst (λ ss. Explains p h1 c1 ss h c) (no_said more (ordered es (after_step w e.tick.step) (winner_after by e.by e.tick.step)
      h1 c1 more h c r ∙ none)) (explained es (after_step w e.tick.step) (winner_after by e.by e.tick.step) h1 c1 more h c r)).1 in
      subst (λ (d : Book). IsClaimedBy p w e.tick.step d name) (sym same) (m.3 name (subst (λ (d : Book). IsNewOld g.count d name) same new))
    where
      no_said : (said : List Said) → map (λ (s : Said). s.by) said ≡ [] → said ≡ []
      no_said [] q = refl
      no_said (s ∷ said) q = cc
