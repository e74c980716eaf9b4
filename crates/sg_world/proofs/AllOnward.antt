-- All mutators go on behind the pauses of a stop, one after another.
use Rattle.std.proofs.Common.{◌≡◌, ℕ, ◌+◌, ◌<◌, Bool, Some, List, [], ◌∷◌, ◌++◌, length, slice_get, get_or}
use Rattle.std.proofs.Common.{take, drop, set, inl, inr, sym, refl, ap, ◌∙◌, subst, arith, append-nil}
use Rattle.std.proofs.lemmas.List.{length-take}
use Rattle.std.proofs.lemmas.Option.{slice_get_within, slice_get-get_or}
use Rattle.std.proofs.lemmas.List.Concat.{flat_map-append}
use Rattle.sg_words.specs.Lists.{Pairwise}
use Rattle.sg_program.specs.declared.program.Statement.{Statement}
use Rattle.sg_program.specs.declared.program.Program.{Program}
use Rattle.sg_program.specs.declared.answers.Request.{Request}
use Rattle.sg_program.specs.declared.answers.Request.TheVariants.{Slot, Sections as AllSections}
use Rattle.sg_graph.specs.declared.reports.Service.{Service}
use Rattle.sg_graph.specs.Graph.{Graph}
use Rattle.sg_graph.specs.Book.{Book}
use Rattle.sg_graph.specs.Stop.{Asked, Placing, Serves}
use Rattle.sg_space.specs.Space.{Contents}
use Rattle.sg_placing.specs.declared.placing.Room.{Room}
use Rattle.sg_placing.specs.declared.placing.Room.TheVariants.{Fragments, SlotsToo}
use Rattle.sg_placing.specs.Answering.{FitsRoom}
use Rattle.sg_rules.specs.Rules.{Actor}
use Rattle.sg_order.specs.Rest.{IsReady}
use Rattle.sg_actor.specs.declared.mutator.Stage.{Stage}
use Rattle.sg_actor.specs.declared.mutator.Stage.TheVariants.{Between, Ended, Asking, Yielded}
use Rattle.sg_actor.specs.State.{Mutating}
use Rattle.sg_mutate.specs.Epochs.{found_at, IsReadyStage}
use Rattle.sg_world.specs.Stopping.{asked_of, requests_of}
use Rattle.sg_world.specs.Serving.{CanTell, MayGoOn, MayAllGoOn, IsHolding, IsReadyNow, IsFurther, HasGoneOn, HaveGoneOn}
use Rattle.sg_world.specs.Worlds.{HasLeftReady}
use Rattle.sg_world.proofs.Lists.{pairwise_push, at_push, next_same, old_more, front_more}

left_stays : (p : Program) (g h : Graph) (b c : Book) (j : ℕ) (m : Mutating) →
    ((x : Actor) (script : List Statement) → IsReady p g b j x script → IsReady p h c j x script) →
    (h.mutator j).ended ≡ (g.mutator j).ended → (stage : Stage) → HasLeftReady p g b j m stage → HasLeftReady p h c j m stage
left_stays p g h b c j m stays ended Ended r = (ended ∙ r.0, stays _ _ r.1)
left_stays p g h b c j m stays ended (Asking statement request) r = (ended ∙ r.0, r.1, stays _ _ r.2)
left_stays p g h b c j m stays ended Yielded r = (ended ∙ r.0, stays _ _ r.1)
left_stays p g h b c j m stays ended stage r = absurd r

stage_stays : (g h : Graph) (k : ℕ) → (h.mutator k).ended ≡ (g.mutator k).ended → (stage : Stage) → IsReadyStage g k stage → IsReadyStage h k stage
stage_stays g h k ended Between r = ended ∙ r
stage_stays g h k ended Ended r = ended ∙ r
stage_stays g h k ended stage r = absurd r

-- what is owed decides what can be told, and what room there is
tells_so : (p : Program) (b c : Book) → c.owed ≡ b.owed → (statement : Statement) (request : Request) → CanTell p b (Asking statement request) →
    CanTell p c (Asking statement request)
tells_so p b c same statement AllSections can = λ j l. ap (λ (owed : ℕ → Bool). owed j) same ∙ can j l
tells_so p b c same statement (Slot size) can = λ j l. ap (λ (owed : ℕ → Bool). owed j) same ∙ can j l
tells_so p b c same statement request can = tt

tells_stays : (p : Program) (b c : Book) → c.owed ≡ b.owed → (stage : Stage) → CanTell p b stage → CanTell p c stage
tells_stays p b c same (Asking statement request) can = tells_so p b c same statement request can
tells_stays p b c same stage can = tt

pub fits_stays : (p : Program) (b c : Book) → c.owed ≡ b.owed → (room : Room) → FitsRoom p b room → FitsRoom p c room
fits_stays p b c same Fragments fits = tt
fits_stays p b c same SlotsToo fits = λ j l. ap (λ (owed : ℕ → Bool). owed j) same ∙ fits j l

serves_more : (p : Program) (how : Placing) (g : Graph) (b : Book) (asked more : List Asked) (services others : List Service)
    (h : Graph) (c : Book) (h1 : Graph) (c1 : Book) →
    Serves p how g b asked services h c → Serves p how h c more others h1 c1 → Serves p how g b (asked ++ more) (services ++ others) h1 c1
serves_more p how g b [] more [] others h c h1 c1 one rest =
    subst (λ (x : Graph). Serves p how x b more others h1 c1) one.0 (subst (λ (x : Book). Serves p how h x more others h1 c1) one.1 rest)
serves_more p how g b [] more (service ∷ services) others h c h1 c1 one rest = absurd one
serves_more p how g b (a ∷ asked) more [] others h c h1 c1 one rest = absurd one
serves_more p how g b (a ∷ asked) more (service ∷ services) others h c h1 c1 one rest =
    (one.0, one.1, one.2, serves_more p how one.0 one.1 asked more services others h c h1 c1 one.3 rest)

-- nobody has gone on
pub none_gone : (p : Program) (how : Placing) (g : Graph) (b : Book) (s : Contents) → IsHolding p s g b → HaveGoneOn p how g b 0 [] [] s []
none_gone p how g b s holding = record {
  graph = g;
  book = b;
  holding = holding;
  serves = (refl, refl);
  others = λ j x script d r. r;
  owed = refl;
  ended = λ j. refl;
  own = λ r n e. absurd (cc e);
  further = tt;
}

module _ (p : Program) (how : Placing) (room : Room) (g : Graph) (b : Book) (s t : Contents) (old cur : List Mutating) (k : ℕ) (d : Mutating)
    (there : k < length cur) (same : length cur ≡ length old) (rest : drop k cur ≡ drop k old) (services : List Service)
    (so : HaveGoneOn p how g b 0 (take k old) services t (take k cur)) (may : MayAllGoOn p room g b 0 s old) where
  abbrev m : Mutating
  m = get_or cur k d

  as_was : m ≡ get_or old k d
  as_was = next_same old cur k d d there same rest

  at_old : slice_get old k ≡ Some m
  at_old = slice_get-get_or old k d (omega (arith, there, same)) ∙ ap (λ x. Some x) (sym as_was)

  front : length (take k old) ≡ k
  front = let a = length-take k old in omega (arith, there, same)

  -- the next one may go on
  pub next_may : MayGoOn p so.graph so.book k m
  next_may = let before = subst (λ j. MayGoOn p g b j m) (let z : 0 + k ≡ k = omega arith in z) (may.each k m at_old) in record {
    left = left_stays p g so.graph b so.book k m (λ x script r. so.others k x script (λ q l e. absurd (omega (arith, l, e, front))) r) (so.ended k) m.stage
        before.left;
    number = before.number;
    tells = tells_stays p b so.book so.owed m.stage before.tells;
    few = before.few;
  }

  pub next_fits : FitsRoom p so.book room
  next_fits = fits_stays p b so.book so.owed room may.fits

  -- and then one more has
  module _ (u : Contents) (n : Mutating) (more after : List Service) (is : after ≡ services ++ more) (one : HasGoneOn p how so.graph so.book k m more u n) where
    cur_front : length (take k cur) ≡ k
    cur_front = let a = length-take k cur in omega (arith, there)

    asked_more : requests_of (take k old) ++ asked_of m m.stage ≡ requests_of (take (k + 1) old)
    asked_more = ap (λ xs. requests_of (take k old) ++ xs) (sym (append-nil (asked_of m m.stage)))
        ∙ sym (flat_map-append (λ (x : Mutating). asked_of x x.stage) (take k old) (m ∷ []))
        ∙ ap requests_of (sym (old_more old cur k n d there same rest))

    own_more : (r : ℕ) (y : Mutating) → slice_get (take k cur ++ n ∷ []) r ≡ Some y → IsReadyNow p one.graph one.book (0 + r) y
    own_more r y e = elim (at_push (take k cur) n r y e) [
      | inl before ↦
          let own = so.own r y before in
          let l = slice_get_within (take k cur) r y before in
          record {
            ready = one.others (0 + r) (found_at y.stage y) (found_at y.stage y).script (λ q. absurd (omega (arith, l, q, cur_front))) own.ready;
            stage = stage_stays so.graph one.graph (0 + r) (one.ended (0 + r)) y.stage own.stage;
            idle = own.idle;
            untold = own.untold;
          }
      | inr last ↦
          subst (λ (x : Mutating). IsReadyNow p one.graph one.book (0 + r) x) last.1
          (subst (λ i. IsReadyNow p one.graph one.book i n) (let q : k ≡ 0 + r = omega (arith, last.0, cur_front) in q) one.own)
    ]

    further_more : Pairwise IsFurther (take k old ++ m ∷ []) (take k cur ++ n ∷ [])
    further_more = pairwise_push IsFurther (take k old) (take k cur) m n so.further one.further

    whole : length (take (k + 1) old) ≡ k + 1
    whole = let a = length-take (k + 1) old in omega (arith, there, same)

    pub goes_more : HaveGoneOn p how g b 0 (take (k + 1) old) after u (take (k + 1) (set cur k n))
    goes_more = record {
      graph = one.graph;
      book = one.book;
      holding = one.holding;
      serves = subst (λ xs. Serves p how g b xs after one.graph one.book) asked_more
          (subst (λ ss. Serves p how g b (requests_of (take k old) ++ asked_of m m.stage) ss one.graph one.book) (sym is)
          (serves_more p how g b (requests_of (take k old)) (asked_of m m.stage) services more so.graph so.book one.graph one.book so.serves one.serves));
      others = λ j x script e r. one.others j x script (λ is_k. e k (omega (arith, whole)) (let z : k ≡ 0 + k = omega arith in is_k ∙ z))
          (so.others j x script (λ q l is_q. e q (omega (arith, l, front, whole)) is_q) r);
      owed = one.owed ∙ so.owed;
      ended = λ j. one.ended j ∙ so.ended j;
      own = λ r y e. own_more r y (ap (λ xs. slice_get xs r) (sym (front_more old cur k n d there same rest)) ∙ e);
      further = subst (λ (xs : List Mutating). Pairwise IsFurther xs (take (k + 1) (set cur k n))) (sym (old_more old cur k n d there same rest))
          (subst (λ (ys : List Mutating). Pairwise IsFurther (take k old ++ m ∷ []) ys) (sym (front_more old cur k n d there same rest)) further_more);
    }
