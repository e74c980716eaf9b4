use Rattle.std.proofs.Common.{◌≡◌, ◌+◌, ℕ, List, length, refl, sym, ◌∙◌, subst, arith}
use Rattle.sg_program.specs.declared.program.Program.{Program}
use Rattle.sg_placing.specs.Answering.{placing_in}
use Rattle.sg_actor.specs.State.{Mutating}
use Rattle.sg_world.specs.Stopping.{requests_of, AreWanted, HaveBuffersBy}
use Rattle.sg_world.specs.Steps.{HasHalted}
use Rattle.sg_world.specs.Serving.{MayAllGoOn, IsFurther, HaveGoneOn}
use Rattle.sg_world.specs.Worlds.{Worldly, IsAtStop}
use Rattle.sg_world.proofs.Halts.{asking, buffers_length, may_go_on, few_epochs, goes_on}
use Rattle.sg_world.proofs.Lists.{pairwise_length, front_all}
use Rattle.sg_world.proofs.world.World.stop.Goals as goal

pub halt-requires : goal.halt-requires
halt-requires c =
    let r = c.requires in
    let ms : List Mutating = c.as_slice.result.now in
    let listed : ms ≡ c.self.inside.mutators = c.as_slice.ensures.value ∙ c.into_vec-mutators.ensures in
    let world : Worldly = record {
      program = c.self.inside.program.now;
      space = c.self.inside.space;
      mutators = ms;
      number = c.self.inside.number;
      owes = c.self.inside.owes;
    } in
    let same : c.args.self ≡ world =
    sym c.self.view_is ∙
    (λ i. record {
      program = c.self.inside.program.now;
      space = c.self.inside.space;
      mutators = sym listed i;
      number = c.self.inside.number;
      owes = c.self.inside.owes;
    }) in
    let t = subst (λ (w : Worldly). IsAtStop r.0 r.1 r.2 r.3 r.4 r.5 w r.6) same r.7 in
    let wants = subst (λ (xs : List Mutating). AreWanted (requests_of xs) c.in_ok-wants.wants) (c.as_slice-2.ensures.value ∙ sym c.as_slice.ensures.value)
    c.in_ok-wants.ensures in
    let asks = asking c.keeps_pointed_into.ensures c.keeps_in_major.ensures c.stays_ready.ensures c.held_is_sound.ensures r.0 r.1 r.2 r.3 r.4
    r.5 world r.6 t c.in_ok-words.ensures.registers in
    record { some = (r.0, t.graph, t.book, requests_of ms, t.holds, t.plain, asks, wants, t.unowed) }

pub serve_all-requires-clause-may : goal.serve_all-requires-clause-may
serve_all-requires-clause-may c =
    let r = c.requires in
    let ms : List Mutating = c.as_slice.result.now in
    let listed : ms ≡ c.self.inside.mutators = c.as_slice.ensures.value ∙ c.into_vec-mutators.ensures in
    let world : Worldly = record {
      program = c.self.inside.program.now;
      space = c.self.inside.space;
      mutators = ms;
      number = c.self.inside.number;
      owes = c.self.inside.owes;
    } in
    let same : c.args.self ≡ world =
    sym c.self.view_is ∙
    (λ i. record {
      program = c.self.inside.program.now;
      space = c.self.inside.space;
      mutators = sym listed i;
      number = c.self.inside.number;
      owes = c.self.inside.owes;
    }) in
    let t = subst (λ (w : Worldly). IsAtStop r.0 r.1 r.2 r.3 r.4 r.5 w r.6) same r.7 in
    let wants = subst (λ (xs : List Mutating). AreWanted (requests_of xs) c.in_ok-wants.wants) (c.as_slice-2.ensures.value ∙ sym c.as_slice.ensures.value)
    c.in_ok-wants.ensures in
    let asks = asking c.keeps_pointed_into.ensures c.keeps_in_major.ensures c.stays_ready.ensures c.held_is_sound.ensures r.0 r.1 r.2 r.3 r.4
    r.5 world r.6 t c.in_ok-words.ensures.registers in
    let halted = subst (λ (words : List ℕ). HasHalted r.0 t.graph t.book words (requests_of ms) c.in_ok-halted.halted.minor c.in_ok-halted.halted.major
    c.in_ok-halted.halted.room c.in_ok-halted.halted.space) (c.as_slice-3.ensures.value ∙ c.in_ok-words.ensures.words)
    (c.in_ok-halted.ensures.halted r.0 t.graph t.book (requests_of ms) t.holds t.unowed t.plain asks wants) in
    let os : List Mutating = c.settle_buffers.new.mutators in
    let buffers = subst (λ (xs : List Mutating). HaveBuffersBy c.in_ok-halted.halted.minor xs os) (c.as_mut_slice.ensures.value ∙ sym c.as_slice.ensures.value)
    c.settle_buffers.ensures in
    let as_many : length os ≡ length c.as_mut_slice.result.now = buffers_length c.as_mut_slice.result.now os c.in_ok-halted.halted.minor
    c.settle_buffers.ensures in
    let whole : c.as_mut_slice-2.result.now ≡ os = c.as_mut_slice-2.ensures.value
    ∙ front_all os _ c.into_vec-mutators.result.len (as_many ∙ c.as_mut_slice.ensures.len) in
    let may = may_go_on c.keeps_pointed_into.ensures c.keeps_in_major.ensures c.stays_ready.ensures c.held_is_sound.ensures r.0 r.1 r.2 r.3 r.4
    r.5 world r.6 t c.in_ok-words.ensures.registers c.in_ok-halted.halted.minor c.in_ok-halted.halted.major c.in_ok-halted.halted.room
    c.in_ok-halted.halted.space halted c.in_ok-halted.ensures.contents os buffers in (
      t.graph,
      halted.book,
      subst (λ (q : Program). MayAllGoOn q c.in_ok-halted.halted.room t.graph halted.book 0 c.in_ok-halted.halted.space c.as_mut_slice-2.result.now)
          (sym t.of.program)
          (subst (λ (xs : List Mutating). MayAllGoOn r.0 c.in_ok-halted.halted.room t.graph halted.book 0 c.in_ok-halted.halted.space xs) (sym whole) may),
    )

pub overflow_add-world : goal.overflow_add-world
overflow_add-world c =
    let r = c.requires in
    let t = subst (λ (w : Worldly). IsAtStop r.0 r.1 r.2 r.3 r.4 r.5 w r.6) (sym c.self.view_is) r.7 in
    let world : Worldly =
    record {
      program = c.self.inside.program.now;
      space = c.self.inside.space;
      mutators = c.self.inside.mutators;
      number = c.self.inside.number;
      owes = c.self.inside.owes;
    } in
    let l = few_epochs r.0 world t.of in
    omega arith

pub returns-clause-between : goal.returns-clause-between
returns-clause-between c p turns phases report order swept schedule at =
    let ms : List Mutating = c.as_slice.result.now in
    let listed : ms ≡ c.self.inside.mutators = c.as_slice.ensures.value ∙ c.into_vec-mutators.ensures in
    let world : Worldly = record {
      program = c.self.inside.program.now;
      space = c.self.inside.space;
      mutators = ms;
      number = c.self.inside.number;
      owes = c.self.inside.owes;
    } in
    let same : c.args.self ≡ world =
    sym c.self.view_is ∙
    (λ i. record {
      program = c.self.inside.program.now;
      space = c.self.inside.space;
      mutators = sym listed i;
      number = c.self.inside.number;
      owes = c.self.inside.owes;
    }) in
    let t = subst (λ (w : Worldly). IsAtStop p turns phases report order swept w schedule) same at in
    let wants = subst (λ (xs : List Mutating). AreWanted (requests_of xs) c.in_ok-wants.wants) (c.as_slice-2.ensures.value ∙ sym c.as_slice.ensures.value)
    c.in_ok-wants.ensures in
    let asks = asking c.keeps_pointed_into.ensures c.keeps_in_major.ensures c.stays_ready.ensures c.held_is_sound.ensures p turns phases report order
    swept world schedule t c.in_ok-words.ensures.registers in
    let halted = subst (λ (words : List ℕ). HasHalted p t.graph t.book words (requests_of ms) c.in_ok-halted.halted.minor c.in_ok-halted.halted.major
    c.in_ok-halted.halted.room c.in_ok-halted.halted.space) (c.as_slice-3.ensures.value ∙ c.in_ok-words.ensures.words)
    (c.in_ok-halted.ensures.halted p t.graph t.book (requests_of ms) t.holds t.unowed t.plain asks wants) in
    let os : List Mutating = c.settle_buffers.new.mutators in
    let buffers = subst (λ (xs : List Mutating). HaveBuffersBy c.in_ok-halted.halted.minor xs os) (c.as_mut_slice.ensures.value ∙ sym c.as_slice.ensures.value)
    c.settle_buffers.ensures in
    let as_many : length os ≡ length c.as_mut_slice.result.now = buffers_length c.as_mut_slice.result.now os c.in_ok-halted.halted.minor
    c.settle_buffers.ensures in
    let whole : c.as_mut_slice-2.result.now ≡ os = c.as_mut_slice-2.ensures.value
    ∙ front_all os _ c.into_vec-mutators.result.len (as_many ∙ c.as_mut_slice.ensures.len) in
    let may = may_go_on c.keeps_pointed_into.ensures c.keeps_in_major.ensures c.stays_ready.ensures c.held_is_sound.ensures p turns phases report order
    swept world schedule t c.in_ok-words.ensures.registers c.in_ok-halted.halted.minor c.in_ok-halted.halted.major c.in_ok-halted.halted.room
    c.in_ok-halted.halted.space halted c.in_ok-halted.ensures.contents os buffers in
    let room = c.in_ok-halted.halted.room in
    let v = c.in_ok-halted.halted.space in
    let u = c.serve_all.new.space in
    let ns : List Mutating = c.serve_all.new.mutators in
    let services = c.in_ok-served.served in
    let all = subst (λ (q : Program). MayAllGoOn q room t.graph halted.book 0 v os → HaveGoneOn q (placing_in room) t.graph halted.book 0 os services u ns)
    t.of.program
    (subst (λ (xs : List Mutating). MayAllGoOn c.self.inside.program.now room t.graph halted.book 0 v xs →
    HaveGoneOn c.self.inside.program.now (placing_in room) t.graph halted.book 0 xs services u ns) whole
    (c.in_ok-served.ensures.served t.graph halted.book)) may in
    let count : length ns ≡ length os = pairwise_length IsFurther os ns all.further in
    let after : c.from_vec.result ≡ ns = c.from_vec.ensures ∙ front_all ns _ c.into_vec-mutators.result.len (count ∙ as_many ∙ c.as_mut_slice.ensures.len) in
    goes_on c.keeps_pointed_into.ensures c.keeps_in_major.ensures c.stays_ready.ensures c.held_is_sound.ensures p turns phases report order
    swept world schedule t c.in_ok-words.ensures.registers c.in_ok-halted.halted.minor c.in_ok-halted.halted.major room v halted
    c.in_ok-halted.ensures.contents os buffers services u ns all (c.in_ok-served.ensures.stop ∙ c.in_ok-halted.ensures.going)
    (record { program = c.self.inside.program.now; space = u; mutators = c.from_vec.result; number = c.self.inside.number + 1; owes = c.may_owe-owes.result })
    refl refl after refl c.may_owe-owes.ensures
