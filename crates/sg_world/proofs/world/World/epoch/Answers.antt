use Rattle.std.proofs.Common.{◌≡◌, ℕ, ◌↔◌, List, length, slice_get, true, sym, ap, ◌∙◌, subst, arith}
use Rattle.sg_words.specs.Lists.{Pairwise}
use Rattle.sg_actor.specs.State.{Mutating}
use Rattle.sg_world.specs.Telling.{going_in, HasLeftAt, TellsAt, HaveEnded}
use Rattle.sg_world.specs.Worlds.{Worldly, IsBetween}
use Rattle.sg_world.proofs.Epochs.{have_left}
use Rattle.sg_world.proofs.Behind.{comes}
use Rattle.sg_world.proofs.world.World.epoch.Goals as goal

pub going-requires : goal.going-requires
going-requires c =
    let r = c.requires in
    let b = subst (λ (w : Worldly). IsBetween r.0 r.1 r.2 w c.args.order.now) (sym c.self.view_is) r.3 in
    let count : length c.self.inside.mutators ≡ length r.0.mutators = b.of.are.count in
    let most = b.of.can.limits.mutators_most in
    let e : length c.as_slice.result.now ≡ length c.self.inside.mutators = ap length c.as_slice.ensures in
    omega arith

pub epoch-requires : goal.epoch-requires
epoch-requires c =
    let r = c.requires in
    let b = subst (λ (w : Worldly). IsBetween r.0 r.1 r.2 w c.args.order.now) (sym c.self.view_is) r.3 in
    record { opened = (r.0, b.graph, b.book, b.opened) }

pub epoch_report-requires : goal.epoch_report-requires
epoch_report-requires c i k e =
    let r = c.requires in
    let b = subst (λ (w : Worldly). IsBetween r.0 r.1 r.2 w c.args.order.now) (sym c.self.view_is) r.3 in
    let over = c.in_ok-end.ensures.over r.0 b.graph b.book b.opened in
    let ran : c.as_slice-2.result.now ≡ going_in c.self.inside.mutators = c.as_slice-2.ensures.value ∙ c.in_ok-ran.ensures ∙ ap going_in c.as_slice.ensures in
    subst (λ (ms : List Mutating). HasLeftAt ms k) (sym c.as_slice-3.ensures)
    (have_left r.0 b.graph b.book c.self.inside.space c.self.inside.mutators c.args.order.now c.in_ok-end.end.space c.in_ok-end.end.mutators c.epoch.new.order
    b.opened over i k
    (ap (λ (ks : List ℕ). slice_get ks i) (sym ran) ∙ e))

pub returns-clause-comes : goal.returns-clause-comes
returns-clause-comes c p turns phases is =
    let b = subst (λ (w : Worldly). IsBetween p turns phases w c.args.order.now) (sym c.self.view_is) is in
    let old : Worldly = record {
      program = c.self.inside.program.now;
      space = c.self.inside.space;
      mutators = c.self.inside.mutators;
      number = c.self.inside.number;
      owes = c.self.inside.owes;
    } in
    let over = c.in_ok-end.ensures.over p b.graph b.book b.opened in
    let ran : c.as_slice-2.result.now ≡ going_in c.self.inside.mutators = c.as_slice-2.ensures.value ∙ c.in_ok-ran.ensures ∙ ap going_in c.as_slice.ensures in
    let report = c.in_ok-report.report in
    let tells : Pairwise (TellsAt c.in_ok-end.end.mutators) (going_in c.self.inside.mutators) report.parts =
    subst (λ (ms : List Mutating). Pairwise (TellsAt ms) (going_in c.self.inside.mutators) report.parts) c.as_slice-3.ensures
    (subst (λ (ks : List ℕ). Pairwise (TellsAt c.as_slice-3.result.now) ks report.parts) ran c.in_ok-report.ensures.parts) in
    let last : (report.last ≡ true) ↔ HaveEnded c.in_ok-end.end.mutators =
    subst (λ (ms : List Mutating). (report.last ≡ true) ↔ HaveEnded ms) c.as_slice-3.ensures c.in_ok-report.ensures.last in
    comes c.stays_ready.ensures c.held_is_sound.ensures c.held_whoever.ensures p turns phases old c.args.order.now b c.in_ok-end.end.space
    c.in_ok-end.end.mutators c.epoch.new.order
    over c.layout.ensures.contents report tells last c.in_ok-report.ensures.number
