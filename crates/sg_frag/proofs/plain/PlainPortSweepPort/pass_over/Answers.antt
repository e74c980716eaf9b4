use Rattle.std.proofs.Common.{◌≡◌, ℕ, ◌+◌, ◌-◌, ◌<◌, ◌≤◌, List, refl, sym, subst, arith}
use Rattle.sg_words.specs.declared.steps.Step.{Step}
use Rattle.sg_words.specs.Words.{Saw}
use Rattle.sg_cells.specs.Made.{Makes}
use Rattle.sg_cells.specs.Passing.{PassBlocks}
use Rattle.sg_space.specs.Space.{Contents, words_of}
use Rattle.sg_frag.specs.declared.plain.PlainPort.{PlainPort}
use Rattle.sg_frag.specs.Plain.{Led}
use Rattle.sg_frag.proofs.Passing.{led_saw, led_saw_used, passing}
use Rattle.sg_frag.proofs.plain.PlainPortSweepPort.pass_over.Goals as goal

abbrev leads : PlainPort → List Step → PlainPort → Type 0
leads p es q = (q.space.ghost_name ≡ p.space.ghost_name) × Led p.space.now es q.space.now

abbrev sees : PlainPort → Step → Type 0
sees p t = Saw (words_of p.space.now) t

-- the port over this space in the place of its own
abbrev over : PlainPort → Contents → PlainPort
over p t = record { space = record p.space { now = t } }

pub returns-clause-passed : goal.returns-clause-passed
returns-clause-passed c =
    let p = c.args.self.now in
    let s = p.space.now in
    let e = c.pass_over.ensures.from in
    let n = c.pass_over.result - c.args.from in
    let come : c.pass_over.result ≡ c.args.from + n = omega (arith, e) in
    let steps = passing leads sees p s (λ b. ((refl, led_saw s b), refl)) (λ b. ((refl, led_saw_used s b), refl)) c.args.size c.args.from n
    (λ k l m. c.pass_over.ensures.passed k l (subst (λ (to : ℕ). k < to) (sym come) m)) in
    (n, steps.0, come, steps.1, subst (λ (t : Contents). Makes leads sees p steps.0 (over p t)) (sym c.pass_over.ensures.same) steps.2)
