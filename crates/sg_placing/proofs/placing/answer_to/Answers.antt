use Rattle.std.proofs.Common.{ℕ, refl, sym, subst}
use Rattle.sg_program.specs.declared.program.Statement.{Statement as AnyStatement}
use Rattle.sg_placing.specs.Placing.{IsMade, IsMadeOld, IsServing}
use Rattle.sg_program.specs.declared.answers.Answer.TheVariants.{Fine}
use Rattle.sg_placing.proofs.Answered.{answered}
use Rattle.sg_placing.proofs.placing.answer_to.Goals as goal

pub returns-in-New-clause-answered : goal.returns-in-New-clause-answered
returns-in-New-clause-answered c = λ g b k rest heap plain fits unowed next.
    let p = c.args.program.now in
    let made = subst (λ (n : ℕ). IsMade c.args.room c.args.space.now c.in-New.class n c.make.result c.make.new.space) c.fields_of.ensures c.make.ensures.made in
    answered c.blocks_go.ensures c.runnable_makes.ensures p c.args.space.now g b c.requires.contents plain heap k rest c.args.room fits c.make.new.space
    c.args.asking c.make.result unowed
    (subst (λ (s : AnyStatement). IsServing p c.args.room c.args.space.now s c.make.result c.make.new.space) (sym c.in-New.is) made) next c.requires.run

pub returns-in-NewV-clause-answered : goal.returns-in-NewV-clause-answered
returns-in-NewV-clause-answered c = λ g b k rest heap plain fits unowed next.
    let p = c.args.program.now in
    answered c.blocks_go.ensures c.runnable_makes.ensures p c.args.space.now g b c.requires.contents plain heap k rest c.args.room fits c.make-in-NewV.new.space
    c.args.asking c.make-in-NewV.result unowed
    (subst (λ (s : AnyStatement). IsServing p c.args.room c.args.space.now s c.make-in-NewV.result c.make-in-NewV.new.space) (sym c.in-NewV.is)
    c.make-in-NewV.ensures.made) next c.requires.run

pub returns-in-Mature-clause-answered : goal.returns-in-Mature-clause-answered
returns-in-Mature-clause-answered c = λ g b k rest heap plain fits unowed next.
    let p = c.args.program.now in
    let result = c.make_old.result in
    let t = c.make_old.new.space in
    let made = subst (λ (n : ℕ). IsMadeOld c.args.space.now c.in-Mature.class n result t) c.fields_of-in-Mature.ensures c.make_old.ensures.made in
    answered c.blocks_go.ensures c.runnable_makes.ensures p c.args.space.now g b c.requires.contents plain heap k rest c.args.room fits t
    c.args.asking result unowed
    (subst (λ (s : AnyStatement). IsServing p c.args.room c.args.space.now s result t) (sym c.in-Mature.is) made) next c.requires.run

pub returns-in-Collect-clause-answered : goal.returns-in-Collect-clause-answered
returns-in-Collect-clause-answered c = λ g b k rest heap plain fits unowed next.
    let p = c.args.program.now in
    answered c.blocks_go.ensures c.runnable_makes.ensures p c.args.space.now g b c.requires.contents plain heap k rest c.args.room fits c.args.space.now
    c.args.asking Fine unowed
    (subst (λ (s : AnyStatement). IsServing p c.args.room c.args.space.now s Fine c.args.space.now) (sym c.in-Collect.is) refl) next c.requires.run

pub returns-in-Sections-clause-answered : goal.returns-in-Sections-clause-answered
returns-in-Sections-clause-answered c = λ g b k rest heap plain fits unowed next.
    let p = c.args.program.now in
    answered c.blocks_go.ensures c.runnable_makes.ensures p c.args.space.now g b c.requires.contents plain heap k rest c.args.room fits c.args.space.now
    c.args.asking Fine unowed
    (subst (λ (s : AnyStatement). IsServing p c.args.room c.args.space.now s Fine c.args.space.now) (sym c.in-Sections.is) refl) next c.requires.run
