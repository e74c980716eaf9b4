use Rattle.std.proofs.Common.{◌≡◌, ℕ, ◌+◌, ◌∷◌, [], ◌++◌, List, map, filter, sym, subst, ap, ◌∙◌, arith}
use Rattle.sg_words.specs.Address.{word_at}
use Rattle.sg_words.specs.Sections.{globals_base}
use Rattle.sg_space.specs.Standing.{word}
use Rattle.sg_copy.specs.Copying.{area_of}
use Rattle.sg_minor.specs.Joined.{global_slots, holds_young}
use Rattle.sg_minor.proofs.Added.{adds-none, adds-more, global-more}
use Rattle.sg_minor.proofs.slots.add_globals.Goals as goal

pub loop-x-init : goal.loop-x-init
loop-x-init c = let s = c.args.space.now in adds-none (holds_young (area_of s) (word s)) (map word_at c.args.slots.now.items)

pub loop-x-preserved : goal.loop-x-preserved
loop-x-preserved c =
    let s = c.args.space.now in
    let x = c.loop-x.x in
    let slot : word_at c.global.result ≡ globals_base s.layout + x = let g = c.global.ensures in let l = ap globals_base c.requires.layout in omega arith in
    subst (λ (l : List ℕ). map word_at c.add_slot.new.slots.items ≡ map word_at c.args.slots.now.items ++ filter (holds_young (area_of s) (word s)) l)
    (ap (λ (z : ℕ). global_slots s.layout x ++ z ∷ []) slot ∙ sym (global-more s.layout x))
    (adds-more (holds_young (area_of s) (word s)) (map word_at c.args.slots.now.items) (map word_at c.loop-x.slots.items)
    (map word_at c.add_slot.new.slots.items) (global_slots s.layout x) (word_at c.global.result ∷ []) c.loop-x.invariant c.in_ok-add_slot.ensures)

pub returns : goal.returns
returns c =
    let s = c.args.space.now in
    let end : c.loop-x.x ≡ 64 = let above = c.loop-x-test.false in let within = c.loop-x.auto.x-end in omega arith in
    subst (λ (z : ℕ). map word_at c.loop-x.slots.items ≡ map word_at c.args.slots.now.items ++ filter (holds_young (area_of s) (word s))
    (global_slots s.layout z)) end c.loop-x.invariant
