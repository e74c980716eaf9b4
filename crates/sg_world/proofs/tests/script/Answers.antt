use Rattle.std.proofs.Common.{◌≡◌, ◌≤◌, ◌+◌, ◌++◌, ◌∷◌, [], List, take, get_or, sym, ap, ◌∙◌, subst, arith}
use Rattle.std.specs.List.{flat_map, AllByRecursion}
use Rattle.std.proofs.lemmas.List.{take_more}
use Rattle.sg_program.specs.declared.program.Item.{Item}
use Rattle.sg_program.specs.declared.program.Statement.{Statement}
use Rattle.sg_program.specs.declared.program.Statement.TheVariants.{New}
use Rattle.sg_program.specs.Scripts.{item_out, item_text}
use Rattle.sg_program.specs.Invariants.{item_depth, item_times}
use Rattle.sg_world.proofs.Given.{joined_more, all_more}
use Rattle.sg_world.proofs.tests.script.Goals as goal

pub loop-statement-preserved : goal.loop-statement-preserved
loop-statement-preserved c =
    let i = c.loop-statement.invariant in
    let old : List Item = c.loop-statement.items.items in
    let one : Item = c.item.result in
    let given : List Statement = c.args.statements.now in
    let k = c.loop-statement.statement-index in
    let s : Statement = get_or given k (New 0 0) in
    let law = c.items_unfold.ensures in
    let items : c.push.new.self.items ≡ old ++ one ∷ [] = c.in_ok-push.ensures.items in
    let more : take (k + 1) given ≡ take k given ++ s ∷ [] = take_more given k (New 0 0) c.loop-statement-test.true in
    record {
      out = ap (flat_map item_out) items ∙ joined_more item_out old one (take k given) (s ∷ []) i.out (law.out_one one s c.item.ensures.out) ∙ sym more;
      written = ap (flat_map item_text) items ∙ joined_more item_text old one (take k given) (s ∷ []) i.written (law.text_one one s c.item.ensures.out)
          ∙ sym more;
      times = ap (flat_map item_times) items ∙ joined_more item_times old one [] [] i.times c.item.ensures.times;
      nesting = subst (AllByRecursion (λ (item : Item). item_depth item ≤ 4)) (sym items)
          (all_more (λ (item : Item). item_depth item ≤ 4) old one i.nesting (let e = c.item.ensures.depth in omega arith));
    }
