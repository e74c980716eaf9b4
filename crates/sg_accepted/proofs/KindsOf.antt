-- No statement of a move finds an operand of another kind than it needs.
use Rattle.std.proofs.Common.{◌≡◌, List, [], ◌∷◌, map, refl}
use Rattle.std.specs.List.{AllByRecursion}
use Rattle.sg_words.specs.Words.{put}
use Rattle.sg_program.specs.declared.program.Item.{Item, out-roll-Item}
use Rattle.sg_program.specs.declared.program.Item.TheOpen.{One}
use Rattle.sg_program.specs.declared.program.Statement.{Statement}
use Rattle.sg_program.specs.declared.program.Script.{Script}
use Rattle.sg_program.specs.Kinds.{Kinds, IsRef, Needs, kinds_after, Leads, Done, Does, HasNoMisuse, first_kinds}
use Rattle.sg_gen.specs.declared.generated.Move.{Move}
use Rattle.sg_gen.specs.declared.generated.Move.TheVariants.{Grows, Reads, Shrinks}
use Rattle.sg_load.specs.Generated.{item_of, all_statements, script_of_moves}

-- a statement, and the items behind it
does : (k : Kinds) (s : Statement) (rest : List Item) (j : Kinds) → Needs k s → Leads (kinds_after k s) rest j → Leads k (item_of s ∷ rest) j
does k s rest j needs leads = Does k (item_of s) s rest j (out-roll-Item (One s)) needs leads

-- between moves registers 0 and 2 hold objects or none
leads : (moves : List Move) (k : Kinds) → k.register 0 ≡ IsRef → k.register 2 ≡ IsRef → (j : Kinds) × Leads k (map item_of (all_statements moves)) j
unfolding put
leads [] k zeroth second = (k, Done k)
leads (Grows global number ∷ moves) k zeroth second =
    let rest = leads moves _ refl refl in
    (rest.0, does k _ _ _ tt (does _ _ _ _ tt (does _ _ _ _ (refl, refl) (does _ _ _ _ tt (does _ _ _ _ (refl, refl) (does _ _ _ _ refl rest.1))))))
leads (Reads global ∷ moves) k zeroth second =
    let rest = leads moves _ zeroth refl in
    (rest.0, does k _ _ _ tt (does _ _ _ _ refl (does _ _ _ _ refl (does _ _ _ _ refl (does _ _ _ _ refl (does _ _ _ _ refl rest.1))))))
leads (Shrinks global ∷ moves) k zeroth second =
    let rest = leads moves _ refl refl in
    (rest.0, does k _ _ _ tt (does _ _ _ _ refl (does _ _ _ _ refl (does _ _ _ _ tt (does _ _ _ _ tt (does _ _ _ _ tt rest.1))))))

pub no_misuse : (mss : List (List Move)) → AllByRecursion (λ (script : Script). HasNoMisuse script.items) (map script_of_moves mss)
no_misuse [] = tt
no_misuse (moves ∷ mss) = (leads moves first_kinds refl refl, no_misuse mss)
