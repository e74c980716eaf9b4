use Rattle.std.proofs.Common.{◌≡◌, ℕ, List, [], ◌∷◌, codes, refl, ap, sym, ◌∙◌, arith}
use Rattle.std.specs.Fmt.{decimal}
use Rattle.std.proofs.lemmas.Fmt.{decimal_injective}
use Rattle.sg_command.specs.Command.{IsCommand, spelled}
use Rattle.sg_command.specs.declared.job.Job.{Job}
use Rattle.sg_command.specs.declared.job.Job.TheVariants.{Run, Replay, Gen}
use Rattle.sg_command.proofs.Spellings.{one_list}
use Rattle.sg_command.proofs.laws.one_job.Goals as goal

law : (words : List (List ℕ)) (first second : Job) → IsCommand words first → IsCommand words second → first ≡ second
law words Run Run one two = refl
law words Run (Replay turns) one two = let clash : codes "run" ∷ [] ≡ codes "replay" ∷ spelled turns ∷ [] = sym one ∙ two.0 in absurd cc
law words (Replay turns) Run one two = let clash : codes "run" ∷ [] ≡ codes "replay" ∷ spelled turns ∷ [] = sym two ∙ one.0 in absurd cc
law words Run (Gen seed size) one two = let clash : codes "run" ∷ [] ≡ codes "gen" ∷ decimal seed ∷ decimal size ∷ [] = sym one ∙ two.0 in absurd cc
law words (Gen seed size) Run one two = let clash : codes "run" ∷ [] ≡ codes "gen" ∷ decimal seed ∷ decimal size ∷ [] = sym two ∙ one.0 in absurd cc
law words (Replay turns) (Gen seed size) one two =
    let clash : codes "replay" ∷ spelled turns ∷ [] ≡ codes "gen" ∷ decimal seed ∷ decimal size ∷ [] = sym one.0 ∙ two.0 in absurd cc
law words (Gen seed size) (Replay turns) one two =
    let clash : codes "replay" ∷ spelled turns ∷ [] ≡ codes "gen" ∷ decimal seed ∷ decimal size ∷ [] = sym two.0 ∙ one.0 in absurd cc
law words (Gen seed size) (Gen seed' size') one two =
    let both : codes "gen" ∷ decimal seed ∷ decimal size ∷ [] ≡ codes "gen" ∷ decimal seed' ∷ decimal size' ∷ [] = sym one.0 ∙ two.0 in
    let seeds : decimal seed ≡ decimal seed' = cc in
    let sizes : decimal size ≡ decimal size' = cc in
    let least = one.1.small in
    let least' = two.1.small in
    let same_seed : seed ≡ seed' = decimal_injective seed seed' one.1.seed_fits two.1.seed_fits seeds in
    let same_size : size ≡ size' = decimal_injective size size' (omega (arith, least)) (omega (arith, least')) sizes in
    cc
law words (Replay turns) (Replay turns') one two =
    let both : codes "replay" ∷ spelled turns ∷ [] ≡ codes "replay" ∷ spelled turns' ∷ [] = sym one.0 ∙ two.0 in
    let lists : spelled turns ≡ spelled turns' = cc in
    ap (λ (ts : List ℕ). Replay ts) (one_list turns turns' one.1 two.1 lists)

pub returns : goal.returns
returns c = law
