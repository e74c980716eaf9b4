use Rattle.std.proofs.Common.{◌≡◌, ℕ, List, [], ◌∷◌, codes, string_bytes, sym, ap, ◌∙◌, rules}
use Rattle.std.specs.Fmt.{decimal}
use Rattle.sg_command.specs.Command.{spelled, Spells}
use Rattle.sg_command.proofs.Words.{map_one, map_two, map_three}
use Rattle.sg_command.proofs.job.command.Goals as goal

pub returns-in-len1 : goal.returns-in-len1
returns-in-len1 c =
    let name : string_bytes c.name-item.result ≡ codes "run" = search rules in
    map_one string_bytes c.args.words.now c.name-item.result c.in-len1.len_at_least c.in-len1.len_below c.name-item.is ∙ ap (λ (word : List ℕ). word ∷ []) name

pub returns-in-Some : goal.returns-in-Some
returns-in-Some c =
    let name : string_bytes c.name-item-then-words-lt3.result ≡ codes "replay" = search rules in
    let spells : Spells c.as_bytes.result.now c.in-Some.turns = rw c.in-Some.is at c.in_ok-turns-in-len2.ensures in
    let list : string_bytes c.list-item.result ≡ spelled c.in-Some.turns = sym c.as_bytes.ensures.value ∙ spells.0 in
    let both = map_two string_bytes c.args.words.now c.name-item-then-words-lt3.result c.list-item.result c.in-len2.len_at_least c.in-len2.len_below c.name-item-then-words-lt3.is c.list-item.is in
    let replay : codes "replay" ∷ spelled c.in-Some.turns ∷ [] ≡ string_bytes c.name-item-then-words-lt3.result ∷ string_bytes c.list-item.result ∷ [] =
    ap (λ (word : List ℕ). word ∷ spelled c.in-Some.turns ∷ []) (sym name) ∙ ap (λ (word : List ℕ). string_bytes c.name-item-then-words-lt3.result ∷ word ∷ []) (sym list) in
    (both ∙ sym replay, spells.1)

pub returns-in-Some-load_in : goal.returns-in-Some-load_in
returns-in-Some-load_in c =
    let name : string_bytes c.name-item-then-words-lt4.result ≡ codes "gen" = search rules in
    let all = map_three string_bytes c.args.words.now c.name-item-then-words-lt4.result c.seed-item.result c.size-item.result c.in-len3.len_at_least c.in-len3.len_below
    c.name-item-then-words-lt4.is c.seed-item.is c.size-item.is in
    let seed : string_bytes c.seed-item.result ≡ decimal c.in-Some-load_in.seed = sym c.as_str-in-len3.ensures.value ∙ c.in-Some-load_in.ensures.0 in
    let size : string_bytes c.size-item.result ≡ decimal c.in-Some-load_in.size = sym c.as_str-in-len3-2.ensures.value ∙ c.in-Some-load_in.ensures.1 in
    (all ∙ cc, c.in-Some-load_in.ensures.2)
