-- Whose turn it is in rotation.
use Rattle.std.proofs.Common.{◌≡◌, ℕ, suc, ◌+◌, ◌-◌, ◌*◌, ◌%◌, ◌/◌, ◌<◌, ◌≤◌, List, ◌∷◌, length, get_or, drop, inl, inr, sym, ap, ◌∙◌, subst, arith, add-one, drop-cons}
use Rattle.std.proofs.Math.Nat.{div-add-mod}
use Rattle.std.proofs.lemmas.Nat.{mod-mul-add}
use Rattle.std.proofs.lemmas.List.{drop_all}
use Rattle.std.proofs.lemmas.Bool.{cases_lt}
use Rattle.sg_cells.specs.Ended.{HasEnded, SomeIsLeft}
use Rattle.sg_words.specs.Schedule.{Schedule, IsFirstGoing, Gives, Listed, Spent, Rotates}

-- n + j, which is q times the actors and k, stands for actor k
stands_for : (n j q k actors : ℕ) → k < actors → n + j ≡ q * actors + k → (n + j) % actors ≡ k
stands_for n j q k actors less e = ap (λ x. x % actors) e ∙ mod-mul-add q actors k less

-- an actor is some number of places behind any place
pub places_behind : (next k actors : ℕ) → 1 ≤ actors → k < actors → (j : ℕ) × (j < actors) × ((next + j) % actors ≡ k)
places_behind next k actors some less =
    let whole = div-add-mod next actors in
    let low : next % actors < actors = omega arith in
    elim (cases_lt k (next % actors)) [
      | inl below ↦ (k + actors - next % actors, omega arith, stands_for next (k + actors - next % actors) (next / actors + 1) k actors less (omega arith))
      | inr above ↦ (k - next % actors, omega arith, stands_for next (k - next % actors) (next / actors) k actors less (omega arith))
    ]

-- where some actor is left, the rotation finds one
pub finds_one : (actors ended next : ℕ) → 1 ≤ actors → SomeIsLeft actors ended → ((j : ℕ) → j < actors → HasEnded ended ((next + j) % actors)) → ⊥
finds_one actors ended next some left none =
    let p = places_behind next left.0 actors some left.1 in
    left.2 (subst (λ i. HasEnded ended i) p.2 (none p.0 p.1))

first_left : (turns : List ℕ) (at n : ℕ) → at < length turns → n ≡ get_or turns at n → drop at turns ≡ n ∷ drop (at + 1) turns
first_left turns at n l e = rw (add-one, drop-cons turns at n) (ap (λ x. x ∷ drop (suc at) turns) (sym e))

-- the next number of the list is that of an actor that is left
pub gives_listed : (turns : List ℕ) (at next actors ended n : ℕ) → at < length turns → n ≡ get_or turns at n → ¬ HasEnded ended (n % actors) →
    Gives actors (HasEnded ended) (record { left = drop at turns; next = next }) (n % actors) (record { left = drop (at + 1) turns; next = next })
gives_listed turns at next actors ended n l e going = subst (λ (xs : List ℕ). Gives actors (HasEnded ended) (record { left = xs; next = next }) (n % actors) (record { left = drop (at + 1) turns; next = next }))
    (sym (first_left turns at n l e)) (Listed n (drop (at + 1) turns) next going)

-- it is that of one that has ended
pub gives_spent : (turns : List ℕ) (at next actors ended n k : ℕ) (t : Schedule) → at < length turns → n ≡ get_or turns at n → HasEnded ended (n % actors) →
    Gives actors (HasEnded ended) (record { left = drop (at + 1) turns; next = next }) k t → Gives actors (HasEnded ended) (record { left = drop at turns; next = next }) k t
gives_spent turns at next actors ended n k t l e ended_is g = subst (λ (xs : List ℕ). Gives actors (HasEnded ended) (record { left = xs; next = next }) k t)
    (sym (first_left turns at n l e)) (Spent n (drop (at + 1) turns) next k t ended_is g)

-- the list is used up
pub gives_round : (turns : List ℕ) (at next actors ended k : ℕ) → length turns ≤ at → IsFirstGoing next actors (HasEnded ended) k →
    Gives actors (HasEnded ended) (record { left = drop at turns; next = next }) k (record { left = drop at turns; next = (k + 1) % actors })
gives_round turns at next actors ended k l first = subst (λ (xs : List ℕ). Gives actors (HasEnded ended) (record { left = xs; next = next }) k (record { left = xs; next = (k + 1) % actors }))
    (sym (drop_all at turns l)) (Rotates next k first)
