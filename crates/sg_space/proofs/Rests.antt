-- One word that no object has.
use Rattle.std.proofs.Common.{◌≡◌, ℕ, ◌+◌, None, subst, arith}
use Rattle.sg_space.specs.Space.{Contents}
use Rattle.sg_space.specs.Standing.{IsFree, AreFree}

pub free_one : (s : Contents) (x : ℕ) → IsFree s x → AreFree s x (x + 1)
free_one s x free = record { none = λ owner sound z above u. let e : x ≡ z = omega arith in subst (λ (k : ℕ). owner k ≡ None) e (free.none owner sound) }
