-- What bytes begin with, as others are appended to them.
use Rattle.std.proofs.Common.{◌≡◌, ℕ, List, [], ◌++◌, length, take, Result, Ok, Err, IfErr, refl, sym, ap, ◌∙◌, append_assoc}
use Rattle.std.proofs.lemmas.List.{append-nil, take_at}
use Rattle.sg_trace.specs.Trace.{StartsWith}

pub starts_same : (a b : List ℕ) → b ≡ a → StartsWith b a
starts_same a b e = record { more = []; is = e ∙ sym (append-nil a) }

pub starts_appended : (a b t : List ℕ) → b ≡ a ++ t → StartsWith b a
starts_appended a b t e = record { more = t; is = e }

pub starts_then : (a b c : List ℕ) → StartsWith c b → StartsWith b a → StartsWith c a
starts_then a b c x y = record { more = y.more ++ x.more; is = x.is ∙ ap (λ z. z ++ x.more) y.is ∙ append_assoc a y.more x.more }

pub front_taken : (a b : List ℕ) → StartsWith b a → take (length a) b ≡ a
front_taken a b x = ap (λ z. take (length a) z) x.is ∙ take_at a x.more (length a) refl

-- what holds of an early end holds of a call that ended early
pub any_error : {T E : Type 0} {P : Type 0} (r : Result T E) → P → IfErr r (λ _. P)
any_error (Ok x) p = tt
any_error (Err e) p = p
