-- Objects without one of them, and with one more.
use Rattle.std.proofs.Common.{◌≡◌, ◌≢◌, ℕ, ◌+◌, ◌<◌, ◌≤◌, nat_le, nat_lt, ◌⊎◌, inl, inr}
use Rattle.std.proofs.Common.{◌==◌, Bool, true, false, if◌then◌else◌, Option, Some, None, refl, ap, sym, ◌∙◌}
use Rattle.std.proofs.lemmas.Bool.{ne_eqb, le-leb, lt-leb, lt-ltb, le-ltb, and_left, and_right, and_from}
use Rattle.std.proofs.lemmas.Bool.Decides.{eqb_tells}
use Rattle.std.proofs.lemmas.Option.{none-some, same_Some}
use Rattle.sg_los.specs.Laws.{unless, with_object}

abbrev picked : Bool → ℕ → Option ℕ
picked b k = if b then None else Some k

some_is : (h k g : ℕ) (b : Bool) → ((b ≡ true) × (k ≡ h)) ⊎ ((b ≡ false) × (k ≢ h)) → picked b k ≡ Some g → (k ≡ g) × (k ≢ h)
some_is h k g b (inl same) e = absurd (none-some g (sym (ap (λ (z : Bool). picked z k) same.0) ∙ e))
some_is h k g b (inr other) e = (same_Some k g (sym (ap (λ (z : Bool). picked z k) other.0) ∙ e), other.1)

-- what still has an owner had it before, and it is another
pub unless_some : (h g : ℕ) (o : Option ℕ) → unless h o ≡ Some g → (o ≡ Some g) × (g ≢ h)
unless_some h g None e = absurd (none-some g e)
unless_some h g (Some k) e =
    let is = some_is h k g (k == h) (eqb_tells k h) e in
    (ap (λ (z : ℕ). Some z) is.0, λ same. is.1 (is.0 ∙ same))

-- another one stays
pub unless_keeps : (h g : ℕ) (o : Option ℕ) → o ≡ Some g → g ≢ h → unless h o ≡ Some g
unless_keeps h g o e other = ap (unless h) e ∙ ap (λ (z : Bool). picked z g) (ne_eqb g h other)

none_is : (h k : ℕ) (b : Bool) → ((b ≡ true) × (k ≡ h)) ⊎ ((b ≡ false) × (k ≢ h)) → picked b k ≡ None → k ≡ h
none_is h k b (inl same) e = same.1
none_is h k b (inr other) e = absurd (none-some k (sym e ∙ ap (λ (z : Bool). picked z k) other.0))

-- what has no owner now had none, or the one that is gone
pub unless_none : (h : ℕ) (o : Option ℕ) → unless h o ≡ None → (o ≡ None) ⊎ (o ≡ Some h)
unless_none h None e = inl refl
unless_none h (Some k) e = inr (ap (λ (z : ℕ). Some z) (none_is h k (k == h) (eqb_tells k h) e))

-- the words of the one more, and all others
pub with_inside : (owner : ℕ → Option ℕ) (h n x : ℕ) → h ≤ x → x < h + n → with_object owner h n x ≡ Some h
with_inside owner h n x from to =
    ap (λ (b : Bool). if b then Some h else owner x) (and_from (nat_le h x) (nat_lt x (h + n)) (le-leb h x from) (lt-ltb x (h + n) to))

pub with_outside : (owner : ℕ → Option ℕ) (h n x : ℕ) → (x < h) ⊎ (h + n ≤ x) → with_object owner h n x ≡ owner x
with_outside owner h n x (inl before) = ap (λ (b : Bool). if b then Some h else owner x) (and_left (nat_le h x) (nat_lt x (h + n)) (lt-leb h x before))
with_outside owner h n x (inr behind) = ap (λ (b : Bool). if b then Some h else owner x) (and_right (nat_le h x) (nat_lt x (h + n)) (le-ltb x (h + n) behind))
