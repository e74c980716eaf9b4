-- Owners of words and first words of objects.
use Rattle.std.proofs.Common.{◌≡◌, ◌≢◌, ℕ, zero, suc, Some, None, true, refl, sym, ap, ◌∙◌, arith}
use Rattle.std.proofs.lemmas.Option.{none-some, same_Some}
use Rattle.sg_graph.specs.Graph.{Entry, Ref, Int, Inner}
use Rattle.sg_graph.specs.Heap.{Owner, Of, Frag, Buf, Nobody, IsOfSort}
use Rattle.sg_heap.specs.Fronts.{front_of}

pub of-same : (m n : ℕ) → Of m ≡ Of n → m ≡ n
of-same m n e = cc

-- a field of the sort of references is one
pub ref-of : (e : Entry) → IsOfSort true e → (k : ℕ) × (e ≡ Ref k)
ref-of (Ref k) h = (k, refl)
ref-of (Int v) h = absurd h
ref-of (Inner v o) h = absurd h

pub front_named : (address : ℕ → ℕ) (n : ℕ) → n ≢ 0 → front_of address (Of n) ≡ Some (address n)
unfolding front_of
front_named address zero some = absurd (some refl)
front_named address (suc n) some = refl

pub named_front : (address : ℕ → ℕ) (o : Owner) (h : ℕ) → front_of address o ≡ Some h → (n : ℕ) × (n ≢ 0) × (o ≡ Of n) × (address n ≡ h)
unfolding front_of
named_front address (Of zero) h e = absurd (none-some h e)
named_front address (Of (suc n)) h e = (suc n, (λ z. absurd (omega arith)), refl, same_Some _ _ e)
named_front address (Frag f) h e = absurd (none-some h e)
named_front address (Buf k) h e = absurd (none-some h e)
named_front address Nobody h e = absurd (none-some h e)

pub unnamed_front : (address : ℕ → ℕ) (o : Owner) → front_of address o ≡ None → (n : ℕ) → n ≢ 0 → o ≢ Of n
unnamed_front address o none n some e = none-some (address n) (sym none ∙ ap (front_of address) e ∙ front_named address n some)

pub fragment_is : (address : ℕ → ℕ) (f : ℕ) → front_of address (Frag f) ≡ None
unfolding front_of
fragment_is address f = refl
