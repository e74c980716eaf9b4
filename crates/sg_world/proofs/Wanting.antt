-- What the requests of a stop want, told mutator by mutator.
use Rattle.std.proofs.Common.{◌≡◌, ℕ, ◌+◌, ◌<◌, ◌||◌, Bool, true, false, Some, List, [], ◌∷◌, ◌++◌, length, get_or, take, sym, refl, ap, ◌∙◌, subst, append-nil}
use Rattle.std.proofs.lemmas.List.{take_more}
use Rattle.std.proofs.lemmas.List.Concat.{flat_map-append}
use Rattle.sg_program.specs.declared.answers.Leave.TheVariants.{Wants as HasAsked}
use Rattle.sg_program.specs.declared.answers.Request.{Request}
use Rattle.sg_graph.specs.Laws.{needed_by, needs_of, sized_by, sizes_of}
use Rattle.sg_graph.specs.Stop.{Asked, wants_minor, wants_major, wants_blocks, some_wants}
use Rattle.sg_actor.specs.declared.mutator.Stage.{Stage}
use Rattle.sg_actor.specs.declared.mutator.Stage.TheVariants.{Asking}
use Rattle.sg_actor.specs.State.{Mutating, leave_of}
use Rattle.sg_world.specs.declared.wants.Wants.{Wants}
use Rattle.sg_world.specs.Stopping.{asked_of, requests_of, AreWanted}
use Rattle.sg_world.proofs.Asked.{wants_more, needs_more, sizes_more}

-- who leaves with a request asks for it, and nobody else asks
pub record AsksFor (m : Mutating) (stage : Stage) (request : Request) : Type 0 where
  pub asked : Asked
  pub is : asked_of m stage ≡ asked ∷ []
  pub request_is : asked.request ≡ request

pub asks_by : (m : Mutating) (stage : Stage) (request : Request) → leave_of stage ≡ Some (HasAsked request) → AsksFor m stage request
asks_by m (Asking statement other) request e = record {
  asked = record { by = m.number; statement = m.first + length m.told; request = other };
  is = refl;
  request_is = cc e;
}
asks_by m stage request e = absurd (cc e)

pub asks_nothing : (m : Mutating) (stage : Stage) → ((request : Request) → leave_of stage ≡ Some (HasAsked request) → ⊥) → asked_of m stage ≡ []
asks_nothing m (Asking statement request) none = absurd (none request refl)
asks_nothing m stage none = refl

pub wants_none : (requests : List Asked) (m : Mutating) (stage : Stage) (wants : Wants) → asked_of m stage ≡ [] → AreWanted requests wants →
    AreWanted (requests ++ asked_of m stage) wants
wants_none requests m stage wants none are =
    subst (λ (xs : List Asked). AreWanted xs wants) (sym (append-nil requests) ∙ ap (λ xs. requests ++ xs) (sym none)) are

-- with one request more
pub wants_one : (requests : List Asked) (m : Mutating) (stage : Stage) (request : Request) (old new : Wants) → AsksFor m stage request →
    AreWanted requests old →
    new.minor ≡ (old.minor || wants_minor request) → new.major ≡ (old.major || wants_major request) → new.blocks ≡ (old.blocks || wants_blocks request) →
    new.needs.items ≡ old.needs.items ++ needed_by request [] → new.sizes.items ≡ old.sizes.items ++ sized_by request [] →
    AreWanted (requests ++ asked_of m stage) new
wants_one requests m stage request old new asks are minor major blocks needs sizes =
    subst (λ (xs : List Asked). AreWanted (requests ++ xs) new) (sym asks.is) (record {
      minor = minor ∙ ap (λ x. x || wants_minor request) are.minor ∙ flag wants_minor;
      major = major ∙ ap (λ x. x || wants_major request) are.major ∙ flag wants_major;
      blocks = blocks ∙ ap (λ x. x || wants_blocks request) are.blocks ∙ flag wants_blocks;
      needs = needs ∙ ap (λ xs. xs ++ needed_by request []) are.needs
          ∙ ap (λ (r : Request). needs_of requests ++ needed_by r []) (sym asks.request_is) ∙ sym (needs_more requests asks.asked);
      sizes = sizes ∙ ap (λ xs. xs ++ sized_by request []) are.sizes
          ∙ ap (λ (r : Request). sizes_of requests ++ sized_by r []) (sym asks.request_is) ∙ sym (sizes_more requests asks.asked);
    })
  where
    flag : (wants : Request → Bool) → (some_wants wants requests || wants request) ≡ some_wants wants (requests ++ asks.asked ∷ [])
    flag wants = ap (λ (r : Request). some_wants wants requests || wants r) (sym asks.request_is) ∙ sym (wants_more wants requests asks.asked)

pub or_true : (b : Bool) → true ≡ (b || true)
or_true true = refl
or_true false = refl

pub or_false : (b : Bool) → b ≡ (b || false)
or_false true = refl
or_false false = refl

-- one mutator more
module _ (ms : List Mutating) (k : ℕ) (m : Mutating) (there : k < length ms) (is : m ≡ get_or ms k m) where
  pub requests_more : requests_of (take k ms) ++ asked_of m m.stage ≡ requests_of (take (k + 1) ms)
  requests_more =
      ap (λ xs. requests_of (take k ms) ++ xs) (sym (append-nil (asked_of m m.stage)))
      ∙ sym (flat_map-append (λ (x : Mutating). asked_of x x.stage) (take k ms) (m ∷ []))
      ∙ ap requests_of (ap (λ (x : Mutating). take k ms ++ x ∷ []) is ∙ sym (take_more ms k m there))
