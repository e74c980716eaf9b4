-- What the statements that make an object have in common.
use Rattle.std.proofs.Common.{◌≡◌, ◌≢◌, ℕ, suc, ◌<◌, Bool, true, false, List, length, map, refl}
use Rattle.sg_words.specs.Words.{put}
use Rattle.sg_desc.specs.declared.shapes.Descriptor.{Descriptor}
use Rattle.sg_desc.specs.declared.shapes.Descriptor.TheVariants.{PtrFree, Run, Bitmap, VectorRefs, VectorPlain, Ephemeron}
use Rattle.sg_desc.specs.Shapes.{is_vector}
use Rattle.sg_program.specs.declared.program.Statement.{Statement}
use Rattle.sg_program.specs.declared.program.Program.{Program}
use Rattle.sg_program.specs.declared.answers.Answer.TheVariants.{At}
use Rattle.sg_program.specs.Scripts.{kind_of, IsSizeOf, IsMaking, MakesObject, made_in, made_class, made_fields, made_words}
use Rattle.sg_program.specs.Kinds.{IsRef, kinds_after}
use Rattle.sg_graph.specs.Graph.{Entry, Ref, Mutator, Graph, grown, advanced}
use Rattle.sg_graph.specs.Statements.{Does}
use Rattle.sg_graph.specs.Book.{Book, IsPlaced, Books}
use Rattle.sg_graph.specs.Pause.{is_pair}
use Rattle.sg_order.specs.Rest.{kind_of_entry}
use Rattle.sg_rules.specs.Resting.{IsRunnable}
use Rattle.sg_words.proofs.Puts.{put-along}
use Rattle.sg_order.proofs.Cases.{by_making, by_object}
use Rattle.sg_order.proofs.Moves.{kinds_of}

pub no_pair : (kind : Descriptor) → kind ≢ Ephemeron → is_pair kind ≡ false
no_pair PtrFree e = refl
no_pair (Run first count) e = refl
no_pair (Bitmap bits) e = refl
no_pair VectorRefs e = refl
no_pair VectorPlain e = refl
no_pair Ephemeron e = absurd (e refl)

pub vector_no_pair : (kind : Descriptor) → is_vector kind ≡ true → is_pair kind ≡ false
vector_no_pair PtrFree e = refl
vector_no_pair (Run first count) e = refl
vector_no_pair (Bitmap bits) e = refl
vector_no_pair VectorRefs e = refl
vector_no_pair VectorPlain e = refl
vector_no_pair Ephemeron e = absurd (let q : false ≡ true = e in cc)

true_false : (x : Bool) → x ≡ true → x ≡ false → ⊥
true_false true e q = cc
true_false false e q = cc

-- the class is one of the program's, and no pairs are of it; the number of fields is right
pub made_known : (p : Program) (s : Statement) → MakesObject s → IsRunnable p s → made_class s < length p.classes
made_known p s making = by_object (λ s. IsRunnable p s → made_class s < length p.classes) (λ r class q. q.good.names) (λ r class count q. q.good.names)
    (λ r class q. q.good.names) s making

pub made_no_pair : (p : Program) (s : Statement) → MakesObject s → IsRunnable p s → is_pair (kind_of p (made_class s)) ≡ false
made_no_pair p s making = by_object (λ s. IsRunnable p s → is_pair (kind_of p (made_class s)) ≡ false)
    (λ r class q. no_pair (kind_of p class) q.run) (λ r class count q. vector_no_pair (kind_of p class) q.good.fits)
    (λ r class q. no_pair (kind_of p class) q.run) s making

pub made_sized : (p : Program) (s : Statement) → MakesObject s → IsRunnable p s → IsSizeOf p (made_class s) (made_fields p s)
made_sized p s making = by_object (λ s. IsRunnable p s → IsSizeOf p (made_class s) (made_fields p s))
    (λ r class q. (q.small, λ e. refl)) (λ r class count q. (q.small, λ e. absurd (true_false (is_vector (kind_of p class)) q.good.fits e)))
    (λ r class q. (q.small, λ e. refl)) s making

-- what the statement does, and what it does to the book
pub does_making : (p : Program) (g : Graph) (k : ℕ) (m : Mutator) (s : Statement) (rest : List Statement) → MakesObject s →
    Does p g k m s rest (At (suc g.count)) (advanced (grown p g k (made_class s) (made_fields p s)) k
    (record m { register = put m.register (made_in s) (Ref (suc g.count)) }) rest)
does_making p g k m s rest making =
    by_object (λ s. Does p g k m s rest (At (suc g.count))
    (advanced (grown p g k (made_class s) (made_fields p s)) k (record m { register = put m.register (made_in s) (Ref (suc g.count)) }) rest))
    (λ r class. (refl, refl)) (λ r class count. (refl, refl)) (λ r class. (refl, refl)) s making

pub books_making : (p : Program) (g : Graph) (b : Book) (k : ℕ) (s : Statement) (name : ℕ) (c : Book) → IsMaking s →
    IsPlaced p b k (made_words p s) name c → Books p g b k s (At name) c
books_making p g b k s name c making = by_making (λ s. IsPlaced p b k (made_words p s) name c → Books p g b k s (At name) c) (λ r class q. q)
    (λ r class count q. q) s making

pub kinds_making : (s : Statement) (entry : ℕ → Entry) (stack : List Entry) (name : ℕ) → MakesObject s → (r : ℕ) →
    (kinds_after (kinds_of entry stack) s).register r ≡ kind_of_entry (put entry (made_in s) (Ref name) r)
kinds_making s entry stack name making = by_object
    (λ s. (r : ℕ) → (kinds_after (kinds_of entry stack) s).register r ≡ kind_of_entry (put entry (made_in s) (Ref name) r))
    (λ r class. put-along kind_of_entry (λ q. kind_of_entry (entry q)) entry r IsRef (Ref name) (λ q. refl) refl)
    (λ r class count. put-along kind_of_entry (λ q. kind_of_entry (entry q)) entry r IsRef (Ref name) (λ q. refl) refl)
    (λ r class. put-along kind_of_entry (λ q. kind_of_entry (entry q)) entry r IsRef (Ref name) (λ q. refl) refl) s making

pub piled_making : (s : Statement) (entry : ℕ → Entry) (stack : List Entry) → MakesObject s →
    (kinds_after (kinds_of entry stack) s).stack ≡ map kind_of_entry stack
piled_making s entry stack making = by_object (λ s. (kinds_after (kinds_of entry stack) s).stack ≡ map kind_of_entry stack) (λ r class. refl)
    (λ r class count. refl) (λ r class. refl) s making
