-- What statements, settings and addresses say by themselves.
use Rattle.std.proofs.Common.{◌≡◌, ◌≢◌, ℕ, ◌-◌, ◌<◌, ◌≤◌, ◌⊎◌, ◌==◌, true, false, if◌then◌else◌, nat_lt, Option, Some, None, List, [], ◌∷◌, ◌++◌, length, set, get_or, map, reverse, refl, sym, ap, ◌∙◌, subst, inl, inr, arith, rules, get_or-set_same, get_or-set_other}
use Rattle.std.proofs.Math.Path.{fun_ext}
use Rattle.std.proofs.lemmas.List.{map-append, reverse-append}
use Rattle.std.proofs.lemmas.Bool.{cases_eq, cond-true, cond-false, lt-ltb, le-ltb}
use Rattle.sg_words.specs.Address.{IsAddress}
use Rattle.sg_words.specs.Tags.{plain_word, ReadsClass}
use Rattle.sg_words.specs.Words.{put}
use Rattle.sg_words.proofs.Puts.{put-at, put-other}
use Rattle.sg_program.specs.declared.program.Statement.{Statement}
use Rattle.sg_program.specs.declared.program.Statement.TheVariants.{New, NewV, Mature, Put, Get, PutD, GetD, Num, Move, Hide, Unhide, Drop, Push, Pop, GPut, GGet, WSet, WGet, Final, NextFin, Same, Collect, Sections}
use Rattle.sg_program.specs.declared.program.Program.{Program}
use Rattle.sg_program.specs.declared.answers.Answer.TheVariants.{Yes, No}
use Rattle.sg_program.specs.declared.answers.Request.{Request}
use Rattle.sg_program.specs.declared.answers.Request.TheVariants.{Need, Slot, Minor, Major, Sections as AllSections}
use Rattle.sg_program.specs.Scripts.{IsMaking, IsMature, MakesObject, IsCollecting, made_in, made_class, made_words, made_slot, IsRequestOf}
use Rattle.sg_program.specs.Invariants.{AreWithinLimits, IsGood, IsBuilt}
use Rattle.sg_program.specs.Tests.{Test, test_of}
use Rattle.sg_rules.specs.Rules.{Constants, Look, Ask, Actor, IsInHeap, IsReference, looking, unhidden}
use Rattle.sg_actor.specs.declared.mutator.Held.{Held}
use Rattle.sg_actor.specs.State.{slot_of}
use Rattle.sg_actor.specs.Testing.{IsDirect}

-- a write of a list is a change of the function that reads it
pub put_set : (xs : List ℕ) (k v : ℕ) → k < length xs → (λ j. get_or (set xs k v) j 0) ≡ put (λ j. get_or xs j 0) k v
put_set xs k v l = fun_ext (λ j. elim (cases_eq j k) [
  | inl e ↦ ap (λ i. get_or (set xs k v) i 0) e ∙ get_or-set_same xs k v 0 l ∙ sym (put-at _ k v j e)
  | inr n ↦ get_or-set_other xs k j v 0 n ∙ sym (put-other _ k v j n)
])

-- what is put on the code's stack is the top of the rules'
pub put_on_top : (xs : List Held) (x : Held) → reverse (map slot_of (xs ++ x ∷ [])) ≡ slot_of x ∷ reverse (map slot_of xs)
put_on_top xs x = ap reverse (map-append slot_of xs (x ∷ [])) ∙ reverse-append (map slot_of xs) (slot_of x ∷ [])

-- the word of a plain tag is read as its class
pub reads_class : (o : Option ℕ) (word class : ℕ) → class < 256 → plain_word class ≡ word → ReadsClass plain_word o word → o ≡ Some class
reads_class None word class l e r = absurd (r class l e)
reads_class (Some c) word class l e r = let u = r.1 in let same : c ≡ class = omega arith in ap (λ n. Some n) same

-- whether two words are the same, as an answer
pub same_words : (x y u v : ℕ) → x ≡ u → y ≡ v → x ≡ y → Yes ≡ (if u == v then Yes else No)
same_words x y u v e f same = search rules

pub other_words : (x y u v : ℕ) → x ≡ u → y ≡ v → x ≢ y → No ≡ (if u == v then Yes else No)
other_words x y u v e f other = search rules

-- the object of a word with an offset beside it
pub unhidden_none : (a : Actor) (s word : ℕ) → word ≡ a.reg s → word ≡ 0 → 0 ≡ unhidden a s
unhidden_none a s word e z = search rules

pub unhidden_some : (a : Actor) (s word offset : ℕ) → word ≡ a.reg s → offset ≡ a.offset s → word ≢ 0 → word - offset ≡ unhidden a s
unhidden_some a s word offset e f some = search rules

-- which request a statement makes that makes an object
pub needs : (p : Program) (s : Statement) (words : ℕ) → IsMaking s → words ≡ made_words p s → IsRequestOf p s (Need words)
needs p (New r class) words making e = e
needs p (NewV r class count) words making e = e
needs p s words making e = absurd making

pub wants_slot : (p : Program) (s : Statement) (size : ℕ) → IsMature s → size ≡ made_slot p s → IsRequestOf p s (Slot size)
wants_slot p (Mature r class) size mature e = e
wants_slot p s size mature e = absurd mature

-- what a statement asks for in any case is its request, and no register is set
pub collects : (p : Program) (s : Statement) (request : Request) → IsCollecting s request → IsRequestOf p s request × (made_in s < 16)
collects p (Collect false) Minor is = (tt, omega arith)
collects p (Collect true) Major is = (tt, omega arith)
collects p Sections AllSections is = (tt, omega arith)
collects p s request is = absurd is

-- a statement that is run now, tests no object, asks for nothing in any case and is none of these touches no shared word but the stop word
pub is_direct : (p : Program) (s : Statement) → IsBuilt p s → test_of s ≡ None → ((request : Request) → ¬ IsCollecting s request) →
    ((r class : ℕ) → s ≢ New r class) → ((r class count : ℕ) → s ≢ NewV r class count) → ((r class : ℕ) → s ≢ Mature r class) →
    ((d r offset : ℕ) → s ≢ Hide d r offset) →
    ((x r : ℕ) → s ≢ GPut x r) → ((r x : ℕ) → s ≢ GGet r x) → IsDirect s
is_direct p (New r class) built none quiet new newv mature hide gput gget = absurd (new r class refl)
is_direct p (NewV r class count) built none quiet new newv mature hide gput gget = absurd (newv r class count refl)
is_direct p (Mature r class) built none quiet new newv mature hide gput gget = absurd (mature r class refl)
is_direct p (Put r i s) built none quiet new newv mature hide gput gget = cc
is_direct p (Get d r i) built none quiet new newv mature hide gput gget = cc
is_direct p (PutD r i s) built none quiet new newv mature hide gput gget = cc
is_direct p (GetD d r i) built none quiet new newv mature hide gput gget = cc
is_direct p (Num d n) built none quiet new newv mature hide gput gget = tt
is_direct p (Move d s) built none quiet new newv mature hide gput gget = tt
is_direct p (Hide d s offset) built none quiet new newv mature hide gput gget = absurd (hide d s offset refl)
is_direct p (Unhide d s) built none quiet new newv mature hide gput gget = tt
is_direct p (Drop r) built none quiet new newv mature hide gput gget = tt
is_direct p (Push r) built none quiet new newv mature hide gput gget = tt
is_direct p (Pop r) built none quiet new newv mature hide gput gget = tt
is_direct p (GPut x r) built none quiet new newv mature hide gput gget = absurd (gput x r refl)
is_direct p (GGet r x) built none quiet new newv mature hide gput gget = absurd (gget r x refl)
is_direct p (WSet w r long) built none quiet new newv mature hide gput gget = absurd built
is_direct p (WGet r w) built none quiet new newv mature hide gput gget = absurd built
is_direct p (Final r) built none quiet new newv mature hide gput gget = absurd built
is_direct p (NextFin r) built none quiet new newv mature hide gput gget = absurd built
is_direct p (Same r s) built none quiet new newv mature hide gput gget = tt
is_direct p (Collect true) built none quiet new newv mature hide gput gget = absurd (quiet Major tt)
is_direct p (Collect false) built none quiet new newv mature hide gput gget = absurd (quiet Minor tt)
is_direct p Sections built none quiet new newv mature hide gput gget = absurd (quiet AllSections tt)

-- the operands of a statement that makes an object
pub made_register : (p : Program) (s : Statement) → MakesObject s → IsGood p s → made_in s < 16
made_register p (New r class) making good = let l : r ≤ 15 = good.operands in omega arith
made_register p (NewV r class count) making good = let l : r ≤ 15 = good.operands.0 in omega arith
made_register p (Mature r class) making good = let l : r ≤ 15 = good.operands in omega arith
made_register p s (inl making) good = absurd making
made_register p s (inr mature) good = absurd mature

pub made_class_there : (p : Program) (s : Statement) → MakesObject s → IsGood p s → made_class s < length p.classes
made_class_there p (New r class) making good = good.names
made_class_there p (NewV r class count) making good = good.names
made_class_there p (Mature r class) making good = good.names
made_class_there p s (inl making) good = absurd making
made_class_there p s (inr mature) good = absurd mature

-- the register of an object test
abbrev IsIn16 : Option Test → Type 0
IsIn16 None = Unit {0}
IsIn16 (Some t) = t.register < 16

in_16 : (p : Program) (s : Statement) → IsGood p s → IsIn16 (test_of s)
in_16 p (Put r i s) good = let l : r ≤ 15 = good.operands.0 in omega arith
in_16 p (Get d r i) good = let l : r ≤ 15 = good.operands.1 in omega arith
in_16 p (PutD r i s) good = let l : r ≤ 15 = good.operands.0 in omega arith
in_16 p (GetD d r i) good = let l : r ≤ 15 = good.operands.1 in omega arith
in_16 p s good = tt

pub test_register : (p : Program) (s : Statement) (t : Test) → IsGood p s → test_of s ≡ Some t → t.register < 16
test_register p s t good is = subst IsIn16 is (in_16 p s good)

-- an address of the heap of a program within the limits
pub is_address : (p : Program) (a : ℕ) → AreWithinLimits p.config → IsInHeap p a → IsAddress a
is_address p a l i = (omega (arith, i.above), omega (arith, i.below, l.nursery_most, l.blocks_most), i.whole)

pub is_reference : (p : Program) (v : ℕ) → AreWithinLimits p.config → IsReference p v → (v ≡ 0) ⊎ IsAddress v
is_reference p v l r = elim r [ inl none ↦ inl none | inr i ↦ inr (is_address p v l i) ]

-- whether there is a fragment to look at
pub looks_at : (lay : Constants) (s : Statement) (f : ℕ) → f < lay.fragments → looking lay s f ≡ Look s f
looks_at lay s f l = cond-true (nat_lt f lay.fragments) (Look s f) (Ask s) (lt-ltb f lay.fragments l)

pub looks_past : (lay : Constants) (s : Statement) (f : ℕ) → lay.fragments ≤ f → looking lay s f ≡ Ask s
looks_past lay s f l = cond-false (nat_lt f lay.fragments) (Look s f) (Ask s) (le-ltb f lay.fragments l)
