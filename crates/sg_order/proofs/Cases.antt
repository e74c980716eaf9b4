-- The statements with an object test, those that make an object, and those that ask in any case.
use Rattle.std.proofs.Common.{◌≡◌, ℕ, Bool, None, Some, inl, inr}
use Rattle.sg_program.specs.declared.program.Statement.{Statement}
use Rattle.sg_program.specs.declared.program.Statement.TheVariants.{New, NewV, Mature, Put, Get, PutD, GetD, Num, Move, Hide, Unhide, Drop, Push, Pop, GPut, GGet, WSet, WGet, Final, NextFin, Same, Collect, Sections}
use Rattle.sg_program.specs.declared.answers.Request.{Request}
use Rattle.sg_program.specs.Scripts.{IsMaking, IsMature, MakesObject, IsCollecting}
use Rattle.sg_program.specs.Tests.{Test, test_of}

none_is_some : (test : Test) → None ≡ Some test → ⊥
none_is_some test e = cc

-- what holds of the four statements with an object test holds of each with one
pub by_test : (P : Statement → Type 0) → ((r i s : ℕ) → P (Put r i s)) → ((d r i : ℕ) → P (Get d r i)) → ((r i s : ℕ) → P (PutD r i s)) →
    ((d r i : ℕ) → P (GetD d r i)) →
    (s : Statement) (test : Test) → test_of s ≡ Some test → P s
by_test P puts gets puts_number gets_number (New r class) test e = absurd (none_is_some test e)
by_test P puts gets puts_number gets_number (NewV r class count) test e = absurd (none_is_some test e)
by_test P puts gets puts_number gets_number (Mature r class) test e = absurd (none_is_some test e)
by_test P puts gets puts_number gets_number (Put r i s) test e = puts r i s
by_test P puts gets puts_number gets_number (Get d r i) test e = gets d r i
by_test P puts gets puts_number gets_number (PutD r i s) test e = puts_number r i s
by_test P puts gets puts_number gets_number (GetD d r i) test e = gets_number d r i
by_test P puts gets puts_number gets_number (Num d n) test e = absurd (none_is_some test e)
by_test P puts gets puts_number gets_number (Move d s) test e = absurd (none_is_some test e)
by_test P puts gets puts_number gets_number (Hide d s offset) test e = absurd (none_is_some test e)
by_test P puts gets puts_number gets_number (Unhide d s) test e = absurd (none_is_some test e)
by_test P puts gets puts_number gets_number (Drop r) test e = absurd (none_is_some test e)
by_test P puts gets puts_number gets_number (Push r) test e = absurd (none_is_some test e)
by_test P puts gets puts_number gets_number (Pop r) test e = absurd (none_is_some test e)
by_test P puts gets puts_number gets_number (GPut x r) test e = absurd (none_is_some test e)
by_test P puts gets puts_number gets_number (GGet r x) test e = absurd (none_is_some test e)
by_test P puts gets puts_number gets_number (WSet x r long) test e = absurd (none_is_some test e)
by_test P puts gets puts_number gets_number (WGet r x) test e = absurd (none_is_some test e)
by_test P puts gets puts_number gets_number (Final r) test e = absurd (none_is_some test e)
by_test P puts gets puts_number gets_number (NextFin r) test e = absurd (none_is_some test e)
by_test P puts gets puts_number gets_number (Same r s) test e = absurd (none_is_some test e)
by_test P puts gets puts_number gets_number (Collect major) test e = absurd (none_is_some test e)
by_test P puts gets puts_number gets_number Sections test e = absurd (none_is_some test e)

-- what holds of the two statements that make an object in the nursery holds of each that does
pub by_making : (P : Statement → Type 0) → ((r class : ℕ) → P (New r class)) → ((r class count : ℕ) → P (NewV r class count)) → (s : Statement) → IsMaking s →
    P s
by_making P one vector (New r class) e = one r class
by_making P one vector (NewV r class count) e = vector r class count
by_making P one vector (Mature r class) e = absurd e
by_making P one vector (Put r i s) e = absurd e
by_making P one vector (Get d r i) e = absurd e
by_making P one vector (PutD r i s) e = absurd e
by_making P one vector (GetD d r i) e = absurd e
by_making P one vector (Num d n) e = absurd e
by_making P one vector (Move d s) e = absurd e
by_making P one vector (Hide d s offset) e = absurd e
by_making P one vector (Unhide d s) e = absurd e
by_making P one vector (Drop r) e = absurd e
by_making P one vector (Push r) e = absurd e
by_making P one vector (Pop r) e = absurd e
by_making P one vector (GPut x r) e = absurd e
by_making P one vector (GGet r x) e = absurd e
by_making P one vector (WSet x r long) e = absurd e
by_making P one vector (WGet r x) e = absurd e
by_making P one vector (Final r) e = absurd e
by_making P one vector (NextFin r) e = absurd e
by_making P one vector (Same r s) e = absurd e
by_making P one vector (Collect major) e = absurd e
by_making P one vector Sections e = absurd e

-- what holds of the statement that makes one in the major heap holds of each that does
pub by_mature : (P : Statement → Type 0) → ((r class : ℕ) → P (Mature r class)) → (s : Statement) → IsMature s → P s
by_mature P one (Mature r class) e = one r class
by_mature P one s e = absurd e

-- and what holds of these three holds of each that makes an object
pub by_object : (P : Statement → Type 0) → ((r class : ℕ) → P (New r class)) → ((r class count : ℕ) → P (NewV r class count)) →
    ((r class : ℕ) → P (Mature r class)) → (s : Statement) → MakesObject s → P s
by_object P one vector mature s e = elim e [ inl making ↦ by_making P one vector s making | inr made ↦ by_mature P mature s made ]

-- what holds of a collection and of the question what stands in each section holds of each statement that asks in any case
pub by_collecting : (P : Statement → Type 0) → ((major : Bool) → P (Collect major)) → P Sections → (s : Statement) (request : Request) →
    IsCollecting s request → P s
by_collecting P collects sections (New r class) request e = absurd e
by_collecting P collects sections (NewV r class count) request e = absurd e
by_collecting P collects sections (Mature r class) request e = absurd e
by_collecting P collects sections (Put r i s) request e = absurd e
by_collecting P collects sections (Get d r i) request e = absurd e
by_collecting P collects sections (PutD r i s) request e = absurd e
by_collecting P collects sections (GetD d r i) request e = absurd e
by_collecting P collects sections (Num d n) request e = absurd e
by_collecting P collects sections (Move d s) request e = absurd e
by_collecting P collects sections (Hide d s offset) request e = absurd e
by_collecting P collects sections (Unhide d s) request e = absurd e
by_collecting P collects sections (Drop r) request e = absurd e
by_collecting P collects sections (Push r) request e = absurd e
by_collecting P collects sections (Pop r) request e = absurd e
by_collecting P collects sections (GPut x r) request e = absurd e
by_collecting P collects sections (GGet r x) request e = absurd e
by_collecting P collects sections (WSet x r long) request e = absurd e
by_collecting P collects sections (WGet r x) request e = absurd e
by_collecting P collects sections (Final r) request e = absurd e
by_collecting P collects sections (NextFin r) request e = absurd e
by_collecting P collects sections (Same r s) request e = absurd e
by_collecting P collects sections (Collect major) request e = collects major
by_collecting P collects sections Sections request e = sections
