-- The heap of named objects that never move and are never removed.
use Rattle.std.specs.Prelude.{ℕ, suc, Bool, false, if◌then◌else◌, List, []}
use Rattle.sg_words.specs.Words.{put}
use Rattle.sg_program.specs.declared.program.Statement.{Statement}
use Rattle.sg_program.specs.declared.program.Program.{Program}
use Rattle.sg_desc.specs.declared.shapes.Descriptor.{Descriptor}
use Rattle.sg_desc.specs.Shapes.{holds_reference}
use Rattle.sg_program.specs.Scripts.{script_of, kind_of}

-- What a register, a place of a stack or a field holds: the object with this name, where name 0 stands for none; a number; or
-- the address of the byte `offset` of the object with this name. An entry of the last sort that holds no object has offset 0.
pub data Entry : Type 0 where
  Ref : (name : ℕ) → Entry
  Int : (number : ℕ) → Entry
  Inner : (name : ℕ) → (offset : ℕ) → Entry

-- a mutator: what its registers hold; its stack, whose top stands first; the objects that it registered for finalization since
-- the last stop; the statements before it; and whether it has ended
pub record Mutator : Type 0 where
  pub register : ℕ → Entry
  pub stack : List Entry
  pub registered : List ℕ
  pub script : List Statement
  pub ended : Bool

-- a weak link: its target, where name 0 stands for none, and whether it is a long one
pub record Link : Type 0 where
  pub target : ℕ
  pub long : Bool

-- The objects have the names 1 to `count`, in the order in which they were made, each by the mutator `maker`.
-- An object has a class, a number of fields, and what each field holds. Objects are only added. Each of the 64 globals holds
-- the object with this name, where name 0 stands for none. There are 64 weak links. `registered` are the objects that are
-- registered for finalization, once for each registration, and `ready` those that are ready for it, the oldest first.
pub record Graph : Type 0 where
  pub count : ℕ
  pub maker : ℕ → ℕ
  pub class : ℕ → ℕ
  pub size : ℕ → ℕ
  pub field : ℕ → ℕ → Entry
  pub global : ℕ → ℕ
  pub link : ℕ → Link
  pub registered : List ℕ
  pub ready : List ℕ
  pub mutator : ℕ → Mutator

-- what a field without a content holds
abbrev pub empty_field : Descriptor → ℕ → ℕ → Entry
empty_field kind n i = if holds_reference kind i n then Ref 0 else Int 0

-- one more object, of class c, with n empty fields, and made by mutator k
abbrev pub grown : Program → Graph → ℕ → ℕ → ℕ → Graph
grown p g k c n = record g {
  count = suc g.count;
  maker = put g.maker (suc g.count) k;
  class = put g.class (suc g.count) c;
  size = put g.size (suc g.count) n;
  field = put g.field (suc g.count) (empty_field (kind_of p c) n);
}

-- field i of the object n holds this
abbrev pub stored : Graph → ℕ → ℕ → Entry → Graph
stored g n i entry = record g { field = put g.field n (put (g.field n) i entry) }

-- mutator k is this now, but that it has these statements before it
abbrev pub advanced : Graph → ℕ → Mutator → List Statement → Graph
advanced g k m rest = record g { mutator = put g.mutator k (record m { script = rest }) }

-- before a program: there is no object, each register, global and weak link holds none, nothing is registered, and each mutator
-- is before its script
abbrev pub no_objects : Program → Graph
no_objects p = record {
  count = 0;
  maker = λ _. 0;
  class = λ _. 0;
  size = λ _. 0;
  field = λ _ _. Ref 0;
  global = λ _. 0;
  link = λ _. record { target = 0; long = false };
  registered = [];
  ready = [];
  mutator = λ k. record { register = λ _. Ref 0; stack = []; registered = []; script = script_of p k; ended = false };
}
