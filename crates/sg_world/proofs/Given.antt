-- The program of the test, which can be run.
use Rattle.std.proofs.Common.{◌≡◌, ℕ, zero, suc, ◌≤◌, List, [], ◌∷◌, ◌++◌, length, count_by, sym, refl, ap, ◌∙◌, subst, arith, true}
use Rattle.std.specs.List.{flat_map, AllByRecursion}
use Rattle.std.proofs.lemmas.List.Concat.{flat_map-append}
use Rattle.sg_desc.specs.declared.shapes.Descriptor.TheVariants.{PtrFree}
use Rattle.sg_program.specs.declared.program.Config.{Config}
use Rattle.sg_program.specs.declared.program.Item.{Item}
use Rattle.sg_program.specs.declared.program.Script.{Script}
use Rattle.sg_program.specs.declared.program.Statement.{Statement}
use Rattle.sg_program.specs.declared.program.Statement.TheVariants.{New, Mature, Drop, Collect}
use Rattle.sg_program.specs.declared.program.Program.{Program}
use Rattle.sg_program.specs.Scripts.{written, written_out, script_of, is_final}
use Rattle.sg_program.specs.Kinds.{first_kinds}
use Rattle.sg_program.specs.Invariants.{AreWithinLimits, item_depth, item_times, FindKinds, IsGood, IsGoodScript}
use Rattle.sg_rules.specs.Resting.{IsRunnable}
use Rattle.sg_world.specs.Worlds.{CanRun}

-- the script has these statements, without repeats
pub record IsScript (script : Script) (statements : List Statement) : Type 0 where
  pub out : written_out script.items ≡ statements
  pub written : written script.items ≡ statements
  pub times : flat_map item_times script.items ≡ []
  pub nesting : AllByRecursion (λ (item : Item). item_depth item ≤ 4) script.items

-- one more at the end
pub joined_more : {A B : Type 0} (F : A → List B) (xs : List A) (x : A) (ys zs : List B) → flat_map F xs ≡ ys → F x ≡ zs →
    flat_map F (xs ++ x ∷ []) ≡ ys ++ (zs ++ [])
joined_more F xs x ys zs e f = flat_map-append F xs (x ∷ []) ∙ ap (λ us. us ++ (F x ++ [])) e ∙ ap (λ us. ys ++ (us ++ [])) f

pub all_more : {A : Type 0} (P : A → Type 0) (xs : List A) (x : A) → AllByRecursion P xs → P x → AllByRecursion P (xs ++ x ∷ [])
all_more P [] x a h = (h, tt)
all_more P (y ∷ xs) x a h = (a.0, all_more P xs x a.1 h)

-- the settings of the tests' programs
abbrev pub settings : Config
settings = record { nursery = 256; blocks = 1; pages = 0; buffer = 16; workers = 1; cement = 1 }

within : AreWithinLimits settings
within = record {
  nursery_least = omega arith;
  nursery_most = omega arith;
  nursery_even = refl;
  blocks_least = omega arith;
  blocks_most = omega arith;
  pages_most = omega arith;
  buffer_least = omega arith;
  buffer_most = omega arith;
  workers_least = omega arith;
  workers_most = omega arith;
  cement_least = omega arith;
  cement_most = omega arith;
}

good_script : (p : Program) (script : Script) (statements : List Statement) → IsScript script statements → AllByRecursion (IsGood p) statements →
    IsGoodScript p script
good_script p script statements is all = record {
  statements = subst (AllByRecursion (IsGood p)) (sym is.written) all;
  times = subst (λ (ns : List ℕ). AllByRecursion (λ n. (1 ≤ n) × (n ≤ 1048576)) ns) (sym is.times) tt;
  nesting = is.nesting;
}

module _ (name : List ℕ) (one two : Script) (first : IsScript one (New 0 0 ∷ Collect true ∷ Drop 0 ∷ [])) (second : IsScript two (New 0 0 ∷ New 1 0 ∷ []))
  where
    abbrev p : Program
    p = record {
      config = settings;
      classes = record { name = name; shape = record { fields = 2; kind = PtrFree } } ∷ [];
      mutators = one ∷ two ∷ [];
    }

    good_new : (r : ℕ) → r ≤ 15 → IsGood p (New r 0)
    good_new r l = record { operands = l; names = omega arith; fits = refl }

    good_collect : IsGood p (Collect true)
    good_collect = record { operands = tt; names = tt; fits = tt }

    good_drop : IsGood p (Drop 0)
    good_drop = record { operands = omega arith; names = tt; fits = tt }

    run_new : (r : ℕ) → r ≤ 15 → IsRunnable p (New r 0)
    run_new r l = record { good = good_new r l; run = λ e. cc e; small = omega arith }

    kinds : (k : ℕ) → FindKinds first_kinds (script_of p k)
    kinds zero = subst (FindKinds first_kinds) (sym first.out) (tt, (tt, (tt, tt)))
    kinds (suc zero) = subst (FindKinds first_kinds) (sym second.out) (tt, (tt, tt))
    kinds (suc (suc k)) = tt

    runnable : (k : ℕ) → AllByRecursion (IsRunnable p) (script_of p k)
    runnable zero = subst (AllByRecursion (IsRunnable p)) (sym first.out) (
      run_new 0 (omega arith),
      (record { good = good_collect; run = tt; small = omega arith }, (record { good = good_drop; run = tt; small = omega arith }, tt)),
    )
    runnable (suc zero) = subst (AllByRecursion (IsRunnable p)) (sym second.out) (run_new 0 (omega arith), (run_new 1 (omega arith), tt))
    runnable (suc (suc k)) = tt

    pub can_run : CanRun (record {
      config = settings;
      classes = record { name = name; shape = record { fields = 2; kind = PtrFree } } ∷ [];
      mutators = one ∷ two ∷ [];
    })
    can_run = record {
      limits = record {
        settings = within;
        classes = omega arith;
        fields = (omega arith, tt);
        scripts = (
          good_script p one (New 0 0 ∷ Collect true ∷ Drop 0 ∷ []) first (good_new 0 (omega arith), (good_collect, (good_drop, tt))),
          (good_script p two (New 0 0 ∷ New 1 0 ∷ []) second (good_new 0 (omega arith), (good_new 1 (omega arith), tt)), tt),
        );
        statements =
            let a : length (written_out one.items) ≡ 3 = ap length first.out in
            let b : length (written_out two.items) ≡ 2 = ap length second.out in omega arith;
        finals =
            let a : count_by is_final (written_out one.items) ≡ 0 = ap (count_by is_final) first.out in
            let b : count_by is_final (written_out two.items) ≡ 0 = ap (count_by is_final) second.out in omega arith;
        mutators_least = omega arith;
        mutators_most = omega arith;
      };
      scripts = record { kinds = kinds; runnable = runnable };
    }

module _ (name : List ℕ) (one : Script)
    (first : IsScript one (Mature 0 0 ∷ Mature 1 0 ∷ Mature 2 0 ∷ Mature 3 0 ∷ Drop 1 ∷ Mature 4 0 ∷ [])) where
  abbrev q : Program
  q = record { config = settings; classes = record { name = name; shape = record { fields = 62; kind = PtrFree } } ∷ []; mutators = one ∷ [] }

  good_mature : (r : ℕ) → r ≤ 15 → IsGood q (Mature r 0)
  good_mature r l = record { operands = l; names = omega arith; fits = refl }

  good_drop_one : IsGood q (Drop 1)
  good_drop_one = record { operands = omega arith; names = tt; fits = tt }

  run_mature : (r : ℕ) → r ≤ 15 → IsRunnable q (Mature r 0)
  run_mature r l = record { good = good_mature r l; run = λ e. cc e; small = omega arith }

  kinds_then : (k : ℕ) → FindKinds first_kinds (script_of q k)
  kinds_then zero = subst (FindKinds first_kinds) (sym first.out) (tt, (tt, (tt, (tt, (tt, (tt, tt))))))
  kinds_then (suc k) = tt

  runnable_then : (k : ℕ) → AllByRecursion (IsRunnable q) (script_of q k)
  runnable_then zero = subst (AllByRecursion (IsRunnable q)) (sym first.out) (
    run_mature 0 (omega arith),
    (
      run_mature 1 (omega arith),
      (
        run_mature 2 (omega arith),
        (
          run_mature 3 (omega arith),
          (record { good = good_drop_one; run = tt; small = omega arith }, (run_mature 4 (omega arith), tt)),
        ),
      ),
    ),
  )
  runnable_then (suc k) = tt

  pub can_fill : CanRun (record {
    config = settings;
    classes = record { name = name; shape = record { fields = 62; kind = PtrFree } } ∷ [];
    mutators = one ∷ [];
  })
  can_fill = record {
    limits = record {
      settings = within;
      classes = omega arith;
      fields = (omega arith, tt);
      scripts = (
        good_script q one (Mature 0 0 ∷ Mature 1 0 ∷ Mature 2 0 ∷ Mature 3 0 ∷ Drop 1 ∷ Mature 4 0 ∷ []) first (
          good_mature 0 (omega arith),
          (
            good_mature 1 (omega arith),
            (
              good_mature 2 (omega arith),
              (
                good_mature 3 (omega arith),
                (good_drop_one, (good_mature 4 (omega arith), tt)),
              ),
            ),
          ),
        ),
        tt,
      );
      statements = let a : length (written_out one.items) ≡ 6 = ap length first.out in omega arith;
      finals = let a : count_by is_final (written_out one.items) ≡ 0 = ap (count_by is_final) first.out in omega arith;
      mutators_least = omega arith;
      mutators_most = omega arith;
    };
    scripts = record { kinds = kinds_then; runnable = runnable_then };
  }
