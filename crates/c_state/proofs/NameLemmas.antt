-- The numbers of names, where one of them is set or names without an object are added.
use Rattle.std.proofs.Common.{◌≡◌, ◌<◌, ℕ, zero, suc, cond, List, [], ◌∷◌, length, set, refl, ap, arith}
use Rattle.std.specs.Prelude.{◌==◌, if◌then◌else◌}
use mathlib.Core.Path.{fun_ext}
use Rattle.c_tree.specs.declared.program.VarRef.{VarRef}
use Rattle.c_tree.specs.declared.program.VarRef.TheVariants.{Scalar, Local}
use Rattle.c_tree.specs.TypedTree.{FunctionTree}
use Rattle.c_tree.specs.Eval.{Env}
use Rattle.c_tree.specs.Exec.{named}
use Rattle.c_state.specs.declared.value.Name.{Name}
use Rattle.c_state.specs.Names.{numbers_in}

set_at : (names : List Name) (n : ℕ) (o : Name) → n < length names → (k : ℕ) → numbers_in (set names n o) k ≡ cond (k == n) o.number (numbers_in names k)
set_at [] n o within k = absurd (omega arith)
set_at (x ∷ names) zero o within zero = refl
set_at (x ∷ names) zero o within (suc k) = grind arith
set_at (x ∷ names) (suc n) o within zero = grind arith
set_at (x ∷ names) (suc n) o within (suc k) = let rest = set_at names n o (omega arith) k in grind (arith, rest)

pub set_name : (names : List Name) (n : ℕ) (o : Name) → n < length names → numbers_in (set names n o) ≡ (λ k. if k == n then o.number else numbers_in names k)
set_name names n o within = fun_ext (set_at names n o within)

-- the environment where one of them is set
pub set_scalar : (f : FunctionTree) (scalars after : List Name) (local : ℕ → ℕ) (v : VarRef) (n number : ℕ) → v ≡ Scalar n
    → numbers_in after ≡ (λ k. if k == n then number else numbers_in scalars k)
    → ◌≡◌ {A = Env} (record { function = f; scalar = numbers_in after; local = local }) (named (record { function = f; scalar = numbers_in scalars; local = local }) v number)
set_scalar f scalars after local v n number is numbers =
    rw is (ap {B = Env} (λ (g : ℕ → ℕ). record { function = f; scalar = g; local = local }) numbers)

pub set_local : (f : FunctionTree) (scalar : ℕ → ℕ) (locals after : List Name) (v : VarRef) (n number : ℕ) → v ≡ Local n
    → numbers_in after ≡ (λ k. if k == n then number else numbers_in locals k)
    → ◌≡◌ {A = Env} (record { function = f; scalar = scalar; local = numbers_in after }) (named (record { function = f; scalar = scalar; local = numbers_in locals }) v number)
set_local f scalar locals after v n number is numbers =
    rw is (ap {B = Env} (λ (g : ℕ → ℕ). record { function = f; scalar = scalar; local = g }) numbers)
