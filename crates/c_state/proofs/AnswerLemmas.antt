-- What an answer that looks at no object says at a point of a run.
use Rattle.std.proofs.Common.{◌≡◌, refl, sym, subst, ℕ, Result, Ok, Err}
use Rattle.std.specs.Prelude.{◌==◌}
use Rattle.c_syntax.specs.declared.operator.BinaryOp.{BinaryOp}
use Rattle.c_syntax.specs.declared.operator.BinaryOp.TheVariants as op
use Rattle.c_tree.specs.Operators.{int_binary}
use Rattle.c_tree.specs.Eval.{calc, equality, ordering}
use Rattle.c_tree.specs.Store.{Value, Does}
use Rattle.c_state.specs.declared.value.Value as code
use Rattle.c_state.specs.declared.value.Stop.{Stop}
use Rattle.c_state.specs.Values.{value_of}
use Rattle.c_state.specs.declared.state.State.{State}
use Rattle.c_state.specs.Worlds.{world_of, ComesTo}
use Rattle.c_state.specs.Operands.{IsAnswer}

pub comes_at : (does : Does Value) (r : Result code.Value Stop) (s : State) → IsAnswer does r → ComesTo value_of (does (world_of s)) s r
comes_at does (Ok v) s is = is (world_of s)
comes_at does (Err stop) s is = is (world_of s)

-- the difference of two pointers into one object, and whether they are equal
pub subtracted : (o : BinaryOp) (i j at : ℕ) (r : Result code.Value Stop) → o ≡ op.Sub → IsAnswer (calc (int_binary o i j) at) r → IsAnswer (ordering o i j at) r
subtracted o i j at r is answer = subst (λ p. IsAnswer (calc (int_binary p i j) at) r → IsAnswer (ordering p i j at) r) (sym is) (λ a. a) answer

pub other_order : (o : BinaryOp) (i j at : ℕ) (r : Result code.Value Stop) → ¬ (o ≡ op.Lt) → ¬ (o ≡ op.Gt) → ¬ (o ≡ op.Le) → ¬ (o ≡ op.Ge) → ¬ (o ≡ op.Sub)
    → IsAnswer (equality o (i == j) at) r → IsAnswer (ordering o i j at) r
other_order op.Add i j at r lt gt le ge sub answer = answer
other_order op.Sub i j at r lt gt le ge sub answer = absurd (sub refl)
other_order op.Mul i j at r lt gt le ge sub answer = answer
other_order op.Div i j at r lt gt le ge sub answer = answer
other_order op.Rem i j at r lt gt le ge sub answer = answer
other_order op.And i j at r lt gt le ge sub answer = answer
other_order op.Or i j at r lt gt le ge sub answer = answer
other_order op.Xor i j at r lt gt le ge sub answer = answer
other_order op.Shl i j at r lt gt le ge sub answer = answer
other_order op.Shr i j at r lt gt le ge sub answer = answer
other_order op.Eq i j at r lt gt le ge sub answer = answer
other_order op.Ne i j at r lt gt le ge sub answer = answer
other_order op.Lt i j at r lt gt le ge sub answer = absurd (lt refl)
other_order op.Gt i j at r lt gt le ge sub answer = absurd (gt refl)
other_order op.Le i j at r lt gt le ge sub answer = absurd (le refl)
other_order op.Ge i j at r lt gt le ge sub answer = absurd (ge refl)
