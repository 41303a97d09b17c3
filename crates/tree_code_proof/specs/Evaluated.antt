-- The parts of expressions that count nothing by themselves, and expressions with their work.
use Rattle.std.specs.Prelude.{ℕ, ℤ, Bool, true, false, List, Option}
use Rattle.c_syntax.specs.declared.operator.UnaryOp.{UnaryOp}
use Rattle.c_syntax.specs.declared.operator.BinaryOp.{BinaryOp}
use Rattle.word_base.specs.Words.{Calc}
use Rattle.c_tree.specs.TypedTree.{Kind, Expr, Exprs}
use Rattle.c_tree.specs.Store.{Value}
use Rattle.c_tree.specs.Eval as plain
use Rattle.c_tree.specs.Eval.{Env, Spot}
use Rattle.ir_semantics.specs.SourceWork.{CallsWork, expression_work, arguments_work}
use Rattle.tree_code_proof.specs.Counted.{Does, free, counted}

abbrev pub Calls : Type 0
Calls = ℕ → List Value → Does (Option Value)

abbrev pub some : Value → Does (Option Value)
some v = free (plain.some v)

abbrev pub need : ℕ → Option Value → Does Value
need at v = free (plain.need at v)

abbrev pub choose : {A : Type 0} → Bool → Does A → Does A → Does A
choose true a b = a
choose false a b = b

abbrev pub test_of : Value → ℕ → Does Bool
test_of v at = free (plain.test_of v at)

abbrev pub spot_of : Value → ℕ → Does Spot
spot_of v at = free (plain.spot_of v at)

abbrev pub calc : Calc → ℕ → Does Value
calc c at = free (plain.calc c at)

abbrev pub of_two : BinaryOp → Kind → Kind → Value → Value → ℕ → Does Value
of_two o k l v u at = free (plain.of_two o k l v u at)

abbrev pub of_one : UnaryOp → Kind → Value → ℕ → Does Value
of_one o k v at = free (plain.of_one o k v at)

abbrev pub stepped : Bool → Kind → Value → ℕ → Does Value
stepped up k v at = free (plain.stepped up k v at)

abbrev pub equality : BinaryOp → Bool → ℕ → Does Value
equality o b at = free (plain.equality o b at)

abbrev pub ordering : BinaryOp → ℕ → ℕ → ℕ → Does Value
ordering o i j at = free (plain.ordering o i j at)

abbrev pub made_pointer : Option ℕ → ℕ → ℕ → Does Value
made_pointer i object at = free (plain.made_pointer i object at)

abbrev pub move : ℕ → ℕ → ℤ → ℕ → Does Value
move object i by at = free (plain.move object i by at)

abbrev pub emit : ℕ → Value → ℕ → Does (Option Value)
emit port v at = free (plain.emit port v at)

-- what calls do, with what they cost
abbrev pub calling : plain.Calls → CallsWork → Calls
calling calls work f vs = counted (calls f vs) (work f vs)

module _ (calls : plain.Calls) (work : CallsWork) (env : Env) where
  abbrev pub value : Expr → Does Value
  value e = counted (plain.value calls env e) (expression_work calls work env e)

  abbrev pub eval : Expr → Does (Option Value)
  eval e = counted (plain.eval calls env e) (expression_work calls work env e)

  abbrev pub values : Exprs → Does (List Value)
  values es = counted (plain.values calls env es) (arguments_work calls work env es)

  abbrev pub condition : Expr → Does Bool
  condition e = counted (plain.condition calls env e) (expression_work calls work env e)
