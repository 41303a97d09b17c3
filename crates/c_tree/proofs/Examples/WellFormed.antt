-- Trees that are well formed: a whole program, and the bodies of two examples that run. Before them stand the rules by which each
-- part of a tree is found to be so.
use Rattle.std.specs.Prelude.{◌≡◌, ◌≢◌, ◌<◌, ◌≤◌, ⊤, ℕ, zero, suc, ◌+◌, codes, List, [], ◌∷◌, length, All, AllPairs, Option, Some}
use Rattle.std.specs.List.{AllByRecursion, Contains}
use Rattle.std.proofs.Common.{refl, ap, sym, ◌∙◌, subst, inl, inr, arith}
use Rattle.std.proofs.lemmas.List.Elements.{All-from_recursion}
use Rattle.std.proofs.lemmas.List.Kept.{AllPairs-cons}
use Rattle.std.proofs.lemmas.Option.{slice_get_within}
use Rattle.c_syntax.specs.word_base.Name.{IsNameStart, IsName}
use Rattle.c_tree.specs.declared.enclosing.Enclosing.TheVariants as around
use Rattle.c_tree.specs.declared.program.VarRef.{VarRef}
use Rattle.c_tree.specs.declared.program.VarRef.TheVariants.{Scalar, Local}
use Rattle.c_tree.specs.declared.program.Initial.TheVariants as initial
use Rattle.c_syntax.specs.declared.operator.BinaryOp.TheVariants as op
use Rattle.c_tree.specs.Temporaries.{statement_temporaries}
use Rattle.c_tree.specs.TypedTree.{Named, Const, Read, AddressOf, Load, Binary, Assign, Call, Out, none, more, Block, Fill, Do_expr, Return, done, both, ObjectTree, FunctionTree, ProgramTree}
use Rattle.c_tree.specs.Kinds.{IsScalarType, IsKind}
use Rattle.c_tree.specs.Rounds.{CallsAmong, IsWay, HasNoRound}
use Rattle.c_tree.specs.Uses.{statement_uses, case_counts}
use Rattle.c_tree.specs.WellFormed.{Shape, Names, IsInitial, IsWellFormed, IsNew, AreNew, IsFilled, opened, Calculates, Shifts, Compares, Moves, Moves_right, Subtracts, Updates_word, Updates_pointer}
use Rattle.c_tree.specs.WellFormedProgram.{IsProgram, IsFunction, IsObject, IsParameter, IsLimited, program_calls, static_in, object_in, names_within}
use Rattle.c_tree.proofs.Examples.Types.{int, int_pointer, int_at, pointer_at, void_at, words, object, function, main_with, program}
use Rattle.c_tree.proofs.Examples.Pointers.{sum}
use Rattle.c_tree.proofs.Examples.Statements.{falls}

-- a body in its function
abbrev pub HasGoodBody : ProgramTree → FunctionTree → Type 0
HasGoodBody p f = IsWellFormed (object_in p f) f.result (opened (object_in p f) f.params (names_within p f)) around.Body f.body

-- each differs from each further one
abbrev pub Differ : {X : Type 0} → List X → Type 0
Differ [] = ⊤
Differ (x ∷ xs) = AllByRecursion (λ y. x ≢ y) xs × Differ xs

differ_by : {X : Type 0} (xs : List X) → Differ xs → AllPairs (λ a b. a ≢ b) xs
differ_by [] h = λ i j d less within. absurd (omega (arith, within))
differ_by (x ∷ xs) h = AllPairs-cons (λ a b. a ≢ b) x xs (All-from_recursion (λ y. x ≢ y) xs h.0) (differ_by xs h.1)

-- a block, an object, a function and the counts of functions, each by what is so of all members of its lists
pub new_by : (objects : VarRef → Option Shape) (names : Names) (declared : List VarRef) → Differ declared → AllByRecursion (IsNew objects names) declared
    → AreNew objects names declared
new_by objects names declared differ each = record { differ = differ_by declared differ; each = All-from_recursion (IsNew objects names) declared each }

pub object_by : (p : ProgramTree) (o : ObjectTree) → IsScalarType o.kind → 1 ≤ o.length → o.length ≤ 32767 → length o.initial ≤ o.length
    → AllByRecursion (IsInitial (static_in p) o.kind) o.initial → IsObject p o
object_by p o is_type from_one most within starts =
    record { is_type = is_type; from_one = from_one; most = most; within = within; starts = All-from_recursion (IsInitial (static_in p) o.kind) o.initial starts }

pub function_by : (p : ProgramTree) (f : FunctionTree) → IsKind f.result → AllByRecursion IsScalarType f.scalars → AllByRecursion (IsObject p) f.locals
    → AllByRecursion (IsParameter f) f.params → Differ f.params → HasGoodBody p f → IsFunction p f
function_by p f result scalars locals parameters differ body = record {
  result = result;
  scalars = All-from_recursion IsScalarType f.scalars scalars;
  locals = All-from_recursion (IsObject p) f.locals locals;
  parameters = All-from_recursion (IsParameter f) f.params parameters;
  differ = differ_by f.params differ;
  body = body;
}

record HasFew (f : FunctionTree) : Type 0 where
  parameters : length f.params ≤ 31
  scalars : length f.scalars + statement_temporaries f.body ≤ 64
  cases : AllByRecursion (λ n. n ≤ 256) (case_counts (statement_uses f.body))

limited_by : (fs : List FunctionTree) → length fs ≤ 256 → AllByRecursion HasFew fs → IsLimited fs
limited_by fs count each =
    let all : All HasFew fs = All-from_recursion HasFew fs each in
    record {
      functions = count;
      parameters = λ k d within. (all k d within).parameters;
      scalars = λ k d within. (all k d within).scalars;
      cases = λ k d within. All-from_recursion (λ n. n ≤ 256) _ (all k d within).cases;
    }

-- what each part of a tree is proved by
pub ruleset parts = (new_by, object_by, function_by, inl, inr, Calculates, Shifts, Compares, Moves, Moves_right, Subtracts, Updates_word, Updates_pointer, arith)

-- a name of small letters
letter : (code : ℕ) → 97 ≤ code → code ≤ 122 → IsNameStart code
letter code low high = inr (inl (low, high))

name_by : (code : ℕ) (rest : List ℕ) → length rest ≤ 126 → IsNameStart code → AllByRecursion IsNameStart rest → IsName (code ∷ rest)
name_by code rest short first each = record {
  from_one = omega arith;
  to_127 = omega (arith, short);
  first = first;
  each = λ k d within. inl (All-from_recursion IsNameStart (code ∷ rest) (first, each) k d within);
}

-- functions that call only such as stand before them: those are there, and no function reaches itself
abbrev CallBefore : ℕ → List (List ℕ) → Type 0
CallBefore n [] = ⊤
CallBefore n (list ∷ lists) = AllByRecursion (λ m. m < n) list × CallBefore (suc n) lists

before_at : (lists : List (List ℕ)) (first n m : ℕ) → CallBefore first lists → CallsAmong lists n m → m < n + first
before_at [] first n m all call = absurd (cc call.1)
before_at (list ∷ lists) first zero m all call =
    let same : list ≡ call.0 = cc call.1 in
    let found : Contains list m = subst (λ l. Contains l m) (sym same) call.2 in
    let less : m < first = subst (λ k. k < first) found.2 (All-from_recursion (λ k. k < first) list all.0 found.0 m found.1)
    in omega (arith, less)
before_at (list ∷ lists) first (suc n) m all call = omega (arith, before_at lists (suc first) n m all.1 call)

call_before : (lists : List (List ℕ)) → CallBefore 0 lists → (n m : ℕ) → CallsAmong lists n m → m < n
call_before lists all n m call = omega (arith, before_at lists 0 n m all call)

way_before : (lists : List (List ℕ)) → CallBefore 0 lists → (n : ℕ) (ms : List ℕ) (z : ℕ) → IsWay (CallsAmong lists) n ms z → z + length ms ≤ n
way_before lists all n [] z way = omega (arith, way)
way_before lists all n (m ∷ ms) z way = omega (arith, call_before lists all n m way.0, way_before lists all m ms z way.1)

no_round : (lists : List (List ℕ)) → CallBefore 0 lists → HasNoRound (CallsAmong lists)
no_round lists all n ms round = omega (arith, round.0, way_before lists all n ms n round.1)

have_bodies : (lists : List (List ℕ)) → CallBefore 0 lists → (n m : ℕ) → CallsAmong lists n m → m < length lists
have_bodies lists all n m call = omega (arith, call_before lists all n m call, slice_get_within lists n call.0 call.1)

-- a static array with a list, a pointer to its end, a function that another calls, and a block in a block:
-- int k[2] = {7, 1}; int *e = k + 2; int twice(int n) {return n + n;} int main(void) {int m[2] = {3}; {int x; x = twice(m[0]); __out(0, x);} return 0;}
abbrev pub twice : FunctionTree
twice = function (codes "twice") (Some int) ((Scalar 0) ∷ []) (int ∷ []) []
    (Block []
    (both (Return (Some (int_at 60 (Binary op.Add (int_at 60 (Read (Scalar 0))) (int_at 64 (Read (Scalar 0)))))))
    done))

abbrev pub doubles_main : FunctionTree
doubles_main = main_with (int ∷ []) ((object 2 int (words (3 ∷ []))) ∷ [])
    (Block ((Local 0) ∷ [])
    (both (Fill 0)
    (both (Block ((Scalar 0) ∷ [])
    (both (Do_expr (int_at 108 (Assign (Named (Scalar 0) 108)
    (int_at 112 (Call 0 (more (int_at 118 (Load (pointer_at 118 (Binary op.Add (pointer_at 118 (AddressOf (Local 0))) (int_at 120 (Const 0)))))) none))))))
    (both (Do_expr (void_at 125 (Out 0 (int_at 134 (Read (Scalar 0))))))
    done)))
    (both (Return (Some (int_at 146 (Const 0))))
    done))))

abbrev pub doubles : ProgramTree
doubles = program ((object 2 int (words (7 ∷ 1 ∷ []))) ∷ (object 1 int_pointer ((initial.Address 0 2) ∷ [])) ∷ []) (twice ∷ doubles_main ∷ [])

doubles_statics : AllByRecursion (IsObject doubles) doubles.statics
doubles_statics = search parts

doubles_functions : AllByRecursion (IsFunction doubles) doubles.functions
doubles_functions = search parts

doubles_names : AllByRecursion IsName (codes "twice" ∷ codes "main" ∷ [])
doubles_names = search (name_by, letter, arith)

doubles_limits : IsLimited doubles.functions
doubles_limits = limited_by doubles.functions (omega arith) (search parts)

doubles_calls : CallBefore 0 (program_calls doubles.functions)
doubles_calls = search arith

doubles_is : IsProgram doubles
doubles_is = record {
  statics = All-from_recursion (IsObject doubles) doubles.statics doubles_statics;
  functions = All-from_recursion (IsFunction doubles) doubles.functions doubles_functions;
  names = All-from_recursion IsName (codes "twice" ∷ codes "main" ∷ []) doubles_names;
  differ = differ_by (codes "twice" ∷ codes "main" ∷ []) ((λ same. omega (arith, ap length same), tt), (tt, tt));
  main = (1, doubles_main, omega arith, refl, record { name = refl; result = refl; parameters = refl });
  bodies = have_bodies (program_calls doubles.functions) doubles_calls;
  no_cycle = no_round (program_calls doubles.functions) doubles_calls;
  limits = doubles_limits;
  objects = omega arith;
}

-- the sum of an array through a pointer, and a switch that is fallen into and out of, as they stand in the runs
sum_body : AllByRecursion (HasGoodBody sum) sum.functions
sum_body = search parts

falls_body : AllByRecursion (HasGoodBody falls) falls.functions
falls_body = search parts
