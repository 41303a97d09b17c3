-- In a well-formed program each object of a function is used where it is declared.
use Rattle.std.proofs.Common.{◌≡◌, ◌++◌, ◌∷◌, [], Bool, true, false, if◌then◌else◌, List, Option, Some, None, refl, get_or}
use Rattle.std.specs.Prelude.{All}
use Rattle.c_tree.specs.declared.enclosing.Enclosing.{Enclosing}
use Rattle.c_tree.specs.declared.program.VarRef.{VarRef}
use Rattle.c_tree.specs.declared.program.VarRef.TheVariants as refs
use Rattle.c_tree.specs.TypedTree as tree
use Rattle.c_tree.specs.TypedTree.{Kind, Expr, Stmt, Stmts, Choices, FunctionTree, ProgramTree}
use Rattle.c_tree.specs.WellFormed.{Shape, Names, IsThere, IsOptional, IsOptionalTest, IsReturned, IsWellTyped, IsWellFormed, AreWellFormed}
use Rattle.c_tree.specs.WellFormed.{HasChoices, is_among, opened}
use Rattle.c_tree.specs.WellFormedProgram.{IsProgram, IsFunction, object_in, names_within}
use Rattle.c_tree.specs.NamesUsed.{names_in, optional_names}
use Rattle.c_tree.specs.Scopes.{IsKnown, AreKnown, UsesKnown, AllUseKnown, ChoicesUseKnown, UsedWhereDeclared}
use Rattle.c_types_proof.proofs.Named.{EachName, Stands, names_stand}
use Rattle.c_types_proof.proofs.Starts.{among_more, among_behind}

-- what names stand for is known
abbrev KnowsAll : Names → List VarRef → Type 0
KnowsAll names known = (v : VarRef) → IsThere (names.object v) → IsKnown known v

-- in a block, and in a function
known_among : (v : VarRef) (vs : List VarRef) → is_among v vs ≡ true → IsKnown vs v
known_among (refs.Scalar n) vs among = among
known_among (refs.Local n) vs among = among
known_among (refs.Static n) vs among = tt

known_first : (declared known : List VarRef) (v : VarRef) → is_among v declared ≡ true → IsKnown (declared ++ known) v
known_first declared known v among = known_among v (declared ++ known) (among_more v declared known among)

known_around : (declared known : List VarRef) (v : VarRef) → IsKnown known v → IsKnown (declared ++ known) v
known_around declared known (refs.Scalar n) is = among_behind (refs.Scalar n) declared known is
known_around declared known (refs.Local n) is = among_behind (refs.Local n) declared known is
known_around declared known (refs.Static n) is = tt

either_known : (known : List VarRef) (v : VarRef) (inner outer : Option Shape) (b : Bool) → (b ≡ true → IsKnown known v) → (IsThere outer → IsKnown known v)
    → IsThere (if b then inner else outer) → IsKnown known v
either_known known v inner outer true here around there = here refl
either_known known v inner outer false here around there = around there

module _ (objects : VarRef → Option Shape) where
  block_knows : (names : Names) (known declared : List VarRef) → KnowsAll names known → KnowsAll (opened objects declared names) (declared ++ known)
  block_knows names known declared knows v there =
      either_known (declared ++ known) v (objects v) (names.object v) (is_among v declared) (known_first declared known v)
      (λ outer. known_around declared known v (knows v outer)) there

  -- expressions
  all_known : (names : Names) (known : List VarRef) → KnowsAll names known → (vs : List VarRef) → EachName (Stands names) vs → AreKnown known vs
  all_known names known knows [] stand = tt
  all_known names known knows (v ∷ vs) stand = (knows v stand.0, all_known names known knows vs stand.1)

  expression_known : (names : Names) (known : List VarRef) → KnowsAll names known → (e : Expr) → IsWellTyped names e → AreKnown known (names_in e)
  expression_known names known knows e typed = all_known names known knows (names_in e) (names_stand names e typed)

  optional_known : (names : Names) (known : List VarRef) → KnowsAll names known → (e : Option Expr) → IsOptional names e → AreKnown known (optional_names e)
  optional_known names known knows None typed = tt
  optional_known names known knows (Some e) typed = expression_known names known knows e typed

  test_known : (names : Names) (known : List VarRef) → KnowsAll names known → (e : Option Expr) → IsOptionalTest names e → AreKnown known (optional_names e)
  test_known names known knows None typed = tt
  test_known names known knows (Some e) typed = expression_known names known knows e typed.0

  -- statements
  module _ (result : Kind) where
    returned_known : (names : Names) (known : List VarRef) → KnowsAll names known → (e : Option Expr) → IsReturned names result e
        → AreKnown known (optional_names e)
    returned_known names known knows None typed = tt
    returned_known names known knows (Some e) typed = expression_known names known knows e typed.0.0

    mutual
      uses_known : (names : Names) (known : List VarRef) (c : Enclosing) → KnowsAll names known → (s : Stmt) → IsWellFormed objects result names c s
          → UsesKnown known s
      uses_known names known c knows (tree.Block declared ss) formed =
          all_use_known (opened objects declared names) (declared ++ known) c (block_knows names known declared knows) ss formed.1
      uses_known names known c knows (tree.Fill n) formed = knows (refs.Local n) formed.lives
      uses_known names known c knows (tree.Do_expr e) formed = expression_known names known knows e formed
      uses_known names known c knows (tree.If e a b) formed =
          (expression_known names known knows e formed.0.0, uses_known names known c knows a formed.1, uses_known names known c knows b formed.2)
      uses_known names known c knows (tree.While e a) formed = (expression_known names known knows e formed.0.0, uses_known names known _ knows a formed.1)
      uses_known names known c knows (tree.Do_while a e) formed = (uses_known names known _ knows a formed.0, expression_known names known knows e formed.1.0)
      uses_known names known c knows (tree.For x y z a) formed = (
        optional_known names known knows x formed.0,
        test_known names known knows y formed.1,
        optional_known names known knows z formed.2,
        uses_known names known _ knows a formed.3,
      )
      uses_known names known c knows (tree.Switch e cs) formed =
          (expression_known names known knows e formed.0, choices_use_known names known _ knows cs formed.3)
      uses_known names known c knows tree.Break formed = tt
      uses_known names known c knows tree.Continue formed = tt
      uses_known names known c knows (tree.Return e) formed = returned_known names known knows e formed

      all_use_known : (names : Names) (known : List VarRef) (c : Enclosing) → KnowsAll names known → (ss : Stmts) → AreWellFormed objects result names c ss
          → AllUseKnown known ss
      all_use_known names known c knows tree.done formed = tt
      all_use_known names known c knows (tree.both s rest) formed =
          (uses_known names known c knows s formed.0, all_use_known names known c knows rest formed.1)

      choices_use_known : (names : Names) (known : List VarRef) (c : Enclosing) → KnowsAll names known → (cs : Choices) → HasChoices objects result names c cs
          → ChoicesUseKnown known cs
      choices_use_known names known c knows tree.no_more formed = tt
      choices_use_known names known c knows (tree.case w rest) formed = choices_use_known names known c knows rest formed
      choices_use_known names known c knows (tree.default rest) formed = choices_use_known names known c knows rest formed
      choices_use_known names known c knows (tree.body s rest) formed =
          (uses_known names known c knows s formed.0, choices_use_known names known c knows rest formed.1)

-- everywhere in a function its statics are known, and its parameters in its body
statics_known : (p : ProgramTree) (f : FunctionTree) → KnowsAll (names_within p f) []
statics_known p f (refs.Scalar n) there = absurd there
statics_known p f (refs.Local n) there = absurd there
statics_known p f (refs.Static n) there = tt

function_uses : (p : ProgramTree) (f : FunctionTree) → IsFunction p f → UsedWhereDeclared f
function_uses p f formed =
    uses_known (object_in p f) f.result (opened (object_in p f) f.params (names_within p f)) f.params _
    (λ v there. either_known f.params v (object_in p f v) ((names_within p f).object v) (is_among v f.params) (known_among v f.params)
    (λ outer. only_statics v (statics_known p f v outer)) there) f.body formed.body
  where
    only_statics : (v : VarRef) → IsKnown [] v → IsKnown f.params v
    only_statics (refs.Scalar n) known = absurd (cc known)
    only_statics (refs.Local n) known = absurd (cc known)
    only_statics (refs.Static n) known = tt

pub all_used : (p : ProgramTree) → IsProgram p → All UsedWhereDeclared p.functions
all_used p formed k d below = function_uses p (get_or p.functions k d) (formed.functions k d below)
