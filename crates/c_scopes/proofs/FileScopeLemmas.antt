-- Turns of the loop over parameters.
use Rattle.c_rules.proofs.Turns.{first_left}
use Rattle.std.proofs.Common.{◌≡◌, ℕ, ◌+◌, ◌<◌, ◌≤◌, List, [], ◌∷◌, map, drop, get_or, length, refl, ap, ◌∙◌, arith}
use Rattle.std.proofs.Math.ListN.{drop_of_length-le}
use Rattle.c_tree.specs.declared.program.ScalarType.{ScalarType}
use Rattle.c_tree.specs.declared.program.VarRef.TheVariants as refs
use Rattle.c_syntax.specs.declared.decl.Param.{Param}
use Rattle.c_syntax.specs.SyntaxTree.{ParameterTree}
use Rattle.c_syntax.specs.SyntaxView.{parameter_of}
use Rattle.c_rules.specs.Scopes.{Scope}
use Rattle.c_rules.specs.Declarations.{with_single}
use Rattle.c_rules.specs.Units.{with_parameters}

-- parameters: one of a turn, and those behind the end of the shorter list
pub parameter_declared : (s : Scope) (n : ℕ) (list : List Param) (kinds : List ScalarType) (i : ℕ) (p : Param) (kind : ScalarType) → p ≡ get_or list i p → i < length list → kind ≡ get_or kinds i kind → i < length kinds → with_parameters s n (map parameter_of (drop i list)) (drop i kinds) ≡ with_parameters (with_single s p.name (refs.Local n) kind) (n + 1) (map parameter_of (drop (i + 1) list)) (drop (i + 1) kinds)
parameter_declared s n list kinds i p kind p_is p_below kind_is kind_below =
    ap (λ l. with_parameters s n (map parameter_of l) (drop i kinds)) (first_left list i p p_is p_below)
    ∙ ap (λ l. with_parameters s n (map parameter_of (p ∷ drop (i + 1) list)) l) (first_left kinds i kind kind_is kind_below)
    ∙ ap (λ m. with_parameters (with_single s p.name (refs.Local n) kind) m (map parameter_of (drop (i + 1) list)) (drop (i + 1) kinds)) (omega arith)

-- where no type is left, no parameter is declared
none_left : (s : Scope) (n : ℕ) (ps : List ParameterTree) → with_parameters s n ps [] ≡ s
none_left s n [] = refl
none_left s n (p ∷ ps) = refl

pub parameters_ended : (s : Scope) (list : List Param) (kinds : List ScalarType) (i : ℕ) → length kinds ≤ i → with_parameters s i (map parameter_of (drop i list)) (drop i kinds) ≡ s
parameters_ended s list kinds i past =
    ap (with_parameters s i (map parameter_of (drop i list))) (drop_of_length-le kinds past) ∙ none_left s i (map parameter_of (drop i list))
