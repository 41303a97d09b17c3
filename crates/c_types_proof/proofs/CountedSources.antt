-- A source within its limits has no more of anything that is counted than a source may have.
use Rattle.std.proofs.Common.{◌≡◌, ◌≤◌, ◌+◌, ◌||◌, ℕ, suc, not, List, [], ◌∷◌, ◌++◌, length, is_some, subst, sym, ap, refl, arith, length-append, sum_by}
use Rattle.std.specs.Prelude.{All}
use Rattle.std.proofs.lemmas.List.Elements.{All-nil, All-cons, All-push}
use Rattle.std.proofs.lemmas.List.Sums.{sum_by-cons}
use Rattle.c_syntax.specs.Counts.{Weights, parameter_weight, parameters_weight, external_weight, unit_weight, IsWithinLimits}
use Rattle.c_syntax.specs.declared.limits.TheConstants.{MOST_NODES, MOST_TOKENS}
use Rattle.c_syntax.specs.SyntaxTree as tree
use Rattle.c_syntax.specs.SyntaxTree.{ParameterTree, ItemTree, FunctionSyntax, ExternalTree, Defined, UnitTree}
use Rattle.c_tree.specs.declared.program.Base.{Base}
use Rattle.c_tree.specs.declared.program.ScalarType.{ScalarType}
use Rattle.c_tree.specs.declared.uses.Use.{Use}
use Rattle.c_tree.specs.declared.uses.Use.TheVariants.{Address, Call, Cases}
use Rattle.c_tree.specs.TypedTree.{Kind}
use Rattle.c_tree.specs.Uses.{case_counts, statement_uses}
use Rattle.c_rules.specs.declared.local.Naming.TheVariants.{Needed}
use Rattle.c_rules.specs.declared.meaning.Declared.{Declared}
use Rattle.c_rules.specs.declared.meaning.Declared.TheVariants as declares
use Rattle.c_rules.specs.declared.meaning.FunctionType.{FunctionType}
use Rattle.c_rules.specs.Counted.{IsCounted, AreCounted, most_counted}
use Rattle.c_rules.specs.Declarations.{declarator, parameters}
use Rattle.c_rules.specs.Kinds.{starred}
use Rattle.c_rules.specs.Outcome.{Is}
use Rattle.c_rules.specs.Scopes.{Scope, open_scope}
use Rattle.c_rules.specs.Statements.{LocalTree, typed_body}
use Rattle.c_rules.specs.Typing.{spelled}
use Rattle.c_rules.specs.Units.{TypedFunction, File, Starts, starts, static_list, may_declare, with_declared, declared_as, is_twice, file_item, file_items}
use Rattle.c_rules.specs.Units.{with_parameters, parameter_locals, with_body, is_defined, behind_name, function_as, external, externals, empty_file, typed_unit}
use Rattle.c_rules.proofs.Formed.Context.{Gives, is, broken, behind, unless, of_is}
use Rattle.c_rules.proofs.Formed.CountedExpressions.{code}
use Rattle.c_rules.proofs.Formed.GivesLemmas.{anything, weaker}
use Rattle.c_rules.proofs.Formed.ParametersAsLocals.{typed_parameters}
use Rattle.c_types_proof.proofs.CountedBodies.{cases, body_few}

-- each switch has no more cases than all have
each_few : (us : List Use) (n : ℕ) → cases us ≤ n → All (λ k. k ≤ n) (case_counts us)
each_few [] n few = All-nil (λ k. k ≤ n)
each_few (Cases k ∷ us) n few = All-cons (λ k. k ≤ n) k (case_counts us) (omega (arith, few)) (each_few us n (omega (arith, few)))
each_few (Address r ∷ us) n few = each_few us n few
each_few (Call f at ∷ us) n few = each_few us n few

-- parameters
abbrev parameter : Weights
parameter = record { node = 0; item = 0; parameter = 1; star = 0 }

parameters_count : (ps : List ParameterTree) → length ps ≤ sum_by (parameter_weight parameter) ps
parameters_count [] = omega arith
parameters_count (p ∷ ps) = omega (arith, parameters_count ps, sum_by-cons (parameter_weight parameter) p ps)

locals_few : (ps : List ParameterTree) (kinds : List ScalarType) → length (parameter_locals ps kinds) ≤ length ps
locals_few [] kinds = omega arith
locals_few (p ∷ ps) [] = omega arith
locals_few (p ∷ ps) (kind ∷ kinds) = omega (arith, locals_few ps kinds)

-- items of file scope add no function
items_none : (b : Base) (file : File) (items : List ItemTree) → Gives (λ g. g.functions ≡ file.functions) (file_items file b items)
items_none b file [] = is _ refl
items_none b file (item ∷ items) =
    behind (file_item file b item) _ none λ g first. weaker _ (items_none b g items) λ h others. subst (λ fs. h.functions ≡ fs) first others
  where
    declared : (s : Scope) (d : Declared) (i : Starts) → Gives (λ g. g.functions ≡ file.functions) (declared_as file s d item i)
    declared s declares.Untyped i = broken _ _
    declared s (declares.Function type) i = unless (is_some item.initial) _ _ _ λ bare. is _ refl
    declared s (declares.Object type) i = behind (static_list type item.at i) _ (anything _) λ list right. is _ refl

    none : Gives (λ g. g.functions ≡ file.functions) (file_item file b item)
    none =
        behind (declarator file.scope b item.form item.stars item.initial) _ (anything _) λ d type.
        behind (starts (with_declared file.scope item.name (length file.statics) d) item.initial) _ (anything _) λ i start.
        unless (not (may_declare file.scope item.name d) || is_twice file item) _ _ _ λ may.
        declared (with_declared file.scope item.name (length file.statics) d) d i

-- a file so far, with so many externals to come
record IsFew (left : ℕ) (file : File) : Type 0 where
  functions : length file.functions + left ≤ most_counted
  each : All IsCounted file.functions

module _ (f : FunctionSyntax) (nodes : external_weight code (Defined f) ≤ MOST_NODES) (names : external_weight parameter (Defined f) ≤ MOST_TOKENS) where
  body_added : (left : ℕ) (file : File) (result : Kind) (kinds : List ScalarType) → length kinds ≡ length f.parameters.list → IsFew (suc left) file
      → Gives (IsFew left) (with_body file f result kinds)
  body_added left file result kinds many few =
      let s = with_parameters (open_scope file.scope) 0 f.parameters.list kinds in
      let ls = parameter_locals f.parameters.list kinds in
      behind (typed_body result s ls f.declarations f.statements) _ (body_few result s ls f.declarations f.statements f.body_at) λ r needed.
      let made : TypedFunction = record { name = f.name; result = result; parameters = length kinds; locals = r.locals; body = r.tree } in
      is _ (record {
        functions = omega (arith, few.functions, length-append file.functions (made ∷ []));
        each = All-push IsCounted file.functions made few.each (record {
          parameters = omega (arith, many, names, parameters_count f.parameters.list);
          frame = omega (arith, needed, nodes, names, locals_few f.parameters.list kinds, parameters_count f.parameters.list);
          cases = each_few (statement_uses r.tree) most_counted (omega (arith, needed, nodes, names, locals_few f.parameters.list kinds, parameters_count f.parameters.list));
        });
      })

  function_added : (left : ℕ) (file : File) (type : FunctionType) → length type.parameters ≡ length f.parameters.list → IsFew (suc left) file
      → Gives (IsFew left) (function_as file f type)
  function_added left file type many few =
      behind (with_body (behind_name file f.name type) f type.result type.parameters) _
      (body_added left (behind_name file f.name type) type.result type.parameters many (record { functions = few.functions; each = few.each })) λ g added.
      unless (not (may_declare file.scope f.name (declares.Function type)) || is_defined file f.name) _ _ _ λ new. is _ added

-- externals
external_added : (x : ExternalTree) → external_weight code x ≤ MOST_NODES → external_weight parameter x ≤ MOST_TOKENS
    → (left : ℕ) (file : File) → IsFew (suc left) file → Gives (IsFew left) (external file x)
external_added (Defined f) nodes names left file few =
    behind (spelled f.specs) _ (anything _) λ b base.
    behind (parameters (open_scope file.scope) Needed f.parameters.list) _ (typed_parameters (open_scope file.scope) Needed f.parameters.list) λ kinds types.
    function_added f nodes names left file (record { result = starred b f.stars; parameters = kinds }) types.1 few
external_added (tree.Declared d) nodes names left file few =
    behind (spelled d.specs) _ (anything _) λ b base.
    weaker _ (items_none b file d.items) λ g same. record {
      functions = omega (arith, few.functions, ap length same);
      each = subst (All IsCounted) (sym same) few.each;
    }

externals_added : (unit : UnitTree) → unit_weight code unit ≤ MOST_NODES → unit_weight parameter unit ≤ MOST_TOKENS
    → (file : File) → IsFew (length unit) file → Gives (IsFew 0) (externals file unit)
externals_added [] nodes names file few = is _ few
externals_added (x ∷ unit) nodes names file few =
    let node_sum = sum_by-cons (external_weight code) x unit in
    let name_sum = sum_by-cons (external_weight parameter) x unit in
    behind (external file x) _ (external_added x (omega (arith, nodes, node_sum)) (omega (arith, names, name_sum)) (length unit) file few) λ g first.
    externals_added unit (omega (arith, nodes, node_sum)) (omega (arith, names, name_sum)) g first

pub sources_are_counted : (unit : UnitTree) (file : File) → IsWithinLimits unit → typed_unit unit ≡ Is file → AreCounted file.functions
sources_are_counted unit file within typed =
    let begun : IsFew (length unit) (empty_file unit) = record { functions = omega (arith, within.externals); each = All-nil IsCounted } in
    let few = of_is (typed_unit unit) file (externals_added unit within.count within.parameters (empty_file unit) begun) typed in
    record { functions = omega (arith, few.functions); each = few.each }
