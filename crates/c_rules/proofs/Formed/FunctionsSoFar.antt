-- A function with its body keeps what is so of a file.
use Rattle.std.proofs.Common.{◌≡◌, ◌≤◌, ◌||◌, true, false, not, List, ◌∷◌, ◌+◌, map, take, length, slice_get, Option, Some}
use Rattle.std.proofs.Common.{sym, refl, ap, ◌∙◌, subst, arith}
use Rattle.std.specs.Prelude.{All}
use Rattle.std.proofs.lemmas.Bool.{or_parts, not-false}
use Rattle.std.proofs.lemmas.List.Elements.{All-append, All-push}
use Rattle.c_tree.specs.declared.program.Base.{Base}
use Rattle.c_tree.specs.declared.program.ScalarType.{ScalarType}
use Rattle.c_tree.specs.declared.program.VarRef.{VarRef}
use Rattle.c_tree.specs.c_syntax.SyntaxTree.{FunctionSyntax, Defined, UnitTree}
use Rattle.c_tree.specs.TypedTree.{Stmt}
use Rattle.c_rules.specs.declared.meaning.Declared.TheVariants as declares
use Rattle.c_rules.specs.declared.fault.Rule.TheVariants.{Redeclared}
use Rattle.c_rules.specs.declared.local.Naming.TheVariants.{Needed}
use Rattle.c_rules.specs.declared.meaning.Meaning.TheVariants as meanings
use Rattle.c_rules.specs.declared.meaning.FunctionType.{FunctionType}
use Rattle.c_rules.specs.Outcome.{Outcome, Is, breaks, ◌>>=◌}
use Rattle.c_rules.specs.Declarations.{parameters}
use Rattle.c_rules.specs.Kinds.{starred}
use Rattle.c_rules.specs.Programs.{is_single}
use Rattle.c_rules.specs.Scopes.{Scope, open_scope}
use Rattle.c_rules.specs.Statements.{LocalTree, Typed, typed_body}
use Rattle.c_rules.specs.Typing.{spelled}
use Rattle.c_rules.specs.Units.{TypedFunction, File, may_declare, with_parameters, parameter_locals}
use Rattle.c_rules.specs.Units.{with_function, with_body, is_defined, behind_name, function_as, file_function}
use Rattle.c_tree.specs.Kinds.{IsScalarType, IsKind}
use Rattle.c_tree.specs.WellFormed.{Shape, Names, opened}
use Rattle.c_rules.proofs.Formed.OperandKinds.{starred_is_kind}
use Rattle.c_rules.proofs.Formed.Context.{Gives, is, behind, unless, Lies, IsLocal, numbers_from}
use Rattle.c_rules.proofs.Formed.OpenedNames.{Suits, StandFrom, Opening, opening}
use Rattle.c_rules.proofs.Formed.GrownLocals.{locals_right}
use Rattle.c_rules.proofs.Formed.FileContext.{local_kind}
use Rattle.c_rules.proofs.Formed.GivesLemmas.{anything}
use Rattle.c_rules.proofs.Formed.StatementTypes.{IsBody, well_formed_body}
use Rattle.c_rules.proofs.Formed.FileSoFar.{IsFunctionIn, IsFileSoFar}
use Rattle.c_rules.proofs.Formed.BodyNumbers.{new_name, bodies_pushed, names_still_differ}
use Rattle.c_rules.proofs.Formed.DeclaredNames.{function_declared}
use Rattle.c_rules.proofs.Formed.ParametersAsLocals.{typed_parameters, length_locals, kinds_of_locals, first_locals, locals_within, single_locals, right_locals, fits_parameters}
use Rattle.c_rules.proofs.PlaceLemmas.{place_kept}

module _ (f : FunctionSyntax) (type : FunctionType) (result : IsKind type.result) (types : All IsScalarType type.parameters)
    (many : length type.parameters ≡ length f.parameters.list) where
  abbrev of_parameters : List LocalTree
  of_parameters = parameter_locals f.parameters.list type.parameters

  abbrev inside : Scope → Scope
  inside t = with_parameters (open_scope t) 0 f.parameters.list type.parameters

  abbrev made : Typed Stmt → TypedFunction
  made r = record { name = f.name; result = type.result; parameters = length type.parameters; locals = r.locals; body = r.tree }

  module _ (t : Scope) (named : t.meaning f.name ≡ Some (meanings.Function type)) (r : Typed Stmt) (right : IsBody type.result (inside t) of_parameters r) where
    first_are : take (length type.parameters) r.locals ≡ of_parameters
    first_are = ap (take (length type.parameters)) right.grown ∙ first_locals f.parameters.list type.parameters right.others many

    parameters_first : StandFrom 0 of_parameters r.locals
    parameters_first k l found =
        let there : slice_get r.locals k ≡ Some l = ap (λ ls. slice_get ls k) right.grown ∙ place_kept of_parameters right.others k l found in
        let same : k ≡ 0 + k = omega arith in
        subst (λ n. slice_get r.locals n ≡ Some l) same there

    -- the names in the body know the parameters
    module _ (objects : VarRef → Option Shape) (names : Names) (suits : Suits t r.locals 0 objects names) where
      abbrev inner : Names
      inner = opened objects (numbers_from 0 (length type.parameters)) names

      parameters_opened : Opening t r.locals of_parameters 0 objects names (numbers_from 0 (length type.parameters))
      parameters_opened =
          opening t r.locals of_parameters 0 parameters_first objects names suits (numbers_from 0 (length type.parameters))
          (ap (numbers_from 0) (sym (length_locals f.parameters.list type.parameters many)))

      suits_inside : Suits (inside t) r.locals (length of_parameters) objects inner
      suits_inside =
          let same : 0 + length of_parameters ≡ length of_parameters = omega arith in
          record {
            fits = fits_parameters inner (open_scope t) 0 f.parameters.list type.parameters parameters_opened.suits.fits types parameters_opened.knows.object;
            holds = parameters_opened.suits.holds;
            lies = subst (Lies inner objects) same parameters_opened.suits.lies;
          }

      all_right : All (IsLocal names) r.locals
      all_right =
          subst (All (IsLocal names)) (sym right.grown)
          (All-append (IsLocal names) of_parameters right.others (right_locals names f.parameters.list type.parameters types)
          (locals_right names inner parameters_opened.statics right.others (right.locals objects inner suits_inside)))

    function_made : IsFunctionIn t (made r)
    function_made = record {
      type = type;
      named = named;
      result = refl;
      kind = result;
      parameters = ap (map local_kind) first_are ∙ kinds_of_locals f.parameters.list type.parameters many;
      within = subst (λ ls. length type.parameters ≤ length ls) (sym right.grown) (locals_within f.parameters.list type.parameters right.others many);
      single = subst (All (λ (l : LocalTree). is_single l.object_type ≡ true)) (sym first_are) (single_locals f.parameters.list type.parameters);
      locals = all_right;
      tree = λ objects names suits. right.tree objects (inner objects names suits) (suits_inside objects names suits);
    }

  module _ (file : File) (rest : UnitTree) (known : IsFileSoFar (Defined f ∷ rest) file) where
    abbrev after : File
    after = behind_name file f.name type

    -- a file that has the function
    record HasBody (g : File) : Type 0 where
      body : Typed Stmt
      pushed : with_function after f.name type.result type.parameters body ≡ g
      right : IsBody type.result (inside after.scope) of_parameters body

    body_made : Gives HasBody (with_body after f type.result type.parameters)
    body_made =
        behind (typed_body type.result (inside after.scope) of_parameters f.declarations f.statements) (λ r. Is (with_function after f.name type.result type.parameters r))
        (well_formed_body type.result (inside after.scope) of_parameters f.declarations f.statements result)
        (λ r right. is (with_function after f.name type.result type.parameters r) (record { body = r; pushed = refl; right = right }))

    module _ (may : may_declare file.scope f.name (declares.Function type) ≡ true) (new : is_defined file f.name ≡ false) where
      body_pushed : (r : Typed Stmt) → IsBody type.result (inside after.scope) of_parameters r → IsFileSoFar rest (with_function after f.name type.result type.parameters r)
      body_pushed r right =
          let declared = function_declared (Defined f ∷ rest) file known f.name type result types 0 may in
          let unlike = new_name f.name file.functions (Defined f ∷ rest) file.scope.bodies known.bodies new in
          record {
            names = declared.0.names;
            statics = declared.0.statics;
            functions = All-push (IsFunctionIn after.scope) file.functions (made r) declared.0.functions (function_made after.scope declared.1 r right);
            bodies = declared.0.bodies ∙ bodies_pushed f file.functions (made r) rest refl unlike;
            names_differ = names_still_differ file.functions (made r) unlike known.names_differ;
          }

    typed_function_as : Gives (IsFileSoFar rest) (function_as file f type)
    typed_function_as =
        let taken = not (may_declare file.scope f.name (declares.Function type)) in
        behind (with_body after f type.result type.parameters) (λ g. breaks (taken || is_defined file f.name) Redeclared f.at (Is g)) body_made
        (λ g made. unless (taken || is_defined file f.name) Redeclared f.at (Is g)
        (λ kept. is g (let parts = or_parts taken (is_defined file f.name) kept in
        subst (IsFileSoFar rest) made.pushed (body_pushed (not-false (may_declare file.scope f.name (declares.Function type)) parts.0) parts.1 made.body made.right))))

pub typed_file_function : (f : FunctionSyntax) (file : File) (rest : UnitTree) → IsFileSoFar (Defined f ∷ rest) file → Gives (IsFileSoFar rest) (file_function file f)
typed_file_function f file rest known =
    let of_base : Base → List ScalarType → FunctionType = λ b kinds. record { result = starred b f.stars; parameters = kinds } in
    let next : Base → Outcome File = λ b. parameters (open_scope file.scope) Needed f.parameters.list >>= λ kinds. function_as file f (of_base b kinds) in
    behind (spelled f.specs) next (anything (spelled f.specs))
    (λ b spelt. behind (parameters (open_scope file.scope) Needed f.parameters.list) (λ kinds. function_as file f (of_base b kinds))
    (typed_parameters (open_scope file.scope) Needed f.parameters.list)
    (λ kinds types. typed_function_as f (of_base b kinds) (starred_is_kind b f.stars) types.0 types.1 file rest known))
