-- Items of file scope keep what is so of a file.
use Rattle.std.proofs.Common.{◌≡◌, ◌||◌, true, not, is_some, List, [], ◌∷◌, length, Option}
use Rattle.std.proofs.lemmas.Bool.{or_parts, not-false}
use Rattle.c_tree.specs.declared.program.Base.{Base}
use Rattle.c_tree.specs.declared.program.Initial.{Initial}
use Rattle.c_tree.specs.c_syntax.SyntaxTree.{ItemTree, UnitTree}
use Rattle.c_rules.specs.declared.meaning.Declared.{Declared}
use Rattle.c_rules.specs.declared.meaning.Declared.TheVariants as declares
use Rattle.c_rules.specs.declared.fault.Rule.TheVariants.{Redeclared, Mismatch}
use Rattle.c_rules.specs.Outcome.{Outcome, Is, breaks}
use Rattle.c_rules.specs.Declarations.{declarator}
use Rattle.c_rules.specs.Scopes.{Scope}
use Rattle.c_rules.specs.Units.{File, Starts, starts, static_list, static_number, with_static, may_declare, with_declared, declared_as, is_twice, item_as, file_item, file_items}
use Rattle.c_tree.specs.WellFormed.{Names}
use Rattle.c_rules.proofs.Formed.Context.{Gives, is, broken, behind, unless, Fits}
use Rattle.c_rules.proofs.Formed.StatementTypes.{IsDeclaredType, declared_type}
use Rattle.c_rules.proofs.Formed.FileSoFar.{IsFileSoFar, with_names}
use Rattle.c_rules.proofs.Formed.DeclaredNames.{function_declared}
use Rattle.c_rules.proofs.Formed.StaticLists.{IsStart, typed_starts, typed_static_list}
use Rattle.c_rules.proofs.Formed.StaticsSoFar.{object_declared}

module _ (rest : UnitTree) (file : File) (known : IsFileSoFar rest file) (item : ItemTree) where
  -- the scope behind the declarator
  abbrev seen : Declared → Scope
  seen d = with_declared file.scope item.name (length file.statics) d

  item_declared : (d : Declared) → IsDeclaredType d → may_declare file.scope item.name d ≡ true → (i : Starts) → ((names : Names) → Fits names (seen d) → IsStart names i)
      → Gives (IsFileSoFar rest) (declared_as file (seen d) d item i)
  item_declared declares.Untyped right may i start = broken Mismatch item.at
  item_declared (declares.Function type) right may i start =
      let after = with_names file (seen (declares.Function type)) file.statics in
      unless (is_some item.initial) Mismatch item.at (Is after)
      (λ no_list. is after (function_declared rest file known item.name type right.0 right.1 (length file.statics) may).0)
  item_declared (declares.Object type) right may i start =
      let t = seen (declares.Object type) in
      let after : Option (List Initial) → File = λ list. with_names file t (with_static file.statics (static_number (file.scope.meaning item.name)) item.name type list) in
      behind (static_list type item.at i) (λ list. Is (after list)) (typed_static_list t type item.at i right.is_type start)
      (λ list holds. is (after list) (object_declared rest file known item.name type list right may holds))

  typed_item_as : (d : Declared) → IsDeclaredType d → Gives (IsFileSoFar rest) (item_as file d item)
  typed_item_as d right =
      let taken = not (may_declare file.scope item.name d) in
      let next : Starts → Outcome File = λ i. breaks (taken || is_twice file item) Redeclared item.at (declared_as file (seen d) d item i) in
      behind (starts (seen d) item.initial) next (typed_starts (seen d) item.initial)
      (λ i start. unless (taken || is_twice file item) Redeclared item.at (declared_as file (seen d) d item i)
      (λ kept. item_declared d right (not-false (may_declare file.scope item.name d) (or_parts taken (is_twice file item) kept).0) i start))

  typed_item : (b : Base) → Gives (IsFileSoFar rest) (file_item file b item)
  typed_item b = behind (declarator file.scope b item.form item.stars item.initial) (λ d. item_as file d item)
      (declared_type file.scope b item.form item.stars item.initial) typed_item_as

pub typed_items : (rest : UnitTree) (file : File) (b : Base) (items : List ItemTree) → IsFileSoFar rest file → Gives (IsFileSoFar rest) (file_items file b items)
typed_items rest file b [] known = is file known
typed_items rest file b (item ∷ items) known =
    behind (file_item file b item) (λ g. file_items g b items) (typed_item rest file known item b) (λ g after. typed_items rest g b items after)
