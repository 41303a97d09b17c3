-- The lists that the objects of file scope start with.
use Rattle.std.proofs.Common.{◌≡◌, ◌≤◌, ℕ, List, [], ◌∷◌, length, Option, Some, None, ap, subst, arith}
use Rattle.std.specs.Prelude.{All, ⊤, unwrap_or}
use Rattle.std.proofs.lemmas.List.Elements.{All-nil, All-cons}
use Rattle.c_tree.specs.c_syntax.SyntaxTree as tree
use Rattle.c_tree.specs.c_syntax.SyntaxTree.{InitialTree}
use Rattle.c_tree.specs.declared.program.Initial.{Initial}
use Rattle.c_rules.specs.declared.fault.Rule.TheVariants.{Mismatch}
use Rattle.c_rules.specs.declared.meaning.ObjectType.{ObjectType}
use Rattle.c_rules.specs.declared.meaning.ObjectType.TheVariants.{Single, Array}
use Rattle.c_rules.specs.Outcome.{Is}
use Rattle.c_rules.specs.Declarations.{entry, entries, cell, array_list}
use Rattle.c_rules.specs.Programs.{cell_kind, cell_count}
use Rattle.c_rules.specs.Scopes.{Scope}
use Rattle.c_rules.specs.Units.{Starts, NoStart, One, Braced, starts, static_list}
use Rattle.c_tree.specs.Kinds.{IsScalarType}
use Rattle.c_tree.specs.WellFormed.{Shape, Names, IsInitial}
use Rattle.c_rules.proofs.Formed.Context.{Gives, is, broken, behind, Fits, shape_of, static_in, IsStored}
use Rattle.c_rules.proofs.Formed.GivesLemmas.{of_each}
use Rattle.c_rules.proofs.Formed.ExpressionTypes.{IsEntry, typed_entry, typed_entries, entry_cell, typed_list}
use Rattle.c_rules.proofs.Formed.StatementTypes.{IsObjectType}
use Rattle.c_tree.specs.declared.limits.TheConstants.{MOST_CELLS}

-- an initialiser
abbrev pub IsStart : Names → Starts → Type 0
IsStart names NoStart = ⊤
IsStart names (One e) = IsEntry names e
IsStart names (Braced es) = All (IsEntry names) es

typed_start : (names : Names) (s : Scope) → Fits names s → (i : Option InitialTree) → Gives (IsStart names) (starts s i)
typed_start names s fits None = is NoStart (tt {0})
typed_start names s fits (Some (tree.One e)) = behind (entry s e) (λ x. Is (One x)) (typed_entry names s fits e) (λ x right. is (One x) right)
typed_start names s fits (Some (tree.Braced es at)) =
    behind (entries s es) (λ xs. Is (Braced xs)) (typed_entries names s fits es) (λ xs right. is (Braced xs) right)

-- whatever the names of its scope stand for
pub typed_starts : (s : Scope) (i : Option InitialTree) → Gives (λ x. (names : Names) → Fits names s → IsStart names x) (starts s i)
typed_starts s i = of_each (starts s i) (λ names. of_each (starts s i) (λ fits. typed_start names s fits i))

-- the list that it makes
abbrev pub IsList : Names → ObjectType → Option (List Initial) → Type 0
IsList names type list = (length (unwrap_or list []) ≤ cell_count type) × All (IsInitial (static_in names) (cell_kind type)) (unwrap_or list [])

no_list : (names : Names) (type : ObjectType) → IsList names type None
no_list names type = (omega arith, All-nil (IsInitial (static_in names) (cell_kind type)))

list_of_start : (names : Names) (type : ObjectType) (at : ℕ) (i : Starts) → IsScalarType (cell_kind type) → IsStart names i → Gives (IsList names type) (static_list type at i)
list_of_start names (Single kind) at NoStart right start = is None (no_list names (Single kind))
list_of_start names (Array kind n) at NoStart right start = is None (no_list names (Array kind n))
list_of_start names (Single kind) at (One e) right start =
    behind (cell kind at e) (λ i. Is (Some (i ∷ []))) (entry_cell names kind at e right start)
    (λ i holds. is (Some (i ∷ [])) (omega arith, All-cons (IsInitial (static_in names) kind) i [] holds (All-nil (IsInitial (static_in names) kind))))
list_of_start names (Array kind n) at (One e) right start = broken Mismatch at
list_of_start names (Single kind) at (Braced es) right start = broken Mismatch at
list_of_start names (Array kind n) at (Braced es) right start =
    behind (array_list kind n at es) (λ list. Is (Some list)) (typed_list names kind n at es right start) (λ list holds. is (Some list) holds)

pub typed_static_list : (s : Scope) (type : ObjectType) (at : ℕ) (i : Starts) → IsScalarType (cell_kind type) → ((names : Names) → Fits names s → IsStart names i)
    → Gives (λ list. (names : Names) → Fits names s → IsList names type list) (static_list type at i)
typed_static_list s type at i right start =
    of_each (static_list type at i) (λ names. of_each (static_list type at i) (λ fits. list_of_start names type at i right (start names fits)))

pub stored : (names : Names) (type : ObjectType) (list : Option (List Initial)) → IsObjectType (cell_count type) (cell_kind type) → IsList names type list
    → IsStored (static_in names) type (unwrap_or list [])
stored names type list right holds = record { is_type = right.is_type; from_one = right.from_one; most = right.most; within = holds.0; starts = holds.1 }

-- an object of the same shape may have the same list
pub stored_alike : (static : ℕ → Option Shape) (a b : ObjectType) (values : List Initial) → shape_of a ≡ shape_of b → IsStored static a values → IsStored static b values
stored_alike static a b values alike right =
    let kinds : cell_kind a ≡ cell_kind b = ap (λ (s : Shape). s.kind) alike in
    let counts : cell_count a ≡ cell_count b = ap (λ (s : Shape). s.length) alike in
    record {
      is_type = subst IsScalarType kinds right.is_type;
      from_one = subst (λ n. 1 ≤ n) counts right.from_one;
      most = subst (λ n. n ≤ MOST_CELLS) counts right.most;
      within = subst (λ n. length values ≤ n) counts right.within;
      starts = subst (λ k. All (IsInitial static k) values) kinds right.starts;
    }
