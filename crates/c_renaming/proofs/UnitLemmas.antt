-- The rules of whole sources commute with renaming.
use Rattle.std.proofs.Common.{◌≡◌, ℕ, zero, suc, nat_lt, ◌||◌, ◌&&◌, not, Bool, true, false, if◌then◌else◌, List, [], ◌∷◌, ◌++◌, length, map, is_some, is_none, option_map, unwrap_or, slice_get, slice_set, Option, Some, None, refl, sym, ap, ◌∙◌, subst}
use Rattle.std.proofs.lemmas.List.{length-map, map-append}
use Rattle.std.proofs.lemmas.Option.{slice_get-map}
use Rattle.c_tree.specs.declared.program.Base.{Base}
use Rattle.c_tree.specs.declared.program.ScalarType.{ScalarType}
use Rattle.c_tree.specs.declared.program.VarRef.TheVariants as refs
use Rattle.c_tree.specs.declared.program.Initial.{Initial}
use Rattle.c_tree.specs.c_syntax.SyntaxTree as tree
use Rattle.c_tree.specs.c_syntax.SyntaxTree.{ParameterTree, ItemTree, InitialTree, FunctionSyntax, ExternalTree, Defined, UnitTree}
use Rattle.c_tree.specs.TypedTree.{Kind, Stmt}
use Rattle.c_rules.specs.declared.fault.Rule.TheVariants.{Redeclared, Mismatch}
use Rattle.c_rules.specs.declared.local.Naming.TheVariants.{Needed}
use Rattle.c_rules.specs.declared.meaning.Meaning.{Meaning}
use Rattle.c_rules.specs.declared.meaning.FunctionType.{FunctionType}
use Rattle.c_rules.specs.declared.meaning.ObjectType.{ObjectType}
use Rattle.c_rules.specs.declared.meaning.ObjectType.TheVariants.{Single, Array}
use Rattle.c_rules.specs.declared.meaning.Declared.{Declared}
use Rattle.c_rules.specs.declared.meaning.Declared.TheVariants as declares
use Rattle.c_rules.specs.Outcome.{Is, ◌>>=◌, breaks}
use Rattle.c_rules.specs.Kinds.{starred}
use Rattle.c_rules.specs.Scopes.{Scope, open_scope}
use Rattle.c_rules.specs.Typing.{spelled}
use Rattle.c_rules.specs.Declarations.{with_single, parameters, declarator, entry, entries, cell, array_list}
use Rattle.c_rules.specs.Statements.{Typed, typed_body}
use Rattle.c_rules.specs.Units.{StaticTree, TypedFunction, File, agrees, may_declare, meaning_of, with_meaning, with_declared, Starts, NoStart, One, Braced, starts, static_list, static_number, has_list, is_initialised, with_list, set_list, with_static, declared_as, is_twice, item_as, file_item, file_items, with_parameters, parameter_locals, with_body, is_defined, behind_name, function_as, external, externals, is_name_among, bodies_behind, empty_file, typed_unit}
use Rattle.c_renaming.specs.Renaming.{Renaming, IsFaithful}
use Rattle.c_renaming.specs.RenamedTrees.{renamed_parameter, renamed_initial, renamed_item, renamed_function, renamed_external, renamed_unit}
use Rattle.c_renaming.specs.RenamedPrograms.{renamed_code}
use Rattle.c_renaming.proofs.OutcomeLemmas.{renamed_outcome, IsScopeRenamed, bind_follows}
use Rattle.c_renaming.proofs.RelatedOutcomes.{AreRelated, then_related, equal_related, broken_related, same_value}
use Rattle.c_renaming.proofs.TypingLemmas.{spelled_renamed, is_in_renamed, is_out_renamed, open_renamed, declare_renamed, bodies_before_renamed}
use Rattle.c_renaming.proofs.DeclarationLemmas.{renamed_entry, cell_renamed, array_list_renamed, entry_renamed, entries_renamed, with_single_renamed, parameters_renamed, declarator_renamed}
use Rattle.c_renaming.proofs.StatementLemmas.{given_initial, renamed_local, renamed_typed, typed_body_renamed}

abbrev pub renamed_static : Renaming → StaticTree → StaticTree
renamed_static r s = record { name = r.name s.name; object_type = s.object_type; initial = s.initial }

abbrev pub renamed_typed_function : Renaming → TypedFunction → TypedFunction
renamed_typed_function r f = record {
  name = r.name f.name;
  result = f.result;
  parameters = f.parameters;
  locals = map (renamed_local r) f.locals;
  body = renamed_code r f.body;
}

abbrev renamed_starts : Renaming → Starts → Starts
renamed_starts r NoStart = NoStart
renamed_starts r (One e) = One (renamed_entry r e)
renamed_starts r (Braced es) = Braced (map (renamed_entry r) es)

-- what stands before an external, in files that are one renamed
pub record IsFileRenamed (r : Renaming) (f g : File) : Type 0 where
  pub scope : IsScopeRenamed r f.scope g.scope
  pub statics : g.statics ≡ map (renamed_static r) f.statics
  pub functions : g.functions ≡ map (renamed_typed_function r) f.functions

module _ (r : Renaming) where
  static_list_renamed : (type : ObjectType) (at : ℕ) (i : Starts) → static_list type (r.place at) (renamed_starts r i) ≡ renamed_outcome r.place same_value (static_list type at i)
  static_list_renamed type at NoStart = refl
  static_list_renamed (Single kind) at (One e) = bind_follows r.place same_value same_value (cell kind at e) _ _ _ (cell_renamed r kind at e) (λ i. refl)
  static_list_renamed (Array kind n) at (One e) = refl
  static_list_renamed (Single kind) at (Braced es) = refl
  static_list_renamed (Array kind n) at (Braced es) =
      bind_follows r.place same_value same_value (array_list kind n at es) _ _ _ (array_list_renamed r kind n at es) (λ is. refl)

  -- ---- objects of the file

  has_list_renamed : (o : Option StaticTree) → has_list (option_map (renamed_static r) o) ≡ has_list o
  has_list_renamed None = refl
  has_list_renamed (Some o) = refl

  is_initialised_renamed : (statics : List StaticTree) (n : Option ℕ) → is_initialised (map (renamed_static r) statics) n ≡ is_initialised statics n
  is_initialised_renamed statics None = refl
  is_initialised_renamed statics (Some n) = ap has_list (slice_get-map (renamed_static r) statics n) ∙ has_list_renamed (slice_get statics n)

  with_list_renamed : (o : StaticTree) (is : Option (List Initial)) → with_list (renamed_static r o) is ≡ renamed_static r (with_list o is)
  with_list_renamed o None = refl
  with_list_renamed o (Some is) = refl

  set_renamed : (statics : List StaticTree) (n : ℕ) (o : StaticTree) → slice_set (map (renamed_static r) statics) n (renamed_static r o) ≡ map (renamed_static r) (slice_set statics n o)
  set_renamed [] n o = refl
  set_renamed (s ∷ statics) zero o = refl
  set_renamed (s ∷ statics) (suc n) o = ap (λ l. renamed_static r s ∷ l) (set_renamed statics n o)

  set_list_renamed : (statics : List StaticTree) (n : ℕ) (o : Option StaticTree) (is : Option (List Initial))
      → set_list (map (renamed_static r) statics) n (option_map (renamed_static r) o) is ≡ map (renamed_static r) (set_list statics n o is)
  set_list_renamed statics n None is = refl
  set_list_renamed statics n (Some o) is = ap (slice_set (map (renamed_static r) statics) n) (with_list_renamed o is) ∙ set_renamed statics n (with_list o is)

  with_static_renamed : (statics : List StaticTree) (n : Option ℕ) (name : List ℕ) (type : ObjectType) (is : Option (List Initial))
      → with_static (map (renamed_static r) statics) n (r.name name) type is ≡ map (renamed_static r) (with_static statics n name type is)
  with_static_renamed statics None name type is = sym (map-append (renamed_static r) statics (record { name = name; object_type = type; initial = is } ∷ []))
  with_static_renamed statics (Some n) name type is =
      ap (λ o. set_list (map (renamed_static r) statics) n o is) (slice_get-map (renamed_static r) statics n) ∙ set_list_renamed statics n (slice_get statics n) is

  -- ---- parameters

  module _ (faithful : IsFaithful r) where
    parameter_locals_renamed : (ps : List ParameterTree) (kinds : List ScalarType) → parameter_locals (map (renamed_parameter r) ps) kinds ≡ map (renamed_local r) (parameter_locals ps kinds)
    parameter_locals_renamed [] kinds = refl
    parameter_locals_renamed (p ∷ ps) [] = refl
    parameter_locals_renamed (p ∷ ps) (kind ∷ kinds) =
        λ i. record { name = name p.name i; object_type = Single kind; values = [] } ∷ parameter_locals_renamed ps kinds i
      where
        name : (n : Option (List ℕ)) → unwrap_or (option_map r.name n) [] ≡ r.name (unwrap_or n [])
        name None = sym faithful.nothing
        name (Some n) = refl

    with_parameters_renamed : (s t : Scope) (n : ℕ) (ps : List ParameterTree) (kinds : List ScalarType) → IsScopeRenamed r s t
        → IsScopeRenamed r (with_parameters s n ps kinds) (with_parameters t n (map (renamed_parameter r) ps) kinds)
    with_parameters_renamed s t n [] kinds same = same
    with_parameters_renamed s t n (p ∷ ps) [] same = same
    with_parameters_renamed s t n (p ∷ ps) (kind ∷ kinds) same =
        with_parameters_renamed (with_single s p.name (refs.Local n) kind) (with_single t (option_map r.name p.name) (refs.Local n) kind) (suc n) ps kinds
        (with_single_renamed r faithful s t same p.name (refs.Local n) kind)

    -- ---- names of the file

    may_declare_renamed : (s t : Scope) (name : List ℕ) (d : Declared) → IsScopeRenamed r s t → may_declare t (r.name name) d ≡ may_declare s name d
    may_declare_renamed s t name d same = λ i. not (is_in_renamed faithful name i || is_out_renamed faithful name i) && agrees (same.meaning name i) d

    with_meaning_renamed : (s t : Scope) (name : List ℕ) (m : Option Meaning) → IsScopeRenamed r s t → IsScopeRenamed r (with_meaning s name m) (with_meaning t (r.name name) m)
    with_meaning_renamed s t name None same = same
    with_meaning_renamed s t name (Some m) same = declare_renamed faithful same name m

    with_declared_renamed : (s t : Scope) (name : List ℕ) (n : ℕ) (d : Declared) → IsScopeRenamed r s t → IsScopeRenamed r (with_declared s name n d) (with_declared t (r.name name) n d)
    with_declared_renamed s t name n d same =
        subst (λ b. IsScopeRenamed r (with_declared s name n d) (if b then with_meaning t (r.name name) (meaning_of n d) else t))
        (sym (λ i. may_declare_renamed s t name d same i && is_none (same.meaning name i)))
        (by (may_declare s name d && is_none (s.meaning name)))
      where
        by : (b : Bool) → IsScopeRenamed r (if b then with_meaning s name (meaning_of n d) else s) (if b then with_meaning t (r.name name) (meaning_of n d) else t)
        by true = with_meaning_renamed s t name (meaning_of n d) same
        by false = same

    -- ---- items

    starts_renamed : (s t : Scope) (i : Option InitialTree) → IsScopeRenamed r s t → starts t (option_map (renamed_initial r) i) ≡ renamed_outcome r.place (renamed_starts r) (starts s i)
    starts_renamed s t None same = refl
    starts_renamed s t (Some (tree.One e)) same = bind_follows r.place (renamed_entry r) (renamed_starts r) (entry s e) _ _ _ (entry_renamed r faithful s t same e) (λ x. refl)
    starts_renamed s t (Some (tree.Braced es at)) same =
        bind_follows r.place (map (renamed_entry r)) (renamed_starts r) (entries s es) _ _ _ (entries_renamed r faithful s t same es) (λ xs. refl)

    number_renamed : (f g : File) (name : List ℕ) → IsFileRenamed r f g → static_number (g.scope.meaning (r.name name)) ≡ static_number (f.scope.meaning name)
    number_renamed f g name same = ap static_number (same.scope.meaning name)

    is_twice_renamed : (f g : File) (item : ItemTree) → IsFileRenamed r f g → is_twice g (renamed_item r item) ≡ is_twice f item
    is_twice_renamed f g item same =
        λ i. given_initial r item.initial i && (ap (λ l. is_initialised l (static_number (g.scope.meaning (r.name item.name)))) same.statics
        ∙ ap (is_initialised (map (renamed_static r) f.statics)) (number_renamed f g item.name same)
        ∙ is_initialised_renamed f.statics (static_number (f.scope.meaning item.name))) i

    declared_as_renamed : (f g : File) (s t : Scope) (d : Declared) (item : ItemTree) (i : Starts) → IsFileRenamed r f g → IsScopeRenamed r s t
        → AreRelated r.place (IsFileRenamed r) (declared_as f s d item i) (declared_as g t d (renamed_item r item) (renamed_starts r i))
    declared_as_renamed f g s t declares.Untyped item i same scope = (refl, refl)
    declared_as_renamed f g s t (declares.Function type) item i same scope =
        broken_related r.place (IsFileRenamed r) Mismatch item.at (is_some item.initial) (is_some (option_map (renamed_initial r) item.initial)) _ _ (given_initial r item.initial)
        (record { scope = scope; statics = same.statics; functions = same.functions })
    declared_as_renamed f g s t (declares.Object type) item i same scope =
        equal_related r.place same_value (IsFileRenamed r) (static_list type item.at i) _ _ _ (static_list_renamed type item.at i) (λ is. record {
          scope = scope;
          statics = ap (λ l. with_static l (static_number (g.scope.meaning (r.name item.name))) (r.name item.name) type is) same.statics
              ∙ ap (λ n. with_static (map (renamed_static r) f.statics) n (r.name item.name) type is) (number_renamed f g item.name same)
              ∙ with_static_renamed f.statics (static_number (f.scope.meaning item.name)) item.name type is;
          functions = same.functions;
        })

    item_as_renamed : (f g : File) (d : Declared) (item : ItemTree) → IsFileRenamed r f g → AreRelated r.place (IsFileRenamed r) (item_as f d item) (item_as g d (renamed_item r item))
    item_as_renamed f g d item same =
        subst (λ n. AreRelated r.place (IsFileRenamed r) (item_as f d item) (starts (with_declared g.scope (r.name item.name) n d) (option_map (renamed_initial r) item.initial) >>= λ i.
        breaks (not (may_declare g.scope (r.name item.name) d) || is_twice g (renamed_item r item)) Redeclared (r.place item.at)
        (declared_as g (with_declared g.scope (r.name item.name) n d) d (renamed_item r item) i)))
        (sym (ap length same.statics ∙ length-map f.statics (renamed_static r)))
        (equal_related r.place (renamed_starts r) (IsFileRenamed r) (starts (with_declared f.scope item.name (length f.statics) d) item.initial) _ _ _
        (starts_renamed (with_declared f.scope item.name (length f.statics) d) (with_declared g.scope (r.name item.name) (length f.statics) d) item.initial scope)
        (λ i. broken_related r.place (IsFileRenamed r) Redeclared item.at (not (may_declare f.scope item.name d) || is_twice f item) (not (may_declare g.scope (r.name item.name) d) || is_twice g (renamed_item r item)) _ _
        (λ j. not (may_declare_renamed f.scope g.scope item.name d same.scope j) || is_twice_renamed f g item same j)
        (declared_as_renamed f g (with_declared f.scope item.name (length f.statics) d) (with_declared g.scope (r.name item.name) (length f.statics) d) d item i same scope)))
      where
        scope : IsScopeRenamed r (with_declared f.scope item.name (length f.statics) d) (with_declared g.scope (r.name item.name) (length f.statics) d)
        scope = with_declared_renamed f.scope g.scope item.name (length f.statics) d same.scope

    file_items_renamed : (f g : File) (b : Base) (items : List ItemTree) → IsFileRenamed r f g → AreRelated r.place (IsFileRenamed r) (file_items f b items) (file_items g b (map (renamed_item r) items))
    file_items_renamed f g b [] same = same
    file_items_renamed f g b (item ∷ items) same =
        then_related r.place (IsFileRenamed r) (IsFileRenamed r) (file_item f b item) _ _ _
        (equal_related r.place same_value (IsFileRenamed r) (declarator f.scope b item.form item.stars item.initial) _ _ _
        (declarator_renamed r faithful f.scope g.scope b item.form item.stars item.initial same.scope) (λ d. item_as_renamed f g d item same))
        (λ p q same. file_items_renamed p q b items same)

    -- ---- functions

    with_body_renamed : (f g : File) (fn : FunctionSyntax) (result : Kind) (kinds : List ScalarType) → IsFileRenamed r f g
        → AreRelated r.place (IsFileRenamed r) (with_body f fn result kinds) (with_body g (renamed_function r fn) result kinds)
    with_body_renamed f g fn result kinds same =
        equal_related r.place (renamed_typed r (renamed_code r)) (IsFileRenamed r)
        (typed_body result (with_parameters (open_scope f.scope) 0 fn.parameters.list kinds) (parameter_locals fn.parameters.list kinds) fn.declarations fn.statements) _ _ _
        (ap (λ l. typed_body result (with_parameters (open_scope g.scope) 0 (map (renamed_parameter r) fn.parameters.list) kinds) l (renamed_function r fn).declarations (renamed_function r fn).statements)
        (parameter_locals_renamed fn.parameters.list kinds)
        ∙ typed_body_renamed r faithful result (with_parameters (open_scope f.scope) 0 fn.parameters.list kinds) (with_parameters (open_scope g.scope) 0 (map (renamed_parameter r) fn.parameters.list) kinds)
        (parameter_locals fn.parameters.list kinds) fn.declarations fn.statements
        (with_parameters_renamed (open_scope f.scope) (open_scope g.scope) 0 fn.parameters.list kinds (open_renamed same.scope)))
        (λ typed. record {
          scope = same.scope;
          statics = same.statics;
          functions = ap (λ l. l ++ renamed_typed_function r (made typed) ∷ []) same.functions ∙ sym (map-append (renamed_typed_function r) f.functions (made typed ∷ []));
        })
      where
        made : Typed Stmt → TypedFunction
        made typed = record { name = fn.name; result = result; parameters = length kinds; locals = typed.locals; body = typed.tree }

    is_defined_renamed : (f g : File) (name : List ℕ) → IsFileRenamed r f g → is_defined g (r.name name) ≡ is_defined f name
    is_defined_renamed f g name same =
        λ i. nat_lt (bodies_before_renamed faithful same.scope name i) ((ap length same.functions ∙ length-map f.functions (renamed_typed_function r)) i)

    function_as_renamed : (f g : File) (fn : FunctionSyntax) (type : FunctionType) → IsFileRenamed r f g
        → AreRelated r.place (IsFileRenamed r) (function_as f fn type) (function_as g (renamed_function r fn) type)
    function_as_renamed f g fn type same =
        then_related r.place (IsFileRenamed r) (IsFileRenamed r) (with_body (behind_name f fn.name type) fn type.result type.parameters) _ _ _
        (with_body_renamed (behind_name f fn.name type) (behind_name g (r.name fn.name) type) fn type.result type.parameters
        (record { scope = with_declared_renamed f.scope g.scope fn.name 0 (declares.Function type) same.scope; statics = same.statics; functions = same.functions }))
        (λ p q made. broken_related r.place (IsFileRenamed r) Redeclared fn.at (not (may_declare f.scope fn.name (declares.Function type)) || is_defined f fn.name)
        (not (may_declare g.scope (r.name fn.name) (declares.Function type)) || is_defined g (r.name fn.name)) (Is p) (Is q)
        (λ i. not (may_declare_renamed f.scope g.scope fn.name (declares.Function type) same.scope i) || is_defined_renamed f g fn.name same i) made)

    external_renamed : (f g : File) (x : ExternalTree) → IsFileRenamed r f g → AreRelated r.place (IsFileRenamed r) (external f x) (external g (renamed_external r x))
    external_renamed f g (Defined fn) same =
        equal_related r.place same_value (IsFileRenamed r) (spelled fn.specs) _ _ _ (spelled_renamed r fn.specs) (λ b.
        equal_related r.place same_value (IsFileRenamed r) (parameters (open_scope f.scope) Needed fn.parameters.list) _ _ _
        (parameters_renamed r faithful Needed (open_scope f.scope) (open_scope g.scope) fn.parameters.list (open_renamed same.scope)) (λ kinds.
        function_as_renamed f g fn (record { result = starred b fn.stars; parameters = kinds }) same))
    external_renamed f g (tree.Declared d) same =
        equal_related r.place same_value (IsFileRenamed r) (spelled d.specs) _ _ _ (spelled_renamed r d.specs) (λ b. file_items_renamed f g b d.items same)

    externals_renamed : (f g : File) (xs : UnitTree) → IsFileRenamed r f g → AreRelated r.place (IsFileRenamed r) (externals f xs) (externals g (renamed_unit r xs))
    externals_renamed f g [] same = same
    externals_renamed f g (x ∷ xs) same =
        then_related r.place (IsFileRenamed r) (IsFileRenamed r) (external f x) _ _ _ (external_renamed f g x same) (λ p q same. externals_renamed p q xs same)

    -- ---- the names of bodies

    among_renamed : (name : List ℕ) (names : List (List ℕ)) → is_name_among (r.name name) (map r.name names) ≡ is_name_among name names
    among_renamed name [] = refl
    among_renamed name (n ∷ names) = λ i. faithful.same n name i || among_renamed name names i

    bodies_renamed : (names : List (List ℕ)) (xs : UnitTree) → bodies_behind (map r.name names) (renamed_unit r xs) ≡ map r.name (bodies_behind names xs)
    bodies_renamed names [] = refl
    bodies_renamed names (tree.Declared d ∷ xs) = bodies_renamed names xs
    bodies_renamed names (Defined fn ∷ xs) =
        ap (λ l. bodies_behind l (renamed_unit r xs))
        (ap (λ b. if b then map r.name names else map r.name names ++ r.name fn.name ∷ []) (among_renamed fn.name names) ∙ by (is_name_among fn.name names))
        ∙ bodies_renamed (if is_name_among fn.name names then names else names ++ fn.name ∷ []) xs
      where
        by : (b : Bool) → (if b then map r.name names else map r.name names ++ r.name fn.name ∷ []) ≡ map r.name (if b then names else names ++ fn.name ∷ [])
        by true = refl
        by false = sym (map-append r.name names (fn.name ∷ []))

    pub typed_unit_renamed : (unit : UnitTree) → AreRelated r.place (IsFileRenamed r) (typed_unit unit) (typed_unit (renamed_unit r unit))
    typed_unit_renamed unit =
        externals_renamed (empty_file unit) (empty_file (renamed_unit r unit)) unit
        (record { scope = record { meaning = λ n. refl; here = λ n. refl; bodies = bodies_renamed [] unit }; statics = refl; functions = refl })
