-- Turns of the loops over the parts of a source: types, parameters, items and externals.
use Rattle.std.proofs.Common.{◌≡◌, ℕ, ◌+◌, ◌<◌, ◌≤◌, ◌&&◌, ◌||◌, Bool, true, false, if◌then◌else◌, List, [], ◌∷◌, ◌++◌, map, set, drop, get_or, length, Option, Some, None, is_some, is_none, option_map, true≢false, not, Bor, subst, refl, ap, sym, ◌∙◌, append-nil}
use Rattle.std.specs.Str.{bytes_eq}
use Rattle.std.specs.List.{list_any}
use Rattle.std.specs.Prelude.{Result, slice_get, slice_set}
use Rattle.std.proofs.Math.ListN.{drop_of_length-le}
use Rattle.std.proofs.lemmas.Cmp.{nat_list_eq_equiv}
use Rattle.std.proofs.lemmas.List.{map-append, map-set}
use Rattle.std.proofs.lemmas.Option.{slice_get-map, slice_get_read}
use Rattle.indexmap.specs.IndexSet.{insert_key}
use Rattle.c_tree.specs.declared.program.Base.{Base}
use Rattle.c_tree.specs.declared.program.ScalarType.{ScalarType}
use Rattle.c_tree.specs.declared.program.Initial.{Initial}
use Rattle.c_syntax.specs.declared.decl.Param.{Param}
use Rattle.c_syntax.specs.declared.decl.Item.{Item}
use Rattle.c_syntax.specs.declared.decl.Init.{Init}
use Rattle.c_syntax.specs.declared.decl.Init.TheVariants as init
use Rattle.c_syntax.specs.declared.unit.External.{External}
use Rattle.c_syntax.specs.declared.unit.External.TheVariants as externals_of
use Rattle.c_syntax.specs.declared.unit.FunctionDef.{FunctionDef}
use Rattle.c_syntax.specs.declared.decl.Decl.{Decl}
use Rattle.c_syntax.specs.SyntaxTree.{ItemTree, FunctionSyntax, ParameterTree}
use Rattle.c_tree.specs.TypedTree.{Kind, Stmt}
use Rattle.c_syntax.specs.SyntaxView.{parameter_of, initial_of, item_of, external_of, unit_of}
use Rattle.c_rules.specs.declared.meaning.Declared.{Declared}
use Rattle.c_rules.specs.declared.meaning.Declared.TheVariants as declares
use Rattle.c_rules.specs.declared.fault.Rule.{Rule}
use Rattle.c_rules.specs.declared.fault.Rule.TheVariants.{Redeclared, Mismatch}
use Rattle.c_rules.specs.declared.fault.Refusal.{Refusal}
use Rattle.c_rules.specs.declared.fault.Refusal.TheVariants as refusals
use Rattle.c_rules.specs.declared.meaning.Meaning.{Meaning}
use Rattle.c_rules.specs.declared.meaning.Meaning.TheVariants as meanings
use Rattle.c_rules.specs.declared.meaning.ObjectType.{ObjectType}
use Rattle.c_scopes.specs.c_names.declared.statics.Static as memory
use Rattle.c_limits.specs.declared.functions.TypedFunction as functions
use Rattle.c_rules.specs.Answers.{Follows, Refuses}
use Rattle.c_rules.specs.Declarations.{declarator}
use Rattle.c_rules.specs.Outcome.{Outcome, Is, Broken, ◌>>=◌, breaks}
use Rattle.c_rules.specs.Scopes.{Scope, open_scope, is_in, is_out}
use Rattle.c_rules.specs.Statements.{LocalTree, Typed, typed_body}
use Rattle.c_scopes.specs.Tables.{key_names}
use Rattle.c_scopes.specs.c_names.Statics.{static_tree_of}
use Rattle.c_limits.specs.FunctionView.{typed_function_of}
use Rattle.c_rules.specs.Units.{File, StaticTree, Starts, starts, agrees, may_declare, with_declared, static_number, is_initialised, is_twice, untyped_rule, item_as, declared_as, with_parameters, with_list, with_static, set_list, file_item, file_items, external, externals, is_name_among, bodies_behind, with_function, with_body, parameter_locals}
use Rattle.c_objects.proofs.AgreementLemmas.{same_false}
use Rattle.c_rules.proofs.Turns.{first_left}

-- the names of a set with one more name
module _ (name : Bor (List ℕ)) where
  among_names : (keys : List (Bor (List ℕ))) → list_any (λ k. bytes_eq name.now k.now) keys ≡ is_name_among name.now (key_names keys)
  among_names [] = refl
  among_names (k ∷ keys) =
      ap (λ b. b || list_any (λ k'. bytes_eq name.now k'.now) keys) (nat_list_eq_equiv.symm name.now k.now)
      ∙ ap (λ b. bytes_eq k.now name.now || b) (among_names keys)

  names_chosen : (b : Bool) (keys : List (Bor (List ℕ))) → key_names (if b then keys else keys ++ name ∷ []) ≡ (if b then key_names keys else key_names keys ++ name.now ∷ [])
  names_chosen true keys = refl
  names_chosen false keys = map-append (λ (k : Bor (List ℕ)). k.now) keys (name ∷ [])

  pub names_inserted : (keys : List (Bor (List ℕ))) → key_names (insert_key (λ a b. bytes_eq a.now b.now) keys name) ≡ (if is_name_among name.now (key_names keys) then key_names keys else key_names keys ++ name.now ∷ [])
  names_inserted keys = names_chosen (list_any (λ k. bytes_eq name.now k.now) keys) keys ∙ ap (λ b. if b then key_names keys else key_names keys ++ name.now ∷ []) (among_names keys)

-- parameters as objects: one of a turn, and those behind the end of the types
none_placed : (ps : List ParameterTree) → parameter_locals ps [] ≡ []
none_placed [] = refl
none_placed (p ∷ ps) = refl

pub locals_ended : {made whole : List LocalTree} (list : List Param) (kinds : List ScalarType) (i : ℕ) → length kinds ≤ i
    → made ++ parameter_locals (map parameter_of (drop i list)) (drop i kinds) ≡ whole → made ≡ whole
locals_ended {made = made} list kinds i past so_far =
    sym (append-nil made)
    ∙ ap (λ l. made ++ l) (sym (ap (parameter_locals (map parameter_of (drop i list))) (drop_of_length-le kinds past) ∙ none_placed (map parameter_of (drop i list))))
    ∙ so_far

-- items of a declaration
pub item_typed : (f g : File) (b : Base) (whole : Outcome File) (list : List Item) (i : ℕ) (item : Item) → item ≡ get_or list i item → i < length list → whole ≡ file_items f b (map item_of (drop i list)) → file_item f b (item_of item) ≡ Is g → whole ≡ file_items g b (map item_of (drop (i + 1) list))
item_typed f g b whole list i item is below so_far h =
    so_far ∙ ap (λ l. file_items f b (map item_of l)) (first_left list i item is below) ∙ ap (λ x. x >>= λ q. file_items q b (map item_of (drop (i + 1) list))) h

pub item_refused : (f : File) (b : Base) (whole : Outcome File) (list : List Item) (i : ℕ) (item : Item) (refusal : Refusal) → item ≡ get_or list i item → i < length list → whole ≡ file_items f b (map item_of (drop i list)) → Refuses (file_item f b (item_of item)) refusal → Refuses whole refusal
item_refused f b whole list i item (refusals.Broken rule at) is below so_far h =
    so_far ∙ ap (λ l. file_items f b (map item_of l)) (first_left list i item is below) ∙ ap (λ x. x >>= λ q. file_items q b (map item_of (drop (i + 1) list))) h
item_refused f b whole list i item refusals.NoMemory is below so_far h = tt {0}

-- externals
pub external_typed : (f g : File) (whole : Outcome File) (list : List External) (i : ℕ) (x : External) → x ≡ get_or list i x → i < length list → whole ≡ externals f (unit_of (drop i list)) → external f (external_of x) ≡ Is g → whole ≡ externals g (unit_of (drop (i + 1) list))
external_typed f g whole list i x is below so_far h =
    so_far ∙ ap (λ l. externals f (unit_of l)) (first_left list i x is below) ∙ ap (λ o. o >>= λ q. externals q (unit_of (drop (i + 1) list))) h

pub external_refused : (f : File) (whole : Outcome File) (list : List External) (i : ℕ) (x : External) (refusal : Refusal) → x ≡ get_or list i x → i < length list → whole ≡ externals f (unit_of (drop i list)) → Refuses (external f (external_of x)) refusal → Refuses whole refusal
external_refused f whole list i x (refusals.Broken rule at) is below so_far h =
    so_far ∙ ap (λ l. externals f (unit_of l)) (first_left list i x is below) ∙ ap (λ o. o >>= λ q. externals q (unit_of (drop (i + 1) list))) h
external_refused f whole list i x refusals.NoMemory is below so_far h = tt {0}

abbrev broken : Rule → ℕ → Outcome File
broken rule at = Broken rule at

-- an item without a valid type
module _ (statics : List StaticTree) (given : Bool) (at : ℕ) where
  untyped_broken : (port : Bool) (m : Option Meaning) → breaks (not (not port && agrees m declares.Untyped) || (given && is_initialised statics (static_number m))) Redeclared at (broken Mismatch at) ≡ Broken (if port || is_some m then Redeclared else Mismatch) at
  untyped_broken true m = refl
  untyped_broken false None = ap (λ b. breaks b Redeclared at (broken Mismatch at)) (same_false given)
  untyped_broken false (Some (meanings.Object r type)) = refl
  untyped_broken false (Some (meanings.Function type)) = refl

module _ (f : File) (item : ItemTree) where
  same_either : (b : Bool) (s : Scope) → (if b then s else s) ≡ s
  same_either true s = refl
  same_either false s = refl

  untyped_item : item_as f declares.Untyped item ≡ (starts f.scope item.initial >>= λ i. Broken (untyped_rule f.scope item.name) item.at)
  untyped_item =
      ap (λ s. starts s item.initial >>= λ i. breaks (not (may_declare f.scope item.name declares.Untyped) || is_twice f item) Redeclared item.at (broken Mismatch item.at)) (same_either (may_declare f.scope item.name declares.Untyped && is_none (f.scope.meaning item.name)) f.scope)
      ∙ ap (λ o. starts f.scope item.initial >>= λ i. o) (untyped_broken f.statics (is_some item.initial) item.at (is_in item.name || is_out item.name) (f.scope.meaning item.name))

  pub untyped_refused : (refusal : Refusal) → Refuses (starts f.scope item.initial) refusal → Refuses (item_as f declares.Untyped item) refusal
  untyped_refused (refusals.Broken rule at) h = untyped_item ∙ ap (λ o. o >>= λ i. broken (untyped_rule f.scope item.name) item.at) h
  untyped_refused refusals.NoMemory h = tt {0}

  pub untyped_refuses : (i : Starts) (refusal : Refusal) → starts f.scope item.initial ≡ Is i → refusal ≡ refusals.Broken (untyped_rule f.scope item.name) item.at → Refuses (item_as f declares.Untyped item) refusal
  untyped_refuses i refusal h is =
      subst (Refuses (item_as f declares.Untyped item)) (sym is) (untyped_item ∙ ap (λ o. o >>= λ j. broken (untyped_rule f.scope item.name) item.at) h)

-- an item by what its declarator gives, which leaves the scope as it was
pub item_follows : {T : Type 0} (f g h : File) (b : Base) (item : ItemTree) (d : Declared) (r : Result T Refusal) → declarator f.scope b item.form item.stars item.initial ≡ Is d → g ≡ f
    → Follows (λ _. h) (item_as g d item) r → Follows (λ _. h) (file_item f b item) r
item_follows f g h b item d r typed same known =
    subst (λ o. Follows (λ _. h) o r) (ap (λ k. item_as k d item) same ∙ sym (ap (λ o. o >>= λ e. item_as f e item) typed)) known

-- an item of this type, in the scope behind its declarator
module _ (f : File) (item : ItemTree) (d : Declared) (s : Scope) (name : List ℕ) (n : ℕ) (allowed twice : Bool) (named : name ≡ item.name) (numbered : n ≡ length f.statics) (is : s ≡ with_declared f.scope name n d) (may : allowed ≡ may_declare f.scope name d) (again : twice ≡ is_twice f item) where
  abbrev behind : Scope
  behind = with_declared f.scope item.name (length f.statics) d

  behind_is : s ≡ behind
  behind_is = is ∙ ap (λ m. with_declared f.scope m n d) named ∙ ap (λ k. with_declared f.scope item.name k d) numbered

  broken_is : (not allowed || twice) ≡ (not (may_declare f.scope item.name d) || is_twice f item)
  broken_is = ap (λ b. not b || twice) (may ∙ ap (λ m. may_declare f.scope m d) named) ∙ ap (λ b. not (may_declare f.scope item.name d) || b) again

  abbrev rest : Starts → Outcome File
  rest i = breaks (not (may_declare f.scope item.name d) || is_twice f item) Redeclared item.at (declared_as f behind d item i)

  started : (o : Outcome Starts) → starts s item.initial ≡ o → item_as f d item ≡ (o >>= rest)
  started o h = ap (λ t. starts t item.initial >>= rest) (sym behind_is) ∙ ap (λ x. x >>= rest) h

  pub starts_refused : (refusal : Refusal) → Refuses (starts s item.initial) refusal → Refuses (item_as f d item) refusal
  starts_refused (refusals.Broken rule at) h = started (Broken rule at) h
  starts_refused refusals.NoMemory h = tt {0}

  module _ (i : Starts) (typed : starts s item.initial ≡ Is i) where
    pub redeclared_refused : (refusal : Refusal) → (not allowed || twice) ≡ true → refusal ≡ refusals.Broken Redeclared item.at → Refuses (item_as f d item) refusal
    redeclared_refused refusal is_broken refuses =
        subst (Refuses (item_as f d item)) (sym refuses) (started (Is i) typed ∙ ap (λ b. breaks b Redeclared item.at (declared_as f behind d item i)) (sym broken_is ∙ is_broken))

    -- one that breaks no rule so far
    pub declared_item : (not allowed || twice) ≡ false → item_as f d item ≡ declared_as f s d item i
    declared_item kept =
        started (Is i) typed ∙ ap (λ b. breaks b Redeclared item.at (declared_as f behind d item i)) (sym broken_is ∙ kept)
        ∙ ap (λ t. declared_as f t d item i) (sym behind_is)

    pub declared_refused : (refusal : Refusal) → (not allowed || twice) ≡ false → Refuses (declared_as f s d item i) refusal → Refuses (item_as f d item) refusal
    declared_refused refusal kept h = subst (λ o. Refuses o refusal) (sym (declared_item kept)) h

module _ (allowed twice : Bool) where
  pub not_allowed : allowed ≡ false → (not allowed || twice) ≡ true
  not_allowed h = ap (λ b. not b || twice) h

  pub allowed_twice : allowed ≡ true → twice ≡ true → (not allowed || twice) ≡ true
  allowed_twice h t = ap (λ b. not b || twice) h ∙ t

  pub allowed_once : allowed ≡ true → twice ≡ false → (not allowed || twice) ≡ false
  allowed_once h t = ap (λ b. not b || twice) h ∙ t

pub initial_given : (i : Option Init) (given : Bool) → given ≡ is_some i → is_some (initial_of i) ≡ given
initial_given None given h = sym h
initial_given (Some (init.One e)) given h = sym h
initial_given (Some (init.Braced values at)) given h = sym h

pub breaks_mismatch : (b : Bool) (at : ℕ) (next : Outcome File) (refusal : Refusal) → b ≡ true → refusal ≡ refusals.Broken Mismatch at → Refuses (breaks b Mismatch at next) refusal
breaks_mismatch b at next refusal is_broken is = subst (Refuses (breaks b Mismatch at next)) (sym is) (ap (λ x. breaks x Mismatch at next) is_broken)

-- what is refused is refused with all that stands behind it
pub refused_first : {A B : Type 0} (o : Outcome A) (next : A → Outcome B) (refusal : Refusal) → Refuses o refusal → Refuses (o >>= next) refusal
refused_first o next (refusals.Broken rule at) h = ap (λ x. x >>= next) h
refused_first o next refusals.NoMemory h = tt {0}

-- an object among those of file scope gets its list, or keeps what it had
list_given : (xs : List StaticTree) (n : ℕ) (x y : StaticTree) (list : Option (List Initial)) → slice_get xs n ≡ Some x → y ≡ with_list x list → slice_set xs n y ≡ set_list xs n (slice_get xs n) list
list_given xs n x y list there is = ap (slice_set xs n) is ∙ ap (λ o. set_list xs n o list) (sym there)

module _ (items : List memory.Static) (n : ℕ) (number : Option ℕ) (numbered : number ≡ Some n) (below : n < length items) (x : memory.Static) (is : x ≡ get_or items n x) (name : List ℕ) (type : ObjectType) (list : Option (List Initial)) where
  static_set : (y : memory.Static) → static_tree_of y ≡ with_list (static_tree_of x) list → map static_tree_of (set items n y) ≡ with_static (map static_tree_of items) number name type list
  static_set y given =
      map-set static_tree_of items n y
      ∙ list_given (map static_tree_of items) n (static_tree_of x) (static_tree_of y) list (slice_get-map static_tree_of items n ∙ ap (option_map static_tree_of) (slice_get_read items (length items) n x refl below is)) given
      ∙ ap (λ m. with_static (map static_tree_of items) m name type list) (sym numbered)

  with_some : (l : Option (List Initial)) → is_some l ≡ true → static_tree_of (record { name = x.name; object_type = x.object_type; initial = l }) ≡ with_list (static_tree_of x) l
  with_some None h = absurd (true≢false (sym h))
  with_some (Some values) h = refl

  with_none : (l : Option (List Initial)) → is_some l ≡ false → static_tree_of x ≡ with_list (static_tree_of x) l
  with_none None h = refl
  with_none (Some values) h = absurd (true≢false h)

  pub list_set : is_some list ≡ true → map static_tree_of (set items n (record { name = x.name; object_type = x.object_type; initial = list })) ≡ with_static (map static_tree_of items) number name type list
  list_set h = static_set (record { name = x.name; object_type = x.object_type; initial = list }) (with_some list h)

  pub list_kept : is_some list ≡ false → map static_tree_of (set items n x) ≡ with_static (map static_tree_of items) number name type list
  list_kept h = static_set x (with_none list h)

-- a function with its body
module _ (file : File) (f : FunctionSyntax) (result : Kind) (kinds : List ScalarType) where
  abbrev then_pushed : Typed Stmt → Outcome File
  then_pushed r = Is (with_function file f.name result kinds r)

  pub body_typed : (s : Scope) (locals : List LocalTree) (r : Typed Stmt) (g : File) → s ≡ with_parameters (open_scope file.scope) 0 f.parameters.list kinds → locals ≡ parameter_locals f.parameters.list kinds → typed_body result s locals f.declarations f.statements ≡ Is r → g ≡ with_function file f.name result kinds r → with_body file f result kinds ≡ Is g
  body_typed s locals r g s_is locals_are typed g_is =
      ap (λ t. typed_body result t (parameter_locals f.parameters.list kinds) f.declarations f.statements >>= then_pushed) (sym s_is)
      ∙ ap (λ l. typed_body result s l f.declarations f.statements >>= then_pushed) (sym locals_are)
      ∙ ap (λ o. o >>= then_pushed) typed
      ∙ ap Is (sym g_is)

-- an external among those that may be functions with bodies
module _ (list : List External) (i : ℕ) (x : External) (is : x ≡ get_or list i x) (below : i < length list) where
  bodies_from : (names : List (List ℕ)) → bodies_behind names (unit_of (drop i list)) ≡ bodies_behind names (external_of x ∷ unit_of (drop (i + 1) list))
  bodies_from names = ap (λ l. bodies_behind names (unit_of l)) (first_left list i x is below)

  pub declaration_passed : (d : Decl) (names : List (List ℕ)) → x ≡ externals_of.Declaration d → bodies_behind names (unit_of (drop i list)) ≡ bodies_behind names (unit_of (drop (i + 1) list))
  declaration_passed d names declared = bodies_from names ∙ ap (λ y. bodies_behind names (external_of y ∷ unit_of (drop (i + 1) list))) declared

  pub function_passed : (f : FunctionDef) (name : Bor (List ℕ)) (keys more : List (Bor (List ℕ))) → x ≡ externals_of.Function f → name.now ≡ f.name → more ≡ insert_key (λ a b. bytes_eq a.now b.now) keys name → bodies_behind (key_names keys) (unit_of (drop i list)) ≡ bodies_behind (key_names more) (unit_of (drop (i + 1) list))
  function_passed f name keys more defined named put =
      bodies_from (key_names keys)
      ∙ ap (λ y. bodies_behind (key_names keys) (external_of y ∷ unit_of (drop (i + 1) list))) defined
      ∙ ap (λ n. bodies_behind (if is_name_among n (key_names keys) then key_names keys else key_names keys ++ n ∷ []) (unit_of (drop (i + 1) list))) (sym named)
      ∙ ap (λ ns. bodies_behind ns (unit_of (drop (i + 1) list))) (sym (ap key_names put ∙ names_inserted name keys))

-- the functions with one more
pub function_pushed : (file : File) (s : Scope) (before after : List functions.TypedFunction) (t : functions.TypedFunction) (name : List ℕ) (result : Kind) (kinds : List ScalarType) (r : Typed Stmt) → s ≡ file.scope → file.functions ≡ map typed_function_of before → after ≡ before ++ t ∷ [] → typed_function_of t ≡ record { name = name; result = result; parameters = length kinds; locals = r.locals; body = r.tree } → record { scope = s; statics = file.statics; functions = map typed_function_of after } ≡ with_function file name result kinds r
function_pushed file s before after t name result kinds r s_is before_is put t_is =
    let one_more : map typed_function_of after ≡ file.functions ++ record { name = name; result = result; parameters = length kinds; locals = r.locals; body = r.tree } ∷ [] =
    ap (map typed_function_of) put ∙ map-append typed_function_of before (t ∷ []) ∙ ap (λ x. map typed_function_of before ++ x ∷ []) t_is
    ∙ ap (λ l. l ++ record { name = name; result = result; parameters = length kinds; locals = r.locals; body = r.tree } ∷ []) (sym before_is) in
    λ i. record { scope = s_is i; statics = file.statics; functions = one_more i }
