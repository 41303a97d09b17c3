-- The items of blocks: functions and objects.
use Rattle.std.proofs.Common.{◌≡◌, ℕ, ◌+◌, ◌<◌, ◌≤◌, true, false, is_some, List, [], ◌∷◌, ◌++◌, map, drop, get_or, length, Option, Some, None, refl, ap, subst, sym, ◌∙◌}
use Rattle.c_tree.specs.declared.program.Base.{Base}
use Rattle.c_tree.specs.declared.program.VarRef.{VarRef}
use Rattle.c_tree.specs.declared.program.VarRef.TheVariants as refs
use Rattle.c_syntax.specs.declared.decl.Init.{Init}
use Rattle.c_syntax.specs.declared.decl.Init.TheVariants as init
use Rattle.c_syntax.specs.declared.decl.Item.{Item}
use Rattle.c_syntax.specs.SyntaxView.{declaration_of, item_form_of, initial_of, item_of, specs_of}
use Rattle.c_rules.specs.declared.meaning.Declared.{Declared}
use Rattle.c_rules.specs.declared.meaning.Declared.TheVariants as declares
use Rattle.c_rules.specs.declared.fault.Rule.TheVariants.{Mismatch, Misplaced, Redeclared}
use Rattle.c_rules.specs.declared.fault.Refusal.{Refusal}
use Rattle.c_rules.specs.declared.meaning.FunctionType.{FunctionType}
use Rattle.c_rules.specs.declared.meaning.ObjectType.{ObjectType}
use Rattle.c_rules.specs.Answers.{Refuses}
use Rattle.c_rules.specs.Outcome.{Outcome, Is, Broken, ◌>>=◌, breaks}
use Rattle.c_rules.specs.Scopes.{Scope, is_taken}
use Rattle.c_rules.specs.Declarations.{declarator}
use Rattle.std.proofs.lemmas.List.{map-append}
use Rattle.std.proofs.Math.ListN.{drop_of_length-le}
use Rattle.c_rules.proofs.Turns.{first_left}
use Rattle.c_syntax.specs.declared.decl.Decl.{Decl}
use Rattle.c_rules.specs.declared.fault.Refusal.TheVariants as refusals
use Rattle.c_rules.specs.Typing.{plain}
use Rattle.c_syntax.specs.SyntaxTree.{ItemTree}
use Rattle.c_rules.specs.declared.local.Local.{Local}
use Rattle.c_rules.specs.LocalView.{local_tree_of}
use Rattle.c_rules.specs.Statements.{Opened, Initialiser, ObjectStart, initialiser, is_array, with_named_object, declared_as, block_item, block_items, declarations, placed, started}

initial_given : (i : Option Init) → is_some (initial_of i) ≡ is_some i
initial_given None = refl
initial_given (Some (init.One e)) = refl
initial_given (Some (init.Braced values at)) = refl

-- a function among the items of a block
pub function_refused : (o : Opened) (b : Base) (item : Item) (s t : Scope) (r : VarRef) (name : List ℕ) (d : Declared) (type : FunctionType) (i : Initialiser) (f : Refusal) → declarator o.scope b (item_form_of item.kind) item.stars (initial_of item.init) ≡ Is d → d ≡ declares.Function type → s ≡ o.scope → t ≡ with_named_object s name r d → initialiser t (is_array (item_form_of item.kind)) (initial_of item.init) ≡ Is i → name ≡ item.name → is_taken s name ≡ false → Refuses {A = Opened} (breaks (is_some item.init) Mismatch item.at (Broken Misplaced item.at)) f → Refuses (block_item o b (item_of item)) f
function_refused o b item s t r name d type i f declared function same seen typed named untaken h =
    let here : t ≡ o.scope = seen ∙ ap (with_named_object s name r) function ∙ same in
    let typed_here : initialiser o.scope (is_array (item_form_of item.kind)) (initial_of item.init) ≡ Is i = ap (λ u. initialiser u (is_array (item_form_of item.kind)) (initial_of item.init)) (sym here) ∙ typed in
    let untaken_here : is_taken o.scope item.name ≡ false = ap (λ u. is_taken u item.name) (sym same) ∙ ap (is_taken s) (sym named) ∙ untaken in
    let declared_here : declarator o.scope b (item_form_of item.kind) item.stars (initial_of item.init) ≡ Is (declares.Function type) = declared ∙ ap Is function in
    let P : Outcome Opened → Type 0 = λ x. Refuses x f in
    let whole : breaks (is_some item.init) Mismatch item.at (Broken Misplaced item.at) ≡ block_item o b (item_of item) = rw (declared_here, typed_here, untaken_here, initial_given item.init) in
    subst P whole h

-- an object among the items of a block
pub object_same : (o : Opened) (b : Base) (item : Item) (s t : Scope) (n : ℕ) (name : List ℕ) (d : Declared) (type : ObjectType) (i : Initialiser)
    → declarator o.scope b (item_form_of item.kind) item.stars (initial_of item.init) ≡ Is d → d ≡ declares.Object type → s ≡ o.scope → t ≡ with_named_object s name (refs.Local n) d
    → initialiser t (is_array (item_form_of item.kind)) (initial_of item.init) ≡ Is i → name ≡ item.name → is_taken s name ≡ false → n ≡ length o.locals
    → declared_as o t (refs.Local n) (declares.Object type) (item_of item) i ≡ block_item o b (item_of item)
object_same o b item s t n name d type i declared object same seen typed named untaken count =
    let r : VarRef = refs.Local (length o.locals) in
    let within : Scope = with_named_object o.scope item.name r (declares.Object type) in
    let here : t ≡ within = seen ∙ (λ j. with_named_object (same j) (named j) (refs.Local (count j)) (object j)) in
    let typed_here : initialiser within (is_array (item_form_of item.kind)) (initial_of item.init) ≡ Is i = ap (λ u. initialiser u (is_array (item_form_of item.kind)) (initial_of item.init)) (sym here) ∙ typed in
    let untaken_here : is_taken o.scope item.name ≡ false = ap (λ u. is_taken u item.name) (sym same) ∙ ap (is_taken s) (sym named) ∙ untaken in
    let declared_here : declarator o.scope b (item_form_of item.kind) item.stars (initial_of item.init) ≡ Is (declares.Object type) = declared ∙ ap Is object in
    let whole : declared_as o within r (declares.Object type) (item_of item) i ≡ block_item o b (item_of item) = rw (declared_here, typed_here, untaken_here) in
    (λ j. declared_as o (here j) (refs.Local (count j)) (declares.Object type) (item_of item) i) ∙ whole

-- the objects of a function, with one more
pub one_more : (ls : List Local) (l : Local) → map local_tree_of (ls ++ l ∷ []) ≡ map local_tree_of ls ++ local_tree_of l ∷ []
one_more ls l = map-append local_tree_of ls (l ∷ [])

-- an object that is declared, with its start
pub object_placed : (o p : Opened) (s : Scope) (r : VarRef) (type : ObjectType) (item : ItemTree) (i : Initialiser) (start : ObjectStart)
    → started r type item.at i ≡ Is start → p ≡ placed o s item.name r type start → declared_as o s r (declares.Object type) item i ≡ Is p
object_placed o p s r type item i start begun same = ap (λ x. x >>= λ start. Is (placed o s item.name r type start)) begun ∙ ap Is (sym same)

-- a turn over the items of a declaration
module _ (o : Opened) (b : Base) (whole : Outcome Opened) (list : List Item) (i : ℕ) (item : Item) (is : item ≡ get_or list i item) (within : i < length list) (so_far : whole ≡ block_items o b (map item_of (drop i list))) where
  pub item_typed : (p : Opened) → block_item o b (item_of item) ≡ Is p → whole ≡ block_items p b (map item_of (drop (i + 1) list))
  item_typed p h =
      so_far
      ∙ ap (λ l. block_items o b (map item_of l)) (first_left list i item is within)
      ∙ ap (λ x. x >>= λ p. block_items p b (map item_of (drop (i + 1) list))) h

  pub item_refused : (f : Refusal) → Refuses (block_item o b (item_of item)) f → Refuses whole f
  item_refused refusals.NoMemory h = tt {0}
  item_refused (refusals.Broken rule at) h =
      so_far
      ∙ ap (λ l. block_items o b (map item_of l)) (first_left list i item is within)
      ∙ ap (λ x. x >>= λ p. block_items p b (map item_of (drop (i + 1) list))) h

pub items_ended : (o : Opened) (b : Base) (list : List Item) (i : ℕ) → length list ≤ i → block_items o b (map item_of (drop i list)) ≡ Is o
items_ended o b list i above = ap (λ l. block_items o b (map item_of l)) (drop_of_length-le list above)

-- a turn over the declarations of a block
module _ (o : Opened) (whole : Outcome Opened) (list : List Decl) (i : ℕ) (d : Decl) (is : d ≡ get_or list i d) (within : i < length list) (so_far : whole ≡ declarations o (map declaration_of (drop i list))) where
  abbrev after : Outcome Base → List Item → Outcome Opened
  after base items = base >>= λ b. block_items o b (map item_of items) >>= λ p. declarations p (map declaration_of (drop (i + 1) list))

  here : whole ≡ after (plain (specs_of d.specs)) d.items
  here = so_far ∙ ap (λ l. declarations o (map declaration_of l)) (first_left list i d is within)

  pub specs_refused : (f : Refusal) → Refuses (plain (specs_of d.specs)) f → Refuses whole f
  specs_refused refusals.NoMemory h = tt {0}
  specs_refused (refusals.Broken rule at) h = here ∙ ap (λ x. after x d.items) h

  module _ (b : Base) (items : List Item) (spelled : plain (specs_of d.specs) ≡ Is b) (same : items ≡ d.items) where
    pub declaration_typed : (p : Opened) → block_items o b (map item_of items) ≡ Is p → whole ≡ declarations p (map declaration_of (drop (i + 1) list))
    declaration_typed p h =
        here ∙ ap (λ x. after x d.items) spelled ∙ ap (after (Is b)) (sym same)
        ∙ ap (λ x. x >>= λ p. declarations p (map declaration_of (drop (i + 1) list))) h

    pub declaration_refused : (f : Refusal) → Refuses (block_items o b (map item_of items)) f → Refuses whole f
    declaration_refused refusals.NoMemory h = tt {0}
    declaration_refused (refusals.Broken rule at) h =
        here ∙ ap (λ x. after x d.items) spelled ∙ ap (after (Is b)) (sym same)
        ∙ ap (λ x. x >>= λ p. declarations p (map declaration_of (drop (i + 1) list))) h

pub declarations_ended : (o : Opened) (list : List Decl) (i : ℕ) → length list ≤ i → declarations o (map declaration_of (drop i list)) ≡ Is o
declarations_ended o list i above = ap (λ l. declarations o (map declaration_of l)) (drop_of_length-le list above)

-- an item behind its declarator
module _ (o : Opened) (b : Base) (item : Item) (s t : Scope) (n : ℕ) (name : List ℕ) (d : Declared)
    (declared : declarator o.scope b (item_form_of item.kind) item.stars (initial_of item.init) ≡ Is d) (same : s ≡ o.scope) (seen : t ≡ with_named_object s name (refs.Local n) d) (named : name ≡ item.name) (count : n ≡ length o.locals) where
  abbrev first : Outcome Initialiser
  first = initialiser t (is_array (item_form_of item.kind)) (initial_of item.init)

  abbrev rest : Initialiser → Outcome Opened
  rest i = breaks (is_taken s name) Redeclared item.at (declared_as o t (refs.Local n) d (item_of item) i)

  item_is : block_item o b (item_of item) ≡ (first >>= rest)
  item_is =
      let r : VarRef = refs.Local (length o.locals) in
      let here : with_named_object o.scope item.name r d ≡ t = sym (seen ∙ (λ j. with_named_object (same j) (named j) (refs.Local (count j)) d)) in
      ap (λ x. x >>= λ d. initialiser (with_named_object o.scope item.name r d) (is_array (item_form_of item.kind)) (initial_of item.init) >>= λ i. breaks (is_taken o.scope item.name) Redeclared item.at (declared_as o (with_named_object o.scope item.name r d) r d (item_of item) i)) declared
      ∙ (λ j. initialiser (here j) (is_array (item_form_of item.kind)) (initial_of item.init) >>= λ i. breaks (is_taken (sym same j) (sym named j)) Redeclared item.at (declared_as o (here j) (refs.Local (sym count j)) d (item_of item) i))

  pub initialiser_refused : (f : Refusal) → Refuses first f → Refuses (block_item o b (item_of item)) f
  initialiser_refused refusals.NoMemory h = tt {0}
  initialiser_refused (refusals.Broken rule at) h = item_is ∙ ap (λ x. x >>= rest) h

  module _ (i : Initialiser) (f : Refusal) (typed : first ≡ Is i) where
    pub taken_refused : is_taken s name ≡ true → f ≡ refusals.Broken Redeclared item.at → Refuses (block_item o b (item_of item)) f
    taken_refused taken is =
        let P : Refusal → Type 0 = λ g. Refuses (block_item o b (item_of item)) g in
        subst P (sym is) (item_is ∙ ap (λ x. x >>= rest) typed ∙ ap (λ x. breaks x Redeclared item.at (declared_as o t (refs.Local n) d (item_of item) i)) taken)

    pub untyped_refused : is_taken s name ≡ false → d ≡ declares.Untyped → f ≡ refusals.Broken Mismatch item.at → Refuses (block_item o b (item_of item)) f
    untyped_refused untaken untyped is =
        let P : Refusal → Type 0 = λ g. Refuses (block_item o b (item_of item)) g in
        subst P (sym is)
        (item_is ∙ ap (λ x. x >>= rest) typed ∙ ap (λ x. breaks x Redeclared item.at (declared_as o t (refs.Local n) d (item_of item) i)) untaken
        ∙ ap (λ x. declared_as o t (refs.Local n) x (item_of item) i) untyped)
