-- What the declarations of a block add, and the statements with which they begin it.
use Rattle.std.proofs.Common.{◌≡◌, ◌≤◌, ℕ, suc, Bool, true, false, nat_lt, List, [], ◌∷◌, ◌++◌, length, is_some, Option, Some, None, refl, ap, sym}
use Rattle.std.proofs.Common.{subst, length-append, arith}
use Rattle.std.specs.Prelude.{⊤}
use Rattle.std.proofs.lemmas.Bool.{or_left}
use Rattle.c_syntax.specs.SyntaxTree as tree
use Rattle.c_syntax.specs.SyntaxTree.{Expression, ItemTree, InitialTree, DeclarationTree}
use Rattle.c_tree.specs.declared.enclosing.Enclosing.TheVariants as around
use Rattle.c_tree.specs.declared.program.Base.{Base}
use Rattle.c_tree.specs.declared.program.ScalarType.{ScalarType}
use Rattle.c_tree.specs.declared.program.VarRef.{VarRef}
use Rattle.c_tree.specs.declared.program.VarRef.TheVariants as refs
use Rattle.c_tree.specs.WellFormed.{Names, same_reference}
use Rattle.c_rules.specs.declared.meaning.Declared.{Declared}
use Rattle.c_rules.specs.declared.meaning.Declared.TheVariants as declares
use Rattle.c_rules.specs.declared.meaning.ObjectType.{ObjectType}
use Rattle.c_rules.specs.declared.meaning.ObjectType.TheVariants.{Single, Array}
use Rattle.c_rules.specs.Declarations.{declarator, Entry, entry, entries, cell, cells, array_list}
use Rattle.c_rules.specs.Operands.{given}
use Rattle.c_rules.specs.Scopes.{Scope, is_taken}
use Rattle.c_rules.specs.Statements.{LocalTree, Initialiser, Absent, Value, Listed, Misbraced, all_typed, initialiser, is_array, ObjectStart, started, Opened}
use Rattle.c_rules.specs.Statements.{opened_in, with_named_object, placed, declared_as, block_item, block_items, declarations}
use Rattle.c_rules.specs.Typing.{plain, typing}
use Rattle.c_rules.proofs.Formed.Context.{Gives, is, broken, behind, unless, Fits}
use Rattle.c_rules.proofs.Formed.DeclarationTypes.{IsDeclaredType, declared_type}
use Rattle.c_rules.proofs.Formed.GivesLemmas.{anything, together, for_all}
use Rattle.c_rules.proofs.Formed.LocalTypes.{IsInitialiser, typed_initialiser, typed_start}
use Rattle.c_rules.proofs.Formed.SameReferences.{same_as_itself}
use Rattle.c_syntax.specs.Values.{HasValue, ItemsHaveValues, DeclarationsHaveValues}
use Rattle.c_types_proof.proofs.Grown.{AreFilled, no_object, with_fill, without_fill, Adds, adds_nothing, adds_both}
use Rattle.c_types_proof.proofs.Renumbered.{Each}
use Rattle.c_types_proof.proofs.Scopes.{Known, with_object}
use Rattle.c_types_proof.proofs.Starts.{AreStarts, starts_joined, first_filled, filled_joined, AllBelow, all_below_more, below_joined, AreOrdered}
use Rattle.c_types_proof.proofs.Starts.{ordered_joined, starts_below}

-- lists have as many values as their text
entries_counted : (s : Scope) (es : List Expression) → Gives (λ xs. length xs ≡ length es) (entries s es)
entries_counted s [] = is _ refl
entries_counted s (e ∷ es) =
    behind (entry s e) _ (anything _) λ x first. behind (entries s es) _ (entries_counted s es) λ xs others. is _ (omega (arith, others))

cells_counted : (kind : ScalarType) (at : ℕ) (es : List Entry) → Gives (λ values. length values ≡ length es) (cells kind at es)
cells_counted kind at [] = is _ refl
cells_counted kind at (e ∷ es) =
    behind (cell kind at e) _ (anything _) λ i first. behind (cells kind at es) _ (cells_counted kind at es) λ values others. is _ (omega (arith, others))

list_counted : (kind : ScalarType) (n at : ℕ) (es : List Entry) → Gives (λ values. length values ≡ length es) (array_list kind n at es)
list_counted kind n at es = unless (nat_lt n (length es)) _ _ _ λ within. cells_counted kind at es

-- the start of the object of this number
abbrev local : List ℕ → ObjectType → ObjectStart → LocalTree
local name type start = record { name = name; object_type = type; values = start.values }

record Begins (Given : Type 0) (n : ℕ) (name : List ℕ) (type : ObjectType) (start : ObjectStart) : Type 0 where
  filled : AreFilled Given n (local name type start ∷ []) (first_filled start.statements)
  starts : AreStarts (refs.Local n ∷ []) start.statements
  later : Each (λ k. n ≤ k) (first_filled start.statements)
  ordered : AreOrdered start.statements

-- what declarations have made so far behind these objects
pub record Opens (Given : Type 0) (ls : List LocalTree) (o : Opened) : Type 0 where
  pub adds : Adds Given ls o.locals o.declared (first_filled o.statements)
  pub starts : AreStarts o.declared o.statements
  pub known : Known o.scope (length o.locals)
  pub below : AllBelow (length o.locals) o.statements
  pub ordered : AreOrdered o.statements

module _ (Given : Type 0) where
  -- an initialiser in braces holds values
  abbrev IsFull : Initialiser → Type 0
  IsFull Absent = ⊤
  IsFull (Value x) = ⊤
  IsFull (Listed es) = Given → 1 ≤ length es
  IsFull Misbraced = ⊤

  all_full : (s : Scope) (es : List Expression) → Gives IsFull (all_typed s es)
  all_full s [] = is Misbraced tt
  all_full s (e ∷ es) = behind (typing s e) _ (anything _) λ x value. all_full s es

  some_value : (es : List Expression) (at : ℕ) → HasValue (Some (tree.Braced es at)) → 1 ≤ length es
  some_value [] at has = absurd has
  some_value (e ∷ es) at has = omega arith

  initialiser_full : (s : Scope) (array : Bool) (i : Option InitialTree) → (Given → HasValue i) → Gives IsFull (initialiser s array i)
  initialiser_full s array None has = is Absent tt
  initialiser_full s array (Some (tree.One e)) has = behind (typing s e) _ (anything _) λ x value. is _ tt
  initialiser_full s true (Some (tree.Braced es at)) has =
      behind (entries s es) _ (entries_counted s es) λ xs counted. is (Listed xs) (λ given. omega (arith, counted, some_value es at (has given)))
  initialiser_full s false (Some (tree.Braced es at)) has = all_full s es

  start_made : (n : ℕ) (name : List ℕ) (type : ObjectType) (at : ℕ) (i : Initialiser) → IsFull i
      → Gives (Begins Given n name type) (started (refs.Local n) type at i)
  start_made n name type at Absent full = is _ (record { filled = without_fill refl no_object; starts = tt; later = tt; ordered = tt })
  start_made n name (Single kind) at (Value x) full =
      behind (given kind at x) _ (anything _) λ v value.
      is _ (record { filled = without_fill refl no_object; starts = (tt, tt); later = tt; ordered = (tt, tt) })
  start_made n name (Single kind) at (Listed es) full = broken _ _
  start_made n name (Single kind) at Misbraced full = broken _ _
  start_made n name (Array kind count) at (Value x) full = broken _ _
  start_made n name (Array kind count) at (Listed es) full =
      behind (array_list kind count at es) _ (list_counted kind count at es) λ values counted.
      is _ (record {
        filled = with_fill (record { array = refl; listed = λ given empty. absurd (omega (arith, ap length empty, counted, full given)) }) no_object;
        starts = (or_left (same_reference (refs.Local n) (refs.Local n)) false (same_as_itself (refs.Local n)), tt);
        later = (omega arith, tt);
        ordered = (tt, tt);
      })
  start_made n name (Array kind count) at Misbraced full = broken _ _

  pub opens_with_nothing : (s : Scope) (ls : List LocalTree) → Known s (length ls) → Opens Given ls (opened_in s ls)
  opens_with_nothing s ls known = record { adds = adds_nothing Given ls; starts = tt; known = known; below = tt; ordered = tt }

  module _ (ls : List LocalTree) (o : Opened) (opened : Opens Given ls o) (item : ItemTree) where
    abbrev number : VarRef
    number = refs.Local (length o.locals)

    abbrev seen : Declared → Scope
    seen d = with_named_object o.scope item.name number d

    -- with an object of this type and its start
    module _ (type : ObjectType) (start : ObjectStart) (grown : Known (seen (declares.Object type)) (suc (length o.locals)))
        (begins : Begins Given (length o.locals) item.name type start) (below : AllBelow (suc (length o.locals)) start.statements) where
      abbrev all : List LocalTree
      all = o.locals ++ local item.name type start ∷ []

      longer : length all ≡ suc (length o.locals)
      longer = omega (arith, length-append o.locals (local item.name type start ∷ []))

      more_added : Adds Given ls all (o.declared ++ number ∷ []) (first_filled (o.statements ++ start.statements))
      more_added =
          let one : Adds Given o.locals all (number ∷ []) (first_filled start.statements) =
          record { others = local item.name type start ∷ []; grown = refl; declared = refl; filled = begins.filled } in
          subst (Adds Given ls all (o.declared ++ number ∷ [])) (sym (filled_joined o.statements start.statements))
          (adds_both Given ls o.locals all o.declared (number ∷ []) (first_filled o.statements) (first_filled start.statements) opened.adds one)

      placed_opens : Opens Given ls (placed o (seen (declares.Object type)) item.name number type start)
      placed_opens = record {
        adds = more_added;
        starts = starts_joined o.declared (number ∷ []) o.statements start.statements opened.starts begins.starts;
        known = subst (Known (seen (declares.Object type))) (sym longer) grown;
        below =
            subst (λ n. AllBelow n (o.statements ++ start.statements)) (sym longer)
            (below_joined (suc (length o.locals)) o.statements start.statements
            (all_below_more (length o.locals) (suc (length o.locals)) (omega arith) o.statements opened.below) below);
        ordered = ordered_joined (length o.locals) o.statements start.statements opened.below opened.ordered begins.later begins.ordered;
      }

    declared_opens : (d : Declared) (i : Initialiser) → IsDeclaredType d → IsFull i → ((names : Names) → Fits names (seen d) → IsInitialiser names i)
        → Gives (Opens Given ls) (declared_as o (seen d) number d item i)
    declared_opens declares.Untyped i is_type full typed = broken _ _
    declared_opens (declares.Function type) i is_type full typed = unless (is_some item.initial) _ _ _ λ none. broken _ _
    declared_opens (declares.Object type) i is_type full typed =
        let object = with_object o.scope (length o.locals) opened.known item.name type is_type.is_type in
        behind (started number type item.at i) _
        (together (started number type item.at i) (start_made (length o.locals) item.name type item.at i full)
        (typed_start object.grown.names (length o.locals) item.at type i is_type.is_type object.holds (typed object.grown.names object.grown.fits)))
        λ start begins. is _ (placed_opens type start object.grown begins.0
        (starts_below (seen (declares.Object type)) (suc (length o.locals)) object.grown (number ∷ []) start.statements begins.0.starts
        (begins.1.statements (λ v. None) None around.Body)))

    item_opens : (b : Base) → (Given → HasValue item.initial) → Gives (Opens Given ls) (block_item o b item)
    item_opens b has =
        behind (declarator o.scope b item.form item.stars item.initial) _ (declared_type o.scope b item.form item.stars item.initial) λ d type.
        behind (initialiser (seen d) (is_array item.form) item.initial) _
        (together (initialiser (seen d) (is_array item.form) item.initial) (initialiser_full (seen d) (is_array item.form) item.initial has)
        (for_all {F = λ names. Fits names (seen d)} (initialiser (seen d) (is_array item.form) item.initial)
        (λ names fits. typed_initialiser names (seen d) fits (is_array item.form) item.initial)))
        λ i typed. unless (is_taken o.scope item.name) _ _ _ λ free. declared_opens d i type typed.0 typed.1

  items_open : (b : Base) (ls : List LocalTree) (o : Opened) (items : List ItemTree) → Opens Given ls o → (Given → ItemsHaveValues items)
      → Gives (Opens Given ls) (block_items o b items)
  items_open b ls o [] opened has = is _ opened
  items_open b ls o (item ∷ items) opened has =
      behind (block_item o b item) _ (item_opens ls o opened item b (λ given. (has given).0)) λ p more. items_open b ls p items more (λ given. (has given).1)

  pub declarations_open : (ls : List LocalTree) (o : Opened) (ds : List DeclarationTree) → Opens Given ls o → (Given → DeclarationsHaveValues ds)
      → Gives (Opens Given ls) (declarations o ds)
  declarations_open ls o [] opened has = is _ opened
  declarations_open ls o (d ∷ ds) opened has =
      behind (plain d.specs) _ (anything _) λ b base.
      behind (block_items o b d.items) _ (items_open b ls o d.items opened (λ given. (has given).0)) λ p more.
      declarations_open ls p ds more (λ given. (has given).1)
