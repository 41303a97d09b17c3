-- What the declarations of a block make: objects of these types, and statements that give them their first values.
use Rattle.std.proofs.Common.{◌≡◌, ℕ, zero, suc, ◌+◌, List, [], ◌∷◌, ◌++◌, length, is_some, Option}
use Rattle.std.proofs.Common.{refl, sym, ap, subst, ◌∙◌, append-nil, append_assoc, length-append, arith}
use Rattle.std.specs.Prelude.{All}
use Rattle.std.proofs.lemmas.List.Elements.{All-nil, All-push, All-append}
use Rattle.c_tree.specs.declared.program.Base.{Base}
use Rattle.c_tree.specs.declared.program.VarRef.{VarRef}
use Rattle.c_tree.specs.declared.program.VarRef.TheVariants as refs
use Rattle.c_tree.specs.c_syntax.SyntaxTree.{ItemTree, DeclarationTree}
use Rattle.c_tree.specs.TypedTree.{Kind}
use Rattle.c_rules.specs.declared.meaning.Declared.{Declared}
use Rattle.c_rules.specs.declared.meaning.Declared.TheVariants as declares
use Rattle.c_tree.specs.declared.enclosing.Enclosing.{Enclosing}
use Rattle.c_rules.specs.declared.meaning.ObjectType.{ObjectType}
use Rattle.c_rules.specs.Programs.{cell_kind, cell_count}
use Rattle.c_rules.specs.Scopes.{Scope, is_taken}
use Rattle.c_rules.specs.Typing.{plain}
use Rattle.c_rules.specs.Declarations.{declarator}
use Rattle.c_rules.specs.Statements.{LocalTree, Initialiser, initialiser, is_array, ObjectStart, started}
use Rattle.c_rules.specs.Statements.{Opened, opened_in, with_named_object, placed, declared_as, block_item, block_items, declarations}
use Rattle.c_tree.specs.WellFormed.{Shape, Names, IsWellFormed}
use Rattle.c_rules.proofs.Formed.Context.{Gives, is, broken, behind, unless, Fits, IsLocal, numbers_from}
use Rattle.c_rules.proofs.Formed.OpenedNames.{Knows}
use Rattle.c_rules.proofs.Formed.GivesLemmas.{anything, for_all}
use Rattle.c_rules.proofs.Formed.DeclarationTypes.{IsObjectType, IsDeclaredType, declared_type}
use Rattle.c_rules.proofs.Formed.LocalTypes.{knows_first, IsHeld, held_last, fits_with_object, IsInitialiser, typed_initialiser, IsStart, typed_start}

-- what declarations have made so far, where these are the objects that they declare
pub record AreOpened (names : Names) (others : List LocalTree) (o : Opened) : Type 0 where
  pub fits : Fits names o.scope
  pub locals : All (IsLocal names) others
  pub statements : (objects : VarRef → Option Shape) (result : Kind) (c : Enclosing) → All (IsWellFormed objects result names c) o.statements

pub record Opens (s : Scope) (ls : List LocalTree) (o : Opened) : Type 0 where
  pub others : List LocalTree
  pub grown : o.locals ≡ ls ++ others
  pub numbered : o.declared ≡ numbers_from (length ls) (length others)
  pub made : (names : Names) → Fits names s → Knows names (length ls) others → AreOpened names others o

opens : (s t : Scope) (ls : List LocalTree) → ((names : Names) → Fits names s → Fits names t) → Opens s ls (opened_in t ls)
opens s t ls within = record {
  others = [];
  grown = sym (append-nil ls);
  numbered = refl;
  made = λ names fits knows. record {
    fits = within names fits;
    locals = All-nil (IsLocal names);
    statements = λ objects result c. All-nil (IsWellFormed objects result names c);
  };
}

-- one more number
numbers_pushed : (first count : ℕ) → numbers_from first count ++ refs.Local (first + count) ∷ [] ≡ numbers_from first (suc count)
numbers_pushed first zero = ap (λ n. refs.Local n ∷ []) (omega arith)
numbers_pushed first (suc count) =
    ap (λ rs. refs.Local first ∷ rs)
    (ap (λ n. numbers_from (suc first) count ++ refs.Local n ∷ []) (omega arith) ∙ numbers_pushed (suc first) count)

module _ (s : Scope) (ls : List LocalTree) (o : Opened) (opened : Opens s ls o) (item : ItemTree) where
  abbrev number : VarRef
  number = refs.Local (length o.locals)

  abbrev seen : ObjectType → Scope
  seen type = with_named_object o.scope item.name number (declares.Object type)

  abbrev local : ObjectType → ObjectStart → LocalTree
  local type start = record { name = item.name; object_type = type; values = start.values }

  -- its number is behind those of the block so far
  many : length o.locals ≡ length ls + length opened.others
  many = ap length opened.grown ∙ length-append ls opened.others

  -- names that know the object, and the scope with it
  record Sees (type : ObjectType) (names : Names) : Type 0 where
    fits : Fits names (seen type)
    held : IsHeld names (length o.locals) type

  module _ (type : ObjectType) (object : IsObjectType (cell_count type) (cell_kind type)) where
    sees : (names : Names) → Fits names o.scope → IsHeld names (length o.locals) type → Sees type names
    sees names fits held = record { fits = fits_with_object names o.scope item.name (length o.locals) type object.is_type held fits; held = held }

    module _ (start : ObjectStart) (starts : (names : Names) → Sees type names → IsStart names type start) where
      abbrev others : List LocalTree
      others = opened.others ++ local type start ∷ []

      numbered : o.declared ++ number ∷ [] ≡ numbers_from (length ls) (length others)
      numbered =
          let longer : suc (length opened.others) ≡ length others = omega (arith, length-append opened.others (local type start ∷ [])) in
          ap (λ rs. rs ++ number ∷ []) opened.numbered
          ∙ ap (λ n. numbers_from (length ls) (length opened.others) ++ refs.Local n ∷ []) many
          ∙ numbers_pushed (length ls) (length opened.others)
          ∙ ap (numbers_from (length ls)) longer

      placed_object : (names : Names) → Fits names s → Knows names (length ls) others → AreOpened names others (placed o (seen type) item.name number type start)
      placed_object names fits knows =
          let before : AreOpened names opened.others o = opened.made names fits (knows_first names (length ls) opened.others (local type start ∷ []) knows) in
          let held : IsHeld names (length o.locals) type =
          subst (λ n. IsHeld names n type) (sym many) (held_last names (length ls) opened.others (local type start) knows) in
          let now : Sees type names = sees names before.fits held in
          let it : IsStart names type start = starts names now in
          record {
            fits = now.fits;
            locals = All-push (IsLocal names) opened.others (local type start) before.locals
                (record { is_type = object.is_type; from_one = object.from_one; most = object.most; within = it.within; starts = it.starts });
            statements = λ objects result c.
                All-append (IsWellFormed objects result names c) o.statements start.statements (before.statements objects result c) (it.statements objects result c);
          }

      placed_opens : Opens s ls (placed o (seen type) item.name number type start)
      placed_opens = record {
        others = others;
        grown = ap (λ l. l ++ local type start ∷ []) opened.grown ∙ append_assoc ls opened.others (local type start ∷ []);
        numbered = numbered;
        made = placed_object;
      }

  declared_opens : (d : Declared) (i : Initialiser) → IsDeclaredType d
      → ((names : Names) → Fits names (with_named_object o.scope item.name number d) → IsInitialiser names i)
      → Gives (Opens s ls) (declared_as o (with_named_object o.scope item.name number d) number d item i)
  declared_opens declares.Untyped i type typed = broken _ item.at
  declared_opens (declares.Function type) i function typed = unless (is_some item.initial) _ _ _ λ none. broken _ item.at
  declared_opens (declares.Object type) i object typed =
      behind (started number type item.at i) _
      (for_all {F = Sees type} (started number type item.at i)
      (λ names now. typed_start names (length o.locals) item.at type i object.is_type now.held (typed names now.fits)))
      λ start starts. is _ (placed_opens type object start starts)

  item_opens : (b : Base) → Gives (Opens s ls) (block_item o b item)
  item_opens b =
      behind (declarator o.scope b item.form item.stars item.initial) _ (declared_type o.scope b item.form item.stars item.initial) λ d type.
      behind (initialiser (with_named_object o.scope item.name number d) (is_array item.form) item.initial) _
      (for_all {F = λ names. Fits names (with_named_object o.scope item.name number d)} (initialiser (with_named_object o.scope item.name number d) (is_array item.form) item.initial)
      (λ names fits. typed_initialiser names (with_named_object o.scope item.name number d) fits (is_array item.form) item.initial)) λ i typed.
      unless (is_taken o.scope item.name) _ _ _ λ free. declared_opens d i type typed

items_open : (s : Scope) (ls : List LocalTree) (b : Base) (o : Opened) (items : List ItemTree) → Opens s ls o → Gives (Opens s ls) (block_items o b items)
items_open s ls b o [] opened = is o opened
items_open s ls b o (item ∷ items) opened =
    behind (block_item o b item) _ (item_opens s ls o opened item b) λ p further. items_open s ls b p items further

declarations_open : (s : Scope) (ls : List LocalTree) (o : Opened) (ds : List DeclarationTree) → Opens s ls o → Gives (Opens s ls) (declarations o ds)
declarations_open s ls o [] opened = is o opened
declarations_open s ls o (d ∷ ds) opened =
    behind (plain d.specs) _ (anything _) λ b base.
    behind (block_items o b d.items) _ (items_open s ls b o d.items opened) λ p further.
    declarations_open s ls p ds further

-- those that stand first in a scope
pub opened_declarations : (s t : Scope) (ls : List LocalTree) (ds : List DeclarationTree) → ((names : Names) → Fits names s → Fits names t)
    → Gives (Opens s ls) (declarations (opened_in t ls) ds)
opened_declarations s t ls ds within = declarations_open s ls (opened_in t ls) ds (opens s t ls within)
