-- An object of file scope that is declared keeps what is so of a file.
use Rattle.std.proofs.Common.{◌≡◌, ℕ, zero, suc, List, [], ◌∷◌, ◌++◌, length, slice_get, slice_set, true, Option, Some, None, sym, refl, ap, ◌∙◌, subst, inl, inr}
use Rattle.std.proofs.lemmas.List.Elements.{All-push, All-set, All-weaker}
use Rattle.std.proofs.lemmas.Option.{none-some, same_Some}
use Rattle.c_tree.specs.c_syntax.SyntaxTree.{UnitTree}
use Rattle.c_tree.specs.declared.program.Initial.{Initial}
use Rattle.c_tree.specs.declared.program.VarRef.TheVariants as refs
use Rattle.c_rules.specs.declared.meaning.Declared.TheVariants as declares
use Rattle.c_rules.specs.declared.meaning.Meaning.{Meaning}
use Rattle.c_rules.specs.declared.meaning.Meaning.TheVariants as meanings
use Rattle.c_rules.specs.declared.meaning.ObjectType.{ObjectType}
use Rattle.c_rules.specs.Programs.{cell_kind, cell_count}
use Rattle.c_rules.specs.Scopes.{Scope, declare}
use Rattle.c_rules.specs.Units.{StaticTree, File, static_number, with_list, set_list, with_static, may_declare, with_declared}
use Rattle.c_tree.specs.WellFormed.{Shape, Names}
use Rattle.c_rules.proofs.Formed.Context.{Fits, shape_of, static_in}
use Rattle.c_rules.proofs.Formed.FileContext.{static_shape}
use Rattle.c_rules.proofs.Formed.StaticLists.{IsList, stored, stored_alike}
use Rattle.c_rules.proofs.Formed.StatementTypes.{IsObjectType}
use Rattle.c_rules.proofs.Formed.FileSoFar.{at_place, Stands, IsStaticIn, IsFileSoFar, grows_by_none, grows_by_name, declared_or_old, with_names, with_more, static_kept}
use Rattle.c_rules.proofs.Formed.DeclaredNames.{agreed, same_scope_for, scope_with_name, object_again}
use Rattle.c_rules.proofs.PlaceLemmas.{place_kept, place_last}

-- objects keep their shapes
abbrev KeepsShapes : List StaticTree → List StaticTree → Type 0
KeepsShapes old new = (v : ℕ) (shape : Shape) → static_shape (slice_get old v) ≡ Some shape → static_shape (slice_get new v) ≡ Some shape

still_stands : (old new : List StaticTree) → KeepsShapes old new → (m : Meaning) → Stands old m → Stands new m
still_stands old new keeps (meanings.Object (refs.Scalar n) type) stands = stands
still_stands old new keeps (meanings.Object (refs.Local n) type) stands = stands
still_stands old new keeps (meanings.Object (refs.Static n) type) stands = (keeps n (shape_of type) stands.0, stands.1)
still_stands old new keeps (meanings.Function type) stands = stands

shape_there : (statics more : List StaticTree) (v : ℕ) (shape : Shape) (o : Option StaticTree) → slice_get statics v ≡ o → static_shape o ≡ Some shape
    → static_shape (slice_get (statics ++ more) v) ≡ Some shape
shape_there statics more v shape None there found = absurd (none-some shape found)
shape_there statics more v shape (Some o) there found = ap static_shape (place_kept statics more v o there) ∙ found

keeps_pushed : (statics more : List StaticTree) → KeepsShapes statics (statics ++ more)
keeps_pushed statics more v shape found = shape_there statics more v shape (slice_get statics v) refl found

shape_set : (statics : List StaticTree) (v : ℕ) (x y : StaticTree) → slice_get statics v ≡ Some x → x.object_type ≡ y.object_type
    → (p : ℕ) → static_shape (slice_get statics p) ≡ static_shape (slice_get (slice_set statics v y) p)
shape_set [] v x y there alike p = refl
shape_set (z ∷ statics) zero x y there alike zero =
    let same : z ≡ x = same_Some z x there in ap (λ (o : StaticTree). Some (shape_of o.object_type)) same ∙ ap (λ t. Some (shape_of t)) alike
shape_set (z ∷ statics) zero x y there alike (suc p) = refl
shape_set (z ∷ statics) (suc v) x y there alike zero = refl
shape_set (z ∷ statics) (suc v) x y there alike (suc p) = shape_set statics v x y there alike p

keeps_set : (statics : List StaticTree) (v : ℕ) (x y : StaticTree) → slice_get statics v ≡ Some x → x.object_type ≡ y.object_type
    → KeepsShapes statics (slice_set statics v y)
keeps_set statics v x y there alike p shape found = sym (shape_set statics v x y there alike p) ∙ found

same_type_with : (o : StaticTree) (list : Option (List Initial)) → o.object_type ≡ (with_list o list).object_type
same_type_with o None = refl
same_type_with o (Some values) = refl

module _ (rest : UnitTree) (file : File) (known : IsFileSoFar rest file) (name : List ℕ) (type : ObjectType) (list : Option (List Initial))
    (right : IsObjectType (cell_count type) (cell_kind type)) where
  abbrev IsListIn : Scope → Type 0
  IsListIn t = (names : Names) → Fits names t → IsList names type list

  -- a name that stands for nothing yet
  abbrev made : StaticTree
  made = record { name = name; object_type = type; initial = list }

  abbrev new_meaning : Meaning
  new_meaning = meanings.Object (refs.Static (length file.statics)) type

  object_stands : (n : List ℕ) (m : Meaning) → (declare file.scope name new_meaning).meaning n ≡ Some m → Stands (file.statics ++ made ∷ []) m
  object_stands n m there = elim (declared_or_old file.scope name new_meaning n m there) [
    | inl new ↦ subst (Stands (file.statics ++ made ∷ [])) new (ap static_shape (place_last file.statics made), right.is_type)
    | inr old ↦ still_stands file.statics (file.statics ++ made ∷ []) (keeps_pushed file.statics (made ∷ [])) m (known.names n m old)
  ]

  new_object : file.scope.meaning name ≡ None → IsListIn (declare file.scope name new_meaning)
      → IsFileSoFar rest (with_names file (declare file.scope name new_meaning) (file.statics ++ made ∷ []))
  new_object none holds =
      let t = declare file.scope name new_meaning in
      let grows = grows_by_name file.scope name new_meaning none in
      let before = All-weaker (IsStaticIn file.scope) (IsStaticIn t) (static_kept file.scope t grows) file.statics known.statics in
      let one : IsStaticIn t made = λ names fits. stored names type list right (holds names fits)
      in with_more rest file t (file.statics ++ made ∷ []) known grows object_stands (All-push (IsStaticIn t) file.statics made before one)

  -- a name that stands for an object of this type, which may get its list now
  static_with : (o : StaticTree) (l : Option (List Initial)) → shape_of type ≡ shape_of o.object_type → IsStaticIn file.scope o
      → ((names : Names) → Fits names file.scope → IsList names type l) → IsStaticIn file.scope (with_list o l)
  static_with o None alike old holds = old
  static_with o (Some values) alike old holds =
      λ names fits. stored_alike (static_in names) type o.object_type values alike (stored names type (Some values) right (holds names fits))

  object_set : (v : ℕ) → IsListIn file.scope → (o : Option StaticTree) → slice_get file.statics v ≡ o → static_shape o ≡ Some (shape_of type)
      → IsFileSoFar rest (with_names file file.scope (set_list file.statics v o list))
  object_set v holds None there shape = absurd (none-some (shape_of type) shape)
  object_set v holds (Some o) there shape =
      let alike = same_Some (shape_of o.object_type) (shape_of type) shape in
      let changed = with_list o list in
      let keeps = keeps_set file.statics v o changed there (same_type_with o list) in
      let one = static_with o list (sym alike) (at_place (IsStaticIn file.scope) file.statics v o known.statics there) holds
      in with_more rest file file.scope (slice_set file.statics v changed) known (grows_by_none file.scope)
      (λ n m found. still_stands file.statics (slice_set file.statics v changed) keeps m (known.names n m found))
      (All-set (IsStaticIn file.scope) file.statics v changed one known.statics)

  module _ (may : may_declare file.scope name (declares.Object type) ≡ true) where
    abbrev behind_object : Scope
    behind_object = with_declared file.scope name (length file.statics) (declares.Object type)

    abbrev IsKnown : Scope → Option Meaning → Type 0
    IsKnown t m = IsListIn t → IsFileSoFar rest (with_names file t (with_static file.statics (static_number m) name type list))

    object_known : (o : Option Meaning) → file.scope.meaning name ≡ o → IsKnown behind_object o
    object_known None found = subst (λ t. IsKnown t None) (sym (scope_with_name file.scope name (declares.Object type) may (length file.statics) found)) (new_object found)
    object_known (Some m) found =
        let again = object_again file.statics m type (agreed file.scope name (declares.Object type) may (Some m) found) (known.names name m found) in
        let stands : Stands file.statics (meanings.Object (refs.Static again.0) type) = subst (Stands file.statics) again.1 (known.names name m found) in
        let kept : behind_object ≡ file.scope = same_scope_for file.scope name (declares.Object type) may (length file.statics) m found in
        subst (λ t. IsKnown t (Some m)) (sym kept) (subst (λ x. IsKnown file.scope (Some x)) (sym again.1)
        (λ holds. object_set again.0 holds (slice_get file.statics again.0) refl stands.0))

    pub object_declared : IsKnown behind_object (file.scope.meaning name)
    object_declared = object_known (file.scope.meaning name) refl
