-- The rules of declarations commute with renaming.
use Rattle.std.proofs.Common.{◌≡◌, ℕ, nat_lt, ◌||◌, List, [], ◌∷◌, length, map, is_some, option_map, Option, Some, None, refl, ap, ◌∙◌}
use Rattle.std.proofs.lemmas.List.{length-map}
use Rattle.c_tree.specs.declared.program.Base.{Base}
use Rattle.c_tree.specs.declared.program.ScalarType.{ScalarType}
use Rattle.c_tree.specs.declared.program.VarRef.{VarRef}
use Rattle.c_tree.specs.declared.program.VarRef.TheVariants as refs
use Rattle.c_tree.specs.declared.program.Initial.{Initial}
use Rattle.c_tree.specs.c_syntax.declared.operator.BinaryOp.TheVariants as op
use Rattle.c_tree.specs.c_syntax.declared.syntax.PrefixOp.TheVariants as prefix
use Rattle.c_tree.specs.c_syntax.SyntaxTree as tree
use Rattle.c_tree.specs.c_syntax.SyntaxTree.{Expression, ArrayMark, ParameterTree, ParametersTree, ItemForm, InitialTree}
use Rattle.c_tree.specs.TypedTree.{Kind, Expr}
use Rattle.c_tree.specs.TypedTree as code
use Rattle.c_tree.specs.Eval.{kind_of}
use Rattle.c_rules.specs.declared.fault.Rule.TheVariants.{Redeclared, Mismatch, NotConstant}
use Rattle.c_rules.specs.declared.local.Naming.{Naming}
use Rattle.c_rules.specs.declared.local.Naming.TheVariants.{Needed, Free}
use Rattle.c_rules.specs.declared.meaning.Meaning.TheVariants as meanings
use Rattle.c_rules.specs.declared.meaning.ObjectType.TheVariants.{Single}
use Rattle.c_rules.specs.Outcome.{Is, there_or}
use Rattle.c_rules.specs.Kinds.{starred}
use Rattle.c_rules.specs.Scopes.{Scope, open_scope}
use Rattle.c_rules.specs.Operands.{given}
use Rattle.c_rules.specs.Constants.{constant}
use Rattle.c_rules.specs.Typing.{plain, place, constant_typing, word_at}
use Rattle.c_rules.specs.Declarations.{length_within, typed_length, parameter_kind, is_bad_length, is_name_taken, lacks_name, parameter, with_single, parameters, array, listed_length, prototype, declarator, index_in, static_cell, static_scalar, named_cell, address_of, static_address, static_value, or_address, Entry, entry, entries, cell_value, cell, cells, array_list}
use Rattle.c_renaming.specs.Renaming.{Renaming, IsFaithful}
use Rattle.c_renaming.specs.RenamedTrees.{renamed_expression, renamed_mark, renamed_parameter, renamed_parameters, renamed_item_form, renamed_initial}
use Rattle.c_renaming.specs.RenamedPrograms.{renamed_value}
use Rattle.c_renaming.proofs.OutcomeLemmas.{renamed_outcome, IsScopeRenamed, renamed_operand, bind_follows}
use Rattle.c_renaming.proofs.RelatedOutcomes.{broken_renamed, same_value}
use Rattle.c_renaming.proofs.OperandLemmas.{kind_renamed, given_renamed}
use Rattle.c_renaming.proofs.ConstantLemmas.{place_of_renamed, constant_renamed}
use Rattle.c_renaming.proofs.TypingLemmas.{operand_renamed, plain_renamed, word_at_renamed, open_renamed, declare_renamed, is_taken_renamed, constant_typing_renamed}

abbrev pub renamed_entry : Renaming → Entry → Entry
renamed_entry r e = record { operand = renamed_operand r e.operand; initial = e.initial }

module _ (r : Renaming) where
  -- ---- what needs no scope

  marked : (a : ArrayMark) → is_some (renamed_mark r a) ≡ is_some a
  marked None = refl
  marked (Some length) = refl

  parameter_kind_renamed : (b : Base) (p : ParameterTree) → parameter_kind b (renamed_parameter r p) ≡ parameter_kind b p
  parameter_kind_renamed b p = by p.array
    where
      by : (a : ArrayMark) → parameter_kind b (renamed_parameter r (record { specs = p.specs; stars = p.stars; name = p.name; array = a; at = p.at })) ≡ parameter_kind b (record { specs = p.specs; stars = p.stars; name = p.name; array = a; at = p.at })
      by None = refl
      by (Some length) = refl

  lacks_name_renamed : (naming : Naming) (name : Option (List ℕ)) → lacks_name naming (option_map r.name name) ≡ lacks_name naming name
  lacks_name_renamed Free name = refl
  lacks_name_renamed Needed None = refl
  lacks_name_renamed Needed (Some name) = refl

  pub listed_length_renamed : (i : Option InitialTree) → listed_length (option_map (renamed_initial r) i) ≡ listed_length i
  listed_length_renamed None = refl
  listed_length_renamed (Some (tree.One e)) = refl
  listed_length_renamed (Some (tree.Braced es at)) = ap length_within (length-map es (renamed_expression r))

  index_in_renamed : (e : Expression) (x : Expr) → index_in (renamed_expression r e) (renamed_value r x) ≡ index_in e x
  index_in_renamed e (code.Node form kind at) = by form
    where
      by : (form : code.Form) → index_in (renamed_expression r e) (renamed_value r (code.Node form kind at)) ≡ index_in e (code.Node form kind at)
      by (code.Const w) = refl
      by (code.Read v) = refl
      by (code.AddressOf v) = refl
      by (code.Load a) = refl
      by (code.Unary o a) = refl
      by (code.Binary o a b) = constant_renamed r e b
      by (code.And a b) = refl
      by (code.Or a b) = refl
      by (code.Not a) = refl
      by (code.Pick a b d) = refl
      by (code.Assign l a) = refl
      by (code.AssignOp o l a) = refl
      by (code.StepBefore up l) = refl
      by (code.StepAfter up l) = refl
      by (code.Call f es) = refl
      by (code.In port) = refl
      by (code.Out port a) = refl
      by (code.Comma a b) = refl
      by (code.Convert a) = refl

  -- ---- lists of initialisers

  pub cell_renamed : (kind : ScalarType) (at : ℕ) (e : Entry) → cell kind (r.place at) (renamed_entry r e) ≡ renamed_outcome r.place same_value (cell kind at e)
  cell_renamed kind at e =
      bind_follows r.place (renamed_value r) same_value (given kind at e.operand) (given kind (r.place at) (renamed_operand r e.operand))
      (λ v. Is (cell_value kind e.initial)) (λ v. Is (cell_value kind e.initial)) (given_renamed r kind at e.operand) (λ v. refl)

  cells_renamed : (kind : ScalarType) (at : ℕ) (es : List Entry) → cells kind (r.place at) (map (renamed_entry r) es) ≡ renamed_outcome r.place same_value (cells kind at es)
  cells_renamed kind at [] = refl
  cells_renamed kind at (e ∷ es) =
      bind_follows r.place same_value same_value (cell kind at e) (cell kind (r.place at) (renamed_entry r e)) _ _ (cell_renamed kind at e) (λ i.
      bind_follows r.place same_value same_value (cells kind at es) (cells kind (r.place at) (map (renamed_entry r) es)) _ _ (cells_renamed kind at es) (λ is. refl))

  pub array_list_renamed : (kind : ScalarType) (n at : ℕ) (es : List Entry)
      → array_list kind n (r.place at) (map (renamed_entry r) es) ≡ renamed_outcome r.place same_value (array_list kind n at es)
  array_list_renamed kind n at es =
      broken_renamed r.place same_value Mismatch at (nat_lt n (length es)) (nat_lt n (length (map (renamed_entry r) es))) (cells kind at es) (cells kind (r.place at) (map (renamed_entry r) es))
      (ap (nat_lt n) (length-map es (renamed_entry r))) (cells_renamed kind at es)

  module _ (faithful : IsFaithful r) (s t : Scope) (same : IsScopeRenamed r s t) where
    pub typed_length_renamed : (e : Expression) → typed_length t (renamed_expression r e) ≡ renamed_outcome r.place same_value (typed_length s e)
    typed_length_renamed e =
        bind_follows r.place (renamed_value r) same_value (constant_typing s e) (constant_typing t (renamed_expression r e)) _ _ (constant_typing_renamed faithful same e) (λ x.
        bind_follows r.place same_value same_value (word_at e x) (word_at (renamed_expression r e) (renamed_value r x)) _ _ (word_at_renamed r e x) (λ w. refl))

    is_bad_length_renamed : (a : ArrayMark) → is_bad_length t (renamed_mark r a) ≡ renamed_outcome r.place same_value (is_bad_length s a)
    is_bad_length_renamed None = refl
    is_bad_length_renamed (Some None) = refl
    is_bad_length_renamed (Some (Some e)) =
        bind_follows r.place same_value same_value (typed_length s e) (typed_length t (renamed_expression r e)) _ _ (typed_length_renamed e) (λ n. refl)

    is_name_taken_renamed : (name : Option (List ℕ)) → is_name_taken t (option_map r.name name) ≡ is_name_taken s name
    is_name_taken_renamed None = refl
    is_name_taken_renamed (Some name) = is_taken_renamed faithful same name

    there_renamed : (p : ParameterTree) (b : Base) → there_or Mismatch (r.place p.specs.at) (parameter_kind b (renamed_parameter r p)) ≡ renamed_outcome r.place same_value (there_or Mismatch p.specs.at (parameter_kind b p))
    there_renamed p b = ap (there_or Mismatch (r.place p.specs.at)) (parameter_kind_renamed b p) ∙ by (parameter_kind b p)
      where
        by : (k : Kind) → there_or Mismatch (r.place p.specs.at) k ≡ renamed_outcome r.place same_value (there_or Mismatch p.specs.at k)
        by None = refl
        by (Some kind) = refl

    pub parameter_renamed : (naming : Naming) (p : ParameterTree) → parameter t naming (renamed_parameter r p) ≡ renamed_outcome r.place same_value (parameter s naming p)
    parameter_renamed naming p =
        bind_follows r.place same_value same_value (plain p.specs) _ _ _ (plain_renamed r p.specs) (λ b.
        bind_follows r.place same_value same_value (is_bad_length s p.array) (is_bad_length t (renamed_mark r p.array)) _ _ (is_bad_length_renamed p.array) (λ bad.
        broken_renamed r.place same_value Redeclared p.specs.at (is_name_taken s p.name) (is_name_taken t (option_map r.name p.name)) _ _ (is_name_taken_renamed p.name)
        (broken_renamed r.place same_value Mismatch p.specs.at (bad || lacks_name naming p.name) (bad || lacks_name naming (option_map r.name p.name)) _ _
        (ap (λ l. bad || l) (lacks_name_renamed naming p.name))
        (there_renamed p b))))

    pub with_single_renamed : (name : Option (List ℕ)) (v : VarRef) (kind : ScalarType) → IsScopeRenamed r (with_single s name v kind) (with_single t (option_map r.name name) v kind)
    with_single_renamed None v kind = same
    with_single_renamed (Some name) v kind = declare_renamed faithful same name (meanings.Object v (Single kind))

    -- ---- addresses that are known

    pub named_cell_renamed : (e : Expression) (i : Option ℕ) → named_cell t (renamed_expression r e) i ≡ named_cell s e i
    named_cell_renamed (tree.Node (tree.Name name) at) i = ap (λ m. static_cell m i) (same.meaning name)
    named_cell_renamed (tree.Node form at) i = refl

    address_of_renamed : (e : Expression) (x : Expr) → address_of t (renamed_expression r e) (renamed_value r x) ≡ address_of s e x
    address_of_renamed (tree.Node (tree.Name name) at) x = ap static_scalar (same.meaning name)
    address_of_renamed (tree.Node (tree.Index a b) at) x = ap (named_cell t (renamed_expression r a)) (index_in_renamed b x) ∙ named_cell_renamed a (index_in b x)
    address_of_renamed (tree.Node form at) x = refl

    static_address_renamed : (e : Expression) (x : Expr) → static_address t (renamed_expression r e) (renamed_value r x) ≡ static_address s e x
    static_address_renamed (tree.Node (tree.Name name) at) x = ap (λ m. static_cell m (Some 0)) (same.meaning name)
    static_address_renamed (tree.Node (tree.Binary op.Add a b) at) x = ap (named_cell t (renamed_expression r a)) (index_in_renamed b x) ∙ named_cell_renamed a (index_in b x)
    static_address_renamed (tree.Node (tree.Prefix prefix.Address a) at) x = address_of_renamed a x
    static_address_renamed (tree.Node form at) x = refl

    static_value_renamed : (e : Expression) (x : Expr) → static_value t (renamed_expression r e) (renamed_value r x) ≡ static_value s e x
    static_value_renamed e x =
        ap (λ w. or_address w (kind_of (renamed_value r x)) (static_address t (renamed_expression r e) (renamed_value r x))) (constant_renamed r e x)
        ∙ ap (λ k. or_address (constant e x) k (static_address t (renamed_expression r e) (renamed_value r x))) (kind_renamed r x)
        ∙ ap (or_address (constant e x) (kind_of x)) (static_address_renamed e x)

    there_initial : (at : ℕ) (o : Option Initial) → there_or NotConstant (r.place at) o ≡ renamed_outcome r.place same_value (there_or NotConstant at o)
    there_initial at None = refl
    there_initial at (Some i) = refl

    pub entry_renamed : (e : Expression) → entry t (renamed_expression r e) ≡ renamed_outcome r.place (renamed_entry r) (entry s e)
    entry_renamed e =
        bind_follows r.place (renamed_value r) (renamed_entry r) (constant_typing s e) (constant_typing t (renamed_expression r e)) _ _ (constant_typing_renamed faithful same e) (λ x.
        bind_follows r.place same_value (renamed_entry r) (there_or NotConstant (place e) (static_value s e x)) _ _ _
        (ap (λ p. there_or NotConstant p (static_value t (renamed_expression r e) (renamed_value r x))) (place_of_renamed r e)
        ∙ ap (there_or NotConstant (r.place (place e))) (static_value_renamed e x)
        ∙ there_initial (place e) (static_value s e x))
        (λ i. ap (λ o. Is (record { operand = o; initial = i })) (operand_renamed r e x)))

    pub entries_renamed : (es : List Expression) → entries t (map (renamed_expression r) es) ≡ renamed_outcome r.place (map (renamed_entry r)) (entries s es)
    entries_renamed [] = refl
    entries_renamed (e ∷ es) =
        bind_follows r.place (renamed_entry r) (map (renamed_entry r)) (entry s e) (entry t (renamed_expression r e)) _ _ (entry_renamed e) (λ x.
        bind_follows r.place (map (renamed_entry r)) (map (renamed_entry r)) (entries s es) (entries t (map (renamed_expression r) es)) _ _ (entries_renamed es) (λ xs. refl))

module _ (r : Renaming) (faithful : IsFaithful r) where
  pub parameters_renamed : (naming : Naming) (s t : Scope) (ps : List ParameterTree) → IsScopeRenamed r s t
      → parameters t naming (map (renamed_parameter r) ps) ≡ renamed_outcome r.place same_value (parameters s naming ps)
  parameters_renamed naming s t [] same = refl
  parameters_renamed naming s t (p ∷ ps) same =
      bind_follows r.place same_value same_value (parameter s naming p) (parameter t naming (renamed_parameter r p)) _ _ (parameter_renamed r faithful s t same naming p) (λ kind.
      bind_follows r.place same_value same_value (parameters (with_single s p.name (refs.Local 0) kind) naming ps) _ _ _
      (parameters_renamed naming (with_single s p.name (refs.Local 0) kind) (with_single t (option_map r.name p.name) (refs.Local 0) kind) ps
      (with_single_renamed r faithful s t same p.name (refs.Local 0) kind))
      (λ kinds. refl))

  prototype_renamed : (s t : Scope) (result : Kind) (ps : ParametersTree) → IsScopeRenamed r s t
      → prototype t result (renamed_parameters r ps) ≡ renamed_outcome r.place same_value (prototype s result ps)
  prototype_renamed s t result ps same =
      bind_follows r.place same_value same_value (parameters (open_scope s) Free ps.list) _ _ _
      (parameters_renamed Free (open_scope s) (open_scope t) ps.list (open_renamed same)) (λ kinds. refl)

  pub declarator_renamed : (s t : Scope) (b : Base) (form : ItemForm) (stars : ℕ) (i : Option InitialTree) → IsScopeRenamed r s t
      → declarator t b (renamed_item_form r form) stars (option_map (renamed_initial r) i) ≡ renamed_outcome r.place same_value (declarator s b form stars i)
  declarator_renamed s t b tree.Plain stars i same = refl
  declarator_renamed s t b (tree.Array None) stars i same = ap (λ l. Is (array (starred b stars) l)) (listed_length_renamed r i)
  declarator_renamed s t b (tree.Array (Some e)) stars i same =
      bind_follows r.place same_value same_value (typed_length s e) (typed_length t (renamed_expression r e)) _ _ (typed_length_renamed r faithful s t same e) (λ n. refl)
  declarator_renamed s t b (tree.Parameters ps) stars i same = prototype_renamed s t (starred b stars) ps same
