-- A well-formed statement is lowered to a sound one.
use Rattle.std.proofs.Common.{◌≡◌, refl, ap, ◌∙◌, sym, subst, ℕ, suc, Bool, true, false, if◌then◌else◌, List, length, All, Option, Some, None}
use Rattle.c_tree.specs.declared.enclosing.Enclosing.{Enclosing}
use Rattle.c_tree.specs.declared.enclosing.Enclosing.TheVariants as around
use Rattle.c_tree.specs.declared.program.VarRef.{VarRef}
use Rattle.c_tree.specs.declared.program.VarRef.TheVariants.{Local}
use Rattle.c_tree.specs.Labels.{in_switch}
use Rattle.c_tree.specs.TypedTree as tree
use Rattle.c_tree.specs.TypedTree.{Kind}
use Rattle.c_tree.specs.WellFormed as typed
use Rattle.c_tree.specs.WellFormed.{Shape, Signature, Names, opened, is_among}
use Rattle.tree_code.specs.WordTree as word
use Rattle.tree_code.specs.WordTree.{Node}
use Rattle.c_tree.specs.c_syntax.declared.operator.UnaryOp.{UnaryOp}
use Rattle.c_tree.specs.c_syntax.declared.operator.UnaryOp.TheVariants.{Plus}
use Rattle.std.specs.Prelude.{◌&&◌}
use Rattle.tree_code.specs.Lowered.{is_minus, is_number, is_converted, lowered_unary, lowered, lowered_form, lowered_target, lowered_list, lowered_optional, lowered_statement, lowered_statements, lowered_choices}
use Rattle.tree_code.specs.WellFormedCode.{IsThereForWords, TakesSo, argument_count, IsDeclared, IsSound, IsSoundTarget, AreSound, IsSoundOptional, IsSoundStatement, AreSoundStatements, AreSoundChoices}
use Rattle.tree_code.proofs.KeptLemmas.{repeats_label_kept}

-- how many parameters a function takes
abbrev pub arity : Option Signature → Option ℕ
arity None = None
arity (Some s) = Some (length s.parameters)

-- where a name stands for an object, that has so many cells
abbrev pub Knows : (VarRef → Option Shape) → (VarRef → Option ℕ) → Type 0
Knows objects cells = (v : VarRef) (s : Shape) → objects v ≡ Some s → cells v ≡ Some s.length

read_cell : (object : Option Shape) (c : Option ℕ) (kind : Kind) → ((s : Shape) → object ≡ Some s → c ≡ Some s.length) → typed.IsCell object kind → c ≡ Some 1
read_cell object c None known is = absurd is
read_cell object c (Some kind) known is = known (record { kind = kind; length = 1 }) is

there_by : {c : Option ℕ} {n : ℕ} → c ≡ Some n → IsThereForWords c
there_by is = subst IsThereForWords (sym is) tt

points_there : (object : Option Shape) (c : Option ℕ) (kind : Kind) → ((s : Shape) → object ≡ Some s → c ≡ Some s.length) → typed.PointsTo object kind → IsThereForWords c
points_there None c kind known points = absurd points
points_there (Some s) c kind known points = there_by (known s refl)

shape_there : (object : Option Shape) (c : Option ℕ) → ((s : Shape) → object ≡ Some s → c ≡ Some s.length) → typed.IsThere object → IsThereForWords c
shape_there None c known there = absurd there
shape_there (Some s) c known there = there_by (known s refl)

count_kinds : (es : tree.Exprs) → length (typed.kinds_of es) ≡ argument_count (lowered_list es)
count_kinds tree.none = refl
count_kinds (tree.more e es) = ap suc (count_kinds es)

takes_so : (function : Option Signature) (es : tree.Exprs) (kind : Kind) → typed.IsCall function (typed.kinds_of es) kind → TakesSo (arity function) (argument_count (lowered_list es))
takes_so None es kind is = tt
takes_so (Some s) es kind is = sym (ap length is.0) ∙ count_kinds es

module _ (cells : VarRef → Option ℕ) (parameters : ℕ → Option ℕ) where
  either_sound : (b : Bool) (x y : word.ExprCode) → IsSound cells parameters x → IsSound cells parameters y → IsSound cells parameters (if b then x else y)
  either_sound true x y first second = first
  either_sound false x y first second = second

  unary_sound : (o : UnaryOp) (c : Bool) (w : word.ExprCode) (at : ℕ) → IsSound cells parameters w → IsSound cells parameters (lowered_unary o c w at)
  unary_sound o c (Node form place) at is =
      either_sound (is_minus o && (c && is_number form)) (Node (word.Unary o (Node (word.Unary Plus (Node form place)) place)) at) (Node (word.Unary o (Node form place)) at) is is

  module _ (names : Names) (knows : Knows names.object cells) (takes : (n : ℕ) → parameters n ≡ arity (names.function n)) where
    mutual
      sound : (e : tree.Expr) → typed.IsWellTyped names e → IsSound cells parameters (lowered e)
      sound (tree.Node form kind at) is = sound_form form kind at is.1

      sound_form : (form : tree.Form) (kind : Kind) (at : ℕ) → typed.HasForm names form kind → IsSound cells parameters (lowered_form form kind at)
      sound_form (tree.Const w) kind at is = tt
      sound_form (tree.Read v) kind at is = read_cell (names.object v) (cells v) kind (knows v) is
      sound_form (tree.AddressOf v) kind at is = (is.0, points_there (names.object v) (cells v) kind (knows v) is.1)
      sound_form (tree.Load e) kind at is = sound e is.0
      sound_form (tree.Unary o e) kind at is = unary_sound o (is_converted e) (lowered e) at (sound e is.0)
      sound_form (tree.Binary o a b) kind at is = (sound a is.0, sound b is.1)
      sound_form (tree.And a b) kind at is = (sound a is.0, sound b is.1)
      sound_form (tree.Or a b) kind at is = (sound a is.0, sound b is.1)
      sound_form (tree.Not e) kind at is = sound e is.0
      sound_form (tree.Pick c a b) kind at is = (sound c is.0, sound a is.1, sound b is.2)
      sound_form (tree.Assign l e) kind at is = (sound_target l kind is.0, sound e is.1)
      sound_form (tree.AssignOp o l e) kind at is = (sound_target l kind is.0, sound e is.1)
      sound_form (tree.StepBefore up l) kind at is = sound_target l kind is
      sound_form (tree.StepAfter up l) kind at is = sound_target l kind is
      sound_form (tree.Call f es) kind at is =
          (sound_list es is.0, subst (λ n. TakesSo n (argument_count (lowered_list es))) (sym (takes f)) (takes_so (names.function f) es kind is.1))
      sound_form (tree.In port) kind at is = is.0
      sound_form (tree.Out port e) kind at is = (sound e is.0, is.2)
      sound_form (tree.Comma a b) kind at is = (sound a is.0, sound b is.1)
      sound_form (tree.Convert e) kind at is = sound e is.0

      sound_target : (l : tree.Lvalue) (kind : Kind) → typed.IsTarget names l kind → IsSoundTarget cells parameters (lowered_target l)
      sound_target (tree.Named v at) kind is = read_cell (names.object v) (cells v) kind (knows v) is
      sound_target (tree.At e at) kind is = sound e is.0

      sound_list : (es : tree.Exprs) → typed.AreWellTyped names es → AreSound cells parameters (lowered_list es)
      sound_list tree.none is = tt
      sound_list (tree.more e es) is = (sound e is.0, sound_list es is.1)

    sound_optional : (e : Option tree.Expr) → typed.IsOptional names e → IsSoundOptional cells parameters (lowered_optional e)
    sound_optional None is = tt
    sound_optional (Some e) is = sound e is

    sound_optional_test : (e : Option tree.Expr) → typed.IsOptionalTest names e → IsSoundOptional cells parameters (lowered_optional e)
    sound_optional_test None is = tt
    sound_optional_test (Some e) is = sound e is.0

    sound_returned : (result : Kind) (e : Option tree.Expr) → typed.IsReturned names result e → IsSoundOptional cells parameters (lowered_optional e)
    sound_returned result None is = tt
    sound_returned result (Some e) is = sound e is.0.0

  module _ (objects : VarRef → Option Shape) (all_known : Knows objects cells) (result : Kind) where
    -- a block makes known only objects of the function
    either_known : (b : Bool) (x y : Option Shape) (c : Option ℕ) → ((s : Shape) → x ≡ Some s → c ≡ Some s.length) → ((s : Shape) → y ≡ Some s → c ≡ Some s.length)
        → (s : Shape) → (if b then x else y) ≡ Some s → c ≡ Some s.length
    either_known true x y c first second = first
    either_known false x y c first second = second

    pub opened_known : (declared : List VarRef) (names : Names) → Knows names.object cells → Knows (opened objects declared names).object cells
    opened_known declared names known v = either_known (is_among v declared) (objects v) (names.object v) (cells v) (all_known v) (known v)

    declared_sound : (declared : List VarRef) (names : Names) → typed.AreNew objects names declared → All (IsDeclared cells) declared
    declared_sound declared names new = λ k d within. let one = new.each k d within in record { automatic = one.automatic; there = shape_there _ _ (all_known _) one.there }

    mutual
      pub sound_statement : (names : Names) → Knows names.object cells → ((n : ℕ) → parameters n ≡ arity (names.function n)) → (c : Enclosing) (s : tree.Stmt)
          → typed.IsWellFormed objects result names c s → IsSoundStatement cells parameters c (lowered_statement s)
      sound_statement names known takes c (tree.Block declared ss) is =
          (declared_sound declared names is.0, sound_statements (opened objects declared names) (opened_known declared names known) takes c ss is.1)
      sound_statement names known takes c (tree.Fill n) is = shape_there (names.object (Local n)) (cells (Local n)) (known (Local n)) is.lives
      sound_statement names known takes c (tree.Do_expr e) is = sound names known takes e is
      sound_statement names known takes c (tree.If e a b) is =
          (sound names known takes e is.0.0, sound_statement names known takes c a is.1, sound_statement names known takes c b is.2)
      sound_statement names known takes c (tree.While e a) is = (sound names known takes e is.0.0, sound_statement names known takes around.Loop a is.1)
      sound_statement names known takes c (tree.Do_while a e) is = (sound_statement names known takes around.Loop a is.0, sound names known takes e is.1.0)
      sound_statement names known takes c (tree.For x y z a) is = (
        sound_optional names known takes x is.0,
        sound_optional_test names known takes y is.1,
        sound_optional names known takes z is.2,
        sound_statement names known takes around.Loop a is.3,
      )
      sound_statement names known takes c (tree.Switch e cs) is =
          (sound names known takes e is.0, repeats_label_kept cs ∙ is.2, sound_choices names known takes (in_switch c) cs is.3)
      sound_statement names known takes c tree.Break is = is
      sound_statement names known takes c tree.Continue is = is
      sound_statement names known takes c (tree.Return e) is = sound_returned names known takes result e is

      sound_statements : (names : Names) → Knows names.object cells → ((n : ℕ) → parameters n ≡ arity (names.function n)) → (c : Enclosing) (ss : tree.Stmts)
          → typed.AreWellFormed objects result names c ss → AreSoundStatements cells parameters c (lowered_statements ss)
      sound_statements names known takes c tree.done is = tt
      sound_statements names known takes c (tree.both s rest) is = (sound_statement names known takes c s is.0, sound_statements names known takes c rest is.1)

      sound_choices : (names : Names) → Knows names.object cells → ((n : ℕ) → parameters n ≡ arity (names.function n)) → (c : Enclosing) (cs : tree.Choices)
          → typed.HasChoices objects result names c cs → AreSoundChoices cells parameters c (lowered_choices cs)
      sound_choices names known takes c tree.no_more is = tt
      sound_choices names known takes c (tree.case w rest) is = sound_choices names known takes c rest is
      sound_choices names known takes c (tree.default rest) is = sound_choices names known takes c rest is
      sound_choices names known takes c (tree.body s rest) is = (sound_statement names known takes c s is.0, sound_choices names known takes c rest is.1)
