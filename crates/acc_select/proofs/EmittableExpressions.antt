-- Emission takes the code of expressions that are ready for it.
use Rattle.std.proofs.Common.{◌≡◌, refl, ap, ◌∙◌, sym, subst, ℕ, suc, ◌+◌, max, Bool, true, false, [], ◌<◌, ◌≤◌, arith, Some}
use Rattle.std.specs.Prelude.{⊤, if◌then◌else◌}
use Rattle.c_syntax.specs.declared.operator.UnaryOp.TheVariants.{Minus}
use Rattle.c_tree.specs.declared.program.VarRef.{VarRef}
use Rattle.c_tree.specs.declared.program.VarRef.TheVariants.{Scalar, Local, Static}
use Rattle.tree_code.specs.WordTree as tree
use Rattle.tree_code.specs.WordTree.{ExprCode, Node, LvalueCode, Named, At, FormCode, ExprsCode}
use Rattle.tree_code.specs.WellFormedCode.{argument_count}
use Rattle.tree_code.specs.WordTemporaries.{word_temporaries, word_argument_temporaries, is_constant_word, is_simple_word, unless_simple_word}
use Rattle.tree_code.specs.declared.operator.WordOp.{WordOp}
use Rattle.acc_code.specs.declared.operand.AccOperand.TheVariants as operand
use Rattle.acc_operations.specs.Constants.{place_of, shape_of}
use Rattle.acc_select.specs.Forms.{Part_code}
use Rattle.tree_code.specs.WordHelpers.{done_by_routine}
use Rattle.acc_select.proofs.RoutineLemmas.{by_routine, routines_agree}
use Rattle.acc_operations.specs.Kinds.{operation_of}
use Rattle.acc_select.specs.Selected.{code_of, arguments, waiting}
use Rattle.acc_operations.specs.declared.constant.Shape.{Shape}
use Rattle.acc_operations.specs.declared.constant.Shape.TheVariants as shape
use Rattle.acc_select.proofs.EmittableForms as known
use Rattle.acc_select.proofs.EmittableRuns.{Frame, Place, inside, Steps, nothing_done}
use Rattle.acc_select.proofs.EmittableForms.{RightCode, RightShape, RightLater, RightStored, RightUpdate, MayCall, is_constant_shape, pointed, scalar_named, fixed_right, of_word_right, read_right, load_right, unary_right, binary_right, and_code_right, or_code_right, not_right, pick_right, comma_right, assign_name_right, assign_at_right, update_name_right, update_at_right, step_before_right, step_after_right, step_name_after_right, in_right, out_right, argument_right, parameters_right, call_right}

module _ (F : Frame) where
  -- a routine may be called where an operation is done by one
  abbrev pub ReadyOperation : WordOp → ExprCode → Type 0
  ReadyOperation o e = done_by_routine o (is_constant_word e) ≡ true → F.helps ≡ true

  -- expressions whose names have their places and whose calls have their functions
  abbrev mutual
    pub Ready : ExprCode → Type 0
    Ready (Node form at) = ReadyForm form

    pub ReadyForm : FormCode → Type 0
    ReadyForm (tree.Const w) = ⊤
    ReadyForm (tree.Read v) = Place F (place_of v)
    ReadyForm (tree.AddressOf v) = Place F (operand.Address v 0)
    ReadyForm (tree.Load e) = Ready e
    ReadyForm (tree.Unary o e) = Ready e
    ReadyForm (tree.Binary o a b) = Ready a × Ready b × ReadyOperation o b
    ReadyForm (tree.And a b) = Ready a × Ready b
    ReadyForm (tree.Or a b) = Ready a × Ready b
    ReadyForm (tree.Not e) = Ready e
    ReadyForm (tree.Pick c a b) = Ready c × Ready a × Ready b
    ReadyForm (tree.Assign l e) = ReadyTarget l × Ready e
    ReadyForm (tree.AssignOp o l e) = ReadyTarget l × Ready e × ReadyOperation o e
    ReadyForm (tree.StepBefore up l) = ReadyTarget l
    ReadyForm (tree.StepAfter up l) = ReadyTarget l
    ReadyForm (tree.Call f es) = ReadyList es × (F.parameters f ≡ Some (argument_count es))
    ReadyForm (tree.In port) = port < 16
    ReadyForm (tree.Out port e) = Ready e × (port < 16)
    ReadyForm (tree.Comma a b) = Ready a × Ready b

    pub ReadyTarget : LvalueCode → Type 0
    ReadyTarget (Named v at) = Place F (place_of v)
    ReadyTarget (At e at) = Ready e

    pub ReadyList : ExprsCode → Type 0
    ReadyList tree.none = ⊤
    ReadyList (tree.more e es) = Ready e × ReadyList es

-- what operands are
is_simple_shape : Shape → Bool
is_simple_shape (shape.Constant k) = true
is_simple_shape (shape.Named m) = true
is_simple_shape shape.Computed = false

constant_shape : (e : ExprCode) → is_constant_word e ≡ is_constant_shape (shape_of e)
constant_shape (Node (tree.Const w) at) = refl
constant_shape (Node (tree.AddressOf v) at) = refl
constant_shape (Node (tree.Unary Minus (Node (tree.Const w) a)) at) = refl
constant_shape e = refl

simple_shape : (e : ExprCode) → is_simple_word e ≡ is_simple_shape (shape_of e)
unfolding is_simple_shape
simple_shape (Node (tree.Const w) at) = refl
simple_shape (Node (tree.AddressOf v) at) = refl
simple_shape (Node (tree.Unary Minus (Node (tree.Const w) a)) at) = refl
simple_shape (Node (tree.Read v) at) = refl
simple_shape e = refl

simple_temporaries : (e : ExprCode) → is_simple_shape (shape_of e) ≡ true → word_temporaries e ≡ 0
unfolding is_simple_shape
simple_temporaries (Node (tree.Const w) at) is = refl
simple_temporaries (Node (tree.AddressOf v) at) is = refl
simple_temporaries (Node (tree.Unary Minus (Node (tree.Const w) a)) at) is = refl
simple_temporaries (Node (tree.Read v) at) is = refl
simple_temporaries e is = absurd (cc is)

-- room for temporaries
pub left_room : (t x y s : ℕ) → t + max x y ≤ s → t + x ≤ s
left_room t x y s room = omega arith

pub right_room : (t x y s : ℕ) → t + max x y ≤ s → t + y ≤ s
right_room t x y s room = omega arith

waiting_few : (es : ExprsCode) → waiting es ≤ word_argument_temporaries es
waiting_few tree.none = omega arith
waiting_few (tree.more e tree.none) = omega arith
waiting_few (tree.more e (tree.more f rest)) = let few = waiting_few (tree.more f rest) in omega arith

module _ (F : Frame) (b c : Bool) where
  named_place : (v : VarRef) → Place F (place_of v) → known.Named (inside F b c) (place_of v)
  named_place (Scalar n) there = scalar_named n there
  named_place (Local n) there = record { read = record { taken = tt; there = there; stored = λ w p. tt }; written = record { taken = tt; there = there }; plain = refl }
  named_place (Static n) there = record { read = record { taken = tt; there = there; stored = λ w p. tt }; written = record { taken = tt; there = there }; plain = refl }

  right_shape : (e : ExprCode) → Ready F e → RightShape (inside F b c) (shape_of e)
  right_shape (Node (tree.Const w) at) ready = ready
  right_shape (Node (tree.AddressOf v) at) ready = ready
  right_shape (Node (tree.Unary Minus (Node (tree.Const w) a)) at) ready = omega arith
  right_shape (Node (tree.Read v) at) ready = named_place v ready
  right_shape e ready = tt

  may_call : (o : WordOp) (e : ExprCode) → ReadyOperation F o e → MayCall (inside F b c) (operation_of o) (shape_of e)
  may_call o e ready = λ is. ready (sym (routines_agree o (is_constant_word e)) ∙ ap (by_routine (operation_of o)) (constant_shape e) ∙ is)

  -- the code of an operand at each depth of temporaries where there is room for its own
  abbrev RightWithin : ℕ → Part_code → Type 0
  RightWithin n e = (u : ℕ) → u + n ≤ F.scalars → RightCode (inside F b c) (e u)

  later_by : (r s : Shape) (n t : ℕ) (e : Part_code) → t + (if is_constant_shape r then n else if is_simple_shape s then 0 else 1 + n) ≤ F.scalars
      → RightWithin n e → RightLater (inside F b c) r s e t
  unfolding is_simple_shape
  later_by r (shape.Named m) n t e room h = tt
  later_by r (shape.Constant k) n t e room h = tt
  later_by (shape.Constant k) shape.Computed n t e room h = h t room
  later_by (shape.Named m) shape.Computed n t e room h = (omega arith, h (suc t) (omega arith))
  later_by shape.Computed shape.Computed n t e room h = (omega arith, h (suc t) (omega arith))

  later : (x y : ExprCode) (t : ℕ) → t + (if is_constant_word x then word_temporaries y else unless_simple_word y (1 + word_temporaries y)) ≤ F.scalars
      → RightWithin (word_temporaries y) (code_of y) → RightLater (inside F b c) (shape_of x) (shape_of y) (code_of y) t
  later x y t room h =
      later_by (shape_of x) (shape_of y) (word_temporaries y) t (code_of y)
      (subst (λ k. t + (if is_constant_shape (shape_of x) then word_temporaries y else if k then 0 else 1 + word_temporaries y) ≤ F.scalars) (simple_shape y)
      (subst (λ k. t + (if k then word_temporaries y else unless_simple_word y (1 + word_temporaries y)) ≤ F.scalars) (constant_shape x) room)) h

  later_name : (y : ExprCode) (t : ℕ) → t + unless_simple_word y (1 + word_temporaries y) ≤ F.scalars
      → RightWithin (word_temporaries y) (code_of y) → RightLater (inside F b c) shape.Computed (shape_of y) (code_of y) t
  later_name y t room h =
      later_by shape.Computed (shape_of y) (word_temporaries y) t (code_of y)
      (subst (λ k. t + (if k then 0 else 1 + word_temporaries y) ≤ F.scalars) (simple_shape y) room) h

  stored_by : (s : Shape) (n t : ℕ) (e : Part_code) → (is_simple_shape s ≡ true → n ≡ 0) → t + (if is_simple_shape s then 0 else 1 + n) ≤ F.scalars
      → RightWithin n e → RightStored (inside F b c) s e t
  unfolding is_simple_shape
  stored_by (shape.Named m) n t e simple room h = let none = simple refl in h t (omega arith)
  stored_by (shape.Constant k) n t e simple room h = let none = simple refl in h t (omega arith)
  stored_by shape.Computed n t e simple room h = (omega arith, h (suc t) (omega arith))

  stored_code : (y : ExprCode) (t : ℕ) → t + unless_simple_word y (1 + word_temporaries y) ≤ F.scalars
      → RightWithin (word_temporaries y) (code_of y) → RightStored (inside F b c) (shape_of y) (code_of y) t
  stored_code y t room h =
      stored_by (shape_of y) (word_temporaries y) t (code_of y) (simple_temporaries y)
      (subst (λ k. t + (if k then 0 else 1 + word_temporaries y) ≤ F.scalars) (simple_shape y) room) h

  update_by : (s : Shape) (n t : ℕ) (e : Part_code) → t + (if is_simple_shape s then 0 else 2 + n) ≤ F.scalars → RightWithin n e → RightUpdate (inside F b c) s e t
  unfolding is_simple_shape
  update_by (shape.Named m) n t e room h = tt
  update_by (shape.Constant k) n t e room h = tt
  update_by shape.Computed n t e room h = (omega arith, (omega arith, h (suc (suc t)) (omega arith)))

  update : (y : ExprCode) (t : ℕ) → t + unless_simple_word y (2 + word_temporaries y) ≤ F.scalars
      → RightWithin (word_temporaries y) (code_of y) → RightUpdate (inside F b c) (shape_of y) (code_of y) t
  update y t room h =
      update_by (shape_of y) (word_temporaries y) t (code_of y) (subst (λ k. t + (if k then 0 else 2 + word_temporaries y) ≤ F.scalars) (simple_shape y) room) h

  mutual
    pub right_code : (e : ExprCode) → Ready F e → (t : ℕ) → t + word_temporaries e ≤ F.scalars → RightCode (inside F b c) (code_of e t)
    right_code (Node (tree.Const w) at) ready t room = of_word_right (fixed_right ready)
    right_code (Node (tree.Read v) at) ready t room = read_right (named_place v ready)
    right_code (Node (tree.AddressOf v) at) ready t room = of_word_right (fixed_right ready)
    right_code (Node (tree.Load e) at) ready t room = load_right (right_code e ready t room)
    right_code (Node (tree.Unary o e) at) ready t room =
        unary_right (shape_of (Node (tree.Unary o e) at)) o (right_shape (Node (tree.Unary o e) at) ready) (right_code e ready t room)
    right_code (Node (tree.Binary o x y) at) ready t room =
        binary_right (operation_of o) (shape_of x) (shape_of y) (code_of x) (code_of y) t (may_call o y ready.2) (right_shape x ready.0) (right_shape y ready.1)
        (right_code x ready.0 t (left_room t _ _ _ room)) (later x y t (right_room t _ _ _ room) (λ u few. right_code y ready.1 u few))
    right_code (Node (tree.And x y) at) ready t room = and_code_right (right_code x ready.0 t (left_room t _ _ _ room)) (right_code y ready.1 t (right_room t _ _ _ room))
    right_code (Node (tree.Or x y) at) ready t room = or_code_right (right_code x ready.0 t (left_room t _ _ _ room)) (right_code y ready.1 t (right_room t _ _ _ room))
    right_code (Node (tree.Not e) at) ready t room = not_right (right_code e ready t room)
    right_code (Node (tree.Pick z x y) at) ready t room =
        pick_right (right_code z ready.0 t (left_room t _ _ _ room)) (right_code x ready.1 t (left_room t _ _ _ (right_room t _ _ _ room)))
        (right_code y ready.2 t (right_room t _ _ _ (right_room t _ _ _ room)))
    right_code (Node (tree.Assign (Named v place) e) at) ready t room = assign_name_right (named_place v ready.0) (right_code e ready.1 t room)
    right_code (Node (tree.Assign (At p place) e) at) ready t room =
        assign_at_right (shape_of e) (code_of p) (code_of e) t (right_code p ready.0 t (left_room t _ _ _ room))
        (stored_code e t (right_room t _ _ _ room) (λ u few. right_code e ready.1 u few))
    right_code (Node (tree.AssignOp o (Named v place) e) at) ready t room =
        update_name_right (operation_of o) (shape_of e) (code_of e) t (may_call o e ready.2) (right_shape e ready.1) (named_place v ready.0)
        (later_name e t room (λ u few. right_code e ready.1 u few))
    right_code (Node (tree.AssignOp o (At p place) e) at) ready t room =
        update_at_right (operation_of o) (shape_of e) (code_of p) (code_of e) t (may_call o e ready.2) (right_shape e ready.1)
        (right_code p ready.0 t (left_room t _ _ _ room)) (update e t (right_room t _ _ _ room) (λ u few. right_code e ready.1 u few))
    right_code (Node (tree.StepBefore up (Named v place)) at) ready t room = step_before_right up nothing_done (named_place v ready)
    right_code (Node (tree.StepBefore up (At p place)) at) ready t room = step_before_right up (right_code p ready t room).point pointed
    right_code (Node (tree.StepAfter up (Named v place)) at) ready t room = step_name_after_right up (named_place v ready)
    right_code (Node (tree.StepAfter up (At p place)) at) ready t room = step_after_right up (right_code p ready t room).point pointed
    right_code (Node (tree.Call f es) at) ready t room =
        call_right f (argument_count es) ready.1 (right_arguments f (argument_count es) ready.1 es 0 ready.0 t (omega arith) room)
        (parameters_right f 0 t (waiting es) (argument_count es) ready.1 (omega arith) (omega (arith, waiting_few es, room)))
    right_code (Node (tree.In port) at) ready t room = in_right port ready
    right_code (Node (tree.Out port e) at) ready t room = out_right port ready.1 (right_code e ready.0 t room)
    right_code (Node (tree.Comma x y) at) ready t room = comma_right (right_code x ready.0 t (left_room t _ _ _ room)) (right_code y ready.1 t (right_room t _ _ _ room))

    right_arguments : (f m : ℕ) → F.parameters f ≡ Some m → (es : ExprsCode) (i : ℕ) → ReadyList F es → (t : ℕ) → i + argument_count es ≤ m
        → t + word_argument_temporaries es ≤ F.scalars → Steps (inside F b c) [] (arguments f i es t) []
    right_arguments f m is tree.none i ready t few room = nothing_done
    right_arguments f m is (tree.more e tree.none) i ready t few room =
        argument_right f i t m is (omega arith) true (λ other. absurd (cc other)) (right_code e ready.0 t room) nothing_done
    right_arguments f m is (tree.more e (tree.more d rest)) i ready t few room =
        argument_right f i t m is (omega arith) false (λ other. omega arith) (right_code e ready.0 t (left_room t _ _ _ room))
        (right_arguments f m is (tree.more d rest) (suc i) ready.1 (suc t) (omega arith) (omega arith))
