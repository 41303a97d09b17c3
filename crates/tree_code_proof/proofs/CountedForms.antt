-- Each form of a typed program counts, and then does what its parts do, with what they cost.
use Rattle.std.proofs.Common.{◌≡◌, ℕ, ◌+◌, Bool, not, ◌∷◌, Option, Some, None, refl, ap, ◌∙◌}
use Rattle.std.specs.Prelude.{if◌then◌else◌}
use Rattle.word_base.specs.Words.{truth}
use Rattle.c_syntax.specs.declared.operator.UnaryOp.{UnaryOp}
use Rattle.c_syntax.specs.declared.operator.BinaryOp.{BinaryOp}
use Rattle.c_tree.specs.declared.program.VarRef.{VarRef}
use Rattle.c_tree.specs.declared.program.ScalarType.{ScalarType}
use Rattle.c_tree.specs.TypedTree as tree
use Rattle.c_tree.specs.TypedTree.{Kind, Form, Expr, Node, Lvalue, Named, At, Exprs, more}
use Rattle.c_tree.specs.Store as store
use Rattle.c_tree.specs.Store.{Value, Word, Pointer, Null}
use Rattle.c_tree.specs.Eval as plain
use Rattle.c_tree.specs.Eval.{Env, Spot, object_number, points, kind_of, lvalue_place}
use Rattle.ir_semantics.specs.SourceWork.{Work, no_work, in_turn, CallsWork, truth_of, old_value, expression_work, lvalue_work, arguments_work}
use Rattle.tree_code_proof.specs.Counted.{Does, ◌>>=◌, give, ticked, load, save, take_word, counted, free}
use Rattle.tree_code_proof.specs.Evaluated.{some, need, choose, test_of, spot_of, of_two, of_one, stepped, emit, calling, value, eval, values, condition}
use Rattle.tree_code_proof.proofs.Counting.{counted_node, counted_nothing, bind_counted, bind_first, bind_free, bind_tested, bind_old, then_same, chosen_counted}

module _ (calls : plain.Calls) (work : CallsWork) (env : Env) where
  abbrev does : Expr → Does Value
  does e = value calls work env e

  abbrev word : Expr → store.Does Value
  word e = plain.value calls env e

  abbrev cost : Expr → Work
  cost e = expression_work calls work env e

  abbrev form_of : Form → Kind → ℕ → store.Does (Option Value)
  form_of form kind at = plain.eval_form calls env form kind at

  -- a form whose value is used
  pub needed_counted : (form : store.Does (Option Value)) (k : Work) (at : ℕ) → counted (store.◌>>=◌ form (plain.need at)) k ≡ (counted form k >>= need at)
  needed_counted form k at = bind_first (plain.need at) form k

  pub const_counted : (c : ℕ) (kind : Kind) (at : ℕ) → eval calls work env (Node (tree.Const c) kind at) ≡ ticked 2 (some (if points kind then Null else Word c))
  const_counted c kind at = refl

  pub read_counted : (v : VarRef) (kind : Kind) (at : ℕ) → eval calls work env (Node (tree.Read v) kind at) ≡ ticked 5 (load (object_number env v) 0 (points kind) at >>= some)
  read_counted v kind at = ap (ticked 5) (bind_free plain.some (store.load (object_number env v) 0 (points kind) at))

  pub address_of_counted : (v : VarRef) (kind : Kind) (at : ℕ) → eval calls work env (Node (tree.AddressOf v) kind at) ≡ ticked 2 (some (Pointer (object_number env v) 0))
  address_of_counted v kind at = refl

  -- a node with one operand
  one_counted : (k : ℕ) (e : Expr) (g : Value → store.Does (Option Value)) → counted (store.◌>>=◌ (word e) g) (λ w. k + cost e w) ≡ ticked k (does e >>= λ v. free (g v))
  one_counted k e g = counted_node (store.◌>>=◌ (word e) g) k (cost e) ∙ ap (ticked k) (bind_first g (word e) (cost e))

  pub load_counted : (e : Expr) (kind : Kind) (at : ℕ) → eval calls work env (Node (tree.Load e) kind at) ≡ ticked 5 (does e >>= λ p. spot_of p at >>= λ s. load s.0 s.1 (points kind) at >>= some)
  load_counted e kind at =
      one_counted 5 e (λ p. store.◌>>=◌ (plain.spot_of p at) (λ s. store.◌>>=◌ (store.load s.0 s.1 (points kind) at) plain.some))
      ∙ ap (ticked 5) (then_same (does e) (λ p. bind_free (λ s. store.◌>>=◌ (store.load s.0 s.1 (points kind) at) plain.some) (plain.spot_of p at)
      ∙ then_same (spot_of p at) (λ s. bind_free plain.some (store.load s.0 s.1 (points kind) at))))

  pub unary_counted : (o : UnaryOp) (e : Expr) (kind : Kind) (at : ℕ) → eval calls work env (Node (tree.Unary o e) kind at) ≡ ticked 1 (does e >>= λ v. of_one o kind v at >>= some)
  unary_counted o e kind at =
      one_counted 1 e (λ v. store.◌>>=◌ (plain.of_one o kind v at) plain.some) ∙ ap (ticked 1) (then_same (does e) (λ v. bind_free plain.some (plain.of_one o kind v at)))

  pub not_counted : (a : Expr) (kind : Kind) (at : ℕ) → eval calls work env (Node (tree.Not a) kind at) ≡ ticked 10 (does a >>= λ v. test_of v at >>= λ t. some (Word (truth (not t))))
  not_counted a kind at =
      one_counted 10 a (λ v. store.◌>>=◌ (plain.test_of v at) (λ t. plain.some (Word (truth (not t)))))
      ∙ ap (ticked 10) (then_same (does a) (λ v. bind_free (λ t. plain.some (Word (truth (not t)))) (plain.test_of v at)))

  pub out_counted : (port : ℕ) (e : Expr) (kind : Kind) (at : ℕ) → eval calls work env (Node (tree.Out port e) kind at) ≡ ticked 4 (does e >>= λ v. emit port v at)
  out_counted port e kind at = one_counted 4 e (λ v. plain.emit port v at)

  pub in_counted : (port : ℕ) (kind : Kind) (at : ℕ) → eval calls work env (Node (tree.In port) kind at) ≡ ticked 4 (take_word port >>= some)
  in_counted port kind at = ap (ticked 4) (bind_free plain.some (store.take_word port))

  pub convert_counted : (e : Expr) (kind : ScalarType) (at : ℕ) → eval calls work env (Node (tree.Convert e) (Some kind) at) ≡ ticked 1 (does e >>= some)
  convert_counted e kind at = one_counted 1 e plain.some

  pub convert_away_counted : (e : Expr) (at : ℕ) → eval calls work env (Node (tree.Convert e) None at) ≡ ticked 1 (eval calls work env e >>= λ _. give None)
  convert_away_counted e at =
      counted_node (store.◌>>=◌ (plain.eval calls env e) (λ _. store.give None)) 1 (cost e) ∙ ap (ticked 1) (bind_first (λ _. store.give None) (plain.eval calls env e) (cost e))

  pub assign_name_counted : (v : VarRef) (place : ℕ) (e : Expr) (kind : Kind) (at : ℕ)
      → eval calls work env (Node (tree.Assign (Named v place) e) kind at) ≡ ticked 19 (does e >>= λ x. save (object_number env v) 0 (points kind) x place >>= some)
  assign_name_counted v place e kind at =
      one_counted 19 e (λ x. store.◌>>=◌ (store.save (object_number env v) 0 (points kind) x place) plain.some)
      ∙ ap (ticked 19) (then_same (does e) (λ x. bind_free plain.some (store.save (object_number env v) 0 (points kind) x place)))

  -- a node with two operands, of which both are evaluated
  two_counted : {A B : Type 0} (k : ℕ) (f : store.Does A) (a b : Expr) (h : A → store.Does B) → counted (store.◌>>=◌ f h) (λ w. k + in_turn f (cost a) (λ _. cost b) w) ≡ ticked k (counted f (cost a) >>= λ v. counted (h v) (cost b))
  two_counted k f a b h = counted_node (store.◌>>=◌ f h) k (in_turn f (cost a) (λ _. cost b)) ∙ ap (ticked k) (bind_counted f h (cost a) (λ _. cost b))

  pub binary_counted : (o : BinaryOp) (a b : Expr) (kind : Kind) (at : ℕ)
      → eval calls work env (Node (tree.Binary o a b) kind at) ≡ ticked 24 (does a >>= λ v. does b >>= λ u. of_two o (kind_of a) (kind_of b) v u at >>= some)
  binary_counted o a b kind at =
      two_counted 24 (word a) a b (λ v. store.◌>>=◌ (word b) (λ u. store.◌>>=◌ (plain.of_two o (kind_of a) (kind_of b) v u at) plain.some))
      ∙ ap (ticked 24) (then_same (does a) (λ v. bind_first (λ u. store.◌>>=◌ (plain.of_two o (kind_of a) (kind_of b) v u at) plain.some) (word b) (cost b)
      ∙ then_same (does b) (λ u. bind_free plain.some (plain.of_two o (kind_of a) (kind_of b) v u at))))

  pub assign_at_counted : (p : Expr) (place : ℕ) (e : Expr) (kind : Kind) (at : ℕ)
      → eval calls work env (Node (tree.Assign (At p place) e) kind at) ≡ ticked 19 (does p >>= λ q. does e >>= λ x. spot_of q place >>= λ s. save s.0 s.1 (points kind) x place >>= some)
  assign_at_counted p place e kind at =
      two_counted 19 (word p) p e (λ q. store.◌>>=◌ (word e) (λ x. store.◌>>=◌ (plain.spot_of q place) (λ s. store.◌>>=◌ (store.save s.0 s.1 (points kind) x place) plain.some)))
      ∙ ap (ticked 19) (then_same (does p) (λ q. bind_first (λ x. store.◌>>=◌ (plain.spot_of q place) (λ s. store.◌>>=◌ (store.save s.0 s.1 (points kind) x place) plain.some)) (word e) (cost e)
      ∙ then_same (does e) (λ x. bind_free (λ s. store.◌>>=◌ (store.save s.0 s.1 (points kind) x place) plain.some) (plain.spot_of q place)
      ∙ then_same (spot_of q place) (λ s. bind_free plain.some (store.save s.0 s.1 (points kind) x place)))))

  pub comma_counted : (a b : Expr) (kind : Kind) (at : ℕ) → eval calls work env (Node (tree.Comma a b) kind at) ≡ ticked 1 (eval calls work env a >>= λ _. eval calls work env b)
  comma_counted a b kind at = two_counted 1 (plain.eval calls env a) a b (λ _. plain.eval calls env b)

  pub comma_value_counted : (a b : Expr) (kind : Kind) (at : ℕ) → does (Node (tree.Comma a b) kind at) ≡ ticked 1 (eval calls work env a >>= λ _. does b)
  comma_value_counted a b kind at = two_counted 1 (plain.eval calls env a) a b (λ _. word b)

  -- a node whose first operand is tested
  test_counted : {A : Type 0} (k : ℕ) (a : Expr) (at : ℕ) (f g : store.Does A) (hit miss : Work)
      → counted (store.◌>>=◌ (word a) (λ v. store.◌>>=◌ (plain.test_of v at) (λ t. plain.choose t f g))) (λ w. k + in_turn (truth_of calls work env a at) (cost a) (λ t. if t then hit else miss) w)
      ≡ ticked k (does a >>= λ v. test_of v at >>= λ t. choose t (counted f hit) (counted g miss))
  test_counted k a at f g hit miss =
      counted_node (store.◌>>=◌ (word a) (λ v. store.◌>>=◌ (plain.test_of v at) (λ t. plain.choose t f g))) k (in_turn (truth_of calls work env a at) (cost a) (λ t. if t then hit else miss))
      ∙ ap (ticked k) (bind_tested (word a) (λ v. plain.test_of v at) (λ t. plain.choose t f g) (cost a) (λ t. if t then hit else miss)
      ∙ then_same (does a) (λ v. then_same (test_of v at) (λ t. chosen_counted t f g hit miss)))

  -- the second operand of an and or an or
  abbrev second : Expr → ℕ → store.Does (Option Value)
  second b at = store.◌>>=◌ (word b) (λ v. store.◌>>=◌ (plain.test_of v at) (λ u. plain.some (Word (truth u))))

  second_counted : (b : Expr) (at : ℕ) → counted (second b at) (cost b) ≡ (does b >>= λ v. test_of v at >>= λ u. some (Word (truth u)))
  second_counted b at =
      bind_first (λ v. store.◌>>=◌ (plain.test_of v at) (λ u. plain.some (Word (truth u)))) (word b) (cost b) ∙ then_same (does b) (λ v. bind_free (λ u. plain.some (Word (truth u))) (plain.test_of v at))

  pub and_counted : (a b : Expr) (kind : Kind) (at : ℕ)
      → eval calls work env (Node (tree.And a b) kind at) ≡ ticked 20 (does a >>= λ v. test_of v at >>= λ t. choose t (does b >>= λ v. test_of v at >>= λ u. some (Word (truth u))) (some (Word 0)))
  and_counted a b kind at =
      test_counted 20 a at (second b at) (plain.some (Word 0)) (cost b) no_work
      ∙ ap (λ x. ticked 20 (does a >>= λ v. test_of v at >>= λ t. choose t x (counted (plain.some (Word 0)) no_work))) (second_counted b at)
      ∙ ap (λ x. ticked 20 (does a >>= λ v. test_of v at >>= λ t. choose t (does b >>= λ v. test_of v at >>= λ u. some (Word (truth u))) x)) (counted_nothing (plain.some (Word 0)))

  pub or_counted : (a b : Expr) (kind : Kind) (at : ℕ)
      → eval calls work env (Node (tree.Or a b) kind at) ≡ ticked 20 (does a >>= λ v. test_of v at >>= λ t. choose t (some (Word 1)) (does b >>= λ v. test_of v at >>= λ u. some (Word (truth u))))
  or_counted a b kind at =
      test_counted 20 a at (plain.some (Word 1)) (second b at) no_work (cost b)
      ∙ ap (λ x. ticked 20 (does a >>= λ v. test_of v at >>= λ t. choose t (counted (plain.some (Word 1)) no_work) x)) (second_counted b at)
      ∙ ap (λ x. ticked 20 (does a >>= λ v. test_of v at >>= λ t. choose t x (does b >>= λ v. test_of v at >>= λ u. some (Word (truth u))))) (counted_nothing (plain.some (Word 1)))

  pub pick_counted : (c a b : Expr) (kind : Kind) (at : ℕ) → eval calls work env (Node (tree.Pick c a b) kind at) ≡ ticked 14 (does c >>= λ v. test_of v at >>= λ t. choose t (eval calls work env a) (eval calls work env b))
  pick_counted c a b kind at = test_counted 14 c at (plain.eval calls env a) (plain.eval calls env b) (cost a) (cost b)

  pub pick_value_counted : (c a b : Expr) (kind : Kind) (at : ℕ) → does (Node (tree.Pick c a b) kind at) ≡ ticked 14 (does c >>= λ v. test_of v at >>= λ t. choose t (does a) (does b))
  pick_value_counted c a b kind at = test_counted 14 c at (word a) (word b) (cost a) (cost b)

  -- where an lvalue lies
  abbrev lies : Lvalue → Does Spot
  lies l = counted (plain.spot calls env l) (lvalue_work calls work env l)

  pub lies_named : (v : VarRef) (place : ℕ) → lies (Named v place) ≡ give (object_number env v, 0)
  lies_named v place = counted_nothing (plain.spot calls env (Named v place))

  pub lies_at : (p : Expr) (place : ℕ) → lies (At p place) ≡ (does p >>= λ q. spot_of q place)
  lies_at p place = bind_first (λ q. plain.spot_of q place) (word p) (cost p)

  -- the value that is there, and what follows it
  old_counted : {A : Type 0} (l : Lvalue) (p : Bool) (h : Spot → Value → store.Does A) (rest : Work)
      → counted (store.◌>>=◌ (plain.spot calls env l) (λ s. store.◌>>=◌ (store.load s.0 s.1 p (lvalue_place l)) (h s))) (in_turn (old_value calls work env l p) (lvalue_work calls work env l) (λ _. rest))
      ≡ (lies l >>= λ s. load s.0 s.1 p (lvalue_place l) >>= λ x. counted (h s x) rest)
  old_counted l p h rest = bind_old (plain.spot calls env l) (λ s. store.load s.0 s.1 p (lvalue_place l)) h (lvalue_work calls work env l) rest

  stepped_counted : (up : Bool) (l : Lvalue) (kind : Kind) (at : ℕ) (last : Value → Value → store.Does (Option Value))
      → counted (store.◌>>=◌ (plain.spot calls env l) (λ s. store.◌>>=◌ (store.load s.0 s.1 (points kind) (lvalue_place l)) (λ x. store.◌>>=◌ (plain.stepped up kind x at) (λ z. store.◌>>=◌ (store.save s.0 s.1 (points kind) z (lvalue_place l)) (last x))))) (λ w. 14 + lvalue_work calls work env l w)
      ≡ ticked 14 (lies l >>= λ s. load s.0 s.1 (points kind) (lvalue_place l) >>= λ x. stepped up kind x at >>= λ z. save s.0 s.1 (points kind) z (lvalue_place l) >>= λ u. free (last x u))
  stepped_counted up l kind at last =
      let p = points kind in
      let m = lvalue_place l in
      let saved : Spot → Value → Value → store.Does (Option Value) = λ s x z. store.◌>>=◌ (store.save s.0 s.1 p z m) (last x) in
      let next : Spot → Value → store.Does (Option Value) = λ s x. store.◌>>=◌ (plain.stepped up kind x at) (saved s x) in
      let read : Spot → store.Does (Option Value) = λ s. store.◌>>=◌ (store.load s.0 s.1 p m) (next s) in
      counted_node (store.◌>>=◌ (plain.spot calls env l) read) 14 (lvalue_work calls work env l)
      ∙ ap (ticked 14) (bind_first read (plain.spot calls env l) (lvalue_work calls work env l)
      ∙ then_same (lies l) (λ s. bind_free (next s) (store.load s.0 s.1 p m)
      ∙ then_same (load s.0 s.1 p m) (λ x. bind_free (saved s x) (plain.stepped up kind x at) ∙ then_same (stepped up kind x at) (λ z. bind_free (last x) (store.save s.0 s.1 p z m)))))

  pub update_counted : (o : BinaryOp) (l : Lvalue) (e : Expr) (kind : Kind) (at : ℕ)
      → eval calls work env (Node (tree.AssignOp o l e) kind at)
      ≡ ticked 48 (lies l >>= λ s. load s.0 s.1 (points kind) (lvalue_place l) >>= λ x. does e >>= λ y. of_two o kind (kind_of e) x y at >>= λ z. save s.0 s.1 (points kind) z (lvalue_place l) >>= some)
  update_counted o l e kind at =
      let p = points kind in
      let m = lvalue_place l in
      counted_node (form_of (tree.AssignOp o l e) kind at) 48 (in_turn (old_value calls work env l p) (lvalue_work calls work env l) (λ _. cost e))
      ∙ ap (ticked 48) (old_counted l p (λ s x. store.◌>>=◌ (word e) (λ y. store.◌>>=◌ (plain.of_two o kind (kind_of e) x y at) (λ z. store.◌>>=◌ (store.save s.0 s.1 p z m) plain.some))) (cost e)
      ∙ then_same (lies l) (λ s. then_same (load s.0 s.1 p m) (λ x. bind_first (λ y. store.◌>>=◌ (plain.of_two o kind (kind_of e) x y at) (λ z. store.◌>>=◌ (store.save s.0 s.1 p z m) plain.some)) (word e) (cost e)
      ∙ then_same (does e) (λ y. bind_free (λ z. store.◌>>=◌ (store.save s.0 s.1 p z m) plain.some) (plain.of_two o kind (kind_of e) x y at)
      ∙ then_same (of_two o kind (kind_of e) x y at) (λ z. bind_free plain.some (store.save s.0 s.1 p z m))))))

  pub step_before_counted : (up : Bool) (l : Lvalue) (kind : Kind) (at : ℕ)
      → eval calls work env (Node (tree.StepBefore up l) kind at)
      ≡ ticked 14 (lies l >>= λ s. load s.0 s.1 (points kind) (lvalue_place l) >>= λ x. stepped up kind x at >>= λ z. save s.0 s.1 (points kind) z (lvalue_place l) >>= some)
  step_before_counted up l kind at = stepped_counted up l kind at (λ x z. plain.some z)

  pub step_after_counted : (up : Bool) (l : Lvalue) (kind : Kind) (at : ℕ)
      → eval calls work env (Node (tree.StepAfter up l) kind at)
      ≡ ticked 14 (lies l >>= λ s. load s.0 s.1 (points kind) (lvalue_place l) >>= λ x. stepped up kind x at >>= λ z. save s.0 s.1 (points kind) z (lvalue_place l) >>= λ _. some x)
  step_after_counted up l kind at = stepped_counted up l kind at (λ x z. plain.some x)

  -- a name or where a pointer points
  pub update_name_counted : (o : BinaryOp) (v : VarRef) (place : ℕ) (e : Expr) (kind : Kind) (at : ℕ)
      → eval calls work env (Node (tree.AssignOp o (Named v place) e) kind at)
      ≡ ticked 48 (load (object_number env v) 0 (points kind) place >>= λ x. does e >>= λ y. of_two o kind (kind_of e) x y at >>= λ z. save (object_number env v) 0 (points kind) z place >>= some)
  update_name_counted o v place e kind at =
      update_counted o (Named v place) e kind at
      ∙ ap (λ l. ticked 48 (l >>= λ s. load s.0 s.1 (points kind) place >>= λ x. does e >>= λ y. of_two o kind (kind_of e) x y at >>= λ z. save s.0 s.1 (points kind) z place >>= some)) (lies_named v place)

  pub update_at_counted : (o : BinaryOp) (p : Expr) (place : ℕ) (e : Expr) (kind : Kind) (at : ℕ)
      → eval calls work env (Node (tree.AssignOp o (At p place) e) kind at)
      ≡ ticked 48 ((does p >>= λ q. spot_of q place) >>= λ s. load s.0 s.1 (points kind) place >>= λ x. does e >>= λ y. of_two o kind (kind_of e) x y at >>= λ z. save s.0 s.1 (points kind) z place >>= some)
  update_at_counted o p place e kind at =
      update_counted o (At p place) e kind at
      ∙ ap (λ l. ticked 48 (l >>= λ s. load s.0 s.1 (points kind) place >>= λ x. does e >>= λ y. of_two o kind (kind_of e) x y at >>= λ z. save s.0 s.1 (points kind) z place >>= some)) (lies_at p place)

  pub step_before_name_counted : (up : Bool) (v : VarRef) (place : ℕ) (kind : Kind) (at : ℕ)
      → eval calls work env (Node (tree.StepBefore up (Named v place)) kind at)
      ≡ ticked 14 (load (object_number env v) 0 (points kind) place >>= λ x. stepped up kind x at >>= λ z. save (object_number env v) 0 (points kind) z place >>= some)
  step_before_name_counted up v place kind at =
      step_before_counted up (Named v place) kind at ∙ ap (λ l. ticked 14 (l >>= λ s. load s.0 s.1 (points kind) place >>= λ x. stepped up kind x at >>= λ z. save s.0 s.1 (points kind) z place >>= some)) (lies_named v place)

  pub step_before_at_counted : (up : Bool) (p : Expr) (place : ℕ) (kind : Kind) (at : ℕ)
      → eval calls work env (Node (tree.StepBefore up (At p place)) kind at)
      ≡ ticked 14 ((does p >>= λ q. spot_of q place) >>= λ s. load s.0 s.1 (points kind) place >>= λ x. stepped up kind x at >>= λ z. save s.0 s.1 (points kind) z place >>= some)
  step_before_at_counted up p place kind at =
      step_before_counted up (At p place) kind at ∙ ap (λ l. ticked 14 (l >>= λ s. load s.0 s.1 (points kind) place >>= λ x. stepped up kind x at >>= λ z. save s.0 s.1 (points kind) z place >>= some)) (lies_at p place)

  pub step_after_name_counted : (up : Bool) (v : VarRef) (place : ℕ) (kind : Kind) (at : ℕ)
      → eval calls work env (Node (tree.StepAfter up (Named v place)) kind at)
      ≡ ticked 14 (load (object_number env v) 0 (points kind) place >>= λ x. stepped up kind x at >>= λ z. save (object_number env v) 0 (points kind) z place >>= λ _. some x)
  step_after_name_counted up v place kind at =
      step_after_counted up (Named v place) kind at ∙ ap (λ l. ticked 14 (l >>= λ s. load s.0 s.1 (points kind) place >>= λ x. stepped up kind x at >>= λ z. save s.0 s.1 (points kind) z place >>= λ _. some x)) (lies_named v place)

  pub step_after_at_counted : (up : Bool) (p : Expr) (place : ℕ) (kind : Kind) (at : ℕ)
      → eval calls work env (Node (tree.StepAfter up (At p place)) kind at)
      ≡ ticked 14 ((does p >>= λ q. spot_of q place) >>= λ s. load s.0 s.1 (points kind) place >>= λ x. stepped up kind x at >>= λ z. save s.0 s.1 (points kind) z place >>= λ _. some x)
  step_after_at_counted up p place kind at =
      step_after_counted up (At p place) kind at ∙ ap (λ l. ticked 14 (l >>= λ s. load s.0 s.1 (points kind) place >>= λ x. stepped up kind x at >>= λ z. save s.0 s.1 (points kind) z place >>= λ _. some x)) (lies_at p place)

  -- calls
  pub values_counted : (e : Expr) (rest : Exprs) → values calls work env (more e rest) ≡ ticked 12 (does e >>= λ v. values calls work env rest >>= λ vs. give (v ∷ vs))
  values_counted e rest =
      counted_node (plain.values calls env (more e rest)) 12 (in_turn (word e) (cost e) (λ _. arguments_work calls work env rest))
      ∙ ap (ticked 12) (bind_counted (word e) (λ v. store.◌>>=◌ (plain.values calls env rest) (λ vs. store.give (v ∷ vs))) (cost e) (λ _. arguments_work calls work env rest)
      ∙ then_same (does e) (λ v. bind_first (λ vs. store.give (v ∷ vs)) (plain.values calls env rest) (arguments_work calls work env rest)))

  pub call_counted : (f : ℕ) (es : Exprs) (kind : Kind) (at : ℕ) → eval calls work env (Node (tree.Call f es) kind at) ≡ ticked 2 (values calls work env es >>= calling calls work f)
  call_counted f es kind at =
      counted_node (store.◌>>=◌ (plain.values calls env es) (calls f)) 2 (in_turn (plain.values calls env es) (arguments_work calls work env es) (work f))
      ∙ ap (ticked 2) (bind_counted (plain.values calls env es) (calls f) (arguments_work calls work env es) (work f))

  -- a test of a statement
  pub condition_counted : (e : Expr) → condition calls work env e ≡ (does e >>= λ v. test_of v (plain.expression_place e))
  condition_counted e = bind_first (λ v. plain.test_of v (plain.expression_place e)) (word e) (cost e)
