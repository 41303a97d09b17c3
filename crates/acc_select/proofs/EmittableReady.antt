-- Well-formed word trees are ready for emission.
use Rattle.std.proofs.Common.{◌≡◌, refl, ap, ◌∙◌, subst, ℕ, Bool, true, false, List, [], ◌∷◌, ◌++◌, Option, Some, None}
use Rattle.std.specs.Prelude.{◌==◌, ◌||◌, not, slice_get}
use Rattle.std.proofs.lemmas.Bool.{eq-eqb, or_left, or_right}
use Rattle.c_tree.specs.TypedTree.{ObjectTree}
use Rattle.c_tree.specs.Labels.{may_break, may_continue, in_switch}
use Rattle.c_tree.specs.Uses.{called}
use Rattle.c_tree.specs.WellFormed.{IsAddressable}
use Rattle.c_tree.specs.declared.enclosing.Enclosing.{Enclosing}
use Rattle.c_tree.specs.declared.enclosing.Enclosing.TheVariants as around
use Rattle.c_tree.specs.declared.program.VarRef.{VarRef}
use Rattle.c_tree.specs.declared.uses.Use.{Use}
use Rattle.c_tree.specs.declared.uses.Use.TheVariants as use_of
use Rattle.tree_code.specs.WordTree as tree
use Rattle.tree_code.specs.WordTree.{ExprCode, Node, LvalueCode, Named, At, FormCode, ExprsCode, StmtCode, StmtsCode, ChoicesCode}
use Rattle.tree_code.specs.WellFormedCode.{IsThereForWords, TakesSo, IsSound, HasSound, IsSoundTarget, AreSound, IsSoundOptional, IsSoundStatement, AreSoundStatements, AreSoundChoices}
use Rattle.tree_code.specs.WordUses.{word_uses, word_form_uses, word_target_uses, word_list_uses, optional_word_uses, word_case_count, word_statement_uses, word_statements_uses, word_choices_uses}
use Rattle.acc_code.specs.declared.operand.AccOperand.TheVariants as operand
use Rattle.acc_operations.specs.Constants.{place_of}
use Rattle.tree_code.specs.WordHelpers.{some_form, some_form_below, some_target_form, some_argument_form, some_optional_form, some_statement_form, some_list_form, some_choice_form, needs_routine}
use Rattle.acc_select.specs.IsSelected.{is_listed}
use Rattle.acc_select.proofs.EmittableRuns.{Frame, Place}
use Rattle.acc_select.proofs.EmittableExpressions.{Ready, ReadyForm, ReadyTarget, ReadyList}
use Rattle.acc_select.proofs.EmittableStatements.{ReadyFill, ReadyOptional, ReadyStatement, ReadyStatements, ReadyChoices}

-- functions that are called by parts
or_more : (a b c : Bool) → (b ≡ true → c ≡ true) → (a || b) ≡ true → (a || c) ≡ true
or_more true b c k h = refl
or_more false b c k h = k h

listed_left : (g : ℕ) (us vs : List Use) → is_listed g (called us) ≡ true → is_listed g (called (us ++ vs)) ≡ true
listed_left g [] vs h = absurd (cc h)
listed_left g (use_of.Address r ∷ us) vs h = listed_left g us vs h
listed_left g (use_of.Cases n ∷ us) vs h = listed_left g us vs h
listed_left g (use_of.Call m at ∷ us) vs h = or_more (g == m) (is_listed g (called us)) (is_listed g (called (us ++ vs))) (listed_left g us vs) h

listed_right : (g : ℕ) (us vs : List Use) → is_listed g (called vs) ≡ true → is_listed g (called (us ++ vs)) ≡ true
listed_right g [] vs h = h
listed_right g (use_of.Address r ∷ us) vs h = listed_right g us vs h
listed_right g (use_of.Cases n ∷ us) vs h = listed_right g us vs h
listed_right g (use_of.Call m at ∷ us) vs h = or_right (g == m) (is_listed g (called (us ++ vs))) (listed_right g us vs h)

is_word : (b : Bool) → (not b ≡ true → ⊥) → b ≡ true
is_word true h = refl
is_word false h = absurd (h refl)

switch_breaks : (c : Enclosing) → may_break (in_switch c) ≡ true
switch_breaks around.Body = refl
switch_breaks around.Switch = refl
switch_breaks around.Loop = refl
switch_breaks around.SwitchInLoop = refl

switch_continues : (c : Enclosing) → may_continue (in_switch c) ≡ may_continue c
switch_continues around.Body = refl
switch_continues around.Switch = refl
switch_continues around.Loop = refl
switch_continues around.SwitchInLoop = refl

-- a function that may be called, with its parameters in the tree and for emission
pub record IsKnownCall (F : Frame) (arity : ℕ → Option ℕ) (g : ℕ) : Type 0 where
  pub count : ℕ
  pub for_emission : F.parameters g ≡ Some count
  pub in_tree : arity g ≡ Some count

abbrev pub KnownCalls : Frame → (ℕ → Option ℕ) → List Use → Type 0
KnownCalls F arity us = (g : ℕ) → is_listed g (called us) ≡ true → IsKnownCall F arity g

called_so : (F : Frame) (arity : ℕ → Option ℕ) (g n : ℕ) → IsKnownCall F arity g → TakesSo (arity g) n → F.parameters g ≡ Some n
called_so F arity g n h so = let same : TakesSo (Some h.count) n = subst (λ c. TakesSo c n) h.in_tree so in h.for_emission ∙ ap Some same

module _ (F : Frame) (cells : VarRef → Option ℕ) (arity : ℕ → Option ℕ) (named : (v : VarRef) → cells v ≡ Some 1 → Place F (place_of v))
    (addressed : (v : VarRef) → IsAddressable v → IsThereForWords (cells v) → Place F (operand.Address v 0)) where
  mutual
    ready : (e : ExprCode) → IsSound cells arity e → KnownCalls F arity (word_uses e) → (some_form needs_routine e ≡ true → F.helps ≡ true) → Ready F e
    ready (Node form at) s k h = ready_form form at s k (λ i. h (or_left _ _ i)) (λ i. h (or_right _ _ i))

    ready_form : (form : FormCode) (at : ℕ) → HasSound cells arity form → KnownCalls F arity (word_form_uses form at) → (needs_routine form ≡ true → F.helps ≡ true)
        → (some_form_below needs_routine form ≡ true → F.helps ≡ true)
        → ReadyForm F form
    ready_form (tree.Const n) at s k here h = tt
    ready_form (tree.Read v) at s k here h = named v s
    ready_form (tree.AddressOf v) at s k here h = addressed v s.0 s.1
    ready_form (tree.Load e) at s k here h = ready e s k h
    ready_form (tree.Unary o e) at s k here h = ready e s k h
    ready_form (tree.Binary o a b) at s k here h = (
      ready a s.0 (λ g i. k g (listed_left g (word_uses a) (word_uses b) i)) (λ i. h (or_left _ _ i)),
      ready b s.1 (λ g i. k g (listed_right g (word_uses a) (word_uses b) i)) (λ i. h (or_right _ _ i)),
      here,
    )
    ready_form (tree.And a b) at s k here h = (
      ready a s.0 (λ g i. k g (listed_left g (word_uses a) (word_uses b) i)) (λ i. h (or_left _ _ i)),
      ready b s.1 (λ g i. k g (listed_right g (word_uses a) (word_uses b) i)) (λ i. h (or_right _ _ i)),
    )
    ready_form (tree.Or a b) at s k here h = (
      ready a s.0 (λ g i. k g (listed_left g (word_uses a) (word_uses b) i)) (λ i. h (or_left _ _ i)),
      ready b s.1 (λ g i. k g (listed_right g (word_uses a) (word_uses b) i)) (λ i. h (or_right _ _ i)),
    )
    ready_form (tree.Not e) at s k here h = ready e s k h
    ready_form (tree.Pick c a b) at s k here h = (
      ready c s.0 (λ g i. k g (listed_left g (word_uses c) (word_uses a ++ word_uses b) i)) (λ i. h (or_left _ _ (or_left _ _ i))),
      ready a s.1 (λ g i. k g (listed_right g (word_uses c) (word_uses a ++ word_uses b) (listed_left g (word_uses a) (word_uses b) i)))
          (λ i. h (or_left _ _ (or_right _ _ i))),
      ready b s.2 (λ g i. k g (listed_right g (word_uses c) (word_uses a ++ word_uses b) (listed_right g (word_uses a) (word_uses b) i)))
          (λ i. h (or_right _ _ i)),
    )
    ready_form (tree.Assign l e) at s k here h = (
      ready_target l s.0 (λ g i. k g (listed_left g (word_target_uses l) (word_uses e) i)) (λ i. h (or_left _ _ i)),
      ready e s.1 (λ g i. k g (listed_right g (word_target_uses l) (word_uses e) i)) (λ i. h (or_right _ _ i)),
    )
    ready_form (tree.AssignOp o l e) at s k here h = (
      ready_target l s.0 (λ g i. k g (listed_left g (word_target_uses l) (word_uses e) i)) (λ i. h (or_left _ _ i)),
      ready e s.1 (λ g i. k g (listed_right g (word_target_uses l) (word_uses e) i)) (λ i. h (or_right _ _ i)),
      here,
    )
    ready_form (tree.StepBefore up l) at s k here h = ready_target l s k h
    ready_form (tree.StepAfter up l) at s k here h = ready_target l s k h
    ready_form (tree.Call f es) at s k here h = (
      ready_list es s.0 (λ g i. k g (listed_left g (word_list_uses es) (use_of.Call f at ∷ []) i)) h,
      called_so F arity f _ (k f (listed_right f (word_list_uses es) (use_of.Call f at ∷ []) (or_left (f == f) false (eq-eqb f f refl)))) s.1,
    )
    ready_form (tree.In port) at s k here h = s
    ready_form (tree.Out port e) at s k here h = (ready e s.0 k h, s.1)
    ready_form (tree.Comma a b) at s k here h = (
      ready a s.0 (λ g i. k g (listed_left g (word_uses a) (word_uses b) i)) (λ i. h (or_left _ _ i)),
      ready b s.1 (λ g i. k g (listed_right g (word_uses a) (word_uses b) i)) (λ i. h (or_right _ _ i)),
    )

    ready_target : (l : LvalueCode) → IsSoundTarget cells arity l → KnownCalls F arity (word_target_uses l) → (some_target_form needs_routine l ≡ true → F.helps ≡ true) → ReadyTarget F l
    ready_target (Named v at) s k h = named v s
    ready_target (At e at) s k h = ready e s k h

    ready_list : (es : ExprsCode) → AreSound cells arity es → KnownCalls F arity (word_list_uses es) → (some_argument_form needs_routine es ≡ true → F.helps ≡ true) → ReadyList F es
    ready_list tree.none s k h = tt
    ready_list (tree.more e rest) s k h = (
      ready e s.0 (λ g i. k g (listed_left g (word_uses e) (word_list_uses rest) i)) (λ i. h (or_left _ _ i)),
      ready_list rest s.1 (λ g i. k g (listed_right g (word_uses e) (word_list_uses rest) i)) (λ i. h (or_right _ _ i)),
    )

  ready_optional : (e : Option ExprCode) → IsSoundOptional cells arity e → KnownCalls F arity (optional_word_uses e)
      → (some_optional_form needs_routine e ≡ true → F.helps ≡ true) → ReadyOptional F e
  ready_optional None s k h = tt
  ready_optional (Some e) s k h = ready e s k h

  module _ (locals : List ObjectTree) (filled : (n : ℕ) → ReadyFill F n (slice_get locals n)) where
    mutual
      pub ready_statement : (s : StmtCode) (c : Enclosing) → IsSoundStatement cells arity c s → KnownCalls F arity (word_statement_uses s)
          → (some_statement_form needs_routine s ≡ true → F.helps ≡ true)
          → ReadyStatement F locals (may_break c) (may_continue c) s
      ready_statement (tree.Block declared ss) c s k h = ready_statements ss c s.1 k h
      ready_statement (tree.Fill n) c s k h = filled n
      ready_statement (tree.Do_expr e) c s k h = ready e s k h
      ready_statement (tree.If e x y) c s k h = (
        ready e s.0 (λ g i. k g (listed_left g (word_uses e) (word_statement_uses x ++ word_statement_uses y) i)) (λ i. h (or_left _ _ (or_left _ _ i))),
        ready_statement x c s.1 (λ g i. k g (listed_right g (word_uses e) _ (listed_left g (word_statement_uses x) (word_statement_uses y) i)))
            (λ i. h (or_left _ _ (or_right _ _ i))),
        ready_statement y c s.2 (λ g i. k g (listed_right g (word_uses e) _ (listed_right g (word_statement_uses x) (word_statement_uses y) i)))
            (λ i. h (or_right _ _ i)),
      )
      ready_statement (tree.While e x) c s k h = (
        ready e s.0 (λ g i. k g (listed_left g (word_uses e) (word_statement_uses x) i)) (λ i. h (or_left _ _ i)),
        ready_statement x around.Loop s.1 (λ g i. k g (listed_right g (word_uses e) (word_statement_uses x) i)) (λ i. h (or_right _ _ i)),
      )
      ready_statement (tree.Do_while x e) c s k h = (
        ready_statement x around.Loop s.0 (λ g i. k g (listed_left g (word_statement_uses x) (word_uses e) i)) (λ i. h (or_left _ _ i)),
        ready e s.1 (λ g i. k g (listed_right g (word_statement_uses x) (word_uses e) i)) (λ i. h (or_right _ _ i)),
      )
      ready_statement (tree.For d e f x) c s k h = (
        ready_optional d s.0 (λ g i. k g (listed_left g (optional_word_uses d) (optional_word_uses e ++ (optional_word_uses f ++ word_statement_uses x)) i))
            (λ i. h (or_left _ _ (or_left _ _ (or_left _ _ i)))),
        ready_optional e s.1 (λ g i. k g (listed_right g (optional_word_uses d) _ (listed_left g (optional_word_uses e) (optional_word_uses f ++ word_statement_uses x) i)))
            (λ i. h (or_left _ _ (or_left _ _ (or_right _ _ i)))),
        ready_optional f s.2
            (λ g i. k g (listed_right g (optional_word_uses d) _ (listed_right g (optional_word_uses e) _ (listed_left g (optional_word_uses f) (word_statement_uses x) i))))
            (λ i. h (or_left _ _ (or_right _ _ i))),
        ready_statement x around.Loop s.3
            (λ g i. k g (listed_right g (optional_word_uses d) _ (listed_right g (optional_word_uses e) _ (listed_right g (optional_word_uses f) (word_statement_uses x) i))))
            (λ i. h (or_right _ _ i)),
      )
      ready_statement (tree.Switch e cs) c s k h = (
        ready e s.0 (λ g i. k g (listed_left g (word_uses e) (use_of.Cases (word_case_count cs) ∷ word_choices_uses cs) i)) (λ i. h (or_left _ _ i)),
        s.1,
        subst (λ b. ReadyChoices F locals b (may_continue c) cs) (switch_breaks c) (subst (λ d. ReadyChoices F locals (may_break (in_switch c)) d cs) (switch_continues c)
            (ready_choices cs (in_switch c) s.2 (λ g i. k g (listed_right g (word_uses e) (use_of.Cases (word_case_count cs) ∷ word_choices_uses cs) i))
            (λ i. h (or_right _ _ i)))),
      )
      ready_statement tree.Break c s k h = s
      ready_statement tree.Continue c s k h = s
      ready_statement (tree.Return e) c s k h = ready_optional e s k h

      ready_statements : (ss : StmtsCode) (c : Enclosing) → AreSoundStatements cells arity c ss → KnownCalls F arity (word_statements_uses ss)
          → (some_list_form needs_routine ss ≡ true → F.helps ≡ true)
          → ReadyStatements F locals (may_break c) (may_continue c) ss
      ready_statements tree.done c s k h = tt
      ready_statements (tree.both x rest) c s k h = (
        ready_statement x c s.0 (λ g i. k g (listed_left g (word_statement_uses x) (word_statements_uses rest) i)) (λ i. h (or_left _ _ i)),
        ready_statements rest c s.1 (λ g i. k g (listed_right g (word_statement_uses x) (word_statements_uses rest) i)) (λ i. h (or_right _ _ i)),
      )

      ready_choices : (cs : ChoicesCode) (c : Enclosing) → AreSoundChoices cells arity c cs → KnownCalls F arity (word_choices_uses cs)
          → (some_choice_form needs_routine cs ≡ true → F.helps ≡ true)
          → ReadyChoices F locals (may_break c) (may_continue c) cs
      ready_choices tree.no_more c s k h = tt
      ready_choices (tree.case v rest) c s k h = ready_choices rest c s k h
      ready_choices (tree.default rest) c s k h = ready_choices rest c s k h
      ready_choices (tree.body x rest) c s k h = (
        ready_statement x c s.0 (λ g i. k g (listed_left g (word_statement_uses x) (word_choices_uses rest) i)) (λ i. h (or_left _ _ i)),
        ready_choices rest c s.1 (λ g i. k g (listed_right g (word_statement_uses x) (word_choices_uses rest) i)) (λ i. h (or_right _ _ i)),
      )
