-- The code of each function of a typed program of words is usable.
use Rattle.std.proofs.Common.{◌≡◌, ℕ, ◌-◌, ◌<◌, ◌≤◌, Option, Some, None, refl, sym, ap, ◌∙◌, subst, arith}
use Rattle.std.specs.Prelude.{slice_get, option_map}
use Rattle.std.proofs.lemmas.Option.{slice_get-map}
use Rattle.c_tree.specs.TypedTree.{FunctionTree, ProgramTree}
use Rattle.c_tree.specs.WellFormedProgram.{IsProgram}
use Rattle.c_tree.specs.declared.program.VarRef.{VarRef}
use Rattle.c_tree.specs.declared.program.VarRef.TheVariants.{Scalar, Local, Static}
use Rattle.tree_code.specs.Lowered.{lowered_function, lowered_program}
use Rattle.c_tree.specs.TypedOfWords.{FunctionHasWords, ProgramHasWords}
use Rattle.tree_code.specs.WordTemporaries.{word_statement_temporaries}
use Rattle.tree_code.specs.WordTree.{FunctionCode}
use Rattle.acc_code.specs.AccTree.{ItemList, FunctionItems}
use Rattle.acc_code.specs.Emittable.{Throughout}
use Rattle.acc_select.specs.Selected.{ends_with_return, closed_main, body_items, is_main, selected_function, selected}
use Rattle.ir_semantics.specs.Outside.{Places, address_of}
use Rattle.acc_select_proof.specs.FitStatements.{IsFitStatement}
use Rattle.acc_select_proof.specs.OfWords.{IsOfWords}
use Rattle.acc_select_proof.specs.Selecting.{AreFar}
use Rattle.acc_select_proof.proofs.Mains.{element_of}
use Rattle.acc_select_proof.proofs.Sides.{some_is}
use Rattle.acc_select_proof.proofs.TypedPrograms.{typed_is_of_words}
use Rattle.image_proof.specs.Usable.{IsUsableItem}
use Rattle.image_proof.proofs.Usables.{Usable, both, either, return}
use Rattle.image_proof.proofs.Branches.{number_alone}
use Rattle.image_proof.proofs.Cases.{HasWordCases, lowered_cases}
use Rattle.image_proof.proofs.Statements.{statement_usable}

-- some places for objects, since that a word tree is one of words is said at places; the items don't depend on them
abbrev some_places : Places
some_places = record { static = λ k. 784; local = λ f k. 784 }

far_by : (f : ℕ) (v : VarRef) (a : ℕ) → address_of some_places f v ≡ Some a → (16 ≤ a) × (a < 65536)
far_by f (Scalar n) a is = absurd cc
far_by f (Local n) a is = let at : 784 ≡ a = some_is is in (omega (arith, at), omega (arith, at))
far_by f (Static n) a is = let at : 784 ≡ a = some_is is in (omega (arith, at), omega (arith, at))

are_far : (f : ℕ) → AreFar (address_of some_places f)
are_far f = far_by f

-- a function
closed_usable : (xs : ItemList) → Usable xs → Usable (closed_main xs)
closed_usable xs h = either (ends_with_return xs) h (both h (both (number_alone 0 (omega arith)) return))

module _ (q : Places) (f : ℕ) (g : FunctionCode) (fits : IsFitStatement IsOfWords (address_of q f) q g.locals g.body) (cases : HasWordCases g.body) where
  body_usable : Usable (body_items g)
  body_usable = statement_usable (address_of q f) q g.locals (g.scalars - word_statement_temporaries g.body) g.body fits cases

  function_usable : Usable (selected_function g).body
  function_usable = either (is_main g.name) (closed_usable (body_items g) body_usable) body_usable

module _ (p : ProgramTree) (is : IsProgram p) (words : ProgramHasWords p) where
  from_slot : (f : ℕ) (slot : Option FunctionTree) (g : FunctionItems) → slice_get p.functions f ≡ slot → option_map selected_function (option_map lowered_function slot) ≡ Some g → Throughout IsUsableItem g.body
  from_slot f None g at e = absurd cc
  from_slot f (Some s) g at e =
      let same : selected_function (lowered_function s) ≡ g = some_is e in
      let here : slice_get (lowered_program p).functions f ≡ Some (lowered_function s) = slice_get-map lowered_function p.functions f ∙ ap (option_map lowered_function) at in
      let fits = (typed_is_of_words some_places p is words are_far).bodies f (lowered_function s) here in
      let cases = lowered_cases s.body (element_of FunctionHasWords p.functions words.functions f s at).body in
      subst (λ (h : FunctionItems). Throughout IsUsableItem h.body) same (function_usable some_places f (lowered_function s) fits cases).items

  pub program_usable : (f : ℕ) (g : FunctionItems) → slice_get (selected (lowered_program p)) f ≡ Some g → Throughout IsUsableItem g.body
  program_usable f g at =
      from_slot f (slice_get p.functions f) g refl
      (sym (slice_get-map selected_function (lowered_program p).functions f ∙ ap (option_map selected_function) (slice_get-map lowered_function p.functions f)) ∙ at)
