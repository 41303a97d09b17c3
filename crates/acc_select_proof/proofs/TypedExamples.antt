-- Programs of words and others: the example of well-formed trees is one, and what has a constant or a listed word of 17 bits is none. Places
-- that are far, as the law asks of all of them.
use Rattle.std.proofs.Common.{ℕ, ◌≡◌, ◌<◌, ◌≤◌, [], ◌∷◌, Some, arith}
use Rattle.std.specs.List.{AllByRecursion}
use Rattle.std.proofs.lemmas.List.Elements.{All-from_recursion}
use Rattle.c_tree.specs.declared.program.VarRef.{VarRef}
use Rattle.c_tree.specs.declared.program.VarRef.TheVariants.{Scalar, Local, Static}
use Rattle.c_tree.specs.TypedTree.{Const, Return}
use Rattle.c_tree.proofs.Examples.Types.{int, int_at, words, object, main_with, alone, program}
use Rattle.c_tree.proofs.Examples.WellFormed.{doubles, doubles_main}
use Rattle.ir_semantics.specs.Outside.{Places, address_of}
use Rattle.acc_select_proof.specs.Selecting.{AreFar}
use Rattle.c_tree.specs.TypedOfWords.{FunctionHasWords, ProgramHasWords}
use Rattle.acc_select_proof.proofs.Sides.{some_is}

doubles_functions : AllByRecursion FunctionHasWords doubles.functions
doubles_functions = (record { locals = tt; body = search arith }, (record { locals = search arith; body = search arith }, tt))

doubles_words : ProgramHasWords doubles
doubles_words = record { statics = search arith; functions = All-from_recursion FunctionHasWords doubles.functions doubles_functions }

-- a constant of 17 bits
wide_constant : ProgramHasWords (alone (main_with [] [] (Return (Some (int_at 0 (Const 65536)))))) → ⊥
wide_constant h = let below : 65536 < 65536 = (h.functions 0 doubles_main (omega arith)).body in omega (arith, below)

-- a listed word of 17 bits
wide_word : ProgramHasWords (program (object 1 int (words (65536 ∷ [])) ∷ []) []) → ⊥
wide_word h = let below : 65536 < 65536 = h.statics.0.0 in omega (arith, below)

-- static objects at 512, local ones at 768
abbrev far_places : Places
far_places = record { static = λ k. 512; local = λ f k. 768 }

far_by : (f : ℕ) (v : VarRef) (a : ℕ) → address_of far_places f v ≡ Some a → (16 ≤ a) × (a < 65536)
far_by f (Scalar n) a is = absurd cc
far_by f (Local n) a is = let at : 768 ≡ a = some_is is in (omega (arith, at), omega (arith, at))
far_by f (Static n) a is = let at : 512 ≡ a = some_is is in (omega (arith, at), omega (arith, at))

are_far : (f : ℕ) → AreFar (address_of far_places f)
are_far f = far_by f
