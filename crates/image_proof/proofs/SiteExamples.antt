-- A function that gives a word to another one, in the plan.
use Rattle.std.proofs.Common.{◌≡◌, ℕ, zero, suc, false, [], ◌∷◌, refl, Some, None}
use Rattle.c_tree.specs.declared.program.VarRef.TheVariants.{Scalar}
use Rattle.tree_code.specs.WordTree as tree
use Rattle.tree_code.specs.WordTree.{Node, FunctionCode, ProgramCode}
use Rattle.mem_plan.specs.Plan.{plan_of}
use Rattle.emit_proof.specs.Standing.{scalar_address, parameter_address}
use Rattle.ir_semantics.specs.Outside.{Frame}
use Rattle.image_proof.specs.Emissions.{Emission}
use Rattle.image_proof.specs.Active.{back_of}
use Rattle.image_proof.specs.ActiveSites.{site_places, site_counts, is_live}
use Rattle.image_proof.specs.Beginnings.{nothing_kept}
use Rattle.image_proof.specs.Kept.{kept_for, stack_in}

abbrev caller : FunctionCode
caller = record { name = 109 ∷ []; scalars = 2; params = []; locals = []; body = tree.Do_expr (Node (tree.Call 1 (tree.more (Node (tree.Const 5) 0) tree.none)) 0) }

abbrev callee : FunctionCode
callee = record { name = 102 ∷ []; scalars = 1; params = Scalar 0 ∷ []; locals = []; body = tree.Return None }

abbrev program : ProgramCode
program = record { statics = []; functions = caller ∷ callee ∷ [] }

-- the frame of the second one begins behind the three words of the first
abbrev begin : ℕ → ℕ
begin zero = 0
begin (suc f) = 3

abbrev emission : Emission
emission = record {
  code = program;
  items = [];
  plan = plan_of program (((1 ∷ 0 ∷ []) ∷ []) ∷ ((0 ∷ []) ∷ []) ∷ []) begin;
  arrangements = ((1 ∷ 0 ∷ []) ∷ []) ∷ ((0 ∷ []) ∷ []) ∷ [];
  step = 1;
}

first_scalar : scalar_address (site_places emission (0 ∷ [])) 0 ≡ 785
first_scalar = refl

second_scalar : scalar_address (site_places emission (0 ∷ [])) 1 ≡ 784
second_scalar = refl

word_of_parameter : parameter_address (site_places emission (0 ∷ [])) 1 0 ≡ 787
word_of_parameter = refl

scalar_of_callee : scalar_address (site_places emission (1 ∷ 0 ∷ [])) 0 ≡ 787
scalar_of_callee = refl

one_parameter : site_counts emission (0 ∷ []) 1 ≡ 1
one_parameter = refl

calls_no_other : site_counts emission (1 ∷ 0 ∷ []) 0 ≡ 0
calls_no_other = refl

back_of_caller : back_of emission 0 ≡ Some 786
back_of_caller = refl

no_back : back_of emission 1 ≡ None
no_back = refl

-- while the callee runs, its caller's first scalar is known and its second isn't
abbrev frame : Frame
frame zero = Some 7
frame (suc n) = None

keeps_first : kept_for emission 1 (0 ∷ []) frame 100 nothing_kept 785 ≡ Some 7
keeps_first = refl

keeps_no_second : kept_for emission 1 (0 ∷ []) frame 100 nothing_kept 784 ≡ None
keeps_no_second = refl

-- the return address of the caller is in its word, that of the callee on the hardware stack
keeps_return : kept_for emission 0 [] frame 100 nothing_kept 786 ≡ Some 100
keeps_return = refl

stack_of_caller : stack_in (back_of emission 0) 100 [] ≡ []
stack_of_caller = refl

stack_of_callee : stack_in (back_of emission 1) 100 [] ≡ 100 ∷ []
stack_of_callee = refl

no_object : is_live emission (1 ∷ 0 ∷ []) 787 ≡ false
no_object = refl
