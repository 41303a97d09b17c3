-- The objects of a well-formed program have room for their lists.
use Rattle.std.proofs.Common.{◌≡◌, ◌<◌, ℕ, zero, suc, Bool, true, false, cond, List, [], ◌∷◌, length, map, get_or, Option, Some, All, sym, ap, subst, ◌∙◌, arith}
use Rattle.std.specs.Prelude.{slice_get}
use Rattle.std.specs.Str.{bytes_eq}
use Rattle.std.proofs.Math.Bridge.{le_prop}
use Rattle.std.proofs.Math.Logic.{∥∥₁_elim, ∥∥₁_map}
use Rattle.std.proofs.lemmas.List.{get_or-map, length-map}
use Rattle.std.proofs.lemmas.List.Elements.{All-head, All-tail}
use Rattle.c_tree.specs.declared.program.Object.{Object}
use Rattle.c_tree.specs.declared.program.Function.{Function}
use Rattle.c_tree.specs.declared.program.Program.{Program}
use Rattle.c_tree.specs.TypedTree.{FunctionTree, ProgramTree}
use Rattle.c_tree.specs.ProgramView.{program_of}
use Rattle.c_tree.specs.View.{function_of, object_of}
use Rattle.c_tree.specs.SourceRun.{main_of, main_name}
use Rattle.c_tree.specs.WellFormedProgram.{IsFunction}
use Rattle.c_state.specs.Room.{HasRoom}
use Rattle.c_means.proofs.ArrayLemmas.{object_at}
use Rattle.c_means.proofs.Sizes.{get_mapped}

-- what is so of all is so of one
among : {A : Type 0} (P : A → Type 0) (xs : List A) (k : ℕ) (x : A) → All P xs → slice_get xs k ≡ Some x → P x
among P [] k x all at = absurd (cc at)
among P (y ∷ xs) zero x all at = let same : y ≡ x = cc at in subst P same (All-head P y xs all)
among P (y ∷ xs) (suc k) x all at = among P xs k x (All-tail P y xs all) at

one_of : (P : FunctionTree → Type 0) (b : Bool) (g f : FunctionTree) (rest : Option FunctionTree) → P g → (rest ≡ Some f → P f) → cond b (Some g) rest ≡ Some f → P f
one_of P true g f rest here there is = let same : g ≡ f = cc is in subst P same here
one_of P false g f rest here there is = there is

main_among : (P : FunctionTree → Type 0) (fs : List FunctionTree) (f : FunctionTree) → All P fs → main_of fs ≡ Some f → P f
main_among P [] f all is = absurd (cc is)
main_among P (g ∷ gs) f all is =
    one_of P (bytes_eq g.name main_name) g f (main_of gs) (All-head P g gs all) (main_among P gs f (All-tail P g gs all)) is

locals_have_room : (p : ProgramTree) (f : FunctionTree) → IsFunction p f → All HasRoom f.locals
locals_have_room p f is = λ k d within. (is.locals k d within).within

-- the function that runs first
pub main_has_room : (p : Program) (functions : List Function) (f : Function) → functions ≡ p.functions → Some (function_of f) ≡ main_of (map function_of functions)
    → ∥ All HasRoom (map object_of f.locals) ∥₁
main_has_room p functions f all is =
    let found = ap (λ (fs : List Function). main_of (map function_of fs)) (sym all) ∙ sym is in
    ∥∥₁_map p.well_formed (λ whole. locals_have_room (program_of p) (function_of f) (main_among (IsFunction (program_of p)) (map function_of p.functions) (function_of f) whole.functions found))

-- a function of a number
pub called_has_room : (p : Program) (k : ℕ) (f : Function) → slice_get p.functions k ≡ Some f → ∥ All HasRoom (map object_of f.locals) ∥₁
called_has_room p k f at =
    ∥∥₁_map p.well_formed (λ whole. locals_have_room (program_of p) (function_of f)
    (among (IsFunction (program_of p)) (map function_of p.functions) k (function_of f) whole.functions (get_mapped function_of p.functions k f at)))

-- a local object of it
pub local_has_room : (objects seen : List Object) (o : Object) (n : ℕ) → seen ≡ objects → n < length seen → o ≡ get_or seen n o → ∥ All HasRoom (map object_of objects) ∥₁ → HasRoom (object_of o)
local_has_room objects seen o n same within read known =
    ∥∥₁_elim known le_prop (λ all. among HasRoom (map object_of objects) n (object_of o) all (object_at objects seen o n same within read))

-- the static objects
pub statics_have_room : (p : Program) (objects : List Object) → objects ≡ p.statics → All (λ o. HasRoom (object_of o)) objects
statics_have_room p objects same =
    ∥∥₁_elim p.well_formed (hlevel le_prop) (λ whole. λ k d within.
    subst HasRoom (ap (λ (os : List Object). get_or (map object_of os) k (object_of d)) (sym same) ∙ get_or-map object_of objects k d (object_of d) within)
    (whole.statics k (object_of d) (omega (arith, within, length-map p.statics object_of, ap length same))).within)
