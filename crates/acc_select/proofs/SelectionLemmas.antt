-- What holds of the code of each program of word trees.
use Rattle.std.proofs.Common.{◌≡◌, ◌≤◌, ◌<◌, ℕ, List, length, map, subst, sym, arith}
use Rattle.std.specs.Prelude.{All, get_or, map}
use Rattle.std.proofs.lemmas.List.{get_or-map, length-map}
use Rattle.std.proofs.Math.Bridge.{le_prop}
use Rattle.std.proofs.Math.Logic.{∥∥₁_elim}
use Rattle.c_tree.specs.TypedTree.{ObjectTree}
use Rattle.c_tree.specs.View.{object_of}
use Rattle.c_tree.specs.declared.limits.TheConstants.{MOST_CELLS, MOST_FRAME_SCALARS}
use Rattle.c_tree.specs.declared.program.Object.{Object}
use Rattle.acc_code.specs.AccTree.{FunctionItems}
use Rattle.acc_code.specs.AccSequence.{IsInFrame}
use Rattle.acc_select.specs.IsSelected.{IsEmittable}
use Rattle.acc_select.specs.LocalObjects.{HaveFewCells}
use Rattle.acc_select.specs.Selected.{selected}
use Rattle.acc_select.proofs.EmittableTruths.{known_emittable, known_in_frame}
use Rattle.tree_code.specs.declared.program.TreeFunction.{TreeFunction}
use Rattle.tree_code.specs.WordTree.{FunctionCode, ProgramCode}
use Rattle.tree_code.specs.WordView.{function_code_of, word_stmt_of}
use Rattle.tree_code.specs.WellFormedCode.{IsCode, IsFunctionCode, IsObjectAmong}
use Rattle.tree_code.specs.WordTemporaries.{word_statement_temporaries}

-- emission takes the code, and each function's scalars are those of its frame
pub code_emittable : (p : ProgramCode) (gs : List FunctionItems) → gs ≡ selected p → ∥ IsCode p ∥₁ → IsEmittable p gs
code_emittable p gs is known = subst (IsEmittable p) (sym is) (known_emittable p known)

pub code_in_frame : (p : ProgramCode) (gs : List FunctionItems) → gs ≡ selected p → ∥ IsCode p ∥₁ → All IsInFrame gs
code_in_frame p gs is known = subst (All IsInFrame) (sym is) (known_in_frame p known)

few_in : (p : ProgramCode) (f : FunctionCode) → IsFunctionCode p f → word_statement_temporaries f.body ≤ MOST_FRAME_SCALARS
few_in p f is = let fewer = is.temporaries in let few = is.most_scalars in omega (arith, fewer, few)

few_of : (fs : List TreeFunction) → All (λ f. word_statement_temporaries f.body ≤ MOST_FRAME_SCALARS) (map function_code_of fs)
    → All (λ f. word_statement_temporaries (word_stmt_of f.body) ≤ MOST_FRAME_SCALARS) fs
few_of fs h = λ k d within. subst (λ f. word_statement_temporaries f.body ≤ MOST_FRAME_SCALARS) (get_or-map function_code_of fs k d (function_code_of d) within) (h k (function_code_of d) (subst (λ n. k < n) (sym (length-map fs function_code_of)) within))

-- temporaries stay within the most scalars of a frame
pub few_temporaries : (p : ProgramCode) (fs list : List TreeFunction) → p.functions ≡ map function_code_of fs → list ≡ fs → ∥ IsCode p ∥₁
    → All (λ f. word_statement_temporaries (word_stmt_of f.body) ≤ MOST_FRAME_SCALARS) list
few_temporaries p fs list same alike known =
    ∥∥₁_elim known (hlevel le_prop) (λ code. subst (All (λ f. word_statement_temporaries (word_stmt_of f.body) ≤ MOST_FRAME_SCALARS)) (sym alike)
    (few_of fs (subst (All (λ f. word_statement_temporaries f.body ≤ MOST_FRAME_SCALARS)) same
    (λ k d within. few_in p (get_or p.functions k d) (code.functions k d within)))))

-- the list of an object among those of a program isn't longer than an object may be
few_cells_of : (statics : List ObjectTree) (o : ObjectTree) → IsObjectAmong statics o → length o.initial ≤ MOST_CELLS
few_cells_of statics o is = let fewer = is.within in let few = is.most in omega (arith, fewer, few)

few_in_objects : (statics : List ObjectTree) (ls : List Object) → All (IsObjectAmong statics) (map object_of ls) → HaveFewCells ls
few_in_objects statics ls h = λ k d within. subst (λ o. length o.initial ≤ MOST_CELLS) (get_or-map object_of ls k d (object_of d) within)
    (few_cells_of statics (get_or (map object_of ls) k (object_of d)) (h k (object_of d) (subst (λ n. k < n) (sym (length-map ls object_of)) within)))

few_in_functions : (statics : List ObjectTree) (fs : List TreeFunction) → All (λ f. All (IsObjectAmong statics) f.locals) (map function_code_of fs) → All (λ f. HaveFewCells f.locals) fs
few_in_functions statics fs h = λ k d within. few_in_objects statics (get_or fs k d).locals (subst (λ f. All (IsObjectAmong statics) f.locals)
    (get_or-map function_code_of fs k d (function_code_of d) within) (h k (function_code_of d) (subst (λ n. k < n) (sym (length-map fs function_code_of)) within)))

pub few_cells : (p : ProgramCode) (fs list : List TreeFunction) → p.functions ≡ map function_code_of fs → list ≡ fs → ∥ IsCode p ∥₁ → All (λ f. HaveFewCells f.locals) list
few_cells p fs list same alike known =
    ∥∥₁_elim known (hlevel le_prop) (λ code. subst (All (λ f. HaveFewCells f.locals)) (sym alike)
    (few_in_functions p.statics fs (subst (All (λ f. All (IsObjectAmong p.statics) f.locals)) same (λ k d within. (code.functions k d within).locals))))
