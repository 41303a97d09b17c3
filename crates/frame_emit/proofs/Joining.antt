-- Functions one behind another, each with its frame and its lists.
use Rattle.std.proofs.Common.{◌≡◌, ◌∙◌, ℕ, suc, List, [], ◌∷◌, ◌++◌, map, refl, ap, sym, subst, arith, append_assoc, All}
use Rattle.acc_code.specs.declared.program.AccFunction.{AccFunction}
use Rattle.acc_code.specs.AccTree.{FunctionItems}
use Rattle.acc_code.specs.AccView.{function_items_of}
use Rattle.c_tree.specs.TypedTree.{ObjectTree}
use Rattle.c25_isa.specs.Pieces.{Piece}
use Rattle.tree_code.specs.declared.program.TreeFunction.{TreeFunction}
use Rattle.tree_code.specs.WordTree.{FunctionCode}
use Rattle.tree_code.specs.WordView.{function_code_of}
use Rattle.mem_plan.specs.declared.data_plan.DataPlan.{DataPlan}
use Rattle.mem_plan.specs.declared.data_plan.FramePlan.{FramePlan}
use Rattle.emit_blocks.specs.declared.site.ScalarPlace.{ScalarPlace}
use Rattle.emit_control.specs.Settings.{Setting}
use Rattle.frame_emit.specs.Frames.{scalar_places, parameter_addresses, all_parameters}
use Rattle.frame_emit.specs.Emitted.{setting_of, function_piece, function_pieces}

-- what holds of each of some holds of the first one, and of each of the others
pub first_of : {A : Type 0} (P : A → Type 0) (xs : List A) (x : A) (rest : List A) → xs ≡ x ∷ rest → All P xs → P x
first_of P xs x rest is all = subst (λ ys. All P ys) is all 0 x (omega arith)

pub others_of : {A : Type 0} (P : A → Type 0) (xs : List A) (x : A) (rest : List A) → xs ≡ x ∷ rest → All P xs → All P rest
others_of P xs x rest is all = λ k d within. subst (λ ys. All P ys) is all (suc k) d (omega (arith, within))

mapped_last : {A B : Type 0} (f : A → B) (xs : List A) (x : A) → map f (xs ++ x ∷ []) ≡ map f xs ++ f x ∷ []
mapped_last f [] x = refl
mapped_last f (y ∷ xs) x = ap (λ ys. f y ∷ ys) (mapped_last f xs x)

pub mapped_push : {A B : Type 0} (f : A → B) (new old : List A) (x : A) (y : B) → new ≡ old ++ x ∷ [] → f x ≡ y → map f new ≡ map f old ++ y ∷ []
mapped_push f new old x y pushed is = ap (map f) pushed ∙ mapped_last f old x ∙ ap (λ z. map f old ++ z ∷ []) is

-- the parameters of one more function
pub one_more_function : (old new : List (List ℕ)) (row : List ℕ) (all : List (List ℕ)) (trees : List TreeFunction) (tree : TreeFunction) (other_trees : List TreeFunction)
    (frames : List FramePlan) (frame : FramePlan) (other_frames : List FramePlan) (arrangements : List (List (List ℕ))) (lists : List (List ℕ)) (others : List (List (List ℕ)))
    → trees ≡ tree ∷ other_trees → frames ≡ frame ∷ other_frames → arrangements ≡ lists ∷ others
    → new ≡ old ++ row ∷ [] → row ≡ parameter_addresses lists frame (function_code_of tree)
    → old ++ all_parameters (map function_code_of trees) frames arrangements ≡ all
    → new ++ all_parameters (map function_code_of other_trees) other_frames others ≡ all
one_more_function old new row all trees tree other_trees frames frame other_frames arrangements lists others t f a added row_is whole =
    let rest = all_parameters (map function_code_of other_trees) other_frames others in
    let then : all_parameters (map function_code_of trees) frames arrangements ≡ row ∷ rest =
    ap (λ ts. all_parameters (map function_code_of ts) frames arrangements) t
    ∙ ap (λ fs. all_parameters (map function_code_of (tree ∷ other_trees)) fs arrangements) f
    ∙ ap (λ ls. all_parameters (map function_code_of (tree ∷ other_trees)) (frame ∷ other_frames) ls) a
    ∙ ap (λ r. r ∷ rest) (sym row_is) in
    ap (λ n. n ++ rest) added ∙ append_assoc old (row ∷ []) rest ∙ ap (λ x. old ++ x) (sym then) ∙ whole

-- the setting of a function by its parts
abbrev pub the_setting : List ScalarPlace → List ℕ → List ℕ → List (List ℕ) → ℕ → List ℕ → FramePlan → List (List ℕ) → Setting
the_setting scalars statics locals parameters step lengths frame names = record {
  places = record { scalars = scalars; statics = statics; locals = locals; parameters = parameters; step = step };
  lengths = lengths;
  back = frame.back;
  names = names;
}

pub same_setting : (plan : DataPlan) (step : ℕ) (parameters names : List (List ℕ)) (f : FunctionCode) (frame : FramePlan) (lists : List (List ℕ))
    (scalars : List ScalarPlace) (statics locals lengths : List ℕ) (names_too : List (List ℕ))
    → scalars ≡ scalar_places lists frame.bases 0 f.scalars → statics ≡ plan.statics → locals ≡ frame.locals
    → lengths ≡ map (λ (o : ObjectTree). o.length) f.locals → names_too ≡ names
    → the_setting scalars statics locals parameters step lengths frame names_too ≡ setting_of plan step parameters names f frame lists
same_setting plan step parameters names f frame lists scalars statics locals lengths names_too s t l n m =
    ap (λ x. the_setting x statics locals parameters step lengths frame names_too) s
    ∙ ap (λ x. the_setting (scalar_places lists frame.bases 0 f.scalars) x locals parameters step lengths frame names_too) t
    ∙ ap (λ x. the_setting (scalar_places lists frame.bases 0 f.scalars) plan.statics x parameters step lengths frame names_too) l
    ∙ ap (λ x. the_setting (scalar_places lists frame.bases 0 f.scalars) plan.statics frame.locals parameters step x frame names_too) n
    ∙ ap (λ x. the_setting (scalar_places lists frame.bases 0 f.scalars) plan.statics frame.locals parameters step (map (λ (o : ObjectTree). o.length) f.locals) frame x) m

pub same_names : (fs : List AccFunction) → map (λ (f : AccFunction). f.name) fs ≡ map (λ (g : FunctionItems). g.name) (map function_items_of fs)
same_names [] = refl
same_names (f ∷ fs) = ap (λ names. f.name ∷ names) (same_names fs)

-- the piece of one more function
pub one_more_piece : (plan : DataPlan) (step : ℕ) (parameters names : List (List ℕ)) (all old new : List Piece) (piece : Piece)
    (trees : List TreeFunction) (tree : TreeFunction) (other_trees : List TreeFunction)
    (functions : List AccFunction) (function : AccFunction) (other_functions : List AccFunction)
    (frames : List FramePlan) (frame : FramePlan) (other_frames : List FramePlan) (arrangements : List (List (List ℕ))) (lists : List (List ℕ)) (others : List (List (List ℕ)))
    → trees ≡ tree ∷ other_trees → functions ≡ function ∷ other_functions → frames ≡ frame ∷ other_frames → arrangements ≡ lists ∷ others
    → new ≡ old ++ piece ∷ [] → piece ≡ function_piece plan step parameters names (function_code_of tree) (function_items_of function) frame lists
    → all ≡ old ++ function_pieces plan step parameters names (map function_code_of trees) (map function_items_of functions) frames arrangements
    → all ≡ new ++ function_pieces plan step parameters names (map function_code_of other_trees) (map function_items_of other_functions) other_frames others
one_more_piece plan step parameters names all old new piece trees tree other_trees functions function other_functions frames frame other_frames arrangements lists others t g f a added piece_is whole =
    let pieces = function_pieces plan step parameters names in
    let rest = pieces (map function_code_of other_trees) (map function_items_of other_functions) other_frames others in
    let then : pieces (map function_code_of trees) (map function_items_of functions) frames arrangements ≡ piece ∷ rest =
    ap (λ ts. pieces (map function_code_of ts) (map function_items_of functions) frames arrangements) t
    ∙ ap (λ gs. pieces (map function_code_of (tree ∷ other_trees)) (map function_items_of gs) frames arrangements) g
    ∙ ap (λ fs. pieces (map function_code_of (tree ∷ other_trees)) (map function_items_of (function ∷ other_functions)) fs arrangements) f
    ∙ ap (λ ls. pieces (map function_code_of (tree ∷ other_trees)) (map function_items_of (function ∷ other_functions)) (frame ∷ other_frames) ls) a
    ∙ ap (λ p. p ∷ rest) (sym piece_is) in
    whole ∙ ap (λ x. old ++ x) then ∙ sym (append_assoc old (piece ∷ []) rest) ∙ ap (λ n. n ++ rest) (sym added)
