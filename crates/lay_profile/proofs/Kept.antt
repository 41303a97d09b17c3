-- What is said of accumulator code as what is said of the typed program.
use Rattle.std.proofs.Common.{◌≡◌, ◌∙◌, ℕ, List, [], ◌∷◌, map, refl, sym, ap, subst}
use Rattle.acc_code.specs.AccTree.{FunctionItems}
use Rattle.acc_code.specs.AccView.{function_items_of}
use Rattle.acc_code.specs.declared.program.AccFunction.{AccFunction}
use Rattle.c25_isa.specs.Image.{Contents}
use Rattle.lay_model.specs.Sequences.{Sequence}
use Rattle.tree_code.specs.Lowered.{lowered_function, lowered_program}
use Rattle.cc_compile.specs.c_tree.TypedTree.{FunctionTree, ProgramTree}
use Rattle.cc_compile.specs.c_tree.WellFormedProgram.{IsProgram}
use Rattle.cc_compile.specs.image_proof.acc_select.Selected.{selected, selected_function}
use Rattle.cc_compile.specs.image_proof.acc_select_proof.SourceSequences.{at_step, source_sequence}
use Rattle.cc_compile.specs.Compiles.{names_of}
use Rattle.lay_profile.specs.Shapes.{AreShapes, HasShapeOf, accesses_of}

-- names stay as they are
names_kept : (fs : List FunctionTree) → map (λ (g : FunctionItems). g.name) (map selected_function (map lowered_function fs)) ≡ map (λ (f : FunctionTree). f.name) fs
names_kept [] = refl
names_kept (f ∷ fs) = ap (λ names. f.name ∷ names) (names_kept fs)

item_names : (fs : List AccFunction) → map (λ (f : AccFunction). f.name) fs ≡ map (λ (g : FunctionItems). g.name) (map function_items_of fs)
item_names [] = refl
item_names (f ∷ fs) = ap (λ names. f.name ∷ names) (item_names fs)

pub same_names : (fs : List AccFunction) (gs : List FunctionItems) (t : ProgramTree) → map function_items_of fs ≡ gs → gs ≡ selected (lowered_program t) → map (λ (f : AccFunction). f.name) fs ≡ names_of t
same_names fs gs t are chosen = item_names fs ∙ ap (map (λ (g : FunctionItems). g.name)) (are ∙ chosen) ∙ names_kept t.functions

abbrev pub SequencesKept : Type 0
SequencesKept = (step : ℕ) (t : ProgramTree) → ∥ IsProgram t ∥₁ → map (at_step step) (selected (lowered_program t)) ≡ map (source_sequence step) t.functions

pub same_accesses : SequencesKept → (gs : List FunctionItems) (t : ProgramTree) → ∥ IsProgram t ∥₁ → gs ≡ selected (lowered_program t) → map (at_step 1) gs ≡ accesses_of t
same_accesses kept gs t known chosen = ap (map (at_step 1)) chosen ∙ kept 1 t known

pub shapes_kept : (image : Contents) (names : List (List ℕ)) (seqs : List Sequence) (t : ProgramTree) → names ≡ names_of t → seqs ≡ accesses_of t → AreShapes image names seqs → HasShapeOf image t
shapes_kept image names seqs t same alike are = subst (λ (ns : List (List ℕ)). AreShapes image ns (accesses_of t)) same (subst (AreShapes image names) alike are)

pub shapes_back : (image : Contents) (names : List (List ℕ)) (seqs : List Sequence) (t : ProgramTree) → names ≡ names_of t → seqs ≡ accesses_of t → HasShapeOf image t → AreShapes image names seqs
shapes_back image names seqs t same alike are = subst (λ (ns : List (List ℕ)). AreShapes image ns seqs) (sym same) (subst (AreShapes image (names_of t)) (sym alike) are)
