-- The pieces of a program, with the routines that they call, are those that linking wants.
use Rattle.std.proofs.Common.{◌≡◌, ℕ, suc, Bool, true, false, List, [], ◌∷◌, map, refl, arith, All}
use Rattle.std.proofs.lemmas.List.Elements.{All-append, All-cons, All-nil, All-filter, All-map}
use Rattle.word_base.specs.Name.{IsName}
use Rattle.tree_code.specs.WordTree.{FunctionCode, ProgramCode}
use Rattle.tree_code.specs.WellFormedCode.{IsCode}
use Rattle.acc_code.specs.AccTree.{FunctionItems}
use Rattle.image_proof.specs.acc_select.Selected.{selected, selected_function}
use Rattle.frame_layouts.specs.mem_plan.declared.data_plan.DataPlan.{DataPlan}
use Rattle.frame_layouts.specs.mem_plan.declared.data_plan.FramePlan.{FramePlan}
use Rattle.c25_isa.specs.Pieces.{Piece}
use Rattle.std.specs.Prelude.{slice_index_or}
use Rattle.image_proof.specs.c25_helper.Calls.{pieces_call}
use Rattle.image_proof.specs.c25_helper.Routines.{all_routines, helper_pieces, routine_piece}
use Rattle.c25_link.specs.Linking.{IsLinkable}
use Rattle.size_proof.proofs.emit_proof.Words.{piece_has_word}
use Rattle.image_proof.specs.frame_emit.Frames.{all_parameters}
use Rattle.image_proof.specs.frame_emit.Startup.{startup_piece}
use Rattle.image_proof.specs.frame_emit.Emitted.{function_piece, function_pieces, setting_of}
use Rattle.std.proofs.Math.Logic.{∥∥₁_map}
use Rattle.cc_compile.proofs.NameLemmas.{known_either, names_either}
use Rattle.cc_compile.specs.Images.{FrameJobs, own_pieces, all_pieces, layouts}

first_of : {A : Type 0} (P : A → Type 0) (x : A) (xs : List A) → All P (x ∷ xs) → P x
first_of P x xs all = all 0 x (omega arith)

others_of : {A : Type 0} (P : A → Type 0) (x : A) (xs : List A) → All P (x ∷ xs) → All P xs
others_of P x xs all = λ k d within. all (suc k) d (omega (arith, within))

-- one that isn't listed
unlisted : (p : Piece) → p.listed ≡ false → IsLinkable p
unlisted p none = record { name = λ listed. absurd (apart p.listed none listed); words = λ listed. absurd (apart p.listed none listed) }
  where
    apart : (b : Bool) → b ≡ false → b ≡ true → ⊥
    apart true e f = cc
    apart false e f = cc

module _ (plan : DataPlan) (step : ℕ) (parameters names : List (List ℕ)) where
  functions_linkable : (fs : List FunctionCode) (frames : List FramePlan) (arrangements : List (List (List ℕ))) → All IsName (map (λ (f : FunctionCode). f.name) fs)
      → All IsLinkable (function_pieces plan step parameters names fs (map selected_function fs) frames arrangements)
  functions_linkable [] frames arrangements are = All-nil IsLinkable
  functions_linkable (f ∷ fs) [] arrangements are = All-nil IsLinkable
  functions_linkable (f ∷ fs) (frame ∷ frames) [] are = All-nil IsLinkable
  functions_linkable (f ∷ fs) (frame ∷ frames) (lists ∷ rest) are =
      All-cons IsLinkable (function_piece plan step parameters names f (selected_function f) frame lists) _
      (record {
        name = λ listed. first_of IsName f.name (map (λ (g : FunctionCode). g.name) fs) are;
        words = λ listed. piece_has_word (setting_of plan step parameters names f frame lists) (selected_function f).body;
      })
      (functions_linkable fs frames rest (others_of IsName f.name (map (λ (g : FunctionCode). g.name) fs) are))

helpers_unlisted : All IsLinkable helper_pieces
helpers_unlisted = All-map IsLinkable routine_piece all_routines (λ k d within. unlisted (routine_piece (slice_index_or all_routines k d)) refl)

pub known_names : (p : ProgramCode) → ∥ IsCode p ∥₁ → All IsName (map (λ (f : FunctionCode). f.name) p.functions)
known_names p known = known_either (names_either (map (λ (f : FunctionCode). f.name) p.functions)) (∥∥₁_map known (λ (is : IsCode p). is.names))

pub pieces_linkable : (o : FrameJobs) (p : ProgramCode) (plan : DataPlan) → ∥ IsCode p ∥₁ → All IsLinkable (all_pieces o p plan)
pieces_linkable o p plan known =
    All-append IsLinkable (own_pieces o p plan) _
    (All-cons IsLinkable (startup_piece plan.statics p.statics) _ (unlisted (startup_piece plan.statics p.statics) refl)
    (functions_linkable plan o.step (all_parameters p.functions plan.frames (layouts o)) (map (λ (g : FunctionItems). g.name) (selected p)) p.functions plan.frames (layouts o) (known_names p known)))
    (All-filter (λ (x : Piece). pieces_call x.name (own_pieces o p plan)) IsLinkable helper_pieces helpers_unlisted)
