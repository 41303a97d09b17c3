-- The pieces of a program (docs/TRANSLATION.md, "Pieces"): the startup, and one for each function, in order.
use Rattle.std.specs.Prelude.{ℕ, ◌≡◌, true, List, [], ◌∷◌, length, map}
use Rattle.tree_code.specs.WordTree.{FunctionCode, ProgramCode}
use Rattle.acc_code.specs.AccTree.{FunctionItems}
use Rattle.c25_isa.specs.Pieces.{Piece}
use Rattle.mem_plan.specs.declared.data_plan.DataPlan.{DataPlan}
use Rattle.mem_plan.specs.declared.data_plan.FramePlan.{FramePlan}
use Rattle.emit_control.specs.Settings.{Setting}
use Rattle.emit_control.specs.Cuts.{function_items}
use Rattle.frame_emit.specs.Frames.{places_in, all_parameters}
use Rattle.frame_emit.specs.Startup.{startup_piece}

module _ (plan : DataPlan) (step : ℕ) (parameters names : List (List ℕ)) where
  -- what the code of a function is made with
  abbrev pub setting_of : FunctionCode → FramePlan → List (List ℕ) → Setting
  setting_of f frame lists = record {
    places = places_in plan parameters step f frame lists;
    lengths = map (λ o. o.length) f.locals;
    back = frame.back;
    names = names;
  }

  abbrev pub function_piece : FunctionCode → FunctionItems → FramePlan → List (List ℕ) → Piece
  function_piece f g frame lists = record { name = g.name; listed = true; items = function_items (setting_of f frame lists) g.body }

  -- each function with its code, its frame and its lists
  abbrev pub function_pieces : List FunctionCode → List FunctionItems → List FramePlan → List (List (List ℕ)) → List Piece
  function_pieces [] gs frames arrangements = []
  function_pieces (f ∷ fs) [] frames arrangements = []
  function_pieces (f ∷ fs) (g ∷ gs) [] arrangements = []
  function_pieces (f ∷ fs) (g ∷ gs) (frame ∷ frames) [] = []
  function_pieces (f ∷ fs) (g ∷ gs) (frame ∷ frames) (lists ∷ rest) = function_piece f g frame lists ∷ function_pieces fs gs frames rest

-- those of a program
abbrev pub behind_startup : ProgramCode → List FunctionItems → DataPlan → List (List (List ℕ)) → ℕ → List Piece
behind_startup p gs plan arrangements step =
    function_pieces plan step (all_parameters p.functions plan.frames arrangements) (map (λ g. g.name) gs) p.functions gs plan.frames arrangements

abbrev pub emitted : ProgramCode → List FunctionItems → DataPlan → List (List (List ℕ)) → ℕ → List Piece
emitted p gs plan arrangements step = startup_piece plan.statics p.statics ∷ behind_startup p gs plan arrangements step

-- one of each is there for each function
pub record IsCounted (p : ProgramCode) (gs : List FunctionItems) (plan : DataPlan) (arrangements : List (List (List ℕ))) : Type 0 where
  pub functions : length gs ≡ length p.functions
  pub frames : length plan.frames ≡ length p.functions
  pub lists : length arrangements ≡ length p.functions
