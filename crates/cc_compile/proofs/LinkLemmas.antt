-- The pieces of a program, with the routines that they call, meet what linking wants.
use Rattle.std.proofs.Common.{◌≡◌, ◌≢◌, ◌⊎◌, inl, inr, ℕ, suc, ◌+◌, ◌∙◌, Bool, true, false, List, [], ◌∷◌, ◌++◌, length, map, refl, sym, ap, subst, arith, All}
use Rattle.std.specs.Prelude.{slice_get, slice_index_or, if◌then◌else◌, cond, Option, Some, None, option_map}
use Rattle.std.proofs.Math.Logic.{∥∥₁_map}
use Rattle.std.proofs.lemmas.List.{length-map}
use Rattle.std.proofs.lemmas.List.Elements.{All-append, All-cons, All-nil, All-filter}
use Rattle.std.proofs.lemmas.List.Sums.{sum_by-append}
use Rattle.std.proofs.lemmas.Option.{slice_get-map}
use Rattle.word_base.specs.Name.{IsName}
use Rattle.c_tree.specs.declared.program.VarRef.{VarRef}
use Rattle.c_tree.specs.SourceRun.{main_name}
use Rattle.c_tree.specs.TypedTree.{ObjectTree}
use Rattle.c_tree.specs.Uses.{called}
use Rattle.tree_code.specs.WordHelpers.{uses_helper}
use Rattle.tree_code.specs.WordUses.{word_statement_uses}
use Rattle.tree_code.specs.WordTree.{FunctionCode, ProgramCode}
use Rattle.tree_code.specs.WellFormedCode.{IsCode, parameter_count}
use Rattle.acc_code.specs.AccTree.{FunctionItems}
use Rattle.acc_code.specs.declared.operand.HelperName.{HelperName}
use Rattle.acc_code.specs.Emittable.{IsThereFor, RefersRight}
use Rattle.image_proof.specs.acc_select.IsSelected.{IsEmittable, IsEmittableFunction, called_parameters, is_listed, object_cells}
use Rattle.image_proof.specs.acc_select.Selected.{selected, selected_function}
use Rattle.frame_layouts.specs.mem_plan.declared.data_plan.DataPlan.{DataPlan}
use Rattle.frame_layouts.specs.mem_plan.declared.data_plan.FramePlan.{FramePlan}
use Rattle.frame_layouts.specs.mem_plan.Plan.{IsPlan}
use Rattle.c25_isa.specs.declared.instruction.Instr.{Instr}
use Rattle.c25_isa.specs.declared.instruction.Instr.TheVariants.{Idle, Ssxm}
use Rattle.c25_isa.specs.declared.piece.PieceItem.TheVariants.{Do, CallTo}
use Rattle.c25_isa.specs.Pieces.{Piece}
use Rattle.c25_code.specs.Items.{no_change, plain_items}
use Rattle.c25_code.specs.Naming.{HasItsMarks, names_called, CallsPieces}
use Rattle.image_proof.specs.c25_helper.Calls.{pieces_call, called_helper_pieces}
use Rattle.image_proof.specs.c25_helper.Names.{CallsNone}
use Rattle.image_proof.specs.c25_helper.Routines.{helper_pieces}
use Rattle.c25_link.specs.Linking.{AreLinkable}
use Rattle.image_proof.specs.frame_emit.emit_control.Cuts.{function_items}
use Rattle.image_proof.specs.frame_emit.emit_control.Settings.{Setting, helper_name, name_or_none}
use Rattle.size_proof.specs.emit_proof.Calls.{IsNameOf}
use Rattle.size_proof.proofs.emit_proof.Pieces.{piece_calls}
use Rattle.image_proof.specs.frame_emit.Emitted.{function_piece, function_pieces, setting_of, behind_startup}
use Rattle.image_proof.specs.frame_emit.Frames.{all_parameters}
use Rattle.image_proof.specs.frame_emit.Startup.{startup_name, startup_piece, fillings_code}
use Rattle.image_proof.proofs.frame_emit.Naming.{their_names, no_name}
use Rattle.frame_layouts.specs.Frames.{layout_of}
use Rattle.cc_compile.specs.Images.{FrameJobs, own_pieces, all_pieces, layouts}
use Rattle.cc_compile.proofs.NameLemmas.{known_either, same}
use Rattle.cc_compile.proofs.LayoutLemmas.{all_based}
use Rattle.cc_compile.proofs.TranslationLemmas.{element_at}
use Rattle.cc_compile.proofs.PieceLemmas.{known_names, pieces_linkable}
use Rattle.cc_compile.proofs.MarkLemmas.{all_placed, startup_marks, functions_marks}
use Rattle.cc_compile.proofs.CallLemmas.{times, other_name, index_is, pieces_never, pieces_once, begins_with_dot, routines_apart, helper_dot, no_startup, helper_once, each_called, pieces_called}

-- a name is that of a function of the program, or of a routine
abbrev Known : ProgramCode → List ℕ → Type 0
Known p name = ((k : ℕ) × (f : FunctionCode) × (slice_get p.functions k ≡ Some f) × (f.name ≡ name)) ⊎ ((h : HelperName) × (helper_name h ≡ name))

-- the names of selected functions are those of the functions
selected_names : (fs : List FunctionCode) → map (λ (g : FunctionItems). g.name) (map selected_function fs) ≡ map (λ (f : FunctionCode). f.name) fs
selected_names [] = refl
selected_names (f ∷ fs) = ap (λ ns. f.name ∷ ns) (selected_names fs)

module _ (scalars : ℕ) (cells : VarRef → Option ℕ) (parameters : ℕ → Option ℕ) (helps : Bool) where
  there_for : (b : Bool) (found : Option FunctionCode) → IsThereFor scalars cells parameters helps (if b then parameter_count found else None) → (f : FunctionCode) × (found ≡ Some f)
  there_for true (Some f) there = (f, refl)
  there_for true None there = absurd there
  there_for false found there = absurd there

known_name : (p : ProgramCode) (f : FunctionCode) (scalars : ℕ) (helps : Bool) (m : Setting) (name : List ℕ) → m.names ≡ map (λ (f : FunctionCode). f.name) p.functions
    → IsNameOf (RefersRight scalars (object_cells p f) (called_parameters p f) helps) m name → Known p name
known_name p f scalars helps m name names (inl (k, there, is)) =
    let found = there_for scalars (object_cells p f) (called_parameters p f) helps (is_listed k (called (word_statement_uses f.body))) (slice_get p.functions k) there in
    inl (
      k,
      found.0,
      found.1,
      sym (is ∙ ap (λ ns. name_or_none (slice_get ns k)) names ∙ ap name_or_none (slice_get-map (λ (f : FunctionCode). f.name) p.functions k) ∙ ap (λ (o : Option FunctionCode). name_or_none (option_map (λ (f : FunctionCode). f.name) o)) found.1),
    )
known_name p f scalars helps m name names (inr (h, there, is)) = inr (h, sym is)

module _ (p : ProgramCode) (plan : DataPlan) (step : ℕ) (parameters names : List (List ℕ)) (are : names ≡ map (λ (f : FunctionCode). f.name) p.functions) where
  functions_call : (fs : List FunctionCode) (gs : List FunctionItems) (frames : List FramePlan) (arrangements : List (List (List ℕ)))
      → ((k : ℕ) (f : FunctionCode) (g : FunctionItems) → slice_get fs k ≡ Some f → slice_get gs k ≡ Some g → IsEmittableFunction p f g)
      → All (λ (q : Piece). All (Known p) (names_called q.items)) (function_pieces plan step parameters names fs gs frames arrangements)
  functions_call [] gs frames arrangements each = All-nil _
  functions_call (f ∷ fs) [] frames arrangements each = All-nil _
  functions_call (f ∷ fs) (g ∷ gs) [] arrangements each = All-nil _
  functions_call (f ∷ fs) (g ∷ gs) (frame ∷ frames) [] each = All-nil _
  functions_call (f ∷ fs) (g ∷ gs) (frame ∷ frames) (lists ∷ rest) each =
      let m : Setting = setting_of plan step parameters names f frame lists in
      let body = (each 0 f g refl refl).body in
      let refers = RefersRight g.scalars (object_cells p f) (called_parameters p f) (uses_helper f.body) in
      let calls = each_called (IsNameOf refers m) (function_items m g.body) (piece_calls m refers g.body body.placed body.refers) in
      All-cons (λ (q : Piece). All (Known p) (names_called q.items)) (function_piece plan step parameters names f g frame lists) _
      (λ k d within. known_name p f g.scalars (uses_helper f.body) m _ are (calls k d within))
      (functions_call fs gs frames rest (λ k a b. each (suc k) a b))

-- of names that are one, or none
one_called : (P : List ℕ → Type 0) (ns : List (List ℕ)) (name : List ℕ) → ns ≡ name ∷ [] → P name → All P ns
one_called P ns name is h = subst (All P) (sym is) (All-cons P name [] h (All-nil P))

none_called : (P : List ℕ → Type 0) (ns : List (List ℕ)) → ns ≡ [] → All P ns
none_called P ns is = subst (All P) (sym is) (All-nil P)

-- the startup calls `main` alone
startup_calls : (statics : List ℕ) (os : List ObjectTree) → names_called (startup_piece statics os).items ≡ main_name ∷ []
startup_calls statics [] = refl
startup_calls statics (o ∷ os) = behind (fillings_code statics statics (o ∷ os))
  where
    behind : (code : List Instr) → names_called ((plain_items code ++ Do Ssxm ∷ []) ++ CallTo main_name no_change ∷ Do Idle ∷ []) ≡ main_name ∷ []
    behind [] = refl
    behind (i ∷ code) = behind code

module _ (o : FrameJobs) (p : ProgramCode) (plan : DataPlan) (known : ∥ IsCode p ∥₁) (emittable : IsEmittable p (selected p)) (each : length o.jobs ≡ length (selected p)) (planned : IsPlan p (layouts o) plan) where
  abbrev functions : List Piece
  functions = behind_startup p (selected p) plan (layouts o) o.step

  abbrev helpers : List Piece
  helpers = called_helper_pieces (own_pieces o p plan)

  abbrev function_names : List (List ℕ)
  function_names = map (λ (f : FunctionCode). f.name) p.functions

  names_are : map (λ (q : Piece). q.name) functions ≡ function_names
  names_are =
      let count : length (selected p) ≡ length p.functions = length-map p.functions selected_function in
      let lists : length (layouts o) ≡ length p.functions = length-map o.jobs layout_of ∙ each ∙ count in
      let based = all_based o.jobs p plan (each ∙ count) planned in
      let frames : length plan.frames ≡ length p.functions = sym (length-map plan.frames _) ∙ ap length based ∙ length-map o.jobs _ ∙ each ∙ count in
      their_names plan o.step (all_parameters p.functions plan.frames (layouts o)) (map (λ (g : FunctionItems). g.name) (selected p)) p.functions (selected p) plan.frames (layouts o) count frames lists
      ∙ selected_names p.functions

  parts : (name : List ℕ) → times name (all_pieces o p plan) ≡ times name (startup_piece plan.statics p.statics ∷ []) + (times name functions + times name helpers)
  parts name =
      sum_by-append _ (startup_piece plan.statics p.statics ∷ []) (functions ++ helpers)
      ∙ ap (λ k. times name (startup_piece plan.statics p.statics ∷ []) + k) (sum_by-append _ functions helpers)

  startup_never : (name : List ℕ) → startup_name ≢ name → times name (startup_piece plan.statics p.statics ∷ []) ≡ 0
  startup_never name differs = ap (λ (b : Bool). 0 + cond b 1 0) (other_name startup_name name differs)

  function_once : (name : List ℕ) (k : ℕ) (f : FunctionCode) → slice_get p.functions k ≡ Some f → f.name ≡ name → IsCode p → times name (all_pieces o p plan) ≡ 1
  function_once name k f there is code =
      let listed : slice_get function_names k ≡ Some name = slice_get-map (λ (f : FunctionCode). f.name) p.functions k ∙ ap (option_map (λ (f : FunctionCode). f.name)) there ∙ ap Some is in
      let at = index_is function_names k name name listed in
      let fine : IsName name = subst IsName at.0 (code.names k name at.1) in
      let first = startup_never name (λ e. no_name (subst IsName (sym e) fine)) in
      let second = pieces_once name functions function_names k names_are code.differ listed in
      let third : times name helpers ≡ 0 = routines_apart name fine (λ (q : Piece). pieces_call q.name (own_pieces o p plan)) in
      omega (arith, parts name, first, second, third)

  routine_once : (h : HelperName) → pieces_call (helper_name h) (own_pieces o p plan) ≡ true → times (helper_name h) (all_pieces o p plan) ≡ 1
  routine_once h calls =
      let first : times (helper_name h) (startup_piece plan.statics p.statics ∷ []) ≡ 0 = ap (λ (b : Bool). 0 + cond b 1 0) (no_startup h) in
      let second = pieces_never (helper_name h) functions function_names names_are (λ k d within e. begins_with_dot (helper_name h) (helper_dot h) (subst IsName e (known_names p known k d within))) in
      let third = helper_once h (own_pieces o p plan) calls in
      omega (arith, parts (helper_name h), first, second, third)

  known_once : (name : List ℕ) → Known p name → pieces_call name (own_pieces o p plan) ≡ true → times name (all_pieces o p plan) ≡ 1
  known_once name (inl (k, f, there, is)) calls = known_either (same (times name (all_pieces o p plan)) 1) (∥∥₁_map known (function_once name k f there is))
  known_once name (inr (h, is)) calls = subst (λ n. times n (all_pieces o p plan) ≡ 1) is (routine_once h (subst (λ n. pieces_call n (own_pieces o p plan) ≡ true) (sym is) calls))

  main_once : times main_name (all_pieces o p plan) ≡ 1
  main_once =
      known_either (same (times main_name (all_pieces o p plan)) 1) (∥∥₁_map known (λ (code : IsCode p).
      let main = code.main in
      function_once main_name main.0 main.1 (element_at p.functions main.0 main.1 main.2 ∙ ap Some main.3) main.4.name code))

  abbrev parameters : List (List ℕ)
  parameters = all_parameters p.functions plan.frames (layouts o)

  abbrev names : List (List ℕ)
  names = map (λ (g : FunctionItems). g.name) (selected p)

  startup_right : CallsPieces (all_pieces o p plan) (startup_piece plan.statics p.statics).items
  startup_right = one_called (λ name. times name (all_pieces o p plan) ≡ 1) (names_called (startup_piece plan.statics p.statics).items) main_name (startup_calls plan.statics p.statics) main_once

  functions_right : All (λ (q : Piece). CallsPieces (all_pieces o p plan) q.items) functions
  functions_right = λ k d within j e inside.
      known_once _ (functions_call p plan o.step parameters names (selected_names p.functions) p.functions (selected p) plan.frames (layouts o) emittable.each k d within j e inside)
      (pieces_called (own_pieces o p plan) (suc k) d (omega (arith, within)) j e inside)

  helpers_right : All (λ (q : Piece). CallsNone q.items) helper_pieces → All (λ (q : Piece). CallsPieces (all_pieces o p plan) q.items) helper_pieces
  helpers_right none = λ k d within. none_called (λ name. times name (all_pieces o p plan) ≡ 1) (names_called (slice_index_or helper_pieces k d).items) (none k d within)

  pub are_linkable : All (λ (q : Piece). HasItsMarks q.items) helper_pieces → All (λ (q : Piece). CallsNone q.items) helper_pieces → AreLinkable (all_pieces o p plan)
  are_linkable marks none =
      let own : List Piece = own_pieces o p plan in
      let first : Piece = startup_piece plan.statics p.statics in
      let test = λ (q : Piece). pieces_call q.name own in
      record {
        marks =
            All-append (λ (q : Piece). HasItsMarks q.items) own helpers
            (All-cons (λ (q : Piece). HasItsMarks q.items) first functions (startup_marks plan.statics p.statics) (functions_marks plan o.step parameters names p.functions (selected p) plan.frames (layouts o) (all_placed p (selected p) emittable)))
            (All-filter test (λ (q : Piece). HasItsMarks q.items) helper_pieces marks);
        calls =
            All-append (λ (q : Piece). CallsPieces (all_pieces o p plan) q.items) own helpers
            (All-cons (λ (q : Piece). CallsPieces (all_pieces o p plan) q.items) first functions startup_right functions_right)
            (All-filter test (λ (q : Piece). CallsPieces (all_pieces o p plan) q.items) helper_pieces (helpers_right none));
        listed = pieces_linkable o p plan known;
      }
