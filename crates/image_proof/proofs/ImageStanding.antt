-- The functions of a program stand in memory that begins with its image.
use Rattle.std.proofs.Common.{◌≡◌, ◌≢◌, inl, inr, ℕ, zero, suc, ◌+◌, ◌<◌, false, List, [], ◌∷◌, ◌++◌, length, map, Option, Some, refl, sym, ap, ap₂, ◌∙◌, subst, arith, All}
use Rattle.std.specs.Prelude.{AllPairs, slice_get, slice_index, option_map}
use Rattle.std.proofs.lemmas.List.Elements.{All-cons}
use Rattle.std.proofs.lemmas.Option.{same_Some, slice_get-map, slice_get_within}
use Rattle.word_base.specs.Name.{IsName, IsNameStart}
use Rattle.c_tree.specs.SourceRun.{main_name}
use Rattle.c_tree.specs.declared.program.VarRef.{VarRef}
use Rattle.c_tree.specs.declared.program.VarRef.TheVariants.{Scalar, Local, Static}
use Rattle.c_tree.specs.TypedTree.{ObjectTree}
use Rattle.tree_code.specs.WellFormedCode.{IsFunctionCode, IsObjectAmong}
use Rattle.tree_code.specs.WordTree.{FunctionCode}
use Rattle.acc_code.specs.declared.operand.HelperName.{HelperName}
use Rattle.acc_code.specs.declared.operand.HelperName.TheVariants.{DivInt, DivUnsigned, RemInt, RemUnsigned, ShrInt, ShrUnsigned}
use Rattle.acc_code.specs.AccTree.{Helper, FunctionItems}
use Rattle.acc_code.specs.Emittable.{IsPlaced}
use Rattle.acc_select.specs.IsSelected.{IsEmittableFunction}
use Rattle.mem_plan.specs.Plan.{frame_of}
use Rattle.mem_plan.specs.declared.data_plan.DataPlan.{DataPlan}
use Rattle.mem_plan.specs.declared.data_plan.FramePlan.{FramePlan}
use Rattle.c25_isa.specs.declared.piece.PieceItem.TheVariants.{Do}
use Rattle.c25_isa.specs.declared.instruction.Instr.{Instr}
use Rattle.c25_isa.specs.declared.instruction.Instr.TheVariants.{Ssxm}
use Rattle.c25_isa.specs.State as machine
use Rattle.c25_isa.specs.State.{Memory}
use Rattle.c25_isa.specs.Pieces.{Piece}
use Rattle.c25_code.specs.Items.{plain_items}
use Rattle.c25_code.specs.Links.{IsMarkOf, MarksDiffer, PieceIsFit, AllStand, address_of, marks_of, first_piece}
use Rattle.c25_code.proofs.Startups.{startup_marks_fit}
use Rattle.c25_helper.specs.Answering.{AnswerFor, AnswersCalls}
use Rattle.ir_semantics.specs.AccRun.{cells_of}
use Rattle.frame_emit.specs.emit_control.Settings.{helper_name, routine_of, name_or_none}
use Rattle.frame_emit.specs.Emitted.{function_piece, function_pieces, behind_startup}
use Rattle.frame_emit.specs.Startup.{startup_name, startup_piece, statics_items, fillings_code}
use Rattle.emit_blocks.specs.Places.{Places}
use Rattle.emit_proof.specs.Calls.{StandsIn}
use Rattle.image_proof.specs.Emissions.{Emission, IsEmission}
use Rattle.image_proof.specs.ActiveSites.{parameters_of}
use Rattle.image_proof.specs.FunctionWalks.{IsFunctionOf}
use Rattle.image_proof.proofs.Frames.{FrameAt, frame_at}
use Rattle.image_proof.proofs.Placed.{places_long}
use Rattle.image_proof.proofs.Sites.{setting_places}
use Rattle.image_proof.specs.Keeping.{own_pieces, all_pieces, AreUsable}
use Rattle.image_proof.proofs.ImageCalls.{FunctionAt, names_in, setting_in}
use Rattle.image_proof.proofs.Finding.{found_behind, found_later, function_found}
use Rattle.emit_proof.proofs.Pieces.{piece_once, piece_words}
use Rattle.emit_proof.proofs.Words.{piece_has_word}
use Rattle.image_proof.proofs.Helping.{functions_call, some_piece}

-- a dot begins no name of C
no_start : IsNameStart 46 → ⊥
no_start start = elim start [ inl h ↦ absurd (omega (arith, h.0)) | inr h ↦ elim h [ inl k ↦ absurd (omega (arith, k.0)) | inr e ↦ absurd (omega (arith, e)) ] ]

dotted : (name : List ℕ) → slice_index name 0 ≡ 46 → IsName name → ⊥
dotted name dot is = no_start (subst IsNameStart dot is.first)

helper_dot : (h : HelperName) → slice_index (helper_name h) 0 ≡ 46
helper_dot DivInt = refl
helper_dot DivUnsigned = refl
helper_dot RemInt = refl
helper_dot RemUnsigned = refl
helper_dot ShrInt = refl
helper_dot ShrUnsigned = refl

startup_other : (h : HelperName) → startup_name ≢ helper_name h
startup_other DivInt e = cc
startup_other DivUnsigned e = cc
startup_other RemInt e = cc
startup_other RemUnsigned e = cc
startup_other ShrInt e = cc
startup_other ShrUnsigned e = cc

-- the startup's own items have one mark
after_filling : (code : List Instr) → MarksDiffer (plain_items code ++ Do Ssxm ∷ [])
after_filling [] = tt
after_filling (i ∷ is) = after_filling is

no_filling_mark : (code : List Instr) → IsMarkOf 0 (plain_items code ++ Do Ssxm ∷ []) → ⊥
no_filling_mark [] h = h
no_filling_mark (i ∷ is) h = no_filling_mark is h

startup_differs : (statics : List ℕ) (os : List ObjectTree) → MarksDiffer (statics_items statics os ++ Do Ssxm ∷ [])
startup_differs statics [] = tt
startup_differs statics (o ∷ os) = (no_filling_mark (fillings_code statics statics (o ∷ os)), after_filling (fillings_code statics statics (o ∷ os)))

pub startup_fits : (statics : List ℕ) (os : List ObjectTree) → PieceIsFit (startup_piece statics os)
startup_fits statics os = startup_marks_fit (statics_items statics os ++ Do Ssxm ∷ []) main_name (startup_differs statics os)

-- names of functions' pieces are those of their items
piece_names : (plan : DataPlan) (step : ℕ) (parameters names : List (List ℕ)) (P : List ℕ → Type 0) (fs : List FunctionCode) (gs : List FunctionItems) (frames : List FramePlan) (arrangements : List (List (List ℕ)))
    → All P (map (λ (g : FunctionItems). g.name) gs) → All P (map (λ (p : Piece). p.name) (function_pieces plan step parameters names fs gs frames arrangements))
piece_names plan step parameters names P [] gs frames arrangements all = λ k d within. absurd (omega (arith, within))
piece_names plan step parameters names P (f ∷ fs) [] frames arrangements all = λ k d within. absurd (omega (arith, within))
piece_names plan step parameters names P (f ∷ fs) (g ∷ gs) [] arrangements all = λ k d within. absurd (omega (arith, within))
piece_names plan step parameters names P (f ∷ fs) (g ∷ gs) (frame ∷ frames) [] all = λ k d within. absurd (omega (arith, within))
piece_names plan step parameters names P (f ∷ fs) (g ∷ gs) (frame ∷ frames) (lists ∷ rest) all =
    All-cons P g.name (map (λ (p : Piece). p.name) (function_pieces plan step parameters names fs gs frames rest)) (all 0 g.name (omega arith))
    (piece_names plan step parameters names P fs gs frames rest (λ k d within. all (suc k) d (omega (arith, within))))

-- the names of items are those of the functions
item_names : (fs : List FunctionCode) (gs : List FunctionItems) → length gs ≡ length fs → ((k : ℕ) (f : FunctionCode) (g : FunctionItems) → slice_get fs k ≡ Some f → slice_get gs k ≡ Some g → g.name ≡ f.name)
    → map (λ (f : FunctionCode). f.name) fs ≡ map (λ (g : FunctionItems). g.name) gs
item_names [] [] count each = refl
item_names [] (g ∷ gs) count each = absurd (omega (arith, count))
item_names (f ∷ fs) [] count each = absurd (omega (arith, count))
item_names (f ∷ fs) (g ∷ gs) count each = ap₂ (λ n ns. n ∷ ns) (sym (each 0 f g refl refl)) (item_names fs gs (omega (arith, count)) (λ k. each (suc k)))

pub there_by : {A : Type 0} (xs : List A) (k : ℕ) → k < length xs → (x : A) × (slice_get xs k ≡ Some x)
there_by [] k less = absurd (omega (arith, less))
there_by (x ∷ xs) zero less = (x, refl)
there_by (x ∷ xs) (suc k) less = there_by xs k (omega (arith, less))

-- one of a list of which all are so
each_of : {A : Type 0} (P : A → Type 0) (xs : List A) → All P xs → (k : ℕ) (x : A) → slice_get xs k ≡ Some x → P x
each_of P [] all k x is = absurd cc
each_of P (y ∷ ys) all zero x is = subst P (same_Some y x is) (all 0 y (omega arith))
each_of P (y ∷ ys) all (suc k) x is = each_of P ys (λ i d within. all (suc i) d (omega (arith, within))) k x is

-- local objects are short
short_local : (statics locals : List ObjectTree) → All (IsObjectAmong statics) locals → (j n : ℕ) → cells_of locals (Local j) ≡ Some n → n < 32768
short_local statics [] all j n is = absurd cc
short_local statics (o ∷ os) all zero n is =
    let same : o.length ≡ n = same_Some o.length n is in
    let most = (all 0 o (omega arith)).most in
    omega (arith, same, most)
short_local statics (o ∷ os) all (suc j) n is = short_local statics os (λ i d within. all (suc i) d (omega (arith, within))) j n is

short_cells : (statics locals : List ObjectTree) → All (IsObjectAmong statics) locals → (v : VarRef) (n : ℕ) → cells_of locals v ≡ Some n → n < 32768
short_cells statics locals all (Scalar i) n is = absurd cc
short_cells statics locals all (Local j) n is = short_local statics locals all j n is
short_cells statics locals all (Static i) n is = absurd cc

module _ (e : Emission) (is : IsEmission e) where
  abbrev functions : List Piece
  functions = behind_startup e.code e.items e.plan e.arrangements e.step

  pub names_same : map (λ (f : FunctionCode). f.name) e.code.functions ≡ names_in e
  names_same = item_names e.code.functions e.items is.emittable.count (λ k f g at_f at_g. (is.emittable.each k f g at_f at_g).name)

  are_names : All IsName (names_in e)
  are_names = subst (All IsName) names_same is.code.names

  names_differ : AllPairs (λ a b. a ≢ b) (names_in e)
  names_differ = subst (AllPairs (λ a b. a ≢ b)) names_same is.code.differ

  placed : (k : ℕ) (g : FunctionItems) → slice_get e.items k ≡ Some g → IsPlaced false false false g.body
  placed k g at_g =
      let f = there_by e.code.functions k (let less = slice_get_within e.items k g at_g in let count = is.emittable.count in omega (arith, less, count)) in
      (is.emittable.each k f.0 g f.1 at_g).body.placed

  -- a routine that a function names has a piece that answers for it
  pub routine_answers : (routines : List Piece) → AnswersCalls (own_pieces e) routines → (g : ℕ) (code : FunctionCode) (items : FunctionItems) (frame : FramePlan) (lists : List (List ℕ)) → IsFunctionOf e g code items frame lists → (h : HelperName) → StandsIn (Helper h) items.body
      → AnswerFor (routine_of h) (all_pieces e routines)
  routine_answers routines answers g code items frame lists f h stands =
      let a = answers (routine_of h)
      (some_piece h (startup_piece e.plan.statics e.code.statics) functions
      (functions_call h e.plan e.step (parameters_of e) (names_in e) e.code.functions e.items e.plan.frames e.arrangements g code items frame lists f.code_at f.items_at f.frame_at f.lists_at stands)) in
      record {
        piece = a.piece;
        there =
            found_behind (startup_piece e.plan.statics e.code.statics) (functions ++ routines) (helper_name h) (startup_other h)
            ∙ found_later functions routines (helper_name h)
            (piece_names e.plan e.step (parameters_of e) (names_in e) (λ n. n ≢ helper_name h) e.code.functions e.items e.plan.frames e.arrangements (λ k d within same. dotted (helper_name h) (helper_dot h) (subst IsName same (are_names k d within))))
            ∙ a.there;
        fit = a.fit;
        result = a.result;
      }

  module _ (routines : List Piece) (answers : AnswersCalls (own_pieces e) routines) (place : ℕ → ℕ) (usable : AreUsable e) (start : machine.State) (program : Memory) (stand : AllStand program place (all_pieces e routines)) where
    module _ (g : ℕ) (less : g < length e.code.functions) where
      at_frame : FrameAt e g
      at_frame = frame_at e is g less

      at_items : (x : FunctionItems) × (slice_get e.items g ≡ Some x)
      at_items = there_by e.items g (let count = is.emittable.count in omega (arith, less, count))

      abbrev frame : FramePlan
      frame = frame_of at_frame.code at_frame.lists at_frame.start

      emittable : IsEmittableFunction e.code at_frame.code at_items.0
      emittable = is.emittable.each g at_frame.code at_items.0 at_frame.there at_items.1

      is_name : IsName (at_items.0).name
      is_name = each_of IsName (names_in e) are_names g (at_items.0).name (slice_get-map (λ (x : FunctionItems). x.name) e.items g ∙ ap (option_map (λ (x : FunctionItems). x.name)) at_items.1)

      found : first_piece (all_pieces e routines) (at_items.0).name ≡ Some (function_piece e.plan e.step (parameters_of e) (names_in e) at_frame.code at_items.0 frame at_frame.lists)
      found =
          found_behind (startup_piece e.plan.statics e.code.statics) (functions ++ routines) (at_items.0).name (λ same. dotted startup_name refl (subst IsName (sym same) is_name))
          ∙ function_found e.plan e.step (parameters_of e) (names_in e) e.code.functions e.items e.plan.frames e.arrangements routines g at_frame.code at_items.0 frame at_frame.lists names_differ at_frame.there at_items.1 at_frame.framed at_frame.arranged

      pub function_at : FunctionAt e start program (address_of place (all_pieces e routines)) g
      function_at =
          let m = setting_in e at_frame.code frame at_frame.lists in
          let body = (at_items.0).body in
          let there = stand (at_items.0).name _ found (piece_once m body (placed g at_items.0 at_items.1), piece_words m body, piece_has_word m body) in
          record {
            code = at_frame.code;
            items = at_items.0;
            frame = frame;
            lists = at_frame.lists;
            marks = marks_of place (all_pieces e routines) (at_items.0).name;
            is_code = at_frame.there;
            is_items = at_items.1;
            is_frame = at_frame.framed;
            is_lists = at_frame.arranged;
            at = there.0;
            fits = there.1;
            usable = usable.by g at_items.0 at_items.1;
            named = ap name_or_none (slice_get-map (λ (x : FunctionItems). x.name) e.items g) ∙ ap (λ (o : Option FunctionItems). name_or_none (option_map (λ (x : FunctionItems). x.name) o)) at_items.1;
            short = short_cells e.code.statics (at_frame.code).locals (each_of (IsFunctionCode e.code) e.code.functions is.code.functions g at_frame.code at_frame.there).locals;
            scalars = λ active kept stack.
                emittable.scalars ∙ sym (places_long at_frame.lists frame.bases 0 (at_frame.code).scalars)
                ∙ ap (λ (p : Places). length p.scalars) (setting_places e g active at_frame.code frame at_frame.lists (names_in e) at_frame.there at_frame.framed at_frame.arranged);
            helpers = λ m k h stands.
                let answer = routine_answers routines answers g at_frame.code at_items.0 frame at_frame.lists (record { code_at = at_frame.there; items_at = at_items.1; frame_at = at_frame.framed; lists_at = at_frame.arranged }) h stands in
                let at = stand (helper_name h) answer.piece answer.there answer.fit in
                record { items = answer.piece.items; marks = marks_of place (all_pieces e routines) (helper_name h); at = at.0; result = answer.result };
          }
