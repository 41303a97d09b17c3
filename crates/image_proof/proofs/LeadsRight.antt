-- The jumps of each function's range lead to first words of its instructions, and its calls to those of functions and of routines.
use Rattle.std.proofs.Common.{◌≡◌, ◌⊎◌, inl, inr, ℕ, ◌<◌, ◌≤◌, Bool, true, false, List, [], ◌∷◌, length, Option, Some, None, refl, sym, ap, ◌∙◌, subst, arith}
use Rattle.std.specs.Prelude.{slice_get, if◌then◌else◌, option_map}
use Rattle.std.proofs.lemmas.Option.{slice_get-map, slice_get_within}
use Rattle.tree_code.specs.WordHelpers.{uses_helper}
use Rattle.tree_code.specs.WordTree.{FunctionCode}
use Rattle.tree_code.specs.WellFormedCode.{parameter_count}
use Rattle.tree_code.specs.WordUses.{word_statement_uses}
use Rattle.c_tree.specs.Uses.{called}
use Rattle.acc_code.specs.declared.operand.HelperName.{HelperName}
use Rattle.acc_code.specs.AccTree.{FunctionItems, Call}
use Rattle.acc_code.specs.Emittable.{IsThereFor, RefersRight}
use Rattle.image_proof.specs.acc_select.IsSelected.{is_listed, object_cells, called_parameters}
use Rattle.mem_plan.specs.declared.data_plan.FramePlan.{FramePlan}
use Rattle.mem_plan.specs.Plan.{frame_of}
use Rattle.c25_isa.specs.declared.piece.PieceItem.{PieceItem}
use Rattle.c25_isa.specs.declared.piece.PieceItem.TheVariants.{Do, Mark, Jump, CallTo}
use Rattle.c25_isa.specs.Image.{Contents}
use Rattle.c25_isa.specs.Step.{wrap16}
use Rattle.c25_isa.specs.Pieces.{Piece, Linked, PiecesFit, address_in, items_size, range_of}
use Rattle.image_proof.specs.c25_helper.Answering.{AnswerFor, AnswersCalls}
use Rattle.image_proof.specs.emit_control.Cuts.{function_items}
use Rattle.image_proof.specs.emit_control.Settings.{Setting, function_name, helper_name, name_or_none, routine_of}
use Rattle.image_proof.specs.emit_proof.Calls.{CallsAre, IsNameOf, StandsIn}
use Rattle.image_proof.specs.frame_emit.Emitted.{function_piece}
use Rattle.image_proof.specs.ActiveSites.{parameters_of}
use Rattle.image_proof.specs.Emissions.{Emission, IsEmission}
use Rattle.image_proof.specs.Keeping.{own_pieces, all_pieces}
use Rattle.image_proof.specs.FunctionWalks.{IsFunctionOf}
use Rattle.image_proof.specs.Leading.{JumpsWithin, BeginsRange, BeginsRoutine, CallsRight, HasTargets}
use Rattle.image_proof.proofs.emit_proof.Words.{piece_has_word}
use Rattle.image_proof.proofs.Frames.{FrameAt, frame_at}
use Rattle.image_proof.proofs.FunctionWalks.{right, room_there, code_is}
use Rattle.image_proof.proofs.Functions.{function_is, range_there}
use Rattle.image_proof.proofs.ImageCalls.{names_in, setting_in}
use Rattle.image_proof.proofs.ImageStanding.{there_by, routine_answers}
use Rattle.image_proof.proofs.Items.{each_item}
use Rattle.image_proof.proofs.JumpsWithin.{calls_lead, piece_jumps_within}
use Rattle.image_proof.proofs.Located.{marks_at, name_addresses, first_placed}
use Rattle.image_proof.proofs.NamedCalls.{function_by_names}

-- what holds of names holds of each name that is called
calls_more : (P Q : List ℕ → Type 0) (items : List PieceItem) → ((name : List ℕ) → P name → Q name) → CallsAre P items → CallsAre Q items
calls_more P Q [] more all = tt
calls_more P Q (Do i ∷ items) more all = calls_more P Q items more all
calls_more P Q (Mark mark ∷ items) more all = calls_more P Q items more all
calls_more P Q (Jump op to o ∷ items) more all = calls_more P Q items more all
calls_more P Q (CallTo name o ∷ items) more all = (more name all.0, calls_more P Q items more all.1)

module _ (e : Emission) (routines : List Piece) (answers : AnswersCalls (own_pieces e) routines) (image : Contents) (h : IsEmission e) (linked : Linked (all_pieces e routines) image) (fit : PiecesFit (all_pieces e routines)) (size : length image.words ≤ 65536) where
  abbrev names : List ℕ → ℕ
  names = name_addresses linked.place (all_pieces e routines)

  -- a function that may be called is one of the program
  called_there : (code : FunctionCode) (j : ℕ) (scalars : ℕ) → IsThereFor scalars (object_cells e.code code) (called_parameters e.code code) (uses_helper code.body) (called_parameters e.code code j) → (f : FunctionCode) × (slice_get e.code.functions j ≡ Some f)
  called_there code j scalars there = by (is_listed j (called (word_statement_uses code.body))) (slice_get e.code.functions j) there
    where
      by : (b : Bool) (o : Option FunctionCode) → IsThereFor scalars (object_cells e.code code) (called_parameters e.code code) (uses_helper code.body) (if b then parameter_count o else None) → (f : FunctionCode) × (o ≡ Some f)
      by true None there = absurd there
      by true (Some f) there = (f, refl)
      by false o there = absurd there

  -- a function of the program begins a range where its name is
  function_begins : (code : FunctionCode) (frame : FramePlan) (lists : List (List ℕ)) (j : ℕ) → j < length e.code.functions → BeginsRange image (names (function_name (setting_in e code frame lists) j))
  function_begins code frame lists j less =
      let at : FrameAt e j = frame_at e h j less in
      let items = there_by e.items j (let count = h.emittable.count in omega (arith, less, count)) in
      let g : FunctionItems = items.0 in
      let framed = frame_of at.code at.lists at.start in
      let f : IsFunctionOf e j at.code g framed at.lists = record { code_at = at.there; items_at = items.1; frame_at = at.framed; lists_at = at.arranged } in
      let is = function_is e routines image j at.code g framed at.lists h linked fit size f in
      let named : function_name (setting_in e code frame lists) j ≡ g.name =
      ap name_or_none (slice_get-map (λ (x : FunctionItems). x.name) e.items j) ∙ ap (λ (o : Option FunctionItems). name_or_none (option_map (λ (x : FunctionItems). x.name) o)) items.1 in
      let word = piece_has_word (setting_in e at.code framed at.lists) g.body in
      let low : address_in linked.place (all_pieces e routines) g.name < 65536 = let room = room_there (all_pieces e routines) image linked g.name _ _ _ is in omega (arith, room, word) in
      let whole : wrap16 (address_in linked.place (all_pieces e routines) g.name) ≡ address_in linked.place (all_pieces e routines) g.name = omega (arith, low) in
      record {
        number = j;
        range = range_of g.name (address_in linked.place (all_pieces e routines) g.name) (items_size (function_piece e.plan e.step (parameters_of e) (names_in e) at.code g framed at.lists).items);
        there = range_there e routines image j at.code g framed at.lists h linked fit size f;
        first = ap names named ∙ whole;
      }

  routine_begins : (name : HelperName) → (a : AnswerFor (routine_of name) (all_pieces e routines)) → BeginsRoutine linked.place (all_pieces e routines) (names (helper_name name))
  routine_begins name a =
      let within = (first_placed (all_pieces e routines) image (helper_name name) a.piece linked a.there).within in
      let low : address_in linked.place (all_pieces e routines) (helper_name name) < 65536 = let word = a.fit.2 in omega (arith, within, size, word) in
      record { routine = routine_of name; answer = a; first = omega (arith, low) }

  module _ (k : ℕ) (code : FunctionCode) (g : FunctionItems) (frame : FramePlan) (lists : List (List ℕ)) (f : IsFunctionOf e k code g frame lists) where
    abbrev m : Setting
    m = setting_in e code frame lists

    abbrev p : Piece
    p = function_piece e.plan e.step (parameters_of e) (names_in e) code g frame lists

    abbrev first : ℕ
    first = address_in linked.place (all_pieces e routines) g.name

    abbrev begins_called : ℕ → Type 0
    begins_called to = BeginsRange image to ⊎ BeginsRoutine linked.place (all_pieces e routines) to

    -- each name that is called is that of a function, or of a routine
    name_begins : (name : List ℕ) → IsNameOf (λ x. StandsIn x g.body) m name → begins_called (names name)
    name_begins name (inl is) =
        let refers = (h.emittable.each k code g f.code_at f.items_at).body.refers in
        let there = called_there code is.0 g.scalars (each_item (RefersRight g.scalars (object_cells e.code code) (called_parameters e.code code) (uses_helper code.body)) g.body refers (Call is.0) is.1) in
        subst (λ (n : List ℕ). begins_called (names n)) (sym is.2)
        (inl (function_begins code frame lists is.0 (slice_get_within e.code.functions is.0 there.0 there.1)))
    name_begins name (inr is) =
        subst (λ (n : List ℕ). begins_called (names n)) (sym is.2)
        (inr (routine_begins is.0 (routine_answers e h routines answers k code g frame lists f is.0 is.1)))

    pub has_targets : CallsAre (IsNameOf (λ x. StandsIn x g.body) m) (function_items m g.body) → HasTargets linked.place (all_pieces e routines) image k
    has_targets calls =
        let is = function_is e routines image k code g frame lists h linked fit size f in
        let code_there = code_is (all_pieces e routines) image linked g.name p m g.body is in
        record {
          range = range_of g.name first (items_size p.items);
          there = range_there e routines image k code g frame lists h linked fit size f;
          jumps = subst JumpsWithin (sym code_there) (piece_jumps_within names first p.items (right names m g.body first is.placed (room_there (all_pieces e routines) image linked g.name p m g.body is)));
          calls =
              subst (CallsRight linked.place (all_pieces e routines) image) (sym code_there)
              (calls_lead (marks_at first p.items) names begins_called p.items first (function_by_names m g.body)
              (calls_more (IsNameOf (λ x. StandsIn x g.body) m) (λ name. begins_called (names name)) p.items name_begins calls));
        }
