-- Each mark that a piece of a program names stands once in it.
use Rattle.std.proofs.Common.{◌≡◌, ◌≢◌, inl, inr, ℕ, suc, ◌+◌, ◌∙◌, Bool, true, false, List, [], ◌∷◌, ◌++◌, refl, sym, ap₂, subst, arith, All, ⊎_elim}
use Rattle.std.specs.Prelude.{count_by, slice_index_or, cond}
use Rattle.std.proofs.lemmas.Bool.{eq-eqb, ne_eqb}
use Rattle.std.proofs.lemmas.List.Elements.{All-cons, All-nil}
use Rattle.std.proofs.lemmas.List.Sums.{sum_by-cons}
use Rattle.c_tree.specs.TypedTree.{ObjectTree}
use Rattle.tree_code.specs.WordTree.{FunctionCode, ProgramCode}
use Rattle.acc_code.specs.AccTree.{FunctionItems}
use Rattle.acc_code.specs.Emittable.{IsPlaced}
use Rattle.image_proof.specs.acc_select.IsSelected.{IsEmittable}
use Rattle.frame_layouts.specs.mem_plan.declared.data_plan.DataPlan.{DataPlan}
use Rattle.frame_layouts.specs.mem_plan.declared.data_plan.FramePlan.{FramePlan}
use Rattle.c25_isa.specs.declared.instruction.Instr.{Instr}
use Rattle.c25_isa.specs.declared.instruction.Instr.TheVariants.{Idle, Ssxm}
use Rattle.c25_isa.specs.declared.piece.PieceItem.{PieceItem}
use Rattle.c25_isa.specs.declared.piece.PieceItem.TheVariants.{Do, Mark, Jump, CallTo}
use Rattle.c25_isa.specs.Pieces.{Piece, is_mark}
use Rattle.c25_code.specs.Items.{no_change, plain_items}
use Rattle.c25_code.specs.Links.{IsMarkOf, MarksDiffer}
use Rattle.c25_code.specs.Naming.{marks_named, HasItsMarks}
use Rattle.c_tree.specs.SourceRun.{main_name}
use Rattle.image_proof.specs.frame_emit.emit_control.Cuts.{function_items}
use Rattle.image_proof.specs.frame_emit.emit_control.Settings.{Setting}
use Rattle.size_proof.specs.emit_proof.Calls.{IsJumpTo}
use Rattle.size_proof.proofs.emit_proof.Pieces.{piece_once, piece_marked}
use Rattle.image_proof.specs.frame_emit.Emitted.{function_piece, function_pieces, setting_of}
use Rattle.image_proof.specs.frame_emit.Startup.{startup_piece, fillings_code}
use Rattle.cc_compile.proofs.TranslationLemmas.{element_at, some_at}

-- how often a mark stands
count_more : (mark : ℕ) (item : PieceItem) (items : List PieceItem) (b : Bool) (n : ℕ) → is_mark mark item ≡ b → count_by (is_mark mark) items ≡ n → count_by (is_mark mark) (item ∷ items) ≡ cond b 1 0 + n
count_more mark item items b n test count =
    sum_by-cons (λ (x : PieceItem). cond (is_mark mark x) 1 0) item items ∙ ap₂ (λ (t : Bool) k. cond t 1 0 + k) test count

stands_never : (mark : ℕ) (items : List PieceItem) → (IsMarkOf mark items → ⊥) → count_by (is_mark mark) items ≡ 0
stands_never mark [] none = refl
stands_never mark (Do i ∷ items) none = count_more mark (Do i) items false 0 refl (stands_never mark items none)
stands_never mark (Jump op to o ∷ items) none = count_more mark (Jump op to o) items false 0 refl (stands_never mark items none)
stands_never mark (CallTo name o ∷ items) none = count_more mark (CallTo name o) items false 0 refl (stands_never mark items none)
stands_never mark (Mark other ∷ items) none =
    let differs : other ≢ mark = λ e. none (inl e) in
    count_more mark (Mark other) items false 0 (ne_eqb other mark differs) (stands_never mark items (λ h. none (inr h)))

stands_once : (mark : ℕ) (items : List PieceItem) → MarksDiffer items → IsMarkOf mark items → count_by (is_mark mark) items ≡ 1
stands_once mark [] differ there = absurd there
stands_once mark (Do i ∷ items) differ there = count_more mark (Do i) items false 1 refl (stands_once mark items differ there)
stands_once mark (Jump op to o ∷ items) differ there = count_more mark (Jump op to o) items false 1 refl (stands_once mark items differ there)
stands_once mark (CallTo name o ∷ items) differ there = count_more mark (CallTo name o) items false 1 refl (stands_once mark items differ there)
stands_once mark (Mark other ∷ items) differ (inl e) =
    count_more mark (Mark other) items true 0 (eq-eqb other mark e) (stands_never mark items (λ h. differ.0 (subst (λ m. IsMarkOf m items) (sym e) h)))
stands_once mark (Mark other ∷ items) differ (inr h) =
    let differs : other ≢ mark = λ e. differ.0 (subst (λ m. IsMarkOf m items) (sym e) h) in
    count_more mark (Mark other) items false 1 (ne_eqb other mark differs) (stands_once mark items differ.1 h)

each_named : (P : ℕ → Type 0) (items : List PieceItem) → ((mark : ℕ) → IsJumpTo mark items → P mark) → All P (marks_named items)
each_named P [] h = All-nil P
each_named P (Do i ∷ items) h = each_named P items h
each_named P (Mark mark ∷ items) h = each_named P items h
each_named P (Jump op to o ∷ items) h = All-cons P to (marks_named items) (h to (inl refl)) (each_named P items (λ mark j. h mark (inr j)))
each_named P (CallTo name o ∷ items) h = each_named P items h

its_marks : (items : List PieceItem) → MarksDiffer items → ((mark : ℕ) → IsJumpTo mark items → IsMarkOf mark items) → HasItsMarks items
its_marks items differ there = each_named (λ mark. count_by (is_mark mark) items ≡ 1) items (λ mark j. stands_once mark items differ (there mark j))

-- the startup has the mark of its loop, where there is one
abbrev behind_loop : List Instr → List PieceItem
behind_loop code = (plain_items code ++ Do Ssxm ∷ []) ++ CallTo main_name no_change ∷ Do Idle ∷ []

no_mark : (mark : ℕ) (code : List Instr) → IsMarkOf mark (behind_loop code) → ⊥
no_mark mark [] h = h
no_mark mark (i ∷ code) h = no_mark mark code h

no_jump : (mark : ℕ) (code : List Instr) → IsJumpTo mark (behind_loop code) → ⊥
no_jump mark [] h = h
no_jump mark (i ∷ code) h = no_jump mark code h

none_twice : (code : List Instr) → MarksDiffer (behind_loop code)
none_twice [] = tt
none_twice (i ∷ code) = none_twice code

pub startup_marks : (statics : List ℕ) (os : List ObjectTree) → HasItsMarks (startup_piece statics os).items
startup_marks statics [] = All-nil _
startup_marks statics (o ∷ os) =
    let code = fillings_code statics statics (o ∷ os) in
    its_marks (startup_piece statics (o ∷ os)).items (no_mark 0 code, none_twice code)
    (λ mark j. ⊎_elim (λ (e : 0 ≡ mark). inl e) (λ (h : IsJumpTo mark (behind_loop code)). absurd (no_jump mark code h)) j)

-- those of the functions
pub all_placed : (p : ProgramCode) (gs : List FunctionItems) → IsEmittable p gs → All (λ (g : FunctionItems). IsPlaced false false false g.body) gs
all_placed p gs is = λ k d within.
    let f = some_at p.functions k (omega (arith, within, is.count)) in
    (is.each k f.0 (slice_index_or gs k d) f.1 (element_at gs k d within)).body.placed

module _ (plan : DataPlan) (step : ℕ) (parameters names : List (List ℕ)) where
  pub functions_marks : (fs : List FunctionCode) (gs : List FunctionItems) (frames : List FramePlan) (arrangements : List (List (List ℕ))) → All (λ (g : FunctionItems). IsPlaced false false false g.body) gs
      → All (λ (q : Piece). HasItsMarks q.items) (function_pieces plan step parameters names fs gs frames arrangements)
  functions_marks [] gs frames arrangements are = All-nil _
  functions_marks (f ∷ fs) [] frames arrangements are = All-nil _
  functions_marks (f ∷ fs) (g ∷ gs) [] arrangements are = All-nil _
  functions_marks (f ∷ fs) (g ∷ gs) (frame ∷ frames) [] are = All-nil _
  functions_marks (f ∷ fs) (g ∷ gs) (frame ∷ frames) (lists ∷ rest) are =
      let m : Setting = setting_of plan step parameters names f frame lists in
      let placed : IsPlaced false false false g.body = are 0 g (omega arith) in
      All-cons (λ (q : Piece). HasItsMarks q.items) (function_piece plan step parameters names f g frame lists) _
      (its_marks (function_items m g.body) (piece_once m g.body placed) (λ mark j. piece_marked m g.body mark placed j))
      (functions_marks fs gs frames rest (λ k d within. are (suc k) d (omega (arith, within))))
