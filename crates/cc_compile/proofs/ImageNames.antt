-- An image lists the functions of its program alone, in order and by their names.
use Rattle.std.proofs.Common.{◌≡◌, ◌+◌, ◌++◌, ◌∙◌, ℕ, suc, Bool, true, false, List, [], ◌∷◌, length, map, refl, sym, ap, arith, All}
use Rattle.std.specs.Prelude.{if◌then◌else◌}
use Rattle.std.proofs.lemmas.List.{length-map}
use Rattle.std.proofs.lemmas.List.Elements.{All-head, All-tail, All-filter, All-map}
use Rattle.c25_isa.specs.declared.image.FunctionRange.{FunctionRange}
use Rattle.c25_isa.specs.Image.{Contents}
use Rattle.c25_isa.specs.Pieces.{Piece, items_size, range_of, ranges_in}
use Rattle.image_proof.specs.c25_helper.Calls.{pieces_call, called_helper_pieces}
use Rattle.image_proof.specs.c25_helper.Routines.{all_routines, helper_pieces, routine_piece}
use Rattle.tree_code.specs.WordTree.{FunctionCode}
use Rattle.tree_code.specs.Lowered.{lowered_function, lowered_program}
use Rattle.acc_code.specs.AccTree.{FunctionItems}
use Rattle.frame_layouts.specs.mem_plan.declared.data_plan.DataPlan.{DataPlan}
use Rattle.frame_layouts.specs.mem_plan.Plan.{frames_from, frames_start}
use Rattle.c_tree.specs.TypedTree.{FunctionTree, ProgramTree}
use Rattle.cc_compile.specs.Compiles.{names_of}
use Rattle.cc_compile.specs.Images.{FrameJobs, HasImage, layouts, own_pieces}
use Rattle.image_proof.specs.frame_emit.Emitted.{behind_startup}
use Rattle.image_proof.specs.frame_emit.Frames.{all_parameters}
use Rattle.frame_layouts.specs.Frames.{layout_of}
use Rattle.image_proof.specs.acc_select.Selected.{selected, selected_function}
use Rattle.image_proof.proofs.frame_emit.Naming.{all_listed, their_names}

abbrev pub range_name : FunctionRange → List ℕ
range_name f = f.name

abbrev piece_name : Piece → List ℕ
piece_name p = p.name

abbrev IsListed : Piece → Type 0
IsListed p = p.listed ≡ true

abbrev IsUnlisted : Piece → Type 0
IsUnlisted p = p.listed ≡ false

abbrev range_where : Bool → List ℕ → ℕ → ℕ → List FunctionRange
range_where b name at size = if b then range_of name at size ∷ [] else []

one_listed : (b : Bool) (name : List ℕ) (at size : ℕ) (rs : List FunctionRange) (ns : List (List ℕ)) → b ≡ true
    → map range_name rs ≡ ns → map range_name (range_where b name at size ++ rs) ≡ name ∷ ns
one_listed true name at size rs ns is rest = ap (λ l. name ∷ l) rest
one_listed false name at size rs ns is rest = absurd cc

one_unlisted : (b : Bool) (name : List ℕ) (at size : ℕ) (rs : List FunctionRange) → b ≡ false → rs ≡ [] → range_where b name at size ++ rs ≡ []
one_unlisted true name at size rs is rest = absurd cc
one_unlisted false name at size rs is rest = rest

none_listed : (place : ℕ → ℕ) (ps : List Piece) → All IsUnlisted ps → ranges_in place ps ≡ []
none_listed place [] all = refl
none_listed place (p ∷ ps) all =
    one_unlisted p.listed p.name (place 0) (items_size p.items) (ranges_in (λ k. place (suc k)) ps) (All-head IsUnlisted p ps all)
    (none_listed (λ k. place (suc k)) ps (All-tail IsUnlisted p ps all))

ranges_named : (place : ℕ → ℕ) (ps rest : List Piece) → All IsListed ps → ((others : ℕ → ℕ) → ranges_in others rest ≡ [])
    → map range_name (ranges_in place (ps ++ rest)) ≡ map piece_name ps
ranges_named place [] rest all none = ap (map range_name) (none place)
ranges_named place (p ∷ ps) rest all none =
    one_listed p.listed p.name (place 0) (items_size p.items) (ranges_in (λ k. place (suc k)) (ps ++ rest)) (map piece_name ps) (All-head IsListed p ps all)
    (ranges_named (λ k. place (suc k)) ps rest (All-tail IsListed p ps all) none)

no_helper : (pieces : List Piece) (place : ℕ → ℕ) → ranges_in place (called_helper_pieces pieces) ≡ []
no_helper pieces place =
    none_listed place (called_helper_pieces pieces)
    (All-filter (λ (x : Piece). pieces_call x.name pieces) IsUnlisted helper_pieces (All-map IsUnlisted routine_piece all_routines (λ k d within. refl)))

-- those of pieces are those of the program
pub frames_count : (start : ℕ) (begin : ℕ → ℕ) (n : ℕ) (fs : List FunctionCode) (arrangements : List (List (List ℕ)))
    → length arrangements ≡ length fs → length (frames_from start begin n fs arrangements) ≡ length fs
frames_count start begin n [] arrangements count = refl
frames_count start begin n (f ∷ fs) [] count = absurd (omega (arith, count))
frames_count start begin n (f ∷ fs) (lists ∷ rest) count = ap suc (frames_count start begin (suc n) fs rest (omega (arith, count)))

pub program_names : (fs : List FunctionTree)
    → map (λ (g : FunctionItems). g.name) (map selected_function (map lowered_function fs)) ≡ map (λ (f : FunctionTree). f.name) fs
program_names [] = refl
program_names (f ∷ fs) = ap (λ ns. f.name ∷ ns) (program_names fs)

pub image_names : (o : FrameJobs) (t : ProgramTree) (image : Contents) → length o.jobs ≡ length t.functions
    → HasImage o t image → map range_name image.functions ≡ names_of t
image_names o t image each h =
    let p = lowered_program t in
    let plan = h.plan in
    let parameters = all_parameters p.functions plan.frames (layouts o) in
    let names = map (λ (g : FunctionItems). g.name) (selected p) in
    let functions : length p.functions ≡ length t.functions = length-map t.functions lowered_function in
    let lists : length (layouts o) ≡ length p.functions = length-map o.jobs layout_of ∙ each ∙ sym functions in
    let count : length (selected p) ≡ length p.functions = length-map p.functions selected_function in
    let frames : length plan.frames ≡ length p.functions =
    ap (λ (x : DataPlan). length x.frames) h.planned.is ∙ frames_count (frames_start p) h.planned.begin 0 p.functions (layouts o) lists in
    ap (map range_name) h.linked.functions
    ∙ ranges_named (λ k. h.linked.place (suc k)) (behind_startup p (selected p) plan (layouts o) o.step)
    (called_helper_pieces (own_pieces o p plan))
    (all_listed plan o.step parameters names p.functions (selected p) plan.frames (layouts o)) (no_helper (own_pieces o p plan))
    ∙ their_names plan o.step parameters names p.functions (selected p) plan.frames (layouts o) count frames lists
    ∙ program_names t.functions
