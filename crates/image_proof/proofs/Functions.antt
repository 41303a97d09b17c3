-- The functions of an image, and the ranges that it lists for them.
use Rattle.std.proofs.Common.{◌≡◌, ◌≢◌, inl, inr, ℕ, zero, suc, ◌+◌, ◌<◌, ◌≤◌, List, [], ◌∷◌, ◌++◌, length, map, Some, refl, sym, ap, ◌∙◌, subst, arith, All}
use Rattle.std.specs.Prelude.{AllPairs, slice_get, slice_index, slice_index_or, option_map, if◌then◌else◌}
use Rattle.std.proofs.lemmas.Option.{same_Some, slice_get-map}
use Rattle.word_base.specs.Name.{IsName, IsNameStart}
use Rattle.tree_code.specs.WordTree.{FunctionCode}
use Rattle.acc_code.specs.AccTree.{FunctionItems}
use Rattle.mem_plan.specs.declared.data_plan.DataPlan.{DataPlan}
use Rattle.mem_plan.specs.declared.data_plan.FramePlan.{FramePlan}
use Rattle.c25_isa.specs.Image.{Contents}
use Rattle.c25_isa.specs.Pieces.{Piece, items_size, address_in, range_of, ranges_in, Linked, PiecesFit}
use Rattle.c25_code.specs.Links.{first_piece}
use Rattle.image_proof.specs.frame_emit.Emitted.{function_piece, function_pieces, behind_startup}
use Rattle.image_proof.specs.frame_emit.Startup.{startup_name, startup_piece}
use Rattle.image_proof.specs.Emissions.{Emission, IsEmission}
use Rattle.image_proof.specs.ActiveSites.{parameters_of}
use Rattle.image_proof.specs.Keeping.{all_pieces}
use Rattle.image_proof.proofs.ImageCalls.{names_in, setting_in}
use Rattle.image_proof.proofs.Finding.{same_name, other_name, found_behind, function_found}
use Rattle.image_proof.proofs.ImageStanding.{names_same}
use Rattle.image_proof.specs.PieceWalks.{IsFunctionIn}
use Rattle.image_proof.specs.FunctionWalks.{IsFunctionOf}

-- the address of a name, where a piece of that name stands before others or another does
address_here : (place : ℕ → ℕ) (p : Piece) (ps : List Piece) (name : List ℕ) → p.name ≡ name → address_in place (p ∷ ps) name ≡ place 0
address_here place p ps name is = ap (λ b. if b then place 0 else address_in (λ k. place (suc k)) ps name) (same_name p.name name is)

address_behind : (place : ℕ → ℕ) (p : Piece) (ps : List Piece) (name : List ℕ) → p.name ≢ name → address_in place (p ∷ ps) name ≡ address_in (λ k. place (suc k)) ps name
address_behind place p ps name differs = ap (λ b. if b then place 0 else address_in (λ k. place (suc k)) ps name) (other_name p.name name differs)

-- the name of one of a list is there among the names
name_at : (gs : List FunctionItems) (k : ℕ) (g : FunctionItems) → slice_get gs k ≡ Some g → (slice_index_or (map (λ (h : FunctionItems). h.name) gs) k g.name ≡ g.name) × (k < length (map (λ (h : FunctionItems). h.name) gs))
name_at [] k g is = absurd cc
name_at (y ∷ gs) zero g is = (ap (λ (h : FunctionItems). h.name) (same_Some y g is), omega arith)
name_at (y ∷ gs) (suc k) g is = let more = name_at gs k g is in (more.0, omega (arith, more.1))

-- functions, of which no two have one name, are listed in order, each from the address of its name on
module _ (plan : DataPlan) (step : ℕ) (parameters names : List (List ℕ)) where
  abbrev size_of : FunctionCode → FunctionItems → FramePlan → List (List ℕ) → ℕ
  size_of f g frame lists = items_size (function_piece plan step parameters names f g frame lists).items

  function_listed : (fs : List FunctionCode) (gs : List FunctionItems) (frames : List FramePlan) (arrangements : List (List (List ℕ))) (rest : List Piece) (place : ℕ → ℕ) (k : ℕ) (f : FunctionCode) (g : FunctionItems) (frame : FramePlan) (lists : List (List ℕ))
      → AllPairs (λ a b. a ≢ b) (map (λ (x : FunctionItems). x.name) gs) → slice_get fs k ≡ Some f → slice_get gs k ≡ Some g → slice_get frames k ≡ Some frame → slice_get arrangements k ≡ Some lists
      → slice_get (ranges_in place (function_pieces plan step parameters names fs gs frames arrangements ++ rest)) k ≡ Some (range_of g.name (address_in place (function_pieces plan step parameters names fs gs frames arrangements ++ rest) g.name) (size_of f g frame lists))
  function_listed [] gs frames arrangements rest place k f g frame lists differ at_f at_g at_frame at_lists = absurd cc
  function_listed (x ∷ fs) [] frames arrangements rest place k f g frame lists differ at_f at_g at_frame at_lists = absurd cc
  function_listed (x ∷ fs) (y ∷ gs) [] arrangements rest place k f g frame lists differ at_f at_g at_frame at_lists = absurd cc
  function_listed (x ∷ fs) (y ∷ gs) (z ∷ frames) [] rest place k f g frame lists differ at_f at_g at_frame at_lists = absurd cc
  function_listed (x ∷ fs) (y ∷ gs) (z ∷ frames) (l ∷ arrangements) rest place zero f g frame lists differ at_f at_g at_frame at_lists =
      let same_f = same_Some x f at_f in
      let same_g = same_Some y g at_g in
      let same_frame = same_Some z frame at_frame in
      let same_lists = same_Some l lists at_lists in
      let named = ap (λ (h : FunctionItems). h.name) same_g in
      let here = address_here place (function_piece plan step parameters names x y z l) (function_pieces plan step parameters names fs gs frames arrangements ++ rest) g.name named in
      ap (λ n. Some (range_of n (place 0) (size_of x y z l))) named ∙ ap (λ a. Some (range_of g.name a (size_of x y z l))) (sym here)
      ∙ ap (λ size. Some (range_of g.name (address_in place (function_pieces plan step parameters names (x ∷ fs) (y ∷ gs) (z ∷ frames) (l ∷ arrangements) ++ rest) g.name) size))
      (ap (λ a. size_of a y z l) same_f ∙ ap (λ a. size_of f a z l) same_g ∙ ap (λ a. size_of f g a l) same_frame ∙ ap (λ a. size_of f g frame a) same_lists)
  function_listed (x ∷ fs) (y ∷ gs) (z ∷ frames) (l ∷ arrangements) rest place (suc k) f g frame lists differ at_f at_g at_frame at_lists =
      let there = name_at gs k g at_g in
      let behind = address_behind place (function_piece plan step parameters names x y z l) (function_pieces plan step parameters names fs gs frames arrangements ++ rest) g.name (λ e. differ 0 (suc k) g.name (omega arith) (omega (arith, there.1)) (e ∙ sym there.0)) in
      function_listed fs gs frames arrangements rest (λ i. place (suc i)) k f g frame lists (λ i j d less within. differ (suc i) (suc j) d (omega (arith, less)) (omega (arith, within))) at_f at_g at_frame at_lists
      ∙ ap (λ a. Some (range_of g.name a (size_of f g frame lists))) (sym behind)

-- a dot begins no name of C
no_start : IsNameStart 46 → ⊥
no_start start = elim start [ inl h ↦ absurd (omega (arith, h.0)) | inr h ↦ elim h [ inl k ↦ absurd (omega (arith, k.0)) | inr e ↦ absurd (omega (arith, e)) ] ]

startup_other : (name : List ℕ) → IsName name → startup_name ≢ name
startup_other name is same = no_start (subst (λ (n : List ℕ). IsNameStart (slice_index n 0)) (sym same) is.first)

-- one of a list of which all are so
each_of : {A : Type 0} (P : A → Type 0) (xs : List A) → All P xs → (k : ℕ) (x : A) → slice_get xs k ≡ Some x → P x
each_of P [] all k x is = absurd cc
each_of P (y ∷ ys) all zero x is = subst P (same_Some y x is) (all 0 y (omega arith))
each_of P (y ∷ ys) all (suc k) x is = each_of P ys (λ i d within. all (suc i) d (omega (arith, within))) k x is

module _ (e : Emission) (routines : List Piece) (image : Contents) (k : ℕ) (code : FunctionCode) (g : FunctionItems) (frame : FramePlan) (lists : List (List ℕ)) (h : IsEmission e) (linked : Linked (all_pieces e routines) image) (fit : PiecesFit (all_pieces e routines)) (size : length image.words ≤ 65536) (f : IsFunctionOf e k code g frame lists) where
  abbrev piece : Piece
  piece = function_piece e.plan e.step (parameters_of e) (names_in e) code g frame lists

  abbrev startup : Piece
  startup = startup_piece e.plan.statics e.code.statics

  abbrev behind : List Piece
  behind = behind_startup e.code e.items e.plan e.arrangements e.step ++ routines

  differ : AllPairs (λ a b. a ≢ b) (names_in e)
  differ = subst (AllPairs (λ a b. a ≢ b)) (names_same e h) h.code.differ

  is_name : IsName g.name
  is_name = each_of IsName (names_in e) (subst (All IsName) (names_same e h) h.code.names) k g.name (slice_get-map (λ (x : FunctionItems). x.name) e.items k ∙ ap (option_map (λ (x : FunctionItems). x.name)) f.items_at)

  found : first_piece (all_pieces e routines) g.name ≡ Some piece
  found =
      found_behind startup behind g.name (startup_other g.name is_name)
      ∙ function_found e.plan e.step (parameters_of e) (names_in e) e.code.functions e.items e.plan.frames e.arrangements routines k code g frame lists differ f.code_at f.items_at f.frame_at f.lists_at

  pub function_is : IsFunctionIn (all_pieces e routines) image linked g.name piece (setting_in e code frame lists) g.body
  function_is = record {
    fit = fit;
    first = found;
    items = refl;
    placed = (h.emittable.each k code g f.code_at f.items_at).body.placed;
    short = size;
  }

  pub range_there : slice_get image.functions k ≡ Some (range_of g.name (address_in linked.place (all_pieces e routines) g.name) (items_size piece.items))
  range_there =
      ap (λ ranges. slice_get ranges k) linked.functions
      ∙ function_listed e.plan e.step (parameters_of e) (names_in e) e.code.functions e.items e.plan.frames e.arrangements routines (λ i. linked.place (suc i)) k code g frame lists differ f.code_at f.items_at f.frame_at f.lists_at
      ∙ ap (λ a. Some (range_of g.name a (items_size piece.items))) (sym (address_behind linked.place startup behind g.name (startup_other g.name is_name)))
