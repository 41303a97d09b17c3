-- The first piece of each name: the startup, functions by their names, and what stands behind them.
use Rattle.std.proofs.Common.{◌≡◌, ◌≢◌, ℕ, zero, suc, ◌<◌, Bool, true, false, List, [], ◌∷◌, ◌++◌, length, map, Some, refl, sym, ap, ◌∙◌, arith, All}
use Rattle.std.specs.Prelude.{AllPairs, slice_get, slice_index_or, if◌then◌else◌}
use Rattle.std.specs.Str.{bytes_eq}
use Rattle.std.proofs.lemmas.Slice.Eq.{bytes_eq-Decides}
use Rattle.std.proofs.lemmas.Option.{same_Some}
use Rattle.acc_code.specs.AccTree.{FunctionItems}
use Rattle.tree_code.specs.WordTree.{FunctionCode}
use Rattle.mem_plan.specs.declared.data_plan.DataPlan.{DataPlan}
use Rattle.mem_plan.specs.declared.data_plan.FramePlan.{FramePlan}
use Rattle.c25_isa.specs.Pieces.{Piece}
use Rattle.c25_code.specs.Links.{first_piece}
use Rattle.frame_emit.specs.Emitted.{function_piece, function_pieces}

pub same_name : (a b : List ℕ) → a ≡ b → bytes_eq a b ≡ true
same_name a b e = (bytes_eq-Decides a b).1 e

pub other_name : (a b : List ℕ) → a ≢ b → bytes_eq a b ≡ false
other_name a b differs = by (bytes_eq a b) ((bytes_eq-Decides a b).0)
  where
    by : (t : Bool) → (t ≡ true → a ≡ b) → t ≡ false
    by true same = absurd (differs (same refl))
    by false same = refl

-- the first piece of a name, where one stands before others or doesn't
pub found_here : (p : Piece) (ps : List Piece) (name : List ℕ) → p.name ≡ name → first_piece (p ∷ ps) name ≡ Some p
found_here p ps name is = ap (λ b. if b then Some p else first_piece ps name) (same_name p.name name is)

pub found_behind : (p : Piece) (ps : List Piece) (name : List ℕ) → p.name ≢ name → first_piece (p ∷ ps) name ≡ first_piece ps name
found_behind p ps name differs = ap (λ b. if b then Some p else first_piece ps name) (other_name p.name name differs)

-- behind pieces of other names
pub found_later : (ps qs : List Piece) (name : List ℕ) → All (λ n. n ≢ name) (map (λ (p : Piece). p.name) ps) → first_piece (ps ++ qs) name ≡ first_piece qs name
found_later [] qs name others = refl
found_later (p ∷ ps) qs name others =
    found_behind p (ps ++ qs) name (others 0 p.name (omega arith)) ∙ found_later ps qs name (λ k d within. others (suc k) d (omega (arith, within)))

-- functions, of which no two have one name
module _ (plan : DataPlan) (step : ℕ) (parameters names : List (List ℕ)) where
  pub function_found : (fs : List FunctionCode) (gs : List FunctionItems) (frames : List FramePlan) (arrangements : List (List (List ℕ))) (rest : List Piece) (k : ℕ) (f : FunctionCode) (g : FunctionItems) (frame : FramePlan) (lists : List (List ℕ))
      → AllPairs (λ a b. a ≢ b) (map (λ (x : FunctionItems). x.name) gs) → slice_get fs k ≡ Some f → slice_get gs k ≡ Some g → slice_get frames k ≡ Some frame → slice_get arrangements k ≡ Some lists
      → first_piece (function_pieces plan step parameters names fs gs frames arrangements ++ rest) g.name ≡ Some (function_piece plan step parameters names f g frame lists)
  function_found [] gs frames arrangements rest k f g frame lists differ at_f at_g at_frame at_lists = absurd cc
  function_found (x ∷ fs) [] frames arrangements rest k f g frame lists differ at_f at_g at_frame at_lists = absurd cc
  function_found (x ∷ fs) (y ∷ gs) [] arrangements rest k f g frame lists differ at_f at_g at_frame at_lists = absurd cc
  function_found (x ∷ fs) (y ∷ gs) (z ∷ frames) [] rest k f g frame lists differ at_f at_g at_frame at_lists = absurd cc
  function_found (x ∷ fs) (y ∷ gs) (z ∷ frames) (l ∷ arrangements) rest zero f g frame lists differ at_f at_g at_frame at_lists =
      let same_f = same_Some x f at_f in
      let same_g = same_Some y g at_g in
      let same_frame = same_Some z frame at_frame in
      let same_lists = same_Some l lists at_lists in
      found_here (function_piece plan step parameters names x y z l) _ g.name (ap (λ (h : FunctionItems). h.name) same_g)
      ∙ ap (λ a. Some (function_piece plan step parameters names a y z l)) same_f ∙ ap (λ a. Some (function_piece plan step parameters names f a z l)) same_g
      ∙ ap (λ a. Some (function_piece plan step parameters names f g a l)) same_frame ∙ ap (λ a. Some (function_piece plan step parameters names f g frame a)) same_lists
  function_found (x ∷ fs) (y ∷ gs) (z ∷ frames) (l ∷ arrangements) rest (suc k) f g frame lists differ at_f at_g at_frame at_lists =
      let there = name_at gs k g at_g in
      found_behind (function_piece plan step parameters names x y z l) _ g.name (λ e. differ 0 (suc k) g.name (omega arith) (omega (arith, there.1)) (e ∙ sym there.0))
      ∙ function_found fs gs frames arrangements rest k f g frame lists (λ i j d less within. differ (suc i) (suc j) d (omega (arith, less)) (omega (arith, within))) at_f at_g at_frame at_lists
    where
      name_at : (gs : List FunctionItems) (k : ℕ) (g : FunctionItems) → slice_get gs k ≡ Some g → (slice_index_or (map (λ (h : FunctionItems). h.name) gs) k g.name ≡ g.name) × (k < length (map (λ (h : FunctionItems). h.name) gs))
      name_at [] k g is = absurd cc
      name_at (y ∷ gs) zero g is = (ap (λ (h : FunctionItems). h.name) (same_Some y g is), omega arith)
      name_at (y ∷ gs) (suc k) g is = let more = name_at gs k g is in (more.0, omega (arith, more.1))
