-- What is known of the pieces of a program, and what a plan is enough for.
use Rattle.std.proofs.Common.{◌≡◌, ◌∙◌, ◌≤◌, ◌<◌, ◌+◌, inl, inr, ℕ, zero, suc, Bool, true, List, [], ◌∷◌, length, map, slice_get, slice_index_or, Option, Some, refl, ap, arith, All}
use Rattle.word_base.specs.Name.{IsName, IsNameStart}
use Rattle.c_tree.specs.declared.program.VarRef.{VarRef}
use Rattle.c_tree.specs.TypedTree.{ObjectTree}
use Rattle.tree_code.specs.WordTree.{FunctionCode, ProgramCode}
use Rattle.acc_code.specs.AccTree.{Item, Op, If, Loop, Switch, Case, Clear, Call, Helper, Break, Continue, Return, ItemList, end, item, FunctionItems}
use Rattle.acc_code.specs.Emittable.{Throughout, Within, RefersRight}
use Rattle.c25_isa.specs.Pieces.{Piece}
use Rattle.mem_plan.specs.declared.data_plan.DataPlan.{DataPlan}
use Rattle.mem_plan.specs.declared.data_plan.FramePlan.{FramePlan}
use Rattle.mem_plan.specs.DataNeeds.{objects_words}
use Rattle.mem_plan.specs.Plan.{AreArranged, IsPlan, frames_from}
use Rattle.std.proofs.lemmas.List.Sums.{sum_by-cons}
use Rattle.emit_control.specs.Emits.{IsRightItem}
use Rattle.frame_emit.specs.Emitted.{IsCounted, function_piece, function_pieces}
use Rattle.frame_emit.specs.Startup.{startup_name, static_words}

module _ (plan : DataPlan) (step : ℕ) (parameters names : List (List ℕ)) where
  pub all_listed : (fs : List FunctionCode) (gs : List FunctionItems) (frames : List FramePlan) (arrangements : List (List (List ℕ)))
      → All (λ q. q.listed ≡ true) (function_pieces plan step parameters names fs gs frames arrangements)
  all_listed [] gs frames arrangements = λ k d within. absurd (omega (arith, within))
  all_listed (f ∷ fs) [] frames arrangements = λ k d within. absurd (omega (arith, within))
  all_listed (f ∷ fs) (g ∷ gs) [] arrangements = λ k d within. absurd (omega (arith, within))
  all_listed (f ∷ fs) (g ∷ gs) (frame ∷ frames) [] = λ k d within. absurd (omega (arith, within))
  all_listed (f ∷ fs) (g ∷ gs) (frame ∷ frames) (lists ∷ rest) = both (all_listed fs gs frames rest)
    where
      both : All (λ q. q.listed ≡ true) (function_pieces plan step parameters names fs gs frames rest)
          → All (λ q. q.listed ≡ true) (function_piece plan step parameters names f g frame lists ∷ function_pieces plan step parameters names fs gs frames rest)
      both all zero d within = refl
      both all (suc k) d within = all k d (omega (arith, within))

  pub their_names : (fs : List FunctionCode) (gs : List FunctionItems) (frames : List FramePlan) (arrangements : List (List (List ℕ)))
      → length gs ≡ length fs → length frames ≡ length fs → length arrangements ≡ length fs
      → map (λ (q : Piece). q.name) (function_pieces plan step parameters names fs gs frames arrangements) ≡ map (λ (g : FunctionItems). g.name) gs
  their_names [] [] frames arrangements a b c = refl
  their_names [] (g ∷ gs) frames arrangements a b c = absurd (omega (arith, a))
  their_names (f ∷ fs) [] frames arrangements a b c = absurd (omega (arith, a))
  their_names (f ∷ fs) (g ∷ gs) [] arrangements a b c = absurd (omega (arith, b))
  their_names (f ∷ fs) (g ∷ gs) (frame ∷ frames) [] a b c = absurd (omega (arith, c))
  their_names (f ∷ fs) (g ∷ gs) (frame ∷ frames) (lists ∷ rest) a b c = ap (λ ns. g.name ∷ ns) (their_names fs gs frames rest (omega (arith, a)) (omega (arith, b)) (omega (arith, c)))

-- a dot begins no name
no_start : ¬ IsNameStart 46
no_start start = elim start [ inl h ↦ absurd (omega (arith, h.0)) | inr h ↦ elim h [ inl k ↦ absurd (omega (arith, k.0)) | inr e ↦ absurd (omega (arith, e)) ] ]

pub no_name : ¬ IsName startup_name
no_name is = no_start is.first

-- the words of objects, said twice
same_words : (os : List ObjectTree) → static_words os ≡ objects_words os
same_words [] = refl
same_words (o ∷ os) = sum_by-cons (λ (x : ObjectTree). x.length + 1) o os ∙ ap (λ n. o.length + 1 + n) (same_words os)

pub statics_fit : (p : ProgramCode) (arrangements : List (List (List ℕ))) (plan : DataPlan) → IsPlan p arrangements plan → static_words p.statics < 65536
statics_fit p arrangements plan is =
    let used = ap (λ (x : DataPlan). x.used) is.is in
    omega (arith, same_words p.statics, used, is.fits)

-- elements by their numbers
element_at : {A : Type 0} (xs : List A) (k : ℕ) (d : A) → k < length xs → slice_get xs k ≡ Some (slice_index_or xs k d)
element_at [] k d within = absurd (omega (arith, within))
element_at (x ∷ xs) zero d within = refl
element_at (x ∷ xs) (suc k) d within = element_at xs k d (omega (arith, within))

some_at : {A : Type 0} (xs : List A) (k : ℕ) → k < length xs → (x : A) × (slice_get xs k ≡ Some x)
some_at [] k within = absurd (omega (arith, within))
some_at (x ∷ xs) zero within = (x, refl)
some_at (x ∷ xs) (suc k) within = some_at xs k (omega (arith, within))

pub few_lists : (p : ProgramCode) (arrangements : List (List (List ℕ))) → AreArranged p.functions arrangements → All (λ lists. length lists ≤ 4) arrangements
few_lists p arrangements are = λ k d within.
    let f = some_at p.functions k (omega (arith, within, are.count)) in
    (are.each k f.0 (slice_index_or arrangements k d) f.1 (element_at arrangements k d within)).few

frames_count : (start : ℕ) (begin : ℕ → ℕ) (n : ℕ) (fs : List FunctionCode) (arrangements : List (List (List ℕ))) → length arrangements ≡ length fs → length (frames_from start begin n fs arrangements) ≡ length fs
frames_count start begin n [] arrangements count = refl
frames_count start begin n (f ∷ fs) [] count = absurd (omega (arith, count))
frames_count start begin n (f ∷ fs) (lists ∷ rest) count =
    let others = frames_count start begin (suc n) fs rest (omega (arith, count)) in
    omega (arith, others)

pub counted : (p : ProgramCode) (gs : List FunctionItems) (plan : DataPlan) (arrangements : List (List (List ℕ)))
    → length gs ≡ length p.functions → AreArranged p.functions arrangements → IsPlan p arrangements plan → IsCounted p gs plan arrangements
counted p gs plan arrangements functions are is = record {
  functions = functions;
  frames = ap (λ (x : DataPlan). length x.frames) is.is ∙ frames_count _ is.begin 0 p.functions arrangements are.count;
  lists = are.count;
}

-- operations of code that meets what emission wants are right
module _ (scalars : ℕ) (cells : VarRef → Option ℕ) (parameters : ℕ → Option ℕ) (helps : Bool) where
  one_right : (x : Item) → RefersRight scalars cells parameters helps x → IsRightItem x
  one_right (Op o m) h = record { range = h.range; taken = h.taken }
  one_right (If t hit miss) h = tt
  one_right (Loop before body behind last) h = tt
  one_right (Switch labels body) h = tt
  one_right (Case n) h = tt
  one_right (Clear v from) h = tt
  one_right (Call f) h = tt
  one_right (Helper name) h = tt
  one_right Break h = tt
  one_right Continue h = tt
  one_right Return h = tt

  mutual
    pub all_right : (xs : ItemList) → Throughout (RefersRight scalars cells parameters helps) xs → Throughout IsRightItem xs
    all_right end h = tt
    all_right (item x xs) h = (one_right x h.0, within_right x h.1, all_right xs h.2)

    within_right : (x : Item) → Within (RefersRight scalars cells parameters helps) x → Within IsRightItem x
    within_right (Op o m) h = tt
    within_right (If t hit miss) h = (all_right hit h.0, all_right miss h.1)
    within_right (Loop before body behind last) h = (all_right before h.0, all_right body h.1, all_right behind h.2)
    within_right (Switch labels body) h = all_right body h
    within_right (Case n) h = tt
    within_right (Clear v from) h = tt
    within_right (Call f) h = tt
    within_right (Helper name) h = tt
    within_right Break h = tt
    within_right Continue h = tt
    within_right Return h = tt
