-- One more frame of a certificate, and the last one.
use Rattle.std.proofs.Common.{◌≡◌, ◌++◌, ◌∙◌, ℕ, suc, List, [], ◌∷◌, refl, sym, ap, subst, arith, append_assoc, append-nil}
use Rattle.std.specs.Prelude.{All}
use Rattle.lay_cert.specs.Frames.{Frame, IsFrame}
use Rattle.mem_plan.specs.declared.data_plan.FramePlan.{FramePlan}
use Rattle.frame_layouts.specs.declared.layouts.Finding.{Finding}
use Rattle.frame_layouts.specs.Frames.{frame_with, frames_with}

module _ (ys xs : List Finding) (x : Finding) (ms ls : List (List (List ℕ))) (l : List (List ℕ)) (qs ps : List FramePlan) (p : FramePlan)
    (findings : ys ≡ x ∷ xs) (layouts : ms ≡ l ∷ ls) (plans : qs ≡ p ∷ ps) where
  split : frames_with ys ms qs ≡ frame_with x l p ∷ frames_with xs ls ps
  split = ap (λ a. frames_with a ms qs) findings ∙ ap (λ b. frames_with (x ∷ xs) b qs) layouts ∙ ap (λ d. frames_with (x ∷ xs) (l ∷ ls) d) plans

  pub one_more_frame : (made now all : List Frame) (f : Frame) → f ≡ frame_with x l p → now ≡ made ++ f ∷ [] → made ++ frames_with ys ms qs ≡ all → now ++ frames_with xs ls ps ≡ all
  one_more_frame made now all f is put before =
      ap (λ m. m ++ frames_with xs ls ps) (put ∙ ap (λ z. made ++ z ∷ []) is)
      ∙ append_assoc made (frame_with x l p ∷ []) (frames_with xs ls ps)
      ∙ sym (ap (λ m. made ++ m) split)
      ∙ before

  pub first_is : All IsFrame (frames_with ys ms qs) → IsFrame (frame_with x l p)
  first_is all = subst (All IsFrame) split all 0 (frame_with x l p) (omega arith)

  pub others_are : All IsFrame (frames_with ys ms qs) → All IsFrame (frames_with xs ls ps)
  others_are all = λ k d within. subst (All IsFrame) split all (suc k) d (omega (arith, within))

pub no_findings : (ys : List Finding) (ms : List (List (List ℕ))) (qs : List FramePlan) → ys ≡ [] → frames_with ys ms qs ≡ []
no_findings ys ms qs none = ap (λ a. frames_with a ms qs) none

pub no_layouts : (ys : List Finding) (ms : List (List (List ℕ))) (qs : List FramePlan) → ms ≡ [] → frames_with ys ms qs ≡ []
no_layouts [] ms qs none = refl
no_layouts (y ∷ ys) ms qs none = ap (λ b. frames_with (y ∷ ys) b qs) none

pub no_plans : (ys : List Finding) (ms : List (List (List ℕ))) (qs : List FramePlan) → qs ≡ [] → frames_with ys ms qs ≡ []
no_plans [] ms qs none = refl
no_plans (y ∷ ys) [] qs none = refl
no_plans (y ∷ ys) (m ∷ ms) qs none = ap (λ d. frames_with (y ∷ ys) (m ∷ ms) d) none

pub all_made : (made rest all : List Frame) → rest ≡ [] → made ++ rest ≡ all → made ≡ all
all_made made rest all none before = sym (append-nil made) ∙ sym (ap (λ m. made ++ m) none) ∙ before
