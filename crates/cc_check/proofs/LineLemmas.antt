-- Frames are checked one by one.
use Rattle.std.proofs.Common.{◌≡◌, ℕ, Bool, true, false, ◌&&◌, ◌||◌, List, [], ◌∷◌, ◌++◌, length, take, Option, refl, ap, ap₂, sym, subst, ◌∙◌, append-nil, arith}
use mathlib.Core.Path.{fun_ext}
use Rattle.std.specs.Prelude.{slice_index_or}
use Rattle.std.specs.List.{flat_map, list_all}
use Rattle.std.proofs.Math.Seq.{take-append_seam}
use Rattle.std.proofs.lemmas.Grind.{flat_map-append}
use Rattle.std.proofs.lemmas.List.Elements.{All-push}
use Rattle.std.proofs.lemmas.List.Folds.{list_all-append, list_any-append}
use Rattle.c25_isa.specs.declared.image.FunctionRange.{FunctionRange}
use Rattle.c25_isa.specs.Image.{Contents}
use Rattle.lay_cert.specs.Frames.{Frame}
use Rattle.lay_cert.specs.CertReading.{Reads}
use Rattle.lay_cert.proofs.Exact.{reads_same}
use Rattle.cc_check.specs.declared.finding.Finding.{Finding}
use Rattle.cc_check.specs.Findings.{number_of, finding_of, is_pass}
use Rattle.cc_check.specs.Checks.{OptimalHolds}
use Rattle.cc_check.specs.CheckText.{finding_text, line_of, frame_line, is_number, has_frame, no_frame_lines, check_text}
use Rattle.cc_check.specs.Checked.{AreChecked, ChecksAll}

and_true : (b : Bool) → (b && true) ≡ b
and_true true = refl
and_true false = refl

or_false : (b : Bool) → (b || false) ≡ b
or_false true = refl
or_false false = refl

text_push : (g : Frame → List ℕ) (fs : List Frame) (f : Frame) → flat_map g (fs ++ f ∷ []) ≡ flat_map g fs ++ g f
text_push g fs f = flat_map-append g fs (f ∷ []) ∙ ap (λ t. flat_map g fs ++ t) (append-nil (g f))

passes_push : (p : Frame → Bool) (fs : List Frame) (f : Frame) → list_all p (fs ++ f ∷ []) ≡ (list_all p fs && p f)
passes_push p fs f = list_all-append p fs (f ∷ []) ∙ ap (λ b. list_all p fs && b) (and_true (p f))

framed_push : (functions : List FunctionRange) (fs : List Frame) (f : Frame) (k : ℕ) → has_frame functions (fs ++ f ∷ []) k ≡ (has_frame functions fs k || is_number k (number_of functions f.name))
framed_push functions fs f k =
    let is = λ (g : Frame). is_number k (number_of functions g.name) in
    list_any-append is fs (f ∷ []) ∙ ap (λ b. has_frame functions fs k || b) (or_false (is f))

-- one frame more
pub checked_more : (image : Contents) (fs : List Frame) (f : Frame) (number : Option ℕ) (finding : Finding) (name old new : List ℕ) (pass more : Bool) (marks added : List Bool) → AreChecked image fs old pass marks
    → name ≡ f.name → number ≡ number_of image.functions f.name → finding ≡ finding_of image f → new ≡ old ++ line_of name (finding_text finding) → more ≡ (pass && is_pass finding)
    → ((k : ℕ) → slice_index_or added k false ≡ (slice_index_or marks k false || is_number k number)) → OptimalHolds image f → AreChecked image (fs ++ f ∷ []) new more added
checked_more image fs f number finding name old new pass more marks added h named numbered found text passes framed holds = record {
  text = text ∙ ap₂ (λ n said. old ++ line_of n (finding_text said)) named found ∙ ap (λ t. t ++ frame_line image f) h.text ∙ sym (text_push (frame_line image) fs f);
  passes = passes ∙ ap₂ (λ b said. b && is_pass said) h.passes found ∙ sym (passes_push (λ g. is_pass (finding_of image g)) fs f);
  framed = λ k. framed k ∙ ap₂ (λ b n. b || is_number k n) (h.framed k) numbered ∙ sym (framed_push image.functions fs f k);
  optimal = All-push (OptimalHolds image) fs f h.optimal holds;
}

-- before all frames
pub none_checked : (image : Contents) (text : List ℕ) (pass : Bool) (marks : List Bool) → text ≡ [] → pass ≡ true → ((k : ℕ) → slice_index_or marks k false ≡ false) → AreChecked image [] text pass marks
none_checked image text pass marks is passes none = record { text = is; passes = passes; framed = none; optimal = λ k d lt. absurd (omega (arith, lt)) }

-- bytes say no other frames than those that are checked
pub all_checked : (image : Contents) (bytes : List ℕ) (fs : List Frame) (text : List ℕ) (pass : Bool) (marks : List Bool) → ChecksAll image bytes text pass marks → Reads bytes fs → AreChecked image fs text pass marks
all_checked image bytes fs text pass marks h r = subst (λ gs. AreChecked image gs text pass marks) (reads_same bytes h.frames fs h.reads r) h.checked

-- all marks are kept
pub whole_marks : (n : ℕ) (marks rest : List Bool) → length marks ≡ n → take n (marks ++ rest) ≡ marks
whole_marks n marks rest is = subst (λ k. take k (marks ++ rest) ≡ marks) is (take-append_seam marks rest)

-- the lines of functions that have no frame are last
pub whole_text : (image : Contents) (fs : List Frame) (old new : List ℕ) (pass : Bool) (marks : List Bool) → AreChecked image fs old pass marks → new ≡ old ++ no_frame_lines (λ k. slice_index_or marks k false) 0 image.functions → new ≡ check_text image fs
whole_text image fs old new pass marks h is = is ∙ ap₂ (λ t framed. t ++ no_frame_lines framed 0 image.functions) h.text (fun_ext h.framed)
