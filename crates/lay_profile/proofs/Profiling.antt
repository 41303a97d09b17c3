-- A program that is laid out for a recorded run.
use Rattle.std.proofs.Common.{◌≡◌, ◌≢◌, ◌≤◌, Ok, Err, ◌+◌, ◌∙◌, ℕ, zero, suc, List, [], ◌∷◌, length, map, refl, sym, ap, subst, arith}
use Rattle.std.specs.Prelude.{All, slice_get, Some, Result, IfOk}
use Rattle.std.proofs.lemmas.List.{length-map}
use Rattle.std.proofs.lemmas.Option.{same_Some}
use Rattle.acc_code.specs.AccTree.{FunctionItems}
use Rattle.lay_model.specs.Sequences.{Sequence}
use Rattle.lay_cost.specs.Cost.{arranged_cost, cost_of, Least}
use Rattle.lay_cost.specs.Placements.{Placement, IsPlacement}
use Rattle.cc_compile.specs.Images.{AreJobs, jobs_at}
use Rattle.cc_compile.specs.TranslationFaults.{Says}
use Rattle.cc_compile.specs.c_tree.TypedTree.{ProgramTree}
use Rattle.cc_compile.specs.declared.translation_fault.TranslationFault.{TranslationFault}
use Rattle.cc_compile.specs.declared.translation_fault.TranslationFault.TheVariants as translation
use Rattle.cc_compile.specs.frame_layouts.Frames.{ClaimsHold, IsJob, job_with}
use Rattle.cc_compile.specs.frame_layouts.declared.options.Options.{Options}
use Rattle.cc_compile.specs.frame_layouts.lay_par.Jobs.{Job}
use Rattle.cc_compile.specs.image_proof.acc_select_proof.SourceSequences.{at_step, source_sequence}
use Rattle.cc_compile.specs.lay_cert.Frames.{Frame}
use Rattle.lay_profile.specs.declared.fault.ProfileFault.TheVariants as faults
use Rattle.lay_profile.specs.declared.options.ProfileOptions.{ProfileOptions}
use Rattle.lay_profile.specs.declared.shapes.Shaped.{Shaped}
use Rattle.lay_profile.specs.PartFaults.{of_translation_fault}
use Rattle.lay_profile.specs.Shapes.{HasShapeOf, accesses_of}
use Rattle.lay_profile.specs.Profiles.{HasLayoutFault, HasRunCost, HaveRunCosts, searched}
use Rattle.lay_profile.specs.Recordings.{Recording, counts_of, search_options, weighed_from}
use Rattle.lay_profile.specs.Weighing.{arranged_run_cost, run_cost, weighed}

-- the accesses of shaped functions are those of the functions
pub accesses_shaped : (k : ℕ) (fs : List FunctionItems) (all : List Shaped) → length all ≡ length fs → ((j : ℕ) (f : FunctionItems) (s : Shaped) → slice_get fs j ≡ Some f → slice_get all j ≡ Some s → s.accesses ≡ at_step 1 f)
    → map (λ (s : Shaped). s.accesses) all ≡ map (at_step 1) fs
accesses_shaped k [] [] same each = refl
accesses_shaped k [] (s ∷ all) same each = absurd (omega (arith, same))
accesses_shaped k (f ∷ fs) [] same each = absurd (omega (arith, same))
accesses_shaped k (f ∷ fs) (s ∷ all) same each =
    ap (λ (x : Sequence). x ∷ map (λ (t : Shaped). t.accesses) all) (each 0 f s refl refl)
    ∙ ap (λ (xs : List Sequence). at_step 1 f ∷ xs) (accesses_shaped k fs all (omega (arith, same)) (λ j g t here there. each (suc j) g t here there))

-- jobs for weighed sequences are over the scalars of the functions
weighed_scalars : (o : Options) (r : Recording) (k : ℕ) (fs : List FunctionItems) → map (λ (job : Job). job.sequence.scalars) (map (job_with o) (weighed_from r k (map (at_step 1) fs))) ≡ map (λ (f : FunctionItems). f.scalars) fs
weighed_scalars o r k [] = refl
weighed_scalars o r k (f ∷ fs) = ap (λ ns. f.scalars ∷ ns) (weighed_scalars o r (suc k) fs)

pub jobs_for : (o : Options) (r : Recording) (fs : List FunctionItems) (jobs : List Job) → jobs ≡ map (job_with o) (weighed_from r 0 (map (at_step 1) fs)) → All IsJob jobs → AreJobs jobs fs
jobs_for o r fs jobs are each = record { each = each; scalars = ap (map (λ (job : Job). job.sequence.scalars)) are ∙ weighed_scalars o r 0 fs }

pub sequences_of : (o : Options) (seqs : List Sequence) → map (λ (job : Job). job.sequence) (map (job_with o) seqs) ≡ seqs
sequences_of o [] = refl
sequences_of o (s ∷ seqs) = ap (λ rest. s ∷ rest) (sequences_of o seqs)

-- the weighed sequence of a number
weighed_at : (r : Recording) (from k : ℕ) (seqs : List Sequence) (s : Sequence) → slice_get seqs k ≡ Some s → slice_get (weighed_from r from seqs) k ≡ Some (weighed s (counts_of r (from + k)))
weighed_at r from k [] s is = absurd cc
weighed_at r from zero (x ∷ xs) s is = ap (λ (t : Sequence). Some (weighed t (counts_of r from))) (same_Some x s is) ∙ ap (λ n. Some (weighed s (counts_of r n))) (none from)
  where
    none : (n : ℕ) → n ≡ n + 0
    none n = omega arith
weighed_at r from (suc k) (x ∷ xs) s is = weighed_at r (suc from) k xs s is ∙ ap (λ n. Some (weighed s (counts_of r n))) (more from k)
  where
    more : (n k : ℕ) → suc n + k ≡ n + suc k
    more n k = omega arith

map_at : {A B : Type 0} (h : A → B) (xs : List A) (k : ℕ) (x : A) → slice_get xs k ≡ Some x → slice_get (map h xs) k ≡ Some (h x)
map_at h [] k x is = absurd cc
map_at h (y ∷ ys) zero x is = ap (λ z. Some (h z)) (same_Some y x is)
map_at h (y ∷ ys) (suc k) x is = map_at h ys k x is

each_of : {A : Type 0} (P : A → Type 0) (xs : List A) → All P xs → (k : ℕ) (x : A) → slice_get xs k ≡ Some x → P x
each_of P [] all k x is = absurd cc
each_of P (y ∷ ys) all zero x is = subst P (same_Some y x is) (all 0 y (omega arith))
each_of P (y ∷ ys) all (suc k) x is = each_of P ys (λ i d within. all (suc i) d (omega (arith, within))) k x is

-- what the laws of weighed sequences say
abbrev pub Costs : Type 0
Costs = (seq : Sequence) (counts : List ℕ) (p : Placement) → cost_of (weighed seq counts) p ≡ run_cost seq counts p

abbrev pub ArrangedCosts : Type 0
ArrangedCosts = (seq : Sequence) (counts : List ℕ) (lists : List (List ℕ)) → arranged_cost (weighed seq counts) lists ≡ arranged_run_cost seq counts lists

abbrev pub PlacesKept : Type 0
PlacesKept = (seq : Sequence) (counts : List ℕ) (k : ℕ) (p : Placement) → IsPlacement seq k p → IsPlacement (weighed seq counts) k p

one_cost : Costs → ArrangedCosts → PlacesKept → (s : Sequence) (counts : List ℕ) (f : Frame) → f.seq ≡ weighed s counts → ClaimsHold f → HasRunCost s counts f
one_cost costs arranged places s counts f same claims = record {
  cost = claims.cost ∙ ap (λ (x : Sequence). arranged_cost x f.arr) same ∙ arranged s counts f.arr;
  least = λ optimal p is.
      let least = subst (λ (x : Sequence). Least x f.registers f.cost) same (claims.least optimal) in
      subst (λ n. f.cost ≤ n) (costs s counts p) (least.least p (places s counts f.registers p is));
}

none : (n : ℕ) → 0 + n ≡ n
none n = omega arith

pub run_costs : Costs → ArrangedCosts → PlacesKept → (r : Recording) (seqs : List Sequence) (frames : List Frame) → map (λ (f : Frame). f.seq) frames ≡ weighed_from r 0 seqs → All ClaimsHold frames → HaveRunCosts r seqs frames
run_costs costs arranged places r seqs frames same claims k s f listed there =
    one_cost costs arranged places s (counts_of r k) f
    (same_Some f.seq (weighed s (counts_of r k)) (sym (map_at (λ (g : Frame). g.seq) frames k f there) ∙ ap (λ xs. slice_get xs k) same ∙ weighed_at r 0 k seqs s listed ∙ ap (λ n. Some (weighed s (counts_of r n))) (none k)))
    (each_of ClaimsHold frames claims k f there)

-- what a fault of translation says of a program whose shape the image has
pub fault_says : (o : ProfileOptions) (r : Recording) (t : ProgramTree) (fault : TranslationFault) → HasShapeOf r.image t → Says (searched o r t) t fault → of_translation_fault fault ≢ faults.NoMemory
    → HasLayoutFault o r t (of_translation_fault fault)
fault_says o r t (translation.Plan why) shape says some = (shape, says)
fault_says o r t (translation.Link why) shape says some = (shape, says)
fault_says o r t translation.NoMemory shape says some = absurd (some refl)

-- jobs that were recorded are those that are searched
pub searched_jobs : (o : ProfileOptions) (r : Recording) (t : ProgramTree) (seqs : List Sequence) (jobs : List Job) → seqs ≡ accesses_of t → jobs ≡ map (job_with (search_options o)) (weighed_from r 0 seqs) → jobs_at 1 jobs ≡ searched o r t
searched_jobs o r t seqs jobs same are = ap (jobs_at 1) (are ∙ ap (λ (xs : List Sequence). map (job_with (search_options o)) (weighed_from r 0 xs)) same)

-- what follows of all that could be made
pub ok_then : {A E : Type 0} {P Q : A → Type 0} (r : Result A E) → IfOk r P → ((a : A) → P a → Q a) → IfOk r Q
ok_then (Ok a) h k = k a h
ok_then (Err e) h k = tt

-- there is a job for each function
weighed_count : (r : Recording) (k : ℕ) (seqs : List Sequence) → length (weighed_from r k seqs) ≡ length seqs
weighed_count r k [] = refl
weighed_count r k (s ∷ seqs) = ap suc (weighed_count r (suc k) seqs)

pub searched_count : (o : ProfileOptions) (r : Recording) (t : ProgramTree) → length (searched o r t).jobs ≡ length t.functions
searched_count o r t =
    length-map (weighed_from r 0 (accesses_of t)) (job_with (search_options o))
    ∙ weighed_count r 0 (accesses_of t)
    ∙ length-map t.functions (source_sequence 1)
