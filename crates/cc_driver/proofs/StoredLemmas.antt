-- What `run` and `check` make of the texts that `build` stored.
use Rattle.std.proofs.Common.{◌≡◌, ◌∙◌, ◌+◌, ◌<◌, ◌++◌, ℕ, zero, suc, Bool, true, false, List, [], ◌∷◌, Some, None, length, map, refl, sym, ap, ap₂, subst, append-nil, arith}
use Rattle.std.specs.Coded.{Coded-set, coded_list, coded_ℕ}
use Rattle.std.specs.Prelude.{◌≢◌, ◌&&◌, All, AllPairs, codes, slice_get, slice_index_or, option_map, option_and_then, if◌then◌else◌, decimal}
use Rattle.std.specs.List.{flat_map, list_all, position_from}
use Rattle.std.specs.Str.{bytes_eq}
use Rattle.std.proofs.Math.Bool.{Bool-set}
use Rattle.std.proofs.Math.Logic.{∥∥₁_elim}
use Rattle.std.proofs.lemmas.Bool.Decides.{Decides-eqb}
use Rattle.std.proofs.lemmas.List.{length-map}
use Rattle.std.proofs.lemmas.List.Elements.{All-get_or}
use Rattle.std.proofs.lemmas.List.Folds.{list_any_at}
use Rattle.std.proofs.lemmas.Option.{slice_get-map, get_or_from_slice_get, slice_get_within}
use Rattle.std.proofs.lemmas.Slice.Eq.{bytes_eq-Decides}
use Rattle.c25_isa.specs.declared.image.FunctionRange.{FunctionRange}
use Rattle.c25_isa.specs.Image.{Contents}
use Rattle.c25_isa.specs.Walk.{walk}
use Rattle.c25_image.specs.ImageText.{image_text}
use Rattle.c_tree.specs.TypedTree.{FunctionTree, ProgramTree}
use Rattle.lay_cost.specs.Cost.{arranged_cost}
use Rattle.cc_check.specs.declared.finding.Finding.{Finding}
use Rattle.cc_check.specs.declared.finding.Finding.TheVariants as findings
use Rattle.cc_check.specs.lay_cert.declared.certificate.Claim.{Claim}
use Rattle.cc_check.specs.lay_cert.declared.certificate.Claim.TheVariants.{Optimal, Best}
use Rattle.cc_check.specs.lay_cert.declared.replaying.Verdict.{Verdict}
use Rattle.cc_check.specs.lay_cert.declared.replaying.Verdict.TheVariants as verdicts
use Rattle.cc_check.specs.lay_cert.CertReading.{Reads}
use Rattle.cc_check.specs.lay_cert.CertText.{cert_text}
use Rattle.cc_check.specs.lay_cert.Frames.{Frame}
use Rattle.cc_check.specs.lay_cert.Verdicts.{claim_verdict, log_verdict, verdict_of}
use Rattle.cc_check.specs.CheckText.{all_pass, check_text, finding_text, frame_line, has_frame, is_number, line_of, no_frame_lines}
use Rattle.cc_check.specs.Findings.{blocks_finding, expected_blocks, finding_of, first_difference, function_finding, function_of, is_pass, number_of, verdict_finding, walk_finding}
use Rattle.cc_check.proofs.lay_cert.Exact.{reads_same as certificates_same}
use Rattle.cc_report.specs.Report.{claim}
use Rattle.cc_files.specs.cc_compile.Compiles.{names_of}
use Rattle.cc_files.specs.cc_compile.Walked.{AccessAs, AreWalked, IsWalked}
use Rattle.cc_files.specs.frame_layouts.declared.options.Options.{Options}
use Rattle.cc_files.specs.frame_layouts.Frames.{ClaimsHold}
use Rattle.cc_files.specs.frame_layouts.Rows.{is_optimal, row_of}
use Rattle.cc_files.specs.image_proof.acc_select_proof.SourceSequences.{source_sequence}
use Rattle.cc_files.specs.Stores.{Stored}
use Rattle.cc_answers.specs.Answers.{Answered}
use Rattle.cc_driver.specs.Build.{BuildsTo, certificate_name, plain_options}
use Rattle.cc_driver.specs.Check.{ChecksTo, check_answer}
use Rattle.cc_driver.specs.Exec.{ExecutesTo}
use Rattle.cc_driver.specs.Run.{ImageRuns, IsImageOf, RunsTo}
use Rattle.cc_driver.specs.Stored.{ChecksAsReported, checked_line, image_and_certificate}
use Rattle.cc_driver.proofs.CommandLemmas.{exec_one, one_contents}

-- ---- the texts

abbrev two_texts : List ℕ → List ℕ → List ℕ → List ℕ → List Stored
two_texts name text other more = record { name = name; text = text } ∷ record { name = other; text = more } ∷ []

text_of : List Stored → List ℕ
text_of [] = []
text_of (s ∷ more) = s.text

behind_first : List Stored → List Stored
behind_first [] = []
behind_first (s ∷ more) = more

first_text : (a b x y m n : List ℕ) → two_texts a x m b ≡ two_texts a y m n → x ≡ y
unfolding text_of
first_text a b x y m n e = ap text_of e

second_text : (a b x y m n : List ℕ) → two_texts a x m b ≡ two_texts a y m n → b ≡ n
unfolding text_of behind_first
second_text a b x y m n e = ap (λ l. text_of (behind_first l)) e

module _ (o : Options) (name source image certificate : List ℕ) (reported : Answered) (h : BuildsTo o name source reported (image_and_certificate name image certificate)) where
  pub is_image : IsImageOf h.image image
  is_image = record { whole = h.whole; text = first_text name certificate image (image_text h.image) (certificate_name name) (cert_text h.frames) h.stored }

  pub is_certificate : certificate ≡ cert_text h.frames
  is_certificate = second_text name certificate image (image_text h.image) (certificate_name name) (cert_text h.frames) h.stored

-- ---- run

pub runs_stored : (name source ports image certificate : List ℕ) (steps : ℕ) (reported run executed : Answered) → BuildsTo plain_options name source reported (image_and_certificate name image certificate)
    → RunsTo image ports steps run → ExecutesTo source ports steps executed → run ≡ executed
runs_stored name source ports image certificate steps reported run executed h r x =
    let same = one_contents image r.contents h.image r.image (is_image plain_options name source image certificate reported h) in
    let here : ExecutesTo source ports steps run = record {
      image = h.image;
      frames = h.frames;
      lines = r.lines;
      built = h.built;
      made = h.made;
      ports = r.ports;
      runs = subst (λ (c : Contents). ImageRuns c.words r.lines steps run) same r.runs;
    } in
    exec_one source ports steps run executed here x

-- ---- the function of a frame, by its name

abbrev range_name : FunctionRange → List ℕ
range_name g = g.name

abbrev Differ : List (List ℕ) → Type 0
Differ names = AllPairs (λ a b. a ≢ b) names

not_equal : (a b : List ℕ) → a ≢ b → bytes_eq a b ≡ false
not_equal a b n = by (bytes_eq a b) (bytes_eq-Decides a b).0
  where
    by : (t : Bool) → (t ≡ true → a ≡ b) → t ≡ false
    by true same = absurd (n (same refl))
    by false same = refl

first_at : (gs : List FunctionRange) (i k : ℕ) (name : List ℕ) (g : FunctionRange) → slice_get gs k ≡ Some g → g.name ≡ name
    → ((j : ℕ) (x : FunctionRange) → j < k → slice_get gs j ≡ Some x → x.name ≢ name) → position_from (λ x. bytes_eq x.name name) i gs ≡ Some (i + k)
first_at [] i k name g at named before = absurd cc
first_at (x ∷ gs) i zero name g at named before =
    let same : x ≡ g = same_some x g at in
    let here : i ≡ i + 0 = omega arith in
    ap (λ b. if b then Some i else position_from (λ y. bytes_eq y.name name) (i + 1) gs) ((bytes_eq-Decides x.name name).1 (ap range_name same ∙ named)) ∙ ap Some here
  where
    same_some : (a b : FunctionRange) → Some a ≡ Some b → a ≡ b
    same_some a b e = cc
first_at (x ∷ gs) i (suc k) name g at named before =
    let rest = first_at gs (i + 1) k name g at named (λ j y less there. before (suc j) y (omega (arith, less)) there) in
    let further : i + 1 + k ≡ i + suc k = omega arith in
    ap (λ b. if b then Some i else position_from (λ y. bytes_eq y.name name) (i + 1) gs) (not_equal x.name name (before zero x (omega arith) refl)) ∙ rest ∙ ap Some further

name_at : (gs : List FunctionRange) (k : ℕ) (g : FunctionRange) (d : List ℕ) → slice_get gs k ≡ Some g → slice_index_or (map range_name gs) k d ≡ g.name
name_at gs k g d at = get_or_from_slice_get (map range_name gs) k g.name d (slice_get-map range_name gs k ∙ ap (option_map range_name) at)

pub number_at : (gs : List FunctionRange) (k : ℕ) (g : FunctionRange) → Differ (map range_name gs) → slice_get gs k ≡ Some g → number_of gs g.name ≡ Some k
number_at gs k g differ at =
    first_at gs 0 k g.name g at refl
    (λ j x less there same.
    let within : k < length (map range_name gs) = subst (λ n. k < n) (sym (length-map gs range_name)) (slice_get_within gs k g at) in
    differ j k [] less within (name_at gs j x [] there ∙ same ∙ sym (name_at gs k g [] at)))
    ∙ ap Some (let none : 0 + k ≡ k = omega arith in none)

-- ---- what is found of a frame

no_difference : (bs : List (List ℕ)) → first_difference bs bs ≡ None
no_difference [] = refl
no_difference (b ∷ bs) =
    ap (λ t. if t then option_map suc (first_difference bs bs) else Some 0) ((bytes_eq-Decides b b).1 refl) ∙ ap (option_map suc) (no_difference bs)

-- by its claim
abbrev passed : Claim → ℕ → Finding
passed Optimal cost = findings.Optimal cost
passed (Best piece quota) cost = findings.Best cost

abbrev verdict_for : Claim → Verdict
verdict_for Optimal = verdicts.Yes
verdict_for (Best piece quota) = verdicts.Best

claimed : (f : Frame) (c : Claim) → f.claim ≡ c → ClaimsHold f → claim_verdict f c ≡ verdict_for c
claimed f Optimal is holds = ap (log_verdict f.cost) (holds.log is)
claimed f (Best piece quota) is holds = refl

verdict_is : (f : Frame) → ClaimsHold f → verdict_of f ≡ verdict_for f.claim
verdict_is f holds =
    ap (λ b. if b then claim_verdict f f.claim else verdicts.Cost f.cost (arranged_cost f.seq f.arr)) ((Decides-eqb (arranged_cost f.seq f.arr) f.cost).1 (sym holds.cost)) ∙ claimed f f.claim refl holds

by_verdict : (c : Claim) (cost : ℕ) → verdict_finding cost (verdict_for c) ≡ passed c cost
by_verdict Optimal cost = refl
by_verdict (Best piece quota) cost = refl

pub found : (image : Contents) (k : ℕ) (f : Frame) → Differ (map range_name image.functions) → IsWalked image k f → ClaimsHold f → finding_of image f ≡ passed f.claim f.cost
found image k f differ w holds =
    let number = subst (λ n. number_of image.functions n ≡ Some k) w.named (number_at image.functions k w.range differ w.there) in
    let function : function_of image.functions f.name ≡ Some w.range = ap (option_and_then (slice_get image.functions)) number ∙ w.there in
    ap (function_finding image.words f) function
    ∙ ap (λ n. walk_finding f n (walk image.words w.range.first w.range.last)) w.counts
    ∙ ap (walk_finding f f.cost) w.walks
    ∙ ap (blocks_finding f f.cost) (no_difference (expected_blocks f))
    ∙ ap (λ b. if b then verdict_finding f.cost (verdict_of f) else findings.Count f.cost f.cost) ((Decides-eqb f.cost f.cost).1 refl)
    ∙ ap (verdict_finding f.cost) (verdict_is f holds)
    ∙ by_verdict f.claim f.cost

-- ---- the lines of frames

abbrev IsPassed : Contents → Frame → Type 0
IsPassed image f = finding_of image f ≡ passed f.claim f.cost

passed_text : (c : Claim) (cost : ℕ) → finding_text (passed c cost) ≡ claim (is_optimal c) ++ 32 ∷ decimal cost
passed_text Optimal cost = refl
passed_text (Best piece quota) cost = refl

passed_pass : (c : Claim) (cost : ℕ) → is_pass (passed c cost) ≡ true
passed_pass Optimal cost = refl
passed_pass (Best piece quota) cost = refl

module _ (image : Contents) where
  line_is : (f : Frame) → IsPassed image f → frame_line image f ≡ checked_line (row_of f)
  line_is f is = ap (line_of f.name) (ap finding_text is ∙ passed_text f.claim f.cost)

  lines_are : (fs : List Frame) → ((k : ℕ) (f : Frame) → slice_get fs k ≡ Some f → IsPassed image f) → flat_map (frame_line image) fs ≡ flat_map checked_line (map row_of fs)
  lines_are [] each = refl
  lines_are (f ∷ fs) each = ap₂ (λ a b. a ++ b) (line_is f (each zero f refl)) (lines_are fs (λ k g at. each (suc k) g at))

  all_are : (fs : List Frame) → ((k : ℕ) (f : Frame) → slice_get fs k ≡ Some f → IsPassed image f) → list_all (λ f. is_pass (finding_of image f)) fs ≡ true
  all_are [] each = refl
  all_are (f ∷ fs) each = ap₂ ◌&&◌ (ap is_pass (each zero f refl) ∙ passed_pass f.claim f.cost) (all_are fs (λ k g at. each (suc k) g at))

-- ---- no function is without a frame

none_left : (framed : ℕ → Bool) (k : ℕ) (gs : List FunctionRange) → ((j : ℕ) → j < length gs → framed (k + j) ≡ true) → no_frame_lines framed k gs ≡ []
none_left framed k [] each = refl
none_left framed k (g ∷ gs) each =
    let here : framed k ≡ true = subst (λ n. framed n ≡ true) (let n : k + 0 ≡ k = omega arith in n) (each zero (omega arith)) in
    ap (λ b. (if b then [] else line_of g.name (codes "no frame")) ++ no_frame_lines framed (k + 1) gs) here
    ∙ none_left framed (k + 1) gs (λ j less. subst (λ n. framed n ≡ true) (let n : k + suc j ≡ k + 1 + j = omega arith in n) (each (suc j) (omega (arith, less))))

there : (fs : List Frame) (k : ℕ) → k < length fs → (f : Frame) × (slice_get fs k ≡ Some f)
there [] k less = absurd (omega (arith, less))
there (f ∷ fs) zero less = (f, refl)
there (f ∷ fs) (suc k) less = there fs k (omega (arith, less))

module _ (image : Contents) (frames : List Frame) (differ : Differ (map range_name image.functions)) (walked : AreWalked image frames) where
  framed_at : (k : ℕ) → k < length frames → has_frame image.functions frames k ≡ true
  framed_at k less =
      let f = there frames k less in
      let w = walked k f.0 f.1 in
      let number : number_of image.functions f.0.name ≡ Some k = subst (λ n. number_of image.functions n ≡ Some k) w.named (number_at image.functions k w.range differ w.there) in
      let is : is_number k (number_of image.functions f.0.name) ≡ true = ap (is_number k) number ∙ (Decides-eqb k k).1 refl in
      list_any_at (λ g. is_number k (number_of image.functions g.name)) frames k f.0 less
      (ap (λ (g : Frame). is_number k (number_of image.functions g.name)) (get_or_from_slice_get frames k f.0 f.0 f.1) ∙ is)

  each_passes : All ClaimsHold frames → (k : ℕ) (f : Frame) → slice_get frames k ≡ Some f → IsPassed image f
  each_passes claims k f at =
      let holds = subst ClaimsHold (get_or_from_slice_get frames k f f at) (All-get_or ClaimsHold frames k f (slice_get_within frames k f at) claims) in
      found image k f differ (walked k f at) holds

  pub text_is : All ClaimsHold frames → length frames ≡ length image.functions → check_text image frames ≡ flat_map checked_line (map row_of frames)
  text_is claims long =
      ap₂ (λ a b. a ++ b) (lines_are image frames (each_passes claims))
      (none_left (has_frame image.functions frames) 0 image.functions (λ j less.
      let none : j ≡ 0 + j = omega arith in
      subst (λ n. has_frame image.functions frames n ≡ true) none (framed_at j (omega (arith, less, long)))))
      ∙ append-nil (flat_map checked_line (map row_of frames))

  pub pass_is : All ClaimsHold frames → all_pass image frames ≡ true
  pass_is claims = all_are image frames (each_passes claims)

-- ---- check

frames_count : (step : ℕ) (t : ProgramTree) (image : Contents) (frames : List Frame) → AccessAs step t frames → map range_name image.functions ≡ names_of t → length frames ≡ length image.functions
frames_count step t image frames accesses named =
    let one = sym (length-map frames (λ (f : Frame). f.seq)) ∙ ap length accesses ∙ length-map t.functions (source_sequence step) in
    let two = sym (length-map image.functions range_name) ∙ ap length named ∙ length-map t.functions (λ (f : FunctionTree). f.name) in
    one ∙ sym two

abbrev said : List ℕ → Bool → Answered
said text passes = record { text = Some text; status = if passes then 0 else 8 }

pub checks_stored : (o : Options) (name source image certificate : List ℕ) (reported checked : Answered) (h : BuildsTo o name source reported (image_and_certificate name image certificate))
    → map range_name h.image.functions ≡ names_of h.built.program → Differ (names_of h.built.program) → ChecksTo image certificate checked → ChecksAsReported h.frames reported checked
checks_stored o name source image certificate reported checked h named differ k =
    let contents = one_contents image k.contents h.image k.image (is_image o name source image certificate reported h) in
    let frames = certificates_same certificate k.frames h.frames k.reads (subst (λ b. Reads b h.frames) (sym (is_certificate o name source image certificate reported h)) h.reads) in
    let apart = subst Differ (sym named) differ in
    let long = frames_count o.step h.built.program h.image h.frames h.built.accesses named in
    let text = ∥∥₁_elim h.built.walked (Coded-set (coded_list coded_ℕ) _ _) (λ walked. text_is h.image h.frames apart walked h.claims long) in
    let pass = ∥∥₁_elim h.built.walked (Bool-set _ _) (λ walked. pass_is h.image h.frames apart walked h.claims) in
    record {
      reports = h.reported;
      checks = k.is ∙ ap (λ c. check_answer c k.frames) contents ∙ ap (check_answer h.image) frames ∙ ap₂ said text pass;
    }
