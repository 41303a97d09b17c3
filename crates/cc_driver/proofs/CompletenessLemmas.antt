-- A command whose files are in order is done, unless memory was wanting.
use Rattle.std.proofs.Common.{◌≡◌, ◌≢◌, ◌∙◌, ◌<◌, ◌≤◌, ◌+◌, ◌^◌, ℕ, List, [], ◌∷◌, inl, inr, refl, sym, ap, subst, lit<, arith}
use Rattle.std.proofs.Math.Nat.{min-eq_left}
use Rattle.std.specs.Prelude.{◌-◌, ◌⊎◌, Contains, IsTrue, Bool, true, false, if◌then◌else◌}
use Rattle.word_base.specs.declared.outcome.Outcome.{Outcome}
use Rattle.word_base.specs.declared.outcome.Outcome.TheVariants as outcome
use Rattle.word_base.specs.Ports.{input_of}
use Rattle.c_tree.specs.SourceRun.{source_run}
use Rattle.c25_isa.specs.Image.{Contents}
use Rattle.c25_isa.specs.declared.event.Stop.{Stop}
use Rattle.c25_isa.specs.declared.event.Stop.TheVariants as stop
use Rattle.lay_text.proofs.Exact.{says_not_read}
use Rattle.cc_check.specs.lay_cert.Frames.{Frame}
use Rattle.cc_check.specs.CheckText.{all_pass}
use Rattle.cc_check.proofs.lay_cert.Exact.{says_not_read as no_certificate}
use Rattle.cc_shelf.specs.Counts.{Rose}
use Rattle.cc_shelf.specs.Reliable.{PutsStayReliable, StaysReliable}
use Rattle.cc_words.specs.Asked.{Asked, ToBuild, ToRun, ToEvaluate, ToExecute, ToLayOut, ToCheck, ToAssemble, ToList}
use Rattle.cc_answers.specs.Answers.{Answered}
use Rattle.cc_answers.specs.MeansText.{outcome_status}
use Rattle.cc_answers.specs.RunText.{stop_status}
use Rattle.cc_files.specs.cc_compile.Limits.{IsWithinLimits}
use Rattle.cc_files.specs.cc_compile.SourceFaults.{HasFault, HasNoProgramFor, HasProgram}
use Rattle.cc_files.specs.cc_compile.declared.fault.BuildFault.{BuildFault}
use Rattle.cc_files.specs.frame_layouts.declared.options.Options.{Options}
use Rattle.c_tree.specs.TypedTree.{ProgramTree}
use Rattle.cc_files.specs.cc_text.Refusals.{Why, file_status, refusal_status}
use Rattle.cc_files.specs.Fetches.{Wanted, AreFetched, NotFetched, AtFile, ForMemory}
use Rattle.cc_files.specs.Stores.{Stored}
use Rattle.cc_files.specs.World.{Shelves, Sinks}
use Rattle.cc_driver.specs.Answers.{Answers, IsDone, IsRefused}
use Rattle.cc_driver.specs.Asm.{text_file}
use Rattle.cc_driver.specs.Build.{FileHas, chosen_options, plain_options, source_file}
use Rattle.cc_driver.specs.Check.{CheckRefused, certificate_file, check_answer}
use Rattle.cc_driver.specs.Check as check
use Rattle.cc_driver.specs.Commands.{Comes, FilesHave, Rejects, files_of}
use Rattle.cc_driver.specs.Completeness.{AreReliable, Completes, EndsDone, EndsWanting, IsAssemblerText, IsCertificateText, IsImageText, IsPortText, IsSequenceText, IsTypedSource, NothingFails}
use Rattle.cc_driver.specs.Exec.{ExecuteRefused}
use Rattle.cc_driver.specs.Exec as exec
use Rattle.cc_driver.specs.Layout.{sequence_file}
use Rattle.cc_driver.specs.Means.{MeansRefused}
use Rattle.cc_driver.specs.Means as means
use Rattle.cc_driver.specs.Run.{ImageRuns, RunRefused, image_file, ports_file}
use Rattle.cc_driver.specs.Run as run
use Rattle.cc_driver.specs.Work.{WorkRefused, AtFetch, AtFiles, AtStore, AtMemory, AtStoreForMemory}
use Rattle.cc_driver.proofs.CommandLemmas.{not_both, not_image, ports_refused}
use Rattle.cc_driver.proofs.DecidedLemmas.{answers_decide, missing}
use Rattle.cc_driver.proofs.StatusLemmas.{refused_status}
use Rattle.cc_driver.proofs.FileLemmas.{all_told, one_file, two_files}

-- ---- any command: where its files are told, and it refuses them for nothing, it is refused for want of memory alone

module _ (what : Asked) (shelf : Shelves) (sink : Sinks) (status : ℕ) (fine : NothingFails shelf sink) (told : AreFetched shelf (files_of what)) (none : (why : Why) → Rejects what shelf why → ⊥) where
  fetch_wants : (why : Why) → NotFetched shelf (files_of what) why → refusal_status why ≡ 5
  fetch_wants why (AtFile r) =
      absurd (all_told shelf fine.tells r.before r.last r.behind (file_status r.fault) (subst (AreFetched shelf) r.parts told) (missing what shelf fine.tells fine.fetches r.last r.failed r.fault r.cause))
  fetch_wants why (ForMemory e stopped) = ap refusal_status e

  work_wants : (why : Why) → WorkRefused what shelf why → refusal_status why ≡ 5
  work_wants why (AtFetch n kept) = fetch_wants why n
  work_wants why (AtFiles fetched r kept) = absurd (none why r)
  work_wants why (AtStore e r) = absurd (fine.stores r.ends.failed)
  work_wants why (AtMemory e asked fetched kept) = ap refusal_status e
  work_wants why (AtStoreForMemory e r) = ap refusal_status e

  pub completes : (statuses : List ℕ) → ((answer : Answered) (texts : List Stored) → Comes what shelf answer texts → Contains statuses answer.status) → Answers what shelf sink status
      → Completes what statuses shelf status
  completes statuses are (IsDone answer work put) = by ((answers_decide what shelf sink status (IsDone answer work put)).right answer work.texts fine.tells fine.fetches (λ some. fine.stores) (λ some. fine.puts) work.comes)
    where
      by : (status ≡ answer.status) ⊎ (status ≡ 5) → Completes what statuses shelf status
      by (inl e) = EndsDone answer work.texts work.comes work.stored (are answer work.texts work.comes) e
      by (inr e) = EndsWanting e
  completes statuses are (IsRefused why work refused) = by (refused_status why sink status refused)
    where
      by : (status ≡ refusal_status why) ⊎ ((status ≡ 5) × (refusal_status why ≢ 4) × (refusal_status why ≢ 5)) → Completes what statuses shelf status
      by (inl is) = EndsWanting (is ∙ work_wants why work)
      by (inr want) = EndsWanting want.0

-- ---- the files that are told

module _ (shelf : Shelves) where
  pub one_told : (w : Wanted) (P : List ℕ → Type 0) → FileHas shelf w P → AreFetched shelf (w ∷ [])
  one_told w P h = ((h.bytes, h.fetched), tt {0})

  pub two_told : (w v : Wanted) (P : List ℕ → List ℕ → Type 0) → FilesHave shelf w v P → AreFetched shelf (w ∷ v ∷ [])
  two_told w v P h = ((h.bytes, h.fetched), ((h.more, h.also), tt {0}))

-- ---- files in order are refused for nothing

-- a source within the limits has no fault, and a typed one none of tokens, syntax or types
abbrev pub NoFaults : Type 0
NoFaults = (o : Options) (bytes : List ℕ) (fault : BuildFault) → IsWithinLimits bytes → ¬ HasFault o bytes fault

abbrev pub NoTypeFaults : Type 0
NoTypeFaults = (bytes : List ℕ) (program : ProgramTree) (fault : BuildFault) → HasProgram bytes program → ¬ HasNoProgramFor fault bytes

good_ports : (name bytes : List ℕ) (why : Why) → IsPortText bytes → run.ArePortsRefused name bytes why → ⊥
good_ports name bytes why text r = ports_refused name bytes why text.0 r text.1

good_image : (name bytes : List ℕ) (why : Why) → IsImageText bytes → run.IsImageRefused name bytes why → ⊥
good_image name bytes why is r = not_image name bytes why is.0 r is.1

exec_good : NoFaults → (ports s p : List ℕ) (why : Why) → IsWithinLimits s → IsPortText p → ExecuteRefused ports s p why → ⊥
exec_good laws ports s p why within text (exec.PortsFirst bad) = good_ports ports p why text bad
exec_good laws ports s p why within text (exec.SourceThen lines also fault has is) = laws plain_options s fault within has

means_good : NoTypeFaults → (ports s p : List ℕ) (why : Why) → IsTypedSource s → IsPortText p → MeansRefused ports s p why → ⊥
means_good laws ports s p why typed text (means.PortsFirst bad) = good_ports ports p why text bad
means_good laws ports s p why typed text (means.SourceThen lines also fault has is) = laws s typed.0 fault typed.1 has

run_good : (image ports i p : List ℕ) (why : Why) → IsImageText i → IsPortText p → RunRefused image ports i p why → ⊥
run_good image ports i p why is text (run.BadImage bad) = good_image image i why is bad
run_good image ports i p why is text (run.BadPorts contents also bad) = good_ports ports p why text bad

check_good : (image certificate i c : List ℕ) (why : Why) → IsImageText i → IsCertificateText c → CheckRefused image certificate i c why → ⊥
check_good image certificate i c why is text (check.BadImage bad) = good_image image i why is bad
check_good image certificate i c why is text (check.BadCertificate contents also bad) = bad.some (no_certificate c text.0 text.1 bad.fault bad.says)

module _ (shelf : Shelves) (tells : IsTrue shelf.tells) where
  pub build_none : NoFaults → (source image : List ℕ) (registers budget step : ℕ) → FileHas shelf (source_file source) IsWithinLimits → (why : Why) → Rejects (ToBuild source image registers budget step) shelf why → ⊥
  build_none laws source image registers budget step good why r =
      let h = one_file shelf tells _ _ _ good r in
      laws (chosen_options registers budget step) h.0 h.2.fault h.1 h.2.has

  pub exec_none : NoFaults → (source ports : List ℕ) (steps : ℕ) → FilesHave shelf (source_file source) (ports_file ports) (λ s p. IsWithinLimits s × IsPortText p) → (why : Why)
      → Rejects (ToExecute source ports steps) shelf why → ⊥
  exec_none laws source ports steps good why r =
      let h = two_files shelf tells _ _ _ _ good r in
      exec_good laws ports h.0 h.1.0 why h.1.1.0 h.1.1.1 h.1.2

  pub means_none : NoTypeFaults → (source ports : List ℕ) (turns : ℕ) → FilesHave shelf (source_file source) (ports_file ports) (λ s p. IsTypedSource s × IsPortText p) → (why : Why)
      → Rejects (ToEvaluate source ports turns) shelf why → ⊥
  means_none laws source ports turns good why r =
      let h = two_files shelf tells _ _ _ _ good r in
      means_good laws ports h.0 h.1.0 why h.1.1.0 h.1.1.1 h.1.2

  pub run_none : (image ports : List ℕ) (steps : ℕ) → FilesHave shelf (image_file image) (ports_file ports) (λ i p. IsImageText i × IsPortText p) → (why : Why) → Rejects (ToRun image ports steps) shelf why → ⊥
  run_none image ports steps good why r =
      let h = two_files shelf tells _ _ _ _ good r in
      run_good image ports h.0 h.1.0 why h.1.1.0 h.1.1.1 h.1.2

  pub layout_none : (sequence : List ℕ) (registers budget : ℕ) → FileHas shelf (sequence_file sequence) IsSequenceText → (why : Why) → Rejects (ToLayOut sequence registers budget) shelf why → ⊥
  layout_none sequence registers budget good why r =
      let h = one_file shelf tells _ _ _ good r in
      h.2.some (says_not_read h.0 h.1.0 h.1.1 h.2.fault h.2.says)

  pub check_none : (image certificate : List ℕ) → FilesHave shelf (image_file image) (certificate_file certificate) (λ i c. IsImageText i × IsCertificateText c) → (why : Why)
      → Rejects (ToCheck image certificate) shelf why → ⊥
  check_none image certificate good why r =
      let h = two_files shelf tells _ _ _ _ good r in
      check_good image certificate h.0 h.1.0 why h.1.1.0 h.1.1.1 h.1.2

  pub asm_none : (text image : List ℕ) → FileHas shelf (text_file text) IsAssemblerText → (why : Why) → Rejects (ToAssemble text image) shelf why → ⊥
  asm_none text image good why r =
      let h = one_file shelf tells _ _ _ good r in
      not_both _ h.1.0 h.2.fault h.1.1 h.2.says

  pub dis_none : (image : List ℕ) → FileHas shelf (image_file image) IsImageText → (why : Why) → Rejects (ToList image) shelf why → ⊥
  dis_none image good why r =
      let h = one_file shelf tells _ _ _ good r in
      good_image image h.0 why h.1 h.2

-- ---- the statuses of what files come to

pub done_status : (a b : Answered) → a ≡ b → b.status ≡ 0 → Contains (0 ∷ []) a.status
done_status a b e zero = (0, lit< tt, sym (ap (λ x. x.status) e ∙ zero))

stop_among : (s : Stop) → Contains (0 ∷ 6 ∷ 7 ∷ []) (stop_status s)
stop_among (stop.Ended ending) = (0, lit< tt, refl)
stop_among (stop.Trap kind at) = (2, lit< tt, refl)
stop_among stop.Running = (1, lit< tt, refl)

pub run_status : (words : List ℕ) (lines : List (ℕ × ℕ)) (steps : ℕ) (answer : Answered) → ImageRuns words lines steps answer → Contains (0 ∷ 6 ∷ 7 ∷ []) answer.status
run_status words lines steps answer r = subst (λ a. Contains (0 ∷ 6 ∷ 7 ∷ []) a.status) (sym r.is) (stop_among r.stands)

outcome_among : (o : Outcome) → Contains (0 ∷ 6 ∷ 10 ∷ []) (outcome_status o)
outcome_among (outcome.Ended outs ending) = (0, lit< tt, refl)
outcome_among (outcome.More outs) = (1, lit< tt, refl)
outcome_among (outcome.Undefined outs kind at) = (2, lit< tt, refl)

pub means_status : (s p : List ℕ) (turns : ℕ) (answer : Answered) → means.MeansTo s p turns answer → Contains (0 ∷ 6 ∷ 10 ∷ []) answer.status
means_status s p turns answer m = subst (λ a. Contains (0 ∷ 6 ∷ 10 ∷ []) a.status) (sym m.is) (outcome_among (source_run m.program (input_of m.lines) turns))

check_among : (passes : Bool) → Contains {X = ℕ} (0 ∷ 8 ∷ []) (if passes then 0 else 8)
check_among true = (0, lit< tt, refl)
check_among false = (1, lit< tt, refl)

pub check_status : (contents : Contents) (frames : List Frame) (answer : Answered) → answer ≡ check_answer contents frames → Contains (0 ∷ 8 ∷ []) answer.status
check_status contents frames answer is = subst (λ a. Contains (0 ∷ 8 ∷ []) a.status) (sym is) (check_among (all_pass contents frames))

-- ---- shelves and sinks of which no call can fail

-- a count that stayed, and isn't at its greatest value, didn't rise
not_risen : (before now : ℕ) → before < 2 ^ 64 - 1 → now ≡ before → Rose before now → ⊥
not_risen before now less same rose =
    let most : before + 1 ≤ 2 ^ 64 - 1 = omega (arith, less) in
    let risen : before + 1 ≤ now = subst (λ k. k ≤ now) (min-eq_left most) rose in
    omega (arith, risen, same)

pub reliable_fails_nothing : (shelf : Shelves) (sink : Sinks) → IsTrue shelf.tells → AreReliable shelf sink → StaysReliable shelf.before shelf.now → PutsStayReliable sink.before sink.now → NothingFails shelf sink
reliable_fails_nothing shelf sink tells are stays puts = record {
  tells = tells;
  fetches = not_risen shelf.before.counts.fetch_faults shelf.now.counts.fetch_faults are.fetch_faults (stays are.files).fetches;
  stores = not_risen shelf.before.counts.store_faults shelf.now.counts.store_faults are.store_faults (stays are.files).stores;
  puts = not_risen sink.before.faults sink.now.faults are.put_faults (puts are.output).faults;
}
