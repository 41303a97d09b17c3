-- The told files come to one thing or are refused for one, for each command.
use Rattle.std.proofs.Common.{◌≡◌, ◌≢◌, ◌∙◌, ◌++◌, ℕ, List, [], ◌∷◌, length, refl, sym, ap, ap₂, subst, lit<, IsTrue}
use Rattle.std.specs.Prelude.{Result, Ok, Err}
use Rattle.cc_words.specs.Asked.{Asked, ToBuild, ToRun, ToEvaluate, ToExecute, ToLayOut, ToCheck, ToAssemble, ToList, ToGenerate, ToDebug, ToExpand, ToJoin, ToPbuild}
use Rattle.word_base.specs.Ports.{Outputs, input_of}
use Rattle.c_tree.specs.SourceRun.{source_run}
use Rattle.c25_isa.specs.Image.{Contents}
use Rattle.c25_isa.specs.State.{zero_start}
use Rattle.c25_isa.specs.declared.event.Stop.{Stop}
use Rattle.c25_isa.specs.declared.event.Stop.TheVariants as stop
use Rattle.c25_isa.specs.MachineRun.{machine_run}
use Rattle.c25_sim.specs.Answers.{reached_of}
use Rattle.c25_sim.specs.Taken.{of_sixteen}
use Rattle.c25_image.specs.declared.fault.PortFault.{PortFault}
use Rattle.c25_image.specs.declared.fault.PortFault.TheVariants as port_faults
use Rattle.c25_image.specs.PortText.{PortText, PortSays}
use Rattle.c25_image.proofs.ImageEnds.{text_injective}
use Rattle.c25_image.proofs.ImageExact.{says_no_text}
use Rattle.c25_image.proofs.PortLines.{bad_no_text, one_port_text}
use Rattle.c25_debug.specs.declared.command.Command.{Command}
use Rattle.c25_debug.specs.Session.{Session}
use Rattle.c25_debug.proofs.OneSession.{session_one, scripts_same, says_no_script}
use Rattle.c25_asm.specs.AssemblerText.{assembled}
use Rattle.c25_asm.specs.declared.fault.AsmFault.{AsmFault}
use Rattle.lay_text.proofs.Exact.{sequences_same, says_not_read}
use Rattle.lay_tree.specs.Search.{search_answer}
use Rattle.cc_files.specs.cc_compile.Images.{HasImage, HasFrames, source_jobs}
use Rattle.cc_check.specs.lay_cert.Frames.{Frame}
use Rattle.cc_check.proofs.lay_cert.Exact.{reads_same as certificates_same, says_not_read as no_certificate}
use Rattle.cc_files.specs.frame_layouts.declared.options.Options.{Options}
use Rattle.cc_files.proofs.cc_compile.OneImage.{one as one_image, frames_same}
use Rattle.cc_files.specs.cc_compile.SourceFaults.{IsAccepted}
use Rattle.cc_files.proofs.cc_compile.OneFault.{accepted_no_fault, program_no_fault, same_program}
use Rattle.cc_files.specs.cc_compile.Made.{IsMade}
use Rattle.cc_files.specs.lay_profile.declared.fault.ProfileFault.{ProfileFault}
use Rattle.cc_files.specs.lay_profile.declared.fault.ProfileFault.TheVariants as profile_faults
use Rattle.cc_files.specs.lay_profile.declared.options.ProfileOptions.{ProfileOptions}
use Rattle.cc_files.specs.lay_profile.Profiles.{IsProfiled, HasFault}
use Rattle.cc_files.specs.lay_profile.Recordings.{Recording, recording_of}
use Rattle.cc_files.proofs.lay_profile.OneProfile.{one_framed as one_weighted, one_entered, profiled_no_fault, other_source_alone, memory_no_fault}
use Rattle.cc_files.proofs.c_macro.OneOutcome.{outcome_one}
use Rattle.cc_files.proofs.c_units.OneOutcome.{joined_not}
use Rattle.cc_files.proofs.FetchLemmas.{with_bytes, same_contents}
use Rattle.cc_files.specs.c_macro.declared.fault.MacroFault.{MacroFault}
use Rattle.cc_files.specs.c_syntax.declared.token.Token.{Token}
use Rattle.cc_files.specs.c_units.Joining.{Joins}
use Rattle.cc_gen.specs.Generated.{generated}
use Rattle.cc_answers.specs.Answers.{Answered}
use Rattle.cc_files.specs.cc_text.Refusals.{Why, refusal_status, of_profile_fault}
use Rattle.cc_answers.specs.RunText.{run_answer}
use Rattle.cc_answers.specs.MeansText.{means_answer}
use Rattle.cc_answers.specs.LayoutText.{layout_answer}
use Rattle.cc_answers.specs.GenText.{gen_answer}
use Rattle.cc_files.specs.World.{Shelves}
use Rattle.cc_files.specs.Fetches.{AreFetched}
use Rattle.cc_files.specs.Stores.{Stored, FailsAtOne}
use Rattle.cc_driver.specs.Build.{plain_options, chosen_options, report_of, BuildsTo, IsRefusedFor}
use Rattle.cc_driver.specs.Run.{IsImageOf, IsImageRefused, ImageRuns, RunsTo, RunRefused, BadImage, BadPorts, ArePortsRefused}
use Rattle.cc_driver.specs.Means.{MeansTo, MeansRefused, PortsFirst, SourceThen}
use Rattle.cc_driver.specs.Exec.{ExecutesTo, ExecuteRefused}
use Rattle.cc_driver.specs.Exec as exec
use Rattle.cc_driver.specs.Layout.{LaysOutTo, LayoutRefused}
use Rattle.cc_driver.specs.Check.{ChecksTo, CheckRefused, check_answer}
use Rattle.cc_driver.specs.Check as check
use Rattle.cc_driver.specs.Asm.{AssemblesTo, AssembleRefused}
use Rattle.cc_driver.specs.Dis.{ListsTo, listing_answer}
use Rattle.cc_driver.specs.Gen.{Summarizes, GeneratesTo, GenerateRefused, gen_steps}
use Rattle.cc_driver.specs.Debug.{DebugsTo, DebugRefused, session_answer}
use Rattle.cc_driver.specs.Debug as debug
use Rattle.cc_driver.specs.Pre.{ExpandsTo, ExpandRefused}
use Rattle.cc_driver.specs.Join.{JoinsTo, JoinRefused}
use Rattle.cc_driver.specs.Profile.{recorded_options, profile_of, ProfilesTo, ProfileRefused}
use Rattle.cc_driver.specs.Profile as profile
use Rattle.cc_driver.specs.Commands.{files_of, stores_under, Comes, Rejects}
use Rattle.cc_driver.proofs.StatusLemmas.{IsAnswerStatus, of_report, of_stop, of_summary, of_outcome, of_check}
use Rattle.cc_driver.proofs.FileLemmas.{one_file, two_files, three_files}

-- ---- what is refused or done was told

pub comes_told : (what : Asked) (shelf : Shelves) (answer : Answered) (texts : List Stored) → Comes what shelf answer texts → AreFetched shelf (files_of what)
comes_told (ToBuild source image registers budget step) shelf answer texts c = ((c.bytes, c.fetched), tt {0})
comes_told (ToRun image ports steps) shelf answer texts c = ((c.0.bytes, c.0.fetched), ((c.0.more, c.0.also), tt {0}))
comes_told (ToEvaluate source ports turns) shelf answer texts c = ((c.0.bytes, c.0.fetched), ((c.0.more, c.0.also), tt {0}))
comes_told (ToExecute source ports steps) shelf answer texts c = ((c.0.bytes, c.0.fetched), ((c.0.more, c.0.also), tt {0}))
comes_told (ToLayOut sequence registers budget) shelf answer texts c = ((c.0.bytes, c.0.fetched), tt {0})
comes_told (ToCheck image certificate) shelf answer texts c = ((c.0.bytes, c.0.fetched), ((c.0.more, c.0.also), tt {0}))
comes_told (ToAssemble text image) shelf answer texts c = ((c.bytes, c.fetched), tt {0})
comes_told (ToList image) shelf answer texts c = ((c.0.bytes, c.0.fetched), tt {0})
comes_told (ToGenerate number) shelf answer texts c = tt {0}
comes_told (ToDebug image ports script) shelf answer texts c = ((c.0.bytes, c.0.fetched), ((c.0.more, c.0.also), ((c.0.last, c.0.too), tt {0})))
comes_told (ToExpand source output) shelf answer texts c = ((c.bytes, c.fetched), tt {0})
comes_told (ToJoin output sources) shelf answer texts c = with_bytes shelf (files_of (ToJoin output sources)) c.contents c.fetched
comes_told (ToPbuild source first ports image registers budget steps) shelf answer texts c = ((c.bytes, c.fetched), ((c.more, c.also), ((c.last, c.too), tt {0})))

pub refuses_told : (what : Asked) (shelf : Shelves) (why : Why) → Rejects what shelf why → AreFetched shelf (files_of what)
refuses_told (ToBuild source image registers budget step) shelf why r = ((r.bytes, r.fetched), tt {0})
refuses_told (ToRun image ports steps) shelf why r = ((r.bytes, r.fetched), ((r.more, r.also), tt {0}))
refuses_told (ToEvaluate source ports turns) shelf why r = ((r.bytes, r.fetched), ((r.more, r.also), tt {0}))
refuses_told (ToExecute source ports steps) shelf why r = ((r.bytes, r.fetched), ((r.more, r.also), tt {0}))
refuses_told (ToLayOut sequence registers budget) shelf why r = ((r.bytes, r.fetched), tt {0})
refuses_told (ToCheck image certificate) shelf why r = ((r.bytes, r.fetched), ((r.more, r.also), tt {0}))
refuses_told (ToAssemble text image) shelf why r = ((r.bytes, r.fetched), tt {0})
refuses_told (ToList image) shelf why r = ((r.bytes, r.fetched), tt {0})
refuses_told (ToGenerate number) shelf why r = tt {0}
refuses_told (ToDebug image ports script) shelf why r = ((r.bytes, r.fetched), ((r.more, r.also), ((r.last, r.too), tt {0})))
refuses_told (ToExpand source output) shelf why r = ((r.bytes, r.fetched), tt {0})
refuses_told (ToJoin output sources) shelf why r = with_bytes shelf (files_of (ToJoin output sources)) r.contents r.fetched
refuses_told (ToPbuild source first ports image registers budget steps) shelf why r = ((r.bytes, r.fetched), ((r.more, r.also), ((r.last, r.too), tt {0})))

-- ---- stores

no_parts : (done : List Stored) (next : Stored) (left : List Stored) → [] ≡ done ++ next ∷ left → ⊥
no_parts [] next left e = cc
no_parts (x ∷ xs) next left e = cc

none_fails : (what : Asked) (shelf : Shelves) (texts : List Stored) → texts ≡ [] → FailsAtOne texts shelf → stores_under what ≢ []
none_fails what shelf texts none h = absurd (no_parts h.done h.next h.left (sym none ∙ h.parts))

-- a command at whose store something failed stores
pub some_store : (what : Asked) (shelf : Shelves) (answer : Answered) (texts : List Stored) → Comes what shelf answer texts → FailsAtOne texts shelf → stores_under what ≢ []
some_store (ToBuild source image registers budget step) shelf answer texts c h = λ e. cc
some_store (ToRun image ports steps) shelf answer texts c h = none_fails (ToRun image ports steps) shelf texts c.1 h
some_store (ToEvaluate source ports turns) shelf answer texts c h = none_fails (ToEvaluate source ports turns) shelf texts c.1 h
some_store (ToExecute source ports steps) shelf answer texts c h = none_fails (ToExecute source ports steps) shelf texts c.1 h
some_store (ToLayOut sequence registers budget) shelf answer texts c h = none_fails (ToLayOut sequence registers budget) shelf texts c.1 h
some_store (ToCheck image certificate) shelf answer texts c h = none_fails (ToCheck image certificate) shelf texts c.1 h
some_store (ToAssemble text image) shelf answer texts c h = λ e. cc
some_store (ToList image) shelf answer texts c h = none_fails (ToList image) shelf texts c.1 h
some_store (ToGenerate number) shelf answer texts c h = none_fails (ToGenerate number) shelf texts c.1 h
some_store (ToDebug image ports script) shelf answer texts c h = none_fails (ToDebug image ports script) shelf texts c.1 h
some_store (ToExpand source output) shelf answer texts c h = λ e. cc
some_store (ToJoin output sources) shelf answer texts c h = λ e. cc
some_store (ToPbuild source first ports image registers budget steps) shelf answer texts c h = λ e. cc

-- ---- ports

not_ports : (bytes : List ℕ) (fault : PortFault) (lines : List (ℕ × ℕ)) → fault ≢ port_faults.NoMemory → PortSays bytes fault → PortText bytes lines → ⊥
not_ports bytes (port_faults.BadLine line) lines some says text = bad_no_text bytes line says lines text
not_ports bytes port_faults.NoMemory lines some says text = some refl

pub ports_refused : (name bytes : List ℕ) (why : Why) (lines : List (ℕ × ℕ)) → ArePortsRefused name bytes why → PortText bytes lines → ⊥
ports_refused name bytes why lines r text = not_ports bytes r.fault lines r.some r.says text

-- ---- build

accepted : (o : Options) (bytes : List ℕ) (image : Contents) (frames : List Frame) → IsMade o bytes image frames → IsAccepted o bytes
accepted o bytes image frames m = (m.typed.0, m.typed.1, m.typed.2, m.typed.3, (m.program, m.typed.4, (image, m.has)))

made_of_one : (o : Options) (bytes : List ℕ) (a b : Contents) (fs gs : List Frame) (h : IsMade o bytes a fs) (k : IsMade o bytes b gs) → h.program ≡ k.program
made_of_one o bytes a b fs gs h k = same_program bytes h.program k.program h.typed k.typed

pub one_made : (o : Options) (bytes : List ℕ) (a b : Contents) (fs gs : List Frame) → IsMade o bytes a fs → IsMade o bytes b gs → a ≡ b
one_made o bytes a b fs gs h k = one_image (source_jobs o k.program) k.program a b (subst (λ p. HasImage (source_jobs o p) p a) (made_of_one o bytes a b fs gs h k) h.has) k.has

one_framed : (o : Options) (bytes : List ℕ) (a b : Contents) (fs gs : List Frame) → IsMade o bytes a fs → IsMade o bytes b gs → fs ≡ gs
one_framed o bytes a b fs gs h k = frames_same (source_jobs o k.program) k.program fs gs (subst (λ p. HasFrames (source_jobs o p) p fs) (made_of_one o bytes a b fs gs h k) h.framed) k.framed

build_one : (o : Options) (name bytes : List ℕ) (a b : Answered) (s t : List Stored) → BuildsTo o name bytes a s → BuildsTo o name bytes b t → a ≡ b
build_one o name bytes a b s t c d = c.reported ∙ ap report_of (one_framed o bytes c.image d.image c.frames d.frames c.made d.made) ∙ sym d.reported

build_not : (o : Options) (name bytes : List ℕ) (a : Answered) (s : List Stored) (why : Why) → BuildsTo o name bytes a s → IsRefusedFor o why bytes → ⊥
build_not o name bytes a s why c r = accepted_no_fault o bytes r.fault (accepted o bytes c.image c.frames c.made) r.has

build_refused_one : (o : Options) (bytes : List ℕ) (v w : Why) → IsRefusedFor o v bytes → IsRefusedFor o w bytes → refusal_status v ≡ refusal_status w
build_refused_one o bytes v w r s = ap refusal_status r.is ∙ sym (ap refusal_status s.is)

-- ---- images and certificates

pub one_contents : (bytes : List ℕ) (a b : Contents) → IsImageOf a bytes → IsImageOf b bytes → a ≡ b
one_contents bytes a b h k = text_injective a b h.whole k.whole (sym h.text ∙ k.text)

pub not_image : (name bytes : List ℕ) (why : Why) (contents : Contents) → IsImageRefused name bytes why → IsImageOf contents bytes → ⊥
not_image name bytes why contents r is = says_no_text bytes r.fault r.some r.says contents is.whole is.text

-- ---- run

-- what was reached says the outputs, and where the run stands
pub reached_one : (outs others : Outputs) (one two : Stop) → reached_of outs one ≡ reached_of others two → (outs ≡ others) × (one ≡ two)
reached_one outs others (stop.Ended x) (stop.Ended y) e = (cc, cc)
reached_one outs others (stop.Ended x) (stop.Trap kind at) e = cc
reached_one outs others (stop.Ended x) stop.Running e = cc
reached_one outs others (stop.Trap kind at) (stop.Ended y) e = cc
reached_one outs others (stop.Trap kind at) (stop.Trap other here) e = (cc, cc)
reached_one outs others (stop.Trap kind at) stop.Running e = cc
reached_one outs others stop.Running (stop.Ended y) e = cc
reached_one outs others stop.Running (stop.Trap kind at) e = cc
reached_one outs others stop.Running stop.Running e = (cc, refl)

-- one run is answered alike
image_run_one : (words others : List ℕ) (lines more : List (ℕ × ℕ)) (steps : ℕ) (a b : Answered) → words ≡ others → lines ≡ more → ImageRuns words lines steps a → ImageRuns others more steps b → a ≡ b
image_run_one words others lines more steps a b same_words same_lines r s =
    let runs = ap (λ w. machine_run (zero_start w) (of_sixteen (input_of lines)) steps) same_words
    ∙ ap (λ l. machine_run (zero_start others) (of_sixteen (input_of l)) steps) same_lines in
    let same = reached_one r.outs s.outs r.stands s.stands (sym r.runs ∙ runs ∙ s.runs) in
    r.is ∙ ap (λ o. run_answer steps o r.stands) same.0 ∙ ap (λ t. run_answer steps s.outs t) same.1 ∙ sym s.is

run_one : (i p : List ℕ) (steps : ℕ) (a b : Answered) → RunsTo i p steps a → RunsTo i p steps b → a ≡ b
run_one i p steps a b r s =
    let contents = one_contents i r.contents s.contents r.image s.image in
    image_run_one _ _ _ _ steps a b (ap (λ (c : Contents). c.words) contents) (one_port_text p r.lines s.lines r.ports s.ports) r.runs s.runs

run_not : (image ports i p : List ℕ) (steps : ℕ) (a : Answered) (why : Why) → RunsTo i p steps a → RunRefused image ports i p why → ⊥
run_not image ports i p steps a why r (BadImage bad) = not_image image i why r.contents bad r.image
run_not image ports i p steps a why r (BadPorts contents is bad) = ports_refused ports p why r.lines bad r.ports

run_status_nine : (image ports i p : List ℕ) (why : Why) → RunRefused image ports i p why → refusal_status why ≡ 9
run_status_nine image ports i p why (BadImage bad) = ap refusal_status bad.is
run_status_nine image ports i p why (BadPorts contents is bad) = ap refusal_status bad.is

-- ---- means

means_one : (s p : List ℕ) (turns : ℕ) (a b : Answered) → MeansTo s p turns a → MeansTo s p turns b → a ≡ b
means_one s p turns a b m n =
    let program = same_program s m.program n.program m.typed n.typed in
    let lines = one_port_text p m.lines n.lines m.ports n.ports in
    m.is
    ∙ ap (λ q. means_answer turns (source_run q (input_of m.lines) turns)) program
    ∙ ap (λ l. means_answer turns (source_run n.program (input_of l) turns)) lines
    ∙ sym n.is

means_not : (ports s p : List ℕ) (turns : ℕ) (a : Answered) (why : Why) → MeansTo s p turns a → MeansRefused ports s p why → ⊥
means_not ports s p turns a why m (PortsFirst bad) = ports_refused ports p why m.lines bad m.ports
means_not ports s p turns a why m (SourceThen lines text fault none is) = program_no_fault plain_options s m.program fault m.typed none

means_refused_one : (ports s p : List ℕ) (v w : Why) → MeansRefused ports s p v → MeansRefused ports s p w → refusal_status v ≡ refusal_status w
means_refused_one ports s p v w (PortsFirst bad) (PortsFirst worse) = ap refusal_status bad.is ∙ sym (ap refusal_status worse.is)
means_refused_one ports s p v w (PortsFirst bad) (SourceThen lines text fault none is) = absurd (ports_refused ports p v lines bad text)
means_refused_one ports s p v w (SourceThen lines text fault none is) (PortsFirst bad) = absurd (ports_refused ports p w lines bad text)
means_refused_one ports s p v w (SourceThen lines text fault none is) (SourceThen more also other neither are) =
    ap refusal_status is ∙ sym (ap refusal_status are)

-- ---- exec

pub exec_one : (s p : List ℕ) (steps : ℕ) (a b : Answered) → ExecutesTo s p steps a → ExecutesTo s p steps b → a ≡ b
exec_one s p steps a b r q =
    let contents = one_made plain_options s r.image q.image r.frames q.frames r.made q.made in
    image_run_one _ _ _ _ steps a b (ap (λ (c : Contents). c.words) contents) (one_port_text p r.lines q.lines r.ports q.ports) r.runs q.runs

exec_not : (ports s p : List ℕ) (steps : ℕ) (a : Answered) (why : Why) → ExecutesTo s p steps a → ExecuteRefused ports s p why → ⊥
exec_not ports s p steps a why r (exec.PortsFirst bad) = ports_refused ports p why r.lines bad r.ports
exec_not ports s p steps a why r (exec.SourceThen lines text fault has is) = accepted_no_fault plain_options s fault (accepted plain_options s r.image r.frames r.made) has

exec_refused_one : (ports s p : List ℕ) (v w : Why) → ExecuteRefused ports s p v → ExecuteRefused ports s p w → refusal_status v ≡ refusal_status w
exec_refused_one ports s p v w (exec.PortsFirst bad) (exec.PortsFirst worse) = ap refusal_status bad.is ∙ sym (ap refusal_status worse.is)
exec_refused_one ports s p v w (exec.PortsFirst bad) (exec.SourceThen lines text fault has is) = absurd (ports_refused ports p v lines bad text)
exec_refused_one ports s p v w (exec.SourceThen lines text fault has is) (exec.PortsFirst bad) = absurd (ports_refused ports p w lines bad text)
exec_refused_one ports s p v w (exec.SourceThen lines text fault has is) (exec.SourceThen more also other too are) =
    ap refusal_status is ∙ sym (ap refusal_status are)

-- ---- layout

layout_one : (bytes : List ℕ) (registers budget : ℕ) (a b : Answered) → LaysOutTo bytes registers budget a → LaysOutTo bytes registers budget b → a ≡ b
layout_one bytes registers budget a b r q =
    let sequence = sequences_same r.sequence q.sequence _ r.reads q.reads in
    r.is ∙ ap (λ s. layout_answer (search_answer registers s budget)) sequence ∙ sym q.is

layout_not : (name bytes : List ℕ) (registers budget : ℕ) (a : Answered) (why : Why) → LaysOutTo bytes registers budget a → LayoutRefused name bytes why → ⊥
layout_not name bytes registers budget a why c r = r.some (says_not_read bytes c.sequence c.reads r.fault r.says)

layout_status_nine : (name bytes : List ℕ) (why : Why) → LayoutRefused name bytes why → refusal_status why ≡ 9
layout_status_nine name bytes why r = ap refusal_status r.is

-- ---- check

check_one : (i c : List ℕ) (a b : Answered) → ChecksTo i c a → ChecksTo i c b → a ≡ b
check_one i c a b r q =
    let contents = one_contents i r.contents q.contents r.image q.image in
    let frames = certificates_same c r.frames q.frames r.reads q.reads in
    r.is ∙ ap (λ x. check_answer x r.frames) contents ∙ ap (check_answer q.contents) frames ∙ sym q.is

check_not : (image certificate i c : List ℕ) (a : Answered) (why : Why) → ChecksTo i c a → CheckRefused image certificate i c why → ⊥
check_not image certificate i c a why r (check.BadImage bad) = not_image image i why r.contents bad r.image
check_not image certificate i c a why r (check.BadCertificate contents is bad) = bad.some (no_certificate c r.frames r.reads bad.fault bad.says)

check_status_nine : (image certificate i c : List ℕ) (why : Why) → CheckRefused image certificate i c why → refusal_status why ≡ 9
check_status_nine image certificate i c why (check.BadImage bad) = ap refusal_status bad.is
check_status_nine image certificate i c why (check.BadCertificate contents is bad) = ap refusal_status bad.is

-- ---- asm

-- bytes have words or a fault
pub not_both : (r : Result (List ℕ) AsmFault) (words : List ℕ) (fault : AsmFault) → r ≡ Ok words → r ≡ Err fault → ⊥
not_both r words fault e f = let k : Ok words ≡ Err fault = sym e ∙ f in cc

asm_one : (name bytes : List ℕ) (a b : Answered) (s t : List Stored) → AssemblesTo name bytes a s → AssemblesTo name bytes b t → a ≡ b
asm_one name bytes a b s t c d = c.is ∙ sym d.is

asm_not : (text image bytes : List ℕ) (a : Answered) (s : List Stored) (why : Why) → AssemblesTo image bytes a s → AssembleRefused text bytes why → ⊥
asm_not text image bytes a s why c r = not_both (assembled bytes) c.words r.fault c.assembles r.says

asm_status_nine : (text bytes : List ℕ) (why : Why) → AssembleRefused text bytes why → refusal_status why ≡ 9
asm_status_nine text bytes why r = ap refusal_status r.is

-- ---- dis

dis_one : (bytes : List ℕ) (a b : Answered) → ListsTo bytes a → ListsTo bytes b → a ≡ b
dis_one bytes a b r q = r.is ∙ ap (λ (c : Contents). listing_answer c.words) (one_contents bytes r.contents q.contents r.image q.image) ∙ sym q.is

dis_not : (image bytes : List ℕ) (a : Answered) (why : Why) → ListsTo bytes a → IsImageRefused image bytes why → ⊥
dis_not image bytes a why r bad = not_image image bytes why r.contents bad r.image

dis_status_nine : (image bytes : List ℕ) (why : Why) → IsImageRefused image bytes why → refusal_status why ≡ 9
dis_status_nine image bytes why bad = ap refusal_status bad.is

-- ---- gen

-- one run is summed up alike
summary_one : (steps number : ℕ) (image other : Contents) (a b : Answered) → image ≡ other → Summarizes steps number image a → Summarizes steps number other b → a ≡ b
summary_one steps number image other a b same r s =
    let runs = ap (λ (c : Contents). machine_run (zero_start c.words) (of_sixteen (input_of [])) steps) same in
    let reached = reached_one r.outs s.outs r.stands s.stands (sym r.runs ∙ runs ∙ s.runs) in
    r.is
    ∙ ap (λ (c : Contents). gen_answer number (length c.functions) steps r.outs r.stands) same
    ∙ ap (λ o. gen_answer number (length other.functions) steps o r.stands) reached.0
    ∙ ap (gen_answer number (length other.functions) steps s.outs) reached.1
    ∙ sym s.is

gen_one : (number : ℕ) (a b : Answered) → GeneratesTo number a → GeneratesTo number b → a ≡ b
gen_one number a b r s =
    summary_one gen_steps number r.image s.image a b (one_made plain_options (generated number) r.image s.image r.frames s.frames r.made s.made) r.summarizes s.summarizes

gen_not : (number : ℕ) (a : Answered) (why : Why) → GeneratesTo number a → GenerateRefused number why → ⊥
gen_not number a why r bad = accepted_no_fault plain_options (generated number) bad.fault (accepted plain_options (generated number) r.image r.frames r.made) bad.has

-- ---- debug

debug_one : (i p s : List ℕ) (a b : Answered) → DebugsTo i p s a → DebugsTo i p s b → a ≡ b
debug_one i p s a b r q =
    let contents = one_contents i r.contents q.contents r.image q.image in
    let lines = one_port_text p r.lines q.lines r.ports q.ports in
    let script = scripts_same s r.script q.script r.text q.text in
    let here : Session q.contents.words q.lines q.script r.shown =
    subst (λ (c : Contents). Session c.words q.lines q.script r.shown) contents
    (subst (λ l. Session r.contents.words l q.script r.shown) lines (subst (λ (c : List Command). Session r.contents.words r.lines c r.shown) script r.session)) in
    r.is ∙ ap session_answer (session_one q.contents.words q.lines q.script r.shown q.shown here q.session) ∙ sym q.is

debug_not : (image ports script i p s : List ℕ) (a : Answered) (why : Why) → DebugsTo i p s a → DebugRefused image ports script i p s why → ⊥
debug_not image ports script i p s a why r (debug.BadImage bad) = not_image image i why r.contents bad r.image
debug_not image ports script i p s a why r (debug.BadPorts contents is bad) = ports_refused ports p why r.lines bad r.ports
debug_not image ports script i p s a why r (debug.BadScript contents lines is text bad) = says_no_script s bad.fault r.script bad.some bad.says r.text r.few

debug_status_nine : (image ports script i p s : List ℕ) (why : Why) → DebugRefused image ports script i p s why → refusal_status why ≡ 9
debug_status_nine image ports script i p s why (debug.BadImage bad) = ap refusal_status bad.is
debug_status_nine image ports script i p s why (debug.BadPorts contents is bad) = ap refusal_status bad.is
debug_status_nine image ports script i p s why (debug.BadScript contents lines is text bad) = ap refusal_status bad.is

-- ---- pre

-- a source has tokens or a fault
not_either : (tokens : List Token) (fault : MacroFault) → (Ok tokens) ≡ (Err fault) → ⊥
not_either tokens fault e = cc

pre_one : (name bytes : List ℕ) (a b : Answered) (s t : List Stored) → ExpandsTo name bytes a s → ExpandsTo name bytes b t → a ≡ b
pre_one name bytes a b s t c d = c.is ∙ sym d.is

pre_not : (name bytes : List ℕ) (a : Answered) (s : List Stored) (why : Why) → ExpandsTo name bytes a s → ExpandRefused bytes why → ⊥
pre_not name bytes a s why c r =
    let tokens = c.expansion.tokens in
    not_either tokens r.fault (outcome_one bytes (Ok tokens) (Err r.fault) c.expansion.expands r.has)

pre_status_one : (bytes : List ℕ) (why : Why) → ExpandRefused bytes why → refusal_status why ≡ 1
pre_status_one bytes why r = ap refusal_status r.is

-- ---- join

join_one : (name : List ℕ) (c d : List (List ℕ)) (a b : Answered) (s t : List Stored) → JoinsTo name c a s → JoinsTo name d b t → a ≡ b
join_one name c d a b s t one other = one.is ∙ sym other.is

join_not : (name : List ℕ) (c d : List (List ℕ)) (a : Answered) (s : List Stored) (why : Why) → c ≡ d → JoinsTo name c a s → JoinRefused d why → ⊥
join_not name c d a s why same j r = joined_not d j.joined.tokens r.fault (subst (λ contents. Joins contents j.joined.tokens) same j.joined.joins) r.has

join_status_one : (contents : List (List ℕ)) (why : Why) → JoinRefused contents why → refusal_status why ≡ 1
join_status_one contents why r = ap refusal_status r.is

-- ---- pbuild

one_recording : (i p : List ℕ) (steps : ℕ) (a b : Contents) (ks ls : List (ℕ × ℕ)) → IsImageOf a i → IsImageOf b i → PortText p ks → PortText p ls → recording_of a ks steps ≡ recording_of b ls steps
one_recording i p steps a b ks ls h k m n = ap (λ x. recording_of x ks steps) (one_contents i a b h k) ∙ ap (λ l. recording_of b l steps) (one_port_text p ks ls m n)

profile_one : (o : ProfileOptions) (name s i p : List ℕ) (a b : Answered) (t u : List Stored) → ProfilesTo o name s i p a t → ProfilesTo o name s i p b u → a ≡ b
profile_one o name s i p a b t u c d =
    let r = recording_of d.first d.lines o.steps in
    let same = one_recording i p o.steps c.first d.first c.lines d.lines c.recorded d.recorded c.ports d.ports in
    let here : IsProfiled o s r c.image c.frames c.entered = subst (λ x. IsProfiled o s x c.image c.frames c.entered) same c.profiled in
    let frames = one_weighted o s r c.image d.image c.frames d.frames c.entered d.entered here d.profiled in
    let entered = one_entered o s r c.image d.image c.frames d.frames c.entered d.entered here d.profiled in
    c.reported ∙ ap₂ profile_of frames entered ∙ sym d.reported

profile_not : (o : ProfileOptions) (name first ports s i p : List ℕ) (a : Answered) (t : List Stored) (why : Why) → ProfilesTo o name s i p a t → ProfileRefused o first ports s i p why → ⊥
profile_not o name first ports s i p a t why c (profile.BadImage bad) = not_image first i why c.first bad c.recorded
profile_not o name first ports s i p a t why c (profile.BadPorts contents is bad) = ports_refused ports p why c.lines bad c.ports
profile_not o name first ports s i p a t why c (profile.SourceThen contents lines is text fault has e) =
    let same = one_recording i p o.steps c.first contents c.lines lines c.recorded is c.ports text in
    profiled_no_fault o s (recording_of contents lines o.steps) c.image c.frames c.entered fault (subst (λ r. IsProfiled o s r c.image c.frames c.entered) same c.profiled) has

-- the source is refused with 1, or with 9 where the image is one of another source
module _ (o : ProfileOptions) (s : List ℕ) (r : Recording) (name : List ℕ) where
  abbrev profile_status : ProfileFault → ℕ
  profile_status f = refusal_status (of_profile_fault name f)

  source_status : (f : ProfileFault) → HasFault o s r f → f ≢ profile_faults.OtherSource → profile_status f ≡ 1
  source_status (profile_faults.Lex why) h some = refl
  source_status (profile_faults.Parse why) h some = refl
  source_status (profile_faults.Types why) h some = refl
  source_status profile_faults.OtherSource h some = absurd (some refl)
  source_status (profile_faults.Plan why) h some = refl
  source_status (profile_faults.Link why) h some = refl
  source_status profile_faults.NoMemory h some = absurd (memory_no_fault o s r h)

  both_of_source : (f g : ProfileFault) → HasFault o s r f → HasFault o s r g → f ≢ profile_faults.OtherSource → profile_status f ≡ profile_status g
  both_of_source f g h k some =
      let other : g ≢ profile_faults.OtherSource = λ e. some (other_source_alone o s r f (subst (HasFault o s r) e k) h) in
      source_status f h some ∙ sym (source_status g k other)

  status_one : (f g : ProfileFault) → HasFault o s r f → HasFault o s r g → profile_status f ≡ profile_status g
  status_one (profile_faults.Lex why) g h k = both_of_source (profile_faults.Lex why) g h k (λ e. cc)
  status_one (profile_faults.Parse why) g h k = both_of_source (profile_faults.Parse why) g h k (λ e. cc)
  status_one (profile_faults.Types why) g h k = both_of_source (profile_faults.Types why) g h k (λ e. cc)
  status_one profile_faults.OtherSource g h k = ap profile_status (sym (other_source_alone o s r g h k))
  status_one (profile_faults.Plan why) g h k = both_of_source (profile_faults.Plan why) g h k (λ e. cc)
  status_one (profile_faults.Link why) g h k = both_of_source (profile_faults.Link why) g h k (λ e. cc)
  status_one profile_faults.NoMemory g h k = absurd (memory_no_fault o s r h)

profile_refused_one : (o : ProfileOptions) (first ports s i p : List ℕ) (v w : Why) → ProfileRefused o first ports s i p v → ProfileRefused o first ports s i p w → refusal_status v ≡ refusal_status w
profile_refused_one o first ports s i p v w (profile.BadImage bad) (profile.BadImage worse) = ap refusal_status bad.is ∙ sym (ap refusal_status worse.is)
profile_refused_one o first ports s i p v w (profile.BadImage bad) (profile.BadPorts c is worse) = ap refusal_status bad.is ∙ sym (ap refusal_status worse.is)
profile_refused_one o first ports s i p v w (profile.BadImage bad) (profile.SourceThen c lines is text fault has e) = absurd (not_image first i v c bad is)
profile_refused_one o first ports s i p v w (profile.BadPorts c is bad) (profile.BadImage worse) = ap refusal_status bad.is ∙ sym (ap refusal_status worse.is)
profile_refused_one o first ports s i p v w (profile.BadPorts c is bad) (profile.BadPorts d also worse) = ap refusal_status bad.is ∙ sym (ap refusal_status worse.is)
profile_refused_one o first ports s i p v w (profile.BadPorts c is bad) (profile.SourceThen d lines also text fault has e) = absurd (ports_refused ports p v lines bad text)
profile_refused_one o first ports s i p v w (profile.SourceThen c lines is text fault has e) (profile.BadImage worse) = absurd (not_image first i w c worse is)
profile_refused_one o first ports s i p v w (profile.SourceThen c lines is text fault has e) (profile.BadPorts d also worse) = absurd (ports_refused ports p w lines worse text)
profile_refused_one o first ports s i p v w (profile.SourceThen c lines is text fault has e) (profile.SourceThen d more also other fault2 has2 e2) =
    let r = recording_of d more o.steps in
    let same = one_recording i p o.steps c d lines more is also text other in
    ap refusal_status e ∙ status_one o s r first fault fault2 (subst (λ x. HasFault o s x fault) same has) has2 ∙ sym (ap refusal_status e2)

-- ---- all commands

pub comes_one : (what : Asked) (shelf : Shelves) (tells : IsTrue shelf.tells) (a b : Answered) (s t : List Stored) → Comes what shelf a s → Comes what shelf b t → a ≡ b
comes_one (ToBuild source image registers budget step) shelf tells a b s t c d =
    let h = one_file shelf tells _ _ _ c d in
    build_one (chosen_options registers budget step) image h.0 a b s t h.1 h.2
comes_one (ToRun image ports steps) shelf tells a b s t c d =
    let h = two_files shelf tells _ _ _ _ c.0 d.0 in
    run_one h.0 h.1.0 steps a b h.1.1 h.1.2
comes_one (ToEvaluate source ports turns) shelf tells a b s t c d =
    let h = two_files shelf tells _ _ _ _ c.0 d.0 in
    means_one h.0 h.1.0 turns a b h.1.1 h.1.2
comes_one (ToExecute source ports steps) shelf tells a b s t c d =
    let h = two_files shelf tells _ _ _ _ c.0 d.0 in
    exec_one h.0 h.1.0 steps a b h.1.1 h.1.2
comes_one (ToLayOut sequence registers budget) shelf tells a b s t c d =
    let h = one_file shelf tells _ _ _ c.0 d.0 in
    layout_one h.0 registers budget a b h.1 h.2
comes_one (ToCheck image certificate) shelf tells a b s t c d =
    let h = two_files shelf tells _ _ _ _ c.0 d.0 in
    check_one h.0 h.1.0 a b h.1.1 h.1.2
comes_one (ToAssemble text image) shelf tells a b s t c d =
    let h = one_file shelf tells _ _ _ c d in
    asm_one image h.0 a b s t h.1 h.2
comes_one (ToList image) shelf tells a b s t c d =
    let h = one_file shelf tells _ _ _ c.0 d.0 in
    dis_one h.0 a b h.1 h.2
comes_one (ToGenerate number) shelf tells a b s t c d = gen_one number a b c.0 d.0
comes_one (ToDebug image ports script) shelf tells a b s t c d =
    let h = three_files shelf tells _ _ _ _ _ c.0 d.0 in
    debug_one h.0 h.1.0 h.1.1.0 a b h.1.1.1 h.1.1.2
comes_one (ToExpand source output) shelf tells a b s t c d =
    let h = one_file shelf tells _ _ _ c d in
    pre_one output h.0 a b s t h.1 h.2
comes_one (ToJoin output sources) shelf tells a b s t c d = join_one output c.contents d.contents a b s t c.holds d.holds
comes_one (ToPbuild source first ports image registers budget steps) shelf tells a b s t c d =
    let h = three_files shelf tells _ _ _ _ _ c d in
    profile_one (recorded_options registers budget steps) image h.0 h.1.0 h.1.1.0 a b s t h.1.1.1 h.1.1.2

pub comes_not : (what : Asked) (shelf : Shelves) (tells : IsTrue shelf.tells) (a : Answered) (s : List Stored) (why : Why) → Comes what shelf a s → Rejects what shelf why → ⊥
comes_not (ToBuild source image registers budget step) shelf tells a s why c r =
    let h = one_file shelf tells _ _ _ c r in
    build_not (chosen_options registers budget step) image h.0 a s why h.1 h.2
comes_not (ToRun image ports steps) shelf tells a s why c r =
    let h = two_files shelf tells _ _ _ _ c.0 r in
    run_not image ports h.0 h.1.0 steps a why h.1.1 h.1.2
comes_not (ToEvaluate source ports turns) shelf tells a s why c r =
    let h = two_files shelf tells _ _ _ _ c.0 r in
    means_not ports h.0 h.1.0 turns a why h.1.1 h.1.2
comes_not (ToExecute source ports steps) shelf tells a s why c r =
    let h = two_files shelf tells _ _ _ _ c.0 r in
    exec_not ports h.0 h.1.0 steps a why h.1.1 h.1.2
comes_not (ToLayOut sequence registers budget) shelf tells a s why c r =
    let h = one_file shelf tells _ _ _ c.0 r in
    layout_not sequence h.0 registers budget a why h.1 h.2
comes_not (ToCheck image certificate) shelf tells a s why c r =
    let h = two_files shelf tells _ _ _ _ c.0 r in
    check_not image certificate h.0 h.1.0 a why h.1.1 h.1.2
comes_not (ToAssemble text image) shelf tells a s why c r =
    let h = one_file shelf tells _ _ _ c r in
    asm_not text image h.0 a s why h.1 h.2
comes_not (ToList image) shelf tells a s why c r =
    let h = one_file shelf tells _ _ _ c.0 r in
    dis_not image h.0 a why h.1 h.2
comes_not (ToGenerate number) shelf tells a s why c r = gen_not number a why c.0 r
comes_not (ToDebug image ports script) shelf tells a s why c r =
    let h = three_files shelf tells _ _ _ _ _ c.0 r in
    debug_not image ports script h.0 h.1.0 h.1.1.0 a why h.1.1.1 h.1.1.2
comes_not (ToExpand source output) shelf tells a s why c r =
    let h = one_file shelf tells _ _ _ c r in
    pre_not output h.0 a s why h.1 h.2
comes_not (ToJoin output sources) shelf tells a s why c r =
    join_not output c.contents r.contents a s why (same_contents shelf tells (files_of (ToJoin output sources)) c.contents r.contents c.fetched r.fetched) c.holds r.holds
comes_not (ToPbuild source first ports image registers budget steps) shelf tells a s why c r =
    let h = three_files shelf tells _ _ _ _ _ c r in
    profile_not (recorded_options registers budget steps) image first ports h.0 h.1.0 h.1.1.0 a s why h.1.1.1 h.1.1.2

pub refuses_one : (what : Asked) (shelf : Shelves) (tells : IsTrue shelf.tells) (v w : Why) → Rejects what shelf v → Rejects what shelf w → refusal_status v ≡ refusal_status w
refuses_one (ToBuild source image registers budget step) shelf tells v w r s =
    let h = one_file shelf tells _ _ _ r s in
    build_refused_one (chosen_options registers budget step) h.0 v w h.1 h.2
refuses_one (ToRun image ports steps) shelf tells v w r s =
    let h = two_files shelf tells _ _ _ _ r s in
    run_status_nine image ports h.0 h.1.0 v h.1.1 ∙ sym (run_status_nine image ports h.0 h.1.0 w h.1.2)
refuses_one (ToEvaluate source ports turns) shelf tells v w r s =
    let h = two_files shelf tells _ _ _ _ r s in
    means_refused_one ports h.0 h.1.0 v w h.1.1 h.1.2
refuses_one (ToExecute source ports steps) shelf tells v w r s =
    let h = two_files shelf tells _ _ _ _ r s in
    exec_refused_one ports h.0 h.1.0 v w h.1.1 h.1.2
refuses_one (ToLayOut sequence registers budget) shelf tells v w r s =
    let h = one_file shelf tells _ _ _ r s in
    layout_status_nine sequence h.0 v h.1 ∙ sym (layout_status_nine sequence h.0 w h.2)
refuses_one (ToCheck image certificate) shelf tells v w r s =
    let h = two_files shelf tells _ _ _ _ r s in
    check_status_nine image certificate h.0 h.1.0 v h.1.1 ∙ sym (check_status_nine image certificate h.0 h.1.0 w h.1.2)
refuses_one (ToAssemble text image) shelf tells v w r s =
    let h = one_file shelf tells _ _ _ r s in
    asm_status_nine text h.0 v h.1 ∙ sym (asm_status_nine text h.0 w h.2)
refuses_one (ToList image) shelf tells v w r s =
    let h = one_file shelf tells _ _ _ r s in
    dis_status_nine image h.0 v h.1 ∙ sym (dis_status_nine image h.0 w h.2)
refuses_one (ToGenerate number) shelf tells v w r s = build_refused_one plain_options (generated number) v w r s
refuses_one (ToDebug image ports script) shelf tells v w r s =
    let h = three_files shelf tells _ _ _ _ _ r s in
    debug_status_nine image ports script h.0 h.1.0 h.1.1.0 v h.1.1.1 ∙ sym (debug_status_nine image ports script h.0 h.1.0 h.1.1.0 w h.1.1.2)
refuses_one (ToExpand source output) shelf tells v w r s =
    let h = one_file shelf tells _ _ _ r s in
    pre_status_one h.0 v h.1 ∙ sym (pre_status_one h.0 w h.2)
refuses_one (ToJoin output sources) shelf tells v w r s = join_status_one r.contents v r.holds ∙ sym (join_status_one s.contents w s.holds)
refuses_one (ToPbuild source first ports image registers budget steps) shelf tells v w r s =
    let h = three_files shelf tells _ _ _ _ _ r s in
    profile_refused_one (recorded_options registers budget steps) first ports h.0 h.1.0 h.1.1.0 v w h.1.1.1 h.1.1.2

image_run_status : (words : List ℕ) (lines : List (ℕ × ℕ)) (steps : ℕ) (answer : Answered) → ImageRuns words lines steps answer → IsAnswerStatus answer.status
image_run_status words lines steps answer r = subst (λ a. IsAnswerStatus a.status) (sym r.is) (of_stop r.stands)

-- what a command comes to has the status of something that is done
pub comes_status : (what : Asked) (shelf : Shelves) (answer : Answered) (texts : List Stored) → Comes what shelf answer texts → IsAnswerStatus answer.status
comes_status (ToBuild source image registers budget step) shelf answer texts c = of_report answer c.holds.frames c.holds.reported
comes_status (ToRun image ports steps) shelf answer texts c = image_run_status c.0.holds.contents.words c.0.holds.lines steps answer c.0.holds.runs
comes_status (ToEvaluate source ports turns) shelf answer texts c =
    subst (λ a. IsAnswerStatus a.status) (sym c.0.holds.is) (of_outcome (source_run c.0.holds.program (input_of c.0.holds.lines) turns))
comes_status (ToExecute source ports steps) shelf answer texts c = image_run_status c.0.holds.image.words c.0.holds.lines steps answer c.0.holds.runs
comes_status (ToLayOut sequence registers budget) shelf answer texts c = subst (λ a. IsAnswerStatus a.status) (sym c.0.holds.is) (0, lit< tt, refl)
comes_status (ToCheck image certificate) shelf answer texts c = subst (λ a. IsAnswerStatus a.status) (sym c.0.holds.is) (of_check c.0.holds.contents c.0.holds.frames)
comes_status (ToAssemble text image) shelf answer texts c = subst (λ a. IsAnswerStatus a.status) (sym c.holds.is) (0, lit< tt, refl)
comes_status (ToList image) shelf answer texts c = subst (λ a. IsAnswerStatus a.status) (sym c.0.holds.is) (0, lit< tt, refl)
comes_status (ToGenerate number) shelf answer texts c =
    subst (λ a. IsAnswerStatus a.status) (sym c.0.summarizes.is) (of_summary number (length c.0.image.functions) gen_steps c.0.summarizes.outs c.0.summarizes.stands)
comes_status (ToDebug image ports script) shelf answer texts c = subst (λ a. IsAnswerStatus a.status) (sym c.0.holds.is) (0, lit< tt, refl)
comes_status (ToExpand source output) shelf answer texts c = subst (λ a. IsAnswerStatus a.status) (sym c.holds.is) (0, lit< tt, refl)
comes_status (ToJoin output sources) shelf answer texts c = subst (λ a. IsAnswerStatus a.status) (sym c.holds.is) (0, lit< tt, refl)
comes_status (ToPbuild source first ports image registers budget steps) shelf answer texts c = subst (λ a. IsAnswerStatus a.status) (sym c.holds.reported) (0, lit< tt, refl)
