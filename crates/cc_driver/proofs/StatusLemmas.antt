-- The statuses that there are.
use Rattle.std.proofs.Common.{◌≡◌, ◌≢◌, ℕ, zero, suc, Bool, true, false, List, [], ◌∷◌, Option, Some, None, refl, sym, ◌∙◌, subst, inl, inr, arith, lit<}
use Rattle.std.specs.Prelude.{◌⊎◌, Contains, if◌then◌else◌}
use Rattle.c25_isa.specs.Image.{Contents}
use Rattle.cc_check.specs.CheckText.{all_pass}
use Rattle.cc_files.specs.cc_text.declared.refusal.FileFault.{FileFault}
use Rattle.cc_files.specs.cc_text.declared.refusal.FileFault.TheVariants.{Read, TooLong, Image, Ports, Sequence, Certificate, Assembly, Script, OtherSource}
use Rattle.cc_files.specs.cc_text.Refusals.{Why, OfFile, OfSource, OfMacros, OfUnits, OfStore, OfMemory, file_line, file_status, refusal_status}
use Rattle.cc_files.specs.cc_text.SourceText.{source_line}
use Rattle.cc_files.specs.cc_text.MacroText.{macro_line}
use Rattle.cc_files.specs.cc_text.UnitText.{unit_line}
use Rattle.c25_isa.specs.declared.event.Stop.{Stop}
use Rattle.c25_isa.specs.declared.event.Stop.TheVariants as stop
use Rattle.word_base.specs.declared.outcome.Outcome.{Outcome}
use Rattle.word_base.specs.declared.outcome.Outcome.TheVariants as outcome
use Rattle.cc_answers.specs.Answers.{Answered}
use Rattle.word_base.specs.Ports.{Outputs}
use Rattle.cc_answers.specs.RunText.{stop_status}
use Rattle.cc_answers.specs.GenText.{gen_answer}
use Rattle.cc_answers.specs.MeansText.{outcome_status}
use Rattle.cc_files.specs.World.{Sinks}
use Rattle.cc_check.specs.lay_cert.Frames.{Frame}
use Rattle.cc_driver.specs.Build.{report_of}
use Rattle.cc_driver.specs.Check.{check_answer}
use Rattle.cc_files.specs.Puts.{IsStatus, PutsText, SaysLine, LineCame, CameWhole, CamePart, line_of, Refused, PutWhole, PutPart, PutNothing}

of_file : (f : FileFault) → IsStatus (file_status f)
of_file Read = (3, lit< tt, refl)
of_file TooLong = (9, lit< tt, refl)
of_file (Image why) = (9, lit< tt, refl)
of_file (Ports why) = (9, lit< tt, refl)
of_file (Sequence why) = (9, lit< tt, refl)
of_file (Certificate why) = (9, lit< tt, refl)
of_file (Assembly why) = (9, lit< tt, refl)
of_file (Script why) = (9, lit< tt, refl)
of_file OtherSource = (9, lit< tt, refl)

of_why : (why : Why) → IsStatus (refusal_status why)
of_why (OfFile name why) = of_file why
of_why (OfSource why) = (1, lit< tt, refl)
of_why (OfMacros why) = (1, lit< tt, refl)
of_why (OfUnits why) = (1, lit< tt, refl)
of_why OfStore = (4, lit< tt, refl)
of_why OfMemory = (5, lit< tt, refl)

-- a line is put with its status, unless memory is wanting
said_status : (line : List ℕ) (ends : ℕ) (sink : Sinks) (status : ℕ) → ends ≢ 4 → ends ≢ 5 → SaysLine line ends sink status → (status ≡ ends) ⊎ ((status ≡ 5) × (ends ≢ 4) × (ends ≢ 5))
said_status line ends sink status four five (inl (PutWhole e calls same put)) = inl e
said_status line ends sink status four five (inl (PutPart e calls failed part)) = inl e
said_status line ends sink status four five (inl (PutNothing e calls said)) = inr (e, four, five)
said_status line ends sink status four five (inr want) = inr (want.0, four, five)

file_not_four : (f : FileFault) → file_status f ≢ 4
file_not_four Read e = omega (arith, e)
file_not_four TooLong e = omega (arith, e)
file_not_four (Image why) e = omega (arith, e)
file_not_four (Ports why) e = omega (arith, e)
file_not_four (Sequence why) e = omega (arith, e)
file_not_four (Certificate why) e = omega (arith, e)
file_not_four (Assembly why) e = omega (arith, e)
file_not_four (Script why) e = omega (arith, e)
file_not_four OtherSource e = omega (arith, e)

file_not_five : (f : FileFault) → file_status f ≢ 5
file_not_five Read e = omega (arith, e)
file_not_five TooLong e = omega (arith, e)
file_not_five (Image why) e = omega (arith, e)
file_not_five (Ports why) e = omega (arith, e)
file_not_five (Sequence why) e = omega (arith, e)
file_not_five (Certificate why) e = omega (arith, e)
file_not_five (Assembly why) e = omega (arith, e)
file_not_five (Script why) e = omega (arith, e)
file_not_five OtherSource e = omega (arith, e)

-- a refusal has its status, unless it has a line for which memory is wanting
pub refused_status : (why : Why) (sink : Sinks) (status : ℕ) → Refused why sink status → (status ≡ refusal_status why) ⊎ ((status ≡ 5) × (refusal_status why ≢ 4) × (refusal_status why ≢ 5))
refused_status (OfFile name why) sink status said = said_status (file_line name why) (file_status why) sink status (file_not_four why) (file_not_five why) said
refused_status (OfSource why) sink status said = said_status (source_line why) 1 sink status (λ e. omega (arith, e)) (λ e. omega (arith, e)) said
refused_status (OfMacros why) sink status said = said_status (macro_line why) 1 sink status (λ e. omega (arith, e)) (λ e. omega (arith, e)) said
refused_status (OfUnits why) sink status said = said_status (unit_line why) 1 sink status (λ e. omega (arith, e)) (λ e. omega (arith, e)) said
refused_status OfStore sink status said = inl said.0
refused_status OfMemory sink status said = inl said.0

-- the status of a refusal is one
pub refusal_is : (why : Why) (sink : Sinks) (status : ℕ) → Refused why sink status → IsStatus status
refusal_is why sink status refused = go (refused_status why sink status refused)
  where
    go : (status ≡ refusal_status why) ⊎ ((status ≡ 5) × (refusal_status why ≢ 4) × (refusal_status why ≢ 5)) → IsStatus status
    go (inl e) = subst IsStatus (sym e) (of_why why)
    go (inr e) = subst IsStatus (sym e.0) (5, lit< tt, refl)

-- and that of an answer is one, where it is one with all of it put
pub put_is : (text : Option (List ℕ)) (ends : ℕ) (sink : Sinks) (status : ℕ) → IsStatus ends → PutsText text ends sink status → IsStatus status
put_is None ends sink status is put = subst IsStatus (sym put.0) is
put_is (Some text) ends sink status is (PutWhole e calls same put) = subst IsStatus (sym e) is
put_is (Some text) ends sink status is (PutPart e calls failed part) = subst IsStatus (sym e) (4, lit< tt, refl)
put_is (Some text) ends sink status is (PutNothing e calls line) = subst IsStatus (sym e) (5, lit< tt, refl)

-- the statuses of what is done
abbrev pub IsAnswerStatus : ℕ → Type 0
IsAnswerStatus n = Contains (0 ∷ 6 ∷ 7 ∷ 8 ∷ 10 ∷ []) n

-- they are among those that there are
pub answer_is : (n : ℕ) → IsAnswerStatus n → IsStatus n
answer_is n (zero, lt, e) = (0, lit< tt, e)
answer_is n (suc zero, lt, e) = (6, lit< tt, e)
answer_is n (suc (suc zero), lt, e) = (7, lit< tt, e)
answer_is n (suc (suc (suc zero)), lt, e) = (8, lit< tt, e)
answer_is n (suc (suc (suc (suc zero))), lt, e) = (10, lit< tt, e)
answer_is n (suc (suc (suc (suc (suc k)))), lt, e) = absurd (omega (arith, lt))

-- a refusal for a file or a source has one of these
abbrev pub IsNamed : ℕ → Type 0
IsNamed n = Contains (1 ∷ 3 ∷ 9 ∷ []) n

which_named : (n : ℕ) → IsNamed n → (n ≡ 1) ⊎ ((n ≡ 3) ⊎ (n ≡ 9))
which_named n (zero, lt, e) = inl (sym e)
which_named n (suc zero, lt, e) = inr (inl (sym e))
which_named n (suc (suc zero), lt, e) = inr (inr (sym e))
which_named n (suc (suc (suc k)), lt, e) = absurd (omega (arith, lt))

-- what isn't one of these
pub not_named : (n : ℕ) → n ≢ 1 → n ≢ 3 → n ≢ 9 → IsNamed n → ⊥
not_named n one three nine named = go (which_named n named)
  where
    go : (n ≡ 1) ⊎ ((n ≡ 3) ⊎ (n ≡ 9)) → ⊥
    go (inl e) = one e
    go (inr (inl e)) = three e
    go (inr (inr e)) = nine e

pub done_not_named : (n : ℕ) → IsAnswerStatus n → IsNamed n → ⊥
done_not_named n (zero, lt, e) named = not_named n (λ f. omega (arith, e, f)) (λ f. omega (arith, e, f)) (λ f. omega (arith, e, f)) named
done_not_named n (suc zero, lt, e) named = not_named n (λ f. omega (arith, e, f)) (λ f. omega (arith, e, f)) (λ f. omega (arith, e, f)) named
done_not_named n (suc (suc zero), lt, e) named = not_named n (λ f. omega (arith, e, f)) (λ f. omega (arith, e, f)) (λ f. omega (arith, e, f)) named
done_not_named n (suc (suc (suc zero)), lt, e) named = not_named n (λ f. omega (arith, e, f)) (λ f. omega (arith, e, f)) (λ f. omega (arith, e, f)) named
done_not_named n (suc (suc (suc (suc zero))), lt, e) named = not_named n (λ f. omega (arith, e, f)) (λ f. omega (arith, e, f)) (λ f. omega (arith, e, f)) named
done_not_named n (suc (suc (suc (suc (suc k)))), lt, e) named = absurd (omega (arith, lt))

-- the put of what is done doesn't come to one of these
pub put_not_named : (text : Option (List ℕ)) (ends : ℕ) (sink : Sinks) (status : ℕ) → IsAnswerStatus ends → PutsText text ends sink status → IsNamed status → ⊥
put_not_named None ends sink status is put named = done_not_named ends is (subst IsNamed put.0 named)
put_not_named (Some text) ends sink status is (PutWhole e calls same put) named = done_not_named ends is (subst IsNamed e named)
put_not_named (Some text) ends sink status is (PutPart e calls failed part) named = not_named status (λ f. omega (arith, e, f)) (λ f. omega (arith, e, f)) (λ f. omega (arith, e, f)) named
put_not_named (Some text) ends sink status is (PutNothing e calls line) named = not_named status (λ f. omega (arith, e, f)) (λ f. omega (arith, e, f)) (λ f. omega (arith, e, f)) named

-- with one of these the line of a refusal came
line_said : (line : List ℕ) (ends : ℕ) (sink : Sinks) (status : ℕ) → SaysLine line ends sink status → IsNamed status → (status ≡ ends) × LineCame line sink
line_said line ends sink status (inl (PutWhole e calls same put)) named = (e, CameWhole same put)
line_said line ends sink status (inl (PutPart e calls failed part)) named = (e, CamePart failed part)
line_said line ends sink status (inl (PutNothing e calls said)) named = absurd (not_named status (λ f. omega (arith, e, f)) (λ f. omega (arith, e, f)) (λ f. omega (arith, e, f)) named)
line_said line ends sink status (inr want) named = let e = want.0 in absurd (not_named status (λ f. omega (arith, e, f)) (λ f. omega (arith, e, f)) (λ f. omega (arith, e, f)) named)

pub refusal_said : (why : Why) (sink : Sinks) (status : ℕ) → Refused why sink status → IsNamed status → (status ≡ refusal_status why) × LineCame (line_of why) sink
refusal_said (OfFile name why) sink status said named = line_said (file_line name why) (file_status why) sink status said named
refusal_said (OfSource why) sink status said named = line_said (source_line why) 1 sink status said named
refusal_said (OfMacros why) sink status said named = line_said (macro_line why) 1 sink status said named
refusal_said (OfUnits why) sink status said named = line_said (unit_line why) 1 sink status said named
refusal_said OfStore sink status said named = let e = said.0 in absurd (not_named status (λ f. omega (arith, e, f)) (λ f. omega (arith, e, f)) (λ f. omega (arith, e, f)) named)
refusal_said OfMemory sink status said named = let e = said.0 in absurd (not_named status (λ f. omega (arith, e, f)) (λ f. omega (arith, e, f)) (λ f. omega (arith, e, f)) named)

-- 2 is that of words alone
done_not_two : (n : ℕ) → IsAnswerStatus n → n ≢ 2
done_not_two n (zero, lt, e) f = omega (arith, e, f)
done_not_two n (suc zero, lt, e) f = omega (arith, e, f)
done_not_two n (suc (suc zero), lt, e) f = omega (arith, e, f)
done_not_two n (suc (suc (suc zero)), lt, e) f = omega (arith, e, f)
done_not_two n (suc (suc (suc (suc zero))), lt, e) f = omega (arith, e, f)
done_not_two n (suc (suc (suc (suc (suc k)))), lt, e) f = omega (arith, lt)

pub put_not_two : (text : Option (List ℕ)) (ends : ℕ) (sink : Sinks) (status : ℕ) → IsAnswerStatus ends → PutsText text ends sink status → status ≢ 2
put_not_two None ends sink status is put f = done_not_two ends is (sym put.0 ∙ f)
put_not_two (Some text) ends sink status is (PutWhole e calls same put) f = done_not_two ends is (sym e ∙ f)
put_not_two (Some text) ends sink status is (PutPart e calls failed part) f = omega (arith, e, f)
put_not_two (Some text) ends sink status is (PutNothing e calls line) f = omega (arith, e, f)

file_not_two : (f : FileFault) → file_status f ≢ 2
file_not_two Read e = omega (arith, e)
file_not_two TooLong e = omega (arith, e)
file_not_two (Image why) e = omega (arith, e)
file_not_two (Ports why) e = omega (arith, e)
file_not_two (Sequence why) e = omega (arith, e)
file_not_two (Certificate why) e = omega (arith, e)
file_not_two (Assembly why) e = omega (arith, e)
file_not_two (Script why) e = omega (arith, e)
file_not_two OtherSource e = omega (arith, e)

own_not_two : (why : Why) → refusal_status why ≢ 2
own_not_two (OfFile name why) e = file_not_two why e
own_not_two (OfSource why) e = omega (arith, e)
own_not_two (OfMacros why) e = omega (arith, e)
own_not_two (OfUnits why) e = omega (arith, e)
own_not_two OfStore e = omega (arith, e)
own_not_two OfMemory e = omega (arith, e)

pub refusal_not_two : (why : Why) (sink : Sinks) (status : ℕ) → Refused why sink status → status ≢ 2
refusal_not_two why sink status refused f = go (refused_status why sink status refused)
  where
    go : (status ≡ refusal_status why) ⊎ ((status ≡ 5) × (refusal_status why ≢ 4) × (refusal_status why ≢ 5)) → ⊥
    go (inl e) = own_not_two why (sym e ∙ f)
    go (inr e) = omega (arith, e.0, f)

pub of_stop : (s : Stop) → IsAnswerStatus (stop_status s)
of_stop (stop.Ended ending) = (0, lit< tt, refl)
of_stop (stop.Trap kind at) = (2, lit< tt, refl)
of_stop stop.Running = (1, lit< tt, refl)

pub of_summary : (number functions steps : ℕ) (outs : Outputs) (s : Stop) → IsAnswerStatus (gen_answer number functions steps outs s).status
of_summary number functions steps outs (stop.Ended ending) = (0, lit< tt, refl)
of_summary number functions steps outs (stop.Trap kind at) = (2, lit< tt, refl)
of_summary number functions steps outs stop.Running = (1, lit< tt, refl)

pub of_outcome : (o : Outcome) → IsAnswerStatus (outcome_status o)
of_outcome (outcome.Ended outs ending) = (0, lit< tt, refl)
of_outcome (outcome.More outs) = (1, lit< tt, refl)
of_outcome (outcome.Undefined outs kind at) = (4, lit< tt, refl)

pub of_check : (image : Contents) (frames : List Frame) → IsAnswerStatus (check_answer image frames).status
of_check image frames = go (all_pass image frames)
  where
    go : (passes : Bool) → IsAnswerStatus (if passes then 0 else 8)
    go true = (0, lit< tt, refl)
    go false = (3, lit< tt, refl)

pub of_report : (a : Answered) (frames : List Frame) → a ≡ report_of frames → IsAnswerStatus a.status
of_report a frames e = subst (λ b. IsAnswerStatus b.status) (sym e) (0, lit< tt, refl)
