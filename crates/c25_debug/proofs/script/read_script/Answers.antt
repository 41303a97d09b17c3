use Rattle.std.proofs.Common.{◌≡◌, ◌∙◌, inl, sym, ap, subst, arith, rules, length}
use Rattle.text_base.specs.FilledLines.{Place, read_to}
use Rattle.c25_debug.specs.declared.fault.ScriptFault.TheVariants as faults
use Rattle.c25_debug.specs.Script.{ScriptText, IsFirstBad}
use Rattle.c25_debug.proofs.ScriptFaults.{spelled_more, spelled_in_range, bad_here, bad_no_text, bad_one, text_of_all, text_one, fewer_left}
use Rattle.c25_debug.proofs.script.read_script.Goals as goal

pub returns-in_default-read_command-clause-written : goal.returns-in_default-read_command-clause-written
returns-in_default-read_command-clause-written c = λ script text few.
    let same : c.next.new.self.bytes ≡ c.args.bytes.now = c.in-Some.ensures.bytes ∙ c.loop-line.invariant.bytes ∙ ap (λ (p : Place). p.bytes) c.new-lines.ensures in
    let bad : IsFirstBad c.args.bytes.now c.next.new.self.number =
    subst (λ b. IsFirstBad b c.next.new.self.number) same (bad_here c.next.new.self (read_to c.loop-line.lines) c.in-Some.line.now c.loop-line.script.items c.in-Some.ensures.read c.loop-line.invariant.spelled c.in_default-read_command.ensures) in
    absurd (bad_no_text c.args.bytes.now c.next.new.self.number script bad text)

pub returns-in_default-read_command-clause-bad : goal.returns-in_default-read_command-clause-bad
returns-in_default-read_command-clause-bad c = λ line first.
    let same : c.next.new.self.bytes ≡ c.args.bytes.now = c.in-Some.ensures.bytes ∙ c.loop-line.invariant.bytes ∙ ap (λ (p : Place). p.bytes) c.new-lines.ensures in
    let bad : IsFirstBad c.args.bytes.now c.next.new.self.number =
    subst (λ b. IsFirstBad b c.next.new.self.number) same (bad_here c.next.new.self (read_to c.loop-line.lines) c.in-Some.line.now c.loop-line.script.items c.in-Some.ensures.read c.loop-line.invariant.spelled c.in_default-read_command.ensures) in
    inl (ap faults.BadLine (c.number.ensures ∙ bad_one c.args.bytes.now c.next.new.self.number line bad first))

pub returns-in_default-read_command-clause-long : goal.returns-in_default-read_command-clause-long
returns-in_default-read_command-clause-long c = λ script text many.
    let same : c.next.new.self.bytes ≡ c.args.bytes.now = c.in-Some.ensures.bytes ∙ c.loop-line.invariant.bytes ∙ ap (λ (p : Place). p.bytes) c.new-lines.ensures in
    let bad : IsFirstBad c.args.bytes.now c.next.new.self.number =
    subst (λ b. IsFirstBad b c.next.new.self.number) same (bad_here c.next.new.self (read_to c.loop-line.lines) c.in-Some.line.now c.loop-line.script.items c.in-Some.ensures.read c.loop-line.invariant.spelled c.in_default-read_command.ensures) in
    absurd (bad_no_text c.args.bytes.now c.next.new.self.number script bad text)

pub returns-in_default-read_command-clause-fault : goal.returns-in_default-read_command-clause-fault
returns-in_default-read_command-clause-fault c =
    let same : c.next.new.self.bytes ≡ c.args.bytes.now = c.in-Some.ensures.bytes ∙ c.loop-line.invariant.bytes ∙ ap (λ (p : Place). p.bytes) c.new-lines.ensures in
    let bad : IsFirstBad c.args.bytes.now c.next.new.self.number =
    subst (λ b. IsFirstBad b c.next.new.self.number) same (bad_here c.next.new.self (read_to c.loop-line.lines) c.in-Some.line.now c.loop-line.script.items c.in-Some.ensures.read c.loop-line.invariant.spelled c.in_default-read_command.ensures) in
    subst (IsFirstBad c.args.bytes.now) (sym c.number.ensures) bad

pub loop-line-smaller : goal.loop-line-smaller
loop-line-smaller c = fewer_left c.loop-line.lines c.next.new.self c.in-Some.line.now c.in-Some.ensures.bytes c.in-Some.ensures.read

pub loop-line-preserved : goal.loop-line-preserved
loop-line-preserved c = record {
  bytes = c.in-Some.ensures.bytes ∙ c.loop-line.invariant.bytes;
  spelled = rw (c.in-Some.ensures.read.all, c.in_ok-push.ensures.items) (spelled_more (read_to c.loop-line.lines) c.loop-line.script.items c.in-Some.line.now c.in-Some-read_command.command c.loop-line.invariant.spelled c.in-Some-read_command.ensures);
}

pub returns-then-len-gt-MOST_COMMANDS-clause-written : goal.returns-then-len-gt-MOST_COMMANDS-clause-written
returns-then-len-gt-MOST_COMMANDS-clause-written c = λ script other few.
    let same : c.next.new.self.bytes ≡ c.args.bytes.now = c.in_default.ensures.bytes ∙ c.loop-line.invariant.bytes ∙ ap (λ (p : Place). p.bytes) c.new-lines.ensures in
    let text : ScriptText c.args.bytes.now c.loop-line.script.items =
    subst (λ b. ScriptText b c.loop-line.script.items) same (text_of_all c.next.new.self (read_to c.loop-line.lines) c.loop-line.script.items c.in_default.ensures.read c.loop-line.invariant.spelled) in
    absurd (omega (arith, c.if-len-gt-MOST_COMMANDS.true, ap length (text_one c.args.bytes.now c.loop-line.script.items script text other)))

pub returns-then-len-gt-MOST_COMMANDS-clause-bad : goal.returns-then-len-gt-MOST_COMMANDS-clause-bad
returns-then-len-gt-MOST_COMMANDS-clause-bad c = λ line first.
    let same : c.next.new.self.bytes ≡ c.args.bytes.now = c.in_default.ensures.bytes ∙ c.loop-line.invariant.bytes ∙ ap (λ (p : Place). p.bytes) c.new-lines.ensures in
    let text : ScriptText c.args.bytes.now c.loop-line.script.items =
    subst (λ b. ScriptText b c.loop-line.script.items) same (text_of_all c.next.new.self (read_to c.loop-line.lines) c.loop-line.script.items c.in_default.ensures.read c.loop-line.invariant.spelled) in
    absurd (bad_no_text c.args.bytes.now line c.loop-line.script.items first text)

pub returns-then-len-gt-MOST_COMMANDS-clause-long : goal.returns-then-len-gt-MOST_COMMANDS-clause-long
returns-then-len-gt-MOST_COMMANDS-clause-long c = λ script other many.
    let same : c.next.new.self.bytes ≡ c.args.bytes.now = c.in_default.ensures.bytes ∙ c.loop-line.invariant.bytes ∙ ap (λ (p : Place). p.bytes) c.new-lines.ensures in
    let text : ScriptText c.args.bytes.now c.loop-line.script.items =
    subst (λ b. ScriptText b c.loop-line.script.items) same (text_of_all c.next.new.self (read_to c.loop-line.lines) c.loop-line.script.items c.in_default.ensures.read c.loop-line.invariant.spelled) in
    let counted : c.len-then-len-gt-MOST_COMMANDS.result ≡ length c.loop-line.script.items = search rules in
    inl (ap faults.TooLong (counted ∙ ap length (text_one c.args.bytes.now c.loop-line.script.items script text other)))

pub returns-clause-in_range : goal.returns-clause-in_range
returns-clause-in_range c =
    spelled_in_range (read_to c.loop-line.lines) c.loop-line.script.items c.loop-line.invariant.spelled

pub returns-clause-written : goal.returns-clause-written
returns-clause-written c = λ script other few.
    let same : c.next.new.self.bytes ≡ c.args.bytes.now = c.in_default.ensures.bytes ∙ c.loop-line.invariant.bytes ∙ ap (λ (p : Place). p.bytes) c.new-lines.ensures in
    let text : ScriptText c.args.bytes.now c.loop-line.script.items =
    subst (λ b. ScriptText b c.loop-line.script.items) same (text_of_all c.next.new.self (read_to c.loop-line.lines) c.loop-line.script.items c.in_default.ensures.read c.loop-line.invariant.spelled) in
    text_one c.args.bytes.now c.loop-line.script.items script text other

pub returns-clause-bad : goal.returns-clause-bad
returns-clause-bad c = λ line first.
    let same : c.next.new.self.bytes ≡ c.args.bytes.now = c.in_default.ensures.bytes ∙ c.loop-line.invariant.bytes ∙ ap (λ (p : Place). p.bytes) c.new-lines.ensures in
    let text : ScriptText c.args.bytes.now c.loop-line.script.items =
    subst (λ b. ScriptText b c.loop-line.script.items) same (text_of_all c.next.new.self (read_to c.loop-line.lines) c.loop-line.script.items c.in_default.ensures.read c.loop-line.invariant.spelled) in
    bad_no_text c.args.bytes.now line c.loop-line.script.items first text

pub returns-clause-long : goal.returns-clause-long
returns-clause-long c = λ script other many.
    let same : c.next.new.self.bytes ≡ c.args.bytes.now = c.in_default.ensures.bytes ∙ c.loop-line.invariant.bytes ∙ ap (λ (p : Place). p.bytes) c.new-lines.ensures in
    let text : ScriptText c.args.bytes.now c.loop-line.script.items =
    subst (λ b. ScriptText b c.loop-line.script.items) same (text_of_all c.next.new.self (read_to c.loop-line.lines) c.loop-line.script.items c.in_default.ensures.read c.loop-line.invariant.spelled) in
    absurd (omega (arith, c.if-len-gt-MOST_COMMANDS.false, ap length (text_one c.args.bytes.now c.loop-line.script.items script text other)))
