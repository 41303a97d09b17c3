use Rattle.std.proofs.Common.{◌≤◌, refl, rules}
use Rattle.cc_memory.proofs.CallLemmas.{still_past, next_not, contains_is}
use Rattle.cc_memory.proofs.mem_sink.MemSinkSink.put.Goals as goal

pub returns-then-is_to_fail-clause-reliable : goal.returns-then-is_to_fail-clause-reliable
returns-then-is_to_fail-clause-reliable c = λ past.
    let fails = contains_is _ _ _ _ c.deref.ensures.value c.contains-is_to_fail.ensures.cases in
    absurd (next_not c.args.self.now.fail_at.items c.args.self.now.calls past (fails.0 c.if-is_to_fail.true))

pub returns-then-is_to_fail-clause-unreliable : goal.returns-then-is_to_fail-clause-unreliable
returns-then-is_to_fail-clause-unreliable c = λ failed past.
    let fails = contains_is _ _ _ _ c.deref.ensures.value c.contains-is_to_fail.ensures.cases in
    next_not c.args.self.now.fail_at.items c.args.self.now.calls past (fails.0 c.if-is_to_fail.true)

pub returns-then-is_err-clause-reliable : goal.returns-then-is_err-clause-reliable
returns-then-is_err-clause-reliable c = λ past.
    let later : c.args.self.now.calls ≤ c.saturating_add-self.result = search rules in
    record { reliable = still_past c.args.self.now.fail_at.items c.args.self.now.calls c.saturating_add-self.result later past; faults = refl }

pub returns-clause-reliable : goal.returns-clause-reliable
returns-clause-reliable c = λ past.
    let later : c.args.self.now.calls ≤ c.saturating_add-self.result = search rules in
    record { reliable = still_past c.args.self.now.fail_at.items c.args.self.now.calls c.saturating_add-self.result later past; faults = refl }
