use Rattle.std.proofs.Common.{◌≤◌, refl, rules}
use Rattle.cc_memory.proofs.CallLemmas.{contains_is, still_past, next_not}
use Rattle.cc_memory.proofs.mem_shelf.MemShelf.count_call.Goals as goal

pub returns-clause-fails : goal.returns-clause-fails
returns-clause-fails c = contains_is _ _ _ _ c.deref.ensures.value c.contains-fails.ensures.cases

pub returns-clause-reliable : goal.returns-clause-reliable
returns-clause-reliable c = λ past.
    let later : c.args.self.now.calls ≤ c.saturating_add-self.result = search rules in
    record {
      reliable = still_past c.args.self.now.fail_at.items c.args.self.now.calls c.saturating_add-self.result later past;
      fetches = refl;
      stores = refl;
    }

pub returns-clause-unreliable : goal.returns-clause-unreliable
returns-clause-unreliable c = λ fails past.
    let is = contains_is _ _ _ _ c.deref.ensures.value c.contains-fails.ensures.cases in
    next_not c.args.self.now.fail_at.items c.args.self.now.calls past (is.0 fails)
