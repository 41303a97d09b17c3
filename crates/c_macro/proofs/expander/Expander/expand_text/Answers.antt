use Rattle.std.proofs.Common.{◌∙◌, sym, subst}
use Rattle.std.proofs.lemmas.Result.{err_from_is_err_and}
use Rattle.c_macro.specs.Macros.{steps, most_macros}
use Rattle.c_macro.specs.Expanding.{TakesTo, StopsOn, table_in, state_of}
use Rattle.c_macro.proofs.TextLines.{answered_more, answered_all, stops_flawed, stops_limit, idle_same}
use Rattle.c_macro.proofs.expander.Expander.expand_text.Goals as goal

pub returns-in_err-token-clause-stopped : goal.returns-in_err-token-clause-stopped
returns-in_err-token-clause-stopped c =
    let p = err_from_is_err_and c.from_residual.result c.from_residual.ensures.1 in
    rw (p.1, p.2) (stops_flawed c.args.self.now c.args.at c.args.line.now c.loop-token.reader c.loop-token.self.replacer.output c.in_err-token.field-0.0
    c.loop-token.invariant.answered c.loop-token.invariant.end c.in_err-token.ensures.flawed)

pub loop-token-preserved : goal.loop-token-preserved
loop-token-preserved c =
    let old = c.loop-token.invariant in
    let reads = rw c.in-Some.is at c.in_ok-token.ensures.reads in
    let done = c.in_ok-expand_token.ensures in
    record {
      ready = record {
        idle = idle_same c.loop-token.self.replacer.macros c.expand_token.new.self.macros done.bodies done.busy old.ready.idle;
        empty = done.empty;
        nested = old.ready.nested;
      };
      bodies = done.bodies ∙ old.bodies;
      sections = old.sections;
      end = old.end ∙ sym reads.0;
      placed = c.in_ok-token.ensures.placed;
      answered = answered_more c.args.self.now.replacer.output (state_of c.args.self.now).table c.loop-token.reader.end c.args.at c.args.line.now
          c.loop-token.reader.rest.now c.next.new.self.rest.now c.loop-token.self.replacer.output old.answered c.in-Some.token old.end reads.1 c.expand_token.new.self.output
          (subst (λ b. TakesTo c.loop-token.self.replacer.output (steps most_macros (table_in b) c.in-Some.token) c.expand_token.new.self.output) old.bodies done.takes);
    }

pub returns-in_err-expand_token-clause-stopped : goal.returns-in_err-expand_token-clause-stopped
returns-in_err-expand_token-clause-stopped c =
    let p = err_from_is_err_and c.from_residual-in_err-expand_token.result c.from_residual-in_err-expand_token.ensures.1 in
    let old = c.loop-token.invariant in
    let reads = rw c.in-Some.is at c.in_ok-token.ensures.reads in
    rw (p.1, p.2) (stops_limit c.args.self.now c.args.at c.args.line.now c.loop-token.reader.end c.loop-token.reader.rest.now c.next.new.self.rest.now
    c.loop-token.self.replacer.output c.in-Some.token c.in_err-expand_token.field-0.0 old.answered old.end reads.1
    (subst (λ b. StopsOn c.loop-token.self.replacer.output (steps most_macros (table_in b) c.in-Some.token) c.in_err-expand_token.field-0.0) old.bodies
    c.in_err-expand_token.ensures.stopped))

pub returns-clause-expanded : goal.returns-clause-expanded
returns-clause-expanded c =
    let old = c.loop-token.invariant in
    let ends = rw c.in_default.is at c.in_ok-token.ensures.reads in
    answered_all c.args.self.now.replacer.output (state_of c.args.self.now).table c.loop-token.reader.end c.args.at c.args.line.now
    c.loop-token.reader.rest.now c.next.new.self.rest.now c.loop-token.self.replacer.output old.answered old.end ends.0.1 ends.1
