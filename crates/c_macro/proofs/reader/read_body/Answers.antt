use Rattle.std.proofs.Common.{◌∙◌, sym, subst}
use Rattle.std.proofs.lemmas.Result.{err_from_is_err_and}
use Rattle.c_macro.proofs.ReadingLemmas.{HasRead, has_read_more, has_read_all, has_read_flaw}
use Rattle.c_macro.proofs.reader.read_body.Goals as goal

pub returns-in_err-token-clause-flawed : goal.returns-in_err-token-clause-flawed
returns-in_err-token-clause-flawed c =
    let p = err_from_is_err_and c.from_residual.result c.from_residual.ensures.1 in
    rw (p.1, p.2) (has_read_flaw c.args.text.now c.args.end c.loop-body.reader c.loop-body.body.items c.in_err-token.field-0.0
    c.loop-body.invariant.end c.loop-body.invariant.read c.in_err-token.ensures.flawed)

pub loop-body-preserved : goal.loop-body-preserved
loop-body-preserved c =
    let reads = rw c.in-Some.is at c.in_ok-token.ensures.reads in
    let end = c.loop-body.invariant.end in
    record {
      end = reads.0 ∙ end;
      placed = c.in_ok-token.ensures.placed;
      read = subst (λ kinds. HasRead c.args.text.now c.args.end c.next.new.self.rest.now kinds) (sym c.in_ok-push.ensures.items)
          (has_read_more c.args.text.now c.args.end c.loop-body.reader.rest.now c.next.new.self.rest.now c.loop-body.body.items c.in-Some.token c.loop-body.invariant.read
          (λ at text before e s. reads.1 at text before (e ∙ sym end) s));
    }

pub returns-clause-body : goal.returns-clause-body
returns-clause-body c =
    let ends = rw c.in_default.is at c.in_ok-token.ensures.reads in
    let end = c.loop-body.invariant.end in
    has_read_all c.args.text.now c.args.end c.loop-body.reader.rest.now c.next.new.self.rest.now c.loop-body.body.items c.loop-body.invariant.read
    (λ at text before e s. ends.0.1 at text before (e ∙ sym end) s) ends.1
