use Rattle.std.proofs.Common.{length, sym, ap, ◌++◌, ◌∙◌, append-nil}
use Rattle.std.proofs.lemmas.Slice.Zip.{zip_end}
use Rattle.cc_driver.proofs.ProfileLemmas.{rows_end}
use Rattle.cc_driver.proofs.pbuild.rows.Goals as goal

pub returns : goal.returns
returns c =
    let fs = c.args.frames.now in
    let es = c.args.entered.now in
    let all = zip_end fs es c.loop-frame.yielded c.into_iter-frame-iterator.result c.loop-frame.frame-iterator c.next.new.self c.next.result (cc) (cc) c.loop-frame.yielded_by c.in-None.is c.next.ensures.steps in
    sym (append-nil c.loop-frame.rows.items) ∙ sym (ap (λ l. c.loop-frame.rows.items ++ l) (rows_end fs es (length c.loop-frame.yielded) all)) ∙ c.loop-frame.invariant
