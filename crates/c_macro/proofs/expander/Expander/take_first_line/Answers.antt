use Rattle.std.proofs.Common.{arith, ◌∙◌, sym, ap, take, drop, inr}
use Rattle.std.proofs.lemmas.Result.{err_from_is_err_and}
use Rattle.c_macro.specs.Lines.{open_comment}
use Rattle.c_macro.specs.Expanding.{state_of, out_of}
use Rattle.c_macro.proofs.ObeyLemmas.{or_memory}
use Rattle.c_macro.proofs.LinesDone.{line_bounded, line_filled, line_fault, line_open, line_goes, open_none}
use Rattle.c_macro.proofs.expander.Expander.take_first_line.Goals as goal

pub split_at-requires : goal.split_at-requires
split_at-requires c = omega (arith, ap (λ size. size.bytes) c.line_size-size.ensures, line_bounded c.args.text.now)

pub returns-in_err-take_line-clause-fault : goal.returns-in_err-take_line-clause-fault
returns-in_err-take_line-clause-fault c =
    let p = err_from_is_err_and c.from_residual.result c.from_residual.ensures.1 in
    rw (p.1, p.2) (or_memory (line_fault (state_of c.args.self.now) (out_of c.args.self.now) c.args.at c.args.text.now c.requires.some c.split_at.result.0.now
    (c.split_at.ensures.front ∙ ap (λ size. take size.bytes c.args.text.now) c.line_size-size.ensures)
    c.open_comment-comment.result (c.open_comment-comment.ensures ∙ ap (open_comment c.args.at) c.line_size-size.ensures) c.in_err-take_line.field-0.0) c.in_err-take_line.ensures.fault)

pub returns-in-Some-clause-fault : goal.returns-in-Some-clause-fault
returns-in-Some-clause-fault c =
    inr (line_open (state_of c.args.self.now) (out_of c.args.self.now) c.args.at c.args.text.now c.requires.some c.split_at.result.0.now
    (c.split_at.ensures.front ∙ ap (λ size. take size.bytes c.args.text.now) c.line_size-size.ensures)
    c.open_comment-comment.result (c.open_comment-comment.ensures ∙ ap (open_comment c.args.at) c.line_size-size.ensures)
    c.in-Some.fault (state_of c.take_line.new.self) (out_of c.take_line.new.self) c.in-Some.is c.in_ok-take_line.ensures.taken)

pub returns-in-None-clause-goes_on : goal.returns-in-None-clause-goes_on
returns-in-None-clause-goes_on c = λ place result placed comes.
    line_goes (state_of c.args.self.now) (out_of c.args.self.now) c.args.at c.args.text.now c.requires.some c.split_at.result.0.now
    (c.split_at.ensures.front ∙ ap (λ size. take size.bytes c.args.text.now) c.line_size-size.ensures)
    c.open_comment-comment.result (c.open_comment-comment.ensures ∙ ap (open_comment c.args.at) c.line_size-size.ensures)
    (state_of c.take_line.new.self) (out_of c.take_line.new.self) c.split_at.result.1.now place result c.in-None.is c.in_ok-take_line.ensures.taken
    (c.split_at.ensures.back ∙ ap (λ size. drop size.bytes c.args.text.now) c.line_size-size.ensures) placed comes

pub returns-in-None-clause-shorter : goal.returns-in-None-clause-shorter
returns-in-None-clause-shorter c =
    let closed = open_none c.args.at c.line_size-size.result (sym c.open_comment-comment.ensures ∙ c.in-None.is) in
    let some = line_filled c.args.text.now c.requires.some (sym (ap (λ size. size.is_open) c.line_size-size.ensures) ∙ closed) in
    omega (arith, some, line_bounded c.args.text.now, ap (λ size. size.bytes) c.line_size-size.ensures, c.split_at.ensures.back_len)
