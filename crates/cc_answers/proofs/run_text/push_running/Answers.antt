use Rattle.std.proofs.Common.{◌∙◌, ◌++◌, ap, append_assoc}
use Rattle.std.specs.Prelude.{decimal}
use Rattle.cc_answers.proofs.run_text.push_running.Goals as goal

pub returns : goal.returns
returns c =
    let last = rw c.as_bytes.ensures.value at c.in_ok-extend_from_slice-2.ensures.items in
    last ∙ ap (λ t. t ++ c.args.what.now) (c.in_ok-push_decimal.ensures.put ∙ ap (λ t. t ++ decimal c.args.count) c.in_ok-extend_from_slice.ensures.items) ∙ simp append_assoc
