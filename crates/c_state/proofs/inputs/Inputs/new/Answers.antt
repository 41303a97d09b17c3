use Rattle.std.proofs.Common.{◌≡◌, ◌<◌, ◌≤◌, ◌++◌, ◌∷◌, [], length, get_or, take, sym, ap, ◌∙◌, subst, arith, ℕ, List}
use Rattle.std.proofs.lemmas.List.{take_more, take_all}
use Rattle.word_base.specs.Ports.{input_of}
use Rattle.c_state.specs.Inputs.{words_in, words_of}
use Rattle.c_state.proofs.InputLemmas.{empty_queues, next_line}
use Rattle.c_state.proofs.inputs.Inputs.new.Goals as goal

pub loop-line-init : goal.loop-line-init
loop-line-init c = (c.in_ok-queues.ensures.ports, ap words_of c.in_ok-queues.ensures.words ∙ empty_queues 16)

pub append-requires : goal.append-requires
append-requires c = omega (arith, c.port.ensures.below, c.loop-line.invariant.0)

pub loop-line-preserved : goal.loop-line-preserved
loop-line-preserved c =
    let line = c.line-item.result in
    let lines = c.args.ports.now in
    let i = c.loop-line.line-index in
    let within : i < length lines = subst (λ (xs : List (ℕ × ℕ)). i < length xs) c.lines-line-items.ensures c.loop-line-test.true in
    let is : line ≡ get_or lines i line = subst (λ (xs : List (ℕ × ℕ)). line ≡ get_or xs i line) c.lines-line-items.ensures c.line-item.is in
    let more = take_more lines i line within ∙ ap (λ (l : ℕ × ℕ). take i lines ++ l ∷ []) (sym is) in (
      c.in_ok-append.ensures.ports ∙ c.loop-line.invariant.0,
      next_line (words_in c.loop-line.queues.items) (take i lines) line c.port.result c.word.result _ c.port.ensures.value c.word.ensures c.loop-line.invariant.1 c.in_ok-append.ensures.words ∙ ap input_of (sym more),
    )

pub returns : goal.returns
returns c = c.loop-line.invariant.1 ∙ ap input_of (take_all c.loop-line.line-index c.args.ports.now (subst (λ (xs : List (ℕ × ℕ)). length xs ≤ c.loop-line.line-index) c.lines-line-items.ensures c.loop-line-test.false))
