use Rattle.std.proofs.Common.{◌<◌, ◌++◌, ◌∷◌, [], length, set, ap, ◌∙◌, arith, ℕ, cond, eqb}
use Rattle.c_state.specs.Inputs.{words_in, words_of}
use Rattle.c_state.proofs.InputLemmas.{append_word, words_at, words_with}
use Rattle.c_state.proofs.inputs.append.Goals as goal

pub returns-clause-words : goal.returns-clause-words
returns-clause-words c =
    let queues = c.args.queues.now in
    let old = c.index_mut.result.now in
    let within : c.from.result < length queues.items = omega (arith, c.requires, c.from.ensures, queues.ok.0) in
    let at = words_at queues.items c.from.result old within c.index_mut.ensures.value in
    ap words_of (words_with queues.items c.from.result c.push_back.new.self ∙ ap (set (words_in queues.items) c.from.result) c.in_ok-push_back.ensures.items)
    ∙ append_word (words_in queues.items) c.from.result c.args.word old.items at
    ∙ ap (λ n. λ (p : ℕ). cond (eqb p n) (words_of (words_in queues.items) p ++ c.args.word ∷ []) (words_of (words_in queues.items) p)) c.from.ensures
