use Rattle.std.proofs.Common.{map, arith}
use Rattle.std.proofs.lemmas.List.{length-map}
use Rattle.std.proofs.lemmas.Result.{IfOk-weaker}
use Rattle.c_units.proofs.SpellingLemmas.{joined_text}
use Rattle.c_units.proofs.OneOutcome.{joined_answered, fault_answered}
use Rattle.c_units.proofs.joining.join_units.Goals as goal

pub returns-clause-joined : goal.returns-clause-joined
returns-clause-joined c = λ tokens joins. joined_answered (map (λ s. s.items) c.args.sources.now) c.first_tokens.result tokens c.first_tokens.ensures.tokens c.first_tokens.ensures.fault joins

pub returns-clause-faulty : goal.returns-clause-faulty
returns-clause-faulty c = λ cause has. fault_answered (map (λ s. s.items) c.args.sources.now) c.first_tokens.result cause c.first_tokens.ensures.tokens c.first_tokens.ensures.fault has

pub returns-clause-lexes : goal.returns-clause-lexes
returns-clause-lexes c =
    IfOk-weaker c.first_tokens.result _ _ (λ tokens joins. joined_text (map (λ s. s.items) c.args.sources.now) tokens.items (omega (arith, length-map c.args.sources.now (λ s. s.items), c.requires.few)) joins)
    c.first_tokens.ensures.tokens
