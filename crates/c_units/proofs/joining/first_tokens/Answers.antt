use Rattle.std.proofs.Common.{length, map, ap, arith}
use Rattle.c_units.proofs.JoinedLemmas.{joined_short, tokens_joined}
use Rattle.c_units.proofs.joining.first_tokens.Goals as goal

pub tokens_of-requires : goal.tokens_of-requires
tokens_of-requires c = record { short = omega (arith, ap length c.deref.ensures.value, joined_short (map (λ s. s.items) c.args.sources.now) c.in_ok-text.text.items c.in_ok-text.ensures.text) }

pub returns-clause-tokens : goal.returns-clause-tokens
returns-clause-tokens c =
    tokens_joined (map (λ s. s.items) c.args.sources.now) c.in_ok-text.text.items _ c.in_ok-text.ensures.text (rw c.deref.ensures.value at c.in_ok-tokens_of.ensures)
