use Rattle.std.proofs.Common.{arith}
use Rattle.c_lexer.specs.TokenText.{spelled}
use Rattle.c_renaming.specs.RenamedTokens.{renamed_kind}
use Rattle.c_units.specs.Statics.{static_name}
use Rattle.c_units.specs.Joining.{renaming_of}
use Rattle.c_units.proofs.TableLemmas.{list_turn, list_end}
use Rattle.c_units.proofs.joining.push_tokens.Goals as goal

pub loop-token-preserved : goal.loop-token-preserved
loop-token-preserved c = λ file are.
    list_turn (λ t. renamed_kind (renaming_of static_name c.args.number file) t.kind) spelled _ _ _ c.args.tokens.now c.loop-token.token-index c.token-item.result c.token-item.is c.loop-token-test.true (c.loop-token.invariant file are)
    (c.in_ok-push_token.ensures file are)

pub returns : goal.returns
returns c = λ file are.
    list_end (λ t. renamed_kind (renaming_of static_name c.args.number file) t.kind) spelled _ _ c.args.tokens.now c.loop-token.token-index (omega (arith, c.loop-token-test.false)) (c.loop-token.invariant file are)
