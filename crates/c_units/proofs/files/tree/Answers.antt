use Rattle.std.proofs.Common.{List, length, ap, sym, subst, arith}
use Rattle.std.specs.Prelude.{All}
use Rattle.c_tree.specs.c_syntax.declared.token.Token.{Token}
use Rattle.c_lexer.specs.TokenText.{HasSpelling}
use Rattle.c_units.specs.PartFaults.{of_parse_fault}
use Rattle.c_units.proofs.FileLemmas.{few_left, all_spelled, refused_as, syntax_refused}
use Rattle.c_units.proofs.files.tree.Goals as goal

pub parse-requires : goal.parse-requires
parse-requires c = record {
  few = omega (arith, ap length c.deref.ensures.value, few_left c.args.source.now c.args.kept.now.tokens.items c.args.kept.now.externs.items c.requires.tokens);
  spelled = subst (λ (tokens : List Token). All (λ t. HasSpelling t.kind) tokens) (sym c.deref.ensures.value)
      (all_spelled c.args.source.now c.args.kept.now.tokens.items c.args.kept.now.externs.items c.requires.tokens);
}

pub returns-in-Err-clause-fault : goal.returns-in-Err-clause-fault
returns-in-Err-clause-fault c =
    refused_as c.args.number c.args.source.now c.of_syntax.result (of_parse_fault c.args.number c.in-Err.fault) c.of_syntax.ensures
    (syntax_refused c.args.number c.args.source.now c.args.kept.now.tokens.items c.args.kept.now.externs.items c.in-Err.fault c.requires.tokens (rw c.deref.ensures.value at c.in-Err.ensures.refused))
