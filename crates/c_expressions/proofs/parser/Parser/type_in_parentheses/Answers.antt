use Rattle.c_syntax.specs.SyntaxView.{type_of}
use Rattle.c_expressions.proofs.Given.{given_unread}
use Rattle.c_expressions.proofs.OperandsRefuse.{type_not_closed}
use Rattle.c_expressions.proofs.parser.Parser.type_in_parentheses.Goals as goal

pub returns-in_err-expect : goal.returns-in_err-expect
returns-in_err-expect c =
    let q = rw c.skip.ensures.behind at c.in_ok-type_name.ensures.read in
    given_unread _ c.from_residual-in_err-expect.result c.from_residual-in_err-expect.ensures.1 (type_not_closed c.args.self.now.cursor _ (type_of c.in_ok-type_name.type_name) q c.in_err-expect.ensures.refused)
