use Rattle.c_syntax.proofs.Parsing.ExpressionOne.{one_expression}
use Rattle.c_syntax.proofs.Rows.OneTree.{one_specs, one_stars, one_item, one_initial, one_parameter, one_parameters, one_declaration, one_statement, one_choices, one_function, one_external}
use Rattle.c_syntax.proofs.Rows.UnitOne.{known, one_source}
use Rattle.c_syntax.proofs.laws.one_tree.Goals as goal

pub returns-clause-expression : goal.returns-clause-expression
returns-clause-expression c = one_expression

pub returns-clause-statement : goal.returns-clause-statement
returns-clause-statement c = one_statement known

pub returns-clause-declaration : goal.returns-clause-declaration
returns-clause-declaration c = one_declaration known

pub returns-clause-specs : goal.returns-clause-specs
returns-clause-specs c = one_specs known

pub returns-clause-stars : goal.returns-clause-stars
returns-clause-stars c = one_stars known

pub returns-clause-item : goal.returns-clause-item
returns-clause-item c = one_item known

pub returns-clause-initial : goal.returns-clause-initial
returns-clause-initial c = one_initial known

pub returns-clause-parameter : goal.returns-clause-parameter
returns-clause-parameter c = one_parameter known

pub returns-clause-parameters : goal.returns-clause-parameters
returns-clause-parameters c = one_parameters known

pub returns-clause-choices : goal.returns-clause-choices
returns-clause-choices c = one_choices known

pub returns-clause-function : goal.returns-clause-function
returns-clause-function c = one_function known

pub returns-clause-external : goal.returns-clause-external
returns-clause-external c = one_external known

pub returns-clause-unit : goal.returns-clause-unit
returns-clause-unit c = one_source
