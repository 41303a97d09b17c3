-- Function by function, and piece by piece.
use Rattle.size_proof.proofs.Pieces.{function_size, startup_size, all_size, routines_size, linked_size, program_size}
use Rattle.size_proof.proofs.size_laws.code_fits_its_weight.Goals as goal

pub returns-clause-function : goal.returns-clause-function
returns-clause-function c = function_size

pub returns-clause-startup : goal.returns-clause-startup
returns-clause-startup c = startup_size

pub returns-clause-pieces : goal.returns-clause-pieces
returns-clause-pieces c = all_size

pub returns-clause-routines : goal.returns-clause-routines
returns-clause-routines c = routines_size

pub returns-clause-linked : goal.returns-clause-linked
returns-clause-linked c = linked_size

pub returns-clause-program : goal.returns-clause-program
returns-clause-program c = program_size
