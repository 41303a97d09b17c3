use Rattle.std.proofs.Common.{◌≢◌}
use Rattle.c_units.specs.declared.fault.UnitFault.TheVariants as faults
use Rattle.c_units.specs.Files.{HasOwnFault}
use Rattle.c_units.proofs.FileLemmas.{passed_fault}
use Rattle.c_units.proofs.files.read_file.Goals as goal

pub returns-in_err-unit-clause-fault : goal.returns-in_err-unit-clause-fault
returns-in_err-unit-clause-fault c =
    passed_fault c.from_residual-in_err-unit.result c.in_err-unit.field-0.0 (λ fault. fault ≢ faults.NoMemory → HasOwnFault c.args.number c.args.source.now fault) c.from_residual-in_err-unit.ensures.1 c.in_err-unit.ensures.fault

pub returns-in_err-check_rules-clause-fault : goal.returns-in_err-check_rules-clause-fault
returns-in_err-check_rules-clause-fault c =
    passed_fault c.from_residual-in_err-check_rules.result c.in_err-check_rules.field-0.0 (λ fault. fault ≢ faults.NoMemory → HasOwnFault c.args.number c.args.source.now fault) c.from_residual-in_err-check_rules.ensures.1
    c.in_err-check_rules.ensures.fault
