use Rattle.c25_isa.proofs.RowLemmas.{instr_of-parts, parts-instr_of, made}
use Rattle.c25_isa.proofs.MemoryUseLemmas.{operand_accessed, read_leaves}
use Rattle.c25_isa.proofs.fields.rows_are_instructions.Goals as goal

pub returns : goal.returns
returns c = record { whole = instr_of-parts; parts = parts-instr_of; made = made; operand = operand_accessed; keeps = read_leaves }
