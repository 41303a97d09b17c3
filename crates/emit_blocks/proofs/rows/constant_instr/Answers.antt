use Rattle.std.proofs.Common.{◌<◌, arith}
use Rattle.emit_blocks.proofs.rows.constant_instr.Goals as goal

pub overflow_cast-result : goal.overflow_cast-result
overflow_cast-result c = let few : c.args.word < 256 = rw c.in-Lack.is at c.requires in omega arith

pub overflow_cast-result-in-Addk : goal.overflow_cast-result-in-Addk
overflow_cast-result-in-Addk c = let few : c.args.word < 256 = rw c.in-Addk.is at c.requires in omega arith

pub overflow_cast-result-in-Subk : goal.overflow_cast-result-in-Subk
overflow_cast-result-in-Subk c = let few : c.args.word < 256 = rw c.in-Subk.is at c.requires in omega arith
