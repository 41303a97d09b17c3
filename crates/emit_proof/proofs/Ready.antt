-- A row is ready where its operand lies in RAM.
use Rattle.std.proofs.Common.{ℕ}
use Rattle.c25_isa.specs.declared.operand.Operand.{Operand}
use Rattle.c25_code.specs.Work.{Work}
use Rattle.c25_code.specs.Straight.{InRam, InstrReady}
use Rattle.acc_code.specs.declared.operation.AccOp.{AccOp}
use Rattle.acc_code.specs.declared.operation.AccOp.TheVariants as row
use Rattle.emit_blocks.specs.Instructions.{word_instr, constant_instr}
use Rattle.emit_proof.specs.Rows.{WorksOnWord, WorksOnConstant}

pub word_ready : (o : AccOp) (m : Operand) (w : Work) → WorksOnWord o → InRam m w → InstrReady (word_instr o m) w
word_ready row.Point m w works here = absurd works
word_ready (row.Add shift) m w works here = here
word_ready (row.Sub shift) m w works here = here
word_ready (row.Lac shift) m w works here = here
word_ready row.Mpy m w works here = here
word_ready row.Lt m w works here = here
word_ready row.Zals m w works here = here
word_ready row.Lact m w works here = here
word_ready row.Subs m w works here = here
word_ready row.Adds m w works here = here
word_ready row.Xor m w works here = here
word_ready row.Or m w works here = here
word_ready row.And m w works here = here
word_ready (row.Sacl shift) m w works here = absurd works
word_ready (row.Sach shift) m w works here = absurd works
word_ready (row.In port) m w works here = absurd works
word_ready (row.Out port) m w works here = here
word_ready row.Mpyk m w works here = absurd works
word_ready row.Lack m w works here = absurd works
word_ready row.Addk m w works here = absurd works
word_ready row.Subk m w works here = absurd works
word_ready (row.Lalk shift) m w works here = absurd works
word_ready (row.Adlk shift) m w works here = absurd works
word_ready (row.Sblk shift) m w works here = absurd works
word_ready row.Andk m w works here = absurd works
word_ready row.Ork m w works here = absurd works
word_ready row.Xork m w works here = absurd works
word_ready row.Dint m w works here = absurd works
word_ready row.Rovm m w works here = absurd works
word_ready row.Rsxm m w works here = absurd works
word_ready row.Ssxm m w works here = absurd works
word_ready row.Spm m w works here = absurd works
word_ready row.Pac m w works here = absurd works
word_ready row.Apac m w works here = absurd works
word_ready row.Spac m w works here = absurd works
word_ready row.Sfl m w works here = absurd works
word_ready row.Sfr m w works here = absurd works
word_ready row.Neg m w works here = absurd works
word_ready row.Cmpl m w works here = absurd works

pub constant_ready : (o : AccOp) (x : ℕ) (w : Work) → WorksOnConstant o → InstrReady (constant_instr o x) w
constant_ready row.Point x w works = tt {0}
constant_ready (row.Add shift) x w works = absurd works
constant_ready (row.Sub shift) x w works = absurd works
constant_ready (row.Lac shift) x w works = absurd works
constant_ready row.Mpy x w works = absurd works
constant_ready row.Lt x w works = absurd works
constant_ready row.Zals x w works = absurd works
constant_ready row.Lact x w works = absurd works
constant_ready row.Subs x w works = absurd works
constant_ready row.Adds x w works = absurd works
constant_ready row.Xor x w works = absurd works
constant_ready row.Or x w works = absurd works
constant_ready row.And x w works = absurd works
constant_ready (row.Sacl shift) x w works = absurd works
constant_ready (row.Sach shift) x w works = absurd works
constant_ready (row.In port) x w works = absurd works
constant_ready (row.Out port) x w works = absurd works
constant_ready row.Mpyk x w works = tt {0}
constant_ready row.Lack x w works = tt {0}
constant_ready row.Addk x w works = tt {0}
constant_ready row.Subk x w works = tt {0}
constant_ready (row.Lalk shift) x w works = tt {0}
constant_ready (row.Adlk shift) x w works = tt {0}
constant_ready (row.Sblk shift) x w works = tt {0}
constant_ready row.Andk x w works = tt {0}
constant_ready row.Ork x w works = tt {0}
constant_ready row.Xork x w works = tt {0}
constant_ready row.Dint x w works = tt {0}
constant_ready row.Rovm x w works = tt {0}
constant_ready row.Rsxm x w works = tt {0}
constant_ready row.Ssxm x w works = tt {0}
constant_ready row.Spm x w works = tt {0}
constant_ready row.Pac x w works = tt {0}
constant_ready row.Apac x w works = tt {0}
constant_ready row.Spac x w works = tt {0}
constant_ready row.Sfl x w works = tt {0}
constant_ready row.Sfr x w works = tt {0}
constant_ready row.Neg x w works = tt {0}
constant_ready row.Cmpl x w works = tt {0}
