use Rattle.lay_cert.proofs.Written.{written_read, old_read}
use Rattle.lay_cert.proofs.laws.written_certificates_are_read.Goals as goal

pub returns-clause-written : goal.returns-clause-written
returns-clause-written c = written_read

pub returns-clause-old : goal.returns-clause-old
returns-clause-old c = old_read
