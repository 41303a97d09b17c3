use Rattle.lay_cert.proofs.Spelling.{read_spelt, read_whole}
use Rattle.lay_cert.proofs.laws.read_certificates_are_written.Goals as goal

pub returns-clause-one_spelling : goal.returns-clause-one_spelling
returns-clause-one_spelling c = read_spelt

pub returns-clause-whole : goal.returns-clause-whole
returns-clause-whole c = read_whole
