use Rattle.cc_files.proofs.PutLemmas.{line_put}
use Rattle.cc_files.proofs.output.say.Goals as goal

pub returns-clause-put : goal.returns-clause-put
returns-clause-put g c = record { calls = c.put.ensures.counted; put = line_put _ _ _ _ c.put.result c.put.ensures.told c.put.ensures.success c.put.ensures.refused }
