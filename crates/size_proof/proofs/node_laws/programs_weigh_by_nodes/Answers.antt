use Rattle.size_proof.proofs.Units.{program_by_nodes}
use Rattle.size_proof.proofs.node_laws.programs_weigh_by_nodes.Goals as goal

pub returns : goal.returns
returns c = program_by_nodes
