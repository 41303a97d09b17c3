-- The calls that a run may make, and what the names of its function stand for.
use Rattle.c_tree.specs.ProgramView.{program_of}
use Rattle.c_tree.specs.View.{function_of}
use Rattle.c_tree.specs.Eval.{Env, Calls}
use Rattle.c_tree.specs.SourceRun.{call_within}
use Rattle.c_means.specs.declared.frame.Run.{Run}
use Rattle.c_state.specs.declared.names.Names.{Names}
use Rattle.c_state.specs.Names.{env_of}

abbrev pub calls_of : Run → Calls
calls_of r = call_within (program_of r.program.now) r.turns r.depth

abbrev pub env_in : Run → Names → Env
env_in r names = env_of (function_of r.function.now) names
