-- The names and objects of a block while it's open, and how its statements are left.
use Rattle.std.specs.Prelude.{ℕ, List, [], ◌∷◌, Option, Some, None}
use Rattle.c_tree.specs.Store.{Obj}
use Rattle.c_tree.specs.Eval.{Env}
use Rattle.c_tree.specs.Exec as runs
use Rattle.c_means.specs.declared.blocks.Opened.{Opened}
use Rattle.c_means.specs.declared.blocks.Fresh.{Fresh}
use Rattle.c_means.specs.declared.blocks.Flow.{Flow}
use Rattle.c_means.specs.declared.blocks.Flow.TheVariants as flows
use Rattle.c_state.specs.Values.{option_of}

-- the numbers of the objects of a block, in order of declaration
abbrev pub numbers_of : List Opened → List ℕ
numbers_of [] = []
numbers_of (o ∷ os) = o.object.number ∷ numbers_of os

-- what the names stand for once each stands again for what it stood for before, the last one first
abbrev pub put_back : Env → List Opened → Env
put_back env [] = env
put_back env (o ∷ os) = runs.named (put_back env os) o.reference o.before.number

abbrev pub fresh_of : Option Fresh → Option Obj
fresh_of None = None
fresh_of (Some f) = Some (record { cells = f.cells; kind = f.kind })

abbrev pub flow_of : Flow → runs.Flow
flow_of flows.Next = runs.Next
flow_of flows.Broke = runs.Broke
flow_of flows.Continued = runs.Continued
flow_of (flows.Returned v) = runs.Returned (option_of v)

abbrev pub option_flow_of : Option Flow → Option runs.Flow
option_flow_of None = None
option_flow_of (Some flow) = Some (flow_of flow)
