-- The store of the evaluator, as the definition of runs has it.
use Rattle.c_tree.specs.Store as runs
use Rattle.c_state.specs.declared.store.Store.{Store}
use Rattle.c_state.specs.Objects.{living_of}

abbrev pub store_of : Store → runs.Store
store_of s = record { made = s.made; living = living_of s.objects.items }
