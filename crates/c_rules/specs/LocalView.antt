-- The pure objects that those of functions stand for.
use Rattle.c_rules.specs.declared.local.Local as locals
use Rattle.c_rules.specs.Statements.{LocalTree}

abbrev pub local_tree_of : locals.Local → LocalTree
local_tree_of l = record { name = l.name; object_type = l.object_type; values = l.values }
