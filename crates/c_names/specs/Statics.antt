-- The objects of file scope that the checker's stand for.
use Rattle.c_names.specs.declared.statics.Static as statics
use Rattle.c_rules.specs.Units.{StaticTree}

abbrev pub static_tree_of : statics.Static → StaticTree
static_tree_of s = record { name = s.name; object_type = s.object_type; initial = s.initial }
