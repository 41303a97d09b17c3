-- The labels that a table keeps.
use Rattle.std.specs.Str.{bytes_eq}
use Rattle.indexmap.specs.IndexMap.{get_by}
use Rattle.c25_asm.specs.declared.labels.LabelTable.{LabelTable}
use Rattle.c25_asm.specs.Names.{Labels}

abbrev pub known : LabelTable → Labels
known table name = get_by (λ k. bytes_eq name k.now) table.places
