use Rattle.std.proofs.Common.{◌≡◌, ◌++◌, map, drop}
use Rattle.std.specs.Prelude.{All}
use Rattle.c_units.specs.Views.{file_of, tree_of, HasTable}
use Rattle.c_units.proofs.tables.with_statics.Given as goal

-- the files so far and those that are left
abbrev pub invariant-loop-file : goal.invariant-loop-file
invariant-loop-file l = record {
  files : map tree_of l.named.items ++ map file_of (drop l.file-index l.files) ≡ map file_of l.files;
  tables : All HasTable l.named.items;
}
