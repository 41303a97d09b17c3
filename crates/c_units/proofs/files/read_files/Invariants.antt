use Rattle.std.proofs.Common.{◌≡◌, length, map, take}
use Rattle.c_units.specs.Files.{AreFiles}
use Rattle.c_units.specs.Views.{file_of}
use Rattle.c_units.proofs.files.read_files.Given as goal

-- the files so far were read
abbrev pub invariant-loop-source : goal.invariant-loop-source
invariant-loop-source l = record {
  count : length l.files.items ≡ l.source-index;
  read : AreFiles (map (λ s. s.items) (take l.source-index l.sources)) (map file_of l.files.items);
}
