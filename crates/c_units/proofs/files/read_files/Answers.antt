use Rattle.std.proofs.Common.{◌≢◌, ◌+◌, ◌∙◌, length, map, ap, subst, sym, arith, ◌∷◌, []}
use Rattle.std.proofs.lemmas.List.{map-append, length-append}
use Rattle.c_units.specs.declared.fault.UnitFault.TheVariants as faults
use Rattle.c_units.specs.Files.{AreFiles, HasOwnFault, HasFileFault}
use Rattle.c_units.specs.Views.{file_of}
use Rattle.c_units.proofs.FileLemmas.{passed_fault, files_turn, file_refused}
use Rattle.c_units.proofs.files.read_files.Goals as goal

pub returns-in_err-read_file-clause-fault : goal.returns-in_err-read_file-clause-fault
returns-in_err-read_file-clause-fault c =
    passed_fault c.from_residual.result c.in_err-read_file.field-0.0 (λ fault. fault ≢ faults.NoMemory → HasFileFault (map (λ s. s.items) c.args.sources.now) fault) c.from_residual.ensures.1
    (λ some.
    file_refused (λ s. s.items) (map file_of c.loop-source.files.items) c.args.sources.now c.loop-source.source-index c.source-item.result c.in_err-read_file.field-0.0 c.source-item.is c.loop-source-test.true c.loop-source.invariant.read
    (subst (λ n. HasOwnFault (n + 1) c.source-item.result.items c.in_err-read_file.field-0.0) (omega (arith, c.len.ensures, c.loop-source.invariant.count, c.loop-source.files.ok)) (rw c.deref.ensures.value at (c.in_err-read_file.ensures.fault some))))

pub loop-source-preserved : goal.loop-source-preserved
loop-source-preserved c = record {
  count = ap length c.in_ok-push.ensures.items ∙ length-append c.loop-source.files.items (c.in_ok-read_file.field-0 ∷ []) ∙ ap (λ n. n + 1) c.loop-source.invariant.count;
  read = subst (AreFiles _) (sym (ap (map file_of) c.in_ok-push.ensures.items ∙ map-append file_of c.loop-source.files.items (c.in_ok-read_file.field-0 ∷ [])))
      (files_turn (λ s. s.items) (map file_of c.loop-source.files.items) c.args.sources.now c.loop-source.source-index c.source-item.result (file_of c.in_ok-read_file.field-0) c.source-item.is c.loop-source-test.true c.loop-source.invariant.read
      (rw c.deref.ensures.value at c.in_ok-read_file.ensures.file));
}
