-- Faults of translation as those of the source.
use Rattle.std.proofs.Common.{◌≡◌, ◌≢◌, ℕ, List, Ok, Err, refl, sym, subst}
use Rattle.std.specs.Prelude.{Result, IfErr, IsErrAnd}
use Rattle.c_tree.specs.TypedTree.{ProgramTree}
use Rattle.frame_layouts.specs.declared.options.Options.{Options}
use Rattle.cc_compile.specs.TranslationFaults.{Says}
use Rattle.cc_compile.specs.Images.{source_jobs}
use Rattle.cc_compile.specs.declared.translation_fault.TranslationFault.{TranslationFault}
use Rattle.cc_compile.specs.declared.translation_fault.TranslationFault.TheVariants as translation
use Rattle.cc_compile.specs.PartFaults.{of_translation_fault}
use Rattle.cc_compile.specs.SourceFaults.{HasProgram, HasFault}
use Rattle.cc_compile.specs.declared.fault.BuildFault.{BuildFault}
use Rattle.cc_compile.specs.declared.fault.BuildFault.TheVariants as faults

-- a fault that is passed on as another
pub passed_on : {A : Type 0} (r : Result A BuildFault) (given : BuildFault) (P : BuildFault → Type 0) → IsErrAnd r (λ e. e ≡ given) → P given → IfErr r P
passed_on (Ok a) given P is h = absurd is
passed_on (Err e) given P is h = subst P (sym is) h

-- what the image of a program is refused for is a fault of its source
pub no_image : (o : Options) (bytes : List ℕ) (program : ProgramTree) (fault : TranslationFault) → HasProgram bytes program → Says (source_jobs o program) program fault → of_translation_fault fault ≢ faults.NoMemory
    → HasFault o bytes (of_translation_fault fault)
no_image o bytes program (translation.Plan why) h says some = (h.0, h.1, h.2, h.3, (program, h.4, says))
no_image o bytes program (translation.Link why) h says some = (h.0, h.1, h.2, h.3, (program, h.4, says))
no_image o bytes program translation.NoMemory h says some = absurd (some refl)
