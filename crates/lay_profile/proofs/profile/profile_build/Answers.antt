use Rattle.std.proofs.Common.{◌≢◌, arith}
use Rattle.cc_compile.specs.c_tree.ProgramView.{program_of}
use Rattle.lay_profile.specs.Profiles.{searched}
use Rattle.lay_profile.specs.Recordings.{recording_of}
use Rattle.lay_profile.specs.PartFaults.{of_build_fault}
use Rattle.lay_profile.specs.declared.fault.ProfileFault.{ProfileFault}
use Rattle.lay_profile.specs.declared.fault.ProfileFault.TheVariants as faults
use Rattle.lay_profile.proofs.FaultLemmas.{passed_on}
use Rattle.lay_profile.proofs.OneProfile.{never_other, source_fault_apart}
use Rattle.lay_profile.proofs.Profiling.{ok_then}
use Rattle.lay_profile.proofs.profile.profile_build.Goals as goal

pub returns-clause-profiled : goal.returns-clause-profiled
returns-clause-profiled g c =
    let has = c.in_ok-program.ensures.typed in
    let t = program_of c.in_ok-program.program in
    let r = recording_of c.args.first.now c.args.ports.now c.args.options.steps in
    ok_then c.laid_out.result (c.laid_out.ensures.laid_out t c.in_ok-selection.ensures)
    (λ p l. record {
      tokens = has.0;
      source = has.1;
      program = t;
      lexes = has.2;
      is_source = has.3;
      typed = has.4;
      laid_out = l;
      short =
          let bound = c.code_is_bounded.ensures.image (searched c.args.options r t) t _ c.in_ok-program.program.well_formed l.has in
          let few = c.programs_weigh_by_nodes.ensures has.1 t has.4 in
          omega (arith, bound, few);
    })

pub returns-clause-own_image : goal.returns-clause-own_image
returns-clause-own_image g c = λ o frames built.
    let t = program_of c.in_ok-program.program in
    let r = recording_of c.args.first.now c.args.ports.now c.args.options.steps in
    never_other o c.args.options c.args.bytes.now r frames t c.laid_out.result built c.in_ok-program.ensures.typed (c.laid_out.ensures.refused t c.in_ok-selection.ensures)

pub returns-in_err-program-clause-own_image : goal.returns-in_err-program-clause-own_image
returns-in_err-program-clause-own_image g c = λ o frames built.
    let given = c.in_err-program.field-0.0 in
    passed_on c.from_residual.result (of_build_fault given) (λ (why : ProfileFault). why ≢ faults.OtherSource) c.from_residual.ensures.1 (source_fault_apart given)
