use Rattle.std.proofs.Common.{◌≢◌, ◌++◌, ◌∷◌, [], map, take, sym, subst, arith}
use Rattle.acc_code.specs.AccSequence.{IsInFrame}
use Rattle.acc_code.specs.AccView.{function_items_of}
use Rattle.acc_code.specs.declared.program.AccFunction.{AccFunction}
use Rattle.cc_compile.specs.image_proof.acc_select_proof.SourceSequences.{at_step}
use Rattle.lay_profile.specs.Shapes.{AreShapes}
use Rattle.lay_profile.specs.ShapedFunctions.{AreShaped}
use Rattle.lay_profile.specs.declared.fault.ProfileFault.{ProfileFault}
use Rattle.lay_profile.specs.declared.fault.ProfileFault.TheVariants as faults
use Rattle.lay_profile.proofs.FaultLemmas.{passed_on}
use Rattle.lay_profile.proofs.SameLists.{all_taken}
use Rattle.lay_profile.proofs.ShapeLemmas.{element_at, one_more_shaped, shapes_of, taken_count, taken_further}
use Rattle.lay_profile.proofs.shapes.all_shaped.Goals as goal

pub overflow_cast-index : goal.overflow_cast-index
overflow_cast-index c = let few = c.has_names.ensures.few c.if-not-has_names.false in omega (arith, few, c.loop-index-test.true)

pub function_shape-requires-clause-in_frame : goal.function_shape-requires-clause-in_frame
function_shape-requires-clause-in_frame c =
    subst (λ (f : AccFunction). IsInFrame (function_items_of f)) (sym c.index-functions-index.is) (c.requires.in_frames c.loop-index.index c.index-functions-index.result c.loop-index-test.true)

pub returns-in_err-function_shape-clause-not_shaped : goal.returns-in_err-function_shape-clause-not_shaped
returns-in_err-function_shape-clause-not_shaped c =
    let image = c.args.image.now in
    let fs = c.args.functions.now in
    let given : ProfileFault = c.in_err-function_shape.field-0.0 in
    passed_on c.from_residual.result given
    (λ (why : ProfileFault). why ≢ faults.NoMemory → ¬ AreShapes image (map (λ (f : AccFunction). f.name) fs) (map (at_step 1) (map function_items_of fs)))
    c.from_residual.ensures.1
    (λ some shapes.
    c.in_err-function_shape.ensures.not_shaped some
    (shapes.each c.loop-index.index _ (element_at (at_step 1) function_items_of fs c.loop-index.index c.index-functions-index.result c.loop-index-test.true c.index-functions-index.is)))

pub loop-index-preserved : goal.loop-index-preserved
loop-index-preserved c =
    let fs = c.args.functions.now in
    let i = c.loop-index.index in
    let x = c.index-functions-index.result in
    let within = c.loop-index-test.true in
    let made = one_more_shaped c.args.image.now (map function_items_of (take i fs)) c.loop-index.all.items i (function_items_of x) c.in_ok-function_shape.field-0
    (taken_count function_items_of fs i (omega (arith, within))) c.loop-index.invariant c.in_ok-function_shape.ensures.shaped in
    subst (λ gs. AreShaped c.args.image.now gs c.push.new.self.items) (taken_further function_items_of fs i x within c.index-functions-index.is)
    (subst (λ all. AreShaped c.args.image.now (map function_items_of (take i fs) ++ function_items_of x ∷ []) all) (sym c.in_ok-push.ensures.items) made)

pub returns-clause-shapes : goal.returns-clause-shapes
returns-clause-shapes c =
    let fs = c.args.functions.now in
    let all = subst (λ l. AreShaped c.args.image.now (map function_items_of l) c.loop-index.all.items) (all_taken fs c.loop-index.index c.loop-index-test.false) c.loop-index.invariant in
    record {
      named = c.has_names.ensures.same.0 c.if-not-has_names.false;
      each = shapes_of c.args.image.now (map function_items_of fs) c.loop-index.all.items all;
    }
