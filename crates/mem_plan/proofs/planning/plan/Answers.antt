use Rattle.std.proofs.Common.{◌≡◌, ◌+◌, ◌∙◌, map, ap, refl, slice_index, arith}
use Rattle.c_tree.specs.View.{object_of}
use Rattle.mem_plan.specs.DataNeeds.{objects_words, own}
use Rattle.mem_plan.specs.Plan.{end_from, frames_from, object_addresses}
use Rattle.tree_code.specs.ProgramView.{tree_of}
use Rattle.tree_code.specs.WordView.{function_code_of}
use Rattle.mem_plan.proofs.BoundLemmas.{statics_bound, locals_bound, own_bound, program_needs, gathered_of, found_begins, greatest_so, plan_made}
use Rattle.mem_plan.proofs.planning.plan.Goals as goal

pub needs_of-requires : goal.needs_of-requires
needs_of-requires c =
    locals_bound (tree_of c.args.tree.now) c.args.tree.now.functions c.as_slice-functions.result.now refl c.as_slice-functions.ensures c.args.tree.now.well_formed

pub begins_of-requires : goal.begins_of-requires
begins_of-requires c =
    program_needs c.args.tree.now c.in_ok-needs.needs.items c.deref.result.now
    (gathered_of c.args.tree.now.functions c.as_slice-functions.result.now c.in_ok-needs.needs.items c.in_ok-needs.ensures c.as_slice-functions.ensures) c.deref.ensures.value
    c.args.tree.now.well_formed

pub objects_words-static_words-requires : goal.objects_words-static_words-requires
objects_words-static_words-requires c =
    statics_bound (tree_of c.args.tree.now) c.args.tree.now.statics c.as_slice-statics.result.now refl c.as_slice-statics.ensures c.args.tree.now.well_formed

pub overflow_add-words : goal.overflow_add-words
overflow_add-words c =
    let bound = statics_bound (tree_of c.args.tree.now) c.args.tree.now.statics c.as_slice-statics.result.now refl c.as_slice-statics.ensures c.args.tree.now.well_formed
    in omega (arith, bound, c.objects_words-static_words.ensures, c.from.ensures)

pub greatest_end-requires-clause-own : goal.greatest_end-requires-clause-own
greatest_end-requires-clause-own c =
    own_bound (tree_of c.args.tree.now) c.args.tree.now.functions c.in_ok-needs.needs.items c.deref-2.result.now refl
    (gathered_of c.args.tree.now.functions c.as_slice-functions.result.now c.in_ok-needs.needs.items c.in_ok-needs.ensures c.as_slice-functions.ensures)
    c.deref-2.ensures.value c.args.tree.now.well_formed

pub overflow_add-words-2 : goal.overflow_add-words-2
overflow_add-words-2 c =
    let bound = statics_bound (tree_of c.args.tree.now) c.args.tree.now.statics c.as_slice-statics.result.now refl c.as_slice-statics.ensures c.args.tree.now.well_formed
    in omega (arith, bound, c.objects_words-static_words.ensures, c.from.ensures, c.greatest_end.ensures.small)

pub returns-then-words-from-clause-refused : goal.returns-then-words-from-clause-refused
returns-then-words-from-clause-refused c =
    let p = c.args.tree.now in
    let begins = c.in_ok-begins.begins.items in
    let gathered = gathered_of p.functions c.as_slice-functions.result.now c.in_ok-needs.needs.items c.in_ok-needs.ensures c.as_slice-functions.ensures in
    let words : c.objects_words-static_words.result ≡ objects_words (map object_of p.statics) =
    c.objects_words-static_words.ensures ∙ ap (λ l. objects_words (map object_of l)) c.as_slice-statics.ensures in
    let greatest = greatest_so p c.in_ok-needs.needs.items c.deref-2.result.now begins c.deref-3.result.now c.greatest_end.result gathered c.deref-2.ensures.value c.deref-3.ensures.value
    c.greatest_end.ensures.is in
    record {
      begin = slice_index begins;
      begins = found_begins p c.in_ok-needs.needs.items c.deref.result.now begins gathered c.deref.ensures.value c.in_ok-begins.ensures;
      is = omega (arith, words, greatest, c.from.ensures);
      over = omega (arith, c.if-words-from.true, c.from-2.ensures);
    }

pub frames-requires-clause-room : goal.frames-requires-clause-room
frames-requires-clause-room c =
    let p = c.args.tree.now in
    let begins = c.in_ok-begins.begins.items in
    let gathered = gathered_of p.functions c.as_slice-functions.result.now c.in_ok-needs.needs.items c.in_ok-needs.ensures c.as_slice-functions.ensures in
    let greatest = greatest_so p c.in_ok-needs.needs.items c.deref-2.result.now begins c.deref-3.result.now c.greatest_end.result gathered c.deref-2.ensures.value c.deref-3.ensures.value
    c.greatest_end.ensures.is in
    let end : end_from (slice_index c.deref-5.result.now) 0 (map own (map function_code_of c.as_slice-functions.result.now)) ≡ end_from (slice_index begins) 0 (map own (map function_code_of p.functions)) =
    ap (λ b. end_from (slice_index b) 0 (map own (map function_code_of c.as_slice-functions.result.now))) c.deref-5.ensures.value
    ∙ ap (λ l. end_from (slice_index begins) 0 (map own (map function_code_of l))) c.as_slice-functions.ensures
    in omega (arith, greatest, end, c.if-words-from.false, c.from.ensures, c.from-2.ensures)

pub returns-clause-plan : goal.returns-clause-plan
returns-clause-plan c =
    let p = c.args.tree.now in
    let begins = c.in_ok-begins.begins.items in
    let gathered = gathered_of p.functions c.as_slice-functions.result.now c.in_ok-needs.needs.items c.in_ok-needs.ensures c.as_slice-functions.ensures in
    let words : c.objects_words-static_words.result ≡ objects_words (map object_of p.statics) =
    c.objects_words-static_words.ensures ∙ ap (λ l. objects_words (map object_of l)) c.as_slice-statics.ensures in
    let greatest = greatest_so p c.in_ok-needs.needs.items c.deref-2.result.now begins c.deref-3.result.now c.greatest_end.result gathered c.deref-2.ensures.value c.deref-3.ensures.value
    c.greatest_end.ensures.is in
    record {
      begin = slice_index begins;
      begins = found_begins p c.in_ok-needs.needs.items c.deref.result.now begins gathered c.deref.ensures.value c.in_ok-begins.ensures;
      is = plan_made p c.args.arrangements.now (slice_index begins) c.in_ok-object_addresses.field-0 c.in_ok-frames.field-0
          (c.from.result + c.objects_words-static_words.result + c.greatest_end.result) c.objects_words-static_words.result
          (c.in_ok-object_addresses.ensures ∙ ap (λ l. object_addresses 784 (map object_of l)) c.as_slice-statics.ensures) words
          (c.in_ok-frames.ensures
          ∙ ap (λ b. frames_from (784 + c.objects_words-static_words.result) (slice_index b) 0 (map function_code_of c.as_slice-functions.result.now) c.args.arrangements.now) c.deref-5.ensures.value
          ∙ ap (λ l. frames_from (784 + c.objects_words-static_words.result) (slice_index begins) 0 (map function_code_of l) c.args.arrangements.now) c.as_slice-functions.ensures)
          (omega (arith, greatest, c.from.ensures));
      fits = omega (arith, c.if-words-from.false, c.from-2.ensures);
    }
