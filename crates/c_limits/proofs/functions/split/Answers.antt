use Rattle.std.proofs.Common.{drop, arith}
use Rattle.std.proofs.lemmas.List.{nil_from_length}
use Rattle.std.specs.Vec.Iter.{into_iter_items}
use Rattle.c_limits.specs.Storage.{with_scalars, with_objects}
use Rattle.c_limits.proofs.StorageLemmas.{all_scalars, all_objects, one_further}
use Rattle.c_limits.proofs.functions.split.Goals as goal

pub returns-in_default-clause-scalars : goal.returns-in_default-clause-scalars
returns-in_default-clause-scalars c =
    all_scalars c.loop-reference.storage (drop c.loop-reference.reference-index c.args.references.now)
    (nil_from_length _ (omega (arith, c.in_default.ensures.cases, c.loop-reference.rest.rest.ok))) c.loop-reference.invariant.scalars

pub returns-in_default-clause-objects : goal.returns-in_default-clause-objects
returns-in_default-clause-objects c =
    all_objects c.loop-reference.storage (drop c.loop-reference.reference-index c.args.references.now)
    (nil_from_length _ (omega (arith, c.in_default.ensures.cases, c.loop-reference.rest.rest.ok))) c.loop-reference.invariant.objects

pub loop-reference-preserved : goal.loop-reference-preserved
loop-reference-preserved c = record {
  scalars = one_further (with_scalars c.loop-reference.storage) (with_scalars c.add.new.self) c.args.references.now c.loop-reference.reference-index _ c.in-Some.local
      (into_iter_items c.next.new.self) c.loop-reference-test.true c.in-Some.ensures.items c.in_ok-add.ensures.scalars c.loop-reference.invariant.scalars;
  objects = one_further (with_objects c.loop-reference.storage) (with_objects c.add.new.self) c.args.references.now c.loop-reference.reference-index _ c.in-Some.local
      (into_iter_items c.next.new.self) c.loop-reference-test.true c.in-Some.ensures.items c.in_ok-add.ensures.objects c.loop-reference.invariant.objects;
}
