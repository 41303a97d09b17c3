use Rattle.std.proofs.Common.{◌∙◌, length, ap, arith}
use Rattle.std.proofs.lemmas.Bool.{false≢true}
use Rattle.acc_code.specs.declared.program.AccFunction.{AccFunction}
use Rattle.c25_isa.specs.declared.image.FunctionRange.{FunctionRange}
use Rattle.lay_profile.proofs.SameLists.{lengths_same, texts_differ, texts_same}
use Rattle.lay_profile.proofs.ShapeLemmas.{range_count}
use Rattle.lay_profile.proofs.shapes.has_names.Goals.{then-ranges-functions-via-then-ranges-functions, then-ranges-functions-via-else-ranges-functions+then-functions-words}
use Rattle.lay_profile.proofs.shapes.has_names.Goals as goal

pub returns-then-ne-clause-same : goal.returns-then-ne-clause-same
returns-then-ne-clause-same c = (
  (λ t. absurd (false≢true t)),
  (λ same. absurd (texts_differ (λ (f : FunctionRange). f.name) (λ (f : AccFunction). f.name) c.functions-ranges.result.now c.args.image.now.functions c.args.functions.now c.loop-index.index
      c.index-ranges-index.result c.index-functions-index.result c.as_str.result.now c.as_str-in-loop-index.result.now
      c.functions-ranges.ensures c.if-ranges-functions.false c.loop-index-test.true c.as_str.ensures (c.as_str-in-loop-index.ensures ∙ ap (λ (f : AccFunction). f.name) c.index-functions-index.is) c.if-ne.ensures same)),
)

pub loop-index-preserved : goal.loop-index-preserved
loop-index-preserved c =
    texts_same (λ (f : FunctionRange). f.name) (λ (f : AccFunction). f.name) c.functions-ranges.result.now c.args.image.now.functions c.args.functions.now c.loop-index.index
    c.index-ranges-index.result c.index-functions-index.result c.as_str.result.now c.as_str-in-loop-index.result.now
    c.functions-ranges.ensures c.if-ranges-functions.false c.loop-index-test.true c.as_str.ensures (c.as_str-in-loop-index.ensures ∙ ap (λ (f : AccFunction). f.name) c.index-functions-index.is) c.if-ne.ensures c.loop-index.invariant

pub returns-then-ranges-functions-clause-same : goal.returns-then-ranges-functions-clause-same
returns-then-ranges-functions-clause-same c = (
  (λ t. absurd (false≢true t)),
  (λ same.
      let long = lengths_same (λ (f : FunctionRange). f.name) (λ (f : AccFunction). f.name) c.args.image.now.functions c.args.functions.now same in
      elim c.then-ranges-functions.branch [
        | then-ranges-functions-via-then-ranges-functions w ↦ absurd (w.if-ranges-functions.true (ap length c.functions-ranges.ensures ∙ long))
        | then-ranges-functions-via-else-ranges-functions+then-functions-words w ↦
            absurd (omega (arith, w.if-functions-words.true, ap length w.words.ensures.words, long, range_count 0 _ c.args.image.now.functions w.words.ensures.image.ranges (omega arith)))
      ]),
)
