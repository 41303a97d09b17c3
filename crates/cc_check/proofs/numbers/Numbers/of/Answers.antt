use Rattle.std.proofs.Common.{◌≡◌, ◌∙◌, ap, arith}
use Rattle.std.specs.Prelude.{length}
use Rattle.std.proofs.Math.Path.{fun_ext}
use Rattle.cc_check.specs.Memory.{number_in, with_name}
use Rattle.cc_check.specs.Findings.{number_of}
use Rattle.cc_check.proofs.NumberLemmas.{range_count, numbers_step, numbers_end}
use Rattle.cc_check.proofs.numbers.Numbers.of.Goals as goal

pub prove-unreachable-requires : goal.prove-unreachable-requires
prove-unreachable-requires c =
    let image = c.args.image.now in
    omega (arith, range_count 0 (length image.words) image.functions c.words.ensures.image.ranges (omega arith), ap length c.functions-functions.ensures, ap length c.words.ensures.words)

pub loop-index-preserved : goal.loop-index-preserved
loop-index-preserved c = λ name.
    let fs = c.functions-functions.result.now in
    let i = c.loop-index.index in
    let f = c.index-functions-index.result in
    let old = number_in c.loop-index.numbers in
    let added : number_in c.note_name.new.numbers ≡ with_name f.name i old = c.in_ok-note_name.ensures ∙ ap (λ n. with_name n i old) c.as_str.ensures in
    numbers_step fs i f old _ c.loop-index-test.true c.index-functions-index.is added name ∙ c.loop-index.invariant name

pub returns : goal.returns
returns c =
    let fs = c.functions-functions.result.now in
    fun_ext (λ name. numbers_end fs c.loop-index.index (number_in c.loop-index.numbers name) name c.loop-index-test.false ∙ c.loop-index.invariant name) ∙ ap number_of c.functions-functions.ensures
