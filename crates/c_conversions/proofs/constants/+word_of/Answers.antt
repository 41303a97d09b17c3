use Rattle.std.proofs.Common.{◌∙◌, ap, Some}
use Rattle.c_rules.specs.Constants.{word_of_one, tested, truth_of}
use Rattle.c_tree.specs.View.{expr_of}
use Rattle.c_conversions.specs.ConstantWords.{valued}
use Rattle.c_conversions.proofs.WordLemmas.{wordless, of_shape, held, of_conversion, by_two, by_three}
use Rattle.c_conversions.proofs.constants.+word_of.Goals as goal

pub returns-in_default : goal.returns-in_default
returns-in_default t c =
    wordless c.args.e.now.form c.args.e.now.kind c.args.e.now.at c.in_default.not-Const c.in_default.not-Unary c.in_default.not-Binary c.in_default.not-And c.in_default.not-Or
    c.in_default.not-Not c.in_default.not-Pick c.in_default.not-Convert

pub returns-in-Unary : goal.returns-in-Unary
returns-in-Unary t c =
    of_shape c.args.e.now.kind c.args.e.now.at c.in-Unary.is
    (c.of_one.ensures ∙ ap (word_of_one c.in-Unary.op c.args.e.now.kind) (held c.word_of.ensures c.deref.ensures))

pub returns-in-And : goal.returns-in-And
returns-in-And t c =
    of_shape c.args.e.now.kind c.args.e.now.at c.in-And.is
    (c.tested.ensures ∙ by_two (λ a b. tested a b (Some 0)) (held c.word_of-in-And.ensures c.deref-in-And.ensures) (c.truth_of.ensures ∙ ap truth_of (held c.word_of-in-And-2.ensures c.deref-in-And-2.ensures)))

pub returns-in-Or : goal.returns-in-Or
returns-in-Or t c =
    of_shape c.args.e.now.kind c.args.e.now.at c.in-Or.is
    (c.tested-in-Or.ensures ∙ by_two (λ a b. tested a (Some 1) b) (held c.word_of-in-Or.ensures c.deref-in-Or.ensures) (c.truth_of-in-Or.ensures ∙ ap truth_of (held c.word_of-in-Or-2.ensures c.deref-in-Or-2.ensures)))

pub returns-in-Not : goal.returns-in-Not
returns-in-Not t c =
    of_shape c.args.e.now.kind c.args.e.now.at c.in-Not.is
    (c.tested-in-Not.ensures ∙ ap (λ a. tested a (Some 0) (Some 1)) (held c.word_of-in-Not.ensures c.deref-in-Not.ensures))

pub returns-in-Pick : goal.returns-in-Pick
returns-in-Pick t c =
    of_shape c.args.e.now.kind c.args.e.now.at c.in-Pick.is
    (c.tested-in-Pick.ensures ∙ by_three tested (held c.word_of-in-Pick.ensures c.deref-in-Pick.ensures) (held c.word_of-in-Pick-2.ensures c.deref-in-Pick-2.ensures) (held c.word_of-in-Pick-3.ensures c.deref-in-Pick-3.ensures))

pub returns-in-Convert : goal.returns-in-Convert
returns-in-Convert t c =
    of_shape c.args.e.now.kind c.args.e.now.at c.in-Convert.is
    (c.valued.ensures ∙ ap (valued c.args.e.now.kind) (held c.word_of-in-Convert.ensures c.deref-in-Convert.ensures)
    ∙ of_conversion c.args.e.now.kind c.args.e.now.at (expr_of c.in-Convert.value.value))
