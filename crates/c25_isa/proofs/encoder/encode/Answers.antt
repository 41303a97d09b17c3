use Rattle.std.proofs.Common.{◌≡◌, ap, ◌∙◌, arith}
use Rattle.c25_isa.specs.Rows.{row, row_of, fields_of}
use Rattle.c25_isa.specs.Table.{fields_code}
use Rattle.c25_isa.proofs.Decoding.{decode-first_word}
use Rattle.c25_isa.proofs.FormLemmas.{first_word-lt}
use Rattle.c25_isa.proofs.encoder.encode.Goals as goal

pub overflow_add-result : goal.overflow_add-result
overflow_add-result c =
    let base : c.row.result.base ≡ (row (row_of c.args.instr.now)).base = ap (λ r. r.base) c.row.ensures ∙ ap (λ m. (row m).base) c.mnemonic.ensures in
    let put : c.in_first_word.result ≡ fields_code (fields_of c.args.instr.now) = c.in_first_word.ensures ∙ ap fields_code c.fields-fields.ensures in
    omega (arith, base, put, first_word-lt c.args.instr.now c.requires)

pub returns-clause-decoded : goal.returns-clause-decoded
returns-clause-decoded c second follows = decode-first_word c.args.instr.now second c.requires follows
