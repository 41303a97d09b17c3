use Rattle.std.proofs.Common.{rules, ◌≡◌, ◌≢◌, ◌+◌, [], length, ◌∙◌}
use Rattle.std.proofs.lemmas.Result.{err_from_is_err_and}
use Rattle.std.proofs.lemmas.List.{nil_from_length}
use Rattle.c25_image.specs.ImageText.{line_count}
use Rattle.c25_image.proofs.ImageAnswers.{head_refused, head_says, rows_refused, rows_say, ranges_refused, ranges_say, end_refused, end_says, end_same, end_only}
use Rattle.c25_image.specs.declared.fault.ImageFault.TheVariants as image_faults
use Rattle.c25_image.proofs.ImageExact.{says_same}
use Rattle.c25_image.proofs.reading.read_image.Goals as goal

pub returns-in_err-count-clause-written : goal.returns-in_err-count-clause-written
returns-in_err-count-clause-written c = λ image whole e.
    let p = err_from_is_err_and c.from_residual.result c.from_residual.ensures.1 in
    rw (p.1, p.2) (head_refused c.args.bytes.now c.in_err-count.field-0.0 c.in_err-count.ensures image whole e)

pub returns-in_err-count-clause-fault : goal.returns-in_err-count-clause-fault
returns-in_err-count-clause-fault c =
    let p = err_from_is_err_and c.from_residual.result c.from_residual.ensures.1 in
    rw (p.1, p.2) (head_says c.args.bytes.now c.in_err-count.field-0.0 c.in_err-count.ensures)

pub returns-in_err-rest-clause-written : goal.returns-in_err-rest-clause-written
returns-in_err-rest-clause-written c = λ image whole e.
    let p = err_from_is_err_and c.from_residual-in_err-rest.result c.from_residual-in_err-rest.ensures.1 in
    rw (p.1, p.2) (rows_refused c.args.bytes.now c.in_ok-count.rest.now c.in_ok-count.count c.in_err-rest.field-0.0 c.in_ok-count.ensures c.in_err-rest.ensures image whole e)

pub returns-in_err-rest-clause-fault : goal.returns-in_err-rest-clause-fault
returns-in_err-rest-clause-fault c =
    let p = err_from_is_err_and c.from_residual-in_err-rest.result c.from_residual-in_err-rest.ensures.1 in
    rw (p.1, p.2) (rows_say c.args.bytes.now c.in_ok-count.rest.now c.in_ok-count.count c.in_err-rest.field-0.0 c.in_ok-count.ensures c.in_err-rest.ensures)

pub returns-in_err-functions-clause-written : goal.returns-in_err-functions-clause-written
returns-in_err-functions-clause-written c = λ image whole e.
    let p = err_from_is_err_and c.from_residual-in_err-functions.result c.from_residual-in_err-functions.ensures.1 in
    let first : 3 + c.div_ceil.result ≡ 3 + line_count c.in_ok-count.count = search rules in
    rw (p.1, p.2) (ranges_refused c.args.bytes.now c.in_ok-count.rest.now c.in_ok-rest.rest.now c.in_ok-count.count c.read_rows.new.words.items (3 + c.div_ceil.result) c.in_err-functions.field-0.0 first c.in_ok-count.ensures c.in_ok-rest.ensures c.in_err-functions.ensures image whole e)

pub returns-in_err-functions-clause-fault : goal.returns-in_err-functions-clause-fault
returns-in_err-functions-clause-fault c =
    let p = err_from_is_err_and c.from_residual-in_err-functions.result c.from_residual-in_err-functions.ensures.1 in
    let first : 3 + c.div_ceil.result ≡ 3 + line_count c.in_ok-count.count = search rules in
    rw (p.1, p.2) (ranges_say c.args.bytes.now c.in_ok-count.rest.now c.in_ok-rest.rest.now c.in_ok-count.count c.read_rows.new.words.items (3 + c.div_ceil.result) c.in_err-functions.field-0.0 first c.in_ok-count.ensures c.in_ok-rest.ensures c.in_err-functions.ensures)

pub returns-then-not-is_empty-clause-written : goal.returns-then-not-is_empty-clause-written
returns-then-not-is_empty-clause-written c =
    let some : c.in_ok-functions.rest.now ≢ [] = search rules in
    end_refused c.args.bytes.now c.in_ok-count.rest.now c.in_ok-rest.rest.now c.in_ok-count.count c.read_rows.new.words.items c.in_ok-functions.functions.items c.in_ok-functions.rest.now (3 + c.div_ceil.result + c.len.result + 1) some c.in_ok-count.ensures c.in_ok-rest.ensures c.in_ok-functions.ensures

pub returns-then-not-is_empty-clause-fault : goal.returns-then-not-is_empty-clause-fault
returns-then-not-is_empty-clause-fault c =
    let some : c.in_ok-functions.rest.now ≢ [] = search rules in
    let line : 3 + c.div_ceil.result + c.len.result + 1 ≡ 3 + line_count c.in_ok-count.count + length c.in_ok-functions.functions.items + 1 = search rules in
    end_says c.args.bytes.now c.in_ok-count.rest.now c.in_ok-rest.rest.now c.in_ok-count.count c.read_rows.new.words.items c.in_ok-functions.functions.items c.in_ok-functions.rest.now (3 + c.div_ceil.result + c.len.result + 1) line some c.in_ok-count.ensures c.in_ok-rest.ensures c.in_ok-functions.ensures

pub returns-clause-written : goal.returns-clause-written
returns-clause-written c =
    let none : c.in_ok-functions.rest.now ≡ [] = nil_from_length c.in_ok-functions.rest.now (search rules) in
    λ image whole e.
    c.new.ensures
    ∙ end_same c.args.bytes.now c.in_ok-count.rest.now c.in_ok-rest.rest.now c.in_ok-count.count c.read_rows.new.words.items c.in_ok-functions.functions.items c.in_ok-functions.rest.now none c.in_ok-count.ensures c.in_ok-rest.ensures c.in_ok-functions.ensures image whole e

pub returns-in_err-count-clause-only : goal.returns-in_err-count-clause-only
returns-in_err-count-clause-only c = λ fault other s.
    let p = err_from_is_err_and c.from_residual.result c.from_residual.ensures.1 in
    rw (p.1, p.2) (says_same c.args.bytes.now c.in_err-count.field-0.0 fault other (head_says c.args.bytes.now c.in_err-count.field-0.0 c.in_err-count.ensures) s)

pub returns-in_err-rest-clause-only : goal.returns-in_err-rest-clause-only
returns-in_err-rest-clause-only c = λ fault other s.
    let p = err_from_is_err_and c.from_residual-in_err-rest.result c.from_residual-in_err-rest.ensures.1 in
    rw (p.1, p.2) (says_same c.args.bytes.now c.in_err-rest.field-0.0 fault other (rows_say c.args.bytes.now c.in_ok-count.rest.now c.in_ok-count.count c.in_err-rest.field-0.0 c.in_ok-count.ensures c.in_err-rest.ensures) s)

pub returns-in_err-functions-clause-only : goal.returns-in_err-functions-clause-only
returns-in_err-functions-clause-only c = λ fault other s.
    let p = err_from_is_err_and c.from_residual-in_err-functions.result c.from_residual-in_err-functions.ensures.1 in
    let first : 3 + c.div_ceil.result ≡ 3 + line_count c.in_ok-count.count = search rules in
    rw (p.1, p.2) (says_same c.args.bytes.now c.in_err-functions.field-0.0 fault other (ranges_say c.args.bytes.now c.in_ok-count.rest.now c.in_ok-rest.rest.now c.in_ok-count.count c.read_rows.new.words.items (3 + c.div_ceil.result) c.in_err-functions.field-0.0 first c.in_ok-count.ensures c.in_ok-rest.ensures c.in_err-functions.ensures) s)

pub returns-then-not-is_empty-clause-only : goal.returns-then-not-is_empty-clause-only
returns-then-not-is_empty-clause-only c = λ fault other s.
    let some : c.in_ok-functions.rest.now ≢ [] = search rules in
    let line : 3 + c.div_ceil.result + c.len.result + 1 ≡ 3 + line_count c.in_ok-count.count + length c.in_ok-functions.functions.items + 1 = search rules in
    says_same c.args.bytes.now (image_faults.BadLine (3 + c.div_ceil.result + c.len.result + 1)) fault other
    (end_says c.args.bytes.now c.in_ok-count.rest.now c.in_ok-rest.rest.now c.in_ok-count.count c.read_rows.new.words.items c.in_ok-functions.functions.items c.in_ok-functions.rest.now (3 + c.div_ceil.result + c.len.result + 1) line some c.in_ok-count.ensures c.in_ok-rest.ensures c.in_ok-functions.ensures) s

pub returns-clause-only : goal.returns-clause-only
returns-clause-only c = end_only c.args.bytes.now c.in_ok-count.rest.now c.in_ok-rest.rest.now c.in_ok-count.count c.read_rows.new.words.items c.in_ok-functions.functions.items c.in_ok-functions.rest.now (nil_from_length c.in_ok-functions.rest.now (search rules)) c.in_ok-count.ensures c.in_ok-rest.ensures c.in_ok-functions.ensures
