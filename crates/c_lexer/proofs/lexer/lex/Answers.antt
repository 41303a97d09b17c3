use Rattle.std.proofs.Common.{rules, subst, ◌≡◌, length}
use Rattle.std.proofs.lemmas.Result.{err_from_is_err_and}
use Rattle.std.proofs.lemmas.List.{nil_from_length}
use Rattle.c_syntax.specs.Lexes.{Lexes, ReadsTo}
use Rattle.c_syntax.proofs.OneReading.{one_token_list}
use Rattle.c_lexer.proofs.OneAnswer.{lexes_not_says, says_one}
use Rattle.c_lexer.proofs.LexerLemmas.{reads_past_blank, memory_alone}
use Rattle.c_lexer.proofs.lexer.lex.Goals as goal

pub returns-in_err-rest-in-None-clause-lexed : goal.returns-in_err-rest-in-None-clause-lexed
returns-in_err-rest-in-None-clause-lexed c = λ tokens lexes.
    let p = err_from_is_err_and c.from_residual.result c.from_residual.ensures.1 in
    rw (p.1, p.2) (memory_alone c.args.bytes.now c.in_err-rest-in-None.field-0.0 c.in_err-rest-in-None.ensures.fault tokens lexes)

pub returns-in_err-rest-in-None-clause-faulty : goal.returns-in_err-rest-in-None-clause-faulty
returns-in_err-rest-in-None-clause-faulty c = λ cause named says.
    let p = err_from_is_err_and c.from_residual.result c.from_residual.ensures.1 in
    rw (p.1, p.2) (λ other. says_one c.args.bytes.now c.in_err-rest-in-None.field-0.0 cause other named c.in_err-rest-in-None.ensures.fault says)

pub loop-rest-preserved-in-Some : goal.loop-rest-preserved-in-Some
loop-rest-preserved-in-Some c = record {
  reads = reads_past_blank c.args.bytes.now c.loop-rest.tokens.items c.loop-rest.rest.now c.in-Some.after.now c.loop-rest.invariant.reads c.in-Some.ensures;
  few = c.loop-rest.invariant.few;
}

-- at the end nothing is left
all_read : (c : goal.After-loop-rest) → Lexes c.args.bytes.now c.loop-rest.tokens.items
all_read c =
    let nothing : length c.loop-rest.rest.now ≡ 0 = search rules in
    (subst (ReadsTo c.args.bytes.now c.loop-rest.tokens.items) (nil_from_length c.loop-rest.rest.now nothing) c.loop-rest.invariant.reads, c.loop-rest.invariant.few)

pub returns-clause-lexed : goal.returns-clause-lexed
returns-clause-lexed c = λ tokens lexes. one_token_list c.args.bytes.now c.loop-rest.tokens.items tokens (all_read c) lexes

pub returns-clause-faulty : goal.returns-clause-faulty
returns-clause-faulty c = λ cause named says. lexes_not_says c.args.bytes.now c.loop-rest.tokens.items cause named (all_read c) says
