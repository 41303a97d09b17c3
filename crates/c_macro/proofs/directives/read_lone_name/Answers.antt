use Rattle.std.proofs.Common.{arith, ◌≡◌, sym, ap, [], subst, length}
use Rattle.c_macro.specs.Lines.{IsAfterBlanks}
use Rattle.c_macro.proofs.OneDirective.{behind_one, named_one}
use Rattle.c_macro.proofs.directives.read_lone_name.Goals as goal

pub returns-in_default : goal.returns-in_default
returns-in_default c = λ name lone. (rw c.in_default.is at c.read_name.ensures) lone.0 name lone.1 lone.2

pub returns-else-is_empty : goal.returns-else-is_empty
returns-else-is_empty c = λ name lone.
    let named = named_one c.args.text.now lone.0 c.in-Some.found.at name c.in-Some.found.name.now lone.1 c.in-Some.found.rest.now lone.2 c.in-Some.ensures in
    let nothing = behind_one c.in-Some.found.rest.now [] c.after_blanks.result.now (subst (λ t. IsAfterBlanks t []) named.same_rest lone.3) c.after_blanks.ensures in
    let none : length c.after_blanks.result.now ≡ 0 = ap length (sym nothing) in
    grind (arith, none, c.if-is_empty.ensures)
