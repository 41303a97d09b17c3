use Rattle.std.proofs.Common.{rules, ◌≡◌, ◌++◌}
use Rattle.std.specs.Prelude.{codes}
use Rattle.lay_lines.proofs.Lists.{list_front, list_is}
use Rattle.lay_lines.proofs.list_lines.read_list.Goals as goal

pub returns-in_default-read_hex : goal.returns-in_default-read_hex
returns-in_default-read_hex c = λ base all fits fit e.
    let text : c.args.line.now ≡ codes "list " ++ c.in-Some.fields.now = search rules in
    c.in_default-read_hex.ensures base fits (list_front c.args.line.now c.in-Some.fields.now c.front_field.result.0.now c.front_field.result.1.now all base text c.front_field.ensures.0 c.front_field.ensures.1 c.front_field.ensures.2 e).0

pub returns-in_default-2 : goal.returns-in_default-2
returns-in_default-2 c = λ base all fits fit e.
    let text : c.args.line.now ≡ codes "list " ++ c.in-Some.fields.now = search rules in
    let none = rw c.in_default-2.is at c.in_ok-numbers.ensures in
    none all fit (list_front c.args.line.now c.in-Some.fields.now c.front_field.result.0.now c.front_field.result.1.now all base text c.front_field.ensures.0 c.front_field.ensures.1 c.front_field.ensures.2 e).1

pub returns : goal.returns
returns c =
    let text : c.args.line.now ≡ codes "list " ++ c.in-Some.fields.now = search rules in
    let spells = rw c.in-Some-2.is at c.in_ok-numbers.ensures in
    rw c.new.ensures (list_is c.args.line.now c.in-Some.fields.now c.front_field.result.0.now c.front_field.result.1.now c.in-Some-2.numbers.items c.in-Some-read_hex.base text c.front_field.ensures.2 c.in-Some-read_hex.ensures spells)
