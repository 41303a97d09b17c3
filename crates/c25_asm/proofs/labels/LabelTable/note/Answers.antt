-- No earlier line has the label.
use Rattle.std.proofs.Common.{◌≡◌, rules, None}
use Rattle.std.proofs.lemmas.Map.Text.{hash_map_updates_str}
use Rattle.c25_asm.specs.LabelView.{known}
use Rattle.c25_asm.proofs.LabelLemmas.{noted}
use Rattle.c25_asm.proofs.labels.LabelTable.note.Goals as goal

pub returns-in_ok-insert-clause-noted : goal.returns-in_ok-insert-clause-noted
returns-in_ok-insert-clause-noted c other =
    let name = c.args.name.now in
    let none : None ≡ known c.args.self.now name = search rules in
    noted (known c.args.self.now) name other c.args.place _ none
    (hash_map_updates_str name c.args.self.now.places c.insert.new.self _ c.in_ok-insert.ensures.updates other)
