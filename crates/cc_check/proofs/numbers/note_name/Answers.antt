use Rattle.std.proofs.Common.{◌≡◌, ◌∙◌, false, is_some, rules}
use Rattle.std.proofs.Math.Path.{fun_ext}
use Rattle.std.proofs.lemmas.Map.Text.{hash_map_updates_str}
use Rattle.cc_check.specs.Memory.{number_in}
use Rattle.cc_check.proofs.NumberLemmas.{new_name}
use Rattle.cc_check.proofs.numbers.note_name.Goals as goal

pub returns-in_ok-insert : goal.returns-in_ok-insert
returns-in_ok-insert c =
    let name = c.args.name.now in
    let old = number_in c.args.numbers.now in
    let none : is_some (old name) ≡ false = search rules in
    fun_ext (λ other. hash_map_updates_str name c.args.numbers.now c.insert.new.self _ c.in_ok-insert.ensures.updates other ∙ new_name old name c.args.number none other)
