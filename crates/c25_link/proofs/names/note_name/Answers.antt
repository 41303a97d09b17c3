use Rattle.std.proofs.Common.{◌≡◌, ◌∙◌, ap, false, is_some, ℕ, Some, rules}
use Rattle.std.proofs.Math.Path.{fun_ext}
use Rattle.std.proofs.lemmas.Map.Text.{hash_map_updates_str}
use Rattle.std.specs.Str.{bytes_eq}
use Rattle.std.specs.Map.{update}
use Rattle.c25_link.specs.Addresses.{names_in}
use Rattle.c25_link.proofs.Tables.{new_name}
use Rattle.c25_link.proofs.names.note_name.Goals as goal

pub returns-in_ok-insert : goal.returns-in_ok-insert
returns-in_ok-insert c =
    let name = c.args.name.now in
    let old = names_in c.args.addresses.now in
    let none : is_some (old name) ≡ false = search rules in
    fun_ext (λ other.
    hash_map_updates_str name c.args.addresses.now c.insert.new.self _ c.in_ok-insert.ensures.updates other
    ∙ ap (λ (address : ℕ). update bytes_eq old name (Some address) other) c.wrap16.ensures
    ∙ new_name old name c.args.address none other)
