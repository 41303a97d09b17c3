use Rattle.std.proofs.Common.{◌≡◌, ℕ, List, reverse, cond, is_some, Some, ap, refl, ◌∙◌}
use Rattle.std.specs.Str.{bytes_eq}
use Rattle.std.proofs.lemmas.Map.Text.{hash_map_updates_str}
use Rattle.c_names.specs.Tables.{or_else, in_table, in_tables}
use Rattle.c_names.proofs.ScopeLemmas.{same_scope, declared_meaning, declared_here}
use Rattle.c_names.proofs.scopes.Scopes.declare.Goals as goal

pub returns-clause-declared : goal.returns-clause-declared
returns-clause-declared c =
    let name = c.args.name.now in
    let old = c.args.self.now.innermost in
    let rest = λ (n : List ℕ). in_tables (reverse c.args.self.now.outer.items) n in
    let updated : (n : List ℕ) → in_table c.insert.new.self n ≡ cond (bytes_eq name n) (Some c.args.meaning) (in_table old n) =
    hash_map_updates_str name old c.insert.new.self _ c.in_ok-insert.ensures.updates in
    same_scope _ _
    (λ n. ap (λ m. or_else m (rest n)) (updated n) ∙ declared_meaning c.args.meaning (in_table old n) (rest n) (bytes_eq name n))
    (λ n. ap is_some (updated n) ∙ declared_here c.args.meaning (in_table old n) (rest n) (bytes_eq name n))
    refl
