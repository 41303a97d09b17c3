use Rattle.std.proofs.Common.{unwrap_or, ap, ◌∙◌}
use Rattle.c_names.proofs.BodyLemmas.{place_of_name, place_or_len}
use Rattle.c_names.proofs.scopes.Scopes.number_of.Goals as goal

pub returns : goal.returns
returns c =
    let name = c.args.name.now in
    let keys = c.args.self.now.bodies.keys in
    c.unwrap_or.ensures
    ∙ ap (unwrap_or c.get_index_of.result) c.len.ensures.len
    ∙ place_or_len _ keys c.get_index_of.result c.get_index_of.ensures.index
    ∙ place_of_name name keys
