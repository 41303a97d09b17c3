-- Lists and bodies over one ground.
use Rattle.std.proofs.Common.{true, refl, subst}
use Rattle.acc_code.specs.Emittable.{Throughout, RefersRight}
use Rattle.emit_proof.proofs.Grounds.{Ground, Suits}
use Rattle.emit_proof.proofs.Wholes.{whole_list, whole_body}
use Rattle.emit_proof.proofs.laws.code_meets.Goals as goal

pub returns-clause-lists : goal.returns-clause-lists
returns-clause-lists q start program names m k marks label caller back c cells parameters scalars helps breaks continues cases xs ways base next rest s pc v w b stands refers same placed items at begins low passes came work beside =
    let g : Ground = record { start = start; program = program; names = names; setting = m; site = k; marks = marks; label = label; caller = caller; back = back; context = c; cells = cells; parameters = parameters; helps = helps; finished = true } in
    let suits : Suits g xs = record { refers = subst (λ n. Throughout (RefersRight n cells parameters helps) xs) same refers; breaks = breaks; continues = continues; cases = cases; placed = placed; stands = items } in
    whole_list g xs ways base next pc rest s b v w refl stands suits at begins low passes (record { came = came; work = work; beside = beside })

pub returns-clause-bodies : goal.returns-clause-bodies
returns-clause-bodies q start program names m k marks label caller back c cells parameters scalars helps breaks continues cases body pc v w b stands refers same placed items at came work beside =
    let g : Ground = record { start = start; program = program; names = names; setting = m; site = k; marks = marks; label = label; caller = caller; back = back; context = c; cells = cells; parameters = parameters; helps = helps; finished = true } in
    whole_body g body pc b v w stands (λ finished. record { refers = subst (λ n. Throughout (RefersRight n cells parameters helps) body) same refers; breaks = breaks; continues = continues; cases = cases; placed = placed; stands = items }) at (record { came = came; work = work; beside = beside })
