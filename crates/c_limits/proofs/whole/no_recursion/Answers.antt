use Rattle.std.proofs.Common.{ℕ, List, ◌<◌, length, map, vec_items, sym, subst, arith}
use Rattle.std.specs.Prelude.{All}
use Rattle.std.proofs.lemmas.List.{length-map}
use Rattle.c_limits.proofs.ChainLemmas.{bodies_in, no_cycle_in, chain_there, chain_in}
use Rattle.c_limits.proofs.whole.no_recursion.Goals as goal

pub first_round-requires : goal.first_round-requires
first_round-requires c = λ n m call.
    let within = bodies_in c.args.functions.now (map vec_items c.args.uses.now) c.requires.uses c.requires.bodies n m call in omega (arith, within, length-map c.args.uses.now vec_items)

pub names_of-requires : goal.names_of-requires
names_of-requires c =
    let P : List ℕ → Type 0 = λ numbers. All (λ k. k < length c.args.functions.now) numbers in
    subst P (sym c.deref.ensures.value)
    (chain_there c.args.functions.now (map vec_items c.args.uses.now) c.requires.uses c.in-Some.round.items (rw c.in-Some.is at c.in_ok-first_round.ensures))

pub returns-in-None-clause-no_cycle : goal.returns-in-None-clause-no_cycle
returns-in-None-clause-no_cycle c =
    no_cycle_in c.args.functions.now (map vec_items c.args.uses.now) c.requires.uses (rw c.in-None.is at c.in_ok-first_round.ensures)

pub returns-in_ok-names_of-in-Some-clause-refused : goal.returns-in_ok-names_of-in-Some-clause-refused
returns-in_ok-names_of-in-Some-clause-refused c =
    chain_in c.args.functions.now (map vec_items c.args.uses.now) c.requires.uses c.in-Some.round.items c.in_ok-names_of-in-Some.field-0
    (rw c.in-Some.is at c.in_ok-first_round.ensures) (rw c.deref.ensures.value at c.in_ok-names_of-in-Some.ensures)
