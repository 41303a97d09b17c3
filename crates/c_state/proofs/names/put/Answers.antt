use Rattle.std.proofs.Common.{◌<◌, length, ap, ◌∙◌, cond, eqb, ℕ, arith}
use Rattle.c_state.proofs.NameLemmas.{set_name}
use Rattle.c_state.proofs.names.put.Goals as goal

pub returns : goal.returns
returns c =
    let within : c.args.number < length c.lengthen.new.names.items = omega (arith, c.in_ok-lengthen.ensures.length, c.lengthen.new.names.ok.0) in
    set_name c.lengthen.new.names.items c.args.number c.args.object within
    ∙ ap (λ (g : ℕ → ℕ). λ k. cond (eqb k c.args.number) c.args.object.number (g k)) c.in_ok-lengthen.ensures.numbers
