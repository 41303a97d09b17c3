use Rattle.std.proofs.Common.{◌∙◌, ap, ℕ, cond, eqb}
use Rattle.std.proofs.lemmas.Result.{on_ok_weaker}
use Rattle.c_state.specs.Names.{numbers_in}
use Rattle.c_state.proofs.NameLemmas.{set_scalar, set_local}
use Rattle.c_state.proofs.names.Names.set.Goals as goal

pub returns-in-Scalar : goal.returns-in-Scalar
returns-in-Scalar c =
    let names = c.args.self.now in
    on_ok_weaker c.put.result (λ numbers f. set_scalar f names.scalars.items c.put.new.names.items (numbers_in names.locals.items) c.args.reference c.in-Scalar.n c.args.object.number c.in-Scalar.is
    (numbers ∙ ap (λ n. λ (k : ℕ). cond (eqb k n) c.args.object.number (numbers_in names.scalars.items k)) c.from.ensures)) c.put.ensures

pub returns-in-Local : goal.returns-in-Local
returns-in-Local c =
    let names = c.args.self.now in
    on_ok_weaker c.put-in-Local.result (λ numbers f. set_local f (numbers_in names.scalars.items) names.locals.items c.put-in-Local.new.names.items c.args.reference c.in-Local.n c.args.object.number c.in-Local.is numbers) c.put-in-Local.ensures
