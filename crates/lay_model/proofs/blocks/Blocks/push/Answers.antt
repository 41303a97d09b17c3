use Rattle.std.proofs.Common.{◌≡◌, ◌∷◌, ◌++◌, [], length, ap, sym, subst, ◌∙◌, arith}
use Rattle.lay_model.specs.declared.blocks.BlockEnd.{BlockEnd}
use Rattle.lay_model.specs.Flat.{AreEnds, blocks_from}
use Rattle.lay_model.proofs.FlatBlocks.{blocks_more, ends_more}
use Rattle.lay_model.proofs.blocks.Blocks.push.Goals as goal

pub invariant_of-self-in-Ok : goal.invariant_of-self-in-Ok
invariant_of-self-in-Ok c =
    let e : BlockEnd = record { weight = c.args.weight; end = c.len.result } in
    let ends = c.self.inside.ends.items in
    let size : c.len.result ≡ length c.extend_from_slice.new.self.items = omega (arith, c.len.ensures) in
    subst (λ l. AreEnds 0 l (length c.extend_from_slice.new.self.items)) (sym c.in-Ok.ensures)
    (subst (AreEnds 0 (ends ++ e ∷ [])) size (ends_more 0 ends (length c.self.inside.accesses.items) e c.self.invariant (omega (arith, c.len.ensures, c.in_ok-extend_from_slice.ensures.len))))

pub returns-in-Ok : goal.returns-in-Ok
returns-in-Ok c =
    let e : BlockEnd = record { weight = c.args.weight; end = c.len.result } in
    let size : c.len.result ≡ length c.extend_from_slice.new.self.items = omega (arith, c.len.ensures) in
    (λ k. blocks_from 0 (c.in-Ok.ensures k) (c.in_ok-extend_from_slice.ensures.items k))
    ∙ blocks_more 0 c.self.inside.ends.items c.self.inside.accesses.items c.args.accesses.now e c.self.invariant (size ∙ ap length c.in_ok-extend_from_slice.ensures.items)
    ∙ ap (λ l. l ++ (record { weight = c.args.weight; accesses = c.args.accesses.now }) ∷ []) c.self.view_is
