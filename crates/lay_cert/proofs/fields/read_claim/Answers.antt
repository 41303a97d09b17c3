use Rattle.std.proofs.Common.{rules, ◌≡◌, ◌++◌, arith}
use Rattle.std.specs.Prelude.{codes}
use Rattle.lay_cert.proofs.Numbers.{no_claim}
use Rattle.lay_cert.proofs.fields.read_claim.Goals as goal
use Rattle.lay_cert.proofs.fields.read_claim.Goals.{then-piece-from-via-then-piece-from, then-piece-from-via-else-piece-from+then-quota-from}

pub returns-then-piece-from : goal.returns-then-piece-from
returns-then-piece-from c =
    let text : c.args.line.now ≡ codes "claim best " ++ c.in_ok-strip_prefix.field-0.now = search rules in
    no_claim c.args.line.now c.in_ok-strip_prefix.field-0.now c.in_ok-piece.piece c.in_ok-piece.quota text c.in_ok-piece.ensures (search rules) (search rules)
    (λ small fits. elim c.then-piece-from.branch [ then-piece-from-via-then-piece-from w ↦ omega (arith, small) | then-piece-from-via-else-piece-from+then-quota-from w ↦ omega (arith, fits) ])
