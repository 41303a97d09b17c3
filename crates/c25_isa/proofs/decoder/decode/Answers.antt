use Rattle.std.proofs.Common.{IfSome, IsNone, sym, subst}
use Rattle.c25_isa.specs.Table.{StandsFor}
use Rattle.c25_isa.proofs.Rows.{decode-stands}
use Rattle.c25_isa.proofs.NoRow.{decode-none, one_row}
use Rattle.c25_isa.proofs.decoder.decode.Goals as goal

pub returns-clause-row : goal.returns-clause-row
returns-clause-row c =
    subst (λ d. IfSome d (λ r. StandsFor r.0 r.1 c.args.first c.args.second)) (sym c.decode_by_parts.ensures)
    (decode-stands c.args.first c.args.second c.ranges.first.fits c.ranges.second.fits)

pub returns-clause-none : goal.returns-clause-none
returns-clause-none c none i fits is = decode-none i c.args.first c.args.second fits is (subst IsNone c.decode_by_parts.ensures none)

pub returns-clause-one_row : goal.returns-clause-one_row
returns-clause-one_row c i j fits fits' is is' = one_row i j c.args.first fits fits' is is'
