-- Lines of reports.
use Rattle.std.proofs.Common.{◌≡◌, refl, true, false}
use Rattle.std.specs.Prelude.{codes}
use Rattle.std.specs.Fmt.{digits}
use Rattle.cc_report.specs.Profile.{profile_line}
use Rattle.cc_report.specs.Report.{report_line}

no_scalars : report_line (record { name = codes "main"; scalars = 0; registers = 1; accesses = 0; cost = 0; optimal = true }) ≡ codes "main: 0 scalars, 1 registers, 0 accesses, 0 address instructions, optimal\n"
unfolding digits
no_scalars = refl

a_filter : report_line (record { name = codes "fir"; scalars = 6; registers = 1; accesses = 25; cost = 12; optimal = true }) ≡ codes "fir: 6 scalars, 1 registers, 25 accesses, 12 address instructions, optimal\n"
unfolding digits
a_filter = refl

not_known : report_line (record { name = codes "main"; scalars = 4; registers = 2; accesses = 9; cost = 2; optimal = false }) ≡ codes "main: 4 scalars, 2 registers, 9 accesses, 2 address instructions, best\n"
unfolding digits
not_known = refl

three_turns : profile_line (record { name = codes "main"; scalars = 2; registers = 1; entries = 12; weighted = 12; optimal = true }) ≡ codes "main: 2 scalars, 1 registers, 12 entries, 12 weighted, optimal\n"
unfolding digits
three_turns = refl

never_entered : profile_line (record { name = codes "off"; scalars = 3; registers = 4; entries = 0; weighted = 0; optimal = true }) ≡ codes "off: 3 scalars, 4 registers, 0 entries, 0 weighted, optimal\n"
unfolding digits
never_entered = refl

small_budget : profile_line (record { name = codes "main"; scalars = 5; registers = 1; entries = 11; weighted = 15; optimal = false }) ≡ codes "main: 5 scalars, 1 registers, 11 entries, 15 weighted, best\n"
unfolding digits
small_budget = refl
