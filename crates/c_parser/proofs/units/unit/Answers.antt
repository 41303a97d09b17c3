use Rattle.std.proofs.Common.{◌≡◌, length, map, rules, arith}
use Rattle.c_syntax.specs.Derives.{DerivesUnit, LastExternal}
use Rattle.c_syntax.specs.Measures.{external_height}
use Rattle.c_syntax.specs.SyntaxView.{external_of, unit_of}
use Rattle.c_syntax.proofs.SpelledUnits.{spelled_unit}
use Rattle.c_syntax.proofs.Weights.Statements.{within_limits}
use Rattle.c_declarations.proofs.FrontLemmas.{first_fails, fails_as, fails_on, leads_from, leads_further}
use Rattle.c_cursor.proofs.Refusals.{passed_on}
use Rattle.c_cursor.proofs.TakesLemmas.{mapped}
use Rattle.c_declarations.proofs.Lists.{begun, grown, height_begun, height_grown, with_next, externals_more}
use Rattle.c_parser.proofs.UnitWays.{unit_ways, more_units, no_source, external_only, units_taken}
use Rattle.c_parser.proofs.units.unit.Goals as goal

pub returns-in_err-first-clause-refused : goal.returns-in_err-first-clause-refused
returns-in_err-first-clause-refused c =
    passed_on _ c.from_residual.result c.from_residual.ensures.1 c.in_err-first.ensures.refused (λ n. no_source (fails_as (unit_ways _) (first_fails (rw c.new-parser.ensures at n))))

pub loop-parser-init : goal.loop-parser-init
loop-parser-init c = record {
  tree = begun external_of DerivesUnit c.new-externals.ensures.items c.in_ok-add.ensures.items (mapped (λ a r. LastExternal r) (rw c.new-parser.ensures at c.in_ok-first.ensures.tree));
  height = height_begun external_of external_height c.new-externals.ensures.items c.in_ok-add.ensures.items c.in_ok-first.ensures.height;
  room = c.in_ok-first.ensures.room;
  leads = leads_from (unit_ways _) (external_only (external_of c.in_ok-first.first.tree) (rw c.new-parser.ensures at c.in_ok-first.ensures.tree));
}

pub returns-in_err-next-clause-refused : goal.returns-in_err-next-clause-refused
returns-in_err-next-clause-refused c =
    let some : length c.loop-parser.parser.cursor ≡ 0 → ⊥ = search rules in
    passed_on _ c.from_residual-in_err-next.result c.from_residual-in_err-next.ensures.1 c.in_err-next.ensures.refused
    (λ n. no_source (fails_on c.loop-parser.invariant.leads (fails_as (λ after m. unit_ways _ after (more_units _ some after m)) (first_fails n))))

pub loop-parser-smaller : goal.loop-parser-smaller
loop-parser-smaller c = c.in_ok-next.ensures.fewer

pub loop-parser-preserved : goal.loop-parser-preserved
loop-parser-preserved c =
    let some : length c.loop-parser.parser.cursor ≡ 0 → ⊥ = search rules in
    record {
      tree = grown external_of DerivesUnit _ _ c.in_ok-add-2.ensures.items (with_next (λ a b p r. externals_more a b _ _ p r) c.loop-parser.invariant.tree c.in_ok-next.ensures.tree);
      height = height_grown external_of external_height _ _ c.in_ok-add-2.ensures.items c.loop-parser.invariant.height c.in_ok-next.ensures.height c.max-highest.ensures;
      room = omega (arith, c.loop-parser.invariant.room, c.in_ok-next.ensures.room, c.max-highest.ensures);
      leads = leads_further c.loop-parser.invariant.leads (λ after m. unit_ways _ after (more_units _ some after m)) (external_only (external_of c.in_ok-next.next.tree) c.in_ok-next.ensures.tree);
    }

pub new-requires : goal.new-requires
new-requires c =
    let none : length c.loop-parser.parser.cursor ≡ 0 = search rules in
    let s = units_taken (map external_of c.loop-parser.externals.items) c.loop-parser.invariant.tree none c.loop-parser.invariant.height c.loop-parser.invariant.room in
    spelled_unit c.args.tokens.now (unit_of c.loop-parser.externals.items) c.requires.spelled s.derives
    (within_limits c.args.tokens.now (unit_of c.loop-parser.externals.items) c.requires.few s.derives s.low)

pub returns-clause-tree : goal.returns-clause-tree
returns-clause-tree c =
    let none : length c.loop-parser.parser.cursor ≡ 0 = search rules in
    rw c.new.ensures (units_taken (map external_of c.loop-parser.externals.items) c.loop-parser.invariant.tree none c.loop-parser.invariant.height c.loop-parser.invariant.room)
