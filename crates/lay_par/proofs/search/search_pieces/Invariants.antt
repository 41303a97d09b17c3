-- The rounds that are left make of what was searched by then what all rounds make.
use Rattle.std.proofs.Common.{◌≡◌, ◌*◌, ◌-◌, min, length, []}
use Rattle.lay_tree.specs.Tree.{root, children}
use Rattle.lay_tree.specs.Search.{rounds}
use Rattle.lay_search.specs.Rounds.{IsBest, pieces_from}
use Rattle.lay_search.proofs.Rounding.{searched_by}
use Rattle.lay_par.proofs.search.search_pieces.Given as goal

abbrev pub invariant-loop-turn : goal.invariant-loop-turn
invariant-loop-turn g l = record {
  best : IsBest l.seq l.best;
  count : length l.ends.items ≡ min (l.turn * 4) l.seq.scalars;
  rest : rounds l.registers l.seq l.quota (searched_by l.best l.ends.items) (pieces_from (l.turn * 4) (l.seq.scalars - l.turn * 4)) ≡ rounds l.registers l.seq l.quota (record { best = l.fn.start.arrangement; ends = [] }) (children l.registers l.seq root);
}
