-- The rounds that are left make of what was searched by then what all rounds make.
use Rattle.std.proofs.Common.{◌≡◌, ◌*◌, ◌-◌, min, length, []}
use Rattle.lay_tree.specs.Tree.{root, children}
use Rattle.lay_tree.specs.Search.{rounds}
use Rattle.lay_search.specs.Rounds.{IsBest, pieces_from}
use Rattle.lay_search.proofs.Rounding.{searched_by}
use Rattle.lay_search.proofs.rounds.search_pieces.Given as goal

abbrev pub invariant-loop-round : goal.invariant-loop-round
invariant-loop-round l = record {
  best : IsBest l.seq l.best;
  count : length l.ends.items ≡ min (l.round * 4) l.seq.scalars;
  rest : rounds l.registers l.seq l.quota (searched_by l.best l.ends.items) (pieces_from (l.round * 4) (l.seq.scalars - l.round * 4)) ≡ rounds l.registers l.seq l.quota (record { best = l.fn.start.arrangement; ends = [] }) (children l.registers l.seq root);
}
