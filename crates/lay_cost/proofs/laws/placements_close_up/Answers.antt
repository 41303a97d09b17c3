use Rattle.lay_cost.proofs.Listed.{closes_up, arranged_places, least_is_arranged, least_of_arranged}
use Rattle.lay_cost.proofs.laws.placements_close_up.Goals as goal

pub returns-clause-closes : goal.returns-clause-closes
returns-clause-closes c = closes_up

pub returns-clause-lists : goal.returns-clause-lists
returns-clause-lists c = arranged_places

pub returns-clause-least : goal.returns-clause-least
returns-clause-least c = least_is_arranged

pub returns-clause-least_lists : goal.returns-clause-least_lists
returns-clause-least_lists c = least_of_arranged
