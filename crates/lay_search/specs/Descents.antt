-- The state of a search while it goes down the tree and up again.
use Rattle.std.specs.Prelude.{◌≡◌, ℕ, ◌+◌, ◌-◌, nat_lt, ◌≤◌, Bool, true, false, List, [], ◌∷◌, ◌++◌, length, if◌then◌else◌}
use Rattle.lay_model.specs.Sequences.{Sequence}
use Rattle.lay_model.specs.Arrangements.{Arranges}
use Rattle.lay_cost.specs.Cost.{arranged_cost}
use Rattle.lay_cost.specs.Parts.{Node, node_lists, lists_of}
use Rattle.lay_tree.specs.declared.answer.Mark.{Mark}
use Rattle.lay_tree.specs.declared.answer.Mark.TheVariants.{Closed}
use Rattle.lay_tree.specs.Bound.{bound}
use Rattle.lay_tree.specs.Search.{Visited, visit, reaches}
use Rattle.lay_node.specs.declared.position.Position.{Position}
use Rattle.lay_node.specs.Positions.{here, SameBelow}
use Rattle.lay_search.specs.declared.descent.Descent.{Descent}
use Rattle.lay_search.specs.declared.descent.Ending.{Ending}
use Rattle.lay_search.specs.declared.descent.Ending.TheVariants.{Finished, OutOfMarks}

-- the best layout with its cost, and no more marks than may be
pub record HasBest (seq : Sequence) (d : Descent) : Type 0 where
  pub arranges : Arranges seq.scalars (lists_of d.best.items)
  pub cost : d.cost ≡ arranged_cost seq (lists_of d.best.items)
  pub room : length d.marks.items ≤ d.quota

-- the limits are the same
pub record SameLimits (old new : Descent) : Type 0 where
  pub registers : new.position.registers ≡ old.position.registers
  pub quota : new.quota ≡ old.quota

pub record SameAnswer (old new : Descent) : Type 0 where
  pub best : new.best.items ≡ old.best.items
  pub cost : new.cost ≡ old.cost

abbrev pub is_finished : Ending → Bool
is_finished Finished = true
is_finished OutOfMarks = false

-- where visiting some nodes ends by the definition, with the marks that are left and the best layout so far
abbrev pub visit_of : Sequence → Descent → List Node → Visited
visit_of seq d ns = visit d.position.registers seq (d.quota - length d.marks.items) ns (lists_of d.best.items)

-- these nodes and what is below them were visited, and it knows what it did where fewer lists than a number are closed
pub record VisitsBelow (closes : ℕ) (seq : Sequence) (ns : List Node) (old new : Descent) (ending : Ending) : Type 0 where
  pub best : lists_of new.best.items ≡ (visit_of seq old ns).best
  pub finished : is_finished ending ≡ (visit_of seq old ns).finished
  pub marks : new.marks.items ≡ old.marks.items ++ (visit_of seq old ns).marks
  pub quota : new.quota ≡ old.quota
  pub has_best : HasBest seq new
  pub place : ending ≡ Finished → SameBelow closes old.position new.position

-- and of the node where it was
abbrev pub Visits : Sequence → List Node → Descent → Descent → Ending → Type 0
Visits seq ns old new ending = VisitsBelow (length (here old.position).closed + 1) seq ns old new ending

-- so many marks were written
pub record Writes (more : List Mark) (old new : Descent) : Type 0 where
  pub marks : new.marks.items ≡ old.marks.items ++ more
  pub quota : new.quota ≡ old.quota
  pub answer : SameAnswer old new

-- a complete node is the best layout from then on where it costs less
pub record Completes (seq : Sequence) (n : Node) (old new : Descent) : Type 0 where
  pub best : lists_of new.best.items ≡ (if reaches (bound old.position.registers seq n) old.cost then lists_of old.best.items else node_lists n)
  pub has_best : HasBest seq new
  pub marks : new.marks.items ≡ old.marks.items
  pub quota : new.quota ≡ old.quota
  pub place : new.position ≡ old.position

-- a node was closed
pub record IsClosed (old new : Descent) (ending : Ending) : Type 0 where
  pub finished : ending ≡ Finished
  pub writes : Writes (Closed ∷ []) old new
  pub place : new.position ≡ old.position

-- a string is the best layout from then on where it costs less
pub record Offers (string : List ℕ) (costs : ℕ) (old new : Descent) : Type 0 where
  pub best : new.best.items ≡ (if nat_lt costs old.cost then string else old.best.items)
  pub cost : new.cost ≡ (if nat_lt costs old.cost then costs else old.cost)
  pub marks : new.marks.items ≡ old.marks.items
  pub quota : new.quota ≡ old.quota
  pub place : new.position ≡ old.position

-- a search from a place, with so many marks and a best layout with its cost, that has visited nothing
pub record IsNew (place : Position) (marks_at_most : ℕ) (string : List ℕ) (costs : ℕ) (d : Descent) : Type 0 where
  pub position : d.position ≡ place
  pub quota : d.quota ≡ marks_at_most
  pub best : d.best.items ≡ string
  pub cost : d.cost ≡ costs
  pub marks : d.marks.items ≡ []
