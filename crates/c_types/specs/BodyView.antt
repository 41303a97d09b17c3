-- The pure bodies and blocks that the checker's stand for, as far as they are typed.
use Rattle.std.specs.Prelude.{List, map, Option}
use Rattle.c_tree.specs.declared.program.ScalarType.{ScalarType}
use Rattle.c_tree.specs.View.{stmt_of}
use Rattle.c_types.specs.declared.blocks.Body as bodies
use Rattle.c_types.specs.declared.blocks.Opening as openings
use Rattle.c_scopes.specs.Tables.{scope_of, around_of, scopes_of}
use Rattle.c_rules.specs.Scopes.{Scope}
use Rattle.c_rules.specs.Statements.{LocalTree, Opened, Typed}
use Rattle.c_rules.specs.LocalView.{local_tree_of}

-- the objects of a function so far
abbrev pub locals_of : bodies.Body → List LocalTree
locals_of b = map local_tree_of b.locals.items

-- where statements stand: the scopes, the innermost one first, and the type of the function's value
pub record Context : Type 0 where
  pub scopes : List Scope
  pub result : Option ScalarType

-- what a statement keeps
abbrev pub context_of : bodies.Body → Context
context_of b = record { scopes = scopes_of b.scopes; result = b.result }

-- what the declarations and statements of a block keep, which declare names in the innermost scope
abbrev pub context_around : bodies.Body → Context
context_around b = record { scopes = around_of b.scopes; result = b.result }

-- what declarations have made so far of a body and of one of its blocks
abbrev pub opened_of : bodies.Body → openings.Opening → Opened
opened_of b o = record {
  scope = scope_of b.scopes;
  locals = map local_tree_of b.locals.items;
  declared = o.declared.items;
  statements = map stmt_of o.statements.items;
}

-- a tree, with the objects of a function behind it
abbrev pub typed_in : {A : Type 0} → bodies.Body → A → Typed A
typed_in b tree = record { tree = tree; locals = locals_of b }
