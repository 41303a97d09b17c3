-- A source of which no node breaks a rule gives a file that is right.
use Rattle.std.proofs.Common.{[], ◌∷◌}
use Rattle.c_tree.specs.c_syntax.SyntaxTree as tree
use Rattle.c_tree.specs.c_syntax.SyntaxTree.{ExternalTree, Defined, UnitTree}
use Rattle.c_rules.specs.Typing.{spelled}
use Rattle.c_rules.specs.Units.{File, file_items, external, externals, empty_file, typed_unit}
use Rattle.c_rules.proofs.Formed.Context.{Gives, is, behind}
use Rattle.c_rules.proofs.Formed.FileContext.{IsTypedFile}
use Rattle.c_rules.proofs.Formed.FileSoFar.{IsFileSoFar, so_far_at_start}
use Rattle.c_rules.proofs.Formed.FileAtEnd.{typed_at_end}
use Rattle.c_rules.proofs.Formed.ItemsSoFar.{typed_items}
use Rattle.c_rules.proofs.Formed.GivesLemmas.{anything}
use Rattle.c_rules.proofs.Formed.FunctionsSoFar.{typed_file_function}

-- what is declared has no body
without_declaration : (d : tree.DeclarationTree) (file : File) (rest : UnitTree) → IsFileSoFar (tree.Declared d ∷ rest) file → IsFileSoFar rest file
without_declaration d file rest known = record {
  names = known.names;
  statics = known.statics;
  functions = known.functions;
  bodies = known.bodies;
  names_differ = known.names_differ;
}

typed_external : (x : ExternalTree) (file : File) (rest : UnitTree) → IsFileSoFar (x ∷ rest) file → Gives (IsFileSoFar rest) (external file x)
typed_external (Defined f) file rest known = typed_file_function f file rest known
typed_external (tree.Declared d) file rest known =
    behind (spelled d.specs) (λ b. file_items file b d.items) (anything (spelled d.specs)) (λ b spelt. typed_items rest file b d.items (without_declaration d file rest known))

typed_externals : (unit : UnitTree) (file : File) → IsFileSoFar unit file → Gives IsTypedFile (externals file unit)
typed_externals [] file known = is file (typed_at_end file known)
typed_externals (x ∷ unit) file known =
    behind (external file x) (λ g. externals g unit) (typed_external x file unit known) (λ g after. typed_externals unit g after)

pub typed_file : (unit : UnitTree) → Gives IsTypedFile (typed_unit unit)
typed_file unit = typed_externals unit (empty_file unit) (so_far_at_start unit)
