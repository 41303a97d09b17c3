use Rattle.std.proofs.Common.{◌≡◌, drop, map}
use Rattle.c_syntax.specs.SyntaxView.{declaration_of}
use Rattle.c_rules.specs.Statements.{declarations}
use Rattle.c_types.specs.BodyView.{context_around, opened_of}
use Rattle.c_types.proofs.blocks.Body.declarations.Given as goal

abbrev pub invariant-loop-declaration : goal.invariant-loop-declaration
invariant-loop-declaration l = record {
  typed : declarations (opened_of l.initial.self l.initial.opening) (map declaration_of l.list) ≡ declarations (opened_of l.self l.opening) (map declaration_of (drop l.declaration-index l.list));
  kept : context_around l.self ≡ context_around l.initial.self;
}
