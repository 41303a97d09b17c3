-- Sources by hand: what their typed trees say, and that a tree whose character isn't a word is typed all the same. Above each tree stands
-- its source; places tell nothing here.
use Rattle.std.proofs.Common.{◌≡◌, refl, arith}
use Rattle.std.specs.Prelude.{ℕ, true, false, codes, List, [], ◌∷◌, map, Some, None}
use Rattle.c_syntax.specs.declared.operator.BinaryOp.TheVariants as op
use Rattle.c_syntax.specs.declared.syntax.SpecWord.TheVariants.{Int}
use Rattle.c_syntax.specs.SyntaxTree.{SpecsTree, Expression, Node, Number, Character, Binary, ItemForm, Plain, Array, InitialTree, One, Braced}
use Rattle.c_syntax.specs.SyntaxTree.{Declared, UnitTree}
use Rattle.c_tree.specs.declared.program.Initial.{Initial}
use Rattle.c_tree.specs.declared.program.Initial.TheVariants.{Word}
use Rattle.c_rules.specs.declared.fault.Rule.TheVariants.{LongConstant}
use Rattle.c_rules.specs.Outcome.{Outcome, Is, Broken}
use Rattle.c_rules.specs.Programs.{program_tree}
use Rattle.c_rules.specs.Units.{File, typed_unit}
use Rattle.c_syntax.specs.Characters.{UnitSaysWords}

abbrev starts_in : Outcome File → List (List Initial)
starts_in (Is file) = map (λ o. o.initial) (program_tree file).statics
starts_in (Broken rule at) = []

abbrev starts_of : UnitTree → List (List Initial)
starts_of unit = starts_in (typed_unit unit)

abbrev int : SpecsTree
int = record { words = Int ∷ []; at = 0 }

abbrev started : ItemForm → InitialTree → UnitTree
started form start =
    Declared (record {
      specs = int;
      items = record { stars = 0; name = codes "x"; form = form; initial = Some start; at = 0 } ∷ [];
      at = 0;
    }) ∷ []

abbrev character : ℕ → Expression
character value = Node (Character value) 0

abbrev number : ℕ → Expression
number value = Node (Number value false true) 0

-- int x = 'a';
abbrev letter : UnitTree
letter = started Plain (One (character 97))

letter_says : UnitSaysWords letter
letter_says = ((omega arith, tt), tt)

letter_starts : starts_of letter ≡ (Word 97 ∷ []) ∷ []
letter_starts = refl

-- int x[] = {'\xffff', '\xffff' + 1}; the sum of -1 and 1
abbrev high : UnitTree
high = started (Array None) (Braced (character 65535 ∷ Node (Binary op.Add (character 65535) (number 1)) 0 ∷ []) 0)

high_says : UnitSaysWords high
high_says = (((omega arith, ((omega arith, tt), tt)), tt), tt)

high_starts : starts_of high ≡ (Word 65535 ∷ Word 0 ∷ []) ∷ []
high_starts = refl

-- int x = 65536; a longer number is refused, whatever the tree says
abbrev long : UnitTree
long = started Plain (One (number 65536))

long_says : UnitSaysWords long
long_says = ((tt, tt), tt)

long_refused : typed_unit long ≡ Broken LongConstant 0
long_refused = refl

-- a tree of no text: a character that is no word is typed, and its object starts with no word
abbrev wide : UnitTree
wide = started Plain (One (character 65536))

wide_silent : ¬ UnitSaysWords wide
wide_silent says = omega (arith, says.0.0)

wide_starts : starts_of wide ≡ (Word 65536 ∷ []) ∷ []
wide_starts = refl
