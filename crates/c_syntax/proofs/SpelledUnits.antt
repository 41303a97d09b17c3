-- The tree of tokens that have spellings is one that types can be checked of.
use Rattle.std.proofs.Common.{◌≡◌, ℕ, List, [], ◌∷◌, subst, arith}
use Rattle.std.specs.Prelude.{⊤, All}
use Rattle.std.specs.List.{AllByRecursion}
use Rattle.std.proofs.lemmas.List.Elements.{recursion_from_All}
use Rattle.word_base.specs.Name.{IsName}
use Rattle.c_syntax.specs.declared.token.Token.{Token}
use Rattle.c_syntax.specs.declared.token.TokenKind.{TokenKind}
use Rattle.c_syntax.specs.declared.token.TokenKind.TheVariants as token
use Rattle.c_syntax.specs.Counts.{IsWithinLimits}
use Rattle.c_syntax.specs.Derives.{DerivesUnit}
use Rattle.c_syntax.specs.SyntaxTree.{UnitTree}
use Rattle.c_syntax.specs.TokenSpellings.{HasSpelling}
use Rattle.c_syntax.specs.Units.{IsUnit}
use Rattle.c_syntax.proofs.DerivedValues.{unit_values}
use Rattle.c_syntax.proofs.NamedFunctions.{AreNamed, unit_named}
use Rattle.c_syntax.proofs.Spoken.{KindIsWord, AreWords, unit_says}

named : (tokens : List Token) → AllByRecursion (λ t. HasSpelling t.kind) tokens → AreNamed tokens
named [] all = tt {0}
named (t ∷ tokens) all = (λ name is. (subst HasSpelling is all.0).0, named tokens all.1)

is_word : (kind : TokenKind) → HasSpelling kind → KindIsWord kind
is_word (token.Word keyword) spelled = tt {0}
is_word (token.Name name) spelled = tt {0}
is_word (token.Number value marked decimal) spelled = tt {0}
is_word (token.Char value) spelled = omega (arith, spelled)
is_word (token.Mark mark) spelled = tt {0}

words : (tokens : List Token) → AllByRecursion (λ t. HasSpelling t.kind) tokens → AreWords tokens
words [] all = tt {0}
words (t ∷ tokens) all = (is_word t.kind all.0, words tokens all.1)

pub spelled_unit : (tokens : List Token) (tree : UnitTree) → All (λ t. HasSpelling t.kind) tokens → DerivesUnit tokens tree → IsWithinLimits tree → IsUnit tree
spelled_unit tokens tree spelled derives limits =
    let all = recursion_from_All (λ t. HasSpelling t.kind) tokens spelled in
    record {
      limits = limits;
      names = unit_named tokens tree (named tokens all) derives;
      values = unit_values tokens tree derives;
      words = unit_says tokens tree derives (words tokens all);
    }
