-- Functions have names as tokens have them.
use Rattle.std.proofs.Common.{◌≡◌, ◌+◌, ℕ, List, [], ◌∷◌, ◌++◌, length, sym, subst}
use Rattle.std.specs.Prelude.{⊤, All}
use Rattle.std.proofs.lemmas.List.Elements.{All-cons, All-nil}
use Rattle.word_base.specs.Name.{IsName}
use Rattle.c_syntax.specs.declared.token.Token.{Token}
use Rattle.c_syntax.specs.declared.token.TokenKind.{TokenKind}
use Rattle.c_syntax.specs.declared.token.TokenKind.TheVariants as token
use Rattle.c_syntax.specs.SyntaxTree.{UnitTree, FunctionSyntax, Defined, Declared}
use Rattle.c_syntax.specs.Spelling.{Means}
use Rattle.c_syntax.specs.Lexes.{Piece, Blank, Spelled, AllStand, tokens_from, Lexes}
use Rattle.c_syntax.specs.Derives.{DerivesFunction, DerivesUnit, LastExternal, MoreExternals}
use Rattle.c_syntax.specs.FunctionNames.{function_names}

-- each name among tokens is one
abbrev pub AreNamed : List Token → Type 0
AreNamed [] = ⊤
AreNamed (t ∷ ts) = ((name : List ℕ) → t.kind ≡ token.Name name → IsName name) × AreNamed ts

name_of_text : (text : List ℕ) (kind : TokenKind) → Means text kind → (name : List ℕ) → kind ≡ token.Name name → IsName name
name_of_text text kind means name is = let meant = subst (Means text) is means in subst IsName (sym meant.0) meant.1

tokens_named : (at : ℕ) (pieces : List Piece) (rest : List ℕ) → AllStand pieces rest → AreNamed (tokens_from at pieces)
tokens_named at [] rest stand = tt {0}
tokens_named at (Blank text ∷ pieces) rest stand = tokens_named (at + length text) pieces rest stand.1
tokens_named at (Spelled text kind ∷ pieces) rest stand = (name_of_text text kind stand.0.1, tokens_named (at + length text) pieces rest stand.1)

first_named : (a b : List Token) → AreNamed (a ++ b) → AreNamed a
first_named [] b named = tt {0}
first_named (t ∷ a) b named = (named.0, first_named a b named.1)

last_named : (a b : List Token) → AreNamed (a ++ b) → AreNamed b
last_named [] b named = named
last_named (t ∷ a) b named = last_named a b named.1

function_named : (tokens : List Token) (tree : FunctionSyntax) → AreNamed tokens → DerivesFunction tokens tree → IsName tree.name
function_named tokens tree named derives =
    let all = subst AreNamed derives.cut named
    in let front = first_named (derives.a ++ derives.b ++ derives.n ∷ derives.t ∷ derives.c) (derives.u ∷ derives.d) all
    in (last_named (derives.a ++ derives.b) (derives.n ∷ derives.t ∷ derives.c) front).0 tree.name derives.name

pub unit_named : (tokens : List Token) (tree : UnitTree) → AreNamed tokens → DerivesUnit tokens tree → All IsName (function_names tree)
unit_named tokens _ named (LastExternal {tree = Defined f} external) =
    All-cons IsName f.name [] (function_named tokens f named external) (All-nil IsName)
unit_named tokens _ named (LastExternal {tree = Declared d} external) = All-nil IsName
unit_named tokens _ named (MoreExternals a b {tree = Defined f} {trees = trees} cut external rest) =
    let both = subst AreNamed cut named
    in All-cons IsName f.name (function_names trees) (function_named a f (first_named a b both) external) (unit_named b trees (last_named a b both) rest)
unit_named tokens _ named (MoreExternals a b {tree = Declared d} {trees = trees} cut external rest) =
    unit_named b trees (last_named a b (subst AreNamed cut named)) rest

pub all_named : (text : List ℕ) (tokens : List Token) (tree : UnitTree) → Lexes text tokens → DerivesUnit tokens tree → All IsName (function_names tree)
all_named text tokens tree lexes derives =
    unit_named tokens tree (subst AreNamed (sym lexes.0.are) (tokens_named 0 lexes.0.pieces [] lexes.0.stand)) derives
