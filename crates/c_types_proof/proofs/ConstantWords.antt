-- What constant expressions of words come to is a word.
use Rattle.std.proofs.Common.{◌≡◌, ◌<◌, ◌==◌, ◌&&◌, ◌||◌, not, if◌then◌else◌, ℕ, Bool, true, false, Option, Some, None, refl, arith}
use Rattle.std.specs.Prelude.{IfSome}
use Rattle.word_base.specs.Words.{Calc, Good, Bad, truth}
use Rattle.c_syntax.specs.declared.operator.UnaryOp.{UnaryOp}
use Rattle.c_syntax.specs.declared.operator.BinaryOp.{BinaryOp}
use Rattle.c_syntax.specs.SyntaxTree.{Expression}
use Rattle.c_tree.specs.TypedTree as tree
use Rattle.c_tree.specs.TypedTree.{Kind, Expr, Node}
use Rattle.c_tree.specs.Eval.{kind_of, points, is_unsigned, without_sign}
use Rattle.c_tree.specs.Operators.{int_binary, unsigned_binary, int_unary, unsigned_unary}
use Rattle.c_rules.specs.declared.fault.Rule.TheVariants.{NotConstant}
use Rattle.c_rules.specs.Constants.{is_fixed, good, word_of_one, compares, calculated, word_of_two, truth_of, tested, word_of, constant}
use Rattle.c_rules.specs.Typing.{place, word_at}
use Rattle.c_rules.proofs.Formed.Context.{Gives}
use Rattle.c_rules.proofs.Formed.GivesLemmas.{if_there}
use Rattle.c_tree.specs.TypedOfWords.{UsesWords}
use Rattle.c_tree.proofs.OperatorWords.{few_given, one_few}

-- a word, where one is there
abbrev pub IsWord : Option ℕ → Type 0
IsWord o = IfSome o (λ w. w < 65536)

good_word : (c : Calc) → ((z : ℕ) → c ≡ Good z → z < 65536) → IsWord (good c)
good_word (Good w) few = few w refl
good_word (Bad kind) few = tt

one_word : (o : UnaryOp) (k : Kind) (a : Option ℕ) → IsWord a → IsWord (word_of_one o k a)
one_word o k None is = tt
one_word o k (Some a) is = good_word (if is_unsigned k then unsigned_unary o a else int_unary o a) (λ z same. one_few o (is_unsigned k) a z is same)

calculated_word : (o : BinaryOp) (k l : Kind) (a b : ℕ) → a < 65536 → b < 65536 → IsWord (calculated o k l a b)
calculated_word o k l a b first second = by ((points k || points l) && not (compares o))
  where
    by : (none : Bool) → IsWord (if none then None else good (if without_sign o k l then unsigned_binary o a b else int_binary o a b))
    by true = tt
    by false = good_word (if without_sign o k l then unsigned_binary o a b else int_binary o a b)
        (λ z same. few_given o (without_sign o k l) a b z first second same)

two_words : (o : BinaryOp) (k l : Kind) (a b : Option ℕ) → IsWord a → IsWord b → IsWord (word_of_two o k l a b)
two_words o k l (Some a) (Some b) first second = calculated_word o k l a b first second
two_words o k l (Some a) None first second = tt
two_words o k l None b first second = tt

truth_word : (a : Option ℕ) → IsWord (truth_of a)
truth_word None = tt
truth_word (Some a) = by (not (a == 0))
  where
    by : (b : Bool) → truth b < 65536
    by true = omega arith
    by false = omega arith

tested_word : (a other zero_case : Option ℕ) → IsWord other → IsWord zero_case → IsWord (tested a other zero_case)
tested_word None other zero_case first second = tt
tested_word (Some a) other zero_case first second = by (a == 0)
  where
    by : (b : Bool) → IsWord (if b then zero_case else other)
    by true = second
    by false = first

some_zero : IsWord (Some 0)
some_zero = omega arith

some_one : IsWord (Some 1)
some_one = omega arith

pub word_few : (e : Expr) → UsesWords e → IsWord (word_of e)
word_few (Node (tree.Const w) kind at) uses = uses
word_few (Node (tree.Unary o e) kind at) uses = one_word o kind (word_of e) (word_few e uses)
word_few (Node (tree.Binary o a b) kind at) uses =
    two_words o (kind_of a) (kind_of b) (word_of a) (word_of b) (word_few a uses.0) (word_few b uses.1)
word_few (Node (tree.And a b) kind at) uses = tested_word (word_of a) (truth_of (word_of b)) (Some 0) (truth_word (word_of b)) some_zero
word_few (Node (tree.Or a b) kind at) uses = tested_word (word_of a) (Some 1) (truth_of (word_of b)) some_one (truth_word (word_of b))
word_few (Node (tree.Not e) kind at) uses = tested_word (word_of e) (Some 0) (Some 1) some_zero some_one
word_few (Node (tree.Pick c a b) kind at) uses = tested_word (word_of c) (word_of a) (word_of b) (word_few a uses.1) (word_few b uses.2)
word_few (Node (tree.Convert e) None at) uses = tt
word_few (Node (tree.Convert e) (Some kind) at) uses = word_few e uses
word_few e uses = tt

pub constant_few : (e : Expression) (x : Expr) → UsesWords x → IsWord (constant e x)
constant_few e x uses = by (is_fixed e)
  where
    by : (b : Bool) → IsWord (if b then word_of x else None)
    by true = word_few x uses
    by false = tt

pub word_there : (e : Expression) (x : Expr) → UsesWords x → Gives (λ w. w < 65536) (word_at e x)
word_there e x uses = if_there NotConstant (place e) (constant e x) (constant_few e x uses)
