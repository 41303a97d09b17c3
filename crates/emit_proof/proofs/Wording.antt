-- The steps of operations on words at addresses reach words.
use Rattle.std.proofs.Common.{ℕ, ◌+◌, ◌%◌, ◌<◌, Bool, true, false, if◌then◌else◌, List, [], ◌∷◌, ◌++◌, zero, suc, slice_get, arith, lit<}
use Rattle.c_tree.specs.declared.program.VarRef.{VarRef}
use Rattle.c_tree.specs.declared.program.VarRef.TheVariants.{Scalar, Local, Static}
use Rattle.acc_code.specs.declared.operand.AccOperand.{AccOperand}
use Rattle.acc_code.specs.declared.operand.AccOperand.TheVariants as operand
use Rattle.acc_code.specs.declared.operation.AccOp.TheVariants as row
use Rattle.emit_blocks.specs.declared.site.ScalarPlace.{ScalarPlace}
use Rattle.emit_blocks.specs.declared.step.Reach.TheVariants as reach
use Rattle.emit_blocks.specs.declared.step.Step.{Step}
use Rattle.emit_blocks.specs.Places.{Places, address_in, object_address, parameters_in, scalar_or_zero, reach_of}
use Rattle.emit_blocks.specs.Steps.{Operation, step, POINT_WORD, is_point, is_load_of_pointer, steps_of_operation, steps_from, steps_of}
use Rattle.emit_blocks.specs.Right.{HasWords, HaveWords}
use Rattle.emit_proof.specs.Addressed.{AreWords, ListsAreWords, ScalarsAreWords, HasAddresses, IsWordOperand, AreWordOperations}

word_in : (ws : List ℕ) (n : ℕ) → AreWords ws → address_in ws n < 65536
word_in [] n words = lit< tt
word_in (a ∷ ws) zero words = words.0
word_in (a ∷ ws) (suc n) words = word_in ws n words.1

scalar_word : (ps : List ScalarPlace) (n : ℕ) → ScalarsAreWords ps → (scalar_or_zero (slice_get ps n)).address < 65536
scalar_word [] n words = lit< tt
scalar_word (p ∷ ps) zero words = words.0
scalar_word (p ∷ ps) (suc n) words = scalar_word ps n words.1

parameter_word : (ls : List (List ℕ)) (f n : ℕ) → ListsAreWords ls → parameters_in (slice_get ls f) n < 65536
parameter_word [] f n words = lit< tt
parameter_word (l ∷ ls) zero n words = word_in l n words.0
parameter_word (l ∷ ls) (suc f) n words = parameter_word ls f n words.1

object_word : (s : Places) (v : VarRef) → HasAddresses s → object_address s v < 65536
object_word s (Scalar n) has = lit< tt
object_word s (Local n) has = word_in s.locals n has.locals
object_word s (Static n) has = word_in s.statics n has.statics

reach_words : (s : Places) (m : AccOperand) → HasAddresses s → IsWordOperand m → HasWords (reach_of s m)
reach_words s operand.Nothing has word = lit< tt
reach_words s (operand.Scalar n) has word = scalar_word s.scalars n has.scalars
reach_words s (operand.Direct v) has word = object_word s v has
reach_words s (operand.Param f n) has word = parameter_word s.parameters f n has.parameters
reach_words s (operand.Scratch n) has word = (let e : 768 + n < 65536 = omega (arith, word) in e)
reach_words s (operand.Number w) has word = word
reach_words s (operand.Address v n) has word = (let e : (object_address s v + n) % 65536 < 65536 = omega arith in e)
reach_words s operand.Pointed has word = tt

words_either : (b : Bool) (xs ys : List Step) → HaveWords xs → HaveWords ys → HaveWords (if b then xs else ys)
words_either true xs ys words others = words
words_either false xs ys words others = others

words_behind : (xs ys : List Step) → HaveWords xs → HaveWords ys → HaveWords (xs ++ ys)
words_behind [] ys words more = more
words_behind (x ∷ xs) ys words more = (words.0, words_behind xs ys words.1 more)

operation_words : (s : Places) (o : Operation) → HasAddresses s → IsWordOperand o.operand → HaveWords (steps_of_operation s o)
operation_words s o has word =
    words_either (is_point o.row) (step (row.Sacl 0) (reach.Word POINT_WORD) ∷ step row.Point (reach.Word POINT_WORD) ∷ []) (step o.row (reach_of s o.operand) ∷ [])
    (lit< tt, (lit< tt, tt)) (reach_words s o.operand has word, tt)

from_words : (s : Places) (joined : Bool) (os : List Operation) → HasAddresses s → AreWordOperations os → HaveWords (steps_from s joined os)
from_words s joined [] has words = tt
from_words s true (o ∷ os) has words = from_words s false os has words.1
from_words s false (o ∷ os) has words =
    words_either (is_load_of_pointer o os) (step row.Point (reach_of s o.operand) ∷ steps_from s true os) (steps_of_operation s o ++ steps_from s false os)
    (reach_words s o.operand has words.0, from_words s true os has words.1)
    (words_behind (steps_of_operation s o) (steps_from s false os) (operation_words s o has words.0) (from_words s false os has words.1))

pub steps_words : (s : Places) (os : List Operation) → HasAddresses s → AreWordOperations os → HaveWords (steps_of s os)
steps_words s os has words = from_words s false os has words
