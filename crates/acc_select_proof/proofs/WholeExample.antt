-- A whole program from laws of its parts: `int f(int a, int b) { return b; } int main(void) { return f(9, f(4, 2)); }`.
use Rattle.std.proofs.Common.{◌≡◌, ℕ, zero, suc, ◌+◌, ◌<◌, true, [], ◌∷◌, Some, refl, sym, ap, ◌∙◌, subst, arith}
use Rattle.std.specs.Prelude.{slice_get}
use Rattle.word_base.specs.Ports.{Input, IsInput}
use Rattle.c_tree.specs.declared.program.VarRef.TheVariants.{Scalar}
use Rattle.c_tree.specs.SourceRun.{main_name}
use Rattle.tree_code.specs.WordTree as word
use Rattle.tree_code.specs.WordTree.{ExprCode, Node, Const, Read, none, more, FunctionCode, ProgramCode, code}
use Rattle.acc_code.specs.AccTree.{Return, end, ◌▸◌, ◌⧺◌}
use Rattle.acc_select.specs.acc_operations.Words.{Word, loaded, high}
use Rattle.acc_select.specs.Selected.{code_of, selected, is_main}
use Rattle.ir_semantics.specs.Keeps as run
use Rattle.ir_semantics.specs.Keeps.{tree_run, acc_run}
use Rattle.ir_semantics.specs.Parts.{Does, ◌>>=◌}
use Rattle.ir_semantics.specs.Outside.{Places}
use Rattle.ir_semantics.specs.TreeRun.{Tree, tick, returning, value}
use Rattle.acc_select_proof.proofs.Rules.{Ground, Keeps, seq}
use Rattle.acc_select_proof.proofs.Sides.{some_is, Side, paid}
use Rattle.acc_select_proof.proofs.Words.{has_low}
use Rattle.acc_select_proof.proofs.Valuing.{WordKeeps, loaded_keeps}
use Rattle.acc_select_proof.proofs.Coding.{word_code, constant_word, name_word}
use Rattle.acc_select_proof.proofs.Calling.{call_word, call_code_keeps}
use Rattle.acc_select_proof.proofs.Leaving.{FlowPost}
use Rattle.acc_select_proof.proofs.Functions.{ground, base_of, BodyKeeps, parameters_in}
use Rattle.acc_select_proof.proofs.Returning.{ReturnsValues, always_gives}
use Rattle.acc_select_proof.proofs.SelectPrograms.{program_keeps}

return_keeps : (n : Ground) (base s : ℕ) (f : Does Tree ℕ) (c : ℕ → Word) → WordKeeps n base f c → Keeps n (Side base [] s) (tick 3 >>= λ _. f >>= λ x. returning (Some x)) (loaded (c base) ⧺ Return ▸ end) (FlowPost base s)
return_keeps n base s f c k =
    let z : base + 0 ≡ base = omega arith in
    subst (λ t. Keeps n (Side base [] s) (tick 3 >>= λ _. f >>= λ x. returning (Some x)) (loaded (c t) ⧺ Return ▸ end) (FlowPost base s)) z
    (record {
      by = λ w v h.
          (seq n (loaded_keeps n base f c k [] (3 + s)) (λ x. record {
            by = λ u m p. record {
              same = refl;
              side = let side = p.side in record {
                frame = side.frame;
                scalars = side.scalars;
                temps = tt;
                outside = side.outside;
                words = side.words;
                sxm = side.sxm;
                work = let k = side.work in omega (arith, k);
              };
              result = λ e y is. (has_low (high (c (base + 0)).found) x m.registers.acc p.word p.has.has ∙ is, subst (λ a. a < 65536) (some_is is) p.word);
            };
          })).by _ v (paid base [] s 3 w v h);
    })

abbrev two : ExprCode
two = Node (word.Call 0 (more (Node (Const 4) 0) (more (Node (Const 2) 0) none))) 0

abbrev second : FunctionCode
second = record { name = 102 ∷ []; scalars = 2; params = Scalar 0 ∷ Scalar 1 ∷ []; locals = []; body = word.Return (Some (Node (Read (Scalar 1)) 0)) }

abbrev main : FunctionCode
main = record { name = main_name; scalars = 2; params = []; locals = []; body = word.Return (Some (Node (word.Call 0 (more (Node (Const 9) 0) (more two none))) 0)) }

abbrev program : ProgramCode
program = code [] (second ∷ main ∷ [])

module _ (q : Places) (limit : ℕ) where
  second_keeps : BodyKeeps q limit (parameters_in q program.functions limit) 0 second
  second_keeps = record {
    by = λ calls does grows calls_kept s.
        let n = ground q limit 0 second does grows in
        return_keeps n (base_of second) s (value calls n.context.at (Node (Read (Scalar 1)) 0)) (λ t. (code_of (Node (Read (Scalar 1)) 0) t).word) (name_word n (base_of second) (Scalar 1) (omega arith));
  }

  main_keeps : BodyKeeps q limit (parameters_in q program.functions limit) 1 main
  main_keeps = record {
    by = λ calls does grows calls_kept s.
        let n = ground q limit 1 main does grows in
        let base = base_of main in
        let inner = (call_code_keeps n base (parameters_in q program.functions limit) calls calls_kept 0 (more (Node (Const 4) 0) (more (Node (Const 2) 0) none)) ((word_code n base _ _ (constant_word n base 4 (omega arith))).into, ((word_code n base _ _ (constant_word n base 2 (omega arith))).into, tt)) refl).into in
        return_keeps n base s _ (λ t. (code_of (Node (word.Call 0 (more (Node (Const 9) 0) (more two none))) 0) t).word)
        (call_word n base (parameters_in q program.functions limit) calls calls_kept 0 (more (Node (Const 9) 0) (more two none)) ((word_code n base _ _ (constant_word n base 9 (omega arith))).into, (inner, tt)) refl);
  }

  body_keeps : (f : ℕ) (g : FunctionCode) → slice_get program.functions f ≡ Some g → BodyKeeps q limit (parameters_in q program.functions limit) f g
  body_keeps zero g is = subst (BodyKeeps q limit (parameters_in q program.functions limit) 0) (some_is is) second_keeps
  body_keeps (suc zero) g is = subst (BodyKeeps q limit (parameters_in q program.functions limit) 1) (some_is is) main_keeps
  body_keeps (suc (suc f)) g is = absurd cc

  values_returned : (f : ℕ) (g : FunctionCode) → slice_get program.functions f ≡ Some g → is_main g.name ≡ true → ReturnsValues g.body
  values_returned zero g is named = subst (λ (h : FunctionCode). ReturnsValues h.body) (some_is is) tt
  values_returned (suc zero) g is named = subst (λ (h : FunctionCode). ReturnsValues h.body) (some_is is) tt
  values_returned (suc (suc f)) g is named = absurd cc

  whole : (input : Input) → IsInput input → run.Keeps (tree_run q program input limit) (acc_run q program (selected program) input limit)
  whole input is =
      program_keeps q program input limit (record { bodies = body_keeps; main_gives = λ f g at named. always_gives q limit f g (values_returned f g at named) })
      (λ g at. ap (λ (h : FunctionCode). h.params) (sym (some_is at))) tt is
