-- Arguments that wait and their parameters, with one more of them.
use Rattle.std.proofs.Common.{◌≡◌, ap, ◌∙◌, ℕ, zero, suc, ◌+◌, add-one, arith}
use Rattle.acc_code.specs.declared.operand.AccOperand.TheVariants as operand
use Rattle.acc_code.specs.AccTree.{ItemList, end, ◌▸◌, ◌⧺◌}
use Rattle.acc_select.specs.Forms.{temporary, parameter_items}
use Rattle.acc_operations.specs.Words.{lac, sacl}
use Rattle.acc_select.proofs.AppendLemmas.{alike}

abbrev moved : ℕ → ℕ → ℕ → ItemList
moved f i t = lac (temporary t) ▸ sacl (operand.Param f i) ▸ end

once_more : (f i t n : ℕ) → parameter_items f i t (suc n) ≡ parameter_items f i t n ⧺ moved f (i + n) (t + n)
once_more f i t zero = alike (moved f) (let e : i ≡ i + zero = omega arith in e) (let e : t ≡ t + zero = omega arith in e)
once_more f i t (suc n) = ap (λ rest. lac (temporary t) ▸ sacl (operand.Param f i) ▸ rest)
    (once_more f (suc i) (suc t) n ∙ ap (λ rest. parameter_items f (suc i) (suc t) n ⧺ rest)
    (alike (moved f) (let e : suc i + n ≡ i + suc n = omega arith in e) (let e : suc t + n ≡ t + suc n = omega arith in e)))

pub one_more_parameter : (f t n : ℕ) → parameter_items f 0 t (n + 1) ≡ parameter_items f 0 t n ⧺ lac (temporary (t + n)) ▸ sacl (operand.Param f n) ▸ end
one_more_parameter f t n = ap (parameter_items f 0 t) (add-one n) ∙ once_more f 0 t n ∙ ap (λ i. parameter_items f 0 t n ⧺ moved f i (t + n)) (let e : 0 + n ≡ n = omega arith in e)
