-- An answer whose first line says `optimal` is certified at the cost that the line states.
use Rattle.std.proofs.Common.{◌≡◌, ◌∙◌, ◌<◌, ◌^◌, ◌++◌, ◌∷◌, [], ℕ, List, Some, codes, refl, sym, ap, append_assoc, arith}
use Rattle.std.specs.Prelude.{decimal, slice_index}
use Rattle.lay_text.proofs.Numbers.{same_number}
use Rattle.lay_tree.specs.declared.answer.Mark.{Mark}
use Rattle.lay_tree.specs.declared.answer.Answer.{Answer}
use Rattle.lay_tree.specs.declared.answer.Answer.TheVariants.{Certified, Exhausted}
use Rattle.lay_tree.specs.Search.{answer_cost}
use Rattle.cc_answers.specs.LayoutText.{layout_answer, register_lines}

-- behind the same front
same_behind : (front x y : List ℕ) → front ++ x ≡ front ++ y → x ≡ y
same_behind [] x y e = e
same_behind (b ∷ front) x y e = same_behind front x y cc

same_text : (x y : List ℕ) → Some x ≡ Some y → x ≡ y
same_text x y e = cc

apart : (x y : List ℕ) → codes " optimal\n" ++ x ≡ codes " best piece " ++ y → ⊥
apart x y f =
    let second : 111 ≡ 98 = ap (λ l. slice_index l 1) f in
    omega (arith, second)

pub optimal_is_certified : (a : Answer) (c : ℕ) (rest : List ℕ) → c < 2 ^ 64 → answer_cost a < 2 ^ 64 → (layout_answer a).text ≡ Some (codes "cost " ++ (decimal c ++ (codes " optimal\n" ++ rest)))
    → (lists : List (List ℕ)) × ((log : List Mark) × (a ≡ Certified lists c log))
optimal_is_certified (Certified lists cost log) c rest lt less e =
    let text : codes "cost " ++ (decimal c ++ (codes " optimal\n" ++ rest)) ≡ codes "cost " ++ (decimal cost ++ (codes " optimal" ++ (10 ∷ register_lines 0 lists))) = sym (same_text _ _ e) ∙ simp append_assoc in
    let same = same_number c cost _ _ lt less refl refl (same_behind (codes "cost ") _ _ text) in
    (lists, (log, ap (λ n. Certified lists n log) (sym same.0)))
optimal_is_certified (Exhausted lists cost piece quota log) c rest lt less e =
    let text : codes "cost " ++ (decimal c ++ (codes " optimal\n" ++ rest)) ≡ codes "cost " ++ (decimal cost ++ (codes " best piece " ++ (decimal piece ++ (codes " quota " ++ (decimal quota ++ (10 ∷ register_lines 0 lists)))))) = sym (same_text _ _ e) ∙ simp append_assoc in
    let same = same_number c cost _ _ lt less refl refl (same_behind (codes "cost ") _ _ text) in
    absurd (apart _ _ same.1)
