-- The open list of a string, and what it costs by itself.
use Rattle.std.proofs.Common.{◌≡◌, ℕ, zero, suc, ◌+◌, ◌<◌, ◌≤◌, Bool, true, false, cond, List, [], ◌∷◌, ◌++◌, length, take, drop, get_or, ap, sym, subst, ◌∙◌, arith, append-nil}
use Rattle.std.specs.Prelude.{◌==◌, All, slice_index}
use Rattle.std.specs.List.{concat}
use Rattle.std.proofs.Math.Seq.{drop-append_seam}
use Rattle.std.proofs.lemmas.List.{take_more, length-take-le, drop-append-le}
use Rattle.std.proofs.lemmas.List.Splits.{slice_split_none}
use Rattle.std.proofs.lemmas.List.Elements.{All-head, All-tail, All-weaker}
use Rattle.lay_model.specs.Sequences.{Sequence}
use Rattle.lay_cost.specs.Parts.{Node, node_lists, lists_of, close, part_cost_of, StandOnce, IsString}
use Rattle.lay_cost.proofs.Adding.{parts_add}
use Rattle.lay_tree.specs.Tree.{with_scalar, with_close}
use Rattle.lay_node.specs.Strings.{node_of}
use Rattle.lay_node.proofs.Strung.{node_push, no_close}
use Rattle.lay_node.proofs.Proper.{IsProper, open_few, open_once}

one_more : (string : List ℕ) (i sign : ℕ) → i < length string → sign ≡ get_or string i 0 → take (i + 1) string ≡ take i string ++ (sign ∷ [])
one_more string i sign lt is = take_more string i 0 lt ∙ ap (λ s. take i string ++ (s ∷ [])) (sym is)

open_of : (string : List ℕ) (i sign : ℕ) (b : Bool) → i < length string → sign ≡ get_or string i 0 → (sign == close) ≡ b → (node_of (take (i + 1) string)).open_list ≡ (cond b (with_close (node_of (take i string))) (with_scalar (node_of (take i string)) sign)).open_list
open_of string i sign b lt is test =
    ap (λ s. (node_of s).open_list) (one_more string i sign lt is) ∙ ap (λ (n : Node). n.open_list) (node_push (take i string) sign)
    ∙ ap (λ t. (cond t (with_close (node_of (take i string))) (with_scalar (node_of (take i string)) sign)).open_list) test

pub open_next : (string : List ℕ) (i begin sign : ℕ) → i < length string → begin ≤ i → sign ≡ get_or string i 0 → (sign == close) ≡ false → drop begin (take i string) ≡ (node_of (take i string)).open_list → drop begin (take (i + 1) string) ≡ (node_of (take (i + 1) string)).open_list
open_next string i begin sign lt le is scalar before =
    ap (drop begin) (one_more string i sign lt is)
    ∙ drop-append-le begin (take i string) (sign ∷ []) (omega (arith, le, length-take-le i string (omega (arith, lt))))
    ∙ ap (λ l. l ++ (sign ∷ [])) before ∙ sym (open_of string i sign false lt is scalar)

pub open_anew : (string : List ℕ) (i sign : ℕ) → i < length string → sign ≡ get_or string i 0 → (sign == close) ≡ true → drop (i + 1) (take (i + 1) string) ≡ (node_of (take (i + 1) string)).open_list
open_anew string i sign lt is closes =
    let t = take (i + 1) string in
    let long : i + 1 ≡ length t = sym (length-take-le (i + 1) string (omega (arith, lt))) in
    ap (λ n. drop n t) long ∙ ap (drop (length t)) (sym (append-nil t)) ∙ drop-append_seam t [] ∙ sym (open_of string i sign true lt is closes)

small_open : (seq : Sequence) (node : Node) → seq.scalars ≤ 64 → IsProper seq.scalars node → All (λ s. s < 64) node.open_list
small_open seq node few proper = All-weaker (λ s. s < seq.scalars) (λ s. s < 64) (λ s lt. omega (arith, lt, few)) node.open_list (open_few seq.scalars node proper)

open_alone : (l : List ℕ) → All (λ s. s < 64) l → lists_of l ≡ l ∷ []
open_alone l all = slice_split_none (λ c. c == close) l (no_close l all)

small_at : (xs : List ℕ) (i : ℕ) → All (λ s. s < 64) xs → i < length xs → slice_index xs i < 64
small_at [] i all lt = absurd (omega (arith, lt))
small_at (x ∷ xs) zero all lt = All-head (λ s. s < 64) x xs all
small_at (x ∷ xs) (suc i) all lt = small_at xs i (All-tail (λ s. s < 64) x xs all) (omega (arith, lt))

pub open_string : (seq : Sequence) (node : Node) → seq.scalars ≤ 64 → IsProper seq.scalars node → IsString seq.scalars node.open_list
open_string seq node few proper =
    let l = node.open_list in
    let all = small_open seq node few proper in
    let flat : concat (lists_of l) ≡ l = ap concat (open_alone l all) ∙ append-nil l in
    record {
      few = subst (λ xs. All (λ s. s < seq.scalars) xs) (sym flat) (open_few seq.scalars node proper);
      once = subst (λ xs. StandOnce xs) (sym flat) (open_once seq.scalars node proper);
      closes = λ i lt e. absurd (omega (arith, e, small_at l i all lt));
    }

pub closed_costs : (seq : Sequence) (node : Node) → seq.scalars ≤ 64 → seq.step ≡ 1 → IsProper seq.scalars node → part_cost_of seq node.closed + part_cost_of seq (lists_of node.open_list) ≡ part_cost_of seq (node_lists node)
closed_costs seq node few one proper = ap (λ ls. part_cost_of seq node.closed + part_cost_of seq ls) (open_alone node.open_list (small_open seq node few proper)) ∙ sym (parts_add seq node.closed (node.open_list ∷ []) one proper.once)
