-- What the code of choices, stores, steps, ports and calls weighs, from what the code of their parts does.
use Rattle.std.proofs.Common.{◌≡◌, ℕ, zero, suc, ◌+◌, ◌*◌, ◌≤◌, Bool, true, false, refl, arith}
use Rattle.acc_code.specs.AccTree.{Op, Call, ItemList, end, ◌▸◌, ◌⧺◌}
use Rattle.acc_code.specs.declared.operand.AccOperand.{AccOperand}
use Rattle.acc_code.specs.declared.operand.AccOperand.TheVariants as operand
use Rattle.acc_code.specs.declared.operation.AccOp.TheVariants as row
use Rattle.acc_select.specs.acc_operations.Words.{Word, in_accumulator, held, scratch, high, loaded, store, sacl, lac, extend}
use Rattle.acc_select.specs.acc_operations.declared.constant.Shape.{Shape}
use Rattle.acc_select.specs.acc_operations.declared.constant.Shape.TheVariants as shape
use Rattle.acc_select.specs.acc_operations.declared.found.Found.{Found}
use Rattle.acc_select.specs.acc_operations.declared.found.Found.TheVariants.{Fixed, Held, Loaded}
use Rattle.acc_select.specs.acc_operations.declared.high_half.HighHalf.TheVariants.{Any, Sign}
use Rattle.acc_select.specs.acc_operations.declared.operation.Operation.{Operation}
use Rattle.acc_select.specs.Conditions.{Runs}
use Rattle.acc_select.specs.Forms as form
use Rattle.acc_select.specs.Forms.{Code, Part_code, of_word, temporary, signed_items, pick_code, comma_code, stored, assign_name_code, through, assign_at_once, assign_through, assign_at_code, updated, update_name_code, update_at_once, update_through, update_at_code, step_row, undo_row, stepped, step_before_code, step_after_code, step_name_after_code, in_code, out_items, out_code, argument_items, parameter_items, call_code}
use Rattle.ir_semantics.specs.AccRows.{operand_weight}
use Rattle.ir_semantics.specs.Weights.{items_weight}
use Rattle.size_proof.proofs.Weighing.{Weighs, weight_of, found_weight, store_weighs, extend_weighs, WordWeighs, loaded_weighs}
use Rattle.size_proof.proofs.Forming.{CodeWeighs, of_word_weighs, with_effect, behind_weighs, ShapeWeighs, binary_weighs}

signed_weighs : (w : Word) (n : ℕ) → WordWeighs w n → Weighs (signed_items w) (n + 4)
signed_weighs w n h = let l = loaded_weighs w n h in let e = weight_of (loaded w) (extend (high w.found)) in let x = extend_weighs (high w.found) in omega (arith, l, e, x)

pub pick_weighs : (c a b : Code) (n m k : ℕ) → CodeWeighs c n → CodeWeighs a m → CodeWeighs b k → CodeWeighs (pick_code c a b) (14 + (n + (m + k)))
pick_weighs c a b n m k hc ha hb =
    let sa = signed_weighs a.word m ha.word in
    let sb = signed_weighs b.word k hb.word in
    let words = hc.branch true (Runs (signed_items a.word)) (Runs (signed_items b.word)) in
    let effects = hc.branch true (Runs a.effect) (Runs b.effect) in
    let ea = ha.effect in
    let eb = hb.effect in
    with_effect _ (14 + (n + (m + k))) (c.branch true (Runs a.effect) (Runs b.effect))
    (of_word_weighs (in_accumulator (c.branch true (Runs (signed_items a.word)) (Runs (signed_items b.word))) Sign) (14 + (n + (m + k))) (omega (arith, sa, sb, words)))
    (omega (arith, effects, ea, eb))

pub comma_weighs : (a b : Code) (n m : ℕ) → CodeWeighs a n → CodeWeighs b m → CodeWeighs (comma_code a b) (1 + (n + m))
comma_weighs a b n m ha hb = let ea = ha.effect in record {
  word = let w = behind_weighs a.effect b.word n m ha.effect hb.word in omega (arith, w);
  branch = λ sense hit miss. let e = hb.branch sense hit miss in let l = weight_of a.effect (b.branch sense hit miss) in omega (arith, e, l, ea);
  effect = let e = hb.effect in let l = weight_of a.effect b.effect in omega (arith, e, l, ea);
  into = λ p. let e = hb.into p in let l = weight_of a.effect (b.into p) in omega (arith, e, l, ea);
  point = let e = hb.point in let l = weight_of a.effect b.point in omega (arith, e, l, ea);
}

stored_weighs : (w : Word) (m : AccOperand) (n : ℕ) → WordWeighs w n → WordWeighs (stored w m) (n + operand_weight m)
stored_weighs w m n h = let l = loaded_weighs w n h in let e = weight_of (loaded w) (sacl m ▸ end) in omega (arith, l, e)

pub assign_name_weighs : (m : AccOperand) (e : Code) (n : ℕ) → operand_weight m ≤ 5 → CodeWeighs e n → CodeWeighs (assign_name_code m e) (19 + n)
assign_name_weighs m e n light h =
    let w = stored_weighs e.word m n h.word in
    let i = h.into m in
    with_effect (of_word (stored e.word m)) (19 + n) (e.into m) (of_word_weighs (stored e.word m) (19 + n) (omega (arith, w, light))) (omega (arith, i, light))

-- 14 to store through a temporary
pub assign_at_weighs : (s : Shape) (p e : Part_code) (t n m : ℕ) → CodeWeighs (p t) n → CodeWeighs (e t) m → CodeWeighs (e (suc t)) m → CodeWeighs (assign_at_code s p e t) (19 + (n + m))
assign_at_weighs s p e t n m hp he hd = by s
  where
    at_once : WordWeighs (assign_at_once (p t) (e t)) (19 + (n + m))
    at_once = let w = behind_weighs (p t).point (stored (e t).word operand.Pointed) (n + 3) (m + 2) hp.point (stored_weighs (e t).word operand.Pointed m he.word) in omega (arith, w)

    later : WordWeighs (assign_through p e t) (19 + (n + m))
    later =
        let l = loaded_weighs (e (suc t)).word m hd.word in
        let i = hp.into (temporary t) in
        let a = weight_of ((p t).into (temporary t)) (loaded (e (suc t)).word ⧺ through (temporary t)) in
        let b = weight_of (loaded (e (suc t)).word) (through (temporary t)) in
        omega (arith, l, i, a, b)

    by : (s : Shape) → CodeWeighs (assign_at_code s p e t) (19 + (n + m))
    by (shape.Constant k) = of_word_weighs (assign_at_once (p t) (e t)) _ at_once
    by (shape.Named q) = of_word_weighs (assign_at_once (p t) (e t)) _ at_once
    by shape.Computed = of_word_weighs (assign_through p e t) _ later

-- an operation on the word of a place, which is its left operand
updated_weighs : (o : Operation) (s : Shape) (m : AccOperand) (e : Part_code) (t n : ℕ) → WordWeighs (e t).word n → WordWeighs (e (suc t)).word n → ShapeWeighs s n → WordWeighs (updated o s m e t) (24 + (operand_weight m + n))
updated_weighs o s m e t n he hd says =
    (binary_weighs o shape.Computed s (λ k. of_word (held end m)) e t (operand_weight m) n (record {
      left = omega arith;
      kept = omega arith;
      right = he;
      deeper = hd;
      says = says;
    })).word

pub update_name_weighs : (o : Operation) (s : Shape) (m : AccOperand) (e : Part_code) (t n : ℕ) → operand_weight m ≤ 5 → WordWeighs (e t).word n → WordWeighs (e (suc t)).word n → ShapeWeighs s n → CodeWeighs (update_name_code o s m e t) (48 + n)
update_name_weighs o s m e t n light he hd says =
    let w = stored_weighs (updated o s m e t) m (24 + (operand_weight m + n)) (updated_weighs o s m e t n he hd says) in of_word_weighs (stored (updated o s m e t) m) (48 + n) (omega (arith, w, light))

pub update_at_weighs : (o : Operation) (s : Shape) (p e : Part_code) (t n m : ℕ) → CodeWeighs (p t) n → WordWeighs (e t).word m → WordWeighs (e (suc t)).word m → WordWeighs (e (suc (suc t))).word m → ShapeWeighs s m
    → CodeWeighs (update_at_code o s p e t) (48 + (n + m))
update_at_weighs o s p e t n m hp he hd hdd says = by s says
  where
    at_once : (s : Shape) → ShapeWeighs s m → WordWeighs (update_at_once o s p e t) (48 + (n + m))
    at_once s says =
        let w = behind_weighs (p t).point (stored (updated o s operand.Pointed e t) operand.Pointed) (n + 3) (24 + (2 + m) + 2) hp.point (stored_weighs (updated o s operand.Pointed e t) operand.Pointed (24 + (2 + m)) (updated_weighs o s operand.Pointed e t m he hd says)) in
        omega (arith, w)

    later : WordWeighs (update_through o shape.Computed p e t) (48 + (n + m))
    later =
        let l = loaded_weighs (p t).word n hp.word in
        let u = loaded_weighs (updated o shape.Computed operand.Pointed e (suc t)) (24 + (2 + m)) (updated_weighs o shape.Computed operand.Pointed e (suc t) m hd hdd tt) in
        let a = weight_of (loaded (p t).word) (sacl (temporary t) ▸ form.point ▸ loaded (updated o shape.Computed operand.Pointed e (suc t)) ⧺ through (temporary t)) in
        let b = weight_of (loaded (updated o shape.Computed operand.Pointed e (suc t))) (through (temporary t)) in
        omega (arith, l, u, a, b)

    by : (s : Shape) → ShapeWeighs s m → CodeWeighs (update_at_code o s p e t) (48 + (n + m))
    by (shape.Constant k) says = of_word_weighs (update_at_once o (shape.Constant k) p e t) _ (at_once (shape.Constant k) says)
    by (shape.Named q) says = of_word_weighs (update_at_once o (shape.Named q) p e t) _ (at_once (shape.Named q) says)
    by shape.Computed says = of_word_weighs (update_through o shape.Computed p e t) _ later

-- steps of a place, to which some items may point before
step_by : (up : Bool) (m : AccOperand) → items_weight (stepped up m) ≡ operand_weight m + operand_weight m + 2
step_by true m = omega arith
step_by false m = omega arith

undone_by : (up : Bool) (m : AccOperand) → items_weight (stepped up m ⧺ undo_row up ▸ end) ≡ operand_weight m + operand_weight m + 4
undone_by true m = omega arith
undone_by false m = omega arith

pub step_before_weighs : (up : Bool) (xs : ItemList) (m : AccOperand) (n : ℕ) → items_weight xs + (operand_weight m + operand_weight m + 4) ≤ n → CodeWeighs (step_before_code up xs m) n
step_before_weighs up xs m n h = let e = weight_of xs (stepped up m) in let k = step_by up m in of_word_weighs (in_accumulator (xs ⧺ stepped up m) Any) n (omega (arith, h, e, k))

pub step_after_weighs : (up : Bool) (xs : ItemList) (m : AccOperand) (n : ℕ) → items_weight xs + (operand_weight m + operand_weight m + 4) ≤ n → CodeWeighs (step_after_code up xs m) n
step_after_weighs up xs m n h =
    let e = weight_of xs (stepped up m ⧺ undo_row up ▸ end) in
    let d = weight_of xs (stepped up m) in
    let k = undone_by up m in
    let j = step_by up m in
    with_effect _ n (xs ⧺ stepped up m) (of_word_weighs (in_accumulator (xs ⧺ stepped up m ⧺ undo_row up ▸ end) Any) n (omega (arith, h, e, k))) (omega (arith, h, d, j))

pub step_name_after_weighs : (up : Bool) (m : AccOperand) → operand_weight m ≤ 5 → CodeWeighs (step_name_after_code up m) 14
step_name_after_weighs up m light =
    let h = step_after_weighs up end m 14 (omega (arith, light)) in
    record { word = h.word; branch = h.branch; effect = h.effect; into = h.into; point = pointed_first up }
  where
    pointed_first : (up : Bool) → Weighs (lac m ▸ form.point ▸ step_row up ▸ sacl m ▸ end) 17
    pointed_first true = omega (arith, light)
    pointed_first false = omega (arith, light)

-- ports
pub in_weighs : (port : ℕ) → CodeWeighs (in_code port) 4
in_weighs port =
    let h = of_word_weighs (held (Op (row.In port) (scratch 0) ▸ end) (scratch 0)) 4 (omega arith) in
    record { word = h.word; branch = h.branch; effect = omega arith; into = λ m. omega arith; point = h.point }

out_more : (port : ℕ) (f : Found) → Weighs (out_items port f) (found_weight f + 4)
out_more port (Fixed k) = let s = store_weighs (scratch 0) (Fixed k) in let e = weight_of (store (scratch 0) (Fixed k)) (Op (row.Out port) (scratch 0) ▸ end) in omega (arith, s, e)
out_more port (Held m) = omega arith
out_more port (Loaded h) = let s = store_weighs (scratch 0) (Loaded h) in let e = weight_of (store (scratch 0) (Loaded h)) (Op (row.Out port) (scratch 0) ▸ end) in omega (arith, s, e)

pub out_weighs : (port : ℕ) (e : Code) (n : ℕ) → CodeWeighs e n → CodeWeighs (out_code port e) (4 + n)
out_weighs port e n h =
    let w = h.word in
    let o = out_more port e.word.found in
    let l = weight_of e.word.items (out_items port e.word.found) in
    of_word_weighs (in_accumulator (e.word.items ⧺ out_items port e.word.found) Any) (4 + n) (omega (arith, w, o, l))

-- arguments, and the parameters to which those go that waited
pub argument_weighs : (f i t : ℕ) (last : Bool) (e : Code) (rest : ItemList) (n m : ℕ) → CodeWeighs e n → Weighs rest m → Weighs (argument_items f i t last e rest) (5 + (n + m))
argument_weighs f i t true e rest n m h hr = let k = h.into (operand.Param f i) in omega (arith, k)
argument_weighs f i t false e rest n m h hr = let k = h.into (temporary t) in let l = weight_of (e.into (temporary t)) rest in omega (arith, k, l, hr)

pub last_argument_weighs : (f i t : ℕ) (e : Code) (rest : ItemList) (n : ℕ) → CodeWeighs e n → Weighs (argument_items f i t true e rest) (2 + n)
last_argument_weighs f i t e rest n h = let k = h.into (operand.Param f i) in omega (arith, k)

pub parameters_weigh : (f i t n : ℕ) → items_weight (parameter_items f i t n) ≡ 7 * n
parameters_weigh f i t zero = refl
parameters_weigh f i t (suc n) = let h = parameters_weigh f (suc i) (suc t) n in omega (arith, h)

pub call_weighs : (f : ℕ) (arguments parameters : ItemList) (n : ℕ) → items_weight arguments + items_weight parameters ≤ n → CodeWeighs (call_code f arguments parameters) (2 + n)
call_weighs f arguments parameters n h =
    let a = weight_of arguments (parameters ⧺ Call f ▸ end) in
    let b = weight_of parameters (Call f ▸ end) in
    of_word_weighs (in_accumulator (arguments ⧺ parameters ⧺ Call f ▸ end) Any) (2 + n) (omega (arith, h, a, b))
