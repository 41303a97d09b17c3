-- The accesses of the code of choices, stores, steps, ports and calls, from those of the code of their parts.
use Rattle.std.proofs.Common.{◌≡◌, refl, ap, ◌∙◌, sym, ℕ, suc, Bool, true, false}
use Rattle.acc_code.specs.AccSequence.{Rest, access, cut, operand_accesses, accesses}
use Rattle.acc_code.specs.AccTree.{Op, Call, ItemList, end, ◌▸◌, ◌⧺◌}
use Rattle.acc_code.specs.declared.operand.AccOperand.{AccOperand}
use Rattle.acc_code.specs.declared.operand.AccOperand.TheVariants as operand
use Rattle.acc_code.specs.declared.operation.AccOp.TheVariants as row
use Rattle.acc_select.specs.acc_operations.Words.{Word, in_accumulator, held, scratch, high, loaded, store, sacl, lac, extend}
use Rattle.acc_select.specs.acc_operations.declared.constant.Shape.{Shape}
use Rattle.acc_select.specs.acc_operations.declared.constant.Shape.TheVariants as shape
use Rattle.acc_select.specs.acc_operations.declared.found.Found.{Found}
use Rattle.acc_select.specs.acc_operations.declared.found.Found.TheVariants.{Fixed, Held, Loaded}
use Rattle.acc_select.specs.acc_operations.declared.high_half.HighHalf.TheVariants.{Any, Sign}
use Rattle.acc_select.specs.acc_operations.declared.operation.Operation.{Operation}
use Rattle.acc_select.specs.Conditions.{Runs, Branch}
use Rattle.acc_select.specs.Forms as form
use Rattle.acc_select.specs.Forms.{Code, Part_code, of_word, temporary, signed_items, pick_code, comma_code, stored, assign_name_code, through, assign_at_once, assign_through, assign_at_code, updated, update_name_code, update_at_once, update_through, update_at_code, step_row, undo_row, stepped, step_before_code, step_after_code, step_name_after_code, in_code, out_items, out_code, argument_items, call_code}
use Rattle.acc_select_proof.specs.Listed.{Marks, Listed, of_value, cut_where, of_operands, assigned_through, updated_through, waits}
use Rattle.acc_select_proof.proofs.Marking.{Has, in_turn, nothing, accesses_of, found_accesses, store_has, extend_has, WordHas, loaded_has}
use Rattle.acc_select_proof.proofs.AccessBranching.{parts, BranchHas}
use Rattle.acc_select_proof.proofs.AccessForming.{CodeHas, of_word_has, with_effect, behind_has, ShapeSays, is_simple_shape, is_constant_shape, ends, binary_has}

signed_has : (w : Word) (f : Marks) → WordHas w f → Has (signed_items w) f
signed_has w f h = in_turn (loaded w) (extend (high w.found)) f nothing (loaded_has w f h) (extend_has (high w.found))

-- one of two parts, each between cuts
abbrev picked : Marks → Marks → Marks → Marks
picked c a b κ = c (cut (a (cut (b (cut κ)))))

choice_has : (c : Branch) (xs ys : ItemList) (fc f g : Marks) → BranchHas c fc → Has xs f → Has ys g → Has (c true (Runs xs) (Runs ys)) (picked fc f g)
choice_has c xs ys fc f g hc hx hy κ = hc true (Runs xs) (Runs ys) κ ∙ ap (λ r. fc (cut r)) (hx _ ∙ ap (λ r. f (cut r)) (hy (cut κ)))

pub pick_has : (c a b : Code) (lc la lb : Listed) → CodeHas c lc → CodeHas a la → CodeHas b lb → CodeHas (pick_code c a b) (of_value (picked lc.condition la.value lb.value))
pick_has c a b lc la lb hc ha hb =
    let made = of_word_has (in_accumulator (c.branch true (Runs (signed_items a.word)) (Runs (signed_items b.word))) Sign) (picked lc.condition la.value lb.value)
    (choice_has c.branch (signed_items a.word) (signed_items b.word) lc.condition la.value lb.value hc.branch (signed_has a.word la.value ha.word) (signed_has b.word lb.value hb.word)) in
    with_effect _ _ (c.branch true (Runs a.effect) (Runs b.effect)) made (choice_has c.branch a.effect b.effect lc.condition la.value lb.value hc.branch ha.effect hb.effect)

pub comma_has : (a b : Code) (la lb : Listed) → CodeHas a la → CodeHas b lb → ((κ : Rest) → lb.condition κ ≡ lb.value (cut κ)) → CodeHas (comma_code a b) (of_value (λ κ. la.value (lb.value κ)))
comma_has a b la lb ha hb conditional = record {
  word = behind_has a.effect b.word la.value lb.value ha.effect hb.word;
  branch = λ sense hit miss κ. accesses_of a.effect (b.branch sense hit miss) κ ∙ ha.effect _ ∙ ap la.value (hb.branch sense hit miss κ ∙ conditional (parts hit miss κ));
  effect = in_turn a.effect b.effect la.value lb.value ha.effect hb.effect;
  into = λ m. in_turn a.effect (b.into m) la.value (λ κ. lb.value (operand_accesses m κ)) ha.effect (hb.into m);
  point = in_turn a.effect b.point la.value lb.value ha.effect hb.point;
}

-- a word stored to a place
stored_has : (w : Word) (m : AccOperand) (f : Marks) → WordHas w f → WordHas (stored w m) (λ κ. f (operand_accesses m κ))
stored_has w m f h = in_turn (loaded w) (sacl m ▸ end) f (operand_accesses m) (loaded_has w f h) (λ κ. refl)

pub assign_name_has : (m : AccOperand) (e : Code) (l : Listed) → CodeHas e l → CodeHas (assign_name_code m e) (of_value (λ κ. l.value (operand_accesses m κ)))
assign_name_has m e l h = with_effect (of_word (stored e.word m)) _ (e.into m) (of_word_has (stored e.word m) (λ κ. l.value (operand_accesses m κ)) (stored_has e.word m l.value h.word)) (h.into m)

through_has : (t : ℕ) → Has (through (temporary t)) (access t)
through_has t κ = refl

pub assign_at_has : (s : Shape) (p e : Part_code) (t : ℕ) (lp le ld : Listed) → CodeHas (p t) lp → CodeHas (e t) le → CodeHas (e (suc t)) ld
    → CodeHas (assign_at_code s p e t) (of_value (assigned_through (is_simple_shape s) t lp.value le.value ld.value))
assign_at_has s p e t lp le ld hp he hd = by s
  where
    at_once : WordHas (assign_at_once (p t) (e t)) (λ κ. lp.value (le.value κ))
    at_once = behind_has (p t).point (stored (e t).word operand.Pointed) lp.value le.value hp.point (stored_has (e t).word operand.Pointed le.value he.word)

    later : WordHas (assign_through p e t) (λ κ. lp.value (access t (ld.value (access t κ))))
    later = in_turn ((p t).into (temporary t)) (loaded (e (suc t)).word ⧺ through (temporary t)) (λ κ. lp.value (access t κ)) (λ κ. ld.value (access t κ)) (hp.into (temporary t))
        (in_turn (loaded (e (suc t)).word) (through (temporary t)) ld.value (access t) (loaded_has (e (suc t)).word ld.value hd.word) (through_has t))

    by : (s : Shape) → CodeHas (assign_at_code s p e t) (of_value (assigned_through (is_simple_shape s) t lp.value le.value ld.value))
    by (shape.Constant k) = of_word_has (assign_at_once (p t) (e t)) _ at_once
    by (shape.Named m) = of_word_has (assign_at_once (p t) (e t)) _ at_once
    by shape.Computed = of_word_has (assign_through p e t) _ later

-- an operation on the word of a place, which is its left operand
updated_has : (o : Operation) (s : Shape) (m : AccOperand) (e : Part_code) (t : ℕ) (ve vd : Marks) → WordHas (e t).word ve → WordHas (e (suc t)).word vd → ShapeSays s ve
    → WordHas (updated o s m e t) (λ κ. of_operands (is_simple_shape s) false t (operand_accesses m) ve vd (cut_where (ends o (is_constant_shape s)) κ))
updated_has o s m e t ve vd he hd says =
    (binary_has o shape.Computed s (λ n. of_word (held end m)) e t (operand_accesses m) ve vd (record {
      left = λ κ. refl;
      kept = λ κ. refl;
      right = he;
      deeper = hd;
      says = says;
    })).word

pub update_name_has : (o : Operation) (s : Shape) (m : AccOperand) (e : Part_code) (t : ℕ) (ve vd : Marks) → WordHas (e t).word ve → WordHas (e (suc t)).word vd → ShapeSays s ve
    → CodeHas (update_name_code o s m e t) (of_value (λ κ. of_operands (is_simple_shape s) false t (operand_accesses m) ve vd (cut_where (ends o (is_constant_shape s)) (operand_accesses m κ))))
update_name_has o s m e t ve vd he hd says = of_word_has (stored (updated o s m e t) m) _ (stored_has (updated o s m e t) m _ (updated_has o s m e t ve vd he hd says))

-- a word that is pointed to makes no access
pointed_has : (o : Operation) (s : Shape) (e : Part_code) (t : ℕ) (ve vd : Marks) → WordHas (e t).word ve → WordHas (e (suc t)).word vd → ShapeSays s ve
    → WordHas (updated o s operand.Pointed e t) (λ κ. of_operands (is_simple_shape s) false t nothing ve vd (cut_where (ends o (is_constant_shape s)) κ))
pointed_has o s e t ve vd he hd says = updated_has o s operand.Pointed e t ve vd he hd says

pub update_at_has : (o : Operation) (s : Shape) (p e : Part_code) (t : ℕ) (lp : Listed) (ve vd vdd : Marks) → CodeHas (p t) lp → WordHas (e t).word ve → WordHas (e (suc t)).word vd → WordHas (e (suc (suc t))).word vdd → ShapeSays s ve → ShapeSays s vd
    → CodeHas (update_at_code o s p e t) (of_value (updated_through (is_simple_shape s) (ends o (is_constant_shape s)) t lp.value ve vdd))
update_at_has o s p e t lp ve vd vdd hp he hd hdd says says_deeper = by s says says_deeper
  where
    at_once : (s : Shape) → ShapeSays s ve → WordHas (update_at_once o s p e t) (λ κ. lp.value (of_operands (is_simple_shape s) false t nothing ve vd (cut_where (ends o (is_constant_shape s)) κ)))
    at_once s says = behind_has (p t).point (stored (updated o s operand.Pointed e t) operand.Pointed) lp.value (λ κ. of_operands (is_simple_shape s) false t nothing ve vd (cut_where (ends o (is_constant_shape s)) κ)) hp.point
        (stored_has (updated o s operand.Pointed e t) operand.Pointed _ (pointed_has o s e t ve vd he hd says))

    later : WordHas (update_through o shape.Computed p e t) (λ κ. lp.value (access t (access (suc t) (vdd (access (suc t) (cut_where (ends o false) (access t κ)))))))
    later = in_turn (loaded (p t).word) (sacl (temporary t) ▸ form.point ▸ loaded (updated o shape.Computed operand.Pointed e (suc t)) ⧺ through (temporary t)) lp.value (λ κ. access t (access (suc t) (vdd (access (suc t) (cut_where (ends o false) (access t κ))))))
        (loaded_has (p t).word lp.value hp.word)
        (λ κ. ap (access t) (in_turn (loaded (updated o shape.Computed operand.Pointed e (suc t))) (through (temporary t)) (λ κ. access (suc t) (vdd (access (suc t) (cut_where (ends o false) κ)))) (access t)
        (loaded_has (updated o shape.Computed operand.Pointed e (suc t)) _ (pointed_has o shape.Computed e (suc t) vd vdd hd hdd tt)) (through_has t) κ))

    by : (s : Shape) → ShapeSays s ve → ShapeSays s vd → CodeHas (update_at_code o s p e t) (of_value (updated_through (is_simple_shape s) (ends o (is_constant_shape s)) t lp.value ve vdd))
    by (shape.Constant k) says deeper = of_word_has (update_at_once o (shape.Constant k) p e t) _ (at_once (shape.Constant k) says)
    by (shape.Named m) says deeper = of_word_has (update_at_once o (shape.Named m) p e t) _ (at_once (shape.Named m) says)
    by shape.Computed says deeper = of_word_has (update_through o shape.Computed p e t) _ later

-- steps of a place, to which some items may point before
step_accesses : (up : Bool) (m : AccOperand) → Has (stepped up m) (λ κ. operand_accesses m (operand_accesses m κ))
step_accesses true m κ = refl
step_accesses false m κ = refl

undone_accesses : (up : Bool) (m : AccOperand) → Has (stepped up m ⧺ undo_row up ▸ end) (λ κ. operand_accesses m (operand_accesses m κ))
undone_accesses true m κ = refl
undone_accesses false m κ = refl

pub step_before_has : (up : Bool) (xs : ItemList) (m : AccOperand) (f : Marks) → Has xs f → CodeHas (step_before_code up xs m) (of_value (λ κ. f (operand_accesses m (operand_accesses m κ))))
step_before_has up xs m f h = of_word_has (in_accumulator (xs ⧺ stepped up m) Any) _ (in_turn xs (stepped up m) f _ h (step_accesses up m))

pub step_after_has : (up : Bool) (xs : ItemList) (m : AccOperand) (f : Marks) → Has xs f → CodeHas (step_after_code up xs m) (of_value (λ κ. f (operand_accesses m (operand_accesses m κ))))
step_after_has up xs m f h =
    with_effect _ _ (xs ⧺ stepped up m) (of_word_has (in_accumulator (xs ⧺ stepped up m ⧺ undo_row up ▸ end) Any) (λ κ. f (operand_accesses m (operand_accesses m κ))) (in_turn xs (stepped up m ⧺ undo_row up ▸ end) f _ h (undone_accesses up m)))
    (in_turn xs (stepped up m) f _ h (step_accesses up m))

pub step_name_after_has : (up : Bool) (m : AccOperand) → CodeHas (step_name_after_code up m) (of_value (λ κ. operand_accesses m (operand_accesses m κ)))
step_name_after_has up m =
    let h = step_after_has up end m nothing (λ κ. refl) in
    record { word = h.word; branch = h.branch; effect = h.effect; into = h.into; point = pointed_first up }
  where
    pointed_first : (up : Bool) → Has (lac m ▸ form.point ▸ step_row up ▸ sacl m ▸ end) (λ κ. operand_accesses m (operand_accesses m κ))
    pointed_first true κ = refl
    pointed_first false κ = refl

-- ports
pub in_has : (port : ℕ) → CodeHas (in_code port) (of_value nothing)
in_has port =
    let h = of_word_has (held (Op (row.In port) (scratch 0) ▸ end) (scratch 0)) nothing (λ κ. refl) in
    record { word = h.word; branch = h.branch; effect = λ κ. refl; into = λ m κ. refl; point = h.point }

out_accesses : (port : ℕ) (f : Found) → Has (out_items port f) (found_accesses f)
out_accesses port (Fixed k) = in_turn (store (scratch 0) (Fixed k)) (Op (row.Out port) (scratch 0) ▸ end) nothing nothing (store_has (scratch 0) (Fixed k)) (λ κ. refl)
out_accesses port (Held m) = λ κ. refl
out_accesses port (Loaded h) = in_turn (store (scratch 0) (Loaded h)) (Op (row.Out port) (scratch 0) ▸ end) nothing nothing (store_has (scratch 0) (Loaded h)) (λ κ. refl)

pub out_has : (port : ℕ) (e : Code) (l : Listed) → CodeHas e l → CodeHas (out_code port e) (of_value l.value)
out_has port e l h =
    of_word_has (in_accumulator (e.word.items ⧺ out_items port e.word.found) Any) l.value
    (λ κ. accesses_of e.word.items (out_items port e.word.found) κ ∙ ap (accesses e.word.items) (out_accesses port e.word.found κ) ∙ h.word κ)

-- arguments: the last one doesn't wait
pub argument_has : (f i t : ℕ) (last : Bool) (e : Code) (rest : ItemList) (l : Listed) (g : Marks) → CodeHas e l → Has rest g → (last ≡ true → (κ : Rest) → g κ ≡ κ)
    → Has (argument_items f i t last e rest) (λ κ. l.value (waits last t (g κ)))
argument_has f i t true e rest l g h hr alone κ = h.into (operand.Param f i) κ ∙ ap l.value (sym (alone refl κ))
argument_has f i t false e rest l g h hr alone κ = in_turn (e.into (temporary t)) rest (λ κ. l.value (access t κ)) g (h.into (temporary t)) hr κ

pub call_has : (f : ℕ) (arguments parameters : ItemList) (g h : Marks) → Has arguments g → Has parameters h → CodeHas (call_code f arguments parameters) (of_value (λ κ. g (h (cut κ))))
call_has f arguments parameters g h hg hh =
    of_word_has (in_accumulator (arguments ⧺ parameters ⧺ Call f ▸ end) Any) _
    (in_turn arguments (parameters ⧺ Call f ▸ end) g (λ κ. h (cut κ)) hg (in_turn parameters (Call f ▸ end) h cut hh (λ κ. refl)))
