-- A local array gets its list, cell by cell, and zeros behind it.
use Rattle.std.proofs.Common.{◌≡◌, ℕ, zero, suc, ◌+◌, ◌-◌, ◌*◌, ◌^◌, ◌<◌, List, [], ◌∷◌, ◌++◌, length, Option, Some, None, refl, sym, ap, ◌∙◌, subst, arith}
use Rattle.std.specs.Prelude.{map, replicate, slice_get}
use Rattle.std.specs.List.{AllByRecursion}
use Rattle.word_base.specs.Ports.{Prefix}
use Rattle.c_tree.specs.TypedTree.{ObjectTree}
use Rattle.c_tree.specs.declared.program.Initial.{Initial}
use Rattle.c_tree.specs.declared.program.Initial.TheVariants as initial
use Rattle.c_tree.specs.declared.program.VarRef.TheVariants.{Local}
use Rattle.acc_code.specs.declared.operand.AccOperand.TheVariants as operand
use Rattle.acc_code.specs.AccTree.{ItemList, end, ◌▸◌}
use Rattle.acc_select.specs.acc_operations.Constants.{load_constant, constant_high, initial_constant}
use Rattle.acc_select.specs.acc_operations.Words.{sacl}
use Rattle.acc_select.specs.acc_operations.declared.constant.Constant.TheVariants.{Address}
use Rattle.acc_select.specs.acc_operations.declared.constant.Constant.{Constant}
use Rattle.acc_select.specs.Forms.{point}
use Rattle.acc_select.specs.Selected.{cell_items, fill_items}
use Rattle.c25_isa.specs.Step.{wrap16}
use Rattle.ir_semantics.specs.Parts.{Res, Does, after, ◌>>=◌, give, Flow, Next, in_order}
use Rattle.ir_semantics.specs.Outside.{Cell, Nowhere, Unwritten, Holds, Outside, Places, cell_address, initial_word}
use Rattle.ir_semantics.specs.TreeRun as tree
use Rattle.ir_semantics.specs.TreeRun.{Tree, write_words, fill_does}
use Rattle.ir_semantics.specs.AccRows.{Gone, low_half, low_stored, points_at}
use Rattle.ir_semantics.specs.AccRun as acc
use Rattle.ir_semantics.specs.AccRun.{Machine, without_scratch, registers_become, store, cell_at, cells_of, clear, clear_cells, cleared, forgetting, run}
use Rattle.acc_select_proof.specs.FitStatements.{IsFitInitial, IsFitObject}
use Rattle.acc_select_proof.proofs.Straights.{ConstantIs}
use Rattle.acc_select_proof.proofs.Rules.{Ground, Rel, Keeps, rel_after, last_item, in_order_grows, run_grows, clear_cells_grow, cleared_grows, prefix_refl}
use Rattle.acc_select_proof.proofs.Sides.{Side, on, straight, went, spared, paid, wrote_memory, some_is}
use Rattle.acc_select_proof.proofs.Words.{has_low}
use Rattle.acc_select_proof.proofs.Loading.{LoadedFrom, constant_loaded}
use Rattle.acc_select_proof.proofs.Valuing.{after_after, fails, rel_forget}
use Rattle.acc_select_proof.proofs.Flows.{FlowPost, without_word, flow_stable, Onward, by_onward}

-- the length of an object that is there
cells_are : (locals : List ObjectTree) (k : ℕ) (o : ObjectTree) → slice_get locals k ≡ Some o → cells_of locals (Local k) ≡ Some o.length
cells_are [] k o is = absurd cc
cells_are (x ∷ locals) zero o is = ap (λ (y : ObjectTree). Some y.length) (some_is is)
cells_are (x ∷ locals) (suc k) o is = cells_are locals k o is

module _ (n : Ground) (base : ℕ) where
  -- a word goes to memory
  cell_rel : (c : Cell) (a x s : ℕ) (w : Tree) (v : Machine) → x < 65536 → Side base [] s w v → Rel (Onward base s) (tree.write_cell c a x w) (acc.write_cell c a x v)
  cell_rel Nowhere a x s w v few h = subst (λ (o : Outside). Prefix o.outs v.outside.outs) h.outside (prefix_refl v.outside.outs)
  cell_rel Unwritten a x s w v few h = wrote_memory base [] s a x w v h few
  cell_rel (Holds y) a x s w v few h = wrote_memory base [] s a x w v h few

  write_rel : (a x s : ℕ) (w : Tree) (v : Machine) → x < 65536 → Side base [] s w v → Rel (Onward base s) (tree.write_word a x w) (acc.write_word (Some a) x v)
  write_rel a x s w v few h = subst (λ (o : Outside). Rel (Onward base s) (tree.write_word a x w) (acc.write_cell (o.memory a) a x v)) (sym h.outside) (cell_rel (w.outside.memory a) a x s w v few h)

  -- zeros
  zeros_rel : (a i count s : ℕ) (w : Tree) (v : Machine) → Side base [] s w v → Rel (Onward base s) (write_words a i (replicate count 0) w) (clear_cells a i count v)
  zeros_rel a i zero s w v h = h
  zeros_rel a i (suc count) s w v h =
      rel_after (Onward base s) (Onward base s) (tree.write_word (cell_address a i) 0 w) (acc.write_word (Some (cell_address a i)) 0 v) (λ _. write_words a (suc i) (replicate count 0)) (λ _. clear_cells a (suc i) count)
      (write_rel (cell_address a i) 0 s w v (omega arith) h) (λ flow. clear_cells_grow a (suc i) count) (by_onward base s (Onward base s) (λ _. write_words a (suc i) (replicate count 0)) (λ _. clear_cells a (suc i) count) (λ _. zeros_rel a (suc i) count s))

  -- the last item clears the rest of the object
  clear_by : (size a : Option ℕ) (i l b count s : ℕ) (w : Tree) (v : Machine) → size ≡ Some l → a ≡ Some b → l - i ≡ count → Side base [] (9 + 64 * l + s) w v
      → Rel (FlowPost base s) (after (write_words b i (replicate count 0) w) (λ _. give Next)) (clear size a i v)
  clear_by size a i l b count s w v size_is a_is rest h =
      let u : Machine = without_scratch (record v { work = v.work + (9 + 64 * l) }) in
      let t : Res Tree Flow = after (write_words b i (replicate count 0) w) (λ _. give Next) in
      subst (λ z. Rel (FlowPost base s) t (clear z a i v)) (sym size_is) (subst (λ z. Rel (FlowPost base s) t (clear (Some l) z i v)) (sym a_is)
      (subst (λ z. Rel (FlowPost base s) t (after (after (clear_cells b i z u) cleared) forgetting)) (sym rest)
      (rel_forget (FlowPost base s) t (after (clear_cells b i count u) cleared) (flow_stable base s)
      (rel_after (Onward base s) (FlowPost base s) (write_words b i (replicate count 0) w) (clear_cells b i count u) (λ _. give Next) cleared
      (zeros_rel b i count s w u (went base [] (9 + 64 * l + s) s (9 + 64 * l) w v u h refl refl h.sxm (omega arith) (omega arith))) cleared_grows
      (by_onward base s (FlowPost base s) (λ _. give Next) cleared (λ _ w v p. without_word base s Next w (record v { registers = record v.registers { acc = Gone; pointed = None } }) (λ e. absurd cc)
      (went base [] s s 0 w v (record v { registers = record v.registers { acc = Gone; pointed = None } }) p refl refl p.sxm (omega arith) (omega arith))))))))

  -- in a function whose objects lie so
  module _ (q : Places) where
    constant_is : (x : Initial) → IsFitInitial n.context.at q x → ConstantIs n.context.at (initial_constant x) (initial_word q x)
    constant_is (initial.Word x) fits = refl
    constant_is (initial.Address object index) fits = ap (λ b. cell_at b index) fits
    constant_is initial.Null fits = refl

    is_word : (x : Initial) → IsFitInitial n.context.at q x → initial_word q x < 65536
    is_word (initial.Word x) fits = fits
    is_word (initial.Address object index) fits = omega arith
    is_word initial.Null fits = omega arith

    -- what the low half holds is pointed to, and goes to what is pointed to
    pointed_step : (a s : ℕ) (rest : ItemList) (y : ℕ) (r : Res Tree Flow) (w : Tree) (v : Machine) → low_half v.registers.acc ≡ Some a
        → Side base [] (3 + s) w v → ((u : Machine) → u.registers.pointed ≡ Some a → Side base [] s w u → Rel (FlowPost base y) r (run n.context rest u)) → Rel (FlowPost base y) r (run n.context (point ▸ rest) v)
    pointed_step a s rest y r w v low h next =
        let u : Machine = record v { registers = record v.registers { pointed = Some a }; work = v.work + 3 } in
        subst (λ l. Rel (FlowPost base y) r (after (registers_become (points_at l v.registers) (record v { work = v.work + 3 })) (λ flow. in_order flow (run n.context rest)))) (sym low)
        (next u refl (went base [] (3 + s) s 3 w v u h refl refl h.sxm (omega arith) (omega arith)))

    stored_step : (a x s : ℕ) (rest : ItemList) (y : ℕ) (t : Does Tree Flow) (w : Tree) (v : Machine) → x < 65536 → low_half v.registers.acc ≡ Some x → v.registers.pointed ≡ Some a → Side base [] (2 + s) w v
        → ((w : Tree) (v : Machine) → Side base [] s w v → Rel (FlowPost base y) (t w) (run n.context rest v)) → Rel (FlowPost base y) (after (tree.write_word a x w) (λ _. t)) (run n.context (sacl operand.Pointed ▸ rest) v)
    stored_step a x s rest y t w v few low is h next =
        let u : Machine = record v { work = v.work + 2 } in
        let goal : Res Tree Flow = after (tree.write_word a x w) (λ _. t) in
        let same_word : wrap16 (x * 2 ^ 0) ≡ x = omega (arith, few) in
        let stored : low_stored (low_half v.registers.acc) 0 ≡ Some x = ap (λ l. low_stored l 0) low ∙ ap Some same_word in
        subst (λ l. Rel (FlowPost base y) goal (after (store n.context.at operand.Pointed l u) (λ flow. in_order flow (run n.context rest)))) (sym stored)
        (subst (λ l. Rel (FlowPost base y) goal (after (acc.write_word l x u) (λ flow. in_order flow (run n.context rest)))) (sym is)
        (rel_after (Onward base s) (FlowPost base y) (tree.write_word a x w) (acc.write_word (Some a) x u) (λ _. t) (λ flow. in_order flow (run n.context rest))
        (write_rel a x s w u few (went base [] (2 + s) s 2 w v u h refl refl h.sxm (omega arith) (omega arith)))
        (λ flow. in_order_grows flow (run n.context rest) (run_grows n rest)) (by_onward base s (FlowPost base y) (λ _. t) (λ flow. in_order flow (run n.context rest)) (λ _. next))))

    constant_step : (c : Constant) (x s : ℕ) (rest : ItemList) (y : ℕ) (r : Res Tree Flow) (w : Tree) (v : Machine) → ConstantIs n.context.at c x → x < 65536 → Side base [] (2 + s) w v
        → ((u : Machine) → low_half u.registers.acc ≡ Some x → u.registers.pointed ≡ v.registers.pointed → Side base [] s w u → Rel (FlowPost base y) r (run n.context rest u))
        → Rel (FlowPost base y) r (run n.context (load_constant c ▸ rest) v)
    constant_step c x s rest y r w v is few h next =
        let loaded = constant_loaded n.context c x v is h.sxm few in
        on n (FlowPost base y) r (load_constant c ▸ end) rest v 2 (LoadedFrom (constant_high c) x v) loaded
        (next loaded.to (has_low (constant_high c) x loaded.to.registers.acc few loaded.then_so.acc) loaded.pointed
        (straight base n [] (2 + s) s 2 w v (load_constant c ▸ end) (LoadedFrom (constant_high c) x v) h loaded (omega arith)))

    -- the items that fill a cell, before others
    cell_step : (k i b x y s : ℕ) (c : Constant) (rest : ItemList) (t : Does Tree Flow) (w : Tree) (v : Machine) → n.context.at (Local k) ≡ Some b → ConstantIs n.context.at c x → x < 65536
        → ((w : Tree) (v : Machine) → Side base [] s w v → Rel (FlowPost base y) (t w) (run n.context rest v)) → Side base [] (9 + s) w v
        → Rel (FlowPost base y) (after (tree.write_word (cell_address b i) x w) (λ _. t)) (run n.context (load_constant (Address (Local k) i) ▸ point ▸ load_constant c ▸ sacl operand.Pointed ▸ rest) v)
    cell_step k i b x y s c rest t w v at_is is few next h =
        let a : ℕ = cell_address b i in
        let goal : Res Tree Flow = after (tree.write_word a x w) (λ _. t) in
        constant_step (Address (Local k) i) a (3 + (2 + (2 + s))) (point ▸ load_constant c ▸ sacl operand.Pointed ▸ rest) y goal w v (ap (λ z. cell_at z i) at_is) (omega arith) (spared base [] (9 + s) (2 + (3 + (2 + (2 + s)))) w v h (omega arith))
        (λ v low same h. pointed_step a (2 + (2 + s)) (load_constant c ▸ sacl operand.Pointed ▸ rest) y goal w v low h
        (λ v is_there h. constant_step c x (2 + s) (sacl operand.Pointed ▸ rest) y goal w v is few h
        (λ v low same h. stored_step a x s rest y t w v few low (same ∙ is_there) h next)))

    cells_rel : (k l b : ℕ) → cells_of n.context.locals (Local k) ≡ Some l → n.context.at (Local k) ≡ Some b → (count : ℕ) (xs : List Initial) → AllByRecursion (IsFitInitial n.context.at q) xs → (i : ℕ) → l - (i + length xs) ≡ count → (s : ℕ) (w : Tree) (v : Machine)
        → Side base [] (9 * length xs + (9 + 64 * l + s)) w v → Rel (FlowPost base s) (after (write_words b i (map (initial_word q) xs ++ replicate count 0) w) (λ _. give Next)) (run n.context (cell_items k i xs) v)
    cells_rel k l b size_is at_is count [] fits i rest s w v h =
        subst (Rel (FlowPost base s) (after (write_words b i (replicate count 0) w) (λ _. give Next))) (last_item (clear (cells_of n.context.locals (Local k)) (n.context.at (Local k)) i v))
        (clear_by (cells_of n.context.locals (Local k)) (n.context.at (Local k)) i l b count s w v size_is at_is (ap (λ j. l - j) (plus_nothing i) ∙ rest) (spared base [] (9 * length {A = Initial} [] + (9 + 64 * l + s)) (9 + 64 * l + s) w v h (omega arith)))
      where
        plus_nothing : (i : ℕ) → i ≡ i + 0
        plus_nothing i = omega arith
    cells_rel k l b size_is at_is count (x ∷ xs) fits i rest s w v h =
        let more = 9 * length xs + (9 + 64 * l + s) in
        let words = write_words b (suc i) (map (initial_word q) xs ++ replicate count 0) in
        subst (λ z. Rel (FlowPost base s) z (run n.context (cell_items k i (x ∷ xs)) v)) (after_after (tree.write_word (cell_address b i) (initial_word q x) w) (λ _. words) (λ _. give Next))
        (cell_step k i b (initial_word q x) s more (initial_constant x) (cell_items k (suc i) xs) (words >>= λ _. give Next) w v at_is (constant_is x fits.0) (is_word x fits.0)
        (cells_rel k l b size_is at_is count xs fits.1 (suc i) (ap (λ j. l - j) (one_on i (length xs)) ∙ rest) s)
        (spared base [] (9 * length (x ∷ xs) + (9 + 64 * l + s)) (9 + more) w v h (omega arith)))
      where
        one_on : (i m : ℕ) → suc i + m ≡ i + suc m
        one_on i m = omega arith

    filled : (k : ℕ) (o : ObjectTree) (a : Option ℕ) → slice_get n.context.locals k ≡ Some o → n.context.at (Local k) ≡ a → AllByRecursion (IsFitInitial n.context.at q) o.initial → (s : ℕ)
        → Keeps n (Side base [] s) (fill_does q (Some o) a) (cell_items k 0 o.initial) (FlowPost base s)
    filled k o None is at_is fits s = record { by = λ w v h. fails n base (FlowPost base s) (cell_items k 0 o.initial) w v h.outside }
    filled k o (Some b) is at_is fits s = record {
      by = λ w v h.
          let much = 9 + (9 * length o.initial + 64 * o.length) in
          let from_first : o.length - (0 + length o.initial) ≡ o.length - length o.initial = omega arith in
          cells_rel k o.length b (cells_are n.context.locals k o is) at_is (o.length - length o.initial) o.initial fits 0 from_first s (record w { work = w.work + much }) v
          (spared base [] (much + s) (9 * length o.initial + (9 + 64 * o.length + s)) (record w { work = w.work + much }) v (paid base [] s much w v h) (omega arith));
    }

    pub fill_keeps : (k : ℕ) (o : Option ObjectTree) → slice_get n.context.locals k ≡ o → IsFitObject n.context.at q o → (s : ℕ) → Keeps n (Side base [] s) (fill_does q o (n.context.at (Local k))) (fill_items k o) (FlowPost base s)
    fill_keeps k None is fits s = record { by = λ w v h. fails n base (FlowPost base s) end w v h.outside }
    fill_keeps k (Some o) is fits s = filled k o (n.context.at (Local k)) is refl fits s
