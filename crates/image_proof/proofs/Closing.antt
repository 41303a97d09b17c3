-- Items that end a block, access nothing else, and leave nothing known behind them.
use Rattle.std.proofs.Common.{◌≡◌, ℕ, suc, ◌+◌, false, List, [], ◌∷◌, ◌++◌, Option, option_to_list, Some, None, refl, ap, sym, ◌∙◌, subst}
use Rattle.std.specs.Prelude.{◌/◌, ◌%◌}
use Rattle.std.specs.List.{AllByRecursion}
use Rattle.std.proofs.lemmas.List.{append-nil, append_assoc}
use Rattle.c25_isa.specs.declared.operand.Change.TheVariants.{Stay, Up}
use Rattle.c25_isa.specs.declared.operand.Operand.TheVariants.{Direct, Indirect as Through}
use Rattle.c25_isa.specs.declared.instruction.JumpOp.{JumpOp}
use Rattle.c25_isa.specs.declared.instruction.JumpOp.TheVariants as jump
use Rattle.c25_isa.specs.declared.instruction.Instr.{Instr}
use Rattle.c25_isa.specs.declared.instruction.Instr.TheVariants as instr
use Rattle.c25_isa.specs.declared.piece.PieceItem.{PieceItem}
use Rattle.c25_isa.specs.declared.piece.PieceItem.TheVariants.{Do, Mark}
use Rattle.c25_isa.specs.Table.{second_word, length_of}
use Rattle.c25_isa.specs.Walk.{Placed, Known, nothing_known, known_behind, ends_stretch, along}
use Rattle.c25_code.specs.Items.{plain_items, entry_code, return_code}
use Rattle.c25_code.specs.ClearingLoops.{clears_at_any}
use Rattle.acc_code.specs.AccSequence.{closed}
use Rattle.acc_code.specs.declared.item.CaseLabel.{CaseLabel}
use Rattle.acc_code.specs.declared.item.CaseLabel.TheVariants.{Value, Default}
use Rattle.image_proof.specs.emit_control.Cuts.{jump_item, call_item, less_by, case_items, default_label, dispatch_items, count_instr, wipe_items}
use Rattle.image_proof.specs.RunWalks.{placed_from}
use Rattle.image_proof.proofs.Folding.{go_on, with_given}
use Rattle.image_proof.proofs.ItemBlocks.{placed_at, items_blocks}
use Rattle.image_proof.proofs.Quiet.{IsQuiet, AreQuiet}
use Rattle.image_proof.proofs.Straight.{AreStraight}
use Rattle.image_proof.proofs.Choices.{less_all, count_holds}

module _ (gives : Known → Placed → Option ℕ) (marks : ℕ → ℕ) (names : List ℕ → ℕ) where
  abbrev pub blocks_at : Known → List ℕ → ℕ → List PieceItem → List (List ℕ)
  blocks_at k block at items = items_blocks gives marks names k block at items

  -- the block ends, and what stands behind is walked anew
  pub record Ends (k : Known) (block : List ℕ) (at : ℕ) (items rest : List PieceItem) : Type 0 where
    pub next : ℕ
    pub is : blocks_at k block at (items ++ rest) ≡ closed block (blocks_at nothing_known [] next rest)

  pub record Closes (items : List PieceItem) : Type 0 where
    pub by : (k : Known) (block : List ℕ) (at : ℕ) (rest : List PieceItem) → Ends k block at items rest

  -- behind a cut there is nothing to end
  record Fresh (items : List PieceItem) : Type 0 where
    by : (at : ℕ) (rest : List PieceItem) → Ends nothing_known [] at items rest

  fresh_none : Fresh []
  fresh_none = record { by = λ at rest. record { next = at; is = refl } }

  fresh : (items : List PieceItem) → Closes items → Fresh items
  fresh items c = record { by = λ at rest. c.by nothing_known [] at rest }

  no_given : (block : List ℕ) (o : Option ℕ) → o ≡ None → with_given block o ≡ block
  no_given block o e = ap (with_given block) e ∙ append-nil block

  quiet_step : (i : Instr) (k : Known) (block : List ℕ) (at : ℕ) (rest : List PieceItem) → gives k (placed_at at i) ≡ None → ends_stretch i ≡ false
      → blocks_at k block at (Do i ∷ rest) ≡ blocks_at (known_behind k i) block (at + length_of (second_word i)) rest
  quiet_step i k block at rest e goes =
      ap (λ b. go_on b (known_behind k i) (with_given block (gives k (placed_at at i))) (λ known more. blocks_at known more (at + length_of (second_word i)) rest)) goes
      ∙ ap (λ more. blocks_at (known_behind k i) more (at + length_of (second_word i)) rest) (no_given block (gives k (placed_at at i)) e)

  -- a quiet instruction behind which control goes on
  record IsStill (i : Instr) : Type 0 where
    quiet : IsQuiet gives i
    goes_on : ends_stretch i ≡ false

  still : (i : Instr) → IsQuiet gives i → ends_stretch i ≡ false → IsStill i
  still i q e = record { quiet = q; goes_on = e }

  behind_still : (i : Instr) (items : List PieceItem) → IsStill i → Closes items → Closes (Do i ∷ items)
  behind_still i items s c = record { by = by }
    where
      by : (k : Known) (block : List ℕ) (at : ℕ) (rest : List PieceItem) → Ends k block at (Do i ∷ items) rest
      by k block at rest =
          let x = c.by (known_behind k i) block (at + length_of (second_word i)) rest in
          record { next = x.next; is = quiet_step i k block at (items ++ rest) (s.quiet.by k at) s.goes_on ∙ x.is }

  behind_code : (code : List Instr) (items : List PieceItem) → AllByRecursion IsStill code → Closes items → Closes (plain_items code ++ items)
  behind_code [] items s c = c
  behind_code (i ∷ code) items s c = behind_still i (plain_items code ++ items) s.0 (behind_code code items s.1 c)

  mark_closes_before : (l : ℕ) (items : List PieceItem) → Fresh items → Closes (Mark l ∷ items)
  mark_closes_before l items f = record { by = λ k block at rest. let x = f.by at rest in record { next = x.next; is = ap (closed block) x.is } }

  module _ (q : AreQuiet gives) where
    jump_before : (op : JumpOp) (l : ℕ) (items : List PieceItem) → Fresh items → Closes (jump_item op l ∷ items)
    jump_before op l items f = record { by = by }
      where
        by : (k : Known) (block : List ℕ) (at : ℕ) (rest : List PieceItem) → Ends k block at (jump_item op l ∷ items) rest
        by k block at rest =
            let x = f.by (at + 2) rest in
            record {
              next = x.next;
              is = ap (λ b. closed b (blocks_at nothing_known [] (at + 2) (items ++ rest))) (no_given block _ ((q.jump op (marks l)).by k at)) ∙ ap (closed block) x.is;
            }

    pub jump_closes : (op : JumpOp) (l : ℕ) → Closes (jump_item op l ∷ [])
    jump_closes op l = jump_before op l [] fresh_none

    pub call_closes : (name : List ℕ) → Closes (call_item name ∷ [])
    call_closes name = record {
      by = λ k block at rest. record {
        next = at + 2;
        is = ap (λ b. closed b (blocks_at nothing_known [] (at + 2) rest)) (no_given block _ ((q.call (names name)).by k at));
      };
    }

    ret_closes : Closes (Do instr.Ret ∷ [])
    ret_closes = record {
      by = λ k block at rest. record {
        next = at + 1;
        is = ap (λ b. closed b (blocks_at nothing_known [] (at + 1) rest)) (no_given block _ (q.return.by k at));
      };
    }

    pub return_closes : (back : Option ℕ) → Closes (plain_items (return_code back))
    return_closes None = ret_closes
    return_closes (Some word) = behind_still _ _ (still _ (q.page (word / 128)) refl) (behind_still _ _ (still _ (q.put (word % 128)) refl) ret_closes)

    pub mark_closes : (l : ℕ) → Closes (Mark l ∷ [])
    mark_closes l = mark_closes_before l [] fresh_none

    pub mark_return_closes : (l : ℕ) (back : Option ℕ) → Closes (Mark l ∷ plain_items (return_code back))
    mark_return_closes l back = mark_closes_before l (plain_items (return_code back)) (fresh (plain_items (return_code back)) (return_closes back))

    -- a jump to the mark behind it, and two jumps
    pub jump_mark_closes : (op : JumpOp) (l : ℕ) → Closes (jump_item op l ∷ Mark l ∷ [])
    jump_mark_closes op l = jump_before op l _ (fresh (Mark l ∷ []) (mark_closes l))

    pub two_jumps_close : (op : JumpOp) (l h : ℕ) → Closes (jump_item op l ∷ jump_item op h ∷ [])
    two_jumps_close op l h = jump_before op l _ (fresh (jump_item op h ∷ []) (jump_closes op h))

    -- choices
    less_still : (before n : ℕ) → AllByRecursion IsStill (less_by before n)
    less_still = less_all IsStill (record {
      less = λ c. still _ (q.less c) refl;
      less_long = λ shift c. still _ (q.less_long shift c) refl;
      more = λ c. still _ (q.more c) refl;
      more_long = λ shift c. still _ (q.more_long shift c) refl;
    })

    cases_close : (cs : List CaseLabel) (l before : ℕ) (tail : List PieceItem) → Closes tail → Closes (case_items cs l before ++ tail)
    cases_close [] l before tail c = c
    cases_close (Value v ∷ cs) l before tail c =
        subst Closes (sym (append_assoc (plain_items (less_by before v)) (jump_item jump.Bz l ∷ case_items cs (suc l) v) tail))
        (behind_code (less_by before v) (jump_item jump.Bz l ∷ (case_items cs (suc l) v ++ tail)) (less_still before v)
        (jump_before jump.Bz l _ (fresh (case_items cs (suc l) v ++ tail) (cases_close cs (suc l) v tail c))))
    cases_close (Default ∷ cs) l before tail c = cases_close cs (suc l) before tail c

    pub dispatch_closes : (cs : List CaseLabel) (l behind : ℕ) → Closes (dispatch_items cs l behind)
    dispatch_closes cs l behind = cases_close cs l 0 _ (jump_closes jump.B (default_label cs l behind))

    -- clearing loops
    count_still : (n : ℕ) → IsStill (count_instr n)
    count_still = count_holds IsStill (λ c. still _ (q.load c) refl) (λ shift c. still _ (q.load_long shift c) refl)

    abbrev current : Instr
    current = instr.Mar (record { change = Stay; next = Some 1 })

    abbrev store : Instr
    store = instr.Sach 0 (Through (record { change = Up; next = None }))

    abbrev behind_current : Known
    behind_current = known_behind nothing_known current

    turn_closes : (l : ℕ) → Fresh (Do current ∷ Do store ∷ Do (instr.Subk 1) ∷ jump_item jump.Bgz l ∷ [])
    turn_closes l = record { by = by }
      where
        by : (at : ℕ) (rest : List PieceItem) → Ends nothing_known [] at (Do current ∷ Do store ∷ Do (instr.Subk 1) ∷ jump_item jump.Bgz l ∷ []) rest
        by at rest =
            let c = behind_still (instr.Subk 1) (jump_item jump.Bgz l ∷ []) (still (instr.Subk 1) (q.less 1) refl) (jump_closes jump.Bgz l) in
            let x = c.by (known_behind behind_current store) [] (at + 1 + 1) rest in
            record {
              next = x.next;
              is = quiet_step current nothing_known [] at (Do store ∷ Do (instr.Subk 1) ∷ jump_item jump.Bgz l ∷ rest) ((q.current 1).by nothing_known at) refl
                  ∙ quiet_step store behind_current [] (at + 1) (Do (instr.Subk 1) ∷ jump_item jump.Bgz l ∷ rest) (q.store behind_current (at + 1) refl) refl
                  ∙ x.is;
            }

    pub wipe_closes : (a n l : ℕ) → Closes (wipe_items a n l)
    wipe_closes a n l =
        behind_still _ _ (still _ (q.pointer a) refl) (behind_still _ (clears_at_any l) (count_still n) (mark_closes_before l _ (turn_closes l)))

    -- from the start of a function to its body
    pub record Begins (rest : List PieceItem) (at : ℕ) (back : Option ℕ) : Type 0 where
      pub known : Known
      pub next : ℕ
      pub is : blocks_at nothing_known [] at (plain_items (entry_code back) ++ rest) ≡ blocks_at known [] next rest

    pub entry_begins : (rest : List PieceItem) (at : ℕ) (back : Option ℕ) → Begins rest at back
    entry_begins rest at None = record { known = nothing_known; next = at; is = refl }
    entry_begins rest at (Some word) = record {
      known = known_behind (known_behind nothing_known (instr.Ldpk (word / 128))) (instr.Popd (Direct (word % 128)));
      next = at + 1 + 1;
      is = quiet_step (instr.Ldpk (word / 128)) nothing_known [] at (Do (instr.Popd (Direct (word % 128))) ∷ rest) ((q.page (word / 128)).by nothing_known at) refl
          ∙ quiet_step (instr.Popd (Direct (word % 128))) (known_behind nothing_known (instr.Ldpk (word / 128))) [] (at + 1) rest ((q.taken (word % 128)).by (known_behind nothing_known (instr.Ldpk (word / 128))) (at + 1)) refl;
    }

  -- a run goes on with the block, by what it gives
  pub record Runs (k : Known) (block : List ℕ) (at : ℕ) (code : List Instr) (rest : List PieceItem) : Type 0 where
    pub known : Known
    pub next : ℕ
    pub is : blocks_at k block at (plain_items code ++ rest) ≡ blocks_at known (block ++ along gives k (placed_from at code)) next rest

  pub run_goes_on : (code : List Instr) (k : Known) (block : List ℕ) (at : ℕ) (rest : List PieceItem) → AreStraight code → Runs k block at code rest
  run_goes_on [] k block at rest s = record { known = k; next = at; is = ap (λ more. blocks_at k more at rest) (sym (append-nil block)) }
  run_goes_on (i ∷ code) k block at rest s =
      let x = run_goes_on code (known_behind k i) (with_given block (gives k (placed_at at i))) (at + length_of (second_word i)) rest s.1 in
      record {
        known = x.known;
        next = x.next;
        is = ap (λ b. go_on b (known_behind k i) (with_given block (gives k (placed_at at i))) (λ known more. blocks_at known more (at + length_of (second_word i)) (plain_items code ++ rest))) s.0.goes_on
            ∙ x.is
            ∙ ap (λ more. blocks_at x.known more x.next rest) (append_assoc block (option_to_list (gives k (placed_at at i))) (along gives (known_behind k i) (placed_from (at + length_of (second_word i)) code)));
      }
