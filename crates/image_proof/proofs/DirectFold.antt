-- Direct operands stretch by stretch, as one fold over instructions.
use Rattle.std.proofs.Common.{◌≡◌, ℕ, ◌+◌, Bool, true, false, ◌||◌, List, [], ◌∷◌, ◌++◌, None, refl, ap, sym, ◌∙◌}
use Rattle.std.specs.Prelude.{◌&&◌, if◌then◌else◌}
use Rattle.std.specs.List.{list_all, AllByRecursion}
use Rattle.std.proofs.lemmas.Bool.{and_parts, and_from}
use Rattle.c25_isa.specs.declared.instruction.Instr.{Instr}
use Rattle.c25_isa.specs.declared.instruction.Instr.TheVariants.{Branch, Call}
use Rattle.c25_isa.specs.declared.instruction.JumpOp.{JumpOp}
use Rattle.c25_isa.specs.declared.piece.PieceItem.{PieceItem}
use Rattle.c25_isa.specs.declared.piece.PieceItem.TheVariants.{Do, Mark}
use Rattle.c25_isa.specs.Direct.{Words, Done, nothing_done, is_store, direct_offset, is_direct_operand, done_behind, is_direct_from}
use Rattle.c25_isa.specs.Pieces.{items_code}
use Rattle.c25_isa.specs.Table.{second_word, length_of}
use Rattle.c25_isa.specs.Walk.{Placed, is_cut_behind, onto_stretches, cut_at, ends_stretch}
use Rattle.c25_code.specs.Items.{no_change, plain_items}
use Rattle.image_proof.specs.emit_control.Cuts.{jump_item, call_item}
use Rattle.image_proof.specs.RunWalks.{placed_from}
use Rattle.image_proof.proofs.ItemBlocks.{leads_between, CutsAtMarks, placed_at}
use Rattle.image_proof.proofs.Straight.{AreStraight}

and_assoc : (a b c : Bool) → (a && (b && c)) ≡ ((a && b) && c)
and_assoc true b c = refl
and_assoc false b c = refl

and_true : (a : Bool) → (a && true) ≡ a
and_true true = refl
and_true false = refl

if_true : (b x y : Bool) → x ≡ true → y ≡ true → (if b then x else y) ≡ true
if_true true x y e f = e
if_true false x y e f = f

-- instructions without direct operands
abbrev pub HaveNoDirect : List Instr → Type 0
HaveNoDirect code = AllByRecursion (λ i. direct_offset i ≡ None) code

module _ (w : Words) (targets : List ℕ) where
  abbrev pub allowed : Done → Placed → Bool
  allowed d p = is_direct_operand w d (is_store p.instr) (direct_offset p.instr)

  abbrev pub direct_along : Done → List Placed → Bool
  direct_along d [] = true
  direct_along d (p ∷ ps) = allowed d p && (if is_cut_behind targets p then direct_along nothing_done ps else direct_along (done_behind d p.instr) ps)

  abbrev all_direct : List (List Placed) → Bool
  all_direct stretches = list_all (is_direct_from w nothing_done) stretches

  -- stretches, the first of which goes on
  abbrev joined : Done → List (List Placed) → Bool
  joined d [] = true
  joined d (first ∷ rest) = is_direct_from w d first && all_direct rest

  none_joined : (stretches : List (List Placed)) → all_direct stretches ≡ joined nothing_done stretches
  none_joined [] = refl
  none_joined (first ∷ rest) = refl

  onto_joined : (cut : Bool) (p : Placed) (stretches : List (List Placed)) (d : Done)
      → joined d (onto_stretches cut p stretches) ≡ (allowed d p && (if cut then joined nothing_done stretches else joined (done_behind d p.instr) stretches))
  onto_joined true p stretches d = ap (λ b. b && all_direct stretches) (and_true (allowed d p)) ∙ ap (λ b. allowed d p && b) (none_joined stretches)
  onto_joined false p [] d = and_true (allowed d p && true)
  onto_joined false p (first ∷ rest) d = sym (and_assoc (allowed d p) (is_direct_from w (done_behind d p.instr) first) (all_direct rest))

  if_same : (b x y u v : Bool) → x ≡ u → y ≡ v → (if b then x else y) ≡ (if b then u else v)
  if_same true x y u v e f = e
  if_same false x y u v e f = f

  cut_joined : (ps : List Placed) (d : Done) → joined d (cut_at targets ps) ≡ direct_along d ps
  cut_joined [] d = refl
  cut_joined (p ∷ ps) d =
      onto_joined (is_cut_behind targets p) p (cut_at targets ps) d
      ∙ ap (λ b. allowed d p && b) (if_same (is_cut_behind targets p) _ _ _ _ (cut_joined ps nothing_done) (cut_joined ps (done_behind d p.instr)))

  pub stretches_direct : (ps : List Placed) → list_all (is_direct_from w nothing_done) (cut_at targets ps) ≡ direct_along nothing_done ps
  stretches_direct ps = none_joined (cut_at targets ps) ∙ cut_joined ps nothing_done

  module _ (marks : ℕ → ℕ) (names : List ℕ → ℕ) where
    -- whatever the stretch did before
    abbrev pub AllDirect : ℕ → List PieceItem → Type 0
    AllDirect at items = (d : Done) → direct_along d (placed_from at (items_code marks names items)) ≡ true

    -- items before others
    pub record Passes (items : List PieceItem) : Type 0 where
      pub by : (at : ℕ) (rest : List PieceItem) → ((next : ℕ) → CutsAtMarks targets next rest → AllDirect next rest) → CutsAtMarks targets at (items ++ rest) → AllDirect at (items ++ rest)

    pub none_pass : Passes []
    none_pass = record { by = λ at rest all cuts. all at cuts }

    -- an instruction without a direct operand
    past : (i : Instr) (d : Done) (at : ℕ) (ps : List Placed) → direct_offset i ≡ None → ((e : Done) → direct_along e ps ≡ true) → direct_along d (placed_at at i ∷ ps) ≡ true
    past i d at ps e all = and_from _ _ (ap (is_direct_operand w d (is_store i)) e) (if_true (is_cut_behind targets (placed_at at i)) _ _ (all nothing_done) (all (done_behind d i)))

    pub instr_passes : (i : Instr) (items : List PieceItem) → direct_offset i ≡ None → Passes items → Passes (Do i ∷ items)
    instr_passes i items e p = record {
      by = λ at rest all cuts d.
          past i d at (placed_from (at + length_of (second_word i)) (items_code marks names (items ++ rest))) e (p.by (at + length_of (second_word i)) rest all cuts.1);
    }

    pub jump_passes : (op : JumpOp) (l : ℕ) (items : List PieceItem) → Passes items → Passes (jump_item op l ∷ items)
    jump_passes op l items p = record {
      by = λ at rest all cuts d. past (Branch op (marks l) no_change) d at (placed_from (at + 2) (items_code marks names (items ++ rest))) refl (p.by (at + 2) rest all cuts.1);
    }

    pub call_passes : (name : List ℕ) → Passes (call_item name ∷ [])
    call_passes name = record {
      by = λ at rest all cuts d. past (Call (names name) no_change) d at (placed_from (at + 2) (items_code marks names rest)) refl (λ e. all (at + 2) cuts.1 e);
    }

    pub mark_passes : (l : ℕ) (items : List PieceItem) → Passes items → Passes (Mark l ∷ items)
    mark_passes l items p = record { by = λ at rest all cuts d. p.by at rest all cuts d }

    pub code_passes : (code : List Instr) (items : List PieceItem) → HaveNoDirect code → Passes items → Passes (plain_items code ++ items)
    code_passes [] items e p = p
    code_passes (i ∷ code) items e p = instr_passes i (plain_items code ++ items) e.0 (code_passes code items e.1 p)

    -- code without a cut, whose direct operands may be there
    run_along : (code : List Instr) (at : ℕ) (rest : List PieceItem) (d : Done) → AreStraight code → ((next : ℕ) → CutsAtMarks targets next rest → AllDirect next rest) → CutsAtMarks targets at (plain_items code ++ rest)
        → is_direct_from w d (placed_from at code) ≡ true → direct_along d (placed_from at (items_code marks names (plain_items code ++ rest))) ≡ true
    run_along [] at rest d s all cuts e = all at cuts d
    run_along (i ∷ []) at rest d s all cuts e =
        let parts = and_parts (allowed d (placed_at at i)) true e in
        and_from _ _ parts.0 (if_true (is_cut_behind targets (placed_at at i)) _ _ (all (at + length_of (second_word i)) cuts.1 nothing_done) (all (at + length_of (second_word i)) cuts.1 (done_behind d i)))
    run_along (i ∷ j ∷ code) at rest d s all cuts e =
        let next : ℕ = at + length_of (second_word i) in
        let parts = and_parts (allowed d (placed_at at i)) (is_direct_from w (done_behind d i) (placed_from next (j ∷ code))) e in
        let behind : List Placed = placed_from next (items_code marks names (plain_items (j ∷ code) ++ rest)) in
        and_from _ _ parts.0
        (ap (λ b. if b then direct_along nothing_done behind else direct_along (done_behind d i) behind) (no_cut (ends_stretch i) (leads_between targets at next) s.0.goes_on cuts.0)
        ∙ run_along (j ∷ code) next rest (done_behind d i) s.1 all cuts.1 parts.1)
      where
        no_cut : (a b : Bool) → a ≡ false → b ≡ false → (a || b) ≡ false
        no_cut true b e f = e
        no_cut false b e f = f

    pub run_passes : (code : List Instr) → AreStraight code → ((d : Done) (at : ℕ) → is_direct_from w d (placed_from at code) ≡ true) → Passes (plain_items code)
    run_passes code s direct = record { by = λ at rest all cuts d. run_along code at rest d s all cuts (direct d at) }
