-- The jumps of cases, one behind another.
use Rattle.std.proofs.Common.{◌≡◌, ◌∙◌, ℕ, suc, ◌+◌, refl, ap, sym, subst, List, [], ◌∷◌, ◌++◌, append_assoc, append-nil}
use Rattle.acc_code.specs.declared.item.CaseLabel.{CaseLabel}
use Rattle.acc_code.specs.declared.item.CaseLabel.TheVariants.{Value, Default}
use Rattle.c25_isa.specs.declared.instruction.JumpOp.TheVariants as jump
use Rattle.c25_code.specs.Items.{plain_items}
use Rattle.emit_control.specs.declared.code.Code.{Code}
use Rattle.emit_control.specs.declared.state.Before.TheVariants.{Gone}
use Rattle.emit_control.specs.Entries.{Entry, Goto, Dispatch}
use Rattle.emit_control.specs.Cuts.{less_by, case_items, naming_cases, naming, default_label, jump_item}
use Rattle.emit_control.specs.Emits.{Puts, Adds, CasesGoOn, state_of, case_code, taken_behind}
use Rattle.emit_control.specs.Settings.{Setting}

one_case : (c : CaseLabel) (cs : List CaseLabel) (l n : ℕ) → case_items (c ∷ cs) l n ≡ case_code c l n ++ case_items cs (suc l) (taken_behind c n)
one_case (Value v) cs l n = sym (append_assoc (plain_items (less_by n v)) (jump_item jump.Bz l ∷ []) (case_items cs (suc l) v))
one_case Default cs l n = refl

pub cases_further : (old between new : Code) (cs : List CaseLabel) (l n : ℕ) (c : CaseLabel) (ds : List CaseLabel) (k p own taken : ℕ)
    → CasesGoOn old cs l n between (c ∷ ds) k p → Puts between.items.items (case_code c k p) new.items.items → state_of new ≡ naming k (state_of between)
    → own ≡ suc k → taken ≡ taken_behind c p → CasesGoOn old cs l n new ds own taken
cases_further old between new cs l n c ds k p own taken before puts state is_own is_taken = record {
  items = before.items
      ∙ ap (λ l. between.items.items ++ l) (one_case c ds k p)
      ∙ sym (append_assoc between.items.items (case_code c k p) (case_items ds (suc k) (taken_behind c p)))
      ∙ ap (λ l. l ++ case_items ds (suc k) (taken_behind c p)) (sym puts.items)
      ∙ ap (λ q. new.items.items ++ case_items ds (suc k) q) (sym is_taken)
      ∙ ap (λ q. new.items.items ++ case_items ds q taken) (sym is_own);
  state = before.state ∙ ap (naming_cases ds (suc k)) (sym state) ∙ ap (λ q. naming_cases ds q (state_of new)) (sym is_own);
  fits = λ fit. puts.fits (before.fits fit);
}

-- cases, and the jump behind them
pub dispatched : (m : Setting) (old between new : Code) (cs : List CaseLabel) (first behind other : ℕ) → other ≡ default_label cs first behind
    → CasesGoOn old cs first 0 between [] 0 0 → Adds m between (Goto other) new → Adds m old (Dispatch cs first behind) new
dispatched m old between new cs first behind other is jumps adds = record {
  puts = record {
    items = adds.puts.items
        ∙ ap (λ l. l ++ jump_item jump.B other ∷ []) (sym (append-nil between.items.items) ∙ sym jumps.items)
        ∙ append_assoc old.items.items (case_items cs first 0) (jump_item jump.B other ∷ [])
        ∙ ap (λ q. old.items.items ++ (case_items cs first 0 ++ jump_item jump.B q ∷ [])) is;
    fits = λ fit. adds.puts.fits (jumps.fits fit);
  };
  state = adds.state ∙ ap (λ s. record { before = Gone; named = (naming other s).named }) (sym jumps.state) ∙ ap (λ q. record { before = Gone; named = (naming q (naming_cases cs first (state_of old))).named }) is;
}
