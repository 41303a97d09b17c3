-- Loops that clear words lead behind themselves, in a step more a word than a turn has instructions.
use Rattle.std.proofs.Common.{◌≡◌, ◌≢◌, ◌⊎◌, inl, inr, ℕ, zero, suc, ◌+◌, ◌*◌, ◌/◌, ◌^◌, ◌<◌, ◌≤◌, Bool, true, false, not, List, [], ◌∷◌, ◌++◌, length, Some, refl, sym, ap, ◌∙◌, subst, cond, arith, ⊎_elim}
use Rattle.std.specs.Prelude.{nat_lt, nat_le, ◌==◌, ◌||◌}
use Rattle.std.proofs.lemmas.Bool.{and_from, and_left, and_right, ne_eqb, lt-leb, le-leb, lt-ltb, le-ltb, cases_lt}
use mathlib.Core.Path.{fun_ext}
use Rattle.c25_isa.specs.declared.operand.Indirect.{Indirect}
use Rattle.c25_isa.specs.declared.operand.Change.TheVariants.{Stay}
use Rattle.c25_isa.specs.declared.instruction.JumpOp.{JumpOp}
use Rattle.c25_isa.specs.declared.instruction.JumpOp.TheVariants.{Bgz, Bnz}
use Rattle.c25_isa.specs.declared.instruction.Instr.{Instr}
use Rattle.c25_isa.specs.declared.instruction.Instr.TheVariants.{Mar, Branch}
use Rattle.c25_isa.specs.declared.piece.PieceItem.{PieceItem}
use Rattle.c25_isa.specs.declared.piece.PieceItem.TheVariants.{Jump}
use Rattle.c25_isa.specs.State.{Memory, write}
use Rattle.c25_isa.specs.Step.{wrap16, wrap32, minus}
use Rattle.c25_isa.specs.CodeAt.{StandsAt, CodeAt}
use Rattle.c25_isa.specs.StretchRuns.{DataAccess}
use Rattle.c25_isa.specs.Pieces.{items_size, ItemsAt}
use Rattle.c25_code.specs.Work.{Work, calm}
use Rattle.c25_code.specs.Straight.{behind_instr, is_taken, code_size}
use Rattle.c25_code.specs.Accesses.{Accesses, LeadsWithin, CodeMay}
use Rattle.c25_code.specs.CodeRuns.{CodeRuns}
use Rattle.c25_code.specs.Items.{no_change, plain_items}
use Rattle.c25_code.specs.ItemRuns.{ItemsRun, ItemsRunWithin}
use Rattle.c25_code.specs.ClearingLoops.{zeroed, behind_clearing, turn_at_one, turn_at_any, loop_items, clears_at_one, clears_at_any}
use Rattle.c25_code.proofs.Writes.{write_same, write_other, write_twice, write_back}
use Rattle.c25_code.proofs.Accesses.{within_on, runs_within}
use Rattle.c25_code.proofs.AccessRuns.{jump_taken_within, jump_passed_within, runs_of}
use Rattle.c25_code.proofs.CodeRuns.{runs_on}
use Rattle.c25_code.proofs.Items.{items_size-append, plain_items-size, items_front, items_back, code_of_items}

-- words among those that are cleared, and the others
pub zeroed_in : (start n : ℕ) (ram : Memory) (a : ℕ) → start ≤ a → a < start + n → zeroed start n ram a ≡ 0
zeroed_in start n ram a low high = ap (λ t. cond t 0 (ram a)) (and_from (nat_le start a) (nat_lt a (start + n)) (le-leb start a low) (lt-ltb a (start + n) high))

pub zeroed_out : (start n : ℕ) (ram : Memory) (a : ℕ) → (a < start) ⊎ (start + n ≤ a) → zeroed start n ram a ≡ ram a
zeroed_out start n ram a out =
    ⊎_elim
    (λ less. ap (λ t. cond t 0 (ram a)) (and_left (nat_le start a) (nat_lt a (start + n)) (lt-leb start a less)))
    (λ more. ap (λ t. cond t 0 (ram a)) (and_right (nat_le start a) (nat_lt a (start + n)) (le-ltb a (start + n) more)))
    out

-- one word, and one before the others
one_zeroed : (start : ℕ) (ram : Memory) → write ram start 0 ≡ zeroed start 1 ram
one_zeroed start ram = fun_ext (λ a.
    ⊎_elim
    (λ less. write_other ram start 0 a (let n : a ≢ start = omega arith in n) ∙ sym (zeroed_out start 1 ram a (inl less)))
    (λ from. ⊎_elim
    (λ more. write_other ram start 0 a (let n : a ≢ start = omega arith in n) ∙ sym (zeroed_out start 1 ram a (inr (omega arith))))
    (λ same. write_same ram start 0 a (omega arith) ∙ sym (zeroed_in start 1 ram a from (omega arith)))
    (cases_lt start a))
    (cases_lt a start))

more_zeroed : (start n : ℕ) (ram : Memory) → zeroed (start + 1) n (write ram start 0) ≡ zeroed start (suc n) ram
more_zeroed start n ram = fun_ext (λ a.
    ⊎_elim
    (λ less. zeroed_out (start + 1) n (write ram start 0) a (inl (omega arith)) ∙ write_other ram start 0 a (let n : a ≢ start = omega arith in n) ∙ sym (zeroed_out start (suc n) ram a (inl less)))
    (λ from. ⊎_elim
    (λ more. ⊎_elim
    (λ within. zeroed_in (start + 1) n (write ram start 0) a (omega arith) (omega arith) ∙ sym (zeroed_in start (suc n) ram a from within))
    (λ behind. zeroed_out (start + 1) n (write ram start 0) a (inr (omega arith)) ∙ write_other ram start 0 a (let n : a ≢ start = omega arith in n) ∙ sym (zeroed_out start (suc n) ram a (inr behind)))
    (cases_lt a (start + suc n)))
    (λ same. zeroed_out (start + 1) n (write ram start 0) a (inl (omega arith)) ∙ write_same ram start 0 a (omega arith) ∙ sym (zeroed_in start (suc n) ram a from (omega arith)))
    (cases_lt start a))
    (cases_lt a start))

-- the work behind a turn
abbrev pub turned : Work → Work
turned w = record w { acc = minus w.acc 1; arp = 1; ar = write w.ar 1 (wrap16 (w.ar 1 + 1)); ram = write w.ram (w.ar 1) (wrap32 (w.acc * 2 ^ 0) / 65536) }

last_turn : (w : Work) → w.acc ≡ 1 → turned w ≡ behind_clearing 1 w
last_turn w count =
    let none : minus w.acc 1 ≡ 0 = omega arith in
    let nothing : wrap32 (w.acc * 2 ^ 0) / 65536 ≡ 0 = omega arith in
    ap (λ a. record w { acc = a; arp = 1; ar = write w.ar 1 (wrap16 (w.ar 1 + 1)); ram = write w.ram (w.ar 1) (wrap32 (w.acc * 2 ^ 0) / 65536) }) none
    ∙ ap (λ v. record w { acc = 0; arp = 1; ar = write w.ar 1 (wrap16 (w.ar 1 + 1)); ram = write w.ram (w.ar 1) v }) nothing
    ∙ ap (λ m. record w { acc = 0; arp = 1; ar = write w.ar 1 (wrap16 (w.ar 1 + 1)); ram = m }) (one_zeroed (w.ar 1) w.ram)

next_turn : (n : ℕ) (w : Work) → w.acc ≡ suc (suc n) → suc (suc n) < 65536 → w.ar 1 + suc (suc n) ≤ 65536 → behind_clearing (suc n) (turned w) ≡ behind_clearing (suc (suc n)) w
next_turn n w count few high =
    let x : ℕ = wrap16 (w.ar 1 + 1) in
    let next : x ≡ w.ar 1 + 1 = omega arith in
    let behind : wrap16 (x + suc n) ≡ wrap16 (w.ar 1 + suc (suc n)) = let e : x + suc n ≡ w.ar 1 + suc (suc n) = omega (arith, next) in ap wrap16 e in
    let nothing : wrap32 (w.acc * 2 ^ 0) / 65536 ≡ 0 = omega arith in
    ap (λ f. record w { acc = 0; arp = 1; ar = f; ram = zeroed x (suc n) (write w.ram (w.ar 1) (wrap32 (w.acc * 2 ^ 0) / 65536)) }) (write_twice w.ar 1 x (wrap16 (x + suc n)) ∙ ap (write w.ar 1) behind)
    ∙ ap (λ m. record w { acc = 0; arp = 1; ar = write w.ar 1 (wrap16 (w.ar 1 + suc (suc n))); ram = m }) (
    ap (λ v. zeroed x (suc n) (write w.ram (w.ar 1) v)) nothing
    ∙ ap (λ s. zeroed s (suc n) (write w.ram (w.ar 1) 0)) next
    ∙ more_zeroed (w.ar 1) (suc n) w.ram)

-- so many words from an address on may be stored to through AR1
abbrev pub cleared_at : ℕ → DataAccess
cleared_at a = record { address = a; through = Some 1; stores = true }

abbrev pub WordsMay : (DataAccess → Bool) → ℕ → ℕ → Type 0
WordsMay may start n = (a : ℕ) → start ≤ a → a < start + n → may (cleared_at a) ≡ true

-- each turn is one, where work is fit for it, as it is at ARP 1, and its jump is taken while words are left
record Turns (turn : List Instr) (op : JumpOp) (Fit : Work → Type 0) : Type 0 where
  pub runs : (w : Work) → Fit w → 0x300 ≤ w.ar 1 → CodeRuns turn w (turned w) []
  pub again : (w : Work) → w.arp ≡ 1 → Fit w
  pub stops : is_taken op 0 ≡ false
  pub goes_on : (n : ℕ) → suc n < 65536 → is_taken op (suc n) ≡ true
  pub stores : (may : DataAccess → Bool) (w : Work) → Fit w → may (cleared_at (w.ar 1)) ≡ true → CodeMay may turn w

module _ (may : DataAccess → Bool) (turn : List Instr) (op : JumpOp) (Fit : Work → Type 0) (t : Turns turn op Fit) where
  module _ (program : Memory) (at : ℕ) (room : at + code_size turn + 2 < 65536) (stands : CodeAt program at turn) (jumps : StandsAt program (at + code_size turn) (Branch op at no_change)) where
    abbrev each : ℕ
    each = length turn + 1

    turn_leads : (w : Work) → Fit w → 0x300 ≤ w.ar 1 → may (cleared_at (w.ar 1)) ≡ true → LeadsWithin (Accesses may) (length turn) (calm program at w) (calm program (at + code_size turn) (turned w)) []
    turn_leads w fit low allowed = runs_within may program turn at w (turned w) [] stands (t.runs w fit low) (t.stores may w fit allowed) (omega arith)

    loop_leads : (n : ℕ) (w : Work) → w.acc ≡ suc n → Fit w → 0x300 ≤ w.ar 1 → w.ar 1 + suc n ≤ 65536 → WordsMay may (w.ar 1) (suc n) → LeadsWithin (Accesses may) (each * suc n) (calm program at w) (calm program (at + code_size turn + 2) (behind_clearing (suc n) w)) []
    loop_leads zero w count fit low high allowed =
        let none : minus w.acc 1 ≡ 0 = omega arith in
        subst (λ m. LeadsWithin (Accesses may) m (calm program at w) (calm program (at + code_size turn + 2) (behind_clearing 1 w)) []) (let e : each ≡ each * 1 = omega arith in e) (
        subst (λ u. LeadsWithin (Accesses may) each (calm program at w) (calm program (at + code_size turn + 2) u) []) (last_turn w count) (
        within_on (Accesses may) (length turn) 1 _ _ _ [] [] (turn_leads w fit low (allowed (w.ar 1) (omega arith) (omega arith))) (jump_passed_within may program (at + code_size turn) op at (turned w) jumps room (ap (is_taken op) none ∙ t.stops))))
    loop_leads (suc n) w count fit low high allowed =
        let left : minus w.acc 1 ≡ suc n = omega arith in
        let next : (turned w).ar 1 ≡ w.ar 1 + 1 = let e : wrap16 (w.ar 1 + 1) ≡ w.ar 1 + 1 = omega arith in e in
        let first = within_on (Accesses may) (length turn) 1 _ _ _ [] [] (turn_leads w fit low (allowed (w.ar 1) (omega arith) (omega arith))) (jump_taken_within may program (at + code_size turn) op at (turned w) jumps (ap (is_taken op) left ∙ t.goes_on n (omega arith))) in
        let rest = loop_leads n (turned w) left (t.again (turned w) refl) (omega (arith, next)) (omega (arith, next)) (λ a from to. allowed a (omega (arith, next, from)) (omega (arith, next, to))) in
        subst (λ m. LeadsWithin (Accesses may) m (calm program at w) (calm program (at + code_size turn + 2) (behind_clearing (suc (suc n)) w)) []) (let e : each + each * suc n ≡ each * suc (suc n) = omega arith in e) (
        subst (λ u. LeadsWithin (Accesses may) (each + each * suc n) (calm program at w) (calm program (at + code_size turn + 2) u) []) (next_turn n w count (omega arith) high) (
        within_on (Accesses may) each (each * suc n) _ _ _ [] [] first rest))

  -- where its items stand
  loop_runs : (mark n : ℕ) (w : Work) → w.acc ≡ n → 1 ≤ n → Fit w → 0x300 ≤ w.ar 1 → w.ar 1 + n ≤ 65536 → WordsMay may (w.ar 1) n → ItemsRunWithin may (loop_items turn op mark) ((length turn + 1) * n) w (behind_clearing n w) []
  loop_runs mark zero w count some fit low high allowed = absurd (omega arith)
  loop_runs mark (suc n) w count some fit low high allowed = record { by = by }
    where
      end : List PieceItem
      end = Jump op mark no_change ∷ []

      size_is : items_size (plain_items turn ++ end) ≡ code_size turn + 2
      size_is = omega (arith, items_size-append (plain_items turn) end, plain_items-size turn)

      by : (program : Memory) (marks : ℕ → ℕ) (names : List ℕ → ℕ) (pc : ℕ) → ItemsAt program marks names pc (loop_items turn op mark) → pc + items_size (loop_items turn op mark) < 65536 → LeadsWithin (Accesses may) ((length turn + 1) * suc n) (calm program pc w) (calm program (pc + items_size (loop_items turn op mark)) (behind_clearing (suc n) w)) []
      by program marks names pc at below =
          let front = code_of_items program marks names turn pc (items_front program marks names (plain_items turn) end pc at.1) in
          let back = items_back program marks names (plain_items turn) end pc at.1 in
          let jumps = subst (λ k. StandsAt program (pc + code_size turn) (Branch op k no_change)) at.0 (subst (λ k. StandsAt program (pc + k) (Branch op (marks mark) no_change)) (plain_items-size turn) back.0) in
          subst (λ k. LeadsWithin (Accesses may) ((length turn + 1) * suc n) (calm program pc w) (calm program k (behind_clearing (suc n) w)) []) (let e : pc + code_size turn + 2 ≡ pc + items_size (loop_items turn op mark) = omega (arith, size_is) in e) (
          loop_leads program pc (omega (arith, below, size_is)) front jumps n w count fit low high allowed)

-- at ARP 1
one_runs : (w : Work) → 0x300 ≤ w.ar 1 → CodeRuns turn_at_one (record w { arp = 1 }) (turned w) []
one_runs w low = record { ready = (low, (tt, tt)); reaches = refl; outputs = refl }

one_stores : (may : DataAccess → Bool) (w : Work) → w.arp ≡ 1 → may (cleared_at (w.ar 1)) ≡ true → CodeMay may turn_at_one w
one_stores may w fit allowed = (ap (λ r. may (record { address = w.ar r; through = Some r; stores = true })) fit ∙ allowed, (tt, tt))

turns_at_one : Turns turn_at_one Bnz (λ w. w.arp ≡ 1)
turns_at_one = record {
  runs = λ w fit low. let e : record w { arp = 1 } ≡ w = ap (λ x. record w { arp = x }) (sym fit) in subst (λ v. CodeRuns turn_at_one v (turned w) []) e (one_runs w low);
  again = λ w e. e;
  stops = refl;
  goes_on = λ n lt. let some : suc n ≢ 0 = omega arith in ap not (ne_eqb (suc n) 0 some);
  stores = one_stores;
}

-- at any ARP
more_than_none : (n : ℕ) → suc n < 65536 → is_taken Bgz (suc n) ≡ true
more_than_none n lt =
    let small : suc n < 2147483648 = omega arith in
    let some : suc n ≢ 0 = omega arith in
    ap (λ b. not (b || (suc n == 0))) (lt-leb 2147483648 (suc n) small) ∙ ap not (ne_eqb (suc n) 0 some)

turns_at_any : Turns turn_at_any Bgz (λ w. Unit {0})
turns_at_any = record {
  runs = λ w fit low.
      let i : Indirect = record { change = Stay; next = Some 1 } in
      let first : CodeRuns (Mar i ∷ []) w (record w { arp = 1 }) [] = record { ready = (tt, tt); reaches = ap (λ m. record w { ar = m; arp = 1 }) (write_back w.ar w.arp (w.ar w.arp) refl); outputs = refl } in
      runs_on (Mar i ∷ []) turn_at_one w (record w { arp = 1 }) (turned w) [] [] first (one_runs w low);
  again = λ w e. tt;
  stops = refl;
  goes_on = more_than_none;
  stores = λ may w fit allowed.
      let i : Indirect = record { change = Stay; next = Some 1 } in
      (tt, one_stores may (behind_instr (Mar i) w) refl (ap (λ (m : Memory). may (cleared_at (m 1))) (write_back w.ar w.arp (w.ar w.arp) refl) ∙ allowed));
}

module _ (may : DataAccess → Bool) (mark n : ℕ) (w : Work) (count : w.acc ≡ n) (some : 1 ≤ n) (low : 0x300 ≤ w.ar 1) (high : w.ar 1 + n ≤ 65536) (allowed : WordsMay may (w.ar 1) n) where
  pub clears_at_one-within : w.arp ≡ 1 → ItemsRunWithin may (clears_at_one mark) (3 * n) w (behind_clearing n w) []
  clears_at_one-within arp = loop_runs may turn_at_one Bnz (λ w. w.arp ≡ 1) turns_at_one mark n w count some arp low high allowed

  pub clears_at_any-within : ItemsRunWithin may (clears_at_any mark) (4 * n) w (behind_clearing n w) []
  clears_at_any-within = loop_runs may turn_at_any Bgz (λ w. Unit {0}) turns_at_any mark n w count some tt low high allowed

-- wherever it accesses
pub clears_at_one-runs : (mark n : ℕ) (w : Work) → w.acc ≡ n → 1 ≤ n → w.arp ≡ 1 → 0x300 ≤ w.ar 1 → w.ar 1 + n ≤ 65536 → ItemsRun (clears_at_one mark) (3 * n) w (behind_clearing n w) []
clears_at_one-runs mark n w count some arp low high = runs_of (λ a. true) (clears_at_one-within (λ a. true) mark n w count some low high (λ a from to. refl) arp)
