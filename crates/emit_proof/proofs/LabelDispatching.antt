-- A dispatch goes to the label of the number in the accumulator.
use Rattle.std.proofs.Common.{◌≡◌, ◌≢◌, ℕ, suc, ◌+◌, ◌*◌, ◌<◌, ◌≤◌, ◌⊎◌, inl, inr, Bool, true, false, List, [], ◌∷◌, ◌++◌, length, Option, Some, None, refl, sym, ap, ◌∙◌, subst, arith}
use Rattle.std.specs.Prelude.{◌==◌, ◌^◌, if◌then◌else◌}
use Rattle.std.proofs.lemmas.Bool.{eq-eqb, ne_eqb, eqb-true, eqb-false}
use Rattle.c25_isa.specs.declared.piece.PieceItem.{PieceItem}
use Rattle.c25_isa.specs.declared.instruction.Instr.TheVariants.{Branch}
use Rattle.c25_isa.specs.declared.instruction.JumpOp.TheVariants as jump
use Rattle.c25_isa.specs.State.{Memory}
use Rattle.c25_isa.specs.Step.{minus}
use Rattle.c25_isa.specs.CodeAt.{StandsAt}
use Rattle.c25_isa.specs.Pieces.{items_size, ItemsAt}
use Rattle.c25_code.specs.Work.{Work, InRange, calm}
use Rattle.c25_code.specs.Items.{no_change, plain_items}
use Rattle.c25_code.specs.Accesses.{Accesses, LeadsWithin}
use Rattle.c25_code.proofs.Accesses.{within_on, stays_within}
use Rattle.c25_code.proofs.AccessRuns.{jump_taken_within, jump_passed_within, straight_runs_within}
use Rattle.c25_code.proofs.Items.{items_size-append, items_front, items_back}
use Rattle.acc_code.specs.declared.item.CaseLabel.{CaseLabel}
use Rattle.acc_code.specs.declared.item.CaseLabel.TheVariants.{Value, Default}
use Rattle.ir_semantics.specs.AccRun.{value_label, or_else, label_of, labels_weight}
use Rattle.ir_semantics.specs.AccRun as run
use Rattle.emit_control.specs.Cuts.{less_by, jump_item, case_items, default_label, dispatch_items}
use Rattle.emit_proof.specs.Calls.{IsJumpTo}
use Rattle.emit_proof.proofs.Entries.{front_jump, back_jump}
use Rattle.emit_proof.specs.Code.{AreWordLabels, DispatchArrives, chosen}
use Rattle.emit_proof.specs.Accessing.{no_access}
use Rattle.emit_proof.proofs.Taking.{with_acc, MakesAcc, less_made}

-- how many values there are
abbrev values : List CaseLabel → ℕ
values [] = 0
values (Value v ∷ cs) = suc (values cs)
values (Default ∷ cs) = values cs

few_values : (cs : List CaseLabel) → 6 * values cs ≤ labels_weight cs
few_values [] = omega arith
few_values (Value v ∷ cs) = let h = few_values cs in omega (arith, h)
few_values (Default ∷ cs) = let h = few_values cs in omega (arith, h)

-- the label behind the cases, as the run of accumulator code finds it
default_same : (cs : List CaseLabel) (l i behind : ℕ) → default_label cs (l + i) behind ≡ chosen (run.default_label cs i) l behind
default_same [] l i behind = refl
default_same (Value v ∷ cs) l i behind = let e : suc (l + i) ≡ l + suc i = omega arith in ap (λ k. default_label cs k behind) e ∙ default_same cs l (suc i) behind
default_same (Default ∷ cs) l i behind = refl

module _ (program : Memory) (marks : ℕ → ℕ) (names : List ℕ → ℕ) (z : ℕ) (low : z < 4294967296) (l : ℕ) where
  -- it goes on in a few steps, and only the accumulator changes, to this
  pub record Arrived (pc to least most : ℕ) (w : Work) (acc : ℕ) : Type 0 where
    pub steps : ℕ
    pub leads : LeadsWithin (Accesses no_access) steps (calm program pc w) (calm program to (with_acc acc w)) []
    pub range : acc < 4294967296
    pub some : least ≤ steps
    pub few : steps ≤ most

  pub record ArrivedSo (pc to least most : ℕ) (w : Work) : Type 0 where
    pub acc : ℕ
    pub so : Arrived pc to least most w acc

  -- the jumps of cases: to the label of the first value that is the number, or behind them
  abbrev pub Cased : Option ℕ → List PieceItem → ℕ → ℕ → ℕ → Work → Type 0
  Cased None items pc behind most w = ArrivedSo pc behind 0 most w
  Cased (Some i) items pc behind most w = ArrivedSo pc (marks (l + i)) 1 most w × IsJumpTo (l + i) items

  onward : (pc to there least more least2 more2 : ℕ) (w : Work) (x y : ℕ) → Arrived pc to least more w x → Arrived to there least2 more2 (with_acc x w) y → Arrived pc there least2 (more + more2) w y
  onward pc to there least more least2 more2 w x y a b =
      let few = a.few in
      let few2 = b.few in
      let some2 = b.some in
      record { steps = a.steps + b.steps; leads = within_on (Accesses no_access) a.steps b.steps _ _ _ [] [] a.leads b.leads; range = b.range; some = omega (arith, some2); few = omega (arith, few, few2) }

  wider : (pc to least most more : ℕ) (w : Work) (x : ℕ) → most ≤ more → Arrived pc to least most w x → Arrived pc to least more w x
  wider pc to least most more w x le a = let few = a.few in record { steps = a.steps; leads = a.leads; range = a.range; some = a.some; few = omega (arith, few, le) }

  -- what is taken away for one value
  value_taken : (v before pc : ℕ) (rest : List PieceItem) (w : Work) → v < 65536 → before < 65536 → w.acc ≡ minus z before → ItemsAt program marks names pc (plain_items (less_by before v) ++ rest)
      → pc + items_size (plain_items (less_by before v)) < 65536 → Arrived pc (pc + items_size (plain_items (less_by before v))) 0 2 w (minus z v)
  value_taken v before pc rest w lv lb is at fits =
      let made = less_made w z before v low lb lv is in
      record {
        steps = length (less_by before v);
        leads = (straight_runs_within no_access (less_by before v) w (with_acc (minus z v) w) [] made.runs made.accesses).by program marks names pc (items_front program marks names (plain_items (less_by before v)) rest pc at) fits;
        range = omega arith;
        some = omega arith;
        few = made.few;
      }

  case_jumps : (v i at : ℕ) (w : Work) → StandsAt program at (Branch jump.Bz (marks (l + i)) no_change) → v ≡ z → Arrived at (marks (l + i)) 1 1 (with_acc (minus z v) w) (minus z v)
  case_jumps v i at w stands same =
      let none : minus z v ≡ 0 = omega (arith, same, low) in
      record { steps = 1; leads = jump_taken_within no_access program at jump.Bz (marks (l + i)) (with_acc (minus z v) w) stands (eq-eqb (minus z v) 0 none); range = omega arith; some = omega arith; few = omega arith }

  case_passes : (v i at : ℕ) (w : Work) → StandsAt program at (Branch jump.Bz (marks (l + i)) no_change) → at + 2 < 65536 → v < 65536 → v ≢ z → Arrived at (at + 2) 1 1 (with_acc (minus z v) w) (minus z v)
  case_passes v i at w stands fits lv other =
      let some : minus z v ≢ 0 = λ e. other (omega (arith, e, low, lv)) in
      record { steps = 1; leads = jump_passed_within no_access program at jump.Bz (marks (l + i)) (with_acc (minus z v) w) stands fits (ne_eqb (minus z v) 0 some); range = omega arith; some = omega arith; few = omega arith }

  pub cases_go : (cs : List CaseLabel) (i before pc : ℕ) (w : Work) → AreWordLabels cs → before < 65536 → w.acc ≡ minus z before → ItemsAt program marks names pc (case_items cs (l + i) before)
      → pc + items_size (case_items cs (l + i) before) < 65536 → Cased (value_label z cs i) (case_items cs (l + i) before) pc (pc + items_size (case_items cs (l + i) before)) (3 * values cs) w
  cases_go [] i before pc w are lb is at fits =
      let here : pc ≡ pc + 0 = omega arith in
      record {
        acc = w.acc;
        so = record {
          steps = 0;
          leads = subst (λ k. LeadsWithin (Accesses no_access) 0 (calm program pc w) (calm program k w) []) here (stays_within (Accesses no_access) (calm program pc w));
          range = omega (arith, is);
          some = omega arith;
          few = omega arith;
        };
      }
  cases_go (Default ∷ cs) i before pc w are lb is at fits =
      let e : l + suc i ≡ suc (l + i) = omega arith in
      subst (λ k. Cased (value_label z cs (suc i)) (case_items cs k before) pc (pc + items_size (case_items cs k before)) (3 * values cs) w) e
      (cases_go cs (suc i) before pc w are.1 lb is (subst (λ k. ItemsAt program marks names pc (case_items cs k before)) (sym e) at) (subst (λ k. pc + items_size (case_items cs k before) < 65536) (sym e) fits))
  cases_go (Value v ∷ cs) i before pc w are lb is at fits =
      let e : l + suc i ≡ suc (l + i) = omega arith in
      by (v == z) refl
      (subst (λ k. Cased (value_label z cs (suc i)) (case_items cs k v) (behind + 2) (behind + 2 + items_size (case_items cs k v)) (3 * values cs) (with_acc (minus z v) w)) e
      (cases_go cs (suc i) v (behind + 2) (with_acc (minus z v) w) are.1 are.0 refl (subst (λ k. ItemsAt program marks names (behind + 2) (case_items cs k v)) (sym e) after.1) (subst (λ k. behind + 2 + items_size (case_items cs k v) < 65536) (sym e) (omega (arith, fits, whole)))))
    where
      front : List PieceItem
      front = plain_items (less_by before v)

      tail : List PieceItem
      tail = case_items cs (suc (l + i)) v

      behind : ℕ
      behind = pc + items_size front

      whole : pc + items_size (front ++ jump_item jump.Bz (l + i) ∷ tail) ≡ behind + 2 + items_size tail
      whole = omega (arith, items_size-append front (jump_item jump.Bz (l + i) ∷ tail))

      after : ItemsAt program marks names behind (jump_item jump.Bz (l + i) ∷ tail)
      after = items_back program marks names front (jump_item jump.Bz (l + i) ∷ tail) pc at

      taken : Arrived pc behind 0 2 w (minus z v)
      taken = value_taken v before pc (jump_item jump.Bz (l + i) ∷ tail) w are.0 lb is at (omega (arith, fits, whole))

      joined : (o : Option ℕ) → Arrived pc (behind + 2) 1 3 w (minus z v) → Cased o tail (behind + 2) (behind + 2 + items_size tail) (3 * values cs) (with_acc (minus z v) w)
          → Cased o (front ++ jump_item jump.Bz (l + i) ∷ tail) pc (pc + items_size (front ++ jump_item jump.Bz (l + i) ∷ tail)) (3 * values (Value v ∷ cs)) w
      joined None a c = record {
        acc = c.acc;
        so = subst (λ k. Arrived pc k 0 (3 * values (Value v ∷ cs)) w c.acc) (sym whole) (wider pc (behind + 2 + items_size tail) 0 (3 + 3 * values cs) (3 * values (Value v ∷ cs)) w c.acc (omega arith) (onward pc (behind + 2) (behind + 2 + items_size tail) 1 3 0 (3 * values cs) w (minus z v) c.acc a c.so));
      }
      joined (Some j) a c = (
        record { acc = c.0.acc; so = wider pc (marks (l + j)) 1 (3 + 3 * values cs) (3 * values (Value v ∷ cs)) w c.0.acc (omega arith) (onward pc (behind + 2) (marks (l + j)) 1 3 1 (3 * values cs) w (minus z v) c.0.acc a c.0.so) },
        back_jump (l + j) front (jump_item jump.Bz (l + i) ∷ tail) (inr c.1),
      )

      by : (b : Bool) → (v == z) ≡ b → Cased (value_label z cs (suc i)) tail (behind + 2) (behind + 2 + items_size tail) (3 * values cs) (with_acc (minus z v) w)
          → Cased (if b then Some i else value_label z cs (suc i)) (front ++ jump_item jump.Bz (l + i) ∷ tail) pc (pc + items_size (front ++ jump_item jump.Bz (l + i) ∷ tail)) (3 * values (Value v ∷ cs)) w
      by true e rest = (
        record { acc = minus z v; so = wider pc (marks (l + i)) 1 3 (3 * values (Value v ∷ cs)) w (minus z v) (omega arith) (onward pc behind (marks (l + i)) 0 2 1 1 w (minus z v) (minus z v) taken (case_jumps v i behind w after.0 (eqb-true v z e))) },
        back_jump (l + i) front (jump_item jump.Bz (l + i) ∷ tail) (inl refl),
      )
      by false e rest =
          joined (value_label z cs (suc i)) (onward pc behind (behind + 2) 0 2 1 1 w (minus z v) (minus z v) taken (case_passes v i behind w after.0 (omega (arith, fits, whole)) are.0 (eqb-false v z e))) rest

-- the whole dispatch
module _ (program : Memory) (marks : ℕ → ℕ) (names : List ℕ → ℕ) (label : ℕ → ℕ) where
  pub dispatch_arrives : (cs : List CaseLabel) (l behind pc : ℕ) (w : Work) → AreWordLabels cs → InRange w → ItemsAt program marks names pc (dispatch_items cs l behind)
      → ((j : ℕ) → IsJumpTo j (dispatch_items cs l behind) → marks j ≡ label j) → DispatchArrives program pc (label (chosen (label_of w.acc cs) l behind)) w cs
  dispatch_arrives cs l behind pc w are range at jumps = by (value_label w.acc cs 0) refl cased
    where
      last : PieceItem
      last = jump_item jump.B (default_label cs l behind)

      low : w.acc < 4294967296
      low = range.acc

      stands : StandsAt program (pc + items_size (case_items cs l 0)) (Branch jump.B (marks (default_label cs l behind)) no_change)
      stands = (items_back program marks names (case_items cs l 0) (last ∷ []) pc at).0

      fits : pc + items_size (case_items cs l 0) < 65536
      fits = let room = stands.room in omega (arith, room)

      same : l + 0 ≡ l
      same = omega arith

      cased : Cased program marks names w.acc low l (value_label w.acc cs 0) (case_items cs l 0) pc (pc + items_size (case_items cs l 0)) (3 * values cs) w
      cased =
          subst (λ k. Cased program marks names w.acc low l (value_label w.acc cs 0) (case_items cs k 0) pc (pc + items_size (case_items cs k 0)) (3 * values cs) w) same
          (cases_go program marks names w.acc low l cs 0 0 pc w are (omega arith) (omega (arith, low))
          (subst (λ k. ItemsAt program marks names pc (case_items cs k 0)) (sym same) (items_front program marks names (case_items cs l 0) (last ∷ []) pc at))
          (subst (λ k. pc + items_size (case_items cs k 0) < 65536) (sym same) fits))

      default_is : chosen (run.default_label cs 0) l behind ≡ default_label cs l behind
      default_is = sym (default_same cs l 0 behind) ∙ ap (λ k. default_label cs k behind) same

      by : (o : Option ℕ) → value_label w.acc cs 0 ≡ o → Cased program marks names w.acc low l o (case_items cs l 0) pc (pc + items_size (case_items cs l 0)) (3 * values cs) w → DispatchArrives program pc (label (chosen (or_else o (run.default_label cs 0)) l behind)) w cs
      by (Some i) is c =
          let a = c.0.so in
          let few = a.few in
          let weight = few_values cs in
          record {
            steps = a.steps;
            acc = c.0.acc;
            leads = subst (λ k. LeadsWithin (Accesses no_access) a.steps (calm program pc w) (calm program k (with_acc c.0.acc w)) []) (jumps (l + i) (front_jump (l + i) (case_items cs l 0) (last ∷ []) c.1)) a.leads;
            range = a.range;
            some = a.some;
            few = omega (arith, few, weight);
          }
      by None is c =
          let a = c.so in
          let few = a.few in
          let weight = few_values cs in
          let there : marks (default_label cs l behind) ≡ label (chosen (run.default_label cs 0) l behind) = jumps (default_label cs l behind) (back_jump (default_label cs l behind) (case_items cs l 0) (last ∷ []) (inl refl)) ∙ ap label (sym default_is) in
          record {
            steps = a.steps + 1;
            acc = c.acc;
            leads = subst (λ k. LeadsWithin (Accesses no_access) (a.steps + 1) (calm program pc w) (calm program k (with_acc c.acc w)) []) there
                (within_on (Accesses no_access) a.steps 1 _ _ _ [] [] a.leads (jump_taken_within no_access program (pc + items_size (case_items cs l 0)) jump.B (marks (default_label cs l behind)) (with_acc c.acc w) stands refl));
            range = a.range;
            some = omega arith;
            few = omega (arith, few, weight);
          }
