-- Items behind items, straight code among items, and jumps that change nothing else.
use Rattle.std.proofs.Common.{◌≡◌, ℕ, ◌+◌, ◌<◌, true, false, List, [], ◌∷◌, ◌++◌, length, refl, sym, ap, ◌∙◌, subst, cond, arith}
use Rattle.std.proofs.lemmas.Bool.{true≢false}
use Rattle.word_base.specs.Ports.{Outputs}
use Rattle.c25_isa.specs.declared.operand.Operand.TheVariants.{Indirect as Through}
use Rattle.c25_isa.specs.declared.instruction.JumpOp.{JumpOp}
use Rattle.c25_isa.specs.declared.instruction.Instr.{Instr}
use Rattle.c25_isa.specs.declared.instruction.Instr.TheVariants.{Branch}
use Rattle.c25_isa.specs.declared.piece.PieceItem.{PieceItem}
use Rattle.c25_isa.specs.declared.piece.PieceItem.TheVariants.{Do, Mark, Jump, CallTo}
use Rattle.c25_isa.specs.State.{Memory}
use Rattle.c25_isa.specs.Table.{second_word, length_of}
use Rattle.c25_isa.specs.CodeAt.{StandsAt, CodeAt}
use Rattle.c25_isa.specs.Leads.{Leads}
use Rattle.c25_isa.specs.Pieces.{items_size, ItemsAt}
use Rattle.c25_code.specs.Work.{Work, calm}
use Rattle.c25_code.specs.Straight.{behind_operand, is_taken, code_size}
use Rattle.c25_code.specs.CodeRuns.{CodeRuns}
use Rattle.c25_code.specs.Items.{no_change, plain_items}
use Rattle.c25_code.proofs.Writes.{write_back}
use Rattle.c25_code.proofs.CodeRuns.{runs_lead}
use Rattle.c25_code.proofs.Jumps.{branch_leads}

pub items_size-append : (a b : List PieceItem) → items_size (a ++ b) ≡ items_size a + items_size b
items_size-append [] b = omega arith
items_size-append (l ∷ a) b = omega (arith, items_size-append a b)

pub plain_items-size : (code : List Instr) → items_size (plain_items code) ≡ code_size code
plain_items-size [] = refl
plain_items-size (i ∷ is) = omega (arith, plain_items-size is)

-- the operand of a jump that changes no register
pub keeps_work : (w : Work) → behind_operand (Through no_change) w ≡ w
keeps_work w = ap (λ m. record w { ar = m }) (write_back w.ar w.arp (w.ar w.arp) refl)

module _ (program : Memory) (marks : ℕ → ℕ) (names : List ℕ → ℕ) where
  pub items_front : (a b : List PieceItem) (pc : ℕ) → ItemsAt program marks names pc (a ++ b) → ItemsAt program marks names pc a
  items_front [] b pc at = tt
  items_front (Do i ∷ a) b pc at = (at.0, items_front a b (pc + length_of (second_word i)) at.1)
  items_front (Jump op to o ∷ a) b pc at = (at.0, items_front a b (pc + 2) at.1)
  items_front (CallTo name o ∷ a) b pc at = (at.0, items_front a b (pc + 2) at.1)
  items_front (Mark mark ∷ a) b pc at = (at.0, items_front a b pc at.1)

  moved : (a b : List PieceItem) (pc n : ℕ) → ItemsAt program marks names (pc + n + items_size a) b → ItemsAt program marks names (pc + (n + items_size a)) b
  moved a b pc n at = let e : pc + n + items_size a ≡ pc + (n + items_size a) = omega arith in subst (λ k. ItemsAt program marks names k b) e at

  pub items_back : (a b : List PieceItem) (pc : ℕ) → ItemsAt program marks names pc (a ++ b) → ItemsAt program marks names (pc + items_size a) b
  items_back [] b pc at = let e : pc ≡ pc + 0 = omega arith in subst (λ n. ItemsAt program marks names n b) e at
  items_back (Do i ∷ a) b pc at = moved a b pc (length_of (second_word i)) (items_back a b (pc + length_of (second_word i)) at.1)
  items_back (Jump op to o ∷ a) b pc at = moved a b pc 2 (items_back a b (pc + 2) at.1)
  items_back (CallTo name o ∷ a) b pc at = moved a b pc 2 (items_back a b (pc + 2) at.1)
  items_back (Mark mark ∷ a) b pc at = let e : pc + items_size a ≡ pc + (0 + items_size a) = omega arith in subst (λ n. ItemsAt program marks names n b) e (items_back a b pc at.1)

  pub code_of_items : (code : List Instr) (pc : ℕ) → ItemsAt program marks names pc (plain_items code) → CodeAt program pc code
  code_of_items [] pc at = tt
  code_of_items (i ∷ is) pc at = (at.0, code_of_items is (pc + length_of (second_word i)) at.1)

  -- straight code among items
  pub straight_leads : (code : List Instr) (pc : ℕ) (w u : Work) (put : Outputs) → ItemsAt program marks names pc (plain_items code) → pc + items_size (plain_items code) < 65536 → CodeRuns code w u put → Leads (length code) (calm program pc w) (calm program (pc + items_size (plain_items code)) u) put
  straight_leads code pc w u put at fits g =
      subst (λ n. Leads (length code) (calm program pc w) (calm program (pc + n) u) put) (sym (plain_items-size code)) (runs_lead program code pc w u put (code_of_items code pc at) g (omega (arith, fits, plain_items-size code)))

-- a jump, taken or not
pub jump_taken : (program : Memory) (pc : ℕ) (op : JumpOp) (to : ℕ) (w : Work) → StandsAt program pc (Branch op to no_change) → is_taken op w.acc ≡ true → Leads 1 (calm program pc w) (calm program to w) []
jump_taken program pc op to w at e =
    subst (λ u. Leads 1 (calm program pc w) (calm program to u) []) (keeps_work w) (
    subst (λ b. Leads 1 (calm program pc w) (calm program (cond b to (pc + 2)) (behind_operand (Through no_change) w)) []) e (branch_leads program pc w op to no_change at (λ f. absurd (true≢false (sym e ∙ f)))))

pub jump_passed : (program : Memory) (pc : ℕ) (op : JumpOp) (to : ℕ) (w : Work) → StandsAt program pc (Branch op to no_change) → pc + 2 < 65536 → is_taken op w.acc ≡ false → Leads 1 (calm program pc w) (calm program (pc + 2) w) []
jump_passed program pc op to w at fits e =
    subst (λ u. Leads 1 (calm program pc w) (calm program (pc + 2) u) []) (keeps_work w) (
    subst (λ b. Leads 1 (calm program pc w) (calm program (cond b to (pc + 2)) (behind_operand (Through no_change) w)) []) e (branch_leads program pc w op to no_change at (λ f. fits)))
