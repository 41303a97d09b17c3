-- Ways through a routine to its return: what stands at a place leads back to the caller with a value.
use Rattle.std.proofs.Common.{◌≡◌, ◌≢◌, ◌⊎◌, ℕ, ◌+◌, ◌/◌, ◌%◌, ◌^◌, ◌<◌, ◌≤◌, Bool, true, false, List, [], ◌∷◌, ◌++◌, length, refl, sym, ◌∙◌, subst, inr, arith, ⊎_elim}
use Rattle.std.proofs.Math.Nat.{mod-le}
use Rattle.std.proofs.lemmas.List.Elements.{All-cons}
use Rattle.c25_isa.specs.declared.operand.Operand.TheVariants.{Direct}
use Rattle.c25_isa.specs.declared.instruction.JumpOp.{JumpOp}
use Rattle.c25_isa.specs.declared.instruction.Instr.{Instr}
use Rattle.c25_isa.specs.declared.instruction.Instr.TheVariants.{Rptk, Subc, Ret, Call}
use Rattle.c25_isa.specs.declared.piece.PieceItem.{PieceItem}
use Rattle.c25_isa.specs.declared.piece.PieceItem.TheVariants.{Do, Mark, Jump, CallTo}
use Rattle.c25_isa.specs.CodeAt.{StandsAt, CodeAt}
use Rattle.c25_isa.specs.Direct.{is_scratch}
use Rattle.c25_isa.specs.Pieces.{items_size, ItemsAt}
use Rattle.c25_isa.specs.State.{Memory, write}
use Rattle.c25_isa.specs.Step.{wrap16}
use Rattle.c25_isa.specs.Table.{second_word, length_of}
use Rattle.c25_isa.proofs.CodeAt.{stands_below}
use Rattle.c25_code.specs.Work.{Work, calm_modes, calm, InRange}
use Rattle.c25_code.specs.Accesses.{Accesses, LeadsWithin, CodeMay, at_scratch}
use Rattle.c25_code.specs.Items.{plain_items}
use Rattle.c25_code.specs.Straight.{behind_instr, behind_code, outputs_of_code, CodeReady, code_size, is_taken}
use Rattle.c25_code.proofs.Accesses.{within_on, code_within_at}
use Rattle.c25_code.proofs.AccessRuns.{jump_taken_within, jump_passed_within, call_within, return_within}
use Rattle.c25_code.proofs.Division.{division_within}
use Rattle.c25_code.proofs.Items.{items_front, items_back, plain_items-size, code_of_items}
use Rattle.c25_code.proofs.Ranges.{behind_instr-fits}
use Rattle.c25_code.proofs.Writes.{write_other}
use Rattle.c25_helper.specs.Routines.{no_change}
use Rattle.c25_helper.specs.Results.{HelperKeeps, ComesBackWithin}

-- not one of the scratch words
abbrev pub Outside : ℕ → Type 0
Outside a = (a < 0x300) ⊎ (0x310 ≤ a)

-- two memories that differ in scratch words alone
abbrev pub SameOutside : Memory → Memory → Type 0
SameOutside m n = (a : ℕ) → Outside a → m a ≡ n a

outside_not : (k a : ℕ) → 0x300 ≤ k → k < 0x310 → Outside a → a ≢ k
outside_not k a low high out e = ⊎_elim (λ (h : a < 0x300). absurd (omega (arith, h, e))) (λ (h : 0x310 ≤ a). absurd (omega (arith, h, e))) out

pub scratch_written : (m n : Memory) (k v : ℕ) → 0x300 ≤ k → k < 0x310 → SameOutside m n → SameOutside (write m k v) n
scratch_written m n k v low high same a out = write_other m k v a (outside_not k a low high out) ∙ same a out

-- items with a word stand below the end of program memory
words_below : (program : Memory) (marks : ℕ → ℕ) (names : List ℕ → ℕ) (items : List PieceItem) (at : ℕ) → ItemsAt program marks names at items → 1 ≤ items_size items → at < 65536
words_below program marks names [] at stands some = absurd (omega (arith, some))
words_below program marks names (Do i ∷ items) at stands some = stands_below program at i stands.0
words_below program marks names (Mark mark ∷ items) at stands some = words_below program marks names items at stands.1 (omega (arith, some))
words_below program marks names (Jump op to o ∷ items) at stands some = stands_below program at _ stands.0
words_below program marks names (CallTo name o ∷ items) at stands some = stands_below program at _ stands.0

-- straight code keeps each part in its range
code_fits : (program : Memory) (code : List Instr) (at : ℕ) (w : Work) → CodeAt program at code → CodeReady code w → InRange w → InRange (behind_code code w)
code_fits program [] at w stands ready fits = fits
code_fits program (i ∷ code) at w stands ready fits =
    code_fits program code (at + length_of (second_word i)) (behind_instr i w) stands.1 ready.1 (behind_instr-fits i w stands.0.fits ready.0 fits)

-- a routine in program memory, with the addresses of marks and names, that was called from some work, and goes back to an address with a value
pub record Visit : Type 0 where
  pub program : Memory
  pub marks : ℕ → ℕ
  pub names : List ℕ → ℕ
  pub caller : Work
  pub back : ℕ
  pub value : ℕ

-- items stand at an address there
abbrev pub StandThere : Visit → ℕ → List PieceItem → Type 0
StandThere v at items = ItemsAt v.program v.marks v.names at items

module _ (v : Visit) where
  -- what it begins with, and what it works on then, with another ACC, T and memory, and an SXM of its own
  abbrev pub begun : Work
  begun = record v.caller { stack = v.back ∷ v.caller.stack }

  abbrev pub busy_with : Bool → ℕ → ℕ → Memory → Work
  busy_with sxm t acc ram = record begun { acc = acc; t = t; dp = 6; sxm = sxm; ram = ram }

  abbrev pub busy : ℕ → Memory → Work
  busy acc ram = busy_with true v.caller.t acc ram

  -- from an address it goes back within so many steps
  pub record GoesBack (at most : ℕ) (w : Work) : Type 0 where
    pub steps : ℕ
    pub few : steps ≤ most
    pub work : Work
    pub leads : LeadsWithin (Accesses at_scratch) steps (calm v.program at w) (calm v.program v.back work) []
    pub answers : wrap16 work.acc ≡ v.value
    pub keeps : HelperKeeps v.caller work
    pub ranges : InRange v.caller → InRange w → InRange work

  -- so it does from wherever these items stand, and from a mark
  abbrev pub Back : List PieceItem → ℕ → Work → Type 0
  Back items most w = (at : ℕ) → StandThere v at items → GoesBack at most w

  abbrev pub FromMark : ℕ → ℕ → Work → Type 0
  FromMark mark most w = GoesBack (v.marks mark) most w

  -- behind some steps
  behind : (n most at to : ℕ) (w u : Work) → LeadsWithin (Accesses at_scratch) n (calm v.program at w) (calm v.program to u) [] → (InRange w → InRange u) → GoesBack to most u → GoesBack at (n + most) w
  behind n most at to w u leads fits g = record {
    steps = n + g.steps;
    few = omega (arith, g.few);
    work = g.work;
    leads = within_on (Accesses at_scratch) n g.steps _ _ _ [] [] leads g.leads;
    answers = g.answers;
    keeps = g.keeps;
    ranges = λ first here. g.ranges first (fits here);
  }

  pub wider : (few most : ℕ) {at : ℕ} {w : Work} → few ≤ most → GoesBack at few w → GoesBack at most w
  wider few most le g = record { steps = g.steps; few = omega (arith, g.few); work = g.work; leads = g.leads; answers = g.answers; keeps = g.keeps; ranges = g.ranges }

  -- straight code
  pub code_back : (code : List Instr) (rest : List PieceItem) (most : ℕ) (w : Work) → 1 ≤ items_size rest → CodeReady code w → CodeMay at_scratch code w → outputs_of_code code w ≡ [] → Back rest most (behind_code code w) → Back (plain_items code ++ rest) (length code + most) w
  code_back code rest most w some ready allowed none next at stands =
      let here = code_of_items v.program v.marks v.names code at (items_front v.program v.marks v.names (plain_items code) rest at stands) in
      let there = subst (λ n. StandThere v (at + n) rest) (plain_items-size code) (items_back v.program v.marks v.names (plain_items code) rest at stands) in
      behind (length code) most at (at + code_size code) w (behind_code code w)
      (subst (LeadsWithin (Accesses at_scratch) (length code) (calm v.program at w) (calm v.program (at + code_size code) (behind_code code w))) none (code_within_at at_scratch calm_modes v.program code at w (inr refl) here ready allowed (words_below v.program v.marks v.names rest _ there some)))
      (code_fits v.program code at w here ready)
      (next (at + code_size code) there)

  -- a jump
  pub jump_back : (op : JumpOp) (to : ℕ) (rest : List PieceItem) (most : ℕ) (w : Work) → 1 ≤ items_size rest → (is_taken op w.acc ≡ true → FromMark to most w) → (is_taken op w.acc ≡ false → Back rest most w) → Back (Jump op to no_change ∷ rest) (1 + most) w
  jump_back op to rest most w some taken passed at stands = by (is_taken op w.acc) refl
    where
      by : (b : Bool) → is_taken op w.acc ≡ b → GoesBack at (1 + most) w
      by true e = behind 1 most at (v.marks to) w w (jump_taken_within at_scratch v.program at op (v.marks to) w stands.0 e) (λ fits. fits) (taken e)
      by false e = behind 1 most at (at + 2) w w (jump_passed_within at_scratch v.program at op (v.marks to) w stands.0 (words_below v.program v.marks v.names rest _ stands.1 some) e) (λ fits. fits) (passed e (at + 2) stands.1)

  -- to a mark, and from one
  pub mark_back : (mark : ℕ) (rest : List PieceItem) (most : ℕ) (w : Work) → FromMark mark most w → Back (Mark mark ∷ rest) most w
  mark_back mark rest most w next at stands = subst (λ n. GoesBack n most w) stands.0 next

  pub from_mark : (front rest : List PieceItem) (mark most at : ℕ) (w : Work) → StandThere v at (front ++ Mark mark ∷ rest) → Back rest most w → FromMark mark most w
  from_mark front rest mark most at w stands next =
      let there = items_back v.program v.marks v.names front (Mark mark ∷ rest) at stands in
      subst (λ n. GoesBack n most w) (sym there.0) (next (at + items_size front) there.1)

  -- a division of ACC
  pub division_back : (offset : ℕ) (rest : List PieceItem) (most acc : ℕ) (ram : Memory) → offset < 128 → is_scratch (768 + offset) ≡ true → 1 ≤ items_size rest → acc < 65536 → 1 ≤ ram (768 + offset) → ram (768 + offset) < 32768
      → ((after : ℕ) → after % 65536 ≡ acc / ram (768 + offset) → after / 65536 ≡ acc % ram (768 + offset) → Back rest most (busy after ram))
      → Back (Do (Rptk 15) ∷ Do (Subc (Direct offset)) ∷ rest) (17 + most) (busy acc ram)
  division_back offset rest most acc ram short scratch some fits positive small next at stands =
      let e : at + 1 + 1 ≡ at + 2 = omega arith in
      let there = subst (λ n. StandThere v n rest) e stands.1.1 in
      let d = division_within at_scratch v.program at offset (busy acc ram) scratch (stands.0, (stands.1.0, tt)) (omega arith) positive small fits (words_below v.program v.marks v.names rest _ there some) in
      behind 17 most at (at + 2) (busy acc ram) (busy d.0 ram) d.1
      (λ r. record { acc = omega (arith, d.3, mod-le acc (ram (768 + offset)), fits); t = r.t; p = r.p; ar = r.ar; arp = r.arp; dp = r.dp; stack = r.stack; room = r.room; ram = r.ram; input = r.input })
      (next d.0 d.2 d.3 (at + 2) there)

  -- the return
  pub return_back : (rest : List PieceItem) (slack : ℕ) (sxm : Bool) (t acc : ℕ) (ram : Memory) → wrap16 acc ≡ v.value → SameOutside ram v.caller.ram → Back (Do Ret ∷ rest) (1 + slack) (busy_with sxm t acc ram)
  return_back rest slack sxm t acc ram is same at stands = record {
    steps = 1;
    few = omega arith;
    work = record (busy_with sxm t acc ram) { stack = v.caller.stack };
    leads = return_within at_scratch v.program at (busy_with sxm t acc ram) stands.0 tt;
    answers = is;
    keeps = record { ar = refl; stack = refl; ram = same; input = refl };
    ranges = λ first here. record { acc = here.acc; t = here.t; p = here.p; ar = here.ar; arp = here.arp; dp = here.dp; stack = first.stack; room = first.room; ram = here.ram; input = here.input };
  }

-- from the call
pub call_back : (v : Visit) (entry pc most : ℕ) → StandsAt v.program pc (Call entry no_change) → v.back ≡ pc + 2 → pc + 2 < 65536 → length v.caller.stack < 8 → most ≤ 399
    → GoesBack v entry most (begun v) → ComesBackWithin v.program pc v.caller v.value
call_back v entry pc most here at below short few g =
    let w : Work = v.caller in
    let push = subst (λ n. LeadsWithin (Accesses at_scratch) 1 (calm v.program pc w) (calm v.program entry (record w { stack = n ∷ w.stack })) []) (sym at) (call_within at_scratch v.program pc entry w here short below) in
    let all = within_on (Accesses at_scratch) 1 g.steps _ _ _ [] [] push (subst (λ n. LeadsWithin (Accesses at_scratch) g.steps (calm v.program entry (begun v)) (calm v.program n g.work) []) at g.leads) in
    record {
      back = record {
        steps = 1 + g.steps;
        few = omega (arith, g.few);
        work = g.work;
        leads = all.leads;
        answers = g.answers;
        keeps = g.keeps;
        ranges = λ r. g.ranges r (record { acc = r.acc; t = r.t; p = r.p; ar = r.ar; arp = r.arp; dp = r.dp; stack = All-cons (λ n. n < 2 ^ 16) v.back w.stack (omega (arith, below, at)) r.stack; room = omega (arith, short); ram = r.ram; input = r.input });
      };
      within = all;
    }
