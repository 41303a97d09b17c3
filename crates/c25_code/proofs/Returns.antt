-- How a function begins and returns, by the hardware stack or by its return word.
use Rattle.std.proofs.Common.{◌≡◌, ℕ, ◌+◌, ◌*◌, ◌/◌, ◌%◌, ◌<◌, ◌≤◌, Bool, true, [], ◌∷◌, length, Option, Some, None, refl, ap, ◌∙◌, subst, inr, arith}
use Rattle.c25_isa.specs.declared.operand.Operand.TheVariants.{Direct}
use Rattle.c25_isa.specs.declared.instruction.Instr.TheVariants.{Ldpk, Popd, Call}
use Rattle.c25_isa.specs.State.{Memory, write}
use Rattle.c25_isa.specs.CodeAt.{StandsAt, CodeAt}
use Rattle.c25_isa.specs.StretchRuns.{DataAccess}
use Rattle.c25_isa.specs.Leads.{Leads}
use Rattle.c25_isa.specs.Pieces.{items_size}
use Rattle.c25_code.specs.Work.{Work, calm_modes, calm}
use Rattle.c25_code.specs.Accesses.{Accesses, LeadsWithin}
use Rattle.c25_code.specs.Straight.{code_size}
use Rattle.c25_code.specs.Items.{no_change, plain_items, entry_code, return_code}
use Rattle.c25_code.specs.Returns.{entered}
use Rattle.c25_code.proofs.Accesses.{within_on, code_within_at}
use Rattle.c25_code.proofs.AccessRuns.{call_within}

-- a page and an offset are an address
page_and_offset : (a : ℕ) → a / 128 * 128 + a % 128 ≡ a
page_and_offset a = omega arith

pub return_size : (o : Option ℕ) → 1 ≤ items_size (plain_items (return_code o))
return_size None = omega arith
return_size (Some x) = omega arith

-- it goes from one address to another in at most three steps
pub record Goes (program : Memory) (pc : ℕ) (w : Work) (to : ℕ) (u : Work) : Type 0 where
  pub steps : ℕ
  pub leads : Leads steps (calm program pc w) (calm program to u) []
  pub few : steps ≤ 3

-- and accesses data memory on the way only as it may
pub record GoesWithin (may : DataAccess → Bool) (program : Memory) (pc : ℕ) (w : Work) (to : ℕ) (u : Work) : Type 0 where
  pub steps : ℕ
  pub leads : LeadsWithin (Accesses may) steps (calm program pc w) (calm program to u) []
  pub few : steps ≤ 3

-- a call enters a function, where the return word may be accessed
pub enters_within : (may : DataAccess → Bool) (program : Memory) (word : Option ℕ) (pc entry : ℕ) (w : Work) → StandsAt program pc (Call entry no_change) → pc + 2 < 65536 → length w.stack < 8 → CodeAt program entry (entry_code word) → entry + code_size (entry_code word) < 65536 → ((a : ℕ) → word ≡ Some a → (0x300 ≤ a) × (may (record { address = a; through = None; stores = true }) ≡ true)) → GoesWithin may program pc w (entry + code_size (entry_code word)) (entered word (pc + 2) w)
enters_within may program word pc entry w at fits space there inside low = by word there inside low
  where
    push : LeadsWithin (Accesses may) 1 (calm program pc w) (calm program entry (record w { stack = (pc + 2) ∷ w.stack })) []
    push = call_within may program pc entry w at space fits

    by : (o : Option ℕ) → CodeAt program entry (entry_code o) → entry + code_size (entry_code o) < 65536 → ((a : ℕ) → o ≡ Some a → (0x300 ≤ a) × (may (record { address = a; through = None; stores = true }) ≡ true)) → GoesWithin may program pc w (entry + code_size (entry_code o)) (entered o (pc + 2) w)
    by None there inside low =
        let e : entry ≡ entry + 0 = omega arith in
        record { steps = 1; leads = subst (λ n. LeadsWithin (Accesses may) 1 (calm program pc w) (calm program n (record w { stack = (pc + 2) ∷ w.stack })) []) e push; few = omega arith }
    by (Some a) there inside low =
        let v : Work = record w { stack = (pc + 2) ∷ w.stack } in
        let address_is : a / 128 * 128 + a % 128 ≡ a = page_and_offset a in
        let in_ram : 0x300 ≤ a / 128 * 128 + a % 128 = omega (arith, (low a refl).0) in
        let takes = code_within_at may calm_modes program (Ldpk (a / 128) ∷ Popd (Direct (a % 128)) ∷ []) entry v (inr refl) there (tt, ((in_ram, tt), tt)) (tt, (ap (λ n. may (record { address = n; through = None; stores = true })) address_is ∙ (low a refl).1, tt)) inside in
        let all = within_on (Accesses may) 1 2 _ _ _ [] [] push takes in
        record {
          steps = 3;
          leads = subst (λ x. LeadsWithin (Accesses may) 3 (calm program pc w) (calm program (entry + 2) (record w { dp = a / 128; ram = write w.ram x (pc + 2) })) []) address_is all;
          few = omega arith;
        }

pub enters_by : (program : Memory) (word : Option ℕ) (pc entry : ℕ) (w : Work) → StandsAt program pc (Call entry no_change) → pc + 2 < 65536 → length w.stack < 8 → CodeAt program entry (entry_code word) → entry + code_size (entry_code word) < 65536 → ((a : ℕ) → word ≡ Some a → 0x300 ≤ a) → Goes program pc w (entry + code_size (entry_code word)) (entered word (pc + 2) w)
enters_by program word pc entry w at fits space there inside low =
    let g = enters_within (λ a. true) program word pc entry w at fits space there inside (λ a is. (low a is, refl)) in
    record { steps = g.steps; leads = g.leads.leads; few = g.few }
