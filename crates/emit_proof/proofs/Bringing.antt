-- What stands before a row brings its register to the word and makes it current, or sets the page.
use Rattle.std.proofs.Common.{◌≡◌, ℕ, ◌+◌, ◌-◌, ◌/◌, ◌<◌, Bool, true, false, List, [], ◌∷◌, ◌++◌, Option, Some, None, refl, sym, ap, ◌∙◌, arith, append_assoc, eqb-true, ltb-true}
use Rattle.std.specs.Prelude.{nat_lt, ◌==◌, ◌&&◌}
use Rattle.std.proofs.lemmas.Bool.{cond_both, and_parts}
use Rattle.c25_isa.specs.declared.instruction.Instr.{Instr}
use Rattle.c25_isa.specs.State.{write}
use Rattle.c25_isa.specs.Step.{wrap16}
use Rattle.c25_code.specs.Work.{Work}
use Rattle.c25_code.specs.CodeRuns.{CodeRuns}
use Rattle.c25_code.proofs.Writes.{write_back}
use Rattle.c25_code.proofs.CodeRuns.{runs_on}
use Rattle.acc_code.specs.declared.operation.AccOp.{AccOp}
use Rattle.emit_blocks.specs.declared.step.Reach.{Reach}
use Rattle.emit_blocks.specs.declared.step.Reach.TheVariants as reach
use Rattle.emit_blocks.specs.declared.step.Step.{Step}
use Rattle.emit_blocks.specs.Moves.{moved, made_current}
use Rattle.emit_blocks.specs.Steps.{step}
use Rattle.emit_blocks.specs.Right.{HasWords}
use Rattle.emit_blocks.specs.Runs.{Known, is_page, page_code, row_code}
use Rattle.emit_proof.specs.Reaching.{IsOverList, before_row, row_operand, row_instr, brought}
use Rattle.emit_proof.specs.KnownAlike.{KnownAlike}

-- the code of a step by its parts
pub code_is : (d : ℕ) (k : Known) (o : AccOp) (r : Reach) (xs : List Step) → row_code d k o r xs ≡ before_row k r ++ row_instr o r (row_operand d r xs) ∷ []
code_is d k o (reach.Scalar p) xs = sym (append_assoc (moved p.register (k.stands p.register) p.address) (made_current k.current p.register) (row_instr o (reach.Scalar p) (row_operand d (reach.Scalar p) xs) ∷ []))
code_is d k o reach.Pointer xs = refl
code_is d k o (reach.Word a) xs = refl
code_is d k o (reach.Constant c) xs = refl

-- a register comes to an address
moved_runs : (r : ℕ) (known : Option ℕ) (a : ℕ) (w : Work) → ((n : ℕ) → known ≡ Some n → (w.arp ≡ r) × (w.ar r ≡ n)) → a < 65536 → CodeRuns (moved r known a) w (record w { ar = write w.ar r a }) []
moved_runs r None a w stands room = record { ready = (tt, tt); reaches = refl; outputs = refl }
moved_runs r (Some p) a w stands room =
    let current : w.arp ≡ r = (stands p refl).0 in
    let here : w.ar r ≡ p = (stands p refl).1 in
    let goal : List Instr → Type 0 = λ code. CodeRuns code w (record w { ar = write w.ar r a }) [] in
    cond_both (p == a) _ _ goal
    (λ e. record { ready = tt; reaches = ap (λ m. record w { ar = m }) (sym (write_back w.ar r a (here ∙ eqb-true p a e))); outputs = refl })
    (λ e. cond_both (nat_lt p a && nat_lt (a - p) 256) _ _ goal
    (λ f. let less : p < a = ltb-true p a (and_parts (nat_lt p a) (nat_lt (a - p) 256) f).0 in
    let value : wrap16 (w.ar r + (a - p)) ≡ a = omega (arith, here, less, room) in
    record { ready = (tt, tt); reaches = ap (λ q. record w { ar = write w.ar q (wrap16 (w.ar q + (a - p))) }) current ∙ ap (λ v. record w { ar = write w.ar r v }) value; outputs = refl })
    (λ f. cond_both (nat_lt a p && nat_lt (p - a) 256) _ _ goal
    (λ g. let b = and_parts (nat_lt a p) (nat_lt (p - a) 256) g in
    let more : a < p = ltb-true a p b.0 in
    let near : p - a < 256 = ltb-true (p - a) 256 b.1 in
    let value : wrap16 (w.ar r + (65536 - (p - a))) ≡ a = omega (arith, here, more, near, room) in
    record { ready = (tt, tt); reaches = ap (λ q. record w { ar = write w.ar q (wrap16 (w.ar q + (65536 - (p - a)))) }) current ∙ ap (λ v. record w { ar = write w.ar r v }) value; outputs = refl })
    (λ g. record { ready = (tt, tt); reaches = refl; outputs = refl })))

-- a register becomes current
made_runs : (b : Bool) (r : ℕ) (w : Work) → (b ≡ true → w.arp ≡ r) → CodeRuns (made_current b r) w (record w { arp = r }) []
made_runs true r w current = record { ready = tt; reaches = ap (λ n. record w { arp = n }) (current refl); outputs = refl }
made_runs false r w current = record { ready = (tt, tt); reaches = ap (λ m. record w { ar = m; arp = r }) (write_back w.ar w.arp (w.ar w.arp) refl); outputs = refl }

-- a page becomes that of direct operands
known_page : (known : Option ℕ) (page : ℕ) → is_page known page ≡ true → known ≡ Some page
known_page None page e = cc
known_page (Some n) page e = ap Some (eqb-true n page e)

page_runs : (known : Option ℕ) (a : ℕ) (w : Work) → ((n : ℕ) → known ≡ Some n → w.dp ≡ n) → CodeRuns (page_code known a) w (record w { dp = a / 128 }) []
page_runs known a w is =
    cond_both (is_page known (a / 128)) _ _ (λ code. CodeRuns code w (record w { dp = a / 128 }) [])
    (λ e. record { ready = tt; reaches = ap (λ n. record w { dp = n }) (is (a / 128) (known_page known (a / 128) e)); outputs = refl })
    (λ e. record { ready = (tt, tt); reaches = refl; outputs = refl })

-- what stands is known only where a register is current
is_current : (b : Bool) (known : Option ℕ) (n : ℕ) → (b ≡ false → known ≡ None) → known ≡ Some n → b ≡ true
is_current true known n nowhere e = refl
is_current false known n nowhere e = absurd (none_some n (sym (nowhere refl) ∙ e))
  where
    none_some : (m : ℕ) → (let o : Option ℕ = None in o) ≡ Some m → ⊥
    none_some m e' = absurd cc

step_runs : (d : ℕ) (k : Known) (o : AccOp) (r : Reach) (xs : List Step) (w : Work) → KnownAlike d k (step o r ∷ xs) w → IsOverList r → HasWords r → CodeRuns (before_row k r) w (brought r w) []
step_runs d k o (reach.Scalar p) xs w alike list words =
    let moves = moved_runs p.register (k.stands p.register) p.address w
    (λ n e. (alike.current (is_current k.current (k.stands p.register) n (λ f. alike.nowhere f p.register) e) p.register refl, alike.stands p.register n list e)) words in
    runs_on (moved p.register (k.stands p.register) p.address) (made_current k.current p.register) w (record w { ar = write w.ar p.register p.address }) (brought (reach.Scalar p) w) [] [] moves
    (made_runs k.current p.register (record w { ar = write w.ar p.register p.address }) (λ e. alike.current e p.register refl))
step_runs d k o reach.Pointer xs w alike list words = made_runs k.current 1 w (λ e. alike.current e 1 refl)
step_runs d k o (reach.Word a) xs w alike list words = page_runs k.page a w alike.page
step_runs d k o (reach.Constant c) xs w alike list words = record { ready = tt; reaches = refl; outputs = refl }

pub before_runs : (d : ℕ) (k : Known) (x : Step) (xs : List Step) (w : Work) → KnownAlike d k (x ∷ xs) w → IsOverList x.reach → HasWords x.reach → CodeRuns (before_row k x.reach) w (brought x.reach w) []
before_runs d k x xs w alike list words = step_runs d k x.row x.reach xs w alike list words
