-- A walk knows where a register stands behind the change of an access.
use Rattle.std.proofs.Common.{◌≡◌, ℕ, ◌+◌, ◌-◌, ◌<◌, true, if◌then◌else◌, Option, Some, None, refl, sym, ap, ◌∙◌, arith, eqb-true}
use Rattle.std.specs.Prelude.{nat_le, ◌==◌}
use Rattle.std.proofs.lemmas.Bool.{cond_both}
use Rattle.c25_isa.specs.declared.operand.Change.{Change}
use Rattle.c25_isa.specs.declared.operand.Change.TheVariants.{Stay, Down, Up, DownIndex, UpIndex}
use Rattle.c25_isa.specs.Step.{wrap16}
use Rattle.c25_isa.specs.Walk.{Known, number_changed, known_behind_change, known_behind_next}
use Rattle.emit_blocks.specs.Moves.{change_by_index, change_to, is_by_index, address_behind, other_than}
use Rattle.image_proof.proofs.Moving.{Brings, changed_brings}

-- the number behind a change is that at which the register is noted to stand
pub number_behind : (d a : ℕ) (index next : Option ℕ) → a < 65536 → ((b : ℕ) → next ≡ Some b → b < 65536) → (is_by_index (change_to d a next) ≡ true → index ≡ Some d) → number_changed (change_to d a next) index (Some a) ≡ Some (address_behind d a (change_to d a next))
number_behind d a index None room words by = refl
number_behind d a index (Some b) room words by =
    let below : b < 65536 = words b refl in
    let goal : Change → Type 0 = λ c. (is_by_index c ≡ true → index ≡ Some d) → number_changed c index (Some a) ≡ Some (address_behind d a c) in
    cond_both (b == a + 1) Up (if a == b + 1 then Down else change_by_index d a b) goal
    (λ e h. let up : b ≡ a + 1 = eqb-true b (a + 1) e in let value : wrap16 (a + 1) ≡ a + 1 = omega (arith, up, below) in ap Some value)
    (λ e. cond_both (a == b + 1) Down (change_by_index d a b) goal
    (λ f h. let down : a ≡ b + 1 = eqb-true a (b + 1) f in let value : wrap16 (a + 65535) ≡ a - 1 = omega (arith, down, room) in ap Some value)
    (λ f. cond_both (nat_le d 1) Stay (if b == a + d then UpIndex else (if a == b + d then DownIndex else Stay)) goal
    (λ g h. refl)
    (λ g. cond_both (b == a + d) UpIndex (if a == b + d then DownIndex else Stay) goal
    (λ t h. let up : b ≡ a + d = eqb-true b (a + d) t in let value : wrap16 (a + d) ≡ a + d = omega (arith, up, below) in ap (λ i. number_changed UpIndex i (Some a)) (h refl) ∙ ap Some value)
    (λ t. cond_both (a == b + d) DownIndex Stay goal
    (λ v h. let down : a ≡ b + d = eqb-true a (b + d) v in let value : wrap16 (a + (65536 - d)) ≡ a - d = omega (arith, down, room) in ap (λ i. number_changed DownIndex i (Some a)) (h refl) ∙ ap Some value)
    (λ v h. refl))))) by

-- so the current register stands there
pub change_brings : (c : Change) (w : Known) (r a b : ℕ) → w.arp ≡ Some r → w.ar r ≡ Some a → number_changed c (w.ar 0) (Some a) ≡ Some b → Brings w (known_behind_change w c) r b
change_brings Stay w r a b current here value = record { arp = refl; here = here ∙ value; others = λ q other. refl }
change_brings Down w r a b current here value = changed_brings w r a b (number_changed Down (w.ar 0)) current here value
change_brings Up w r a b current here value = changed_brings w r a b (number_changed Up (w.ar 0)) current here value
change_brings DownIndex w r a b current here value = changed_brings w r a b (number_changed DownIndex (w.ar 0)) current here value
change_brings UpIndex w r a b current here value = changed_brings w r a b (number_changed UpIndex (w.ar 0)) current here value

-- a next register changes none, and is current behind
pub next_keeps : (w : Known) (next : Option ℕ) → (known_behind_next w next).ar ≡ w.ar
next_keeps w None = refl
next_keeps w (Some q) = refl

pub next_points : (w : Known) (r q : ℕ) (next : Option ℕ) → w.arp ≡ Some r → next ≡ Some q → (known_behind_next w (other_than r next)).arp ≡ Some q
next_points w r q None current e = absurd cc
next_points w r q (Some n) current e =
    let same : n ≡ q = cc in
    cond_both (n == r) None (Some n) (λ o. (known_behind_next w o).arp ≡ Some q)
    (λ yes. current ∙ ap Some (sym (eqb-true n r yes) ∙ same))
    (λ no. ap Some same)
