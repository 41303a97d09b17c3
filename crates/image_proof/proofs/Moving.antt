-- A walk knows where a register stands behind what brings it there, and which one is current.
use Rattle.std.proofs.Common.{◌≡◌, ℕ, ◌+◌, ◌-◌, ◌<◌, ◌≤◌, Bool, true, false, if◌then◌else◌, List, [], ◌∷◌, Option, Some, None, refl, sym, ap, ◌∙◌, arith, eqb-true, ltb-true, eq-eqb, subst}
use Rattle.std.specs.Prelude.{nat_lt, nat_le, ◌==◌, ◌&&◌, option_map}
use Rattle.std.proofs.lemmas.Bool.{cond_both, and_parts, and_from, or_right, le-leb}
use Rattle.c25_isa.specs.declared.instruction.Instr.{Instr}
use Rattle.c25_isa.specs.declared.instruction.Instr.TheVariants.{Adrk, Sbrk, Lrlk}
use Rattle.c25_isa.specs.Step.{wrap16}
use Rattle.c25_isa.specs.Walk.{Known, Listed, holding, current_changed, goes_over_scalars, access_by}
use Rattle.c25_isa.specs.AddressCount.{is_counted_register, may_be_counted}
use Rattle.emit_blocks.specs.Moves.{moved, made_current}
use Rattle.image_proof.proofs.Parts.{known_after, Gives, one_if, gives_none, gives_counted}

-- a register of lists
pub record IsOfList (r : ℕ) : Type 0 where
  pub low : 2 ≤ r
  pub high : r ≤ 5

pub goes : (r : ℕ) → IsOfList r → goes_over_scalars r ≡ true
goes r list = and_from (nat_le 2 r) (nat_le r 5) (le-leb 2 r list.low) (le-leb r 5 list.high)

pub is_counted : (r : ℕ) → IsOfList r → is_counted_register r ≡ true
is_counted r list = or_right (r == 0) (goes_over_scalars r) (goes r list)

-- a register stands here behind, and no other one is changed
pub record Brings (w v : Known) (r a : ℕ) : Type 0 where
  pub arp : v.arp ≡ w.arp
  pub here : v.ar r ≡ Some a
  pub others : (q : ℕ) → (q == r) ≡ false → v.ar q ≡ w.ar q

same_register : (r : ℕ) → (r == r) ≡ true
same_register r = eq-eqb r r refl

held : (w : Known) (r a : ℕ) → Brings w (holding w r (Some a)) r a
held w r a = record {
  arp = refl;
  here = ap (λ b. if b then Some a else w.ar r) (same_register r);
  others = λ q other. ap (λ b. if b then Some a else w.ar q) other;
}

-- the current register is changed
pub changed_brings : (w : Known) (r p a : ℕ) (change : Option ℕ → Option ℕ) → w.arp ≡ Some r → w.ar r ≡ Some p → change (Some p) ≡ Some a → Brings w (current_changed w w.arp change) r a
changed_brings w r p a change current here value =
    subst (λ v. Brings w v r a) (sym (ap (λ o. current_changed w o change) current ∙ ap (holding w r) (ap change here ∙ value))) (held w r a)

-- how many instructions bring a register to an address
abbrev pub move_count : Option ℕ → ℕ → ℕ
move_count None a = 1
move_count (Some p) a = one_if (if p == a then false else true)

pub record Moves (w : Known) (r a : ℕ) (code : List Instr) (count : ℕ) : Type 0 where
  pub gives : Gives w code [] count
  pub brings : Brings w (known_after w code) r a

loads : (w : Known) (r a : ℕ) → IsOfList r → Moves w r a (Lrlk r a ∷ []) 1
loads w r a list = record { gives = gives_counted w (Lrlk r a) true refl (is_counted r list); brings = held w r a }

by_current : (w : Known) (r : ℕ) → IsOfList r → w.arp ≡ Some r → may_be_counted w.arp ≡ true
by_current w r list current = ap may_be_counted current ∙ is_counted r list

pub moved_brings : (r : ℕ) (known : Option ℕ) (a : ℕ) (w : Known) → ((n : ℕ) → known ≡ Some n → (w.arp ≡ Some r) × (w.ar r ≡ Some n)) → IsOfList r → a < 65536 → Moves w r a (moved r known a) (move_count known a)
moved_brings r None a w stands list room = loads w r a list
moved_brings r (Some p) a w stands list room = by (p == a) refl
  where
    current : w.arp ≡ Some r
    current = (stands p refl).0

    here : w.ar r ≡ Some p
    here = (stands p refl).1

    far : Moves w r a (if nat_lt p a && nat_lt (a - p) 256 then Adrk (a - p) ∷ [] else (if nat_lt a p && nat_lt (p - a) 256 then Sbrk (p - a) ∷ [] else Lrlk r a ∷ [])) 1
    far =
        cond_both (nat_lt p a && nat_lt (a - p) 256) _ _ (λ code. Moves w r a code 1)
        (λ f. let less : p < a = ltb-true p a (and_parts (nat_lt p a) (nat_lt (a - p) 256) f).0 in
        let value : wrap16 (p + (a - p)) ≡ a = omega (arith, less, room) in
        record { gives = gives_counted w (Adrk (a - p)) true refl (by_current w r list current); brings = changed_brings w r p a (option_map (λ x. wrap16 (x + (a - p)))) current here (ap Some value) })
        (λ f. cond_both (nat_lt a p && nat_lt (p - a) 256) _ _ (λ code. Moves w r a code 1)
        (λ g. let b = and_parts (nat_lt a p) (nat_lt (p - a) 256) g in
        let more : a < p = ltb-true a p b.0 in
        let near : p - a < 256 = ltb-true (p - a) 256 b.1 in
        let value : wrap16 (p + (65536 - (p - a))) ≡ a = omega (arith, more, near, room) in
        record { gives = gives_counted w (Sbrk (p - a)) true refl (by_current w r list current); brings = changed_brings w r p a (option_map (λ x. wrap16 (x + (65536 - (p - a))))) current here (ap Some value) })
        (λ g. loads w r a list))

    by : (b : Bool) → (p == a) ≡ b → Moves w r a (if b then [] else (if nat_lt p a && nat_lt (a - p) 256 then Adrk (a - p) ∷ [] else (if nat_lt a p && nat_lt (p - a) 256 then Sbrk (p - a) ∷ [] else Lrlk r a ∷ []))) (one_if (if b then false else true))
    by true e = record { gives = gives_none w; brings = record { arp = refl; here = here ∙ ap Some (eqb-true p a e); others = λ q other. refl } }
    by false e = far

-- a register is current behind, and nothing else is changed
pub record Points (w v : Known) (r : ℕ) : Type 0 where
  pub arp : v.arp ≡ Some r
  pub others : (q : ℕ) → v.ar q ≡ w.ar q

pub record Makes (w : Known) (r : ℕ) (code : List Instr) : Type 0 where
  pub gives : Gives w code [] 0
  pub points : Points w (known_after w code) r

pub made_points : (b : Bool) (r : ℕ) (w : Known) → (b ≡ true → w.arp ≡ Some r) → Makes w r (made_current b r)
made_points true r w current = record { gives = gives_none w; points = record { arp = current refl; others = λ q. refl } }
made_points false r w current = record { gives = gives_counted w _ false refl refl; points = record { arp = refl; others = λ q. refl } }

-- an access through a register of lists is listed
pub listed_there : (w : Known) (r a : ℕ) → IsOfList r → w.arp ≡ Some r → w.ar r ≡ Some a → access_by w w.arp ≡ Listed a
listed_there w r a list current here = ap (access_by w) current ∙ rw (goes r list, here) refl
