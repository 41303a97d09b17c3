-- A walk goes one instruction further.
use Rattle.std.proofs.Common.{◌≡◌, ℕ, ◌+◌, ◌<◌, ◌≤◌, Bool, true, false, cond, List, ◌∷◌, length, get_or, drop, Option, None, sym, ap, ◌∙◌, subst, arith}
use Rattle.std.proofs.lemmas.List.{drop_more}
use Rattle.c25_isa.specs.Walk.{Placed, is_cut_behind, access, unknown_at}
use Rattle.c25_isa.specs.AddressCount.{is_address_instruction}
use Rattle.c25_walk.specs.declared.fault.WalkFault.{WalkFault}
use Rattle.c25_walk.specs.declared.fault.WalkFault.TheVariants.{BadWord, UnknownAddress, NoMemory}
use Rattle.c25_walk.specs.Walking.{Walking, walked_over, cut_where, behind_one, behind_all, or_else, first_unknown, IsUnknown}
use Rattle.c25_walk.proofs.Streams.{count_cut}

-- the rest of the instructions, from one of them on
rest_from : (code : List Placed) (i : ℕ) (p : Placed) → i < length code → p ≡ get_or code i p → drop i code ≡ p ∷ drop (i + 1) code
rest_from code i p lt is = drop_more code i p lt ∙ ap (λ x. x ∷ drop (i + 1) code) (sym is)

-- behind an instruction and the cut behind it
pub one_behind : (targets : List ℕ) (w w1 w2 : Walking) (p : Placed) (cut : Bool) → w1 ≡ walked_over w p → cut ≡ is_cut_behind targets p → w2 ≡ cut_where cut w1 → w2 ≡ behind_one targets w p
one_behind targets w w1 w2 p cut over is there =
    there ∙ ap (cut_where cut) over ∙ ap (λ b. cut_where b (walked_over w p)) is

pub walked_more : (targets : List ℕ) (w w2 : Walking) (code : List Placed) (i : ℕ) (p : Placed) → i < length code → p ≡ get_or code i p → w2 ≡ behind_one targets w p
    → behind_all targets w2 (drop (i + 1) code) ≡ behind_all targets w (drop i code)
walked_more targets w w2 code i p lt is there =
    ap (λ v. behind_all targets v (drop (i + 1) code)) there ∙ sym (ap (behind_all targets w) (rest_from code i p lt is))

pub unknown_more : (targets : List ℕ) (w w2 : Walking) (code : List Placed) (i : ℕ) (p : Placed) → i < length code → p ≡ get_or code i p → w2 ≡ behind_one targets w p
    → unknown_at p.at (access w.known p.instr) ≡ None → first_unknown targets w2 (drop (i + 1) code) ≡ first_unknown targets w (drop i code)
unknown_more targets w w2 code i p lt is there known =
    ap (λ v. first_unknown targets v (drop (i + 1) code)) there
    ∙ sym (ap (first_unknown targets w) (rest_from code i p lt is) ∙ ap (λ o. or_else o (first_unknown targets (behind_one targets w p) (drop (i + 1) code))) known)

same_fault : (o rest : Option ℕ) (fault : WalkFault) → IsUnknown o fault → IsUnknown (or_else o rest) fault
same_fault o rest (BadWord at) says = says
same_fault o rest (UnknownAddress at) says = ap (λ v. or_else v rest) says
same_fault o rest NoMemory says = says

pub unknown_here : (targets : List ℕ) (w : Walking) (code : List Placed) (i : ℕ) (p : Placed) (fault : WalkFault) → i < length code → p ≡ get_or code i p
    → IsUnknown (unknown_at p.at (access w.known p.instr)) fault → IsUnknown (first_unknown targets w (drop i code)) fault
unknown_here targets w code i p fault lt is says =
    subst (λ l. IsUnknown (first_unknown targets w l) fault) (sym (rest_from code i p lt is))
    (same_fault (unknown_at p.at (access w.known p.instr)) (first_unknown targets (behind_one targets w p) (drop (i + 1) code)) fault says)

at_most_one : (b : Bool) → cond b 1 0 ≤ 1
at_most_one true = omega arith
at_most_one false = omega arith

-- the count rises by one at most
pub count_more : (targets : List ℕ) (w w2 : Walking) (p : Placed) (i : ℕ) → w2 ≡ behind_one targets w p → w.count ≤ i → w2.count ≤ i + 1
count_more targets w w2 p i there few =
    let same : w2.count ≡ w.count + cond (is_address_instruction w.known p.instr) 1 0 = ap (λ (v : Walking). v.count) there ∙ count_cut (is_cut_behind targets p) (walked_over w p) in
    omega (arith, same, few, at_most_one (is_address_instruction w.known p.instr))
