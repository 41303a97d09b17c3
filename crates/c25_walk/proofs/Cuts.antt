-- Cuts by a table of marks.
use Rattle.std.proofs.Common.{◌≡◌, ℕ, ◌+◌, ◌<◌, ◌≤◌, Bool, true, false, List, [], ◌∷◌, length, get_or, drop, Option, Some, None, refl, sym, ap, ◌∙◌, arith}
use Rattle.std.specs.Prelude.{◌||◌, ◌&&◌, ◌==◌, nat_lt, nat_le}
use Rattle.std.specs.List.{list_any}
use Rattle.std.proofs.lemmas.Bool.Decides.{nat_tests}
use Rattle.std.proofs.lemmas.List.{drop_more}
use Rattle.c25_isa.specs.Walk.{Placed, jump_target, ends_stretch, is_cut_behind}
use Rattle.c25_walk.specs.Decoding.{IsPlaced}
use Rattle.c25_walk.specs.Marks.{targets_of}

or_assoc : (x y z : Bool) → ((x || y) || z) ≡ (x || (y || z))
or_assoc true y z = refl
or_assoc false y z = refl

or_swap : (x y a b : Bool) → ((x || y) || (a || b)) ≡ ((x || a) || (y || b))
or_swap true y a b = refl
or_swap false true true b = refl
or_swap false true false b = refl
or_swap false false true b = refl
or_swap false false false b = refl

pub or_false : (x : Bool) → (x || false) ≡ x
or_false true = refl
or_false false = refl

between : (at behind to : ℕ) → at < behind → behind ≤ at + 2 → (nat_lt at to && nat_le to behind) ≡ ((to == at + 1) || (to == behind))
between at behind to some few = grind (arith, nat_tests)

any_between : (at behind : ℕ) (targets : List ℕ) → at < behind → behind ≤ at + 2
    → list_any (λ to. nat_lt at to && nat_le to behind) targets ≡ (list_any (λ to. to == at + 1) targets || list_any (λ to. to == behind) targets)
any_between at behind [] some few = refl
any_between at behind (to ∷ targets) some few =
    ap (λ b. b || list_any (λ to. nat_lt at to && nat_le to behind) targets) (between at behind to some few)
    ∙ ap (λ b. ((to == at + 1) || (to == behind)) || b) (any_between at behind targets some few)
    ∙ or_swap (to == at + 1) (to == behind) (list_any (λ to. to == at + 1) targets) (list_any (λ to. to == behind) targets)

-- a cut is behind an instruction that ends a stretch, or where the next word or the one behind it is a target
pub cut_is : (targets : List ℕ) (p : Placed) (value : Bool) → IsPlaced p → value ≡ (ends_stretch p.instr || list_any (λ to. to == p.at + 1) targets)
    → (value || list_any (λ to. to == p.behind) targets) ≡ is_cut_behind targets p
cut_is targets p value placed is =
    ap (λ b. b || list_any (λ to. to == p.behind) targets) is
    ∙ or_assoc (ends_stretch p.instr) (list_any (λ to. to == p.at + 1) targets) (list_any (λ to. to == p.behind) targets)
    ∙ ap (λ b. ends_stretch p.instr || b) (sym (any_between p.at p.behind targets placed.some placed.few))

-- the value of the first two tests
pub ends_there : (value ends next : Bool) → value ≡ true → ends ≡ true → value ≡ (ends || next)
ends_there value ends next holds there = holds ∙ ap (λ b. b || next) (sym there)

pub goes_on : (value ends next : Bool) → ends ≡ false → value ≡ next → value ≡ (ends || next)
goes_on value ends next not is = is ∙ ap (λ b. b || next) (sym not)

-- where one of them holds, and where the third one tells
pub cut_by_value : (targets : List ℕ) (p : Placed) (value : Bool) → IsPlaced p → value ≡ (ends_stretch p.instr || list_any (λ to. to == p.at + 1) targets) → value ≡ true → value ≡ is_cut_behind targets p
cut_by_value targets p value placed is holds =
    holds ∙ ap (λ b. b || list_any (λ to. to == p.behind) targets) (sym holds) ∙ cut_is targets p value placed is

pub cut_by_last : (targets : List ℕ) (p : Placed) (value : Bool) → IsPlaced p → value ≡ (ends_stretch p.instr || list_any (λ to. to == p.at + 1) targets) → value ≡ false → list_any (λ to. to == p.behind) targets ≡ is_cut_behind targets p
cut_by_last targets p value placed is fails =
    ap (λ b. b || list_any (λ to. to == p.behind) targets) (sym fails) ∙ cut_is targets p value placed is

-- an instruction that is a jump adds its target to those behind it, and another one adds none
abbrev with_target : (ℕ → Bool) → Option ℕ → Bool → Bool
with_target f None rest = rest
with_target f (Some to) rest = f to || rest

target_more : (f : ℕ → Bool) (target : Option ℕ) (p : Placed) (ps : List Placed) → target ≡ jump_target p.instr → list_any f (targets_of (p ∷ ps)) ≡ with_target f target (list_any f (targets_of ps))
target_more f None p ps is = rw (← is) refl
target_more f (Some to) p ps is = rw (← is) refl

-- the marks of the targets so far and those left, behind one instruction more
pub marked_more : (f : ℕ → Bool) (mark : Bool) (code : List Placed) (i : ℕ) (p : Placed) (target : Option ℕ) → i < length code → p ≡ get_or code i p → target ≡ jump_target p.instr
    → (mark || list_any f (targets_of (drop i code))) ≡ (mark || with_target f target (list_any f (targets_of (drop (i + 1) code))))
marked_more f mark code i p target lt is names =
    ap (λ l. mark || list_any f (targets_of l)) (drop_more code i p lt ∙ ap (λ x. x ∷ drop (i + 1) code) (sym is))
    ∙ ap (λ b. mark || b) (target_more f target p (drop (i + 1) code) names)

-- that instruction is a jump
pub marked_target : (f : ℕ → Bool) (mark : Bool) (code : List Placed) (i to : ℕ) (p : Placed) → i < length code → p ≡ get_or code i p → Some to ≡ jump_target p.instr
    → (mark || list_any f (targets_of (drop i code))) ≡ ((mark || f to) || list_any f (targets_of (drop (i + 1) code)))
marked_target f mark code i to p lt is names =
    marked_more f mark code i p (Some to) lt is names ∙ sym (or_assoc mark (f to) (list_any f (targets_of (drop (i + 1) code))))

-- another one
pub marked_none : (f : ℕ → Bool) (mark : Bool) (code : List Placed) (i : ℕ) (p : Placed) → i < length code → p ≡ get_or code i p → None ≡ jump_target p.instr
    → (mark || list_any f (targets_of (drop i code))) ≡ (mark || list_any f (targets_of (drop (i + 1) code)))
marked_none f mark code i p lt is names = marked_more f mark code i p None lt is names
