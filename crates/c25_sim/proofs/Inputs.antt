-- Words that ports give.
use Rattle.std.proofs.Common.{◌≡◌, ◌≢◌, ℕ, ◌<◌, Bool, true, false, List, [], ◌∷◌, length, get_or, set, Option, Some, None, MatchOption, refl, sym, ap, ◌∙◌, cond, eqb-true, get_or-set_same, get_or-set_other}
use Rattle.std.specs.Prelude.{◌==◌}
use mathlib.Core.Path.{fun_ext}
use Rattle.std.proofs.lemmas.Bool.{eqb-false}
use Rattle.std.proofs.lemmas.List.{get_or_default}
use Rattle.c25_isa.specs.State.{State}
use Rattle.c25_sim.specs.MachineView.{inputs_of}
use Rattle.c25_sim.specs.Taken.{Takes, with_input}

chosen : {A : Type 0} (b : Bool) (x y z : A) → (b ≡ true → z ≡ x) → (b ≡ false → z ≡ y) → z ≡ cond b x y
chosen true x y z h k = h refl
chosen false x y z h k = k refl

-- one port with another list
with_port : (inputs : List (List ℕ)) (port : ℕ) (after : List ℕ) → port < length inputs → inputs_of (set inputs port after) ≡ with_input (inputs_of inputs) port after
with_port inputs port after lt =
    fun_ext (λ p. chosen (p == port) after (get_or inputs p []) (get_or (set inputs port after) p [])
    (λ e. let same : p ≡ port = eqb-true p port e in rw (same, get_or-set_same))
    (λ e. let other : p ≢ port = eqb-false p port e in get_or-set_other inputs port p after [] other))

-- one port with the list that it had
same_port : (inputs : List (List ℕ)) (port : ℕ) (after : List ℕ) → port < length inputs → after ≡ get_or inputs port [] → inputs_of (set inputs port after) ≡ inputs_of inputs
same_port inputs port after lt is =
    with_port inputs port after lt
    ∙ fun_ext (λ p. sym (chosen (p == port) after (get_or inputs p []) (get_or inputs p [])
    (λ e. let same : p ≡ port = eqb-true p port e in ap (λ q. get_or inputs q []) same ∙ sym is)
    (λ e. refl)))

-- what a port gave
pub taken : (s : State) (inputs : List (List ℕ)) (port : ℕ) (before after : List ℕ) (r : Option ℕ) → s.input ≡ inputs_of inputs → port < length inputs → before ≡ get_or inputs port before → MatchOption r ((before ≡ []) × (after ≡ before)) (λ w. before ≡ w ∷ after) → Takes s port r (record s { input = inputs_of (set inputs port after) })
taken s inputs port before after None is lt at h =
    let here : get_or inputs port [] ≡ before = get_or_default inputs port [] before lt ∙ sym at in (
      ap (λ f. f port) is ∙ here ∙ h.0,
      ap (λ f. record s { input = f }) (same_port inputs port after lt (h.1 ∙ sym here) ∙ sym is),
    )
taken s inputs port before after (Some w) is lt at h =
    let here : get_or inputs port [] ≡ before = get_or_default inputs port [] before lt ∙ sym at in (
      after,
      ap (λ f. f port) is ∙ here ∙ h,
      ap (λ f. record s { input = f }) (with_port inputs port after lt ∙ ap (λ g. with_input g port after) (sym is)),
    )
