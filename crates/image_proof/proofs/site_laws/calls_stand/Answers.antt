-- By the sites of the caller and of the function that it calls.
use Rattle.std.proofs.Common.{◌≡◌, ℕ, List, ◌∷◌, Option, Some, None, sym, ◌∙◌, subst}
use Rattle.std.specs.Prelude.{slice_get}
use Rattle.std.proofs.lemmas.Option.{same_Some}
use Rattle.tree_code.specs.WordTree.{FunctionCode}
use Rattle.c25_code.specs.Returns as entries
use Rattle.c25_code.specs.Work.{Work}
use Rattle.ir_semantics.specs.AccRows.{Acc, Gone, low_half}
use Rattle.ir_semantics.specs.AccRun.{Machine, at_most_low, entered, left}
use Rattle.emit_proof.specs.Registers.{RegistersAlike}
use Rattle.emit_proof.specs.Sites.{Beside, with_stack}
use Rattle.image_proof.specs.PlanPlaces.{places_of}
use Rattle.image_proof.specs.Active.{AreActive, back_of}
use Rattle.image_proof.specs.ActiveSites.{site_of}
use Rattle.image_proof.specs.Emissions.{Emission, IsEmission}
use Rattle.image_proof.specs.Kept.{IsKept, kept_for, stack_in}
use Rattle.image_proof.proofs.Keeping.{keeps_on}
use Rattle.image_proof.proofs.SiteWords.{frame_first}
use Rattle.image_proof.proofs.SiteCalls.{entered_beside, left_beside}
use Rattle.image_proof.proofs.Entering.{left_registers, gone_registers}
use Rattle.image_proof.proofs.Returning.{site_returns}
use Rattle.image_proof.proofs.site_laws.calls_stand.Goals as goal

-- behind a call, whatever is known of ACC
left_so : (e : Emission) → IsEmission e → (g : ℕ) (active : List ℕ) → AreActive e (g ∷ active) → (kept : ℕ → Option ℕ) → IsKept e active kept → (stack held : List ℕ) (code : FunctionCode) → slice_get e.code.functions g ≡ Some code → (ret : ℕ) (v t : Machine) (w u : Work)
    → Beside (site_of e active kept stack) v w → Beside (with_stack stack (site_of e (g ∷ active) (kept_for e g active v.frame ret kept) held)) t u → (acc : Acc) → RegistersAlike (record t.registers { acc = acc; pointed = None }) u
    → Beside (site_of e active kept stack) (left (places_of e.plan) g code acc v.frame t) u
left_so e is g active are kept keeps stack held code there ret v t w u beside inner acc registers =
    let h = frame_first e is g active are in
    subst (λ (c : FunctionCode). Beside (site_of e active kept stack) (left (places_of e.plan) g c acc v.frame t) u) (same_Some h.code code (sym h.there ∙ there))
    (left_beside e is g active are h kept keeps stack v w beside ret held t u inner acc registers)

pub returns-clause-kept : goal.returns-clause-kept
returns-clause-kept c = λ e g active frame ret kept is are keeps. keeps_on e is g active are frame ret kept keeps

pub returns-clause-enters : goal.returns-clause-enters
returns-clause-enters c = λ e g active kept stack code ret v w is are keeps there beside low few.
    let h = frame_first e is g active are in
    subst (λ (code : FunctionCode). Beside (site_of e (g ∷ active) (kept_for e g active v.frame ret kept) (stack_in (back_of e g) ret stack)) (entered (places_of e.plan) g code v) (entries.entered (back_of e g) ret w)) (same_Some h.code code (sym h.there ∙ there))
    (entered_beside e is g active are h kept keeps stack v w beside ret low few)

pub returns-clause-leaves : goal.returns-clause-leaves
returns-clause-leaves c = λ e g active kept stack held code ret v t w u is are keeps there beside inner.
    left_so e is g active are kept keeps stack held code there ret v t w u beside inner (at_most_low (low_half t.registers.acc)) (left_registers u t.registers inner.registers)

pub returns-clause-leaves_gone : goal.returns-clause-leaves_gone
returns-clause-leaves_gone c = λ e g active kept stack held code ret v t w u is are keeps there beside inner.
    left_so e is g active are kept keeps stack held code there ret v t w u beside inner Gone (gone_registers u t.registers inner.registers)

pub returns-clause-returns : goal.returns-clause-returns
returns-clause-returns c = λ e g active frame kept stack ret start program names m is are back few. site_returns e is g active are frame kept stack ret start program names m back few
