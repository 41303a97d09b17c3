-- The site of the function that runs, and what laws say of it.
use Rattle.std.proofs.Common.{◌≡◌, ℕ, ◌+◌, List, ◌∷◌, Option, Some, None, refl, sym, ap, ◌∙◌}
use Rattle.std.specs.Prelude.{slice_get}
use Rattle.std.proofs.lemmas.Option.{none-some, same_Some, slice_get_within}
use Rattle.c_tree.specs.declared.program.VarRef.{VarRef}
use Rattle.c_tree.specs.declared.program.VarRef.TheVariants.{Scalar, Local, Static}
use Rattle.c_tree.specs.TypedTree.{ObjectTree}
use Rattle.tree_code.specs.WordTree.{FunctionCode}
use Rattle.tree_code.specs.WellFormedCode.{length_of}
use Rattle.acc_select.specs.IsSelected.{object_cells}
use Rattle.mem_plan.specs.declared.data_plan.FramePlan.{FramePlan}
use Rattle.ir_semantics.specs.Outside.{address_of}
use Rattle.emit_blocks.specs.Places.{or_zero}
use Rattle.frame_emit.specs.Emitted.{setting_of}
use Rattle.emit_proof.specs.Sites.{IsSite}
use Rattle.emit_proof.specs.Code.{IsPresent}
use Rattle.image_proof.specs.PlanPlaces.{address_or_start, local_addresses, places_of}
use Rattle.image_proof.specs.Emissions.{Emission, IsEmission}
use Rattle.image_proof.specs.Active.{AreActive}
use Rattle.image_proof.specs.ActiveSites.{parameters_of, frame_places, site_places, site_addresses, site_of}
use Rattle.image_proof.specs.Beginnings.{nothing_kept}
use Rattle.image_proof.specs.Kept.{IsKept}
use Rattle.image_proof.proofs.Frames.{frame_at}
use Rattle.image_proof.proofs.FrameWords.{address_there}
use Rattle.image_proof.proofs.Statics.{static_address}
use Rattle.image_proof.proofs.WordsOfSites.{name_within}
use Rattle.image_proof.proofs.KeptWords.{kept_within, live_at, live_within}
use Rattle.image_proof.proofs.SiteWords.{scalar_in, parameter_in}
use Rattle.image_proof.proofs.SiteStanding.{apart, dead_so, addresses_so}
use Rattle.image_proof.proofs.Registers.{places_fit}

pub is_site : (e : Emission) → IsEmission e → (active : List ℕ) → AreActive e active → (kept : ℕ → Option ℕ) → IsKept e active kept → (stack : List ℕ) → IsSite (site_of e active kept stack)
is_site e is active are kept keeps stack =
    let fits = places_fit e is active are in
    record {
      apart = apart e is active are kept keeps;
      addresses = addresses_so e is active are;
      registers = fits.registers;
      own = fits.own;
      words = fits.words;
      step = fits.step;
      scalars = λ n less. name_within e is (scalar_in e is active are n less).word;
      parameters = λ f i less. name_within e is (parameter_in e is active are f i less).word;
      callers = λ a x known. kept_within e is active are a (keeps.by a x known);
      objects = λ a lives. live_within e is active are a (live_at e is active are a lives);
      dead = dead_so e is active are kept keeps;
    }

-- what code is made with
pub setting_places : (e : Emission) (g : ℕ) (fs : List ℕ) (code : FunctionCode) (frame : FramePlan) (lists : List (List ℕ)) (names : List (List ℕ)) → slice_get e.code.functions g ≡ Some code → slice_get e.plan.frames g ≡ Some frame → slice_get e.arrangements g ≡ Some lists
    → (setting_of e.plan e.step (parameters_of e) names code frame lists).places ≡ site_places e (g ∷ fs)
setting_places e g fs code frame lists names there framed arranged = sym (λ i. frame_places e (there i) (framed i) (arranged i))

-- an object that is there
pub present_object : (o : Option ObjectTree) → IsPresent (length_of o) → (u : ObjectTree) × (o ≡ Some u)
present_object None there = absurd there
present_object (Some u) there = (u, refl)

same_address : (o : Option ℕ) (x : ℕ) → o ≡ Some x → Some (address_or_start o) ≡ Some (or_zero o)
same_address o x is = ap (λ u. Some (address_or_start u)) is ∙ sym (ap (λ u. Some (or_zero u)) is)

-- where runs have it, code has it too
pub present_address : (e : Emission) → IsEmission e → (g : ℕ) (fs : List ℕ) (code : FunctionCode) → slice_get e.code.functions g ≡ Some code → (v : VarRef) → IsPresent (object_cells e.code code v) → address_of (places_of e.plan) g v ≡ site_addresses e (g ∷ fs) v
present_address e is g fs code there (Scalar n) present = absurd present
present_address e is g fs code there (Local n) present =
    let h = frame_at e is g (slice_get_within e.code.functions g code there) in
    let u = present_object (slice_get code.locals n) present in
    let locals = ap (λ (c : FunctionCode). c.locals) (same_Some code h.code (sym there ∙ h.there)) in
    let x = address_there (h.start + h.code.scalars) h.code.locals n u.0 (ap (λ os. slice_get os n) (sym locals) ∙ u.1) in
    same_address (slice_get (local_addresses (slice_get e.plan.frames g)) n) x.0 (ap (λ o. slice_get (local_addresses o) n) h.framed ∙ x.1)
present_address e is g fs code there (Static n) present =
    let u = present_object (slice_get e.code.statics n) present in
    let x = static_address e is n u.0 u.1 in
    same_address (slice_get e.plan.statics n) x.0 x.1

pub nothing_is_kept : (e : Emission) (active : List ℕ) → IsKept e active nothing_kept
nothing_is_kept e active = record { by = λ a x known. absurd (none-some x known) }
