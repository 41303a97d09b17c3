-- What code of an active function needs besides: which functions it may call, and with what hardware stack.
use Rattle.std.proofs.Common.{◌≡◌, ◌<◌, ◌≤◌, ℕ, zero, suc, ◌+◌, Bool, true, false, cond, List, [], ◌∷◌, length, Option, Some, None, refl, sym, ap, ◌∙◌, subst, arith}
use Rattle.std.specs.Prelude.{slice_get, if◌then◌else◌, bytes_eq}
use Rattle.std.proofs.lemmas.Option.{none-some, same_Some, slice_get_within, slice_get-get_or}
use Rattle.c_tree.specs.declared.program.VarRef.{VarRef}
use Rattle.c_tree.specs.declared.program.VarRef.TheVariants.{Scalar, Local, Static}
use Rattle.c_tree.specs.SourceRun.{main_name}
use Rattle.tree_code.specs.WordTree.{FunctionCode}
use Rattle.tree_code.specs.WellFormedCode.{parameter_count}
use Rattle.acc_select.specs.IsSelected.{is_listed, object_cells, called_parameters}
use Rattle.mem_plan.specs.DataNeeds.{callees}
use Rattle.ir_semantics.specs.Outside.{address_of}
use Rattle.ir_semantics.specs.TreeRun.{main_from}
use Rattle.emit_blocks.specs.Places.{or_zero, object_address}
use Rattle.emit_proof.specs.Code.{IsPresent}
use Rattle.image_proof.specs.PlanPlaces.{address_or_start, local_addresses, places_of}
use Rattle.image_proof.specs.Emissions.{Emission, IsEmission}
use Rattle.image_proof.specs.Active.{AreActive, back_of}
use Rattle.image_proof.specs.ActiveSites.{site_places, counts_in, site_counts}
use Rattle.image_proof.specs.Kept.{stack_in}
use Rattle.image_proof.proofs.Lists.{mapped_there, listed_contained}
use Rattle.image_proof.proofs.Frames.{frame_at, caller_back}
use Rattle.image_proof.proofs.FrameWords.{address_there, object_word}
use Rattle.image_proof.proofs.Sites.{present_object, present_address}
use Rattle.image_proof.proofs.SiteStanding.{addresses_so}
use Rattle.image_proof.proofs.Statics.{static_address, static_word}
use Rattle.image_proof.proofs.WordsOfSites.{word_within}
use Rattle.mem_plan.specs.Ranges.{StaticObject, LocalObject}

pub counts_same : (e : Emission) (g : ℕ) (fs : List ℕ) (code : FunctionCode) → slice_get e.code.functions g ≡ Some code → (f : ℕ) → site_counts e (g ∷ fs) f ≡ or_zero (called_parameters e.code code f)
counts_same e g fs code there f = ap (λ c. counts_in e c f) there

-- a function whose parameters are counted is called
listed_present : (b : Bool) (o : Option ℕ) → IsPresent (if b then o else None) → b ≡ true
listed_present true o there = refl
listed_present false o there = absurd there

pub called_active : (e : Emission) (g : ℕ) (fs : List ℕ) (code : FunctionCode) → slice_get e.code.functions g ≡ Some code → AreActive e (g ∷ fs) → (f : ℕ) → IsPresent (called_parameters e.code code f) → AreActive e (f ∷ g ∷ fs)
called_active e g fs code there are f present =
    ((callees code, mapped_there callees e.code.functions g code there, listed_contained f (callees code) (listed_present (is_listed f (callees code)) (parameter_count (slice_get e.code.functions f)) present)), are)

-- a caller leaves the hardware stack as it was
pub caller_stack : (e : Emission) → IsEmission e → (g f : ℕ) (active : List ℕ) → AreActive e (g ∷ f ∷ active) → (ret : ℕ) (stack : List ℕ) → stack_in (back_of e f) ret stack ≡ stack
caller_stack e is g f active are ret stack =
    let back = caller_back e is g f active are in
    ap (λ o. stack_in o ret stack) back.1

-- the words of objects that are there lie in RAM
address_low : (o : Option ℕ) (x : ℕ) → o ≡ Some x → 784 ≤ x → 784 ≤ address_or_start o
address_low o x is low = subst (λ u. 784 ≤ address_or_start u) (sym is) low

present_low : (e : Emission) → IsEmission e → (g : ℕ) (code : FunctionCode) → slice_get e.code.functions g ≡ Some code → (v : VarRef) → IsPresent (object_cells e.code code v) → (a : ℕ) → address_of (places_of e.plan) g v ≡ Some a → 784 ≤ a
present_low e is g code there (Scalar n) present a at = absurd present
present_low e is g code there (Local n) present a at =
    let h = frame_at e is g (slice_get_within e.code.functions g code there) in
    let u = present_object (slice_get code.locals n) present in
    let locals = ap (λ (c : FunctionCode). c.locals) (same_Some code h.code (sym there ∙ h.there)) in
    let own = ap (λ os. slice_get os n) (sym locals) ∙ u.1 in
    let x = address_there (h.start + h.code.scalars) h.code.locals n u.0 own in
    let low = (word_within e is (LocalObject g n) x.0 (object_word e is g h n u.0 x.0 x.0 own x.1 (omega arith) (omega arith)) (λ e. cc)).0 in
    subst (λ k. 784 ≤ k) (same_Some (address_or_start (slice_get (local_addresses (slice_get e.plan.frames g)) n)) a at)
    (address_low (slice_get (local_addresses (slice_get e.plan.frames g)) n) x.0 (ap (λ o. slice_get (local_addresses o) n) h.framed ∙ x.1) low)
present_low e is g code there (Static n) present a at =
    let u = present_object (slice_get e.code.statics n) present in
    let x = static_address e is n u.0 u.1 in
    let low = (word_within e is (StaticObject n) x.0 (static_word e is n u.0 x.0 x.0 u.1 x.1 (omega arith) (omega arith)) (λ e. cc)).0 in
    subst (λ k. 784 ≤ k) (same_Some (address_or_start (slice_get e.plan.statics n)) a at) (address_low (slice_get e.plan.statics n) x.0 x.1 low)

-- an object has an address in runs
has_address : (e : Emission) (g : ℕ) (code : FunctionCode) (v : VarRef) → IsPresent (object_cells e.code code v) → (a : ℕ) × (address_of (places_of e.plan) g v ≡ Some a)
has_address e g code (Scalar n) present = absurd present
has_address e g code (Local n) present = ((places_of e.plan).local g n, refl)
has_address e g code (Static n) present = ((places_of e.plan).static n, refl)

pub present_ram : (e : Emission) → IsEmission e → (g : ℕ) (fs : List ℕ) → AreActive e (g ∷ fs) → (code : FunctionCode) → slice_get e.code.functions g ≡ Some code → (v : VarRef) → IsPresent (object_cells e.code code v) → 784 ≤ object_address (site_places e (g ∷ fs)) v
present_ram e is g fs are code there v present =
    let a = has_address e g code v present in
    subst (λ k. 784 ≤ k) (sym (addresses_so e is (g ∷ fs) are v a.0 (sym (present_address e is g fs code there v present) ∙ a.1))) (present_low e is g code there v present a.0 a.1)

-- `main` is there
main_by : (k n : ℕ) (b : Bool) (rest : ℕ) → (b ≡ false → rest < k + suc n) → cond b k rest < k + suc n
main_by k n true rest later = omega arith
main_by k n false rest later = later refl

named_main : (f : FunctionCode) → f.name ≡ main_name → bytes_eq f.name main_name ≡ true
named_main f is = ap (λ name. bytes_eq name main_name) is

pub main_below : (k i : ℕ) (fs : List FunctionCode) (g : FunctionCode) → slice_get fs i ≡ Some g → g.name ≡ main_name → main_from k fs < k + length fs
main_below k i [] g there is = absurd (none-some g there)
main_below k zero (f ∷ fs) g there is =
    let named : bytes_eq f.name main_name ≡ true = named_main f (ap (λ (c : FunctionCode). c.name) (same_Some f g there) ∙ is) in
    subst (λ b. cond b k (main_from (suc k) fs) < k + suc (length fs)) (sym named) (omega arith)
main_below k (suc i) (f ∷ fs) g there is =
    let rest = main_below (suc k) i fs g there is in
    main_by k (length fs) (bytes_eq f.name main_name) (main_from (suc k) fs) (λ e. omega (arith, rest))

pub main_there : (e : Emission) → IsEmission e → main_from 0 e.code.functions < length e.code.functions
main_there e is =
    let m = is.code.main in
    let there : slice_get e.code.functions m.0 ≡ Some m.1 = slice_get-get_or e.code.functions m.0 m.1 m.2 ∙ ap Some m.3 in
    let below = main_below 0 m.0 e.code.functions m.1 there (m.4).name in
    omega (arith, below)
