-- Words that callers keep, and words of objects that live.
use Rattle.std.proofs.Common.{◌≡◌, ◌≢◌, ◌<◌, ◌≤◌, ℕ, ◌+◌, true, List, [], ◌∷◌, Option, Some, None, refl, sym, ap, ◌∙◌, subst, inl, ⊎_elim, arith}
use Rattle.std.specs.Prelude.{⊤, slice_get}
use Rattle.std.proofs.lemmas.Option.{none-some, same_Some}
use Rattle.c_tree.specs.declared.program.VarRef.{VarRef}
use Rattle.c_tree.specs.declared.program.VarRef.TheVariants.{Scalar, Local}
use Rattle.mem_plan.specs.Ranges.{Place, ScratchWords, StaticObject, ScalarWord, LocalObject, ReturnWord, function_of}
use Rattle.image_proof.specs.PlanPlaces.{address_or_start, local_addresses, places_of}
use Rattle.image_proof.specs.Emissions.{Emission, IsEmission}
use Rattle.image_proof.specs.Active.{AreActive, IsAmong, behind_first}
use Rattle.image_proof.specs.ActiveSites.{in_objects, locals_in, is_live}
use Rattle.image_proof.specs.Kept.{MayKeep, KeptAt}
use Rattle.image_proof.proofs.Frames.{FrameAt}
use Rattle.image_proof.proofs.WordsOfSites.{WordOf, IsOf, of_more, named, NameWord, name_of, words_apart, word_within}
use Rattle.image_proof.proofs.FrameWords.{address_there, object_word}
use Rattle.image_proof.proofs.Statics.{static_word, static_address}
use Rattle.image_proof.proofs.Cells.{ObjectCell, object_cell, or_true}
use Rattle.image_proof.proofs.SiteWords.{behind_among, frame_first}

-- functions among which are all that are active
abbrev pub AreMore : List ℕ → List ℕ → Type 0
AreMore active all = (f : ℕ) → IsAmong active f → IsAmong all f

pub kept_word : (e : Emission) (active : List ℕ) (a : ℕ) (k : KeptAt e active a) → WordOf e k.place a
kept_word e active a k = record { range = k.range; is = k.is; from = k.from; to = k.to }

pub kept_of : (active all : List ℕ) → AreMore active all → (P : Place) → MayKeep active P → IsOf all (function_of P)
kept_of active all more ScratchWords may = absurd may
kept_of active all more (StaticObject n) may = absurd may
kept_of active all more (ScalarWord f k i) may = more f (behind_among active f may)
kept_of active all more (LocalObject f n) may = absurd may
kept_of active all more (ReturnWord f) may = more f may

kept_differs : (e : Emission) (active : List ℕ) (h : ℕ) (v : VarRef) → ((f : ℕ) → IsAmong (behind_first active) f → f ≢ h) → (P Q : Place) → MayKeep active P → function_of Q ≡ Some h → named e Q ≡ Some v → P ≡ Q → ⊥
kept_differs e active h v other ScratchWords Q may within names same = absurd may
kept_differs e active h v other (StaticObject n) Q may within names same = absurd may
kept_differs e active h v other (ScalarWord f k i) Q may within names same = other f may (same_Some f h (ap function_of same ∙ within))
kept_differs e active h v other (LocalObject f n) Q may within names same = absurd may
kept_differs e active h v other (ReturnWord f) Q may within names same = none-some v (ap (named e) same ∙ names)

kept_no_scratch : (active : List ℕ) (P : Place) → MayKeep active P → P ≡ ScratchWords → ⊥
kept_no_scratch active P may same = subst (MayKeep active) same may

-- an object, or its words
abbrev pub IsObjectPlace : Place → Type 0
IsObjectPlace ScratchWords = ⊥
IsObjectPlace (StaticObject n) = ⊤
IsObjectPlace (ScalarWord f k i) = ⊥
IsObjectPlace (LocalObject f n) = ⊤
IsObjectPlace (ReturnWord f) = ⊥

pub record LiveAt (e : Emission) (active : List ℕ) (a : ℕ) : Type 0 where
  pub place : Place
  pub word : WordOf e place a
  pub of : IsOf active (function_of place)
  pub object : IsObjectPlace place

kept_no_object : (active : List ℕ) (P : Place) → MayKeep active P → IsObjectPlace P → ⊥
kept_no_object active ScratchWords may object = may
kept_no_object active (StaticObject n) may object = may
kept_no_object active (ScalarWord f k i) may object = object
kept_no_object active (LocalObject f n) may object = may
kept_no_object active (ReturnWord f) may object = object

local_scalar : (n m : ℕ) → Some (Local n) ≡ Some (Scalar m) → ⊥
local_scalar n m e = cc

object_no_scalar : (e : Emission) (n : ℕ) (P Q : Place) → IsObjectPlace P → named e Q ≡ Some (Scalar n) → P ≡ Q → ⊥
object_no_scalar e n ScratchWords Q object names same = object
object_no_scalar e n (StaticObject m) Q object names same = none-some (Scalar n) (ap (named e) same ∙ names)
object_no_scalar e n (ScalarWord f k i) Q object names same = object
object_no_scalar e n (LocalObject f m) Q object names same = local_scalar m n (ap (named e) same ∙ names)
object_no_scalar e n (ReturnWord f) Q object names same = object

module _ (e : Emission) (is : IsEmission e) (active : List ℕ) (are : AreActive e active) where
  -- what is kept is no word of the names of another function
  pub kept_apart : (all : List ℕ) → AreActive e all → AreMore active all → (a b h : ℕ) (v : VarRef) → KeptAt e active a → IsAmong all h → NameWord e h v b → ((f : ℕ) → IsAmong (behind_first active) f → f ≢ h) → a ≢ b
  kept_apart all all_are more a b h v k among w other =
      words_apart e is all all_are k.place w.place a b (kept_word e active a k) w.word (kept_of active all more k.place k.may) (name_of e is all among w)
      (kept_differs e active h v other k.place w.place k.may w.within w.names)

  pub kept_within : (a : ℕ) → KeptAt e active a → (784 ≤ a) × (a < 65536)
  kept_within a k = word_within e is k.place a (kept_word e active a k) (kept_no_scratch active k.place k.may)

  -- nor a word of an object that lives
  pub live_no_kept : (a b : ℕ) → LiveAt e active a → KeptAt e active b → a ≢ b
  live_no_kept a b l k =
      words_apart e is active are l.place k.place a b l.word (kept_word e active b k) l.of (kept_of active active (λ f among. among) k.place k.may)
      (λ same. kept_no_object active k.place k.may (subst IsObjectPlace same l.object))

  pub live_no_scalar : (a b h n : ℕ) → LiveAt e active a → IsAmong active h → NameWord e h (Scalar n) b → a ≢ b
  live_no_scalar a b h n l among w =
      words_apart e is active are l.place w.place a b l.word w.word l.of (name_of e is active among w) (object_no_scalar e n l.place w.place l.object w.names)

  -- of a function that isn't active
  other_function : (all : List ℕ) (h : ℕ) → ((f : ℕ) → IsAmong active f → f ≢ h) → (o u : Option ℕ) → IsOf active o → u ≡ Some h → o ≡ u → ⊥
  other_function all h other None u of within same = none-some h (same ∙ within)
  other_function all h other (Some f) u of within same = other f of (same_Some f h (same ∙ within))

  more_of : (all : List ℕ) → AreMore active all → (o : Option ℕ) → IsOf active o → IsOf all o
  more_of all more None of = tt
  more_of all more (Some f) of = more f of

  pub live_no_other : (all : List ℕ) → AreActive e all → AreMore active all → (a b h : ℕ) (v : VarRef) → LiveAt e active a → IsAmong all h → NameWord e h v b → ((f : ℕ) → IsAmong active f → f ≢ h) → a ≢ b
  live_no_other all all_are more a b h v l among w other =
      words_apart e is all all_are l.place w.place a b l.word w.word (more_of all more (function_of l.place) l.of) (name_of e is all among w)
      (λ same. other_function all h other (function_of l.place) (function_of w.place) l.of w.within (ap function_of same))

  pub live_within : (a : ℕ) → LiveAt e active a → (784 ≤ a) × (a < 65536)
  live_within a l = word_within e is l.place a l.word (λ same. subst IsObjectPlace same l.object)

module _ (e : Emission) (is : IsEmission e) where
  static_live : (a : ℕ) → ObjectCell (places_of e.plan).static 0 e.code.statics a → LiveAt e [] a
  static_live a c =
      let x = static_address e is c.further c.object c.there in
      let first : 0 + c.further ≡ c.further = omega arith in
      let at : (places_of e.plan).static (0 + c.further) ≡ x.0 = ap (places_of e.plan).static first ∙ ap address_or_start x.1 in
      let from = c.from in
      let to = c.to in
      record {
        place = StaticObject c.further;
        word = static_word e is c.further c.object x.0 a c.there x.1 (omega (arith, from, at)) (omega (arith, to, at));
        of = tt;
        object = tt;
      }

  local_live : (g : ℕ) (fs : List ℕ) (h : FrameAt e g) (a : ℕ) → ObjectCell ((places_of e.plan).local g) 0 h.code.locals a → LiveAt e (g ∷ fs) a
  local_live g fs h a c =
      let x = address_there (h.start + h.code.scalars) h.code.locals c.further c.object c.there in
      let first : 0 + c.further ≡ c.further = omega arith in
      let at : (places_of e.plan).local g (0 + c.further) ≡ x.0 = ap ((places_of e.plan).local g) first ∙ ap (λ o. address_or_start (slice_get (local_addresses o) c.further)) h.framed ∙ ap address_or_start x.1 in
      let from = c.from in
      let to = c.to in
      let w = object_word e is g h c.further c.object x.0 a c.there x.1 (omega (arith, from, at)) (omega (arith, to, at)) in
      record { place = LocalObject g c.further; word = w; of = inl refl; object = tt }

  live_more : (g : ℕ) (fs : List ℕ) (a : ℕ) → LiveAt e fs a → LiveAt e (g ∷ fs) a
  live_more g fs a l = record { place = l.place; word = l.word; of = of_more fs g (function_of l.place) l.of; object = l.object }

  pub live_at : (active : List ℕ) → AreActive e active → (a : ℕ) → is_live e active a ≡ true → LiveAt e active a
  live_at [] are a lives = static_live a (object_cell (places_of e.plan).static a 0 e.code.statics lives)
  live_at (g ∷ fs) are a lives =
      let h = frame_first e is g fs are in
      ⊎_elim (λ own. local_live g fs h a (object_cell ((places_of e.plan).local g) a 0 h.code.locals (ap (λ o. in_objects ((places_of e.plan).local g) 0 (locals_in o) a) (sym h.there) ∙ own)))
      (λ other. live_more g fs a (live_at fs are.1 a other))
      (or_true (in_objects ((places_of e.plan).local g) 0 (locals_in (slice_get e.code.functions g)) a) (is_live e fs a) lives)
