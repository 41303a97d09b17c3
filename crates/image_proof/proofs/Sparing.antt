-- The code of the function that runs accesses no word of a caller's frame through an address register, and none of its own frame through AR1.
use Rattle.std.proofs.Common.{◌≡◌, ◌≢◌, ◌<◌, ◌≤◌, ℕ, ◌+◌, Bool, true, false, List, [], ◌∷◌, length, Option, Some, None, refl, sym, ap, ◌∙◌, subst, inl, inr, eqb-true, eq-eqb, arith}
use Rattle.std.specs.Prelude.{◌==◌, if◌then◌else◌}
use Rattle.std.proofs.lemmas.Bool.{false≢true}
use Rattle.std.proofs.lemmas.Option.{none-some}
use Rattle.c_tree.specs.declared.program.VarRef.TheVariants.{Scalar}
use Rattle.tree_code.specs.WordTree.{FunctionCode}
use Rattle.acc_code.specs.AccTree.{FunctionItems}
use Rattle.mem_plan.specs.declared.data_plan.FramePlan.{FramePlan}
use Rattle.c25_isa.specs.Direct.{is_among}
use Rattle.c25_isa.specs.StretchRuns.{DataAccess}
use Rattle.emit_blocks.specs.Places.{Places}
use Rattle.emit_proof.specs.Accessing.{site_may}
use Rattle.emit_proof.specs.Sites.{Site}
use Rattle.emit_proof.specs.Standing.{scalar_address}
use Rattle.emit_proof.proofs.Accessing.{scalars_spared, callers_spared}
use Rattle.image_proof.specs.Active.{AreActive, IsAmong}
use Rattle.image_proof.specs.ActiveSites.{site_places, site_of}
use Rattle.image_proof.specs.Directs.{own_words}
use Rattle.image_proof.specs.Emissions.{Emission, IsEmission}
use Rattle.image_proof.specs.FrameWords.{place_of}
use Rattle.image_proof.specs.FunctionWalks.{IsFunctionOf}
use Rattle.image_proof.specs.Kept.{KeptAt, IsKept}
use Rattle.image_proof.proofs.Among.{never_among}
use Rattle.image_proof.proofs.ImageCalls.{names_in, setting_in}
use Rattle.image_proof.proofs.Keeping.{may_scalar}
use Rattle.image_proof.proofs.Placed.{places_long}
use Rattle.image_proof.proofs.Runs.{lie}
use Rattle.image_proof.proofs.Sites.{is_site, setting_places}
use Rattle.image_proof.proofs.SiteWords.{scalar_in}
use Rattle.image_proof.proofs.WordsOfSites.{NameWord}

-- an access through a register, at whatever address
abbrev through : ℕ → Bool → ℕ → DataAccess
through register stores a = record { address = a; through = Some register; stores = stores }

-- what is refused at each scalar's address is refused at each word of the frame
module _ (e : Emission) (is : IsEmission e) (h : ℕ) (rest : List ℕ) (are : AreActive e (h ∷ rest)) (code : FunctionCode) (g : FunctionItems) (frame : FramePlan) (lists : List (List ℕ)) (f : IsFunctionOf e h code g frame lists) where
  same : (setting_in e code frame lists).places ≡ site_places e (h ∷ rest)
  same = setting_places e h rest code frame lists (names_in e) f.code_at f.frame_at f.lists_at

  refused : (may : DataAccess → Bool) (register : ℕ) (stores : Bool) → ((n : ℕ) → n < length (site_places e (h ∷ rest)).scalars → may (through register stores (scalar_address (site_places e (h ∷ rest)) n)) ≡ false)
      → (a : ℕ) → is_among a (own_words code frame lists) ≡ true → may (through register stores a) ≡ false
  refused may register stores none a among = by (may (through register stores a)) refl
    where
      long : length (setting_in e code frame lists).places.scalars ≡ code.scalars
      long = places_long lists frame.bases 0 code.scalars

      other : may (through register stores a) ≡ true → (n : ℕ) → n < code.scalars → place_of frame.bases lists n ≢ a
      other allowed n less at =
          let there : scalar_address (setting_in e code frame lists).places n ≡ place_of frame.bases lists n = (lie e h code g frame lists (names_in e) is f).addresses n (omega (arith, less, long)) in
          let address : scalar_address (site_places e (h ∷ rest)) n ≡ a = sym (ap (λ (s : Places). scalar_address s n) same) ∙ there ∙ at in
          let few : n < length (site_places e (h ∷ rest)).scalars = omega (arith, less, long, ap (λ (s : Places). length s.scalars) same) in
          false≢true (sym (none n few) ∙ ap (λ b. may (through register stores b)) address ∙ allowed)

      by : (b : Bool) → may (through register stores a) ≡ b → b ≡ false
      by true allowed = absurd (false≢true (sym (never_among (place_of frame.bases lists) a 0 code.scalars (λ n from less. other allowed n (omega (arith, less)))) ∙ among))
      by false allowed = refl

-- a function that is active, with those behind it
suffix : (e : Emission) (active : List ℕ) → AreActive e active → (h : ℕ) → IsAmong active h → (rest : List ℕ) × AreActive e (h ∷ rest)
suffix e [] are h among = absurd among
suffix e (g ∷ active) are h (inl same) = (active, subst (λ k. AreActive e (k ∷ active)) (sym same) are)
suffix e (g ∷ active) are h (inr among) = suffix e active are.1 h among

module _ (e : Emission) (is : IsEmission e) (g : ℕ) (active : List ℕ) (are : AreActive e (g ∷ active)) (kept : ℕ → Option ℕ) (keeps : IsKept e (g ∷ active) kept) (stack : List ℕ) (stores : Bool) where
  -- its own frame
  pub own_spared : (code : FunctionCode) (items : FunctionItems) (frame : FramePlan) (lists : List (List ℕ)) (a : ℕ) → IsFunctionOf e g code items frame lists → is_among a (own_words code frame lists) ≡ true
      → site_may (site_of e (g ∷ active) kept stack) (through 1 stores a) ≡ false
  own_spared code items frame lists a f among =
      let k : Site = site_of e (g ∷ active) kept stack in
      refused e is g active are code items frame lists f (site_may k) 1 stores (λ n few. scalars_spared k (is_site e is (g ∷ active) are kept keeps stack) stores n few) a among

  -- a word that may be kept is one that callers spare, whatever is kept
  one_kept : (a : ℕ) → KeptAt e (g ∷ active) a → IsKept e (g ∷ active) (λ b. if b == a then Some 0 else None)
  one_kept a k = record { by = λ b x known. by b (b == a) refl x known }
    where
      by : (b : ℕ) (t : Bool) → (b == a) ≡ t → (x : ℕ) → (if t then Some 0 else None) ≡ Some x → KeptAt e (g ∷ active) b
      by b true here x known = subst (KeptAt e (g ∷ active)) (sym (eqb-true b a here)) k
      by b false here x known = absurd (none-some x known)

  word_spared : (h n a register : ℕ) → IsAmong active h → NameWord e h (Scalar n) a → site_may (site_of e (g ∷ active) kept stack) (through register stores a) ≡ false
  word_spared h n a register among w =
      let one : ℕ → Option ℕ = λ b. if b == a then Some 0 else None in
      let at : KeptAt e (g ∷ active) a = record { place = w.place; may = may_scalar e g active h n w.place w.within w.names among; range = w.word.range; is = w.word.is; from = w.word.from; to = w.word.to } in
      let known : one a ≡ Some 0 = ap (λ b. if b then Some 0 else None) (eq-eqb a a refl) in
      callers_spared (site_of e (g ∷ active) one stack) (is_site e is (g ∷ active) are one (one_kept a at) stack) stores a 0 register known

  -- frames of callers
  pub frames_spared : (h : ℕ) (code : FunctionCode) (items : FunctionItems) (frame : FramePlan) (lists : List (List ℕ)) (a register : ℕ) → IsAmong active h → IsFunctionOf e h code items frame lists → is_among a (own_words code frame lists) ≡ true
      → site_may (site_of e (g ∷ active) kept stack) (through register stores a) ≡ false
  frames_spared h code items frame lists a register among f own =
      let s = suffix e active are.1 h among in
      refused e is h s.0 s.1 code items frame lists f (site_may (site_of e (g ∷ active) kept stack)) register stores
      (λ n few.
      let word = scalar_in e is (h ∷ s.0) s.1 n few in
      word_spared h n (scalar_address (site_places e (h ∷ s.0)) n) register among (subst (λ k. NameWord e k (Scalar n) (scalar_address (site_places e (h ∷ s.0)) n)) word.first word.word))
      a own
