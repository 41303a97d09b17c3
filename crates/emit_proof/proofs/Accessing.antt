-- The code of steps accesses data memory through address registers only where the steps reach.
use Rattle.std.proofs.Common.{◌≡◌, ◌≢◌, ℕ, zero, suc, ◌-◌, ◌/◌, ◌<◌, Bool, true, false, List, [], ◌∷◌, ◌++◌, length, Option, Some, None, refl, sym, ap, ◌∙◌, subst, arith, eq-eqb, eqb-true}
use Rattle.std.specs.Prelude.{◌==◌, nat_lt, ◌&&◌, ◌||◌, if◌then◌else◌, slice_get}
use Rattle.std.proofs.lemmas.Bool.{cond_both, and_parts, ne_eqb}
use Rattle.c25_isa.specs.declared.operand.Operand.{Operand}
use Rattle.c25_isa.specs.declared.instruction.Instr.{Instr}
use Rattle.c25_isa.specs.StretchRuns.{DataAccess}
use Rattle.c25_code.specs.Work.{Work}
use Rattle.c25_code.specs.Straight.{operand_address, behind_instr, behind_code}
use Rattle.c25_code.specs.Accesses.{operand_register, InstrMay, CodeMay}
use Rattle.acc_code.specs.declared.operation.AccOp.{AccOp}
use Rattle.acc_code.specs.declared.operation.AccOp.TheVariants as row
use Rattle.emit_blocks.specs.declared.site.ScalarPlace.{ScalarPlace}
use Rattle.emit_blocks.specs.declared.step.Reach.{Reach}
use Rattle.emit_blocks.specs.declared.step.Reach.TheVariants as reach
use Rattle.emit_blocks.specs.declared.step.Step.{Step}
use Rattle.emit_blocks.specs.Instructions.{word_instr, constant_instr}
use Rattle.emit_blocks.specs.Moves.{moved, made_current, moves_by_index}
use Rattle.emit_blocks.specs.Places.{scalar_or_zero}
use Rattle.emit_blocks.specs.Runs.{Known, is_page, page_code, index_code}
use Rattle.emit_proof.specs.Accessing.{is_place, register_may, site_may, ReachMay}
use Rattle.emit_proof.specs.Direct.{AlikeOutside}
use Rattle.emit_proof.specs.Reaching.{before_row, row_operand, row_instr, brought}
use Rattle.emit_proof.specs.Addressed.{HaveOwnRegisters}
use Rattle.emit_proof.specs.Standing.{scalar_address, parameter_address, OfScalar, OfParameter, OfCaller}
use Rattle.emit_proof.specs.Sites.{Site, IsSite}
use Rattle.emit_proof.proofs.ReachStanding.{address_is}

or_second : (a b : Bool) → b ≡ true → (a || b) ≡ true
or_second true b e = refl
or_second false b e = e

-- a scalar has its place
pub place_there : (scalars : List ScalarPlace) (n : ℕ) → n < length scalars → is_place scalars (scalar_or_zero (slice_get scalars n)).register (scalar_or_zero (slice_get scalars n)).address ≡ true
place_there [] n few = absurd (omega (arith, few))
place_there (p ∷ ps) zero few =
    ap (λ b. (b && p.address == p.address) || is_place ps p.register p.address) (eq-eqb p.register p.register refl)
    ∙ ap (λ b. b || is_place ps p.register p.address) (eq-eqb p.address p.address refl)
place_there (p ∷ ps) (suc n) few = or_second _ _ (place_there ps n (omega (arith, few)))

-- wherever AR1 is the same
pub may_alike : (k : Site) (r : Reach) (u w : Work) → u.ar 1 ≡ w.ar 1 → ReachMay k u r → ReachMay k w r
may_alike k (reach.Scalar p) u w same allowed = allowed
may_alike k reach.Pointer u w same allowed = subst (λ a. k.lives a ≡ true) same allowed
may_alike k (reach.Word a) u w same allowed = tt
may_alike k (reach.Constant c) u w same allowed = tt

module _ (may : DataAccess → Bool) where
  pub may_append : (a b : List Instr) (w : Work) → CodeMay may a w → CodeMay may b (behind_code a w) → CodeMay may (a ++ b) w
  may_append [] b w first second = second
  may_append (i ∷ a) b w first second = (first.0, may_append a b (behind_instr i w) first.1 second)

  -- what stands before a row accesses nothing
  moved_may : (r : ℕ) (known : Option ℕ) (a : ℕ) (w : Work) → CodeMay may (moved r known a) w
  moved_may r None a w = (tt, tt)
  moved_may r (Some p) a w =
      let goal : List Instr → Type 0 = λ code. CodeMay may code w in
      cond_both (p == a) _ _ goal (λ e. tt)
      (λ e. cond_both (nat_lt p a && nat_lt (a - p) 256) _ _ goal (λ f. (tt, tt))
      (λ f. cond_both (nat_lt a p && nat_lt (p - a) 256) _ _ goal (λ g. (tt, tt)) (λ g. (tt, tt))))

  made_may : (b : Bool) (r : ℕ) (w : Work) → CodeMay may (made_current b r) w
  made_may true r w = tt
  made_may false r w = (tt, tt)

  page_may : (known : Option ℕ) (a : ℕ) (w : Work) → CodeMay may (page_code known a) w
  page_may known a w = cond_both (is_page known (a / 128)) _ _ (λ code. CodeMay may code w) (λ e. tt) (λ e. (tt, tt))

  pub index_may : (d : ℕ) (xs : List Step) (w : Work) → CodeMay may (index_code d xs) w
  index_may d xs w = cond_both (moves_by_index d xs) _ _ (λ code. CodeMay may code w) (λ e. (tt, tt)) (λ e. tt)

  pub before_may : (k : Known) (r : Reach) (w : Work) → CodeMay may (before_row k r) w
  before_may k (reach.Scalar p) w = may_append (moved p.register (k.stands p.register) p.address) (made_current k.current p.register) w (moved_may p.register (k.stands p.register) p.address w) (made_may k.current p.register _)
  before_may k reach.Pointer w = made_may k.current 1 w
  before_may k (reach.Word a) w = page_may k.page a w
  before_may k (reach.Constant c) w = tt

  -- a row accesses the word of its operand, and one on a constant none
  word_may : (o : AccOp) (m : Operand) (w : Work) → ((stores : Bool) → may (record { address = operand_address w m; through = operand_register w m; stores = stores }) ≡ true) → InstrMay may (word_instr o m) w
  word_may row.Point m w allowed = allowed _
  word_may (row.Add s) m w allowed = allowed _
  word_may (row.Sub s) m w allowed = allowed _
  word_may (row.Lac s) m w allowed = allowed _
  word_may row.Mpy m w allowed = allowed _
  word_may row.Lt m w allowed = allowed _
  word_may row.Zals m w allowed = allowed _
  word_may row.Lact m w allowed = allowed _
  word_may row.Subs m w allowed = allowed _
  word_may row.Adds m w allowed = allowed _
  word_may row.Xor m w allowed = allowed _
  word_may row.Or m w allowed = allowed _
  word_may row.And m w allowed = allowed _
  word_may (row.Sacl s) m w allowed = allowed _
  word_may (row.Sach s) m w allowed = allowed _
  word_may (row.In port) m w allowed = allowed _
  word_may (row.Out port) m w allowed = allowed _
  word_may o m w allowed = tt

  constant_may : (o : AccOp) (c : ℕ) (w : Work) → InstrMay may (constant_instr o c) w
  constant_may row.Point c w = tt
  constant_may o c w = tt

module _ (k : Site) (d : ℕ) (o : AccOp) where
  pub row_may : (r : Reach) (xs : List Step) (w v : Work) → AlikeOutside w v → ReachMay k v r → InstrMay (site_may k) (row_instr o r (row_operand d r xs)) (brought r w)
  row_may (reach.Scalar p) xs w v same allowed =
      let r : Reach = reach.Scalar p in
      word_may (site_may k) o (row_operand d r xs) (brought r w)
      (λ stores. subst (λ a. register_may k a (Some p.register) ≡ true) (sym (address_is d r xs w refl)) (or_second (p.register == 1 && k.lives p.address) _ allowed))
  row_may reach.Pointer xs w v same allowed =
      word_may (site_may k) o (row_operand d reach.Pointer xs) (brought reach.Pointer w) (λ stores. ap (λ b. b || is_place k.places.scalars 1 (w.ar 1)) (ap k.lives same.pointer ∙ allowed))
  row_may (reach.Word a) xs w v same allowed = word_may (site_may k) o (row_operand d (reach.Word a) xs) (brought (reach.Word a) w) (λ stores. refl)
  row_may (reach.Constant c) xs w v same allowed = constant_may (site_may k) o c w

-- words at which no access through a register may be
place_found : (scalars : List ScalarPlace) (register a : ℕ) → is_place scalars register a ≡ true → (n : ℕ) × (n < length scalars) × ((scalar_or_zero (slice_get scalars n)).address ≡ a)
place_found [] register a e = absurd cc
place_found (p ∷ ps) register a e = by (p.register == register && p.address == a) refl e (place_found ps register a)
  where
    by : (b : Bool) → (p.register == register && p.address == a) ≡ b → (b || is_place ps register a) ≡ true → (is_place ps register a ≡ true → (n : ℕ) × (n < length ps) × ((scalar_or_zero (slice_get ps n)).address ≡ a))
        → (n : ℕ) × (n < suc (length ps)) × ((scalar_or_zero (slice_get (p ∷ ps) n)).address ≡ a)
    by true here e more = (0, omega arith, eqb-true p.address a (and_parts (p.register == register) (p.address == a) here).1)
    by false here e more = let m = more e in (suc m.0, omega (arith, m.1), m.2)

no_place : (scalars : List ScalarPlace) (register a : ℕ) → ((n : ℕ) → n < length scalars → (scalar_or_zero (slice_get scalars n)).address ≢ a) → is_place scalars register a ≡ false
no_place scalars register a none = by (is_place scalars register a) refl
  where
    by : (b : Bool) → is_place scalars register a ≡ b → b ≡ false
    by true e = let f = place_found scalars register a e in absurd (none f.0 f.1 f.2)
    by false e = refl

not_of_pointer : (scalars : List ScalarPlace) (a : ℕ) → HaveOwnRegisters scalars → is_place scalars 1 a ≡ false
not_of_pointer [] a own = refl
not_of_pointer (p ∷ ps) a own =
    let other : p.register ≢ 1 = let le = own.0 in omega (arith, le) in
    ap (λ b. (b && p.address == a) || is_place ps 1 a) (ne_eqb p.register 1 other) ∙ not_of_pointer ps a own.1

neither : (k : Site) (a register : ℕ) → k.lives a ≡ false → is_place k.places.scalars register a ≡ false → register_may k a (Some register) ≡ false
neither k a register dead none = by (register == 1)
  where
    by : (b : Bool) → ((b && k.lives a) || is_place k.places.scalars register a) ≡ false
    by true = ap (λ l. l || is_place k.places.scalars register a) dead ∙ none
    by false = none

module _ (k : Site) (site : IsSite k) (stores : Bool) where
  pub scalars_spared : (n : ℕ) → n < length k.places.scalars → site_may k (record { address = scalar_address k.places n; through = Some 1; stores = stores }) ≡ false
  scalars_spared n few = neither k (scalar_address k.places n) 1 (site.dead _ (OfScalar n few)) (not_of_pointer k.places.scalars _ site.own)

  pub callers_spared : (a x register : ℕ) → k.kept a ≡ Some x → site_may k (record { address = a; through = Some register; stores = stores }) ≡ false
  callers_spared a x register kept = neither k a register (site.dead a (OfCaller a x kept)) (no_place k.places.scalars register a (λ n few same. site.apart.callers a x kept n few (sym same)))

  pub parameters_spared : (f i register : ℕ) → i < k.counts f → site_may k (record { address = parameter_address k.places f i; through = Some register; stores = stores }) ≡ false
  parameters_spared f i register few =
      neither k (parameter_address k.places f i) register (site.dead _ (OfParameter f i few)) (no_place k.places.scalars register _ (λ n less same. site.apart.parameters n f i less few same))
