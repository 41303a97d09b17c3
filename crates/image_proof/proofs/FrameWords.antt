-- The words of a frame: its scalars, its objects, its return word and its parameters.
use Rattle.std.proofs.Common.{◌≡◌, ◌<◌, ◌≤◌, ℕ, zero, suc, ◌+◌, Bool, true, false, List, [], ◌∷◌, length, Option, Some, None, refl, sym, ap, ◌∙◌, subst, lt-ltb, ltb-true, arith}
use Rattle.std.specs.Prelude.{slice_get, if◌then◌else◌, nat_lt}
use Rattle.std.proofs.lemmas.Option.{none-some, same_Some, slice_get_within, get_or_from_slice_get}
use Rattle.c_tree.specs.declared.program.VarRef.{VarRef}
use Rattle.c_tree.specs.declared.program.VarRef.TheVariants.{Scalar, Local, Static}
use Rattle.c_tree.specs.TypedTree.{ObjectTree}
use Rattle.tree_code.specs.WordTree.{FunctionCode}
use Rattle.tree_code.specs.WordTemporaries.{word_statement_temporaries}
use Rattle.tree_code.specs.WellFormedCode.{IsCodeParameter, IsFunctionCode, length_of}
use Rattle.c25_isa.specs.Step.{wrap16}
use Rattle.emit_blocks.specs.Places.{or_zero, parameters_in}
use Rattle.mem_plan.specs.declared.data_plan.FramePlan.{FramePlan}
use Rattle.mem_plan.specs.Plan.{object_addresses, list_bases, frame_of}
use Rattle.mem_plan.specs.Ranges.{range, ScalarWord, LocalObject, ReturnWord, object_range, scalar_range, word_range, list_range, local_range, return_range, range_of}
use Rattle.frame_emit.specs.Frames.{scalar_place, parameter_address, parameter_addresses, all_parameters}
use Rattle.image_proof.specs.Emissions.{Emission, IsEmission}
use Rattle.image_proof.specs.Active.{back_in, back_of}
use Rattle.image_proof.proofs.Lists.{mapped_there}
use Rattle.image_proof.proofs.Frames.{FrameAt}
use Rattle.image_proof.proofs.Placed.{PlacedScalar, placed_scalar}
use Rattle.image_proof.proofs.WordsOfSites.{WordOf, NameWord, scalar_names, word_within}

-- each object of a list has an address, and each address is of an object
pub address_there : (at : ℕ) (os : List ObjectTree) (n : ℕ) (o : ObjectTree) → slice_get os n ≡ Some o → (x : ℕ) × (slice_get (object_addresses at os) n ≡ Some x)
address_there at [] n o is = absurd (none-some o is)
address_there at (u ∷ us) zero o is = (at, refl)
address_there at (u ∷ us) (suc n) o is = address_there (at + (u.length + 1)) us n o is

pub object_there : (at : ℕ) (os : List ObjectTree) (n x : ℕ) → slice_get (object_addresses at os) n ≡ Some x → (o : ObjectTree) × (slice_get os n ≡ Some o)
object_there at [] n x is = absurd (none-some x is)
object_there at (u ∷ us) zero x is = (u, refl)
object_there at (u ∷ us) (suc n) x is = object_there (at + (u.length + 1)) us n x is

-- where a word of a function has its return word
back_range : (o : Option FramePlan) (a : ℕ) → back_in o ≡ Some a → return_range o ≡ Some (range a 1)
back_range None a is = absurd (none-some a is)
back_range (Some frame) a is = ap word_range is

pub return_word : (e : Emission) (f a : ℕ) → back_of e f ≡ Some a → range_of e.code e.arrangements e.plan (ReturnWord f) ≡ Some (range a 1)
return_word e f a is = back_range (slice_get e.plan.frames f) a is

-- where there is a cell, there is an object of one
pub one_cell : (o : Option ObjectTree) → length_of o ≡ Some 1 → (u : ObjectTree) × (o ≡ Some u) × (u.length ≡ 1)
one_cell None is = absurd (none-some 1 is)
one_cell (Some u) is = (u, refl, same_Some u.length 1 is)

if_some : (b : Bool) (x : ℕ) → (if b then Some x else None) ≡ Some x → b ≡ true
if_some true x is = refl
if_some false x is = absurd (none-some x is)

pub position_range : (base i : ℕ) (list : List ℕ) → i < length list → scalar_range (Some base) (Some list) i ≡ Some (range (base + i) 1)
position_range base i list less = ap (λ b. if b then Some (range (base + i) 1) else None) (lt-ltb i (length list) less)

-- the addresses of a function's parameters among those of all
addresses_there : (fs : List FunctionCode) (frames : List FramePlan) (arrangements : List (List (List ℕ))) (f : ℕ) (code : FunctionCode) (frame : FramePlan) (lists : List (List ℕ))
    → slice_get fs f ≡ Some code → slice_get frames f ≡ Some frame → slice_get arrangements f ≡ Some lists → slice_get (all_parameters fs frames arrangements) f ≡ Some (parameter_addresses lists frame code)
addresses_there [] frames arrangements f code frame lists there framed arranged = absurd (none-some code there)
addresses_there (g ∷ gs) [] arrangements f code frame lists there framed arranged = absurd (none-some frame framed)
addresses_there (g ∷ gs) (frame ∷ frames) [] f code other lists there framed arranged = absurd (none-some lists arranged)
addresses_there (g ∷ gs) (frame ∷ frames) (ls ∷ rest) zero code other lists there framed arranged =
    λ i. Some (parameter_addresses (same_Some ls lists arranged i) (same_Some frame other framed i) (same_Some g code there i))
addresses_there (g ∷ gs) (frame ∷ frames) (ls ∷ rest) (suc f) code other lists there framed arranged = addresses_there gs frames rest f code other lists there framed arranged

module _ (e : Emission) (is : IsEmission e) (f : ℕ) (h : FrameAt e f) where
  abbrev pub frame : FramePlan
  frame = frame_of h.code h.lists h.start

  pub scalar_word : (n : ℕ) → n < h.code.scalars → NameWord e f (Scalar n) (scalar_place h.lists (list_bases h.start h.lists) 2 n).address
  scalar_word n less =
      let once = ((is.arranged.each f h.code h.lists h.there h.arranged).arranges).once n less in
      let p : PlacedScalar h.lists h.start 2 n = placed_scalar h.lists h.start 2 n (omega (arith, once)) in
      let inside = slice_get_within p.list p.position n p.stands in
      let lies : range_of e.code e.arrangements e.plan (ScalarWord f p.number p.position) ≡ Some (range (p.base + p.position) 1) =
      (λ i. list_range (h.framed i) (h.arranged i) p.number p.position) ∙ (λ i. scalar_range (p.based i) (p.there i) p.position) ∙ position_range p.base p.position p.list inside in
      let w : WordOf e (ScalarWord f p.number p.position) (p.base + p.position) = record { range = range (p.base + p.position) 1; is = lies; from = omega arith; to = omega arith } in
      let low = (word_within e is (ScalarWord f p.number p.position) (p.base + p.position) w (λ e. cc)).1 in
      let address : p.base + p.position ≡ (scalar_place h.lists (list_bases h.start h.lists) 2 n).address =
      (let same : p.base + p.position ≡ wrap16 (p.base + p.position) = omega (arith, low) in same) ∙ ap (λ q. q.address) (sym p.placed) in
      record {
        place = ScalarWord f p.number p.position;
        word = subst (WordOf e (ScalarWord f p.number p.position)) address w;
        within = refl;
        names = scalar_names e f p.number p.position n h.lists p.list h.arranged p.there p.stands;
      }

  -- the words of an object, with its spare word
  pub object_word : (n : ℕ) (o : ObjectTree) (x a : ℕ) → slice_get h.code.locals n ≡ Some o → slice_get frame.locals n ≡ Some x → x ≤ a → a < x + (o.length + 1) → WordOf e (LocalObject f n) a
  object_word n o x a there at from to = record {
    range = range x (o.length + 1);
    is = (λ i. local_range (h.framed i) (h.there i) n) ∙ (λ i. object_range (at i) (there i));
    from = from;
    to = to;
  }

  pub local_word : (n : ℕ) (o : ObjectTree) (x a : ℕ) → slice_get h.code.locals n ≡ Some o → slice_get frame.locals n ≡ Some x → x ≤ a → a < x + (o.length + 1) → NameWord e f (Local n) a
  local_word n o x a there at from to = record { place = LocalObject f n; word = object_word n o x a there at from to; within = refl; names = refl }

  pub scalar_parameter : (n : ℕ) → IsCodeParameter e.code h.code (Scalar n) → n < h.code.scalars
  scalar_parameter n p =
      let temporaries = word_statement_temporaries h.code.body in
      let less = ltb-true (n + temporaries) h.code.scalars (if_some (nat_lt (n + temporaries) h.code.scalars) 1 p.cell) in
      omega (arith, less)

  pub parameter_word : (v : VarRef) → IsCodeParameter e.code h.code v → NameWord e f v (parameter_address h.lists frame v)
  parameter_word (Scalar n) p = scalar_word n (scalar_parameter n p)
  parameter_word (Local n) p =
      let u = one_cell (slice_get h.code.locals n) p.cell in
      let x = address_there (h.start + h.code.scalars) h.code.locals n u.0 u.1 in
      subst (NameWord e f (Local n)) (sym (ap or_zero x.1)) (local_word n u.0 x.0 x.0 u.1 x.1 (omega arith) (omega arith))
  parameter_word (Static n) p = absurd p.automatic

  pub parameter_is : (i : ℕ) (v : VarRef) → slice_get h.code.params i ≡ Some v → parameters_in (slice_get (all_parameters e.code.functions e.plan.frames e.arrangements) f) i ≡ parameter_address h.lists frame v
  parameter_is i v there =
      ap (λ ps. parameters_in ps i) (addresses_there e.code.functions e.plan.frames e.arrangements f h.code frame h.lists h.there h.framed h.arranged)
      ∙ ap or_zero (mapped_there (parameter_address h.lists frame) h.code.params i v there)

  -- the function is one of the program
  pub function_is : IsFunctionCode e.code h.code
  function_is = subst (IsFunctionCode e.code) (get_or_from_slice_get e.code.functions f h.code h.code h.there) (is.code.functions f h.code (slice_get_within e.code.functions f h.code h.there))

  pub parameter_at : (i : ℕ) (v : VarRef) → slice_get h.code.params i ≡ Some v → IsCodeParameter e.code h.code v
  parameter_at i v there = subst (IsCodeParameter e.code h.code) (get_or_from_slice_get h.code.params i v v there) (function_is.parameters i v (slice_get_within h.code.params i v there))
