-- Objects of names are made, and end again: what surrounds a part of a function before, within and behind.
use Rattle.std.proofs.Common.{◌≡◌, ◌≢◌, ℕ, ◌<◌, Bool, true, false, cond, [], ◌∷◌, Option, Some, None, refl, sym, ap, ◌∙◌, subst, arith}
use Rattle.std.specs.Prelude.{◌==◌, if◌then◌else◌, length, replicate, slice_get}
use Rattle.std.proofs.lemmas.Bool.{eq-eqb, ne_eqb, eqb-true}
use Rattle.std.proofs.lemmas.Option.{none-some, same_Some, slice_get_within, get_or_from_slice_get}
use Rattle.std.proofs.lemmas.List.{length-replicate, get_or-replicate}
use mathlib.Core.Path.{fun_ext}
use Rattle.c_tree.specs.declared.program.ScalarType.{ScalarType}
use Rattle.c_tree.specs.declared.program.VarRef.{VarRef}
use Rattle.c_tree.specs.declared.program.VarRef.TheVariants.{Scalar, Local, Static}
use Rattle.c_tree.specs.TypedTree.{ObjectTree, FunctionTree, ProgramTree}
use Rattle.tree_code_proof.specs.Counted as source
use Rattle.c_tree.specs.Store.{Obj}
use Rattle.c_tree.specs.Eval.{Env, object_number}
use Rattle.c_tree.specs.Exec.{fresh, unset_scalar, unset_object, named}
use Rattle.c_tree.specs.WellFormed.{Shape, IsAutomatic}
use Rattle.c_tree.specs.WellFormedProgram.{scalar_shape, object_shape, object_in}
use Rattle.ir_semantics.specs.Outside.{Places}
use Rattle.tree_code_proof.specs.Seats.{Seat, Vacant, LiesAt, InFrame, Seats, with_seat, Apart, IsPlace}
use Rattle.tree_code_proof.specs.Surroundings.{place_of_name, IsLocal, locals_of, ArePlaces}

-- the fresh object of a name, as its kind of name has it
pub record HasFresh (g : FunctionTree) (v : VarRef) (s : Shape) : Type 0 where
  pub object : Obj
  pub is : fresh g v ≡ Some object
  pub kind : object.kind ≡ s.kind
  pub count : length object.cells ≡ s.length
  pub unset : (i : ℕ) (c : source.Cell) → slice_get object.cells i ≡ Some c → (i < s.length) × (c ≡ source.Unset)

replicated : (n i : ℕ) (x c : source.Cell) → slice_get (replicate n x) i ≡ Some c → (i < n) × (c ≡ x)
replicated n i x c get =
    let within = slice_get_within (replicate n x) i c get in
    let less : i < n = omega (arith, within, length-replicate n x) in
    (less, sym (get_or_from_slice_get (replicate n x) i c x get) ∙ get_or-replicate n i x x less)

one_cell : (i : ℕ) (c : source.Cell) → slice_get (source.Unset ∷ []) i ≡ Some c → (i < 1) × (c ≡ source.Unset)
one_cell i c get = replicated 1 i source.Unset c get

scalar_fresh : (g : FunctionTree) (n : ℕ) (k : Option ScalarType) (s : Shape) → slice_get g.scalars n ≡ k → scalar_shape k ≡ Some s → HasFresh g (Scalar n) s
scalar_fresh g n None s is there = absurd (none-some s there)
scalar_fresh g n (Some kind) s is there = record {
  object = record { cells = source.Unset ∷ []; kind = kind };
  is = ap unset_scalar is;
  kind = ap (λ (s : Shape). s.kind) (same_Some _ s there);
  count = ap (λ (s : Shape). s.length) (same_Some _ s there);
  unset = λ i c get. let u = one_cell i c get in (subst (λ (s : Shape). i < s.length) (same_Some _ s there) u.0, u.1);
}

local_fresh : (g : FunctionTree) (n : ℕ) (o : Option ObjectTree) (s : Shape) → slice_get g.locals n ≡ o → object_shape o ≡ Some s → HasFresh g (Local n) s
local_fresh g n None s is there = absurd (none-some s there)
local_fresh g n (Some o) s is there = record {
  object = record { cells = replicate o.length source.Unset; kind = o.kind };
  is = ap unset_object is;
  kind = ap (λ (s : Shape). s.kind) (same_Some _ s there);
  count = length-replicate o.length source.Unset ∙ ap (λ (s : Shape). s.length) (same_Some _ s there);
  unset = λ i c get. let u = replicated o.length i source.Unset c get in (subst (λ (s : Shape). i < s.length) (same_Some _ s there) u.0, u.1);
}

pub has_fresh : (p : ProgramTree) (g : FunctionTree) (v : VarRef) (s : Shape) → IsAutomatic v → object_in p g v ≡ Some s → HasFresh g v s
has_fresh p g (Scalar n) s automatic there = scalar_fresh g n (slice_get g.scalars n) s refl there
has_fresh p g (Local n) s automatic there = local_fresh g n (slice_get g.locals n) s refl there
has_fresh p g (Static n) s automatic there = absurd automatic

-- the local object that a name stands for
local_is : (g : FunctionTree) (n : ℕ) (o : Option ObjectTree) (s : Shape) → slice_get g.locals n ≡ o → object_shape o ≡ Some s → (r : ObjectTree) × ((slice_get g.locals n ≡ Some r) × (r.length ≡ s.length))
local_is g n None s is there = absurd (none-some s there)
local_is g n (Some o) s is there = (o, (is, ap (λ (s : Shape). s.length) (same_Some _ s there)))

module _ (q : Places) (p : ProgramTree) (f : ℕ) (g : FunctionTree) (function : slice_get p.functions f ≡ Some g) (places : ArePlaces q p) where
  pub own_local : (n : ℕ) (s : Shape) → object_in p g (Local n) ≡ Some s → (r : ObjectTree) × (IsLocal p f n r × (r.length ≡ s.length))
  own_local n s there =
      let l = local_is g n (slice_get g.locals n) s refl there in
      (l.0, (ap (λ x. slice_get (locals_of x) n) function ∙ l.1.0, l.1.1))

  pub own_place : (v : VarRef) (s : Shape) → IsAutomatic v → object_in p g v ≡ Some s → (a n : ℕ) → place_of_name q f v s.length ≡ LiesAt a n → IsPlace a n
  own_place (Scalar m) s automatic there a n is = absurd (frame_lies is)
    where
      frame_lies : InFrame m ≡ LiesAt a n → ⊥
      frame_lies e = cc
  own_place (Local m) s automatic there a n is =
      let l = own_local m s there in
      lies_same (q.local f m) s.length a n is (subst (λ k. IsPlace (q.local f m) k) l.1.1 (places.local f m l.0 l.1.0))
    where
      lies_same : (b m a n : ℕ) → LiesAt b m ≡ LiesAt a n → IsPlace b m → IsPlace a n
      lies_same b m a n e h = subst (λ x. IsPlace x n) (start_of e) (subst (λ x. IsPlace b x) (count_of e) h)
        where
          start_of : LiesAt b m ≡ LiesAt a n → b ≡ a
          start_of e = cc

          count_of : LiesAt b m ≡ LiesAt a n → m ≡ n
          count_of e = cc
  own_place (Static m) s automatic there a n is = absurd automatic

  -- two names of the function have places apart
  pub own_apart : (u v : VarRef) (s r : Shape) → v ≢ u → IsAutomatic v → object_in p g u ≡ Some s → object_in p g v ≡ Some r → Apart (place_of_name q f u s.length) (place_of_name q f v r.length)
  own_apart (Scalar n) (Scalar m) s r ne automatic a b = λ e. ne (ap Scalar (sym e))
  own_apart (Scalar n) (Local m) s r ne automatic a b = tt
  own_apart (Local n) (Scalar m) s r ne automatic a b = tt
  own_apart (Local n) (Local m) s r ne automatic a b =
      let x = own_local n s a in
      let y = own_local m r b in
      subst (λ k. Apart (LiesAt (q.local f n) s.length) (LiesAt (q.local f m) k)) y.1.1
      (subst (λ k. Apart (LiesAt (q.local f n) k) (LiesAt (q.local f m) y.0.length)) x.1.1 (places.locals f n m x.0 y.0 (λ e. ne (ap Local (sym e))) x.1.0 y.1.0))
  own_apart (Static n) (Scalar m) s r ne automatic a b = tt
  own_apart (Static n) (Local m) s r ne automatic a b =
      let x = static_is n (slice_get p.statics n) s refl a in
      let y = own_local m r b in
      subst (λ k. Apart (LiesAt (q.static n) s.length) (LiesAt (q.local f m) k)) y.1.1
      (subst (λ k. Apart (LiesAt (q.static n) k) (LiesAt (q.local f m) y.0.length)) x.1.1 (places.beside n f m x.0 y.0 x.1.0 y.1.0))
    where
      static_is : (n : ℕ) (o : Option ObjectTree) (s : Shape) → slice_get p.statics n ≡ o → object_shape o ≡ Some s → (r : ObjectTree) × ((slice_get p.statics n ≡ Some r) × (r.length ≡ s.length))
      static_is n None s is there = absurd (none-some s there)
      static_is n (Some o) s is there = (o, (is, ap (λ (s : Shape). s.length) (same_Some _ s there)))
  own_apart u (Static m) s r ne automatic a b = absurd automatic

-- no place is vacant
pub place_not_vacant : (q : Places) (f : ℕ) (v : VarRef) (n : ℕ) → place_of_name q f v n ≢ Vacant
place_not_vacant q f (Scalar m) n e = cc
place_not_vacant q f (Local m) n e = cc
place_not_vacant q f (Static m) n e = cc

-- numbers of objects of names, where one more has an object
pub number_here : (env : Env) (v : VarRef) (k : ℕ) → IsAutomatic v → object_number (named env v k) v ≡ k
number_here env (Scalar n) k automatic = ap (λ b. cond b k (env.scalar n)) (eq-eqb n n refl)
number_here env (Local n) k automatic = ap (λ b. cond b k (env.local n)) (eq-eqb n n refl)
number_here env (Static n) k automatic = absurd automatic

pub number_apart : (env : Env) (v u : VarRef) (k : ℕ) → v ≢ u → object_number (named env v k) u ≡ object_number env u
number_apart env (Scalar n) (Scalar m) k ne = ap (λ b. cond b k (env.scalar m)) (ne_eqb m n (λ e. ne (ap Scalar (sym e))))
number_apart env (Scalar n) (Local m) k ne = refl
number_apart env (Scalar n) (Static m) k ne = refl
number_apart env (Local n) (Scalar m) k ne = refl
number_apart env (Local n) (Local m) k ne = ap (λ b. cond b k (env.local m)) (ne_eqb m n (λ e. ne (ap Local (sym e))))
number_apart env (Local n) (Static m) k ne = refl
number_apart env (Static n) u k ne = refl

pub function_same : (env : Env) (v : VarRef) (k : ℕ) → (named env v k).function ≡ env.function
function_same env (Scalar n) k = refl
function_same env (Local n) k = refl
function_same env (Static n) k = refl

-- a seat that was vacant is so again
pub seats_again : (seats : Seats) (k : ℕ) (s : Seat) → seats.seat k ≡ Vacant → with_seat k Vacant (with_seat k s seats) ≡ seats
seats_again seats k s was = ap (λ x. record seats { seat = x }) (fun_ext (λ j. again j (j == k) refl))
  where
    again : (j : ℕ) (b : Bool) → (j == k) ≡ b → (if b then Vacant else (if b then s else seats.seat j)) ≡ seats.seat j
    again j true e = sym (ap seats.seat (eqb-true j k e) ∙ was)
    again j false e = refl
