-- Constants, names, and what pointers point to, of each type.
use Rattle.std.proofs.Common.{◌≡◌, ℕ, ◌+◌, ◌<◌, Bool, true, false, Option, Some, None, refl, ap, ◌∙◌, subst, arith}
use Rattle.std.specs.Prelude.{if◌then◌else◌}
use Rattle.std.proofs.lemmas.Bool.{lt-ltb}
use Rattle.c_tree.specs.declared.program.ScalarType.{ScalarType}
use Rattle.c_tree.specs.declared.program.VarRef.{VarRef}
use Rattle.c_tree.specs.Kinds.{pointer_to}
use Rattle.c_tree.specs.TypedTree.{Kind}
use Rattle.c_tree.specs.WellFormed.{Shape, IsConstant, IsAddressable, PointsTo, Leads}
use Rattle.tree_code_proof.specs.Counted as source
use Rattle.c_tree.specs.Store.{Value, Word, Pointer, Null, is_pointer}
use Rattle.tree_code_proof.specs.Evaluated as evaluation
use Rattle.c_tree.specs.Eval.{points}
use Rattle.tree_code_proof.specs.Evaluated.{spot_of}
use Rattle.ir_semantics.specs.Parts.{Does}
use Rattle.ir_semantics.specs.TreeRun as run
use Rattle.ir_semantics.specs.TreeRun.{Tree, Addresses}
use Rattle.tree_code_proof.specs.Seats.{Seats}
use Rattle.tree_code_proof.specs.Beside.{IsSeatOf}
use Rattle.tree_code_proof.proofs.Growing.{give_grows, need_grows, bind_grows, ticked, read_word_grows, read_name_grows}
use Rattle.tree_code_proof.proofs.Forms.{Values, Forms, word_constant, null_constant, name_kept, address_kept, load_kept}
use Rattle.tree_code_proof.proofs.Using.{Kept, of_forms}

-- pointers have pointer types
pointer_points : (k : ScalarType) → is_pointer (pointer_to k) ≡ true
pointer_points k = lt-ltb 0 (k.stars + 1) (omega arith)

pub leads_pointer : (k kind : Kind) → Leads k kind → points k ≡ true
leads_pointer k None is = absurd is
leads_pointer k (Some kind) is = ap points is ∙ pointer_points kind

points_pointer : (o : Option Shape) (kind : Kind) → PointsTo o kind → points kind ≡ true
points_pointer None kind is = absurd is
points_pointer (Some object) kind is = ap points is ∙ pointer_points object.kind

module _ (seats : Seats) (addresses : Addresses) (at : ℕ) where
  constant_by : (b : Bool) (c : ℕ) → (b ≡ true → c ≡ 0) → c < 65536 → Forms seats b (source.ticked 2 (evaluation.some (if b then Null else Word c))) (run.constant_does c)
  constant_by true c is few = null_constant seats c (is refl)
  constant_by false c is few = word_constant seats c few

  pub constant_kept : (c : ℕ) (kind : Kind) → IsConstant c kind → c < 65536
      → Kept seats kind (source.◌>>=◌ (source.ticked 2 (evaluation.some (if points kind then Null else Word c))) (evaluation.need at)) (source.ticked 2 (evaluation.some (if points kind then Null else Word c))) (run.constant_does c) (run.as_truth (run.constant_does c)) (run.as_nothing (run.constant_does c))
  constant_kept c None is few = absurd is
  constant_kept c (Some kind) is few = of_forms seats (Some kind) (is_pointer kind) refl at (constant_by (is_pointer kind) c is few) (ticked 2 (λ _. give_grows c))

  pub read_kept : (v : VarRef) (kind : Kind) (object : ℕ) → IsSeatOf addresses v (seats.seat object)
      → Kept seats kind (source.◌>>=◌ (source.ticked 5 (source.◌>>=◌ (source.load object 0 (points kind) at) evaluation.some)) (evaluation.need at)) (source.ticked 5 (source.◌>>=◌ (source.load object 0 (points kind) at) evaluation.some)) (run.name_does addresses v)
      (run.as_truth (run.name_does addresses v)) (run.as_nothing (run.name_does addresses v))
  read_kept v kind object is = of_forms seats kind (points kind) refl at (name_kept seats addresses v object (points kind) at is) (ticked 5 (λ _. read_name_grows addresses v))

  pub address_of_kept : (v : VarRef) (o : Option Shape) (kind : Kind) (object : ℕ) → IsAddressable v → PointsTo o kind → IsSeatOf addresses v (seats.seat object)
      → Kept seats kind (source.◌>>=◌ (source.ticked 2 (evaluation.some (Pointer object 0))) (evaluation.need at)) (source.ticked 2 (evaluation.some (Pointer object 0))) (run.address_does (addresses v)) (run.as_truth (run.address_does (addresses v))) (run.as_nothing (run.address_does (addresses v)))
  address_of_kept v o kind object able points_to is = of_forms seats kind true (points_pointer o kind points_to) at (address_kept seats addresses v object able is) (ticked 2 (λ _. need_grows (addresses v)))

  pub load_form_kept : {f : source.Does Value} {g : Does Tree ℕ} (k kind : Kind) → Leads k kind → Values seats (points k) f g
      → Kept seats kind (source.◌>>=◌ (source.ticked 5 (source.◌>>=◌ f (λ p. source.◌>>=◌ (spot_of p at) (λ s. source.◌>>=◌ (source.load s.0 s.1 (points kind) at) evaluation.some)))) (evaluation.need at))
      (source.ticked 5 (source.◌>>=◌ f (λ p. source.◌>>=◌ (spot_of p at) (λ s. source.◌>>=◌ (source.load s.0 s.1 (points kind) at) evaluation.some)))) (run.load_does g) (run.as_truth (run.load_does g)) (run.as_nothing (run.load_does g))
  load_form_kept {f = f} {g = g} k kind leads a = of_forms seats kind (points kind) refl at (load_kept seats (points kind) at (subst (λ b. Values seats b f g) (leads_pointer k kind leads) a)) (bind_grows (ticked 5 (λ _. a.grows)) read_word_grows)
