-- What assigns, in each of its uses: to a name, and through a pointer.
use Rattle.std.proofs.Common.{◌≡◌, ℕ, Bool, true, false, refl, sym, subst}
use Rattle.c_syntax.specs.declared.operator.BinaryOp.{BinaryOp}
use Rattle.c_tree.specs.declared.program.VarRef.{VarRef}
use Rattle.c_tree.specs.TypedTree.{Kind}
use Rattle.c_tree.specs.WellFormed.{Updates, Updates_word, Updates_pointer}
use Rattle.tree_code_proof.specs.Counted as source
use Rattle.c_tree.specs.Store.{Value}
use Rattle.tree_code_proof.specs.Evaluated as evaluation
use Rattle.c_tree.specs.Eval.{points}
use Rattle.tree_code_proof.specs.Evaluated.{spot_of}
use Rattle.tree_code.specs.Operations.{word_op}
use Rattle.ir_semantics.specs.Meanings.{meaning_of, calculated}
use Rattle.ir_semantics.specs.Parts.{Does, ◌>>=◌}
use Rattle.ir_semantics.specs.TreeRun as run
use Rattle.ir_semantics.specs.TreeRun.{Tree, Addresses}
use Rattle.tree_code_proof.specs.Seats.{Seats}
use Rattle.tree_code_proof.specs.Beside.{IsSeatOf}
use Rattle.tree_code_proof.proofs.Growing.{Grows, bind_grows, ticked, calc_grows, give_grows, read_word_grows, read_name_grows, write_word_grows, write_name_grows}
use Rattle.tree_code_proof.proofs.Forms.{Values, worked}
use Rattle.tree_code_proof.proofs.Assigning.{assign_name_kept, assign_at_kept}
use Rattle.tree_code_proof.proofs.Using.{Kept, of_forms}
use Rattle.tree_code_proof.proofs.Binaries.{Operates, of_integers, of_moves}
use Rattle.tree_code_proof.proofs.Operations.{no_pointer, is_pointer_kind}
use Rattle.tree_code_proof.proofs.Updating.{update_name_kept, update_at_kept}
use Rattle.tree_code_proof.proofs.Stepping.{One, steps_of, step_name, step_at, one_kept, value_behind, value_before}

-- an operator that assigns
updates : (seats : Seats) (at : ℕ) (o : BinaryOp) (k l : Kind) → Updates o k l → Operates seats (points k) (points l) (points k) (λ v u. evaluation.of_two o k l v u at) (calculated (meaning_of (word_op o k l)))
updates seats at o k l (Updates_word c i j) =
    subst (λ b. Operates seats b (points l) b (λ v u. evaluation.of_two o k l v u at) (calculated (meaning_of (word_op o k l)))) (sym (no_pointer k i))
    (subst (λ b. Operates seats false b false (λ v u. evaluation.of_two o k l v u at) (calculated (meaning_of (word_op o k l)))) (sym (no_pointer l j)) (of_integers seats at o k l (no_pointer k i) (no_pointer l j)))
updates seats at o k l (Updates_pointer c i j) =
    subst (λ b. Operates seats b (points l) b (λ v u. evaluation.of_two o k l v u at) (calculated (meaning_of (word_op o k l)))) (sym (is_pointer_kind k i))
    (subst (λ b. Operates seats true b true (λ v u. evaluation.of_two o k l v u at) (calculated (meaning_of (word_op o k l)))) (sym (no_pointer l j)) (of_moves seats at o k l c))

module _ (seats : Seats) (addresses : Addresses) (kind : Kind) (place at : ℕ) where
  -- to a name
  module _ (name : VarRef) (object : ℕ) (seat : IsSeatOf addresses name (seats.seat object)) where
    pub assign_name_form : {f : source.Does Value} {g : Does Tree ℕ} (k : Kind) → k ≡ kind → Values seats (points k) f g
        → Kept seats kind (source.◌>>=◌ (source.ticked 19 (source.◌>>=◌ f (λ x. source.◌>>=◌ (source.save object 0 (points kind) x place) evaluation.some))) (evaluation.need at)) (source.ticked 19 (source.◌>>=◌ f (λ x. source.◌>>=◌ (source.save object 0 (points kind) x place) evaluation.some)))
        (run.assign_name_does addresses name g) (run.as_truth (run.assign_name_does addresses name g)) (run.as_nothing (run.assign_name_does addresses name g))
    assign_name_form {f = f} {g = g} k is a =
        of_forms seats kind (points kind) refl at (assign_name_kept seats addresses name object (points kind) place seat (subst (λ k. Values seats (points k) f g) is a)) (bind_grows (ticked 19 (λ _. a.grows)) (λ x. write_name_grows addresses name x))

    pub update_name_form : {h : source.Does Value} {k : Does Tree ℕ} (o : BinaryOp) (l : Kind) → Updates o kind l → Values seats (points l) h k
        → Kept seats kind
        (source.◌>>=◌ (source.ticked 48 (source.◌>>=◌ (source.load object 0 (points kind) place) (λ x. source.◌>>=◌ h (λ y. source.◌>>=◌ (evaluation.of_two o kind l x y at) (λ z. source.◌>>=◌ (source.save object 0 (points kind) z place) evaluation.some))))) (evaluation.need at))
        (source.ticked 48 (source.◌>>=◌ (source.load object 0 (points kind) place) (λ x. source.◌>>=◌ h (λ y. source.◌>>=◌ (evaluation.of_two o kind l x y at) (λ z. source.◌>>=◌ (source.save object 0 (points kind) z place) evaluation.some)))))
        (run.update_name_does addresses (calculated (meaning_of (word_op o kind l))) name k) (run.as_truth (run.update_name_does addresses (calculated (meaning_of (word_op o kind l))) name k))
        (run.as_nothing (run.update_name_does addresses (calculated (meaning_of (word_op o kind l))) name k))
    update_name_form o l u b =
        of_forms seats kind (points kind) refl at (update_name_kept seats (points kind) (λ v u. evaluation.of_two o kind l v u at) (calculated (meaning_of (word_op o kind l))) (updates seats at o kind l u) b place addresses name object seat)
        (bind_grows (ticked 48 (λ _. read_name_grows addresses name)) (λ x. bind_grows b.grows (λ y. bind_grows (calc_grows (calculated (meaning_of (word_op o kind l)) x y)) (λ z. write_name_grows addresses name z))))

    step_grows : (up : Bool) → Grows (run.step_name_does addresses up name)
    step_grows up = bind_grows (ticked 14 (λ _. read_name_grows addresses name)) (λ x. bind_grows (calc_grows (run.stepped up x)) (λ z. bind_grows (write_name_grows addresses name z) (λ _. give_grows (x, z))))

    pub step_before_name : (up : Bool)
        → Kept seats kind
        (source.◌>>=◌ (source.ticked 14 (source.◌>>=◌ (source.load object 0 (points kind) place) (λ x. source.◌>>=◌ (evaluation.stepped up kind x at) (λ z. source.◌>>=◌ (source.save object 0 (points kind) z place) evaluation.some)))) (evaluation.need at))
        (source.ticked 14 (source.◌>>=◌ (source.load object 0 (points kind) place) (λ x. source.◌>>=◌ (evaluation.stepped up kind x at) (λ z. source.◌>>=◌ (source.save object 0 (points kind) z place) evaluation.some)))) (run.step_name_does addresses up name >>= run.behind)
        (run.as_truth (run.step_name_does addresses up name >>= run.behind)) (run.as_nothing (run.step_name_does addresses up name))
    step_before_name up =
        one_kept seats kind at (λ d. d.1)
        (λ hs w t a. step_name seats (points kind) (λ v. evaluation.stepped up kind v at) (run.stepped up) (steps_of seats at kind up (points kind) refl) place (One seats (points kind) (λ d. d.1)) (λ v z. evaluation.some z) (value_behind seats (points kind)) addresses name
        object seat hs _ _ (worked seats hs w t 14 a)) (step_grows up)

    pub step_after_name : (up : Bool)
        → Kept seats kind
        (source.◌>>=◌ (source.ticked 14 (source.◌>>=◌ (source.load object 0 (points kind) place) (λ x. source.◌>>=◌ (evaluation.stepped up kind x at) (λ z. source.◌>>=◌ (source.save object 0 (points kind) z place) (λ _. evaluation.some x))))) (evaluation.need at))
        (source.ticked 14 (source.◌>>=◌ (source.load object 0 (points kind) place) (λ x. source.◌>>=◌ (evaluation.stepped up kind x at) (λ z. source.◌>>=◌ (source.save object 0 (points kind) z place) (λ _. evaluation.some x))))) (run.step_name_does addresses up name >>= run.before)
        (run.as_truth (run.step_name_does addresses up name >>= run.before)) (run.as_nothing (run.step_name_does addresses up name))
    step_after_name up =
        one_kept seats kind at (λ d. d.0)
        (λ hs w t a. step_name seats (points kind) (λ v. evaluation.stepped up kind v at) (run.stepped up) (steps_of seats at kind up (points kind) refl) place (One seats (points kind) (λ d. d.0)) (λ v z. evaluation.some v) (value_before seats (points kind)) addresses name
        object seat hs _ _ (worked seats hs w t 14 a)) (step_grows up)

  -- through a pointer
  module _ {f : source.Does Value} {g : Does Tree ℕ} (d : Values seats true f g) where
    pub assign_at_form : {h : source.Does Value} {m : Does Tree ℕ} (k : Kind) → k ≡ kind → Values seats (points k) h m
        → Kept seats kind (source.◌>>=◌ (source.ticked 19 (source.◌>>=◌ f (λ q. source.◌>>=◌ h (λ x. source.◌>>=◌ (spot_of q place) (λ s. source.◌>>=◌ (source.save s.0 s.1 (points kind) x place) evaluation.some))))) (evaluation.need at))
        (source.ticked 19 (source.◌>>=◌ f (λ q. source.◌>>=◌ h (λ x. source.◌>>=◌ (spot_of q place) (λ s. source.◌>>=◌ (source.save s.0 s.1 (points kind) x place) evaluation.some))))) (run.assign_at_does g m) (run.as_truth (run.assign_at_does g m)) (run.as_nothing (run.assign_at_does g m))
    assign_at_form {h = h} {m = m} k is b =
        of_forms seats kind (points kind) refl at (assign_at_kept seats (points kind) place d (subst (λ k. Values seats (points k) h m) is b)) (bind_grows (ticked 19 (λ _. d.grows)) (λ y. bind_grows b.grows (λ x. write_word_grows y x)))

    pub update_at_form : {h : source.Does Value} {m : Does Tree ℕ} (o : BinaryOp) (l : Kind) → Updates o kind l → Values seats (points l) h m
        → Kept seats kind
        (source.◌>>=◌
        (source.ticked 48 (source.◌>>=◌ (source.◌>>=◌ f (λ q. spot_of q place))
        (λ s. source.◌>>=◌ (source.load s.0 s.1 (points kind) place) (λ x. source.◌>>=◌ h (λ y. source.◌>>=◌ (evaluation.of_two o kind l x y at) (λ z. source.◌>>=◌ (source.save s.0 s.1 (points kind) z place) evaluation.some)))))) (evaluation.need at))
        (source.ticked 48 (source.◌>>=◌ (source.◌>>=◌ f (λ q. spot_of q place))
        (λ s. source.◌>>=◌ (source.load s.0 s.1 (points kind) place) (λ x. source.◌>>=◌ h (λ y. source.◌>>=◌ (evaluation.of_two o kind l x y at) (λ z. source.◌>>=◌ (source.save s.0 s.1 (points kind) z place) evaluation.some))))))
        (run.update_at_does (calculated (meaning_of (word_op o kind l))) g m) (run.as_truth (run.update_at_does (calculated (meaning_of (word_op o kind l))) g m)) (run.as_nothing (run.update_at_does (calculated (meaning_of (word_op o kind l))) g m))
    update_at_form o l u b =
        of_forms seats kind (points kind) refl at (update_at_kept seats (points kind) (λ v u. evaluation.of_two o kind l v u at) (calculated (meaning_of (word_op o kind l))) (updates seats at o kind l u) b place d)
        (bind_grows (ticked 48 (λ _. d.grows)) (λ y. bind_grows (read_word_grows y) (λ x. bind_grows b.grows (λ u. bind_grows (calc_grows (calculated (meaning_of (word_op o kind l)) x u)) (λ z. write_word_grows y z)))))

    step_at_grows : (up : Bool) → Grows (run.step_at_does up g)
    step_at_grows up = bind_grows (ticked 14 (λ _. d.grows)) (λ y. bind_grows (read_word_grows y) (λ x. bind_grows (calc_grows (run.stepped up x)) (λ z. bind_grows (write_word_grows y z) (λ _. give_grows (x, z)))))

    pub step_before_at : (up : Bool)
        → Kept seats kind
        (source.◌>>=◌
        (source.ticked 14 (source.◌>>=◌ (source.◌>>=◌ f (λ q. spot_of q place)) (λ s. source.◌>>=◌ (source.load s.0 s.1 (points kind) place) (λ x. source.◌>>=◌ (evaluation.stepped up kind x at) (λ z. source.◌>>=◌ (source.save s.0 s.1 (points kind) z place) evaluation.some)))))
        (evaluation.need at))
        (source.ticked 14 (source.◌>>=◌ (source.◌>>=◌ f (λ q. spot_of q place)) (λ s. source.◌>>=◌ (source.load s.0 s.1 (points kind) place) (λ x. source.◌>>=◌ (evaluation.stepped up kind x at) (λ z. source.◌>>=◌ (source.save s.0 s.1 (points kind) z place) evaluation.some)))))
        (run.step_at_does up g >>= run.behind) (run.as_truth (run.step_at_does up g >>= run.behind)) (run.as_nothing (run.step_at_does up g))
    step_before_at up =
        one_kept seats kind at (λ d. d.1)
        (λ hs w t a. step_at seats (points kind) (λ v. evaluation.stepped up kind v at) (run.stepped up) (steps_of seats at kind up (points kind) refl) place (One seats (points kind) (λ d. d.1)) (λ v z. evaluation.some z) (value_behind seats (points kind)) d hs _ _
        (worked seats hs w t 14 a)) (step_at_grows up)

    pub step_after_at : (up : Bool)
        → Kept seats kind
        (source.◌>>=◌
        (source.ticked 14 (source.◌>>=◌ (source.◌>>=◌ f (λ q. spot_of q place))
        (λ s. source.◌>>=◌ (source.load s.0 s.1 (points kind) place) (λ x. source.◌>>=◌ (evaluation.stepped up kind x at) (λ z. source.◌>>=◌ (source.save s.0 s.1 (points kind) z place) (λ _. evaluation.some x)))))) (evaluation.need at))
        (source.ticked 14 (source.◌>>=◌ (source.◌>>=◌ f (λ q. spot_of q place))
        (λ s. source.◌>>=◌ (source.load s.0 s.1 (points kind) place) (λ x. source.◌>>=◌ (evaluation.stepped up kind x at) (λ z. source.◌>>=◌ (source.save s.0 s.1 (points kind) z place) (λ _. evaluation.some x))))))
        (run.step_at_does up g >>= run.before) (run.as_truth (run.step_at_does up g >>= run.before)) (run.as_nothing (run.step_at_does up g))
    step_after_at up =
        one_kept seats kind at (λ d. d.0)
        (λ hs w t a. step_at seats (points kind) (λ v. evaluation.stepped up kind v at) (run.stepped up) (steps_of seats at kind up (points kind) refl) place (One seats (points kind) (λ d. d.0)) (λ v z. evaluation.some v) (value_before seats (points kind)) d hs _ _
        (worked seats hs w t 14 a)) (step_at_grows up)
