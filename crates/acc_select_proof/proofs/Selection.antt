-- Selection keeps the runs of programs of words.
use Rattle.std.proofs.Common.{◌≡◌, ℕ, ◌+◌, ◌-◌, ◌<◌, Bool, true, false, Option, Some, None, refl, arith}
use Rattle.std.specs.Prelude.{nat_lt, slice_get, if◌then◌else◌}
use Rattle.std.proofs.lemmas.Bool.{ltb-true}
use Rattle.word_base.specs.Ports.{Input, IsInput}
use Rattle.c_tree.specs.declared.enclosing.Enclosing.TheVariants as around
use Rattle.c_tree.specs.declared.program.VarRef.{VarRef}
use Rattle.c_tree.specs.declared.program.VarRef.TheVariants.{Scalar, Local, Static}
use Rattle.tree_code.specs.WellFormedCode.{IsSound, IsFunctionCode, cells_in}
use Rattle.tree_code.specs.WordTemporaries.{word_statement_temporaries}
use Rattle.tree_code.specs.WordTree.{FunctionCode, ProgramCode}
use Rattle.acc_select.specs.Selected.{selected}
use Rattle.ir_semantics.specs.Keeps as run
use Rattle.ir_semantics.specs.Keeps.{tree_run, acc_run}
use Rattle.ir_semantics.specs.Outside.{Places, address_of}
use Rattle.acc_select_proof.specs.OfWords.{IsOfWords}
use Rattle.acc_select_proof.specs.Selecting.{IsWordProgram}
use Rattle.acc_select_proof.proofs.Rules.{Ground}
use Rattle.acc_select_proof.proofs.Coding.{IsInside}
use Rattle.acc_select_proof.proofs.SelectExpressions.{code_keeps}
use Rattle.acc_select_proof.proofs.Functions.{ground, base_of, parameters_in, BodyKeeps}
use Rattle.acc_select_proof.proofs.SelectStatements.{statement_keeps}
use Rattle.acc_select_proof.proofs.Fitting.{statement_fits}
use Rattle.acc_select_proof.proofs.Mains.{element_of}
use Rattle.acc_select_proof.proofs.SelectPrograms.{selection_keeps}

below_by : (k temporaries scalars : ℕ) (b : Bool) → nat_lt (k + temporaries) scalars ≡ b → if◌then◌else◌ {A = Option ℕ} b (Some 1) None ≡ Some 1 → k < scalars - temporaries
below_by k temporaries scalars true e is = let lt = ltb-true (k + temporaries) scalars e in omega (arith, lt)
below_by k temporaries scalars false e is = absurd cc

-- scalars of one cell have numbers below those of the temporaries
scalar_inside : (n : Ground) (p : ProgramCode) (g : FunctionCode) (v : VarRef) → cells_in p g v ≡ Some 1 → IsInside n (base_of g) v
scalar_inside n p g (Scalar k) e = below_by k (word_statement_temporaries g.body) g.scalars (nat_lt (k + word_statement_temporaries g.body) g.scalars) refl e
scalar_inside n p g (Local k) e = tt
scalar_inside n p g (Static k) e = tt

module _ (q : Places) (p : ProgramCode) (n : ℕ) (k : IsWordProgram q p) where
  body_kept : (f : ℕ) (g : FunctionCode) → slice_get p.functions f ≡ Some g → BodyKeeps q n (parameters_in q p.functions n) f g
  body_kept f g at = record {
    by = λ calls does grows kept s.
        let m = ground q n f g does grows in
        let base = base_of g in
        let cells = cells_in p g in
        let parameters = parameters_in q p.functions n in
        let sound = (element_of (IsFunctionCode p) p.functions k.code.functions f g at).body in
        let fits = statement_fits cells parameters (address_of q f) q g.locals IsOfWords (λ e. IsSound cells parameters e × IsOfWords e) (λ e s h. (s, h)) g.body around.Body sound (k.bodies f g at) in
        statement_keeps m base calls q (λ e. IsSound cells parameters e × IsOfWords e) (λ e h. code_keeps m base cells parameters calls kept (k.addresses f) (scalar_inside m p g) e h.0 h.1) g.body fits s;
  }

  pub word_programs_keep : (input : Input) → IsInput input → run.Keeps (tree_run q p input n) (acc_run q p (selected p) input n)
  word_programs_keep input is = selection_keeps q p input n (record { code = k.code; starts = k.statics; main_returns = k.main; bodies = body_kept }) is
