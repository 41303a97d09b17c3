-- A turn of the loop over parameters.
use Rattle.std.proofs.Common.{◌≡◌, ℕ, List, [], ◌∷◌, ◌++◌, map, refl, ap, sym, append_assoc}
use Rattle.c_syntax.specs.declared.decl.Param.{Param}
use Rattle.c_tree.specs.declared.program.ScalarType.{ScalarType}
use Rattle.c_tree.specs.declared.program.VarRef.TheVariants as refs
use Rattle.c_syntax.specs.SyntaxView.{parameter_of}
use Rattle.c_rules.specs.declared.fault.Rule.{Rule}
use Rattle.c_rules.specs.declared.fault.Refusal.{Refusal}
use Rattle.c_rules.specs.declared.fault.Refusal.TheVariants as refusals
use Rattle.c_rules.specs.declared.local.Naming.{Naming}
use Rattle.c_rules.specs.Answers.{Refuses}
use Rattle.c_rules.specs.Outcome.{Outcome, Is, Broken, ◌>>=◌}
use Rattle.c_rules.specs.Scopes.{Scope}
use Rattle.c_rules.specs.Declarations.{parameter, parameters, with_single}

one_more : (kinds : List ScalarType) (kind : ScalarType) (o : Outcome (List ScalarType)) → ((o >>= λ ks. Is (kind ∷ ks)) >>= λ ks. Is (kinds ++ ks)) ≡ (o >>= λ ks. Is ((kinds ++ kind ∷ []) ++ ks))
one_more kinds kind (Is ks) = ap Is (sym (append_assoc kinds (kind ∷ []) ks))
one_more kinds kind (Broken rule at) = refl

module _ (o : Outcome (List ScalarType)) (t : Scope) (naming : Naming) (p : Param) (ps rest : List Param) (kinds : List ScalarType) (so_far : o ≡ (parameters t naming (map parameter_of ps) >>= λ ks. Is (kinds ++ ks))) (split : ps ≡ p ∷ rest) where
  pub parameter_typed : (kind : ScalarType) (u : Scope) (more : List ScalarType) → parameter t naming (parameter_of p) ≡ Is kind → u ≡ with_single t p.name (refs.Local 0) kind → more ≡ kinds ++ kind ∷ [] → o ≡ (parameters u naming (map parameter_of rest) >>= λ ks. Is (more ++ ks))
  parameter_typed kind u more h next put = rw (so_far, split, h, next, put) (one_more kinds kind (parameters (with_single t p.name (refs.Local 0) kind) naming (map parameter_of rest)))

  parameter_broken : (rule : Rule) (at : ℕ) → parameter t naming (parameter_of p) ≡ Broken rule at → o ≡ Broken rule at
  parameter_broken rule at h = rw (so_far, split, h)

  pub parameter_refused : (f : Refusal) → Refuses (parameter t naming (parameter_of p)) f → Refuses o f
  parameter_refused (refusals.Broken rule at) h = parameter_broken rule at h
  parameter_refused refusals.NoMemory h = tt {0}
