-- The functions of a program, one by one.
use Rattle.std.proofs.Common.{◌≡◌, refl, ap, ap₂, ◌∙◌, sym, ℕ, ◌+◌, List, [], ◌∷◌, map, length}
use Rattle.std.specs.Prelude.{All}
use Rattle.std.specs.Coded.{Coded, code_by, coded_ℕ, coded×, coded_list}
use Rattle.std.proofs.Math.Logic.{∥∥₁_elim}
use base.Stored.{Coded-set}
use Rattle.std.proofs.lemmas.List.Elements.{All-head, All-tail}
use Rattle.c_tree.specs.TypedTree.{FunctionTree, ProgramTree}
use Rattle.c_tree.specs.WellFormedProgram.{IsProgram}
use Rattle.tree_code.specs.Lowered.{lowered_function, lowered_program}
use Rattle.tree_code.specs.WellFormedCode.{IsFunctionCode}
use Rattle.tree_code.proofs.CodeLemmas.{well_formed_code}
use Rattle.tree_code.specs.WordTree.{ProgramCode}
use Rattle.tree_code.proofs.KeptLemmas.{statement_kept}
use Rattle.acc_code.specs.AccSequence.{once}
use Rattle.acc_select.specs.Selected.{selected, selected_function}
use Rattle.lay_model.specs.Sequences.{Block, Sequence}
use Rattle.acc_select_proof.specs.SourceSequences.{at_step, source_sequence}
use Rattle.acc_select_proof.proofs.Lowering.{function_kept}
use Rattle.acc_select_proof.proofs.AccessStatements.{function_has}

abbrev make_sequence : ℕ → ℕ → List (List ℕ) → Sequence
make_sequence step scalars blocks = record { scalars = scalars; step = step; blocks = map once blocks }

-- two lists of sequences are equal in one way
coded_block : Coded Block
coded_block = code_by (ℕ × List ℕ) (coded× coded_ℕ (coded_list coded_ℕ)) (λ b. (b.weight, b.accesses)) (λ p. record { weight = p.0; accesses = p.1 }) (λ _. refl)

coded_sequence : Coded Sequence
coded_sequence = code_by (ℕ × (ℕ × List Block)) (coded× coded_ℕ (coded× coded_ℕ (coded_list coded_block))) (λ s. (s.scalars, (s.step, s.blocks))) (λ p. record { scalars = p.0; step = p.1.0; blocks = p.1.1 }) (λ _. refl)

sequences_set : IsSet (List Sequence)
sequences_set = Coded-set (coded_list coded_sequence)

module _ (step : ℕ) where
  sequence_kept : (p : ProgramCode) (f : FunctionTree) → IsFunctionCode p (lowered_function f) → at_step step (selected_function (lowered_function f)) ≡ source_sequence step f
  sequence_kept p f is =
      ap₂ (make_sequence step) (ap (λ n. length f.scalars + n) (statement_kept f.body)) (function_has p (lowered_function f) is.body ∙ sym (function_kept f))

  functions_kept : (p : ProgramCode) (fs : List FunctionTree) → All (IsFunctionCode p) (map lowered_function fs) → map (at_step step) (map selected_function (map lowered_function fs)) ≡ map (source_sequence step) fs
  functions_kept p [] all = refl
  functions_kept p (f ∷ fs) all =
      ap₂ (λ x xs. x ∷ xs) (sequence_kept p f (All-head (IsFunctionCode p) (lowered_function f) (map lowered_function fs) all)) (functions_kept p fs (All-tail (IsFunctionCode p) (lowered_function f) (map lowered_function fs) all))

  pub sequences_kept : (p : ProgramTree) → IsProgram p → map (at_step step) (selected (lowered_program p)) ≡ map (source_sequence step) p.functions
  sequences_kept p is = functions_kept (lowered_program p) p.functions (well_formed_code p is).functions

  pub known_kept : (p : ProgramTree) → ∥ IsProgram p ∥₁ → map (at_step step) (selected (lowered_program p)) ≡ map (source_sequence step) p.functions
  known_kept p known = ∥∥₁_elim known (sequences_set _ _) (sequences_kept p)
