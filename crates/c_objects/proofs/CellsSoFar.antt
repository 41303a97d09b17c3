-- What was typed of the cells of an array, and what is left of them.
use Rattle.std.proofs.Common.{◌≡◌, ℕ, List, [], ◌∷◌, ◌++◌, map, refl, ap, sym, ◌∙◌, append_assoc, append-nil}
use Rattle.c_tree.specs.declared.program.ScalarType.{ScalarType}
use Rattle.c_tree.specs.declared.program.Initial.{Initial}
use Rattle.c_objects.specs.declared.first_values.Entry as memory
use Rattle.c_rules.specs.declared.fault.Refusal.{Refusal}
use Rattle.c_rules.specs.declared.fault.Refusal.TheVariants as refusals
use Rattle.c_rules.specs.Answers.{Refuses}
use Rattle.c_rules.specs.Outcome.{Outcome, Is, Broken, ◌>>=◌}
use Rattle.c_rules.specs.Declarations.{cell, cells}
use Rattle.c_objects.specs.InitialiserView.{entry_of}

abbrev pub CellsSoFar : ScalarType → ℕ → List memory.Entry → List memory.Entry → List Initial → Type 0
CellsSoFar kind at list rest values = cells kind at (map entry_of list) ≡ (cells kind at (map entry_of rest) >>= λ is. Is (values ++ is))

-- one cell more
one_more : (values : List Initial) (value : Initial) (o : Outcome (List Initial)) → ((o >>= λ is. Is (value ∷ is)) >>= λ is. Is (values ++ is)) ≡ (o >>= λ is. Is ((values ++ value ∷ []) ++ is))
one_more values value (Is is) = ap Is (sym (append_assoc values (value ∷ []) is))
one_more values value (Broken rule at) = refl

module _ (kind : ScalarType) (at : ℕ) (list left : List memory.Entry) (values : List Initial) (so_far : CellsSoFar kind at list left values) where
  module _ (e : memory.Entry) (rest : List memory.Entry) (split : left ≡ e ∷ rest) where
    pub cell_typed : (value : Initial) (more : List Initial) → cell kind at (entry_of e) ≡ Is value → more ≡ values ++ value ∷ [] → CellsSoFar kind at list rest more
    cell_typed value more typed put =
        so_far
        ∙ ap (λ l. cells kind at (map entry_of l) >>= λ is. Is (values ++ is)) split
        ∙ ap (λ o. (o >>= λ i. cells kind at (map entry_of rest) >>= λ is. Is (i ∷ is)) >>= λ is. Is (values ++ is)) typed
        ∙ one_more values value (cells kind at (map entry_of rest))
        ∙ ap (λ l. cells kind at (map entry_of rest) >>= λ is. Is (l ++ is)) (sym put)

    pub cell_refused : (f : Refusal) → Refuses (cell kind at (entry_of e)) f → Refuses (cells kind at (map entry_of list)) f
    cell_refused refusals.NoMemory h = tt {0}
    cell_refused (refusals.Broken rule place) h =
        so_far
        ∙ ap (λ l. cells kind at (map entry_of l) >>= λ is. Is (values ++ is)) split
        ∙ ap (λ o. (o >>= λ i. cells kind at (map entry_of rest) >>= λ is. Is (i ∷ is)) >>= λ is. Is (values ++ is)) h

  pub cells_ended : left ≡ [] → cells kind at (map entry_of list) ≡ Is values
  cells_ended none = so_far ∙ ap (λ l. cells kind at (map entry_of l) >>= λ is. Is (values ++ is)) none ∙ ap Is (append-nil values)
