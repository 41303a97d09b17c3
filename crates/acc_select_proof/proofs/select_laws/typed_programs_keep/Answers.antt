-- Lowering adds no constant, and well-formedness says the rest.
use Rattle.acc_select_proof.proofs.TypedPrograms.{typed_is_of_words, typed_programs_keep}
use Rattle.acc_select_proof.proofs.select_laws.typed_programs_keep.Goals as goal

pub returns : goal.returns
returns c = record {
  of_words = λ q p is words far. typed_is_of_words q p is words far;
  keeps = λ q p input n is words far is_input. typed_programs_keep q p is words far input n is_input;
}
