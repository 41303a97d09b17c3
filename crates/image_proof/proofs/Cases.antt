-- Word trees whose values of cases are words; those of typed programs of words are so.
use Rattle.std.proofs.Common.{◌<◌}
use Rattle.std.specs.Prelude.{⊤}
use Rattle.c_tree.specs.TypedTree as source
use Rattle.c_tree.specs.TypedTree.{Stmt, Stmts, Choices}
use Rattle.tree_code.specs.Lowered.{lowered_statement, lowered_statements, lowered_choices}
use Rattle.c_tree.specs.TypedOfWords.{StatementUsesWords, StatementsUseWords, ChoicesUseWords}
use Rattle.tree_code.specs.WordTree as tree
use Rattle.tree_code.specs.WordTree.{StmtCode, StmtsCode, ChoicesCode}
use Rattle.acc_select.specs.Selected.{labels_of}
use Rattle.emit_proof.specs.Code.{AreWordLabels}

abbrev mutual
  pub HasWordCases : StmtCode → Type 0
  HasWordCases (tree.Block declared ss) = HaveWordCases ss
  HasWordCases (tree.If e a b) = HasWordCases a × HasWordCases b
  HasWordCases (tree.While e a) = HasWordCases a
  HasWordCases (tree.Do_while a e) = HasWordCases a
  HasWordCases (tree.For x y z a) = HasWordCases a
  HasWordCases (tree.Switch e cs) = CasesAreWords cs
  HasWordCases a = ⊤

  pub HaveWordCases : StmtsCode → Type 0
  HaveWordCases tree.done = ⊤
  HaveWordCases (tree.both a rest) = HasWordCases a × HaveWordCases rest

  pub CasesAreWords : ChoicesCode → Type 0
  CasesAreWords tree.no_more = ⊤
  CasesAreWords (tree.case w rest) = (w < 65536) × CasesAreWords rest
  CasesAreWords (tree.default rest) = CasesAreWords rest
  CasesAreWords (tree.body a rest) = HasWordCases a × CasesAreWords rest

pub labels_are_words : (cs : ChoicesCode) → CasesAreWords cs → AreWordLabels (labels_of cs)
labels_are_words tree.no_more h = tt
labels_are_words (tree.case w rest) h = (h.0, labels_are_words rest h.1)
labels_are_words (tree.default rest) h = (tt, labels_are_words rest h)
labels_are_words (tree.body a rest) h = labels_are_words rest h.1

-- lowering keeps values of cases
mutual
  pub lowered_cases : (s : Stmt) → StatementUsesWords s → HasWordCases (lowered_statement s)
  lowered_cases (source.Block declared ss) h = lowered_all ss h
  lowered_cases (source.Fill n) h = tt
  lowered_cases (source.Do_expr e) h = tt
  lowered_cases (source.If e a b) h = (lowered_cases a h.1, lowered_cases b h.2)
  lowered_cases (source.While e a) h = lowered_cases a h.1
  lowered_cases (source.Do_while a e) h = lowered_cases a h.0
  lowered_cases (source.For x y z a) h = lowered_cases a h.3
  lowered_cases (source.Switch e cs) h = lowered_labels cs h.1
  lowered_cases source.Break h = tt
  lowered_cases source.Continue h = tt
  lowered_cases (source.Return e) h = tt

  lowered_all : (ss : Stmts) → StatementsUseWords ss → HaveWordCases (lowered_statements ss)
  lowered_all source.done h = tt
  lowered_all (source.both s rest) h = (lowered_cases s h.0, lowered_all rest h.1)

  lowered_labels : (cs : Choices) → ChoicesUseWords cs → CasesAreWords (lowered_choices cs)
  lowered_labels source.no_more h = tt
  lowered_labels (source.case w rest) h = (h.0, lowered_labels rest h.1)
  lowered_labels (source.default rest) h = lowered_labels rest h
  lowered_labels (source.body s rest) h = (lowered_cases s h.0, lowered_labels rest h.1)
