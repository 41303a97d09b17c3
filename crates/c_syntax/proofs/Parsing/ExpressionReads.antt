-- What the grammar derives is read.
use Rattle.std.proofs.Common.{List, [], ◌∷◌, sym, ◌∙◌, subst, append_assoc}
use Rattle.c_syntax.specs.declared.token.Token.{Token}
use Rattle.c_syntax.specs.SyntaxTree.{Expression, Node, Index, Call, StepAfter, StepBefore, Prefix, SizeofValue, SizeofType, Cast, Binary, And, Or, Conditional, Assign, AssignOp, Comma, Expressions, argument}
use Rattle.c_syntax.specs.Grammar.{Row, ExpressionRow, AssignmentRow, ConditionalRow, OrRow, AndRow, BitOrRow, CastRow, UnaryRow, PostfixRow, PrimaryRow, place_of, Derives, Passes, CommaRule, AssignRule, AssignOpRule, ConditionalRule, OrRule, AndRule, BinaryRule, CastRule, StepBeforeRule, PrefixRule, SizeofValueRule, SizeofTypeRule, IndexRule, StepAfterRule, CallRule, NameRule, NumberRule, CharacterRule, ParenRule, AreArguments, NoArgument, SomeArguments, AreSome, LastArgument, MoreArguments}
use Rattle.c_syntax.proofs.Parsing.Begins.{begins}
use Rattle.c_syntax.proofs.Parsing.Joins.{IsRead, passes_read}
use Rattle.c_syntax.proofs.Parsing.Forms.{comma_read, or_read, and_read, binary_read, index_read, step_after_read, assign_read, assign_op_read, conditional_read, cast_read, step_before_read, prefix_read, sizeof_value_read, sizeof_type_read, name_read, number_read, character_read, paren_read, AreRead, SomeAreRead, none_read, some_read, last_read, more_read, call_read}

mutual
  pub derives_read : (row : Row) (tokens : List Token) (tree : Expression) → Derives row tokens tree → IsRead row tokens tree
  derives_read row tokens tree (Passes next e d) = passes_read row next tokens tree e (begins next tokens tree d) (derives_read next tokens tree d)
  derives_read row tokens tree (CommaRule a b t {left = left} {right = right} cut l m r) =
      subst (λ k. IsRead ExpressionRow k (Node (Comma left right) (place_of k))) (sym cut)
      (comma_read a b t left right (begins ExpressionRow a left l) (derives_read ExpressionRow a left l) m (derives_read AssignmentRow b right r))
  derives_read row tokens tree (AssignRule a b t {left = left} {right = right} cut l m r) =
      subst (λ k. IsRead AssignmentRow k (Node (Assign left right) (place_of k))) (sym cut)
      (assign_read a b t left right (begins UnaryRow a left l) (derives_read UnaryRow a left l) (derives_read AssignmentRow b right r) m)
  derives_read row tokens tree (AssignOpRule a b t p {operator = operator} {left = left} {right = right} cut l is m r) =
      subst (λ k. IsRead AssignmentRow k (Node (AssignOp operator left right) (place_of k))) (sym cut)
      (assign_op_read a b t left right (begins UnaryRow a left l) (derives_read UnaryRow a left l) (derives_read AssignmentRow b right r) p operator is m)
  derives_read row tokens tree (ConditionalRule a b c t u {test = test} {yes = chosen} {no = other} cut l m y n z) =
      subst (λ k. IsRead ConditionalRow k (Node (Conditional test chosen other) (place_of k))) (sym (cut ∙ append_assoc a (t ∷ b) (u ∷ c)))
      (conditional_read a b c t u test chosen other (begins OrRow a test l) (derives_read OrRow a test l) m (derives_read ExpressionRow b chosen y) n (derives_read ConditionalRow c other z))
  derives_read row tokens tree (OrRule a b t {left = left} {right = right} cut l m r) =
      subst (λ k. IsRead OrRow k (Node (Or left right) (place_of k))) (sym cut)
      (or_read a b t left right (begins OrRow a left l) (derives_read OrRow a left l) m (derives_read AndRow b right r))
  derives_read row tokens tree (AndRule a b t {left = left} {right = right} cut l m r) =
      subst (λ k. IsRead AndRow k (Node (And left right) (place_of k))) (sym cut)
      (and_read a b t left right (begins AndRow a left l) (derives_read AndRow a left l) m (derives_read BitOrRow b right r))
  derives_read row tokens tree (BinaryRule a b t next {operator = operator} {left = left} {right = right} cut level e l m r) =
      subst (λ k. IsRead row k (Node (Binary operator left right) (place_of k))) (sym cut)
      (binary_read a b t row next operator left right level e (begins row a left l) (derives_read row a left l) m (derives_read next b right r))
  derives_read row tokens tree (CastRule a b t u {type = type} {operand = operand} cut m h n r) =
      subst (λ k. IsRead CastRow k (Node (Cast type operand) (place_of k))) (sym cut) (cast_read a b t u type operand m h n (derives_read CastRow b operand r))
  derives_read row tokens tree (StepBeforeRule a t {up = up} {operand = operand} cut m r) =
      subst (λ k. IsRead UnaryRow k (Node (StepBefore up operand) (place_of k))) (sym cut) (step_before_read a t up operand m (derives_read UnaryRow a operand r))
  derives_read row tokens tree (PrefixRule a t {operator = operator} {operand = operand} cut m r) =
      subst (λ k. IsRead UnaryRow k (Node (Prefix operator operand) (place_of k))) (sym cut) (prefix_read a t operator operand m (derives_read CastRow a operand r))
  derives_read row tokens tree (SizeofValueRule a t {operand = operand} cut k r) =
      subst (λ k. IsRead UnaryRow k (Node (SizeofValue operand) (place_of k))) (sym cut)
      (sizeof_value_read a t operand k (begins UnaryRow a operand r) (derives_read UnaryRow a operand r))
  derives_read row tokens tree (SizeofTypeRule a t u v {type = type} cut k m h n) =
      subst (λ k. IsRead UnaryRow k (Node (SizeofType type) (place_of k))) (sym cut) (sizeof_type_read a t u v type k m h n)
  derives_read row tokens tree (IndexRule a b t u {operand = operand} {index = index} cut l m r n) =
      subst (λ k. IsRead PostfixRow k (Node (Index operand index) (place_of k))) (sym (cut ∙ append_assoc a (t ∷ b) (u ∷ [])))
      (index_read a b t u operand index (begins PostfixRow a operand l) (derives_read PostfixRow a operand l) m (derives_read ExpressionRow b index r) n)
  derives_read row tokens tree (StepAfterRule a t {up = up} {operand = operand} cut l m) =
      subst (λ k. IsRead PostfixRow k (Node (StepAfter up operand) (place_of k))) (sym cut)
      (step_after_read a t up operand (begins PostfixRow a operand l) (derives_read PostfixRow a operand l) m)
  derives_read row tokens tree (CallRule a t u v {name = name} {arguments = arguments} cut k m r n) =
      subst (λ k. IsRead PostfixRow k (Node (Call name arguments) (place_of k))) (sym cut) (call_read a t u v name arguments k m (arguments_read a arguments r) n)
  derives_read row tokens tree (NameRule {t = t} {name = name} k) = name_read t name k
  derives_read row tokens tree (NumberRule {t = t} {value = value} {marked = marked} {decimal = decimal} k) = number_read t value marked decimal k
  derives_read row tokens tree (CharacterRule {t = t} {value = value} k) = character_read t value k
  derives_read row tokens tree (ParenRule a t u {tree = inner} cut m r n) =
      subst (λ k. IsRead PrimaryRow k inner) (sym cut) (paren_read a t u inner m (begins ExpressionRow a inner r) (derives_read ExpressionRow a inner r) n)

  pub arguments_read : (tokens : List Token) (trees : Expressions) → AreArguments tokens trees → AreRead tokens trees
  arguments_read tokens trees NoArgument = none_read
  arguments_read tokens trees (SomeArguments s) = some_read tokens trees (some_are_read tokens trees s)

  pub some_are_read : (tokens : List Token) (trees : Expressions) → AreSome tokens trees → SomeAreRead tokens trees
  some_are_read tokens trees (LastArgument {tree = tree} d) = last_read tokens tree (begins AssignmentRow tokens tree d) (derives_read AssignmentRow tokens tree d)
  some_are_read tokens trees (MoreArguments a b t {tree = tree} {arguments = arguments} cut d m s) =
      subst (λ k. SomeAreRead k (argument tree arguments)) (sym cut) (more_read a b t tree arguments (begins AssignmentRow a tree d) (derives_read AssignmentRow a tree d) m (some_are_read b arguments s))
