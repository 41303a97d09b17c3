-- Statements, their lists and the choices of a switch have one tree.
use Rattle.std.proofs.Common.{◌≡◌, ◌≢◌, List, [], ◌∷◌, ◌++◌, refl, sym, ap, ◌∙◌, append_assoc}
use Rattle.c_syntax.specs.declared.token.Token.{Token}
use Rattle.c_syntax.specs.declared.token.Keyword.TheVariants as keyword
use Rattle.c_syntax.specs.declared.token.Punct.TheVariants as mark
use Rattle.c_syntax.specs.SyntaxTree.{Expression, Statement, Statements, no_statement, statement, Choices, no_choice, case_label, default_label, chosen}
use Rattle.c_syntax.specs.Grammar.{ConditionalRow, IsMark, IsKeyword, Derives}
use Rattle.c_syntax.specs.Derives.{Closing, DerivesStatement, EmptyRule, EvaluateRule, BlockRule, BreakRule, ContinueRule, ReturnRule, DoRule, IfRule, IfElseRule, WhileRule, ForRule, SwitchRule, DerivesStatements, NoStatement, MoreStatements, DerivesChoices, NoChoice, CaseRule, DefaultRule, ChosenRule}
use Rattle.c_syntax.proofs.Rows.Fronts.{Sort, ElseWord, CaseWord, DefaultWord, BraceCloses, ColonMark, kind_sort, first, Agree, agree, cut_both, same_head, same_tail}
use Rattle.c_syntax.proofs.Rows.Given.{OneExpression, ends_at, mark_first, expression_one}
use Rattle.c_syntax.proofs.Rows.Heads.{Head, statement_other}
use Rattle.c_syntax.proofs.Rows.Statements.{fits, IsOne, AreOne, OneChoices, empty_one, break_one, continue_one, evaluate_one, return_one, do_one, while_one, for_one, if_one, if_else_one, switch_one, block_one}

module _ (known : OneExpression) where
  -- what stands before a closing brace doesn't begin with `else`
  pub statements_no_else : (a r : List Token) (xs : Statements) → DerivesStatements a xs → first r ≡ BraceCloses → first (a ++ r) ≢ ElseWord
  statements_no_else _ r _ NoStatement p = λ e. let both : BraceCloses ≡ ElseWord = sym p ∙ e in cc
  statements_no_else _ r _ (MoreStatements {tokens = tokens} c a b {tree = x} cut g more) p =
      λ e. statement_other known a (b ++ r) c x ElseWord g (λ k. k) (sym (ap first (ap (λ l. l ++ r) cut ∙ append_assoc a b r)) ∙ e)

  pub choices_no_else : (a r : List Token) (xs : Choices) → DerivesChoices a xs → first r ≡ BraceCloses → first (a ++ r) ≢ ElseWord
  choices_no_else _ r _ NoChoice p = λ e. let both : BraceCloses ≡ ElseWord = sym p ∙ e in cc
  choices_no_else _ r _ (CaseRule {tokens = tokens} a b t u cut g h i more) p = λ e. let both : CaseWord ≡ ElseWord = sym (ap (λ l. first (l ++ r)) cut ∙ ap kind_sort g) ∙ e in cc
  choices_no_else _ r _ (DefaultRule {tokens = tokens} a t u cut g h more) p = λ e. let both : DefaultWord ≡ ElseWord = sym (ap (λ l. first (l ++ r)) cut ∙ ap kind_sort g) ∙ e in cc
  choices_no_else _ r _ (ChosenRule {tokens = tokens} c a b {tree = x} cut g more) p =
      λ e. statement_other known a (b ++ r) c x ElseWord g (λ k. k) (sym (ap first (ap (λ l. l ++ r) cut ∙ append_assoc a b r)) ∙ e)

  none_one : AreOne [] no_statement
  none_one = record { same = λ b r s ys h p q e. go b r s ys h p q e }
    where
      go : (b r s : List Token) (ys : Statements) → DerivesStatements b ys → first r ≡ BraceCloses → first s ≡ BraceCloses → r ≡ b ++ s → Agree [] b r s no_statement ys
      go _ r s _ NoStatement p q e = record { front = refl; rest = e; tree = refl }
      go _ r s _ (MoreStatements {tokens = tokens} c a b {tree = x} cut g more) p q e =
          absurd (statement_other known a (b ++ s) c x BraceCloses g (λ k. k) (sym (ap first (e ∙ ap (λ l. l ++ s) cut ∙ append_assoc a b s)) ∙ p))

  more_one : (c : Closing) (tokens a b : List Token) (x : Statement) (xs : Statements) → tokens ≡ a ++ b → DerivesStatement c a x → IsOne c a x → DerivesStatements b xs → AreOne b xs → AreOne tokens (statement x xs)
  more_one c tokens a b x xs cut g one also others = record { same = λ d r s ys h p q e. go d r s ys h p q e }
    where
      go : (d r s : List Token) (ys : Statements) → DerivesStatements d ys → first r ≡ BraceCloses → first s ≡ BraceCloses → tokens ++ r ≡ d ++ s → Agree tokens d r s (statement x xs) ys
      go _ r s _ NoStatement p q e =
          absurd (statement_other known a (b ++ r) c x BraceCloses g (λ k. k) (ap first (sym (append_assoc a b r) ∙ sym (ap (λ l. l ++ r) cut) ∙ e) ∙ q))
      go _ r s _ (MoreStatements {tokens = all} k f h {tree = y} {trees = ys} cut' i more) p q e =
          let is : a ++ (b ++ r) ≡ f ++ (h ++ s) = simp append_assoc at (cut_both tokens all (a ++ b) (f ++ h) r s cut cut' e) in
          let found = one.same k f (b ++ r) (h ++ s) y i (fits c (b ++ r) (statements_no_else b r xs also p)) (fits k (h ++ s) (statements_no_else h s ys more q)) is in
          let behind = others.same h r s ys more p q found.rest in
          agree tokens all r s _ _ (cc (cut, cut', found.front, behind.front)) (cc (found.tree, behind.tree)) e

  case_first : (tokens a b r : List Token) (t u : Token) → tokens ≡ t ∷ a ++ u ∷ b → IsKeyword keyword.Case t → first (tokens ++ r) ≡ CaseWord
  case_first tokens a b r t u cut word = ap (λ l. first (l ++ r)) cut ∙ ap kind_sort word

  default_first : (tokens a r : List Token) (t u : Token) → tokens ≡ t ∷ u ∷ a → IsKeyword keyword.Default t → first (tokens ++ r) ≡ DefaultWord
  default_first tokens a r t u cut word = ap (λ l. first (l ++ r)) cut ∙ ap kind_sort word

  chosen_other : (tokens a b r : List Token) (c : Closing) (x : Statement) (k : Sort) → tokens ≡ a ++ b → DerivesStatement c a x → (Head k c a x → ⊥) → first (tokens ++ r) ≢ k
  chosen_other tokens a b r c x k cut g never e = statement_other known a (b ++ r) c x k g never (sym (ap first (ap (λ l. l ++ r) cut ∙ append_assoc a b r)) ∙ e)

  no_choice_one : OneChoices [] no_choice
  no_choice_one = record { same = λ b r s ys h p q e. go b r s ys h p q e }
    where
      go : (b r s : List Token) (ys : Choices) → DerivesChoices b ys → first r ≡ BraceCloses → first s ≡ BraceCloses → r ≡ b ++ s → Agree [] b r s no_choice ys
      go _ r s _ NoChoice p q e = record { front = refl; rest = e; tree = refl }
      go _ r s _ (CaseRule {tokens = tokens} a b t u cut g h i more) p q e = let both : BraceCloses ≡ CaseWord = sym p ∙ ap first e ∙ case_first tokens a b s t u cut g in absurd cc
      go _ r s _ (DefaultRule {tokens = tokens} a t u cut g h more) p q e = let both : BraceCloses ≡ DefaultWord = sym p ∙ ap first e ∙ default_first tokens a s t u cut g in absurd cc
      go _ r s _ (ChosenRule {tokens = tokens} c a b {tree = x} cut g more) p q e = absurd (chosen_other tokens a b s c x BraceCloses cut g (λ k. k) (sym (ap first e) ∙ p))

  case_one : (tokens a b : List Token) (t u : Token) (x : Expression) (xs : Choices) → tokens ≡ t ∷ a ++ u ∷ b → IsKeyword keyword.Case t → Derives ConditionalRow a x → IsMark mark.Colon u → OneChoices b xs → OneChoices tokens (case_label x xs)
  case_one tokens a b t u x xs cut word g colon one = record { same = λ d r s ys h p q e. go d r s ys h p q e }
    where
      go : (d r s : List Token) (ys : Choices) → DerivesChoices d ys → first r ≡ BraceCloses → first s ≡ BraceCloses → tokens ++ r ≡ d ++ s → Agree tokens d r s (case_label x xs) ys
      go _ r s _ NoChoice p q e = let both : CaseWord ≡ BraceCloses = sym (case_first tokens a b r t u cut word) ∙ ap first e ∙ q in absurd cc
      go _ r s _ (DefaultRule {tokens = all} f v w cut' h i more) p q e =
          let both : CaseWord ≡ DefaultWord = sym (case_first tokens a b r t u cut word) ∙ ap first e ∙ default_first all f s v w cut' h in
          absurd cc
      go _ r s _ (ChosenRule {tokens = all} c f h {tree = y} cut' i more) p q e =
          absurd (chosen_other all f h s c y CaseWord cut' i (λ k. k) (sym (ap first e) ∙ case_first tokens a b r t u cut word))
      go _ r s _ (CaseRule {tokens = all} f h v w {value = y} {choices = ys} cut' word' i colon' more) p q e =
          let is : t ∷ (a ++ (u ∷ (b ++ r))) ≡ v ∷ (f ++ (w ∷ (h ++ s))) = simp append_assoc at (cut_both tokens all (t ∷ a ++ u ∷ b) (v ∷ f ++ w ∷ h) r s cut cut' e) in
          let same = same_head t v (a ++ (u ∷ (b ++ r))) (f ++ (w ∷ (h ++ s))) is in
          let found = expression_one known ConditionalRow a f (u ∷ (b ++ r)) (w ∷ (h ++ s)) x y refl g i
          (ends_at ConditionalRow (u ∷ (b ++ r)) ColonMark (mark_first mark.Colon u (b ++ r) colon) refl)
          (ends_at ConditionalRow (w ∷ (h ++ s)) ColonMark (mark_first mark.Colon w (h ++ s) colon') refl)
          (same_tail t v (a ++ (u ∷ (b ++ r))) (f ++ (w ∷ (h ++ s))) is) in
          let also = same_head u w (b ++ r) (h ++ s) found.rest in
          let others = one.same h r s ys more p q (same_tail u w (b ++ r) (h ++ s) found.rest) in
          agree tokens all r s _ _ (cc (cut, cut', same, found.front, also, others.front)) (cc (found.tree, others.tree)) e

  default_one : (tokens a : List Token) (t u : Token) (xs : Choices) → tokens ≡ t ∷ u ∷ a → IsKeyword keyword.Default t → OneChoices a xs → OneChoices tokens (default_label xs)
  default_one tokens a t u xs cut word one = record { same = λ d r s ys h p q e. go d r s ys h p q e }
    where
      go : (d r s : List Token) (ys : Choices) → DerivesChoices d ys → first r ≡ BraceCloses → first s ≡ BraceCloses → tokens ++ r ≡ d ++ s → Agree tokens d r s (default_label xs) ys
      go _ r s _ NoChoice p q e = let both : DefaultWord ≡ BraceCloses = sym (default_first tokens a r t u cut word) ∙ ap first e ∙ q in absurd cc
      go _ r s _ (CaseRule {tokens = all} f h v w cut' i j k more) p q e =
          let both : DefaultWord ≡ CaseWord = sym (default_first tokens a r t u cut word) ∙ ap first e ∙ case_first all f h s v w cut' i in
          absurd cc
      go _ r s _ (ChosenRule {tokens = all} c f h {tree = y} cut' i more) p q e =
          absurd (chosen_other all f h s c y DefaultWord cut' i (λ k. k) (sym (ap first e) ∙ default_first tokens a r t u cut word))
      go _ r s _ (DefaultRule {tokens = all} f v w {choices = ys} cut' h i more) p q e =
          let is : t ∷ u ∷ (a ++ r) ≡ v ∷ w ∷ (f ++ s) = cut_both tokens all (t ∷ u ∷ a) (v ∷ w ∷ f) r s cut cut' e in
          let behind = same_tail t v (u ∷ (a ++ r)) (w ∷ (f ++ s)) is in
          let same = same_head t v (u ∷ (a ++ r)) (w ∷ (f ++ s)) is in
          let also = same_head u w (a ++ r) (f ++ s) behind in
          let others = one.same f r s ys more p q (same_tail u w (a ++ r) (f ++ s) behind) in
          agree tokens all r s _ _ (cc (cut, cut', same, also, others.front)) (ap default_label others.tree) e

  chosen_one : (c : Closing) (tokens a b : List Token) (x : Statement) (xs : Choices) → tokens ≡ a ++ b → DerivesStatement c a x → IsOne c a x → DerivesChoices b xs → OneChoices b xs → OneChoices tokens (chosen x xs)
  chosen_one c tokens a b x xs cut g one also others = record { same = λ d r s ys h p q e. go d r s ys h p q e }
    where
      go : (d r s : List Token) (ys : Choices) → DerivesChoices d ys → first r ≡ BraceCloses → first s ≡ BraceCloses → tokens ++ r ≡ d ++ s → Agree tokens d r s (chosen x xs) ys
      go _ r s _ NoChoice p q e = absurd (chosen_other tokens a b r c x BraceCloses cut g (λ k. k) (ap first e ∙ q))
      go _ r s _ (CaseRule {tokens = all} f h v w cut' i j k more) p q e = absurd (chosen_other tokens a b r c x CaseWord cut g (λ k. k) (ap first e ∙ case_first all f h s v w cut' i))
      go _ r s _ (DefaultRule {tokens = all} f v w cut' h i more) p q e = absurd (chosen_other tokens a b r c x DefaultWord cut g (λ k. k) (ap first e ∙ default_first all f s v w cut' h))
      go _ r s _ (ChosenRule {tokens = all} k f h {tree = y} {choices = ys} cut' i more) p q e =
          let is : a ++ (b ++ r) ≡ f ++ (h ++ s) = simp append_assoc at (cut_both tokens all (a ++ b) (f ++ h) r s cut cut' e) in
          let found = one.same k f (b ++ r) (h ++ s) y i (fits c (b ++ r) (choices_no_else b r xs also p)) (fits k (h ++ s) (choices_no_else h s ys more q)) is in
          let behind = others.same h r s ys more p q found.rest in
          agree tokens all r s _ _ (cc (cut, cut', found.front, behind.front)) (cc (found.tree, behind.tree)) e

  mutual
    pub statement_one : {c : Closing} {a : List Token} {x : Statement} → DerivesStatement c a x → IsOne c a x
    statement_one (EmptyRule {t = t} g) = empty_one known t g
    statement_one (EvaluateRule {tokens = tokens} a t {tree = x} cut g ends) = evaluate_one known tokens a t x cut g ends
    statement_one (BlockRule {tokens = tokens} a b t u {declarations = xs} {statements = ys} cut opens g h ends) = block_one known tokens a b t u xs ys cut opens g h (statements_one h) ends
    statement_one (BreakRule {t = t} {u = u} g h) = break_one known t u g
    statement_one (ContinueRule {t = t} {u = u} g h) = continue_one known t u g
    statement_one (ReturnRule {tokens = tokens} a t u {value = x} cut word g ends) = return_one known tokens a t u x cut word g ends
    statement_one (DoRule {tokens = tokens} closing a b t u v {body = x} {test = y} cut word g while h ends) = do_one known closing tokens a b t u v x y cut word (statement_one g) while h
    statement_one (IfRule {tokens = tokens} closing a b t {test = x} {yes = y} cut word g h) = if_one known closing tokens a b t x y cut word g (statement_one h)
    statement_one (IfElseRule {tokens = tokens} {closing = c} a b f t u {test = x} {yes = y} {no = z} cut word g h else i) = if_else_one known c tokens a b f t u x y z cut word g (statement_one h) else (statement_one i)
    statement_one (WhileRule {tokens = tokens} {closing = c} a b t {test = x} {body = y} cut word g h) = while_one known c tokens a b t x y cut word g (statement_one h)
    statement_one (ForRule {tokens = tokens} {closing = c} a b {first = x} {test = y} {third = z} {body = w} cut g h) = for_one known c tokens a b x y z w cut g (statement_one h)
    statement_one (SwitchRule {tokens = tokens} a b t u v {value = x} {choices = y} cut word g opens h ends) = switch_one known tokens a b t u v x y cut word g ends (choices_one h)

    pub statements_one : {a : List Token} {xs : Statements} → DerivesStatements a xs → AreOne a xs
    statements_one NoStatement = none_one
    statements_one (MoreStatements {tokens = tokens} c a b {tree = x} {trees = xs} cut g more) = more_one c tokens a b x xs cut g (statement_one g) more (statements_one more)

    pub choices_one : {a : List Token} {xs : Choices} → DerivesChoices a xs → OneChoices a xs
    choices_one NoChoice = no_choice_one
    choices_one (CaseRule {tokens = tokens} a b t u {value = x} {choices = xs} cut word g colon more) = case_one tokens a b t u x xs cut word g colon (choices_one more)
    choices_one (DefaultRule {tokens = tokens} a t u {choices = xs} cut word g more) = default_one tokens a t u xs cut word (choices_one more)
    choices_one (ChosenRule {tokens = tokens} c a b {tree = x} {choices = xs} cut g more) = chosen_one c tokens a b x xs cut g (statement_one g) more (choices_one more)
