-- What the rows of statements lead to, part by part.
use Rattle.std.proofs.Common.{◌≡◌, ◌≢◌, ◌<◌, ◌≤◌, ◌+◌, ◌++◌, ◌∷◌, [], ℕ, Bool, true, false, List, Option, Some, None, inl, inr, refl, sym, ap, ◌∙◌, subst, arith, append_assoc}
use Rattle.std.specs.Prelude.{◌⊎◌, ◌↔◌, IsTrue, if◌then◌else◌}
use Rattle.c_syntax.specs.declared.token.Token.{Token}
use Rattle.c_syntax.specs.declared.token.Keyword.{Keyword}
use Rattle.c_syntax.specs.declared.token.Keyword.TheVariants as keyword
use Rattle.c_syntax.specs.declared.token.Punct.{Punct}
use Rattle.c_syntax.specs.declared.token.Punct.TheVariants as mark
use Rattle.c_syntax.specs.Grammar.{ExpressionRow, IsMark, IsKeyword}
use Rattle.c_syntax.specs.Derives.{DerivesOptional, Closing, Closed, Open, IsTested, DerivesStatement}
use Rattle.c_syntax.specs.Lookahead.{row_rank, next_mark, next_rank}
use Rattle.c_syntax.specs.SyntaxTree.{Expression, Statement, Empty, Evaluate, Block, Break, Continue, Return, DoWhile, If, IfElse, While, For, Switch}
use Rattle.c_syntax.specs.Measures.{expression_height, optional_height, statement_height, greatest_height}
use Rattle.c_syntax.proofs.Parsing.ExpressionOne.{ends_mark}
use Rattle.c_syntax.proofs.Rows.Fronts.{Sort, BreakWord, ContinueWord, ReturnWord, DoWord, IfWord, WhileWord, ForWord, SwitchWord, AnyName, StarMark, ParenOpens, BracketOpens, BraceOpens, SemicolonMark, Others, first}
use Rattle.c_syntax.proofs.Rows.Heads.{Head, EvaluateHead, BlockHead, BreakHead, ContinueHead, ReturnHead, DoHead, IfHead, IfElseHead, WhileHead, ForHead, SwitchHead, head_at}
use Rattle.c_syntax.proofs.Rows.UnitOne.{known}
use Rattle.c_cursor.specs.Front.{behind, kind_mark, kind_word, mark_at, word_at}
use Rattle.c_statements.specs.StatementRows.{EndsStatement}
use Rattle.c_cursor.specs.Takes.{IsOne, Both}
use Rattle.c_expressions.specs.Fronts.{Front, ExpressionFront, Then, One, NoFront}
use Rattle.c_statements.specs.StatementFronts.{TestedFront, StatementFront, OptionalFront, DoTestFront, ForHeadFront, PartsFront, BodyFront, begins_statement}
use Rattle.c_declarations.proofs.FrontLemmas.{behind_one, fails_as, second_fails, one_leads}
use Rattle.c_declarations.proofs.FrontTokens.{mark_sorted, word_sorted, mark_is, word_is}
use Rattle.c_statements.proofs.StatementTokens.{ends_fitting, no_semicolon, no_brace, leads, word_leads}
use Rattle.c_cursor.proofs.TakesLemmas.{gone, one_before, one_behind}
use Rattle.c_expressions.proofs.Insides.{expression_some}

pub tested_ways : (depth : ℕ) (b after : List Token) → TestedFront depth b after → Then (One (IsMark mark.OpenParen)) (Then (ExpressionFront ExpressionRow depth) (One (IsMark mark.CloseParen))) b after
tested_ways depth b after f =
    let g = f.derives in
    record {
      middle = g.a ++ (g.u ∷ after);
      first = record { t = g.t; cut = f.cut ∙ simp append_assoc at (ap (λ l. l ++ after) g.cut); is = g.opens };
      second = record {
        middle = g.u ∷ after;
        first = record { taken = g.a; tree = f.tree; cut = refl; derives = g.test; follows = ends_mark ExpressionRow g.u after mark.CloseParen g.closes (omega arith); low = f.low };
        second = record { t = g.u; cut = refl; is = g.closes };
      };
    }

-- each statement has a height
statement_some : (x : Statement) → 1 ≤ statement_height x
statement_some (Empty at) = omega arith
statement_some (Evaluate x at) = omega arith
statement_some (Block xs ys at) = omega arith
statement_some (Break at) = omega arith
statement_some (Continue at) = omega arith
statement_some (Return x at) = omega arith
statement_some (DoWhile x y at) = omega arith
statement_some (If x y at) = omega arith
statement_some (IfElse x y z at) = omega arith
statement_some (While x y at) = omega arith
statement_some (For x y z w at) = omega arith
statement_some (Switch x y b at) = omega arith

pub statement_too_high : {depth : ℕ} {b : List Token} → greatest_height ≤ depth → NoFront (StatementFront depth) b
statement_too_high h = record { never = λ after f. let some = statement_some f.front.tree in omega (arith, h, f.front.low, some) }

pub tested_too_high : {depth : ℕ} {b : List Token} → greatest_height ≤ depth → NoFront (TestedFront depth) b
tested_too_high h = record { never = λ after f. let some = expression_some f.tree in omega (arith, h, f.low, some) }

before_while : (b a r : List Token) (u : Token) → b ≡ u ∷ a → IsKeyword keyword.While u → word_at (b ++ r) ≢ Some keyword.Else
before_while b a r u cut h e = let both : Some keyword.While ≡ Some keyword.Else = sym (ap (λ l. word_at (l ++ r)) cut ∙ ap kind_word h) ∙ e in cc

-- ---- a statement, by its first token

pub head_of : {depth : ℕ} {b after : List Token} (k : Sort) (f : StatementFront depth b after) → first b ≡ k → Head k f.closing f.front.taken f.front.tree
head_of {after = after} k f e = head_at known k f.front.taken after f.closing f.front.tree f.front.derives (sym (ap first f.front.cut) ∙ e)

pub break_ways : (depth : ℕ) (b : List Token) → word_at b ≡ Some keyword.Break → (after : List Token) → StatementFront depth b after → Then (One (IsKeyword keyword.Break)) (One (IsMark mark.Semicolon)) b after
break_ways depth b e after f =
    let v : BreakHead f.front.taken f.front.tree = head_of BreakWord f (word_sorted keyword.Break b e) in
    let cut : b ≡ v.t ∷ (v.u ∷ after) = f.front.cut ∙ ap (λ l. l ++ after) v.cut in
    behind_one v.t (word_is e cut) cut (record { t = v.u; cut = refl; is = v.ends })

pub continue_ways : (depth : ℕ) (b : List Token) → word_at b ≡ Some keyword.Continue → (after : List Token) → StatementFront depth b after → Then (One (IsKeyword keyword.Continue)) (One (IsMark mark.Semicolon)) b after
continue_ways depth b e after f =
    let v : ContinueHead f.front.taken f.front.tree = head_of ContinueWord f (word_sorted keyword.Continue b e) in
    let cut : b ≡ v.t ∷ (v.u ∷ after) = f.front.cut ∙ ap (λ l. l ++ after) v.cut in
    behind_one v.t (word_is e cut) cut (record { t = v.u; cut = refl; is = v.ends })

optional_front : {depth : ℕ} {m : Punct} (a rest : List Token) (u : Token) (x : Option Expression) → DerivesOptional ExpressionRow a x → IsMark m u → depth + optional_height x ≤ greatest_height → OptionalFront m depth (a ++ (u ∷ rest)) rest
optional_front a rest u x g h low = record {
  taken = a ++ u ∷ [];
  tree = x;
  cut = sym (append_assoc a (u ∷ []) rest);
  derives = record { front = a; rest = u ∷ []; cut = refl; first = g; second = record { t = u; alone = refl; is = h } };
  follows = tt {0};
  low = low;
}

pub return_ways : (depth : ℕ) (b : List Token) → word_at b ≡ Some keyword.Return → (after : List Token) → StatementFront depth b after → Then (One (IsKeyword keyword.Return)) (OptionalFront mark.Semicolon (depth + 1)) b after
return_ways depth b e after f =
    let v : ReturnHead f.front.taken f.front.tree = head_of ReturnWord f (word_sorted keyword.Return b e) in
    let cut : b ≡ v.t ∷ (v.a ++ (v.u ∷ after)) = f.front.cut ∙ simp append_assoc at (ap (λ l. l ++ after) v.cut) in
    behind_one v.t (word_is e cut) cut (optional_front v.a after v.u v.value v.derives v.ends (omega (arith, f.front.low, ap statement_height v.tree)))

evaluates : (k : Sort) (c : Closing) (tokens : List Token) (x : Statement) → k ≢ SemicolonMark → k ≢ BraceOpens → leads k ≡ false → Head k c tokens x → EvaluateHead tokens x
evaluates AnyName c tokens x p q h v = v
evaluates StarMark c tokens x p q h v = v
evaluates ParenOpens c tokens x p q h v = v
evaluates BracketOpens c tokens x p q h v = v
evaluates Others c tokens x p q h v = v
evaluates SemicolonMark c tokens x p q h v = absurd (p refl)
evaluates BraceOpens c tokens x p q h v = absurd (q refl)
evaluates BreakWord c tokens x p q h v = absurd cc
evaluates ContinueWord c tokens x p q h v = absurd cc
evaluates ReturnWord c tokens x p q h v = absurd cc
evaluates DoWord c tokens x p q h v = absurd cc
evaluates IfWord c tokens x p q h v = absurd cc
evaluates WhileWord c tokens x p q h v = absurd cc
evaluates ForWord c tokens x p q h v = absurd cc
evaluates SwitchWord c tokens x p q h v = absurd cc
evaluates k c tokens x p q h v = absurd v

pub evaluate_ways : (depth : ℕ) (b : List Token) → mark_at b ≢ Some mark.Semicolon → mark_at b ≢ Some mark.OpenBrace → begins_statement (word_at b) ≡ false → (after : List Token) → StatementFront depth b after
    → Then (ExpressionFront ExpressionRow (depth + 1)) (One (IsMark mark.Semicolon)) b after
evaluate_ways depth b p q h after f =
    let v = evaluates (first b) f.closing f.front.taken f.front.tree (no_semicolon b p) (no_brace b q) (word_leads b ∙ h) (head_of (first b) f refl) in
    record {
      middle = v.t ∷ after;
      first = record {
        taken = v.a;
        tree = v.value;
        cut = f.front.cut ∙ simp append_assoc at (ap (λ l. l ++ after) v.cut);
        derives = v.derives;
        follows = ends_mark ExpressionRow v.t after mark.Semicolon v.ends (omega arith);
        low = omega (arith, f.front.low, ap statement_height v.tree);
      };
      second = record { t = v.t; cut = refl; is = v.ends };
    }

-- ---- a keyword and a test

tested_front : {depth : ℕ} (k : Token) (a m : List Token) (x : Expression) (g : IsTested (k ∷ []) a x) → depth + expression_height x ≤ greatest_height → TestedFront depth ((g.t ∷ g.a ++ g.u ∷ []) ++ m) m
tested_front k a m x g low = record {
  taken = g.t ∷ g.a ++ g.u ∷ [];
  tree = x;
  cut = refl;
  derives = record { t = g.t; a = g.a; u = g.u; cut = refl; opens = g.opens; test = g.test; closes = g.closes };
  follows = tt {0};
  low = low;
}

word_tested : {depth : ℕ} {w : Keyword} {S : List Token → List Token → Type 0} {b after : List Token} (k : Token) (a m : List Token) (x : Expression) → word_at b ≡ Some w → b ≡ a ++ m → IsTested (k ∷ []) a x
    → depth + expression_height x ≤ greatest_height → S m after → Then (One (IsKeyword w)) (Then (TestedFront depth) S) b after
word_tested {b = b} k a m x e cut g low s =
    let is : b ≡ k ∷ ((g.t ∷ g.a ++ g.u ∷ []) ++ m) = cut ∙ ap (λ l. l ++ m) g.cut in
    behind_one k (word_is e is) is (record { middle = m; first = tested_front k a m x g low; second = s })

pub while_ways : (depth : ℕ) (b : List Token) → word_at b ≡ Some keyword.While → (after : List Token) → StatementFront depth b after
    → Then (One (IsKeyword keyword.While)) (Then (TestedFront (depth + 1)) (StatementFront (depth + 1))) b after
while_ways depth b e after f =
    let v : WhileHead f.closing f.front.taken f.front.tree = head_of WhileWord f (word_sorted keyword.While b e) in
    let cut : b ≡ v.a ++ (v.b ++ after) = f.front.cut ∙ simp append_assoc at (ap (λ l. l ++ after) v.cut) in
    let high = ap statement_height v.tree in
    word_tested v.t v.a (v.b ++ after) v.test e cut v.tested (omega (arith, f.front.low, high))
    (record { closing = f.closing; front = record { taken = v.b; tree = v.body; cut = refl; derives = v.derives; follows = f.front.follows; low = omega (arith, f.front.low, high) } })

-- what may stand behind the first statement of an `if`
abbrev pub IfEnd : ℕ → List Token → List Token → Type 0
IfEnd depth b after = ((b ≡ after) × (word_at b ≢ Some keyword.Else)) ⊎ Then (One (IsKeyword keyword.Else)) (StatementFront depth) b after

before_else : (depth : ℕ) (closing c : Closing) (b after : List Token) (x : Statement) → c ≡ Open → EndsStatement c after → DerivesStatement closing b x → depth + statement_height x ≤ greatest_height → Then (StatementFront depth) (IfEnd depth) (b ++ after) after
before_else depth closing c b after x is ends g low =
    let alone : word_at after ≢ Some keyword.Else = subst (λ k. EndsStatement k after) is ends in
    record {
      middle = after;
      first = record { closing = closing; front = record { taken = b; tree = x; cut = refl; derives = g; follows = ends_fitting closing after alone; low = low } };
      second = inl (refl, alone);
    }

if_parts : (depth : ℕ) (b after : List Token) → word_at b ≡ Some keyword.If → (f : StatementFront depth b after) → IfHead f.closing f.front.taken f.front.tree ⊎ IfElseHead f.closing f.front.taken f.front.tree
    → Then (One (IsKeyword keyword.If)) (Then (TestedFront (depth + 1)) (Then (StatementFront (depth + 1)) (IfEnd (depth + 1)))) b after
if_parts depth b after e f (inl v) =
    let cut : b ≡ v.a ++ (v.b ++ after) = f.front.cut ∙ simp append_assoc at (ap (λ l. l ++ after) v.cut) in
    let high = ap statement_height v.tree in
    word_tested v.t v.a (v.b ++ after) v.test e cut v.tested (omega (arith, f.front.low, high))
    (before_else (depth + 1) v.closing f.closing v.b after v.yes v.open_end f.front.follows v.derives (omega (arith, f.front.low, high)))
if_parts depth b after e f (inr v) =
    let cut : b ≡ v.a ++ (v.b ++ (v.u ∷ (v.d ++ after))) = f.front.cut ∙ simp append_assoc at (ap (λ l. l ++ after) v.cut) in
    let high = ap statement_height v.tree in
    word_tested v.t v.a (v.b ++ (v.u ∷ (v.d ++ after))) v.test e cut v.tested (omega (arith, f.front.low, high))
    (record {
      middle = v.u ∷ (v.d ++ after);
      first = record { closing = Closed; front = record { taken = v.b; tree = v.yes; cut = refl; derives = v.derives; follows = tt {0}; low = omega (arith, f.front.low, high) } };
      second = inr (behind_one v.u v.word refl (record { closing = f.closing; front = record { taken = v.d; tree = v.other; cut = refl; derives = v.otherwise; follows = f.front.follows; low = omega (arith, f.front.low, high) } }));
    })

pub if_ways : (depth : ℕ) (b : List Token) → word_at b ≡ Some keyword.If → (after : List Token) → StatementFront depth b after
    → Then (One (IsKeyword keyword.If)) (Then (TestedFront (depth + 1)) (Then (StatementFront (depth + 1)) (IfEnd (depth + 1)))) b after
if_ways depth b e after f = if_parts depth b after e f (head_of IfWord f (word_sorted keyword.If b e))

else_ways : (depth : ℕ) (b : List Token) → word_at b ≡ Some keyword.Else → (after : List Token) → IfEnd depth b after → Then (One (IsKeyword keyword.Else)) (StatementFront depth) b after
else_ways depth b e after (inl p) = absurd (p.1 e)
else_ways depth b e after (inr t) = t

-- where an `else` was taken, a statement has to stand behind it
pub else_fails : {depth : ℕ} {r : Bool} {b m : List Token} → IsTrue r ↔ (word_at b ≡ Some keyword.Else) → m ≡ (if r then behind b else b) → r ≡ true → NoFront (StatementFront depth) m → NoFront (IfEnd depth) b
else_fails {depth = depth} {b = b} d h e n = fails_as (else_ways depth b (d.0 e)) (second_fails (one_leads (gone b h e)) n)

-- ---- the other statements that hold statements

pub do_ways : (depth : ℕ) (b : List Token) → word_at b ≡ Some keyword.Do → (after : List Token) → StatementFront depth b after
    → Then (One (IsKeyword keyword.Do)) (Then (StatementFront (depth + 1)) (DoTestFront (depth + 1))) b after
do_ways depth b e after f =
    let v : DoHead f.front.taken f.front.tree = head_of DoWord f (word_sorted keyword.Do b e) in
    let cut : b ≡ v.t ∷ (v.a ++ (v.b ++ (v.v ∷ after))) = f.front.cut ∙ simp append_assoc at (ap (λ l. l ++ after) v.cut) in
    let high = ap statement_height v.tree in
    let g = v.tested in
    let tested : v.b ≡ v.u ∷ (g.t ∷ g.a ++ g.u ∷ []) = g.cut in
    behind_one v.t (word_is e cut) cut (record {
      middle = v.b ++ (v.v ∷ after);
      first = record {
        closing = v.closing;
        front = record {
          taken = v.a;
          tree = v.body;
          cut = refl;
          derives = v.derives;
          follows = ends_fitting v.closing (v.b ++ (v.v ∷ after)) (before_while v.b (g.t ∷ g.a ++ g.u ∷ []) (v.v ∷ after) v.u tested v.word);
          low = omega (arith, f.front.low, high);
        };
      };
      second = record {
        taken = v.b ++ v.v ∷ [];
        tree = v.test;
        cut = sym (append_assoc v.b (v.v ∷ []) after);
        derives = record {
          front = v.u ∷ [];
          rest = (g.t ∷ g.a ++ g.u ∷ []) ++ v.v ∷ [];
          cut = ap (λ l. l ++ v.v ∷ []) tested;
          first = record { t = v.u; alone = refl; is = v.word };
          second = record { front = g.t ∷ g.a ++ g.u ∷ []; rest = v.v ∷ []; cut = refl; first = record { t = g.t; a = g.a; u = g.u; cut = refl; opens = g.opens; test = g.test; closes = g.closes }; second = record { t = v.v; alone = refl; is = v.ends } };
        };
        follows = tt {0};
        low = omega (arith, f.front.low, high);
      };
    })

pub do_test_ways : (depth : ℕ) (b after : List Token) → DoTestFront depth b after → Then (One (IsKeyword keyword.While)) (Then (TestedFront depth) (One (IsMark mark.Semicolon))) b after
do_test_ways depth b after f =
    let g = f.derives in
    let h = g.second in
    let cut : b ≡ g.first.t ∷ (h.front ++ (h.second.t ∷ after)) = f.cut ∙ ap (λ l. l ++ after) (one_before g) ∙ ap (λ l. g.first.t ∷ l) (ap (λ l. l ++ after) (one_behind h) ∙ append_assoc h.front (h.second.t ∷ []) after) in
    behind_one g.first.t g.first.is cut (record {
      middle = h.second.t ∷ after;
      first = record { taken = h.front; tree = f.tree; cut = refl; derives = h.first; follows = tt {0}; low = f.low };
      second = record { t = h.second.t; cut = refl; is = h.second.is };
    })

pub for_ways : (depth : ℕ) (b : List Token) → word_at b ≡ Some keyword.For → (after : List Token) → StatementFront depth b after → Then (ForHeadFront (depth + 1)) (StatementFront (depth + 1)) b after
for_ways depth b e after f =
    let v : ForHead f.closing f.front.taken f.front.tree = head_of ForWord f (word_sorted keyword.For b e) in
    let high = ap statement_height v.tree in
    record {
      middle = v.b ++ after;
      first = record {
        taken = v.a;
        tree = record { first = v.start; test = v.test; third = v.step };
        cut = f.front.cut ∙ simp append_assoc at (ap (λ l. l ++ after) v.cut);
        derives = v.head;
        follows = tt {0};
        low = omega (arith, f.front.low, high);
      };
      second = record { closing = f.closing; front = record { taken = v.b; tree = v.body; cut = refl; derives = v.derives; follows = f.front.follows; low = omega (arith, f.front.low, high) } };
    }

pub for_head_ways : (depth : ℕ) (b after : List Token) → ForHeadFront depth b after
    → Then (One (IsKeyword keyword.For)) (Then (One (IsMark mark.OpenParen)) (Then (OptionalFront mark.Semicolon depth) (Then (OptionalFront mark.Semicolon depth) (OptionalFront mark.CloseParen depth)))) b after
for_head_ways depth b after f =
    let g = f.derives in
    let cut : b ≡ g.k ∷ (g.t ∷ (g.a ++ (g.u ∷ (g.b ++ (g.v ∷ (g.c ++ (g.w ∷ after))))))) = f.cut ∙ simp append_assoc at (ap (λ l. l ++ after) g.cut) in
    behind_one g.k g.for cut (behind_one g.t g.opens refl (record {
      middle = g.b ++ (g.v ∷ (g.c ++ (g.w ∷ after)));
      first = optional_front g.a (g.b ++ (g.v ∷ (g.c ++ (g.w ∷ after)))) g.u f.tree.first g.first_part g.first_ends (omega (arith, f.low));
      second = record {
        middle = g.c ++ (g.w ∷ after);
        first = optional_front g.b (g.c ++ (g.w ∷ after)) g.v f.tree.test g.test_part g.test_ends (omega (arith, f.low));
        second = optional_front g.c after g.w f.tree.third g.third_part g.closes (omega (arith, f.low));
      };
    }))

-- an expression has to stand where its mark doesn't
some_optional : (depth : ℕ) (m : Punct) (b after a : List Token) (u : Token) (x : Option Expression) → mark_at b ≢ Some m → (m ≡ mark.Semicolon) ⊎ (m ≡ mark.CloseParen) → DerivesOptional ExpressionRow a x → IsMark m u → b ≡ a ++ (u ∷ after)
    → depth + optional_height x ≤ greatest_height → Then (ExpressionFront ExpressionRow depth) (One (IsMark m)) b after
some_optional depth m b after a u None n is g h cut low = absurd (n (ap mark_at (cut ∙ ap (λ l. l ++ (u ∷ after)) g) ∙ ap kind_mark h))
some_optional depth m b after a u (Some x) n is g h cut low = record {
  middle = u ∷ after;
  first = record { taken = a; tree = x; cut = cut; derives = g; follows = ends_mark ExpressionRow u after m h (rank m is); low = low };
  second = record { t = u; cut = refl; is = h };
}
  where
    rank : (m : Punct) → (m ≡ mark.Semicolon) ⊎ (m ≡ mark.CloseParen) → next_rank (next_mark m) < row_rank ExpressionRow
    rank m (inl e) = let none = ap (λ k. next_rank (next_mark k)) e in omega (arith, none)
    rank m (inr e) = let none = ap (λ k. next_rank (next_mark k)) e in omega (arith, none)

pub optional_ways : (m : Punct) (depth : ℕ) (b : List Token) → mark_at b ≢ Some m → (m ≡ mark.Semicolon) ⊎ (m ≡ mark.CloseParen) → (after : List Token) → OptionalFront m depth b after → Then (ExpressionFront ExpressionRow depth) (One (IsMark m)) b after
optional_ways m depth b n is after f =
    let g = f.derives in
    some_optional depth m b after g.front g.second.t f.tree n is g.first g.second.is (f.cut ∙ ap (λ l. l ++ after) (one_behind g) ∙ append_assoc g.front (g.second.t ∷ []) after) f.low

-- what stands before a closing brace
pub closed_front : {X : Type 0} {Row : List Token → X → Type 0} {height : X → ℕ} {depth : ℕ} (d after : List Token) (u : Token) (x : X) → Row d x → IsMark mark.CloseBrace u → depth + height x ≤ greatest_height
    → Front (λ taken y. Both (λ a. Row a y) (IsOne (IsMark mark.CloseBrace)) taken) (λ _. Unit {0}) height depth (d ++ (u ∷ after)) after
closed_front d after u x g h low = record {
  taken = d ++ u ∷ [];
  tree = x;
  cut = sym (append_assoc d (u ∷ []) after);
  derives = record { front = d; rest = u ∷ []; cut = refl; first = g; second = record { t = u; alone = refl; is = h } };
  follows = tt {0};
  low = low;
}

pub brace_stands : {b after : List Token} {u : Token} → b ≡ u ∷ after → IsMark mark.CloseBrace u → mark_at b ≡ Some mark.CloseBrace
brace_stands cut h = ap mark_at cut ∙ ap kind_mark h

pub switch_ways : (depth : ℕ) (b : List Token) → word_at b ≡ Some keyword.Switch → (after : List Token) → StatementFront depth b after
    → Then (One (IsKeyword keyword.Switch)) (Then (TestedFront (depth + 1)) (Then (One (IsMark mark.OpenBrace)) (PartsFront (depth + 1)))) b after
switch_ways depth b e after f =
    let v : SwitchHead f.front.taken f.front.tree = head_of SwitchWord f (word_sorted keyword.Switch b e) in
    let cut : b ≡ v.a ++ (v.u ∷ (v.b ++ (v.v ∷ after))) = f.front.cut ∙ simp append_assoc at (ap (λ l. l ++ after) v.cut) in
    let high = ap statement_height v.tree in
    word_tested v.t v.a (v.u ∷ (v.b ++ (v.v ∷ after))) v.value e cut v.tested (omega (arith, f.front.low, high))
    (behind_one v.u v.opens refl (closed_front v.b after v.v v.choices v.derives v.ends (omega (arith, f.front.low, high))))

pub block_ways : (depth : ℕ) (b : List Token) → mark_at b ≡ Some mark.OpenBrace → (after : List Token) → StatementFront depth b after → Then (One (IsMark mark.OpenBrace)) (BodyFront depth) b after
block_ways depth b e after f =
    let v : BlockHead f.front.taken f.front.tree = head_of BraceOpens f (mark_sorted mark.OpenBrace b e) in
    let cut : b ≡ v.t ∷ ((v.a ++ v.b ++ v.u ∷ []) ++ after) = f.front.cut ∙ ap (λ l. l ++ after) v.cut in
    behind_one v.t (mark_is e cut) cut (record {
      taken = v.a ++ v.b ++ v.u ∷ [];
      tree = record { declarations = v.declarations; statements = v.statements };
      cut = refl;
      derives = record { front = v.a; rest = v.b ++ v.u ∷ []; cut = append_assoc v.a v.b (v.u ∷ []); first = v.declared; second = record { front = v.b; rest = v.u ∷ []; cut = refl; first = v.stated; second = record { t = v.u; alone = refl; is = v.ends } } };
      follows = tt {0};
      low = omega (arith, f.front.low, ap statement_height v.tree);
    })
