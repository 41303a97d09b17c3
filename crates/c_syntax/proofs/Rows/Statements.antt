-- Each form of a statement has one tree where its parts have one.
use Rattle.std.proofs.Common.{◌≡◌, ◌≢◌, List, [], ◌∷◌, ◌++◌, Option, refl, sym, ap, ◌∙◌, subst, inl, inr, append_assoc}
use Rattle.std.specs.Prelude.{◌⊎◌, ⊤}
use Rattle.c_syntax.specs.declared.token.Token.{Token}
use Rattle.c_syntax.specs.declared.token.Keyword.TheVariants as keyword
use Rattle.c_syntax.specs.declared.token.Punct.TheVariants as mark
use Rattle.c_syntax.specs.SyntaxTree.{Expression, DeclarationTree, Statement, Empty, Evaluate, Block, Break, Continue, Return, DoWhile, If, IfElse, While, For, Switch, Statements, Choices}
use Rattle.c_syntax.specs.Grammar.{ExpressionRow, IsMark, IsKeyword, place_of, Derives}
use Rattle.c_syntax.specs.Derives.{DerivesOptional, DerivesDeclarations, Closing, Closed, Open, IsTested, IsForHead, DerivesStatement, DerivesStatements, NoStatement, MoreStatements, DerivesChoices}
use Rattle.c_syntax.proofs.Rows.Fronts.{TypeWord, ElseWord, BreakWord, ContinueWord, ReturnWord, DoWord, IfWord, WhileWord, ForWord, SwitchWord, ParenCloses, BraceOpens, BraceCloses, SemicolonMark, kind_sort, first, Agree, agree, cut_both, same_head, same_tail}
use Rattle.c_syntax.proofs.Rows.Given.{may_begin, OneExpression, ends_at, mark_first, word_first, begins_front, expression_one, optional_one}
use Rattle.c_syntax.proofs.Rows.Declarations.{declarations_one}
use Rattle.c_syntax.proofs.Rows.Heads.{EmptyHead, EvaluateHead, BlockHead, BreakHead, ContinueHead, ReturnHead, DoHead, IfHead, IfElseHead, WhileHead, ForHead, SwitchHead, front_first, tested_first, for_first, statement_other, head_at, evaluates_at}

-- what may stand behind a statement
abbrev pub Fits : Closing → List Token → Type 0
Fits Closed r = ⊤
Fits Open r = first r ≢ ElseWord

pub fits : (c : Closing) (r : List Token) → first r ≢ ElseWord → Fits c r
fits Closed r p = tt
fits Open r p = p

-- a front has one tree, whatever the closing of another
pub record IsOne (c : Closing) (a : List Token) (x : Statement) : Type 0 where
  pub same : (d : Closing) (b r s : List Token) (y : Statement) → DerivesStatement d b y → Fits c r → Fits d s → a ++ r ≡ b ++ s → Agree a b r s x y

pub record AreOne (a : List Token) (xs : Statements) : Type 0 where
  pub same : (b r s : List Token) (ys : Statements) → DerivesStatements b ys → first r ≡ BraceCloses → first s ≡ BraceCloses → a ++ r ≡ b ++ s → Agree a b r s xs ys

pub record OneChoices (a : List Token) (xs : Choices) : Type 0 where
  pub same : (b r s : List Token) (ys : Choices) → DerivesChoices b ys → first r ≡ BraceCloses → first s ≡ BraceCloses → a ++ r ≡ b ++ s → Agree a b r s xs ys

tested_word : (k l : Token) (a b : List Token) (x y : Expression) → IsTested (k ∷ []) a x → IsTested (l ∷ []) b y → a ≡ b → k ≡ l
tested_word k l a b x y g h e = cc (g.cut, h.cut)

module _ (known : OneExpression) where
  tested_one : (k l : Token) (a b r s : List Token) (x y : Expression) → IsTested (k ∷ []) a x → IsTested (l ∷ []) b y → a ++ r ≡ b ++ s → Agree a b r s x y
  tested_one k l a b r s x y g h e =
      let is : k ∷ g.t ∷ (g.a ++ (g.u ∷ r)) ≡ l ∷ h.t ∷ (h.a ++ (h.u ∷ s)) = simp append_assoc at (cut_both a b (k ∷ g.t ∷ (g.a ++ g.u ∷ [])) (l ∷ h.t ∷ (h.a ++ h.u ∷ [])) r s g.cut h.cut e) in
      let next = same_tail k l (g.t ∷ (g.a ++ (g.u ∷ r))) (h.t ∷ (h.a ++ (h.u ∷ s))) is in
      let found = expression_one known ExpressionRow g.a h.a (g.u ∷ r) (h.u ∷ s) x y refl g.test h.test
      (ends_at ExpressionRow (g.u ∷ r) ParenCloses (mark_first mark.CloseParen g.u r g.closes) refl)
      (ends_at ExpressionRow (h.u ∷ s) ParenCloses (mark_first mark.CloseParen h.u s h.closes) refl)
      (same_tail g.t h.t (g.a ++ (g.u ∷ r)) (h.a ++ (h.u ∷ s)) next) in
      let word = same_head k l (g.t ∷ (g.a ++ (g.u ∷ r))) (h.t ∷ (h.a ++ (h.u ∷ s))) is in
      let opened = same_head g.t h.t (g.a ++ (g.u ∷ r)) (h.a ++ (h.u ∷ s)) next in
      let closed = same_head g.u h.u r s found.rest in
      agree a b r s x y (cc (g.cut, h.cut, word, opened, found.front, closed)) found.tree e

  -- the three parts of a head are its tree
  pub for_head_one : (a b r s : List Token) (x y z u v w : Option Expression) → IsForHead a x y z → IsForHead b u v w → a ++ r ≡ b ++ s → Agree {X = Option Expression × Option Expression × Option Expression} a b r s (x, y, z) (u, v, w)
  for_head_one a b r s x y z u v w g h e =
      let is : g.k ∷ g.t ∷ (g.a ++ (g.u ∷ (g.b ++ (g.v ∷ (g.c ++ (g.w ∷ r)))))) ≡ h.k ∷ h.t ∷ (h.a ++ (h.u ∷ (h.b ++ (h.v ∷ (h.c ++ (h.w ∷ s)))))) =
      simp append_assoc at (cut_both a b (g.k ∷ g.t ∷ g.a ++ g.u ∷ g.b ++ g.v ∷ g.c ++ g.w ∷ []) (h.k ∷ h.t ∷ h.a ++ h.u ∷ h.b ++ h.v ∷ h.c ++ h.w ∷ []) r s g.cut h.cut e) in
      let word = same_head g.k h.k _ _ is in
      let behind = same_tail g.k h.k _ _ is in
      let opened = same_head g.t h.t _ _ behind in
      let one = optional_one known ExpressionRow SemicolonMark g.a h.a (g.u ∷ (g.b ++ (g.v ∷ (g.c ++ (g.w ∷ r))))) (h.u ∷ (h.b ++ (h.v ∷ (h.c ++ (h.w ∷ s))))) x u refl refl refl g.first_part h.first_part
      (ap kind_sort g.first_ends) (ap kind_sort h.first_ends) (same_tail g.t h.t _ _ behind) in
      let ended = same_head g.u h.u _ _ one.rest in
      let two = optional_one known ExpressionRow SemicolonMark g.b h.b (g.v ∷ (g.c ++ (g.w ∷ r))) (h.v ∷ (h.c ++ (h.w ∷ s))) y v refl refl refl g.test_part h.test_part
      (ap kind_sort g.test_ends) (ap kind_sort h.test_ends) (same_tail g.u h.u _ _ one.rest) in
      let stopped = same_head g.v h.v _ _ two.rest in
      let three = optional_one known ExpressionRow ParenCloses g.c h.c (g.w ∷ r) (h.w ∷ s) z w refl refl refl g.third_part h.third_part
      (mark_first mark.CloseParen g.w r g.closes) (mark_first mark.CloseParen h.w s h.closes) (same_tail g.v h.v _ _ two.rest) in
      let closed = same_head g.w h.w r s three.rest in
      agree a b r s _ _ (cc (g.cut, h.cut, word, opened, one.front, ended, two.front, stopped, three.front, closed)) (λ i. (one.tree i, two.tree i, three.tree i)) e

  pub empty_one : (t : Token) → IsMark mark.Semicolon t → IsOne Closed (t ∷ []) (Empty t.at)
  empty_one t g = record {
    same = λ d b r s y h p q e.
        let v : EmptyHead b y = head_at known SemicolonMark b s d y h (ap first (sym e) ∙ mark_first mark.Semicolon t r g) in
        let same = same_head t v.t r s (cut_both (t ∷ []) b (t ∷ []) (v.t ∷ []) r s refl v.cut e) in
        agree (t ∷ []) b r s (Empty t.at) y (cc (v.cut, same)) (cc (v.tree, same)) e;
  }

  pub break_one : (t u : Token) → IsKeyword keyword.Break t → IsOne Closed (t ∷ u ∷ []) (Break t.at)
  break_one t u g = record {
    same = λ d b r s y h p q e.
        let v : BreakHead b y = head_at known BreakWord b s d y h (ap first (sym e) ∙ word_first keyword.Break t (u ∷ r) g) in
        let is : t ∷ u ∷ r ≡ v.t ∷ v.u ∷ s = cut_both (t ∷ u ∷ []) b (t ∷ u ∷ []) (v.t ∷ v.u ∷ []) r s refl v.cut e in
        let same : t ≡ v.t = cc in
        let also : u ≡ v.u = cc in
        agree (t ∷ u ∷ []) b r s (Break t.at) y (cc (v.cut, same, also)) (cc (v.tree, same)) e;
  }

  pub continue_one : (t u : Token) → IsKeyword keyword.Continue t → IsOne Closed (t ∷ u ∷ []) (Continue t.at)
  continue_one t u g = record {
    same = λ d b r s y h p q e.
        let v : ContinueHead b y = head_at known ContinueWord b s d y h (ap first (sym e) ∙ word_first keyword.Continue t (u ∷ r) g) in
        let is : t ∷ u ∷ r ≡ v.t ∷ v.u ∷ s = cut_both (t ∷ u ∷ []) b (t ∷ u ∷ []) (v.t ∷ v.u ∷ []) r s refl v.cut e in
        let same : t ≡ v.t = cc in
        let also : u ≡ v.u = cc in
        agree (t ∷ u ∷ []) b r s (Continue t.at) y (cc (v.cut, same, also)) (cc (v.tree, same)) e;
  }

  pub evaluate_one : (tokens a : List Token) (t : Token) (x : Expression) → tokens ≡ a ++ t ∷ [] → Derives ExpressionRow a x → IsMark mark.Semicolon t → IsOne Closed tokens (Evaluate x (place_of tokens))
  evaluate_one tokens a t x cut g ends = record {
    same = λ d b r s y h p q e.
        let text : tokens ++ r ≡ a ++ (t ∷ r) = simp append_assoc at (ap (λ l. l ++ r) cut) in
        let v : EvaluateHead b y = evaluates_at known b s d y h (ap (λ l. may_begin (first l)) (sym e ∙ text) ∙ begins_front a (t ∷ r) (known.begins ExpressionRow a x g)) in
        let is : a ++ (t ∷ r) ≡ v.a ++ (v.t ∷ s) = simp append_assoc at (cut_both tokens b (a ++ t ∷ []) (v.a ++ v.t ∷ []) r s cut v.cut e) in
        let found = expression_one known ExpressionRow a v.a (t ∷ r) (v.t ∷ s) x v.value refl g v.derives
        (ends_at ExpressionRow (t ∷ r) SemicolonMark (mark_first mark.Semicolon t r ends) refl)
        (ends_at ExpressionRow (v.t ∷ s) SemicolonMark (mark_first mark.Semicolon v.t s v.ends) refl) is in
        let ended = same_head t v.t r s found.rest in
        let front : tokens ≡ b = cc (cut, v.cut, found.front, ended) in
        agree tokens b r s _ y front (cc (v.tree, found.tree, front)) e;
  }

  pub return_one : (tokens a : List Token) (t u : Token) (x : Option Expression) → tokens ≡ t ∷ a ++ u ∷ [] → IsKeyword keyword.Return t → DerivesOptional ExpressionRow a x → IsMark mark.Semicolon u
      → IsOne Closed tokens (Return x t.at)
  return_one tokens a t u x cut word g ends = record {
    same = λ d b r s y h p q e.
        let v : ReturnHead b y = head_at known ReturnWord b s d y h (ap first (sym e) ∙ ap (λ l. first (l ++ r)) cut ∙ ap kind_sort word) in
        let is : t ∷ (a ++ (u ∷ r)) ≡ v.t ∷ (v.a ++ (v.u ∷ s)) = simp append_assoc at (cut_both tokens b (t ∷ a ++ u ∷ []) (v.t ∷ v.a ++ v.u ∷ []) r s cut v.cut e) in
        let same = same_head t v.t (a ++ (u ∷ r)) (v.a ++ (v.u ∷ s)) is in
        let found = optional_one known ExpressionRow SemicolonMark a v.a (u ∷ r) (v.u ∷ s) x v.value refl refl refl g v.derives
        (mark_first mark.Semicolon u r ends) (mark_first mark.Semicolon v.u s v.ends) (same_tail t v.t (a ++ (u ∷ r)) (v.a ++ (v.u ∷ s)) is) in
        let ended = same_head u v.u r s found.rest in
        agree tokens b r s _ y (cc (cut, v.cut, same, found.front, ended)) (cc (v.tree, same, found.tree)) e;
  }

  pub do_one : (closing : Closing) (tokens a b : List Token) (t u w : Token) (x : Statement) (test : Expression) → tokens ≡ t ∷ a ++ b ++ w ∷ [] → IsKeyword keyword.Do t → IsOne closing a x
      → IsKeyword keyword.While u → IsTested (u ∷ []) b test → IsOne Closed tokens (DoWhile x test t.at)
  do_one closing tokens a b t u w x test cut word one while g = record {
    same = λ d c r s y h p q e. go c r s y e (head_at known DoWord c s d y h (ap first (sym e) ∙ ap (λ l. first (l ++ r)) cut ∙ ap kind_sort word));
  }
    where
      no_else : (k : Token) (f r : List Token) (z : Expression) → IsKeyword keyword.While k → IsTested (k ∷ []) f z → first (f ++ r) ≢ ElseWord
      no_else k f r z i j l = let both : WhileWord ≡ ElseWord = sym (tested_first keyword.While k f r z i j) ∙ l in cc

      go : (c r s : List Token) (y : Statement) → tokens ++ r ≡ c ++ s → DoHead c y → Agree tokens c r s (DoWhile x test t.at) y
      go c r s y e v =
          let is : t ∷ (a ++ (b ++ (w ∷ r))) ≡ v.t ∷ (v.a ++ (v.b ++ (v.v ∷ s))) = simp append_assoc at (cut_both tokens c (t ∷ a ++ b ++ w ∷ []) (v.t ∷ v.a ++ v.b ++ v.v ∷ []) r s cut v.cut e) in
          let same = same_head t v.t (a ++ (b ++ (w ∷ r))) (v.a ++ (v.b ++ (v.v ∷ s))) is in
          let body = one.same v.closing v.a (b ++ (w ∷ r)) (v.b ++ (v.v ∷ s)) v.body v.derives
          (fits closing (b ++ (w ∷ r)) (no_else u b (w ∷ r) test while g))
          (fits v.closing (v.b ++ (v.v ∷ s)) (no_else v.u v.b (v.v ∷ s) v.test v.word v.tested))
          (same_tail t v.t (a ++ (b ++ (w ∷ r))) (v.a ++ (v.b ++ (v.v ∷ s))) is) in
          let tests = tested_one u v.u b v.b (w ∷ r) (v.v ∷ s) test v.test g v.tested body.rest in
          let ended = same_head w v.v r s tests.rest in
          agree tokens c r s _ y (cc (cut, v.cut, same, body.front, tests.front, ended)) (cc (v.tree, same, body.tree, tests.tree)) e

  pub while_one : (c : Closing) (tokens a b : List Token) (t : Token) (test : Expression) (x : Statement) → tokens ≡ a ++ b → IsKeyword keyword.While t → IsTested (t ∷ []) a test → IsOne c b x → IsOne c tokens (While test x t.at)
  while_one c tokens a b t test x cut word g one = record {
    same = λ d f r s y h p q e. go d f r s y p q e (head_at known WhileWord f s d y h (ap first (sym e) ∙ front_first tokens a b r cut ∙ tested_first keyword.While t a (b ++ r) test word g));
  }
    where
      go : (d : Closing) (f r s : List Token) (y : Statement) → Fits c r → Fits d s → tokens ++ r ≡ f ++ s → WhileHead d f y → Agree tokens f r s (While test x t.at) y
      go d f r s y p q e v =
          let is : a ++ (b ++ r) ≡ v.a ++ (v.b ++ s) = simp append_assoc at (cut_both tokens f (a ++ b) (v.a ++ v.b) r s cut v.cut e) in
          let tests = tested_one t v.t a v.a (b ++ r) (v.b ++ s) test v.test g v.tested is in
          let body = one.same d v.b r s v.body v.derives p q tests.rest in
          let same = tested_word t v.t a v.a test v.test g v.tested tests.front in
          agree tokens f r s _ y (cc (cut, v.cut, body.front, tests.front)) (cc (v.tree, same, body.tree, tests.tree)) e

  pub for_one : (c : Closing) (tokens a b : List Token) (start test step : Option Expression) (x : Statement) → tokens ≡ a ++ b → IsForHead a start test step → IsOne c b x → IsOne c tokens (For start test step x (place_of tokens))
  for_one c tokens a b start test step x cut g one = record {
    same = λ d f r s y h p q e. go d f r s y p q e (head_at known ForWord f s d y h (ap first (sym e) ∙ front_first tokens a b r cut ∙ for_first a (b ++ r) start test step g));
  }
    where
      go : (d : Closing) (f r s : List Token) (y : Statement) → Fits c r → Fits d s → tokens ++ r ≡ f ++ s → ForHead d f y → Agree tokens f r s (For start test step x (place_of tokens)) y
      go d f r s y p q e v =
          let is : a ++ (b ++ r) ≡ v.a ++ (v.b ++ s) = simp append_assoc at (cut_both tokens f (a ++ b) (v.a ++ v.b) r s cut v.cut e) in
          let heads = for_head_one a v.a (b ++ r) (v.b ++ s) start test step v.start v.test v.step g v.head is in
          let body = one.same d v.b r s v.body v.derives p q heads.rest in
          let front : tokens ≡ f = cc (cut, v.cut, body.front, heads.front) in
          let tree : For start test step x (place_of tokens) ≡ For v.start v.test v.step v.body (place_of f) = λ i. For (heads.tree i).0 (heads.tree i).1 (heads.tree i).2 (body.tree i) (place_of (front i)) in
          agree tokens f r s _ y front (tree ∙ sym v.tree) e

  pub if_one : (c : Closing) (tokens a b : List Token) (t : Token) (test : Expression) (x : Statement) → tokens ≡ a ++ b → IsKeyword keyword.If t → IsTested (t ∷ []) a test → IsOne c b x → IsOne Open tokens (If test x t.at)
  if_one c tokens a b t test x cut word g one = record {
    same = λ d f r s y h p q e.
        go d f r s y p q e (head_at known IfWord f s d y h (ap first (sym e) ∙ front_first tokens a b r cut ∙ tested_first keyword.If t a (b ++ r) test word g));
  }
    where
      go : (d : Closing) (f r s : List Token) (y : Statement) → Fits Open r → Fits d s → tokens ++ r ≡ f ++ s → IfHead d f y ⊎ IfElseHead d f y → Agree tokens f r s (If test x t.at) y
      go d f r s y p q e (inl v) =
          let is : a ++ (b ++ r) ≡ v.a ++ (v.b ++ s) = simp append_assoc at (cut_both tokens f (a ++ b) (v.a ++ v.b) r s cut v.cut e) in
          let tests = tested_one t v.t a v.a (b ++ r) (v.b ++ s) test v.test g v.tested is in
          let body = one.same v.closing v.b r s v.yes v.derives (fits c r p) (fits v.closing s (subst (λ k. Fits k s) v.open_end q)) tests.rest in
          let same = tested_word t v.t a v.a test v.test g v.tested tests.front in
          agree tokens f r s _ y (cc (cut, v.cut, body.front, tests.front)) (cc (v.tree, same, body.tree, tests.tree)) e
      go d f r s y p q e (inr v) =
          let is : a ++ (b ++ r) ≡ v.a ++ (v.b ++ (v.u ∷ (v.d ++ s))) = simp append_assoc at (cut_both tokens f (a ++ b) (v.a ++ v.b ++ v.u ∷ v.d) r s cut v.cut e) in
          let tests = tested_one t v.t a v.a (b ++ r) (v.b ++ (v.u ∷ (v.d ++ s))) test v.test g v.tested is in
          let body = one.same Closed v.b r (v.u ∷ (v.d ++ s)) v.yes v.derives (fits c r p) tt tests.rest in
          absurd (p (ap first body.rest ∙ word_first keyword.Else v.u (v.d ++ s) v.word))

  pub if_else_one : (c : Closing) (tokens a b f : List Token) (t u : Token) (test : Expression) (x z : Statement) → tokens ≡ a ++ b ++ u ∷ f → IsKeyword keyword.If t → IsTested (t ∷ []) a test → IsOne Closed b x → IsKeyword keyword.Else u → IsOne c f z
      → IsOne c tokens (IfElse test x z t.at)
  if_else_one c tokens a b f t u test x z cut word g one else other = record {
    same = λ d m r s y h p q e.
        go d m r s y p q e (head_at known IfWord m s d y h (ap first (sym e ∙ text r) ∙ tested_first keyword.If t a (b ++ (u ∷ (f ++ r))) test word g));
  }
    where
      text : (r : List Token) → tokens ++ r ≡ a ++ (b ++ (u ∷ (f ++ r)))
      text r = simp append_assoc at (ap (λ l. l ++ r) cut)

      go : (d : Closing) (m r s : List Token) (y : Statement) → Fits c r → Fits d s → tokens ++ r ≡ m ++ s → IfHead d m y ⊎ IfElseHead d m y → Agree tokens m r s (IfElse test x z t.at) y
      go d m r s y p q e (inl v) =
          let is : a ++ (b ++ (u ∷ (f ++ r))) ≡ v.a ++ (v.b ++ s) = simp append_assoc at (cut_both tokens m (a ++ b ++ u ∷ f) (v.a ++ v.b) r s cut v.cut e) in
          let open_rest : first s ≢ ElseWord = subst (λ k. Fits k s) v.open_end q in
          let tests = tested_one t v.t a v.a (b ++ (u ∷ (f ++ r))) (v.b ++ s) test v.test g v.tested is in
          let body = one.same v.closing v.b (u ∷ (f ++ r)) s v.yes v.derives tt (fits v.closing s open_rest) tests.rest in
          absurd (open_rest (sym (ap first body.rest) ∙ word_first keyword.Else u (f ++ r) else))
      go d m r s y p q e (inr v) =
          let is : a ++ (b ++ (u ∷ (f ++ r))) ≡ v.a ++ (v.b ++ (v.u ∷ (v.d ++ s))) = simp append_assoc at (cut_both tokens m (a ++ b ++ u ∷ f) (v.a ++ v.b ++ v.u ∷ v.d) r s cut v.cut e) in
          let tests = tested_one t v.t a v.a (b ++ (u ∷ (f ++ r))) (v.b ++ (v.u ∷ (v.d ++ s))) test v.test g v.tested is in
          let body = one.same Closed v.b (u ∷ (f ++ r)) (v.u ∷ (v.d ++ s)) v.yes v.derives tt tt tests.rest in
          let others = other.same d v.d r s v.other v.otherwise p q (same_tail u v.u (f ++ r) (v.d ++ s) body.rest) in
          let words = same_head u v.u (f ++ r) (v.d ++ s) body.rest in
          let same = tested_word t v.t a v.a test v.test g v.tested tests.front in
          agree tokens m r s _ y (cc (cut, v.cut, tests.front, body.front, words, others.front)) (cc (v.tree, same, tests.tree, body.tree, others.tree)) e

  pub switch_one : (tokens a b : List Token) (t u w : Token) (value : Expression) (xs : Choices) → tokens ≡ a ++ u ∷ b ++ w ∷ [] → IsKeyword keyword.Switch t → IsTested (t ∷ []) a value → IsMark mark.CloseBrace w → OneChoices b xs
      → IsOne Closed tokens (Switch value xs u.at t.at)
  switch_one tokens a b t u w value xs cut word g ends one = record {
    same = λ d c r s y h p q e. go c r s y e (head_at known SwitchWord c s d y h (ap first (sym e ∙ text r) ∙ tested_first keyword.Switch t a (u ∷ (b ++ (w ∷ r))) value word g));
  }
    where
      text : (r : List Token) → tokens ++ r ≡ a ++ (u ∷ (b ++ (w ∷ r)))
      text r = simp append_assoc at (ap (λ l. l ++ r) cut)

      go : (c r s : List Token) (y : Statement) → tokens ++ r ≡ c ++ s → SwitchHead c y → Agree tokens c r s (Switch value xs u.at t.at) y
      go c r s y e v =
          let is : a ++ (u ∷ (b ++ (w ∷ r))) ≡ v.a ++ (v.u ∷ (v.b ++ (v.v ∷ s))) = simp append_assoc at (cut_both tokens c (a ++ u ∷ b ++ w ∷ []) (v.a ++ v.u ∷ v.b ++ v.v ∷ []) r s cut v.cut e) in
          let tests = tested_one t v.t a v.a (u ∷ (b ++ (w ∷ r))) (v.u ∷ (v.b ++ (v.v ∷ s))) value v.value g v.tested is in
          let opened = same_head u v.u (b ++ (w ∷ r)) (v.b ++ (v.v ∷ s)) tests.rest in
          let found = one.same v.b (w ∷ r) (v.v ∷ s) v.choices v.derives (mark_first mark.CloseBrace w r ends) (mark_first mark.CloseBrace v.v s v.ends) (same_tail u v.u (b ++ (w ∷ r)) (v.b ++ (v.v ∷ s)) tests.rest) in
          let closed = same_head w v.v r s found.rest in
          let same = tested_word t v.t a v.a value v.value g v.tested tests.front in
          agree tokens c r s _ y (cc (cut, v.cut, tests.front, opened, found.front, closed)) (cc (v.tree, same, opened, tests.tree, found.tree)) e

  -- statements before a closing brace begin with no word of a type
  pub statements_other : (a r : List Token) (xs : Statements) → DerivesStatements a xs → first r ≡ BraceCloses → first (a ++ r) ≢ TypeWord
  statements_other _ r _ NoStatement p = λ e. let both : BraceCloses ≡ TypeWord = sym p ∙ e in cc
  statements_other _ r _ (MoreStatements {tokens = tokens} c a b {tree = x} cut g more) p =
      λ e. statement_other known a (b ++ r) c x TypeWord g (λ k. k) (sym (ap first (ap (λ l. l ++ r) cut ∙ append_assoc a b r)) ∙ e)

  pub block_one : (tokens a b : List Token) (t u : Token) (xs : List DeclarationTree) (ys : Statements) → tokens ≡ t ∷ a ++ b ++ u ∷ [] → IsMark mark.OpenBrace t → DerivesDeclarations a xs → DerivesStatements b ys → AreOne b ys
      → IsMark mark.CloseBrace u → IsOne Closed tokens (Block xs ys t.at)
  block_one tokens a b t u xs ys cut opens g also one ends = record {
    same = λ d c r s y h p q e. go c r s y e (head_at known BraceOpens c s d y h (ap first (sym e) ∙ ap (λ l. first (l ++ r)) cut ∙ ap kind_sort opens));
  }
    where
      go : (c r s : List Token) (y : Statement) → tokens ++ r ≡ c ++ s → BlockHead c y → Agree tokens c r s (Block xs ys t.at) y
      go c r s y e v =
          let is : t ∷ (a ++ (b ++ (u ∷ r))) ≡ v.t ∷ (v.a ++ (v.b ++ (v.u ∷ s))) = simp append_assoc at (cut_both tokens c (t ∷ a ++ b ++ u ∷ []) (v.t ∷ v.a ++ v.b ++ v.u ∷ []) r s cut v.cut e) in
          let same = same_head t v.t (a ++ (b ++ (u ∷ r))) (v.a ++ (v.b ++ (v.u ∷ s))) is in
          let found = declarations_one known a v.a (b ++ (u ∷ r)) (v.b ++ (v.u ∷ s)) xs v.declarations g v.declared
          (statements_other b (u ∷ r) ys also (mark_first mark.CloseBrace u r ends))
          (statements_other v.b (v.u ∷ s) v.statements v.stated (mark_first mark.CloseBrace v.u s v.ends))
          (same_tail t v.t (a ++ (b ++ (u ∷ r))) (v.a ++ (v.b ++ (v.u ∷ s))) is) in
          let others = one.same v.b (u ∷ r) (v.u ∷ s) v.statements v.stated (mark_first mark.CloseBrace u r ends) (mark_first mark.CloseBrace v.u s v.ends) found.rest in
          let closed = same_head u v.u r s others.rest in
          agree tokens c r s _ y (cc (cut, v.cut, same, found.front, others.front, closed)) (cc (v.tree, same, found.tree, others.tree)) e
