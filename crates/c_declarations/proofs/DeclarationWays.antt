-- What the rows of declarations lead to, part by part.
use Rattle.std.proofs.Common.{◌≡◌, ◌≢◌, ◌≤◌, ◌+◌, ◌++◌, ◌∷◌, [], ℕ, List, Option, Some, None, map, inl, inr, refl, sym, ap, ◌∙◌, arith, append_assoc}
use Rattle.c_syntax.specs.declared.token.Token.{Token}
use Rattle.c_syntax.specs.declared.token.Punct.{Punct}
use Rattle.c_syntax.specs.declared.token.Punct.TheVariants as mark
use Rattle.c_syntax.specs.Grammar.{AssignmentRow, ConditionalRow, IsMark}
use Rattle.c_syntax.specs.Derives.{DerivesOptional, DerivesInitial, OneRule, BracedRule, DerivesArray, ArrayRule, DerivesForm, PlainRule, FunctionRule, ArrayFormRule, DerivesInitialiser, DerivesItems, LastItem}
use Rattle.c_syntax.specs.Derives as rows
use Rattle.c_syntax.specs.Lookahead.{Ends}
use Rattle.c_syntax.specs.SyntaxTree.{Expression, ItemTree, ItemForm, InitialTree}
use Rattle.c_syntax.specs.Measures.{greatest, optional_height, item_form_height, initial_height, item_height, greatest_height}
use Rattle.c_syntax.proofs.Rows.Fronts.{TypeWord, AnyName, ParenOpens, BracketOpens, BracketCloses, BraceOpens, CommaMark, SemicolonMark, mark_sort, first}
use Rattle.c_syntax.proofs.Rows.Given.{expression_first}
use Rattle.c_syntax.proofs.Rows.Initialisers.{array_first}
use Rattle.c_syntax.proofs.Rows.Parameters.{name_first}
use Rattle.c_syntax.proofs.Rows.Declarations.{initialiser_other, items_other}
use Rattle.c_syntax.proofs.Rows.UnitOne.{known}
use Rattle.c_cursor.specs.Front.{mark_at}
use Rattle.c_expressions.specs.Fronts.{OnlyTo, Then, One, ExpressionFront, SpecsFront, StarsFront}
use Rattle.c_declarations.specs.DeclarationFronts.{DeclarationFront, EndsItem, ItemFront, ItemsFront, EndsForm, FormFront, ArrayFront, LengthFront, InitialiserFront, InitialFront, BracedFront, ParametersFront, IsAnyName, Ended, GoesOn, MoreItems}
use Rattle.c_declarations.proofs.FrontLemmas.{behind_one}
use Rattle.c_declarations.proofs.FrontTokens.{mark_sorted, no_spec}
use Rattle.c_declarations.proofs.FrontMarks.{first_low, others_low, mark_here, not_mark, other_mark, ends_at_mark}

ends_item_row : (r : List Token) → EndsItem r → Ends AssignmentRow r
ends_item_row r (inl e) = ends_at_mark AssignmentRow mark.Comma r e (omega arith)
ends_item_row r (inr e) = ends_at_mark AssignmentRow mark.Semicolon r e (omega arith)

-- behind an item stands no other mark
item_ends_not : (r : List Token) (m : Punct) → CommaMark ≢ mark_sort m → SemicolonMark ≢ mark_sort m → EndsItem r → mark_at r ≢ Some m
item_ends_not r m p q (inl e) = other_mark r mark.Comma m p e
item_ends_not r m p q (inr e) = other_mark r mark.Semicolon m q e

item_first_not : (r : List Token) (m : Punct) → CommaMark ≢ mark_sort m → SemicolonMark ≢ mark_sort m → EndsItem r → first r ≢ mark_sort m
item_first_not r m p q (inl e) h = p (sym (mark_sorted mark.Comma r e) ∙ h)
item_first_not r m p q (inr e) h = q (sym (mark_sorted mark.Semicolon r e) ∙ h)

-- ---- declarations and items

pub declaration_ways : (depth : ℕ) (b after : List Token) → DeclarationFront depth b after → Then SpecsFront (Then (ItemsFront (depth + 1)) (One (IsMark mark.Semicolon))) b after
declaration_ways depth b after f =
    let d = f.derives in
    record {
      middle = d.b ++ (d.t ∷ after);
      first = record {
        taken = d.a;
        tree = f.tree.specs;
        cut = f.cut ∙ simp append_assoc at (ap (λ l. l ++ after) d.cut);
        derives = d.specs;
        follows = no_spec (d.b ++ (d.t ∷ after)) (items_other d.b (d.t ∷ after) f.tree.items TypeWord d.items (λ e. cc) (λ e. cc));
        low = omega arith;
      };
      second = record {
        middle = d.t ∷ after;
        first = record { taken = d.b; tree = f.tree.items; cut = refl; derives = d.items; follows = mark_here d.t after d.ends; low = omega (arith, f.low) };
        second = record { t = d.t; cut = refl; is = d.ends };
      };
    }

items_cut : (depth : ℕ) (b taken after : List Token) (xs : List ItemTree) → DerivesItems taken xs → b ≡ taken ++ after → mark_at after ≡ Some mark.Semicolon → depth + greatest (map item_height xs) ≤ greatest_height → Then (ItemFront depth) (MoreItems depth) b after
items_cut depth b taken after _ (LastItem {tree = x} d) cut ends low = record {
  middle = after;
  first = record { taken = taken; tree = x; cut = cut; derives = d; follows = inr ends; low = first_low item_height x [] depth greatest_height low };
  second = Ended (refl, ends);
}
items_cut depth b taken after _ (rows.MoreItems a c t {tree = x} {trees = xs} cut d comma more) is ends low = record {
  middle = t ∷ (c ++ after);
  first = record { taken = a; tree = x; cut = is ∙ simp append_assoc at (ap (λ l. l ++ after) cut); derives = d; follows = inl (mark_here t (c ++ after) comma); low = first_low item_height x xs depth greatest_height low };
  second = GoesOn (record {
    middle = c ++ after;
    first = record { t = t; cut = refl; is = comma };
    second = record { taken = c; tree = xs; cut = refl; derives = more; follows = ends; low = others_low item_height x xs depth greatest_height low };
  });
}

pub items_ways : (depth : ℕ) (b after : List Token) → ItemsFront depth b after → Then (ItemFront depth) (MoreItems depth) b after
items_ways depth b after f = items_cut depth b f.taken after f.tree f.derives f.cut f.follows f.low

pub item_ways : (depth : ℕ) (b after : List Token) → ItemFront depth b after → Then StarsFront (Then (One IsAnyName) (Then (FormFront (depth + 1)) (InitialiserFront (depth + 1)))) b after
item_ways depth b after f =
    let d = f.derives in
    record {
      middle = d.t ∷ (d.b ++ (d.c ++ after));
      first = record {
        taken = d.a;
        tree = f.tree.stars;
        cut = f.cut ∙ simp append_assoc at (ap (λ l. l ++ after) d.cut);
        derives = d.stars;
        follows = not_mark (d.t ∷ (d.b ++ (d.c ++ after))) AnyName mark.Star (name_first d.t (d.b ++ (d.c ++ after)) f.tree.name d.name) (λ e. cc);
        low = omega arith;
      };
      second = record {
        middle = d.b ++ (d.c ++ after);
        first = record { t = d.t; cut = refl; is = (f.tree.name, d.name) };
        second = record {
          middle = d.c ++ after;
          first = record {
            taken = d.b;
            tree = f.tree.form;
            cut = refl;
            derives = d.form;
            follows = record {
              no_paren = λ e. initialiser_other d.c after f.tree.initial ParenOpens d.initial (λ k. cc) (item_first_not after mark.OpenParen (λ k. cc) (λ k. cc) f.follows) (mark_sorted mark.OpenParen (d.c ++ after) e);
              no_bracket = λ e. initialiser_other d.c after f.tree.initial BracketOpens d.initial (λ k. cc) (item_first_not after mark.OpenBracket (λ k. cc) (λ k. cc) f.follows) (mark_sorted mark.OpenBracket (d.c ++ after) e);
            };
            low = omega (arith, f.low);
          };
          second = record { taken = d.c; tree = f.tree.initial; cut = refl; derives = d.initial; follows = f.follows; low = omega (arith, f.low) };
        };
      };
    }

-- ---- what stands behind a name

form_paren : (depth : ℕ) (b taken after : List Token) (x : ItemForm) → DerivesForm taken x → b ≡ taken ++ after → mark_at b ≡ Some mark.OpenParen → EndsForm after → depth + item_form_height x ≤ greatest_height
    → Then (One (IsMark mark.OpenParen)) (Then (ParametersFront depth) (One (IsMark mark.CloseParen))) b after
form_paren depth b taken after _ PlainRule cut e ends low = absurd (ends.no_paren (sym (ap mark_at cut) ∙ e))
form_paren depth b taken after _ (FunctionRule a t u {tree = x} cut m d n) is e ends low = record {
  middle = a ++ (u ∷ after);
  first = record { t = t; cut = is ∙ simp append_assoc at (ap (λ l. l ++ after) cut); is = m };
  second = record {
    middle = u ∷ after;
    first = record { taken = a; tree = x; cut = refl; derives = d; follows = mark_here u after n; low = low };
    second = record { t = u; cut = refl; is = n };
  };
}
form_paren depth b taken after _ (ArrayFormRule {length = x} d) cut e ends low =
    let both : ParenOpens ≡ BracketOpens = sym (mark_sorted mark.OpenParen b e) ∙ ap first cut ∙ array_first taken after x d in
    absurd cc

pub paren_ways : (depth : ℕ) (b : List Token) → mark_at b ≡ Some mark.OpenParen → (after : List Token) → FormFront depth b after → Then (One (IsMark mark.OpenParen)) (Then (ParametersFront depth) (One (IsMark mark.CloseParen))) b after
paren_ways depth b e after f = form_paren depth b f.taken after f.tree f.derives f.cut e f.follows f.low

form_bracket : (depth : ℕ) (b taken after : List Token) (x : ItemForm) → DerivesForm taken x → b ≡ taken ++ after → mark_at b ≡ Some mark.OpenBracket → EndsForm after → depth + item_form_height x ≤ greatest_height → ArrayFront depth b after
form_bracket depth b taken after _ PlainRule cut e ends low = absurd (ends.no_bracket (sym (ap mark_at cut) ∙ e))
form_bracket depth b taken after _ (FunctionRule a t u {tree = x} cut m d n) is e ends low =
    absurd (other_mark b mark.OpenBracket mark.OpenParen (λ k. cc) e (ap mark_at (is ∙ ap (λ l. l ++ after) cut) ∙ mark_here t ((a ++ u ∷ []) ++ after) m))
form_bracket depth b taken after _ (ArrayFormRule {length = x} d) cut e ends low = record { taken = taken; tree = x; cut = cut; derives = d; follows = tt {0}; low = low }

pub bracket_ways : (depth : ℕ) (b : List Token) → mark_at b ≡ Some mark.OpenBracket → (after : List Token) → FormFront depth b after → ArrayFront depth b after
bracket_ways depth b e after f = form_bracket depth b f.taken after f.tree f.derives f.cut e f.follows f.low

form_plain : (b taken after : List Token) (x : ItemForm) → DerivesForm taken x → b ≡ taken ++ after → mark_at b ≢ Some mark.OpenParen → mark_at b ≢ Some mark.OpenBracket → after ≡ b
form_plain b taken after _ PlainRule cut p q = sym cut
form_plain b taken after _ (FunctionRule a t u cut m d n) is p q = absurd (p (ap mark_at (is ∙ simp append_assoc at (ap (λ l. l ++ after) cut)) ∙ mark_here t (a ++ (u ∷ after)) m))
form_plain b taken after _ (ArrayFormRule (ArrayRule a t u cut m d n)) is p q = absurd (q (ap mark_at (is ∙ simp append_assoc at (ap (λ l. l ++ after) cut)) ∙ mark_here t (a ++ (u ∷ after)) m))

pub plain_leads : {depth : ℕ} {b : List Token} → mark_at b ≢ Some mark.OpenParen → mark_at b ≢ Some mark.OpenBracket → OnlyTo (FormFront depth) b b
plain_leads {b = b} p q = record { same = λ after f. form_plain b f.taken after f.tree f.derives f.cut p q }

array_cut : (depth : ℕ) (b taken after : List Token) (x : Option Expression) → DerivesArray taken x → b ≡ taken ++ after → depth + optional_height x ≤ greatest_height → Then (One (IsMark mark.OpenBracket)) (Then (LengthFront depth) (One (IsMark mark.CloseBracket))) b after
array_cut depth b taken after x (ArrayRule a t u cut m d n) is low = record {
  middle = a ++ (u ∷ after);
  first = record { t = t; cut = is ∙ simp append_assoc at (ap (λ l. l ++ after) cut); is = m };
  second = record {
    middle = u ∷ after;
    first = record { taken = a; tree = x; cut = refl; derives = d; follows = mark_here u after n; low = low };
    second = record { t = u; cut = refl; is = n };
  };
}

pub array_ways : (depth : ℕ) (b after : List Token) → ArrayFront depth b after → Then (One (IsMark mark.OpenBracket)) (Then (LengthFront depth) (One (IsMark mark.CloseBracket))) b after
array_ways depth b after f = array_cut depth b f.taken after f.tree f.derives f.cut f.low

no_length : (b taken after : List Token) (x : Option Expression) → DerivesOptional ConditionalRow taken x → b ≡ taken ++ after → mark_at b ≡ Some mark.CloseBracket → after ≡ b
no_length b taken after None d cut e = sym (cut ∙ ap (λ l. l ++ after) d)
no_length b taken after (Some x) d cut e = absurd (expression_first known ConditionalRow taken after x BracketCloses d refl (sym (ap first cut) ∙ mark_sorted mark.CloseBracket b e))

pub no_length_leads : {depth : ℕ} {b : List Token} → mark_at b ≡ Some mark.CloseBracket → OnlyTo (LengthFront depth) b b
no_length_leads {b = b} e = record { same = λ after f. no_length b f.taken after f.tree f.derives f.cut e }

length_cut : (depth : ℕ) (b taken after : List Token) (x : Option Expression) → DerivesOptional ConditionalRow taken x → b ≡ taken ++ after → mark_at after ≡ Some mark.CloseBracket → depth + optional_height x ≤ greatest_height → mark_at b ≢ Some mark.CloseBracket
    → ExpressionFront ConditionalRow depth b after
length_cut depth b taken after None d cut ends low n = absurd (n (ap mark_at (cut ∙ ap (λ l. l ++ after) d) ∙ ends))
length_cut depth b taken after (Some x) d cut ends low n = record { taken = taken; tree = x; cut = cut; derives = d; follows = ends_at_mark ConditionalRow mark.CloseBracket after ends (omega arith); low = low }

pub length_ways : (depth : ℕ) (b : List Token) → mark_at b ≢ Some mark.CloseBracket → (after : List Token) → LengthFront depth b after → ExpressionFront ConditionalRow depth b after
length_ways depth b n after f = length_cut depth b f.taken after f.tree f.derives f.cut f.follows f.low n

-- ---- initialisers

initialiser_cut : (depth : ℕ) (b taken after : List Token) (x : Option InitialTree) → DerivesInitialiser taken x → b ≡ taken ++ after → EndsItem after → depth + initial_height x ≤ greatest_height → mark_at b ≡ Some mark.Assign → Then (One (IsMark mark.Assign)) (InitialFront depth) b after
initialiser_cut depth b taken after None d cut ends low e = absurd (item_ends_not after mark.Assign (λ k. cc) (λ k. cc) ends (sym (ap mark_at (cut ∙ ap (λ l. l ++ after) d)) ∙ e))
initialiser_cut depth b taken after (Some x) (t, a, cut, m, d) is ends low e =
    behind_one t m (is ∙ ap (λ l. l ++ after) cut) (record { taken = a; tree = x; cut = refl; derives = d; follows = ends; low = low })

pub initialiser_ways : (depth : ℕ) (b : List Token) → mark_at b ≡ Some mark.Assign → (after : List Token) → InitialiserFront depth b after → Then (One (IsMark mark.Assign)) (InitialFront depth) b after
initialiser_ways depth b e after f = initialiser_cut depth b f.taken after f.tree f.derives f.cut f.follows f.low e

no_initial : (b taken after : List Token) (x : Option InitialTree) → DerivesInitialiser taken x → b ≡ taken ++ after → mark_at b ≢ Some mark.Assign → after ≡ b
no_initial b taken after None d cut n = sym (cut ∙ ap (λ l. l ++ after) d)
no_initial b taken after (Some x) (t, a, cut, m, d) is n = absurd (n (ap mark_at (is ∙ ap (λ l. l ++ after) cut) ∙ mark_here t (a ++ after) m))

pub no_initial_leads : {depth : ℕ} {b : List Token} → mark_at b ≢ Some mark.Assign → OnlyTo (InitialiserFront depth) b b
no_initial_leads {b = b} n = record { same = λ after f. no_initial b f.taken after f.tree f.derives f.cut n }

braced_cut : (depth : ℕ) (b taken after : List Token) (x : InitialTree) → DerivesInitial taken x → b ≡ taken ++ after → depth + initial_height (Some x) ≤ greatest_height → mark_at b ≡ Some mark.OpenBrace → BracedFront depth b after
braced_cut depth b taken after _ (OneRule {tree = x} d) cut low e = absurd (expression_first known AssignmentRow taken after x BraceOpens d refl (sym (ap first cut) ∙ mark_sorted mark.OpenBrace b e))
braced_cut depth b taken after _ (BracedRule a c t u {trees = xs} cut m d comma n) is low e = record {
  middle = (a ++ c) ++ (u ∷ after);
  first = record { t = t; cut = is ∙ ap (λ l. l ++ after) cut ∙ append_assoc (t ∷ (a ++ c)) (u ∷ []) after; is = m };
  second = record {
    middle = u ∷ after;
    first = record { taken = a ++ c; tree = xs; cut = refl; derives = record { list = a; last = c; cut = refl; derives = d; comma = comma }; follows = mark_here u after n; low = omega (arith, low) };
    second = record { t = u; cut = refl; is = n };
  };
}

pub braced_ways : (depth : ℕ) (b : List Token) → mark_at b ≡ Some mark.OpenBrace → (after : List Token) → InitialFront depth b after → BracedFront depth b after
braced_ways depth b e after f = braced_cut depth b f.taken after f.tree f.derives f.cut f.low e

value_cut : (depth : ℕ) (b taken after : List Token) (x : InitialTree) → DerivesInitial taken x → b ≡ taken ++ after → EndsItem after → depth + initial_height (Some x) ≤ greatest_height → mark_at b ≢ Some mark.OpenBrace → ExpressionFront AssignmentRow depth b after
value_cut depth b taken after _ (OneRule {tree = x} d) cut ends low n = record { taken = taken; tree = x; cut = cut; derives = d; follows = ends_item_row after ends; low = low }
value_cut depth b taken after _ (BracedRule a c t u cut m d comma k) is ends low n = absurd (n (ap mark_at (is ∙ ap (λ l. l ++ after) cut) ∙ mark_here t ((a ++ c ++ u ∷ []) ++ after) m))

pub value_ways : (depth : ℕ) (b : List Token) → mark_at b ≢ Some mark.OpenBrace → (after : List Token) → InitialFront depth b after → ExpressionFront AssignmentRow depth b after
value_ways depth b n after f = value_cut depth b f.taken after f.tree f.derives f.cut f.follows f.low n
