-- What lists of declarations, statements and choices lead to, one after the other.
use Rattle.std.proofs.Common.{◌≡◌, ◌≢◌, ◌≤◌, ◌+◌, ◌++◌, ◌∷◌, [], ℕ, map, List, Some, None, inl, inr, refl, sym, ap, ◌∙◌, arith, append_assoc}
use Rattle.c_syntax.specs.declared.token.Token.{Token}
use Rattle.c_syntax.specs.declared.token.Keyword.TheVariants as keyword
use Rattle.c_syntax.specs.declared.token.Punct.TheVariants as mark
use Rattle.c_syntax.specs.Grammar.{ConditionalRow, IsMark}
use Rattle.c_syntax.specs.Derives.{DerivesItems, LastItem, MoreItems, DerivesDeclarations, NoDeclaration, MoreDeclarations, DerivesStatements, NoStatement, MoreStatements, DerivesChoices, NoChoice, CaseRule, DefaultRule, ChosenRule}
use Rattle.c_syntax.specs.Lookahead.{spec_of}
use Rattle.c_syntax.specs.SyntaxTree.{DeclarationTree, ItemTree, Statements, Choices}
use Rattle.c_syntax.specs.Measures.{greatest, item_height, declaration_height, statements_height, choices_height, greatest_height}
use Rattle.c_syntax.proofs.Parsing.ExpressionOne.{ends_mark}
use Rattle.c_syntax.proofs.Rows.Fronts.{CaseWord, DefaultWord, first}
use Rattle.c_syntax.proofs.Rows.Given.{mark_first}
use Rattle.c_syntax.proofs.Rows.Declarations.{declaration_first}
use Rattle.c_syntax.proofs.Rows.Statements.{statements_other}
use Rattle.c_syntax.proofs.Rows.Blocks.{statements_no_else, choices_no_else}
use Rattle.c_syntax.proofs.Rows.UnitOne.{known}
use Rattle.c_cursor.specs.Front.{mark_at, word_at}
use Rattle.c_declarations.specs.DeclarationFronts.{DeclarationFront}
use Rattle.c_expressions.specs.Fronts.{Then, NoFront, OnlyTo}
use Rattle.c_statements.specs.StatementFronts.{StatementFront, CaseFront, DefaultFront, PartFront, PartsFront, DeclarationsFront, StatementsFront, BodyFront}
use Rattle.c_declarations.proofs.FrontLemmas.{behind_one, word_found}
use Rattle.c_declarations.proofs.FrontTokens.{word_sorted, no_spec}
use Rattle.c_statements.proofs.StatementTokens.{ends_fitting, no_else_word}
use Rattle.c_expressions.proofs.WholeWays.{no_type}
use Rattle.c_statements.proofs.StatementWays.{head_of, closed_front, brace_stands}
use Rattle.c_cursor.proofs.TakesLemmas.{greatest_first, one_behind}

-- ---- declarations

-- each declaration has an item, and each item a name
items_some : {a : List Token} {xs : List ItemTree} → DerivesItems a xs → 2 ≤ greatest (map item_height xs)
items_some (LastItem {tree = x} g) = omega (arith, greatest_first (item_height x) [])
items_some (MoreItems a b t {tree = x} {trees = xs} cut g comma more) = omega (arith, greatest_first (item_height x) (map item_height xs))

pub declaration_too_high : {depth : ℕ} {b : List Token} → greatest_height ≤ depth + 2 → NoFront (DeclarationFront depth) b
declaration_too_high h = record { never = λ after f. let some = items_some f.derives.items in omega (arith, h, f.low, some) }

next_declaration : (depth : ℕ) (b after a : List Token) (xs : List DeclarationTree) → spec_of b ≢ None → spec_of after ≡ None → b ≡ a ++ after → DerivesDeclarations a xs → depth + greatest (map declaration_height xs) ≤ greatest_height
    → Then (DeclarationFront depth) (DeclarationsFront depth) b after
next_declaration depth b after _ _ n ends cut NoDeclaration low = absurd (n (ap spec_of cut ∙ ends))
next_declaration depth b after _ _ n ends cut (MoreDeclarations c d {tree = x} {trees = xs} is g more) low = record {
  middle = d ++ after;
  first = record { taken = c; tree = x; cut = cut ∙ ap (λ l. l ++ after) is ∙ append_assoc c d after; derives = g; follows = tt {0}; low = omega (arith, low, greatest_first (declaration_height x) (map declaration_height xs)) };
  second = record { taken = d; tree = xs; cut = refl; derives = more; follows = ends; low = omega (arith, low, greatest_first (declaration_height x) (map declaration_height xs)) };
}

pub declarations_ways : (depth : ℕ) (b : List Token) → spec_of b ≢ None → (after : List Token) → DeclarationsFront depth b after → Then (DeclarationFront depth) (DeclarationsFront depth) b after
declarations_ways depth b n after f = next_declaration depth b after f.taken f.tree n f.follows f.cut f.derives f.low

no_declaration : (b after a : List Token) (xs : List DeclarationTree) → spec_of b ≡ None → b ≡ a ++ after → DerivesDeclarations a xs → after ≡ b
no_declaration b after _ _ e cut NoDeclaration = sym cut
no_declaration b after _ _ e cut (MoreDeclarations c d {tree = x} is g more) =
    absurd (no_type b e (ap first (cut ∙ ap (λ l. l ++ after) is ∙ append_assoc c d after) ∙ declaration_first c (d ++ after) x g))

-- where no word of a type stands, there is none
pub declarations_end : {depth : ℕ} {b : List Token} → spec_of b ≡ None → OnlyTo (DeclarationsFront depth) b b
declarations_end {b = b} e = record { same = λ after f. no_declaration b after f.taken f.tree e f.cut f.derives }

-- ---- the body of a block

pub body_ways : (depth : ℕ) (b after : List Token) → BodyFront depth b after → Then (DeclarationsFront (depth + 1)) (StatementsFront (depth + 1)) b after
body_ways depth b after f =
    let g = f.derives in
    let h = g.second in
    let rest : g.rest ++ after ≡ h.front ++ (h.second.t ∷ after) = ap (λ l. l ++ after) (one_behind h) ∙ append_assoc h.front (h.second.t ∷ []) after in
    record {
      middle = g.rest ++ after;
      first = record {
        taken = g.front;
        tree = f.tree.declarations;
        cut = f.cut ∙ ap (λ l. l ++ after) g.cut ∙ append_assoc g.front g.rest after;
        derives = g.first;
        follows = no_spec (g.rest ++ after) (λ e. statements_other known h.front (h.second.t ∷ after) f.tree.statements h.first (mark_first mark.CloseBrace h.second.t after h.second.is) (ap first (sym rest) ∙ e));
        low = omega (arith, f.low);
      };
      second = record { taken = g.rest; tree = f.tree.statements; cut = refl; derives = h; follows = tt {0}; low = omega (arith, f.low) };
    }

next_statement : (depth : ℕ) (b after a : List Token) (u : Token) (xs : Statements) → mark_at b ≢ Some mark.CloseBrace → b ≡ a ++ (u ∷ after) → IsMark mark.CloseBrace u → DerivesStatements a xs → depth + statements_height xs ≤ greatest_height
    → Then (StatementFront depth) (StatementsFront depth) b after
next_statement depth b after _ u _ n cut h NoStatement low = absurd (n (brace_stands cut h))
next_statement depth b after _ u _ n cut h (MoreStatements closing c d {tree = x} {trees = xs} is g more) low = record {
  middle = d ++ (u ∷ after);
  first = record {
    closing = closing;
    front = record {
      taken = c;
      tree = x;
      cut = cut ∙ ap (λ l. l ++ (u ∷ after)) is ∙ append_assoc c d (u ∷ after);
      derives = g;
      follows = ends_fitting closing (d ++ (u ∷ after)) (no_else_word (d ++ (u ∷ after)) (statements_no_else known d (u ∷ after) xs more (mark_first mark.CloseBrace u after h)));
      low = omega (arith, low);
    };
  };
  second = closed_front d after u xs more h (omega (arith, low));
}

pub statements_ways : (depth : ℕ) (b : List Token) → mark_at b ≢ Some mark.CloseBrace → (after : List Token) → StatementsFront depth b after → Then (StatementFront depth) (StatementsFront depth) b after
statements_ways depth b n after f =
    let g = f.derives in
    next_statement depth b after g.front g.second.t f.tree n (f.cut ∙ ap (λ l. l ++ after) (one_behind g) ∙ append_assoc g.front (g.second.t ∷ []) after) g.second.is g.first f.low

-- ---- the choices of a switch

next_part : (depth : ℕ) (b after a : List Token) (u : Token) (xs : Choices) → mark_at b ≢ Some mark.CloseBrace → b ≡ a ++ (u ∷ after) → IsMark mark.CloseBrace u → DerivesChoices a xs → depth + (1 + choices_height xs) ≤ greatest_height
    → Then (PartFront (depth + 1)) (PartsFront depth) b after
next_part depth b after _ u _ n cut h NoChoice low = absurd (n (brace_stands cut h))
next_part depth b after _ u _ n cut h (CaseRule c d k v {value = x} {choices = xs} is word g colon more) low = record {
  middle = d ++ (u ∷ after);
  first = inl (behind_one k word (cut ∙ ap (λ l. l ++ (u ∷ after)) is ∙ ap (λ l. k ∷ l) (append_assoc c (v ∷ d) (u ∷ after))) (record {
    middle = v ∷ (d ++ (u ∷ after));
    first = record { taken = c; tree = x; cut = refl; derives = g; follows = ends_mark ConditionalRow v (d ++ (u ∷ after)) mark.Colon colon (omega arith); low = omega (arith, low) };
    second = record { t = v; cut = refl; is = colon };
  }));
  second = closed_front d after u xs more h (omega (arith, low));
}
next_part depth b after _ u _ n cut h (DefaultRule d k v {choices = xs} is word colon more) low = record {
  middle = d ++ (u ∷ after);
  first = inr (inl (behind_one k word (cut ∙ ap (λ l. l ++ (u ∷ after)) is) (record { t = v; cut = refl; is = colon })));
  second = closed_front d after u xs more h (omega (arith, low));
}
next_part depth b after _ u _ n cut h (ChosenRule closing c d {tree = x} {choices = xs} is g more) low = record {
  middle = d ++ (u ∷ after);
  first = inr (inr (record {
    closing = closing;
    front = record {
      taken = c;
      tree = x;
      cut = cut ∙ ap (λ l. l ++ (u ∷ after)) is ∙ append_assoc c d (u ∷ after);
      derives = g;
      follows = ends_fitting closing (d ++ (u ∷ after)) (no_else_word (d ++ (u ∷ after)) (choices_no_else known d (u ∷ after) xs more (mark_first mark.CloseBrace u after h)));
      low = omega (arith, low);
    };
  }));
  second = closed_front d after u xs more h (omega (arith, low));
}

pub parts_ways : (depth : ℕ) (b : List Token) → mark_at b ≢ Some mark.CloseBrace → (after : List Token) → PartsFront depth b after → Then (PartFront (depth + 1)) (PartsFront depth) b after
parts_ways depth b n after f =
    let g = f.derives in
    next_part depth b after g.front g.second.t f.tree n (f.cut ∙ ap (λ l. l ++ after) (one_behind g) ∙ append_assoc g.front (g.second.t ∷ []) after) g.second.is g.first f.low

-- a part, by its first token
case_alone : {depth : ℕ} {b after : List Token} → word_at b ≡ Some keyword.Default → CaseFront depth b after → ⊥
case_alone {b = b} e c = let both = sym e ∙ word_found keyword.Case b c.middle c.first in cc

default_alone : {b after : List Token} → word_at b ≡ Some keyword.Case → DefaultFront b after → ⊥
default_alone {b = b} e d = let both = sym e ∙ word_found keyword.Default b d.middle d.first in cc

pub case_ways : (depth : ℕ) (b : List Token) → word_at b ≡ Some keyword.Case → (after : List Token) → PartFront depth b after → CaseFront depth b after
case_ways depth b e after (inl c) = c
case_ways depth b e after (inr (inl d)) = absurd (default_alone e d)
case_ways depth b e after (inr (inr s)) = absurd (head_of CaseWord s (word_sorted keyword.Case b e))

pub default_ways : (depth : ℕ) (b : List Token) → word_at b ≡ Some keyword.Default → (after : List Token) → PartFront depth b after → DefaultFront b after
default_ways depth b e after (inl c) = absurd (case_alone e c)
default_ways depth b e after (inr (inl d)) = d
default_ways depth b e after (inr (inr s)) = absurd (head_of DefaultWord s (word_sorted keyword.Default b e))

pub chosen_ways : (depth : ℕ) (b : List Token) → word_at b ≢ Some keyword.Case → word_at b ≢ Some keyword.Default → (after : List Token) → PartFront depth b after → StatementFront depth b after
chosen_ways depth b p q after (inl c) = absurd (p (word_found keyword.Case b c.middle c.first))
chosen_ways depth b p q after (inr (inl d)) = absurd (q (word_found keyword.Default b d.middle d.first))
chosen_ways depth b p q after (inr (inr s)) = s
