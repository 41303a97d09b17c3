-- What externals and whole sources lead to, part by part, and what an external takes.
use Rattle.std.proofs.Common.{◌≡◌, ◌≢◌, ◌≤◌, ◌+◌, ◌++◌, ◌∷◌, [], ℕ, List, Some, map, length, refl, sym, ap, ◌∙◌, subst, arith, append_assoc}
use Rattle.std.proofs.lemmas.List.{append-nil}
use Rattle.c_syntax.specs.declared.token.Token.{Token}
use Rattle.c_syntax.specs.declared.token.Punct.TheVariants as mark
use Rattle.c_syntax.specs.SyntaxTree.{ParametersTree, ItemForm, FunctionSyntax, DeclarationTree, Block, Statements, ExternalTree, Defined, Declared, UnitTree}
use Rattle.c_syntax.specs.Grammar.{IsMark}
use Rattle.c_syntax.specs.Derives.{DerivesForm, FunctionRule, PlainRule, ArrayFormRule, Closed, DerivesStatement, BlockRule, DerivesFunction, DerivesExternal, DerivesUnit, LastExternal, MoreExternals}
use Rattle.c_syntax.specs.Measures.{greatest, parameters_height, item_form_height, external_height, greatest_height}
use Rattle.c_syntax.specs.Source.{IsSource, NoSource}
use Rattle.c_syntax.proofs.Rows.Fronts.{AnyName, ParenOpens, BracketOpens, first, same_tail}
use Rattle.c_syntax.proofs.Rows.Given.{mark_first}
use Rattle.c_syntax.proofs.Rows.Initialisers.{array_first}
use Rattle.c_syntax.proofs.Rows.Parameters.{parameters_one, name_first}
use Rattle.c_syntax.proofs.Rows.Externals.{external_one, name_other}
use Rattle.c_syntax.proofs.Rows.UnitOne.{known}
use Rattle.c_cursor.specs.Front.{mark_at}
use Rattle.c_cursor.specs.Takes.{Takes}
use Rattle.c_expressions.specs.Fronts.{NoFront, OnlyTo, Then, One, SpecsFront, StarsFront}
use Rattle.c_declarations.specs.DeclarationFronts.{DeclarationFront, EndsForm, FormFront, MoreItems, Ended, GoesOn, ParametersFront, IsAnyName}
use Rattle.c_statements.specs.StatementFronts.{StatementFront}
use Rattle.c_parser.specs.UnitFronts.{ExternalFront, IsListed, ListedFront, DeclarationEnd, FunctionEnd, RestFront, AsDeclaration, AsFunction, UnitFront, MoreUnits, EndsHere, OneMore}
use Rattle.c_declarations.proofs.FrontLemmas.{mark_found, first_fails, second_fails}
use Rattle.c_declarations.proofs.FrontTokens.{no_spec, mark_sorted}
use Rattle.c_declarations.proofs.FrontMarks.{mark_here, not_mark, other_mark}
use Rattle.c_cursor.proofs.TakesLemmas.{greatest_first}
use Rattle.c_declarations.proofs.DeclarationWays.{declaration_ways, items_ways, item_ways, no_initial_leads}
use Rattle.c_statements.proofs.StatementWays.{block_ways}

-- ---- externals

declared_ways : (b after : List Token) → DeclarationFront 1 b after → Then SpecsFront (Then StarsFront (Then (One IsAnyName) RestFront)) b after
declared_ways b after f =
    let d = declaration_ways 1 b after f in
    let e = items_ways 2 d.middle d.second.middle d.second.first in
    let i = item_ways 2 d.middle e.middle e.first in
    record {
      middle = d.middle;
      first = d.first;
      second = record {
        middle = i.middle;
        first = i.first;
        second = record {
          middle = i.second.middle;
          first = i.second.first;
          second = AsDeclaration (record {
            middle = i.second.second.middle;
            first = i.second.second.first;
            second = record {
              middle = e.middle;
              first = i.second.second.second;
              second = record { middle = d.second.middle; first = e.second; second = d.second.second };
            };
          });
        };
      };
    }

block_begins : (r : List Token) {tokens : List Token} {xs : List DeclarationTree} {ys : Statements} {at : ℕ} → DerivesStatement Closed tokens (Block xs ys at) → mark_at (tokens ++ r) ≡ Some mark.OpenBrace
block_begins r (BlockRule a b t u cut opens g h ends) = ap (λ l. mark_at (l ++ r)) cut ∙ mark_here t ((a ++ b ++ u ∷ []) ++ r) opens

defined_ways : (b taken after : List Token) (x : FunctionSyntax) → DerivesFunction taken x → b ≡ taken ++ after → 1 + external_height (Defined x) ≤ greatest_height → Then SpecsFront (Then StarsFront (Then (One IsAnyName) RestFront)) b after
defined_ways b taken after x d cut low =
    let body : StatementFront 2 (d.d ++ after) after = record {
      closing = Closed;
      front = record { taken = d.d; tree = Block x.declarations x.statements x.body_at; cut = refl; derives = d.body; follows = tt {0}; low = omega (arith, low) };
    } in
    record {
      middle = d.b ++ (d.n ∷ d.t ∷ (d.c ++ (d.u ∷ (d.d ++ after))));
      first = record {
        taken = d.a;
        tree = x.specs;
        cut = cut ∙ simp append_assoc at (ap (λ l. l ++ after) d.cut);
        derives = d.specs;
        follows = no_spec _ (name_other d.b (d.t ∷ (d.c ++ (d.u ∷ (d.d ++ after)))) d.n x.stars x.name d.stars d.name);
        low = omega arith;
      };
      second = record {
        middle = d.n ∷ d.t ∷ (d.c ++ (d.u ∷ (d.d ++ after)));
        first = record { taken = d.b; tree = x.stars; cut = refl; derives = d.stars; follows = not_mark (d.n ∷ d.t ∷ (d.c ++ (d.u ∷ (d.d ++ after)))) AnyName mark.Star (name_first d.n (d.t ∷ (d.c ++ (d.u ∷ (d.d ++ after)))) x.name d.name) (λ e. cc); low = omega arith };
        second = record {
          middle = d.t ∷ (d.c ++ (d.u ∷ (d.d ++ after)));
          first = record { t = d.n; cut = refl; is = (x.name, d.name) };
          second = AsFunction (record {
            middle = d.d ++ after;
            first = record {
              taken = d.t ∷ d.c ++ d.u ∷ [];
              tree = x.parameters;
              cut = sym (append_assoc (d.t ∷ d.c) (d.u ∷ []) (d.d ++ after));
              derives = FunctionRule d.c d.t d.u refl d.opens d.parameters d.closes;
              follows = tt {0};
              low = omega (arith, low);
            };
            second = block_ways 2 (d.d ++ after) (block_begins after d.body) after body;
          });
        };
      };
    }

pub external_ways : (b after : List Token) → ExternalFront b after → Then SpecsFront (Then StarsFront (Then (One IsAnyName) RestFront)) b after
external_ways b after f = by_form b f.taken after f.tree f.derives f.cut f.low
  where
    by_form : (b taken after : List Token) (x : ExternalTree) → DerivesExternal taken x → b ≡ taken ++ after → 1 + external_height x ≤ greatest_height → Then SpecsFront (Then StarsFront (Then (One IsAnyName) RestFront)) b after
    by_form b taken after (Defined x) d cut low = defined_ways b taken after x d cut low
    by_form b taken after (Declared x) d cut low = declared_ways b after (record { taken = taken; tree = x; cut = cut; derives = d; follows = tt {0}; low = low })

-- ---- the rest, by what stands behind the name

listed_opens : {depth : ℕ} {b : List Token} (after : List Token) → ListedFront depth b after → mark_at b ≡ Some mark.OpenParen
listed_opens {b = b} after f = opens b f.taken after f.tree f.derives f.cut
  where
    opens : (b taken after : List Token) (x : ParametersTree) → IsListed taken x → b ≡ taken ++ after → mark_at b ≡ Some mark.OpenParen
    opens b taken after x (FunctionRule a t u cut m d n) is = ap mark_at (is ∙ simp append_assoc at (ap (λ l. l ++ after) cut)) ∙ mark_here t (a ++ (u ∷ after)) m

pub plain_rest : (b : List Token) → mark_at b ≢ Some mark.OpenParen → (after : List Token) → RestFront b after → Then (FormFront 3) DeclarationEnd b after
plain_rest b n after (AsDeclaration t) = t
plain_rest b n after (AsFunction t) = absurd (n (listed_opens t.middle t.first))

-- at a parenthesis the form is a list of parameters
form_listed : (depth : ℕ) (b taken after : List Token) (x : ItemForm) → DerivesForm taken x → b ≡ taken ++ after → mark_at b ≡ Some mark.OpenParen → EndsForm after → depth + item_form_height x ≤ greatest_height → ListedFront depth b after
form_listed depth b taken after _ PlainRule cut e ends low = absurd (ends.no_paren (sym (ap mark_at cut) ∙ e))
form_listed depth b taken after _ (FunctionRule a t u {tree = x} cut m d n) is e ends low = record { taken = taken; tree = x; cut = is; derives = FunctionRule a t u cut m d n; follows = tt {0}; low = low }
form_listed depth b taken after _ (ArrayFormRule {length = x} d) cut e ends low =
    let both : ParenOpens ≡ BracketOpens = sym (mark_sorted mark.OpenParen b e) ∙ ap first cut ∙ array_first taken after x d in
    absurd cc

-- the two ways on from a parenthesis
pub data Listed (b after : List Token) : Type 0 where
  OfDeclaration : Then (ListedFront 3) DeclarationEnd b after → Listed b after
  OfFunction : Then (ListedFront 2) FunctionEnd b after → Listed b after

pub listed_rest : (b : List Token) → mark_at b ≡ Some mark.OpenParen → (after : List Token) → RestFront b after → Listed b after
listed_rest b e after (AsDeclaration t) =
    let f = t.first in
    OfDeclaration (record { middle = t.middle; first = form_listed 3 b f.taken t.middle f.tree f.derives f.cut e f.follows f.low; second = t.second })
listed_rest b e after (AsFunction t) = OfFunction t

lower : {b after : List Token} → ListedFront 3 b after → ListedFront 2 b after
lower f = record { taken = f.taken; tree = f.tree; cut = f.cut; derives = f.derives; follows = f.follows; low = omega (arith, f.low) }

pub no_list : {b : List Token} → mark_at b ≡ Some mark.OpenParen → NoFront (ListedFront 2) b → NoFront RestFront b
no_list {b = b} e n = record { never = λ after r. go after (listed_rest b e after r) }
  where
    go : (after : List Token) → Listed b after → ⊥
    go after (OfDeclaration t) = n.never t.middle (lower t.first)
    go after (OfFunction t) = n.never t.middle t.first

-- parameters in their parentheses end by themselves
listed_one : (a b r s : List Token) (x y : ParametersTree) → IsListed a x → IsListed b y → a ++ r ≡ b ++ s → (r ≡ s) × (x ≡ y)
listed_one a b r s x y (FunctionRule c t u cut m g l) (FunctionRule d v w cut' m' h l') e =
    let is : t ∷ (c ++ (u ∷ r)) ≡ v ∷ (d ++ (w ∷ s)) = sym (simp append_assoc at (ap (λ k. k ++ r) cut)) ∙ e ∙ simp append_assoc at (ap (λ k. k ++ s) cut') in
    let found = parameters_one known c d (u ∷ r) (w ∷ s) x y g h (mark_first mark.CloseParen u r l) (mark_first mark.CloseParen w s l') (same_tail t v (c ++ (u ∷ r)) (d ++ (w ∷ s)) is) in
    (same_tail u w r s found.rest, found.tree)

listed_same : {depth : ℕ} {b m after : List Token} {x : ParametersTree} (r : Takes (λ all. IsListed all x) b m) (f : ListedFront depth b after) → (after ≡ m) × (f.tree ≡ x)
listed_same {m = m} {after = after} {x = x} r f = listed_one f.taken r.taken after m f.tree x f.derives r.is (sym f.cut ∙ r.cut)

-- behind the parameters
pub no_ends : {b m : List Token} {x : ParametersTree} → mark_at b ≡ Some mark.OpenParen → Takes (λ all. IsListed all x) b m → (3 + parameters_height x ≤ greatest_height → NoFront DeclarationEnd m) → NoFront FunctionEnd m → NoFront RestFront b
no_ends {b = b} {m = m} {x = x} e r p q = record { never = λ after k. go after (listed_rest b e after k) }
  where
    go : (after : List Token) → Listed b after → ⊥
    go after (OfDeclaration t) =
        let same = listed_same r t.first in
        (p (subst (λ z. 3 + parameters_height z ≤ greatest_height) same.1 t.first.low)).never after (subst (λ l. DeclarationEnd l after) same.0 t.second)
    go after (OfFunction t) = let same = listed_same r t.first in q.never after (subst (λ l. FunctionEnd l after) same.0 t.second)

-- a brace ends no declaration
pub no_declaration_end : {m : List Token} → mark_at m ≡ Some mark.OpenBrace → NoFront DeclarationEnd m
no_declaration_end {m = m} e =
    second_fails (no_initial_leads (other_mark m mark.OpenBrace mark.Assign (λ k. cc) e))
    (first_fails (record { never = λ after f. more after f }))
  where
    more : (after : List Token) → MoreItems 2 m after → ⊥
    more after (Ended d) = other_mark m mark.OpenBrace mark.Semicolon (λ k. cc) e d.1
    more after (GoesOn t) = other_mark m mark.OpenBrace mark.Comma (λ k. cc) e (mark_found mark.Comma m t.middle t.first)

-- and no other token begins a body
pub no_function_end : {m : List Token} → mark_at m ≢ Some mark.OpenBrace → NoFront FunctionEnd m
no_function_end {m = m} n = first_fails (record { never = λ after o. n (mark_found mark.OpenBrace m after o) })

pub listed_ways : (depth : ℕ) (b after : List Token) → ListedFront depth b after → Then (One (IsMark mark.OpenParen)) (Then (ParametersFront depth) (One (IsMark mark.CloseParen))) b after
listed_ways depth b after f = cut_at b f.taken after f.tree f.derives f.cut f.low
  where
    cut_at : (b taken after : List Token) (x : ParametersTree) → IsListed taken x → b ≡ taken ++ after → depth + parameters_height x ≤ greatest_height → Then (One (IsMark mark.OpenParen)) (Then (ParametersFront depth) (One (IsMark mark.CloseParen))) b after
    cut_at b taken after x (FunctionRule a t u cut m d n) is low = record {
      middle = a ++ (u ∷ after);
      first = record { t = t; cut = is ∙ simp append_assoc at (ap (λ l. l ++ after) cut); is = m };
      second = record {
        middle = u ∷ after;
        first = record { taken = a; tree = x; cut = refl; derives = d; follows = mark_here u after n; low = low };
        second = record { t = u; cut = refl; is = n };
      };
    }

-- ---- whole sources

pub external_only : {b m : List Token} (x : ExternalTree) → Takes (λ all. DerivesExternal all x) b m → OnlyTo ExternalFront b m
external_only {m = m} x r = record { same = λ after f. (external_one known f.taken r.taken after m f.tree x f.derives r.is (sym f.cut ∙ r.cut)).rest }

unit_cut : (b after : List Token) (xs : UnitTree) → DerivesUnit b xs → 1 + greatest (map external_height xs) ≤ greatest_height → Then ExternalFront MoreUnits b []
unit_cut b after _ (LastExternal {tree = x} d) low =
    let k = greatest_first (external_height x) [] in
    record { middle = []; first = record { taken = b; tree = x; cut = sym (append-nil b); derives = d; follows = tt {0}; low = omega (arith, low, k) }; second = EndsHere refl }
unit_cut b after _ (MoreExternals a c {tree = x} {trees = xs} cut d more) low =
    let k = greatest_first (external_height x) (map external_height xs) in
    record {
      middle = c;
      first = record { taken = a; tree = x; cut = cut; derives = d; follows = tt {0}; low = omega (arith, low, k) };
      second = OneMore (record { trees = xs; derives = more; ends = refl; low = omega (arith, low, k) });
    }

pub unit_ways : (b after : List Token) → UnitFront b after → Then ExternalFront MoreUnits b after
unit_ways b after f = subst (λ l. Then ExternalFront MoreUnits b l) (sym f.ends) (unit_cut b after f.trees f.derives f.low)

-- where tokens are left, there are more
pub more_units : (n : List Token) → (length n ≡ 0 → ⊥) → (after : List Token) → MoreUnits n after → UnitFront n after
more_units n some after (EndsHere e) = absurd (some (ap length e))
more_units n some after (OneMore f) = f

pub no_source : {tokens : List Token} → NoFront UnitFront tokens → NoSource tokens
no_source n = record { never = λ tree s. n.never [] (record { trees = tree; derives = s.derives; ends = refl; low = s.low }) }

nothing_left : (l : List Token) → length l ≡ 0 → l ≡ []
nothing_left [] e = refl
nothing_left (t ∷ more) e = absurd (omega (arith, e))

pub units_taken : {tokens now : List Token} {highest : ℕ} (xs : UnitTree) → Takes (λ all. DerivesUnit all xs) tokens now → length now ≡ 0 → highest ≡ greatest (map external_height xs) → 1 + highest ≤ greatest_height → IsSource tokens xs
units_taken {now = now} xs r none h low = record {
  derives = subst (λ l. DerivesUnit l xs) (sym (r.cut ∙ ap (λ l. r.taken ++ l) (nothing_left now none) ∙ append-nil r.taken)) r.is;
  low = omega (arith, low, h);
}
