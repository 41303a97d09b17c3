-- What the rows of parameters lead to, part by part.
use Rattle.std.proofs.Common.{◌≡◌, ◌≢◌, ◌≤◌, ◌+◌, ◌↔◌, IsTrue, IsSome, ◌++◌, ◌∷◌, [], ℕ, Bool, true, false, List, Option, Some, None, map, inl, inr, refl, sym, ap, ◌∙◌, subst, arith, append_assoc}
use Rattle.std.specs.Prelude.{◌⊎◌, ◌&&◌}
use Rattle.c_syntax.specs.declared.token.Token.{Token}
use Rattle.c_syntax.specs.declared.token.Punct.TheVariants as mark
use Rattle.c_syntax.specs.declared.token.TokenKind.{TokenKind}
use Rattle.c_syntax.specs.declared.token.TokenKind.TheVariants as token
use Rattle.c_syntax.specs.declared.token.Keyword.TheVariants as keyword
use Rattle.c_syntax.specs.Grammar.{IsKeyword, AreSpecs, LastSpec, MoreSpecs, AreStars, NoStar, MoreStars}
use Rattle.c_syntax.specs.Derives.{IsNameToken, ArrayRule, DerivesName, DerivesArrayMark, DerivesParameterList, LastParameter, DerivesParameters, VoidRule, ParametersRule}
use Rattle.c_syntax.specs.Derives as rows
use Rattle.c_syntax.specs.SyntaxTree.{ParameterTree, ParametersTree}
use Rattle.c_syntax.specs.Measures.{greatest, array_height, parameter_height, parameters_height, greatest_height}
use Rattle.c_syntax.proofs.Rows.Fronts.{TypeWord, StarMark, AnyName, BracketOpens, CommaMark, ParenCloses, kind_sort, first}
use Rattle.c_syntax.proofs.Rows.Initialisers.{array_first}
use Rattle.c_syntax.proofs.Rows.Parameters.{name_first, stars_other}
use Rattle.c_syntax.proofs.Rows.SpecsAndStars.{specs_first, star_first}
use Rattle.c_cursor.specs.Front.{behind, kind_mark, mark_at, name_at, kind_name, is_void_kind, is_close_kind, is_separator_kind, is_void_alone, is_void_word, is_separator_at}
use Rattle.c_expressions.specs.Fronts.{NoFront, OnlyTo, Then, One, SpecsFront, StarsFront}
use Rattle.c_declarations.specs.DeclarationFronts.{EndsParameter, ArrayFront, ParametersFront, ParameterListFront, ParameterFront, NameFront, ArrayMarkFront, IsAnyName, Ended, GoesOn, Before, MoreParameters}
use Rattle.c_declarations.proofs.FrontTokens.{mark_sorted, no_spec}
use Rattle.c_declarations.proofs.FrontMarks.{first_low, others_low, mark_here}

-- ---- lists

parameters_cut : (depth : ℕ) (b taken after : List Token) (xs : List ParameterTree) → DerivesParameterList taken xs → b ≡ taken ++ after → mark_at after ≡ Some mark.CloseParen → depth + greatest (map parameter_height xs) ≤ greatest_height
    → Then (ParameterFront depth) (MoreParameters depth) b after
parameters_cut depth b taken after _ (LastParameter {tree = x} d) cut ends low = record {
  middle = after;
  first = record { taken = taken; tree = x; cut = cut; derives = d; follows = inr ends; low = first_low parameter_height x [] depth greatest_height low };
  second = Ended (refl, ends);
}
parameters_cut depth b taken after _ (rows.MoreParameters a c t {tree = x} {trees = xs} cut d comma more) is ends low = record {
  middle = t ∷ (c ++ after);
  first = record { taken = a; tree = x; cut = is ∙ simp append_assoc at (ap (λ l. l ++ after) cut); derives = d; follows = inl (mark_here t (c ++ after) comma); low = first_low parameter_height x xs depth greatest_height low };
  second = GoesOn (record {
    middle = c ++ after;
    first = record { t = t; cut = refl; is = comma };
    second = record { taken = c; tree = xs; cut = refl; derives = more; follows = ends; low = others_low parameter_height x xs depth greatest_height low };
  });
}

pub parameter_list_ways : (depth : ℕ) (b after : List Token) → ParameterListFront depth b after → Then (ParameterFront depth) (MoreParameters depth) b after
parameter_list_ways depth b after f = parameters_cut depth b f.taken after f.tree f.derives f.cut f.follows f.low

-- ---- parts of parameters

name_taken_at : {r : List Token} {t : Token} {name : List ℕ} → r ≡ t ∷ [] → IsNameToken name t → (after : List Token) → name_at (r ++ after) ≡ Some name
name_taken_at cut h after = ap (λ l. name_at (l ++ after)) cut ∙ ap kind_name h

no_name_cut : (b taken after : List Token) (x : Option (List ℕ)) → DerivesName taken x → b ≡ taken ++ after → name_at b ≡ None → after ≡ b
no_name_cut b taken after None d cut n = sym (cut ∙ ap (λ l. l ++ after) d)
no_name_cut b taken after (Some name) (t, e, h) cut n = let both : Some name ≡ None = sym (ap name_at cut ∙ name_taken_at e h after) ∙ n in absurd cc

pub no_name_leads : {b : List Token} → name_at b ≡ None → OnlyTo NameFront b b
no_name_leads {b = b} n = record { same = λ after f. no_name_cut b f.taken after f.tree f.derives f.cut n }

name_cut : (b taken after : List Token) (x : Option (List ℕ)) → DerivesName taken x → b ≡ taken ++ after → name_at after ≡ None → IsSome (name_at b) → One IsAnyName b after
name_cut b taken after None d cut n h = let none : IsSome {T = List ℕ} None = subst IsSome (ap name_at (cut ∙ ap (λ l. l ++ after) d) ∙ n) h in absurd cc
name_cut b taken after (Some name) (t, e, h) cut n k = record { t = t; cut = cut ∙ ap (λ l. l ++ after) e; is = (name, h) }

pub name_ways : (b : List Token) → IsSome (name_at b) → (after : List Token) → NameFront b after → One IsAnyName b after
name_ways b h after f = name_cut b f.taken after f.tree f.derives f.cut f.follows h

pub no_name_found : {b : List Token} → name_at b ≡ None → NoFront (One IsAnyName) b
no_name_found h = record { never = λ after o. let both : Some o.is.0 ≡ None = sym (ap name_at o.cut ∙ ap kind_name o.is.1) ∙ h in cc }

-- what `is_name` says where no name stands next
pub nameless : {r : Bool} (b : List Token) → IsTrue r ↔ IsSome (name_at b) → r ≡ false → name_at b ≡ None
nameless b d h = none_left (name_at b) (λ k. let q = d.1 k in cc)
  where
    none_left : (o : Option (List ℕ)) → (IsSome o → ⊥) → o ≡ None
    none_left None n = refl
    none_left (Some name) n = absurd (n refl)

no_mark_cut : (b taken after : List Token) (x : _) → DerivesArrayMark taken x → b ≡ taken ++ after → mark_at b ≢ Some mark.OpenBracket → after ≡ b
no_mark_cut b taken after None d cut n = sym (cut ∙ ap (λ l. l ++ after) d)
no_mark_cut b taken after (Some x) (ArrayRule a t u cut m d k) is n = absurd (n (ap mark_at (is ∙ ap (λ l. l ++ after) cut) ∙ mark_here t ((a ++ u ∷ []) ++ after) m))

pub no_array_leads : {depth : ℕ} {b : List Token} → mark_at b ≢ Some mark.OpenBracket → OnlyTo (ArrayMarkFront depth) b b
no_array_leads {b = b} n = record { same = λ after f. no_mark_cut b f.taken after f.tree f.derives f.cut n }

mark_cut : (depth : ℕ) (b taken after : List Token) (x : _) → DerivesArrayMark taken x → b ≡ taken ++ after → mark_at after ≢ Some mark.OpenBracket → depth + array_height x ≤ greatest_height → mark_at b ≡ Some mark.OpenBracket → ArrayFront depth b after
mark_cut depth b taken after None d cut n low e = absurd (n (sym (ap mark_at (cut ∙ ap (λ l. l ++ after) d)) ∙ e))
mark_cut depth b taken after (Some x) d cut n low e = record { taken = taken; tree = x; cut = cut; derives = d; follows = tt {0}; low = low }

pub array_mark_ways : (depth : ℕ) (b : List Token) → mark_at b ≡ Some mark.OpenBracket → (after : List Token) → ArrayMarkFront depth b after → ArrayFront depth b after
array_mark_ways depth b e after f = mark_cut depth b f.taken after f.tree f.derives f.cut f.follows f.low e

-- ---- a parameter

-- behind a parameter stands no token of another sort
parameter_first_not : (r : List Token) (k : _) → CommaMark ≢ k → ParenCloses ≢ k → EndsParameter r → first r ≢ k
parameter_first_not r k p q (inl e) h = p (sym (mark_sorted mark.Comma r e) ∙ h)
parameter_first_not r k p q (inr e) h = q (sym (mark_sorted mark.CloseParen r e) ∙ h)

array_not : (a r : List Token) (x : _) (k : _) → DerivesArrayMark a x → k ≢ BracketOpens → first r ≢ k → first (a ++ r) ≢ k
array_not a r None k d other p = λ e. p (ap first (sym (ap (λ l. l ++ r) d)) ∙ e)
array_not a r (Some x) k d other p = λ e. other (sym e ∙ array_first a r x d)

name_not : (a r : List Token) (x : Option (List ℕ)) (k : _) → DerivesName a x → k ≢ AnyName → first r ≢ k → first (a ++ r) ≢ k
name_not a r None k d other p = λ e. p (ap first (sym (ap (λ l. l ++ r) d)) ∙ e)
name_not a r (Some name) k (t, g, h) other p = λ e. other (sym e ∙ ap (λ l. first (l ++ r)) g ∙ name_first t r name h)

kind_name_sort : (kind : TokenKind) → kind_sort kind ≢ AnyName → kind_name kind ≡ None
kind_name_sort (token.Name name) n = absurd (n refl)
kind_name_sort (token.Word w) n = refl
kind_name_sort (token.Mark m) n = refl
kind_name_sort (token.Char v) n = refl
kind_name_sort (token.Number v m d) n = refl

no_name_at : (r : List Token) → first r ≢ AnyName → name_at r ≡ None
no_name_at [] n = refl
no_name_at (t ∷ more) n = kind_name_sort t.kind n

pub parameter_ways : (depth : ℕ) (b after : List Token) → ParameterFront depth b after → Then SpecsFront (Then StarsFront (Then NameFront (Then (ArrayMarkFront (depth + 1)) (Before EndsParameter)))) b after
parameter_ways depth b after f =
    let d = f.derives in
    let x = f.tree in
    let end = parameter_first_not after in
    let behind_name = array_not d.d after x.array in
    record {
      middle = d.b ++ (d.c ++ (d.d ++ after));
      first = record {
        taken = d.a;
        tree = x.specs;
        cut = f.cut ∙ simp append_assoc at (ap (λ l. l ++ after) d.cut);
        derives = d.specs;
        follows = no_spec (d.b ++ (d.c ++ (d.d ++ after))) (stars_other d.b (d.c ++ (d.d ++ after)) x.stars TypeWord d.stars (λ e. cc) (name_not d.c (d.d ++ after) x.name TypeWord d.name (λ e. cc) (behind_name TypeWord d.array (λ e. cc) (end TypeWord (λ e. cc) (λ e. cc) f.follows))));
        low = omega arith;
      };
      second = record {
        middle = d.c ++ (d.d ++ after);
        first = record {
          taken = d.b;
          tree = x.stars;
          cut = refl;
          derives = d.stars;
          follows = λ e. name_not d.c (d.d ++ after) x.name StarMark d.name (λ k. cc) (behind_name StarMark d.array (λ k. cc) (end StarMark (λ k. cc) (λ k. cc) f.follows)) (mark_sorted mark.Star (d.c ++ (d.d ++ after)) e);
          low = omega arith;
        };
        second = record {
          middle = d.d ++ after;
          first = record {
            taken = d.c;
            tree = x.name;
            cut = refl;
            derives = d.name;
            follows = no_name_at (d.d ++ after) (behind_name AnyName d.array (λ e. cc) (end AnyName (λ e. cc) (λ e. cc) f.follows));
            low = omega arith;
          };
          second = record {
            middle = after;
            first = record { taken = d.d; tree = x.array; cut = refl; derives = d.array; follows = λ e. end BracketOpens (λ k. cc) (λ k. cc) f.follows (mark_sorted mark.OpenBracket after e); low = omega (arith, f.low) };
            second = (refl, f.follows);
          };
        };
      };
    }

pub parameter_too_high : {depth : ℕ} {b : List Token} → greatest_height ≤ depth + 1 → NoFront (ParameterFront depth) b
parameter_too_high h = record { never = λ after f. omega (arith, h, f.low) }

separator_kind : (kind : TokenKind) → is_separator_kind kind ≡ false → (kind_mark kind ≡ Some mark.Comma) ⊎ (kind_mark kind ≡ Some mark.CloseParen) → ⊥
separator_kind (token.Mark mark.Comma) h e = absurd cc
separator_kind (token.Mark mark.CloseParen) h e = absurd cc
separator_kind (token.Mark m) h (inl e) = let same : m ≡ mark.Comma = cc in absurd cc
separator_kind (token.Mark m) h (inr e) = let same : m ≡ mark.CloseParen = cc in absurd cc
separator_kind kind h (inl e) = absurd cc
separator_kind kind h (inr e) = absurd cc

separator_ends : (r : List Token) → is_separator_at r ≡ false → EndsParameter r → ⊥
separator_ends [] h (inl e) = absurd cc
separator_ends [] h (inr e) = absurd cc
separator_ends (t ∷ more) h e = separator_kind t.kind h e

pub not_separated : {r : List Token} → is_separator_at r ≡ false → NoFront (Before EndsParameter) r
not_separated {r = r} h = record { never = λ after e. separator_ends r h e.1 }

pub before_leads : {After : List Token → Type 0} {r : List Token} → OnlyTo (Before After) r r
before_leads = record { same = λ after e. sym e.0 }

-- ---- the one word `void`

void_kind : (kind : TokenKind) → is_void_kind kind ≡ true → kind ≡ token.Word keyword.Void
void_kind (token.Word keyword.Void) h = refl
void_kind kind h = absurd cc

separator_sort : (kind : TokenKind) → is_separator_kind kind ≡ true → (kind_sort kind ≡ CommaMark) ⊎ (kind_sort kind ≡ ParenCloses)
separator_sort (token.Mark mark.Comma) h = inl refl
separator_sort (token.Mark mark.CloseParen) h = inr refl
separator_sort kind h = absurd cc

-- a list before a comma or `)` begins with no other sort
separated_not : (r : List Token) (k : _) → (first r ≡ CommaMark) ⊎ (first r ≡ ParenCloses) → CommaMark ≢ k → ParenCloses ≢ k → first r ≢ k
separated_not r k (inl e) p q h = p (sym e ∙ h)
separated_not r k (inr e) p q h = q (sym e ∙ h)

abbrev IsSeparated : List Token → Type 0
IsSeparated r = (first r ≡ CommaMark) ⊎ (first r ≡ ParenCloses)

no_more_specs : (t : Token) (a r : List Token) (words : _) → AreSpecs (t ∷ a) words → IsSeparated (a ++ r) → a ≡ []
no_more_specs t _ r _ (LastSpec h) s = refl
no_more_specs t _ r _ (MoreSpecs {tokens = a} {words = ws} h more) s = absurd (separated_not (a ++ r) TypeWord s (λ e. cc) (λ e. cc) (specs_first a r ws more))

no_stars_here : (a r : List Token) (n : ℕ) → AreStars a n → IsSeparated (a ++ r) → a ≡ []
no_stars_here _ r _ NoStar s = refl
no_stars_here _ r _ (MoreStars {t = t} {tokens = a} g more) s = absurd (separated_not (t ∷ a ++ r) StarMark s (λ e. cc) (λ e. cc) (star_first t (a ++ r) g))

no_name_here : (a r : List Token) (x : Option (List ℕ)) → DerivesName a x → IsSeparated (a ++ r) → a ≡ []
no_name_here a r None d s = d
no_name_here a r (Some name) (t, g, h) s = absurd (separated_not (a ++ r) AnyName s (λ e. cc) (λ e. cc) (ap (λ l. first (l ++ r)) g ∙ name_first t r name h))

no_array_here : (a r : List Token) (x : _) → DerivesArrayMark a x → IsSeparated (a ++ r) → a ≡ []
no_array_here a r None d s = d
no_array_here a r (Some x) d s = absurd (separated_not (a ++ r) BracketOpens s (λ e. cc) (λ e. cc) (array_first a r x d))

some_specs : (a : List Token) (words : _) → AreSpecs a words → (t : Token) × (more : List Token) × (a ≡ t ∷ more)
some_specs _ _ (LastSpec {t = t} h) = (t, [], refl)
some_specs _ _ (MoreSpecs {t = t} {tokens = a} h more) = (t, a, refl)

abbrev tail : List Token → List Token
tail [] = []
tail (t ∷ more) = more

void_alone_no : (depth : ℕ) (v u : Token) (more after : List Token) → is_void_kind v.kind ≡ true → is_separator_kind u.kind ≡ true → ParameterFront depth (v ∷ u ∷ more) after → ⊥
void_alone_no depth v u more after h k f =
    let d = f.derives in
    let x = f.tree in
    let (t, a, cut) = some_specs d.a x.specs.words d.specs.words in
    let is : v ∷ u ∷ more ≡ t ∷ (a ++ (d.b ++ (d.c ++ (d.d ++ after)))) = f.cut ∙ simp append_assoc at (ap (λ l. l ++ after) d.cut ∙ ap (λ l. (l ++ d.b ++ d.c ++ d.d) ++ after) cut) in
    let rest : a ++ (d.b ++ (d.c ++ (d.d ++ after))) ≡ u ∷ more = sym (ap tail is) in
    let s : IsSeparated (u ∷ more) = separator_sort u.kind k in
    let one = no_more_specs t a (d.b ++ (d.c ++ (d.d ++ after))) x.specs.words (subst (λ l. AreSpecs l x.specs.words) cut d.specs.words) (subst IsSeparated (sym rest) s) in
    let rest2 : d.b ++ (d.c ++ (d.d ++ after)) ≡ u ∷ more = sym (ap (λ l. l ++ (d.b ++ (d.c ++ (d.d ++ after)))) one) ∙ rest in
    let two = no_stars_here d.b (d.c ++ (d.d ++ after)) x.stars d.stars (subst IsSeparated (sym rest2) s) in
    let rest3 : d.c ++ (d.d ++ after) ≡ u ∷ more = sym (ap (λ l. l ++ (d.c ++ (d.d ++ after))) two) ∙ rest2 in
    let three = no_name_here d.c (d.d ++ after) x.name d.name (subst IsSeparated (sym rest3) s) in
    let rest4 : d.d ++ after ≡ u ∷ more = sym (ap (λ l. l ++ (d.d ++ after)) three) ∙ rest3 in
    let four = no_array_here d.d after x.array d.array (subst IsSeparated (sym rest4) s) in
    let whole : f.taken ≡ t ∷ [] = d.cut ∙ ap (λ l. l ++ d.b ++ d.c ++ d.d) (cut ∙ ap (λ l. t ∷ l) one) ∙ ap (λ l. (t ∷ []) ++ l ++ d.c ++ d.d) two ∙ ap (λ l. (t ∷ []) ++ l ++ d.d) three ∙ ap (λ l. (t ∷ []) ++ l) four in
    let same : v ≡ t = cc in
    d.not_void t whole (ap (λ (z : Token). z.kind) (sym same) ∙ void_kind v.kind h)

both_true : (a b : Bool) → (a && b) ≡ true → (a ≡ true) × (b ≡ true)
both_true true b h = (refl, h)
both_true false b h = absurd cc

void_word_no : (depth : ℕ) (b after : List Token) → is_void_word b ≡ true → ParameterFront depth b after → ⊥
void_word_no depth [] after h f = absurd cc
void_word_no depth (v ∷ []) after h f = absurd cc
void_word_no depth (v ∷ u ∷ more) after h f = let k = both_true (is_void_kind v.kind) (is_separator_kind u.kind) h in void_alone_no depth v u more after k.0 k.1 f

pub void_no_parameter : {depth : ℕ} {b : List Token} → is_void_word b ≡ true → NoFront (ParameterFront depth) b
void_no_parameter {depth = depth} {b = b} h = record { never = λ after f. void_word_no depth b after h f }

close_separates : (kind : TokenKind) → is_close_kind kind ≡ true → is_separator_kind kind ≡ true
close_separates (token.Mark mark.CloseParen) h = refl
close_separates kind h = absurd cc

alone_is_word : (b : List Token) → is_void_alone b ≡ true → is_void_word b ≡ true
alone_is_word [] h = absurd cc
alone_is_word (v ∷ []) h = absurd cc
alone_is_word (v ∷ u ∷ more) h = let k = both_true (is_void_kind v.kind) (is_close_kind u.kind) h in ap (λ x. x && is_separator_kind u.kind) k.0 ∙ close_separates u.kind k.1

void_cut : (depth : ℕ) (b taken after : List Token) (x : ParametersTree) → DerivesParameters taken x → b ≡ taken ++ after → mark_at after ≡ Some mark.CloseParen → depth + parameters_height x ≤ greatest_height → is_void_alone b ≡ true → after ≡ behind b
void_cut depth b taken after _ (VoidRule k) cut ends low h = sym (ap behind cut)
void_cut depth b taken after _ (ParametersRule {trees = xs} d) cut ends low h =
    let t = parameters_cut (depth + 1) b taken after xs d cut ends (omega (arith, low)) in
    absurd (void_word_no (depth + 1) b t.middle (alone_is_word b h) t.first)

pub void_leads : {depth : ℕ} {b e : List Token} → is_void_alone b ≡ true → e ≡ behind b → OnlyTo (ParametersFront depth) b e
void_leads {depth = depth} {b = b} h k = record { same = λ after f. void_cut depth b f.taken after f.tree f.derives f.cut f.follows f.low h ∙ sym k }

close_kind_here : (kind : TokenKind) → kind_mark kind ≡ Some mark.CloseParen → is_close_kind kind ≡ true
close_kind_here (token.Mark m) e = let same : m ≡ mark.CloseParen = cc in ap (λ n. is_close_kind (token.Mark n)) same
close_kind_here kind e = absurd cc

void_stands : (t : Token) (after : List Token) → IsKeyword keyword.Void t → mark_at after ≡ Some mark.CloseParen → is_void_alone (t ∷ after) ≡ true
void_stands t [] h e = absurd cc
void_stands t (u ∷ more) h e = ap (λ k. is_void_kind k && is_close_kind u.kind) h ∙ close_kind_here u.kind e

listed_cut : (depth : ℕ) (b taken after : List Token) (x : ParametersTree) → DerivesParameters taken x → b ≡ taken ++ after → mark_at after ≡ Some mark.CloseParen → depth + parameters_height x ≤ greatest_height → is_void_alone b ≡ false → ParameterListFront (depth + 1) b after
listed_cut depth b taken after _ (VoidRule {t = t} k) cut ends low h = let both : false ≡ true = sym h ∙ ap is_void_alone cut ∙ void_stands t after k ends in absurd cc
listed_cut depth b taken after _ (ParametersRule {trees = xs} d) cut ends low h = record { taken = taken; tree = xs; cut = cut; derives = d; follows = ends; low = omega (arith, low) }

pub parameters_ways : (depth : ℕ) (b : List Token) → is_void_alone b ≡ false → (after : List Token) → ParametersFront depth b after → ParameterListFront (depth + 1) b after
parameters_ways depth b h after f = listed_cut depth b f.taken after f.tree f.derives f.cut f.follows f.low h

pub parameters_too_high : {depth : ℕ} {b : List Token} → greatest_height ≤ depth + 0 → NoFront (ParametersFront depth) b
parameters_too_high h = record { never = λ after f. omega (arith, h, f.low) }
