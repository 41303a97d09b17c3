-- Each `extern` in front of an external is dropped, and no other is.
use Rattle.std.proofs.Common.{◌≡◌, ◌∙◌, ℕ, Bool, true, false, if◌then◌else◌, List, [], ◌∷◌, ◌++◌, refl, sym, ap, subst, append-nil}
use Rattle.std.specs.Prelude.{◌&&◌}
use Rattle.c_tree.specs.c_syntax.declared.token.Token.{Token}
use Rattle.c_tree.specs.c_syntax.declared.token.TokenKind.{TokenKind}
use Rattle.c_tree.specs.c_syntax.declared.token.TokenKind.TheVariants.{Word}
use Rattle.c_tree.specs.c_syntax.declared.token.Keyword.TheVariants as keyword
use Rattle.c_tree.specs.c_syntax.Grammar.{IsKeyword, place_of}
use Rattle.c_tree.specs.c_syntax.SyntaxTree.{ExternalTree, UnitTree}
use Rattle.c_tree.specs.c_syntax.Derives.{DerivesExternal, DerivesUnit, LastExternal, MoreExternals}
use Rattle.c_units.specs.Externs.{AtStart, Within, outside, is_extern, some_follow, kept, without_externs, extern_places, first_at}
use Rattle.c_units.specs.Prefixes.{Prefixed, NoExternal, Bare, AfterExtern}
use Rattle.c_units.proofs.PositionLemmas.{Leads, one, join, kept_on, places_on, same_head}
use Rattle.c_units.proofs.ExternalLemmas.{IsExternal, external_is, spec_calm}

module _ (e : List Token) (x : IsExternal e) where
  within : Leads (Within false) e AtStart
  within = subst (λ l. Leads (Within false) l AtStart) (sym x.is) (join (Within false) (Within false) AtStart (x.first ∷ []) x.following (one (Within false) x.first (Within false) refl (ap (outside false) x.word)) x.leads)

  no_extern : (rest : List Token) → (is_extern x.first.kind && some_follow rest) ≡ false
  no_extern rest = ap (λ b. b && some_follow rest) (ap is_extern x.word ∙ spec_calm x.first_word)

  kept_first : (rest : List Token) → kept AtStart (x.first ∷ rest) ≡ x.first ∷ kept (Within false) rest
  kept_first rest = kept_on AtStart x.first rest (no_extern rest) ∙ ap (λ p. x.first ∷ kept p rest) (ap (outside false) x.word)

  -- an external without `extern`
  bare_kept : (rest : List Token) → kept AtStart (e ++ rest) ≡ e ++ kept AtStart rest
  bare_kept rest = subst (λ l. kept AtStart (l ++ rest) ≡ l ++ kept AtStart rest) (sym x.is) (kept_first (x.following ++ rest) ∙ ap (λ l. x.first ∷ l) (x.leads.on rest).0)

  bare_places : (rest : List Token) → extern_places AtStart (e ++ rest) ≡ extern_places AtStart rest
  bare_places rest =
      subst (λ l. extern_places AtStart (l ++ rest) ≡ extern_places AtStart rest) (sym x.is)
      (places_on AtStart x.first (x.following ++ rest) (no_extern (x.following ++ rest)) ∙ ap (λ p. extern_places p (x.following ++ rest)) (ap (outside false) x.word) ∙ (x.leads.on rest).1)

  -- and one with it
  module _ (t : Token) (is : IsKeyword keyword.Extern t) where
    followed : (rest : List Token) → (is_extern t.kind && some_follow (e ++ rest)) ≡ true
    followed rest = subst (λ l. (is_extern t.kind && some_follow (l ++ rest)) ≡ true) (sym x.is) (ap (λ b. b && true) (ap is_extern is))

    dropped_kept : (rest : List Token) → kept AtStart (t ∷ e ++ rest) ≡ e ++ kept AtStart rest
    dropped_kept rest = ap (λ b. if b then kept (Within false) (e ++ rest) else t ∷ kept (outside false t.kind) (e ++ rest)) (followed rest) ∙ (within.on rest).0

    first_place : (rest : List Token) (places : List ℕ) → first_at (e ++ rest) ++ places ≡ place_of e ∷ places
    first_place rest places = subst (λ l. first_at (l ++ rest) ++ places ≡ place_of l ∷ places) (sym x.is) refl

    dropped_places : (rest : List Token) → extern_places AtStart (t ∷ e ++ rest) ≡ place_of e ∷ extern_places AtStart rest
    dropped_places rest =
        ap (λ b. if b then first_at (e ++ rest) ++ extern_places (Within false) (e ++ rest) else extern_places (outside false t.kind) (e ++ rest)) (followed rest)
        ∙ ap (λ l. first_at (e ++ rest) ++ l) (within.on rest).1
        ∙ first_place rest (extern_places AtStart rest)

pub dropped : (all left : List Token) (places : List ℕ) → Prefixed all left places → (without_externs all ≡ left) × (extern_places AtStart all ≡ places)
dropped _ _ _ NoExternal = (refl, refl)
dropped _ _ _ (Bare e tree {all = all} {left = left} {places = places} h more) =
    let x = external_is e tree h in
    let rest = dropped all left places more in
    (bare_kept e x all ∙ ap (λ l. e ++ l) rest.0, bare_places e x all ∙ rest.1)
dropped _ _ _ (AfterExtern t e tree {all = all} {left = left} {places = places} is h more) =
    let x = external_is e tree h in
    let rest = dropped all left places more in
    (dropped_kept e x t is all ∙ ap (λ l. e ++ l) rest.0, dropped_places e x t is all ∙ ap (λ l. place_of e ∷ l) rest.1)

-- ---- back

data Split (e all rest : List Token) : Type 0 where
  WithoutExtern : (more : List Token) → all ≡ e ++ more → kept AtStart more ≡ rest → Split e all rest
  WithExtern : (t : Token) (more : List Token) → IsKeyword keyword.Extern t → all ≡ t ∷ e ++ more → kept AtStart more ≡ rest → Split e all rest

extern_is : (kind : TokenKind) → is_extern kind ≡ true → kind ≡ Word keyword.Extern
extern_is (Word keyword.Extern) is = refl
extern_is kind is = absurd cc

first_true : (a b : Bool) → (a && b) ≡ true → a ≡ true
first_true true b e = refl
first_true false b e = absurd cc

split_first : (e : List Token) → IsExternal e → (all rest : List Token) → kept AtStart all ≡ e ++ rest → Split e all rest
split_first e x [] rest is = absurd (let none : [] ≡ x.first ∷ x.following ++ rest = is ∙ ap (λ l. l ++ rest) x.is in cc)
split_first e x (t ∷ ts) rest is = by (is_extern t.kind && some_follow ts) refl is
  where
    by : (b : Bool) → (is_extern t.kind && some_follow ts) ≡ b → (if b then kept (Within false) ts else t ∷ kept (outside false t.kind) ts) ≡ e ++ rest → Split e (t ∷ ts) rest
    by true extern same =
        let cut = (within e x).back ts rest same in
        WithExtern t cut.left (extern_is t.kind (first_true (is_extern t.kind) (some_follow ts) extern)) (ap (λ l. t ∷ l) cut.is) cut.then_kept
    by false extern same =
        let both = same_head t x.first (kept (outside false t.kind) ts) (x.following ++ rest) (same ∙ ap (λ l. l ++ rest) x.is) in
        let next : outside false t.kind ≡ Within false = ap (λ (u : Token). outside false u.kind) both.0 ∙ ap (outside false) x.word in
        let cut = x.leads.back ts rest (ap (λ p. kept p ts) (sym next) ∙ both.1) in
        WithoutExtern cut.left ((λ i. both.0 i ∷ cut.is i) ∙ ap (λ l. l ++ cut.left) (sym x.is)) cut.then_kept

none_kept : (all : List Token) → kept AtStart all ≡ [] → all ≡ []
none_kept [] is = refl
none_kept (t ∷ []) is = absurd (by (is_extern t.kind) is)
  where
    by : (b : Bool) → (if b && false then kept (Within false) [] else t ∷ kept (outside false t.kind) []) ≡ [] → ⊥
    by true e = cc
    by false e = cc
none_kept (t ∷ u ∷ us) is = absurd (by (is_extern t.kind) is)
  where
    by : (b : Bool) → (if b && true then u ∷ kept (outside false u.kind) us else t ∷ kept (outside false t.kind) (u ∷ us)) ≡ [] → ⊥
    by true e = cc
    by false e = cc

prefixed_more : (e all rest : List Token) (tree : ExternalTree) → DerivesExternal e tree → Split e all rest → ((more : List Token) → kept AtStart more ≡ rest → Prefixed more rest (extern_places AtStart more))
    → Prefixed all (e ++ rest) (extern_places AtStart all)
prefixed_more e all rest tree h (WithoutExtern more is k) then_more =
    subst (λ l. Prefixed l (e ++ rest) (extern_places AtStart l)) (sym is)
    (subst (λ places. Prefixed (e ++ more) (e ++ rest) places) (sym (bare_places e (external_is e tree h) more)) (Bare e tree h (then_more more k)))
prefixed_more e all rest tree h (WithExtern t more extern is k) then_more =
    subst (λ l. Prefixed l (e ++ rest) (extern_places AtStart l)) (sym is)
    (subst (λ places. Prefixed (t ∷ e ++ more) (e ++ rest) places) (sym (dropped_places e (external_is e tree h) t extern more)) (AfterExtern t e tree extern h (then_more more k)))

pub only_these : (left : List Token) (unit : UnitTree) → DerivesUnit left unit → (all : List Token) → kept AtStart all ≡ left → Prefixed all left (extern_places AtStart all)
only_these left _ (LastExternal {tree = tree} h) all is =
    subst (λ l. Prefixed all l (extern_places AtStart all)) (append-nil left)
    (prefixed_more left all [] tree h (split_first left (external_is left tree h) all [] (is ∙ sym (append-nil left))) (λ more k. subst (λ l. Prefixed l [] (extern_places AtStart l)) (sym (none_kept more k)) NoExternal))
only_these left _ (MoreExternals a b {tree = tree} {trees = unit} cut h more) all is =
    subst (λ l. Prefixed all l (extern_places AtStart all)) (sym cut)
    (prefixed_more a all b tree h (split_first a (external_is a tree h) all b (is ∙ cut)) (λ rest k. only_these b unit more rest k))
