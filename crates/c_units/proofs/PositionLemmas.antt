-- Where the tokens of externals leave off, and what is kept of them.
use Rattle.std.proofs.Common.{◌≡◌, ◌∙◌, ℕ, suc, Bool, true, false, if◌then◌else◌, List, [], ◌∷◌, ◌++◌, refl, sym, ap, append_assoc}
use Rattle.std.specs.Prelude.{◌&&◌}
use Rattle.c_tree.specs.c_syntax.declared.token.Token.{Token}
use Rattle.c_tree.specs.c_syntax.declared.token.TokenKind.{TokenKind}
use Rattle.c_tree.specs.c_syntax.declared.token.TokenKind.TheVariants.{Mark}
use Rattle.c_tree.specs.c_syntax.declared.token.Punct.TheVariants as mark
use Rattle.c_units.specs.Externs.{Position, Within, Braced, outside, inside, after_token, is_start, is_extern, some_follow, kept, extern_places, first_at}
use Rattle.c_units.proofs.CalmLemmas.{is_calm, IsCalm, AreCalm}

-- what is kept of tokens from a position on begins with these, and leaves off at another one
pub record IsCut (tokens : List Token) (q : Position) (all rest : List Token) : Type 0 where
  pub left : List Token
  pub is : all ≡ tokens ++ left
  pub then_kept : kept q left ≡ rest

-- these tokens lead from a position to another one, and none is dropped
pub record Leads (p : Position) (tokens : List Token) (q : Position) : Type 0 where
  pub on : (rest : List Token) → (kept p (tokens ++ rest) ≡ tokens ++ kept q rest) × (extern_places p (tokens ++ rest) ≡ extern_places q rest)
  pub back : (all rest : List Token) → kept p all ≡ tokens ++ rest → IsCut tokens q all rest

pub nothing : (p : Position) → Leads p [] p
nothing p = record { on = λ rest. (refl, refl); back = λ all rest e. record { left = all; is = refl; then_kept = e } }

pub kept_on : (p : Position) (t : Token) (rest : List Token) → (is_start p && (is_extern t.kind && some_follow rest)) ≡ false → kept p (t ∷ rest) ≡ t ∷ kept (after_token p t.kind) rest
kept_on p t rest later = ap (λ b. if b then kept (Within false) rest else t ∷ kept (after_token p t.kind) rest) later

pub places_on : (p : Position) (t : Token) (rest : List Token) → (is_start p && (is_extern t.kind && some_follow rest)) ≡ false → extern_places p (t ∷ rest) ≡ extern_places (after_token p t.kind) rest
places_on p t rest later = ap (λ b. if b then first_at rest ++ extern_places (Within false) rest else extern_places (after_token p t.kind) rest) later

pub same_head : (t u : Token) (ts us : List Token) → t ∷ ts ≡ u ∷ us → (t ≡ u) × (ts ≡ us)
same_head t u ts us e = (cc, cc)

-- a token that isn't at the start of an external
pub one : (p : Position) (t : Token) (q : Position) → is_start p ≡ false → after_token p t.kind ≡ q → Leads p (t ∷ []) q
one p t q later is = record { on = on; back = back }
  where
    not_dropped : (u : Token) (rest : List Token) → (is_start p && (is_extern u.kind && some_follow rest)) ≡ false
    not_dropped u rest = ap (λ b. b && (is_extern u.kind && some_follow rest)) later

    on : (rest : List Token) → (kept p (t ∷ rest) ≡ t ∷ kept q rest) × (extern_places p (t ∷ rest) ≡ extern_places q rest)
    on rest = (
      kept_on p t rest (not_dropped t rest) ∙ ap (λ x. t ∷ kept x rest) is,
      places_on p t rest (not_dropped t rest) ∙ ap (λ x. extern_places x rest) is,
    )

    back : (all rest : List Token) → kept p all ≡ t ∷ rest → IsCut (t ∷ []) q all rest
    back [] rest e = absurd cc
    back (u ∷ us) rest e =
        let both = same_head u t (kept (after_token p u.kind) us) rest (sym (kept_on p u us (not_dropped u us)) ∙ e) in
        record { left = us; is = ap (λ x. x ∷ us) both.0; then_kept = ap (λ x. kept x us) (sym (ap (λ (x : Token). after_token p x.kind) both.0 ∙ is)) ∙ both.1 }

pub join : (p q r : Position) (a b : List Token) → Leads p a q → Leads q b r → Leads p (a ++ b) r
join p q r a b g h = record {
  on = λ rest. (
    ap (kept p) (append_assoc a b rest) ∙ (g.on (b ++ rest)).0 ∙ ap (λ l. a ++ l) (h.on rest).0 ∙ sym (append_assoc a b (kept r rest)),
    ap (extern_places p) (append_assoc a b rest) ∙ (g.on (b ++ rest)).1 ∙ (h.on rest).1,
  );
  back = λ all rest e.
      let first = g.back all (b ++ rest) (e ∙ append_assoc a b rest) in
      let second = h.back first.left rest first.then_kept in
      record { left = second.left; is = first.is ∙ ap (λ l. a ++ l) second.is ∙ sym (append_assoc a b second.left); then_kept = second.then_kept };
}

pub then_one : (p q r : Position) (a : List Token) (t : Token) (b : List Token) → Leads p a q → (s : Position) → is_start q ≡ false → after_token q t.kind ≡ s → Leads s b r → Leads p (a ++ t ∷ b) r
then_one p q r a t b g s later is h = join p q r a (t ∷ b) g (join q s r (t ∷ []) b (one q t s later is) h)

-- ---- within braces

-- tokens that lead back to where they begin

abbrev pub Stays : List Token → Type 0
Stays tokens = (list : Bool) (depth : ℕ) → Leads (Braced list depth) tokens (Braced list depth)

pub stay_nothing : Stays []
stay_nothing list depth = nothing (Braced list depth)

pub stay_both : (a b : List Token) → Stays a → Stays b → Stays (a ++ b)
stay_both a b g h list depth = join (Braced list depth) (Braced list depth) (Braced list depth) a b (g list depth) (h list depth)

abbrev pub IsStill : TokenKind → Type 0
IsStill kind = (list : Bool) (depth : ℕ) → inside list depth kind ≡ Braced list depth

pub stay_one : (t : Token) (kind : TokenKind) → t.kind ≡ kind → IsStill kind → Stays (t ∷ [])
stay_one t kind is still list depth = one (Braced list depth) t (Braced list depth) refl (ap (inside list depth) is ∙ still list depth)

pub still : (kind : TokenKind) → is_calm kind ≡ true → IsStill kind
still (Mark mark.Semicolon) calm list depth = absurd cc
still (Mark mark.OpenBrace) calm list depth = absurd cc
still (Mark mark.CloseBrace) calm list depth = absurd cc
still kind calm list depth = refl

pub calm_stays : (tokens : List Token) → AreCalm tokens → Stays tokens
calm_stays [] are = stay_nothing
calm_stays (t ∷ ts) are = stay_both (t ∷ []) ts (stay_one t t.kind refl (still t.kind are.0)) (calm_stays ts are.1)

pub stay_braced : (t u : Token) (a : List Token) → t.kind ≡ Mark mark.OpenBrace → Stays a → u.kind ≡ Mark mark.CloseBrace → Stays (t ∷ a ++ u ∷ [])
stay_braced t u a opens h closes list depth =
    then_one (Braced list depth) (Braced list (suc depth)) (Braced list depth) (t ∷ a) u []
    (join (Braced list depth) (Braced list (suc depth)) (Braced list (suc depth)) (t ∷ []) a (one (Braced list depth) t (Braced list (suc depth)) refl (ap (inside list depth) opens)) (h list (suc depth)))
    (Braced list depth) refl (ap (inside list (suc depth)) closes) (nothing (Braced list depth))

-- ---- outside

-- tokens that leave off within an external where they begin within one
abbrev pub Passes : List Token → Type 0
Passes tokens = (assigned : Bool) → (after : Bool) × Leads (Within assigned) tokens (Within after)

pub pass_nothing : Passes []
pass_nothing assigned = (assigned, nothing (Within assigned))

pub pass_both : (a b : List Token) → Passes a → Passes b → Passes (a ++ b)
pass_both a b g h assigned =
    let first = g assigned in
    let second = h first.0 in
    (second.0, join (Within assigned) (Within first.0) (Within second.0) a b first.1 second.1)

passing : (kind : TokenKind) → is_calm kind ≡ true → (assigned : Bool) → (after : Bool) × (outside assigned kind ≡ Within after)
passing (Mark mark.Semicolon) calm assigned = absurd cc
passing (Mark mark.OpenBrace) calm assigned = absurd cc
passing (Mark mark.CloseBrace) calm assigned = absurd cc
passing (Mark mark.Assign) calm assigned = (true, refl)
passing kind calm assigned = (false, refl)

pub pass_one : (t : Token) → IsCalm t → Passes (t ∷ [])
pass_one t calm assigned = let to = passing t.kind calm assigned in (to.0, one (Within assigned) t (Within to.0) refl to.1)

pub calm_passes : (tokens : List Token) → AreCalm tokens → Passes tokens
calm_passes [] are = pass_nothing
calm_passes (t ∷ ts) are = pass_both (t ∷ []) ts (pass_one t are.0) (calm_passes ts are.1)

-- braces behind an assignment
pub pass_listed : (e t u : Token) (a : List Token) → e.kind ≡ Mark mark.Assign → t.kind ≡ Mark mark.OpenBrace → Stays a → u.kind ≡ Mark mark.CloseBrace → Passes (e ∷ t ∷ a ++ u ∷ [])
pass_listed e t u a assigns opens h closes assigned = (
  false,
  then_one (Within assigned) (Braced true 0) (Within false) (e ∷ t ∷ a) u []
      (join (Within assigned) (Within true) (Braced true 0) (e ∷ []) (t ∷ a) (one (Within assigned) e (Within true) refl (ap (outside assigned) assigns))
      (join (Within true) (Braced true 0) (Braced true 0) (t ∷ []) a (one (Within true) t (Braced true 0) refl (ap (outside true) opens)) (h true 0)))
      (Within false) refl (ap (inside true 0) closes) (nothing (Within false)),
)
