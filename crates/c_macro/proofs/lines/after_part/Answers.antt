use Rattle.std.proofs.Common.{true, ◌∙◌, ◌≡◌, ◌∷◌, subst, sym, List, ℕ, MatchOption, Option, Some, None}
use Rattle.std.specs.Borrow.{Bor}
use Rattle.c_syntax.specs.Lexes.{HasNoCommentEnd}
use Rattle.c_spellings.specs.Front.{IsBehindCommentEnd}
use Rattle.c_macro.specs.Lines as lines
use Rattle.c_macro.specs.Views.{IsAfterPart}
use Rattle.c_macro.proofs.LineLemmas.{open_part, comment_part, byte_part}
use Rattle.c_macro.proofs.lines.after_part.Goals as goal

after_comment : (text inside : List ℕ) (found : Option (Bor (List ℕ))) → text ≡ 47 ∷ 42 ∷ inside
    → MatchOption found (HasNoCommentEnd inside) (λ rest. IsBehindCommentEnd inside rest.now)
    → MatchOption found (lines.first_line text ≡ record { bytes = 0; is_open = true }) (λ rest. IsAfterPart text rest.now)
after_comment text inside None e none = open_part text inside e none
after_comment text inside (Some rest) e end = comment_part text inside rest.now e end

pub returns-in-Some : goal.returns-in-Some
returns-in-Some c = after_comment c.args.text.now c.in-Some.inside.now c.behind_end.result c.in-Some.ensures c.behind_end.ensures

pub returns-in_ok-rest-in-None : goal.returns-in_ok-rest-in-None
returns-in_ok-rest-in-None c =
    let e = c.in_ok-rest-in-None.ensures.cases.0 in
    subst (λ t. IsAfterPart t c.in_ok-rest-in-None.rest.now) (sym e)
    (byte_part c.in_ok-rest-in-None.field-0-0.now c.in_ok-rest-in-None.rest.now (λ inside k. c.in-None.ensures inside (e ∙ k)))
