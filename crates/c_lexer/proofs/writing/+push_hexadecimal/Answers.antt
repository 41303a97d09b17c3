use Rattle.std.proofs.Common.{◌≡◌, ◌∙◌, ◌++◌, ◌∷◌, ◌-◌, ◌/◌, ◌%◌, ◌<◌, [], ℕ, arith, ap, sym, append_assoc}
use Rattle.std.specs.Prelude.{Vec}
use Rattle.std.specs.declared.alloc.Global.{Global}
use Rattle.text_base.specs.Hex.{hex_digit}
use Rattle.c_lexer.specs.TokenText.{hexadecimal}
use Rattle.c_lexer.proofs.TokenTexts.{hexadecimal_one, hexadecimal_more}
use Rattle.c_lexer.proofs.writing.+push_hexadecimal.Goals as goal
use Rattle.c_lexer.proofs.writing.+push_hexadecimal.Goals.{then-number-ge16+in_ok-push_hexadecimal, else-number-ge16}

pub returns : goal.returns
returns t c =
    let some : 0 < c.args.most = omega (arith, c.if-most-eq0.false) in
    let old = c.args.text.now.items in
    let n = c.args.number in
    let pushed : c.push.new.self.items ≡ c.if-number-ge16.text.items ++ hex_digit (n % 16) ∷ [] =
    ◌∙◌ {b = c.if-number-ge16.text.items ++ c.digit_of.result ∷ []} c.in_ok-push.ensures.items (ap (λ d. c.if-number-ge16.text.items ++ d ∷ []) c.digit_of.ensures) in
    elim c.if-number-ge16.branch [
      | then-number-ge16+in_ok-push_hexadecimal w ↦
          pushed
          ∙ ap (λ (v : Vec ℕ Global). v.items ++ hex_digit (n % 16) ∷ []) w.text-is
          ∙ ap (λ l. l ++ hex_digit (n % 16) ∷ []) w.in_ok-push_hexadecimal.ensures
          ∙ append_assoc old (hexadecimal (c.args.most - 1) (n / 16)) (hex_digit (n % 16) ∷ [])
          ∙ ap (λ l. old ++ l) (sym (hexadecimal_more c.args.most n some (omega (arith, w.if-number-ge16.true))))
      | else-number-ge16 w ↦
          let small : n < 16 = omega (arith, w.if-number-ge16.false) in
          let same : n % 16 ≡ n = omega (arith, small) in
          pushed
          ∙ ap (λ (v : Vec ℕ Global). v.items ++ hex_digit (n % 16) ∷ []) w.text-is
          ∙ ap (λ k. old ++ hex_digit k ∷ []) same
          ∙ ap (λ l. old ++ l) (sym (hexadecimal_one c.args.most n some small))
    ]
