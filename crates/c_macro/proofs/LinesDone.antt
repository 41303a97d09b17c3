-- The first line of a text and what follows it, by what was done with the line.
use Rattle.std.proofs.Common.{arith, ◌≡◌, ◌≢◌, ℕ, suc, ◌+◌, ◌<◌, ◌≤◌, ◌==◌, ◌&&◌, Bool, true, false, if◌then◌else◌, List, [], ◌∷◌, length, Option, Some, None, Result, Ok, Err, refl, sym, ap, ◌∙◌, subst, length-drop}
use Rattle.c_syntax.specs.declared.token.Token.{Token}
use Rattle.c_lexer.specs.declared.fault.LexFault.{LexFault}
use Rattle.c_macro.specs.declared.fault.MacroFault.{MacroFault}
use Rattle.c_macro.specs.declared.fault.MacroFault.TheVariants.{Lex}
use Rattle.c_macro.specs.declared.lines.LineSize.{LineSize}
use Rattle.c_macro.specs.Lines.{line_within, first_line, open_comment, longer, closed_line}
use Rattle.c_macro.specs.Macros.{Output}
use Rattle.c_macro.specs.Expands.{State, LineDoes, ComesTo, GoesOn, IsOpen, Stops, line_of, after_line}

-- ---- the size of a line

read_of : Option ℕ → ℕ
read_of None = 0
read_of (Some read) = read

either_bounded : (b : Bool) (x y : LineSize) (n : ℕ) → x.bytes ≤ n → y.bytes ≤ n → (if b then x else y).bytes ≤ n
either_bounded true x y n p q = p
either_bounded false x y n p q = q

within_bounded : (read : Option ℕ) (text : List ℕ) → (line_within read text).bytes ≤ read_of read + length text
unfolding read_of
within_bounded None [] = omega arith
within_bounded None (c ∷ []) = omega arith
within_bounded None (c ∷ d ∷ rest) =
    either_bounded (c == 10) (closed_line 1) (if (c == 47) && (d == 42) then line_within (Some 2) rest else longer 1 (line_within None (d ∷ rest))) (0 + length (c ∷ d ∷ rest))
    (omega arith)
    (either_bounded ((c == 47) && (d == 42)) (line_within (Some 2) rest) (longer 1 (line_within None (d ∷ rest))) (0 + length (c ∷ d ∷ rest))
    (omega (arith, within_bounded (Some 2) rest))
    (omega (arith, within_bounded None (d ∷ rest))))
within_bounded (Some read) [] = omega arith
within_bounded (Some read) (c ∷ []) = omega arith
within_bounded (Some read) (c ∷ d ∷ rest) =
    either_bounded ((c == 42) && (d == 47)) (longer (suc (suc read)) (line_within None rest)) (line_within (Some (suc read)) (d ∷ rest)) (read + length (c ∷ d ∷ rest))
    (omega (arith, within_bounded None rest))
    (omega (arith, within_bounded (Some (suc read)) (d ∷ rest)))

pub line_bounded : (text : List ℕ) → (first_line text).bytes ≤ length text
unfolding read_of
line_bounded text = omega (arith, within_bounded None text)

-- a line that isn't open has bytes
IsFilled : LineSize → Type 0
IsFilled line = line.is_open ≡ false → 0 < line.bytes

either_filled : (b : Bool) (x y : LineSize) → IsFilled x → IsFilled y → IsFilled (if b then x else y)
either_filled true x y p q = p
either_filled false x y p q = q

comment_filled : (read : ℕ) (text : List ℕ) → IsFilled (line_within (Some read) text)
unfolding IsFilled
comment_filled read [] = λ e. absurd cc
comment_filled read (c ∷ []) = λ e. absurd cc
comment_filled read (c ∷ d ∷ rest) =
    either_filled ((c == 42) && (d == 47)) (longer (suc (suc read)) (line_within None rest)) (line_within (Some (suc read)) (d ∷ rest))
    (λ e. omega arith) (comment_filled (suc read) (d ∷ rest))

pub line_filled : (text : List ℕ) → text ≢ [] → (first_line text).is_open ≡ false → 0 < (first_line text).bytes
unfolding IsFilled
line_filled [] some e = absurd (some refl)
line_filled (c ∷ []) some e = omega arith
line_filled (c ∷ d ∷ rest) some e =
    either_filled (c == 10) (closed_line 1) (if (c == 47) && (d == 42) then line_within (Some 2) rest else longer 1 (line_within None (d ∷ rest)))
    (λ e. omega arith)
    (either_filled ((c == 47) && (d == 42)) (line_within (Some 2) rest) (longer 1 (line_within None (d ∷ rest))) (comment_filled 2 rest) (λ e. omega arith))
    e

-- ---- what was done

module _ (s : State) (out : Output) (at : ℕ) (text : List ℕ) (some : text ≢ []) (line : List ℕ) (front : line ≡ line_of text) (comment : Option LexFault)
    (is : comment ≡ open_comment at (first_line text)) where
  pub line_fault : (fault : MacroFault) → LineDoes s out at line comment (Err fault) → ComesTo s out at text (Err fault)
  line_fault fault does =
      Stops some fault (subst (λ l. LineDoes s out at l (open_comment at (first_line text)) (Err fault)) front (subst (λ o. LineDoes s out at line o (Err fault)) is does))

  pub line_open : (fault : LexFault) (next : State) (more : Output) → comment ≡ Some fault → LineDoes s out at line comment (Ok (next, more)) → ComesTo s out at text (Err (Lex fault))
  line_open fault next more is_open does =
      IsOpen fault (sym is ∙ is_open) next more (subst (λ l. LineDoes s out at l (Some fault) (Ok (next, more))) front (subst (λ o. LineDoes s out at line o (Ok (next, more))) is_open does))

  pub line_goes : (next : State) (more : Output) (rest : List ℕ) (place : ℕ) (result : Result (List Token) MacroFault) → comment ≡ None
      → LineDoes s out at line comment (Ok (next, more)) → rest ≡ after_line text → place + length rest ≡ at + length text
      → ComesTo next more place rest result → ComesTo s out at text result
  line_goes next more rest place result closed does back placed comes =
      let here : place ≡ at + (first_line text).bytes = omega (arith, placed, ap length back, length-drop (first_line text).bytes text, line_bounded text) in
      GoesOn some (sym is ∙ closed) next more (subst (λ l. LineDoes s out at l None (Ok (next, more))) front (subst (λ o. LineDoes s out at line o (Ok (next, more))) closed does))
      (subst (λ p. ComesTo next more p (after_line text) result) here (subst (λ r. ComesTo next more place r result) back comes))

pub open_none : (at : ℕ) (size : LineSize) → open_comment at size ≡ None → size.is_open ≡ false
open_none at size e = by size.is_open refl
  where
    by : (b : Bool) → size.is_open ≡ b → size.is_open ≡ false
    by false is = is
    by true is = absurd (let k : open_comment at (record { bytes = size.bytes; is_open = true }) ≡ None = subst (λ b. open_comment at (record { bytes = size.bytes; is_open = b }) ≡ None) is e in cc)
