-- Lines that say the same.
use Rattle.std.proofs.Common.{◌≡◌, ℕ, ◌==◌, Bool, true, false, if◌then◌else◌, List, [], ◌∷◌, ◌++◌, reverse, refl, sym, ap, ◌∙◌, arith, append_assoc, append-nil}
use Rattle.std.specs.List.{find}
use Rattle.std.specs.Str.{bytes_eq, str_to_ascii_lowercase}
use Rattle.std.proofs.lemmas.List.{reverse-append}
use Rattle.std.proofs.lemmas.Bool.Decides.{nat_tests}
use Rattle.c25_isa.specs.Rows.{row}
use Rattle.c25_asm.specs.Cuts.{Lacks, AreBlank, is_blank, behind_blanks, before_blanks, trimmed, statement}
use Rattle.c25_asm.specs.Statements.{mnemonics, mnemonic_of}
use Rattle.c25_asm.proofs.CutLemmas.{before_at, before_none}

pub either_case : (one two : List ℕ) → str_to_ascii_lowercase one ≡ str_to_ascii_lowercase two → mnemonic_of one ≡ mnemonic_of two
either_case one two e = ap (λ t. find (λ m. bytes_eq t (str_to_ascii_lowercase (row m).name)) mnemonics) e

no_comment : (b : ℕ) → is_blank b ≡ true → (b == 59) ≡ false
no_comment b e = grind (arith, nat_tests)

blanks_lack : (blanks : List ℕ) → AreBlank blanks → Lacks (λ b. b == 59) blanks
blanks_lack [] h = tt {0}
blanks_lack (b ∷ bs) h = (no_comment b h.0, blanks_lack bs h.1)

lack_append : (xs ys : List ℕ) → Lacks (λ b. b == 59) xs → Lacks (λ b. b == 59) ys → Lacks (λ b. b == 59) (xs ++ ys)
lack_append [] ys h k = k
lack_append (x ∷ xs) ys h k = (h.0, lack_append xs ys h.1 k)

front_passed : (blanks text : List ℕ) → AreBlank blanks → behind_blanks (blanks ++ text) ≡ behind_blanks text
front_passed [] text h = refl
front_passed (b ∷ bs) text h = ap (λ t. if t then behind_blanks (bs ++ text) else b ∷ (bs ++ text)) h.0 ∙ front_passed bs text h.1

last_passed : (text : List ℕ) (b : ℕ) → is_blank b ≡ true → before_blanks (text ++ b ∷ []) ≡ before_blanks text
last_passed text b h =
    ap (λ t. reverse (behind_blanks t)) (reverse-append text (b ∷ []))
    ∙ ap (λ t. reverse (if t then behind_blanks (reverse text) else b ∷ reverse text)) h

back_passed : (text blanks : List ℕ) → AreBlank blanks → before_blanks (text ++ blanks) ≡ before_blanks text
back_passed text [] h = ap before_blanks (append-nil text)
back_passed text (b ∷ bs) h =
    ap before_blanks (sym (append_assoc text (b ∷ []) bs))
    ∙ back_passed (text ++ b ∷ []) bs h.1
    ∙ last_passed text b h.0

both_passed : (text blanks : List ℕ) → AreBlank blanks → trimmed (text ++ blanks) ≡ trimmed text
both_passed [] blanks h = ap (λ t. before_blanks (behind_blanks t)) (sym (append-nil blanks)) ∙ ap before_blanks (front_passed blanks [] h)
both_passed (c ∷ cs) blanks h = by (is_blank c) (both_passed cs blanks h)
  where
    by : (t : Bool) → trimmed (cs ++ blanks) ≡ trimmed cs
        → before_blanks (if t then behind_blanks (cs ++ blanks) else c ∷ (cs ++ blanks)) ≡ before_blanks (if t then behind_blanks cs else c ∷ cs)
    by true further = further
    by false further = back_passed (c ∷ cs) blanks h

-- blanks at both ends and a comment say nothing
pub says_the_same : (front text back comment : List ℕ) → AreBlank front → AreBlank back → Lacks (λ b. b == 59) text
    → statement (front ++ (text ++ (back ++ 59 ∷ comment))) ≡ statement text
says_the_same front text back comment blank behind none =
    let whole : front ++ (text ++ (back ++ 59 ∷ comment)) ≡ (front ++ (text ++ back)) ++ 59 ∷ comment =
    ap (λ t. front ++ t) (sym (append_assoc text back (59 ∷ comment))) ∙ sym (append_assoc front (text ++ back) (59 ∷ comment)) in
    let lacks : Lacks (λ b. b == 59) (front ++ (text ++ back)) =
    lack_append front (text ++ back) (blanks_lack front blank) (lack_append text back none (blanks_lack back behind)) in
    ap statement whole
    ∙ ap trimmed (before_at (λ b. b == 59) (front ++ (text ++ back)) 59 comment lacks refl)
    ∙ ap before_blanks (front_passed front (text ++ back) blank)
    ∙ both_passed text back behind
    ∙ ap trimmed (sym (before_none (λ b. b == 59) text none))
