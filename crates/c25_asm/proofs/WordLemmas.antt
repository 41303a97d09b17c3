-- The words of lines, one line behind another.
use Rattle.std.proofs.Common.{◌≡◌, ℕ, ◌+◌, ◌<◌, ◌≤◌, List, [], ◌∷◌, ◌++◌, length, refl, sym, ap, ◌∙◌, arith, append_assoc, append-nil}
use Rattle.std.specs.Prelude.{Result, Ok, Err, if◌then◌else◌}
use Rattle.std.specs.Str.Lines.{lines}
use Rattle.std.proofs.Math.Path.{fun_ext}
use Rattle.std.proofs.lemmas.Bool.{lt-ltb, le-ltb}
use Rattle.c25_asm.specs.declared.fault.AsmFault.{AsmFault}
use Rattle.c25_asm.specs.declared.fault.AsmFault.TheVariants as faults
use Rattle.c25_asm.specs.declared.statement.LineFault.{LineFault}
use Rattle.c25_asm.specs.declared.statement.LineWords.{LineWords}
use Rattle.c25_asm.specs.Names.{Labels}
use Rattle.c25_asm.specs.Statements.{line_words}
use Rattle.c25_asm.specs.AssemblerText.{labels_of, words_list, fault_at, before_words, line_before, words_from, limited, assembled}

before_both : (first second : List ℕ) (more : Result (List ℕ) AsmFault) → before_words (first ++ second) more ≡ before_words first (before_words second more)
before_both first second (Ok ws) = ap Ok (append_assoc first second ws)
before_both first second (Err fault) = refl

-- the words of the lines so far stand before those of the others
pub record WordsSoFar (labels : Labels) (text : List ℕ) (words : List ℕ) (number : ℕ) (rest : List ℕ) : Type 0 where
  pub reads : before_words words (words_from labels number (lines rest)) ≡ words_from labels 1 (lines text)
  pub few : number + length rest ≤ length text + 1

before_none : (more : Result (List ℕ) AsmFault) → before_words [] more ≡ more
before_none (Ok ws) = refl
before_none (Err fault) = refl

pub none_so_far : (labels : Labels) (text : List ℕ) → WordsSoFar labels text [] 1 text
none_so_far labels text = record { reads = before_none (words_from labels 1 (lines text)); few = omega arith }

pub line_more : (labels : Labels) (text words new rest line behind : List ℕ) (number : ℕ) (found : LineWords) → WordsSoFar labels text words number rest
    → lines rest ≡ line ∷ lines behind → length behind < length rest → line_words labels number line ≡ Ok found → new ≡ words ++ words_list found
    → WordsSoFar labels text new (number + 1) behind
line_more labels text words new rest line behind number found so_far cut shorter reads is = record {
  reads =
      ap (λ ws. before_words ws (words_from labels (number + 1) (lines behind))) is
      ∙ before_both words (words_list found) (words_from labels (number + 1) (lines behind))
      ∙ ap (λ r. before_words words (line_before number r (words_from labels (number + 1) (lines behind)))) (sym reads)
      ∙ ap (λ ls. before_words words (words_from labels number ls)) (sym cut)
      ∙ so_far.reads;
  few = omega (arith, so_far.few, shorter);
}

pub line_told : (labels : Labels) (text words rest line behind : List ℕ) (number : ℕ) (told : LineFault) → WordsSoFar labels text words number rest
    → lines rest ≡ line ∷ lines behind → line_words labels number line ≡ Err told → words_from labels 1 (lines text) ≡ Err (fault_at number told)
line_told labels text words rest line behind number told so_far cut fault =
    sym so_far.reads
    ∙ ap (λ ls. before_words words (words_from labels number ls)) cut
    ∙ ap (λ r. before_words words (line_before number r (words_from labels (number + 1) (lines behind)))) fault

pub all_read : (labels : Labels) (text words rest : List ℕ) (number : ℕ) → WordsSoFar labels text words number rest → rest ≡ [] → words_from labels 1 (lines text) ≡ Ok words
all_read labels text words rest number so_far none =
    sym so_far.reads
    ∙ ap (λ r. before_words words (words_from labels number (lines r))) none
    ∙ ap Ok (append-nil words)

-- ---- the whole text

module _ (text : List ℕ) (labels : Labels) (same : (name : List ℕ) → labels name ≡ labels_of text name) where
  whole : (r : Result (List ℕ) AsmFault) → words_from labels 1 (lines text) ≡ r → assembled text ≡ limited r
  whole r is = ap (λ l. limited (words_from l 1 (lines text))) (sym (fun_ext same)) ∙ ap limited is

  pub assembled_words : (words : List ℕ) → words_from labels 1 (lines text) ≡ Ok words → length words ≤ 65536 → assembled text ≡ Ok words
  assembled_words words is few = whole (Ok words) is ∙ ap (λ t. if t then Err (faults.TooLong (length words)) else Ok words) (le-ltb 65536 (length words) few)

  pub assembled_long : (words : List ℕ) → words_from labels 1 (lines text) ≡ Ok words → 65536 < length words → assembled text ≡ Err (faults.TooLong (length words))
  assembled_long words is long = whole (Ok words) is ∙ ap (λ t. if t then Err (faults.TooLong (length words)) else Ok words) (lt-ltb 65536 (length words) long)

  pub assembled_fault : (fault : AsmFault) → words_from labels 1 (lines text) ≡ Err fault → assembled text ≡ Err fault
  assembled_fault fault is = whole (Err fault) is
