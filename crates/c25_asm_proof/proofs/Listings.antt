-- Listings are read as the words that they list.
use Rattle.std.proofs.Common.{◌≡◌, ℕ, ◌+◌, ◌-◌, ◌≤◌, ◌==◌, false, List, [], ◌∷◌, ◌++◌, length, take, map, Option, Some, None, refl, sym, ap, subst, ◌∙◌, append_assoc, inl, inr, slice_index}
use Rattle.std.specs.Prelude.{◌⊎◌, codes, if◌then◌else◌, Ok, Err}
use Rattle.std.specs.List.{AllByRecursion, flat_map}
use Rattle.std.specs.Str.Lines.{lines, strip_carriage_return}
use Rattle.std.proofs.Math.Seq.{get_or-append_seam}
use Rattle.std.proofs.lemmas.Bool.{le-ltb}
use Rattle.c25_isa.specs.declared.mnemonic.Mnemonic.{Mnemonic}
use Rattle.c25_isa.specs.declared.mnemonic.Mnemonic.TheVariants as mnemonic
use Rattle.c25_isa.specs.declared.mnemonic.Form.TheVariants as form
use Rattle.c25_isa.specs.declared.fields.Fields.{Fields}
use Rattle.c25_isa.specs.declared.fields.Fields.TheVariants as fields
use Rattle.c25_isa.specs.Rows.{row, row_of, fields_of}
use Rattle.c25_isa.specs.Table.{FitsForm, with_second, first_word, second_word}
use Rattle.c25_image.specs.ImageReading.{AreWords}
use Rattle.c25_image.specs.Lines.{with_feed, lines_text}
use Rattle.c25_dis.specs.declared.line.Line.{Line}
use Rattle.c25_dis.specs.declared.line.Line.TheVariants as line
use Rattle.c25_dis.specs.Operands.{parts_text, parts_of}
use Rattle.c25_dis.specs.Listing.{fixed_text, line_text, lines_of, listing_text, LineFits}
use Rattle.c25_dis.specs.Listing as dis
use Rattle.c25_dis.proofs.Words.{words_of_lines, lines_fit}
use Rattle.c25_asm.specs.declared.fault.AsmFault.TheVariants as faults
use Rattle.c25_asm.specs.declared.statement.LineWords.{LineWords}
use Rattle.c25_asm.specs.declared.statement.LineWords.TheVariants.{One}
use Rattle.c25_asm.specs.Names.{Labels}
use Rattle.c25_asm.specs.Statements.{words_with, row_words, line_words, has_fixed_operand}
use Rattle.c25_asm.specs.AssemblerText.{words_list, before_words, line_before, words_from, limited, labels_of, assembled}
use Rattle.c25_asm.proofs.CutLemmas.{before_cut, behind_cut}
use Rattle.c25_asm.proofs.LineLemmas.{lines_front}
use Rattle.c25_asm_proof.proofs.Plain.{is_calm, EndsPlain, all_lack, no_feed, no_return}
use Rattle.c25_asm_proof.proofs.Rows.{spm_or_none}
use Rattle.c25_asm_proof.proofs.Statements.{IsStatement, length_push, instruction_read, data_read}

-- a line has these words, wherever it stands
pub record IsLine (text : List ℕ) (words : LineWords) : Type 0 where
  pub statement : IsStatement text
  pub reads : (labels : Labels) (number : ℕ) → line_words labels number text ≡ Ok words

spm_line : (f : Fields) → FitsForm form.NoOperand f → IsLine (codes "SPM" ++ (codes " 0" ++ parts_text (parts_of f))) (row_words mnemonic.Spm f)
spm_line fields.NoOperand h = record {
  statement = record {
    calm = refl;
    begins = record { first = 83; rest = codes "PM 0"; is = refl; plain = refl };
    ends = record { front = codes "SPM "; last = 48; is = refl; plain = refl };
  };
  reads = λ labels number. refl;
}
spm_line f h = absurd h

row_line : (m : Mnemonic) (f : Fields) → FitsForm (row m).form f → IsLine ((row m).name ++ (fixed_text m ++ parts_text (parts_of f))) (row_words m f)
row_line m f h = by (spm_or_none m)
  where
    by : (m ≡ mnemonic.Spm) ⊎ ((has_fixed_operand m ≡ false) × (fixed_text m ≡ [])) → IsLine ((row m).name ++ (fixed_text m ++ parts_text (parts_of f))) (row_words m f)
    by (inl e) = subst (λ k. FitsForm (row k).form f → IsLine ((row k).name ++ (fixed_text k ++ parts_text (parts_of f))) (row_words k f)) (sym e) (spm_line f) h
    by (inr n) =
        subst (λ t. IsLine ((row m).name ++ (t ++ parts_text (parts_of f))) (row_words m f)) (sym n.1)
        (record {
          statement = (instruction_read (λ name. None) 0 m f h n.0).0;
          reads = λ labels number. (instruction_read labels number m f h n.0).1;
        })

words_same : (first : ℕ) (second : Option ℕ) → words_list (words_with first second) ≡ with_second first second
words_same first None = refl
words_same first (Some second) = refl

-- the words that a line of a listing stands for
line_reads : (l : Line) → LineFits l → AreWords (dis.line_words l) → (words : LineWords) × (IsLine (line_text l) words × (words_list words ≡ dis.line_words l))
line_reads (line.Instruction i) h small = (row_words (row_of i) (fields_of i), (row_line (row_of i) (fields_of i) h, words_same (first_word i) (second_word i)))
line_reads (line.Data w) h small =
    (One w, (record { statement = (data_read (λ name. None) 0 w small.0).0; reads = λ labels number. (data_read labels number w small.0).1 }, refl))

front_words : (xs ys : List ℕ) → AreWords (xs ++ ys) → AreWords xs
front_words [] ys h = tt {0}
front_words (x ∷ xs) ys h = (h.0, front_words xs ys h.1)

back_words : (xs ys : List ℕ) → AreWords (xs ++ ys) → AreWords ys
back_words [] ys h = h
back_words (x ∷ xs) ys h = back_words xs ys h.1

lines_read : (labels : Labels) (number : ℕ) (ls : List Line) → AllByRecursion LineFits ls → AreWords (flat_map dis.line_words ls)
    → words_from labels number (map line_text ls) ≡ Ok (flat_map dis.line_words ls)
lines_read labels number [] fits small = refl
lines_read labels number (l ∷ ls) fits small =
    let more : List ℕ = flat_map dis.line_words ls in
    let r = line_reads l fits.0 (front_words (dis.line_words l) more small) in
    ap (λ w. line_before number w (words_from labels (number + 1) (map line_text ls))) (r.1.0.reads labels number)
    ∙ ap (before_words (words_list r.0)) (lines_read labels (number + 1) ls fits.1 (back_words (dis.line_words l) more small))
    ∙ ap (λ ws. Ok (ws ++ more)) r.1.1

-- ---- lines one behind another

no_strip : (text : List ℕ) → EndsPlain text → text ≡ strip_carriage_return text
no_strip text e =
    let last : slice_index text (length text - 1) ≡ e.last =
    ap (λ t. slice_index t (length t - 1)) e.is ∙ ap (slice_index (e.front ++ e.last ∷ [])) (length_push e.front e.last) ∙ get_or-append_seam e.front e.last [] 0 in
    sym (ap (λ c. if c == 13 then take (length text - 1) text else text) last
    ∙ ap (λ t. if t then take (length text - 1) text else text) (no_return e.last e.plain))

line_first : (text rest : List ℕ) → IsStatement text → lines (with_feed text ++ rest) ≡ text ∷ lines rest
line_first text rest s =
    let is : with_feed text ++ rest ≡ text ++ 10 ∷ rest = append_assoc text (10 ∷ []) rest in
    let lacks = all_lack is_calm (λ b. b == 10) no_feed text s.calm in
    lines_front (with_feed text ++ rest) text text rest
    (before_cut (λ b. b == 10) (with_feed text ++ rest) text 10 rest lacks refl is)
    (behind_cut (λ b. b == 10) (with_feed text ++ rest) text 10 rest lacks refl is)
    (no_strip text s.ends)

lines_whole : (ls : List Line) → AllByRecursion LineFits ls → AreWords (flat_map dis.line_words ls) → lines (lines_text (map line_text ls)) ≡ map line_text ls
lines_whole [] fits small = refl
lines_whole (l ∷ ls) fits small =
    let more : List ℕ = flat_map dis.line_words ls in
    let r = line_reads l fits.0 (front_words (dis.line_words l) more small) in
    line_first (line_text l) (lines_text (map line_text ls)) r.1.0.statement
    ∙ ap (λ t. line_text l ∷ t) (lines_whole ls fits.1 (back_words (dis.line_words l) more small))

pub listing_read : (words : List ℕ) → AreWords words → length words ≤ 65536 → assembled (listing_text words) ≡ Ok words
listing_read words all few =
    let whole = words_of_lines words all in
    let fits = lines_fit words all in
    let small : AreWords (flat_map dis.line_words (lines_of words)) = subst AreWords (sym whole) all in
    ap (λ ls. limited (words_from (labels_of (listing_text words)) 1 ls)) (lines_whole (lines_of words) fits small)
    ∙ ap limited (lines_read (labels_of (listing_text words)) 1 (lines_of words) fits small)
    ∙ ap (λ ws. limited (Ok ws)) whole
    ∙ ap (λ t. if t then Err (faults.TooLong (length words)) else Ok words) (le-ltb 65536 (length words) few)
