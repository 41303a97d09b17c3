-- What texts say, line by line.
use Rattle.std.proofs.Common.{◌≡◌, ℕ, ◌+◌, ◌%◌, ◌<◌, ◌==◌, Bool, true, false, if◌then◌else◌, List, [], ◌∷◌, ◌++◌, length, Option, Some, None, IfSome, refl, sym, ap, subst, ◌∙◌, arith, append_assoc, length-append, inl, inr, ⊎_elim}
use Rattle.std.specs.Prelude.{◌⊎◌, nat_lt, Result, Ok, Err}
use Rattle.std.specs.Str.Lines.{lines}
use Rattle.std.proofs.lemmas.Bool.{ltb-true}
use Rattle.std.proofs.lemmas.Bool.Decides.{Decides-eqb}
use Rattle.std.proofs.lemmas.Slice.Eq.{bytes_eq-Decides}
use Rattle.c25_isa.specs.declared.instruction.Instr.{Instr}
use Rattle.c25_isa.specs.declared.mnemonic.Mnemonic.{Mnemonic}
use Rattle.c25_isa.specs.declared.mnemonic.Form.{Form}
use Rattle.c25_isa.specs.declared.mnemonic.Form.TheVariants as form
use Rattle.c25_isa.specs.declared.fields.Fields.{Fields}
use Rattle.c25_isa.specs.declared.fields.Fields.TheVariants as fields
use Rattle.c25_isa.specs.Rows.{row, row_of, IsOf}
use Rattle.c25_isa.specs.Table.{FitsForm, IsInstr, fields_code, fields_second, first_word, second_word, with_second, instr_words}
use Rattle.c25_isa.proofs.RowLemmas.{made as instr_made, parts-instr_of}
use Rattle.c25_asm.specs.declared.fault.AsmFault.{AsmFault}
use Rattle.c25_asm.specs.declared.fault.AsmFault.TheVariants as faults
use Rattle.c25_asm.specs.declared.statement.LineFault.{LineFault}
use Rattle.c25_asm.specs.declared.statement.LineFault.TheVariants.{LabelTwice}
use Rattle.c25_asm.specs.declared.statement.LineWords.{LineWords}
use Rattle.c25_asm.specs.declared.statement.LineWords.TheVariants.{Nothing, One}
use Rattle.c25_asm.specs.declared.statement.Place.{Place}
use Rattle.c25_asm.specs.Cuts.{statement, head_word, behind_head, before_colon}
use Rattle.c25_asm.specs.Names.{Labels, AreSmall, or_place, is_name}
use Rattle.c25_asm.specs.Operands.{made, word}
use Rattle.c25_asm.specs.Statements.{row_operands, words_with, row_words, instruction_by, label_by, label, filled_by, statement_words, line_words, is_data, mnemonic_of, name_or_none, label_of, form_size, row_size, size_by, statement_size, size_of}
use Rattle.c25_asm.specs.AssemblerText.{names, place_behind, label_in, first_place, labels_of, words_list, fault_at, before_words, line_before, words_from, limited, assembled}
use Rattle.c25_asm.specs.Reading.{StandsBehind, IsFirstFault, Says, IsOfTable, NumbersWords}
use Rattle.c25_asm.proofs.LabelLemmas.{in_small}
use Rattle.c25_asm.proofs.FitLemmas.{fields_fit}

-- ---- the words of a line

-- a row with operands that fit it is an instruction
row_instr : (m : Mnemonic) (f : Fields) → FitsForm (row m).form f → (i : Instr) × ((m ≡ row_of i) × IsInstr i × (words_list (row_words m f) ≡ instr_words i))
row_instr m f fits =
    let whole = instr_made m f fits in
    let is : IsOf m f whole.0 = subst (λ o. IfSome o (IsOf m f)) whole.1 (parts-instr_of m f) in (
      whole.0,
      (
        sym is.0,
        whole.2,
        ap (λ k. words_list (words_with ((row k).base + fields_code f) (fields_second f))) (sym is.0)
            ∙ ap (λ g. words_list (words_with ((row (row_of whole.0)).base + fields_code g) (fields_second g))) (sym is.1)
            ∙ same_words (first_word whole.0) (second_word whole.0),
      ),
    )
  where
    same_words : (first : ℕ) (second : Option ℕ) → words_list (words_with first second) ≡ with_second first second
    same_words first None = refl
    same_words first (Some second) = refl

row_sized : (kind : Form) (f : Fields) (first : ℕ) → FitsForm kind f → length (words_list (words_with first (fields_second f))) ≡ form_size kind
row_sized form.NoOperand fields.NoOperand first h = refl
row_sized form.Memory (fields.Memory o) first h = refl
row_sized (form.ShiftedMemory shifts) (fields.ShiftedMemory s o) first h = refl
row_sized form.RegisterMemory (fields.RegisterMemory r o) first h = refl
row_sized form.PortMemory (fields.PortMemory p o) first h = refl
row_sized form.Pointer (fields.Pointer i) first h = refl
row_sized form.Constant8 (fields.Constant8 n) first h = refl
row_sized form.Constant9 (fields.Constant9 n) first h = refl
row_sized form.Constant13 (fields.Constant13 z) first h = refl
row_sized form.RegisterConstant (fields.RegisterConstant r n) first h = refl
row_sized form.Word (fields.Word w) first h = refl
row_sized form.ShiftedWord (fields.ShiftedWord s w) first h = refl
row_sized form.RegisterWord (fields.RegisterWord r w) first h = refl
row_sized form.Target (fields.Target to i) first h = refl
row_sized kind f first h = absurd h

-- what a statement says that has these words
data Said (text : List ℕ) (words : LineWords) : Type 0 where
  Silent : words ≡ Nothing → statement_size text ≡ 0 → Said text words
  Datum : (w : ℕ) → before_colon text ≡ None → is_data (head_word text) ≡ true → words ≡ One w → Said text words
  OfRow : (m : Mnemonic) (f : Fields) → before_colon text ≡ None → is_data (head_word text) ≡ false → mnemonic_of (head_word text) ≡ Some m → FitsForm (row m).form f → words ≡ row_words m f → Said text words

said_size : (text : List ℕ) (words : LineWords) → Said text words → length (words_list words) ≡ statement_size text
said_size text words (Silent none size) = ap (λ w. length (words_list w)) none ∙ sym size
said_size text words (Datum w none says is) =
    ap (λ v. length (words_list v)) is
    ∙ sym (ap (λ o. size_by o text) none ∙ ap (λ t. if t then 1 else row_size (mnemonic_of (head_word text))) says)
said_size text words (OfRow m f none other named fits is) =
    ap (λ v. length (words_list v)) is
    ∙ row_sized (row m).form f ((row m).base + fields_code f) fits
    ∙ sym (ap (λ o. size_by o text) none
    ∙ ap (λ t. if t then 1 else row_size (mnemonic_of (head_word text))) other
    ∙ ap row_size named)

made_ok : {A B : Type 0} (make : A → B) (r : Result A LineFault) (b : B) → made make r ≡ Ok b → (a : A) × ((Ok a ≡ r) × (b ≡ make a))
made_ok make (Ok a) b e = (a, (refl, (let same : make a ≡ b = cc in sym same)))
made_ok make (Err fault) b e = absurd cc

label_silent : (number : ℕ) (named : Bool) (found : Option Place) (words : LineWords) → label_by number named found ≡ Ok words → words ≡ Nothing
label_silent number false found words e = absurd cc
label_silent number true None words e = let same : Nothing ≡ words = cc in sym same
label_silent number true (Some place) words e = by (place.line == number) e
  where
    by : (t : Bool) → (if t then Ok Nothing else Err LabelTwice) ≡ Ok words → words ≡ Nothing
    by true h = let same : Nothing ≡ words = cc in sym same
    by false h = absurd cc

module _ (labels : Labels) (small : AreSmall labels) (number : ℕ) where
  text_said : (text : List ℕ) (words : LineWords) → statement_words labels number text ≡ Ok words → Said text words
  text_said [] words e = Silent (let same : Nothing ≡ words = cc in sym same) refl
  text_said (b ∷ bs) words e = by (before_colon (b ∷ bs)) refl e
    where
      row_by : (o : Option Mnemonic) → before_colon (b ∷ bs) ≡ None → is_data (head_word (b ∷ bs)) ≡ false → mnemonic_of (head_word (b ∷ bs)) ≡ o
          → instruction_by o labels (behind_head (b ∷ bs)) ≡ Ok words → Said (b ∷ bs) words
      row_by None none other named h = absurd cc
      row_by (Some m) none other named h =
          let f = made_ok (row_words m) (row_operands labels m (behind_head (b ∷ bs))) words h in
          OfRow m f.0 none other named (fields_fit labels small m (behind_head (b ∷ bs)) f.0 f.1.0) f.1.1

      data_by : (t : Bool) → before_colon (b ∷ bs) ≡ None → is_data (head_word (b ∷ bs)) ≡ t
          → (if t then made One (word labels (behind_head (b ∷ bs))) else instruction_by (mnemonic_of (head_word (b ∷ bs))) labels (behind_head (b ∷ bs))) ≡ Ok words → Said (b ∷ bs) words
      data_by true none says h = let w = made_ok One (word labels (behind_head (b ∷ bs))) words h in Datum w.0 none says w.1.1
      data_by false none other h = row_by (mnemonic_of (head_word (b ∷ bs))) none other refl h

      by : (o : Option (List ℕ)) → before_colon (b ∷ bs) ≡ o → filled_by o labels number (b ∷ bs) ≡ Ok words → Said (b ∷ bs) words
      by None none h = data_by (is_data (head_word (b ∷ bs))) none refl h
      by (Some name) some h = Silent (label_silent number (is_name name) (labels name) words h) (ap (λ o. size_by o (b ∷ bs)) some)

  line_size : (line : List ℕ) (words : LineWords) → line_words labels number line ≡ Ok words → length (words_list words) ≡ size_of line
  line_size line words e = said_size (statement line) words (text_said (statement line) words e)

  line_of_table : (line : List ℕ) (words : LineWords) → line_words labels number line ≡ Ok words → IsOfTable line words
  line_of_table line words e = by (text_said (statement line) words e)
    where
      by : Said (statement line) words → IsOfTable line words
      by (Silent none size) = inl none
      by (Datum w none says is) = inr (inl (w, says, is))
      by (OfRow m f none other named fits is) =
          let i = row_instr m f fits in
          inr (inr (i.0, named ∙ ap (λ k. Some k) i.1.0, i.1.1, ap words_list is ∙ i.1.2))

text_small : (text : List ℕ) → AreSmall (labels_of text)
text_small text name = in_small (lines text) first_place name (omega arith)

pub rows_told : (text line : List ℕ) (number : ℕ) (words : LineWords) → line_words (labels_of text) number line ≡ Ok words → IsOfTable line words
rows_told text line number words e = line_of_table (labels_of text) (text_small text) number line words e

-- ---- lines one behind another

cons_ok : (number : ℕ) (r : Result LineWords LineFault) (more : Result (List ℕ) AsmFault) (words : List ℕ) → line_before number r more ≡ Ok words
    → (w : LineWords) × ((ws : List ℕ) × ((r ≡ Ok w) × (more ≡ Ok ws) × (words ≡ words_list w ++ ws)))
cons_ok number (Ok w) (Ok ws) words e = (w, (ws, (refl, refl, (let same : words_list w ++ ws ≡ words = cc in sym same))))
cons_ok number (Ok w) (Err fault) words e = absurd cc
cons_ok number (Err told) more words e = absurd cc

before_append : (first second : List ℕ) (more : Result (List ℕ) AsmFault) → before_words (first ++ second) more ≡ before_words first (before_words second more)
before_append first second (Ok ws) = ap Ok (append_assoc first second ws)
before_append first second (Err fault) = refl

before_nil : (more : Result (List ℕ) AsmFault) → more ≡ before_words [] more
before_nil (Ok ws) = refl
before_nil (Err fault) = refl

behind_fault : (words : List ℕ) (more : Result (List ℕ) AsmFault) (fault : AsmFault) → before_words words more ≡ Err fault → more ≡ Err fault
behind_fault words (Ok ws) fault e = absurd cc
behind_fault words (Err other) fault e = e

module _ (labels : Labels) where
  -- lines that have words, before others
  behind_front : (front more : List (List ℕ)) (number : ℕ) (words : List ℕ) → words_from labels number front ≡ Ok words
      → words_from labels number (front ++ more) ≡ before_words words (words_from labels (number + length front) more)
  behind_front [] more number words e =
      let none : words ≡ [] = cc in
      before_nil (words_from labels number more)
      ∙ ap (λ n. before_words [] (words_from labels n more)) (let same : number ≡ number + 0 = omega arith in same)
      ∙ ap (λ ws. before_words ws (words_from labels (number + 0) more)) (sym none)
  behind_front (l ∷ front) more number words e =
      let h = cons_ok number (line_words labels number l) (words_from labels (number + 1) front) words e in
      ap (λ r. line_before number r (words_from labels (number + 1) (front ++ more))) h.1.1.0
      ∙ ap (before_words (words_list h.0)) (behind_front front more (number + 1) h.1.0 h.1.1.1)
      ∙ sym (before_append (words_list h.0) h.1.0 (words_from labels (number + 1 + length front) more))
      ∙ ap (λ ws. before_words ws (words_from labels (number + 1 + length front) more)) (sym h.1.1.2)
      ∙ ap (λ n. before_words words (words_from labels n more)) (let same : number + 1 + length front ≡ number + length (l ∷ front) = omega arith in same)

  -- the lines in front of one that has words have words too
  front_ok : (front back : List (List ℕ)) (line : List ℕ) (number : ℕ) (words : List ℕ) → words_from labels number (front ++ line ∷ back) ≡ Ok words
      → (before : List ℕ) × ((w : LineWords) × ((words_from labels number front ≡ Ok before) × (line_words labels (number + length front) line ≡ Ok w)))
  front_ok [] back line number words e =
      let h = cons_ok number (line_words labels number line) (words_from labels (number + 1) back) words e in
      ([], (h.0, (refl, ap (λ n. line_words labels n line) (let same : number + 0 ≡ number = omega arith in same) ∙ h.1.1.0)))
  front_ok (l ∷ front) back line number words e =
      let h = cons_ok number (line_words labels number l) (words_from labels (number + 1) (front ++ line ∷ back)) words e in
      let f = front_ok front back line (number + 1) h.1.0 h.1.1.1 in (
        words_list h.0 ++ f.0,
        (
          f.1.0,
          (
            ap (λ r. line_before number r (words_from labels (number + 1) front)) h.1.1.0 ∙ ap (before_words (words_list h.0)) f.1.1.0,
            ap (λ n. line_words labels n line) (let same : number + length (l ∷ front) ≡ number + 1 + length front = omega arith in same) ∙ f.1.1.1,
          ),
        ),
      )

  -- the first line with a fault
  line_told : (ls : List (List ℕ)) (number : ℕ) (fault : AsmFault) → words_from labels number ls ≡ Err fault
      → (front : List (List ℕ)) × ((line : List ℕ) × ((back : List (List ℕ)) × ((before : List ℕ) × ((told : LineFault)
      × ((ls ≡ front ++ line ∷ back) × (words_from labels number front ≡ Ok before) × (line_words labels (number + length front) line ≡ Err told) × (fault ≡ fault_at (number + length front) told))))))
  line_told [] number fault e = absurd cc
  line_told (l ∷ ls) number fault e = by (line_words labels number l) refl (line_told ls (number + 1) fault) e
    where
      none : number + 0 ≡ number
      none = omega arith

      by : (r : Result LineWords LineFault) → line_words labels number l ≡ r
          → (words_from labels (number + 1) ls ≡ Err fault
          → (front : List (List ℕ)) × ((line : List ℕ) × ((back : List (List ℕ)) × ((before : List ℕ) × ((told : LineFault)
          × ((ls ≡ front ++ line ∷ back) × (words_from labels (number + 1) front ≡ Ok before) × (line_words labels (number + 1 + length front) line ≡ Err told) × (fault ≡ fault_at (number + 1 + length front) told)))))))
          → line_before number r (words_from labels (number + 1) ls) ≡ Err fault
          → (front : List (List ℕ)) × ((line : List ℕ) × ((back : List (List ℕ)) × ((before : List ℕ) × ((told : LineFault)
          × ((l ∷ ls ≡ front ++ line ∷ back) × (words_from labels number front ≡ Ok before) × (line_words labels (number + length front) line ≡ Err told) × (fault ≡ fault_at (number + length front) told))))))
      by (Err told) is further h =
          let same : fault_at number told ≡ fault = cc in
          ([], (l, (ls, ([], (told, (refl, refl, ap (λ n. line_words labels n l) none ∙ is, sym same ∙ ap (λ n. fault_at n told) (sym none)))))))
      by (Ok w) is further h =
          let f = further (behind_fault (words_list w) (words_from labels (number + 1) ls) fault h) in
          let counted : number + length (l ∷ f.0) ≡ number + 1 + length f.0 = omega arith in (
            l ∷ f.0,
            (
              f.1.0,
              (
                f.1.1.0,
                (
                  words_list w ++ f.1.1.1.0,
                  (
                    f.1.1.1.1.0,
                    (
                      ap (λ t. l ∷ t) f.1.1.1.1.1.0,
                      ap (λ r. line_before number r (words_from labels (number + 1) f.0)) is ∙ ap (before_words (words_list w)) f.1.1.1.1.1.1,
                      ap (λ n. line_words labels n f.1.0) counted ∙ f.1.1.1.1.1.2,
                      f.1.1.1.1.1.3 ∙ ap (λ n. fault_at n f.1.1.1.1.0) (sym counted),
                    ),
                  ),
                ),
              ),
            ),
          )

-- ---- the first fault

one_more : (n : ℕ) → 1 + n ≡ n + 1
one_more n = omega arith

pub fault_told : (text : List ℕ) (fault : AsmFault) → assembled text ≡ Err fault → Says text fault
fault_told text fault e = by (words_from (labels_of text) 1 (lines text)) refl e
  where
    long : (words : List ℕ) (t : Bool) → nat_lt 65536 (length words) ≡ t → words_from (labels_of text) 1 (lines text) ≡ Ok words
        → (if t then Err (faults.TooLong (length words)) else Ok words) ≡ Err fault → Says text fault
    long words true above is h =
        let same : faults.TooLong (length words) ≡ fault = cc in
        inr (length words, sym same, record { words = words; all = is; counted = refl; above = ltb-true 65536 (length words) above })
    long words false above is h = absurd cc

    by : (r : Result (List ℕ) AsmFault) → words_from (labels_of text) 1 (lines text) ≡ r → limited r ≡ Err fault → Says text fault
    by (Ok words) is h = long words (nat_lt 65536 (length words)) refl is h
    by (Err other) is h =
        let same : other ≡ fault = cc in
        let f = line_told (labels_of text) (lines text) 1 other is in
        let counted : 1 + length f.0 ≡ length f.0 + 1 = one_more (length f.0) in
        inl (
          length f.0 + 1,
          f.1.1.1.1.0,
          sym same ∙ f.1.1.1.1.1.3 ∙ ap (λ n. fault_at n f.1.1.1.1.0) counted,
          record {
            front = f.0;
            line = f.1.0;
            stands = record { back = f.1.1.0; cut = f.1.1.1.1.1.0 };
            counted = refl;
            words = f.1.1.1.0;
            before = f.1.1.1.1.1.1;
            fault = ap (λ n. line_words (labels_of text) n f.1.0) (sym counted) ∙ f.1.1.1.1.1.2;
          },
        )

pub first_fault : (text : List ℕ) (number : ℕ) (told : LineFault) → IsFirstFault text number told → assembled text ≡ Err (fault_at number told)
first_fault text number told f =
    let labels = labels_of text in
    let counted : 1 + length f.front ≡ number = one_more (length f.front) ∙ sym f.counted in
    ap (λ ls. limited (words_from labels 1 ls)) f.stands.cut
    ∙ ap limited (behind_front labels f.front (f.line ∷ f.stands.back) 1 f.words f.before)
    ∙ ap (λ n. limited (before_words f.words (line_before n (line_words labels n f.line) (words_from labels (n + 1) f.stands.back)))) counted
    ∙ ap (λ r. limited (before_words f.words (line_before number r (words_from labels (number + 1) f.stands.back)))) f.fault

-- ---- where labels stand

abbrev place_after : Place → List (List ℕ) → Place
place_after place [] = place
place_after place (l ∷ ls) = place_after (place_behind place l) ls

after_line : (front : List (List ℕ)) (place : Place) → (place_after place front).line ≡ place.line + length front
after_line [] place = omega arith
after_line (l ∷ front) place = omega (arith, after_line front (place_behind place l))

after_number : (text : List ℕ) (front : List (List ℕ)) (place : Place) (number : ℕ) (words : List ℕ) → place.number < 65536 → words_from (labels_of text) number front ≡ Ok words
    → (place_after place front).number ≡ (place.number + length words) % 65536
after_number text [] place number words small e =
    let none : words ≡ [] = cc in
    omega (arith, small, ap length none)
after_number text (l ∷ front) place number words small e =
    let h = cons_ok number (line_words (labels_of text) number l) (words_from (labels_of text) (number + 1) front) words e in
    let size : length (words_list h.0) ≡ size_of l = line_size (labels_of text) (text_small text) number l h.0 h.1.1.0 in
    let rest = after_number text front (place_behind place l) (number + 1) h.1.0 (omega arith) h.1.1.1 in
    omega (arith, rest, size, ap length h.1.1.2, length-append (words_list h.0) h.1.0)

-- a label that no line in front has stands here
found_at : (front more : List (List ℕ)) (place : Place) (name : List ℕ)
    → ((p : Place) × ((label_in (front ++ more) place name ≡ Some p) × (p.line < place.line + length front))) ⊎ (label_in (front ++ more) place name ≡ label_in more (place_after place front) name)
found_at [] more place name = inr refl
found_at (l ∷ front) more place name = by (names (label_of l) name) (found_at front more (place_behind place l) name)
  where
    by : (t : Bool) → ((p : Place) × ((label_in (front ++ more) (place_behind place l) name ≡ Some p) × (p.line < place.line + 1 + length front)))
        ⊎ (label_in (front ++ more) (place_behind place l) name ≡ label_in more (place_after (place_behind place l) front) name)
        → ((p : Place) × ((or_place (if t then Some place else None) (label_in (front ++ more) (place_behind place l) name) ≡ Some p) × (p.line < place.line + length (l ∷ front))))
        ⊎ (or_place (if t then Some place else None) (label_in (front ++ more) (place_behind place l) name) ≡ label_in more (place_after (place_behind place l) front) name)
    by true further = inl (place, (refl, omega arith))
    by false (inl p) = inl (p.0, (p.1.0, omega (arith, p.1.1)))
    by false (inr e) = inr e

label_parts : (line name : List ℕ) → label_of line ≡ Some name → (before_colon (statement line) ≡ Some name) × (is_name name ≡ true)
label_parts line name e = by (before_colon (statement line)) refl e
  where
    tested : (n : List ℕ) (t : Bool) → is_name n ≡ t → before_colon (statement line) ≡ Some n → (if t then Some n else None) ≡ Some name
        → (before_colon (statement line) ≡ Some name) × (is_name name ≡ true)
    tested n true tests is h = let same : n ≡ name = cc in (is ∙ ap (λ m. Some m) same, subst (λ m. is_name m ≡ true) same tests)
    tested n false tests is h = absurd cc

    by : (o : Option (List ℕ)) → before_colon (statement line) ≡ o → name_or_none o ≡ Some name → (before_colon (statement line) ≡ Some name) × (is_name name ≡ true)
    by None is h = absurd cc
    by (Some n) is h = tested n (is_name n) refl is h

label_line : (labels : Labels) (number : ℕ) (text name : List ℕ) → before_colon text ≡ Some name → statement_words labels number text ≡ label labels number name
label_line labels number [] name e = absurd cc
label_line labels number (b ∷ bs) name e = ap (λ o. filled_by o labels number (b ∷ bs)) e

-- a label that isn't refused stands first on its line
stands_first : (number : ℕ) (place : Place) (words : LineWords) → label_by number true (Some place) ≡ Ok words → place.line ≡ number
stands_first number place words e = by (place.line == number) refl e
  where
    by : (t : Bool) → (place.line == number) ≡ t → (if t then Ok Nothing else Err LabelTwice) ≡ Ok words → place.line ≡ number
    by true is h = (Decides-eqb place.line number).0 is
    by false is h = absurd cc

limited_ok : (r : Result (List ℕ) AsmFault) (words : List ℕ) → limited r ≡ Ok words → r ≡ Ok words
limited_ok (Ok ws) words e = by (nat_lt 65536 (length ws)) e
  where
    by : (t : Bool) → (if t then Err (faults.TooLong (length ws)) else Ok ws) ≡ Ok words → ◌≡◌ {A = Result (List ℕ) AsmFault} (Ok ws) (Ok words)
    by true h = absurd cc
    by false h = h
limited_ok (Err fault) words e = absurd cc

-- it can't stand on a line in front
not_in_front : (labels : Labels) (name : List ℕ) (number : ℕ) (words : LineWords) (whole : Option Place) (after : Place) → labels name ≡ whole → label_by number true (labels name) ≡ Ok words
    → ((p : Place) × ((whole ≡ Some p) × (p.line < number))) ⊎ (whole ≡ Some after) → labels name ≡ Some after
not_in_front labels name number words whole after cut says (inl p) =
    let first : p.0.line ≡ number = stands_first number p.0 words (ap (label_by number true) (sym (cut ∙ p.1.0)) ∙ says) in
    absurd (omega (arith, first, p.1.1))
not_in_front labels name number words whole after cut says (inr is) = cut ∙ is

none_before : (n : ℕ) → 0 + n ≡ n
none_before n = omega arith

same_place : (place : Place) (words lines : ℕ) → place.number ≡ words % 65536 → place.line ≡ lines → place ≡ record { number = words % 65536; line = lines }
same_place place words lines n l = λ i. record { number = n i; line = l i }

pub label_numbers : (text : List ℕ) (front : List (List ℕ)) (line name words : List ℕ) → assembled text ≡ Ok words → StandsBehind text front line → label_of line ≡ Some name → NumbersWords text front name
label_numbers text front line name words e stands named =
    let labels : Labels = labels_of text in
    let all : words_from labels 1 (front ++ line ∷ stands.back) ≡ Ok words =
    ap (words_from labels 1) (sym stands.cut) ∙ limited_ok (words_from labels 1 (lines text)) words e in
    let f = front_ok labels front stands.back line 1 words all in
    let parts = label_parts line name named in
    let says : label_by (1 + length front) true (labels name) ≡ Ok f.1.0 =
    ap (λ t. label_by (1 + length front) t (labels name)) (sym parts.1) ∙ sym (label_line labels (1 + length front) (statement line) name parts.0) ∙ f.1.1.1 in
    let after : Place = place_after first_place front in
    let cut : labels name ≡ label_in (front ++ line ∷ stands.back) first_place name = ap (λ ls. label_in ls first_place name) stands.cut in
    let here : label_in (line ∷ stands.back) after name ≡ Some after =
    ap (λ o. or_place (if names o name then Some after else None) (label_in stands.back (place_behind after line) name)) named
    ∙ ap (λ t. or_place (if t then Some after else None) (label_in stands.back (place_behind after line) name)) ((bytes_eq-Decides name name).1 refl) in
    let placed : labels name ≡ Some after = not_in_front labels name (1 + length front) f.1.0 (label_in (front ++ line ∷ stands.back) first_place name) after cut says
    (⊎_elim (λ p. inl p) (λ e. inr (e ∙ here)) (found_at front (line ∷ stands.back) first_place name)) in
    record {
      words = f.0;
      before = f.1.1.0;
      placed = placed ∙ ap (λ p. Some p) (same_place after (length f.0) (length front + 1) (after_number text front first_place 1 f.0 (omega arith) f.1.1.0 ∙ ap (λ k. k % 65536) (none_before (length f.0))) (after_line front first_place ∙ one_more (length front)));
    }
