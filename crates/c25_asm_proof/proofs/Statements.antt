-- Statements as a listing writes them are read.
use Rattle.std.proofs.Common.{◌≡◌, ℕ, ◌-◌, ◌<◌, ◌==◌, true, false, List, [], ◌∷◌, ◌++◌, length, take, reverse, Some, None, refl, sym, ap, subst, ◌∙◌, arith, append-nil, length-append, slice_index}
use Rattle.std.specs.Prelude.{codes, if◌then◌else◌, Ok}
use Rattle.std.specs.List.{AllByRecursion}
use Rattle.std.proofs.Math.Seq.{get_or-append_seam}
use Rattle.std.proofs.lemmas.List.{reverse-append, reverse-reverse}
use Rattle.std.proofs.lemmas.Bool.Decides.{nat_tests}
use Rattle.c25_isa.specs.declared.mnemonic.Mnemonic.{Mnemonic}
use Rattle.c25_isa.specs.declared.fields.Fields.{Fields}
use Rattle.c25_isa.specs.Rows.{row}
use Rattle.c25_isa.specs.Table.{FitsForm}
use Rattle.c25_image.specs.Hex.{hex4}
use Rattle.c25_dis.specs.declared.part.Part.{Part}
use Rattle.c25_dis.specs.Operands.{part_text, behind_commas, parts_text, parts_of}
use Rattle.c25_asm.specs.declared.statement.LineWords.TheVariants.{One}
use Rattle.c25_asm.specs.Cuts.{is_blank, behind_blanks, before_blanks, trimmed, statement, head_word, behind_head, before_colon}
use Rattle.c25_asm.specs.Names.{Labels}
use Rattle.c25_asm.specs.Operands.{made, word, form_operands}
use Rattle.c25_asm.specs.Statements.{has_fixed_operand, fixed_operand, row_words, instruction_by, instruction, filled_by, statement_words, line_words, mnemonic_of}
use Rattle.c25_asm.proofs.CutLemmas.{before_at, before_none, from_split}
use Rattle.c25_asm.proofs.StatementLemmas.{filled}
use Rattle.c25_asm_proof.proofs.Plain.{is_calm, is_plain, AreCalm, ArePlain, EndsPlain, all_lack, all_append, and_left, no_blank, no_colon, no_comment, are_calm, ends_behind, plain_ends, hex4_plain}
use Rattle.c25_asm_proof.proofs.Numbers.{hex4_read}
use Rattle.c25_asm_proof.proofs.Parts.{joined, IsWritten, word_read}
use Rattle.c25_asm_proof.proofs.Forms.{form_read, parts_written}
use Rattle.c25_asm_proof.proofs.Rows.{rows_read}

-- a text that begins with a byte of an operand
pub record BeginsPlain (text : List ℕ) : Type 0 where
  pub first : ℕ
  pub rest : List ℕ
  pub is : text ≡ first ∷ rest
  pub plain : is_plain first ≡ true

begins : (text more : List ℕ) → 0 < length text → ArePlain text → BeginsPlain (text ++ more)
begins [] more some h = absurd (omega arith)
begins (c ∷ cs) more some h = record { first = c; rest = cs ++ more; is = refl; plain = and_left (is_plain c) _ h }

-- a statement is a line without blanks around it
pub record IsStatement (text : List ℕ) : Type 0 where
  pub calm : AreCalm text
  pub begins : BeginsPlain text
  pub ends : EndsPlain text

no_front : (c : ℕ) (cs : List ℕ) → is_blank c ≡ false → behind_blanks (c ∷ cs) ≡ c ∷ cs
no_front c cs e = ap (λ t. if t then behind_blanks cs else c ∷ cs) e

begins_same : (text : List ℕ) → BeginsPlain text → behind_blanks text ≡ text
begins_same text b = ap behind_blanks b.is ∙ no_front b.first b.rest (no_blank b.first b.plain) ∙ sym b.is

ends_same : (text : List ℕ) → EndsPlain text → before_blanks text ≡ text
ends_same text e =
    let back : reverse text ≡ e.last ∷ reverse e.front = ap reverse e.is ∙ reverse-append e.front (e.last ∷ []) in
    ap (λ t. reverse (behind_blanks t)) back
    ∙ ap reverse (no_front e.last (reverse e.front) (no_blank e.last e.plain))
    ∙ ap reverse (sym back)
    ∙ reverse-reverse text

statement_same : (text : List ℕ) → IsStatement text → statement text ≡ text
statement_same text s =
    ap trimmed (before_none (λ b. b == 59) text (all_lack is_calm (λ b. b == 59) no_comment text s.calm))
    ∙ ap before_blanks (begins_same text s.begins)
    ∙ ends_same text s.ends

pub length_push : (front : List ℕ) (c : ℕ) → length (front ++ c ∷ []) - 1 ≡ length front
length_push front c = omega (arith, length-append front (c ∷ []))

no_label : (text : List ℕ) → EndsPlain text → before_colon text ≡ None
no_label text e =
    let last : slice_index text (length text - 1) ≡ e.last =
    ap (λ t. slice_index t (length t - 1)) e.is ∙ ap (slice_index (e.front ++ e.last ∷ [])) (length_push e.front e.last) ∙ get_or-append_seam e.front e.last [] 0 in
    ap (λ c. if c == 58 then Some (take (length text - 1) text) else None) last
    ∙ ap (λ t. if t then Some (take (length text - 1) text) else None) (no_colon e.last e.plain)

holds_some : (text : List ℕ) → BeginsPlain text → false ≡ (length text == 0)
holds_some [] b = absurd (let e : [] ≡ b.first ∷ b.rest = b.is in cc)
holds_some (c ∷ cs) b = sym (let e : (length (c ∷ cs) == 0) ≡ false = grind (arith, nat_tests) in e)

-- what a line says that has no label
pub line_read : (labels : Labels) (number : ℕ) (text : List ℕ) → IsStatement text → line_words labels number text ≡ instruction labels (head_word text) (behind_head text)
line_read labels number text s =
    ap (statement_words labels number) (statement_same text s)
    ∙ filled labels number text (holds_some text s.begins)
    ∙ ap (λ o. filled_by o labels number text) (no_label text s.ends)

-- ---- a first word, and operands behind one space

module _ (name operands : List ℕ) (some : 0 < length name) (plain : ArePlain name) where
  pub head_alone : head_word (name ++ []) ≡ name
  head_alone = ap head_word (append-nil name) ∙ before_none is_blank name (all_lack is_plain is_blank no_blank name plain)

  pub rest_alone : behind_head (name ++ []) ≡ []
  rest_alone = ap behind_blanks (sym (from_split is_blank (name ++ []) name [] (all_lack is_plain is_blank no_blank name plain) (tt {0}) refl))

  pub head_first : head_word (name ++ 32 ∷ operands) ≡ name
  head_first = before_at is_blank name 32 operands (all_lack is_plain is_blank no_blank name plain) refl

  pub rest_behind : BeginsPlain operands → behind_head (name ++ 32 ∷ operands) ≡ operands
  rest_behind b =
      ap behind_blanks (sym (from_split is_blank (name ++ 32 ∷ operands) name (32 ∷ operands) (all_lack is_plain is_blank no_blank name plain) refl refl))
      ∙ begins_same operands b

-- ---- the bytes of operands

commas_calm : (ps : List Part) → AllByRecursion IsWritten ps → AreCalm (behind_commas ps)
commas_calm [] h = refl
commas_calm (p ∷ ps) h = all_append is_calm (44 ∷ part_text p) (behind_commas ps) (are_calm (part_text p) h.0.plain) (commas_calm ps h.1)

parts_end : (p : Part) (ps : List Part) → AllByRecursion IsWritten (p ∷ ps) → EndsPlain (part_text p ++ behind_commas ps)
parts_end p [] h = subst EndsPlain (sym (append-nil (part_text p))) (plain_ends (part_text p) h.0.some h.0.plain)
parts_end p (q ∷ qs) h = ends_behind (part_text p) (44 ∷ (part_text q ++ behind_commas qs)) (ends_behind (44 ∷ []) (part_text q ++ behind_commas qs) (parts_end q qs h.1))

module _ (name : List ℕ) (some : 0 < length name) (plain : ArePlain name) where
  pub alone_is : IsStatement (name ++ [])
  alone_is = record {
    calm = all_append is_calm name [] (are_calm name plain) refl;
    begins = begins name [] some plain;
    ends = subst EndsPlain (sym (append-nil name)) (plain_ends name some plain);
  }

  pub with_parts : (p : Part) (ps : List Part) → AllByRecursion IsWritten (p ∷ ps) → IsStatement (name ++ 32 ∷ (part_text p ++ behind_commas ps))
  with_parts p ps h = record {
    calm = all_append is_calm name (32 ∷ (part_text p ++ behind_commas ps)) (are_calm name plain) (all_append is_calm (part_text p) (behind_commas ps) (are_calm (part_text p) h.0.plain) (commas_calm ps h.1));
    begins = begins name (32 ∷ (part_text p ++ behind_commas ps)) some plain;
    ends = ends_behind name (32 ∷ (part_text p ++ behind_commas ps)) (ends_behind (32 ∷ []) (part_text p ++ behind_commas ps) (parts_end p ps h));
  }

-- ---- instructions

module _ (labels : Labels) (number : ℕ) (m : Mnemonic) (f : Fields) (fits : FitsForm (row m).form f) (free : has_fixed_operand m ≡ false) where
  named : (text : List ℕ) → form_operands labels (row m).form text ≡ Ok f → instruction labels (row m).name text ≡ Ok (row_words m f)
  named text e =
      ap (λ t. if t then made One (word labels text) else instruction_by (mnemonic_of (row m).name) labels text) (rows_read m).no_data
      ∙ ap (λ o. instruction_by o labels text) (rows_read m).named
      ∙ ap (λ t. made (row_words m) (if t then fixed_operand text else form_operands labels (row m).form text)) free
      ∙ ap (made (row_words m)) e

  by_parts : (ps : List Part) → AllByRecursion IsWritten ps → form_operands labels (row m).form (joined ps) ≡ Ok f
      → IsStatement ((row m).name ++ parts_text ps) × (line_words labels number ((row m).name ++ parts_text ps) ≡ Ok (row_words m f))
  by_parts [] h e =
      let s = alone_is (row m).name (rows_read m).some (rows_read m).plain in (
        s,
        line_read labels number ((row m).name ++ []) s
            ∙ ap (λ t. instruction labels t (behind_head ((row m).name ++ []))) (head_alone (row m).name [] (rows_read m).some (rows_read m).plain)
            ∙ ap (instruction labels (row m).name) (rest_alone (row m).name [] (rows_read m).some (rows_read m).plain)
            ∙ named [] e,
      )
  by_parts (p ∷ ps) h e =
      let text : List ℕ = part_text p ++ behind_commas ps in
      let s = with_parts (row m).name (rows_read m).some (rows_read m).plain p ps h in (
        s,
        line_read labels number ((row m).name ++ 32 ∷ text) s
            ∙ ap (λ t. instruction labels t (behind_head ((row m).name ++ 32 ∷ text))) (head_first (row m).name text (rows_read m).some (rows_read m).plain)
            ∙ ap (instruction labels (row m).name) (rest_behind (row m).name text (rows_read m).some (rows_read m).plain (begins (part_text p) (behind_commas ps) h.0.some h.0.plain))
            ∙ named text e,
      )

  pub instruction_read : IsStatement ((row m).name ++ parts_text (parts_of f)) × (line_words labels number ((row m).name ++ parts_text (parts_of f)) ≡ Ok (row_words m f))
  instruction_read = by_parts (parts_of f) (parts_written (row m).form f fits (rows_read m).narrow) (form_read labels (row m).form f fits (rows_read m).narrow)

-- a word that is written as a number
pub data_read : (labels : Labels) (number w : ℕ) → w < 65536 → IsStatement (codes ".word 0x" ++ hex4 w) × (line_words labels number (codes ".word 0x" ++ hex4 w) ≡ Ok (One w))
data_read labels number w lt =
    let text : List ℕ = codes "0x" ++ hex4 w in
    let plain : ArePlain text = hex4_plain w lt in
    let b : BeginsPlain text = record { first = 48; rest = 120 ∷ hex4 w; is = refl; plain = refl } in
    let s : IsStatement (codes ".word" ++ 32 ∷ text) = record {
      calm = all_append is_calm (codes ".word" ++ 32 ∷ []) text refl (are_calm text plain);
      begins = record { first = 46; rest = codes "word" ++ 32 ∷ text; is = refl; plain = refl };
      ends = ends_behind (codes ".word" ++ 32 ∷ []) text (plain_ends text (omega arith) plain);
    } in (
      s,
      line_read labels number (codes ".word" ++ 32 ∷ text) s
          ∙ ap (λ t. instruction labels t (behind_head (codes ".word" ++ 32 ∷ text))) (head_first (codes ".word") text (omega arith) refl)
          ∙ ap (instruction labels (codes ".word")) (rest_behind (codes ".word") text (omega arith) refl b)
          ∙ ap (made One) (word_read labels text w (hex4_read w lt) lt),
    )
