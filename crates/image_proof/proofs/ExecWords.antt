-- Words of images and of port lines have 16 bits.
use Rattle.std.proofs.Common.{◌≡◌, ◌∙◌, ◌⊎◌, inl, inr, ℕ, zero, suc, ◌+◌, ◌-◌, ◌*◌, ◌^◌, ◌<◌, ◌≤◌, Bool, true, false, List, [], ◌∷◌, ◌++◌, length, Option, Some, None, refl, sym, ap, subst, lit<, arith, All}
use Rattle.std.specs.Prelude.{◌==◌, nat_lt, slice_index, if◌then◌else◌}
use Rattle.std.specs.List.{AllByRecursion}
use Rattle.std.specs.Str.Lines.{lines}
use Rattle.std.proofs.lemmas.Grind.{get_or_default_zero}
use Rattle.std.proofs.lemmas.List.Elements.{All-cons, All-nil}
use Rattle.word_base.specs.Ports.{IsInput, input_of}
use Rattle.c25_isa.specs.declared.mnemonic.Form.{Form}
use Rattle.c25_isa.specs.declared.mnemonic.Form.TheVariants as form
use Rattle.c25_isa.specs.declared.fields.Fields.{Fields}
use Rattle.c25_isa.specs.declared.fields.Fields.TheVariants as fields
use Rattle.c25_isa.specs.Rows.{row, row_of, fields_of}
use Rattle.c25_isa.specs.Image.{Contents}
use Rattle.c25_isa.specs.Pieces.{Piece, Linked, PiecesFit, address_in, piece_code}
use Rattle.c25_isa.specs.Step.{wrap16}
use Rattle.c25_isa.proofs.PieceLemmas.{piece_fits, wraps_low}
use Rattle.c25_code.proofs.PiecesStand.{one_fits, piece_code-size}
use Rattle.std.proofs.lemmas.Bool.{cases_lt}
use Rattle.c25_isa.specs.declared.instruction.Instr.{Instr}
use Rattle.c25_isa.specs.Table.{FitsForm, IsInstr, first_word, second_word, instr_words, code_words, with_second, fields_second}
use Rattle.c25_isa.proofs.FormLemmas.{first_word-lt}
use Rattle.c25_isa.specs.State.{IsStart, BeginsWith, zero_start}
use Rattle.c25_image.specs.PortText.{IsHexWord, Gives, AllGive, PortText}
use Rattle.c25_sim.specs.Taken.{of_sixteen}

-- one to four digits spell a word
hex_word : (digits : List ℕ) (word : ℕ) → IsHexWord digits word → word < 65536
hex_word [] word is = let s : word ≡ 0 = is.spells in omega (arith, s)
hex_word (a ∷ []) word is = let s = is.spells in one s.0 s.1.below s.2
  where
    one : (x : ℕ) → x < 16 → word ≡ 0 * 16 + x → word < 65536
    one x h e = omega (arith, h, e)
hex_word (a ∷ b ∷ []) word is = let s = is.spells in two s.0 s.2.0 s.1.below s.2.1.below s.2.2
  where
    two : (x y : ℕ) → x < 16 → y < 16 → word ≡ (0 * 16 + x) * 16 + y → word < 65536
    two x y h k e = omega (arith, h, k, e)
hex_word (a ∷ b ∷ c ∷ []) word is = let s = is.spells in three s.0 s.2.0 s.2.2.0 s.1.below s.2.1.below s.2.2.1.below s.2.2.2
  where
    three : (x y z : ℕ) → x < 16 → y < 16 → z < 16 → word ≡ ((0 * 16 + x) * 16 + y) * 16 + z → word < 65536
    three x y z h k l e = omega (arith, h, k, l, e)
hex_word (a ∷ b ∷ c ∷ d ∷ []) word is = let s = is.spells in four s.0 s.2.0 s.2.2.0 s.2.2.2.0 s.1.below s.2.1.below s.2.2.1.below s.2.2.2.1.below s.2.2.2.2
  where
    four : (x y z w : ℕ) → x < 16 → y < 16 → z < 16 → w < 16 → word ≡ (((0 * 16 + x) * 16 + y) * 16 + z) * 16 + w → word < 65536
    four x y z w h k l m e = omega (arith, h, k, l, m, e)
hex_word (a ∷ b ∷ c ∷ d ∷ e ∷ more) word is = let short = is.short in absurd (too_long (length more) short)
  where
    too_long : (n : ℕ) → suc (suc (suc (suc (suc n)))) ≤ 4 → ⊥
    too_long n h = omega (arith, h)

abbrev AreWordPuts : List (ℕ × ℕ) → Type 0
AreWordPuts [] = Unit {0}
AreWordPuts (put ∷ puts) = (put.1 < 2 ^ 16) × AreWordPuts puts

both_words : (a b : List (ℕ × ℕ)) → AreWordPuts a → AreWordPuts b → AreWordPuts (a ++ b)
both_words [] b h k = k
both_words (x ∷ a) b h k = (h.0, both_words a b h.1 k)

line_words : (line : List ℕ) (puts : List (ℕ × ℕ)) → Gives line puts → AreWordPuts puts
line_words line puts (inl none) = subst AreWordPuts (sym none.1) tt
line_words line puts (inr one) = subst AreWordPuts (sym one.2) (hex_word (one.1).digits (one.0).1 (one.1).word, tt)

lines_words : (ls : List (List ℕ)) (puts : List (ℕ × ℕ)) → AllGive ls puts → AreWordPuts puts
lines_words [] puts is = subst AreWordPuts (sym is) tt
lines_words (l ∷ ls) puts is = subst AreWordPuts (sym is.joined) (both_words is.front is.back (line_words l is.front is.first) (lines_words ls is.back is.others))

port_input : (puts : List (ℕ × ℕ)) → AreWordPuts puts → (port : ℕ) → All (λ w. w < 2 ^ 16) (input_of puts port)
port_input [] h port = All-nil (λ w. w < 2 ^ 16)
port_input (put ∷ puts) h port = by (put.0 == port) (port_input puts h.1 port)
  where
    by : (b : Bool) → All (λ w. w < 2 ^ 16) (input_of puts port) → All (λ w. w < 2 ^ 16) (if b then put.1 ∷ input_of puts port else input_of puts port)
    by true rest = All-cons (λ w. w < 2 ^ 16) put.1 (input_of puts port) h.0 rest
    by false rest = rest

pub text_input : (bytes : List ℕ) (puts : List (ℕ × ℕ)) → PortText bytes puts → IsInput (of_sixteen (input_of puts))
text_input bytes puts is port = by (nat_lt port 16)
  where
    by : (b : Bool) → All (λ w. w < 2 ^ 16) (if b then input_of puts port else [])
    by true = port_input puts (lines_words (lines bytes) puts is) port
    by false = All-nil (λ w. w < 2 ^ 16)

-- second words of instructions
abbrev IsLow : Option ℕ → Type 0
IsLow None = Unit {0}
IsLow (Some w) = w < 65536

second_low : (kind : Form) (f : Fields) → FitsForm kind f → IsLow (fields_second f)
second_low kind fields.NoOperand h = tt
second_low kind (fields.Memory o) h = tt
second_low kind (fields.ShiftedMemory shift o) h = tt
second_low kind (fields.RegisterMemory register o) h = tt
second_low kind (fields.PortMemory port o) h = tt
second_low kind (fields.Pointer i) h = tt
second_low kind (fields.Constant8 constant) h = tt
second_low kind (fields.Constant9 constant) h = tt
second_low kind (fields.Constant13 constant) h = tt
second_low kind (fields.RegisterConstant register constant) h = tt
second_low form.NoOperand (fields.Word word) h = absurd h
second_low form.Memory (fields.Word word) h = absurd h
second_low (form.ShiftedMemory shifts) (fields.Word word) h = absurd h
second_low form.RegisterMemory (fields.Word word) h = absurd h
second_low form.PortMemory (fields.Word word) h = absurd h
second_low form.Pointer (fields.Word word) h = absurd h
second_low form.Constant8 (fields.Word word) h = absurd h
second_low form.Constant9 (fields.Word word) h = absurd h
second_low form.Constant13 (fields.Word word) h = absurd h
second_low form.RegisterConstant (fields.Word word) h = absurd h
second_low form.Word (fields.Word word) h = h
second_low form.ShiftedWord (fields.Word word) h = absurd h
second_low form.RegisterWord (fields.Word word) h = absurd h
second_low form.Target (fields.Word word) h = absurd h
second_low form.NoOperand (fields.ShiftedWord shift word) h = absurd h
second_low form.Memory (fields.ShiftedWord shift word) h = absurd h
second_low (form.ShiftedMemory shifts) (fields.ShiftedWord shift word) h = absurd h
second_low form.RegisterMemory (fields.ShiftedWord shift word) h = absurd h
second_low form.PortMemory (fields.ShiftedWord shift word) h = absurd h
second_low form.Pointer (fields.ShiftedWord shift word) h = absurd h
second_low form.Constant8 (fields.ShiftedWord shift word) h = absurd h
second_low form.Constant9 (fields.ShiftedWord shift word) h = absurd h
second_low form.Constant13 (fields.ShiftedWord shift word) h = absurd h
second_low form.RegisterConstant (fields.ShiftedWord shift word) h = absurd h
second_low form.Word (fields.ShiftedWord shift word) h = absurd h
second_low form.ShiftedWord (fields.ShiftedWord shift word) h = h.1
second_low form.RegisterWord (fields.ShiftedWord shift word) h = absurd h
second_low form.Target (fields.ShiftedWord shift word) h = absurd h
second_low form.NoOperand (fields.RegisterWord register word) h = absurd h
second_low form.Memory (fields.RegisterWord register word) h = absurd h
second_low (form.ShiftedMemory shifts) (fields.RegisterWord register word) h = absurd h
second_low form.RegisterMemory (fields.RegisterWord register word) h = absurd h
second_low form.PortMemory (fields.RegisterWord register word) h = absurd h
second_low form.Pointer (fields.RegisterWord register word) h = absurd h
second_low form.Constant8 (fields.RegisterWord register word) h = absurd h
second_low form.Constant9 (fields.RegisterWord register word) h = absurd h
second_low form.Constant13 (fields.RegisterWord register word) h = absurd h
second_low form.RegisterConstant (fields.RegisterWord register word) h = absurd h
second_low form.Word (fields.RegisterWord register word) h = absurd h
second_low form.ShiftedWord (fields.RegisterWord register word) h = absurd h
second_low form.RegisterWord (fields.RegisterWord register word) h = h.1
second_low form.Target (fields.RegisterWord register word) h = absurd h
second_low form.NoOperand (fields.Target to i) h = absurd h
second_low form.Memory (fields.Target to i) h = absurd h
second_low (form.ShiftedMemory shifts) (fields.Target to i) h = absurd h
second_low form.RegisterMemory (fields.Target to i) h = absurd h
second_low form.PortMemory (fields.Target to i) h = absurd h
second_low form.Pointer (fields.Target to i) h = absurd h
second_low form.Constant8 (fields.Target to i) h = absurd h
second_low form.Constant9 (fields.Target to i) h = absurd h
second_low form.Constant13 (fields.Target to i) h = absurd h
second_low form.RegisterConstant (fields.Target to i) h = absurd h
second_low form.Word (fields.Target to i) h = absurd h
second_low form.ShiftedWord (fields.Target to i) h = absurd h
second_low form.RegisterWord (fields.Target to i) h = absurd h
second_low form.Target (fields.Target to i) h = h.0

abbrev AreLow : List ℕ → Type 0
AreLow [] = Unit {0}
AreLow (w ∷ ws) = (w < 65536) × AreLow ws

both_low : (a b : List ℕ) → AreLow a → AreLow b → AreLow (a ++ b)
both_low [] b h k = k
both_low (x ∷ a) b h k = (h.0, both_low a b h.1 k)

instr_low : (i : Instr) → IsInstr i → AreLow (instr_words i)
instr_low i fits = by (second_word i) (first_word-lt i fits) (second_low (row (row_of i)).form (fields_of i) fits)
  where
    by : (o : Option ℕ) → first_word i < 65536 → IsLow o → AreLow (with_second (first_word i) o)
    by None first more = (first, tt)
    by (Some w) first more = (first, (more, tt))

code_low : (code : List Instr) → AllByRecursion IsInstr code → AreLow (code_words code)
code_low [] fits = tt
code_low (i ∷ code) fits = both_low (instr_words i) (code_words code) (instr_low i fits.0) (code_low code fits.1)

word_low : (ws : List ℕ) → AreLow ws → (a : ℕ) → slice_index ws a < 65536
word_low [] h a = lit< tt
word_low (w ∷ ws) h zero = h.0
word_low (w ∷ ws) h (suc a) = word_low ws h.1 a

word_behind : (ws : List ℕ) (a : ℕ) → length ws ≤ a → slice_index ws a < 65536
word_behind [] a behind = lit< tt
word_behind (w ∷ ws) zero behind = absurd (omega (arith, behind))
word_behind (w ∷ ws) (suc a) behind = word_behind ws a (omega (arith, behind))

-- each word of an image is one of a piece
image_low : (pieces : List Piece) (image : Contents) → Linked pieces image → PiecesFit pieces → (a : ℕ) → slice_index image.words a < 65536
image_low pieces image linked fit a = by (cases_lt a (length image.words))
  where
    by : (a < length image.words) ⊎ (length image.words ≤ a) → slice_index image.words a < 65536
    by (inr behind) = word_behind image.words a behind
    by (inl below) =
        let names : List ℕ → ℕ = λ name. wrap16 (address_in linked.place pieces name) in
        let filled = linked.filled a below in
        let k : ℕ = filled.0 in
        let p : Piece = filled.1.piece in
        let from = filled.1.begins in
        let ends = filled.1.within in
        let size = piece_code-size names (linked.place k) p in
        let same : linked.place k + (a - linked.place k) ≡ a = omega (arith, from) in
        let is = (linked.placed k p filled.1.there).code (a - linked.place k) (omega (arith, from, ends, size)) in
        subst (λ w. w < 65536) (sym is ∙ ap (λ n. slice_index image.words n) same)
        (word_low (code_words (piece_code names (linked.place k) p)) (code_low (piece_code names (linked.place k) p) (piece_fits names (linked.place k) p (λ name. wraps_low (address_in linked.place pieces name)) (one_fits pieces fit k p filled.1.there).0)) (a - linked.place k))

pub words_fit : (pieces : List Piece) (image : Contents) → Linked pieces image → PiecesFit pieces → All (λ w. w < 2 ^ 16) image.words
words_fit pieces image linked fit a d within = subst (λ w. w < 2 ^ 16) (sym (get_or_default_zero image.words a d within)) (image_low pieces image linked fit a)

pub zero_starts : (pieces : List Piece) (image : Contents) → Linked pieces image → PiecesFit pieces → IsStart (zero_start image.words)
zero_starts pieces image linked fit = record {
  acc = lit< tt;
  t = lit< tt;
  p = lit< tt;
  ar = λ n. lit< tt;
  arp = lit< tt;
  dp = lit< tt;
  pm = lit< tt;
  program = image_low pieces image linked fit;
  ram = λ a. lit< tt;
}

pub zero_begins : (words : List ℕ) → BeginsWith words (zero_start words)
zero_begins words a within = refl
