-- The text of a certificate is read as the certificate.
use Rattle.std.proofs.Common.{rules, ◌≡◌, ◌≢◌, ℕ, zero, suc, ◌+◌, ◌-◌, ◌/◌, ◌%◌, ◌<◌, ◌≤◌, ◌^◌, ◌==◌, min, Bool, true, false, nat_lt, List, [], ◌∷◌, ◌++◌, length, take, drop, map, refl, sym, ap, subst, ◌∙◌, inl, inr, arith, append_assoc, append-nil, length-append, length-drop, take-append-drop}
use Rattle.std.specs.Prelude.{decimal, codes, All, Some}
use Rattle.std.specs.List.{AllByRecursion, sum_by, flat_map}
use Rattle.std.proofs.lemmas.List.{length-take}
use Rattle.std.proofs.lemmas.List.Elements.{recursion_from_All}
use Rattle.std.proofs.lemmas.List.Sums.{sum_by_push, sum_by-cons}
use Rattle.std.proofs.lemmas.Bool.Decides.{nat_tests}
use Rattle.word_base.specs.Name.{IsNamePart}
use Rattle.lay_model.specs.Sequences.{Block, IsBlock, counted}
use Rattle.lay_cost.proofs.Arranged.{scalars_below, each_list}
use Rattle.text_base.specs.Lines.{with_feed, lines_text, Lacks}
use Rattle.lay_lines.specs.BlockText.{spaced, scalars_line, step_line, block_line}
use Rattle.text_base.proofs.Numbers.{decimal_lacks}
use Rattle.lay_tree.specs.declared.answer.Mark.{Mark}
use Rattle.lay_tree.specs.declared.answer.Mark.TheVariants.{Branched, Closed}
use Rattle.lay_cert.specs.declared.certificate.Claim.{Claim}
use Rattle.lay_cert.specs.declared.certificate.Claim.TheVariants.{Optimal, Best}
use Rattle.text_base.specs.Hex.{hex_digit, hex4}
use Rattle.lay_cert.specs.Frames.{Frame, IsWhole, AreWhole, IsClaim}
use Rattle.lay_cert.specs.CertText.{version_line, frame_line, registers_line, cost_line, claim_line, marks_line, frame_end, last_line, log_lines, layout_lines, frame_lines, cert_text, old_text}
use Rattle.lay_lines.specs.ListText.{list_line, list_lines}
use Rattle.lay_lines.specs.MarkText.{mark_bytes, mark_lines, line_count, held, is_below, is_short}
use Rattle.lay_cert.specs.CertReading.{Head, Between, Named, Counted, Stepped, Listing, Costed, Claimed, Marking, Place, Unread, Inside, Finished, Goes, Step, Reached, Reads, head_of, frame_of, marked, registered, counted_marks}
use Rattle.lay_cert.proofs.Places.{reached_more, reached_start}

-- ---- no line has a line feed

Lacks-append : (xs ys : List ℕ) → Lacks 10 xs → Lacks 10 ys → Lacks 10 (xs ++ ys)
Lacks-append [] ys a b = b
Lacks-append (x ∷ xs) ys a b = (a.0, Lacks-append xs ys a.1 b)

number_lacks : (n : ℕ) → n < 2 ^ 64 → Lacks 10 (decimal n)
number_lacks n lt = decimal_lacks 10 n (omega arith) lt

spaced_lacks : (numbers : List ℕ) → AllByRecursion (λ n. n < 2 ^ 64) numbers → Lacks 10 (spaced numbers)
spaced_lacks [] a = tt {0}
spaced_lacks (n ∷ ns) a = (omega arith, Lacks-append (decimal n) (spaced ns) (number_lacks n a.0) (spaced_lacks ns a.1))

digit_no_feed : (d : ℕ) → hex_digit d ≢ 10
digit_no_feed d e = grind (arith, nat_tests)

hex_lacks : (w : ℕ) → Lacks 10 (hex4 w)
hex_lacks w = (digit_no_feed (w / 4096), (digit_no_feed (w / 256 % 16), (digit_no_feed (w / 16 % 16), (digit_no_feed (w % 16), tt {0}))))

part_no_feed : (b : ℕ) → IsNamePart b → b ≢ 10
part_no_feed b h e = grind arith

name_lacks : (name : List ℕ) → AllByRecursion IsNamePart name → Lacks 10 name
name_lacks [] a = tt {0}
name_lacks (b ∷ bs) a = (part_no_feed b a.0, name_lacks bs a.1)

marks_lack : (marks : List Mark) → Lacks 10 (mark_bytes marks)
marks_lack [] = tt {0}
marks_lack (Branched ∷ ms) = (omega arith, marks_lack ms)
marks_lack (Closed ∷ ms) = (omega arith, marks_lack ms)

version_word : Lacks 10 (codes "C25 CERTIFICATE ")
version_word = search rules

frame_word : Lacks 10 (codes "frame ")
frame_word = search rules

registers_word : Lacks 10 (codes "registers ")
registers_word = search rules

step_word : Lacks 10 (codes "step ")
step_word = search rules

scalars_word : Lacks 10 (codes "scalars ")
scalars_word = search rules

block_word : Lacks 10 (codes "block ")
block_word = search rules

list_word : Lacks 10 (codes "list ")
list_word = search rules

cost_word : Lacks 10 (codes "cost ")
cost_word = search rules

marks_word : Lacks 10 (codes "marks ")
marks_word = search rules

optimal_lacks : Lacks 10 (codes "claim optimal")
optimal_lacks = search rules

best_word : Lacks 10 (codes "claim best ")
best_word = search rules

frame_end_lacks : Lacks 10 frame_end
frame_end_lacks = search rules

last_lacks : Lacks 10 last_line
last_lacks = search rules

claim_lacks : (claim : Claim) → IsClaim claim → Lacks 10 (claim_line claim)
claim_lacks Optimal h = optimal_lacks
claim_lacks (Best piece quota) h =
    Lacks-append (codes "claim best ") (decimal piece ++ 32 ∷ decimal quota) best_word (Lacks-append (decimal piece) (32 ∷ decimal quota) (number_lacks piece (omega (arith, h.0))) (omega arith, number_lacks quota (omega (arith, h.1))))

-- ---- lines that lead on

record At (bytes text : List ℕ) (q : Place) : Type 0 where
  number : ℕ
  reached : Reached bytes number text q

at_line : (bytes line more : List ℕ) (lines : List (List ℕ)) (q r : Place) → At bytes (lines_text (line ∷ lines) ++ more) q → Lacks 10 line → Step q line (lines_text lines ++ more) (Goes r) → At bytes (lines_text lines ++ more) r
at_line bytes line more lines q r a w s = record {
  number = a.number + 1;
  reached = reached_more bytes a.number line (lines_text lines ++ more) q r (subst (λ t. Reached bytes a.number t q) (append_assoc (with_feed line) (lines_text lines) more) a.reached) w s;
}

-- ---- blocks

record IsGood (scalars : ℕ) (b : Block) : Type 0 where
  block : IsBlock b
  weight : b.weight < 2 ^ 32
  below : All (λ x. x < scalars) b.accesses

below_number : (scalars : ℕ) (xs : List ℕ) → scalars ≤ 64 → AllByRecursion (λ x. x < scalars) xs → AllByRecursion (λ n. n < 2 ^ 64) xs
below_number scalars [] few a = tt {0}
below_number scalars (x ∷ xs) few a = (omega (arith, a.0), below_number scalars xs few a.1)

block_lacks : (scalars : ℕ) (b : Block) → scalars ≤ 64 → IsGood scalars b → Lacks 10 (block_line b)
block_lacks scalars b few g =
    Lacks-append (codes "block ") (decimal b.weight ++ spaced b.accesses) block_word (Lacks-append (decimal b.weight) (spaced b.accesses) (number_lacks b.weight (omega (arith, g.weight))) (spaced_lacks b.accesses (below_number scalars b.accesses few (recursion_from_All (λ x. x < scalars) b.accesses g.below))))

blocks_go : (bytes more : List ℕ) (lines : List (List ℕ)) (steps : Bool) (fs : List Frame) (h : Head) (front blocks : List Block) → h.scalars ≤ 64 → AllByRecursion (IsGood h.scalars) blocks → sum_by counted front + sum_by counted blocks ≤ 2 ^ 60
    → At bytes (lines_text (map block_line blocks ++ lines) ++ more) (Inside steps fs (Listing h front [] [])) → At bytes (lines_text lines ++ more) (Inside steps fs (Listing h (front ++ blocks) [] []))
blocks_go bytes more lines steps fs h front [] few g le a = subst (λ b. At bytes (lines_text lines ++ more) (Inside steps fs (Listing h b [] []))) (sym (append-nil front)) a
blocks_go bytes more lines steps fs h front (b ∷ bs) few g le a =
    let sum = sum_by-cons counted b bs in
    let next = at_line bytes (block_line b) more (map block_line bs ++ lines) (Inside steps fs (Listing h front [] [])) (Inside steps fs (Listing h (front ++ b ∷ []) [] [])) a (block_lacks h.scalars b few g.0)
    (inl (b, record { few = few; before = refl; is_block = record { block = g.0.block; weight = g.0.weight; below = g.0.below; fits = omega (arith, sum, le) }; text = refl }, refl))
    in
    let rest = blocks_go bytes more lines steps fs h (front ++ b ∷ []) bs few g.1 (omega (arith, sum, le, sum_by_push counted front b)) next in
    subst (λ l. At bytes (lines_text lines ++ more) (Inside steps fs (Listing h l [] []))) (append_assoc front (b ∷ []) bs) rest

-- ---- lists

lists_go : (bytes more : List ℕ) (lines : List (List ℕ)) (steps : Bool) (fs : List Frame) (h : Head) (blocks : List Block) (front bases : List ℕ) (before lists : List (List ℕ)) → AllByRecursion (λ b. b < 2 ^ 16) bases → AllByRecursion (AllByRecursion (λ n. n < 2 ^ 64)) lists → length bases ≡ length lists → length before + length lists ≤ h.registers
    → At bytes (lines_text (list_lines bases lists ++ lines) ++ more) (Inside steps fs (Listing h blocks front before)) → At bytes (lines_text lines ++ more) (Inside steps fs (Listing h blocks (front ++ bases) (before ++ lists)))
lists_go bytes more lines steps fs h blocks front [] before [] g k same le a =
    subst (λ b. At bytes (lines_text lines ++ more) (Inside steps fs (Listing h blocks b (before ++ [])))) (sym (append-nil front)) (subst (λ b. At bytes (lines_text lines ++ more) (Inside steps fs (Listing h blocks front b))) (sym (append-nil before)) a)
lists_go bytes more lines steps fs h blocks front [] before (l ∷ ls) g k same le a = absurd (omega (arith, same))
lists_go bytes more lines steps fs h blocks front (b ∷ bs) before [] g k same le a = absurd (omega (arith, same))
lists_go bytes more lines steps fs h blocks front (b ∷ bs) before (l ∷ ls) g k same le a =
    let lacks = Lacks-append (codes "list ") (hex4 b ++ spaced l) list_word (Lacks-append (hex4 b) (spaced l) (hex_lacks b) (spaced_lacks l k.0)) in
    let next = at_line bytes (list_line b l) more (list_lines bs ls ++ lines) (Inside steps fs (Listing h blocks front before)) (Inside steps fs (Listing h blocks (front ++ b ∷ []) (before ++ l ∷ []))) a lacks
    (inr (inl (b, l, record { room = omega (arith, le); fits = g.0; each = k.0; text = refl }, refl)))
    in
    let rest = lists_go bytes more lines steps fs h blocks (front ++ b ∷ []) bs (before ++ l ∷ []) ls g.1 k.1 (omega (arith, same)) (omega (arith, le, length-append before (l ∷ []))) next in
    subst (λ x. At bytes (lines_text lines ++ more) (Inside steps fs (Listing h blocks x (before ++ l ∷ ls)))) (append_assoc front (b ∷ []) bs) (subst (λ x. At bytes (lines_text lines ++ more) (Inside steps fs (Listing h blocks ((front ++ b ∷ []) ++ bs) x))) (append_assoc before (l ∷ []) ls) rest)

-- ---- marks

held_marks : (all here : ℕ) (marks : List Mark) (rest : List ℕ) → 0 < here + length marks → held all here (mark_bytes marks ++ 10 ∷ rest) ≡ held (all + (here + length marks)) 0 rest
held_marks all here [] rest some =
    let not_0 : (here == 0) ≡ false = grind (arith, nat_tests) in
    let sum : all + here ≡ all + (here + 0) = omega arith in
    rw not_0 (ap (λ n. held n 0 rest) sum)
held_marks all here (Branched ∷ ms) rest some =
    held_marks all (here + 1) ms rest (omega arith) ∙ ap (λ n. held n 0 rest) (let e : all + (here + 1 + length ms) ≡ all + (here + suc (length ms)) = omega arith in e)
held_marks all here (Closed ∷ ms) rest some =
    held_marks all (here + 1) ms rest (omega arith) ∙ ap (λ n. held n 0 rest) (let e : all + (here + 1 + length ms) ≡ all + (here + suc (length ms)) = omega arith in e)

held_lines : (n all : ℕ) (marks : List Mark) (rest : List ℕ) → n ≡ line_count (length marks) → held all 0 (lines_text (mark_lines n marks) ++ rest) ≡ held (all + length marks) 0 rest
held_lines zero all marks rest e = ap (λ k. held k 0 rest) (let none : all ≡ all + length marks = omega (arith, e) in none)
held_lines (suc n) all marks rest e =
    let line = take 64 marks in
    let after = drop 64 marks in
    let taken : length line ≡ min 64 (length marks) = length-take 64 marks in
    let left = length-drop 64 marks in
    ap (λ t. held all 0 t) (append_assoc (with_feed (mark_bytes line)) (lines_text (mark_lines n after)) rest ∙ append_assoc (mark_bytes line) (10 ∷ []) (lines_text (mark_lines n after) ++ rest))
    ∙ held_marks all 0 line (lines_text (mark_lines n after) ++ rest) (omega (arith, e, taken))
    ∙ held_lines n (all + (0 + length line)) after rest (omega (arith, e, left))
    ∙ ap (λ k. held k 0 rest) (let sum : all + (0 + length line) + length after ≡ all + length marks = omega (arith, taken, left) in sum)

marked_none : (f : Frame) → marked f [] ≡ f
marked_none f = ap (λ l. record {
  name = f.name;
  registers = f.registers;
  seq = f.seq;
  arr = f.arr;
  bases = f.bases;
  cost = f.cost;
  claim = f.claim;
  log = l;
}) (append-nil f.log)

marked_more : (f : Frame) (a b : List Mark) → marked (marked f a) b ≡ marked f (a ++ b)
marked_more f a b = ap (λ l. record {
  name = f.name;
  registers = f.registers;
  seq = f.seq;
  arr = f.arr;
  bases = f.bases;
  cost = f.cost;
  claim = f.claim;
  log = l;
}) (append_assoc f.log a b)

marks_go : (bytes more : List ℕ) (lines : List (List ℕ)) (steps : Bool) (fs : List Frame) (f : Frame) (n left : ℕ) (marks : List Mark) → n ≡ line_count (length marks) → left ≡ length marks
    → At bytes (lines_text (mark_lines n marks ++ lines) ++ more) (Inside steps fs (Marking f left)) → At bytes (lines_text lines ++ more) (Inside steps fs (Marking (marked f marks) 0))
marks_go bytes more lines steps fs f zero left [] e is a = subst (λ k. At bytes (lines_text lines ++ more) (Inside steps fs (Marking (marked f []) k))) is (subst (λ g. At bytes (lines_text lines ++ more) (Inside steps fs (Marking g left))) (sym (marked_none f)) a)
marks_go bytes more lines steps fs f zero left (m ∷ ms) e is a = absurd (omega (arith, e))
marks_go bytes more lines steps fs f (suc n) left marks e is a =
    let line = take 64 marks in
    let after = drop 64 marks in
    let taken : length line ≡ min 64 (length marks) = length-take 64 marks in
    let next = at_line bytes (mark_bytes line) more (mark_lines n after ++ lines) (Inside steps fs (Marking f left)) (Inside steps fs (Marking (marked f line) (left - min left 64))) a (marks_lack line)
    (inl (line, record { some = omega (arith, e, is); full = omega (arith, taken, is); text = refl }, refl))
    in
    let rest = marks_go bytes more lines steps fs (marked f line) n (left - min left 64) after (omega (arith, e, length-drop 64 marks)) (omega (arith, is, length-drop 64 marks)) next in
    subst (λ g. At bytes (lines_text lines ++ more) (Inside steps fs (Marking g 0))) (marked_more f line after ∙ ap (marked f) (take-append-drop 64 marks)) rest

-- ---- a frame

registers_go : (bytes more : List ℕ) (lines : List (List ℕ)) (steps : Bool) (fs : List Frame) (f : Frame) → IsWhole f
    → At bytes (lines_text (frame_line f.name ∷ registers_line f.registers ∷ lines) ++ more) (Inside steps fs Between) → At bytes (lines_text lines ++ more) (Inside steps fs (registered steps f.name f.registers))
registers_go bytes more lines steps fs f w a =
    let named = at_line bytes (frame_line f.name) more (registers_line f.registers ∷ lines) (Inside steps fs Between) (Inside steps fs (Named f.name)) a (Lacks-append (codes "frame ") f.name frame_word (name_lacks f.name (recursion_from_All IsNamePart f.name w.frame.name.each))) (inl (f.name, w.frame.name, refl, refl)) in
    at_line bytes (registers_line f.registers) more lines (Inside steps fs (Named f.name)) (Inside steps fs (registered steps f.name f.registers)) named (Lacks-append (codes "registers ") (decimal f.registers) registers_word (number_lacks f.registers (omega (arith, w.frame.few)))) (f.registers, w.frame.some, w.frame.few, refl, refl)

scalars_go : (bytes more : List ℕ) (lines : List (List ℕ)) (steps : Bool) (fs : List Frame) (f : Frame) → IsWhole f
    → At bytes (lines_text (scalars_line f.seq.scalars ∷ lines) ++ more) (Inside steps fs (Stepped f.name f.registers f.seq.step)) → At bytes (lines_text lines ++ more) (Inside steps fs (Listing (head_of f.name f.registers f.seq.step f.seq.scalars) [] [] []))
scalars_go bytes more lines steps fs f w a =
    at_line bytes (scalars_line f.seq.scalars) more lines (Inside steps fs (Stepped f.name f.registers f.seq.step)) (Inside steps fs (Listing (head_of f.name f.registers f.seq.step f.seq.scalars) [] [] [])) a (Lacks-append (codes "scalars ") (decimal f.seq.scalars) scalars_word (number_lacks f.seq.scalars (omega (arith, w.sequence.few)))) (f.seq.scalars, w.sequence.few, refl, refl)

head_go : (bytes more : List ℕ) (lines : List (List ℕ)) (steps : Bool) (fs : List Frame) (f : Frame) → IsWhole f → (steps ≡ false → f.seq.step ≡ 1)
    → At bytes (lines_text (frame_lines steps f ++ lines) ++ more) (Inside steps fs Between) → At bytes (lines_text (layout_lines f ++ lines) ++ more) (Inside steps fs (Listing (head_of f.name f.registers f.seq.step f.seq.scalars) [] [] []))
head_go bytes more lines true fs f w one a =
    let counted = registers_go bytes more (step_line f.seq.step ∷ scalars_line f.seq.scalars ∷ (layout_lines f ++ lines)) true fs f w a in
    let stepped = at_line bytes (step_line f.seq.step) more (scalars_line f.seq.scalars ∷ (layout_lines f ++ lines)) (Inside true fs (Counted f.name f.registers)) (Inside true fs (Stepped f.name f.registers f.seq.step)) counted (Lacks-append (codes "step ") (decimal f.seq.step) step_word (number_lacks f.seq.step (omega (arith, w.sequence.near)))) (f.seq.step, w.sequence.moves, w.sequence.near, refl, refl) in
    scalars_go bytes more (layout_lines f ++ lines) true fs f w stepped
head_go bytes more lines false fs f w one a =
    let counted = registers_go bytes more (scalars_line f.seq.scalars ∷ (layout_lines f ++ lines)) false fs f w a in
    scalars_go bytes more (layout_lines f ++ lines) false fs f w (subst (λ d. At bytes (lines_text (scalars_line f.seq.scalars ∷ (layout_lines f ++ lines)) ++ more) (Inside false fs (Stepped f.name f.registers d))) (sym (one refl)) counted)

good_blocks : (scalars : ℕ) (bs : List Block) → AllByRecursion IsBlock bs → AllByRecursion (λ b. b.weight < 2 ^ 32) bs → AllByRecursion (λ b. All (λ x. x < scalars) b.accesses) bs → AllByRecursion (IsGood scalars) bs
good_blocks scalars [] a w h = tt {0}
good_blocks scalars (b ∷ bs) a w h = (record { block = a.0; weight = w.0; below = h.0 }, good_blocks scalars bs a.1 w.1 h.1)

good_lists : (n : ℕ) (lists : List (List ℕ)) → n ≤ 64 → AllByRecursion (λ l. All (λ s. s < n) l) lists → AllByRecursion (AllByRecursion (λ m. m < 2 ^ 64)) lists
good_lists n [] few a = tt {0}
good_lists n (l ∷ ls) few a = (below_number n l few (recursion_from_All (λ s. s < n) l a.0), good_lists n ls few a.1)

pub lines-append : (xs ys : List (List ℕ)) → lines_text (xs ++ ys) ≡ lines_text xs ++ lines_text ys
lines-append [] ys = refl
lines-append (x ∷ xs) ys = ap (λ t. with_feed x ++ t) (lines-append xs ys) ∙ sym (append_assoc (with_feed x) (lines_text xs) (lines_text ys))

-- the marks of a frame are there
enough : (marks : List Mark) (lines : List (List ℕ)) (more : List ℕ) → is_short (length marks) (lines_text (mark_lines (line_count (length marks)) marks ++ frame_end ∷ lines) ++ more) ≡ false
enough marks lines more =
    let n = line_count (length marks) in
    let split : lines_text (mark_lines n marks ++ frame_end ∷ lines) ++ more ≡ lines_text (mark_lines n marks) ++ (lines_text (frame_end ∷ lines) ++ more) =
    ap (λ t. t ++ more) (lines-append (mark_lines n marks) (frame_end ∷ lines)) ∙ append_assoc (lines_text (mark_lines n marks)) (lines_text (frame_end ∷ lines)) more
    in
    let count = ap (λ t. held 0 0 t) split ∙ held_lines n 0 marks (lines_text (frame_end ∷ lines) ++ more) refl in
    let found : held 0 0 (lines_text (mark_lines n marks ++ frame_end ∷ lines) ++ more) ≡ Some (0 + length marks) = count in
    ap (is_below (length marks)) found ∙ (let e : nat_lt (0 + length marks) (length marks) ≡ false = grind (arith, nat_tests) in e)

log_go : (bytes more : List ℕ) (lines : List (List ℕ)) (steps : Bool) (fs : List Frame) (f : Frame) → IsWhole f
    → At bytes (lines_text (log_lines f ++ lines) ++ more) (Inside steps fs (Claimed (frame_of (head_of f.name f.registers f.seq.step f.seq.scalars) f.seq.blocks f.bases f.arr f.cost f.claim))) → At bytes (lines_text lines ++ more) (Inside steps (fs ++ f ∷ []) Between)
log_go bytes more lines steps fs f w a =
    let g = frame_of (head_of f.name f.registers f.seq.step f.seq.scalars) f.seq.blocks f.bases f.arr f.cost f.claim in
    let n = line_count (length f.log) in
    let regrouped = append_assoc (mark_lines n f.log) (frame_end ∷ []) lines in
    let b = subst (λ l. At bytes (lines_text (marks_line (length f.log) ∷ l) ++ more) (Inside steps fs (Claimed g))) regrouped a in
    let turn : Goes (Inside steps fs (Marking g (length f.log))) ≡ counted_marks steps fs g (length f.log) (lines_text (mark_lines n f.log ++ frame_end ∷ lines) ++ more) = rw (enough f.log lines more) refl in
    let counted = at_line bytes (marks_line (length f.log)) more (mark_lines n f.log ++ frame_end ∷ lines) (Inside steps fs (Claimed g)) (Inside steps fs (Marking g (length f.log))) b (Lacks-append (codes "marks ") (decimal (length f.log)) marks_word (number_lacks (length f.log) w.log)) (length f.log, w.log, refl, turn) in
    let all = marks_go bytes more (frame_end ∷ lines) steps fs g n (length f.log) f.log refl refl counted in
    at_line bytes frame_end more lines (Inside steps fs (Marking (marked g f.log) 0)) (Inside steps (fs ++ f ∷ []) Between) all frame_end_lacks (inr (refl, refl, refl))

layout_go : (bytes more : List ℕ) (lines : List (List ℕ)) (steps : Bool) (fs : List Frame) (f : Frame) → IsWhole f
    → At bytes (lines_text (layout_lines f ++ lines) ++ more) (Inside steps fs (Listing (head_of f.name f.registers f.seq.step f.seq.scalars) [] [] [])) → At bytes (lines_text lines ++ more) (Inside steps (fs ++ f ∷ []) Between)
layout_go bytes more lines steps fs f w a =
    let h = head_of f.name f.registers f.seq.step f.seq.scalars in
    let last = cost_line f.cost ∷ claim_line f.claim ∷ log_lines f in
    let one = append_assoc (map block_line f.seq.blocks) (list_lines f.bases f.arr ++ last) lines in
    let two = append_assoc (list_lines f.bases f.arr) last lines in
    let b = subst (λ l. At bytes (lines_text l ++ more) (Inside steps fs (Listing h [] [] []))) (one ∙ ap (λ l. map block_line f.seq.blocks ++ l) two) a in
    let good = good_blocks f.seq.scalars f.seq.blocks (recursion_from_All IsBlock f.seq.blocks w.sequence.blocks) (recursion_from_All (λ x. x.weight < 2 ^ 32) f.seq.blocks w.weights) (recursion_from_All (λ x. All (λ s. s < f.seq.scalars) x.accesses) f.seq.blocks w.sequence.scalars) in
    let blocks = blocks_go bytes more (list_lines f.bases f.arr ++ (last ++ lines)) steps fs h [] f.seq.blocks w.sequence.few good (omega (arith, w.sequence.countable)) b in
    let below = recursion_from_All (λ l. All (λ s. s < f.seq.scalars) l) f.arr (each_list (λ s. s < f.seq.scalars) f.arr (scalars_below f.seq.scalars f.arr w.frame.arranged)) in
    let lists = lists_go bytes more (last ++ lines) steps fs h f.seq.blocks [] f.bases [] f.arr (recursion_from_All (λ x. x < 2 ^ 16) f.bases w.bases) (good_lists f.seq.scalars f.arr w.sequence.few below) w.frame.based (omega (arith, w.frame.lists)) blocks in
    let cost = at_line bytes (cost_line f.cost) more (claim_line f.claim ∷ (log_lines f ++ lines)) (Inside steps fs (Listing h f.seq.blocks f.bases f.arr)) (Inside steps fs (Costed h f.seq.blocks f.bases f.arr f.cost)) lists (Lacks-append (codes "cost ") (decimal f.cost) cost_word (number_lacks f.cost w.cost)) (inr (inr (f.cost, record { arranged = w.frame.arranged; fits = w.cost; text = refl }, refl))) in
    let claim = at_line bytes (claim_line f.claim) more (log_lines f ++ lines) (Inside steps fs (Costed h f.seq.blocks f.bases f.arr f.cost)) (Inside steps fs (Claimed (frame_of h f.seq.blocks f.bases f.arr f.cost f.claim))) cost (claim_lacks f.claim w.claim) (f.claim, w.claim, refl, refl) in
    log_go bytes more lines steps fs f w claim

-- ---- all frames

frames_go : (bytes more : List ℕ) (lines : List (List ℕ)) (steps : Bool) (fs gs : List Frame) → AllByRecursion IsWhole gs → (steps ≡ false → AllByRecursion (λ f. f.seq.step ≡ 1) gs)
    → At bytes (lines_text (flat_map (frame_lines steps) gs ++ lines) ++ more) (Inside steps fs Between) → At bytes (lines_text lines ++ more) (Inside steps (fs ++ gs) Between)
frames_go bytes more lines steps fs [] w one a = subst (λ x. At bytes (lines_text lines ++ more) (Inside steps x Between)) (sym (append-nil fs)) a
frames_go bytes more lines steps fs (g ∷ gs) w one a =
    let rest = flat_map (frame_lines steps) gs ++ lines in
    let b = subst (λ l. At bytes (lines_text l ++ more) (Inside steps fs Between)) (append_assoc (frame_lines steps g) (flat_map (frame_lines steps) gs) lines) a in
    let first = layout_go bytes more rest steps fs g w.0 (head_go bytes more rest steps fs g w.0 (λ e. (one e).0) b) in
    subst (λ x. At bytes (lines_text lines ++ more) (Inside steps x Between)) (append_assoc fs (g ∷ []) gs) (frames_go bytes more lines steps (fs ++ g ∷ []) gs w.1 (λ e. (one e).1) first)

finish : (bytes : List ℕ) (steps : Bool) (fs : List Frame) → AllByRecursion IsWhole fs → (steps ≡ false → AllByRecursion (λ f. f.seq.step ≡ 1) fs)
    → At bytes (lines_text (flat_map (frame_lines steps) fs ++ last_line ∷ []) ++ []) (Inside steps [] Between) → Reads bytes fs
finish bytes steps fs w one a =
    let all = frames_go bytes [] (last_line ∷ []) steps [] fs w one a in
    let end = at_line bytes last_line [] [] (Inside steps fs Between) (Finished fs) all last_lacks (inr (refl, refl)) in
    record { number = end.number; reached = end.reached }

starts : (bytes : List ℕ) (lines : List (List ℕ)) (version : ℕ) (r : Place) → version < 2 ^ 64 → bytes ≡ lines_text (version_line version ∷ lines) → Step Unread (version_line version) (lines_text lines ++ []) (Goes r) → At bytes (lines_text lines ++ []) r
starts bytes lines version r lt e s =
    let start : At bytes (lines_text (version_line version ∷ lines) ++ []) Unread = record { number = 0; reached = subst (λ t. Reached bytes 0 t Unread) (e ∙ sym (append-nil (lines_text (version_line version ∷ lines)))) (reached_start bytes) } in
    at_line bytes (version_line version) [] lines Unread r start (Lacks-append (codes "C25 CERTIFICATE ") (decimal version) version_word (number_lacks version lt)) s

pub written_read : (fs : List Frame) → AreWhole fs → Reads (cert_text fs) fs
written_read fs w =
    finish (cert_text fs) true fs (recursion_from_All IsWhole fs w) (λ e. absurd cc)
    (starts (cert_text fs) (flat_map (frame_lines true) fs ++ last_line ∷ []) 2 (Inside true [] Between) (omega arith) refl (2, omega arith, refl, refl))

pub old_read : (fs : List Frame) → AreWhole fs → All (λ f. f.seq.step ≡ 1) fs → Reads (old_text fs) fs
old_read fs w one =
    finish (old_text fs) false fs (recursion_from_All IsWhole fs w) (λ e. recursion_from_All (λ f. f.seq.step ≡ 1) fs one)
    (starts (old_text fs) (flat_map (frame_lines false) fs ++ last_line ∷ []) 1 (Inside false [] Between) (omega arith) refl (1, omega arith, refl, refl))
