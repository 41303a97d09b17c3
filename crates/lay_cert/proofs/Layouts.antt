-- What the reader of blocks, lists, costs and marks has read, and where it is stuck.
use Rattle.std.proofs.Common.{◌≡◌, ◌≢◌, ℕ, ◌+◌, ◌-◌, ◌<◌, ◌≤◌, ◌^◌, min, Bool, List, [], ◌∷◌, ◌++◌, length, map, refl, sym, ap, subst, ◌∙◌, inl, inr, arith, append_assoc, append-nil}
use Rattle.std.specs.Prelude.{decimal, codes, All}
use Rattle.std.specs.List.{AllByRecursion, sum_by}
use Rattle.std.proofs.lemmas.List.{map-append}
use Rattle.std.proofs.lemmas.List.Elements.{recursion_from_All}
use Rattle.lay_model.specs.Sequences.{Block, counted}
use Rattle.lay_model.specs.Arrangements.{Arranges}
use Rattle.lay_cost.proofs.Arranged.{scalars_below, each_list}
use Rattle.lay_lines.specs.BlockText.{block_line, IsBlockOf}
use Rattle.lay_tree.specs.declared.answer.Mark.{Mark}
use Rattle.lay_cert.specs.declared.fault.CertFault.TheVariants as faults
use Rattle.lay_cert.specs.Frames.{Frame}
use Rattle.lay_lines.specs.ListText.{list_line, ListsSo, capped}
use Rattle.lay_cert.specs.CertText.{cost_line}
use Rattle.lay_lines.specs.MarkText.{mark_bytes, JoinsMarks}
use Rattle.lay_cert.specs.CertReading.{Head, Listing, Costed, Marking, Inside, marked, Says}
use Rattle.lay_cert.specs.LineReading.{Cursor, Stands, Moves, BeginsNot, IsNotNext, HasLists}
use Rattle.lay_cert.proofs.Places.{goes, stuck_inside, none_at, not_it}

block_word_list : (rest : List ℕ) (base : ℕ) (numbers : List ℕ) → codes "block " ++ rest ≢ list_line base numbers
block_word_list rest base numbers e = let first : ◌≡◌ {A = ℕ} 98 108 = cc in omega arith

block_word_cost : (rest : List ℕ) (cost : ℕ) → codes "block " ++ rest ≢ cost_line cost
block_word_cost rest cost e = let first : ◌≡◌ {A = ℕ} 98 99 = cc in omega arith

list_word_block : (rest : List ℕ) (b : Block) → codes "list " ++ rest ≢ block_line b
list_word_block rest b e = let first : ◌≡◌ {A = ℕ} 108 98 = cc in omega arith

list_word_cost : (rest : List ℕ) (cost : ℕ) → codes "list " ++ rest ≢ cost_line cost
list_word_cost rest cost e = let first : ◌≡◌ {A = ℕ} 108 99 = cc in omega arith

length_kept : (lists : List (List ℕ)) → length (map capped lists) ≡ length lists
length_kept [] = refl
length_kept (l ∷ ls) = omega (arith, length_kept ls)

-- ---- blocks

pub block_read : (bytes : List ℕ) (o n : Cursor) (line : List ℕ) (b : Block) (blocks new : List Block) (room scalars : ℕ) (steps : Bool) (fs : List Frame) (h : Head) → Stands bytes o (Inside steps fs (Listing h blocks [] [])) → Moves o line n → h.scalars ≡ scalars → scalars ≤ 64 → sum_by counted blocks + room ≡ 2 ^ 60
    → IsBlockOf scalars room b → line ≡ block_line b → new ≡ blocks ++ b ∷ [] → Stands bytes n (Inside steps fs (Listing h new [] []))
block_read bytes o n line b blocks new room scalars steps fs h at m same few room_is is text pushed =
    let left : room ≡ 2 ^ 60 - sum_by counted blocks = omega arith in
    let is_block = subst (λ k. IsBlockOf k (2 ^ 60 - sum_by counted blocks) b) (sym same) (subst (λ r. IsBlockOf scalars r b) left is) in
    subst (λ l. Stands bytes n (Inside steps fs (Listing h l [] []))) (sym pushed)
    (goes bytes o n line (Inside steps fs (Listing h blocks [] [])) (Inside steps fs (Listing h (blocks ++ b ∷ []) [] [])) at m (inl (b, record { few = omega arith; before = refl; is_block = is_block; text = text }, refl)))

pub block_stuck : (bytes : List ℕ) (o n : Cursor) (line rest : List ℕ) (blocks : List Block) (room scalars : ℕ) (steps : Bool) (fs : List Frame) (h : Head) → Stands bytes o (Inside steps fs (Listing h blocks [] [])) → Moves o line n → h.scalars ≡ scalars → sum_by counted blocks + room ≡ 2 ^ 60
    → line ≡ codes "block " ++ rest → ((b : Block) → IsBlockOf scalars room b → line ≢ block_line b) → Says bytes (faults.BadLine n.number)
block_stuck bytes o n line rest blocks room scalars steps fs h at m same room_is begins none =
    let left : room ≡ 2 ^ 60 - sum_by counted blocks = omega arith in
    subst (λ k. Says bytes (faults.BadLine k)) (sym m.next)
    (stuck_inside bytes o steps fs (Listing h blocks [] []) at (none_at (Inside steps fs (Listing h blocks [] [])) o.text line n.text m.cut m.whole (λ turn s. elim s [
      | inl a ↦ none a.0 (subst (λ k. IsBlockOf k room a.0) same (subst (λ r. IsBlockOf h.scalars r a.0) (sym left) a.1.is_block)) a.1.text
      | inr (inl a) ↦ block_word_list rest a.0 a.1 (sym begins ∙ a.2.text)
      | inr (inr a) ↦ block_word_cost rest a.0 (sym begins ∙ a.1.text)
    ])))

-- ---- lists

-- the lists read so far
pub record ListsSoFar (bytes : List ℕ) (steps : Bool) (fs : List Frame) (h : Head) (blocks : List Block) (kept : List (List ℕ)) (bases : List ℕ) (at : Cursor) : Type 0 where
  pub lists : List (List ℕ)
  pub are_kept : kept ≡ map capped lists
  pub stands : Stands bytes at (Inside steps fs (Listing h blocks bases lists))
  pub no_block : lists ≡ [] → BeginsNot (codes "block ") at.text

pub lists_start : (bytes : List ℕ) (steps : Bool) (fs : List Frame) (h : Head) (blocks : List Block) (at : Cursor) → Stands bytes at (Inside steps fs (Listing h blocks [] [])) → BeginsNot (codes "block ") at.text → ListsSoFar bytes steps fs h blocks [] [] at
lists_start bytes steps fs h blocks at stands none = record { lists = []; are_kept = refl; stands = stands; no_block = λ e. none }

not_nil : (xs : List (List ℕ)) (x : List ℕ) → xs ++ x ∷ [] ≢ []
not_nil [] x e = absurd cc
not_nil (y ∷ ys) x e = absurd cc

pub list_read : (bytes : List ℕ) (o n : Cursor) (line : List ℕ) (base registers : ℕ) (l : List ℕ) (kept new : List (List ℕ)) (bases more : List ℕ) (steps : Bool) (fs : List Frame) (h : Head) (blocks : List Block) → ListsSoFar bytes steps fs h blocks kept bases o → Moves o line n → h.registers ≡ registers → length kept < registers → base < 2 ^ 16
    → ListsSo line base l → new ≡ kept ++ l ∷ [] → more ≡ bases ++ base ∷ [] → ListsSoFar bytes steps fs h blocks new more n
list_read bytes o n line base registers l kept new bases more steps fs h blocks s m same room fits is pushed put =
    let count : length kept ≡ length s.lists = ap length s.are_kept ∙ length_kept s.lists in
    record {
      lists = s.lists ++ is.numbers ∷ [];
      are_kept = pushed ∙ ap (λ k. k ++ l ∷ []) s.are_kept ∙ ap (λ x. map capped s.lists ++ x ∷ []) is.is_kept ∙ sym (map-append capped s.lists (is.numbers ∷ []));
      stands =
          subst (λ b. Stands bytes n (Inside steps fs (Listing h blocks b (s.lists ++ is.numbers ∷ [])))) (sym put)
          (goes bytes o n line (Inside steps fs (Listing h blocks bases s.lists)) (Inside steps fs (Listing h blocks (bases ++ base ∷ []) (s.lists ++ is.numbers ∷ []))) s.stands m (inr (inl (base, is.numbers, record { room = omega arith; fits = fits; each = is.fit; text = is.text }, refl))));
      no_block = λ e. absurd (not_nil s.lists is.numbers e);
    }

pub list_stuck : (bytes : List ℕ) (o n : Cursor) (line rest : List ℕ) (kept : List (List ℕ)) (bases : List ℕ) (steps : Bool) (fs : List Frame) (h : Head) (blocks : List Block) → ListsSoFar bytes steps fs h blocks kept bases o → Moves o line n → line ≡ codes "list " ++ rest
    → ((base : ℕ) (all : List ℕ) → length kept < h.registers → base < 2 ^ 16 → AllByRecursion (λ k. k < 2 ^ 64) all → line ≢ list_line base all) → Says bytes (faults.BadLine n.number)
list_stuck bytes o n line rest kept bases steps fs h blocks s m begins none =
    let count : length kept ≡ length s.lists = ap length s.are_kept ∙ length_kept s.lists in
    subst (λ k. Says bytes (faults.BadLine k)) (sym m.next)
    (stuck_inside bytes o steps fs (Listing h blocks bases s.lists) s.stands (none_at (Inside steps fs (Listing h blocks bases s.lists)) o.text line n.text m.cut m.whole (λ turn t. elim t [
      | inl a ↦ list_word_block rest a.0 (sym begins ∙ a.1.text)
      | inr (inl a) ↦ none a.0 a.1 (omega (arith, a.2.room, count)) a.2.fits a.2.each a.2.text
      | inr (inr a) ↦ list_word_cost rest a.0 (sym begins ∙ a.1.text)
    ])))

pub lists_end : (bytes : List ℕ) (o n : Cursor) (kept : List (List ℕ)) (bases : List ℕ) (steps : Bool) (fs : List Frame) (h : Head) (blocks : List Block) → ListsSoFar bytes steps fs h blocks kept bases o → n ≡ o → BeginsNot (codes "list ") o.text → HasLists bytes steps fs h blocks kept bases n
lists_end bytes o n kept bases steps fs h blocks s same none =
    subst (HasLists bytes steps fs h blocks kept bases) (sym same) (record { lists = s.lists; are_kept = s.are_kept; stands = s.stands; no_block = s.no_block; no_list = none })

-- ---- the cost

kept_same : (n x : ℕ) → n ≤ 64 → min x 255 < n → min x 255 ≡ x
kept_same n x few lt = omega arith

itself_same : (n x : ℕ) → n ≤ 64 → x < n → min x 255 ≡ x
itself_same n x few lt = omega arith

list_kept : (n : ℕ) (xs : List ℕ) → n ≤ 64 → AllByRecursion (λ s. s < n) (capped xs) → capped xs ≡ xs
list_kept n [] few a = refl
list_kept n (x ∷ xs) few a =
    let head = kept_same n x few a.0 in
    let rest = list_kept n xs few a.1 in
    cc (head, rest)

lists_kept : (n : ℕ) (lists : List (List ℕ)) → n ≤ 64 → AllByRecursion (λ l. All (λ s. s < n) l) (map capped lists) → map capped lists ≡ lists
lists_kept n [] few a = refl
lists_kept n (l ∷ ls) few a =
    let head = list_kept n l few (recursion_from_All (λ s. s < n) (capped l) a.0) in
    let rest = lists_kept n ls few a.1 in
    cc (head, rest)

list_itself : (n : ℕ) (xs : List ℕ) → n ≤ 64 → AllByRecursion (λ s. s < n) xs → capped xs ≡ xs
list_itself n [] few a = refl
list_itself n (x ∷ xs) few a =
    let head = itself_same n x few a.0 in
    let rest = list_itself n xs few a.1 in
    cc (head, rest)

lists_itself : (n : ℕ) (lists : List (List ℕ)) → n ≤ 64 → AllByRecursion (λ l. All (λ s. s < n) l) lists → map capped lists ≡ lists
lists_itself n [] few a = refl
lists_itself n (l ∷ ls) few a =
    let head = list_itself n l few (recursion_from_All (λ s. s < n) l a.0) in
    let rest = lists_itself n ls few a.1 in
    cc (head, rest)

-- lists that arrange the scalars are kept as they are
kept_arranged : (n : ℕ) (kept lists : List (List ℕ)) → kept ≡ map capped lists → Arranges n kept → kept ≡ lists
kept_arranged n kept lists e a =
    let below = each_list (λ s. s < n) kept (scalars_below n kept a) in
    e ∙ lists_kept n lists a.few (recursion_from_All (λ l. All (λ s. s < n) l) (map capped lists) (subst (λ k. All (λ l. All (λ s. s < n) l) k) e below))

arranged_kept : (n : ℕ) (kept lists : List (List ℕ)) → kept ≡ map capped lists → Arranges n lists → kept ≡ lists
arranged_kept n kept lists e a = e ∙ lists_itself n lists a.few (recursion_from_All (λ l. All (λ s. s < n) l) lists (each_list (λ s. s < n) lists (scalars_below n lists a)))

pub cost_read : (bytes : List ℕ) (o n : Cursor) (cost scalars : ℕ) (kept : List (List ℕ)) (bases : List ℕ) (steps : Bool) (fs : List Frame) (h : Head) (blocks : List Block) → HasLists bytes steps fs h blocks kept bases o → h.scalars ≡ scalars → Arranges scalars kept → cost ≤ 18446744073709551615 → Moves o (codes "cost " ++ decimal cost) n
    → Stands bytes n (Inside steps fs (Costed h blocks bases kept cost))
cost_read bytes o n cost scalars kept bases steps fs h blocks s same a fits m =
    let e = kept_arranged scalars kept s.lists s.are_kept a in
    goes bytes o n (cost_line cost) (Inside steps fs (Listing h blocks bases kept)) (Inside steps fs (Costed h blocks bases kept cost)) (subst (λ l. Stands bytes o (Inside steps fs (Listing h blocks bases l))) (sym e) s.stands) m (inr (inr (cost, record { arranged = subst (λ k. Arranges k kept) (sym same) a; fits = omega arith; text = refl }, refl)))

pub cost_stuck : (bytes : List ℕ) (o : Cursor) (scalars : ℕ) (kept : List (List ℕ)) (bases : List ℕ) (steps : Bool) (fs : List Frame) (h : Head) (blocks : List Block) → HasLists bytes steps fs h blocks kept bases o → h.scalars ≡ scalars → (Arranges scalars kept → (n : ℕ) → 0 ≤ n → n ≤ 18446744073709551615 → IsNotNext (codes "cost " ++ decimal n) o.text)
    → Says bytes (faults.BadLine (o.number + 1))
cost_stuck bytes o scalars kept bases steps fs h blocks s same none =
    stuck_inside bytes o steps fs (Listing h blocks bases s.lists) s.stands (λ line more turn w e t. elim t [
      | inl a ↦ s.no_block a.1.before line more w e _ a.1.text
      | inr (inl a) ↦ s.no_list line more w e _ a.2.text
      | inr (inr a) ↦
          let arranged = subst (λ k. Arranges k s.lists) same a.1.arranged in
          not_it (cost_line a.0) o.text line more (none (subst (Arranges scalars) (sym (arranged_kept scalars kept s.lists s.are_kept arranged)) arranged) a.0 (omega arith) (omega (arith, a.1.fits))) w e a.1.text
    ])

-- ---- marks

pub marked_none : (f : Frame) → marked f [] ≡ f
marked_none f = ap (λ l. record {
  name = f.name;
  registers = f.registers;
  seq = f.seq;
  arr = f.arr;
  bases = f.bases;
  cost = f.cost;
  claim = f.claim;
  log = l;
}) (append-nil f.log)

pub marked_more : (f : Frame) (a b : List Mark) → marked (marked f a) b ≡ marked f (a ++ b)
marked_more f a b = ap (λ l. record {
  name = f.name;
  registers = f.registers;
  seq = f.seq;
  arr = f.arr;
  bases = f.bases;
  cost = f.cost;
  claim = f.claim;
  log = l;
}) (append_assoc f.log a b)

pub length_marks : (marks : List Mark) → length (mark_bytes marks) ≡ length marks
length_marks [] = refl
length_marks (x ∷ xs) = omega (arith, length_marks xs)

pub mark_line_read : (bytes : List ℕ) (o n : Cursor) (line : List ℕ) (left rest : ℕ) (old new : List Mark) (steps : Bool) (fs : List Frame) (f : Frame) → 0 < left → Stands bytes o (Inside steps fs (Marking (marked f old) left)) → Moves o line n → length line ≡ min left 64 → rest ≡ left - min left 64 → JoinsMarks line old new
    → Stands bytes n (Inside steps fs (Marking (marked f new) rest))
mark_line_read bytes o n line left rest old new steps fs f some h m full rest_is j =
    let to : marked (marked f old) j.marks ≡ marked f new = marked_more f old j.marks ∙ ap (marked f) (sym j.joined) in
    let counts : length j.marks ≡ min left 64 = sym (length_marks j.marks) ∙ sym (ap length j.text) ∙ full in
    subst (λ k. Stands bytes n (Inside steps fs (Marking (marked f new) k))) (sym rest_is) (subst (λ g. Stands bytes n (Inside steps fs (Marking g (left - min left 64)))) to
    (goes bytes o n line (Inside steps fs (Marking (marked f old) left)) (Inside steps fs (Marking (marked (marked f old) j.marks) (left - min left 64))) h m (inl (j.marks, record { some = some; full = counts; text = j.text }, refl))))
