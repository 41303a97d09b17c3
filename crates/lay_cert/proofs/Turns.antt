-- At a place a line does one thing.
use Rattle.std.proofs.Common.{◌≡◌, ◌≢◌, ℕ, ◌-◌, ◌<◌, ◌≤◌, min, List, [], ◌∷◌, ◌++◌, sym, ap, ◌∙◌, inl, inr, arith}
use Rattle.std.specs.Prelude.{Bool}
use Rattle.std.proofs.lemmas.List.Elements.{recursion_from_All}
use Rattle.lay_model.specs.Sequences.{Block}
use Rattle.lay_lines.specs.BlockText.{block_line, IsBlockOf}
use Rattle.lay_lines.proofs.Blocks.{IsWritable, below_small, block_injective, scalars_injective, step_injective}
use Rattle.lay_cert.specs.Frames.{Frame}
use Rattle.lay_cert.specs.CertText.{frame_line, last_line, cost_line}
use Rattle.lay_lines.specs.ListText.{list_line}
use Rattle.lay_cert.specs.CertReading.{Head, Part, Between, Named, Counted, Stepped, Listing, Costed, Claimed, Marking, Place, Unread, Inside, Finished, Turn, Goes, started, registered, counted_marks, head_of, frame_of, marked, PartStep, Step}
use Rattle.lay_cert.proofs.Numbers.{version_same, registers_same, cost_same, marks_same, list_same, claim_same, mark_bytes_same}

frame_no_end : (name : List ℕ) → frame_line name ≢ last_line
frame_no_end name e = let first : ◌≡◌ {A = ℕ} 102 101 = cc in omega arith

pub block_no_list : (b : Block) (base : ℕ) (numbers : List ℕ) → block_line b ≢ list_line base numbers
block_no_list b base numbers e = let first : ◌≡◌ {A = ℕ} 98 108 = cc in omega arith

pub block_no_cost : (b : Block) (cost : ℕ) → block_line b ≢ cost_line cost
block_no_cost b cost e = let first : ◌≡◌ {A = ℕ} 98 99 = cc in omega arith

pub list_no_cost : (base cost : ℕ) (numbers : List ℕ) → list_line base numbers ≢ cost_line cost
list_no_cost base cost numbers e = let first : ◌≡◌ {A = ℕ} 108 99 = cc in omega arith

writable : (h : Head) (room : ℕ) (b : Block) → h.scalars ≤ 64 → IsBlockOf h.scalars room b → IsWritable b
writable h room b few is = record { weight = is.weight; small = below_small h.scalars b.accesses (omega arith) (recursion_from_All (λ x. x < h.scalars) b.accesses is.below) }

part_same : (steps : Bool) (fs : List Frame) (p : Part) (line text : List ℕ) (x y : Turn) → PartStep steps fs p line text x → PartStep steps fs p line text y → x ≡ y
part_same steps fs Between line text x y (inl s) (inl t) =
    let e : frame_line s.0 ≡ frame_line t.0 = sym s.2 ∙ t.2 in
    let same : s.0 ≡ t.0 = cc in
    s.3 ∙ ap (λ n. Goes (Inside steps fs (Named n))) same ∙ sym t.3
part_same steps fs Between line text x y (inl s) (inr t) = absurd (frame_no_end s.0 (sym s.2 ∙ t.0))
part_same steps fs Between line text x y (inr s) (inl t) = absurd (frame_no_end t.0 (sym t.2 ∙ s.0))
part_same steps fs Between line text x y (inr s) (inr t) = s.1 ∙ sym t.1
part_same steps fs (Named name) line text x y s t =
    let same = registers_same s.0 t.0 (omega (arith, s.2)) (omega (arith, t.2)) (sym s.3 ∙ t.3) in
    s.4 ∙ ap (λ k. Goes (Inside steps fs (registered steps name k))) same ∙ sym t.4
part_same steps fs (Counted name k) line text x y s t =
    let same = step_injective s.0 t.0 (omega (arith, s.2)) (omega (arith, t.2)) (sym s.3 ∙ t.3) in
    s.4 ∙ ap (λ d. Goes (Inside steps fs (Stepped name k d))) same ∙ sym t.4
part_same steps fs (Stepped name k d) line text x y s t =
    let same = scalars_injective s.0 t.0 (omega (arith, s.1)) (omega (arith, t.1)) (sym s.2 ∙ t.2) in
    s.3 ∙ ap (λ n. Goes (Inside steps fs (Listing (head_of name k d n) [] [] []))) same ∙ sym t.3
part_same steps fs (Listing h blocks bases lists) line text x y (inl s) (inl t) =
    let same = block_injective s.0 t.0 (writable h _ s.0 s.1.few s.1.is_block) (writable h _ t.0 t.1.few t.1.is_block) (sym s.1.text ∙ t.1.text) in
    s.2 ∙ ap (λ b. Goes (Inside steps fs (Listing h (blocks ++ b ∷ []) bases lists))) same ∙ sym t.2
part_same steps fs (Listing h blocks bases lists) line text x y (inl s) (inr (inl t)) = absurd (block_no_list s.0 t.0 t.1 (sym s.1.text ∙ t.2.text))
part_same steps fs (Listing h blocks bases lists) line text x y (inl s) (inr (inr t)) = absurd (block_no_cost s.0 t.0 (sym s.1.text ∙ t.1.text))
part_same steps fs (Listing h blocks bases lists) line text x y (inr (inl s)) (inl t) = absurd (block_no_list t.0 s.0 s.1 (sym t.1.text ∙ s.2.text))
part_same steps fs (Listing h blocks bases lists) line text x y (inr (inl s)) (inr (inl t)) =
    let same = list_same s.0 t.0 s.1 t.1 s.2.fits t.2.fits s.2.each t.2.each (sym s.2.text ∙ t.2.text) in
    s.3 ∙ ap (λ b. Goes (Inside steps fs (Listing h blocks (bases ++ b ∷ []) (lists ++ s.1 ∷ [])))) same.0 ∙ ap (λ l. Goes (Inside steps fs (Listing h blocks (bases ++ t.0 ∷ []) (lists ++ l ∷ [])))) same.1 ∙ sym t.3
part_same steps fs (Listing h blocks bases lists) line text x y (inr (inl s)) (inr (inr t)) = absurd (list_no_cost s.0 t.0 s.1 (sym s.2.text ∙ t.1.text))
part_same steps fs (Listing h blocks bases lists) line text x y (inr (inr s)) (inl t) = absurd (block_no_cost t.0 s.0 (sym t.1.text ∙ s.1.text))
part_same steps fs (Listing h blocks bases lists) line text x y (inr (inr s)) (inr (inl t)) = absurd (list_no_cost t.0 s.0 t.1 (sym t.2.text ∙ s.1.text))
part_same steps fs (Listing h blocks bases lists) line text x y (inr (inr s)) (inr (inr t)) =
    let same = cost_same s.0 t.0 s.1.fits t.1.fits (sym s.1.text ∙ t.1.text) in
    s.2 ∙ ap (λ c. Goes (Inside steps fs (Costed h blocks bases lists c))) same ∙ sym t.2
part_same steps fs (Costed h blocks bases lists cost) line text x y s t =
    let same = claim_same s.0 t.0 s.1 t.1 (sym s.2 ∙ t.2) in
    s.3 ∙ ap (λ c. Goes (Inside steps fs (Claimed (frame_of h blocks bases lists cost c)))) same ∙ sym t.3
part_same steps fs (Claimed f) line text x y s t =
    let same = marks_same s.0 t.0 s.1 t.1 (sym s.2 ∙ t.2) in
    s.3 ∙ ap (λ m. counted_marks steps fs f m text) same ∙ sym t.3
part_same steps fs (Marking f left) line text x y (inl s) (inl t) =
    let same = mark_bytes_same s.0 t.0 (sym s.1.text ∙ t.1.text) in
    s.2 ∙ ap (λ m. Goes (Inside steps fs (Marking (marked f m) (left - min left 64)))) same ∙ sym t.2
part_same steps fs (Marking f left) line text x y (inl s) (inr t) = absurd (omega (arith, s.1.some, t.0))
part_same steps fs (Marking f left) line text x y (inr s) (inl t) = absurd (omega (arith, t.1.some, s.0))
part_same steps fs (Marking f left) line text x y (inr s) (inr t) = s.2 ∙ sym t.2

pub turn_same : (q : Place) (line text : List ℕ) (x y : Turn) → Step q line text x → Step q line text y → x ≡ y
turn_same Unread line text x y s t =
    let same = version_same s.0 t.0 s.1 t.1 (sym s.2 ∙ t.2) in
    s.3 ∙ ap started same ∙ sym t.3
turn_same (Inside steps fs part) line text x y s t = part_same steps fs part line text x y s t
turn_same (Finished fs) line text x y s t = absurd s
