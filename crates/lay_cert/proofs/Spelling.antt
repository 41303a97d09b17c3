-- What is read has one of two spellings, and its numbers have their bits.
use Rattle.std.proofs.Common.{◌≡◌, ℕ, zero, suc, ◌+◌, ◌*◌, ◌-◌, ◌<◌, ◌≤◌, ◌^◌, ◌==◌, min, Bool, true, false, true≢false, cond, List, [], ◌∷◌, ◌++◌, length, take, drop, map, refl, sym, ap, subst, ◌∙◌, inl, inr, arith, append_assoc, append-nil, length-append, length-drop}
use Rattle.std.specs.Prelude.{◌⊎◌, All}
use Rattle.std.specs.List.{sum_by, flat_map}
use Rattle.std.proofs.lemmas.Bool.{eqb-true}
use Rattle.std.proofs.lemmas.Grind.{flat_map-append}
use Rattle.std.proofs.lemmas.List.{map-append, nil_from_length, take-append-le, drop-append-le}
use Rattle.std.proofs.lemmas.List.Elements.{All-push}
use Rattle.std.proofs.lemmas.List.Sums.{sum_by_push}
use Rattle.word_base.specs.Name.{IsName}
use Rattle.lay_model.specs.Sequences.{Block, IsBlock, counted}
use Rattle.lay_model.specs.Arrangements.{Arranges}
use Rattle.text_base.specs.Lines.{lines_text}
use Rattle.lay_lines.specs.BlockText.{scalars_line, step_line, block_line}
use Rattle.lay_tree.specs.declared.answer.Mark.{Mark}
use Rattle.lay_cert.specs.declared.certificate.Claim.{Claim}
use Rattle.lay_cert.specs.declared.fault.CertFault.TheVariants as faults
use Rattle.lay_cert.specs.Frames.{Frame, IsWhole, AreWhole, IsClaim}
use Rattle.lay_cert.specs.CertText.{version_line, frame_line, registers_line, cost_line, claim_line, marks_line, frame_end, last_line, step_part, log_lines, layout_lines, frame_lines, cert_text, old_text}
use Rattle.lay_lines.specs.ListText.{list_line, list_lines}
use Rattle.lay_lines.specs.MarkText.{mark_bytes, mark_lines, line_count, is_short}
use Rattle.lay_cert.specs.CertReading.{Head, Part, Between, Named, Counted, Stepped, Listing, Costed, Claimed, Marking, Place, Unread, Inside, Finished, Goes, Ends, PartStep, Step, Runs, Reached, Reads, head_of, frame_of, marked, registered}

-- ---- what is known of a place by the lines that lead to it

-- the lines of the part of a frame, with others behind them
abbrev head_then : Bool → List ℕ → ℕ → ℕ → ℕ → List (List ℕ) → List (List ℕ)
head_then steps name registers step scalars rest = frame_line name ∷ registers_line registers ∷ (step_part steps step ++ (scalars_line scalars ∷ rest))

abbrev frame_then : Bool → Frame → List (List ℕ) → List (List ℕ)
frame_then steps f rest = head_then steps f.name f.registers f.seq.step f.seq.scalars (map block_line f.seq.blocks ++ (list_lines f.bases f.arr ++ (cost_line f.cost ∷ claim_line f.claim ∷ rest)))

abbrev part_then : Bool → Part → List (List ℕ) → List (List ℕ)
part_then steps Between rest = rest
part_then steps (Named name) rest = frame_line name ∷ rest
part_then steps (Counted name k) rest = frame_line name ∷ registers_line k ∷ rest
part_then steps (Stepped name k d) rest = frame_line name ∷ registers_line k ∷ (step_part steps d ++ rest)
part_then steps (Listing h blocks bases lists) rest = head_then steps h.name h.registers h.step h.scalars (map block_line blocks ++ (list_lines bases lists ++ rest))
part_then steps (Costed h blocks bases lists cost) rest = head_then steps h.name h.registers h.step h.scalars (map block_line blocks ++ (list_lines bases lists ++ (cost_line cost ∷ rest)))
part_then steps (Claimed f) rest = frame_then steps f rest
part_then steps (Marking f left) rest = frame_then steps f (marks_line (length f.log + left) ∷ (mark_lines (line_count (length f.log)) f.log ++ rest))

abbrev version_of : Bool → ℕ
version_of true = 2
version_of false = 1

-- frames are read, and these lines stand behind them
abbrev frames_then : Bool → List Frame → List (List ℕ) → List (List ℕ)
frames_then steps fs rest = version_line (version_of steps) ∷ (flat_map (frame_lines steps) fs ++ rest)

-- the numbers before the blocks
record IsHeadOf (steps : Bool) (name : List ℕ) (registers step : ℕ) : Type 0 where
  named : IsName name
  some : 1 ≤ registers
  few : registers ≤ 4
  moves : 1 ≤ step
  near : step ≤ 8
  one : steps ≡ false → step ≡ 1

record AreBlocks (scalars : ℕ) (blocks : List Block) : Type 0 where
  each : All IsBlock blocks
  weights : All (λ b. b.weight < 2 ^ 32) blocks
  below : All (λ b. All (λ s. s < scalars) b.accesses) blocks
  countable : sum_by counted blocks ≤ 2 ^ 60

record AreLists (registers : ℕ) (bases : List ℕ) (lists : List (List ℕ)) : Type 0 where
  fit : All (λ base. base < 2 ^ 16) bases
  based : length bases ≡ length lists
  room : length lists ≤ registers

record IsListing (steps : Bool) (h : Head) (blocks : List Block) (bases : List ℕ) (lists : List (List ℕ)) : Type 0 where
  head : IsHeadOf steps h.name h.registers h.step
  low : h.scalars ≤ 64
  counted_blocks : AreBlocks h.scalars blocks
  based_lists : AreLists h.registers bases lists

-- lines of marks are full where more are to come
record IsMarked (f : Frame) (left : ℕ) : Type 0 where
  fits : length f.log + left < 2 ^ 64
  full : 0 < left → length f.log ≡ line_count (length f.log) * 64

abbrev IsPart : Bool → Part → Type 0
IsPart steps Between = Unit {0}
IsPart steps (Named name) = IsName name
IsPart steps (Counted name k) = IsName name × (1 ≤ k) × (k ≤ 4) × (steps ≡ true)
IsPart steps (Stepped name k d) = IsHeadOf steps name k d
IsPart steps (Listing h blocks bases lists) = IsListing steps h blocks bases lists
IsPart steps (Costed h blocks bases lists cost) = IsListing steps h blocks bases lists × Arranges h.scalars lists × (cost < 2 ^ 64)
IsPart steps (Claimed f) = IsWhole f × (steps ≡ false → f.seq.step ≡ 1) × (f.log ≡ [])
IsPart steps (Marking f left) = IsWhole f × (steps ≡ false → f.seq.step ≡ 1) × IsMarked f left

record IsSpelt (steps : Bool) (fs : List Frame) : Type 0 where
  whole : AreWhole fs
  ones : steps ≡ false → All (λ f. f.seq.step ≡ 1) fs

record IsTold (steps : Bool) (fs : List Frame) (part : Part) (front : List (List ℕ)) : Type 0 where
  spelt : IsSpelt steps fs
  known : IsPart steps part
  text : (rest : List (List ℕ)) → front ++ rest ≡ frames_then steps fs (part_then steps part rest)

abbrev Told : Place → List (List ℕ) → Type 0
Told Unread front = front ≡ []
Told (Inside steps fs part) front = IsTold steps fs part front
Told (Finished fs) front = (steps : Bool) × IsSpelt steps fs × ((rest : List (List ℕ)) → front ++ rest ≡ frames_then steps fs (last_line ∷ rest))

-- one more line
told_on : (steps : Bool) (fs : List Frame) (part more : Part) (front : List (List ℕ)) (line : List ℕ) → IsTold steps fs part front → IsPart steps more → ((rest : List (List ℕ)) → part_then steps part (line ∷ rest) ≡ part_then steps more rest)
    → IsTold steps fs more (front ++ line ∷ [])
told_on steps fs part more front line t is same = record {
  spelt = t.spelt;
  known = is;
  text = λ rest. append_assoc front (line ∷ []) rest ∙ t.text (line ∷ rest) ∙ ap (frames_then steps fs) (same rest);
}

-- ---- parts of a frame

-- a block joins others
blocks_push : (scalars : ℕ) (blocks : List Block) (b : Block) → AreBlocks scalars blocks → IsBlock b → b.weight < 2 ^ 32 → All (λ s. s < scalars) b.accesses → counted b ≤ 2 ^ 60 - sum_by counted blocks → AreBlocks scalars (blocks ++ b ∷ [])
blocks_push scalars blocks b a is weight below fits = record {
  each = All-push IsBlock blocks b a.each is;
  weights = All-push (λ x. x.weight < 2 ^ 32) blocks b a.weights weight;
  below = All-push (λ x. All (λ s. s < scalars) x.accesses) blocks b a.below below;
  countable = let sum = sum_by_push counted blocks b in omega (arith, sum, fits, a.countable);
}

lists_push : (registers : ℕ) (bases : List ℕ) (lists : List (List ℕ)) (base : ℕ) (list : List ℕ) → AreLists registers bases lists → base < 2 ^ 16 → length lists < registers → AreLists registers (bases ++ base ∷ []) (lists ++ list ∷ [])
lists_push registers bases lists base list a fits room = record {
  fit = All-push (λ x. x < 2 ^ 16) bases base a.fit fits;
  based = let e = a.based in omega (arith, e, length-append bases (base ∷ []), length-append lists (list ∷ []));
  room = omega (arith, room, length-append lists (list ∷ []));
}

list_lines_push : (bases : List ℕ) (lists : List (List ℕ)) (base : ℕ) (list : List ℕ) (rest : List (List ℕ)) → length bases ≡ length lists → list_lines bases lists ++ (list_line base list ∷ rest) ≡ list_lines (bases ++ base ∷ []) (lists ++ list ∷ []) ++ rest
list_lines_push [] [] base list rest e = refl
list_lines_push [] (l ∷ ls) base list rest e = absurd (omega (arith, e))
list_lines_push (b ∷ bs) [] base list rest e = absurd (omega (arith, e))
list_lines_push (b ∷ bs) (l ∷ ls) base list rest e = ap (λ t. list_line b l ∷ t) (list_lines_push bs ls base list rest (omega (arith, e)))

block_lines_push : (blocks : List Block) (b : Block) (rest : List (List ℕ)) → map block_line blocks ++ (block_line b ∷ rest) ≡ map block_line (blocks ++ b ∷ []) ++ rest
block_lines_push blocks b rest = sym (append_assoc (map block_line blocks) (block_line b ∷ []) rest) ∙ ap (λ t. t ++ rest) (sym (map-append block_line blocks (b ∷ [])))

-- marks fill their line, or are the last
take_all : (marks : List Mark) (n : ℕ) → length marks ≤ n → take n marks ≡ marks
take_all [] zero le = refl
take_all [] (suc n) le = refl
take_all (m ∷ ms) zero le = absurd (omega (arith, le))
take_all (m ∷ ms) (suc n) le = ap (λ l. m ∷ l) (take_all ms n (omega (arith, le)))

mark_lines_push : (n : ℕ) (log marks : List Mark) → length log ≡ n * 64 → length marks ≤ 64 → mark_lines (suc n) (log ++ marks) ≡ mark_lines n log ++ mark_bytes marks ∷ []
mark_lines_push zero log marks e few =
    let none : log ≡ [] = nil_from_length log (omega (arith, e)) in
    ap (λ l. mark_bytes (take 64 (l ++ marks)) ∷ []) none ∙ ap (λ l. mark_bytes l ∷ []) (take_all marks 64 few)
mark_lines_push (suc n) log marks e few =
    let le : 64 ≤ length log = omega (arith, e) in
    let rest = mark_lines_push n (drop 64 log) marks (omega (arith, e, length-drop 64 log)) few in
    ap (λ l. mark_bytes l ∷ mark_lines (suc n) (drop 64 (log ++ marks))) (take-append-le 64 log marks le)
    ∙ ap (λ l. mark_bytes (take 64 log) ∷ mark_lines (suc n) l) (drop-append-le 64 log marks le)
    ∙ ap (λ l. mark_bytes (take 64 log) ∷ l) rest

marked_whole : (f : Frame) (marks : List Mark) → IsWhole f → length (f.log ++ marks) < 2 ^ 64 → IsWhole (marked f marks)
marked_whole f marks w lt = record {
  frame = record {
    name = w.frame.name;
    some = w.frame.some;
    few = w.frame.few;
    arranged = w.frame.arranged;
    lists = w.frame.lists;
    based = w.frame.based;
  };
  sequence = w.sequence;
  weights = w.weights;
  bases = w.bases;
  cost = w.cost;
  claim = w.claim;
  log = lt;
}

module _ (f : Frame) (left : ℕ) (marks : List Mark) (is : IsMarked f left) (some : 0 < left) (taken : length marks ≡ min left 64) where
  marks_sum : length (f.log ++ marks) ≡ length f.log + min left 64
  marks_sum = length-append f.log marks ∙ ap (λ n. length f.log + n) taken

  marks_count : line_count (length (f.log ++ marks)) ≡ suc (line_count (length f.log))
  marks_count = let full = is.full some in omega (arith, full, marks_sum)

  marks_fit : length (f.log ++ marks) + (left - min left 64) < 2 ^ 64
  marks_fit = let fits = is.fits in omega (arith, fits, marks_sum)

  marks_full : 0 < left - min left 64 → length (f.log ++ marks) ≡ line_count (length (f.log ++ marks)) * 64
  marks_full more = let full = is.full some in omega (arith, full, marks_sum, marks_count, more)

  marks_lines : (rest : List (List ℕ)) → mark_lines (line_count (length f.log)) f.log ++ (mark_bytes marks ∷ rest) ≡ mark_lines (line_count (length (f.log ++ marks))) (f.log ++ marks) ++ rest
  marks_lines rest =
      let few : length marks ≤ 64 = omega (arith, taken) in
      sym (append_assoc (mark_lines (line_count (length f.log)) f.log) (mark_bytes marks ∷ []) rest)
      ∙ ap (λ l. l ++ rest) (sym (mark_lines_push (line_count (length f.log)) f.log marks (is.full some) few) ∙ ap (λ n. mark_lines n (f.log ++ marks)) (sym marks_count))

  all_marks : length f.log + left ≡ length (f.log ++ marks) + (left - min left 64)
  all_marks = omega (arith, marks_sum)

-- the lines of a whole frame
frame_over : (steps : Bool) (f : Frame) (rest : List (List ℕ)) → part_then steps (Marking f 0) (frame_end ∷ rest) ≡ frame_lines steps f ++ rest
frame_over steps f rest = ap (head_then steps f.name f.registers f.seq.step f.seq.scalars) body ∙ outer steps
  where
    log : marks_line (length f.log + 0) ∷ (mark_lines (line_count (length f.log)) f.log ++ (frame_end ∷ rest)) ≡ log_lines f ++ rest
    log = ap (λ n. marks_line n ∷ (mark_lines (line_count (length f.log)) f.log ++ (frame_end ∷ rest))) (let e : length f.log + 0 ≡ length f.log = omega arith in e)
        ∙ ap (λ l. marks_line (length f.log) ∷ l) (sym (append_assoc (mark_lines (line_count (length f.log)) f.log) (frame_end ∷ []) rest))

    last : List (List ℕ)
    last = cost_line f.cost ∷ claim_line f.claim ∷ log_lines f

    body : map block_line f.seq.blocks ++ (list_lines f.bases f.arr ++ (cost_line f.cost ∷ claim_line f.claim ∷ marks_line (length f.log + 0) ∷ (mark_lines (line_count (length f.log)) f.log ++ (frame_end ∷ rest)))) ≡ layout_lines f ++ rest
    body = ap (λ l. map block_line f.seq.blocks ++ (list_lines f.bases f.arr ++ (cost_line f.cost ∷ claim_line f.claim ∷ l))) log
        ∙ ap (λ l. map block_line f.seq.blocks ++ l) (sym (append_assoc (list_lines f.bases f.arr) last rest))
        ∙ sym (append_assoc (map block_line f.seq.blocks) (list_lines f.bases f.arr ++ last) rest)

    outer : (b : Bool) → head_then b f.name f.registers f.seq.step f.seq.scalars (layout_lines f ++ rest) ≡ frame_lines b f ++ rest
    outer true = refl
    outer false = refl

-- ---- a line leads on

-- behind the registers
named_told : (steps : Bool) (fs : List Frame) (name line : List ℕ) (k : ℕ) (front : List (List ℕ)) → IsTold steps fs (Named name) front → 1 ≤ k → k ≤ 4 → line ≡ registers_line k → IsTold steps fs (registered steps name k) (front ++ line ∷ [])
named_told true fs name line k front t some few is = told_on true fs (Named name) (Counted name k) front line t (t.known, some, few, refl) (λ rest. ap (λ l. frame_line name ∷ l ∷ rest) is)
named_told false fs name line k front t some few is =
    told_on false fs (Named name) (Stepped name k 1) front line t (record { named = t.known; some = some; few = few; moves = omega arith; near = omega arith; one = λ e. refl }) (λ rest. ap (λ l. frame_line name ∷ l ∷ rest) is)

-- behind the step
counted_told : (steps : Bool) (fs : List Frame) (name line : List ℕ) (k d : ℕ) (front : List (List ℕ)) → IsTold steps fs (Counted name k) front → 1 ≤ d → d ≤ 8 → line ≡ step_line d → IsTold steps fs (Stepped name k d) (front ++ line ∷ [])
counted_told true fs name line k d front t some few is =
    told_on true fs (Counted name k) (Stepped name k d) front line t (record { named = t.known.0; some = t.known.1; few = t.known.2; moves = some; near = few; one = λ e. absurd (true≢false e) }) (λ rest. ap (λ l. frame_line name ∷ registers_line k ∷ l ∷ rest) is)
counted_told false fs name line k d front t some few is = absurd (true≢false (sym t.known.3))

-- behind the number of the marks
claimed_told : (steps : Bool) (fs : List Frame) (f : Frame) (line : List ℕ) (marks : ℕ) (front : List (List ℕ)) → IsTold steps fs (Claimed f) front → marks < 2 ^ 64 → line ≡ marks_line marks → IsTold steps fs (Marking f marks) (front ++ line ∷ [])
claimed_told steps fs f line marks front t lt is =
    let empty : f.log ≡ [] = t.known.2 in
    let none : length f.log ≡ 0 = ap length empty in
    let sum : marks ≡ 0 + marks = omega arith in
    told_on steps fs (Claimed f) (Marking f marks) front line t (t.known.0, t.known.1, record { fits = omega (arith, none, lt); full = λ some. omega (arith, none) })
    (λ rest. ap (frame_then steps f) (ap (λ l. l ∷ rest) is ∙ ap (λ n. marks_line n ∷ rest) sum ∙ sym (ap (λ log. marks_line (length log + marks) ∷ (mark_lines (line_count (length log)) log ++ rest)) empty)))

-- behind the last line of a frame
over_told : (steps : Bool) (fs : List Frame) (f : Frame) (line : List ℕ) (left : ℕ) (front : List (List ℕ)) → IsTold steps fs (Marking f left) front → left ≡ 0 → line ≡ frame_end → IsTold steps (fs ++ f ∷ []) Between (front ++ line ∷ [])
over_told steps fs f line left front t none is = record {
  spelt = record {
    whole = All-push IsWhole fs f t.spelt.whole t.known.0;
    ones = λ e. All-push (λ g. g.seq.step ≡ 1) fs f (t.spelt.ones e) (t.known.1 e);
  };
  known = tt {0};
  text = λ rest. append_assoc front (line ∷ []) rest ∙ t.text (line ∷ rest)
      ∙ ap (frames_then steps fs) (ap (λ n. part_then steps (Marking f n) (line ∷ rest)) none ∙ ap (λ l. part_then steps (Marking f 0) (l ∷ rest)) is ∙ frame_over steps f rest)
      ∙ ap (λ l. version_line (version_of steps) ∷ l) (joined rest);
}
  where
    joined : (rest : List (List ℕ)) → flat_map (frame_lines steps) fs ++ (frame_lines steps f ++ rest) ≡ flat_map (frame_lines steps) (fs ++ f ∷ []) ++ rest
    joined rest = sym (append_assoc (flat_map (frame_lines steps) fs) (frame_lines steps f) rest)
        ∙ ap (λ l. (flat_map (frame_lines steps) fs ++ l) ++ rest) (sym (append-nil (frame_lines steps f)))
        ∙ ap (λ l. l ++ rest) (sym (flat_map-append (frame_lines steps) fs (f ∷ [])))

costed_whole : (steps : Bool) (h : Head) (blocks : List Block) (bases : List ℕ) (lists : List (List ℕ)) (cost : ℕ) (claim : Claim) → IsListing steps h blocks bases lists → Arranges h.scalars lists → cost < 2 ^ 64 → IsClaim claim → IsWhole (frame_of h blocks bases lists cost claim)
costed_whole steps h blocks bases lists cost claim l arranged lt is = record {
  frame = record {
    name = l.head.named;
    some = l.head.some;
    few = l.head.few;
    arranged = arranged;
    lists = l.based_lists.room;
    based = l.based_lists.based;
  };
  sequence = record {
    few = l.low;
    moves = l.head.moves;
    near = l.head.near;
    blocks = l.counted_blocks.each;
    scalars = l.counted_blocks.below;
    countable = l.counted_blocks.countable;
  };
  weights = l.counted_blocks.weights;
  bases = l.based_lists.fit;
  cost = lt;
  claim = is;
  log = omega arith;
}

part_told : (steps : Bool) (fs : List Frame) (part : Part) (line text : List ℕ) (m : Place) (front : List (List ℕ)) → IsTold steps fs part front → PartStep steps fs part line text (Goes m) → Told m (front ++ line ∷ [])
part_told steps fs Between line text m front t (inl s) =
    let is : m ≡ Inside steps fs (Named s.0) = cc in
    subst (λ z. Told z (front ++ line ∷ [])) (sym is) (told_on steps fs Between (Named s.0) front line t s.1 (λ rest. ap (λ l. l ∷ rest) s.2))
part_told steps fs Between line text m front t (inr s) =
    let is : m ≡ Finished fs = cc in
    subst (λ z. Told z (front ++ line ∷ [])) (sym is) (steps, t.spelt, λ rest. append_assoc front (line ∷ []) rest ∙ t.text (line ∷ rest) ∙ ap (λ l. frames_then steps fs (l ∷ rest)) s.0)
part_told steps fs (Named name) line text m front t s =
    let is : m ≡ Inside steps fs (registered steps name s.0) = cc in
    subst (λ z. Told z (front ++ line ∷ [])) (sym is) (named_told steps fs name line s.0 front t s.1 s.2 s.3)
part_told steps fs (Counted name k) line text m front t s =
    let is : m ≡ Inside steps fs (Stepped name k s.0) = cc in
    subst (λ z. Told z (front ++ line ∷ [])) (sym is) (counted_told steps fs name line k s.0 front t s.1 s.2 s.3)
part_told steps fs (Stepped name k d) line text m front t s =
    let is : m ≡ Inside steps fs (Listing (head_of name k d s.0) [] [] []) = cc in
    subst (λ z. Told z (front ++ line ∷ [])) (sym is) (told_on steps fs (Stepped name k d) (Listing (head_of name k d s.0) [] [] []) front line t (record {
      head = t.known;
      low = s.1;
      counted_blocks = record { each = λ i x lt. absurd (omega (arith, lt)); weights = λ i x lt. absurd (omega (arith, lt)); below = λ i x lt. absurd (omega (arith, lt)); countable = omega arith };
      based_lists = record { fit = λ i x lt. absurd (omega (arith, lt)); based = refl; room = omega arith };
    }) (λ rest. ap (λ l. frame_line name ∷ registers_line k ∷ (step_part steps d ++ (l ∷ rest))) s.2))
part_told steps fs (Listing h blocks bases lists) line text m front t (inl s) =
    let is : m ≡ Inside steps fs (Listing h (blocks ++ s.0 ∷ []) bases lists) = cc in
    let b = s.1 in
    let no_lists : lists ≡ [] = b.before in
    let no_bases : bases ≡ [] = nil_from_length bases (t.known.based_lists.based ∙ ap length no_lists) in
    let same : (rest : List (List ℕ)) → list_lines bases lists ++ rest ≡ rest = λ rest. ap (λ l. list_lines l lists ++ rest) no_bases in
    subst (λ z. Told z (front ++ line ∷ [])) (sym is) (told_on steps fs (Listing h blocks bases lists) (Listing h (blocks ++ s.0 ∷ []) bases lists) front line t (record {
      head = t.known.head;
      low = t.known.low;
      counted_blocks = blocks_push h.scalars blocks s.0 t.known.counted_blocks b.is_block.block b.is_block.weight b.is_block.below b.is_block.fits;
      based_lists = t.known.based_lists;
    }) (λ rest. ap (head_then steps h.name h.registers h.step h.scalars)
    (ap (λ l. map block_line blocks ++ l) (same (line ∷ rest) ∙ ap (λ l. l ∷ rest) b.text) ∙ block_lines_push blocks s.0 rest ∙ ap (λ l. map block_line (blocks ++ s.0 ∷ []) ++ l) (sym (same rest)))))
part_told steps fs (Listing h blocks bases lists) line text m front t (inr (inl s)) =
    let is : m ≡ Inside steps fs (Listing h blocks (bases ++ s.0 ∷ []) (lists ++ s.1 ∷ [])) = cc in
    subst (λ z. Told z (front ++ line ∷ [])) (sym is) (told_on steps fs (Listing h blocks bases lists) (Listing h blocks (bases ++ s.0 ∷ []) (lists ++ s.1 ∷ [])) front line t (record {
      head = t.known.head;
      low = t.known.low;
      counted_blocks = t.known.counted_blocks;
      based_lists = lists_push h.registers bases lists s.0 s.1 t.known.based_lists s.2.fits s.2.room;
    }) (λ rest. ap (λ l. head_then steps h.name h.registers h.step h.scalars (map block_line blocks ++ l))
    (ap (λ l. list_lines bases lists ++ (l ∷ rest)) s.2.text ∙ list_lines_push bases lists s.0 s.1 rest t.known.based_lists.based)))
part_told steps fs (Listing h blocks bases lists) line text m front t (inr (inr s)) =
    let is : m ≡ Inside steps fs (Costed h blocks bases lists s.0) = cc in
    subst (λ z. Told z (front ++ line ∷ [])) (sym is) (told_on steps fs (Listing h blocks bases lists) (Costed h blocks bases lists s.0) front line t (t.known, s.1.arranged, s.1.fits)
    (λ rest. ap (λ l. head_then steps h.name h.registers h.step h.scalars (map block_line blocks ++ (list_lines bases lists ++ (l ∷ rest)))) s.1.text))
part_told steps fs (Costed h blocks bases lists cost) line text m front t s =
    let is : m ≡ Inside steps fs (Claimed (frame_of h blocks bases lists cost s.0)) = cc in
    subst (λ z. Told z (front ++ line ∷ [])) (sym is) (told_on steps fs (Costed h blocks bases lists cost) (Claimed (frame_of h blocks bases lists cost s.0)) front line t
    (costed_whole steps h blocks bases lists cost s.0 t.known.0 t.known.1 t.known.2 s.1, t.known.0.head.one, refl)
    (λ rest. ap (λ l. head_then steps h.name h.registers h.step h.scalars (map block_line blocks ++ (list_lines bases lists ++ (cost_line cost ∷ l ∷ rest)))) s.2))
part_told steps fs (Claimed f) line text m front t s = go (is_short s.0 text) s.3
  where
    go : (short : Bool) → Goes m ≡ cond short (Ends (faults.Short (length fs))) (Goes (Inside steps fs (Marking f s.0))) → Told m (front ++ line ∷ [])
    go true e = absurd cc
    go false e =
        let is : m ≡ Inside steps fs (Marking f s.0) = cc in
        subst (λ z. Told z (front ++ line ∷ [])) (sym is) (claimed_told steps fs f line s.0 front t s.1 s.2)
part_told steps fs (Marking f left) line text m front t (inl s) =
    let is : m ≡ Inside steps fs (Marking (marked f s.0) (left - min left 64)) = cc in
    let k = t.known.2 in
    let fit = marks_fit f left s.0 k s.1.some s.1.full in
    subst (λ z. Told z (front ++ line ∷ [])) (sym is) (told_on steps fs (Marking f left) (Marking (marked f s.0) (left - min left 64)) front line t
    (marked_whole f s.0 t.known.0 (omega (arith, fit)), t.known.1, record { fits = fit; full = marks_full f left s.0 k s.1.some s.1.full })
    (λ rest. ap (frame_then steps f) (
    ap (λ l. marks_line (length f.log + left) ∷ (mark_lines (line_count (length f.log)) f.log ++ (l ∷ rest))) s.1.text
    ∙ ap (λ l. marks_line (length f.log + left) ∷ l) (marks_lines f left s.0 k s.1.some s.1.full rest)
    ∙ ap (λ n. marks_line n ∷ (mark_lines (line_count (length (f.log ++ s.0))) (f.log ++ s.0) ++ rest)) (all_marks f left s.0 k s.1.some s.1.full)
    )))
part_told steps fs (Marking f left) line text m front t (inr s) =
    let is : m ≡ Inside steps (fs ++ f ∷ []) Between = cc in
    subst (λ z. Told z (front ++ line ∷ [])) (sym is) (over_told steps fs f line left front t s.0 s.1)

-- behind line 1
started_told : (steps : Bool) (front : List (List ℕ)) (line : List ℕ) → front ≡ [] → line ≡ version_line (version_of steps) → IsTold steps [] Between (front ++ line ∷ [])
started_told steps front line none is = record {
  spelt = record { whole = λ i x lt. absurd (omega (arith, lt)); ones = λ e i x lt. absurd (omega (arith, lt)) };
  known = tt {0};
  text = λ rest. ap (λ l. (l ++ line ∷ []) ++ rest) none ∙ ap (λ l. l ∷ rest) is;
}

step_told : (p : Place) (line text : List ℕ) (m : Place) (front : List (List ℕ)) → Told p front → Step p line text (Goes m) → Told m (front ++ line ∷ [])
step_told Unread line text m front t s = go (s.0 == 1) refl (s.0 == 2) refl s.3
  where
    go : (a : Bool) → (s.0 == 1) ≡ a → (b : Bool) → (s.0 == 2) ≡ b → Goes m ≡ cond a (Goes (Inside false [] Between)) (cond b (Goes (Inside true [] Between)) (Ends (faults.Version s.0))) → Told m (front ++ line ∷ [])
    go true e b f g =
        let is : m ≡ Inside false [] Between = cc in
        subst (λ z. Told z (front ++ line ∷ [])) (sym is) (started_told false front line t (s.2 ∙ ap version_line (eqb-true s.0 1 e)))
    go false e true f g =
        let is : m ≡ Inside true [] Between = cc in
        subst (λ z. Told z (front ++ line ∷ [])) (sym is) (started_told true front line t (s.2 ∙ ap version_line (eqb-true s.0 2 f)))
    go false e false f g = absurd cc
step_told (Inside steps fs part) line text m front t s = part_told steps fs part line text m front t s
step_told (Finished fs) line text m front t s = absurd s

-- all lines
runs_told : (p q : Place) (lines front : List (List ℕ)) (text : List ℕ) → Told p front → Runs p lines text q → Told q (front ++ lines)
runs_told p q [] front text t r = subst (λ l. Told q l) (sym (append-nil front)) (subst (λ z. Told z front) (sym r) t)
runs_told p q (line ∷ more) front text t r =
    subst (λ l. Told q l) (append_assoc front (line ∷ []) more) (runs_told r.0 q more (front ++ line ∷ []) text (step_told p line (lines_text more ++ text) r.0 front t r.2) r.3)

read_told : (bytes : List ℕ) (fs : List Frame) → (r : Reads bytes fs) → Told (Finished fs) r.reached.front
read_told bytes fs r = runs_told Unread (Finished fs) r.reached.front [] [] refl r.reached.runs

-- what is read has its bits
pub read_whole : (bytes : List ℕ) (fs : List Frame) → Reads bytes fs → AreWhole fs
read_whole bytes fs r = (read_told bytes fs r).1.whole

-- and so has what is read so far
pub stands_whole : (bytes : List ℕ) (number : ℕ) (text : List ℕ) (steps : Bool) (fs : List Frame) (part : Part) → Reached bytes number text (Inside steps fs part) → AreWhole fs
stands_whole bytes number text steps fs part h = (runs_told Unread (Inside steps fs part) h.front [] text refl h.runs).spelt.whole

-- and one of two spellings
pub read_spelt : (bytes : List ℕ) (fs : List Frame) → Reads bytes fs → (bytes ≡ cert_text fs) ⊎ ((bytes ≡ old_text fs) × All (λ f. f.seq.step ≡ 1) fs)
read_spelt bytes fs r =
    let t = read_told bytes fs r in
    let cut : bytes ≡ lines_text (r.reached.front ++ []) = r.reached.cut ∙ append-nil (lines_text r.reached.front) ∙ ap lines_text (sym (append-nil r.reached.front)) in
    go t.0 t.1 (cut ∙ ap lines_text (t.2 []))
  where
    go : (steps : Bool) → IsSpelt steps fs → bytes ≡ lines_text (frames_then steps fs (last_line ∷ [])) → (bytes ≡ cert_text fs) ⊎ ((bytes ≡ old_text fs) × All (λ f. f.seq.step ≡ 1) fs)
    go true s e = inl e
    go false s e = inr (e, s.ones refl)
