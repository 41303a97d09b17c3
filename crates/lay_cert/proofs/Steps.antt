-- What the reader of each kind of line has read, and where it is stuck.
use Rattle.std.proofs.Common.{◌≡◌, ◌≢◌, ℕ, ◌+◌, ◌<◌, ◌≤◌, min, Bool, true, false, ◌==◌, List, [], ◌∷◌, ◌++◌, length, refl, sym, ap, subst, ◌∙◌, inl, inr, arith}
use Rattle.std.proofs.lemmas.Bool.Decides.{nat_tests}
use Rattle.std.specs.Prelude.{decimal, codes}
use Rattle.word_base.specs.Name.{IsName}
use Rattle.lay_model.specs.Sequences.{Block}
use Rattle.text_base.specs.Lines.{Lacks}
use Rattle.lay_tree.specs.declared.answer.Mark.{Mark}
use Rattle.lay_cert.specs.declared.certificate.Claim.{Claim}
use Rattle.lay_cert.specs.declared.fault.CertFault.{CertFault}
use Rattle.lay_cert.specs.declared.fault.CertFault.TheVariants as faults
use Rattle.lay_cert.specs.Frames.{Frame, IsClaim}
use Rattle.lay_cert.specs.CertText.{version_line, frame_line, registers_line, claim_line, marks_line, frame_end, last_line}
use Rattle.lay_lines.specs.MarkText.{mark_bytes, is_short}
use Rattle.lay_cert.specs.CertReading.{Head, Part, Between, Named, Counted, Stepped, Listing, Costed, Claimed, Marking, Unread, Inside, Finished, Goes, Ends, head_of, frame_of, registered, started, counted_marks, Says}
use Rattle.lay_cert.specs.LineReading.{Cursor, Stands, Moves, IsNotNext}
use Rattle.lay_cert.proofs.Places.{goes, ends, stuck_inside, stuck_unread, none_without_feed, none_at, not_it}

abbrev bad : Cursor → CertFault
bad o = faults.BadLine (o.number + 1)

-- ---- the version

pub version_stuck : (bytes : List ℕ) (o : Cursor) → Stands bytes o Unread → ((n : ℕ) → 0 ≤ n → n ≤ 18446744073709551615 → IsNotNext (codes "C25 CERTIFICATE " ++ decimal n) o.text) → Says bytes (faults.BadLine (o.number + 1))
version_stuck bytes o h none = stuck_unread bytes o h (λ line more turn w e s. not_it (version_line s.0) o.text line more (none s.0 (omega arith) (omega (arith, s.1))) w e s.2)

pub version_1 : (bytes : List ℕ) (o n : Cursor) (found : ℕ) → Stands bytes o Unread → Moves o (codes "C25 CERTIFICATE " ++ decimal found) n → found ≡ 1 → Stands bytes n (Inside false [] Between)
version_1 bytes o n found h m e = goes bytes o n (version_line found) Unread (Inside false [] Between) h m (found, omega arith, refl, ap started (sym e))

pub version_2 : (bytes : List ℕ) (o n : Cursor) (found : ℕ) → Stands bytes o Unread → Moves o (codes "C25 CERTIFICATE " ++ decimal found) n → found ≡ 2 → Stands bytes n (Inside true [] Between)
version_2 bytes o n found h m e = goes bytes o n (version_line found) Unread (Inside true [] Between) h m (found, omega arith, refl, ap started (sym e))

other_version : (found : ℕ) → found ≢ 1 → found ≢ 2 → started found ≡ Ends (faults.Version found)
other_version found not_1 not_2 =
    let one : (found == 1) ≡ false = grind (arith, nat_tests) in
    let two : (found == 2) ≡ false = grind (arith, nat_tests) in
    rw (one, two) refl

pub version_other : (bytes : List ℕ) (o n : Cursor) (found : ℕ) → Stands bytes o Unread → found ≤ 18446744073709551615 → Moves o (codes "C25 CERTIFICATE " ++ decimal found) n → found ≢ 1 → found ≢ 2 → Says bytes (faults.Version found)
version_other bytes o n found h fits m not_1 not_2 = ends bytes o n (version_line found) Unread (faults.Version found) h m (found, omega arith, refl, sym (other_version found not_1 not_2))

-- ---- the first line of a frame, and the last of all

pub named : (bytes : List ℕ) (o n : Cursor) (line name : List ℕ) (steps : Bool) (fs : List Frame) → Stands bytes o (Inside steps fs Between) → Moves o line n → IsName name → line ≡ frame_line name → Stands bytes n (Inside steps fs (Named name))
named bytes o n line name steps fs h m is text = goes bytes o n line (Inside steps fs Between) (Inside steps fs (Named name)) h m (inl (name, is, text, refl))

pub finished : (bytes : List ℕ) (o n : Cursor) (line : List ℕ) (steps : Bool) (fs : List Frame) → Stands bytes o (Inside steps fs Between) → Moves o line n → line ≡ last_line → Stands bytes n (Finished fs)
finished bytes o n line steps fs h m is = goes bytes o n line (Inside steps fs Between) (Finished fs) h m (inr (is, refl))

pub no_line_here : (bytes : List ℕ) (o : Cursor) (steps : Bool) (fs : List Frame) (part : Part) → Stands bytes o (Inside steps fs part) → Lacks 10 o.text → Says bytes (faults.BadLine (o.number + 1))
no_line_here bytes o steps fs part h lacks = stuck_inside bytes o steps fs part h (none_without_feed (Inside steps fs part) o.text lacks)

pub no_frame_here : (bytes : List ℕ) (o n : Cursor) (line : List ℕ) (steps : Bool) (fs : List Frame) → Stands bytes o (Inside steps fs Between) → Moves o line n → line ≢ last_line → ((name : List ℕ) → IsName name → line ≢ frame_line name) → Says bytes (faults.BadLine (o.number + 1))
no_frame_here bytes o n line steps fs h m no_end no_name =
    stuck_inside bytes o steps fs Between h (none_at (Inside steps fs Between) o.text line n.text m.cut m.whole (λ turn s. elim s [ inl a ↦ no_name a.0 a.1 a.2 | inr b ↦ no_end b.0 ]))

-- ---- the head of a frame

pub registers_read : (bytes : List ℕ) (o n : Cursor) (k : ℕ) (steps : Bool) (fs : List Frame) (name : List ℕ) → Stands bytes o (Inside steps fs (Named name)) → 1 ≤ k → k ≤ 4 → Moves o (codes "registers " ++ decimal k) n → Stands bytes n (Inside steps fs (registered steps name k))
registers_read bytes o n k steps fs name h low high m = goes bytes o n (registers_line k) (Inside steps fs (Named name)) (Inside steps fs (registered steps name k)) h m (k, low, high, refl, refl)

pub registers_stuck : (bytes : List ℕ) (o : Cursor) (steps : Bool) (fs : List Frame) (name : List ℕ) → Stands bytes o (Inside steps fs (Named name)) → ((n : ℕ) → 1 ≤ n → n ≤ 4 → IsNotNext (codes "registers " ++ decimal n) o.text) → Says bytes (faults.BadLine (o.number + 1))
registers_stuck bytes o steps fs name h none = stuck_inside bytes o steps fs (Named name) h (λ line more turn w e s. not_it (registers_line s.0) o.text line more (none s.0 s.1 s.2) w e s.3)

pub step_read : (bytes : List ℕ) (o n : Cursor) (d : ℕ) (steps : Bool) (fs : List Frame) (name : List ℕ) (k : ℕ) → steps ≡ true → Stands bytes o (Inside steps fs (registered steps name k)) → 1 ≤ d → d ≤ 8 → Moves o (codes "step " ++ decimal d) n → Stands bytes n (Inside steps fs (Stepped name k d))
step_read bytes o n d steps fs name k is h low high m = goes bytes o n (codes "step " ++ decimal d) (Inside steps fs (Counted name k)) (Inside steps fs (Stepped name k d)) (subst (λ b. Stands bytes o (Inside steps fs (registered b name k))) is h) m (d, low, high, refl, refl)

pub step_stuck : (bytes : List ℕ) (o : Cursor) (steps : Bool) (fs : List Frame) (name : List ℕ) (k : ℕ) → steps ≡ true → Stands bytes o (Inside steps fs (registered steps name k)) → ((n : ℕ) → 1 ≤ n → n ≤ 8 → IsNotNext (codes "step " ++ decimal n) o.text) → Says bytes (faults.BadLine (o.number + 1))
step_stuck bytes o steps fs name k is h none = stuck_inside bytes o steps fs (Counted name k) (subst (λ b. Stands bytes o (Inside steps fs (registered b name k))) is h) (λ line more turn w e s. not_it (codes "step " ++ decimal s.0) o.text line more (none s.0 s.1 s.2) w e s.3)

pub step_absent : (bytes : List ℕ) (o : Cursor) (steps : Bool) (fs : List Frame) (name : List ℕ) (k : ℕ) → steps ≡ false → Stands bytes o (Inside steps fs (registered steps name k)) → Stands bytes o (Inside steps fs (Stepped name k 1))
step_absent bytes o steps fs name k is h = subst (λ b. Stands bytes o (Inside steps fs (registered b name k))) is h

pub scalars_read : (bytes : List ℕ) (o n : Cursor) (scalars : ℕ) (steps : Bool) (fs : List Frame) (name : List ℕ) (k d : ℕ) → Stands bytes o (Inside steps fs (Stepped name k d)) → scalars ≤ 64 → Moves o (codes "scalars " ++ decimal scalars) n → Stands bytes n (Inside steps fs (Listing (head_of name k d scalars) [] [] []))
scalars_read bytes o n scalars steps fs name k d h few m = goes bytes o n (codes "scalars " ++ decimal scalars) (Inside steps fs (Stepped name k d)) (Inside steps fs (Listing (head_of name k d scalars) [] [] [])) h m (scalars, few, refl, refl)

pub scalars_stuck : (bytes : List ℕ) (o : Cursor) (steps : Bool) (fs : List Frame) (name : List ℕ) (k d : ℕ) → Stands bytes o (Inside steps fs (Stepped name k d)) → ((n : ℕ) → 0 ≤ n → n ≤ 64 → IsNotNext (codes "scalars " ++ decimal n) o.text) → Says bytes (faults.BadLine (o.number + 1))
scalars_stuck bytes o steps fs name k d h none = stuck_inside bytes o steps fs (Stepped name k d) h (λ line more turn w e s. not_it (codes "scalars " ++ decimal s.0) o.text line more (none s.0 (omega arith) s.1) w e s.2)

-- ---- claims and marks

pub claim_read : (bytes : List ℕ) (o n : Cursor) (line : List ℕ) (claim : Claim) (steps : Bool) (fs : List Frame) (h : Head) (blocks : List Block) (bases : List ℕ) (lists : List (List ℕ)) (cost : ℕ) → Stands bytes o (Inside steps fs (Costed h blocks bases lists cost)) → Moves o line n → IsClaim claim → line ≡ claim_line claim → Stands bytes n (Inside steps fs (Claimed (frame_of h blocks bases lists cost claim)))
claim_read bytes o n line claim steps fs h blocks bases lists cost at m is text = goes bytes o n line (Inside steps fs (Costed h blocks bases lists cost)) (Inside steps fs (Claimed (frame_of h blocks bases lists cost claim))) at m (claim, is, text, refl)

pub claim_stuck : (bytes : List ℕ) (o n : Cursor) (line : List ℕ) (steps : Bool) (fs : List Frame) (h : Head) (blocks : List Block) (bases : List ℕ) (lists : List (List ℕ)) (cost : ℕ) → Stands bytes o (Inside steps fs (Costed h blocks bases lists cost)) → Moves o line n → ((claim : Claim) → IsClaim claim → line ≢ claim_line claim) → Says bytes (faults.BadLine (o.number + 1))
claim_stuck bytes o n line steps fs h blocks bases lists cost at m none =
    stuck_inside bytes o steps fs (Costed h blocks bases lists cost) at (none_at (Inside steps fs (Costed h blocks bases lists cost)) o.text line n.text m.cut m.whole (λ turn s. none s.0 s.1 s.2))

pub marks_stuck : (bytes : List ℕ) (o : Cursor) (steps : Bool) (fs : List Frame) (f : Frame) → Stands bytes o (Inside steps fs (Claimed f)) → ((n : ℕ) → 0 ≤ n → n ≤ 18446744073709551615 → IsNotNext (codes "marks " ++ decimal n) o.text) → Says bytes (faults.BadLine (o.number + 1))
marks_stuck bytes o steps fs f h none = stuck_inside bytes o steps fs (Claimed f) h (λ line more turn w e s. not_it (marks_line s.0) o.text line more (none s.0 (omega arith) (omega (arith, s.1))) w e s.2)

pub marks_short : (bytes : List ℕ) (o n : Cursor) (count frame : ℕ) (steps : Bool) (fs : List Frame) (f : Frame) → length fs ≡ frame → Stands bytes o (Inside steps fs (Claimed f)) → count ≤ 18446744073709551615 → Moves o (codes "marks " ++ decimal count) n → is_short count n.text ≡ true → Says bytes (faults.Short frame)
marks_short bytes o n count frame steps fs f number h fits m short =
    let turn : counted_marks steps fs f count n.text ≡ Ends (faults.Short (length fs)) = rw short refl in
    subst (λ k. Says bytes (faults.Short k)) number (ends bytes o n (marks_line count) (Inside steps fs (Claimed f)) (faults.Short (length fs)) h m (count, omega arith, refl, sym turn))

pub marks_counted : (bytes : List ℕ) (o n : Cursor) (count : ℕ) (steps : Bool) (fs : List Frame) (f : Frame) → Stands bytes o (Inside steps fs (Claimed f)) → count ≤ 18446744073709551615 → Moves o (codes "marks " ++ decimal count) n → is_short count n.text ≡ false → Stands bytes n (Inside steps fs (Marking f count))
marks_counted bytes o n count steps fs f h fits m enough =
    let turn : counted_marks steps fs f count n.text ≡ Goes (Inside steps fs (Marking f count)) = rw enough refl in
    goes bytes o n (marks_line count) (Inside steps fs (Claimed f)) (Inside steps fs (Marking f count)) h m (count, omega arith, refl, sym turn)

-- a line of marks, where some are left
pub mark_line_stuck : (bytes : List ℕ) (o n : Cursor) (line : List ℕ) (left : ℕ) (steps : Bool) (fs : List Frame) (f : Frame) → 0 < left → Stands bytes o (Inside steps fs (Marking f left)) → Moves o line n → ((marks : List Mark) → length line ≡ min left 64 → line ≢ mark_bytes marks) → Says bytes (faults.BadLine (o.number + 1))
mark_line_stuck bytes o n line left steps fs f some h m none =
    stuck_inside bytes o steps fs (Marking f left) h (none_at (Inside steps fs (Marking f left)) o.text line n.text m.cut m.whole (λ turn s. elim s [ inl a ↦ none a.0 (ap length a.1.text ∙ length_marks a.0 ∙ a.1.full) a.1.text | inr b ↦ omega (arith, some, b.0) ]))
  where
    length_marks : (marks : List Mark) → length (mark_bytes marks) ≡ length marks
    length_marks [] = refl
    length_marks (x ∷ xs) = omega (arith, length_marks xs)

pub frame_closed : (bytes : List ℕ) (o n : Cursor) (steps : Bool) (fs : List Frame) (f : Frame) → Stands bytes o (Inside steps fs (Marking f 0)) → Moves o (codes "endframe") n → Stands bytes n (Inside steps (fs ++ f ∷ []) Between)
frame_closed bytes o n steps fs f h m = goes bytes o n frame_end (Inside steps fs (Marking f 0)) (Inside steps (fs ++ f ∷ []) Between) h m (inr (refl, refl, refl))

pub frame_end_stuck : (bytes : List ℕ) (o : Cursor) (steps : Bool) (fs : List Frame) (f : Frame) → Stands bytes o (Inside steps fs (Marking f 0)) → IsNotNext (codes "endframe") o.text → Says bytes (faults.BadLine (o.number + 1))
frame_end_stuck bytes o steps fs f h none =
    stuck_inside bytes o steps fs (Marking f 0) h (λ line more turn w e s. elim s [ inl a ↦ omega (arith, a.1.some) | inr b ↦ not_it frame_end o.text line more none w e b.1 ])
