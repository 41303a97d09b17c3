-- A frame is read, and all frames are.
use Rattle.std.proofs.Common.{◌≡◌, ◌≢◌, ℕ, ◌+◌, ◌≤◌, Bool, true, false, ◌==◌, cond, List, [], ◌∷◌, ◌++◌, length, sym, ap, subst, ◌∙◌, inl, inr, arith, length-append}
use Rattle.word_base.specs.Name.{IsName}
use Rattle.lay_model.specs.Sequences.{Sequence}
use Rattle.lay_model.specs.Arrangements.{Arranges}
use Rattle.std.specs.List.{concat}
use Rattle.text_base.specs.Lines.{with_feed, lines_text}
use Rattle.lay_tree.specs.declared.answer.Mark.{Mark}
use Rattle.lay_cert.specs.declared.certificate.Claim.{Claim}
use Rattle.lay_cert.specs.declared.fault.CertFault.TheVariants as faults
use Rattle.lay_cert.specs.Frames.{Frame, IsFrame}
use Rattle.lay_lines.specs.MarkText.{is_short}
use Rattle.lay_cert.specs.CertReading.{Part, Between, Named, Counted, Stepped, Listing, Costed, Claimed, Marking, Place, Unread, Inside, Finished, Goes, Ends, PartStep, Step, Runs, Reached, Reads, head_of, frame_of, marked, started, counted_marks, Says}
use Rattle.lay_cert.specs.LineReading.{Cursor, Stands, IsHead}
use Rattle.lay_cert.proofs.Places.{stuck}

-- ---- one frame

same_sequence : (seq : Sequence) (scalars step : ℕ) → seq.scalars ≡ scalars → seq.step ≡ step → record { scalars = scalars; step = step; blocks = seq.blocks } ≡ seq
same_sequence seq scalars step e f =
    ap (λ n. record { scalars = n; step = step; blocks = seq.blocks }) (sym e) ∙ ap (λ d. record { scalars = seq.scalars; step = d; blocks = seq.blocks }) (sym f)

pub frame_read : (bytes : List ℕ) (n : Cursor) (steps : Bool) (fs : List Frame) (name : List ℕ) (k step scalars : ℕ) (seq : Sequence) (bases : List ℕ) (lists : List (List ℕ)) (cost : ℕ) (claim : Claim) (log : List Mark) (found : Frame) → seq.scalars ≡ scalars → seq.step ≡ step
    → Stands bytes n (Inside steps (fs ++ marked (frame_of (head_of name k step scalars) seq.blocks bases lists cost claim) log ∷ []) Between)
    → found ≡ record { name = name; registers = k; seq = seq; arr = lists; bases = bases; cost = cost; claim = claim; log = log } → Stands bytes n (Inside steps (fs ++ found ∷ []) Between)
frame_read bytes n steps fs name k step scalars seq bases lists cost claim log found e f h is =
    let same = ap (λ s. record { name = name; registers = k; seq = s; arr = lists; bases = bases; cost = cost; claim = claim; log = log }) (same_sequence seq scalars step e f) in
    subst (λ x. Stands bytes n (Inside steps (fs ++ x ∷ []) Between)) (same ∙ sym is) h

pub is_frame : (name : List ℕ) (k step scalars : ℕ) (seq : Sequence) (bases : List ℕ) (lists : List (List ℕ)) (cost : ℕ) (claim : Claim) (log : List Mark) → IsName name → IsHead k step scalars → seq.scalars ≡ scalars → Arranges scalars lists → length lists ≤ k → length bases ≡ length lists
    → IsFrame (record { name = name; registers = k; seq = seq; arr = lists; bases = bases; cost = cost; claim = claim; log = log })
is_frame name k step scalars seq bases lists cost claim log is h e a few based = record {
  name = is;
  some = h.some;
  few = h.few;
  arranged = subst (λ n. Arranges n lists) (sym e) a;
  lists = few;
  based = based;
}

pub arranges_itself : (n : ℕ) (lists : List (List ℕ)) → Arranges n lists → Arranges (length (concat lists)) lists
arranges_itself n lists a = subst (λ m. Arranges m lists) (sym a.all) a

-- ---- all frames

pub frames_read : (bytes : List ℕ) (o : Cursor) (fs : List Frame) → Stands bytes o (Finished fs) → o.text ≡ [] → Reads bytes fs
frames_read bytes o fs h none = record { number = o.number; reached = subst (λ t. Reached bytes o.number t (Finished fs)) none h }

pub behind_last : (bytes : List ℕ) (o : Cursor) (fs : List Frame) → Stands bytes o (Finished fs) → o.text ≢ [] → Says bytes (faults.BadLine (o.number + 1))
behind_last bytes o fs h some = stuck bytes o.number o.text (Finished fs) h (λ line more turn w e s. s) (λ gs e. some)

-- ---- there are no more frames than bytes

frames_in : Place → ℕ
frames_in Unread = 0
frames_in (Inside steps fs part) = length fs
frames_in (Finished fs) = length fs

started_few : (version : ℕ) (r : Place) → Goes r ≡ started version → frames_in r ≤ 0
unfolding frames_in
started_few version r e = by (version == 1) (version == 2) e
  where
    by : (a b : Bool) → Goes r ≡ cond a (Goes (Inside false [] Between)) (cond b (Goes (Inside true [] Between)) (Ends (faults.Version version))) → frames_in r ≤ 0
    by true b f = let is : r ≡ Inside false [] Between = cc in omega (arith, ap frames_in is)
    by false true f = let is : r ≡ Inside true [] Between = cc in omega (arith, ap frames_in is)
    by false false f = absurd cc

counted_few : (steps : Bool) (fs : List Frame) (f : Frame) (marks : ℕ) (text : List ℕ) (r : Place) → Goes r ≡ counted_marks steps fs f marks text → frames_in r ≤ length fs
unfolding frames_in
counted_few steps fs f marks text r e = by (is_short marks text) e
  where
    by : (a : Bool) → Goes r ≡ cond a (Ends (faults.Short (length fs))) (Goes (Inside steps fs (Marking f marks))) → frames_in r ≤ length fs
    by true g = absurd cc
    by false g = let is : r ≡ Inside steps fs (Marking f marks) = cc in omega (arith, ap frames_in is)

inside_few : (steps : Bool) (fs : List Frame) (part : Part) (r : Place) → Goes r ≡ Goes (Inside steps fs part) → frames_in r ≤ length fs + 1
unfolding frames_in
inside_few steps fs part r e = let is : r ≡ Inside steps fs part = cc in omega (arith, ap frames_in is)

finished_few : (fs : List Frame) (r : Place) → Goes r ≡ Goes (Finished fs) → frames_in r ≤ length fs + 1
unfolding frames_in
finished_few fs r e = let is : r ≡ Finished fs = cc in omega (arith, ap frames_in is)

next_few : (steps : Bool) (fs : List Frame) (f : Frame) (r : Place) → Goes r ≡ Goes (Inside steps (fs ++ f ∷ []) Between) → frames_in r ≤ length fs + 1
unfolding frames_in
next_few steps fs f r e = let is : r ≡ Inside steps (fs ++ f ∷ []) Between = cc in omega (arith, ap frames_in is, length-append fs (f ∷ []))

part_few : (steps : Bool) (fs : List Frame) (p : Part) (line text : List ℕ) (r : Place) → PartStep steps fs p line text (Goes r) → frames_in r ≤ length fs + 1
part_few steps fs Between line text r (inl s) = inside_few steps fs _ r s.3
part_few steps fs Between line text r (inr s) = finished_few fs r s.1
part_few steps fs (Named name) line text r s = inside_few steps fs _ r s.4
part_few steps fs (Counted name k) line text r s = inside_few steps fs _ r s.4
part_few steps fs (Stepped name k d) line text r s = inside_few steps fs _ r s.3
part_few steps fs (Listing h blocks bases lists) line text r (inl s) = inside_few steps fs _ r s.2
part_few steps fs (Listing h blocks bases lists) line text r (inr (inl s)) = inside_few steps fs _ r s.3
part_few steps fs (Listing h blocks bases lists) line text r (inr (inr s)) = inside_few steps fs _ r s.2
part_few steps fs (Costed h blocks bases lists cost) line text r s = inside_few steps fs _ r s.3
part_few steps fs (Claimed f) line text r s = omega (arith, counted_few steps fs f s.0 text r s.3)
part_few steps fs (Marking f left) line text r (inl s) = inside_few steps fs _ r s.2
part_few steps fs (Marking f left) line text r (inr s) = next_few steps fs f r s.2

step_few : (q : Place) (line text : List ℕ) (r : Place) → Step q line text (Goes r) → frames_in r ≤ frames_in q + 1
unfolding frames_in
step_few Unread line text r s = omega (arith, started_few s.0 r s.3)
step_few (Inside steps fs part) line text r s = part_few steps fs part line text r s
step_few (Finished fs) line text r s = absurd s

runs_few : (p : Place) (front : List (List ℕ)) (text : List ℕ) (q : Place) → Runs p front text q → frames_in q ≤ frames_in p + length front
runs_few p [] text q h = omega (arith, ap frames_in h)
runs_few p (line ∷ more) text q h = omega (arith, step_few p line (lines_text more ++ text) h.0 h.2, runs_few h.0 more text q h.3)

lines_few : (front : List (List ℕ)) → length front ≤ length (lines_text front)
lines_few [] = omega arith
lines_few (line ∷ more) = omega (arith, lines_few more, length-append (with_feed line) (lines_text more), length-append line (10 ∷ []))

pub frames_few : (bytes : List ℕ) (number : ℕ) (text : List ℕ) (steps : Bool) (fs : List Frame) (part : Part) → Reached bytes number text (Inside steps fs part) → length fs ≤ length bytes
unfolding frames_in
frames_few bytes number text steps fs part h =
    omega (arith, runs_few Unread h.front text (Inside steps fs part) h.runs, lines_few h.front, ap length h.cut, length-append (lines_text h.front) text)
