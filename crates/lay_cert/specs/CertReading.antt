-- How bytes are read as a certificate, line by line, and which fault they have where they aren't one (docs/FORMATS.md, "Certificates").
use Rattle.std.specs.Prelude.{◌≡◌, ◌≢◌, ◌⊎◌, ℕ, ◌-◌, ◌<◌, ◌≤◌, ◌^◌, ◌==◌, min, Bool, true, false, if◌then◌else◌, List, [], ◌∷◌, ◌++◌, length}
use Rattle.std.specs.List.{sum_by, AllByRecursion}
use Rattle.word_base.specs.Name.{IsName}
use Rattle.lay_model.specs.Sequences.{Block, counted}
use Rattle.lay_model.specs.Arrangements.{Arranges}
use Rattle.text_base.specs.Lines.{with_feed, lines_text, Lacks}
use Rattle.lay_lines.specs.BlockText.{scalars_line, step_line, block_line, IsBlockOf}
use Rattle.lay_tree.specs.declared.answer.Mark.{Mark}
use Rattle.lay_cert.specs.declared.certificate.Claim.{Claim}
use Rattle.lay_cert.specs.declared.fault.CertFault.{CertFault}
use Rattle.lay_cert.specs.declared.fault.CertFault.TheVariants as faults
use Rattle.lay_cert.specs.Frames.{Frame, IsClaim}
use Rattle.lay_cert.specs.CertText.{version_line, frame_line, registers_line, cost_line, claim_line, marks_line, frame_end, last_line}
use Rattle.lay_lines.specs.ListText.{list_line}
use Rattle.lay_lines.specs.MarkText.{mark_bytes, is_short}

-- the first lines of a frame
pub record Head : Type 0 where
  pub name : List ℕ
  pub registers : ℕ
  pub step : ℕ
  pub scalars : ℕ

-- what is read of a frame: nothing, its name, its registers, its step, its blocks and lists, its cost, its claim, or some marks, of which so many are left
pub data Part : Type 0 where
  Between : Part
  Named : List ℕ → Part
  Counted : List ℕ → ℕ → Part
  Stepped : List ℕ → ℕ → ℕ → Part
  Listing : Head → List Block → List ℕ → List (List ℕ) → Part
  Costed : Head → List Block → List ℕ → List (List ℕ) → ℕ → Part
  Claimed : Frame → Part
  Marking : Frame → ℕ → Part

-- how far a certificate is read: not at all, up to some part of a frame behind others, in a version with steps or without them, or all of it
pub data Place : Type 0 where
  Unread : Place
  Inside : Bool → List Frame → Part → Place
  Finished : List Frame → Place

-- what a line does: it leads to a place, or it is where a fault other than its own spelling is known
pub data Turn : Type 0 where
  Goes : Place → Turn
  Ends : CertFault → Turn

abbrev pub head_of : List ℕ → ℕ → ℕ → ℕ → Head
head_of name registers step scalars = record { name = name; registers = registers; step = step; scalars = scalars }

-- a frame before its marks
abbrev pub frame_of : Head → List Block → List ℕ → List (List ℕ) → ℕ → Claim → Frame
frame_of h blocks bases lists cost claim = record {
  name = h.name;
  registers = h.registers;
  seq = record { scalars = h.scalars; step = h.step; blocks = blocks };
  arr = lists;
  bases = bases;
  cost = cost;
  claim = claim;
  log = [];
}

-- with more marks
abbrev pub marked : Frame → List Mark → Frame
marked f marks = record {
  name = f.name;
  registers = f.registers;
  seq = f.seq;
  arr = f.arr;
  bases = f.bases;
  cost = f.cost;
  claim = f.claim;
  log = f.log ++ marks;
}

-- versions 1 and 2 are read
abbrev pub started : ℕ → Turn
started version = if version == 1 then Goes (Inside false [] Between) else (if version == 2 then Goes (Inside true [] Between) else Ends (faults.Version version))

-- behind the registers: in version 1 each step is 1
abbrev pub registered : Bool → List ℕ → ℕ → Part
registered true name registers = Counted name registers
registered false name registers = Stepped name registers 1

-- the turn at the line of so many marks, behind which this text stands, in the frame of this number
abbrev pub counted_marks : Bool → List Frame → Frame → ℕ → List ℕ → Turn
counted_marks steps fs f marks text = if is_short marks text then Ends (faults.Short (length fs)) else Goes (Inside steps fs (Marking f marks))

-- ---- what each line may be

-- a block stands before all lists
pub record IsBlockLine (h : Head) (blocks : List Block) (lists : List (List ℕ)) (line : List ℕ) (block : Block) : Type 0 where
  pub few : h.scalars ≤ 64
  pub before : lists ≡ []
  pub is_block : IsBlockOf h.scalars (2 ^ 60 - sum_by counted blocks) block
  pub text : line ≡ block_line block

-- at most as many lists as registers, of any numbers
pub record IsListLine (h : Head) (lists : List (List ℕ)) (line : List ℕ) (base : ℕ) (numbers : List ℕ) : Type 0 where
  pub room : length lists < h.registers
  pub fits : base < 2 ^ 16
  pub each : AllByRecursion (λ n. n < 2 ^ 64) numbers
  pub text : line ≡ list_line base numbers

-- the cost stands behind lists that arrange the scalars
pub record IsCostLine (h : Head) (lists : List (List ℕ)) (line : List ℕ) (cost : ℕ) : Type 0 where
  pub arranged : Arranges h.scalars lists
  pub fits : cost < 2 ^ 64
  pub text : line ≡ cost_line cost

-- marks fill their line, or are all that are left
pub record IsMarkLine (left : ℕ) (line : List ℕ) (marks : List Mark) : Type 0 where
  pub some : 0 < left
  pub full : length marks ≡ min left 64
  pub text : line ≡ mark_bytes marks

-- what a line does behind a part of a frame, where this text stands behind the line
abbrev pub PartStep : Bool → List Frame → Part → List ℕ → List ℕ → Turn → Type 0
PartStep steps fs Between line text turn =
    ((name : List ℕ) × IsName name × (line ≡ frame_line name) × (turn ≡ Goes (Inside steps fs (Named name))))
    ⊎ ((line ≡ last_line) × (turn ≡ Goes (Finished fs)))
PartStep steps fs (Named name) line text turn =
    (k : ℕ) × (1 ≤ k) × (k ≤ 4) × (line ≡ registers_line k) × (turn ≡ Goes (Inside steps fs (registered steps name k)))
PartStep steps fs (Counted name k) line text turn =
    (d : ℕ) × (1 ≤ d) × (d ≤ 8) × (line ≡ step_line d) × (turn ≡ Goes (Inside steps fs (Stepped name k d)))
PartStep steps fs (Stepped name k d) line text turn =
    (n : ℕ) × (n ≤ 64) × (line ≡ scalars_line n) × (turn ≡ Goes (Inside steps fs (Listing (head_of name k d n) [] [] [])))
PartStep steps fs (Listing h blocks bases lists) line text turn =
    ((block : Block) × IsBlockLine h blocks lists line block × (turn ≡ Goes (Inside steps fs (Listing h (blocks ++ block ∷ []) bases lists))))
    ⊎ ((base : ℕ) × (numbers : List ℕ) × IsListLine h lists line base numbers × (turn ≡ Goes (Inside steps fs (Listing h blocks (bases ++ base ∷ []) (lists ++ numbers ∷ [])))))
    ⊎ ((cost : ℕ) × IsCostLine h lists line cost × (turn ≡ Goes (Inside steps fs (Costed h blocks bases lists cost))))
PartStep steps fs (Costed h blocks bases lists cost) line text turn =
    (claim : Claim) × IsClaim claim × (line ≡ claim_line claim) × (turn ≡ Goes (Inside steps fs (Claimed (frame_of h blocks bases lists cost claim))))
PartStep steps fs (Claimed f) line text turn =
    (marks : ℕ) × (marks < 2 ^ 64) × (line ≡ marks_line marks) × (turn ≡ counted_marks steps fs f marks text)
PartStep steps fs (Marking f left) line text turn =
    ((marks : List Mark) × IsMarkLine left line marks × (turn ≡ Goes (Inside steps fs (Marking (marked f marks) (left - min left 64)))))
    ⊎ ((left ≡ 0) × (line ≡ frame_end) × (turn ≡ Goes (Inside steps (fs ++ f ∷ []) Between)))

-- and at any place: nothing stands behind the last line
abbrev pub Step : Place → List ℕ → List ℕ → Turn → Type 0
Step Unread line text turn = (version : ℕ) × (version < 2 ^ 64) × (line ≡ version_line version) × (turn ≡ started version)
Step (Inside steps fs part) line text turn = PartStep steps fs part line text turn
Step (Finished fs) line text turn = ⊥

-- ---- whole lines, one behind another

-- lines lead from a place to another, where this text stands behind them
abbrev pub Runs : Place → List (List ℕ) → List ℕ → Place → Type 0
Runs p [] text q = q ≡ p
Runs p (line ∷ more) text q = (m : Place) × Lacks 10 line × Step p line (lines_text more ++ text) (Goes m) × Runs m more text q

-- the first so many lines lead to this place, and this text stands behind them
pub record Reached (bytes : List ℕ) (number : ℕ) (text : List ℕ) (q : Place) : Type 0 where
  pub front : List (List ℕ)
  pub cut : bytes ≡ lines_text front ++ text
  pub counted : number ≡ length front
  pub runs : Runs Unread front text q

-- all lines are those of a certificate
pub record Reads (bytes : List ℕ) (fs : List Frame) : Type 0 where
  pub number : ℕ
  pub reached : Reached bytes number [] (Finished fs)

-- no line of the format stands first in the text: not a line with its line feed that could stand here, and not the end behind the last line
pub record IsStuck (q : Place) (text : List ℕ) : Type 0 where
  pub none : (line more : List ℕ) (turn : Turn) → Lacks 10 line → text ≡ with_feed line ++ more → Step q line more turn → ⊥
  pub not_over : (fs : List Frame) → q ≡ Finished fs → text ≢ []

-- the lines before this one can stand so, and this one can't
pub record IsFirstFaulty (bytes : List ℕ) (line : ℕ) : Type 0 where
  pub place : Place
  pub text : List ℕ
  pub from_one : 0 < line
  pub reached : Reached bytes (line - 1) text place
  pub stuck : IsStuck place text

-- a line at which this fault is known
pub record EndsSo (bytes : List ℕ) (fault : CertFault) : Type 0 where
  pub place : Place
  pub number : ℕ
  pub line : List ℕ
  pub more : List ℕ
  pub reached : Reached bytes number (with_feed line ++ more) place
  pub whole : Lacks 10 line
  pub step : Step place line more (Ends fault)

-- what each fault says of the bytes
abbrev pub Says : List ℕ → CertFault → Type 0
Says bytes (faults.BadLine line) = IsFirstFaulty bytes line
Says bytes (faults.Short frame) = EndsSo bytes (faults.Short frame)
Says bytes (faults.Version found) = EndsSo bytes (faults.Version found)
Says bytes faults.NoMemory = Unit {0}
