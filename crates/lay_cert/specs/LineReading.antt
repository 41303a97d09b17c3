-- What the reader of a certificate has read so far, and what a line gives (docs/FORMATS.md, "Certificates").
use Rattle.std.specs.Prelude.{◌≡◌, ◌≢◌, ℕ, ◌+◌, ◌<◌, ◌≤◌, Bool, List, [], ◌++◌, length, map, codes}
use Rattle.text_base.specs.Lines.{with_feed, Lacks}
use Rattle.lay_model.specs.Sequences.{Block}
use Rattle.lay_cert.specs.Frames.{Frame}
use Rattle.lay_lines.specs.ListText.{capped}
use Rattle.lay_cert.specs.CertReading.{Place, Inside, Listing, Head, Reached}

-- so many lines are read, and this text is left
pub record Cursor : Type 0 where
  pub number : ℕ
  pub text : List ℕ

-- those lines lead to this place
abbrev pub Stands : List ℕ → Cursor → Place → Type 0
Stands bytes at q = Reached bytes at.number at.text q

-- the next line is read
pub record Moves (old : Cursor) (line : List ℕ) (new : Cursor) : Type 0 where
  pub whole : Lacks 10 line
  pub cut : old.text ≡ with_feed line ++ new.text
  pub next : new.number ≡ old.number + 1
  pub shorter : length new.text < length old.text

-- the next line, if there is one, doesn't begin so
abbrev pub BeginsNot : List ℕ → List ℕ → Type 0
BeginsNot word text = (line more : List ℕ) → Lacks 10 line → text ≡ with_feed line ++ more → (rest : List ℕ) → line ≢ word ++ rest

-- it isn't this one
abbrev pub IsNotNext : List ℕ → List ℕ → Type 0
IsNotNext line text = (more : List ℕ) → Lacks 10 line → text ≢ with_feed line ++ more

-- the lists of a frame are read, of which greater numbers are kept as 255, and neither a block nor a list is next
pub record HasLists (bytes : List ℕ) (steps : Bool) (fs : List Frame) (h : Head) (blocks : List Block) (kept : List (List ℕ)) (bases : List ℕ) (at : Cursor) : Type 0 where
  pub lists : List (List ℕ)
  pub are_kept : kept ≡ map capped lists
  pub stands : Stands bytes at (Inside steps fs (Listing h blocks bases lists))
  pub no_block : lists ≡ [] → BeginsNot (codes "block ") at.text
  pub no_list : BeginsNot (codes "list ") at.text

-- numbers of a frame's first lines
pub record IsHead (registers step scalars : ℕ) : Type 0 where
  pub some : 1 ≤ registers
  pub few : registers ≤ 4
  pub moves : 1 ≤ step
  pub near : step ≤ 8
  pub low : scalars ≤ 64
