-- The addresses that tables hold of marks and of names (docs/MACHINE.md, "Pieces"): the first place of each counts.
use Rattle.std.specs.Prelude.{ℕ, nat_eq, Bool, if◌then◌else◌, List, Option, Some, None, unwrap_or}
use Rattle.std.specs.Str.{bytes_eq}
use Rattle.std.specs.Borrow.{Bor}
use Rattle.std.specs.declared.hash.BuildHasherDefault.{BuildHasherDefault}
use Rattle.std.specs.declared.hash.FoldHasher.{FoldHasher}
use Rattle.std.specs.HashMap.{HashMap, get, get_by}
use Rattle.c25_isa.specs.declared.piece.PieceItem.{PieceItem}
use Rattle.c25_isa.specs.Pieces.{is_mark}
use Rattle.c25_isa.specs.Step.{wrap16}
use Rattle.c25_link.specs.declared.marks.Marks.{Marks}
use Rattle.c25_link.specs.declared.names.Names.{Names}

abbrev pub MarkTable : Type 0
MarkTable = HashMap ℕ ℕ (BuildHasherDefault FoldHasher)

abbrev pub NameTable : Type 0
NameTable = HashMap (Bor (List ℕ)) ℕ (BuildHasherDefault FoldHasher)

-- what a table has
abbrev pub marks_in : MarkTable → ℕ → Option ℕ
marks_in t = λ mark. get nat_eq t mark

abbrev pub names_in : NameTable → List ℕ → Option ℕ
names_in t = λ name. get_by (λ k. bytes_eq name k.now) t

-- the address that was there, or this one where it is wanted
abbrev pub or_at : Option ℕ → Bool → ℕ → Option ℕ
or_at (Some address) wanted at = Some address
or_at None wanted at = if wanted then Some (wrap16 at) else None

-- with an item at an address, and with a piece of a name at one
abbrev pub with_mark : PieceItem → ℕ → (ℕ → Option ℕ) → ℕ → Option ℕ
with_mark item at found = λ mark. or_at (found mark) (is_mark mark item) at

abbrev pub with_name : List ℕ → ℕ → (List ℕ → Option ℕ) → List ℕ → Option ℕ
with_name name at found = λ other. or_at (found other) (bytes_eq name other) at

-- the address of each mark and of each name: that behind the code where it isn't there
abbrev pub mark_in : Marks → ℕ → ℕ
mark_in marks = λ mark. unwrap_or (marks_in marks.addresses mark) marks.behind

abbrev pub name_in : Names → List ℕ → ℕ
name_in names = λ name. unwrap_or (names_in names.addresses name) names.behind
