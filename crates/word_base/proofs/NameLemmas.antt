-- Names are texts in UTF-8.
use Rattle.std.proofs.Common.{arith, ℕ, ◌<◌, List}
use Rattle.std.specs.Prelude.{IsUtf8}
use Rattle.std.proofs.lemmas.Str.{IsUtf8-from_ascii}
use Rattle.std.proofs.lemmas.Str.Ascii.{IsAscii-from_all}
use Rattle.word_base.specs.Name.{IsNamePart, IsName}

part_ascii : (b : ℕ) → IsNamePart b → b < 128
part_ascii b h = grind arith

pub name_utf8 : (name : List ℕ) → IsName name → IsUtf8 name
name_utf8 name h = IsUtf8-from_ascii name (IsAscii-from_all name (λ i d lt. part_ascii _ (h.each i d lt)))
