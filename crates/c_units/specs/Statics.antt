-- The statics of a file, the names that they get, and names that are reserved for these (docs/LANGUAGE.md, "Programs of several
-- files"; ISO 9899:1990 6.1.2.2).
use Rattle.std.specs.Prelude.{◌≡◌, ◌≢◌, ℕ, ◌==◌, ◌&&◌, ◌||◌, nat_lt, nat_le, Bool, false, if◌then◌else◌, List, [], ◌∷◌, ◌++◌, length, map, flat_map, reverse, codes, decimal, Option, Some, None, All}
use Rattle.c_tree.specs.c_syntax.declared.token.Token.{Token}
use Rattle.c_tree.specs.c_syntax.declared.token.TokenKind.{TokenKind}
use Rattle.c_tree.specs.c_syntax.declared.token.TokenKind.TheVariants.{Name}
use Rattle.c_tree.specs.c_syntax.Spelling.{IsDigit}
use Rattle.c_tree.specs.c_syntax.SyntaxTree.{ExternalTree, Defined, Declared, UnitTree}
use Rattle.c_tree.specs.c_syntax.declared.syntax.SpecWord.TheVariants.{Static}
use Rattle.c_rules.specs.Typing.{has}
use Rattle.c_rules.specs.Units.{is_name_among}

-- the names that an external declares with `static`
abbrev pub statics_in : ExternalTree → List (List ℕ)
statics_in (Defined f) = if has Static f.specs.words then f.name ∷ [] else []
statics_in (Declared d) = if has Static d.specs.words then map (λ item. item.name) d.items else []

abbrev pub statics_of : UnitTree → List (List ℕ)
statics_of unit = flat_map statics_in unit

-- the name that a static of the file of this number gets
abbrev pub static_name : ℕ → List ℕ → List ℕ
static_name number name = name ++ (codes "__" ++ decimal number)

abbrev pub is_digit : ℕ → Bool
is_digit code = nat_le 48 code && nat_le code 57

-- this text and the next are read from their end
abbrev pub ends_in_underscores : List ℕ → Bool
ends_in_underscores (last ∷ before ∷ front) = last == 95 && before == 95
ends_in_underscores front = false

abbrev pub marked_before_digits : List ℕ → Bool
marked_before_digits [] = false
marked_before_digits (code ∷ front) = if is_digit code then marked_before_digits front else ends_in_underscores (code ∷ front)

abbrev pub ends_in_number : List ℕ → Bool
ends_in_number name = from_end (reverse name)
  where
    -- a text that is read from its end: digits, at least one, and then `__`
    from_end : List ℕ → Bool
    from_end [] = false
    from_end (code ∷ front) = is_digit code && marked_before_digits front

-- the same, apart from a reading: the name is `__` and digits, at least one, behind something
pub record EndsInNumber (name : List ℕ) : Type 0 where
  pub front : List ℕ
  pub digits : List ℕ
  pub is : name ≡ front ++ (codes "__" ++ digits)
  pub some : digits ≢ []
  pub each : All IsDigit digits

-- a name that none may have in a file with these statics: it ends in `__` and digits, or is that of a static and is too long to get
-- another
abbrev pub is_reserved : List (List ℕ) → List ℕ → Bool
is_reserved statics name = ends_in_number name || (is_name_among name statics && nat_lt 120 (length name))

abbrev pub is_reserved_kind : List (List ℕ) → TokenKind → Bool
is_reserved_kind statics (Name name) = is_reserved statics name
is_reserved_kind statics kind = false

-- the place of the first such name
abbrev pub reserved_at : List (List ℕ) → List Token → Option ℕ
reserved_at statics [] = None
reserved_at statics (t ∷ ts) = if is_reserved_kind statics t.kind then Some t.at else reserved_at statics ts
