-- Tokens with other names and places.
use Rattle.std.specs.Prelude.{◌≡◌, List}
use Rattle.std.specs.List.{AllZip}
use Rattle.c_tree.specs.c_syntax.declared.token.Token.{Token}
use Rattle.c_tree.specs.c_syntax.declared.token.TokenKind.{TokenKind}
use Rattle.c_tree.specs.c_syntax.declared.token.TokenKind.TheVariants.{Word, Name, Number, Char, Mark}
use Rattle.c_renaming.specs.Renaming.{Renaming}

module _ (r : Renaming) where
  abbrev pub renamed_kind : TokenKind → TokenKind
  renamed_kind (Word keyword) = Word keyword
  renamed_kind (Name name) = Name (r.name name)
  renamed_kind (Number value marked decimal) = Number value marked decimal
  renamed_kind (Char value) = Char value
  renamed_kind (Mark mark) = Mark mark

  -- one token is another renamed; how long it is says nothing
  pub record IsRenamed (t other : Token) : Type 0 where
    pub kind : other.kind ≡ renamed_kind t.kind
    pub place : other.at ≡ r.place t.at

  abbrev pub AreRenamed : List Token → List Token → Type 0
  AreRenamed tokens others = AllZip IsRenamed tokens others
