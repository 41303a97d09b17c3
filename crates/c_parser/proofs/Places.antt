-- Where tokens are refused.
use Rattle.std.proofs.Common.{◌≡◌, ◌+◌, min, List, [], ◌∷◌, ◌++◌, refl}
use Rattle.c_syntax.specs.declared.token.Token.{Token}
use Rattle.c_syntax.specs.Source.{end_of}

pub end_last : (before : List Token) (t : Token) → end_of (before ++ t ∷ []) ≡ min (t.at + t.len) 4294967295
end_last [] t = refl
end_last (u ∷ []) t = refl
end_last (u ∷ v ∷ more) t = end_last (v ∷ more) t
