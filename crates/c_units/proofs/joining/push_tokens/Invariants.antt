use Rattle.std.proofs.Common.{◌≡◌, ◌++◌, map, drop}
use Rattle.c_renaming.specs.RenamedTokens.{renamed_kind}
use Rattle.c_units.specs.Files.{FileTree}
use Rattle.c_units.specs.Statics.{static_name, statics_of}
use Rattle.c_units.specs.Joining.{kinds_text, renaming_of}
use Rattle.c_units.specs.Views.{AreNames}
use Rattle.c_units.proofs.joining.push_tokens.Given as goal

-- the text so far and that of the tokens that are left
abbrev pub invariant-loop-token : goal.invariant-loop-token
invariant-loop-token l = (file : FileTree) → AreNames l.statics (statics_of file.unit)
    → l.text.items ++ kinds_text (map (λ t. renamed_kind (renaming_of static_name l.number file) t.kind) (drop l.token-index l.tokens))
    ≡ l.fn.text.items ++ kinds_text (map (λ t. renamed_kind (renaming_of static_name l.number file) t.kind) l.tokens)
