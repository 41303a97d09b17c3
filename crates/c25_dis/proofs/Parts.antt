-- Operands behind others.
use Rattle.std.proofs.Common.{◌≡◌, ℕ, ◌<◌, ◌∙◌, List, [], ◌∷◌, ◌++◌, Some, None, length, ap, sym, append-nil, append_assoc, arith}
use Rattle.std.specs.Prelude.{codes, decimal}
use Rattle.std.proofs.lemmas.Grind.{flat_map-append}
use Rattle.c25_dis.specs.declared.part.Part.{Part}
use Rattle.c25_dis.specs.declared.part.Part.TheVariants as part
use Rattle.c25_dis.specs.Operands.{part_text, behind_commas, parts_text, next_parts}

parts_more : (ps qs : List Part) → 0 < length ps → parts_text (ps ++ qs) ≡ parts_text ps ++ behind_commas qs
parts_more [] qs some = absurd (omega (arith, some))
parts_more (p ∷ ps) qs some =
    ap (λ t. 32 ∷ part_text p ++ t) (flat_map-append (λ q. 44 ∷ part_text q) ps qs)
    ∙ sym (append_assoc (32 ∷ part_text p) (behind_commas ps) (behind_commas qs))

pub register_more : (text : List ℕ) (ps : List Part) (register : ℕ) → 0 < length ps
    → (text ++ parts_text ps) ++ (codes ",AR" ++ decimal register) ≡ text ++ parts_text (ps ++ next_parts (Some register))
register_more text ps register some =
    append_assoc text (parts_text ps) (codes ",AR" ++ decimal register)
    ∙ ap (λ t. text ++ t)
    (ap (λ t. parts_text ps ++ t) (sym (append-nil (codes ",AR" ++ decimal register)))
    ∙ sym (parts_more ps (part.Register register ∷ []) some))

pub none_more : (text : List ℕ) (ps : List Part) → text ++ parts_text ps ≡ text ++ parts_text (ps ++ next_parts None)
none_more text ps = ap (λ qs. text ++ parts_text qs) (sym (append-nil ps))
