-- What the definition of a range's code says at a word of the range.
use Rattle.std.proofs.Common.{◌≡◌, ◌⊎◌, ℕ, ◌+◌, ◌-◌, ◌<◌, ◌≤◌, Bool, true, false, ltb, List, [], ◌∷◌, ◌++◌, length, get_or, drop, Option, Some, None, inl, inr, refl, sym, ap, ◌∙◌, subst, cond, arith, append_assoc}
use Rattle.std.proofs.lemmas.List.{drop_more, get_or-drop, length-drop}
use Rattle.std.proofs.lemmas.Bool.Decides.{nat_tests}
use Rattle.c25_isa.specs.declared.instruction.Instr.{Instr}
use Rattle.c25_isa.specs.Decode.{Decoded, decode}
use Rattle.c25_isa.specs.Table.{StandsFor, length_of}
use Rattle.c25_isa.specs.Walk.{Placed, Code, no_more, in_front, with_rest, code_from}
use Rattle.c25_walk.specs.Decoding.{StandsAt, behind_placed}

one_or_two : (word : Option ℕ) → (length_of word ≡ 1) ⊎ (length_of word ≡ 2)
one_or_two None = inl refl
one_or_two (Some word) = inr refl

same_rest : (at n m : ℕ) (d e : Decoded) (rest : ℕ → Code) → n ≡ m → d ≡ e → with_rest at n d rest ≡ with_rest at m e rest
same_rest at n m d e rest p q = ap (λ x. with_rest at x d rest) p ∙ ap (λ x. with_rest at m x rest) q

-- at a word of the range
front : (words : List ℕ) (index at second : ℕ) → index < length words → second ≡ get_or words (index + 1) 0
    → code_from at 0 (drop index words) ≡ with_rest at (length words - index) (decode (get_or words index 0) second) (λ within. code_from (at + 1) within (drop (index + 1) words))
front words index at second lt is =
    let rest = drop (index + 1) words in
    let next : get_or rest 0 0 ≡ second = get_or-drop (index + 1) words 0 0 ∙ ap (λ n. get_or words n 0) (omega arith) ∙ sym is in
    let left : length rest + 1 ≡ length words - index = omega (arith, length-drop (index + 1) words) in
    ap (λ l. code_from at 0 l) (drop_more words index 0 lt)
    ∙ same_rest at (length rest + 1) (length words - index) (decode (get_or words index 0) (get_or rest 0 0)) (decode (get_or words index 0) second) (λ within. code_from (at + 1) within rest) left (ap (decode (get_or words index 0)) next)

-- no instruction
pub no_instruction : (words : List ℕ) (index at second : ℕ) → index < length words → second ≡ get_or words (index + 1) 0
    → decode (get_or words index 0) second ≡ None → code_from at 0 (drop index words) ≡ no_more (Some at)
no_instruction words index at second lt is none =
    front words index at second lt is
    ∙ same_rest at (length words - index) (length words - index) (decode (get_or words index 0) second) None (λ within. code_from (at + 1) within (drop (index + 1) words)) refl none

chosen : (b c : Bool) (x y : Code) → b ≡ c → cond b x y ≡ cond c x y
chosen b c x y e = ap (λ v. cond v x y) e

below : (a b : ℕ) → a < b → ltb a b ≡ true
below a b lt = grind (arith, nat_tests)

not_below : (a b : ℕ) → b ≤ a → ltb a b ≡ false
not_below a b le = grind (arith, nat_tests)

-- its second word lies outside
pub too_long : (words : List ℕ) (index at second : ℕ) (i : Instr) (len : ℕ) → index < length words → second ≡ get_or words (index + 1) 0
    → Some (i, len) ≡ decode (get_or words index 0) second → length words - index < len → code_from at 0 (drop index words) ≡ no_more (Some at)
too_long words index at second i len lt is found long =
    let left = length words - index in
    let rest : ℕ → Code = λ within. code_from (at + 1) within (drop (index + 1) words) in
    front words index at second lt is
    ∙ same_rest at left left (decode (get_or words index 0) second) (Some (i, len)) rest refl (sym found)
    ∙ chosen (ltb left len) true (no_more (Some at)) (in_front (record { at = at; instr = i; behind = at + len }) (rest (len - 1))) (below left len long)

-- behind its words
passed : (words : List ℕ) (index at len : ℕ) → (len ≡ 1) ⊎ (len ≡ 2) → index + len ≤ length words
    → code_from (at + 1) (len - 1) (drop (index + 1) words) ≡ code_from (at + len) 0 (drop (index + len) words)
passed words index at len (inl one) within =
    subst (λ n. code_from (at + 1) (n - 1) (drop (index + 1) words) ≡ code_from (at + n) 0 (drop (index + n) words)) (sym one) refl
passed words index at len (inr two) within =
    let there : index + 1 < length words = omega arith in
    let to : (at + 1) + 1 ≡ at + 2 = omega arith in
    let more : (index + 1) + 1 ≡ index + 2 = omega arith in
    subst (λ n. code_from (at + 1) (n - 1) (drop (index + 1) words) ≡ code_from (at + n) 0 (drop (index + n) words)) (sym two)
    (ap (λ l. code_from (at + 1) 1 l) (drop_more words (index + 1) 0 there)
    ∙ ap (λ a. code_from a 0 (drop ((index + 1) + 1) words)) to
    ∙ ap (λ n. code_from (at + 2) 0 (drop n words)) more)

-- an instruction
pub stands : (words : List ℕ) (index second : ℕ) (i : Instr) (len : ℕ) → index < length words → second ≡ get_or words (index + 1) 0
    → Some (i, len) ≡ decode (get_or words index 0) second → StandsFor i len (get_or words index 0) second → len ≤ length words - index → StandsAt words index (i, len)
stands words index second i len lt is found for short =
    let left = length words - index in
    let either : (len ≡ 1) ⊎ (len ≡ 2) = subst (λ n. (n ≡ 1) ⊎ (n ≡ 2)) (sym for.length_is) (one_or_two _) in
    let within : index + len ≤ length words = omega arith in
    record {
      fits = for.fits;
      some = elim either [ inl e ↦ omega arith | inr e ↦ omega arith ];
      few = elim either [ inl e ↦ omega arith | inr e ↦ omega arith ];
      within = within;
      code = λ at.
          let rest : ℕ → Code = λ within. code_from (at + 1) within (drop (index + 1) words) in
          let p : Placed = record { at = at; instr = i; behind = at + len } in
          front words index at second lt is
          ∙ same_rest at left left (decode (get_or words index 0) second) (Some (i, len)) rest refl (sym found)
          ∙ chosen (ltb left len) false (no_more (Some at)) (in_front p (rest (len - 1))) (not_below left len short)
          ∙ ap (in_front p) (passed words index at len either within);
    }

-- one instruction more
pub behind_more : (placed : List Placed) (p : Placed) (code : Code) → behind_placed placed (in_front p code) ≡ behind_placed (placed ++ p ∷ []) code
behind_more placed p code = ap (λ (l : List Placed). record { placed = l; fault = code.fault }) (sym (append_assoc placed (p ∷ []) code.placed))
