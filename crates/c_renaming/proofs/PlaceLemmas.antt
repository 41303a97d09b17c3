-- Where each token of a list is in another list whose tokens have other names, and the trees of both.
use Rattle.std.proofs.Common.{arith, ◌≡◌, ℕ, ◌+◌, ◌≤◌, ◌==◌, if◌then◌else◌, List, [], ◌∷◌, refl, sym, ap, ◌∙◌, subst, eq-eqb, ne_eqb}
use Rattle.std.specs.Prelude.{⊤}
use Rattle.std.specs.List.{AllZip}
use Rattle.c_tree.specs.c_syntax.declared.token.Token.{Token}
use Rattle.c_tree.specs.c_syntax.Measures.{greatest_height}
use Rattle.c_tree.specs.c_syntax.Source.{IsSource}
use Rattle.c_tree.specs.c_syntax.SyntaxTree.{UnitTree}
use Rattle.c_renaming.specs.Renaming.{Renaming}
use Rattle.c_renaming.specs.RenamedTokens.{renamed_kind, AreRenamed}
use Rattle.c_renaming.specs.RenamedTrees.{renamed_unit}
use Rattle.c_renaming.proofs.DerivingLemmas.{unit_kept}
use Rattle.c_renaming.proofs.HeightLemmas.{unit_high}

-- where the token at a place of one list is in another
abbrev pub place_in : List Token → List Token → ℕ → ℕ
place_in (t ∷ ts) (u ∷ us) n = if t.at == n then u.at else place_in ts us n
place_in ts us n = n

-- the places rise from one on
abbrev pub Rises : ℕ → List Token → Type 0
Rises low [] = ⊤
Rises low (t ∷ ts) = (low ≤ t.at) × Rises (t.at + 1) ts

pub rises_more : (low high : ℕ) (ts : List Token) → low ≤ high → Rises high ts → Rises low ts
rises_more low high [] below rises = tt {0}
rises_more low high (t ∷ ts) below rises = (omega (arith, below, rises.0), rises.1)

module _ (r : Renaming) where
  -- tokens of the same kinds, but for names
  abbrev pub HaveKinds : List Token → List Token → Type 0
  HaveKinds ts us = AllZip (λ t u. u.kind ≡ renamed_kind r t.kind) ts us

  -- each is the other renamed, where the places are those
  pub all_renamed : (low : ℕ) (ts us : List Token) → Rises low ts → HaveKinds ts us → ((n : ℕ) → low ≤ n → r.place n ≡ place_in ts us n) → AreRenamed r ts us
  all_renamed low [] [] rises have is = tt {0}
  all_renamed low [] (u ∷ us) rises have is = absurd have
  all_renamed low (t ∷ ts) [] rises have is = absurd have
  all_renamed low (t ∷ ts) (u ∷ us) rises have is = (
    record {
      kind = have.0;
      place = sym (is t.at rises.0 ∙ ap (λ b. if b then u.at else place_in ts us t.at) (eq-eqb t.at t.at refl));
    },
    all_renamed (t.at + 1) ts us rises.1 have.1 (λ n above.
        is n (omega (arith, rises.0, above)) ∙ ap (λ b. if b then u.at else place_in ts us n) (ne_eqb t.at n (λ e. omega (arith, e, above)))),
  )

  -- tokens that are renamed have the tree renamed
  pub source_renamed : (tokens others : List Token) (unit : UnitTree) → AreRenamed r tokens others → IsSource tokens unit → IsSource others (renamed_unit r unit)
  source_renamed tokens others unit are source = record {
    derives = unit_kept r tokens others unit source.derives (record { are = are });
    low = subst (λ n. n ≤ greatest_height) (sym (unit_high r unit)) source.low;
  }
