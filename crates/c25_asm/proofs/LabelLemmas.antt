-- Where labels stand.
use Rattle.std.proofs.Common.{◌≡◌, ℕ, ◌+◌, ◌<◌, ◌≤◌, Bool, true, false, cond, if◌then◌else◌, List, [], ◌∷◌, length, Option, Some, None, IfSome, refl, sym, ap, subst, ◌∙◌, arith}
use Rattle.std.specs.Str.{bytes_eq}
use Rattle.std.specs.Str.Lines.{lines}
use Rattle.std.proofs.lemmas.Slice.Eq.{bytes_eq-Decides}
use Rattle.c25_asm.specs.declared.statement.Place.{Place}
use Rattle.c25_asm.specs.declared.labels.LabelTable.{LabelTable}
use Rattle.c25_asm.specs.LabelView.{known}
use Rattle.c25_asm.specs.Names.{Labels, AreSmall, or_place}
use Rattle.c25_asm.specs.Statements.{label_of}
use Rattle.c25_asm.specs.AssemblerText.{names, place_on, place_behind, label_in, first_place, labels_of}

or_none : (p : Option Place) → p ≡ or_place p None
or_none None = refl
or_none (Some place) = refl

or_assoc : (p q r : Option Place) → or_place (or_place p q) r ≡ or_place p (or_place q r)
or_assoc None q r = refl
or_assoc (Some place) q r = refl

-- a label that no line had yet
pub noted : (old : Labels) (name other : List ℕ) (place : Place) (new : Option Place) → None ≡ old name → new ≡ cond (bytes_eq name other) (Some place) (old other)
    → new ≡ or_place (old other) (if bytes_eq name other then Some place else None)
noted old name other place new none is = is ∙ by (bytes_eq name other) (bytes_eq-Decides name other).0
  where
    by : (t : Bool) → (t ≡ true → name ≡ other) → cond t (Some place) (old other) ≡ or_place (old other) (if t then Some place else None)
    by true same = ap (λ p. or_place p (Some place)) (none ∙ ap old (same refl))
    by false same = or_none (old other)

-- the labels of the lines so far are kept, and those of the others come behind them
pub record LabelsSoFar (text : List ℕ) (table : LabelTable) (place : Place) (rest : List ℕ) : Type 0 where
  pub kept : (name : List ℕ) → or_place (known table name) (label_in (lines rest) place name) ≡ labels_of text name
  pub few : place.line + length rest ≤ length text + 1

pub one_more : (text rest line behind : List ℕ) (table new : LabelTable) (place next : Place) → LabelsSoFar text table place rest
    → lines rest ≡ line ∷ lines behind → length behind < length rest
    → ((name : List ℕ) → known new name ≡ or_place (known table name) (place_on line place name)) → next ≡ place_behind place line
    → LabelsSoFar text new next behind
one_more text rest line behind table new place next so_far cut shorter noted is = record {
  kept = λ name.
      ap (λ p. or_place p (label_in (lines behind) next name)) (noted name)
      ∙ or_assoc (known table name) (place_on line place name) (label_in (lines behind) next name)
      ∙ ap (λ p. or_place (known table name) (or_place (place_on line place name) (label_in (lines behind) p name))) is
      ∙ ap (λ ls. or_place (known table name) (label_in ls place name)) (sym cut)
      ∙ so_far.kept name;
  few = omega (arith, so_far.few, shorter, ap (λ p. p.line) is);
}

pub all_kept : (text rest : List ℕ) (table : LabelTable) (place : Place) → LabelsSoFar text table place rest → rest ≡ [] → (name : List ℕ) → known table name ≡ labels_of text name
all_kept text rest table place so_far none name =
    or_none (known table name) ∙ ap (λ r. or_place (known table name) (label_in (lines r) place name)) (sym none) ∙ so_far.kept name

-- labels have numbers of 16 bits
pub in_small : (ls : List (List ℕ)) (place : Place) (name : List ℕ) → place.number < 65536 → IfSome (label_in ls place name) (λ p. p.number < 65536)
in_small [] place name small = tt
in_small (line ∷ more) place name small = by (names (label_of line) name) (in_small more (place_behind place line) name (omega arith))
  where
    by : (t : Bool) → IfSome (label_in more (place_behind place line) name) (λ p. p.number < 65536)
        → IfSome (or_place (if t then Some place else None) (label_in more (place_behind place line) name)) (λ p. p.number < 65536)
    by true further = small
    by false further = further

pub table_small : (text : List ℕ) (table : LabelTable) → ((name : List ℕ) → known table name ≡ labels_of text name) → AreSmall (known table)
table_small text table same name = subst (λ p. IfSome p (λ q. q.number < 65536)) (sym (same name)) (in_small (lines text) first_place name (omega arith))
