-- The statics of a tree are among the names of its tokens.
use Rattle.std.proofs.Common.{◌≡◌, ℕ, Bool, true, false, cond, List, [], ◌∷◌, ◌++◌, map, subst}
use Rattle.std.specs.Prelude.{⊤}
use Rattle.std.specs.List.{AllByRecursion}
use Rattle.c_tree.specs.c_syntax.declared.token.Token.{Token}
use Rattle.c_tree.specs.c_syntax.declared.token.TokenKind.TheVariants.{Name}
use Rattle.c_tree.specs.c_syntax.declared.syntax.SpecWord.TheVariants.{Static}
use Rattle.c_tree.specs.c_syntax.SyntaxTree.{FunctionSyntax, ItemTree, ExternalTree, Defined, Declared, UnitTree}
use Rattle.c_tree.specs.c_syntax.Derives.{DerivesItem, DerivesItems, LastItem, MoreItems, DerivesFunction, DerivesExternal, DerivesUnit, LastExternal, MoreExternals}
use Rattle.c_rules.specs.Typing.{has}
use Rattle.c_units.specs.Statics.{statics_in, statics_of}
use Rattle.c_units.proofs.ListLemmas.{all_joined}

-- what follows speaks of one property of names
module _ (P : List ℕ → Type 0) where
  -- each name among tokens has it
  abbrev pub AreNamed : List Token → Type 0
  AreNamed [] = ⊤
  AreNamed (t ∷ ts) = ((name : List ℕ) → t.kind ≡ Name name → P name) × AreNamed ts

  pub first_named : (a b : List Token) → AreNamed (a ++ b) → AreNamed a
  first_named [] b named = tt {0}
  first_named (t ∷ a) b named = (named.0, first_named a b named.1)

  pub last_named : (a b : List Token) → AreNamed (a ++ b) → AreNamed b
  last_named [] b named = named
  last_named (t ∷ a) b named = last_named a b named.1

  pub function_named : (tokens : List Token) (tree : FunctionSyntax) → AreNamed tokens → DerivesFunction tokens tree → P tree.name
  function_named tokens tree named derives =
      let all = subst AreNamed derives.cut named
      in let front = first_named (derives.a ++ derives.b ++ derives.n ∷ derives.t ∷ derives.c) (derives.u ∷ derives.d) all
      in (last_named (derives.a ++ derives.b) (derives.n ∷ derives.t ∷ derives.c) front).0 tree.name derives.name

  item_named : (tokens : List Token) (tree : ItemTree) → AreNamed tokens → DerivesItem tokens tree → P tree.name
  item_named tokens tree named derives =
      let front = first_named (derives.a ++ derives.t ∷ derives.b) derives.c (subst AreNamed derives.cut named)
      in (last_named derives.a (derives.t ∷ derives.b) front).0 tree.name derives.name

  items_named : (tokens : List Token) (trees : List ItemTree) → AreNamed tokens → DerivesItems tokens trees → AllByRecursion P (map (λ item. item.name) trees)
  items_named tokens _ named (LastItem {tree = item} derives) = (item_named tokens item named derives, tt {0})
  items_named tokens _ named (MoreItems a b t {tree = item} {trees = items} cut derives comma rest) =
      let both = subst AreNamed cut named in (item_named a item (first_named a (t ∷ b) both) derives, items_named b items (last_named a (t ∷ b) both).1 rest)

  external_named : (tokens : List Token) (tree : ExternalTree) → AreNamed tokens → DerivesExternal tokens tree → AllByRecursion P (statics_in tree)
  external_named tokens (Defined f) named derives = by (has Static f.specs.words)
    where
      by : (b : Bool) → AllByRecursion P (cond b (f.name ∷ []) [])
      by true = (function_named tokens f named derives, tt {0})
      by false = tt {0}
  external_named tokens (Declared d) named derives = by (has Static d.specs.words)
    where
      items : AllByRecursion P (map (λ item. item.name) d.items)
      items =
          let front = first_named (derives.a ++ derives.b) (derives.t ∷ []) (subst AreNamed derives.cut named) in
          items_named derives.b d.items (last_named derives.a derives.b front) derives.items

      by : (b : Bool) → AllByRecursion P (cond b (map (λ item. item.name) d.items) [])
      by true = items
      by false = tt {0}

  pub statics_named : (tokens : List Token) (unit : UnitTree) → AreNamed tokens → DerivesUnit tokens unit → AllByRecursion P (statics_of unit)
  statics_named tokens _ named (LastExternal {tree = external} derives) = all_joined P (statics_in external) [] (external_named tokens external named derives) (tt {0})
  statics_named tokens _ named (MoreExternals a b {tree = external} {trees = unit} cut derives rest) =
      let both = subst AreNamed cut named in
      all_joined P (statics_in external) (statics_of unit) (external_named a external (first_named a b both) derives) (statics_named b unit (last_named a b both) rest)
