-- What is so of a typed tree for all names that suit the objects of its function so far, which only grow in number.
use Rattle.std.proofs.Common.{◌≡◌, ◌≤◌, ℕ, ◌+◌, List, [], ◌++◌, length, slice_get, Option, Some}
use Rattle.std.proofs.Common.{sym, ap, ◌∙◌, subst, append-nil, append_assoc, length-append, arith}
use Rattle.std.specs.Prelude.{All}
use Rattle.std.proofs.lemmas.List.Elements.{All-nil, All-append}
use Rattle.c_tree.specs.declared.program.VarRef.{VarRef}
use Rattle.c_rules.specs.Scopes.{Scope}
use Rattle.c_rules.specs.Statements.{LocalTree, Opened, Typed, just}
use Rattle.c_tree.specs.WellFormed.{Shape, Names, AreNew, opened}
use Rattle.c_rules.proofs.Formed.Context.{Gives, is, Fits, Holds, Lies, IsStored, IsLocal, static_in}
use Rattle.c_rules.proofs.Formed.OpenedNames.{Suits, StandFrom, Opening, opening}
use Rattle.c_rules.proofs.Formed.BlockTypes.{AreOpened, Opens}
use Rattle.c_rules.proofs.PlaceLemmas.{place_kept, place_behind}

-- what is so of a tree where these are the objects of its function and these names are known
abbrev pub Fact : Type 0 → Type 1
Fact A = (VarRef → Option Shape) → Names → A → Type 0

pub record Grown {A : Type 0} (P : Fact A) (s : Scope) (ls : List LocalTree) (r : Typed A) : Type 0 where
  pub others : List LocalTree
  pub grown : r.locals ≡ ls ++ others
  pub tree : (objects : VarRef → Option Shape) (names : Names) → Suits s r.locals (length ls) objects names → P objects names r.tree
  pub locals : (objects : VarRef → Option Shape) (names : Names) → Suits s r.locals (length ls) objects names → All (IsLocal names) others

-- objects behind others
grown_again : (ls all more one two : List LocalTree) → all ≡ ls ++ one → more ≡ all ++ two → more ≡ ls ++ (one ++ two)
grown_again ls all more one two first second = second ∙ ap (λ l. l ++ two) first ∙ append_assoc ls one two

no_fewer : (ls all more : List LocalTree) → all ≡ ls ++ more → length ls ≤ length all
no_fewer ls all more grown = omega (arith, ap length grown ∙ length-append ls more)

-- names that suit more objects suit the first of them, and those that know none from a number on know none from a later one on
module _ (s : Scope) (objects : VarRef → Option Shape) (names : Names) where
  holds_first : (all ls others : List LocalTree) → all ≡ ls ++ others → Holds all objects names → Holds ls objects names
  holds_first all ls others grown holds =
      let same : Holds (ls ++ others) objects names = subst (λ l. Holds l objects names) grown holds in
      record {
        object = λ n l there. same.object n l (place_kept ls others n l there);
        filled = λ n l there. same.filled n l (place_kept ls others n l there);
      }

  suits_first : (all ls others : List LocalTree) (first : ℕ) → all ≡ ls ++ others → Suits s all first objects names → Suits s ls first objects names
  suits_first all ls others first grown suits = record { fits = suits.fits; holds = holds_first all ls others grown suits.holds; lies = suits.lies }

  suits_later : (all : List LocalTree) (first later : ℕ) → first ≤ later → Suits s all first objects names → Suits s all later objects names
  suits_later all first later less suits = record {
    fits = suits.fits;
    holds = suits.holds;
    lies = record { within = suits.lies.within; below = λ k low. suits.lies.below k (omega (arith, less, low)) };
  }

-- objects are right by the statics alone
pub locals_right : (names inner : Names) → static_in inner ≡ static_in names → (ls : List LocalTree) → All (IsLocal inner) ls → All (IsLocal names) ls
locals_right names inner same ls right = subst (λ static. All (λ (l : LocalTree). IsStored static l.object_type l.values) ls) same right

module _ (s : Scope) (ls : List LocalTree) where
  -- with no part, one part, and two
  pub with_none : {A : Type 0} {P : Fact A} (t : A) → ((objects : VarRef → Option Shape) (names : Names) → Fits names s → P objects names t) → Gives (Grown P s ls) (just t ls)
  with_none t holds = is _ (record {
    others = [];
    grown = sym (append-nil ls);
    tree = λ objects names suits. holds objects names suits.fits;
    locals = λ objects names suits. All-nil (IsLocal names);
  })

  pub with_one : {A B : Type 0} {P : Fact A} {Q : Fact B} (t : B) (p : Typed A)
      → Grown P s ls p → ((objects : VarRef → Option Shape) (names : Names) → Fits names s → P objects names p.tree → Q objects names t)
      → Gives (Grown Q s ls) (just t p.locals)
  with_one t p first holds = is _ (record {
    others = first.others;
    grown = first.grown;
    tree = λ objects names suits. holds objects names suits.fits (first.tree objects names suits);
    locals = first.locals;
  })

  pub with_two : {A B C : Type 0} {P : Fact A} {Q : Fact B} {R : Fact C} (t : C) (p : Typed A) (q : Typed B)
      → Grown P s ls p → Grown Q s p.locals q
      → ((objects : VarRef → Option Shape) (names : Names) → Fits names s → P objects names p.tree → Q objects names q.tree → R objects names t)
      → Gives (Grown R s ls) (just t q.locals)
  with_two t p q first second holds =
      let before : (objects : VarRef → Option Shape) (names : Names) → Suits s q.locals (length ls) objects names → Suits s p.locals (length ls) objects names =
      λ objects names suits. suits_first s objects names q.locals p.locals second.others (length ls) second.grown suits in
      let later : (objects : VarRef → Option Shape) (names : Names) → Suits s q.locals (length ls) objects names → Suits s q.locals (length p.locals) objects names =
      λ objects names suits. suits_later s objects names q.locals (length ls) (length p.locals) (no_fewer ls p.locals first.others first.grown) suits in
      is _ (record {
        others = first.others ++ second.others;
        grown = grown_again ls p.locals q.locals first.others second.others first.grown second.grown;
        tree = λ objects names suits.
            holds objects names suits.fits (first.tree objects names (before objects names suits)) (second.tree objects names (later objects names suits));
        locals = λ objects names suits.
            All-append (IsLocal names) first.others second.others (first.locals objects names (before objects names suits))
            (second.locals objects names (later objects names suits));
      })

  -- in a block, whose statements stand in its own scope with its own names
  module _ {A : Type 0} {P : Fact A} (o : Opened) (r : Typed A) (begun : Opens s ls o) (body : Grown P o.scope o.locals r)
      (objects : VarRef → Option Shape) (names : Names) (suits : Suits s r.locals (length ls) objects names) where
    abbrev inner : Names
    inner = opened objects o.declared names

    behind_first : StandFrom (length ls) begun.others r.locals
    behind_first k l there =
        let standing = place_kept (ls ++ begun.others) body.others (length ls + k) l (place_behind ls begun.others k l there) in
        subst (λ all. slice_get all (length ls + k) ≡ Some l) (sym (body.grown ∙ ap (λ l. l ++ body.others) begun.grown)) standing

    block_opening : Opening s r.locals begun.others (length ls) objects names o.declared
    block_opening = opening s r.locals begun.others (length ls) behind_first objects names suits o.declared begun.numbered

    block_opened : AreOpened inner begun.others o
    block_opened = begun.made inner block_opening.suits.fits block_opening.knows

    body_suits : Suits o.scope r.locals (length o.locals) objects inner
    body_suits = record {
      fits = block_opened.fits;
      holds = block_opening.suits.holds;
      lies = subst (Lies inner objects) (sym (ap length begun.grown ∙ length-append ls begun.others)) block_opening.suits.lies;
    }

    block_locals : All (IsLocal names) (begun.others ++ body.others)
    block_locals = locals_right names inner block_opening.statics (begun.others ++ body.others)
        (All-append (IsLocal inner) begun.others body.others block_opened.locals (body.locals objects inner body_suits))

  pub with_block : {A B : Type 0} {P : Fact A} {Q : Fact B} (t : B) (o : Opened) (r : Typed A)
      → Opens s ls o → Grown P o.scope o.locals r
      → ((objects : VarRef → Option Shape) (names : Names) (others : List LocalTree) → AreNew objects names o.declared
      → AreOpened (opened objects o.declared names) others o → P objects (opened objects o.declared names) r.tree → Q objects names t)
      → Gives (Grown Q s ls) (just t r.locals)
  with_block t o r begun body holds = is _ (record {
    others = begun.others ++ body.others;
    grown = grown_again ls o.locals r.locals begun.others body.others begun.grown body.grown;
    tree = λ objects names suits.
        holds objects names begun.others (block_opening o r begun body objects names suits).new (block_opened o r begun body objects names suits)
        (body.tree objects (opened objects o.declared names) (body_suits o r begun body objects names suits));
    locals = block_locals o r begun body;
  })
