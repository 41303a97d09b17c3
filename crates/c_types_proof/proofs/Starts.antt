-- The statements with which declarations begin a block: they fill arrays of the block, or assign, and name no array before it is filled.
use Rattle.std.proofs.Common.{◌≡◌, ◌≤◌, ◌||◌, ◌++◌, ◌∷◌, [], ℕ, Bool, true, false, List, map, None, refl, ap, sym, subst, ◌∙◌, append_assoc}
use Rattle.std.specs.Prelude.{⊤, All}
use Rattle.std.proofs.lemmas.Bool.{or_right}
use Rattle.std.proofs.lemmas.List.Elements.{All-head, All-tail}
use Rattle.c_tree.specs.declared.enclosing.Enclosing.TheVariants as around
use Rattle.c_tree.specs.declared.program.VarRef.{VarRef}
use Rattle.c_tree.specs.declared.program.VarRef.TheVariants as refs
use Rattle.c_tree.specs.TypedTree as typed
use Rattle.c_tree.specs.TypedTree.{Stmt, Stmts}
use Rattle.c_tree.specs.WellFormed.{IsWellFormed, same_reference, is_among}
use Rattle.c_rules.specs.Renumbering as by
use Rattle.c_rules.specs.Renumbering.{renumbered}
use Rattle.c_rules.specs.Scopes.{Scope}
use Rattle.c_rules.specs.Statements.{before}
use Rattle.c_tree.specs.Declarations.{declared_in, declared_among}
use Rattle.c_tree.specs.Fills.{filled_in, filled_among, filled_here, fills_itself, Avoids, FillsOwn, AllFillOwn, FillsFirst, AllFillFirst}
use Rattle.c_tree.specs.NamesUsed.{statement_names}
use Rattle.c_types_proof.proofs.Named.{EachName, each_weaker, names_stand, names_kept, Stands, IsBelow, below_more, Differs, none_among}
use Rattle.c_types_proof.proofs.Renumbered.{Each, each_first, each_behind, each_joined, each_number, place, places_joined, IsKept, named_there}
use Rattle.c_types_proof.proofs.Scopes.{Known, is_below}

-- the statements that declarations begin a block with: they fill objects that it declares, or assign
abbrev pub IsStart : List VarRef → Stmt → Type 0
IsStart declared (typed.Fill n) = is_among (refs.Local n) declared ≡ true
IsStart declared (typed.Do_expr e) = ⊤
IsStart declared s = ⊥

abbrev pub AreStarts : List VarRef → List Stmt → Type 0
AreStarts declared [] = ⊤
AreStarts declared (s ∷ ss) = IsStart declared s × AreStarts declared ss

abbrev pub first_filled : List Stmt → List ℕ
first_filled [] = []
first_filled (s ∷ ss) = filled_in s ++ first_filled ss

-- before others
start_declares : (declared : List VarRef) (s : Stmt) → IsStart declared s → declared_in s ≡ []
start_declares declared (typed.Fill n) start = refl
start_declares declared (typed.Do_expr e) start = refl
start_declares declared s start = absurd start

start_owns : (declared : List VarRef) (s : Stmt) → IsStart declared s → FillsOwn declared s
start_owns declared (typed.Fill n) start = start
start_owns declared (typed.Do_expr e) start = start
start_owns declared s start = absurd start

pub declared_before : (declared : List VarRef) (ss : List Stmt) (rest : Stmts) → AreStarts declared ss → declared_among (before ss rest) ≡ declared_among rest
declared_before declared [] rest starts = refl
declared_before declared (s ∷ ss) rest starts =
    ap (λ vs. vs ++ declared_among (before ss rest)) (start_declares declared s starts.0) ∙ declared_before declared ss rest starts.1

pub filled_before : (ss : List Stmt) (rest : Stmts) → filled_among (before ss rest) ≡ first_filled ss ++ filled_among rest
filled_before [] rest = refl
filled_before (s ∷ ss) rest =
    ap (λ ns. filled_in s ++ ns) (filled_before ss rest) ∙ sym (append_assoc (filled_in s) (first_filled ss) (filled_among rest))

pub owned_before : (declared : List VarRef) (ss : List Stmt) (rest : Stmts) → AreStarts declared ss → AllFillOwn declared rest
    → AllFillOwn declared (before ss rest)
owned_before declared [] rest starts own = own
owned_before declared (s ∷ ss) rest starts own = (start_owns declared s starts.0, owned_before declared ss rest starts.1 own)

-- behind others, which declare more
either : (b c d : Bool) → (c ≡ true → d ≡ true) → (b || c) ≡ true → (b || d) ≡ true
either true c d more is = refl
either false c d more is = more is

pub among_more : (v : VarRef) (vs more : List VarRef) → is_among v vs ≡ true → is_among v (vs ++ more) ≡ true
among_more v [] more among = absurd (cc among)
among_more v (w ∷ vs) more among = either (same_reference w v) (is_among v vs) (is_among v (vs ++ more)) (among_more v vs more) among

pub among_behind : (v : VarRef) (vs more : List VarRef) → is_among v more ≡ true → is_among v (vs ++ more) ≡ true
among_behind v [] more among = among
among_behind v (w ∷ vs) more among = or_right (same_reference w v) (is_among v (vs ++ more)) (among_behind v vs more among)

start_more : (vs more : List VarRef) (s : Stmt) → IsStart vs s → IsStart (vs ++ more) s
start_more vs more (typed.Fill n) start = among_more (refs.Local n) vs more start
start_more vs more (typed.Do_expr e) start = start
start_more vs more s start = absurd start

start_behind : (vs more : List VarRef) (s : Stmt) → IsStart more s → IsStart (vs ++ more) s
start_behind vs more (typed.Fill n) start = among_behind (refs.Local n) vs more start
start_behind vs more (typed.Do_expr e) start = start
start_behind vs more s start = absurd start

all_behind : (vs more : List VarRef) (ss : List Stmt) → AreStarts more ss → AreStarts (vs ++ more) ss
all_behind vs more [] starts = starts
all_behind vs more (s ∷ ss) starts = (start_behind vs more s starts.0, all_behind vs more ss starts.1)

pub starts_joined : (vs more : List VarRef) (ss others : List Stmt) → AreStarts vs ss → AreStarts more others → AreStarts (vs ++ more) (ss ++ others)
starts_joined vs more [] others starts behind = all_behind vs more others behind
starts_joined vs more (s ∷ ss) others starts behind = (start_more vs more s starts.0, starts_joined vs more ss others starts.1 behind)

pub filled_joined : (ss others : List Stmt) → first_filled (ss ++ others) ≡ first_filled ss ++ first_filled others
filled_joined [] others = refl
filled_joined (s ∷ ss) others =
    ap (λ ns. filled_in s ++ ns) (filled_joined ss others) ∙ sym (append_assoc (filled_in s) (first_filled ss) (first_filled others))

-- each name of a statement stands below a number
abbrev pub NamesBelow : ℕ → Stmt → Type 0
NamesBelow n s = EachName (IsBelow n) (statement_names s)

abbrev pub AllBelow : ℕ → List Stmt → Type 0
AllBelow n [] = ⊤
AllBelow n (s ∷ ss) = NamesBelow n s × AllBelow n ss

-- what stands in front of a fill names objects before its array
abbrev pub AreOrdered : List Stmt → Type 0
AreOrdered [] = ⊤
AreOrdered (s ∷ ss) = Each (λ k. NamesBelow k s) (first_filled ss) × AreOrdered ss

names_below_more : (m n : ℕ) → m ≤ n → (s : Stmt) → NamesBelow m s → NamesBelow n s
names_below_more m n less s below = each_weaker (IsBelow m) (IsBelow n) (below_more m n less) (statement_names s) below

pub all_below_more : (m n : ℕ) → m ≤ n → (ss : List Stmt) → AllBelow m ss → AllBelow n ss
all_below_more m n less [] below = tt
all_below_more m n less (s ∷ ss) below = (names_below_more m n less s below.0, all_below_more m n less ss below.1)

pub below_joined : (n : ℕ) (ss others : List Stmt) → AllBelow n ss → AllBelow n others → AllBelow n (ss ++ others)
below_joined n [] others first second = second
below_joined n (s ∷ ss) others first second = (first.0, below_joined n ss others first.1 second)

pub ordered_joined : (n : ℕ) (ss others : List Stmt) → AllBelow n ss → AreOrdered ss → Each (λ k. n ≤ k) (first_filled others) → AreOrdered others
    → AreOrdered (ss ++ others)
ordered_joined n [] others below ordered from behind = behind
ordered_joined n (s ∷ ss) others below ordered from behind = (
  subst (Each (λ k. NamesBelow k s)) (sym (filled_joined ss others))
      (each_joined (λ k. NamesBelow k s) (first_filled ss) (first_filled others) ordered.0
      (each_number (λ k. n ≤ k) (λ k. NamesBelow k s) (λ k less. names_below_more n k less s below.0) (first_filled others) from)),
  ordered_joined n ss others below.1 ordered.1 from behind,
)

-- well-formed ones name what is known
module _ (s : Scope) (n : ℕ) (known : Known s n) where
  abbrev IsFormed : Stmt → Type 0
  IsFormed a = IsWellFormed (λ v. None) None known.names around.Body a

  start_below : (declared : List VarRef) (a : Stmt) → IsStart declared a → IsFormed a → NamesBelow n a
  start_below declared (typed.Fill m) start formed = (is_below s n known (refs.Local m) formed.lives, tt)
  start_below declared (typed.Do_expr e) start formed =
      each_weaker (Stands known.names) (IsBelow n) (is_below s n known) (statement_names (typed.Do_expr e)) (names_stand known.names e formed)
  start_below declared a start formed = absurd start

  pub starts_below : (declared : List VarRef) (ss : List Stmt) → AreStarts declared ss → All IsFormed ss → AllBelow n ss
  starts_below declared [] starts formed = tt
  starts_below declared (a ∷ ss) starts formed =
      (start_below declared a starts.0 (All-head IsFormed a ss formed), starts_below declared ss starts.1 (All-tail IsFormed a ss formed))

-- in a frame
module _ (frame : List VarRef) (differs : Differs frame) (declared : List VarRef) where
  start_names : (s : Stmt) → IsStart declared s → Each (IsKept frame) (filled_in s)
      → statement_names (by.statement frame s) ≡ map (renumbered frame) (statement_names s)
  start_names (typed.Fill n) start kept = ap (λ v. v ∷ []) (sym (named_there frame n kept.0))
  start_names (typed.Do_expr e) start kept = names_kept frame e
  start_names s start kept = absurd start

  start_fills : (s : Stmt) → IsStart declared s → fills_itself (by.statement frame s) ≡ map (place frame) (filled_in s)
  start_fills (typed.Fill n) start = refl
  start_fills (typed.Do_expr e) start = refl
  start_fills s start = absurd start

  start_first : (s : Stmt) → IsStart declared s → FillsFirst (by.statement frame s)
  start_first (typed.Fill n) start = tt
  start_first (typed.Do_expr e) start = tt
  start_first s start = absurd start

  here_before : (ss : List Stmt) (rest : Stmts) → AreStarts declared ss → filled_here (by.statements frame rest) ≡ []
      → filled_here (by.statements frame (before ss rest)) ≡ map (place frame) (first_filled ss)
  here_before [] rest starts none = none
  here_before (s ∷ ss) rest starts none =
      places_joined frame (filled_in s) (first_filled ss) _ _ (start_fills s starts.0) (here_before ss rest starts.1 none)

  avoids : (s : Stmt) (names : List VarRef) → names ≡ map (renumbered frame) (statement_names s) → (ks : List ℕ) → Each (λ k. NamesBelow k s) ks
      → Each (IsKept frame) ks
      → Avoids names (map (place frame) ks)
  avoids s names same [] below kept = tt
  avoids s names same (k ∷ ks) below kept = (
    subst (λ vs. is_among (refs.Local (place frame k)) vs ≡ false) (sym same) (none_among frame differs k kept.0 (statement_names s) below.0),
    avoids s names same ks below.1 kept.1,
  )

  pub first_before : (ss : List Stmt) (rest : Stmts) → AreStarts declared ss → AreOrdered ss → filled_here (by.statements frame rest) ≡ []
      → AllFillFirst (by.statements frame rest) → Each (IsKept frame) (first_filled ss) → AllFillFirst (by.statements frame (before ss rest))
  first_before [] rest starts ordered none first kept = first
  first_before (s ∷ ss) rest starts ordered none first kept =
      let mine : Each (IsKept frame) (filled_in s) = each_first (IsKept frame) (filled_in s) (first_filled ss) kept in
      let others : Each (IsKept frame) (first_filled ss) = each_behind (IsKept frame) (filled_in s) (first_filled ss) kept in (
        subst (Avoids (statement_names (by.statement frame s))) (sym (here_before ss rest starts.1 none))
            (avoids s (statement_names (by.statement frame s)) (start_names s starts.0 mine) (first_filled ss) ordered.0 others),
        start_first s starts.0,
        first_before ss rest starts.1 ordered.1 none first others,
      )
