-- A run along a stretch makes each direct access at a word that may be named, where each direct operand of the stretch may name its word.
use Rattle.std.proofs.Common.{◌≡◌, ℕ, zero, suc, ◌+◌, ◌-◌, ◌*◌, Bool, true, false, not, ◌&&◌, ◌||◌, List, [], ◌∷◌, ◌++◌, Option, Some, None, refl, sym, ap, ◌∙◌, subst, eqb-true}
use Rattle.std.specs.Prelude.{◌==◌, nat_lt, if◌then◌else◌, option_map, option_and_then, option_to_list}
use Rattle.std.specs.List.{AllByRecursion}
use Rattle.std.proofs.lemmas.Bool.{false≢true, and_parts}
use Rattle.c25_isa.specs.declared.operand.Operand.{Operand}
use Rattle.c25_isa.specs.declared.operand.Operand.TheVariants as operand
use Rattle.c25_isa.specs.declared.instruction.Instr.{Instr}
use Rattle.c25_isa.specs.declared.instruction.Instr.TheVariants.{Ldpk}
use Rattle.c25_isa.specs.State.{State, Memory}
use Rattle.c25_isa.specs.Table.{second_word, length_of}
use Rattle.c25_isa.specs.CodeAt.{StandsAt}
use Rattle.c25_isa.specs.Step.{wrap16, data_operand, can_repeat, trap_of, unless_trapped, repeated, ran_once, effect, step}
use Rattle.c25_isa.specs.Walk.{Placed, nothing_known, known_behind}
use Rattle.c25_isa.specs.Direct.{Words, Done, is_among, is_scratch, is_store, may_name, may_name_at, as_direct, direct_offset, direct_address, is_direct_operand, page_behind, done_behind, is_direct_from}
use Rattle.c25_isa.specs.StretchRuns.{DataAccess, accessed_by, accessed, stands, left_behind, Way, SoFar, Astray, behind_event, way, accesses_of, stored_behind, MayName}
use Rattle.c25_isa.proofs.CodeAt.{decode_at, step_at}
use Rattle.c25_isa.proofs.KnownSteps.{IsSo, dp_behind, Comes, OnState, LeadsTo, row}
use Rattle.c25_isa.proofs.StretchWays.{IsPlacedIn, access_with, may_repeat, on_event, on_more, on_repeated, on_trap}

-- a word that is among these is among those
abbrev pub AreAmong : List ℕ → List ℕ → Type 0
AreAmong these those = (a : ℕ) → is_among a these ≡ true → is_among a those ≡ true

-- with more stores before it, more may be named
name_more : (w : Words) (these those : List ℕ) (store : Bool) (a : ℕ) → AreAmong these those → may_name w these store a ≡ true → may_name w those store a ≡ true
name_more w these those store a more may = by (not (is_among a w.own)) (is_scratch a) store may
  where
    by : (own scratch store : Bool) → (own && (if scratch then store || is_among a these else is_among a w.places || (store && is_among a w.given))) ≡ true
        → (own && (if scratch then store || is_among a those else is_among a w.places || (store && is_among a w.given))) ≡ true
    by false scratch store may = absurd (false≢true may)
    by true true true may = refl
    by true true false may = more a may
    by true false store may = may

-- the words to which accesses stored, behind others
abbrev stored_all : List ℕ → List DataAccess → List ℕ
stored_all stored [] = stored
stored_all stored (x ∷ xs) = stored_all (stored_behind x x.through stored) xs

-- one more access, if there is one
abbrev MayMore : Words → List ℕ → Option DataAccess → Type 0
MayMore w stored None = Unit {0}
MayMore w stored (Some x) = x.through ≡ None → may_name w stored x.stores x.address ≡ true

may_more : (w : Words) (stored : List ℕ) (made : List DataAccess) (o : Option DataAccess) → MayName w stored made → MayMore w (stored_all stored made) o → MayName w stored (made ++ option_to_list o)
may_more w stored [] None may more = tt
may_more w stored [] (Some x) may more = (more, tt)
may_more w stored (x ∷ made) o may more = (may.0, may_more w (stored_behind x x.through stored) made o may.1 more)

abbrev stored_with : List ℕ → Option DataAccess → List ℕ
stored_with stored None = stored
stored_with stored (Some x) = stored_behind x x.through stored

stored_more : (stored : List ℕ) (made : List DataAccess) (o : Option DataAccess) → stored_all stored (made ++ option_to_list o) ≡ stored_with (stored_all stored made) o
stored_more stored [] None = refl
stored_more stored [] (Some x) = refl
stored_more stored (x ∷ made) o = stored_more (stored_behind x x.through stored) made o

among_one_more : (b : ℕ) (those : List ℕ) (a : ℕ) → is_among a those ≡ true → is_among a (b ∷ those) ≡ true
among_one_more b those a found = ap (λ t. (b == a) || t) found ∙ or_true (b == a)
  where
    or_true : (t : Bool) → (t || true) ≡ true
    or_true true = refl
    or_true false = refl

still_among : (these those : List ℕ) (o : Option DataAccess) → AreAmong these those → AreAmong these (stored_with those o)
still_among these those None more = more
still_among these those (Some x) more = by x.through x.stores
  where
    by : (through : Option ℕ) (store : Bool) → AreAmong these (stored_behind (record x { stores = store }) through those)
    by None true a found = among_one_more x.address those a (more a found)
    by None false a found = more a found
    by (Some r) store a found = more a found

-- an instruction's access may be where its operand may
operand_may : (w : Words) (d : Done) (s : State) (those : List ℕ) (store : Bool) (o : Option Operand) → IsSo d.page s.dp → AreAmong d.stored those → is_direct_operand w d store (option_and_then as_direct o) ≡ true
    → MayMore w those (option_map (access_with s store) o)
operand_may w d s those store None page more may = tt
operand_may w d s those store (Some (operand.Indirect i)) page more may = λ e. absurd cc
operand_may w d s those store (Some (operand.Direct offset)) page more may = λ e. by d.page page may
  where
    by : (number : Option ℕ) → IsSo number s.dp → may_name_at w d.stored store (direct_address number offset) ≡ true → may_name w those store (s.dp * 128 + offset) ≡ true
    by None so may = absurd (false≢true may)
    by (Some number) so may =
        subst (λ (dp : ℕ). may_name w those store (dp * 128 + offset) ≡ true) (sym so) (name_more w d.stored those store (number * 128 + offset) more may)

-- what the instruction stored is among what accesses stored
operand_stored : (w : Words) (d : Done) (s : State) (those : List ℕ) (store : Bool) (o : Option Operand) → IsSo d.page s.dp → AreAmong d.stored those → is_direct_operand w d store (option_and_then as_direct o) ≡ true
    → AreAmong (option_to_list (if store then option_and_then (direct_address d.page) (option_and_then as_direct o) else None) ++ d.stored) (stored_with those (option_map (access_with s store) o))
operand_stored w d s those true None page more may = more
operand_stored w d s those false None page more may = more
operand_stored w d s those true (Some (operand.Indirect i)) page more may = more
operand_stored w d s those false (Some (operand.Indirect i)) page more may = more
operand_stored w d s those false (Some (operand.Direct offset)) page more may = more
operand_stored w d s those true (Some (operand.Direct offset)) page more may = by d.page page may
  where
    onto : (a b : ℕ) → a ≡ b → AreAmong (a ∷ d.stored) (b ∷ those)
    onto a b same x found = both (a == x) refl found
      where
        both : (t : Bool) → (a == x) ≡ t → (t || is_among x d.stored) ≡ true → ((b == x) || is_among x those) ≡ true
        both true is found = ap (λ n. (n == x) || is_among x those) (sym same) ∙ ap (λ t. t || is_among x those) is
        both false is found = among_one_more b those x (more x found)

    by : (number : Option ℕ) → IsSo number s.dp → may_name_at w d.stored true (direct_address number offset) ≡ true → AreAmong (option_to_list (direct_address number offset) ++ d.stored) ((s.dp * 128 + offset) ∷ those)
    by None so may = absurd (false≢true may)
    by (Some number) so may = onto (number * 128 + offset) (s.dp * 128 + offset) (ap (λ dp. dp * 128 + offset) (sym so))

-- the page
page_so : (page : Option ℕ) (dp : ℕ) (i : Instr) → IsSo page dp → IsSo (page_behind page i) (dp_behind dp i)
page_so page dp (Ldpk constant) so = refl
page_so page dp i so = so

same_page : (dp : ℕ) (i : Instr) → can_repeat i ≡ true → dp_behind dp i ≡ dp
same_page dp (Ldpk constant) can = absurd (false≢true can)
same_page dp i can = refl

module _ (w : Words) (program : Memory) where
  -- what a way has done so far
  pub record IsSoFar (s : State) (d : Done) (made : List DataAccess) : Type 0 where
    pub code : s.program ≡ program
    pub page : IsSo d.page s.dp
    pub stored : AreAmong d.stored (stored_all [] made)
    pub may : MayName w [] made

  abbrev NamesAll : Way → Type 0
  NamesAll way = MayName w [] (accesses_of way)

  abbrev Goes : ℕ → Type 0
  Goes steps = (s : State) (d : Done) (ps : List Placed) (made : List DataAccess) → AllByRecursion (IsPlacedIn program) ps → IsSoFar s d made → is_direct_from w d ps ≡ true → NamesAll (way steps s ps made)

  module _ (steps : ℕ) (goes : Goes steps) (s : State) (d : Done) (p : Placed) (ps : List Placed) (made : List DataAccess) (placed : AllByRecursion (IsPlacedIn program) (p ∷ ps))
      (sofar : IsSoFar s d made) (direct : is_direct_from w d (p ∷ ps) ≡ true) (pc : s.pc ≡ p.at) where
    abbrev len : ℕ
    len = length_of (second_word p.instr)

    here : StandsAt s.program s.pc p.instr
    here = subst (λ (m : Memory). StandsAt m s.pc p.instr) (sym sofar.code) (subst (λ (a : ℕ). StandsAt program a p.instr) (sym pc) placed.0.stands_there)

    access_is : accessed s ≡ accessed_by s p.instr
    access_is = ap (λ found. option_and_then (λ (f : Instr × ℕ). accessed_by s f.0) found) (decode_at s p.instr here)

    abbrev made_now : List DataAccess
    made_now = made ++ option_to_list (accessed s)

    parts : (is_direct_operand w d (is_store p.instr) (direct_offset p.instr) ≡ true) × (is_direct_from w (done_behind d p.instr) ps ≡ true)
    parts = and_parts (is_direct_operand w d (is_store p.instr) (direct_offset p.instr)) (is_direct_from w (done_behind d p.instr) ps) direct

    may_now : MayName w [] made_now
    may_now =
        may_more w [] made (accessed s) sofar.may
        (subst (MayMore w (stored_all [] made)) (sym access_is) (operand_may w d s (stored_all [] made) (is_store p.instr) (data_operand p.instr) sofar.page sofar.stored parts.0))

    abbrev Next : Bool → State → Type 0
    Next standing t = NamesAll (way steps t (left_behind standing p ps) made_now)

    moves : (t : State) → t.program ≡ s.program → t.dp ≡ dp_behind s.dp p.instr → NamesAll (way steps t ps made_now)
    moves t code page =
        goes t (done_behind d p.instr) ps made_now placed.1
        (record {
          code = code ∙ sofar.code;
          page = subst (IsSo (page_behind d.page p.instr)) (sym page) (page_so d.page s.dp p.instr sofar.page);
          stored =
              subst (AreAmong (done_behind d p.instr).stored) (sym (stored_more [] made (accessed s) ∙ ap (stored_with (stored_all [] made)) access_is))
              (operand_stored w d s (stored_all [] made) (is_store p.instr) (data_operand p.instr) sofar.page sofar.stored parts.0);
          may = may_now;
        }) parts.1

    stays : (t : State) → t.program ≡ s.program → t.dp ≡ s.dp → NamesAll (way steps t (p ∷ ps) made_now)
    stays t code page =
        goes t d (p ∷ ps) made_now placed
        (record {
          code = code ∙ sofar.code;
          page = subst (IsSo d.page) (sym page) sofar.page;
          stored = subst (AreAmong d.stored) (sym (stored_more [] made (accessed s))) (still_among d.stored (stored_all [] made) (accessed s) sofar.stored);
          may = may_now;
        }) direct

    abbrev Behind : State → Type 0
    Behind t = Comes (known_behind nothing_known p.instr) (LeadsTo p.instr (wrap16 (s.pc + len))) (dp_behind s.dp p.instr) s t

    row_is : OnState Behind (effect s len p.instr)
    row_is = row nothing_known s len (record { arp_so = tt; ar_so = λ n. tt }) p.instr

    again : (times : ℕ) → can_repeat p.instr ≡ true → (t : State) → Behind t → (b : Bool) → Next b (if b then record t { pc = s.pc; repeats = Some (times - 1) } else record t { repeats = None })
    again times can t comes true = stays (record t { pc = s.pc; repeats = Some (times - 1) }) comes.program (comes.page ∙ same_page s.dp p.instr can)
    again times can t comes false = moves (record t { repeats = None }) comes.program comes.page

    does : (r : Option ℕ) → s.repeats ≡ r → OnState (Next (stands r)) (unless_trapped (trap_of s p.instr) s (repeated r s.pc (effect s len p.instr)))
    does None is =
        on_trap _ (trap_of s p.instr) s _ (λ free. on_more Behind (Next false) (effect s len p.instr) (λ t comes. moves t comes.program comes.page) row_is)
    does (Some times) is =
        on_trap _ (trap_of s p.instr) s _ (λ free.
        on_repeated (Next (stands (Some times))) times s.pc (effect s len p.instr)
        (on_more Behind (λ t. Next (stands (Some times)) (ran_once times s.pc t)) (effect s len p.instr)
        (λ t comes. again times (may_repeat s p.instr times is free) t comes (nat_lt 1 times)) row_is))

    one_more : NamesAll (behind_event (step s) (λ t. way steps t (left_behind (stands s.repeats) p ps) made_now) (SoFar made))
    one_more =
        on_event NamesAll (step s) (λ t. way steps t (left_behind (stands s.repeats) p ps) made_now) (SoFar made) sofar.may
        (subst (OnState (Next (stands s.repeats))) (sym (step_at s p.instr here)) (does s.repeats refl))

  pub goes_direct : (steps : ℕ) → Goes steps
  goes_direct zero s d [] made placed sofar direct = sofar.may
  goes_direct zero s d (p ∷ ps) made placed sofar direct = sofar.may
  goes_direct (suc steps) s d [] made placed sofar direct = sofar.may
  goes_direct (suc steps) s d (p ∷ ps) made placed sofar direct =
      by (s.pc == p.at) refl (λ pc. one_more steps (goes_direct steps) s d p ps made placed sofar direct pc)
    where
      by : (b : Bool) → (s.pc == p.at) ≡ b → (s.pc ≡ p.at → NamesAll (behind_event (step s) (λ t. way steps t (left_behind (stands s.repeats) p ps) (made ++ option_to_list (accessed s))) (SoFar made)))
          → NamesAll (if b then behind_event (step s) (λ t. way steps t (left_behind (stands s.repeats) p ps) (made ++ option_to_list (accessed s))) (SoFar made) else Astray)
      by true is more = more (eqb-true s.pc p.at is)
      by false is more = tt
