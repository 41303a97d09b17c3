-- A run from the first word of a stretch goes along the stretch, and accesses what is listed.
use Rattle.std.proofs.Common.{◌≡◌, ℕ, zero, suc, ◌+◌, ◌-◌, ◌<◌, Bool, true, false, not, ◌&&◌, ◌||◌, length, List, [], ◌∷◌, ◌++◌, Option, Some, None, inl, inr, refl, sym, ap, ◌∙◌, subst, eq-eqb, arith, append_assoc, append-nil}
use Rattle.std.specs.Prelude.{◌==◌, nat_lt, if◌then◌else◌, option_map, option_and_then, option_to_list}
use Rattle.std.specs.List.{cons_option}
use Rattle.std.proofs.lemmas.Bool.{false≢true}
use Rattle.c25_isa.specs.declared.operand.Operand.{Operand}
use Rattle.c25_isa.specs.declared.operand.Operand.TheVariants as operand
use Rattle.c25_isa.specs.declared.instruction.Instr.{Instr}
use Rattle.c25_isa.specs.declared.instruction.Instr.TheVariants.{Add, Sub, Subs, Subc, Adds, Sacl, Sach, Sfl, Sfr, Apac, Spac, Ret, Branch, Call}
use Rattle.c25_isa.specs.declared.trap.TrapKind.{TrapKind}
use Rattle.c25_isa.specs.declared.trap.TrapKind.TheVariants.{StackFull, StackEmpty, Mode, Divide, Repeat, SameRegister, NoRam}
use Rattle.c25_isa.specs.State.{State, Memory}
use Rattle.c25_isa.specs.Table.{second_word, length_of}
use Rattle.c25_isa.specs.CodeAt.{StandsAt}
use Rattle.c25_isa.specs.Step.{Event, Ran, Put, Over, Trapped, wrap16, address, data_operand, can_repeat, sums, takes_product, pushes, pops, changes_its_own, divides_badly, lacks_ram, repeats_badly, trap_where, trap_of, unless_trapped, repeated, ran_once, effect, step}
use Rattle.c25_isa.specs.Walk.{Placed, Known, known_behind, known_behind_indirect, as_indirect, ends_stretch, along, goes_over_scalars, listed_or_unknown, Unlisted, access_by, access_through, access, listed, unknown_at}
use Rattle.c25_isa.specs.Direct.{is_store}
use Rattle.c25_isa.specs.StretchRuns.{DataAccess, register_of, accessed_by, accessed, through_scalars, scalar_accesses, stands, left_behind, Way, Through, SoFar, Astray, behind_event, way}
use Rattle.c25_isa.proofs.CodeAt.{stands_below, decode_at, step_at}
use Rattle.c25_isa.proofs.KnownSteps.{IsSo, IsKnown, LeadsTo, dp_behind, Comes, OnState, row}

-- an instruction stands in program memory
pub record IsPlacedIn (program : Memory) (p : Placed) : Type 0 where
  pub stands_there : StandsAt program p.at p.instr
  pub behind_is : p.behind ≡ p.at + length_of (second_word p.instr)

-- the next instruction stands behind one that goes on there
abbrev pub GoesOnTo : Placed → List Placed → Type 0
GoesOnTo p [] = Unit {0}
GoesOnTo p (q ∷ qs) = (q.at ≡ p.behind) × (ends_stretch p.instr ≡ false)

abbrev pub IsStretchIn : Memory → List Placed → Type 0
IsStretchIn program [] = Unit {0}
IsStretchIn program (p ∷ ps) = IsPlacedIn program p × GoesOnTo p ps × IsStretchIn program ps

abbrev pub listed_from : Known → List Placed → List ℕ
listed_from k ps = along (λ known p. listed (access known p.instr)) k ps

abbrev pub unknown_from : Known → List Placed → List ℕ
unknown_from k ps = along (λ known p. unknown_at p.at (access known p.instr)) k ps

-- the last of some instructions leads to a state
abbrev pub LastLeads : List Placed → State → Type 0
LastLeads [] t = Unit {0}
LastLeads (p ∷ []) t = LeadsTo p.instr (wrap16 p.behind) t
LastLeads (p ∷ q ∷ ps) t = LastLeads (q ∷ ps) t

-- a way makes these accesses
abbrev pub Makes : List ℕ → List Placed → Way → Type 0
Makes all ps (Through made t) = (scalar_accesses made ≡ all) × LastLeads ps t
Makes all ps (SoFar made) = (rest : List ℕ) × (scalar_accesses made ++ rest ≡ all)
Makes all ps Astray = ⊥

-- the address of an access through AR2 to AR5, if it is one
abbrev scalar_of : Option DataAccess → Option ℕ
scalar_of o = option_and_then (λ (x : DataAccess). through_scalars x.address x.through) o

abbrev pub access_with : State → Bool → Operand → DataAccess
access_with s store o = record { address = address s o; through = register_of s o; stores = store }

-- the access of an instruction is the listed one, where none is unknown
accessed_so : (k : Known) (s : State) (at : ℕ) (store : Bool) (o : Option Operand) → IsKnown k s.arp s.ar → unknown_at at (access_through k (option_and_then as_indirect o)) ≡ None
    → scalar_of (option_map (access_with s store) o) ≡ listed (access_through k (option_and_then as_indirect o))
accessed_so k s at store None known none = refl
accessed_so k s at store (Some (operand.Direct offset)) known none = refl
accessed_so k s at store (Some (operand.Indirect i)) known none = by k.arp known.arp_so none
  where
    number : (r : ℕ) (o : Option ℕ) → IsSo o (s.ar r) → unknown_at at (listed_or_unknown o) ≡ None → Some (s.ar r) ≡ listed (listed_or_unknown o)
    number r None so none = absurd cc
    number r (Some a) so none = ap Some so

    through : (r : ℕ) (b : Bool) → unknown_at at (if b then listed_or_unknown (k.ar r) else Unlisted) ≡ None
        → (if b then Some (s.ar r) else None) ≡ listed (if b then listed_or_unknown (k.ar r) else Unlisted)
    through r true none = number r (k.ar r) (known.ar_so r) none
    through r false none = refl

    by : (current : Option ℕ) → IsSo current s.arp → unknown_at at (access_by k current) ≡ None → (if goes_over_scalars s.arp then Some (s.ar s.arp) else None) ≡ listed (access_by k current)
    by None so none = absurd cc
    by (Some r) so none =
        subst (λ (m : ℕ). (if goes_over_scalars m then Some (s.ar m) else None) ≡ listed (access_by k (Some r))) (sym so) (through r (goes_over_scalars r) none)

-- one more access
scalars_more : (made : List DataAccess) (o : Option DataAccess) → scalar_accesses (made ++ option_to_list o) ≡ scalar_accesses made ++ option_to_list (scalar_of o)
scalars_more [] None = refl
scalars_more [] (Some x) = one (through_scalars x.address x.through)
  where
    one : (o : Option ℕ) → cons_option o [] ≡ option_to_list o
    one None = refl
    one (Some a) = refl
scalars_more (x ∷ made) o =
    ap (cons_option (through_scalars x.address x.through)) (scalars_more made o)
    ∙ onto (through_scalars x.address x.through)
  where
    onto : (first : Option ℕ) → cons_option first (scalar_accesses made ++ option_to_list (scalar_of o)) ≡ cons_option first (scalar_accesses made) ++ option_to_list (scalar_of o)
    onto None = refl
    onto (Some a) = refl

-- a repeat that doesn't trap is of a word that may be repeated
pub may_repeat : (s : State) (i : Instr) (times : ℕ) → s.repeats ≡ Some times → trap_of s i ≡ None → can_repeat i ≡ true
may_repeat s i times pending none =
    allowed (can_repeat i) (ap (λ r. repeats_badly r (can_repeat i)) (sym pending)
    ∙ fifth
    (pushes i && (length s.stack == 8)) (pops i && (length s.stack == 0)) ((sums i && s.ovm) || (takes_product i && not (s.pm == 0))) (divides_badly s i) (repeats_badly s.repeats (can_repeat i))
    (trap_where (changes_its_own s.arp i) SameRegister (trap_where (lacks_ram s (data_operand i)) NoRam None)) none)
  where
    fifth : (a b c d e : Bool) (next : Option TrapKind) → trap_where a StackFull (trap_where b StackEmpty (trap_where c Mode (trap_where d Divide (trap_where e Repeat next)))) ≡ None → e ≡ false
    fifth true b c d e next none = absurd cc
    fifth false true c d e next none = absurd cc
    fifth false false true d e next none = absurd cc
    fifth false false false true e next none = absurd cc
    fifth false false false false true next none = absurd cc
    fifth false false false false false next none = refl

    allowed : (b : Bool) → not b ≡ false → b ≡ true
    allowed true e = refl
    allowed false e = absurd cc

-- a word that is repeated goes through no address register, where no access is unknown
operand_same : (k : Known) (at : ℕ) (o : Operand) → k.arp ≡ None → unknown_at at (access_through k (as_indirect o)) ≡ None → known_behind_indirect k (as_indirect o) ≡ k
operand_same k at (operand.Direct offset) forgotten none = refl
operand_same k at (operand.Indirect i) forgotten none = by k.arp forgotten none
  where
    by : (current : Option ℕ) → current ≡ None → unknown_at at (access_by k current) ≡ None → known_behind_indirect k (Some i) ≡ k
    by None forgotten none = absurd cc
    by (Some r) forgotten none = absurd cc

same_known : (k : Known) (at : ℕ) (i : Instr) → can_repeat i ≡ true → k.arp ≡ None → unknown_at at (access k i) ≡ None → known_behind k i ≡ k
same_known k at (Add shift o) can forgotten none = operand_same k at o forgotten none
same_known k at (Adds o) can forgotten none = operand_same k at o forgotten none
same_known k at (Sub shift o) can forgotten none = operand_same k at o forgotten none
same_known k at (Subs o) can forgotten none = operand_same k at o forgotten none
same_known k at (Subc o) can forgotten none = operand_same k at o forgotten none
same_known k at (Sacl shift o) can forgotten none = operand_same k at o forgotten none
same_known k at (Sach shift o) can forgotten none = operand_same k at o forgotten none
same_known k at Sfl can forgotten none = refl
same_known k at Sfr can forgotten none = refl
same_known k at Apac can forgotten none = refl
same_known k at Spac can forgotten none = refl
same_known k at i can forgotten none = absurd (false≢true can)

-- while ARP isn't known nothing is listed
nothing_listed : (k : Known) (i : Instr) → k.arp ≡ None → listed (access k i) ≡ None
nothing_listed k i forgotten = by (option_and_then as_indirect (data_operand i))
  where
    by : (o : Option _) → listed (access_through k o) ≡ None
    by None = refl
    by (Some x) = ap (λ current. listed (access_by k current)) forgotten

-- an instruction that ends no stretch goes on behind itself
leads_behind : (i : Instr) (behind : ℕ) (t : State) → ends_stretch i ≡ false → LeadsTo i behind t → t.pc ≡ behind
leads_behind (Branch op to i) behind t goes leads = absurd (false≢true (sym goes))
leads_behind (Call to i) behind t goes leads = absurd (false≢true (sym goes))
leads_behind Ret behind t goes leads = absurd (false≢true (sym goes))
leads_behind i behind t goes leads = leads

-- while a repeat is pending ARP isn't known
abbrev pub Pending : Option ℕ → Known → Type 0
Pending None k = Unit {0}
Pending (Some times) k = k.arp ≡ None

pending_any : (r : Option ℕ) (k : Known) → k.arp ≡ None → Pending r k
pending_any None k forgotten = tt
pending_any (Some times) k forgotten = forgotten

-- events
pub on_event : (P : Way → Type 0) (e : Event) (next : State → Way) (stopped : Way) → P stopped → OnState (λ t. P (next t)) e → P (behind_event e next stopped)
on_event P (Ran t) next stopped at_stop so = so
on_event P (Put word t) next stopped at_stop so = so
on_event P (Over ending) next stopped at_stop so = at_stop
on_event P (Trapped kind at) next stopped at_stop so = at_stop

pub on_more : (P Q : State → Type 0) (e : Event) → ((t : State) → P t → Q t) → OnState P e → OnState Q e
on_more P Q (Ran t) more so = more t so
on_more P Q (Put word t) more so = more t so
on_more P Q (Over ending) more so = tt
on_more P Q (Trapped kind at) more so = tt

pub on_repeated : (P : State → Type 0) (times pc : ℕ) (e : Event) → OnState (λ t. P (ran_once times pc t)) e → OnState P (repeated (Some times) pc e)
on_repeated P times pc (Ran t) so = so
on_repeated P times pc (Put word t) so = so
on_repeated P times pc (Over ending) so = tt
on_repeated P times pc (Trapped kind at) so = tt

pub on_trap : (P : State → Type 0) (trap : Option TrapKind) (s : State) (e : Event) → (trap ≡ None → OnState P e) → OnState P (unless_trapped trap s e)
on_trap P None s e so = so refl
on_trap P (Some kind) s e so = tt

none_of : (o : Option ℕ) (l : List ℕ) → option_to_list o ++ l ≡ [] → (o ≡ None) × (l ≡ [])
none_of None l e = (refl, e)
none_of (Some a) l e = absurd cc

pub all_done : (steps : ℕ) (t : State) (made : List DataAccess) → way steps t [] made ≡ Through made t
all_done zero t made = refl
all_done (suc steps) t made = refl

-- a state at an instruction, with what is known there
pub record IsAt (program : Memory) (s : State) (k : Known) (p : Placed) : Type 0 where
  pub pc : s.pc ≡ p.at
  pub code : s.program ≡ program
  pub known : IsKnown k s.arp s.ar
  pub pending : Pending s.repeats k

-- so many steps go as they should from each instruction on
abbrev pub Goes : Memory → ℕ → Type 0
Goes program steps =
    (s : State) (k : Known) (p : Placed) (ps : List Placed) (made : List DataAccess) (all : List ℕ) → IsStretchIn program (p ∷ ps) → IsAt program s k p
    → unknown_from k (p ∷ ps) ≡ [] → scalar_accesses made ++ listed_from k (p ∷ ps) ≡ all → Makes all (p ∷ ps) (way steps s (p ∷ ps) made)

module _ (program : Memory) (steps : ℕ) (goes : Goes program steps) (s : State) (k : Known) (p : Placed) (ps : List Placed) (made : List DataAccess) (all : List ℕ)
    (stretch : IsStretchIn program (p ∷ ps)) (at : IsAt program s k p) (none : unknown_from k (p ∷ ps) ≡ []) (lists : scalar_accesses made ++ listed_from k (p ∷ ps) ≡ all) where
  abbrev len : ℕ
  len = length_of (second_word p.instr)

  abbrev made_now : List DataAccess
  made_now = made ++ option_to_list (accessed s)

  here : StandsAt s.program s.pc p.instr
  here = subst (λ (m : Memory). StandsAt m s.pc p.instr) (sym at.code) (subst (λ (a : ℕ). StandsAt program a p.instr) (sym at.pc) stretch.0.stands_there)

  known_here : unknown_at p.at (access k p.instr) ≡ None
  known_here = (none_of _ _ none).0

  access_is : scalar_of (accessed s) ≡ listed (access k p.instr)
  access_is =
      ap (λ found. scalar_of (option_and_then (λ (f : Instr × ℕ). accessed_by s f.0) found)) (decode_at s p.instr here)
      ∙ accessed_so k s p.at (is_store p.instr) (data_operand p.instr) at.known known_here

  made_is : scalar_accesses made_now ≡ scalar_accesses made ++ option_to_list (listed (access k p.instr))
  made_is = scalars_more made (accessed s) ∙ ap (λ o. scalar_accesses made ++ option_to_list o) access_is

  more_lists : scalar_accesses made_now ++ listed_from (known_behind k p.instr) ps ≡ all
  more_lists =
      ap (λ l. l ++ listed_from (known_behind k p.instr) ps) made_is
      ∙ append_assoc (scalar_accesses made) (option_to_list (listed (access k p.instr))) (listed_from (known_behind k p.instr) ps)
      ∙ lists

  -- on to the next instruction
  moves : (qs : List Placed) (t : State) (now : List DataAccess) → GoesOnTo p qs → IsStretchIn program qs → IsKnown (known_behind k p.instr) t.arp t.ar → LeadsTo p.instr (wrap16 (s.pc + len)) t → t.program ≡ s.program
      → Pending t.repeats (known_behind k p.instr) → unknown_from (known_behind k p.instr) qs ≡ [] → scalar_accesses now ++ listed_from (known_behind k p.instr) qs ≡ all → Makes all (p ∷ qs) (way steps t qs now)
  moves [] t now onto rest known leads code pending unknown more =
      subst (Makes all (p ∷ [])) (sym (all_done steps t now))
      (sym (append-nil (scalar_accesses now)) ∙ more, subst (λ (a : ℕ). LeadsTo p.instr (wrap16 a) t) (ap (λ a. a + len) at.pc ∙ sym stretch.0.behind_is) leads)
  moves (q ∷ qs) t now onto rest known leads code pending unknown more =
      let below : q.at < 65536 = stands_below program q.at q.instr rest.0.stands_there in
      let there : s.pc + len ≡ q.at = ap (λ a. a + len) at.pc ∙ sym stretch.0.behind_is ∙ sym onto.0 in
      let whole : wrap16 (s.pc + len) ≡ q.at = omega (arith, below, there) in
      goes t (known_behind k p.instr) q qs now all rest
      (record { pc = leads_behind p.instr _ t onto.1 leads ∙ whole; code = code ∙ at.code; known = known; pending = pending })
      unknown more

  -- once more
  stays : (t : State) → t.pc ≡ s.pc → k.arp ≡ None → IsKnown k t.arp t.ar → t.program ≡ s.program → Makes all (p ∷ ps) (way steps t (p ∷ ps) made_now)
  stays t pc forgotten known code =
      goes t k p ps made_now all stretch (record { pc = pc ∙ at.pc; code = code ∙ at.code; known = known; pending = pending_any t.repeats k forgotten }) none
      (ap (λ l. l ++ listed_from k (p ∷ ps)) (made_is ∙ ap (λ o. scalar_accesses made ++ option_to_list o) (nothing_listed k p.instr forgotten) ∙ append-nil (scalar_accesses made)) ∙ lists)

  abbrev Next : Bool → State → Type 0
  Next standing t = Makes all (p ∷ ps) (way steps t (left_behind standing p ps) made_now)

  abbrev Behind : State → Type 0
  Behind t = Comes (known_behind k p.instr) (LeadsTo p.instr (wrap16 (s.pc + len))) (dp_behind s.dp p.instr) s t

  once : (r : Option ℕ) → s.repeats ≡ r → Pending r k → (t : State) → Behind t → (r ≡ None) → Next false t
  once r is pending t comes single =
      moves ps t made_now stretch.1 stretch.2 comes.known comes.leads comes.program
      (elim comes.repeats [
        | inl same ↦ subst (λ (o : Option ℕ). Pending o (known_behind k p.instr)) (sym (same ∙ is ∙ single)) tt
        | inr forgotten ↦ pending_any t.repeats (known_behind k p.instr) forgotten
      ])
      (none_of _ _ none).1 more_lists

  again : (times : ℕ) → s.repeats ≡ Some times → k.arp ≡ None → can_repeat p.instr ≡ true → (t : State) → Behind t → (b : Bool) → Next b (if b then record t { pc = s.pc; repeats = Some (times - 1) } else record t { repeats = None })
  again times is forgotten can t comes true =
      stays (record t { pc = s.pc; repeats = Some (times - 1) }) refl forgotten
      (subst (λ (behind : Known). IsKnown behind t.arp t.ar) (same_known k p.at p.instr can forgotten known_here) comes.known) comes.program
  again times is forgotten can t comes false =
      moves ps (record t { repeats = None }) made_now stretch.1 stretch.2 comes.known (leads_so p.instr t comes.leads) comes.program tt (none_of _ _ none).1 more_lists
    where
      leads_so : (i : Instr) (t : State) → LeadsTo i (wrap16 (s.pc + len)) t → LeadsTo i (wrap16 (s.pc + len)) (record t { repeats = None })
      leads_so (Branch op to i) t leads = leads
      leads_so (Call to i) t leads = leads
      leads_so Ret t leads = leads
      leads_so i t leads = leads

  does : (r : Option ℕ) → s.repeats ≡ r → Pending r k → OnState (Next (stands r)) (unless_trapped (trap_of s p.instr) s (repeated r s.pc (effect s len p.instr)))
  does None is pending =
      on_trap _ (trap_of s p.instr) s _ (λ free. on_more Behind (Next false) (effect s len p.instr) (λ t comes. once None is pending t comes refl) (row k s len at.known p.instr))
  does (Some times) is pending =
      on_trap _ (trap_of s p.instr) s _ (λ free.
      on_repeated (Next (stands (Some times))) times s.pc (effect s len p.instr)
      (on_more Behind (λ t. Next (stands (Some times)) (ran_once times s.pc t)) (effect s len p.instr)
      (λ t comes. again times is pending (may_repeat s p.instr times is free) t comes (nat_lt 1 times)) (row k s len at.known p.instr)))

  one_more : Makes all (p ∷ ps) (way (suc steps) s (p ∷ ps) made)
  one_more =
      subst (λ (b : Bool). Makes all (p ∷ ps) (if b then behind_event (step s) (λ t. way steps t (left_behind (stands s.repeats) p ps) made_now) (SoFar made) else Astray)) (sym (eq-eqb s.pc p.at at.pc))
      (on_event (Makes all (p ∷ ps)) (step s) (λ t. way steps t (left_behind (stands s.repeats) p ps) made_now) (SoFar made) (listed_from k (p ∷ ps), lists)
      (subst (OnState (Next (stands s.repeats))) (sym (step_at s p.instr here)) (does s.repeats refl at.pending)))

-- a run from the first word of a stretch goes along it
pub goes_along : (program : Memory) (steps : ℕ) → Goes program steps
goes_along program zero s k p ps made all stretch at none lists = (listed_from k (p ∷ ps), lists)
goes_along program (suc steps) s k p ps made all stretch at none lists = one_more program steps (goes_along program steps) s k p ps made all stretch at none lists
