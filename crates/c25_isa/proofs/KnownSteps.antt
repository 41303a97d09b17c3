-- What a walk knows of ARP and of the address registers stays so along a step of the machine, row by row.
use Rattle.std.proofs.Common.{◌≡◌, ◌⊎◌, ℕ, ◌+◌, ◌-◌, ◌%◌, Bool, true, false, List, [], ◌∷◌, Option, Some, None, inl, inr, refl, sym, ap, ◌∙◌, subst, eqb-true}
use Rattle.std.specs.Prelude.{◌==◌, if◌then◌else◌, option_map, slice_get}
use Rattle.c25_isa.specs.declared.operand.Change.{Change}
use Rattle.c25_isa.specs.declared.operand.Change.TheVariants.{Stay, Down, Up, DownIndex, UpIndex}
use Rattle.c25_isa.specs.declared.operand.Indirect.{Indirect}
use Rattle.c25_isa.specs.declared.operand.Operand.{Operand}
use Rattle.c25_isa.specs.declared.operand.Operand.TheVariants as operand
use Rattle.c25_isa.specs.declared.instruction.Instr.{Instr}
use Rattle.c25_isa.specs.declared.instruction.Instr.TheVariants.{Add, Sub, Lac, Lar, Mpy, Lt, Zals, Lact, Subs, Subc, Adds, Rpt, Xor, Or, And, Pshd, Mar, Sacl, Sach, Sar, Popd, Adrk, Sbrk, In, Mpyk, Lark, Ldpk, Lack, Rptk, Addk, Subk, Dint, Rovm, Rsxm, Ssxm, Spm, Pac, Apac, Spac, Sfl, Sfr, Idle, Neg, Ret, Cmpl, Lrlk, Lalk, Adlk, Sblk, Andk, Ork, Xork, Out, Branch, Call}
use Rattle.c25_isa.specs.State.{State, Memory, write}
use Rattle.c25_isa.specs.Step.{Event, Ran, Put, Over, Trapped, wrap16, read, changed, next_arp, after_operand, with_register, onward, holds, jumps, takes, pops_to, returns, effect}
use Rattle.c25_isa.specs.Walk.{Known, holding, current_changed, number_changed, known_behind, known_behind_change, known_behind_next, known_behind_indirect, as_indirect}

-- a number is what is known of it
abbrev pub IsSo : Option ℕ → ℕ → Type 0
IsSo None n = Unit {0}
IsSo (Some m) n = n ≡ m

-- what is known of ARP and of the registers is so
pub record IsKnown (k : Known) (arp : ℕ) (ar : Memory) : Type 0 where
  pub arp_so : IsSo k.arp arp
  pub ar_so : (n : ℕ) → IsSo (k.ar n) (ar n)

-- a test of two numbers tells
case_of : (b : Bool) (x y : Option ℕ) (m n : ℕ) → (b ≡ true → IsSo x m) → (b ≡ false → IsSo y n) → IsSo (if b then x else y) (if b then m else n)
case_of true x y m n when_true when_false = when_true refl
case_of false x y m n when_true when_false = when_false refl

-- a register with another number
held : (k : Known) (arp : ℕ) (ar : Memory) (r word : ℕ) (number : Option ℕ) → IsKnown k arp ar → IsSo number word → IsKnown (holding k r number) arp (write ar r word)
held k arp ar r word number known so = record {
  arp_so = known.arp_so;
  ar_so = λ n. case_of (n == r) number (k.ar n) word (ar n) (λ e. so) (λ e. known.ar_so n);
}

-- the current register with another number
moved : (k : Known) (arp : ℕ) (ar : Memory) (known_arp : Option ℕ) (change : Option ℕ → Option ℕ) (word : ℕ) → known_arp ≡ k.arp → IsKnown k arp ar
    → ((number : Option ℕ) → IsSo number (ar arp) → IsSo (change number) word) → IsKnown (current_changed k known_arp change) arp (write ar arp word)
moved k arp ar None change word is known so = record { arp_so = known.arp_so; ar_so = λ n. tt }
moved k arp ar (Some r) change word is known so =
    let same : arp ≡ r = subst (λ (o : Option ℕ). IsSo o arp) (sym is) known.arp_so in
    subst (λ (at : ℕ). IsKnown (holding k r (change (k.ar r))) arp (write ar at word)) (sym same)
    (held k arp ar r word (change (k.ar r)) known (so (k.ar r) (subst (λ (at : ℕ). IsSo (k.ar r) (ar at)) (sym same) (known.ar_so r))))

-- a sum with a number that is known
plus_known : (n more : ℕ) (number : Option ℕ) → IsSo number n → IsSo (option_map (λ a. wrap16 (a + more)) number) (wrap16 (n + more))
plus_known n more None so = tt
plus_known n more (Some m) so = ap (λ a. wrap16 (a + more)) so

-- a change of a number that is known
changed_so : (change : Change) (index number : Option ℕ) (i n : ℕ) → IsSo index i → IsSo number n → IsSo (number_changed change index number) (changed change i n)
changed_so Stay index None i n index_so so = tt
changed_so Stay index (Some m) i n index_so so = so
changed_so Down index None i n index_so so = tt
changed_so Down index (Some m) i n index_so so = ap (λ a. wrap16 (a + 65535)) so
changed_so Up index None i n index_so so = tt
changed_so Up index (Some m) i n index_so so = ap (λ a. wrap16 (a + 1)) so
changed_so DownIndex None number i n index_so so = tt
changed_so DownIndex (Some j) None i n index_so so = tt
changed_so DownIndex (Some j) (Some m) i n index_so so = ap (λ a. changed DownIndex i a) so ∙ ap (λ b. changed DownIndex b m) index_so
changed_so UpIndex None number i n index_so so = tt
changed_so UpIndex (Some j) None i n index_so so = tt
changed_so UpIndex (Some j) (Some m) i n index_so so = ap (λ a. changed UpIndex i a) so ∙ ap (λ b. changed UpIndex b m) index_so

moved_by : (k : Known) (arp : ℕ) (ar : Memory) (change : Change) → IsKnown k arp ar
    → IsKnown (current_changed k k.arp (number_changed change (k.ar 0))) arp (write ar arp (changed change (ar 0) (ar arp)))
moved_by k arp ar change known =
    moved k arp ar k.arp (number_changed change (k.ar 0)) (changed change (ar 0) (ar arp)) refl known
    (λ number so. changed_so change (k.ar 0) number (ar 0) (ar arp) (known.ar_so 0) so)

-- a word that is written where it stands already
written_same : (b : Bool) (o : Option ℕ) (m n : ℕ) → (b ≡ true → IsSo o m) → IsSo o n → IsSo o (if b then m else n)
written_same true o m n when_true when_false = when_true refl
written_same false o m n when_true when_false = when_false

change_known : (k : Known) (arp : ℕ) (ar : Memory) (change : Change) → IsKnown k arp ar
    → IsKnown (known_behind_change k change) arp (write ar arp (changed change (ar 0) (ar arp)))
change_known k arp ar Stay known = record {
  arp_so = known.arp_so;
  ar_so = λ n. written_same (n == arp) (k.ar n) (ar arp) (ar n) (λ e. subst (λ (m : ℕ). IsSo (k.ar n) (ar m)) (same_number n arp e) (known.ar_so n)) (known.ar_so n);
}
  where
    same_number : (n m : ℕ) → (n == m) ≡ true → n ≡ m
    same_number n m e = eqb-true n m e
change_known k arp ar Down known = moved_by k arp ar Down known
change_known k arp ar Up known = moved_by k arp ar Up known
change_known k arp ar DownIndex known = moved_by k arp ar DownIndex known
change_known k arp ar UpIndex known = moved_by k arp ar UpIndex known

next_known : (k : Known) (arp : ℕ) (ar : Memory) (next : Option ℕ) → IsKnown k arp ar → IsKnown (known_behind_next k next) (next_arp next arp) ar
next_known k arp ar None known = known
next_known k arp ar (Some r) known = record { arp_so = refl; ar_so = known.ar_so }

-- behind an indirect operand
indirect_known : (k : Known) (arp : ℕ) (ar : Memory) (i : Indirect) → IsKnown k arp ar
    → IsKnown (known_behind_indirect k (Some i)) (next_arp i.next arp) (write ar arp (changed i.change (ar 0) (ar arp)))
indirect_known k arp ar i known = next_known (known_behind_change k i.change) arp _ i.next (change_known k arp ar i.change known)

-- where an instruction leads, by the address of the word behind it
abbrev pub LeadsTo : Instr → ℕ → State → Type 0
LeadsTo (Branch op to i) behind t = (t.pc ≡ to) ⊎ (t.pc ≡ behind)
LeadsTo (Call to i) behind t = slice_get t.stack 0 ≡ Some behind
LeadsTo Ret behind t = Unit {0}
LeadsTo i behind t = t.pc ≡ behind

-- the page behind an instruction
abbrev pub dp_behind : ℕ → Instr → ℕ
dp_behind dp (Ldpk constant) = constant
dp_behind dp i = dp

-- a step comes to a state where this is known, with this page, by an instruction that leads there
pub record Comes (k : Known) (Leads : State → Type 0) (dp : ℕ) (s t : State) : Type 0 where
  pub known : IsKnown k t.arp t.ar
  pub page : t.dp ≡ dp
  pub leads : Leads t
  pub program : t.program ≡ s.program
  pub repeats : (t.repeats ≡ s.repeats) ⊎ (k.arp ≡ None)

-- wherever the machine goes on
abbrev pub OnState : (State → Type 0) → Event → Type 0
OnState P (Ran t) = P t
OnState P (Put word t) = P t
OnState P (Over ending) = Unit {0}
OnState P (Trapped kind at) = Unit {0}

module _ (k : Known) (s : State) (len : ℕ) where
  abbrev Goes : Known → State → Type 0
  Goes behind t = Comes behind (λ u. u.pc ≡ wrap16 (s.pc + len)) s.dp s t

  -- a state that differs in nothing that is looked at
  record IsLike (u : State) : Type 0 where
    pub known : IsKnown k u.arp u.ar
    pub page : u.dp ≡ s.dp
    pub pc : u.pc ≡ s.pc
    pub program : u.program ≡ s.program
    pub repeats : u.repeats ≡ s.repeats

  -- behind an operand of such a state
  over : (u : State) (o : Operand) → IsLike u → Goes (known_behind_indirect k (as_indirect o)) (onward len (after_operand u o))
  over u (operand.Direct offset) like = record {
    known = like.known;
    page = like.page;
    leads = ap (λ pc. wrap16 (pc + len)) like.pc;
    program = like.program;
    repeats = inl like.repeats;
  }
  over u (operand.Indirect i) like = record {
    known = indirect_known k u.arp u.ar i like.known;
    page = like.page;
    leads = ap (λ pc. wrap16 (pc + len)) like.pc;
    program = like.program;
    repeats = inl like.repeats;
  }

  on : (u : State) → IsLike u → Goes k (onward len u)
  on u like = record { known = like.known; page = like.page; leads = ap (λ pc. wrap16 (pc + len)) like.pc; program = like.program; repeats = inl like.repeats }

  abbrev Row : Instr → Type 0
  Row i = OnState (Comes (known_behind k i) (LeadsTo i (wrap16 (s.pc + len))) (dp_behind s.dp i) s) (effect s len i)

  -- the state itself with a part changed that is not looked at
  module _ (known : IsKnown k s.arp s.ar) where
    like : (u : State) → u.arp ≡ s.arp → u.ar ≡ s.ar → u.dp ≡ s.dp → u.pc ≡ s.pc → u.program ≡ s.program → u.repeats ≡ s.repeats → IsLike u
    like u arp ar page pc program repeats = record { known = subst (λ (r : ℕ). IsKnown k r u.ar) (sym arp) (subst (λ (m : Memory). IsKnown k s.arp m) (sym ar) known); page = page; pc = pc; program = program; repeats = repeats }

    loads_acc : (o : Operand) (acc : ℕ) → Goes (known_behind_indirect k (as_indirect o)) (onward len (after_operand (record s { acc = acc }) o))
    loads_acc o acc = over (record s { acc = acc }) o (like _ refl refl refl refl refl refl)

    stores_word : (u : State) (o : Operand) (ram : Memory) → IsLike u → Goes (known_behind_indirect k (as_indirect o)) (onward len (after_operand (record u { ram = ram }) o))
    stores_word u o ram so = over (record u { ram = ram }) o (record { known = so.known; page = so.page; pc = so.pc; program = so.program; repeats = so.repeats })

    gets_acc : (acc : ℕ) → Goes k (onward len (record s { acc = acc }))
    gets_acc acc = on (record s { acc = acc }) (like _ refl refl refl refl refl refl)

    pub row : (i : Instr) → Row i
    row (Add shift o) = loads_acc o _
    row (Sub shift o) = loads_acc o _
    row (Lac shift o) = loads_acc o _
    row (Lar register o) = loaded o (over s o (like s refl refl refl refl refl refl))
      where
        loaded : (o : Operand) → Goes (known_behind_indirect k (as_indirect o)) (onward len (after_operand s o)) → Goes (holding (known_behind_indirect k (as_indirect o)) register None) (onward len (with_register (after_operand s o) register (read s o)))
        loaded o goes = record { known = held _ _ _ register (read s o) None goes.known tt; page = goes.page; leads = goes.leads; program = goes.program; repeats = goes.repeats }
    row (Mpy o) = over _ o (like _ refl refl refl refl refl refl)
    row (Lt o) = over _ o (like _ refl refl refl refl refl refl)
    row (Zals o) = loads_acc o _
    row (Lact o) = loads_acc o _
    row (Subs o) = loads_acc o _
    row (Subc o) = loads_acc o _
    row (Adds o) = loads_acc o _
    row (Rpt o) = repeated o
      where
        repeated : (o : Operand) → Goes (record (known_behind_indirect k (as_indirect o)) { arp = None }) (onward len (after_operand (record s { repeats = Some (read s o % 256 + 1) }) o))
        repeated (operand.Direct offset) = record { known = record { arp_so = tt; ar_so = known.ar_so }; page = refl; leads = refl; program = refl; repeats = inr refl }
        repeated (operand.Indirect i) = record { known = record { arp_so = tt; ar_so = (indirect_known k s.arp s.ar i known).ar_so }; page = refl; leads = refl; program = refl; repeats = inr refl }
    row (Xor o) = loads_acc o _
    row (Or o) = loads_acc o _
    row (And o) = loads_acc o _
    row (Pshd o) = over _ o (like _ refl refl refl refl refl refl)
    row (Mar i) = record { known = indirect_known k s.arp s.ar i known; page = refl; leads = refl; program = refl; repeats = inl refl }
    row (Sacl shift o) = stores_word s o _ (like s refl refl refl refl refl refl)
    row (Sach shift o) = stores_word s o _ (like s refl refl refl refl refl refl)
    row (Sar register o) = stores_word s o _ (like s refl refl refl refl refl refl)
    row (Popd o) = popped s.stack
      where
        popped : (stack : List ℕ) → OnState (Goes (known_behind_indirect k (as_indirect o))) (pops_to len s o stack)
        popped [] = tt
        popped (word ∷ rest) = stores_word (record s { stack = rest }) o _ (like _ refl refl refl refl refl refl)
    row (Adrk constant) = record { known = moved k s.arp s.ar k.arp _ _ refl known (plus_known (s.ar s.arp) constant); page = refl; leads = refl; program = refl; repeats = inl refl }
    row (Sbrk constant) = record { known = moved k s.arp s.ar k.arp _ _ refl known (plus_known (s.ar s.arp) (65536 - constant)); page = refl; leads = refl; program = refl; repeats = inl refl }
    row (In port o) = taken (s.input port)
      where
        taken : (left : List ℕ) → OnState (Goes (known_behind_indirect k (as_indirect o))) (takes len s port o left)
        taken [] = tt
        taken (word ∷ rest) = stores_word (record s { input = λ p. if p == port then rest else s.input p }) o _ (like _ refl refl refl refl refl refl)
    row (Mpyk constant) = on _ (like _ refl refl refl refl refl refl)
    row (Lark register constant) = record { known = held k s.arp s.ar register constant (Some constant) known refl; page = refl; leads = refl; program = refl; repeats = inl refl }
    row (Ldpk constant) = record { known = known; page = refl; leads = refl; program = refl; repeats = inl refl }
    row (Lack constant) = gets_acc _
    row (Rptk constant) = record { known = record { arp_so = tt; ar_so = known.ar_so }; page = refl; leads = refl; program = refl; repeats = inr refl }
    row (Addk constant) = gets_acc _
    row (Subk constant) = gets_acc _
    row Dint = on s (like s refl refl refl refl refl refl)
    row Rovm = on _ (like _ refl refl refl refl refl refl)
    row Rsxm = on _ (like _ refl refl refl refl refl refl)
    row Ssxm = on _ (like _ refl refl refl refl refl refl)
    row Spm = on _ (like _ refl refl refl refl refl refl)
    row Pac = gets_acc _
    row Apac = gets_acc _
    row Spac = gets_acc _
    row Sfl = gets_acc _
    row Sfr = gets_acc _
    row Idle = tt
    row Neg = gets_acc _
    row Ret = returned s.stack
      where
        returned : (stack : List ℕ) → OnState (Comes k (λ u. Unit {0}) s.dp s) (returns s stack)
        returned [] = tt
        returned (word ∷ rest) = record { known = known; page = refl; leads = tt; program = refl; repeats = inl refl }
    row Cmpl = gets_acc _
    row (Lrlk register word) = record { known = held k s.arp s.ar register word (Some word) known refl; page = refl; leads = refl; program = refl; repeats = inl refl }
    row (Lalk shift word) = gets_acc _
    row (Adlk shift word) = gets_acc _
    row (Sblk shift word) = gets_acc _
    row (Andk word) = gets_acc _
    row (Ork word) = gets_acc _
    row (Xork word) = gets_acc _
    row (Out port o) = over s o (like s refl refl refl refl refl refl)
    row (Branch op to i) = jumped (holds op s)
      where
        jumped : (taken : Bool) → OnState (Comes (known_behind_indirect k (Some i)) (λ u. (u.pc ≡ to) ⊎ (u.pc ≡ wrap16 (s.pc + len))) s.dp s) (jumps len s i to taken)
        jumped true = record { known = indirect_known k s.arp s.ar i known; page = refl; leads = inl refl; program = refl; repeats = inl refl }
        jumped false = record { known = indirect_known k s.arp s.ar i known; page = refl; leads = inr refl; program = refl; repeats = inl refl }
    row (Call to i) = record { known = indirect_known k s.arp s.ar i known; page = refl; leads = refl; program = refl; repeats = inl refl }
