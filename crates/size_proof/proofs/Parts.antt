-- The words of parts of code, whatever stands behind them.
use Rattle.std.proofs.Common.{◌≡◌, ℕ, suc, ◌+◌, ◌-◌, ◌<◌, ◌≤◌, Bool, true, false, List, [], ◌∷◌, length, Option, Some, None, ⊎_elim, refl, sym, subst, arith}
use Rattle.std.specs.Prelude.{◌==◌, nat_lt, nat_le, ◌/◌, ◌%◌, if◌then◌else◌}
use Rattle.std.proofs.Math.Nat.{eq-or-lt_of_le}
use Rattle.c25_isa.specs.declared.instruction.Instr.{Instr}
use Rattle.c25_isa.specs.declared.instruction.Instr.TheVariants as instr
use Rattle.c25_isa.specs.declared.instruction.JumpOp.TheVariants as jump
use Rattle.c25_isa.specs.Pieces.{items_size}
use Rattle.c25_code.specs.Straight.{code_size}
use Rattle.c25_code.specs.Items.{plain_items, return_code}
use Rattle.c25_code.proofs.Items.{items_size-append, plain_items-size}
use Rattle.acc_code.specs.declared.item.CaseLabel.{CaseLabel}
use Rattle.acc_code.specs.declared.item.CaseLabel.TheVariants.{Value, Default}
use Rattle.ir_semantics.specs.AccRun.{labels_weight}
use Rattle.emit_blocks.specs.Steps.{Operation}
use Rattle.emit_blocks.specs.Right.{AreRight}
use Rattle.frame_emit.specs.emit_control.declared.setting.Words.{Words}
use Rattle.frame_emit.specs.emit_control.declared.state.Before.{Before}
use Rattle.frame_emit.specs.emit_control.declared.state.Before.TheVariants.{Open, Shut, Gone}
use Rattle.frame_emit.specs.emit_control.Entries.{Entry, Run, Head, Place, Close, Branch, Goto, Dispatch, CallTo, CallHelper, Wipe, Ret, Finish, flushed}
use Rattle.frame_emit.specs.emit_control.Settings.{Setting, cells_of, code_in}
use Rattle.frame_emit.specs.emit_control.Cuts.{State, shut, naming, naming_cases, taken_away, added, less_by, jump_item, case_items, default_label, dispatch_items, wipe_items, place_items, behind_place, close_items, behind_close, wiped_items, behind_wipe, entry_items, behind_entry, cut}
use Rattle.emit_proof.proofs.Entries.{name_here, name_more, place_keeps, close_keeps, cases_keep}
use Rattle.size_proof.proofs.Rows.{operations_weight, run_size}

-- two words where control may still come to what stands behind, and none where it can't
abbrev pub going : Before → ℕ
going Open = 2
going Shut = 2
going Gone = 0

pub going_size : (x : Before) → going x ≤ 2
going_size Open = omega arith
going_size Shut = omega arith
going_size Gone = omega arith

abbrev pub two_where : Bool → ℕ
two_where true = 2
two_where false = 0

abbrev pub two_unless : Bool → ℕ
two_unless true = 0
two_unless false = 2

-- the end of a block is a mark, or takes two words where control goes on
pub placed : (b : Bool) (x : Before) (l n limit : ℕ) → n ≤ limit → n + going x ≤ limit + two_where b → n + items_size (place_items b x l) ≤ limit
placed true x l n limit h k = omega (arith, h)
placed false Open l n limit h k = omega (arith, k)
placed false Shut l n limit h k = omega (arith, h)
placed false Gone l n limit h k = omega (arith, h)

pub place_size : (b : Bool) (x : Before) (l : ℕ) → items_size (place_items b x l) ≤ 2
place_size true x l = omega arith
place_size false Open l = omega arith
place_size false Shut l = omega arith
place_size false Gone l = omega arith

pub place_named : (b : Bool) (x : Before) (l : ℕ) → b ≡ true → items_size (place_items b x l) ≡ 0
place_named b x l e = subst (λ c. items_size (place_items c x l) ≡ 0) (sym e) refl

-- the end of a loop, behind code that leads to its head
pub closed : (b : Bool) (s : State) (h l n limit : ℕ) → n + going s.before ≤ limit + two_where b
    → n + items_size (close_items b s.before h l) + going (behind_close b h l s).before ≤ limit + 2
closed b s h l n limit = by b s.before s.named
  where
    by : (b : Bool) (x : Before) (named : ℕ → Bool) → n + going x ≤ limit + two_where b
        → n + items_size (close_items b x h l) + going (behind_close b h l (record { before = x; named = named })).before ≤ limit + 2
    by true x named k = omega (arith, k)
    by false Open named k = omega (arith, k)
    by false Shut named k = omega (arith, k)
    by false Gone named k = omega (arith, k)

-- a number is taken away, or added, by at most three words
if_size : (b : Bool) (x y : List Instr) (n : ℕ) → code_size x ≤ n → code_size y ≤ n → code_size (if b then x else y) ≤ n
if_size true x y n h k = h
if_size false x y n h k = k

odd_size : (b : Bool) (n : ℕ) → code_size (instr.Sblk 1 n ∷ (if b then [] else instr.Subk 1 ∷ [])) ≤ 3
odd_size true n = omega arith
odd_size false n = omega arith

odd_added : (b : Bool) (n : ℕ) → code_size (instr.Adlk 1 n ∷ (if b then [] else instr.Addk 1 ∷ [])) ≤ 3
odd_added true n = omega arith
odd_added false n = omega arith

taken_size : (n : ℕ) → code_size (taken_away n) ≤ 3
taken_size n =
    if_size (n == 0) [] _ 3 (omega arith) (
    if_size (nat_lt n 256) (instr.Subk n ∷ []) _ 3 (omega arith) (
    if_size (nat_lt n 32768) (instr.Sblk 0 n ∷ []) (instr.Sblk 1 (n / 2) ∷ (if n % 2 == 0 then [] else instr.Subk 1 ∷ [])) 3 (omega arith) (odd_size (n % 2 == 0) (n / 2))))

added_size : (n : ℕ) → code_size (added n) ≤ 3
added_size n =
    if_size (nat_lt n 256) (instr.Addk n ∷ []) _ 3 (omega arith) (
    if_size (nat_lt n 32768) (instr.Adlk 0 n ∷ []) (instr.Adlk 1 (n / 2) ∷ (if n % 2 == 0 then [] else instr.Addk 1 ∷ [])) 3 (omega arith) (odd_added (n % 2 == 0) (n / 2)))

less_size : (before n : ℕ) → code_size (less_by before n) ≤ 3
less_size before n = if_size (nat_le before n) (taken_away (n - before)) (added (before - n)) 3 (taken_size (n - before)) (added_size (before - n))

pub case_size : (cs : List CaseLabel) (l before : ℕ) → items_size (case_items cs l before) ≤ labels_weight cs
case_size [] l before = omega arith
case_size (Value v ∷ cs) l before =
    let more = case_size cs (suc l) v in
    omega (arith, more, less_size before v, plain_items-size (less_by before v), items_size-append (plain_items (less_by before v)) (jump_item jump.Bz l ∷ case_items cs (suc l) v))
case_size (Default ∷ cs) l before = let more = case_size cs (suc l) before in omega (arith, more)

pub dispatch_size : (cs : List CaseLabel) (l behind : ℕ) → items_size (dispatch_items cs l behind) ≤ labels_weight cs + 2
dispatch_size cs l behind = omega (arith, case_size cs l 0, items_size-append (case_items cs l 0) (jump_item jump.B (default_label cs l behind) ∷ []))

count_size : (b : Bool) (n : ℕ) → code_size ((if b then instr.Lack n else instr.Lalk 0 n) ∷ []) ≤ 2
count_size true n = omega arith
count_size false n = omega arith

wipe_size : (a n l : ℕ) → items_size (wipe_items a n l) ≤ 9
wipe_size a n l = let count = count_size (nat_lt n 256) n in omega (arith, count)

pub wiped_size : (m : Setting) (w : Words) (l : ℕ) (s : State) → items_size (wiped_items m w l s) ≤ 9
wiped_size m w l s = by (w.count == 0)
  where
    by : (b : Bool) → items_size (if b then place_items (s.named l) s.before l else wipe_items w.first w.count l) ≤ 9
    by true = omega (arith, place_size (s.named l) s.before l)
    by false = wipe_size w.first w.count l

pub back_size : (o : Option ℕ) → items_size (plain_items (return_code o)) ≤ 3
back_size None = omega arith
back_size (Some word) = omega arith

-- labels of cases are named behind their switch
pub cases_named : (cs : List CaseLabel) (l k : ℕ) (s : State) → l ≤ k → k < l + length cs → (naming_cases cs l s).named k ≡ true
cases_named [] l k s g h = absurd (omega (arith, g, h))
cases_named (c ∷ cs) l k s g h = ⊎_elim (λ e. cases_keep cs (suc l) k (naming l s) (name_here k l (s.named k) e)) (λ b. let more : l < k = b in cases_named cs (suc l) k (naming l s) (omega (arith, more)) (omega (arith, h))) (eq-or-lt_of_le g)

-- the labels that are named stay so
abbrev pub Keeps : State → State → Type 0
Keeps s t = (l : ℕ) → s.named l ≡ true → t.named l ≡ true

wipe_keeps : (m : Setting) (w : Words) (l : ℕ) (s : State) → Keeps s (behind_wipe m w l s)
wipe_keeps m w l s k h = by (w.count == 0)
  where
    by : (b : Bool) → (if b then behind_place (s.named l) l s else shut (naming l s)).named k ≡ true
    by true = place_keeps (s.named l) s.before s.named l k h
    by false = name_more k l (s.named k) h

module _ (m : Setting) where
  entry_keeps : (s : State) (e : Entry) → Keeps s (behind_entry m s e)
  entry_keeps s (Run os) k h = h
  entry_keeps s (Head l) k h = h
  entry_keeps s (Place l) k h = place_keeps (s.named l) s.before s.named l k h
  entry_keeps s (Close x l) k h = close_keeps (s.named x) s.before s.named x l k h
  entry_keeps s (Branch t l) k h = name_more k l (s.named k) h
  entry_keeps s (Goto l) k h = name_more k l (s.named k) h
  entry_keeps s (Dispatch cs l b) k h = name_more k (default_label cs l b) _ (cases_keep cs l k s h)
  entry_keeps s (CallTo f) k h = h
  entry_keeps s (CallHelper name) k h = h
  entry_keeps s (Wipe v from l) k h = wipe_keeps m (cells_of m v from) l s k h
  entry_keeps s Ret k h = h
  entry_keeps s (Finish l) k h = h

  -- a part before any code takes so many words, and leaves this state
  pub record Takes (s : State) (part : List Entry → List Entry) (words : ℕ) (behind : State) : Type 0 where
    pub is : (rest : List Entry) → items_size (cut m s (part rest)) ≡ words + items_size (cut m behind rest)
    pub keeps : Keeps s behind

  pub takes_entry : (s : State) (e : Entry) → Takes s (λ rest. e ∷ rest) (items_size (entry_items m s e)) (behind_entry m s e)
  takes_entry s e = record { is = λ rest. items_size-append (entry_items m s e) (cut m (behind_entry m s e) rest); keeps = entry_keeps s e }

  pub takes_nothing : (s : State) → Takes s (λ rest. rest) 0 s
  takes_nothing s = record { is = λ rest. omega arith; keeps = λ l h. h }

  pub in_turn : (s t u : State) (p q : List Entry → List Entry) (n k : ℕ) → Takes s p n t → Takes t q k u → Takes s (λ rest. p (q rest)) (n + k) u
  in_turn s t u p q n k a b = record {
    is = λ rest. let first = a.is (q rest) in let second = b.is rest in omega (arith, first, second);
    keeps = λ l h. b.keeps l (a.keeps l h);
  }

  -- a run, where there are operations
  pub record Flushes (s : State) (os : List Operation) : Type 0 where
    pub words : ℕ
    pub behind : State
    pub takes : Takes s (flushed os) words behind
    pub few : words ≤ operations_weight os

  pub flushes : (s : State) (os : List Operation) → AreRight os → Flushes s os
  flushes s [] r = record { words = 0; behind = s; takes = takes_nothing s; few = omega arith }
  flushes s (o ∷ os) r = record {
    words = items_size (entry_items m s (Run (o ∷ os)));
    behind = behind_entry m s (Run (o ∷ os));
    takes = takes_entry s (Run (o ∷ os));
    few = let run = run_size m.places (o ∷ os) r in omega (arith, run, plain_items-size (code_in m (o ∷ os)));
  }
