-- What is left of the bodies that are being replaced: at a token that is answered, at a macro that is entered and at an end.
use Rattle.std.proofs.Common.{arith, ◌≡◌, ◌≢◌, ℕ, zero, suc, ◌+◌, ◌^◌, ◌<◌, ◌≤◌, Bool, true, false, cond, List, [], ◌∷◌, ◌++◌, length, drop, set, replicate, get_or, Option, Some, None, Result, Err, slice_get, reverse, refl, sym, ap, ◌∙◌, subst, append_assoc, append-nil, inl, inr}
use mathlib.Core.Path.{fun_ext}
use Rattle.std.specs.Prelude.{Vec, if◌then◌else◌, bytes_eq, flat_map, IfErr}
use Rattle.std.specs.Option.{option_map, option_map_or, option_and_then}
use Rattle.std.specs.declared.alloc.Global.{Global}
use Rattle.std.specs.Borrow.{Bor}
use Rattle.std.proofs.lemmas.Option.{slice_get_within}
use Rattle.std.proofs.lemmas.Bool.{true≢false}
use Rattle.std.proofs.lemmas.List.{get_or-set_same, get_or-set_other, get_or-replicate}
use Rattle.std.proofs.lemmas.Slice.Eq.{bytes_eq-Decides}
use Rattle.indexmap.specs.IndexMap.{index_map_len}
use Rattle.indexmap.proofs.MapLemmas.{Found-position}
use Rattle.c_syntax.specs.declared.token.Token.{Token}
use Rattle.c_syntax.specs.declared.token.TokenKind.{TokenKind}
use Rattle.c_macro.specs.declared.fault.MacroFault.{MacroFault}
use Rattle.c_macro.specs.declared.macros.Frame.{Frame}
use Rattle.c_macro.specs.declared.macros.Macros.{Macros}
use Rattle.c_macro.specs.declared.output.Output as output
use Rattle.c_macro.specs.declared.replacer.Replacer.{Replacer}
use Rattle.c_macro.specs.Macros.{Table, without, macro_named, macro_of, spelling_of, Step, Answers, Replaces, placed, steps, taken}
use Rattle.c_macro.specs.Expanding.{Bodies, index_in, body_at, table_in, free_in, free_count, IsFree, pending, unwound, output_of, TakesTo, StopsOn, frames_of, pending_of, Enters, LeadsOn}
use Rattle.c_macro.proofs.SectionLemmas.{reverse_snoc}
use Rattle.c_macro.proofs.TableLemmas.{one_name}

-- ---- the next token of a body

pub drop_next : {A : Type 0} (xs : List A) (n m : ℕ) (x : A) → m ≡ suc n → slice_get xs n ≡ Some x → drop n xs ≡ x ∷ drop m xs
drop_next [] n m x is at = absurd cc
drop_next {A} (y ∷ xs) zero m x is at = let same : y ≡ x = cc in (λ i. same i ∷ xs) ∙ ap (λ k. x ∷ drop k (y ∷ xs)) (sym is)
drop_next (y ∷ xs) (suc n) m x is at = drop_next xs n (suc n) x refl at ∙ ap (λ k. x ∷ drop k (y ∷ xs)) (sym is)

pub drop_none : {A : Type 0} (xs : List A) (n : ℕ) → slice_get xs n ≡ None → drop n xs ≡ []
drop_none [] zero at = refl
drop_none [] (suc n) at = refl
drop_none (y ∷ xs) zero at = absurd cc
drop_none (y ∷ xs) (suc n) at = drop_none xs n at

-- ---- the macros that are being replaced

-- a macro that isn't being replaced
abbrev pub Waits : List Bool → ℕ → Type 0
Waits busy i = get_or busy i true ≡ false

pub waits_within : (busy : List Bool) (i : ℕ) → Waits busy i → i < length busy
waits_within [] i w = absurd (true≢false w)
waits_within (b ∷ busy) zero w = omega arith
waits_within (b ∷ busy) (suc i) w = let k = waits_within busy i w in omega (arith, k)

pub count_begun : (busy : List Bool) (i : ℕ) → Waits busy i → free_count busy ≡ suc (free_count (set busy i true))
count_begun [] i w = absurd (true≢false w)
count_begun (true ∷ busy) zero w = absurd (true≢false w)
count_begun (false ∷ busy) zero w = refl
count_begun (true ∷ busy) (suc i) w = count_begun busy i w
count_begun (false ∷ busy) (suc i) w = ap suc (count_begun busy i w)

pub begun_ended : (busy : List Bool) (i : ℕ) → Waits busy i → set (set busy i true) i false ≡ busy
begun_ended [] i w = absurd (true≢false w)
begun_ended (b ∷ busy) zero w = ap (λ b. b ∷ busy) (sym w)
begun_ended (b ∷ busy) (suc i) w = ap (λ l. b ∷ l) (begun_ended busy i w)

pub count_idle : (n : ℕ) → free_count (replicate n false) ≡ n
count_idle zero = refl
count_idle (suc n) = ap suc (count_idle n)

pub free_idle : (bodies : Bodies) (n : ℕ) → index_map_len bodies ≤ n → free_in bodies (replicate n false) ≡ table_in bodies
free_idle bodies n few = fun_ext (λ name. by name (index_in bodies name) refl)
  where
    by : (name : List ℕ) (o : Option ℕ) → index_in bodies name ≡ o
        → option_and_then (λ i. if get_or (replicate n false) i true then None else Some (body_at bodies i)) (index_in bodies name)
        ≡ option_map (body_at bodies) (index_in bodies name)
    by name None e = ap (option_and_then _) e ∙ sym (ap (option_map (body_at bodies)) e)
    by name (Some i) e =
        let f = Found-position (λ k. bytes_eq name k.now) bodies.entries i e in
        ap (option_and_then _) e
        ∙ ap (λ b. if b then None else Some (body_at bodies i)) (get_or-replicate n i false true (omega (arith, f.within, few)))
        ∙ sym (ap (option_map (body_at bodies)) e)

-- what the free macros have at a number
abbrev pub free_at : Bodies → List Bool → ℕ → Option (List TokenKind)
free_at bodies busy i = if get_or busy i true then None else Some (body_at bodies i)

pub free_of : (bodies : Bodies) (busy : List Bool) (name : List ℕ) (o : Option ℕ) → index_in bodies name ≡ o → free_in bodies busy name ≡ option_and_then (free_at bodies busy) o
free_of bodies busy name o e = ap (option_and_then (free_at bodies busy)) e

pub free_begun : (bodies : Bodies) (busy : List Bool) (name : List ℕ) (i : ℕ) → index_in bodies name ≡ Some i → Waits busy i
    → without name (free_in bodies busy) ≡ free_in bodies (set busy i true)
free_begun bodies busy name i is w =
    fun_ext (λ other. by other (bytes_eq name other) (index_in bodies other) refl refl (bytes_eq-Decides name other).0 (bytes_eq-Decides name other).1)
  where
    by : (other : List ℕ) (b : Bool) (o : Option ℕ) → bytes_eq name other ≡ b → index_in bodies other ≡ o
        → (bytes_eq name other ≡ true → name ≡ other) → (name ≡ other → bytes_eq name other ≡ true)
        → cond b None (free_in bodies busy other) ≡ free_in bodies (set busy i true) other
    by other true o e at same test =
        let here : index_in bodies other ≡ Some i = ap (index_in bodies) (sym (same e)) ∙ is in
        sym (free_of bodies (set busy i true) other (Some i) here
        ∙ ap (λ b. if b then None else Some (body_at bodies i)) (get_or-set_same busy i true true (waits_within busy i w)))
    by other false None e at same test = free_of bodies busy other None at ∙ sym (free_of bodies (set busy i true) other None at)
    by other false (Some j) e at same test =
        let apart : j ≢ i = λ k. true≢false (sym (test (one_name bodies name other i is (at ∙ ap Some k))) ∙ e) in
        free_of bodies busy other (Some j) at
        ∙ ap (λ b. if b then None else Some (body_at bodies j)) (sym (get_or-set_other busy i j true true apart))
        ∙ sym (free_of bodies (set busy i true) other (Some j) at)

-- ---- the steps of a kind

-- the steps of a kind while some macros are being replaced
abbrev pub kind_steps : Bodies → List Bool → ℕ → ℕ → TokenKind → List Step
kind_steps bodies busy at len kind = steps (free_count busy) (free_in bodies busy) (placed at len kind)

abbrev pub body_steps : Bodies → List Bool → ℕ → ℕ → List TokenKind → List Step
body_steps bodies busy at len body = flat_map (kind_steps bodies busy at len) body

pub steps_none : (left : ℕ) (table : Table) (t : Token) → macro_of table t.kind ≡ None → steps left table t ≡ Answers t ∷ []
steps_none zero table t e = refl
steps_none (suc left) table t e =
    ap (λ m. option_map_or (λ macro. Replaces ∷ flat_map (λ kind. steps left (without macro.name table) (placed t.at t.len kind)) macro.body) m (Answers t ∷ [])) e

pub steps_some : (left : ℕ) (table : Table) (t : Token) (name : List ℕ) (body : List TokenKind) → spelling_of t.kind ≡ Some name → table name ≡ Some body
    → steps (suc left) table t ≡ Replaces ∷ flat_map (λ kind. steps left (without name table) (placed t.at t.len kind)) body
steps_some left table t name body spelled has =
    ap (λ m. option_map_or (λ macro. Replaces ∷ flat_map (λ kind. steps left (without macro.name table) (placed t.at t.len kind)) macro.body) m (Answers t ∷ []))
    (ap (option_and_then (macro_named table)) spelled ∙ ap (option_map (λ b. record { name = name; body = b })) has)

pub kind_answered : (bodies : Bodies) (busy : List Bool) (at len : ℕ) (kind : TokenKind) → macro_of (free_in bodies busy) kind ≡ None
    → kind_steps bodies busy at len kind ≡ Answers (placed at len kind) ∷ []
kind_answered bodies busy at len kind e = steps_none (free_count busy) (free_in bodies busy) (placed at len kind) e

pub kind_replaced : (m : Macros) (at len : ℕ) (kind : TokenKind) (i : ℕ) → IsFree m kind i
    → kind_steps m.bodies m.busy.items at len kind ≡ Replaces ∷ body_steps m.bodies (set m.busy.items i true) at len (body_at m.bodies i)
kind_replaced m at len kind i f =
    let bodies = m.bodies in
    let busy = m.busy.items in
    let has : free_in bodies busy f.name ≡ Some (body_at bodies i) =
    free_of bodies busy f.name (Some i) f.indexed ∙ ap (λ b. if b then None else Some (body_at bodies i)) f.free in
    ap (λ n. steps n (free_in bodies busy) (placed at len kind)) (count_begun busy i f.free)
    ∙ steps_some (free_count (set busy i true)) (free_in bodies busy) (placed at len kind) f.name (body_at bodies i) f.spelled has
    ∙ ap (λ table. Replaces ∷ flat_map (λ kind. steps (free_count (set busy i true)) table (placed at len kind)) (body_at bodies i))
    (free_begun bodies busy f.name i f.indexed f.free)

-- ---- what is left

module _ (m : Macros) (at len : ℕ) (frame following : Frame) (outer : List Frame) (kind : TokenKind)
    (same : following.index ≡ frame.index) (next : following.next ≡ suc frame.next) (here : slice_get (body_at m.bodies frame.index) frame.next ≡ Some kind) where
  pub pending_next : pending m.bodies m.busy.items at len (frame ∷ outer)
      ≡ kind_steps m.bodies m.busy.items at len kind ++ pending m.bodies m.busy.items at len (following ∷ outer)
  pending_next =
      ap (λ body. body_steps m.bodies m.busy.items at len body ++ pending m.bodies (set m.busy.items frame.index false) at len outer)
      (drop_next (body_at m.bodies frame.index) frame.next following.next kind next here)
      ∙ append_assoc (kind_steps m.bodies m.busy.items at len kind) (body_steps m.bodies m.busy.items at len (drop following.next (body_at m.bodies frame.index)))
      (pending m.bodies (set m.busy.items frame.index false) at len outer)
      ∙ ap (λ i. kind_steps m.bodies m.busy.items at len kind ++ (body_steps m.bodies m.busy.items at len (drop following.next (body_at m.bodies i))
      ++ pending m.bodies (set m.busy.items i false) at len outer)) (sym same)

  pub pending_answered : macro_of (free_in m.bodies m.busy.items) kind ≡ None
      → pending m.bodies m.busy.items at len (frame ∷ outer) ≡ Answers (placed at len kind) ∷ [] ++ pending m.bodies m.busy.items at len (following ∷ outer)
  pending_answered e = pending_next ∙ ap (λ l. l ++ pending m.bodies m.busy.items at len (following ∷ outer)) (kind_answered m.bodies m.busy.items at len kind e)

  pub pending_replaced : (i : ℕ) → IsFree m kind i
      → pending m.bodies m.busy.items at len (frame ∷ outer)
      ≡ Replaces ∷ [] ++ pending m.bodies (set m.busy.items i true) at len (record { index = i; next = 0 } ∷ following ∷ outer)
  pending_replaced i f =
      pending_next
      ∙ ap (λ l. l ++ pending m.bodies m.busy.items at len (following ∷ outer)) (kind_replaced m at len kind i f)
      ∙ ap (λ b. Replaces ∷ (body_steps m.bodies (set m.busy.items i true) at len (body_at m.bodies i) ++ pending m.bodies b at len (following ∷ outer)))
      (sym (begun_ended m.busy.items i f.free))

pub pending_ended : (m : Macros) (at len : ℕ) (frame : Frame) (outer : List Frame) → slice_get (body_at m.bodies frame.index) frame.next ≡ None
    → pending m.bodies m.busy.items at len (frame ∷ outer) ≡ pending m.bodies (set m.busy.items frame.index false) at len outer
pending_ended m at len frame outer none =
    ap (λ body. body_steps m.bodies m.busy.items at len body ++ pending m.bodies (set m.busy.items frame.index false) at len outer)
    (drop_none (body_at m.bodies frame.index) frame.next none)

-- ---- a body is a list of the code, so its places fit

items_small : (v : Vec TokenKind Global) → length v.items < 2 ^ 63
items_small v = omega (arith, v.ok, v.small)

body_small : (bodies : Bodies) (i : ℕ) → length (body_at bodies i) < 2 ^ 63
body_small bodies i = by (slice_get bodies.entries i)
  where
    by : (o : Option (Bor (List ℕ) × Vec TokenKind Global)) → length (option_map_or (λ entry. entry.1.items) o []) < 2 ^ 63
    by None = omega arith
    by (Some entry) = items_small entry.1

pub next_fits : (bodies : Bodies) (i n : ℕ) (kind : TokenKind) → Some kind ≡ slice_get (body_at bodies i) n → n + 1 < 2 ^ 64
next_fits bodies i n kind e =
    let within : n < length (body_at bodies i) = slice_get_within (body_at bodies i) n kind (sym e) in
    let small = body_small bodies i in
    omega (arith, within, small)

-- ---- the output

pub leads : (old new : output.Output) (steps whole rest : List Step) → whole ≡ steps ++ rest → TakesTo old steps new
    → (more : List Step) → taken (output_of old) (whole ++ more) ≡ taken (output_of new) (rest ++ more)
leads old new steps whole rest is takes more =
    ap (λ l. taken (output_of old) (l ++ more)) is ∙ ap (taken (output_of old)) (append_assoc steps rest more) ∙ takes (rest ++ more)

pub stops : (old : output.Output) (steps whole rest : List Step) (fault : MacroFault) → whole ≡ steps ++ rest → StopsOn old steps fault → StopsOn old whole fault
stops old steps whole rest fault is (inl none) = inl none
stops old steps whole rest fault is (inr stop) =
    inr (λ more. ap (λ l. taken (output_of old) (l ++ more)) is ∙ ap (taken (output_of old)) (append_assoc steps rest more) ∙ stop (rest ++ more))

-- ---- one token of a body

abbrev pub after : Frame → Frame
after frame = record { index = frame.index; next = frame.next + 1 }

abbrev pub with_stack : Replacer → Vec Frame Global → Replacer
with_stack r stack = record { alloc = r.alloc; macros = r.macros; output = r.output; stack = stack }

pub frames_more : (stack : List Frame) (old : List Frame) (frame : Frame) → stack ≡ old ++ frame ∷ [] → reverse stack ≡ frame ∷ reverse old
frames_more stack old frame is = ap reverse is ∙ reverse_snoc old frame

module _ (at len : ℕ) (old : Replacer) (frame : Frame) (kind : TokenKind) (here : Some kind ≡ slice_get (body_at old.macros.bodies frame.index) frame.next) where
  next_is : frame.next + 1 ≡ suc frame.next
  next_is = omega arith

  answered : macro_of (free_in old.macros.bodies old.macros.busy.items) kind ≡ None → (copy : TokenKind) → copy ≡ kind
      → pending_of old at len (frame ∷ frames_of old) ≡ Answers (placed at len copy) ∷ [] ++ pending_of old at len (after frame ∷ frames_of old)
  answered none copy same =
      pending_answered old.macros at len frame (after frame) (frames_of old) kind refl next_is (sym here) none
      ∙ ap (λ k. Answers (placed at len k) ∷ [] ++ pending_of old at len (after frame ∷ frames_of old)) (sym same)

  pub answered_leads : macro_of (free_in old.macros.bodies old.macros.busy.items) kind ≡ None → (copy : TokenKind) → copy ≡ kind
      → (out : output.Output) (stack : Vec Frame Global) → stack.items ≡ old.stack.items ++ after frame ∷ []
      → TakesTo old.output (Answers (placed at len copy) ∷ []) out
      → LeadsOn at len old (frame ∷ frames_of old)
      (record { alloc = old.alloc; macros = old.macros; output = out; stack = stack }) (reverse stack.items)
  answered_leads none copy same out stack is takes =
      leads old.output out (Answers (placed at len copy) ∷ []) (pending_of old at len (frame ∷ frames_of old)) (pending_of old at len (reverse stack.items))
      (answered none copy same ∙ ap (λ l. Answers (placed at len copy) ∷ [] ++ pending_of old at len l) (sym (frames_more stack.items old.stack.items (after frame) is)))
      takes

  pub answered_stops : macro_of (free_in old.macros.bodies old.macros.busy.items) kind ≡ None → (copy : TokenKind) → copy ≡ kind
      → (fault : MacroFault) → StopsOn old.output (Answers (placed at len copy) ∷ []) fault
      → StopsOn old.output (pending_of old at len (frame ∷ frames_of old)) fault
  answered_stops none copy same fault stop =
      stops old.output (Answers (placed at len copy) ∷ []) (pending_of old at len (frame ∷ frames_of old)) (pending_of old at len (after frame ∷ frames_of old)) fault
      (answered none copy same) stop

  module _ (i : ℕ) (free : IsFree old.macros kind i) where
    replaced : pending_of old at len (frame ∷ frames_of old)
        ≡ Replaces ∷ [] ++ pending old.macros.bodies (set old.macros.busy.items i true) at len (record { index = i; next = 0 } ∷ after frame ∷ frames_of old)
    replaced = pending_replaced old.macros at len frame (after frame) (frames_of old) kind refl next_is (sym here) i free

    pub replaced_stops : (fault : MacroFault) → StopsOn old.output (Replaces ∷ []) fault → StopsOn old.output (pending_of old at len (frame ∷ frames_of old)) fault
    replaced_stops fault stop =
        stops old.output (Replaces ∷ []) (pending_of old at len (frame ∷ frames_of old))
        (pending old.macros.bodies (set old.macros.busy.items i true) at len (record { index = i; next = 0 } ∷ after frame ∷ frames_of old)) fault replaced stop

    module _ (stack : Vec Frame Global) (is : stack.items ≡ old.stack.items ++ after frame ∷ []) (new : Replacer) (enters : Enters (with_stack old stack) i new) where
      entered_frames : frames_of new ≡ record { index = i; next = 0 } ∷ after frame ∷ frames_of old
      entered_frames =
          frames_more new.stack.items stack.items (record { index = i; next = 0 }) enters.stack
          ∙ ap (λ l. record { index = i; next = 0 } ∷ l) (frames_more stack.items old.stack.items (after frame) is)

      pub replaced_leads : LeadsOn at len old (frame ∷ frames_of old) new (frames_of new)
      replaced_leads =
          leads old.output new.output (Replaces ∷ []) (pending_of old at len (frame ∷ frames_of old)) (pending_of new at len (frames_of new))
          (replaced ∙ (λ j. Replaces ∷ [] ++ pending (sym enters.bodies j) (sym enters.busy j) at len (sym entered_frames j)))
          enters.takes

      pub replaced_unwound : unwound new.macros.busy.items (frames_of new) ≡ unwound old.macros.busy.items (frame ∷ frames_of old)
      replaced_unwound =
          (λ j. unwound (enters.busy j) (entered_frames j))
          ∙ ap (λ b. unwound b (after frame ∷ frames_of old)) (begun_ended old.macros.busy.items i free.free)

pub ended_leads : (at len : ℕ) (old : Replacer) (frame : Frame) (macros : Macros) → None ≡ slice_get (body_at old.macros.bodies frame.index) frame.next
    → macros.bodies ≡ old.macros.bodies → macros.busy.items ≡ set old.macros.busy.items frame.index false
    → LeadsOn at len old (frame ∷ frames_of old) (record { alloc = old.alloc; macros = macros; output = old.output; stack = old.stack }) (frames_of old)
ended_leads at len old frame macros none bodies busy more =
    ap (λ l. taken (output_of old.output) (l ++ more))
    (pending_ended old.macros at len frame (frames_of old) (sym none) ∙ (λ j. pending (sym bodies j) (sym busy j) at len (frames_of old)))

-- ---- a token of a line

-- between lines each macro waits
pub steps_idle : (m : Macros) (n : ℕ) (t : Token) → index_map_len m.bodies ≤ n → m.busy.items ≡ replicate n false
    → steps n (table_in m.bodies) t ≡ kind_steps m.bodies m.busy.items t.at t.len t.kind
steps_idle m n t few idle =
    (λ j. steps (sym (count_idle n) j) (sym (free_idle m.bodies n few) j) t)
    ∙ ap (λ busy. kind_steps m.bodies busy t.at t.len t.kind) (sym idle)

module _ (old : Replacer) (t : Token) (whole : List Step) (idle : whole ≡ kind_steps old.macros.bodies old.macros.busy.items t.at t.len t.kind) where
  module _ (none : macro_of (free_in old.macros.bodies old.macros.busy.items) t.kind ≡ None) where
    lone : whole ≡ Answers t ∷ []
    lone = idle ∙ kind_answered old.macros.bodies old.macros.busy.items t.at t.len t.kind none

    pub lone_takes : (new : output.Output) → TakesTo old.output (Answers t ∷ []) new → TakesTo old.output whole new
    lone_takes new takes more = ap (λ l. taken (output_of old.output) (l ++ more)) lone ∙ takes more

    pub lone_stops : (fault : MacroFault) → StopsOn old.output (Answers t ∷ []) fault → StopsOn old.output whole fault
    lone_stops fault stop = stops old.output (Answers t ∷ []) whole [] fault lone stop

  module _ (i : ℕ) (free : IsFree old.macros t.kind i) where
    text_replaced : whole ≡ Replaces ∷ [] ++ pending old.macros.bodies (set old.macros.busy.items i true) t.at t.len (record { index = i; next = 0 } ∷ [])
    text_replaced =
        idle ∙ kind_replaced old.macros t.at t.len t.kind i free
        ∙ ap (λ l. Replaces ∷ l) (sym (append-nil (body_steps old.macros.bodies (set old.macros.busy.items i true) t.at t.len (body_at old.macros.bodies i))))

    pub text_stops : (fault : MacroFault) → StopsOn old.output (Replaces ∷ []) fault → StopsOn old.output whole fault
    text_stops fault stop =
        stops old.output (Replaces ∷ []) whole (pending old.macros.bodies (set old.macros.busy.items i true) t.at t.len (record { index = i; next = 0 } ∷ [])) fault text_replaced stop

    module _ (empty : old.stack.items ≡ []) (mid : Replacer) (enters : Enters old i mid) where
      text_frames : frames_of mid ≡ record { index = i; next = 0 } ∷ []
      text_frames = frames_more mid.stack.items old.stack.items (record { index = i; next = 0 }) enters.stack ∙ ap (λ l. record { index = i; next = 0 } ∷ reverse l) empty

      text_pending : whole ≡ Replaces ∷ [] ++ pending_of mid t.at t.len (frames_of mid)
      text_pending = text_replaced ∙ (λ j. Replaces ∷ [] ++ pending (sym enters.bodies j) (sym enters.busy j) t.at t.len (sym text_frames j))

      pub text_leads : (more : List Step) → taken (output_of old.output) (whole ++ more) ≡ taken (output_of mid.output) (pending_of mid t.at t.len (frames_of mid) ++ more)
      text_leads = leads old.output mid.output (Replaces ∷ []) whole (pending_of mid t.at t.len (frames_of mid)) text_pending enters.takes

      pub text_takes : (new : output.Output) → TakesTo mid.output (pending_of mid t.at t.len (frames_of mid)) new → TakesTo old.output whole new
      text_takes new takes more = text_leads more ∙ takes more

      pub text_stops_later : (fault : MacroFault) → StopsOn mid.output (pending_of mid t.at t.len (frames_of mid)) fault → StopsOn old.output whole fault
      text_stops_later fault (inl none) = inl none
      text_stops_later fault (inr stop) = inr (λ more. text_leads more ∙ stop more)

      text_unwound : unwound mid.macros.busy.items (frames_of mid) ≡ old.macros.busy.items
      text_unwound = (λ j. unwound (enters.busy j) (text_frames j)) ∙ begun_ended old.macros.busy.items i free.free

      pub text_busy : (busy : List Bool) → busy ≡ unwound mid.macros.busy.items (frames_of mid) → busy ≡ old.macros.busy.items
      text_busy busy is = is ∙ text_unwound

-- what holds of an error holds of it once it is passed on
pub passed_on : {T E : Type 0} (r : Result T E) (Q : E → Type 0) (other fault : E) → r ≡ Err other → other ≡ fault → Q fault → IfErr r Q
passed_on r Q other fault is same h = subst (λ r. IfErr r Q) (sym (is ∙ ap Err same)) h
