-- A call: its arguments come to the parameters, and behind it the caller stands as before.
use Rattle.std.proofs.Common.{◌≡◌, ℕ, ◌+◌, ◌*◌, ◌<◌, List, ◌++◌, length, Option, Some, None, refl, sym, ap, ◌∙◌, subst, arith}
use Rattle.tree_code.specs.WellFormedCode.{TakesSo, argument_count}
use Rattle.tree_code.specs.WordTree.{ExprsCode}
use Rattle.acc_code.specs.AccTree.{Call, end, ◌▸◌, ◌⧺◌}
use Rattle.acc_select.specs.acc_operations.Words.{in_accumulator}
use Rattle.acc_select.specs.acc_operations.declared.high_half.HighHalf.TheVariants.{Any}
use Rattle.acc_select.specs.Forms.{call_code, parameter_items}
use Rattle.acc_select.specs.Selected.{arguments, waiting}
use Rattle.ir_semantics.specs.Parts.{Gives, Does, after, ◌>>=◌, Flow, Next, Broke, Continued, Returned, in_order}
use Rattle.ir_semantics.specs.TreeRun.{Tree, Calls, values, call_does, need, as_truth, as_nothing}
use Rattle.ir_semantics.specs.AccRows.{low_half}
use Rattle.ir_semantics.specs.AccRun.{Machine, given_for, without_scratch, run_item, run}
use Rattle.acc_select_proof.proofs.Straights.{run_append}
use Rattle.acc_select_proof.proofs.Rules.{Ground, Rel, AtEnd, Keeps, seq, followed, last_item}
use Rattle.acc_select_proof.proofs.Sides.{Side, went, paid}
use Rattle.acc_select_proof.proofs.Following.{IsWide}
use Rattle.acc_select_proof.proofs.Valuing.{Stable, rel_forget, fails, FoundVal, WordKeeps, CodeKeeps}
use Rattle.acc_select_proof.proofs.Coding.{word_code}
use Rattle.acc_select_proof.proofs.Passing.{AllWords, Given, given_kept, given_both, words_left, uncovered, AllKeep, Staged, arguments_keep, unloaded}

-- behind a call: where the tree has a word, the low half of the accumulator is that word
pub record Result (base : ℕ) (ts : List ℕ) (s : ℕ) (r : Option ℕ) (w : Tree) (v : Machine) : Type 0 where
  pub side : Side base ts s w v
  pub result : (x : ℕ) → r ≡ Some x → (low_half v.registers.acc ≡ Some x) × (x < 65536)
  pub wide : IsWide v.registers.acc

-- what calls do in a tree, and what they do in the machine, by how many parameters a function takes
pub record CallsKeep (parameters : ℕ → Option ℕ) (calls : Calls) (does : ℕ → Does Machine Flow) : Type 0 where
  pub by : (f base : ℕ) (ts xs : List ℕ) (s : ℕ) (w : Tree) (v : Machine) → TakesSo (parameters f) (length xs) → Given (given_for f v) 0 xs → AllWords xs → Side base ts s w v → Rel (AtEnd (Result base ts s)) (calls f xs w) (does f v)

result_stable : (base : ℕ) (ts : List ℕ) (s : ℕ) → Stable (AtEnd (Result base ts s))
result_stable base ts s a Next w v e = record { side = went base ts s s 0 w v _ e.side refl refl e.side.sxm (omega arith) (omega arith); result = e.result; wide = e.wide }
result_stable base ts s a Broke w v e = e
result_stable base ts s a Continued w v e = e
result_stable base ts s a Returned w v e = e

module _ (n : Ground) (base : ℕ) (parameters : ℕ → Option ℕ) (calls : Calls) (kept : CallsKeep parameters calls n.context.calls) where
  -- a call alone
  called_keeps : (f : ℕ) (ts xs : List ℕ) (s : ℕ) (w : Tree) (v : Machine) → TakesSo (parameters f) (length xs) → Given (given_for f v) 0 xs → AllWords xs → Side base ts (2 + s) w v → Rel (AtEnd (Result base ts s)) (calls f xs w) (run n.context (Call f ▸ end) v)
  called_keeps f ts xs s w v takes given words h =
      let u : Machine = without_scratch (record v { work = v.work + 2 }) in
      subst (Rel (AtEnd (Result base ts s)) (calls f xs w)) (last_item (run_item n.context (Call f) v))
      (rel_forget (AtEnd (Result base ts s)) (calls f xs w) (n.context.calls f u) (result_stable base ts s)
      (kept.by f base ts xs s w u takes given words (went base ts (2 + s) s 2 w v u h refl refl h.sxm (omega arith) (omega arith))))

  -- behind its arguments
  staged_keeps : (f : ℕ) (es : ExprsCode) (ts : List ℕ) (s : ℕ) → TakesSo (parameters f) (argument_count es) → (xs : List ℕ) (w : Tree) (v : Machine) → Staged n base f 0 es ts (2 + s) xs w v
      → Rel (AtEnd (Result base ts s)) (calls f xs w) (run n.context (parameter_items f 0 (base + length ts) (waiting es) ⧺ Call f ▸ end) v)
  staged_keeps f es ts s takes xs w v p =
      let words : AllWords (p.waits ++ p.lasts) = subst AllWords p.all p.words in
      let r = unloaded n base f p.waits ts 0 v p.side.temps (words_left p.waits p.lasts words) p.side.sxm in
      let items : parameter_items f 0 (base + length ts) (length p.waits) ≡ parameter_items f 0 (base + length ts) (waiting es) = ap (λ k. parameter_items f 0 (base + length ts) k) p.many in
      let many : 0 + length p.waits ≡ 0 + waiting es = ap (λ k. 0 + k) p.many in
      let last : Given (given_for f r.to) (0 + length p.waits) p.lasts = given_kept (given_for f v) (given_for f r.to) (0 + length p.waits) p.lasts r.above (subst (λ k. Given (given_for f v) k p.lasts) (sym many) p.given) in
      let given : Given (given_for f r.to) 0 xs = subst (Given (given_for f r.to) 0) (sym p.all) (given_both (given_for f r.to) 0 p.waits p.lasts r.gives last) in
      let bare = uncovered n base p.waits ts (7 * waiting es + (2 + s)) w v p.side in
      subst (λ is. Rel (AtEnd (Result base ts s)) (calls f xs w) (run n.context (is ⧺ Call f ▸ end) v)) items
      (subst (Rel (AtEnd (Result base ts s)) (calls f xs w)) (sym (run_append n.context (parameter_items f 0 (base + length ts) (length p.waits)) (Call f ▸ end) v ∙ ap (λ y. after y (λ flow. in_order flow (run n.context (Call f ▸ end)))) r.runs))
      (called_keeps f ts xs s w r.to (subst (TakesSo (parameters f)) (sym p.count) takes) given p.words
      (went base ts (7 * waiting es + (2 + s)) (2 + s) (7 * waiting es) w v r.to bare r.frame r.outside r.sxm (let k = r.work in let m = p.many in omega (arith, k, m)) (omega arith))))

  pub call_keeps : (f : ℕ) (es : ExprsCode) → AllKeep n base calls es → TakesSo (parameters f) (argument_count es) → (ts : List ℕ) (s : ℕ)
      → Keeps n (Side base ts s) (call_does (calls f) (values calls n.context.at es)) (arguments f 0 es (base + length ts) ⧺ parameter_items f 0 (base + length ts) (waiting es) ⧺ Call f ▸ end) (AtEnd (Result base ts s))
  call_keeps f es k takes ts s = record {
    by = λ w v h.
        (seq n (arguments_keep n base calls es k f 0 ts (2 + s)) (λ xs. record { by = λ u m p. staged_keeps f es ts s takes xs u m p })).by
        _ v (paid base ts s 2 w v h);
  }

  value_of : (ts : List ℕ) (s : ℕ) (r : Option ℕ) (w : Tree) (v : Machine) → Result base ts s r w v → Rel (AtEnd (FoundVal n base (in_accumulator end Any).found ts s)) (need r w) (Gives Next v)
  value_of ts s None w v h = fails n base {A = ℕ} (AtEnd (FoundVal n base (in_accumulator end Any).found ts s)) end w v h.side.outside
  value_of ts s (Some x) w v h = let r = h.result x refl in record { side = went base ts s (0 + s) 0 w v v h.side refl refl h.side.sxm (omega arith) (omega arith); found = r.0; wide = h.wide; word = r.1 }

  pub call_word : (f : ℕ) (es : ExprsCode) → AllKeep n base calls es → TakesSo (parameters f) (argument_count es)
      → WordKeeps n base (call_does (calls f) (values calls n.context.at es) >>= need) (λ t. in_accumulator (arguments f 0 es t ⧺ parameter_items f 0 t (waiting es) ⧺ Call f ▸ end) Any)
  call_word f es k takes = record { by = λ ts s. followed n need (AtEnd (FoundVal n base (in_accumulator end Any).found ts s)) (call_keeps f es k takes ts s) (value_of ts s) }

  -- a call in each way that an expression is used
  pub call_code_keeps : (f : ℕ) (es : ExprsCode) → AllKeep n base calls es → TakesSo (parameters f) (argument_count es)
      → CodeKeeps n base (as_truth (call_does (calls f) (values calls n.context.at es) >>= need)) (call_does (calls f) (values calls n.context.at es) >>= need) (as_nothing (call_does (calls f) (values calls n.context.at es)))
      (λ t. call_code f (arguments f 0 es t) (parameter_items f 0 t (waiting es)))
  call_code_keeps f es k takes =
      let made = word_code n base (call_does (calls f) (values calls n.context.at es) >>= need) (λ t. in_accumulator (arguments f 0 es t ⧺ parameter_items f 0 t (waiting es) ⧺ Call f ▸ end) Any) (call_word f es k takes) in
      record {
        word = made.word;
        branch = made.branch;
        effect_too = record { by = λ ts s. seq n (call_keeps f es k takes ts s) (λ r. record { by = λ w v p. p.side }) };
        into = made.into;
        point = made.point;
      }
