-- Functions: from what their bodies keep to what calls keep, by the depth of calls.
use Rattle.std.proofs.Common.{◌≡◌, ℕ, zero, suc, ◌+◌, ◌-◌, ◌<◌, Bool, true, false, List, [], length, Option, Some, None, refl, sym, ap, ◌∙◌, subst, arith}
use Rattle.std.specs.Prelude.{map, slice_get, option_map}
use Rattle.std.proofs.lemmas.Option.{slice_get-map}
use Rattle.word_base.specs.Ports.{Prefix}
use Rattle.tree_code.specs.WellFormedCode.{TakesSo, parameter_count}
use Rattle.tree_code.specs.WordTemporaries.{word_statement_temporaries}
use Rattle.tree_code.specs.WordTree.{FunctionCode}
use Rattle.acc_select.specs.Selected.{body_items, is_main, selected_function}
use Rattle.ir_semantics.specs.Parts.{Gives, Does, Flow, Next, Broke, Continued, Returned}
use Rattle.ir_semantics.specs.Outside.{Nowhere, Unwritten, Outside, no_words, with_memory, with_objects, Places, address_of}
use Rattle.ir_semantics.specs.TreeRun as tree
use Rattle.ir_semantics.specs.TreeRun.{Tree, Calls, exec, body_does}
use Rattle.ir_semantics.specs.AccRows.{Acc, Gone, low_half}
use Rattle.ir_semantics.specs.AccRun as acc
use Rattle.ir_semantics.specs.AccRun.{Machine, given_for, at_most_low, run}
use Rattle.acc_select_proof.proofs.Rules.{Ground, Rel, AtEnd, Keeps, Grows, outs_of, prefix_refl, rel_after, rel_weaker, calls_grow}
use Rattle.acc_select_proof.proofs.Sides.{Side}
use Rattle.acc_select_proof.proofs.Following.{IsWide}
use Rattle.acc_select_proof.proofs.Passing.{AllWords, Given}
use Rattle.acc_select_proof.proofs.Calling.{Result, CallsKeep}
use Rattle.acc_select_proof.proofs.Entering.{outside_words, passed}
use Rattle.acc_select_proof.proofs.Leaving.{FlowPost, Leaves, ClosedPost, rel_also, closed_keeps}

-- the context of a function, by what calls do
abbrev pub ground : Places → ℕ → ℕ → FunctionCode → (does : ℕ → Does Machine Flow) → ((k : ℕ) → Grows (does k)) → Ground
ground q limit f g does grows = record { context = record { limit = limit; calls = does; at = address_of q f; locals = g.locals }; grows = grows }

-- the number of the first temporary
abbrev pub base_of : FunctionCode → ℕ
base_of g = g.scalars - word_statement_temporaries g.body

-- the items of a body keep what the body does, where calls are kept
pub record BodyKeeps (q : Places) (limit : ℕ) (parameters : ℕ → Option ℕ) (f : ℕ) (g : FunctionCode) : Type 0 where
  pub by : (calls : Calls) (does : ℕ → Does Machine Flow) (grows : (k : ℕ) → Grows (does k)) → CallsKeep parameters calls does → (s : ℕ)
      → Keeps (ground q limit f g does grows) (Side (base_of g) [] s) (exec calls (address_of q f) q g.locals limit g.body) (body_items g) (FlowPost (base_of g) s)

-- a body never returns without a value
pub record AlwaysGives (q : Places) (limit f : ℕ) (g : FunctionCode) : Type 0 where
  pub by : (calls : Calls) (w u : Tree) → exec calls (address_of q f) q g.locals limit g.body w ≡ Gives Returned u → u.result ≡ None → ⊥

-- behind a call, of `main` too: where that has no value, the machine returns 0
pub record CallPost (closed : Bool) (base : ℕ) (ts : List ℕ) (s : ℕ) (r : Option ℕ) (w : Tree) (v : Machine) : Type 0 where
  pub side : Side base ts s w v
  pub result : (x : ℕ) → r ≡ Some x → (low_half v.registers.acc ≡ Some x) × (x < 65536)
  pub none : closed ≡ true → r ≡ None → low_half v.registers.acc ≡ Some 0
  pub wide : IsWide v.registers.acc

record BodyPost (closed : Bool) (base s : ℕ) (a flow : Flow) (w : Tree) (v : Machine) : Type 0 where
  left : ClosedPost closed base s a flow w v
  gives : closed ≡ true → a ≡ Returned → w.result ≡ None → ⊥

low_again : (c : Option ℕ) (x : ℕ) → c ≡ Some x → low_half (at_most_low c) ≡ Some x
low_again None x e = absurd cc
low_again (Some y) x e = e

low_wide : (c : Option ℕ) → IsWide (at_most_low c)
low_wide None = tt
low_wide (Some x) = tt

returned_too : (closed : Bool) (flow : Flow) (v : Machine) → Leaves closed Returned flow v → Returned ≡ flow
returned_too true flow v e = e
returned_too false flow v e = e

-- behind the body of a function, whose caller stood so
module _ (q : Places) (f : ℕ) (g : FunctionCode) (closed : Bool) (base inner s : ℕ) (ts : List ℕ) (s0 : ℕ) (w0 : Tree) (v0 : Machine) (h0 : Side base ts s0 w0 v0) where
  caller_again : (held : Acc) (w : Tree) (v : Machine) → Side inner [] s w v → Side base ts s (tree.left q f g w0.frame w) (acc.left q f g held v0.frame v)
  caller_again held w v h = record {
    frame = h0.frame;
    scalars = h0.scalars;
    temps = h0.temps;
    outside = ap (λ (o : Outside). with_memory (with_objects Nowhere q f 0 g.locals o.memory) o) h.outside;
    words = outside_words Nowhere q f g.locals w.outside (λ x e. cc) h.words;
    sxm = h.sxm;
    work = h.work;
  }

  nothing_put : (flow : Flow) (v : Machine) → Prefix v.outside.outs (outs_of (acc.back q f g v0.frame flow v))
  nothing_put Next v = prefix_refl v.outside.outs
  nothing_put Broke v = prefix_refl v.outside.outs
  nothing_put Continued v = prefix_refl v.outside.outs
  nothing_put Returned v = prefix_refl v.outside.outs

  -- a jump out of a function isn't defined
  jumped : (flow : Flow) (w : Tree) (v : Machine) → v.outside ≡ w.outside → Prefix w.outside.outs (outs_of (acc.back q f g v0.frame flow v))
  jumped flow w v e = subst (λ (o : Outside). Prefix o.outs (outs_of (acc.back q f g v0.frame flow v))) e (nothing_put flow v)

  at_end : (c : Bool) → c ≡ closed → (flow : Flow) (w : Tree) (v : Machine) → Leaves c Next flow v → Side inner [] s w v → Rel (AtEnd (CallPost closed base ts s)) (Gives None (tree.left q f g w0.frame w)) (acc.back q f g v0.frame flow v)
  at_end true is flow w v l h =
      subst (λ b. Rel (AtEnd (CallPost closed base ts s)) (Gives None (tree.left q f g w0.frame w)) (acc.back q f g v0.frame b v)) l.0
      (record { side = caller_again (at_most_low (low_half v.registers.acc)) w v h; result = λ x e. absurd cc; none = λ c e. low_again (low_half v.registers.acc) 0 l.1; wide = low_wide (low_half v.registers.acc) })
  at_end false is flow w v l h =
      subst (λ b. Rel (AtEnd (CallPost closed base ts s)) (Gives None (tree.left q f g w0.frame w)) (acc.back q f g v0.frame b v)) l
      (record { side = caller_again Gone w v h; result = λ x e. absurd cc; none = λ c e. absurd (cc (is, c)); wide = tt })

  back_keeps : (a flow : Flow) (w : Tree) (v : Machine) → BodyPost closed inner s a flow w v → Rel (AtEnd (CallPost closed base ts s)) (tree.back q f g w0.frame a w) (acc.back q f g v0.frame flow v)
  back_keeps Next flow w v h = at_end closed refl flow w v h.left.leaves h.left.side
  back_keeps Broke flow w v h = jumped flow w v h.left.side.outside
  back_keeps Continued flow w v h = jumped flow w v h.left.side.outside
  back_keeps Returned flow w v h =
      subst (λ b. Rel (AtEnd (CallPost closed base ts s)) (Gives w.result (tree.left q f g w0.frame w)) (acc.back q f g v0.frame b v)) (returned_too closed flow v h.left.leaves)
      (record {
        side = caller_again (at_most_low (low_half v.registers.acc)) w v h.left.side;
        result = λ x e. let r = h.left.result refl x e in (low_again (low_half v.registers.acc) x r.0, r.1);
        wide = low_wide (low_half v.registers.acc);
        none = λ c e. absurd (h.gives c refl e);
      })

module _ (q : Places) (limit : ℕ) (parameters : ℕ → Option ℕ) where
  -- a call of a function that is there
  pub called_keeps : (calls : Calls) (does : ℕ → Does Machine Flow) (grows : (k : ℕ) → Grows (does k)) → CallsKeep parameters calls does → (f : ℕ) (g : FunctionCode) → BodyKeeps q limit parameters f g → (is_main g.name ≡ true → AlwaysGives q limit f g)
      → (base : ℕ) (ts xs : List ℕ) (s : ℕ) (w : Tree) (v : Machine) → length g.params ≡ length xs → Given (given_for f v) 0 xs → AllWords xs → Side base ts s w v
      → Rel (AtEnd (CallPost (is_main g.name) base ts s)) (tree.called calls q limit f (Some g) xs w) (acc.called does q limit f (Some g) (Some (selected_function g)) v)
  called_keeps calls does grows kept f g body gives base ts xs s w v same given words h =
      let n = ground q limit f g does grows in
      let inner = base_of g in
      let does_body = exec calls (address_of q f) q g.locals limit g.body in
      let items = (selected_function g).body in
      let closed = is_main g.name in
      let both : Keeps n (Side inner [] (5 + s)) does_body items (BodyPost closed inner s) = record {
        by = λ u m p.
            rel_also (does_body u) (run n.context items m) (λ a flow u2 m2 x y post. record { left = post; gives = λ c is none. (gives c).by calls u u2 (x ∙ ap (λ z. Gives z u2) is) none })
            ((closed_keeps n inner s does_body (body_items g) (Side inner [] (5 + s)) closed (body.by calls does grows kept (5 + s))).by u m p);
      } in
      let first : Machine = record {
        registers = record v.registers { acc = Gone; pointed = None };
        frame = no_words;
        scratch = no_words;
        given_to = 0;
        given = no_words;
        outside = with_memory (with_objects Unwritten q f 0 g.locals v.outside.memory) v.outside;
        work = v.work + 5;
      } in
      let start : Side inner [] (5 + s) (tree.entered q f g w) first = record {
        frame = λ k x lt e. absurd cc;
        scalars = λ k x e. absurd cc;
        temps = tt;
        outside = ap (λ (o : Outside). with_memory (with_objects Unwritten q f 0 g.locals o.memory) o) h.outside;
        words = outside_words Unwritten q f g.locals w.outside (λ x e. cc) h.words;
        sxm = h.sxm;
        work = let k = h.work in omega (arith, k);
      } in
      rel_after (BodyPost closed inner s) (AtEnd (CallPost closed base ts s)) (body_does calls q limit f g xs (tree.entered q f g w)) (run n.context items (acc.entered q f g v)) (tree.back q f g w.frame) (acc.back q f g v.frame)
      (passed n q f inner (5 + s) does_body items (BodyPost closed inner s) both g.params xs 0 (given_for f v) same given words (tree.entered q f g w) first start)
      (λ flow. record { by = λ m. nothing_put q f g closed base inner s ts s w v h flow m }) (back_keeps q f g closed base inner s ts s w v h)

-- all functions
module _ (q : Places) (fs : List FunctionCode) (limit : ℕ) where
  abbrev pub parameters_in : ℕ → Option ℕ
  parameters_in k = parameter_count (slice_get fs k)

  -- the bodies keep, and `main` returns no value nowhere
  pub record BodiesKeep : Type 0 where
    pub bodies : (f : ℕ) (g : FunctionCode) → slice_get fs f ≡ Some g → BodyKeeps q limit parameters_in f g
    pub main_gives : (f : ℕ) (g : FunctionCode) → slice_get fs f ≡ Some g → is_main g.name ≡ true → AlwaysGives q limit f g

  slot_keeps : (calls : Calls) (does : ℕ → Does Machine Flow) (grows : (k : ℕ) → Grows (does k)) → CallsKeep parameters_in calls does → BodiesKeep → (f : ℕ) (slot : Option FunctionCode) → slice_get fs f ≡ slot
      → (base : ℕ) (ts xs : List ℕ) (s : ℕ) (w : Tree) (v : Machine) → TakesSo (parameter_count slot) (length xs) → Given (given_for f v) 0 xs → AllWords xs → Side base ts s w v
      → Rel (AtEnd (Result base ts s)) (tree.called calls q limit f slot xs w) (acc.called does q limit f slot (option_map selected_function slot) v)
  slot_keeps calls does grows kept b f None is base ts xs s w v takes given words h = ap (λ (o : Outside). o.outs) (sym h.outside)
  slot_keeps calls does grows kept b f (Some g) is base ts xs s w v takes given words h =
      rel_weaker (λ r u m p. record { side = p.side; result = p.result; wide = p.wide }) (tree.called calls q limit f (Some g) xs w) (acc.called does q limit f (Some g) (Some (selected_function g)) v)
      (called_keeps q limit parameters_in calls does grows kept f g (b.bodies f g is) (b.main_gives f g is) base ts xs s w v takes given words h)

  pub calls_keep : BodiesKeep → (depth : ℕ) → CallsKeep parameters_in (tree.call_within q fs limit depth) (acc.call_within q fs (map selected_function fs) limit depth)
  calls_keep b zero = record { by = λ f base ts xs s w v takes given words h. ap (λ (o : Outside). o.outs) (sym h.outside) }
  calls_keep b (suc depth) = record {
    by = λ f base ts xs s w v takes given words h.
        let calls = tree.call_within q fs limit depth in
        let does = acc.call_within q fs (map selected_function fs) limit depth in
        subst (λ slot. Rel (AtEnd (Result base ts s)) (tree.called calls q limit f (slice_get fs f) xs w) (acc.called does q limit f (slice_get fs f) slot v)) (sym (slice_get-map selected_function fs f))
        (slot_keeps calls does (calls_grow q fs (map selected_function fs) limit depth) (calls_keep b depth) b f (slice_get fs f) refl base ts xs s w v takes given words h);
  }
