-- Where the instructions of a return stand, the machine comes back to the caller.
use Rattle.std.proofs.Common.{◌≡◌, ℕ, ◌+◌, ◌*◌, ◌/◌, ◌%◌, ◌<◌, ◌≤◌, ◌^◌, List, [], ◌∷◌, length, Option, Some, None, refl, sym, ap, ◌∙◌, subst, append-nil, arith}
use Rattle.std.specs.Prelude.{All}
use Rattle.std.proofs.lemmas.List.Elements.{All-tail}
use Rattle.c25_isa.specs.declared.operand.Operand.TheVariants.{Direct}
use Rattle.c25_isa.specs.declared.instruction.Instr.TheVariants.{Ldpk, Pshd, Ret}
use Rattle.c25_isa.specs.State as machine
use Rattle.c25_isa.specs.State.{Memory}
use Rattle.c25_isa.specs.CodeAt.{CodeAt}
use Rattle.c25_isa.specs.Leads.{Leads}
use Rattle.c25_isa.proofs.CodeAt.{stands_below}
use Rattle.c25_isa.proofs.Leads.{leads_on}
use Rattle.c25_code.specs.Work.{Work, InRange, calm}
use Rattle.c25_code.specs.Straight.{NonEmpty, first_of, rest_of}
use Rattle.c25_code.specs.Items.{return_code}
use Rattle.c25_code.proofs.Straight.{code_leads}
use Rattle.c25_code.proofs.Jumps.{return_leads}
use Rattle.ir_semantics.specs.AccRun.{Machine}
use Rattle.frame_emit.specs.emit_control.Settings.{Setting}
use Rattle.emit_proof.specs.Sites.{Site, Beside, with_stack}
use Rattle.emit_proof.specs.Code.{ReturnsMeet}
use Rattle.ir_semantics.specs.Outside.{Frame}
use Rattle.image_proof.specs.Emissions.{Emission, IsEmission}
use Rattle.image_proof.specs.Active.{AreActive, back_of}
use Rattle.image_proof.specs.ActiveSites.{site_of}
use Rattle.image_proof.specs.Kept.{kept_for, stack_in}
use Rattle.image_proof.proofs.Keeping.{back_within, keeps_return}

-- the work behind it
abbrev behind : Option ℕ → List ℕ → Work → Work
behind None stack w = record w { stack = stack }
behind (Some a) stack w = record w { stack = stack; dp = a / 128 }

-- in at most three steps
record Returns (program : Memory) (pc : ℕ) (w : Work) (to : ℕ) (u : Work) : Type 0 where
  steps : ℕ
  leads : Leads steps (calm program pc w) (calm program to u) []
  some : 1 ≤ steps
  few : steps ≤ 3

page_and_offset : (a : ℕ) → a / 128 * 128 + a % 128 ≡ a
page_and_offset a = omega arith

returns_by : (program : Memory) (o : Option ℕ) (ret : ℕ) (stack : List ℕ) (pc : ℕ) (w : Work) → CodeAt program pc (return_code o) → w.stack ≡ stack_in o ret stack → length stack < 8 → ((a : ℕ) → o ≡ Some a → (w.ram a ≡ ret) × (0x300 ≤ a)) → Returns program pc w ret (behind o stack w)
returns_by program None ret stack pc w at same few word =
    record {
      steps = 1;
      leads = subst (λ l. Leads 1 (calm program pc w) (calm program (first_of l) (record w { stack = rest_of l })) []) same (return_leads program pc w at.0 (subst NonEmpty (sym same) tt));
      some = omega arith;
      few = omega arith;
    }
returns_by program (Some a) ret stack pc w at same few word =
    let low = (word a refl).1 in
    let address_is : a / 128 * 128 + a % 128 ≡ a = page_and_offset a in
    let size_is : length w.stack ≡ length stack = ap length same in
    let space : length w.stack < 8 = omega (arith, size_is, few) in
    let in_ram : 0x300 ≤ a / 128 * 128 + a % 128 = omega (arith, low) in
    let front = code_leads program (Ldpk (a / 128) ∷ Pshd (Direct (a % 128)) ∷ []) pc w (at.0, (at.1.0, tt)) (tt, ((in_ram, space), tt)) (let ret_at = stands_below program (pc + 1 + 1) Ret at.1.1.0 in omega arith) in
    let v : Work = record w { dp = a / 128; stack = w.ram (a / 128 * 128 + a % 128) ∷ w.stack } in
    let back = return_leads program (pc + 1 + 1) v at.1.1.0 tt in
    let e : pc + 2 ≡ pc + 1 + 1 = omega arith in
    let first : Leads 2 (calm program pc w) (calm program (pc + 1 + 1) v) [] = subst (λ n. Leads 2 (calm program pc w) (calm program n v) []) e front in
    let both = leads_on 2 1 _ _ _ [] [] first back in
    let to : w.ram (a / 128 * 128 + a % 128) ≡ ret = ap w.ram address_is ∙ (word a refl).0 in
    record {
      steps = 3;
      leads = subst (λ n. Leads 3 (calm program pc w) (calm program n (record w { dp = a / 128; stack = stack })) []) to
          (subst (λ l. Leads 3 (calm program pc w) (calm program (w.ram (a / 128 * 128 + a % 128)) (record w { dp = a / 128; stack = l })) []) same both);
      some = omega arith;
      few = omega arith;
    }

-- the state is beside it
range_behind : (o : Option ℕ) (ret : ℕ) (stack : List ℕ) (w : Work) → w.stack ≡ stack_in o ret stack → length stack < 8 → ((a : ℕ) → o ≡ Some a → a < 65536) → InRange w → InRange (behind o stack w)
range_behind None ret stack w same few low r = record {
  acc = r.acc;
  t = r.t;
  p = r.p;
  ar = r.ar;
  arp = r.arp;
  dp = r.dp;
  stack = All-tail (λ word. word < 2 ^ 16) ret stack (subst (All (λ word. word < 2 ^ 16)) same r.stack);
  room = omega (arith, few);
  ram = r.ram;
  input = r.input;
}
range_behind (Some a) ret stack w same few low r =
    let word = low a refl in
    record {
      acc = r.acc;
      t = r.t;
      p = r.p;
      ar = r.ar;
      arp = r.arp;
      dp = omega (arith, word);
      stack = subst (All (λ word. word < 2 ^ 16)) same r.stack;
      room = omega (arith, few);
      ram = r.ram;
      input = r.input;
    }

beside_behind : (o : Option ℕ) (stack : List ℕ) (k : Site) (v : Machine) (w : Work) → InRange (behind o stack w) → Beside k v w → Beside (with_stack stack k) v (behind o stack w)
beside_behind None stack k v w range h =
    let r = h.registers in
    record { stands = h.stands; nowhere = h.nowhere; registers = record { acc = r.acc; t = r.t; p = r.p; sxm = r.sxm }; pointed = h.pointed; input = h.input; stack = refl; range = range }
beside_behind (Some a) stack k v w range h =
    let r = h.registers in
    record { stands = h.stands; nowhere = h.nowhere; registers = record { acc = r.acc; t = r.t; p = r.p; sxm = r.sxm }; pointed = h.pointed; input = h.input; stack = refl; range = range }

-- of a site that keeps the return address in the function's word
pub returns_meet : (start : machine.State) (program : Memory) (names : List ℕ → ℕ) (m : Setting) (k : Site) (ret : ℕ) (stack : List ℕ) → k.stack ≡ stack_in m.back ret stack → length stack < 8 → ((a : ℕ) → m.back ≡ Some a → (k.kept a ≡ Some ret) × (784 ≤ a) × (a < 65536)) → ReturnsMeet start program names m k (with_stack stack k) ret
returns_meet start program names m k ret stack is few word = record {
  by = λ b v w pc at came same beside.
      let stacked : w.stack ≡ stack_in m.back ret stack = beside.stack ∙ is in
      let r = returns_by program m.back ret stack pc w at stacked few (λ a back.
      let low = (word a back).1 in
      ((beside.stands).callers a ret (word a back).0, omega (arith, low))) in
      let more = r.some in
      let most = r.few in
      record {
        steps = b.steps + r.steps;
        work = behind m.back stack w;
        came = subst (Leads (b.steps + r.steps) start (calm program ret (behind m.back stack w))) (append-nil v.outside.outs) (leads_on b.steps r.steps start (calm program pc w) (calm program ret (behind m.back stack w)) v.outside.outs [] came r.leads);
        beside = beside_behind m.back stack k v w (range_behind m.back ret stack w stacked few (λ a back. (word a back).2) beside.range) beside;
        least_steps = omega (arith, more);
        within = omega (arith, most, same);
      };
}

-- of the site of a function that was called
pub site_returns : (e : Emission) → IsEmission e → (g : ℕ) (active : List ℕ) → AreActive e (g ∷ active) → (frame : Frame) (kept : ℕ → Option ℕ) (stack : List ℕ) (ret : ℕ) (start : machine.State) (program : Memory) (names : List ℕ → ℕ) (m : Setting) → m.back ≡ back_of e g → length stack < 8
    → ReturnsMeet start program names m (site_of e (g ∷ active) (kept_for e g active frame ret kept) (stack_in (back_of e g) ret stack)) (with_stack stack (site_of e (g ∷ active) (kept_for e g active frame ret kept) (stack_in (back_of e g) ret stack))) ret
site_returns e is g active are frame kept stack ret start program names m back few =
    returns_meet start program names m (site_of e (g ∷ active) (kept_for e g active frame ret kept) (stack_in (back_of e g) ret stack)) ret stack (ap (λ o. stack_in o ret stack) (sym back)) few
    (λ a has.
    let its = sym back ∙ has in
    let within = back_within e is g active are a its in
    (keeps_return e is g active are frame ret kept a its, within.0, within.1))
