-- Straight code that fills words in: it loads each word, unless it is in the accumulator already, and stores it by AR1, which goes up.
use Rattle.std.proofs.Common.{◌≡◌, ℕ, suc, ◌+◌, ◌*◌, ◌^◌, ◌<◌, ◌≤◌, Bool, true, false, List, [], ◌∷◌, ◌++◌, length, Option, Some, None, refl, sym, ap, ◌∙◌, subst, cond, arith, eqb-true}
use Rattle.std.specs.Prelude.{nat_lt, ◌==◌}
use Rattle.std.specs.List.{AllByRecursion}
use Rattle.c25_isa.specs.declared.instruction.Instr.{Instr}
use Rattle.c25_isa.specs.declared.instruction.Instr.TheVariants.{Lrlk, Lack, Lalk}
use Rattle.c25_isa.specs.State.{write}
use Rattle.c25_isa.specs.Step.{wrap16, wrap32, extended}
use Rattle.c25_code.specs.Work.{Work, InRange}
use Rattle.c25_code.specs.Work.{HoldsAcc}
use Rattle.c25_code.specs.CodeRuns.{CodeRuns}
use Rattle.c25_code.proofs.CodeRuns.{runs_on}
use Rattle.c25_code.proofs.Ranges.{behind_instr-fits}
use Rattle.c25_code.proofs.Writes.{write_same}
use Rattle.frame_emit.specs.Startup.{load_of, word_load, store_up, words_code, filling_code}
use Rattle.image_proof.proofs.Stores.{stored}

-- work in which words are filled in: AR1 is current, and constants load as they are
pub record IsFit (w : Work) : Type 0 where
  pub arp : w.arp ≡ 1
  pub sxm : w.sxm ≡ false
  pub range : InRange w

-- code that leads from such work to such work, puts nothing, and leaves the hardware stack and the input
pub record Fills (code : List Instr) (w u : Work) : Type 0 where
  pub runs : CodeRuns code w u []
  pub fit : IsFit u
  pub stack : u.stack ≡ w.stack
  pub input : u.input ≡ w.input

abbrev pub IsWord : ℕ → Type 0
IsWord x = x < 65536

abbrev pub AreWords : List ℕ → Type 0
AreWords ws = AllByRecursion IsWord ws

pub fills_none : (w : Work) → IsFit w → Fills [] w w
fills_none w fit = record { runs = record { ready = tt; reaches = refl; outputs = refl }; fit = fit; stack = refl; input = refl }

pub fills_on : (a b : List Instr) (w v u : Work) → Fills a w v → Fills b v u → Fills (a ++ b) w u
fills_on a b w v u f g = record {
  runs = runs_on a b w v u [] [] f.runs g.runs;
  fit = g.fit;
  stack = g.stack ∙ f.stack;
  input = g.input ∙ f.input;
}

-- work with a word in the accumulator
abbrev with_acc : ℕ → Work → Work
with_acc x w = record w { acc = x }

acc_in_range : (x : ℕ) (w : Work) → IsWord x → InRange w → InRange (with_acc x w)
acc_in_range x w is r = record { acc = omega (arith, is); t = r.t; p = r.p; ar = r.ar; arp = r.arp; dp = r.dp; stack = r.stack; room = r.room; ram = r.ram; input = r.input }

acc_fit : (x : ℕ) (w : Work) → IsWord x → IsFit w → IsFit (with_acc x w)
acc_fit x w is fit = record { arp = fit.arp; sxm = fit.sxm; range = acc_in_range x w is fit.range }

-- a constant without its sign
unsigned : (x : ℕ) (w : Work) → IsWord x → w.sxm ≡ false → wrap32 (extended w.sxm x * 2 ^ 0) ≡ x
unsigned x w is off = ap (λ s. wrap32 (extended s x * 2 ^ 0)) off ∙ (let e : wrap32 (x * 2 ^ 0) ≡ x = omega (arith, is) in e)

loads_by : (small : Bool) (x : ℕ) (w : Work) → IsWord x → IsFit w → Fills (cond small (Lack x) (Lalk 0 x) ∷ []) w (with_acc x w)
loads_by true x w is fit = record { runs = record { ready = (tt, tt); reaches = refl; outputs = refl }; fit = acc_fit x w is fit; stack = refl; input = refl }
loads_by false x w is fit =
    record { runs = record { ready = (tt, tt); reaches = ap (λ a. with_acc a w) (unsigned x w is fit.sxm); outputs = refl }; fit = acc_fit x w is fit; stack = refl; input = refl }

unless_held : (held : Bool) (x : ℕ) (w : Work) → IsWord x → IsFit w → (held ≡ true → w.acc ≡ x) → Fills (cond held [] (load_of x ∷ [])) w (with_acc x w)
unless_held true x w is fit there = subst (Fills [] w) (ap (λ a. with_acc a w) (there refl)) (fills_none w fit)
unless_held false x w is fit there = loads_by (nat_lt x 256) x w is fit

pub word_loads : (held : Option ℕ) (x : ℕ) (w : Work) → IsWord x → IsFit w → HoldsAcc held w.acc → Fills (word_load held x) w (with_acc x w)
word_loads None x w is fit holds = unless_held false x w is fit (λ e. absurd cc)
word_loads (Some v) x w is fit holds = unless_held (v == x) x w is fit (λ e. holds ∙ eqb-true v x e)

-- a word goes where AR1 is, which goes up
abbrev pub behind_store : ℕ → ℕ → Work → Work
behind_store x a w = record w { ar = write w.ar 1 (wrap16 (a + 1)); ram = write w.ram a x }

store_reaches : (x a : ℕ) (w : Work) → IsWord x → w.arp ≡ 1 → w.acc ≡ x → w.ar 1 ≡ a
    → record w { ar = write w.ar w.arp (wrap16 (w.ar w.arp + 1)); ram = write w.ram (w.ar w.arp) (wrap16 (w.acc * 2 ^ 0)) } ≡ behind_store x a w
store_reaches x a w is arp acc at =
    ap (λ n. record w { ar = write w.ar n (wrap16 (w.ar n + 1)); ram = write w.ram (w.ar n) (wrap16 (w.acc * 2 ^ 0)) }) arp
    ∙ ap (λ v. record w { ar = write w.ar 1 (wrap16 (w.ar 1 + 1)); ram = write w.ram (w.ar 1) v }) (let e : wrap16 (w.acc * 2 ^ 0) ≡ x = omega (arith, acc, is) in e)
    ∙ ap (λ n. record w { ar = write w.ar 1 (wrap16 (n + 1)); ram = write w.ram n x }) at

pub word_stores : (x a : ℕ) (w : Work) → IsWord x → IsFit w → w.acc ≡ x → w.ar 1 ≡ a → 0x300 ≤ a → Fills (store_up ∷ []) w (behind_store x a w)
word_stores x a w is fit acc at low =
    let in_ram : 0x300 ≤ w.ar w.arp = subst (λ n. 0x300 ≤ w.ar n) (sym fit.arp) (omega (arith, low, at)) in
    let reaches = store_reaches x a w is fit.arp acc at in
    record {
      runs = record { ready = (in_ram, tt); reaches = reaches; outputs = refl };
      fit = record { arp = fit.arp; sxm = fit.sxm; range = subst InRange reaches (behind_instr-fits store_up w (omega arith, tt) in_ram fit.range) };
      stack = refl;
      input = refl;
    }

-- words from an address on
pub words_fill : (ws : List ℕ) (held : Option ℕ) (a : ℕ) (w : Work) → AreWords ws → IsFit w → HoldsAcc held w.acc → w.ar 1 ≡ wrap16 a → 0x300 ≤ a → a + length ws ≤ 65536
    → (u : Work) × Fills (words_code held ws) w u × (u.ram ≡ stored a ws w.ram)
words_fill [] held a w are fit holds at low high = (w, fills_none w fit, refl)
words_fill (x ∷ xs) held a w are fit holds at low high =
    let v : Work = with_acc x w in
    let s : Work = behind_store x a v in
    let loads = word_loads held x w are.0 fit holds in
    let stores = word_stores x a v are.0 loads.fit refl (omega (arith, at, high)) low in
    let further : s.ar 1 ≡ wrap16 (suc a) = write_same w.ar 1 (wrap16 (a + 1)) 1 refl ∙ (let e : wrap16 (a + 1) ≡ wrap16 (suc a) = omega arith in e) in
    let rest = words_fill xs (Some x) (suc a) s are.1 stores.fit refl further (omega (arith, low)) (omega (arith, high)) in
    (rest.0, fills_on (word_load held x) (store_up ∷ words_code (Some x) xs) w v rest.0 loads (fills_on (store_up ∷ []) (words_code (Some x) xs) v s rest.0 stores rest.1), rest.2)

-- the words of an object
pub object_fills : (ws : List ℕ) (a : ℕ) (w : Work) → AreWords ws → IsFit w → 0x300 ≤ a → a + length ws ≤ 65536
    → (u : Work) × Fills (filling_code a ws) w u × (u.ram ≡ stored a ws w.ram)
object_fills [] a w are fit low high = (w, fills_none w fit, refl)
object_fills (x ∷ xs) a w are fit low high =
    let v : Work = record w { ar = write w.ar 1 a } in
    let aims : Fills (Lrlk 1 a ∷ []) w v = record {
      runs = record { ready = (tt, tt); reaches = refl; outputs = refl };
      fit = record { arp = fit.arp; sxm = fit.sxm; range = behind_instr-fits (Lrlk 1 a) w (omega arith, omega (arith, high)) tt fit.range };
      stack = refl;
      input = refl;
    } in
    let there : v.ar 1 ≡ wrap16 a = write_same w.ar 1 a 1 refl ∙ (let e : a ≡ wrap16 a = omega (arith, high) in e) in
    let rest = words_fill (x ∷ xs) None a v are aims.fit tt there low high in
    (rest.0, fills_on (Lrlk 1 a ∷ []) (words_code None (x ∷ xs)) w v rest.0 aims rest.1, rest.2)
