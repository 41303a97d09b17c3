-- What a yes says of a frame, and verdicts that were worked out by another program or by hand.
use Rattle.std.proofs.Common.{◌≡◌, ℕ, Bool, true, false, cond, [], ◌∷◌, refl, ap, ap₂, sym, ◌∙◌}
use Rattle.std.specs.Prelude.{◌==◌, pos, negsuc, codes}
use Rattle.std.proofs.lemmas.Bool.{both_ways, eqb-true, eq-eqb, ne_eqb}
use Rattle.lay_cost.specs.Cost.{arranged_cost}
use Rattle.lay_tree.specs.declared.answer.Mark.TheVariants.{Branched, Closed}
use Rattle.lay_tree.specs.Replays.{Replay, Fits, IsTooLow, HasNoShape, replay, Replays}
use Rattle.lay_cert.specs.declared.certificate.Claim.{Claim}
use Rattle.lay_cert.specs.declared.certificate.Claim.TheVariants as claims
use Rattle.lay_cert.specs.declared.replaying.Verdict.{Verdict}
use Rattle.lay_cert.specs.declared.replaying.Verdict.TheVariants.{Yes, Best, Cost, No, NoShape}
use Rattle.lay_cert.specs.Frames.{Frame}
use Rattle.lay_cert.specs.Verdicts.{log_verdict, claim_verdict, verdict_of}

abbrev is_yes : Verdict → Bool
is_yes Yes = true
is_yes Best = false
is_yes (Cost claimed found) = false
is_yes (No node bound cost) = false
is_yes (NoShape node) = false

no_yes : (v : Verdict) → v ≡ Yes → is_yes v ≡ false → ⊥
no_yes v e f = both_ways (is_yes v) f (ap is_yes e)

pub same_cost : (f : Frame) → verdict_of f ≡ Yes → (arranged_cost f.seq f.arr == f.cost) ≡ true
same_cost f e = by (arranged_cost f.seq f.arr == f.cost) refl
  where
    by : (b : Bool) → (arranged_cost f.seq f.arr == f.cost) ≡ b → (arranged_cost f.seq f.arr == f.cost) ≡ true
    by true is = is
    by false is = absurd (no_yes (verdict_of f) e (ap (λ b. is_yes (cond b (claim_verdict f f.claim) (Cost f.cost (arranged_cost f.seq f.arr)))) is))

pub yes_costs : (f : Frame) → verdict_of f ≡ Yes → arranged_cost f.seq f.arr ≡ f.cost
yes_costs f e = eqb-true (arranged_cost f.seq f.arr) f.cost (same_cost f e)

log_fits : (c : ℕ) (r : Replay) → log_verdict c r ≡ Yes → r ≡ Fits
log_fits c Fits e = refl
log_fits c (IsTooLow at b) e = absurd (no_yes (No at b c) e refl)
log_fits c (HasNoShape at) e = absurd (no_yes (NoShape at) e refl)

claim_fits : (f : Frame) (claim : Claim) → claim_verdict f claim ≡ Yes → Replays f.registers f.seq f.cost f.log
claim_fits f claims.Optimal e = log_fits f.cost (replay f.registers f.seq f.cost f.log) e
claim_fits f (claims.Best piece quota) e = absurd (no_yes Best e refl)

pub yes_replays : (f : Frame) → verdict_of f ≡ Yes → Replays f.registers f.seq f.cost f.log
yes_replays f e = claim_fits f f.claim (sym (ap (λ b. cond b (claim_verdict f f.claim) (Cost f.cost (arranged_cost f.seq f.arr))) (same_cost f e)) ∙ e)

-- ---- by the two costs

pub verdict_at_cost : (f : Frame) (claimed found : ℕ) → claimed ≡ f.cost → found ≡ arranged_cost f.seq f.arr → claimed ≡ found → claim_verdict f f.claim ≡ verdict_of f
verdict_at_cost f claimed found is costs same = sym (ap (λ b. cond b (claim_verdict f f.claim) (Cost f.cost (arranged_cost f.seq f.arr))) (eq-eqb (arranged_cost f.seq f.arr) f.cost (sym costs ∙ sym same ∙ is)))

pub verdict_off_cost : (f : Frame) (claimed found : ℕ) → claimed ≡ f.cost → found ≡ arranged_cost f.seq f.arr → (claimed ≡ found → ⊥) → Cost claimed found ≡ verdict_of f
verdict_off_cost f claimed found is costs differ = ap₂ Cost is costs ∙ sym (ap (λ b. cond b (claim_verdict f f.claim) (Cost f.cost (arranged_cost f.seq f.arr))) (ne_eqb (arranged_cost f.seq f.arr) f.cost (λ e. differ (is ∙ sym e ∙ sym costs))))

-- ---- examples

-- two neighbours at a step of 2
abbrev two : Frame
two = record {
  name = codes "fir";
  registers = 1;
  seq = record { scalars = 2; step = 2; blocks = record { weight = 1; accesses = 0 ∷ 1 ∷ [] } ∷ [] };
  arr = (0 ∷ 1 ∷ []) ∷ [];
  bases = 784 ∷ [];
  cost = 1;
  claim = claims.Optimal;
  log = Closed ∷ [];
}

two_yes : verdict_of two ≡ Yes
two_yes = refl

two_left_over : verdict_of (record two { log = Closed ∷ Closed ∷ Closed ∷ [] }) ≡ NoShape 1
two_left_over = refl

-- three moves by 2
abbrev four : Frame
four = record {
  name = codes "by_two";
  registers = 1;
  seq = record { scalars = 4; step = 2; blocks = record { weight = 1; accesses = 0 ∷ 1 ∷ 0 ∷ 2 ∷ 0 ∷ 3 ∷ 0 ∷ [] } ∷ [] };
  arr = (1 ∷ 0 ∷ 2 ∷ 3 ∷ []) ∷ [];
  bases = 784 ∷ [];
  cost = 2;
  claim = claims.Optimal;
  log = Closed ∷ [];
}

four_too_low : verdict_of four ≡ No 0 (pos 1) 2
four_too_low = refl

-- a cycle of three
abbrev three : Frame
three = record {
  name = codes "v";
  registers = 1;
  seq = record { scalars = 3; step = 1; blocks = record { weight = 1; accesses = 0 ∷ 1 ∷ 2 ∷ 0 ∷ [] } ∷ [] };
  arr = (1 ∷ 0 ∷ 2 ∷ []) ∷ [];
  bases = 784 ∷ [];
  cost = 2;
  claim = claims.Optimal;
  log = Branched ∷ Closed ∷ Closed ∷ Closed ∷ [];
}

three_yes : verdict_of three ≡ Yes
three_yes = refl

three_too_low : verdict_of (record three { log = Closed ∷ Closed ∷ Closed ∷ Closed ∷ [] }) ≡ No 0 (pos 1) 2
three_too_low = refl

three_absent : verdict_of (record three { log = Branched ∷ Closed ∷ Closed ∷ [] }) ≡ NoShape 3
three_absent = refl

three_branched_last : verdict_of (record three { log = Branched ∷ Closed ∷ Closed ∷ Branched ∷ [] }) ≡ NoShape 4
three_branched_last = refl

three_claims_less : verdict_of (record three { cost = 1 }) ≡ Cost 1 2
three_claims_less = refl

-- the cost comes before the claim
three_best : verdict_of (record three { claim = claims.Best 0 1; log = Branched ∷ [] }) ≡ Best
three_best = refl

three_best_claims_less : verdict_of (record three { cost = 1; claim = claims.Best 0 1; log = Branched ∷ [] }) ≡ Cost 1 2
three_best_claims_less = refl

-- all scalars are placed, so the node has no children
three_complete : verdict_of (record three { log = Branched ∷ Branched ∷ Branched ∷ Branched ∷ [] }) ≡ NoShape 3
three_complete = refl

-- two scalars that are neighbours five times: the bound is below zero
abbrev often : Frame
often = record {
  name = codes "often";
  registers = 1;
  seq = record { scalars = 2; step = 1; blocks = record { weight = 1; accesses = 0 ∷ 1 ∷ 0 ∷ 1 ∷ 0 ∷ 1 ∷ [] } ∷ [] };
  arr = (0 ∷ 1 ∷ []) ∷ [];
  bases = 784 ∷ [];
  cost = 1;
  claim = claims.Optimal;
  log = Closed ∷ [];
}

below_zero : verdict_of often ≡ No 0 (negsuc 3) 1
below_zero = refl

-- no scalars
abbrev nothing : Frame
nothing = record {
  name = codes "e";
  registers = 2;
  seq = record { scalars = 0; step = 1; blocks = [] };
  arr = [];
  bases = [];
  cost = 0;
  claim = claims.Optimal;
  log = Closed ∷ [];
}

nothing_yes : verdict_of nothing ≡ Yes
nothing_yes = refl

nothing_branched : verdict_of (record nothing { log = Branched ∷ [] }) ≡ NoShape 0
nothing_branched = refl
