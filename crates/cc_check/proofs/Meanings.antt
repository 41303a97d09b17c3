-- What a frame that is found to be optimal says.
use Rattle.std.proofs.Common.{◌≡◌, ℕ, suc, Bool, true, false, cond, List, [], ◌∷◌, Option, Some, None, option_map, refl, ap, sym, subst, ◌∙◌, eqb-true}
use Rattle.std.specs.Prelude.{◌==◌}
use Rattle.std.specs.Str.{bytes_eq}
use Rattle.std.proofs.lemmas.Slice.Eq.{bytes_eq-Decides}
use Rattle.c25_isa.specs.declared.image.FunctionRange.{FunctionRange}
use Rattle.c25_isa.specs.Image.{Contents}
use Rattle.c25_isa.specs.Walk as walk
use Rattle.c25_isa.specs.AddressCount.{address_count}
use Rattle.lay_cost.specs.Cost.{Least}
use Rattle.lay_cert.specs.declared.replaying.Verdict.{Verdict}
use Rattle.lay_cert.specs.declared.replaying.Verdict.TheVariants as verdicts
use Rattle.lay_cert.specs.Frames.{Frame}
use Rattle.lay_cert.specs.Verdicts.{verdict_of}
use Rattle.cc_check.specs.declared.finding.Finding.TheVariants as findings
use Rattle.cc_check.specs.Findings.{expected_blocks, first_difference, verdict_finding, count_finding, blocks_finding, walk_finding, function_finding, function_of, finding_of}
use Rattle.cc_check.specs.Checks.{IsOptimalIn}

-- blocks that don't differ are the same
none_differs : (xs ys : List (List ℕ)) → first_difference xs ys ≡ None → xs ≡ ys
none_differs [] [] e = refl
none_differs [] (y ∷ ys) e = absurd cc
none_differs (x ∷ xs) [] e = absurd cc
none_differs (x ∷ xs) (y ∷ ys) e = by (bytes_eq x y) ((bytes_eq-Decides x y).0) (none_differs xs ys) e
  where
    behind : (found : Option ℕ) → option_map suc found ≡ None → found ≡ None
    behind None e = refl
    behind (Some n) e = absurd cc

    by : (b : Bool) → (b ≡ true → x ≡ y) → (first_difference xs ys ≡ None → xs ≡ ys) → cond b (option_map suc (first_difference xs ys)) (Some 0) ≡ None → x ∷ xs ≡ y ∷ ys
    by true same rest e = let more : xs ≡ ys = rest (behind (first_difference xs ys) e) in let first : x ≡ y = same refl in cc
    by false same rest e = absurd cc

yes_of : (cost found : ℕ) (v : Verdict) → verdict_finding cost v ≡ findings.Optimal found → (v ≡ verdicts.Yes) × (cost ≡ found)
yes_of cost found verdicts.Yes e = (refl, cc)
yes_of cost found verdicts.Best e = absurd cc
yes_of cost found (verdicts.Cost a b) e = absurd cc
yes_of cost found (verdicts.No a b c) e = absurd cc
yes_of cost found (verdicts.NoShape a) e = absurd cc

-- what is known where a walk and a count give an optimal frame
pub record IsOptimal (f : Frame) (count : ℕ) (w : walk.Walked) (cost : ℕ) : Type 0 where
  pub walks : w ≡ walk.Blocks (expected_blocks f)
  pub counts : count ≡ cost
  pub claims : f.cost ≡ cost
  pub yes : verdict_of f ≡ verdicts.Yes

by_count : (f : Frame) (count cost : ℕ) → count_finding f count ≡ findings.Optimal cost → (count ≡ f.cost) × (f.cost ≡ cost) × (verdict_of f ≡ verdicts.Yes)
by_count f count cost e = by (count == f.cost) refl e
  where
    by : (b : Bool) → (count == f.cost) ≡ b → cond b (verdict_finding f.cost (verdict_of f)) (findings.Count count f.cost) ≡ findings.Optimal cost → (count ≡ f.cost) × (f.cost ≡ cost) × (verdict_of f ≡ verdicts.Yes)
    by true is e = let yes = yes_of f.cost cost (verdict_of f) e in (eqb-true count f.cost is, yes.1, yes.0)
    by false is e = absurd cc

by_walk : (f : Frame) (count : ℕ) (w : walk.Walked) (cost : ℕ) → walk_finding f count w ≡ findings.Optimal cost → IsOptimal f count w cost
by_walk f count (walk.BadWord at) cost e = absurd cc
by_walk f count (walk.UnknownAddress at) cost e = absurd cc
by_walk f count (walk.Blocks blocks) cost e = by (first_difference (expected_blocks f) blocks) refl e
  where
    by : (d : Option ℕ) → first_difference (expected_blocks f) blocks ≡ d → blocks_finding f count d ≡ findings.Optimal cost → IsOptimal f count (walk.Blocks blocks) cost
    by None is e =
        let found = by_count f count cost e in
        record { walks = ap walk.Blocks (sym (none_differs (expected_blocks f) blocks is)); counts = found.0 ∙ found.1; claims = found.1; yes = found.2 }
    by (Some n) is e = absurd cc

-- the range over which that is so
pub record IsOptimalOver (words : List ℕ) (f : Frame) (g : Option FunctionRange) (cost : ℕ) : Type 0 where
  pub range : FunctionRange
  pub is : g ≡ Some range
  pub optimal : IsOptimal f (address_count words range.first range.last) (walk.walk words range.first range.last) cost

over_range : (words : List ℕ) (f : Frame) (g : Option FunctionRange) (cost : ℕ) → function_finding words f g ≡ findings.Optimal cost → IsOptimalOver words f g cost
over_range words f None cost e = absurd cc
over_range words f (Some g) cost e = record { range = g; is = refl; optimal = by_walk f (address_count words g.first g.last) (walk.walk words g.first g.last) cost e }

pub optimal_in : (image : Contents) (f : Frame) (cost : ℕ) → (verdict_of f ≡ verdicts.Yes → Least f.seq f.registers f.cost) → finding_of image f ≡ findings.Optimal cost → IsOptimalIn image f cost
optimal_in image f cost least e =
    let found = over_range image.words f (function_of image.functions f.name) cost e in
    record {
      range = found.range;
      named = found.is;
      walks = found.optimal.walks;
      counts = found.optimal.counts;
      least = subst (λ (n : ℕ). Least f.seq f.registers n) found.optimal.claims (least found.optimal.yes);
    }
