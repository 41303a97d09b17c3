-- Keeping is reflexive and transitive.
use Rattle.std.proofs.Common.{◌≡◌, ℕ, ◌++◌, [], refl, sym, ap, ◌∙◌, append_assoc, append-nil}
use Rattle.word_base.specs.declared.outcome.Outcome.{Outcome}
use Rattle.word_base.specs.declared.outcome.Outcome.TheVariants.{Ended, More, Undefined}
use Rattle.word_base.specs.Ports.{Outputs, Prefix}
use Rattle.word_base.specs.Outcome.{outputs_of}
use Rattle.word_base.specs.Keeps.{Outcomes, Keeps}

pub prefix_itself : (xs : Outputs) → Prefix xs xs
prefix_itself xs = record { rest = []; is = sym (append-nil xs) }

pub prefix_both : (xs ys zs : Outputs) → Prefix xs ys → Prefix ys zs → Prefix xs zs
prefix_both xs ys zs p q = record {
  rest = p.rest ++ q.rest;
  is = q.is ∙ ap (λ l. l ++ q.rest) p.is ∙ append_assoc xs p.rest q.rest;
}

pub keeps_itself : (run : Outcomes) → Keeps run run
keeps_itself run = record {
  ends = λ n outs ending e. e;
  goes_on = λ n outs e. e;
  undefined = λ n outs kind at e. record { rest = []; is = ap outputs_of e ∙ sym (append-nil outs) };
}

pub keeps_both : (run other third : Outcomes) → Keeps run other → Keeps other third → Keeps run third
keeps_both run other third h k = record {
  ends = λ n outs ending e. k.ends n outs ending (h.ends n outs ending e);
  goes_on = λ n outs e. k.goes_on n outs (h.goes_on n outs e);
  undefined = λ n outs kind at e. prefix_both outs (outputs_of (other n)) (outputs_of (third n)) (h.undefined n outs kind at e) (kept n (other n) refl);
}
  where
    kept : (n : ℕ) (o : Outcome) → other n ≡ o → Prefix (outputs_of (other n)) (outputs_of (third n))
    kept n (Ended outs ending) is = record { rest = []; is = ap outputs_of (k.ends n outs ending is) ∙ sym (ap outputs_of is) ∙ sym (append-nil (outputs_of (other n))) }
    kept n (More outs) is = record { rest = []; is = ap outputs_of (k.goes_on n outs is) ∙ sym (ap outputs_of is) ∙ sym (append-nil (outputs_of (other n))) }
    kept n (Undefined outs kind at) is =
        let p = k.undefined n outs kind at is in
        record { rest = p.rest; is = p.is ∙ ap (λ l. l ++ p.rest) (sym (ap outputs_of is)) }
