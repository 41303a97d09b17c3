-- What is kept of what is kept is kept.
use Rattle.std.proofs.Common.{◌≡◌, refl, sym, ap, ◌∙◌, subst, [], ◌++◌, arith, append-nil, append_assoc}
use Rattle.word_base.specs.Ports.{Outputs, Prefix}
use Rattle.ir_semantics.specs.Keeps.{WorkOutcome, Ended, More, Undefined, outputs_of, Keeps}

whole : (outs : Outputs) → Prefix outs outs
whole outs = record { rest = []; is = sym (append-nil outs) }

longer : (xs ys zs : Outputs) → Prefix xs ys → Prefix ys zs → Prefix xs zs
longer xs ys zs h k = record { rest = h.rest ++ k.rest; is = k.is ∙ ap (λ l. l ++ k.rest) h.is ∙ append_assoc xs h.rest k.rest }

same_more : (a b : Outputs) → More a ≡ More b → a ≡ b
same_more a b e = cc

same_undefined : (a b : Outputs) → Undefined a ≡ Undefined b → a ≡ b
same_undefined a b e = cc

pub kept_of_itself : (x : WorkOutcome) → Keeps x x
kept_of_itself x = record {
  ended = λ outs ending work is. (work, omega arith, is);
  more = λ outs is. is;
  prefix = λ outs is. subst (λ o. Prefix outs o) (sym (ap outputs_of is)) (whole outs);
}

-- the outputs of what is kept begin with those before
kept_outputs : (y z : WorkOutcome) → Keeps y z → Prefix (outputs_of y) (outputs_of z)
kept_outputs (Ended outs ending work) z h = let k = h.ended outs ending work refl in subst (λ o. Prefix outs o) (sym (ap outputs_of k.2)) (whole outs)
kept_outputs (More outs) z h = subst (λ o. Prefix outs o) (sym (ap outputs_of (h.more outs refl))) (whole outs)
kept_outputs (Undefined outs) z h = h.prefix outs refl

pub kept_of_kept : (x y z : WorkOutcome) → Keeps x y → Keeps y z → Keeps x z
kept_of_kept x y z h k = record {
  ended = λ outs ending work is.
      let a = h.ended outs ending work is in
      let b = k.ended outs ending a.0 a.2 in
      (b.0, omega (arith, a.1, b.1), b.2);
  more = λ outs is. k.more outs (h.more outs is);
  prefix = λ outs is. longer outs (outputs_of y) (outputs_of z) (h.prefix outs is) (kept_outputs y z k);
}
