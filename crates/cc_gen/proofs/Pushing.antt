-- Texts that are put behind one another.
use Rattle.std.proofs.Common.{◌≡◌, ℕ, List, ◌++◌, ap, ◌∙◌, append_assoc}

pub four : (t t1 t2 t3 t4 a b c d : List ℕ) → t1 ≡ t ++ a → t2 ≡ t1 ++ b → t3 ≡ t2 ++ c → t4 ≡ t3 ++ d → t4 ≡ t ++ (a ++ (b ++ (c ++ d)))
four t t1 t2 t3 t4 a b c d p q r s =
    s ∙ ap (λ x. x ++ d) (r ∙ ap (λ x. x ++ c) (q ∙ ap (λ x. x ++ b) p)) ∙ (append_assoc ((t ++ a) ++ b) c d ∙ (append_assoc (t ++ a) b (c ++ d) ∙ append_assoc t a (b ++ (c ++ d))))

pub five : (t t1 t2 t3 t4 t5 a b c d e : List ℕ) → t1 ≡ t ++ a → t2 ≡ t1 ++ b → t3 ≡ t2 ++ c → t4 ≡ t3 ++ d → t5 ≡ t4 ++ e → t5 ≡ t ++ (a ++ (b ++ (c ++ (d ++ e))))
five t t1 t2 t3 t4 t5 a b c d e p q r s u =
    four t1 t2 t3 t4 t5 b c d e q r s u ∙ (ap (λ x. x ++ (b ++ (c ++ (d ++ e)))) p ∙ append_assoc t a (b ++ (c ++ (d ++ e))))
