-- The parts of a summary behind one another.
use Rattle.std.proofs.Common.{◌≡◌, ◌∙◌, ◌++◌, ℕ, List, ap, append_assoc}

pub summed : (t t1 t2 t3 t4 t5 t6 t7 t8 a an b bn d dn e w f g h : List ℕ) → t1 ≡ t ++ (a ++ an) → t2 ≡ t1 ++ (b ++ bn) → t3 ≡ t2 ++ (d ++ dn) → t4 ≡ t3 ++ e → t5 ≡ t4 ++ w → t6 ≡ t5 ++ f → t7 ≡ t6 ++ g → t8 ≡ t7 ++ h
    → t8 ≡ t ++ ((a ++ (an ++ (b ++ (bn ++ (d ++ (dn ++ (e ++ (w ++ (f ++ g))))))))) ++ h)
summed t t1 t2 t3 t4 t5 t6 t7 t8 a an b bn d dn e w f g h p1 p2 p3 p4 p5 p6 p7 p8 =
    p8 ∙ ap (λ x. x ++ h) (p7 ∙ ap (λ x. x ++ g) (p6 ∙ ap (λ x. x ++ f) (p5 ∙ ap (λ x. x ++ w) (p4 ∙ ap (λ x. x ++ e) (p3 ∙ ap (λ x. x ++ (d ++ dn)) (p2 ∙ ap (λ x. x ++ (b ++ bn)) p1))))))
    ∙ simp append_assoc
