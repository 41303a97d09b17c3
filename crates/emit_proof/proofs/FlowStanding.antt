-- Items stand in the list whose items they are.
use Rattle.std.proofs.Common.{inl, inr, refl}
use Rattle.acc_code.specs.AccTree.{Item, Op, If, Loop, Switch, Case, Clear, Call, Helper, Break, Continue, Return, ItemList, end, item}
use Rattle.acc_code.specs.Emittable.{Throughout, Within}
use Rattle.emit_proof.specs.Calls.{StandsIn, StandsWithin}

module _ (C : Item → Type 0) where
  mutual
    pub throughout : (xs : ItemList) → ((y : Item) → StandsIn y xs → C y) → Throughout C xs
    throughout end f = tt
    throughout (item x xs) f = (f x (inl refl), within x (λ y s. f y (inr (inl s))), throughout xs (λ y s. f y (inr (inr s))))

    within : (x : Item) → ((y : Item) → StandsWithin y x → C y) → Within C x
    within (Op o m) f = tt
    within (If test hit miss) f = (throughout hit (λ y s. f y (inl s)), throughout miss (λ y s. f y (inr s)))
    within (Loop before body third last) f = (throughout before (λ y s. f y (inl s)), throughout body (λ y s. f y (inr (inl s))), throughout third (λ y s. f y (inr (inr s))))
    within (Switch labels body) f = throughout body f
    within (Case n) f = tt
    within (Clear v from) f = tt
    within (Call g) f = tt
    within (Helper name) f = tt
    within Break f = tt
    within Continue f = tt
    within Return f = tt
