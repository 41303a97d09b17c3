-- Items that the function may have, in the lists within them.
use Rattle.std.proofs.Common.{Bool, true, false, List}
use Rattle.acc_code.specs.declared.item.CaseLabel.{CaseLabel}
use Rattle.acc_code.specs.declared.operation.Test.{Test}
use Rattle.acc_code.specs.AccTree.{Item, If, Loop, Switch, ItemList, item}
use Rattle.emit_proof.proofs.Grounds.{Ground, Suits}

module _ (g : Ground) where
  pub suits_rest : (x : Item) (xs : ItemList) → Suits g (item x xs) → Suits g xs
  suits_rest x xs s = record { refers = s.refers.2; breaks = s.breaks; continues = s.continues; cases = s.cases; placed = s.placed.1; stands = s.stands.2 }

  pub suits_hit : (t : Test) (hit miss xs : ItemList) → Suits g (item (If t hit miss) xs) → Suits g hit
  suits_hit t hit miss xs s = record { refers = s.refers.1.0; breaks = s.breaks; continues = s.continues; cases = false; placed = s.placed.0.0; stands = s.stands.1.0 }

  pub suits_miss : (t : Test) (hit miss xs : ItemList) → Suits g (item (If t hit miss) xs) → Suits g miss
  suits_miss t hit miss xs s = record { refers = s.refers.1.1; breaks = s.breaks; continues = s.continues; cases = false; placed = s.placed.0.1; stands = s.stands.1.1 }

  module _ (before body third : ItemList) (last : Bool) (xs : ItemList) (s : Suits g (item (Loop before body third last) xs)) where
    pub suits_before : Suits g before
    suits_before = record { refers = s.refers.1.0; breaks = true; continues = false; cases = false; placed = s.placed.0.0; stands = s.stands.1.0 }

    pub suits_body : Suits g body
    suits_body = record { refers = s.refers.1.1; breaks = true; continues = true; cases = false; placed = s.placed.0.1; stands = s.stands.1.1 }

    pub suits_third : Suits g third
    suits_third = record { refers = s.refers.1.2; breaks = true; continues = false; cases = false; placed = s.placed.0.2; stands = s.stands.1.2 }

  pub suits_switch : (cs : List CaseLabel) (body xs : ItemList) → Suits g (item (Switch cs body) xs) → Suits g body
  suits_switch cs body xs s = record { refers = s.refers.1; breaks = true; continues = s.continues; cases = true; placed = s.placed.0.2; stands = s.stands.1 }
