use Rattle.std.proofs.Common.{◌≡◌, ◌∙◌, ◌∷◌, ◌++◌, [], refl, sym, append-nil, append_assoc}
use Rattle.std.specs.Prelude.{codes, decimal}
use Rattle.std.specs.List.{concat}
use Rattle.text_base.specs.Hex.{hex4}
use Rattle.c25_debug.proofs.Shown.{one_part, fed}
use Rattle.c25_debug.proofs.lines.push_stopped.Goals as goal

pub returns : goal.returns
returns c =
    let p1 = codes "stopped " in
    let t1 : c.extend_from_slice.new.self.items ≡ c.args.text.now.items ++ concat (p1 ∷ []) = one_part c.args.text.now.items (c.args.text.now.items) (c.extend_from_slice.new.self.items) p1 [] (sym (append-nil c.args.text.now.items)) (c.in_ok-extend_from_slice.ensures.items) in
    let p2 = hex4 c.args.pc in
    let t2 : c.push_hex.new.text.items ≡ c.args.text.now.items ++ concat (p1 ∷ p2 ∷ []) = one_part c.args.text.now.items (c.extend_from_slice.new.self.items) (c.push_hex.new.text.items) p2 (p1 ∷ []) (t1) (c.in_ok-push_hex.ensures.put) in
    let p3 = codes " after " in
    let t3 : c.extend_from_slice-2.new.self.items ≡ c.args.text.now.items ++ concat (p1 ∷ p2 ∷ p3 ∷ []) = one_part c.args.text.now.items (c.push_hex.new.text.items) (c.extend_from_slice-2.new.self.items) p3 (p1 ∷ p2 ∷ []) (t2) (c.in_ok-extend_from_slice-2.ensures.items) in
    let p4 = decimal c.args.steps in
    let t4 : c.push_decimal.new.text.items ≡ c.args.text.now.items ++ concat (p1 ∷ p2 ∷ p3 ∷ p4 ∷ []) = one_part c.args.text.now.items (c.extend_from_slice-2.new.self.items) (c.push_decimal.new.text.items) p4 (p1 ∷ p2 ∷ p3 ∷ []) (t3) (c.in_ok-push_decimal.ensures.put) in
    let t5 = one_part c.args.text.now.items c.push_decimal.new.text.items (c.push_decimal.new.text.items ++ codes " steps") (codes " steps") (p1 ∷ p2 ∷ p3 ∷ p4 ∷ []) t4 refl in
    fed c.args.text.now.items (c.push_decimal.new.text.items ++ codes " steps") c.extend_from_slice-3.new.self.items (concat (p1 ∷ p2 ∷ p3 ∷ p4 ∷ codes " steps" ∷ [])) t5
    (c.in_ok-extend_from_slice-3.ensures.items ∙ sym (append_assoc c.push_decimal.new.text.items (codes " steps") (10 ∷ [])))
