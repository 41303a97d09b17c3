use Rattle.std.proofs.Common.{◌≡◌, ◌∙◌, ◌∷◌, ◌++◌, [], sym, ap, rules, append-nil}
use Rattle.std.specs.Prelude.{codes, decimal}
use Rattle.std.specs.List.{concat}
use Rattle.text_base.specs.Hex.{hex4}
use Rattle.c25_isa.specs.State.{State}
use Rattle.c25_sim.specs.MachineView.{state_of}
use Rattle.c25_debug.specs.Looks.{hex8, spaced, address_registers, registers_line}
use Rattle.c25_debug.proofs.Shown.{one_part, fed, eight_words}
use Rattle.c25_debug.proofs.lines.push_registers.Goals as goal

pub returns : goal.returns
returns c =
    let p1 = codes "acc " in
    let t1 : c.extend_from_slice.new.self.items ≡ c.args.text.now.items ++ concat (p1 ∷ []) = one_part c.args.text.now.items (c.args.text.now.items) (c.extend_from_slice.new.self.items) p1 [] (sym (append-nil c.args.text.now.items)) (c.in_ok-extend_from_slice.ensures.items) in
    let p2 = hex8 c.registers-registers.result.acc in
    let t2 : c.push_hex8.new.text.items ≡ c.args.text.now.items ++ concat (p1 ∷ p2 ∷ []) = one_part c.args.text.now.items (c.extend_from_slice.new.self.items) (c.push_hex8.new.text.items) p2 (p1 ∷ []) (t1) (c.in_ok-push_hex8.ensures) in
    let p3 = codes " t " in
    let t3 : c.extend_from_slice-2.new.self.items ≡ c.args.text.now.items ++ concat (p1 ∷ p2 ∷ p3 ∷ []) = one_part c.args.text.now.items (c.push_hex8.new.text.items) (c.extend_from_slice-2.new.self.items) p3 (p1 ∷ p2 ∷ []) (t2) (c.in_ok-extend_from_slice-2.ensures.items) in
    let p4 = hex4 c.registers-registers.result.t in
    let t4 : c.push_hex.new.text.items ≡ c.args.text.now.items ++ concat (p1 ∷ p2 ∷ p3 ∷ p4 ∷ []) = one_part c.args.text.now.items (c.extend_from_slice-2.new.self.items) (c.push_hex.new.text.items) p4 (p1 ∷ p2 ∷ p3 ∷ []) (t3) (c.in_ok-push_hex.ensures.put) in
    let p5 = codes " p " in
    let t5 : c.extend_from_slice-3.new.self.items ≡ c.args.text.now.items ++ concat (p1 ∷ p2 ∷ p3 ∷ p4 ∷ p5 ∷ []) = one_part c.args.text.now.items (c.push_hex.new.text.items) (c.extend_from_slice-3.new.self.items) p5 (p1 ∷ p2 ∷ p3 ∷ p4 ∷ []) (t4) (c.in_ok-extend_from_slice-3.ensures.items) in
    let p6 = hex8 c.registers-registers.result.p in
    let t6 : c.push_hex8-2.new.text.items ≡ c.args.text.now.items ++ concat (p1 ∷ p2 ∷ p3 ∷ p4 ∷ p5 ∷ p6 ∷ []) = one_part c.args.text.now.items (c.extend_from_slice-3.new.self.items) (c.push_hex8-2.new.text.items) p6 (p1 ∷ p2 ∷ p3 ∷ p4 ∷ p5 ∷ []) (t5) (c.in_ok-push_hex8-2.ensures) in
    let p7 = codes " ar" in
    let t7 : c.extend_from_slice-4.new.self.items ≡ c.args.text.now.items ++ concat (p1 ∷ p2 ∷ p3 ∷ p4 ∷ p5 ∷ p6 ∷ p7 ∷ []) = one_part c.args.text.now.items (c.push_hex8-2.new.text.items) (c.extend_from_slice-4.new.self.items) p7 (p1 ∷ p2 ∷ p3 ∷ p4 ∷ p5 ∷ p6 ∷ []) (t6) (c.in_ok-extend_from_slice-4.ensures.items) in
    let p8 = spaced c.registers-registers.result.ar in
    let t8 : c.push_spaced.new.text.items ≡ c.args.text.now.items ++ concat (p1 ∷ p2 ∷ p3 ∷ p4 ∷ p5 ∷ p6 ∷ p7 ∷ p8 ∷ []) = one_part c.args.text.now.items (c.extend_from_slice-4.new.self.items) (c.push_spaced.new.text.items) p8 (p1 ∷ p2 ∷ p3 ∷ p4 ∷ p5 ∷ p6 ∷ p7 ∷ []) (t7) (c.in_ok-push_spaced.ensures) in
    let p9 = codes " arp " in
    let t9 : c.extend_from_slice-5.new.self.items ≡ c.args.text.now.items ++ concat (p1 ∷ p2 ∷ p3 ∷ p4 ∷ p5 ∷ p6 ∷ p7 ∷ p8 ∷ p9 ∷ []) = one_part c.args.text.now.items (c.push_spaced.new.text.items) (c.extend_from_slice-5.new.self.items) p9 (p1 ∷ p2 ∷ p3 ∷ p4 ∷ p5 ∷ p6 ∷ p7 ∷ p8 ∷ []) (t8) (c.in_ok-extend_from_slice-5.ensures.items) in
    let p10 = decimal c.from.result in
    let t10 : c.push_decimal.new.text.items ≡ c.args.text.now.items ++ concat (p1 ∷ p2 ∷ p3 ∷ p4 ∷ p5 ∷ p6 ∷ p7 ∷ p8 ∷ p9 ∷ p10 ∷ []) = one_part c.args.text.now.items (c.extend_from_slice-5.new.self.items) (c.push_decimal.new.text.items) p10 (p1 ∷ p2 ∷ p3 ∷ p4 ∷ p5 ∷ p6 ∷ p7 ∷ p8 ∷ p9 ∷ []) (t9) (c.in_ok-push_decimal.ensures.put) in
    let p11 = codes " dp " in
    let t11 : c.extend_from_slice-6.new.self.items ≡ c.args.text.now.items ++ concat (p1 ∷ p2 ∷ p3 ∷ p4 ∷ p5 ∷ p6 ∷ p7 ∷ p8 ∷ p9 ∷ p10 ∷ p11 ∷ []) = one_part c.args.text.now.items (c.push_decimal.new.text.items) (c.extend_from_slice-6.new.self.items) p11 (p1 ∷ p2 ∷ p3 ∷ p4 ∷ p5 ∷ p6 ∷ p7 ∷ p8 ∷ p9 ∷ p10 ∷ []) (t10) (c.in_ok-extend_from_slice-6.ensures.items) in
    let p12 = decimal c.from-2.result in
    let t12 : c.push_decimal-2.new.text.items ≡ c.args.text.now.items ++ concat (p1 ∷ p2 ∷ p3 ∷ p4 ∷ p5 ∷ p6 ∷ p7 ∷ p8 ∷ p9 ∷ p10 ∷ p11 ∷ p12 ∷ []) = one_part c.args.text.now.items (c.extend_from_slice-6.new.self.items) (c.push_decimal-2.new.text.items) p12 (p1 ∷ p2 ∷ p3 ∷ p4 ∷ p5 ∷ p6 ∷ p7 ∷ p8 ∷ p9 ∷ p10 ∷ p11 ∷ []) (t11) (c.in_ok-push_decimal-2.ensures.put) in
    let p13 = codes " pc " in
    let t13 : c.extend_from_slice-7.new.self.items ≡ c.args.text.now.items ++ concat (p1 ∷ p2 ∷ p3 ∷ p4 ∷ p5 ∷ p6 ∷ p7 ∷ p8 ∷ p9 ∷ p10 ∷ p11 ∷ p12 ∷ p13 ∷ []) = one_part c.args.text.now.items (c.push_decimal-2.new.text.items) (c.extend_from_slice-7.new.self.items) p13 (p1 ∷ p2 ∷ p3 ∷ p4 ∷ p5 ∷ p6 ∷ p7 ∷ p8 ∷ p9 ∷ p10 ∷ p11 ∷ p12 ∷ []) (t12) (c.in_ok-extend_from_slice-7.ensures.items) in
    let p14 = hex4 c.pc.result in
    let t14 : c.push_hex-2.new.text.items ≡ c.args.text.now.items ++ concat (p1 ∷ p2 ∷ p3 ∷ p4 ∷ p5 ∷ p6 ∷ p7 ∷ p8 ∷ p9 ∷ p10 ∷ p11 ∷ p12 ∷ p13 ∷ p14 ∷ []) = one_part c.args.text.now.items (c.extend_from_slice-7.new.self.items) (c.push_hex-2.new.text.items) p14 (p1 ∷ p2 ∷ p3 ∷ p4 ∷ p5 ∷ p6 ∷ p7 ∷ p8 ∷ p9 ∷ p10 ∷ p11 ∷ p12 ∷ p13 ∷ []) (t13) (c.in_ok-push_hex-2.ensures.put) in
    let s : State = state_of c.args.machine.now in
    let words : c.registers-registers.result.ar ≡ address_registers s = eight_words c.registers-registers.result.ar (search rules) ∙ ap (λ f. f 0 ∷ f 1 ∷ f 2 ∷ f 3 ∷ f 4 ∷ f 5 ∷ f 6 ∷ f 7 ∷ []) c.registers-registers.ensures.ar in
    let line = rw (c.registers-registers.ensures.acc, c.registers-registers.ensures.t, c.registers-registers.ensures.p, words, c.from.ensures, c.from-2.ensures, c.registers-registers.ensures.arp, c.registers-registers.ensures.dp, c.pc.ensures) at t14 in
    fed c.args.text.now.items (c.push_hex-2.new.text.items) c.push.new.self.items (registers_line s) line c.in_ok-push.ensures.items
