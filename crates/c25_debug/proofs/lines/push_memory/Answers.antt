use Rattle.std.proofs.Common.{◌≡◌, ◌∙◌, ◌∷◌, ◌++◌, [], refl, ap, append_assoc}
use Rattle.text_base.specs.Hex.{hex4}
use Rattle.text_base.specs.Lines.{with_feed}
use Rattle.c25_isa.specs.State.{State}
use Rattle.c25_sim.specs.MachineView.{state_of}
use Rattle.c25_debug.specs.Looks.{memory_line, memory_text}
use Rattle.c25_debug.proofs.Shown.{memory_more}
use Rattle.c25_debug.proofs.lines.push_memory.Goals as goal

pub loop-i-preserved : goal.loop-i-preserved
loop-i-preserved c =
    let s : State = state_of c.args.machine.now in
    let at = c.loop-i.address in
    let one : c.push.new.self.items ≡ c.loop-i.text.items ++ (hex4 at ++ 32 ∷ []) = c.in_ok-push.ensures.items ∙ ap (λ t. t ++ 32 ∷ []) c.in_ok-push_hex.ensures.put ∙ append_assoc c.loop-i.text.items (hex4 at) (32 ∷ []) in
    let two : c.push_hex-in-loop-i.new.text.items ≡ c.loop-i.text.items ++ memory_line s.ram at =
    c.in_ok-push_hex-2.ensures.put
    ∙ ap (λ t. t ++ hex4 c.ram_word.result) one
    ∙ append_assoc c.loop-i.text.items (hex4 at ++ 32 ∷ []) (hex4 c.ram_word.result)
    ∙ ap (λ w. c.loop-i.text.items ++ ((hex4 at ++ 32 ∷ []) ++ hex4 w)) c.ram_word.ensures in
    let pushed : c.push-in-loop-i.new.self.items ≡ c.loop-i.text.items ++ with_feed (memory_line s.ram at) =
    c.in_ok-push-2.ensures.items ∙ ap (λ t. t ++ 10 ∷ []) two ∙ append_assoc c.loop-i.text.items (memory_line s.ram at) (10 ∷ []) in
    memory_more s.ram at _ c.args.count c.loop-i.i c.loop-i.text.items c.push-in-loop-i.new.self.items (c.args.text.now.items ++ memory_text s.ram c.args.at c.args.count) c.loop-i-test.true refl pushed c.loop-i.invariant
