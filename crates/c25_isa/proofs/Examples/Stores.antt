-- Steps that store into data memory, push, pop, take, put or change a register, computed.
use Rattle.std.specs.Prelude.{◌==◌, false, if◌then◌else◌, [], ◌∷◌}
use Rattle.std.proofs.Common.{◌≡◌, refl}
use Rattle.word_base.specs.declared.outcome.Ending.TheVariants as ending
use Rattle.c25_isa.specs.State.{write}
use Rattle.c25_isa.specs.Step.{Ran, Put, Over, step}
use Rattle.c25_isa.specs.MachineRun.{Ended, machine_run}
use Rattle.c25_isa.proofs.Examples.States.{at, registers, words, board}

-- the accumulator, shifted; the word goes to the old register's address, which then changes
sacl_unshifted : step (at 0x6000 0) ≡ Ran (record (at 0x6000 0) { pc = 17; ram = write words 0x300 0x5678 })
sacl_unshifted = refl

sacl_last_shift : step (at 0x677f 0) ≡ Ran (record (at 0x677f 0) { pc = 17; ram = write words 0x37f 0x3c00 })
sacl_last_shift = refl

sacl_then_next : step (at 0x629b 0) ≡ Ran (record (at 0x629b 0) { ar = write registers 1 0x3ff; arp = 3; pc = 17; ram = write words 0x400 0x59e0 })
sacl_then_next = refl

sach_unshifted : step (at 0x6800 0) ≡ Ran (record (at 0x6800 0) { pc = 17; ram = write words 0x300 0x1234 })
sach_unshifted = refl

sach_last_shift : step (at 0x6fa0 0) ≡ Ran (record (at 0x6fa0 0) { ar = write registers 1 0x401; pc = 17; ram = write words 0x400 0x1a2b })
sach_last_shift = refl

sach_drops_bits : step (record (at 0x6980 0) { acc = 0xc0008000 }) ≡ Ran (record (at 0x6980 0) { acc = 0xc0008000; ar = write registers 1 0x400; pc = 17; ram = write words 0x400 0x8001 })
sach_drops_bits = refl

-- address registers
sar_ar0 : step (at 0x7001 0) ≡ Ran (record (at 0x7001 0) { pc = 17; ram = write words 0x301 0x300 })
sar_ar0 = refl

sar_ar7 : step (at 0x77ef 0) ≡ Ran (record (at 0x77ef 0) { ar = write registers 1 0x700; arp = 7; pc = 17; ram = write words 0x400 0xa00 })
sar_ar7 = refl

sar_current_register : step (at 0x7180 0) ≡ Ran (record (at 0x7180 0) { ar = write registers 1 0x400; pc = 17; ram = write words 0x400 0x400 })
sar_current_register = refl

-- the hardware stack, its top first
pshd_direct : step (at 0x5405 0) ≡ Ran (record (at 0x5405 0) { pc = 17; stack = 0x305 ∷ 0xaaaa ∷ 0xbbbb ∷ [] })
pshd_direct = refl

pshd_then_next : step (at 0x54a8 0) ≡ Ran (record (at 0x54a8 0) { ar = write registers 1 0x401; arp = 0; pc = 17; stack = 0x400 ∷ 0xaaaa ∷ 0xbbbb ∷ [] })
pshd_then_next = refl

pshd_eighth_word : step (record (at 0x5400 0) { stack = 1 ∷ 2 ∷ 3 ∷ 4 ∷ 5 ∷ 6 ∷ 7 ∷ [] }) ≡ Ran (record (at 0x5400 0) { pc = 17; stack = 0x300 ∷ 1 ∷ 2 ∷ 3 ∷ 4 ∷ 5 ∷ 6 ∷ 7 ∷ [] })
pshd_eighth_word = refl

popd_direct : step (at 0x7a05 0) ≡ Ran (record (at 0x7a05 0) { pc = 17; stack = 0xbbbb ∷ []; ram = write words 0x305 0xaaaa })
popd_direct = refl

popd_last_word : step (record (at 0x7ad0 0) { stack = 0xffff ∷ [] }) ≡ Ran (record (at 0x7ad0 0) { ar = write registers 1 0x100; pc = 17; stack = []; ram = write words 0x400 0xffff })
popd_last_word = refl

-- outputs
out_first_port : step (at 0xe000 0) ≡ Put (0, 0x300) (record (at 0xe000 0) { pc = 17 })
out_first_port = refl

out_last_port : step (at 0xefd8 0) ≡ Put (15, 0x400) (record (at 0xefd8 0) { ar = write registers 1 0x100; arp = 0; pc = 17 })
out_last_port = refl

-- changes of registers without an access
mar_stays : step (at 0x5580 0) ≡ Ran (record (at 0x5580 0) { ar = write registers 1 0x400; pc = 17 })
mar_stays = refl

mar_down : step (record (at 0x5590 0) { ar = λ n. 0 }) ≡ Ran (record (at 0x5590 0) { ar = write (λ n. 0) 1 0xffff; pc = 17 })
mar_down = refl

mar_up : step (record (at 0x55a0 0) { ar = λ n. 0xffff }) ≡ Ran (record (at 0x55a0 0) { ar = write (λ n. 0xffff) 1 0; pc = 17 })
mar_up = refl

mar_less_index : step (at 0x55d0 0) ≡ Ran (record (at 0x55d0 0) { ar = write registers 1 0x100; pc = 17 })
mar_less_index = refl

mar_below_zero : step (record (at 0x55d0 0) { ar = write registers 1 0x2ff }) ≡ Ran (record (at 0x55d0 0) { ar = write (write registers 1 0x2ff) 1 0xffff; pc = 17 })
mar_below_zero = refl

mar_by_index : step (record (at 0x55e0 0) { arp = 0 }) ≡ Ran (record (at 0x55e0 0) { ar = write registers 0 0x600; arp = 0; pc = 17 })
mar_by_index = refl

mar_next_is_ar0 : step (at 0x5588 0) ≡ Ran (record (at 0x5588 0) { ar = write registers 1 0x400; arp = 0; pc = 17 })
mar_next_is_ar0 = refl

mar_next_is_ar7 : step (at 0x55af 0) ≡ Ran (record (at 0x55af 0) { ar = write registers 1 0x401; arp = 7; pc = 17 })
mar_next_is_ar7 = refl

-- inputs: the first word that the port has left
in_last_port : step (record (at 0x8fa0 0) { input = λ port. 0x8000 ∷ 2 ∷ [] }) ≡ Ran (record (at 0x8fa0 0) { ar = write registers 1 0x401; pc = 17; ram = write words 0x400 0x8000; input = λ port. if port == 15 then 2 ∷ [] else 0x8000 ∷ 2 ∷ [] })
in_last_port = refl

in_last_word : step (record (at 0x8005 0) { input = λ port. 7 ∷ [] }) ≡ Ran (record (at 0x8005 0) { pc = 17; ram = write words 0x305 7; input = λ port. if port == 0 then [] else 7 ∷ [] })
in_last_word = refl

-- where none is left the run ends, and the register stays
in_of_nothing : step (at 0x83a0 0) ≡ Over (ending.InputEnded 3)
in_of_nothing = refl

in_of_nothing_runs : machine_run (board false (0xc806 ∷ 0x8000 ∷ 0x8000 ∷ [])) (λ port. if port == 0 then 1 ∷ [] else 2 ∷ []) 3 ≡ Ended [] (ending.InputEnded 0)
in_of_nothing_runs = refl
