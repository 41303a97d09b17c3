-- Startups and frames by hand.
use Rattle.std.proofs.Common.{◌≡◌, ℕ, [], ◌∷◌, List, Some, None, refl, codes}
use Rattle.c_tree.specs.declared.program.Base.TheVariants.{Int}
use Rattle.c_tree.specs.declared.program.Initial.{Initial}
use Rattle.c_tree.specs.declared.program.Initial.TheVariants.{Word, Address}
use Rattle.c_tree.specs.declared.program.ScalarType.{ScalarType}
use Rattle.c_tree.specs.TypedTree.{ObjectTree}
use Rattle.c25_isa.specs.declared.operand.Change.TheVariants.{Stay, Up}
use Rattle.c25_isa.specs.declared.operand.Operand.TheVariants.{Indirect as Through}
use Rattle.c25_isa.specs.declared.instruction.Instr.TheVariants.{Rovm, Spm, Mar, Lrlk, Lack, Lalk, Sacl, Sach, Subk, Rsxm, Ssxm, Idle}
use Rattle.c25_isa.specs.declared.instruction.JumpOp.TheVariants.{Bnz}
use Rattle.c25_isa.specs.declared.piece.PieceItem.TheVariants.{Do, Mark, Jump, CallTo}
use Rattle.c25_code.specs.Items.{no_change}
use Rattle.frame_emit.specs.Frames.{place, scalar_places}
use Rattle.frame_emit.specs.Startup.{startup_piece, up_to_last}

abbrev int : ScalarType
int = record { base = Int; stars = 0 }

abbrev object : ℕ → List Initial → ObjectTree
object n list = record { name = []; length = n; kind = int; initial = list }

-- no static object
bare : (startup_piece [] []).items ≡ Do Rovm ∷ Do Spm ∷ Do Ssxm ∷ CallTo (codes "main") no_change ∷ Do Idle ∷ []
bare = refl

-- int a[4] = {7, 7, 0x1234, 0}; int *p = a + 1; int b[2];
three : (startup_piece (784 ∷ 789 ∷ 791 ∷ []) (object 4 (Word 7 ∷ Word 7 ∷ Word 0x1234 ∷ Word 0 ∷ []) ∷ object 1 (Address 0 1 ∷ []) ∷ object 2 [] ∷ [])).items ≡
    Do Rovm ∷ Do Spm ∷ Do (Mar (record { change = Stay; next = Some 1 })) ∷ Do (Lrlk 1 784) ∷ Do Rsxm ∷ Do (Lalk 0 10)
    ∷ Mark 0 ∷ Do (Sach 0 (Through (record { change = Up; next = None }))) ∷ Do (Subk 1) ∷ Jump Bnz 0 no_change
    ∷ Do (Lrlk 1 784) ∷ Do (Lack 7) ∷ Do (Sacl 0 (Through (record { change = Up; next = None }))) ∷ Do (Sacl 0 (Through (record { change = Up; next = None })))
    ∷ Do (Lalk 0 0x1234) ∷ Do (Sacl 0 (Through (record { change = Up; next = None })))
    ∷ Do (Lrlk 1 789) ∷ Do (Lalk 0 785) ∷ Do (Sacl 0 (Through (record { change = Up; next = None })))
    ∷ Do Ssxm ∷ CallTo (codes "main") no_change ∷ Do Idle ∷ []
three = refl

zeros : up_to_last (0 ∷ 3 ∷ 0 ∷ 0 ∷ []) ≡ 0 ∷ 3 ∷ []
zeros = refl

-- two registers over five scalars, and one scalar that stands nowhere
spread : scalar_places ((1 ∷ 0 ∷ []) ∷ (4 ∷ 2 ∷ 3 ∷ []) ∷ []) (0x320 ∷ 0x322 ∷ []) 0 6 ≡
    place 2 0x321 ∷ place 2 0x320 ∷ place 3 0x323 ∷ place 3 0x324 ∷ place 3 0x322 ∷ place 2 0 ∷ []
spread = refl
