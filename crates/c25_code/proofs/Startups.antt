-- Startups of items with marks arrive at their call.
use Rattle.std.proofs.Common.{◌≡◌, ℕ, suc, ◌+◌, ◌≤◌, true, List, [], ◌∷◌, Some, refl, ap, ◌∙◌, subst, cond, arith}
use Rattle.std.specs.Str.{bytes_eq}
use Rattle.std.proofs.lemmas.Slice.Eq.{bytes_eq-Decides}
use Rattle.word_base.specs.Ports.{Input}
use Rattle.c25_isa.specs.declared.instruction.Instr.TheVariants.{Idle}
use Rattle.c25_isa.specs.declared.piece.PieceItem.{PieceItem}
use Rattle.c25_isa.specs.declared.piece.PieceItem.TheVariants.{Do, CallTo}
use Rattle.c25_isa.specs.State.{Memory, Start}
use Rattle.c25_isa.specs.MachineRun.{reset}
use Rattle.c25_isa.specs.Step.{wrap16}
use Rattle.c25_isa.specs.Pieces.{Piece, items_size, ItemsAt, address_in}
use Rattle.c25_code.specs.Work.{Work, work_of}
use Rattle.c25_code.specs.Items.{no_change}
use Rattle.c25_code.specs.ItemRuns.{ItemsRun}
use Rattle.c25_code.specs.Links.{MarksDiffer, MarksAreFit, PieceIsFit, first_piece, address_of, marks_of, AllStand}
use Rattle.c25_code.specs.Startups.{startup_items}
use Rattle.c25_code.specs.Startups.{StartupArrives}
use Rattle.c25_code.proofs.Items.{items_size-append, items_front, items_back}
use Rattle.c25_code.proofs.Links.{differ-append, at_words_before}

-- what stands behind a startup's own items
abbrev end_of : List ℕ → List PieceItem
end_of main = CallTo main no_change ∷ Do Idle ∷ []

pub startup_marks_fit : (init : List PieceItem) (main : List ℕ) → MarksDiffer init → MarksAreFit (startup_items init main)
startup_marks_fit init main differ = (differ-append init (end_of main) differ tt (λ m u v. v), at_words_before init (end_of main) (omega arith) tt, omega arith)

-- the first piece stands at 0
pub first_stands : (program : Memory) (place : ℕ → ℕ) (p : Piece) (rest : List Piece) → place 0 ≡ 0 → PieceIsFit p → AllStand program place (p ∷ rest) → ItemsAt program (marks_of place (p ∷ rest) p.name) (address_of place (p ∷ rest)) 0 p.items × (items_size p.items ≤ 65536)
first_stands program place p rest begins fit stand =
    let mine : bytes_eq p.name p.name ≡ true = (bytes_eq-Decides p.name p.name).1 refl in
    let here = stand p.name p (ap (λ x. cond x (Some p) (first_piece rest p.name)) mine) fit in
    let zero_is : address_of place (p ∷ rest) p.name ≡ 0 = ap (λ x. wrap16 (cond x (place 0) (address_in (λ k. place (suc k)) rest p.name))) mine ∙ ap wrap16 begins in (
      subst (λ k. ItemsAt program (marks_of place (p ∷ rest) p.name) (address_of place (p ∷ rest)) k p.items) zero_is here.0,
      omega (arith, zero_is, here.1),
    )

pub startup_arrives : (b : Start) (input : Input) (marks : ℕ → ℕ) (names : List ℕ → ℕ) (init : List PieceItem) (main : List ℕ) (steps : ℕ) (work : Work)
    → ItemsAt b.program marks names 0 (startup_items init main) → items_size (startup_items init main) ≤ 65536 → ItemsRun init steps (work_of (reset b input)) work [] → StartupArrives b input (names main) steps work
startup_arrives b input marks names init main steps work at ends runs =
    let back = items_back b.program marks names init (end_of main) 2 at.1.1 in
    record {
      calms = (at.0, (at.1.0, tt));
      start = 2 + items_size init;
      leads = runs.by b.program marks names 2 (items_front b.program marks names init (end_of main) 2 at.1.1) (omega (arith, ends, items_size-append init (end_of main)));
      called = (back.0, (back.1.0, tt));
    }
