-- Straight code and items behind items lead on wherever they stand.
use Rattle.std.proofs.Common.{◌≡◌, ℕ, ◌+◌, List, ◌++◌, length, subst, arith}
use Rattle.word_base.specs.Ports.{Outputs}
use Rattle.c25_isa.specs.declared.instruction.Instr.{Instr}
use Rattle.c25_isa.specs.declared.piece.PieceItem.{PieceItem}
use Rattle.c25_isa.specs.Leads.{Leads}
use Rattle.c25_isa.specs.Pieces.{items_size}
use Rattle.c25_isa.proofs.Leads.{leads_on}
use Rattle.c25_code.specs.Work.{Work, calm}
use Rattle.c25_code.specs.CodeRuns.{CodeRuns}
use Rattle.c25_code.specs.Items.{plain_items}
use Rattle.c25_code.specs.ItemRuns.{ItemsRun}
use Rattle.c25_code.proofs.Items.{items_size-append, items_front, items_back, straight_leads}

pub straight_runs : (code : List Instr) (w u : Work) (put : Outputs) → CodeRuns code w u put → ItemsRun (plain_items code) (length code) w u put
straight_runs code w u put g = record { by = λ program marks names pc at below. straight_leads program marks names code pc w u put at below g }

pub items_run_on : (a b : List PieceItem) (n m : ℕ) (w v u : Work) (p q : Outputs) → ItemsRun a n w v p → ItemsRun b m v u q → ItemsRun (a ++ b) (n + m) w u (p ++ q)
items_run_on a b n m w v u p q f g = record {
  by = λ program marks names pc at below.
      let end : pc + items_size a + items_size b ≡ pc + items_size (a ++ b) = omega (arith, items_size-append a b) in
      subst (λ k. Leads (n + m) (calm program pc w) (calm program k u) (p ++ q)) end (
      leads_on n m _ _ _ p q
      (f.by program marks names pc (items_front program marks names a b pc at) (omega (arith, below, end)))
      (g.by program marks names (pc + items_size a) (items_back program marks names a b pc at) (omega (arith, below, end))));
}
