-- What a command meets and what it leaves: the shelf and the sink before calls and behind them.
use Rattle.std.specs.Prelude.{Bool}
use Rattle.cc_shelf.specs.Stock.{Stock}
use Rattle.cc_shelf.specs.Output.{Output}

-- a shelf before calls and behind them, and whether it tells its files
pub record Shelves : Type 0 where
  pub tells : Bool
  pub before : Stock
  pub now : Stock

abbrev pub shelves : Bool → Stock → Stock → Shelves
shelves tells before now = record { tells = tells; before = before; now = now }

-- a sink before calls and behind them, and whether it tells what was put
pub record Sinks : Type 0 where
  pub tells : Bool
  pub before : Output
  pub now : Output

abbrev pub sinks : Bool → Output → Output → Sinks
sinks tells before now = record { tells = tells; before = before; now = now }
