-- What a shelf in memory tells.
use Rattle.cc_shelf.specs.Counts.{Counts}
use Rattle.cc_shelf.specs.Stock.{Stock}
use Rattle.cc_memory.specs.Held.{held}
use Rattle.cc_memory.specs.Calls.{calls_of, are_past}
use Rattle.cc_memory.specs.declared.mem_shelf.MemShelf.{MemShelf}

abbrev pub counts_of : MemShelf → Counts
counts_of s = record { fetch_faults = s.fetch_faults; store_faults = s.store_faults; store_wants = s.store_wants; bytes_read = s.read }

abbrev pub stock_of : MemShelf → Stock
stock_of s = record {
  files = held s.files.items;
  fetched = calls_of s.fetched.items;
  stored = calls_of s.stored.items;
  counts = counts_of s;
  reliable = are_past s.fail_at.items s.calls;
}
