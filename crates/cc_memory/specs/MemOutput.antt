-- What a sink in memory tells.
use Rattle.cc_shelf.specs.Output.{Output}
use Rattle.cc_memory.specs.Calls.{are_past}
use Rattle.cc_memory.specs.declared.mem_sink.MemSink.{MemSink}

abbrev pub output_of : MemSink → Output
output_of s = record { bytes = s.bytes.items; calls = s.calls; faults = s.faults; wants = s.wants; reliable = are_past s.fail_at.items s.calls }
