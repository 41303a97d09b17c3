-- The board that a start in memory stands for.
use Rattle.c25_isa.specs.declared.start.Start as code
use Rattle.c25_isa.specs.State.{Start, words_at}

abbrev pub start_of : code.Start → Start
start_of s = record {
  acc = s.acc;
  t = s.t;
  p = s.p;
  ar = words_at s.ar;
  arp = s.arp;
  dp = s.dp;
  sxm = s.sxm;
  ovm = s.ovm;
  pm = s.pm;
  program = words_at s.program.items;
  ram = words_at s.ram.items;
}
