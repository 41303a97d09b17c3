use Rattle.std.proofs.Common.{◌≡◌, ◌++◌, map, length}
use Rattle.c_tree.specs.View.{object_of}
use Rattle.c25_code.specs.Items.{plain_items}
use Rattle.frame_emit.specs.Startup.{fillings_code}
use Rattle.frame_emit.proofs.initials.push_fillings.Given as goal

abbrev pub invariant-loop-object : goal.invariant-loop-object
invariant-loop-object l =
    l.initial.code ++ plain_items (fillings_code l.fn.statics l.fn.statics (map object_of l.fn.objects))
    ≡ l.code ++ plain_items (fillings_code l.fn.statics l.addresses (map object_of l.rest))

abbrev pub decreases-loop-object : goal.decreases-loop-object
decreases-loop-object l = length l.rest
