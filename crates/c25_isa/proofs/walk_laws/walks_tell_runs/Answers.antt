use Rattle.c25_isa.proofs.StretchCode.{walk_tells, range_is_entered}
use Rattle.c25_isa.proofs.DirectCode.{direct_tells, walk_lists}
use Rattle.c25_isa.proofs.FrameWays.{frame_tells}
use Rattle.c25_isa.proofs.walk_laws.walks_tell_runs.Goals as goal

pub returns : goal.returns
returns c = record { lists = walk_lists; tells = walk_tells; first = range_is_entered; direct = direct_tells; frame = frame_tells }
