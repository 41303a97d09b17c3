use Rattle.frame_layouts.proofs.Framing.{same_frames, same_jobs, each_frame, all_framed, all_sequenced}
use Rattle.frame_layouts.proofs.laws.frames_are_arranged.Goals as goal

pub returns-clause-same : goal.returns-clause-same
returns-clause-same c = same_frames

pub returns-clause-each : goal.returns-clause-each
returns-clause-each c = λ fs jobs plans are names based. each_frame fs jobs plans c.answers_arrange.ensures.answer are names based

pub returns-clause-all : goal.returns-clause-all
returns-clause-all c = all_framed

pub returns-clause-sequences : goal.returns-clause-sequences
returns-clause-sequences c = all_sequenced

pub returns-clause-jobs : goal.returns-clause-jobs
returns-clause-jobs c = same_jobs
