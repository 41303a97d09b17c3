use Rattle.std.proofs.Common.{[], ◌∷◌, ◌++◌, refl, arith}
use Rattle.std.proofs.lemmas.Result.{err_from_is_err_and}
use Rattle.cc_check.proofs.LineLemmas.{none_checked}
use Rattle.cc_check.proofs.checking.check_frames.Goals as goal

pub returns-in_err-reader : goal.returns-in_err-reader
returns-in_err-reader c =
    let p = err_from_is_err_and c.from_residual-in_err-reader.result c.from_residual-in_err-reader.ensures.1 in
    rw (p.1, p.2) c.in_err-reader.ensures.read

pub loop-checked-init : goal.loop-checked-init
loop-checked-init c = record {
  reads = record {
    frames = [];
    read = c.in_ok-reader.ensures.read;
    checked = none_checked c.args.image.now _ _ _ c.new-3.ensures.items refl c.requires.none;
    marked = c.requires.marks;
  };
  walks = c.in_ok-walks.ensures;
}

pub returns-in_err-frame : goal.returns-in_err-frame
returns-in_err-frame c =
    let i = c.loop-checked.invariant.reads in
    let p = err_from_is_err_and c.from_residual-in_err-frame.result c.from_residual-in_err-frame.ensures.1 in
    rw (p.1, p.2) (c.in_err-frame.ensures.read c.args.certificate.now i.frames i.read)

pub loop-checked-smaller : goal.loop-checked-smaller
loop-checked-smaller c =
    let more = rw c.in-Some.is at c.in_ok-frame.ensures.further in
    omega (arith, more.0, more.1)

pub loop-checked-preserved : goal.loop-checked-preserved
loop-checked-preserved c =
    let i = c.loop-checked.invariant.reads in
    let read = rw c.in-Some.is at c.in_ok-frame.ensures.read c.args.certificate.now i.frames i.read in
    record {
      reads = record {
        frames = i.frames ++ c.in-Some.frame ∷ [];
        read = read;
        checked = c.in_ok-add_frame.ensures.checked i.frames i.checked;
        marked = omega (arith, i.marked);
      };
      walks = c.in_ok-add_frame.ensures.kept;
    }

pub returns : goal.returns
returns c =
    let i = c.loop-checked.invariant.reads in
    let end = rw c.in_default.is at c.in_ok-frame.ensures.read c.args.certificate.now i.frames i.read in
    record { frames = i.frames; reads = end; checked = i.checked }
