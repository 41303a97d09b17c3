use Rattle.std.proofs.Common.{rules, ◌≡◌, ◌∷◌, ◌++◌, [], length, ap, sym, subst, arith, length-append}
use Rattle.std.proofs.lemmas.Result.{err_from_is_err_and}
use Rattle.lay_cert.specs.FrameReading.{HasReadFrames}
use Rattle.lay_cert.proofs.Readers.{read_few}
use Rattle.lay_cert.proofs.reading.read_frames.Goals as goal

pub returns-in_err-reader : goal.returns-in_err-reader
returns-in_err-reader c =
    let p = err_from_is_err_and c.from_residual.result c.from_residual.ensures.1 in
    rw (p.1, p.2) c.in_err-reader.ensures.read

pub loop-frames-init : goal.loop-frames-init
loop-frames-init c =
    let none : c.new-frames.result.items ≡ [] = c.new-frames.ensures.items in
    subst (λ fs. HasReadFrames c.args.bytes.now fs c.in_ok-reader.reader) (sym none) c.in_ok-reader.ensures.read

pub returns-in_err-frame : goal.returns-in_err-frame
returns-in_err-frame c =
    let p = err_from_is_err_and c.from_residual-in_err-frame.result c.from_residual-in_err-frame.ensures.1 in
    rw (p.1, p.2) (c.in_err-frame.ensures.read c.args.bytes.now c.loop-frames.frames.items c.loop-frames.invariant)

pub loop-frames-smaller : goal.loop-frames-smaller
loop-frames-smaller c =
    let read = rw c.in-Some.is at c.in_ok-frame.ensures.read c.args.bytes.now c.loop-frames.frames.items c.loop-frames.invariant in
    let few = read_few c.args.bytes.now _ _ read in
    let pushed : c.push.new.self.items ≡ c.loop-frames.frames.items ++ c.in-Some.frame ∷ [] = search rules in
    omega (arith, few, read.counted, ap length pushed, length-append c.loop-frames.frames.items (c.in-Some.frame ∷ []))

pub loop-frames-preserved : goal.loop-frames-preserved
loop-frames-preserved c =
    let read = rw c.in-Some.is at c.in_ok-frame.ensures.read c.args.bytes.now c.loop-frames.frames.items c.loop-frames.invariant in
    let pushed : c.push.new.self.items ≡ c.loop-frames.frames.items ++ c.in-Some.frame ∷ [] = search rules in
    subst (λ fs. HasReadFrames c.args.bytes.now fs c.next.new.self) (sym pushed) read

pub returns : goal.returns
returns c = rw c.in_default.is at c.in_ok-frame.ensures.read c.args.bytes.now c.loop-frames.frames.items c.loop-frames.invariant
