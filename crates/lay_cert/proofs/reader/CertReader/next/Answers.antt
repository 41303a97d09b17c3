use Rattle.std.proofs.Common.{◌+◌, ◌∷◌, ◌++◌, [], refl, ap, subst, sym, arith}
use Rattle.std.proofs.lemmas.Result.{err_from_is_err_and}
use Rattle.lay_cert.specs.FrameReading.{Reading, HasReadFrames}
use Rattle.lay_cert.proofs.Readers.{read_few, stands_at, one_read, some_read, last_whole}
use Rattle.lay_cert.proofs.reader.CertReader.next.Goals as goal

pub returns-in_err-name-clause-read : goal.returns-in_err-name-clause-read
returns-in_err-name-clause-read c = λ bytes fs h.
    let p = err_from_is_err_and c.from_residual.result c.from_residual.ensures.1 in
    let start = stands_at bytes fs _ _ c.duplicate-lines.result c.self.view_is c.duplicate-lines.ensures h in
    rw (p.1, p.2) (c.in_err-name.ensures.read bytes c.self.inside.steps fs start)

pub returns-in_err-read_end-clause-read : goal.returns-in_err-read_end-clause-read
returns-in_err-read_end-clause-read c = λ bytes fs h.
    let p = err_from_is_err_and c.from_residual-in_err-read_end.result c.from_residual-in_err-read_end.ensures.1 in
    let start = stands_at bytes fs _ _ c.duplicate-lines.result c.self.view_is c.duplicate-lines.ensures h in
    let end = rw c.in_default.is at c.in_ok-name.ensures.read bytes c.self.inside.steps fs start in
    rw (p.1, p.2) (c.in_err-read_end.ensures bytes fs end)

pub returns-in_err-frame-clause-read : goal.returns-in_err-frame-clause-read
returns-in_err-frame-clause-read c = λ bytes fs h.
    let p = err_from_is_err_and c.from_residual-in_err-frame.result c.from_residual-in_err-frame.ensures.1 in
    let start = stands_at bytes fs _ _ c.duplicate-lines.result c.self.view_is c.duplicate-lines.ensures h in
    let named = rw c.in-Some.is at c.in_ok-name.ensures.read bytes c.self.inside.steps fs start in
    let inside = subst (HasReadFrames bytes fs) (sym c.self.view_is) h in
    rw (p.1, p.2) (c.in_err-frame.ensures bytes fs inside.counted named)

pub overflow_add-self : goal.overflow_add-self
overflow_add-self c =
    let i = c.self.invariant in
    omega (arith, read_few i.bytes i.read _ i.has, i.has.short)

pub invariant_of-self : goal.invariant_of-self
invariant_of-self c =
    let i = c.self.invariant in
    let start = stands_at i.bytes i.read _ _ c.duplicate-lines.result refl c.duplicate-lines.ensures i.has in
    let named = rw c.in-Some.is at c.in_ok-name.ensures.read i.bytes c.self.inside.steps i.read start in
    let more = c.in_ok-frame.ensures i.bytes i.read i.has.counted named in
    some_read i.bytes (i.read ++ c.in_ok-frame.frame ∷ []) _ (one_read i.bytes i.read c.in_ok-frame.frame _ c.read_frame.new.lines i.has more)

pub returns-clause-read : goal.returns-clause-read
returns-clause-read c = λ bytes fs h.
    let start = stands_at bytes fs _ _ c.duplicate-lines.result c.self.view_is c.duplicate-lines.ensures h in
    let named = rw c.in-Some.is at c.in_ok-name.ensures.read bytes c.self.inside.steps fs start in
    let inside = subst (HasReadFrames bytes fs) (sym c.self.view_is) h in
    let more = c.in_ok-frame.ensures bytes fs inside.counted named in
    one_read bytes fs c.in_ok-frame.frame _ c.read_frame.new.lines inside more

pub returns-clause-whole : goal.returns-clause-whole
returns-clause-whole c =
    let i = c.self.invariant in
    let start = stands_at i.bytes i.read _ _ c.duplicate-lines.result refl c.duplicate-lines.ensures i.has in
    let named = rw c.in-Some.is at c.in_ok-name.ensures.read i.bytes c.self.inside.steps i.read start in
    last_whole i.bytes i.read c.in_ok-frame.frame c.read_frame.new.lines c.self.inside.steps (c.in_ok-frame.ensures i.bytes i.read i.has.counted named)

pub returns-clause-further : goal.returns-clause-further
returns-clause-further c =
    let i = c.self.invariant in
    let start = stands_at i.bytes i.read _ _ c.duplicate-lines.result refl c.duplicate-lines.ensures i.has in
    let named = rw c.in-Some.is at c.in_ok-name.ensures.read i.bytes c.self.inside.steps i.read start in
    let more = c.in_ok-frame.ensures i.bytes i.read i.has.counted named in
    let few = read_few i.bytes (i.read ++ c.in_ok-frame.frame ∷ []) _ (one_read i.bytes i.read c.in_ok-frame.frame _ c.read_frame.new.lines i.has more) in
    (ap (λ (r : Reading). r.frames + 1) c.self.view_is, omega (arith, few, i.has.short))
