use Rattle.std.proofs.Common.{refl}
use Rattle.std.proofs.lemmas.Result.{err_from_is_err_and}
use Rattle.lay_cert.specs.CertReading.{head_of, frame_of}
use Rattle.lay_cert.proofs.FrameEnds.{frame_read, is_frame, arranges_itself}
use Rattle.lay_cert.proofs.reader.read_frame.Goals as goal

pub returns-in_err-head : goal.returns-in_err-head
returns-in_err-head c = λ bytes fs number start.
    let p = err_from_is_err_and c.from_residual.result c.from_residual.ensures.1 in
    rw (p.1, p.2) (c.in_err-head.ensures.read bytes fs c.args.name.now start)

pub returns-in_err-seq : goal.returns-in_err-seq
returns-in_err-seq c = λ bytes fs number start.
    let p = err_from_is_err_and c.from_residual-in_err-seq.result c.from_residual-in_err-seq.ensures.1 in
    let h = head_of c.args.name.now c.in_ok-head.head.registers c.in_ok-head.head.step c.in_ok-head.head.scalars in
    rw (p.1, p.2) (c.in_err-seq.ensures.read bytes c.args.steps fs h refl (c.in_ok-head.ensures.read bytes fs c.args.name.now start))

pub returns-in_err-found : goal.returns-in_err-found
returns-in_err-found c = λ bytes fs number start.
    let p = err_from_is_err_and c.from_residual-in_err-found.result c.from_residual-in_err-found.ensures.1 in
    let h = head_of c.args.name.now c.in_ok-head.head.registers c.in_ok-head.head.step c.in_ok-head.head.scalars in
    let blocks = c.in_ok-seq.ensures.read bytes c.args.steps fs h refl (c.in_ok-head.ensures.read bytes fs c.args.name.now start) in
    rw (p.1, p.2) (c.in_err-found.ensures.read bytes c.args.steps fs h c.in_ok-seq.seq.blocks refl c.in_ok-seq.ensures.next blocks)

pub returns-in_err-cost : goal.returns-in_err-cost
returns-in_err-cost c = λ bytes fs number start.
    let p = err_from_is_err_and c.from_residual-in_err-cost.result c.from_residual-in_err-cost.ensures.1 in
    let h = head_of c.args.name.now c.in_ok-head.head.registers c.in_ok-head.head.step c.in_ok-head.head.scalars in
    let blocks = c.in_ok-seq.ensures.read bytes c.args.steps fs h refl (c.in_ok-head.ensures.read bytes fs c.args.name.now start) in
    let lists = c.in_ok-found.ensures.read bytes c.args.steps fs h c.in_ok-seq.seq.blocks refl c.in_ok-seq.ensures.next blocks in
    let read = rw c.deref.ensures.value at c.in_err-cost.ensures.read in
    rw (p.1, p.2) (read bytes c.args.steps fs h c.in_ok-seq.seq.blocks c.in_ok-found.found.bases.items refl lists)

pub returns-in_err-claim : goal.returns-in_err-claim
returns-in_err-claim c = λ bytes fs number start.
    let p = err_from_is_err_and c.from_residual-in_err-claim.result c.from_residual-in_err-claim.ensures.1 in
    let h = head_of c.args.name.now c.in_ok-head.head.registers c.in_ok-head.head.step c.in_ok-head.head.scalars in
    let blocks = c.in_ok-seq.ensures.read bytes c.args.steps fs h refl (c.in_ok-head.ensures.read bytes fs c.args.name.now start) in
    let lists = c.in_ok-found.ensures.read bytes c.args.steps fs h c.in_ok-seq.seq.blocks refl c.in_ok-seq.ensures.next blocks in
    let b = c.in_ok-seq.seq.blocks in
    let s = c.in_ok-found.found.bases.items in
    let l = c.in_ok-found.found.lists.items in
    let read = rw c.deref.ensures.value at c.in_ok-cost.ensures.read in
    let cost = read bytes c.args.steps fs h b s refl lists in
    rw (p.1, p.2) (c.in_err-claim.ensures bytes c.args.steps fs h b s l c.in_ok-cost.cost cost)

pub returns-in_err-log : goal.returns-in_err-log
returns-in_err-log c = λ bytes fs number start.
    let p = err_from_is_err_and c.from_residual-in_err-log.result c.from_residual-in_err-log.ensures.1 in
    let h = head_of c.args.name.now c.in_ok-head.head.registers c.in_ok-head.head.step c.in_ok-head.head.scalars in
    let blocks = c.in_ok-seq.ensures.read bytes c.args.steps fs h refl (c.in_ok-head.ensures.read bytes fs c.args.name.now start) in
    let lists = c.in_ok-found.ensures.read bytes c.args.steps fs h c.in_ok-seq.seq.blocks refl c.in_ok-seq.ensures.next blocks in
    let b = c.in_ok-seq.seq.blocks in
    let s = c.in_ok-found.found.bases.items in
    let l = c.in_ok-found.found.lists.items in
    let read = rw c.deref.ensures.value at c.in_ok-cost.ensures.read in
    let cost = read bytes c.args.steps fs h b s refl lists in
    let claim = c.in_ok-claim.ensures bytes c.args.steps fs h b s l c.in_ok-cost.cost cost in
    rw (p.1, p.2) (c.in_err-log.ensures bytes c.args.steps fs (frame_of h b s l c.in_ok-cost.cost c.in_ok-claim.claim) number claim)

pub returns : goal.returns
returns c = λ bytes fs number start.
    let h = head_of c.args.name.now c.in_ok-head.head.registers c.in_ok-head.head.step c.in_ok-head.head.scalars in
    let blocks = c.in_ok-seq.ensures.read bytes c.args.steps fs h refl (c.in_ok-head.ensures.read bytes fs c.args.name.now start) in
    let lists = c.in_ok-found.ensures.read bytes c.args.steps fs h c.in_ok-seq.seq.blocks refl c.in_ok-seq.ensures.next blocks in
    let b = c.in_ok-seq.seq.blocks in
    let s = c.in_ok-found.found.bases.items in
    let l = c.in_ok-found.found.lists.items in
    let read = rw c.deref.ensures.value at c.in_ok-cost.ensures.read in
    let cost = read bytes c.args.steps fs h b s refl lists in
    let claim = c.in_ok-claim.ensures bytes c.args.steps fs h b s l c.in_ok-cost.cost cost in
    let log = c.in_ok-log.ensures bytes c.args.steps fs (frame_of h b s l c.in_ok-cost.cost c.in_ok-claim.claim) number claim in
    frame_read bytes _ c.args.steps fs c.args.name.now c.in_ok-head.head.registers c.in_ok-head.head.step c.in_ok-head.head.scalars c.in_ok-seq.seq s l c.in_ok-cost.cost c.in_ok-claim.claim c.in_ok-log.log _ c.in_ok-seq.ensures.seq.0 c.in_ok-seq.ensures.seq.1 log (rw (c.in_ok-copy_of.ensures, c.new.ensures) at c.new-2.ensures)

pub new-requires : goal.new-requires
new-requires c = arranges_itself c.in_ok-head.head.scalars c.in_ok-found.found.lists.items (rw c.deref.ensures.value at c.in_ok-cost.ensures.arranged)

pub new-requires-2 : goal.new-requires-2
new-requires-2 c =
    let arranged = rw c.deref.ensures.value at c.in_ok-cost.ensures.arranged in
    rw (c.in_ok-copy_of.ensures, c.new.ensures) (is_frame c.args.name.now c.in_ok-head.head.registers c.in_ok-head.head.step c.in_ok-head.head.scalars c.in_ok-seq.seq c.in_ok-found.found.bases.items c.in_ok-found.found.lists.items c.in_ok-cost.cost c.in_ok-claim.claim c.in_ok-log.log c.requires c.in_ok-head.ensures.range c.in_ok-seq.ensures.seq.0 arranged c.in_ok-found.ensures.counts.0 c.in_ok-found.ensures.counts.1)
