use Rattle.std.proofs.Common.{arith, ◌-◌, refl, true, not, vec_len}
use Rattle.std.proofs.lemmas.Option.{slice_get_read}
use Rattle.c_macro.proofs.SectionLemmas.{nested_turned, turned_is}
use Rattle.c_macro.proofs.sections.Sections.turn.Goals as goal

pub returns-in-Some-clause-nested : goal.returns-in-Some-clause-nested
returns-in-Some-clause-nested c =
    let xs = c.args.self.now.«open».items in
    let s = c.in-Some.section.now in
    nested_turned xs (vec_len c.args.self.now.«open» - 1) s
    (record { at = s.at; keeps = not s.keeps; has_else = true; is_within_kept = s.is_within_kept })
    (omega (arith, c.args.self.now.«open».ok.0))
    (slice_get_read xs (vec_len c.args.self.now.«open») (vec_len c.args.self.now.«open» - 1) s c.args.self.now.«open».ok.0 (omega (arith, c.in-Some.ensures.variant.0 refl)) c.in-Some.ensures.value)
    refl c.requires.nested

pub returns-in-Some-clause-turned : goal.returns-in-Some-clause-turned
returns-in-Some-clause-turned c =
    let xs = c.args.self.now.«open».items in
    let s = c.in-Some.section.now in
    turned_is xs (vec_len c.args.self.now.«open» - 1) s
    (record { at = s.at; keeps = not s.keeps; has_else = true; is_within_kept = s.is_within_kept })
    (omega (arith, c.args.self.now.«open».ok.0))
    (slice_get_read xs (vec_len c.args.self.now.«open») (vec_len c.args.self.now.«open» - 1) s c.args.self.now.«open».ok.0 (omega (arith, c.in-Some.ensures.variant.0 refl)) c.in-Some.ensures.value)
    c.args.at c.if-not-last_mut.true refl
