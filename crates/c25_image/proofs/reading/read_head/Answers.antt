use Rattle.std.proofs.Common.{rules, ◌≡◌, ◌≢◌, ◌++◌, ◌∙◌, ap, sym, inl, inr, refl}
use Rattle.text_base.specs.Lines.{with_feed}
use Rattle.c25_image.specs.ImageText.{first_line, size_line}
use Rattle.c25_image.specs.ImageReading.{StatesSize}
use Rattle.c25_image.proofs.ImageLoops.{stuck_at_end, stuck_at_line, two_lines}
use Rattle.c25_image.proofs.reading.read_head.Goals as goal

pub returns-then-ne : goal.returns-then-ne
returns-then-ne c =
    let differs : c.in-Some.first.now ≢ first_line = search rules in
    inl (refl, stuck_at_line (λ line. line ≡ first_line) c.args.bytes.now c.in-Some.first.now c.in-Some.rest.now c.in-Some.ensures.0 c.in-Some.ensures.1 differs)

pub returns-in_default-front_line : goal.returns-in_default-front_line
returns-in_default-front_line c =
    let same : c.in-Some.first.now ≡ first_line = search rules in
    inr (refl, record { rest = c.in-Some.rest.now; text = c.in-Some.ensures.1 ∙ ap (λ l. with_feed l ++ c.in-Some.rest.now) same; stuck = stuck_at_end StatesSize c.in-Some.rest.now c.in_default-front_line.ensures })

pub returns-in_default-read_size : goal.returns-in_default-read_size
returns-in_default-read_size c =
    let same : c.in-Some.first.now ≡ first_line = search rules in
    inr (
      refl,
      record {
        rest = c.in-Some.rest.now;
        text = c.in-Some.ensures.1 ∙ ap (λ l. with_feed l ++ c.in-Some.rest.now) same;
        stuck = stuck_at_line StatesSize c.in-Some.rest.now c.in-Some-front_line.second.now c.in-Some-front_line.rest.now c.in-Some-front_line.ensures.0 c.in-Some-front_line.ensures.1 (λ s. c.in_default-read_size.ensures s.count s.fits s.text);
      },
    )

pub returns-then-count-gt-MOST_WORDS : goal.returns-then-count-gt-MOST_WORDS
returns-then-count-gt-MOST_WORDS c =
    let same : c.in-Some.first.now ≡ first_line = search rules in
    record {
      above = search rules;
      fits = search rules;
      rest = c.in-Some-front_line.rest.now;
      text =
          c.in-Some.ensures.1 ∙ ap (λ l. with_feed l ++ c.in-Some.rest.now) same
          ∙ ap (λ t. with_feed first_line ++ t) (c.in-Some-front_line.ensures.1 ∙ ap (λ l. with_feed l ++ c.in-Some-front_line.rest.now) c.in-Some-read_size.ensures)
          ∙ sym (two_lines first_line (size_line c.in-Some-read_size.count) c.in-Some-front_line.rest.now);
    }
