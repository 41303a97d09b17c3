-- What each part's fault says of the whole text.
use Rattle.std.proofs.Common.{◌≡◌, ◌≢◌, ℕ, ◌+◌, List, [], ◌++◌, length, refl, sym, ap, subst, append-nil, ◌∙◌, inl, inr, arith}
use Rattle.c25_isa.specs.declared.image.FunctionRange.{FunctionRange}
use Rattle.c25_isa.specs.Image.{Contents}
use Rattle.text_base.specs.Lines.{lines_text}
use Rattle.c25_image.specs.ImageText.{line_count, image_lines, image_text}
use Rattle.c25_image.specs.ImageReading.{ReadsHead, ReadsRows, ReadsRanges}
use Rattle.c25_image.specs.ImageFaults.{IsWhole, IsNoText, IsFirstFaulty, Says}
use Rattle.c25_image.specs.ImageStops.{StopsInHead, StopsInRows, StopsInRanges}
use Rattle.c25_image.specs.declared.fault.ImageFault.{ImageFault}
use Rattle.c25_image.specs.declared.fault.ImageFault.TheVariants as faults
use Rattle.c25_image.proofs.ImageRefused.{long_no_text, range_no_text}
use Rattle.c25_image.proofs.ImageStopped.{faulty_first, no_text_first, faulty_second, no_text_second, faulty_row, no_text_row, faulty_range, no_text_range, bad_range, read_of}
use Rattle.c25_image.proofs.ImageExact.{says_no_text}
use Rattle.c25_image.proofs.ImageEnds.{read_all, ends_faulty, ends_no_text, image_length, text_injective}

-- no image's text, unless memory was wanting
abbrev pub Refused : List ℕ → ImageFault → Type 0
Refused bytes fault = (c : Contents) → IsWhole c → bytes ≡ image_text c → fault ≡ faults.NoMemory

refused : (bytes : List ℕ) (fault : ImageFault) → IsNoText bytes → Refused bytes fault
refused bytes fault none c w e = absurd (none c w e)

pub head_refused : (bytes : List ℕ) (fault : ImageFault) → StopsInHead bytes fault → Refused bytes fault
head_refused bytes (faults.BadLine line) (inl s) = refused bytes (faults.BadLine line) (no_text_first bytes s.1)
head_refused bytes (faults.BadLine line) (inr s) = refused bytes (faults.BadLine line) (no_text_second bytes s.1)
head_refused bytes (faults.TooLong count) s = refused bytes (faults.TooLong count) (long_no_text bytes count s)
head_refused bytes (faults.BadRange line) s = absurd s
head_refused bytes faults.NoMemory s = absurd s

pub head_says : (bytes : List ℕ) (fault : ImageFault) → StopsInHead bytes fault → Says bytes fault
head_says bytes (faults.BadLine line) (inl s) = subst (IsFirstFaulty bytes) (sym s.0) (faulty_first bytes s.1)
head_says bytes (faults.BadLine line) (inr s) = subst (IsFirstFaulty bytes) (sym s.0) (faulty_second bytes s.1)
head_says bytes (faults.TooLong count) s = s
head_says bytes (faults.BadRange line) s = absurd s
head_says bytes faults.NoMemory s = absurd s

pub rows_refused : (bytes rest : List ℕ) (count : ℕ) (fault : ImageFault) → ReadsHead bytes count rest → StopsInRows rest count fault → Refused bytes fault
rows_refused bytes rest count (faults.BadLine line) h s = refused bytes (faults.BadLine line) (no_text_row bytes rest count line h s)
rows_refused bytes rest count (faults.TooLong stated) h s = absurd s
rows_refused bytes rest count (faults.BadRange line) h s = absurd s
rows_refused bytes rest count faults.NoMemory h s = λ c w e. refl

pub rows_say : (bytes rest : List ℕ) (count : ℕ) (fault : ImageFault) → ReadsHead bytes count rest → StopsInRows rest count fault → Says bytes fault
rows_say bytes rest count (faults.BadLine line) h s = faulty_row bytes rest count line h s
rows_say bytes rest count (faults.TooLong stated) h s = absurd s
rows_say bytes rest count (faults.BadRange line) h s = absurd s
rows_say bytes rest count faults.NoMemory h s = tt {0}

pub ranges_refused : (bytes one two : List ℕ) (count : ℕ) (words : List ℕ) (from : ℕ) (fault : ImageFault) → from ≡ 3 + line_count count → ReadsHead bytes count one → ReadsRows one count words two → StopsInRanges two count from fault → Refused bytes fault
ranges_refused bytes one two count words from (faults.BadLine line) first h r s = refused bytes (faults.BadLine line) (no_text_range bytes one two count words from line h r s)
ranges_refused bytes one two count words from (faults.TooLong stated) first h r s = absurd s
ranges_refused bytes one two count words from (faults.BadRange line) first h r s = refused bytes (faults.BadRange line) (range_no_text bytes line (bad_range bytes one two count words from line first h r s))
ranges_refused bytes one two count words from faults.NoMemory first h r s = λ c w e. refl

pub ranges_say : (bytes one two : List ℕ) (count : ℕ) (words : List ℕ) (from : ℕ) (fault : ImageFault) → from ≡ 3 + line_count count → ReadsHead bytes count one → ReadsRows one count words two → StopsInRanges two count from fault → Says bytes fault
ranges_say bytes one two count words from (faults.BadLine line) first h r s = faulty_range bytes one two count words from line first h r s
ranges_say bytes one two count words from (faults.TooLong stated) first h r s = absurd s
ranges_say bytes one two count words from (faults.BadRange line) first h r s = bad_range bytes one two count words from line first h r s
ranges_say bytes one two count words from faults.NoMemory first h r s = tt {0}

-- something stands behind the last line
pub end_refused : (bytes one two : List ℕ) (count : ℕ) (words : List ℕ) (functions : List FunctionRange) (rest : List ℕ) (line : ℕ) → rest ≢ [] → ReadsHead bytes count one → ReadsRows one count words two → ReadsRanges two count functions rest → Refused bytes (faults.BadLine line)
end_refused bytes one two count words functions rest line some h r s = refused bytes (faults.BadLine line) (ends_no_text bytes (read_of words functions) rest some (read_all bytes one two count words functions rest h r s))

pub end_says : (bytes one two : List ℕ) (count : ℕ) (words : List ℕ) (functions : List FunctionRange) (rest : List ℕ) (line : ℕ) → line ≡ 3 + line_count count + length functions + 1 → rest ≢ [] → ReadsHead bytes count one → ReadsRows one count words two → ReadsRanges two count functions rest → IsFirstFaulty bytes line
end_says bytes one two count words functions rest line number some h r s =
    ends_faulty bytes (read_of words functions) rest line (omega (arith, image_length words functions, r.counted, ap line_count r.counted)) some (read_all bytes one two count words functions rest h r s)

-- nothing stands there: the text is that of the image
pub end_text : (bytes one two : List ℕ) (count : ℕ) (words : List ℕ) (functions : List FunctionRange) (rest : List ℕ) → rest ≡ [] → ReadsHead bytes count one → ReadsRows one count words two → ReadsRanges two count functions rest → bytes ≡ image_text (read_of words functions)
end_text bytes one two count words functions rest none h r s =
    let c = read_of words functions in
    (read_all bytes one two count words functions rest h r s).text ∙ ap (λ t. lines_text (image_lines c) ++ t) none ∙ append-nil (image_text c)

pub end_same : (bytes one two : List ℕ) (count : ℕ) (words : List ℕ) (functions : List FunctionRange) (rest : List ℕ) → rest ≡ [] → ReadsHead bytes count one → ReadsRows one count words two → ReadsRanges two count functions rest → (c : Contents) → IsWhole c → bytes ≡ image_text c → read_of words functions ≡ c
end_same bytes one two count words functions rest none h r s c w e =
    text_injective (read_of words functions) c (read_all bytes one two count words functions rest h r s).whole w (sym (end_text bytes one two count words functions rest none h r s) ∙ e)

pub end_only : (bytes one two : List ℕ) (count : ℕ) (words : List ℕ) (functions : List FunctionRange) (rest : List ℕ) → rest ≡ [] → ReadsHead bytes count one → ReadsRows one count words two → ReadsRanges two count functions rest → (fault : ImageFault) → fault ≢ faults.NoMemory → Says bytes fault → ⊥
end_only bytes one two count words functions rest none h r s fault other says =
    says_no_text bytes fault other says (read_of words functions) (read_all bytes one two count words functions rest h r s).whole (end_text bytes one two count words functions rest none h r s)
