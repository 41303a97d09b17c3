-- The labels of a switch.
use Rattle.std.specs.Prelude.{ℕ, ◌==◌, ◌||◌, Bool, true, false}
use Rattle.tree_code.specs.WordTree.{ChoicesCode, no_more, case, default, body}

-- whether a case has this value
abbrev pub has_word_case : ℕ → ChoicesCode → Bool
has_word_case w no_more = false
has_word_case w (case v rest) = w == v || has_word_case w rest
has_word_case w (default rest) = has_word_case w rest
has_word_case w (body s rest) = has_word_case w rest

abbrev pub has_word_default : ChoicesCode → Bool
has_word_default no_more = false
has_word_default (case v rest) = has_word_default rest
has_word_default (default rest) = true
has_word_default (body s rest) = has_word_default rest

-- a case that stands again further on, or a second default
abbrev pub repeats_word_label : ChoicesCode → Bool
repeats_word_label no_more = false
repeats_word_label (case w rest) = has_word_case w rest || repeats_word_label rest
repeats_word_label (default rest) = has_word_default rest || repeats_word_label rest
repeats_word_label (body s rest) = repeats_word_label rest
