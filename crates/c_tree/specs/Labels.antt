-- The labels of a switch, and what a jump may leave: ISO 9899:1990 6.6.1, 6.6.4.2, 6.6.6.2 and 6.6.6.3.
use Rattle.std.specs.Prelude.{ℕ, ◌==◌, ◌||◌, Bool, true, false}
use Rattle.c_tree.specs.declared.enclosing.Enclosing.{Enclosing}
use Rattle.c_tree.specs.declared.enclosing.Enclosing.TheVariants as around
use Rattle.c_tree.specs.TypedTree.{Choices, no_more, case, default, body}

-- what break and continue may leave
abbrev pub may_break : Enclosing → Bool
may_break around.Body = false
may_break around.Switch = true
may_break around.Loop = true
may_break around.SwitchInLoop = true

abbrev pub may_continue : Enclosing → Bool
may_continue around.Body = false
may_continue around.Switch = false
may_continue around.Loop = true
may_continue around.SwitchInLoop = true

-- within a switch
abbrev pub in_switch : Enclosing → Enclosing
in_switch around.Body = around.Switch
in_switch around.Switch = around.Switch
in_switch around.Loop = around.SwitchInLoop
in_switch around.SwitchInLoop = around.SwitchInLoop

-- whether a case has this value
abbrev pub has_case : ℕ → Choices → Bool
has_case w no_more = false
has_case w (case v rest) = w == v || has_case w rest
has_case w (default rest) = has_case w rest
has_case w (body s rest) = has_case w rest

abbrev pub has_default : Choices → Bool
has_default no_more = false
has_default (case v rest) = has_default rest
has_default (default rest) = true
has_default (body s rest) = has_default rest

-- a case that stands again further on, or a second default
abbrev pub repeats_label : Choices → Bool
repeats_label no_more = false
repeats_label (case w rest) = has_case w rest || repeats_label rest
repeats_label (default rest) = has_default rest || repeats_label rest
repeats_label (body s rest) = repeats_label rest
