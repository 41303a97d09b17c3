use Rattle.cc_words_proof.proofs.AssemblyLemmas.{asm_other_names, asm_two_names, dis_one_name, dis_other_names, gen_no_number, gen_number}
use Rattle.cc_words_proof.proofs.BuildLemmas.{all_behind, budget_behind as build_budget_behind, registers_behind as build_registers_behind, step_attached, step_behind}
use Rattle.cc_words_proof.proofs.DebugLemmas.{debug_other_names, debug_three_names}
use Rattle.cc_words_proof.proofs.JoinLemmas.{join_names, join_other_names}
use Rattle.cc_words_proof.proofs.PbuildLemmas.{pbuild_all_numbers, pbuild_four_names, pbuild_no_step, pbuild_other_names}
use Rattle.cc_words_proof.proofs.PreLemmas.{pre_other_names, pre_two_names}
use Rattle.cc_words_proof.proofs.LayoutLemmas.{budget_attached, budget_behind, budget_first, layout_both, layout_both_first, layout_both_turned, layout_one_name, layout_other_names, registers_attached, registers_behind, registers_first}
use Rattle.cc_words_proof.proofs.PlainLemmas.{check_other_names, check_two_names, exec_steps_attached, exec_steps_behind, exec_steps_first, exec_two_names, means_two_names, other_names, run_two_names, steps_attached, steps_behind, steps_first, turns_attached, turns_behind, turns_first, two_names}
use Rattle.cc_words.proofs.BoundsLemmas.{within_asked}
use Rattle.cc_words_proof.proofs.plain.plain_words.Goals as goal

pub returns : goal.returns
returns c = record {
  build = two_names;
  build_other = other_names;
  build_registers = build_registers_behind;
  build_budget = build_budget_behind;
  step = step_behind;
  step_attached = step_attached;
  registers_budget_and_step = all_behind;
  run = run_two_names;
  steps = steps_behind;
  steps_first = steps_first;
  steps_attached = steps_attached;
  means = means_two_names;
  turns = turns_behind;
  turns_first = turns_first;
  turns_attached = turns_attached;
  exec = exec_two_names;
  exec_steps = exec_steps_behind;
  exec_steps_first = exec_steps_first;
  exec_steps_attached = exec_steps_attached;
  layout = layout_one_name;
  layout_other = layout_other_names;
  registers = registers_behind;
  registers_first = registers_first;
  registers_attached = registers_attached;
  budget = budget_behind;
  budget_first = budget_first;
  budget_attached = budget_attached;
  registers_and_budget = layout_both;
  both_first = layout_both_first;
  budget_and_registers = layout_both_turned;
  check = check_two_names;
  check_other = check_other_names;
  asm = asm_two_names;
  asm_other = asm_other_names;
  dis = dis_one_name;
  dis_other = dis_other_names;
  number = gen_number;
  no_number = gen_no_number;
  debug = debug_three_names;
  debug_other = debug_other_names;
  pre = pre_two_names;
  pre_other = pre_other_names;
  join = join_names;
  join_other = join_other_names;
  pbuild = pbuild_four_names;
  pbuild_other = pbuild_other_names;
  pbuild_numbers = pbuild_all_numbers;
  pbuild_step = pbuild_no_step;
  range = within_asked;
}
