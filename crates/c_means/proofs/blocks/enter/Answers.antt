use Rattle.std.proofs.Common.{◌≡◌, ◌++◌, ◌+◌, ℕ, List, drop, sym, ap, ◌∙◌, Option, Vec, Global}
use Rattle.std.proofs.lemmas.List.{append-nil}
use Rattle.std.specs.Option.{option_to_list}
use Rattle.c_tree.specs.Eval.{Env}
use Rattle.c_tree.specs.Exec.{enter}
use Rattle.c_tree.specs.declared.program.VarRef.TheVariants.{Scalar}
use Rattle.c_means.specs.Blocks.{numbers_of, put_back}
use Rattle.c_means.specs.Frames.{env_in}
use Rattle.c_state.specs.Worlds.{world_of}
use Rattle.c_means.specs.declared.blocks.Opened.{Opened}
use Rattle.c_means.proofs.BlockLemmas.{numbered, next_name, numbers_append, put_all}
use Rattle.c_means.proofs.blocks.enter.Goals as goal
use Rattle.c_means.proofs.blocks.enter.Goals.{in-Some+in_ok-push, in_default}

-- a name that got an object stands behind the others
grown : (c : goal.Joined-branch-2) → c.match-branch-2.opened.items ≡ c.loop-reference.opened.items ++ option_to_list c.in_ok-one.field-0
grown c =
    let opened = c.loop-reference.opened.items in
    elim c.match-branch-2.branch [
      | in-Some+in_ok-push w ↦
          ap (λ (v : Vec Opened Global). v.items) w.opened-is ∙ w.in_ok-push.ensures.items ∙ ap (λ (o : Option Opened). opened ++ option_to_list o) (sym w.in-Some.is)
      | in_default w ↦
          ap (λ (v : Vec Opened Global). v.items) w.opened-is ∙ sym (append-nil opened) ∙ ap (λ (o : Option Opened). opened ++ option_to_list o) (sym w.in_default.is)
    ]

pub loop-reference-preserved : goal.loop-reference-preserved
loop-reference-preserved c =
    let made = option_to_list c.in_ok-one.field-0 in
    let opened = c.loop-reference.opened.items in
    let before = env_in c.args.run.now c.loop-reference.names in
    let after = env_in c.args.run.now c.declare.new.names in
    record {
      entered =
          ap (λ (os : List Opened). numbered (numbers_of os) (enter (drop (c.loop-reference.reference-index + 1) c.args.declared.now) after (world_of c.declare.new.state))) (grown c)
          ∙ ap (λ (ns : List ℕ). numbered ns (enter (drop (c.loop-reference.reference-index + 1) c.args.declared.now) after (world_of c.declare.new.state))) (numbers_append opened made)
          ∙ next_name c.args.declared.now c.loop-reference.reference-index (Scalar 0) before after (world_of c.loop-reference.state) (world_of c.declare.new.state) (numbers_of opened) (numbers_of made) c.loop-reference-test.true c.in_ok-one.ensures.declared
          ∙ c.loop-reference.invariant.entered;
      back =
          ap (put_back after) (grown c) ∙ put_all after opened made ∙ ap (λ (env : Env). put_back env opened) c.in_ok-one.ensures.back ∙ c.loop-reference.invariant.back;
    }
