use Rattle.acc_select.proofs.AppendLemmas.{loop_appended}
use Rattle.acc_select.proofs.statements.push_loop.Goals as goal

pub returns : goal.returns
returns c = loop_appended c.push.result c.args.code.now.items c.push.new.code.items c.args.before c.args.body c.args.after c.args.test_last c.push.ensures
