use Rattle.acc_select.proofs.AppendLemmas.{if_appended}
use Rattle.acc_select.proofs.conditions.choose.Goals as goal

pub returns : goal.returns
returns c = if_appended c.push.result c.args.code.now.items c.push.new.code.items c.args.test c.in_ok-yes.yes c.in_ok-no.no c.in_ok-yes.ensures c.in_ok-no.ensures c.push.ensures
