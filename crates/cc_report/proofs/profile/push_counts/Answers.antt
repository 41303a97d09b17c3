-- The numbers stand behind one another.
use Rattle.cc_report.proofs.Pushing.{four}
use Rattle.cc_report.proofs.profile.push_counts.Goals as goal

pub returns : goal.returns
returns c = four c.args.text.now.items c.push_count.new.text.items c.push_count-2.new.text.items c.push_count-3.new.text.items c.push_count-4.new.text.items _ _ _ _ (rw c.from.ensures at c.in_ok-push_count.ensures) (rw c.from-2.ensures at c.in_ok-push_count-2.ensures) c.in_ok-push_count-3.ensures c.in_ok-push_count-4.ensures
