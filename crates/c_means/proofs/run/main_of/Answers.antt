use Rattle.std.proofs.Common.{rules, tests}
use Rattle.std.proofs.lemmas.Iterator.{YieldsList-from_slice}
use Rattle.std.proofs.lemmas.Iterator.Search.{find_from_yields_List}
use Rattle.c_means.proofs.MainLemmas.{is_main, main_is}
use Rattle.c_means.proofs.run.main_of.Goals as goal

pub returns : goal.returns
returns c =
    let fs = c.args.functions.now in
    main_is fs c.find.result (find_from_yields_List is_main _ _ c.find.result c.find.ensures.ran (YieldsList-from_slice fs (cc)) (λ x b q k. search (rules, tests)))
