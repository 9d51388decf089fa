use Rattle.std.proofs.Common.{ℕ, Bool, ◌∙◌, arith, rules, tests}
use Rattle.std.proofs.lemmas.Iterator.{YieldsList-from_range}
use Rattle.std.proofs.lemmas.Iterator.Consumers.{count_from_yields_List, YieldsList-from_filter}
use Rattle.std.proofs.lemmas.List.Sums.{length-filter}
use Rattle.std.specs.List.{range_with_len}
use Rattle.closure.specs.Rows.{told}
use Rattle.validity.proofs.Ranged.{is_count_of}
use Rattle.derived.proofs.facts.rank.Goals as goal

pub returns : goal.returns
returns c =
    let n = c.args.count in
    let p : ℕ → Bool = λ x. told c.args.chains.now.reach x c.args.state in
    is_count_of n p c.count.result (count_from_yields_List c.filter.result c.count.result c.count.ensures.ran (YieldsList-from_filter _ p (YieldsList-from_range 0 n n (cc) (omega arith)) c.filter.ensures.closure (λ x b q k. search (rules, tests))) ∙ length-filter p (range_with_len 0 n))
