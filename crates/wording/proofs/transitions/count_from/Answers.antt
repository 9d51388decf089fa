use Rattle.std.proofs.Common.{rules, arith, tests, ◌≡◌, ◌==◌, ◌^◌, ◌≤◌, ◌-◌, ℕ, length, sum_by, if◌then◌else◌}
use Rattle.std.proofs.lemmas.Iterator.{YieldsList-from_slice}
use Rattle.std.proofs.lemmas.Iterator.Adapters.{fits_from_length, at_most_from_yields_List}
use Rattle.std.proofs.lemmas.List.Sums.{sum_by-le}
use Rattle.tables.specs.declared.rows.Transition.{Transition}
use Rattle.wording.proofs.transitions.count_from.Goals as goal

-- a slice is shorter than 2 ^ 64, and each of its elements counts one at most
pub sum-requires-clause-fits : goal.sum-requires-clause-fits
sum-requires-clause-fits c =
    let few : length c.args.transitions.now ≤ 2 ^ 64 - 1 = search (rules, arith) in
    fits_from_length _ _ (2 ^ 64 - 1) (2 ^ 64) (at_most_from_yields_List (YieldsList-from_slice c.args.transitions.now cc) few) c.map.ensures.closure (omega arith) (λ x r q k. search (rules, tests))

pub returns-clause-bound : goal.returns-clause-bound
returns-clause-bound c =
    let one : Transition → ℕ = λ t. if t.source == c.args.source then 1 else 0 in
    let exact : c.sum.result ≡ sum_by one c.args.transitions.now = search rules in
    omega (arith, exact, sum_by-le one 1 c.args.transitions.now (search (rules, tests)))
