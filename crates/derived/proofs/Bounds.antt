-- How large depths, ranks and initial states are at most.
use Rattle.std.proofs.Common.{ℕ, zero, suc, ◌+◌, ◌≤◌, Bool, List, arith}
use Rattle.chart.specs.Fields.{Field}
use Rattle.validity.specs.Ranges.{least_of, count_of}
use Rattle.validity.specs.Tables.{graph_of, owner_of, depth_within}

pub depth_most : (fs : List Field) (n s : ℕ) → depth_within fs n s ≤ n + 1
depth_most fs zero s = omega arith
depth_most fs (suc n) s = grind (arith, depth_most fs n (owner_of fs (graph_of fs s)))

pub least_most : (n : ℕ) (p : ℕ → Bool) → least_of n p ≤ n
least_most zero p = omega arith
least_most (suc n) p = grind (arith, least_most n p)

pub count_most : (n : ℕ) (p : ℕ → Bool) → count_of n p ≤ n
count_most zero p = omega arith
count_most (suc n) p = grind (arith, count_most n p)
