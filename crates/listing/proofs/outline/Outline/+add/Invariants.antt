use Rattle.std.proofs.Common.{◌+◌, ◌≤◌, length, vec_len}
use Rattle.listing.proofs.outline.Outline.+add.Given as goal

-- what is added is no stray
abbrev pub decreases-add : goal.decreases-add
decreases-add l = vec_len l.self.now.strays

abbrev pub invariant-loop-item : goal.invariant-loop-item
invariant-loop-item l = vec_len l.self.strays + length l.item-items ≤ vec_len l.fn.self.strays
