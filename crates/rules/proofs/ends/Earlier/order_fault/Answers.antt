use Rattle.std.proofs.Common.{rules}
use Rattle.rules.proofs.ends.Earlier.order_fault.Goals as goal
use Rattle.rules.proofs.ends.Earlier.order_fault.Goals.{in-Strong, in-Weak, in-Normal}

pub returns : goal.returns
returns c = elim c.match-kind.branch [ in-Strong w ↦ search rules | in-Weak w ↦ search rules | in-Normal w ↦ search rules ]
