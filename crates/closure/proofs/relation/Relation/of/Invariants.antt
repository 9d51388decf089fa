use Rattle.std.proofs.Common.{◌≡◌, min}
use Rattle.closure.proofs.Added.{Upto}
use Rattle.closure.proofs.relation.Relation.of.Given as goal

abbrev pub invariant-loop-edge : goal.invariant-loop-edge
invariant-loop-edge l = (l.relation.size ≡ min l.fn.size 256) × Upto l.edges l.relation.rows (min l.fn.size 256) l.edge-index
