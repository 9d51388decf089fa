use Rattle.std.proofs.Common.{◌≡◌, eqb, ◌++◌, get_or, vec_items, vec_capacity}
use Rattle.groups.specs.Numbers.{those}
use Rattle.groups.proofs.methods.push_with_key.Given as goal

abbrev pub invariant-loop-number : goal.invariant-loop-number
invariant-loop-number l = (vec_items l.members ≡ vec_items l.initial.members ++ those l.number (λ i. eqb (get_or l.keys i 0) l.key)) × (vec_capacity l.members ≡ vec_capacity l.initial.members)
