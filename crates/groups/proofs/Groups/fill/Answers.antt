use Rattle.std.proofs.Common.{◌≡◌, vec_items, subst, arith}
use Rattle.groups.specs.Filling.{IsFilled}
use Rattle.groups.proofs.Rows.{part_is}
use Rattle.groups.proofs.Groups.fill.Goals as goal

pub returns-clause-ok : goal.returns-clause-ok
returns-clause-ok c =
    let keys = c.args.keys.now in
    let g = c.loop-key.self in
    let all : c.loop-key.key ≡ c.args.size = omega arith in
    part_is keys c.args.size (vec_items g.starts) (vec_items g.members) (subst (λ n. IsFilled keys n g) all c.loop-key.invariant.0)
