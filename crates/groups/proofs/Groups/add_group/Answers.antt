use Rattle.std.proofs.Common.{◌+◌, length, vec_items, ap, ◌∙◌, arith}
use Rattle.groups.proofs.Rows.{below_few, one_more, goes_on, rises, stays}
use Rattle.groups.proofs.Groups.add_group.Goals as goal

pub overflow_cast-len : goal.overflow_cast-len
overflow_cast-len c = let g = c.args.self.now in omega (arith, below_few c.args.keys.now c.args.key, ap length c.requires.filled.row, g.members.ok.0)

pub push_with_key-requires : goal.push_with_key-requires
push_with_key-requires c =
    let g = c.args.self.now in
    (omega (arith, one_more c.args.keys.now c.args.key, ap length c.requires.filled.row, g.members.ok.0, c.requires.room.1), c.requires.few)

pub invariant_of-self : goal.invariant_of-self
invariant_of-self c =
    let keys = c.args.keys.now in
    let n = c.args.key + 1 in
    let g = c.args.self.now in
    let starts = vec_items c.push_reserved.new.self in
    let members = vec_items c.push_with_key.new.members in
    let f = goes_on keys c.args.key c.len.result (vec_items g.starts) starts (vec_items g.members) members c.requires.filled (c.len.ensures ∙ g.members.ok.0) c.push_reserved.ensures.items c.push_with_key.ensures.items in
    record { rise = rises keys n starts members f; within = stays keys n starts members f }
