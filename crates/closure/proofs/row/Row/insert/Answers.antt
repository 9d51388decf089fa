use Rattle.std.proofs.Common.{rules, ◌≡◌, length}
use Rattle.closure.proofs.Words.{in_insert}
use Rattle.closure.proofs.row.Row.insert.Goals as goal

pub returns : goal.returns
returns c =
    let long : length c.args.self.now.words ≡ 4 = search rules in
    in_insert c.args.self.now c.args.y c.requires long
