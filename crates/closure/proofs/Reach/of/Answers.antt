use Rattle.std.proofs.Common.{◌≡◌, ℕ, ◌<◌, ◌≤◌, min, subst, arith}
use Rattle.closure.specs.Rows.{holds}
use Rattle.closure.specs.Edges.{edge_steps}
use Rattle.validity.specs.Closure.{leads}
use Rattle.closure.proofs.Rounds.{tells}
use Rattle.closure.proofs.Reach.of.Goals as goal

pub returns : goal.returns
returns c =
    let n = min c.args.size 256 in
    let small : n ≤ 256 = omega arith in
    let steps = c.of-relation.result in
    let last = c.close.new.self in
    tells n (edge_steps c.args.edges.now) steps.rows small c.of-relation.ensures.steps (record { rows = last.rows })
    (subst (λ m. (x y : ℕ) → x < 256 → y < 256 → holds last.rows x y ≡ leads m (holds steps.rows) x y) c.of-relation.ensures.size c.close.ensures)
