use Rattle.std.proofs.Common.{◌≡◌, ℕ, ◌<◌, ◌||◌, min, get_or, replicate, ◌∙◌, subst}
use Rattle.validity.proofs.Bools.{clash}
use Rattle.closure.specs.Rows.{holds, among}
use Rattle.closure.specs.Edges.{edge_step, no_edge}
use Rattle.closure.proofs.Added.{none, begins, goes_on}
use Rattle.closure.proofs.relation.Relation.of.Goals as goal

pub invariant_of-relation-clause-within : goal.invariant_of-relation-clause-within
invariant_of-relation-clause-within c x y lx ly h = absurd (clash h (none c.empty.result c.empty.ensures x y lx))

pub loop-edge-init : goal.loop-edge-init
loop-edge-init c = (c.min.ensures, begins c.args.edges.now (replicate 256 c.empty.result) (min c.args.size 256) (none c.empty.result c.empty.ensures))

pub loop-edge-preserved : goal.loop-edge-preserved
loop-edge-preserved c =
    let edges = c.args.edges.now in
    let t = c.loop-edge.edge-index in
    let was = c.loop-edge.relation in
    let now = c.add.new.self in
    let size = c.loop-edge.invariant.0 in
    let step = edge_step (get_or edges t no_edge) in
    (c.add.ensures.size ∙ size, goes_on edges was.rows now.rows (min c.args.size 256) t c.loop-edge.invariant.1 (subst (λ n. (x y : ℕ) → x < 256 → y < 256 → holds now.rows x y ≡ (holds was.rows x y || among n step x y)) size c.add.ensures.steps))
