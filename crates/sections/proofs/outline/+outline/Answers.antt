use Rattle.std.proofs.Common.{◌==◌, ltb, arith}
use Rattle.std.proofs.lemmas.Bool.{eqb-true}
use Rattle.validity.specs.Tables.{states, graphs, owner_of, is_in}
use Rattle.loading.specs.Meaning.{fields_for}
use Rattle.sections.proofs.Nesting.{passes, behind_owner}
use Rattle.sections.proofs.outline.+outline.Goals as goal

pub GraphTreeDisplay::fmt-fmt-requires : goal.GraphTreeDisplay::fmt-fmt-requires
GraphTreeDisplay::fmt-fmt-requires g t c κs within =
    let chart = c.args.self.now.chart.now in
    let fs = fields_for chart in
    let graph = c.args.self.now.graph in
    let r = passes (ltb graph (graphs fs)) (states fs) (is_in fs graph) c.states_in-state-items.result.now c.loop-i.i c.from.result c.states_in-state-items.ensures c.loop-i-test.true c.from.ensures in
    (omega (arith, c.decreases, r.0, behind_owner chart graph c.from.result r.0 r.1), within)

pub StateTreeDisplay::fmt-fmt-requires : goal.StateTreeDisplay::fmt-fmt-requires
StateTreeDisplay::fmt-fmt-requires g t c κs within =
    let fs = fields_for c.args.self.now.chart.now in
    let state = c.args.self.now.state in
    let graph = c.from-graph.result in
    let r = passes (ltb state (states fs)) (graphs fs) (λ g. owner_of fs g == state) c.graphs_of-graph-items.result.now c.loop-graph.graph-index graph c.graphs_of-graph-items.ensures c.loop-graph-test.true c.from-graph.ensures in
    (omega (arith, c.decreases, eqb-true (owner_of fs graph) state r.1), within)
