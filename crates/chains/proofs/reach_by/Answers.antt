use Rattle.std.proofs.Common.{ℕ, ◌≤◌, Bool, length, false, get_or, sym, arith, rules}
use Rattle.std.proofs.lemmas.List.{length-take-le}
use Rattle.closure.specs.declared.Edge.{Edge}
use Rattle.closure.specs.Edges.{no_edge}
use Rattle.validity.specs.Tables.{source_of, target_of}
use Rattle.tables.specs.Views.{fields_of}
use Rattle.tables.proofs.Within.{row_within}
use Rattle.closure.proofs.Made.{made}
use Rattle.chains.proofs.Levels.{reach_is}
use Rattle.chains.proofs.reach_by.Goals as goal

pub slice_bounds-edges-end : goal.slice_bounds-edges-end
slice_bounds-edges-end c =
    let few = (row_within (fields_of c.args.tables.now) c.args.tables.now.file.row).transitions in
    omega (arith, few, c.from_fn-edges.ensures.items.long, c.transition_count.ensures)

pub slice_bounds-of-end : goal.slice_bounds-of-end
slice_bounds-of-end c =
    let few = (row_within (fields_of c.args.tables.now) c.args.tables.now.file.row).transitions in
    let enough : c.transition_count.result ≤ length c.from_fn-edges.result = omega (arith, few, c.from_fn-edges.ensures.items.long, c.transition_count.ensures) in
    sym (length-take-le c.transition_count.result c.from_fn-edges.result enough)

pub returns : goal.returns
returns c =
    let fs = fields_of c.args.tables.now in
    let few = row_within fs c.args.tables.now.file.row in
    let n = c.transition_count.result in
    let edges = c.from_fn-edges.result in
    let chain : ℕ → Bool = λ t. get_or c.args.marks.now t false in
    let edge : ℕ → Edge = λ t. record { source = source_of fs t; target = target_of fs t; marked = chain t } in
    let enough : n ≤ length edges = omega (arith, few.transitions, c.from_fn-edges.ensures.items.long, c.transition_count.ensures) in
    reach_is fs edges chain n c.transition_count.ensures (sym (length-take-le n edges enough))
    (λ t l. made c.from_fn-edges.ensures.items edge no_edge (λ i y q k. search rules) t (omega (arith, few.transitions, c.transition_count.ensures)))
    c.state_count.result c.of.result c.state_count.ensures few.states c.of.ensures
