use Rattle.std.proofs.Common.{◌+◌, ◌<◌, List, get_or, sym, ◌∙◌, subst, arith}
use Rattle.std.proofs.lemmas.List.{set-get_or}
use Rattle.closure.specs.Rows.{empty}
use Rattle.closure.specs.declared.row.Row.{Row}
use Rattle.closure.proofs.Rounds.{Amid, kept, joined}
use Rattle.closure.proofs.relation.Relation.join.Goals as goal
use Rattle.closure.proofs.relation.Relation.join.Goals.{then-has, else-has}

pub loop-row-preserved : goal.loop-row-preserved
loop-row-preserved c =
    let was = c.args.self.now.rows in
    let rows = c.loop-row.row-items in
    let k = c.args.middle in
    let x = c.loop-row.row-index in
    let by = get_or was k empty in
    let l : x < 256 = omega (arith, c.loop-row.invariant.long) in
    elim c.if-has.branch [
      | then-has w ↦
          subst (λ (r : List Row). Amid was r k (x + 1) by) (sym w.row-items-is)
          (joined was rows k x by c.loop-row.invariant w.union.result l (sym c.has.ensures ∙ w.if-has.true) w.union.ensures)
      | else-has w ↦
          subst (λ (r : List Row). Amid was r k (x + 1) by) (sym (w.row-items-is ∙ set-get_or rows x empty)) (kept was rows k x by c.loop-row.invariant (sym c.has.ensures ∙ w.if-has.false))
    ]
