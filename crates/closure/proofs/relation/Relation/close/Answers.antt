use Rattle.std.proofs.Common.{◌≡◌, ◌<◌, refl, ◌∙◌, subst, arith}
use Rattle.closure.specs.Rows.{holds, OnlyBelow}
use Rattle.closure.proofs.Rounds.{Before, begins, goes_on, ends}
use Rattle.closure.proofs.relation.Relation.close.Goals as goal

pub loop-middle-init : goal.loop-middle-init
loop-middle-init c = let first = c.args.self.now in (refl, begins first.rows first.size)

pub loop-middle-preserved : goal.loop-middle-preserved
loop-middle-preserved c =
    let first = c.args.self.now in
    let l : c.loop-middle.middle < first.size = omega arith in (
      c.join.ensures.size ∙ c.loop-middle.invariant.0,
      goes_on first.rows c.loop-middle.self.rows c.join.new.self.rows first.size c.loop-middle.middle first.small l c.loop-middle.invariant.1 c.join.ensures.steps,
    )

pub returns : goal.returns
returns c =
    let first = c.args.self.now in
    let last = c.loop-middle.self in
    let all : c.loop-middle.middle ≡ first.size = omega arith in
    ends first.rows last.rows first.size (subst (λ n. OnlyBelow n (holds last.rows)) c.loop-middle.invariant.0 last.within)
    (subst (λ k. Before first.rows last.rows first.size k) all c.loop-middle.invariant.1)
