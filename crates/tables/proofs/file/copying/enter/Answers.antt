use Rattle.std.proofs.Common.{◌≡◌, ◌+◌, ◌≤◌, [], ◌∷◌, ◌++◌, length, Ok, vec_items, sym, ap, ◌∙◌, subst, subst₂, arith}
use Rattle.std.proofs.lemmas.List.{length_push}
use Rattle.chart.specs.declared.kinds.Tag.TheVariants.{State, Graph, Transition, Suspension}
use Rattle.chart.specs.Fields.{encode_all, is}
use Rattle.chart.specs.Progress.{before, FieldAt, Next}
use Rattle.chart.specs.Stated.{stated}
use Rattle.chart.proofs.Rows.{fields_bytes}
use Rattle.chart.proofs.Stepping.{at_is}
use Rattle.tables.specs.declared.rows.Entry.{Entry}
use Rattle.tables.specs.Entries.{Entered}
use Rattle.tables.proofs.Entering.{Counted, counted_more, count_most, is_behind, entered_more}
use Rattle.tables.proofs.file.copying.enter.Goals as goal

pub push_reserved-requires : goal.push_reserved-requires
push_reserved-requires c =
    let r = c.loop-placed.reader in
    let v = c.loop-placed.entries in
    let after = c.next.new.self in
    let found : FieldAt r.bytes.now r.at c.in-Some.placed after.at = subst (λ o. Next r.bytes.now r.at (Ok o) after.at) c.in-Some.is c.in_ok-placed.ensures.next in
    let many : length (vec_items v) ≡ length (before r.bytes.now r.at) = c.loop-placed.invariant.1.counted ∙ ap (λ x. length (before x r.at)) (sym c.loop-placed.invariant.0) in
    let one : length (before r.bytes.now after.at) ≡ length (before r.bytes.now r.at) + 1 = ap length found.row ∙ length_push (before r.bytes.now r.at) (stated c.in-Some.placed.field) in
    let more : length (before after.bytes.now after.at) ≡ length (before r.bytes.now after.at) = ap (λ x. length (before x after.at)) c.in_ok-placed.ensures.same in
    let bytes = fields_bytes (before after.bytes.now after.at) in
    let place = at_is after.bytes.now after.at after.position.within after.position.passed after.position.row in
    let end : after.at ≤ length r.bytes.now = omega (arith, after.position.within, ap length c.in_ok-placed.ensures.same) in
    omega (arith, v.ok.0, c.loop-placed.invariant.3, c.in_ok-placed.ensures.sized.most)

pub after-next-requires : goal.after-next-requires
after-next-requires c =
    let r = c.loop-placed.reader in
    let fs = before c.args.bytes.now r.at in
    let bytes = fields_bytes (before r.bytes.now r.at) in
    let place = at_is r.bytes.now r.at r.position.within r.position.passed r.position.row in
    let after = c.next.new.self in
    let found : FieldAt r.bytes.now r.at c.in-Some.placed after.at = subst (λ o. Next r.bytes.now r.at (Ok o) after.at) c.in-Some.is c.in_ok-placed.ensures.next in
    let many : length fs ≡ length (before r.bytes.now r.at) = ap (λ x. length (before x r.at)) (sym c.loop-placed.invariant.0) in
    let few : length fs ≤ 5461 = omega (arith, r.position.within, c.in_ok-placed.ensures.sized.most) in
    let n = c.loop-placed.invariant.2 in (
      omega (arith, n.states, count_most (is State) fs),
      omega (arith, n.graphs, count_most (is Graph) fs),
      omega (arith, n.transitions, count_most (is Transition) fs),
      omega (arith, n.suspensions, count_most (is Suspension) fs),
    )

pub loop-placed-preserved : goal.loop-placed-preserved
loop-placed-preserved c =
    let b = c.args.bytes.now in
    let r = c.loop-placed.reader in
    let v = c.loop-placed.entries in
    let p = c.in-Some.placed in
    let same = c.loop-placed.invariant.0 in
    let after = c.next.new.self.at in
    let fs = before b r.at in
    let found : FieldAt r.bytes.now r.at p after = subst (λ o. Next r.bytes.now r.at (Ok o) after) c.in-Some.is c.in_ok-placed.ensures.next in
    let at = at_is r.bytes.now r.at r.position.within r.position.passed r.position.row in
    let n = c.loop-placed.invariant.2 in
    let place : p.place ≡ length (encode_all fs) = found.place ∙ sym at ∙ ap (λ x. length (encode_all (before x r.at))) same in
    let more : before b after ≡ fs ++ (stated p.field ∷ []) = subst (λ x. before x after ≡ before x r.at ++ (stated p.field ∷ [])) same found.row in
    let here = is_behind fs c.loop-placed.next p.place n place in
    let e : Entry = record { place = p.place; states = c.loop-placed.next.states; graphs = c.loop-placed.next.graphs; transitions = c.loop-placed.next.transitions; suspensions = c.loop-placed.next.suspensions } in
    let counts : Counted fs e = record { states = n.states; graphs = n.graphs; transitions = n.transitions; suspensions = n.suspensions } in (
      c.in_ok-placed.ensures.same ∙ same,
      subst₂ Entered (sym more) (sym c.push_reserved.ensures.items) (entered_more fs (stated p.field) (vec_items v) e here c.loop-placed.invariant.1),
      subst₂ Counted (sym more) (sym c.after-next.ensures) (counted_more fs (stated p.field) e counts),
      omega (arith, c.loop-placed.invariant.3, c.push_reserved.ensures.capacity),
    )
