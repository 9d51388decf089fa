use Rattle.std.proofs.Common.{◌≡◌, ◌*◌, ◌<◌, ◌≤◌, [], ◌∷◌, ◌++◌, length, Ok, vec_items, vec_len, vec_capacity, sym, refl, ap, ◌∙◌, subst, subst₂, arith}
use lib.ListN.{length-map}
use Rattle.std.proofs.lemmas.Slice.{pushed}
use Rattle.std.proofs.lemmas.Result.{err_from_is_err_and}
use Rattle.chart.specs.Fields.{encode_all}
use Rattle.chart.specs.Progress.{before, FieldAt, Next}
use Rattle.chart.specs.Stated.{stated}
use Rattle.chart.proofs.Gathering.{Gathered, gathered_more}
use Rattle.chart.proofs.Rows.{fields_bytes}
use Rattle.chart.proofs.Stepping.{at_is}
use Rattle.chart.proofs.files.gather.Goals as goal

pub loop-placed-preserved : goal.loop-placed-preserved
loop-placed-preserved c =
    let b = c.args.bytes.now in
    let r = c.loop-placed.reader in
    let p = c.in-Some.placed in
    let same = c.loop-placed.invariant.0 in
    let after = c.next.new.self.at in
    let found : FieldAt r.bytes.now r.at p after = subst (λ o. Next r.bytes.now r.at (Ok o) after) c.in-Some.is c.in_ok-placed.ensures.next in
    let place : p.place ≡ length (encode_all (before b r.at)) = found.place ∙ sym (at_is r.bytes.now r.at r.position.within r.position.passed r.position.row) ∙ ap (λ x. length (encode_all (before x r.at))) same in
    let items = pushed {xs = vec_items c.loop-placed.fields} (p ∷ []) refl c.in_ok-push.was c.push.ensures.items in
    let more : before b after ≡ before b r.at ++ (stated p.field ∷ []) = subst (λ x. before x after ≡ before x r.at ++ (stated p.field ∷ [])) same found.row in
    (c.in_ok-placed.ensures.same ∙ same, subst₂ Gathered (sym items) (sym more) (gathered_more (vec_items c.loop-placed.fields) p (before b r.at) place c.loop-placed.invariant.1), omega (arith, c.loop-placed.invariant.2, c.push.ensures.capacity))

-- the vector is full, though a field more was read
pub returns-in_err-push : goal.returns-in_err-push
returns-in_err-push c =
    let b = c.args.bytes.now in
    let r = c.loop-placed.reader in
    let v = c.loop-placed.fields in
    let same = c.loop-placed.invariant.0 in
    let after = c.next.new.self in
    let found : FieldAt r.bytes.now r.at c.in-Some.placed after.at = subst (λ o. Next r.bytes.now r.at (Ok o) after.at) c.in-Some.is c.in_ok-placed.ensures.next in
    let many : length (vec_items v) ≡ length (before r.bytes.now r.at) =
    sym (length-map (vec_items v) (λ p. stated p.field)) ∙ ap length c.loop-placed.invariant.1.fields ∙ ap (λ x. length (before x r.at)) (sym same) in
    let bytes = fields_bytes (before r.bytes.now r.at) in
    let place = at_is r.bytes.now r.at r.position.within r.position.passed r.position.row in
    let end : after.at ≤ length b = omega (arith, after.position.within, ap length (c.in_ok-placed.ensures.same ∙ same)) in
    let full : vec_capacity v ≤ vec_len v = c.in_err-push.ensures.full in
    let short : 3 * vec_capacity c.args.fields.now < length b = omega (arith, v.ok.0, c.loop-placed.invariant.2, found.further) in
    let p = err_from_is_err_and c.from_residual-in_err-push.result c.from_residual-in_err-push.ensures.1 in
    rw (p.1, p.2) short
