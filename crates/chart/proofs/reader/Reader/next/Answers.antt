use Rattle.std.proofs.Common.{◌≤◌, length, sym, subst, arith, false-eqb}
use Rattle.chart.specs.Files.{Refused}
use Rattle.chart.specs.Stated.{stated}
use Rattle.chart.proofs.Moving.{left, refused_next, cut_refused, fault_refused, limit_refused, row_is, moved}
use Rattle.chart.proofs.reader.Reader.next.Goals as goal

pub returns-in_err-piece-clause-next : goal.returns-in_err-piece-clause-next
returns-in_err-piece-clause-next c =
    let r = c.args.self.now in
    let some : 1 ≤ length (left r) = omega (arith, false-eqb _ 0 c.if-is_empty.ensures) in
    let no = cut_refused r c.in_ok-check_size.ensures.0 some c.in_err-piece.ensures.0 in
    refused_next r _ _ c.from_residual-in_err-piece.ensures.1 (subst (Refused r.bytes.now) (sym c.in_err-piece.ensures.1) no)

pub returns-in_err-field-clause-next : goal.returns-in_err-field-clause-next
returns-in_err-field-clause-next c =
    let r = c.args.self.now in
    let size = c.in_ok-check_size.ensures in
    let piece = c.in_ok-piece.piece in
    let no = fault_refused r size.0 size.1 piece.code piece.contents.now c.in_ok-piece.ensures c.in_err-field.field-0.0 c.in_err-field.ensures in
    refused_next r _ _ c.from_residual-in_err-field.ensures.1 no

pub returns-in_err-counts-clause-next : goal.returns-in_err-counts-clause-next
returns-in_err-counts-clause-next c =
    let r = c.args.self.now in
    let size = c.in_ok-check_size.ensures in
    let piece = c.in_ok-piece.piece in
    let f = stated c.in_ok-field.field in
    let no = limit_refused r size.0 size.1 piece.code piece.contents.now c.in_ok-piece.ensures f c.in_ok-field.ensures c.in_err-counts.field-0.0 c.in_err-counts.ensures in
    refused_next r _ _ c.from_residual-in_err-counts.ensures.1 no

pub pass-requires : goal.pass-requires
pass-requires c =
    let r = c.args.self.now in
    let size = c.in_ok-check_size.ensures in
    let piece = c.in_ok-piece.piece in
    let f = stated c.in_ok-field.field in
    record {
      stands = moved r size.0 size.1 piece.code piece.contents.now c.in_ok-piece.ensures f c.in_ok-field.ensures c.in_ok-counts.counts c.in_ok-counts.ensures;
      row = row_is r size.0 size.1 piece.code piece.contents.now c.in_ok-piece.ensures f c.in_ok-field.ensures c.in_ok-counts.counts c.in_ok-counts.ensures;
    }
