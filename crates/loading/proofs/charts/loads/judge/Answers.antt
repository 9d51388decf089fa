use Rattle.std.proofs.Common.{Ok, Err, vec_items, sym}
use Rattle.std.proofs.lemmas.Result.{err_from_is_err_and}
use Rattle.loading.proofs.Deciding.{by_format, by_rules}
use Rattle.loading.proofs.charts.loads.judge.Goals as goal

pub returns-in_err-read : goal.returns-in_err-read
returns-in_err-read c =
    let p = err_from_is_err_and c.from_residual.result c.from_residual.ensures.1 in
    rw (p.1, p.2) (sym (by_format c.args.bytes.now c.in_err-read.field-0.0 c.in_err-read.ensures.0))

pub returns-in_err-check : goal.returns-in_err-check
returns-in_err-check c =
    let h = c.in_ok-read.ensures in
    let p = err_from_is_err_and c.from_residual-in_err-check.result c.from_residual-in_err-check.ensures.1 in
    rw (p.1, p.2) (sym (by_rules c.args.bytes.now (vec_items c.read.new.self.file.bytes) (Err c.in_err-check.field-0.0) h.0 h.1 c.in_err-check.ensures))

pub returns : goal.returns
returns c =
    let h = c.in_ok-read.ensures in
    let k = c.in_ok-check.ensures in
    (sym (by_rules c.args.bytes.now (vec_items c.read.new.self.file.bytes) (Ok tt) h.0 h.1 k.valid), h.1, k)
