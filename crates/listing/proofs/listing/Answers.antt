use Rattle.std.proofs.Common.{string_bytes, subst}
use Rattle.std.proofs.lemmas.Result.{IfOk-weaker}
use Rattle.chart.specs.Reading.{row_of}
use Rattle.chart.specs.Refusals.{code_of}
use Rattle.verdict.specs.Texts.{Told, passes, refused, Ends, Begins}
use Rattle.listing.proofs.listing.Goals as goal

pub returns-in-Ok : goal.returns-in-Ok
returns-in-Ok c =
    let b = c.args.bytes.now in
    IfOk-weaker c.chart_text.result _ (λ text. Told b (string_bytes text))
    (λ text ends. passes (row_of b) c.in-Ok.ensures.0 (subst (λ items. Ends (row_of items) (string_bytes text)) c.in-Ok.ensures.1 ends))
    c.chart_text.ensures

pub returns : goal.returns
returns c =
    let e = c.in-Err.refusal in
    IfOk-weaker c.refusal_text.result (λ text. Begins (code_of e) (string_bytes text)) (λ text. Told c.args.bytes.now (string_bytes text))
    (λ text begins. refused e c.in-Err.ensures.0 begins) c.refusal_text.ensures
