use Rattle.std.proofs.Common.{string_bytes}
use Rattle.std.proofs.lemmas.Result.{IfOk-weaker}
use Rattle.verdict.specs.Texts.{Begins}
use Rattle.verdict.proofs.Joining.{begun}
use Rattle.verdict.proofs.refusals.text.Goals as goal

pub returns : goal.returns
returns g c = IfOk-weaker c.format-2.result _ (λ text. Begins c.args.code (string_bytes text)) (λ _ e. begun c.args.code _ e) c.format-2.ensures.ok
