use Rattle.chart.proofs.Reasons.{format_laws_lem}
use Rattle.chart.proofs.laws.format_laws.Goals as goal

pub returns : goal.returns
returns c = format_laws_lem
