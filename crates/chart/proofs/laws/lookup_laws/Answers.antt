use Rattle.chart.proofs.Reasons.{lookup_laws_lem}
use Rattle.chart.proofs.laws.lookup_laws.Goals as goal

pub returns : goal.returns
returns c = lookup_laws_lem
