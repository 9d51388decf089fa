use Rattle.loading.proofs.Outcomes.{loading_laws_lem}
use Rattle.loading.proofs.laws.loading_laws.Goals as goal

pub returns : goal.returns
returns c = loading_laws_lem
