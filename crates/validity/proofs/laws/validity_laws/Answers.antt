use Rattle.validity.proofs.Outcomes.{validity_laws_lem}
use Rattle.validity.proofs.laws.validity_laws.Goals as goal

pub returns : goal.returns
returns c = validity_laws_lem
