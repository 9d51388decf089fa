use Rattle.std.proofs.Common.{arith}
use Rattle.std.proofs.lemmas.Bool.{eqb-false}
use Rattle.chart.specs.Files.{empty, too_long}
use Rattle.chart.proofs.Bytes.{bytes_from}
use Rattle.chart.proofs.pieces.check_size.Goals as goal

pub returns-in-0 : goal.returns-in-0
returns-in-0 c = empty c.in-0.is

pub returns-in_default : goal.returns-in_default
returns-in_default c = too_long c.if-length-gt-LONGEST.true

pub returns-in_default-2 : goal.returns-in_default-2
returns-in_default-2 c = (
  record { some = omega (arith, eqb-false); most = c.if-length-gt-LONGEST.false },
  bytes_from c.args.bytes.now (λ i. (c.type_inv.bytes i).fits),
)
