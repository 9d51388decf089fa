use Rattle.std.proofs.Common.{ap, ◌∙◌}
use Rattle.chart.specs.Limits.{exceeded}
use Rattle.chart.specs.Progress.{before}
use Rattle.chart.proofs.Rows.{good}
use Rattle.chart.proofs.reader.Reader.counts_with.Goals as goal

pub with-requires : goal.with-requires
with-requires c = let r = c.args.self.now in ap exceeded r.position.counted ∙ (good (before r.bytes.now r.at) r.position.row).limits
