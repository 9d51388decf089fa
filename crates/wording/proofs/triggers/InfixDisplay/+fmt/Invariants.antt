use Rattle.std.proofs.Common.{length}
use Rattle.wording.proofs.triggers.InfixDisplay.+fmt.Given as goal

abbrev pub decreases-fmt : goal.decreases-fmt
decreases-fmt g l = length l.self.now.postfix.now
