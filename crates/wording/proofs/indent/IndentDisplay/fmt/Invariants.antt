use Rattle.std.specs.Fmt.{HasWritten, IsPlainFormatter}
use Rattle.wording.specs.Shown.{blanks}
use Rattle.wording.proofs.indent.IndentDisplay.fmt.Given as goal

-- the blanks of the levels so far are written
abbrev pub invariant-loop : goal.invariant-loop
invariant-loop g l = IsPlainFormatter l.initial.f → HasWritten g.W.Write.write_str_gives l.initial.f (blanks l.counter) l.f
