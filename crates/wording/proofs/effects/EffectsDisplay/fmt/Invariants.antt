use Rattle.std.proofs.Common.{take}
use Rattle.std.specs.Fmt.{HasWritten, IsPlainFormatter}
use Rattle.std.specs.List.{flat_map}
use Rattle.tables.specs.Views.{fields_of}
use Rattle.wording.specs.Shown.{next_shown}
use Rattle.wording.proofs.effects.EffectsDisplay.fmt.Given as goal

-- the others that have come are shown
abbrev pub invariant-loop-other : goal.invariant-loop-other
invariant-loop-other g l =
    IsPlainFormatter l.initial.f → HasWritten g.W.Write.write_str_gives l.initial.f (flat_map (next_shown (fields_of l.self.tables.now)) (take l.other-index l.others)) l.f
