-- The rules of a valid chart, and the number and the layer of each fault. Assumes nothing.
use Rattle.std.specs.Prelude.{ℕ}
use Rattle.validity.specs.declared.faults.Fault.{Fault}
use Rattle.validity.specs.declared.faults.Fault.TheVariants.{UnknownGraph, UnknownOwner, UnknownSource, UnknownTarget, UnknownSuspended, UnknownEffect, InputEffect, NoState, RootNotMacro, OwnerNotMacro, NoGraph, EmptyGraph, TooDeep, AcrossGraphs, FromFinal, StrongAfterWeaker, WeakAfterNormal, SecondNormal, ImmediateNormal, TriggeredNormal, FromUnending, NoNormal, RootSuspended, FinalSuspended, SecondSuspension, UntriggeredSuspension, UnknownOperator, MissingOperand, TooManyStacked, NotOneValue, OnRing}

pub data Rule : Type 0 where
  -- every number names something
  references : Rule
  -- states and graphs nest
  nesting : Rule
  -- transitions stay in a graph and stand in the order of their kinds
  ends : Rule
  -- normal transitions and suspensions stand where they may
  leaving : Rule
  -- triggers come to one value
  triggers : Rule
  -- no ring of chain transitions
  rings : Rule

abbrev pub number_by : Rule → ℕ
number_by references = 21
number_by nesting = 22
number_by ends = 23
number_by leaving = 24
number_by triggers = 25
number_by rings = 26

-- the rule that a fault breaks
abbrev pub rule_of : Fault → Rule
rule_of UnknownGraph = references
rule_of UnknownOwner = references
rule_of UnknownSource = references
rule_of UnknownTarget = references
rule_of UnknownSuspended = references
rule_of UnknownEffect = references
rule_of InputEffect = references
rule_of NoState = nesting
rule_of RootNotMacro = nesting
rule_of OwnerNotMacro = nesting
rule_of NoGraph = nesting
rule_of EmptyGraph = nesting
rule_of TooDeep = nesting
rule_of AcrossGraphs = ends
rule_of FromFinal = ends
rule_of StrongAfterWeaker = ends
rule_of WeakAfterNormal = ends
rule_of SecondNormal = ends
rule_of ImmediateNormal = leaving
rule_of TriggeredNormal = leaving
rule_of FromUnending = leaving
rule_of NoNormal = leaving
rule_of RootSuspended = leaving
rule_of FinalSuspended = leaving
rule_of SecondSuspension = leaving
rule_of UntriggeredSuspension = leaving
rule_of UnknownOperator = triggers
rule_of MissingOperand = triggers
rule_of TooManyStacked = triggers
rule_of NotOneValue = triggers
rule_of OnRing = rings

abbrev pub number_of : Fault → ℕ
number_of f = number_by (rule_of f)

abbrev pub layer_of : Fault → ℕ
layer_of f = 2
