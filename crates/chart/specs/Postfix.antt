-- What the bytes of a trigger in postfix mean. Assumes nothing.
use Rattle.std.specs.Prelude.{ℕ, cond, Ok, Err, Result, ◌==◌, nat_lt}
use Rattle.chart.specs.declared.postfix.Symbol.{Symbol}
use Rattle.chart.specs.declared.postfix.Symbol.TheVariants.{Signal, And, Or, Not, Yes}
use Rattle.chart.specs.declared.postfix.UnknownSymbol.{UnknownSymbol}

abbrev pub unknown : ℕ → UnknownSymbol
unknown b = record { 0 = b }

-- a signal below 128, and, or, not, yes
abbrev pub symbol_from : ℕ → Result Symbol UnknownSymbol
symbol_from b =
    cond (nat_lt b 128) (Ok (Signal b)) (cond (b == 128) (Ok And) (cond (b == 129) (Ok Or) (cond (b == 130) (Ok Not) (cond (b == 131) (Ok Yes) (Err (unknown b))))))
