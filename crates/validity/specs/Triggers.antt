-- Triggers in postfix: how many values are stacked. Assumes nothing.
use Rattle.std.specs.Prelude.{ℕ, suc, pred, cond, List, [], ◌∷◌, Some, None, Ok, Err, Option, Result, ◌==◌, nat_lt}
use Rattle.validity.specs.declared.faults.Fault.{Fault}
use Rattle.validity.specs.declared.faults.Fault.TheVariants.{UnknownOperator, MissingOperand, TooManyStacked, NotOneValue}

-- one value more
abbrev pub pushed : ℕ → Result ℕ Fault
pushed h = cond (nat_lt h 8) (Ok (suc h)) (Err TooManyStacked)

-- an operator that needs so many operands and leaves this many values
abbrev pub operated : ℕ → ℕ → ℕ → Result ℕ Fault
operated needs h left = cond (nat_lt h needs) (Err MissingOperand) (Ok left)

-- Behind the byte b, with h values stacked in front of it: a signal below 128, and, or, not, yes.
abbrev pub stacked : ℕ → ℕ → ℕ → Result ℕ Fault
stacked signals b h =
    cond (nat_lt b 128) (cond (nat_lt b signals) (pushed h) (Err UnknownOperator))
    (cond (b == 128) (operated 2 h (pred h))
    (cond (b == 129) (operated 2 h (pred h))
    (cond (b == 130) (operated 1 h h)
    (cond (b == 131) (pushed h) (Err UnknownOperator)))))

abbrev pub onwards : Result ℕ Fault → (ℕ → Option Fault) → Option Fault
onwards (Ok h) rest = rest h
onwards (Err f) rest = Some f

-- the first fault of the bytes, with h values stacked in front of them
abbrev pub postfix_fault : ℕ → List ℕ → ℕ → Option Fault
postfix_fault signals [] h = cond (h == 1) None (Some NotOneValue)
postfix_fault signals (b ∷ bs) h = onwards (stacked signals b h) (postfix_fault signals bs)
