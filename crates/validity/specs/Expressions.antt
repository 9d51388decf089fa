-- The expressions that triggers are written for. Assumes nothing.
use Rattle.std.specs.Prelude.{ℕ, suc, max, Bool, true, ◌&&◌, List, [], ◌∷◌, ◌++◌, nat_lt}

pub data Expression : Type 0 where
  present : ℕ → Expression
  always : Expression
  negation : Expression → Expression
  conjunction : Expression → Expression → Expression
  disjunction : Expression → Expression → Expression

-- operands first, the operator behind them
abbrev pub postfix : Expression → List ℕ
postfix (present n) = n ∷ []
postfix always = 131 ∷ []
postfix (negation a) = postfix a ++ (130 ∷ [])
postfix (conjunction a b) = postfix a ++ (postfix b ++ (128 ∷ []))
postfix (disjunction a b) = postfix a ++ (postfix b ++ (129 ∷ []))

-- only signals of these many are named, by bytes below 128
abbrev pub names : ℕ → Expression → Bool
names signals (present n) = nat_lt n 128 && nat_lt n signals
names signals always = true
names signals (negation a) = names signals a
names signals (conjunction a b) = names signals a && names signals b
names signals (disjunction a b) = names signals a && names signals b

-- how many values are stacked at most while it is evaluated
abbrev pub height : Expression → ℕ
height (present n) = 1
height always = 1
height (negation a) = height a
height (conjunction a b) = max (height a) (suc (height b))
height (disjunction a b) = max (height a) (suc (height b))
