-- The bytes of a file that a span tells. Assumes nothing.
use Rattle.std.specs.Prelude.{ℕ, ◌+◌, cond, List, [], length, take, drop, Some, None, Option, nat_le}
use Rattle.std.specs.Borrow.{Bor}
use Rattle.tables.specs.declared.rows.Span.{Span}

-- none if the span ends behind the file
abbrev pub spanned : List ℕ → Span → List ℕ
spanned b s = cond (nat_le (s.start + s.length) (length b)) (take s.length (drop s.start b)) []

abbrev pub spanned_if : List ℕ → Option Span → Option (List ℕ)
spanned_if b None = None
spanned_if b (Some s) = Some (spanned b s)

abbrev pub spanned_or : List ℕ → Option Span → List ℕ
spanned_or b None = []
spanned_or b (Some s) = spanned b s

-- the bytes that are lent, if some are
abbrev pub lent_if : Option (Bor (List ℕ)) → Option (List ℕ)
lent_if None = None
lent_if (Some r) = Some r.now
