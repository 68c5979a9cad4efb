-- Decimal fields (document 01, the last part of "Sheets worked by hand"). Bytes are ASCII: 48 is the digit 0, 32 the space, 10 the line feed.
use Rattle.std.specs.Prelude.{true, false, List, [], ◌∷◌, ◌++◌, ℕ, zero, suc, ◌+◌, ◌/◌, ◌%◌, ltb}

-- "Fields are decimal": the digits of n, the first of them not 0 unless it is the only one; at most m of them
unfoldable pub digits : ℕ → ℕ → List ℕ
digits zero n = []
digits (suc m) n = elim (ltb n 10) [ true ↦ (48 + n) ∷ [] | false ↦ digits m (n / 10) ++ ((48 + n % 10) ∷ []) ]

-- A number n has no more than n + 1 digits: none is cut off (`DigitsWhole`, promises).
unfoldable pub decimal : ℕ → List ℕ
decimal n = digits (suc n) n

-- "with one space between, each line ended by a line feed": what follows the first word of a line
unfoldable pub fields : List ℕ → List ℕ
fields [] = 10 ∷ []
fields (n ∷ ns) = 32 ∷ (decimal n ++ fields ns)
