-- What a walk along records, those of the chain or the free ones, leaves to the next step. No promise to a caller is here.
use Rattle.std.specs.Prelude.{◌≡◌, Option, MatchOption, true, false, cond, ◌||◌, List, ℕ, ◌≤◌, ◌<◌, eqb, length, get_or, take}
use Rattle.table.specs.Lists.{member}
use Rattle.table.specs.Table.{records}
use Rattle.table.specs.Refusal.{bad_length, bad_head, broken}

-- Not refused with 1 or 2: there is a head, and no more records than a list of 4,097 has room for.
pub record Shaped (t : List ℕ) : Type 0 where
  pub whole : bad_length t ≡ false
  pub tagless : bad_head t ≡ false
  pub head : 0 < records t
  pub room : records t ≤ 4097

-- The records ks, those of the chain or the free ones, are within the table, and none is met twice. They are what list has.
pub record Listed (t ks list : List ℕ) : Type 0 where
  pub shaped : Shaped t
  pub sound : broken t ks ≡ false
  pub listed : list ≡ ks

-- A list of 4,097 zeros.
pub record Blank (l : List ℕ) : Type 0 where
  pub long : length l ≡ 4097
  pub zeros : (k : ℕ) → get_or l k 0 ≡ 0

-- mark has 1 at zero, which names no record, and at the records ks, 0 at the others.
pub record Marked (ks mark : List ℕ) : Type 0 where
  pub long : length mark ≡ 4097
  pub marks : (k : ℕ) → get_or mark k 0 ≡ cond (eqb k 0 || member k ks) 1 0

-- The records ks are the first n numbers of list, and they are marked.
pub record Met (t ks : List ℕ) (n : ℕ) (list mark : List ℕ) : Type 0 where
  pub room : n ≤ length list
  pub listed : Listed t ks (take n list)
  pub marked : Marked ks mark

-- What a walk along the records ks answers: how many there are, listed and marked, or None if they are broken.
abbrev pub Walked : List ℕ → List ℕ → Option ℕ → List ℕ → List ℕ → Type 0
Walked t ks r list mark = MatchOption r (broken t ks ≡ true) (λ n. Met t ks n list mark)
