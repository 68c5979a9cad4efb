-- A new array is blank.
use mathlib.Core.Path.{◌≡◌, refl}
use Prim.Native.Nat.{ℕ, zero, suc}
use lib.ListN.{get_or, replicate, length-replicate}
use Rattle.chains.specs.inner.Listing.{Blank}

at_zeros : (n k : ℕ) → ◌≡◌ {A = ℕ} (get_or (replicate n 0) k 0) 0
at_zeros zero k = refl
at_zeros (suc n) zero = refl
at_zeros (suc n) (suc k) = at_zeros n k

pub blank : Blank (replicate 4097 0)
blank = record { long = length-replicate {A = ℕ} 4097 0; zeros = at_zeros 4097 }
