-- Where there is no point, all that is lent for one is kept.
use mathlib.Core.Path.{◌≡◌, refl}
use mathlib.Core.Bool.{Bool, true, false, cond}
use mathlib.Core.List.{List, []}
use lib.Dec.{leb}
use lib.ListN.{length}
use lib.Ieee.{Float}
use Rattle.bt.specs.Bits.{overwritten}

pub no_point : (lent : List Float) → lent ≡ overwritten [] lent
unfolding overwritten
no_point lent = go (leb 2 (length lent))
  where
    go : (b : Bool) → lent ≡ cond b lent lent
    go true = refl
    go false = refl
