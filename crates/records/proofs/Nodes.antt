-- The nodes of an accepted table, listed (`Nodes`): which records stand at the places of the list, each at one, and how many they are. Rests on Accepted
-- and Scan.
use mathlib.Core.Path.{◌≡◌, ap}
use mathlib.Core.Logic.{◌≢◌}
use mathlib.Core.List.{List}
use Prim.Native.Nat.{ℕ, ◌<◌}
use native.Mathlib.Omega.{arith}
use lib.ListN.{length, get_or}
use Rattle.table.specs.Table.{records, chain, Chained}
use Rattle.records.specs.inner.Reading.{Nodes}
use Rattle.table.proofs.Accepted.{records_bounds, chain_distinct, chain_length, chain_within}
use Rattle.chains.proofs.Scan.{places_differ, member_at, place}

module _ {t list : List ℕ} (l : Nodes t list) where
  pub nodes_few : length list < 4097
  nodes_few = omega (arith, ap length l.listed, chain_length t l.accepted, records_bounds t l.accepted)

  pub node_chained : (i : ℕ) → i < length list → Chained t (get_or list i 0)
  node_chained i h = rw (← l.listed) (member_at list i h)

  pub node_place : (k : ℕ) → Chained t k → (i : ℕ) × (i < length list) × (get_or list i 0 ≡ k)
  node_place k m = rw l.listed (place k (chain t) m)

  pub nodes_differ : (i j : ℕ) → i < j → j < length list → get_or list i 0 ≢ get_or list j 0
  nodes_differ i j h m = places_differ list i j (rw l.listed (chain_distinct t l.accepted)) h m

  pub chained_below : (k : ℕ) → Chained t k → k < records t
  chained_below k m = (chain_within t l.accepted k m).1

  pub node_below : (i : ℕ) → i < length list → get_or list i 0 < records t
  node_below i h = chained_below (get_or list i 0) (node_chained i h)

  pub node_fits : (i : ℕ) → i < length list → get_or list i 0 < 4097
  node_fits i h = omega (arith, node_below i h, records_bounds t l.accepted)
