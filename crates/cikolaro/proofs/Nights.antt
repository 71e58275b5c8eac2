-- 01's known nights, all that are marked P, as one statement over two tables: node bytes, and stores played batch by batch, each
-- with any result that the contracts allow. Assumes nothing.
use mathlib.Core.Path.{◌≡◌}
use mathlib.Core.Bool.{true}
use Rattle.codec.proofs.Table as node
use Rattle.tree.proofs.Nights.{nights}
use Rattle.batch.proofs.Nights as batch

pub record KnownNights : Type 0 where
  pub nodes : node.all_hold node.nodes ≡ true
  pub stores : batch.AllShown nights

pub known_nights : KnownNights
known_nights = record { nodes = node.known_nodes; stores = batch.known_nights }
