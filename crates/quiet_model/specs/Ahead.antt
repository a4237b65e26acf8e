-- A moment at which primaries may be ahead of their peers: each may hold one entry more at the end of its own list.
use Rattle.std.specs.Prelude.{◌≡◌, ℕ, ◌<◌, List, [], ◌∷◌, ◌++◌, slice_set, ◌==◌, if◌then◌else◌}
use Rattle.log_base.specs.ClusterShape.{Shape}
use Rattle.log_model.specs.Storage.{with_entry}
use Rattle.node_table.specs.declared.role.Role.{Role}
use Rattle.node_table.specs.Numbering.{IsRole, node_of}
use Rattle.record_frame.specs.declared.entries.Entry.{Entry}
use Rattle.quiet_model.specs.Moments.{Moment}
use Rattle.quiet_model.specs.Settled.{Agreed, AreLists, ListsOf, Stands, all_acked, list_at}

-- a list is as it was, or has one entry more
pub data IsAsOrMore (old new : List Entry) : Type 0 where
  Same : new ≡ old → IsAsOrMore old new
  More : (entry : Entry) → new ≡ old ++ entry ∷ [] → IsAsOrMore old new

abbrev pub AreAsOrMore : Shape → ListsOf → ListsOf → Type 0
AreAsOrMore config from to = (shard segment : ℕ) → shard < config.shards → segment < config.replicas
    → IsAsOrMore (list_at from shard segment) (list_at to shard segment)

-- what a replica holds: its own list is the new one, and the others are the old ones
abbrev pub own_ahead : ListsOf → ListsOf → ℕ → ℕ → List (List Entry)
own_ahead from to shard replica = slice_set (from shard) replica (list_at to shard replica)

-- All is settled at some lists, but each primary's own list is that of the new lists.
pub record IsAhead (config : Shape) (agreed : Agreed) (from to : ListsOf) (moment : Moment) : Type 0 where
  pub old_sizes : AreLists config from
  pub new_sizes : AreLists config to
  pub more : AreAsOrMore config from to
  pub nodes : (role : Role) → IsRole config role → Stands config agreed (own_ahead from to) (all_acked from) from role (moment.nodes (node_of config role))
  pub queue : moment.queue ≡ []

-- the lists once one has an entry more
abbrev pub with_one_more : ListsOf → ℕ → ℕ → Entry → ListsOf
with_one_more lists shard segment entry other = if other == shard then with_entry (lists other) segment entry else lists other
