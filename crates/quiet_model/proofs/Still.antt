-- A settled moment is one at which no primary is ahead.
use Rattle.std.proofs.Common.{◌*◌, List, length, refl, sym, subst}
use Rattle.history_frame.specs.declared.inputs.Input.TheVariants.{Tick}
use Rattle.history_frame.specs.declared.inputs.Mark.TheVariants.{Done}
use Rattle.log_base.specs.ClusterShape.{InRange, Shape}
use Rattle.node_table.specs.declared.role.Role.{Role}
use Rattle.node_table.specs.declared.role.Role.TheVariants.{Storage, Gatherer, Orderer}
use Rattle.node_table.specs.Numbering.{node_of}
use Rattle.record_frame.specs.declared.entries.Entry.{Entry}
use Rattle.node_model.specs.NodeState.{NodeState, Storing, Gathering, Ordering}
use Rattle.quiet_model.specs.Ahead.{IsAhead, Same, own_ahead}
use Rattle.quiet_model.specs.Moments.{IsRound, Moment}
use Rattle.quiet_model.specs.Settled.{Agreed, AreHeard, IsReplica, IsSettled, ListsOf, Stands, all_acked, list_at, lists_held}
use Rattle.quiet_model.proofs.Copying.{copied_round}
use Rattle.quiet_model.proofs.Lists.{set_same}

module _ (config : Shape) (agreed : Agreed) (lists : ListsOf) where
  node_is_ahead : (role : Role) (state : NodeState) → Stands config agreed (lists_held lists) (all_acked lists) lists role state
      → Stands config agreed (own_ahead lists lists) (all_acked lists) lists role state
  node_is_ahead (Storage s r) (Storing node) h =
      subst (λ (held : List (List Entry)). IsReplica config s.0 r.0 held (length (list_at lists s.0 r.0)) agreed.values node) (sym (set_same (lists s.0) r.0)) h
  node_is_ahead (Gatherer i) (Gathering node) h = h
  node_is_ahead (Orderer i) (Ordering node) h = h
  node_is_ahead (Storage s r) (Gathering node) h = absurd h
  node_is_ahead (Storage s r) (Ordering node) h = absurd h
  node_is_ahead (Gatherer i) (Storing node) h = absurd h
  node_is_ahead (Gatherer i) (Ordering node) h = absurd h
  node_is_ahead (Orderer i) (Storing node) h = absurd h
  node_is_ahead (Orderer i) (Gathering node) h = absurd h

  pub none_ahead : (moment : Moment) → IsSettled config agreed lists moment → IsAhead config agreed lists lists moment
  none_ahead moment h = record {
    old_sizes = h.sizes;
    new_sizes = h.sizes;
    more = λ s p a b. Same refl;
    nodes = λ role is. node_is_ahead role (moment.nodes (node_of config role)) (h.nodes role is);
    queue = h.queue;
  }

  pub still_round : (before after : Moment) → InRange config → IsSettled config agreed lists before
      → IsRound config Tick Done 0 (config.replicas * config.shards) before after
      → IsSettled config agreed lists after × AreHeard config lists after
  still_round before after range h round = copied_round config agreed lists lists before after range (none_ahead before h) round
