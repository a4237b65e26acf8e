-- What stays so when lists grow at their ends.
use Rattle.std.proofs.Common.{◌≡◌, ◌+◌, ◌*◌, ◌<◌, ◌≤◌, ℕ, List, length, slice_get, Option, Some, None, sym, ap, subst, arith}
use Rattle.std.specs.Prelude.{slice_index}
use Rattle.aggregator.specs.Hearing.{Hearing}
use Rattle.log_base.specs.ClusterShape.{Shape}
use Rattle.log_model.specs.Storage.{Knowledge}
use Rattle.message_frame.specs.declared.messages.Message.{Message}
use Rattle.message_frame.specs.declared.messages.Message.TheVariants.{Copy, CopyAck, Report, Least, Prepare, Promised, Lower, Accept, Accepted, Decide, Want}
use Rattle.node_table.specs.declared.role.Role.{Role}
use Rattle.node_table.specs.declared.role.Role.TheVariants.{Storage, Gatherer, Orderer}
use Rattle.node_table.specs.Numbering.{IsRole}
use Rattle.paxos_model.specs.Leader.{Leader, Pending}
use Rattle.paxos_model.specs.Votes.{Payload, Promise, Voted}
use Rattle.record_frame.specs.declared.entries.Entry.{Entry}
use Rattle.record_frame.specs.declared.values.Lengths.{Lengths}
use Rattle.record_frame.specs.declared.values.Value.{Value}
use Rattle.record_frame.specs.declared.values.Value.TheVariants.{Noop, Cut, Add, Finalise, Trim}
use Rattle.node_model.specs.Fits.{IsMessageOf}
use Rattle.node_model.specs.GathererRow.{GathererNode}
use Rattle.node_model.specs.Marks.{Running, Stopped}
use Rattle.node_model.specs.OrdererNode.{Mode, Node}
use Rattle.node_model.specs.StorageNode.{Put, Replica, StorageMode, StorageNode}
use Rattle.agreement_law.specs.Fine.{IsFineLead, IsFineMode, IsFineNode, IsFinePayload, IsFinePending}
use Rattle.safety_law.specs.Fit.{CanPut, IsGatherer, IsHearing, IsKnowing, IsOrderer, IsReplica, IsReplicaMode, IsReplicaNode}
use Rattle.safety_law.specs.Letters.{AreHeldBy, IsGoodMessage, IsTrue, IsTrueAck, IsTrueCopy, IsTrueReport}
use Rattle.safety_law.specs.Lists.{Grow, IsHeldValue, IsSafeValue, IsSegment, Lists}
use Rattle.safety_law.proofs.Prefixes.{prefix_at, prefix_length}

-- what is so of each value stays so where a weaker thing is asked
module _ (F G : Value → Type 0) (more : (v : Value) → F v → G v) where
  payload_more : (p : Option Payload) → IsFinePayload F p → IsFinePayload G p
  payload_more None h = tt
  payload_more (Some (Promise b)) h = tt
  payload_more (Some (Voted x)) h = more x.value h

  pending_more : (p : Option Pending) → IsFinePending F p → IsFinePending G p
  pending_more None h = tt
  pending_more (Some p) h = more p.value h

  lead_more : (l : Option Leader) → IsFineLead F l → IsFineLead G l
  lead_more None h = tt
  lead_more (Some l) h = record { best = λ j x e. more x.value (h.best j x e); waits = pending_more l.pending h.waits }

  mode_more : (m : Mode) → IsFineMode F m → IsFineMode G m
  mode_more (Stopped flight known) h = (payload_more flight h.0, λ v a. more v (h.1 v a))
  mode_more (Running o) h = record {
    knows = λ v a. more v (h.knows v a);
    hears = more (Cut o.heard) h.hears;
    wants = λ w a. more w.value (h.wants w a);
    leads = lead_more o.leader h.leads;
  }

  pub node_more : (node : Node) → IsFineNode F node → IsFineNode G node
  node_more node h = record { kept = λ x a. more x.value (h.kept x a); mode = mode_more node.mode h.mode }

module _ (config : Shape) (lists now : Lists) (grow : Grow config lists now) where
  longer : (s r j n : ℕ) → IsSegment config s r j → n ≤ length (lists s r j) → n ≤ length (now s r j)
  longer s r j n inside h = let more = prefix_length (lists s r j) (now s r j) (grow s r j inside) in omega (arith, more, h)

  pub held_grows : (v : Value) → IsHeldValue config lists v → IsHeldValue config now v
  held_grows Noop h = tt
  held_grows (Cut lengths) h = λ s r j inside. longer s r j (slice_index lengths.length (s * config.replicas + j)) inside (h s r j inside)
  held_grows (Add shard) h = tt
  held_grows (Finalise shard) h = tt
  held_grows (Trim position) h = tt

  pub safe_grows : (v : Value) → IsSafeValue config lists v → IsSafeValue config now v
  safe_grows v h = record { range = h.range; of_config = h.of_config; held = held_grows v h.held }

  pub held_by_grows : (s r : ℕ) (lengths : Lengths) → s < config.shards → r < config.replicas → AreHeldBy config lists s r lengths → AreHeldBy config now s r lengths
  held_by_grows s r lengths a b h = λ j c. longer s r j (slice_index lengths.length j) (record { shard_below = a; replica_below = b; segment_below = c }) (h j c)

  report_grows : (s r : ℕ) (lengths : Lengths) → s < config.shards → r < config.replicas → IsTrueReport config lists s r lengths → IsTrueReport config now s r lengths
  report_grows s r lengths a b h = record { range = h.range; count = h.count; held = held_by_grows s r lengths a b h.held }

  copy_grows : (role : Role) → IsRole config role → (segment offset : ℕ) (entry : Entry) → segment < config.replicas
      → IsTrueCopy lists role segment offset entry → IsTrueCopy now role segment offset entry
  copy_grows (Storage s t) is segment offset entry inside h =
      (h.0, prefix_at (lists s.0 segment segment) (now s.0 segment segment) offset entry (grow s.0 segment segment (record { shard_below = is.0; replica_below = inside; segment_below = inside })) h.1)
  copy_grows (Gatherer index) is segment offset entry inside h = absurd h
  copy_grows (Orderer index) is segment offset entry inside h = absurd h

  ack_grows : (role : Role) → IsRole config role → (peer held : ℕ) → peer < config.replicas → IsTrueAck lists role peer held → IsTrueAck now role peer held
  ack_grows (Storage s t) is peer held inside h = (h.0, longer s.0 peer t.0 held (record { shard_below = is.0; replica_below = inside; segment_below = is.1 }) h.1)
  ack_grows (Gatherer index) is peer held inside h = absurd h
  ack_grows (Orderer index) is peer held inside h = absurd h

  truth_grows : (role : Role) → IsRole config role → (m : Message) → IsMessageOf config m → IsTrue config lists role m → IsTrue config now role m
  truth_grows role is (Copy segment offset entry) of h = copy_grows role is segment.0 offset entry of h
  truth_grows role is (CopyAck peer held) of h = ack_grows role is peer.0 held of h
  truth_grows role is (Report shard replica lengths) of h = held_by_grows shard.0 replica.0 lengths of.0 of.1 h
  truth_grows role is (Least shard lengths) of h = λ r a. held_by_grows shard.0 r lengths of.0 a (h r a)
  truth_grows role is (Prepare ballot slot) of h = tt
  truth_grows role is (Promised ballot slot who votes) of h = λ x a. held_grows x.value (h x a)
  truth_grows role is (Lower ballot promise) of h = tt
  truth_grows role is (Accept ballot slot value) of h = held_grows value h
  truth_grows role is (Accepted ballot slot who) of h = tt
  truth_grows role is (Decide slot value) of h = held_grows value h
  truth_grows role is (Want slot node) of h = h

  pub message_grows : (role : Role) → IsRole config role → (m : Message) → IsGoodMessage config lists role m → IsGoodMessage config now role m
  message_grows role is m h = record { named = h.named; range = h.range; of_config = h.of_config; truth = truth_grows role is m h.of_config h.truth }

  module _ (s r : ℕ) (a : s < config.shards) (b : r < config.replicas) where
    knowing_grows : (known : Knowledge) → IsKnowing config lists s r known → IsKnowing config now s r known
    knowing_grows known h = record {
      covered = λ j c. longer s r j _ (record { shard_below = a; replica_below = b; segment_below = c }) (h.covered j c);
      few = h.few;
    }

    pub replica_grows : (memory : Replica) → IsReplica config lists s r memory → IsReplica config now s r memory
    replica_grows memory h = record {
      knows = knowing_grows memory.known h.knows;
      acked = λ p c other. longer s p r _ (record { shard_below = a; replica_below = c; segment_below = b }) (h.acked p c other);
    }

    -- what is in flight still may be put where the own lists stay
    put_grows : ((j : ℕ) → now s r j ≡ lists s r j) → (put : Option Put) → CanPut config lists s r put → CanPut config now s r put
    put_grows same None h = tt
    put_grows same (Some put) h = record {
      segment = h.segment;
      entry = h.entry;
      room = let e = ap length (same put.segment) in omega (arith, e, h.room);
      copied = λ other.
          subst (λ (l : List Entry). slice_get (now s put.segment put.segment) (length l) ≡ Some put.entry) (sym (same put.segment))
          (prefix_at (lists s put.segment put.segment) (now s put.segment put.segment) (length (lists s r put.segment)) put.entry
          (grow s put.segment put.segment (record { shard_below = a; replica_below = h.segment; segment_below = h.segment })) (h.copied other));
    }

    pub replica_mode_grows : ((j : ℕ) → now s r j ≡ lists s r j) → (m : StorageMode) → IsReplicaMode config lists s r m → IsReplicaMode config now s r m
    replica_mode_grows same (Stopped flight known) h = (put_grows same flight h.0, knowing_grows known h.1)
    replica_mode_grows same (Running memory) h = replica_grows memory h

    pub replica_node_grows : ((j : ℕ) → now s r j ≡ lists s r j) → (node : StorageNode) → IsReplicaNode config lists s r node → IsReplicaNode config now s r node
    replica_node_grows same node h = record { size = h.size; mode = replica_mode_grows same node.mode h.mode }

  pub hearing_grows : (hearing : Hearing) → IsHearing config lists hearing → IsHearing config now hearing
  hearing_grows hearing h = record {
    replicas = h.replicas;
    size = h.size;
    heard = λ s r a b said e. report_grows s r said a b (h.heard s r a b said e);
  }

  pub gatherer_grows : (node : GathererNode) → IsGatherer config lists node → IsGatherer config now node
  gatherer_grows node h = λ hearing e. hearing_grows hearing (h hearing e)

  pub orderer_grows : (node : Node) → IsOrderer config lists node → IsOrderer config now node
  orderer_grows node h = record {
    values = node_more (IsSafeValue config lists) (IsSafeValue config now) safe_grows node h.values;
    numbers = h.numbers;
  }
