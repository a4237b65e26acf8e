-- Each letter of a round is delivered, and the round is under way all the time.
use Rattle.std.proofs.Common.{◌≡◌, ◌%◌, ℕ, zero, suc, List, ◌∷◌, subst}
use Rattle.history_frame.specs.declared.events.Sent.{Sent}
use Rattle.history_frame.specs.declared.inputs.Input.TheVariants.{Deliver}
use Rattle.history_frame.specs.declared.inputs.Mark.TheVariants.{Done}
use Rattle.std.specs.Prelude.{Some}
use Rattle.log_base.specs.ClusterShape.{InRange}
use Rattle.log_base.specs.declared.numbers.NodeId.{NodeId}
use Rattle.log_base.specs.declared.numbers.Replica.{Replica as ReplicaNumber}
use Rattle.log_base.specs.declared.numbers.Shard.{Shard}
use Rattle.log_base.specs.declared.numbers.Slot.{Slot}
use Rattle.message_frame.specs.declared.messages.Message.{Message}
use Rattle.message_frame.specs.declared.messages.Message.TheVariants.{Copy, CopyAck, Report, Least, Prepare, Promised, Lower, Accept, Accepted, Decide, Want}
use Rattle.node_table.specs.declared.role.Role.{Role}
use Rattle.node_table.specs.declared.role.Role.TheVariants.{Gatherer, Orderer}
use Rattle.node_table.specs.Numbering.{IsRole, gatherer_node, node_of, orderer_node, storage_node}
use Rattle.record_frame.specs.declared.entries.Entry.{Entry}
use Rattle.record_frame.specs.declared.values.Lengths.{Lengths}
use Rattle.node_model.specs.NodeState.{NodeState, Storing, Gathering, Ordering}
use Rattle.quiet_model.specs.Moments.{DeliveredIn, IsDelivery, Moment, Takes}
use Rattle.quiet_model.proofs.Follows.{IsTaken, as_role, gatherer_below, goes_on}
use Rattle.quiet_model.proofs.Moving.{moved}
use Rattle.quiet_model.proofs.OthersTaken.{report_taken, want_taken}
use Rattle.quiet_model.proofs.Round.{Round, IsGoodAck, IsGoodCopy, IsGoodMessage, IsGoodReport, IsGoodWant, IsIn, IsRoundOf, IsUnderWay}
use Rattle.quiet_model.proofs.StorageTaken.{ack_taken, copy_taken}

-- the node to which a message goes takes it
pub record IsSomewhere (round : Round) (nodes : ℕ → NodeState) (n : ℕ) (m : Message) (place index : ℕ) : Type 0 where
  pub role : Role
  pub is : IsRole round.config role
  pub at : n ≡ node_of round.config role
  pub taken : IsTaken round m role (nodes (node_of round.config role)) place index

module _ (round : Round) (range : InRange round.config) (lists : IsRoundOf round) where
  copy_at : (n : ℕ) (segment : ReplicaNumber) (offset : ℕ) (entry : Entry) (g : IsGoodCopy round n segment.0 offset entry) (place index : ℕ)
      → (state : NodeState) → IsIn round (as_role g.shard g.replica) state → IsTaken round (Copy segment offset entry) (as_role g.shard g.replica) state place index
  copy_at n segment offset entry g place index (Storing node) h =
      copy_taken round range lists g.shard g.replica g.shard_below g.replica_below node h segment offset entry g.segment_below g.other g.offset_is g.entry_is place index
  copy_at n segment offset entry g place index (Gathering node) h = absurd h
  copy_at n segment offset entry g place index (Ordering node) h = absurd h

  ack_at : (n : ℕ) (peer : ReplicaNumber) (held : ℕ) (g : IsGoodAck round n peer.0 held) (place index : ℕ)
      → (state : NodeState) → IsIn round (as_role g.shard g.primary) state → IsTaken round (CopyAck peer held) (as_role g.shard g.primary) state place index
  ack_at n peer held g place index (Storing node) h =
      ack_taken round range lists g.shard g.primary g.shard_below g.primary_below node h peer held g.peer_below g.other g.most place index
  ack_at n peer held g place index (Gathering node) h = absurd h
  ack_at n peer held g place index (Ordering node) h = absurd h

  report_at : (n : ℕ) (shard : Shard) (replica : ReplicaNumber) (said : Lengths) (g : IsGoodReport round n shard.0 replica.0 said) (place index : ℕ)
      → (state : NodeState) → IsIn round (Gatherer (shard.0 % round.config.gatherers)) state
      → IsTaken round (Report shard replica said) (Gatherer (shard.0 % round.config.gatherers)) state place index
  report_at n shard replica said g place index (Gathering node) h =
      report_taken round range (shard.0 % round.config.gatherers) (gatherer_below round.config shard.0 range) node h shard replica said g.shard_below g.replica_below g.heard place index
  report_at n shard replica said g place index (Storing node) h = absurd h
  report_at n shard replica said g place index (Ordering node) h = absurd h

  want_at : (n : ℕ) (slot : Slot) (asker : NodeId) (g : IsGoodWant round n slot.0) (place index : ℕ)
      → (state : NodeState) → IsIn round (Orderer g.index) state → IsTaken round (Want slot asker) (Orderer g.index) state place index
  want_at n slot asker g place index (Ordering node) h = want_taken round g.index g.below node h slot asker g.past place index
  want_at n slot asker g place index (Storing node) h = absurd h
  want_at n slot asker g place index (Gathering node) h = absurd h

  module _ (nodes : ℕ → NodeState) (all : (role : Role) → IsRole round.config role → IsIn round role (nodes (node_of round.config role))) (n place index : ℕ) where
    somewhere : (m : Message) → IsGoodMessage round n m → IsSomewhere round nodes n m place index
    somewhere (Copy segment offset entry) g = record {
      role = as_role g.shard g.replica;
      is = (g.shard_below, g.replica_below);
      at = g.at;
      taken = copy_at n segment offset entry g place index (nodes (storage_node round.config g.shard g.replica)) (all (as_role g.shard g.replica) (g.shard_below, g.replica_below));
    }
    somewhere (CopyAck peer held) g = record {
      role = as_role g.shard g.primary;
      is = (g.shard_below, g.primary_below);
      at = g.at;
      taken = ack_at n peer held g place index (nodes (storage_node round.config g.shard g.primary)) (all (as_role g.shard g.primary) (g.shard_below, g.primary_below));
    }
    somewhere (Report shard replica said) g = record {
      role = Gatherer (shard.0 % round.config.gatherers);
      is = gatherer_below round.config shard.0 range;
      at = g.at;
      taken = report_at n shard replica said g place index (nodes (gatherer_node round.config (shard.0 % round.config.gatherers)))
          (all (Gatherer (shard.0 % round.config.gatherers)) (gatherer_below round.config shard.0 range));
    }
    somewhere (Want slot asker) g = record {
      role = Orderer g.index;
      is = g.below;
      at = g.at;
      taken = want_at n slot asker g place index (nodes (orderer_node round.config g.index)) (all (Orderer g.index) g.below);
    }
    somewhere (Least shard lengths) g = absurd g
    somewhere (Prepare ballot slot) g = absurd g
    somewhere (Promised ballot slot who votes) g = absurd g
    somewhere (Lower ballot promise) g = absurd g
    somewhere (Accept ballot slot value) g = absurd g
    somewhere (Accepted ballot slot who) g = absurd g
    somewhere (Decide slot value) g = absurd g

  delivered : (before after : Moment) → IsUnderWay round before → IsDelivery round.config before after → IsUnderWay round after
  delivered before after under d =
      let old : IsUnderWay round (record { nodes = before.nodes; queue = d.sent ∷ d.rest }) =
      subst (λ (queue : List Sent). IsUnderWay round (record { nodes = before.nodes; queue = queue })) d.first under in
      let some : IsSomewhere round before.nodes d.sent.to.0 d.sent.message d.place d.index =
      somewhere before.nodes old.nodes d.sent.to.0 d.place d.index d.sent.message old.letters.0 in
      let taken : Takes round.config (record { nodes = before.nodes; queue = d.rest }) (node_of round.config some.role) (Deliver d.place d.index (Some d.sent.message)) Done d.reply after =
      subst (λ (n : ℕ). Takes round.config (record { nodes = before.nodes; queue = d.rest }) n (Deliver d.place d.index (Some d.sent.message)) Done d.reply after) some.at d.taken in
      goes_on round range d.sent (record { nodes = before.nodes; queue = d.rest }) after some.role some.is some.at some.taken.made
      (moved round.config (record { nodes = before.nodes; queue = d.rest }) after some.role (Deliver d.place d.index (Some d.sent.message)) Done d.reply some.is taken some.taken.made some.taken.rule)
      old some.taken.handled

  pub all_delivered : (count : ℕ) (before after : Moment) → IsUnderWay round before → DeliveredIn round.config count before after → IsUnderWay round after
  all_delivered zero before after under same = subst (IsUnderWay round) same under
  all_delivered (suc count) before after under more = all_delivered count more.0 after (delivered before more.0 under more.1) more.2
