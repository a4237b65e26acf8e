use Rattle.std.proofs.Common.{◌≡◌, ◌∷◌, [], List, sym, ap, subst, arith, rules}
use Rattle.std.specs.List.{AllByRecursion}
use Rattle.event_letters.specs.Letters.{HasSpace}
use Rattle.history_frame.specs.declared.events.Sent.{Sent}
use Rattle.log_base.specs.ClusterShape.{Shape}
use Rattle.log_base.specs.Shape.{shape}
use Rattle.node_model.specs.Messages.{copied_message, report_message}
use Rattle.node_model.specs.Nodes.{letter}
use Rattle.node_table.specs.Numbering.{gatherer_of, storage_node}
use Rattle.record_frame.specs.declared.values.Lengths.{Lengths}
use Rattle.record_frame.specs.Values.{IsLengths}
use Rattle.storage_node.specs.Preparing.{IsLetter}
use Rattle.storage_node.specs.StorageState.{StorageState}
use Rattle.storage_node.proofs.Sizes.{ack-length, report-length}
use Rattle.storage_node.proofs.Spaces.{space-front}
use Rattle.storage_node.proofs.Telling.{few-at, state-lengths}
use Rattle.storage_node.proofs.node.StorageNode.tell_copy.Goals as goal

pub send_ack-requires-clause-length : goal.send_ack-requires-clause-length
send_ack-requires-clause-length g c =
    few-at _ _ c.args.segment.0 c.args.len c.self.view_is c.requires.segment c.self.invariant.sound c.requires.length

pub send_ack-requires-clause-space : goal.send_ack-requires-clause-space
send_ack-requires-clause-space g c =
    space-front c.self.inside.made.letters c.args.out.now.rooms (6 ∷ []) (25 ∷ [])
    (subst (λ (v : StorageState). HasSpace v.letters c.args.out.now.rooms (6 ∷ 25 ∷ [])) (sym c.self.view_is) c.requires.space)

pub send_report-requires-clause-lengths : goal.send_report-requires-clause-lengths
send_report-requires-clause-lengths g c =
    let replicas = ap (λ (s : Shape). s.replicas) c.self.invariant.replica.config_is in
    subst (λ (l : Lengths). IsLengths 5 l) (sym c.lengths-lengths.ensures)
    (state-lengths c.self.inside.replica.state (omega (arith, replicas, c.self.inside.seat.config.in_range.some_replica)) (omega (arith, replicas, c.self.inside.seat.config.in_range.replicas))
    c.self.invariant.sound.count c.self.invariant.sound.few)

pub send_report-requires-clause-space : goal.send_report-requires-clause-space
send_report-requires-clause-space g c =
    c.send_ack.ensures.space (25 ∷ [])
    (subst (λ (v : StorageState). HasSpace v.letters c.args.out.now.rooms (6 ∷ 25 ∷ [])) (sym c.self.view_is) c.requires.space)

pub returns-clause-each : goal.returns-clause-each
returns-clause-each g c =
    let few = few-at _ _ c.args.segment.0 c.args.len c.self.view_is c.requires.segment c.self.invariant.sound c.requires.length in
    let own = c.self.inside.seat.own.0 in
    let replicas = ap (λ (s : Shape). s.replicas) c.self.invariant.replica.config_is in
    let lengths : IsLengths 5 c.lengths-lengths.result = subst (λ (l : Lengths). IsLengths 5 l) (sym c.lengths-lengths.ensures)
    (state-lengths c.self.inside.replica.state (omega (arith, replicas, c.self.inside.seat.config.in_range.some_replica)) (omega (arith, replicas, c.self.inside.seat.config.in_range.replicas))
    c.self.invariant.sound.count c.self.invariant.sound.few) in
    let outs : c.told.result.outputs ≡ letter (storage_node (shape c.self.inside.seat.config) c.self.inside.seat.shard.0 c.args.segment.0) (copied_message own c.args.len)
    ∷ letter (gatherer_of (shape c.self.inside.seat.config) c.self.inside.seat.shard.0) (report_message c.self.inside.seat.shard.0 own c.lengths-lengths.result) ∷ [] = search rules in
    let ack = ack-length own c.args.len in
    let report = report-length c.self.inside.seat.shard.0 own c.lengths-lengths.result lengths in
    subst (λ (l : List Sent). AllByRecursion IsLetter l) (sym outs) (
      ((omega (arith, c.self.inside.seat.own_in, c.self.inside.seat.config.in_range.replicas), few), omega (arith, ack)),
      (((omega (arith, c.self.inside.seat.shard_in, c.self.inside.seat.config.in_range.shards), omega (arith, c.self.inside.seat.own_in, c.self.inside.seat.config.in_range.replicas), lengths), omega (arith, report)), tt),
    )
