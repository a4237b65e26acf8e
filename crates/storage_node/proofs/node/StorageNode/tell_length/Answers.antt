use Rattle.std.proofs.Common.{◌≡◌, ◌∷◌, [], List, sym, subst, arith, rules}
use Rattle.std.specs.List.{AllByRecursion}
use Rattle.event_letters.specs.Letters.{HasSpace}
use Rattle.history_frame.specs.declared.events.Sent.{Sent}
use Rattle.log_base.specs.Shape.{shape}
use Rattle.node_model.specs.Messages.{copied_message}
use Rattle.node_model.specs.Nodes.{letter}
use Rattle.node_table.specs.Numbering.{storage_node}
use Rattle.storage_node.specs.Preparing.{IsLetter}
use Rattle.storage_node.specs.StorageState.{StorageState}
use Rattle.storage_node.proofs.Sizes.{ack-length}
use Rattle.storage_node.proofs.Spaces.{space-front}
use Rattle.storage_node.proofs.Telling.{few-at}
use Rattle.storage_node.proofs.node.StorageNode.tell_length.Goals as goal

pub send_ack-requires-clause-length : goal.send_ack-requires-clause-length
send_ack-requires-clause-length g c =
    few-at _ _ c.args.segment.0 c.args.len c.self.view_is c.requires.segment c.self.invariant.sound c.requires.length

pub send_ack-requires-clause-space : goal.send_ack-requires-clause-space
send_ack-requires-clause-space g c =
    space-front c.self.inside.made.letters c.args.out.now.rooms (6 ∷ []) (25 ∷ [])
    (subst (λ (v : StorageState). HasSpace v.letters c.args.out.now.rooms (6 ∷ 25 ∷ [])) (sym c.self.view_is) c.requires.space)

pub returns-clause-each : goal.returns-clause-each
returns-clause-each g c =
    let few = few-at _ _ c.args.segment.0 c.args.len c.self.view_is c.requires.segment c.self.invariant.sound c.requires.length in
    let own = c.self.inside.seat.own.0 in
    let outs : c.told.result.outputs ≡ letter (storage_node (shape c.self.inside.seat.config) c.self.inside.seat.shard.0 c.args.segment.0) (copied_message own c.args.len) ∷ [] = search rules in
    subst (λ (l : List Sent). AllByRecursion IsLetter l) (sym outs)
    (((omega (arith, c.self.inside.seat.own_in, c.self.inside.seat.config.in_range.replicas), few), (let size = ack-length own c.args.len in omega (arith, size))), tt)
