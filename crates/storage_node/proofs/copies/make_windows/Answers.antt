use Rattle.std.proofs.Common.{◌≡◌, ◌+◌, ◌++◌, ℕ, List, ap, ◌∙◌, subst, arith, rules}
use Rattle.history_frame.specs.declared.events.Sent.{Sent}
use Rattle.log_base.specs.Shape.{shape}
use Rattle.node_model.specs.StorageNode.{member_of}
use Rattle.node_model.specs.StorageRow.{windows}
use Rattle.shard_replica.specs.Replica.{own_entries}
use Rattle.storage_node.specs.Preparing.{Makes, stock}
use Rattle.storage_node.proofs.Making.{makes-then, windows-push}
use Rattle.storage_node.proofs.copies.make_windows.Goals as goal

pub loop-peer-preserved : goal.loop-peer-preserved
loop-peer-preserved g c =
    let config = shape c.args.seat.now.config in
    let member = member_of config c.args.seat.now.shard.0 c.args.seat.now.own.0 in
    let own = own_entries c.args.replica.now.state in
    let copying = c.args.replica.now.state.copying in
    let first = stock c.args.made.now.letters c.args.made.now.copies.items c.args.out.now.rooms in
    let before = stock c.loop-peer.made.letters c.loop-peer.made.copies.items c.loop-peer.out.rooms in
    let after = stock c.make_window.new.made.letters c.make_window.new.made.copies.items c.make_window.new.out.rooms in
    let both = makes-then _ _ first before after c.loop-peer.invariant.made c.in_ok-make_window.ensures.made in
    let one : windows config member own copying 0 c.loop-peer.peer ++ windows config member own copying c.loop-peer.peer 1 ≡ windows config member own copying 0 (c.loop-peer.peer + 1) =
    ap (λ (k : ℕ). windows config member own copying 0 c.loop-peer.peer ++ windows config member own copying k 1) (omega arith)
    ∙ windows-push config member own copying 0 c.loop-peer.peer in
    record {
      made = subst (λ (l : List Sent). Makes l first after) one both;
      sent = search rules;
      out = search rules;
    }

pub returns-clause-made : goal.returns-clause-made
returns-clause-made g c =
    let config = shape c.args.seat.now.config in
    let member = member_of config c.args.seat.now.shard.0 c.args.seat.now.own.0 in
    subst (λ (n : ℕ). Makes (windows config member (own_entries c.args.replica.now.state) c.args.replica.now.state.copying 0 n)
    (stock c.args.made.now.letters c.args.made.now.copies.items c.args.out.now.rooms) (stock c.loop-peer.made.letters c.loop-peer.made.copies.items c.loop-peer.out.rooms))
    (omega (arith, c.loop-peer.auto.peer-end, c.loop-peer-test.false, c.replicas-peer-end.ensures)) c.loop-peer.invariant.made
