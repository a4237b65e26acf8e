use Rattle.std.proofs.Common.{◌≡◌, ◌<◌, length, ◌∷◌, [], ℕ, List, Some, sym, subst, arith, rules}
use Rattle.std.specs.Prelude.{slice_get}
use Rattle.event_letters.specs.Letters.{letter}
use Rattle.history_frame.specs.declared.events.Sent.{Sent}
use Rattle.log_base.specs.Shape.{shape}
use Rattle.log_model.specs.Storage.{entry_in}
use Rattle.node_model.specs.Messages.{copy_message}
use Rattle.node_model.specs.StorageNode.{member_of}
use Rattle.node_model.specs.StorageRow.{copies}
use Rattle.peer_copy.specs.Copying.{offsets_from}
use Rattle.shard_replica.specs.Lists.{segment_at}
use Rattle.shard_replica.specs.Replica.{own_entries}
use Rattle.storage_node.specs.Preparing.{Makes, stock}
use Rattle.storage_node.proofs.Making.{copies-push, makes-then}
use Rattle.storage_node.proofs.copies.make_copies.Goals as goal

pub loop-offset-preserved : goal.loop-offset-preserved
loop-offset-preserved g c =
    let config = shape c.args.seat.now.config in
    let member = member_of config c.args.seat.now.shard.0 c.args.seat.now.own.0 in
    let state = c.args.replica.now.state in
    let entry = entry_in c.payload-payload.result.now in
    let before = stock c.loop-offset.made.letters c.loop-offset.made.copies.items c.loop-offset.out.rooms in
    let after = stock c.make_copy.new.self.letters c.make_copy.new.self.copies.items c.make_copy.new.out.rooms in
    let there : slice_get (own_entries state) c.loop-offset.offset ≡ Some entry =
    subst (λ (k : ℕ). slice_get (segment_at state.segments k).entries c.loop-offset.offset ≡ Some entry) (sym c.requires.replica.own_is) c.payload-payload.ensures.entry in
    let one = subst (λ (n : ℕ). Makes (letter n (copy_message c.args.seat.now.own.0 c.loop-offset.offset entry) ∷ []) before after) c.storage-to.ensures.node c.in_ok-make_copy.ensures.made in
    let both = makes-then _ _ (stock c.args.made.now.letters c.args.made.now.copies.items c.args.out.now.rooms) before after c.loop-offset.invariant.made one in
    record {
      made = subst (λ (l : List Sent). Makes l (stock c.args.made.now.letters c.args.made.now.copies.items c.args.out.now.rooms) after)
          (copies-push config member (own_entries state) c.args.peer.0 c.args.span.from c.loop-offset.offset entry c.loop-offset.auto.offset there) both;
      sent = search rules;
      out = search rules;
      reach = omega (arith, c.loop-offset-test.true);
    }

pub returns-clause-made : goal.returns-clause-made
returns-clause-made g c =
    let config = shape c.args.seat.now.config in
    let member = member_of config c.args.seat.now.shard.0 c.args.seat.now.own.0 in
    subst (λ (n : ℕ). Makes (copies config member (own_entries c.args.replica.now.state) c.args.peer.0 (offsets_from c.args.span.from n))
    (stock c.args.made.now.letters c.args.made.now.copies.items c.args.out.now.rooms) (stock c.loop-offset.made.letters c.loop-offset.made.copies.items c.loop-offset.out.rooms))
    (omega (arith, c.loop-offset.auto.offset, c.loop-offset-test.false, c.loop-offset.invariant.reach)) c.loop-offset.invariant.made

pub payload-payload-requires-clause-offset : goal.payload-payload-requires-clause-offset
payload-payload-requires-clause-offset g c =
    let within = c.requires.span (omega (arith, c.loop-offset.auto.offset, c.loop-offset-test.true)) in
    subst (λ (k : ℕ). c.loop-offset.offset < length (segment_at c.args.replica.now.state.segments k).entries) c.requires.replica.own_is (omega (arith, c.loop-offset-test.true, within))
