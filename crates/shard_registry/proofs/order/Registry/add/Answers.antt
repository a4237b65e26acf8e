use Rattle.std.proofs.Common.{◌≡◌, [], ◌∷◌, ◌++◌, false, true, ◌∙◌, sym, subst}
use Rattle.indexmap.specs.IndexMap.{spare, insert_entry}
use Rattle.shard_registry.specs.declared.answers.State.TheVariants.{Live}
use Rattle.shard_registry.specs.Order.{Order, is_listed, added}
use Rattle.shard_registry.specs.Room.{HasRoomForEight}
use Rattle.shard_registry.proofs.Orders.{added-known, added-new, HasRoomForEight-push, insert_entry-absent, same_shard, on_ok}
use Rattle.shard_registry.proofs.order.Registry.add.Goals as goal

pub returns-then-contains_key-clause-order : goal.returns-then-contains_key-clause-order
returns-then-contains_key-clause-order c =
    let order = c.self.inside.shards.entries in
    let known : is_listed order c.args.shard.0 ≡ true = sym c.contains_key.ensures ∙ c.if-contains_key.true in
    subst (λ (o : Order). o ≡ added o c.args.shard.0) c.self.view_is (added-known order c.args.shard.0 known)

-- a shard that is not there leaves room for itself
pub unwrap-requires : goal.unwrap-requires
unwrap-requires c =
    let order = c.self.inside.shards.entries in
    let absent : is_listed order c.args.shard.0 ≡ false = sym c.contains_key.ensures ∙ c.if-contains_key.false in
    let has = HasRoomForEight-push order (spare c.self.inside.shards) (spare c.insert.new.self) c.args.shard.0 c.requires absent c.insert.ensures.spare c.self.invariant in
    c.insert.ensures.succeeds has.1

pub invariant_of-self : goal.invariant_of-self
invariant_of-self c =
    let order = c.self.inside.shards.entries in
    let absent : is_listed order c.args.shard.0 ≡ false = sym c.contains_key.ensures ∙ c.if-contains_key.false in
    let has = HasRoomForEight-push order (spare c.self.inside.shards) (spare c.insert.new.self) c.args.shard.0 c.requires absent c.insert.ensures.spare c.self.invariant in
    let inserted = on_ok c.insert.result (c.insert.new.self.entries ≡ insert_entry same_shard order c.args.shard Live) _ c.unwrap.ensures c.insert.ensures.entries in
    subst (λ (o : Order). HasRoomForEight o (spare c.insert.new.self)) (sym (inserted ∙ insert_entry-absent order c.args.shard Live absent)) has.0

pub returns-clause-order : goal.returns-clause-order
returns-clause-order c =
    let order = c.self.inside.shards.entries in
    let absent : is_listed order c.args.shard.0 ≡ false = sym c.contains_key.ensures ∙ c.if-contains_key.false in
    let inserted = on_ok c.insert.result (c.insert.new.self.entries ≡ insert_entry same_shard order c.args.shard Live) _ c.unwrap.ensures c.insert.ensures.entries in
    let new = inserted ∙ insert_entry-absent order c.args.shard Live absent ∙ added-new order c.args.shard.0 absent in
    subst (λ (o : Order). c.insert.new.self.entries ≡ added o c.args.shard.0) c.self.view_is new
