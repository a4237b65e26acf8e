use Rattle.std.proofs.Common.{◌≡◌, None, ◌∙◌, sym, ap, subst}
use Rattle.std.specs.Option.{option_copied_mut}
use Rattle.std.specs.Map.{set_value}
use Rattle.indexmap.specs.IndexMap.{spare}
use Rattle.shard_registry.specs.declared.answers.State.{State}
use Rattle.shard_registry.specs.declared.answers.State.TheVariants.{Finalised}
use Rattle.shard_registry.specs.Order.{Order, is_shard, state_in_order, finalised}
use Rattle.shard_registry.specs.Room.{HasRoomForEight}
use Rattle.shard_registry.proofs.Orders.{set_value-finalised, finalised-absent, HasRoomForEight-finalised}
use Rattle.shard_registry.proofs.order.Registry.finalise.Goals as goal

pub returns-in_default-clause-order : goal.returns-in_default-clause-order
returns-in_default-clause-order c =
    let order = c.self.inside.shards.entries in
    let absent : state_in_order order c.args.shard.0 ≡ None = sym c.get_mut.ensures.value ∙ ap option_copied_mut c.in_default.is in
    let same : c.get_mut.follows.lender-at-none.entries ≡ order = ap (λ m. m.entries) c.get_mut.follows.holds-at-none in
    subst (λ (o : Order). c.get_mut.follows.lender-at-none.entries ≡ finalised o c.args.shard.0) c.self.view_is
    (same ∙ sym (finalised-absent order c.args.shard.0 absent))

pub invariant_of-self-2 : goal.invariant_of-self-2
invariant_of-self-2 c =
    let order = c.self.inside.shards.entries in
    let map = c.get_mut.follows.lender c.end.new.state in
    let written = c.get_mut.follows.holds c.end.new.state in
    let entries : map.entries ≡ finalised order c.args.shard.0 =
    written.0 ∙ ap (set_value (is_shard c.args.shard.0) order) c.end.ensures.ended ∙ set_value-finalised order c.args.shard.0 c.self.invariant.apart in
    subst (HasRoomForEight map.entries) (sym written.6)
    (subst (λ (o : Order). HasRoomForEight o (spare c.self.inside.shards)) (sym entries)
    (HasRoomForEight-finalised order (spare c.self.inside.shards) c.args.shard.0 c.self.invariant))

pub returns-clause-order : goal.returns-clause-order
returns-clause-order c =
    let order = c.self.inside.shards.entries in
    let map = c.get_mut.follows.lender c.end.new.state in
    let written = c.get_mut.follows.holds c.end.new.state in
    let entries : map.entries ≡ finalised order c.args.shard.0 =
    written.0 ∙ ap (set_value (is_shard c.args.shard.0) order) c.end.ensures.ended ∙ set_value-finalised order c.args.shard.0 c.self.invariant.apart in
    subst (λ (o : Order). map.entries ≡ finalised o c.args.shard.0) c.self.view_is entries
