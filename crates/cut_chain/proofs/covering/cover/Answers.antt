use Rattle.std.proofs.Common.{◌≡◌, ◌<◌, ◌≤◌, ◌-◌, length, Some, is_some, sym, ap, ◌∙◌, arith}
use Rattle.std.proofs.Math.Nat.{mul-le-mul_left}
use Rattle.shard_registry.specs.Order.{state_in_order}
use Rattle.cut_chain.proofs.Apart.{listed_at, entry_at, in_range_at, some_from}
use Rattle.cut_chain.proofs.Cutting.{cut_begins, cut_goes_on, cut_ends, fewer_left}
use Rattle.cut_chain.proofs.covering.cover.Goals as goal

pub unwrap-state-requires : goal.unwrap-state-requires
unwrap-state-requires g c =
    some_from c.state.result (ap (λ o. is_some o) c.state.ensures ∙ listed_at c.args.registry.now c.loop-index.index c.at-shard.result c.at-shard.ensures)

pub cover_in_state-count-requires-clause-shard : goal.cover_in_state-count-requires-clause-shard
cover_in_state-count-requires-clause-shard g c =
    in_range_at c.args.registry.now c.args.config.now.shards c.loop-index.index c.at-shard.result c.requires.in_range c.at-shard.ensures

pub overflow_add-count : goal.overflow_add-count
overflow_add-count g c =
    let few = c.count-index-end.ensures.few c.args.config.now.shards c.requires.in_range in
    omega (arith, few, c.loop-index.invariant.small, c.cover_in_state-count.ensures.small, c.loop-index-test.true, c.args.config.now.in_range.shards)

pub loop-index-init : goal.loop-index-init
loop-index-init g c =
    let few = c.count-index-end.ensures.few c.args.config.now.shards c.requires.in_range in
    let size = c.count-index-end.ensures.count in
    let order = c.args.registry.now in
    let most : length order - 0 ≤ c.args.config.now.shards = omega (arith, few, size) in
    let step = mul-le-mul_left c.args.config.now.replicas most in
    record {
      part = cut_begins c.args.config.now.replicas c.args.lengths.now order c.args.covered.now (g.P.Places.places c.args.places.now) c.requires.covered;
      has_room = omega (arith, step, c.requires.room);
      counted = omega arith;
      small = omega arith;
    }

pub loop-index-preserved : goal.loop-index-preserved
loop-index-preserved g c =
    let is = c.loop-index.invariant in
    let e = c.cover_in_state-count.ensures in
    let order = c.args.registry.now in
    let shard = c.at-shard.result in
    let state = c.unwrap-state.result in
    let found : state_in_order order shard.0 ≡ Some state = sym c.state.ensures ∙ c.unwrap-state.ensures in
    let stands = entry_at order c.loop-index.index shard state c.requires.apart c.at-shard.ensures found in
    let within : c.loop-index.index < length order = omega (arith, c.loop-index-test.true, c.count-index-end.ensures.count) in
    record {
      part = cut_goes_on c.args.config.now.replicas c.args.lengths.now order c.args.covered.now (g.P.Places.places c.args.places.now) c.loop-index.index
          c.loop-index.covered c.cover_in_state-count.new.covered (g.P.Places.places c.loop-index.places) (g.P.Places.places c.cover_in_state-count.new.places)
          shard state c.requires.apart stands e.places e.raised e.others e.covered is.part;
      has_room = fewer_left c.args.config.now.replicas (length order) c.loop-index.index _ _ within is.has_room e.room;
      counted = omega (arith, is.counted, e.count);
      small = omega (arith, is.small, e.small);
    }

pub returns : goal.returns
returns g c =
    let is = c.loop-index.invariant in
    let few = c.count-index-end.ensures.few c.args.config.now.shards c.requires.in_range in
    let all : c.loop-index.index ≡ length c.args.registry.now =
    omega (arith, c.loop-index-test.false, c.loop-index.auto.index-end, c.count-index-end.ensures.count) in
    let ends = cut_ends _ _ _ _ _ _ _ _ all is.part in
    record {
      places = ends.0;
      covered = ends.1;
      unlisted = is.part.unlisted;
      count = is.counted;
      small = omega (arith, is.small, few, all, c.count-index-end.ensures.count, c.args.config.now.in_range.shards);
    }
