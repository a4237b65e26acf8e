use Rattle.std.proofs.Common.{◌≡◌, ◌<◌, ℕ, ◌*◌, ◌+◌, max, ◌-◌, length, subst, ap, ◌∙◌, arith, length-append}
use Rattle.std.specs.Prelude.{slice_index}
use Rattle.std.proofs.lemmas.List.{length-set}
use Rattle.log_model.specs.Places.{places_from}
use Rattle.log_model.proofs.Runs.{length-places_from}
use Rattle.cut_chain.proofs.Cutting.{PartOfShard, shard_begins, shard_goes_on, shard_ends, index_within}
use Rattle.cut_chain.proofs.covering.cover_shard.Goals as goal

pub loop-segment-init : goal.loop-segment-init
loop-segment-init g c = record {
  part = shard_begins c.args.config.now.replicas c.args.shard.0 c.args.lengths.now c.args.covered.now (g.P.Places.places c.args.places.now);
  covered = c.requires.covered;
  has_room = omega arith;
  counted = omega arith;
  small = omega arith;
}

pub loop-segment-preserved : goal.loop-segment-preserved
loop-segment-preserved g c =
    let is = c.loop-segment.invariant in
    let now = c.loop-segment.covered in
    let e = c.cover_segment.ensures in
    let at = c.args.shard.0 * c.args.config.now.replicas + c.loop-segment.segment in
    let small : c.loop-segment.segment < c.args.config.now.replicas = omega (arith, c.loop-segment-test.true, c.replicas-segment-end.ensures) in
    let within = index_within c.args.config.now.replicas c.args.config.now.shards c.args.shard.0 c.loop-segment.segment c.requires.shard small c.args.config.now.in_range.segments in
    let value = max (slice_index now at) (slice_index c.args.lengths.now at) in
    let size : length c.cover_segment.new.covered ≡ length now = ap length e.raised ∙ length-set now at value in
    let inside : at < length now = omega (arith, size, within, c.cover_segment.array_long) in
    let places = g.P.Places.places c.loop-segment.places in
    let more = ap length e.places in
    let sum = length-append places (places_from c.args.shard.0 c.loop-segment.segment (slice_index now at) (slice_index c.args.lengths.now at - slice_index now at)) in
    let run = length-places_from c.args.shard.0 c.loop-segment.segment (slice_index now at) (slice_index c.args.lengths.now at - slice_index now at) in
    record {
      part = shard_goes_on c.args.config.now.replicas c.args.shard.0 c.loop-segment.segment c.args.lengths.now c.args.covered.now now c.cover_segment.new.covered
          (g.P.Places.places c.args.places.now) places (g.P.Places.places c.cover_segment.new.places) small inside e.raised e.places is.part;
      covered = e.covered;
      has_room = omega (arith, is.has_room, e.room);
      counted = omega (arith, is.counted, more, sum, run, e.count, c.from-count.ensures);
      small = omega (arith, is.small, e.small, c.from-count.ensures);
    }

pub returns : goal.returns
returns g c =
    let is = c.loop-segment.invariant in
    let all : c.loop-segment.segment ≡ c.args.config.now.replicas = omega (arith, c.loop-segment-test.false, c.loop-segment.auto.segment-end, c.replicas-segment-end.ensures) in
    let whole : PartOfShard c.args.config.now.replicas c.args.shard.0 c.args.lengths.now c.args.covered.now (g.P.Places.places c.args.places.now)
    c.args.config.now.replicas c.loop-segment.covered (g.P.Places.places c.loop-segment.places) =
    subst (λ (n : ℕ). PartOfShard c.args.config.now.replicas c.args.shard.0 c.args.lengths.now c.args.covered.now (g.P.Places.places c.args.places.now)
    n c.loop-segment.covered (g.P.Places.places c.loop-segment.places)) all is.part in
    let ends = shard_ends _ _ _ _ _ _ _ whole in
    record {
      places = ends.0;
      raised = ends.1;
      others = ends.2;
      covered = is.covered;
      room = omega (arith, is.has_room, all);
      count = is.counted;
      small = omega (arith, is.small, all, c.args.config.now.in_range.replicas);
    }
