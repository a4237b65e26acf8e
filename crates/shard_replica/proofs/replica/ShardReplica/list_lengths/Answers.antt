use Rattle.std.proofs.Common.{◌≡◌, ◌∙◌, length, sym, ap, arith}
use Rattle.shard_replica.specs.Lists.{segment_at}
use Rattle.shard_replica.specs.Replica.{Replicated}
use Rattle.shard_replica.proofs.Lengths.{lengths-none, lengths-on, lengths-all}
use Rattle.shard_replica.proofs.replica.ShardReplica.list_lengths.Goals as goal

pub loop-segment-init : goal.loop-segment-init
loop-segment-init g c = lengths-none c.args.self.now.state.segments

pub loop-segment-preserved : goal.loop-segment-preserved
loop-segment-preserved g c =
    let segments = c.args.self.now.state.segments in
    let is : c.len.result ≡ length (segment_at segments c.loop-segment.segment).entries =
    c.len.ensures.len ∙ ap (λ (r : Replicated). length (segment_at r.state.segments c.loop-segment.segment).entries) c.self.view_is in
    lengths-on c.loop-segment.segment c.from.result c.len.result segments c.loop-segment.length c.from.ensures
    (omega (arith, c.loop-segment-test.true, c.replicas-segment-end.ensures, c.self.inside.config.in_range.replicas)) is c.loop-segment.invariant

pub returns : goal.returns
returns g c =
    let segments = c.args.self.now.state.segments in
    let kept : length segments ≡ c.self.inside.config.replicas =
    ap (λ (r : Replicated). length r.state.segments) (sym c.self.view_is) ∙ c.self.invariant.count in
    let count : length segments ≡ c.loop-segment.segment =
    omega (arith, kept, c.loop-segment.auto.segment-end, c.loop-segment-test.false, c.replicas-segment-end.ensures) in
    lengths-all c.loop-segment.segment segments c.loop-segment.length count (omega (arith, c.loop-segment.auto.segment-end, c.replicas-segment-end.ensures, c.self.inside.config.in_range.replicas)) c.loop-segment.invariant
