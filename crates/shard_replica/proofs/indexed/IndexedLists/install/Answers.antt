use Rattle.std.proofs.Common.{ap, ◌∙◌, length, List, arith}
use Rattle.shard_replica.specs.Lists.{Segment}
use Rattle.shard_replica.proofs.Keeping.{length-after}
use Rattle.shard_replica.proofs.indexed.IndexedLists.install.Goals as goal

pub note_all-requires-clause-own : goal.note_all-requires-clause-own
note_all-requires-clause-own g c =
    let size = ap (λ (ss : List Segment). length ss) c.install-answer.ensures.segments
    ∙ length-after c.self.inside.lists.last_reload c.self.inside.lists.segments c.self.inside.lists.media in
    omega (arith, size, c.self.invariant.0)

pub invariant_of-self : goal.invariant_of-self
invariant_of-self g c =
    let size = ap (λ (ss : List Segment). length ss) c.install-answer.ensures.segments
    ∙ length-after c.self.inside.lists.last_reload c.self.inside.lists.segments c.self.inside.lists.media in
    (omega (arith, size, c.self.invariant.0), c.note_all.ensures)
