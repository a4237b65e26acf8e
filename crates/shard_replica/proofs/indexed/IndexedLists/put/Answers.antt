use Rattle.std.proofs.Common.{sym, ap, subst, ◌<◌, length}
use Rattle.record_frame.specs.declared.entries.Head.{Head}
use Rattle.log_model.specs.Storage.{entry_in}
use Rattle.shard_replica.specs.Indexed.{Stored}
use Rattle.shard_replica.proofs.Indexing.{Indexes-put}
use Rattle.shard_replica.proofs.indexed.IndexedLists.put.Goals as goal

pub invariant_of-self-then-segment-self : goal.invariant_of-self-then-segment-self
invariant_of-self-then-segment-self g c =
    let at = c.args.segment.0 in
    let segments = c.self.inside.lists.segments in
    let lt : at < length segments =
    subst (λ (s : Stored). at < length s.lists.segments) (sym c.self.view_is) c.requires.segment in
    Indexes-put c.self.inside.pairs c.note.new.self segments c.put.new.self.segments at c.self.inside.own.0
    (entry_in c.args.payload.now) c.head_of-head.result.client.0 c.head_of-head.result.number.0 c.len-offset.result
    c.if-segment-self.true lt c.in-Ok.ensures.segments c.self.invariant.1
    (sym (ap (λ (h : Head). h.client.0) c.head_of-head.ensures)) (sym (ap (λ (h : Head). h.number.0) c.head_of-head.ensures))
    c.len-offset.ensures.len
    c.note.ensures.offset c.note.ensures.last c.note.ensures.few_offsets c.note.ensures.few_lasts
