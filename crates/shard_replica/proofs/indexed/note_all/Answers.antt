use Rattle.std.proofs.Common.{sym, ap}
use Rattle.record_frame.specs.declared.entries.Head.{Head}
use Rattle.log_model.specs.Storage.{entry_in}
use Rattle.shard_replica.specs.Lists.{segment_at}
use Rattle.shard_replica.proofs.Indexing.{Indexes-more}
use Rattle.shard_replica.proofs.indexed.note_all.Goals as goal

pub loop-offset-preserved : goal.loop-offset-preserved
loop-offset-preserved g c =
    Indexes-more c.loop-offset.pairs c.note.new.self (segment_at c.args.lists.now.segments c.args.own.0).entries c.loop-offset.offset
    (entry_in c.payload.result.now) c.head_of-head.result.client.0 c.head_of-head.result.number.0 c.loop-offset.invariant c.payload.ensures.entry
    (sym (ap (λ (h : Head). h.client.0) c.head_of-head.ensures)) (sym (ap (λ (h : Head). h.number.0) c.head_of-head.ensures))
    c.note.ensures.offset c.note.ensures.last c.note.ensures.few_offsets c.note.ensures.few_lasts
