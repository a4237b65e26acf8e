-- The replies that tell the answers of a replica.
use Rattle.std.specs.Prelude.{ℕ, ◌≤◌, length}
use Rattle.reply_frame.specs.declared.replies.Reply.{Reply, Stored as StoredAt, Stale as StaleEntry, NotAdded as NoShard, Finalised as Closed, Full as NoRoom, Halted as DiskFailed, At as StandsAt, PendingAsk, FinalisedAt as FrozenAt, Missing as NotThere, Found as FoundAt, Trimmed as GivenUp, PendingRead, Elsewhere as OtherShard}
use Rattle.log_base.specs.declared.numbers.Position.{Position}
use Rattle.record_frame.specs.Entries.{entry_of}
use Rattle.shard_replica.specs.declared.answers.Asked.{Asked}
use Rattle.shard_replica.specs.declared.answers.Asked.TheVariants.{At, Pending, FinalisedAt, Stale as StaleAsked, Missing}
use Rattle.shard_replica.specs.declared.answers.ReadAnswer.{ReadAnswer}
use Rattle.shard_replica.specs.declared.answers.ReadAnswer.TheVariants.{Found, Trimmed, Pending as PendingEnd, Elsewhere}
use Rattle.shard_replica.specs.declared.answers.Submitted.{Submitted}
use Rattle.shard_replica.specs.declared.answers.Submitted.TheVariants.{Stored, Stale, NotAdded, Finalised, Full, Halted}

abbrev pub reply_to_submitted : Submitted → Reply
reply_to_submitted (Stored offset) = StoredAt offset
reply_to_submitted (Stale last) = StaleEntry last
reply_to_submitted NotAdded = NoShard
reply_to_submitted Finalised = Closed
reply_to_submitted Full = NoRoom
reply_to_submitted Halted = DiskFailed

abbrev pub reply_to_asked : Asked → Reply
reply_to_asked (At position) = StandsAt position
reply_to_asked (Pending covered) = PendingAsk covered
reply_to_asked (FinalisedAt frozen) = FrozenAt frozen
reply_to_asked (StaleAsked last) = StaleEntry last
reply_to_asked Missing = NotThere

-- what is read, with a copy of the record that is found
abbrev pub reply_so : Position → ReadAnswer → Reply
reply_so position (Found head bytes) = FoundAt position (entry_of head.client head.number bytes.now)
reply_so position (Trimmed mark) = GivenUp mark
reply_so position (PendingEnd end) = PendingRead end
reply_so position (Elsewhere shard) = OtherShard shard

-- there is room for that record
abbrev pub HasCopy : ℕ → ReadAnswer → Type 0
HasCopy room (Found head bytes) = length bytes.now ≤ room
HasCopy room _ = Unit {0}
