-- How the answers of a replica tell those of its rule.
use Rattle.std.specs.Prelude.{◌≡◌, ℕ, suc, ◌≤◌, length, List, Option, Some, None, IsSome, Bool, true, false}
use Rattle.record_frame.specs.declared.entries.Entry.{Entry}
use Rattle.record_frame.specs.Entries.{entry_of}
use Rattle.peer_copy.specs.declared.taking.Taking.{Taking}
use Rattle.peer_copy.specs.declared.taking.Taking.TheVariants.{Put as IsNext, Have as IsThere, Gap as IsMissing}
use Rattle.log_model.specs.Asking.{Asked as AskedSo, At, Pending, FinalisedAt, Stale, Missing}
use Rattle.log_model.specs.Learning.{Learned as LearnedSo, Added as AddedSo, Have as HaveSo, Gap as GapSo}
use Rattle.log_model.specs.Reading.{ReadAnswer as ReadSo, Found as FoundSo, Trimmed as TrimmedSo, Pending as PendingSo, Elsewhere as ElsewhereSo}
use Rattle.log_model.specs.Submitting.{Submission, Stored as StoredSo, Stale as StaleSo, NotAdded as NotAddedSo, Finalised as FinalisedSo, Full as FullSo, nothing_put}
use Rattle.shard_replica.specs.Lists.{Medium, PutsAt}
use Rattle.shard_replica.specs.declared.answers.Asked.{Asked}
use Rattle.shard_replica.specs.declared.answers.Asked.TheVariants.{At as AtNow, Pending as PendingNow, FinalisedAt as FinalisedNow, Stale as StaleNow, Missing as MissingNow}
use Rattle.shard_replica.specs.declared.answers.Copied.{Copied}
use Rattle.shard_replica.specs.declared.answers.Copied.TheVariants.{Put as PutNow, Have as HaveThere, Gap as GapBefore, Halted as HaltedCopy}
use Rattle.shard_replica.specs.declared.answers.Learned.{Learned}
use Rattle.shard_replica.specs.declared.answers.Learned.TheVariants.{Added, Have, Gap}
use Rattle.shard_replica.specs.declared.answers.ReadAnswer.{ReadAnswer}
use Rattle.shard_replica.specs.declared.answers.ReadAnswer.TheVariants.{Found as FoundNow, Trimmed as TrimmedNow, Pending as PendingEnd, Elsewhere as ElsewhereNow}
use Rattle.shard_replica.specs.declared.answers.Submitted.{Submitted}
use Rattle.shard_replica.specs.declared.answers.Submitted.TheVariants.{Stored, Stale as StaleEntry, NotAdded, Finalised, Full, Halted}

-- the answer to an entry, where its put, if there is one, did not fail
abbrev pub TellsSubmitted : Submitted → Submission → Type 0
TellsSubmitted (Stored offset) submission = submission.answer ≡ StoredSo offset
TellsSubmitted (StaleEntry last) submission = submission.answer ≡ StaleSo last.0
TellsSubmitted NotAdded submission = submission.answer ≡ NotAddedSo
TellsSubmitted Finalised submission = submission.answer ≡ FinalisedSo
TellsSubmitted Full submission = submission.answer ≡ FullSo
TellsSubmitted Halted submission = IsSome submission.put

-- a refusal of an entry, or that it is to be put
abbrev pub Refuses : Option Submitted → ℕ → Submission → Entry → Type 0
Refuses None len submission entry = submission ≡ record { answer = StoredSo len; put = Some entry }
Refuses (Some (Stored offset)) len submission entry = submission ≡ nothing_put (StoredSo offset)
Refuses (Some (StaleEntry last)) len submission entry = submission ≡ nothing_put (StaleSo last.0)
Refuses (Some NotAdded) len submission entry = submission ≡ nothing_put NotAddedSo
Refuses (Some Finalised) len submission entry = submission ≡ nothing_put FinalisedSo
Refuses (Some Full) len submission entry = submission ≡ nothing_put FullSo
Refuses (Some Halted) len submission entry = ⊥

abbrev pub asked_so : Asked → AskedSo
asked_so (AtNow position) = At position.0
asked_so (PendingNow covered) = Pending covered
asked_so (FinalisedNow frozen) = FinalisedAt frozen
asked_so (StaleNow last) = Stale last.0
asked_so MissingNow = Missing

abbrev pub learned_so : Learned → LearnedSo
learned_so Added = AddedSo
learned_so Have = HaveSo
learned_so (Gap next) = GapSo next.0

-- the answer to a copy, by what was to become of it: the length is the new one
abbrev pub TellsCopied : Copied → Taking → ℕ → Type 0
TellsCopied (PutNow len) taking old = (taking ≡ IsNext) × (len ≡ suc old)
TellsCopied (HaveThere len) taking old = (taking ≡ IsThere) × (len ≡ old)
TellsCopied (GapBefore len) taking old = (taking ≡ IsMissing) × (len ≡ old)
TellsCopied HaltedCopy taking old = taking ≡ IsNext

-- whether a put failed
abbrev pub is_halted : Submitted → Bool
is_halted (Stored offset) = false
is_halted (StaleEntry last) = false
is_halted NotAdded = false
is_halted Finalised = false
is_halted Full = false
is_halted Halted = true

abbrev pub is_halted_copy : Copied → Bool
is_halted_copy (PutNow len) = false
is_halted_copy (HaveThere len) = false
is_halted_copy (GapBefore len) = false
is_halted_copy HaltedCopy = true

-- the answer to an entry that is put
abbrev pub Puts : Submitted → ℕ → Type 0
Puts (Stored offset) len = offset ≡ len
Puts (StaleEntry last) len = ⊥
Puts NotAdded len = ⊥
Puts Finalised len = ⊥
Puts Full len = ⊥
Puts Halted len = Unit {0}

-- what is told of the journals, where an entry is put, if one is, into the list of a segment
abbrev pub TellsPut : Option Entry → ℕ → Bool → List Medium → List Medium → Type 0
TellsPut None segment failed old new = new ≡ old
TellsPut (Some entry) segment failed old new = PutsAt segment failed old new

-- the entry that is put, where a copied entry is the next one
abbrev pub copied_entry : Taking → Entry → Option Entry
copied_entry IsNext entry = Some entry
copied_entry IsThere entry = None
copied_entry IsMissing entry = None

-- an entry is found as its head and the bytes of its record
abbrev pub TellsRead : ReadAnswer → ReadSo → Type 0
TellsRead (FoundNow head bytes) answer =
    (answer ≡ FoundSo (entry_of head.client head.number bytes.now)) × (head.length ≡ length bytes.now)
TellsRead (TrimmedNow mark) answer = answer ≡ TrimmedSo mark.0
TellsRead (PendingEnd end) answer = answer ≡ PendingSo end.0
TellsRead (ElsewhereNow shard) answer = answer ≡ ElsewhereSo shard.0

-- a record that is found is not too long
abbrev pub HasRecordSize : ReadAnswer → Type 0
HasRecordSize (FoundNow head bytes) = length bytes.now ≤ 65535
HasRecordSize (TrimmedNow mark) = Unit {0}
HasRecordSize (PendingEnd end) = Unit {0}
HasRecordSize (ElsewhereNow shard) = Unit {0}
