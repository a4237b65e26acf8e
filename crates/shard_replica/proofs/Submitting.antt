-- An entry whose pair is not held, and whose number is a new one.
use Rattle.std.proofs.Common.{◌≡◌, ℕ, ◌+◌, ◌<◌, Bool, List, None, Some, set, length, sym, subst, ap, ◌∙◌}
use Rattle.std.specs.Prelude.{nat_le, Result, Ok, Err, IsOk, OnOk}
use Rattle.std.proofs.lemmas.Bool.{cond-false, lt-leb}
use Rattle.record_frame.specs.declared.entries.Entry.{Entry}
use Rattle.log_model.specs.Pairs.{held, last_of}
use Rattle.record_frame.specs.Entries.{IsEntry, entry_spelling}
use Rattle.record_frame.proofs.EntryLaws.{length-entry_spelling}
use Rattle.log_model.specs.Storage.{Member, Knowledge, own_shard, IsSpelled, entry_in}
use Rattle.shard_replica.specs.Lists.{Segment, segment_at, after_put}
use Rattle.shard_replica.specs.Replica.{ReplicaState, with_put}
use Rattle.shard_replica.proofs.Indexing.{entry_in-spelling, spelling-is_spelled}
use Rattle.log_model.specs.Submitting.{Stale, submit, submit_held, submit_fresh, submit_new, nothing_put}

pub submit-first : (member : Member) (own : List Entry) (known : Knowledge) (entry : Entry)
    → held member own known entry.client.0 entry.number.0 ≡ None → last_of own entry.client.0 ≡ None
    → submit member own known entry ≡ submit_new own entry (own_shard member known)
unfolding submit
submit-first member own known entry none last =
    ap (submit_held own (own_shard member known) entry) none ∙ ap (submit_fresh own (own_shard member known) entry) last

pub submit-above : (member : Member) (own : List Entry) (known : Knowledge) (entry : Entry) (greatest : ℕ)
    → held member own known entry.client.0 entry.number.0 ≡ None → last_of own entry.client.0 ≡ Some greatest → greatest < entry.number.0
    → submit member own known entry ≡ submit_new own entry (own_shard member known)
unfolding submit
submit-above member own known entry greatest none last above =
    ap (submit_held own (own_shard member known) entry) none ∙ ap (submit_fresh own (own_shard member known) entry) last
    ∙ cond-false (nat_le entry.number.0 greatest) (nothing_put (Stale greatest)) (submit_new own entry (own_shard member known)) (lt-leb entry.number.0 greatest above)

-- a spelling that was written is that of its entry
pub spelled-written : (entry : Entry) (written : List ℕ) → IsEntry entry → written ≡ entry_spelling entry
    → (entry_in written ≡ entry) × IsSpelled written × (length written ≡ 15 + length entry.bytes)
spelled-written entry written is same = (
  ap entry_in same ∙ entry_in-spelling entry is,
  subst IsSpelled (sym same) (spelling-is_spelled entry is),
  ap (λ (bytes : List ℕ). length bytes) same ∙ length-entry_spelling entry,
)

pub ok-where : {A B : Type 0} (r : Result A B) (P : Type 0) → IsOk r → OnOk r P → P
ok-where (Ok x) P is holds = holds
ok-where (Err e) P is holds = absurd (cc)

-- a state with lists
abbrev pub with_segments : ReplicaState → List Segment → ReplicaState
with_segments state segments = record state { segments = segments }

-- the state after an entry is put into the own list, or its put failed
pub put-state : (old : ReplicaState) (news : List Segment) (payload : List ℕ) (entry : Entry) (own : ℕ) (failed : Bool)
    → news ≡ set old.segments own (after_put (segment_at old.segments own) (entry_in payload) failed) → entry_in payload ≡ entry → own ≡ old.own
    → with_segments old news ≡ with_put old old.own (Some entry) failed
put-state old news payload entry own failed is read same =
    ap (with_segments old) (is
    ∙ ap (λ (e : Entry). set old.segments own (after_put (segment_at old.segments own) e failed)) read
    ∙ ap (λ (k : ℕ). set old.segments k (after_put (segment_at old.segments k) entry failed)) same)
