-- The rows that put an entry.
use Rattle.std.proofs.Common.{◌≡◌, ◌≢◌, ℕ, ◌<◌, Bool, true, false, cond, eqb, List, [], length, Option, Some, None, refl, sym, ap, ◌∙◌, subst, arith}
use Rattle.std.specs.Prelude.{IsSome, IfSome, nat_le}
use Rattle.std.specs.List.{AllByRecursion}
use Rattle.std.proofs.lemmas.Bool.{eqb-false}
use Rattle.reply_frame.specs.declared.replies.Reply.{Halted as DiskFailed}
use Rattle.history_frame.specs.declared.events.Sent.{Sent}
use Rattle.history_frame.specs.declared.inputs.Call.TheVariants.{Submit}
use Rattle.history_frame.specs.declared.inputs.Input.{Input}
use Rattle.history_frame.specs.declared.inputs.Input.TheVariants.{Call as ACall}
use Rattle.history_frame.specs.declared.inputs.Mark.TheVariants.{Done, Halted}
use Rattle.log_base.specs.ClusterShape.{Shape}
use Rattle.log_base.specs.declared.numbers.Client.{Client}
use Rattle.log_base.specs.declared.numbers.Number.{Number}
use Rattle.log_model.specs.Chain.{ShardState, Standing, Live, Frozen}
use Rattle.log_model.specs.Pairs.{held, last_of}
use Rattle.log_model.specs.Storage.{Knowledge, Member, own_shard}
use Rattle.log_model.specs.Submitting.{Full as IsFull, Stale as IsStale, Stored as IsStored, Submission, nothing_put, submit, submit_fresh, submit_held, submit_new, submit_to}
use Rattle.node_model.specs.Marks.{Running as Runs, Stopped, stored_with, to_call}
use Rattle.node_model.specs.StorageNode.{Put, Replica, StorageChange}
use Rattle.node_model.specs.StorageRow.{on_submit, put_into, row, storage_role, submit_reply}
use Rattle.record_frame.specs.declared.entries.Entry.{Entry}
use Rattle.record_frame.specs.Entries.{entry_of}
use Rattle.segment_journal.specs.Journalled.{Turns}
use Rattle.shard_replica.specs.declared.answers.Submitted.{Submitted}
use Rattle.shard_replica.specs.declared.answers.Submitted.TheVariants.{Stored, Stale, NotAdded, Finalised, Full, Halted as PutFailed}
use Rattle.shard_replica.specs.Answers.{TellsPut, TellsSubmitted, is_halted}
use Rattle.shard_replica.specs.Lists.{Medium, PutsAt, medium_at, no_segment, segment_at}
use Rattle.shard_replica.specs.Replica.{ReplicaState, own_entries, lists_of, member_of, with_put}
use Rattle.storage_node.specs.declared.node.Mode.{Mode}
use Rattle.storage_node.specs.declared.node.Mode.TheVariants.{Down, Running}
use Rattle.history_frame.specs.declared.events.Effect.{Effect}
use Rattle.storage_node.specs.Opening.{RoseIn}
use Rattle.storage_node.specs.Replies.{reply_to_submitted}
use Rattle.storage_node.specs.StorageState.{IsAtRest, IsFew, IsOf, IsSound, IsStorage, StorageState, config_of, lists_in, member_in, memory_of, mode_of}
use Rattle.storage_node.specs.Turning.{IsSmall, IsTold, TurnsOut, put_mark}
use Rattle.storage_node.proofs.Counting.{counts-put}
use Rattle.storage_node.proofs.Calls.{own-list, reply-small, submitted-reply, submitted-short}
use Rattle.storage_node.proofs.Elements.{all-at}
use Rattle.storage_node.proofs.Putting.{flight-put, lists-kept, lists-stored, sound-failed, sound-stored}
use Rattle.storage_node.proofs.Rows.{as_node, turns-done, turns-halted}

-- where a put failed and what its journal told before
pub put-rose : (segment : ℕ) (old new : List Medium) → PutsAt segment true old new → RoseIn old new
put-rose segment old new puts = (segment, puts.cause refl)

pub put-told : (node : StorageState) (segment : ℕ) (entry : Entry) (failed : Bool) (new : List Medium) → PutsAt segment failed node.replica.media new
    → IsTold node (put_mark failed) (Some (record { segment = segment; entry = entry }))
put-told node segment entry failed new puts = next (medium_at node.replica.media segment).turns puts.turn
  where
    next : (turns : Option Turns) → IfSome turns (λ (turn : Turns). failed ≡ turn.put_fails) → IfSome turns (λ (turn : Turns). put_mark failed ≡ put_mark turn.put_fails)
    next None h = tt
    next (Some turn) h = ap put_mark h

-- what a put that succeeded leaves
stored-lists : (config : Shape) (member : Member) (state : ReplicaState) (segment : ℕ) (put : Option Entry) → segment < length state.segments
    → lists_of (with_put state segment put false) ≡ stored_with (storage_role config member) (lists_of state) (put_into segment put)
stored-lists config member state segment None lt = refl
stored-lists config member state segment (Some entry) lt = lists-stored state segment entry lt

same-memory : (state : ReplicaState) (segment : ℕ) (put : Option Entry) (failed : Bool) (ticks : ℕ) → memory_of (with_put state segment put failed) ticks ≡ memory_of state ticks
same-memory state segment None failed ticks = refl
same-memory state segment (Some entry) failed ticks = refl

same-config : (state : ReplicaState) (segment : ℕ) (put : Option Entry) (failed : Bool) → (with_put state segment put failed).config ≡ state.config
same-config state segment None failed = refl
same-config state segment (Some entry) failed = refl

same-member : (state : ReplicaState) (segment : ℕ) (put : Option Entry) (failed : Bool) → member_of (with_put state segment put failed) ≡ member_of state
same-member state segment None failed = refl
same-member state segment (Some entry) failed = refl

told-done : (node : StorageState) (segment : ℕ) (put : Option Entry) (new : List Medium) → TellsPut put segment false node.replica.media new → IsTold node Done (put_into segment put)
told-done node segment None new puts = tt
told-done node segment (Some entry) new puts = put-told node segment entry false new puts

-- a row that puts an entry, or none, is done
pub put-done : (old new : StorageState) (input : Input) (change : StorageChange) (turn : Effect) (segment : ℕ) (put : Option Entry) → old.mode ≡ Running
    → row (config_of old) (member_in old) (lists_in old) (memory_of old.replica.state old.ticks) input ≡ Some change
    → change.put ≡ put_into segment put → change.after ≡ memory_of old.replica.state old.ticks → segment < length old.replica.state.segments
    → new.replica.state ≡ with_put old.replica.state segment put false → new.mode ≡ Running → new.ticks ≡ old.ticks
    → TellsPut put segment false old.replica.media new.replica.media
    → turn.mark ≡ Done → turn.outputs ≡ change.outputs → turn.reply ≡ change.reply → IsSmall turn.outputs turn.reply → TurnsOut old input turn new
put-done old new input change turn segment put running r puts after lt state runs ticks media mark outputs reply small =
    let now = with_put old.replica.state segment put false in
    turns-done old new input change turn running r mark
    (ap (λ (m : Mode). as_node (lists_in new) (mode_of m new.replica.state new.ticks)) runs
    ∙ ap (λ (s : ReplicaState). as_node (lists_of s) (mode_of Running s new.ticks)) state
    ∙ ap (λ (n : ℕ). as_node (lists_of now) (mode_of Running now n)) ticks
    ∙ ap (λ (ls : List (List Entry)). as_node ls (mode_of Running now old.ticks)) (stored-lists (config_of old) (member_in old) old.replica.state segment put lt)
    ∙ ap (λ (m : Replica). as_node (stored_with (storage_role (config_of old) (member_in old)) (lists_in old) (put_into segment put)) (Runs m))
    (same-memory old.replica.state segment put false old.ticks ∙ sym after)
    ∙ ap (λ (o : Option Put). as_node (stored_with (storage_role (config_of old) (member_in old)) (lists_in old) o) (Runs change.after)) (sym puts))
    outputs reply
    (ap (λ (s : ReplicaState). s.config) state ∙ same-config old.replica.state segment put false)
    (ap (λ (s : ReplicaState). member_of s) state ∙ same-member old.replica.state segment put false)
    small
    (subst (λ (o : Option Put). IsTold old Done o) (sym puts) (told-done old segment put new.replica.media media))
    (counts-put put segment false old.replica.media new.replica.media media)

-- a row that puts an entry halts
pub put-halted : (old new : StorageState) (input : Input) (change : StorageChange) (turn : Effect) (segment : ℕ) (entry : Entry) → old.mode ≡ Running
    → row (config_of old) (member_in old) (lists_in old) (memory_of old.replica.state old.ticks) input ≡ Some change
    → change.put ≡ put_into segment (Some entry) → AllByRecursion IsAtRest old.replica.state.segments → segment < length old.replica.state.segments
    → new.replica.state ≡ with_put old.replica.state segment (Some entry) true → new.mode ≡ Down
    → PutsAt segment true old.replica.media new.replica.media
    → turn.mark ≡ Halted → turn.outputs ≡ [] → turn.reply ≡ to_call input DiskFailed → IsSmall turn.outputs turn.reply → TurnsOut old input turn new
put-halted old new input change turn segment entry running r puts rest lt state down media mark outputs reply small =
    let now = with_put old.replica.state segment (Some entry) true in
    turns-halted old new input change (record { segment = segment; entry = entry }) turn running r puts mark
    (ap (λ (m : Mode). as_node (lists_in new) (mode_of m new.replica.state new.ticks)) down
    ∙ ap (λ (s : ReplicaState). as_node (lists_of s) (mode_of Down s new.ticks)) state
    ∙ ap (λ (ls : List (List Entry)). as_node ls (mode_of Down now new.ticks)) (lists-kept old.replica.state segment entry)
    ∙ ap (λ (o : Option Put). as_node (lists_in old) (Stopped o old.replica.state.known)) (flight-put old.replica.state.segments segment entry rest lt))
    outputs reply (ap (λ (s : ReplicaState). s.config) state) (ap (λ (s : ReplicaState). member_of s) state) small
    (put-rose segment old.replica.media new.replica.media media)
    (put-told old segment entry true new.replica.media media)
    (counts-put (Some entry) segment true old.replica.media new.replica.media media)

-- what stays true
of-put : (config : Shape) (shard own : ℕ) (state : ReplicaState) (segment : ℕ) (put : Option Entry) (failed : Bool) → IsOf config shard own state
    → IsOf config shard own (with_put state segment put failed)
of-put config shard own state segment None failed of = of
of-put config shard own state segment (Some entry) failed of = record { config_is = of.config_is; shard_is = of.shard_is; own_is = of.own_is }

-- where an entry is put its list has room
abbrev pub HasRoomAt : ReplicaState → ℕ → Option Entry → Type 0
HasRoomAt state segment None = Unit {0}
HasRoomAt state segment (Some entry) = length (segment_at state.segments segment).entries < 16384

sound-put : (state : ReplicaState) (segment : ℕ) (put : Option Entry) → segment < state.config.replicas → HasRoomAt state segment put → IsSound Running state
    → IsSound Running (with_put state segment put false)
sound-put state segment None lt room sound = sound
sound-put state segment (Some entry) lt room sound = sound-stored state segment entry lt room sound

pub storage-put : (config : Shape) (shard own : ℕ) (mode : Mode) (state new : ReplicaState) (sent : List Sent) (segment : ℕ) (put : Option Entry) (failed : Bool)
    → failed ≡ false → new ≡ with_put state segment put failed → mode ≡ Running → segment < state.config.replicas → HasRoomAt state segment put
    → IsStorage config shard own mode state sent → IsStorage config shard own mode new sent
storage-put config shard own mode state new sent segment put failed done is running lt room kept =
    let now : new ≡ with_put state segment put false = is ∙ ap (λ (b : Bool). with_put state segment put b) done in
    record {
      replica = subst (λ (s : ReplicaState). IsOf config shard own s) (sym now) (of-put config shard own state segment put false kept.replica);
      sound = subst (λ (m : Mode). IsSound m new) (sym running)
          (subst (λ (s : ReplicaState). IsSound Running s) (sym now) (sound-put state segment put lt room (subst (λ (m : Mode). IsSound m state) running kept.sound)));
      nothing_sent = kept.nothing_sent;
    }

pub storage-halted : (config : Shape) (shard own : ℕ) (mode : Mode) (state new : ReplicaState) (sent : List Sent) (segment : ℕ) (entry : Entry) (failed : Bool)
    → failed ≡ true → new ≡ with_put state segment (Some entry) failed → mode ≡ Running → HasRoomAt state segment (Some entry)
    → IsStorage config shard own mode state sent → IsStorage config shard own Down new sent
storage-halted config shard own mode state new sent segment entry failed halts is running room kept =
    let now : new ≡ with_put state segment (Some entry) true = is ∙ ap (λ (b : Bool). with_put state segment (Some entry) b) halts in
    record {
      replica = subst (λ (s : ReplicaState). IsOf config shard own s) (sym now) (of-put config shard own state segment (Some entry) true kept.replica);
      sound = subst (λ (s : ReplicaState). IsSound Down s) (sym now) (sound-failed state segment entry room (subst (λ (m : Mode). IsSound m state) running kept.sound));
      nothing_sent = kept.nothing_sent;
    }

-- ---- a submission

-- an entry is put only where the list is not full
to-few : (own : List Entry) (entry put : Entry) (standing : Standing) → (submit_to own entry standing).put ≡ Some put → length own ≢ 16384
to-few own entry put Frozen e = absurd (cc)
to-few own entry put Live e = next (eqb (length own) 16384) refl e
  where
    next : (b : Bool) → eqb (length own) 16384 ≡ b → (cond b (nothing_put IsFull) (record { answer = IsStored (length own); put = Some entry })).put ≡ Some put → length own ≢ 16384
    next true full e = absurd (cc)
    next false full e = eqb-false (length own) 16384 full

new-few : (own : List Entry) (entry put : Entry) (state : Option ShardState) → (submit_new own entry state).put ≡ Some put → length own ≢ 16384
new-few own entry put None e = absurd (cc)
new-few own entry put (Some state) e = to-few own entry put state.standing e

fresh-few : (own : List Entry) (entry put : Entry) (state : Option ShardState) (last : Option ℕ) → (submit_fresh own state entry last).put ≡ Some put → length own ≢ 16384
fresh-few own entry put state None e = new-few own entry put state e
fresh-few own entry put state (Some last) e = next (nat_le entry.number.0 last) e (new-few own entry put state)
  where
    next : (b : Bool) → (cond b (nothing_put (IsStale last)) (submit_new own entry state)).put ≡ Some put → ((submit_new own entry state).put ≡ Some put → length own ≢ 16384) → length own ≢ 16384
    next true e later = absurd (cc)
    next false e later = later e

held-few : (own : List Entry) (entry put : Entry) (state : Option ShardState) (at : Option ℕ) → (submit_held own state entry at).put ≡ Some put → length own ≢ 16384
held-few own entry put state None e = fresh-few own entry put state (last_of own entry.client.0) e
held-few own entry put state (Some offset) e = absurd (cc)

submit-few : (member : Member) (own : List Entry) (known : Knowledge) (entry put : Entry) → (submit member own known entry).put ≡ Some put → length own ≢ 16384
unfolding submit
submit-few member own known entry put e = held-few own entry put (own_shard member known) (held member own known entry.client.0 entry.number.0) e

pub submit-room : (state : ReplicaState) (entry : Entry) → state.own < state.config.replicas → IsSound Running state
    → HasRoomAt state state.own (submit (member_of state) (own_entries state) state.known entry).put
submit-room state entry lt sound = next (submit (member_of state) (own_entries state) state.known entry).put refl
  where
    next : (put : Option Entry) → (submit (member_of state) (own_entries state) state.known entry).put ≡ put → HasRoomAt state state.own put
    next None e = tt
    next (Some put) e =
        let within : state.own < length state.segments = omega (arith, lt, sound.count) in
        let few = all-at IsFew state.segments state.own no_segment sound.few within in
        let other = submit-few (member_of state) (own_entries state) state.known entry put e in
        omega (arith, few, other)

-- the entry of a put
pub some-entry : (put : Option Entry) → IsSome put → (entry : Entry) × (put ≡ Some entry)
some-entry None some = absurd (cc)
some-entry (Some entry) some = (entry, refl)

pub halted-puts : (answer : Submitted) (submission : Submission) → is_halted answer ≡ true → TellsSubmitted answer submission → IsSome submission.put
halted-puts (Stored offset) submission halts told = absurd (cc)
halted-puts (Stale last) submission halts told = absurd (cc)
halted-puts NotAdded submission halts told = absurd (cc)
halted-puts Finalised submission halts told = absurd (cc)
halted-puts Full submission halts told = absurd (cc)
halted-puts PutFailed submission halts told = told

-- what is submitted to a replica
abbrev pub submission_at : StorageState → Client → Number → List ℕ → Submission
submission_at node client number bytes =
    submit (member_in node) (own_entries node.replica.state) node.replica.state.known (entry_of client number bytes)

pub turns-submitted : (old new : StorageState) (client : Client) (number : Number) (bytes : List ℕ) (answer : Submitted) (failed : Bool) (turn : Effect) → old.mode ≡ Running
    → old.replica.state.own < length old.replica.state.segments → failed ≡ false → failed ≡ is_halted answer → TellsSubmitted answer (submission_at old client number bytes)
    → new.replica.state ≡ with_put old.replica.state old.replica.state.own (submission_at old client number bytes).put (is_halted answer)
    → TellsPut (submission_at old client number bytes).put old.replica.state.own (is_halted answer) old.replica.media new.replica.media
    → new.mode ≡ Running → new.ticks ≡ old.ticks → turn.mark ≡ Done → turn.outputs ≡ [] → turn.reply ≡ reply_to_submitted answer
    → TurnsOut old (ACall (Submit client number bytes)) turn new
unfolding on_submit
turns-submitted old new client number bytes answer failed turn running lt done is told state media runs ticks mark outputs reply =
    let entry = entry_of client number bytes in
    let own = own-list old.replica.state lt in
    let run : is_halted answer ≡ false = sym is ∙ done in
    let submission = submission_at old client number bytes in
    put-done old new (ACall (Submit client number bytes)) (on_submit (member_in old) (lists_in old) (memory_of old.replica.state old.ticks) entry) turn old.replica.state.own submission.put
    running refl (ap (λ (es : List Entry). put_into old.replica.state.own (submit (member_in old) es old.replica.state.known entry).put) own) refl lt
    (state ∙ ap (λ (b : Bool). with_put old.replica.state old.replica.state.own submission.put b) run) runs ticks
    (subst (λ (b : Bool). TellsPut submission.put old.replica.state.own b old.replica.media new.replica.media) run media)
    mark outputs
    (reply ∙ submitted-reply answer submission run told ∙ ap (λ (es : List Entry). submit_reply (submit (member_in old) es old.replica.state.known entry).answer) (sym own))
    (reply-small turn.outputs turn.reply (reply_to_submitted answer) outputs reply (submitted-short answer))

pub turns-submit-halted : (old new : StorageState) (client : Client) (number : Number) (bytes : List ℕ) (answer : Submitted) (failed : Bool) (turn : Effect) → old.mode ≡ Running
    → IsSound Running old.replica.state → old.replica.state.own < length old.replica.state.segments → failed ≡ true → failed ≡ is_halted answer
    → TellsSubmitted answer (submission_at old client number bytes)
    → new.replica.state ≡ with_put old.replica.state old.replica.state.own (submission_at old client number bytes).put (is_halted answer)
    → TellsPut (submission_at old client number bytes).put old.replica.state.own (is_halted answer) old.replica.media new.replica.media
    → new.mode ≡ Down → turn.mark ≡ Halted → turn.outputs ≡ [] → turn.reply ≡ DiskFailed
    → TurnsOut old (ACall (Submit client number bytes)) turn new
unfolding on_submit
turns-submit-halted old new client number bytes answer failed turn running sound lt fails is told state media down mark outputs reply =
    let entry = entry_of client number bytes in
    let own = own-list old.replica.state lt in
    let halts : is_halted answer ≡ true = sym is ∙ fails in
    let submission = submission_at old client number bytes in
    let some = some-entry submission.put (halted-puts answer submission halts told) in
    put-halted old new (ACall (Submit client number bytes)) (on_submit (member_in old) (lists_in old) (memory_of old.replica.state old.ticks) entry) turn old.replica.state.own some.0
    running refl
    (ap (λ (es : List Entry). put_into old.replica.state.own (submit (member_in old) es old.replica.state.known entry).put) own ∙ ap (put_into old.replica.state.own) some.1)
    sound.rests lt
    (state ∙ ap (λ (b : Bool). with_put old.replica.state old.replica.state.own submission.put b) halts ∙ ap (λ (o : Option Entry). with_put old.replica.state old.replica.state.own o true) some.1) down
    (subst (λ (o : Option Entry). TellsPut o old.replica.state.own true old.replica.media new.replica.media) some.1
    (subst (λ (b : Bool). TellsPut submission.put old.replica.state.own b old.replica.media new.replica.media) halts media))
    mark outputs reply (reply-small turn.outputs turn.reply DiskFailed outputs reply (omega arith))

-- a halt is told as the entry that was to be put
pub storage-submit-halted : (config : Shape) (shard own : ℕ) (mode : Mode) (state new : ReplicaState) (sent : List Sent) (entry : Entry) (answer : Submitted) (failed : Bool)
    → failed ≡ true → failed ≡ is_halted answer → TellsSubmitted answer (submit (member_of state) (own_entries state) state.known entry)
    → new ≡ with_put state state.own (submit (member_of state) (own_entries state) state.known entry).put (is_halted answer) → mode ≡ Running
    → state.own < state.config.replicas → IsStorage config shard own mode state sent → IsStorage config shard own Down new sent
storage-submit-halted config shard own mode state new sent entry answer failed fails is told state_is running lt kept =
    let submission = submit (member_of state) (own_entries state) state.known entry in
    let halts : is_halted answer ≡ true = sym is ∙ fails in
    let some = some-entry submission.put (halted-puts answer submission halts told) in
    let room = submit-room state entry lt (subst (λ (m : Mode). IsSound m state) running kept.sound) in
    storage-halted config shard own mode state new sent state.own some.0 (is_halted answer) halts
    (state_is ∙ ap (λ (o : Option Entry). with_put state state.own o (is_halted answer)) some.1) running
    (subst (λ (o : Option Entry). HasRoomAt state state.own o) some.1 room) kept
