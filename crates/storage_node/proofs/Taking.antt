-- The row of a copy that a replica takes.
use Rattle.std.proofs.Common.{◌≡◌, ◌≢◌, ℕ, suc, ◌<◌, ◌≤◌, Bool, true, false, cond, eqb, List, [], ◌∷◌, ◌++◌, length, set, Option, Some, None, refl, sym, ap, ◌∙◌, subst, arith, length-append, ⊎_elim}
use Rattle.std.specs.List.{AllByRecursion}
use Rattle.std.specs.Prelude.{nat_lt}
use Rattle.std.proofs.lemmas.Bool.{cases_Bool, cond-false, eqb-true}
use Rattle.std.proofs.lemmas.List.{get_or-set_same, length-set}
use Rattle.reply_frame.specs.declared.replies.Reply.{Reply, Nothing}
use Rattle.history_frame.specs.declared.events.Sent.{Sent}
use Rattle.history_frame.specs.declared.inputs.Input.TheVariants.{Deliver}
use Rattle.history_frame.specs.declared.inputs.Mark.TheVariants.{Halted}
use Rattle.log_base.specs.declared.numbers.Replica.{Replica as Peer}
use Rattle.log_model.specs.Storage.{list_in}
use Rattle.message_frame.specs.declared.messages.Message.TheVariants.{Copy}
use Rattle.node_model.specs.StorageNode.{Put, StorageChange}
use Rattle.node_model.specs.StorageRow.{ack, copied_as, on_copy, report, told}
use Rattle.peer_copy.specs.Copying.{taking_of}
use Rattle.peer_copy.specs.declared.taking.Taking.{Taking}
use Rattle.peer_copy.specs.declared.taking.Taking.TheVariants.{Put as IsNext, Have as IsThere, Gap as IsMissing}
use Rattle.record_frame.specs.declared.entries.Entry.{Entry}
use Rattle.shard_replica.specs.Answers.{TellsPut, copied_entry}
use Rattle.shard_replica.specs.Lists.{Segment, after_put, no_segment, segment_at}
use Rattle.shard_replica.specs.Replica.{Replicated, ReplicaState, lists_of, member_of, with_put}
use Rattle.shard_replica.proofs.Held.{list-of}
use Rattle.storage_node.specs.declared.node.Mode.TheVariants.{Down, Running}
use Rattle.history_frame.specs.declared.events.Effect.{Effect}
use Rattle.storage_node.specs.Preparing.{IsLetter}
use Rattle.storage_node.specs.StorageState.{IsAtRest, StorageState, config_of, lists_in, member_in, memory_of}
use Rattle.storage_node.specs.Turning.{IsSilent, IsSmall, TurnsOut}
use Rattle.storage_node.proofs.Putting.{lists-stored}
use Rattle.storage_node.proofs.Puts.{put-done, put-halted}
use Rattle.storage_node.proofs.Starting.{silent-small}

-- the length of a list as the rule has it
rule-length : (state : ReplicaState) (segment offset : ℕ) → segment < length state.segments
    → taking_of offset (length (list_in (lists_of state) segment)) ≡ taking_of offset (length (segment_at state.segments segment).entries)
rule-length state segment offset lt = ap (λ (es : List Entry). taking_of offset (length es)) (list-of state.segments segment lt)

-- a put of an entry to a segment
abbrev put_of : ℕ → Entry → Put
put_of segment entry = record { segment = segment; entry = entry }

-- the row of a copy, by what becomes of it
row-of : (node : StorageState) (segment offset : ℕ) (entry : Entry) (taking : Taking) → segment < length node.replica.state.segments
    → taking_of offset (length (segment_at node.replica.state.segments segment).entries) ≡ taking
    → on_copy (config_of node) (member_in node) (lists_in node) (memory_of node.replica.state node.ticks) (put_of segment entry) offset
    ≡ copied_as (config_of node) (member_in node) (lists_in node) (memory_of node.replica.state node.ticks) (put_of segment entry) taking
unfolding on_copy
row-of node segment offset entry taking lt is =
    ap (copied_as (config_of node) (member_in node) (lists_in node) (memory_of node.replica.state node.ticks) (put_of segment entry))
    (rule-length node.replica.state segment offset lt ∙ is)

-- two letters or one
told-small : (sent expected : List Sent) (reply : Reply) → sent ≡ expected → length expected ≤ 22 → AllByRecursion IsLetter sent → reply ≡ Nothing → IsSmall sent reply
told-small sent expected reply is few letters nothing =
    subst (λ (r : Reply). IsSmall sent r) (sym nothing) (record { few = subst (λ (l : List Sent). length l ≤ 22) (sym is) few; letters = letters; reply = omega arith })

-- the next entry is put, acknowledged and reported
pub turns-next : (old mid new : StorageState) (place index : ℕ) (segment : Peer) (offset : ℕ) (entry found : Entry) (failed : Bool) (turn : Effect) → old.mode ≡ Running
    → segment.0 < length old.replica.state.segments → found ≡ entry → failed ≡ false
    → taking_of offset (length (segment_at old.replica.state.segments segment.0).entries) ≡ IsNext
    → mid.replica.state ≡ with_put old.replica.state segment.0 (copied_entry (taking_of offset (length (segment_at old.replica.state.segments segment.0).entries)) found) failed
    → TellsPut (copied_entry (taking_of offset (length (segment_at old.replica.state.segments segment.0).entries)) found) segment.0 failed old.replica.media mid.replica.media
    → mid.mode ≡ old.mode → mid.ticks ≡ old.ticks → IsSilent mid turn new
    → turn.outputs ≡ ack (config_of mid) (member_in mid) segment.0 (lists_in mid) ∷ report (config_of mid) (member_in mid) (lists_in mid) ∷ []
    → AllByRecursion IsLetter turn.outputs → TurnsOut old (Deliver place index (Some (Copy segment offset entry))) turn new
turns-next old mid new place index segment offset entry found failed turn running lt same done next state media mode ticks silent outputs letters =
    let put : copied_entry (taking_of offset (length (segment_at old.replica.state.segments segment.0).entries)) found ≡ Some entry = ap (λ (t : Taking). copied_entry t found) next ∙ ap (λ (e : Entry). Some e) same in
    let now = with_put old.replica.state segment.0 (Some entry) false in
    let is : mid.replica.state ≡ now = state ∙ ap (λ (o : Option Entry). with_put old.replica.state segment.0 o failed) put ∙ ap (λ (b : Bool). with_put old.replica.state segment.0 (Some entry) b) done in
    let told_media = subst (λ (b : Bool). TellsPut (Some entry) segment.0 b old.replica.media mid.replica.media) done
    (subst (λ (o : Option Entry). TellsPut o segment.0 failed old.replica.media mid.replica.media) put media) in
    let change = copied_as (config_of old) (member_in old) (lists_in old) (memory_of old.replica.state old.ticks) (put_of segment.0 entry) IsNext in
    let letters_of : ReplicaState → List Sent = λ s. ack s.config (member_of s) segment.0 (lists_of s) ∷ report s.config (member_of s) (lists_of s) ∷ [] in
    let stored : List (List Entry) → List Sent = λ ls. ack (config_of old) (member_in old) segment.0 ls ∷ report (config_of old) (member_in old) ls ∷ [] in
    let outs : turn.outputs ≡ change.outputs = outputs ∙ ap letters_of is ∙ ap stored (lists-stored old.replica.state segment.0 entry lt) in
    put-done old new (Deliver place index (Some (Copy segment offset entry))) change turn segment.0 (Some entry) running
    (ap (λ (c : StorageChange). Some c) (row-of old segment.0 offset entry IsNext lt next)) refl refl lt
    (ap (λ (r : Replicated). r.state) silent.replica ∙ is) (silent.mode ∙ mode ∙ running) (silent.ticks ∙ ticks)
    (subst (λ (r : Replicated). TellsPut (Some entry) segment.0 false old.replica.media r.media) (sym silent.replica) told_media)
    silent.mark outs silent.reply (told-small turn.outputs _ turn.reply outs (omega arith) letters silent.reply)

-- any other entry is acknowledged alone
pub turns-other : (old mid new : StorageState) (place index : ℕ) (segment : Peer) (offset : ℕ) (entry found : Entry) (failed : Bool) (taking : Taking) (turn : Effect) → old.mode ≡ Running
    → segment.0 < length old.replica.state.segments → taking ≢ IsNext
    → taking_of offset (length (segment_at old.replica.state.segments segment.0).entries) ≡ taking
    → mid.replica.state ≡ with_put old.replica.state segment.0 (copied_entry (taking_of offset (length (segment_at old.replica.state.segments segment.0).entries)) found) failed
    → TellsPut (copied_entry (taking_of offset (length (segment_at old.replica.state.segments segment.0).entries)) found) segment.0 failed old.replica.media mid.replica.media
    → mid.mode ≡ old.mode → mid.ticks ≡ old.ticks → IsSilent mid turn new
    → turn.outputs ≡ ack (config_of mid) (member_in mid) segment.0 (lists_in mid) ∷ []
    → AllByRecursion IsLetter turn.outputs → TurnsOut old (Deliver place index (Some (Copy segment offset entry))) turn new
turns-other old mid new place index segment offset entry found failed taking turn running lt other is state media mode ticks silent outputs letters =
    let put : copied_entry (taking_of offset (length (segment_at old.replica.state.segments segment.0).entries)) found ≡ None = ap (λ (t : Taking). copied_entry t found) is ∙ no-entry taking other in
    let same : mid.replica.state ≡ old.replica.state = state ∙ ap (λ (o : Option Entry). with_put old.replica.state segment.0 o failed) put in
    let told_media : mid.replica.media ≡ old.replica.media = subst (λ (o : Option Entry). TellsPut o segment.0 failed old.replica.media mid.replica.media) put media in
    let letters_of : ReplicaState → List Sent = λ s. ack s.config (member_of s) segment.0 (lists_of s) ∷ [] in
    let outs : turn.outputs ≡ ack (config_of old) (member_in old) segment.0 (lists_in old) ∷ [] = outputs ∙ ap letters_of same in
    put-done old new (Deliver place index (Some (Copy segment offset entry)))
    (told (memory_of old.replica.state old.ticks) (ack (config_of old) (member_in old) segment.0 (lists_in old) ∷ [])) turn segment.0 None running
    (ap (λ (c : StorageChange). Some c) (row-of old segment.0 offset entry taking lt is ∙ other-row taking other)) refl refl lt
    (ap (λ (r : Replicated). r.state) silent.replica ∙ same) (silent.mode ∙ mode ∙ running) (silent.ticks ∙ ticks)
    (ap (λ (r : Replicated). r.media) silent.replica ∙ told_media)
    silent.mark outs silent.reply (told-small turn.outputs _ turn.reply outs (omega arith) letters silent.reply)
  where
    no-entry : (t : Taking) → t ≢ IsNext → copied_entry t found ≡ None
    no-entry IsNext other = absurd (other refl)
    no-entry IsThere other = refl
    no-entry IsMissing other = refl

    other-row : (t : Taking) → t ≢ IsNext → copied_as (config_of old) (member_in old) (lists_in old) (memory_of old.replica.state old.ticks) (put_of segment.0 entry) t
        ≡ told (memory_of old.replica.state old.ticks) (ack (config_of old) (member_in old) segment.0 (lists_in old) ∷ [])
    other-row IsNext other = absurd (other refl)
    other-row IsThere other = refl
    other-row IsMissing other = refl

-- the put fails
pub turns-copy-halted : (old new : StorageState) (place index : ℕ) (segment : Peer) (offset : ℕ) (entry found : Entry) (turn : Effect) → old.mode ≡ Running
    → AllByRecursion IsAtRest old.replica.state.segments → segment.0 < length old.replica.state.segments → found ≡ entry
    → taking_of offset (length (segment_at old.replica.state.segments segment.0).entries) ≡ IsNext
    → new.replica.state ≡ with_put old.replica.state segment.0 (copied_entry (taking_of offset (length (segment_at old.replica.state.segments segment.0).entries)) found) true
    → TellsPut (copied_entry (taking_of offset (length (segment_at old.replica.state.segments segment.0).entries)) found) segment.0 true old.replica.media new.replica.media
    → new.mode ≡ Down → turn.mark ≡ Halted → turn.outputs ≡ [] → turn.reply ≡ Nothing → TurnsOut old (Deliver place index (Some (Copy segment offset entry))) turn new
turns-copy-halted old new place index segment offset entry found turn running rest lt same next state media down mark outputs reply =
    let put : copied_entry (taking_of offset (length (segment_at old.replica.state.segments segment.0).entries)) found ≡ Some entry = ap (λ (t : Taking). copied_entry t found) next ∙ ap (λ (e : Entry). Some e) same in
    put-halted old new (Deliver place index (Some (Copy segment offset entry)))
    (copied_as (config_of old) (member_in old) (lists_in old) (memory_of old.replica.state old.ticks) (put_of segment.0 entry) IsNext) turn segment.0 entry running
    (ap (λ (c : StorageChange). Some c) (row-of old segment.0 offset entry IsNext lt next)) refl rest lt
    (state ∙ ap (λ (o : Option Entry). with_put old.replica.state segment.0 o true) put) down
    (subst (λ (o : Option Entry). TellsPut o segment.0 true old.replica.media new.replica.media) put media)
    mark outputs reply (silent-small turn.outputs turn.reply outputs reply)

-- the next offset is the length
next-length : (offset len : ℕ) → taking_of offset len ≡ IsNext → offset ≡ len
next-length offset len is =
    ⊎_elim (λ same. eqb-true offset len same)
    (λ other. absurd (none (nat_lt offset len) (sym (cond-false (eqb offset len) IsNext (cond (nat_lt offset len) IsThere IsMissing) other) ∙ is)))
    (cases_Bool (eqb offset len))
  where
    none : (b : Bool) → cond b IsThere IsMissing ≡ IsNext → ⊥
    none true e = cc
    none false e = cc

pub copy-room : (state : ReplicaState) (segment offset : ℕ) → taking_of offset (length (segment_at state.segments segment).entries) ≡ IsNext → offset < 16384
    → length (segment_at state.segments segment).entries < 16384
copy-room state segment offset next lt = let is = next-length offset (length (segment_at state.segments segment).entries) next in omega (arith, lt, is)

-- the list after the put, and the list where nothing is put
pub next-list : (state now : ReplicaState) (segment offset len : ℕ) (found : Entry) → segment < length state.segments
    → (taking_of offset (length (segment_at state.segments segment).entries) ≡ IsNext) × (len ≡ suc (length (segment_at state.segments segment).entries))
    → now ≡ with_put state segment (copied_entry (taking_of offset (length (segment_at state.segments segment).entries)) found) false
    → len ≡ length (list_in (lists_of now) segment)
next-list state now segment offset len found lt told is =
    let put : copied_entry (taking_of offset (length (segment_at state.segments segment).entries)) found ≡ Some found = ap (λ (t : Taking). copied_entry t found) told.0 in
    let after = after_put (segment_at state.segments segment) found false in
    let segments : now.segments ≡ set state.segments segment after = ap (λ (s : ReplicaState). s.segments) (is ∙ ap (λ (o : Option Entry). with_put state segment o false) put) in
    let within : segment < length now.segments = omega (arith, lt, ap (λ (ss : List Segment). length ss) segments, length-set state.segments segment after) in
    let here : list_in (lists_of now) segment ≡ (segment_at state.segments segment).entries ++ found ∷ [] =
    list-of now.segments segment within ∙ ap (λ (ss : List Segment). (segment_at ss segment).entries) segments
    ∙ ap (λ (s : Segment). s.entries) (get_or-set_same state.segments segment after no_segment lt) in
    let size : length (list_in (lists_of now) segment) ≡ suc (length (segment_at state.segments segment).entries) =
    ap (λ (es : List Entry). length es) here ∙ (let l = length-append (segment_at state.segments segment).entries (found ∷ []) in omega (arith, l)) in
    told.1 ∙ sym size

pub other-list : (state now : ReplicaState) (segment len : ℕ) (put : Option Entry) (failed : Bool) → segment < length state.segments → put ≡ None
    → len ≡ length (segment_at state.segments segment).entries → now ≡ with_put state segment put failed → len ≡ length (list_in (lists_of now) segment)
other-list state now segment len put failed lt none told is =
    told ∙ ap (λ (es : List Entry). length es) (sym (list-of state.segments segment lt))
    ∙ ap (λ (s : ReplicaState). length (list_in (lists_of s) segment)) (sym (is ∙ ap (λ (o : Option Entry). with_put state segment o failed) none))
