-- An append over moments: where its shard is live its entry is stored, copied and covered, and told its position; else it is
-- refused.
use Rattle.std.proofs.Common.{◌≡◌, ◌≢◌, ◌<◌, ◌≤◌, ◌*◌, ℕ, zero, suc, ◌==◌, List, [], ◌∷◌, ◌++◌, length, length-append, Option, Some, None, refl, sym, ap, subst, ⊎_elim, arith, eq-eqb, ◌∙◌}
use Rattle.std.specs.List.{AllByRecursion}
use Rattle.std.specs.Prelude.{slice_index}
use Rattle.std.proofs.lemmas.Bool.{cases_eq, cond-false, cond-true, ne_eqb}
use Rattle.std.proofs.lemmas.List.{get_or-set_other, get_or-set_same}
use Rattle.std.proofs.lemmas.Nat.{mul-add-lt, same_from_place}
use Rattle.reply_frame.specs.declared.replies.Reply.{Reply, At as StandsAt, Finalised, NotAdded}
use Rattle.history_frame.specs.declared.inputs.Call.TheVariants.{Ask, Submit}
use Rattle.log_base.specs.ClusterShape.{InRange, Shape}
use Rattle.log_base.specs.Draws.{number_of_draw}
use Rattle.log_base.specs.declared.numbers.Client.{Client}
use Rattle.log_base.specs.declared.numbers.Number.{Number}
use Rattle.log_base.specs.declared.numbers.Position.{Position}
use Rattle.log_base.specs.declared.numbers.Replica.{Replica}
use Rattle.log_base.specs.declared.numbers.Shard.{Shard}
use Rattle.log_model.specs.Asking.{Asked, ask}
use Rattle.log_model.specs.Chain.{ChainState, Standing, Live, Frozen, chain_of}
use Rattle.log_model.specs.Lookup.{position_of_place, segment_index}
use Rattle.log_model.specs.Places.{place_at}
use Rattle.log_model.specs.Storage.{Knowledge, knowledge_of, list_in, with_entry}
use Rattle.log_model.specs.Submitting.{Submission, Submitted, nothing_put, submit}
use Rattle.log_model.specs.Submitting.{Finalised as SubmitFinalised, NotAdded as SubmitNotAdded}
use Rattle.log_model.proofs.Appending.{chain_of-append}
use Rattle.log_model.proofs.Growth.{chain_of-IsChain}
use Rattle.node_model.proofs.Lists.{list_in-other, list_in-same}
use Rattle.command_frame.specs.declared.items.Item.TheVariants.{Append}
use Rattle.command_frame.specs.Items.{IsItem}
use Rattle.record_frame.specs.declared.entries.Entry.{Entry}
use Rattle.record_frame.specs.declared.values.Value.TheVariants.{Cut}
use Rattle.record_frame.specs.Entries.{entry_of}
use Rattle.node_table.specs.Numbering.{storage_node}
use Rattle.paxos_model.specs.Leader.{slot_limit}
use Rattle.node_model.specs.StorageNode.{StorageNode, member_of}
use Rattle.node_model.specs.StorageRow.{answered, ask_reply, call_row, on_ask, on_submit, submit_reply, submitted_as}
use Rattle.plain_log.specs.Log.{LogState, after, after_entry, cut_of, drawn, entries_of, reply_to, standing_of, stored}
use Rattle.plain_log.proofs.Answering.{append_told, stored_position}
use Rattle.plain_log.proofs.Pairs.{IsBefore}
use Rattle.schedule_model.specs.declared.courses.Course.TheVariants.{GoesOn}
use Rattle.schedule_model.specs.declared.duties.Awaited.{Awaited}
use Rattle.schedule_model.specs.declared.duties.Awaited.TheVariants.{Last, Storing}
use Rattle.schedule_model.specs.Courses.{beginning, client_of, course_of, enquiry, next_number}
use Rattle.schedule_model.specs.Duties.{settling}
use Rattle.quiet_model.specs.Ahead.{IsAhead, with_one_more}
use Rattle.quiet_model.specs.Moments.{Moment}
use Rattle.quiet_model.specs.Settled.{AreLists, IsReplica, ListsOf, list_at}
use Rattle.quiet_model.proofs.Calling.{submitted}
use Rattle.quiet_model.proofs.Settling.{settled_by}
use Rattle.quiet_law.specs.Going.{Goes, no_scene}
use Rattle.subscriber.specs.Following.{Following}
use Rattle.quiet_law.specs.Matching.{AreListsOf, IsDrawn, IsInOrder, Matches, agreed_in, primaries_in}
use Rattle.quiet_law.proofs.Answering.{replica_answers}
use Rattle.quiet_law.proofs.Next.{cut_next}
use Rattle.quiet_law.proofs.Pairs.{new_entry, submitted_by, told_position_of}
use Rattle.quiet_law.proofs.Rounds.{settles}

-- the numbers of a lane that were drawn are below the one that it draws next
drawn_below : (run : ℕ) (state : LogState) (lane : ℕ) (entries : List Entry) → AllByRecursion (IsDrawn run state) entries
    → AllByRecursion (IsBefore lane (number_of_draw run (slice_index state.draws lane))) entries
drawn_below run state lane [] all = tt
drawn_below run state lane (entry ∷ entries) all =
    (λ own. subst (λ (n : ℕ). entry.number.0 < number_of_draw run (slice_index state.draws n)) own all.0, drawn_below run state lane entries all.1)

-- the lists with one entry more are those of the log that stored it
longer_same : (config : Shape) (state : LogState) (lists : ListsOf) (s r : ℕ) (entry : Entry) → s < config.shards → r < config.replicas
    → length state.segments ≡ config.shards * config.replicas → AreLists config lists → AreListsOf config state lists
    → AreListsOf config (stored config.replicas state s r entry) (with_one_more lists s r entry)
longer_same config state lists s r entry a b many sizes same t p c d =
    let index = segment_index config.replicas s r in
    let inside : index < length state.segments = omega (arith, many, mul-add-lt s config.replicas r config.shards a b) in
    let entries = entries_of config.replicas state s r in
    ⊎_elim
    (λ here.
    let at = cond-true (t == s) (with_entry (lists t) r entry) (lists t) (eq-eqb t s here) in
    ⊎_elim
    (λ own.
    ap (λ (held : List (List Entry)). list_in held p) at
    ∙ ap (λ (q : ℕ). list_in (with_entry (lists t) r entry) q) own
    ∙ list_in-same (lists t) r entry (omega (arith, sizes t c, b))
    ∙ ap (λ (n : ℕ). list_at lists n r ++ entry ∷ []) here
    ∙ ap (λ (list : List Entry). list ++ entry ∷ []) (same s r a b)
    ∙ sym (get_or-set_same state.segments index (entries ++ entry ∷ []) [] inside)
    ∙ ap (λ (n : ℕ). entries_of config.replicas (stored config.replicas state s r entry) n r) (sym here)
    ∙ ap (λ (q : ℕ). entries_of config.replicas (stored config.replicas state s r entry) t q) (sym own))
    (λ other.
    let apart : segment_index config.replicas t p ≢ index = λ e. other (same_from_place t p s r config.replicas d b e).1 in
    ap (λ (held : List (List Entry)). list_in held p) at
    ∙ list_in-other (lists t) r p entry other
    ∙ same t p c d
    ∙ sym (get_or-set_other state.segments index (segment_index config.replicas t p) (entries ++ entry ∷ []) [] apart))
    (cases_eq p r))
    (λ there.
    let at = cond-false (t == s) (with_entry (lists t) r entry) (lists t) (ne_eqb t s there) in
    let apart : segment_index config.replicas t p ≢ index = λ e. there (same_from_place t p s r config.replicas d b e).0 in
    ap (λ (held : List (List Entry)). list_in held p) at
    ∙ same t p c d
    ∙ sym (get_or-set_other state.segments index (segment_index config.replicas t p) (entries ++ entry ∷ []) [] apart))
    (cases_eq t s)

module _ (config : Shape) (range : InRange config) (run : ℕ) (state : LogState) (is : IsInOrder config run state) (lane : ℕ) (shard : Shard) (replica : Replica) (bytes : List ℕ)
    (item : IsItem config (Append lane shard replica bytes)) (stream : Following) where
  abbrev client : Client
  client = client_of lane

  abbrev number : Number
  number = next_number run state.draws lane

  abbrev entry : Entry
  entry = entry_of client number bytes

  abbrev own_state : LogState
  own_state = drawn state lane shard.0 replica.0

  abbrev own_list : ListsOf → List Entry
  own_list lists = list_at lists shard.0 replica.0

  -- what the submission is answered
  submits : (lists : ListsOf) → AreListsOf config state lists → (standing_of config.replicas state shard.0 ≡ Some Live → length state.values < slot_limit)
      → submit (member_of config shard.0 replica.0) (own_list lists) (knowledge_of (member_of config shard.0 replica.0) state.values) entry
      ≡ submitted_by (own_list lists) entry (standing_of config.replicas state shard.0)
  submits lists same room =
      let held = same shard.0 replica.0 item.1 item.2 in
      let index = segment_index config.replicas shard.0 replica.0 in
      new_entry (member_of config shard.0 replica.0) (own_list lists) (knowledge_of (member_of config shard.0 replica.0) state.values) entry
      (subst (AllByRecursion (IsBefore lane number.0)) (sym held) (drawn_below run state lane (entries_of config.replicas state shard.0 replica.0) (is.drawn index)))
      (λ live. let few = is.few index in let less = room live in let size = ap (λ (list : List Entry). length list) held in omega (arith, few, less, size))

  -- ---- a refusal

  refused_row : (ballot : ℕ) (lists : ListsOf) (why : Submitted)
      → submit (member_of config shard.0 replica.0) (own_list lists) (knowledge_of (member_of config shard.0 replica.0) state.values) entry ≡ nothing_put why
      → (node : StorageNode) (h : IsReplica config shard.0 replica.0 (lists shard.0) (length (own_list lists)) state.values node)
      → call_row (member_of config shard.0 replica.0) node.durable h.memory (Submit client number bytes) ≡ Some (answered h.memory (submit_reply why))
  unfolding on_submit
  refused_row ballot lists why e node h =
      ap (λ (held : List (List Entry)). Some (submitted_as (member_of config shard.0 replica.0) h.memory (submit (member_of config shard.0 replica.0) (list_in held replica.0) h.memory.known entry))) h.holds
      ∙ ap (λ (known : Knowledge). Some (submitted_as (member_of config shard.0 replica.0) h.memory (submit (member_of config shard.0 replica.0) (own_list lists) known entry))) h.knows
      ∙ ap (λ (submission : Submission). Some (submitted_as (member_of config shard.0 replica.0) h.memory submission)) e

  abbrev node_id : ℕ
  node_id = storage_node config shard.0 replica.0

  refused : (why : Submitted) → ((reply : Reply) → reply ≡ submit_reply why → (calls : ℕ) (before after : Moment) (answer : Reply)
      → Goes config stream calls (course_of config (Storing (record { 0 = node_id }) client number) reply) before answer after → (answer ≡ submit_reply why) × (after ≡ before))
      → (calls : ℕ) (before after : Moment) (answer : Reply) → (matches : Matches config state before)
      → submit (member_of config shard.0 replica.0) (own_list matches.lists) (knowledge_of (member_of config shard.0 replica.0) state.values) entry ≡ nothing_put why
      → Goes config stream calls (beginning config run state.draws (primaries_in config state) no_scene (Append lane shard replica bytes)) before answer after
      → Matches config own_state after × (answer ≡ submit_reply why)
  refused why ends zero before after answer matches e goes = absurd goes
  refused why ends (suc calls) before after answer matches e goes =
      let told = replica_answers config (agreed_in matches.ballot state) matches.lists shard.0 replica.0 item.1 item.2 (Submit client number bytes) (submit_reply why)
      (refused_row matches.ballot matches.lists why e) before goes.1 goes.0 matches.settled goes.2 in
      let rest = ends goes.0 told.1 calls goes.1 after answer goes.3 in
      let stays : Matches config own_state goes.1 = record { ballot = matches.ballot; lists = matches.lists; same = matches.same; settled = told.0 } in
      (subst (Matches config own_state) (sym rest.1) stays, rest.0)

  -- ---- a stored entry

  module _ (live : standing_of config.replicas state shard.0 ≡ Some Live) where
    abbrev next_state : LogState
    next_state = stored config.replicas own_state shard.0 replica.0 entry

    abbrev offset : ℕ
    offset = length (entries_of config.replicas state shard.0 replica.0)

    position : (place : ℕ) × (position_of_place config.replicas next_state.values (place_at shard.0 replica.0 offset) ≡ Some place)
        × ((chain_of config.replicas next_state.values).mark ≤ place)
        × (reply_to config run state (Append lane shard replica bytes) ≡ StandsAt (record { 0 = place }))
    position =
        let found = stored_position config own_state shard.0 replica.0 entry item.1 item.2 live is.coherent in
        let end : Position = record { 0 = (chain_of config.replicas state.values).end } in
        let at : Position = record { 0 = found.0 } in
        let told : reply_to config run state (Append lane shard replica bytes) ≡ StandsAt at = rw (live, found.1) refl in
        let same : StandsAt at ≡ StandsAt end = sym told ∙ (append_told config run state lane shard replica bytes item live is.coherent).0 in
        let here : at ≡ end = cc in
        let place : found.0 ≡ (chain_of config.replicas state.values).end = ap (λ (p : Position). p.0) here in
        let mark : (chain_of config.replicas next_state.values).mark ≡ (chain_of config.replicas state.values).mark =
        ap (λ (chain : ChainState). chain.mark) (chain_of-append config.replicas state.values (Cut (cut_of next_state.segments) ∷ [])) in
        (found.0, found.1, omega (arith, place, mark, (chain_of-IsChain config.replicas state.values).mark), told)

    asked_row : (lists : ListsOf) → list_at lists shard.0 replica.0 ≡ entries_of config.replicas state shard.0 replica.0 ++ entry ∷ []
        → (node : StorageNode) (h : IsReplica config shard.0 replica.0 (lists shard.0) (length (own_list lists)) next_state.values node)
        → call_row (member_of config shard.0 replica.0) node.durable h.memory (Ask client number) ≡ Some (answered h.memory (StandsAt (record { 0 = position.0 })))
    unfolding on_ask
    asked_row lists held node h =
        let member = member_of config shard.0 replica.0 in
        let known = knowledge_of member next_state.values in
        ap (λ (all : List (List Entry)). Some (answered h.memory (ask_reply (ask member (list_in all replica.0) h.memory.known lane number.0)))) h.holds
        ∙ ap (λ (k : Knowledge). Some (answered h.memory (ask_reply (ask member (own_list lists) k lane number.0)))) h.knows
        ∙ ap (λ (list : List Entry). Some (answered h.memory (ask_reply (ask member list known lane number.0)))) held
        ∙ ap (λ (told : Asked). Some (answered h.memory (ask_reply told)))
        (told_position_of member (entries_of config.replicas state shard.0 replica.0) entry known position.0 position.1 position.2)

    -- once the entry is stored, it is copied, covered and told its position
    covered : length state.values < slot_limit → (ballot : ℕ) (lists : ListsOf) → AreListsOf config state lists → (at : ℕ) (calls : ℕ) (before after : Moment) (answer : Reply)
        → IsAhead config (agreed_in ballot state) lists (with_one_more lists shard.0 replica.0 entry) before
        → Goes config stream calls (GoesOn (settling config ++ enquiry (record { 0 = node_id }) client number ∷ [])) before answer after
        → Matches config next_state after × (answer ≡ reply_to config run state (Append lane shard replica bytes))
    covered few ballot lists same at zero before after answer ahead goes = absurd goes
    covered few ballot lists same at (suc calls) before after answer ahead goes =
        let done = settles config (record { 0 = node_id }) (Ask client number) Last
        (λ (awaited : Awaited) (reply : Reply) (next : Moment). Goes config stream calls (course_of config awaited reply) next answer after) before goes in
        let longer = with_one_more lists shard.0 replica.0 entry in
        let same_now = longer_same config own_state lists shard.0 replica.0 entry item.1 item.2 is.coherent.segments_of_all ahead.old_sizes same in
        let next = cut_next config range ballot longer ahead.new_sizes own_state shard.0 replica.0 entry item.1 item.2 live is.coherent same_now few in
        let decided = settled_by config (agreed_in ballot state) lists longer (Cut (cut_of next_state.segments)) before done.settled range ahead next done.rounds in
        let index = segment_index config.replicas shard.0 replica.0 in
        let inside : index < length state.segments = omega (arith, is.coherent.segments_of_all, mul-add-lt shard.0 config.replicas replica.0 config.shards item.1 item.2) in
        let held : list_at longer shard.0 replica.0 ≡ entries_of config.replicas state shard.0 replica.0 ++ entry ∷ [] =
        same_now shard.0 replica.0 item.1 item.2
        ∙ get_or-set_same state.segments index (entries_of config.replicas state shard.0 replica.0 ++ entry ∷ []) [] inside in
        let told = replica_answers config (agreed_in ballot next_state) longer shard.0 replica.0 item.1 item.2 (Ask client number) (StandsAt (record { 0 = position.0 }))
        (asked_row longer held) done.settled done.next done.reply decided.0 done.takes in
        let stays : Matches config next_state done.next = record { ballot = ballot; lists = longer; same = same_now; settled = told.0 } in
        (subst (Matches config next_state) (sym done.rest.1) stays, done.rest.0 ∙ told.1 ∙ sym position.3)

    stored_answered : length state.values < slot_limit → (calls : ℕ) (before after : Moment) (answer : Reply) → Matches config state before
        → Goes config stream calls (beginning config run state.draws (primaries_in config state) no_scene (Append lane shard replica bytes)) before answer after
        → Matches config next_state after × (answer ≡ reply_to config run state (Append lane shard replica bytes))
    stored_answered few zero before after answer matches goes = absurd goes
    stored_answered few (suc calls) before after answer matches goes =
        let stores = submits matches.lists matches.same (λ _. few) ∙ ap (submitted_by (own_list matches.lists) entry) live in
        let taken = submitted config (agreed_in matches.ballot state) matches.lists shard.0 replica.0 item.1 item.2 client number bytes stores before goes.1 goes.0 matches.settled goes.2 in
        covered few matches.ballot matches.lists matches.same (length (own_list matches.lists)) calls goes.1 after answer taken.0
        (subst (λ (reply : Reply). Goes config stream calls (course_of config (Storing (record { 0 = node_id }) client number) reply) goes.1 answer after) taken.1 goes.3)

  by_standing : (standing : Option Standing) → standing_of config.replicas state shard.0 ≡ standing
      → length (after_entry config.replicas own_state shard.0 replica.0 entry standing).values ≤ slot_limit
      → (calls : ℕ) (before later : Moment) (answer : Reply) → Matches config state before
      → Goes config stream calls (beginning config run state.draws (primaries_in config state) no_scene (Append lane shard replica bytes)) before answer later
      → Matches config (after_entry config.replicas own_state shard.0 replica.0 entry standing) later × (answer ≡ reply_to config run state (Append lane shard replica bytes))
  by_standing None has few calls before later answer matches goes =
      let e = submits matches.lists matches.same (λ live. absurd (let other = sym has ∙ live in cc)) ∙ ap (submitted_by (own_list matches.lists) entry) has in
      let done = refused SubmitNotAdded
      (λ reply told n here there said more. subst (λ (r : Reply). Goes config stream n (course_of config (Storing (record { 0 = node_id }) client number) r) here said there) told more)
      calls before later answer matches e goes in
      let refusal : reply_to config run state (Append lane shard replica bytes) ≡ NotAdded = rw has refl in
      (done.0, done.1 ∙ sym refusal)
  by_standing (Some Frozen) has few calls before later answer matches goes =
      let e = submits matches.lists matches.same (λ live. absurd (let other = sym has ∙ live in cc)) ∙ ap (submitted_by (own_list matches.lists) entry) has in
      let done = refused SubmitFinalised
      (λ reply told n here there said more. subst (λ (r : Reply). Goes config stream n (course_of config (Storing (record { 0 = node_id }) client number) r) here said there) told more)
      calls before later answer matches e goes in
      let refusal : reply_to config run state (Append lane shard replica bytes) ≡ Finalised = rw has refl in
      (done.0, done.1 ∙ sym refusal)
  by_standing (Some Live) has few calls before later answer matches goes =
      let next = stored config.replicas own_state shard.0 replica.0 entry in
      stored_answered has (omega (arith, few, length-append state.values (Cut (cut_of next.segments) ∷ []))) calls before later answer matches goes

  pub append_answered : length (after config run state (Append lane shard replica bytes)).values ≤ slot_limit
      → (calls : ℕ) (before later : Moment) (answer : Reply) → Matches config state before
      → Goes config stream calls (beginning config run state.draws (primaries_in config state) no_scene (Append lane shard replica bytes)) before answer later
      → Matches config (after config run state (Append lane shard replica bytes)) later × (answer ≡ reply_to config run state (Append lane shard replica bytes))
  append_answered few calls before later answer matches goes = by_standing (standing_of config.replicas state shard.0) refl few calls before later answer matches goes
