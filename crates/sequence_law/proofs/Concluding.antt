-- From what a node knows when it answers to the sequence of the whole history.
use Rattle.std.proofs.Common.{◌≡◌, ◌<◌, ◌≤◌, ◌*◌, ◌^◌, ℕ, List, ◌∷◌, ◌++◌, length, slice_get, get_or, Some, None, refl, sym, ap, subst, ⊎_elim, arith, append_assoc, ◌∙◌}
use Rattle.std.proofs.lemmas.Bool.{cases_lt}
use Rattle.std.proofs.lemmas.Option.{none-some, same_Some, slice_get-get_or, slice_get_within}
use Rattle.reply_frame.specs.declared.replies.Reply.{At as StandsAt, Finalised as Closed, FinalisedAt as FrozenAt}
use Rattle.history_frame.specs.declared.events.Event.{Event}
use Rattle.history_frame.specs.declared.inputs.Call.{Call}
use Rattle.history_frame.specs.declared.inputs.Call.TheVariants.{Submit, Ask, Read, Request, Settled}
use Rattle.history_frame.specs.declared.inputs.Input.TheVariants.{Call as ACall}
use Rattle.log_base.specs.ClusterShape.{Shape}
use Rattle.log_base.specs.declared.numbers.Place.{Place}
use Rattle.log_model.specs.Asking.{Asked, ask}
use Rattle.log_model.specs.Chain.{Frozen, ShardState, chain_of, covered_of}
use Rattle.log_model.specs.Places.{place_at}
use Rattle.log_model.specs.Reading.{ReadAnswer, read}
use Rattle.log_model.specs.Spelling.{spell}
use Rattle.log_model.specs.Storage.{Knowledge, covered_length_of, list_in, own_shard, position_of}
use Rattle.log_model.specs.Submitting.{Submission, submit}
use Rattle.log_model.proofs.Spelled.{one_position}
use Rattle.node_table.specs.Numbering.{storage_node}
use Rattle.record_frame.specs.declared.entries.Entry.{Entry}
use Rattle.record_frame.specs.declared.values.Value.{Value}
use Rattle.record_frame.specs.Entries.{entry_of}
use Rattle.node_model.specs.Durable.{IsFounded}
use Rattle.node_model.specs.Legal.{IsLegal, submitted}
use Rattle.node_model.specs.Marks.{known_in}
use Rattle.node_model.specs.NodeState.{KeptLists, Storing, node_after}
use Rattle.node_model.specs.Sequence.{HasSeen, IsTold, decided_by, position_told}
use Rattle.node_model.specs.StorageNode.{Replica, StorageNode, member_of}
use Rattle.node_model.specs.StorageRow.{ask_reply, read_reply, storage_role, submit_reply}
use Rattle.agreement_law.specs.Elements.{In, IsPrefix}
use Rattle.safety_law.specs.Lists.{IsSegment}
use Rattle.safety_law.specs.Statements.{lists_after}
use Rattle.safety_law.proofs.Prefixes.{prefix_more, prefix_same}
use Rattle.sequence_law.specs.Answers.{AcknowledgedOnce, AtQuestion, AtSubmission, IsAfter, IsAtReplica, RefusedNowhere, StandsOnce}
use Rattle.sequence_law.specs.Known.{KnowsBeginning}
use Rattle.sequence_law.specs.Pairs.{IsPair, IsSubmittedTo, IsUpToFirst, Stands, Submits}
use Rattle.sequence_law.proofs.Agreeing.{decided_known, decided_stays}
use Rattle.sequence_law.proofs.Answering.{Called, IsSaid, call_of, called, orderer_tells_none, told_said}
use Rattle.sequence_law.proofs.Chains.{covered_at, frozen_stays, not_covered, place_stays, position_known, spell_rises}
use Rattle.sequence_law.proofs.Covered.{covered_held, decided_safe, place_held}
use Rattle.sequence_law.proofs.Grown.{entry_stays}
use Rattle.sequence_law.proofs.Moments.{legal_after, legal_part, list_is, next_of}
use Rattle.sequence_law.proofs.Owned.{Owned, same_replica}
use Rattle.sequence_law.proofs.Replies.{after_got, after_some, among_parts, asked_reply, closed_only, read_answer, some_told, submission_of, submit_answer, submit_none}
use Rattle.sequence_law.proofs.Rows.{Absent, AskSays, Barred, Closes, Declines, Finds, GivenUp, Lacks, OfOther, Older, PastEnd, Placed, Puts, ReadSays, SubmitSays, Waits, ask_says, read_says, submit_says}
use Rattle.sequence_law.proofs.Spelled.{has_entry, in_sequence, sequence_place}
use Rattle.sequence_law.proofs.Submitting.{of_run, submissions_agree, submissions_of_run}

module _ (config : Shape) (run : ℕ) (kept : KeptLists) (founded : IsFounded config run kept) where
  -- what a replica knows when an event comes, in the terms of the values decided by then
  module _ (before : List Event) (e : Event) (legal : IsLegal config run kept before) (s r : ℕ) (node : StorageNode) (memory : Replica) (by : IsAtReplica config kept before e s r node memory) where
    state_here : node_after config kept before (storage_node config s r) ≡ Storing node
    state_here = ap (node_after config kept before) (sym by.here) ∙ by.state

    pub known_here : KnowsBeginning (member_of config s r) (decided_by config kept before) memory.known
    known_here =
        subst (λ m. KnowsBeginning (member_of config s r) (decided_by config kept before) (known_in (storage_role config (member_of config s r)) m)) by.running
        ((decided_known config run kept founded before legal).storage s r node by.shard_below by.replica_below state_here)

    -- a position that the replica knows
    pub known_place : (p : ℕ) (place : Place) → slice_get memory.known.places p ≡ Some place → slice_get (spell config.replicas (decided_by config kept before)) p ≡ Some place
    known_place p place at =
        place_stays config.replicas known_here.values (decided_by config kept before) place p known_here.beginning
        (subst (λ (k : Knowledge). slice_get k.places p ≡ Some place) known_here.knows at)

    pub known_position : (offset p : ℕ) → position_of (member_of config s r) memory.known offset ≡ Some p
        → slice_get (spell config.replicas (decided_by config kept before)) p ≡ Some (place_at s r offset)
    known_position offset p at =
        place_stays config.replicas known_here.values (decided_by config kept before) (place_at s r offset) p known_here.beginning
        (position_known config.replicas known_here.values (place_at s r offset) p
        (subst (λ (k : Knowledge). position_of (member_of config s r) k offset ≡ Some p) known_here.knows at))

    -- an offset without a position is not covered
    pub known_uncovered : (offset : ℕ) → position_of (member_of config s r) memory.known offset ≡ None → covered_of (chain_of config.replicas known_here.values) s r ≤ offset
    known_uncovered offset none =
        not_covered config.replicas known_here.values s r offset
        (subst (λ (k : Knowledge). position_of (member_of config s r) k offset ≡ None) known_here.knows none)

    pub covered_known : covered_length_of (member_of config s r) memory.known ≡ covered_of (chain_of config.replicas known_here.values) s r
    covered_known = ap (λ (k : Knowledge). covered_length_of (member_of config s r) k) known_here.knows

    -- a shard that is frozen is not covered further
    pub frozen_here : (one : ShardState) → own_shard (member_of config s r) memory.known ≡ Some one → one.standing ≡ Frozen → (more : List Value) → IsPrefix (decided_by config kept before) more
        → covered_of (chain_of config.replicas more) s r ≡ covered_of (chain_of config.replicas known_here.values) s r
    frozen_here one is frozen more front =
        frozen_stays config.replicas known_here.values more s r one (prefix_more _ _ _ known_here.beginning front)
        (subst (λ (k : Knowledge). own_shard (member_of config s r) k ≡ Some one) known_here.knows is) frozen

    -- the own lists
    pub own_is : (j : ℕ) → lists_after config kept before s r j ≡ list_in node.durable j
    own_is j = list_is config run kept before s r j node state_here

    pub own_at : (j o : ℕ) (x : Entry) → slice_get (list_in node.durable j) o ≡ Some x → slice_get (lists_after config kept before s r j) o ≡ Some x
    own_at j o x at = subst (λ (l : List Entry). slice_get l o ≡ Some x) (sym (own_is j)) at

  -- a position that a client was told is below the end of the decided list
  module _ (before : List Event) (e : Event) (legal : IsLegal config run kept before) where
    below_end : (s r : ℕ) (node : StorageNode) (memory : Replica) → IsAtReplica config kept before e s r node memory → (p : ℕ) (place : Place)
        → slice_get memory.known.places p ≡ Some place → p < length (spell config.replicas (decided_by config kept before))
    below_end s r node memory by p place at =
        slice_get_within (spell config.replicas (decided_by config kept before)) p place (known_place before e legal s r node memory by p place at)

  module _ (events : List Event) (legal : IsLegal config run kept events) (all_owned : (es : List Event) → IsLegal config run kept es → Owned config run kept es) where
    -- the decided list of a part
    decided_part : (before more : List Event) → before ++ more ≡ events → IsPrefix (decided_by config kept before) (decided_by config kept events)
    decided_part before more is = decided_stays config run kept founded before more events is legal

    pub told_below : (before : List Event) (e : Event) (client q : ℕ) → IsAfter events before e → IsTold client q e → q < length (spell config.replicas (decided_by config kept before))
    told_below before e client q after told = by_call call.0 call.1
      where
        now : IsLegal config run kept before
        now = legal_after config run kept before events e after legal

        call : (c : Call) × (e.happened.input ≡ ACall c)
        call = call_of e.happened.input client told.called

        said : IsSaid e.happened.reply
        said = told_said e.happened.reply q told.told

        by_ask : (asker number : ℕ) (c : Called config run kept before e (Ask (record { 0 = asker }) (record { 0 = number })))
            → (answer : Asked) → AskSays (member_of config c.shard c.replica) (list_in c.node.durable c.replica) c.memory.known asker number answer
            → position_told (ask_reply answer) ≡ Some q → q < length (spell config.replicas (decided_by config kept before))
        by_ask asker number c answer (Placed offset position entry stands pair at is) t =
            let same : position ≡ q = same_Some position q (subst (λ (x : Asked). position_told (ask_reply x) ≡ Some q) is t) in
            let place = known_position before e now c.shard c.replica c.node c.memory c.by offset position at in
            subst (λ (k : ℕ). k < length (spell config.replicas (decided_by config kept before))) same
            (slice_get_within (spell config.replicas (decided_by config kept before)) position (place_at c.shard c.replica offset) place)
        by_ask asker number c answer (Waits offset covered entry stands pair none is) t =
            absurd (none-some q (subst (λ (x : Asked). position_told (ask_reply x) ≡ Some q) is t))
        by_ask asker number c answer (Barred offset frozen entry one stands pair none own at is) t =
            absurd (none-some q (subst (λ (x : Asked). position_told (ask_reply x) ≡ Some q) is t))
        by_ask asker number c answer (Older last is) t = absurd (none-some q (subst (λ (x : Asked). position_told (ask_reply x) ≡ Some q) is t))
        by_ask asker number c answer (Absent is) t = absurd (none-some q (subst (λ (x : Asked). position_told (ask_reply x) ≡ Some q) is t))

        by_read : (reader position : ℕ) (c : Called config run kept before e (Read (record { 0 = reader }) (record { 0 = position })))
            → (answer : ReadAnswer) → ReadSays (member_of config c.shard c.replica) c.node.durable c.memory.known position answer
            → position_told (read_reply position answer) ≡ Some q → q < length (spell config.replicas (decided_by config kept before))
        by_read reader position c answer (Finds place entry above at here found is) t =
            let same : position ≡ q = same_Some position q (subst (λ (x : ReadAnswer). position_told (read_reply position x) ≡ Some q) is t) in
            subst (λ (k : ℕ). k < length (spell config.replicas (decided_by config kept before))) same
            (below_end before e now c.shard c.replica c.node c.memory c.by position place at)
        by_read reader position c answer (PastEnd at is) t = absurd (none-some q (subst (λ (x : ReadAnswer). position_told (read_reply position x) ≡ Some q) is t))
        by_read reader position c answer (Lacks place at here none is) t = absurd (none-some q (subst (λ (x : ReadAnswer). position_told (read_reply position x) ≡ Some q) is t))
        by_read reader position c answer (GivenUp mark is) t = absurd (none-some q (subst (λ (x : ReadAnswer). position_told (read_reply position x) ≡ Some q) is t))
        by_read reader position c answer (OfOther shard is) t = absurd (none-some q (subst (λ (x : ReadAnswer). position_told (read_reply position x) ≡ Some q) is t))

        by_call : (c : Call) → e.happened.input ≡ ACall c → q < length (spell config.replicas (decided_by config kept before))
        by_call (Submit client number bytes) is =
            let c = called config run kept before e now (next_of config run kept before events e after legal) (Submit client number bytes) is said refl in
            let t = some_told e.happened.reply _ q (c.reply ∙ submit_answer config c.shard c.replica c.node.durable c.memory (entry_of client number bytes) c.change c.rule) told.told in
            absurd (none-some q (sym (submit_none (submit (member_of config c.shard c.replica) (list_in c.node.durable c.replica) c.memory.known (entry_of client number bytes)).answer) ∙ t))
        by_call (Ask asker number) is =
            let c = called config run kept before e now (next_of config run kept before events e after legal) (Ask asker number) is said refl in
            by_ask asker.0 number.0 c (ask (member_of config c.shard c.replica) (list_in c.node.durable c.replica) c.memory.known asker.0 number.0)
            (ask_says (member_of config c.shard c.replica) (list_in c.node.durable c.replica) c.memory.known asker.0 number.0)
            (some_told e.happened.reply _ q (c.reply ∙ asked_reply config c.shard c.replica c.node.durable c.memory asker.0 number.0 c.change c.rule) told.told)
        by_call (Read reader position) is =
            let c = called config run kept before e now (next_of config run kept before events e after legal) (Read reader position) is said refl in
            by_read reader.0 position.0 c (read (member_of config c.shard c.replica) c.node.durable c.memory.known position.0)
            (read_says (member_of config c.shard c.replica) c.node.durable c.memory.known position.0)
            (some_told e.happened.reply _ q (c.reply ∙ read_answer config c.shard c.replica c.node.durable c.memory reader.0 position.0 c.change c.rule) told.told)
        by_call (Request client value) is =
            absurd (none-some q (sym (orderer_tells_none config run kept before e now (next_of config run kept before events e after legal) (Request client value) is said refl) ∙ told.told))
        by_call (Settled client value from) is =
            absurd (none-some q (sym (orderer_tells_none config run kept before e now (next_of config run kept before events e after legal) (Settled client value from) is said refl) ∙ told.told))

    -- what a client has seen in a part is below the end of what is decided there
    seen_below : (before more : List Event) (client q : ℕ) → before ++ more ≡ events → HasSeen before client q → q < length (spell config.replicas (decided_by config kept before))
    seen_below before more client q is seen =
        let at = after_got before seen.place seen.event seen.at in
        let joined : at.0 ++ seen.event ∷ (at.1.more ++ more) ≡ events = sym (append_assoc at.0 (seen.event ∷ at.1.more) more) ∙ ap (λ (l : List Event). l ++ more) at.1.parts ∙ is in
        let low = told_below at.0 seen.event client q (record { more = at.1.more ++ more; parts = joined }) seen.is_told in
        let front = decided_stays config run kept founded at.0 (seen.event ∷ at.1.more) before at.1.parts (legal_part config run kept before more events is legal) in
        let stays = spell_rises config.replicas (decided_by config kept at.0) (decided_by config kept before) front in
        omega (arith, low, stays)

    -- the first place that a pair has is the one that is spelled
    module _ (client number s r offset : ℕ) (entry : Entry) (a : s < config.shards) (b : r < config.replicas) (pair : IsPair client number entry)
        (stands : slice_get (lists_after config kept events s r r) offset ≡ Some entry) where
      inside : IsSegment config s r r
      inside = record { shard_below = a; replica_below = b; segment_below = b }

      -- where the pair stands in the sequence, its place is this one
      pub its_place : (p : ℕ) (one : Entry) → Stands config kept events client number p one
          → slice_get (spell config.replicas (decided_by config kept events)) p ≡ Some (place_at s r offset)
      its_place p one st =
          let found = sequence_place config run kept events legal p one st.at in
          let same = (all_owned events legal).once client number s r offset found.0.shard.0 found.0.segment.0 found.0.offset entry one inside found.2 stands found.3 pair st.pair in
          found.1 ∙ ap Some (λ i. place_at (sym same.0 i) (sym same.1 i) (sym same.2 i))

      -- it has the bytes that were submitted
      its_bytes : (e : Event) (one : Entry) → In e events → Submits client number e one → one ≡ entry
      its_bytes e one among sub =
          ⊎_elim
          (λ low. absurd (of_run one.number.0 run (submissions_of_run config run kept events legal e one among sub.input)
          (subst (λ (n : ℕ). n < run * 2 ^ 32) (pair.1 ∙ sym sub.pair.1) low)))
          (λ by. (submissions_agree config run kept events legal e by.event one entry client number among by.among sub.input by.input sub.pair pair).entry)
          ((all_owned events legal).origin s r offset entry a b stands)

      -- what was decided before its first submission does not cover it
      not_before : (before : List Event) → IsUpToFirst client number events before → (p : ℕ) → slice_get (spell config.replicas (decided_by config kept events)) p ≡ Some (place_at s r offset)
          → length (spell config.replicas (decided_by config kept before)) ≤ p
      not_before before u p at = ⊎_elim (λ below. absurd (covered below)) (λ past. past) (cases_lt p (length (spell config.replicas (decided_by config kept before))))
        where
          then : IsLegal config run kept before
          then = legal_part config run kept before (u.first ∷ u.more) events u.parts legal

          covered : p < length (spell config.replicas (decided_by config kept before)) → ⊥
          covered below =
              let place = get_or (spell config.replicas (decided_by config kept before)) p (place_at 0 0 0) in
              let then_at = slice_get-get_or (spell config.replicas (decided_by config kept before)) p (place_at 0 0 0) below in
              let later = place_stays config.replicas (decided_by config kept before) (decided_by config kept events) place p (decided_part before (u.first ∷ u.more) u.parts) then_at in
              let same : place ≡ place_at s r offset = same_Some place (place_at s r offset) (sym later ∙ at) in
              let here = subst (λ (x : Place). slice_get (spell config.replicas (decided_by config kept before)) p ≡ Some x) same then_at in
              let held = place_held config (lists_after config kept before) (decided_by config kept before) (decided_safe config run kept before then) (place_at s r offset) p r here b in
              let one = has_entry (lists_after config kept before s r r) offset held in
              let is_it : one.0 ≡ entry = same_Some one.0 entry (sym (entry_stays config run kept before (u.first ∷ u.more) events u.parts legal s r r offset one.0 a b b one.1) ∙ stands) in
              let was = subst (λ (x : Entry). slice_get (lists_after config kept before s r r) offset ≡ Some x) is_it one.1 in
              ⊎_elim
              (λ low. of_run u.entry.number.0 run (submissions_of_run config run kept events legal u.first u.entry (among_parts before u.more events u.first u.parts) u.submits.input)
              (subst (λ (n : ℕ). n < run * 2 ^ 32) (pair.1 ∙ sym u.submits.pair.1) low))
              (λ by. u.none by.event entry by.among (record { input = by.input; pair = pair }))
              ((all_owned before then).origin s r offset entry a b was)

      pub stands_once : (p : ℕ) → slice_get (spell config.replicas (decided_by config kept events)) p ≡ Some (place_at s r offset) → StandsOnce config kept events client number p
      stands_once p at = record {
        entry = entry;
        stands = record { at = in_sequence config run kept events legal p (place_at s r offset) entry at stands; pair = pair };
        alone = λ other one st. one_position config.replicas (decided_by config kept events) (place_at s r offset) other p (its_place other one st) at;
        bytes = its_bytes;
        after = λ before u who q seen.
            let low = seen_below before (u.first ∷ u.more) who q u.parts seen in
            let past = not_before before u p at in
            omega (arith, low, past);
      }

    acknowledged_by : (before : List Event) (e : Event) (client number position : ℕ) → IsAfter events before e
        → (c : Called config run kept before e (Ask (record { 0 = client }) (record { 0 = number })))
        → (answer : Asked) → AskSays (member_of config c.shard c.replica) (list_in c.node.durable c.replica) c.memory.known client number answer
        → ask_reply answer ≡ StandsAt (record { 0 = position }) → StandsOnce config kept events client number position
    acknowledged_by before e client number position after c answer (Placed offset p entry stands pair at is) told =
        let now = legal_after config run kept before events e after legal in
        let same : p ≡ position = same_Some p position (subst (λ (x : Asked). position_told (ask_reply x) ≡ Some position) is (ap position_told told)) in
        let here = own_at before e now c.shard c.replica c.node c.memory c.by c.replica offset entry stands in
        let place = place_stays config.replicas (decided_by config kept before) (decided_by config kept events) (place_at c.shard c.replica offset) p
        (decided_part before (e ∷ after.more) after.parts) (known_position before e now c.shard c.replica c.node c.memory c.by offset p at) in
        stands_once client number c.shard c.replica offset entry c.by.shard_below c.by.replica_below pair
        (entry_stays config run kept before (e ∷ after.more) events after.parts legal c.shard c.replica c.replica offset entry c.by.shard_below c.by.replica_below c.by.replica_below here)
        position (subst (λ (k : ℕ). slice_get (spell config.replicas (decided_by config kept events)) k ≡ Some (place_at c.shard c.replica offset)) same place)
    acknowledged_by before e client number position after c answer (Waits offset covered entry stands pair none is) told =
        absurd (none-some position (subst (λ (x : Asked). position_told (ask_reply x) ≡ Some position) is (ap position_told told)))
    acknowledged_by before e client number position after c answer (Barred offset frozen entry one stands pair none own at is) told =
        absurd (none-some position (subst (λ (x : Asked). position_told (ask_reply x) ≡ Some position) is (ap position_told told)))
    acknowledged_by before e client number position after c answer (Older last is) told =
        absurd (none-some position (subst (λ (x : Asked). position_told (ask_reply x) ≡ Some position) is (ap position_told told)))
    acknowledged_by before e client number position after c answer (Absent is) told =
        absurd (none-some position (subst (λ (x : Asked). position_told (ask_reply x) ≡ Some position) is (ap position_told told)))

    pub acknowledged : AcknowledgedOnce config kept events
    acknowledged e client number position among ack =
        let at = after_some events e among in
        let now = legal_after config run kept at.0 events e at.1 legal in
        let c = called config run kept at.0 e now (next_of config run kept at.0 events e at.1 legal) (Ask (record { 0 = client }) (record { 0 = number })) ack.asked
        (subst IsSaid (sym ack.told) tt) refl in
        acknowledged_by at.0 e client number position at.1 c (ask (member_of config c.shard c.replica) (list_in c.node.durable c.replica) c.memory.known client number)
        (ask_says (member_of config c.shard c.replica) (list_in c.node.durable c.replica) c.memory.known client number)
        (sym (asked_reply config c.shard c.replica c.node.durable c.memory client number c.change c.rule) ∙ sym c.reply ∙ ack.told)

    -- a pair that is refused when it is submitted
    closed_nowhere : (before : List Event) (e : Event) (entry : Entry) → IsAfter events before e → submitted e.happened.input ≡ Some entry
        → (c : Called config run kept before e (Submit entry.client entry.number entry.bytes))
        → (s : Submission) → SubmitSays (list_in c.node.durable c.replica) (own_shard (member_of config c.shard c.replica) c.memory.known) entry s → submit_reply s.answer ≡ Closed
        → (p : ℕ) (x : Entry) → Stands config kept events entry.client.0 entry.number.0 p x → ⊥
    closed_nowhere before e entry after sub c s (Puts fresh is) told p x st = absurd (let wrong = subst (λ (y : Submission). submit_reply y.answer ≡ Closed) is told in cc)
    closed_nowhere before e entry after sub c s (Declines answer other is) told p x st =
        other (closed_only answer (subst (λ (y : Submission). submit_reply y.answer ≡ Closed) is told))
    closed_nowhere before e entry after sub c s (Closes one own frozen fresh is) told p x st =
        ⊎_elim
        (λ low. of_run entry.number.0 run (submissions_of_run config run kept events legal e entry among sub) (subst (λ (n : ℕ). n < run * 2 ^ 32) st.pair.1 low))
        (λ by. elsewhere by)
        ((all_owned events legal).origin found.0.shard.0 found.0.segment.0 found.0.offset x found.2.shard_below found.2.segment_below found.3)
      where
        now : IsLegal config run kept before
        now = legal_after config run kept before events e after legal

        among : In e events
        among = among_parts before after.more events e after.parts

        found : (place : Place) × (slice_get (spell config.replicas (decided_by config kept events)) p ≡ Some place) × IsSegment config place.shard.0 place.segment.0 place.segment.0
            × (slice_get (lists_after config kept events place.shard.0 place.segment.0 place.segment.0) place.offset ≡ Some x)
        found = sequence_place config run kept events legal p x st.at

        elsewhere : IsSubmittedTo events (storage_node config found.0.shard.0 found.0.segment.0) x → ⊥
        elsewhere by =
            let agree = submissions_agree config run kept events legal e by.event entry x entry.client.0 entry.number.0 among by.among sub by.input (refl, refl) st.pair in
            let same = same_replica config c.shard c.replica found.0.shard.0 found.0.segment.0 c.by.shard_below c.by.replica_below found.2.shard_below found.2.segment_below
            (sym c.by.here ∙ ap (λ n. n.0) agree.node ∙ by.here) in
            let at = subst (λ (z : ℕ × ℕ). slice_get (spell config.replicas (decided_by config kept events)) p ≡ Some (place_at z.0 z.1 found.0.offset)) (λ i. (sym same.0 i, sym same.1 i)) found.1 in
            let there = subst (λ (z : ℕ × ℕ). slice_get (lists_after config kept events z.0 z.1 z.1) found.0.offset ≡ Some x) (λ i. (sym same.0 i, sym same.1 i)) found.3 in
            let covered = covered_at config.replicas (decided_by config kept events) c.shard c.replica found.0.offset p at in
            let stays = frozen_here before e now c.shard c.replica c.node c.memory c.by one own frozen (decided_by config kept events) (decided_part before (e ∷ after.more) after.parts) in
            let then = frozen_here before e now c.shard c.replica c.node c.memory c.by one own frozen (decided_by config kept before) (prefix_same (decided_by config kept before)) in
            let held = covered_held config (lists_after config kept before) (decided_by config kept before) (decided_safe config run kept before now) c.shard c.replica c.replica
            (record { shard_below = c.by.shard_below; replica_below = c.by.replica_below; segment_below = c.by.replica_below }) in
            let one_there = has_entry (lists_after config kept before c.shard c.replica c.replica) found.0.offset (omega (arith, covered, stays, then, held)) in
            let is_it : one_there.0 ≡ x = same_Some one_there.0 x
            (sym (entry_stays config run kept before (e ∷ after.more) events after.parts legal c.shard c.replica c.replica found.0.offset one_there.0 c.by.shard_below c.by.replica_below c.by.replica_below one_there.1) ∙ there) in
            fresh found.0.offset x
            (subst (λ (l : List Entry). slice_get l found.0.offset ≡ Some x) (own_is before e now c.shard c.replica c.node c.memory c.by c.replica)
            (subst (λ (y : Entry). slice_get (lists_after config kept before c.shard c.replica c.replica) found.0.offset ≡ Some y) is_it one_there.1))
            st.pair

    -- a pair of which one who asks is told that it never will stand
    barred_nowhere : (before : List Event) (e : Event) (client number frozen : ℕ) → IsAfter events before e
        → (c : Called config run kept before e (Ask (record { 0 = client }) (record { 0 = number })))
        → (answer : Asked) → AskSays (member_of config c.shard c.replica) (list_in c.node.durable c.replica) c.memory.known client number answer
        → ask_reply answer ≡ FrozenAt frozen → (p : ℕ) (x : Entry) → Stands config kept events client number p x → ⊥
    barred_nowhere before e client number frozen after c answer (Placed offset position entry stands pair at is) told p x st =
        absurd (let wrong = subst (λ (y : Asked). ask_reply y ≡ FrozenAt frozen) is told in cc)
    barred_nowhere before e client number frozen after c answer (Waits offset covered entry stands pair none is) told p x st =
        absurd (let wrong = subst (λ (y : Asked). ask_reply y ≡ FrozenAt frozen) is told in cc)
    barred_nowhere before e client number frozen after c answer (Older last is) told p x st =
        absurd (let wrong = subst (λ (y : Asked). ask_reply y ≡ FrozenAt frozen) is told in cc)
    barred_nowhere before e client number frozen after c answer (Absent is) told p x st =
        absurd (let wrong = subst (λ (y : Asked). ask_reply y ≡ FrozenAt frozen) is told in cc)
    barred_nowhere before e client number frozen after c answer (Barred offset at_length entry one stands pair none own closed is) told p x st =
        let now = legal_after config run kept before events e after legal in
        let here = own_at before e now c.shard c.replica c.node c.memory c.by c.replica offset entry stands in
        let there = entry_stays config run kept before (e ∷ after.more) events after.parts legal c.shard c.replica c.replica offset entry c.by.shard_below c.by.replica_below c.by.replica_below here in
        let at = its_place client number c.shard c.replica offset entry c.by.shard_below c.by.replica_below pair there p x st in
        let covered = covered_at config.replicas (decided_by config kept events) c.shard c.replica offset p at in
        let stays = frozen_here before e now c.shard c.replica c.node c.memory c.by one own closed (decided_by config kept events) (decided_part before (e ∷ after.more) after.parts) in
        let past = known_uncovered before e now c.shard c.replica c.node c.memory c.by offset none in
        absurd (omega (arith, covered, stays, past))

    pub refused : RefusedNowhere config kept events
    refused e client number p x among (AtSubmission entry sub told) st =
        let at = after_some events e among in
        let now = legal_after config run kept at.0 events e at.1 legal in
        let c = called config run kept at.0 e now (next_of config run kept at.0 events e at.1 legal) (Submit entry.client entry.number entry.bytes) (submission_of e.happened.input entry sub.input)
        (subst IsSaid (sym told) tt) refl in
        closed_nowhere at.0 e entry at.1 sub.input c (submit (member_of config c.shard c.replica) (list_in c.node.durable c.replica) c.memory.known entry)
        (submit_says (member_of config c.shard c.replica) (list_in c.node.durable c.replica) c.memory.known entry)
        (sym (submit_answer config c.shard c.replica c.node.durable c.memory entry c.change c.rule) ∙ sym c.reply ∙ told) p x
        (record { at = st.at; pair = (st.pair.0 ∙ sym sub.pair.0, st.pair.1 ∙ sym sub.pair.1) })
    refused e client number p x among (AtQuestion frozen is told) st =
        let at = after_some events e among in
        let now = legal_after config run kept at.0 events e at.1 legal in
        let c = called config run kept at.0 e now (next_of config run kept at.0 events e at.1 legal) (Ask (record { 0 = client }) (record { 0 = number })) is (subst IsSaid (sym told) tt) refl in
        barred_nowhere at.0 e client number frozen at.1 c (ask (member_of config c.shard c.replica) (list_in c.node.durable c.replica) c.memory.known client number)
        (ask_says (member_of config c.shard c.replica) (list_in c.node.durable c.replica) c.memory.known client number)
        (sym (asked_reply config c.shard c.replica c.node.durable c.memory client number c.change c.rule) ∙ sym c.reply ∙ told) p x st
