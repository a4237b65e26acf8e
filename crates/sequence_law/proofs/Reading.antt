-- Reads agree with the sequence, and what waits is not known.
use Rattle.std.proofs.Common.{◌≡◌, ◌<◌, ◌≤◌, ◌+◌, ℕ, zero, suc, Bool, true, false, cond, ◌&&◌, nat_le, List, [], ◌∷◌, length, slice_get, Option, Some, None, refl, sym, ap, subst, arith, le-leb, ◌∙◌}
use Rattle.std.proofs.lemmas.Bool.{cond-true}
use Rattle.std.proofs.lemmas.Option.{none-some, same_Some}
use Rattle.reply_frame.specs.declared.replies.Reply.{Reply, Found as FoundAt, PendingAsk, PendingRead, PendingWish}
use Rattle.history_frame.specs.declared.events.Event.{Event}
use Rattle.history_frame.specs.declared.inputs.Call.{Call}
use Rattle.history_frame.specs.declared.inputs.Call.TheVariants.{Submit, Ask, Read, Request, Settled}
use Rattle.history_frame.specs.declared.inputs.Input.TheVariants.{Call as ACall}
use Rattle.log_base.specs.ClusterShape.{Shape}
use Rattle.log_model.specs.Asking.{Asked, At, FinalisedAt, Missing, Pending as PendingAsked, Stale as StaleAsked, ask}
use Rattle.log_model.specs.Reading.{Found, ReadAnswer, read}
use Rattle.log_model.specs.Spelling.{spell}
use Rattle.log_model.specs.Storage.{list_in}
use Rattle.log_model.specs.Submitting.{submit}
use Rattle.paxos_model.specs.Learner.{find_from, find_value}
use Rattle.paxos_model.specs.Values.{same_value}
use Rattle.paxos_model.proofs.Same.{same_value-refl}
use Rattle.record_frame.specs.declared.entries.Entry.{Entry}
use Rattle.record_frame.specs.declared.values.Value.{Value}
use Rattle.record_frame.specs.Entries.{entry_of}
use Rattle.node_model.specs.Durable.{IsFounded}
use Rattle.node_model.specs.Legal.{IsLegal}
use Rattle.node_model.specs.NodeState.{KeptLists}
use Rattle.node_model.specs.OrdererNode.{Change, Orderer}
use Rattle.node_model.specs.OrdererRow.{call_row as orderer_call_row, on_settled, settled_reply}
use Rattle.node_model.specs.Sequence.{caller, decided_by, position_told, sequence}
use Rattle.node_model.specs.StorageNode.{member_of}
use Rattle.node_model.specs.StorageRow.{ask_reply, read_reply}
use Rattle.safety_law.specs.Lists.{IsSegment}
use Rattle.safety_law.specs.Statements.{lists_after}
use Rattle.safety_law.proofs.History.{history_fits}
use Rattle.safety_law.proofs.Prefixes.{prefix_at}
use Rattle.sequence_law.specs.Answers.{IsAfter, IsPastEnd, IsRead, IsUncovered, IsUnsettled, PendingIsUnknown, ReadsAgree, asks, asks_settled, reads}
use Rattle.sequence_law.proofs.Agreeing.{decided_stays}
use Rattle.sequence_law.proofs.Answering.{Called, IsSaid, call_of, called, ordered, orderer_tells_none}
use Rattle.sequence_law.proofs.Chains.{place_stays}
use Rattle.sequence_law.proofs.Concluding.{covered_known, known_place, known_uncovered, own_at, own_is}
use Rattle.sequence_law.proofs.Covered.{decided_safe, place_held, place_inside}
use Rattle.sequence_law.proofs.Grown.{entry_stays}
use Rattle.sequence_law.proofs.Moments.{legal_after, next_of}
use Rattle.sequence_law.proofs.Owned.{Owned}
use Rattle.sequence_law.proofs.Replies.{asked_reply, none_past, read_answer, some_told, submit_answer, submit_none}
use Rattle.sequence_law.proofs.Rows.{Absent, AskSays, Barred, Finds, GivenUp, Lacks, OfOther, Older, PastEnd, Placed, ReadSays, Waits, ask_says, read_says}
use Rattle.sequence_law.proofs.Spelled.{has_entry, in_sequence}

-- the entry that a reply tells
abbrev entry_told : Reply → Option Entry
entry_told (FoundAt position entry) = Some entry
entry_told _ = None

-- a pair's position is told without its entry
asked_none : (a : Asked) → entry_told (ask_reply a) ≡ None
asked_none (At position) = refl
asked_none (PendingAsked covered) = refl
asked_none (FinalisedAt frozen) = refl
asked_none (StaleAsked last) = refl
asked_none Missing = refl

-- where no value is found from a slot on, none stands there
not_found : (at : ℕ) (xs : List Value) (value : Value) (from : ℕ) → find_from at xs value from ≡ None → (k : ℕ) → from ≤ at + k → slice_get xs k ≡ Some value → ⊥
not_found at [] value from none k low e = absurd (cc)
not_found at (x ∷ xs) value from none zero low e = absurd (none-some at (sym none ∙ found))
  where
    same : x ≡ value
    same = cc

    passes : (nat_le from at && same_value x value) ≡ true
    passes =
        let reached : nat_le from at ≡ true = le-leb from at (omega arith) in
        let equal : same_value x value ≡ true = subst (λ (y : Value). same_value y value ≡ true) (sym same) (same_value-refl value) in
        rw (reached, equal) refl

    found : find_from at (x ∷ xs) value from ≡ Some at
    found = cond-true (nat_le from at && same_value x value) (Some at) (find_from (suc at) xs value from) passes
not_found at (x ∷ xs) value from none (suc k) low e =
    not_found (suc at) xs value from (later (nat_le from at && same_value x value) none) k (omega arith) e
  where
    later : (b : Bool) → cond b (Some at) (find_from (suc at) xs value from) ≡ None → find_from (suc at) xs value from ≡ None
    later true f = absurd (cc)
    later false f = f

settled_answer : (config : Shape) (o : Orderer) (client : ℕ) (value : Value) (from : ℕ) (change : Change)
    → orderer_call_row config o (Settled (record { 0 = client }) value from) ≡ Some change → change.reply ≡ settled_reply (length o.known) (find_value o.known value from)
unfolding on_settled
settled_answer config o client value from change e = ap (λ (c : Change). c.reply) (sym (same_Some _ change e))

unsettled : (known pending : ℕ) (found : Option ℕ) → settled_reply known found ≡ PendingWish pending → found ≡ None
unsettled known pending None e = refl
unsettled known pending (Some slot) e = absurd (cc)

module _ (config : Shape) (run : ℕ) (kept : KeptLists) (founded : IsFounded config run kept) (events : List Event) (legal : IsLegal config run kept events)
    (before : List Event) (e : Event) (after : IsAfter events before e) where
  now : IsLegal config run kept before
  now = legal_after config run kept before events e after legal

  -- an entry that is found
  read_by : (reader asked position : ℕ) (entry : Entry) (c : Called config run kept before e (Read (record { 0 = reader }) (record { 0 = asked })))
      → (answer : ReadAnswer) → ReadSays (member_of config c.shard c.replica) c.node.durable c.memory.known asked answer
      → read_reply asked answer ≡ FoundAt (record { 0 = position }) entry → IsRead config kept events before e position entry
  read_by reader asked position entry c answer (Finds place x above at here found is) told = record {
    shard = c.shard;
    replica = c.replica;
    node = c.node;
    memory = c.memory;
    by = c.by;
    above = subst (λ (k : ℕ). c.memory.known.chain.mark ≤ k) same above;
    stands = subst (λ (z : ℕ × Entry). slice_get (sequence config kept events) z.0 ≡ Some (Some z.1)) (λ i. (same i, equal i)) (in_sequence config run kept events legal asked place x there stored);
  }
    where
      told_as : read_reply asked (Found x) ≡ FoundAt (record { 0 = position }) entry
      told_as = subst (λ (y : ReadAnswer). read_reply asked y ≡ FoundAt (record { 0 = position }) entry) is told

      same : asked ≡ position
      same = same_Some asked position (ap position_told told_as)

      equal : x ≡ entry
      equal = same_Some x entry (ap entry_told told_as)

      then : slice_get (spell config.replicas (decided_by config kept before)) asked ≡ Some place
      then = known_place config run kept founded before e now c.shard c.replica c.node c.memory c.by asked place at

      there : slice_get (spell config.replicas (decided_by config kept events)) asked ≡ Some place
      there = place_stays config.replicas (decided_by config kept before) (decided_by config kept events) place asked
          (decided_stays config run kept founded before (e ∷ after.more) events after.parts legal) then

      inside : IsSegment config place.shard.0 place.segment.0 place.segment.0
      inside = place_inside config (lists_after config kept before) (decided_by config kept before) (decided_safe config run kept before now) place asked then

      copy : slice_get (lists_after config kept before c.shard c.replica place.segment.0) place.offset ≡ Some x
      copy = own_at config run kept founded before e now c.shard c.replica c.node c.memory c.by place.segment.0 place.offset x found

      primary : slice_get (lists_after config kept before c.shard place.segment.0 place.segment.0) place.offset ≡ Some x
      primary = prefix_at (lists_after config kept before c.shard c.replica place.segment.0) (lists_after config kept before c.shard place.segment.0 place.segment.0) place.offset x
          ((history_fits config run kept before now).copies c.shard c.replica place.segment.0
          (record { shard_below = c.by.shard_below; replica_below = c.by.replica_below; segment_below = inside.segment_below })).prefix copy

      stored : slice_get (lists_after config kept events place.shard.0 place.segment.0 place.segment.0) place.offset ≡ Some x
      stored = entry_stays config run kept before (e ∷ after.more) events after.parts legal place.shard.0 place.segment.0 place.segment.0 place.offset x
          inside.shard_below inside.segment_below inside.segment_below
          (subst (λ (s : ℕ). slice_get (lists_after config kept before s place.segment.0 place.segment.0) place.offset ≡ Some x) (sym here) primary)
  read_by reader asked position entry c answer (PastEnd at is) told =
      absurd (none-some entry (subst (λ (y : ReadAnswer). entry_told (read_reply asked y) ≡ Some entry) is (ap entry_told told)))
  read_by reader asked position entry c answer (Lacks place at here none is) told =
      absurd (none-some entry (subst (λ (y : ReadAnswer). entry_told (read_reply asked y) ≡ Some entry) is (ap entry_told told)))
  read_by reader asked position entry c answer (GivenUp mark is) told =
      absurd (none-some entry (subst (λ (y : ReadAnswer). entry_told (read_reply asked y) ≡ Some entry) is (ap entry_told told)))
  read_by reader asked position entry c answer (OfOther shard is) told =
      absurd (none-some entry (subst (λ (y : ReadAnswer). entry_told (read_reply asked y) ≡ Some entry) is (ap entry_told told)))

  pub found_agrees : (client position : ℕ) (entry : Entry) → caller e.happened.input ≡ Some client → e.happened.reply ≡ FoundAt (record { 0 = position }) entry
      → IsRead config kept events before e position entry
  found_agrees client position entry from told = by_call call.0 call.1
    where
      call : (c : Call) × (e.happened.input ≡ ACall c)
      call = call_of e.happened.input client from

      said : IsSaid e.happened.reply
      said = subst IsSaid (sym told) tt

      by_call : (c : Call) → e.happened.input ≡ ACall c → IsRead config kept events before e position entry
      by_call (Submit client number bytes) is =
          let c = called config run kept before e now (next_of config run kept before events e after legal) (Submit client number bytes) is said refl in
          let t = some_told e.happened.reply _ position (c.reply ∙ submit_answer config c.shard c.replica c.node.durable c.memory (entry_of client number bytes) c.change c.rule) (ap position_told told) in
          absurd (none-some position (sym (submit_none (submit (member_of config c.shard c.replica) (list_in c.node.durable c.replica) c.memory.known (entry_of client number bytes)).answer) ∙ t))
      by_call (Ask asker number) is =
          let c = called config run kept before e now (next_of config run kept before events e after legal) (Ask asker number) is said refl in
          absurd (none-some entry (sym (asked_none (ask (member_of config c.shard c.replica) (list_in c.node.durable c.replica) c.memory.known asker.0 number.0))
          ∙ ap entry_told (sym (asked_reply config c.shard c.replica c.node.durable c.memory asker.0 number.0 c.change c.rule) ∙ sym c.reply ∙ told)))
      by_call (Read reader asked) is =
          let c = called config run kept before e now (next_of config run kept before events e after legal) (Read reader asked) is said refl in
          read_by reader.0 asked.0 position entry c (read (member_of config c.shard c.replica) c.node.durable c.memory.known asked.0)
          (read_says (member_of config c.shard c.replica) c.node.durable c.memory.known asked.0)
          (sym (read_answer config c.shard c.replica c.node.durable c.memory reader.0 asked.0 c.change c.rule) ∙ sym c.reply ∙ told)
      by_call (Request client value) is =
          absurd (none-some position (sym (orderer_tells_none config run kept before e now (next_of config run kept before events e after legal) (Request client value) is said refl) ∙ ap position_told told))
      by_call (Settled client value from) is =
          absurd (none-some position (sym (orderer_tells_none config run kept before e now (next_of config run kept before events e after legal) (Settled client value from) is said refl) ∙ ap position_told told))

  -- a pair that waits
  uncovered_by : (owned : Owned config run kept before) (client number covered : ℕ) (c : Called config run kept before e (Ask (record { 0 = client }) (record { 0 = number })))
      → (answer : Asked) → AskSays (member_of config c.shard c.replica) (list_in c.node.durable c.replica) c.memory.known client number answer
      → ask_reply answer ≡ PendingAsk covered → IsUncovered config kept before e client number
  uncovered_by owned client number covered c answer (Placed offset position entry stands pair at is) told =
      absurd (let wrong = subst (λ (y : Asked). ask_reply y ≡ PendingAsk covered) is told in cc)
  uncovered_by owned client number covered c answer (Barred offset frozen entry one stands pair none own at is) told =
      absurd (let wrong = subst (λ (y : Asked). ask_reply y ≡ PendingAsk covered) is told in cc)
  uncovered_by owned client number covered c answer (Older last is) told =
      absurd (let wrong = subst (λ (y : Asked). ask_reply y ≡ PendingAsk covered) is told in cc)
  uncovered_by owned client number covered c answer (Absent is) told =
      absurd (let wrong = subst (λ (y : Asked). ask_reply y ≡ PendingAsk covered) is told in cc)
  uncovered_by owned client number covered c answer (Waits offset length_known entry stands pair none is) told = record {
    shard = c.shard;
    replica = c.replica;
    node = c.node;
    memory = c.memory;
    by = c.by;
    uncovered = λ other x at same_pair.
        let own = own_at config run kept founded before e now c.shard c.replica c.node c.memory c.by c.replica in
        let one = owned.once client number c.shard c.replica offset c.shard c.replica other entry x inside inside (own offset entry stands) (own other x at) pair same_pair in
        let past = known_uncovered config run kept founded before e now c.shard c.replica c.node c.memory c.by offset none in
        let size = covered_known config run kept founded before e now c.shard c.replica c.node c.memory c.by in
        omega (arith, one.2, past, size);
  }
    where
      inside : IsSegment config c.shard c.replica c.replica
      inside = record { shard_below = c.by.shard_below; replica_below = c.by.replica_below; segment_below = c.by.replica_below }

  pub asked_waits : Owned config run kept before → (client number covered : ℕ) → e.happened.input ≡ asks client number → e.happened.reply ≡ PendingAsk covered
      → IsUncovered config kept before e client number
  asked_waits owned client number covered is told =
      let c = called config run kept before e now (next_of config run kept before events e after legal) (Ask (record { 0 = client }) (record { 0 = number })) is (subst IsSaid (sym told) tt) refl in
      uncovered_by owned client number covered c (ask (member_of config c.shard c.replica) (list_in c.node.durable c.replica) c.memory.known client number)
      (ask_says (member_of config c.shard c.replica) (list_in c.node.durable c.replica) c.memory.known client number)
      (sym (asked_reply config c.shard c.replica c.node.durable c.memory client number c.change c.rule) ∙ sym c.reply ∙ told)

  -- a position that waits
  past_by : (client position end : ℕ) (c : Called config run kept before e (Read (record { 0 = client }) (record { 0 = position })))
      → (answer : ReadAnswer) → ReadSays (member_of config c.shard c.replica) c.node.durable c.memory.known position answer
      → read_reply position answer ≡ PendingRead (record { 0 = end }) → IsPastEnd config kept before e position
  past_by client position end c answer (Finds place x above at here found is) told =
      absurd (let wrong = subst (λ (y : ReadAnswer). read_reply position y ≡ PendingRead (record { 0 = end })) is told in cc)
  past_by client position end c answer (GivenUp mark is) told =
      absurd (let wrong = subst (λ (y : ReadAnswer). read_reply position y ≡ PendingRead (record { 0 = end })) is told in cc)
  past_by client position end c answer (OfOther shard is) told =
      absurd (let wrong = subst (λ (y : ReadAnswer). read_reply position y ≡ PendingRead (record { 0 = end })) is told in cc)
  past_by client position end c answer (PastEnd at is) told = record {
    shard = c.shard;
    replica = c.replica;
    node = c.node;
    memory = c.memory;
    by = c.by;
    past = none_past c.memory.known.places position at;
  }
  past_by client position end c answer (Lacks place at here none is) told = absurd (none-some one.0 (sym none ∙ stored))
    where
      then : slice_get (spell config.replicas (decided_by config kept before)) position ≡ Some place
      then = known_place config run kept founded before e now c.shard c.replica c.node c.memory c.by position place at

      held : place.offset < length (lists_after config kept before c.shard c.replica place.segment.0)
      held =
          subst (λ (s : ℕ). place.offset < length (lists_after config kept before s c.replica place.segment.0)) here
          (place_held config (lists_after config kept before) (decided_by config kept before) (decided_safe config run kept before now) place position c.replica then c.by.replica_below)

      one : (x : Entry) × (slice_get (lists_after config kept before c.shard c.replica place.segment.0) place.offset ≡ Some x)
      one = has_entry (lists_after config kept before c.shard c.replica place.segment.0) place.offset held

      stored : slice_get (list_in c.node.durable place.segment.0) place.offset ≡ Some one.0
      stored = subst (λ (l : List Entry). slice_get l place.offset ≡ Some one.0) (own_is config run kept founded before e now c.shard c.replica c.node c.memory c.by place.segment.0) one.1

  pub read_waits : (client position end : ℕ) → e.happened.input ≡ reads client position → e.happened.reply ≡ PendingRead (record { 0 = end })
      → IsPastEnd config kept before e position
  read_waits client position end is told =
      let c = called config run kept before e now (next_of config run kept before events e after legal) (Read (record { 0 = client }) (record { 0 = position })) is (subst IsSaid (sym told) tt) refl in
      past_by client position end c (read (member_of config c.shard c.replica) c.node.durable c.memory.known position)
      (read_says (member_of config c.shard c.replica) c.node.durable c.memory.known position)
      (sym (read_answer config c.shard c.replica c.node.durable c.memory client position c.change c.rule) ∙ sym c.reply ∙ told)

  -- a value that waits
  pub wish_waits : (client from pending : ℕ) (value : Value) → e.happened.input ≡ asks_settled client value from → e.happened.reply ≡ PendingWish pending
      → IsUnsettled config kept before e value from
  wish_waits client from pending value is told =
      let o = ordered config run kept before e now (next_of config run kept before events e after legal) (Settled (record { 0 = client }) value from) is (subst IsSaid (sym told) tt) refl in
      let none = unsettled (length o.orderer.known) pending (find_value o.orderer.known value from)
      (sym (settled_answer config o.orderer client value from o.change o.rule) ∙ sym o.reply ∙ told) in
      record {
        i = o.i;
        node = o.node;
        orderer = o.orderer;
        by = o.by;
        none = λ slot low at. not_found 0 o.orderer.known value from none slot (omega arith) at;
      }

pub reads_agree : (config : Shape) (run : ℕ) (kept : KeptLists) → IsFounded config run kept → (events : List Event) → IsLegal config run kept events → ReadsAgree config kept events
reads_agree config run kept founded events legal before e client position entry after from told =
    found_agrees config run kept founded events legal before e after client position entry from told

pub pending_unknown : (config : Shape) (run : ℕ) (kept : KeptLists) → IsFounded config run kept → ((es : List Event) → IsLegal config run kept es → Owned config run kept es)
    → (events : List Event) → IsLegal config run kept events → PendingIsUnknown config kept events
pending_unknown config run kept founded owned events legal = record {
  asked = λ before e client number covered after is told.
      asked_waits config run kept founded events legal before e after (owned before (legal_after config run kept before events e after legal)) client number covered is told;
  read = λ before e client position end after is told. read_waits config run kept founded events legal before e after client position end is told;
  wished = λ before e client from known value after is told. wish_waits config run kept founded events legal before e after client from known value is told;
}
