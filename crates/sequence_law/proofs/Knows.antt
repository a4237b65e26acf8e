-- What a replica knows is what a beginning of the decided list makes known.
use Rattle.std.proofs.Common.{◌≡◌, ◌<◌, ℕ, zero, suc, Bool, true, false, cond, ◌==◌, List, [], ◌∷◌, ◌++◌, length, slice_get, Some, None, refl, sym, ap, subst, eqb-true, ◌∙◌}
use Rattle.history_frame.specs.declared.events.Event.{Event}
use Rattle.history_frame.specs.declared.inputs.Call.{Call}
use Rattle.history_frame.specs.declared.inputs.Call.TheVariants.{Submit, Ask, Read, Request, Settled}
use Rattle.history_frame.specs.declared.inputs.Input.{Input}
use Rattle.history_frame.specs.declared.inputs.Input.TheVariants.{Deliver, Call as ACall, Tick, Lead, Stop, Restart}
use Rattle.history_frame.specs.declared.inputs.Mark.{Mark}
use Rattle.log_base.specs.ClusterShape.{Shape}
use Rattle.log_model.specs.Learning.{known_after, knowing}
use Rattle.log_model.specs.Storage.{Knowledge, Member, knowledge_of, list_in}
use Rattle.message_frame.specs.declared.messages.Message.{Message}
use Rattle.message_frame.specs.declared.messages.Message.TheVariants.{Copy, CopyAck, Report, Least, Prepare, Promised, Lower, Accept, Accepted, Decide, Want}
use Rattle.node_table.specs.Numbering.{storage_node}
use Rattle.node_table.proofs.Roles.{role_at-node_of}
use Rattle.peer_copy.specs.Copying.{taking_of}
use Rattle.peer_copy.specs.declared.taking.Taking.{Taking}
use Rattle.peer_copy.specs.declared.taking.Taking.TheVariants.{Put as TakesIt, Have as HasIt, Gap as LacksOne}
use Rattle.record_frame.specs.declared.entries.Entry.{Entry}
use Rattle.record_frame.specs.declared.values.Value.{Value}
use Rattle.record_frame.specs.Entries.{entry_of}
use Rattle.node_model.specs.Histories.{IsDelivered, sent_in}
use Rattle.node_model.specs.Legal.{IsLegal, IsNext}
use Rattle.node_model.specs.Marks.{Running, Stopped, known_in, stopped}
use Rattle.node_model.specs.Messages.{decide_message}
use Rattle.node_model.specs.Nodes.{letter}
use Rattle.node_model.specs.NodeState.{KeptLists, NodeState, Storing, begun_as, node_after}
use Rattle.node_model.specs.StorageNode.{Put, Replica, StorageChange, StorageMode, StorageNode, StorageOutcome, member_of}
use Rattle.node_model.specs.StorageRow.{call_row, copied_as, message_row, on_ask, on_copied, on_copy, on_decide, on_read, on_submit, on_tick, row, storage_role}
use Rattle.node_model.specs.Turning.{Turned, Ran, Fell, Slept, Stopped_now, Opened, Opened_more}
use Rattle.node_model.proofs.Turning.{ForSome, for_some_at}
use Rattle.agreement_law.specs.Elements.{In, IsIn, IsPrefix}
use Rattle.agreement_law.specs.Statements.{IsMessageSent}
use Rattle.agreement_law.proofs.Bridge.{sent_before, sent_in-push}
use Rattle.agreement_law.proofs.Elements.{got_in, in_left}
use Rattle.safety_law.proofs.Prefixes.{prefix_next}
use Rattle.safety_law.proofs.StorageSends.{as_role}
use Rattle.sequence_law.specs.Known.{KnowsBeginning}
use Rattle.sequence_law.proofs.Chains.{knowing_values}
use Rattle.sequence_law.proofs.Moments.{IsStoring, ReplicaTurns, Stayed, Took, along, storing, turns}

-- what a replica knows after a row: what it knew, or what a decision that is delivered makes of it
pub data Learns (member : Member) (known : Knowledge) (input : Input) (now : Knowledge) : Type 0 where
  Knew : now ≡ known → Learns member known input now
  Told : (place index slot : ℕ) (value : Value) → input ≡ Deliver place index (Some (decide_message slot value)) → now ≡ known_after member known slot value
      → Learns member known input now

module _ (config : Shape) (member : Member) (lists : List (List Entry)) (memory : Replica) where
  abbrev LearnsBy : Input → StorageChange → Type 0
  LearnsBy input c = Learns member memory.known input c.after.known

  copied_knows : (input : Input) (put : Put) (taking : Taking) → LearnsBy input (copied_as config member lists memory put taking)
  copied_knows input put TakesIt = Knew refl
  copied_knows input put HasIt = Knew refl
  copied_knows input put LacksOne = Knew refl

  copy_knows : (input : Input) (put : Put) (offset : ℕ) → LearnsBy input (on_copy config member lists memory put offset)
  unfolding on_copy
  copy_knows input put offset = copied_knows input put (taking_of offset (length (list_in lists put.segment)))

  noted_knows : (input : Input) (peer held : ℕ) → LearnsBy input (on_copied config member (list_in lists member.own) memory peer held)
  unfolding on_copied
  noted_knows input peer held = Knew refl

  decide_knows : (place index slot : ℕ) (value : Value) → LearnsBy (Deliver place index (Some (decide_message slot value))) (on_decide member memory slot value)
  unfolding on_decide
  decide_knows place index slot value = Told place index slot value refl refl

  submit_knows : (input : Input) (entry : Entry) → LearnsBy input (on_submit member lists memory entry)
  unfolding on_submit
  submit_knows input entry = Knew refl

  ask_knows : (input : Input) (client number : ℕ) → LearnsBy input (on_ask member lists memory client number)
  unfolding on_ask
  ask_knows input client number = Knew refl

  read_knows : (input : Input) (position : ℕ) → LearnsBy input (on_read member lists memory position)
  unfolding on_read
  read_knows input position = Knew refl

  tick_knows : (input : Input) → LearnsBy input (on_tick config member lists memory)
  unfolding on_tick
  tick_knows input = Knew refl

  message_knows : (place index : ℕ) (m : Message) → ForSome (LearnsBy (Deliver place index (Some m))) (message_row config member lists memory m)
  message_knows place index (Copy segment offset entry) = copy_knows _ (record { segment = segment.0; entry = entry }) offset
  message_knows place index (CopyAck peer held) = noted_knows _ peer.0 held
  message_knows place index (Decide slot value) = decide_knows place index slot.0 value
  message_knows place index (Report shard replica lengths) = tt
  message_knows place index (Least shard lengths) = tt
  message_knows place index (Prepare ballot slot) = tt
  message_knows place index (Promised ballot slot who votes) = tt
  message_knows place index (Lower ballot promise) = tt
  message_knows place index (Accept ballot slot value) = tt
  message_knows place index (Accepted ballot slot who) = tt
  message_knows place index (Want slot node) = tt

  call_knows : (c : Call) → ForSome (LearnsBy (ACall c)) (call_row member lists memory c)
  call_knows (Submit client number bytes) = submit_knows _ (entry_of client number bytes)
  call_knows (Ask client number) = ask_knows _ client.0 number.0
  call_knows (Read client position) = read_knows _ position.0
  call_knows (Request client value) = tt
  call_knows (Settled client value from) = tt

  row_knows : (input : Input) → ForSome (LearnsBy input) (row config member lists memory input)
  row_knows (Deliver place index (Some m)) = message_knows place index m
  row_knows (Deliver place index None) = tt
  row_knows (ACall c) = call_knows c
  row_knows Tick = tick_knows Tick
  row_knows Lead = tt
  row_knows Stop = tt
  row_knows Restart = tt

is_in_got : {A : Type 0} (xs : List A) (k : ℕ) (x : A) → IsIn xs k x → slice_get xs k ≡ Some x
is_in_got [] k x a = absurd a
is_in_got (y ∷ xs) zero x a = ap Some a
is_in_got (y ∷ xs) (suc k) x a = is_in_got xs k x a

module _ (member : Member) (decided : List Value) where
  knows_none : KnowsBeginning member decided (knowledge_of member [])
  knows_none = record { values = []; beginning = (decided, refl); knows = refl }

  told_knows : (values : List Value) → IsPrefix values decided → (slot : ℕ) (v : Value) → IsIn decided slot v
      → KnowsBeginning member decided (known_after member (knowledge_of member values) slot v)
  unfolding known_after
  told_knows values front slot v stands = at (slot == length values) refl
    where
      at : (b : Bool) → (slot == length values) ≡ b → KnowsBeginning member decided (cond b (knowing member (knowledge_of member values) v) (knowledge_of member values))
      at true e = record {
        values = values ++ v ∷ [];
        beginning = prefix_next values decided v front (subst (λ (k : ℕ). slice_get decided k ≡ Some v) (eqb-true slot (length values) e) (is_in_got decided slot v stands));
        knows = knowing_values member values v;
      }
      at false e = record { values = values; beginning = front; knows = refl }

  learns : (known : Knowledge) (input : Input) (now : Knowledge) → KnowsBeginning member decided known → Learns member known input now
      → ((place index slot : ℕ) (v : Value) → input ≡ Deliver place index (Some (decide_message slot v)) → IsIn decided slot v) → KnowsBeginning member decided now
  learns known input now h (Knew same) sent = subst (KnowsBeginning member decided) (sym same) h
  learns known input now h (Told place index slot v is same) sent =
      subst (KnowsBeginning member decided) (sym (same ∙ ap (λ (k : Knowledge). known_after member k slot v) h.knows))
      (told_knows h.values h.beginning slot v (sent place index slot v is))

module _ (config : Shape) (s r : ℕ) (decided : List Value) where
  abbrev Knows : StorageMode → Type 0
  Knows mode = KnowsBeginning (member_of config s r) decided (known_in (storage_role config (member_of config s r)) mode)

  stopped_knows : (mode : StorageMode) → Knows mode → Knows (stopped (storage_role config (member_of config s r)) mode)
  stopped_knows (Stopped flight known) h = h
  stopped_knows (Running memory) h = h

  turned_knows : (node : StorageNode) (input : Input) (mark : Mark) (made : StorageOutcome) → Turned (storage_role config (member_of config s r)) node input mark made
      → ((place index slot : ℕ) (v : Value) → input ≡ Deliver place index (Some (decide_message slot v)) → IsIn decided slot v) → Knows node.mode → Knows made.node.mode
  turned_knows node input mark made (Ran memory c m e done is) sent h =
      subst (λ (x : StorageOutcome). Knows x.node.mode) (sym is)
      (learns (member_of config s r) decided memory.known input c.after.known (subst Knows m h)
      (for_some_at _ (row config (member_of config s r) node.durable memory input) c (row_knows config (member_of config s r) node.durable memory input) e) sent)
  turned_knows node input mark made (Fell memory c put m e puts halts is) sent h =
      subst (λ (x : StorageOutcome). Knows x.node.mode) (sym is) (subst Knows m h)
  turned_knows node input mark made (Slept flight known m done is) sent h = subst (λ (x : StorageOutcome). Knows x.node.mode) (sym is) h
  turned_knows node input mark made (Stopped_now is) sent h = subst (λ (x : StorageOutcome). Knows x.node.mode) (sym is) (stopped_knows node.mode h)
  turned_knows node input mark made (Opened without is) sent h = subst (λ (x : StorageOutcome). Knows x.node.mode) (sym is) (knows_none (member_of config s r) decided)
  turned_knows node input mark made (Opened_more p flight with_it is) sent h = subst (λ (x : StorageOutcome). Knows x.node.mode) (sym is) (knows_none (member_of config s r) decided)

-- each decision that was sent is a slot of a list of values
abbrev pub AreDecided : List Value → List Event → Type 0
AreDecided decided events = (slot : ℕ) (v : Value) → IsMessageSent events (decide_message slot v) → IsIn decided slot v

module _ (config : Shape) (run : ℕ) (kept : KeptLists) where
  abbrev AllKnow : List Event → Type 0
  AllKnow events = (decided : List Value) → AreDecided decided events → (s r : ℕ) (node : StorageNode) → s < config.shards → r < config.replicas
      → node_after config kept events (storage_node config s r) ≡ Storing node
      → KnowsBeginning (member_of config s r) decided (known_in (storage_role config (member_of config s r)) node.mode)

  same_node : (x : NodeState) (one other : StorageNode) → x ≡ Storing one → x ≡ Storing other → one ≡ other
  same_node x one other a b = cc

  first_know : AllKnow []
  first_know decided sent s r node a b state =
      subst (λ (n : StorageNode). Knows config s r decided n.mode)
      (same_node (node_after config kept [] (storage_node config s r)) _ node
      (ap (begun_as config kept (storage_node config s r)) (role_at-node_of config (as_role s r) (a, b))) state)
      (knows_none (member_of config s r) decided)

  sent_earlier : (before : List Event) (e : Event) (m : Message) → IsMessageSent before m → IsMessageSent (before ++ e ∷ []) m
  sent_earlier before e m sent = (sent.0, subst (In sent.0) (sym (sent_in-push before e)) (in_left sent.0 (sent_in before) e.happened.outputs sent.1), sent.2)

  delivered_sent : (before : List Event) (e : Event) → IsNext config run kept before e → (place index : ℕ) (m : Message)
      → e.happened.input ≡ Deliver place index (Some m) → IsMessageSent before m
  delivered_sent before e next place index m is =
      let d = subst (IsDelivered before e.node.0) is next.delivered in
      (letter e.node.0 m, sent_before before place d.event (letter e.node.0 m) d.at (got_in d.event.happened.outputs index (letter e.node.0 m) d.output), refl)

  event_knows : (before : List Event) (e : Event) → IsLegal config run kept before → IsNext config run kept before e → AllKnow before → AllKnow (before ++ e ∷ [])
  event_knows before e legal next all decided sent s r node a b state = at (turns config run kept before e s r old.node next a b old.state)
    where
      earlier : AreDecided decided before
      earlier slot v m = sent slot v (sent_earlier before e (decide_message slot v) m)

      old : IsStoring config run kept before s r
      old = storing config run kept before s r legal a b

      known : Knows config s r decided old.node.mode
      known = all decided earlier s r old.node a b old.state

      at : ReplicaTurns config run kept before e s r old.node → Knows config s r decided node.mode
      at (Stayed after) = subst (λ (n : StorageNode). Knows config s r decided n.mode) (same_node _ old.node node after state) known
      at (Took made here turned after outs reply) =
          subst (λ (n : StorageNode). Knows config s r decided n.mode) (same_node _ made.node node after state)
          (turned_knows config s r decided old.node e.happened.input e.happened.mark made turned
          (λ place index slot v is. earlier slot v (delivered_sent before e next place index (decide_message slot v) is)) known)

  pub all_know : (events : List Event) → IsLegal config run kept events → AllKnow events
  all_know events legal = along config run kept AllKnow event_knows events legal first_know
