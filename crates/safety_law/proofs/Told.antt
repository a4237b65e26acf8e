-- What a replica knows was told to it, value by value.
use Rattle.std.proofs.Common.{◌≡◌, ◌<◌, ◌≤◌, ◌⊎◌, ◌+◌, ℕ, zero, suc, Bool, true, false, ◌==◌, List, [], ◌∷◌, ◌++◌, length, Option, Some, None, refl, inl, inr, sym, ap, subst, ⊎_elim, arith, append-nil, length-append, eqb-true, ◌∙◌}
use Rattle.std.proofs.lemmas.Bool.{cond_both}
use Rattle.history_frame.specs.declared.events.Sent.{Sent}
use Rattle.history_frame.specs.declared.inputs.Call.{Call}
use Rattle.history_frame.specs.declared.inputs.Call.TheVariants.{Submit, Ask, Read, Request, Settled}
use Rattle.history_frame.specs.declared.inputs.Input.{Input}
use Rattle.history_frame.specs.declared.inputs.Input.TheVariants.{Deliver, Call as ACall, Tick, Lead, Stop, Restart}
use Rattle.history_frame.specs.declared.inputs.Mark.{Mark}
use Rattle.log_base.specs.ClusterShape.{Shape}
use Rattle.log_model.specs.Chain.{ChainState, apply, chain_of, covered_by}
use Rattle.log_model.specs.Learning.{known_after, knowing}
use Rattle.log_model.specs.Spelling.{spell}
use Rattle.log_model.specs.Storage.{Knowledge, Member, knowledge_of, list_in}
use Rattle.log_model.proofs.Appending.{chain_of-append, spell-append}
use Rattle.log_base.specs.declared.numbers.Place.{Place}
use Rattle.message_frame.specs.declared.messages.Message.{Message}
use Rattle.message_frame.specs.declared.messages.Message.TheVariants.{Copy, CopyAck, Report, Least, Prepare, Promised, Lower, Accept, Accepted, Decide, Want}
use Rattle.peer_copy.specs.Copying.{taking_of}
use Rattle.peer_copy.specs.declared.taking.Taking.{Taking}
use Rattle.peer_copy.specs.declared.taking.Taking.TheVariants.{Put as IsNext, Have as IsThere, Gap as IsMissing}
use Rattle.record_frame.specs.declared.entries.Entry.{Entry}
use Rattle.record_frame.specs.declared.values.Value.{Value}
use Rattle.record_frame.specs.Entries.{entry_of}
use Rattle.node_model.specs.Marks.{Running, Stopped, known_in, stopped}
use Rattle.node_model.specs.Messages.{decide_message}
use Rattle.node_model.specs.StorageNode.{Put, Replica, StorageChange, StorageMode, StorageNode, StorageOutcome, fresh}
use Rattle.node_model.specs.StorageRow.{call_row, copied_as, message_row, on_ask, on_copied, on_copy, on_decide, on_read, on_submit, on_tick, outcome, row, storage_role}
use Rattle.node_model.specs.Turning.{Turned, Ran, Fell, Slept, Stopped_now, Opened, Opened_more}
use Rattle.node_model.proofs.Turning.{ForSome, for_some_at, turned}
use Rattle.agreement_law.specs.Elements.{In, IsIn}
use Rattle.agreement_law.proofs.Elements.{in_left, is_in_push}

-- a decision was sent
abbrev pub IsDecideSent : List Sent → ℕ → Value → Type 0
IsDecideSent sent slot value = (s : Sent) × In s sent × (s.message ≡ decide_message slot value)

-- what is known comes from values, each of which was sent as the decision of its slot
pub record IsTold (sent : List Sent) (member : Member) (known : Knowledge) : Type 0 where
  pub values : List Value
  pub knows : known ≡ knowledge_of member values
  pub told : (k : ℕ) (v : Value) → IsIn values k v → IsDecideSent sent k v

pub told_more : (sent more : List Sent) (member : Member) (known : Knowledge) → IsTold sent member known → IsTold (sent ++ more) member known
told_more sent more member known h = record {
  values = h.values;
  knows = h.knows;
  told = λ k v a. let one = h.told k v a in (one.0, in_left one.0 sent more one.1, one.2);
}

-- the next value
next_known : (member : Member) (values : List Value) (v : Value) → knowing member (knowledge_of member values) v ≡ knowledge_of member (values ++ v ∷ [])
next_known member values v =
    ap (λ (x : ChainState × List Place × ℕ). let k : Knowledge = record { chain = x.0; places = x.1; count = x.2 } in k)
    (λ i. (sym (chain_of-append member.replicas values (v ∷ [])) i, places i, count i))
  where
    places : spell member.replicas values ++ covered_by member.replicas (chain_of member.replicas values) v ≡ spell member.replicas (values ++ v ∷ [])
    places = sym (spell-append member.replicas values (v ∷ [])
        ∙ ap (λ (l : List Place). spell member.replicas values ++ l) (append-nil (covered_by member.replicas (chain_of member.replicas values) v)))

    count : suc (length values) ≡ length (values ++ v ∷ [])
    count = omega (arith, length-append values (v ∷ []))

-- an input is a call or a tick, or delivers a message that was sent
abbrev pub IsHeard : List Sent → Input → Type 0
IsHeard sent (Deliver place index (Some m)) = (s : Sent) × In s sent × (s.message ≡ m)
IsHeard sent (Deliver place index None) = Unit {0}
IsHeard sent (ACall call) = Unit {0}
IsHeard sent Tick = Unit {0}
IsHeard sent Lead = Unit {0}
IsHeard sent Stop = Unit {0}
IsHeard sent Restart = Unit {0}

module _ (config : Shape) (member : Member) (sent : List Sent) where
  pub fresh_told : IsTold sent member (fresh member).known
  fresh_told = record { values = []; knows = refl; told = λ k v a. absurd a }

  abbrev Told : StorageChange → Type 0
  Told c = IsTold sent member c.after.known

  module _ (own : List (List Entry)) (memory : Replica) (h : IsTold sent member memory.known) where
    learned_told : (k : ℕ) (v : Value) → IsDecideSent sent k v → k ≡ memory.known.count → IsTold sent member (knowing member memory.known v)
    learned_told k v d e = record {
      values = h.values ++ v ∷ [];
      knows = ap (λ (x : Knowledge). knowing member x v) h.knows ∙ next_known member h.values v;
      told = λ j u a. ⊎_elim (λ old. h.told j u old)
          (λ new. subst (λ (x : ℕ × Value). IsDecideSent sent x.0 x.1) (λ i. (place j new.0 i, new.1 i)) d)
          (is_in_push h.values v j u a);
    }
      where
        place : (j : ℕ) → j ≡ length h.values → k ≡ j
        place j is = e ∙ ap (λ (x : Knowledge). x.count) h.knows ∙ sym is

    decide_told : (k : ℕ) (v : Value) → IsDecideSent sent k v → Told (on_decide member memory k v)
    unfolding on_decide known_after
    decide_told k v d =
        cond_both (k == memory.known.count) (knowing member memory.known v) memory.known (IsTold sent member)
        (λ e. learned_told k v d (eqb-true k memory.known.count e)) (λ e. h)

    taking_told : (put : Put) (taking : Taking) → Told (copied_as config member own memory put taking)
    taking_told put IsNext = h
    taking_told put IsThere = h
    taking_told put IsMissing = h

    copy_told : (put : Put) (offset : ℕ) → Told (on_copy config member own memory put offset)
    unfolding on_copy
    copy_told put offset = taking_told put (taking_of offset (length (list_in own put.segment)))

    note_told : (peer held : ℕ) → Told (on_copied config member (list_in own member.own) memory peer held)
    unfolding on_copied
    note_told peer held = h

    submit_told : (entry : Entry) → Told (on_submit member own memory entry)
    unfolding on_submit
    submit_told entry = h

    ask_told : (client number : ℕ) → Told (on_ask member own memory client number)
    unfolding on_ask
    ask_told client number = h

    read_told : (position : ℕ) → Told (on_read member own memory position)
    unfolding on_read
    read_told position = h

    tick_told : Told (on_tick config member own memory)
    unfolding on_tick
    tick_told = h

    message_told : (m : Message) → ((s : Sent) × In s sent × (s.message ≡ m)) → ForSome Told (message_row config member own memory m)
    message_told (Copy segment offset entry) d = copy_told (record { segment = segment.0; entry = entry }) offset
    message_told (CopyAck peer held) d = note_told peer.0 held
    message_told (Decide slot value) d = decide_told slot.0 value d
    message_told (Report shard replica lengths) d = tt
    message_told (Least shard lengths) d = tt
    message_told (Prepare ballot slot) d = tt
    message_told (Promised ballot slot who votes) d = tt
    message_told (Lower ballot promise) d = tt
    message_told (Accept ballot slot value) d = tt
    message_told (Accepted ballot slot who) d = tt
    message_told (Want slot node) d = tt

    call_told : (c : Call) → ForSome Told (call_row member own memory c)
    call_told (Submit client number bytes) = submit_told (entry_of client number bytes)
    call_told (Ask client number) = ask_told client.0 number.0
    call_told (Read client position) = read_told position.0
    call_told (Request client value) = tt
    call_told (Settled client value from) = tt

    row_told : (x : Input) → IsHeard sent x → ForSome Told (row config member own memory x)
    row_told (Deliver place index (Some m)) d = message_told m d
    row_told (Deliver place index None) d = tt
    row_told (ACall call) d = call_told call
    row_told Tick d = tick_told
    row_told Lead d = tt
    row_told Stop d = tt
    row_told Restart d = tt

  abbrev pub NodeTold : StorageNode → Type 0
  NodeTold node = IsTold sent member (known_in (storage_role config member) node.mode)

  stopped_known : (m : StorageMode) → known_in (storage_role config member) (stopped (storage_role config member) m) ≡ known_in (storage_role config member) m
  stopped_known (Stopped flight known) = refl
  stopped_known (Running memory) = refl

  module _ (node : StorageNode) (h : NodeTold node) (x : Input) (d : IsHeard sent x) where
    running : (memory : Replica) → node.mode ≡ Running memory → IsTold sent member memory.known
    running memory m = subst (λ (mode : StorageMode). IsTold sent member (known_in (storage_role config member) mode)) m h

    change : (memory : Replica) (c : StorageChange) → node.mode ≡ Running memory → row config member node.durable memory x ≡ Some c → Told c
    change memory c m e = for_some_at Told (row config member node.durable memory x) c (row_told node.durable memory (running memory m) x d) e

    made_told : (mark : Mark) (made : StorageOutcome) → Turned (storage_role config member) node x mark made → NodeTold made.node
    made_told mark made (Ran memory c m e done is) = subst (λ (o : StorageOutcome). NodeTold o.node) (sym is) (change memory c m e)
    made_told mark made (Fell memory c put m e puts halts is) = subst (λ (o : StorageOutcome). NodeTold o.node) (sym is) (running memory m)
    made_told mark made (Slept flight known m done is) = subst (λ (o : StorageOutcome). NodeTold o.node) (sym is) h
    made_told mark made (Stopped_now is) = subst (λ (o : StorageOutcome). NodeTold o.node) (sym is) (subst (IsTold sent member) (sym (stopped_known node.mode)) h)
    made_told mark made (Opened without is) = subst (λ (o : StorageOutcome). NodeTold o.node) (sym is) fresh_told
    made_told mark made (Opened_more p flight with_it is) = subst (λ (o : StorageOutcome). NodeTold o.node) (sym is) fresh_told

    pub outcome_told : (mark : Mark) (made : StorageOutcome) → outcome config member node x mark ≡ Some made → NodeTold made.node
    unfolding outcome
    outcome_told mark made e = made_told mark made (turned (storage_role config member) node x mark made e)
