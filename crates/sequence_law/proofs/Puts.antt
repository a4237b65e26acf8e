-- What a row of a replica puts: an entry that is submitted and whose pair was not there, or a copy.
use Rattle.std.proofs.Common.{◌≡◌, ℕ, List, length, Option, Some, None, refl, sym, ap, subst, ◌∙◌}
use Rattle.std.proofs.lemmas.Option.{same_Some}
use Rattle.history_frame.specs.declared.inputs.Call.{Call}
use Rattle.history_frame.specs.declared.inputs.Call.TheVariants.{Submit, Ask, Read, Request, Settled}
use Rattle.history_frame.specs.declared.inputs.Input.{Input}
use Rattle.history_frame.specs.declared.inputs.Input.TheVariants.{Deliver, Call as ACall, Tick, Lead, Stop, Restart}
use Rattle.log_base.specs.ClusterShape.{Shape}
use Rattle.log_model.specs.Chain.{ShardState}
use Rattle.log_model.specs.Storage.{Member, list_in, own_shard}
use Rattle.log_model.specs.Submitting.{Submission, submit}
use Rattle.message_frame.specs.declared.messages.Message.{Message}
use Rattle.message_frame.specs.declared.messages.Message.TheVariants.{Copy, CopyAck, Report, Least, Prepare, Promised, Lower, Accept, Accepted, Decide, Want}
use Rattle.peer_copy.specs.Copying.{taking_of}
use Rattle.peer_copy.specs.declared.taking.Taking.{Taking}
use Rattle.peer_copy.specs.declared.taking.Taking.TheVariants.{Put as TakesIt, Have as HasIt, Gap as LacksOne}
use Rattle.record_frame.specs.declared.entries.Entry.{Entry}
use Rattle.record_frame.specs.declared.values.Value.{Value}
use Rattle.record_frame.specs.Entries.{entry_of}
use Rattle.node_model.specs.Legal.{submitted}
use Rattle.node_model.specs.Messages.{copy_message}
use Rattle.node_model.specs.StorageNode.{Put, Replica, StorageChange}
use Rattle.node_model.specs.StorageRow.{call_row, copied_as, message_row, on_ask, on_copied, on_copy, on_decide, on_read, on_submit, on_tick, put_into, row}
use Rattle.node_model.proofs.Turning.{ForSome, for_some_at}
use Rattle.sequence_law.proofs.Rows.{Closes, Declines, IsFresh, Puts, SubmitSays, submit_says}

pub data PutsBy (member : Member) (lists : List (List Entry)) (input : Input) (put : Put) : Type 0 where
  BySubmission : submitted input ≡ Some put.entry → put.segment ≡ member.own → IsFresh (list_in lists member.own) put.entry.client.0 put.entry.number.0
      → PutsBy member lists input put
  ByCopy : (place index segment offset : ℕ) (entry : Entry) → input ≡ Deliver place index (Some (copy_message segment offset entry)) → put.segment ≡ segment
      → PutsBy member lists input put

module _ (config : Shape) (member : Member) (lists : List (List Entry)) (memory : Replica) where
  abbrev PutsAs : Input → StorageChange → Type 0
  PutsAs input c = (put : Put) → c.put ≡ Some put → PutsBy member lists input put

  submission_puts : (input : Input) (entry : Entry) → submitted input ≡ Some entry → (state : Option ShardState) (s : Submission) → SubmitSays (list_in lists member.own) state entry s
      → (put : Put) → put_into member.own s.put ≡ Some put → PutsBy member lists input put
  submission_puts input entry is state s (Puts fresh says) put e =
      let same = same_Some _ put (subst (λ (x : Submission). put_into member.own x.put ≡ Some put) says e) in
      BySubmission (is ∙ ap (λ (q : Put). Some q.entry) same) (ap (λ (q : Put). q.segment) (sym same))
      (subst (λ (q : Put). IsFresh (list_in lists member.own) q.entry.client.0 q.entry.number.0) same fresh)
  submission_puts input entry is state s (Closes one at frozen fresh says) put e =
      let none = subst (λ (x : Submission). put_into member.own x.put ≡ Some put) says e in absurd (cc)
  submission_puts input entry is state s (Declines answer other says) put e =
      let none = subst (λ (x : Submission). put_into member.own x.put ≡ Some put) says e in absurd (cc)

  submit_puts : (input : Input) (entry : Entry) → submitted input ≡ Some entry → PutsAs input (on_submit member lists memory entry)
  unfolding on_submit
  submit_puts input entry is put e =
      submission_puts input entry is (own_shard member memory.known) (submit member (list_in lists member.own) memory.known entry)
      (submit_says member (list_in lists member.own) memory.known entry) put e

  copied_puts : (place index segment offset : ℕ) (entry : Entry) (taking : Taking)
      → PutsAs (Deliver place index (Some (copy_message segment offset entry))) (copied_as config member lists memory (record { segment = segment; entry = entry }) taking)
  copied_puts place index segment offset entry TakesIt put e =
      ByCopy place index segment offset entry refl (ap (λ (q : Put). q.segment) (sym (same_Some _ put e)))
  copied_puts place index segment offset entry HasIt put e = absurd (cc)
  copied_puts place index segment offset entry LacksOne put e = absurd (cc)

  copy_puts : (place index segment offset : ℕ) (entry : Entry)
      → PutsAs (Deliver place index (Some (copy_message segment offset entry))) (on_copy config member lists memory (record { segment = segment; entry = entry }) offset)
  unfolding on_copy
  copy_puts place index segment offset entry = copied_puts place index segment offset entry (taking_of offset (length (list_in lists segment)))

  noted_puts : (input : Input) (peer held : ℕ) → PutsAs input (on_copied config member (list_in lists member.own) memory peer held)
  unfolding on_copied
  noted_puts input peer held put e = absurd (cc)

  decide_puts : (input : Input) (slot : ℕ) (value : Value) → PutsAs input (on_decide member memory slot value)
  unfolding on_decide
  decide_puts input slot value put e = absurd (cc)

  ask_puts : (input : Input) (client number : ℕ) → PutsAs input (on_ask member lists memory client number)
  unfolding on_ask
  ask_puts input client number put e = absurd (cc)

  read_puts : (input : Input) (position : ℕ) → PutsAs input (on_read member lists memory position)
  unfolding on_read
  read_puts input position put e = absurd (cc)

  tick_puts : (input : Input) → PutsAs input (on_tick config member lists memory)
  unfolding on_tick
  tick_puts input put e = absurd (cc)

  message_puts : (place index : ℕ) (m : Message) → ForSome (PutsAs (Deliver place index (Some m))) (message_row config member lists memory m)
  message_puts place index (Copy segment offset entry) = copy_puts place index segment.0 offset entry
  message_puts place index (CopyAck peer held) = noted_puts _ peer.0 held
  message_puts place index (Decide slot value) = decide_puts _ slot.0 value
  message_puts place index (Report shard replica lengths) = tt
  message_puts place index (Least shard lengths) = tt
  message_puts place index (Prepare ballot slot) = tt
  message_puts place index (Promised ballot slot who votes) = tt
  message_puts place index (Lower ballot promise) = tt
  message_puts place index (Accept ballot slot value) = tt
  message_puts place index (Accepted ballot slot who) = tt
  message_puts place index (Want slot node) = tt

  call_puts : (c : Call) → ForSome (PutsAs (ACall c)) (call_row member lists memory c)
  call_puts (Submit client number bytes) = submit_puts _ (entry_of client number bytes) refl
  call_puts (Ask client number) = ask_puts _ client.0 number.0
  call_puts (Read client position) = read_puts _ position.0
  call_puts (Request client value) = tt
  call_puts (Settled client value from) = tt

  row_all : (input : Input) → ForSome (PutsAs input) (row config member lists memory input)
  row_all (Deliver place index (Some m)) = message_puts place index m
  row_all (Deliver place index None) = tt
  row_all (ACall c) = call_puts c
  row_all Tick = tick_puts Tick
  row_all Lead = tt
  row_all Stop = tt
  row_all Restart = tt

  pub row_puts : (input : Input) (c : StorageChange) → row config member lists memory input ≡ Some c → (put : Put) → c.put ≡ Some put → PutsBy member lists input put
  row_puts input c e = for_some_at (PutsAs input) (row config member lists memory input) c (row_all input) e
