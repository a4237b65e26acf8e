-- What an input puts, and what is in flight, is to a segment of the shard.
use Rattle.std.proofs.Common.{◌≡◌, ℕ, ◌<◌, List, Option, Some, None, subst, arith}
use Rattle.std.specs.Option.{option_map}
use Rattle.std.proofs.lemmas.Option.{none-some, same_Some}
use Rattle.history_frame.specs.declared.events.Event.{Event}
use Rattle.history_frame.specs.declared.inputs.Call.{Call}
use Rattle.history_frame.specs.declared.inputs.Call.TheVariants.{Submit, Ask, Read, Request, Settled}
use Rattle.history_frame.specs.declared.inputs.Input.{Input}
use Rattle.history_frame.specs.declared.inputs.Input.TheVariants.{Deliver, Call as ACall, Tick, Lead, Stop, Restart}
use Rattle.log_base.specs.ClusterShape.{Shape}
use Rattle.log_model.specs.Storage.{Member}
use Rattle.message_frame.specs.declared.messages.Message.{Message}
use Rattle.message_frame.specs.declared.messages.Message.TheVariants.{Copy, CopyAck, Report, Least, Prepare, Promised, Lower, Accept, Accepted, Decide, Want}
use Rattle.node_table.specs.declared.role.Role.{Role}
use Rattle.node_table.specs.declared.role.Role.TheVariants.{Storage, Gatherer, Orderer}
use Rattle.node_table.specs.Numbering.{IsRole, nodes_of, role_at}
use Rattle.peer_copy.specs.declared.taking.Taking.{Taking}
use Rattle.peer_copy.specs.declared.taking.Taking.TheVariants.{Put as IsNext, Have as IsThere, Gap as IsMissing}
use Rattle.record_frame.specs.declared.entries.Entry.{Entry}
use Rattle.node_model.specs.Fits.{HasRange}
use Rattle.node_model.specs.Legal.{IsLegal}
use Rattle.node_model.specs.Marks.{Running, Stopped, flight_of}
use Rattle.node_model.specs.NodeState.{KeptLists, NodeState, Storing, Gathering, Ordering, node_after}
use Rattle.node_model.specs.OrdererRow.{orderer_role}
use Rattle.node_model.specs.StorageNode.{Put, Replica, StorageChange, StorageMode, StorageNode, member_of}
use Rattle.node_model.specs.StorageRow.{call_row, copied_as, message_row, on_ask, on_copied, on_copy, on_decide, on_read, on_submit, on_tick, put_into, row, storage_role}
use Rattle.node_model.proofs.Turning.{ForSome}
use Rattle.safety_law.specs.Fit.{CanPut, IsGoodNode, IsReplicaMode}
use Rattle.safety_law.specs.Lists.{Lists, lists_at}
use Rattle.safety_law.proofs.History.{history_fits}
use Rattle.core_step.specs.Disks.{journals_of, put_by, put_in, put_of, segment_put}
use Rattle.history_walk.specs.Planning.{IsFlown}

-- a put is to a segment below a number
abbrev IsBelow : ℕ → Put → Type 0
IsBelow count put = put.segment < count

abbrev PutsBelow : ℕ → StorageChange → Type 0
PutsBelow count change = ForSome (IsBelow count) change.put

module _ (config : Shape) (member : Member) (lists : List (List Entry)) (memory : Replica) where
  copied_below : (put : Put) (taking : Taking) → put.segment < config.replicas → PutsBelow config.replicas (copied_as config member lists memory put taking)
  copied_below put IsNext lt = lt
  copied_below put IsThere lt = tt
  copied_below put IsMissing lt = tt

  into_below : (entry : Option Entry) → member.own < config.replicas → ForSome (IsBelow config.replicas) (put_into member.own entry)
  into_below None lt = tt
  into_below (Some entry) lt = lt

  message_below : (place index : ℕ) (message : Message) → HasRange config (Deliver place index (Some message)) → ForSome (PutsBelow config.replicas) (message_row config member lists memory message)
  unfolding on_copy on_copied on_decide
  message_below place index (Copy segment offset entry) range = copied_below _ _ range.1
  message_below place index (CopyAck peer held) range = tt
  message_below place index (Decide slot value) range = tt
  message_below place index (Report shard replica lengths) range = tt
  message_below place index (Least shard lengths) range = tt
  message_below place index (Prepare ballot slot) range = tt
  message_below place index (Promised ballot slot who votes) range = tt
  message_below place index (Lower ballot promise) range = tt
  message_below place index (Accept ballot slot value) range = tt
  message_below place index (Accepted ballot slot who) range = tt
  message_below place index (Want slot node) range = tt

  call_below : (call : Call) → member.own < config.replicas → ForSome (PutsBelow config.replicas) (call_row member lists memory call)
  unfolding on_submit on_ask on_read
  call_below (Submit client number bytes) lt = into_below _ lt
  call_below (Ask client number) lt = tt
  call_below (Read client position) lt = tt
  call_below (Request client value) lt = tt
  call_below (Settled client value from) lt = tt

  row_below : (input : Input) → member.own < config.replicas → HasRange config input → ForSome (PutsBelow config.replicas) (row config member lists memory input)
  unfolding on_tick
  row_below (Deliver place index None) lt range = tt
  row_below (Deliver place index (Some message)) lt range = message_below place index message range
  row_below (ACall call) lt range = call_below call lt
  row_below Tick lt range = tt
  row_below Lead lt range = tt
  row_below Stop lt range = tt
  row_below Restart lt range = tt

  by_below : (change : Option StorageChange) → ForSome (PutsBelow config.replicas) change → ForSome (IsBelow config.replicas) (put_by change)
  by_below None h = tt
  by_below (Some change) h = h

of_below : (config : Shape) (member : Member) (node : StorageNode) (mode : StorageMode) (input : Input) → member.own < config.replicas → HasRange config input
    → ForSome (IsBelow config.replicas) (put_of (storage_role config member) node mode input)
of_below config member node (Stopped flight known) input lt range = tt
of_below config member node (Running memory) input lt range =
    by_below config member node.durable memory (row config member node.durable memory input) (row_below config member node.durable memory input lt range)

segment_below : (count : ℕ) (put : Option Put) → ForSome (IsBelow count) put → (segment : ℕ) → option_map (λ (p : Put). p.segment) put ≡ Some segment → segment < count
segment_below count None h segment e = absurd (none-some segment e)
segment_below count (Some put) h segment e = subst (λ n. n < count) (same_Some put.segment segment e) h

pub put_within : (config : Shape) (role : Role) (state : NodeState) (input : Input) → IsRole config role → HasRange config input
    → (segment : ℕ) → segment_put config role state input ≡ Some segment → segment < journals_of config role
put_within config (Storage shard replica) (Storing node) input is range segment e =
    segment_below config.replicas (put_in (storage_role config (member_of config shard.0 replica.0)) node input)
    (of_below config (member_of config shard.0 replica.0) node node.mode input is.1 range) segment e
put_within config (Orderer index) (Ordering node) input is range segment e = first (put_in (orderer_role config index) node input) e
  where
    first : {P : Type 0} (put : Option P) → option_map (λ (p : P). 0) put ≡ Some segment → segment < 1
    first None e = absurd (none-some segment e)
    first (Some p) e = subst (λ n. n < 1) (same_Some 0 segment e) (omega arith)
put_within config (Gatherer index) (Gathering node) input is range segment e = absurd (none-some segment e)
put_within config (Storage shard replica) (Gathering node) input is range segment e = absurd (none-some segment e)
put_within config (Storage shard replica) (Ordering node) input is range segment e = absurd (none-some segment e)
put_within config (Gatherer index) (Storing node) input is range segment e = absurd (none-some segment e)
put_within config (Gatherer index) (Ordering node) input is range segment e = absurd (none-some segment e)
put_within config (Orderer index) (Storing node) input is range segment e = absurd (none-some segment e)
put_within config (Orderer index) (Gathering node) input is range segment e = absurd (none-some segment e)

-- what is in flight after a legal history
can_put : (config : Shape) (lists : Lists) (shard replica : ℕ) (flight : Option Put) → CanPut config lists shard replica flight → (put : Put) → flight ≡ Some put → put.segment < config.replicas
can_put config lists shard replica None h put e = absurd (none-some put e)
can_put config lists shard replica (Some other) h put e = subst (λ (p : Put). p.segment < config.replicas) (same_Some other put e) h.segment

in_flight : (config : Shape) (lists : Lists) (shard replica : ℕ) (mode : StorageMode) → IsReplicaMode config lists shard replica mode → (put : Put) → flight_of mode ≡ Some put → put.segment < config.replicas
in_flight config lists shard replica (Stopped flight known) h put e = can_put config lists shard replica flight h.0 put e
in_flight config lists shard replica (Running memory) h put e = absurd (none-some put e)

flown_as : (config : Shape) (lists : Lists) (role : Role) (state : NodeState) → IsGoodNode config lists role state → IsFlown config state
flown_as config lists (Storage shard replica) (Storing node) good = in_flight config lists shard.0 replica.0 node.mode good.mode
flown_as config lists (Gatherer index) (Gathering node) good = tt
flown_as config lists (Orderer index) (Ordering node) good = tt
flown_as config lists (Storage shard replica) (Gathering node) good = absurd good
flown_as config lists (Storage shard replica) (Ordering node) good = absurd good
flown_as config lists (Gatherer index) (Storing node) good = absurd good
flown_as config lists (Gatherer index) (Ordering node) good = absurd good
flown_as config lists (Orderer index) (Storing node) good = absurd good
flown_as config lists (Orderer index) (Gathering node) good = absurd good

pub flown : (config : Shape) (run : ℕ) (kept : KeptLists) (events : List Event) (node : ℕ) → IsLegal config run kept events → node < nodes_of config → IsFlown config (node_after config kept events node)
flown config run kept events node legal lt =
    flown_as config (lists_at config (node_after config kept events)) (role_at config node) (node_after config kept events node) ((history_fits config run kept events legal).nodes node lt)
