-- Something that holds of every value that an orderer holds or sends. It has no quorum in it, so it is kept from any start.
use Rattle.std.specs.Prelude.{◌≡◌, ℕ, ◌*◌, List, Option, Some, None, slice_index_or}
use Rattle.history_frame.specs.declared.events.Sent.{Sent}
use Rattle.history_frame.specs.declared.inputs.Call.{Call}
use Rattle.history_frame.specs.declared.inputs.Call.TheVariants.{Ask, Read, Request, Settled, Submit}
use Rattle.history_frame.specs.declared.inputs.Input.{Input}
use Rattle.history_frame.specs.declared.inputs.Input.TheVariants.{Call as ACall, Deliver, Lead, Restart, Stop, Tick}
use Rattle.log_base.specs.ClusterShape.{Shape}
use Rattle.message_frame.specs.declared.messages.Message.{Message}
use Rattle.message_frame.specs.declared.messages.Message.TheVariants.{Accept, Accepted, Copy, CopyAck, Decide, Least, Lower, Prepare, Promised, Report, Want}
use Rattle.message_frame.specs.declared.messages.Vote.{Vote}
use Rattle.record_frame.specs.declared.values.Lengths.{Lengths}
use Rattle.record_frame.specs.declared.values.Value.{Value}
use Rattle.record_frame.specs.declared.values.Value.TheVariants.{Cut}
use Rattle.paxos_model.specs.Leader.{Leader, Pending}
use Rattle.paxos_model.specs.Learner.{Wish, raise}
use Rattle.paxos_model.specs.Votes.{Payload, Promise, Voted, votes}
use Rattle.node_model.specs.Marks.{Running, Stopped}
use Rattle.node_model.specs.OrdererNode.{Mode, Node, Orderer, Outcome}
use Rattle.agreement_law.specs.Elements.{In}

abbrev pub AreFineVotes : (Value → Type 0) → List Vote → Type 0
AreFineVotes F vs = (x : Vote) → In x vs → F x.value

abbrev pub IsFinePayload : (Value → Type 0) → Option Payload → Type 0
IsFinePayload F None = Unit {0}
IsFinePayload F (Some (Promise b)) = Unit {0}
IsFinePayload F (Some (Voted x)) = F x.value

abbrev pub AreFine : (Value → Type 0) → List Value → Type 0
AreFine F values = (v : Value) → In v values → F v

abbrev pub IsFinePending : (Value → Type 0) → Option Pending → Type 0
IsFinePending F None = Unit {0}
IsFinePending F (Some p) = F p.value

pub record IsFineLeader (F : Value → Type 0) (l : Leader) : Type 0 where
  pub best : (j : ℕ) (x : Vote) → slice_index_or l.best j None ≡ Some x → F x.value
  pub waits : IsFinePending F l.pending

abbrev pub IsFineLead : (Value → Type 0) → Option Leader → Type 0
IsFineLead F None = Unit {0}
IsFineLead F (Some l) = IsFineLeader F l

-- an orderer's known values, wishes, proposal and reports, and the cut of the lengths that it heard of
pub record IsFineOrderer (F : Value → Type 0) (o : Orderer) : Type 0 where
  pub knows : AreFine F o.known
  pub hears : F (Cut o.heard)
  pub wants : (w : Wish) → In w o.wishes → F w.value
  pub leads : IsFineLead F o.leader

abbrev pub IsFineMode : (Value → Type 0) → Mode → Type 0
IsFineMode F (Stopped flight known) = IsFinePayload F flight × AreFine F known
IsFineMode F (Running o) = IsFineOrderer F o

pub record IsFineNode (F : Value → Type 0) (node : Node) : Type 0 where
  pub kept : AreFineVotes F (votes node.durable)
  pub mode : IsFineMode F node.mode

-- The values that a message carries. Lengths that are heard are fine where raising by them keeps cuts fine.
abbrev pub IsFineMessage : Shape → (Value → Type 0) → Message → Type 0
IsFineMessage shape F (Promised b f w vs) = AreFineVotes F vs
IsFineMessage shape F (Accept b k v) = F v
IsFineMessage shape F (Decide k v) = F v
IsFineMessage shape F (Least shard given) =
    (heard : Lengths) → F (Cut heard) → F (Cut (raise shape.replicas (shard.0 * shape.replicas) given.length heard))
IsFineMessage shape F (Prepare b f) = Unit {0}
IsFineMessage shape F (Lower b p) = Unit {0}
IsFineMessage shape F (Accepted b k w) = Unit {0}
IsFineMessage shape F (Want from node) = Unit {0}
IsFineMessage shape F (Copy segment offset entry) = Unit {0}
IsFineMessage shape F (CopyAck peer held) = Unit {0}
IsFineMessage shape F (Report shard replica lengths) = Unit {0}

abbrev pub IsFineCall : (Value → Type 0) → Call → Type 0
IsFineCall F (Request client value) = F value
IsFineCall F (Settled client value from) = Unit {0}
IsFineCall F (Submit client number bytes) = Unit {0}
IsFineCall F (Ask client number) = Unit {0}
IsFineCall F (Read client position) = Unit {0}

abbrev pub IsFineInput : Shape → (Value → Type 0) → Input → Type 0
IsFineInput shape F (Deliver place index (Some m)) = IsFineMessage shape F m
IsFineInput shape F (Deliver place index None) = Unit {0}
IsFineInput shape F (ACall call) = IsFineCall F call
IsFineInput shape F Tick = Unit {0}
IsFineInput shape F Lead = Unit {0}
IsFineInput shape F Stop = Unit {0}
IsFineInput shape F Restart = Unit {0}

abbrev pub AreFineLetters : Shape → (Value → Type 0) → List Sent → Type 0
AreFineLetters shape F outs = (s : Sent) → In s outs → IsFineMessage shape F s.message

pub record IsFineOutcome (shape : Shape) (F : Value → Type 0) (made : Outcome) : Type 0 where
  pub node : IsFineNode F made.node
  pub letters : AreFineLetters shape F made.outputs
