-- The ways in which an event can turn out at a node, whatever its role.
use Rattle.std.specs.Prelude.{◌≡◌, Option, Some}
use Rattle.reply_frame.specs.declared.replies.Reply.{Down, Halted as HaltedReply}
use Rattle.history_frame.specs.declared.inputs.Input.{Input}
use Rattle.history_frame.specs.declared.inputs.Mark.{Mark}
use Rattle.history_frame.specs.declared.inputs.Mark.TheVariants.{Done, Halted, OpenedWithout, OpenedWith}
use Rattle.node_model.specs.Marks.{ChangeOf, NodeOf, OutcomeOf, RoleOf, Running, Stopped, as_stopped, flight_of, opened, silent, stored_with, to_call}

-- A running node follows a row, or it halts in the put of one. A node that is down stays as it was. A node goes down or
-- stays down. A node opens with its lists as they were, or with what was in flight at their end.
pub data Turned {D P K M : Type 0} (role : RoleOf D P K M) (node : NodeOf D P K M) (input : Input) (mark : Mark) (made : OutcomeOf D P K M) : Type 0 where
  Ran : (memory : M) (change : ChangeOf P M) → node.mode ≡ Running memory → role.row node.durable memory input ≡ Some change → mark ≡ Done
      → made ≡ record { node = record { durable = stored_with role node.durable change.put; mode = Running change.after }; outputs = change.outputs; reply = change.reply }
      → Turned role node input mark made
  Fell : (memory : M) (change : ChangeOf P M) (put : P) → node.mode ≡ Running memory → role.row node.durable memory input ≡ Some change
      → change.put ≡ Some put → mark ≡ Halted
      → made ≡ silent (record { durable = node.durable; mode = Stopped (Some put) (role.known memory) }) (to_call input HaltedReply)
      → Turned role node input mark made
  Slept : (flight : Option P) (known : K) → node.mode ≡ Stopped flight known → mark ≡ Done → made ≡ silent node (to_call input Down)
      → Turned role node input mark made
  Stopped_now : made ≡ as_stopped role node → Turned role node input mark made
  Opened : mark ≡ OpenedWithout → made ≡ opened role node.durable → Turned role node input mark made
  Opened_more : (put : P) → flight_of node.mode ≡ Some put → mark ≡ OpenedWith → made ≡ opened role (role.stored node.durable put)
      → Turned role node input mark made
