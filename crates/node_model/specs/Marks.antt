-- A node, a row of the rules, and what stands after an event by its mark. All roles share this. They differ in what a
-- node stores (D), what is put there (P), what a node knows (K), what it remembers while it runs (M), and in their rows.
use Rattle.std.specs.Prelude.{List, [], Bool, true, false, if◌then◌else◌, Option, Some, None}
use Rattle.reply_frame.specs.declared.replies.Reply.{Reply, Nothing, Down, Halted as HaltedReply}
use Rattle.history_frame.specs.declared.events.Sent.{Sent}
use Rattle.history_frame.specs.declared.inputs.Call.{Call}
use Rattle.history_frame.specs.declared.inputs.Input.{Input}
use Rattle.history_frame.specs.declared.inputs.Input.TheVariants.{Deliver, Call as ACall, Tick, Lead, Stop, Restart}
use Rattle.history_frame.specs.declared.inputs.Mark.{Mark}
use Rattle.history_frame.specs.declared.inputs.Mark.TheVariants.{Done, Halted, OpenedWithout, OpenedWith, StayedDown}
use Rattle.message_frame.specs.declared.messages.Message.{Message}

-- A node is down, perhaps with a payload in flight, which may or may not be stored when it starts again, and with what
-- it knew; or it runs.
pub data Mode (P K M : Type 0) : Type 0 where
  Stopped : (flight : Option P) (known : K) → Mode P K M
  Running : (memory : M) → Mode P K M

-- a node: what its disks store, and its mode
pub record NodeOf (D P K M : Type 0) : Type 0 where
  pub durable : D
  pub mode : Mode P K M

-- a row of the rules: what is put, if anything, what the node remembers then, the letters and the reply
pub record ChangeOf (P M : Type 0) : Type 0 where
  pub put : Option P
  pub after : M
  pub outputs : List Sent
  pub reply : Reply

-- what an event makes: the node after it, the letters and the reply
pub record OutcomeOf (D P K M : Type 0) : Type 0 where
  pub node : NodeOf D P K M
  pub outputs : List Sent
  pub reply : Reply

-- the inputs that are named for a role: some messages, some calls, and perhaps that it is to lead
pub record Names : Type 0 where
  pub message : Message → Bool
  pub call : Call → Bool
  pub lead : Bool

-- A role: which inputs are named for it, whether it has disks, what is stored after a put, what a node remembers when it
-- starts, what it knows, and its rows. There is no row for an input that is not named.
pub record RoleOf (D P K M : Type 0) : Type 0 where
  pub names : Names
  pub has_disks : Bool
  pub stored : D → P → D
  pub fresh : M
  pub known : M → K
  pub row : D → M → Input → Option (ChangeOf P M)

-- whether an input is named for a role; a letter has its message
abbrev pub is_named : Names → Input → Bool
is_named names (Deliver place index None) = false
is_named names (Deliver place index (Some message)) = names.message message
is_named names (ACall call) = names.call call
is_named names Tick = true
is_named names Lead = names.lead
is_named names Stop = true
is_named names Restart = true

-- a reply to a call; no other input has one
abbrev pub to_call : Input → Reply → Reply
to_call (ACall call) reply = reply
to_call (Deliver place index message) reply = Nothing
to_call Tick reply = Nothing
to_call Lead reply = Nothing
to_call Stop reply = Nothing
to_call Restart reply = Nothing

-- what is in flight at a node
abbrev pub flight_of : {P K M : Type 0} → Mode P K M → Option P
flight_of (Stopped flight known) = flight
flight_of (Running memory) = None

module _ {D P K M : Type 0} where
  -- an event that puts out nothing
  abbrev pub silent : NodeOf D P K M → Reply → OutcomeOf D P K M
  silent node reply = record { node = node; outputs = []; reply = reply }

  -- the node that an outcome leaves; an event that no rule allows leaves it as it was
  abbrev pub node_or : NodeOf D P K M → Option (OutcomeOf D P K M) → NodeOf D P K M
  node_or node None = node
  node_or node (Some made) = made.node

module _ {D P K M : Type 0} (role : RoleOf D P K M) where
  -- a node at first, with what its disks kept: it is down
  abbrev pub begun : D → NodeOf D P K M
  begun kept = record { durable = kept; mode = Stopped None (role.known role.fresh) }

  -- what a node knows, up or down
  abbrev pub known_in : Mode P K M → K
  known_in (Stopped flight known) = known
  known_in (Running memory) = role.known memory

  -- what is stored after a row
  abbrev pub stored_with : D → Option P → D
  stored_with durable None = durable
  stored_with durable (Some put) = role.stored durable put

  -- A disk failed in the put of a row: the node is down with the put in flight, and puts out nothing. A row without
  -- a put cannot halt.
  abbrev pub halted : D → M → Input → Option P → Option (OutcomeOf D P K M)
  halted durable memory input None = None
  halted durable memory input (Some put) =
      Some (silent (record { durable = durable; mode = Stopped (Some put) (role.known memory) }) (to_call input HaltedReply))

  -- what stands after a row: what it puts is stored, or the node halted
  abbrev pub row_made : D → M → Input → Option (ChangeOf P M) → Mark → Option (OutcomeOf D P K M)
  row_made durable memory input None mark = None
  row_made durable memory input (Some change) Done = Some (record {
    node = record { durable = stored_with durable change.put; mode = Running change.after };
    outputs = change.outputs;
    reply = change.reply;
  })
  row_made durable memory input (Some change) Halted = halted durable memory input change.put
  row_made durable memory input (Some change) _ = None

  -- at a node that is down a call is answered so, and nothing else happens
  abbrev pub down_made : NodeOf D P K M → Input → Mark → Option (OutcomeOf D P K M)
  down_made node input Done = if is_named role.names input then Some (silent node (to_call input Down)) else None
  down_made node input _ = None

  -- a node goes down; at a running one nothing is in flight
  abbrev pub stopped : Mode P K M → Mode P K M
  stopped (Stopped flight known) = Stopped flight known
  stopped (Running memory) = Stopped None (role.known memory)

  abbrev pub as_stopped : NodeOf D P K M → OutcomeOf D P K M
  as_stopped node = silent (record { durable = node.durable; mode = stopped node.mode }) Nothing

  abbrev pub stop_made : NodeOf D P K M → Mark → Option (OutcomeOf D P K M)
  stop_made node Done = Some (as_stopped node)
  stop_made node _ = None

  -- A node starts with its lists as they were or, where something is in flight, with that at their end. All else is as at
  -- first.
  abbrev pub opened : D → OutcomeOf D P K M
  opened durable = silent (record { durable = durable; mode = Running role.fresh }) Nothing

  abbrev pub opened_with : D → Option P → Option (OutcomeOf D P K M)
  opened_with durable None = None
  opened_with durable (Some put) = Some (opened (role.stored durable put))

  -- a restart, by how the disks opened; where they did not open the node stays down
  abbrev pub restarted : NodeOf D P K M → Mark → Option (OutcomeOf D P K M)
  restarted node OpenedWithout = Some (opened node.durable)
  restarted node OpenedWith = opened_with node.durable (flight_of node.mode)
  restarted node StayedDown = if role.has_disks then Some (as_stopped node) else None
  restarted node _ = None

  -- any other input, at a node that is down or that runs
  abbrev pub usual_made : NodeOf D P K M → Mode P K M → Input → Mark → Option (OutcomeOf D P K M)
  usual_made node (Stopped flight known) input mark = down_made node input mark
  usual_made node (Running memory) input mark = row_made node.durable memory input (role.row node.durable memory input) mark

  -- What an event makes of a node, from its input and its mark: none where the input is not named for the role, or
  -- the mark is none that this event can have.
  abbrev pub made_by : NodeOf D P K M → Input → Mark → Option (OutcomeOf D P K M)
  made_by node Stop mark = stop_made node mark
  made_by node Restart mark = restarted node mark
  made_by node (Deliver place index message) mark = usual_made node node.mode (Deliver place index message) mark
  made_by node (ACall call) mark = usual_made node node.mode (ACall call) mark
  made_by node Tick mark = usual_made node node.mode Tick mark
  made_by node Lead mark = usual_made node node.mode Lead mark
