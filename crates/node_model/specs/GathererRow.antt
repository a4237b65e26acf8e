-- The rule of a gatherer. It has no disk: it hears from the replicas of its shards how much they hold, and tells the orderers
-- how much all replicas of a shard hold.
use Rattle.std.specs.Prelude.{ℕ, zero, suc, ◌%◌, List, [], ◌++◌, Bool, true, false, ◌==◌, if◌then◌else◌, Option, Some, None}
use Rattle.aggregator.specs.Hearing.{Hearing, after_note, fresh, least_in}
use Rattle.reply_frame.specs.declared.replies.Reply.{Nothing}
use Rattle.history_frame.specs.declared.events.Sent.{Sent}
use Rattle.history_frame.specs.declared.inputs.Call.{Call}
use Rattle.history_frame.specs.declared.inputs.Input.{Input}
use Rattle.history_frame.specs.declared.inputs.Input.TheVariants.{Deliver, Call as ACall, Tick, Lead, Stop, Restart}
use Rattle.history_frame.specs.declared.inputs.Mark.{Mark}
use Rattle.log_base.specs.ClusterShape.{Shape}
use Rattle.message_frame.specs.declared.messages.Message.{Message}
use Rattle.message_frame.specs.declared.messages.Message.TheVariants.{Report}
use Rattle.record_frame.specs.declared.values.Lengths.{Lengths}
use Rattle.node_model.specs.Marks.{ChangeOf, Names, NodeOf, OutcomeOf, RoleOf, made_by}
use Rattle.node_model.specs.Messages.{least_message}
use Rattle.node_model.specs.Nodes.{to_orderers}

-- Nothing is stored, so nothing can be put, and a gatherer knows no values.
abbrev pub GathererNode : Type 0
GathererNode = NodeOf (Unit {0}) ⊥ (Unit {0}) Hearing

abbrev pub GathererChange : Type 0
GathererChange = ChangeOf ⊥ Hearing

abbrev pub GathererOutcome : Type 0
GathererOutcome = OutcomeOf (Unit {0}) ⊥ (Unit {0}) Hearing

-- a row
abbrev pub hears : Hearing → List Sent → GathererChange
hears memory outputs = record { put = None; after = memory; outputs = outputs; reply = Nothing }

-- a replica says how much it holds
unfoldable pub on_report : Hearing → ℕ → ℕ → Lengths → GathererChange
on_report memory shard replica lengths = hears (after_note memory shard replica lengths) []

-- the least of a shard, told to every orderer where all its replicas were heard
abbrev pub least_letters : Shape → ℕ → Option Lengths → List Sent
least_letters config shard None = []
least_letters config shard (Some lengths) = to_orderers config (least_message shard lengths)

-- the least of each of so many shards, from one on, that this gatherer serves
abbrev pub leasts : Shape → ℕ → Hearing → ℕ → ℕ → List Sent
leasts config index memory shard zero = []
leasts config index memory shard (suc count) =
    (if shard % config.gatherers == index then least_letters config shard (least_in memory shard) else [])
    ++ leasts config index memory (suc shard) count

unfoldable pub on_tick : Shape → ℕ → Hearing → GathererChange
on_tick config index memory = hears memory (leasts config index memory 0 config.shards)

-- the row of a message; none where the message is not for a gatherer
abbrev pub message_row : Hearing → Message → Option GathererChange
message_row memory (Report shard replica lengths) = Some (on_report memory shard.0 replica.0 lengths)
message_row memory _ = None

-- the row of an input at a running gatherer, which answers no call
abbrev pub row : Shape → ℕ → Hearing → Input → Option GathererChange
row config index memory (Deliver place place_index (Some message)) = message_row memory message
row config index memory (Deliver place place_index None) = None
row config index memory (ACall call) = None
row config index memory Tick = Some (on_tick config index memory)
row config index memory Lead = None
row config index memory Stop = None
row config index memory Restart = None

-- the message for a gatherer
abbrev pub is_message : Message → Bool
is_message (Report shard replica lengths) = true
is_message _ = false

abbrev pub is_call : Call → Bool
is_call call = false

abbrev pub names : Names
names = record { message = is_message; call = is_call; lead = false }

-- the role of a gatherer
abbrev pub gatherer_role : Shape → ℕ → RoleOf (Unit {0}) ⊥ (Unit {0}) Hearing
gatherer_role config index = record {
  names = names;
  has_disks = false;
  stored = λ durable put. durable;
  fresh = fresh index config.replicas config.shards;
  known = λ memory. tt;
  row = λ durable memory input. row config index memory input;
}

-- what an event makes of a gatherer
unfoldable pub outcome : Shape → ℕ → GathererNode → Input → Mark → Option GathererOutcome
outcome config index node input mark = made_by (gatherer_role config index) node input mark
