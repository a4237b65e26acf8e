-- How an event turns out at a storage node.
use Rattle.std.specs.Prelude.{◌≡◌, ◌≤◌, length, List, Bool, if◌then◌else◌, IfSome, Option, Some, None}
use Rattle.std.specs.List.{AllByRecursion}
use Rattle.reply_frame.specs.declared.replies.Reply.{Reply, Nothing}
use Rattle.reply_frame.specs.Replies.{reply_bytes}
use Rattle.history_frame.specs.declared.events.Sent.{Sent}
use Rattle.history_frame.specs.declared.inputs.Input.{Input}
use Rattle.history_frame.specs.declared.inputs.Mark.{Mark}
use Rattle.history_frame.specs.declared.inputs.Input.TheVariants.{Restart}
use Rattle.history_frame.specs.declared.inputs.Mark.TheVariants.{Done, Halted, StayedDown}
use Rattle.node_model.specs.Marks.{Running, Stopped}
use Rattle.node_model.specs.StorageNode.{Put, StorageChange, StorageMode, StorageOutcome}
use Rattle.node_model.specs.StorageRow.{outcome, row}
use Rattle.segment_journal.specs.Journalled.{Turns}
use Rattle.shard_replica.specs.Lists.{medium_at}
use Rattle.history_frame.specs.declared.events.Effect.{Effect}
use Rattle.storage_node.specs.Counting.{CountsOn}
use Rattle.storage_node.specs.Opening.{RoseIn, mark_after}
use Rattle.storage_node.specs.Preparing.{IsLetter}
use Rattle.storage_node.specs.StorageState.{StorageState, config_of, lists_in, member_in, node_of}

-- A row of the rules: with this mark the input makes of the old node the new one, these letters and this reply. It stays the
-- same replica.
pub record IsTurn (old : StorageState) (input : Input) (mark : Mark) (sent : List Sent) (answer : Reply) (new : StorageState) : Type 0 where
  pub made : StorageOutcome
  pub rule : outcome (config_of old) (member_in old) (node_of old) input mark ≡ Some made
  pub node : node_of new ≡ made.node
  pub outputs : sent ≡ made.outputs
  pub reply : answer ≡ made.reply
  pub config : config_of new ≡ config_of old
  pub member : member_in new ≡ member_in old

-- few letters and a short reply
pub record IsSmall (sent : List Sent) (answer : Reply) : Type 0 where
  pub few : length sent ≤ 22
  pub letters : AllByRecursion IsLetter sent
  pub reply : length (reply_bytes answer) ≤ 65558

-- what a row puts
abbrev pub put_by : Option StorageChange → Option Put
put_by None = None
put_by (Some change) = change.put

abbrev pub put_in : StorageState → Input → StorageMode → Option Put
put_in node input (Stopped flight known) = None
put_in node input (Running memory) = put_by (row (config_of node) (member_in node) (lists_in node) memory input)

-- what a node puts at an input
abbrev pub put_at : StorageState → Input → Option Put
put_at node input = put_in node input (node_of node).mode

-- the mark of a put that failed or not
abbrev pub put_mark : Bool → Mark
put_mark failed = if failed then Halted else Done

-- where the journal of a put tells how it turns out, the mark follows
abbrev pub IsTold : StorageState → Mark → Option Put → Type 0
IsTold node mark None = Unit {0}
IsTold node mark (Some put) = IfSome (medium_at node.replica.media put.segment).turns (λ (turn : Turns). mark ≡ put_mark turn.put_fails)

-- How an event turned out: it is a row of the rules, and its mark is the one that its journals tell. A node halts only where a
-- count of faults rose, and none falls.
pub record TurnsOut (old : StorageState) (input : Input) (turn : Effect) (new : StorageState) : Type 0 where
  pub row : IsTurn old input turn.mark turn.outputs turn.reply new
  pub small : IsSmall turn.outputs turn.reply
  pub halted : turn.mark ≡ Halted → RoseIn old.replica.media new.replica.media
  pub counts : CountsOn old.replica.media new.replica.media
  pub told : IsTold old turn.mark (put_at old input)
  pub opened : input ≡ Restart → turn.mark ≡ mark_after old.replica.last_reload old.replica.media
  pub stayed : turn.mark ≡ StayedDown → input ≡ Restart

-- letters go out, and nothing else changes
pub record IsSilent (old : StorageState) (turn : Effect) (new : StorageState) : Type 0 where
  pub mark : turn.mark ≡ Done
  pub reply : turn.reply ≡ Nothing
  pub replica : new.replica ≡ old.replica
  pub mode : new.mode ≡ old.mode
  pub ticks : new.ticks ≡ old.ticks
