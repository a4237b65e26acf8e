-- A node that counts the events which show a failure of its disks.
use Rattle.std.specs.Prelude.{◌≡◌, ℕ, ◌+◌, ◌-◌, ◌^◌, min, Bool, true, false, List, map, length, Option, Some}
use Rattle.std.specs.List.{filter}
use Rattle.core_step.specs.Disks.{start_mark}
use Rattle.core_step.specs.Standing.{IsReadyFor, Standing, cluster_node}
use Rattle.history_frame.specs.declared.events.Happened.{Happened}
use Rattle.history_frame.specs.declared.inputs.Input.{Input}
use Rattle.history_frame.specs.declared.inputs.Input.TheVariants.{Restart}
use Rattle.history_frame.specs.declared.inputs.Mark.{Mark}
use Rattle.history_frame.specs.declared.inputs.Mark.TheVariants.{Done, Halted, OpenedWithout, OpenedWith, StayedDown}
use Rattle.log_base.specs.Machines.{Meanings}
use Rattle.log_base.specs.Outgoing.{Outgoing}
use Rattle.node_model.specs.Machine.{ClusterNode, node_meanings}
use Rattle.segment_journal.specs.Journalled.{Journalled, Turns}
use Rattle.shard_replica.specs.Lists.{Medium}
use Rattle.storage_node.specs.Counting.{CountsOn}
use Rattle.counted_node.specs.Causes.{AllKeep, IsCounted, journals_at, node_media, shows_failure}

-- A node as contracts see it, with what was told of its journals at first, how many of its events halted and how many stayed down.
pub record Counted (J P : Type 0) : Type 0 where
  pub node : Standing J P
  pub first : List Medium
  pub halted : ℕ
  pub stayed : ℕ

-- the same with its state in the rules
pub record CountedState : Type 0 where
  pub node : ClusterNode
  pub first : List Medium
  pub halted : ℕ
  pub stayed : ℕ

abbrev pub counted_node : {J P : Type 0} → (J → Journalled) → Counted J P → CountedState
counted_node journalled counted = record {
  node = cluster_node journalled counted.node;
  first = counted.first;
  halted = counted.halted;
  stayed = counted.stayed;
}

abbrev pub node_in : CountedState → ClusterNode
node_in state = state.node

abbrev pub first_in : CountedState → List Medium
first_in state = state.first

-- a node of which nothing is counted yet
abbrev pub not_counted : {J P : Type 0} → List Medium → Standing J P → Counted J P
not_counted media node = record { node = node; first = media; halted = 0; stayed = 0 }

abbrev pub state_not_counted : List Medium → ClusterNode → CountedState
state_not_counted media node = record { node = node; first = media; halted = 0; stayed = 0 }

-- ---- counts

-- one more, up to the last number
abbrev pub one_more : ℕ → ℕ
one_more count = min (count + 1) (2 ^ 64 - 1)

-- the counts after an event with a mark
abbrev pub halted_after : ℕ → Mark → ℕ
halted_after count Done = count
halted_after count Halted = one_more count
halted_after count OpenedWithout = count
halted_after count OpenedWith = count
halted_after count StayedDown = count

abbrev pub stayed_after : ℕ → Mark → ℕ
stayed_after count Done = count
stayed_after count Halted = count
stayed_after count OpenedWithout = count
stayed_after count OpenedWith = count
stayed_after count StayedDown = one_more count

-- how many of these events of one node show a failure
abbrev pub shown_in : Bool → List Happened → ℕ
shown_in keeps events = length (filter (λ (happened : Happened). shows_failure keeps happened.mark) events)

-- So many events halted and so many stayed down, and the counts of the first journals rose as often: where what they keep stays for both,
-- and else for those that halted.
pub record AreCounted (count : ℕ) (old new : List Medium) (halts stays : ℕ) : Type 0 where
  pub counts : CountsOn old new
  pub halted : IsCounted old new count halts
  pub failed : AllKeep old count → IsCounted old new count (halts + stays)

-- the same of events of one node
pub record AreCaused (count : ℕ) (old new : List Medium) (events : List Happened) : Type 0 where
  pub counts : CountsOn old new
  pub halted : IsCounted old new count (shown_in false events)
  pub failed : AllKeep old count → IsCounted old new count (shown_in true events)

-- ---- as a machine

-- the meanings of a node that counts: those of the node, and each event is counted
abbrev pub counted_meanings : Meanings CountedState Input Happened
counted_meanings = record {
  fits = λ state input. node_meanings.fits state.node input;
  input = λ happened. happened.input;
  outputs = λ happened. node_meanings.outputs happened;
  is_row = λ state happened. node_meanings.is_row state.node happened;
  after = λ state happened. record {
    node = node_meanings.after state.node happened;
    first = state.first;
    halted = halted_after state.halted happened.mark;
    stayed = stayed_after state.stayed happened.mark;
  };
  delivers = λ input. node_meanings.delivers input;
  size = λ happened. node_meanings.size happened;
  is_sound = λ states. node_meanings.is_sound (map node_in states);
}

-- The node has the memory for an event. Where its journals were read so that it stays down, and what they keep stays, a count rose
-- for that already.
pub record IsReadyToCount {J P : Type 0} (state : J → Journalled) (faults : J → ℕ) (keeps_synced : J → Bool) (turns : J → Option Turns)
    (counted : Counted J P) (input : Input) (out : Outgoing) : Type 0 where
  pub ready : IsReadyFor state counted.node.part input out
  pub rose : input ≡ Restart → start_mark state counted.node.part ≡ Some StayedDown → AllKeep counted.first (journals_at counted.node.config counted.node.number)
      → IsCounted counted.first (node_media state faults keeps_synced turns counted.node) (journals_at counted.node.config counted.node.number) (counted.halted + counted.stayed + 1)
