-- Legal histories: a config, a run number, what the disks kept before, and events, each of which follows from those
-- before it.
use Rattle.std.specs.Prelude.{◌≡◌, ℕ, ◌/◌, ◌^◌, ◌<◌, List, [], ◌∷◌, ◌++◌, length, Option, Some, None}
use Rattle.std.specs.List.{AllByRecursion}
use Rattle.history_frame.specs.declared.events.Event.{Event}
use Rattle.history_frame.specs.declared.events.History.{History}
use Rattle.history_frame.specs.declared.inputs.Call.TheVariants.{Submit}
use Rattle.history_frame.specs.declared.inputs.Input.{Input}
use Rattle.history_frame.specs.declared.inputs.Input.TheVariants.{Call as ACall}
use Rattle.log_base.specs.ClusterShape.{InRange, Shape}
use Rattle.log_base.specs.Shape.{shape}
use Rattle.node_table.specs.Numbering.{nodes_of, role_at}
use Rattle.record_frame.specs.declared.entries.Entry.{Entry}
use Rattle.record_frame.specs.Entries.{entry_of}
use Rattle.node_model.specs.Fits.{IsInput}
use Rattle.node_model.specs.Histories.{IsDelivered}
use Rattle.node_model.specs.NodeState.{IsRow, KeptLists, node_after}
use Rattle.node_model.specs.Sound.{IsSound, payloads_on}

-- the entry that an input submits
abbrev pub submitted : Input → Option Entry
submitted (ACall (Submit client number bytes)) = Some (entry_of client number bytes)
submitted _ = None

-- numbers of submissions are of the run
abbrev pub IsOfRun : ℕ → Input → Type 0
IsOfRun run input = (entry : Entry) → submitted input ≡ Some entry → entry.number.0 / 2 ^ 32 ≡ run

-- two submissions of one pair of client and number go to one node, with equal bytes
abbrev pub AgreesWith : Event → Event → Type 0
AgreesWith event earlier = (one other : Entry) → submitted event.happened.input ≡ Some one → submitted earlier.happened.input ≡ Some other
    → one.client ≡ other.client → one.number ≡ other.number → (event.node ≡ earlier.node) × (one.bytes ≡ other.bytes)

-- an event that may come after others
pub record IsNext (config : Shape) (run : ℕ) (kept : KeptLists) (before : List Event) (event : Event) : Type 0 where
  pub place : event.place ≡ length before
  pub node : event.node.0 < nodes_of config
  pub allowed : IsInput config (role_at config event.node.0) event.happened.input
  pub row : IsRow config event.node.0 (node_after config kept before event.node.0) event.happened
  pub delivered : IsDelivered before event.node.0 event.happened.input
  pub of_run : IsOfRun run event.happened.input
  pub one_node : AllByRecursion (AgreesWith event) before

-- each of some events may come after those before it
abbrev pub AreNext : Shape → ℕ → KeptLists → List Event → List Event → Type 0
AreNext config run kept before [] = Unit {0}
AreNext config run kept before (event ∷ events) =
    IsNext config run kept before event × AreNext config run kept (before ++ event ∷ []) events

-- a history is legal
pub record IsLegal (config : Shape) (run : ℕ) (kept : KeptLists) (events : List Event) : Type 0 where
  pub config_in_range : InRange config
  pub sound : IsSound config run kept
  pub follow : AreNext config run kept [] events

-- a history as it is written is legal
abbrev pub IsLawful : History → Type 0
IsLawful history = IsLegal (shape history.config) history.run (payloads_on history.kept) history.events
