-- Pairs of client and number: which entries have one, which events submit one, and where one stands.
use Rattle.std.specs.Prelude.{◌≡◌, ◌⊎◌, ℕ, ◌*◌, ◌^◌, ◌<◌, List, [], ◌∷◌, ◌++◌, Some, slice_get}
use Rattle.history_frame.specs.declared.events.Event.{Event}
use Rattle.log_base.specs.ClusterShape.{Shape}
use Rattle.node_table.specs.Numbering.{storage_node}
use Rattle.record_frame.specs.declared.entries.Entry.{Entry}
use Rattle.node_model.specs.Legal.{submitted}
use Rattle.node_model.specs.NodeState.{KeptLists}
use Rattle.node_model.specs.Sequence.{primary_list, segment_list, sequence}
use Rattle.agreement_law.specs.Elements.{In}
use Rattle.safety_law.specs.Lists.{IsSegment}

-- an entry has this client and number
abbrev pub IsPair : ℕ → ℕ → Entry → Type 0
IsPair client number entry = (entry.client.0 ≡ client) × (entry.number.0 ≡ number)

-- an event submits an entry with this client and number
pub record Submits (client number : ℕ) (event : Event) (entry : Entry) : Type 0 where
  pub input : submitted event.happened.input ≡ Some entry
  pub pair : IsPair client number entry

-- none of some events submits the pair
abbrev pub AreWithout : ℕ → ℕ → List Event → Type 0
AreWithout client number events = (event : Event) (entry : Entry) → In event events → Submits client number event entry → ⊥

-- some events, up to the first one that submits the pair
pub record IsUpToFirst (client number : ℕ) (events before : List Event) : Type 0 where
  pub first : Event
  pub more : List Event
  pub parts : before ++ first ∷ more ≡ events
  pub entry : Entry
  pub submits : Submits client number first entry
  pub none : AreWithout client number before

-- the pair stands in the sequence at a position, in an entry
pub record Stands (config : Shape) (kept : KeptLists) (events : List Event) (client number position : ℕ) (entry : Entry) : Type 0 where
  pub at : slice_get (sequence config kept events) position ≡ Some (Some entry)
  pub pair : IsPair client number entry

-- an entry was submitted to a node
pub record IsSubmittedTo (events : List Event) (node : ℕ) (entry : Entry) : Type 0 where
  pub event : Event
  pub among : In event events
  pub here : event.node.0 ≡ node
  pub input : submitted event.happened.input ≡ Some entry

-- an entry of a primary's list has a number of an earlier run, or was submitted to that primary
abbrev pub EntriesAreSubmitted : Shape → ℕ → KeptLists → List Event → Type 0
EntriesAreSubmitted config run kept events = (shard segment offset : ℕ) (entry : Entry) → shard < config.shards → segment < config.replicas
    → slice_get (primary_list config kept events shard segment) offset ≡ Some entry
    → (entry.number.0 < run * 2 ^ 32) ⊎ IsSubmittedTo events (storage_node config shard segment) entry

-- a pair stands in at most one primary's list, once
abbrev pub PairsStandOnce : Shape → KeptLists → List Event → Type 0
PairsStandOnce config kept events =
    (client number shard segment offset other_shard other_segment other_offset : ℕ) (entry other : Entry)
    → IsSegment config shard segment segment → IsSegment config other_shard other_segment other_segment
    → slice_get (primary_list config kept events shard segment) offset ≡ Some entry
    → slice_get (primary_list config kept events other_shard other_segment) other_offset ≡ Some other
    → IsPair client number entry → IsPair client number other
    → (shard ≡ other_shard) × (segment ≡ other_segment) × (offset ≡ other_offset)

-- before the first event the entries have numbers of earlier runs
abbrev pub NumbersAreBelow : Shape → ℕ → KeptLists → Type 0
NumbersAreBelow config run kept = (shard replica segment offset : ℕ) (entry : Entry) → IsSegment config shard replica segment
    → slice_get (segment_list config kept [] shard replica segment) offset ≡ Some entry → entry.number.0 < run * 2 ^ 32
