-- The inputs that the schedule makes by itself are those of the cluster's nodes.
use Rattle.std.proofs.Common.{◌≡◌, ℕ, ◌+◌, ◌*◌, ◌-◌, ◌/◌, ◌%◌, ◌<◌, ◌≤◌, false, nat_lt, List, [], length, get_or, Option, Some, None, refl, arith}
use Rattle.std.specs.List.{AllByRecursion}
use Rattle.std.proofs.lemmas.Bool.{lt-ltb}
use Rattle.std.proofs.lemmas.Bool.Decides.{nat_tests}
use Rattle.log_base.specs.ClusterShape.{InRange, Shape}
use Rattle.log_base.specs.Wide.{IsBytes}
use Rattle.log_base.specs.declared.numbers.NodeId.{NodeId}
use Rattle.log_base.specs.declared.numbers.Replica.{Replica}
use Rattle.log_base.specs.declared.numbers.Shard.{Shard}
use Rattle.record_frame.specs.declared.values.Value.{Value}
use Rattle.record_frame.specs.Entries.{IsEntry, entry_of}
use Rattle.record_frame.specs.Values.{IsValue}
use Rattle.command_frame.specs.Items.{IsItem}
use Rattle.history_frame.specs.declared.inputs.Call.{Call}
use Rattle.history_frame.specs.declared.inputs.Call.TheVariants.{Submit, Ask, Read as ReadCall, Request, Settled}
use Rattle.history_frame.specs.declared.inputs.Input.TheVariants.{Call as ACall, Lead as LeadInput}
use Rattle.node_table.specs.declared.role.Role.{Role}
use Rattle.node_table.specs.declared.role.Role.TheVariants.{Storage, Orderer}
use Rattle.node_table.specs.Numbering.{nodes_of, role_at}
use Rattle.node_model.specs.Fits.{IsInput, IsRequested, IsValueOf}
use Rattle.schedule_model.specs.declared.duties.Awaited.{Awaited}
use Rattle.schedule_model.specs.declared.duties.Awaited.TheVariants.{Storing, Requesting, Reading, Streaming, StreamingOn, Last, Held, Again}
use Rattle.schedule_model.specs.declared.duties.Duty.{Duty}
use Rattle.schedule_model.specs.declared.duties.PutOff.{PutOff}
use Rattle.schedule_model.specs.declared.duties.Question.{Question}
use Rattle.schedule_model.specs.declared.duties.Question.TheVariants as question
use Rattle.schedule_model.specs.declared.duties.Duty.TheVariants.{Give, DeliverAll, DeliverOne, MakeCall}
use Rattle.schedule_model.specs.declared.duties.Signal.{Signal}
use Rattle.schedule_model.specs.declared.duties.Signal.TheVariants.{Restart, Lead, Tick, Stop}
use Rattle.schedule_model.specs.Calling.{IsAllowed, IsPlanned}
use Rattle.schedule_model.specs.Duties.{signal_input}
use Rattle.schedule_model.specs.Holding.{questions_of}
use Rattle.schedule_model.specs.Streams.{IsSubscription}
use Rattle.schedule_model.specs.Scheduling.{Scheduled}

-- ---- what is permitted

-- a storage node, and an orderer
abbrev pub IsStorageNode : Shape → ℕ → Type 0
IsStorageNode config node = node < config.replicas * config.shards

abbrev pub IsOrdererNode : Shape → ℕ → Type 0
IsOrdererNode config node = (config.replicas * config.shards + config.gatherers ≤ node) × (node < nodes_of config)

-- a value that may be requested
pub record IsWish (config : Shape) (value : Value) : Type 0 where
  pub requested : IsRequested value
  pub valid : IsValue value
  pub of_config : IsValueOf config value

-- calls at their nodes
abbrev pub IsCallAt : Shape → ℕ → Call → Type 0
IsCallAt config node (Submit client number bytes) = IsStorageNode config node × IsEntry (entry_of client number bytes)
IsCallAt config node (Ask client number) = IsStorageNode config node
IsCallAt config node (ReadCall client position) = IsStorageNode config node
IsCallAt config node (Request client value) = IsOrdererNode config node × IsWish config value
IsCallAt config node (Settled client value start) = IsOrdererNode config node × IsWish config value

-- questions to their nodes
abbrev pub IsAskedAt : Shape → Question → Type 0
IsAskedAt config (question.Append primary client number) = IsStorageNode config primary.0
IsAskedAt config (question.Wish orderer client value start) = (orderer < config.orderers) × IsWish config value

abbrev pub IsLateAt : Shape → PutOff → Type 0
IsLateAt config late = IsAskedAt config late.question

abbrev pub IsHeldAt : Shape → Option (List PutOff) → Type 0
IsHeldAt config hold = AllByRecursion (IsLateAt config) (questions_of hold)

-- what is awaited leads to calls at their nodes
abbrev pub IsAnswerOf : Shape → Awaited → Type 0
IsAnswerOf config (Storing primary client number) = IsStorageNode config primary.0
IsAnswerOf config (Requesting orderer client value) = (orderer < config.orderers) × IsWish config value
IsAnswerOf config (Reading replica client position) = replica.0 < config.replicas
IsAnswerOf config (Streaming s) = IsSubscription config s
IsAnswerOf config (StreamingOn s) = IsSubscription config s
IsAnswerOf config Last = Unit {0}
IsAnswerOf config (Held asked) = IsAskedAt config asked
IsAnswerOf config (Again item) = Unit {0}

abbrev pub IsAnswerOrNone : Shape → Option Awaited → Type 0
IsAnswerOrNone config None = Unit {0}
IsAnswerOrNone config (Some awaited) = IsAnswerOf config awaited

-- only orderers lead
abbrev pub IsSignalFor : Shape → ℕ → Signal → Type 0
IsSignalFor config first Restart = Unit {0}
IsSignalFor config first Lead = config.replicas * config.shards + config.gatherers ≤ first
IsSignalFor config first Tick = Unit {0}
IsSignalFor config first Stop = Unit {0}

abbrev pub IsPermitted : Shape → Duty → Type 0
IsPermitted config (Give signal first count) = (first.0 + count ≤ nodes_of config) × IsSignalFor config first.0 signal
IsPermitted config DeliverAll = Unit {0}
IsPermitted config (DeliverOne letter afterwards) = Unit {0}
IsPermitted config (MakeCall node call awaited) = IsCallAt config node.0 call × IsAnswerOf config awaited

-- the numbers that lanes draw leave room for the items that are left
abbrev pub HaveRoom : List ℕ → ℕ → Type 0
HaveRoom draws count = (lane : ℕ) → get_or draws lane 0 + count ≤ 65536

-- a primary is a storage node
abbrev pub IsPrimaryOr : Shape → Option NodeId → Type 0
IsPrimaryOr config None = Unit {0}
IsPrimaryOr config (Some primary) = IsStorageNode config primary.0

abbrev pub ArePrimaries : Shape → List (Option NodeId) → Type 0
ArePrimaries config primaries = (lane : ℕ) → IsPrimaryOr config (get_or primaries lane None)

-- the record of an append
abbrev pub IsRecord : List ℕ → Type 0
IsRecord bytes = (length bytes ≤ 65535) × IsBytes bytes

abbrev pub AreRecords : List (List ℕ) → Type 0
AreRecords records = (lane : ℕ) → IsRecord (get_or records lane [])

-- all of a schedule is permitted
pub record AllPermitted (s : Scheduled) : Type 0 where
  pub range : InRange s.config
  pub run_fits : s.run ≤ 1000000
  pub items : AllByRecursion (IsItem s.config) s.items
  pub duties : AllByRecursion (IsPermitted s.config) s.duties
  pub answer : IsAnswerOrNone s.config s.awaited
  pub lanes : length s.draws ≡ 64
  pub room : HaveRoom s.draws (length s.items)
  pub kept : length s.primaries ≡ 64
  pub primaries : ArePrimaries s.config s.primaries
  pub recorded : length s.records ≡ 64
  pub records : AreRecords s.records
  pub questions : IsHeldAt s.config s.hold
  pub plans : AllByRecursion (IsPlanned s.config) s.plans

-- ---- roles

pub storage_role : (config : Shape) (node : ℕ) (P : Role → Type 0) → IsStorageNode config node
    → P (Storage (record { 0 = node / config.replicas }) (record { 0 = node % config.replicas })) → P (role_at config node)
storage_role config node P h there = rw (lt-ltb node (config.replicas * config.shards) h) there

not_below : (n m : ℕ) → m ≤ n → nat_lt n m ≡ false
not_below n m h = grind (arith, nat_tests)

pub orderer_role : (config : Shape) (node : ℕ) (P : Role → Type 0) → config.replicas * config.shards + config.gatherers ≤ node
    → P (Orderer (node - (config.replicas * config.shards + config.gatherers))) → P (role_at config node)
orderer_role config node P h there =
    rw (not_below node (config.replicas * config.shards) (omega arith), not_below node (config.replicas * config.shards + config.gatherers) h) there

-- a call at its node is an input of that node
storage_call : (config : Shape) (node : ℕ) (call : Call) → IsStorageNode config node
    → ((shard : Shard) (replica : Replica) → IsInput config (Storage shard replica) (ACall call)) → IsAllowed config (record { node = record { 0 = node }; input = ACall call })
storage_call config node call h there = record {
  node = omega arith;
  input = storage_role config node (λ role. IsInput config role (ACall call)) h (there _ _);
}

orderer_call : (config : Shape) (node : ℕ) (call : Call) → IsOrdererNode config node
    → ((index : ℕ) → IsInput config (Orderer index) (ACall call)) → IsAllowed config (record { node = record { 0 = node }; input = ACall call })
orderer_call config node call h there = record {
  node = h.1;
  input = orderer_role config node (λ role. IsInput config role (ACall call)) h.0 (there _);
}

pub call_allowed : (config : Shape) (node : ℕ) (call : Call) → IsCallAt config node call → IsAllowed config (record { node = record { 0 = node }; input = ACall call })
call_allowed config node (Submit client number bytes) h =
    storage_call config node (Submit client number bytes) h.0 (λ shard replica. record { named = refl; range = h.1 })
call_allowed config node (Ask client number) h = storage_call config node (Ask client number) h (λ shard replica. record { named = refl; range = tt })
call_allowed config node (ReadCall client position) h = storage_call config node (ReadCall client position) h (λ shard replica. record { named = refl; range = tt })
call_allowed config node (Request client value) h =
    orderer_call config node (Request client value) h.0 (λ index. record { named = refl; range = (h.1.requested, h.1.valid, h.1.of_config) })
call_allowed config node (Settled client value start) h =
    orderer_call config node (Settled client value start) h.0 (λ index. record { named = refl; range = h.1.valid })

pub signal_allowed : (config : Shape) (first : NodeId) (signal : Signal) → first.0 < nodes_of config → IsSignalFor config first.0 signal
    → IsAllowed config (record { node = first; input = signal_input signal })
signal_allowed config first Restart h led = record { node = h; input = record { named = refl; range = tt } }
signal_allowed config first Lead h led = record {
  node = h;
  input = orderer_role config first.0 (λ role. IsInput config role LeadInput) led (record { named = refl; range = tt });
}
signal_allowed config first Tick h led = record { node = h; input = record { named = refl; range = tt } }
signal_allowed config first Stop h led = record { node = h; input = record { named = refl; range = tt } }
