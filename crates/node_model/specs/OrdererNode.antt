-- An orderer: what it holds in memory while it runs, and its durable list of promises and votes.
use Rattle.std.specs.Prelude.{ℕ, ◌*◌, List, [], ◌∷◌, ◌++◌, Option, Some, None}
use Rattle.log_base.specs.ClusterShape.{Shape}
use Rattle.record_frame.specs.declared.values.Lengths.{Lengths}
use Rattle.record_frame.specs.declared.values.Value.{Value}
use Rattle.paxos_model.specs.Leader.{Leader}
use Rattle.paxos_model.specs.Learner.{Wish, nothing_heard}
use Rattle.paxos_model.specs.Votes.{Payload}
use Rattle.node_model.specs.Marks.{ChangeOf, Mode as ModeOf, NodeOf, OutcomeOf, Running, Stopped}

-- what a running orderer holds: the known values, the lengths that it heard of, the wishes, how many ticks it
-- had, and what it knows as a leader
pub record Orderer : Type 0 where
  pub known : List Value
  pub heard : Lengths
  pub wishes : List Wish
  pub ticks : ℕ
  pub leader : Option Leader

-- an orderer that has just started
abbrev pub fresh : Shape → Orderer
fresh shape = record { known = []; heard = nothing_heard (shape.shards * shape.replicas); wishes = []; ticks = 0; leader = None }

-- its modes, its nodes, its rows and what its events make
abbrev pub Mode : Type 0
Mode = ModeOf Payload (List Value) Orderer

abbrev pub Node : Type 0
Node = NodeOf (List Payload) Payload (List Value) Orderer

abbrev pub Change : Type 0
Change = ChangeOf Payload Orderer

abbrev pub Outcome : Type 0
Outcome = OutcomeOf (List Payload) Payload (List Value) Orderer

-- the values that an orderer knows
abbrev pub known_of : Mode → List Value
known_of (Stopped flight known) = known
known_of (Running orderer) = orderer.known

-- an orderer at first, with what its disk kept: it is down
abbrev pub at_first : List Payload → Node
at_first kept = record { durable = kept; mode = Stopped None [] }

-- the list after a payload is put, if one is
abbrev pub with_put : List Payload → Option Payload → List Payload
with_put list None = list
with_put list (Some payload) = list ++ payload ∷ []
