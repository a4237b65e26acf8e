-- What is due: signals to nodes, letters to deliver, and calls whose answers are awaited.
use Rattle.std.specs.Prelude.{ℕ, ◌*◌, List, [], ◌∷◌}
use Rattle.log_base.specs.ClusterShape.{Shape}
use Rattle.history_frame.specs.declared.inputs.Input.{Input}
use Rattle.history_frame.specs.declared.inputs.Input.TheVariants.{Tick as TickInput, Lead as LeadInput, Stop as StopInput, Restart as RestartInput}
use Rattle.node_table.specs.Numbering.{gatherer_node, nodes_of, orderer_node}
use Rattle.schedule_model.specs.declared.duties.Signal.{Signal}
use Rattle.schedule_model.specs.declared.duties.Signal.TheVariants.{Restart, Lead, Tick, Stop}
use Rattle.schedule_model.specs.declared.duties.Duty.{Duty}
use Rattle.schedule_model.specs.declared.duties.Duty.TheVariants.{Give, DeliverAll}

-- a signal as an input
abbrev pub signal_input : Signal → Input
signal_input Restart = RestartInput
signal_input Lead = LeadInput
signal_input Tick = TickInput
signal_input Stop = StopInput

-- a signal to so many nodes from one on, in order
abbrev pub give : Signal → ℕ → ℕ → Duty
give signal first count = Give signal (record { 0 = first }) count

-- The opening: each node restarts, orderer 0 is to lead, and all letters are delivered.
abbrev pub opening : Shape → List Duty
opening config =
    give Restart 0 (nodes_of config)
    ∷ give Lead (orderer_node config 0) 1
    ∷ DeliverAll
    ∷ []

-- Settling: the storage nodes tick, then the gatherers, then the orderers, then the storage nodes again, and after each of
-- these rounds all letters are delivered.
abbrev pub settling : Shape → List Duty
settling config =
    give Tick 0 (config.replicas * config.shards)
    ∷ DeliverAll
    ∷ give Tick (gatherer_node config 0) config.gatherers
    ∷ DeliverAll
    ∷ give Tick (orderer_node config 0) config.orderers
    ∷ DeliverAll
    ∷ give Tick 0 (config.replicas * config.shards)
    ∷ DeliverAll
    ∷ []
