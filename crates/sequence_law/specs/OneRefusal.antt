-- The history of one append goes on. A second record is stored, and its shard is finalised before a cut covers it. Then a
-- client asks where each of them stands, submits a third one, and reads the first.
use Rattle.std.specs.Prelude.{◌+◌, ◌^◌, List, [], ◌∷◌, ◌++◌}
use Rattle.reply_frame.specs.declared.replies.Reply.{At, Finalised as Closed, FinalisedAt, Found, Stored, Taken}
use Rattle.history_frame.specs.declared.events.Event.{Event}
use Rattle.history_frame.specs.declared.inputs.Call.TheVariants.{Ask, Read, Request, Submit}
use Rattle.record_frame.specs.declared.entries.Entry.{Entry}
use Rattle.record_frame.specs.declared.values.Value.{Value}
use Rattle.record_frame.specs.declared.values.Value.TheVariants.{Finalise}
use Rattle.record_frame.specs.Entries.{entry_of}
use Rattle.node_model.specs.Durable.{durable}
use Rattle.node_model.specs.NodeState.{KeptLists}
use Rattle.node_model.specs.Messages.{accept_message, accepted_message, decide_message}
use Rattle.node_model.specs.Nodes.{letter}
use Rattle.node_model.specs.OneAppend.{addition, append, calls, one_of_each, opening, record_a, takes, ticks_at}

-- two records of client 8, and the value
abbrev pub record_b : Entry
record_b = entry_of (record { 0 = 8 }) (record { 0 = 2 ^ 32 }) (98 ∷ [])

abbrev pub record_c : Entry
record_c = entry_of (record { 0 = 8 }) (record { 0 = 2 ^ 32 + 1 }) (99 ∷ [])

abbrev pub final : Value
final = Finalise (record { 0 = 0 })

-- the second record is stored, and the shard is finalised
abbrev pub finalisation : List Event
finalisation =
    calls 20 0 (Submit record_b.client record_b.number record_b.bytes) (Stored 1)
    ∷ calls 21 2 (Request (record { 0 = 0 }) final) (Taken 2)
    ∷ ticks_at 22 2 (letter 2 (accept_message 1 2 final) ∷ [])
    ∷ takes 23 2 22 (accept_message 1 2 final) (letter 2 (accepted_message 1 2 0) ∷ [])
    ∷ takes 24 2 23 (accepted_message 1 2 0) (letter 0 (decide_message 2 final) ∷ [])
    ∷ takes 25 0 24 (decide_message 2 final) []
    ∷ []

-- what the clients are told
abbrev pub replies : List Event
replies =
    calls 26 0 (Ask record_a.client record_a.number) (At (record { 0 = 0 }))
    ∷ calls 27 0 (Ask record_b.client record_b.number) (FinalisedAt 1)
    ∷ calls 28 0 (Submit record_c.client record_c.number record_c.bytes) Closed
    ∷ calls 29 0 (Read (record { 0 = 8 }) (record { 0 = 0 })) (Found (record { 0 = 0 }) record_a)
    ∷ []

abbrev pub one_refusal : List Event
one_refusal = (opening ++ addition ++ append) ++ (finalisation ++ replies)

-- what its disks keep: their durable lists
abbrev pub kept_after : KeptLists
kept_after = durable one_of_each (λ disk. []) one_refusal
