-- Within the limits of a run over empty disks there is a slot for the next value at each moment.
use Rattle.std.proofs.Common.{◌≡◌, ◌<◌, ◌≤◌, ◌+◌, ◌&&◌, ℕ, zero, suc, nat_le, Bool, true, false, cond, List, [], length, take, is_some, Option, Some, None, refl, ap, inl, inr, arith, leb-false, ◌∙◌}
use Rattle.std.proofs.lemmas.Bool.{cases_eq, or_parts}
use Rattle.command_frame.specs.declared.items.Item.{Item}
use Rattle.core_step.specs.Known.{known_count}
use Rattle.history_frame.specs.declared.events.Event.{Event}
use Rattle.log_base.specs.ClusterShape.{InRange, Shape}
use Rattle.node_model.specs.NodeState.{NodeState, Storing, Gathering, Ordering, node_after}
use Rattle.node_table.specs.Numbering.{nodes_of, orderer_node}
use Rattle.schedule_model.specs.Driven.{next_turn_after}
use Rattle.quiet_model.specs.Opening.{empty_disks}
use Rattle.quiet_law.specs.Quiet.{HasSlots, known_at}
use Rattle.quiet_run.specs.Limits.{bytes_of, event_limit, is_one_from, is_one_full, known_by, limit_of, value_limit}
use Rattle.quiet_run.specs.Runs.{IsWithinLimits}
use Rattle.quiet_run.specs.Standing.{Job, job}

none_from : (test : ℕ → Bool) (first count number : ℕ) → is_one_from test first count ≡ false → first ≤ number → number < first + count → test number ≡ false
none_from test first zero number none low below = absurd (omega arith)
none_from test first (suc count) number none low below =
    let parts = or_parts (test first) (is_one_from test (suc first) count) none in
    elim (cases_eq number first) [
      | inl same ↦ ap test same ∙ parts.0
      | inr other ↦ none_from test (suc first) count number parts.1 (omega arith) (omega arith)
    ]

none_full : (due full : Bool) (events bytes : ℕ) → limit_of due events full bytes ≡ None → full ≡ false
none_full due false events bytes e = refl
none_full due true events bytes e = by (due && nat_le event_limit events) e
  where
    by : (many : Bool) → cond {A = Option ℕ} many (Some 3) (Some 4) ≡ None → true ≡ false
    by true e = absurd (cc)
    by false e = absurd (cc)

-- at one moment
few_known : (job : Job) (events : List Event) (number : ℕ) → number < nodes_of job.config → is_one_full job events ≡ false → known_by job events number < value_limit
few_known job events number below none =
    leb-false value_limit (known_by job events number)
    (none_from (λ (n : ℕ). nat_le value_limit (known_by job events n)) 0 (nodes_of job.config) number none (omega arith) (omega arith))

known_within : (state : NodeState) → known_at state ≤ known_count state
known_within (Storing node) = omega arith
known_within (Gathering node) = omega arith
known_within (Ordering node) = omega arith

pub has_slots : (config : Shape) (run : ℕ) (items : List Item) (events : List Event) → InRange config → IsWithinLimits (job config run items []) events → HasSlots config events
has_slots config run items events range within count low =
    let first : Job = job config run items [] in
    let here = take count events in
    let full = none_full (is_some (next_turn_after config run items here)) (is_one_full first here) (length here) (bytes_of here) (within count low) in
    let some : 1 ≤ config.orderers = (let odd = range.odd in omega arith) in
    let few = few_known first here (orderer_node config 0) (omega (arith, some)) full in
    let less = known_within (node_after config empty_disks here (orderer_node config 0)) in
    omega (arith, few, less)
