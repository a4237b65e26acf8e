-- What is answered to an offered event.
use Rattle.std.proofs.Common.{◌≡◌, ◌≤◌, ℕ, List, [], ◌∷◌, ◌++◌, length, Some, None, sym, subst, arith}
use Rattle.history_frame.specs.declared.events.Event.{Event}
use Rattle.history_frame.specs.declared.inputs.Input.{Input}
use Rattle.log_base.specs.Shape.{shape}
use Rattle.log_base.specs.declared.cluster_shape.Config.{Config}
use Rattle.node_table.specs.Numbering.{nodes_of}
use Rattle.node_model.specs.Legal.{IsNext}
use Rattle.node_model.specs.NodeState.{KeptLists}
use Rattle.history_walk.specs.Filling.{IsFilled, filled_event, filled_input}
use Rattle.history_walk.specs.Submitting.{MaySubmit}
use Rattle.history_walk.specs.Walking.{IsAnswer, IsTaken, MayTake, StandsAfter, event_of}
use Rattle.history_walk.specs.declared.walker.Following.{Following}
use Rattle.history_walk.specs.declared.walker.Following.TheVariants.{Follows, Breaks}
use Rattle.history_walk.specs.declared.walker.Walker.{Walker}
use Rattle.history_walk.proofs.Offered.{next_offered}

-- an event and the one of its parts
module _ (walker : Walker) (kept : KeptLists) (events : List Event) (event : Event) where
  abbrev of_parts : Input → Event
  of_parts input = event_of events event.node.0 input event.happened.mark event.happened.outputs event.happened.reply

  parts_are : (input : Input) → event.place ≡ length events → input ≡ filled_input events event.happened.input → filled_event events event ≡ of_parts input
  parts_are input at is = λ i. record {
    place = at i;
    node = record { 0 = event.node.0 };
    happened = record { input = sym is i; mark = event.happened.mark; outputs = event.happened.outputs; reply = event.happened.reply };
  }

  -- there is no such node
  pub no_node : nodes_of (shape walker.config) ≤ event.node.0 → IsNext (shape walker.config) walker.run kept events (filled_event events event) → ⊥
  no_node low next = let lt = next.node in omega (arith, low, lt)

  -- the input may not be handed to it
  pub not_offered : StandsAfter walker kept events → IsFilled (shape walker.config) event.node.0 events event.happened.input None
      → IsNext (shape walker.config) walker.run kept events (filled_event events event) → ⊥
  not_offered stands none next =
      none (next_offered (shape walker.config) walker.run kept events stands.legal event.node.0 (filled_input events event.happened.input) next.allowed next.delivered)

  -- it submits what may not be submitted
  pub not_submitted : (input : Input) → event.place ≡ length events → input ≡ filled_input events event.happened.input → (MaySubmit walker.run events (of_parts input) → ⊥)
      → IsNext (shape walker.config) walker.run kept events (filled_event events event) → ⊥
  not_submitted input at is none next =
      let same = subst (IsNext (shape walker.config) walker.run kept events) (parts_are input at is) next in
      none (same.of_run, same.one_node)

  pub taken_answers : (new : Walker) (input : Input) (following : Following) → event.place ≡ length events → input ≡ filled_input events event.happened.input
      → IsTaken walker new kept events event.node.0 input event.happened.mark event.happened.outputs event.happened.reply following → IsAnswer walker new kept events event following
  taken_answers new input Follows at is taken =
      subst (λ (e : Event). IsNext (shape walker.config) walker.run kept events e × StandsAfter new kept (events ++ e ∷ [])) (sym (parts_are input at is)) taken
  taken_answers new input Breaks at is taken =
      λ next. taken (subst (IsNext (shape walker.config) walker.run kept events) (parts_are input at is) next)

  -- the walker may take it
  pub may_take : (input : Input) → StandsAfter walker kept events → IsFilled (shape walker.config) event.node.0 events event.happened.input (Some input)
      → MaySubmit walker.run events (of_parts input) → MayTake walker kept events event.node.0 input
  may_take input stands found may = record { stands = stands; offered = found.1; submits = λ mark outputs reply. may }

-- an answer speaks of the config and the run of the walker alone
pub answer_same : (one other new : Walker) (kept : KeptLists) (events : List Event) (event : Event) (following : Following) → one.config ≡ other.config → one.run ≡ other.run
    → IsAnswer one new kept events event following → IsAnswer other new kept events event following
answer_same one other new kept events event Follows c r answer =
    (subst (λ (x : Config × ℕ). IsNext (shape x.0) x.1 kept events (filled_event events event)) (λ i. (c i, r i)) answer.0, answer.1)
answer_same one other new kept events event Breaks c r answer =
    λ next. answer (subst (λ (x : Config × ℕ). IsNext (shape x.0) x.1 kept events (filled_event events event)) (λ i. (sym c i, sym r i)) next)
