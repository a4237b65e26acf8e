-- A history is shown legal event by event, by computing its rows.
use Rattle.std.proofs.Common.{◌≡◌, ℕ, ◌<◌, Bool, true, ◌&&◌, List, [], ◌∷◌, length, Option, Some, None, is_some, is_none, refl}
use Rattle.std.proofs.lemmas.Bool.{and_parts}
use Rattle.std.specs.List.{AllByRecursion}
use Rattle.reply_frame.specs.declared.replies.Reply.{Nothing}
use Rattle.history_frame.specs.declared.events.Event.{Event}
use Rattle.log_base.specs.ClusterShape.{Shape}
use Rattle.node_table.specs.Numbering.{nodes_of, role_at}
use Rattle.node_model.specs.Fits.{HasRange, names_of}
use Rattle.node_model.specs.Histories.{IsDelivered}
use Rattle.node_model.specs.Legal.{AgreesWith, IsNext, IsOfRun, submitted}
use Rattle.node_model.specs.Marks.{is_named}
use Rattle.node_model.specs.NodeState.{IsRow, KeptLists, NodeOutcome, NodeState, node_after, node_outcome}

-- an event of which nothing is to be looked at but what its row computes
pub record IsComputed (config : Shape) (kept : KeptLists) (before : List Event) (event : Event) : Type 0 where
  pub place : event.place ≡ length before
  pub node : event.node.0 < nodes_of config
  pub named : is_named (names_of (role_at config event.node.0)) event.happened.input ≡ true
  pub range : HasRange config event.happened.input
  pub row : IsRow config event.node.0 (node_after config kept before event.node.0) event.happened
  pub delivered : IsDelivered before event.node.0 event.happened.input

-- the outcome is what computing it gives
abbrev made_in : NodeState → Option NodeOutcome → NodeOutcome
made_in state None = record { state = state; outputs = []; reply = Nothing }
made_in state (Some made) = made

some_made : (state : NodeState) (o : Option NodeOutcome) → is_some o ≡ true → o ≡ Some (made_in state o)
some_made state None e = absurd (cc)
some_made state (Some made) e = refl

pub computed : (config : Shape) (kept : KeptLists) (before : List Event) (event : Event)
    → event.place ≡ length before → event.node.0 < nodes_of config
    → is_named (names_of (role_at config event.node.0)) event.happened.input ≡ true
    → is_some (node_outcome config event.node.0 (node_after config kept before event.node.0) event.happened.input event.happened.mark) ≡ true
    → event.happened.outputs ≡ (made_in (node_after config kept before event.node.0) (node_outcome config event.node.0 (node_after config kept before event.node.0) event.happened.input event.happened.mark)).outputs
    → event.happened.reply ≡ (made_in (node_after config kept before event.node.0) (node_outcome config event.node.0 (node_after config kept before event.node.0) event.happened.input event.happened.mark)).reply
    → HasRange config event.happened.input → IsDelivered before event.node.0 event.happened.input
    → IsComputed config kept before event
computed config kept before event place node named some outputs reply range delivered = record {
  place = place;
  node = node;
  named = named;
  range = range;
  row = record {
    made = made_in (node_after config kept before event.node.0) (node_outcome config event.node.0 (node_after config kept before event.node.0) event.happened.input event.happened.mark);
    rule = some_made (node_after config kept before event.node.0) (node_outcome config event.node.0 (node_after config kept before event.node.0) event.happened.input event.happened.mark) some;
    outputs = outputs;
    reply = reply;
  };
  delivered = delivered;
}

-- an event that submits nothing agrees with all before it
submits_nothing : (event : Event) → submitted event.happened.input ≡ None → (before : List Event) → AllByRecursion (AgreesWith event) before
submits_nothing event none [] = tt
submits_nothing event none (earlier ∷ before) = ((λ one other e f. absurd (cc)), submits_nothing event none before)

pub follows : (config : Shape) (run : ℕ) (kept : KeptLists) (before : List Event) (event : Event)
    → submitted event.happened.input ≡ None → IsComputed config kept before event → IsNext config run kept before event
follows config run kept before event none c = record {
  place = c.place;
  node = c.node;
  allowed = record { named = c.named; range = c.range };
  row = c.row;
  delivered = c.delivered;
  of_run = λ entry e. absurd (cc);
  one_node = submits_nothing event none before;
}

-- no event submits anything
abbrev pub submit_nothing : List Event → Bool
submit_nothing [] = true
submit_nothing (event ∷ events) = is_none (submitted event.happened.input) && submit_nothing events

is_none-none : {A : Type 0} (o : Option A) → is_none o ≡ true → o ≡ None
is_none-none None e = refl
is_none-none (Some x) e = absurd (cc)

first_submits : (event : Event) (before : List Event) → submit_nothing before ≡ true → AllByRecursion (AgreesWith event) before
first_submits event [] h = tt
first_submits event (earlier ∷ before) h =
    let parts = and_parts _ _ h in
    let none : submitted earlier.happened.input ≡ None = is_none-none (submitted earlier.happened.input) parts.0 in
    ((λ one other e f. absurd (cc)), first_submits event before parts.1)

-- the first event that submits something
pub submits_first : (config : Shape) (run : ℕ) (kept : KeptLists) (before : List Event) (event : Event)
    → IsOfRun run event.happened.input → submit_nothing before ≡ true → IsComputed config kept before event → IsNext config run kept before event
submits_first config run kept before event of_run first c = record {
  place = c.place;
  node = c.node;
  allowed = record { named = c.named; range = c.range };
  row = c.row;
  delivered = c.delivered;
  of_run = of_run;
  one_node = first_submits event before first;
}
