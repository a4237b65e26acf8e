-- The submissions of a history, by their pairs of client and number.
use Rattle.std.specs.Prelude.{◌≡◌, ℕ, List, Bool, ◌==◌, ◌&&◌, Option, Some, None}
use Rattle.std.specs.List.{AllByRecursion}
use Rattle.std.specs.Map.{lookup}
use Rattle.agreement_law.specs.Elements.{In}
use Rattle.history_frame.specs.declared.events.Event.{Event}
use Rattle.record_frame.specs.declared.entries.Entry.{Entry}
use Rattle.node_model.specs.Legal.{AgreesWith, IsOfRun, submitted}
use Rattle.history_walk.specs.declared.submissions.Pair.{Pair}
use Rattle.history_walk.specs.declared.submissions.Submission.{Submission}

-- whether it is the pair of this client and number
abbrev pub is_pair : ℕ → ℕ → Pair → Bool
is_pair client number pair = (client == pair.client.0) && (number == pair.number.0)

-- the submission that is noted of a pair
abbrev pub submission_in : List (Pair × Submission) → ℕ → ℕ → Option Submission
submission_in noted client number = lookup (is_pair client number) noted

-- an entry has this pair
pub record HasPair (client number : ℕ) (entry : Entry) : Type 0 where
  pub client_is : entry.client.0 ≡ client
  pub number_is : entry.number.0 ≡ number

-- an event submits no such pair, or it submits it so
abbrev pub SubmitsNot : ℕ → ℕ → Event → Type 0
SubmitsNot client number event = (entry : Entry) → submitted event.happened.input ≡ Some entry → HasPair client number entry → ⊥

abbrev pub SubmitsSo : ℕ → ℕ → Submission → Event → Type 0
SubmitsSo client number submission event =
    (entry : Entry) → submitted event.happened.input ≡ Some entry → HasPair client number entry
    → (event.node.0 ≡ submission.node.0) × (entry.bytes ≡ submission.bytes)

-- a submission of an event
pub record IsSubmission (client number : ℕ) (submission : Submission) (events : List Event) : Type 0 where
  pub event : Event
  pub entry : Entry
  pub among : In event events
  pub submits : submitted event.happened.input ≡ Some entry
  pub pair : HasPair client number entry
  pub node : event.node.0 ≡ submission.node.0
  pub bytes : entry.bytes ≡ submission.bytes

-- what is noted of a pair is what the events submit
abbrev pub IsNoted : ℕ → ℕ → Option Submission → List Event → Type 0
IsNoted client number None events = AllByRecursion (SubmitsNot client number) events
IsNoted client number (Some submission) events = AllByRecursion (SubmitsSo client number submission) events × IsSubmission client number submission events

abbrev pub AreNoted : List (Pair × Submission) → List Event → Type 0
AreNoted noted events = (client number : ℕ) → IsNoted client number (submission_in noted client number) events

-- a submission to this node of these bytes is like the one that is noted of its pair, if one is
abbrev pub IsLike : Option Submission → ℕ → List ℕ → Type 0
IsLike None node bytes = Unit {0}
IsLike (Some submission) node bytes = (submission.node.0 ≡ node) × (submission.bytes ≡ bytes)

-- what an event submits is of the run, and like what the events before it submit of that pair
abbrev pub MaySubmit : ℕ → List Event → Event → Type 0
MaySubmit run before event = IsOfRun run event.happened.input × AllByRecursion (AgreesWith event) before
