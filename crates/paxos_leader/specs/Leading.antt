-- What an orderer that may lead keeps, and what it answers to each call.
use Rattle.std.specs.Prelude.{◌≡◌, ℕ, ◌==◌, nat_lt, MatchOption, if◌then◌else◌, List, Option, Some, None}
use Rattle.log_base.specs.declared.numbers.Ballot.{Ballot}
use Rattle.log_base.specs.declared.numbers.Slot.{Slot}
use Rattle.message_frame.specs.declared.messages.Vote.{Vote}
use Rattle.record_frame.specs.declared.values.Value.{Value}
use Rattle.paxos_model.specs.Leader.{Leader, Pending, Next as Step, Propose as ToPropose, Window as ToAsk, Nothing as ToWait, Advanced, advance, awaits_promise, with_acceptance, with_promise, without_slot}
use Rattle.paxos_model.specs.Majority.{count_marks, most}
use Rattle.paxos_leader.specs.declared.answers.Heard.{Heard}
use Rattle.paxos_leader.specs.declared.answers.Heard.TheVariants.{Counted, Other as Unheard}
use Rattle.paxos_leader.specs.declared.answers.Next.{Next}
use Rattle.paxos_leader.specs.declared.answers.Next.TheVariants.{Propose, Window, Nothing}
use Rattle.paxos_leader.specs.declared.answers.Counting.{Counting}
use Rattle.paxos_leader.specs.declared.answers.Counting.TheVariants.{Chosen, NotYet, Other as NotPending}
use Rattle.paxos_leader.specs.declared.answers.Again.{Again}
use Rattle.paxos_leader.specs.declared.answers.Again.TheVariants.{Prepare, Accept, Nothing as Silent}

-- how many orderers there are, and the leader while there is one
pub record Leading : Type 0 where
  pub orderers : ℕ
  pub leader : Option Leader

-- what a call answers, and the leader after it
pub record Answered (Answer : Type 0) : Type 0 where
  pub answer : Answer
  pub leader : Option Leader

abbrev pub to_ballot : ℕ → Ballot
to_ballot ballot = record { 0 = ballot }

abbrev pub to_slot : ℕ → Slot
to_slot slot = record { 0 = slot }

-- the ballot that is led
abbrev pub led_ballot : Leader → Ballot
led_ballot leader = to_ballot leader.ballot

-- a proposal of a slot below the number of known values is dropped
abbrev pub drop_below : Option Pending → ℕ → Option Pending
drop_below None known = None
drop_below (Some pending) known = if nat_lt pending.slot known then None else Some pending

abbrev pub without_below : ℕ → Leader → Leader
without_below known leader = record leader { pending = drop_below leader.pending known }

-- a promise is counted where it is for the ballot and the window
abbrev pub promise_to : ℕ → Option Leader → ℕ → ℕ → ℕ → List Vote → Answered Heard
promise_to orderers None ballot slot who votes = record { answer = Unheard; leader = None }
promise_to orderers (Some leader) ballot slot who votes =
    let after = with_promise leader who votes in
    if awaits_promise leader ballot slot
    then record { answer = Counted (count_marks orderers after.answered); leader = Some after }
    else record { answer = Unheard; leader = Some leader }

-- what is sent next, as it is told
abbrev pub as_next : Step → Next
as_next (ToPropose slot value) = Propose (to_slot slot) value
as_next (ToAsk slot) = Window (to_slot slot)
as_next ToWait = Nothing

abbrev pub as_answered : Advanced → Answered Next
as_answered advanced = record { answer = as_next advanced.next; leader = Some advanced.leader }

abbrev pub next_to : ℕ → Option Leader → ℕ → Option Value → Answered Next
next_to orderers None known wish = record { answer = Nothing; leader = None }
next_to orderers (Some leader) known wish = as_answered (advance orderers leader known wish)

-- An acceptance of the pending proposal was counted: at a majority the value is chosen and the proposal dropped.
abbrev pub counted : ℕ → Leader → Pending → Answered Counting
counted orderers leader pending =
    if most orderers pending.accepted
    then record { answer = Chosen pending.value; leader = Some (without_slot leader pending.slot) }
    else record { answer = NotYet (count_marks orderers pending.accepted); leader = Some (record leader { pending = Some pending }) }

abbrev pub not_pending : Option Leader → Answered Counting
not_pending leader = record { answer = NotPending; leader = leader }

abbrev pub acceptance_for : ℕ → Leader → Option Pending → ℕ → ℕ → Answered Counting
acceptance_for orderers leader None slot who = not_pending (Some leader)
acceptance_for orderers leader (Some pending) slot who =
    if pending.slot == slot then counted orderers leader (with_acceptance pending who) else not_pending (Some leader)

-- an acceptance is counted where it is for the ballot and the slot of the pending proposal
abbrev pub acceptance_to : ℕ → Option Leader → ℕ → ℕ → ℕ → Answered Counting
acceptance_to orderers None ballot slot who = not_pending None
acceptance_to orderers (Some leader) ballot slot who =
    if leader.ballot == ballot then acceptance_for orderers leader leader.pending slot who else not_pending (Some leader)

-- what is said again: without a majority of promises the question for them, else the proposal that is pending
abbrev pub again_pending : ℕ → Option Pending → Again
again_pending ballot None = Silent
again_pending ballot (Some pending) = Accept (to_ballot ballot) (to_slot pending.slot) pending.value

abbrev pub again_to : ℕ → Leader → Again
again_to orderers leader =
    if most orderers leader.answered then again_pending leader.ballot leader.pending
    else Prepare (to_ballot leader.ballot) (to_slot leader.window)

abbrev pub again_by : ℕ → Option Leader → Again
again_by orderers None = Silent
again_by orderers (Some leader) = again_to orderers leader

-- a proposal that waits, if there is one, is one of this slot
abbrev pub IsAtNext : Leader → ℕ → Type 0
IsAtNext leader slot = MatchOption leader.pending (Unit {0}) (λ pending. pending.slot ≡ slot)
