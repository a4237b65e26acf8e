use Rattle.std.proofs.Common.{◌≤◌, List, [], ◌∷◌, replicate, refl, subst, arith}
use Rattle.history_frame.specs.declared.events.Kept.{Kept}
use Rattle.record_frame.specs.declared.values.Value.TheVariants.{Cut}
use Rattle.paxos_model.specs.Payloads.{IsPayload, payload_spelling}
use Rattle.paxos_model.specs.Votes.{Payload, Voted, vote_of}
use Rattle.paxos_model.proofs.Payloads.{payload_in-spelling}
use Rattle.node_model.specs.OneAppend.{one_of_each}
use Rattle.node_model.specs.Sound.{IsKeptVote, IsSoundOne, payloads_on}
use Rattle.node_model.proofs.OneAppend.{IsLengths-one}
use Rattle.node_model.proofs.histories.vote_past_the_lists.Goals as goal

abbrev vote : Payload
vote = Voted (vote_of 1 0 (Cut (record { count = 1; length = 5 ∷ replicate 31 0 })))

abbrev kept : List Kept
kept = record { disk = 16; payload = payload_spelling vote } ∷ []

spelled : IsPayload vote
spelled = (omega arith, omega arith, IsLengths-one 32 5 (omega arith) (omega arith))

covers : IsSoundOne one_of_each 1 kept 0 → ⊥
covers h =
    let held : IsKeptVote one_of_each (payloads_on kept) vote =
    subst (IsKeptVote one_of_each (payloads_on kept)) (payload_in-spelling vote spelled) (h _ refl).1.1.value in
    let few : 5 ≤ 0 = held.1 0 0 0 (omega arith) (omega arith) (omega arith) in
    omega (arith, few)

pub returns-clause-vote : goal.returns-clause-vote
returns-clause-vote c = record { within = omega arith; breaks = covers; before = λ earlier below. absurd (omega arith) }
