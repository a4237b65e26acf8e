-- A pair whose number its client just drew: it is in no list, its submission is answered by the standing of the shard, and once it
-- is stored and covered it is told its position.
use Rattle.std.proofs.Common.{◌≡◌, ◌+◌, ◌<◌, ◌≤◌, ℕ, suc, ◌&&◌, ◌==◌, List, [], ◌∷◌, ◌++◌, length, Option, Some, None, refl, ap, arith, ◌∙◌}
use Rattle.std.specs.Prelude.{nat_le}
use Rattle.std.specs.List.{AllByRecursion}
use Rattle.std.proofs.lemmas.Bool.{and_from, and_left, cond-false, cond-true, le-leb, lt-leb, ne_eqb}
use Rattle.record_frame.specs.declared.entries.Entry.{Entry}
use Rattle.record_frame.specs.declared.values.Value.{Value}
use Rattle.log_model.specs.Asking.{At, ask}
use Rattle.log_model.specs.Chain.{ShardState, Standing, Live, Frozen}
use Rattle.log_model.specs.Pairs.{held, last_of, untrimmed}
use Rattle.log_model.specs.Storage.{Knowledge, Member, list_limit, own_shard, position_of}
use Rattle.log_model.specs.Submitting.{Submission, Stored, Finalised, NotAdded, nothing_put, submit, submit_fresh, submit_held, submit_new, submit_to}
use Rattle.paxos_model.specs.Learner.{find_from, find_value}
use Rattle.paxos_model.specs.Values.{same_value}
use Rattle.paxos_model.proofs.Same.{same_value-refl}
use Rattle.plain_log.specs.Log.{found_standing}
use Rattle.plain_log.proofs.Asking.{ask_at}
use Rattle.plain_log.proofs.Pairs.{Below, IsBefore, last_below, offset_from-none, offset_from-own}

not_held : (member : Member) (own : List Entry) (known : Knowledge) (client number : ℕ) → AllByRecursion (IsBefore client number) own
    → held member own known client number ≡ None
unfolding held
not_held member own known client number below = ap (untrimmed member known) (offset_from-none 0 own client number below)

fresh : (own : List Entry) (state : Option ShardState) (entry : Entry) (last : Option ℕ) → Below entry.number.0 last
    → submit_fresh own state entry last ≡ submit_new own entry state
fresh own state entry None below = refl
fresh own state entry (Some last) below = cond-false (nat_le entry.number.0 last) _ (submit_new own entry state) (lt-leb entry.number.0 last below)

-- what a new entry is answered, by the standing of its shard
abbrev pub submitted_by : List Entry → Entry → Option Standing → Submission
submitted_by own entry None = nothing_put NotAdded
submitted_by own entry (Some Frozen) = nothing_put Finalised
submitted_by own entry (Some Live) = record { answer = Stored (length own); put = Some entry }

by_standing : (own : List Entry) (entry : Entry) (standing : Standing) → (standing ≡ Live → length own < list_limit)
    → submit_to own entry standing ≡ submitted_by own entry (Some standing)
by_standing own entry Frozen room = refl
by_standing own entry Live room =
    let few = room refl in
    cond-false (length own == list_limit) _ (record { answer = Stored (length own); put = Some entry }) (ne_eqb (length own) list_limit (λ full. absurd (omega arith)))

by_state : (own : List Entry) (entry : Entry) (state : Option ShardState) → (found_standing state ≡ Some Live → length own < list_limit)
    → submit_new own entry state ≡ submitted_by own entry (found_standing state)
by_state own entry None room = refl
by_state own entry (Some state) room = by_standing own entry state.standing (λ live. room (ap Some live))

pub new_entry : (member : Member) (own : List Entry) (known : Knowledge) (entry : Entry) → AllByRecursion (IsBefore entry.client.0 entry.number.0) own
    → (found_standing (own_shard member known) ≡ Some Live → length own < list_limit)
    → submit member own known entry ≡ submitted_by own entry (found_standing (own_shard member known))
unfolding submit
new_entry member own known entry below room =
    ap (submit_held own (own_shard member known) entry) (not_held member own known entry.client.0 entry.number.0 below)
    ∙ fresh own (own_shard member known) entry (last_of own entry.client.0) (last_below own entry.client.0 entry.number.0 below)
    ∙ by_state own entry (own_shard member known) room

-- ---- asking

pub told_position_of : (member : Member) (own : List Entry) (entry : Entry) (known : Knowledge) (position : ℕ)
    → position_of member known (length own) ≡ Some position → known.chain.mark ≤ position
    → ask member (own ++ entry ∷ []) known entry.client.0 entry.number.0 ≡ At position
told_position_of member own entry known position stands marked =
    let start : 0 + length own ≡ length own = omega arith in
    ask_at member (own ++ entry ∷ []) known entry.client.0 entry.number.0 (length own) position (offset_from-own 0 own entry ∙ ap Some start) stands marked

-- ---- a value that is settled

last_settled : (at : ℕ) (values : List Value) (value : Value) (from : ℕ) → from ≡ at + length values → find_from at (values ++ value ∷ []) value from ≡ Some from
last_settled at [] value from is =
    let here : at ≡ from = omega arith in
    cond-true (nat_le from at && same_value value value) (Some at) None (and_from (nat_le from at) (same_value value value) (le-leb from at (omega arith)) (same_value-refl value))
    ∙ ap Some here
last_settled at (first ∷ values) value from is =
    cond-false (nat_le from at && same_value first value) (Some at) (find_from (suc at) (values ++ value ∷ []) value from)
    (and_left (nat_le from at) (same_value first value) (lt-leb from at (omega arith)))
    ∙ last_settled (suc at) values value from (omega arith)

pub last_value : (values : List Value) (value : Value) → find_value (values ++ value ∷ []) value (length values) ≡ Some (length values)
last_value values value = last_settled 0 values value (length values) (omega arith)
