-- What a subscription takes in a coherent state.
use Rattle.std.proofs.Common.{◌≡◌, ℕ, zero, suc, ◌+◌, ◌≤◌, List, ◌∷◌, length, length-append, Some, refl, sym, ap, ◌∙◌, subst, inl, inr, ⊎_elim, arith}
use Rattle.std.specs.Prelude.{slice_get}
use Rattle.std.specs.List.{flat_map}
use Rattle.std.proofs.lemmas.Bool.{cases_Bool, cases_lt, cond-true, cond-false, leb-true, leb-false}
use Rattle.log_base.specs.ClusterShape.{Shape}
use Rattle.log_base.specs.declared.numbers.Position.{Position}
use Rattle.record_frame.specs.declared.entries.Entry.{Entry}
use Rattle.log_model.specs.Chain.{chain_of}
use Rattle.reply_frame.specs.declared.replies.Reply.{Reply, Nothing, Found, PendingRead, Trimmed}
use Rattle.reply_frame.specs.Replies.{entry_bytes}
use Rattle.command_frame.specs.Streams.{fits_in, room_beside}
use Rattle.plain_log.specs.Coherent.{IsCoherentState}
use Rattle.plain_log.specs.Log.{LogState, read_in}
use Rattle.plain_log.specs.Streams.{Collected, collected, ended, given_by, with_entry}
use Rattle.plain_log.specs.Taking.{AsManyAsWanted, Ends, HasNoEntry, IsTaken, NoEntryThere, NoRoomFor, bytes_taken, later}
use Rattle.plain_log.proofs.Answering.{read_finds, read_past_end}
use Rattle.plain_log.proofs.Joining.{read_below_mark}

-- a position by its number
abbrev at_number : ℕ → Position
at_number number = record { 0 = number }

-- the first of positions, and those behind it
first : (from : ℕ) → at_number from ≡ later from zero
first from =
    let same : from ≡ from + zero = omega arith in
    ap at_number same

moved : (from i : ℕ) → later (from + 1) i ≡ later from (suc i)
moved from i =
    let same : (from + 1) + i ≡ from + suc i = omega arith in
    ap at_number same

-- Nothing is taken, and the subscription ends so.
none_taken : (replicas : ℕ) (state : LogState) (room from count : ℕ) (last : Reply) → Ends replicas state room from count (ended last)
    → IsTaken replicas state room from count (ended last)
none_taken replicas state room from count last ends = record { each = λ i entry is. absurd (cc); few = omega arith; fit = omega arith; ends = ends }

-- how many bytes the entries have with one more before them
bytes_with : (entry : Entry) (following : Collected) → bytes_taken (with_entry entry following) ≡ length (entry_bytes entry) + bytes_taken following
bytes_with entry following = length-append (entry_bytes entry) (flat_map entry_bytes following.entries)

-- where the subscription ends, with an entry more before it
ends_later : (replicas : ℕ) (state : LogState) (room from more : ℕ) (entry : Entry) (following : Collected) → length (entry_bytes entry) ≤ room
    → Ends replicas state (room_beside room entry) (from + 1) more following → Ends replicas state room from (suc more) (with_entry entry following)
ends_later replicas state room from more entry following fits (AsManyAsWanted all none) = AsManyAsWanted (ap suc all) none
ends_later replicas state room from more entry following fits (NoRoomFor next found past none) =
    let place = moved from (length following.entries) in
    NoRoomFor next (subst (λ (p : Position). read_in replicas state p ≡ Found p next) place found)
    (omega (arith, past, fits, bytes_with entry following)) none
ends_later replicas state room from more entry following fits (NoEntryThere without told) =
    let place = moved from (length following.entries) in
    NoEntryThere (subst (λ (p : Position). HasNoEntry replicas state p) place without)
    (subst (λ (p : Position). following.last ≡ read_in replicas state p) place told)

each_with : (replicas : ℕ) (state : LogState) (from : ℕ) (entry : Entry) (entries : List Entry)
    → read_in replicas state (record { 0 = from }) ≡ Found (record { 0 = from }) entry
    → ((i : ℕ) (other : Entry) → slice_get entries i ≡ Some other → read_in replicas state (later (from + 1) i) ≡ Found (later (from + 1) i) other)
    → (i : ℕ) (other : Entry) → slice_get (entry ∷ entries) i ≡ Some other → read_in replicas state (later from i) ≡ Found (later from i) other
each_with replicas state from entry entries found each zero other at =
    let same : entry ≡ other = cc in
    let place = first from in
    subst (λ (p : Position). read_in replicas state p ≡ Found p other) place (found ∙ ap (Found (record { 0 = from })) same)
each_with replicas state from entry entries found each (suc i) other at =
    let place = moved from i in
    subst (λ (p : Position). read_in replicas state p ≡ Found p other) place (each i other at)

-- One entry more is taken before the others.
one_taken : (replicas : ℕ) (state : LogState) (room from more : ℕ) (entry : Entry) (following : Collected)
    → read_in replicas state (record { 0 = from }) ≡ Found (record { 0 = from }) entry → length (entry_bytes entry) ≤ room
    → IsTaken replicas state (room_beside room entry) (from + 1) more following → IsTaken replicas state room from (suc more) (with_entry entry following)
one_taken replicas state room from more entry following found fits is = record {
  each = each_with replicas state from entry following.entries found is.each;
  few = omega (arith, is.few);
  fit = omega (arith, is.fit, fits, bytes_with entry following);
  ends = ends_later replicas state room from more entry following fits is.ends;
}

-- An entry that is found is taken where there is room for it.
found_taken : (replicas : ℕ) (state : LogState) (room from more : ℕ) (entry : Entry)
    → read_in replicas state (record { 0 = from }) ≡ Found (record { 0 = from }) entry
    → (length (entry_bytes entry) ≤ room → IsTaken replicas state (room_beside room entry) (from + 1) more (collected (read_in replicas state) (room_beside room entry) (from + 1) more))
    → IsTaken replicas state room from (suc more) (collected (read_in replicas state) room from (suc more))
found_taken replicas state room from more entry found following =
    let next : Collected = collected (read_in replicas state) (room_beside room entry) (from + 1) more in
    let rest : Entry → Collected = λ (e : Entry). collected (read_in replicas state) (room_beside room e) (from + 1) more in
    let place = first from in
    let there = subst (λ (p : Position). read_in replicas state p ≡ Found p entry) place found in
    subst (λ (answer : Reply). IsTaken replicas state room from (suc more) (given_by room rest answer)) (sym found)
    (⊎_elim
    (λ fits. subst (IsTaken replicas state room from (suc more)) (sym (cond-true (fits_in room entry) (with_entry entry next) (ended Nothing) fits))
    (one_taken replicas state room from more entry next found (leb-true (length (entry_bytes entry)) room fits)
    (following (leb-true (length (entry_bytes entry)) room fits))))
    (λ past. subst (IsTaken replicas state room from (suc more)) (sym (cond-false (fits_in room entry) (with_entry entry next) (ended Nothing) past))
    (none_taken replicas state room from (suc more) Nothing
    (NoRoomFor entry there (omega (arith, leb-false (length (entry_bytes entry)) room past)) refl)))
    (cases_Bool (fits_in room entry)))

-- A position without an entry ends the subscription.
without_taken : (replicas : ℕ) (state : LogState) (room from more : ℕ) (answer : Reply)
    → read_in replicas state (record { 0 = from }) ≡ answer → HasNoEntry replicas state (record { 0 = from })
    → ((rest : Entry → Collected) → given_by room rest answer ≡ ended answer)
    → IsTaken replicas state room from (suc more) (collected (read_in replicas state) room from (suc more))
without_taken replicas state room from more answer told without ends =
    let rest : Entry → Collected = λ (e : Entry). collected (read_in replicas state) (room_beside room e) (from + 1) more in
    let place = first from in
    subst (λ (a : Reply). IsTaken replicas state room from (suc more) (given_by room rest a)) (sym told)
    (subst (IsTaken replicas state room from (suc more)) (sym (ends rest))
    (none_taken replicas state room from (suc more) answer
    (NoEntryThere (subst (HasNoEntry replicas state) place without) (subst (λ (p : Position). answer ≡ read_in replicas state p) place (sym told)))))

-- In a coherent state a subscription takes what it should.
pub taken_in : (shape : Shape) (state : LogState) (room from count : ℕ) → IsCoherentState shape state
    → IsTaken shape.replicas state room from count (collected (read_in shape.replicas state) room from count)
taken_in shape state room from zero is = none_taken shape.replicas state room from zero Nothing (AsManyAsWanted refl refl)
taken_in shape state room from (suc more) is =
    let replicas = shape.replicas in
    let chain = chain_of replicas state.values in
    let position : Position = record { 0 = from } in
    ⊎_elim
    (λ below. without_taken replicas state room from more (Trimmed (record { 0 = chain.mark })) (read_below_mark replicas state position below) (inl below) (λ rest. refl))
    (λ above. ⊎_elim
    (λ within.
    let found = read_finds shape state position is above within in
    found_taken replicas state room from more found.0 found.1
    (λ fits. taken_in shape state (room_beside room found.0) (from + 1) more is))
    (λ past. without_taken replicas state room from more (PendingRead (record { 0 = chain.end })) (read_past_end replicas state position past) (inr past) (λ rest. refl))
    (cases_lt from chain.end))
    (cases_lt from chain.mark)
