-- What the rows of a replica put, know and answer.
use Rattle.std.proofs.Common.{◌≡◌, ◌⊎◌, ◌<◌, ◌≤◌, ◌+◌, ℕ, zero, suc, Bool, true, false, cond, ◌==◌, nat_le, nat_lt, List, [], ◌∷◌, length, slice_get, Option, Some, None, refl, ap, subst, inl, inr, ⊎_elim, arith, leb-false, ltb-false, eqb-true, ◌∙◌}
use Rattle.std.proofs.lemmas.Bool.{and_parts, cond_both, eqb-false}
use Rattle.log_base.specs.declared.numbers.Place.{Place}
use Rattle.log_model.specs.Asking.{Asked, At, Pending as PendingAsked, FinalisedAt, Stale as StaleAsked, Missing, ask, ask_held, ask_last, ask_standing, ask_stored, ask_uncovered}
use Rattle.log_model.specs.Chain.{Frozen, Live, ShardState, Standing}
use Rattle.log_model.specs.Pairs.{greater, held, is_pair, is_trimmed, last_of, later, offset_from, offset_of, untrimmed}
use Rattle.log_model.specs.Reading.{ReadAnswer, Found, Trimmed, Pending as PendingPosition, Elsewhere, read, read_entry, read_place}
use Rattle.log_model.specs.Storage.{Knowledge, Member, covered_length_of, list_in, list_limit, own_shard, position_of}
use Rattle.log_model.specs.Submitting.{Full, Finalised, NotAdded, Stale, Stored, Submission, Submitted, nothing_put, submit, submit_fresh, submit_held, submit_new, submit_to}
use Rattle.record_frame.specs.declared.entries.Entry.{Entry}
use Rattle.sequence_law.specs.Pairs.{IsPair}

-- no entry of a list has the pair
abbrev pub IsFresh : List Entry → ℕ → ℕ → Type 0
IsFresh own client number = (offset : ℕ) (entry : Entry) → slice_get own offset ≡ Some entry → IsPair client number entry → ⊥

-- a number is past the last one, where there is one
abbrev IsPast : ℕ → Option ℕ → Type 0
IsPast number None = Unit {0}
IsPast number (Some last) = last < number

-- the greatest number of a client is not below any of its numbers
abbrev IsLast : ℕ → Option ℕ → Type 0
IsLast number None = ⊥
IsLast number (Some last) = number ≤ last

greater_right : (number other : ℕ) (o : Option ℕ) → IsLast other o → other ≤ greater number o
greater_right number other None h = absurd h
greater_right number other (Some last) h = grind arith

greater_left : (number : ℕ) (o : Option ℕ) → number ≤ greater number o
greater_left number None = omega arith
greater_left number (Some last) = grind arith

last_is : (own : List Entry) (client offset : ℕ) (entry : Entry) → slice_get own offset ≡ Some entry → entry.client.0 ≡ client → IsLast entry.number.0 (last_of own client)
last_is [] client offset entry e c = absurd (cc)
last_is (first ∷ own) client zero entry e c = at (first.client.0 == client) refl
  where
    same : first ≡ entry
    same = cc

    at : (b : Bool) → (first.client.0 == client) ≡ b → IsLast entry.number.0 (cond b (Some (greater first.number.0 (last_of own client))) (last_of own client))
    at true t = subst (λ (x : Entry). x.number.0 ≤ greater first.number.0 (last_of own client)) same (greater_left first.number.0 (last_of own client))
    at false t = absurd (eqb-false first.client.0 client t (ap (λ (x : Entry). x.client.0) same ∙ c))
last_is (first ∷ own) client (suc offset) entry e c = at (first.client.0 == client) (last_is own client offset entry e c)
  where
    at : (b : Bool) → IsLast entry.number.0 (last_of own client) → IsLast entry.number.0 (cond b (Some (greater first.number.0 (last_of own client))) (last_of own client))
    at true h = greater_right first.number.0 entry.number.0 (last_of own client) h
    at false h = h

past_fresh : (own : List Entry) (client number : ℕ) (o : Option ℕ) → last_of own client ≡ o → IsPast number o → IsFresh own client number
past_fresh own client number None is past offset entry e pair = subst (IsLast entry.number.0) is (last_is own client offset entry e pair.0)
past_fresh own client number (Some last) is past offset entry e pair =
    let low : entry.number.0 ≤ last = subst (IsLast entry.number.0) is (last_is own client offset entry e pair.0) in
    omega (arith, pair.1)

-- What a submission comes to: the entry is put, or the shard is frozen, and in both cases the pair was not there; or
-- something else is answered and nothing put.
pub data SubmitSays (own : List Entry) (state : Option ShardState) (entry : Entry) (s : Submission) : Type 0 where
  Puts : IsFresh own entry.client.0 entry.number.0 → s ≡ record { answer = Stored (length own); put = Some entry } → SubmitSays own state entry s
  Closes : (one : ShardState) → state ≡ Some one → one.standing ≡ Frozen → IsFresh own entry.client.0 entry.number.0 → s ≡ nothing_put Finalised → SubmitSays own state entry s
  Declines : (answer : Submitted) → (answer ≡ Finalised → ⊥) → s ≡ nothing_put answer → SubmitSays own state entry s

module _ (own : List Entry) (entry : Entry) where
  to_says : (state : Option ShardState) (one : ShardState) → state ≡ Some one → (standing : Standing) → one.standing ≡ standing → IsFresh own entry.client.0 entry.number.0
      → SubmitSays own state entry (submit_to own entry standing)
  to_says state one is Frozen at fresh = Closes one is at fresh refl
  to_says state one is Live at fresh =
      cond_both (length own == list_limit) (nothing_put Full) (record { answer = Stored (length own); put = Some entry }) (λ (x : Submission). SubmitSays own state entry x)
      (λ _. Declines Full (λ e. absurd (cc)) refl) (λ _. Puts fresh refl)

  new_says : (state : Option ShardState) → IsFresh own entry.client.0 entry.number.0 → SubmitSays own state entry (submit_new own entry state)
  new_says None fresh = Declines NotAdded (λ e. absurd (cc)) refl
  new_says (Some one) fresh = to_says (Some one) one refl one.standing refl fresh

  fresh_says : (state : Option ShardState) (last : Option ℕ) → last_of own entry.client.0 ≡ last → SubmitSays own state entry (submit_fresh own state entry last)
  fresh_says state None is = new_says state (past_fresh own entry.client.0 entry.number.0 None is tt)
  fresh_says state (Some last) is =
      cond_both (nat_le entry.number.0 last) (nothing_put (Stale last)) (submit_new own entry state) (λ (x : Submission). SubmitSays own state entry x)
      (λ _. Declines (Stale last) (λ e. absurd (cc)) refl)
      (λ f. let above = leb-false entry.number.0 last f in new_says state (past_fresh own entry.client.0 entry.number.0 (Some last) is (omega (arith, above))))

  held_says : (state : Option ShardState) (found : Option ℕ) → SubmitSays own state entry (submit_held own state entry found)
  held_says state (Some offset) = Declines (Stored offset) (λ e. absurd (cc)) refl
  held_says state None = fresh_says state (last_of own entry.client.0) refl

pub submit_says : (member : Member) (own : List Entry) (known : Knowledge) (entry : Entry) → SubmitSays own (own_shard member known) entry (submit member own known entry)
unfolding submit
submit_says member own known entry = held_says own entry (own_shard member known) (held member own known entry.client.0 entry.number.0)

-- where a pair is found, it stands
found_later : (first : Option ℕ) (rest : Option ℕ) (o : ℕ) → later first rest ≡ Some o → (first ≡ Some o) ⊎ (rest ≡ Some o)
found_later first None o e = inl e
found_later first (Some last) o e = inr e

pub pair_is : (client number : ℕ) (entry : Entry) → is_pair client number entry ≡ true → IsPair client number entry
pair_is client number entry e =
    let parts = and_parts _ _ e in (eqb-true entry.client.0 client parts.0, eqb-true entry.number.0 number parts.1)

found_from : (at : ℕ) (own : List Entry) (client number o : ℕ) → offset_from at own client number ≡ Some o
    → (k : ℕ) × (entry : Entry) × (o ≡ at + k) × (slice_get own k ≡ Some entry) × IsPair client number entry
found_from at [] client number o e = absurd (cc)
found_from at (first ∷ own) client number o e =
    ⊎_elim
    (λ now. here (is_pair client number first) refl now)
    (λ rest. let more = found_from (suc at) own client number o rest in (suc more.0, more.1, omega (arith, more.2), more.3, more.4))
    (found_later (cond (is_pair client number first) (Some at) None) (offset_from (suc at) own client number) o e)
  where
    here : (b : Bool) → is_pair client number first ≡ b → cond b (Some at) None ≡ Some o
        → (k : ℕ) × (entry : Entry) × (o ≡ at + k) × (slice_get (first ∷ own) k ≡ Some entry) × IsPair client number entry
    here true t f = let same : at ≡ o = cc in (0, first, omega (arith, same), refl, pair_is client number first t)
    here false t f = absurd (cc)

untrimmed_is : (member : Member) (known : Knowledge) (found : Option ℕ) (o : ℕ) → untrimmed member known found ≡ Some o → found ≡ Some o
untrimmed_is member known None o e = absurd (cc)
untrimmed_is member known (Some x) o e = at (is_trimmed member known x) e
  where
    at : (b : Bool) → cond b None (Some x) ≡ Some o → Some x ≡ Some o
    at true f = absurd (cc)
    at false f = f

held_stands : (member : Member) (own : List Entry) (known : Knowledge) (client number o : ℕ) → held member own known client number ≡ Some o
    → (entry : Entry) × (slice_get own o ≡ Some entry) × IsPair client number entry
unfolding held
held_stands member own known client number o e =
    let found = found_from 0 own client number o (untrimmed_is member known (offset_of own client number) o e) in
    let same : found.0 ≡ o = omega (arith, found.2) in
    (found.1, subst (λ (k : ℕ). slice_get own k ≡ Some found.1) same found.3, found.4)

-- What one who asks for a pair is told: its position, that it is not covered, that it never will be, or that it is not there.
pub data AskSays (member : Member) (own : List Entry) (known : Knowledge) (client number : ℕ) (answer : Asked) : Type 0 where
  Placed : (offset position : ℕ) (entry : Entry) → slice_get own offset ≡ Some entry → IsPair client number entry → position_of member known offset ≡ Some position
      → answer ≡ At position → AskSays member own known client number answer
  Waits : (offset covered : ℕ) (entry : Entry) → slice_get own offset ≡ Some entry → IsPair client number entry → position_of member known offset ≡ None
      → answer ≡ PendingAsked covered → AskSays member own known client number answer
  Barred : (offset frozen : ℕ) (entry : Entry) (one : ShardState) → slice_get own offset ≡ Some entry → IsPair client number entry → position_of member known offset ≡ None
      → own_shard member known ≡ Some one → one.standing ≡ Frozen → answer ≡ FinalisedAt frozen → AskSays member own known client number answer
  Older : (last : ℕ) → answer ≡ StaleAsked last → AskSays member own known client number answer
  Absent : answer ≡ Missing → AskSays member own known client number answer

module _ (member : Member) (own : List Entry) (known : Knowledge) (client number : ℕ) where
  module _ (offset : ℕ) (entry : Entry) (stands : slice_get own offset ≡ Some entry) (pair : IsPair client number entry) where
    uncovered_says : (o : Option ShardState) → own_shard member known ≡ o → position_of member known offset ≡ None → (covered : ℕ)
        → AskSays member own known client number (ask_uncovered covered o)
    uncovered_says None is none covered = Waits offset covered entry stands pair none refl
    uncovered_says (Some one) is none covered = at one.standing refl
      where
        at : (standing : Standing) → one.standing ≡ standing → AskSays member own known client number (ask_standing covered standing)
        at Live e = Waits offset covered entry stands pair none refl
        at Frozen e = Barred offset covered entry one stands pair none is e refl

    stored_says : (p : Option ℕ) → position_of member known offset ≡ p → AskSays member own known client number (ask_stored member known p)
    stored_says (Some position) is = Placed offset position entry stands pair is refl
    stored_says None is = uncovered_says (own_shard member known) refl is (covered_length_of member known)

  last_says : (last : Option ℕ) → AskSays member own known client number (ask_last number last)
  last_says None = Absent refl
  last_says (Some last) =
      cond_both (nat_le number last) (StaleAsked last) Missing (λ (a : Asked). AskSays member own known client number a) (λ _. Older last refl) (λ _. Absent refl)

  ask_held_says : (found : Option ℕ) → held member own known client number ≡ found → AskSays member own known client number (ask_held member own known client number found)
  ask_held_says None is = last_says (last_of own client)
  ask_held_says (Some offset) is =
      let one = held_stands member own known client number offset is in
      stored_says offset one.0 one.1 one.2 (position_of member known offset) refl

  pub ask_says : AskSays member own known client number (ask member own known client number)
  unfolding ask
  ask_says = ask_held_says (held member own known client number) refl

-- What one who reads a position is told: the entry, that the replica has none yet, or something else.
pub data ReadSays (member : Member) (lists : List (List Entry)) (known : Knowledge) (position : ℕ) (answer : ReadAnswer) : Type 0 where
  Finds : (place : Place) (entry : Entry) → known.chain.mark ≤ position → slice_get known.places position ≡ Some place → place.shard.0 ≡ member.shard
      → slice_get (list_in lists place.segment.0) place.offset ≡ Some entry → answer ≡ Found entry → ReadSays member lists known position answer
  PastEnd : slice_get known.places position ≡ None → answer ≡ PendingPosition known.chain.end → ReadSays member lists known position answer
  Lacks : (place : Place) → slice_get known.places position ≡ Some place → place.shard.0 ≡ member.shard
      → slice_get (list_in lists place.segment.0) place.offset ≡ None → answer ≡ PendingPosition known.chain.end → ReadSays member lists known position answer
  GivenUp : (mark : ℕ) → answer ≡ Trimmed mark → ReadSays member lists known position answer
  OfOther : (shard : ℕ) → answer ≡ Elsewhere shard → ReadSays member lists known position answer

module _ (member : Member) (lists : List (List Entry)) (known : Knowledge) (position : ℕ) (above : known.chain.mark ≤ position) where
  entry_says : (place : Place) → slice_get known.places position ≡ Some place → place.shard.0 ≡ member.shard
      → (found : Option Entry) → slice_get (list_in lists place.segment.0) place.offset ≡ found → ReadSays member lists known position (read_entry known.chain.end found)
  entry_says place at here (Some entry) e = Finds place entry above at here e refl
  entry_says place at here None e = Lacks place at here e refl

  place_says : (found : Option Place) → slice_get known.places position ≡ found → ReadSays member lists known position (read_place member lists known.chain.end found)
  place_says None at = PastEnd at refl
  place_says (Some place) at =
      cond_both (place.shard.0 == member.shard) (read_entry known.chain.end (slice_get (list_in lists place.segment.0) place.offset)) (Elsewhere place.shard.0) (λ (a : ReadAnswer). ReadSays member lists known position a)
      (λ e. entry_says place at (eqb-true place.shard.0 member.shard e) (slice_get (list_in lists place.segment.0) place.offset) refl)
      (λ _. OfOther place.shard.0 refl)

pub read_says : (member : Member) (lists : List (List Entry)) (known : Knowledge) (position : ℕ) → ReadSays member lists known position (read member lists known position)
unfolding read
read_says member lists known position =
    cond_both (nat_lt position known.chain.mark) (Trimmed known.chain.mark) (read_place member lists known.chain.end (slice_get known.places position)) (λ (a : ReadAnswer). ReadSays member lists known position a)
    (λ _. GivenUp known.chain.mark refl)
    (λ f. let above = ltb-false position known.chain.mark f in place_says member lists known position (omega (arith, above)) (slice_get known.places position) refl)
