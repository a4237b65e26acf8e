-- The votes that a promise lists have numbers in the ranges of the formats, and their slots rise.
use Rattle.std.proofs.Common.{◌≡◌, ◌+◌, ◌<◌, ◌≤◌, ◌^◌, ◌⊎◌, ℕ, zero, suc, max, true, List, [], ◌∷◌, length, Option, Some, None, refl, sym, subst, inl, inr, ⊎_elim, arith, eqb-true}
use Rattle.std.specs.List.{AllByRecursion}
use Rattle.std.proofs.lemmas.Bool.{and_parts}
use Rattle.message_frame.specs.declared.messages.Vote.{Vote}
use Rattle.message_frame.specs.Spelling.{AreVotes, IsBallot, IsVote, Rise}
use Rattle.paxos_model.specs.Votes.{Payload, Promise, Voted, counts, greatest, promised, put_first, reports, votes}
use Rattle.record_frame.specs.Values.{IsValue}
use Rattle.agreement_law.specs.Elements.{In}
use Rattle.agreement_law.proofs.Greatest.{greatest_from, reports_from}
use Rattle.safety_law.specs.Numbers.{AreNumbered, IsNumbered}

pub all_of : {A : Type 0} (P : A → Type 0) (xs : List A) → ((x : A) → In x xs → P x) → AllByRecursion P xs
all_of P [] f = tt
all_of P (x ∷ xs) f = (f x (inl refl), all_of P xs (λ y a. f y (inr a)))

-- votes of a window, but for their values
pub record IsNumberedVote (first : ℕ) (vote : Vote) : Type 0 where
  pub start : first ≤ vote.slot.0
  pub window : vote.slot.0 ≤ first + 63
  pub slot : vote.slot.0 ≤ 16383
  pub ballot : IsBallot vote.ballot.0

pub record AreNumberedVotes (first : ℕ) (vs : List Vote) : Type 0 where
  pub few : length vs ≤ 64
  pub each : (x : Vote) → In x vs → IsNumberedVote first x
  pub rise : Rise first vs

-- with values of the formats they are votes of a message
pub as_votes : (first : ℕ) (vs : List Vote) → AreNumberedVotes first vs → ((x : Vote) → In x vs → IsValue x.value) → AreVotes first vs
as_votes first vs h f = record {
  few = h.few;
  each = all_of (IsVote first) vs (λ x a. let n = h.each x a in record { start = n.start; window = n.window; slot = n.slot; ballot = n.ballot; value = f x a });
  rise = h.rise;
}

-- the votes of a list, and its promise
pub vote_numbered : (list : List Payload) → AreNumbered list → (x : Vote) → In x (votes list) → IsNumbered (Voted x)
vote_numbered [] h x a = absurd a
vote_numbered (Promise b ∷ list) h x a = vote_numbered list (λ p c. h p (inr c)) x a
vote_numbered (Voted v ∷ list) h x (inl e) = subst (λ (y : Vote). IsNumbered (Voted y)) (sym e) (h (Voted v) (inl refl))
vote_numbered (Voted v ∷ list) h x (inr a) = vote_numbered list (λ p c. h p (inr c)) x a

max_below : (a b n : ℕ) → a < n → b < n → max a b < n
max_below a b n h g = omega arith

pub promised_below : (list : List Payload) → AreNumbered list → promised list < 2 ^ 56
promised_below [] h = omega arith
promised_below (Promise b ∷ list) h = max_below b (promised list) (2 ^ 56) (h (Promise b) (inl refl)).1 (promised_below list (λ p c. h p (inr c)))
promised_below (Voted v ∷ list) h = max_below v.ballot.0 (promised list) (2 ^ 56) (h (Voted v) (inl refl)).0.1 (promised_below list (λ p c. h p (inr c)))

-- the reports of a list
rise_more : (low high : ℕ) (vs : List Vote) → low ≤ high → Rise high vs → Rise low vs
rise_more low high [] le h = tt
rise_more low high (x ∷ vs) le h = (omega (arith, h.0), h.1)

counted_slot : (b k : ℕ) (x : Vote) → counts b k x ≡ true → x.slot.0 ≡ k
counted_slot b k x e = eqb-true x.slot.0 k (and_parts _ _ e).1

first_rises : (b f : ℕ) (vs rest : List Vote) (o : Option Vote) → greatest (counts b f) vs ≡ o → Rise (suc f) rest → Rise f (put_first o rest)
first_rises b f vs rest None e h = rise_more f (suc f) rest (omega arith) h
first_rises b f vs rest (Some x) e h =
    let slot = counted_slot b f x (greatest_from (counts b f) vs x e).1 in
    (omega (arith, slot), rise_more (x.slot.0 + 1) (suc f) rest (omega (arith, slot)) h)

reports_rise : (b f n : ℕ) (vs : List Vote) → Rise f (reports b f n vs)
unfolding reports
reports_rise b f zero vs = tt
reports_rise b f (suc n) vs = first_rises b f vs (reports b (suc f) n vs) (greatest (counts b f) vs) refl (reports_rise b (suc f) n vs)

first_few : (o : Option Vote) (rest : List Vote) (n : ℕ) → length rest ≤ n → length (put_first o rest) ≤ suc n
first_few None rest n h = omega arith
first_few (Some x) rest n h = omega arith

reports_few : (b f n : ℕ) (vs : List Vote) → length (reports b f n vs) ≤ n
unfolding reports
reports_few b f zero vs = omega arith
reports_few b f (suc n) vs = first_few (greatest (counts b f) vs) (reports b (suc f) n vs) n (reports_few b (suc f) n vs)

first_in : (b f : ℕ) (vs rest : List Vote) (o : Option Vote) → greatest (counts b f) vs ≡ o → (x : Vote) → In x (put_first o rest) → (x.slot.0 ≡ f) ⊎ In x rest
first_in b f vs rest None e x a = inr a
first_in b f vs rest (Some y) e x (inl same) =
    inl (subst (λ (z : Vote). z.slot.0 ≡ f) (sym same) (counted_slot b f y (greatest_from (counts b f) vs y e).1))
first_in b f vs rest (Some y) e x (inr a) = inr a

reports_within : (b f n : ℕ) (vs : List Vote) (x : Vote) → In x (reports b f n vs) → (f ≤ x.slot.0) × (x.slot.0 < f + n)
unfolding reports
reports_within b f zero vs x a = absurd a
reports_within b f (suc n) vs x a =
    ⊎_elim (λ e. (omega (arith, e), omega (arith, e))) (λ c. let rest = reports_within b (suc f) n vs x c in (omega (arith, rest.0), omega (arith, rest.1)))
    (first_in b f vs (reports b (suc f) n vs) (greatest (counts b f) vs) refl x a)

pub reports_numbered : (b f : ℕ) (list : List Payload) → AreNumbered list → AreNumberedVotes f (reports b f 64 (votes list))
reports_numbered b f list h = record {
  few = reports_few b f 64 (votes list);
  each = λ x a.
      let within = reports_within b f 64 (votes list) x a in
      let numbers = vote_numbered list h x (reports_from b f 64 (votes list) x a) in
      record { start = within.0; window = omega (arith, within.1); slot = numbers.1; ballot = numbers.0 };
  rise = reports_rise b f 64 (votes list);
}
