-- What is delivered was offered at its position.
use Rattle.std.proofs.Common.{◌≡◌, ℕ, zero, suc, ◌+◌, ◌⊎◌, Bool, true, false, cond, eqb, List, [], ◌∷◌, ◌++◌, length, Some, refl, sym, ap, ◌∙◌, subst, inl, inr, ⊎_elim, arith}
use Rattle.std.specs.List.{Contains, slice_get}
use Rattle.std.proofs.lemmas.Bool.{eqb-true}
use Rattle.record_frame.specs.declared.entries.Entry.{Entry}
use Rattle.subscriber.specs.Following.{Following, after_offer, after_offers, following_from, next_of}

-- an entry of a list with one more at its end is one of the list, or the last
slice_get_push : (entries : List Entry) (last : Entry) (k : ℕ) (entry : Entry) → slice_get (entries ++ last ∷ []) k ≡ Some entry
    → (slice_get entries k ≡ Some entry) ⊎ ((k ≡ length entries) × (last ≡ entry))
slice_get_push [] last zero entry h = inr (refl, cc)
slice_get_push [] last (suc k) entry h = absurd (cc)
slice_get_push (first ∷ rest) last zero entry h = inl h
slice_get_push (first ∷ rest) last (suc k) entry h =
    ⊎_elim (λ before. inl before) (λ at_end. inr (ap suc at_end.0, at_end.1)) (slice_get_push rest last k entry h)

first_of_list : (x y : ℕ × Entry) (xs : List (ℕ × Entry)) → x ≡ y → Contains (y ∷ xs) x
first_of_list x y xs same = (0, omega arith, sym same)

later_in_list : (x y : ℕ × Entry) (xs : List (ℕ × Entry)) → Contains xs x → Contains (y ∷ xs) x
later_in_list x y xs (k, below, is) = (suc k, omega arith, is)

-- one offer: what is delivered after it was delivered before, or is what was offered
one_offer : (is_next : Bool) (following : Following) (position : ℕ) (offered : Entry) (k : ℕ) (entry : Entry)
    → (is_next ≡ true → position ≡ next_of following)
    → slice_get (cond is_next (record following { delivered = following.delivered ++ offered ∷ [] }) following).delivered k ≡ Some entry
    → (slice_get following.delivered k ≡ Some entry) ⊎ ((following.from + k ≡ position) × (entry ≡ offered))
one_offer true following position offered k entry next h =
    let here : position ≡ following.from + length following.delivered = next refl in
    ⊎_elim (λ before. inl before) (λ last. inr (omega (arith, last.0), sym last.1)) (slice_get_push following.delivered offered k entry h)
one_offer false following position offered k entry next h = inl h

from-one_offer : (is_next : Bool) (following : Following) (offered : Entry)
    → (cond is_next (record following { delivered = following.delivered ++ offered ∷ [] }) following).from ≡ following.from
from-one_offer true following offered = refl
from-one_offer false following offered = refl

-- what is delivered after offers was delivered before them, or is one of them
offers_delivered : (following : Following) (offers : List (ℕ × Entry)) (k : ℕ) (entry : Entry)
    → slice_get (after_offers following offers).delivered k ≡ Some entry
    → (slice_get following.delivered k ≡ Some entry) ⊎ Contains offers (following.from + k, entry)
offers_delivered following [] k entry h = inl h
offers_delivered following (offer ∷ offers) k entry h =
    ⊎_elim
    (λ before.
    ⊎_elim (λ earlier. inl earlier)
    (λ now.
    let same : (following.from + k, entry) ≡ offer = ap (λ (n : ℕ). (n, entry)) now.0 ∙ ap (λ (e : Entry). (offer.0, e)) now.1 in
    inr (first_of_list (following.from + k, entry) offer offers same))
    (one_offer (eqb offer.0 (next_of following)) following offer.0 offer.1 k entry (eqb-true offer.0 (next_of following)) before))
    (λ later.
    let from : (after_offer following offer.0 offer.1).from ≡ following.from = from-one_offer (eqb offer.0 (next_of following)) following offer.1 in
    inr (later_in_list (following.from + k, entry) offer offers (subst (λ (n : ℕ). Contains offers (n + k, entry)) from later)))
    (offers_delivered (after_offer following offer.0 offer.1) offers k entry h)

pub delivered_in_order : (from k : ℕ) (offers : List (ℕ × Entry)) (entry : Entry)
    → slice_get (after_offers (following_from from) offers).delivered k ≡ Some entry
    → Contains offers (from + k, entry)
delivered_in_order from k offers entry h =
    ⊎_elim (λ before. absurd (cc)) (λ listed. listed) (offers_delivered (following_from from) offers k entry h)
