-- Chosen values by counting, and the decided list.
use Rattle.std.proofs.Common.{◌≡◌, ◌<◌, ◌≤◌, ◌+◌, ◌⊎◌, ◌==◌, ℕ, zero, suc, Bool, true, false, cond, List, [], ◌∷◌, ◌++◌, length, Option, Some, None, refl, sym, ap, subst, inl, inr, arith, eq-eqb, ◌∙◌}
use Rattle.std.proofs.lemmas.Bool.{and_from, and_parts}
use Rattle.message_frame.specs.declared.messages.Vote.{Vote}
use Rattle.record_frame.specs.declared.values.Value.{Value}
use Rattle.paxos_model.specs.Values.{same_value}
use Rattle.paxos_model.specs.Votes.{Payload, is_for, vote_of, votes}
use Rattle.paxos_model.proofs.Same.{same_value-true, same_value-refl}
use Rattle.node_model.specs.Chosen.{IsChosen, all_votes, chosen_from, chosen_or_end, chosen_value, decided, first_chosen, is_chosen_in, is_vote, last_slot, shows_chosen, voted_for}
use Rattle.agreement_law.specs.Elements.{In, IsIn, IsPrefix}
use Rattle.agreement_law.specs.Invariant.{AreChosen, Global, HasMost, IsVotedIn}
use Rattle.agreement_law.proofs.Elements.{any_found, any_here, has_place, in_append, in_left, in_right}
use Rattle.agreement_law.proofs.Greatest.{is_for_true}
use Rattle.agreement_law.proofs.Grows.{agree}
use Rattle.agreement_law.proofs.Quorum.{majority_of, meet, most_in}

is_vote_true : (b k : ℕ) (v : Value) (x : Vote) → is_vote b k v x ≡ true → vote_of b k v ≡ x
is_vote_true b k v x e =
    let parts = and_parts _ _ e in
    let same = is_for_true b k x parts.0 in
    let value = same_value-true x.value v parts.1 in
    λ j. record { slot = record { 0 = sym same.1 j }; ballot = record { 0 = sym same.0 j }; value = sym value j }

is_vote_here : (b k : ℕ) (v : Value) → is_vote b k v (vote_of b k v) ≡ true
is_vote_here b k v =
    and_from (is_for b k (vote_of b k v)) (same_value v v)
    (and_from (b == b) (k == k) (eq-eqb b b refl) (eq-eqb k k refl)) (same_value-refl v)

voted_for_in : (lists : ℕ → List Payload) (b k : ℕ) (v : Value) (i : ℕ) → voted_for lists b k v i ≡ true → In (vote_of b k v) (votes (lists i))
voted_for_in lists b k v i e =
    let r = any_found (is_vote b k v) (votes (lists i)) e in
    subst (λ x. In x (votes (lists i))) (sym (is_vote_true b k v r.0 r.2)) r.1

pub chosen_most : (n : ℕ) (lists : ℕ → List Payload) (b k : ℕ) (v : Value) → is_chosen_in n lists b k v ≡ true → HasMost n lists b k v
chosen_most n lists b k v e = most_in n (voted_for lists b k v) (λ i. In (vote_of b k v) (votes (lists i))) e (λ i l t. voted_for_in lists b k v i t)

pub most_chosen : (n : ℕ) (lists : ℕ → List Payload) (b k : ℕ) (v : Value) → HasMost n lists b k v → is_chosen_in n lists b k v ≡ true
most_chosen n lists b k v h = majority_of n (voted_for lists b k v) (λ i. In (vote_of b k v) (votes (lists i))) h
    (λ i l a. any_here (is_vote b k v) (votes (lists i)) (vote_of b k v) a (is_vote_here b k v))

pub voted_in : (n : ℕ) (lists : ℕ → List Payload) (k : ℕ) (v : Value) → IsChosen n lists k v → IsVotedIn n lists k v
voted_in n lists k v h = (h.0, chosen_most n lists h.0 k v h.1)

pub is_chosen : (n : ℕ) (lists : ℕ → List Payload) (k : ℕ) (v : Value) → IsVotedIn n lists k v → IsChosen n lists k v
is_chosen n lists k v h = (h.0, most_chosen n lists h.0 k v h.1)

-- all votes
pub in_all : (n : ℕ) (lists : ℕ → List Payload) (i : ℕ) → i < n → (x : Vote) → In x (votes (lists i)) → In x (all_votes n lists)
in_all zero lists i h x a = absurd (omega arith)
in_all (suc n) lists i h x a = at (in_all n lists i) (order i n h)
  where
    order : (i n : ℕ) → i < suc n → (i < n) ⊎ (i ≡ n)
    order i n h = grind arith

    at : (i < n → (x : Vote) → In x (votes (lists i)) → In x (all_votes n lists)) → (i < n) ⊎ (i ≡ n) → In x (all_votes n lists ++ votes (lists n))
    at rest (inl below) = in_left x (all_votes n lists) (votes (lists n)) (rest below x a)
    at rest (inr e) = in_right x (all_votes n lists) (votes (lists n)) (subst (λ j. In x (votes (lists j))) e a)

pub from_all : (n : ℕ) (lists : ℕ → List Payload) (x : Vote) → In x (all_votes n lists) → (i : ℕ) × (i < n) × In x (votes (lists i))
from_all zero lists x a = absurd a
from_all (suc n) lists x a = at (from_all n lists x) (in_append x (all_votes n lists) (votes (lists n)) a)
  where
    at : (In x (all_votes n lists) → (i : ℕ) × (i < n) × In x (votes (lists i))) → In x (all_votes n lists) ⊎ In x (votes (lists n))
        → (i : ℕ) × (i < suc n) × In x (votes (lists i))
    at rest (inl b) = let r = rest b in (r.0, omega (arith, r.1), r.2)
    at rest (inr b) = (n, omega arith, b)

slot_below : (vs : List Vote) (x : Vote) → In x vs → x.slot.0 ≤ last_slot vs
slot_below [] x a = absurd a
slot_below (v ∷ vs) x (inl e) = let same : x.slot.0 ≡ v.slot.0 = ap (λ (w : Vote). w.slot.0) e in omega arith
slot_below (v ∷ vs) x (inr a) = omega (arith, slot_below vs x a)

-- the first vote that shows a chosen value
first_sound : (n : ℕ) (lists : ℕ → List Payload) (k : ℕ) (vs : List Vote) (v : Value) → first_chosen n lists k vs ≡ Some v → IsVotedIn n lists k v
first_sound n lists k [] v e = absurd (cc)
first_sound n lists k (x ∷ vs) v e = at (first_sound n lists k vs v) (shows_chosen n lists k x) refl e
  where
    at : (first_chosen n lists k vs ≡ Some v → IsVotedIn n lists k v) → (t : Bool) → shows_chosen n lists k x ≡ t
        → cond t (Some x.value) (first_chosen n lists k vs) ≡ Some v → IsVotedIn n lists k v
    at rest true s f =
        let parts = and_parts (x.slot.0 == k) (is_chosen_in n lists x.ballot.0 k x.value) s in
        let value : x.value ≡ v = cc in
        subst (λ u. IsVotedIn n lists k u) value (x.ballot.0, chosen_most n lists x.ballot.0 k x.value parts.1)
    at rest false s f = rest f

first_found : (n : ℕ) (lists : ℕ → List Payload) (k : ℕ) (vs : List Vote) (x : Vote) → In x vs → shows_chosen n lists k x ≡ true → (u : Value) × (first_chosen n lists k vs ≡ Some u)
first_found n lists k [] x a e = absurd a
first_found n lists k (y ∷ vs) x a e = at (first_found n lists k vs x) (shows_chosen n lists k y) refl a
  where
    at : (In x vs → shows_chosen n lists k x ≡ true → (u : Value) × (first_chosen n lists k vs ≡ Some u)) → (t : Bool) → shows_chosen n lists k y ≡ t
        → (x ≡ y) ⊎ In x vs → (u : Value) × (cond t (Some y.value) (first_chosen n lists k vs) ≡ Some u)
    at rest true s c = (y.value, refl)
    at rest false s (inl same) = absurd (let yes : shows_chosen n lists k y ≡ true = sym (ap (shows_chosen n lists k) same) ∙ e in cc)
    at rest false s (inr c) = rest c e

pub chosen_sound : (n : ℕ) (lists : ℕ → List Payload) (k : ℕ) (v : Value) → chosen_value n lists k ≡ Some v → IsVotedIn n lists k v
unfolding chosen_value
chosen_sound n lists k v e = first_sound n lists k (all_votes n lists) v e

-- a majority's vote stands in some list
some_vote : (n : ℕ) (lists : ℕ → List Payload) (b k : ℕ) (v : Value) → HasMost n lists b k v → In (vote_of b k v) (all_votes n lists)
some_vote n lists b k v h =
    let P = λ (i : ℕ). In (vote_of b k v) (votes (lists i)) in
    let r = meet n P P h h in
    in_all n lists r.0 r.1 (vote_of b k v) r.2

pub chosen_complete : (n : ℕ) (lists : ℕ → List Payload) (ps : List Vote) → Global n lists ps → (k : ℕ) (v : Value) → IsVotedIn n lists k v → chosen_value n lists k ≡ Some v
unfolding chosen_value
chosen_complete n lists ps g k v h =
    let shows : shows_chosen n lists k (vote_of h.0 k v) ≡ true = and_from (k == k) (is_chosen_in n lists h.0 k v) (eq-eqb k k refl) (most_chosen n lists h.0 k v h.1) in
    let found = first_found n lists k (all_votes n lists) (vote_of h.0 k v) (some_vote n lists h.0 k v h.1) shows in
    let same : found.0 ≡ v = agree n lists ps g k found.0 v (first_sound n lists k (all_votes n lists) found.0 found.1) h in
    found.1 ∙ ap Some same

-- the list of chosen values begins with any list of which each is chosen
prefix_from : (c : ℕ → Option Value) (count k : ℕ) (xs : List Value) → ((j : ℕ) (v : Value) → IsIn xs j v → c (k + j) ≡ Some v) → length xs ≤ count → IsPrefix xs (chosen_from c k count)
prefix_from c count k [] f h = (chosen_from c k count, refl)
prefix_from c zero k (x ∷ xs) f h = absurd (omega arith)
prefix_from c (suc count) k (x ∷ xs) f h =
    at (prefix_from c count (suc k) xs (λ j v a. later j v a) (omega arith))
  where
    later : (j : ℕ) (v : Value) → IsIn xs j v → c (suc k + j) ≡ Some v
    later j v a = let e : suc k + j ≡ k + suc j = omega arith in ap c e ∙ f (suc j) v a

    at : IsPrefix xs (chosen_from c (suc k) count) → IsPrefix (x ∷ xs) (chosen_or_end (c k) (chosen_from c (suc k) count))
    at r =
        let z : k ≡ k + 0 = omega arith in
        let here : c k ≡ Some x = ap c z ∙ f 0 x refl in
        (r.0, ap (λ vs. x ∷ vs) r.1 ∙ ap (λ o. chosen_or_end o (chosen_from c (suc k) count)) (sym here))

long_enough : (n : ℕ) (lists : ℕ → List Payload) (xs : List Value) → AreChosen n lists xs → length xs ≤ suc (last_slot (all_votes n lists))
long_enough n lists [] h = omega arith
long_enough n lists (x ∷ xs) h =
    let last = has_place (x ∷ xs) (length xs) (omega arith) in
    let voted = h (length xs) last.0 last.1 in
    let below = slot_below (all_votes n lists) (vote_of voted.0 (length xs) last.0) (some_vote n lists voted.0 (length xs) last.0 voted.1) in
    omega arith

pub known_prefix : (n : ℕ) (lists : ℕ → List Payload) (ps : List Vote) → Global n lists ps → (xs : List Value) → AreChosen n lists xs → IsPrefix xs (decided n lists)
unfolding decided
known_prefix n lists ps g xs h =
    prefix_from (chosen_value n lists) (suc (last_slot (all_votes n lists))) 0 xs
    (λ j v a. let z : 0 + j ≡ j = omega arith in ap (chosen_value n lists) z ∙ chosen_complete n lists ps g j v (h j v a))
    (long_enough n lists xs h)

place_from : (c : ℕ → Option Value) (count k j : ℕ) (v : Value) → IsIn (chosen_from c k count) j v → c (k + j) ≡ Some v
place_from c zero k j v a = absurd a
place_from c (suc count) k j v a = at (c k) refl (place_from c count (suc k)) j a
  where
    at : (o : Option Value) → c k ≡ o → ((j : ℕ) (v : Value) → IsIn (chosen_from c (suc k) count) j v → c (suc k + j) ≡ Some v)
        → (j : ℕ) → IsIn (chosen_or_end o (chosen_from c (suc k) count)) j v → c (k + j) ≡ Some v
    at None e rest j b = absurd b
    at (Some u) e rest zero b = let z : k + 0 ≡ k = omega arith in ap c z ∙ e ∙ ap Some b
    at (Some u) e rest (suc j) b = let z : k + suc j ≡ suc k + j = omega arith in ap c z ∙ rest j v b

pub decided_chosen : (n : ℕ) (lists : ℕ → List Payload) → AreChosen n lists (decided n lists)
unfolding decided
decided_chosen n lists = λ k v a.
    let z : 0 + k ≡ k = omega arith in
    chosen_sound n lists k v (sym (ap (chosen_value n lists) z) ∙ place_from (chosen_value n lists) (suc (last_slot (all_votes n lists))) 0 k v a)

-- each decided value is that of a vote in some list
pub decided_voted : (n : ℕ) (lists : ℕ → List Payload) (k : ℕ) (v : Value) → IsIn (decided n lists) k v → (b i : ℕ) × (i < n) × In (vote_of b k v) (votes (lists i))
decided_voted n lists k v a =
    let h = decided_chosen n lists k v a in
    let P = λ (i : ℕ). In (vote_of h.0 k v) (votes (lists i)) in
    let r = meet n P P h.1 h.1 in
    (h.0, r.0, r.1, r.2)

-- places of a list that has another one as its beginning
pub prefix_place : {A : Type 0} (front list : List A) → IsPrefix front list → (k : ℕ) (x : A) → IsIn front k x → IsIn list k x
prefix_place front list p k x a = subst (λ l. IsIn l k x) p.1 (longer front p.0 k x a)
  where
    longer : {A : Type 0} (front rest : List A) (k : ℕ) (x : A) → IsIn front k x → IsIn (front ++ rest) k x
    longer [] rest k x a = absurd a
    longer (y ∷ front) rest zero x a = a
    longer (y ∷ front) rest (suc k) x a = longer front rest k x a
