-- The greatest votes of a list, and the reports of a window.
use Rattle.std.proofs.Common.{◌≡◌, ◌<◌, ◌≤◌, ◌+◌, ◌⊎◌, ℕ, zero, suc, max, Bool, true, false, cond, nat_lt, ◌==◌, List, [], ◌∷◌, ◌++◌, length, slice_index_or, replicate, Option, Some, None, refl, sym, ap, ap₂, subst, inl, inr, ⊎_elim, arith, eqb-true, ltb-true, ltb-false, ◌∙◌}
use Rattle.std.proofs.lemmas.Bool.{cond_both, and_parts}
use Rattle.std.proofs.lemmas.Bool.Decides.{nat_tests}
use Rattle.message_frame.specs.declared.messages.Vote.{Vote}
use Rattle.record_frame.specs.declared.values.Value.{Value}
use Rattle.paxos_model.specs.Leader.{merge, no_votes, is_of_slot}
use Rattle.paxos_model.specs.Votes.{Payload, Promise, Voted, vote_of, promised, votes, is_for, has_vote, greater, keep, greatest, counts, put_first, reports}
use Rattle.agreement_law.specs.Elements.{In}
use Rattle.agreement_law.specs.Invariant.{Covers, NoVote}
use Rattle.agreement_law.proofs.Elements.{any_found, any_none}

pub promised-push : (list : List Payload) (p : Payload) → promised (list ++ p ∷ []) ≡ max (promised list) (promised (p ∷ []))
promised-push [] p = omega arith
promised-push (Promise b ∷ list) p = omega (arith, promised-push list p)
promised-push (Voted v ∷ list) p = omega (arith, promised-push list p)

pub votes-push : (list : List Payload) (p : Payload) → votes (list ++ p ∷ []) ≡ votes list ++ votes (p ∷ [])
votes-push [] p = refl
votes-push (Promise b ∷ list) p = votes-push list p
votes-push (Voted v ∷ list) p = ap (λ vs. v ∷ vs) (votes-push list p)

pub is_for_true : (b k : ℕ) (v : Vote) → is_for b k v ≡ true → (v.ballot.0 ≡ b) × (v.slot.0 ≡ k)
is_for_true b k v e =
    let r = and_parts _ _ e in
    (eqb-true v.ballot.0 b r.0, eqb-true v.slot.0 k r.1)

pub has_vote_found : (list : List Payload) (b k : ℕ) → has_vote (votes list) b k ≡ true → (u : Value) × In (vote_of b k u) (votes list)
has_vote_found list b k e =
    let r = any_found (is_for b k) (votes list) e in
    let same = is_for_true b k r.0 r.2 in
    (r.0.value, subst (λ (x : ℕ × ℕ). In (vote_of x.0 x.1 r.0.value) (votes list)) (λ i. (same.0 i, same.1 i)) r.1)

pub has_vote_none : (list : List Payload) (b k : ℕ) → has_vote (votes list) b k ≡ false → NoVote list b k
has_vote_none list b k e x h sb sk =
    let no = any_none (is_for b k) (votes list) e x h in
    let yes : is_for b k x ≡ true = grind (arith, nat_tests) in
    absurd (cc)

pub keep_from : (a b : Option Vote) (x : Vote) → keep a b ≡ Some x → (a ≡ Some x) ⊎ (b ≡ Some x)
keep_from None b x e = inr e
keep_from (Some v) None x e = inl e
keep_from (Some v) (Some w) x e =
    at (nat_lt v.ballot.0 w.ballot.0) e
  where
    at : (t : Bool) → Some (cond t w v) ≡ Some x → (Some v ≡ Some x) ⊎ (Some w ≡ Some x)
    at true e = inr e
    at false e = inl e

-- what is kept is as great as each of the two
pub keep_left : (v : Vote) (b : Option Vote) → (x : Vote) × (keep (Some v) b ≡ Some x) × (v.ballot.0 ≤ x.ballot.0)
keep_left v None = (v, refl, omega arith)
keep_left v (Some w) =
    (greater v w, refl, cond_both (nat_lt v.ballot.0 w.ballot.0) w v (λ (x : Vote). v.ballot.0 ≤ x.ballot.0) (λ e. omega (arith, ltb-true v.ballot.0 w.ballot.0 e)) (λ e. omega arith))

pub keep_right : (a : Option Vote) (w : Vote) → (x : Vote) × (keep a (Some w) ≡ Some x) × (w.ballot.0 ≤ x.ballot.0)
keep_right None w = (w, refl, omega arith)
keep_right (Some v) w =
    (greater v w, refl, cond_both (nat_lt v.ballot.0 w.ballot.0) w v (λ (x : Vote). w.ballot.0 ≤ x.ballot.0) (λ e. omega arith) (λ e. omega (arith, ltb-false v.ballot.0 w.ballot.0 e)))

pub keep-none : (a : Option Vote) → keep a None ≡ a
keep-none None = refl
keep-none (Some v) = refl

pub greater_assoc : (u v w : Vote) → greater (greater u v) w ≡ greater u (greater v w)
greater_assoc u v w = grind (arith, nat_tests)

pub keep_assoc : (a b c : Option Vote) → keep (keep a b) c ≡ keep a (keep b c)
keep_assoc None b c = refl
keep_assoc (Some u) None c = refl
keep_assoc (Some u) (Some v) None = refl
keep_assoc (Some u) (Some v) (Some w) = ap Some (greater_assoc u v w)

-- the greatest is one of the votes, and passes the test
pub greatest_from : (t : Vote → Bool) (vs : List Vote) (x : Vote) → greatest t vs ≡ Some x → In x vs × (t x ≡ true)
greatest_from t [] x e = absurd (cc)
greatest_from t (v ∷ vs) x e = at (greatest_from t vs x) (t v) refl (keep_from (cond (t v) (Some v) None) (greatest t vs) x e)
  where
    at : (greatest t vs ≡ Some x → In x vs × (t x ≡ true)) → (b : Bool) → t v ≡ b → (cond (t v) (Some v) None ≡ Some x) ⊎ (greatest t vs ≡ Some x) → In x (v ∷ vs) × (t x ≡ true)
    at rest true f (inl h) = let same : x ≡ v = cc in (inl same, ap t same ∙ f)
    at rest false f (inl h) = absurd (cc)
    at rest b f (inr h) = let r = rest h in (inr r.0, r.1)

-- none that passes the test is greater
pub greatest_above : (t : Vote → Bool) (vs : List Vote) (y : Vote) → In y vs → t y ≡ true → (x : Vote) × (greatest t vs ≡ Some x) × (y.ballot.0 ≤ x.ballot.0)
greatest_above t [] y h e = absurd h
greatest_above t (v ∷ vs) y (inl h) e =
    let here : t v ≡ true = sym (ap t h) ∙ e in
    let r = keep_left v (greatest t vs) in
    let same : v.ballot.0 ≡ y.ballot.0 = ap (λ (u : Vote). u.ballot.0) (sym h) in
    (r.0, ap (λ b. keep (cond b (Some v) None) (greatest t vs)) here ∙ r.1, omega (arith, r.2))
greatest_above t (v ∷ vs) y (inr h) e =
    let r = greatest_above t vs y h e in
    let q = keep_right (cond (t v) (Some v) None) r.0 in
    (q.0, ap (λ o. keep (cond (t v) (Some v) None) o) r.1 ∙ q.1, omega (arith, r.2, q.2))

pub greatest-append : (t : Vote → Bool) (xs ys : List Vote) → greatest t (xs ++ ys) ≡ keep (greatest t xs) (greatest t ys)
greatest-append t [] ys = refl
greatest-append t (x ∷ xs) ys =
    ap (λ o. keep (cond (t x) (Some x) None) o) (greatest-append t xs ys)
    ∙ sym (keep_assoc (cond (t x) (Some x) None) (greatest t xs) (greatest t ys))

-- a vote that does not pass changes nothing
greatest-push : (t : Vote → Bool) (vs : List Vote) (x : Vote) → t x ≡ false → greatest t (vs ++ x ∷ []) ≡ greatest t vs
greatest-push t vs x e =
    greatest-append t vs (x ∷ [])
    ∙ ap (λ b. keep (greatest t vs) (keep (cond b (Some x) None) None)) e
    ∙ keep-none (greatest t vs)

not_counted : (b k : ℕ) (x : Vote) → b ≤ x.ballot.0 → counts b k x ≡ false
not_counted b k x h = grind (arith, nat_tests)

pub reports-push : (b f n : ℕ) (vs : List Vote) (x : Vote) → b ≤ x.ballot.0 → reports b f n (vs ++ x ∷ []) ≡ reports b f n vs
unfolding reports
reports-push b f zero vs x h = refl
reports-push b f (suc n) vs x h =
    ap₂ put_first (greatest-push (counts b f) vs x (not_counted b f x h)) (reports-push b (suc f) n vs x h)

in_put_first : (o : Option Vote) (vs : List Vote) (x : Vote) → In x (put_first o vs) → (o ≡ Some x) ⊎ In x vs
in_put_first None vs x h = inr h
in_put_first (Some v) vs x (inl e) = inl (ap Some (sym e))
in_put_first (Some v) vs x (inr h) = inr h

put_first_rest : (o : Option Vote) (vs : List Vote) (x : Vote) → In x vs → In x (put_first o vs)
put_first_rest None vs x h = h
put_first_rest (Some v) vs x h = inr h

put_first_here : (o : Option Vote) (vs : List Vote) (x : Vote) → o ≡ Some x → In x (put_first o vs)
put_first_here o vs x e = subst (λ q. In x (put_first q vs)) (sym e) (inl refl)

-- each report is a vote of the list
pub reports_from : (b f n : ℕ) (vs : List Vote) (x : Vote) → In x (reports b f n vs) → In x vs
unfolding reports
reports_from b f zero vs x h = absurd h
reports_from b f (suc n) vs x h =
    ⊎_elim (λ e. (greatest_from (counts b f) vs x e).0) (λ r. reports_from b (suc f) n vs x r)
    (in_put_first (greatest (counts b f) vs) (reports b (suc f) n vs) x h)

counts_slot : (b k : ℕ) (x : Vote) → counts b k x ≡ true → (x.slot.0 ≡ k) × (x.ballot.0 < b)
counts_slot b k x e =
    let r = and_parts _ _ e in
    (eqb-true x.slot.0 k r.1, ltb-true x.ballot.0 b r.0)

more_covers : (o : Option Vote) (vs : List Vote) (y : Vote) → Covers vs y → Covers (put_first o vs) y
more_covers o vs y c = record { vote = c.vote; among = put_first_rest o vs c.vote c.among; slot = c.slot; above = c.above }

-- each vote below the ballot, in the window, is covered by a report
pub reports_cover : (b f n : ℕ) (vs : List Vote) (y : Vote) → In y vs → y.ballot.0 < b → f ≤ y.slot.0 → y.slot.0 < f + n → Covers (reports b f n vs) y
unfolding reports
reports_cover b f zero vs y h below from to = absurd (omega arith)
reports_cover b f (suc n) vs y h below from to =
    at (reports_cover b (suc f) n vs y h below) (y.slot.0 == f) refl
  where
    at : (suc f ≤ y.slot.0 → y.slot.0 < suc f + n → Covers (reports b (suc f) n vs) y) → (t : Bool) → (y.slot.0 == f) ≡ t
        → Covers (put_first (greatest (counts b f) vs) (reports b (suc f) n vs)) y
    at rest true e =
        let same : y.slot.0 ≡ f = eqb-true y.slot.0 f e in
        let passes : counts b f y ≡ true = grind (arith, nat_tests) in
        let r = greatest_above (counts b f) vs y h passes in
        let told = greatest_from (counts b f) vs r.0 r.1 in
        let slot = (counts_slot b f r.0 told.1).0 in
        record {
          vote = r.0;
          among = put_first_here (greatest (counts b f) vs) (reports b (suc f) n vs) r.0 r.1;
          slot = slot ∙ sym same;
          above = r.2;
        }
    at rest false e =
        let other : suc f ≤ y.slot.0 = grind (arith, nat_tests) in
        more_covers (greatest (counts b f) vs) (reports b (suc f) n vs) y (rest other (omega arith))

-- the table of the best votes
pub length-merge : (s : ℕ) (os : List (Option Vote)) (vs : List Vote) → length (merge s os vs) ≡ length os
unfolding merge
length-merge s [] vs = refl
length-merge s (o ∷ os) vs = ap suc (length-merge (suc s) os vs)

pub nth-merge : (s : ℕ) (os : List (Option Vote)) (vs : List Vote) (j : ℕ) → j < length os
    → slice_index_or (merge s os vs) j None ≡ keep (slice_index_or os j None) (greatest (is_of_slot (s + j)) vs)
unfolding merge
nth-merge s [] vs j h = absurd (omega arith)
nth-merge s (o ∷ os) vs zero h = let z : s ≡ s + 0 = omega arith in ap (λ k. keep o (greatest (is_of_slot k) vs)) z
nth-merge s (o ∷ os) vs (suc j) h =
    let z : suc s + j ≡ s + suc j = omega arith in
    nth-merge (suc s) os vs j (omega arith) ∙ ap (λ k. keep (slice_index_or os j None) (greatest (is_of_slot k) vs)) z

abbrev no_vote : Option Vote
no_vote = None

nth-none : (n j : ℕ) → slice_index_or (replicate n no_vote) j None ≡ None
nth-none zero j = refl
nth-none (suc n) zero = refl
nth-none (suc n) (suc j) = nth-none n j

pub nth-no_votes : (j : ℕ) → slice_index_or no_votes j None ≡ None
unfolding no_votes
nth-no_votes j = nth-none 64 j

pub length-no_votes : length no_votes ≡ 64
unfolding no_votes
length-no_votes = refl
