-- The best votes of a window, as votes are merged into them.
use Rattle.std.proofs.Common.{◌≡◌, ◌≢◌, ◌<◌, ◌+◌, ℕ, zero, suc, Bool, false, cond, ◌==◌, List, [], ◌∷◌, ◌++◌, length, get_or, set, take, Option, Some, None, refl, sym, ap, ap₂, eq-eqb, arith, ◌∙◌}
use Rattle.std.proofs.lemmas.Bool.Decides.{nat_tests}
use Rattle.std.proofs.lemmas.List.{take_more}
use Rattle.message_frame.specs.declared.messages.Vote.{Vote}
use Rattle.paxos_model.specs.Leader.{merge, is_of_slot}
use Rattle.paxos_model.specs.Votes.{greater, keep, greatest}

pub keep-none : (a : Option Vote) → keep a None ≡ a
keep-none None = refl
keep-none (Some v) = refl

greater_assoc : (u v w : Vote) → greater (greater u v) w ≡ greater u (greater v w)
greater_assoc u v w = grind (arith, nat_tests)

pub keep_assoc : (a b c : Option Vote) → keep (keep a b) c ≡ keep a (keep b c)
keep_assoc None b c = refl
keep_assoc (Some u) None c = refl
keep_assoc (Some u) (Some v) None = refl
keep_assoc (Some u) (Some v) (Some w) = ap Some (greater_assoc u v w)

pub greatest-append : (t : Vote → Bool) (xs ys : List Vote) → greatest t (xs ++ ys) ≡ keep (greatest t xs) (greatest t ys)
greatest-append t [] ys = refl
greatest-append t (x ∷ xs) ys =
    ap (λ o. keep (cond (t x) (Some x) None) o) (greatest-append t xs ys)
    ∙ sym (keep_assoc (cond (t x) (Some x) None) (greatest t xs) (greatest t ys))

one_more : (a b : Option Vote) (xs ys : List (Option Vote)) → a ≡ b → xs ≡ ys → a ∷ xs ≡ b ∷ ys
one_more a b xs ys first rest = ap₂ (λ (o : Option Vote) (os : List (Option Vote)). o ∷ os) first rest

-- no votes change nothing
pub merge-nil : (from : ℕ) (best : List (Option Vote)) → merge from best [] ≡ best
unfolding merge
merge-nil from [] = refl
merge-nil from (o ∷ os) = one_more _ _ _ _ (keep-none o) (merge-nil (suc from) os)

-- votes may be merged one after the other
pub merge-append : (from : ℕ) (best : List (Option Vote)) (xs ys : List Vote) → merge from (merge from best xs) ys ≡ merge from best (xs ++ ys)
unfolding merge
merge-append from [] xs ys = refl
merge-append from (o ∷ os) xs ys =
    one_more _ _ _ _
    (keep_assoc o (greatest (is_of_slot from) xs) (greatest (is_of_slot from) ys) ∙ ap (λ a. keep o a) (sym (greatest-append (is_of_slot from) xs ys)))
    (merge-append (suc from) os xs ys)

missed : (o : Option Vote) (slot : ℕ) (vote : Vote) → vote.slot.0 ≢ slot → keep o (greatest (is_of_slot slot) (vote ∷ [])) ≡ o
missed o slot vote other =
    let no : (vote.slot.0 == slot) ≡ false = grind (arith, nat_tests) in
    ap (λ b. keep o (keep (cond b (Some vote) None) None)) no ∙ keep-none o

hit : (o : Option Vote) (slot : ℕ) (vote : Vote) → vote.slot.0 ≡ slot → keep o (greatest (is_of_slot slot) (vote ∷ [])) ≡ keep o (Some vote)
hit o slot vote same = ap (λ b. keep o (keep (cond b (Some vote) None) None)) (eq-eqb vote.slot.0 slot same)

-- a vote of no slot of the window changes nothing
pub merge_outside : (from : ℕ) (best : List (Option Vote)) (vote : Vote)
    → ((place : ℕ) → place < length best → vote.slot.0 ≢ from + place) → merge from best (vote ∷ []) ≡ best
unfolding merge
merge_outside from [] vote outside = refl
merge_outside from (o ∷ os) vote outside =
    one_more _ _ _ _
    (missed o from vote (λ same. outside 0 (omega arith) (omega (arith, same))))
    (merge_outside (suc from) os vote (λ place below same. outside (suc place) (omega (arith, below)) (omega (arith, same))))

-- a vote of a slot of the window is merged at its place
pub merge_at : (from : ℕ) (best : List (Option Vote)) (vote : Vote) (place : ℕ) → place < length best → vote.slot.0 ≡ from + place
    → merge from best (vote ∷ []) ≡ set best place (keep (get_or best place None) (Some vote))
unfolding merge
merge_at from [] vote place below is = absurd (omega arith)
merge_at from (o ∷ os) vote zero below is =
    one_more _ _ _ _
    (hit o from vote (omega arith))
    (merge_outside (suc from) os vote (λ place inside same. omega (arith, inside, same, is)))
merge_at from (o ∷ os) vote (suc place) below is =
    one_more _ _ _ _
    (missed o from vote (λ same. omega (arith, same, is)))
    (merge_at (suc from) os vote place (omega arith) (omega arith))

-- one more vote of a list is merged
pub merge_more : (from : ℕ) (best now : List (Option Vote)) (votes : List Vote) (i : ℕ) (d : Vote) → i < length votes
    → now ≡ merge from best (take i votes) → merge from now (get_or votes i d ∷ []) ≡ merge from best (take (i + 1) votes)
merge_more from best now votes i d inside so_far =
    ap (λ (os : List (Option Vote)). merge from os (get_or votes i d ∷ [])) so_far
    ∙ merge-append from best (take i votes) (get_or votes i d ∷ [])
    ∙ ap (λ (vs : List Vote). merge from best vs) (sym (take_more votes i d inside))
