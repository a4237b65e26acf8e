-- Learning, promises that come in, and acceptances.
use Rattle.std.proofs.Common.{◌≡◌, ◌<◌, ◌≤◌, ◌+◌, ◌⊎◌, ℕ, suc, true, false, cond, ◌==◌, List, [], ◌∷◌, ◌++◌, length, slice_index_or, Option, Some, None, refl, sym, ap, subst, inl, inr, ⊎_elim, arith, eqb-true, eq-eqb, length-append, ◌∙◌}
use Rattle.std.proofs.lemmas.Bool.{cond_both}
use Rattle.std.proofs.lemmas.Bool.Decides.{nat_tests}
use Rattle.message_frame.specs.declared.messages.Vote.{Vote}
use Rattle.record_frame.specs.declared.values.Value.{Value}
use Rattle.paxos_model.specs.Leader.{Leader, Pending, drop_pending, is_of_slot, merge, with_acceptance, with_promise, without_slot}
use Rattle.paxos_model.specs.Learner.{learn}
use Rattle.paxos_model.specs.Majority.{is_marked, most}
use Rattle.paxos_model.specs.Votes.{Payload, greatest, keep, reports, vote_of, votes}
use Rattle.node_model.specs.OrdererNode.{Orderer}
use Rattle.node_model.specs.OrdererRow.{leader_after, learned}
use Rattle.agreement_law.specs.Elements.{In, IsIn}
use Rattle.agreement_law.specs.Invariant.{AreChosen, AreFilled, AreProposed, Covers, Global, IsGoodLead, IsGoodLeader, IsGoodOrderer, IsGoodPending, IsGoodPromised, IsGoodProposal, IsPendingSlot, IsReported, IsVotedIn}
use Rattle.agreement_law.proofs.Elements.{has_place, in_append, in_left, in_right, is_in_push}
use Rattle.agreement_law.proofs.Greatest.{greatest-append, length-merge, nth-merge, reports_cover}
use Rattle.agreement_law.proofs.Quorum.{marked_more, most_in}

-- the known slots are filled
pub known_filled : (n : ℕ) (lists : ℕ → List Payload) (known : List Value) → AreChosen n lists known → (k : ℕ) → k ≤ length known → AreFilled n lists k
known_filled n lists known h k reach = λ j below. let r = has_place known j (omega arith) in (r.0, h j r.0 r.1)

pub pushed_chosen : (n : ℕ) (lists : ℕ → List Payload) (known : List Value) (v : Value) → AreChosen n lists known → IsVotedIn n lists (length known) v
    → AreChosen n lists (known ++ v ∷ [])
pushed_chosen n lists known v h f = λ k u a. at k u (is_in_push known v k u a)
  where
    at : (k : ℕ) (u : Value) → IsIn known k u ⊎ ((k ≡ length known) × (v ≡ u)) → IsVotedIn n lists k u
    at k u (inl a) = h k u a
    at k u (inr e) = subst (λ (x : ℕ × Value). IsVotedIn n lists x.0 x.1) (λ j. (sym e.0 j, e.1 j)) f

pub learn_chosen : (n : ℕ) (lists : ℕ → List Payload) (known : List Value) (k : ℕ) (v : Value) → AreChosen n lists known → IsVotedIn n lists k v
    → AreChosen n lists (learn known k v)
unfolding learn
learn_chosen n lists known k v h f =
    cond_both (k == length known) (known ++ v ∷ []) known (λ vs. AreChosen n lists vs)
    (λ e. pushed_chosen n lists known v h (subst (λ j. IsVotedIn n lists j v) (eqb-true k (length known) e) f))
    (λ e. h)

pending_slot : (lists : ℕ → List Payload) (ps : List Vote) (b k s : ℕ) (p : Option Pending) → IsGoodPending lists ps b k p → IsPendingSlot p s → s ≡ k
pending_slot lists ps b k s None h a = absurd a
pending_slot lists ps b k s (Some p) h a = sym a ∙ h.next

-- a pending proposal of the slot that is learned is dropped, and it is of the next slot
dropped : (lists : ℕ → List Payload) (ps : List Vote) (b k : ℕ) (p : Option Pending) → IsGoodPending lists ps b k p → drop_pending p k ≡ None
dropped lists ps b k None h = refl
dropped lists ps b k (Some p) h = ap (λ t. cond t None (Some p)) (eq-eqb p.slot k h.next)

not_dropped : (lists : ℕ → List Payload) (ps : List Vote) (b k j : ℕ) (p : Option Pending) → (j == k) ≡ false → IsGoodPending lists ps b k p → drop_pending p j ≡ p
not_dropped lists ps b k j None e h = refl
not_dropped lists ps b k j (Some p) e h =
    let next = h.next in
    let other : (p.slot == j) ≡ false = grind (arith, nat_tests) in
    ap (λ t. cond t None (Some p)) other

next_slot : (n : ℕ) (lists : ℕ → List Payload) (ps : List Vote) (i k : ℕ) (l : Leader) → IsGoodLeader n lists ps i k l → IsGoodLeader n lists ps i (suc k) (without_slot l k)
next_slot n lists ps i k l h = record {
  mine = h.mine;
  reached = h.reached;
  used = λ x c e. inl (below x (h.used x c e));
  within = omega (arith, h.within);
  heard = h.heard;
  long = h.long;
  table = h.table;
  answers = h.answers;
  real = h.real;
  waits = subst (λ p. IsGoodPending lists ps l.ballot (suc k) p) (sym (dropped lists ps l.ballot k l.pending h.waits)) tt;
}
  where
    below : (x : Vote) → (x.slot.0 < k) ⊎ IsPendingSlot l.pending x.slot.0 → x.slot.0 < suc k
    below x (inl a) = omega arith
    below x (inr a) = omega (arith, pending_slot lists ps l.ballot k x.slot.0 l.pending h.waits a)

same_slot : (n : ℕ) (lists : ℕ → List Payload) (ps : List Vote) (i k j : ℕ) (l : Leader) → (j == k) ≡ false → IsGoodLeader n lists ps i k l → IsGoodLeader n lists ps i k (without_slot l j)
same_slot n lists ps i k j l e h =
    subst (λ p. IsGoodLeader n lists ps i k (record l { pending = p })) (sym (not_dropped lists ps l.ballot k j l.pending e h.waits)) h

leader_learns : (n : ℕ) (lists : ℕ → List Payload) (ps : List Vote) (i : ℕ) (known : List Value) (k : ℕ) (v : Value) (l : Leader)
    → IsGoodLeader n lists ps i (length known) l → IsGoodLeader n lists ps i (length (learn known k v)) (without_slot l k)
unfolding learn
leader_learns n lists ps i known k v l h =
    cond_both (k == length known) (known ++ v ∷ []) known (λ vs. IsGoodLeader n lists ps i (length vs) (without_slot l k))
    (λ e.
    let same : k ≡ length known = eqb-true k (length known) e in
    let long : suc (length known) ≡ length (known ++ v ∷ []) = omega (arith, length-append known (v ∷ [])) in
    subst (λ (x : ℕ × ℕ). IsGoodLeader n lists ps i x.0 (without_slot l x.1)) (λ j. (long j, sym same j)) (next_slot n lists ps i (length known) l h))
    (λ e. same_slot n lists ps i (length known) k l e h)

lead_learns : (n : ℕ) (lists : ℕ → List Payload) (ps : List Vote) (i : ℕ) (known : List Value) (k : ℕ) (v : Value) (l : Option Leader)
    → IsGoodLead n lists ps i (length known) l → IsGoodLead n lists ps i (length (learn known k v)) (leader_after l k)
lead_learns n lists ps i known k v None h = tt
lead_learns n lists ps i known k v (Some l) h = leader_learns n lists ps i known k v l h

pub learned_good : (n : ℕ) (lists : ℕ → List Payload) (ps : List Vote) (i : ℕ) (o : Orderer) (k : ℕ) (v : Value)
    → IsGoodOrderer n lists ps i o → IsVotedIn n lists k v → IsGoodOrderer n lists ps i (learned o k v)
unfolding learned
learned_good n lists ps i o k v h f = record {
  chosen = learn_chosen n lists o.known k v h.chosen f;
  leads = lead_learns n lists ps i o.known k v o.leader h.leads;
}

-- a promise comes in
pub promise_good : (n : ℕ) (lists : ℕ → List Payload) (ps : List Vote) (i k who : ℕ) (l : Leader) (vs : List Vote)
    → IsGoodLeader n lists ps i k l → IsGoodPromised (lists who) l.ballot l.window vs → AreProposed ps vs
    → IsGoodLeader n lists ps i k (with_promise l who vs)
promise_good n lists ps i k who l vs h told real = record {
  mine = h.mine;
  reached = h.reached;
  used = h.used;
  within = h.within;
  heard = h.heard ++ vs;
  long = length-merge l.window l.best vs ∙ h.long;
  table = table;
  answers = λ w m. answers w (marked_more l.answered who w m);
  real = λ x a. ⊎_elim (λ c. h.real x c) (λ c. real x c) (in_append x h.heard vs a);
  waits = h.waits;
}
  where
    table : (j : ℕ) → j < 64 → slice_index_or (merge l.window l.best vs) j None ≡ greatest (is_of_slot (l.window + j)) (h.heard ++ vs)
    table j below =
        nth-merge l.window l.best vs j (omega (arith, h.long))
        ∙ ap (λ o. keep o (greatest (is_of_slot (l.window + j)) vs)) (h.table j below)
        ∙ sym (greatest-append (is_of_slot (l.window + j)) h.heard vs)

    first : (y : Vote) → Covers h.heard y → Covers (h.heard ++ vs) y
    first y c = record { vote = c.vote; among = in_left c.vote h.heard vs c.among; slot = c.slot; above = c.above }

    second : (y : Vote) → Covers (reports l.ballot l.window 64 (votes (lists who))) y → Covers (h.heard ++ vs) y
    second y c = record {
      vote = c.vote;
      among = in_right c.vote h.heard vs (subst (λ ws. In c.vote ws) (sym told.listed) c.among);
      slot = c.slot;
      above = c.above;
    }

    new : IsReported (lists who) l.ballot l.window (h.heard ++ vs)
    new = record {
      reached = told.reached;
      covers = λ y a below from to. second y (reports_cover l.ballot l.window 64 (votes (lists who)) y a below from to);
    }

    old : (w : ℕ) → IsReported (lists w) l.ballot l.window h.heard → IsReported (lists w) l.ballot l.window (h.heard ++ vs)
    old w r = record { reached = r.reached; covers = λ y a below from to. first y (r.covers y a below from to) }

    answers : (w : ℕ) → (w ≡ who) ⊎ (is_marked l.answered w ≡ true) → IsReported (lists w) l.ballot l.window (h.heard ++ vs)
    answers w (inl e) = subst (λ j. IsReported (lists j) l.ballot l.window (h.heard ++ vs)) (sym e) new
    answers w (inr m) = old w (h.answers w m)

-- an acceptance comes in: the vote is of the proposal's value
pub acceptance_good : (n : ℕ) (lists : ℕ → List Payload) (ps : List Vote) (b k who : ℕ) (p : Pending)
    → Global n lists ps → IsGoodProposal lists ps b k p → (u : Value) → In (vote_of b p.slot u) (votes (lists who))
    → IsGoodProposal lists ps b k (with_acceptance p who)
acceptance_good n lists ps b k who p g h u vote = record {
  next = h.next;
  proposed = h.proposed;
  counted = λ w m. at w (marked_more p.accepted who w m);
}
  where
    same : u ≡ p.value
    same = g.unique (vote_of b p.slot u) (vote_of b p.slot p.value) (g.voted who (vote_of b p.slot u) vote) h.proposed refl refl

    at : (w : ℕ) → (w ≡ who) ⊎ (is_marked p.accepted w ≡ true) → In (vote_of b p.slot p.value) (votes (lists w))
    at w (inl e) = subst (λ (x : Value × ℕ). In (vote_of b p.slot x.0) (votes (lists x.1))) (λ j. (same j, sym e j)) vote
    at w (inr m) = h.counted w m

-- with a majority of acceptances the value is chosen
pub majority_chosen : (n : ℕ) (lists : ℕ → List Payload) (ps : List Vote) (b k : ℕ) (p : Pending)
    → IsGoodProposal lists ps b k p → most n p.accepted ≡ true → IsVotedIn n lists p.slot p.value
majority_chosen n lists ps b k p h e =
    (b, most_in n (is_marked p.accepted) (λ i. In (vote_of b p.slot p.value) (votes (lists i))) e (λ i l m. h.counted i m))

-- a leader with another proposal of the same slot waiting
pub waiting_good : (n : ℕ) (lists : ℕ → List Payload) (ps : List Vote) (i k : ℕ) (l : Leader) (p q : Pending) → l.pending ≡ Some p → q.slot ≡ p.slot
    → IsGoodLeader n lists ps i k l → IsGoodProposal lists ps l.ballot k q → IsGoodLeader n lists ps i k (record l { pending = Some q })
waiting_good n lists ps i k l p q e same h new = record {
  mine = h.mine;
  reached = h.reached;
  used = λ x c f. ⊎_elim (λ a. inl a) (λ a. inr (same ∙ subst (λ w. IsPendingSlot w x.slot.0) e a)) (h.used x c f);
  within = h.within;
  heard = h.heard;
  long = h.long;
  table = h.table;
  answers = h.answers;
  real = h.real;
  waits = new;
}
