-- From a sound start, over every legal history: what holds is the law.
use Rattle.std.proofs.Common.{◌≡◌, ◌<◌, ◌≤◌, ◌%◌, ◌⊎◌, ℕ, zero, suc, Bool, true, false, cond, nat_lt, List, [], ◌∷◌, ◌++◌, length, refl, sym, ap, subst, inl, inr, arith, ltb-true, lt-ltb, length-append}
use Rattle.std.proofs.lemmas.Bool.{cond_both, cond-true}
use Rattle.history_frame.specs.declared.events.Event.{Event}
use Rattle.log_base.specs.ClusterShape.{Shape}
use Rattle.message_frame.specs.declared.messages.Message.{Message}
use Rattle.message_frame.specs.declared.messages.Message.TheVariants.{Copy, CopyAck, Report, Least, Prepare, Promised, Lower, Accept, Accepted, Decide, Want}
use Rattle.message_frame.specs.declared.messages.Vote.{Vote}
use Rattle.record_frame.specs.declared.values.Value.{Value}
use Rattle.paxos_model.specs.Votes.{Payload, promised, vote_of, votes}
use Rattle.node_model.specs.Marks.{Running, Stopped}
use Rattle.node_model.specs.Chosen.{all_votes, decided}
use Rattle.node_model.specs.Histories.{durable_after, orderer_after, sent_in}
use Rattle.node_model.specs.OrdererLegal.{IsOrdererLegal}
use Rattle.node_model.specs.OrdererNode.{Mode, Node, at_first, known_of}
use Rattle.agreement_law.specs.Elements.{In, IsIn, IsPrefix}
use Rattle.agreement_law.specs.Invariant.{AreChosen, AreFilled, Global, Holds, IsGoodLead, IsGoodMode, IsOpenAt, IsTrueMessage, IsVotedIn, Keeps, lists_of}
use Rattle.agreement_law.specs.Statements.{AnswersAreTrue, BallotsAreOwned, IsAgreed, IsMessageSent, IsOfBallot, IsPaxosSound, IsTrueAnswer, IsTruePromise, IsUsed, NoRivalIsOpen, PromisesAreTrue}
use Rattle.agreement_law.proofs.Bridge.{holds_after, legal_front, legal_rest}
use Rattle.agreement_law.proofs.Decided.{decided_chosen, from_all, in_all, is_chosen, known_prefix, prefix_place, voted_in}
use Rattle.agreement_law.proofs.Grows.{agree}
use Rattle.agreement_law.proofs.Learn.{pushed_chosen}
use Rattle.agreement_law.proofs.Quorum.{most_weaker}

-- the lists at the start
pub first_list : (shape : Shape) (kept : ℕ → List Payload) (i : ℕ) → i < shape.orderers → durable_after shape kept [] i ≡ kept i
first_list shape kept i h = ap (λ (nd : Node). nd.durable) (cond-true (nat_lt i shape.orderers) (at_first (kept i)) (at_first []) (lt-ltb i shape.orderers h))

no_list : (shape : Shape) (kept : ℕ → List Payload) (i : ℕ) → shape.orderers ≤ i → durable_after shape kept [] i ≡ []
no_list shape kept i h = at (nat_lt i shape.orderers) refl
  where
    at : (t : Bool) → nat_lt i shape.orderers ≡ t → (cond t (at_first (kept i)) (at_first [])).durable ≡ []
    at true e = absurd (let below = ltb-true i shape.orderers e in omega arith)
    at false e = refl

-- a vote stands in the lists at the start exactly if it was kept
was_kept : (shape : Shape) (kept : ℕ → List Payload) (j : ℕ) (x : Vote) → In x (votes (durable_after shape kept [] j)) → In x (all_votes shape.orderers kept)
was_kept shape kept j x a = at (order j shape.orderers)
  where
    order : (a b : ℕ) → (a < b) ⊎ (b ≤ a)
    order a b = grind arith

    at : (j < shape.orderers) ⊎ (shape.orderers ≤ j) → In x (all_votes shape.orderers kept)
    at (inl h) = in_all shape.orderers kept j h x (subst (λ l. In x (votes l)) (first_list shape kept j h) a)
    at (inr h) = absurd (subst (λ l. In x (votes l)) (no_list shape kept j h) a)

first_global : (shape : Shape) (kept : ℕ → List Payload) → IsPaxosSound shape.orderers kept → Global shape.orderers (durable_after shape kept []) (all_votes shape.orderers kept)
first_global shape kept s = record {
  unique = λ x y a b e f. s.unique x y (from_all shape.orderers kept x a) (from_all shape.orderers kept y b) e f;
  owned = λ x a.
      let from = from_all shape.orderers kept x a in
      let some : 0 < shape.orderers = omega (arith, from.1) in
      let low = s.owned x from in
      subst (λ l. x.ballot.0 ≤ promised l) (sym (first_list shape kept (x.ballot.0 % shape.orderers) (omega arith))) low;
  voted = λ j x a. was_kept shape kept j x a;
  safe = λ x a b u below opened. s.safe x (from_all shape.orderers kept x a) b u below
      (most_weaker shape.orderers (λ i. IsOpenAt (durable_after shape kept [] i) b x.slot.0 u) (λ i. IsOpenAt (kept i) b x.slot.0 u)
      (λ i l c. subst (λ list. IsOpenAt list b x.slot.0 u) (first_list shape kept i l) c) opened);
}

-- at the start all holds
pub start_holds : (shape : Shape) (kept : ℕ → List Payload) → IsPaxosSound shape.orderers kept → Holds shape.orderers (orderer_after shape kept []) (sent_in [])
start_holds shape kept s = (
  all_votes shape.orderers kept,
  record {
    global = first_global shape kept s;
    letters_true = λ t a. absurd a;
    modes = λ i. cond_both (nat_lt i shape.orderers) (at_first (kept i)) (at_first []) (λ (nd : Node). IsGoodMode shape.orderers (durable_after shape kept []) (all_votes shape.orderers kept) i nd.mode)
        (λ e. (tt, λ k v a. absurd a)) (λ e. (tt, λ k v a. absurd a));
  },
)

pub history_holds : (shape : Shape) (kept : ℕ → List Payload) (events : List Event) → IsPaxosSound shape.orderers kept → IsOrdererLegal shape kept events
    → Holds shape.orderers (orderer_after shape kept events) (sent_in events)
history_holds shape kept events s legal = (holds_after shape kept [] events (start_holds shape kept s) legal).holds

mode_chosen : (n : ℕ) (lists : ℕ → List Payload) (ps : List Vote) (i : ℕ) (m : Mode) → IsGoodMode n lists ps i m → AreChosen n lists (known_of m)
mode_chosen n lists ps i (Stopped flight known) h = h.1
mode_chosen n lists ps i (Running o) h = h.chosen

-- a list of chosen values for all slots below one
fill : (n : ℕ) (lists : ℕ → List Payload) (k : ℕ) → AreFilled n lists k → (xs : List Value) × (length xs ≡ k) × AreChosen n lists xs
fill n lists zero h = ([], refl, λ k v a. absurd a)
fill n lists (suc k) h = at (fill n lists k (λ j l. h j (omega arith)))
  where
    at : (xs : List Value) × (length xs ≡ k) × AreChosen n lists xs → (xs : List Value) × (length xs ≡ suc k) × AreChosen n lists xs
    at r =
        let next = h k (omega arith) in (
          r.0 ++ next.0 ∷ [],
          omega (arith, length-append r.0 (next.0 ∷ []), r.1),
          pushed_chosen n lists r.0 next.0 r.2 (subst (λ j. IsVotedIn n lists j next.0) (sym r.1) next.1),
        )

is_in_last : {A : Type 0} (xs : List A) (x : A) → IsIn (xs ++ x ∷ []) (length xs) x
is_in_last [] x = refl
is_in_last (y ∷ xs) x = is_in_last xs x

-- what is told to be decided stands in the decided list
decided_place : (n : ℕ) (lists : ℕ → List Payload) (ps : List Vote) → Global n lists ps → (k : ℕ) (v : Value) → IsVotedIn n lists k v → AreFilled n lists k → IsIn (decided n lists) k v
decided_place n lists ps g k v h f =
    let below = fill n lists k f in
    let chosen = pushed_chosen n lists below.0 v below.2 (subst (λ j. IsVotedIn n lists j v) (sym below.1) h) in
    prefix_place (below.0 ++ v ∷ []) (decided n lists) (known_prefix n lists ps g (below.0 ++ v ∷ []) chosen) k v
    (subst (λ j. IsIn (below.0 ++ v ∷ []) j v) below.1 (is_in_last below.0 v))

-- the law, of any nodes and letters of which all holds
pub agreed_of : (shape : Shape) (kept : ℕ → List Payload) (events : List Event) → Holds shape.orderers (orderer_after shape kept events) (sent_in events) → IsAgreed shape kept events
agreed_of shape kept events h = record {
  one_value = λ k u v a b. agree shape.orderers (durable_after shape kept events) h.0 h.1.global k u v
      (voted_in shape.orderers (durable_after shape kept events) k u a) (voted_in shape.orderers (durable_after shape kept events) k v b);
  known = λ i. known_prefix shape.orderers (durable_after shape kept events) h.0 h.1.global (known_of (orderer_after shape kept events i).mode)
      (mode_chosen shape.orderers (durable_after shape kept events) h.0 i (orderer_after shape kept events i).mode (h.1.modes i));
  chosen = λ k v a. is_chosen shape.orderers (durable_after shape kept events) k v (decided_chosen shape.orderers (durable_after shape kept events) k v a);
  whole = λ k v a f. decided_place shape.orderers (durable_after shape kept events) h.0 h.1.global k v
      (voted_in shape.orderers (durable_after shape kept events) k v a)
      (λ j below. let r = f j below in (r.0, voted_in shape.orderers (durable_after shape kept events) j r.0 r.1));
}

-- each letter that was sent is true
sent_true : (shape : Shape) (node : ℕ → Node) (events : List Event) (ps : List Vote) → Keeps shape.orderers node (sent_in events) ps
    → (m : Message) → IsMessageSent events m → IsTrueMessage shape.orderers (lists_of node) ps m
sent_true shape node events ps k m s = subst (λ w. IsTrueMessage shape.orderers (lists_of node) ps w) s.2 (k.letters_true s.0 s.1)

owner_promised : (n : ℕ) (lists : ℕ → List Payload) (ps : List Vote) → Global n lists ps → (m : Message) (b : ℕ) → IsTrueMessage n lists ps m → IsOfBallot b m → b ≤ promised (lists (b % n))
owner_promised n lists ps g (Prepare c f) b h e = subst (λ x. x ≤ promised (lists (x % n))) e h
owner_promised n lists ps g (Promised c f w vs) b h e = subst (λ x. x ≤ promised (lists (x % n))) e h.0
owner_promised n lists ps g (Lower c p) b h e = subst (λ x. x ≤ promised (lists (x % n))) e h
owner_promised n lists ps g (Accept c k v) b h e = subst (λ x. x ≤ promised (lists (x % n))) e (g.owned (vote_of c.0 k.0 v) h)
owner_promised n lists ps g (Accepted c k w) b h e = subst (λ x. x ≤ promised (lists (x % n))) e h.0
owner_promised n lists ps g (Decide k v) b h e = absurd e
owner_promised n lists ps g (Copy segment offset entry) b h e = absurd e
owner_promised n lists ps g (CopyAck peer held) b h e = absurd e
owner_promised n lists ps g (Report shard replica lengths) b h e = absurd e
owner_promised n lists ps g (Least shard lengths) b h e = absurd e
owner_promised n lists ps g (Want from node) b h e = absurd e

used_proposed : (shape : Shape) (kept : ℕ → List Payload) (events : List Event) (ps : List Vote) → Keeps shape.orderers (orderer_after shape kept events) (sent_in events) ps
    → (x : Vote) → IsUsed shape kept events x → In x ps
used_proposed shape kept events ps k x (inl s) = sent_true shape (orderer_after shape kept events) events ps k (Accept x.ballot x.slot x.value) s
used_proposed shape kept events ps k x (inr v) = k.global.voted v.0 x v.2

pub owned_of : (shape : Shape) (kept : ℕ → List Payload) (events : List Event) → Holds shape.orderers (orderer_after shape kept events) (sent_in events) → BallotsAreOwned shape kept events
owned_of shape kept events h = record {
  promise = λ m b s e. owner_promised shape.orderers (durable_after shape kept events) h.0 h.1.global m b
      (sent_true shape (orderer_after shape kept events) events h.0 h.1 m s) e;
  one_value = λ x y a b e f. h.1.global.unique x y (used_proposed shape kept events h.0 h.1 x a) (used_proposed shape kept events h.0 h.1 y b) e f;
  leading = λ i o l x up lead s e.
      let self = subst (λ m. IsGoodMode shape.orderers (durable_after shape kept events) h.0 i m) up (h.1.modes i) in
      let leader = subst (λ q. IsGoodLead shape.orderers (durable_after shape kept events) h.0 i (length o.known) q) lead self.leads in
      leader.used x (used_proposed shape kept events h.0 h.1 x (inl s)) e;
}

true_promise : (n : ℕ) (lists : ℕ → List Payload) (ps : List Vote) (m : Message) → IsTrueMessage n lists ps m → IsTruePromise lists m
true_promise n lists ps (Promised b f w vs) h = (h.1.reached, h.1.listed)
true_promise n lists ps (Prepare b f) h = tt
true_promise n lists ps (Lower b p) h = tt
true_promise n lists ps (Accept b k v) h = tt
true_promise n lists ps (Accepted b k w) h = tt
true_promise n lists ps (Decide k v) h = tt
true_promise n lists ps (Copy segment offset entry) h = tt
true_promise n lists ps (CopyAck peer held) h = tt
true_promise n lists ps (Report shard replica lengths) h = tt
true_promise n lists ps (Least shard lengths) h = tt
true_promise n lists ps (Want from node) h = tt

pub promises_of : (shape : Shape) (kept : ℕ → List Payload) (events : List Event) → Holds shape.orderers (orderer_after shape kept events) (sent_in events) → PromisesAreTrue shape kept events
promises_of shape kept events h = λ m s. true_promise shape.orderers (durable_after shape kept events) h.0 m (sent_true shape (orderer_after shape kept events) events h.0 h.1 m s)

pub no_rival_of : (shape : Shape) (kept : ℕ → List Payload) (events : List Event) → Holds shape.orderers (orderer_after shape kept events) (sent_in events) → NoRivalIsOpen shape kept events
no_rival_of shape kept events h = λ x a b u below opened. h.1.global.safe x (used_proposed shape kept events h.0 h.1 x a) b u below opened

true_answer : (n : ℕ) (lists : ℕ → List Payload) (ps : List Vote) → Global n lists ps → (m : Message) → IsTrueMessage n lists ps m → IsTrueAnswer n lists m
true_answer n lists ps g (Accepted b k w) h = (h.1.0, h.1.1)
true_answer n lists ps g (Decide k v) h = decided_place n lists ps g k.0 v h.0 h.1
true_answer n lists ps g (Promised b f w vs) h = tt
true_answer n lists ps g (Prepare b f) h = tt
true_answer n lists ps g (Lower b p) h = tt
true_answer n lists ps g (Accept b k v) h = tt
true_answer n lists ps g (Copy segment offset entry) h = tt
true_answer n lists ps g (CopyAck peer held) h = tt
true_answer n lists ps g (Report shard replica lengths) h = tt
true_answer n lists ps g (Least shard lengths) h = tt
true_answer n lists ps g (Want from node) h = tt

pub answers_of : (shape : Shape) (kept : ℕ → List Payload) (events : List Event) → Holds shape.orderers (orderer_after shape kept events) (sent_in events) → AnswersAreTrue shape kept events
answers_of shape kept events h = λ m s. true_answer shape.orderers (durable_after shape kept events) h.0 h.1.global m (sent_true shape (orderer_after shape kept events) events h.0 h.1 m s)

-- lists that lost no vote: what was decided is the beginning of what is decided
pub stays_decided : (n : ℕ) (lists now : ℕ → List Payload) (ps : List Vote) → Global n now ps
    → ((j : ℕ) (x : Vote) → In x (votes (lists j)) → In x (votes (now j))) → IsPrefix (decided n lists) (decided n now)
stays_decided n lists now ps g stay = known_prefix n now ps g (decided n lists)
    (λ k v a. let old = decided_chosen n lists k v a in
    (old.0, most_weaker n (λ i. In (vote_of old.0 k v) (votes (lists i))) (λ i. In (vote_of old.0 k v) (votes (now i))) (λ i l c. stay i (vote_of old.0 k v) c) old.1))

pub decided_stays : (shape : Shape) (kept : ℕ → List Payload) (xs ys : List Event) → IsPaxosSound shape.orderers kept → IsOrdererLegal shape kept (xs ++ ys)
    → IsPrefix (decided shape.orderers (durable_after shape kept xs)) (decided shape.orderers (durable_after shape kept (xs ++ ys)))
decided_stays shape kept xs ys s legal =
    let first = history_holds shape kept xs s (legal_front shape kept [] xs ys legal) in
    let rest = holds_after shape kept xs ys first (legal_rest shape kept [] xs ys legal) in
    stays_decided shape.orderers (durable_after shape kept xs) (durable_after shape kept (xs ++ ys)) rest.holds.0 rest.holds.1.global rest.stay
