-- What stays when durable lists grow, and when proposals are added by one orderer.
use Rattle.std.proofs.Common.{◌≡◌, ◌<◌, ◌≤◌, ◌+◌, ◌%◌, ◌⊎◌, ℕ, List, [], ◌∷◌, ◌++◌, length, Option, Some, None, refl, sym, ap, subst, inl, inr, ⊎_elim, arith, ◌∙◌}
use Rattle.message_frame.specs.declared.messages.Message.{Message}
use Rattle.message_frame.specs.declared.messages.Message.TheVariants.{Copy, CopyAck, Report, Least, Prepare, Promised, Lower, Accept, Accepted, Decide, Want}
use Rattle.message_frame.specs.declared.messages.Vote.{Vote}
use Rattle.record_frame.specs.declared.values.Value.{Value}
use Rattle.paxos_model.specs.Leader.{Leader, Pending}
use Rattle.paxos_model.specs.Votes.{Payload, Promise, Voted, vote_of, promised, votes, reports}
use Rattle.node_model.specs.Marks.{Stopped, Running}
use Rattle.node_model.specs.OrdererNode.{Orderer, Mode, with_put}
use Rattle.agreement_law.specs.Elements.{In}
use Rattle.agreement_law.specs.Invariant.{AreChosen, AreFilled, CanPut, Covers, Global, HasMost, IsGoodLead, IsGoodLeader, IsGoodMode, IsGoodOrderer, IsGoodPending, IsOpenAt, IsPendingSlot, IsReported, IsTrueMessage, IsVotedIn, NoVote}
use Rattle.agreement_law.proofs.Elements.{in_append, in_left}
use Rattle.agreement_law.proofs.Greatest.{promised-push, reports-push, votes-push}
use Rattle.agreement_law.proofs.Quorum.{meet, most_weaker}

-- a list that grew: it has promised no less, has all its votes, and each new vote could be put
pub record Extends (proposals : List Vote) (l m : List Payload) : Type 0 where
  pub further : promised l ≤ promised m
  pub kept : (x : Vote) → In x (votes l) → In x (votes m)
  pub new : (x : Vote) → In x (votes m) → In x (votes l) ⊎ ((promised l ≤ x.ballot.0) × NoVote l x.ballot.0 x.slot.0 × In x proposals)
  pub stays : (b f n : ℕ) → b ≤ promised l → reports b f n (votes m) ≡ reports b f n (votes l)

abbrev pub Grow : List Vote → (ℕ → List Payload) → (ℕ → List Payload) → Type 0
Grow proposals lists now = (j : ℕ) → Extends proposals (lists j) (now j)

-- proposals with more of an orderer's own
pub record AddsMine (n i : ℕ) (ps qs : List Vote) : Type 0 where
  pub more : (x : Vote) → In x ps → In x qs
  pub mine : (x : Vote) → In x qs → In x ps ⊎ (x.ballot.0 % n ≡ i)

pub extends_refl : (ps : List Vote) (l : List Payload) → Extends ps l l
extends_refl ps l = record { further = omega arith; kept = λ x h. h; new = λ x h. inl h; stays = λ b f n h. refl }

pub adds_none : (n i : ℕ) (ps : List Vote) → AddsMine n i ps ps
adds_none n i ps = record { more = λ x h. h; mine = λ x h. inl h }

promise_extends : (ps : List Vote) (l : List Payload) (b : ℕ) → Extends ps l (l ++ Promise b ∷ [])
promise_extends ps l b =
    let same : votes (l ++ Promise b ∷ []) ≡ votes l ++ [] = votes-push l (Promise b) in
    record {
      further = omega (arith, promised-push l (Promise b));
      kept = λ x h. subst (λ vs. In x vs) (sym same) (in_left x (votes l) [] h);
      new = λ x h. ⊎_elim (λ a. inl a) (λ a. absurd a) (in_append x (votes l) [] (subst (λ vs. In x vs) same h));
      stays = λ c f n h. ap (λ vs. reports c f n vs) (same ∙ append_none (votes l));
    }
  where
    append_none : (vs : List Vote) → vs ++ [] ≡ vs
    append_none [] = refl
    append_none (v ∷ vs) = ap (λ r. v ∷ r) (append_none vs)

vote_extends : (ps : List Vote) (l : List Payload) (v : Vote) → CanPut l ps (Some (Voted v)) → Extends ps l (l ++ Voted v ∷ [])
vote_extends ps l v can =
    let same : votes (l ++ Voted v ∷ []) ≡ votes l ++ v ∷ [] = votes-push l (Voted v) in
    record {
      further = omega (arith, promised-push l (Voted v));
      kept = λ x h. subst (λ vs. In x vs) (sym same) (in_left x (votes l) (v ∷ []) h);
      new = λ x h. old_or_new x (in_append x (votes l) (v ∷ []) (subst (λ vs. In x vs) same h));
      stays = λ c f n h. ap (λ vs. reports c f n vs) same ∙ reports-push c f n (votes l) v (omega (arith, can.0));
    }
  where
    old_or_new : (x : Vote) → In x (votes l) ⊎ In x (v ∷ []) → In x (votes l) ⊎ ((promised l ≤ x.ballot.0) × NoVote l x.ballot.0 x.slot.0 × In x ps)
    old_or_new x (inl h) = inl h
    old_or_new x (inr (inl e)) = inr (subst (λ (y : Vote). (promised l ≤ y.ballot.0) × NoVote l y.ballot.0 y.slot.0 × In y ps) (sym e) can)
    old_or_new x (inr (inr h)) = absurd h

pub put_extends : (ps : List Vote) (l : List Payload) (put : Option Payload) → CanPut l ps put → Extends ps l (with_put l put)
put_extends ps l None can = extends_refl ps l
put_extends ps l (Some (Promise b)) can = promise_extends ps l b
put_extends ps l (Some (Voted v)) can = vote_extends ps l v can

-- what was not open does not become open
pub open_shrinks : (ps : List Vote) (l m : List Payload) → Extends ps l m → (b k : ℕ) (u : Value) → IsOpenAt m b k u → IsOpenAt l b k u
open_shrinks ps l m e b k u (inl h) = ⊎_elim (λ a. inl a) (λ a. inr (a.0, a.1)) (e.new (vote_of b k u) h)
open_shrinks ps l m e b k u (inr h) = inr (omega (arith, e.further, h.0), λ x a. h.1 x (e.kept x a))

pub most_grows : (n : ℕ) (ps : List Vote) (lists now : ℕ → List Payload) → Grow ps lists now → (b k : ℕ) (v : Value) → HasMost n lists b k v → HasMost n now b k v
most_grows n ps lists now g b k v h =
    most_weaker n (λ i. In (vote_of b k v) (votes (lists i))) (λ i. In (vote_of b k v) (votes (now i))) (λ i l a. (g i).kept (vote_of b k v) a) h

pub voted_grows : (n : ℕ) (ps : List Vote) (lists now : ℕ → List Payload) → Grow ps lists now → (k : ℕ) (v : Value) → IsVotedIn n lists k v → IsVotedIn n now k v
voted_grows n ps lists now g k v h = (h.0, most_grows n ps lists now g h.0 k v h.1)

pub global_grows : (n : ℕ) (ps : List Vote) (lists now : ℕ → List Payload) → Grow ps lists now → Global n lists ps → Global n now ps
global_grows n ps lists now g h = record {
  unique = h.unique;
  owned = λ x a. omega (arith, h.owned x a, (g (x.ballot.0 % n)).further);
  voted = λ j x a. ⊎_elim (λ c. h.voted j x c) (λ c. c.2) ((g j).new x a);
  safe = λ x a b u below opened. h.safe x a b u below
      (most_weaker n (λ i. IsOpenAt (now i) b x.slot.0 u) (λ i. IsOpenAt (lists i) b x.slot.0 u)
      (λ i l c. open_shrinks ps (lists i) (now i) (g i) b x.slot.0 u c) opened);
}

reported_grows : (ps : List Vote) (l m : List Payload) → Extends ps l m → (b f : ℕ) (vs : List Vote) → IsReported l b f vs → IsReported m b f vs
reported_grows ps l m e b f vs r = record {
  reached = omega (arith, r.reached, e.further);
  covers = λ y h below from to. at y below from to (e.new y h);
}
  where
    at : (y : Vote) → y.ballot.0 < b → f ≤ y.slot.0 → y.slot.0 < f + 64
        → In y (votes l) ⊎ ((promised l ≤ y.ballot.0) × NoVote l y.ballot.0 y.slot.0 × In y ps) → Covers vs y
    at y below from to (inl h) = r.covers y h below from to
    at y below from to (inr h) = absurd (omega (arith, r.reached, h.0))

filled_grows : (n : ℕ) (ps : List Vote) (lists now : ℕ → List Payload) → Grow ps lists now → (k : ℕ) → AreFilled n lists k → AreFilled n now k
filled_grows n ps lists now g k h = λ j below. let r = h j below in (r.0, voted_grows n ps lists now g j r.0 r.1)

begun_grows : (n : ℕ) (ps : List Vote) (lists now : ℕ → List Payload) → Grow ps lists now → (b : ℕ) → b ≤ promised (lists (b % n)) → b ≤ promised (now (b % n))
begun_grows n ps lists now g b h = omega (arith, h, (g (b % n)).further)

pub message_grows : (n : ℕ) (ps : List Vote) (lists now : ℕ → List Payload) → Grow ps lists now → (m : Message) → IsTrueMessage n lists ps m → IsTrueMessage n now ps m
message_grows n ps lists now g (Prepare b f) h = begun_grows n ps lists now g b.0 h
message_grows n ps lists now g (Lower b p) h = begun_grows n ps lists now g b.0 h
message_grows n ps lists now g (Promised b f w vs) h = (
  begun_grows n ps lists now g b.0 h.0,
  record {
    reached = omega (arith, h.1.reached, (g w).further);
    listed = h.1.listed ∙ sym ((g w).stays b.0 f.0 64 h.1.reached);
  },
  h.2,
)
message_grows n ps lists now g (Accept b k v) h = h
message_grows n ps lists now g (Accepted b k w) h =
    (begun_grows n ps lists now g b.0 h.0, (h.1.0, (g w).kept (vote_of b.0 k.0 h.1.0) h.1.1))
message_grows n ps lists now g (Decide k v) h = (voted_grows n ps lists now g k.0 v h.0, filled_grows n ps lists now g k.0 h.1)
message_grows n ps lists now g (Copy segment offset entry) h = tt
message_grows n ps lists now g (CopyAck peer held) h = tt
message_grows n ps lists now g (Report shard replica lengths) h = tt
message_grows n ps lists now g (Least shard lengths) h = tt
message_grows n ps lists now g (Want from node) h = tt

pending_grows : (ps : List Vote) (lists now : ℕ → List Payload) → Grow ps lists now → (b k : ℕ) (p : Option Pending) → IsGoodPending lists ps b k p → IsGoodPending now ps b k p
pending_grows ps lists now g b k None h = tt
pending_grows ps lists now g b k (Some p) h = record {
  next = h.next;
  proposed = h.proposed;
  counted = λ w m. (g w).kept (vote_of b p.slot p.value) (h.counted w m);
}

pub leader_grows : (n : ℕ) (ps : List Vote) (lists now : ℕ → List Payload) → Grow ps lists now → (i k : ℕ) (l : Leader) → IsGoodLeader n lists ps i k l → IsGoodLeader n now ps i k l
leader_grows n ps lists now g i k l h = record {
  mine = h.mine;
  reached = omega (arith, h.reached, (g i).further);
  used = h.used;
  within = h.within;
  heard = h.heard;
  long = h.long;
  table = h.table;
  answers = λ w m. reported_grows ps (lists w) (now w) (g w) l.ballot l.window h.heard (h.answers w m);
  real = h.real;
  waits = pending_grows ps lists now g l.ballot k l.pending h.waits;
}

lead_grows : (n : ℕ) (ps : List Vote) (lists now : ℕ → List Payload) → Grow ps lists now → (i k : ℕ) (l : Option Leader) → IsGoodLead n lists ps i k l → IsGoodLead n now ps i k l
lead_grows n ps lists now g i k None h = tt
lead_grows n ps lists now g i k (Some l) h = leader_grows n ps lists now g i k l h

pub chosen_grows : (n : ℕ) (ps : List Vote) (lists now : ℕ → List Payload) → Grow ps lists now → (known : List Value) → AreChosen n lists known → AreChosen n now known
chosen_grows n ps lists now g known h = λ k v a. voted_grows n ps lists now g k v (h k v a)

pub orderer_grows : (n : ℕ) (ps : List Vote) (lists now : ℕ → List Payload) → Grow ps lists now → (i : ℕ) (o : Orderer) → IsGoodOrderer n lists ps i o → IsGoodOrderer n now ps i o
orderer_grows n ps lists now g i o h = record {
  chosen = chosen_grows n ps lists now g o.known h.chosen;
  leads = lead_grows n ps lists now g i (length o.known) o.leader h.leads;
}

-- of a node whose own list did not change
pub mode_grows : (n : ℕ) (ps : List Vote) (lists now : ℕ → List Payload) → Grow ps lists now → (j : ℕ) → now j ≡ lists j → (m : Mode) → IsGoodMode n lists ps j m → IsGoodMode n now ps j m
mode_grows n ps lists now g j e (Stopped flight known) h =
    (subst (λ list. CanPut list ps flight) (sym e) h.0, chosen_grows n ps lists now g known h.1)
mode_grows n ps lists now g j e (Running o) h = orderer_grows n ps lists now g j o h

-- more proposals
pub message_adds : (n i : ℕ) (ps qs : List Vote) → AddsMine n i ps qs → (lists : ℕ → List Payload) (m : Message) → IsTrueMessage n lists ps m → IsTrueMessage n lists qs m
message_adds n i ps qs a lists (Prepare b f) h = h
message_adds n i ps qs a lists (Lower b p) h = h
message_adds n i ps qs a lists (Promised b f w vs) h = (h.0, h.1, λ x c. a.more x (h.2 x c))
message_adds n i ps qs a lists (Accept b k v) h = a.more (vote_of b.0 k.0 v) h
message_adds n i ps qs a lists (Accepted b k w) h = h
message_adds n i ps qs a lists (Decide k v) h = h
message_adds n i ps qs a lists (Copy segment offset entry) h = tt
message_adds n i ps qs a lists (CopyAck peer held) h = tt
message_adds n i ps qs a lists (Report shard replica lengths) h = tt
message_adds n i ps qs a lists (Least shard lengths) h = tt
message_adds n i ps qs a lists (Want from node) h = tt

pending_adds : (n i : ℕ) (ps qs : List Vote) → AddsMine n i ps qs → (lists : ℕ → List Payload) (b k : ℕ) (p : Option Pending) → IsGoodPending lists ps b k p → IsGoodPending lists qs b k p
pending_adds n i ps qs a lists b k None h = tt
pending_adds n i ps qs a lists b k (Some p) h = record { next = h.next; proposed = a.more (vote_of b p.slot p.value) h.proposed; counted = h.counted }

-- a leader other than the one whose proposals are added
leader_adds : (n i : ℕ) (ps qs : List Vote) → AddsMine n i ps qs → (lists : ℕ → List Payload) (j k : ℕ) (l : Leader) → (j ≡ i → ⊥) → IsGoodLeader n lists ps j k l → IsGoodLeader n lists qs j k l
leader_adds n i ps qs a lists j k l other h = record {
  mine = h.mine;
  reached = h.reached;
  used = λ x c e. at x e (a.mine x c);
  within = h.within;
  heard = h.heard;
  long = h.long;
  table = h.table;
  answers = h.answers;
  real = λ x c. a.more x (h.real x c);
  waits = pending_adds n i ps qs a lists l.ballot k l.pending h.waits;
}
  where
    at : (x : Vote) → x.ballot.0 ≡ l.ballot → In x ps ⊎ (x.ballot.0 % n ≡ i) → (x.slot.0 < k) ⊎ IsPendingSlot l.pending x.slot.0
    at x e (inl c) = h.used x c e
    at x e (inr c) = absurd (other (sym h.mine ∙ ap (λ b. b % n) (sym e) ∙ c))

lead_adds : (n i : ℕ) (ps qs : List Vote) → AddsMine n i ps qs → (lists : ℕ → List Payload) (j k : ℕ) (l : Option Leader) → (j ≡ i → ⊥) → IsGoodLead n lists ps j k l → IsGoodLead n lists qs j k l
lead_adds n i ps qs a lists j k None other h = tt
lead_adds n i ps qs a lists j k (Some l) other h = leader_adds n i ps qs a lists j k l other h

pub can_put_adds : (n i : ℕ) (ps qs : List Vote) → AddsMine n i ps qs → (list : List Payload) (p : Option Payload) → CanPut list ps p → CanPut list qs p
can_put_adds n i ps qs a list None h = tt
can_put_adds n i ps qs a list (Some (Promise b)) h = tt
can_put_adds n i ps qs a list (Some (Voted x)) h = (h.0, h.1, a.more x h.2)

pub mode_adds : (n i : ℕ) (ps qs : List Vote) → AddsMine n i ps qs → (lists : ℕ → List Payload) (j : ℕ) (m : Mode) → (j ≡ i → ⊥) → IsGoodMode n lists ps j m → IsGoodMode n lists qs j m
mode_adds n i ps qs a lists j (Stopped flight known) other h = (can_put_adds n i ps qs a (lists j) flight h.0, h.1)
mode_adds n i ps qs a lists j (Running o) other h = record { chosen = h.chosen; leads = lead_adds n i ps qs a lists j (length o.known) o.leader other h.leads }

-- a value that a majority has voted for is a proposal
pub voted_proposed : (n : ℕ) (lists : ℕ → List Payload) (ps : List Vote) → Global n lists ps → (b k : ℕ) (v : Value) → HasMost n lists b k v → In (vote_of b k v) ps
voted_proposed n lists ps g b k v h =
    let P = λ (i : ℕ). In (vote_of b k v) (votes (lists i)) in
    let r = meet n P P h h in
    g.voted r.0 (vote_of b k v) r.2

pub agree_below : (n : ℕ) (lists : ℕ → List Payload) (ps : List Vote) → Global n lists ps → (k b c : ℕ) (v u : Value)
    → b < c → HasMost n lists b k v → HasMost n lists c k u → v ≡ u
agree_below n lists ps g k b c v u below h f =
    g.safe (vote_of c k u) (voted_proposed n lists ps g c k u f) b v below
    (most_weaker n (λ i. In (vote_of b k v) (votes (lists i))) (λ i. IsOpenAt (lists i) b k v) (λ i l a. inl a) h)

-- at most one value is chosen for a slot
pub agree : (n : ℕ) (lists : ℕ → List Payload) (ps : List Vote) → Global n lists ps → (k : ℕ) (v u : Value) → IsVotedIn n lists k v → IsVotedIn n lists k u → v ≡ u
agree n lists ps g k v u h f = at (order h.0 f.0)
  where
    order : (a b : ℕ) → (a < b) ⊎ (b < a) ⊎ (a ≡ b)
    order a b = grind arith

    at : (h.0 < f.0) ⊎ (f.0 < h.0) ⊎ (h.0 ≡ f.0) → v ≡ u
    at (inl below) = agree_below n lists ps g k h.0 f.0 v u below h.1 f.1
    at (inr (inl below)) = sym (agree_below n lists ps g k f.0 h.0 u v below f.1 h.1)
    at (inr (inr same)) =
        g.unique (vote_of h.0 k v) (vote_of f.0 k u) (voted_proposed n lists ps g h.0 k v h.1) (voted_proposed n lists ps g f.0 k u f.1) same refl
