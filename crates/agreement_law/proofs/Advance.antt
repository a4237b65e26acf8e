-- The leader's next step: what it proposes is the only value that may be open below its ballot.
use Rattle.std.proofs.Common.{◌≡◌, ◌<◌, ◌≤◌, ◌+◌, ◌-◌, ◌%◌, ◌⊎◌, ℕ, suc, Bool, true, cond, nat_le, List, [], ◌∷◌, drop, slice_index_or, is_some, Option, Some, None, refl, sym, ap, subst, inl, inr, ⊎_elim, arith, eqb-true, eq-eqb, leb-false, ◌∙◌}
use Rattle.std.specs.List.{list_any}
use Rattle.std.proofs.lemmas.Bool.{cond_both}
use Rattle.message_frame.specs.declared.messages.Vote.{Vote}
use Rattle.record_frame.specs.declared.values.Value.{Value}
use Rattle.paxos_model.specs.Leader.{Advanced, Leader, Next, Nothing, Pending, Propose, Window, advance, bound_value, is_of_slot, leader_from, next_of, next_unless, picked, propose, slot_limit}
use Rattle.paxos_model.specs.Majority.{is_marked, most}
use Rattle.paxos_model.specs.Votes.{Payload, greatest, promised, vote_of, votes}
use Rattle.agreement_law.specs.Elements.{In}
use Rattle.agreement_law.specs.Invariant.{Covers, Global, IsBegun, IsGoodLeader, IsOpen, IsOpenAt, IsPendingSlot, IsReported}
use Rattle.agreement_law.specs.Quorum.{MostOf}
use Rattle.agreement_law.proofs.Greatest.{greatest_above, greatest_from, length-no_votes, nth-no_votes}
use Rattle.agreement_law.proofs.Grows.{AddsMine, adds_none}
use Rattle.agreement_law.proofs.Quorum.{meet, most_in, unmarked}

-- what the leader would propose is the value of the greatest report of the slot
bound : (best : Option Vote) (later : Bool) (wish : Option Value) (v : Value) (x : Vote) → best ≡ Some x → bound_value best later wish ≡ Some v → v ≡ x.value
bound best later wish v x e f =
    let same : bound_value best later wish ≡ Some x.value = ap (λ o. bound_value o later wish) e in
    cc

same_value_above : (n : ℕ) (lists : ℕ → List Payload) (ps : List Vote) → Global n lists ps → (b k : ℕ) (u : Value) (x : Vote)
    → In (vote_of b k u) ps → In x ps → x.slot.0 ≡ k → b ≤ x.ballot.0 → IsOpen n lists b k u → u ≡ x.value
same_value_above n lists ps g b k u x old new slot reach opened = at (order b x.ballot.0 reach)
  where
    order : (a c : ℕ) → a ≤ c → (a < c) ⊎ (a ≡ c)
    order a c h = grind arith

    at : (b < x.ballot.0) ⊎ (b ≡ x.ballot.0) → u ≡ x.value
    at (inl below) = g.safe x new b u below (subst (λ s. IsOpen n lists b s u) (sym slot) opened)
    at (inr same) = g.unique (vote_of b k u) x old new same (sym slot)

pub picked_safe : (n i k : ℕ) (lists : ℕ → List Payload) (ps : List Vote) (l : Leader)
    → Global n lists ps → IsGoodLeader n lists ps i k l → most n l.answered ≡ true → k < l.window + 64
    → (wish : Option Value) (v : Value) → picked l.best (k - l.window) wish ≡ Some v
    → (b : ℕ) (u : Value) → b < l.ballot → IsOpen n lists b k u → u ≡ v
picked_safe n i k lists ps l g h many inside wish v e b u below opened =
    let Told = λ (w : ℕ). IsReported (lists w) l.ballot l.window h.heard in
    let told : MostOf n Told = most_in n (is_marked l.answered) Told many (λ w c m. h.answers w m) in
    let r = meet n Told (λ w. IsOpenAt (lists w) b k u) told opened in
    at r.0 r.2 r.3
  where
    place : ℕ
    place = k - l.window

    reported : (x : Vote) → greatest (is_of_slot k) h.heard ≡ Some x → v ≡ x.value
    reported x f =
        let inside' : k - l.window < 64 = omega (arith, h.within) in
        let slot : l.window + (k - l.window) ≡ k = omega (arith, h.within) in
        bound (slice_index_or l.best (k - l.window) None) (list_any is_some (drop (suc (k - l.window)) l.best)) wish v x
        (h.table (k - l.window) inside' ∙ ap (λ s. greatest (is_of_slot s) h.heard) slot ∙ f) e

    covered : (w : ℕ) → In (vote_of b k u) (votes (lists w)) → Covers h.heard (vote_of b k u) → u ≡ v
    covered w vote c =
        let passes : is_of_slot k c.vote ≡ true = eq-eqb c.vote.slot.0 k c.slot in
        let top = greatest_above (is_of_slot k) h.heard c.vote c.among passes in
        let from = greatest_from (is_of_slot k) h.heard top.0 top.1 in
        let slot : top.0.slot.0 ≡ k = eqb-true top.0.slot.0 k from.1 in
        same_value_above n lists ps g b k u top.0 (g.voted w (vote_of b k u) vote) (h.real top.0 from.0) slot (omega (arith, c.above, top.2)) opened
        ∙ sym (reported top.0 top.1)

    at : (w : ℕ) → IsReported (lists w) l.ballot l.window h.heard → IsOpenAt (lists w) b k u → u ≡ v
    at w told (inr o) = absurd (omega (arith, told.reached, o.0))
    at w told (inl vote) = covered w vote (told.covers (vote_of b k u) vote below h.within inside)

-- one more proposal
pub global_adds : (n i k : ℕ) (lists : ℕ → List Payload) (ps : List Vote) (l : Leader) (v : Value)
    → Global n lists ps → IsGoodLeader n lists ps i k l → l.pending ≡ None
    → ((b : ℕ) (u : Value) → b < l.ballot → IsOpen n lists b k u → u ≡ v)
    → Global n lists (vote_of l.ballot k v ∷ ps)
global_adds n i k lists ps l v g h idle safe = record {
  unique = one;
  owned = own;
  voted = λ j x c. inr (g.voted j x c);
  safe = sure;
}
  where
    fresh : (x : Vote) → In x ps → x.ballot.0 ≡ l.ballot → x.slot.0 ≡ k → ⊥
    fresh x c e f = ⊎_elim (λ a. absurd (omega (arith, a))) (λ a. subst (λ p. IsPendingSlot p x.slot.0) idle a) (h.used x c e)

    one : (x y : Vote) → In x (vote_of l.ballot k v ∷ ps) → In y (vote_of l.ballot k v ∷ ps) → x.ballot.0 ≡ y.ballot.0 → x.slot.0 ≡ y.slot.0 → x.value ≡ y.value
    one x y (inl a) (inl b) e f = cc
    one x y (inl a) (inr b) e f = absurd (fresh y b (sym e ∙ ap (λ (w : Vote). w.ballot.0) a) (sym f ∙ ap (λ (w : Vote). w.slot.0) a))
    one x y (inr a) (inl b) e f = absurd (fresh x a (e ∙ ap (λ (w : Vote). w.ballot.0) b) (f ∙ ap (λ (w : Vote). w.slot.0) b))
    one x y (inr a) (inr b) e f = g.unique x y a b e f

    own : (x : Vote) → In x (vote_of l.ballot k v ∷ ps) → x.ballot.0 ≤ promised (lists (x.ballot.0 % n))
    own x (inl a) =
        let mine : l.ballot ≤ promised (lists (l.ballot % n)) = subst (λ j. l.ballot ≤ promised (lists j)) (sym h.mine) h.reached in
        subst (λ (w : Vote). w.ballot.0 ≤ promised (lists (w.ballot.0 % n))) (sym a) mine
    own x (inr a) = g.owned x a

    sure : (x : Vote) → In x (vote_of l.ballot k v ∷ ps) → (b : ℕ) (u : Value) → b < x.ballot.0 → IsOpen n lists b x.slot.0 u → u ≡ x.value
    sure x (inl a) b u below opened =
        subst (λ (w : Vote). b < w.ballot.0 → IsOpen n lists b w.slot.0 u → u ≡ w.value) (sym a) (λ c d. safe b u c d) below opened
    sure x (inr a) b u below opened = g.safe x a b u below opened

-- what the next step sends
abbrev pub IsGoodNext : ℕ → (ℕ → List Payload) → List Vote → ℕ → Next → Type 0
IsGoodNext n lists ps b (Propose k v) = In (vote_of b k v) ps
IsGoodNext n lists ps b (Window k) = IsBegun n lists b
IsGoodNext n lists ps b Nothing = Unit {0}

pub record StepKeeps (n : ℕ) (lists : ℕ → List Payload) (ps : List Vote) (i k b : ℕ) (s : Advanced) : Type 0 where
  pub proposals : List Vote
  pub adds : AddsMine n i ps proposals
  pub global : Global n lists proposals
  pub leader : IsGoodLeader n lists proposals i k s.leader
  pub next : IsGoodNext n lists proposals b s.next

still : (n i k : ℕ) (lists : ℕ → List Payload) (ps : List Vote) (l : Leader) → Global n lists ps → IsGoodLeader n lists ps i k l
    → StepKeeps n lists ps i k l.ballot (record { leader = l; next = Nothing })
still n i k lists ps l g h = record { proposals = ps; adds = adds_none n i ps; global = g; leader = h; next = tt }

begun_by : (n i k : ℕ) (lists : ℕ → List Payload) (ps : List Vote) (l : Leader) → IsGoodLeader n lists ps i k l → IsBegun n lists l.ballot
begun_by n i k lists ps l h = subst (λ j. l.ballot ≤ promised (lists j)) (sym h.mine) h.reached

next_window : (n i k : ℕ) (lists : ℕ → List Payload) (ps : List Vote) (l : Leader) → Global n lists ps → IsGoodLeader n lists ps i k l → l.pending ≡ None
    → StepKeeps n lists ps i k l.ballot (record { leader = leader_from l.ballot k; next = Window k })
next_window n i k lists ps l g h idle = record {
  proposals = ps;
  adds = adds_none n i ps;
  global = g;
  leader = record {
    mine = h.mine;
    reached = h.reached;
    used = λ x c e. ⊎_elim (λ a. inl a) (λ a. absurd (subst (λ p. IsPendingSlot p x.slot.0) idle a)) (h.used x c e);
    within = omega arith;
    heard = [];
    long = length-no_votes;
    table = λ j c. nth-no_votes j;
    answers = λ w m. absurd (unmarked w m);
    real = λ x c. absurd c;
    waits = tt;
  };
  next = begun_by n i k lists ps l h;
}

proposed : (n i k : ℕ) (lists : ℕ → List Payload) (ps : List Vote) (l : Leader) (o : Option Value) → Global n lists ps → IsGoodLeader n lists ps i k l → l.pending ≡ None
    → ((v : Value) → o ≡ Some v → (b : ℕ) (u : Value) → b < l.ballot → IsOpen n lists b k u → u ≡ v)
    → StepKeeps n lists ps i k l.ballot (propose l k o)
proposed n i k lists ps l None g h idle safe = still n i k lists ps l g h
proposed n i k lists ps l (Some v) g h idle safe = record {
  proposals = vote_of l.ballot k v ∷ ps;
  adds = record { more = λ x c. inr c; mine = λ x c. added x c };
  global = global_adds n i k lists ps l v g h idle (safe v refl);
  leader = record {
    mine = h.mine;
    reached = h.reached;
    used = used;
    within = h.within;
    heard = h.heard;
    long = h.long;
    table = h.table;
    answers = h.answers;
    real = λ x c. inr (h.real x c);
    waits = record { next = refl; proposed = inl refl; counted = λ w m. absurd (unmarked w m) };
  };
  next = inl refl;
}
  where
    added : (x : Vote) → In x (vote_of l.ballot k v ∷ ps) → In x ps ⊎ (x.ballot.0 % n ≡ i)
    added x (inl e) = inr (ap (λ (w : Vote). w.ballot.0 % n) e ∙ h.mine)
    added x (inr c) = inl c

    used : (x : Vote) → In x (vote_of l.ballot k v ∷ ps) → x.ballot.0 ≡ l.ballot → (x.slot.0 < k) ⊎ (k ≡ x.slot.0)
    used x (inl e) f = inr (sym (ap (λ (w : Vote). w.slot.0) e))
    used x (inr c) f = ⊎_elim (λ a. inl a) (λ a. absurd (subst (λ p. IsPendingSlot p x.slot.0) idle a)) (h.used x c f)

chosen_next : (n i k : ℕ) (lists : ℕ → List Payload) (ps : List Vote) (l : Leader) (wish : Option Value) → Global n lists ps → IsGoodLeader n lists ps i k l → l.pending ≡ None
    → most n l.answered ≡ true → StepKeeps n lists ps i k l.ballot (next_of l k wish)
chosen_next n i k lists ps l wish g h idle many =
    cond_both (nat_le slot_limit k) (record { leader = l; next = Nothing }) past (λ s. StepKeeps n lists ps i k l.ballot s)
    (λ e. still n i k lists ps l g h)
    (λ e. cond_both (nat_le (l.window + 64) k) (record { leader = leader_from l.ballot k; next = Window k }) (propose l k (picked l.best (k - l.window) wish))
    (λ s. StepKeeps n lists ps i k l.ballot s)
    (λ f. next_window n i k lists ps l g h idle)
    (λ f. let inside : k < l.window + 64 = leb-false (l.window + 64) k f in
    proposed n i k lists ps l (picked l.best (k - l.window) wish) g h idle
    (λ v c b u below opened. picked_safe n i k lists ps l g h many inside wish v c b u below opened)))
  where
    past : Advanced
    past = cond (nat_le (l.window + 64) k) (record { leader = leader_from l.ballot k; next = Window k }) (propose l k (picked l.best (k - l.window) wish))

unless : (n i k : ℕ) (lists : ℕ → List Payload) (ps : List Vote) (l : Leader) (wish : Option Value) → Global n lists ps → IsGoodLeader n lists ps i k l
    → most n l.answered ≡ true → (p : Option Pending) → l.pending ≡ p → StepKeeps n lists ps i k l.ballot (next_unless p l k wish)
unless n i k lists ps l wish g h many None idle = chosen_next n i k lists ps l wish g h idle many
unless n i k lists ps l wish g h many (Some p) busy = still n i k lists ps l g h

-- whatever the leader does next keeps all
pub advance_keeps : (n i k : ℕ) (lists : ℕ → List Payload) (ps : List Vote) (l : Leader) (wish : Option Value) → Global n lists ps → IsGoodLeader n lists ps i k l
    → StepKeeps n lists ps i k l.ballot (advance n l k wish)
unfolding advance
advance_keeps n i k lists ps l wish g h =
    cond_both (most n l.answered) (next_unless l.pending l k wish) (record { leader = l; next = Nothing }) (λ s. StepKeeps n lists ps i k l.ballot s)
    (λ e. unless n i k lists ps l wish g h e l.pending refl)
    (λ e. still n i k lists ps l g h)
