-- The rows of a leader to whom no vote was reported: it proposes its wish, counts acceptances, and rests without a wish.
use Rattle.std.proofs.Common.{◌≡◌, ◌+◌, ◌-◌, ◌/◌, ◌<◌, ◌≤◌, ℕ, zero, suc, Bool, true, false, cond, nat_le, List, [], ◌∷◌, length, drop, replicate, Option, None, refl, ap, arith, ◌∙◌}
use Rattle.std.specs.Prelude.{is_some, slice_index_or}
use Rattle.std.specs.List.{list_any}
use Rattle.std.proofs.lemmas.Bool.{cond-false, cond-true, le-leb, leb-false, leb-true, lt-leb}
use Rattle.history_frame.specs.declared.events.Sent.{Sent}
use Rattle.log_base.specs.ClusterShape.{Shape}
use Rattle.message_frame.specs.declared.messages.Vote.{Vote}
use Rattle.paxos_model.specs.Leader.{Advanced, Leader, Window, Nothing, Pending, advance, bound_value, leader_from, merge, next_of, next_unless, no_votes, picked, propose, slot_limit}
use Rattle.paxos_model.specs.Learner.{wish_of}
use Rattle.paxos_model.specs.Majority.{is_majority, is_marked, most, no_marks, tally}
use Rattle.paxos_model.specs.Votes.{window_size}
use Rattle.record_frame.specs.declared.values.Value.{Value}
use Rattle.node_model.specs.OrdererNode.{Orderer as OrdererMemory}
use Rattle.node_model.specs.OrdererRow.{advanced_as, go_on}

-- ---- windows without votes

none_at : (n place : ℕ) → slice_index_or (replicate {A = Option Vote} n None) place None ≡ None
none_at zero place = refl
none_at (suc n) zero = refl
none_at (suc n) (suc place) = none_at n place

none_some : (n : ℕ) → list_any is_some (replicate {A = Option Vote} n None) ≡ false
none_some zero = refl
none_some (suc n) = none_some n

none_later : (n place : ℕ) → list_any is_some (drop place (replicate {A = Option Vote} n None)) ≡ false
none_later zero zero = refl
none_later zero (suc place) = refl
none_later (suc n) zero = none_some (suc n)
none_later (suc n) (suc place) = none_later n place

pub picks_wish : (place : ℕ) (wish : Option Value) → picked no_votes place wish ≡ wish
unfolding no_votes
picks_wish place wish =
    ap (λ (best : Option Vote). bound_value best (list_any is_some (drop (suc place) (replicate {A = Option Vote} window_size None))) wish) (none_at window_size place)
    ∙ ap (λ (later : Bool). bound_value None later wish) (none_later window_size (suc place))

merge_many : (n slot : ℕ) → merge slot (replicate n None) [] ≡ replicate n None
unfolding merge
merge_many zero slot = refl
merge_many (suc n) slot = ap (λ (rest : List (Option Vote)). None ∷ rest) (merge_many n (suc slot))

pub merges_none : (slot : ℕ) → merge slot no_votes [] ≡ no_votes
unfolding no_votes
merges_none slot = merge_many window_size slot

-- ---- what a leader does next

module _ (orderers : ℕ) (leader : Leader) (known : ℕ) (wish : Option Value) (free : leader.pending ≡ None) where
  advances : most orderers leader.answered ≡ true → advance orderers leader known wish ≡ next_of leader known wish
  unfolding advance
  advances many =
      cond-true (most orderers leader.answered) (next_unless leader.pending leader known wish) (record { leader = leader; next = Nothing }) many
      ∙ ap (λ (pending : Option Pending). next_unless pending leader known wish) free

  waits : most orderers leader.answered ≡ false → advance orderers leader known wish ≡ record { leader = leader; next = Nothing }
  unfolding advance
  waits few = cond-false (most orderers leader.answered) (next_unless leader.pending leader known wish) (record { leader = leader; next = Nothing }) few

  module _ (best : leader.best ≡ no_votes) where
    picks : picked leader.best (known - leader.window) wish ≡ wish
    picks = ap (λ votes. picked votes (known - leader.window) wish) best ∙ picks_wish (known - leader.window) wish

    abbrev in_window : Advanced
    in_window =
        cond (nat_le (leader.window + window_size) known) (record { leader = leader_from leader.ballot known; next = Window known })
        (propose leader known (picked leader.best (known - leader.window) wish))

    asks : known < slot_limit → known < leader.window + window_size → next_of leader known wish ≡ propose leader known wish
    asks few inside =
        cond-false (nat_le slot_limit known) (record { leader = leader; next = Nothing }) in_window (lt-leb slot_limit known few)
        ∙ cond-false (nat_le (leader.window + window_size) known) (record { leader = leader_from leader.ballot known; next = Window known })
        (propose leader known (picked leader.best (known - leader.window) wish)) (lt-leb (leader.window + window_size) known inside)
        ∙ ap (propose leader known) picks

    pub asks_for : most orderers leader.answered ≡ true → known < slot_limit → known < leader.window + window_size
        → advance orderers leader known wish ≡ propose leader known wish
    asks_for many few inside = advances many ∙ asks few inside

    -- no slot is left
    pub at_the_end : most orderers leader.answered ≡ true → slot_limit ≤ known → advance orderers leader known wish ≡ record { leader = leader; next = Nothing }
    at_the_end many past = advances many ∙ cond-true (nat_le slot_limit known) (record { leader = leader; next = Nothing }) in_window (le-leb slot_limit known past)

    -- its window is past
    pub renews : most orderers leader.answered ≡ true → known < slot_limit → leader.window + window_size ≤ known
        → advance orderers leader known wish ≡ record { leader = leader_from leader.ballot known; next = Window known }
    renews many few past =
        advances many
        ∙ cond-false (nat_le slot_limit known) (record { leader = leader; next = Nothing }) in_window (lt-leb slot_limit known few)
        ∙ cond-true (nat_le (leader.window + window_size) known) (record { leader = leader_from leader.ballot known; next = Window known })
        (propose leader known (picked leader.best (known - leader.window) wish)) (le-leb (leader.window + window_size) known past)

-- without a wish it rests
pub rests : (orderers : ℕ) (leader : Leader) (known : ℕ) → leader.pending ≡ None → leader.best ≡ no_votes → (known < slot_limit → known < leader.window + window_size)
    → advance orderers leader known None ≡ record { leader = leader; next = Nothing }
rests orderers leader known free best inside = by (most orderers leader.answered) refl
  where
    more : most orderers leader.answered ≡ true → (b : Bool) → nat_le slot_limit known ≡ b → advance orderers leader known None ≡ record { leader = leader; next = Nothing }
    more many true e = at_the_end orderers leader known None free best many (leb-true slot_limit known e)
    more many false e = let few : known < slot_limit = leb-false slot_limit known e in asks_for orderers leader known None free best many few (inside few)

    by : (b : Bool) → most orderers leader.answered ≡ b → advance orderers leader known None ≡ record { leader = leader; next = Nothing }
    by true many = more many (nat_le slot_limit known) refl
    by false few = waits orderers leader known None free few

-- what follows from what it does next
pub goes_on_as : (shape : Shape) (o : OrdererMemory) (leader : Leader) (before : List Sent) (wish : Option Value) (next : Advanced)
    → wish_of shape.replicas o.known o.heard o.wishes ≡ wish → advance shape.orderers leader (length o.known) wish ≡ next
    → go_on shape o leader before ≡ advanced_as shape o leader.ballot next before
goes_on_as shape o leader before wish next e f =
    ap (λ (w : Option Value). advanced_as shape o leader.ballot (advance shape.orderers leader (length o.known) w) before) e
    ∙ ap (λ (step : Advanced). advanced_as shape o leader.ballot step before) f

-- ---- majorities

tally_all : (test : ℕ → Bool) (n : ℕ) → ((i : ℕ) → i < n → test i ≡ true) → tally test n ≡ n
tally_all test zero h = refl
tally_all test (suc n) h =
    let rest : tally test n ≡ n = tally_all test n (λ i below. h i (omega arith)) in
    let here : cond {A = ℕ} (test n) 1 0 ≡ 1 = ap (λ (b : Bool). cond {A = ℕ} b 1 0) (h n (omega arith)) in
    omega arith

pub all_are_most : (n : ℕ) (marks : List Bool) → 1 ≤ n → ((i : ℕ) → i < n → is_marked marks i ≡ true) → most n marks ≡ true
unfolding is_majority
all_are_most n marks some h = le-leb (n / 2 + 1) (tally (is_marked marks) n) (let all = tally_all (is_marked marks) n h in omega arith)

unmarked : (n i : ℕ) → slice_index_or (replicate n false) i false ≡ false
unmarked zero i = refl
unmarked (suc n) zero = refl
unmarked (suc n) (suc i) = unmarked n i

tally_none : (test : ℕ → Bool) (n : ℕ) → ((i : ℕ) → test i ≡ false) → tally test n ≡ 0
tally_none test zero h = refl
tally_none test (suc n) h =
    let rest : tally test n ≡ 0 = tally_none test n h in
    let here : cond {A = ℕ} (test n) 1 0 ≡ 0 = ap (λ (b : Bool). cond {A = ℕ} b 1 0) (h n) in
    omega arith

pub none_are_few : (n : ℕ) → most n no_marks ≡ false
unfolding is_majority no_marks
none_are_few n = lt-leb (n / 2 + 1) (tally (is_marked (replicate 7 false)) n) (let none = tally_none (is_marked (replicate 7 false)) n (λ i. unmarked 7 i) in omega arith)

pub marks_size : length no_marks ≡ 7
unfolding no_marks
marks_size = refl
