-- What the law says of a history.
use Rattle.std.specs.Prelude.{◌≡◌, ◌⊎◌, ℕ, ◌%◌, ◌<◌, ◌≤◌, List, [], ◌∷◌, ◌++◌, length, Some}
use Rattle.history_frame.specs.declared.events.Event.{Event}
use Rattle.history_frame.specs.declared.events.Sent.{Sent}
use Rattle.log_base.specs.ClusterShape.{Shape}
use Rattle.message_frame.specs.declared.messages.Message.{Message}
use Rattle.message_frame.specs.declared.messages.Message.TheVariants.{Prepare, Promised, Lower, Accept, Accepted, Decide}
use Rattle.message_frame.specs.declared.messages.Vote.{Vote}
use Rattle.record_frame.specs.declared.values.Value.{Value}
use Rattle.paxos_model.specs.Leader.{Leader}
use Rattle.paxos_model.specs.Votes.{Payload, promised, reports, vote_of, votes}
use Rattle.node_model.specs.Marks.{Running, flight_of}
use Rattle.node_model.specs.Chosen.{IsChosen, decided}
use Rattle.node_model.specs.Histories.{durable_after, orderer_after, sent_in}
use Rattle.node_model.specs.OrdererLegal.{IsOrdererLegal}
use Rattle.node_model.specs.OrdererNode.{Node, Orderer, known_of}
use Rattle.agreement_law.specs.Elements.{In, IsIn, IsPrefix}
use Rattle.agreement_law.specs.Invariant.{IsOpen, IsPendingSlot}

-- one of so many lists has this vote
abbrev pub IsKept : ℕ → (ℕ → List Payload) → Vote → Type 0
IsKept n lists x = (j : ℕ) × (j < n) × In x (votes (lists j))

-- lists that a run may start from: votes of one ballot and slot have one value, the owner of each voted ballot has
-- promised it, and no other value is open below a vote
pub record IsPaxosSound (n : ℕ) (lists : ℕ → List Payload) : Type 0 where
  pub unique : (x y : Vote) → IsKept n lists x → IsKept n lists y → x.ballot.0 ≡ y.ballot.0 → x.slot.0 ≡ y.slot.0 → x.value ≡ y.value
  pub owned : (x : Vote) → IsKept n lists x → x.ballot.0 ≤ promised (lists (x.ballot.0 % n))
  pub safe : (x : Vote) → IsKept n lists x → (b : ℕ) (u : Value) → b < x.ballot.0 → IsOpen n lists b x.slot.0 u → u ≡ x.value

-- the message is of this ballot
abbrev pub IsOfBallot : ℕ → Message → Type 0
IsOfBallot ballot (Prepare b f) = b.0 ≡ ballot
IsOfBallot ballot (Promised b f w vs) = b.0 ≡ ballot
IsOfBallot ballot (Lower b p) = b.0 ≡ ballot
IsOfBallot ballot (Accept b k v) = b.0 ≡ ballot
IsOfBallot ballot (Accepted b k w) = b.0 ≡ ballot
IsOfBallot ballot _ = ⊥

-- the message was sent
abbrev pub IsMessageSent : List Event → Message → Type 0
IsMessageSent events message = (s : Sent) × In s (sent_in events) × (s.message ≡ message)

-- the vote was asked for, or stands in an orderer's list
abbrev pub IsUsed : Shape → (ℕ → List Payload) → List Event → Vote → Type 0
IsUsed shape kept events x =
    IsMessageSent events (Accept x.ballot x.slot x.value) ⊎ IsKept shape.orderers (durable_after shape kept events) x

-- Ballots in use are promised by their owners, and have one value a slot. What a leader asked to accept is for a slot
-- below its known values, or it is the proposal that waits.
pub record BallotsAreOwned (shape : Shape) (kept : ℕ → List Payload) (events : List Event) : Type 0 where
  pub promise : (m : Message) (b : ℕ) → IsMessageSent events m → IsOfBallot b m → b ≤ promised (durable_after shape kept events (b % shape.orderers))
  pub one_value : (x y : Vote) → IsUsed shape kept events x → IsUsed shape kept events y → x.ballot.0 ≡ y.ballot.0 → x.slot.0 ≡ y.slot.0 → x.value ≡ y.value
  pub leading : (i : ℕ) (o : Orderer) (l : Leader) (x : Vote)
      → (orderer_after shape kept events i).mode ≡ Running o → o.leader ≡ Some l
      → IsMessageSent events (Accept x.ballot x.slot x.value) → x.ballot.0 ≡ l.ballot
      → (x.slot.0 < length o.known) ⊎ IsPendingSlot l.pending x.slot.0

-- a promise was made, and lists the greatest votes below its ballot of the window's slots
abbrev pub IsTruePromise : (ℕ → List Payload) → Message → Type 0
IsTruePromise lists (Promised b f w vs) = (b.0 ≤ promised (lists w)) × (vs ≡ reports b.0 f.0 64 (votes (lists w)))
IsTruePromise lists _ = Unit {0}

-- A promise that was ever sent was made, and lists the greatest votes below its ballot of the window's slots, as the
-- orderer's list is now.
abbrev pub PromisesAreTrue : Shape → (ℕ → List Payload) → List Event → Type 0
PromisesAreTrue shape kept events = (m : Message) → IsMessageSent events m → IsTruePromise (durable_after shape kept events) m

-- Below a vote, or what was asked for, no other value is open.
abbrev pub NoRivalIsOpen : Shape → (ℕ → List Payload) → List Event → Type 0
NoRivalIsOpen shape kept events = (x : Vote) → IsUsed shape kept events x → (b : ℕ) (u : Value) → b < x.ballot.0
    → IsOpen shape.orderers (durable_after shape kept events) b x.slot.0 u → u ≡ x.value

-- An acceptance that was ever sent has its vote, and a decision that was ever sent is a slot of the decided list.
abbrev pub IsTrueAnswer : ℕ → (ℕ → List Payload) → Message → Type 0
IsTrueAnswer n lists (Accepted b k w) = (u : Value) × In (vote_of b.0 k.0 u) (votes (lists w))
IsTrueAnswer n lists (Decide k v) = IsIn (decided n lists) k.0 v
IsTrueAnswer n lists _ = Unit {0}

abbrev pub AnswersAreTrue : Shape → (ℕ → List Payload) → List Event → Type 0
AnswersAreTrue shape kept events = (m : Message) → IsMessageSent events m → IsTrueAnswer shape.orderers (durable_after shape kept events) m

-- At most one value is chosen for a slot, and what an orderer knows, up or down, is the beginning of the decided list.
-- That list has the chosen values of its slots, and of every slot up to which each one has a chosen value.
pub record IsAgreed (shape : Shape) (kept : ℕ → List Payload) (events : List Event) : Type 0 where
  pub one_value : (k : ℕ) (u v : Value) → IsChosen shape.orderers (durable_after shape kept events) k u → IsChosen shape.orderers (durable_after shape kept events) k v → u ≡ v
  pub known : (i : ℕ) → IsPrefix (known_of (orderer_after shape kept events i).mode) (decided shape.orderers (durable_after shape kept events))
  pub chosen : (k : ℕ) (v : Value) → IsIn (decided shape.orderers (durable_after shape kept events)) k v → IsChosen shape.orderers (durable_after shape kept events) k v
  pub whole : (k : ℕ) (v : Value) → IsChosen shape.orderers (durable_after shape kept events) k v
      → ((j : ℕ) → j < k → (u : Value) × IsChosen shape.orderers (durable_after shape kept events) j u)
      → IsIn (decided shape.orderers (durable_after shape kept events)) k v

-- a disk that a run leaves has the orderer's list, with or without the payload in flight
pub data IsLeftBy (node : Node) (list : List Payload) : Type 0 where
  Without : list ≡ node.durable → IsLeftBy node list
  With : (payload : Payload) → flight_of node.mode ≡ Some payload → list ≡ node.durable ++ payload ∷ [] → IsLeftBy node list

abbrev pub AreLeftBy : Shape → (ℕ → List Payload) → List Event → (ℕ → List Payload) → Type 0
AreLeftBy shape kept events lists = (i : ℕ) → i < shape.orderers → IsLeftBy (orderer_after shape kept events i) (lists i)

-- lists that a chain of legal runs leaves, the first of which began with empty lists
pub data IsFounded (shape : Shape) : (ℕ → List Payload) → Type 0 where
  Empty : IsFounded shape (λ i. [])
  Later : (kept lists : ℕ → List Payload) (events : List Event) → IsFounded shape kept → IsOrdererLegal shape kept events
      → AreLeftBy shape kept events lists → IsFounded shape lists
