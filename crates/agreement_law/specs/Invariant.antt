-- What holds of the orderers at each moment. It speaks of their durable lists and of a list of proposals: all votes
-- that leaders asked for, or that stood in a list at the start.
use Rattle.std.specs.Prelude.{◌≡◌, ◌⊎◌, ℕ, ◌+◌, ◌%◌, ◌<◌, ◌≤◌, List, length, true, Option, Some, None, slice_index_or}
use Rattle.history_frame.specs.declared.events.Sent.{Sent}
use Rattle.message_frame.specs.declared.messages.Message.{Message}
use Rattle.message_frame.specs.declared.messages.Message.TheVariants.{Copy, CopyAck, Report, Least, Prepare, Promised, Lower, Accept, Accepted, Decide, Want}
use Rattle.message_frame.specs.declared.messages.Vote.{Vote}
use Rattle.record_frame.specs.declared.values.Value.{Value}
use Rattle.paxos_model.specs.Leader.{Leader, Pending, is_of_slot}
use Rattle.paxos_model.specs.Majority.{is_marked}
use Rattle.paxos_model.specs.Votes.{Payload, Promise, Voted, vote_of, promised, votes, greatest, reports}
use Rattle.node_model.specs.Marks.{Stopped, Running}
use Rattle.node_model.specs.OrdererNode.{Orderer, Mode, Node}
use Rattle.agreement_law.specs.Elements.{In, IsIn}
use Rattle.agreement_law.specs.Quorum.{MostOf}

-- a list has no vote for a slot in a ballot
abbrev pub NoVote : List Payload → ℕ → ℕ → Type 0
NoVote list b k = (x : Vote) → In x (votes list) → x.ballot.0 ≡ b → x.slot.0 ≡ k → ⊥

-- A value is open at a ballot and slot where each of a majority has a vote of it there, or has promised at most that
-- ballot and has no vote there.
abbrev pub IsOpenAt : List Payload → ℕ → ℕ → Value → Type 0
IsOpenAt list b k u = In (vote_of b k u) (votes list) ⊎ ((promised list ≤ b) × NoVote list b k)

abbrev pub IsOpen : ℕ → (ℕ → List Payload) → ℕ → ℕ → Value → Type 0
IsOpen n lists b k u = MostOf n (λ i. IsOpenAt (lists i) b k u)

-- a majority has a vote of the value in one ballot
abbrev pub HasMost : ℕ → (ℕ → List Payload) → ℕ → ℕ → Value → Type 0
HasMost n lists b k v = MostOf n (λ i. In (vote_of b k v) (votes (lists i)))

abbrev pub IsVotedIn : ℕ → (ℕ → List Payload) → ℕ → Value → Type 0
IsVotedIn n lists k v = (b : ℕ) × HasMost n lists b k v

-- the proposals: one value a ballot and slot, ballots that are promised by their owners, all votes among them, and
-- no other value open below one
pub record Global (n : ℕ) (lists : ℕ → List Payload) (proposals : List Vote) : Type 0 where
  pub unique : (x y : Vote) → In x proposals → In y proposals → x.ballot.0 ≡ y.ballot.0 → x.slot.0 ≡ y.slot.0 → x.value ≡ y.value
  pub owned : (x : Vote) → In x proposals → x.ballot.0 ≤ promised (lists (x.ballot.0 % n))
  pub voted : (j : ℕ) (x : Vote) → In x (votes (lists j)) → In x proposals
  pub safe : (x : Vote) → In x proposals → (b : ℕ) (u : Value) → b < x.ballot.0 → IsOpen n lists b x.slot.0 u → u ≡ x.value

-- among some votes there is one of the slot of y whose ballot is not lower
pub record Covers (vs : List Vote) (y : Vote) : Type 0 where
  pub vote : Vote
  pub among : In vote vs
  pub slot : vote.slot.0 ≡ y.slot.0
  pub above : y.ballot.0 ≤ vote.ballot.0

-- an orderer has promised b, and its votes below b in the window are covered by what is reported
pub record IsReported (list : List Payload) (b f : ℕ) (vs : List Vote) : Type 0 where
  pub reached : b ≤ promised list
  pub covers : (y : Vote) → In y (votes list) → y.ballot.0 < b → f ≤ y.slot.0 → y.slot.0 < f + 64 → Covers vs y

-- a promise: it was made, and it lists the greatest votes of the window
pub record IsGoodPromised (list : List Payload) (b f : ℕ) (vs : List Vote) : Type 0 where
  pub reached : b ≤ promised list
  pub listed : vs ≡ reports b f 64 (votes list)

-- the owner of b has promised it
abbrev pub IsBegun : ℕ → (ℕ → List Payload) → ℕ → Type 0
IsBegun n lists b = b ≤ promised (lists (b % n))

abbrev pub AreProposed : List Vote → List Vote → Type 0
AreProposed proposals vs = (x : Vote) → In x vs → In x proposals

-- each slot below one has a chosen value
abbrev pub AreFilled : ℕ → (ℕ → List Payload) → ℕ → Type 0
AreFilled n lists k = (j : ℕ) → j < k → (u : Value) × IsVotedIn n lists j u

-- what each message that was ever sent says, and goes on saying rightly
abbrev pub IsTrueMessage : ℕ → (ℕ → List Payload) → List Vote → Message → Type 0
IsTrueMessage n lists proposals (Prepare b f) = IsBegun n lists b.0
IsTrueMessage n lists proposals (Lower b p) = IsBegun n lists b.0
IsTrueMessage n lists proposals (Promised b f w vs) = IsBegun n lists b.0 × IsGoodPromised (lists w) b.0 f.0 vs × AreProposed proposals vs
IsTrueMessage n lists proposals (Accept b k v) = In (vote_of b.0 k.0 v) proposals
IsTrueMessage n lists proposals (Accepted b k w) = IsBegun n lists b.0 × ((u : Value) × In (vote_of b.0 k.0 u) (votes (lists w)))
IsTrueMessage n lists proposals (Decide k v) = IsVotedIn n lists k.0 v × AreFilled n lists k.0
IsTrueMessage n lists proposals (Copy segment offset entry) = Unit {0}
IsTrueMessage n lists proposals (CopyAck peer held) = Unit {0}
IsTrueMessage n lists proposals (Report shard replica lengths) = Unit {0}
IsTrueMessage n lists proposals (Least shard lengths) = Unit {0}
IsTrueMessage n lists proposals (Want from node) = Unit {0}

-- the proposal that waits is for the next slot, it is among the proposals, and who is counted has that vote
pub record IsGoodProposal (lists : ℕ → List Payload) (proposals : List Vote) (b k : ℕ) (p : Pending) : Type 0 where
  pub next : p.slot ≡ k
  pub proposed : In (vote_of b p.slot p.value) proposals
  pub counted : (w : ℕ) → is_marked p.accepted w ≡ true → In (vote_of b p.slot p.value) (votes (lists w))

abbrev pub IsGoodPending : (ℕ → List Payload) → List Vote → ℕ → ℕ → Option Pending → Type 0
IsGoodPending lists proposals b k None = Unit {0}
IsGoodPending lists proposals b k (Some p) = IsGoodProposal lists proposals b k p

abbrev pub IsPendingSlot : Option Pending → ℕ → Type 0
IsPendingSlot None k = ⊥
IsPendingSlot (Some p) k = p.slot ≡ k

-- a leader of orderer i that knows k values
pub record IsGoodLeader (n : ℕ) (lists : ℕ → List Payload) (proposals : List Vote) (i k : ℕ) (l : Leader) : Type 0 where
  pub mine : l.ballot % n ≡ i
  pub reached : l.ballot ≤ promised (lists i)
  pub used : (x : Vote) → In x proposals → x.ballot.0 ≡ l.ballot → (x.slot.0 < k) ⊎ IsPendingSlot l.pending x.slot.0
  pub within : l.window ≤ k
  pub heard : List Vote
  pub long : length l.best ≡ 64
  pub table : (j : ℕ) → j < 64 → slice_index_or l.best j None ≡ greatest (is_of_slot (l.window + j)) heard
  pub answers : (w : ℕ) → is_marked l.answered w ≡ true → IsReported (lists w) l.ballot l.window heard
  pub real : AreProposed proposals heard
  pub waits : IsGoodPending lists proposals l.ballot k l.pending

abbrev pub IsGoodLead : ℕ → (ℕ → List Payload) → List Vote → ℕ → ℕ → Option Leader → Type 0
IsGoodLead n lists proposals i k None = Unit {0}
IsGoodLead n lists proposals i k (Some l) = IsGoodLeader n lists proposals i k l

-- each known value is chosen for its slot
abbrev pub AreChosen : ℕ → (ℕ → List Payload) → List Value → Type 0
AreChosen n lists known = (k : ℕ) (v : Value) → IsIn known k v → IsVotedIn n lists k v

pub record IsGoodOrderer (n : ℕ) (lists : ℕ → List Payload) (proposals : List Vote) (i : ℕ) (o : Orderer) : Type 0 where
  pub chosen : AreChosen n lists o.known
  pub leads : IsGoodLead n lists proposals i (length o.known) o.leader

-- what may be put into a list, and stays so while it is in flight
abbrev pub CanPut : List Payload → List Vote → Option Payload → Type 0
CanPut list proposals None = Unit {0}
CanPut list proposals (Some (Promise b)) = Unit {0}
CanPut list proposals (Some (Voted x)) = (promised list ≤ x.ballot.0) × NoVote list x.ballot.0 x.slot.0 × In x proposals

abbrev pub IsGoodMode : ℕ → (ℕ → List Payload) → List Vote → ℕ → Mode → Type 0
IsGoodMode n lists proposals i (Stopped flight known) = CanPut (lists i) proposals flight × AreChosen n lists known
IsGoodMode n lists proposals i (Running o) = IsGoodOrderer n lists proposals i o

-- the durable lists of nodes
abbrev pub lists_of : (ℕ → Node) → ℕ → List Payload
lists_of node i = (node i).durable

-- the whole: of nodes, all letters that were ever sent, and the proposals
pub record Keeps (n : ℕ) (node : ℕ → Node) (letters : List Sent) (proposals : List Vote) : Type 0 where
  pub global : Global n (lists_of node) proposals
  pub letters_true : (s : Sent) → In s letters → IsTrueMessage n (lists_of node) proposals s.message
  pub modes : (i : ℕ) → IsGoodMode n (lists_of node) proposals i (node i).mode

-- there are proposals with which the whole holds
abbrev pub Holds : ℕ → (ℕ → Node) → List Sent → Type 0
Holds n node letters = (proposals : List Vote) × Keeps n node letters proposals
