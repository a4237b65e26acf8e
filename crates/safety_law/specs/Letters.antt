-- What is so of every letter that was ever sent: it is for its addressee, its numbers are in range, and what it says of
-- lists is so of the lists as they are now.
use Rattle.std.specs.Prelude.{◌≡◌, ◌≢◌, ℕ, ◌<◌, ◌≤◌, List, length, true, Some, slice_get, slice_index}
use Rattle.history_frame.specs.declared.events.Sent.{Sent}
use Rattle.log_base.specs.ClusterShape.{Shape}
use Rattle.message_frame.specs.declared.messages.Message.{Message}
use Rattle.message_frame.specs.declared.messages.Message.TheVariants.{Copy, CopyAck, Report, Least, Prepare, Promised, Lower, Accept, Accepted, Decide, Want}
use Rattle.message_frame.specs.declared.messages.Vote.{Vote}
use Rattle.message_frame.specs.Spelling.{IsMessage}
use Rattle.node_table.specs.declared.role.Role.{Role}
use Rattle.node_table.specs.declared.role.Role.TheVariants.{Storage, Gatherer, Orderer}
use Rattle.node_table.specs.Numbering.{nodes_of, role_at}
use Rattle.record_frame.specs.declared.entries.Entry.{Entry}
use Rattle.record_frame.specs.declared.values.Lengths.{Lengths}
use Rattle.record_frame.specs.Values.{IsLengths}
use Rattle.node_model.specs.Fits.{IsMessageOf, names_of}
use Rattle.agreement_law.specs.Elements.{In}
use Rattle.safety_law.specs.Lists.{IsHeldValue, Lists}

-- a copy to a replica of a shard: the entry stands at its offset in the primary's list, and the replica is not the primary
abbrev pub IsTrueCopy : Lists → Role → ℕ → ℕ → Entry → Type 0
IsTrueCopy lists (Storage shard replica) segment offset entry =
    (segment ≢ replica.0) × (slice_get (lists shard.0 segment segment) offset ≡ Some entry)
IsTrueCopy lists (Gatherer index) segment offset entry = ⊥
IsTrueCopy lists (Orderer index) segment offset entry = ⊥

-- an acknowledgement to a primary: another replica holds so much of its segment
abbrev pub IsTrueAck : Lists → Role → ℕ → ℕ → Type 0
IsTrueAck lists (Storage shard replica) peer held = (peer ≢ replica.0) × (held ≤ length (lists shard.0 peer replica.0))
IsTrueAck lists (Gatherer index) peer held = ⊥
IsTrueAck lists (Orderer index) peer held = ⊥

-- lengths of which a replica holds each
abbrev pub AreHeldBy : Shape → Lists → ℕ → ℕ → Lengths → Type 0
AreHeldBy config lists shard replica lengths =
    (segment : ℕ) → segment < config.replicas → slice_index lengths.length segment ≤ length (lists shard replica segment)

-- lengths that a replica may report
pub record IsTrueReport (config : Shape) (lists : Lists) (shard replica : ℕ) (lengths : Lengths) : Type 0 where
  pub range : IsLengths 5 lengths
  pub count : lengths.count ≡ config.replicas
  pub held : AreHeldBy config lists shard replica lengths

-- lengths of which every replica of a shard holds each
abbrev pub IsTrueLeast : Shape → Lists → ℕ → Lengths → Type 0
IsTrueLeast config lists shard lengths = (replica : ℕ) → replica < config.replicas → AreHeldBy config lists shard replica lengths

abbrev pub AreHeldVotes : Shape → Lists → List Vote → Type 0
AreHeldVotes config lists votes = (vote : Vote) → In vote votes → IsHeldValue config lists vote.value

-- a node that learns decided values: a storage node or an orderer
abbrev pub IsLearner : Role → Type 0
IsLearner (Storage shard replica) = Unit {0}
IsLearner (Gatherer index) = ⊥
IsLearner (Orderer index) = Unit {0}

-- what a message to a role says is so
abbrev pub IsTrue : Shape → Lists → Role → Message → Type 0
IsTrue config lists role (Copy segment offset entry) = IsTrueCopy lists role segment.0 offset entry
IsTrue config lists role (CopyAck peer held) = IsTrueAck lists role peer.0 held
IsTrue config lists role (Report shard replica lengths) = AreHeldBy config lists shard.0 replica.0 lengths
IsTrue config lists role (Least shard lengths) = IsTrueLeast config lists shard.0 lengths
IsTrue config lists role (Prepare ballot slot) = Unit {0}
IsTrue config lists role (Promised ballot slot who votes) = AreHeldVotes config lists votes
IsTrue config lists role (Lower ballot promise) = Unit {0}
IsTrue config lists role (Accept ballot slot value) = IsHeldValue config lists value
IsTrue config lists role (Accepted ballot slot who) = Unit {0}
IsTrue config lists role (Decide slot value) = IsHeldValue config lists value
IsTrue config lists role (Want slot node) = IsLearner (role_at config node.0)

-- a message that may be sent to a role
pub record IsGoodMessage (config : Shape) (lists : Lists) (role : Role) (message : Message) : Type 0 where
  pub named : (names_of role).message message ≡ true
  pub range : IsMessage message
  pub of_config : IsMessageOf config message
  pub truth : IsTrue config lists role message

-- a letter
pub record IsGoodLetter (config : Shape) (lists : Lists) (sent : Sent) : Type 0 where
  pub within : sent.to.0 < nodes_of config
  pub good : IsGoodMessage config lists (role_at config sent.to.0) sent.message

abbrev pub AreGoodLetters : Shape → Lists → List Sent → Type 0
AreGoodLetters config lists letters = (sent : Sent) → In sent letters → IsGoodLetter config lists sent
