-- What contracts see of an acceptor, and how its answers tell those of its rule.
use Rattle.std.specs.Prelude.{◌≡◌, ℕ, ◌<◌, ◌≤◌, List, [], Bool, true, false, Option, Some, None, IsSomeAnd}
use Rattle.message_frame.specs.declared.messages.Vote.{Vote}
use Rattle.segment_journal.specs.Journalled.{Journalled, end_of}
use Rattle.segment_journal.specs.declared.journal.Installed.{Installed}
use Rattle.segment_journal.specs.declared.journal.Installed.TheVariants.{Failed, OneMore, Same}
use Rattle.paxos_model.specs.Acceptor.{Promised, Refused, Granted, Accepted, TooLow, Taken}
use Rattle.paxos_model.specs.Payloads.{payload_limit}
use Rattle.paxos_model.specs.Votes.{Payload}
use Rattle.paxos_acceptor.specs.Table.{Table, Tables}
use Rattle.paxos_acceptor.specs.declared.answers.Acceptance.{Acceptance}
use Rattle.paxos_acceptor.specs.declared.answers.Acceptance.TheVariants.{Accepted as AcceptedNow, Lower as LowerVote, Halted as HaltedVote}
use Rattle.paxos_acceptor.specs.declared.answers.Prepared.{Prepared}
use Rattle.paxos_acceptor.specs.declared.answers.Prepared.TheVariants.{Promised as PromisedNow, Lower as LowerPromise, Halted as HaltedPromise}

-- the journal, and the votes that the last promise reported
pub record Accepting (J : Type 0) : Type 0 where
  pub journal : J
  pub reported : List Vote

-- what the parts of an acceptor keep true: the table says what the list says, and there is room for the votes of a window
-- and for the bytes of a payload
pub record IsAcceptor (list : List Payload) (table : Table) (window spelling : ℕ) : Type 0 where
  pub tables : Tables table list
  pub window_room : 64 ≤ window
  pub spelling_room : payload_limit ≤ spelling

-- the journal has room for one promise or vote
pub record HasRoom (journal : Journalled) : Type 0 where
  pub bytes : IsSomeAnd journal.room (λ bytes. payload_limit ≤ bytes)
  pub few : end_of journal < 16777216

-- what is put, and whether its put failed
abbrev pub put_by_prepare : Promised → Option Payload
put_by_prepare (Refused promise) = None
put_by_prepare (Granted put reported) = put

abbrev pub put_by_accept : Accepted → Option Payload
put_by_accept (TooLow promise) = None
put_by_accept (Taken put) = put

abbrev pub is_halted : Prepared → Bool
is_halted PromisedNow = false
is_halted (LowerPromise promised) = false
is_halted HaltedPromise = true

abbrev pub is_halted_vote : Acceptance → Bool
is_halted_vote AcceptedNow = false
is_halted_vote (LowerVote promised) = false
is_halted_vote HaltedVote = true

-- a put failed, so there was one
abbrev pub IsPut : Option Payload → Type 0
IsPut None = ⊥
IsPut (Some payload) = Unit {0}

-- the answer to Prepare, and the votes that it reports; a promise whose put failed is not given
abbrev pub TellsPromised : Prepared → Promised → List Vote → List Vote → Type 0
TellsPromised PromisedNow (Granted put reported) old new = new ≡ reported
TellsPromised HaltedPromise (Granted put reported) old new = IsPut put × (new ≡ old)
TellsPromised (LowerPromise lower) (Refused promise) old new = (lower.0 ≡ promise) × (new ≡ old)
TellsPromised PromisedNow (Refused promise) old new = ⊥
TellsPromised HaltedPromise (Refused promise) old new = ⊥
TellsPromised (LowerPromise lower) (Granted put reported) old new = ⊥

-- the answer to Accept
abbrev pub TellsAccepted : Acceptance → Accepted → Type 0
TellsAccepted AcceptedNow (Taken put) = Unit {0}
TellsAccepted HaltedVote (Taken put) = IsPut put
TellsAccepted (LowerVote lower) (TooLow promise) = lower.0 ≡ promise
TellsAccepted AcceptedNow (TooLow promise) = ⊥
TellsAccepted HaltedVote (TooLow promise) = ⊥
TellsAccepted (LowerVote lower) (Taken put) = ⊥

-- the reported votes after what was read is put in place
abbrev pub reported_after : Installed → List Vote → List Vote
reported_after Failed reported = reported
reported_after OneMore reported = []
reported_after Same reported = []
