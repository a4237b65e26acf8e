-- The entries of a stream stand in the sequence, and are a piece of it.
use Rattle.std.proofs.Common.{◌≡◌, ℕ, zero, suc, ◌+◌, List, [], ◌∷◌, drop, length, map, take, slice_get, Option, Some, refl, ap, sym, ◌∙◌, arith}
use Rattle.std.specs.List.{AllByRecursion}
use Rattle.std.proofs.lemmas.Option.{none-some, same_Some}
use Rattle.log_base.specs.ClusterShape.{Shape}
use Rattle.record_frame.specs.declared.entries.Entry.{Entry}
use Rattle.command_frame.specs.declared.items.Item.{Item}
use Rattle.reply_frame.specs.declared.replies.Reply.{Reply, Stream'}
use Rattle.history_frame.specs.declared.events.Event.{Event}
use Rattle.node_model.specs.Durable.{IsFounded}
use Rattle.node_model.specs.Legal.{IsLegal}
use Rattle.node_model.specs.NodeState.{KeptLists}
use Rattle.node_model.specs.Sequence.{caller, sequence}
use Rattle.sequence_law.proofs.Reading.{reads_agree}
use Rattle.schedule_model.specs.Driven.{IsFollowed, replies_of}
use Rattle.stream_law.specs.Streams.{EachInStream, IsOfSequence, IsPiece, StreamsAgree, WasFound}
use Rattle.stream_law.proofs.Finding.{streams_found}

-- ---- from entries to streams

module _ (P Q : ℕ → Entry → Type 0) (f : (position : ℕ) (entry : Entry) → P position entry → Q position entry) where
  each-map : (reply : Reply) → EachInStream P reply → EachInStream Q reply
  each-map (Stream' from entries at last) h = λ i entry there. f (from.0 + i) entry (h i entry there)
  each-map reply h = tt

all-map : (P Q : Reply → Type 0) → ((reply : Reply) → P reply → Q reply) → (replies : List Reply) → AllByRecursion P replies → AllByRecursion Q replies
all-map P Q f [] h = tt
all-map P Q f (reply ∷ replies) h = (f reply h.0, all-map P Q f replies h.1)

-- ---- pieces

-- a list whose entries stand at the front of another is the front of it
front-is : (entries : List Entry) (places : List (Option Entry))
    → ((i : ℕ) (entry : Entry) → slice_get entries i ≡ Some entry → slice_get places i ≡ Some (Some entry))
    → map (λ (entry : Entry). Some entry) entries ≡ take (length entries) places
front-is [] places h = refl
front-is (entry ∷ entries) [] h = absurd (none-some (Some entry) (h zero entry refl))
front-is (entry ∷ entries) (place ∷ places) h =
    let first : place ≡ Some entry = same_Some place (Some entry) (h zero entry refl) in
    let rest = front-is entries places (λ i one at. h (suc i) one at) in
    ap (λ (l : List (Option Entry)). Some entry ∷ l) rest
    ∙ ap (λ (one : Option Entry). one ∷ take (length entries) places) (sym first)

dropped : (places : List (Option Entry)) (from i : ℕ) → slice_get (drop from places) i ≡ slice_get places (from + i)
dropped places zero i = let same : 0 + i ≡ i = omega arith in ap (slice_get places) (sym same)
dropped [] (suc from) i = refl
dropped (place ∷ places) (suc from) i =
    let next : suc from + i ≡ suc (from + i) = omega arith in
    dropped places from i ∙ ap (slice_get (place ∷ places)) (sym next)

piece-of : (places : List (Option Entry)) (reply : Reply) → EachInStream (λ position entry. slice_get places position ≡ Some (Some entry)) reply → IsPiece places reply
piece-of places (Stream' from entries at last) h = front-is entries (drop from.0 places) (λ i entry there. dropped places from.0 i ∙ h i entry there)
piece-of places reply h = tt

-- ---- the one sequence

module _ (config : Shape) (run : ℕ) (kept : KeptLists) (founded : IsFounded config run kept) (events : List Event) (legal : IsLegal config run kept events) where
  -- what was found stands in the sequence
  stands : (position : ℕ) (entry : Entry) → WasFound events position entry → IsOfSequence config kept events position entry
  stands position entry found = record {
    found = found;
    agrees = reads_agree config run kept founded events legal found.before found.event found.client position entry found.after (ap caller found.asked) found.told;
  }

  piece : (reply : Reply) → EachInStream (IsOfSequence config kept events) reply → IsPiece (sequence config kept events) reply
  piece reply h =
      piece-of (sequence config kept events) reply
      (each-map (IsOfSequence config kept events) (λ position entry. slice_get (sequence config kept events) position ≡ Some (Some entry))
      (λ position entry of. of.agrees.stands) reply h)

  -- streams whose entries were found agree with the sequence
  pub found_streams_agree : (replies : List Reply) → AllByRecursion (EachInStream (WasFound events)) replies → StreamsAgree config kept events replies
  found_streams_agree replies found =
      let each : AllByRecursion (EachInStream (IsOfSequence config kept events)) replies =
      all-map (EachInStream (WasFound events)) (EachInStream (IsOfSequence config kept events)) (each-map (WasFound events) (IsOfSequence config kept events) stands) replies found in
      record {
        each = each;
        pieces = all-map (EachInStream (IsOfSequence config kept events)) (IsPiece (sequence config kept events)) piece replies each;
      }

  pub streams_agree_with : (items : List Item) → IsFollowed config run items events → StreamsAgree config kept events (replies_of config run items events)
  streams_agree_with items follow = found_streams_agree (replies_of config run items events) (streams_found config run kept items events legal follow)
