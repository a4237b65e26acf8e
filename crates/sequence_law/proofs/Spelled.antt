-- The sequence: the entries at the places that values spell.
use Rattle.std.proofs.Common.{◌≡◌, ◌<◌, ℕ, List, [], ◌++◌, length, map, slice_get, get_or, Option, Some, refl, sym, ap, subst, ◌∙◌}
use Rattle.std.specs.Option.{option_map}
use Rattle.std.proofs.lemmas.Option.{slice_get-get_or, slice_get-map}
use Rattle.history_frame.specs.declared.events.Event.{Event}
use Rattle.log_base.specs.ClusterShape.{Shape}
use Rattle.log_base.specs.declared.numbers.Place.{Place}
use Rattle.log_model.specs.Places.{place_at}
use Rattle.log_model.specs.Spelling.{spell}
use Rattle.record_frame.specs.declared.entries.Entry.{Entry}
use Rattle.record_frame.specs.declared.values.Value.{Value}
use Rattle.node_model.specs.Durable.{IsFounded}
use Rattle.node_model.specs.Legal.{IsLegal}
use Rattle.node_model.specs.NodeState.{KeptLists}
use Rattle.node_model.specs.Sequence.{decided_by, sequence}
use Rattle.agreement_law.specs.Elements.{IsPrefix}
use Rattle.safety_law.specs.Lists.{IsSegment, Lists}
use Rattle.safety_law.specs.Statements.{lists_after}
use Rattle.safety_law.proofs.Start.{in_places, made_from}
use Rattle.sequence_law.specs.Known.{DecidedIsHeld, SequenceStays}
use Rattle.sequence_law.proofs.Agreeing.{decided_stays}
use Rattle.sequence_law.proofs.Chains.{place_stays}
use Rattle.sequence_law.proofs.Covered.{covered_held, decided_safe, place_held, place_inside}
use Rattle.sequence_law.proofs.Grown.{entry_stays}
use Rattle.sequence_law.proofs.Moments.{legal_part}

-- the entry at a place of some lists, and the entries at the places that values spell
abbrev pub entry_in_lists : Lists → Place → Option Entry
entry_in_lists lists place = slice_get (lists place.shard.0 place.segment.0 place.segment.0) place.offset

abbrev pub spelled_in : ℕ → Lists → List Value → List (Option Entry)
spelled_in replicas lists values = map (entry_in_lists lists) (spell replicas values)

pub sequence_is : (config : Shape) (kept : KeptLists) (events : List Event)
    → sequence config kept events ≡ spelled_in config.replicas (lists_after config kept events) (decided_by config kept events)
unfolding sequence
sequence_is config kept events = refl

-- what stands at a place
pub spelled_at : (replicas : ℕ) (lists : Lists) (values : List Value) (place : Place) (p : ℕ) → slice_get (spell replicas values) p ≡ Some place
    → slice_get (spelled_in replicas lists values) p ≡ Some (entry_in_lists lists place)
spelled_at replicas lists values place p e =
    slice_get-map (entry_in_lists lists) (spell replicas values) p ∙ ap (option_map (entry_in_lists lists)) e

pub spelled_place : (replicas : ℕ) (lists : Lists) (values : List Value) (p : ℕ) (y : Option Entry) → slice_get (spelled_in replicas lists values) p ≡ Some y
    → (place : Place) × (slice_get (spell replicas values) p ≡ Some place) × (entry_in_lists lists place ≡ y)
spelled_place replicas lists values p y e = made_from (entry_in_lists lists) (spell replicas values) p y e

-- more values over lists that have the same entries at the places: the entries spelled are the beginning
pub spelled_prefix : (replicas : ℕ) (lists now : Lists) (values more : List Value) → IsPrefix values more
    → ((place : Place) (p : ℕ) → slice_get (spell replicas values) p ≡ Some place → entry_in_lists now place ≡ entry_in_lists lists place)
    → IsPrefix (spelled_in replicas lists values) (spelled_in replicas now more)
spelled_prefix replicas lists now values more front same = in_places (spelled_in replicas lists values) (spelled_in replicas now more) at
  where
    at : (k : ℕ) (y : Option Entry) → slice_get (spelled_in replicas lists values) k ≡ Some y → slice_get (spelled_in replicas now more) k ≡ Some y
    at k y e =
        let one = spelled_place replicas lists values k y e in
        spelled_at replicas now more one.0 k (place_stays replicas values more one.0 k front one.1) ∙ ap Some (same one.0 k one.1 ∙ one.2)

-- an offset below the length has an entry
pub has_entry : (list : List Entry) (o : ℕ) → o < length list → (x : Entry) × (slice_get list o ≡ Some x)
has_entry list o below = (get_or list o none, slice_get-get_or list o none below)
  where
    none : Entry
    none = record { client = record { 0 = 0 }; number = record { 0 = 0 }; bytes = [] }

module _ (config : Shape) (run : ℕ) (kept : KeptLists) (events : List Event) (legal : IsLegal config run kept events) where
  pub decided_held : DecidedIsHeld config kept events
  decided_held = record {
    covered = covered_held config (lists_after config kept events) (decided_by config kept events) (decided_safe config run kept events legal);
    entries = λ p below.
        let place = get_or (spell config.replicas (decided_by config kept events)) p (place_at 0 0 0) in
        let at = slice_get-get_or (spell config.replicas (decided_by config kept events)) p (place_at 0 0 0) below in
        let inside = place_inside config (lists_after config kept events) (decided_by config kept events) (decided_safe config run kept events legal) place p at in
        let held = place_held config (lists_after config kept events) (decided_by config kept events) (decided_safe config run kept events legal) place p place.segment.0 at inside.segment_below in
        let one = has_entry (lists_after config kept events place.shard.0 place.segment.0 place.segment.0) place.offset held in (
          one.0,
          ap (λ (l : List (Option Entry)). slice_get l p) (sequence_is config kept events)
              ∙ spelled_at config.replicas (lists_after config kept events) (decided_by config kept events) place p at ∙ ap Some one.1,
        );
  }

  -- the places of the sequence are of the cluster, and have entries
  pub sequence_place : (p : ℕ) (x : Entry) → slice_get (sequence config kept events) p ≡ Some (Some x)
      → (place : Place) × (slice_get (spell config.replicas (decided_by config kept events)) p ≡ Some place) × IsSegment config place.shard.0 place.segment.0 place.segment.0
      × (slice_get (lists_after config kept events place.shard.0 place.segment.0 place.segment.0) place.offset ≡ Some x)
  sequence_place p x e =
      let one = spelled_place config.replicas (lists_after config kept events) (decided_by config kept events) p (Some x)
      (subst (λ (l : List (Option Entry)). slice_get l p ≡ Some (Some x)) (sequence_is config kept events) e) in
      (one.0, one.1, place_inside config (lists_after config kept events) (decided_by config kept events) (decided_safe config run kept events legal) one.0 p one.1, one.2)

  pub in_sequence : (p : ℕ) (place : Place) (x : Entry) → slice_get (spell config.replicas (decided_by config kept events)) p ≡ Some place
      → slice_get (lists_after config kept events place.shard.0 place.segment.0 place.segment.0) place.offset ≡ Some x → slice_get (sequence config kept events) p ≡ Some (Some x)
  in_sequence p place x at e =
      ap (λ (l : List (Option Entry)). slice_get l p) (sequence_is config kept events)
      ∙ spelled_at config.replicas (lists_after config kept events) (decided_by config kept events) place p at ∙ ap Some e

pub sequence_stays : (config : Shape) (run : ℕ) (kept : KeptLists) → IsFounded config run kept → (before more : List Event) → IsLegal config run kept (before ++ more)
    → SequenceStays config kept before more
sequence_stays config run kept founded before more legal = record {
  decided = front;
  sequence_is =
      subst (λ (x : List (Option Entry) × List (Option Entry)). IsPrefix x.0 x.1)
      (λ i. (sym (sequence_is config kept before) i, sym (sequence_is config kept (before ++ more)) i))
      (spelled_prefix config.replicas (lists_after config kept before) (lists_after config kept (before ++ more)) (decided_by config kept before) (decided_by config kept (before ++ more)) front same);
}
  where
    front : IsPrefix (decided_by config kept before) (decided_by config kept (before ++ more))
    front = decided_stays config run kept founded before more (before ++ more) refl legal

    then : IsLegal config run kept before
    then = legal_part config run kept before more (before ++ more) refl legal

    same : (place : Place) (p : ℕ) → slice_get (spell config.replicas (decided_by config kept before)) p ≡ Some place
        → entry_in_lists (lists_after config kept (before ++ more)) place ≡ entry_in_lists (lists_after config kept before) place
    same place p at =
        let inside = place_inside config (lists_after config kept before) (decided_by config kept before) (decided_safe config run kept before then) place p at in
        let held = place_held config (lists_after config kept before) (decided_by config kept before) (decided_safe config run kept before then) place p place.segment.0 at inside.segment_below in
        let one = has_entry (lists_after config kept before place.shard.0 place.segment.0 place.segment.0) place.offset held in
        entry_stays config run kept before more (before ++ more) refl legal place.shard.0 place.segment.0 place.segment.0 place.offset one.0 inside.shard_below inside.segment_below inside.segment_below one.1
        ∙ sym one.1
