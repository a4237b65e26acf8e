-- The counts of a node after its events, and what the events of all nodes come from.
use Rattle.std.proofs.Common.{◌≡◌, ◌<◌, ◌≤◌, ◌+◌, ◌-◌, ◌^◌, ℕ, zero, suc, min, Bool, true, false, cond, List, [], ◌∷◌, length, map, Option, Some, refl, sym, ap, subst, inl, inr, arith, ◌∙◌}
use Rattle.std.specs.List.{filter}
use Rattle.std.proofs.lemmas.Bool.{cases_lt}
use Rattle.std.proofs.lemmas.List.{get_or_past}
use Rattle.history_frame.specs.declared.events.Event.{Event}
use Rattle.history_frame.specs.declared.events.Happened.{Happened}
use Rattle.history_frame.specs.declared.inputs.Mark.{Mark}
use Rattle.history_frame.specs.declared.inputs.Mark.TheVariants.{Done, Halted, OpenedWithout, OpenedWith, StayedDown}
use Rattle.log_base.specs.ClusterShape.{Shape}
use Rattle.log_base.specs.Machines.{state_after}
use Rattle.node_model.specs.Histories.{events_at}
use Rattle.node_table.specs.Numbering.{nodes_of}
use Rattle.shard_replica.specs.Lists.{Medium}
use Rattle.storage_node.specs.Counting.{CountsOn}
use Rattle.counted_node.specs.Causes.{AllCountOn, AllKeep, HaveCauses, IsCounted, failures, journals_at, media_at, shows_failure}
use Rattle.counted_node.specs.Counted.{AreCaused, AreCounted, CountedState, counted_meanings, halted_after, shown_in, stayed_after}
use Rattle.counted_node.specs.Projected.{first_stays}
use Rattle.counted_node.proofs.Rises.{counts_same}

-- ---- one node

min_is : (last count : ℕ) → count ≤ last → min count last ≡ count
min_is last count low = omega arith

-- the counts after one event, with those of the others
module _ (event : Happened) (others : List Happened) where
  abbrev with_event : Bool → ℕ
  with_event shown = length (cond shown (event ∷ others) others)

  one_halts : (mark : Mark) (count : ℕ) → count + 1 ≤ 2 ^ 64 - 1 → halted_after count mark + length others ≡ count + with_event (shows_failure false mark)
  one_halts Done count room = refl
  one_halts Halted count room = let is = min_is (2 ^ 64 - 1) (count + 1) room in omega (arith, is)
  one_halts OpenedWithout count room = refl
  one_halts OpenedWith count room = refl
  one_halts StayedDown count room = refl

  one_fails : (mark : Mark) (halts stays : ℕ) → halts + stays + 1 ≤ 2 ^ 64 - 1
      → halted_after halts mark + stayed_after stays mark + length others ≡ halts + stays + with_event (shows_failure true mark)
  one_fails Done halts stays room = refl
  one_fails Halted halts stays room = let is = min_is (2 ^ 64 - 1) (halts + 1) (omega (arith, room)) in omega (arith, is)
  one_fails OpenedWithout halts stays room = refl
  one_fails OpenedWith halts stays room = refl
  one_fails StayedDown halts stays room = let is = min_is (2 ^ 64 - 1) (stays + 1) (omega (arith, room)) in omega (arith, is)

one_more_to : (last count : ℕ) → min (count + 1) last ≤ count + 1
one_more_to last count = omega arith

-- a count goes up by one at most
up_by_one : (mark : Mark) (halts stays : ℕ) → halted_after halts mark + stayed_after stays mark ≤ halts + stays + 1
up_by_one Done halts stays = omega arith
up_by_one Halted halts stays = let more = one_more_to (2 ^ 64 - 1) halts in omega (arith, more)
up_by_one OpenedWithout halts stays = omega arith
up_by_one OpenedWith halts stays = omega arith
up_by_one StayedDown halts stays = let more = one_more_to (2 ^ 64 - 1) stays in omega (arith, more)

abbrev shows : Bool → Happened → Bool
shows keeps happened = shows_failure keeps happened.mark

-- While no count is at its last number, the counts are those of the events that showed a failure.
pub halts_after : (start : CountedState) (events : List Happened) → start.halted + start.stayed + length events ≤ 2 ^ 64 - 1
    → (state_after counted_meanings start events).halted ≡ start.halted + shown_in false events
halts_after start [] room = omega arith
halts_after start (event ∷ events) room =
    let next = counted_meanings.after start event in
    let up = up_by_one event.mark start.halted start.stayed in
    halts_after next events (omega (arith, up, room))
    ∙ one_halts event (filter (shows false) events) event.mark start.halted (omega (arith, room))

pub fails_after : (start : CountedState) (events : List Happened) → start.halted + start.stayed + length events ≤ 2 ^ 64 - 1
    → (state_after counted_meanings start events).halted + (state_after counted_meanings start events).stayed ≡ start.halted + start.stayed + shown_in true events
fails_after start [] room = omega arith
fails_after start (event ∷ events) room =
    let next = counted_meanings.after start event in
    let up = up_by_one event.mark start.halted start.stayed in
    fails_after next events (omega (arith, up, room))
    ∙ one_fails event (filter (shows true) events) event.mark start.halted start.stayed (omega (arith, room))

-- a node that counted from the start of its events
pub caused_by : (count : ℕ) (start state : CountedState) (events : List Happened) (now : List Medium) → start.halted ≡ 0 → start.stayed ≡ 0 → length events ≤ 2 ^ 64 - 1
    → state ≡ state_after counted_meanings start events → AreCounted count state.first now state.halted state.stayed → AreCaused count start.first now events
caused_by count start state events now no_halts no_stays few is counted =
    let same_first : state.first ≡ start.first = ap (λ (s : CountedState). s.first) is ∙ first_stays start events in
    let halts : state.halted ≡ shown_in false events =
    ap (λ (s : CountedState). s.halted) is ∙ halts_after start events (omega (arith, no_halts, no_stays, few)) ∙ ap (λ (n : ℕ). n + shown_in false events) no_halts ∙ zero_with (shown_in false events) in
    let fails : state.halted + state.stayed ≡ shown_in true events =
    ap (λ (s : CountedState). s.halted + s.stayed) is ∙ fails_after start events (omega (arith, no_halts, no_stays, few))
    ∙ (let none : start.halted + start.stayed ≡ 0 = omega (arith, no_halts, no_stays) in ap (λ (n : ℕ). n + shown_in true events) none) ∙ zero_with (shown_in true events) in
    record {
      counts = subst (λ (media : List Medium). CountsOn media now) same_first counted.counts;
      halted = subst (λ (x : List Medium × ℕ). IsCounted x.0 now count x.1) (λ i. (same_first i, halts i)) counted.halted;
      failed = λ keep.
          subst (λ (x : List Medium × ℕ). IsCounted x.0 now count x.1) (λ i. (same_first i, fails i))
          (counted.failed (subst (λ (media : List Medium). AllKeep media count) (sym same_first) keep));
    }
  where
    zero_with : (n : ℕ) → 0 + n ≡ n
    zero_with n = omega arith

-- ---- all nodes

-- the events of a node, and what happened in them
pub shown_is : (keeps : Bool) (events : List Event) → shown_in keeps (map (λ (e : Event). e.happened) events) ≡ length (filter (λ (event : Event). shows_failure keeps event.happened.mark) events)
shown_is keeps [] = refl
shown_is keeps (event ∷ events) = by (shows_failure keeps event.happened.mark) (shown_is keeps events)
  where
    by : (shown : Bool) → shown_in keeps (map (λ (e : Event). e.happened) events) ≡ length (filter (λ (e : Event). shows_failure keeps e.happened.mark) events)
        → length (cond shown (event.happened ∷ filter (shows keeps) (map (λ (e : Event). e.happened) events)) (filter (shows keeps) (map (λ (e : Event). e.happened) events)))
        ≡ length (cond shown (event ∷ filter (λ (e : Event). shows_failure keeps e.happened.mark) events) (filter (λ (e : Event). shows_failure keeps e.happened.mark) events))
    by true rest = ap suc rest
    by false rest = rest

-- Where the events of each node have their causes, all do.
pub have_causes : (config : Shape) (events : List Event) (old new : List (List Medium)) → length old ≡ nodes_of config → length new ≡ nodes_of config
    → ((number : ℕ) → number < nodes_of config → AreCaused (journals_at config number) (media_at old number) (media_at new number) (map (λ (e : Event). e.happened) (events_at number events)))
    → HaveCauses config events old new
have_causes config events old new all still each = record {
  counts = λ number. elim (cases_lt number (nodes_of config)) [
    | inl low ↦ (each number low).counts
    | inr past ↦
        subst (λ (x : List Medium × List Medium). CountsOn x.0 x.1)
        (λ i. (sym (get_or_past old number [] (omega (arith, all, past))) i, sym (get_or_past new number [] (omega (arith, still, past))) i))
        (counts_same [])
  ];
  halted = λ number low. subst (IsCounted (media_at old number) (media_at new number) (journals_at config number)) (shown_is false (events_at number events)) (each number low).halted;
  stayed = λ number low keep.
      subst (IsCounted (media_at old number) (media_at new number) (journals_at config number)) (shown_is true (events_at number events)) ((each number low).failed keep);
}
