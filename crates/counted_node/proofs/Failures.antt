-- The events of a node that show failures of its disks, and what each of them comes from.
use Rattle.std.proofs.Common.{◌≡◌, ◌≢◌, ◌<◌, ◌+◌, ℕ, zero, suc, Bool, true, false, cond, List, [], ◌∷◌, ◌++◌, length, slice_get, Some, refl, sym, ap, subst, inl, inr, arith, eq-eqb, eqb-true, ◌∙◌}
use Rattle.std.specs.List.{filter}
use Rattle.std.proofs.lemmas.Bool.{cases_eq}
use Rattle.std.proofs.lemmas.List.{length-append}
use Rattle.std.proofs.lemmas.List.Elements.{filter-append}
use Rattle.history_frame.specs.declared.events.Event.{Event}
use Rattle.history_frame.specs.declared.inputs.Mark.{Mark}
use Rattle.history_frame.specs.declared.inputs.Mark.TheVariants.{Done, Halted, OpenedWithout, OpenedWith, StayedDown}
use Rattle.log_base.specs.ClusterShape.{Shape}
use Rattle.node_model.specs.Histories.{events_at, is_at}
use Rattle.node_table.specs.Numbering.{nodes_of}
use Rattle.shard_replica.specs.Lists.{Medium}
use Rattle.storage_node.specs.Counting.{CountsOn}
use Rattle.counted_node.specs.Causes.{AllCountOn, AllKeep, HasCause, HaveCauses, IsCounted, OneRose, failures, journals_at, media_at, shows_failure}
use Rattle.counted_node.proofs.Rises.{counted_later, counted_more, counts_same, counts_then, keeps_on}

abbrev shows : Bool → Event → Bool
shows keeps event = shows_failure keeps event.happened.mark

-- ---- one event more

module _ (keeps : Bool) (node : ℕ) where
  abbrev count_of : Bool → Bool → ℕ
  count_of here failed = cond here (cond failed 1 0) 0

  one : (event : Event) (here failed : Bool) → is_at node event ≡ here → shows keeps event ≡ failed → failures keeps node (event ∷ []) ≡ count_of here failed
  one event true true h f = rw (h, f)
  one event true false h f = rw (h, f)
  one event false failed h f = rw h

  pub failures_push : (events : List Event) (event : Event)
      → failures keeps node (events ++ event ∷ []) ≡ failures keeps node events + count_of (is_at node event) (shows keeps event)
  failures_push events event =
      ap (λ (some : List Event). length (filter (shows keeps) some)) (filter-append (is_at node) events (event ∷ []))
      ∙ ap (λ (some : List Event). length some) (filter-append (shows keeps) (events_at node events) (events_at node (event ∷ [])))
      ∙ length-append (filter (shows keeps) (events_at node events)) (filter (shows keeps) (events_at node (event ∷ [])))
      ∙ ap (λ (n : ℕ). failures keeps node events + n) (one event (is_at node event) (shows keeps event) refl refl)

  -- an event at another node is not one of them
  pub failures_elsewhere : (events : List Event) (event : Event) → event.node.0 ≢ node → failures keeps node (events ++ event ∷ []) ≡ failures keeps node events
  failures_elsewhere events event other =
      failures_push events event
      ∙ ap (λ (b : Bool). failures keeps node events + count_of b (shows keeps event)) (different (is_at node event) refl)
      ∙ (let same : failures keeps node events + 0 ≡ failures keeps node events = omega arith in same)
    where
      different : (b : Bool) → is_at node event ≡ b → is_at node event ≡ false
      different true is = absurd (other (eqb-true event.node.0 node is))
      different false is = is

  -- one of the events here is one
  pub failures_some : (events : List Event) (k : ℕ) (event : Event) → slice_get events k ≡ Some event → event.node.0 ≡ node → shows keeps event ≡ true
      → 0 < failures keeps node events
  failures_some [] k event at here failed = absurd (cc)
  failures_some (first ∷ events) zero event at here failed =
      let is : first ≡ event = cc in
      let at_node : is_at node first ≡ true = eq-eqb first.node.0 node (ap (λ (e : Event). e.node.0) is ∙ here) in
      let fails : shows keeps first ≡ true = ap (shows keeps) is ∙ failed in
      here_first first events at_node fails
    where
      here_first : (e : Event) (es : List Event) → is_at node e ≡ true → shows keeps e ≡ true → 0 < failures keeps node (e ∷ es)
      here_first e es a f = rw (a, f) (omega arith)
  failures_some (first ∷ events) (suc k) event at here failed =
      let rest = failures_some events k event at here failed in by (is_at node first) (shows keeps first) rest
    where
      by : (h f : Bool) → 0 < failures keeps node events
          → 0 < length (filter (shows keeps) (cond h (first ∷ events_at node events) (events_at node events)))
      by true f some = more (shows keeps first)
        where
          more : (b : Bool) → 0 < length (cond b (first ∷ filter (shows keeps) (events_at node events)) (filter (shows keeps) (events_at node events)))
          more true = omega arith
          more false = some
      by false f some = some

-- why a mark shows a failure
failed_as : (R : Type 0) (keeps : Bool) (mark : Mark) → shows_failure keeps mark ≡ true → (mark ≡ Halted → R) → (mark ≡ StayedDown → keeps ≡ true → R) → R
failed_as R keeps Done e halted stayed = absurd (cc)
failed_as R keeps Halted e halted stayed = halted refl
failed_as R keeps OpenedWithout e halted stayed = absurd (cc)
failed_as R keeps OpenedWith e halted stayed = absurd (cc)
failed_as R keeps StayedDown e halted stayed = stayed refl e

-- ---- counts against events

module _ (keeps : Bool) (node count : ℕ) (events : List Event) (event : Event) (here : event.node.0 ≡ node) (first old new : List Medium)
    (before : CountsOn first old) (after : CountsOn old new) (counted : IsCounted first old count (failures keeps node events)) where
  counted_here : (shows keeps event ≡ true → OneRose old new count) → IsCounted first new count (failures keeps node (events ++ event ∷ []))
  counted_here cause =
      subst (IsCounted first new count) (sym (failures_push keeps node events event ∙ ap (λ (b : Bool). failures keeps node events + count_of keeps node b (shows keeps event)) at_node))
      (by (shows keeps event) refl)
    where
      at_node : is_at node event ≡ true
      at_node = eq-eqb event.node.0 node here

      by : (failed : Bool) → shows keeps event ≡ failed → IsCounted first new count (failures keeps node events + cond failed 1 0)
      by true e = counted_more first old new before after count (failures keeps node events) counted (cause e)
      by false e =
          subst (IsCounted first new count) (let same : failures keeps node events ≡ failures keeps node events + 0 = omega arith in same)
          (counted_later first old new before after count (failures keeps node events) counted)

-- ---- all nodes

pub all_same : (told : List (List Medium)) → AllCountOn told told
all_same told number = counts_same (media_at told number)

pub all_then : (first old new : List (List Medium)) → AllCountOn first old → AllCountOn old new → AllCountOn first new
all_then first old new a b number = counts_then (media_at first number) (media_at old number) (media_at new number) (a number) (b number)

pub no_causes : (config : Shape) (told : List (List Medium)) → HaveCauses config [] told told
no_causes config told = record {
  counts = all_same told;
  halted = λ number low. inl (omega arith);
  stayed = λ number low keep. inl (omega arith);
}

-- the counts rose with no event
pub causes_later : (config : Shape) (events : List Event) (first old new : List (List Medium)) → AllCountOn old new → HaveCauses config events first old → HaveCauses config events first new
causes_later config events first old new after h = record {
  counts = all_then first old new h.counts after;
  halted = λ number low.
      counted_later (media_at first number) (media_at old number) (media_at new number) (h.counts number) (after number) (journals_at config number) (failures false number events)
      (h.halted number low);
  stayed = λ number low keep.
      counted_later (media_at first number) (media_at old number) (media_at new number) (h.counts number) (after number) (journals_at config number) (failures true number events)
      (h.stayed number low keep);
}

-- a node showed a mark
module _ (config : Shape) (events : List Event) (event : Event) (first old new : List (List Medium))
    (cause : HasCause (journals_at config event.node.0) event.happened.mark (media_at old event.node.0) (media_at new event.node.0))
    (others : (other : ℕ) → other ≢ event.node.0 → media_at new other ≡ media_at old other) where
  pub mark_counts : AllCountOn old new
  mark_counts number = elim (cases_eq number event.node.0) [
    | inl same ↦ subst (λ (n : ℕ). CountsOn (media_at old n) (media_at new n)) (sym same) cause.counts
    | inr other ↦ subst (CountsOn (media_at old number)) (sym (others number other)) (counts_same (media_at old number))
  ]

  module _ (h : HaveCauses config events first old) (number : ℕ) (low : number < nodes_of config) where
    abbrev journals : ℕ
    journals = journals_at config number

    here_as : event.node.0 ≡ number → HasCause journals event.happened.mark (media_at old number) (media_at new number)
    here_as same = subst (λ (n : ℕ). HasCause (journals_at config n) event.happened.mark (media_at old n) (media_at new n)) same cause

    halted_push : IsCounted (media_at first number) (media_at new number) journals (failures false number (events ++ event ∷ []))
    halted_push = elim (cases_eq event.node.0 number) [
      | inl same ↦
          counted_here false number journals events event same (media_at first number) (media_at old number) (media_at new number) (h.counts number) (mark_counts number)
          (h.halted number low)
          (λ e. failed_as (OneRose (media_at old number) (media_at new number) journals) false event.happened.mark e (here_as same).halted (λ stays wrong. absurd (cc)))
      | inr other ↦
          subst (IsCounted (media_at first number) (media_at new number) journals) (sym (failures_elsewhere false number events event other))
          (counted_later (media_at first number) (media_at old number) (media_at new number) (h.counts number) (mark_counts number) journals (failures false number events)
          (h.halted number low))
    ]

    stayed_push : AllKeep (media_at first number) journals → IsCounted (media_at first number) (media_at new number) journals (failures true number (events ++ event ∷ []))
    stayed_push keep = elim (cases_eq event.node.0 number) [
      | inl same ↦
          counted_here true number journals events event same (media_at first number) (media_at old number) (media_at new number) (h.counts number) (mark_counts number)
          (h.stayed number low keep)
          (λ e. failed_as (OneRose (media_at old number) (media_at new number) journals) true event.happened.mark e (here_as same).halted
          (λ stays still. (here_as same).stayed stays (keeps_on (media_at first number) (media_at old number) journals (h.counts number) keep)))
      | inr other ↦
          subst (IsCounted (media_at first number) (media_at new number) journals) (sym (failures_elsewhere true number events event other))
          (counted_later (media_at first number) (media_at old number) (media_at new number) (h.counts number) (mark_counts number) journals (failures true number events)
          (h.stayed number low keep))
    ]

  pub causes_push : HaveCauses config events first old → HaveCauses config (events ++ event ∷ []) first new
  causes_push h = record {
    counts = all_then first old new h.counts mark_counts;
    halted = halted_push h;
    stayed = stayed_push h;
  }
