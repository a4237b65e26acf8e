-- The counts of a node from one event to the next.
use Rattle.std.proofs.Common.{◌≡◌, ◌<◌, ◌≤◌, ◌+◌, ◌-◌, ◌^◌, ℕ, min, List, length, map, Option, Some, Bool, refl, sym, ap, subst, inl, inr, arith, ◌∙◌}
use Rattle.std.specs.Prelude.{Result, Ok, Err, IfOk, OnOk}
use Rattle.std.proofs.lemmas.List.{length-map}
use Rattle.core_step.specs.Disks.{IsStarting}
use Rattle.history_frame.specs.declared.inputs.Mark.{Mark}
use Rattle.history_frame.specs.declared.inputs.Mark.TheVariants.{Done, Halted, OpenedWithout, OpenedWith, StayedDown}
use Rattle.segment_journal.specs.Journalled.{Journalled, Turns}
use Rattle.shard_replica.specs.Lists.{Medium, medium_of}
use Rattle.shard_replica.specs.Telling.{AreTold}
use Rattle.storage_node.specs.Counting.{CountsOn}
use Rattle.storage_node.specs.Opening.{RoseIn}
use Rattle.counted_node.specs.Causes.{AllKeep, IsCounted}
use Rattle.counted_node.specs.Counted.{AreCounted, halted_after, one_more, stayed_after}
use Rattle.counted_node.proofs.Rises.{counted_later, counted_more, counts_same, counts_then, keeps_all, keeps_on, rose_below}

-- as many journals are told as tell
pub told_all : {J : Type 0} (state : J → Journalled) (faults : J → ℕ) (keeps_synced : J → Bool) (turns : J → Option Turns) (count : ℕ) (media : List Medium)
    → AreTold state faults keeps_synced turns count media → length media ≡ count
told_all state faults keeps_synced turns count media told =
    ap (λ (l : List Medium). length l) told.media_are
    ∙ length-map told.journals (λ j. medium_of (state j) (faults j) (keeps_synced j) (turns j))
    ∙ told.all

-- fewer events are counted too
fewer : (old new : List Medium) (count few many : ℕ) → few ≤ many → IsCounted old new count many → IsCounted old new count few
fewer old new count few many less (inl within) = inl (omega (arith, less, within))
fewer old new count few many less (inr last) = inr last

one_more_to : (last count : ℕ) → min (count + 1) last ≤ count + 1
one_more_to last count = omega arith

-- no event
pub none_counted_yet : (count : ℕ) (media : List Medium) → AreCounted count media media 0 0
none_counted_yet count media = record { counts = counts_same media; halted = inl (omega arith); failed = λ keep. inl (omega arith) }

module _ (count : ℕ) (first old new : List Medium) (halts stays : ℕ) (h : AreCounted count first old halts stays) (on : CountsOn old new) where
  -- no event more
  pub still_counted : AreCounted count first new halts stays
  still_counted = record {
    counts = counts_then first old new h.counts on;
    halted = counted_later first old new h.counts on count halts h.halted;
    failed = λ keep. counted_later first old new h.counts on count (halts + stays) (h.failed keep);
  }

  -- the journals were read for a start
  pub start_rose : (start : Option Mark) → length old ≡ count → length new ≡ count → IsStarting old new start → start ≡ Some StayedDown → AllKeep first count
      → IsCounted first new count (halts + stays + 1)
  start_rose start all still starting stays_down keep =
      counted_more first old new h.counts on count (halts + stays) (h.failed keep)
      (rose_below old new count (omega (arith, still)) (starting.stayed stays_down (keeps_all old count (omega (arith, all)) (keeps_on first old count h.counts keep))))

  -- one event more, which halted where a count rose, and which stayed down where one had risen for it
  pub one_counted : (mark : Mark) → length new ≡ count → (mark ≡ Halted → RoseIn old new) → (mark ≡ StayedDown → AllKeep first count → IsCounted first old count (halts + stays + 1))
      → AreCounted count first new (halted_after halts mark) (stayed_after stays mark)
  one_counted Done still halted stayed = still_counted
  one_counted OpenedWithout still halted stayed = still_counted
  one_counted OpenedWith still halted stayed = still_counted
  one_counted Halted still halted stayed =
      let rose = rose_below old new count (omega (arith, still)) (halted refl) in
      let more = one_more_to (2 ^ 64 - 1) halts in
      record {
        counts = still_counted.counts;
        halted = fewer first new count (one_more halts) (halts + 1) more (counted_more first old new h.counts on count halts h.halted rose);
        failed = λ keep. fewer first new count (one_more halts + stays) (halts + stays + 1) (omega (arith, more))
            (counted_more first old new h.counts on count (halts + stays) (h.failed keep) rose);
      }
  one_counted StayedDown still halted stayed =
      let more = one_more_to (2 ^ 64 - 1) stays in
      record {
        counts = still_counted.counts;
        halted = still_counted.halted;
        failed = λ keep. fewer first new count (halts + one_more stays) (halts + stays + 1) (omega (arith, more))
            (counted_later first old new h.counts on count (halts + stays + 1) (stayed refl keep));
      }

-- what comes of a call that went well
pub when_ready : {E : Type 0} (result : Result (Unit {0}) E) (Ready Starts Starting Made : Type 0) → IfOk result (λ x. Ready) → (Starts → OnOk result Starting) → (Ready → (Starts → Starting) → Made)
    → IfOk result (λ x. Made)
when_ready (Ok x) Ready Starts Starting Made ready starting make = make ready starting
when_ready (Err e) Ready Starts Starting Made ready starting make = tt
