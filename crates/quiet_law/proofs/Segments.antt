-- The lists of all shards, one after another, are those of the log's segments, and so are their lengths.
use Rattle.std.proofs.Common.{◌≡◌, ◌+◌, ◌*◌, ◌/◌, ◌%◌, ◌<◌, ◌≤◌, ℕ, zero, suc, List, [], ◌∷◌, length, refl, sym, ap, subst, ⊎_elim, arith, ◌∙◌}
use Rattle.std.specs.Prelude.{slice_index_or}
use Rattle.std.proofs.lemmas.Bool.{cases_lt}
use Rattle.std.proofs.Math.Nat.{mul-le-mul_left}
use Rattle.log_base.specs.ClusterShape.{InRange, Shape}
use Rattle.log_model.specs.Lookup.{segment_index}
use Rattle.log_model.specs.Storage.{list_in, report_of}
use Rattle.record_frame.specs.declared.entries.Entry.{Entry}
use Rattle.plain_log.specs.Log.{LogState, cut_of}
use Rattle.quiet_model.specs.Settled.{AreLists, ListsOf, all_lengths, list_at, lists_from}
use Rattle.quiet_model.proofs.Lists.{same_lists}
use Rattle.quiet_model.proofs.Raising.{length-lists_from, list_in-lists_from}
use Rattle.quiet_law.specs.Matching.{AreListsOf}

pub list_in-or : (lists : List (List Entry)) (k : ℕ) → list_in lists k ≡ slice_index_or lists k []
list_in-or [] k = refl
list_in-or (list ∷ lists) zero = refl
list_in-or (list ∷ lists) (suc k) = list_in-or lists k

told_as_cut : (segments : List (List Entry)) → report_of segments ≡ cut_of segments
unfolding report_of
told_as_cut segments = refl

pub lengths_are_cut : (config : Shape) → InRange config → (state : LogState) (lists : ListsOf) → AreLists config lists → AreListsOf config state lists
    → length state.segments ≡ config.shards * config.replicas → all_lengths config lists ≡ cut_of state.segments
lengths_are_cut config range state lists sizes same many =
    ap (λ (all : List (List Entry)). report_of all) (same_lists (lists_from lists 0 config.shards) state.segments (count ∙ sym many) at) ∙ told_as_cut state.segments
  where
    each : (s : ℕ) → 0 ≤ s → s < 0 + config.shards → length (lists s) ≡ config.replicas
    each s low high = sizes s (omega arith)

    count : length (lists_from lists 0 config.shards) ≡ config.shards * config.replicas
    count = length-lists_from lists config.replicas 0 config.shards each

    at : (k : ℕ) → k < length (lists_from lists 0 config.shards) → list_in (lists_from lists 0 config.shards) k ≡ list_in state.segments k
    at k inside =
        let below : k < config.shards * config.replicas = omega (arith, count, inside) in
        let some = range.some_replica in
        let d : k % config.replicas < config.replicas = omega arith in
        let k_is : k / config.replicas * config.replicas + k % config.replicas ≡ k = omega arith in
        let c : k / config.replicas < config.shards =
        ⊎_elim
        (λ less. less)
        (λ past. absurd (let more : config.replicas * config.shards ≤ config.replicas * (k / config.replicas) = mul-le-mul_left config.replicas past in omega arith))
        (cases_lt (k / config.replicas) config.shards) in
        let first : 0 + k / config.replicas ≡ k / config.replicas = omega arith in
        subst (λ (n : ℕ). list_in (lists_from lists 0 config.shards) n ≡ list_in state.segments n) k_is
        (list_in-lists_from lists config.replicas 0 config.shards (k / config.replicas) (k % config.replicas) each c d
        ∙ ap (λ (s : ℕ). list_at lists s (k % config.replicas)) first
        ∙ same (k / config.replicas) (k % config.replicas) c d
        ∙ sym (list_in-or state.segments (segment_index config.replicas (k / config.replicas) (k % config.replicas))))
