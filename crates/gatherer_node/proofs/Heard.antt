-- What a gatherer heard has a spelling, and so has the least of it.
use Rattle.std.proofs.Common.{◌≡◌, ℕ, zero, suc, ◌+◌, ◌*◌, ◌%◌, Bool, true, false, cond, ◌==◌, List, [], ◌∷◌, Option, Some, None, take, drop, slice_set, slice_index_or, subst, arith}
use Rattle.std.proofs.lemmas.Option.{none-some, same_Some}
use Rattle.std.specs.List.{AllByRecursion, Contains}
use Rattle.aggregator.specs.Hearing.{Hearing, after_note, heard_after, least_in, least_of_all, least_with, lesser_of}
use Rattle.aggregator.proofs.Sound.{greater_sound, least_sound}
use Rattle.log_base.specs.ClusterShape.{Shape}
use Rattle.record_frame.specs.declared.values.Lengths.{Lengths}
use Rattle.record_frame.specs.Values.{IsLengths}
use Rattle.gatherer_node.specs.Gatherer.{IsHeard, IsOf, least_due}

-- what holds of all elements holds of those of a part, of one, and after one is set
module _ {X : Type 0} (P : X → Type 0) where
  all_take : (n : ℕ) (xs : List X) → AllByRecursion P xs → AllByRecursion P (take n xs)
  all_take zero xs h = tt
  all_take (suc n) [] h = tt
  all_take (suc n) (x ∷ xs) h = (h.0, all_take n xs h.1)

  all_drop : (n : ℕ) (xs : List X) → AllByRecursion P xs → AllByRecursion P (drop n xs)
  all_drop zero xs h = h
  all_drop (suc n) [] h = tt
  all_drop (suc n) (x ∷ xs) h = all_drop n xs h.1

  all_at : (n : ℕ) (xs : List X) (d : X) → P d → AllByRecursion P xs → P (slice_index_or xs n d)
  all_at n [] d p h = p
  all_at zero (x ∷ xs) d p h = h.0
  all_at (suc n) (x ∷ xs) d p h = all_at n xs d p h.1

  all_set : (n : ℕ) (xs : List X) (y : X) → P y → AllByRecursion P xs → AllByRecursion P (slice_set xs n y)
  all_set n [] y p h = tt
  all_set zero (x ∷ xs) y p h = (p, h.1)
  all_set (suc n) (x ∷ xs) y p h = (h.0, all_set n xs y p h.1)

  all_held : (xs : List X) (x : X) → AllByRecursion P xs → Contains xs x → P x
  all_held [] x h (k, below, is) = absurd (omega arith)
  all_held (y ∷ xs) x h (zero, below, is) = subst P is h.0
  all_held (y ∷ xs) x h (suc k, below, is) = all_held xs x h.1 (k, omega arith, is)

-- a replica says how much it holds
heard_more : (replicas : ℕ) (before : Option Lengths) (said : Lengths) → IsHeard replicas before → IsHeard replicas (Some said) → IsHeard replicas (Some (heard_after before said))
heard_more replicas None said h k = k
heard_more replicas (Some before) said h k = (greater_sound 5 before said h.0 k.0 (omega (arith, h.1, k.1)), h.1)

pub noted : (config : Shape) (index : ℕ) (hearing : Hearing) (shard replica : ℕ) (said : Lengths) → IsOf config index hearing
    → IsLengths 5 said → said.count ≡ config.replicas → IsOf config index (after_note hearing shard replica said)
noted config index hearing shard replica said is sound count = record {
  gatherer = is.gatherer;
  replicas = is.replicas;
  shards = is.shards;
  heard =
      let at = shard * hearing.replicas + replica in
      all_set (IsHeard config.replicas) at hearing.cells (Some (heard_after (slice_index_or hearing.cells at None) said))
      (heard_more config.replicas (slice_index_or hearing.cells at None) said (all_at (IsHeard config.replicas) at hearing.cells None tt is.heard) (sound, count))
      is.heard;
}

-- the least has as many lengths as each
count_with : (replicas : ℕ) (first : Lengths) (cells : List (Option Lengths)) (least : Lengths) → first.count ≡ replicas
    → least_with first cells ≡ Some least → least.count ≡ replicas
count_with replicas first [] least e found = subst (λ (l : Lengths). l.count ≡ replicas) (same_Some first least found) e
count_with replicas first (None ∷ cells) least e found = absurd (none-some least found)
count_with replicas first (Some next ∷ cells) least e found = count_with replicas (record { count = first.count; length = lesser_of first.length next.length }) cells least e found

count_of : (replicas : ℕ) (cells : List (Option Lengths)) (least : Lengths) → AllByRecursion (IsHeard replicas) cells
    → least_of_all cells ≡ Some least → least.count ≡ replicas
count_of replicas [] least h found = absurd (none-some least found)
count_of replicas (None ∷ cells) least h found = absurd (none-some least found)
count_of replicas (Some first ∷ cells) least h found = count_with replicas first cells least h.0.1 found

-- the least of a shard has a spelling
pub least_is_heard : (config : Shape) (index : ℕ) (hearing : Hearing) (shard : ℕ) (least : Lengths) → IsOf config index hearing
    → least_in hearing shard ≡ Some least → IsHeard config.replicas (Some least)
least_is_heard config index hearing shard least is found =
    let cells = take hearing.replicas (drop (shard * hearing.replicas) hearing.cells) in
    let all = all_take (IsHeard config.replicas) hearing.replicas _ (all_drop (IsHeard config.replicas) (shard * hearing.replicas) hearing.cells is.heard) in
    (least_sound 5 cells least (λ heard holds. (all_held (IsHeard config.replicas) cells (Some heard) all holds).0) found, count_of config.replicas cells least all found)

pub due_is_heard : (config : Shape) (index : ℕ) (hearing : Hearing) (shard : ℕ) (least : Lengths) → IsOf config index hearing
    → least_due config index hearing shard ≡ Some least → IsHeard config.replicas (Some least)
due_is_heard config index hearing shard least is due = next (shard % config.gatherers == index) due
  where
    next : (b : Bool) → cond b (least_in hearing shard) None ≡ Some least → IsHeard config.replicas (Some least)
    next true e = least_is_heard config index hearing shard least is e
    next false e = absurd (none-some least e)
