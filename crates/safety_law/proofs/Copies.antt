-- Copies stay prefixes of their primaries' lists when an entry is put that may be put.
use Rattle.std.proofs.Common.{◌≡◌, ◌<◌, ◌≤◌, ◌⊎◌, ℕ, List, [], ◌∷◌, ◌++◌, length, slice_get, Some, sym, ap, subst, ⊎_elim, arith, length-append}
use Rattle.std.proofs.lemmas.Bool.{cases_eq}
use Rattle.log_base.specs.ClusterShape.{Shape}
use Rattle.log_base.proofs.Legal.{at_push}
use Rattle.log_model.specs.Storage.{list_limit}
use Rattle.record_frame.specs.declared.entries.Entry.{Entry}
use Rattle.record_frame.specs.Entries.{IsEntry}
use Rattle.node_model.specs.StorageNode.{Put}
use Rattle.agreement_law.specs.Elements.{IsPrefix}
use Rattle.safety_law.specs.Fit.{IsPut}
use Rattle.safety_law.specs.Lists.{AreCopies, Grow, IsCopied, IsSegment, Lists}
use Rattle.safety_law.proofs.Prefixes.{prefix_is, prefix_more, prefix_next, prefix_push, prefix_same}

-- an entry was put at the end of one list
pub record OnePut (config : Shape) (lists now : Lists) (s r : ℕ) (put : Put) : Type 0 where
  pub changed : now s r put.segment ≡ lists s r put.segment ++ put.entry ∷ []
  pub others : (t q j : ℕ) → IsSegment config t q j → (now t q j ≡ lists t q j) ⊎ ((t ≡ s) × (q ≡ r) × (j ≡ put.segment))

module _ (config : Shape) (lists now : Lists) (copied : AreCopies config lists) where
  pub same_grow : ((t q j : ℕ) → IsSegment config t q j → now t q j ≡ lists t q j) → Grow config lists now
  same_grow same = λ t q j inside. prefix_is (lists t q j) (now t q j) (sym (same t q j inside))

  -- a list that stays still is a prefix of its primary's
  same_copied : Grow config lists now → (t q j : ℕ) → IsSegment config t q j → now t q j ≡ lists t q j → IsCopied now t q j
  same_copied grow t q j inside same =
      let c = copied t q j inside in
      record {
        prefix = subst (λ (l : List Entry). IsPrefix l (now t j j)) (sym same)
            (prefix_more (lists t q j) (lists t j j) (now t j j) c.prefix
            (grow t j j (record { shard_below = inside.shard_below; replica_below = inside.segment_below; segment_below = inside.segment_below })));
        entries = λ offset entry e. c.entries offset entry (subst (λ (l : List Entry). slice_get l offset ≡ Some entry) same e);
        few = subst (λ (l : List Entry). length l ≤ list_limit) (sym same) c.few;
      }

  pub same_copies : ((t q j : ℕ) → IsSegment config t q j → now t q j ≡ lists t q j) → AreCopies config now
  same_copies same t q j inside = same_copied (same_grow same) t q j inside (same t q j inside)

  module _ (s r : ℕ) (put : Put) (a : s < config.shards) (b : r < config.replicas) (can : IsPut config lists s r put) (one : OnePut config lists now s r put) where
    -- the list is that of the segment
    at_three : (P : ℕ → ℕ → ℕ → Type 0) (t q j : ℕ) → (t ≡ s) × (q ≡ r) × (j ≡ put.segment) → P s r put.segment → P t q j
    at_three P t q j e h = subst (λ (x : ℕ × ℕ × ℕ). P x.0 x.1 x.2) (λ i. (sym e.0 i, sym e.1 i, sym e.2 i)) h

    pub put_grow : Grow config lists now
    put_grow t q j inside =
        ⊎_elim (λ same. prefix_is (lists t q j) (now t q j) (sym same))
        (λ e. at_three (λ x y z. IsPrefix (lists x y z) (now x y z)) t q j e
        (subst (λ (l : List Entry). IsPrefix (lists s r put.segment) l) (sym one.changed) (prefix_push (lists s r put.segment) put.entry)))
        (one.others t q j inside)

    here : IsSegment config s r put.segment
    here = record { shard_below = a; replica_below = b; segment_below = can.segment }

    put_prefix : IsPrefix (now s r put.segment) (now s put.segment put.segment)
    put_prefix =
        ⊎_elim
        (λ own. subst (λ (k : ℕ). IsPrefix (now s k put.segment) (now s put.segment put.segment)) own (prefix_same (now s put.segment put.segment)))
        (λ other. subst (λ (l : List Entry). IsPrefix l (now s put.segment put.segment)) (sym one.changed)
        (prefix_more (lists s r put.segment ++ put.entry ∷ []) (lists s put.segment put.segment) (now s put.segment put.segment)
        (prefix_next (lists s r put.segment) (lists s put.segment put.segment) put.entry (copied s r put.segment here).prefix (can.copied other))
        (put_grow s put.segment put.segment (record { shard_below = a; replica_below = can.segment; segment_below = can.segment }))))
        (cases_eq put.segment r)

    put_entries : (offset : ℕ) (entry : Entry) → slice_get (now s r put.segment) offset ≡ Some entry → IsEntry entry
    put_entries offset entry e =
        ⊎_elim (λ old. (copied s r put.segment here).entries offset entry old.0) (λ new. subst IsEntry new.0 can.entry)
        (at_push (lists s r put.segment) put.entry offset entry (subst (λ (l : List Entry). slice_get l offset ≡ Some entry) one.changed e))

    put_copied : IsCopied now s r put.segment
    put_copied = record {
      prefix = put_prefix;
      entries = put_entries;
      few = (let size = ap length one.changed in omega (arith, size, length-append (lists s r put.segment) (put.entry ∷ []), can.room));
    }

    pub puts_copies : AreCopies config now
    puts_copies t q j inside =
        ⊎_elim (λ same. same_copied put_grow t q j inside same) (λ e. at_three (IsCopied now) t q j e put_copied) (one.others t q j inside)
