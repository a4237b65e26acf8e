-- What the rows of a round do: a copy that is next is stored, one that is there is acknowledged, a note of one entry more opens no
-- window, a window has the one entry more, and one that knows as much is told nothing.
use Rattle.std.proofs.Common.{◌≡◌, ◌+◌, ◌-◌, ◌<◌, ◌≤◌, ℕ, zero, suc, Bool, true, false, cond, ◌==◌, nat_lt, min, max, List, [], ◌∷◌, ◌++◌, length, slice_get, Option, Some, refl, sym, ap, subst, arith, eq-eqb, lt-ltb, length-append, ◌∙◌}
use Rattle.std.proofs.lemmas.Bool.{cond-false, cond-true, ne_eqb}
use Rattle.std.proofs.lemmas.Option.{slice_get_past}
use Rattle.reply_frame.specs.declared.replies.Reply.{Nothing}
use Rattle.log_base.specs.ClusterShape.{Shape}
use Rattle.log_model.specs.Storage.{Member, list_in, with_entry}
use Rattle.peer_copy.specs.Copying.{offsets_from, offsets_of, span_of_note, taking_of, window_at}
use Rattle.peer_copy.specs.declared.taking.Taking.TheVariants.{Put as IsNext, Have as IsThere, Gap as IsMissing}
use Rattle.record_frame.specs.declared.entries.Entry.{Entry}
use Rattle.record_frame.specs.declared.values.Value.{Value}
use Rattle.node_model.specs.Messages.{copy_message}
use Rattle.node_model.specs.Nodes.{letter}
use Rattle.node_table.specs.Numbering.{storage_node}
use Rattle.node_model.specs.OrdererRow.{decide_letter, decide_letters}
use Rattle.node_model.specs.StorageNode.{Put, Replica}
use Rattle.node_model.specs.StorageRow.{ack, copied_as, copies, copy_letter, on_copy, report, told}

module _ (config : Shape) (member : Member) (lists : List (List Entry)) (memory : Replica) (put : Put) (offset : ℕ) where
  pub next_copy : offset ≡ length (list_in lists put.segment)
      → on_copy config member lists memory put offset
      ≡ record {
        put = Some put;
        after = memory;
        outputs = ack config member put.segment (with_entry lists put.segment put.entry) ∷ report config member (with_entry lists put.segment put.entry) ∷ [];
        reply = Nothing;
      }
  unfolding on_copy
  next_copy e =
      ap (copied_as config member lists memory put)
      (cond-true (offset == length (list_in lists put.segment)) IsNext (cond (nat_lt offset (length (list_in lists put.segment))) IsThere IsMissing)
      (eq-eqb offset (length (list_in lists put.segment)) e))

  there : offset < length (list_in lists put.segment) → taking_of offset (length (list_in lists put.segment)) ≡ IsThere
  there h =
      cond-false (offset == length (list_in lists put.segment)) IsNext (cond (nat_lt offset (length (list_in lists put.segment))) IsThere IsMissing)
      (ne_eqb offset (length (list_in lists put.segment)) (λ e. absurd (omega arith)))
      ∙ cond-true (nat_lt offset (length (list_in lists put.segment))) IsThere IsMissing (lt-ltb offset (length (list_in lists put.segment)) h)

  pub known_copy : offset < length (list_in lists put.segment)
      → on_copy config member lists memory put offset ≡ told memory (ack config member put.segment lists ∷ [])
  unfolding on_copy
  known_copy h = ap (copied_as config member lists memory put) (there h)

none_from : (from count : ℕ) → count ≡ 0 → offsets_from from count ≡ []
none_from from count e = ap (offsets_from from) e

-- a note opens nothing where the window already went to the end
pub nothing_opens : (acked held len : ℕ) → len ≤ acked + 4 → offsets_of (span_of_note acked held len) ≡ []
nothing_opens acked held len h = at (nat_lt acked held)
  where
    at : (more : Bool) → offsets_of (cond more (record { from = max (acked + 4) held; to = min (held + 4) len }) (record { from = acked; to = acked })) ≡ []
    at true = none_from (max (acked + 4) held) (min (held + 4) len - max (acked + 4) held) (omega arith)
    at false = none_from acked (acked - acked) (omega arith)

-- the window at the end of a list is empty, and before the last entry it has that
pub empty_window : (acked len : ℕ) → len ≡ acked → offsets_of (window_at acked len) ≡ []
empty_window acked len e = none_from acked (min (acked + 4) len - acked) (omega arith)

pub window_of_one : (acked len : ℕ) → len ≡ acked + 1 → offsets_of (window_at acked len) ≡ acked ∷ []
window_of_one acked len e =
    let one : min (acked + 4) len - acked ≡ 1 = omega arith in
    ap (offsets_from acked) one

-- the entry at the end
pub last_entry : {A : Type 0} (list : List A) (entry : A) → slice_get (list ++ entry ∷ []) (length list) ≡ Some entry
last_entry [] entry = refl
last_entry (x ∷ list) entry = last_entry list entry

module _ (config : Shape) (member : Member) (old new : List Entry) (peer acked : ℕ) (e : acked ≡ length old) where
  pub no_copies : new ≡ old → copies config member new peer (offsets_of (window_at acked (length new))) ≡ []
  no_copies same = ap (copies config member new peer) (empty_window acked (length new) (ap length same ∙ sym e))

  pub one_copy : (entry : Entry) → new ≡ old ++ entry ∷ []
      → copies config member new peer (offsets_of (window_at acked (length new)))
      ≡ letter (storage_node config member.shard peer) (copy_message member.own (length old) entry) ∷ []
  one_copy entry more =
      let longer : length new ≡ acked + 1 = omega (arith, ap length more, length-append old (entry ∷ []), e) in
      let found : slice_get new acked ≡ Some entry = subst (λ (list : List Entry). slice_get list acked ≡ Some entry) (sym more) (subst (λ (n : ℕ). slice_get (old ++ entry ∷ []) n ≡ Some entry) (sym e) (last_entry old entry)) in
      ap (copies config member new peer) (window_of_one acked (length new) longer)
      ∙ ap (λ (o : Option Entry). copy_letter config member peer acked o ++ []) found
      ∙ ap (λ (n : ℕ). letter (storage_node config member.shard peer) (copy_message member.own n entry) ∷ []) e

-- one that knows as much is told nothing
pub none_decided : (node : ℕ) (known : List Value) (slot count : ℕ) → length known ≤ slot → decide_letters node known slot count ≡ []
none_decided node known slot zero h = refl
none_decided node known slot (suc count) h =
    ap (λ (o : Option Value). decide_letter node slot o ++ decide_letters node known (suc slot) count) (slice_get_past known slot h)
    ∙ none_decided node known (suc slot) count (omega arith)
