-- Where the gates of payloads stand.
use Rattle.std.proofs.Common.{◌≡◌, ℕ, zero, suc, ◌+◌, ◌*◌, ◌^◌, ◌<◌, ◌≤◌, List, [], ◌∷◌, ◌++◌, length, take, get_or, slice_get, Some, All, sym, ap, ◌∙◌, subst, arith}
use Rattle.std.proofs.lemmas.List.{length-append, length-map, map_push, take_all, length_push}
use Rattle.std.proofs.lemmas.List.Elements.{All-head, All-tail, All-get_or, All-push}
use Rattle.std.proofs.lemmas.Option.{slice_get_within, get_or_from_slice_get}
use Rattle.segment_journal.specs.Journalled.{IsPayload, AllPayloads}
use Rattle.segment_journal.specs.File.{recorded, spelled, place_of}
use Rattle.segment_journal.specs.Listing.{payloads_of, ArePlaced, AreInOrder}
use Rattle.segment_journal.specs.declared.payloads.Held.{Held}
use Rattle.segment_journal.proofs.Recovery.{length-recorded}

pub All-slice_get : {X : Type 0} (P : X → Type 0) (xs : List X) (k : ℕ) (x : X) → All P xs → slice_get xs k ≡ Some x → P x
All-slice_get P xs k x each is =
    subst P (get_or_from_slice_get xs k x x is) (All-get_or P xs k x (slice_get_within xs k x is) each)

-- the gate of a payload
pub gate-at : (held : List Held) (at end k : ℕ) (h : Held) → ArePlaced held at end → k < length held → h ≡ get_or held k h → h.gate ≡ at + place_of (payloads_of held) k
gate-at [] at end k h placed within is = absurd (omega arith)
gate-at (first ∷ held) at end zero h placed within is = ap (λ (x : Held). x.gate) is ∙ placed.0 ∙ omega arith
gate-at (first ∷ held) at end (suc k) h placed within is =
    gate-at held (at + 5 + length first.payload) end k h placed.1 (omega arith) is
    ∙ omega (arith, length-recorded first.payload, length-append (recorded first.payload) (spelled (take k (payloads_of held))))

-- the closed gate
pub closed-at : (held : List Held) (at end : ℕ) → ArePlaced held at end → end ≡ at + length (spelled (payloads_of held))
closed-at [] at end placed = placed ∙ omega arith
closed-at (first ∷ held) at end placed =
    closed-at held (at + 5 + length first.payload) end placed.1
    ∙ omega (arith, length-recorded first.payload, length-append (recorded first.payload) (spelled (payloads_of held)))

pub place-end : (payloads : List (List ℕ)) (k : ℕ) → length payloads ≤ k → place_of payloads k ≡ length (spelled payloads)
place-end payloads k past = ap (λ (l : List (List ℕ)). length (spelled l)) (take_all k payloads past)

placed-push : (held : List Held) (at end : ℕ) (payload : List ℕ) → ArePlaced held at end → ArePlaced (held ++ record { gate = end; payload = payload } ∷ []) at (end + 5 + length payload)
placed-push [] at end payload placed = (placed, ap (λ (n : ℕ). n + 5 + length payload) placed)
placed-push (first ∷ held) at end payload placed = (placed.0, placed-push held (at + 5 + length first.payload) end payload placed.1)

-- no file of payloads is too long for its places
pub spelled-short : (payloads : List (List ℕ)) → AllPayloads payloads → length (spelled payloads) ≤ 131077 * length payloads
spelled-short [] each = omega arith
spelled-short (payload ∷ payloads) each =
    omega (arith, (All-head IsPayload payload payloads each).size, spelled-short payloads (All-tail IsPayload payload payloads each), length-recorded payload, length-append (recorded payload) (spelled payloads))

pub end-small : (held : List Held) (end : ℕ) → AreInOrder held end → end < 2 ^ 62
end-small held end order =
    omega (arith, closed-at held 0 end order.placed, spelled-short (payloads_of held) order.payloads, length-map held (λ (h : Held). h.payload), order.few)

-- one payload more
pub push-order : (held : List Held) (end : ℕ) (payload : List ℕ) (now : ℕ) → AreInOrder held end → IsPayload payload → length held + 1 < 2 ^ 32 → now ≡ end + (5 + length payload) → AreInOrder (held ++ record { gate = end; payload = payload } ∷ []) now
push-order held end payload now order is few at = record {
  placed = subst (λ (n : ℕ). ArePlaced (held ++ record { gate = end; payload = payload } ∷ []) 0 n) (omega (arith, at)) (placed-push held 0 end payload order.placed);
  few = omega (arith, length_push held (record { gate = end; payload = payload }));
  payloads = subst AllPayloads (sym (map_push (λ (h : Held). h.payload) held (record { gate = end; payload = payload }))) (All-push IsPayload (payloads_of held) payload order.payloads is);
}
