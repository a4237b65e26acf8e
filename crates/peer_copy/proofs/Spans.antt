-- What a note sends, and the offsets of a span.
use Rattle.std.proofs.Common.{◌≡◌, ℕ, zero, suc, ◌+◌, ◌-◌, ◌<◌, ◌≤◌, Bool, true, false, cond, ltb, length, get_or, max, min, refl, sym, ap, ◌∙◌, arith}
use Rattle.std.specs.Prelude.{◌↔◌}
use Rattle.std.specs.List.{Contains}
use Rattle.std.proofs.lemmas.Bool.{ltb-true, ltb-false}
use Rattle.peer_copy.specs.declared.span.Span.{Span}
use Rattle.peer_copy.specs.Copying.{IsWithin, offsets_from, offsets_of, span_of_note, window_at}

-- the two cases of a note: the peer holds more, or it does not
opens_by : (more : Bool) (acked held len offset : ℕ) → (more ≡ true → acked < held) → (more ≡ false → held ≤ acked)
    → IsWithin (cond more (record { from = max (acked + 4) held; to = min (held + 4) len }) (record { from = acked; to = acked })) offset
    ↔ (IsWithin (window_at (max acked held) len) offset × (acked + 4 ≤ offset))
opens_by true acked held len offset more none =
    let above : acked < held = more refl in
    (λ sent. ((omega arith, omega arith), omega arith), λ opened. (omega arith, omega arith))
opens_by false acked held len offset more none =
    let above : held ≤ acked = none refl in
    (λ sent. absurd (omega arith), λ opened. absurd (omega arith))

pub opens_the_rest : (acked held len offset : ℕ)
    → IsWithin (span_of_note acked held len) offset
    ↔ (IsWithin (window_at (max acked held) len) offset × (acked + 4 ≤ offset))
opens_the_rest acked held len offset = opens_by (ltb acked held) acked held len offset (ltb-true acked held) (ltb-false acked held)

pub length-offsets_from : (from count : ℕ) → length (offsets_from from count) ≡ count
length-offsets_from from zero = refl
length-offsets_from from (suc count) = ap suc (length-offsets_from (suc from) count)

pub get_or-offsets_from : (from count k d : ℕ) → k < count → get_or (offsets_from from count) k d ≡ from + k
get_or-offsets_from from zero k d h = absurd (omega arith)
get_or-offsets_from from (suc count) zero d h = omega arith
get_or-offsets_from from (suc count) (suc k) d h =
    let rest : get_or (offsets_from (suc from) count) k d ≡ suc from + k = get_or-offsets_from (suc from) count k d (omega arith) in
    let sum : suc from + k ≡ from + suc k = omega arith in
    rest ∙ sum

pub offsets_are_within : (span : Span) (offset : ℕ) → Contains (offsets_of span) offset ↔ IsWithin span offset
offsets_are_within span offset = (listed, within)
  where
    listed : Contains (offsets_of span) offset → IsWithin span offset
    listed (k, below, is) =
        let k_below : k < span.to - span.from = omega (arith, length-offsets_from span.from (span.to - span.from)) in
        let at : span.from + k ≡ offset = sym (get_or-offsets_from span.from (span.to - span.from) k offset k_below) ∙ is in
        (omega arith, omega arith)

    within : IsWithin span offset → Contains (offsets_of span) offset
    within (above, below) =
        let k_below : offset - span.from < span.to - span.from = omega arith in
        let sum : span.from + (offset - span.from) ≡ offset = omega arith in (
          offset - span.from,
          omega (arith, length-offsets_from span.from (span.to - span.from)),
          get_or-offsets_from span.from (span.to - span.from) (offset - span.from) offset k_below ∙ sum,
        )
