-- Merged lengths are lengths again.
use Rattle.std.proofs.Common.{◌≡◌, ℕ, suc, List, [], ◌∷◌, Option, Some, None, refl, subst, arith}
use Rattle.std.proofs.lemmas.Option.{none-some, same_Some}
use Rattle.std.specs.List.{Contains}
use Rattle.record_frame.specs.Values.{IsLengths}
use Rattle.record_frame.specs.declared.values.Lengths.{Lengths}
use Rattle.aggregator.specs.Hearing.{heard_after, least_of_all, least_with, lesser_of}
use Rattle.aggregator.proofs.Merged.{get_or-greater_of, get_or-lesser_of, length-greater_of, length-lesser_of}

abbrev both : Lengths → Lengths → Lengths
both first second = record { count = first.count; length = lesser_of first.length second.length }

lesser_sound : (limit : ℕ) (first next : Lengths) → IsLengths limit first → IsLengths limit next → IsLengths limit (both first next)
lesser_sound limit first next a b = record {
  some = a.some;
  count = a.count;
  cells = omega (arith, length-lesser_of first.length next.length, a.cells, b.cells);
  small = λ k below. omega (arith, get_or-lesser_of first.length next.length k, a.small k below);
  rest = λ k past. omega (arith, get_or-lesser_of first.length next.length k, a.rest k past);
}

pub greater_sound : (limit : ℕ) (before said : Lengths) → IsLengths limit before → IsLengths limit said → before.count ≡ said.count
    → IsLengths limit (heard_after (Some before) said)
greater_sound limit before said a b same = record {
  some = a.some;
  count = a.count;
  cells = omega (arith, length-greater_of before.length said.length, a.cells, b.cells);
  small = λ k below. omega (arith, get_or-greater_of before.length said.length k, a.small k below, b.small k (omega arith));
  rest = λ k past. omega (arith, get_or-greater_of before.length said.length k, a.rest k past, b.rest k (omega arith));
}

sound_with : (limit : ℕ) (first : Lengths) (cells : List (Option Lengths)) (least : Lengths) → IsLengths limit first
    → ((heard : Lengths) → Contains cells (Some heard) → IsLengths limit heard)
    → least_with first cells ≡ Some least → IsLengths limit least
sound_with limit first [] least a each found = subst (λ (l : Lengths). IsLengths limit l) (same_Some first least found) a
sound_with limit first (None ∷ cells) least a each found = absurd (none-some least found)
sound_with limit first (Some next ∷ cells) least a each found =
    sound_with limit (both first next) cells least (lesser_sound limit first next a (each next (0, omega arith, refl)))
    (λ heard holds. each heard (suc holds.0, omega (arith, holds.1), holds.2)) found

pub least_sound : (limit : ℕ) (cells : List (Option Lengths)) (least : Lengths)
    → ((heard : Lengths) → Contains cells (Some heard) → IsLengths limit heard)
    → least_of_all cells ≡ Some least → IsLengths limit least
least_sound limit [] least each found = absurd (none-some least found)
least_sound limit (None ∷ cells) least each found = absurd (none-some least found)
least_sound limit (Some first ∷ cells) least each found =
    sound_with limit first cells least (each first (0, omega arith, refl))
    (λ heard holds. each heard (suc holds.0, omega (arith, holds.1), holds.2)) found
