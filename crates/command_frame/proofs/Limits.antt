-- The limits of what a reader of items gives.
use Rattle.std.proofs.Common.{◌≡◌, ℕ, ◌≤◌, Bool, true, false, cond, ltb, Option, Some, None, refl}
use Rattle.std.proofs.lemmas.Bool.{ltb-false}
use Rattle.command_frame.specs.Items.{Counts, passed_limit}

-- where no limit is passed, the counts are within them
pub within_limits : (counts : Counts) → passed_limit counts ≡ None → (counts.items ≤ 65536) × (counts.record_bytes ≤ 16777216)
within_limits counts e = first (ltb 65536 counts.items) (ltb-false 65536 counts.items) e
  where
    second : (many : Bool) → (many ≡ false → counts.record_bytes ≤ 16777216) → cond {A = Option ℕ} many (Some 2) None ≡ None → counts.record_bytes ≤ 16777216
    second true below e = absurd (cc)
    second false below e = below refl

    first : (many : Bool) → (many ≡ false → counts.items ≤ 65536) → cond {A = Option ℕ} many (Some 1) (cond {A = Option ℕ} (ltb 16777216 counts.record_bytes) (Some 2) None) ≡ None
        → (counts.items ≤ 65536) × (counts.record_bytes ≤ 16777216)
    first true below e = absurd (cc)
    first false below e = (below refl, second (ltb 16777216 counts.record_bytes) (ltb-false 16777216 counts.record_bytes) e)
