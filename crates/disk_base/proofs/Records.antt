-- One more step of a record.
use Rattle.std.proofs.Common.{◌≡◌, ℕ, ◌+◌, ◌≤◌, List, [], ◌∷◌, ◌++◌, length, take, drop, ap, ◌∙◌, arith}
use Rattle.std.proofs.lemmas.List.{take-append-le, drop-append-le, length-drop, take_all}
use Rattle.disk_base.specs.Replay.{Kept, replay, after_step, count_of, total}
use Rattle.disk_base.specs.declared.content.Step.{Step}

-- the record with one step more, whose bytes stand behind all others
pub replay-push : (kept : Kept) (steps : List Step) (written : List ℕ) (step : Step) (bytes : List ℕ) → total steps ≡ length written → count_of step ≡ length bytes
    → replay kept (steps ++ step ∷ []) (written ++ bytes) ≡ after_step (replay kept steps written) step bytes
replay-push kept [] [] step bytes all count = ap (λ (l : List ℕ). after_step kept step l) (take_all (count_of step) bytes (omega arith))
replay-push kept [] (w ∷ written) step bytes all count = absurd (omega arith)
replay-push kept (s ∷ steps) written step bytes all count =
    let within : count_of s ≤ length written = omega arith in
    let rest : total steps ≡ length (drop (count_of s) written) = omega (arith, length-drop (count_of s) written) in
    ap (λ (l : List ℕ). replay (after_step kept s l) (steps ++ step ∷ []) (drop (count_of s) (written ++ bytes))) (take-append-le (count_of s) written bytes within)
    ∙ ap (λ (l : List ℕ). replay (after_step kept s (take (count_of s) written)) (steps ++ step ∷ []) l) (drop-append-le (count_of s) written bytes within)
    ∙ replay-push (after_step kept s (take (count_of s) written)) steps (drop (count_of s) written) step bytes rest count

pub total-push : (steps : List Step) (step : Step) → total (steps ++ step ∷ []) ≡ total steps + count_of step
total-push [] step = omega arith
total-push (s ∷ steps) step = let rest = total-push steps step in omega (arith, rest)
