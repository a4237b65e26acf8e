-- Whether two values are the same.
use Rattle.std.specs.Prelude.{ℕ, List, [], ◌∷◌, Bool, true, false, ◌==◌, ◌&&◌}
use Rattle.record_frame.specs.declared.values.Value.{Value}
use Rattle.record_frame.specs.declared.values.Value.TheVariants.{Noop, Cut, Add, Finalise, Trim}

abbrev pub same_numbers : List ℕ → List ℕ → Bool
same_numbers [] [] = true
same_numbers [] (y ∷ ys) = false
same_numbers (x ∷ xs) [] = false
same_numbers (x ∷ xs) (y ∷ ys) = (x == y) && same_numbers xs ys

abbrev pub same_value : Value → Value → Bool
same_value Noop Noop = true
same_value (Cut a) (Cut b) = (a.count == b.count) && same_numbers a.length b.length
same_value (Add a) (Add b) = a.0 == b.0
same_value (Finalise a) (Finalise b) = a.0 == b.0
same_value (Trim a) (Trim b) = a.0 == b.0
same_value _ _ = false
