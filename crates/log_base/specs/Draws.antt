-- The numbers that clients draw for their appends.
use Rattle.std.specs.Prelude.{ℕ, ◌+◌, ◌*◌, ◌^◌}

-- the k-th number that a client draws in a run, from 0
abbrev pub number_of_draw : ℕ → ℕ → ℕ
number_of_draw run k = run * 2 ^ 32 + k
