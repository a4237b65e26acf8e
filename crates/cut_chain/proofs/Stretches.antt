-- Stretches of a list of lengths, and where the lengths of a shard stand.
use Rattle.std.proofs.Common.{◌≡◌, ℕ, zero, suc, ◌+◌, ◌*◌, ◌<◌, ◌≤◌, max, List, ◌∷◌, replicate, refl, ap, ◌∙◌, arith}
use Rattle.std.specs.Prelude.{slice_index}
use Rattle.log_model.specs.Chain.{raised}
use Rattle.log_model.proofs.States.{replicate-zero}
use Rattle.cut_chain.specs.Covering.{stretch, lengths_of, AreShort}

pub stretch-same : (xs ys : List ℕ) (at count : ℕ) → ((k : ℕ) → at ≤ k → k < at + count → slice_index ys k ≡ slice_index xs k)
    → stretch ys at count ≡ stretch xs at count
stretch-same xs ys at zero same = refl
stretch-same xs ys at (suc count) same =
    let low : at ≤ at = omega arith in
    let high : at < at + suc count = omega arith in
    ap (λ (x : ℕ). x ∷ stretch ys (suc at) count) (same at low high)
    ∙ ap (λ (rest : List ℕ). slice_index xs at ∷ rest) (stretch-same xs ys (suc at) count (λ k above below. same k (omega arith) (omega arith)))

pub stretch-raised : (xs ys lengths : List ℕ) (at count : ℕ)
    → ((k : ℕ) → at ≤ k → k < at + count → slice_index ys k ≡ max (slice_index xs k) (slice_index lengths k))
    → stretch ys at count ≡ raised lengths at (stretch xs at count)
stretch-raised xs ys lengths at zero rises = refl
stretch-raised xs ys lengths at (suc count) rises =
    let low : at ≤ at = omega arith in
    let high : at < at + suc count = omega arith in
    ap (λ (x : ℕ). x ∷ stretch ys (suc at) count) (rises at low high)
    ∙ ap (λ (rest : List ℕ). max (slice_index xs at) (slice_index lengths at) ∷ rest)
    (stretch-raised xs ys lengths (suc at) count (λ k above below. rises k (omega arith) (omega arith)))

pub stretch-index : (xs : List ℕ) (at count k : ℕ) → k < count → slice_index (stretch xs at count) k ≡ slice_index xs (at + k)
stretch-index xs at zero k within = absurd (omega arith)
stretch-index xs at (suc count) zero within = let sum : at ≡ at + 0 = omega arith in ap (slice_index xs) sum
stretch-index xs at (suc count) (suc k) within =
    let sum : suc at + k ≡ at + suc k = omega arith in
    stretch-index xs (suc at) count k (omega arith) ∙ ap (slice_index xs) sum

pub stretch-past : (xs : List ℕ) (at count k : ℕ) → count ≤ k → slice_index (stretch xs at count) k ≡ 0
stretch-past xs at zero k past = refl
stretch-past xs at (suc count) zero past = absurd (omega arith)
stretch-past xs at (suc count) (suc k) past = stretch-past xs (suc at) count k (omega arith)

-- A list of zeros has lengths of 0.
stretch-zeros : (size at count : ℕ) → stretch (replicate size 0) at count ≡ replicate count 0
stretch-zeros size at zero = refl
stretch-zeros size at (suc count) =
    ap (λ (x : ℕ). x ∷ stretch (replicate size 0) (suc at) count) (replicate-zero size at)
    ∙ ap (λ (rest : List ℕ). 0 ∷ rest) (stretch-zeros size (suc at) count)

pub lengths_of-zeros : (replicas shard : ℕ) → lengths_of replicas (replicate 32 0) shard ≡ replicate replicas 0
lengths_of-zeros replicas shard = stretch-zeros 32 (shard * replicas) replicas

-- A short length before short ones.
pub short-cons : (value : ℕ) (rest : List ℕ) → value ≤ 16384 → AreShort rest → AreShort (value ∷ rest)
short-cons value rest small short zero = small
short-cons value rest small short (suc k) = short k

pub short-zeros : (size : ℕ) → AreShort (replicate size 0)
short-zeros size k = let zero_there = replicate-zero size k in omega (arith, zero_there)
