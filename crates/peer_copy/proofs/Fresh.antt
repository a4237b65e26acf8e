-- What the fields say where nothing is acknowledged.
use Rattle.std.proofs.Common.{◌≡◌, ℕ, ◌≤◌, List, length, take, replicate, ap, ◌∙◌, subst, arith, length-take}
use Rattle.std.proofs.lemmas.List.{take-replicate}
use Rattle.peer_copy.specs.Copying.{Copying, fresh}

pub fresh_fields : (replicas count own : ℕ) → replicas ≤ 5 → replicas ≡ count
    → let seen : Copying = record { own = own; acked = take replicas (replicate 5 0) } in seen ≡ fresh count own
fresh_fields replicas count own few same =
    let as_copying : List ℕ → Copying = λ (acked : List ℕ). record { own = own; acked = acked } in
    ap as_copying (take-replicate replicas 5 0 few ∙ ap (λ (n : ℕ). replicate n 0) same)

pub reset_fields : (replicas own : ℕ) (acked : List ℕ) (old : Copying) → replicas ≤ 5 → length acked ≡ 5
    → (let seen : Copying = record { own = own; acked = take replicas acked } in seen ≡ old)
    → let seen : Copying = record { own = own; acked = take replicas (replicate 5 0) } in seen ≡ fresh (length old.acked) old.own
reset_fields replicas own acked old few five is =
    let seen : Copying = record { own = own; acked = take replicas (replicate 5 0) } in
    let count : replicas ≡ length (take replicas acked) = omega (arith, length-take replicas acked) in
    subst (λ (v : Copying). seen ≡ fresh (length v.acked) v.own) is (fresh_fields replicas (length (take replicas acked)) own few count)
