-- Fine values.
use Rattle.std.proofs.Common.{◌≡◌, ℕ, ◌<◌, ◌≤◌, List, [], ◌∷◌, ◌++◌, ⊎_elim, arith}
use Rattle.std.specs.Prelude.{slice_index}
use Rattle.std.specs.List.{AllByRecursion}
use Rattle.std.proofs.lemmas.Bool.{cases_lt}
use Rattle.log_base.specs.ClusterShape.{Shape}
use Rattle.cut_chain.specs.Known.{IsFor}
use Rattle.record_frame.specs.declared.values.Lengths.{Lengths}
use Rattle.record_frame.specs.declared.values.Value.{Value}
use Rattle.record_frame.specs.declared.values.Value.TheVariants.{Noop, Cut, Add, Finalise, Trim}
use Rattle.record_frame.specs.Values.{IsLengths}
use Rattle.orderer_node.specs.Fine.{IsFine}

pub noop_fine : (config : Shape) → IsFine config Noop
noop_fine config = record { spelled = tt; own = tt }

-- no length is too long
pub short_lengths : (limit : ℕ) (lengths : Lengths) → IsLengths limit lengths → (k : ℕ) → slice_index lengths.length k ≤ 16384
short_lengths limit lengths is k =
    ⊎_elim (λ (h : k < lengths.count). is.small k h)
    (λ (h : lengths.count ≤ k). let e : slice_index lengths.length k ≡ 0 = is.rest k h in omega arith)
    (cases_lt k lengths.count)

-- a fine value may be applied
pub fine_for : (config : Shape) (value : Value) → IsFine config value → IsFor config value
fine_for config Noop is = tt
fine_for config (Cut lengths) is = short_lengths 32 lengths is.spelled
fine_for config (Add shard) is = is.own
fine_for config (Finalise shard) is = is.own
fine_for config (Trim position) is = tt

-- one more of some that are so
pub each-push : {A : Type 0} (P : A → Type 0) (xs : List A) (x : A) → AllByRecursion P xs → P x → AllByRecursion P (xs ++ x ∷ [])
each-push P [] x h p = (p, tt)
each-push P (y ∷ ys) x h p = (h.0, each-push P ys x h.1 p)
