-- A proposal that waits is one of the next slot to learn.
use Rattle.std.proofs.Common.{◌≡◌, ◌==◌, ℕ, ◌+◌, ◌-◌, Bool, true, false, cond, nat_lt, nat_le, List, [], ◌∷◌, ◌++◌, length, Option, Some, None, refl, ap, arith, length-append}
use Rattle.std.specs.Option.{MatchOption}
use Rattle.std.proofs.lemmas.Bool.Decides.{nat_tests}
use Rattle.record_frame.specs.declared.values.Value.{Value}
use Rattle.paxos_model.specs.Leader.{Advanced, Leader, Nothing, Pending, Window, advance, drop_pending, leader_from, next_unless, picked, propose, slot_limit, without_slot}
use Rattle.paxos_model.specs.Learner.{learn}
use Rattle.paxos_model.specs.Majority.{most}
use Rattle.paxos_leader.specs.Leading.{IsAtNext, drop_below, without_below}

-- how many values are known after one was learned
learned_count : (known : List Value) (slot : ℕ) (value : Value) → length (learn known slot value) ≡ cond (slot == length known) (length known + 1) (length known)
unfolding learn
learned_count known slot value = at (slot == length known)
  where
    at : (b : Bool) → length (cond b (known ++ value ∷ []) known) ≡ cond b (length known + 1) (length known)
    at true = length-append known (value ∷ [])
    at false = refl

same_test : (at slot count after : ℕ) → at ≡ count → after ≡ cond (slot == count) (count + 1) count → nat_lt at after ≡ (at == slot)
same_test at slot count after same grown = grind (arith, nat_tests)

pub passed_is_learned : (leader : Leader) (known : List Value) (slot : ℕ) (value : Value) → IsAtNext leader (length known)
    → without_below (length (learn known slot value)) leader ≡ without_slot leader slot
passed_is_learned leader known slot value next =
    ap (λ (p : Option Pending). let l : Leader = record leader { pending = p } in l) (at leader.pending next)
  where
    at : (pending : Option Pending) → MatchOption pending (Unit {0}) (λ p. p.slot ≡ length known)
        → drop_below pending (length (learn known slot value)) ≡ drop_pending pending slot
    at None none = refl
    at (Some p) same =
        ap (λ b. cond b None (Some p)) (same_test p.slot slot (length known) (length (learn known slot value)) same (learned_count known slot value))

pub next_is_proposed : (orderers known : ℕ) (leader : Leader) (wish : Option Value)
    → IsAtNext leader known → IsAtNext (advance orderers leader known wish).leader known
unfolding advance
next_is_proposed orderers known leader wish next = by_most (most orderers leader.answered)
  where
    by_value : (value : Option Value) → IsAtNext (propose leader known value).leader known
    by_value None = next
    by_value (Some value) = refl

    by_slot : (past outside : Bool) → IsAtNext (cond {A = Advanced} past (record { leader = leader; next = Nothing })
        (cond outside (record { leader = leader_from leader.ballot known; next = Window known }) (propose leader known (picked leader.best (known - leader.window) wish)))).leader known
    by_slot true outside = next
    by_slot false true = tt
    by_slot false false = by_value (picked leader.best (known - leader.window) wish)

    by_pending : (pending : Option Pending) → IsAtNext (next_unless pending leader known wish).leader known
    by_pending None = by_slot (nat_le slot_limit known) (nat_le (leader.window + 64) known)
    by_pending (Some p) = next

    by_most : (b : Bool) → IsAtNext (cond {A = Advanced} b (next_unless leader.pending leader known wish) (record { leader = leader; next = Nothing })).leader known
    by_most true = by_pending leader.pending
    by_most false = next

-- a proposal that stays is still one of the next slot
same_slot : (at slot count after : ℕ) → at ≡ count → after ≡ cond (slot == count) (count + 1) count → (at == slot) ≡ false → at ≡ after
same_slot at slot count after same grown other = grind (arith, nat_tests)

pub next_after_learning : (leader : Leader) (known : List Value) (slot : ℕ) (value : Value)
    → IsAtNext leader (length known) → IsAtNext (without_slot leader slot) (length (learn known slot value))
next_after_learning leader known slot value next = at leader.pending next
  where
    kept : (p : Pending) (b : Bool) → (p.slot == slot) ≡ b → p.slot ≡ length known
        → MatchOption (cond b None (Some p)) (Unit {0}) (λ q. q.slot ≡ length (learn known slot value))
    kept p true hit same = tt
    kept p false other same = same_slot p.slot slot (length known) (length (learn known slot value)) same (learned_count known slot value) other

    at : (pending : Option Pending) → MatchOption pending (Unit {0}) (λ p. p.slot ≡ length known)
        → MatchOption (drop_pending pending slot) (Unit {0}) (λ p. p.slot ≡ length (learn known slot value))
    at None none = tt
    at (Some p) same = kept p (p.slot == slot) refl same
