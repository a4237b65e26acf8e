-- Raising by lengths that all replicas of a shard hold keeps a cut safe, and the inputs of an orderer carry safe values.
use Rattle.std.proofs.Common.{◌≡◌, ◌+◌, ◌-◌, ◌*◌, ◌<◌, ◌≤◌, ℕ, zero, suc, max, ◌&&◌, nat_le, nat_lt, List, [], ◌∷◌, length, Some, None, refl, sym, ap, subst, inl, inr, arith, leb-true, ltb-true, ◌∙◌}
use Rattle.std.specs.Prelude.{slice_index}
use Rattle.std.specs.List.{AllByRecursion}
use Rattle.std.proofs.lemmas.Bool.{and_parts, cond_both}
use Rattle.std.proofs.Math.Nat.{mul-le-mul_left}
use Rattle.history_frame.specs.declared.inputs.Call.{Call}
use Rattle.history_frame.specs.declared.inputs.Call.TheVariants.{Ask, Read, Request, Settled, Submit}
use Rattle.history_frame.specs.declared.inputs.Input.{Input}
use Rattle.history_frame.specs.declared.inputs.Input.TheVariants.{Call as ACall, Deliver, Lead, Restart, Stop, Tick}
use Rattle.log_base.specs.ClusterShape.{InRange, Shape}
use Rattle.message_frame.specs.declared.messages.Message.{Message}
use Rattle.message_frame.specs.declared.messages.Message.TheVariants.{Accept, Accepted, Copy, CopyAck, Decide, Least, Lower, Prepare, Promised, Report, Want}
use Rattle.message_frame.specs.Spelling.{IsVote}
use Rattle.node_table.specs.declared.role.Role.{Role}
use Rattle.paxos_model.specs.Learner.{nothing_heard, raise, raised_from}
use Rattle.record_frame.specs.declared.values.Lengths.{Lengths}
use Rattle.record_frame.specs.declared.values.Value.{Value}
use Rattle.record_frame.specs.declared.values.Value.TheVariants.{Noop, Cut, Add, Finalise, Trim}
use Rattle.record_frame.specs.Values.{IsLengths, IsValue}
use Rattle.node_model.specs.Fits.{IsRequested, IsValueOf, IsVoteOf}
use Rattle.agreement_law.specs.Elements.{In}
use Rattle.agreement_law.specs.Fine.{IsFineInput, IsFineMessage}
use Rattle.safety_law.specs.Letters.{IsGoodMessage, IsTrueLeast}
use Rattle.safety_law.specs.Lists.{IsHeldValue, IsSafeValue, Lists}
use Rattle.safety_law.proofs.GathererRows.{same_cell}
use Rattle.safety_law.specs.Events.{IsGoodInput}
use Rattle.safety_law.proofs.Reports.{zeros_at}

-- a raised length is at most what the old one and the given one are at most
raised_at_most : (at first count : ℕ) (given xs : List ℕ) (k bound : ℕ) → slice_index xs k ≤ bound
    → (first ≤ at + k → at + k < first + count → slice_index given (at + k - first) ≤ bound)
    → slice_index (raised_from at first count given xs) k ≤ bound
raised_at_most at first count given [] k bound h f = omega arith
raised_at_most at first count given (x ∷ xs) zero bound h f =
    cond_both (nat_le first at && nat_lt at (first + count)) (max x (slice_index given (at - first))) x (λ (n : ℕ). n ≤ bound)
    (λ e. let parts = and_parts _ _ e in
    let low : first ≤ at = leb-true first at parts.0 in
    let high : at < first + count = ltb-true at (first + count) parts.1 in
    let same : at + 0 - first ≡ at - first = omega arith in
    let new : slice_index given (at - first) ≤ bound = subst (λ (n : ℕ). slice_index given n ≤ bound) same (f (omega arith) (omega arith)) in
    let old : x ≤ bound = h in
    omega arith)
    (λ e. h)
raised_at_most at first count given (x ∷ xs) (suc k) bound h f =
    let same : at + suc k ≡ suc at + k = omega arith in
    raised_at_most (suc at) first count given xs k bound h
    (λ low high. subst (λ (n : ℕ). slice_index given (n - first) ≤ bound) same (f (omega arith) (omega arith)))

raised_length : (at first count : ℕ) (given xs : List ℕ) → length (raised_from at first count given xs) ≡ length xs
raised_length at first count given [] = refl
raised_length at first count given (x ∷ xs) = ap suc (raised_length (suc at) first count given xs)

module _ (config : Shape) (range : InRange config) (lists : Lists) where
  raised_held : (s : ℕ) (given : Lengths) → s < config.shards → IsTrueLeast config lists s given → (heard : List ℕ)
      → IsHeldValue config lists (Cut (record { count = 0; length = heard }))
      → IsHeldValue config lists (Cut (record { count = 0; length = raised_from 0 (s * config.replicas) config.replicas given.length heard }))
  raised_held s given below least heard h t r j inside =
      raised_at_most 0 (s * config.replicas) config.replicas given.length heard (t * config.replicas + j) (length (lists t r j)) (h t r j inside)
      (λ low high.
      let k : ℕ = t * config.replicas + j - s * config.replicas in
      let small : k < config.replicas = omega arith in
      let sum : t * config.replicas + j ≡ s * config.replicas + k = omega arith in
      let cell = same_cell config.replicas t j s k inside.segment_below small sum in
      let place : 0 + (t * config.replicas + j) - s * config.replicas ≡ j = omega (arith, cell.1) in
      subst (λ (n : ℕ). slice_index given.length n ≤ length (lists t r j)) (sym place)
      (subst (λ (n : ℕ). slice_index given.length j ≤ length (lists n r j)) (sym cell.0) (least r inside.replica_below j inside.segment_below)))

  raised_range : (s : ℕ) (given heard : Lengths) → s < config.shards → IsLengths 5 given → given.count ≡ config.replicas
      → IsLengths 32 heard → heard.count ≡ config.replicas * config.shards
      → IsLengths 32 (record { count = heard.count; length = raised_from 0 (s * config.replicas) config.replicas given.length heard.length })
  raised_range s given heard below g gc h hc = record {
    some = h.some;
    count = h.count;
    cells = raised_length 0 (s * config.replicas) config.replicas given.length heard.length ∙ h.cells;
    small = λ k under. raised_at_most 0 (s * config.replicas) config.replicas given.length heard.length k 16384 (h.small k under)
        (λ low high. g.small (0 + k - s * config.replicas) (omega (arith, gc)));
    rest = λ k past.
        let none : slice_index (raised_from 0 (s * config.replicas) config.replicas given.length heard.length) k ≤ 0 =
        raised_at_most 0 (s * config.replicas) config.replicas given.length heard.length k 0 (omega (arith, h.rest k past))
        (λ low high. absurd (let more = within in omega (arith, hc))) in
        omega arith;
  }
    where
      within : config.replicas * suc s ≤ config.replicas * config.shards
      within = mul-le-mul_left config.replicas (omega arith)

  raise_safe : (s : ℕ) (given heard : Lengths) → s < config.shards → IsLengths 5 given → given.count ≡ config.replicas → IsTrueLeast config lists s given
      → IsSafeValue config lists (Cut heard) → IsSafeValue config lists (Cut (raise config.replicas (s * config.replicas) given.length heard))
  unfolding raise
  raise_safe s given heard below g gc least h = record {
    range = raised_range s given heard below g gc h.range h.of_config;
    of_config = h.of_config;
    held = raised_held s given below least heard.length h.held;
  }

  pub noop_safe : IsSafeValue config lists Noop
  noop_safe = record { range = tt; of_config = tt; held = tt }

  pub nothing_safe : IsSafeValue config lists (Cut (nothing_heard (config.shards * config.replicas)))
  unfolding nothing_heard
  nothing_safe = record {
    range = record {
      some = (let more : config.shards * 1 ≤ config.shards * config.replicas = mul-le-mul_left config.shards range.some_replica in omega (arith, range.some_shard));
      count = omega (arith, range.segments);
      cells = refl;
      small = λ k below. omega (arith, zeros_at 32 k);
      rest = λ k past. zeros_at 32 k;
    };
    of_config = omega arith;
    held = λ s r j inside. omega (arith, zeros_at 32 (s * config.replicas + j));
  }

  -- what an orderer is given
  each_of : {A : Type 0} (P : A → Type 0) (xs : List A) → AllByRecursion P xs → (x : A) → In x xs → P x
  each_of P [] h x a = absurd a
  each_of P (y ∷ xs) h x (inl e) = subst P (sym e) h.0
  each_of P (y ∷ xs) h x (inr a) = each_of P xs h.1 x a

  message_fine : (role : Role) (m : Message) → IsGoodMessage config lists role m → IsFineMessage config (IsSafeValue config lists) m
  message_fine role (Promised b f w vs) h = λ x a. record {
    range = (each_of (IsVote f.0) vs h.range.3.each x a).value;
    of_config = each_of (IsVoteOf config) vs h.of_config.1 x a;
    held = h.truth x a;
  }
  message_fine role (Accept b k v) h = record { range = h.range.2; of_config = h.of_config; held = h.truth }
  message_fine role (Decide k v) h = record { range = h.range.1; of_config = h.of_config; held = h.truth }
  message_fine role (Least shard given) h = λ heard safe. raise_safe shard.0 given heard h.of_config.0 h.range.1 h.of_config.1 h.truth safe
  message_fine role (Prepare b f) h = tt
  message_fine role (Lower b p) h = tt
  message_fine role (Accepted b k w) h = tt
  message_fine role (Want from node) h = tt
  message_fine role (Copy segment offset entry) h = tt
  message_fine role (CopyAck peer held) h = tt
  message_fine role (Report shard replica lengths) h = tt

  request_safe : (v : Value) → IsRequested v → IsValue v → IsValueOf config v → IsSafeValue config lists v
  request_safe Noop a b c = absurd a
  request_safe (Cut lengths) a b c = absurd a
  request_safe (Add shard) a b c = record { range = b; of_config = c; held = tt }
  request_safe (Finalise shard) a b c = record { range = b; of_config = c; held = tt }
  request_safe (Trim position) a b c = record { range = b; of_config = c; held = tt }

  call_fine : (role : Role) (call : Call) → IsGoodInput config lists role (ACall call) → IsFineInput config (IsSafeValue config lists) (ACall call)
  call_fine role (Submit client number bytes) h = tt
  call_fine role (Ask client number) h = tt
  call_fine role (Read client position) h = tt
  call_fine role (Request client value) h = request_safe value h.0 h.1 h.2
  call_fine role (Settled client value from) h = tt

  pub input_fine : (role : Role) (x : Input) → IsGoodInput config lists role x → IsFineInput config (IsSafeValue config lists) x
  input_fine role (Deliver place index (Some m)) h = message_fine role m h
  input_fine role (Deliver place index None) h = tt
  input_fine role (ACall call) h = call_fine role call h
  input_fine role Tick h = tt
  input_fine role Lead h = tt
  input_fine role Stop h = tt
  input_fine role Restart h = tt
