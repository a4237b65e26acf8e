-- A node takes an input: which nodes stay, and which letters follow.
use Rattle.std.proofs.Common.{◌≡◌, ◌⊎◌, ◌+◌, ◌*◌, ◌/◌, ◌%◌, ◌<◌, ℕ, ◌++◌, Some, sym, ap, inl, inr, ⊎_elim, ◌∙◌, ◌≤◌, arith}
use Rattle.std.proofs.lemmas.Bool.{cases_eq, cases_lt}
use Rattle.std.proofs.lemmas.Nat.{div-mul-add, mod-mul-add}
use Rattle.std.proofs.lemmas.Option.{same_Some}
use Rattle.std.proofs.Math.Nat.{mul-le-mul_left}
use Rattle.reply_frame.specs.declared.replies.Reply.{Reply}
use Rattle.history_frame.specs.declared.inputs.Input.{Input}
use Rattle.history_frame.specs.declared.inputs.Mark.{Mark}
use Rattle.log_base.specs.ClusterShape.{InRange, Shape}
use Rattle.node_table.specs.declared.role.Role.{Role}
use Rattle.node_table.specs.Numbering.{IsRole, node_of, role_at, storage_node}
use Rattle.node_table.proofs.Roles.{role_at-node_of}
use Rattle.node_model.specs.NodeState.{NodeOutcome, node_outcome}
use Rattle.quiet_model.specs.Moments.{Moment, Takes}

pub record Moves (config : Shape) (before after : Moment) (role : Role) (made : NodeOutcome) : Type 0 where
  pub here : after.nodes (node_of config role) ≡ made.state
  pub others : (other : Role) → IsRole config other → (other ≡ role) ⊎ (after.nodes (node_of config other) ≡ before.nodes (node_of config other))
  pub posted : after.queue ≡ before.queue ++ made.outputs

-- a number is that of one role
pub same_role : (config : Shape) (one other : Role) → IsRole config one → IsRole config other → node_of config one ≡ node_of config other → one ≡ other
same_role config one other a b e = sym (role_at-node_of config one a) ∙ ap (role_at config) e ∙ role_at-node_of config other b

-- a shard and a replica are known by their cell
pub same_cell : (n s r t q : ℕ) → r < n → q < n → s * n + r ≡ t * n + q → (s ≡ t) × (r ≡ q)
same_cell n s r t q a b e =
    let one = div-mul-add s n r a in let other = div-mul-add t n q b in
    let rest = mod-mul-add s n r a in let more = mod-mul-add t n q b in
    (sym one ∙ ap (λ (x : ℕ). x / n) e ∙ other, sym rest ∙ ap (λ (x : ℕ). x % n) e ∙ more)

-- a number below that of all replicas is that of one
pub replica_of : (config : Shape) → InRange config → (n : ℕ) → n < config.replicas * config.shards
    → (n / config.replicas < config.shards) × (n % config.replicas < config.replicas) × (storage_node config (n / config.replicas) (n % config.replicas) ≡ n)
replica_of config range n h =
    let some = range.some_replica in (
      ⊎_elim
          (λ below. below)
          (λ past. absurd (let more : config.replicas * config.shards ≤ config.replicas * (n / config.replicas) = mul-le-mul_left config.replicas past in omega arith))
          (cases_lt (n / config.replicas) config.shards),
      omega arith,
      omega arith,
    )

pub moved : (config : Shape) (before after : Moment) (role : Role) (input : Input) (mark : Mark) (answer : Reply) → IsRole config role
    → Takes config before (node_of config role) input mark answer after
    → (made : NodeOutcome) → node_outcome config (node_of config role) (before.nodes (node_of config role)) input mark ≡ Some made
    → Moves config before after role made
moved config before after role input mark answer is taken made e =
    let same : taken.made ≡ made = same_Some taken.made made (sym taken.rule ∙ e) in
    record {
      here = taken.state ∙ ap (λ (x : NodeOutcome). x.state) same;
      others = λ other a.
          ⊎_elim
          (λ at. inl (same_role config other role a is at))
          (λ apart. inr (taken.others (node_of config other) apart))
          (cases_eq (node_of config other) (node_of config role));
      posted = taken.posted ∙ ap (λ (x : NodeOutcome). before.queue ++ x.outputs) same;
    }
