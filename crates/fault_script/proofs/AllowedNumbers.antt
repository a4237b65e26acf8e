-- The numbers that a place allows.
use Rattle.std.proofs.Common.{◌≡◌, ◌≢◌, ℕ, ◌*◌, ◌^◌, ◌<◌, ◌≤◌, List, [], ◌∷◌, ◌++◌, ◌⊎◌, refl, sym, ◌∙◌, ap, subst, inl, arith, append-nil, append_assoc}
use Rattle.std.specs.Fmt.{decimal}
use Rattle.std.proofs.lemmas.Bool.{lt-ltb}
use Rattle.std.proofs.lemmas.Bool.Decides.{nat_tests}
use Rattle.std.proofs.lemmas.Grind.{common_steps}
use Rattle.std.proofs.lemmas.Fmt.{decimal_injective}
use Rattle.std.proofs.Math.Nat.{mul-le-mul_left}
use Rattle.log_base.specs.ClusterShape.{InRange, Shape}
use Rattle.fault_script.specs.declared.operand.Operand.{Operand}
use Rattle.fault_script.specs.declared.operand.Operand.TheVariants.{Node, NodeWithDisks, Orderer, Letter, After, Keep}
use Rattle.fault_script.specs.Lines.{HasDisks}
use Rattle.fault_script.specs.Grammar.{Allows, BeginsOne, Fits}
use Rattle.fault_script.proofs.DecimalText.{longer-ge}

-- each number is at most 1,000,000
pub allowed-small : (shape : Shape) (operand : Operand) (number : ℕ) → InRange shape → Allows shape operand number → number ≤ 1000000
allowed-small shape Node number range allowed = omega arith
allowed-small shape NodeWithDisks number range allowed = omega arith
allowed-small shape Orderer number range allowed = omega arith
allowed-small shape Letter number range allowed = allowed
allowed-small shape After number range allowed = allowed
allowed-small shape Keep number range allowed = allowed

some_replicas : (shape : Shape) → InRange shape → 0 < shape.replicas * shape.shards
some_replicas shape range = let more : shape.replicas * 1 ≤ shape.replicas * shape.shards = mul-le-mul_left shape.replicas range.some_shard in omega arith

-- the node 0 stores
pub zero_has_disks : (shape : Shape) → InRange shape → HasDisks shape 0
zero_has_disks shape range =
    let some : 0 < shape.replicas * shape.shards = some_replicas shape range in
    (omega arith, rw (lt-ltb 0 (shape.replicas * shape.shards) some) refl)

-- each place allows 0
pub zero_allowed : (shape : Shape) (operand : Operand) → InRange shape → Allows shape operand 0
zero_allowed shape Node range = omega (arith, some_replicas shape range)
zero_allowed shape NodeWithDisks range = zero_has_disks shape range
zero_allowed shape Orderer range = omega arith
zero_allowed shape Letter range = omega arith
zero_allowed shape After range = omega arith
zero_allowed shape Keep range = omega arith

-- so there are numbers for all places
pub zeros_fit : (shape : Shape) (operands : List Operand) → InRange shape → Fits shape operands []
zeros_fit shape [] range = tt
zeros_fit shape (operand ∷ operands) range = (zero_allowed shape operand range, zeros_fit shape operands range)

-- a node's number that begins the greater number of one with disks
pub disks_begin : (shape : Shape) (number value : ℕ) → InRange shape → HasDisks shape number → value * 10 ≤ number
    → HasDisks shape value ⊎ HasDisks shape (value * 10)
disks_begin shape number value range has more =
    let some : 0 < shape.replicas * shape.shards = some_replicas shape range in
    let stored = shape.replicas * shape.shards in
    grind (arith, common_steps, nat_tests)

-- the digits of a number that is allowed begin with those of a number that begins one
pub begins_one : (shape : Shape) (operand : Operand) (number value : ℕ) → InRange shape → Allows shape operand number → value * 10 ≤ number
    → BeginsOne shape operand value
begins_one shape Node number value range allowed more = inl (omega arith)
begins_one shape NodeWithDisks number value range allowed more = disks_begin shape number value range allowed more
begins_one shape Orderer number value range allowed more = inl (omega arith)
begins_one shape Letter number value range allowed more = inl (omega arith)
begins_one shape After number value range allowed more = inl (omega arith)
begins_one shape Keep number value range allowed more = inl (omega arith)

pub begun : (shape : Shape) (operand : Operand) (number value : ℕ) (rest : List ℕ) → InRange shape → Allows shape operand number → value < 2 ^ 64
    → decimal number ≡ decimal value ++ rest → BeginsOne shape operand value
begun shape operand number value [] range allowed small is =
    let number_small = allowed-small shape operand number range allowed in
    let same : number ≡ value = decimal_injective number value (omega arith) small (is ∙ append-nil (decimal value)) in
    inl (subst (Allows shape operand) same allowed)
begun shape operand number value (byte ∷ rest) range allowed small is =
    let number_small = allowed-small shape operand number range allowed in
    begins_one shape operand number value range allowed (longer-ge number value byte rest (omega arith) small is)

-- no number that is allowed begins with digits that begin none
pub not_begun : (shape : Shape) (operand : Operand) (value byte : ℕ) (front : List ℕ) → InRange shape → value < 2 ^ 64
    → decimal value ≡ front ++ byte ∷ [] → (BeginsOne shape operand value → ⊥)
    → (number : ℕ) (rest : List ℕ) → Allows shape operand number → decimal number ≢ front ++ byte ∷ rest
not_begun shape operand value byte front range small is none number rest allowed number_is =
    let whole : decimal number ≡ decimal value ++ rest = number_is ∙ sym (append_assoc front (byte ∷ []) rest) ∙ ap (λ (ds : List ℕ). ds ++ rest) (sym is) in
    none (begun shape operand number value rest range allowed small whole)
