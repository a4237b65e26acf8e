-- Payloads on the same disks are as many bytes.
use Rattle.std.proofs.Common.{◌≡◌, ℕ, zero, suc, ◌+◌, ◌*◌, ◌/◌, ◌<◌, ◌≤◌, Bool, true, false, cond, List, [], ◌∷◌, length, refl, sym, ap, ◌∙◌, subst, arith, eq-eqb}
use Rattle.std.specs.Prelude.{◌==◌, sum_by}
use Rattle.std.proofs.lemmas.Bool.{eqb-true}
use Rattle.std.proofs.lemmas.List.Sums.{sum_by-cons}
use Rattle.std.specs.List.{AllByRecursion}
use Rattle.history_frame.specs.declared.events.Kept.{Kept}
use Rattle.log_base.specs.ClusterShape.{Shape}
use Rattle.node_model.specs.NodeState.{KeptLists}
use Rattle.node_model.specs.Sound.{payloads_on}
use Rattle.node_table.specs.declared.role.Role.{Role}
use Rattle.node_table.specs.declared.role.Role.TheVariants.{Storage, Gatherer, Orderer}
use Rattle.node_table.specs.Numbering.{nodes_of, role_at}
use Rattle.cluster_disks.specs.Found.{bytes_in}
use Rattle.cluster_disks.specs.Lent.{IsDisk, disks_at, disks_in}

-- ---- the payloads of a disk

-- a disk with a payload is one of them
some_on : (P : ℕ → Type 0) (kept : List Kept) (number : ℕ) → AllByRecursion (λ (one : Kept). P one.disk) kept → (payload : List ℕ) (rest : List (List ℕ))
    → payloads_on kept number ≡ payload ∷ rest → P number
some_on P [] number each payload rest e = absurd (cc)
some_on P (one ∷ kept) number each payload rest e = by (some_on P kept number each.1 payload rest) (one.disk == number) refl
  where
    by : (payloads_on kept number ≡ payload ∷ rest → P number) → (b : Bool) → (one.disk == number) ≡ b → P number
    by later true same = subst P (eqb-true one.disk number same) each.0
    by later false other = later (sym (ap (λ (b : Bool). cond b (one.payload ∷ payloads_on kept number) (payloads_on kept number)) other) ∙ e)

module _ (P : ℕ → Type 0) (a b : List Kept) (on_a : AllByRecursion (λ (one : Kept). P one.disk) a) (on_b : AllByRecursion (λ (one : Kept). P one.disk) b)
    (same : (number : ℕ) → P number → payloads_on a number ≡ payloads_on b number) where
  same_at : (number : ℕ) → payloads_on a number ≡ payloads_on b number
  same_at number = by (payloads_on a number) (payloads_on b number) refl refl
    where
      by : (x y : List (List ℕ)) → payloads_on a number ≡ x → payloads_on b number ≡ y → payloads_on a number ≡ payloads_on b number
      by [] [] p q = p ∙ sym q
      by [] (y ∷ ys) p q = same number (some_on P b number on_b y ys q)
      by (x ∷ xs) y p q = same number (some_on P a number on_a x xs p)

  pub same_lists : payloads_on a ≡ payloads_on b
  same_lists = λ i number. same_at number i

-- ---- their bytes

abbrev list_bytes : List (List ℕ) → ℕ
list_bytes [] = 0
list_bytes (payload ∷ payloads) = length payload + list_bytes payloads

-- the bytes of the first disks
abbrev total : KeptLists → ℕ → ℕ
total lists zero = 0
total lists (suc count) = total lists count + list_bytes (lists count)

total_none : (count : ℕ) → total (payloads_on []) count ≡ 0
total_none zero = refl
total_none (suc count) = let rest = total_none count in omega (arith, rest)

on_its_disk : (one : Kept) (kept : List Kept) (number : ℕ) → one.disk ≡ number → payloads_on (one ∷ kept) number ≡ one.payload ∷ payloads_on kept number
on_its_disk one kept number e = ap (λ (b : Bool). cond b (one.payload ∷ payloads_on kept number) (payloads_on kept number)) (eq-eqb one.disk number e)

on_another : (one : Kept) (kept : List Kept) (number : ℕ) → (one.disk == number) ≡ false → payloads_on (one ∷ kept) number ≡ payloads_on kept number
on_another one kept number e = ap (λ (b : Bool). cond b (one.payload ∷ payloads_on kept number) (payloads_on kept number)) e

-- a payload of a disk behind them adds nothing
total_behind : (one : Kept) (kept : List Kept) (count : ℕ) → count ≤ one.disk → total (payloads_on (one ∷ kept)) count ≡ total (payloads_on kept) count
total_behind one kept zero behind = refl
total_behind one kept (suc count) behind = by (total_behind one kept count) (one.disk == count) refl
  where
    by : (count ≤ one.disk → total (payloads_on (one ∷ kept)) count ≡ total (payloads_on kept) count) → (b : Bool) → (one.disk == count) ≡ b
        → total (payloads_on (one ∷ kept)) (suc count) ≡ total (payloads_on kept) (suc count)
    by earlier true same = absurd (let e = eqb-true one.disk count same in omega (arith, e, behind))
    by earlier false other =
        let rest = earlier (omega (arith, behind)) in
        let here = ap list_bytes (on_another one kept count other) in
        omega (arith, rest, here)

-- one of a disk among them adds its bytes
total_more : (one : Kept) (kept : List Kept) (count : ℕ) → one.disk < count → total (payloads_on (one ∷ kept)) count ≡ length one.payload + total (payloads_on kept) count
total_more one kept zero within = absurd (omega arith)
total_more one kept (suc count) within = by (total_more one kept count) (one.disk == count) refl
  where
    below : (one.disk ≡ count → ⊥) → one.disk < count
    below differ = omega (arith, within, differ)

    by : (one.disk < count → total (payloads_on (one ∷ kept)) count ≡ length one.payload + total (payloads_on kept) count) → (b : Bool) → (one.disk == count) ≡ b
        → total (payloads_on (one ∷ kept)) (suc count) ≡ length one.payload + total (payloads_on kept) (suc count)
    by earlier true same =
        let e = eqb-true one.disk count same in
        let rest = total_behind one kept count (omega (arith, e)) in
        let here = ap list_bytes (on_its_disk one kept count e) in
        omega (arith, rest, here)
    by earlier false other =
        let rest = earlier (below (λ e. let yes = eq-eqb one.disk count e in cc)) in
        let here = ap list_bytes (on_another one kept count other) in
        omega (arith, rest, here)

-- all payloads together
all_bytes : (kept : List Kept) (count : ℕ) → AllByRecursion (λ (one : Kept). one.disk < count) kept → bytes_in kept ≡ total (payloads_on kept) count
all_bytes [] count within = sym (total_none count)
all_bytes (one ∷ kept) count within =
    let first = sum_by-cons (λ (k : Kept). length k.payload) one kept in
    let rest = all_bytes kept count within.1 in
    let more = total_more one kept count within.0 in
    omega (arith, first, rest, more)

-- ---- the disks of a cluster

few_in : (config : Shape) (role : Role) → config.replicas ≤ 8 → disks_in config role ≤ 8
few_in config (Storage shard replica) few = few
few_in config (Gatherer index) few = omega arith
few_in config (Orderer index) few = omega arith

disk_below : (config : Shape) (number : ℕ) → config.replicas ≤ 8 → IsDisk config number → number < nodes_of config * 8
disk_below config number few is =
    let node = is.1 in
    let segment = is.2.1 in
    let number_is = is.2.2 in
    let small = few_in config (role_at config is.0) few in
    omega (arith, node, segment, number_is, small)

disks_below : (config : Shape) (kept : List Kept) → config.replicas ≤ 8 → AllByRecursion (λ (one : Kept). IsDisk config one.disk) kept
    → AllByRecursion (λ (one : Kept). one.disk < nodes_of config * 8) kept
disks_below config [] few on = tt
disks_below config (one ∷ kept) few on = (disk_below config one.disk few on.0, disks_below config kept few on.1)

pub same_bytes : (config : Shape) (a b : List Kept) → config.replicas ≤ 8 → AllByRecursion (λ (one : Kept). IsDisk config one.disk) a → AllByRecursion (λ (one : Kept). IsDisk config one.disk) b
    → payloads_on a ≡ payloads_on b → bytes_in a ≡ bytes_in b
same_bytes config a b few on_a on_b same =
    all_bytes a (nodes_of config * 8) (disks_below config a few on_a)
    ∙ ap (λ (lists : KeptLists). total lists (nodes_of config * 8)) same
    ∙ sym (all_bytes b (nodes_of config * 8) (disks_below config b few on_b))
