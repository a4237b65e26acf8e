-- What is read from a kind and a body is the one item that they spell.
use Rattle.std.proofs.Common.{◌≡◌, ◌≢◌, ℕ, ◌<◌, ◌≤◌, Bool, true, false, List, [], ◌∷◌, length, drop, get_or, eqb, Option, Some, None, Result, Ok, Err, IfOk, refl, sym, ap, ◌∙◌, subst, arith}
use Rattle.std.proofs.lemmas.Bool.{eqb-true, eqb-false}
use Rattle.log_base.specs.ClusterShape.{Shape, InRange}
use Rattle.log_base.specs.Wide.{IsBytes}
use Rattle.fault_script.specs.declared.fault.Fault.{Fault}
use Rattle.fault_script.specs.Lines.{IsFault, NoLine, fault_line}
use Rattle.fault_script.proofs.OneText.{one_text}
use Rattle.command_frame.specs.declared.items.Item.{Item}
use Rattle.command_frame.specs.declared.items.Item.TheVariants.{Append, Read, Subscribe, Trim, Add, Finalise, Ask, Fault as FaultItem}
use Rattle.command_frame.specs.Items.{item_kind, item_body, IsItem, IsNoFault, IsReading, Spells}
use Rattle.command_frame.specs.Reading.{item_of}
use Rattle.command_frame.proofs.ItemLaws.{item_takes, item_again}

-- ---- faults

record IsFaultItem (item : Item) : Type 0 where
  lane : ℕ
  fault : Fault
  item_is : item ≡ FaultItem lane fault

fault_only : (item : Item) → item_kind item ≡ 8 → IsFaultItem item
fault_only (Append lane shard replica bytes) e = absurd (omega arith)
fault_only (Read lane shard replica position) e = absurd (omega arith)
fault_only (Subscribe lane shard replica from count) e = absurd (omega arith)
fault_only (Trim lane position) e = absurd (omega arith)
fault_only (Add lane shard) e = absurd (omega arith)
fault_only (Finalise lane shard) e = absurd (omega arith)
fault_only (Ask lane) e = absurd (omega arith)
fault_only (FaultItem lane fault) e = record { lane = lane; fault = fault; item_is = refl }

-- a lane and a line
record IsLine (c : Shape) (body : List ℕ) : Type 0 where
  lane : ℕ
  fault : Fault
  body_is : body ≡ lane ∷ fault_line fault
  low : lane < 64
  is_fault : IsFault c fault

spelled_line : (c : Shape) (body : List ℕ) (item : Item) → Spells c 8 body item → IsLine c body
spelled_line c body item s =
    let f = fault_only item (sym s.of_kind) in
    let is : IsItem c (FaultItem f.lane f.fault) = subst (IsItem c) f.item_is s.is_item in
    record { lane = f.lane; fault = f.fault; body_is = s.with_body ∙ ap item_body f.item_is; low = is.0; is_fault = is.1 }

-- ---- what is read from a fault's frame

pub no_lane : (c : Shape) (body : List ℕ) → length body ≡ 0 → IsReading c 8 body None
no_lane c body none = λ item s. let l = spelled_line c body item s in let size = ap length l.body_is in omega arith

pub lane_too_high : (c : Shape) (body : List ℕ) → 64 ≤ get_or body 0 0 → IsReading c 8 body None
lane_too_high c body high = λ item s.
    let l = spelled_line c body item s in
    let low = l.low in
    let lane : get_or body 0 0 ≡ l.lane = ap (λ (b : List ℕ). get_or b 0 0) l.body_is in
    omega arith

pub no_line : (c : Shape) (body : List ℕ) → NoLine c (drop 1 body) → IsReading c 8 body None
no_line c body none = λ item s. let l = spelled_line c body item s in none l.fault l.is_fault (ap (drop 1) l.body_is)

split_lane : (body : List ℕ) → 0 < length body → body ≡ get_or body 0 0 ∷ drop 1 body
split_lane [] some = absurd (omega arith)
split_lane (lane ∷ line) some = refl

pub is_line : (c : Shape) (body : List ℕ) (fault : Fault) → 0 < length body → get_or body 0 0 < 64 → IsFault c fault → drop 1 body ≡ fault_line fault
    → IsReading c 8 body (Some (FaultItem (get_or body 0 0) fault))
is_line c body fault some low is line = record {
  of_kind = refl;
  with_body = split_lane body some ∙ ap (λ (l : List ℕ). get_or body 0 0 ∷ l) line;
  is_item = (low, is);
}

-- ---- what is read from the other frames

pub command_reading : (c : Shape) (kind : ℕ) (body : List ℕ) → InRange c → IsBytes body → kind ≢ 8 → IsReading c kind body (item_of c kind body)
command_reading c kind body range bytes other = either (item_of c kind body) refl
  where
    either : (found : Option Item) → item_of c kind body ≡ found → IsReading c kind body found
    either None e = λ item s.
        let again = item_again c item range s.is_item (λ k. other (s.of_kind ∙ k)) in
        let found : Some item ≡ None = sym again ∙ ap (λ (k : ℕ). item_of c k (item_body item)) (sym s.of_kind) ∙ ap (item_of c kind) (sym s.with_body) ∙ e in
        cc
    either (Some item) e = item_takes c kind body item bytes e

pub command_read : {E : Type 0} (c : Shape) (kind : ℕ) (body : List ℕ) (result : Result (Option Item) E) → InRange c → IsBytes body → kind ≢ 8
    → IfOk result (λ item. item ≡ item_of c kind body) → IfOk result (λ item. IsReading c kind body item)
command_read c kind body (Ok item) range bytes other e = subst (IsReading c kind body) (sym e) (command_reading c kind body range bytes other)
command_read c kind body (Err error) range bytes other e = tt

-- ---- one item

pub one_spelled : (c : Shape) (kind : ℕ) (body : List ℕ) (i j : Item) → InRange c → Spells c kind body i → Spells c kind body j → i ≡ j
one_spelled c kind body i j range s t = either (eqb kind 8) (eqb-true kind 8) (eqb-false kind 8)
  where
    either : (is_fault : Bool) → (is_fault ≡ true → kind ≡ 8) → (is_fault ≡ false → kind ≢ 8) → i ≡ j
    either true is other =
        let f = fault_only i (sym s.of_kind ∙ is refl) in
        let g = fault_only j (sym t.of_kind ∙ is refl) in
        let one : IsItem c (FaultItem f.lane f.fault) = subst (IsItem c) f.item_is s.is_item in
        let two : IsItem c (FaultItem g.lane g.fault) = subst (IsItem c) g.item_is t.is_item in
        let bodies : f.lane ∷ fault_line f.fault ≡ g.lane ∷ fault_line g.fault = ap item_body (sym f.item_is) ∙ sym s.with_body ∙ t.with_body ∙ ap item_body g.item_is in
        let lanes : f.lane ≡ g.lane = ap (λ (b : List ℕ). get_or b 0 0) bodies in
        let faults : f.fault ≡ g.fault = one_text c f.fault g.fault range one.1 two.1 (ap (drop 1) bodies) in
        f.item_is ∙ ap (λ (l : ℕ). FaultItem l f.fault) lanes ∙ ap (FaultItem g.lane) faults ∙ sym g.item_is
    either false is other =
        let first = item_again c i range s.is_item (λ k. other refl (s.of_kind ∙ k)) in
        let second = item_again c j range t.is_item (λ k. other refl (t.of_kind ∙ k)) in
        let same : Some i ≡ Some j =
        sym first ∙ ap (λ (k : ℕ). item_of c k (item_body i)) (sym s.of_kind ∙ t.of_kind) ∙ ap (item_of c (item_kind j)) (sym s.with_body ∙ t.with_body) ∙ second in
        cc

-- ---- the laws

no_fault_kind : (item : Item) → IsNoFault item → item_kind item ≢ 8
no_fault_kind (Append lane shard replica bytes) other e = omega arith
no_fault_kind (Read lane shard replica position) other e = omega arith
no_fault_kind (Subscribe lane shard replica from count) other e = omega arith
no_fault_kind (Trim lane position) other e = omega arith
no_fault_kind (Add lane shard) other e = omega arith
no_fault_kind (Finalise lane shard) other e = omega arith
no_fault_kind (Ask lane) other e = omega arith
no_fault_kind (FaultItem lane fault) other e = other

pub spelled_is_read : (c : Shape) (item : Item) → InRange c → IsItem c item → IsNoFault item → item_of c (item_kind item) (item_body item) ≡ Some item
spelled_is_read c item range is other = item_again c item range is (no_fault_kind item other)

pub one_reading : (c : Shape) (item : Item) (found : Option Item) → InRange c → IsItem c item
    → IsReading c (item_kind item) (item_body item) found → found ≡ Some item
one_reading c item None range is none = absurd (none item (record { of_kind = refl; with_body = refl; is_item = is }))
one_reading c item (Some other) range is s =
    ap Some (one_spelled c (item_kind item) (item_body item) other item range s (record { of_kind = refl; with_body = refl; is_item = is }))
