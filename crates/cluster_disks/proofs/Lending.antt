-- What the moves of a rack leave as it was, and how a disk comes back.
use Rattle.std.proofs.Common.{◌≡◌, ◌≢◌, ◌⊎◌, inl, inr, ℕ, zero, suc, ◌<◌, ◌≤◌, List, [], ◌∷◌, ◌++◌, length, map, Option, Some, None, refl, sym, ap, ◌∙◌, subst, arith}
use Rattle.std.specs.Prelude.{IfSome, IsTrue, slice_get}
use Rattle.std.proofs.lemmas.List.{map-id}
use Rattle.disk_base.specs.Lending.{IsGivenBack as IsLaidBack, NumberStays}
use Rattle.log_base.specs.ClusterShape.{Shape}
use Rattle.node_table.specs.declared.role.Role.{Role}
use Rattle.node_table.specs.declared.role.Role.TheVariants.{Storage, Gatherer, Orderer}
use Rattle.node_table.specs.Numbering.{disk_of, role_at}
use Rattle.segment_journal.specs.Kept.{AlikeImages}
use Rattle.segment_journal.specs.OnDisk.{OnDisk}
use Rattle.cluster_disks.specs.declared.stop.OpenStop.{OpenStop}
use Rattle.cluster_disks.specs.declared.stop.OpenStop.TheVariants.{Unopened, BadDisk, TooManyKept, Memory}
use Rattle.cluster_disks.specs.Lent.{Disks, IsDiskBelow, IsDiskOfNode, Lying, StaysBut, disks_at, disks_in, lain}
use Rattle.cluster_disks.specs.Opened.{FailsToOpen, IsGivenBack, IsOpened, IsReturned, KeepsList, RecoverAlike, Tells}

-- ---- what stays

-- the same disk lies there, with the same count
pub record IsSame {D : Type 0} (old new : Lying D) : Type 0 where
  pub disk : new.disk ≡ old.disk
  pub count : new.disk_faults ≡ old.disk_faults

pub same_where : {R D : Type 0} (lent_under : R → ℕ → Option (List ℕ) → Type 0) (disk_faults : R → Option (List ℕ) → ℕ → ℕ) (disk_at : R → Option (List ℕ) → ℕ → Option D) (faults : R → ℕ) (old new : R) (number : ℕ)
    → NumberStays {R = R} {D = D} lent_under disk_faults disk_at old new number → IsSame {D = D} (lain disk_at disk_faults faults old number) (lain disk_at disk_faults faults new number)
same_where lent_under disk_faults disk_at faults old new number stays = record { disk = stays.disk None; count = stays.count None }

pub stays_join : {R D : Type 0} (lent_under : R → ℕ → Option (List ℕ) → Type 0) (disk_faults : R → Option (List ℕ) → ℕ → ℕ) (disk_at : R → Option (List ℕ) → ℕ → Option D) (first second all : ℕ → Type 0) (old between new : R)
    → ((k : ℕ) → first k → all k) → ((k : ℕ) → second k → all k) → StaysBut {R = R} {D = D} lent_under disk_faults disk_at first old between → StaysBut {R = R} {D = D} lent_under disk_faults disk_at second between new
    → StaysBut {R = R} {D = D} lent_under disk_faults disk_at all old new
stays_join lent_under disk_faults disk_at first second all old between new in_first in_second a_stays b_stays number other =
    let a = a_stays number (λ is. other (in_first number is)) in
    let b = b_stays number (λ is. other (in_second number is)) in
    record {
      lent = λ folder is. b.lent folder (a.lent folder is);
      only_lent = λ folder is. a.only_lent folder (b.only_lent folder is);
      count = λ folder. b.count folder ∙ a.count folder;
      disk = λ folder. b.disk folder ∙ a.disk folder;
    }

pub stays_none : {R D : Type 0} (lent_under : R → ℕ → Option (List ℕ) → Type 0) (disk_faults : R → Option (List ℕ) → ℕ → ℕ) (disk_at : R → Option (List ℕ) → ℕ → Option D) (these : ℕ → Type 0) (rack : R)
    → StaysBut {R = R} {D = D} lent_under disk_faults disk_at these rack rack
stays_none lent_under disk_faults disk_at these rack number other =
    record { lent = λ folder is. is; only_lent = λ folder is. is; count = λ folder. refl; disk = λ folder. refl }

-- ---- numbers

pub one_segment : (node j k : ℕ) → disk_of node j ≡ disk_of node k → j ≡ k
one_segment node j k same = omega arith

pub one_node : (n m j k : ℕ) → j < 8 → k < 8 → disk_of n j ≡ disk_of m k → n ≡ m
one_node n m j k a b same = omega arith

-- a later disk of the node is none of the first ones
pub later_segment : (node count j : ℕ) → count ≤ j → IsDiskOfNode node count (disk_of node j) → ⊥
later_segment node count j behind is = let same = is.2 in let lt = is.1 in omega arith

-- the disks of another node are others
pub other_node : (n m count j : ℕ) → count ≤ 8 → j < 8 → n ≢ m → IsDiskOfNode m count (disk_of n j) → ⊥
other_node n m count j small within other is =
    let inside = is.1 in other (one_node n m j is.0 within (omega arith) is.2)

role_small : (config : Shape) (role : Role) → config.replicas ≤ 8 → disks_in config role ≤ 8
role_small config (Storage shard replica) small = small
role_small config (Gatherer index) small = omega arith
role_small config (Orderer index) small = omega arith

-- a node has at most eight disks
pub node_small : (config : Shape) (node : ℕ) → config.replicas ≤ 8 → disks_at config node ≤ 8
node_small config node small = role_small config (role_at config node) small

-- the disks of a later node are none of the first ones
pub later_node : (config : Shape) (nodes n j : ℕ) → config.replicas ≤ 8 → j < 8 → nodes ≤ n → IsDiskBelow config nodes (disk_of n j) → ⊥
later_node config nodes n j small within behind is =
    let lt = is.1 in
    let few = node_small config is.0 small in
    let inside = is.2.1 in
    let same = one_node n is.0 j is.2.0 within (omega arith) is.2.2 in omega arith

-- ---- how disks come back

module _ {D : Type 0} (by : Disks D) where
  pub given_same : (journal : OnDisk D) (old new : Lying D) → IsSame old new → IsGivenBack by journal old → IsGivenBack by journal new
  given_same journal old new same given = record {
    count = same.count ∙ given.count;
    keeps = subst (λ (d : Option D). IfSome d (λ disk. by.keeps_synced disk ≡ by.keeps_synced journal.disk)) (sym same.disk) given.keeps;
    list = subst (λ (d : Option D). IfSome d (λ disk. IsTrue (by.keeps_synced disk) → KeepsList journal.journal.payloads journal.journal.flight (by.may_leave disk))) (sym same.disk) given.list;
    images = subst (λ (d : Option D). IfSome d (λ disk. (c : List ℕ) → by.may_leave disk c → by.may_leave journal.disk c)) (sym same.disk) given.images;
  }

  pub tells_same : (old between : Lying D) (Are : List ℕ → Type 0) → IsSame old between → Tells by between Are → Tells by old Are
  tells_same old between Are same tells = subst (λ (d : Option D). IfSome d (λ disk. IfSome (by.reads disk) Are)) same.disk tells

  pub opened_after : (old between : Lying D) (journal : OnDisk D) → IsSame old between → IsOpened by between journal → IsOpened by old journal
  opened_after old between journal same opened = record {
    fresh = opened.fresh;
    list = tells_same old between _ same opened.list;
    count = (let a = same.count in let b = opened.count in omega arith);
    keeps = subst (λ (d : Option D). IfSome d (λ before. by.keeps_synced journal.disk ≡ by.keeps_synced before)) same.disk opened.keeps;
    images = subst (λ (d : Option D). IfSome d (λ before. IsTrue (by.keeps_synced before) → RecoverAlike (by.may_leave before) (by.may_leave journal.disk))) same.disk opened.images;
  }

  alike_self : (told : Option D) → IfSome told (λ before. IfSome told (λ disk. IsTrue (by.keeps_synced before) → RecoverAlike (by.may_leave before) (by.may_leave disk)))
  alike_self None = tt
  alike_self (Some disk) = λ synced c image. (c, image, refl)

  keeps_self : (told : Option D) → IfSome told (λ before. IfSome told (λ disk. by.keeps_synced disk ≡ by.keeps_synced before))
  keeps_self None = tt
  keeps_self (Some disk) = refl

  pub returned_same : (old new : Lying D) → IsSame old new → old.rack_faults ≤ new.rack_faults → IsReturned by old new
  returned_same old new same later = record {
    alike = subst (λ (told : Option D). IfSome old.disk (λ before. IfSome told (λ disk. IsTrue (by.keeps_synced before) → RecoverAlike (by.may_leave before) (by.may_leave disk)))) (sym same.disk) (alike_self old.disk);
    later = record {
      disk = (let a = same.count in omega arith);
      rack = later;
      keeps = subst (λ (told : Option D). IfSome old.disk (λ before. IfSome told (λ disk. by.keeps_synced disk ≡ by.keeps_synced before))) (sym same.disk) (keeps_self old.disk);
    };
  }

  pub same_returned : (old between new : Lying D) → IsSame old between → old.rack_faults ≤ between.rack_faults → IsReturned by between new → IsReturned by old new
  same_returned old between new same later returned = record {
    alike = subst (λ (told : Option D). IfSome told (λ before. IfSome new.disk (λ disk. IsTrue (by.keeps_synced before) → RecoverAlike (by.may_leave before) (by.may_leave disk)))) same.disk returned.alike;
    later = record {
      disk = (let a = same.count in let b = returned.later.disk in omega arith);
      rack = (let b = returned.later.rack in omega arith);
      keeps = subst (λ (told : Option D). IfSome told (λ before. IfSome new.disk (λ disk. by.keeps_synced disk ≡ by.keeps_synced before))) same.disk returned.later.keeps;
    };
  }

  pub returned_then : (old between new : Lying D) → IsReturned by old between → IsSame between new → between.rack_faults ≤ new.rack_faults → IsReturned by old new
  returned_then old between new returned same later = record {
    alike = subst (λ (told : Option D). IfSome old.disk (λ before. IfSome told (λ disk. IsTrue (by.keeps_synced before) → RecoverAlike (by.may_leave before) (by.may_leave disk)))) (sym same.disk) returned.alike;
    later = record {
      disk = (let a = same.count in let b = returned.later.disk in omega arith);
      rack = (let b = returned.later.rack in omega arith);
      keeps = subst (λ (told : Option D). IfSome old.disk (λ before. IfSome told (λ disk. by.keeps_synced disk ≡ by.keeps_synced before))) (sym same.disk) returned.later.keeps;
    };
  }

  -- why a disk was not open stays so over what went before and comes after
  pub same_fails : (number : ℕ) (old between new : Lying D) (fault : OpenStop) → IsSame old between → old.rack_faults ≤ between.rack_faults → FailsToOpen by number between new fault → FailsToOpen by number old new fault
  same_fails number old between new (Unopened disk) same later (is, inl rose) = (is, inl (omega arith))
  same_fails number old between new (Unopened disk) same later (is, inr rose) = (is, inr (let a = same.count in omega arith))
  same_fails number old between new (BadDisk disk at) same later (is, damage) = (is, tells_same old between _ same damage)
  same_fails number old between new TooManyKept same later fails = fails
  same_fails number old between new Memory same later fails = tt

  pub fails_then : (number : ℕ) (old between new : Lying D) (fault : OpenStop) → FailsToOpen by number old between fault → IsSame between new → between.rack_faults ≤ new.rack_faults → FailsToOpen by number old new fault
  fails_then number old between new (Unopened disk) (is, inl rose) same later = (is, inl (omega arith))
  fails_then number old between new (Unopened disk) (is, inr rose) same later = (is, inr (let a = same.count in omega arith))
  fails_then number old between new (BadDisk disk at) fails same later = fails
  fails_then number old between new TooManyKept fails same later = fails
  fails_then number old between new Memory fails same later = tt

  -- a disk that was opened comes back with nothing on it that was not there
  pub returned_open : (journal : OnDisk D) (old new : Lying D) → IsOpened by old journal → IsGivenBack by journal new → old.rack_faults ≤ new.rack_faults → IsReturned by old new
  returned_open journal old new opened given later = record {
    alike = alike old.disk new.disk opened.images given.images;
    later = record {
      disk = (let a = opened.count in let b = given.count in omega arith);
      rack = later;
      keeps = keeps old.disk new.disk opened.keeps given.keeps;
    };
  }
    where
      alike : (before now : Option D) → IfSome before (λ b. IsTrue (by.keeps_synced b) → RecoverAlike (by.may_leave b) (by.may_leave journal.disk))
          → IfSome now (λ d. (c : List ℕ) → by.may_leave d c → by.may_leave journal.disk c)
          → IfSome before (λ b. IfSome now (λ d. IsTrue (by.keeps_synced b) → RecoverAlike (by.may_leave b) (by.may_leave d)))
      alike None now a b = tt
      alike (Some before) None a b = tt
      alike (Some before) (Some now) a b = λ synced c image. a synced c (b c image)

      keeps : (before now : Option D) → IfSome before (λ b. by.keeps_synced journal.disk ≡ by.keeps_synced b) → IfSome now (λ d. by.keeps_synced d ≡ by.keeps_synced journal.disk)
          → IfSome before (λ b. IfSome now (λ d. by.keeps_synced d ≡ by.keeps_synced b))
      keeps None now a c = tt
      keeps (Some before) None a c = tt
      keeps (Some before) (Some now) a c = c ∙ a

  -- a disk that was lent and could not be read lies there again
  pub returned_unread : (lent back : D) (old new : Lying D) → IfSome old.disk (λ there. lent ≡ there) → by.faults lent ≡ old.disk_faults
      → (IsTrue (by.keeps_synced lent) → (c : List ℕ) → by.may_leave back c → AlikeImages (by.may_leave lent) c)
      → by.keeps_synced back ≡ by.keeps_synced lent → by.faults lent ≤ by.faults back
      → IfSome new.disk (IsLaidBack by.reads by.may_leave by.keeps_synced by.faults back) → new.disk_faults ≡ by.faults back
      → old.rack_faults ≤ new.rack_faults → IsReturned by old new
  returned_unread lent back old new was count images same later lies new_count rack = record {
    alike = alike old.disk new.disk was lies;
    later = record {
      disk = omega arith;
      rack = rack;
      keeps = keeps old.disk new.disk was lies;
    };
  }
    where
      alike : (before now : Option D) → IfSome before (λ there. lent ≡ there) → IfSome now (IsLaidBack by.reads by.may_leave by.keeps_synced by.faults back)
          → IfSome before (λ b. IfSome now (λ d. IsTrue (by.keeps_synced b) → RecoverAlike (by.may_leave b) (by.may_leave d)))
      alike None now a b = tt
      alike (Some before) None a b = tt
      alike (Some before) (Some now) a b =
          subst (λ (d : D). IsTrue (by.keeps_synced d) → RecoverAlike (by.may_leave d) (by.may_leave now)) a
          (λ synced c image. images synced c (b.images.no_other c image))

      keeps : (before now : Option D) → IfSome before (λ there. lent ≡ there) → IfSome now (IsLaidBack by.reads by.may_leave by.keeps_synced by.faults back)
          → IfSome before (λ b. IfSome now (λ d. by.keeps_synced d ≡ by.keeps_synced b))
      keeps None now a b = tt
      keeps (Some before) None a b = tt
      keeps (Some before) (Some now) a b = b.keeps ∙ same ∙ ap by.keeps_synced a

-- ---- lists

-- all were taken, one after another
pub taken_all : {A : Type 0} (xs all : List A) → map (λ (x : A). x) xs ≡ all → xs ≡ all
taken_all xs all e = sym (map-id xs) ∙ e

-- what stands in a list with one more: what stood there, or the last, at the end
pub in_pushed : {X : Type 0} (xs : List X) (x : X) (k : ℕ) (y : X) → slice_get (xs ++ x ∷ []) k ≡ Some y → (slice_get xs k ≡ Some y) ⊎ ((k ≡ length xs) × (x ≡ y))
in_pushed [] x zero y h = inr (refl, cc)
in_pushed [] x (suc k) y h = cc
in_pushed (z ∷ xs) x zero y h = inl h
in_pushed (z ∷ xs) x (suc k) y h = elim (in_pushed xs x k y h) [
  | inl e ↦ inl e
  | inr p ↦ inr (ap suc p.0, p.1)
]

-- a place of a list is below its length
pub place_within : {X : Type 0} (xs : List X) (k : ℕ) (x : X) → slice_get xs k ≡ Some x → k < length xs
place_within [] k x h = cc
place_within (y ∷ xs) zero x h = omega arith
place_within (y ∷ xs) (suc k) x h = let below = place_within xs k x h in omega (arith, below)

-- below the length there stands something
pub place_there : {X : Type 0} (xs : List X) (k : ℕ) → k < length xs → (x : X) × (slice_get xs k ≡ Some x)
place_there [] k lt = absurd (omega arith)
place_there (y ∷ xs) zero lt = (y, refl)
place_there (y ∷ xs) (suc k) lt = place_there xs k (omega arith)
