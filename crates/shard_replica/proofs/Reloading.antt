-- Reloading journals one after another.
use Rattle.std.proofs.Common.{◌≡◌, ◌≢◌, ℕ, ◌+◌, ◌<◌, ◌≤◌, Bool, List, map, length, set, Option, None, Some, refl, sym, ap, ◌∙◌, subst, ⊎_elim, arith}
use Rattle.std.specs.Prelude.{Result, Ok, Err, OnOk, OnErr, IfSome, IsTrue, IsErrOf, unwrap_or}
use Rattle.std.proofs.lemmas.List.{map-set, length-map, get_or-set_same}
use Rattle.log_base.specs.Outside.{Rose}
use Rattle.segment_journal.specs.Journalled.{Journalled, Turns, with_reload, IsReloaded}
use Rattle.segment_journal.specs.declared.journal.Installed.{Installed}
use Rattle.segment_journal.specs.declared.journal.Installed.TheVariants.{Failed, OneMore, Same}
use Rattle.segment_journal.specs.declared.journal.OpenFault.{OpenFault}
use Rattle.segment_journal.specs.declared.journal.OpenFault.TheVariants.{Failed as NotRead, Damaged, Memory}
use Rattle.shard_replica.specs.Journals.{IsKnown, unread}
use Rattle.shard_replica.specs.Lists.{Medium, medium_of, medium_at, no_medium, IsRead, ReloadsAll}
use Rattle.shard_replica.proofs.Each.{step-seen}

-- what reloading one journal came to
pub record Reloads (result : Result (Unit {0}) OpenFault) (s s' : Journalled) (f f' : ℕ) (b b' : Bool) (t : Option Turns) : Type 0 where
  pub ok : OnOk result (IsReloaded s s')
  pub err : OnErr result (s' ≡ with_reload s Failed)
  pub later : f ≤ f'
  pub failed : IsErrOf result NotRead → Rose f f'
  pub damaged : IsTrue b → (at : ℕ) → result ≢ Err (Damaged at)
  pub keeps : b' ≡ b
  pub turn : IfSome t (λ (turn : Turns). result ≢ Err Memory → s' ≡ with_reload s turn.reload)

-- how far the media are reloaded: those before an index are read, and those from it on are as before
abbrev pub Reloading : ℕ → List Medium → ℕ → Medium → Type 0
Reloading i old k m =
    (m.room ≡ (medium_at old k).room) × (m.keeps_synced ≡ (medium_at old k).keeps_synced) × ((medium_at old k).faults ≤ m.faults)
    × (k < i → IsRead (medium_at old k) m) × (i ≤ k → m ≡ medium_at old k)

-- the fault of a result, where it has one
abbrev err_or : {A B : Type 0} → B → Result A B → B
err_or b (Ok x) = b
err_or b (Err e) = e

told_turn : (t : Option Turns) (result : Result (Unit {0}) OpenFault) (P : Turns → Type 0) → result ≢ Err Memory
    → IfSome t (λ (turn : Turns). result ≢ Err Memory → P turn) → IfSome t P
told_turn None result P other told = tt
told_turn (Some turn) result P other told = told other

same_turn : (t : Option Turns) (s s' : Journalled) (what : Installed) → s' ≡ with_reload s what
    → IfSome t (λ (turn : Turns). s' ≡ with_reload s turn.reload) → IfSome t (λ (turn : Turns). what ≡ turn.reload)
same_turn None s s' what is told = tt
same_turn (Some turn) s s' what is told = ap (λ (j : Journalled). unwrap_or j.reloaded Failed) (sym is ∙ told)

turn_failed : (t : Option Turns) (s s' : Journalled) → s' ≡ with_reload s Failed
    → IfSome t (λ (turn : Turns). s' ≡ with_reload s turn.reload) → IfSome t (λ (turn : Turns). turn.reload ≡ Failed)
turn_failed None s s' is told = tt
turn_failed (Some turn) s s' is told = ap (λ (j : Journalled). unwrap_or j.reloaded Failed) (sym told ∙ is)

-- a journal that was read is the same but for what the reload came to, and it is known what that is
pub read-same : (s s' : Journalled) → IsReloaded s s' → unread s' ≡ unread s
read-same s s' is = ⊎_elim (λ same. ap unread same) (λ more. ap unread more.1) is

pub read-known : (s s' : Journalled) → IsReloaded s s' → IsKnown s'
read-known s s' is =
    ⊎_elim
    (λ same. subst IsKnown (sym same) (record { came = refl; flight = λ more. absurd (cc) }))
    (λ more. subst IsKnown (sym more.1) (record { came = refl; flight = λ _. more.0 }))
    is

read-media : (s s' : Journalled) (f f' : ℕ) (b b' : Bool) (t t' : Option Turns) → Reloads (Ok tt) s s' f f' b b' t
    → IsRead (medium_of s f b t) (medium_of s' f' b' t')
read-media s s' f f' b b' t t' reloads =
    let told = told_turn t (Ok tt) (λ (turn : Turns). s' ≡ with_reload s turn.reload) (λ e. absurd (cc)) reloads.turn in
    ⊎_elim
    (λ same. record { came = Same; is = ap (λ (j : Journalled). j.reloaded) same; good = λ e. absurd (cc); turn = same_turn t s s' Same same told })
    (λ more. record { came = OneMore; is = ap (λ (j : Journalled). j.reloaded) more.1; good = λ e. absurd (cc); turn = same_turn t s s' OneMore more.1 told })
    reloads.ok

same_room : (s s' : Journalled) → unread s' ≡ unread s → unwrap_or s'.room 0 ≡ unwrap_or s.room 0
same_room s s' same = ap (λ (j : Journalled). unwrap_or j.room 0) same

-- one journal more is read
pub reloading-on : {X : Type 0} (told : X → Medium) (items : List X) (at : ℕ) (new : X) (old : List Medium) (s s' : Journalled) (f f' : ℕ) (b b' : Bool) (t t' : Option Turns)
    → at < length items → medium_at old at ≡ medium_of s f b t → told new ≡ medium_of s' f' b' t' → Reloads (Ok tt) s s' f f' b b' t
    → ((k : ℕ) → Reloading at old k (medium_at (map told items) k)) → (k : ℕ) → Reloading (at + 1) old k (medium_at (map told (set items at new)) k)
reloading-on told items at new old s s' f f' b b' t t' lt is is' reloads each =
    step-seen told (Reloading at old) (Reloading (at + 1) old) items at new no_medium lt each
    (λ k m other here. (here.0, here.1, here.2, (λ within. here.3 (omega arith)), (λ past. here.4 (omega arith))))
    (subst (λ (m : Medium). Reloading (at + 1) old at m) (sym is')
    (subst (λ (m : Medium). (unwrap_or s'.room 0 ≡ m.room) × (b' ≡ m.keeps_synced) × (m.faults ≤ f')
    × (at < at + 1 → IsRead m (medium_of s' f' b' t')) × (at + 1 ≤ at → medium_of s' f' b' t' ≡ m)) (sym is)
    (same_room s s' (read-same s s' reloads.ok), reloads.keeps, reloads.later, (λ _. read-media s s' f f' b b' t t' reloads), (λ past. absurd (omega arith)))))

-- all are read
pub reloaded-all : (old new : List Medium) → length new ≡ length old → (n : ℕ) → length old ≤ n → ((k : ℕ) → Reloading n old k (medium_at new k)) → ReloadsAll (Ok tt) old new
reloaded-all old new size n all each = record {
  room = λ k. (each k).0;
  keeps_synced = λ k. (each k).1;
  later = λ k. (each k).2;
  read = λ k within. (each k).3 (omega arith);
  cause = λ e. absurd (cc);
  damaged = λ keeps at e. absurd (cc);
  turn = λ fault e other. absurd (cc);
}

err_same : (r : Result (Unit {0}) OpenFault) (other : OpenFault) → r ≡ Err Memory → r ≡ Err other → other ≡ Memory
err_same r other memory same = ap (λ (x : Result (Unit {0}) OpenFault). err_or Memory x) (sym same ∙ memory)

-- it ends at a journal that is not read
pub reload-ended : {X : Type 0} (told : X → Medium) (items : List X) (at : ℕ) (new : X) (old : List Medium) (fault : OpenFault) (s s' : Journalled) (f f' : ℕ) (b b' : Bool) (t t' : Option Turns)
    → at < length items → length items ≡ length old → medium_at old at ≡ medium_of s f b t → told new ≡ medium_of s' f' b' t' → Reloads (Err fault) s s' f f' b b' t
    → ((k : ℕ) → Reloading at old k (medium_at (map told items) k)) → ReloadsAll (Err fault) old (map told (set items at new))
reload-ended told items at new old fault s s' f f' b b' t t' lt size is is' reloads each =
    let Kept : ℕ → Medium → Type 0 = λ k m. (m.room ≡ (medium_at old k).room) × (m.keeps_synced ≡ (medium_at old k).keeps_synced) × ((medium_at old k).faults ≤ m.faults) in
    let kept : (k : ℕ) → Kept k (medium_at (map told (set items at new)) k) =
    step-seen told (Reloading at old) Kept items at new no_medium lt each
    (λ k m other here. (here.0, here.1, here.2))
    (subst (λ (m : Medium). Kept at m) (sym is')
    (subst (λ (m : Medium). (unwrap_or s'.room 0 ≡ m.room) × (b' ≡ m.keeps_synced) × (m.faults ≤ f')) (sym is)
    (same_room s s' (ap unread reloads.err), reloads.keeps, reloads.later))) in
    let there : medium_at (map told (set items at new)) at ≡ medium_of s' f' b' t' =
    ap (λ (ms : List Medium). medium_at ms at) (map-set told items at new)
    ∙ get_or-set_same (map told items) at (told new) no_medium (subst (λ (n : ℕ). at < n) (sym (length-map items told)) lt) ∙ is' in
    record {
      room = λ k. (kept k).0;
      keeps_synced = λ k. (kept k).1;
      later = λ k. (kept k).2;
      read = tt;
      cause = λ e. (
        at,
        subst (λ (m : Medium). Rose m.faults (medium_at (map told (set items at new)) at).faults) (sym is)
            (subst (λ (m : Medium). Rose f m.faults) (sym there) (reloads.failed e)),
      );
      damaged = λ keeps. reloads.damaged (subst (λ (m : Medium). IsTrue m.keeps_synced) is (keeps at));
      turn = λ other e not_memory. (
        at,
        subst (λ (n : ℕ). at < n) size lt,
        subst (λ (m : Medium). IfSome m.turns (λ (turn : Turns). turn.reload ≡ Failed)) (sym is)
            (turn_failed t s s' reloads.err (told_turn t (Err fault) (λ (turn : Turns). s' ≡ with_reload s turn.reload) (λ same. not_memory (err_same (Err fault) other same e)) reloads.turn)),
      );
    }
