-- The letters of a replica are good, where its lists are these.
use Rattle.std.proofs.Common.{◌≡◌, ◌≢◌, ◌+◌, ◌%◌, ◌<◌, ◌≤◌, ℕ, zero, suc, cond, ◌==◌, List, [], ◌∷◌, length, slice_get, Option, Some, None, refl, sym, ap, subst, arith, ◌∙◌}
use Rattle.std.specs.Prelude.{slice_index}
use Rattle.std.proofs.lemmas.Bool.{cond_both, eqb-false}
use Rattle.std.proofs.lemmas.Option.{slice_get_within}
use Rattle.log_base.specs.ClusterShape.{InRange, Shape}
use Rattle.log_model.specs.Storage.{list_in, list_limit, report_of}
use Rattle.node_table.specs.declared.role.Role.{Role}
use Rattle.node_table.specs.declared.role.Role.TheVariants.{Storage, Gatherer, Orderer}
use Rattle.node_table.specs.Numbering.{storage_node}
use Rattle.node_table.proofs.Roles.{node_of-lt, role_at-node_of}
use Rattle.paxos_model.specs.Leader.{slot_limit}
use Rattle.peer_copy.specs.Copying.{Copying, offsets_of, window_at}
use Rattle.record_frame.specs.declared.entries.Entry.{Entry}
use Rattle.node_model.specs.Messages.{copied_message, copy_message, report_message, want_message}
use Rattle.node_model.specs.StorageNode.{Replica, member_of}
use Rattle.node_model.specs.StorageRow.{ack, copies, copy_letter, report, want, windows}
use Rattle.safety_law.specs.Letters.{AreGoodLetters, AreHeldBy, IsGoodLetter, IsLearner}
use Rattle.safety_law.specs.Lists.{AreCopies, IsCopied, Lists}
use Rattle.safety_law.proofs.Reports.{report_at, report_count, report_range}
use Rattle.safety_law.proofs.Sending.{both_sent, letter_to, none_sent, one_sent}

-- the lists of a replica among those of all: where they stand, and how many there are
pub record IsAt (config : Shape) (lists : Lists) (s r : ℕ) (own : List (List Entry)) : Type 0 where
  pub shard : s < config.shards
  pub replica : r < config.replicas
  pub here : (j : ℕ) → lists s r j ≡ list_in own j
  pub size : length own ≡ config.replicas

-- the role of a replica
abbrev pub as_role : ℕ → ℕ → Role
as_role s r = Storage (record { 0 = s }) (record { 0 = r })

pub gatherer_below : (config : Shape) (s : ℕ) → InRange config → s % config.gatherers < config.gatherers
gatherer_below config s range = let some = range.some_gatherer in omega arith

pub orderer_below : (config : Shape) (n : ℕ) → InRange config → n % config.orderers < config.orderers
orderer_below config n range =
    let odd = range.odd in
    let some : 1 ≤ config.orderers = omega arith in
    omega arith

module _ (config : Shape) (range : InRange config) (lists : Lists) (copied : AreCopies config lists) (s r : ℕ) (own : List (List Entry)) (at : IsAt config lists s r own) where
  few_of : (j : ℕ) → j < config.replicas → length (list_in own j) ≤ list_limit
  few_of j below =
      subst (λ (l : List Entry). length l ≤ list_limit) (at.here j)
      (copied s r j (record { shard_below = at.shard; replica_below = at.replica; segment_below = below })).few

  held_here : AreHeldBy config lists s r (report_of own)
  held_here j below = let e = ap length (at.here j) in omega (arith, report_at own j, e)

  pub report_good : IsGoodLetter config lists (report config (member_of config s r) own)
  report_good = letter_to config lists (Gatherer (s % config.gatherers)) (report_message s r (report_of own)) (gatherer_below config s range) (record {
    named = refl;
    range = (
      omega (arith, at.shard, range.shards),
      omega (arith, at.replica, range.replicas),
      report_range own (omega (arith, at.size, range.some_replica)) (omega (arith, at.size, range.replicas)) (λ k below. few_of k (omega (arith, at.size, below))),
    );
    of_config = (at.shard, at.replica, report_count own ∙ at.size);
    truth = held_here;
  })

  pub ack_good : (segment : ℕ) → segment < config.replicas → segment ≢ r → IsGoodLetter config lists (ack config (member_of config s r) segment own)
  ack_good segment below other = letter_to config lists (as_role s segment) (copied_message r (length (list_in own segment))) (at.shard, below) (record {
    named = refl;
    range = (omega (arith, at.replica, range.replicas), few_of segment below);
    of_config = at.replica;
    truth = (λ e. other (sym e), let e = ap length (at.here segment) in omega (arith, e));
  })

  copy_good : (peer offset : ℕ) (o : Option Entry) → peer < config.replicas → peer ≢ r → slice_get (list_in own r) offset ≡ o
      → AreGoodLetters config lists (copy_letter config (member_of config s r) peer offset o)
  copy_good peer offset None below other e = none_sent config lists
  copy_good peer offset (Some entry) below other e =
      one_sent config lists _
      (letter_to config lists (as_role s peer) (copy_message r offset entry) (at.shard, below) (record {
        named = refl;
        range = (
          omega (arith, at.replica, range.replicas),
          (let few = few_of r at.replica in let within = slice_get_within (list_in own r) offset entry e in omega arith),
          here_copied.entries offset entry found,
        );
        of_config = at.replica;
        truth = (λ same. other (sym same), found);
      }))
    where
      here_copied : IsCopied lists s r r
      here_copied = copied s r r (record { shard_below = at.shard; replica_below = at.replica; segment_below = at.replica })

      found : slice_get (lists s r r) offset ≡ Some entry
      found = subst (λ (l : List Entry). slice_get l offset ≡ Some entry) (sym (at.here r)) e

  pub copies_good : (peer : ℕ) (offsets : List ℕ) → peer < config.replicas → peer ≢ r
      → AreGoodLetters config lists (copies config (member_of config s r) (list_in own r) peer offsets)
  copies_good peer [] below other = none_sent config lists
  copies_good peer (offset ∷ offsets) below other =
      both_sent config lists (copy_letter config (member_of config s r) peer offset (slice_get (list_in own r) offset)) (copies config (member_of config s r) (list_in own r) peer offsets)
      (copy_good peer offset (slice_get (list_in own r) offset) below other refl)
      (copies_good peer offsets below other)

  pub windows_good : (copying : Copying) (peer count : ℕ) → peer + count ≤ config.replicas
      → AreGoodLetters config lists (windows config (member_of config s r) (list_in own r) copying peer count)
  windows_good copying peer zero below = none_sent config lists
  windows_good copying peer (suc count) below =
      both_sent config lists
      (cond (peer == r) [] (copies config (member_of config s r) (list_in own r) peer (offsets_of (window_at (slice_index copying.acked peer) (length (list_in own r))))))
      (windows config (member_of config s r) (list_in own r) copying (suc peer) count)
      (cond_both (peer == r) [] (copies config (member_of config s r) (list_in own r) peer (offsets_of (window_at (slice_index copying.acked peer) (length (list_in own r)))))
      (AreGoodLetters config lists) (λ e. none_sent config lists)
      (λ e. copies_good peer (offsets_of (window_at (slice_index copying.acked peer) (length (list_in own r)))) (omega arith) (eqb-false peer r e)))
      (windows_good copying (suc peer) count (omega arith))

  pub want_good : (memory : Replica) → memory.known.count ≤ slot_limit → IsGoodLetter config lists (want config (member_of config s r) memory)
  want_good memory few = letter_to config lists (Orderer (memory.ticks % config.orderers)) (want_message memory.known.count (storage_node config s r)) (orderer_below config memory.ticks range) (record {
    named = refl;
    range = (few, (let inside = node_of-lt config (as_role s r) (at.shard, at.replica) in let small = range.segments in let o = range.orderers in let g = range.gatherers in omega arith));
    of_config = node_of-lt config (as_role s r) (at.shard, at.replica);
    truth = subst IsLearner (sym (role_at-node_of config (as_role s r) (at.shard, at.replica))) tt;
  })
