use Rattle.std.proofs.Common.{◌≤◌, ◌+◌, ◌++◌, ℕ, List, length, ap, ◌∙◌, arith, vec_len}
use Rattle.std.specs.Prelude.{vec_capacity}
use Rattle.record_frame.specs.Entries.{IsEntry, entry_of, entry_spelling}
use Rattle.record_frame.proofs.EntryLaws.{length-entry_spelling}
use Rattle.shard_replica.proofs.Submitting.{ok-where, spelled-written}
use Rattle.shard_replica.proofs.replica.submitting.spell.Goals as goal

pub returns-clause-entry : goal.returns-clause-entry
returns-clause-entry c =
    let entry = entry_of c.args.client c.args.number c.args.bytes.now in
    let is : IsEntry entry = record { client = c.widths.ensures.client; number = c.widths.ensures.number; size = c.requires.size; bytes = λ k. omega (arith, c.type_inv.bytes k) } in
    let size = length-entry_spelling entry in
    let fits : vec_len c.clear.new.self + length (entry_spelling entry) ≤ vec_capacity c.clear.new.self =
    omega (arith, size, c.clear.ensures.len, c.clear.ensures.capacity, c.requires.room) in
    let written = ok-where c.write_entry.result _ (c.write_entry.ensures.room fits) c.write_entry.ensures.ok
    ∙ ap (λ (bytes : List ℕ). bytes ++ entry_spelling entry) c.clear.ensures.items in
    let told = spelled-written entry c.write_entry.new.out.items is written in
    told.0

pub returns-clause-spelled : goal.returns-clause-spelled
returns-clause-spelled c =
    let entry = entry_of c.args.client c.args.number c.args.bytes.now in
    let is : IsEntry entry = record { client = c.widths.ensures.client; number = c.widths.ensures.number; size = c.requires.size; bytes = λ k. omega (arith, c.type_inv.bytes k) } in
    let size = length-entry_spelling entry in
    let fits : vec_len c.clear.new.self + length (entry_spelling entry) ≤ vec_capacity c.clear.new.self =
    omega (arith, size, c.clear.ensures.len, c.clear.ensures.capacity, c.requires.room) in
    let written = ok-where c.write_entry.result _ (c.write_entry.ensures.room fits) c.write_entry.ensures.ok
    ∙ ap (λ (bytes : List ℕ). bytes ++ entry_spelling entry) c.clear.ensures.items in
    let told = spelled-written entry c.write_entry.new.out.items is written in
    told.1

pub returns-clause-size : goal.returns-clause-size
returns-clause-size c =
    let entry = entry_of c.args.client c.args.number c.args.bytes.now in
    let is : IsEntry entry = record { client = c.widths.ensures.client; number = c.widths.ensures.number; size = c.requires.size; bytes = λ k. omega (arith, c.type_inv.bytes k) } in
    let size = length-entry_spelling entry in
    let fits : vec_len c.clear.new.self + length (entry_spelling entry) ≤ vec_capacity c.clear.new.self =
    omega (arith, size, c.clear.ensures.len, c.clear.ensures.capacity, c.requires.room) in
    let written = ok-where c.write_entry.result _ (c.write_entry.ensures.room fits) c.write_entry.ensures.ok
    ∙ ap (λ (bytes : List ℕ). bytes ++ entry_spelling entry) c.clear.ensures.items in
    let told = spelled-written entry c.write_entry.new.out.items is written in
    omega (arith, told.2)
